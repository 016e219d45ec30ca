-- Where two productions begin alike: the next token but one decides.
use Rattle.std.proofs.Common.{◌≡◌, ℕ, Bool, true, false, cond, List, [], ◌∷◌, ◌++◌, map, drop, sym, refl, ap, ◌∙◌, subst, append-nil, nat_le}
use Rattle.slint_lexer.specs.declared.tokens.Token.{Token}
use Rattle.slint_grammar.specs.Grammar.{Terminal, one}
use Rattle.slint_grammar.specs.Derivations.{Class, class_of, fits, deepest_token}
use Rattle.slint_grammar.specs.Stacks.{Stack, Left, onto, after, run}
use Rattle.slint_parser.specs.Readings.{seen, seen_of, at}
use Rattle.slint_parser.proofs.Joining.{seen_same, seen_not_end}
use Rattle.slint_grammar.proofs.Steps.{Lost, lost_left, lost_right, step, stop}

two : Stack → Stack → Bool → List Left
two x y w = (x, w) ∷ (y, w) ∷ []

-- the first of two stacks behind a token
first_of_two : (t : Token) (r : List Token) (a b x y : Stack) (w : Bool) → after (class_of t.kind) a true ≡ (x, w) ∷ (y, w) ∷ [] → after (class_of t.kind) b true ≡ (x, w) ∷ [] → Lost r ((y, true) ∷ []) → run (t ∷ r) (at a) ≡ run (t ∷ r) (at b)
first_of_two t r a b x y true e f lost =
    step t r (at a) ((x, true) ∷ (y, true) ∷ []) (append-nil (after (class_of t.kind) a true) ∙ e) refl ∙ lost_right r ((x, true) ∷ []) ((y, true) ∷ []) lost
    ∙ sym (step t r (at b) ((x, true) ∷ []) (append-nil (after (class_of t.kind) b true) ∙ f) refl)
first_of_two t r a b x y false e f lost =
    stop t r (at a) ((x, false) ∷ (y, false) ∷ []) (append-nil (after (class_of t.kind) a true) ∙ e) refl
    ∙ sym (stop t r (at b) ((x, false) ∷ []) (append-nil (after (class_of t.kind) b true) ∙ f) refl)

second_of_two : (t : Token) (r : List Token) (a b x y : Stack) (w : Bool) → after (class_of t.kind) a true ≡ (x, w) ∷ (y, w) ∷ [] → after (class_of t.kind) b true ≡ (y, w) ∷ [] → Lost r ((x, true) ∷ []) → run (t ∷ r) (at a) ≡ run (t ∷ r) (at b)
second_of_two t r a b x y true e f lost =
    step t r (at a) ((x, true) ∷ (y, true) ∷ []) (append-nil (after (class_of t.kind) a true) ∙ e) refl ∙ lost_left r ((x, true) ∷ []) ((y, true) ∷ []) lost
    ∙ sym (step t r (at b) ((y, true) ∷ []) (append-nil (after (class_of t.kind) b true) ∙ f) refl)
second_of_two t r a b x y false e f lost =
    stop t r (at a) ((x, false) ∷ (y, false) ∷ []) (append-nil (after (class_of t.kind) a true) ∙ e) refl
    ∙ sym (stop t r (at b) ((y, false) ∷ []) (append-nil (after (class_of t.kind) b true) ∙ f) refl)

pub pick_first : (c : Class) (s : List Token) (a b x y : Stack) (w : Bool) → seen s ≡ seen_of c → after c a true ≡ (x, w) ∷ (y, w) ∷ [] → after c b true ≡ (x, w) ∷ [] → Lost (drop 1 s) ((y, true) ∷ []) → run s (at a) ≡ run s (at b)
pick_first c [] a b x y w h e f lost = absurd (seen_not_end c h)
pick_first c (t ∷ r) a b x y w h e f lost =
    let P : Class → Type 0 = λ z. after z a true ≡ (x, w) ∷ (y, w) ∷ [] in
    let Q : Class → Type 0 = λ z. after z b true ≡ (x, w) ∷ [] in
    let same_class = sym (seen_same (class_of t.kind) c h) in
    first_of_two t r a b x y w (subst P same_class e) (subst Q same_class f) lost

pub pick_second : (c : Class) (s : List Token) (a b x y : Stack) (w : Bool) → seen s ≡ seen_of c → after c a true ≡ (x, w) ∷ (y, w) ∷ [] → after c b true ≡ (y, w) ∷ [] → Lost (drop 1 s) ((x, true) ∷ []) → run s (at a) ≡ run s (at b)
pick_second c [] a b x y w h e f lost = absurd (seen_not_end c h)
pick_second c (t ∷ r) a b x y w h e f lost =
    let P : Class → Type 0 = λ z. after z a true ≡ (x, w) ∷ (y, w) ∷ [] in
    let Q : Class → Type 0 = λ z. after z b true ≡ (y, w) ∷ [] in
    let same_class = sym (seen_same (class_of t.kind) c h) in
    second_of_two t r a b x y w (subst P same_class e) (subst Q same_class f) lost

-- a stack that wants a token which isn't there
pub lost_one : (t : Terminal) (d : ℕ) (ps : Stack) (r : List Token) → ((token : Token) (rest : List Token) → r ≡ token ∷ rest → fits t (class_of token.kind) ≡ false) → Lost r (((one t, d) ∷ ps, true) ∷ [])
lost_one t d ps [] h = refl
lost_one t d ps (token ∷ rest) h = ap (λ z. (map (onto ps true) (cond z (([], nat_le d deepest_token) ∷ []) []) ++ []) ++ []) (h token rest refl)
