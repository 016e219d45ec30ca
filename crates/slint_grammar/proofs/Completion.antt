-- Each stack that is reached can be completed by some tokens, all of which are free.
use Rattle.std.proofs.Common.{◌≡◌, ℕ, zero, suc, ◌+◌, ◌≤◌, ◌<◌, Bool, true, false, cond, ◌&&◌, List, [], ◌∷◌, ◌++◌, map, length, nat_lt, refl, sym, subst, inr, le_trans, le_of_suc-le-suc, not-suc-le-zero, ltb-true, le_refl, append_assoc, length-append, le-add_left}
use Rattle.std.proofs.lemmas.Bool.{and_parts, and_from}
use Rattle.slint_lexer.specs.declared.tokens.Token.{Token}
use Rattle.slint_grammar.specs.Parts.{Part}
use Rattle.slint_grammar.specs.Grammar.{Terminal, Slot, one, same, deeper, Alt, slots}
use Rattle.slint_grammar.specs.Derivations.{Class, fits, Derives, by, Through, ends}
use Rattle.slint_grammar.specs.Stacks.{Stack, Left, at_depth, behind, through, each_alt, first, onto, longest_chain, alts_of, nullable_slot, after, afters}
use Rattle.slint_grammar.proofs.Sets.{EachOf, each_append, each_mapped}
use Rattle.slint_grammar.proofs.Tables.{kind_for, can_be, all_can_be, least, height, height_of, all_below, least_below, behind_first, tails_can_be}
use Rattle.slint_grammar.proofs.Spans.{Place, Spans, place_through}

-- ---- a part can be filled with tokens

abbrev token_for : Terminal → Token
token_for t = record { kind = kind_for t; span = record { file = 0; start = 0; end = 0 } }

abbrev Fills : Slot → Type 0
Fills x = (tokens : List Token) × ((free d : ℕ) (r : List Token) → length (tokens ++ r) ≤ free → Place free x d (tokens ++ r) r)

abbrev FillsAll : List Slot → Type 0
FillsAll xs = (tokens : List Token) × ((free d : ℕ) (r : List Token) → length (tokens ++ r) ≤ free → Through free xs d (tokens ++ r) r)

shorter_behind : (a s : List Token) (free : ℕ) → length (a ++ s) ≤ free → length s ≤ free
shorter_behind a s free l = le_trans (subst (λ z. length s ≤ z) (sym (length-append a s)) (le-add_left (length s) (length a))) l

fills_both : (x : Slot) (xs : List Slot) → Fills x → FillsAll xs → FillsAll (x ∷ xs)
fills_both x xs a b = (a.0 ++ b.0, filled)
  where
    filled : (free d : ℕ) (r : List Token) → length (a.0 ++ b.0 ++ r) ≤ free → Through free (x ∷ xs) d (a.0 ++ b.0 ++ r) r
    filled free d r l =
        let e : a.0 ++ b.0 ++ r ≡ a.0 ++ (b.0 ++ r) = append_assoc a.0 b.0 r in
        let l' : length (a.0 ++ (b.0 ++ r)) ≤ free = subst (λ z. length z ≤ free) e l in
        subst (λ z. Through free (x ∷ xs) d z r) (sym e)
        (place_through free x xs d (a.0 ++ (b.0 ++ r)) (b.0 ++ r) r (a.1 free d (b.0 ++ r) l') (b.1 free d r (shorter_behind a.0 (b.0 ++ r) free l')))

fills_each : (n k : ℕ) → ((x : Slot) → height_of x < n → can_be x ≡ true → Fills x) → k ≤ n → (xs : List Slot) → all_below k xs ≡ true → FillsAll xs
fills_each n k h l [] e = ([], λ free d r f. ends)
fills_each n k h l (x ∷ xs) e =
    let f = and_parts (nat_lt (height_of x) k && can_be x) (all_below k xs) e in
    let g = and_parts (nat_lt (height_of x) k) (can_be x) f.0 in
    fills_both x xs (h x (le_trans (ltb-true (height_of x) k g.0) l) g.1) (fills_each n k h l xs f.1)

fills_token : (t : Terminal) → can_be (one t) ≡ true → Fills (one t)
fills_token t e = (token_for t ∷ [], λ free d r l. record { token = token_for t; front = refl; fits_it = e; within = inr l })

fills_part : (n : ℕ) (p : Part) → ((x : Slot) → height_of x < n → can_be x ≡ true → Fills x) → height p ≤ n
    → (tokens : List Token) × ((free d : ℕ) (r : List Token) → length (tokens ++ r) ≤ free → Derives free p d (tokens ++ r) r)
fills_part n p h l =
    let f = fills_each n (height p) h l (slots (least p)) (least_below p) in
    (f.0, λ free d r g. by (least p) (f.1 free d r g))

fills_below : (n : ℕ) (x : Slot) → height_of x < n → can_be x ≡ true → Fills x
fills_below zero x l e = absurd (not-suc-le-zero l)
fills_below (suc n) (one t) l e = fills_token t e
fills_below (suc n) (same p) l e = fills_part n p (fills_below n) (le_of_suc-le-suc l)
fills_below (suc n) (deeper p) l e = let f = fills_part n p (fills_below n) (le_of_suc-le-suc l) in (f.0, λ free d r g. f.1 free (d + 1) r g)

pub fills : (x : Slot) → can_be x ≡ true → Fills x
fills x e = fills_below (suc (height_of x)) x (le_refl (suc (height_of x))) e

-- ---- stacks whose every place can be filled

abbrev pub stack_can_be : Stack → Bool
stack_can_be [] = true
stack_can_be (x ∷ ps) = can_be x.0 && stack_can_be ps

abbrev pub Fillable : Left → Type 0
Fillable left = stack_can_be left.0 ≡ true

pub completed : (ps : Stack) → stack_can_be ps ≡ true → (tokens : List Token) × ((free : ℕ) → length tokens ≤ free → Spans free ps tokens [])
completed [] e = ([], λ free l. refl)
completed (x ∷ ps) e = both (fills x.0 (and_parts (can_be x.0) (stack_can_be ps) e).0) (completed ps (and_parts (can_be x.0) (stack_can_be ps) e).1)
  where
    both : Fills x.0 → (tokens : List Token) × ((free : ℕ) → length tokens ≤ free → Spans free ps tokens [])
        → (tokens : List Token) × ((free : ℕ) → length tokens ≤ free → Spans free (x ∷ ps) tokens [])
    both a b = (a.0 ++ b.0, λ free l. (b.0, a.1 free x.1 b.0 l, b.1 free (shorter_behind a.0 b.0 free l)))

-- ---- what stays behind a token can be filled

fillable_depth : (d : ℕ) (xs : List Slot) → all_can_be xs ≡ true → stack_can_be (at_depth d xs) ≡ true
fillable_depth d [] e = refl
fillable_depth d (x ∷ xs) e = let f = and_parts (can_be x) (all_can_be xs) e in and_from (can_be x) (stack_can_be (at_depth d xs)) f.0 (fillable_depth d xs f.1)

fillable_append : (a b : Stack) → stack_can_be a ≡ true → stack_can_be b ≡ true → stack_can_be (a ++ b) ≡ true
fillable_append [] b e f = f
fillable_append (x ∷ a) b e f = let g = and_parts (can_be x.0) (stack_can_be a) e in and_from (can_be x.0) (stack_can_be (a ++ b)) g.0 (fillable_append a b g.1 f)

each_behind : (more : Stack) → stack_can_be more ≡ true → (lefts : List Left) → EachOf Fillable lefts → EachOf (λ l. Fillable (behind more l)) lefts
each_behind more e [] f = tt
each_behind more e (l ∷ lefts) f = (fillable_append l.0 more f.0 e, each_behind more e lefts f.1)

each_onto : (more : Stack) (w : Bool) → stack_can_be more ≡ true → (lefts : List Left) → EachOf Fillable lefts → EachOf (λ l. Fillable (onto more w l)) lefts
each_onto more w e [] f = tt
each_onto more w e (l ∷ lefts) f = (fillable_append l.0 more f.0 e, each_onto more w e lefts f.1)

each_if : (b : Bool) (lefts : List Left) → EachOf Fillable lefts → EachOf Fillable (cond b lefts [])
each_if true lefts e = e
each_if false lefts e = tt

tail_can_be : (xs : List Slot) → all_can_be xs ≡ true → all_can_be (behind_first xs) ≡ true
tail_can_be [] e = refl
tail_can_be (x ∷ xs) e = (and_parts (can_be x) (all_can_be xs) e).1

each_through : (f : Slot → ℕ → List Left) → ((x : Slot) (d : ℕ) → EachOf Fillable (f x d)) → (xs : List Slot) (d : ℕ) → all_can_be (behind_first xs) ≡ true → EachOf Fillable (through f xs d)
each_through f h [] d e = tt
each_through f h (x ∷ xs) d e =
    each_append Fillable (map (behind (at_depth d xs)) (f x d)) (cond (nullable_slot x) (through f xs d) [])
    (each_mapped (behind (at_depth d xs)) Fillable (f x d) (each_behind (at_depth d xs) (fillable_depth d xs e) (f x d) (h x d)))
    (each_if (nullable_slot x) (through f xs d) (each_through f h xs d (tail_can_be xs e)))

each_of_alts : {p : Part} (f : Slot → ℕ → List Left) → ((x : Slot) (d : ℕ) → EachOf Fillable (f x d)) → (some : List (Alt p)) (d : ℕ) → EachOf Fillable (each_alt f some d)
each_of_alts f h [] d = tt
each_of_alts f h (a ∷ some) d = each_append Fillable (through f (slots a) d) (each_alt f some d) (each_through f h (slots a) d (tails_can_be a)) (each_of_alts f h some d)

each_token : (b w : Bool) → EachOf Fillable (cond b (([], w) ∷ []) [])
each_token true w = (refl, tt)
each_token false w = tt

each_first : (n : ℕ) (c : Class) (x : Slot) (d : ℕ) → EachOf Fillable (first n c x d)
each_first zero c x d = tt
each_first (suc n) c (one t) d = each_token (fits t c) _
each_first (suc n) c (same p) d = each_of_alts (first n c) (each_first n c) (alts_of p) d
each_first (suc n) c (deeper p) d = each_of_alts (first n c) (each_first n c) (alts_of p) (d + 1)

each_after : (c : Class) (ps : Stack) (w : Bool) → stack_can_be ps ≡ true → EachOf Fillable (after c ps w)
each_after c [] w e = tt
each_after c (x ∷ ps) w e =
    let f = (and_parts (can_be x.0) (stack_can_be ps) e).1 in
    each_append Fillable (map (onto ps w) (first longest_chain c x.0 x.1)) (cond (nullable_slot x.0) (after c ps w) [])
    (each_mapped (onto ps w) Fillable (first longest_chain c x.0 x.1) (each_onto ps w f (first longest_chain c x.0 x.1) (each_first longest_chain c x.0 x.1)))
    (each_if (nullable_slot x.0) (after c ps w) (each_after c ps w f))

pub each_afters : (c : Class) (now : List Left) → EachOf Fillable now → EachOf Fillable (afters c now)
each_afters c [] e = tt
each_afters c (l ∷ now) e = each_append Fillable (after c l.0 l.1) (afters c now) (each_after c l.0 l.1 e.0) (each_afters c now e.1)
