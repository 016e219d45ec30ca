-- Three tokens tell the productions of a part apart, and the token behind a part whether it goes on: both are computed from the table.
use Rattle.std.proofs.Common.{◌≡◌, ℕ, zero, suc, Bool, true, false, ◌&&◌, IsTrue, List, [], ◌∷◌, ◌⊎◌, inl, inr, ⊎_elim, refl, sym, ◌∙◌, ap, subst}
use Rattle.slint_lexer.specs.declared.tokens.Token.{Token}
use Rattle.slint_grammar.specs.Parts.{Part, Stmts, Open, Anywhere, InValue, InRun}
use Rattle.slint_grammar.specs.Grammar.{Terminal, Slot, one, same, deeper, Alt, slots}
use Rattle.slint_grammar.specs.Derivations.{class_of, fits}
use Rattle.slint_grammar.specs.Stacks.{alts_of}
use Rattle.slint_grammar.proofs.Terminals.{no, and_left, and_right, disjoint, disjoint-fits, covered, all_covered, all_disjoint, none_fits, covered-fails, all_covered-none, all_disjoint-none}
use Rattle.slint_grammar.proofs.Members.{IsMember}
use Rattle.slint_grammar.proofs.Heads.{Accepts, Head, Ended, Unknown, Begins, heads, deepest_head, BeginsSo, has_head}
use Rattle.slint_grammar.proofs.GoesOn.{goes_on}

-- the next token is none of these
abbrev pub Okay : List Terminal → List Token → Type 0
Okay fs [] = Unit {0}
Okay fs (token ∷ r) = IsTrue (none_fits fs (class_of token.kind))

front_or : Token → List Token → Token
front_or z [] = z
front_or z (x ∷ xs) = x

rest_of : List Token → List Token
rest_of [] = []
rest_of (x ∷ xs) = xs

pub same_front : (x y : Token) (xs ys : List Token) → x ∷ xs ≡ y ∷ ys → x ≡ y
unfolding front_or
same_front x y xs ys e = ap (front_or x) e

pub same_rest : (x y : Token) (xs ys : List Token) → x ∷ xs ≡ y ∷ ys → xs ≡ ys
unfolding rest_of
same_rest x y xs ys e = ap rest_of e

-- the second is looked at only where the first doesn't hold
abbrev or_else : Bool → (Unit {0} → Bool) → Bool
or_else true f = true
or_else false f = f tt

or_else-each : (b : Bool) (f : Unit {0} → Bool) → IsTrue (or_else b f) → IsTrue b ⊎ IsTrue (f tt)
or_else-each true f h = inl refl
or_else-each false f h = inr h

abbrev each_with : (Head → Head → Bool) → Head → List Head → Bool
each_with f h [] = true
each_with f h (g ∷ gs) = f h g && each_with f h gs

abbrev each_pair : (Head → Head → Bool) → List Head → List Head → Bool
each_pair f [] gs = true
each_pair f (h ∷ hs) gs = each_with f h gs && each_pair f hs gs

each_with-holds : (f : Head → Head → Bool) (h g : Head) (gs : List Head) → IsTrue (each_with f h gs) → IsMember g gs → IsTrue (f h g)
each_with-holds f h g [] k m = absurd m
each_with-holds f h g (x ∷ gs) k (inl e) = rw e (and_left _ _ k)
each_with-holds f h g (x ∷ gs) k (inr m) = each_with-holds f h g gs (and_right _ _ k) m

each_pair-holds : (f : Head → Head → Bool) (h g : Head) (hs gs : List Head) → IsTrue (each_pair f hs gs) → IsMember h hs → IsMember g gs → IsTrue (f h g)
each_pair-holds f h g [] gs k m n = absurd m
each_pair-holds f h g (x ∷ hs) gs k (inl e) n = rw e (each_with-holds f x g gs (and_left _ _ k) n)
each_pair-holds f h g (x ∷ hs) gs k (inr m) n = each_pair-holds f h g hs gs (and_right _ _ k) m n

-- two ways to begin that no tokens have both, where what follows is none of these
abbrev clash : List Terminal → (List Slot → List Slot → Bool) → Head → Head → Bool
clash fs more Ended (Begins t xs) = covered t fs
clash fs more (Begins t xs) Ended = covered t fs
clash fs more (Begins t xs) (Begins u ys) = or_else (disjoint t u) (λ _. more xs ys)
clash fs more _ _ = false

abbrev pub apart : ℕ → List Terminal → List Slot → List Slot → Bool
apart zero fs xs ys = false
apart (suc k) fs xs ys = each_pair (clash fs (apart k fs)) (heads deepest_head xs) (heads deepest_head ys)

ended_fails : (fs : List Terminal) (t : Terminal) (token : Token) (r m : List Token) → IsTrue (covered t fs) → Okay fs r → r ≡ token ∷ m → IsTrue (fits t (class_of token.kind)) → ⊥
ended_fails fs t token r m h k e a = covered-fails t fs (class_of token.kind) h (subst (Okay fs) e k) a

-- what is asked of the places behind equal first tokens
abbrev Apart : List Terminal → (List Slot → List Slot → Bool) → Type 0
Apart fs more = (xs ys : List Slot) (s r r' : List Token) → IsTrue (more xs ys) → Accepts xs s r → Accepts ys s r' → Okay fs r → Okay fs r' → ⊥

clash_fails : (fs : List Terminal) (more : List Slot → List Slot → Bool) → Apart fs more → (h g : Head) (s r r' : List Token) → IsTrue (clash fs more h g)
    → BeginsSo h s r → BeginsSo g s r' → Okay fs r → Okay fs r' → ⊥
clash_fails fs more f Ended (Begins t xs) s r r' h a b k l = ended_fails fs t b.0 r b.1 h k (sym a ∙ b.2) b.3
clash_fails fs more f (Begins t xs) Ended s r r' h a b k l = ended_fails fs t a.0 r' a.1 h l (sym b ∙ a.2) a.3
clash_fails fs more f (Begins t xs) (Begins u ys) s r r' h a b k l =
    let front : a.0 ≡ b.0 = same_front _ _ a.1 b.1 (sym a.2 ∙ b.2) in
    let rest : a.1 ≡ b.1 = same_rest a.0 b.0 _ _ (sym a.2 ∙ b.2) in
    ⊎_elim (λ d. disjoint-fits t u (class_of b.0.kind) d (subst (λ z. IsTrue (fits t (class_of z.kind))) front a.3) b.3)
    (λ d. f xs ys b.1 r r' d (subst (λ z. Accepts xs z r) rest a.4) b.4 k l) (or_else-each (disjoint t u) (λ _. more xs ys) h)
clash_fails fs more f Ended Ended s r r' h a b k l = no h
clash_fails fs more f Ended Unknown s r r' h a b k l = no h
clash_fails fs more f Unknown _ s r r' h a b k l = no h
clash_fails fs more f (Begins t xs) Unknown s r r' h a b k l = no h

pub apart-fails : (k : ℕ) (fs : List Terminal) → Apart fs (apart k fs)
apart-fails zero fs xs ys s r r' h x y a b = no h
apart-fails (suc k) fs xs ys s r r' h x y a b =
    let p = has_head deepest_head x in
    let q = has_head deepest_head y in
    clash_fails fs (apart k fs) (apart-fails k fs) p.0 q.0 s r r'
    (each_pair-holds (clash fs (apart k fs)) p.0 q.0 (heads deepest_head xs) (heads deepest_head ys) h p.1 q.1) p.2 q.2 a b

-- where places begin so, a part that these go on with has ended
abbrev ends_behind : List Terminal → List Terminal → Head → Bool
ends_behind gs fs Ended = all_covered gs fs
ends_behind gs fs Unknown = false
ends_behind gs fs (Begins t ys) = all_disjoint t gs

abbrev each_ends : List Terminal → List Terminal → List Head → Bool
each_ends gs fs [] = true
each_ends gs fs (h ∷ hs) = ends_behind gs fs h && each_ends gs fs hs

-- these places stand behind a part that goes on with the first tokens, in a part that goes on with the second ones
abbrev pub follows : List Terminal → List Terminal → List Slot → Bool
follows [] fs xs = true
follows (g ∷ gs) fs xs = each_ends (g ∷ gs) fs (heads deepest_head xs)

each_ends-holds : (gs fs : List Terminal) (h : Head) (hs : List Head) → IsTrue (each_ends gs fs hs) → IsMember h hs → IsTrue (ends_behind gs fs h)
each_ends-holds gs fs h [] k m = absurd m
each_ends-holds gs fs h (x ∷ hs) k (inl e) = rw e (and_left _ _ k)
each_ends-holds gs fs h (x ∷ hs) k (inr m) = each_ends-holds gs fs h hs (and_right _ _ k) m

okay_more : (gs fs : List Terminal) (r : List Token) → IsTrue (all_covered gs fs) → Okay fs r → Okay gs r
okay_more gs fs [] h k = tt
okay_more gs fs (token ∷ r) h k = all_covered-none gs fs (class_of token.kind) h k

okay_head : (gs fs : List Terminal) (h : Head) (s r : List Token) → IsTrue (ends_behind gs fs h) → BeginsSo h s r → Okay fs r → Okay gs s
okay_head gs fs Ended s r h e k = subst (Okay gs) (sym e) (okay_more gs fs r h k)
okay_head gs fs Unknown s r h e k = no h
okay_head gs fs (Begins t ys) s r h e k = subst (Okay gs) (sym e.2) (all_disjoint-none t gs (class_of e.0.kind) h e.3)

okay_none : (s : List Token) → Okay [] s
okay_none [] = tt
okay_none (token ∷ s) = refl

pub follows-okay : (gs fs : List Terminal) (xs : List Slot) (s r : List Token) → IsTrue (follows gs fs xs) → Accepts xs s r → Okay fs r → Okay gs s
follows-okay [] fs xs s r h x k = okay_none s
follows-okay (g ∷ gs) fs xs s r h x k = let p = has_head deepest_head x in
    okay_head (g ∷ gs) fs p.0 s r (each_ends-holds (g ∷ gs) fs p.0 (heads deepest_head xs) h p.1) p.2 k

-- the parts that a file can have: a statement stands only where `if` and `return` are words
abbrev pub stands : Part → Bool
stands (Stmts Anywhere) = false
stands (Stmts InValue) = false
stands (Stmts InRun) = false
stands (Open Anywhere) = false
stands (Open InValue) = false
stands (Open InRun) = false
stands _ = true

-- behind each part of a right side the next token tells that it has ended
abbrev pub each_follows : List Terminal → List Slot → Bool
each_follows fs [] = true
each_follows fs (one t ∷ xs) = each_follows fs xs
each_follows fs (same p ∷ xs) = stands p && (follows (goes_on p) fs xs && each_follows fs xs)
each_follows fs (deeper p ∷ xs) = stands p && (follows (goes_on p) fs xs && each_follows fs xs)

abbrev pub each_alt_follows : {p : Part} → List Terminal → List (Alt p) → Bool
each_alt_follows fs [] = true
each_alt_follows fs (a ∷ rest) = each_follows fs (slots a) && each_alt_follows fs rest

-- so many tokens tell the productions apart
unfoldable pub look_ahead : ℕ
look_ahead = 3

abbrev pub apart_from_all : {p : Part} → ℕ → List Terminal → Alt p → List (Alt p) → Bool
apart_from_all k fs a [] = true
apart_from_all k fs a (b ∷ rest) = apart k fs (slots a) (slots b) && apart_from_all k fs a rest

abbrev pub all_apart : {p : Part} → ℕ → List Terminal → List (Alt p) → Bool
all_apart k fs [] = true
all_apart k fs (a ∷ rest) = apart_from_all k fs a rest && all_apart k fs rest

abbrev pub is_predicted : Part → Bool
is_predicted p = each_alt_follows (goes_on p) (alts_of p) && all_apart look_ahead (goes_on p) (alts_of p)

pub each_alt_follows-holds : {p : Part} (fs : List Terminal) (as' : List (Alt p)) (a : Alt p) → IsTrue (each_alt_follows fs as') → IsMember a as' → IsTrue (each_follows fs (slots a))
each_alt_follows-holds fs [] a h m = absurd m
each_alt_follows-holds fs (b ∷ rest) a h (inl e) = subst (λ c. IsTrue (each_follows fs (slots c))) (sym e) (and_left _ _ h)
each_alt_follows-holds fs (b ∷ rest) a h (inr m) = each_alt_follows-holds fs rest a (and_right _ _ h) m

-- two productions of a part are one, or are apart
abbrev pub Compared : {p : Part} → ℕ → List Terminal → Alt p → Alt p → Type 0
Compared k fs a b = (a ≡ b) ⊎ (IsTrue (apart k fs (slots a) (slots b)) ⊎ IsTrue (apart k fs (slots b) (slots a)))

apart_from_all-holds : {p : Part} (k : ℕ) (fs : List Terminal) (as' : List (Alt p)) (a b : Alt p) → IsTrue (apart_from_all k fs a as') → IsMember b as' → IsTrue (apart k fs (slots a) (slots b))
apart_from_all-holds k fs [] a b h m = absurd m
apart_from_all-holds k fs (c ∷ rest) a b h (inl e) = subst (λ c. IsTrue (apart k fs (slots a) (slots c))) (sym e) (and_left _ _ h)
apart_from_all-holds k fs (c ∷ rest) a b h (inr m) = apart_from_all-holds k fs rest a b (and_right _ _ h) m

pub compared : {p : Part} (k : ℕ) (fs : List Terminal) (as' : List (Alt p)) (a b : Alt p) → IsTrue (all_apart k fs as') → IsMember a as' → IsMember b as' → Compared k fs a b
compared k fs [] a b h m n = absurd m
compared k fs (c ∷ rest) a b h (inl e) (inl f) = inl (e ∙ sym f)
compared k fs (c ∷ rest) a b h (inl e) (inr n) = inr (inl (subst (λ z. IsTrue (apart k fs (slots z) (slots b))) (sym e) (apart_from_all-holds k fs rest c b (and_left _ _ h) n)))
compared k fs (c ∷ rest) a b h (inr m) (inl f) = inr (inr (subst (λ z. IsTrue (apart k fs (slots z) (slots a))) (sym f) (apart_from_all-holds k fs rest c a (and_left _ _ h) m)))
compared k fs (c ∷ rest) a b h (inr m) (inr n) = compared k fs rest a b (and_right _ _ h) m n
