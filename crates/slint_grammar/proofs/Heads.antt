-- What places can begin with: computed from the table, in a right side and through the parts that it begins with, up to a first token.
use Rattle.std.proofs.Common.{◌≡◌, ℕ, zero, suc, IsTrue, List, [], ◌∷◌, ◌++◌, inl, inr, refl, subst}
use Rattle.slint_lexer.specs.declared.tokens.Token.{Token}
use Rattle.slint_grammar.specs.Parts.{Part}
use Rattle.slint_grammar.specs.Grammar.{Terminal, Slot, one, same, deeper, Alt, slots}
use Rattle.slint_grammar.specs.Derivations.{class_of, fits, Derives, by, Through, ends, takes, part, deep}
use Rattle.slint_grammar.specs.Stacks.{alts_of}
use Rattle.slint_grammar.proofs.Members.{IsMember, listed}

-- the tokens from one list to another are these places, whatever their depth
pub data Accepts : List Slot → List Token → List Token → Type 0 where
  stops : {s : List Token} → Accepts [] s s
  reads : {t : Terminal} {xs : List Slot} {s m r : List Token} → (token : Token) → s ≡ token ∷ m → IsTrue (fits t (class_of token.kind)) → Accepts xs m r → Accepts (one t ∷ xs) s r
  opens : {p : Part} {xs : List Slot} {s r : List Token} → (a : Alt p) → Accepts (slots a ++ xs) s r → Accepts (same p ∷ xs) s r
  opens_deeper : {p : Part} {xs : List Slot} {s r : List Token} → (a : Alt p) → Accepts (slots a ++ xs) s r → Accepts (deeper p ∷ xs) s r

mutual
  opened : {free d : ℕ} {p : Part} {s m r : List Token} {ys : List Slot} → Derives free p d s m → Accepts ys m r → (a : Alt p) × Accepts (slots a ++ ys) s r
  opened (by a x) y = (a, followed x y)

  followed : {free d : ℕ} {xs : List Slot} {s m r : List Token} {ys : List Slot} → Through free xs d s m → Accepts ys m r → Accepts (xs ++ ys) s r
  followed ends y = y
  followed (takes t x) y = reads t.token t.front t.fits_it (followed x y)
  followed (part x z) y = let o = opened x (followed z y) in opens o.0 o.1
  followed (deep x z) y = let o = opened x (followed z y) in opens_deeper o.0 o.1

pub accepted : {free d : ℕ} {xs : List Slot} {s r : List Token} → Through free xs d s r → Accepts xs s r
accepted ends = stops
accepted (takes t x) = reads t.token t.front t.fits_it (accepted x)
accepted (part x z) = let o = opened x (accepted z) in opens o.0 o.1
accepted (deep x z) = let o = opened x (accepted z) in opens_deeper o.0 o.1

-- how places can begin: there are none, or a token of this terminal with these places behind it; or it is not known
pub data Head : Type 0 where
  Ended : Head
  Unknown : Head
  Begins : Terminal → List Slot → Head

abbrev pub each_head : {p : Part} → (List Slot → List Head) → List (Alt p) → List Slot → List Head
each_head f [] xs = []
each_head f (a ∷ rest) xs = f (slots a ++ xs) ++ each_head f rest xs

abbrev pub heads : ℕ → List Slot → List Head
heads zero xs = Unknown ∷ []
heads (suc n) [] = Ended ∷ []
heads (suc n) (one t ∷ xs) = Begins t xs ∷ []
heads (suc n) (same p ∷ xs) = each_head (heads n) (alts_of p) xs
heads (suc n) (deeper p ∷ xs) = each_head (heads n) (alts_of p) xs

-- no more parts than this are opened up to a first token
unfoldable pub deepest_head : ℕ
deepest_head = 25

abbrev pub BeginsSo : Head → List Token → List Token → Type 0
BeginsSo Ended s r = s ≡ r
BeginsSo Unknown s r = Unit {0}
BeginsSo (Begins t xs) s r = (token : Token) × (m : List Token) × (s ≡ token ∷ m) × IsTrue (fits t (class_of token.kind)) × Accepts xs m r

abbrev pub HasHead : List Head → List Token → List Token → Type 0
HasHead hs s r = (h : Head) × IsMember h hs × BeginsSo h s r

in_front : {A : Type 0} (x : A) (xs ys : List A) → IsMember x xs → IsMember x (xs ++ ys)
in_front x [] ys m = absurd m
in_front x (y ∷ xs) ys (inl e) = inl e
in_front x (y ∷ xs) ys (inr m) = inr (in_front x xs ys m)

behind_all : {A : Type 0} (x : A) (xs ys : List A) → IsMember x ys → IsMember x (xs ++ ys)
behind_all x [] ys m = m
behind_all x (y ∷ xs) ys m = inr (behind_all x xs ys m)

among_heads : {p : Part} (f : List Slot → List Head) (as' : List (Alt p)) (xs : List Slot) (a : Alt p) (s r : List Token) → IsMember a as' → HasHead (f (slots a ++ xs)) s r → HasHead (each_head f as' xs) s r
among_heads f [] xs a s r m h = absurd m
among_heads f (b ∷ rest) xs a s r (inl e) h = (h.0, in_front h.0 (f (slots b ++ xs)) (each_head f rest xs) (subst (λ c. IsMember h.0 (f (slots c ++ xs))) e h.1), h.2)
among_heads f (b ∷ rest) xs a s r (inr m) h = let more = among_heads f rest xs a s r m h in (more.0, behind_all more.0 (f (slots b ++ xs)) (each_head f rest xs) more.1, more.2)

-- what is accepted begins with one of the heads
pub has_head : (n : ℕ) {xs : List Slot} {s r : List Token} → Accepts xs s r → HasHead (heads n xs) s r
has_head zero x = (Unknown, inl refl, tt)
has_head (suc n) stops = (Ended, inl refl, refl)
has_head (suc n) (reads {t} {xs} {m} token e f x) = (Begins t xs, inl refl, (token, m, e, f, x))
has_head (suc n) (opens {p} {xs} {s} {r} a x) = among_heads (heads n) (alts_of p) xs a s r (listed a) (has_head n x)
has_head (suc n) (opens_deeper {p} {xs} {s} {r} a x) = among_heads (heads n) (alts_of p) xs a s r (listed a) (has_head n x)
