-- What a place derives from a list with a token in front is what `first` finds for the token's class, and else the place takes no token.
use Rattle.std.proofs.Common.{◌≡◌, ℕ, zero, suc, ◌+◌, ◌≤◌, ◌<◌, Bool, true, false, cond, ◌&&◌, ◌||◌, not, List, [], ◌∷◌, map, length, nat_le, nat_lt, refl, sym, ap, ◌∙◌, subst, ◌⊎◌, inl, inr, true≢false, le_trans, le_of_suc-le-suc, not-suc-le-zero, leb-true, le-leb, ltb-true}
use Rattle.std.proofs.lemmas.Bool.{and_parts, and_from}
use Rattle.slint_lexer.specs.declared.tokens.Token.{Token}
use Rattle.slint_grammar.specs.Parts.{Part}
use Rattle.slint_grammar.specs.Grammar.{Terminal, Slot, one, same, deeper, Alt, slots}
use Rattle.slint_grammar.specs.Derivations.{class_of, fits, deepest_token, Within, Takes, Derives, by, Through, ends, takes, part, deep}
use Rattle.slint_grammar.specs.Stacks.{Stack, Left, at_depth, behind, through, each_alt, first, alts_of, nullable, nullable_slot, longest_chain}
use Rattle.slint_grammar.proofs.Sets.{OneOf, one_left, one_right, one_parts, one_mapped, one_from_mapped, one_weaker, one_with}
use Rattle.slint_grammar.proofs.Tables.{each_listed, all_nullable, nullable_by, empty_alt, rank, rank_of, leads_below, ranked, rank-below}
use Rattle.slint_grammar.proofs.Spans.{Place, Spans, spans_append, spans_split, spans_from_through, place_through, through_from_spans}

-- ---- places that need no token

pub empty_part : (p : Part) → nullable p ≡ true → (free d : ℕ) (s : List Token) → Derives free p d s s
empty_part p n free d s = let w = empty_alt p n in by w.0 (subst (λ z. Through free z d s s) (sym w.1) ends)

pub empty_place : (x : Slot) → nullable_slot x ≡ true → (free d : ℕ) (s : List Token) → Place free x d s s
empty_place (one t) n free d s = absurd (true≢false (sym n))
empty_place (same p) n free d s = empty_part p n free d s
empty_place (deeper p) n free d s = empty_part p n free (d + 1) s

abbrev head_or : Token → List Token → Token
head_or t [] = t
head_or t (x ∷ xs) = x

abbrev tail_of : List Token → List Token
tail_of [] = []
tail_of (x ∷ xs) = xs

-- ---- what stays behind a token derives the list that follows it, and the token is within the limit or free

abbrev pub Behind : ℕ → List Token → List Token → Left → Type 0
Behind free s r left = Spans free left.0 s r × ((left.1 ≡ true) ⊎ (suc (length s) ≤ free))

behind_split : (free : ℕ) (s : List Token) (more : Stack) (r : List Token) (left : Left) → Behind free s r (behind more left) → (m : List Token) × Behind free s m left × Spans free more m r
behind_split free s more r left e = let w = spans_split free left.0 more s r e.0 in (w.0, (w.1, e.1), w.2)

behind_append : (free : ℕ) (s : List Token) (more : Stack) (m r : List Token) → Spans free more m r → (left : Left) → Behind free s m left → Behind free s r (behind more left)
behind_append free s more m r x left e = (spans_append free left.0 more s m r e.0 x, e.1)

depth_within : (free d : ℕ) (s : List Token) → (nat_le d deepest_token ≡ true) ⊎ (suc (length s) ≤ free) → (d ≤ deepest_token) ⊎ (suc (length s) ≤ free)
depth_within free d s (inl e) = inl (leb-true d deepest_token e)
depth_within free d s (inr l) = inr l

within_depth : (free d : ℕ) (token : Token) (s s0 : List Token) → s0 ≡ token ∷ s → Within free d s0 → (nat_le d deepest_token ≡ true) ⊎ (suc (length s) ≤ free)
within_depth free d token s s0 e (inl l) = inl (le-leb d deepest_token l)
within_depth free d token s s0 e (inr l) = inr (subst (λ z. length z ≤ free) e l)

pub implied : (x y : Bool) → (not x || y) ≡ true → x ≡ true → y ≡ true
implied true y h e = h
implied false y h e = absurd (true≢false (sym e))

module _ (free : ℕ) (token : Token) (s : List Token) where
  -- ---- what `first` finds is derived

  abbrev Sound : (Slot → ℕ → List Left) → Type 0
  Sound f = (x : Slot) (d : ℕ) (r : List Token) → OneOf (Behind free s r) (f x d) → Place free x d (token ∷ s) r

  from_here : (f : Slot → ℕ → List Left) → Sound f → (x : Slot) (xs : List Slot) (d : ℕ) (r : List Token)
      → OneOf (Behind free s r) (map (behind (at_depth d xs)) (f x d)) → Through free (x ∷ xs) d (token ∷ s) r
  from_here f h x xs d r e =
      let w = one_with (Behind free s) (λ m. Spans free (at_depth d xs) m r) (f x d)
      (one_weaker (λ l. Behind free s r (behind (at_depth d xs) l)) (λ l. (m : List Token) × Behind free s m l × Spans free (at_depth d xs) m r) (behind_split free s (at_depth d xs) r) (f x d)
      (one_from_mapped (behind (at_depth d xs)) (Behind free s r) (f x d) e)) in
      place_through free x xs d (token ∷ s) w.0 r (h x d w.0 w.1) (through_from_spans free xs d w.0 r w.2)

  from_further : (f : Slot → ℕ → List Left) (x : Slot) (xs : List Slot) (d : ℕ) (r : List Token)
      → (OneOf (Behind free s r) (through f xs d) → Through free xs d (token ∷ s) r)
      → (b : Bool) → nullable_slot x ≡ b → OneOf (Behind free s r) (cond b (through f xs d) []) → Through free (x ∷ xs) d (token ∷ s) r
  from_further f x xs d r k true n e = place_through free x xs d (token ∷ s) (token ∷ s) r (empty_place x n free d (token ∷ s)) (k e)
  from_further f x xs d r k false n e = absurd e

  from_either : (f : Slot → ℕ → List Left) → Sound f → (x : Slot) (xs : List Slot) (d : ℕ) (r : List Token)
      → (OneOf (Behind free s r) (through f xs d) → Through free xs d (token ∷ s) r)
      → OneOf (Behind free s r) (map (behind (at_depth d xs)) (f x d)) ⊎ OneOf (Behind free s r) (cond (nullable_slot x) (through f xs d) [])
      → Through free (x ∷ xs) d (token ∷ s) r
  from_either f h x xs d r k (inl e) = from_here f h x xs d r e
  from_either f h x xs d r k (inr e) = from_further f x xs d r k (nullable_slot x) refl e

  through_sound : (f : Slot → ℕ → List Left) → Sound f → (xs : List Slot) (d : ℕ) (r : List Token) → OneOf (Behind free s r) (through f xs d) → Through free xs d (token ∷ s) r
  through_sound f h [] d r e = absurd e
  through_sound f h (x ∷ xs) d r e =
      from_either f h x xs d r (through_sound f h xs d r) (one_parts (Behind free s r) (map (behind (at_depth d xs)) (f x d)) (cond (nullable_slot x) (through f xs d) []) e)

  each_sound : {p : Part} (f : Slot → ℕ → List Left) → Sound f → (some : List (Alt p)) (d : ℕ) (r : List Token) → OneOf (Behind free s r) (each_alt f some d) → Derives free p d (token ∷ s) r
  each_sound f h [] d r e = absurd e
  each_sound {p} f h (a ∷ some) d r e = by_parts (each_sound f h some d r) (one_parts (Behind free s r) (through f (slots a) d) (each_alt f some d) e)
    where
      by_parts : (OneOf (Behind free s r) (each_alt f some d) → Derives free p d (token ∷ s) r)
          → OneOf (Behind free s r) (through f (slots a) d) ⊎ OneOf (Behind free s r) (each_alt f some d) → Derives free p d (token ∷ s) r
      by_parts k (inl g) = by a (through_sound f h (slots a) d r g)
      by_parts k (inr g) = k g

  token_sound : (t : Terminal) (d : ℕ) (r : List Token) (b : Bool) → fits t (class_of token.kind) ≡ b
      → OneOf (Behind free s r) (cond b (([], nat_le d deepest_token) ∷ []) []) → Takes free d t (token ∷ s) r
  token_sound t d r false n e = absurd e
  token_sound t d r true n (inr e) = absurd e
  token_sound t d r true n (inl e) = record { token = token; front = ap (λ z. token ∷ z) e.0; fits_it = n; within = depth_within free d s e.1 }

  pub first_sound : (n : ℕ) → Sound (first n (class_of token.kind))
  first_sound zero x d r e = absurd e
  first_sound (suc n) (one t) d r e = token_sound t d r (fits t (class_of token.kind)) refl e
  first_sound (suc n) (same p) d r e = each_sound (first n (class_of token.kind)) (first_sound n) (alts_of p) d r e
  first_sound (suc n) (deeper p) d r e = each_sound (first n (class_of token.kind)) (first_sound n) (alts_of p) (d + 1) r e

  -- ---- what is derived, `first` finds

  -- no token was taken, and none need be, or one of these is left
  abbrev pub Found : List Token → Bool → List Left → Type 0
  Found r null lefts = ((r ≡ token ∷ s) × (null ≡ true)) ⊎ OneOf (Behind free s r) lefts

  found_further : (f : Slot → ℕ → List Left) (x : Slot) (xs : List Slot) (d : ℕ) (r : List Token) → nullable_slot x ≡ true
      → Found r (all_nullable xs) (through f xs d) → Found r (nullable_slot x && all_nullable xs) (through f (x ∷ xs) d)
  found_further f x xs d r n (inl e) = inl (e.0, and_from (nullable_slot x) (all_nullable xs) n e.1)
  found_further f x xs d r n (inr e) =
      inr (one_right (Behind free s r) (map (behind (at_depth d xs)) (f x d)) (cond (nullable_slot x) (through f xs d) [])
      (subst (λ z. OneOf (Behind free s r) (cond z (through f xs d) [])) (sym n) e))

  found_through : (f : Slot → ℕ → List Left) (x : Slot) (xs : List Slot) (d : ℕ) (m r : List Token) → Spans free (at_depth d xs) m r
      → (m ≡ token ∷ s → nullable_slot x ≡ true → Found r (all_nullable xs) (through f xs d))
      → Found m (nullable_slot x) (f x d) → Found r (nullable_slot x && all_nullable xs) (through f (x ∷ xs) d)
  found_through f x xs d m r y k (inl e) = found_further f x xs d r e.1 (k e.0 e.1)
  found_through f x xs d m r y k (inr e) =
      inr (one_left (Behind free s r) (map (behind (at_depth d xs)) (f x d)) (cond (nullable_slot x) (through f xs d) [])
      (one_mapped (behind (at_depth d xs)) (Behind free s r) (f x d)
      (one_weaker (Behind free s m) (λ l. Behind free s r (behind (at_depth d xs) l)) (behind_append free s (at_depth d xs) m r y) (f x d) e)))

  found_each : {p : Part} (f : Slot → ℕ → List Left) (some : List (Alt p)) (d : ℕ) (r : List Token) → OneOf (λ a. OneOf (Behind free s r) (through f (slots a) d)) some
      → OneOf (Behind free s r) (each_alt f some d)
  found_each f [] d r e = absurd e
  found_each f (a ∷ some) d r (inl e) = one_left (Behind free s r) (through f (slots a) d) (each_alt f some d) e
  found_each f (a ∷ some) d r (inr e) = one_right (Behind free s r) (through f (slots a) d) (each_alt f some d) (found_each f some d r e)

  found_alt : (p : Part) (a : Alt p) (d : ℕ) (r : List Token) (n : ℕ) → Found r (all_nullable (slots a)) (through (first n (class_of token.kind)) (slots a) d)
      → Found r (nullable p) (first (suc n) (class_of token.kind) (same p) d)
  found_alt p a d r n (inl e) = inl (e.0, implied (all_nullable (slots a)) (nullable p) (nullable_by a) e.1)
  found_alt p a d r n (inr e) =
      inr (found_each (first n (class_of token.kind)) (alts_of p) d r (each_listed a (λ b. OneOf (Behind free s r) (through (first n (class_of token.kind)) (slots b) d)) e))

  found_token : (t : Terminal) (d : ℕ) (m s0 : List Token) → s0 ≡ token ∷ s → Takes free d t s0 m → (n : ℕ) → 0 < n → Found m false (first n (class_of token.kind) (one t) d)
  found_token t d m s0 e x zero l = absurd (not-suc-le-zero l)
  found_token t d m s0 e x (suc n) l = inr (subst (λ z. OneOf (Behind free s m) (cond z (([], nat_le d deepest_token) ∷ []) [])) (sym fits_here) (inl (s_is, within_depth free d token s s0 e x.within)))
    where
      both : token ∷ s ≡ x.token ∷ m
      both = sym e ∙ x.front

      token_is : x.token ≡ token
      token_is = sym (ap (λ z. head_or token z) both)

      s_is : s ≡ m
      s_is = ap tail_of both

      fits_here : fits t (class_of token.kind) ≡ true
      fits_here = subst (λ (z : Token). fits t (class_of z.kind) ≡ true) token_is x.fits_it

  found_part : (p : Part) (d : ℕ) (m : List Token) (n : ℕ) → rank p < n → ((k : ℕ) → rank p ≤ k → Found m (nullable p) (first (suc k) (class_of token.kind) (same p) d))
      → Found m (nullable p) (first n (class_of token.kind) (same p) d)
  found_part p d m zero l h = absurd (not-suc-le-zero l)
  found_part p d m (suc n) l h = h n (le_of_suc-le-suc l)

  found_deeper : (p : Part) (d : ℕ) (m : List Token) (n : ℕ) → rank p < n → ((k : ℕ) → rank p ≤ k → Found m (nullable p) (first (suc k) (class_of token.kind) (same p) (d + 1)))
      → Found m (nullable p) (first n (class_of token.kind) (deeper p) d)
  found_deeper p d m zero l h = absurd (not-suc-le-zero l)
  found_deeper p d m (suc n) l h = h n (le_of_suc-le-suc l)

  lead_rank : (x : Slot) (xs : List Slot) (k n : ℕ) → k ≤ n → leads_below k (x ∷ xs) ≡ true → rank_of x < n
  lead_rank x xs k n l b = le_trans (ltb-true (rank_of x) k (and_parts (nat_lt (rank_of x) k) (cond (nullable_slot x) (leads_below k xs) true) b).0) l

  lead_rest : (x : Slot) (xs : List Slot) (k : ℕ) → leads_below k (x ∷ xs) ≡ true → nullable_slot x ≡ true → leads_below k xs ≡ true
  lead_rest x xs k b n = subst (λ z. cond z (leads_below k xs) true ≡ true) n (and_parts (nat_lt (rank_of x) k) (cond (nullable_slot x) (leads_below k xs) true) b).1

  mutual
    derives_found : {p : Part} {d : ℕ} {s0 r : List Token} → Derives free p d s0 r → s0 ≡ token ∷ s → (n : ℕ) → rank p ≤ n → Found r (nullable p) (first (suc n) (class_of token.kind) (same p) d)
    derives_found {p} {d} {s0} {r} (by a x) e n l = found_alt p a d r n (through_found x e n (rank p) l (ranked a))

    through_found : {xs : List Slot} {d : ℕ} {s0 r : List Token} → Through free xs d s0 r → s0 ≡ token ∷ s → (n k : ℕ) → k ≤ n → leads_below k xs ≡ true
        → Found r (all_nullable xs) (through (first n (class_of token.kind)) xs d)
    through_found ends e n k l b = inl (e, refl)
    through_found {r = r} (takes {t} {xs} {d} {s = s0} {m} x y) e n k l b =
        found_through (first n (class_of token.kind)) (one t) xs d m r (spans_from_through y) (λ f g. through_found y f n k l (lead_rest (one t) xs k b g))
        (found_token t d m s0 e x n (lead_rank (one t) xs k n l b))
    through_found {r = r} (part {p} {xs} {d} {m = m} x y) e n k l b =
        found_through (first n (class_of token.kind)) (same p) xs d m r (spans_from_through y) (λ f g. through_found y f n k l (lead_rest (same p) xs k b g))
        (found_part p d m n (lead_rank (same p) xs k n l b) (derives_found x e))
    through_found {r = r} (deep {p} {xs} {d} {m = m} x y) e n k l b =
        found_through (first n (class_of token.kind)) (deeper p) xs d m r (spans_from_through y) (λ f g. through_found y f n k l (lead_rest (deeper p) xs k b g))
        (found_deeper p d m n (lead_rank (deeper p) xs k n l b) (derives_found x e))

  -- ---- a place, at the chain's length

  pub place_found : (x : Slot) (d : ℕ) (r : List Token) → Place free x d (token ∷ s) r → Found r (nullable_slot x) (first longest_chain (class_of token.kind) x d)
  place_found (one t) d r x = found_token t d r (token ∷ s) refl x longest_chain (ltb-true 0 longest_chain refl)
  place_found (same p) d r x = found_part p d r longest_chain (ltb-true (rank p) longest_chain (rank-below p)) (derives_found x refl)
  place_found (deeper p) d r x = found_deeper p d r longest_chain (ltb-true (rank p) longest_chain (rank-below p)) (derives_found x refl)
