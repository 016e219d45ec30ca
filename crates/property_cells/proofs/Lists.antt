-- Lists: what is in them, no repetition, filters.
use Rattle.std.proofs.Common.{◌≡◌, ◌≢◌, ℕ, zero, suc, ◌+◌, ◌<◌, ◌≤◌, Bool, true, false, cond, not, ◌==◌, List, [], ◌∷◌, ◌++◌, length, ◌⊎◌, inl, inr, refl, sym, ap, ◌∙◌, subst, T, eqb→eq, arith}
use lib.Dec.{eqb_refl}
use Rattle.std.specs.Prelude.{filter}
use Rattle.dep_list.specs.Pairs.{In}
use Rattle.property_cells.specs.Reach.{Distinct}
use Rattle.property_cells.proofs.Reaching.{same_or_not}

pub by_bool : (b : Bool) {X : Type 0} → (b ≡ true → X) → (b ≡ false → X) → X
by_bool true f g = f refl
by_bool false f g = g refl

module _ {A : Type 0} where
  pub in_push : (x : A) (xs : List A) (y : A) → In x (xs ++ y ∷ []) → (In x xs) ⊎ (x ≡ y)
  in_push x [] y (inl e) = inr e
  in_push x [] y (inr h) = absurd h
  in_push x (z ∷ xs) y (inl e) = inl (inl e)
  in_push x (z ∷ xs) y (inr h) = later (in_push x xs y h)
    where
      later : (In x xs) ⊎ (x ≡ y) → ((x ≡ z) ⊎ In x xs) ⊎ (x ≡ y)
      later (inl i) = inl (inr i)
      later (inr e) = inr e

  pub in_left : (x : A) (xs : List A) (y : A) → In x xs → In x (xs ++ y ∷ [])
  in_left x [] y h = absurd h
  in_left x (z ∷ xs) y (inl e) = inl e
  in_left x (z ∷ xs) y (inr h) = inr (in_left x xs y h)

  pub Distinct-push : (xs : List A) (y : A) → Distinct xs → (In y xs → ⊥) → Distinct (xs ++ y ∷ [])
  Distinct-push [] y d n = (λ h. h, tt)
  Distinct-push (x ∷ xs) y d n = (λ h. apart (in_push x xs y h), Distinct-push xs y d.1 (λ h. n (inr h)))
    where
      apart : (In x xs) ⊎ (x ≡ y) → ⊥
      apart (inl h) = d.0 h
      apart (inr e) = n (inl (sym e))

  module _ (p : A → Bool) where
    abbrev kept : A → List A → Bool → List A
    kept y ys b = cond b (y ∷ filter p ys) (filter p ys)

    pub in_filter : (x : A) (xs : List A) → In x (filter p xs) → (In x xs) × (p x ≡ true)
    in_filter x [] h = absurd h
    in_filter x (y ∷ ys) h = by_bool (p y) (λ e. yes e (λ i. in_filter x ys i) (subst (λ b. In x (kept y ys b)) e h)) (λ e. let r = in_filter x ys (subst (λ b. In x (kept y ys b)) e h) in (inr r.0, r.1))
      where
        yes : p y ≡ true → (In x (filter p ys) → (In x ys) × (p x ≡ true)) → In x (y ∷ filter p ys) → (In x (y ∷ ys)) × (p x ≡ true)
        yes e rest (inl same) = (inl same, ap p same ∙ e)
        yes e rest (inr i) = let r = rest i in (inr r.0, r.1)

    pub Distinct-filter : (xs : List A) → Distinct xs → Distinct (filter p xs)
    Distinct-filter [] d = tt
    Distinct-filter (y ∷ ys) d = by_bool (p y)
        (λ e. subst (λ b. Distinct (kept y ys b)) (sym e) (λ h. d.0 (in_filter y ys h).0, Distinct-filter ys d.1))
        (λ e. subst (λ b. Distinct (kept y ys b)) (sym e) (Distinct-filter ys d.1))

    pub filter_all : (xs : List A) → ((x : A) → In x xs → p x ≡ true) → filter p xs ≡ xs
    filter_all [] h = refl
    filter_all (y ∷ ys) h = (λ i. kept y ys (h y (inl refl) i)) ∙ ap (λ l. y ∷ l) (filter_all ys (λ x j. h x (inr j)))

    -- a filter that passes less
    pub filter_filter_less : (q : A → Bool) (xs : List A) → ((x : A) → q x ≡ false → p x ≡ false) → filter p (filter q xs) ≡ filter p xs
    filter_filter_less q [] h = refl
    filter_filter_less q (y ∷ ys) h = by_bool (q y)
        (λ e. (λ i. filter p (cond (e i) (y ∷ filter q ys) (filter q ys))) ∙ (λ i. cond (p y) (y ∷ filter_filter_less q ys h i) (filter_filter_less q ys h i)))
        (λ e. (λ i. filter p (cond (e i) (y ∷ filter q ys) (filter q ys))) ∙ filter_filter_less q ys h ∙ sym (λ i. kept y ys (h y e i)))

  -- one filter after another
  pub filter_filter : (p q r : A → Bool) (xs : List A) → ((x : A) → cond (q x) (p x) false ≡ r x) → filter p (filter q xs) ≡ filter r xs
  filter_filter p q r [] h = refl
  filter_filter p q r (y ∷ ys) h = by_bool (q y)
      (λ e. (λ i. filter p (cond (e i) (y ∷ filter q ys) (filter q ys)))
      ∙ (λ i. cond (p y) (y ∷ filter_filter p q r ys h i) (filter_filter p q r ys h i))
      ∙ (λ i. cond (((λ j. cond (sym e j) (p y) false) ∙ h y) i) (y ∷ filter r ys) (filter r ys)))
      (λ e. (λ i. filter p (cond (e i) (y ∷ filter q ys) (filter q ys)))
      ∙ filter_filter p q r ys h
      ∙ (λ i. cond (((λ j. cond (sym e j) (p y) false) ∙ h y) i) (y ∷ filter r ys) (filter r ys)))

-- ---- a list without repetition of numbers below n has at most n of them

abbrev pub other : ℕ → ℕ → Bool
other n c = not (c == n)

pub eqb_no : (c n : ℕ) → (other n c ≡ false) → c ≡ n
eqb_no c n e = by_case (same_or_not c n)
  where
    by_case : (c ≡ n) ⊎ (c ≢ n) → c ≡ n
    by_case (inl s) = s
    by_case (inr d) = absurd (no (c == n) refl)
      where
        no : (b : Bool) → (c == n) ≡ b → ⊥
        no true f = d (eqb→eq c n (subst T (sym f) tt))
        no false f = let g : true ≡ false = ap not (sym f) ∙ e in cc

pub other_differs : (c n : ℕ) → other n c ≡ true → c ≢ n
other_differs c n e same = let g : other n n ≡ true = subst (λ d. other n d ≡ true) same e in absurd (never (n == n) (yes (n == n) (eqb_refl n)) g)
  where
    yes : (b : Bool) → T b → b ≡ true
    yes true t = refl
    yes false t = absurd t

    never : (b : Bool) → b ≡ true → not b ≡ true → ⊥
    never true a b = let g : false ≡ true = b in cc
    never false a b = let g : false ≡ true = a in cc

one_less : (n : ℕ) (cs : List ℕ) → Distinct cs → length cs ≤ length (filter (other n) cs) + 1
one_less n [] d = omega arith
one_less n (c ∷ cs) d = by_bool (other n c)
    (λ e. subst (λ b. suc (length cs) ≤ length (kept (other n) c cs b) + 1) (sym e) (let h = one_less n cs d.1 in omega arith))
    (λ e. subst (λ b. suc (length cs) ≤ length (kept (other n) c cs b) + 1) (sym e) (let h : length (filter (other n) cs) ≡ length cs = ap length (filter_all (other n) cs (λ x i. all x i (eqb_no c n e))) in omega arith))
  where
    all : (x : ℕ) → In x cs → c ≡ n → other n x ≡ true
    all x i same = by_bool (other n x) (λ e. e) (λ e. absurd (d.0 (subst (λ y. In y cs) (eqb_no x n e ∙ sym same) i)))

pub length-distinct : (n : ℕ) (cs : List ℕ) → Distinct cs → ((c : ℕ) → In c cs → c < n) → length cs ≤ n
length-distinct zero [] d h = omega arith
length-distinct zero (c ∷ cs) d h = let no = h c (inl refl) in absurd (omega arith)
length-distinct (suc n) cs d h =
    let rest = length-distinct n (filter (other n) cs) (Distinct-filter (other n) cs d) below in let less = one_less n cs d in omega arith
  where
    below : (c : ℕ) → In c (filter (other n) cs) → c < n
    below c i = let k = in_filter (other n) c cs i in let l = h c k.0 in let differ = other_differs c n k.1 in omega arith
