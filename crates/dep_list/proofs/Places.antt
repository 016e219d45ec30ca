-- Lists of values at places: altered, taken out, picked.
use Rattle.std.proofs.Common.{◌≡◌, Bool, true, false, cond, List, [], ◌∷◌, ◌++◌, Option, Some, None, option_map, refl, sym, ap, ◌∙◌, subst}
use Rattle.std.specs.Prelude.{IsSome}
use denote.RawPtr.{Ptr}
use Rattle.dep_list.specs.Cells.{same_ptr, find, put, take_out, places, values, alter, without, add, pick, Absent, Apart}
use Rattle.dep_list.proofs.Cells.{same_ptr_refl, same_ptr_eq, same_ptr_symm}

-- ---- absence

pub Absent-append : (p : Ptr) (xs ys : List Ptr) → Absent p xs → Absent p ys → Absent p (xs ++ ys)
Absent-append p [] ys a b = b
Absent-append p (x ∷ xs) ys a b = (a.0, Absent-append p xs ys a.1 b)

pub Absent-left : (p : Ptr) (xs ys : List Ptr) → Absent p (xs ++ ys) → Absent p xs
Absent-left p [] ys a = tt
Absent-left p (x ∷ xs) ys a = (a.0, Absent-left p xs ys a.1)

pub Absent-right : (p : Ptr) (xs ys : List Ptr) → Absent p (xs ++ ys) → Absent p ys
Absent-right p [] ys a = a
Absent-right p (x ∷ xs) ys a = Absent-right p xs ys a.1

pub Apart-left : (xs ys : List Ptr) → Apart (xs ++ ys) → Apart xs
Apart-left [] ys a = tt
Apart-left (x ∷ xs) ys a = (Absent-left x xs ys a.0, Apart-left xs ys a.1)

pub Apart-right : (xs ys : List Ptr) → Apart (xs ++ ys) → Apart ys
Apart-right [] ys a = a
Apart-right (x ∷ xs) ys a = Apart-right xs ys a.1

pub Apart-push : (xs : List Ptr) (p : Ptr) → Apart xs → Absent p xs → Apart (xs ++ p ∷ [])
Apart-push [] p a b = (tt, tt)
Apart-push (x ∷ xs) p a b = (Absent-append x xs (p ∷ []) a.0 (same_ptr_symm p x ∙ b.0, tt), Apart-push xs p a.1 b.1)

-- a place in front is in none of the places behind, nor the other way round
pub Apart-before : (xs : List Ptr) (q : Ptr) (ys : List Ptr) → Apart (xs ++ q ∷ ys) → Absent q xs
Apart-before [] q ys a = tt
Apart-before (x ∷ xs) q ys a = (same_ptr_symm x q ∙ (Absent-right x xs (q ∷ ys) a.0).0, Apart-before xs q ys a.1)

pub Apart-behind : (xs : List Ptr) (q : Ptr) (ys : List Ptr) → Apart (xs ++ q ∷ ys) → Absent q ys
Apart-behind xs q ys a = (Apart-right xs (q ∷ ys) a).0

module _ {A : Type 0} where
  pub places-append : (xs ys : List (Ptr × A)) → places (xs ++ ys) ≡ places xs ++ places ys
  places-append [] ys = refl
  places-append (x ∷ xs) ys = ap (λ l. x.0 ∷ l) (places-append xs ys)

  pub values-append : (xs ys : List (Ptr × A)) → values (xs ++ ys) ≡ values xs ++ values ys
  values-append [] ys = refl
  values-append (x ∷ xs) ys = ap (λ l. x.1 ∷ l) (values-append xs ys)

  pub places-alter : (g : A → A) (p : Ptr) (xs : List (Ptr × A)) → places (alter g p xs) ≡ places xs
  places-alter g p [] = refl
  places-alter g p (x ∷ xs) = ap (λ l. x.0 ∷ l) (places-alter g p xs)

  -- ---- alter

  pub alter-absent : (g : A → A) (p : Ptr) (xs : List (Ptr × A)) → Absent p (places xs) → alter g p xs ≡ xs
  alter-absent g p [] a = refl
  alter-absent g p (x ∷ xs) a = λ i. (x.0, cond (a.0 i) (g x.1) x.1) ∷ alter-absent g p xs a.1 i

  same_cond : (b : Bool) (x : A) → cond b x x ≡ x
  same_cond true x = refl
  same_cond false x = refl

  pub alter-id : (p : Ptr) (xs : List (Ptr × A)) → alter (λ x. x) p xs ≡ xs
  alter-id p [] = refl
  alter-id p (x ∷ xs) = λ i. (x.0, same_cond (same_ptr x.0 p) x.1 i) ∷ alter-id p xs i

  pub alter-append : (g : A → A) (p : Ptr) (xs ys : List (Ptr × A)) → alter g p (xs ++ ys) ≡ alter g p xs ++ alter g p ys
  alter-append g p [] ys = refl
  alter-append g p (x ∷ xs) ys = ap (λ l. (x.0, cond (same_ptr x.0 p) (g x.1) x.1) ∷ l) (alter-append g p xs ys)

  -- ---- without

  without-step : (b : Bool) (x : Ptr × A) (xs ys : List (Ptr × A)) → cond b (xs ++ ys) (x ∷ (xs ++ ys)) ≡ cond b xs (x ∷ xs) ++ ys
  without-step true x xs ys = refl
  without-step false x xs ys = refl

  pub without-append : (p : Ptr) (xs ys : List (Ptr × A)) → without p (xs ++ ys) ≡ without p xs ++ without p ys
  without-append p [] ys = refl
  without-append p (x ∷ xs) ys = ap (λ l. cond (same_ptr x.0 p) l (x ∷ l)) (without-append p xs ys) ∙ without-step (same_ptr x.0 p) x (without p xs) (without p ys)

  pub without-absent : (p : Ptr) (xs : List (Ptr × A)) → Absent p (places xs) → without p xs ≡ xs
  without-absent p [] a = refl
  without-absent p (x ∷ xs) a = (λ i. cond (a.0 i) (without p xs) (x ∷ without p xs)) ∙ ap (λ l. x ∷ l) (without-absent p xs a.1)

  Absent_step : (q : Ptr) (b : Bool) (x : Ptr × A) (xs : List (Ptr × A)) → same_ptr x.0 q ≡ false → Absent q (places xs) → Absent q (places (cond b xs (x ∷ xs)))
  Absent_step q true x xs e a = a
  Absent_step q false x xs e a = (e, a)

  pub Absent-without : (q p : Ptr) (xs : List (Ptr × A)) → Absent q (places xs) → Absent q (places (without p xs))
  Absent-without q p [] a = tt
  Absent-without q p (x ∷ xs) a = Absent_step q (same_ptr x.0 p) x (without p xs) a.0 (Absent-without q p xs a.1)

  Absent_own : (p : Ptr) (b : Bool) (x : Ptr × A) (xs : List (Ptr × A)) → same_ptr x.0 p ≡ b → Absent p (places xs) → Absent p (places (cond b xs (x ∷ xs)))
  Absent_own p true x xs e a = a
  Absent_own p false x xs e a = (e, a)

  pub Absent-without_own : (p : Ptr) (xs : List (Ptr × A)) → Absent p (places (without p xs))
  Absent-without_own p [] = tt
  Absent-without_own p (x ∷ xs) = Absent_own p (same_ptr x.0 p) x (without p xs) refl (Absent-without_own p xs)

  Apart_step : (b : Bool) (x : Ptr × A) (xs : List (Ptr × A)) → Absent x.0 (places xs) → Apart (places xs) → Apart (places (cond b xs (x ∷ xs)))
  Apart_step true x xs a b = b
  Apart_step false x xs a b = (a, b)

  pub Apart-without : (p : Ptr) (xs : List (Ptr × A)) → Apart (places xs) → Apart (places (without p xs))
  Apart-without p [] a = tt
  Apart-without p (x ∷ xs) a = Apart_step (same_ptr x.0 p) x (without p xs) (Absent-without x.0 p xs a.0) (Apart-without p xs a.1)

  -- ---- the first at a place is the only one

  pub Absent-none : (p : Ptr) (xs : List (Ptr × A)) → find xs p ≡ None → Absent p (places xs)
  Absent-none p [] f = tt
  Absent-none p (x ∷ xs) f =
      (elim (same_ptr x.0 p) as (λ b. same_ptr x.0 p ≡ b → cond b (Some x.1) (find xs p) ≡ None → (same_ptr x.0 p ≡ false) × Absent p (places xs)) [
        | true ↦ λ e g. cc
        | false ↦ λ e g. (e, Absent-none p xs g)
      ]) refl f

  pub find-absent : (p : Ptr) (xs : List (Ptr × A)) → Absent p (places xs) → find xs p ≡ None
  find-absent p [] a = refl
  find-absent p (x ∷ xs) a = (λ i. cond (a.0 i) (Some x.1) (find xs p)) ∙ find-absent p xs a.1

  -- behind the cell at p no other lies at p
  absent_behind : (p : Ptr) (x : Ptr × A) (xs : List (Ptr × A)) → same_ptr x.0 p ≡ true → Absent x.0 (places xs) → Absent p (places xs)
  absent_behind p x xs e a = subst (λ q. Absent q (places xs)) (same_ptr_eq x.0 p e) a

  pub put-alter : (g : A → A) (p : Ptr) (xs : List (Ptr × A)) (x : A) → Apart (places xs) → find xs p ≡ Some x → put xs p (g x) ≡ alter g p xs
  put-alter g p [] x a f = cc
  put-alter g p (y ∷ xs) x a f =
      (elim (same_ptr y.0 p) as (λ b. same_ptr y.0 p ≡ b → cond b (Some y.1) (find xs p) ≡ Some x → cond b ((y.0, g x) ∷ xs) (y ∷ put xs p (g x)) ≡ (y.0, cond b (g y.1) y.1) ∷ alter g p xs) [
        | true ↦ λ e h. let same : y.1 ≡ x = cc in λ i. (y.0, g (sym same i)) ∷ sym (alter-absent g p xs (absent_behind p y xs e a.0)) i
        | false ↦ λ e h. ap (λ l. y ∷ l) (put-alter g p xs x a.1 h)
      ]) refl f

  pub take_out-without : (p : Ptr) (xs : List (Ptr × A)) → Apart (places xs) → take_out xs p ≡ without p xs
  take_out-without p [] a = refl
  take_out-without p (y ∷ xs) a =
      (elim (same_ptr y.0 p) as (λ b. same_ptr y.0 p ≡ b → cond b xs (y ∷ take_out xs p) ≡ cond b (without p xs) (y ∷ without p xs)) [
        | true ↦ λ e. sym (without-absent p xs (absent_behind p y xs e a.0))
        | false ↦ λ e. ap (λ l. y ∷ l) (take_out-without p xs a.1)
      ]) refl

  -- the list cut at the first value at a place
  pub record Cut (xs : List (Ptr × A)) (p : Ptr) (x : A) : Type 0 where
    pub before : List (Ptr × A)
    pub behind : List (Ptr × A)
    pub whole : xs ≡ before ++ (p, x) ∷ behind

  pub cut_at : (p : Ptr) (xs : List (Ptr × A)) (x : A) → find xs p ≡ Some x → Cut xs p x
  cut_at p [] x f = cc
  cut_at p (y ∷ xs) x f =
      (elim (same_ptr y.0 p) as (λ b. same_ptr y.0 p ≡ b → cond b (Some y.1) (find xs p) ≡ Some x → Cut (y ∷ xs) p x) [
        | true ↦ λ e h. let same : y.1 ≡ x = cc in record { before = []; behind = xs; whole = λ i. (same_ptr_eq y.0 p e i, same i) ∷ xs }
        | false ↦ λ e h. let c = cut_at p xs x h in record { before = y ∷ c.before; behind = c.behind; whole = ap (λ l. y ∷ l) c.whole }
      ]) refl f

-- ---- pick

module _ {A B : Type 0} (f : A → Option B) where
  add-append : (p : Ptr) (o : Option B) (xs ys : List (Ptr × B)) → add p o (xs ++ ys) ≡ add p o xs ++ ys
  add-append p None xs ys = refl
  add-append p (Some x) xs ys = refl

  pub pick-append : (xs ys : List (Ptr × A)) → pick f (xs ++ ys) ≡ pick f xs ++ pick f ys
  pick-append [] ys = refl
  pick-append (x ∷ xs) ys = ap (add x.0 (f x.1)) (pick-append xs ys) ∙ add-append x.0 (f x.1) (pick f xs) (pick f ys)

  add-alter : (h : B → B) (p q : Ptr) (b : Bool) (o o' : Option B) (xs : List (Ptr × B)) → same_ptr q p ≡ b → o' ≡ cond b (option_map h o) o → add q o' (alter h p xs) ≡ alter h p (add q o xs)
  add-alter h p q true None o' xs e s = ap (λ r. add q r (alter h p xs)) s
  add-alter h p q false None o' xs e s = ap (λ r. add q r (alter h p xs)) s
  add-alter h p q true (Some x) o' xs e s = ap (λ r. add q r (alter h p xs)) s ∙ (λ i. (q, cond (sym e i) (h x) x) ∷ alter h p xs)
  add-alter h p q false (Some x) o' xs e s = ap (λ r. add q r (alter h p xs)) s ∙ (λ i. (q, cond (sym e i) (h x) x) ∷ alter h p xs)

  shown : (g : A → A) (h : B → B) → ((x : A) → f (g x) ≡ option_map h (f x)) → (b : Bool) (x : A) → f (cond b (g x) x) ≡ cond b (option_map h (f x)) (f x)
  shown g h s true x = s x
  shown g h s false x = refl

  -- a change that shows as the change h: picking after it is the change h after picking
  pub pick-alter : (g : A → A) (h : B → B) → ((x : A) → f (g x) ≡ option_map h (f x)) → (p : Ptr) (xs : List (Ptr × A)) → pick f (alter g p xs) ≡ alter h p (pick f xs)
  pick-alter g h s p [] = refl
  pick-alter g h s p (x ∷ xs) = ap (add x.0 (f (cond (same_ptr x.0 p) (g x.1) x.1))) (pick-alter g h s p xs)
      ∙ add-alter h p x.0 (same_ptr x.0 p) (f x.1) (f (cond (same_ptr x.0 p) (g x.1) x.1)) (pick f xs) refl (shown g h s (same_ptr x.0 p) x.1)

  add-without : (p : Ptr) (x : Ptr × A) (xs : List (Ptr × A)) (ys : List (Ptr × B)) (b : Bool) (o : Option B) → same_ptr x.0 p ≡ b → pick f xs ≡ ys → f x.1 ≡ o
      → pick f (cond b xs (x ∷ xs)) ≡ cond b ys (add x.0 o ys)
  add-without p x xs ys true o e r s = r
  add-without p x xs ys false o e r s = λ i. add x.0 (s i) (r i)

  without-add : (p q : Ptr) (b : Bool) (o : Option B) (xs : List (Ptr × B)) → same_ptr q p ≡ b → without p (add q o xs) ≡ cond b (without p xs) (add q o (without p xs))
  without-add p q true None xs e = refl
  without-add p q false None xs e = refl
  without-add p q true (Some x) xs e = λ i. cond (e i) (without p xs) ((q, x) ∷ without p xs)
  without-add p q false (Some x) xs e = λ i. cond (e i) (without p xs) ((q, x) ∷ without p xs)

  pub pick-without : (p : Ptr) (xs : List (Ptr × A)) → pick f (without p xs) ≡ without p (pick f xs)
  pick-without p [] = refl
  pick-without p (x ∷ xs) = add-without p x (without p xs) (without p (pick f xs)) (same_ptr x.0 p) (f x.1) refl (pick-without p xs) refl
      ∙ sym (without-add p x.0 (same_ptr x.0 p) (f x.1) (pick f xs) refl)

  Absent_add : (q p : Ptr) (o : Option B) (xs : List (Ptr × B)) → same_ptr p q ≡ false → Absent q (places xs) → Absent q (places (add p o xs))
  Absent_add q p None xs e a = a
  Absent_add q p (Some x) xs e a = (e, a)

  pub Absent-pick : (q : Ptr) (xs : List (Ptr × A)) → Absent q (places xs) → Absent q (places (pick f xs))
  Absent-pick q [] a = tt
  Absent-pick q (x ∷ xs) a = Absent_add q x.0 (f x.1) (pick f xs) a.0 (Absent-pick q xs a.1)

  Apart_add : (p : Ptr) (o : Option B) (xs : List (Ptr × B)) → Absent p (places xs) → Apart (places xs) → Apart (places (add p o xs))
  Apart_add p None xs a b = b
  Apart_add p (Some x) xs a b = (a, b)

  pub Apart-pick : (xs : List (Ptr × A)) → Apart (places xs) → Apart (places (pick f xs))
  Apart-pick [] a = tt
  Apart-pick (x ∷ xs) a = Apart_add x.0 (f x.1) (pick f xs) (Absent-pick x.0 xs a.0) (Apart-pick xs a.1)

  -- a value that shows nothing isn't picked
  pub pick-hidden : (p : Ptr) (xs : List (Ptr × A)) (x : A) → Apart (places xs) → find xs p ≡ Some x → f x ≡ None → Absent p (places (pick f xs))
  pick-hidden p [] x a e n = tt
  pick-hidden p (y ∷ xs) x a e n =
      (elim (same_ptr y.0 p) as (λ b. same_ptr y.0 p ≡ b → cond b (Some y.1) (find xs p) ≡ Some x → Absent p (places (pick f (y ∷ xs)))) [
        | true ↦ λ d h. let same : y.1 ≡ x = cc in
            subst (λ o. Absent p (places (add y.0 o (pick f xs)))) (sym (ap f same ∙ n)) (Absent-pick p xs (absent_behind p y xs d a.0))
        | false ↦ λ d h. Absent_add p y.0 (f y.1) (pick f xs) d (pick-hidden p xs x a.1 h n)
      ]) refl e

  -- and one that shows something is
  pub pick-found : (p : Ptr) (xs : List (Ptr × A)) (x : A) (y : B) → find xs p ≡ Some x → f x ≡ Some y → find (pick f xs) p ≡ Some y
  pick-found p [] x y e s = cc
  pick-found p (z ∷ xs) x y e s =
      (elim (same_ptr z.0 p) as (λ b. same_ptr z.0 p ≡ b → cond b (Some z.1) (find xs p) ≡ Some x → find (pick f (z ∷ xs)) p ≡ Some y) [
        | true ↦ λ d h. let same : z.1 ≡ x = cc in
            ap (λ o. find (add z.0 o (pick f xs)) p) (ap f same ∙ s) ∙ (λ i. cond (d i) (Some y) (find (pick f xs) p))
        | false ↦ λ d h. find_add p z.0 (f z.1) (pick f xs) d ∙ pick-found p xs x y h s
      ]) refl e
    where
      find_add : (p q : Ptr) (o : Option B) (xs : List (Ptr × B)) → same_ptr q p ≡ false → find (add q o xs) p ≡ find xs p
      find_add p q None xs e = refl
      find_add p q (Some x) xs e = λ i. cond (e i) (Some x) (find xs p)

module _ {A B : Type 0} (f : A → Option B) where
  find_add : (p q : Ptr) (o : Option B) (xs : List (Ptr × B)) → same_ptr q p ≡ false → find (add q o xs) p ≡ find xs p
  find_add p q None xs e = refl
  find_add p q (Some x) xs e = λ i. cond (e i) (Some x) (find xs p)

  picked_here : (p q : Ptr) (x : A) (o : Option B) (ys : List (Ptr × B)) (y : B) → same_ptr q p ≡ true → f x ≡ o → find ys p ≡ None → find (add q o ys) p ≡ Some y → f x ≡ Some y
  picked_here p q x None ys y e s a h = cc
  picked_here p q x (Some z) ys y e s a h = let same : Some z ≡ Some y = (λ i. cond (sym e i) (Some z) (find ys p)) ∙ h in s ∙ same

  -- what is picked at a place is what the value there shows
  pub record Picked (xs : List (Ptr × A)) (p : Ptr) (y : B) : Type 0 where
    pub value : A
    pub found : find xs p ≡ Some value
    pub shows : f value ≡ Some y

  pub picked : (p : Ptr) (xs : List (Ptr × A)) (y : B) → Apart (places xs) → find (pick f xs) p ≡ Some y → Picked xs p y
  picked p [] y a e = cc
  picked p (x ∷ xs) y a e =
      (elim (same_ptr x.0 p) as (λ b. same_ptr x.0 p ≡ b → Picked (x ∷ xs) p y) [
        | true ↦ λ d. record {
          value = x.1;
          found = λ i. cond (d i) (Some x.1) (find xs p);
          shows = picked_here p x.0 x.1 (f x.1) (pick f xs) y d refl (find-absent p (pick f xs) (Absent-pick f p xs (absent_behind p x xs d a.0))) e;
        }
        | false ↦ λ d. let rest = picked p xs y a.1 (sym (find_add p x.0 (f x.1) (pick f xs) d) ∙ e) in record {
          value = rest.value;
          found = (λ i. cond (d i) (Some x.1) (find xs p)) ∙ rest.found;
          shows = rest.shows;
        }
      ]) refl

module _ {A : Type 0} where
  pub find-cut : (p : Ptr) (us : List (Ptr × A)) (x : A) (vs : List (Ptr × A)) → Absent p (places us) → find (us ++ (p, x) ∷ vs) p ≡ Some x
  find-cut p [] x vs a = λ i. cond (same_ptr_refl p i) (Some x) (find vs p)
  find-cut p (u ∷ us) x vs a = (λ i. cond (a.0 i) (Some u.1) (find (us ++ (p, x) ∷ vs) p)) ∙ find-cut p us x vs a.1

  pub without-cut : (p : Ptr) (us : List (Ptr × A)) (x : A) (vs : List (Ptr × A)) → Apart (places (us ++ (p, x) ∷ vs)) → without p (us ++ (p, x) ∷ vs) ≡ us ++ vs
  without-cut p us x vs a =
      let d : Apart (places us ++ p ∷ places vs) = subst Apart (places-append us ((p, x) ∷ vs)) a in
      without-append p us ((p, x) ∷ vs) ∙ (λ i. without-absent p us (Apart-before (places us) p (places vs) d) i
      ++ ((λ j. cond (same_ptr_refl p j) (without p vs) ((p, x) ∷ without p vs)) ∙ without-absent p vs (Apart-behind (places us) p (places vs) d)) i)

  found_cons : (x : Ptr × A) (xs : List (Ptr × A)) (p : Ptr) (b : Bool) → same_ptr x.0 p ≡ b → IsSome (find xs p) → IsSome (cond b (Some x.1) (find xs p))
  found_cons x xs p true e h = refl
  found_cons x xs p false e h = h

  pub found-append_right : (xs ys : List (Ptr × A)) (p : Ptr) → IsSome (find ys p) → IsSome (find (xs ++ ys) p)
  found-append_right [] ys p h = h
  found-append_right (x ∷ xs) ys p h = found_cons x (xs ++ ys) p (same_ptr x.0 p) refl (found-append_right xs ys p h)

  found_more : (x : Ptr × A) (xs ys : List (Ptr × A)) (p : Ptr) (b : Bool) → same_ptr x.0 p ≡ b → (IsSome (find xs p) → IsSome (find ys p)) → IsSome (cond b (Some x.1) (find xs p)) → IsSome (cond b (Some x.1) (find ys p))
  found_more x xs ys p true e k h = refl
  found_more x xs ys p false e k h = k h

  pub found-append_left : (xs ys : List (Ptr × A)) (p : Ptr) → IsSome (find xs p) → IsSome (find (xs ++ ys) p)
  found-append_left [] ys p h = cc
  found-append_left (x ∷ xs) ys p h = found_more x xs (xs ++ ys) p (same_ptr x.0 p) refl (found-append_left xs ys p) h

  found_alter : (x : A) (y : A) (xs ys : List (Ptr × A)) (p : Ptr) (b : Bool) → (IsSome (find xs p) → IsSome (find ys p)) → IsSome (cond b (Some x) (find xs p)) → IsSome (cond b (Some y) (find ys p))
  found_alter x y xs ys p true k h = refl
  found_alter x y xs ys p false k h = k h

  pub found-alter : (g : A → A) (q : Ptr) (xs : List (Ptr × A)) (p : Ptr) → IsSome (find xs p) → IsSome (find (alter g q xs) p)
  found-alter g q [] p h = h
  found-alter g q (x ∷ xs) p h = found_alter x.1 (cond (same_ptr x.0 q) (g x.1) x.1) xs (alter g q xs) p (same_ptr x.0 p) (found-alter g q xs p) h

  pub found_first : (x : Ptr × A) (xs : List (Ptr × A)) → IsSome (find (x ∷ xs) x.0)
  found_first x xs = subst (λ (b : Bool). IsSome (cond b (Some x.1) (find xs x.0))) (sym (same_ptr_refl x.0)) refl
