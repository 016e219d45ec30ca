-- The row of a member stands at the member's number.
use Rattle.std.proofs.Common.{◌≡◌, ℕ, zero, suc, ◌+◌, ◌-◌, ◌<◌, ◌⊎◌, inl, inr, Bool, true, false, List, [], ◌∷◌, ◌++◌, length, map, Option, None, Some, refl, sym, ap, subst, ◌∙◌, arith, append_assoc}
use Rattle.std.specs.Prelude.{if◌then◌else◌, nat_lt, slice_get, sum}
use Rattle.std.proofs.lemmas.Bool.{ltb-true}
use Rattle.std.proofs.lemmas.List.{length-append}
use Rattle.std.proofs.lemmas.List.Sums.{sum_by-cons}
use Rattle.element_tables.specs.Members.{kinds}
use Rattle.typed_tree.specs.declared.trees.TypedComponent.{TypedComponent}
use Rattle.expanded_tree.specs.declared.bodies.Body.{Body}
use Rattle.expanded_tree.specs.declared.members.ExpandedMember.{ExpandedMember}
use Rattle.expanded_tree.specs.declared.members.ExpandedMember.TheVariants as members
use Rattle.expanded_tree.specs.Trees.{ExpandedValue}
use Rattle.finite_graphs.specs.Walks.{At, first, next}
use Rattle.finite_graphs.proofs.Lists.{Behind, Standing, at_behind, at_front, at_left, at_none, at_same, at_some, at_split, at_within}
use Rattle.alias_merge.specs.declared.rows.MemberRow.{MemberRow}
use Rattle.alias_merge.specs.Candidates.{numbered_all}
use Rattle.alias_merge.specs.Numbers.{blocks_from, body_size, count, declared_in, element_size, global_size, number_of, number_within, sizes}
use Rattle.alias_merge.specs.Rows.{body_rows, built_in_row, declared_row, global_row, global_rows, member_rows, members_in, rows_of_body, rows_of_element, rows_of_global}
use Rattle.alias_merge.proofs.CircleMarks.{get_at}
use Rattle.alias_merge.proofs.SomeLabels.{each_at, each_sized}

-- ---- lists of rows, one behind the other

abbrev joined : {A : Type 0} → List (List A) → List A
joined [] = []
joined (xs ∷ xss) = xs ++ joined xss

-- the list of each thing
abbrev lists_of : {A B : Type 0} → (ℕ → A → List B) → ℕ → List A → List (List B)
lists_of f n [] = []
lists_of f n (x ∷ xs) = f n x ∷ lists_of f (suc n) xs

joined_all : {A B : Type 0} (f : ℕ → A → List B) (n : ℕ) (xs : List A) → joined (lists_of f n xs) ≡ numbered_all f n xs
joined_all f n [] = refl
joined_all f n (x ∷ xs) = ap (λ ys. f n x ++ ys) (joined_all f (suc n) xs)

joined_both : {A : Type 0} (xss yss : List (List A)) → joined (xss ++ yss) ≡ joined xss ++ joined yss
joined_both [] yss = refl
joined_both (xs ∷ xss) yss = ap (λ ys. xs ++ ys) (joined_both xss yss) ∙ sym (append_assoc xs (joined xss) (joined yss))

-- so many each
data Sized {A : Type 0} : List (List A) → List ℕ → Type 0 where
  no_more : Sized [] []
  more : {xs : List A} {xss : List (List A)} {n : ℕ} {ns : List ℕ} → length xs ≡ n → Sized xss ns → Sized (xs ∷ xss) (n ∷ ns)

sized_both : {A : Type 0} {xss yss : List (List A)} {ms ns : List ℕ} → Sized xss ms → Sized yss ns → Sized (xss ++ yss) (ms ++ ns)
sized_both no_more h = h
sized_both (more e g) h = more e (sized_both g h)

sized_lists : {A B : Type 0} (f : ℕ → A → List B) (size : A → ℕ) → ((n : ℕ) (x : A) → length (f n x) ≡ size x) → (n : ℕ) (xs : List A) → Sized (lists_of f n xs) (map size xs)
sized_lists f size each n [] = no_more
sized_lists f size each n (x ∷ xs) = more (each n x) (sized_lists f size each (suc n) xs)

sum_more : (n : ℕ) (ns : List ℕ) → sum (n ∷ ns) ≡ n + sum ns
sum_more n ns = sum_by-cons (λ x. x) n ns

joined_length : {A : Type 0} {xss : List (List A)} {ns : List ℕ} → Sized xss ns → length (joined xss) ≡ sum ns
joined_length no_more = refl
joined_length (more {xs = xs} {xss = xss} {n = n} {ns = ns} e g) =
    let k = joined_length g in
    let s = sum_more n ns in
    let l = length-append xs (joined xss) in
    omega (arith, k, s, l, e)

-- ---- blocks of numbers

-- a number of a block: the list of the block, and what stands there
record Found {A : Type 0} (xss : List (List A)) (from i k n : ℕ) : Type 0 where
  list : List A
  stands : At list xss i
  item : A
  within : At item list k
  place : ℕ
  is : n ≡ from + place
  whole : At item (joined xss) place

in_block : (t : Bool) (from size k n : ℕ) → nat_lt k ((from + size) - from) ≡ t → (if t then Some (from + k) else None) ≡ Some n → (k < size) × (n ≡ from + k)
in_block true from size k n l e = (let p = ltb-true k ((from + size) - from) l in omega (arith, p), some_number (from + k) n e)
  where
    some_number : (a b : ℕ) → Some a ≡ Some b → b ≡ a
    some_number a b q = cc
in_block false from size k n l e = absurd (cc)

found_first : {A : Type 0} (xs : List A) (xss : List (List A)) (from k n : ℕ) → n ≡ from + k → Standing xs k → Found (xs ∷ xss) from 0 k n
found_first xs xss from k n e s = record { list = xs; stands = first; item = s.item; within = s.stands; place = k; is = e; whole = at_left (joined xss) s.stands }

found_later : {A : Type 0} (xs : List A) (xss : List (List A)) (from size i k n : ℕ) → length xs ≡ size → Found xss (from + size) i k n → Found (xs ∷ xss) from (suc i) k n
found_later xs xss from size i k n l h =
    record { list = h.list; stands = next h.stands; item = h.item; within = h.within; place = length xs + h.place; is = let e = h.is in omega (arith, l, e); whole = at_behind xs h.whole }

found : {A : Type 0} {xss : List (List A)} {ns : List ℕ} → Sized xss ns → (from i k n : ℕ) → number_within k (slice_get (blocks_from from ns) i) ≡ Some n → Found xss from i k n
found no_more from i k n e = absurd (cc)
found (more {xs = xs} {xss = xss} {n = size} l g) from zero k n e =
    let b = in_block (nat_lt k ((from + size) - from)) from size k n refl e in
    found_first xs xss from k n b.1 (at_some xs k (let p = b.0 in omega (arith, p, l)))
found (more {xs = xs} {xss = xss} {n = size} l g) from (suc i) k n e = found_later xs xss from size i k n l (found g (from + size) i k n e)

-- ---- the list of a thing

record Made {A B : Type 0} (f : ℕ → A → List B) (n : ℕ) (xs : List A) (i : ℕ) (list : List B) : Type 0 where
  thing : A
  is : list ≡ f (n + i) thing

made_first : {A B : Type 0} (f : ℕ → A → List B) (n : ℕ) (x : A) (xs : List A) → Made f n (x ∷ xs) 0 (f n x)
made_first f n x xs = record { thing = x; is = ap (λ (m : ℕ). f m x) (let e : n ≡ n + 0 = omega arith in e) }

made_later : {A B : Type 0} (f : ℕ → A → List B) (n : ℕ) (x : A) (xs : List A) (i : ℕ) (list : List B) → Made f (suc n) xs i list → Made f n (x ∷ xs) (suc i) list
made_later f n x xs i list h = record { thing = h.thing; is = h.is ∙ ap (λ (m : ℕ). f m h.thing) (let e : suc n + i ≡ n + suc i = omega arith in e) }

made_by : {A B : Type 0} (f : ℕ → A → List B) (n : ℕ) (xs : List A) (i : ℕ) (list : List B) → At list (lists_of f n xs) i → Made f n xs i list
made_by f n [] i list h = absurd (at_none h)
made_by f n (x ∷ xs) zero list h = subst (λ ys. Made f n (x ∷ xs) 0 ys) (sym (at_same h first)) (made_first f n x xs)
made_by f n (x ∷ xs) (suc i) list (next h) = made_later f n x xs i list (made_by f (suc n) xs i list h)

lists_length : {A B : Type 0} (f : ℕ → A → List B) (n : ℕ) (xs : List A) → length (lists_of f n xs) ≡ length xs
lists_length f n [] = refl
lists_length f n (x ∷ xs) = let k = lists_length f (suc n) xs in omega (arith, k)

behind_front : {A : Type 0} {x : A} (xs ys : List A) (m i : ℕ) → length xs ≡ m → At x (xs ++ ys) (m + i) → At x ys i
behind_front {x = x} xs ys m i l h = by (at_split xs ys h)
  where
    by : At x xs (m + i) ⊎ Behind x xs ys (m + i) → At x ys i
    by (inl k) = let w = at_within k in absurd (omega (arith, l, w))
    by (inr b) = let e = b.is in subst (λ j. At x ys j) (let p : b.place ≡ i = omega (arith, l, e) in p) b.stands

-- ---- the rows of an expanded tree

-- of things of which each gives one
one_each_length : {A B : Type 0} (f : ℕ → A → B) (n : ℕ) (xs : List A) → length (numbered_all (λ i x. f i x ∷ []) n xs) ≡ length xs
one_each_length f n [] = refl
one_each_length f n (x ∷ xs) = let k = one_each_length f (suc n) xs in omega (arith, k)

record One {A B : Type 0} (f : ℕ → A → B) (n i : ℕ) (y : B) : Type 0 where
  thing : A
  is : y ≡ f (n + i) thing

one_first : {A B : Type 0} (f : ℕ → A → B) (n : ℕ) (x : A) (y : B) → y ≡ f n x → One f n 0 y
one_first f n x y e = record { thing = x; is = e ∙ ap (λ (m : ℕ). f m x) (let p : n ≡ n + 0 = omega arith in p) }

one_later : {A B : Type 0} (f : ℕ → A → B) (n i : ℕ) (y : B) → One f (suc n) i y → One f n (suc i) y
one_later f n i y h = record { thing = h.thing; is = h.is ∙ ap (λ (m : ℕ). f m h.thing) (let e : suc n + i ≡ n + suc i = omega arith in e) }

one_at : {A B : Type 0} (f : ℕ → A → B) (n : ℕ) (xs : List A) (i : ℕ) (y : B) → At y (numbered_all (λ i x. f i x ∷ []) n xs) i → One f n i y
one_at f n [] i y h = absurd (at_none h)
one_at f n (x ∷ xs) zero y h = one_first f n x y (at_same h first)
one_at f n (x ∷ xs) (suc i) y (next h) = one_later f n i y (one_at f (suc n) xs i y h)

members_sized : (comp : Option TypedComponent) → length (members_in comp) ≡ declared_in comp
members_sized None = refl
members_sized (Some comp) = refl

zero_more : (n : ℕ) → 0 + n ≡ n
zero_more n = omega arith

then_some : (t : Bool) (a b : ℕ) (o : Option ℕ) (n : ℕ) → nat_lt a b ≡ t → (if t then o else None) ≡ Some n → (a < b) × (o ≡ Some n)
then_some true a b o n l e = (ltb-true a b l, e)
then_some false a b o n l e = absurd (cc)

module _ (e : ExpandedValue) where
  abbrev of_globals : List (List MemberRow)
  of_globals = lists_of rows_of_global 0 e.tree.globals

  abbrev of_bodies : List (List MemberRow)
  of_bodies = lists_of (rows_of_body e) 0 e.bodies

  abbrev of_elements : List (List MemberRow)
  of_elements = lists_of rows_of_element 0 e.elements

  abbrev all_lists : List (List MemberRow)
  all_lists = (of_globals ++ of_bodies) ++ of_elements

  rows_joined : joined all_lists ≡ member_rows e
  rows_joined =
      joined_both (of_globals ++ of_bodies) of_elements
      ∙ (ap (λ (rs : List MemberRow). rs ++ joined of_elements) (joined_both of_globals of_bodies ∙ (ap (λ (rs : List MemberRow). rs ++ joined of_bodies) (joined_all rows_of_global 0 e.tree.globals)
      ∙ ap (λ (rs : List MemberRow). global_rows e ++ rs) (joined_all (rows_of_body e) 0 e.bodies)))
      ∙ ap (λ (rs : List MemberRow). (global_rows e ++ body_rows e) ++ rs) (joined_all rows_of_element 0 e.elements))

  body_length : (n : ℕ) (body : Body) → length (rows_of_body e n body) ≡ body_size e.tree.comps body
  body_length n body = one_each_length (declared_row e n) 0 (members_in (slice_get e.tree.comps body.comp)) ∙ members_sized (slice_get e.tree.comps body.comp)

  all_sized : Sized all_lists (sizes e)
  all_sized = sized_both
      (sized_both (sized_lists rows_of_global global_size (λ n global. each_sized (global_row n) (length global.outline.members)) 0 e.tree.globals) (sized_lists (rows_of_body e) (body_size e.tree.comps) body_length 0 e.bodies))
      (sized_lists rows_of_element element_size (λ n element. each_sized (built_in_row n element.repeaters) (length (kinds element.kind))) 0 e.elements)

  pub rows_counted : length (member_rows e) ≡ count e
  rows_counted = sym (ap (λ (rs : List MemberRow). length rs) rows_joined) ∙ joined_length all_sized

  globals_length : length of_globals ≡ length e.tree.globals
  globals_length = lists_length rows_of_global 0 e.tree.globals

  before_elements : length (of_globals ++ of_bodies) ≡ length e.tree.globals + length e.bodies
  before_elements =
      let g = globals_length in
      let b = lists_length (rows_of_body e) 0 e.bodies in
      let l = length-append of_globals of_bodies in
      omega (arith, g, b, l)

  -- a member's row at its number
  abbrev HasRow : ExpandedMember → ℕ → Type 0
  HasRow m n = (r : MemberRow) × (slice_get (member_rows e) n ≡ Some r) × (r.member ≡ m)

  row_of : (m : ExpandedMember) (i k n : ℕ) (h : Found all_lists 0 i k n) → h.item.member ≡ m → HasRow m n
  row_of m i k n h is =
      let place : h.place ≡ n = (let p = h.is in omega (arith, p)) in
      (h.item, subst (λ j. slice_get (member_rows e) j ≡ Some h.item) place (get_at (subst (λ (rs : List MemberRow). At h.item rs h.place) rows_joined h.whole)), is)

  found_at : (i k n : ℕ) → number_within k (slice_get (blocks_from 0 (sizes e)) i) ≡ Some n → Found all_lists 0 i k n
  found_at i k n h = found all_sized 0 i k n h

  global_is : (g k : ℕ) (list : List MemberRow) (r : MemberRow) → At list of_globals g → At r list k → r.member ≡ members.Global g k
  global_is g k list r h w =
      let m = made_by rows_of_global 0 e.tree.globals g list h in
      let is : r ≡ global_row (0 + g) k = each_at (global_row (0 + g)) (length m.thing.outline.members) (subst (λ (rs : List MemberRow). At r rs k) m.is w) in
      ap (λ (x : MemberRow). x.member) (is ∙ ap (λ (j : ℕ). global_row j k) (zero_more g))

  body_is : (b k : ℕ) (list : List MemberRow) (r : MemberRow) → At list of_bodies b → At r list k → r.member ≡ members.Declared b k
  body_is b k list r h w =
      let m = made_by (rows_of_body e) 0 e.bodies b list h in
      let o = one_at (declared_row e (0 + b)) 0 (members_in (slice_get e.tree.comps m.thing.comp)) k r (subst (λ (rs : List MemberRow). At r rs k) m.is w) in
      ap (λ (x : MemberRow). x.member) o.is ∙ (ap (λ (j : ℕ). members.Declared j (0 + k)) (zero_more b) ∙ ap (λ (j : ℕ). members.Declared b j) (zero_more k))

  element_is : (x k : ℕ) (list : List MemberRow) (r : MemberRow) → At list of_elements x → At r list k → r.member ≡ members.BuiltIn x k
  element_is x k list r h w =
      let m = made_by rows_of_element 0 e.elements x list h in
      let is : r ≡ built_in_row (0 + x) m.thing.repeaters k = each_at (built_in_row (0 + x) m.thing.repeaters) (length (kinds m.thing.kind)) (subst (λ (rs : List MemberRow). At r rs k) m.is w) in
      ap (λ (y : MemberRow). y.member) is ∙ ap (λ (j : ℕ). members.BuiltIn j k) (zero_more x)

  of_global : (g k n : ℕ) → (g < length e.tree.globals) × (number_within k (slice_get (blocks_from 0 (sizes e)) g) ≡ Some n) → HasRow (members.Global g k) n
  of_global g k n h =
      let f = found_at g k n h.1 in
      let within : g < length of_globals = (let l = h.0 in let s = globals_length in omega (arith, l, s)) in
      let before : g < length (of_globals ++ of_bodies) = (let l = length-append of_globals of_bodies in omega (arith, within, l)) in
      row_of (members.Global g k) g k n f (global_is g k f.list f.item (at_front of_globals of_bodies (at_front (of_globals ++ of_bodies) of_elements f.stands before) within) f.within)

  of_body : (b k n : ℕ) → (b < (length e.tree.globals + length e.bodies) - length e.tree.globals) × (number_within k (slice_get (blocks_from 0 (sizes e)) (length e.tree.globals + b)) ≡ Some n) → HasRow (members.Declared b k) n
  of_body b k n h =
      let f = found_at (length e.tree.globals + b) k n h.1 in
      let before : length e.tree.globals + b < length (of_globals ++ of_bodies) = (let l = h.0 in let s = before_elements in omega (arith, l, s)) in
      row_of (members.Declared b k) (length e.tree.globals + b) k n f
      (body_is b k f.list f.item (behind_front of_globals of_bodies (length e.tree.globals) b globals_length (at_front (of_globals ++ of_bodies) of_elements f.stands before)) f.within)

  of_element : (x k n : ℕ) → number_within k (slice_get (blocks_from 0 (sizes e)) ((length e.tree.globals + length e.bodies) + x)) ≡ Some n → HasRow (members.BuiltIn x k) n
  of_element x k n h =
      let f = found_at ((length e.tree.globals + length e.bodies) + x) k n h in
      row_of (members.BuiltIn x k) ((length e.tree.globals + length e.bodies) + x) k n f
      (element_is x k f.list f.item (behind_front (of_globals ++ of_bodies) of_elements (length e.tree.globals + length e.bodies) x before_elements f.stands) f.within)

  pub row_at : (m : ExpandedMember) (n : ℕ) → number_of e m ≡ Some n → HasRow m n
  row_at (members.Global g k) n h = of_global g k n (then_some (nat_lt g (length e.tree.globals)) g (length e.tree.globals) _ n refl h)
  row_at (members.Declared b k) n h =
      of_body b k n (then_some (nat_lt b ((length e.tree.globals + length e.bodies) - length e.tree.globals)) b ((length e.tree.globals + length e.bodies) - length e.tree.globals) _ n refl h)
  row_at (members.BuiltIn x k) n h = of_element x k n h
