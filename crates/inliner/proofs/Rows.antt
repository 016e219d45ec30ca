-- Rows of children.
use Rattle.std.specs.Prelude.{ℕ, zero, suc, Bool, true, false, ◌==◌, if◌then◌else◌, List, [], ◌∷◌, ◌++◌, length, replicate, slice_get, slice_set, Option, Some, None, ◌⊎◌}
use Rattle.std.proofs.Common.{◌≡◌, ◌≢◌, refl, sym, ap, ◌∙◌, subst, ◌+◌, ◌<◌, ◌≤◌, arith, inl, inr, get_or, take}
use Rattle.std.proofs.lemmas.Bool.Decides.{eqb_tells}
use Rattle.std.proofs.lemmas.List.{append-nil, take_all, take_more}
use Rattle.typed_tree.specs.declared.outlines.ElementOutline.{ElementOutline}
use Rattle.typed_tree.specs.declared.trees.TypedComponent.{TypedComponent}
use Rattle.expanded_tree.specs.Components.{each_below, elements_at, elements_in}
use Rattle.expanded_tree.specs.Order.{children_from, children_if, children_of, is_inside}
use Rattle.inliner.specs.Children.{AreChildren, AreRows, row_at, row_in, row_of, rows_in, with_child, with_child_at}

get_set_same : {A : Type 0} (xs : List A) (i : ℕ) (v : A) → i < length xs → slice_get (slice_set xs i v) i ≡ Some v
get_set_same [] i v h = absurd (omega arith)
get_set_same (x ∷ xs) zero v h = refl
get_set_same (x ∷ xs) (suc i) v h = get_set_same xs i v (omega arith)

get_set_other : {A : Type 0} (xs : List A) (i j : ℕ) (v : A) → j ≢ i → slice_get (slice_set xs i v) j ≡ slice_get xs j
get_set_other [] i j v n = refl
get_set_other (x ∷ xs) zero zero v n = absurd (n refl)
get_set_other (x ∷ xs) zero (suc j) v n = refl
get_set_other (x ∷ xs) (suc i) zero v n = refl
get_set_other (x ∷ xs) (suc i) (suc j) v n = get_set_other xs i j v (λ e. n (ap suc e))

pub length-set : {A : Type 0} (xs : List A) (i : ℕ) (x : A) → length (slice_set xs i x) ≡ length xs
length-set [] i x = refl
length-set (y ∷ ys) zero x = refl
length-set (y ∷ ys) (suc i) x = ap suc (length-set ys i x)

pub set_past : {A : Type 0} (xs : List A) (i : ℕ) (x : A) → length xs ≤ i → slice_set xs i x ≡ xs
set_past [] i x past = refl
set_past (y ∷ ys) zero x past = absurd (omega arith)
set_past (y ∷ ys) (suc i) x past = ap (λ zs. y ∷ zs) (set_past ys i x (omega arith))

-- what one more element adds to the row of an element
abbrev pub added : ℕ → Option ℕ → ℕ → List ℕ
added e parent child = if is_inside e parent then child ∷ [] else []

abbrev if_same : Bool → ℕ → List ℕ
if_same b child = if b then child ∷ [] else []

row_by : (rows : List (List ℕ)) (p child e : ℕ) → e < length rows → ((p == e) ≡ true) × (p ≡ e) ⊎ ((p == e) ≡ false) × (p ≢ e)
    → row_at (with_child_at rows p child) e ≡ row_at rows e ++ if_same (p == e) child
row_by rows p child e within (inl t) = rw t.0
    (subst (λ n. row_at (with_child_at rows p child) n ≡ row_at rows n ++ child ∷ []) t.1 (ap row_in (get_set_same rows p (row_at rows p ++ child ∷ []) (subst (λ n. n < length rows) (sym t.1) within))))
row_by rows p child e within (inr t) = rw t.0
    (ap row_in (get_set_other rows p e (row_at rows p ++ child ∷ []) (λ q. t.1 (sym q))) ∙ sym (append-nil (row_at rows e)))

pub row_now : (rows : List (List ℕ)) (parent : Option ℕ) (child e : ℕ) → e < length rows → row_at (with_child rows parent child) e ≡ row_at rows e ++ added e parent child
row_now rows None child e within = sym (append-nil (row_at rows e))
row_now rows (Some p) child e within = row_by rows p child e within (eqb_tells p e)

pub length-with_child : (rows : List (List ℕ)) (parent : Option ℕ) (child : ℕ) → length (with_child rows parent child) ≡ length rows
length-with_child rows None child = refl
length-with_child rows (Some p) child = length-set rows p (row_at rows p ++ child ∷ [])

-- an element that isn't there takes no child
pub nobody : (rows : List (List ℕ)) (p child : ℕ) → length rows ≤ p → rows ≡ with_child rows (Some p) child
nobody rows p child past = sym (set_past rows p (row_at rows p ++ child ∷ []) past)

-- one more element behind the others
children_by : (b : Bool) (n : ℕ) (more all : List ℕ) → (if b then n ∷ (more ++ all) else more ++ all) ≡ (if b then n ∷ more else more) ++ all
children_by true n more all = refl
children_by false n more all = refl

pub children-append : (n e : ℕ) (xs : List ElementOutline) (x : ElementOutline) → children_from n e (xs ++ x ∷ []) ≡ children_from n e xs ++ added e x.parent (n + length xs)
children-append n e [] x =
    let none : n + 0 ≡ n = omega arith in
    rw none refl
children-append n e (y ∷ ys) x =
    let goes : n + suc (length ys) ≡ suc n + length ys = omega arith in
    rw goes (rw (children-append (suc n) e ys x) (children_by (is_inside e y.parent) n (children_from (suc n) e ys) (added e x.parent (suc n + length ys))))

-- the rows of the elements so far
pub record AreRowsOf (elements : List ElementOutline) (n : ℕ) (rows : List (List ℕ)) : Type 0 where
  pub sized : length rows ≡ length elements
  pub each : (e : ℕ) → e < length elements → row_at rows e ≡ children_from 0 e (take n elements)

none_at : (n e : ℕ) → row_at (replicate n []) e ≡ []
none_at zero e = refl
none_at (suc n) zero = refl
none_at (suc n) (suc e) = none_at n e

length-none : (n : ℕ) → length (replicate n (let none : List ℕ = [] in none)) ≡ n
length-none zero = refl
length-none (suc n) = ap suc (length-none n)

pub rows_begin : (elements : List ElementOutline) (rows : List (List ℕ)) → rows ≡ replicate (length elements) [] → AreRowsOf elements 0 rows
rows_begin elements rows is = record {
  sized = ap length is ∙ length-none (length elements);
  each = λ e within. ap (λ r. row_at r e) is ∙ none_at (length elements) e;
}

taken : (xs : List ElementOutline) (i : ℕ) (x : ElementOutline) → x ≡ get_or xs i x → i < length xs → take (i + 1) xs ≡ take i xs ++ x ∷ []
taken xs i x is within = take_more xs i x within ∙ ap (λ y. take i xs ++ y ∷ []) (sym is)

length_taken : (xs : List ElementOutline) (i : ℕ) → i < length xs → 0 + length (take i xs) ≡ i
length_taken [] i h = absurd (omega arith)
length_taken (x ∷ xs) zero h = refl
length_taken (x ∷ xs) (suc i) h =
    let below : 0 + length (take i xs) ≡ i = length_taken xs i (omega arith) in
    omega arith

pub rows_go : (elements : List ElementOutline) (i : ℕ) (x : ElementOutline) (rows : List (List ℕ)) {rows2 : List (List ℕ)} → x ≡ get_or elements i x → i < length elements
    → rows2 ≡ with_child rows x.parent i → AreRowsOf elements i rows → AreRowsOf elements (i + 1) rows2
rows_go elements i x rows {rows2 = rows2} is within goes known = record {
  sized = ap length goes ∙ length-with_child rows x.parent i ∙ known.sized;
  each = λ e below.
      ap (λ r. row_at r e) goes ∙ row_now rows x.parent i e (subst (λ n. e < n) (sym known.sized) below) ∙ ap (λ r. r ++ added e x.parent i) (known.each e below)
      ∙ ap (λ n. children_from 0 e (take i elements) ++ added e x.parent n) (sym (length_taken elements i within))
      ∙ sym (children-append 0 e (take i elements) x)
      ∙ ap (λ xs. children_from 0 e xs) (sym (taken elements i x is within));
}

pub none_past : {A : Type 0} (xs : List A) (i : ℕ) → length xs ≤ i → slice_get xs i ≡ None
none_past [] i past = refl
none_past (x ∷ xs) zero past = absurd (omega arith)
none_past (x ∷ xs) (suc i) past = none_past xs i (omega arith)

none_is_past : {A : Type 0} (xs : List A) (i : ℕ) → slice_get xs i ≡ None → length xs ≤ i
none_is_past [] i e = omega arith
none_is_past (x ∷ xs) zero e = cc
none_is_past (x ∷ xs) (suc i) e =
    let below : length xs ≤ i = none_is_past xs i e in
    omega arith

pub some_within : {A : Type 0} (xs : List A) (i : ℕ) (x : A) → slice_get xs i ≡ Some x → i < length xs
some_within [] i x e = cc
some_within (y ∷ ys) zero x e = omega arith
some_within (y ∷ ys) (suc i) x e =
    let below : i < length ys = some_within ys i x e in
    omega arith

further : {A : Type 0} (xs : List A) (i : ℕ) → ((y : A) × (slice_get xs i ≡ Some y)) ⊎ (length xs ≤ i) → ((y : A) × (slice_get xs i ≡ Some y)) ⊎ (suc (length xs) ≤ suc i)
further xs i (inl some) = inl some
further xs i (inr past) = inr (omega arith)

pub some_or_past : {A : Type 0} (xs : List A) (i : ℕ) → ((x : A) × (slice_get xs i ≡ Some x)) ⊎ (length xs ≤ i)
some_or_past [] i = inr (omega arith)
some_or_past (x ∷ xs) zero = inl (x, refl)
some_or_past (x ∷ xs) (suc i) = further xs i (some_or_past xs i)

by_element : (elements : List ElementOutline) (rows : List (List ℕ)) (e : ℕ) (o : Option ElementOutline) → slice_get elements e ≡ o → length rows ≡ length elements
    → ((d : ℕ) → d < length elements → row_at rows d ≡ children_from 0 d elements) → row_at rows e ≡ children_if elements e o
by_element elements rows e None is sized each =
    let past : length elements ≤ e = none_is_past elements e is in
    ap row_in (none_past rows e (subst (λ n. n ≤ e) (sym sized) past))
by_element elements rows e (Some x) is sized each = each e (some_within elements e x is)

rows_right : (elements : List ElementOutline) (i : ℕ) (rows : List (List ℕ)) → length elements ≤ i → AreRowsOf elements i rows → AreRows elements rows
rows_right elements i rows past known = λ e. by_element elements rows e (slice_get elements e) refl known.sized
    (λ d within. known.each d within ∙ ap (λ xs. children_from 0 d xs) (take_all i elements past))

pub rows_end : (elements : List ElementOutline) (i : ℕ) (rows : List (List ℕ)) {made : List (List ℕ)} → length elements ≤ i → made ≡ rows → AreRowsOf elements i rows → AreRows elements made
rows_end elements i rows past is known = subst (λ r. AreRows elements r) (sym is) (rows_right elements i rows past known)

-- ---- all components

-- a component's rows
abbrev pub RowsAt : List TypedComponent → ℕ → Option (List (List ℕ)) → Type 0
RowsAt comps c None = slice_get comps c ≡ None
RowsAt comps c (Some rows) = AreRows (elements_at comps c) rows

pub record AreTablesOf (comps : List TypedComponent) (n : ℕ) (tables : List (List (List ℕ))) : Type 0 where
  pub sized : length tables ≡ n
  pub each : (c : ℕ) → c < n → RowsAt comps c (slice_get tables c)

pub push_each : {A : Type 0} (P : ℕ → Option A → Type 0) (xs : List A) (x : A) → ((k : ℕ) → k < length xs → P k (slice_get xs k)) → P (length xs) (Some x)
    → (k : ℕ) → k < length xs + 1 → P k (slice_get (xs ++ x ∷ []) k)
push_each P [] x each is zero less = is
push_each P [] x each is (suc k) less = absurd (omega arith)
push_each P (y ∷ ys) x each is zero less = each zero (omega arith)
push_each P (y ∷ ys) x each is (suc k) less = push_each (λ n. P (suc n)) ys x (λ n below. each (suc n) (omega (arith, below))) is k (omega (arith, less))

pub length-push : {A : Type 0} (xs : List A) (x : A) → length (xs ++ x ∷ []) ≡ length xs + 1
length-push [] x = refl
length-push (y ∷ ys) x =
    let more : length (ys ++ x ∷ []) ≡ length ys + 1 = length-push ys x in
    omega arith

pub tables_begin : (comps : List TypedComponent) (tables : List (List (List ℕ))) → tables ≡ [] → AreTablesOf comps 0 tables
tables_begin comps tables is = record { sized = ap length is; each = λ c below. absurd (omega arith) }

pub tables_go : (comps : List TypedComponent) (i : ℕ) (comp : TypedComponent) (rows : List (List ℕ)) (tables : List (List (List ℕ))) {elements : List ElementOutline} {tables2 : List (List (List ℕ))}
    → slice_get comps i ≡ Some comp → elements ≡ comp.outline.elements → AreRows elements rows → tables2 ≡ tables ++ rows ∷ [] → AreTablesOf comps i tables → AreTablesOf comps (i + 1) tables2
tables_go comps i comp rows tables is same right goes known = subst (λ x. AreTablesOf comps (i + 1) x) (sym goes) (record {
  sized = length-push tables rows ∙ ap (λ n. n + 1) known.sized;
  each = λ c below. push_each (RowsAt comps) tables rows (λ k less. known.each k (subst (λ n. k < n) known.sized less))
      (subst (λ n. AreRows (elements_at comps n) rows) (sym known.sized) (subst (λ x. AreRows (elements_in x) rows) (sym is) (subst (λ es. AreRows es rows) same right)))
      c (subst (λ n. c < n + 1) (sym known.sized) below);
})

-- a component that isn't there has no elements
nothing : (comps : List TypedComponent) (c e : ℕ) → slice_get comps c ≡ None → [] ≡ children_of (elements_at comps c) e
nothing comps c e is = rw is refl

by_rows : (comps : List TypedComponent) (c e : ℕ) (rows : Option (List (List ℕ))) → RowsAt comps c rows → row_at (rows_in rows) e ≡ children_of (elements_at comps c) e
by_rows comps c e None is = nothing comps c e is
by_rows comps c e (Some rows) right = right e

pub less_or_not : (c n : ℕ) → (c < n) ⊎ (n ≤ c)
less_or_not zero zero = inr (omega arith)
less_or_not zero (suc n) = inl (omega arith)
less_or_not (suc c) zero = inr (omega arith)
less_or_not (suc c) (suc n) = by (less_or_not c n)
  where
    by : (c < n) ⊎ (n ≤ c) → (suc c < suc n) ⊎ (suc n ≤ suc c)
    by (inl h) = inl (omega arith)
    by (inr h) = inr (omega arith)

pub tables_end : (comps : List TypedComponent) (i : ℕ) (tables : List (List (List ℕ))) → length comps ≤ i → i ≤ length comps → AreTablesOf comps i tables → AreChildren comps tables
tables_end comps i tables past within known = λ c e. by c e (less_or_not c i)
  where
    by : (c e : ℕ) → (c < i) ⊎ (i ≤ c) → row_of tables c e ≡ children_of (elements_at comps c) e
    by c e (inl h) = by_rows comps c e (slice_get tables c) (known.each c h)
    by c e (inr h) =
        ap (λ r. row_at (rows_in r) e) (none_past tables c (subst (λ n. n ≤ c) (sym known.sized) h))
        ∙ nothing comps c e (none_past comps c (omega arith))

length-each : {A : Type 0} (f : ℕ → A) (n : ℕ) → length (each_below f n) ≡ n
length-each f zero = refl
length-each f (suc n) =
    let more : length (each_below f n ++ f n ∷ []) ≡ length (each_below f n) + 1 = length-push (each_below f n) (f n) in
    let below : length (each_below f n) ≡ n = length-each f n in
    omega arith

-- what stands at a number
pub each_read : {A : Type 0} (f : ℕ → A) (n k : ℕ) → k < n → slice_get (each_below f n) k ≡ Some (f k)
each_read f zero k less = absurd (omega arith)
each_read f (suc n) k less = push_each (λ m o. o ≡ Some (f m)) (each_below f n) (f n) (λ m below. each_read f n m (subst (λ x. m < x) (length-each f n) below))
    (ap (λ x. Some (f x)) (sym (length-each f n))) k (let below : k < length (each_below f n) + 1 = omega (arith, length-each f n) in below)
