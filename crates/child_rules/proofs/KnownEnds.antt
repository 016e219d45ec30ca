-- The cursors that are known, and the ways to them.
use Rattle.std.specs.Option.{is_some}
use Rattle.std.proofs.Common.{◌≡◌, ℕ, zero, suc, ◌+◌, ◌-◌, ◌<◌, ◌≤◌, true, List, [], ◌∷◌, ◌++◌, length, set, slice_get, Option, Some, None, refl, sym, ap, ◌∙◌, subst, arith}
use Rattle.element_tables.specs.declared.elements.ElementKind.TheVariants as element_kind
use Rattle.typed_tree.specs.declared.outlines.ComponentOutline.{ComponentOutline}
use Rattle.typed_tree.specs.declared.outlines.ElementType.{ElementType}
use Rattle.typed_tree.specs.declared.outlines.ElementType.TheVariants as element_type
use Rattle.source_scopes.specs.Declarations.{FileComponent}
use Rattle.child_rules.specs.declared.cursors.Cursor.{Cursor}
use Rattle.child_rules.specs.Ends.{AreEnds, AreKnown, IsEnd, IsEndFor, IsKnown, Trail, cursor_or_start, is_settled, known_at, known_cursor, known_in}
use Rattle.child_rules.specs.Grids.{end_of, end_within, own_cells}
use Rattle.child_rules.specs.Landing.{landing, landing_within, taker, taker_in}

-- ---- trails

-- a trail goes on to what its last component takes
pub trail_more : (comps : List ComponentOutline) (from to : ElementType) (cs : List ℕ) (c : ℕ) → Trail comps from cs to → to ≡ element_type.Component c → Trail comps from (cs ++ c ∷ []) (taker comps c)
trail_more comps from to [] c held is = (held ∙ is, refl)
trail_more comps from to (d ∷ cs) c held is = (held.0, trail_more comps (taker comps d) to cs c held.1 is)

-- the last component of a trail takes its end
pub trail_last : (comps : List ComponentOutline) (from to : ElementType) (cs : List ℕ) (c : ℕ) → Trail comps from (cs ++ c ∷ []) to → Trail comps from cs (element_type.Component c) × (taker comps c ≡ to)
trail_last comps from to [] c held = (held.0, held.1)
trail_last comps from to (d ∷ cs) c held = let more = trail_last comps (taker comps d) to cs c held.1 in ((held.0, more.0), more.1)

-- ---- cursors

-- the cursor behind what a component adds to that of what takes it
pub is_end_more : (declared : List FileComponent) (comps : List ComponentOutline) (c : ℕ) (t : ElementType) (cursor next : Cursor) → IsEnd declared comps t cursor → taker comps c ≡ t
    → next ≡ own_cells declared comps c cursor → IsEnd declared comps (element_type.Component c) next
is_end_more declared comps c t cursor next held takes adds zero lands = cc
is_end_more declared comps c t cursor next held takes adds (suc n) lands =
    adds ∙ ap (own_cells declared comps c) (held n (ap (landing_within n (taker comps)) (sym takes) ∙ lands) ∙ ap (end_within n (taker comps) (own_cells declared comps)) (sym takes))

known_one : (declared : List FileComponent) (comps : List ComponentOutline) (c : ℕ) (o : Option Cursor) → IsKnown declared comps c o → is_some o ≡ true → IsEnd declared comps (element_type.Component c) (cursor_or_start o)
known_one declared comps c None held there = cc
known_one declared comps c (Some cursor) held there = held

-- what is known of a type is its cursor
pub known_is_end : (declared : List FileComponent) (comps : List ComponentOutline) (known : List (Option Cursor)) (t : ElementType) → AreKnown declared comps known → is_settled known t ≡ true
    → IsEnd declared comps t (known_cursor known t)
known_is_end declared comps known (element_type.BuiltIn kind) held there = λ n lands. refl
known_is_end declared comps known (element_type.Component c) held there = known_one declared comps c (known_at known c) (held c) there

-- ---- lists

-- what holds of each item of a list, or of none behind it, holds with another item set that it holds of
set_keeps : {A : Type 0} (P : ℕ → Option A → Type 0) (xs : List A) (i : ℕ) (x : A) → ((k : ℕ) → P k (slice_get xs k)) → P i (Some x) → (k : ℕ) → P k (slice_get (set xs i x) k)
set_keeps P [] i x held here k = held k
set_keeps P (y ∷ ys) zero x held here zero = here
set_keeps P (y ∷ ys) zero x held here (suc k) = held (suc k)
set_keeps P (y ∷ ys) (suc i) x held here zero = held zero
set_keeps P (y ∷ ys) (suc i) x held here (suc k) = set_keeps (λ n. P (suc n)) ys i x (λ n. held (suc n)) here k

-- the same with an item put behind it
push_keeps : {A : Type 0} (P : ℕ → Option A → Type 0) (xs : List A) (x : A) → ((k : ℕ) → P k (slice_get xs k)) → P (length xs) (Some x) → ((k : ℕ) → P k None) → (k : ℕ) → P k (slice_get (xs ++ x ∷ []) k)
push_keeps P [] x held here none zero = here
push_keeps P [] x held here none (suc k) = none (suc k)
push_keeps P (y ∷ ys) x held here none zero = held zero
push_keeps P (y ∷ ys) x held here none (suc k) = push_keeps (λ n. P (suc n)) ys x (λ n. held (suc n)) here (λ n. none (suc n)) k

-- one more cursor is known
pub known_more : (declared : List FileComponent) (comps : List ComponentOutline) (known : List (Option Cursor)) (c : ℕ) (cursor : Cursor) → AreKnown declared comps known
    → IsEnd declared comps (element_type.Component c) cursor → AreKnown declared comps (set known c (Some cursor))
known_more declared comps known c cursor held is = set_keeps (λ d o. IsKnown declared comps d (known_in o)) known c (Some cursor) held is

-- nothing is known at first
pub nothing_more : (known : List (Option Cursor)) → ((c : ℕ) → known_at known c ≡ None) → (c : ℕ) → known_at (known ++ None ∷ []) c ≡ None
nothing_more known held = push_keeps (λ d o. known_in o ≡ None) known None held refl (λ d. refl)

known_none : (declared : List FileComponent) (comps : List ComponentOutline) (c : ℕ) (o : Option Cursor) → o ≡ None → IsKnown declared comps c o
known_none declared comps c None is = tt
known_none declared comps c (Some cursor) is = cc

pub known_first : (declared : List FileComponent) (comps : List ComponentOutline) (known : List (Option Cursor)) → ((c : ℕ) → known_at known c ≡ None) → AreKnown declared comps known
known_first declared comps known held = λ c. known_none declared comps c (known_at known c) (held c)

-- ---- the cursors of all components

abbrev pub AreEndsFor : List FileComponent → List ComponentOutline → List Cursor → Type 0
AreEndsFor declared comps ends = (c : ℕ) → IsEndFor declared comps c (slice_get ends c)

pub no_ends : (declared : List FileComponent) (comps : List ComponentOutline) (ends : List Cursor) → ends ≡ [] → AreEndsFor declared comps ends
no_ends declared comps [] none = λ c. tt
no_ends declared comps (x ∷ xs) none = cc

pub ends_more : (declared : List FileComponent) (comps : List ComponentOutline) (ends : List Cursor) (i : ℕ) (cursor : Cursor) → AreEndsFor declared comps ends → length ends ≡ i
    → IsEndFor declared comps i (Some cursor) → AreEndsFor declared comps (ends ++ cursor ∷ [])
ends_more declared comps ends i cursor held many is =
    push_keeps (IsEndFor declared comps) ends cursor held (subst (λ n. IsEndFor declared comps n (Some cursor)) (sym many) is) (λ k. tt)

no_landing : (n : ℕ) (takes : ℕ → ElementType) (c : ℕ) → takes c ≡ element_type.BuiltIn element_kind.Empty → landing_within n takes (element_type.Component c) ≡ element_kind.Empty
no_landing zero takes c none = refl
no_landing (suc n) takes c none = ap (landing_within n takes) none

past_comps : {A : Type 0} (xs : List A) (i : ℕ) → length xs ≤ i → slice_get xs i ≡ None
past_comps [] i le = refl
past_comps (x ∷ xs) zero le = absurd (omega arith)
past_comps (x ∷ xs) (suc i) le = past_comps xs i (omega arith)

behind_end : {A : Type 0} (xs : List A) (i : ℕ) → slice_get xs i ≡ None → length xs ≤ i
behind_end [] i none = omega arith
behind_end (x ∷ xs) zero none = cc
behind_end (x ∷ xs) (suc i) none = let more : length xs ≤ i = behind_end xs i none in omega arith

end_one : (declared : List FileComponent) (comps : List ComponentOutline) (ends : List Cursor) (c : ℕ) (o : Option Cursor) → length ends ≡ length comps → slice_get ends c ≡ o → IsEndFor declared comps c o
    → landing comps (element_type.Component c) ≡ element_kind.GridLayout → cursor_or_start o ≡ end_of declared comps (element_type.Component c)
end_one declared comps ends c None many none held lands =
    let past : length ends ≤ c = behind_end ends c none in
    let gone : slice_get comps c ≡ None = past_comps comps c (omega arith) in
    let lost : landing comps (element_type.Component c) ≡ element_kind.Empty = no_landing (length comps) (taker comps) c (ap taker_in gone) in
    cc
end_one declared comps ends c (Some cursor) many is held lands = held lands

pub are_ends : (declared : List FileComponent) (comps : List ComponentOutline) (ends : List Cursor) → length ends ≡ length comps → AreEndsFor declared comps ends → AreEnds declared comps ends
are_ends declared comps ends many held (element_type.BuiltIn kind) lands = refl
are_ends declared comps ends many held (element_type.Component c) lands = end_one declared comps ends c (slice_get ends c) many refl (held c) lands

-- ---- the way

-- a component that isn't known is passed
pub lands_on : (comps : List ComponentOutline) (n i c : ℕ) (end next : ElementType) → i < n → landing_within (n - i) (taker comps) end ≡ element_kind.GridLayout → end ≡ element_type.Component c → next ≡ taker comps c
    → landing_within (n - (i + 1)) (taker comps) next ≡ element_kind.GridLayout
lands_on comps n i c end next within lands is goes =
    let more : n - i ≡ suc (n - (i + 1)) = omega arith in
    ap (landing_within (n - (i + 1)) (taker comps)) goes ∙ sym (ap (λ m. landing_within m (taker comps) (element_type.Component c)) more) ∙ sym (ap (landing_within (n - i) (taker comps)) is) ∙ lands

settled_at : (comps : List ComponentOutline) (known : List (Option Cursor)) (end : ElementType) → landing_within 0 (taker comps) end ≡ element_kind.GridLayout → is_settled known end ≡ true
settled_at comps known (element_type.BuiltIn kind) lands = refl
settled_at comps known (element_type.Component c) lands = cc

-- behind as many steps as there are components a built-in element is reached
pub settled_last : (comps : List ComponentOutline) (known : List (Option Cursor)) (n i : ℕ) (end : ElementType) → n ≤ i → landing_within (n - i) (taker comps) end ≡ element_kind.GridLayout → is_settled known end ≡ true
settled_last comps known n i end past lands =
    let none : n - i ≡ 0 = omega arith in
    settled_at comps known end (sym (ap (λ m. landing_within m (taker comps) end) none) ∙ lands)
