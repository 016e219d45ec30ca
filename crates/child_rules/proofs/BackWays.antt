-- A way along takers, and back.
use Rattle.std.specs.Prelude.{MatchOption}
use Rattle.std.proofs.Common.{◌≡◌, ℕ, ◌+◌, ◌-◌, ◌<◌, ◌≤◌, true, false, List, [], ◌∷◌, ◌++◌, length, set, Option, Some, None, refl, sym, ap, ◌∙◌, subst, arith}
use Rattle.element_tables.specs.declared.elements.ElementKind.{ElementKind}
use Rattle.element_tables.specs.declared.elements.ElementKind.TheVariants as element_kind
use Rattle.typed_tree.specs.declared.outlines.ComponentOutline.{ComponentOutline}
use Rattle.typed_tree.specs.declared.outlines.ElementType.{ElementType}
use Rattle.typed_tree.specs.declared.outlines.ElementType.TheVariants as element_type
use Rattle.source_scopes.specs.Declarations.{FileComponent}
use Rattle.child_rules.specs.declared.cursors.Cursor.{Cursor}
use Rattle.child_rules.specs.declared.ends.Way.{Way}
use Rattle.child_rules.specs.Cells.{is_grid_kind}
use Rattle.child_rules.specs.Ends.{AreKnown, IsEnd, IsEndFor, Trail, is_settled, known_cursor}
use Rattle.child_rules.specs.Grids.{own_cells}
use Rattle.child_rules.specs.Landing.{landing, landing_within, taker}
use Rattle.child_rules.specs.Ways.{IsWay}
use Rattle.child_rules.proofs.KnownEnds.{is_end_more, known_is_end, known_more, lands_on, settled_last, trail_last, trail_more}

-- ---- the way there

pub record Going (comps : List ComponentOutline) (from : ℕ) (left : ℕ) (cs : List ℕ) (to : ElementType) : Type 0 where
  pub trail : Trail comps (element_type.Component from) cs to
  pub lands : landing_within left (taker comps) to ≡ element_kind.GridLayout

pub going_first : (comps : List ComponentOutline) (from n : ℕ) → n ≡ length comps → landing comps (element_type.Component from) ≡ element_kind.GridLayout → Going comps from (n - 0) [] (element_type.Component from)
going_first comps from n many lands =
    let all : n - 0 ≡ length comps = omega arith in
    record { trail = refl; lands = ap (λ m. landing_within m (taker comps) (element_type.Component from)) all ∙ lands }

pub going_on : (comps : List ComponentOutline) (from n i c : ℕ) (cs more : List ℕ) (to next : ElementType) → i < n → Going comps from (n - i) cs to → to ≡ element_type.Component c → more ≡ cs ++ c ∷ [] → next ≡ taker comps c
    → Going comps from (n - (i + 1)) more next
going_on comps from n i c cs more to next within held is adds goes = rw adds (record {
  trail = subst (Trail comps (element_type.Component from) (cs ++ c ∷ [])) (sym goes) (trail_more comps (element_type.Component from) to cs c held.trail is);
  lands = lands_on comps n i c to next within held.lands is goes;
})

pub gone_past : (comps : List ComponentOutline) (known : List (Option Cursor)) (from n i : ℕ) (cs : List ℕ) (to : ElementType) → n ≤ i → Going comps from (n - i) cs to
    → IsWay comps known (record { from = from; comps = cs; to = to })
gone_past comps known from n i cs to past held = record { trail = held.trail; settled = settled_last comps known n i to past held.lands }

pub gone_to : (comps : List ComponentOutline) (known : List (Option Cursor)) (from left : ℕ) (cs : List ℕ) (to : ElementType) → Going comps from left cs to → is_settled known to ≡ true
    → IsWay comps known (record { from = from; comps = cs; to = to })
gone_to comps known from left cs to held settled = record { trail = held.trail; settled = settled }

-- ---- and back

pub record Back (declared : List FileComponent) (comps : List ComponentOutline) (from : ℕ) (cs : List ℕ) (cursor : Cursor) (known : List (Option Cursor)) : Type 0 where
  pub at : ElementType
  pub trail : Trail comps (element_type.Component from) cs at
  pub is_end : IsEnd declared comps at cursor
  pub are_known : AreKnown declared comps known

pub back_first : (declared : List FileComponent) (comps : List ComponentOutline) (known : List (Option Cursor)) (way : Way) (cursor : Cursor) → AreKnown declared comps known → IsWay comps known way → cursor ≡ known_cursor known way.to
    → Back declared comps way.from way.comps cursor known
back_first declared comps known way cursor held leads is = record {
  at = way.to;
  trail = leads.trail;
  is_end = subst (IsEnd declared comps way.to) (sym is) (known_is_end declared comps known way.to held leads.settled);
  are_known = held;
}

back_by : (declared : List FileComponent) (comps : List ComponentOutline) (from c : ℕ) (cs : List ℕ) (cursor next : Cursor) (known : List (Option Cursor)) → Back declared comps from (cs ++ c ∷ []) cursor known
    → next ≡ own_cells declared comps c cursor → Back declared comps from cs next (set known c (Some next))
back_by declared comps from c cs cursor next known held adds =
    let last = trail_last comps (element_type.Component from) held.at cs c held.trail in
    let is : IsEnd declared comps (element_type.Component c) next = is_end_more declared comps c held.at cursor next held.is_end last.1 adds in
    record { at = element_type.Component c; trail = last.0; is_end = is; are_known = known_more declared comps known c next held.are_known is }

pub back_on : (declared : List FileComponent) (comps : List ComponentOutline) (from c : ℕ) (cs left : List ℕ) (cursor next : Cursor) (known more : List (Option Cursor)) → Back declared comps from cs cursor known
    → cs ≡ left ++ c ∷ [] → next ≡ own_cells declared comps c cursor → more ≡ set known c (Some next) → Back declared comps from left next more
back_on declared comps from c cs left cursor next known more held is adds notes =
    rw notes (back_by declared comps from c left cursor next known (subst (λ xs. Back declared comps from xs cursor known) is held) adds)

back_at : (declared : List FileComponent) (comps : List ComponentOutline) (from : ℕ) (cursor : Cursor) (known : List (Option Cursor)) → Back declared comps from [] cursor known → IsEnd declared comps (element_type.Component from) cursor
back_at declared comps from cursor known held = subst (λ t. IsEnd declared comps t cursor) (sym held.trail) held.is_end

pub back_end : (declared : List FileComponent) (comps : List ComponentOutline) (from : ℕ) (cs : List ℕ) (cursor : Cursor) (known : List (Option Cursor)) → Back declared comps from cs cursor known → cs ≡ []
    → IsEnd declared comps (element_type.Component from) cursor
back_end declared comps from cs cursor known held none = back_at declared comps from cursor known (subst (λ xs. Back declared comps from xs cursor known) none held)

-- nothing is taken from the end of an empty list alone
pub popped_none : {A : Type 0} (o : Option A) (old new : List A) → o ≡ None → MatchOption o ((old ≡ []) × (new ≡ [])) (λ last. old ≡ new ++ last ∷ []) → old ≡ []
popped_none None old new is took = took.0
popped_none (Some x) old new is took = cc

-- ---- the cursor of a component

pub is_end_for : (declared : List FileComponent) (comps : List ComponentOutline) (from c : ℕ) (cursor : Cursor) → IsEnd declared comps (element_type.Component from) cursor → from ≡ c → IsEndFor declared comps c (Some cursor)
is_end_for declared comps from c cursor held is = subst (λ n. IsEndFor declared comps n (Some cursor)) is (held (length comps))

no_grid : (kind : ElementKind) → is_grid_kind kind ≡ false → kind ≡ element_kind.GridLayout → ⊥
no_grid kind none lands = cc

-- what is built on no grid has any cursor
pub no_end_for : (declared : List FileComponent) (comps : List ComponentOutline) (c : ℕ) (kind : ElementKind) (cursor : Cursor) → kind ≡ landing comps (element_type.Component c) → is_grid_kind kind ≡ false → IsEndFor declared comps c (Some cursor)
no_end_for declared comps c kind cursor is none = λ lands. absurd (no_grid kind none (is ∙ lands))
