-- Lists of faults.
use Rattle.std.specs.Prelude.{Bool, true, false, List, [], ◌∷◌, Option, Some, None}
use Rattle.slint_base.specs.declared.faults.Fault.{Fault}
use Rattle.slint_base.specs.declared.faults.Span.{Span}
use Rattle.slint_base.specs.declared.rules.Rule.{Rule}
use Rattle.slint_base.specs.declared.rules.Rule.TheVariants as rules

-- a rule is broken at a stretch, where a test says so
abbrev pub fault_if : Bool → Rule → Span → List Fault
fault_if false rule span = []
fault_if true rule span = record { rule = rule; span = span } ∷ []

-- children where they may not be
abbrev pub misplaced_if : Bool → Span → List Fault
misplaced_if test span = fault_if test rules.ChildrenMisplaced span

-- what may not be in or out of a grid
abbrev pub grid_place_if : Bool → Span → List Fault
grid_place_if test span = fault_if test rules.GridPlace span

-- the faults of what may be there
abbrev pub if_any : {A : Type 0} → (A → List Fault) → Option A → List Fault
if_any faults None = []
if_any faults (Some x) = faults x
