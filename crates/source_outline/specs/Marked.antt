-- The faults of marked members.
use Rattle.std.specs.Prelude.{ℕ, suc, true, false, Bool, List, [], ◌∷◌, ◌++◌, slice_get, Option, Some, None}
use Rattle.slint_base.specs.declared.faults.Fault.{Fault}
use Rattle.source_outline.specs.declared.followers.Follower.{Follower}
use Rattle.source_outline.specs.Following.{endless}
use Rattle.source_outline.specs.Members.{in_front}

abbrev pub told_if : Option Bool → Follower → Option Fault
told_if (Some true) x = Some (endless x)
told_if _ x = None

abbrev pub marked_from : List Bool → ℕ → List Follower → List Fault
marked_from marks i [] = []
marked_from marks i (x ∷ xs) = in_front (told_if (slice_get marks i) x) (marked_from marks (suc i) xs)
