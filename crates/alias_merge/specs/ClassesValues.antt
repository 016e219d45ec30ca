-- What contracts see of classes.
use Rattle.std.specs.Prelude.{ℕ, List, Option}
use Rattle.alias_merge.specs.declared.candidate.Candidate.{Candidate}
use Rattle.alias_merge.specs.declared.homes.Home.{Home}

-- the label of each member; and by label the home of the class, what is chosen for it, and the list of states that changes it
pub record ClassesValue : Type 0 where
  pub labels : List ℕ
  pub homes : List (Option Home)
  pub bindings : List (Option Candidate)
  pub defaults : List (Option Candidate)
  pub handlers : List (Option Candidate)
  pub changed : List (Option ℕ)
