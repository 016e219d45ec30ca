-- Numbers for what may be impure, as nodes of a graph. Node 0 stands for what is impure in any case.
use Rattle.std.specs.Prelude.{◌≡◌, ℕ, List, slice_get, Option, Some, None, length}
use Rattle.typed_tree.specs.declared.members.Member.{Member}
use Rattle.typed_tree.specs.declared.members.MemberKind.{MemberKind}
use Rattle.typed_tree.specs.declared.trees.TypedComponent.{TypedComponent}
use Rattle.typed_tree.specs.declared.trees.TypedGlobal.{TypedGlobal}
use Rattle.typed_tree.specs.declared.trees.TypedTree.{TypedTree}
use Rattle.finite_graphs.specs.Walks.{At}
use Rattle.loop_check.specs.declared.acts.Home.{Home}
use Rattle.loop_check.specs.declared.acts.Home.TheVariants as homes
use Rattle.loop_check.specs.declared.acts.Routine.{Routine}
use Rattle.loop_check.specs.declared.numbers.Numbers.{Numbers}
use Rattle.loop_check.specs.Purity.{kind_of}

abbrev pub declared_in_component : TypedComponent → List Member
declared_in_component comp = comp.outline.members

abbrev pub declared_in_global : TypedGlobal → List Member
declared_in_global global = global.outline.members

-- a member's number, by rows of numbers
abbrev pub number_in : Option (List ℕ) → ℕ → Option ℕ
number_in None n = None
number_in (Some row) n = slice_get row n

abbrev pub row_of : Numbers → Home → Option (List ℕ)
row_of numbers (homes.Component c) = slice_get numbers.comps c
row_of numbers (homes.Global g) = slice_get numbers.globals g

abbrev pub number_of : Numbers → Routine → Option ℕ
number_of numbers r = number_in (row_of numbers r.home) r.number

-- the number of what an act calls
abbrev pub number_called : Numbers → Option Routine → Option ℕ
number_called numbers None = Some 0
number_called numbers (Some r) = number_of numbers r

-- things have come in behind those that were there, and a row has the numbers of so many members of a home
pub record IsRow (home : Home) (count : ℕ) (old new : List (Option Routine)) (row : List ℕ) : Type 0 where
  pub kept : (x : Option Routine) (i : ℕ) → At x old i → At x new i
  pub sized : length row ≡ count
  pub stands : (n i : ℕ) → At i row n → At (Some (record { home = home; number = n })) new i

-- the same of the rows of so many homes, whose members stand in a list
pub record AreRowsOf (home_at : ℕ → Home) (members : List (List Member)) (count : ℕ) (old new : List (Option Routine)) (rows : List (List ℕ)) : Type 0 where
  pub kept : (x : Option Routine) (i : ℕ) → At x old i → At x new i
  pub sized : length rows ≡ count
  pub each : (c : ℕ) (row : List ℕ) (ms : List Member) → At row rows c → At ms members c → length row ≡ length ms
  pub stands : (c n i : ℕ) (row : List ℕ) → At row rows c → At i row n → At (Some (record { home = home_at c; number = n })) new i

-- a declared member has some number
pub record HasNumber (numbers : Numbers) (r : Routine) : Type 0 where
  pub number : ℕ
  pub is : number_of numbers r ≡ Some number

-- each declared member has a number, which is its place among the things; place 0 is that of what is impure in any case
pub record AreNumbers (tree : TypedTree) (numbers : Numbers) (things : List (Option Routine)) : Type 0 where
  pub first : At None things 0
  pub stands : (r : Routine) (i : ℕ) → number_of numbers r ≡ Some i → At (Some r) things i
  pub all : (r : Routine) (kind : MemberKind) → kind_of tree r ≡ Some kind → HasNumber numbers r
