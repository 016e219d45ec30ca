-- Where each class of linked members has its rows, said of its members: at the one with the fewest repeaters around it.
use Rattle.std.specs.Prelude.{◌≡◌, ℕ, ◌≤◌, false, List, length, Option, Some, None}
use Rattle.finite_graphs.specs.Walks.{At}
use Rattle.alias_merge.specs.declared.homes.Home.{Home}
use Rattle.alias_merge.specs.declared.rows.MemberRow.{MemberRow}
use Rattle.alias_merge.specs.Rows.{is_before}

-- the member with number n, whose row is r, is of the class with label l
pub record IsMember (labels : List ℕ) (rows : List MemberRow) (l n : ℕ) (r : MemberRow) : Type 0 where
  pub labelled : At l labels n
  pub stands : At r rows n

-- a member of the class before which no other one stands in instance order
pub record IsLeading (labels : List ℕ) (rows : List MemberRow) (l n : ℕ) : Type 0 where
  pub row : MemberRow
  pub member : IsMember labels rows l n row
  pub none_before : (m : ℕ) (r : MemberRow) → IsMember labels rows l m r → is_before r.key row.key ≡ false

-- no member of the class has fewer repeaters around it, and of those with as many none stands before this one in instance order
pub record IsOutermost (labels : List ℕ) (rows : List MemberRow) (l n : ℕ) (row : MemberRow) : Type 0 where
  pub member : IsMember labels rows l n row
  pub fewest : (m : ℕ) (r : MemberRow) → IsMember labels rows l m r → row.repeaters ≤ r.repeaters
  pub none_before : (m : ℕ) (r : MemberRow) → IsMember labels rows l m r → r.repeaters ≡ row.repeaters → is_before r.key row.key ≡ false

-- the home of a class: its first member, and the element and the number of repeaters of the outermost one
pub record IsHome (labels : List ℕ) (rows : List MemberRow) (l : ℕ) (home : Home) : Type 0 where
  pub leads : IsLeading labels rows l home.first
  pub number : ℕ
  pub row : MemberRow
  pub outermost : IsOutermost labels rows l number row
  pub element : home.element ≡ row.element
  pub repeaters : home.repeaters ≡ row.repeaters

-- at a number that is no label there is none
abbrev pub IsHomeAt : List ℕ → List MemberRow → ℕ → Option Home → Type 0
IsHomeAt labels rows l None = (n : ℕ) (r : MemberRow) → IsMember labels rows l n r → ⊥
IsHomeAt labels rows l (Some home) = IsHome labels rows l home

-- the home of each class by its label
pub record AreHomes (labels : List ℕ) (rows : List MemberRow) (homes : List (Option Home)) : Type 0 where
  pub sized : length homes ≡ length labels
  pub each : (l : ℕ) (home : Option Home) → At home homes l → IsHomeAt labels rows l home
