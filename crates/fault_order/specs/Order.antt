-- The order in which faults of one pass are told, and the first of those with a property.
use Rattle.std.specs.Prelude.{◌≡◌, ℕ, suc, List, [], ◌∷◌, ◌++◌, false, if◌then◌else◌, Option, Some, None}
use Rattle.std.specs.Cmp.Lexicographic.{slice_cmp}
use Rattle.std.specs.Ordering.{nat_cmp, is_gt}
use Rattle.slint_base.specs.declared.faults.Fault.{Fault}
use Rattle.slint_base.specs.Rules.{rule_number}

-- a fault's place in the order: by file, then by its first byte, then by the rule, then by its end
abbrev pub rank : Fault → List ℕ
rank f = f.span.file ∷ f.span.start ∷ rule_number f.rule ∷ f.span.end ∷ []

-- a fault that doesn't stand behind another one
abbrev pub NotBehind : Fault → Fault → Type 0
NotBehind f g = is_gt (slice_cmp nat_cmp (rank f) (rank g)) ≡ false

-- the first of the faults with a property
pub record IsFirst (P : Fault → Type 0) (f : Fault) : Type 0 where
  pub has : P f
  pub first : (g : Fault) → P g → NotBehind f g

-- no fault has a property
abbrev pub NoFault : (Fault → Type 0) → Type 0
NoFault P = (f : Fault) → P f → ⊥

-- the first of the faults with a property, if there is one
abbrev pub FirstIfAny : (Fault → Type 0) → Option Fault → Type 0
FirstIfAny P None = NoFault P
FirstIfAny P (Some f) = IsFirst P f

-- of two faults the one that is told first
abbrev pub earlier_fault : Fault → Fault → Fault
earlier_fault f g = if is_gt (slice_cmp nat_cmp (rank f) (rank g)) then g else f

-- the same of faults that may be there
abbrev pub earlier_of : Option Fault → Option Fault → Option Fault
earlier_of None b = b
earlier_of (Some f) None = Some f
earlier_of (Some f) (Some g) = Some (earlier_fault f g)

-- the first of a list of faults
abbrev pub first_of : List Fault → Option Fault
first_of [] = None
first_of (f ∷ fs) = earlier_of (Some f) (first_of fs)

-- the faults of the things in a list, each with its number; they are counted from n
abbrev pub numbered : {A : Type 0} → (ℕ → A → List Fault) → ℕ → List A → List Fault
numbered faults n [] = []
numbered faults n (x ∷ xs) = faults n x ++ numbered faults (suc n) xs
