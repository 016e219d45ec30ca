-- The numbers by which refused lines are answered.
use Rattle.std.specs.Prelude.{ℕ}
use Rattle.slint_meaning.specs.declared.refusals.LineRefusal.{LineRefusal}
use Rattle.slint_meaning.specs.declared.refusals.LineRefusal.TheVariants.{BadLine, UnknownPath, WrongKind, BadValue, LineTooLong}

-- the number of each cause
abbrev pub refusal_number : LineRefusal → ℕ
refusal_number BadLine = 1
refusal_number UnknownPath = 2
refusal_number WrongKind = 3
refusal_number BadValue = 4
refusal_number LineTooLong = 7
