-- The numbers of the ends that a run has of its own.
use Rattle.std.specs.Prelude.{ℕ}
use Rattle.slint_meaning.specs.declared.endings.Ending.{Ending}
use Rattle.slint_meaning.specs.declared.endings.Ending.TheVariants.{Done, Words, Refused, ScriptLong}

-- the number that the process ends with
abbrev pub ending_number : Ending → ℕ
ending_number Done = 0
ending_number Words = 2
ending_number Refused = 3
ending_number ScriptLong = 8
