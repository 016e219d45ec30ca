-- How a source's refusal is told.
use Rattle.std.specs.Prelude.{ℕ, List, ◌++◌, codes}
use Rattle.std.specs.Fmt.{decimal}
use Rattle.slint_base.specs.declared.faults.Fault.{Fault}
use Rattle.slint_base.specs.declared.places.Place.{Place}
use Rattle.slint_base.specs.declared.refusals.Refusal.{Refusal}
use Rattle.slint_base.specs.declared.rules.Rule.{Rule}
use Rattle.slint_base.specs.Places.{place_of}
use Rattle.slint_base.specs.Rules.{rule_number}

-- a rule that a file breaks as a whole is broken by an empty stretch at the file's start
abbrev pub at_start : Rule → ℕ → Fault
at_start rule file = record { rule = rule; span = record { file = file; start = 0; end = 0 } }

-- the refusal for a fault in a file of this name and these bytes: where the fault's stretch begins, and the place just past it
abbrev pub refusal_of : List ℕ → List ℕ → Fault → Refusal
refusal_of name bytes fault = record { rule = fault.rule; file = name; from = place_of bytes fault.span.start; to = place_of bytes fault.span.end }

-- a place is written LINE:COLUMN
abbrev pub place_text : Place → List ℕ
place_text place = decimal place.line ++ (codes ":" ++ decimal place.column)

-- the line of a refusal: refused RULE FILE LINE:COLUMN-LINE:COLUMN
abbrev pub refusal_line : Refusal → List ℕ
refusal_line refusal =
    codes "refused " ++ (decimal (rule_number refusal.rule) ++ (codes " " ++ (refusal.file ++ (codes " " ++ (place_text refusal.from ++ (codes "-" ++ place_text refusal.to))))))
