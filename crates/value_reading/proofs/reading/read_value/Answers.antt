use Rattle.std.proofs.Common.{sym, ap, subst, ◌∙◌, Some, None}
use Rattle.value_reading.specs.Parts.{SplitsInto}
use Rattle.value_reading.specs.Reading.{value_of_parts}
use Rattle.value_reading.proofs.WholeTexts.{read_value_is, read_no_value, read_no_parts}
use Rattle.value_reading.proofs.reading.read_value.Goals as goal

pub returns-in_default : goal.returns-in_default
returns-in_default c =
    read_no_parts c.args.enums.now c.args.ty.now c.args.text.now
    (subst (λ t. SplitsInto t None) c.as_bytes.ensures.value (subst (SplitsInto c.as_bytes.result.now) c.in_default.is c.in_ok-parts.ensures))

pub returns-in-Some-2 : goal.returns-in-Some-2
returns-in-Some-2 c =
    read_value_is c.args.enums.now c.args.ty.now c.args.text.now c.in-Some.parts c.in-Some-2.value
    (subst (λ t. SplitsInto t (Some c.in-Some.parts)) c.as_bytes.ensures.value (subst (SplitsInto c.as_bytes.result.now) c.in-Some.is c.in_ok-parts.ensures))
    (sym c.in-Some-2.is ∙ c.in_ok-value.ensures ∙ ap (λ ps. value_of_parts c.args.enums.now c.args.ty.now ps) c.as_slice.ensures)

pub returns : goal.returns
returns c =
    read_no_value c.args.enums.now c.args.ty.now c.args.text.now c.in-Some.parts
    (subst (λ t. SplitsInto t (Some c.in-Some.parts)) c.as_bytes.ensures.value (subst (SplitsInto c.as_bytes.result.now) c.in-Some.is c.in_ok-parts.ensures))
    (sym c.in-None.is ∙ c.in_ok-value.ensures ∙ ap (λ ps. value_of_parts c.args.enums.now c.args.ty.now ps) c.as_slice.ensures)
