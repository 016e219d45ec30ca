use Rattle.std.proofs.Common.{ap, ◌∙◌}
use Rattle.std.specs.Option.{option_map}
use Rattle.value_reading.specs.declared.parts.Part.TheVariants as part
use Rattle.value_reading.proofs.PartLemmas.{longest_is, number_part_is}
use Rattle.value_reading.proofs.parts.number_found.Goals as goal

pub returns-in_err-value : goal.returns-in_err-value
returns-in_err-value c =
    let e = longest_is c.args.bytes.now c.number_length-length.result c.requires c.number_length-length.ensures in
    rw c.from_residual.ensures (number_part_is c.args.bytes.now c.split_at.result.0.now c.number_length-length.result c.read_number.result e c.split_at.ensures.front c.read_number.ensures ∙ ap (option_map part.Number) c.in_err-value.was)

pub returns : goal.returns
returns c =
    let e = longest_is c.args.bytes.now c.number_length-length.result c.requires c.number_length-length.ensures in
    (number_part_is c.args.bytes.now c.split_at.result.0.now c.number_length-length.result c.read_number.result e c.split_at.ensures.front c.read_number.ensures ∙ ap (option_map part.Number) c.in_ok-value.was, e, c.number_length-length.ensures.within)
