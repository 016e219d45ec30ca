use Rattle.std.proofs.Common.{◌∙◌, sym, lit<}
use Rattle.script_lines.proofs.Ints.{int_reading-parse}
use Rattle.script_lines.proofs.numbers.read_int.Goals as goal

pub returns : goal.returns
returns c =
    let plus = c.starts_with.ensures.byte (lit< tt) (lit< tt) (λ w o h. h) in
    c.ok.ensures.value ∙ int_reading-parse c.args.text.now c.parse.result c.parse.ensures.value.0 (sym plus ∙ c.if-starts_with.false)
