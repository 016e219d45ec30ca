use Rattle.std.proofs.Common.{◌≡◌, true, ◌∙◌, sym, rules, tests}
use Rattle.std.specs.List.{list_all}
use Rattle.std.specs.Char.{is_ascii_digit}
use Rattle.std.proofs.lemmas.Iterator.Adapters.{YieldsList-from_bytes}
use Rattle.std.proofs.lemmas.Iterator.Search.{all_from_yields_List}
use Rattle.script_lines.proofs.Rows.{row_number-parse}
use Rattle.script_lines.proofs.paths.row_number.Goals as goal

pub returns : goal.returns
returns c =
    let digits = c.args.digits.now in
    let e : c.all.result ≡ list_all is_ascii_digit digits = all_from_yields_List is_ascii_digit _ _ c.all.result c.all.ensures.ran (YieldsList-from_bytes digits c.bytes.ensures.rest) (λ x b q k. search (rules, tests)) in
    let all : list_all is_ascii_digit digits ≡ true = sym e ∙ c.if-not-all.false in
    c.ok.ensures.value ∙ row_number-parse digits c.parse.result c.parse.ensures.value.0 c.if-digits-gt-MOST_ROW_DIGITS.false all
