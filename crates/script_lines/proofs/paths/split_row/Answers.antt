use Rattle.std.proofs.Common.{◌∙◌, sym, ap, Some, None, lit<}
use Rattle.std.specs.Option.{option_map}
use Rattle.std.proofs.lemmas.Str.Pattern.{split_parts}
use Rattle.script_lines.proofs.Rows.{parts_of-bracket, parts_of-alone}
use Rattle.script_lines.proofs.paths.split_row.Goals as goal

pub returns-in_err-read_row-in-Some : goal.returns-in_err-read_row-in-Some
returns-in_err-read_row-in-Some c =
    let name = c.in-Some.name in
    let behind = c.in-Some.behind in
    let parts = split_parts 91 c.args.text.now (Some (name, behind)) c.in-Some.ensures.cases (lit< tt) in
    ap (option_map (λ p. (p.0.now, p.1))) c.from_residual.ensures
    ∙ parts_of-bracket c.args.text.now name.now behind.now None parts (sym c.in_err-read_row-in-Some.was ∙ c.read_row.ensures)

pub returns-in_ok-read_row-in-Some : goal.returns-in_ok-read_row-in-Some
returns-in_ok-read_row-in-Some c =
    let parts = split_parts 91 c.args.text.now (Some (c.in-Some.name, c.in-Some.behind)) c.in-Some.ensures.cases (lit< tt) in
    parts_of-bracket c.args.text.now c.in-Some.name.now c.in-Some.behind.now (Some c.in_ok-read_row-in-Some.field-0) parts (sym c.in_ok-read_row-in-Some.was ∙ c.read_row.ensures)

pub returns-in-None : goal.returns-in-None
returns-in-None c = parts_of-alone c.args.text.now (split_parts 91 c.args.text.now None c.in-None.ensures.cases (lit< tt))
