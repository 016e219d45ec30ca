use Rattle.std.proofs.Common.{◌∙◌, sym, ap, Some, None, lit<}
use Rattle.std.proofs.lemmas.Str.Pattern.{strip_suffix_char}
use Rattle.script_lines.specs.Paths.{before_close, bracketed}
use Rattle.script_lines.proofs.Rows.{before_close-push, before_close-none}
use Rattle.script_lines.proofs.paths.read_row.Goals as goal

pub returns : goal.returns
returns c =
    let x = c.in_ok-strip_suffix.field-0 in
    let whole = strip_suffix_char 93 c.args.behind.now (Some x) c.in_ok-strip_suffix.ensures.cases (lit< tt) in
    c.row_number.ensures ∙ ap bracketed (sym (ap before_close whole ∙ before_close-push x.now))

pub returns-in_err-strip_suffix : goal.returns-in_err-strip_suffix
returns-in_err-strip_suffix c =
    let other = strip_suffix_char 93 c.args.behind.now None c.in_err-strip_suffix.ensures.cases (lit< tt) in
    c.from_residual.ensures ∙ ap bracketed (sym (before_close-none c.args.behind.now other))
