use Rattle.std.proofs.Common.{◌∙◌, sym, ap, subst, Option, Result}
use Rattle.slint_base.specs.Answers.{Gives}
use Rattle.script_lines.specs.declared.commands.Command.{Command}
use Rattle.script_lines.specs.declared.commands.BadLine.{BadLine}
use Rattle.script_lines.specs.Lines.{read_words, trimmed}
use Rattle.script_lines.proofs.Texts.{read_text-words, read_text-unread}
use Rattle.script_lines.proofs.lines.read_text.Goals as goal

pub returns-in-Ok : goal.returns-in-Ok
returns-in-Ok c =
    let line = c.args.line.now in
    let valid = c.in-Ok.ensures.cases in
    let same = c.trimmed.ensures ∙ ap trimmed valid.0 in
    let words = ap read_words same ∙ sym (read_text-words line c.if-line-gt-MOST_LINE_BYTES.false (sym c.is_passed_over.ensures ∙ c.if-is_passed_over.false) valid.1) in
    let P : Result (Option Command) BadLine → Type 0 = λ v. Gives (λ command. command) c.read_words.result v in
    subst P words c.read_words.ensures

pub returns-in-Err : goal.returns-in-Err
returns-in-Err c = read_text-unread c.args.line.now c.if-line-gt-MOST_LINE_BYTES.false (sym c.is_passed_over.ensures ∙ c.if-is_passed_over.false) c.in-Err.ensures.cases.0
