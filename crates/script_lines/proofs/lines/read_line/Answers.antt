use Rattle.std.proofs.Common.{◌∙◌, ap, subst, Option, Result}
use Rattle.slint_base.specs.Answers.{Gives}
use Rattle.script_lines.specs.declared.commands.Command.{Command}
use Rattle.script_lines.specs.declared.commands.BadLine.{BadLine}
use Rattle.script_lines.specs.Lines.{read_text}
use Rattle.script_lines.proofs.Returns.{without_return-strip}
use Rattle.script_lines.proofs.lines.read_line.Goals as goal

pub returns : goal.returns
returns c =
    let stripped = ap (λ line. line.now) c.unwrap_or.ensures ∙ without_return-strip c.args.line c.strip_suffix.result c.strip_suffix.ensures.cases in
    let P : Result (Option Command) BadLine → Type 0 = λ v. Gives (λ command. command) c.read_text.result v in
    subst P (ap read_text stripped) c.read_text.ensures
