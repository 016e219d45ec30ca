use Rattle.std.proofs.Common.{◌∙◌, ap}
use Rattle.script_lines.proofs.Trims.{after_blanks-trim, without_end_blanks-trim}
use Rattle.script_lines.specs.Lines.{after_blanks}
use Rattle.script_lines.proofs.words.trimmed.Goals as goal

pub returns : goal.returns
returns c =
    after_blanks-trim c.trim_end_matches.result.now c.trim_start_matches.result.now c.trim_start_matches.ensures.matches
    ∙ ap after_blanks (without_end_blanks-trim c.args.text.now c.trim_end_matches.result.now c.trim_end_matches.ensures.matches)
