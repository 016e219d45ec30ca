use Rattle.script_lines.proofs.LineParts.{whole_lines-none, whole_lines-line, whole_lines-last}
use Rattle.script_lines.proofs.laws.whole_lines_are_parts.Goals as goal

pub returns-clause-none : goal.returns-clause-none
returns-clause-none c = whole_lines-none

pub returns-clause-first : goal.returns-clause-first
returns-clause-first c = whole_lines-line

pub returns-clause-ended : goal.returns-clause-ended
returns-clause-ended c = whole_lines-last
