use Rattle.script_lines.proofs.LineParts.{lines_of-last, lines_of-line, lines_of-joined}
use Rattle.script_lines.proofs.laws.lines_are_parts.Goals as goal

pub returns-clause-last : goal.returns-clause-last
returns-clause-last c = lines_of-last

pub returns-clause-first : goal.returns-clause-first
returns-clause-first c = lines_of-line

pub returns-clause-joined : goal.returns-clause-joined
returns-clause-joined c = lines_of-joined
