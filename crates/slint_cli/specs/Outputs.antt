-- What the program made for a run to write, as the run's outcome.
use Rattle.slint_meaning.specs.Runs.{Outcome}
use Rattle.slint_cli.specs.declared.replies.Output.{Output}

-- its end and its bytes
abbrev pub outcome_of : Output → Outcome
outcome_of output = record { end = output.end; bytes = output.bytes.items }
