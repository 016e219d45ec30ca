use Rattle.std.proofs.Common.{◌∙◌, ap, Some}
use Rattle.std.specs.Option.{option_copied}
use Rattle.clap.specs.Words.{found_of}
use Rattle.command_words.proofs.Readings.{nothing_said, something_said}
use Rattle.command_words.proofs.reading.words_in.Goals as goal

pub returns-in-None : goal.returns-in-None
returns-in-None c = nothing_said (found_of c.args.matches.now) c.in-None.ensures

pub returns : goal.returns
returns c =
    something_said (found_of c.args.matches.now) c.in_ok-file-in-Some.file (option_copied c.get_str-2.result) c.in_ok-component.component
    (ap (λ text. Some text) c.in_ok-file-in-Some.ensures ∙ c.in-Some.ensures) c.get_str-2.ensures c.in_ok-component.ensures
