use Rattle.std.proofs.Common.{◌∙◌, map, string_bytes}
use Rattle.std.specs.Option.{option_map}
use Rattle.clap.specs.Words.{app_of, found_of, rows_of}
use Rattle.command_words.specs.Words.{words_in, words_of, words_seen}
use Rattle.command_words.proofs.Readings.{accepted, comes_to, refused}
use Rattle.command_words.proofs.reading.read_words.Goals as goal

pub returns-in-Ok : goal.returns-in-Ok
returns-in-Ok c =
    comes_to c.words_in.result (option_map words_seen) (words_in (rows_of (found_of c.in-Ok.matches))) (words_of (map string_bytes c.args.words.now)) c.words_in.ensures
    (accepted (app_of c.in_ok-command.command) (map string_bytes c.args.words.now) c.in-Ok.matches c.in_ok-command.ensures c.in-Ok.ensures.kinds c.in-Ok.ensures.matches)

pub returns : goal.returns
returns c =
    refused (app_of c.in_ok-command.command) (map string_bytes c.args.words.now) c.in-Err.error c.in_ok-command.ensures c.in-Err.ensures.kinds
    (λ is. c.in_default.not-OutOfMemory (c.kind.ensures ∙ is))
