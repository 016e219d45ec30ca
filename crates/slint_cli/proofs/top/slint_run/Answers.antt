use Rattle.std.proofs.Common.{map, string_bytes}
use Rattle.slint_cli.proofs.RunEnds.{stopped_ends, stopped_ends_told, missed_written}
use Rattle.slint_cli.proofs.top.slint_run.Goals as goal

pub returns-clause-told : goal.returns-clause-told
returns-clause-told g c = λ held text _ _. stopped_ends c.some_outcome.ensures c.in-Err.stop (map string_bytes c.args.words.items) held text (g.K.Sink.taken c.args.out.now)

pub returns-clause-ran : goal.returns-clause-ran
returns-clause-ran g c =
    stopped_ends_told c.some_outcome.ensures c.in-Err.stop (map string_bytes c.args.words.items) (g.F.Files.held c.args.files.now) (g.S.Source.left c.args.script.now) (g.K.Sink.taken c.args.out.now)

pub returns-in-Ok-clause-missed : goal.returns-in-Ok-clause-missed
returns-in-Ok-clause-missed g c = λ before line refused had has.
    missed_written c.write_output.result c.in-Ok.output (g.K.Sink.taken c.args.out.now) (g.K.Sink.taken c.write_output.new.out)
    (g.F.Files.misses c.args.files.now) (g.F.Files.misses c.run_words.new.files) before line c.in-Ok.ensures.missed c.write_output.ensures.writes refused had has
