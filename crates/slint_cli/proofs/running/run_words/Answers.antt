use Rattle.std.proofs.Common.{Option, map, string_bytes, subst}
use Rattle.std.specs.Prelude.{IfOk, OnOk}
use Rattle.command_words.specs.Words.{WordsOf, words_of}
use Rattle.slint_cli.specs.declared.replies.Output.{Output}
use Rattle.slint_cli.specs.Outputs.{outcome_of}
use Rattle.slint_cli.specs.Running.{MissedWhereMissing, RanWords}
use Rattle.slint_cli.proofs.Sources.{missing_unreadable, ran_unreadable, words_found, words_none}
use Rattle.slint_cli.proofs.running.run_words.Goals as goal

pub returns-in-Some-clause-ran : goal.returns-in-Some-clause-ran
returns-in-Some-clause-ran g c =
    let P : Option WordsOf → Type 0 = λ said. IfOk c.run_source.result (λ (output : Output). RanWords said (g.F.Files.held c.args.files.now) (g.S.Source.left c.args.script.now) (outcome_of output)) in
    subst P (words_found c.in_ok-found.found c.in-Some.named (words_of (map string_bytes c.args.words.now)) c.in_ok-found.ensures c.in-Some.is) c.run_source.ensures.ran

pub returns-in-Some-clause-missing : goal.returns-in-Some-clause-missing
returns-in-Some-clause-missing g c =
    let P : Option WordsOf → Type 0 = λ said. OnOk c.run_source.result (MissedWhereMissing said (g.F.Files.held c.args.files.now) (g.F.Files.misses c.args.files.now) (g.F.Files.misses c.run_source.new.files)) in
    subst P (words_found c.in_ok-found.found c.in-Some.named (words_of (map string_bytes c.args.words.now)) c.in_ok-found.ensures c.in-Some.is) c.run_source.ensures.missing

pub returns-in_ok-unreadable-in-None-clause-ran : goal.returns-in_ok-unreadable-in-None-clause-ran
returns-in_ok-unreadable-in-None-clause-ran g c =
    ran_unreadable (words_of (map string_bytes c.args.words.now)) (g.F.Files.held c.args.files.now) (g.S.Source.left c.args.script.now)
    (outcome_of c.in_ok-unreadable-in-None.field-0) (words_none c.in_ok-found.found (words_of (map string_bytes c.args.words.now)) c.in_ok-found.ensures c.in-None.is) c.in_ok-unreadable-in-None.ensures

pub returns-in_ok-unreadable-in-None-clause-missing : goal.returns-in_ok-unreadable-in-None-clause-missing
returns-in_ok-unreadable-in-None-clause-missing g c =
    missing_unreadable (words_of (map string_bytes c.args.words.now)) (g.F.Files.held c.args.files.now) (g.F.Files.misses c.args.files.now) (g.F.Files.misses c.args.files.now)
    (words_none c.in_ok-found.found (words_of (map string_bytes c.args.words.now)) c.in_ok-found.ensures c.in-None.is)
