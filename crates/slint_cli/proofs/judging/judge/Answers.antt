use Rattle.std.proofs.lemmas.Result.{err_from_is_err_and}
use Rattle.command_words.specs.Words.{words_seen}
use Rattle.slint_cli.proofs.Judged.{judges_loaded, judges_stopped, counted_loaded, counted_stopped}
use Rattle.slint_cli.proofs.FewLines.{few_loaded}
use Rattle.slint_cli.proofs.judging.judge.Goals as goal

pub judge_files-requires : goal.judge_files-requires
judge_files-requires g c = record { few = few_loaded (g.F.Files.held c.args.files.now) c.as_str.result.now c.in_ok-loaded.loaded c.in_ok-loaded.ensures.loads }

pub returns-in_err-loaded-clause-judged : goal.returns-in_err-loaded-clause-judged
returns-in_err-loaded-clause-judged g c =
    let end = judges_stopped (g.F.Files.held c.args.files.now) c.as_str.result.now (words_seen c.args.words.now) c.in_err-loaded.field-0.0 c.as_str.ensures c.in_err-loaded.ensures.loads in
    let p = err_from_is_err_and c.from_residual.result c.from_residual.ensures.1 in
    rw (p.1, p.2) end

pub returns-in_err-loaded-clause-counted : goal.returns-in_err-loaded-clause-counted
returns-in_err-loaded-clause-counted g c =
    let end = counted_stopped c.in_err-loaded.field-0.0 (g.F.Files.faults c.args.files.now) (g.F.Files.faults c.load.new.files) (g.F.Files.misses c.args.files.now) (g.F.Files.misses c.load.new.files) c.in_err-loaded.ensures.counted in
    let p = err_from_is_err_and c.from_residual.result c.from_residual.ensures.1 in
    rw (p.1, p.2) end

pub returns-clause-judged : goal.returns-clause-judged
returns-clause-judged g c =
    judges_loaded (g.F.Files.held c.args.files.now) c.as_str.result.now (words_seen c.args.words.now) c.in_ok-loaded.loaded c.judge_files.result c.as_str.ensures c.in_ok-loaded.ensures.loads c.judge_files.ensures.says

pub returns-clause-counted : goal.returns-clause-counted
returns-clause-counted g c =
    counted_loaded c.judge_files.result (g.F.Files.faults c.args.files.now) (g.F.Files.faults c.load.new.files) (g.F.Files.misses c.args.files.now) (g.F.Files.misses c.load.new.files)
    c.in_ok-loaded.ensures.counted.0 c.in_ok-loaded.ensures.counted.1 c.judge_files.ensures.still
