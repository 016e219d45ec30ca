use Rattle.std.proofs.Common.{◌≡◌, Some, rules}
use Rattle.std.proofs.lemmas.Result.{IfOk-weaker}
use Rattle.command_words.specs.Words.{words_seen}
use Rattle.slint_meaning.specs.declared.endings.Ending.TheVariants.{Refused}
use Rattle.slint_cli.specs.declared.replies.Output.{Output}
use Rattle.slint_cli.specs.Outputs.{outcome_of}
use Rattle.slint_cli.specs.Running.{MissedFile, MissedWhereMissing, RanScript, RanWords}
use Rattle.slint_cli.proofs.Sources.{counted_refusal, judged_refusal, missed_refused, missing_accepted, missing_refused, on_ok, ran_accepted, ran_refused}
use Rattle.slint_cli.proofs.running.run_source.Goals as goal

pub returns-in-Ok-clause-ran : goal.returns-in-Ok-clause-ran
returns-in-Ok-clause-ran g c =
    let held = g.F.Files.held c.args.files.now in
    let left = g.S.Source.left c.args.script.now in
    let words = words_seen c.args.words.now in
    let P : Output → Type 0 = λ output. RanScript c.in-Ok.component left (outcome_of output) in
    let Q : Output → Type 0 = λ output. RanWords (Some words) held left (outcome_of output) in
    IfOk-weaker c.run_component.result P Q (λ output ran. ran_accepted held left words c.in-Ok.component (outcome_of output) c.in-Ok.ensures.judged ran) c.run_component.ensures.ran

pub returns-in-Ok-clause-missed : goal.returns-in-Ok-clause-missed
returns-in-Ok-clause-missed g c =
    let P : Output → Type 0 = λ output. output.end ≡ Refused → ⊥ in
    let Q : Output → Type 0 = λ output. MissedFile (g.F.Files.misses c.args.files.now) (g.F.Files.misses c.judge.new.files) output in
    IfOk-weaker c.run_component.result P Q (λ output runs line refused same. absurd (runs refused)) c.run_component.ensures.ended

pub returns-in-Ok-clause-missing : goal.returns-in-Ok-clause-missing
returns-in-Ok-clause-missing g c =
    let held = g.F.Files.held c.args.files.now in
    let words = words_seen c.args.words.now in
    let before = g.F.Files.misses c.args.files.now in
    let now = g.F.Files.misses c.judge.new.files in
    on_ok c.run_component.result (MissedWhereMissing (Some words) held before now) (missing_accepted c.one_outcome.ensures held words c.in-Ok.component before now c.in-Ok.ensures.judged)

pub returns-in_ok-refuse-in-Err-Refused-clause-ran : goal.returns-in_ok-refuse-in-Err-Refused-clause-ran
returns-in_ok-refuse-in-Err-Refused-clause-ran g c =
    let held = g.F.Files.held c.args.files.now in
    let words = words_seen c.args.words.now in
    let judged = judged_refusal held words c.judge.result c.in-Err-Refused.refusal c.judge.ensures.judged (search rules) in
    ran_refused held (g.S.Source.left c.args.script.now) words c.in-Err-Refused.refusal (outcome_of c.in_ok-refuse-in-Err-Refused.field-0) judged c.in_ok-refuse-in-Err-Refused.ensures

pub returns-in_ok-refuse-in-Err-Refused-clause-missed : goal.returns-in_ok-refuse-in-Err-Refused-clause-missed
returns-in_ok-refuse-in-Err-Refused-clause-missed g c =
    let before = g.F.Files.misses c.args.files.now in
    let now = g.F.Files.misses c.judge.new.files in
    let rose = counted_refusal c.judge.result c.in-Err-Refused.refusal (g.F.Files.faults c.args.files.now) (g.F.Files.faults c.judge.new.files) before now c.judge.ensures.counted (search rules) in
    missed_refused c.in-Err-Refused.refusal before now c.in_ok-refuse-in-Err-Refused.field-0 c.in_ok-refuse-in-Err-Refused.ensures rose

pub returns-in_ok-refuse-in-Err-Refused-clause-missing : goal.returns-in_ok-refuse-in-Err-Refused-clause-missing
returns-in_ok-refuse-in-Err-Refused-clause-missing g c =
    let held = g.F.Files.held c.args.files.now in
    let words = words_seen c.args.words.now in
    let before = g.F.Files.misses c.args.files.now in
    let now = g.F.Files.misses c.judge.new.files in
    let judged = judged_refusal held words c.judge.result c.in-Err-Refused.refusal c.judge.ensures.judged (search rules) in
    let rose = counted_refusal c.judge.result c.in-Err-Refused.refusal (g.F.Files.faults c.args.files.now) (g.F.Files.faults c.judge.new.files) before now c.judge.ensures.counted (search rules) in
    missing_refused c.one_outcome.ensures held words c.in-Err-Refused.refusal before now judged rose
