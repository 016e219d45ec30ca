use Rattle.std.specs.Option.{option_copied}
use Rattle.import_resolver.specs.Loaded.{rows_of}
use Rattle.slint_cli.proofs.Judged.{checked_fault, checked_sound, other_fault, says_fault, other_still}
use Rattle.slint_cli.proofs.judging.judge_files.Goals as goal

pub judge_sound-requires : goal.judge_sound-requires
judge_sound-requires c = record { sound = checked_sound (rows_of c.args.loaded.now) (option_copied c.as_ref.result) c.args.words.now.component c.as_ref.ensures.value c.in-Ok.ensures }

pub refuse-requires : goal.refuse-requires
refuse-requires c =
    let fault = checked_fault (rows_of c.args.loaded.now) (option_copied c.as_ref.result) c.args.words.now.component c.in-Err-Fault.field-0 c.in-Err-Fault.fault c.as_ref.ensures.value c.in-Err-Fault.ensures c.in-Err-Fault.field-0-is in
    record { few = c.requires.few; other = other_fault c.no_fault_misses_a_file.ensures c.no_impurity_misses_a_file.ensures (rows_of c.args.loaded.now) c.args.words.now.component c.in-Err-Fault.fault fault }

pub returns-in-Err-Fault-clause-says : goal.returns-in-Err-Fault-clause-says
returns-in-Err-Fault-clause-says c =
    let is = rw c.as_str.ensures at c.refuse.ensures.is in
    let fault = checked_fault (rows_of c.args.loaded.now) (option_copied c.as_ref.result) c.args.words.now.component c.in-Err-Fault.field-0 c.in-Err-Fault.fault c.as_ref.ensures.value c.in-Err-Fault.ensures c.in-Err-Fault.field-0-is in
    says_fault c.args.words.now.file c.args.words.now.component (rows_of c.args.loaded.now) c.in-Err-Fault.fault c.refuse.result fault is

pub returns-in-Err-Fault-clause-still : goal.returns-in-Err-Fault-clause-still
returns-in-Err-Fault-clause-still c = other_still c.refuse.result c.refuse.ensures.other
