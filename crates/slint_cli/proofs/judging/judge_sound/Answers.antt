use Rattle.import_resolver.specs.Loaded.{rows_of}
use Rattle.slint_cli.proofs.Judged.{says_first, says_other, other_still}
use Rattle.slint_cli.proofs.judging.judge_sound.Goals as goal

pub returns-in-Ok-Some-clause-says : goal.returns-in-Ok-Some-clause-says
returns-in-Ok-Some-clause-says c =
    says_first c.args.words.now.file c.args.words.now.component (rows_of c.args.loaded.now) c.in-Ok-Some.field-0 c.in-Ok-Some.component c.requires.sound c.in-Ok-Some.ensures c.in-Ok-Some.field-0-is

pub returns-in-Ok-None-clause-says : goal.returns-in-Ok-None-clause-says
returns-in-Ok-None-clause-says c =
    says_other c.args.words.now.file c.args.words.now.component (rows_of c.args.loaded.now) c.in-Ok-None.field-0 c.not_built.result c.requires.sound c.in-Ok-None.ensures c.in-Ok-None.field-0-is (rw c.as_str.ensures at c.not_built.ensures.is)

pub returns-in-Ok-None-clause-still : goal.returns-in-Ok-None-clause-still
returns-in-Ok-None-clause-still c = other_still c.not_built.result c.not_built.ensures.other
