use Rattle.loader_tests.proofs.paths.meant_below.Goals as goal

pub file_meant-requires : goal.file_meant-requires
file_meant-requires c = c.is_below.ensures.0 c.if-not-is_below.false
