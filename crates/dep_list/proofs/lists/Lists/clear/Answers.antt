use Rattle.std.proofs.Common.{◌≤◌, length, arith}
use Rattle.dep_list.specs.Lists.{state}
use Rattle.dep_list.proofs.SeenLemmas.{ClearsSoFar-none, ClearsSoFar-more, ClearsSoFar-all}
use Rattle.dep_list.proofs.lists.Lists.clear.Goals as goal

pub loop-reader-init : goal.loop-reader-init
loop-reader-init c = ClearsSoFar-none (state c.args.self.now) c.requires

pub loop-reader-preserved : goal.loop-reader-preserved
loop-reader-preserved c =
    ClearsSoFar-more c.loop-reader.reader (state c.args.self.now) (state c.loop-reader.self) (state c.unlink.new.self) c.loop-reader.invariant c.unlink.ensures.held c.unlink.ensures.pairs c.unlink.ensures.room

pub returns-clause-pairs : goal.returns-clause-pairs
returns-clause-pairs c =
    let past : length c.args.self.now.readers.items ≤ c.loop-reader.reader = omega (arith, c.args.self.now.readers.ok.0, c.len-reader-end.ensures, c.loop-reader-test.false) in
    ClearsSoFar-all c.loop-reader.reader (state c.args.self.now) (state c.loop-reader.self) c.loop-reader.invariant past
