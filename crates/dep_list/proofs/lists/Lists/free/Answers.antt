use Rattle.dep_list.specs.Lists.{state}
use Rattle.dep_list.proofs.SeenLemmas.{spare_of}
use Rattle.dep_list.proofs.lists.Lists.free.Goals as goal

pub free_spare-requires : goal.free_spare-requires
free_spare-requires c = spare_of (state c.clear.new.self) c.clear.ensures.held c.clear.ensures.pairs
