use Rattle.std.proofs.Common.{length}
use Rattle.dep_list.specs.Pairs.{readers_of}
use Rattle.property_cells.specs.Marks.{pending}
use Rattle.property_cells.proofs.MarkingLoops.{MarksReaders}
use Rattle.property_cells.proofs.marks.Marks.mark_readers.Given as goal

abbrev pub invariant-loop-reader : goal.invariant-loop-reader
invariant-loop-reader l = MarksReaders (readers_of l.point l.deps.pairs) (pending l.initial.self) l.readers (pending l.self)

abbrev pub decreases-loop-reader : goal.decreases-loop-reader
decreases-loop-reader l = length l.readers
