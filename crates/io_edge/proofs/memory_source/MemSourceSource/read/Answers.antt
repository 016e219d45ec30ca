use Rattle.std.proofs.Common.{length, take, drop, sym, ap, ◌∙◌, arith}
use Rattle.std.proofs.lemmas.List.{take_rest}
use Rattle.io_edge.proofs.Told.{left_behind}
use Rattle.io_edge.proofs.memory_source.MemSourceSource.read.Goals as goal

pub returns-clause-taken : goal.returns-clause-taken
returns-clause-taken c =
    let s = c.self.inside in
    let n = c.min-count.result in
    let rest = take_rest c.deref.result.now s.at ∙ ap (drop s.at) c.deref.ensures.value in
    sym (ap (λ v. v.bytes) c.self.view_is)
    ∙ left_behind s.at n s.bytes.items c.copy_from_slice.new.self _ (c.copy_from_slice.ensures.after ∙ ap (take n) rest) (omega (arith, ap length rest))
