use Rattle.std.proofs.Common.{sym, ◌∙◌}
use Rattle.name_index.proofs.PlaceLists.{grown}
use Rattle.name_index.proofs.index.NameIndex.push.Goals as goal

pub invariant_of-self-else-is_err : goal.invariant_of-self-else-is_err
invariant_of-self-else-is_err c = grown c.add_number.result c.self.inside.places c.add_number.new.numbers c.self.inside.names _ c.args.name.now _ c.len-place.result c.add_number.ensures.ok (sym c.is_err.ensures.value ∙ c.if-is_err.false)
    c.self.invariant c.len-place.ensures c.in_ok-copy.ensures c.in_ok-push.ensures.ok
