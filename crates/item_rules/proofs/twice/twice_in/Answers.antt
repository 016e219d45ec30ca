use Rattle.std.proofs.Common.{refl, ap, ◌∙◌}
use Rattle.fault_order.specs.Order.{first_of}
use Rattle.item_rules.specs.Twice.{twice_in}
use Rattle.item_rules.proofs.Turns.{all_named, named_end, named_turn, own_name}
use Rattle.item_rules.proofs.twice.twice_in.Goals as goal

pub loop-name-preserved : goal.loop-name-preserved
loop-name-preserved c = named_turn own_name c.args.names.now c.loop-name.name-index c.name-item.result c.loop-name.seen c.note_if_any.new.seen c.loop-name.fault c.in_ok-fault.fault c.name-item.is c.loop-name-test.true refl c.in_ok-fault.ensures c.loop-name.invariant

pub returns : goal.returns
returns c = named_end own_name c.args.names.now c.loop-name.name-index c.loop-name.seen c.loop-name.fault c.loop-name-test.false c.loop-name.invariant ∙ ap (λ names. first_of (twice_in names)) (all_named c.args.names.now)
