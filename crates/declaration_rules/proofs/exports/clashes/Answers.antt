use Rattle.std.proofs.Common.{◌∙◌, ◌++◌, ap, map}
use Rattle.std.specs.List.{flat_map}
use Rattle.fault_order.specs.Order.{first_of}
use Rattle.declaration_rules.specs.Exports.{clash_of}
use Rattle.declaration_rules.specs.Repeats.{name_of, repeat_in}
use Rattle.declaration_rules.proofs.Exporting.{names-next}
use Rattle.declaration_rules.proofs.Telling.{turn_tells-all, turn_tells-next}
use Rattle.declaration_rules.proofs.exports.clashes.Goals as goal

pub loop-group-preserved : goal.loop-group-preserved
loop-group-preserved c =
    let held = c.loop-group.invariant in
    record {
      names = names-next c.args.groups.now c.loop-group.group-index c.group-item.result c.loop-group.names c.push_names.new.names c.loop-group-test.true c.group-item.is held.names
          (c.in_ok-push_names.ensures ∙ ap (λ group. c.loop-group.names ++ map name_of group) c.as_slice-in-loop-group.ensures);
      first = turn_tells-next clash_of c.loop-group.first c.first_among.result c.earlier-first.result c.args.groups.now c.loop-group.group-index c.group-item.result c.loop-group-test.true c.group-item.is held.first
          (c.first_among.ensures ∙ (ap (λ group. first_of (flat_map (repeat_in c.loop-group.names) group)) c.as_slice.ensures ∙ ap (λ names. first_of (flat_map (repeat_in names) c.group-item.result)) held.names)) c.earlier-first.ensures;
    }

pub returns : goal.returns
returns c = turn_tells-all clash_of c.loop-group.first c.args.groups.now c.loop-group.group-index c.loop-group-test.false c.loop-group.invariant.first
