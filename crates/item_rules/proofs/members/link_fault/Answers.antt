use Rattle.std.proofs.Common.{ap, ◌∙◌}
use Rattle.std.specs.Option.{option_copied}
use Rattle.fault_order.specs.Order.{first_of}
use Rattle.name_lookup.specs.Leads.{own_member}
use Rattle.item_rules.specs.declared.uses.Use.TheVariants as uses
use Rattle.item_rules.specs.Uses.{breach, left_mark, name_faults, path_faults, told_at}
use Rattle.fault_order.proofs.Told.{both_told}
use Rattle.item_rules.proofs.members.link_fault.Goals as goal

pub returns : goal.returns
returns c = both_told (name_faults c.args.body.now uses.LinkLeft c.args.link.now.left) (path_faults c.args.body.now (uses.LinkRight (left_mark (own_member c.args.body.now c.args.link.now.left.name))) c.args.link.now.right) c.earlier.ensures
    (c.left_side-left_fault.ensures ∙ ap (λ here. first_of (told_at c.args.link.now.left.span (breach here uses.LinkLeft (option_copied c.as_ref.result)))) c.here.ensures
    ∙ ap (λ found. first_of (told_at c.args.link.now.left.span (breach c.args.body.now.site uses.LinkLeft found))) (c.as_ref.ensures.value ∙ c.in_ok-left.ensures))
    (c.in_ok-right_fault.ensures ∙ ap (λ mark. first_of (path_faults c.args.body.now (uses.LinkRight mark) c.args.link.now.right)) (c.left_mark.ensures ∙ ap left_mark (c.as_ref-2.ensures.value ∙ c.in_ok-left.ensures)))
