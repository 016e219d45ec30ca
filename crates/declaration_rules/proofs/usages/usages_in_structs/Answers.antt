use Rattle.std.proofs.Common.{◌∙◌, ◌++◌, ap, sym}
use Rattle.std.specs.List.{flat_map}
use Rattle.source_scopes.specs.Shown.{shown_struct}
use Rattle.declaration_rules.specs.Circles.{usages_in_struct, usage_of_type}
use Rattle.declaration_rules.specs.Words.{words_of_field}
use Rattle.declaration_rules.proofs.Using.{views-all, views-length, views-next}
use Rattle.declaration_rules.proofs.usages.usages_in_structs.Goals as goal

pub loop-number-preserved : goal.loop-number-preserved
loop-number-preserved c =
    views-next (usages_in_struct c.args.scopes.now) shown_struct c.loop-number.usages c.push_struct.new.out c.args.structs.now c.loop-number.number c.index-structs-number.result c.loop-number-test.true c.index-structs-number.is c.loop-number.invariant
    ((c.in_ok-push_struct.ensures ∙ ap (λ fields. c.loop-number.usages ++ flat_map (usage_of_type c.args.scopes.now c.loop-number.number c.index-structs-number.result.file) (flat_map words_of_field fields)) c.as_slice.ensures) ∙ ap (λ n. c.loop-number.usages ++ flat_map (usage_of_type c.args.scopes.now n c.index-structs-number.result.file) (flat_map words_of_field c.index-structs-number.result.decl.now.fields)) (sym (views-length shown_struct c.args.structs.now c.loop-number.number c.loop-number-test.true)))

pub returns : goal.returns
returns c = views-all (usages_in_struct c.args.scopes.now) shown_struct c.loop-number.usages c.args.structs.now c.loop-number.number c.loop-number-test.false c.loop-number.invariant
