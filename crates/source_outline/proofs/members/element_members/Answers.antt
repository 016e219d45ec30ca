use Rattle.std.proofs.Common.{refl, ◌∙◌, ap, ◌++◌}
use Rattle.source_outline.specs.Members.{body_members, element_members}
use Rattle.source_outline.proofs.Turns.{turn, ended}
use Rattle.source_outline.proofs.members.element_members.Goals as goal

pub loop-element-preserved : goal.loop-element-preserved
loop-element-preserved c = turn (λ n xs. element_members c.args.scopes.now c.args.file n xs) (body_members c.args.scopes.now c.args.file c.loop-element.element c.index-written-element.result.body) c.args.written.now c.loop-element.element c.index-written-element.result c.loop-element.made c.push_members.new.out _
    refl c.index-written-element.is c.loop-element-test.true (c.in_ok-push_members.ensures ∙ ap (λ xs. c.loop-element.made ++ body_members c.args.scopes.now c.args.file c.loop-element.element xs) c.body.ensures) c.loop-element.invariant

pub returns : goal.returns
returns c = ended (λ n xs. element_members c.args.scopes.now c.args.file n xs) c.args.written.now c.loop-element.element c.loop-element.made _ refl c.loop-element-test.false c.loop-element.invariant
