use Rattle.std.proofs.Common.{◌≡◌, ◌+◌, length, map, subst, sym, ap, ◌∙◌, arith}
use Rattle.std.proofs.lemmas.List.{length_push}
use Rattle.source_scopes.specs.Shown.{shown_component}
use Rattle.child_rules.proofs.KnownEnds.{AreEndsFor, are_ends, ends_more, known_first, no_ends}
use Rattle.child_rules.proofs.ends.ends_of.Goals as goal

pub loop-component-init : goal.loop-component-init
loop-component-init c = record {
  known = known_first (map shown_component c.args.declared.now) c.args.places.now.comps c.in_ok-known.known c.in_ok-known.ensures;
  ends = no_ends (map shown_component c.args.declared.now) c.args.places.now.comps c.new-ends.result c.new-ends.ensures;
  many = ap length c.new-ends.ensures;
}

pub loop-component-preserved : goal.loop-component-preserved
loop-component-preserved c = record {
  known = c.in_ok-cursor.ensures.are_known;
  ends = subst (AreEndsFor (map shown_component c.args.declared.now) c.args.places.now.comps) (sym c.in_ok-push.ensures.ok)
      (ends_more (map shown_component c.args.declared.now) c.args.places.now.comps c.loop-component.ends c.loop-component.component c.in_ok-cursor.cursor c.loop-component.invariant.ends c.loop-component.invariant.many c.in_ok-cursor.ensures.is_end);
  many = ap length c.in_ok-push.ensures.ok ∙ length_push c.loop-component.ends c.in_ok-cursor.cursor ∙ ap (λ n. n + 1) c.loop-component.invariant.many;
}

pub returns : goal.returns
returns c =
    let all : length c.loop-component.ends ≡ length c.args.places.now.comps = omega (arith, c.loop-component.invariant.many, ap length c.comps-count.ensures) in
    are_ends (map shown_component c.args.declared.now) c.args.places.now.comps c.loop-component.ends all c.loop-component.invariant.ends
