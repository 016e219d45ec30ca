use Rattle.std.proofs.Common.{◌≡◌, refl, ap, length, arith, rules}
use Rattle.finite_graphs.specs.declared.search.Search.{Search}
use Rattle.finite_graphs.proofs.Labelling.{labelling_init, labelling_step, label_within, labelling_end, labelling_front}
use Rattle.finite_graphs.proofs.search.Search.label_from.Goals as goal

pub loop-self-init : goal.loop-self-init
loop-self-init c = record { labels = labelling_init c.args.self.now.places c.args.self.now.path c.args.start c.args.self.now.count c.requires.start; others = refl }

pub set-requires : goal.set-requires
set-requires c = label_within c.requires.on_path c.loop-self.invariant.labels c.pop.new.self c.in-Some.node c.in-Some.ensures (omega (arith, c.len.ensures))

pub loop-self-preserved-in-Some : goal.loop-self-preserved-in-Some
loop-self-preserved-in-Some c =
    let count = ap (λ (s : Search). s.count) c.loop-self.invariant.others in
    record {
      labels = labelling_step c.requires.on_path c.loop-self.invariant.labels c.pop.new.self c.in-Some.node c.in-Some.ensures (omega (arith, c.len.ensures)) c.loop-self.self.count c.set.new.self count c.set.ensures;
      others = search rules;
    }

pub loop-self-preserved : goal.loop-self-preserved
loop-self-preserved c = let none : length c.loop-self.self.path ≡ 0 = ap length c.in_default.ensures.0 in absurd (omega (arith, c.len.ensures))

pub returns-clause-places : goal.returns-clause-places
returns-clause-places c = labelling_end c.loop-self.invariant.labels (omega (arith, c.len.ensures))

pub returns-clause-path : goal.returns-clause-path
returns-clause-path c = labelling_front c.loop-self.invariant.labels (omega (arith, c.len.ensures))
