use Rattle.std.proofs.Common.{subst, sym, ◌∙◌}
use Rattle.child_rules.specs.Ways.{IsWay}
use Rattle.child_rules.proofs.ByEnds.{grid_kind}
use Rattle.child_rules.proofs.ends.end_of.Goals as goal

pub way_from-requires : goal.way_from-requires
way_from-requires c = sym c.landing.ensures ∙ grid_kind c.landing.result (sym c.is_grid_kind.ensures ∙ c.if-is_grid_kind.true)

pub go_back-requires : goal.go_back-requires
go_back-requires c = record { are_known = c.requires; leads = subst (λ known. IsWay c.args.places.now.comps known c.in_ok-way.way) c.as_slice.ensures c.in_ok-way.ensures.leads }
