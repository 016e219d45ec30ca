use Rattle.std.proofs.Common.{◌≡◌, to_z, of_z, ap, ◌∙◌, arith, w64}
use Rattle.layout_solve.specs.Sizes.{grown}
use Rattle.layout_solve.proofs.Wide.{cast-is, cast_fits}
use Rattle.layout_solve.proofs.Growth.{IsRead, wanted-fits, grown_within, grown-by}
use Rattle.layout_solve.proofs.sizings.grown.Goals as goal

read : (c : goal.After-from-3) → IsRead c.args.even c.args.by c.args.item.now c.from.result c.from-2.result c.from-3.result
read c = record {
  item_is = c.requires;
  short = omega arith;
  pref = c.from.ensures;
  level = c.from-2.ensures;
  weight = c.from-3.ensures ∙ ap (λ z. to_z w64 (of_z w64 z)) c.weight_in.ensures;
}

value : (c : goal.After-min) → c.min.result ≡ grown c.args.even c.args.by c.args.item.now
value c =
    let r : IsRead c.args.even c.args.by c.args.item.now c.from.result c.from-2.result c.from-3.result = record {
      item_is = c.requires;
      short = omega arith;
      pref = c.from.ensures;
      level = c.from-2.ensures;
      weight = c.from-3.ensures ∙ ap (λ z. to_z w64 (of_z w64 z)) c.weight_in.ensures;
    }
    in
    grown-by c.args.even c.args.by c.args.item.now _ _ _ _ c.min.result r c.from-4.ensures c.min.ensures.value

pub overflow_add-wanted : goal.overflow_add-wanted
overflow_add-wanted c = wanted-fits c.args.even c.args.by c.args.item.now _ _ _ (read c)

pub overflow_cast-result : goal.overflow_cast-result
overflow_cast-result c = cast_fits _ _ (grown_within c.args.even c.args.by c.args.item.now c.requires (omega arith)) (value c)

pub returns : goal.returns
returns c = cast-is _ _ (grown_within c.args.even c.args.by c.args.item.now c.requires (omega arith)) (value c)
