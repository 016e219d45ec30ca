use Rattle.std.proofs.Common.{◌≡◌, List, ℕ, length, take, ap, arith}
use Rattle.std.proofs.lemmas.List.{length-take}
use Rattle.text_measure.specs.Reading.{most_table_bytes}
use Rattle.text_measure.proofs.lines.Lines.of.Goals as goal

pub invariant_of-result : goal.invariant_of-result
invariant_of-result c = record {
  placed = λ some.
      let l : length (take most_table_bytes c.args.file.now) ≡ _ = length-take most_table_bytes c.args.file.now in
      let same = ap (λ (xs : List ℕ). length xs) c.looked_at.ensures in
      omega (arith, l, same, c.requires);
}
