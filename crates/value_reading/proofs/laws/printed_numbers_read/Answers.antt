use Rattle.std.proofs.Common.{refl, arith}
use Rattle.std.specs.Prelude.{codes, pos}
use Rattle.slint_literals.specs.declared.numbers.Number.TheVariants as number
use Rattle.value_reading.proofs.PrintedNumbers.{exact}
use Rattle.value_reading.proofs.laws.printed_numbers_read.Goals as goal

pub returns : goal.returns
returns c = record {
  lengths = λ n h. exact 3 n (codes "px") (λ k. number.Length (pos k)) (omega arith) refl refl (λ d k. refl) h;
  angles = λ n h. exact 3 n (codes "deg") (λ k. number.Angle (pos k)) (omega arith) refl refl (λ d k. refl) h;
  percents = λ n h. exact 6 n (codes "%") (λ k. number.Percent (pos k)) (omega arith) refl refl (λ d k. refl) h;
}
