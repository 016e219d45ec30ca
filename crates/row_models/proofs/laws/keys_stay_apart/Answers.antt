use Rattle.std.proofs.Common.{◌+◌, length, arith}
use Rattle.row_models.proofs.Apart.{from_apart, more_apart, less_apart}
use Rattle.row_models.proofs.laws.keys_stay_apart.Goals as goal

pub returns : goal.returns
returns c = record {
  by_place = λ items next le. from_apart 0 (length items) next (omega (arith, le));
  fresh = λ items next. from_apart next (length items) (next + length items) (omega arith);
  more = λ rows at next value a. more_apart rows.keys at next a;
  less = λ rows at next within a. less_apart rows.keys at next within a;
}
