use Rattle.std.proofs.Common.{◌≡◌, ◌-◌, vec_len}
use Rattle.row_models.specs.Rows.{keys_from}
use Rattle.row_models.proofs.keys.keys_from.Given as goal

-- the keys so far
abbrev pub invariant-loop-key : goal.invariant-loop-key
invariant-loop-key l = record { keys : l.keys.items ≡ keys_from l.first (l.key - l.first); count : vec_len l.keys ≡ l.key - l.first }
