use Rattle.std.proofs.Common.{◌≡◌, take}
use Rattle.row_models.specs.Rows.{keys_gone}
use Rattle.row_models.proofs.keys.keys_gone.Given as goal

-- the keys so far that are gone
abbrev pub invariant-loop-key : goal.invariant-loop-key
invariant-loop-key l = l.gone.items ≡ keys_gone l.now (take l.key-index l.old)
