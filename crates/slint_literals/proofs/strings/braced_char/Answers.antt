use Rattle.slint_literals.proofs.Hex.{all_front}
use Rattle.slint_literals.proofs.strings.braced_char.Goals as goal

pub hex_value-requires-clause-hex : goal.hex_value-requires-clause-hex
hex_value-requires-clause-hex c = rw c.requires (all_front _ c.args.bytes.now)
