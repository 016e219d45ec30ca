use Rattle.std.proofs.Common.{sym}
use Rattle.slint_literals.proofs.Hex.{eight_hex, colour_is}
use Rattle.slint_literals.proofs.colours.read_colour.Goals as goal

pub hex_value-requires-clause-hex : goal.hex_value-requires-clause-hex
hex_value-requires-clause-hex c = (eight_hex c.args.digits.now c.in_ok-eight.eight (sym c.if-not-are_hex.ensures) (sym c.in_ok-eight.ensures)).0

pub returns : goal.returns
returns c = colour_is c.args.digits.now c.in_ok-eight.eight c.hex_value.result (sym c.if-not-are_hex.ensures) (sym c.in_ok-eight.ensures) c.hex_value.ensures
