use Rattle.slint_literals.proofs.Hex.{ascii_hex, hex_parsed}
use Rattle.slint_literals.proofs.hexadecimal.hex_value.Goals as goal

pub ascii_text-requires : goal.ascii_text-requires
ascii_text-requires c = ascii_hex c.args.digits.now c.requires.hex

pub unreachable-requires : goal.unreachable-requires
unreachable-requires c = let e = hex_parsed c.args.digits.now c.ascii_text.result.now c.from_str_radix.result c.ascii_text.ensures c.requires.hex c.requires.some c.requires.few c.from_str_radix.ensures.value in cc

pub returns : goal.returns
returns c = let e = hex_parsed c.args.digits.now c.ascii_text.result.now c.from_str_radix.result c.ascii_text.ensures c.requires.hex c.requires.some c.requires.few c.from_str_radix.ensures.value in cc
