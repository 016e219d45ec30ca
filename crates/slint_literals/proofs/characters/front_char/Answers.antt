use Rattle.slint_literals.proofs.Chars.{char_utf8}
use Rattle.slint_literals.proofs.characters.front_char.Goals as goal

pub text_of-requires : goal.text_of-requires
text_of-requires c = rw c.front.ensures (rw c.char_len-length.ensures (char_utf8 c.args.bytes.now))
