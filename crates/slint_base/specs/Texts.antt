-- How long a text may be.
use Rattle.std.specs.Prelude.{ℕ, List, [], ◌∷◌, ◌-◌, nat_le, if◌then◌else◌, encode_utf8_all}
use Rattle.std.specs.Char.{len_utf8}
use Rattle.std.specs.Str.{chars}

-- the greatest number of bytes of a text
abbrev pub most_text_bytes : ℕ
most_text_bytes = 65535

-- the first of these characters, as many as fit whole into so many bytes
abbrev pub fitting : ℕ → List ℕ → List ℕ
fitting room [] = []
fitting room (c ∷ cs) = if nat_le (len_utf8 c) room then c ∷ fitting (room - len_utf8 c) cs else []

-- a text, cut behind the last whole character that fits into 65,535 bytes
abbrev pub cut_text : List ℕ → List ℕ
cut_text text = encode_utf8_all (fitting most_text_bytes (chars text))
