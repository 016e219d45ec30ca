-- How a name is spelled when names are compared.
use Rattle.std.specs.Prelude.{ℕ, List, [], ◌∷◌, map, ◌==◌, if◌then◌else◌, encode_utf8_all}
use Rattle.std.specs.Str.{chars}

-- an underscore counts as a dash
abbrev pub dashed : ℕ → ℕ
dashed c = if c == 95 then 45 else c

-- the characters of a name: each underscore after the first character counts as a dash
abbrev pub normal_chars : List ℕ → List ℕ
normal_chars [] = []
normal_chars (c ∷ cs) = c ∷ map dashed cs

-- the name that a text spells, both as bytes
abbrev pub normal_name : List ℕ → List ℕ
normal_name text = encode_utf8_all (normal_chars (chars text))
