-- How identifiers are spelled.
use Rattle.std.specs.Prelude.{◌≡◌, ℕ, Bool, true, false, List, ◌∷◌, ◌==◌, ◌||◌, Option, Some, None, encode_utf8_all}
use Rattle.std.specs.List.{list_all}
use Rattle.std.specs.Str.{all_scalars}
use Rattle.unicode_ident.specs.Ident.{is_xid_start, is_xid_continue}
use Rattle.slint_literals.specs.Characters.{front_char}

-- a name begins with a character that may start an identifier, or with `_`
abbrev pub is_name_start : ℕ → Bool
is_name_start c = is_xid_start c || c == 95

-- and goes on with characters that may continue one, and with `-`
abbrev pub is_name_part : ℕ → Bool
is_name_part c = is_xid_continue c || c == 45

-- a character that begins a name
abbrev pub starts_name : Option ℕ → Bool
starts_name None = false
starts_name (Some c) = is_name_start c

-- the bytes begin with a character that begins a name
abbrev pub begins_name : List ℕ → Bool
begins_name s = starts_name (front_char s)

-- the text is a name: a character that begins one, and characters that go on with it
pub record IsName (text : List ℕ) : Type 0 where
  pub first : ℕ
  pub others : List ℕ
  pub are_chars : all_scalars (first ∷ others) ≡ true
  pub starts : is_name_start first ≡ true
  pub goes_on : list_all is_name_part others ≡ true
  pub is : text ≡ encode_utf8_all (first ∷ others)
