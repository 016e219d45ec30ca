-- What the digits of a colour write.
use Rattle.std.specs.Prelude.{ℕ, List, [], ◌∷◌, if◌then◌else◌, Option, Some, None}
use Rattle.std.specs.Char.{is_ascii_hexdigit}
use Rattle.std.specs.List.{list_all}
use Rattle.std.specs.Option.{option_map}
use Rattle.std.specs.Str.Parse.{digits_value}

-- two digits each of red, green, blue and alpha: a digit of a short form stands for two, and a left out alpha is `ff`
abbrev pub eight_digits : List ℕ → Option (List ℕ)
eight_digits (r ∷ g ∷ b ∷ []) = Some (r ∷ r ∷ g ∷ g ∷ b ∷ b ∷ 102 ∷ 102 ∷ [])
eight_digits (r ∷ g ∷ b ∷ a ∷ []) = Some (r ∷ r ∷ g ∷ g ∷ b ∷ b ∷ a ∷ a ∷ [])
eight_digits (r ∷ s ∷ g ∷ h ∷ b ∷ c ∷ []) = Some (r ∷ s ∷ g ∷ h ∷ b ∷ c ∷ 102 ∷ 102 ∷ [])
eight_digits (r ∷ s ∷ g ∷ h ∷ b ∷ c ∷ a ∷ d ∷ []) = Some (r ∷ s ∷ g ∷ h ∷ b ∷ c ∷ a ∷ d ∷ [])
eight_digits _ = None

-- the colour, as `rrggbbaa`, that the text behind a `#` writes: 3, 4, 6 or 8 hex digits
abbrev pub colour_value : List ℕ → Option ℕ
colour_value digits = if list_all is_ascii_hexdigit digits then option_map (digits_value 16) (eight_digits digits) else None
