-- The parts of a value's text.
use Rattle.std.specs.Prelude.{◌≡◌, ℕ, ◌+◌, ◌<◌, ◌≤◌, length, Bool, List, [], ◌∷◌, map, take, drop, ◌==◌, ◌||◌, nat_le, if◌then◌else◌, Option, Some, None}
use Rattle.std.specs.Char.{is_ascii_digit, is_ascii_alphabetic, is_ascii_alphanumeric}
use Rattle.std.specs.List.{prefix_len, take_while}
use Rattle.std.specs.Option.{option_map}
use Rattle.slint_base.specs.Names.{dashed}
use Rattle.slint_base.specs.Texts.{cut_text}
use Rattle.slint_literals.specs.Colours.{colour_value}
use Rattle.slint_literals.specs.Numbers.{number_value, number_length}
use Rattle.slint_literals.specs.Strings.{IsRun}
use Rattle.value_reading.specs.declared.parts.Part.{Part}
use Rattle.value_reading.specs.declared.parts.Part.TheVariants as part
use Rattle.value_reading.specs.declared.parts.Found.{Found}
use Rattle.value_reading.specs.declared.parts.Front.{Front}
use Rattle.value_reading.specs.declared.parts.Front.TheVariants.{Digit, Hash, Quote, Letter, Mark, Other}

-- letters, `_` and characters beyond ASCII, with which words begin; digits and `-` go on
abbrev pub is_word_start : ℕ → Bool
is_word_start b = is_ascii_alphabetic b || (b == 95 || nat_le 128 b)

abbrev pub is_word_byte : ℕ → Bool
is_word_byte b = is_word_start b || (is_ascii_digit b || b == 45)

-- `-`, `.`, `,`, `:`, `@`, and brackets of three kinds
abbrev pub is_mark : ℕ → Bool
is_mark b = b == 45 || (b == 46 || (b == 44 || (b == 58 || (b == 64 || (b == 40 || (b == 41 || (b == 91 || (b == 93 || (b == 123 || b == 125)))))))))

-- what begins with a byte
abbrev pub front_of : ℕ → Front
front_of b = if is_ascii_digit b then Digit else if b == 35 then Hash else if b == 34 then Quote else if is_word_start b then Letter else if is_mark b then Mark else Other

-- the longest number at the front, by its value
abbrev pub number_part : List ℕ → Option Part
number_part text = option_map part.Number (number_value (take (number_length text) text))

-- a colour: the letters and digits behind a `#`
abbrev pub color_part : List ℕ → Option Part
color_part s = option_map part.Color (colour_value (take_while is_ascii_alphanumeric s))

-- a word as names are compared: each underscore behind its first byte counts as a dash
abbrev pub spelled : List ℕ → List ℕ
spelled [] = []
spelled (b ∷ s) = b ∷ map dashed s

-- the part at the front of a text that begins so, and what is behind it
abbrev pub IsPart : Front → ℕ → List ℕ → Part → List ℕ → Type 0
IsPart Digit b s p rest = (number_part (b ∷ s) ≡ Some p) × (rest ≡ drop (number_length (b ∷ s)) (b ∷ s))
IsPart Hash b s p rest = (color_part s ≡ Some p) × (rest ≡ drop (prefix_len is_ascii_alphanumeric s) s)
IsPart Quote b s p rest = (t : List ℕ) × IsRun s t (34 ∷ rest) × (p ≡ part.Str (cut_text t))
IsPart Letter b s p rest = (p ≡ part.Word (spelled (take_while is_word_byte (b ∷ s)))) × (rest ≡ drop (prefix_len is_word_byte (b ∷ s)) (b ∷ s))
IsPart Mark b s p rest = (p ≡ part.Mark b) × (rest ≡ s)
IsPart Other b s p rest = ⊥

-- the parts of a text: numbers, colours, strings, words and marks, with spaces between them where they may stand
pub data AreParts : List ℕ → List Part → Type 0 where
  none : AreParts [] []
  space : (text : List ℕ) (parts : List Part) → AreParts text parts → AreParts (32 ∷ text) parts
  more : (b : ℕ) (s rest : List ℕ) (p : Part) (parts : List Part) → IsPart (front_of b) b s p rest → AreParts rest parts → AreParts (b ∷ s) (p ∷ parts)

-- a string whose run spells a text and has so many bytes
pub record IsStringOf (s t : List ℕ) (n : ℕ) (found : Found) : Type 0 where
  pub counts : found.length ≡ n + 2
  pub within : n + 1 ≤ length s
  pub run : IsRun s t (34 ∷ drop (n + 1) s)
  pub part : found.part ≡ part.Str (cut_text t)

-- what is found at the front of a text that begins so: a part and how many bytes it has, or that no part lies there
abbrev pub FindsAt : Front → ℕ → List ℕ → Option Found → Type 0
FindsAt f b s None = (p : Part) (rest : List ℕ) → IsPart f b s p rest → ⊥
FindsAt f b s (Some found) = IsPart f b s found.part (drop found.length (b ∷ s)) × (0 < found.length) × (found.length ≤ length (b ∷ s))

-- the same of any text with a byte
abbrev pub Finds : List ℕ → Option Found → Type 0
Finds [] answer = ⊥
Finds (b ∷ s) answer = FindsAt (front_of b) b s answer

-- the one list of the parts of a text, or that there is none
abbrev pub SplitsInto : List ℕ → Option (List Part) → Type 0
SplitsInto text None = (parts : List Part) → AreParts text parts → ⊥
SplitsInto text (Some parts) = AreParts text parts × ((others : List Part) → AreParts text others → others ≡ parts)
