-- How a path is written in a script.
use Rattle.std.specs.Prelude.{ℕ, Bool, false, List, [], ◌∷◌, length, ◌==◌, ◌&&◌, ◌||◌, nat_le, nat_lt, if◌then◌else◌, Option, None, Some}
use Rattle.std.specs.List.{list_all, slice_split}
use Rattle.std.specs.Option.{option_map}
use Rattle.std.specs.Char.{is_ascii_digit}
use Rattle.std.specs.Str.{chars}
use Rattle.std.specs.Str.Parse.{digits_value}
use Rattle.unicode_ident.specs.Ident.{is_xid_start, is_xid_continue}
use Rattle.slint_base.specs.Names.{normal_name}
use Rattle.slint_base.specs.Options.{all_of}
use Rattle.script_lines.specs.declared.commands.PathStep.{PathStep}

-- the characters of a name: one that may begin an identifier or `_`, then such as may go on in one and `-`
abbrev pub are_name_chars : List ℕ → Bool
are_name_chars [] = false
are_name_chars (c ∷ cs) = (is_xid_start c || c == 95) && list_all (λ d. is_xid_continue d || d == 45) cs

-- the text is a name of the language
abbrev pub is_path_name : List ℕ → Bool
is_path_name text = are_name_chars (chars text)

-- a text up to its first `[`
abbrev pub before_bracket : List ℕ → List ℕ
before_bracket [] = []
before_bracket (b ∷ bs) = if b == 91 then [] else b ∷ before_bracket bs

-- a text from its first `[` on
abbrev pub from_bracket : List ℕ → List ℕ
from_bracket [] = []
from_bracket (b ∷ bs) = if b == 91 then b ∷ bs else from_bracket bs

-- what stands before a text's last byte, where that is `]`
abbrev pub before_close : List ℕ → Option (List ℕ)
before_close [] = None
before_close (b ∷ []) = if b == 93 then Some [] else None
before_close (b ∷ c ∷ bs) = option_map (λ front. b ∷ front) (before_close (c ∷ bs))

-- a row number has 1 to 9 digits
abbrev pub row_number : List ℕ → Option ℕ
row_number digits = if nat_lt 0 (length digits) && (nat_le (length digits) 9 && list_all is_ascii_digit digits) then Some (digits_value 10 digits) else None

-- the row number between a `[` at a text's front and a `]` at its end
abbrev pub bracketed : Option (List ℕ) → Option ℕ
bracketed None = None
bracketed (Some digits) = row_number digits

-- what stands behind a step's name: nothing, or a row number in brackets
abbrev pub row_of : List ℕ → Option (Option ℕ)
row_of [] = Some None
row_of (b ∷ bs) = option_map (λ row. Some row) (bracketed (before_close bs))

-- a step: a name, with or without a row number
abbrev pub step_of : List ℕ → Option PathStep
step_of text =
    if is_path_name (before_bracket text)
    then option_map (λ row. record { name = normal_name (before_bracket text); row = row }) (row_of (from_bracket text))
    else None

-- the steps behind the first name
abbrev pub steps_of : List (List ℕ) → Option (List PathStep)
steps_of texts = all_of step_of texts

-- a path's parts: the first is a name alone
abbrev pub path_from : List (List ℕ) → Option (List PathStep)
path_from [] = None
path_from (first ∷ others) =
    if is_path_name first then option_map (λ steps. record { name = normal_name first; row = None } ∷ steps) (steps_of others) else None

-- a path's parts stand between points
abbrev pub path_of : List ℕ → Option (List PathStep)
path_of text = path_from (slice_split (λ b. b == 46) text)
