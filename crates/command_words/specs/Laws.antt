-- What the laws speak of: words that name a file, and words that can't be read.
use Rattle.std.specs.Prelude.{ℕ, ◌≡◌, ◌≢◌, List, Option, Some, None, slice_index}
use Rattle.std.specs.Option.{option_map}
use Rattle.slint_base.specs.Names.{normal_name}
use Rattle.command_words.specs.Words.{words_of}

-- the word doesn't begin with a dash (45), so it is no option
abbrev pub IsPlain : List ℕ → Type 0
IsPlain word = slice_index word 0 ≢ 45

-- the words name this file, and this component if any
abbrev pub Asks : List (List ℕ) → List ℕ → Option (List ℕ) → Type 0
Asks ws file name = words_of ws ≡ Some (record { file = file; component = option_map normal_name name })

-- the words can't be read
abbrev pub IsUnreadable : List (List ℕ) → Type 0
IsUnreadable ws = words_of ws ≡ None
