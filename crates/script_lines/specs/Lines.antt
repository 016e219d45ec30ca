-- The lines of a script, and how one is read.
use Rattle.std.specs.Prelude.{ℕ, Bool, List, [], ◌∷◌, length, ◌==◌, ◌||◌, nat_eq, nat_lt, if◌then◌else◌, codes, Option, None, Some, Result, Ok, Err}
use Rattle.std.specs.List.{list_all, starts_with}
use Rattle.std.specs.Str.{bytes_eq, is_utf8}
use Rattle.script_lines.specs.declared.commands.Command.{Command}
use Rattle.script_lines.specs.declared.commands.Command.TheVariants.{Get, Set}
use Rattle.script_lines.specs.declared.commands.BadLine.{BadLine}
use Rattle.script_lines.specs.declared.commands.BadLine.TheVariants.{TooLong, Unread}
use Rattle.script_lines.specs.Paths.{path_of}

-- a line with one more byte at its front; where there is no line yet, that byte is one
abbrev pub onto_first : ℕ → List (List ℕ) → List (List ℕ)
onto_first b [] = (b ∷ []) ∷ []
onto_first b (line ∷ lines) = (b ∷ line) ∷ lines

-- the lines of a text: each ends at a line feed or at the text's end
abbrev pub lines_of : List ℕ → List (List ℕ)
lines_of [] = []
lines_of (b ∷ bs) = if b == 10 then [] ∷ lines_of bs else onto_first b (lines_of bs)

-- a line with one more byte at its front, where there is a line
abbrev pub onto_whole : ℕ → List (List ℕ) → List (List ℕ)
onto_whole b [] = []
onto_whole b (line ∷ lines) = (b ∷ line) ∷ lines

-- the lines of a text that end at a line feed
abbrev pub whole_lines : List ℕ → List (List ℕ)
whole_lines [] = []
whole_lines (b ∷ bs) = if b == 10 then [] ∷ whole_lines bs else onto_whole b (whole_lines bs)

-- a line without one carriage return at its end
abbrev pub without_return : List ℕ → List ℕ
without_return [] = []
without_return (b ∷ []) = if b == 13 then [] else b ∷ []
without_return (b ∷ c ∷ bs) = b ∷ without_return (c ∷ bs)

-- the most bytes of a line
abbrev pub most_line : ℕ
most_line = 4096

-- a space or a tab
abbrev pub is_blank : ℕ → Bool
is_blank b = b == 32 || b == 9

-- an empty line, a line of blanks and a comment ask for nothing
abbrev pub is_passed_over : List ℕ → Bool
is_passed_over line = list_all is_blank line || starts_with nat_eq line (codes "//")

-- what follows the blanks at a text's front
abbrev pub after_blanks : List ℕ → List ℕ
after_blanks [] = []
after_blanks (b ∷ bs) = if is_blank b then after_blanks bs else b ∷ bs

-- a text without the blanks at its end
abbrev pub without_end_blanks : List ℕ → List ℕ
without_end_blanks [] = []
without_end_blanks (b ∷ bs) = if list_all is_blank (b ∷ bs) then [] else b ∷ without_end_blanks bs

-- a text without the blanks around it
abbrev pub trimmed : List ℕ → List ℕ
trimmed text = after_blanks (without_end_blanks text)

-- a text up to its first blank
abbrev pub word_of : List ℕ → List ℕ
word_of [] = []
word_of (b ∷ bs) = if is_blank b then [] else b ∷ word_of bs

-- what follows the word at a text's front and the blanks behind it
abbrev pub after_word : List ℕ → List ℕ
after_word [] = []
after_word (b ∷ bs) = if is_blank b then after_blanks bs else after_word bs

-- a reading that there is, or the answer that the line fits no command
abbrev pub read_or : {A B : Type 0} → Option A → (A → B) → Result B BadLine
read_or None f = Err Unread
read_or (Some x) f = Ok (f x)

-- `get P`: the path is all that is left
abbrev pub read_get : List ℕ → Result (Option Command) BadLine
read_get rest = read_or (path_of rest) (λ path. Some (Get path))

-- `set P V`: the path is a word, and the value is what is left behind it, which isn't empty
abbrev pub read_set : List ℕ → Result (Option Command) BadLine
read_set rest = if length (after_word rest) == 0 then Err Unread else read_or (path_of (word_of rest)) (λ path. Some (Set path (after_word rest)))

-- a line's words, the first of which names the command
abbrev pub read_words : List ℕ → Result (Option Command) BadLine
read_words text =
    if bytes_eq (word_of text) (codes "get") then read_get (after_word text)
    else (if bytes_eq (word_of text) (codes "set") then read_set (after_word text) else Err Unread)

-- a line without its end: too long before all else; passed over, also where it isn't UTF-8; else its words
abbrev pub read_text : List ℕ → Result (Option Command) BadLine
read_text line =
    if nat_lt most_line (length line) then Err TooLong
    else (if is_passed_over line then Ok None else (if is_utf8 line then read_words (trimmed line) else Err Unread))

-- what a line says, which stands without its line feed; nothing where it is passed over
abbrev pub line_reading : List ℕ → Result (Option Command) BadLine
line_reading line = read_text (without_return line)
