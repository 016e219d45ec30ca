-- What the code finds at the front of bytes, against the pieces that lie there.
use Rattle.std.specs.Prelude.{◌≡◌, ℕ, zero, suc, ◌+◌, ◌^◌, ◌<◌, ◌≤◌, ⊤, ◌++◌, Bool, true, false, List, ◌∷◌, [], length, take, drop, if◌then◌else◌, Option, Some, None}
use Rattle.std.specs.Char.{len_utf8, is_ascii_alphanumeric}
use Rattle.std.specs.List.{prefix_len}
use Rattle.slint_base.specs.declared.endings.End.{End}
use Rattle.slint_base.specs.declared.endings.End.TheVariants as ends
use Rattle.slint_base.specs.declared.faults.Fault.{Fault}
use Rattle.slint_base.specs.declared.rules.Rule.{Rule}
use Rattle.slint_base.specs.declared.rules.Rule.TheVariants as rules
use Rattle.slint_literals.specs.declared.strings.Look.{Look}
use Rattle.slint_literals.specs.declared.strings.Look.TheVariants as looks
use Rattle.slint_literals.specs.Characters.{front_char}
use Rattle.slint_literals.specs.Steps.{Steps}
use Rattle.slint_lexer.specs.declared.classes.Class.TheVariants.{Quote, Close, Slash}
use Rattle.slint_lexer.specs.declared.classes.Second.TheVariants.{Block}
use Rattle.slint_lexer.specs.declared.found.Found.{Found}
use Rattle.slint_lexer.specs.declared.found.Found.TheVariants as found
use Rattle.slint_lexer.specs.declared.marks.Mark.{Mark}
use Rattle.slint_lexer.specs.declared.tokens.Symbol.{Symbol}
use Rattle.slint_lexer.specs.declared.tokens.Token.{Token}
use Rattle.slint_lexer.specs.declared.tokens.TokenKind.{TokenKind}
use Rattle.slint_lexer.specs.declared.tokens.TokenKind.TheVariants as kinds
use Rattle.slint_lexer.specs.Names.{is_name_part, IsName}
use Rattle.slint_lexer.specs.Pieces.{What, Apart, Tok, Bad, Front, NothingBegins, class_of, second_of, closed_text, holed_text, comment_step, line_step}
use Rattle.slint_lexer.specs.Lexing.{behind_token, Breaks}

-- what is found at the front of bytes is the piece there, or what breaks there where nothing begins
abbrev pub IsFound : Bool → List ℕ → Found → Type 0
IsFound ends s (found.Apart n) = (0 < n) × (n ≤ length s) × Front ends s Apart (drop n s)
IsFound ends s (found.Token k n) = (0 < n) × (n ≤ length s) × Front ends s (Tok k) (drop n s)
IsFound ends s (found.Bad rule n) = (n ≤ length s) × Front ends s (Bad rule) (drop n s)
IsFound ends s (found.Breaks rule at count) = (at + count ≤ length s) × NothingBegins ends s × Breaks ends s rule (drop at s) count

-- a piece of so many bytes
abbrev pub found_of : What → ℕ → Found
found_of Apart n = found.Apart n
found_of (Tok k) n = found.Token k n
found_of (Bad rule) n = found.Bad rule n

-- what the bytes behind a run of so many bytes, the first one of the piece counted, make of a piece of a string
abbrev pub text_found : Bool → List ℕ → ℕ → Look → Found
text_found first text at looks.Quote = found.Token (closed_text first text) (at + 1)
text_found first text at looks.Hole = found.Token (holed_text first text) (at + 2)
text_found first text at (looks.BadEscape n) = found.Breaks rules.BadEscape at n
text_found first text at looks.NotUtf8 = found.Breaks rules.NotUtf8 at 1
text_found first text at _ = found.Breaks rules.BadToken 0 1

-- a piece of a string begins here, the first or a further one
abbrev pub BeginsText : Bool → Bool → List ℕ → Type 0
BeginsText true ends s = class_of s ≡ Quote
BeginsText false ends s = (class_of s ≡ Close) × (ends ≡ true)

-- where nothing begins: a character, or a byte that begins none
abbrev pub nothing_found : ℕ → Found
nothing_found zero = found.Breaks rules.NotUtf8 0 1
nothing_found (suc n) = found.Breaks rules.BadToken 0 (suc n)

-- how many bytes the character that a name goes on with has; none where the name ends
abbrev pub part_length : Option ℕ → ℕ
part_length None = 0
part_length (Some c) = if is_name_part c then len_utf8 c else 0

-- so many bytes at the front are a name, and no character behind them goes on with it
pub record IsWholeName (s : List ℕ) (n : ℕ) : Type 0 where
  pub within : n ≤ length s
  pub name : IsName (take n s)
  pub ended : part_length (front_char (drop n s)) ≡ 0

-- a walk inside of a comment up to where no step goes on, from the byte behind its `/*` on: so many are open then, and so many bytes are taken
pub record IsCommentWalk (s : List ℕ) (depth at : ℕ) : Type 0 where
  pub begun : 2 ≤ at
  pub within : at ≤ length s
  pub walked : Steps comment_step (1, drop 2 s) (depth, drop at s)
  pub ended : comment_step (depth, drop at s) ≡ None

-- one step inside of a comment: so many are open behind it, and so many bytes are taken
abbrev pub IsCommentStep : ℕ → List ℕ → Option (ℕ × ℕ) → Type 0
IsCommentStep depth s None = comment_step (depth, s) ≡ None
IsCommentStep depth s (Some (next, n)) = (comment_step (depth, s) ≡ Some (next, drop n s)) × (0 < n) × (n ≤ length s) × (next ≤ depth + n)

-- a walk along a comment up to the line's end
pub record IsLineWalk (s : List ℕ) (at : ℕ) : Type 0 where
  pub begun : 2 ≤ at
  pub within : at ≤ length s
  pub walked : Steps line_step (drop 2 s) (drop at s)
  pub ended : line_step (drop at s) ≡ None

-- so many bytes are a step along such a comment; none where it ends
abbrev pub IsLineStep : List ℕ → ℕ → Type 0
IsLineStep s zero = line_step s ≡ None
IsLineStep s (suc n) = (line_step s ≡ Some (drop (suc n) s)) × (suc n ≤ length s)

-- what an open comment breaks: it is unclosed where the bytes end, else a byte begins no character
abbrev pub comment_found : ℕ → ℕ → Bool → Found
comment_found zero at ended = found.Apart at
comment_found (suc depth) at ended = if ended then found.Breaks rules.BadToken 0 2 else found.Breaks rules.NotUtf8 at 1

-- a comment that nests begins here
abbrev pub BeginsBlock : List ℕ → Type 0
BeginsBlock s = (class_of s ≡ Slash) × (second_of (drop 1 s) ≡ Block)

-- a symbol and how many bytes spell it, or else what a character of so many bytes is where nothing begins
abbrev pub symbol_found : Option (Symbol × ℕ) → ℕ → Found
symbol_found None n = nothing_found n
symbol_found (Some (k, n)) m = found.Token (kinds.Symbol k) n

-- how many ASCII letters and digits lie at the front
abbrev pub hash_length : List ℕ → ℕ
hash_length s = prefix_len is_ascii_alphanumeric s

-- what is found at a place lies below 2 ^ 32
abbrev pub FitsFile : ℕ → Found → Type 0
FitsFile at (found.Apart n) = at + n < 2 ^ 32
FitsFile at (found.Token k n) = at + n < 2 ^ 32
FitsFile at (found.Bad rule n) = at + n < 2 ^ 32
FitsFile at (found.Breaks rule from count) = at + from + count < 2 ^ 32

-- a broken rule, from a place in a file on, over so many bytes
abbrev pub fault_from : ℕ → Rule → ℕ → ℕ → Fault
fault_from file rule start count = record { rule = rule; span = record { file = file; start = start; end = start + count } }

-- a token of so many bytes, from a place in a file on
abbrev pub token_from : ℕ → ℕ → TokenKind → ℕ → Token
token_from file start kind count = record { kind = kind; span = record { file = file; start = start; end = start + count } }

-- what was found is taken: the tokens and marks behind it, and how many bytes it has
abbrev pub TakesPiece : ℕ → ℕ → Found → List Token → List Mark → List Token → List Mark → ℕ → Type 0
TakesPiece file at (found.Apart n) ts held us now m = (m ≡ n) × (us ≡ ts) × (now ≡ held)
TakesPiece file at (found.Token k n) ts held us now m = (m ≡ n) × (us ≡ ts ++ token_from file at k n ∷ []) × (now ≡ behind_token k held)
TakesPiece file at (found.Bad rule n) ts held us now m = ⊥
TakesPiece file at (found.Breaks rule from count) ts held us now m = ⊥

-- what was found is this fault
abbrev pub IsFaultOf : ℕ → ℕ → Found → Fault → Type 0
IsFaultOf file at (found.Apart n) fault = ⊥
IsFaultOf file at (found.Token k n) fault = ⊥
IsFaultOf file at (found.Bad rule n) fault = fault ≡ fault_from file rule at n
IsFaultOf file at (found.Breaks rule from count) fault = fault ≡ fault_from file rule (at + from) count

-- why what was found is not taken: a fault, or memory ran out
abbrev pub EndsPiece : ℕ → ℕ → Found → End Fault → Type 0
EndsPiece file at f (ends.Fault fault) = IsFaultOf file at f fault
EndsPiece file at f ends.Memory = ⊤
