-- Which tokens a source's bytes are, and which fault they have.
use Rattle.std.specs.Prelude.{◌≡◌, ℕ, zero, suc, ◌+◌, ◌-◌, ⊤, Bool, true, false, List, [], ◌∷◌, ◌++◌, length, take, drop, nat_eq, if◌then◌else◌, Option, Some, None}
use Rattle.std.specs.List.{slice_get, starts_with}
use Rattle.slint_base.specs.declared.endings.End.{End}
use Rattle.slint_base.specs.declared.endings.End.TheVariants as ends
use Rattle.slint_base.specs.declared.faults.Fault.{Fault}
use Rattle.slint_base.specs.declared.rules.Rule.{Rule}
use Rattle.slint_base.specs.declared.rules.Rule.TheVariants as rules
use Rattle.slint_literals.specs.declared.strings.Look.{Look}
use Rattle.slint_literals.specs.declared.strings.Look.TheVariants as looks
use Rattle.slint_literals.specs.Characters.{char_len}
use Rattle.slint_literals.specs.Steps.{Steps}
use Rattle.slint_literals.specs.Strings.{text_look, IsRun}
use Rattle.slint_lexer.specs.declared.classes.Class.{Class}
use Rattle.slint_lexer.specs.declared.classes.Class.TheVariants.{Quote, Close, Slash, Other}
use Rattle.slint_lexer.specs.declared.classes.Second.{Second}
use Rattle.slint_lexer.specs.declared.classes.Second.TheVariants.{Block, Line, Neither}
use Rattle.slint_lexer.specs.declared.marks.Mark.{Mark}
use Rattle.slint_lexer.specs.declared.marks.Mark.TheVariants.{Brace, Hole}
use Rattle.slint_lexer.specs.declared.tokens.Symbol.TheVariants as symbols
use Rattle.slint_lexer.specs.declared.tokens.Token.{Token}
use Rattle.slint_lexer.specs.declared.tokens.TokenKind.{TokenKind}
use Rattle.slint_lexer.specs.declared.tokens.TokenKind.TheVariants as kinds
use Rattle.slint_lexer.specs.Pieces.{Apart, Tok, Bad, Front, NothingBegins, class_of, second_of, comment_step}

-- a hole lies on top
abbrev pub is_hole : Option Mark → Bool
is_hole None = false
is_hole (Some Brace) = false
is_hole (Some Hole) = true

-- the marks of open braces and holes, the innermost last: a closing brace ends a hole where the innermost is one
abbrev pub ends_hole : List Mark → Bool
ends_hole held = is_hole (slice_get held (length held - 1))

-- without the innermost mark
abbrev pub without_last : List Mark → List Mark
without_last held = take (length held - 1) held

-- the marks behind a token
abbrev pub behind_token : TokenKind → List Mark → List Mark
behind_token (kinds.Symbol symbols.OpenBrace) held = held ++ Brace ∷ []
behind_token (kinds.Symbol symbols.CloseBrace) held = without_last held
behind_token (kinds.Head text) held = held ++ Hole ∷ []
behind_token (kinds.Tail text) held = without_last held
behind_token _ held = held

-- a token of a file of n bytes, by what is left at its start and behind it
abbrev pub token_between : ℕ → ℕ → TokenKind → List ℕ → List ℕ → Token
token_between file n kind s r = record { kind = kind; span = record { file = file; start = n - length s; end = n - length r } }

-- from the marks held and what is left there, separators and tokens, each the longest, lead to other marks and what is left then
pub data Lexes (file n : ℕ) : List Mark → List ℕ → List Token → List Mark → List ℕ → Type 0 where
  stop : (held : List Mark) (s : List ℕ) → Lexes file n held s [] held s
  blank : (held now : List Mark) (s x r : List ℕ) (ts : List Token) → Front (ends_hole held) s Apart x → Lexes file n held x ts now r → Lexes file n held s ts now r
  token : (held now : List Mark) (s x r : List ℕ) (k : TokenKind) (ts : List Token) → Front (ends_hole held) s (Tok k) x → Lexes file n (behind_token k held) x ts now r → Lexes file n held s (token_between file n k s x ∷ ts) now r

-- what is left behind a U+FEFF at the start of a file
abbrev pub behind_mark : List ℕ → List ℕ
behind_mark bytes = if starts_with nat_eq bytes (0xEF ∷ 0xBB ∷ 0xBF ∷ []) then drop 3 bytes else bytes

-- the bytes of a file are these tokens
abbrev pub IsLexing : ℕ → List ℕ → List Token → Type 0
IsLexing file bytes tokens = (now : List Mark) × Lexes file (length bytes) [] (behind_mark bytes) tokens now []

-- a broken rule in a file of n bytes, by what is left where it is broken, and how many bytes of that it takes
abbrev pub fault_at : ℕ → ℕ → Rule → List ℕ → ℕ → Fault
fault_at file n rule s count = record { rule = rule; span = record { file = file; start = n - length s; end = n - length s + count } }

-- what breaks a piece of a string that goes from s on, by what lies behind its run
abbrev pub BreaksText : Look → List ℕ → List ℕ → Rule → List ℕ → ℕ → Type 0
BreaksText (looks.BadEscape n) s x rule at count = (rule ≡ rules.BadEscape) × (at ≡ x) × (count ≡ n)
BreaksText looks.NotUtf8 s x rule at count = (rule ≡ rules.NotUtf8) × (at ≡ x) × (count ≡ 1)
BreaksText looks.End s x rule at count = (rule ≡ rules.BadToken) × (at ≡ s) × (count ≡ 1)
BreaksText _ s x rule at count = ⊥

-- what breaks a comment that goes from s on: a byte inside that begins no character, or else that it is unclosed
abbrev pub BreaksComment : List ℕ → List ℕ → Rule → List ℕ → ℕ → Type 0
BreaksComment s [] rule at count = (rule ≡ rules.BadToken) × (at ≡ s) × (count ≡ 2)
BreaksComment s (b ∷ x) rule at count = (rule ≡ rules.NotUtf8) × (at ≡ b ∷ x) × (count ≡ 1)

-- what breaks at a byte with which nothing begins
abbrev pub BreaksOther : ℕ → List ℕ → Rule → List ℕ → ℕ → Type 0
BreaksOther zero s rule at count = (rule ≡ rules.NotUtf8) × (at ≡ s) × (count ≡ 1)
BreaksOther (suc n) s rule at count = (rule ≡ rules.BadToken) × (at ≡ s) × (count ≡ suc n)

-- a piece of a string that begins with the byte b is broken
abbrev pub BreaksString : ℕ → List ℕ → Rule → List ℕ → ℕ → Type 0
BreaksString b s rule at count = (text : List ℕ) × (x : List ℕ) × IsRun s text x × BreaksText (text_look x) (b ∷ s) x rule at count

-- a comment is broken, where so many are open and no step goes on
abbrev pub BreaksSlash : Second → ℕ → List ℕ → Rule → List ℕ → ℕ → Type 0
BreaksSlash Block b s rule at count = (depth : ℕ) × (x : List ℕ) × Steps comment_step (1, drop 1 s) (suc depth, x) × (comment_step (suc depth, x) ≡ None) × BreaksComment (b ∷ s) x rule at count
BreaksSlash Line b s rule at count = ⊥
BreaksSlash Neither b s rule at count = ⊥

-- a brace that ends a hole begins a piece of a string, which is broken
abbrev pub BreaksClose : Bool → ℕ → List ℕ → Rule → List ℕ → ℕ → Type 0
BreaksClose true b s rule at count = BreaksString b s rule at count
BreaksClose false b s rule at count = ⊥

-- the rule that is broken where nothing begins, by the first byte's class: where, and by how many bytes
abbrev pub BreaksAs : Class → Bool → ℕ → List ℕ → Rule → List ℕ → ℕ → Type 0
BreaksAs Quote ends b s rule at count = BreaksString b s rule at count
BreaksAs Close ends b s rule at count = BreaksClose ends b s rule at count
BreaksAs Slash ends b s rule at count = BreaksSlash (second_of s) b s rule at count
BreaksAs Other ends b s rule at count = BreaksOther (char_len (b ∷ s)) (b ∷ s) rule at count
BreaksAs _ ends b s rule at count = ⊥

abbrev pub Breaks : Bool → List ℕ → Rule → List ℕ → ℕ → Type 0
Breaks ends [] rule at count = ⊥
Breaks ends (b ∷ s) rule at count = BreaksAs (class_of (b ∷ s)) ends b s rule at count

-- lexing ends here with a fault: the piece has a value that breaks a rule, or nothing begins
pub data Stuck (file n : ℕ) (ends : Bool) (s : List ℕ) : Fault → Type 0 where
  bad : (rule : Rule) (r : List ℕ) → Front ends s (Bad rule) r → Stuck file n ends s (fault_at file n rule s (length s - length r))
  breaks : (rule : Rule) (at : List ℕ) (count : ℕ) → NothingBegins ends s → Breaks ends s rule at count → Stuck file n ends s (fault_at file n rule at count)

-- the bytes of a file have this fault: tokens up to where lexing ends with it
abbrev pub IsFaulted : ℕ → List ℕ → Fault → Type 0
IsFaulted file bytes fault = (tokens : List Token) × (now : List Mark) × (s : List ℕ) × Lexes file (length bytes) [] (behind_mark bytes) tokens now s × Stuck file (length bytes) (ends_hole now) s fault

-- the bytes are these tokens and no others, and have no fault
pub record AreTokens (file : ℕ) (bytes : List ℕ) (tokens : List Token) : Type 0 where
  pub lexed : IsLexing file bytes tokens
  pub only : (others : List Token) → IsLexing file bytes others → others ≡ tokens
  pub faultless : (fault : Fault) → IsFaulted file bytes fault → ⊥

-- the bytes have this fault and no other, and are no tokens
pub record HasFault (file : ℕ) (bytes : List ℕ) (fault : Fault) : Type 0 where
  pub faulted : IsFaulted file bytes fault
  pub only : (other : Fault) → IsFaulted file bytes other → other ≡ fault
  pub tokenless : (tokens : List Token) → IsLexing file bytes tokens → ⊥

-- why lexing ended without tokens: a fault, or memory ran out
abbrev pub EndsLexing : ℕ → List ℕ → End Fault → Type 0
EndsLexing file bytes (ends.Fault fault) = HasFault file bytes fault
EndsLexing file bytes ends.Memory = ⊤

-- the rules that the tokens of a file can break
abbrev pub is_token_rule : Rule → Bool
is_token_rule rules.NotUtf8 = true
is_token_rule rules.BadToken = true
is_token_rule rules.BadNumber = true
is_token_rule rules.BadEscape = true
is_token_rule _ = false
