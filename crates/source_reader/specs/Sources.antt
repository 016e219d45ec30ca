-- What a file of a source reads as: its tree, or the first fault of its length, its tokens, their grammar.
use Rattle.std.specs.Prelude.{ℕ, ◌<◌, ◌≤◌, ⊤, Bool, true, List, length, Result, Ok, Err}
use Rattle.slint_base.specs.declared.endings.End.{End}
use Rattle.slint_base.specs.declared.endings.End.TheVariants as ends
use Rattle.slint_base.specs.declared.faults.Fault.{Fault}
use Rattle.slint_base.specs.declared.rules.Rule.{Rule}
use Rattle.slint_base.specs.declared.rules.Rule.TheVariants.{FileTooLong, Syntax, TooDeep}
use Rattle.slint_base.specs.Refusals.{at_start}
use Rattle.slint_lexer.specs.declared.tokens.Token.{Token}
use Rattle.slint_lexer.specs.Lexing.{IsLexing, IsFaulted, is_token_rule}
use Rattle.syntax_tree.specs.declared.files.File.{File}
use Rattle.slint_grammar.specs.Derivations.{DerivesFile}
use Rattle.slint_grammar.specs.Faults.{IsFault}

-- the most bytes of a file
abbrev pub most_bytes : ℕ
most_bytes = 262144

-- the most bytes of a file that come to be read: one more than it may have, so that a longer one is told from its front
abbrev pub front_bytes : ℕ
front_bytes = 262145

-- the bytes of a file of this number read as a tree, or they have a fault: the file is too long as a whole, else its tokens are broken,
-- else the tokens break the grammar
pub data IsRead (file : ℕ) (bytes : List ℕ) : Result File Fault → Type 0 where
  too_long : most_bytes < length bytes → IsRead file bytes (Err (at_start FileTooLong file))
  no_tokens : (fault : Fault) → length bytes ≤ most_bytes → IsFaulted file bytes fault → IsRead file bytes (Err fault)
  no_tree : (tokens : List Token) (fault : Fault) → length bytes ≤ most_bytes → IsLexing file bytes tokens → IsFault file (length bytes) tokens fault → IsRead file bytes (Err fault)
  reads : (tokens : List Token) (tree : File) → length bytes ≤ most_bytes → IsLexing file bytes tokens → DerivesFile tokens tree → IsRead file bytes (Ok tree)

-- what an answer says of these bytes: the tree that they read as, or their fault, unless memory ran out
abbrev pub ReadsAs : ℕ → List ℕ → Result File (End Fault) → Type 0
ReadsAs file bytes (Ok tree) = IsRead file bytes (Ok tree)
ReadsAs file bytes (Err (ends.Fault fault)) = IsRead file bytes (Err fault)
ReadsAs file bytes (Err ends.Memory) = ⊤

-- the rules that a file can break as it is read
abbrev pub is_reading_rule : Rule → Bool
is_reading_rule FileTooLong = true
is_reading_rule Syntax = true
is_reading_rule TooDeep = true
is_reading_rule rule = is_token_rule rule
