-- What the bytes of a file read as, from what was lexed and parsed of them.
use Rattle.std.proofs.Common.{◌≡◌, ℕ, ◌<◌, ◌≤◌, List, length, Result, Ok, Err, sym, subst}
use Rattle.slint_base.specs.declared.endings.End.{End}
use Rattle.slint_base.specs.declared.endings.End.TheVariants as ends
use Rattle.slint_base.specs.declared.faults.Fault.{Fault}
use Rattle.slint_base.specs.declared.rules.Rule.TheVariants.{FileTooLong}
use Rattle.slint_base.specs.Refusals.{at_start}
use Rattle.slint_lexer.specs.declared.tokens.Token.{Token}
use Rattle.slint_lexer.specs.Lexing.{IsLexing, EndsLexing}
use Rattle.syntax_tree.specs.declared.files.File.{File}
use Rattle.slint_grammar.specs.Faults.{Parses}
use Rattle.source_reader.specs.Sources.{IsRead, ReadsAs, too_long, no_tokens, no_tree, reads, most_bytes}

-- a file that is too long
pub read_too_long : (file : ℕ) (bytes : List ℕ) (fault : Fault) → most_bytes < length bytes → fault ≡ at_start FileTooLong file → IsRead file bytes (Err fault)
read_too_long file bytes fault long e = subst (λ (f : Fault). IsRead file bytes (Err f)) (sym e) (too_long long)

-- how lexing ended
pub read_unlexed : (file : ℕ) (bytes : List ℕ) (end : End Fault) → length bytes ≤ most_bytes → EndsLexing file bytes end → ReadsAs file bytes (Err end)
read_unlexed file bytes (ends.Fault fault) short h = no_tokens fault short h.faulted
read_unlexed file bytes ends.Memory short h = tt

-- how parsing ended
read_by : (file len : ℕ) (bytes : List ℕ) (tokens : List Token) (answer : Result File (End Fault)) → length bytes ≤ most_bytes → len ≡ length bytes → IsLexing file bytes tokens → Parses file len tokens answer → ReadsAs file bytes answer
read_by file len bytes tokens (Ok tree) short l lexed h = reads tokens tree short lexed h
read_by file len bytes tokens (Err (ends.Fault fault)) short l lexed h = no_tree tokens fault short lexed (subst (λ (n : ℕ). Parses file n tokens (Err (ends.Fault fault))) l h)
read_by file len bytes tokens (Err ends.Memory) short l lexed h = tt

pub read_lexed : (file len : ℕ) (bytes : List ℕ) (tokens given : List Token) (answer : Result File (End Fault)) → length bytes ≤ most_bytes → len ≡ length bytes → IsLexing file bytes tokens → given ≡ tokens → Parses file len given answer → ReadsAs file bytes answer
read_lexed file len bytes tokens given answer short l lexed same h = read_by file len bytes tokens answer short l lexed (subst (λ (ts : List Token). Parses file len ts answer) same h)
