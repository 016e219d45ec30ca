-- Where tokens that derive no file break the grammar.
use Rattle.std.specs.Prelude.{ℕ, List, [], ◌∷◌, ◌++◌, length, Result, Ok, Err, ⊤}
use Rattle.slint_base.specs.declared.endings.End.{End}
use Rattle.slint_base.specs.declared.endings.End.TheVariants as endings
use Rattle.slint_base.specs.declared.faults.Fault.{Fault}
use Rattle.slint_base.specs.declared.rules.Rule.TheVariants.{Syntax, TooDeep}
use Rattle.slint_lexer.specs.declared.tokens.Token.{Token}
use Rattle.syntax_tree.specs.declared.files.File.{File}
use Rattle.slint_grammar.specs.Parts.{FileItems}
use Rattle.slint_grammar.specs.Derivations.{Derives, DerivesFile}

-- some tokens go on from these to a file, in which each of these is within the limit
abbrev pub Viable : List Token → Type 0
Viable front = (rest : List Token) × Derives (length rest) FileItems 0 (front ++ rest) []

-- some tokens go on from these to a file, whatever its depth
abbrev pub FreelyViable : List Token → Type 0
FreelyViable front = (rest : List Token) × Derives (length (front ++ rest)) FileItems 0 (front ++ rest) []

-- no file has these tokens
abbrev pub NoFile : List Token → Type 0
NoFile tokens = (file : File) → DerivesFile tokens file → ⊥

-- the fault of tokens: the first one that can't stand behind those before it, which can; it is too deep where it could stand if there were
-- no limit. Where all of them can stand and make no file, the fault is at the file's end, after its last byte
pub data IsFault (file len : ℕ) : List Token → Fault → Type 0 where
  at_token : (front : List Token) (token : Token) (rest : List Token) → Viable front → (FreelyViable (front ++ token ∷ []) → ⊥)
      → IsFault file len (front ++ token ∷ rest) (record { rule = Syntax; span = token.span })
  too_deep : (front : List Token) (token : Token) (rest : List Token) → Viable front → (Viable (front ++ token ∷ []) → ⊥) → FreelyViable (front ++ token ∷ [])
      → IsFault file len (front ++ token ∷ rest) (record { rule = TooDeep; span = token.span })
  at_end : {tokens : List Token} → Viable tokens → NoFile tokens
      → IsFault file len tokens (record { rule = Syntax; span = record { file = file; start = len; end = len } })

-- how the reading of tokens ends: with the tree that they derive, or with their fault, unless memory ran out
abbrev pub Parses : ℕ → ℕ → List Token → Result File (End Fault) → Type 0
Parses file len tokens (Ok tree) = DerivesFile tokens tree
Parses file len tokens (Err (endings.Fault fault)) = IsFault file len tokens fault
Parses file len tokens (Err endings.Memory) = ⊤
