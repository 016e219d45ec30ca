-- A file reads one way.
use Rattle.std.proofs.Common.{◌≡◌, ℕ, ◌<◌, ◌≤◌, true, List, length, refl, ap, subst, arith, inl, inr}
use Rattle.std.specs.Prelude.{◌⊎◌, Result, Ok, Err}
use Rattle.std.proofs.lemmas.Bool.{cases_lt}
use Rattle.slint_base.specs.declared.faults.Fault.{Fault}
use Rattle.slint_base.specs.declared.rules.Rule.{Rule}
use Rattle.slint_base.specs.declared.rules.Rule.TheVariants as rules
use Rattle.slint_base.specs.declared.rules.Rule.TheVariants.{FileTooLong}
use Rattle.slint_base.specs.Refusals.{at_start}
use Rattle.slint_lexer.specs.declared.tokens.Token.{Token}
use Rattle.slint_lexer.specs.Lexing.{IsLexing, IsFaulted, AreTokens, HasFault, is_token_rule}
use Rattle.syntax_tree.specs.declared.files.File.{File}
use Rattle.slint_grammar.specs.Derivations.{DerivesFile}
use Rattle.slint_grammar.specs.Faults.{IsFault, at_token, too_deep, at_end}
use Rattle.source_reader.specs.Sources.{IsRead, too_long, no_tokens, no_tree, reads, most_bytes, is_reading_rule}

-- what the crates below know of tokens and trees
abbrev pub OneLexing : Type 0
OneLexing = (file : ℕ) (bytes : List ℕ) (ts : List Token) → IsLexing file bytes ts → AreTokens file bytes ts

abbrev pub OneFaulted : Type 0
OneFaulted = (file : ℕ) (bytes : List ℕ) (fault : Fault) → IsFaulted file bytes fault → HasFault file bytes fault

abbrev pub TokensOrFault : Type 0
TokensOrFault = (file : ℕ) (bytes : List ℕ) → ((ts : List Token) × IsLexing file bytes ts) ⊎ ((fault : Fault) × IsFaulted file bytes fault)

abbrev pub OneTree : Type 0
OneTree = (tokens : List Token) (a b : File) → DerivesFile tokens a → DerivesFile tokens b → a ≡ b

abbrev pub OneFault : Type 0
OneFault = (file len : ℕ) (tokens : List Token) (f g : Fault) → IsFault file len tokens f → IsFault file len tokens g → f ≡ g

abbrev pub TreeOrFault : Type 0
TreeOrFault = (file len : ℕ) (tokens : List Token) → ((tree : File) × DerivesFile tokens tree) ⊎ ((f : Fault) × IsFault file len tokens f)

abbrev pub NeverBoth : Type 0
NeverBoth = (file len : ℕ) (tokens : List Token) (tree : File) (f : Fault) → DerivesFile tokens tree → IsFault file len tokens f → ⊥

-- the tree, or the fault
ok_same : (x y : File) → x ≡ y → ◌≡◌ {A = Result File Fault} (Ok x) (Ok y)
ok_same x y e = ap (λ z. Ok z) e

err_same : (x y : Fault) → x ≡ y → ◌≡◌ {A = Result File Fault} (Err x) (Err y)
err_same x y e = ap (λ z. Err z) e

module _ (lexing : OneLexing) (faulted : OneFaulted) (tree : OneTree) (fault : OneFault) (never : NeverBoth) (file : ℕ) (bytes : List ℕ) where
  -- bytes are at most one list of tokens
  same_tokens : (ts us : List Token) → IsLexing file bytes ts → IsLexing file bytes us → us ≡ ts
  same_tokens ts us a b = (lexing file bytes ts a).only us b

  pub same_reading : (a b : Result File Fault) → IsRead file bytes a → IsRead file bytes b → a ≡ b
  same_reading a b (too_long _) (too_long _) = refl
  same_reading a b (too_long h) (no_tokens g k _) = absurd (omega arith)
  same_reading a b (too_long h) (no_tree us g k _ _) = absurd (omega arith)
  same_reading a b (too_long h) (reads us y k _ _) = absurd (omega arith)
  same_reading a b (no_tokens f h _) (too_long k) = absurd (omega arith)
  same_reading a b (no_tokens f h x) (no_tokens g k y) = err_same f g ((faulted file bytes g y).only f x)
  same_reading a b (no_tokens f h x) (no_tree us g k y _) = absurd ((lexing file bytes us y).faultless f x)
  same_reading a b (no_tokens f h x) (reads us t k y _) = absurd ((lexing file bytes us y).faultless f x)
  same_reading a b (no_tree ts f h _ _) (too_long k) = absurd (omega arith)
  same_reading a b (no_tree ts f h x _) (no_tokens g k y) = absurd ((lexing file bytes ts x).faultless g y)
  same_reading a b (no_tree ts f h x v) (no_tree us g k y w) =
      err_same f g (fault file (length bytes) ts f g v (subst (λ (z : List Token). IsFault file (length bytes) z g) (same_tokens ts us x y) w))
  same_reading a b (no_tree ts f h x v) (reads us t k y w) =
      absurd (never file (length bytes) ts t f (subst (λ (z : List Token). DerivesFile z t) (same_tokens ts us x y) w) v)
  same_reading a b (reads ts t h _ _) (too_long k) = absurd (omega arith)
  same_reading a b (reads ts t h x _) (no_tokens g k y) = absurd ((lexing file bytes ts x).faultless g y)
  same_reading a b (reads ts t h x v) (no_tree us g k y w) =
      absurd (never file (length bytes) us t g (subst (λ (z : List Token). DerivesFile z t) (same_tokens us ts y x) v) w)
  same_reading a b (reads ts t h x v) (reads us q k y w) =
      ok_same t q (tree ts t q v (subst (λ (z : List Token). DerivesFile z q) (same_tokens ts us x y) w))

-- ---- and one at least

abbrev pub SomeReading : ℕ → List ℕ → Type 0
SomeReading file bytes = (reading : Result File Fault) × IsRead file bytes reading

module _ (tokens : TokensOrFault) (tree : TreeOrFault) (file : ℕ) (bytes : List ℕ) where
  by_tree : (ts : List Token) → length bytes ≤ most_bytes → IsLexing file bytes ts → ((t : File) × DerivesFile ts t) ⊎ ((f : Fault) × IsFault file (length bytes) ts f) → SomeReading file bytes
  by_tree ts short x (inl some) = (Ok some.0, reads ts some.0 short x some.1)
  by_tree ts short x (inr none) = (Err none.0, no_tree ts none.0 short x none.1)

  by_tokens : length bytes ≤ most_bytes → ((ts : List Token) × IsLexing file bytes ts) ⊎ ((f : Fault) × IsFaulted file bytes f) → SomeReading file bytes
  by_tokens short (inl some) = by_tree some.0 short some.1 (tree file (length bytes) some.0)
  by_tokens short (inr none) = (Err none.0, no_tokens none.0 short none.1)

  by_length : (most_bytes < length bytes) ⊎ (length bytes ≤ most_bytes) → SomeReading file bytes
  by_length (inl long) = (Err (at_start FileTooLong file), too_long long)
  by_length (inr short) = by_tokens short (tokens file bytes)

  pub has_reading : SomeReading file bytes
  has_reading = by_length (cases_lt most_bytes (length bytes))

-- ---- the rules that a file breaks

abbrev pub TokenRules : Type 0
TokenRules = (file : ℕ) (bytes : List ℕ) (fault : Fault) → IsFaulted file bytes fault → is_token_rule fault.rule ≡ true

token_reading : (rule : Rule) → is_token_rule rule ≡ true → is_reading_rule rule ≡ true
token_reading rules.FileTooLong e = refl
token_reading rules.Syntax e = refl
token_reading rules.TooDeep e = refl
token_reading rule e = e

grammar_rule : (file len : ℕ) (tokens : List Token) (fault : Fault) → IsFault file len tokens fault → is_reading_rule fault.rule ≡ true
grammar_rule file len tokens fault (at_token _ _ _ _ _) = refl
grammar_rule file len tokens fault (too_deep _ _ _ _ _ _) = refl
grammar_rule file len tokens fault (at_end _ _) = refl

along : (f g : Fault) → ◌≡◌ {A = Result File Fault} (Err f) (Err g) → is_reading_rule f.rule ≡ true → is_reading_rule g.rule ≡ true
along f g e h = let same : f ≡ g = cc in subst (λ (x : Fault). is_reading_rule x.rule ≡ true) same h

rule_by : TokenRules → (file : ℕ) (bytes : List ℕ) (reading : Result File Fault) (fault : Fault) → IsRead file bytes reading → reading ≡ Err fault → is_reading_rule fault.rule ≡ true
rule_by known file bytes reading fault (too_long h) e = along (at_start FileTooLong file) fault e refl
rule_by known file bytes reading fault (no_tokens f h x) e = along f fault e (token_reading f.rule (known file bytes f x))
rule_by known file bytes reading fault (no_tree ts f h x v) e = along f fault e (grammar_rule file (length bytes) ts f v)
rule_by known file bytes reading fault (reads ts t h x v) e = cc

pub reading_rule : TokenRules → (file : ℕ) (bytes : List ℕ) (fault : Fault) → IsRead file bytes (Err fault) → is_reading_rule fault.rule ≡ true
reading_rule known file bytes fault read = rule_by known file bytes (Err fault) fault read refl
