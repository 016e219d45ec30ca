-- Pieces at one place that leave as much behind them are one piece.
use Rattle.std.proofs.Common.{◌≡◌, ℕ, ◌≤◌, Bool, true, false, List, [], ◌∷◌, ◌++◌, length, drop, refl, sym, ap, ◌∙◌, subst, arith}
use Rattle.std.proofs.lemmas.List.{length-append}
use Rattle.slint_base.specs.Names.{normal_name}
use Rattle.slint_literals.specs.declared.strings.Look.{Look}
use Rattle.slint_literals.specs.declared.strings.Look.TheVariants as looks
use Rattle.slint_literals.specs.Colours.{colour_value}
use Rattle.slint_literals.specs.Numbers.{number_value}
use Rattle.slint_literals.specs.Strings.{text_look, text_step, IsRun}
use Rattle.slint_literals.proofs.Runs.{steps_same}
use Rattle.slint_lexer.specs.declared.classes.Class.{Class}
use Rattle.slint_lexer.specs.declared.classes.Class.TheVariants.{Blank, Digit, Hash, Quote, Close, Slash, Word, Other}
use Rattle.slint_lexer.specs.declared.classes.Second.{Second}
use Rattle.slint_lexer.specs.declared.classes.Second.TheVariants.{Block, Line, Neither}
use Rattle.slint_lexer.specs.declared.tokens.TokenKind.TheVariants as kinds
use Rattle.slint_lexer.specs.Symbols.{symbol_text}
use Rattle.slint_lexer.specs.Pieces.{What, Tok, number_what, colour_what, SpellsSymbol, EndsText, SpellsText, comment_step, line_step, SpellsComment, SpellsLine, SpellsSlash, SpellsClose, SpellsAs, Front, class_of, second_of}
use Rattle.slint_lexer.proofs.SymbolTexts.{same_symbol}

-- what stands before equally long rests of one list
pub same_rest : (xs ys r q : List ℕ) → xs ++ r ≡ ys ++ q → length r ≡ length q → (xs ≡ ys) × (r ≡ q)
same_rest [] [] r q e h = (refl, e)
same_rest [] (y ∷ ys) r q e h = absurd (omega (arith, ap length e, length-append (y ∷ ys) q))
same_rest (x ∷ xs) [] r q e h = absurd (omega (arith, ap length e, length-append (x ∷ xs) r))
same_rest (x ∷ xs) (y ∷ ys) r q e h =
    let first : x ≡ y = cc in
    let behind : xs ++ r ≡ ys ++ q = cc in
    let others = same_rest xs ys r q behind h in
    (ap (λ z. z ∷ xs) first ∙ ap (λ t. y ∷ t) others.0, others.1)

-- what is the same piece, and leaves the same behind it
pub record IsSame (w v : What) (r q : List ℕ) : Type 0 where
  pub piece : w ≡ v
  pub rest : r ≡ q

same_symbols : (s : List ℕ) (w v : What) (r q : List ℕ) → SpellsSymbol s w r → SpellsSymbol s v q → length r ≡ length q → IsSame w v r q
same_symbols s w v r q a b h =
    let same = same_rest (symbol_text a.0) (symbol_text b.0) r q (sym a.1 ∙ b.1) h in
    record { piece = a.2 ∙ ap (λ k. Tok (kinds.Symbol k)) (same_symbol a.0 b.0 same.0) ∙ sym b.2; rest = same.1 }

ends_same : (first : Bool) (text : List ℕ) (look : Look) (x : List ℕ) (w v : What) (r q : List ℕ) → EndsText first text look x w r → EndsText first text look x v q → IsSame w v r q
ends_same first text looks.Quote x w v r q a b = record { piece = a.1 ∙ sym b.1; rest = a.0 ∙ sym b.0 }
ends_same first text looks.Hole x w v r q a b = record { piece = a.1 ∙ sym b.1; rest = a.0 ∙ sym b.0 }
ends_same first text (looks.Plain n) x w v r q a b = absurd a
ends_same first text (looks.Escape c n) x w v r q a b = absurd a
ends_same first text (looks.BadEscape n) x w v r q a b = absurd a
ends_same first text looks.NotUtf8 x w v r q a b = absurd a
ends_same first text looks.End x w v r q a b = absurd a

-- two runs from one place are one
pub run_same : (s text x other y : List ℕ) → IsRun s text x → IsRun s other y → (text ≡ other) × (x ≡ y)
run_same s text x other y a b =
    let same : (text, x) ≡ (other, y) = steps_same text_step ([], s) (text, x) (other, y) a.spelled b.spelled a.ended b.ended in
    (ap (λ p. p.0) same, ap (λ p. p.1) same)

pub same_texts : (first : Bool) (s : List ℕ) (w v : What) (r q : List ℕ) → SpellsText first s w r → SpellsText first s v q → IsSame w v r q
same_texts first s w v r q a b =
    let same = run_same s a.0 a.1 b.0 b.1 a.2 b.2 in
    let moved : EndsText first a.0 (text_look a.1) a.1 v q =
    subst (λ y. EndsText first a.0 (text_look y) y v q) (sym same.1) (subst (λ t. EndsText first t (text_look b.1) b.1 v q) (sym same.0) b.3) in
    ends_same first a.0 (text_look a.1) a.1 w v r q a.3 moved

pub same_comments : (s : List ℕ) (w v : What) (r q : List ℕ) → SpellsComment s w r → SpellsComment s v q → IsSame w v r q
same_comments s w v r q a b =
    let same : (0, r) ≡ (0, q) = steps_same comment_step (1, s) (0, r) (0, q) a.0 b.0 refl refl in
    record { piece = a.1 ∙ sym b.1; rest = ap (λ p. p.1) same }

pub same_lines : (s : List ℕ) (w v : What) (r q : List ℕ) → SpellsLine s w r → SpellsLine s v q → IsSame w v r q
same_lines s w v r q a b = record { piece = a.2 ∙ sym b.2; rest = steps_same line_step s r q a.0 b.0 a.1 b.1 }

same_slashes : (c : Second) (s : List ℕ) (w v : What) (r q : List ℕ) → SpellsSlash c s w r → SpellsSlash c s v q → length r ≡ length q → IsSame w v r q
same_slashes Block s w v r q a b h = same_comments (drop 1 s) w v r q a b
same_slashes Line s w v r q a b h = same_lines (drop 1 s) w v r q a b
same_slashes Neither s w v r q a b h = same_symbols (47 ∷ s) w v r q a b h

same_closes : (ends : Bool) (s : List ℕ) (w v : What) (r q : List ℕ) → SpellsClose ends s w r → SpellsClose ends s v q → IsSame w v r q
same_closes true s w v r q a b = same_texts false s w v r q a b
same_closes false s w v r q a b = record { piece = a.1 ∙ sym b.1; rest = a.0 ∙ sym b.0 }

pub same_as : (c : Class) (ends : Bool) (b : ℕ) (s : List ℕ) (w v : What) (r q : List ℕ) → SpellsAs c ends b s w r → SpellsAs c ends b s v q → length r ≡ length q → IsSame w v r q
same_as Blank ends b s w v r q x y h = record { piece = x.1 ∙ sym y.1; rest = x.0 ∙ sym y.0 }
same_as Digit ends b s w v r q x y h =
    let same = same_rest x.0 y.0 r q (sym x.1 ∙ y.1) h in
    record { piece = x.3 ∙ ap (λ t. number_what (number_value (b ∷ t))) same.0 ∙ sym y.3; rest = same.1 }
same_as Hash ends b s w v r q x y h =
    let same = same_rest x.0 y.0 r q (sym x.1 ∙ y.1) h in
    record { piece = x.3 ∙ ap (λ t. colour_what (colour_value t)) same.0 ∙ sym y.3; rest = same.1 }
same_as Quote ends b s w v r q x y h = same_texts true s w v r q x y
same_as Close ends b s w v r q x y h = same_closes ends s w v r q x y
same_as Slash ends b s w v r q x y h = same_slashes (second_of s) s w v r q x y h
same_as Word ends b s w v r q x y h =
    let same = same_rest x.0 y.0 r q (sym x.1 ∙ y.1) h in
    record { piece = x.3 ∙ ap (λ t. Tok (kinds.Id (normal_name t))) same.0 ∙ sym y.3; rest = same.1 }
same_as Other ends b s w v r q x y h = same_symbols (b ∷ s) w v r q x y h

pub front_same : (ends : Bool) (s : List ℕ) (w v : What) (r q : List ℕ) → Front ends s w r → Front ends s v q → IsSame w v r q
front_same ends [] w v r q a b = absurd a.spells
front_same ends (c ∷ s) w v r q a b =
    let less : length r ≤ length q = a.longest v q b.spells in
    let more : length q ≤ length r = b.longest w r a.spells in
    same_as (class_of (c ∷ s)) ends c s w v r q a.spells b.spells (omega arith)
