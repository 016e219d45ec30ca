-- The values of literals, and the pieces of texts with holes.
use Rattle.std.specs.Prelude.{ℕ, Bool, true, false, ◌==◌, if◌then◌else◌, List, [], ◌∷◌, pos}
use Rattle.slint_base.specs.declared.faults.Span.{Span}
use Rattle.slint_base.specs.Texts.{cut_text}
use Rattle.slint_literals.specs.declared.numbers.Number.{Number}
use Rattle.slint_literals.specs.declared.numbers.Number.TheVariants as numbers
use Rattle.syntax_tree.specs.declared.expressions.Hole.{Hole, out-Hole}
use Rattle.value_types.specs.declared.types.Ty.{Ty}
use Rattle.value_types.specs.declared.types.Ty.TheVariants as ty
use Rattle.value_types.specs.declared.values.Value.{Value}
use Rattle.value_types.specs.declared.values.Value.TheVariants as value
use Rattle.typed_tree.specs.declared.expressions.ExprKind.TheVariants as exprs
use Rattle.typed_tree.specs.declared.expressions.TypedExpr.{TypedExpr}
use Rattle.typed_tree.specs.declared.expressions.TypedHole.{TypedHole}
use Rattle.typed_tree.specs.Typed.{typed, typed_hole}
use Rattle.expr_rules.specs.declared.judged.Judged.{Judged}
use Rattle.expr_rules.specs.Denotations.{given}

abbrev pub literal : Value → Ty → Span → TypedExpr
literal v t span = typed (exprs.Literal v) t span

-- a number has the type of its unit; zeros alone have a type of their own
abbrev pub number : Number → Span → TypedExpr
number numbers.Zero span = literal (value.Int (pos 0)) ty.Zero span
number (numbers.Int n) span = literal (value.Int n) ty.Int span
number (numbers.Float n) span = literal (value.Float n) ty.Float span
number (numbers.Percent n) span = literal (value.Percent n) ty.Percent span
number (numbers.Length n) span = literal (value.Length n) ty.Length span
number (numbers.Duration n) span = literal (value.Duration n) ty.Duration span
number (numbers.Angle n) span = literal (value.Angle n) ty.Angle span

-- a string and an image's path are cut to the length of a text
abbrev pub text : List ℕ → Span → TypedExpr
text t span = literal (value.Str (cut_text t)) ty.Str span

abbrev pub image : List ℕ → Span → TypedExpr
image path span = literal (value.Image (cut_text path)) ty.Image span

-- the holes of a text, with what their expressions came to
abbrev pub typed_holes : List Hole → List Judged → List TypedHole
typed_holes [] xs = []
typed_holes (h ∷ hs) [] = []
typed_holes (h ∷ hs) (x ∷ xs) = typed_hole (given x) (out-Hole h).behind ∷ typed_holes hs xs

-- the pieces of a translated text: what stands before the first `{}`, between two, and behind the last, from the left and without overlap
abbrev pub onto_first : ℕ → List (List ℕ) → List (List ℕ)
onto_first c [] = (c ∷ []) ∷ []
onto_first c (piece ∷ pieces) = (c ∷ piece) ∷ pieces

-- what is left to read, where a `{` has been read that isn't in a piece yet or hasn't
abbrev pub pieces_with : Bool → List ℕ → List (List ℕ)
pieces_with false [] = [] ∷ []
pieces_with true [] = (123 ∷ []) ∷ []
pieces_with false (c ∷ cs) = if c == 123 then pieces_with true cs else onto_first c (pieces_with false cs)
pieces_with true (c ∷ cs) = if c == 125 then [] ∷ pieces_with false cs
    else if c == 123 then onto_first 123 (pieces_with true cs)
    else onto_first 123 (onto_first c (pieces_with false cs))

abbrev pub pieces_of : List ℕ → List (List ℕ)
pieces_of text = pieces_with false text

-- the pieces behind the first one, each behind its argument
abbrev pub filled : List (List ℕ) → List Judged → List TypedHole
filled [] xs = []
filled (piece ∷ pieces) [] = []
filled (piece ∷ pieces) (x ∷ xs) = typed_hole (given x) piece ∷ filled pieces xs
