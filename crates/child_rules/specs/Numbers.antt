-- The four numbers of a cell: its row and its column, and how many rows and columns it spans.
use Rattle.std.specs.Prelude.{ℕ, Bool, false, ◌||◌, not, if◌then◌else◌, List, [], ◌∷◌, codes, ℤ, pos, neg_ℤ, int_lt, Option, Some, None}
use Rattle.std.specs.Option.{option_map}
use Rattle.std.specs.Str.{bytes_eq}
use Rattle.slint_literals.specs.declared.numbers.Number.{Number}
use Rattle.slint_literals.specs.declared.numbers.Number.TheVariants as number
use Rattle.syntax_tree.specs.declared.expressions.Expr.{Expr, out-Expr}
use Rattle.syntax_tree.specs.declared.expressions.Expr.TheOpen.{Expr-F}
use Rattle.syntax_tree.specs.declared.expressions.PrefixOp.{PrefixOp}
use Rattle.syntax_tree.specs.declared.expressions.PrefixOp.TheVariants as prefix
use Rattle.syntax_tree.specs.declared.items.Element.{Element}
use Rattle.syntax_tree.specs.declared.items.For.{For}
use Rattle.syntax_tree.specs.declared.items.IfElement.{IfElement}
use Rattle.syntax_tree.specs.declared.items.Item.{Item, out-Item}
use Rattle.syntax_tree.specs.declared.items.Item.TheOpen.{Item-F}
use Rattle.syntax_tree.specs.declared.expressions.FieldValue.{FieldValue}
use Rattle.syntax_tree.specs.declared.expressions.Hole.{Hole}
use Rattle.syntax_tree.specs.declared.expressions.Operand.{Operand}
use Rattle.syntax_tree.specs.declared.expressions.Suffix.{Suffix}
use Rattle.syntax_tree.specs.declared.statements.Value.{Value}
use Rattle.syntax_tree.specs.declared.statements.Value.TheVariants as value
use Rattle.child_rules.specs.declared.numbers.Numbers.{Numbers}

-- ---- their names

abbrev pub is_start : List ℕ → Bool
is_start name = bytes_eq name (codes "row") || bytes_eq name (codes "col")

abbrev pub is_span : List ℕ → Bool
is_span name = bytes_eq name (codes "rowspan") || bytes_eq name (codes "colspan")

abbrev pub is_cell_number : List ℕ → Bool
is_cell_number name = is_start name || is_span name

-- ---- their values: whole literals, with or without a `-` before them

abbrev pub whole_number : Number → Option ℤ
whole_number number.Zero = Some (pos 0)
whole_number (number.Int n) = Some n
whole_number _ = None

abbrev pub ExprLayer : Type 0
ExprLayer = Expr-F Expr Suffix FieldValue Hole Operand

abbrev pub number_in : ExprLayer → Option ℤ
number_in (Expr-F.Number n span) = whole_number n
number_in _ = None

abbrev pub behind_prefix : PrefixOp → Expr → Option ℤ
behind_prefix prefix.Minus e = option_map neg_ℤ (number_in (out-Expr e))
behind_prefix _ e = None

abbrev pub whole_in : ExprLayer → Option ℤ
whole_in (Expr-F.Number n span) = whole_number n
whole_in (Expr-F.Prefix op e span) = behind_prefix op e
whole_in _ = None

-- any other value counts as not given
abbrev pub whole_literal : Value → Option ℤ
whole_literal (value.Block b) = None
whole_literal (value.Expr e) = whole_in (out-Expr e)

-- ---- what is given in a body

abbrev pub ItemLayer : Type 0
ItemLayer = Item-F Item Element For IfElement

-- the value that an item binds a name to, if it does
abbrev pub bound_to : List ℕ → ItemLayer → Option Value
bound_to name (Item-F.Binding b) = if bytes_eq b.name.name name then Some b.value else None
bound_to name _ = None

-- of equal names the first counts
abbrev pub first_given : Option Value → Option ℤ → Option ℤ
first_given None rest = rest
first_given (Some value) rest = whole_literal value

abbrev pub given : List ℕ → List Item → Option ℤ
given name [] = None
given name (item ∷ items) = first_given (bound_to name (out-Item item)) (given name items)

abbrev pub numbers_of : List Item → Numbers
numbers_of body = record { row = given (codes "row") body; column = given (codes "col") body; rowspan = given (codes "rowspan") body; colspan = given (codes "colspan") body }

-- ---- their ranges

-- rows and columns have numbers from 0 to 999, and a cell spans from 1 to 1,000 of them
abbrev pub is_between : ℤ → ℤ → ℤ → Bool
is_between low high z = not (int_lt z low || int_lt high z)

abbrev pub fits : List ℕ → ℤ → Bool
fits name z = if is_start name then is_between (pos 0) (pos 999) z else is_between (pos 1) (pos 1000) z

-- a value that is given is out of range
abbrev pub is_out : List ℕ → Option ℤ → Bool
is_out name None = false
is_out name (Some z) = not (fits name z)
