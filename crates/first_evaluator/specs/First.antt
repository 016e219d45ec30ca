-- Which trees are of the first language, and what they are there: one component, whose items are properties of type int, each bound to
-- a sum of products of plain numbers and names.
use Rattle.std.specs.Prelude.{ℕ, pos, Bool, true, false, ◌&&◌, List, [], ◌∷◌, codes, if◌then◌else◌, Option, Some, None, option_map}
use Rattle.std.specs.Str.{bytes_eq}
use Rattle.slint_base.specs.Options.{onto_all, all_of}
use Rattle.slint_literals.specs.declared.numbers.Number.{Number}
use Rattle.slint_literals.specs.declared.numbers.Number.TheVariants as numbers
use Rattle.syntax_tree.specs.declared.words.Ident.{Ident}
use Rattle.syntax_tree.specs.declared.types.TypeName.{TypeName, out-TypeName}
use Rattle.syntax_tree.specs.declared.types.TypeName.TheOpen.{TypeName-F}
use Rattle.syntax_tree.specs.declared.types.Field.{Field}
use Rattle.syntax_tree.specs.declared.expressions.BinaryOp.{BinaryOp}
use Rattle.syntax_tree.specs.declared.expressions.BinaryOp.TheVariants.{Add, Mul}
use Rattle.syntax_tree.specs.declared.expressions.Expr.{Expr, out-Expr}
use Rattle.syntax_tree.specs.declared.expressions.Expr.TheOpen.{Expr-F}
use Rattle.syntax_tree.specs.declared.expressions.Operand.{Operand, out-Operand}
use Rattle.syntax_tree.specs.declared.statements.Value.{Value}
use Rattle.syntax_tree.specs.declared.statements.Value.TheVariants as values
use Rattle.syntax_tree.specs.declared.items.Mark.{Mark}
use Rattle.syntax_tree.specs.declared.items.Mark.TheVariants as marks
use Rattle.syntax_tree.specs.declared.items.Property.{Property}
use Rattle.syntax_tree.specs.declared.items.PropValue.{PropValue}
use Rattle.syntax_tree.specs.declared.items.PropValue.TheVariants as prop_values
use Rattle.syntax_tree.specs.declared.items.Item.{Item, out-Item}
use Rattle.syntax_tree.specs.declared.items.Item.TheOpen.{Item-F}
use Rattle.syntax_tree.specs.declared.items.Element.{Element}
use Rattle.syntax_tree.specs.declared.items.For.{For}
use Rattle.syntax_tree.specs.declared.items.IfElement.{IfElement}
use Rattle.syntax_tree.specs.declared.files.Component.{Component}
use Rattle.syntax_tree.specs.declared.files.Decl.{Decl}
use Rattle.syntax_tree.specs.declared.files.Decl.TheVariants as decls
use Rattle.syntax_tree.specs.declared.files.FileItem.{FileItem}
use Rattle.syntax_tree.specs.declared.files.FileItem.TheVariants as file_items
use Rattle.syntax_tree.specs.declared.files.File.{File}
use Rattle.syntax_tree.specs.Spans.{ExprLayer}
use Rattle.first_evaluator.specs.declared.trees.Factor.{Factor}
use Rattle.first_evaluator.specs.declared.trees.Factor.TheVariants.{Lit, Named}
use Rattle.first_evaluator.specs.declared.trees.FirstProp.{FirstProp}
use Rattle.first_evaluator.specs.declared.trees.FirstFile.{FirstFile}
use Rattle.first_evaluator.specs.Bindings.{are_bound}

-- a plain number: zeros, or an int; no point and no unit
abbrev pub number_factor : Number → Option Factor
number_factor numbers.Zero = Some (Lit (pos 0))
number_factor (numbers.Int n) = Some (Lit n)
number_factor _ = None

-- a factor: a plain number, or a name
abbrev pub factor_layer : ExprLayer → Option Factor
factor_layer (Expr-F.Number n span) = number_factor n
factor_layer (Expr-F.Name ident span) = Some (Named ident.name)
factor_layer _ = None

abbrev pub factor_of : Expr → Option Factor
factor_of e = factor_layer (out-Expr e)

-- the first operand of a chain, and the others; an expression of another form is a first operand alone
abbrev pub chain_layer : Expr → ExprLayer → Expr × List Operand
chain_layer e (Expr-F.Chain first operands span) = (first, operands)
chain_layer e _ = (e, [])

abbrev pub chain_of : Expr → Expr × List Operand
chain_of e = chain_layer e (out-Expr e)

-- what stands behind a `*`, as a factor
abbrev pub is_times : BinaryOp → Bool
is_times Mul = true
is_times _ = false

abbrev pub multiplied : Operand → Option Factor
multiplied operand = if is_times (out-Operand operand).op then factor_of (out-Operand operand).right else None

-- a product: factors with `*` between them
abbrev pub product_of : Expr → Option (List Factor)
product_of e = onto_all (factor_of (chain_of e).0) (all_of multiplied (chain_of e).1)

-- what stands behind a `+`, as a product
abbrev pub is_plus : BinaryOp → Bool
is_plus Add = true
is_plus _ = false

abbrev pub added : Operand → Option (List Factor)
added operand = if is_plus (out-Operand operand).op then product_of (out-Operand operand).right else None

-- two products or more, with `+` between them
abbrev pub terms_of : Expr → Option (List (List Factor))
terms_of e = onto_all (product_of (chain_of e).0) (all_of added (chain_of e).1)

-- a product is a sum by itself
abbrev pub alone_or : Option (List Factor) → Option (List (List Factor)) → Option (List (List Factor))
alone_or None terms = terms
alone_or (Some product) terms = Some (product ∷ [])

-- a sum: products with `+` between them
abbrev pub sum_of : Expr → Option (List (List Factor))
sum_of e = alone_or (product_of e) (terms_of e)

-- the sum that a property is bound to
abbrev pub value_sum : Value → Option (List (List Factor))
value_sum (values.Block block) = None
value_sum (values.Expr e) = sum_of e

abbrev pub bound_sum : PropValue → Option (List (List Factor))
bound_sum prop_values.None = None
bound_sum (prop_values.Value value) = value_sum value
bound_sum (prop_values.Link path) = None

-- a property is unmarked or `in-out`
abbrev pub is_first_mark : Mark → Bool
is_first_mark marks.None = true
is_first_mark marks.InOut = true
is_first_mark _ = false

-- the type named `int`
abbrev pub type_layer_is_int : TypeName-F TypeName Field → Bool
type_layer_is_int (TypeName-F.Named ident) = bytes_eq ident.name (codes "int")
type_layer_is_int _ = false

abbrev pub is_int : Option TypeName → Bool
is_int None = false
is_int (Some ty) = type_layer_is_int (out-TypeName ty)

-- a property of these, with its sum
abbrev pub first_prop : Property → Option FirstProp
first_prop p = if is_first_mark p.mark && is_int p.ty
    then option_map (λ terms. record { name = p.name.name; terms = terms }) (bound_sum p.value)
    else None

abbrev pub item_layer : Item-F Item Element For IfElement → Option FirstProp
item_layer (Item-F.Property p) = first_prop p
item_layer _ = None

abbrev pub first_item : Item → Option FirstProp
first_item item = item_layer (out-Item item)

-- a component is based on nothing or on `Window`
abbrev pub is_first_base : Option Ident → Bool
is_first_base None = true
is_first_base (Some base) = bytes_eq base.name (codes "Window")

-- a component of these, with its properties
abbrev pub first_component : Component → Option FirstFile
first_component c = if is_first_base c.base
    then option_map (λ props. record { props = props }) (all_of first_item c.body)
    else None

abbrev pub first_decl : Decl → Option FirstFile
first_decl (decls.Component c) = first_component c
first_decl _ = None

abbrev pub first_file_item : FileItem → Option FirstFile
first_file_item (file_items.Decl exported decl) = first_decl decl
first_file_item _ = None

-- the one item of a file
abbrev pub only_item : List FileItem → Option FirstFile
only_item [] = None
only_item (item ∷ []) = first_file_item item
only_item (item ∷ other ∷ others) = None

-- the tree of a file as one of the first language; none where it has another form
abbrev pub first_file : File → Option FirstFile
first_file file = only_item file.items

-- one whose bindings are sound
abbrev pub bound_file : FirstFile → Option FirstFile
bound_file file = if are_bound [] file.props then Some file else None

abbrev pub bound_if_first : Option FirstFile → Option FirstFile
bound_if_first None = None
bound_if_first (Some file) = bound_file file

-- the source of the first language that the tree of a file is: it has no other form, and its bindings are sound
abbrev pub first_source : File → Option FirstFile
first_source file = bound_if_first (first_file file)
