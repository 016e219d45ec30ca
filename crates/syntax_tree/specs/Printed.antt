-- The tokens that a tree is written with: no semicolon behind a block that is a value, no comma behind the last of a list, `pure` before
-- `public` and `protected`, and a semicolon behind the last statement of a block too.
use Rattle.std.specs.Prelude.{ℕ, Bool, true, false, List, [], ◌∷◌, ◌++◌, map, Option, Some, None, codes}
use Rattle.slint_lexer.specs.declared.tokens.Symbol.{Symbol}
use Rattle.slint_lexer.specs.declared.tokens.Symbol.TheVariants as symbols
use Rattle.slint_lexer.specs.declared.tokens.TokenKind.{TokenKind}
use Rattle.slint_lexer.specs.declared.tokens.TokenKind.TheVariants as kinds
use Rattle.syntax_tree.specs.declared.words.Ident.{Ident}
use Rattle.syntax_tree.specs.declared.words.Path.{Path}
use Rattle.syntax_tree.specs.declared.words.Quoted.{Quoted}
use Rattle.syntax_tree.specs.declared.types.TypeName.{TypeName, fold-TypeName}
use Rattle.syntax_tree.specs.declared.types.TypeName.TheOpen.{TypeName-F, Field-F}
use Rattle.syntax_tree.specs.declared.types.Field.{Field, fold-Field}
use Rattle.syntax_tree.specs.declared.expressions.BinaryOp.{BinaryOp}
use Rattle.syntax_tree.specs.declared.expressions.BinaryOp.TheVariants as binary
use Rattle.syntax_tree.specs.declared.expressions.PrefixOp.{PrefixOp}
use Rattle.syntax_tree.specs.declared.expressions.PrefixOp.TheVariants as prefixes
use Rattle.syntax_tree.specs.declared.expressions.Expr.{Expr, fold-Expr}
use Rattle.syntax_tree.specs.declared.expressions.Expr.TheOpen.{Expr-F, Suffix-F, FieldValue-F, Hole-F, Operand-F}
use Rattle.syntax_tree.specs.declared.expressions.FieldValue.{FieldValue, fold-FieldValue}
use Rattle.syntax_tree.specs.declared.expressions.Hole.{Hole, fold-Hole}
use Rattle.syntax_tree.specs.declared.expressions.Operand.{Operand, fold-Operand}
use Rattle.syntax_tree.specs.declared.expressions.Suffix.{Suffix, fold-Suffix}
use Rattle.syntax_tree.specs.declared.statements.AssignOp.{AssignOp}
use Rattle.syntax_tree.specs.declared.statements.AssignOp.TheVariants as assign_ops
use Rattle.syntax_tree.specs.declared.statements.Block.{Block, fold-Block}
use Rattle.syntax_tree.specs.declared.statements.Else.{Else, fold-Else}
use Rattle.syntax_tree.specs.declared.statements.Else.TheOpen.{Else-F, Stmt-F, Block-F}
use Rattle.syntax_tree.specs.declared.statements.Stmt.{Stmt, fold-Stmt}
use Rattle.syntax_tree.specs.declared.statements.Value.{Value}
use Rattle.syntax_tree.specs.declared.statements.Value.TheVariants as values
use Rattle.syntax_tree.specs.declared.items.Access.{Access}
use Rattle.syntax_tree.specs.declared.items.Access.TheVariants as accesses
use Rattle.syntax_tree.specs.declared.items.Binding.{Binding}
use Rattle.syntax_tree.specs.declared.items.Callback.{Callback}
use Rattle.syntax_tree.specs.declared.items.CallbackForm.{CallbackForm}
use Rattle.syntax_tree.specs.declared.items.CallbackForm.TheVariants as forms
use Rattle.syntax_tree.specs.declared.items.Change.{Change}
use Rattle.syntax_tree.specs.declared.items.Changed.{Changed}
use Rattle.syntax_tree.specs.declared.items.Element.{Element, fold-Element}
use Rattle.syntax_tree.specs.declared.items.For.{For, fold-For}
use Rattle.syntax_tree.specs.declared.items.Function.{Function}
use Rattle.syntax_tree.specs.declared.items.Handler.{Handler}
use Rattle.syntax_tree.specs.declared.items.IfElement.{IfElement, fold-IfElement}
use Rattle.syntax_tree.specs.declared.items.Item.{Item, fold-Item}
use Rattle.syntax_tree.specs.declared.items.Item.TheOpen.{Item-F, Element-F, For-F, IfElement-F}
use Rattle.syntax_tree.specs.declared.items.Link.{Link}
use Rattle.syntax_tree.specs.declared.items.Mark.{Mark}
use Rattle.syntax_tree.specs.declared.items.Mark.TheVariants as marks
use Rattle.syntax_tree.specs.declared.items.Parameter.{Parameter}
use Rattle.syntax_tree.specs.declared.items.PropValue.{PropValue}
use Rattle.syntax_tree.specs.declared.items.PropValue.TheVariants as prop_values
use Rattle.syntax_tree.specs.declared.items.Property.{Property}
use Rattle.syntax_tree.specs.declared.items.State.{State}
use Rattle.syntax_tree.specs.declared.items.States.{States}
use Rattle.syntax_tree.specs.declared.files.Alias.{Alias}
use Rattle.syntax_tree.specs.declared.files.Component.{Component}
use Rattle.syntax_tree.specs.declared.files.Decl.{Decl}
use Rattle.syntax_tree.specs.declared.files.Decl.TheVariants as decls
use Rattle.syntax_tree.specs.declared.files.EnumDecl.{EnumDecl}
use Rattle.syntax_tree.specs.declared.files.ExportAll.{ExportAll}
use Rattle.syntax_tree.specs.declared.files.ExportList.{ExportList}
use Rattle.syntax_tree.specs.declared.files.File.{File}
use Rattle.syntax_tree.specs.declared.files.FileItem.{FileItem}
use Rattle.syntax_tree.specs.declared.files.FileItem.TheVariants as file_items
use Rattle.syntax_tree.specs.declared.files.Global.{Global}
use Rattle.syntax_tree.specs.declared.files.Import.{Import}
use Rattle.syntax_tree.specs.declared.files.StructDecl.{StructDecl}

-- tokens without their stretches
abbrev pub Kinds : Type 0
Kinds = List TokenKind

-- a symbol alone
abbrev pub sign : Symbol → Kinds
sign s = kinds.Symbol s ∷ []

-- a name alone
abbrev pub tokens_of_ident : Ident → Kinds
tokens_of_ident ident = kinds.Id ident.name ∷ []

-- a string without holes, alone
abbrev pub tokens_of_quoted : Quoted → Kinds
tokens_of_quoted quoted = kinds.Str quoted.text ∷ []

-- one after the other
abbrev pub in_order : List Kinds → Kinds
in_order [] = []
in_order (x ∷ xs) = x ++ in_order xs

-- with commas before them, or between them, and the symbol that closes them
abbrev pub behind_commas : Symbol → List Kinds → Kinds
behind_commas closer [] = sign closer
behind_commas closer (x ∷ xs) = kinds.Symbol symbols.Comma ∷ (x ++ behind_commas closer xs)

abbrev pub with_commas : Symbol → List Kinds → Kinds
with_commas closer [] = sign closer
with_commas closer (x ∷ xs) = x ++ behind_commas closer xs

-- between two symbols
abbrev pub enclosed : Symbol → Kinds → Symbol → Kinds
enclosed opener x closer = kinds.Symbol opener ∷ (x ++ sign closer)

-- with commas, between two symbols
abbrev pub listed : Symbol → List Kinds → Symbol → Kinds
listed opener xs closer = kinds.Symbol opener ∷ with_commas closer xs

-- names with points before them
abbrev pub tokens_of_point : Ident → Kinds
tokens_of_point name = kinds.Symbol symbols.Dot ∷ kinds.Id name.name ∷ []

abbrev pub behind_points : List Ident → Kinds
behind_points names = in_order (map tokens_of_point names)

abbrev pub tokens_of_path : Path → Kinds
tokens_of_path path = kinds.Id path.first.name ∷ behind_points path.rest

-- a type
abbrev pub type_layer : TypeName-F Kinds Kinds → Kinds
type_layer (TypeName-F.Named ident) = tokens_of_ident ident
type_layer (TypeName-F.Array ty span) = enclosed symbols.OpenBracket ty symbols.CloseBracket
type_layer (TypeName-F.Struct fields span) = listed symbols.OpenBrace fields symbols.CloseBrace

abbrev pub field_layer : Field-F Kinds Kinds → Kinds
field_layer f = kinds.Id f.name.name ∷ kinds.Symbol symbols.Colon ∷ f.ty

abbrev pub tokens_of_type : TypeName → Kinds
tokens_of_type = fold-TypeName Kinds Kinds type_layer field_layer

abbrev pub tokens_of_field : Field → Kinds
tokens_of_field = fold-Field Kinds Kinds type_layer field_layer

-- an operator between two operands
abbrev pub binary_sign : BinaryOp → Symbol
binary_sign binary.And = symbols.AndAnd
binary_sign binary.Or = symbols.OrOr
binary_sign binary.Equal = symbols.EqualEqual
binary_sign binary.NotEqual = symbols.NotEqual
binary_sign binary.Less = symbols.Less
binary_sign binary.LessEqual = symbols.LessEqual
binary_sign binary.Greater = symbols.Greater
binary_sign binary.GreaterEqual = symbols.GreaterEqual
binary_sign binary.Add = symbols.Plus
binary_sign binary.Sub = symbols.Minus
binary_sign binary.Mul = symbols.Star
binary_sign binary.Div = symbols.Slash

-- an operator before its operand
abbrev pub prefix_sign : PrefixOp → Symbol
prefix_sign prefixes.Not = symbols.Bang
prefix_sign prefixes.Minus = symbols.Minus
prefix_sign prefixes.Plus = symbols.Plus

-- a hole: its expression, and the text behind it
abbrev pub HoleKinds : Type 0
HoleKinds = Kinds × List ℕ

-- what stands behind a hole: text up to the end, or up to the next hole
abbrev pub behind_hole : List ℕ → List HoleKinds → Kinds
behind_hole text [] = kinds.Tail text ∷ []
behind_hole text (h ∷ hs) = kinds.Mid text ∷ (h.0 ++ behind_hole h.1 hs)

-- a string with its holes
abbrev pub with_holes : List ℕ → List HoleKinds → Kinds
with_holes text [] = kinds.Str text ∷ []
with_holes text (h ∷ hs) = kinds.Head text ∷ (h.0 ++ behind_hole h.1 hs)

-- the context of a translated text, where one is written
abbrev pub tokens_of_context : Option Quoted → Kinds
tokens_of_context None = []
tokens_of_context (Some context) = kinds.Str context.text ∷ sign symbols.FatArrow

-- an image of a path
abbrev pub tokens_of_image : Quoted → Kinds
tokens_of_image path = kinds.Symbol symbols.At ∷ kinds.Id (codes "image-url") ∷ kinds.Symbol symbols.OpenParen ∷ kinds.Str path.text ∷ sign symbols.CloseParen

-- a translated text with its arguments
abbrev pub translated : Option Quoted → Quoted → List Kinds → Kinds
translated context text es = kinds.Symbol symbols.At ∷ kinds.Id (codes "tr") ∷ kinds.Symbol symbols.OpenParen ∷ (tokens_of_context context ++ (kinds.Str text.text ∷ behind_commas symbols.CloseParen es))

-- a condition and what is chosen by it
abbrev pub chosen : Kinds → Kinds → Kinds → Kinds
chosen c a b = c ++ (kinds.Symbol symbols.Question ∷ (a ++ (kinds.Symbol symbols.Colon ∷ b)))

-- an expression
abbrev pub expr_layer : Expr-F Kinds Kinds Kinds HoleKinds Kinds → Kinds
expr_layer (Expr-F.Number n span) = kinds.Number n ∷ []
expr_layer (Expr-F.Colour c span) = kinds.Colour c ∷ []
expr_layer (Expr-F.Text text span) = kinds.Str text ∷ []
expr_layer (Expr-F.Template text holes span) = with_holes text holes
expr_layer (Expr-F.Name ident span) = tokens_of_ident ident
expr_layer (Expr-F.Paren e span) = enclosed symbols.OpenParen e symbols.CloseParen
expr_layer (Expr-F.Array es span) = listed symbols.OpenBracket es symbols.CloseBracket
expr_layer (Expr-F.Struct fs span) = listed symbols.OpenBrace fs symbols.CloseBrace
expr_layer (Expr-F.ImageUrl path span) = tokens_of_image path
expr_layer (Expr-F.Tr context text es span) = translated context text es
expr_layer (Expr-F.Postfix e ss span) = e ++ in_order ss
expr_layer (Expr-F.Prefix op e span) = kinds.Symbol (prefix_sign op) ∷ e
expr_layer (Expr-F.Chain e os span) = e ++ in_order os
expr_layer (Expr-F.Choice c a b span) = chosen c a b

abbrev pub suffix_layer : Suffix-F Kinds Kinds Kinds HoleKinds Kinds → Kinds
suffix_layer (Suffix-F.Member ident) = kinds.Symbol symbols.Dot ∷ tokens_of_ident ident
suffix_layer (Suffix-F.Call es span) = listed symbols.OpenParen es symbols.CloseParen
suffix_layer (Suffix-F.Index e span) = enclosed symbols.OpenBracket e symbols.CloseBracket

abbrev pub field_value_layer : FieldValue-F Kinds Kinds Kinds HoleKinds Kinds → Kinds
field_value_layer f = kinds.Id f.name.name ∷ kinds.Symbol symbols.Colon ∷ f.value

abbrev pub hole_layer : Hole-F Kinds Kinds Kinds HoleKinds Kinds → HoleKinds
hole_layer h = (h.value, h.behind)

abbrev pub operand_layer : Operand-F Kinds Kinds Kinds HoleKinds Kinds → Kinds
operand_layer o = kinds.Symbol (binary_sign o.op) ∷ o.right

abbrev pub tokens_of_expr : Expr → Kinds
tokens_of_expr = fold-Expr Kinds Kinds Kinds HoleKinds Kinds expr_layer suffix_layer field_value_layer hole_layer operand_layer

abbrev pub tokens_of_suffix : Suffix → Kinds
tokens_of_suffix = fold-Suffix Kinds Kinds Kinds HoleKinds Kinds expr_layer suffix_layer field_value_layer hole_layer operand_layer

abbrev pub tokens_of_field_value : FieldValue → Kinds
tokens_of_field_value = fold-FieldValue Kinds Kinds Kinds HoleKinds Kinds expr_layer suffix_layer field_value_layer hole_layer operand_layer

abbrev pub tokens_of_hole : Hole → HoleKinds
tokens_of_hole = fold-Hole Kinds Kinds Kinds HoleKinds Kinds expr_layer suffix_layer field_value_layer hole_layer operand_layer

abbrev pub tokens_of_operand : Operand → Kinds
tokens_of_operand = fold-Operand Kinds Kinds Kinds HoleKinds Kinds expr_layer suffix_layer field_value_layer hole_layer operand_layer

-- what is optional: nothing, or what is there
abbrev pub if_some : {A : Type 0} → (A → Kinds) → Option A → Kinds
if_some f None = []
if_some f (Some x) = f x

abbrev pub assign_sign : AssignOp → Symbol
assign_sign assign_ops.Set = symbols.Equal
assign_sign assign_ops.Add = symbols.PlusEqual
assign_sign assign_ops.Sub = symbols.MinusEqual
assign_sign assign_ops.Mul = symbols.StarEqual
assign_sign assign_ops.Div = symbols.SlashEqual

-- a statement, with its semicolon
abbrev pub stmt_layer : Stmt-F Kinds Kinds Kinds → Kinds
stmt_layer (Stmt-F.If condition block otherwise span) = kinds.Id (codes "if") ∷ (tokens_of_expr condition ++ (block ++ otherwise))
stmt_layer (Stmt-F.Return value span) = (kinds.Id (codes "return") ∷ if_some tokens_of_expr value) ++ sign symbols.Semicolon
stmt_layer (Stmt-F.Empty span) = sign symbols.Semicolon
stmt_layer (Stmt-F.Expr e) = tokens_of_expr e ++ sign symbols.Semicolon
stmt_layer (Stmt-F.Assign left op right span) = (tokens_of_expr left ++ (kinds.Symbol (assign_sign op) ∷ tokens_of_expr right)) ++ sign symbols.Semicolon

abbrev pub block_layer : Block-F Kinds Kinds Kinds → Kinds
block_layer b = kinds.Symbol symbols.OpenBrace ∷ (in_order b.stmts ++ sign symbols.CloseBrace)

abbrev pub else_layer : Else-F Kinds Kinds Kinds → Kinds
else_layer Else-F.Nothing = []
else_layer (Else-F.ElseIf condition block otherwise span) = kinds.Id (codes "else") ∷ kinds.Id (codes "if") ∷ (tokens_of_expr condition ++ (block ++ otherwise))
else_layer (Else-F.ElseBlock block) = kinds.Id (codes "else") ∷ block

abbrev pub tokens_of_block : Block → Kinds
tokens_of_block = fold-Block Kinds Kinds Kinds else_layer stmt_layer block_layer

abbrev pub tokens_of_stmt : Stmt → Kinds
tokens_of_stmt = fold-Stmt Kinds Kinds Kinds else_layer stmt_layer block_layer

abbrev pub tokens_of_else : Else → Kinds
tokens_of_else = fold-Else Kinds Kinds Kinds else_layer stmt_layer block_layer

-- what is bound or run, with the semicolon of an expression
abbrev pub tokens_of_value : Value → Kinds
tokens_of_value (values.Block block) = tokens_of_block block
tokens_of_value (values.Expr e) = tokens_of_expr e ++ sign symbols.Semicolon

-- a property
abbrev pub mark_tokens : Mark → Kinds
mark_tokens marks.None = []
mark_tokens marks.Private = kinds.Id (codes "private") ∷ []
mark_tokens marks.In = kinds.Id (codes "in") ∷ []
mark_tokens marks.Out = kinds.Id (codes "out") ∷ []
mark_tokens marks.InOut = kinds.Id (codes "in-out") ∷ []

abbrev pub property_head : Mark → Kinds
property_head mark = mark_tokens mark ++ (kinds.Id (codes "property") ∷ [])

abbrev pub in_angles : TypeName → Kinds
in_angles ty = kinds.Symbol symbols.Less ∷ (tokens_of_type ty ++ sign symbols.Greater)

-- a link to a path, with its semicolon
abbrev pub linked_to : Path → Kinds
linked_to path = kinds.Symbol symbols.TwoWay ∷ (tokens_of_path path ++ sign symbols.Semicolon)

abbrev pub prop_value_of : Value → Kinds
prop_value_of value = kinds.Symbol symbols.Colon ∷ tokens_of_value value

abbrev pub tokens_of_prop_value : PropValue → Kinds
tokens_of_prop_value prop_values.None = sign symbols.Semicolon
tokens_of_prop_value (prop_values.Value value) = prop_value_of value
tokens_of_prop_value (prop_values.Link path) = linked_to path

abbrev pub tokens_of_property : Property → Kinds
tokens_of_property p = property_head p.mark ++ (if_some in_angles p.ty ++ (kinds.Id p.name.name ∷ tokens_of_prop_value p.value))

-- a callback
abbrev pub pure_tokens : Bool → Kinds
pure_tokens true = kinds.Id (codes "pure") ∷ []
pure_tokens false = []

abbrev pub callback_head : Bool → Kinds
callback_head is_pure = pure_tokens is_pure ++ (kinds.Id (codes "callback") ∷ [])

abbrev pub before_type : Option Ident → Kinds
before_type None = []
before_type (Some name) = kinds.Id name.name ∷ sign symbols.Colon

abbrev pub tokens_of_parameter : Parameter → Kinds
tokens_of_parameter p = before_type p.name ++ tokens_of_type p.ty

abbrev pub in_parens : List Kinds → Kinds
in_parens xs = kinds.Symbol symbols.OpenParen ∷ with_commas symbols.CloseParen xs

abbrev pub tokens_of_parameters : List Parameter → Kinds
tokens_of_parameters ps = in_parens (map tokens_of_parameter ps)

abbrev pub tokens_of_result : TypeName → Kinds
tokens_of_result ty = kinds.Symbol symbols.ThinArrow ∷ tokens_of_type ty

abbrev pub signature : Option (List Parameter) → Option TypeName → Kinds
signature parameters ty = if_some tokens_of_parameters parameters ++ (if_some tokens_of_result ty ++ sign symbols.Semicolon)

abbrev pub tokens_of_form : CallbackForm → Kinds
tokens_of_form (forms.Link path) = linked_to path
tokens_of_form (forms.Signature parameters ty) = signature parameters ty

abbrev pub tokens_of_callback : Callback → Kinds
tokens_of_callback c = callback_head c.is_pure ++ (kinds.Id c.name.name ∷ tokens_of_form c.form)

-- a function
abbrev pub access_tokens : Access → Kinds
access_tokens accesses.None = []
access_tokens accesses.Public = kinds.Id (codes "public") ∷ []
access_tokens accesses.Protected = kinds.Id (codes "protected") ∷ []

abbrev pub modifiers : Bool → Access → Kinds
modifiers is_pure access = pure_tokens is_pure ++ access_tokens access

abbrev pub tokens_of_function : Function → Kinds
tokens_of_function f = modifiers f.is_pure f.access ++ (kinds.Id (codes "function") ∷ kinds.Id f.name.name ∷ (in_parens (map tokens_of_field f.parameters) ++ (if_some tokens_of_result f.result ++ tokens_of_block f.body)))

-- bindings, links and handlers
abbrev pub tokens_of_binding : Binding → Kinds
tokens_of_binding b = kinds.Id b.name.name ∷ kinds.Symbol symbols.Colon ∷ tokens_of_value b.value

abbrev pub tokens_of_link : Link → Kinds
tokens_of_link l = kinds.Id l.left.name ∷ linked_to l.right

abbrev pub tokens_of_names : List Ident → Kinds
tokens_of_names names = in_parens (map tokens_of_ident names)

abbrev pub tokens_of_handler : Handler → Kinds
tokens_of_handler h = kinds.Id h.name.name ∷ (if_some tokens_of_names h.parameters ++ (kinds.Symbol symbols.FatArrow ∷ tokens_of_value h.run))

abbrev pub tokens_of_changed : Changed → Kinds
tokens_of_changed c = kinds.Id (codes "changed") ∷ kinds.Id c.name.name ∷ kinds.Symbol symbols.FatArrow ∷ tokens_of_value c.run

-- states
abbrev pub tokens_of_change : Change → Kinds
tokens_of_change c = tokens_of_path c.path ++ (kinds.Symbol symbols.Colon ∷ tokens_of_value c.value)

abbrev pub tokens_of_when : Expr → Kinds
tokens_of_when e = kinds.Id (codes "when") ∷ tokens_of_expr e

-- one after the other, and the symbol that closes them
abbrev pub closed_by : Symbol → List Kinds → Kinds
closed_by closer xs = in_order xs ++ sign closer

abbrev pub tokens_of_state : State → Kinds
tokens_of_state s = kinds.Id s.name.name ∷ (if_some tokens_of_when s.when ++ (kinds.Symbol symbols.Colon ∷ kinds.Symbol symbols.OpenBrace ∷ closed_by symbols.CloseBrace (map tokens_of_change s.changes)))

abbrev pub states_of : List State → Kinds
states_of xs = kinds.Symbol symbols.OpenBracket ∷ closed_by symbols.CloseBracket (map tokens_of_state xs)

abbrev pub tokens_of_states : States → Kinds
tokens_of_states s = kinds.Id (codes "states") ∷ states_of s.states

-- elements and the items of their bodies
abbrev pub in_braces : List Kinds → Kinds
in_braces xs = kinds.Symbol symbols.OpenBrace ∷ closed_by symbols.CloseBrace xs

abbrev pub tokens_of_id : Ident → Kinds
tokens_of_id id = kinds.Id id.name ∷ sign symbols.ColonEqual

abbrev pub tokens_of_number : Ident → Kinds
tokens_of_number name = kinds.Symbol symbols.OpenBracket ∷ kinds.Id name.name ∷ sign symbols.CloseBracket

abbrev pub element_layer : Element-F Kinds Kinds Kinds Kinds → Kinds
element_layer e = if_some tokens_of_id e.id ++ (kinds.Id e.ty.name ∷ in_braces e.body)

abbrev pub if_layer : IfElement-F Kinds Kinds Kinds Kinds → Kinds
if_layer i = kinds.Id (codes "if") ∷ (tokens_of_expr i.condition ++ (kinds.Symbol symbols.Colon ∷ i.element))

abbrev pub for_layer : For-F Kinds Kinds Kinds Kinds → Kinds
for_layer f = kinds.Id (codes "for") ∷ kinds.Id f.item.name ∷ (if_some tokens_of_number f.number ++ (kinds.Id (codes "in") ∷ (tokens_of_expr f.model ++ (kinds.Symbol symbols.Colon ∷ f.element))))

-- the place of the children
abbrev pub children_tokens : Kinds
children_tokens = kinds.Symbol symbols.At ∷ kinds.Id (codes "children") ∷ []

abbrev pub item_layer : Item-F Kinds Kinds Kinds Kinds → Kinds
item_layer (Item-F.Property p) = tokens_of_property p
item_layer (Item-F.Callback c) = tokens_of_callback c
item_layer (Item-F.Function f) = tokens_of_function f
item_layer (Item-F.Binding b) = tokens_of_binding b
item_layer (Item-F.Link l) = tokens_of_link l
item_layer (Item-F.Handler h) = tokens_of_handler h
item_layer (Item-F.Changed c) = tokens_of_changed c
item_layer (Item-F.States s) = tokens_of_states s
item_layer (Item-F.Element e) = e
item_layer (Item-F.If i) = i
item_layer (Item-F.For f) = f
item_layer (Item-F.Children span) = children_tokens

abbrev pub tokens_of_item : Item → Kinds
tokens_of_item = fold-Item Kinds Kinds Kinds Kinds item_layer element_layer for_layer if_layer

abbrev pub tokens_of_element : Element → Kinds
tokens_of_element = fold-Element Kinds Kinds Kinds Kinds item_layer element_layer for_layer if_layer

abbrev pub tokens_of_if : IfElement → Kinds
tokens_of_if = fold-IfElement Kinds Kinds Kinds Kinds item_layer element_layer for_layer if_layer

abbrev pub tokens_of_for : For → Kinds
tokens_of_for = fold-For Kinds Kinds Kinds Kinds item_layer element_layer for_layer if_layer

abbrev pub tokens_of_items : List Item → Kinds
tokens_of_items xs = closed_by symbols.CloseBrace (map tokens_of_item xs)

-- the items of a file
abbrev pub tokens_of_new_name : Ident → Kinds
tokens_of_new_name name = kinds.Id (codes "as") ∷ tokens_of_ident name

abbrev pub tokens_of_alias : Alias → Kinds
tokens_of_alias a = kinds.Id a.name.name ∷ if_some tokens_of_new_name a.alias

abbrev pub tokens_of_aliases : List Alias → Kinds
tokens_of_aliases names = with_commas symbols.CloseBrace (map tokens_of_alias names)

abbrev pub aliases_in_braces : List Alias → Kinds
aliases_in_braces names = kinds.Symbol symbols.OpenBrace ∷ tokens_of_aliases names

abbrev pub import_names : List Alias → Kinds
import_names names = aliases_in_braces names ++ (kinds.Id (codes "from") ∷ [])

abbrev pub tokens_of_import : Import → Kinds
tokens_of_import i = kinds.Id (codes "import") ∷ (if_some import_names i.names ++ (kinds.Str i.path.text ∷ sign symbols.Semicolon))

abbrev pub tokens_of_export : ExportList → Kinds
tokens_of_export e = kinds.Id (codes "export") ∷ aliases_in_braces e.names

abbrev pub tokens_of_export_all : ExportAll → Kinds
tokens_of_export_all e = kinds.Id (codes "export") ∷ kinds.Symbol symbols.Star ∷ kinds.Id (codes "from") ∷ kinds.Str e.path.text ∷ sign symbols.Semicolon

abbrev pub tokens_of_base : Ident → Kinds
tokens_of_base name = kinds.Id (codes "inherits") ∷ tokens_of_ident name

abbrev pub tokens_of_component : Component → Kinds
tokens_of_component c = kinds.Id (codes "component") ∷ kinds.Id c.name.name ∷ (if_some tokens_of_base c.base ++ (kinds.Symbol symbols.OpenBrace ∷ tokens_of_items c.body))

abbrev pub tokens_of_global : Global → Kinds
tokens_of_global g = kinds.Id (codes "global") ∷ kinds.Id g.name.name ∷ kinds.Symbol symbols.OpenBrace ∷ tokens_of_items g.items

abbrev pub tokens_of_struct : StructDecl → Kinds
tokens_of_struct s = kinds.Id (codes "struct") ∷ kinds.Id s.name.name ∷ kinds.Symbol symbols.OpenBrace ∷ with_commas symbols.CloseBrace (map tokens_of_field s.fields)

abbrev pub tokens_of_enum : EnumDecl → Kinds
tokens_of_enum e = kinds.Id (codes "enum") ∷ kinds.Id e.name.name ∷ kinds.Symbol symbols.OpenBrace ∷ with_commas symbols.CloseBrace (map tokens_of_ident e.values)

abbrev pub tokens_of_decl : Decl → Kinds
tokens_of_decl (decls.Component c) = tokens_of_component c
tokens_of_decl (decls.Global g) = tokens_of_global g
tokens_of_decl (decls.Struct s) = tokens_of_struct s
tokens_of_decl (decls.Enum e) = tokens_of_enum e

abbrev pub export_tokens : Bool → Kinds
export_tokens true = kinds.Id (codes "export") ∷ []
export_tokens false = []

abbrev pub exported_tokens : Bool → Decl → Kinds
exported_tokens exported decl = export_tokens exported ++ tokens_of_decl decl

abbrev pub tokens_of_file_item : FileItem → Kinds
tokens_of_file_item (file_items.Import i) = tokens_of_import i
tokens_of_file_item (file_items.Export e) = tokens_of_export e
tokens_of_file_item (file_items.ExportAll e) = tokens_of_export_all e
tokens_of_file_item (file_items.Decl exported decl) = exported_tokens exported decl

-- a file
abbrev pub tokens_of_file : File → Kinds
tokens_of_file file = in_order (map tokens_of_file_item file.items)
