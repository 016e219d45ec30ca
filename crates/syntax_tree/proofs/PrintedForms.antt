-- The tokens of each form of a tree.
use Rattle.std.proofs.Common.{◌≡◌, ℕ, List, Option, map, sym, ap, ◌∙◌}
use Rattle.slint_base.specs.declared.faults.Span.{Span}
use Rattle.slint_literals.specs.declared.numbers.Number.{Number}
use Rattle.syntax_tree.specs.declared.words.Ident.{Ident}
use Rattle.syntax_tree.specs.declared.words.Quoted.{Quoted}
use Rattle.syntax_tree.specs.declared.expressions.Expr.{Expr, fold-roll-Expr}
use Rattle.syntax_tree.specs.declared.expressions.Expr.TheVariants as exprs
use Rattle.syntax_tree.specs.declared.expressions.Suffix.{Suffix, fold-roll-Suffix}
use Rattle.syntax_tree.specs.declared.expressions.Suffix.TheVariants as suffixes
use Rattle.syntax_tree.specs.declared.expressions.FieldValue.{FieldValue, fold-roll-FieldValue, roll-FieldValue}
use Rattle.syntax_tree.specs.declared.expressions.Hole.{Hole, fold-roll-Hole, roll-Hole}
use Rattle.syntax_tree.specs.declared.expressions.Operand.{Operand, fold-roll-Operand, roll-Operand}
use Rattle.syntax_tree.specs.declared.types.TypeName.{TypeName, fold-roll-TypeName}
use Rattle.syntax_tree.specs.declared.types.TypeName.TheVariants as types
use Rattle.syntax_tree.specs.declared.types.Field.{Field, fold-roll-Field, roll-Field}
use Rattle.syntax_tree.specs.declared.statements.Else.{Else, fold-roll-Else}
use Rattle.syntax_tree.specs.declared.statements.Else.TheVariants as elses
use Rattle.syntax_tree.specs.declared.statements.Stmt.{Stmt, fold-roll-Stmt}
use Rattle.syntax_tree.specs.declared.statements.Stmt.TheVariants as stmts
use Rattle.syntax_tree.specs.declared.statements.Block.{Block, fold-roll-Block, roll-Block}
use Rattle.syntax_tree.specs.declared.items.Item.{Item, fold-roll-Item}
use Rattle.syntax_tree.specs.declared.items.Item.TheVariants as items
use Rattle.syntax_tree.specs.declared.items.Element.{Element, fold-roll-Element, roll-Element}
use Rattle.syntax_tree.specs.declared.items.For.{For, fold-roll-For, roll-For}
use Rattle.syntax_tree.specs.declared.items.IfElement.{IfElement, fold-roll-IfElement, roll-IfElement}
use Rattle.syntax_tree.specs.declared.expressions.BinaryOp.{BinaryOp}
use Rattle.syntax_tree.specs.declared.expressions.PrefixOp.{PrefixOp}
use Rattle.syntax_tree.specs.declared.statements.AssignOp.{AssignOp}
use Rattle.syntax_tree.specs.declared.items.Property.{Property}
use Rattle.syntax_tree.specs.declared.items.Callback.{Callback}
use Rattle.syntax_tree.specs.declared.items.Function.{Function}
use Rattle.syntax_tree.specs.declared.items.Binding.{Binding}
use Rattle.syntax_tree.specs.declared.items.Link.{Link}
use Rattle.syntax_tree.specs.declared.items.Handler.{Handler}
use Rattle.syntax_tree.specs.declared.items.Changed.{Changed}
use Rattle.syntax_tree.specs.declared.items.States.{States}
use Rattle.syntax_tree.specs.declared.expressions.Expr.TheOpen.{Expr-F, Suffix-F}
use Rattle.syntax_tree.specs.declared.types.TypeName.TheOpen.{TypeName-F}
use Rattle.syntax_tree.specs.declared.statements.Else.TheOpen.{Else-F, Stmt-F}
use Rattle.syntax_tree.specs.declared.items.Item.TheOpen.{Item-F}
use Rattle.syntax_tree.specs.Printed.{Kinds, HoleKinds, tokens_of_expr, tokens_of_suffix, tokens_of_field_value, tokens_of_hole, tokens_of_operand, tokens_of_type, tokens_of_field, tokens_of_else, tokens_of_stmt, tokens_of_block, tokens_of_item, tokens_of_element, tokens_of_for, tokens_of_if, expr_layer, suffix_layer, field_value_layer, hole_layer, operand_layer, type_layer, field_layer, else_layer, stmt_layer, block_layer, item_layer, element_layer, for_layer, if_layer}

pub tokens-expr-number : (n : Number) (span : Span) → tokens_of_expr (exprs.Number n span) ≡ expr_layer (Expr-F.Number n span)
tokens-expr-number n span = ap tokens_of_expr (sym (exprs.rolls-Number n span)) ∙ fold-roll-Expr Kinds Kinds Kinds HoleKinds Kinds expr_layer suffix_layer field_value_layer hole_layer operand_layer (Expr-F.Number n span)

pub tokens-expr-colour : (c : ℕ) (span : Span) → tokens_of_expr (exprs.Colour c span) ≡ expr_layer (Expr-F.Colour c span)
tokens-expr-colour c span = ap tokens_of_expr (sym (exprs.rolls-Colour c span)) ∙ fold-roll-Expr Kinds Kinds Kinds HoleKinds Kinds expr_layer suffix_layer field_value_layer hole_layer operand_layer (Expr-F.Colour c span)

pub tokens-expr-text : (text : List ℕ) (span : Span) → tokens_of_expr (exprs.Text text span) ≡ expr_layer (Expr-F.Text text span)
tokens-expr-text text span = ap tokens_of_expr (sym (exprs.rolls-Text text span)) ∙ fold-roll-Expr Kinds Kinds Kinds HoleKinds Kinds expr_layer suffix_layer field_value_layer hole_layer operand_layer (Expr-F.Text text span)

pub tokens-expr-template : (text : List ℕ) (hs : List Hole) (span : Span) → tokens_of_expr (exprs.Template text hs span) ≡ expr_layer (Expr-F.Template text (map tokens_of_hole hs) span)
tokens-expr-template text hs span = ap tokens_of_expr (sym (exprs.rolls-Template text hs span)) ∙ fold-roll-Expr Kinds Kinds Kinds HoleKinds Kinds expr_layer suffix_layer field_value_layer hole_layer operand_layer (Expr-F.Template text hs span)

pub tokens-expr-name : (ident : Ident) (span : Span) → tokens_of_expr (exprs.Name ident span) ≡ expr_layer (Expr-F.Name ident span)
tokens-expr-name ident span = ap tokens_of_expr (sym (exprs.rolls-Name ident span)) ∙ fold-roll-Expr Kinds Kinds Kinds HoleKinds Kinds expr_layer suffix_layer field_value_layer hole_layer operand_layer (Expr-F.Name ident span)

pub tokens-expr-paren : (e : Expr) (span : Span) → tokens_of_expr (exprs.Paren e span) ≡ expr_layer (Expr-F.Paren (tokens_of_expr e) span)
tokens-expr-paren e span = ap tokens_of_expr (sym (exprs.rolls-Paren e span)) ∙ fold-roll-Expr Kinds Kinds Kinds HoleKinds Kinds expr_layer suffix_layer field_value_layer hole_layer operand_layer (Expr-F.Paren e span)

pub tokens-expr-array : (es : List Expr) (span : Span) → tokens_of_expr (exprs.Array es span) ≡ expr_layer (Expr-F.Array (map tokens_of_expr es) span)
tokens-expr-array es span = ap tokens_of_expr (sym (exprs.rolls-Array es span)) ∙ fold-roll-Expr Kinds Kinds Kinds HoleKinds Kinds expr_layer suffix_layer field_value_layer hole_layer operand_layer (Expr-F.Array es span)

pub tokens-expr-struct : (fs : List FieldValue) (span : Span) → tokens_of_expr (exprs.Struct fs span) ≡ expr_layer (Expr-F.Struct (map tokens_of_field_value fs) span)
tokens-expr-struct fs span = ap tokens_of_expr (sym (exprs.rolls-Struct fs span)) ∙ fold-roll-Expr Kinds Kinds Kinds HoleKinds Kinds expr_layer suffix_layer field_value_layer hole_layer operand_layer (Expr-F.Struct fs span)

pub tokens-expr-image_url : (path : Quoted) (span : Span) → tokens_of_expr (exprs.ImageUrl path span) ≡ expr_layer (Expr-F.ImageUrl path span)
tokens-expr-image_url path span = ap tokens_of_expr (sym (exprs.rolls-ImageUrl path span)) ∙ fold-roll-Expr Kinds Kinds Kinds HoleKinds Kinds expr_layer suffix_layer field_value_layer hole_layer operand_layer (Expr-F.ImageUrl path span)

pub tokens-expr-tr : (context : Option Quoted) (text : Quoted) (es : List Expr) (span : Span) → tokens_of_expr (exprs.Tr context text es span) ≡ expr_layer (Expr-F.Tr context text (map tokens_of_expr es) span)
tokens-expr-tr context text es span = ap tokens_of_expr (sym (exprs.rolls-Tr context text es span)) ∙ fold-roll-Expr Kinds Kinds Kinds HoleKinds Kinds expr_layer suffix_layer field_value_layer hole_layer operand_layer (Expr-F.Tr context text es span)

pub tokens-expr-postfix : (e : Expr) (ss : List Suffix) (span : Span) → tokens_of_expr (exprs.Postfix e ss span) ≡ expr_layer (Expr-F.Postfix (tokens_of_expr e) (map tokens_of_suffix ss) span)
tokens-expr-postfix e ss span = ap tokens_of_expr (sym (exprs.rolls-Postfix e ss span)) ∙ fold-roll-Expr Kinds Kinds Kinds HoleKinds Kinds expr_layer suffix_layer field_value_layer hole_layer operand_layer (Expr-F.Postfix e ss span)

pub tokens-expr-prefix : (op : PrefixOp) (e : Expr) (span : Span) → tokens_of_expr (exprs.Prefix op e span) ≡ expr_layer (Expr-F.Prefix op (tokens_of_expr e) span)
tokens-expr-prefix op e span = ap tokens_of_expr (sym (exprs.rolls-Prefix op e span)) ∙ fold-roll-Expr Kinds Kinds Kinds HoleKinds Kinds expr_layer suffix_layer field_value_layer hole_layer operand_layer (Expr-F.Prefix op e span)

pub tokens-expr-chain : (e : Expr) (os : List Operand) (span : Span) → tokens_of_expr (exprs.Chain e os span) ≡ expr_layer (Expr-F.Chain (tokens_of_expr e) (map tokens_of_operand os) span)
tokens-expr-chain e os span = ap tokens_of_expr (sym (exprs.rolls-Chain e os span)) ∙ fold-roll-Expr Kinds Kinds Kinds HoleKinds Kinds expr_layer suffix_layer field_value_layer hole_layer operand_layer (Expr-F.Chain e os span)

pub tokens-expr-choice : (c : Expr) (a : Expr) (b : Expr) (span : Span) → tokens_of_expr (exprs.Choice c a b span) ≡ expr_layer (Expr-F.Choice (tokens_of_expr c) (tokens_of_expr a) (tokens_of_expr b) span)
tokens-expr-choice c a b span = ap tokens_of_expr (sym (exprs.rolls-Choice c a b span)) ∙ fold-roll-Expr Kinds Kinds Kinds HoleKinds Kinds expr_layer suffix_layer field_value_layer hole_layer operand_layer (Expr-F.Choice c a b span)

pub tokens-suffix-member : (ident : Ident) → tokens_of_suffix (suffixes.Member ident) ≡ suffix_layer (Suffix-F.Member ident)
tokens-suffix-member ident = ap tokens_of_suffix (sym (suffixes.rolls-Member ident)) ∙ fold-roll-Suffix Kinds Kinds Kinds HoleKinds Kinds expr_layer suffix_layer field_value_layer hole_layer operand_layer (Suffix-F.Member ident)

pub tokens-suffix-call : (es : List Expr) (span : Span) → tokens_of_suffix (suffixes.Call es span) ≡ suffix_layer (Suffix-F.Call (map tokens_of_expr es) span)
tokens-suffix-call es span = ap tokens_of_suffix (sym (suffixes.rolls-Call es span)) ∙ fold-roll-Suffix Kinds Kinds Kinds HoleKinds Kinds expr_layer suffix_layer field_value_layer hole_layer operand_layer (Suffix-F.Call es span)

pub tokens-suffix-index : (e : Expr) (span : Span) → tokens_of_suffix (suffixes.Index e span) ≡ suffix_layer (Suffix-F.Index (tokens_of_expr e) span)
tokens-suffix-index e span = ap tokens_of_suffix (sym (suffixes.rolls-Index e span)) ∙ fold-roll-Suffix Kinds Kinds Kinds HoleKinds Kinds expr_layer suffix_layer field_value_layer hole_layer operand_layer (Suffix-F.Index e span)

pub tokens-field_value : (name : Ident) (value : Expr) → tokens_of_field_value (roll-FieldValue (record { name = name; value = value })) ≡ field_value_layer (record { name = name; value = (tokens_of_expr value) })
tokens-field_value name value = fold-roll-FieldValue Kinds Kinds Kinds HoleKinds Kinds expr_layer suffix_layer field_value_layer hole_layer operand_layer (record { name = name; value = value })

pub tokens-hole : (value : Expr) (behind : List ℕ) → tokens_of_hole (roll-Hole (record { value = value; behind = behind })) ≡ hole_layer (record { value = (tokens_of_expr value); behind = behind })
tokens-hole value behind = fold-roll-Hole Kinds Kinds Kinds HoleKinds Kinds expr_layer suffix_layer field_value_layer hole_layer operand_layer (record { value = value; behind = behind })

pub tokens-operand : (op : BinaryOp) (right : Expr) → tokens_of_operand (roll-Operand (record { op = op; right = right })) ≡ operand_layer (record { op = op; right = (tokens_of_expr right) })
tokens-operand op right = fold-roll-Operand Kinds Kinds Kinds HoleKinds Kinds expr_layer suffix_layer field_value_layer hole_layer operand_layer (record { op = op; right = right })

pub tokens-type_name-named : (ident : Ident) → tokens_of_type (types.Named ident) ≡ type_layer (TypeName-F.Named ident)
tokens-type_name-named ident = ap tokens_of_type (sym (types.rolls-Named ident)) ∙ fold-roll-TypeName Kinds Kinds type_layer field_layer (TypeName-F.Named ident)

pub tokens-type_name-array : (ty : TypeName) (span : Span) → tokens_of_type (types.Array ty span) ≡ type_layer (TypeName-F.Array (tokens_of_type ty) span)
tokens-type_name-array ty span = ap tokens_of_type (sym (types.rolls-Array ty span)) ∙ fold-roll-TypeName Kinds Kinds type_layer field_layer (TypeName-F.Array ty span)

pub tokens-type_name-struct : (fs : List Field) (span : Span) → tokens_of_type (types.Struct fs span) ≡ type_layer (TypeName-F.Struct (map tokens_of_field fs) span)
tokens-type_name-struct fs span = ap tokens_of_type (sym (types.rolls-Struct fs span)) ∙ fold-roll-TypeName Kinds Kinds type_layer field_layer (TypeName-F.Struct fs span)

pub tokens-field : (name : Ident) (ty : TypeName) → tokens_of_field (roll-Field (record { name = name; ty = ty })) ≡ field_layer (record { name = name; ty = (tokens_of_type ty) })
tokens-field name ty = fold-roll-Field Kinds Kinds type_layer field_layer (record { name = name; ty = ty })

pub tokens-else-nothing : tokens_of_else elses.Nothing ≡ else_layer Else-F.Nothing
tokens-else-nothing = ap tokens_of_else (sym elses.rolls-Nothing) ∙ fold-roll-Else Kinds Kinds Kinds else_layer stmt_layer block_layer Else-F.Nothing

pub tokens-else-else_if : (e : Expr) (b : Block) (o : Else) (span : Span) → tokens_of_else (elses.ElseIf e b o span) ≡ else_layer (Else-F.ElseIf e (tokens_of_block b) (tokens_of_else o) span)
tokens-else-else_if e b o span = ap tokens_of_else (sym (elses.rolls-ElseIf e b o span)) ∙ fold-roll-Else Kinds Kinds Kinds else_layer stmt_layer block_layer (Else-F.ElseIf e b o span)

pub tokens-else-else_block : (b : Block) → tokens_of_else (elses.ElseBlock b) ≡ else_layer (Else-F.ElseBlock (tokens_of_block b))
tokens-else-else_block b = ap tokens_of_else (sym (elses.rolls-ElseBlock b)) ∙ fold-roll-Else Kinds Kinds Kinds else_layer stmt_layer block_layer (Else-F.ElseBlock b)

pub tokens-stmt-if : (e : Expr) (b : Block) (o : Else) (span : Span) → tokens_of_stmt (stmts.If e b o span) ≡ stmt_layer (Stmt-F.If e (tokens_of_block b) (tokens_of_else o) span)
tokens-stmt-if e b o span = ap tokens_of_stmt (sym (stmts.rolls-If e b o span)) ∙ fold-roll-Stmt Kinds Kinds Kinds else_layer stmt_layer block_layer (Stmt-F.If e b o span)

pub tokens-stmt-return : (value : Option Expr) (span : Span) → tokens_of_stmt (stmts.Return value span) ≡ stmt_layer (Stmt-F.Return value span)
tokens-stmt-return value span = ap tokens_of_stmt (sym (stmts.rolls-Return value span)) ∙ fold-roll-Stmt Kinds Kinds Kinds else_layer stmt_layer block_layer (Stmt-F.Return value span)

pub tokens-stmt-empty : (span : Span) → tokens_of_stmt (stmts.Empty span) ≡ stmt_layer (Stmt-F.Empty span)
tokens-stmt-empty span = ap tokens_of_stmt (sym (stmts.rolls-Empty span)) ∙ fold-roll-Stmt Kinds Kinds Kinds else_layer stmt_layer block_layer (Stmt-F.Empty span)

pub tokens-stmt-expr : (e : Expr) → tokens_of_stmt (stmts.Expr e) ≡ stmt_layer (Stmt-F.Expr e)
tokens-stmt-expr e = ap tokens_of_stmt (sym (stmts.rolls-Expr e)) ∙ fold-roll-Stmt Kinds Kinds Kinds else_layer stmt_layer block_layer (Stmt-F.Expr e)

pub tokens-stmt-assign : (l : Expr) (op : AssignOp) (r : Expr) (span : Span) → tokens_of_stmt (stmts.Assign l op r span) ≡ stmt_layer (Stmt-F.Assign l op r span)
tokens-stmt-assign l op r span = ap tokens_of_stmt (sym (stmts.rolls-Assign l op r span)) ∙ fold-roll-Stmt Kinds Kinds Kinds else_layer stmt_layer block_layer (Stmt-F.Assign l op r span)

pub tokens-block : (stmts : List Stmt) (span : Span) → tokens_of_block (roll-Block (record { stmts = stmts; span = span })) ≡ block_layer (record { stmts = (map tokens_of_stmt stmts); span = span })
tokens-block stmts span = fold-roll-Block Kinds Kinds Kinds else_layer stmt_layer block_layer (record { stmts = stmts; span = span })

pub tokens-item-property : (x : Property) → tokens_of_item (items.Property x) ≡ item_layer (Item-F.Property x)
tokens-item-property x = ap tokens_of_item (sym (items.rolls-Property x)) ∙ fold-roll-Item Kinds Kinds Kinds Kinds item_layer element_layer for_layer if_layer (Item-F.Property x)

pub tokens-item-callback : (x : Callback) → tokens_of_item (items.Callback x) ≡ item_layer (Item-F.Callback x)
tokens-item-callback x = ap tokens_of_item (sym (items.rolls-Callback x)) ∙ fold-roll-Item Kinds Kinds Kinds Kinds item_layer element_layer for_layer if_layer (Item-F.Callback x)

pub tokens-item-function : (x : Function) → tokens_of_item (items.Function x) ≡ item_layer (Item-F.Function x)
tokens-item-function x = ap tokens_of_item (sym (items.rolls-Function x)) ∙ fold-roll-Item Kinds Kinds Kinds Kinds item_layer element_layer for_layer if_layer (Item-F.Function x)

pub tokens-item-binding : (x : Binding) → tokens_of_item (items.Binding x) ≡ item_layer (Item-F.Binding x)
tokens-item-binding x = ap tokens_of_item (sym (items.rolls-Binding x)) ∙ fold-roll-Item Kinds Kinds Kinds Kinds item_layer element_layer for_layer if_layer (Item-F.Binding x)

pub tokens-item-link : (x : Link) → tokens_of_item (items.Link x) ≡ item_layer (Item-F.Link x)
tokens-item-link x = ap tokens_of_item (sym (items.rolls-Link x)) ∙ fold-roll-Item Kinds Kinds Kinds Kinds item_layer element_layer for_layer if_layer (Item-F.Link x)

pub tokens-item-handler : (x : Handler) → tokens_of_item (items.Handler x) ≡ item_layer (Item-F.Handler x)
tokens-item-handler x = ap tokens_of_item (sym (items.rolls-Handler x)) ∙ fold-roll-Item Kinds Kinds Kinds Kinds item_layer element_layer for_layer if_layer (Item-F.Handler x)

pub tokens-item-changed : (x : Changed) → tokens_of_item (items.Changed x) ≡ item_layer (Item-F.Changed x)
tokens-item-changed x = ap tokens_of_item (sym (items.rolls-Changed x)) ∙ fold-roll-Item Kinds Kinds Kinds Kinds item_layer element_layer for_layer if_layer (Item-F.Changed x)

pub tokens-item-states : (x : States) → tokens_of_item (items.States x) ≡ item_layer (Item-F.States x)
tokens-item-states x = ap tokens_of_item (sym (items.rolls-States x)) ∙ fold-roll-Item Kinds Kinds Kinds Kinds item_layer element_layer for_layer if_layer (Item-F.States x)

pub tokens-item-element : (x : Element) → tokens_of_item (items.Element x) ≡ item_layer (Item-F.Element (tokens_of_element x))
tokens-item-element x = ap tokens_of_item (sym (items.rolls-Element x)) ∙ fold-roll-Item Kinds Kinds Kinds Kinds item_layer element_layer for_layer if_layer (Item-F.Element x)

pub tokens-item-if : (x : IfElement) → tokens_of_item (items.If x) ≡ item_layer (Item-F.If (tokens_of_if x))
tokens-item-if x = ap tokens_of_item (sym (items.rolls-If x)) ∙ fold-roll-Item Kinds Kinds Kinds Kinds item_layer element_layer for_layer if_layer (Item-F.If x)

pub tokens-item-for : (x : For) → tokens_of_item (items.For x) ≡ item_layer (Item-F.For (tokens_of_for x))
tokens-item-for x = ap tokens_of_item (sym (items.rolls-For x)) ∙ fold-roll-Item Kinds Kinds Kinds Kinds item_layer element_layer for_layer if_layer (Item-F.For x)

pub tokens-item-children : (span : Span) → tokens_of_item (items.Children span) ≡ item_layer (Item-F.Children span)
tokens-item-children span = ap tokens_of_item (sym (items.rolls-Children span)) ∙ fold-roll-Item Kinds Kinds Kinds Kinds item_layer element_layer for_layer if_layer (Item-F.Children span)

pub tokens-element : (id : Option Ident) (ty : Ident) (body : List Item) → tokens_of_element (roll-Element (record { id = id; ty = ty; body = body })) ≡ element_layer (record { id = id; ty = ty; body = (map tokens_of_item body) })
tokens-element id ty body = fold-roll-Element Kinds Kinds Kinds Kinds item_layer element_layer for_layer if_layer (record { id = id; ty = ty; body = body })

pub tokens-for : (item : Ident) (number : Option Ident) (model : Expr) (element : Element) (word : Span) → tokens_of_for (roll-For (record { item = item; number = number; model = model; element = element; word = word })) ≡ for_layer (record { item = item; number = number; model = model; element = (tokens_of_element element); word = word })
tokens-for item number model element word = fold-roll-For Kinds Kinds Kinds Kinds item_layer element_layer for_layer if_layer (record { item = item; number = number; model = model; element = element; word = word })

pub tokens-if_element : (condition : Expr) (element : Element) (word : Span) → tokens_of_if (roll-IfElement (record { condition = condition; element = element; word = word })) ≡ if_layer (record { condition = condition; element = (tokens_of_element element); word = word })
tokens-if_element condition element word = fold-roll-IfElement Kinds Kinds Kinds Kinds item_layer element_layer for_layer if_layer (record { condition = condition; element = element; word = word })
