-- Each form of a tree without its stretches.
use Rattle.std.proofs.Common.{◌≡◌, ℕ, List, Option, map, sym, ap, ◌∙◌}
use Rattle.slint_base.specs.declared.faults.Span.{Span}
use Rattle.slint_literals.specs.declared.numbers.Number.{Number}
use Rattle.syntax_tree.specs.declared.words.Ident.{Ident}
use Rattle.syntax_tree.specs.declared.words.Quoted.{Quoted}
use Rattle.syntax_tree.specs.declared.expressions.Expr.{Expr, fold-roll-Expr}
use Rattle.syntax_tree.specs.declared.expressions.Expr.TheVariants as exprs
use Rattle.syntax_tree.specs.declared.expressions.Suffix.{Suffix, fold-roll-Suffix}
use Rattle.syntax_tree.specs.declared.expressions.Suffix.TheVariants as suffixes
use Rattle.syntax_tree.specs.declared.expressions.FieldValue.{FieldValue, fold-roll-FieldValue, roll-FieldValue}
use Rattle.syntax_tree.specs.declared.expressions.Hole.{Hole, fold-roll-Hole, roll-Hole}
use Rattle.syntax_tree.specs.declared.expressions.Operand.{Operand, fold-roll-Operand, roll-Operand}
use Rattle.syntax_tree.specs.declared.types.TypeName.{TypeName, fold-roll-TypeName}
use Rattle.syntax_tree.specs.declared.types.TypeName.TheVariants as types
use Rattle.syntax_tree.specs.declared.types.Field.{Field, fold-roll-Field, roll-Field}
use Rattle.syntax_tree.specs.declared.statements.Else.{Else, fold-roll-Else}
use Rattle.syntax_tree.specs.declared.statements.Else.TheVariants as elses
use Rattle.syntax_tree.specs.declared.statements.Stmt.{Stmt, fold-roll-Stmt}
use Rattle.syntax_tree.specs.declared.statements.Stmt.TheVariants as stmts
use Rattle.syntax_tree.specs.declared.statements.Block.{Block, fold-roll-Block, roll-Block}
use Rattle.syntax_tree.specs.declared.items.Item.{Item, fold-roll-Item}
use Rattle.syntax_tree.specs.declared.items.Item.TheVariants as items
use Rattle.syntax_tree.specs.declared.items.Element.{Element, fold-roll-Element, roll-Element}
use Rattle.syntax_tree.specs.declared.items.For.{For, fold-roll-For, roll-For}
use Rattle.syntax_tree.specs.declared.items.IfElement.{IfElement, fold-roll-IfElement, roll-IfElement}
use Rattle.syntax_tree.specs.declared.expressions.BinaryOp.{BinaryOp}
use Rattle.syntax_tree.specs.declared.expressions.PrefixOp.{PrefixOp}
use Rattle.syntax_tree.specs.declared.statements.AssignOp.{AssignOp}
use Rattle.syntax_tree.specs.declared.items.Property.{Property}
use Rattle.syntax_tree.specs.declared.items.Callback.{Callback}
use Rattle.syntax_tree.specs.declared.items.Function.{Function}
use Rattle.syntax_tree.specs.declared.items.Binding.{Binding}
use Rattle.syntax_tree.specs.declared.items.Link.{Link}
use Rattle.syntax_tree.specs.declared.items.Handler.{Handler}
use Rattle.syntax_tree.specs.declared.items.Changed.{Changed}
use Rattle.syntax_tree.specs.declared.items.States.{States}
use Rattle.syntax_tree.specs.declared.expressions.Expr.TheOpen.{Expr-F, Suffix-F}
use Rattle.syntax_tree.specs.declared.types.TypeName.TheOpen.{TypeName-F}
use Rattle.syntax_tree.specs.declared.statements.Else.TheOpen.{Else-F, Stmt-F}
use Rattle.syntax_tree.specs.declared.items.Item.TheOpen.{Item-F}
use Rattle.syntax_tree.specs.Bare.{nowhere, in_some, bare_ident, bare_quoted, bare_property, bare_callback, bare_function, bare_binding, bare_link, bare_handler, bare_changed, bare_states, bare_expr, bare_suffix, bare_field_value, bare_hole, bare_operand, bare_type, bare_field, bare_else, bare_stmt, bare_block, bare_item, bare_element, bare_for, bare_if, bare_expr_step, bare_suffix_step, bare_field_value_step, bare_hole_step, bare_operand_step, bare_type_step, bare_field_step, bare_else_step, bare_stmt_step, bare_block_step, bare_item_step, bare_element_step, bare_for_step, bare_if_step}

pub bare-expr-number : (n : Number) (span : Span) → bare_expr (exprs.Number n span) ≡ exprs.Number n nowhere
bare-expr-number n span = ap bare_expr (sym (exprs.rolls-Number n span)) ∙ fold-roll-Expr Expr Suffix FieldValue Hole Operand bare_expr_step bare_suffix_step bare_field_value_step bare_hole_step bare_operand_step (Expr-F.Number n span) ∙ exprs.rolls-Number n nowhere

pub bare-expr-colour : (c : ℕ) (span : Span) → bare_expr (exprs.Colour c span) ≡ exprs.Colour c nowhere
bare-expr-colour c span = ap bare_expr (sym (exprs.rolls-Colour c span)) ∙ fold-roll-Expr Expr Suffix FieldValue Hole Operand bare_expr_step bare_suffix_step bare_field_value_step bare_hole_step bare_operand_step (Expr-F.Colour c span) ∙ exprs.rolls-Colour c nowhere

pub bare-expr-text : (text : List ℕ) (span : Span) → bare_expr (exprs.Text text span) ≡ exprs.Text text nowhere
bare-expr-text text span = ap bare_expr (sym (exprs.rolls-Text text span)) ∙ fold-roll-Expr Expr Suffix FieldValue Hole Operand bare_expr_step bare_suffix_step bare_field_value_step bare_hole_step bare_operand_step (Expr-F.Text text span) ∙ exprs.rolls-Text text nowhere

pub bare-expr-template : (text : List ℕ) (hs : List Hole) (span : Span) → bare_expr (exprs.Template text hs span) ≡ exprs.Template text (map bare_hole hs) nowhere
bare-expr-template text hs span = ap bare_expr (sym (exprs.rolls-Template text hs span)) ∙ fold-roll-Expr Expr Suffix FieldValue Hole Operand bare_expr_step bare_suffix_step bare_field_value_step bare_hole_step bare_operand_step (Expr-F.Template text hs span) ∙ exprs.rolls-Template text (map bare_hole hs) nowhere

pub bare-expr-name : (ident : Ident) (span : Span) → bare_expr (exprs.Name ident span) ≡ exprs.Name (bare_ident ident) nowhere
bare-expr-name ident span = ap bare_expr (sym (exprs.rolls-Name ident span)) ∙ fold-roll-Expr Expr Suffix FieldValue Hole Operand bare_expr_step bare_suffix_step bare_field_value_step bare_hole_step bare_operand_step (Expr-F.Name ident span) ∙ exprs.rolls-Name (bare_ident ident) nowhere

pub bare-expr-paren : (e : Expr) (span : Span) → bare_expr (exprs.Paren e span) ≡ exprs.Paren (bare_expr e) nowhere
bare-expr-paren e span = ap bare_expr (sym (exprs.rolls-Paren e span)) ∙ fold-roll-Expr Expr Suffix FieldValue Hole Operand bare_expr_step bare_suffix_step bare_field_value_step bare_hole_step bare_operand_step (Expr-F.Paren e span) ∙ exprs.rolls-Paren (bare_expr e) nowhere

pub bare-expr-array : (es : List Expr) (span : Span) → bare_expr (exprs.Array es span) ≡ exprs.Array (map bare_expr es) nowhere
bare-expr-array es span = ap bare_expr (sym (exprs.rolls-Array es span)) ∙ fold-roll-Expr Expr Suffix FieldValue Hole Operand bare_expr_step bare_suffix_step bare_field_value_step bare_hole_step bare_operand_step (Expr-F.Array es span) ∙ exprs.rolls-Array (map bare_expr es) nowhere

pub bare-expr-struct : (fs : List FieldValue) (span : Span) → bare_expr (exprs.Struct fs span) ≡ exprs.Struct (map bare_field_value fs) nowhere
bare-expr-struct fs span = ap bare_expr (sym (exprs.rolls-Struct fs span)) ∙ fold-roll-Expr Expr Suffix FieldValue Hole Operand bare_expr_step bare_suffix_step bare_field_value_step bare_hole_step bare_operand_step (Expr-F.Struct fs span) ∙ exprs.rolls-Struct (map bare_field_value fs) nowhere

pub bare-expr-image_url : (path : Quoted) (span : Span) → bare_expr (exprs.ImageUrl path span) ≡ exprs.ImageUrl (bare_quoted path) nowhere
bare-expr-image_url path span = ap bare_expr (sym (exprs.rolls-ImageUrl path span)) ∙ fold-roll-Expr Expr Suffix FieldValue Hole Operand bare_expr_step bare_suffix_step bare_field_value_step bare_hole_step bare_operand_step (Expr-F.ImageUrl path span) ∙ exprs.rolls-ImageUrl (bare_quoted path) nowhere

pub bare-expr-tr : (context : Option Quoted) (text : Quoted) (es : List Expr) (span : Span) → bare_expr (exprs.Tr context text es span) ≡ exprs.Tr (in_some bare_quoted context) (bare_quoted text) (map bare_expr es) nowhere
bare-expr-tr context text es span = ap bare_expr (sym (exprs.rolls-Tr context text es span)) ∙ fold-roll-Expr Expr Suffix FieldValue Hole Operand bare_expr_step bare_suffix_step bare_field_value_step bare_hole_step bare_operand_step (Expr-F.Tr context text es span) ∙ exprs.rolls-Tr (in_some bare_quoted context) (bare_quoted text) (map bare_expr es) nowhere

pub bare-expr-postfix : (e : Expr) (ss : List Suffix) (span : Span) → bare_expr (exprs.Postfix e ss span) ≡ exprs.Postfix (bare_expr e) (map bare_suffix ss) nowhere
bare-expr-postfix e ss span = ap bare_expr (sym (exprs.rolls-Postfix e ss span)) ∙ fold-roll-Expr Expr Suffix FieldValue Hole Operand bare_expr_step bare_suffix_step bare_field_value_step bare_hole_step bare_operand_step (Expr-F.Postfix e ss span) ∙ exprs.rolls-Postfix (bare_expr e) (map bare_suffix ss) nowhere

pub bare-expr-prefix : (op : PrefixOp) (e : Expr) (span : Span) → bare_expr (exprs.Prefix op e span) ≡ exprs.Prefix op (bare_expr e) nowhere
bare-expr-prefix op e span = ap bare_expr (sym (exprs.rolls-Prefix op e span)) ∙ fold-roll-Expr Expr Suffix FieldValue Hole Operand bare_expr_step bare_suffix_step bare_field_value_step bare_hole_step bare_operand_step (Expr-F.Prefix op e span) ∙ exprs.rolls-Prefix op (bare_expr e) nowhere

pub bare-expr-chain : (e : Expr) (os : List Operand) (span : Span) → bare_expr (exprs.Chain e os span) ≡ exprs.Chain (bare_expr e) (map bare_operand os) nowhere
bare-expr-chain e os span = ap bare_expr (sym (exprs.rolls-Chain e os span)) ∙ fold-roll-Expr Expr Suffix FieldValue Hole Operand bare_expr_step bare_suffix_step bare_field_value_step bare_hole_step bare_operand_step (Expr-F.Chain e os span) ∙ exprs.rolls-Chain (bare_expr e) (map bare_operand os) nowhere

pub bare-expr-choice : (c : Expr) (a : Expr) (b : Expr) (span : Span) → bare_expr (exprs.Choice c a b span) ≡ exprs.Choice (bare_expr c) (bare_expr a) (bare_expr b) nowhere
bare-expr-choice c a b span = ap bare_expr (sym (exprs.rolls-Choice c a b span)) ∙ fold-roll-Expr Expr Suffix FieldValue Hole Operand bare_expr_step bare_suffix_step bare_field_value_step bare_hole_step bare_operand_step (Expr-F.Choice c a b span) ∙ exprs.rolls-Choice (bare_expr c) (bare_expr a) (bare_expr b) nowhere

pub bare-suffix-member : (ident : Ident) → bare_suffix (suffixes.Member ident) ≡ suffixes.Member (bare_ident ident)
bare-suffix-member ident = ap bare_suffix (sym (suffixes.rolls-Member ident)) ∙ fold-roll-Suffix Expr Suffix FieldValue Hole Operand bare_expr_step bare_suffix_step bare_field_value_step bare_hole_step bare_operand_step (Suffix-F.Member ident) ∙ suffixes.rolls-Member (bare_ident ident)

pub bare-suffix-call : (es : List Expr) (span : Span) → bare_suffix (suffixes.Call es span) ≡ suffixes.Call (map bare_expr es) nowhere
bare-suffix-call es span = ap bare_suffix (sym (suffixes.rolls-Call es span)) ∙ fold-roll-Suffix Expr Suffix FieldValue Hole Operand bare_expr_step bare_suffix_step bare_field_value_step bare_hole_step bare_operand_step (Suffix-F.Call es span) ∙ suffixes.rolls-Call (map bare_expr es) nowhere

pub bare-suffix-index : (e : Expr) (span : Span) → bare_suffix (suffixes.Index e span) ≡ suffixes.Index (bare_expr e) nowhere
bare-suffix-index e span = ap bare_suffix (sym (suffixes.rolls-Index e span)) ∙ fold-roll-Suffix Expr Suffix FieldValue Hole Operand bare_expr_step bare_suffix_step bare_field_value_step bare_hole_step bare_operand_step (Suffix-F.Index e span) ∙ suffixes.rolls-Index (bare_expr e) nowhere

pub bare-field_value : (name : Ident) (value : Expr) → bare_field_value (roll-FieldValue (record { name = name; value = value })) ≡ bare_field_value_step (record { name = name; value = (bare_expr value) })
bare-field_value name value = fold-roll-FieldValue Expr Suffix FieldValue Hole Operand bare_expr_step bare_suffix_step bare_field_value_step bare_hole_step bare_operand_step (record { name = name; value = value })

pub bare-hole : (value : Expr) (behind : List ℕ) → bare_hole (roll-Hole (record { value = value; behind = behind })) ≡ bare_hole_step (record { value = (bare_expr value); behind = behind })
bare-hole value behind = fold-roll-Hole Expr Suffix FieldValue Hole Operand bare_expr_step bare_suffix_step bare_field_value_step bare_hole_step bare_operand_step (record { value = value; behind = behind })

pub bare-operand : (op : BinaryOp) (right : Expr) → bare_operand (roll-Operand (record { op = op; right = right })) ≡ bare_operand_step (record { op = op; right = (bare_expr right) })
bare-operand op right = fold-roll-Operand Expr Suffix FieldValue Hole Operand bare_expr_step bare_suffix_step bare_field_value_step bare_hole_step bare_operand_step (record { op = op; right = right })

pub bare-type_name-named : (ident : Ident) → bare_type (types.Named ident) ≡ types.Named (bare_ident ident)
bare-type_name-named ident = ap bare_type (sym (types.rolls-Named ident)) ∙ fold-roll-TypeName TypeName Field bare_type_step bare_field_step (TypeName-F.Named ident) ∙ types.rolls-Named (bare_ident ident)

pub bare-type_name-array : (ty : TypeName) (span : Span) → bare_type (types.Array ty span) ≡ types.Array (bare_type ty) nowhere
bare-type_name-array ty span = ap bare_type (sym (types.rolls-Array ty span)) ∙ fold-roll-TypeName TypeName Field bare_type_step bare_field_step (TypeName-F.Array ty span) ∙ types.rolls-Array (bare_type ty) nowhere

pub bare-type_name-struct : (fs : List Field) (span : Span) → bare_type (types.Struct fs span) ≡ types.Struct (map bare_field fs) nowhere
bare-type_name-struct fs span = ap bare_type (sym (types.rolls-Struct fs span)) ∙ fold-roll-TypeName TypeName Field bare_type_step bare_field_step (TypeName-F.Struct fs span) ∙ types.rolls-Struct (map bare_field fs) nowhere

pub bare-field : (name : Ident) (ty : TypeName) → bare_field (roll-Field (record { name = name; ty = ty })) ≡ bare_field_step (record { name = name; ty = (bare_type ty) })
bare-field name ty = fold-roll-Field TypeName Field bare_type_step bare_field_step (record { name = name; ty = ty })

pub bare-else-nothing : bare_else elses.Nothing ≡ elses.Nothing
bare-else-nothing = ap bare_else (sym elses.rolls-Nothing) ∙ fold-roll-Else Else Stmt Block bare_else_step bare_stmt_step bare_block_step Else-F.Nothing ∙ elses.rolls-Nothing

pub bare-else-else_if : (e : Expr) (b : Block) (o : Else) (span : Span) → bare_else (elses.ElseIf e b o span) ≡ elses.ElseIf (bare_expr e) (bare_block b) (bare_else o) nowhere
bare-else-else_if e b o span = ap bare_else (sym (elses.rolls-ElseIf e b o span)) ∙ fold-roll-Else Else Stmt Block bare_else_step bare_stmt_step bare_block_step (Else-F.ElseIf e b o span) ∙ elses.rolls-ElseIf (bare_expr e) (bare_block b) (bare_else o) nowhere

pub bare-else-else_block : (b : Block) → bare_else (elses.ElseBlock b) ≡ elses.ElseBlock (bare_block b)
bare-else-else_block b = ap bare_else (sym (elses.rolls-ElseBlock b)) ∙ fold-roll-Else Else Stmt Block bare_else_step bare_stmt_step bare_block_step (Else-F.ElseBlock b) ∙ elses.rolls-ElseBlock (bare_block b)

pub bare-stmt-if : (e : Expr) (b : Block) (o : Else) (span : Span) → bare_stmt (stmts.If e b o span) ≡ stmts.If (bare_expr e) (bare_block b) (bare_else o) nowhere
bare-stmt-if e b o span = ap bare_stmt (sym (stmts.rolls-If e b o span)) ∙ fold-roll-Stmt Else Stmt Block bare_else_step bare_stmt_step bare_block_step (Stmt-F.If e b o span) ∙ stmts.rolls-If (bare_expr e) (bare_block b) (bare_else o) nowhere

pub bare-stmt-return : (value : Option Expr) (span : Span) → bare_stmt (stmts.Return value span) ≡ stmts.Return (in_some bare_expr value) nowhere
bare-stmt-return value span = ap bare_stmt (sym (stmts.rolls-Return value span)) ∙ fold-roll-Stmt Else Stmt Block bare_else_step bare_stmt_step bare_block_step (Stmt-F.Return value span) ∙ stmts.rolls-Return (in_some bare_expr value) nowhere

pub bare-stmt-empty : (span : Span) → bare_stmt (stmts.Empty span) ≡ stmts.Empty nowhere
bare-stmt-empty span = ap bare_stmt (sym (stmts.rolls-Empty span)) ∙ fold-roll-Stmt Else Stmt Block bare_else_step bare_stmt_step bare_block_step (Stmt-F.Empty span) ∙ stmts.rolls-Empty nowhere

pub bare-stmt-expr : (e : Expr) → bare_stmt (stmts.Expr e) ≡ stmts.Expr (bare_expr e)
bare-stmt-expr e = ap bare_stmt (sym (stmts.rolls-Expr e)) ∙ fold-roll-Stmt Else Stmt Block bare_else_step bare_stmt_step bare_block_step (Stmt-F.Expr e) ∙ stmts.rolls-Expr (bare_expr e)

pub bare-stmt-assign : (l : Expr) (op : AssignOp) (r : Expr) (span : Span) → bare_stmt (stmts.Assign l op r span) ≡ stmts.Assign (bare_expr l) op (bare_expr r) nowhere
bare-stmt-assign l op r span = ap bare_stmt (sym (stmts.rolls-Assign l op r span)) ∙ fold-roll-Stmt Else Stmt Block bare_else_step bare_stmt_step bare_block_step (Stmt-F.Assign l op r span) ∙ stmts.rolls-Assign (bare_expr l) op (bare_expr r) nowhere

pub bare-block : (stmts : List Stmt) (span : Span) → bare_block (roll-Block (record { stmts = stmts; span = span })) ≡ bare_block_step (record { stmts = (map bare_stmt stmts); span = span })
bare-block stmts span = fold-roll-Block Else Stmt Block bare_else_step bare_stmt_step bare_block_step (record { stmts = stmts; span = span })

pub bare-item-property : (x : Property) → bare_item (items.Property x) ≡ items.Property (bare_property x)
bare-item-property x = ap bare_item (sym (items.rolls-Property x)) ∙ fold-roll-Item Item Element For IfElement bare_item_step bare_element_step bare_for_step bare_if_step (Item-F.Property x) ∙ items.rolls-Property (bare_property x)

pub bare-item-callback : (x : Callback) → bare_item (items.Callback x) ≡ items.Callback (bare_callback x)
bare-item-callback x = ap bare_item (sym (items.rolls-Callback x)) ∙ fold-roll-Item Item Element For IfElement bare_item_step bare_element_step bare_for_step bare_if_step (Item-F.Callback x) ∙ items.rolls-Callback (bare_callback x)

pub bare-item-function : (x : Function) → bare_item (items.Function x) ≡ items.Function (bare_function x)
bare-item-function x = ap bare_item (sym (items.rolls-Function x)) ∙ fold-roll-Item Item Element For IfElement bare_item_step bare_element_step bare_for_step bare_if_step (Item-F.Function x) ∙ items.rolls-Function (bare_function x)

pub bare-item-binding : (x : Binding) → bare_item (items.Binding x) ≡ items.Binding (bare_binding x)
bare-item-binding x = ap bare_item (sym (items.rolls-Binding x)) ∙ fold-roll-Item Item Element For IfElement bare_item_step bare_element_step bare_for_step bare_if_step (Item-F.Binding x) ∙ items.rolls-Binding (bare_binding x)

pub bare-item-link : (x : Link) → bare_item (items.Link x) ≡ items.Link (bare_link x)
bare-item-link x = ap bare_item (sym (items.rolls-Link x)) ∙ fold-roll-Item Item Element For IfElement bare_item_step bare_element_step bare_for_step bare_if_step (Item-F.Link x) ∙ items.rolls-Link (bare_link x)

pub bare-item-handler : (x : Handler) → bare_item (items.Handler x) ≡ items.Handler (bare_handler x)
bare-item-handler x = ap bare_item (sym (items.rolls-Handler x)) ∙ fold-roll-Item Item Element For IfElement bare_item_step bare_element_step bare_for_step bare_if_step (Item-F.Handler x) ∙ items.rolls-Handler (bare_handler x)

pub bare-item-changed : (x : Changed) → bare_item (items.Changed x) ≡ items.Changed (bare_changed x)
bare-item-changed x = ap bare_item (sym (items.rolls-Changed x)) ∙ fold-roll-Item Item Element For IfElement bare_item_step bare_element_step bare_for_step bare_if_step (Item-F.Changed x) ∙ items.rolls-Changed (bare_changed x)

pub bare-item-states : (x : States) → bare_item (items.States x) ≡ items.States (bare_states x)
bare-item-states x = ap bare_item (sym (items.rolls-States x)) ∙ fold-roll-Item Item Element For IfElement bare_item_step bare_element_step bare_for_step bare_if_step (Item-F.States x) ∙ items.rolls-States (bare_states x)

pub bare-item-element : (x : Element) → bare_item (items.Element x) ≡ items.Element (bare_element x)
bare-item-element x = ap bare_item (sym (items.rolls-Element x)) ∙ fold-roll-Item Item Element For IfElement bare_item_step bare_element_step bare_for_step bare_if_step (Item-F.Element x) ∙ items.rolls-Element (bare_element x)

pub bare-item-if : (x : IfElement) → bare_item (items.If x) ≡ items.If (bare_if x)
bare-item-if x = ap bare_item (sym (items.rolls-If x)) ∙ fold-roll-Item Item Element For IfElement bare_item_step bare_element_step bare_for_step bare_if_step (Item-F.If x) ∙ items.rolls-If (bare_if x)

pub bare-item-for : (x : For) → bare_item (items.For x) ≡ items.For (bare_for x)
bare-item-for x = ap bare_item (sym (items.rolls-For x)) ∙ fold-roll-Item Item Element For IfElement bare_item_step bare_element_step bare_for_step bare_if_step (Item-F.For x) ∙ items.rolls-For (bare_for x)

pub bare-item-children : (span : Span) → bare_item (items.Children span) ≡ items.Children nowhere
bare-item-children span = ap bare_item (sym (items.rolls-Children span)) ∙ fold-roll-Item Item Element For IfElement bare_item_step bare_element_step bare_for_step bare_if_step (Item-F.Children span) ∙ items.rolls-Children nowhere

pub bare-element : (id : Option Ident) (ty : Ident) (body : List Item) → bare_element (roll-Element (record { id = id; ty = ty; body = body })) ≡ bare_element_step (record { id = id; ty = ty; body = (map bare_item body) })
bare-element id ty body = fold-roll-Element Item Element For IfElement bare_item_step bare_element_step bare_for_step bare_if_step (record { id = id; ty = ty; body = body })

pub bare-for : (item : Ident) (number : Option Ident) (model : Expr) (element : Element) (word : Span) → bare_for (roll-For (record { item = item; number = number; model = model; element = element; word = word })) ≡ bare_for_step (record { item = item; number = number; model = model; element = (bare_element element); word = word })
bare-for item number model element word = fold-roll-For Item Element For IfElement bare_item_step bare_element_step bare_for_step bare_if_step (record { item = item; number = number; model = model; element = element; word = word })

pub bare-if_element : (condition : Expr) (element : Element) (word : Span) → bare_if (roll-IfElement (record { condition = condition; element = element; word = word })) ≡ bare_if_step (record { condition = condition; element = (bare_element element); word = word })
bare-if_element condition element word = fold-roll-IfElement Item Element For IfElement bare_item_step bare_element_step bare_for_step bare_if_step (record { condition = condition; element = element; word = word })
