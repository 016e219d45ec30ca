-- The tree of each part, and how each production makes it of the trees of its places.
use Rattle.std.specs.Prelude.{ℕ, Bool, true, false, List, [], ◌∷◌, Option, Some, None}
use Rattle.slint_base.specs.declared.faults.Span.{Span}
use Rattle.slint_literals.specs.declared.numbers.Number.{Number}
use Rattle.syntax_tree.specs.Spans.{expr_span}
use Rattle.syntax_tree.specs.declared.words.Ident.{Ident as TheIdent}
use Rattle.syntax_tree.specs.declared.words.Quoted.{Quoted as TheQuoted}
use Rattle.syntax_tree.specs.declared.words.Path.{Path as ThePath}
use Rattle.syntax_tree.specs.declared.types.TypeName.{TypeName as TheTypeName}
use Rattle.syntax_tree.specs.declared.types.Field.{Field as TheField}
use Rattle.syntax_tree.specs.declared.expressions.BinaryOp.{BinaryOp as TheBinaryOp}
use Rattle.syntax_tree.specs.declared.expressions.Expr.{Expr as TheExpr}
use Rattle.syntax_tree.specs.declared.expressions.FieldValue.{FieldValue as TheFieldValue}
use Rattle.syntax_tree.specs.declared.expressions.Hole.{Hole as TheHole}
use Rattle.syntax_tree.specs.declared.expressions.Operand.{Operand as TheOperand}
use Rattle.syntax_tree.specs.declared.expressions.PrefixOp.{PrefixOp as ThePrefixOp}
use Rattle.syntax_tree.specs.declared.expressions.Suffix.{Suffix as TheSuffix}
use Rattle.syntax_tree.specs.declared.statements.AssignOp.{AssignOp as TheAssignOp}
use Rattle.syntax_tree.specs.declared.statements.Block.{Block as TheBlock}
use Rattle.syntax_tree.specs.declared.statements.Else.{Else as TheElse}
use Rattle.syntax_tree.specs.declared.statements.Stmt.{Stmt as TheStmt}
use Rattle.syntax_tree.specs.declared.statements.Value.{Value as TheValue}
use Rattle.syntax_tree.specs.declared.items.Access.{Access as TheAccess}
use Rattle.syntax_tree.specs.declared.items.Callback.{Callback as TheCallback}
use Rattle.syntax_tree.specs.declared.items.CallbackForm.{CallbackForm as TheCallbackForm}
use Rattle.syntax_tree.specs.declared.items.Change.{Change as TheChange}
use Rattle.syntax_tree.specs.declared.items.Element.{Element as TheElement}
use Rattle.syntax_tree.specs.declared.items.Function.{Function as TheFunction}
use Rattle.syntax_tree.specs.declared.items.Handler.{Handler as TheHandler}
use Rattle.syntax_tree.specs.declared.items.Item.{Item as TheItem}
use Rattle.syntax_tree.specs.declared.items.Mark.{Mark as TheMark}
use Rattle.syntax_tree.specs.declared.items.Parameter.{Parameter as TheParameter}
use Rattle.syntax_tree.specs.declared.items.PropValue.{PropValue as ThePropValue}
use Rattle.syntax_tree.specs.declared.items.Property.{Property as TheProperty}
use Rattle.syntax_tree.specs.declared.items.State.{State as TheState}
use Rattle.syntax_tree.specs.declared.files.Alias.{Alias as TheAlias}
use Rattle.syntax_tree.specs.declared.files.Decl.{Decl as TheDecl}
use Rattle.syntax_tree.specs.declared.files.FileItem.{FileItem as TheFileItem}
use Rattle.syntax_tree.specs.declared.types.TypeName.TheVariants as types
use Rattle.syntax_tree.specs.declared.expressions.BinaryOp.TheVariants as binary
use Rattle.syntax_tree.specs.declared.expressions.Expr.TheVariants as exprs
use Rattle.syntax_tree.specs.declared.expressions.PrefixOp.TheVariants as prefixes
use Rattle.syntax_tree.specs.declared.expressions.Suffix.TheVariants as suffixes
use Rattle.syntax_tree.specs.declared.statements.AssignOp.TheVariants as assign_ops
use Rattle.syntax_tree.specs.declared.statements.Else.TheVariants as elses
use Rattle.syntax_tree.specs.declared.statements.Stmt.TheVariants as stmts
use Rattle.syntax_tree.specs.declared.statements.Value.TheVariants as values
use Rattle.syntax_tree.specs.declared.items.Access.TheVariants as accesses
use Rattle.syntax_tree.specs.declared.items.CallbackForm.TheVariants as forms
use Rattle.syntax_tree.specs.declared.items.Item.TheVariants as items
use Rattle.syntax_tree.specs.declared.items.Mark.TheVariants as marks
use Rattle.syntax_tree.specs.declared.items.PropValue.TheVariants as prop_values
use Rattle.syntax_tree.specs.declared.files.Decl.TheVariants as decls
use Rattle.syntax_tree.specs.declared.files.FileItem.TheVariants as file_items
use Rattle.slint_grammar.specs.Parts.{Listed, Part, FileItems, FileItem, ImportNames, Alias, NewName, Decl, Base, Listing, Rest, Name, Field, TypeName, Body, Items, GlobalBody, GlobalItems, GlobalItem, Item, RowNumber, Element, PropertyHead, Property, PropertyEnd, Callback, CallbackHead, CallbackEnd, MayParameters, MayResult, Parameter, Function, Modifiers, Value, MaySemicolon, Handler, MayNames, Run, StateList, State, When, Changes, Path, PathRest, Block, Stmts, StmtEnd, Open, MayValue, MayAssign, AssignOp, If, MayElse, Expr, MayChoice, Logic, LogicRest, Ands, Ors, Cmp, MayCompare, CompareOp, Sum, SumRest, SumOp, Prod, ProdRest, ProdOp, Unary, PrefixOp, Post, Suffixes, Suffix, Prim, StructFields, Holes, TrText, FieldValue, Aliases, Fields, EnumValues, Parameters, FunctionParameters, HandlerParameters, Arguments, Elements, FieldValues}
use Rattle.slint_grammar.specs.Grammar.{Terminal, Sign, SignWhere, TheWord, AnyName, NameBut, ANumber, AColour, AText, AHead, AMid, ATail, Slot, one, same, deeper, Alt, slots, item}
use Rattle.slint_grammar.specs.Grammar.{Alt as alts}
use Rattle.slint_grammar.specs.Trees as t
use Rattle.slint_grammar.specs.Trees.{join, or_end, operand, chain, postfix, may_choose, block_span, if_span, return_of, assign_or_expr, if_element, for_element}

-- an item of a list
abbrev pub ItemTree : Listed → Type 0
ItemTree Aliases = TheAlias
ItemTree Fields = TheField
ItemTree EnumValues = TheIdent
ItemTree Parameters = TheParameter
ItemTree FunctionParameters = TheField
ItemTree HandlerParameters = TheIdent
ItemTree Arguments = TheExpr
ItemTree Elements = TheExpr
ItemTree FieldValues = TheFieldValue

-- the tree of a part, with the stretch of its last token where the tree around it needs that
abbrev pub Tree : Part → Type 0
Tree FileItems = List TheFileItem
Tree FileItem = TheFileItem
Tree ImportNames = Option (List TheAlias)
Tree Alias = TheAlias
Tree NewName = Option TheIdent
Tree Decl = TheDecl
Tree Base = Option TheIdent
Tree (Listing l) = List (ItemTree l) × Span
Tree (Rest l) = List (ItemTree l) × Span
Tree Name = TheIdent
Tree Field = TheField
Tree TypeName = TheTypeName
Tree Body = List TheItem
Tree Items = List TheItem
Tree GlobalBody = List TheItem
Tree GlobalItems = List TheItem
Tree GlobalItem = TheItem
Tree Item = TheItem
Tree RowNumber = Option TheIdent
Tree Element = TheElement
Tree PropertyHead = TheMark × Span
Tree Property = TheProperty
Tree PropertyEnd = ThePropValue × Span
Tree Callback = TheCallback
Tree CallbackHead = Bool × Span
Tree CallbackEnd = TheCallbackForm × Span
Tree MayParameters = Option (List TheParameter)
Tree MayResult = Option TheTypeName
Tree Parameter = TheParameter
Tree Function = TheFunction
Tree Modifiers = Bool × TheAccess
Tree Value = TheValue × Span
Tree MaySemicolon = Option Span
Tree Handler = TheHandler
Tree MayNames = Option (List TheIdent)
Tree Run = TheValue × Span
Tree StateList = List TheState
Tree State = TheState
Tree When = Option TheExpr
Tree Changes = List TheChange
Tree Path = ThePath
Tree PathRest = List TheIdent
Tree Block = TheBlock
Tree (Stmts h) = List TheStmt × Span
Tree StmtEnd = List TheStmt × Span
Tree (Open h) = TheStmt
Tree MayValue = Option TheExpr
Tree MayAssign = Option (TheAssignOp × TheExpr)
Tree AssignOp = TheAssignOp
Tree If = TheExpr × TheBlock × TheElse × Span
Tree MayElse = TheElse
Tree (Expr h) = TheExpr
Tree MayChoice = Option (TheExpr × TheExpr)
Tree (Logic h) = TheExpr
Tree LogicRest = List TheOperand
Tree Ands = List TheOperand
Tree Ors = List TheOperand
Tree (Cmp h) = TheExpr
Tree MayCompare = List TheOperand
Tree CompareOp = TheBinaryOp
Tree (Sum h) = TheExpr
Tree SumRest = List TheOperand
Tree SumOp = TheBinaryOp
Tree (Prod h) = TheExpr
Tree ProdRest = List TheOperand
Tree ProdOp = TheBinaryOp
Tree (Unary h) = TheExpr
Tree PrefixOp = ThePrefixOp × Span
Tree (Post h) = TheExpr
Tree Suffixes = List TheSuffix
Tree Suffix = TheSuffix
Tree (Prim h) = TheExpr
Tree (StructFields h) = List TheFieldValue × Span
Tree Holes = TheQuoted × List TheHole × Span
Tree TrText = Option TheQuoted × TheQuoted
Tree FieldValue = TheFieldValue

-- what a token gives, where it is what it was asked to be
abbrev pub Held : Terminal → Type 0
Held (Sign s) = Span
Held (SignWhere b s) = Span
Held (TheWord w) = Span
Held AnyName = TheIdent
Held (NameBut ws) = TheIdent
Held ANumber = Number × Span
Held AColour = ℕ × Span
Held AText = TheQuoted
Held AHead = TheQuoted
Held AMid = TheQuoted
Held ATail = TheQuoted

-- what a place of a right side gives
abbrev pub Given : Slot → Type 0
Given (one t) = Held t
Given (same p) = Tree p
Given (deeper p) = Tree p

-- what the places of a right side give
abbrev pub AllGiven : List Slot → Type 0
AllGiven [] = Unit {0}
AllGiven (x ∷ xs) = Given x × AllGiven xs

-- an item of a list as its place gives it
abbrev pub item_tree : (l : Listed) → Given (item l) → ItemTree l
item_tree Aliases a = a
item_tree Fields a = a
item_tree EnumValues a = a
item_tree Parameters a = a
item_tree FunctionParameters a = a
item_tree HandlerParameters a = a
item_tree Arguments a = a
item_tree Elements a = a
item_tree FieldValues a = a

abbrev pub made : {p : Part} → (a : Alt p) → AllGiven (slots a) → Tree p
made alts.no_more_items end = []
made alts.file_items (a, (b, end)) = a ∷ b
made alts.import_item (s0, (a, (b, (s3, end)))) = file_items.Import (record { names = a; path = b })
made alts.import_all end = None
made alts.import_names (s0, (a, (s2, end))) = Some a.0
made alts.export_list (s0, (s1, (a, (b, end)))) = file_items.Export (record { names = a.0 })
made alts.export_all (s0, (s1, (s2, (a, (s4, end))))) = file_items.ExportAll (record { path = a })
made alts.declared (a, end) = file_items.Decl false a
made alts.exported (s0, (a, end)) = file_items.Decl true a
made alts.alias (a, (b, end)) = record { name = a; alias = b }
made alts.same_name end = None
made alts.new_name (s0, (a, end)) = Some a
made alts.component (s0, (a, (b, (c, end)))) = decls.Component (record { name = a; base = b; body = c })
made alts.no_base end = None
made alts.base (s0, (a, end)) = Some a
made alts.global (s0, (a, (b, end))) = decls.Global (record { name = a; items = b })
made alts.struct_decl (s0, (a, (s2, (b, end)))) = decls.Struct (record { name = a; fields = b.0 })
made alts.enum_decl (s0, (a, (s2, (b, (c, end))))) = decls.Enum (record { name = a; values = b ∷ c.0 })
made alts.listing_closes (s0, end) = ([], s0)
made (alts.listing_item {l}) (a, (b, end)) = (item_tree l a ∷ b.0, b.1)
made alts.rest_closes (s0, end) = ([], s0)
made alts.rest_comma (s0, (a, end)) = a
made alts.listed_name (a, end) = a
made alts.field (a, (s1, (b, end))) = t.field a b
made alts.named_type (a, end) = types.Named a
made alts.array_type (s0, (a, (s2, end))) = types.Array a (join s0 s2)
made alts.struct_type (s0, (a, end)) = types.Struct a.0 (join s0 a.1)
made alts.body (s0, (a, end)) = a
made alts.items_close (s0, end) = []
made alts.items_more (a, (b, end)) = a ∷ b
made alts.global_body (s0, (a, end)) = a
made alts.global_closes (s0, end) = []
made alts.global_more (a, (b, end)) = a ∷ b
made alts.global_property (a, end) = items.Property a
made alts.global_callback (a, end) = items.Callback a
made alts.global_function (a, end) = items.Function a
made alts.global_handler (a, end) = items.Handler a
made alts.property_item (a, end) = items.Property a
made alts.callback_item (a, end) = items.Callback a
made alts.function_item (a, end) = items.Function a
made alts.binding_item (a, (s1, (b, end))) = items.Binding (record { name = a; value = b.0 })
made alts.link_item (a, (s1, (b, (s3, end)))) = items.Link (record { left = a; right = b; span = join a.span s3 })
made alts.handler_item (a, end) = items.Handler a
made alts.changed_item (s0, (a, (s2, (b, end)))) = items.Changed (record { name = a; run = b.0 })
made alts.states_item (s0, (s1, (a, end))) = items.States (record { states = a; word = s0 })
made alts.element_item (a, (b, end)) = items.Element (t.element None a b)
made alts.named_element_item (a, (s1, (b, (c, end)))) = items.Element (t.element (Some a) b c)
made alts.if_item (s0, (a, (s2, (b, end)))) = items.If (if_element a b s0)
made alts.for_item (s0, (a, (b, (s3, (c, (s5, (d, end))))))) = items.For (for_element a b c d s0)
made alts.children_item (s0, (s1, end)) = items.Children (join s0 s1)
made alts.no_row_number end = None
made alts.row_number (s0, (a, (s2, end))) = Some a
made alts.element (a, (b, end)) = t.element None a b
made alts.named_element (a, (s1, (b, (c, end)))) = t.element (Some a) b c
made alts.no_mark (s0, end) = (marks.None, s0)
made alts.private_mark (s0, (s1, end)) = (marks.Private, s0)
made alts.in_mark (s0, (s1, end)) = (marks.In, s0)
made alts.out_mark (s0, (s1, end)) = (marks.Out, s0)
made alts.in_out_mark (s0, (s1, end)) = (marks.InOut, s0)
made alts.typed_property (a, (s1, (b, (s3, (c, (d, end)))))) = record { mark = a.0; ty = Some b; name = c; value = d.0; span = join a.1 d.1 }
made alts.untyped_property (a, (b, (s2, (c, (s4, end))))) = record { mark = a.0; ty = None; name = b; value = prop_values.Link c; span = join a.1 s4 }
made alts.no_value (s0, end) = (prop_values.None, s0)
made alts.bound_value (s0, (a, end)) = (prop_values.Value a.0, a.1)
made alts.linked_value (s0, (a, (s2, end))) = (prop_values.Link a, s2)
made alts.callback (a, (b, (c, end))) = record { is_pure = a.0; name = b; form = c.0; span = join a.1 c.1 }
made alts.impure_callback (s0, end) = (false, s0)
made alts.pure_callback (s0, (s1, end)) = (true, s0)
made alts.linked_callback (s0, (a, (s2, end))) = (forms.Link a, s2)
made alts.signature (a, (b, (s2, end))) = (forms.Signature a b, s2)
made alts.no_parameters end = None
made alts.parameters (s0, (a, end)) = Some a.0
made alts.no_result end = None
made alts.result (s0, (a, end)) = Some a
made alts.named_parameter (a, (s1, (b, end))) = record { name = Some a; ty = b }
made alts.nameless_parameter (a, end) = record { name = None; ty = a }
made alts.function (a, (s1, (b, (s3, (c, (d, (e, end))))))) = record { is_pure = a.0; access = a.1; name = b; parameters = c.0; result = d; body = e }
made alts.no_modifier end = (false, accesses.None)
made alts.pure_alone (s0, end) = (true, accesses.None)
made alts.public_alone (s0, end) = (false, accesses.Public)
made alts.protected_alone (s0, end) = (false, accesses.Protected)
made alts.pure_public (s0, (s1, end)) = (true, accesses.Public)
made alts.pure_protected (s0, (s1, end)) = (true, accesses.Protected)
made alts.public_pure (s0, (s1, end)) = (true, accesses.Public)
made alts.protected_pure (s0, (s1, end)) = (true, accesses.Protected)
made alts.block_value (a, (b, end)) = (values.Block a, or_end (block_span a) b)
made alts.expr_value (a, (s1, end)) = (values.Expr a, s1)
made alts.no_semicolon end = None
made alts.semicolon (s0, end) = Some s0
made alts.handler (a, (b, (s2, (c, end)))) = record { name = a; parameters = b; run = c.0; span = join a.span c.1 }
made alts.no_names end = None
made alts.names (s0, (a, end)) = Some a.0
made alts.block_run (a, (b, end)) = (values.Block a, or_end (block_span a) b)
made alts.expr_run (a, (s1, end)) = (values.Expr a, s1)
made alts.states_close (s0, end) = []
made alts.states_more (a, (b, end)) = a ∷ b
made alts.state (a, (b, (s2, (s3, (c, end))))) = record { name = a; when = b; changes = c }
made alts.no_when end = None
made alts.when (s0, (a, end)) = Some a
made alts.changes_close (s0, end) = []
made alts.changes_more (a, (s1, (b, (c, end)))) = record { path = a; value = b.0 } ∷ c
made alts.path (a, (b, end)) = record { first = a; rest = b }
made alts.path_ends end = []
made alts.path_more (s0, (a, (b, end))) = a ∷ b
made alts.block (s0, (a, end)) = t.block a.0 (join s0 a.1)
made alts.stmts_close (s0, end) = ([], s0)
made alts.stmts_if (a, (b, end)) = (stmts.If a.0 a.1 a.2 a.3 ∷ b.0, b.1)
made alts.stmts_empty (s0, (a, end)) = (stmts.Empty s0 ∷ a.0, a.1)
made alts.stmts_more (a, (b, end)) = (a ∷ b.0, b.1)
made alts.stmt_closed (s0, (a, end)) = a
made alts.stmt_last (s0, end) = ([], s0)
made alts.return_stmt (s0, (a, end)) = return_of s0 a
made alts.no_return_value end = None
made alts.return_value (a, end) = Some a
made alts.expr_stmt (a, (b, end)) = assign_or_expr a b
made alts.no_assign end = None
made alts.assign (a, (b, end)) = Some (a, b)
made alts.plain_set (s0, end) = assign_ops.Set
made alts.set_add (s0, end) = assign_ops.Add
made alts.set_sub (s0, end) = assign_ops.Sub
made alts.set_mul (s0, end) = assign_ops.Mul
made alts.set_div (s0, end) = assign_ops.Div
made alts.an_if (s0, (a, (b, (c, end)))) = (a, b, c, if_span s0 b c)
made alts.no_else end = elses.Nothing
made alts.else_if (s0, (a, end)) = elses.ElseIf a.0 a.1 a.2 a.3
made alts.else_block (s0, (a, end)) = elses.ElseBlock a
made alts.expr (a, (b, end)) = may_choose a b
made alts.no_choice end = None
made alts.choice (s0, (a, (s2, (b, end)))) = Some (a, b)
made alts.logic (a, (b, end)) = chain a b
made alts.no_logic end = []
made alts.logic_and (s0, (a, (b, end))) = operand binary.And a ∷ b
made alts.logic_or (s0, (a, (b, end))) = operand binary.Or a ∷ b
made alts.ands_end end = []
made alts.ands_more (s0, (a, (b, end))) = operand binary.And a ∷ b
made alts.ors_end end = []
made alts.ors_more (s0, (a, (b, end))) = operand binary.Or a ∷ b
made alts.cmp (a, (b, end)) = chain a b
made alts.no_compare end = []
made alts.compare (a, (b, end)) = operand a b ∷ []
made alts.equal (s0, end) = binary.Equal
made alts.not_equal (s0, end) = binary.NotEqual
made alts.less (s0, end) = binary.Less
made alts.less_equal (s0, end) = binary.LessEqual
made alts.greater (s0, end) = binary.Greater
made alts.greater_equal (s0, end) = binary.GreaterEqual
made alts.sum (a, (b, end)) = chain a b
made alts.sum_ends end = []
made alts.sum_more (a, (b, (c, end))) = operand a b ∷ c
made alts.plus_sign (s0, end) = binary.Add
made alts.minus_sign (s0, end) = binary.Sub
made alts.prod (a, (b, end)) = chain a b
made alts.prod_ends end = []
made alts.prod_more (a, (b, (c, end))) = operand a b ∷ c
made alts.star_sign (s0, end) = binary.Mul
made alts.slash_sign (s0, end) = binary.Div
made alts.prefix (a, (b, end)) = exprs.Prefix a.0 b (join a.1 (expr_span b))
made alts.post_alone (a, end) = a
made alts.negation (s0, end) = (prefixes.Not, s0)
made alts.minus (s0, end) = (prefixes.Minus, s0)
made alts.plus (s0, end) = (prefixes.Plus, s0)
made alts.post (a, (b, end)) = postfix a b
made alts.no_suffix end = []
made alts.suffix_more (a, (b, end)) = a ∷ b
made alts.member (s0, (a, end)) = suffixes.Member a
made alts.call (s0, (a, end)) = suffixes.Call a.0 (join s0 a.1)
made alts.index (s0, (a, (s2, end))) = suffixes.Index a (join s0 s2)
made alts.number_literal (a, end) = exprs.Number a.0 a.1
made alts.colour_literal (a, end) = exprs.Colour a.0 a.1
made alts.text_literal (a, end) = exprs.Text a.text a.span
made alts.template (a, (b, (c, end))) = exprs.Template a.text (t.hole b c.0 ∷ c.1) (join a.span c.2)
made alts.name_alone (a, end) = exprs.Name a a.span
made alts.paren (s0, (a, (s2, end))) = exprs.Paren a (join s0 s2)
made alts.array (s0, (a, end)) = exprs.Array a.0 (join s0 a.1)
made alts.struct (s0, (a, end)) = exprs.Struct a.0 (join s0 a.1)
made alts.no_fields (s0, end) = ([], s0)
made alts.some_fields (a, (b, end)) = (a ∷ b.0, b.1)
made alts.image_url (s0, (s1, (s2, (a, (s4, end))))) = exprs.ImageUrl a (join s0 s4)
made alts.tr (s0, (s1, (s2, (a, (b, end))))) = exprs.Tr a.0 a.1 b.0 (join s0 b.1)
made alts.holes_end (a, end) = (a, [], a.span)
made alts.holes_more (a, (b, (c, end))) = (a, t.hole b c.0 ∷ c.1, c.2)
made alts.tr_text (a, end) = (None, a)
made alts.tr_context (a, (s1, (b, end))) = (Some a, b)
made alts.field_value (a, (s1, (b, end))) = t.field_value a b
