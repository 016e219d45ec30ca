-- Trees with each stretch replaced by one: where these are the same, the trees are the same, stretches aside.
use Rattle.std.specs.Prelude.{◌≡◌, map, Option, Some, None}
use Rattle.slint_base.specs.declared.faults.Span.{Span}
use Rattle.syntax_tree.specs.declared.words.Ident.{Ident}
use Rattle.syntax_tree.specs.declared.words.Path.{Path}
use Rattle.syntax_tree.specs.declared.words.Quoted.{Quoted}
use Rattle.syntax_tree.specs.declared.types.TypeName.{TypeName, fold-TypeName, roll-TypeName}
use Rattle.syntax_tree.specs.declared.types.TypeName.TheOpen.{TypeName-F, Field-F}
use Rattle.syntax_tree.specs.declared.types.Field.{Field, fold-Field, roll-Field}
use Rattle.syntax_tree.specs.declared.expressions.Expr.{Expr, fold-Expr, roll-Expr}
use Rattle.syntax_tree.specs.declared.expressions.Expr.TheOpen.{Expr-F, Suffix-F, FieldValue-F, Hole-F, Operand-F}
use Rattle.syntax_tree.specs.declared.expressions.FieldValue.{FieldValue, fold-FieldValue, roll-FieldValue}
use Rattle.syntax_tree.specs.declared.expressions.Hole.{Hole, fold-Hole, roll-Hole}
use Rattle.syntax_tree.specs.declared.expressions.Operand.{Operand, fold-Operand, roll-Operand}
use Rattle.syntax_tree.specs.declared.expressions.Suffix.{Suffix, fold-Suffix, roll-Suffix}
use Rattle.syntax_tree.specs.declared.statements.Block.{Block, fold-Block, roll-Block}
use Rattle.syntax_tree.specs.declared.statements.Else.{Else, fold-Else, roll-Else}
use Rattle.syntax_tree.specs.declared.statements.Else.TheOpen.{Else-F, Stmt-F, Block-F}
use Rattle.syntax_tree.specs.declared.statements.Stmt.{Stmt, fold-Stmt, roll-Stmt}
use Rattle.syntax_tree.specs.declared.statements.Value.{Value}
use Rattle.syntax_tree.specs.declared.statements.Value.TheVariants as values
use Rattle.syntax_tree.specs.declared.items.Binding.{Binding}
use Rattle.syntax_tree.specs.declared.items.Callback.{Callback}
use Rattle.syntax_tree.specs.declared.items.CallbackForm.{CallbackForm}
use Rattle.syntax_tree.specs.declared.items.CallbackForm.TheVariants as forms
use Rattle.syntax_tree.specs.declared.items.Change.{Change}
use Rattle.syntax_tree.specs.declared.items.Changed.{Changed}
use Rattle.syntax_tree.specs.declared.items.Element.{Element, fold-Element, roll-Element}
use Rattle.syntax_tree.specs.declared.items.For.{For, fold-For, roll-For}
use Rattle.syntax_tree.specs.declared.items.Function.{Function}
use Rattle.syntax_tree.specs.declared.items.Handler.{Handler}
use Rattle.syntax_tree.specs.declared.items.IfElement.{IfElement, fold-IfElement, roll-IfElement}
use Rattle.syntax_tree.specs.declared.items.Item.{Item, fold-Item, roll-Item}
use Rattle.syntax_tree.specs.declared.items.Item.TheOpen.{Item-F, Element-F, For-F, IfElement-F}
use Rattle.syntax_tree.specs.declared.items.Link.{Link}
use Rattle.syntax_tree.specs.declared.items.Parameter.{Parameter}
use Rattle.syntax_tree.specs.declared.items.PropValue.{PropValue}
use Rattle.syntax_tree.specs.declared.items.PropValue.TheVariants as prop_values
use Rattle.syntax_tree.specs.declared.items.Property.{Property}
use Rattle.syntax_tree.specs.declared.items.State.{State}
use Rattle.syntax_tree.specs.declared.items.States.{States}
use Rattle.syntax_tree.specs.declared.files.Alias.{Alias}
use Rattle.syntax_tree.specs.declared.files.Component.{Component}
use Rattle.syntax_tree.specs.declared.files.Decl.{Decl}
use Rattle.syntax_tree.specs.declared.files.Decl.TheVariants as decls
use Rattle.syntax_tree.specs.declared.files.EnumDecl.{EnumDecl}
use Rattle.syntax_tree.specs.declared.files.ExportAll.{ExportAll}
use Rattle.syntax_tree.specs.declared.files.ExportList.{ExportList}
use Rattle.syntax_tree.specs.declared.files.File.{File}
use Rattle.syntax_tree.specs.declared.files.FileItem.{FileItem}
use Rattle.syntax_tree.specs.declared.files.FileItem.TheVariants as file_items
use Rattle.syntax_tree.specs.declared.files.Global.{Global}
use Rattle.syntax_tree.specs.declared.files.Import.{Import}
use Rattle.syntax_tree.specs.declared.files.StructDecl.{StructDecl}

-- the one stretch
abbrev pub nowhere : Span
nowhere = record { file = 0; start = 0; end = 0 }

-- what is optional, without its stretches
abbrev pub in_some : {A : Type 0} → (A → A) → Option A → Option A
in_some f None = None
in_some f (Some x) = Some (f x)

abbrev pub bare_ident : Ident → Ident
bare_ident ident = record { name = ident.name; span = nowhere }

abbrev pub bare_quoted : Quoted → Quoted
bare_quoted quoted = record { text = quoted.text; span = nowhere }

abbrev pub bare_path : Path → Path
bare_path path = record { first = bare_ident path.first; rest = map bare_ident path.rest }

-- types
abbrev pub bare_type_layer : TypeName-F TypeName Field → TypeName-F TypeName Field
bare_type_layer (TypeName-F.Named ident) = TypeName-F.Named (bare_ident ident)
bare_type_layer (TypeName-F.Array ty span) = TypeName-F.Array ty nowhere
bare_type_layer (TypeName-F.Struct fields span) = TypeName-F.Struct fields nowhere

abbrev pub bare_type_step : TypeName-F TypeName Field → TypeName
bare_type_step d = roll-TypeName (bare_type_layer d)

abbrev pub bare_field_step : Field-F TypeName Field → Field
bare_field_step f = roll-Field (record { name = bare_ident f.name; ty = f.ty })

abbrev pub bare_type : TypeName → TypeName
bare_type = fold-TypeName TypeName Field bare_type_step bare_field_step

abbrev pub bare_field : Field → Field
bare_field = fold-Field TypeName Field bare_type_step bare_field_step

-- expressions
abbrev pub bare_expr_layer : Expr-F Expr Suffix FieldValue Hole Operand → Expr-F Expr Suffix FieldValue Hole Operand
bare_expr_layer (Expr-F.Number n span) = Expr-F.Number n nowhere
bare_expr_layer (Expr-F.Colour c span) = Expr-F.Colour c nowhere
bare_expr_layer (Expr-F.Text text span) = Expr-F.Text text nowhere
bare_expr_layer (Expr-F.Template text holes span) = Expr-F.Template text holes nowhere
bare_expr_layer (Expr-F.Name ident span) = Expr-F.Name (bare_ident ident) nowhere
bare_expr_layer (Expr-F.Paren e span) = Expr-F.Paren e nowhere
bare_expr_layer (Expr-F.Array es span) = Expr-F.Array es nowhere
bare_expr_layer (Expr-F.Struct fs span) = Expr-F.Struct fs nowhere
bare_expr_layer (Expr-F.ImageUrl path span) = Expr-F.ImageUrl (bare_quoted path) nowhere
bare_expr_layer (Expr-F.Tr context text es span) = Expr-F.Tr (in_some bare_quoted context) (bare_quoted text) es nowhere
bare_expr_layer (Expr-F.Postfix e ss span) = Expr-F.Postfix e ss nowhere
bare_expr_layer (Expr-F.Prefix op e span) = Expr-F.Prefix op e nowhere
bare_expr_layer (Expr-F.Chain e os span) = Expr-F.Chain e os nowhere
bare_expr_layer (Expr-F.Choice c a b span) = Expr-F.Choice c a b nowhere

abbrev pub bare_suffix_layer : Suffix-F Expr Suffix FieldValue Hole Operand → Suffix-F Expr Suffix FieldValue Hole Operand
bare_suffix_layer (Suffix-F.Member ident) = Suffix-F.Member (bare_ident ident)
bare_suffix_layer (Suffix-F.Call es span) = Suffix-F.Call es nowhere
bare_suffix_layer (Suffix-F.Index e span) = Suffix-F.Index e nowhere

abbrev pub bare_expr_step : Expr-F Expr Suffix FieldValue Hole Operand → Expr
bare_expr_step d = roll-Expr (bare_expr_layer d)

abbrev pub bare_suffix_step : Suffix-F Expr Suffix FieldValue Hole Operand → Suffix
bare_suffix_step d = roll-Suffix (bare_suffix_layer d)

abbrev pub bare_field_value_step : FieldValue-F Expr Suffix FieldValue Hole Operand → FieldValue
bare_field_value_step f = roll-FieldValue (record { name = bare_ident f.name; value = f.value })

abbrev pub bare_hole_step : Hole-F Expr Suffix FieldValue Hole Operand → Hole
bare_hole_step h = roll-Hole h

abbrev pub bare_operand_step : Operand-F Expr Suffix FieldValue Hole Operand → Operand
bare_operand_step o = roll-Operand o

abbrev pub bare_expr : Expr → Expr
bare_expr = fold-Expr Expr Suffix FieldValue Hole Operand bare_expr_step bare_suffix_step bare_field_value_step bare_hole_step bare_operand_step

abbrev pub bare_suffix : Suffix → Suffix
bare_suffix = fold-Suffix Expr Suffix FieldValue Hole Operand bare_expr_step bare_suffix_step bare_field_value_step bare_hole_step bare_operand_step

abbrev pub bare_field_value : FieldValue → FieldValue
bare_field_value = fold-FieldValue Expr Suffix FieldValue Hole Operand bare_expr_step bare_suffix_step bare_field_value_step bare_hole_step bare_operand_step

abbrev pub bare_hole : Hole → Hole
bare_hole = fold-Hole Expr Suffix FieldValue Hole Operand bare_expr_step bare_suffix_step bare_field_value_step bare_hole_step bare_operand_step

abbrev pub bare_operand : Operand → Operand
bare_operand = fold-Operand Expr Suffix FieldValue Hole Operand bare_expr_step bare_suffix_step bare_field_value_step bare_hole_step bare_operand_step

-- statements
abbrev pub bare_stmt_layer : Stmt-F Else Stmt Block → Stmt-F Else Stmt Block
bare_stmt_layer (Stmt-F.If condition block otherwise span) = Stmt-F.If (bare_expr condition) block otherwise nowhere
bare_stmt_layer (Stmt-F.Return value span) = Stmt-F.Return (in_some bare_expr value) nowhere
bare_stmt_layer (Stmt-F.Empty span) = Stmt-F.Empty nowhere
bare_stmt_layer (Stmt-F.Expr e) = Stmt-F.Expr (bare_expr e)
bare_stmt_layer (Stmt-F.Assign left op right span) = Stmt-F.Assign (bare_expr left) op (bare_expr right) nowhere

abbrev pub bare_else_layer : Else-F Else Stmt Block → Else-F Else Stmt Block
bare_else_layer Else-F.Nothing = Else-F.Nothing
bare_else_layer (Else-F.ElseIf condition block otherwise span) = Else-F.ElseIf (bare_expr condition) block otherwise nowhere
bare_else_layer (Else-F.ElseBlock block) = Else-F.ElseBlock block

abbrev pub bare_stmt_step : Stmt-F Else Stmt Block → Stmt
bare_stmt_step d = roll-Stmt (bare_stmt_layer d)

abbrev pub bare_else_step : Else-F Else Stmt Block → Else
bare_else_step d = roll-Else (bare_else_layer d)

abbrev pub bare_block_step : Block-F Else Stmt Block → Block
bare_block_step b = roll-Block (record { stmts = b.stmts; span = nowhere })

abbrev pub bare_block : Block → Block
bare_block = fold-Block Else Stmt Block bare_else_step bare_stmt_step bare_block_step

abbrev pub bare_stmt : Stmt → Stmt
bare_stmt = fold-Stmt Else Stmt Block bare_else_step bare_stmt_step bare_block_step

abbrev pub bare_else : Else → Else
bare_else = fold-Else Else Stmt Block bare_else_step bare_stmt_step bare_block_step

abbrev pub bare_value : Value → Value
bare_value (values.Block block) = values.Block (bare_block block)
bare_value (values.Expr e) = values.Expr (bare_expr e)

-- the items of bodies
abbrev pub bare_prop_value : PropValue → PropValue
bare_prop_value prop_values.None = prop_values.None
bare_prop_value (prop_values.Value value) = prop_values.Value (bare_value value)
bare_prop_value (prop_values.Link path) = prop_values.Link (bare_path path)

abbrev pub bare_property : Property → Property
bare_property p = record { mark = p.mark; ty = in_some bare_type p.ty; name = bare_ident p.name; value = bare_prop_value p.value; span = nowhere }

abbrev pub bare_parameter : Parameter → Parameter
bare_parameter p = record { name = in_some bare_ident p.name; ty = bare_type p.ty }

abbrev pub bare_form : CallbackForm → CallbackForm
bare_form (forms.Link path) = forms.Link (bare_path path)
bare_form (forms.Signature parameters ty) = forms.Signature (in_some (map bare_parameter) parameters) (in_some bare_type ty)

abbrev pub bare_callback : Callback → Callback
bare_callback c = record { is_pure = c.is_pure; name = bare_ident c.name; form = bare_form c.form; span = nowhere }

abbrev pub bare_function : Function → Function
bare_function f = record { is_pure = f.is_pure; access = f.access; name = bare_ident f.name; parameters = map bare_field f.parameters; result = in_some bare_type f.result; body = bare_block f.body }

abbrev pub bare_binding : Binding → Binding
bare_binding b = record { name = bare_ident b.name; value = bare_value b.value }

abbrev pub bare_link : Link → Link
bare_link l = record { left = bare_ident l.left; right = bare_path l.right; span = nowhere }

abbrev pub bare_handler : Handler → Handler
bare_handler h = record { name = bare_ident h.name; parameters = in_some (map bare_ident) h.parameters; run = bare_value h.run; span = nowhere }

abbrev pub bare_changed : Changed → Changed
bare_changed c = record { name = bare_ident c.name; run = bare_value c.run }

abbrev pub bare_change : Change → Change
bare_change c = record { path = bare_path c.path; value = bare_value c.value }

abbrev pub bare_state : State → State
bare_state s = record { name = bare_ident s.name; when = in_some bare_expr s.when; changes = map bare_change s.changes }

abbrev pub bare_states : States → States
bare_states s = record { states = map bare_state s.states; word = nowhere }

abbrev pub bare_item_layer : Item-F Item Element For IfElement → Item-F Item Element For IfElement
bare_item_layer (Item-F.Property p) = Item-F.Property (bare_property p)
bare_item_layer (Item-F.Callback c) = Item-F.Callback (bare_callback c)
bare_item_layer (Item-F.Function f) = Item-F.Function (bare_function f)
bare_item_layer (Item-F.Binding b) = Item-F.Binding (bare_binding b)
bare_item_layer (Item-F.Link l) = Item-F.Link (bare_link l)
bare_item_layer (Item-F.Handler h) = Item-F.Handler (bare_handler h)
bare_item_layer (Item-F.Changed c) = Item-F.Changed (bare_changed c)
bare_item_layer (Item-F.States s) = Item-F.States (bare_states s)
bare_item_layer (Item-F.Element e) = Item-F.Element e
bare_item_layer (Item-F.If i) = Item-F.If i
bare_item_layer (Item-F.For f) = Item-F.For f
bare_item_layer (Item-F.Children span) = Item-F.Children nowhere

abbrev pub bare_item_step : Item-F Item Element For IfElement → Item
bare_item_step d = roll-Item (bare_item_layer d)

abbrev pub bare_element_step : Element-F Item Element For IfElement → Element
bare_element_step e = roll-Element (record { id = in_some bare_ident e.id; ty = bare_ident e.ty; body = e.body })

abbrev pub bare_for_step : For-F Item Element For IfElement → For
bare_for_step f = roll-For (record { item = bare_ident f.item; number = in_some bare_ident f.number; model = bare_expr f.model; element = f.element; word = nowhere })

abbrev pub bare_if_step : IfElement-F Item Element For IfElement → IfElement
bare_if_step i = roll-IfElement (record { condition = bare_expr i.condition; element = i.element; word = nowhere })

abbrev pub bare_item : Item → Item
bare_item = fold-Item Item Element For IfElement bare_item_step bare_element_step bare_for_step bare_if_step

abbrev pub bare_element : Element → Element
bare_element = fold-Element Item Element For IfElement bare_item_step bare_element_step bare_for_step bare_if_step

abbrev pub bare_for : For → For
bare_for = fold-For Item Element For IfElement bare_item_step bare_element_step bare_for_step bare_if_step

abbrev pub bare_if : IfElement → IfElement
bare_if = fold-IfElement Item Element For IfElement bare_item_step bare_element_step bare_for_step bare_if_step

-- the items of a file
abbrev pub bare_alias : Alias → Alias
bare_alias a = record { name = bare_ident a.name; alias = in_some bare_ident a.alias }

abbrev pub bare_import : Import → Import
bare_import i = record { names = in_some (map bare_alias) i.names; path = bare_quoted i.path }

abbrev pub bare_export : ExportList → ExportList
bare_export e = record { names = map bare_alias e.names }

abbrev pub bare_export_all : ExportAll → ExportAll
bare_export_all e = record { path = bare_quoted e.path }

abbrev pub bare_component : Component → Component
bare_component c = record { name = bare_ident c.name; base = in_some bare_ident c.base; body = map bare_item c.body }

abbrev pub bare_global : Global → Global
bare_global g = record { name = bare_ident g.name; items = map bare_item g.items }

abbrev pub bare_struct : StructDecl → StructDecl
bare_struct s = record { name = bare_ident s.name; fields = map bare_field s.fields }

abbrev pub bare_enum : EnumDecl → EnumDecl
bare_enum e = record { name = bare_ident e.name; values = map bare_ident e.values }

abbrev pub bare_decl : Decl → Decl
bare_decl (decls.Component c) = decls.Component (bare_component c)
bare_decl (decls.Global g) = decls.Global (bare_global g)
bare_decl (decls.Struct s) = decls.Struct (bare_struct s)
bare_decl (decls.Enum e) = decls.Enum (bare_enum e)

abbrev pub bare_file_item : FileItem → FileItem
bare_file_item (file_items.Import i) = file_items.Import (bare_import i)
bare_file_item (file_items.Export e) = file_items.Export (bare_export e)
bare_file_item (file_items.ExportAll e) = file_items.ExportAll (bare_export_all e)
bare_file_item (file_items.Decl exported decl) = file_items.Decl exported (bare_decl decl)

abbrev pub bare_file : File → File
bare_file file = record { items = map bare_file_item file.items }

-- the same trees, stretches aside
abbrev pub SameFile : File → File → Type 0
SameFile a b = bare_file a ≡ bare_file b
