-- The members that are declared in a source, as they are written: their kinds, and the links that kinds are left out for.
use Rattle.std.specs.Prelude.{ℕ, suc, List, [], ◌∷◌, ◌++◌, map, Option, Some, None}
use Rattle.std.specs.Option.{unwrap_or}
use Rattle.slint_base.specs.declared.faults.Span.{Span}
use Rattle.slint_base.specs.declared.names.Name.{Name}
use Rattle.syntax_tree.specs.declared.items.Callback.{Callback}
use Rattle.syntax_tree.specs.declared.items.CallbackForm.{CallbackForm}
use Rattle.syntax_tree.specs.declared.items.CallbackForm.TheVariants as forms
use Rattle.syntax_tree.specs.declared.items.Element.{Element}
use Rattle.syntax_tree.specs.declared.items.For.{For}
use Rattle.syntax_tree.specs.declared.items.Function.{Function}
use Rattle.syntax_tree.specs.declared.items.IfElement.{IfElement}
use Rattle.syntax_tree.specs.declared.items.Item.{Item, out-Item}
use Rattle.syntax_tree.specs.declared.items.Item.TheOpen.{Item-F}
use Rattle.syntax_tree.specs.declared.items.Parameter.{Parameter}
use Rattle.syntax_tree.specs.declared.items.Property.{Property}
use Rattle.syntax_tree.specs.declared.items.PropValue.{PropValue}
use Rattle.syntax_tree.specs.declared.items.PropValue.TheVariants as values
use Rattle.syntax_tree.specs.declared.statements.Block.{out-Block}
use Rattle.syntax_tree.specs.declared.types.Field.{Field, out-Field}
use Rattle.syntax_tree.specs.declared.types.TypeName.{TypeName}
use Rattle.syntax_tree.specs.declared.words.Ident.{Ident}
use Rattle.syntax_tree.specs.declared.words.Path.{Path}
use Rattle.value_types.specs.declared.types.Ty.{Ty}
use Rattle.value_types.specs.declared.types.Ty.TheVariants as ty
use Rattle.import_resolver.specs.Loaded.{FileRow}
use Rattle.source_elements.specs.Elements.{WrittenElement}
use Rattle.source_scopes.specs.Types.{type_written}
use Rattle.typed_tree.specs.declared.members.Member.{Member}
use Rattle.typed_tree.specs.declared.members.MemberKind.{MemberKind}
use Rattle.typed_tree.specs.declared.members.MemberKind.TheVariants as kinds
use Rattle.typed_tree.specs.declared.members.Signature.{Signature}

-- one layer of an item
abbrev pub ItemLayer : Type 0
ItemLayer = Item-F Item Element For IfElement

-- the type that is written in a file; void where a name in it is no type, which the first pass tells
abbrev pub ty_written : List FileRow → ℕ → TypeName → Ty
ty_written rows k t = unwrap_or (type_written rows k t) ty.Void

-- void where nothing is written
abbrev pub ty_if_written : List FileRow → ℕ → Option TypeName → Ty
ty_if_written rows k None = ty.Void
ty_if_written rows k (Some t) = ty_written rows k t

-- what callbacks and functions take and give
abbrev pub parameter_ty : List FileRow → ℕ → Parameter → Ty
parameter_ty rows k p = ty_written rows k p.ty

abbrev pub parameter_tys : List FileRow → ℕ → Option (List Parameter) → List Ty
parameter_tys rows k None = []
parameter_tys rows k (Some ps) = map (parameter_ty rows k) ps

abbrev pub field_ty : List FileRow → ℕ → Field → Ty
field_ty rows k f = ty_written rows k (out-Field f).ty

abbrev pub signature : List Ty → Ty → Signature
signature parameters result = record { parameters = parameters; result = result }

-- a callback that is declared by a link has, roughly, no parameters and gives nothing
abbrev pub callback_signature : List FileRow → ℕ → CallbackForm → Signature
callback_signature rows k (forms.Link path) = signature [] ty.Void
callback_signature rows k (forms.Signature parameters result) = signature (parameter_tys rows k parameters) (ty_if_written rows k result)

abbrev pub function_signature : List FileRow → ℕ → Function → Signature
function_signature rows k f = signature (map (field_ty rows k) f.parameters) (ty_if_written rows k f.result)

-- the members, each in the body of an element. The stretch of a function goes from its name to the end of its body
abbrev pub member : Ident → ℕ → MemberKind → Span → Member
member name e kind span = record { name = name; element = e; kind = kind; span = span }

abbrev pub property_member : List FileRow → ℕ → ℕ → Property → Member
property_member rows k e p = member p.name e (kinds.Property p.mark (ty_if_written rows k p.ty)) p.span

abbrev pub callback_member : List FileRow → ℕ → ℕ → Callback → Member
callback_member rows k e c = member c.name e (kinds.Callback c.is_pure (callback_signature rows k c.form)) c.span

abbrev pub function_span : Function → Span
function_span f = record { file = f.name.span.file; start = f.name.span.start; end = (out-Block f.body).span.end }

abbrev pub function_member : List FileRow → ℕ → ℕ → Function → Member
function_member rows k e f = member f.name e (kinds.Function f.is_pure f.access (function_signature rows k f)) (function_span f)

-- the member that an item declares, if it declares one
abbrev pub member_by : List FileRow → ℕ → ℕ → ItemLayer → Option Member
member_by rows k e (Item-F.Property p) = Some (property_member rows k e p)
member_by rows k e (Item-F.Callback c) = Some (callback_member rows k e c)
member_by rows k e (Item-F.Function f) = Some (function_member rows k e f)
member_by rows k e _ = None

abbrev pub in_front : {A : Type 0} → Option A → List A → List A
in_front None xs = xs
in_front (Some x) xs = x ∷ xs

-- the members that are declared in a body, that of an element in file k
abbrev pub body_members : List FileRow → ℕ → ℕ → List Item → List Member
body_members rows k e [] = []
body_members rows k e (item ∷ items) = in_front (member_by rows k e (out-Item item)) (body_members rows k e items)

-- those of a component: element by element, and in each in the order of the text. Elements are counted from e
abbrev pub element_members : List FileRow → ℕ → ℕ → List WrittenElement → List Member
element_members rows k e [] = []
element_members rows k e (w ∷ ws) = body_members rows k e w.body ++ element_members rows k (suc e) ws

-- the links for which kinds are left out: of a property without a type, and of a callback that is declared by a link
abbrev pub value_link : PropValue → Option Path
value_link (values.Link path) = Some path
value_link _ = None

abbrev pub link_without : Option TypeName → PropValue → Option Path
link_without None value = value_link value
link_without (Some t) value = None

abbrev pub form_link : CallbackForm → Option Path
form_link (forms.Link path) = Some path
form_link (forms.Signature parameters result) = None

-- for each member that an item declares the link for which its kind is left out, if it is
abbrev pub link_by : ItemLayer → Option (Option Path)
link_by (Item-F.Property p) = Some (link_without p.ty p.value)
link_by (Item-F.Callback c) = Some (form_link c.form)
link_by (Item-F.Function f) = Some None
link_by _ = None

abbrev pub body_links : List Item → List (Option Path)
body_links [] = []
body_links (item ∷ items) = in_front (link_by (out-Item item)) (body_links items)

abbrev pub element_links : List WrittenElement → List (Option Path)
element_links [] = []
element_links (w ∷ ws) = body_links w.body ++ element_links ws
