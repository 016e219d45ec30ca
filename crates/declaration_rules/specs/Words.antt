-- The words that declarations are written with: the names of a file's scope, the names that it lists for export, and the names of types and elements that it uses.
use Rattle.std.specs.Prelude.{List, [], ◌∷◌, ◌++◌, map, Option, Some, None}
use Rattle.std.specs.List.{flat_map}
use Rattle.syntax_tree.specs.declared.files.Alias.{Alias}
use Rattle.syntax_tree.specs.declared.files.Component.{Component}
use Rattle.syntax_tree.specs.declared.files.Decl.{Decl}
use Rattle.syntax_tree.specs.declared.files.Decl.TheVariants as decls
use Rattle.syntax_tree.specs.declared.files.FileItem.{FileItem}
use Rattle.syntax_tree.specs.declared.files.FileItem.TheVariants as items
use Rattle.syntax_tree.specs.declared.items.Callback.{Callback}
use Rattle.syntax_tree.specs.declared.items.CallbackForm.{CallbackForm}
use Rattle.syntax_tree.specs.declared.items.CallbackForm.TheVariants as forms
use Rattle.syntax_tree.specs.declared.items.Element.{Element}
use Rattle.syntax_tree.specs.declared.items.For.{For}
use Rattle.syntax_tree.specs.declared.items.Function.{Function}
use Rattle.syntax_tree.specs.declared.items.IfElement.{IfElement}
use Rattle.syntax_tree.specs.declared.items.Item.{Item, out-Item}
use Rattle.syntax_tree.specs.declared.items.Item.TheOpen.{Item-F}
use Rattle.syntax_tree.specs.declared.items.Parameter.{Parameter}
use Rattle.syntax_tree.specs.declared.types.Field.{Field, fold-Field}
use Rattle.syntax_tree.specs.declared.types.TypeName.{TypeName, fold-TypeName}
use Rattle.syntax_tree.specs.declared.types.TypeName.TheOpen.{TypeName-F, Field-F}
use Rattle.syntax_tree.specs.declared.words.Ident.{Ident}
use Rattle.source_elements.specs.Elements.{WrittenElement, written_in}

-- ---- scopes and lists of exports

abbrev pub or_self : Ident → Option Ident → Ident
or_self name None = name
or_self name (Some alias) = alias

-- the name that an import or an export gets: the alias where one is written
abbrev pub given : Alias → Ident
given alias = or_self alias.name alias.alias

abbrev pub given_in : Option (List Alias) → List Ident
given_in None = []
given_in (Some names) = map given names

abbrev pub declared_word : Decl → Ident
declared_word (decls.Component component) = component.name
declared_word (decls.Global global) = global.name
declared_word (decls.Struct struct) = struct.name
declared_word (decls.Enum enum) = enum.name

-- the names that an item of a file puts into its scope
abbrev pub scope_words_of : FileItem → List Ident
scope_words_of (items.Import import) = given_in import.names
scope_words_of (items.Decl marked decl) = declared_word decl ∷ []
scope_words_of _ = []

-- the names of a file's scope, declared and imported, in the order of the text
abbrev pub scope_words : List FileItem → List Ident
scope_words = flat_map scope_words_of

abbrev pub listed : Alias → Ident
listed alias = alias.name

abbrev pub listed_words_of : FileItem → List Ident
listed_words_of (items.Export list) = map listed list.names
listed_words_of _ = []

-- the names that a file lists for export, as it knows them itself
abbrev pub listed_words : List FileItem → List Ident
listed_words = flat_map listed_words_of

-- ---- types that are written

abbrev pub same_words : List Ident → List Ident
same_words words = words

-- the names of types that a type is written with
abbrev pub type_layer : TypeName-F (List Ident) (List Ident) → List Ident
type_layer (TypeName-F.Named ident) = ident ∷ []
type_layer (TypeName-F.Array item span) = item
type_layer (TypeName-F.Struct fields span) = flat_map same_words fields

abbrev pub field_layer : Field-F (List Ident) (List Ident) → List Ident
field_layer field = field.ty

abbrev pub words_of_type : TypeName → List Ident
words_of_type = fold-TypeName (List Ident) (List Ident) type_layer field_layer

abbrev pub words_of_field : Field → List Ident
words_of_field = fold-Field (List Ident) (List Ident) type_layer field_layer

abbrev pub words_of_result : Option TypeName → List Ident
words_of_result None = []
words_of_result (Some ty) = words_of_type ty

abbrev pub words_of_parameter : Parameter → List Ident
words_of_parameter parameter = words_of_type parameter.ty

abbrev pub words_of_parameters : Option (List Parameter) → List Ident
words_of_parameters None = []
words_of_parameters (Some parameters) = flat_map words_of_parameter parameters

abbrev pub words_of_form : CallbackForm → List Ident
words_of_form (forms.Link path) = []
words_of_form (forms.Signature parameters result) = words_of_parameters parameters ++ words_of_result result

abbrev pub words_of_layer : Item-F Item Element For IfElement → List Ident
words_of_layer (Item-F.Property property) = words_of_result property.ty
words_of_layer (Item-F.Callback callback) = words_of_form callback.form
words_of_layer (Item-F.Function function) = flat_map words_of_field function.parameters ++ words_of_result function.result
words_of_layer _ = []

-- the names of types that an item of a body is written with, those of elements inside it apart
abbrev pub words_of_item : Item → List Ident
words_of_item item = words_of_layer (out-Item item)

abbrev pub words_of_body : List Item → List Ident
words_of_body = flat_map words_of_item

abbrev pub words_of_written : WrittenElement → List Ident
words_of_written written = words_of_body written.body

-- the names of types that a declaration is written with
abbrev pub type_words_of : Decl → List Ident
type_words_of (decls.Component component) = flat_map words_of_written (written_in component)
type_words_of (decls.Global global) = words_of_body global.items
type_words_of (decls.Struct struct) = flat_map words_of_field struct.fields
type_words_of (decls.Enum enum) = []

-- ---- elements that are written

abbrev pub one_if_some : Option Ident → List Ident
one_if_some None = []
one_if_some (Some word) = word ∷ []

abbrev pub word_of_written : WrittenElement → List Ident
word_of_written written = one_if_some written.type_name

-- the names of elements that a component is written with: its base, where it has one, and the types of the elements inside
abbrev pub words_of_component : Component → List Ident
words_of_component component = flat_map word_of_written (written_in component)

abbrev pub element_words_of : Decl → List Ident
element_words_of (decls.Component component) = words_of_component component
element_words_of _ = []

-- ---- the same of all declarations of a file

abbrev pub if_declared : (Decl → List Ident) → FileItem → List Ident
if_declared words (items.Decl marked decl) = words decl
if_declared words _ = []

abbrev pub type_words : List FileItem → List Ident
type_words = flat_map (if_declared type_words_of)

abbrev pub element_words : List FileItem → List Ident
element_words = flat_map (if_declared element_words_of)
