-- The outline of a source, in which kinds that are left out are still rough.
use Rattle.std.specs.Prelude.{ℕ, suc, List, [], ◌∷◌, map, Option, Some, None}
use Rattle.std.specs.Option.{unwrap_or}
use Rattle.slint_base.specs.declared.faults.Span.{Span}
use Rattle.syntax_tree.specs.declared.files.Component.{Component}
use Rattle.syntax_tree.specs.declared.items.For.{out-For}
use Rattle.syntax_tree.specs.declared.items.IfElement.{out-IfElement}
use Rattle.syntax_tree.specs.declared.words.Ident.{Ident}
use Rattle.element_tables.specs.declared.elements.ElementKind.TheVariants as element_kind
use Rattle.import_resolver.specs.Loaded.{FileRow}
use Rattle.source_elements.specs.Elements.{WrittenElement, HowOften, JustOnce, WhileTrue, EachRow, written_in}
use Rattle.source_scopes.specs.Declarations.{FileComponent, FileGlobal, components_of, enums_of, globals_of}
use Rattle.source_scopes.specs.Names.{element_named, file_names}
use Rattle.source_outline.specs.Members.{body_members, element_members}
use Rattle.source_outline.specs.Slots.{slot_of}
use Rattle.typed_tree.specs.declared.outlines.ComponentOutline.{ComponentOutline}
use Rattle.typed_tree.specs.declared.outlines.ElementOutline.{ElementOutline}
use Rattle.typed_tree.specs.declared.outlines.ElementType.{ElementType}
use Rattle.typed_tree.specs.declared.outlines.ElementType.TheVariants as element_type
use Rattle.typed_tree.specs.declared.outlines.FileOutline.{FileOutline}
use Rattle.typed_tree.specs.declared.outlines.GlobalOutline.{GlobalOutline}
use Rattle.typed_tree.specs.declared.outlines.Outline.{Outline}
use Rattle.typed_tree.specs.declared.outlines.Repeat.{Repeat}
use Rattle.typed_tree.specs.declared.outlines.Repeat.TheVariants as repeats

abbrev pub nothing_built_in : ElementType
nothing_built_in = element_type.BuiltIn element_kind.Empty

-- what an element is, by the name of its type; an Empty where there is none, and where the name stands for no element, which the first pass tells
abbrev pub element_ty : List FileRow → ℕ → Option Ident → ElementType
element_ty rows k None = nothing_built_in
element_ty rows k (Some name) = unwrap_or (element_named rows k name.name) nothing_built_in

-- the stretch of the name of its type; of a component without a base the component's name
abbrev pub ty_span : Ident → Option Ident → Span
ty_span component None = component.span
ty_span component (Some name) = name.span

abbrev pub repeat_of : HowOften → Repeat
repeat_of JustOnce = repeats.Once
repeat_of (WhileTrue conditional) = repeats.If (out-IfElement conditional).word
repeat_of (EachRow repeated) = repeats.For (out-For repeated).item (out-For repeated).number (out-For repeated).word

abbrev pub element_outline : List FileRow → ℕ → Ident → WrittenElement → ElementOutline
element_outline rows k component w = record {
  id = w.id;
  ty = element_ty rows k w.type_name;
  ty_span = ty_span component w.type_name;
  parent = w.parent;
  repeat = repeat_of w.repeating;
}

abbrev pub outline_with : List FileRow → ℕ → Ident → List WrittenElement → ComponentOutline
outline_with rows k name ws = record {
  name = name;
  file = k;
  members = element_members rows k 0 ws;
  elements = map (element_outline rows k name) ws;
  slot = slot_of ws;
}

abbrev pub component_outline : List FileRow → FileComponent → ComponentOutline
component_outline rows c = outline_with rows c.file c.component.name (written_in c.component)

abbrev pub global_outline : List FileRow → FileGlobal → GlobalOutline
global_outline rows g = record { name = g.global.name; file = g.file; members = body_members rows g.file 0 g.global.items }

-- the names of the files from the k-th on
abbrev pub file_outline : List FileRow → ℕ → FileOutline
file_outline rows k = record { names = file_names rows k }

abbrev pub files_from : List FileRow → ℕ → List FileRow → List FileOutline
files_from rows k [] = []
files_from rows k (row ∷ more) = file_outline rows k ∷ files_from rows (suc k) more

-- the outline in which a property that leaves its type out has the type void, and a callback that is declared by a link takes and gives nothing
abbrev pub rough_outline : List FileRow → Outline
rough_outline rows = record {
  files = files_from rows 0 rows;
  comps = map (component_outline rows) (components_of rows);
  globals = map (global_outline rows) (globals_of rows);
  enums = enums_of rows;
}
