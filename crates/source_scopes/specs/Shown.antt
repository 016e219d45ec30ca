-- What contracts see of what stands behind references.
use Rattle.std.specs.Prelude.{ℕ, List}
use Rattle.std.specs.Borrow.{Bor}
use Rattle.slint_base.specs.Names.{normal_name}
use Rattle.syntax_tree.specs.declared.files.FileItem.{FileItem}
use Rattle.import_resolver.specs.declared.loaded.SourceFile.{SourceFile}
use Rattle.import_resolver.specs.Loaded.{FileRow}
use Rattle.source_scopes.specs.declared.declarations.FileComponent.{FileComponent as ComponentThere}
use Rattle.source_scopes.specs.declared.declarations.FileGlobal.{FileGlobal as GlobalThere}
use Rattle.source_scopes.specs.declared.declarations.FileStruct.{FileStruct as StructThere}
use Rattle.source_scopes.specs.Declarations.{FileComponent, FileGlobal, FileStruct}

-- what is looked at of a file: its items, and the files that its imports mean
pub record Parts : Type 0 where
  pub items : List FileItem
  pub imports : List ℕ

abbrev pub row_parts : FileRow → Parts
row_parts row = record { items = row.tree.items; imports = row.imports }

abbrev pub source_parts : SourceFile → Parts
source_parts file = record { items = file.tree.items; imports = file.imports.items }

-- a declaration with its file
abbrev pub shown_component : ComponentThere → FileComponent
shown_component c = record { file = c.file; component = c.component.now }

abbrev pub shown_global : GlobalThere → FileGlobal
shown_global g = record { file = g.file; global = g.global.now }

abbrev pub shown_struct : StructThere → FileStruct
shown_struct s = record { file = s.file; decl = s.decl.now }

-- the name that a text in code spells
abbrev pub normal_of : Bor (List ℕ) → List ℕ
normal_of text = normal_name text.now
