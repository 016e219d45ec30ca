-- The verdict on a source: whether it is accepted, or the refusal that is told.
use Rattle.std.specs.Prelude.{◌≡◌, ℕ, List, [], ◌∷◌, Option, None, Some, slice_get}
use Rattle.slint_base.specs.declared.faults.Fault.{Fault}
use Rattle.slint_base.specs.declared.refusals.Refusal.{Refusal}
use Rattle.slint_base.specs.declared.rules.Rule.{Rule}
use Rattle.slint_base.specs.declared.rules.Rule.TheVariants.{NotBuilt}
use Rattle.source_lines.specs.Starts.{place_by}
use Rattle.import_resolver.specs.Loaded.{FileRow, rows_seen}
use Rattle.import_resolver.specs.Loads.{World as Files, Outcome as Load, Goes, Stops, LoadsMain, asked_first, refused}
use Rattle.fault_order.specs.Order.{IsFirst, NoFault}
use Rattle.typed_tree.specs.declared.trees.TypedTree.{TypedTree}
use Rattle.type_resolver.specs.Resolves.{IsBroken, IsResolved}
use Rattle.loop_check.specs.Purity.{PurityFault}
use Rattle.first_evaluator.specs.declared.trees.FirstFile.{FirstFile}
use Rattle.first_evaluator.specs.First.{first_source}

pub data Verdict : Type 0 where
  accepted : FirstFile → Verdict
  rejected : Refusal → Verdict

-- ---- refusals

-- the refusal of a source as a whole: at the start of its main file
abbrev pub at_main : Rule → List ℕ → Refusal
at_main rule main = refused rule (asked_first main)

-- the refusal for a fault in a file: the file's name, and the places of the fault's stretch by the starts of the file's lines
abbrev pub refusal_at : List ℕ → Option FileRow → Fault → Refusal
refusal_at main None f = at_main f.rule main
refusal_at main (Some row) f = record { rule = f.rule; file = row.name; from = place_by row.starts f.span.start; to = place_by row.starts f.span.end }

-- the same for a fault in the one of these files whose number it has
abbrev pub refusal_in : List ℕ → List FileRow → Fault → Refusal
refusal_in main rows f = refusal_at main (slice_get rows f.span.file) f

-- ---- loaded files

-- the fault that is told of loaded files: the one of their names and types, or else the first one of their purity
pub data SourceFault (rows : List FileRow) (named : Option (List ℕ)) (f : Fault) : Type 0 where
  of_names : IsBroken rows named f → SourceFault rows named f
  of_purity : {tree : TypedTree} → IsResolved rows named tree → IsFirst (PurityFault tree) f → SourceFault rows named f

-- loaded files have no such fault
pub data IsSound (rows : List FileRow) (named : Option (List ℕ)) : Type 0 where
  sound : {tree : TypedTree} → IsResolved rows named tree → NoFault (PurityFault tree) → IsSound rows named

-- a source in the first language, which has one file
abbrev pub first_alone : List FileRow → Option FirstFile
first_alone [] = None
first_alone (row ∷ []) = first_source row.tree
first_alone (row ∷ other ∷ others) = None

-- the verdict on a source without a fault, by what it is in the language as far as it is run
abbrev pub if_first : List ℕ → Option FirstFile → Verdict
if_first main None = rejected (at_main NotBuilt main)
if_first main (Some file) = accepted file

-- the verdict on loaded files, the first of which is the main one, where a component of this name may be asked for
pub data FilesHave (main : List ℕ) (named : Option (List ℕ)) (rows : List FileRow) (v : Verdict) : Type 0 where
  with_fault : {f : Fault} → SourceFault rows named f → v ≡ rejected (refusal_in main rows f) → FilesHave main named rows v
  without_fault : IsSound rows named → v ≡ if_first main (first_alone rows) → FilesHave main named rows v

-- ---- sources

-- the verdict on a source whose load comes to this
abbrev pub LoadHas : List ℕ → Option (List ℕ) → Load → Verdict → Type 0
LoadHas main named (Goes s) v = FilesHave main named (rows_seen main s.seen) v
LoadHas main named (Stops refusal) v = v ≡ rejected refusal

-- the verdict on the source of this main file, given the files that there are
abbrev pub HasVerdict : Files → List ℕ → Option (List ℕ) → Verdict → Type 0
HasVerdict w main named v = (o : Load) × LoadsMain w main o × LoadHas main named o v
