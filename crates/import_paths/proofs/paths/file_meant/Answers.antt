use Rattle.std.proofs.Common.{ℕ, List, ◌∙◌, ap, sym, subst, Some, None}
use Rattle.import_paths.specs.Paths.{IsBelow}
use Rattle.import_paths.proofs.Meanings.{meant_by, meant_outside}
use Rattle.import_paths.proofs.paths.file_meant.Goals as goal

pub folder_segments-requires : goal.folder_segments-requires
folder_segments-requires c = let P : List ℕ → Type 0 = λ root. IsBelow root c.args.importer.now in subst P (sym c.root_of-root.ensures) c.requires

pub returns-then-leads_outside : goal.returns-then-leads_outside
returns-then-leads_outside c = meant_outside c.args.main.now c.args.importer.now c.args.path.now c.leads_outside.result c.leads_outside.ensures c.if-leads_outside.true

pub returns-in-None : goal.returns-in-None
returns-in-None c =
    meant_by c.args.main.now c.args.importer.now c.args.path.now c.root_of-root.result.now c.in_ok-folder.folder c.leads_outside.result None
    c.leads_outside.ensures c.if-leads_outside.false c.root_of-root.ensures c.in_ok-folder.ensures (sym c.in-None.is ∙ c.in_ok-segments.ensures)

pub returns : goal.returns
returns c =
    ap (λ (name : List ℕ). Some name) c.in_ok-name.ensures
    ∙ meant_by c.args.main.now c.args.importer.now c.args.path.now c.root_of-root.result.now c.in_ok-folder.folder c.leads_outside.result (Some c.in-Some.segments)
    c.leads_outside.ensures c.if-leads_outside.false c.root_of-root.ensures c.in_ok-folder.ensures (sym c.in-Some.is ∙ c.in_ok-segments.ensures)
