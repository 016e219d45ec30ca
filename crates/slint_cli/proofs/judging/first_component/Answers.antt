use Rattle.std.proofs.Common.{ap, length, map, sym, ◌∙◌}
use Rattle.std.proofs.lemmas.List.{length-map}
use Rattle.import_resolver.specs.Loaded.{row_of, rows_of}
use Rattle.slint_cli.proofs.Judged.{found_alone, none_alone, none_by}
use Rattle.slint_cli.proofs.judging.first_component.Goals as goal

pub returns-in-Some : goal.returns-in-Some
returns-in-Some c =
    let rows = ap (λ entries. map row_of entries) (sym c.as_slice.ensures.entries ∙ c.in-Some.ensures.parts) in
    let count = length-map c.in-Some.others row_of in
    found_alone (rows_of c.args.loaded.now) (row_of (c.in-Some._name.now, c.in-Some.file.now)) (map row_of c.in-Some.others) c.is_empty.result c.component_alone.result rows
    ((λ t. count ∙ c.is_empty.ensures.0 t), (λ e. c.is_empty.ensures.1 (sym count ∙ e))) c.component_alone.ensures

pub returns-in-None : goal.returns-in-None
returns-in-None c =
    let none = none_by (length c.as_slice.result) c.in-None.ensures.found.1 in
    let count = length-map c.args.loaded.now.files.entries row_of ∙ ap length (sym c.as_slice.ensures.entries) ∙ none in
    none_alone (rows_of c.args.loaded.now) count
