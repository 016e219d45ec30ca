use Rattle.std.proofs.Common.{◌∙◌, ℕ, List, ◌∷◌, [], subst, true}
use Rattle.std.specs.String.{string_bytes}
use Rattle.std.proofs.lemmas.Map.Text.{hash_set_updates_text}
use Rattle.file_exports.specs.Names.{AddsNames}
use Rattle.file_exports.proofs.AddedNames.{adds-one}
use Rattle.file_exports.proofs.names.add_name.Goals as goal

pub returns : goal.returns
returns c =
    let old = c.args.names.now in
    let new = c.insert.new.self in
    let bytes = string_bytes c.in_ok-added.added in
    subst (λ (added : List ℕ). AddsNames old new (added ∷ [])) (c.in_ok-added.ensures.ok ∙ c.as_str.ensures)
    (adds-one old new bytes (hash_set_updates_text bytes old new true c.in_ok-insert.ensures.updates))
