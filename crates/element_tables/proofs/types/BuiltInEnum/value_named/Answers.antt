use Rattle.std.proofs.Common.{List, ℕ, sym, ap, ◌∙◌}
use Rattle.std.specs.List.{position}
use Rattle.std.specs.Str.{bytes_eq}
use Rattle.element_tables.proofs.Texts.{position-map}
use Rattle.element_tables.proofs.types.BuiltInEnum.value_named.Goals as goal

pub returns : goal.returns
returns c =
    let is_name = λ (value : List ℕ). bytes_eq value c.args.name.now in
    c.place_of.ensures ∙ (sym (position-map (λ text. text.now) is_name c.values.result.now) ∙ ap (position is_name) c.values.ensures)
