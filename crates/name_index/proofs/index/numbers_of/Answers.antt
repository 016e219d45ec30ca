use Rattle.std.specs.Option.{option_copied, option_map_or}
use Rattle.std.proofs.Common.{sym, ◌∙◌, ap, Option, Vec, Global, ℕ, List, []}
use Rattle.name_index.specs.Places.{places_at}
use Rattle.name_index.proofs.index.numbers_of.Goals as goal

pub returns-in-Some : goal.returns-in-Some
returns-in-Some c =
    let items : Option (Vec ℕ Global) → List ℕ = λ o. option_map_or (λ places. places.items) o [] in
    c.as_slice.ensures.value ∙ ap (λ o. items (option_copied o)) (sym c.in-Some.is) ∙ ap items c.get.ensures.value ∙ ap (places_at c.args.numbers.now) c.as_str.ensures

pub returns-in-None : goal.returns-in-None
returns-in-None c =
    let items : Option (Vec ℕ Global) → List ℕ = λ o. option_map_or (λ places. places.items) o [] in
    ap (λ o. items (option_copied o)) (sym c.in-None.is) ∙ ap items c.get.ensures.value ∙ ap (places_at c.args.numbers.now) c.as_str.ensures
