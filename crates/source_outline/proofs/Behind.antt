-- Kinds that are left behind those of components.
use Rattle.std.proofs.Common.{◌≡◌, ℕ, List, [], ◌∷◌, ◌+◌, ◌<◌, ◌≤◌, length, drop, get_or, refl, sym, ◌∙◌, ap}
use Rattle.std.proofs.lemmas.List.{drop_all}
use Rattle.typed_tree.specs.declared.members.MemberKind.{MemberKind}
use Rattle.typed_tree.specs.declared.outlines.ComponentOutline.{ComponentOutline}
use Rattle.source_outline.specs.Following.{behind_comps}
use Rattle.source_outline.proofs.Turns.{from_item}

pub behind_turn : (comps : List ComponentOutline) (i count : ℕ) (x : ComponentOutline) (rest dropped whole : List MemberKind)
    → x ≡ get_or comps i x → i < length comps → count ≡ length x.members → dropped ≡ drop count rest
    → behind_comps rest (drop i comps) ≡ whole → behind_comps dropped (drop (i + 1) comps) ≡ whole
behind_turn comps i count x rest dropped whole e h count_is dropped_is is =
    ap (λ r. behind_comps r (drop (i + 1) comps)) (dropped_is ∙ ap (λ n. drop n rest) count_is)
    ∙ ap (λ xs. behind_comps rest xs) (sym (from_item comps i x e h))
    ∙ is

pub behind_ended : (comps : List ComponentOutline) (i : ℕ) (rest whole : List MemberKind) → length comps ≤ i → behind_comps rest (drop i comps) ≡ whole → rest ≡ whole
behind_ended comps i rest whole h is = ap (λ xs. behind_comps rest xs) (sym (drop_all i comps h)) ∙ is
