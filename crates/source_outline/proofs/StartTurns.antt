-- Where parts start, summed up in a loop.
use Rattle.std.proofs.Common.{◌≡◌, ℕ, List, [], ◌∷◌, ◌++◌, ◌+◌, ◌<◌, ◌≤◌, length, drop, get_or, refl, sym, ◌∙◌, ap, append_assoc, add-one}
use Rattle.std.proofs.lemmas.List.{append-nil, drop_all}
use Rattle.source_outline.specs.Following.{starts_from}
use Rattle.std.proofs.Math.Seq.{drop-cons}

pub starts_turn : (sizes : List ℕ) (i start sum : ℕ) (starts next whole : List ℕ) → i < length sizes → next ≡ starts ++ start ∷ [] → sum ≡ start + get_or sizes i 0
    → starts ++ starts_from start (drop i sizes) ≡ whole → next ++ starts_from sum (drop (i + 1) sizes) ≡ whole
starts_turn sizes i start sum starts next whole h added summed is =
    ap (λ ys. ys ++ starts_from sum (drop (i + 1) sizes)) added
    ∙ ap (λ n. (starts ++ start ∷ []) ++ starts_from n (drop (i + 1) sizes)) summed
    ∙ append_assoc starts (start ∷ []) (starts_from (start + get_or sizes i 0) (drop (i + 1) sizes))
    ∙ ap (λ xs. starts ++ start ∷ starts_from (start + get_or sizes i 0) xs) (ap (λ n. drop n sizes) (add-one i))
    ∙ ap (λ xs. starts ++ starts_from start xs) (sym (drop-cons sizes i 0 h))
    ∙ is

pub starts_ended : (sizes : List ℕ) (i start : ℕ) (starts whole : List ℕ) → length sizes ≤ i → starts ++ starts_from start (drop i sizes) ≡ whole → starts ≡ whole
starts_ended sizes i start starts whole h is = sym (append-nil starts) ∙ ap (λ xs. starts ++ starts_from start xs) (sym (drop_all i sizes h)) ∙ is
