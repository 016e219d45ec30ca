-- Lists whose items are taken from the last of the reversed list.
use Rattle.std.proofs.Common.{◌≡◌, List, [], ◌∷◌, ◌++◌, reverse, sym, ◌∙◌, ap, append_assoc}
use Rattle.std.proofs.lemmas.List.{reverse-append, reverse-reverse}

-- the last item is the first of the reversed list
pub last_first : {X : Type 0} (xs front : List X) (x : X) → xs ≡ front ++ x ∷ [] → reverse xs ≡ x ∷ reverse front
last_first xs front x e = ap reverse e ∙ reverse-append front (x ∷ [])

-- one more item behind those that are made
pub made_more : {Y : Type 0} (made more rest : List Y) (y : Y) (whole : List Y) → whole ≡ made ++ y ∷ rest → more ≡ made ++ y ∷ [] → whole ≡ more ++ rest
made_more made more rest y whole w m = w ∙ sym (append_assoc made (y ∷ []) rest) ∙ ap (λ zs. zs ++ rest) (sym m)

-- a list by its reversed one
pub by_reversed : {X : Type 0} (xs ys front : List X) (x : X) → ys ≡ reverse xs → ys ≡ front ++ x ∷ [] → xs ≡ x ∷ reverse front
by_reversed xs ys front x e h = sym (reverse-reverse xs) ∙ ap reverse (sym e) ∙ last_first ys front x h
