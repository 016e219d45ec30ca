-- What the items of a list come to, one behind the other.
use Rattle.std.specs.Prelude.{List, [], ◌∷◌, ◌++◌}

-- what each item comes to beside those before it, where some stand before the first
abbrev pub in_turn : {A B : Type 0} → (List A → A → List B) → List A → List A → List B
in_turn f before [] = []
in_turn f before (x ∷ xs) = f before x ++ in_turn f (before ++ x ∷ []) xs
