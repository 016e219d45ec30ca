-- The keys that have names.
use Rattle.std.specs.Prelude.{ℕ, List, [], ◌∷◌, codes}

-- the character of each key
abbrev pub keys : List (List ℕ × ℕ)
keys = (codes "Return", 0xa) ∷ (codes "Tab", 0x9) ∷ (codes "Backspace", 0x8) ∷ (codes "Escape", 0x1b) ∷ (codes "Delete", 0x7f)
    ∷ (codes "UpArrow", 0xf700) ∷ (codes "DownArrow", 0xf701) ∷ (codes "LeftArrow", 0xf702) ∷ (codes "RightArrow", 0xf703) ∷ []
