-- Texts behind one another.
use Rattle.std.proofs.Common.{◌≡◌, ℕ, List, ◌++◌, ap, ◌∙◌, append_assoc}

-- three texts behind what was there
pub three_more : (a x b y c z d : List ℕ) → b ≡ a ++ x → c ≡ b ++ y → d ≡ c ++ z → d ≡ a ++ (x ++ (y ++ z))
three_more a x b y c z d e f g = g ∙ ap (λ t. t ++ z) (f ∙ ap (λ t. t ++ y) e) ∙ append_assoc (a ++ x) y z ∙ append_assoc a x (y ++ z)
