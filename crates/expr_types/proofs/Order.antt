-- The order of faults: none stands behind itself, and one that isn't behind another one isn't behind what that one isn't behind.
use Rattle.std.proofs.Common.{◌≡◌, ℕ, List, false, refl, sym, ap, ◌∙◌}
use Rattle.std.specs.declared.cmp.Ordering.{Ordering}
use Rattle.std.specs.declared.cmp.Ordering.TheVariants.{Less, Equal, Greater}
use Rattle.std.specs.Ordering.{nat_cmp, is_gt, ordering_reverse}
use Rattle.std.specs.Cmp.Lexicographic.{slice_cmp}
use Rattle.std.proofs.lemmas.Cmp.{nat_list_cmp_total, tied_itself}
use Rattle.slint_base.specs.declared.faults.Fault.{Fault}
use Rattle.fault_order.specs.Order.{NotBehind, rank}

abbrev order : List ℕ → List ℕ → Ordering
order = slice_cmp nat_cmp

turned : (x y : List ℕ) → order x y ≡ ordering_reverse (order y x)
turned x y = nat_list_cmp_total.antisymm x y

tied_right : (x y z : List ℕ) → order y z ≡ Equal → order x z ≡ order x y
tied_right x y z e = turned x z ∙ ap ordering_reverse (sym (nat_list_cmp_total.congr y z x e)) ∙ sym (turned x y)

along : (x y z : List ℕ) (o p : Ordering) → order x y ≡ o → order y z ≡ p → is_gt o ≡ false → is_gt p ≡ false → is_gt (order x z) ≡ false
along x y z Less Less e f a b = ap is_gt (nat_list_cmp_total.trans x y z e f)
along x y z Less Equal e f a b = ap is_gt (tied_right x y z f ∙ e)
along x y z Less Greater e f a b = cc
along x y z Equal p e f a b = ap is_gt (nat_list_cmp_total.congr x y z e ∙ f) ∙ b
along x y z Greater p e f a b = cc

behind_turned : (x y : List ℕ) (o : Ordering) → order x y ≡ o → (is_gt o ≡ false → ⊥) → is_gt (order y x) ≡ false
behind_turned x y Less e other = absurd (other refl)
behind_turned x y Equal e other = absurd (other refl)
behind_turned x y Greater e other = ap is_gt (turned y x ∙ ap ordering_reverse e)

pub not_behind_itself : (f : Fault) → NotBehind f f
not_behind_itself f = ap is_gt (tied_itself nat_list_cmp_total (rank f))

pub not_behind_along : (f g h : Fault) → NotBehind f g → NotBehind g h → NotBehind f h
not_behind_along f g h p q = along (rank f) (rank g) (rank h) _ _ refl refl p q

pub not_behind_turned : (f g : Fault) → (NotBehind f g → ⊥) → NotBehind g f
not_behind_turned f g other = behind_turned (rank f) (rank g) _ refl other
