-- Faults of other rules than the one on missing files, and lists of them.
use Rattle.std.specs.List.{flat_map}
use Rattle.std.proofs.Common.{if◌then◌else◌, ◌≡◌, ℕ, zero, suc, Bool, true, false, List, [], ◌∷◌, ◌++◌, Contains, sym, ap, ◌∙◌, subst, arith}
use Rattle.slint_base.specs.declared.faults.Fault.{Fault}
use Rattle.slint_base.specs.declared.rules.Rule.{Rule}
use Rattle.slint_base.specs.declared.rules.Rule.TheVariants as rules
use Rattle.fault_order.specs.Order.{numbered}

abbrev pub is_missing : Rule → Bool
is_missing rules.FileMissing = true
is_missing _ = false

abbrev pub IsOther : Fault → Type 0
IsOther f = is_missing f.rule ≡ false

pub not_missing : (rule : Rule) → is_missing rule ≡ false → rule ≡ rules.FileMissing → ⊥
not_missing rule other e = let p : true ≡ false = sym (ap is_missing e) ∙ other in cc

pub data AllOther : List Fault → Type 0 where
  none : AllOther []
  more : {f : Fault} {fs : List Fault} → IsOther f → AllOther fs → AllOther (f ∷ fs)

pub one : {f : Fault} → IsOther f → AllOther (f ∷ [])
one p = more p none

pub both : {fs gs : List Fault} → AllOther fs → AllOther gs → AllOther (fs ++ gs)
both none q = q
both (more p ps) q = more p (both ps q)

pub first : (fs gs : List Fault) → AllOther (fs ++ gs) → AllOther fs
first [] gs p = none
first (f ∷ fs) gs (more p ps) = more p (first fs gs ps)

pub second : (fs gs : List Fault) → AllOther (fs ++ gs) → AllOther gs
second [] gs p = p
second (f ∷ fs) gs (more p ps) = second fs gs ps

pub flat : {A : Type 0} (f : A → List Fault) → ((x : A) → AllOther (f x)) → (xs : List A) → AllOther (flat_map f xs)
flat f p [] = none
flat f p (x ∷ xs) = both (p x) (flat f p xs)

pub counted : {A : Type 0} (f : ℕ → A → List Fault) → ((n : ℕ) (x : A) → AllOther (f n x)) → (n : ℕ) (xs : List A) → AllOther (numbered f n xs)
counted f p n [] = none
counted f p n (x ∷ xs) = both (p n x) (counted f p (suc n) xs)

pub if_either : (b : Bool) (fs gs : List Fault) → AllOther fs → AllOther gs → AllOther (if b then fs else gs)
if_either true fs gs p q = p
if_either false fs gs p q = q

pub other_of : (fs : List Fault) (f : Fault) → AllOther fs → Contains fs f → IsOther f
other_of [] f p (k, within, is) = absurd (omega (arith, within))
other_of (g ∷ fs) f (more p ps) (zero, within, is) = subst IsOther is p
other_of (g ∷ fs) f (more p ps) (suc k, within, is) = other_of fs f ps (k, omega (arith, within), is)
