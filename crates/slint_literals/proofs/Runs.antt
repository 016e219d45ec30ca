-- Walks over the insides of strings.
use Rattle.std.proofs.Common.{◌≡◌, ℕ, zero, suc, ◌+◌, ◌<◌, ◌≤◌, Option, Some, None, List, [], length, drop, refl, sym, ap, ◌∙◌, subst, arith}
use Rattle.std.proofs.lemmas.List.{drop-drop, length-drop}
use Rattle.slint_literals.specs.Steps.{Steps, still, onward}
use Rattle.slint_literals.specs.Strings.{text_step, Takes, IsRun}

-- a walk and one step more
pub steps_snoc : {X : Type 0} (step : X → Option X) (x y z : X) → Steps step x y → step y ≡ Some z → Steps step x z
steps_snoc step x y z (still _) h = onward x z z h (still z)
steps_snoc step x y z (onward _ w _ first others) h = onward x w z first (steps_snoc step w y z others h)

-- a walk and a walk
pub steps_join : {X : Type 0} (step : X → Option X) (x y z : X) → Steps step x y → Steps step y z → Steps step x z
steps_join step x y z (still _) h = h
steps_join step x y z (onward _ w _ first others) h = onward x w z first (steps_join step w y z others h)

-- two walks from one place that both can't go on have come to one place
pub steps_same : {X : Type 0} (step : X → Option X) (x y z : X) → Steps step x y → Steps step x z → step y ≡ None → step z ≡ None → y ≡ z
steps_same step x y z (still _) (still _) a b = refl
steps_same step x y z (still _) (onward _ w _ first others) a b = let e : None ≡ Some w = sym a ∙ first in cc
steps_same step x y z (onward _ w _ first others) (still _) a b = let e : None ≡ Some w = sym b ∙ first in cc
steps_same step x y z (onward _ w _ first others) (onward _ v _ one more_of) a b =
    let e : Some w ≡ Some v = sym first ∙ one in
    let same : v ≡ w = cc in
    steps_same step w y z others (subst (λ u. Steps step u z) same more_of) a b

-- the bytes up to a place spell a text
pub record Read (bytes text : List ℕ) (at : ℕ) : Type 0 where
  pub within : at ≤ length bytes
  pub spelled : Steps text_step ([], bytes) (text, drop at bytes)

pub read_none : (bytes text : List ℕ) → text ≡ [] → Read bytes text 0
read_none bytes text h = record { within = omega arith; spelled = subst (λ t. Steps text_step ([], bytes) (t, bytes)) (sym h) (still ([], bytes)) }

pub read_more : (bytes text after s : List ℕ) (at n : ℕ) → s ≡ drop at bytes → Read bytes text at → n ≤ length s → 0 < n → Takes text s after n → Read bytes after (at + n)
read_more bytes text after s at zero e r w p t = absurd (omega arith)
read_more bytes text after s at (suc n) e r w p t = record {
  within = omega (arith, length-drop at bytes, r.within, ap length e);
  spelled =
      subst (λ x. Steps text_step ([], bytes) (after, x)) (ap (drop (suc n)) e ∙ drop-drop (suc n) at bytes)
      (steps_snoc text_step ([], bytes) (text, s) (after, drop (suc n) s) (subst (λ x. Steps text_step ([], bytes) (text, x)) (sym e) r.spelled) t);
}

pub read_run : (bytes text same after s : List ℕ) (at : ℕ) → s ≡ drop at bytes → Read bytes text at → Takes text s after 0 → same ≡ after → IsRun bytes same (drop at bytes)
read_run bytes text same after s at e r t f =
    let text_is : text ≡ same = sym t.1 ∙ sym f in
    subst (λ x. IsRun bytes x (drop at bytes)) text_is (record { spelled = r.spelled; ended = ap (λ x. text_step (text, x)) (sym e) ∙ t.0 })
