-- One carriage return at a line's end.
use Rattle.std.proofs.Common.{◌≡◌, ◌==◌, ℕ, ◌+◌, ◌-◌, Bool, true, false, cond, ◌&&◌, List, [], ◌∷◌, ◌++◌, length, take, drop, Option, Some, None, Bor, MatchOption, refl, sym, ap, ◌∙◌, subst, eqb, arith, length-append}
use Rattle.std.specs.Cmp.Lexicographic.{pointwise}
use Rattle.std.specs.Option.{unwrap_or}
use Rattle.std.proofs.lemmas.List.{take_at, drop_at}
use Rattle.script_lines.specs.Lines.{without_return}
use Rattle.script_lines.proofs.Trims.{snoc}

without_return-push : (front : List ℕ) (b : ℕ) → without_return (front ++ b ∷ []) ≡ cond (b == 13) front (front ++ b ∷ [])
without_return-push [] b = refl
without_return-push (x ∷ []) b = onto (b == 13)
  where
    onto : (t : Bool) → x ∷ cond t [] (b ∷ []) ≡ cond t (x ∷ []) (x ∷ b ∷ [])
    onto true = refl
    onto false = refl
without_return-push (x ∷ y ∷ ys) b = ap (λ v. x ∷ v) (without_return-push (y ∷ ys) b) ∙ onto (b == 13)
  where
    onto : (t : Bool) → x ∷ cond t (y ∷ ys) (y ∷ (ys ++ b ∷ [])) ≡ cond t (x ∷ y ∷ ys) (x ∷ y ∷ (ys ++ b ∷ []))
    onto true = refl
    onto false = refl

-- whether a line's last byte is a carriage return
abbrev ends : List ℕ → Bool
ends line = pointwise eqb (drop (length line - 1) line) (13 ∷ [])

last_is : (front : List ℕ) (b : ℕ) → ends (front ++ b ∷ []) ≡ (b == 13)
last_is front b =
    let e : drop (length (front ++ b ∷ []) - 1) (front ++ b ∷ []) ≡ b ∷ [] = drop_at front (b ∷ []) _ (omega (arith, length-append front (b ∷ []))) in
    ap (λ v. pointwise eqb v (13 ∷ [])) e ∙ and_true (b == 13)
  where
    and_true : (t : Bool) → (t && true) ≡ t
    and_true true = refl
    and_true false = refl

front_is : (front : List ℕ) (b : ℕ) → take (length (front ++ b ∷ []) - 1) (front ++ b ∷ []) ≡ front
front_is front b = take_at front (b ∷ []) _ (omega (arith, length-append front (b ∷ [])))

without_return-by : (line : List ℕ) → without_return line ≡ cond (ends line) (take (length line - 1) line) line
without_return-by [] = refl
without_return-by (x ∷ xs) =
    let s = snoc x xs in
    let P : List ℕ → Type 0 = λ v. without_return v ≡ cond (ends v) (take (length v - 1) v) v in
    subst P (sym s.2) (without_return-push s.0 s.1 ∙ (ap (λ t. cond t s.0 (s.0 ++ s.1 ∷ [])) (sym (last_is s.0 s.1)) ∙ ap (λ v. cond (ends (s.0 ++ s.1 ∷ [])) v (s.0 ++ s.1 ∷ [])) (sym (front_is s.0 s.1))))

-- what `strip_suffix` leaves of a line
pub without_return-strip : (line : Bor (List ℕ)) (r : Option (Bor (List ℕ)))
    → MatchOption r (ends line.now ≡ false) (λ x. (ends line.now ≡ true) × (x.now ≡ take (length line.now - 1) line.now) × (length x.now + 1 ≡ length line.now))
    → (unwrap_or r line).now ≡ without_return line.now
without_return-strip line None h = sym (without_return-by line.now ∙ ap (λ t. cond t (take (length line.now - 1) line.now) line.now) h)
without_return-strip line (Some x) (h, e, n) = e ∙ sym (without_return-by line.now ∙ ap (λ t. cond t (take (length line.now - 1) line.now) line.now) h)
