-- The pieces of a translated text, by where its `{}` stand.
use Rattle.std.proofs.Common.{◌≡◌, ℕ, zero, suc, ◌<◌, ◌≤◌, Bool, true, false, List, [], ◌∷◌, ◌++◌, length, take, drop, sym, ◌∙◌, ap, refl, arith, Some, None}
use Rattle.std.specs.Prelude.{◌==◌, if◌then◌else◌}
use Rattle.std.specs.Str.Pattern.{FindsText, LacksTextAt}
use Rattle.std.proofs.lemmas.Bool.Decides.{Decides-eqb}
use Rattle.expr_rules.proofs.Zips.{made_more}
use Rattle.expr_rules.specs.Literals.{onto_first, pieces_of, pieces_with}

abbrev pub hole : List ℕ
hole = 123 ∷ 125 ∷ []

-- what a text that doesn't begin with a `{}` comes to
after_brace : (cs : List ℕ) → ((rest : List ℕ) → 123 ∷ cs ≡ hole ++ rest → ⊥) → pieces_with true cs ≡ onto_first 123 (pieces_with false cs)
after_brace [] lacks = refl
after_brace (d ∷ ds) lacks = by (d == 125) (d == 123) refl
  where
    by : (a b : Bool) → (d == 125) ≡ a
        → (if a then [] ∷ pieces_with false ds else if b then onto_first 123 (pieces_with true ds) else onto_first 123 (onto_first d (pieces_with false ds)))
        ≡ onto_first 123 (if b then pieces_with true ds else onto_first d (pieces_with false ds))
    by true b e = absurd (lacks ds (ap (λ (c : ℕ). 123 ∷ c ∷ ds) ((Decides-eqb d 125).0 e)))
    by false true e = refl
    by false false e = refl

one_more : (c : ℕ) (cs : List ℕ) → ((rest : List ℕ) → c ∷ cs ≡ hole ++ rest → ⊥) → pieces_with false (c ∷ cs) ≡ onto_first c (pieces_with false cs)
one_more c cs lacks = by (c == 123) refl
  where
    by : (b : Bool) → (c == 123) ≡ b → (if b then pieces_with true cs else onto_first c (pieces_with false cs)) ≡ onto_first c (pieces_with false cs)
    by true e =
        let is : c ≡ 123 = (Decides-eqb c 123).0 e in
        after_brace cs (λ rest h. lacks rest (ap (λ (x : ℕ). x ∷ cs) is ∙ h)) ∙ ap (λ (x : ℕ). onto_first x (pieces_with false cs)) (sym is)
    by false e = refl

-- a text without `{}` is one piece
pub one_piece : (s : List ℕ) → ((i : ℕ) → i ≤ length s → LacksTextAt hole s i) → pieces_of s ≡ s ∷ []
one_piece [] lacks = refl
one_piece (c ∷ cs) lacks = one_more c cs (lacks 0 (omega arith)) ∙ ap (onto_first c) (one_piece cs (λ i h. lacks (suc i) (omega arith)))

-- the first piece ends before the first `{}`
pub first_piece : (i : ℕ) (s rest : List ℕ) → ((k : ℕ) → k < i → LacksTextAt hole s k) → drop i s ≡ hole ++ rest → pieces_of s ≡ take i s ∷ pieces_of rest
first_piece zero s rest lacks e = ap pieces_of e
first_piece (suc i) [] rest lacks e = cc
first_piece (suc i) (c ∷ cs) rest lacks e =
    one_more c cs (lacks 0 (omega arith)) ∙ ap (onto_first c) (first_piece i cs rest (λ k h. lacks (suc k) (omega arith)) e)

-- one piece more, and the last one
pub piece_more : (s piece behind text : List ℕ) (i j : ℕ) (made more whole : List (List ℕ)) → FindsText hole s (Some (i, j)) → piece ≡ take i s → behind ≡ drop j s → text ≡ piece
    → more ≡ made ++ text ∷ [] → whole ≡ made ++ pieces_of s → whole ≡ more ++ pieces_of behind
piece_more s piece behind text i j made more whole found front back t m w =
    made_more made more (pieces_of behind) text whole
    (w ∙ ap (λ zs. made ++ zs) (first_piece i s (drop j s) found.0 found.1.split) ∙ ap (λ (p : List ℕ). made ++ p ∷ pieces_of (drop j s)) (sym (t ∙ front)) ∙ ap (λ zs. made ++ text ∷ pieces_of zs) (sym back)) m

pub last_piece : (s text : List ℕ) (made more whole : List (List ℕ)) → FindsText hole s None → text ≡ s → more ≡ made ++ text ∷ [] → whole ≡ made ++ pieces_of s → more ≡ whole
last_piece s text made more whole lacks t m w = m ∙ ap (λ (p : List ℕ). made ++ p ∷ []) t ∙ sym (w ∙ ap (λ zs. made ++ zs) (one_piece s lacks))
