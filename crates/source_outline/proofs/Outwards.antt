-- The names of repeaters, collected outwards.
use Rattle.std.proofs.Common.{◌≡◌, ℕ, zero, suc, List, [], ◌∷◌, ◌++◌, ◌+◌, ◌-◌, ◌<◌, ◌≤◌, Option, Some, None, refl, sym, ◌∙◌, ap, append_assoc, arith}
use Rattle.std.specs.Prelude.{slice_get}
use Rattle.std.proofs.lemmas.List.{append-nil}
use Rattle.typed_tree.specs.declared.outlines.ElementOutline.{ElementOutline}
use Rattle.typed_tree.specs.declared.scopes.RowNames.{RowNames}
use Rattle.typed_tree.specs.Elements.{parent_in, parent_of}
use Rattle.source_outline.specs.Following.{row_in, rows_within}

one_less : (n i : ℕ) → i < n → n - i ≡ suc (n - (i + 1))
one_less n i h = omega arith

pub outwards_turn : (elements : List ElementOutline) (n i e : ℕ) (around next : Option ℕ) (outline : Option ElementOutline) (rows more whole : List RowNames)
    → i < n → around ≡ Some e → outline ≡ slice_get elements e → more ≡ rows ++ row_in e outline → next ≡ parent_in outline
    → rows ++ rows_within (n - i) elements around ≡ whole → more ++ rows_within (n - (i + 1)) elements next ≡ whole
outwards_turn elements n i e around next outline rows more whole h is found added goes all =
    ap (λ ys. ys ++ rows_within (n - (i + 1)) elements next) (added ∙ ap (λ o. rows ++ row_in e o) found)
    ∙ ap (λ o. (rows ++ row_in e (slice_get elements e)) ++ rows_within (n - (i + 1)) elements o) (goes ∙ ap parent_in found)
    ∙ append_assoc rows (row_in e (slice_get elements e)) (rows_within (n - (i + 1)) elements (parent_of elements e))
    ∙ ap (λ k. rows ++ rows_within k elements (Some e)) (sym (one_less n i h))
    ∙ ap (λ o. rows ++ rows_within (n - i) elements o) (sym is)
    ∙ all

pub nothing_around : (elements : List ElementOutline) (k : ℕ) (around : Option ℕ) (rows whole : List RowNames) → around ≡ None → rows ++ rows_within k elements around ≡ whole → rows ≡ whole
nothing_around elements k around rows whole is all = sym (append-nil rows) ∙ sym (ap (λ o. rows ++ rows_within k elements o) is) ∙ all

no_steps : (elements : List ElementOutline) (around : Option ℕ) → rows_within zero elements around ≡ []
no_steps elements None = refl
no_steps elements (Some e) = refl

pub far_enough : (elements : List ElementOutline) (n i : ℕ) (around : Option ℕ) (rows whole : List RowNames) → n ≤ i → rows ++ rows_within (n - i) elements around ≡ whole → rows ≡ whole
far_enough elements n i around rows whole h all =
    let done : n - i ≡ 0 = omega arith in
    sym (append-nil rows) ∙ ap (λ ys. rows ++ ys) (sym (no_steps elements around)) ∙ ap (λ k. rows ++ rows_within k elements around) (sym done) ∙ all

pub outwards_begun : (elements : List ElementOutline) (n : ℕ) (around : Option ℕ) → [] ++ rows_within (n - 0) elements around ≡ rows_within n elements around
outwards_begun elements n around = let all_left : n - 0 ≡ n = omega arith in ap (λ k. rows_within k elements around) all_left
