-- The steps of a path, one behind the other.
use Rattle.std.proofs.Common.{◌≡◌, ◌≢◌, ◌==◌, ℕ, ◌<◌, zero, suc, Bool, true, false, List, [], ◌∷◌, ◌++◌, length, get_or, Option, Some, None, refl, sym, ap, ◌∙◌, arith, append_assoc, cond}
use Rattle.std.specs.List.{slice_split, position_or_len, before_first, after_first}
use Rattle.std.specs.Option.{option_map}
use Rattle.std.proofs.lemmas.Bool.{ne_eqb}
use Rattle.std.proofs.lemmas.List.Splits.{slice_split_first}
use Rattle.slint_base.specs.Names.{normal_name}
use Rattle.slint_base.specs.Options.{onto_all}
use Rattle.script_lines.specs.declared.commands.PathStep.{PathStep}
use Rattle.script_lines.specs.Paths.{step_of, steps_of, is_path_name, path_from, path_of}

-- steps with one more behind them
abbrev with_step : Option (List PathStep) → Option PathStep → Option (List PathStep)
with_step None step = None
with_step (Some steps) None = None
with_step (Some steps) (Some step) = Some (steps ++ step ∷ [])

onto_all-with_step : (first : Option PathStep) (steps : Option (List PathStep)) (step : Option PathStep) → onto_all first (with_step steps step) ≡ with_step (onto_all first steps) step
onto_all-with_step None steps step = refl
onto_all-with_step (Some x) None step = refl
onto_all-with_step (Some x) (Some xs) None = refl
onto_all-with_step (Some x) (Some xs) (Some y) = refl

steps_of-push : (texts : List (List ℕ)) (text : List ℕ) → steps_of (texts ++ text ∷ []) ≡ with_step (steps_of texts) (step_of text)
steps_of-push [] text = one (step_of text)
  where
    one : (step : Option PathStep) → onto_all step (Some []) ≡ with_step (Some []) step
    one None = refl
    one (Some x) = refl
steps_of-push (first ∷ texts) text = ap (onto_all (step_of first)) (steps_of-push texts text) ∙ onto_all-with_step (step_of first) (steps_of texts) (step_of text)

-- a path and the steps of some texts behind it
abbrev pub longer : List PathStep → List (List ℕ) → Option (List PathStep)
longer path texts = option_map (λ steps. path ++ steps) (steps_of texts)

longer-with_step : (path : List PathStep) (steps : Option (List PathStep)) (now : List PathStep) (step : PathStep)
    → option_map (λ s. path ++ s) steps ≡ Some now → option_map (λ s. path ++ s) (with_step steps (Some step)) ≡ Some (now ++ step ∷ [])
longer-with_step path None now step h = cc
longer-with_step path (Some steps) now step h = let e : path ++ steps ≡ now = cc in ap (λ v. Some v) (sym (append_assoc path steps (step ∷ [])) ∙ ap (λ v. v ++ step ∷ []) e)

pub longer-push : (path now : List PathStep) (texts : List (List ℕ)) (text : List ℕ) (step : PathStep)
    → longer path texts ≡ Some now → step_of text ≡ Some step → longer path (texts ++ text ∷ []) ≡ Some (now ++ step ∷ [])
longer-push path now texts text step h e =
    ap (option_map (λ s. path ++ s)) (steps_of-push texts text ∙ ap (with_step (steps_of texts)) e) ∙ longer-with_step path (steps_of texts) now step h

-- where one text spells no step
onto_all-none : (step : Option PathStep) → onto_all step None ≡ None
onto_all-none None = refl
onto_all-none (Some x) = refl

steps_of-none : (texts : List (List ℕ)) (k : ℕ) (text : List ℕ) → k < length texts → text ≡ get_or texts k text → step_of text ≡ None → steps_of texts ≡ None
steps_of-none [] k text on is none = absurd (omega arith)
steps_of-none (first ∷ texts) zero text on is none = rw (sym (ap step_of is) ∙ none) refl
steps_of-none (first ∷ texts) (suc k) text on is none = ap (onto_all (step_of first)) (steps_of-none texts k text (omega arith) is none) ∙ onto_all-none (step_of first)

pub longer-none : (path : List PathStep) (texts : List (List ℕ)) (k : ℕ) (text : List ℕ) → k < length texts → text ≡ get_or texts k text → step_of text ≡ None → longer path texts ≡ None
longer-none path texts k text on is none = ap (option_map (λ s. path ++ s)) (steps_of-none texts k text on is none)

-- a path's first name, with or without steps behind it
abbrev first_of : Bool → List ℕ → List (List ℕ) → Option (List PathStep)
first_of named first others = cond named (option_map (λ steps. record { name = normal_name first; row = None } ∷ steps) (steps_of others)) None

first_of-more : (named : Bool) (first : List ℕ) (others : List (List ℕ)) (path : List PathStep) → first_of named first [] ≡ Some path → first_of named first others ≡ longer path others
first_of-more true first others path h =
    let e : record { name = normal_name first; row = None } ∷ [] ≡ path = cc in
    ap (λ p. longer p others) e
first_of-more false first others path h = cc

first_of-none : (named : Bool) (first : List ℕ) (others : List (List ℕ)) → first_of named first [] ≡ None → first_of named first others ≡ None
first_of-none true first others h = cc
first_of-none false first others h = refl

abbrev points : List ℕ → List (List ℕ)
points text = slice_split (λ b. b == 46) text

pub path_of-more : (text first others : List ℕ) (path : List PathStep) → (position_or_len (λ b. b == 46) text < length text) × (first ≡ before_first (λ b. b == 46) text) × (others ≡ after_first (λ b. b == 46) text)
    → path_from (first ∷ []) ≡ Some path → longer path (points others) ≡ path_of text
path_of-more text first others path (on, front, behind) h =
    let cut : points text ≡ first ∷ points others = slice_split_first (λ b. b == 46) text 0 on ∙ (ap (λ v. v ∷ points (after_first (λ b. b == 46) text)) (sym front) ∙ ap (λ v. first ∷ points v) (sym behind)) in
    sym (ap path_from cut ∙ first_of-more (is_path_name first) first (points others) path h)

pub path_of-none : (text first others : List ℕ) → (position_or_len (λ b. b == 46) text < length text) × (first ≡ before_first (λ b. b == 46) text) × (others ≡ after_first (λ b. b == 46) text)
    → path_from (first ∷ []) ≡ None → None ≡ path_of text
path_of-none text first others (on, front, behind) h =
    let cut : points text ≡ first ∷ points others = slice_split_first (λ b. b == 46) text 0 on ∙ (ap (λ v. v ∷ points (after_first (λ b. b == 46) text)) (sym front) ∙ ap (λ v. first ∷ points v) (sym behind)) in
    sym (ap path_from cut ∙ first_of-none (is_path_name first) first (points others) h)

-- a text without a point is one part
pub points-none : (text : List ℕ) → ((i : ℕ) → i < length text → get_or text i 0 ≢ 46) → points text ≡ text ∷ []
points-none [] h = refl
points-none (b ∷ bs) h =
    let more : points bs ≡ bs ∷ [] = points-none bs (λ i l. h (suc i) (omega arith)) in
    rw (ne_eqb b 46 (h 0 (omega arith)), more) refl
