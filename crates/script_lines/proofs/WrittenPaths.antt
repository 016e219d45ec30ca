-- A path that is written out is read as itself.
use Rattle.std.proofs.Common.{◌≡◌, ◌==◌, ℕ, ◌<◌, ◌≤◌, ◌^◌, suc, Bool, true, false, cond, ◌||◌, nat_lt, nat_le, List, [], ◌∷◌, ◌++◌, length, get_or, map, Option, Some, None, IfSome, refl, sym, ap, ◌∙◌, arith, rules, tests, inl, inr, append-nil, eq-eqb}
use Rattle.std.specs.List.{All, list_all, slice_split}
use Rattle.std.specs.Option.{option_map}
use Rattle.std.specs.Char.{is_ascii_digit}
use Rattle.std.specs.Fmt.{decimal}
use Rattle.std.specs.Str.{IsUtf8, NonePass, NoCharPasses, chars}
use Rattle.std.proofs.lemmas.Bool.{and_parts, false≢true, ne_eqb}
use Rattle.std.proofs.lemmas.Bool.Decides.{eqb_tells}
use Rattle.std.proofs.lemmas.Fmt.{digits_value-decimal, digits_decimal, length-decimal-le, decimal_nonempty}
use Rattle.std.proofs.lemmas.List.Elements.{All-nil, All-cons, All-append, All-head, All-tail}
use Rattle.std.proofs.lemmas.List.Splits.{slice_split_at, slice_split_none}
use Rattle.std.proofs.lemmas.Str.{NoCharPasses-byte, encodes-chars}
use Rattle.unicode_ident.specs.Ident.{is_xid_start, is_xid_continue}
use Rattle.unicode_ident.proofs.IdentLemmas.{is_xid_continue-ascii, is_xid_start-ascii}
use Rattle.slint_base.specs.Options.{onto_all}
use Rattle.slint_base.specs.Names.{normal_name}
use Rattle.script_lines.specs.declared.commands.PathStep.{PathStep}
use Rattle.script_lines.specs.Paths.{are_name_chars, is_path_name, before_bracket, from_bracket, row_of, row_number, bracketed, step_of, steps_of, path_from, path_of}
use Rattle.script_lines.specs.Written.{row_text, step_text, path_text, IsStep, IsPath}
use Rattle.script_lines.proofs.Ints.{digits_model}
use Rattle.script_lines.proofs.Rows.{Lacks, before_close-push, before_bracket-at, from_bracket-at, before_bracket-none, from_bracket-none}

-- ---- a character that stands in no name

abbrev goes_on : ℕ → Bool
goes_on d = is_xid_continue d || d == 45

abbrev begins : ℕ → Bool
begins c = is_xid_start c || c == 95

-- the character neither begins a name nor goes on in one
record StandsInNoName (stop : ℕ) : Type 0 where
  low : stop < 128
  no_start : begins stop ≡ false
  no_part : goes_on stop ≡ false

point_stands_in_none : StandsInNoName 46
point_stands_in_none = record {
  low = omega arith;
  no_start = ap (λ b. b || (46 == 95)) (is_xid_start-ascii 46 (omega arith));
  no_part = ap (λ b. b || (46 == 45)) (is_xid_continue-ascii 46 (omega arith));
}

bracket_stands_in_none : StandsInNoName 91
bracket_stands_in_none = record {
  low = omega arith;
  no_start = ap (λ b. b || (91 == 95)) (is_xid_start-ascii 91 (omega arith));
  no_part = ap (λ b. b || (91 == 45)) (is_xid_continue-ascii 91 (omega arith));
}

-- what passes a test differs from what doesn't
differs : (test : ℕ → Bool) (c stop : ℕ) → test c ≡ true → test stop ≡ false → (c == stop) ≡ false
differs test c stop passes fails = elim (eqb_tells c stop) [ inl t ↦ absurd (false≢true (sym fails ∙ sym (ap test t.1) ∙ passes)) | inr f ↦ f.0 ]

none_among : (stop : ℕ) → StandsInNoName stop → (cs : List ℕ) → list_all goes_on cs ≡ true → NonePass (λ c. c == stop) cs
none_among stop s [] all = tt
none_among stop s (c ∷ cs) all =
    let parts = and_parts (goes_on c) (list_all goes_on cs) all in
    (differs goes_on c stop parts.0 s.no_part, none_among stop s cs parts.1)

none_in_name : (stop : ℕ) → StandsInNoName stop → (cs : List ℕ) → are_name_chars cs ≡ true → NonePass (λ c. c == stop) cs
none_in_name stop s [] named = tt
none_in_name stop s (c ∷ cs) named =
    let parts = and_parts (begins c) (list_all goes_on cs) named in
    (differs begins c stop parts.0 s.no_start, none_among stop s cs parts.1)

-- so its byte stands in no name
name_lacks : (stop : ℕ) → StandsInNoName stop → (name : List ℕ) → IsUtf8 name → is_path_name name ≡ true → Lacks stop name
name_lacks stop s name text named = λ i within at.
    let none : NoCharPasses (λ c. c == stop) name = (chars name, encodes-chars name text, none_in_name stop s (chars name) named) in
    let low : get_or name i 0 < 128 = let h = s.low in omega (arith, at, h) in
    absurd (false≢true (sym (NoCharPasses-byte (λ c. c == stop) name i none within low) ∙ eq-eqb (get_or name i 0) stop at))

-- ---- a part has no point

abbrev HasNoPoint : List ℕ → Type 0
HasNoPoint text = All (λ b. (b == 46) ≡ false) text

no_point_cons : (b : ℕ) (bs : List ℕ) → (b == 46) ≡ false → HasNoPoint bs → HasNoPoint (b ∷ bs)
no_point_cons b bs first others = All-cons (λ (x : ℕ). (x == 46) ≡ false) b bs first others

no_point_from : (xs : List ℕ) → Lacks 46 xs → HasNoPoint xs
no_point_from [] lacks = All-nil (λ (x : ℕ). (x == 46) ≡ false)
no_point_from (x ∷ xs) lacks = no_point_cons x xs (ne_eqb x 46 (lacks 0 (omega arith))) (no_point_from xs (λ i l. lacks (suc i) (omega arith)))

digits_no_point : (ds : List ℕ) → list_all is_ascii_digit ds ≡ true → HasNoPoint ds
digits_no_point [] all = All-nil (λ (x : ℕ). (x == 46) ≡ false)
digits_no_point (d ∷ ds) all =
    let parts = and_parts (is_ascii_digit d) (list_all is_ascii_digit ds) all in
    no_point_cons d ds (differs is_ascii_digit d 46 parts.0 refl) (digits_no_point ds parts.1)

-- a row number has digits alone
short_row : (row : ℕ) → row < 10 ^ 9 → row < 2 ^ 64
short_row row short = omega (arith, short)

row_digits : (row : ℕ) → row < 10 ^ 9 → list_all is_ascii_digit (decimal row) ≡ true
row_digits row short = digits_decimal digits_model row (short_row row short)

row_no_point : (row : Option ℕ) → IfSome row (λ r. r < 10 ^ 9) → HasNoPoint (row_text row)
row_no_point None short = All-nil (λ (x : ℕ). (x == 46) ≡ false)
row_no_point (Some row) short =
    no_point_cons 91 (decimal row ++ 93 ∷ []) refl
    (All-append (λ (x : ℕ). (x == 46) ≡ false) (decimal row) (93 ∷ []) (digits_no_point (decimal row) (row_digits row short))
    (no_point_cons 93 [] refl (All-nil (λ (x : ℕ). (x == 46) ≡ false))))

step_no_point : (step : PathStep) → IsStep step → HasNoPoint (step_text step)
step_no_point step s =
    All-append (λ (x : ℕ). (x == 46) ≡ false) step.name (row_text step.row) (no_point_from step.name (name_lacks 46 point_stands_in_none step.name s.text s.name)) (row_no_point step.row s.row)

-- so a path is cut at its points
points-path_text : (step : PathStep) (steps : List PathStep) → IsStep step → All IsStep steps → slice_split (λ b. b == 46) (path_text (step ∷ steps)) ≡ step_text step ∷ map step_text steps
points-path_text step [] s all = slice_split_none (λ b. b == 46) (step_text step) (step_no_point step s)
points-path_text step (next ∷ steps) s all =
    slice_split_at (λ b. b == 46) (step_text step) 46 (path_text (next ∷ steps)) (step_no_point step s) refl
    ∙ ap (λ ps. step_text step ∷ ps) (points-path_text next steps (All-head IsStep next steps all) (All-tail IsStep next steps all))

-- ---- a step is read as itself

row_number-decimal : (row : ℕ) → row < 10 ^ 9 → row_number (decimal row) ≡ Some row
row_number-decimal row short =
    let wide = short_row row short in
    let some = decimal_nonempty row wide in
    let few : length (decimal row) ≤ 9 = length-decimal-le 9 row (omega arith) short wide in
    let on : nat_lt 0 (length (decimal row)) ≡ true = search (rules, tests, some) in
    let low : nat_le (length (decimal row)) 9 ≡ true = search (rules, tests, few) in
    rw (on, low, row_digits row short, digits_value-decimal digits_model row wide) refl

row_of-row_text : (row : Option ℕ) → IfSome row (λ r. r < 10 ^ 9) → row_of (row_text row) ≡ Some row
row_of-row_text None short = refl
row_of-row_text (Some row) short =
    let some : Option ℕ → Option (Option ℕ) = λ o. option_map (λ r. Some r) o in
    ap (λ o. some (bracketed o)) (before_close-push (decimal row)) ∙ ap some (row_number-decimal row short)

before-text : (name : List ℕ) (row : Option ℕ) → Lacks 91 name → before_bracket (name ++ row_text row) ≡ name
before-text name None lacks = ap before_bracket (append-nil name) ∙ before_bracket-none name lacks
before-text name (Some row) lacks = before_bracket-at name (decimal row ++ 93 ∷ []) lacks

from-text : (name : List ℕ) (row : Option ℕ) → Lacks 91 name → from_bracket (name ++ row_text row) ≡ row_text row
from-text name None lacks = ap from_bracket (append-nil name) ∙ from_bracket-none name lacks
from-text name (Some row) lacks = from_bracket-at name (decimal row ++ 93 ∷ []) lacks

-- a step from its name, what stands behind it, and whether the name is one
abbrev step_from : Bool → List ℕ → Option (Option ℕ) → Option PathStep
step_from named name row = cond named (option_map (λ r. record { name = normal_name name; row = r }) row) None

step_of-step_text : (step : PathStep) → IsStep step → step_of (step_text step) ≡ Some step
step_of-step_text step s =
    let lacks = name_lacks 91 bracket_stands_in_none step.name s.text s.name in
    let again : List ℕ → Option PathStep = λ n. Some (record { name = n; row = step.row }) in
    ap (λ n. step_from (is_path_name n) n (row_of (from_bracket (step_text step)))) (before-text step.name step.row lacks)
    ∙ ap (λ text. step_from (is_path_name step.name) step.name (row_of text)) (from-text step.name step.row lacks)
    ∙ ap (λ row. step_from (is_path_name step.name) step.name row) (row_of-row_text step.row s.row)
    ∙ ap (λ named. step_from named step.name (Some step.row)) s.name
    ∙ ap again s.normal

steps_of-texts : (steps : List PathStep) → All IsStep steps → steps_of (map step_text steps) ≡ Some steps
steps_of-texts [] all = refl
steps_of-texts (step ∷ steps) all =
    ap (λ o. onto_all o (steps_of (map step_text steps))) (step_of-step_text step (All-head IsStep step steps all))
    ∙ ap (onto_all (Some step)) (steps_of-texts steps (All-tail IsStep step steps all))

-- ---- and so is a path

abbrev path_by : Bool → List ℕ → Option (List PathStep) → Option (List PathStep)
path_by named first others = cond named (option_map (λ steps. record { name = normal_name first; row = None } ∷ steps) others) None

pub path_of-path_text : (first : PathStep) (others : List PathStep) → IsPath first others → path_of (path_text (first ∷ others)) ≡ Some (first ∷ others)
path_of-path_text first others p =
    let alone : step_text first ≡ first.name = ap (λ row. first.name ++ row_text row) p.alone ∙ append-nil first.name in
    let named : List ℕ → Option (List PathStep) = λ n. Some (record { name = n; row = None } ∷ others) in
    let rowed : Option ℕ → Option (List PathStep) = λ r. Some (record { name = first.name; row = r } ∷ others) in
    ap path_from (points-path_text first others p.starts p.follow)
    ∙ ap (λ n. path_by (is_path_name n) n (steps_of (map step_text others))) alone
    ∙ ap (path_by (is_path_name first.name) first.name) (steps_of-texts others p.follow)
    ∙ ap (λ b. path_by b first.name (Some others)) p.starts.name
    ∙ ap named p.starts.normal
    ∙ ap rowed (sym p.alone)
