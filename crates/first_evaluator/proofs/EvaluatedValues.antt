-- The values over resolved sums are the values of the tree, over plain variables.
use Rattle.std.proofs.Common.{◌≡◌, ℕ, suc, ◌+◌, ◌-◌, ◌<◌, min, ℤ, pos, ◌+ℤ◌, ◌*ℤ◌, Bool, true, false, cond, not, ◌&&◌, IsTrue, nat_le, List, [], ◌∷◌, length, get_or, set, take, map, replicate, Option, None, Some, is_some, option_map, unwrap_or, sym, ap, ◌∙◌, refl, subst, ⊎_elim, zero, arith}
use Rattle.std.specs.List.{All, fold, slice_get}
use Rattle.std.specs.Str.{bytes_eq}
use Rattle.std.specs.Cmp.Lexicographic.{bytes_decides}
use Rattle.std.proofs.lemmas.Bool.{cases_eq, true≢false, and_parts, not-true, or_parts, or_left, or_right, cond-true, cond-false, false_from_ne_true}
use Rattle.std.proofs.lemmas.List.{length-map, get_or-take, get_or-set_same, get_or-set_other, take-set-le}
use Rattle.std.proofs.lemmas.List.Elements.{All-nil, All-cons}
use Rattle.std.proofs.lemmas.Option.{get_or_from_slice_get, slice_get_within}
use mathlib.Core.List.{reverse_aux}
use Rattle.slint_base.specs.Numbers.{to_int}
use Rattle.first_evaluator.specs.declared.trees.Factor.{Factor}
use Rattle.first_evaluator.specs.declared.trees.Factor.TheVariants.{Lit, Named}
use Rattle.first_evaluator.specs.declared.trees.FirstProp.{FirstProp}
use Rattle.first_evaluator.specs.declared.trees.FirstFile.{FirstFile}
use Rattle.slint_base.specs.Options.{onto_all, all_of}
use Rattle.first_evaluator.specs.Bindings.{are_bound, has_name, is_sum_bound, names_of, reserved_words}
use Rattle.first_evaluator.specs.Values.{World, opening_world, assign, assignment, factor_value, product_value, sum_value, assigned_or, value_among, property_value}
use Rattle.first_evaluator.specs.declared.resolving.Operand.{Operand}
use Rattle.first_evaluator.specs.declared.resolving.Operand.TheVariants.{Literal, Property}
use Rattle.first_evaluator.specs.Resolved.{place_among, operand_of, product_of, sum_of, sums_behind, sums_of}
use Rattle.first_evaluator.specs.Evaluated.{IsWithin, operand_value, operands_product, operands_sum, value_at, AreRight}
use Rattle.first_evaluator.proofs.ResolvedSums.{is_some-sums_behind, place_among_within}

-- an option that has a value
at_some : {A : Type 0} (o : Option A) (d : A) → is_some o ≡ true → o ≡ Some (unwrap_or o d)
at_some None d e = absurd (true≢false (sym e))
at_some (Some x) d e = refl

-- what all items make starts with what the first makes
module _ {B : Type 0} where
  onto_all_some : (o : Option B) (rest : Option (List B)) (ys : List B) → onto_all o rest ≡ Some ys → (y : B) × (others : List B) × (o ≡ Some y) × (rest ≡ Some others) × (ys ≡ y ∷ others)
  onto_all_some None rest ys e = cc
  onto_all_some (Some y) None ys e = cc
  onto_all_some (Some y) (Some others) ys e = (y, others, refl, refl, cc)

module _ {A B : Type 0} (f : A → Option B) where
  -- what is made of each item keeps a property
  All-all_of : (P : B → Type 0) → ((x : A) (y : B) → f x ≡ Some y → P y) → (xs : List A) (ys : List B) → all_of f xs ≡ Some ys → All P ys
  All-all_of P each [] ys e = let is : [] ≡ ys = cc in subst (All P) is (All-nil P)
  All-all_of P each (x ∷ xs) ys e =
      let made = onto_all_some (f x) (all_of f xs) ys e in
      subst (All P) (sym made.4) (All-cons P made.0 made.1 (each x made.0 made.2) (All-all_of P each xs made.1 made.3))

  -- a fold over what is made is a fold over the items
  fold-all_of : {C : Type 0} (g : C → B → C) (h : C → A → C) → ((x : A) (y : B) → f x ≡ Some y → (c : C) → g c y ≡ h c x) → (xs : List A) (ys : List B) → all_of f xs ≡ Some ys → (c : C) → fold g c ys ≡ fold h c xs
  fold-all_of g h same [] ys e c = let is : [] ≡ ys = cc in ap (fold g c) (sym is)
  fold-all_of g h same (x ∷ xs) ys e c =
      let made = onto_all_some (f x) (all_of f xs) ys e in
      ap (fold g c) made.4 ∙ fold-all_of g h same xs made.1 made.3 (g c made.0) ∙ ap (λ d. fold h d xs) (same x made.0 made.2 c)

-- what a factor becomes
number_made : (n : ℤ) (operand : Operand) → Some (Literal n) ≡ Some operand → operand ≡ Literal n
number_made n operand e = cc

name_made : (b : Bool) (o : Option ℕ) (operand : Operand) → cond b None (option_map (λ p. Property p) o) ≡ Some operand → (place : ℕ) × (o ≡ Some place) × (operand ≡ Property place)
name_made true o operand e = cc
name_made false None operand e = cc
name_made false (Some place) operand e = (place, refl, cc)

-- operands of a sum are among the properties before
operand_within : (before : List (List ℕ)) (factor : Factor) (operand : Operand) → operand_of (place_among before) factor ≡ Some operand → IsWithin (length before) operand
operand_within before (Lit n) operand e = subst (IsWithin (length before)) (sym (number_made n operand e)) tt
operand_within before (Named name) operand e =
    let made = name_made (has_name reserved_words name) (place_among before name) operand e in
    subst (IsWithin (length before)) (sym made.2) (place_among_within before name made.0 made.1)

sum_within : (before : List (List ℕ)) (terms : List (List Factor)) (products : List (List Operand)) → sum_of (place_among before) terms ≡ Some products → All (All (IsWithin (length before))) products
sum_within before terms products e =
    All-all_of (product_of (place_among before)) (All (IsWithin (length before)))
    (λ factors operands made. All-all_of (operand_of (place_among before)) (IsWithin (length before)) (operand_within before) factors operands made) terms products e

-- the first of properties is new, and has a sum before the others
sums_behind_some : (before : List (List ℕ)) (prop : FirstProp) (props : List FirstProp) (sums : List (List (List Operand))) → sums_behind before (prop ∷ props) ≡ Some sums
    → (sum : List (List Operand)) × (others : List (List (List Operand))) × (sum_of (place_among before) prop.terms ≡ Some sum) × (sums_behind (prop.name ∷ before) props ≡ Some others) × (sums ≡ sum ∷ others) × (has_name before prop.name ≡ false)
sums_behind_some before prop props sums e = by (has_name before prop.name) refl e
  where
    by : (b : Bool) → has_name before prop.name ≡ b → cond b None (onto_all (sum_of (place_among before) prop.terms) (sums_behind (prop.name ∷ before) props)) ≡ Some sums
        → (sum : List (List Operand)) × (others : List (List (List Operand))) × (sum_of (place_among before) prop.terms ≡ Some sum) × (sums_behind (prop.name ∷ before) props ≡ Some others) × (sums ≡ sum ∷ others) × (has_name before prop.name ≡ false)
    by true known made = cc
    by false new made =
        let parts = onto_all_some (sum_of (place_among before) prop.terms) (sums_behind (prop.name ∷ before) props) sums made in
        (parts.0, parts.1, parts.2, parts.3, parts.4, new)

sums_within : (before : List (List ℕ)) (props : List FirstProp) (sums : List (List (List Operand))) → sums_behind before props ≡ Some sums
    → (j k : ℕ) → k ≡ length before + j → j < length props → All (All (IsWithin k)) (get_or sums j [])
sums_within before [] sums e j k at l = absurd (omega arith)
sums_within before (prop ∷ props) sums e zero k at l =
    let made = sums_behind_some before prop props sums e in
    let first : length before ≡ k = omega arith in
    let P : ℕ → Type 0 = λ n. All (All (IsWithin n)) (get_or sums 0 []) in
    subst P first (subst (λ (s : List (List (List Operand))). All (All (IsWithin (length before))) (get_or s 0 [])) (sym made.4) (sum_within before prop.terms made.0 made.2))
sums_within before (prop ∷ props) sums e (suc j) k at l =
    let made = sums_behind_some before prop props sums e in
    subst (λ (s : List (List (List Operand))). All (All (IsWithin k)) (get_or s (suc j) [])) (sym made.4)
    (sums_within (prop.name ∷ before) props made.1 made.3 j k (omega arith) (omega arith))

-- a bound tree has sums
resolved : (file : FirstFile) → IsTrue (are_bound [] file.props) → sums_behind [] file.props ≡ Some (sums_of file)
resolved file bound = at_some (sums_behind [] file.props) [] (is_some-sums_behind [] file.props ∙ bound)

-- the sum at a place is over the properties before it
pub sum_at_within : (file : FirstFile) (place : ℕ) → IsTrue (are_bound [] file.props) → place < length file.props → All (All (IsWithin place)) (get_or (sums_of file) place [])
sum_at_within file place bound l = sums_within [] file.props (sums_of file) (resolved file bound) place place (omega arith) l

-- a value more is right
pub right-more : (file : FirstFile) (assigned : List (Option ℤ)) (values : List ℤ) (place : ℕ) (value : ℤ) → place < length values → AreRight file assigned values place → value ≡ value_at file assigned values place
    → AreRight file assigned (set values place value) (place + 1)
right-more file assigned values place value l right is = λ k h.
    ⊎_elim (λ (same : k ≡ place).
    ap (λ p. get_or (set values place value) p (pos 0)) same ∙ get_or-set_same values place value (pos 0) l ∙ is
    ∙ ap (λ vs. assigned_or (get_or assigned place None) (operands_sum vs (get_or (sums_of file) place []))) (sym (take-set-le place values place value (omega arith)))
    ∙ ap (value_at file assigned (set values place value)) (sym same))
    (λ (other : k ≡ place → ⊥).
    get_or-set_other values place k value (pos 0) other ∙ right k (omega arith)
    ∙ ap (λ vs. assigned_or (get_or assigned k None) (operands_sum vs (get_or (sums_of file) k []))) (sym (take-set-le k values place value (omega arith))))
    (cases_eq k place)

-- values before an assignment stay right
pub right-assign : (file : FirstFile) (assigned : List (Option ℤ)) (values : List ℤ) (fresh place : ℕ) (value : Option ℤ) → AreRight file assigned values fresh → AreRight file (set assigned place value) values (min fresh place)
right-assign file assigned values fresh place value right = λ k h.
    let other : k ≡ place → ⊥ = λ same. omega arith in
    right k (omega arith) ∙ ap (λ a. assigned_or a (operands_sum (take k values) (get_or (sums_of file) k []))) (sym (get_or-set_other assigned place k value None other))

-- nothing is assigned in the opening world
pub shows_opening : (props : List FirstProp) → replicate (length props) None ≡ map (λ prop. assignment opening_world prop.name) props
shows_opening [] = refl
shows_opening (prop ∷ props) = ap (λ rest. None ∷ rest) (shows_opening props)

-- a name that is among names is another than one that isn't
apart : (names : List (List ℕ)) (has lacks : List ℕ) → has_name names has ≡ true → has_name names lacks ≡ false → has ≡ lacks → ⊥
apart names has lacks h l same = true≢false (sym h ∙ ap (has_name names) same ∙ l)

bytes_differ : (a b : List ℕ) → (a ≡ b → ⊥) → bytes_eq a b ≡ false
bytes_differ a b ne = false_from_ne_true (bytes_eq a b) (λ same. ne ((bytes_decides a b).0 same))

-- what bound properties tell of the first
first_new : (before : List (List ℕ)) (prop : FirstProp) (props : List FirstProp) → are_bound before (prop ∷ props) ≡ true → (has_name before prop.name ≡ false) × (are_bound (prop.name ∷ before) props ≡ true)
first_new before prop props bound =
    let parts = and_parts (not (has_name before prop.name)) (is_sum_bound before prop.terms && are_bound (prop.name ∷ before) props) bound in
    (not-true (has_name before prop.name) parts.0, (and_parts (is_sum_bound before prop.terms) (are_bound (prop.name ∷ before) props) parts.1).1)

-- a bound property has a new name
later_new : (before : List (List ℕ)) (props : List FirstProp) (place : ℕ) (name : List ℕ) → are_bound before props ≡ true → slice_get (names_of props) place ≡ Some name → has_name before name ≡ false
later_new before [] place name bound e = cc
later_new before (prop ∷ props) zero name bound e =
    let same : prop.name ≡ name = cc in
    ap (has_name before) (sym same) ∙ (first_new before prop props bound).0
later_new before (prop ∷ props) (suc place) name bound e =
    (or_parts (bytes_eq prop.name name) (has_name before name) (later_new (prop.name ∷ before) props place name (first_new before prop props bound).1 e)).1

module _ (world : World) (name : List ℕ) (value : ℤ) where
  -- an assignment changes no property of another name
  keeps : (other : List ℕ) → (name ≡ other → ⊥) → assignment world other ≡ assignment (assign world name value) other
  keeps other ne = sym (cond-false (bytes_eq name other) (Some value) (assignment world other) (bytes_differ name other ne))

  keeps_all : (before : List (List ℕ)) (props : List FirstProp) → are_bound before props ≡ true → has_name before name ≡ true
      → map (λ prop. assignment world prop.name) props ≡ map (λ prop. assignment (assign world name value) prop.name) props
  keeps_all before [] bound has = refl
  keeps_all before (prop ∷ props) bound has =
      let new = first_new before prop props bound in
      λ i. keeps prop.name (apart before name prop.name has new.0) i ∷ keeps_all (prop.name ∷ before) props new.1 (or_right (bytes_eq prop.name name) (has_name before name) has) i

  -- an assignment is one property's
  shows_assign_behind : (before : List (List ℕ)) (props : List FirstProp) (place : ℕ) → are_bound before props ≡ true → slice_get (names_of props) place ≡ Some name
      → set (map (λ prop. assignment world prop.name) props) place (Some value) ≡ map (λ prop. assignment (assign world name value) prop.name) props
  shows_assign_behind before [] place bound e = cc
  shows_assign_behind before (prop ∷ props) zero bound e =
      let same : prop.name ≡ name = cc in
      let new = first_new before prop props bound in
      λ i. sym (cond-true (bytes_eq name prop.name) (Some value) (assignment world prop.name) ((bytes_decides name prop.name).1 (sym same))) i
      ∷ keeps_all (prop.name ∷ before) props new.1 (or_left (bytes_eq prop.name name) (has_name before name) ((bytes_decides prop.name name).1 same)) i
  shows_assign_behind before (prop ∷ props) (suc place) bound e =
      let new = first_new before prop props bound in
      let lacks = later_new (prop.name ∷ before) props place name new.1 e in
      let has = or_left (bytes_eq prop.name prop.name) (has_name before prop.name) ((bytes_decides prop.name prop.name).1 refl) in
      λ i. keeps prop.name (λ same. apart (prop.name ∷ before) prop.name name has lacks (sym same)) i ∷ shows_assign_behind (prop.name ∷ before) props place new.1 e i

-- the assignments after one more
pub shows_assign : (world : World) (name : List ℕ) (value : ℤ) (props : List FirstProp) (assigned : List (Option ℤ)) (place : ℕ) → IsTrue (are_bound [] props) → assigned ≡ map (λ prop. assignment world prop.name) props
    → slice_get (names_of props) place ≡ Some name → set assigned place (Some value) ≡ map (λ prop. assignment (assign world name value) prop.name) props
shows_assign world name value props assigned place bound shows e = ap (λ a. set a place (Some value)) shows ∙ shows_assign_behind world name value [] props place bound e

module _ (world : World) where
  -- later properties don't change the value of an earlier name
  among_later : (props before : List FirstProp) (sums : List (List (List Operand))) (name : List ℕ) → sums_behind (names_of before) props ≡ Some sums → has_name (names_of before) name ≡ true
      → value_among (reverse_aux props before) world name ≡ value_among before world name
  among_later [] before sums name e has = refl
  among_later (prop ∷ props) before sums name e has =
      let made = sums_behind_some (names_of before) prop props sums e in
      among_later props (prop ∷ before) made.1 name made.3 (or_right (bytes_eq prop.name name) (has_name (names_of before) name) has)
      ∙ cond-false (bytes_eq prop.name name) (assigned_or (assignment world name) (sum_value (λ earlier. value_among before world earlier) prop.terms)) (value_among before world name)
      (bytes_differ prop.name name (λ same. apart (names_of before) name prop.name has made.5 (sym same)))

  module _ (values : List ℤ) where
    -- the values at the places of earlier properties are theirs
    abbrev Knows : List FirstProp → Type 0
    Knows before = (name : List ℕ) (place : ℕ) → place_among (names_of before) name ≡ Some place → get_or values place (pos 0) ≡ value_among before world name

    module _ (before : List FirstProp) (knows : Knows before) where
      factor_same : (factor : Factor) (operand : Operand) → operand_of (place_among (names_of before)) factor ≡ Some operand
          → operand_value (take (length before) values) operand ≡ factor_value (λ name. value_among before world name) factor
      factor_same (Lit n) operand e = ap (operand_value (take (length before) values)) (number_made n operand e)
      factor_same (Named name) operand e =
          let made = name_made (has_name reserved_words name) (place_among (names_of before) name) operand e in
          let l = place_among_within (names_of before) name made.0 made.1 in
          let n = length-map before (λ prop. prop.name) in
          ap (operand_value (take (length before) values)) made.2 ∙ get_or-take (length before) values made.0 (pos 0) (omega arith) ∙ knows name made.0 made.1

      product_same : (factors : List Factor) (operands : List Operand) → product_of (place_among (names_of before)) factors ≡ Some operands
          → operands_product (take (length before) values) operands ≡ product_value (λ name. value_among before world name) factors
      product_same factors operands e =
          fold-all_of (operand_of (place_among (names_of before))) (λ product operand. to_int (product *ℤ operand_value (take (length before) values) operand))
          (λ product factor. to_int (product *ℤ factor_value (λ name. value_among before world name) factor))
          (λ factor operand made product. ap (λ v. to_int (product *ℤ v)) (factor_same factor operand made)) factors operands e (pos 1)

      sum_same : (terms : List (List Factor)) (products : List (List Operand)) → sum_of (place_among (names_of before)) terms ≡ Some products
          → operands_sum (take (length before) values) products ≡ sum_value (λ name. value_among before world name) terms
      sum_same terms products e =
          fold-all_of (product_of (place_among (names_of before))) (λ sum operands. to_int (sum +ℤ operands_product (take (length before) values) operands))
          (λ sum term. to_int (sum +ℤ product_value (λ name. value_among before world name) term))
          (λ factors operands made sum. ap (λ v. to_int (sum +ℤ v)) (product_same factors operands made)) terms products e (pos 0)

      -- one more property
      knows_more : (prop : FirstProp) (sum : List (List Operand)) → sum_of (place_among (names_of before)) prop.terms ≡ Some sum
          → get_or values (length before) (pos 0) ≡ assigned_or (assignment world prop.name) (operands_sum (take (length before) values) sum) → Knows (prop ∷ before)
      knows_more prop sum made is = λ name place e. by name place (bytes_eq prop.name name) refl e
        where
          by : (name : List ℕ) (place : ℕ) (b : Bool) → bytes_eq prop.name name ≡ b → cond b (Some (length (names_of before))) (place_among (names_of before) name) ≡ Some place
              → get_or values place (pos 0) ≡ cond b (assigned_or (assignment world name) (sum_value (λ earlier. value_among before world earlier) prop.terms)) (value_among before world name)
          by name place true same found =
              let p : length (names_of before) ≡ place = cc in
              ap (λ k. get_or values k (pos 0)) (sym p ∙ length-map before (λ prop. prop.name)) ∙ is
              ∙ ap (assigned_or (assignment world prop.name)) (sum_same prop.terms sum made)
              ∙ ap (λ n. assigned_or (assignment world n) (sum_value (λ earlier. value_among before world earlier) prop.terms)) ((bytes_decides prop.name name).0 same)
          by name place false same found = knows name place found

    knows_next : (assigned : List (Option ℤ)) (prop : FirstProp) (props before : List FirstProp) (sums : List (List (List Operand))) → Knows before → sums_behind (names_of before) (prop ∷ props) ≡ Some sums
        → get_or values (length before) (pos 0) ≡ assigned_or (get_or assigned (length before) None) (operands_sum (take (length before) values) (get_or sums 0 []))
        → get_or assigned (length before) None ≡ assignment world prop.name → Knows (prop ∷ before)
    knows_next assigned prop props before sums knows e right shows =
        let made = sums_behind_some (names_of before) prop props sums e in
        knows_more before knows prop made.0 made.2 (right ∙ (λ i. assigned_or (shows i) (operands_sum (take (length before) values) (get_or (made.4 i) 0 []))))

    -- values that are right at the places of properties are theirs
    right_among : (assigned : List (Option ℤ)) (props before : List FirstProp) (sums : List (List (List Operand))) (count : ℕ) → Knows before → sums_behind (names_of before) props ≡ Some sums
        → ((k j : ℕ) → k ≡ length before + j → j < count → get_or values k (pos 0) ≡ assigned_or (get_or assigned k None) (operands_sum (take k values) (get_or sums j [])))
        → ((k j : ℕ) → k ≡ length before + j → j < length props → get_or assigned k None ≡ assignment world (get_or (names_of props) j []))
        → (k j : ℕ) → k ≡ length before + j → j < count → j < length props → get_or values k (pos 0) ≡ value_among (reverse_aux props before) world (get_or (names_of props) j [])
    right_among assigned [] before sums count knows e right shows k j at l m = absurd (omega arith)
    right_among assigned (prop ∷ props) before sums count knows e right shows k zero at l m =
        let made = sums_behind_some (names_of before) prop props sums e in
        let more = knows_next assigned prop props before sums knows e (right (length before) 0 (omega arith) l) (shows (length before) 0 (omega arith) m) in
        let same = (bytes_decides prop.name prop.name).1 refl in
        let here : k ≡ length (names_of before) = let n = length-map before (λ p. p.name) in omega arith in
        more prop.name k (cond-true (bytes_eq prop.name prop.name) (Some (length (names_of before))) (place_among (names_of before) prop.name) same ∙ ap (λ p. Some p) (sym here))
        ∙ sym (among_later props (prop ∷ before) made.1 prop.name made.3 (or_left (bytes_eq prop.name prop.name) (has_name (names_of before) prop.name) same))
    right_among assigned (prop ∷ props) before sums count knows e right shows k (suc j) at l m =
        let made = sums_behind_some (names_of before) prop props sums e in
        let more = knows_next assigned prop props before sums knows e (right (length before) 0 (omega arith) (omega arith)) (shows (length before) 0 (omega arith) (omega arith)) in
        right_among assigned props (prop ∷ before) made.1 (count - 1) more made.3
        (λ k j at l. right k (suc j) (omega arith) (omega arith) ∙ ap (λ ss. assigned_or (get_or assigned k None) (operands_sum (take k values) (get_or ss (suc j) []))) made.4)
        (λ k j at l. shows k (suc j) (omega arith) (omega arith)) k j (omega arith) (omega arith) (omega arith)

-- an assignment that is shown
shown_at : (world : World) (props : List FirstProp) (j : ℕ) → j < length props → get_or (map (λ prop. assignment world prop.name) props) j None ≡ assignment world (get_or (names_of props) j [])
shown_at world [] j l = absurd (omega arith)
shown_at world (prop ∷ props) zero l = refl
shown_at world (prop ∷ props) (suc j) l = shown_at world props j (omega arith)

-- a right value is the property's in each world that the assignments show
pub value_shown : (file : FirstFile) (assigned : List (Option ℤ)) (values : List ℤ) (count : ℕ) (place : ℕ) → IsTrue (are_bound [] file.props) → AreRight file assigned values count → place < count
    → (world : World) (name : List ℕ) → assigned ≡ map (λ prop. assignment world prop.name) file.props → slice_get (names_of file.props) place ≡ Some name → get_or values place (pos 0) ≡ property_value file world name
value_shown file assigned values count place bound right l world name shows e =
    let within = slice_get_within (names_of file.props) place name e in
    let n = length-map file.props (λ prop. prop.name) in
    right_among world values assigned file.props [] (sums_of file) count (λ name place none. cc) (resolved file bound)
    (λ k j at m.
    let same : k ≡ j = omega arith in
    right k (omega arith) ∙ ap (λ p. assigned_or (get_or assigned k None) (operands_sum (take k values) (get_or (sums_of file) p []))) same)
    (λ k j at m.
    let same : k ≡ j = omega arith in
    ap (λ p. get_or assigned p None) same ∙ ap (λ a. get_or a j None) shows ∙ shown_at world file.props j m)
    place place (omega arith) l (omega arith)
    ∙ ap (property_value file world) (get_or_from_slice_get (names_of file.props) place name [] e)
