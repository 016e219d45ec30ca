-- What the resolver's lists say, over plain variables.
use Rattle.std.proofs.Common.{◌≡◌, ℕ, suc, String, BTreeMap, string_bytes, nat_cmp, ◌+◌, ◌<◌, ◌≤◌, Bool, true, false, cond, not, ◌&&◌, ◌||◌, IsTrue, nat_le, List, [], ◌∷◌, ◌++◌, length, get_or, take, drop, Option, None, Some, Result, Ok, Err, IfSome, MatchOption, is_some, option_map, unwrap_or, pos, sym, ap, ◌∙◌, refl, subst, arith}
use Rattle.std.specs.List.{list_all, slice_get}
use Rattle.std.specs.BTreeMap.{get_by_text, UpdatesBy}
use Rattle.std.specs.String.{string_cmp}
use Rattle.std.specs.Cmp.Lexicographic.{slice_cmp}
use Rattle.std.proofs.lemmas.Map.Text.{btree_map_updates_text}
use Rattle.std.specs.Str.{bytes_eq}
use Rattle.std.specs.Cmp.Lexicographic.{bytes_decides}
use Rattle.std.proofs.lemmas.List.{drop_more, drop_all, take_more, take_all, append_assoc, append-nil, map-append, reverse-append, reverse-reverse, length-reverse, length-map, length-take-le, length_push, get_or_push, get_or_append_left}
use Rattle.std.proofs.lemmas.List.Sorted.{IsPermutation-reverse, list_any-IsPermutation}
use Rattle.std.proofs.lemmas.Option.{slice_get-get_or, slice_get_within, get_or_from_slice_get}
use mathlib.Core.List.{reverse, reverse-cons}
use Rattle.first_evaluator.specs.declared.trees.Factor.{Factor}
use Rattle.first_evaluator.specs.declared.trees.Factor.TheVariants.{Lit, Named}
use Rattle.first_evaluator.specs.declared.trees.FirstProp.{FirstProp}
use Rattle.first_evaluator.specs.declared.trees.FirstFile.{FirstFile}
use Rattle.slint_base.specs.Options.{onto_all, all_of}
use Rattle.first_evaluator.specs.Bindings.{are_bound, has_name, is_factor_bound, is_sum_bound, names_of, reserved_words}
use Rattle.first_evaluator.specs.declared.resolving.Operand.{Operand}
use Rattle.first_evaluator.specs.declared.resolving.Operand.TheVariants.{Literal, Property}
use Rattle.first_evaluator.specs.Resolved.{place_among, operand_of, product_of, sum_of, sums_behind, sums_of, names_before, AreAt}
use Rattle.first_evaluator.specs.First.{bound_file}
use Rattle.first_evaluator.proofs.AllOf.{behind_all, behind_all-onto_all}

module _ {B : Type 0} where
  is_some-onto_all : (o : Option B) (p : Option (List B)) → is_some (onto_all o p) ≡ (is_some o && is_some p)
  is_some-onto_all None p = refl
  is_some-onto_all (Some x) None = refl
  is_some-onto_all (Some x) (Some xs) = refl

  -- nothing under a test
  is_some-cond : (t : Bool) (o : Option B) → is_some (cond t None o) ≡ (not t && is_some o)
  is_some-cond true o = refl
  is_some-cond false o = refl

module _ {A B : Type 0} where
  is_some-all_of : (f : A → Option B) (test : A → Bool) → ((x : A) → is_some (f x) ≡ test x) → (xs : List A) → is_some (all_of f xs) ≡ list_all test xs
  is_some-all_of f test same [] = refl
  is_some-all_of f test same (x ∷ xs) = is_some-onto_all (f x) (all_of f xs) ∙ (λ i. same x i && is_some-all_of f test same xs i)

-- a name has a place among names that have it
pub is_some-place_among : (before : List (List ℕ)) (name : List ℕ) → is_some (place_among before name) ≡ has_name before name
is_some-place_among [] name = refl
is_some-place_among (other ∷ before) name = by (bytes_eq other name) (is_some-place_among before name)
  where
    by : (b : Bool) → is_some (place_among before name) ≡ has_name before name → is_some (cond b (Some (length before)) (place_among before name)) ≡ (b || has_name before name)
    by true e = refl
    by false e = e

-- the place is one of theirs
pub place_among_within : (before : List (List ℕ)) (name : List ℕ) (place : ℕ) → place_among before name ≡ Some place → place < length before
place_among_within [] name place e = cc
place_among_within (other ∷ before) name place e = by (bytes_eq other name) (place_among_within before name place) e
  where
    by : (b : Bool) → (place_among before name ≡ Some place → place < length before) → cond b (Some (length before)) (place_among before name) ≡ Some place → place < length (other ∷ before)
    by true within same = let p : length before ≡ place = cc in omega arith
    by false within found = let p : place < length before = within found in omega arith

module _ (before : List (List ℕ)) where
  is_some-named : (reserved known : Bool) (place : Option ℕ) → is_some place ≡ known → is_some (cond reserved None (option_map (λ p. Property p) place)) ≡ (known && not reserved)
  is_some-named true true place e = refl
  is_some-named true false place e = refl
  is_some-named false true None e = e
  is_some-named false true (Some p) e = refl
  is_some-named false false None e = refl
  is_some-named false false (Some p) e = e

  is_some-operand_of : (factor : Factor) → is_some (operand_of (place_among before) factor) ≡ is_factor_bound before factor
  is_some-operand_of (Lit n) = refl
  is_some-operand_of (Named name) = is_some-named (has_name reserved_words name) (has_name before name) (place_among before name) (is_some-place_among before name)

  is_some-sum_of : (terms : List (List Factor)) → is_some (sum_of (place_among before) terms) ≡ is_sum_bound before terms
  is_some-sum_of terms = is_some-all_of (product_of (place_among before)) (list_all (is_factor_bound before)) (is_some-all_of (operand_of (place_among before)) (is_factor_bound before) is_some-operand_of) terms

-- properties have sums where they are bound
pub is_some-sums_behind : (before : List (List ℕ)) (props : List FirstProp) → is_some (sums_behind before props) ≡ are_bound before props
is_some-sums_behind before [] = refl
is_some-sums_behind before (prop ∷ props) =
    is_some-cond (has_name before prop.name) (onto_all (sum_of (place_among before) prop.terms) (sums_behind (prop.name ∷ before) props))
    ∙ ap (λ b. not (has_name before prop.name) && b)
    (is_some-onto_all (sum_of (place_among before) prop.terms) (sums_behind (prop.name ∷ before) props) ∙ (λ i. is_some-sum_of before prop.terms i && is_some-sums_behind (prop.name ∷ before) props i))

pub bound_from_sums : (props : List FirstProp) (sums : List (List (List Operand))) → sums_behind [] props ≡ Some sums → IsTrue (are_bound [] props)
bound_from_sums props sums e = sym (is_some-sums_behind [] props) ∙ ap is_some e

pub unbound_from_none : (props : List FirstProp) → sums_behind [] props ≡ None → are_bound [] props ≡ false
unbound_from_none props e = sym (is_some-sums_behind [] props) ∙ ap is_some e

-- no property is before the first
pub names_before-zero : (props : List FirstProp) → names_before props 0 ≡ []
names_before-zero props = refl

-- one more property
pub names_before-more : (props : List FirstProp) (i : ℕ) (prop : FirstProp) → i < length props → prop ≡ get_or props i prop → names_before props (i + 1) ≡ prop.name ∷ names_before props i
names_before-more props i prop l at =
    ap (λ ps. reverse (names_of ps)) (take_more props i prop l ∙ ap (λ p. take i props ++ p ∷ []) (sym at))
    ∙ ap reverse (map-append (λ p. p.name) (take i props) (prop ∷ [])) ∙ reverse-append (names_of (take i props)) (prop.name ∷ [])

pub length-names_before : (props : List FirstProp) (i : ℕ) → i ≤ length props → length (names_before props i) ≡ i
length-names_before props i l = length-reverse (names_of (take i props)) ∙ length-map (take i props) (λ p. p.name) ∙ length-take-le i props l

pub names_before_all : (props : List FirstProp) (i : ℕ) → length props ≤ i → names_before props i ≡ reverse (names_of props)
names_before_all props i l = ap (λ ps. reverse (names_of ps)) (take_all i props l)

-- a place among names, the last of which comes first, is the place in their order
pub slice_get-place_among : (before : List (List ℕ)) (name : List ℕ) (place : ℕ) → place_among before name ≡ Some place → slice_get (reverse before) place ≡ Some name
slice_get-place_among [] name place e = cc
slice_get-place_among (other ∷ before) name place e = ap (λ names. slice_get names place) (reverse-cons other before) ∙ by (bytes_eq other name) refl (slice_get-place_among before name place) e
  where
    within : length (reverse before ++ other ∷ []) ≡ length before + 1
    within = length_push (reverse before) other ∙ ap (λ n. n + 1) (length-reverse before)

    by : (b : Bool) → bytes_eq other name ≡ b → (place_among before name ≡ Some place → slice_get (reverse before) place ≡ Some name)
        → cond b (Some (length before)) (place_among before name) ≡ Some place → slice_get (reverse before ++ other ∷ []) place ≡ Some name
    by true same found_before found =
        let p : length before ≡ place = cc in
        let l : place < length (reverse before ++ other ∷ []) = omega (arith, within) in
        slice_get-get_or (reverse before ++ other ∷ []) place other l
        ∙ ap (λ x. Some x) (get_or_push (reverse before) other other place (length-reverse before ∙ p) ∙ (bytes_decides other name).0 same)
    by false same found_before found =
        let s = found_before found in
        let i : place < length (reverse before) = slice_get_within (reverse before) place name s in
        let l : place < length (reverse before ++ other ∷ []) = omega (arith, within, length-reverse before) in
        slice_get-get_or (reverse before ++ other ∷ []) place name l
        ∙ ap (λ x. Some x) (get_or_append_left (reverse before) (other ∷ []) name place i ∙ get_or_from_slice_get (reverse before) place name name s)

-- what a look-up of a name among properties tells
pub placed : (names : List (List ℕ)) (name : List ℕ) (o : Option ℕ) → place_among (reverse names) name ≡ o → MatchOption o (has_name names name ≡ false) (λ place. slice_get names place ≡ Some name)
placed names name None e =
    list_any-IsPermutation (λ other. bytes_eq other name) names (reverse names) (IsPermutation-reverse names) ∙ sym (is_some-place_among (reverse names) name) ∙ ap is_some e
placed names name (Some place) e = ap (λ ns. slice_get ns place) (sym (reverse-reverse names)) ∙ slice_get-place_among (reverse names) name place e

-- the place of a property is among them
pub placed_within : (props : List FirstProp) (name : List ℕ) (o : Option ℕ) (P : Type 0) → MatchOption o P (λ place. slice_get (names_of props) place ≡ Some name) → IfSome o (λ place. place < length props)
placed_within props name None P m = tt
placed_within props name (Some place) P m = subst (λ (n : ℕ). place < n) (length-map props (λ prop. prop.name)) (slice_get_within (names_of props) place name m)

-- there is a sum for each property
pub length-sums_behind : (before : List (List ℕ)) (props : List FirstProp) (sums : List (List (List Operand))) → sums_behind before props ≡ Some sums → length sums ≡ length props
length-sums_behind before [] sums e = let p : [] ≡ sums = cc in ap length (sym p)
length-sums_behind before (prop ∷ props) sums e =
    by (has_name before prop.name) (sum_of (place_among before) prop.terms) (sums_behind (prop.name ∷ before) props) (length-sums_behind (prop.name ∷ before) props) e
  where
    by : (t : Bool) (sum : Option (List (List Operand))) (rest : Option (List (List (List Operand)))) → ((others : List (List (List Operand))) → rest ≡ Some others → length others ≡ length props)
        → cond t None (onto_all sum rest) ≡ Some sums → length sums ≡ length (prop ∷ props)
    by true sum rest same e = cc
    by false None rest same e = cc
    by false (Some sum) None same e = cc
    by false (Some sum) (Some others) same e = let p : sum ∷ others ≡ sums = cc in ap length (sym p) ∙ ap suc (same others refl)

-- behind properties, the next one has a sum that is kept
pub sums_behind-next : (before : List (List ℕ)) (props : List FirstProp) (i : ℕ) (prop : FirstProp) (sum : List (List Operand)) → i < length props → prop ≡ get_or props i prop → has_name before prop.name ≡ false
    → sum_of (place_among before) prop.terms ≡ Some sum → sums_behind before (drop i props) ≡ onto_all (Some sum) (sums_behind (prop.name ∷ before) (drop (i + 1) props))
sums_behind-next before props i prop sum l at new found =
    ap (sums_behind before) (drop_more props i prop l ∙ ap (λ p. p ∷ drop (i + 1) props) (sym at))
    ∙ ap (λ t. cond t None (onto_all (sum_of (place_among before) prop.terms) (sums_behind (prop.name ∷ before) (drop (i + 1) props)))) new
    ∙ ap (λ o. onto_all o (sums_behind (prop.name ∷ before) (drop (i + 1) props))) found

-- the next one has the name of an earlier one
pub sums_behind-twice : (before : List (List ℕ)) (props : List FirstProp) (i : ℕ) (prop : FirstProp) → i < length props → prop ≡ get_or props i prop → has_name before prop.name ≡ true → sums_behind before (drop i props) ≡ None
sums_behind-twice before props i prop l at old =
    ap (sums_behind before) (drop_more props i prop l ∙ ap (λ p. p ∷ drop (i + 1) props) (sym at))
    ∙ ap (λ t. cond t None (onto_all (sum_of (place_among before) prop.terms) (sums_behind (prop.name ∷ before) (drop (i + 1) props)))) old

-- the next one has no sum
pub sums_behind-unbound : (before : List (List ℕ)) (props : List FirstProp) (i : ℕ) (prop : FirstProp) → i < length props → prop ≡ get_or props i prop → sum_of (place_among before) prop.terms ≡ None → sums_behind before (drop i props) ≡ None
sums_behind-unbound before props i prop l at missing =
    ap (sums_behind before) (drop_more props i prop l ∙ ap (λ p. p ∷ drop (i + 1) props) (sym at))
    ∙ ap (λ o. cond (has_name before prop.name) None (onto_all o (sums_behind (prop.name ∷ before) (drop (i + 1) props)))) missing ∙ none (has_name before prop.name)
  where
    none : (t : Bool) → cond t None (onto_all {A = List (List Operand)} None (sums_behind (prop.name ∷ before) (drop (i + 1) props))) ≡ None
    none true = refl
    none false = refl

-- a map that has the names so far finds what they have
pub AreAt-function : {Y : Type 0} (places : BTreeMap (String Y) ℕ) (before : List (List ℕ)) → AreAt places before → ◌≡◌ {A = List ℕ → Option ℕ} (λ name. get_by_text places name) (place_among before)
AreAt-function places before at = λ i name. at name i

-- the map with one more name at its place
AreAt-insert : {Y : Type 0} (old new : BTreeMap (String Y) ℕ) (before : List (List ℕ)) (name : List ℕ) (place : ℕ) → AreAt old before → place ≡ length before
    → UpdatesBy string_cmp (λ k. slice_cmp nat_cmp name (string_bytes k)) old new (Some place) → AreAt new (name ∷ before)
AreAt-insert old new before name place at last updates = λ other.
    btree_map_updates_text name old new (Some place) updates other ∙ (λ i. cond (bytes_eq name other) (Some (last i)) (at other i))

-- the map after one more property
pub AreAt-more : {Y : Type 0} (old new : BTreeMap (String Y) ℕ) (props : List FirstProp) (i : ℕ) (prop : FirstProp) (key : List ℕ) (place : ℕ) → AreAt old (names_before props i) → i < length props
    → prop ≡ get_or props i prop → key ≡ prop.name → place ≡ i → UpdatesBy string_cmp (λ k. slice_cmp nat_cmp key (string_bytes k)) old new (Some place) → AreAt new (names_before props (i + 1))
AreAt-more old new props i prop key place at l is same last updates =
    subst (λ (names : List (List ℕ)). AreAt new names) (ap (λ k. k ∷ names_before props i) same ∙ sym (names_before-more props i prop l is))
    (AreAt-insert old new (names_before props i) key place at (last ∙ sym (length-names_before props i (omega arith))) updates)

-- the sums of a resolved tree
pub sums_of-resolved : (file inside : FirstFile) (sums : List (List (List Operand))) → inside ≡ file → sums_behind [] inside.props ≡ Some sums → sums ≡ sums_of file
sums_of-resolved file inside sums is resolved = sym (ap (λ o. unwrap_or o []) resolved) ∙ ap sums_of is

-- what the resolver knows at the property at i: the sums so far, and the names before
module _ {Y : Type 0} (props : List FirstProp) (done : List (List (List Operand))) (places : BTreeMap (String Y) ℕ) (i : ℕ) (prop : FirstProp)
    (so_far : sums_behind [] props ≡ behind_all done (sums_behind (names_before props i) (drop i props))) (at : AreAt places (names_before props i)) (within : i < length props) (is : prop ≡ get_or props i prop) where
  known : (key : List ℕ) → key ≡ prop.name → has_name (names_before props i) prop.name ≡ is_some (get_by_text places key)
  known key same = sym (is_some-place_among (names_before props i) prop.name) ∙ ap is_some (sym (at prop.name)) ∙ ap (λ k. is_some (get_by_text places k)) (sym same)

  found : (o : Option (List (List Operand))) → o ≡ sum_of (λ name. get_by_text places name) prop.terms → sum_of (place_among (names_before props i)) prop.terms ≡ o
  found o e = ap (λ f. sum_of f prop.terms) (sym (AreAt-function places (names_before props i) at)) ∙ sym e

  -- an earlier property has the name
  pub refused_twice : (key : List ℕ) (b : Bool) → key ≡ prop.name → b ≡ is_some (get_by_text places key) → b ≡ true → are_bound [] props ≡ false
  refused_twice key b same e old = unbound_from_none props (so_far ∙ ap (behind_all done) (sums_behind-twice (names_before props i) props i prop within is (known key same ∙ sym e ∙ old)))

  -- the sum is not bound
  pub refused_sum : (o : Option (List (List Operand))) → o ≡ sum_of (λ name. get_by_text places name) prop.terms → o ≡ None → are_bound [] props ≡ false
  refused_sum o e none = unbound_from_none props (so_far ∙ ap (behind_all done) (sums_behind-unbound (names_before props i) props i prop within is (found o e ∙ none)))

  -- one more sum
  pub sums-more : (key : List ℕ) (b : Bool) (sum : List (List Operand)) (o : Option (List (List Operand))) → key ≡ prop.name → b ≡ is_some (get_by_text places key) → b ≡ false
      → o ≡ sum_of (λ name. get_by_text places name) prop.terms → o ≡ Some sum → sums_behind [] props ≡ behind_all (done ++ sum ∷ []) (sums_behind (names_before props (i + 1)) (drop (i + 1) props))
  sums-more key b sum o same e new s some =
      so_far ∙ ap (behind_all done) (sums_behind-next (names_before props i) props i prop sum within is (known key same ∙ sym e ∙ new) (found o s ∙ some))
      ∙ behind_all-onto_all done sum (sums_behind (prop.name ∷ names_before props i) (drop (i + 1) props))
      ∙ ap (λ b. behind_all (done ++ sum ∷ []) (sums_behind b (drop (i + 1) props))) (sym (names_before-more props i prop within is))

-- no property is left
pub sums-end : (props : List FirstProp) (done : List (List (List Operand))) (i : ℕ) → sums_behind [] props ≡ behind_all done (sums_behind (names_before props i) (drop i props)) → length props ≤ i → sums_behind [] props ≡ Some done
sums-end props done i so_far end = so_far ∙ ap (λ rest. behind_all done (sums_behind (names_before props i) rest)) (drop_all i props end) ∙ ap (λ sums. Some sums) (append-nil done)

-- a tree whose bindings are unsound is none of the first language
pub bound_file-unsound : (file : FirstFile) → are_bound [] file.props ≡ false → None ≡ bound_file file
bound_file-unsound file unbound = ap (λ b. cond b (Some file) None) (sym unbound)

-- and where they are sound it is
pub bound_file-sound : (file : FirstFile) → IsTrue (are_bound [] file.props) → Some file ≡ bound_file file
bound_file-sound file bound = ap (λ b. cond b (Some file) None) (sym bound)
