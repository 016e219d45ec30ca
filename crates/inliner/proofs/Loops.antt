-- Loops over elements, a turn each.
use Rattle.std.specs.Prelude.{ℕ, suc, Bool, true, false, ◌&&◌, List, [], ◌∷◌, ◌++◌, filter, length, min, slice_get, sum_by, Option, Some, None}
use Rattle.std.specs.List.{list_all}
use Rattle.std.proofs.Common.{◌≡◌, refl, sym, ap, ◌∙◌, ◌+◌, ◌-◌, ◌<◌, ◌≤◌, arith, add-one, drop, get_or}
use Rattle.std.proofs.lemmas.List.{drop_all}
use Rattle.std.proofs.lemmas.List.Sums.{sum_by-cons}
use Rattle.slint_base.specs.declared.faults.Fault.{Fault}
use Rattle.typed_tree.specs.declared.outlines.ElementOutline.{ElementOutline}
use Rattle.typed_tree.specs.declared.trees.TypedComponent.{TypedComponent}
use Rattle.typed_tree.specs.Elements.{outwards_within, parent_of, repeated_in}
use Rattle.fault_order.specs.Order.{earlier_of}
use Rattle.fault_order.proofs.First.{earlier_of-None}
use Rattle.fault_order.proofs.Told.{earlier_of-assoc}
use Rattle.expanded_tree.specs.Components.{each_below}
use Rattle.expanded_tree.specs.Order.{count_of}
use Rattle.expanded_tree.specs.Repeaters.{depth_in}
use Rattle.expanded_tree.specs.Sizes.{height}
use Rattle.inliner.specs.declared.extents.Extent.{Extent}
use Rattle.inliner.specs.Extents.{extent_of, first_at, first_deep, sized_in, whole_in}
use Rattle.inliner.proofs.Grows.{from_item, one_less}

-- ---- repeaters around an element

abbrev pub repeated_at : List ElementOutline → ℕ → Bool
repeated_at elements d = repeated_in (slice_get elements d)

abbrev pub repeaters_of : ℕ → List ElementOutline → Option ℕ → ℕ
repeaters_of n elements around = length (filter (repeated_at elements) (outwards_within n elements around))

counted : (b : Bool) (e : ℕ) (es : List ℕ) (elements : List ElementOutline) → repeated_at elements e ≡ b
    → length (filter (repeated_at elements) (e ∷ es)) ≡ count_of b + length (filter (repeated_at elements) es)
counted true e es elements is = rw is (let one : suc (length (filter (repeated_at elements) es)) ≡ 1 + length (filter (repeated_at elements) es) = omega arith in one)
counted false e es elements is = rw is (let same : length (filter (repeated_at elements) es) ≡ 0 + length (filter (repeated_at elements) es) = omega arith in same)

pub around_goes : (elements : List ElementOutline) (n i e count : ℕ) {b : Bool} {more all : ℕ} {around next : Option ℕ} → i < n → around ≡ Some e
    → b ≡ repeated_at elements e → more ≡ count + count_of b → next ≡ parent_of elements e → count + repeaters_of (n - i) elements around ≡ all
    → more + repeaters_of (n - (i + 1)) elements next ≡ all
around_goes elements n i e count {b = b} {more = more} {around = around} {next = next} h is tests adds goes k =
    let here : repeaters_of (n - i) elements around ≡ count_of b + repeaters_of (n - (i + 1)) elements next =
    rw (is, goes, one_less n i h) (counted b e (outwards_within (n - (i + 1)) elements (parent_of elements e)) elements (sym tests)) in
    omega arith

pub around_stops : (elements : List ElementOutline) (n count : ℕ) {all : ℕ} {around : Option ℕ} → around ≡ None → count + repeaters_of n elements around ≡ all → count ≡ all
around_stops elements n count {around = around} is k =
    let none : repeaters_of n elements around ≡ 0 = rw is refl in
    omega arith

none_around : (elements : List ElementOutline) (around : Option ℕ) → repeaters_of 0 elements around ≡ 0
none_around elements None = refl
none_around elements (Some e) = refl

pub around_ends : (elements : List ElementOutline) (n i count : ℕ) (around : Option ℕ) {all : ℕ} → n ≤ i → count + repeaters_of (n - i) elements around ≡ all → count ≡ all
around_ends elements n i count around past k =
    let done : n - i ≡ 0 = omega arith in
    let none : repeaters_of (n - i) elements around ≡ 0 = rw done (none_around elements around) in
    omega arith

-- ---- the elements of a component

pub deep_turn : (look : ℕ → Extent) (around : ℕ) (all : List ElementOutline) (i : ℕ) (x : ElementOutline) (so_far next : Option Fault) {depth : ℕ} {one whole : Option Fault}
    → x ≡ get_or all i x → i < length all → depth ≡ depth_in around all i → one ≡ first_at depth x (extent_of look x.ty) → next ≡ earlier_of so_far one
    → earlier_of so_far (first_deep look around all i (drop i all)) ≡ whole → earlier_of next (first_deep look around all (i + 1) (drop (i + 1) all)) ≡ whole
deep_turn look around all i x so_far next is within deep tells goes k =
    ap (λ f. earlier_of f (first_deep look around all (i + 1) (drop (i + 1) all))) (goes ∙ ap (earlier_of so_far) (tells ∙ ap (λ d. first_at d x (extent_of look x.ty)) deep))
    ∙ ap (λ n. earlier_of (earlier_of so_far (first_at (depth_in around all i) x (extent_of look x.ty))) (first_deep look around all n (drop (i + 1) all))) (add-one i)
    ∙ earlier_of-assoc so_far (first_at (depth_in around all i) x (extent_of look x.ty)) (first_deep look around all (suc i) (drop (i + 1) all))
    ∙ ap (λ ys. earlier_of so_far (first_deep look around all i ys)) (sym (from_item all i x is within))
    ∙ k

pub deep_end : (look : ℕ → Extent) (around : ℕ) (all : List ElementOutline) (i : ℕ) (so_far : Option Fault) {whole : Option Fault} → length all ≤ i
    → earlier_of so_far (first_deep look around all i (drop i all)) ≡ whole → so_far ≡ whole
deep_end look around all i so_far past k =
    sym (earlier_of-None so_far) ∙ ap (λ ys. earlier_of so_far (first_deep look around all i ys)) (sym (drop_all i all past)) ∙ k

pub whole_turn : (look : ℕ → Extent) (xs : List ElementOutline) (i : ℕ) (x : ElementOutline) {b all : Bool} → x ≡ get_or xs i x → i < length xs → b ≡ (extent_of look x.ty).is_whole → b ≡ true
    → list_all (whole_in look) (drop i xs) ≡ all → list_all (whole_in look) (drop (i + 1) xs) ≡ all
whole_turn look xs i x is within tells t k =
    ap (λ b. b && list_all (whole_in look) (drop (i + 1) xs)) (sym t ∙ tells)
    ∙ ap (list_all (whole_in look)) (sym (from_item xs i x is within)) ∙ k

pub not_whole : (look : ℕ → Extent) (xs : List ElementOutline) (i : ℕ) (x : ElementOutline) {b all : Bool} → x ≡ get_or xs i x → i < length xs → b ≡ (extent_of look x.ty).is_whole → b ≡ false
    → list_all (whole_in look) (drop i xs) ≡ all → false ≡ all
not_whole look xs i x is within tells t k =
    ap (λ b. b && list_all (whole_in look) (drop (i + 1) xs)) (sym t ∙ tells)
    ∙ ap (list_all (whole_in look)) (sym (from_item xs i x is within)) ∙ k

pub whole_end : (look : ℕ → Extent) (xs : List ElementOutline) (i : ℕ) {all : Bool} → length xs ≤ i → list_all (whole_in look) (drop i xs) ≡ all → true ≡ all
whole_end look xs i past k = ap (list_all (whole_in look)) (sym (drop_all i xs past)) ∙ k

capped_again : (o a b s : ℕ) → min o (min o (a + b) + s) ≡ min o (a + (b + s))
capped_again o a b s = omega arith

pub size_turn : (o : ℕ) (look : ℕ → Extent) (xs : List ElementOutline) (i : ℕ) (x : ElementOutline) (total : ℕ) {one more all : ℕ} → x ≡ get_or xs i x → i < length xs
    → one ≡ (extent_of look x.ty).size → more ≡ min o (total + one) → min o (total + sum_by (sized_in look) (drop i xs)) ≡ all
    → min o (more + sum_by (sized_in look) (drop (i + 1) xs)) ≡ all
size_turn o look xs i x total is within tells goes k =
    ap (λ n. min o (n + sum_by (sized_in look) (drop (i + 1) xs))) (goes ∙ ap (λ n. min o (total + n)) tells)
    ∙ capped_again o total (sized_in look x) (sum_by (sized_in look) (drop (i + 1) xs))
    ∙ ap (λ n. min o (total + n)) (sym (sum_by-cons (sized_in look) x (drop (i + 1) xs)) ∙ ap (sum_by (sized_in look)) (sym (from_item xs i x is within)))
    ∙ k

-- ---- heights

pub height_more : (comps : List TypedComponent) (c : ℕ) (heights : List ℕ) {one : ℕ} {more : List ℕ} → one ≡ height comps c → more ≡ heights ++ one ∷ []
    → heights ≡ each_below (height comps) c → more ≡ each_below (height comps) (c + 1)
height_more comps c heights is adds k = adds ∙ ap (λ n. heights ++ n ∷ []) is ∙ ap (λ hs. hs ++ height comps c ∷ []) k ∙ ap (each_below (height comps)) (sym (add-one c))

pub size_end : (o : ℕ) (look : ℕ → Extent) (xs : List ElementOutline) (i total : ℕ) {all : ℕ} → total ≤ o → length xs ≤ i → min o (total + sum_by (sized_in look) (drop i xs)) ≡ all → total ≡ all
size_end o look xs i total few past k =
    let none : sum_by (sized_in look) (drop i xs) ≡ 0 = ap (sum_by (sized_in look)) (drop_all i xs past) in
    omega arith
