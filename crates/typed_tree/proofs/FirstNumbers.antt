-- The first numbers of members, one member more.
use Rattle.std.specs.Prelude.{ℕ, zero, suc, Bool, true, false, ◌&&◌, ◌==◌, if◌then◌else◌, cond, List, [], ◌∷◌, ◌++◌, length, slice_get, position, Option, Some, None}
use Rattle.std.specs.BTreeMap.{BTreeMap, Updates}
use Rattle.std.specs.List.{position_from}
use Rattle.std.specs.Cmp.{tied_then}
use Rattle.std.specs.Option.{is_some, option_and_then, option_or}
use Rattle.std.specs.Ordering.{is_eq, nat_cmp}
use Rattle.std.specs.Str.{bytes_eq}
use Rattle.std.proofs.Common.{◌≡◌, refl, sym, ◌∙◌, ap, ◌+◌, ◌<◌, get_or, take, add-one, arith, rules}
use Rattle.std.proofs.lemmas.Grind.{common_steps}
use Rattle.std.proofs.lemmas.Iterator.Adapters.{position_from-zero}
use Rattle.std.proofs.lemmas.List.Quantifiers.{position-Some}
use Rattle.std.proofs.lemmas.List.{length-append, length-take}
use Rattle.std.proofs.Math.Seq.{take-suc}
use Rattle.std.proofs.lemmas.Slice.Eq.{bytes_eq-Decides}
use Rattle.typed_tree.specs.declared.member_indexes.MemberIndex.{MemberIndex}
use Rattle.typed_tree.specs.declared.members.Member.{Member}
use Rattle.typed_tree.specs.declared.outlines.ComponentOutline.{ComponentOutline}
use Rattle.typed_tree.specs.Indexes.{member_names}
use Rattle.typed_tree.specs.MemberIndexes.{AddsFirst, AreFirst, FindsMembers, FindsNumbers, is_named, number_at, number_in, pair_cmp, with_first}
use Rattle.typed_tree.specs.Members.{members_in}
use Rattle.typed_tree.proofs.Listed.{position-map}

-- two bytes strings that are told to be the same are
pub same_bytes : (xs ys : List ℕ) → bytes_eq xs ys ≡ true → xs ≡ ys
same_bytes xs ys t = search (rules, bytes_eq-Decides xs ys)

pub own_bytes : (xs : List ℕ) → bytes_eq xs xs ≡ true
own_bytes xs = search (rules, bytes_eq-Decides xs xs)

-- a pair is found at itself alone
same_number : (a b : ℕ) → is_eq (nat_cmp a b) ≡ (a == b)
same_number a b = grind (arith, common_steps)

same_pair : (a b c d : ℕ) → is_eq (pair_cmp (a, b) (c, d)) ≡ ((a == c) && (b == d))
same_pair a b c d = sym (tied_then (nat_cmp a c) (nat_cmp b d)) ∙ rw (same_number a c, same_number b d) refl

both_same : (a b c d : ℕ) → ((a == c) && (b == d)) ≡ true → (a ≡ c) × (b ≡ d)
both_same a b c d t = grind (arith, common_steps)

-- the first place in a longer list
push_step : (n : ℕ) (rest pushed : Option ℕ) (a b : Bool) (k j : ℕ) → pushed ≡ option_or rest (if b then Some k else None) → k ≡ j
    → cond a (Some n) pushed ≡ option_or (cond a (Some n) rest) (if b then Some j else None)
push_step n rest pushed true b k j e s = refl
push_step n rest pushed false b k j e s = rw (← s) e

push_from : {A : Type 0} (test : A → Bool) (n : ℕ) (xs : List A) (y : A) → position_from test n (xs ++ y ∷ []) ≡ option_or (position_from test n xs) (if test y then Some (n + length xs) else None)
push_from test n [] y =
    let none : n + 0 ≡ n = omega arith in
    rw none refl
push_from test n (x ∷ xs) y =
    let shift : n + 1 + length xs ≡ n + suc (length xs) = omega arith in
    push_step n (position_from test (n + 1) xs) (position_from test (n + 1) (xs ++ y ∷ [])) (test x) (test y) (n + 1 + length xs) (n + suc (length xs)) (push_from test (n + 1) xs y) shift

position-push : {A : Type 0} (test : A → Bool) (xs : List A) (y : A) → position test (xs ++ y ∷ []) ≡ option_or (position test xs) (if test y then Some (length xs) else None)
position-push test xs y =
    let zero_on : 0 + length xs ≡ length xs = omega arith in
    position_from-zero test (xs ++ y ∷ []) ∙ push_from test 0 xs y ∙ ap (λ p. option_or p (if test y then Some (0 + length xs) else None)) (sym (position_from-zero test xs))
    ∙ ap (λ n. option_or (position test xs) (if test y then Some n else None)) zero_on

-- a number is noted where none was, and nothing changes where one was
noted_at : (t : Bool) (old : Option ℕ) (number : ℕ) → (t ≡ true → is_some old ≡ false) → cond t (Some number) old ≡ with_first t old number
noted_at true None number free = refl
noted_at true (Some x) number free = absurd (search (rules, free refl))
noted_at false old number free = refl

pub noted : (old new : BTreeMap (ℕ × ℕ) ℕ) (a b number : ℕ) → Updates pair_cmp old new (a, b) (Some number) → is_some (number_at old a b) ≡ false → AddsFirst old new a (Some b) number
noted old new a b number adds free = λ p q.
    let moved : ((a == p) && (b == q)) ≡ true → is_some (number_at old p q) ≡ false =
    λ t. rw (← (both_same a b p q t).0, ← (both_same a b p q t).1) free in
    adds.0 (p, q) ∙ rw (same_pair a b p q) (noted_at ((a == p) && (b == q)) (number_at old p q) number moved)

-- two names have one first place where they are the same
same_place : (names : List (List ℕ)) (a b : List ℕ) (k f : ℕ) (t u : Bool) → position (λ x. bytes_eq x a) names ≡ Some k → position (λ x. bytes_eq x b) names ≡ Some f → bytes_eq a b ≡ t → (k == f) ≡ u → u ≡ t
same_place names a b k f true true at bt same u = refl
same_place names a b k f false false at bt same u = refl
same_place names a b k f true false at bt same u =
    let names_same : a ≡ b = same_bytes a b same in
    let places_same : Some k ≡ Some f = sym at ∙ rw names_same bt in
    let k_f : k ≡ f = cc in
    absurd (grind (arith, common_steps))
same_place names a b k f false true at bt same u =
    let k_f : k ≡ f = grind (arith, common_steps) in
    let of_a : get_or names k [] ≡ a = same_bytes _ _ (position-Some (λ x. bytes_eq x a) names k [] at).1 in
    let of_b : get_or names f [] ≡ b = same_bytes _ _ (position-Some (λ x. bytes_eq x b) names f [] bt).1 in
    let a_b : a ≡ b = sym of_a ∙ ap (λ n. get_or names n []) k_f ∙ of_b in
    absurd (search (rules, own_bytes b, rw a_b at same))

-- one member more
added : (e : ℕ) (name : List ℕ) (m : Member) (old : Option ℕ) (t : Bool) (number : ℕ) → with_first t old number ≡ option_or old (if t then Some number else None)
added e name m old true number = refl
added e name m None false number = refl
added e name m (Some x) false number = refl

unnamed : (names : List (List ℕ)) (e f : ℕ) (name : List ℕ) (m : Member) (t : Bool) → position (λ x. bytes_eq x m.name.name) names ≡ None → position (λ x. bytes_eq x name) names ≡ Some f → bytes_eq m.name.name name ≡ t → t ≡ false
unnamed names e f name m false none some is = refl
unnamed names e f name m true none some is =
    let same : m.name.name ≡ name = same_bytes _ _ is in
    let has : position (λ x. bytes_eq x m.name.name) names ≡ Some f = rw same some in
    absurd (search (rules, sym none ∙ has))

false_and : (b : Bool) → (b && false) ≡ false
false_and true = refl
false_and false = refl

grows_by : (names : List (List ℕ)) (before : List Member) (m : Member) (old new : BTreeMap (ℕ × ℕ) ℕ) (number : ℕ) (first : Option ℕ) → position (λ x. bytes_eq x m.name.name) names ≡ first
    → AddsFirst old new m.element first number → length before ≡ number → AreFirst names before old → (e f : ℕ) (name : List ℕ) → position (λ x. bytes_eq x name) names ≡ Some f
    → number_at new e f ≡ option_or (position (is_named e name) before) (if is_named e name m then Some (length before) else None)
grows_by names before m old new number None at adds is_last held e f name has =
    let other : bytes_eq m.name.name name ≡ false = unnamed names e f name m (bytes_eq m.name.name name) at has refl in
    adds e f ∙ held e f name has ∙ rw (other, false_and (m.element == e)) (added e name m (position (is_named e name) before) false 0)
grows_by names before m old new number (Some k) at adds is_last held e f name has =
    let same : (k == f) ≡ bytes_eq m.name.name name = same_place names m.name.name name k f (bytes_eq m.name.name name) (k == f) at has refl refl in
    adds e f ∙ rw (held e f name has, same, ← is_last) (added e name m (position (is_named e name) before) (is_named e name m) (length before))

pub grows : (names : List (List ℕ)) (before longer : List Member) (m : Member) (old new : BTreeMap (ℕ × ℕ) ℕ) (number : ℕ) (first : Option ℕ) → longer ≡ before ++ m ∷ [] → first ≡ position (λ x. bytes_eq x m.name.name) names
    → AddsFirst old new m.element first number → length before ≡ number → AreFirst names before old → AreFirst names longer new
grows names before longer m old new number first is at adds is_last held = λ e f name has.
    rw is (grows_by names before m old new number first (sym at) adds is_last held e f name has ∙ sym (position-push (is_named e name) before m))

-- an index finds what it should
none_step : (n e : ℕ) (name : List ℕ) (m : Member) (ms : List Member) (t : Bool) → bytes_eq m.name.name name ≡ t → cond t (Some n) (position_from (λ m. bytes_eq m.name.name name) (n + 1) ms) ≡ None
    → (position_from (λ m. bytes_eq m.name.name name) (n + 1) ms ≡ None → position_from (is_named e name) (n + 1) ms ≡ None) → position_from (is_named e name) n (m ∷ ms) ≡ None
none_step n e name m ms true is none rest = absurd (search (rules, none))
none_step n e name m ms false is none rest = rw (is, false_and (m.element == e)) (rest none)

none_from : (n e : ℕ) (name : List ℕ) (ms : List Member) → position_from (λ m. bytes_eq m.name.name name) n ms ≡ None → position_from (is_named e name) n ms ≡ None
none_from n e name [] none = refl
none_from n e name (m ∷ ms) none = none_step n e name m ms (bytes_eq m.name.name name) refl none (none_from (n + 1) e name ms)

no_number : (e : ℕ) (name : List ℕ) (ms : List Member) → position (λ x. bytes_eq x name) (member_names ms) ≡ None → None ≡ position (is_named e name) ms
no_number e name ms none =
    sym (position_from-zero (is_named e name) ms ∙ none_from 0 e name ms (sym (position_from-zero (λ m. bytes_eq m.name.name name) ms) ∙ sym (position-map (λ x. bytes_eq x name) (λ m. m.name.name) ms) ∙ none))

finds_by : (names : List (List ℕ)) (ms : List Member) (numbers : BTreeMap (ℕ × ℕ) ℕ) (e : ℕ) (name : List ℕ) (first : Option ℕ) → position (λ x. bytes_eq x name) names ≡ first → names ≡ member_names ms → AreFirst names ms numbers
    → option_and_then (λ f. number_at numbers e f) first ≡ position (is_named e name) ms
finds_by names ms numbers e name None at are held = no_number e name ms (rw are at at)
finds_by names ms numbers e name (Some f) at are held = held e f name at

pub finds : (names : List (List ℕ)) (ms : List Member) (numbers : BTreeMap (ℕ × ℕ) ℕ) → names ≡ member_names ms → AreFirst names ms numbers → FindsNumbers ms (record { names = names; numbers = numbers })
finds names ms numbers are held = λ e name. finds_by names ms numbers e name (position (λ x. bytes_eq x name) names) refl are held

-- one component more
pub finds_more : (comps : List ComponentOutline) (indexes : List MemberIndex) (comp : ComponentOutline) (index : MemberIndex) → length indexes ≡ length comps → FindsMembers comps indexes → FindsNumbers comp.members index
    → (c e : ℕ) (name : List ℕ) → number_in (slice_get (indexes ++ index ∷ []) c) e name ≡ position (is_named e name) (members_in (slice_get (comps ++ comp ∷ []) c))
finds_more [] [] comp index same held here zero e name = here e name
finds_more [] [] comp index same held here (suc c) e name = refl
finds_more [] (i ∷ is) comp index same held here c e name = cc
finds_more (x ∷ xs) [] comp index same held here c e name = cc
finds_more (x ∷ xs) (i ∷ is) comp index same held here zero e name = held 0 e name
finds_more (x ∷ xs) (i ∷ is) comp index same held here (suc c) e name =
    let shorter : length is ≡ length xs = cc in
    let rest : FindsMembers xs is = λ d. held (suc d) in
    finds_more xs is comp index shorter rest here c e name

pub finds_longer : (comps longer : List ComponentOutline) (indexes more : List MemberIndex) (comp : ComponentOutline) (index : MemberIndex) → longer ≡ comps ++ comp ∷ [] → more ≡ indexes ++ index ∷ [] → length indexes ≡ length comps
    → FindsMembers comps indexes → FindsNumbers comp.members index → FindsMembers longer more
finds_longer comps longer indexes more comp index is goes same held here = rw (is, goes) (finds_more comps indexes comp index same held here)

-- a list up to the next item
pub more_taken : {A : Type 0} (xs : List A) (i : ℕ) (x : A) → i < length xs → x ≡ get_or xs i x → take (i + 1) xs ≡ take i xs ++ x ∷ []
more_taken xs i x below is = rw (add-one i) (take-suc xs i x below ∙ ap (λ y. take i xs ++ y ∷ []) (sym is))

pub taken_length : {A : Type 0} (xs : List A) (i : ℕ) → i < length xs → length (take i xs) ≡ i
taken_length xs i below = simp length-take (omega arith)

pub longer_still : {A : Type 0} (xs longer : List A) (x : A) (i : ℕ) → longer ≡ xs ++ x ∷ [] → length xs ≡ i → length longer ≡ i + 1
longer_still xs longer x i is same = rw (is, length-append xs (x ∷ []), same) refl
