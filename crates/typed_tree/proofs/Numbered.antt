-- Members found by name, by way of their numbers.
use Rattle.std.specs.Prelude.{ℕ, zero, suc, Bool, true, false, List, [], ◌∷◌, slice_get, position, Option, Some, None, Result, IfOk}
use Rattle.std.specs.List.{position_from}
use Rattle.std.specs.Option.{option_and_then}
use Rattle.std.specs.Str.{bytes_eq}
use Rattle.std.proofs.Common.{◌≡◌, refl, sym, ◌∙◌, ap, subst, add-one}
use Rattle.std.proofs.lemmas.Iterator.Adapters.{position_from-zero}
use Rattle.std.proofs.Math.ListN.{drop}
use Rattle.slint_base.specs.declared.endings.Memory.{Memory}
use Rattle.typed_tree.specs.declared.members.ElementMember.TheVariants as element_member
use Rattle.typed_tree.specs.declared.members.Found.{Found}
use Rattle.typed_tree.specs.declared.members.Member.{Member}
use Rattle.typed_tree.specs.declared.members.MemberRef.TheVariants as member_ref
use Rattle.typed_tree.specs.declared.members.Owner.TheVariants as owners
use Rattle.typed_tree.specs.Finding.{found_with}
use Rattle.typed_tree.specs.MemberIndexes.{is_named}
use Rattle.typed_tree.specs.Members.{declared_among, global_among}

-- the item in front of the rest of a list
pub front : {A : Type 0} (all : List A) (n : ℕ) (x : A) (xs : List A) → drop n all ≡ x ∷ xs → (slice_get all n ≡ Some x) × (drop (suc n) all ≡ xs)
front [] zero x xs e = cc
front [] (suc n) x xs e = cc
front (y ∷ ys) zero x xs e = (cc, cc)
front (y ∷ ys) (suc n) x xs e = front ys n x xs e

-- the member of a number, and the test of a name
abbrev in_component : ℕ → ℕ → List Member → ℕ → Option Found
in_component e c all k = found_with (member_ref.Element e (element_member.Declared c k)) (owners.Component c) (slice_get all k)

declared_step : (e c inside : ℕ) (name : List ℕ) (all : List Member) (n : ℕ) (m : Member) (ms : List Member) → drop n all ≡ m ∷ ms → (b : Bool) → is_named inside name m ≡ b
    → declared_among e c inside name (suc n) ms ≡ option_and_then (in_component e c all) (position_from (is_named inside name) (suc n) ms)
    → declared_among e c inside name n (m ∷ ms) ≡ option_and_then (in_component e c all) (position_from (is_named inside name) n (m ∷ ms))
declared_step e c inside name all n m ms h true is rest = rw (is, (front all n m ms h).0) refl
declared_step e c inside name all n m ms h false is rest = rw (is, add-one n) rest

declared_from : (e c inside : ℕ) (name : List ℕ) (all : List Member) (n : ℕ) (ms : List Member) → drop n all ≡ ms
    → declared_among e c inside name n ms ≡ option_and_then (in_component e c all) (position_from (is_named inside name) n ms)
declared_from e c inside name all n [] h = refl
declared_from e c inside name all n (m ∷ ms) h = declared_step e c inside name all n m ms h (is_named inside name m) refl (declared_from e c inside name all (suc n) ms (front all n m ms h).1)

declared_at : (e c inside : ℕ) (name : List ℕ) (ms : List Member) → declared_among e c inside name 0 ms ≡ option_and_then (in_component e c ms) (position (is_named inside name) ms)
declared_at e c inside name ms = declared_from e c inside name ms 0 ms refl ∙ ap (option_and_then (in_component e c ms)) (sym (position_from-zero (is_named inside name) ms))

-- where a name has a number, its member is found, and else none
pub declared_is : (e c inside : ℕ) (name : List ℕ) (ms shown : List Member) (k : ℕ) (m : Option Member) → m ≡ slice_get shown k → shown ≡ ms → position (is_named inside name) ms ≡ Some k
    → found_with (member_ref.Element e (element_member.Declared c k)) (owners.Component c) m ≡ declared_among e c inside name 0 ms
declared_is e c inside name ms shown k m at same has = rw (at, same) (sym (declared_at e c inside name ms ∙ ap (option_and_then (in_component e c ms)) has))

pub undeclared : (e c inside : ℕ) (name : List ℕ) (ms : List Member) → position (is_named inside name) ms ≡ None → None ≡ declared_among e c inside name 0 ms
undeclared e c inside name ms lacks = sym (declared_at e c inside name ms ∙ ap (option_and_then (in_component e c ms)) lacks)

-- the same of a global
abbrev in_global : ℕ → List Member → ℕ → Option Found
in_global g all k = found_with (member_ref.Global g k) (owners.Global g) (slice_get all k)

abbrev pub is_called : List ℕ → Member → Bool
is_called name m = bytes_eq m.name.name name

global_step : (g : ℕ) (name : List ℕ) (all : List Member) (n : ℕ) (m : Member) (ms : List Member) → drop n all ≡ m ∷ ms → (b : Bool) → is_called name m ≡ b
    → global_among g name (suc n) ms ≡ option_and_then (in_global g all) (position_from (is_called name) (suc n) ms)
    → global_among g name n (m ∷ ms) ≡ option_and_then (in_global g all) (position_from (is_called name) n (m ∷ ms))
global_step g name all n m ms h true is rest = rw (is, (front all n m ms h).0) refl
global_step g name all n m ms h false is rest = rw (is, add-one n) rest

global_from : (g : ℕ) (name : List ℕ) (all : List Member) (n : ℕ) (ms : List Member) → drop n all ≡ ms
    → global_among g name n ms ≡ option_and_then (in_global g all) (position_from (is_called name) n ms)
global_from g name all n [] h = refl
global_from g name all n (m ∷ ms) h = global_step g name all n m ms h (is_called name m) refl (global_from g name all (suc n) ms (front all n m ms h).1)

global_at : (g : ℕ) (name : List ℕ) (ms : List Member) → global_among g name 0 ms ≡ option_and_then (in_global g ms) (position (is_called name) ms)
global_at g name ms = global_from g name ms 0 ms refl ∙ ap (option_and_then (in_global g ms)) (sym (position_from-zero (is_called name) ms))

pub global_is : (g : ℕ) (name : List ℕ) (ms shown : List Member) (k : ℕ) (m : Option Member) → m ≡ slice_get shown k → shown ≡ ms → position (is_called name) ms ≡ Some k
    → found_with (member_ref.Global g k) (owners.Global g) m ≡ global_among g name 0 ms
global_is g name ms shown k m at same has = rw (at, same) (sym (global_at g name ms ∙ ap (option_and_then (in_global g ms)) has))

pub no_global : (g : ℕ) (name : List ℕ) (ms : List Member) → position (is_called name) ms ≡ None → None ≡ global_among g name 0 ms
no_global g name ms lacks = sym (global_at g name ms ∙ ap (option_and_then (in_global g ms)) lacks)

-- what a call gives, told in another word
pub told_as : (r : Result (Option Found) Memory) (x y : Option Found) → x ≡ y → IfOk r (λ found. found ≡ x) → IfOk r (λ found. found ≡ y)
told_as r x y same h = let P : Option Found → Type 0 = λ z. IfOk r (λ found. found ≡ z) in subst P same h
