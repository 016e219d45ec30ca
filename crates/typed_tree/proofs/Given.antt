-- What an element has from its type, by way of the component that declares it.
use Rattle.std.specs.Prelude.{ℕ, zero, suc, Bool, true, false, if◌then◌else◌, List, [], ◌∷◌, length, slice_get, position, Option, Some, None}
use Rattle.std.specs.Option.{is_some, option_and_then, option_map, option_or}
use Rattle.std.proofs.Common.{◌≡◌, ◌<◌, refl, sym, ◌∙◌, ap, rules, arith}
use Rattle.std.proofs.lemmas.List.Quantifiers.{position-Some}
use Rattle.element_tables.specs.Members.{members}
use Rattle.element_tables.specs.Rows.{named}
use Rattle.typed_tree.specs.declared.members.Member.{Member}
use Rattle.typed_tree.specs.declared.outlines.ComponentOutline.{ComponentOutline}
use Rattle.typed_tree.specs.Declarers.{declares, first_declaring}
use Rattle.typed_tree.specs.Elements.{Lineage}
use Rattle.typed_tree.specs.MemberIndexes.{is_named}
use Rattle.typed_tree.specs.Members.{built_in_found, built_in_of, declared_among, declared_by, given_by, inherited, members_in}
use Rattle.typed_tree.proofs.Numbered.{declared_is, undeclared}

-- an item of a place in a list is there
is_there : {A : Type 0} (xs : List A) (k : ℕ) → k < length xs → is_some (slice_get xs k) ≡ true
is_there [] k h = absurd (omega arith)
is_there (x ∷ xs) zero h = refl
is_there (x ∷ xs) (suc k) h = is_there xs k (omega arith)

found_there : {A : Type 0} (test : A → Bool) (xs : List A) (k : ℕ) → position test xs ≡ Some k → is_some (slice_get xs k) ≡ true
found_there test [] k e = absurd (search (rules, e))
found_there test (x ∷ xs) k e = is_there (x ∷ xs) k (position-Some test (x ∷ xs) k x e).0

still_some : {A B : Type 0} (f : A → B) (x : Option A) → is_some (option_map f x) ≡ is_some x
still_some f None = refl
still_some f (Some x) = refl

-- whether a component's root element declares a name is whether its member is found
declared_told : (e c : ℕ) (name : List ℕ) (ms : List Member) (at : Option ℕ) → position (is_named 0 name) ms ≡ at → is_some (declared_among e c 0 name 0 ms) ≡ is_some at
declared_told e c name ms None at = ap is_some (sym (undeclared e c 0 name ms at))
declared_told e c name ms (Some k) at = ap is_some (sym (declared_is e c 0 name ms ms k (slice_get ms k) refl refl at)) ∙ still_some _ (slice_get ms k) ∙ found_there (is_named 0 name) ms k at

told : (comps : List ComponentOutline) (e c : ℕ) (name : List ℕ) → is_some (declared_by comps e c 0 name) ≡ declares comps name c
told comps e c name = declared_told e c name (members_in (slice_get comps c)) (position (is_named 0 name) (members_in (slice_get comps c))) refl

or_first : {A : Type 0} (x y : Option A) → is_some x ≡ true → option_or x y ≡ x
or_first None y e = cc
or_first (Some x) y e = refl

or_second : {A : Type 0} (x y : Option A) → is_some x ≡ false → option_or x y ≡ y
or_second None y e = refl
or_second (Some x) y e = cc

inherited_step : (comps : List ComponentOutline) (e c : ℕ) (name cs : List ℕ) (t : Bool) → declares comps name c ≡ t
    → inherited comps e name cs ≡ option_and_then (λ d. declared_by comps e d 0 name) (first_declaring comps name cs)
    → inherited comps e name (c ∷ cs) ≡ option_and_then (λ d. declared_by comps e d 0 name) (first_declaring comps name (c ∷ cs))
inherited_step comps e c name cs true has rest = rw has (or_first (declared_by comps e c 0 name) (inherited comps e name cs) (told comps e c name ∙ has))
inherited_step comps e c name cs false has rest = rw has (or_second (declared_by comps e c 0 name) (inherited comps e name cs) (told comps e c name ∙ has) ∙ rest)

inherited_is : (comps : List ComponentOutline) (e : ℕ) (name cs : List ℕ) → inherited comps e name cs ≡ option_and_then (λ d. declared_by comps e d 0 name) (first_declaring comps name cs)
inherited_is comps e name [] = refl
inherited_is comps e name (c ∷ cs) = inherited_step comps e c name cs (declares comps name c) refl (inherited_is comps e name cs)

first_step : (comps : List ComponentOutline) (name cs : List ℕ) (c d : ℕ) (t : Bool) → declares comps name c ≡ t → (if t then Some c else first_declaring comps name cs) ≡ Some d
    → (first_declaring comps name cs ≡ Some d → declares comps name d ≡ true) → declares comps name d ≡ true
first_step comps name cs c d true is e rest =
    let same : c ≡ d = cc in
    rw (← same) is
first_step comps name cs c d false is e rest = rest e

first_declares : (comps : List ComponentOutline) (name cs : List ℕ) (d : ℕ) → first_declaring comps name cs ≡ Some d → declares comps name d ≡ true
first_declares comps name [] d e = cc
first_declares comps name (c ∷ cs) d e = first_step comps name cs c d (declares comps name c) refl e (first_declares comps name cs d)

-- a member is given by the first component of a lineage that declares it
pub given_of_base : (comps : List ComponentOutline) (e : ℕ) (name : List ℕ) (line : Lineage) (c : ℕ) → first_declaring comps name line.comps ≡ Some c → declared_by comps e c 0 name ≡ given_by comps e name line
given_of_base comps e name line c first =
    let from_it : inherited comps e name line.comps ≡ declared_by comps e c 0 name = inherited_is comps e name line.comps ∙ ap (option_and_then (λ d. declared_by comps e d 0 name)) first in
    sym (rw from_it (or_first (declared_by comps e c 0 name) (built_in_of e line.kind name) (told comps e c name ∙ first_declares comps name line.comps c first)))

-- or else by its kind
pub given_of_kind : (comps : List ComponentOutline) (e : ℕ) (name : List ℕ) (line : Lineage) → first_declaring comps name line.comps ≡ None → built_in_of e line.kind name ≡ given_by comps e name line
given_of_kind comps e name line none =
    let from_none : inherited comps e name line.comps ≡ None = inherited_is comps e name line.comps ∙ ap (option_and_then (λ d. declared_by comps e d 0 name)) none in
    sym (rw from_none refl)

pub is_given : (comps : List ComponentOutline) (e : ℕ) (name : List ℕ) (line : Lineage) (c : ℕ) → first_declaring comps name line.comps ≡ Some c → true ≡ is_some (given_by comps e name line)
is_given comps e name line c first = sym (ap is_some (sym (given_of_base comps e name line c first)) ∙ told comps e c name ∙ first_declares comps name line.comps c first)

pub is_built_in : (comps : List ComponentOutline) (e : ℕ) (name : List ℕ) (line : Lineage) → first_declaring comps name line.comps ≡ None
    → is_some (named name (members line.kind)) ≡ is_some (given_by comps e name line)
is_built_in comps e name line none = sym (ap is_some (sym (given_of_kind comps e name line none)) ∙ still_some (built_in_found e) (named name (members line.kind)))
