-- A source has one verdict at most, and one at least.
use Rattle.std.proofs.Common.{◌≡◌, ℕ, List, Option, Some, None, refl, sym, ap, ◌∙◌, subst}
use Rattle.slint_base.specs.declared.faults.Fault.{Fault}
use Rattle.fault_order.specs.Order.{FirstIfAny, IsFirst, NoFault}
use Rattle.fault_order.proofs.First.{one_first}
use Rattle.import_resolver.specs.Loaded.{FileRow, rows_seen}
use Rattle.import_resolver.specs.Loads.{World as Files, Outcome as Load, Goes, Stops, LoadsMain}
use Rattle.typed_tree.specs.declared.trees.TypedTree.{TypedTree}
use Rattle.type_resolver.specs.Resolves.{IsBroken, IsResolved, SomeResolution, resolved, broken}
use Rattle.loop_check.specs.Purity.{PurityFault}
use Rattle.slint_meaning.specs.Verdicts.{Verdict, accepted, rejected, refusal_in, SourceFault, of_names, of_purity, IsSound, sound, first_alone, if_first, FilesHave, with_fault, without_fault, LoadHas, HasVerdict}

-- ---- what is known of loads, of names and types, and of purity

abbrev pub OneLoad : Type 0
OneLoad = (w : Files) (main : List ℕ) (o p : Load) → LoadsMain w main o → LoadsMain w main p → o ≡ p

abbrev pub SomeLoad : Type 0
SomeLoad = (w : Files) (main : List ℕ) → (o : Load) × LoadsMain w main o

abbrev pub OneTree : Type 0
OneTree = (rows : List FileRow) (named : Option (List ℕ)) (t u : TypedTree) → IsResolved rows named t → IsResolved rows named u → t ≡ u

abbrev pub OneFault : Type 0
OneFault = (rows : List FileRow) (named : Option (List ℕ)) (f g : Fault) → IsBroken rows named f → IsBroken rows named g → f ≡ g

abbrev pub NotBoth : Type 0
NotBoth = (rows : List FileRow) (named : Option (List ℕ)) (t : TypedTree) (f : Fault) → IsResolved rows named t → IsBroken rows named f → ⊥

abbrev pub SomeTree : Type 0
SomeTree = (rows : List FileRow) (named : Option (List ℕ)) → SomeResolution rows named

abbrev pub SomePurity : Type 0
SomePurity = (tree : TypedTree) → (o : Option Fault) × FirstIfAny (PurityFault tree) o

-- ---- loaded files

one_fault : OneTree → OneFault → NotBoth → (rows : List FileRow) (named : Option (List ℕ)) (f g : Fault) → SourceFault rows named f → SourceFault rows named g → f ≡ g
one_fault trees faults both rows named f g (of_names a) (of_names b) = faults rows named f g a b
one_fault trees faults both rows named f g (of_names a) (of_purity {tree} r b) = absurd (both rows named tree f r a)
one_fault trees faults both rows named f g (of_purity {tree} r a) (of_names b) = absurd (both rows named tree g r b)
one_fault trees faults both rows named f g (of_purity {tree = t} r a) (of_purity {tree = u} q b) =
    let P : TypedTree → Type 0 = λ x. IsFirst (PurityFault x) f in
    one_first {P = PurityFault u} f g (subst P (trees rows named t u r q) a) b

no_fault : OneTree → NotBoth → (rows : List FileRow) (named : Option (List ℕ)) (f : Fault) → IsSound rows named → SourceFault rows named f → ⊥
no_fault trees both rows named f (sound {tree = t} r none) (of_names b) = both rows named t f r b
no_fault trees both rows named f (sound {tree = t} r none) (of_purity {tree = u} q b) =
    let P : TypedTree → Type 0 = λ x. NoFault (PurityFault x) in
    subst P (trees rows named t u r q) none f b.has

one_of_files : OneTree → OneFault → NotBoth → (main : List ℕ) (named : Option (List ℕ)) (rows : List FileRow) (a b : Verdict) → FilesHave main named rows a → FilesHave main named rows b → a ≡ b
one_of_files trees faults both main named rows a b (with_fault {f} x p) (with_fault {f = g} y q) =
    p ∙ ap (λ h. rejected (refusal_in main rows h)) (one_fault trees faults both rows named f g x y) ∙ sym q
one_of_files trees faults both main named rows a b (with_fault {f} x p) (without_fault y q) = absurd (no_fault trees both rows named f y x)
one_of_files trees faults both main named rows a b (without_fault x p) (with_fault {f = g} y q) = absurd (no_fault trees both rows named g x y)
one_of_files trees faults both main named rows a b (without_fault x p) (without_fault y q) = p ∙ sym q

pure_or_not : (main : List ℕ) (named : Option (List ℕ)) (rows : List FileRow) (tree : TypedTree) → IsResolved rows named tree → (o : Option Fault) → FirstIfAny (PurityFault tree) o → (v : Verdict) × FilesHave main named rows v
pure_or_not main named rows tree r None none = (if_first main (first_alone rows), without_fault (sound r none) refl)
pure_or_not main named rows tree r (Some f) first = (rejected (refusal_in main rows f), with_fault (of_purity r first) refl)

some_of_files : SomePurity → (main : List ℕ) (named : Option (List ℕ)) (rows : List FileRow) → SomeResolution rows named → (v : Verdict) × FilesHave main named rows v
some_of_files pure main named rows (resolved {tree} r) = let p = pure tree in pure_or_not main named rows tree r p.0 p.1
some_of_files pure main named rows (broken {f} b) = (rejected (refusal_in main rows f), with_fault (of_names b) refl)

-- ---- sources

one_of_load : OneTree → OneFault → NotBoth → (main : List ℕ) (named : Option (List ℕ)) (o : Load) (a b : Verdict) → LoadHas main named o a → LoadHas main named o b → a ≡ b
one_of_load trees faults both main named (Goes s) a b h g = one_of_files trees faults both main named (rows_seen main s.seen) a b h g
one_of_load trees faults both main named (Stops refusal) a b h g = h ∙ sym g

pub same_verdict : OneLoad → OneTree → OneFault → NotBoth → (w : Files) (main : List ℕ) (named : Option (List ℕ)) (a b : Verdict) → HasVerdict w main named a → HasVerdict w main named b → a ≡ b
same_verdict loads trees faults both w main named a b h g =
    let P : Load → Type 0 = λ o. LoadHas main named o a in
    one_of_load trees faults both main named g.0 a b (subst P (loads w main h.0 g.0 h.1 g.1) h.2) g.2

some_of_load : SomeTree → SomePurity → (main : List ℕ) (named : Option (List ℕ)) (o : Load) → (v : Verdict) × LoadHas main named o v
some_of_load trees pure main named (Goes s) = some_of_files pure main named (rows_seen main s.seen) (trees (rows_seen main s.seen) named)
some_of_load trees pure main named (Stops refusal) = (rejected refusal, refl)

pub has_verdict : SomeLoad → SomeTree → SomePurity → (w : Files) (main : List ℕ) (named : Option (List ℕ)) → (v : Verdict) × HasVerdict w main named v
has_verdict loads trees pure w main named =
    let load = loads w main in
    let verdict = some_of_load trees pure main named load.0 in
    (verdict.0, (load.0, load.1, verdict.1))
