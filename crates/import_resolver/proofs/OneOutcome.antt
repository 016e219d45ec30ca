-- A load has one outcome.
use Rattle.std.proofs.Common.{◌≡◌, ℕ, List, [], ◌∷◌, ◌++◌, length, Option, None, Some, Result, Ok, Err, refl, sym, ap, ◌∙◌, subst, rules}
use Rattle.slint_base.specs.declared.faults.Fault.{Fault}
use Rattle.slint_base.specs.declared.refusals.Refusal.{Refusal}
use Rattle.slint_base.specs.Refusals.{refusal_of}
use Rattle.syntax_tree.specs.declared.files.File.{File}
use Rattle.file_exports.specs.Imports.{Import, imports_among}
use Rattle.source_reader.specs.Sources.{IsRead}
use Rattle.import_resolver.specs.Loads.{World, Seen, State, Asked, Next, Known, TooMany, Fresh, Target, Outside, Loop, To, Job, Whole, Every, Outcome, Goes, Stops, seen_of, begun, after_imports, after_file, Loads, known, too_many, missing, broken, read, outside, looped, taken, no_more, first_stops, then_rest}

-- a file has one reading
abbrev pub OneReading : Type 0
OneReading = (file : ℕ) (bytes : List ℕ) (a b : Result File Fault) → IsRead file bytes a → IsRead file bytes b → a ≡ b

-- ---- what is one thing isn't another

none_some : {A : Type 0} {o : Option A} {x : A} → o ≡ None → o ≡ Some x → ⊥
none_some e f = search (rules, e, f)

some_same : {A : Type 0} {o : Option A} {x y : A} → o ≡ Some x → o ≡ Some y → x ≡ y
some_same e f = search (rules, e, f)

known_full : {next : Next} → next ≡ Known → next ≡ TooMany → ⊥
known_full e f = search (rules, e, f)

known_fresh : {next : Next} → next ≡ Known → next ≡ Fresh → ⊥
known_fresh e f = search (rules, e, f)

full_fresh : {next : Next} → next ≡ TooMany → next ≡ Fresh → ⊥
full_fresh e f = search (rules, e, f)

outside_loop : {target : Target} → target ≡ Outside → target ≡ Loop → ⊥
outside_loop e f = search (rules, e, f)

outside_to : {target : Target} {name : List ℕ} → target ≡ Outside → target ≡ To name → ⊥
outside_to e f = search (rules, e, f)

loop_to : {target : Target} {name : List ℕ} → target ≡ Loop → target ≡ To name → ⊥
loop_to e f = search (rules, e, f)

to_same : {target : Target} {a b : List ℕ} → target ≡ To a → target ≡ To b → a ≡ b
to_same e f = search (rules, e, f)

apart : {refusal : Refusal} {s : State} → Stops refusal ≡ Goes s → ⊥
apart e = search (rules, e)

goes_same : {s t : State} → Goes s ≡ Goes t → s ≡ t
goes_same e = search (rules, e)

-- ---- one file

same_tree : OneReading → {n : ℕ} {a b : List ℕ} {t u : File} → a ≡ b → IsRead n a (Ok t) → IsRead n b (Ok u) → t ≡ u
same_tree law {n} {a} {b} {t} {u} e x y = let same = law n a (Ok t) (Ok u) x (subst (λ (z : List ℕ). IsRead n z (Ok u)) (sym e) y) in cc

fault_by : OneReading → (n : ℕ) (a : List ℕ) (f g : Fault) → IsRead n a (Err f) → IsRead n a (Err g) → f ≡ g
fault_by law n a f g x y = let same = law n a (Err f) (Err g) x y in cc

same_fault : OneReading → {n : ℕ} {name a b : List ℕ} {f g : Fault} → a ≡ b → IsRead n a (Err f) → IsRead n b (Err g) → Stops (refusal_of name a f) ≡ Stops (refusal_of name b g)
same_fault law {n} {name} {a} {b} {f} {g} e x y =
    ap (λ z. Stops (refusal_of name z f)) e ∙ ap (λ z. Stops (refusal_of name b z)) (fault_by law n b f g (subst (λ (z : List ℕ). IsRead n z (Err f)) e x) y)

source_or_fault : OneReading → {n : ℕ} {a b : List ℕ} {t : File} {f : Fault} → a ≡ b → IsRead n a (Ok t) → IsRead n b (Err f) → ⊥
source_or_fault law {n} {a} {b} {t} {f} e x y = let same = law n a (Ok t) (Err f) x (subst (λ (z : List ℕ). IsRead n z (Err f)) (sym e) y) in cc

-- ---- the same load, by what it was of

again : {w : World} {main : List ℕ} (loading : List (List ℕ)) (s : State) {o : Outcome} {name a b : List ℕ} {t u : File} → a ≡ b → t ≡ u
    → Loads w main (loading ++ name ∷ []) (Every (seen_of name b u) (imports_among u.items)) (begun s (seen_of name b u)) o
    → Loads w main (loading ++ name ∷ []) (Every (seen_of name a t) (imports_among t.items)) (begun s (seen_of name a t)) o
again {w} {main} loading s {o} {name} {a} {b} {t} {u} e f x =
    subst (λ (z : List ℕ). Loads w main (loading ++ name ∷ []) (Every (seen_of name z t) (imports_among t.items)) (begun s (seen_of name z t)) o) (sym e)
    (subst (λ (z : File). Loads w main (loading ++ name ∷ []) (Every (seen_of name b z) (imports_among z.items)) (begun s (seen_of name b z)) o) (sym f) x)

at_name : {w : World} {main : List ℕ} {loading : List (List ℕ)} {asked : Asked} {s : State} {o : Outcome} {a b : List ℕ} → a ≡ b → Loads w main loading (Whole asked b) s o → Loads w main loading (Whole asked a) s o
at_name {w} {main} {loading} {asked} {s} {o} e x = subst (λ (z : List ℕ). Loads w main loading (Whole asked z) s o) (sym e) x

from_state : {w : World} {main : List ℕ} {loading : List (List ℕ)} {job : Job} {s t : State} {o : Outcome} → s ≡ t → Loads w main loading job t o → Loads w main loading job s o
from_state {w} {main} {loading} {job} {s} {t} {o} e x = subst (λ (z : State). Loads w main loading job z o) (sym e) x

-- ---- the same end, by what went before

read_same : (main : List ℕ) (n : ℕ) (name : List ℕ) {a b : List ℕ} {t u : File} {o o' p p' : Outcome} → a ≡ b → t ≡ u → o ≡ o'
    → p ≡ after_imports main n (seen_of name a t) o → p' ≡ after_imports main n (seen_of name b u) o' → p ≡ p'
read_same main n name {a} {b} {t} {u} {o} {o'} e f g h k =
    h ∙ (ap (λ (z : List ℕ). after_imports main n (seen_of name z t) o) e
    ∙ (ap (λ (z : File). after_imports main n (seen_of name b z) o) f ∙ (ap (λ (z : Outcome). after_imports main n (seen_of name b u) z) g ∙ sym k)))

taken_same : (importer : Seen) (import : Import) {a b : List ℕ} {o o' p p' : Outcome} → a ≡ b → o ≡ o' → p ≡ after_file importer import a o → p' ≡ after_file importer import b o' → p ≡ p'
taken_same importer import {a} {b} {o} {o'} e g h k =
    h ∙ (ap (λ (z : List ℕ). after_file importer import z o) e ∙ (ap (λ (z : Outcome). after_file importer import b z) g ∙ sym k))

pub same : OneReading → {w : World} {main : List ℕ} {loading : List (List ℕ)} {job : Job} {s : State} {o p : Outcome} → Loads w main loading job s o → Loads w main loading job s p → o ≡ p
same law (known e1) (known e2) = refl
same law (known e1) (too_many e2) = absurd (known_full e1 e2)
same law (known e1) (missing e2 m2) = absurd (known_fresh e1 e2)
same law (known e1) (broken e2 m2 f2) = absurd (known_fresh e1 e2)
same law (known e1) (read e2 m2 t2 x2 h2) = absurd (known_fresh e1 e2)
same law (too_many e1) (known e2) = absurd (known_full e2 e1)
same law (too_many e1) (too_many e2) = refl
same law (too_many e1) (missing e2 m2) = absurd (full_fresh e1 e2)
same law (too_many e1) (broken e2 m2 f2) = absurd (full_fresh e1 e2)
same law (too_many e1) (read e2 m2 t2 x2 h2) = absurd (full_fresh e1 e2)
same law (missing e1 m1) (known e2) = absurd (known_fresh e2 e1)
same law (missing e1 m1) (too_many e2) = absurd (full_fresh e2 e1)
same law (missing e1 m1) (missing e2 m2) = refl
same law (missing e1 m1) (broken e2 m2 f2) = absurd (none_some m1 m2)
same law (missing e1 m1) (read e2 m2 t2 x2 h2) = absurd (none_some m1 m2)
same law (broken e1 m1 f1) (known e2) = absurd (known_fresh e2 e1)
same law (broken e1 m1 f1) (too_many e2) = absurd (full_fresh e2 e1)
same law (broken e1 m1 f1) (missing e2 m2) = absurd (none_some m2 m1)
same law (broken e1 m1 f1) (broken e2 m2 f2) = same_fault law (some_same m1 m2) f1 f2
same law (broken e1 m1 f1) (read e2 m2 t2 x2 h2) = absurd (source_or_fault law (some_same m2 m1) t2 f1)
same law (read e1 m1 t1 x1 h1) (known e2) = absurd (known_fresh e2 e1)
same law (read e1 m1 t1 x1 h1) (too_many e2) = absurd (full_fresh e2 e1)
same law (read e1 m1 t1 x1 h1) (missing e2 m2) = absurd (none_some m2 m1)
same law (read e1 m1 t1 x1 h1) (broken e2 m2 f2) = absurd (source_or_fault law (some_same m1 m2) t1 f2)
same law {main = root} (read {loading = files} {s = before} e1 m1 t1 x1 h1) (read e2 m2 t2 x2 h2) = let bytes = some_same m1 m2 in let tree = same_tree law bytes t1 t2 in read_same root (length before.seen) _ bytes tree (same law x1 (again files before bytes tree x2)) h1 h2
same law (outside e1) (outside e2) = refl
same law (outside e1) (looped e2) = absurd (outside_loop e1 e2)
same law (outside e1) (taken e2 x2 h2) = absurd (outside_to e1 e2)
same law (looped e1) (outside e2) = absurd (outside_loop e2 e1)
same law (looped e1) (looped e2) = refl
same law (looped e1) (taken e2 x2 h2) = absurd (loop_to e1 e2)
same law (taken e1 x1 h1) (outside e2) = absurd (outside_to e2 e1)
same law (taken e1 x1 h1) (looped e2) = absurd (loop_to e2 e1)
same law (taken {importer = who} {import = what} e1 x1 h1) (taken e2 x2 h2) = let name = to_same e1 e2 in taken_same who what name (same law x1 (at_name name x2)) h1 h2
same law no_more no_more = refl
same law (first_stops x1) (first_stops x2) = same law x1 x2
same law (first_stops x1) (then_rest x2 y2) = absurd (apart (same law x1 x2))
same law (then_rest x1 y1) (first_stops x2) = absurd (apart (sym (same law x1 x2)))
same law (then_rest x1 y1) (then_rest x2 y2) = same law y1 (from_state (goes_same (same law x1 x2)) y2)
