-- The first fault of the files of a source, as a loop over their numbers tells it.
use Rattle.std.proofs.Common.{◌≡◌, ℕ, ◌+◌, ◌<◌, ◌⊎◌, List, [], Option, None, Some, Contains, String, length, take, refl, sym, ap, subst, ◌∙◌}
use Rattle.std.specs.Prelude.{IfOk, Result, Ok, Err, slice_get}
use Rattle.std.specs.Global.{Global}
use Rattle.std.specs.Option.{option_map}
use Rattle.std.proofs.lemmas.List.{length-map}
use Rattle.std.proofs.lemmas.Option.{slice_get-map}
use Rattle.slint_base.specs.declared.faults.Fault.{Fault}
use Rattle.syntax_tree.specs.declared.files.FileItem.{FileItem}
use Rattle.fault_order.specs.Order.{FirstIfAny, earlier_of, first_of}
use Rattle.fault_order.proofs.First.{FirstIfAny-earlier_of, FirstIfAny-first_of}
use Rattle.finite_graphs.proofs.Lists.{Standing, at_get, at_some}
use Rattle.finite_graphs.specs.Walks.{At, first, next}
use Rattle.import_resolver.specs.Loaded.{FileRow, row_of, rows_of}
use Rattle.import_resolver.specs.declared.loaded.Loaded.{Loaded}
use Rattle.import_resolver.specs.declared.loaded.SourceFile.{SourceFile}
use Rattle.declaration_rules.specs.Circles.{CircleFault, component_usages, struct_usages}
use Rattle.declaration_rules.specs.Declarations.{DeclarationFault, declaration_faults, faults_at, faults_behind, file_faults}
use Rattle.declaration_rules.specs.Turns.{in_turn}
use Rattle.declaration_rules.proofs.Gathering.{front-length}
use Rattle.declaration_rules.proofs.Telling.{turn_tells-next}

get_at : {A : Type 0} {x : A} {xs : List A} {i : ℕ} → At x xs i → slice_get xs i ≡ Some x
get_at first = refl
get_at (next h) = get_at h

-- the file of a number, and what it comes to behind those before it
at_number : (rows all : List FileRow) (i : ℕ) (more : Option Fault) (s : Standing all i) → i < length all → more ≡ first_of (faults_at rows i (slice_get all i)) → more ≡ first_of (faults_behind rows (take i all) s.item)
at_number rows all i more s within told =
    told ∙ (ap (λ o. first_of (faults_at rows i o)) (get_at s.stands)
    ∙ ap (λ n. first_of (file_faults rows n s.item.tree.items s.item.imports)) (sym (front-length all i within)))

pub file-next : (rows all : List FileRow) (i : ℕ) (before more later : Option Fault) → i < length all → before ≡ first_of (in_turn (faults_behind rows) [] (take i all)) → more ≡ first_of (faults_at rows i (slice_get all i))
    → later ≡ earlier_of before more → later ≡ first_of (in_turn (faults_behind rows) [] (take (i + 1) all))
file-next rows all i before more later within held told joins =
    let s = at_some all i within in
    turn_tells-next (faults_behind rows) before more later all i s.item within (sym (at_get s.item s.stands)) held (at_number rows all i more s within told) joins

-- as many files as entries
pub file_count-is : (loaded : Loaded) (rows : List FileRow) → rows_of loaded ≡ rows → length loaded.files.entries ≡ length rows
file_count-is loaded rows e = sym (length-map loaded.files.entries row_of) ∙ ap length e

-- the file of an entry
pub entry-some : (rows : List FileRow) (loaded : Loaded) (i : ℕ) (entry : String Global × SourceFile) → Some entry ≡ slice_get loaded.files.entries i → faults_at rows i (slice_get (rows_of loaded) i) ≡ file_faults rows i entry.1.tree.items entry.1.imports.items
entry-some rows loaded i entry e = ap (faults_at rows i) (slice_get-map row_of loaded.files.entries i ∙ ap (option_map row_of) (sym e))

pub entry-none : (rows : List FileRow) (loaded : Loaded) (i : ℕ) → None ≡ slice_get loaded.files.entries i → faults_at rows i (slice_get (rows_of loaded) i) ≡ []
entry-none rows loaded i e = ap (faults_at rows i) (slice_get-map row_of loaded.files.entries i ∙ ap (option_map row_of) (sym e))

pub file-arm : {E : Type 0} (r : Result (Option Fault) E) (rows : List FileRow) (loaded : Loaded) (i : ℕ) (entry : String Global × SourceFile) (items : List FileItem) (imports : List ℕ) → Some entry ≡ slice_get loaded.files.entries i
    → items ≡ entry.1.tree.items → imports ≡ entry.1.imports.items → IfOk r (λ fault. fault ≡ first_of (file_faults rows i items imports)) → IfOk r (λ fault. fault ≡ first_of (faults_at rows i (slice_get (rows_of loaded) i)))
file-arm (Ok x) rows loaded i entry items imports e a b told =
    told ∙ ap first_of (ap (λ xs. file_faults rows i xs imports) a ∙ (ap (λ ns. file_faults rows i entry.1.tree.items ns) b ∙ sym (entry-some rows loaded i entry e)))
file-arm (Err e) rows loaded i entry items imports _ a b told = tt

pub none-arm : (rows : List FileRow) (loaded : Loaded) (i : ℕ) → None ≡ slice_get loaded.files.entries i → None ≡ first_of (faults_at rows i (slice_get (rows_of loaded) i))
none-arm rows loaded i e = ap first_of (sym (entry-none rows loaded i e))

-- the first of all kinds
pub first-of-all : (rows : List FileRow) (wanted : Option (List ℕ)) (listed component structs both fault : Option Fault) → listed ≡ first_of (declaration_faults rows wanted)
    → FirstIfAny (CircleFault (component_usages rows)) component → FirstIfAny (CircleFault (struct_usages rows)) structs → both ≡ earlier_of component structs → fault ≡ earlier_of listed both
    → FirstIfAny (DeclarationFault rows wanted) fault
first-of-all rows wanted listed component structs both fault told c s b f =
    let circles : FirstIfAny (λ x. CircleFault (component_usages rows) x ⊎ CircleFault (struct_usages rows) x) both =
    subst (λ (o : Option Fault). FirstIfAny (λ x. CircleFault (component_usages rows) x ⊎ CircleFault (struct_usages rows) x) o) (sym b)
    (FirstIfAny-earlier_of (CircleFault (component_usages rows)) (CircleFault (struct_usages rows)) component structs c s) in
    let list : FirstIfAny (λ x. Contains (declaration_faults rows wanted) x) listed =
    subst (λ (o : Option Fault). FirstIfAny (λ x. Contains (declaration_faults rows wanted) x) o) (sym told) (FirstIfAny-first_of (declaration_faults rows wanted)) in
    subst (λ (o : Option Fault). FirstIfAny (DeclarationFault rows wanted) o) (sym f)
    (FirstIfAny-earlier_of (λ x. Contains (declaration_faults rows wanted) x) (λ x. CircleFault (component_usages rows) x ⊎ CircleFault (struct_usages rows) x) listed both list circles)
