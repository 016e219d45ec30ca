-- The verdict on a source, from its load and from what its files are.
use Rattle.std.proofs.Common.{◌≡◌, ◌↔◌, ◌<◌, ℕ, zero, suc, Bool, true, false, List, [], ◌∷◌, length, Option, None, Some, Result, Ok, Err, refl, sym, ap, ◌∙◌, subst, arith}
use Rattle.std.specs.Prelude.{if◌then◌else◌, IfOk, IsTrue, String, map, option_map, slice_get}
use Rattle.std.specs.Global.{Global}
use Rattle.std.proofs.lemmas.Option.{slice_get-map}
use Rattle.slint_base.specs.declared.endings.Memory.{Memory}
use Rattle.slint_base.specs.declared.endings.End.{End}
use Rattle.slint_base.specs.declared.endings.End.TheVariants as checks
use Rattle.slint_base.specs.declared.faults.Fault.{Fault}
use Rattle.slint_base.specs.declared.refusals.Refusal.{Refusal}
use Rattle.slint_base.specs.declared.rules.Rule.TheVariants.{NotBuilt, FileMissing}
use Rattle.io_edge.specs.Files.{FileList, bytes_named}
use Rattle.command_words.specs.Words.{WordsOf}
use Rattle.import_resolver.specs.declared.ends.LoadEnd.{LoadEnd}
use Rattle.import_resolver.specs.declared.ends.LoadEnd.TheVariants as ends
use Rattle.import_resolver.specs.declared.loaded.Loaded.{Loaded}
use Rattle.import_resolver.specs.declared.loaded.SourceFile.{SourceFile}
use Rattle.import_resolver.specs.Ends.{IsRefusal, LoadCount}
use Rattle.import_resolver.specs.Loaded.{FileRow, LoadsSome, row_of, rows_of, rows_seen}
use Rattle.import_resolver.specs.Loads.{World, State, Goes, Stops, LoadsMain}
use Rattle.typed_tree.specs.declared.trees.TypedTree.{TypedTree}
use Rattle.type_resolver.specs.Resolves.{IsBroken, IsResolved, Resolves}
use Rattle.loop_check.specs.Purity.{ChecksPurity, PurityFault}
use Rattle.first_evaluator.specs.declared.trees.FirstFile.{FirstFile}
use Rattle.first_evaluator.specs.First.{first_source}
use Rattle.slint_meaning.specs.Verdicts.{rejected, at_main, refusal_at, refusal_in, SourceFault, of_names, of_purity, IsSound, sound, first_alone, if_first, with_fault, without_fault}
use Rattle.slint_cli.specs.Verdicts.{Checks, IsNoMiss, Judges, JudgesIn, Says}

-- ---- checks of loaded files

-- files with a tree
pub checks_purity : (rows : List FileRow) (named : Option (List ℕ)) (tree : TypedTree) (result : Result (Unit {0}) (End Fault)) → IsResolved rows named tree → ChecksPurity tree result → Checks rows named result
checks_purity rows named tree (Ok done) r h = sound r h
checks_purity rows named tree (Err (checks.Fault f)) r h = of_purity r h
checks_purity rows named tree (Err checks.Memory) r h = tt

-- and files without one
pub checks_end : (rows : List FileRow) (named : Option (List ℕ)) (end : End Fault) → Resolves rows named (Err end) → Checks rows named (Err end)
checks_end rows named (checks.Fault f) h = of_names h
checks_end rows named checks.Memory h = tt

-- that a check found nothing
pub checked_sound : (rows : List FileRow) (named same : Option (List ℕ)) → named ≡ same → IsSound rows named → IsSound rows same
checked_sound rows named same e h = let P : Option (List ℕ) → Type 0 = λ n. IsSound rows n in subst P e h

-- the fault that a check found
pub checked_fault : (rows : List FileRow) (named same : Option (List ℕ)) (end : End Fault) (f : Fault) → named ≡ same → Checks rows named (Err end) → end ≡ checks.Fault f → SourceFault rows same f
checked_fault rows named same end f e h is =
    let P : End Fault → Type 0 = λ x. Checks rows named (Err x) in
    let Q : Option (List ℕ) → Type 0 = λ n. SourceFault rows n f in
    subst Q e (subst P is h)

-- ---- refusals

-- for a fault in a file that there is, and in one that there isn't
pub refused_by_row : (main : List ℕ) (rows : List FileRow) (f : Fault) (row : Option FileRow) (result : Result Refusal Memory) → slice_get rows f.span.file ≡ row
    → IfOk result (λ refusal. refusal ≡ refusal_at main row f) → IfOk result (λ refusal. refusal ≡ refusal_in main rows f)
refused_by_row main rows f row result e h =
    let P : Option FileRow → Type 0 = λ o. IfOk result (λ refusal. refusal ≡ refusal_at main o f) in
    subst P (sym e) h

-- the row of a file
pub row_found : (entries : List (String Global × SourceFile)) (n : ℕ) (entry : Option (String Global × SourceFile)) → slice_get entries n ≡ entry → slice_get (map row_of entries) n ≡ option_map row_of entry
row_found entries n entry e = slice_get-map row_of entries n ∙ ap (option_map row_of) e

-- ---- answers on loaded files

-- the refusal for a fault breaks the fault's rule
refusal_rule : (main : List ℕ) (row : Option FileRow) (f : Fault) → (refusal_at main row f).rule ≡ f.rule
refusal_rule main None f = refl
refusal_rule main (Some row) f = refl

-- so it is none for a missing file where the fault is none
pub refused_other : (main : List ℕ) (rows : List FileRow) (f : Fault) (refusal : Refusal) → refusal ≡ refusal_in main rows f → (f.rule ≡ FileMissing → ⊥) → refusal.rule ≡ FileMissing → ⊥
refused_other main rows f refusal is other e = other (sym (refusal_rule main (slice_get rows f.span.file) f) ∙ (sym (ap (λ (r : Refusal). r.rule) is) ∙ e))

-- and neither is a refusal of the source as a whole, since it isn't in the language as far as it is run
pub built_other : (main : List ℕ) (refusal : Refusal) → refusal ≡ at_main NotBuilt main → refusal.rule ≡ FileMissing → ⊥
built_other main refusal is e = let no : NotBuilt ≡ FileMissing = sym (ap (λ (r : Refusal). r.rule) is) ∙ e in absurd cc

-- a fault that is told of loaded files is of another rule
pub other_fault : ((rows : List FileRow) (named : Option (List ℕ)) (f : Fault) → IsBroken rows named f → f.rule ≡ FileMissing → ⊥) → ((tree : TypedTree) (f : Fault) → PurityFault tree f → f.rule ≡ FileMissing → ⊥)
    → (rows : List FileRow) (named : Option (List ℕ)) (f : Fault) → SourceFault rows named f → f.rule ≡ FileMissing → ⊥
other_fault names purity rows named f (of_names p) = names rows named f p
other_fault names purity rows named f (of_purity {tree = tree} r p) = purity tree f p.has

-- files with a fault
pub says_fault : (main : List ℕ) (named : Option (List ℕ)) (rows : List FileRow) (f : Fault) (end : LoadEnd) → SourceFault rows named f → IsRefusal (refusal_in main rows f) end → Says main named rows (Err end)
says_fault main named rows f (ends.Refused told) fault h = with_fault fault (ap (λ r. rejected r) h)
says_fault main named rows f ends.ReadFault fault h = absurd h
says_fault main named rows f ends.Memory fault h = tt

-- files without one, in the first language
pub says_first : (main : List ℕ) (named : Option (List ℕ)) (rows : List FileRow) (found : Option FirstFile) (file : FirstFile) → IsSound rows named → found ≡ first_alone rows → found ≡ Some file → Says main named rows (Ok file)
says_first main named rows found file is e some = without_fault is (ap (λ f. if_first main f) (sym some ∙ e))

-- and in any other
pub says_other : (main : List ℕ) (named : Option (List ℕ)) (rows : List FileRow) (found : Option FirstFile) (end : LoadEnd) → IsSound rows named → found ≡ first_alone rows → found ≡ None → IsRefusal (at_main NotBuilt main) end
    → Says main named rows (Err end)
says_other main named rows found (ends.Refused told) is e none h = without_fault is (ap (λ r. rejected r) h ∙ ap (λ f. if_first main f) (sym none ∙ e))
says_other main named rows found ends.ReadFault is e none h = absurd h
says_other main named rows found ends.Memory is e none h = tt

-- an answer that is no refusal for a missing file needs no miss
pub other_still : (end : LoadEnd) → IsNoMiss end → (faults misses : ℕ) → LoadCount {A = FirstFile} (Err end) faults faults misses misses
other_still (ends.Refused told) other faults misses = (refl, λ e. absurd (other e))
other_still ends.ReadFault other faults misses = absurd other
other_still ends.Memory other faults misses = refl

-- ---- one file alone

-- by whether there are other files
pub alone_first : (row : FileRow) (others : List FileRow) (alone : Bool) → (IsTrue alone ↔ (length others ≡ 0)) → (if alone then first_source row.tree else None) ≡ first_alone (row ∷ others)
alone_first row [] true is = refl
alone_first row [] false is = let no = is.1 refl in absurd cc
alone_first row (other ∷ others) true is = let no = is.0 refl in absurd (omega arith)
alone_first row (other ∷ others) false is = refl

pub found_alone : (rows : List FileRow) (row : FileRow) (others : List FileRow) (alone : Bool) (result : Result (Option FirstFile) Memory) → rows ≡ row ∷ others → (IsTrue alone ↔ (length others ≡ 0))
    → IfOk result (λ found. found ≡ (if alone then first_source row.tree else None)) → IfOk result (λ found. found ≡ first_alone rows)
found_alone rows row others alone result e is h =
    let P : Option FirstFile → Type 0 = λ o. IfOk result (λ found. found ≡ o) in
    let Q : List FileRow → Type 0 = λ rs. IfOk result (λ found. found ≡ first_alone rs) in
    subst Q (sym e) (subst P (alone_first row others alone is) h)

-- no files
pub none_alone : (rows : List FileRow) → length rows ≡ 0 → None ≡ first_alone rows
none_alone [] e = refl
none_alone (row ∷ rows) e = absurd (omega arith)

-- what isn't above 0
pub none_by : (n : ℕ) → (0 < n → false ≡ true) → n ≡ 0
none_by zero some = refl
none_by (suc n) some = let no = some (omega arith) in absurd cc

-- ---- answers on a source

judged_loaded : (w : World) (words : WordsOf) (s : State) (result : Result FirstFile LoadEnd) → LoadsMain w words.file (Goes s) → Says words.file words.component (rows_seen words.file s.seen) result → JudgesIn w words result
judged_loaded w words s (Ok file) loads says = (Goes s, loads, says)
judged_loaded w words s (Err (ends.Refused refusal)) loads says = (Goes s, loads, says)
judged_loaded w words s (Err ends.ReadFault) loads says = tt
judged_loaded w words s (Err ends.Memory) loads says = tt

-- one that is loaded
pub judges_loaded : (held : Option FileList) (name : List ℕ) (words : WordsOf) (loaded : Loaded) (result : Result FirstFile LoadEnd) → name ≡ words.file → LoadsSome held name (Ok loaded)
    → Says words.file words.component (rows_of loaded) result → Judges held words result
judges_loaded held name words loaded result same loads says =
    let P : List ℕ → Type 0 = λ n. LoadsSome held n (Ok loaded) in
    let Q : List FileRow → Type 0 = λ rows. Says words.file words.component rows result in
    let found = subst P same loads in
    (found.0, found.1, judged_loaded (bytes_named found.0) words found.2.0 result found.2.1 (subst Q found.2.2 says))

-- and one that isn't
judges_end : (held : Option FileList) (words : WordsOf) (end : LoadEnd) → LoadsSome held words.file (Err end) → Judges held words (Err end)
judges_end held words (ends.Refused refusal) loads = (loads.0, loads.1, (Stops refusal, loads.2, refl))
judges_end held words ends.ReadFault loads = (loads.0, loads.1, tt)
judges_end held words ends.Memory loads = (loads.0, loads.1, tt)

pub judges_stopped : (held : Option FileList) (name : List ℕ) (words : WordsOf) (end : LoadEnd) → name ≡ words.file → LoadsSome held name (Err end) → Judges held words (Err end)
judges_stopped held name words end same loads =
    let P : List ℕ → Type 0 = λ n. LoadsSome held n (Err end) in
    judges_end held words end (subst P same loads)

-- a load that goes on moves no count
pub counted_loaded : (result : Result FirstFile LoadEnd) (faults faults_now misses misses_now : ℕ) → faults_now ≡ faults → misses_now ≡ misses
    → ((f m : ℕ) → LoadCount result f f m m) → LoadCount result faults faults_now misses misses_now
counted_loaded result faults faults_now misses misses_now same_faults same_misses still =
    let P : ℕ → Type 0 = λ n. LoadCount result faults n misses misses in
    let Q : ℕ → Type 0 = λ n. LoadCount result faults faults_now misses n in
    subst Q (sym same_misses) (subst P (sym same_faults) (still faults misses))

-- the counts of a load that ends, whatever it would give otherwise
pub counted_stopped : (end : LoadEnd) (faults faults_now misses misses_now : ℕ) → LoadCount {A = Loaded} (Err end) faults faults_now misses misses_now → LoadCount {A = FirstFile} (Err end) faults faults_now misses misses_now
counted_stopped (ends.Refused refusal) faults faults_now misses misses_now h = h
counted_stopped ends.ReadFault faults faults_now misses misses_now h = h
counted_stopped ends.Memory faults faults_now misses misses_now h = h
