-- The run of a source, from the answer on it.
use Rattle.std.proofs.Common.{◌≡◌, ℕ, List, [], ◌++◌, refl, sym, ap, ◌∙◌, subst, Option, None, Some, Result, Ok, Err, slice_index}
use Rattle.std.specs.Prelude.{codes, OnOk}
use Rattle.std.specs.Option.{option_map}
use Rattle.std.specs.Fmt.{digits}
use Rattle.std.proofs.lemmas.Bool.{eqb-false}
use Rattle.slint_base.specs.declared.places.Place.{Place}
use Rattle.slint_base.specs.declared.refusals.Refusal.{Refusal}
use Rattle.slint_base.specs.declared.rules.Rule.{Rule}
use Rattle.slint_base.specs.declared.rules.Rule.TheVariants.{NotUtf8, BadToken, BadNumber, BadEscape, Syntax, TooDeep, FileMissing, ImportLoop, NotExported, TooManyFiles, FileTooLong, PathOutside, NameTwice, UnknownType, UnknownElement, BaseLoop, UnknownName, Visibility, ChildrenMisplaced, GridPlace, NoComponent, TypeMismatch, NoOperator, ArgCount, NotCallable, NotAssignable, AliasTypes, UnitProduct, NotConstant, ImpureBinding, PureCallsImpure, AliasLoop, TwoStateLists, BindingLoop, Recursion, TooManyElements, RepeaterDepth, NotBuilt}
use Rattle.slint_base.specs.Refusals.{refusal_line}
use Rattle.io_edge.specs.Counts.{Rose}
use Rattle.io_edge.specs.Files.{FileList, bytes_named}
use Rattle.command_words.specs.declared.reading.Words.{Words}
use Rattle.command_words.specs.Words.{WordsOf, words_seen}
use Rattle.import_resolver.specs.declared.ends.LoadEnd.{LoadEnd}
use Rattle.import_resolver.specs.declared.ends.LoadEnd.TheVariants as ends
use Rattle.import_resolver.specs.Ends.{LoadCount}
use Rattle.import_resolver.specs.Loads.{World, Outcome as Load, Stops, LoadsMain}
use Rattle.first_evaluator.specs.declared.trees.FirstFile.{FirstFile}
use Rattle.slint_meaning.specs.declared.endings.Ending.TheVariants.{Refused}
use Rattle.slint_meaning.specs.Commands.{written}
use Rattle.slint_meaning.specs.Runs.{Outcome, unreadable}
use Rattle.slint_meaning.specs.Verdicts.{accepted, rejected, HasVerdict, LoadHas}
use Rattle.slint_cli.specs.Running.{MissedFile, MissedWhereMissing, RanScript, RanWords, Tells}
use Rattle.slint_cli.specs.Verdicts.{Judges}
use Rattle.slint_cli.specs.declared.replies.Output.{Output}
use Rattle.slint_cli.specs.declared.status.Stop.{Stop}
use Rattle.slint_cli.specs.Outputs.{outcome_of}

-- there is a script, the one that is left where that is told
pub some_script : (left : Option (List ℕ)) → (script : List ℕ) × Tells left script
some_script None = ([], tt)
some_script (Some script) = (script, refl)

-- there are files, those that are told
pub some_files : (held : Option FileList) → (files : FileList) × Tells held files
some_files None = ([], tt)
some_files (Some files) = (files, refl)

-- ---- the outcome

-- of a source that is accepted
pub ran_accepted : (held : Option FileList) (left : Option (List ℕ)) (words : WordsOf) (file : FirstFile) (outcome : Outcome) → Judges held words (Ok file) → RanScript file left outcome → RanWords (Some words) held left outcome
ran_accepted held left words file outcome judged ran = (judged.0, ran.0, judged.1, ran.1, (accepted file, judged.2, ran.2))

-- of one that is refused
pub ran_refused : (held : Option FileList) (left : Option (List ℕ)) (words : WordsOf) (refusal : Refusal) (outcome : Outcome) → Judges held words (Err (ends.Refused refusal))
    → outcome ≡ record { end = Refused; bytes = written (refusal_line refusal) } → RanWords (Some words) held left outcome
ran_refused held left words refusal outcome judged ran = let s = some_script left in (judged.0, s.0, judged.1, s.1, (rejected refusal, judged.2, ran))

-- an answer that is a refusal
pub judged_refusal : (held : Option FileList) (words : WordsOf) (answer : Result FirstFile LoadEnd) (refusal : Refusal) → Judges held words answer → answer ≡ Err (ends.Refused refusal) → Judges held words (Err (ends.Refused refusal))
judged_refusal held words answer refusal judged is = let P : Result FirstFile LoadEnd → Type 0 = λ r. Judges held words r in subst P is judged

pub counted_refusal : (answer : Result FirstFile LoadEnd) (refusal : Refusal) (faults faults_now misses misses_now : ℕ) → LoadCount answer faults faults_now misses misses_now → answer ≡ Err (ends.Refused refusal)
    → refusal.rule ≡ FileMissing → Rose misses misses_now
counted_refusal answer refusal faults faults_now misses misses_now counted is =
    let P : Result FirstFile LoadEnd → Type 0 = λ r. LoadCount r faults faults_now misses misses_now in
    let here = subst P is counted in here.1

-- what words say that were read
pub words_found : (found : Option Words) (named : Words) (said : Option WordsOf) → option_map words_seen found ≡ said → found ≡ Some named → Some (words_seen named) ≡ said
words_found found named said e is = ap (λ w. option_map words_seen w) (sym is) ∙ e

pub words_none : (found : Option Words) (said : Option WordsOf) → option_map words_seen found ≡ said → found ≡ None → said ≡ None
words_none found said e is = sym e ∙ ap (λ w. option_map words_seen w) is

-- what holds anyway holds of an answer
pub on_ok : (answer : Result Output Stop) (P : Type 0) → P → OnOk answer P
on_ok (Ok output) P h = h
on_ok (Err stop) P h = tt

-- of words that can't be read
pub ran_unreadable : (found : Option WordsOf) (held : Option FileList) (left : Option (List ℕ)) (outcome : Outcome) → found ≡ None → outcome ≡ unreadable → RanWords found held left outcome
ran_unreadable None held left outcome none ran = let s = some_script left in let f = some_files held in (f.0, s.0, f.1, s.1, ran)
ran_unreadable (Some words) held left outcome none ran = absurd cc

-- ---- misses

-- where a line tells its rule
abbrev ninth : List ℕ → ℕ
ninth line = slice_index line 8

abbrev tenth : List ℕ → ℕ
tenth line = slice_index line 9

-- a line that tells the rule of a missing file; the number of each other rule differs at its first digit or behind it
told_by : (rule : Rule) (file : List ℕ) (from to : Place) (line : List ℕ) → written (refusal_line (record { rule = rule; file = file; from = from; to = to })) ≡ codes "refused 20 " ++ line → rule ≡ FileMissing
unfolding digits
told_by FileMissing file from to line same = refl
told_by NotUtf8 file from to line same = absurd (eqb-false 49 50 refl (ap ninth same))
told_by BadToken file from to line same = absurd (eqb-false 32 48 refl (ap tenth same))
told_by BadNumber file from to line same = absurd (eqb-false 51 50 refl (ap ninth same))
told_by BadEscape file from to line same = absurd (eqb-false 52 50 refl (ap ninth same))
told_by Syntax file from to line same = absurd (eqb-false 49 50 refl (ap ninth same))
told_by TooDeep file from to line same = absurd (eqb-false 49 50 refl (ap ninth same))
told_by ImportLoop file from to line same = absurd (eqb-false 49 48 refl (ap tenth same))
told_by NotExported file from to line same = absurd (eqb-false 50 48 refl (ap tenth same))
told_by TooManyFiles file from to line same = absurd (eqb-false 51 48 refl (ap tenth same))
told_by FileTooLong file from to line same = absurd (eqb-false 52 48 refl (ap tenth same))
told_by PathOutside file from to line same = absurd (eqb-false 53 48 refl (ap tenth same))
told_by NameTwice file from to line same = absurd (eqb-false 51 50 refl (ap ninth same))
told_by UnknownType file from to line same = absurd (eqb-false 51 50 refl (ap ninth same))
told_by UnknownElement file from to line same = absurd (eqb-false 51 50 refl (ap ninth same))
told_by BaseLoop file from to line same = absurd (eqb-false 51 50 refl (ap ninth same))
told_by UnknownName file from to line same = absurd (eqb-false 51 50 refl (ap ninth same))
told_by Visibility file from to line same = absurd (eqb-false 51 50 refl (ap ninth same))
told_by ChildrenMisplaced file from to line same = absurd (eqb-false 51 50 refl (ap ninth same))
told_by GridPlace file from to line same = absurd (eqb-false 51 50 refl (ap ninth same))
told_by NoComponent file from to line same = absurd (eqb-false 51 50 refl (ap ninth same))
told_by TypeMismatch file from to line same = absurd (eqb-false 52 50 refl (ap ninth same))
told_by NoOperator file from to line same = absurd (eqb-false 52 50 refl (ap ninth same))
told_by ArgCount file from to line same = absurd (eqb-false 52 50 refl (ap ninth same))
told_by NotCallable file from to line same = absurd (eqb-false 52 50 refl (ap ninth same))
told_by NotAssignable file from to line same = absurd (eqb-false 52 50 refl (ap ninth same))
told_by AliasTypes file from to line same = absurd (eqb-false 52 50 refl (ap ninth same))
told_by UnitProduct file from to line same = absurd (eqb-false 52 50 refl (ap ninth same))
told_by NotConstant file from to line same = absurd (eqb-false 52 50 refl (ap ninth same))
told_by ImpureBinding file from to line same = absurd (eqb-false 53 50 refl (ap ninth same))
told_by PureCallsImpure file from to line same = absurd (eqb-false 53 50 refl (ap ninth same))
told_by AliasLoop file from to line same = absurd (eqb-false 54 50 refl (ap ninth same))
told_by TwoStateLists file from to line same = absurd (eqb-false 54 50 refl (ap ninth same))
told_by BindingLoop file from to line same = absurd (eqb-false 54 50 refl (ap ninth same))
told_by Recursion file from to line same = absurd (eqb-false 54 50 refl (ap ninth same))
told_by TooManyElements file from to line same = absurd (eqb-false 55 50 refl (ap ninth same))
told_by RepeaterDepth file from to line same = absurd (eqb-false 55 50 refl (ap ninth same))
told_by NotBuilt file from to line same = absurd (eqb-false 57 50 refl (ap ninth same))

pub missed_refused : (refusal : Refusal) (misses misses_now : ℕ) (output : Output) → outcome_of output ≡ record { end = Refused; bytes = written (refusal_line refusal) }
    → (refusal.rule ≡ FileMissing → Rose misses misses_now) → MissedFile misses misses_now output
missed_refused refusal misses misses_now output made rose = λ line refused same.
    rose (told_by refusal.rule refusal.file refusal.from refusal.to line (sym (ap (λ (outcome : Outcome). outcome.bytes) made) ∙ same))

-- what is known of loads
abbrev pub OneLoad : Type 0
OneLoad = (w : World) (main : List ℕ) (o p : Load) → LoadsMain w main o → LoadsMain w main p → o ≡ p

-- the files that are told are the ones that there are
held_same : (held : Option FileList) (files there : FileList) → held ≡ Some files → Tells held there → files ≡ there
held_same held files there told tells = let P : Option FileList → Type 0 = λ h. Tells h there in subst P told tells

words_same : (words its : WordsOf) → Some words ≡ Some its → words ≡ its
words_same words its e = cc

-- a load that stops tells the verdict
rejected_by : OneLoad → (w : World) (words : WordsOf) (refusal other : Refusal) → HasVerdict w words.file words.component (rejected refusal) → LoadsMain w words.file (Stops other) → refusal ≡ other
rejected_by one w words refusal other has loads =
    let P : Load → Type 0 = λ o. LoadHas words.file words.component o (rejected refusal) in
    let same : rejected refusal ≡ rejected other = subst P (one w words.file has.0 (Stops other) has.1 loads) has.2 in cc

accepted_by : OneLoad → (w : World) (words : WordsOf) (file : FirstFile) (other : Refusal) → HasVerdict w words.file words.component (accepted file) → LoadsMain w words.file (Stops other) → ⊥
accepted_by one w words file other has loads =
    let P : Load → Type 0 = λ o. LoadHas words.file words.component o (accepted file) in
    let same : accepted file ≡ rejected other = subst P (one w words.file has.0 (Stops other) has.1 loads) has.2 in cc

-- where told files make the source refused for a missing one
pub missing_refused : OneLoad → (held : Option FileList) (words : WordsOf) (refusal : Refusal) (misses misses_now : ℕ) → Judges held words (Err (ends.Refused refusal))
    → (refusal.rule ≡ FileMissing → Rose misses misses_now) → MissedWhereMissing (Some words) held misses misses_now
missing_refused one held words refusal misses misses_now judged rose = λ files its other told same loads missing.
    let P : FileList → Type 0 = λ f. HasVerdict (bytes_named f) words.file words.component (rejected refusal) in
    let Q : WordsOf → Type 0 = λ x. LoadsMain (bytes_named files) x.file (Stops other) in
    let verdict = subst P (sym (held_same held files judged.0 told judged.1)) judged.2 in
    let stops = subst Q (sym (words_same words its same)) loads in
    rose (ap (λ (r : Refusal). r.rule) (rejected_by one (bytes_named files) words refusal other verdict stops) ∙ missing)

-- a source that is accepted isn't
pub missing_accepted : OneLoad → (held : Option FileList) (words : WordsOf) (file : FirstFile) (misses misses_now : ℕ) → Judges held words (Ok file) → MissedWhereMissing (Some words) held misses misses_now
missing_accepted one held words file misses misses_now judged = λ files its other told same loads missing.
    let P : FileList → Type 0 = λ f. HasVerdict (bytes_named f) words.file words.component (accepted file) in
    let Q : WordsOf → Type 0 = λ x. LoadsMain (bytes_named files) x.file (Stops other) in
    let verdict = subst P (sym (held_same held files judged.0 told judged.1)) judged.2 in
    let stops = subst Q (sym (words_same words its same)) loads in
    absurd (accepted_by one (bytes_named files) words file other verdict stops)

-- words that can't be read name no source
pub missing_unreadable : (found : Option WordsOf) (held : Option FileList) (misses misses_now : ℕ) → found ≡ None → MissedWhereMissing found held misses misses_now
missing_unreadable found held misses misses_now none = λ files its other told same loads missing. let no : None ≡ Some its = sym none ∙ same in absurd cc
