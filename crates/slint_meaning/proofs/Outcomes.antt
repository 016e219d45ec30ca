-- A run has one outcome.
use Rattle.std.proofs.Common.{◌≡◌, ℕ, List, Option, Some, None, refl, sym, ap, ◌∙◌}
use Rattle.io_edge.specs.Files.{FileList, bytes_named}
use Rattle.command_words.specs.Words.{WordsOf, words_of}
use Rattle.import_resolver.specs.Loads.{World as Files}
use Rattle.slint_meaning.specs.Runs.{Outcome, run_verdict, unreadable, RunsWords, Runs}
use Rattle.slint_meaning.specs.Verdicts.{Verdict, HasVerdict}

-- what is known of verdicts
abbrev pub OneVerdict : Type 0
OneVerdict = (w : Files) (main : List ℕ) (named : Option (List ℕ)) (a b : Verdict) → HasVerdict w main named a → HasVerdict w main named b → a ≡ b

abbrev pub SomeVerdict : Type 0
SomeVerdict = (w : Files) (main : List ℕ) (named : Option (List ℕ)) → (v : Verdict) × HasVerdict w main named v

one_of_words : OneVerdict → (words : Option WordsOf) (files : FileList) (script : List ℕ) (a b : Outcome) → RunsWords words files script a → RunsWords words files script b → a ≡ b
one_of_words one None files script a b h g = h ∙ sym g
one_of_words one (Some words) files script a b h g =
    h.2 ∙ ap (λ verdict. run_verdict verdict script) (one (bytes_named files) words.file words.component h.0 g.0 h.1 g.1) ∙ sym g.2

-- a run has at most one outcome
pub same_outcome : OneVerdict → (ws : List (List ℕ)) (files : FileList) (script : List ℕ) (a b : Outcome) → Runs ws files script a → Runs ws files script b → a ≡ b
same_outcome one ws files script a b h g = one_of_words one (words_of ws) files script a b h g

-- ---- and one at least

some_of_words : SomeVerdict → (words : Option WordsOf) (files : FileList) (script : List ℕ) → (outcome : Outcome) × RunsWords words files script outcome
some_of_words some None files script = (unreadable, refl)
some_of_words some (Some words) files script =
    let verdict = some (bytes_named files) words.file words.component in
    (run_verdict verdict.0 script, (verdict.0, verdict.1, refl))

-- a run has at least one outcome
pub has_outcome : SomeVerdict → (ws : List (List ℕ)) (files : FileList) (script : List ℕ) → (outcome : Outcome) × Runs ws files script outcome
has_outcome some ws files script = some_of_words some (words_of ws) files script
