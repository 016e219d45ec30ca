-- From what `clap` promises of the command to what the words say.
use Rattle.std.proofs.Common.{◌≡◌, ◌∙◌, refl, sym, ap, ap₂, subst, List, [], ◌∷◌, ℕ, Option, Some, None, Result, Ok, Err, IfOk, inl, inr, true, codes}
use Rattle.std.specs.Option.{option_map}
use Rattle.slint_base.specs.Names.{normal_name}
use Rattle.clap.specs.Words.{App, HasKind, HasMatchesOf, Kinds, Text, fault_of, first_of, first_value, found_of, is_simple, is_simple_and_free, kind_of, matches_of, rows_of}
use Rattle.clap.specs.declared.error.Error.{Error}
use Rattle.clap.specs.declared.error.kind.ErrorKind.TheVariants.{OutOfMemory}
use Rattle.clap.specs.declared.parser.matches.ArgMatches.{ArgMatches}
use Rattle.clap.specs.declared.parser.matches.Found.{Found}
use Rattle.clap.proofs.WalkLemmas.{first_value-rows}
use Rattle.command_words.specs.Words.{WordsOf, program, said_by, unless_refused, words_in, words_of}

-- the same clause with what its right side comes to
pub comes_to : {X E A : Type 0} (r : Result X E) (f : X → A) (y z : A) → IfOk r (λ x. f x ≡ y) → y ≡ z → IfOk r (λ x. f x ≡ z)
comes_to (Ok x) f y z given same = given ∙ same
comes_to (Err e) f y z given same = tt

-- without FILE the matches say nothing
pub nothing_said : (f : Found) → None ≡ first_value f (codes "file") → None ≡ words_in (rows_of f)
nothing_said f none = ap (λ file. said_by file (first_of (codes "component") (rows_of f))) (none ∙ first_value-rows f (codes "file"))

-- FILE and the component's name, as the getters give them, are what the matches say
pub something_said : (f : Found) (file : List ℕ) (name component : Option (List ℕ)) → Some file ≡ first_value f (codes "file")
    → name ≡ first_value f (codes "component") → component ≡ option_map normal_name name
    → ◌≡◌ {A = Option WordsOf} (Some (record { file = file; component = component })) (words_in (rows_of f))
something_said f file name component file_is name_is normal =
    let made : ◌≡◌ {A = Option WordsOf} (Some (record { file = file; component = component })) (said_by (Some file) name) =
    ap (λ (n : Option (List ℕ)). Some (record { file = file; component = n })) normal in
    made ∙ ap₂ said_by (file_is ∙ first_value-rows f (codes "file")) (name_is ∙ first_value-rows f (codes "component"))

free : is_simple_and_free program ≡ true
free = refl

simple : is_simple program ≡ true
simple = refl

not_refused : (kinds : Kinds) (found : Option WordsOf) → kinds ≡ [] → found ≡ unless_refused kinds found
not_refused kinds found none = sym (ap (λ ks. unless_refused ks found) none)

-- the matches of a parse that succeeds say what the words say
pub accepted : (a : App) (ws : List Text) (m : ArgMatches) → a ≡ program → (is_simple_and_free a ≡ true → fault_of a ws ≡ []) → HasMatchesOf a ws m
    → words_in (rows_of (found_of m)) ≡ words_of ws
unfolding words_of
accepted a ws m is faults found =
    let none : fault_of program ws ≡ [] = ap (λ b. fault_of b ws) (sym is) ∙ faults (ap is_simple_and_free is ∙ free) in
    let rows : rows_of (found_of m) ≡ matches_of program ws = (found (ap is_simple is ∙ simple)).0 ∙ ap (λ b. matches_of b ws) is in
    ap words_in rows ∙ not_refused (fault_of program ws) (words_in (matches_of program ws)) none

has_error : (kinds : Kinds) (e : Error) (found : Option WordsOf) → HasKind kinds e → (kind_of e ≡ OutOfMemory → ⊥) → None ≡ unless_refused kinds found
has_error [] e found (inl memory) other = absurd (other memory)
has_error [] e found (inr among) other = absurd among
has_error (k ∷ ks) e found has other = refl

-- words that are refused for another cause than want of memory say nothing
pub refused : (a : App) (ws : List Text) (e : Error) → a ≡ program → (is_simple_and_free a ≡ true → HasKind (fault_of a ws) e)
    → (kind_of e ≡ OutOfMemory → ⊥) → None ≡ words_of ws
unfolding words_of
refused a ws e is faults other =
    let P : App → Type 0 = λ b. HasKind (fault_of b ws) e in
    has_error (fault_of program ws) e (words_in (matches_of program ws)) (subst P is (faults (ap is_simple_and_free is ∙ free))) other
