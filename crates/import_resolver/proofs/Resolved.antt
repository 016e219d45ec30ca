-- Where a load goes on, each import of each file that was read means a file that was read.
use Rattle.std.proofs.Common.{◌≡◌, ◌||◌, ℕ, zero, suc, Bool, true, false, List, [], ◌∷◌, ◌++◌, length, map, Option, None, Some, refl, sym, ap, ◌∙◌, subst, append_assoc, append-nil}
use Rattle.std.specs.Prelude.{if◌then◌else◌, nat_le, slice_get}
use Rattle.std.specs.Str.{bytes_eq}
use Rattle.std.proofs.lemmas.List.Folds.{list_any-append}
use Rattle.std.proofs.lemmas.Slice.Eq.{bytes_eq-Decides}
use Rattle.syntax_tree.specs.declared.words.Ident.{Ident}
use Rattle.file_exports.specs.Imports.{Import, imports_among}
use Rattle.file_exports.specs.Roots.{has_name}
use Rattle.import_paths.specs.Paths.{file_meant}
use Rattle.import_resolver.specs.Loads.{World, Seen, Done, State, Asked, Known, Loop, To, most_files, at_first, asked_at, asked_first, reached_by, target_of, Job, Whole, One, Every, Outcome, Goes, Stops, is_done, next_by, target_by, seen_of, begun, after_imports, if_missing, after_file, first_missing, reached_named, Loads, LoadsMain, known, too_many, missing, broken, read, outside, looped, taken, no_more, first_stops, then_rest}

-- the names of files
abbrev pub names_of : List Seen → List (List ℕ)
names_of files = map (λ (file : Seen). file.name) files

-- an import of a file means a file that was read
abbrev pub Means : List ℕ → List Seen → Seen → Import → Type 0
Means main seen file import = (name : List ℕ) × (file_meant main file.name import.path.text ≡ Some name) × (has_name (names_of seen) name ≡ true)

abbrev pub EachMeans : List ℕ → List Seen → Seen → List Import → Type 0
EachMeans main seen file [] = Unit {0}
EachMeans main seen file (import ∷ imports) = Means main seen file import × EachMeans main seen file imports

abbrev pub AllMean : List ℕ → List Seen → List Seen → Type 0
AllMean main seen [] = Unit {0}
AllMean main seen (file ∷ files) = EachMeans main seen file (imports_among file.tree.items) × AllMean main seen files

-- ---- more files

or_left : (a b : Bool) → a ≡ true → (a || b) ≡ true
or_left a b e = ap (λ c. c || b) e

or_right : (a b : Bool) → b ≡ true → (a || b) ≡ true
or_right true b e = refl
or_right false b e = e

or_assoc : (a b c : Bool) → ((a || b) || c) ≡ (a || (b || c))
or_assoc true b c = refl
or_assoc false b c = refl

either : (a b : Bool) {P : Type 0} → (a ≡ true → P) → (b ≡ true → P) → (a || b) ≡ true → P
either true b f g e = f refl
either false b f g e = g e

some_is : {A : Type 0} (x y : A) → Some x ≡ Some y → x ≡ y
some_is x y e = cc

same_bytes : (name : List ℕ) → bytes_eq name name ≡ true
same_bytes name = (bytes_eq-Decides name name).1 refl

names-append : (seen more : List Seen) (name : List ℕ) → has_name (names_of (seen ++ more)) name ≡ (has_name (names_of seen) name || has_name (names_of more) name)
names-append [] more name = refl
names-append (file ∷ seen) more name = ap (λ b. bytes_eq file.name name || b) (names-append seen more name) ∙ sym (or_assoc (bytes_eq file.name name) (has_name (names_of seen) name) (has_name (names_of more) name))

name-more : (seen more : List Seen) (name : List ℕ) → has_name (names_of seen) name ≡ true → has_name (names_of (seen ++ more)) name ≡ true
name-more seen more name there = names-append seen more name ∙ or_left (has_name (names_of seen) name) (has_name (names_of more) name) there

means-more : (main : List ℕ) (seen more : List Seen) (file : Seen) (import : Import) → Means main seen file import → Means main (seen ++ more) file import
means-more main seen more file import (name, meant, there) = (name, meant, name-more seen more name there)

each-more : (main : List ℕ) (seen more : List Seen) (file : Seen) (imports : List Import) → EachMeans main seen file imports → EachMeans main (seen ++ more) file imports
each-more main seen more file [] mean = tt
each-more main seen more file (import ∷ imports) mean = (means-more main seen more file import mean.0, each-more main seen more file imports mean.1)

all-more : (main : List ℕ) (seen more : List Seen) (files : List Seen) → AllMean main seen files → AllMean main (seen ++ more) files
all-more main seen more [] mean = tt
all-more main seen more (file ∷ files) mean = (each-more main seen more file (imports_among file.tree.items) mean.0, all-more main seen more files mean.1)

all-append : (main : List ℕ) (seen : List Seen) (files others : List Seen) → AllMean main seen files → AllMean main seen others → AllMean main seen (files ++ others)
all-append main seen [] others mean also = also
all-append main seen (file ∷ files) others mean also = (mean.0, all-append main seen files others mean.1 also)

-- ---- what a load that goes on comes to

-- the files that are loaded whole were read
abbrev AreSeen : State → Type 0
AreSeen s = (name : List ℕ) → is_done s.done name ≡ true → has_name (names_of s.seen) name ≡ true

-- the file that was asked for was read, and what was imported means files that were
abbrev Claims : List ℕ → Job → State → Type 0
Claims main (Whole asked name) t = has_name (names_of t.seen) name ≡ true
Claims main (One importer import) t = Means main t.seen importer import
Claims main (Every importer imports) t = EachMeans main t.seen importer imports

record Resolves (main : List ℕ) (s : State) (job : Job) (t : State) : Type 0 where
  more : List Seen
  grown : t.seen ≡ s.seen ++ more
  mean : AllMean main t.seen more
  done : AreSeen t
  claim : Claims main job t

abbrev IfGoes : List ℕ → State → Job → Outcome → Type 0
IfGoes main s job (Goes t) = Resolves main s job t
IfGoes main s job (Stops refusal) = Unit {0}

stays : (main : List ℕ) (s : State) (job : Job) → AreSeen s → Claims main job s → Resolves main s job s
stays main s job seen claim = record { more = []; grown = sym (append-nil s.seen); mean = tt; done = seen; claim = claim }

-- ---- a file

known_by : (is_known is_full : Bool) → next_by is_known is_full ≡ Known → is_known ≡ true
known_by true is_full e = refl
known_by false true e = absurd (cc)
known_by false false e = absurd (cc)

begun_seen : (s : State) (file : Seen) → AreSeen s → AreSeen (begun s file)
begun_seen s file seen = λ name e. name-more s.seen (file ∷ []) name (seen name e)

file_there : (front : List Seen) (file : Seen) (more files : List Seen) (name : List ℕ) → files ≡ (front ++ file ∷ []) ++ more → bytes_eq file.name name ≡ true → has_name (names_of files) name ≡ true
file_there front file more files name grown is =
    ap (λ others. has_name (names_of others) name) grown
    ∙ name-more (front ++ file ∷ []) more name
    (names-append front (file ∷ []) name ∙ or_right (has_name (names_of front) name) (bytes_eq file.name name || false) (or_left (bytes_eq file.name name) false is))

closed_seen : (done : List Done) (last : Done) (seen : List Seen) (name : List ℕ) → (is_done done name ≡ true → has_name (names_of seen) name ≡ true) → (bytes_eq last.name name ≡ true → has_name (names_of seen) name ≡ true)
    → is_done (done ++ last ∷ []) name ≡ true → has_name (names_of seen) name ≡ true
closed_seen done last seen name before is e =
    either (is_done done name) (bytes_eq last.name name || false) before (λ f. either (bytes_eq last.name name) false is (λ g. absurd (cc)) f)
    (sym (list_any-append (λ (file : Done). bytes_eq file.name name) done (last ∷ [])) ∙ e)

after_read : (main : List ℕ) (s : State) (asked : Asked) (n : ℕ) (file : Seen) (o : Outcome) → IfGoes main (begun s file) (Every file (imports_among file.tree.items)) o → IfGoes main s (Whole asked file.name) (after_imports main n file o)
after_read main s asked n file (Stops refusal) x = tt
after_read main s asked n file (Goes u) x = record {
  more = file ∷ x.more;
  grown = x.grown ∙ append_assoc s.seen (file ∷ []) x.more;
  mean = (x.claim, x.mean);
  done = λ name e. closed_seen u.done (record { name = file.name; reached = reached_by main u.done n file }) u.seen name (x.done name) (file_there s.seen file x.more u.seen name x.grown) e;
  claim = file_there s.seen file x.more u.seen file.name x.grown (same_bytes file.name);
}

-- ---- an import

to_by : (is_loading : Bool) (other name : List ℕ) → (if is_loading then Loop else To other) ≡ To name → ◌≡◌ {A = Option (List ℕ)} (Some other) (Some name)
to_by true other name e = absurd (cc)
to_by false other name e = cc

meant_by : (loading : List (List ℕ)) (found : Option (List ℕ)) (name : List ℕ) → target_by loading found ≡ To name → found ≡ Some name
meant_by loading None name e = absurd (cc)
meant_by loading (Some other) name e = to_by (has_name loading other) other name e

unless_missing : (main : List ℕ) (s t : State) (job : Job) (importer : Seen) (ident : Option Ident) → Resolves main s job t → IfGoes main s job (if_missing importer t ident)
unless_missing main s t job importer None x = x
unless_missing main s t job importer (Some ident) x = tt

after_taken : (main : List ℕ) (loading : List (List ℕ)) (s : State) (asked : Asked) (importer : Seen) (import : Import) (name : List ℕ) (o : Outcome) → target_of main loading importer import ≡ To name
    → IfGoes main s (Whole asked name) o → IfGoes main s (One importer import) (after_file importer import name o)
after_taken main loading s asked importer import name (Stops refusal) e x = tt
after_taken main loading s asked importer import name (Goes u) e x =
    unless_missing main s u (One importer import) importer (first_missing u.seen (reached_named u.done name) import.names)
    (record { more = x.more; grown = x.grown; mean = x.mean; done = x.done; claim = (name, meant_by loading (file_meant main importer.name import.path.text) name e, x.claim) })

-- ---- imports one after the other

then_by : (main : List ℕ) (s t : State) (importer : Seen) (import : Import) (imports : List Import) (o : Outcome) → Resolves main s (One importer import) t → IfGoes main t (Every importer imports) o → IfGoes main s (Every importer (import ∷ imports)) o
then_by main s t importer import imports (Stops refusal) first rest = tt
then_by main s t importer import imports (Goes u) first rest = record {
  more = first.more ++ rest.more;
  grown = rest.grown ∙ (ap (λ files. files ++ rest.more) first.grown ∙ append_assoc s.seen first.more rest.more);
  mean = all-append main u.seen first.more rest.more (subst (λ (files : List Seen). AllMean main files first.more) (sym rest.grown) (all-more main t.seen rest.more first.more first.mean)) rest.mean;
  done = rest.done;
  claim = (subst (λ (files : List Seen). Means main files importer import) (sym rest.grown) (means-more main t.seen rest.more importer import first.claim), rest.claim);
}

resolves : {w : World} {main : List ℕ} {loading : List (List ℕ)} {job : Job} {s : State} {o : Outcome} → AreSeen s → Loads w main loading job s o → IfGoes main s job o
resolves {main = main} seen (known {asked = asked} {name = name} {s = s} e) = stays main s (Whole asked name) seen (seen name (known_by (is_done s.done name) (nat_le most_files (length s.seen)) e))
resolves seen (too_many e) = tt
resolves seen (missing e there) = tt
resolves seen (broken e there fault) = tt
resolves {main = main} seen (read {asked = asked} {name = name} {s = s} {bytes = bytes} {tree = tree} {o = o} e there is_read x h) =
    let file = seen_of name bytes tree in
    subst (IfGoes main s (Whole asked name)) (sym h) (after_read main s asked (length s.seen) file o (resolves (begun_seen s file seen) x))
resolves seen (outside e) = tt
resolves seen (looped e) = tt
resolves {main = main} seen (taken {loading = loading} {importer = importer} {import = import} {s = s} {name = name} {o = o} e x h) =
    subst (IfGoes main s (One importer import)) (sym h) (after_taken main loading s (asked_at importer import.path.span) importer import name o e (resolves seen x))
resolves {main = main} seen (no_more {importer = importer} {s = s}) = stays main s (Every importer []) seen tt
resolves seen (first_stops x) = tt
resolves {main = main} seen (then_rest {importer = importer} {import = import} {imports = imports} {s = s} {t = t} {o = o} x y) =
    let first : Resolves main s (One importer import) t = resolves seen x in then_by main s t importer import imports o first (resolves first.done y)

-- ---- a whole load

each-at : (main : List ℕ) (seen : List Seen) (file : Seen) (imports : List Import) (j : ℕ) (import : Import) → EachMeans main seen file imports → slice_get imports j ≡ Some import → Means main seen file import
each-at main seen file [] j import mean e = absurd (cc)
each-at main seen file (first ∷ imports) zero import mean e = subst (λ (its : Import). Means main seen file its) (some_is first import e) mean.0
each-at main seen file (first ∷ imports) (suc j) import mean e = each-at main seen file imports j import mean.1 e

all-at : (main : List ℕ) (seen files : List Seen) (k : ℕ) (file : Seen) → AllMean main seen files → slice_get files k ≡ Some file → EachMeans main seen file (imports_among file.tree.items)
all-at main seen [] k file mean e = absurd (cc)
all-at main seen (first ∷ files) zero file mean e = subst (λ (its : Seen). EachMeans main seen its (imports_among its.tree.items)) (some_is first file e) mean.0
all-at main seen (first ∷ files) (suc k) file mean e = all-at main seen files k file mean.1 e

none_seen : AreSeen at_first
none_seen name e = absurd (cc)

-- each import of each file that was read means a file that was read
pub all_mean : {w : World} {main : List ℕ} {s : State} → LoadsMain w main (Goes s) → AllMean main s.seen s.seen
all_mean {w} {main} {s} load =
    let all : Resolves main at_first (Whole (asked_first main) main) s = resolves none_seen load in
    subst (λ (files : List Seen). AllMean main s.seen files) (sym all.grown) all.mean

pub imports_resolved : {w : World} {main : List ℕ} {s : State} → LoadsMain w main (Goes s) → (k : ℕ) (file : Seen) → slice_get s.seen k ≡ Some file
    → (j : ℕ) (import : Import) → slice_get (imports_among file.tree.items) j ≡ Some import → Means main s.seen file import
imports_resolved {w} {main} {s} load k file there j import its =
    each-at main s.seen file (imports_among file.tree.items) j import (all-at main s.seen s.seen k file (all_mean load) there) its
