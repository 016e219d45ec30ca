-- A file that is loaded is short, so it has few lines.
use Rattle.std.proofs.Common.{if◌then◌else◌, ◌≡◌, ◌<◌, ◌≤◌, ◌^◌, ◌==◌, ℕ, zero, suc, Bool, true, false, List, [], ◌∷◌, ◌++◌, length, map, Option, Some, None, Ok, sym, subst, arith}
use Rattle.syntax_tree.specs.declared.files.File.{File}
use Rattle.syntax_tree.specs.declared.words.Ident.{Ident}
use Rattle.file_exports.specs.Imports.{Import}
use Rattle.source_lines.specs.Starts.{line_starts, starts_behind}
use Rattle.source_reader.specs.Sources.{IsRead, reads}
use Rattle.io_edge.specs.Files.{FileList}
use Rattle.import_resolver.specs.declared.loaded.Loaded.{Loaded}
use Rattle.import_resolver.specs.Loaded.{FileRow, LoadsSome, row_seen, rows_of, seen_names}
use Rattle.import_resolver.specs.Loads.{Goes, Job, Loads, Outcome, Seen, State, Stops, World, after_file, after_imports, broken, first_missing, first_stops, if_missing, known, looped, missing, no_more, outside, reached_named, read, seen_of, taken, then_rest, too_many}
use Rattle.slint_cli.specs.Verdicts.{FewLines}

-- ---- lines of bytes

one_more : (feed : Bool) (x : ℕ) (xs : List ℕ) (n : ℕ) → length xs ≤ n → length (if feed then x ∷ xs else xs) ≤ suc n
one_more true x xs n h = omega (arith, h)
one_more false x xs n h = omega (arith, h)

behind_few : (at : ℕ) (bytes : List ℕ) → length (starts_behind at bytes) ≤ length bytes
behind_few at [] = omega arith
behind_few at (b ∷ bytes) = one_more (b == 10) (suc at) (starts_behind (suc at) bytes) (length bytes) (behind_few (suc at) bytes)

within : (n m : ℕ) → n ≤ m → m ≤ 262144 → suc n < 4294967296
within n m a b = omega (arith, a, b)

read_few : {file : ℕ} (bytes : List ℕ) {tree : File} → IsRead file bytes (Ok tree) → length (line_starts bytes) < 2 ^ 32
read_few bytes (reads tokens tree short lexing derives) = within (length (starts_behind 0 bytes)) (length bytes) (behind_few 0 bytes) short

-- ---- files that were read

data AllFew : List Seen → Type 0 where
  none : AllFew []
  more : {file : Seen} {files : List Seen} → length file.starts < 2 ^ 32 → AllFew files → AllFew (file ∷ files)

and_one : (files : List Seen) (file : Seen) → AllFew files → length file.starts < 2 ^ 32 → AllFew (files ++ file ∷ [])
and_one [] file none q = more q none
and_one (other ∷ files) file (more p ps) q = more p (and_one files file ps q)

abbrev FewIn : Outcome → Type 0
FewIn (Goes s) = AllFew s.seen
FewIn (Stops refusal) = Unit {0}

after_all : (main : List ℕ) (n : ℕ) (file : Seen) (o : Outcome) → FewIn o → FewIn (after_imports main n file o)
after_all main n file (Goes s) p = p
after_all main n file (Stops refusal) p = tt

if_found : (importer : Seen) (s : State) (o : Option Ident) → AllFew s.seen → FewIn (if_missing importer s o)
if_found importer s None p = p
if_found importer s (Some ident) p = tt

after_one : (importer : Seen) (import : Import) (name : List ℕ) (o : Outcome) → FewIn o → FewIn (after_file importer import name o)
after_one importer import name (Goes s) p = if_found importer s (first_missing s.seen (reached_named s.done name) import.names) p
after_one importer import name (Stops refusal) p = tt

loads_few : {w : World} {main : List ℕ} {loading : List (List ℕ)} {job : Job} {s : State} {o : Outcome} → Loads w main loading job s o → AllFew s.seen → FewIn o
loads_few (known e) a = a
loads_few (too_many e) a = tt
loads_few (missing e h) a = tt
loads_few (broken e h r) a = tt
loads_few {main = main} (read {name = name} {s = s} {bytes = bytes} {tree = tree} {o = o} e h r l is) a =
    subst FewIn (sym is) (after_all main (length s.seen) (seen_of name bytes tree) o (loads_few l (and_one s.seen (seen_of name bytes tree) a (read_few bytes r))))
loads_few (outside e) a = tt
loads_few (looped e) a = tt
loads_few (taken {importer = importer} {import = import} {name = name} {o = o} e l is) a = subst FewIn (sym is) (after_one importer import name o (loads_few l a))
loads_few no_more a = a
loads_few (first_stops l) a = tt
loads_few (then_rest l m) a = loads_few m (loads_few l a)

-- ---- their rows

rows_few : (main : List ℕ) (names : List (List ℕ)) (seen : List Seen) → AllFew seen → FewLines (map (row_seen main names) seen)
rows_few main names [] none n row e = cc
rows_few main names (file ∷ files) (more p ps) zero row e = let same : row_seen main names file ≡ row = cc in subst (λ (r : FileRow). length r.starts < 2 ^ 32) same p
rows_few main names (file ∷ files) (more p ps) (suc n) row e = rows_few main names files ps n row e

pub few_loaded : (held : Option FileList) (main : List ℕ) (loaded : Loaded) → LoadsSome held main (Ok loaded) → FewLines (rows_of loaded)
few_loaded held main loaded (files, told, (s, loads, is)) =
    let P : List FileRow → Type 0 = λ rows. FewLines rows in
    subst P (sym is) (rows_few main (seen_names s.seen) s.seen (loads_few loads none))
