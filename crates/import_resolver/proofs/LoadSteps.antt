-- The steps of a load: one lemma for each way in which a file, an import or the imports of a file end.
use Rattle.std.proofs.Common.{◌≡◌, ℕ, zero, suc, ◌+◌, ◌-◌, ◌<◌, ◌≤◌, ◌||◌, Bool, true, false, List, [], ◌∷◌, ◌++◌, length, take, drop, map, nat_le, slice_get, string_bytes, Option, None, Some, IfSome, Result, Ok, Err, inl, inr, refl, sym, ap, ◌∙◌, subst, arith, option_map, append_assoc, append-nil, length-append, add-one}
use Rattle.std.specs.Prelude.{◌⊎◌, ⊤, if◌then◌else◌}
use Rattle.std.specs.List.{join_with_byte, slice_split}
use Rattle.std.proofs.lemmas.Bool.Decides.{nat_tests}
use Rattle.std.proofs.lemmas.List.{length-map, map-append, take_all, take-append-drop}
use Rattle.std.proofs.Math.Seq.{take-append_seam}
use Rattle.slint_base.specs.declared.faults.Span.{Span}
use Rattle.slint_base.specs.declared.refusals.Refusal.{Refusal}
use Rattle.slint_base.specs.declared.rules.Rule.TheVariants as rules
use Rattle.syntax_tree.specs.declared.files.File.{File}
use Rattle.syntax_tree.specs.declared.files.FileItem.{FileItem}
use Rattle.syntax_tree.specs.declared.words.Ident.{Ident}
use Rattle.io_edge.specs.Files.{FileList, bytes_named, most_read}
use Rattle.file_exports.specs.Imports.{Import, import_of, imports_among, onto_some}
use Rattle.file_exports.specs.Roots.{has_name}
use Rattle.import_paths.specs.Paths.{IsBelow, file_meant, folder_of, folder_segments, is_slash, leads_outside, walk}
use Rattle.source_reader.specs.Sources.{IsRead}
use Rattle.source_lines.specs.Starts.{line_starts}
use Rattle.import_resolver.specs.declared.ends.LoadEnd.{LoadEnd}
use Rattle.import_resolver.specs.declared.ends.LoadEnd.TheVariants as ends
use Rattle.import_resolver.specs.declared.steps.ToLoad.{ToLoad}
use Rattle.import_resolver.specs.declared.tables.SeenFile.{SeenFile}
use Rattle.import_resolver.specs.declared.tables.Site.{Site}
use Rattle.import_resolver.specs.declared.tables.Site.TheVariants as sites
use Rattle.import_resolver.specs.declared.tables.Table.{Table}
use Rattle.import_resolver.specs.Ends.{IsRefusal, LoadCount}
use Rattle.import_resolver.specs.Loads.{World, Seen, Done, State, Asked, Job, Whole, One, Every, Outcome, Goes, Stops, Next, Known, TooMany, Fresh, Target, Outside, Loop, To, Loads, known, read, outside, looped, taken, no_more, first_stops, then_rest, after_file, after_imports, asked_at, begun, closed, first_missing, if_missing, is_done, most_files, next_by, next_of, reached_named, refused, seen_of, target_by, target_of}
use Rattle.import_resolver.specs.Tables.{AsksAs, AsksFor, AtEach, Ended, Fits, FitsFrom, FitsLook, Halted, Has, IsFitting, IsNewLook, IsRight, IsSeen, Look, NextAs, NextReads, NextStops, OwnsExports, SiteWithin, Went, asked_in, asked_of, done_of_file, missing_of, names_of, seen_of_file, span_of, state_of}
use Rattle.import_resolver.proofs.Parts.{found_whole, none_some, some_same, tree_short}
use Rattle.import_resolver.proofs.Fitting.{Grown, SeenAt, at-grown, at-push, fits-at, fits-before, fits-push, fitting-look, grown-push, grown-same, grown-trans, right-begun, right-closed}

-- ---- loads of imports one after the other

pub every-then : {w : World} {main : List ℕ} {loading : List (List ℕ)} {file : Seen} {front back : List Import} {s t : State} {o : Outcome}
    → Loads w main loading (Every file front) s (Goes t) → Loads w main loading (Every file back) t o → Loads w main loading (Every file (front ++ back)) s o
every-then no_more rest = rest
every-then (then_rest one more) rest = then_rest one (every-then more rest)

pub every-stopped : {w : World} {main : List ℕ} {loading : List (List ℕ)} {file : Seen} {front : List Import} (back : List Import) {s : State} {refusal : Refusal}
    → Loads w main loading (Every file front) s (Stops refusal) → Loads w main loading (Every file (front ++ back)) s (Stops refusal)
every-stopped back (first_stops one) = first_stops one
every-stopped back (then_rest one more) = then_rest one (every-stopped back more)

-- ---- what is told stays told

pub told-same : (held : Option FileList) (files : List SeenFile) → IfSome held (λ list. Fits (bytes_named list) files → Fits (bytes_named list) files)
told-same None files = tt
told-same (Some list) files = λ fits. fits

told-trans : (held : Option FileList) (old mid new : List SeenFile) → IfSome held (λ list. Fits (bytes_named list) old → Fits (bytes_named list) mid)
    → IfSome held (λ list. Fits (bytes_named list) mid → Fits (bytes_named list) new) → IfSome held (λ list. Fits (bytes_named list) old → Fits (bytes_named list) new)
told-trans None old mid new a b = tt
told-trans (Some list) old mid new a b = λ fits. b (a fits)

told-look : (held : Option FileList) (old mid new : List SeenFile) (look : Look) → IfSome held (λ list. Fits (bytes_named list) old → Fits (bytes_named list) mid)
    → IfSome held (λ list. Fits (bytes_named list) mid → Fits (bytes_named list) new × FitsLook (bytes_named list) look)
    → IfSome held (λ list. Fits (bytes_named list) old → Fits (bytes_named list) new × FitsLook (bytes_named list) look)
told-look None old mid new look a b = tt
told-look (Some list) old mid new look a b = λ fits. b (a fits)

told-looked : (held : Option FileList) (files : List SeenFile) (look : Look) → IfSome held (λ list. FitsLook (bytes_named list) look)
    → IfSome held (λ list. Fits (bytes_named list) files → Fits (bytes_named list) files × FitsLook (bytes_named list) look)
told-looked None files look a = tt
told-looked (Some list) files look a = λ fits. (fits, a)

-- a file that was found where it is told is seen there
told-begun : (held : Option FileList) (old mid : Table) (name : List ℕ) (file : SeenFile) → NextReads held old name file → mid.files ≡ old.files ++ file ∷ []
    → IfSome held (λ list. Fits (bytes_named list) old.files → Fits (bytes_named list) mid.files)
told-begun None old mid name file next files = tt
told-begun (Some list) old mid name file next files = λ fits.
    subst (Fits (bytes_named list)) (sym files)
    (fits-push (bytes_named list) 0 (length old.files) old.files file (omega arith) fits
    (next.bytes, next.seen, subst (λ (n : List ℕ). Has (bytes_named list) n (Some next.bytes)) (sym next.named) next.told))

-- ---- one step after another

pub went-then : (main : List ℕ) (held : Option FileList) (old mid new : Table) (file : Seen) (front back : List Import) → Went main held old (Every file front) mid → Went main held mid (Every file back) new
    → Went main held old (Every file (front ++ back)) new
went-then main held old mid new file front back a b = record {
  grown = grown-trans old.files mid.files new.files a.grown b.grown;
  loading = b.loading ∙ a.loading;
  right = b.right;
  told = told-trans held old.files mid.files new.files a.told b.told;
  loads = λ w fits.
      every-then (a.loads w (fits-before w mid.files new.files b.grown fits))
      (subst (λ (l : List (List ℕ)). Loads w main l (Every file back) (state_of mid) (Goes (state_of new))) a.loading (b.loads w fits));
}

pub went-halts : (main : List ℕ) (held : Option FileList) (old mid new : Table) (file : Seen) (front back : List Import) (refusal : Refusal) → Went main held old (Every file front) mid
    → Halted main held mid (Every file back) new refusal → Halted main held old (Every file (front ++ back)) new refusal
went-halts main held old mid new file front back refusal a b = record {
  grown = grown-trans old.files mid.files new.files a.grown b.grown;
  look = b.look;
  told = told-look held old.files mid.files new.files b.look a.told b.told;
  fitted = b.fitted;
  loads = λ w fits looks.
      every-then (a.loads w (fits-before w mid.files new.files b.grown fits))
      (subst (λ (l : List (List ℕ)). Loads w main l (Every file back) (state_of mid) (Stops refusal)) a.loading (b.loads w fits looks));
}

-- a load that stops for one job stops for another that comes to the same
pub halted-by : (main : List ℕ) (held : Option FileList) (old new : Table) (job other : Job) (refusal : Refusal) → Halted main held old job new refusal
    → ((w : World) → Loads w main old.loading job (state_of old) (Stops refusal) → Loads w main old.loading other (state_of old) (Stops refusal)) → Halted main held old other new refusal
halted-by main held old new job other refusal halted also = record {
  grown = halted.grown;
  look = halted.look;
  told = halted.told;
  fitted = halted.fitted;
  loads = λ w fits looks. also w (halted.loads w fits looks);
}

-- ---- a file

-- it is loaded already
pub whole-known : (main : List ℕ) (held : Option FileList) (table : Table) (asked : Asked) (name : List ℕ) → IsRight main table → is_done (map done_of_file table.done) name ≡ true
    → Went main held table (Whole asked name) table
whole-known main held table asked name right done = record {
  grown = grown-same table.files;
  loading = refl;
  right = right;
  told = told-same held table.files;
  loads = λ w fits. known (ap (λ b. next_by b (nat_le most_files (length (map seen_of_file table.files)))) done);
}

-- it can't be read
whole-next_stops : (main : List ℕ) (held : Option FileList) (table : Table) (asked : Asked) (name : List ℕ) (refusal : Refusal) → IsRight main table → NextStops main held table asked name refusal
    → Halted main held table (Whole asked name) table refusal
whole-next_stops main held table asked name refusal right stops = record {
  grown = grown-same table.files;
  look = stops.look;
  told = told-looked held table.files stops.look stops.told;
  fitted = fitting-look table.files stops.look right.fitted stops.fresh;
  loads = λ w fits looks. stops.loads w looks;
}

pub whole-next_ended : (main : List ℕ) (held : Option FileList) (table : Table) (asked : Asked) (name : List ℕ) (stop : LoadEnd) → IsRight main table → NextAs main held table asked name (Err stop)
    → Ended main held table (Whole asked name) (Err stop) table
whole-next_ended main held table asked name (ends.Refused refusal) right stops = whole-next_stops main held table asked name refusal right stops
whole-next_ended main held table asked name ends.ReadFault right stops = tt
whole-next_ended main held table asked name ends.Memory right stops = tt

abbrev seen_with : List ℕ → File → List ℕ → Seen
seen_with name tree starts = record { name = name; tree = tree; starts = starts }

-- a file that is read and begun
pub record Begins (held : Option FileList) (old : Table) (name : List ℕ) (file : SeenFile) (mid : Table) : Type 0 where
  pub undone : is_done (map done_of_file old.done) name ≡ false
  pub next : NextReads held old name file
  pub files : mid.files ≡ old.files ++ file ∷ []
  pub done : mid.done ≡ old.done
  pub loading : mid.loading ≡ old.loading ++ file.name ∷ []

state-begun : (held : Option FileList) (old mid : Table) (name : List ℕ) (file : SeenFile) → Begins held old name file mid → state_of mid ≡ begun (state_of old) (seen_of_file file)
state-begun held old mid name file begins =
    let state : List Seen → List Done → State = λ seen done. record { seen = seen; done = done } in
    ap (λ done. state (map seen_of_file mid.files) (map done_of_file done)) begins.done
    ∙ ap (λ seen. state seen (map done_of_file old.done)) (ap (map seen_of_file) begins.files ∙ map-append seen_of_file old.files (file ∷ []))

nat_le-false : (n : ℕ) → n < 64 → nat_le 64 n ≡ false
nat_le-false n few = grind (arith, nat_tests)

fresh-by : (done : Bool) (count : ℕ) → done ≡ false → count < 64 → next_by done (nat_le most_files count) ≡ Fresh
fresh-by done count undone few = ap (λ b. next_by b (nat_le most_files count)) undone ∙ ap (next_by false) (nat_le-false count few)

-- what its imports come to makes what it comes to
whole-read : (w : World) (main : List ℕ) (held : Option FileList) (old mid : Table) (asked : Asked) (name : List ℕ) (file : SeenFile) (o p : Outcome) → Begins held old name file mid
    → SeenAt w (length old.files) file → Loads w main mid.loading (Every (seen_of_file file) (imports_among file.tree.items)) (state_of mid) o
    → p ≡ after_imports main (length old.files) (seen_of_file file) o → Loads w main old.loading (Whole asked name) (state_of old) p
whole-read w main held old mid asked name file o p begins (bytes, seen, has) loads comes =
    let len : length old.files ≡ length (map seen_of_file old.files) = sym (length-map old.files seen_of_file) in
    let few : length (map seen_of_file old.files) < 64 = omega (arith, len, begins.next.room) in
    let there : w name ≡ Some bytes = found_whole (w name) bytes (ap (λ n. option_map (take most_read) (w n)) (sym begins.next.named) ∙ has) (tree_short seen.read) in
    let same : seen_of_file file ≡ seen_of name bytes file.tree =
    ap (λ n. seen_with n file.tree file.starts.items) begins.next.named ∙ ap (seen_with name file.tree) seen.starts in
    let names : mid.loading ≡ old.loading ++ name ∷ [] = begins.loading ∙ ap (λ n. old.loading ++ n ∷ []) begins.next.named in
    let Imports : List (List ℕ) → State → Seen → Type 0 = λ l s f. Loads w main l (Every f (imports_among file.tree.items)) s o in
    let by_names = subst (λ (l : List (List ℕ)). Imports l (state_of mid) (seen_of_file file)) names loads in
    let by_state = subst (λ (s : State). Imports (old.loading ++ name ∷ []) s (seen_of_file file)) (state-begun held old mid name file begins) by_names in
    let by_file = subst (λ (f : Seen). Imports (old.loading ++ name ∷ []) (begun (state_of old) f) f) same by_state in
    let comes_len : p ≡ after_imports main (length (map seen_of_file old.files)) (seen_of_file file) o = comes ∙ ap (λ n. after_imports main n (seen_of_file file) o) len in
    read (fresh-by (is_done (map done_of_file old.done) name) (length (map seen_of_file old.files)) begins.undone few) there (subst (λ (n : ℕ). IsRead n bytes (Ok file.tree)) len seen.read) by_file
    (comes_len ∙ ap (λ f. after_imports main (length (map seen_of_file old.files)) f o) same)

-- the file itself, in any world that has what was seen since
begun-seen : (w : World) (held : Option FileList) (old mid new : Table) (name : List ℕ) (file : SeenFile) → Begins held old name file mid → Grown mid.files new.files → Fits w new.files → SeenAt w (length old.files) file
begun-seen w held old mid new name file begins grown fits =
    fits-at w 0 (length old.files) old.files file [] (omega arith) (subst (Fits w) begins.files (fits-before w mid.files new.files grown fits))

pub begun-right : (main : List ℕ) (held : Option FileList) (old mid : Table) (name : List ℕ) (file : SeenFile) → IsRight main old → IsBelow (folder_of main) name → has_name (names_of old.files) name ≡ false
    → Begins held old name file mid → IsRight main mid
begun-right main held old mid name file right below new begins = right-begun main held old mid name file right below new begins.next begins.files begins.done begins.loading

pub begun-at : (held : Option FileList) (old mid : Table) (name : List ℕ) (file : SeenFile) → Begins held old name file mid → slice_get mid.files (length old.files) ≡ Some file
begun-at held old mid name file begins = ap (λ files. slice_get files (length old.files)) begins.files ∙ at-push old.files file

-- an import of it stops
whole-every_stops : (main : List ℕ) (held : Option FileList) (old mid new : Table) (asked : Asked) (name : List ℕ) (file : SeenFile) (refusal : Refusal) → Begins held old name file mid
    → Halted main held mid (Every (seen_of_file file) (imports_among file.tree.items)) new refusal → Halted main held old (Whole asked name) new refusal
whole-every_stops main held old mid new asked name file refusal begins halted = record {
  grown = grown-trans old.files mid.files new.files (grown-push old.files mid.files file begins.files) halted.grown;
  look = halted.look;
  told = told-look held old.files mid.files new.files halted.look (told-begun held old mid name file begins.next begins.files) halted.told;
  fitted = halted.fitted;
  loads = λ w fits looks. whole-read w main held old mid asked name file (Stops refusal) (Stops refusal) begins (begun-seen w held old mid new name file begins halted.grown fits) (halted.loads w fits looks) refl;
}

pub whole-every_ended : (main : List ℕ) (held : Option FileList) (old mid new : Table) (asked : Asked) (name : List ℕ) (file : SeenFile) (stop : LoadEnd) → Begins held old name file mid
    → Ended main held mid (Every (seen_of_file file) (imports_among file.tree.items)) (Err stop) new → Ended main held old (Whole asked name) (Err stop) new
whole-every_ended main held old mid new asked name file (ends.Refused refusal) begins halted = whole-every_stops main held old mid new asked name file refusal begins halted
whole-every_ended main held old mid new asked name file ends.ReadFault begins halted = tt
whole-every_ended main held old mid new asked name file ends.Memory begins halted = tt

without-push : (names : List (List ℕ)) (name : List ℕ) → take (length (names ++ name ∷ []) - 1) (names ++ name ∷ []) ≡ names
without-push names name = let e : length (names ++ name ∷ []) - 1 ≡ length names = omega (arith, length-append names (name ∷ [])) in ap (λ n. take n (names ++ name ∷ [])) e ∙ take-append_seam names (name ∷ [])

-- it is loaded whole
pub whole-closed : (main : List ℕ) (held : Option FileList) (old mid full new : Table) (asked : Asked) (name : List ℕ) (file : SeenFile) → Begins held old name file mid
    → Went main held mid (Every (seen_of_file file) (imports_among file.tree.items)) full → new.files ≡ full.files → new.loading ≡ take (length full.loading - 1) full.loading
    → state_of new ≡ closed main (length old.files) (seen_of_file file) (state_of full) → Went main held old (Whole asked name) new
whole-closed main held old mid full new asked name file begins went files loading closes =
    let last : full.loading ≡ old.loading ++ file.name ∷ [] = went.loading ∙ begins.loading in
    let back : new.loading ≡ old.loading = loading ∙ (ap (λ l. take (length l - 1) l) last ∙ without-push old.loading file.name) in
    let grown = grown-trans old.files mid.files full.files (grown-push old.files mid.files file begins.files) went.grown in record {
      grown = subst (Grown old.files) (sym files) grown;
      loading = back;
      right = right-closed main full new old.loading file.name _ went.right files last back (ap (λ (s : State). s.done) closes) refl;
      told = subst (λ (fs : List SeenFile). IfSome held (λ list. Fits (bytes_named list) old.files → Fits (bytes_named list) fs)) (sym files)
          (told-trans held old.files mid.files full.files (told-begun held old mid name file begins.next begins.files) went.told);
      loads = λ w fits.
          let fits_full = subst (Fits w) files fits in
          whole-read w main held old mid asked name file (Goes (state_of full)) (Goes (state_of new)) begins (begun-seen w held old mid full name file begins went.grown fits_full) (went.loads w fits_full) (ap Goes closes);
    }

-- ---- an item of a file

-- it is no import
pub item-none : (main : List ℕ) (held : Option FileList) (table : Table) (importer : ℕ) (file : SeenFile) (import : Option Import) → IsRight main table → AsksAs main table importer file import (Ok None)
    → Went main held table (Every (seen_of_file file) (onto_some import [])) table
item-none main held table importer file None right asks = record {
  grown = grown-same table.files;
  loading = refl;
  right = right;
  told = told-same held table.files;
  loads = λ w fits. no_more;
}
item-none main held table importer file (Some import) right asks = absurd asks

told-none : (held : Option FileList) → IfSome held (λ list. FitsLook (bytes_named list) None)
told-none None = tt
told-none (Some list) = tt

-- its path leads outside, or to a file that is being loaded
asks-stops : (main : List ℕ) (held : Option FileList) (table : Table) (file : Seen) (import : Import) (refusal : Refusal) → IsRight main table
    → ((w : World) → Loads w main table.loading (One file import) (state_of table) (Stops refusal)) → Halted main held table (Every file (import ∷ [])) table refusal
asks-stops main held table file import refusal right loads = record {
  grown = grown-same table.files;
  look = None;
  told = told-looked held table.files None (told-none held);
  fitted = (right.fitted.held, right.fitted.fits, tt);
  loads = λ w fits looks. first_stops (loads w);
}

pub item-asks_ended : (main : List ℕ) (held : Option FileList) (table : Table) (importer : ℕ) (file : SeenFile) (import : Option Import) (stop : LoadEnd) → IsRight main table
    → AsksAs main table importer file import (Err stop) → Ended main held table (Every (seen_of_file file) (onto_some import [])) (Err stop) table
item-asks_ended main held table importer file None (ends.Refused refusal) right asks = absurd asks
item-asks_ended main held table importer file (Some import) (ends.Refused refusal) right (inl (e, is)) =
    asks-stops main held table (seen_of_file file) import refusal right
    (λ w. subst (λ (r : Refusal). Loads w main table.loading (One (seen_of_file file) import) (state_of table) (Stops r)) (sym is) (outside e))
item-asks_ended main held table importer file (Some import) (ends.Refused refusal) right (inr (e, is)) =
    asks-stops main held table (seen_of_file file) import refusal right
    (λ w. subst (λ (r : Refusal). Loads w main table.loading (One (seen_of_file file) import) (state_of table) (Stops r)) (sym is) (looped e))
item-asks_ended main held table importer file import ends.ReadFault right asks = tt
item-asks_ended main held table importer file import ends.Memory right asks = tt

-- what it asks for
pub record Asks (main : List ℕ) (table : Table) (importer : ℕ) (file : SeenFile) (import : Import) (name : List ℕ) (site : Site) : Type 0 where
  pub to : target_of main table.loading (seen_of_file file) import ≡ To name
  pub site_is : site ≡ sites.Import importer import.path.span

pub item-asks : (main : List ℕ) (table : Table) (importer : ℕ) (file : SeenFile) (import : Option Import) (target : ToLoad) → AsksAs main table importer file import (Ok (Some target))
    → (its : Import) × (import ≡ Some its) × Asks main table importer file its (string_bytes target.name) target.site
item-asks main table importer file None target asks = absurd asks
item-asks main table importer file (Some import) target asks = (import, refl, record { to = asks.0; site_is = asks.1 })

-- the same from an answer
pub item-asks_of : (main : List ℕ) (table : Table) (importer : ℕ) (file : SeenFile) (import : Option Import) (asked : Option ToLoad) (target : ToLoad) (name : List ℕ) → AsksAs main table importer file import (Ok asked)
    → asked ≡ Some target → name ≡ string_bytes target.name → (its : Import) × (import ≡ Some its) × Asks main table importer file its name target.site
item-asks_of main table importer file import asked target name asks is named =
    let found = item-asks main table importer file import target (subst (λ (a : Option ToLoad). AsksAs main table importer file import (Ok a)) is asks) in
    (found.0, found.1, subst (λ (n : List ℕ). Asks main table importer file found.0 n target.site) (sym named) found.2)

pub item-none_of : (main : List ℕ) (held : Option FileList) (table : Table) (importer : ℕ) (file : SeenFile) (import : Option Import) (asked : Option ToLoad) → IsRight main table → AsksAs main table importer file import (Ok asked)
    → asked ≡ None → Went main held table (Every (seen_of_file file) (onto_some import [])) table
item-none_of main held table importer file import asked right asks is =
    item-none main held table importer file import right (subst (λ (a : Option ToLoad). AsksAs main table importer file import (Ok a)) is asks)

loop_to : {name : List ℕ} → Loop ≡ To name → ⊥
loop_to e = cc

outside_to : {name : List ℕ} → Outside ≡ To name → ⊥
outside_to e = cc

to_same : {a b : List ℕ} → To a ≡ To b → a ≡ b
to_same e = cc

meant-by : (loading : List (List ℕ)) (other name : List ℕ) (b : Bool) → has_name loading other ≡ b → (if b then Loop else To other) ≡ To name → (Some other ≡ Some name) × (has_name loading name ≡ false)
meant-by loading other name true is e = absurd (loop_to e)
meant-by loading other name false is e = let same : other ≡ name = to_same e in (ap Some same, ap (has_name loading) (sym same) ∙ is)

meant-to : (loading : List (List ℕ)) (meant : Option (List ℕ)) (name : List ℕ) → target_by loading meant ≡ To name → (meant ≡ Some name) × (has_name loading name ≡ false)
meant-to loading None name e = absurd (outside_to e)
meant-to loading (Some other) name e = meant-by loading other name (has_name loading other) refl e

below-by : (main : List ℕ) (outside : Bool) (walked : Option (List (List ℕ))) (name : List ℕ) → (if outside then None else option_map (λ segments. folder_of main ++ join_with_byte 47 segments) walked) ≡ Some name → IsBelow (folder_of main) name
below-by main true walked name e = absurd (none_some e)
below-by main false None name e = absurd (none_some e)
below-by main false (Some segments) name e = (join_with_byte 47 segments, sym (some_same e))

meant-below : (main importer path name : List ℕ) → file_meant main importer path ≡ Some name → IsBelow (folder_of main) name
meant-below main importer path name e = below-by main (leads_outside path) (walk (folder_segments (folder_of main) importer) (slice_split is_slash path)) name e

asks-meant : (main : List ℕ) (table : Table) (importer : ℕ) (file : SeenFile) (import : Import) (name : List ℕ) (site : Site) → Asks main table importer file import name site
    → (file_meant main file.name import.path.text ≡ Some name) × (has_name table.loading name ≡ false)
asks-meant main table importer file import name site asks = meant-to table.loading (file_meant main file.name import.path.text) name asks.to

pub asks-unopened : (main : List ℕ) (table : Table) (importer : ℕ) (file : SeenFile) (import : Import) (name : List ℕ) (site : Site) → Asks main table importer file import name site → has_name table.loading name ≡ false
asks-unopened main table importer file import name site asks = (asks-meant main table importer file import name site asks).1

pub asks-below : (main : List ℕ) (table : Table) (importer : ℕ) (file : SeenFile) (import : Import) (name : List ℕ) (site : Site) → Asks main table importer file import name site → IsBelow (folder_of main) name
asks-below main table importer file import name site asks = meant-below main file.name import.path.text name (asks-meant main table importer file import name site asks).0

pub asks-within : (main : List ℕ) (table : Table) (importer : ℕ) (file : SeenFile) (import : Import) (name : List ℕ) (site : Site) → Asks main table importer file import name site → importer < length table.files
    → SiteWithin table site
asks-within main table importer file import name site asks within = subst (SiteWithin table) (sym asks.site_is) within

asked-at : (main : List ℕ) (table : Table) (importer : ℕ) (file : SeenFile) (span : Span) (site : Site) → site ≡ sites.Import importer span → slice_get table.files importer ≡ Some file
    → asked_of main table site ≡ asked_at (seen_of_file file) span
asked-at main table importer file span site is at = ap (asked_of main table) is ∙ ap (λ found. asked_in main found span) at

-- an import, where its file goes: what its names come to makes what it comes to
one-taken : (w : World) (main : List ℕ) (old : Table) (importer : ℕ) (file : SeenFile) (import : Import) (name : List ℕ) (site : Site) (o p : Outcome) → Asks main old importer file import name site
    → slice_get old.files importer ≡ Some file → Loads w main old.loading (Whole (asked_of main old site) name) (state_of old) o → p ≡ after_file (seen_of_file file) import name o
    → Loads w main old.loading (One (seen_of_file file) import) (state_of old) p
one-taken w main old importer file import name site o p asks at loads comes =
    taken asks.to (subst (λ (a : Asked). Loads w main old.loading (Whole a name) (state_of old) o) (asked-at main old importer file import.path.span site asks.site_is at) loads) comes

-- the file that it means stops
pub item-file_ended : (main : List ℕ) (held : Option FileList) (old new : Table) (importer : ℕ) (file : SeenFile) (import : Import) (name : List ℕ) (site : Site) (stop : LoadEnd) → Asks main old importer file import name site
    → slice_get old.files importer ≡ Some file → Ended main held old (Whole (asked_of main old site) name) (Err stop) new → Ended main held old (Every (seen_of_file file) (import ∷ [])) (Err stop) new
item-file_ended main held old new importer file import name site (ends.Refused refusal) asks at halted =
    halted-by main held old new (Whole (asked_of main old site) name) (Every (seen_of_file file) (import ∷ [])) refusal halted
    (λ w loads. first_stops (one-taken w main old importer file import name site (Stops refusal) (Stops refusal) asks at loads refl))
item-file_ended main held old new importer file import name site ends.ReadFault asks at halted = tt
item-file_ended main held old new importer file import name site ends.Memory asks at halted = tt

missing-stops : (importer : Seen) (s : State) (missing : Option Ident) (span : Span) (refusal : Refusal) → option_map span_of missing ≡ Some span → refusal ≡ refused rules.NotExported (asked_at importer span)
    → Stops refusal ≡ if_missing importer s missing
missing-stops importer s None span refusal e is = absurd (none_some e)
missing-stops importer s (Some ident) span refusal e is =
    let same : ident.span ≡ span = some_same e in
    ap Stops (is ∙ ap (λ sp. refused rules.NotExported (asked_at importer sp)) (sym same))

none-goes : (importer : Seen) (s : State) (missing : Option Ident) → option_map span_of missing ≡ None → Goes s ≡ if_missing importer s missing
none-goes importer s None e = refl
none-goes importer s (Some ident) e = absurd (none_some (sym e))

-- it doesn't export a name
item-missing : (main : List ℕ) (held : Option FileList) (old new : Table) (importer : ℕ) (file : SeenFile) (import : Import) (name : List ℕ) (site : Site) (span : Span) (refusal : Refusal)
    → Asks main old importer file import name site → slice_get old.files importer ≡ Some file → Went main held old (Whole (asked_of main old site) name) new
    → option_map span_of (missing_of new name import) ≡ Some span → refusal ≡ refused rules.NotExported (asked_of main new (sites.Import importer span))
    → Halted main held old (Every (seen_of_file file) (import ∷ [])) new refusal
item-missing main held old new importer file import name site span refusal asks at went missing is =
    let at_now = at-grown old.files new.files importer file went.grown at in
    let there : refusal ≡ refused rules.NotExported (asked_at (seen_of_file file) span) =
    is ∙ ap (refused rules.NotExported) (asked-at main new importer file span (sites.Import importer span) refl at_now) in
    record {
      grown = went.grown;
      look = None;
      told = told-look held old.files new.files new.files None went.told (told-looked held new.files None (told-none held));
      fitted = (went.right.fitted.held, went.right.fitted.fits, tt);
      loads = λ w fits looks.
          first_stops (one-taken w main old importer file import name site (Goes (state_of new)) (Stops refusal) asks at (went.loads w fits)
          (missing-stops (seen_of_file file) (state_of new) (missing_of new name import) span refusal missing there));
    }

pub item-missing_ended : (main : List ℕ) (held : Option FileList) (old new : Table) (importer : ℕ) (file : SeenFile) (import : Import) (name : List ℕ) (site : Site) (span : Span) (stop : LoadEnd)
    → Asks main old importer file import name site → slice_get old.files importer ≡ Some file → Went main held old (Whole (asked_of main old site) name) new
    → option_map span_of (missing_of new name import) ≡ Some span → IsRefusal (refused rules.NotExported (asked_of main new (sites.Import importer span))) stop
    → Ended main held old (Every (seen_of_file file) (import ∷ [])) (Err stop) new
item-missing_ended main held old new importer file import name site span (ends.Refused refusal) asks at went missing is = item-missing main held old new importer file import name site span refusal asks at went missing is
item-missing_ended main held old new importer file import name site span ends.ReadFault asks at went missing is = tt
item-missing_ended main held old new importer file import name site span ends.Memory asks at went missing is = tt

-- it exports all that is wanted
pub item-taken : (main : List ℕ) (held : Option FileList) (old new : Table) (importer : ℕ) (file : SeenFile) (import : Import) (name : List ℕ) (site : Site) → Asks main old importer file import name site
    → slice_get old.files importer ≡ Some file → Went main held old (Whole (asked_of main old site) name) new → option_map span_of (missing_of new name import) ≡ None
    → Went main held old (Every (seen_of_file file) (import ∷ [])) new
item-taken main held old new importer file import name site asks at went missing = record {
  grown = went.grown;
  loading = went.loading;
  right = went.right;
  told = went.told;
  loads = λ w fits.
      then_rest (one-taken w main old importer file import name site (Goes (state_of new)) (Goes (state_of new)) asks at (went.loads w fits)
      (none-goes (seen_of_file file) (state_of new) (missing_of new name import) missing)) no_more;
}

-- ---- the items of a file, one after the other

onto-append : (import : Option Import) (front back : List Import) → onto_some import (front ++ back) ≡ onto_some import front ++ back
onto-append None front back = refl
onto-append (Some import) front back = refl

imports-append : (front back : List FileItem) → imports_among (front ++ back) ≡ imports_among front ++ imports_among back
imports-append [] back = refl
imports-append (item ∷ front) back = ap (onto_some (import_of item)) (imports-append front back) ∙ onto-append (import_of item) (imports_among front) (imports_among back)

take-next : (items : List FileItem) (k : ℕ) (item : FileItem) → slice_get items k ≡ Some item → take (suc k) items ≡ take k items ++ item ∷ []
take-next [] k item at = absurd (none_some at)
take-next (first ∷ items) zero item at = ap (λ i. i ∷ []) (some_same at)
take-next (first ∷ items) (suc k) item at = ap (λ front. first ∷ front) (take-next items k item at)

imports-next : (items : List FileItem) (k : ℕ) (item : FileItem) → slice_get items k ≡ Some item → imports_among (take k items) ++ imports_among (item ∷ []) ≡ imports_among (take (k + 1) items)
imports-next items k item at =
    sym (imports-append (take k items) (item ∷ [])) ∙ (ap imports_among (sym (take-next items k item at)) ∙ ap (λ n. imports_among (take n items)) (sym (add-one k)))

imports-all : (items : List FileItem) (k : ℕ) → imports_among (take k items) ++ imports_among (drop k items) ≡ imports_among items
imports-all items k = sym (imports-append (take k items) (drop k items)) ∙ ap imports_among (take-append-drop k items)

-- none yet
pub every-start : (main : List ℕ) (held : Option FileList) (table : Table) (file : SeenFile) → IsRight main table → Went main held table (Every (seen_of_file file) (imports_among (take 0 file.tree.items))) table
every-start main held table file right = record {
  grown = grown-same table.files;
  loading = refl;
  right = right;
  told = told-same held table.files;
  loads = λ w fits. no_more;
}

-- one more
pub every-turn : (main : List ℕ) (held : Option FileList) (old now new : Table) (file : SeenFile) (k : ℕ) (item : FileItem) → slice_get file.tree.items k ≡ Some item
    → Went main held old (Every (seen_of_file file) (imports_among (take k file.tree.items))) now → Went main held now (Every (seen_of_file file) (imports_among (item ∷ []))) new
    → Went main held old (Every (seen_of_file file) (imports_among (take (k + 1) file.tree.items))) new
every-turn main held old now new file k item at a b =
    subst (λ (imports : List Import). Went main held old (Every (seen_of_file file) imports) new) (imports-next file.tree.items k item at)
    (went-then main held old now new (seen_of_file file) (imports_among (take k file.tree.items)) (imports_among (item ∷ [])) a b)

-- one that stops
pub every-item_ended : (main : List ℕ) (held : Option FileList) (old now new : Table) (file : SeenFile) (k : ℕ) (item : FileItem) (stop : LoadEnd) → slice_get file.tree.items k ≡ Some item
    → Went main held old (Every (seen_of_file file) (imports_among (take k file.tree.items))) now → Ended main held now (Every (seen_of_file file) (imports_among (item ∷ []))) (Err stop) new
    → Ended main held old (Every (seen_of_file file) (imports_among file.tree.items)) (Err stop) new
every-item_ended main held old now new file k item (ends.Refused refusal) at a b =
    let items = file.tree.items in
    let front = went-halts main held old now new (seen_of_file file) (imports_among (take k items)) (imports_among (item ∷ [])) refusal a b in
    let next = subst (λ (imports : List Import). Halted main held old (Every (seen_of_file file) imports) new refusal) (imports-next items k item at) front in
    let all = halted-by main held old new (Every (seen_of_file file) (imports_among (take (k + 1) items))) (Every (seen_of_file file) (imports_among (take (k + 1) items) ++ imports_among (drop (k + 1) items))) refusal next
    (λ w loads. every-stopped (imports_among (drop (k + 1) items)) loads) in
    subst (λ (imports : List Import). Halted main held old (Every (seen_of_file file) imports) new refusal) (imports-all items (k + 1)) all
every-item_ended main held old now new file k item ends.ReadFault at a b = tt
every-item_ended main held old now new file k item ends.Memory at a b = tt

-- all of them
pub every-end : (main : List ℕ) (held : Option FileList) (old now : Table) (file : SeenFile) (k : ℕ) → length file.tree.items ≤ k
    → Went main held old (Every (seen_of_file file) (imports_among (take k file.tree.items))) now → Went main held old (Every (seen_of_file file) (imports_among file.tree.items)) now
every-end main held old now file k all went =
    subst (λ (items : List FileItem). Went main held old (Every (seen_of_file file) (imports_among items)) now) (take_all k file.tree.items all) went

-- ---- places that are there

pub at-within : {A : Type 0} (xs : List A) (k : ℕ) → k < length xs → (x : A) × (slice_get xs k ≡ Some x)
at-within [] k within = absurd (omega arith)
at-within (x ∷ xs) zero within = (x, refl)
at-within (x ∷ xs) (suc k) within = at-within xs k (omega arith)

-- ---- counts

none-missing : rules.NotExported ≡ rules.FileMissing → ⊥
none-missing e = cc

outside-missing : rules.PathOutside ≡ rules.FileMissing → ⊥
outside-missing e = cc

loop-missing : rules.ImportLoop ≡ rules.FileMissing → ⊥
loop-missing e = cc

-- an import whose path leads nowhere reads nothing
pub item-asks_counted : (main : List ℕ) (table : Table) (importer : ℕ) (file : SeenFile) (import : Option Import) (stop : LoadEnd) (faults misses : ℕ) → AsksAs main table importer file import (Err stop)
    → LoadCount {A = ⊤} (Err stop) faults faults misses misses
item-asks_counted main table importer file None (ends.Refused refusal) faults misses asks = absurd asks
item-asks_counted main table importer file None ends.ReadFault faults misses asks = absurd asks
item-asks_counted main table importer file (Some import) (ends.Refused refusal) faults misses (inl (e, is)) = (refl, λ rule. absurd (outside-missing (sym (ap (λ (r : Refusal). r.rule) is) ∙ rule)))
item-asks_counted main table importer file (Some import) (ends.Refused refusal) faults misses (inr (e, is)) = (refl, λ rule. absurd (loop-missing (sym (ap (λ (r : Refusal). r.rule) is) ∙ rule)))
item-asks_counted main table importer file (Some import) ends.ReadFault faults misses asks = absurd asks
item-asks_counted main table importer file import ends.Memory faults misses asks = refl

-- an error counts alike whatever the answer would have been
pub count-err : (A B : Type 0) (stop : LoadEnd) (faults faults_now misses misses_now : ℕ) → LoadCount {A = A} (Err stop) faults faults_now misses misses_now → LoadCount {A = B} (Err stop) faults faults_now misses misses_now
count-err A B (ends.Refused refusal) faults faults_now misses misses_now counts = counts
count-err A B ends.ReadFault faults faults_now misses misses_now counts = counts
count-err A B ends.Memory faults faults_now misses misses_now counts = counts

-- counts that stood still before
pub count-after : (stop : LoadEnd) (faults faults_then faults_now misses misses_then misses_now : ℕ) → faults_then ≡ faults → misses_then ≡ misses → LoadCount {A = ⊤} (Err stop) faults_then faults_now misses_then misses_now
    → LoadCount {A = ⊤} (Err stop) faults faults_now misses misses_now
count-after stop faults faults_then faults_now misses misses_then misses_now same_faults same_misses counts =
    subst (λ (m : ℕ). LoadCount {A = ⊤} (Err stop) faults faults_now m misses_now) same_misses (subst (λ (f : ℕ). LoadCount {A = ⊤} (Err stop) f faults_now misses_then misses_now) same_faults counts)
