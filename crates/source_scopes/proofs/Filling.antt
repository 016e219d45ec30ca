-- How the names of files are made one file after the other.
use Rattle.std.specs.Prelude.{ℕ, zero, suc, List, [], ◌∷◌, ◌++◌, map, take, length, slice_get, slice_set, replicate, Option, Some, None}
use Rattle.std.specs.List.{filter_map}
use Rattle.std.specs.Option.{option_map}
use Rattle.std.proofs.Common.{◌≡◌, ◌+◌, ◌<◌, ◌≤◌, refl, sym, ◌∙◌, ap, subst, add-one, append_assoc, get_or, length-append, arith}
use Rattle.std.proofs.lemmas.List.{append-nil, length-replicate, map-append, take_more}
use Rattle.std.proofs.lemmas.List.Elements.{filter_map-append}
use Rattle.std.proofs.lemmas.Option.{slice_get_past, slice_get_within}
use Rattle.std.proofs.Math.ListN.{drop}
use Rattle.syntax_tree.specs.declared.files.FileItem.{FileItem}
use Rattle.file_exports.specs.Imports.{onto_some}
use Rattle.import_resolver.specs.Loaded.{FileRow}
use Rattle.source_scopes.specs.declared.meanings.Counts.{Counts}
use Rattle.source_scopes.specs.declared.meanings.Entry.{Entry}
use Rattle.source_scopes.specs.declared.tables.FileTable.{FileTable}
use Rattle.source_scopes.specs.Declarations.{counted, counted_all, counted_files, counted_row, counts_before, items_in, no_declarations, of_files}
use Rattle.source_scopes.specs.Entries.{exports_among, exports_at, exports_by, exports_within, imports_behind, scope_among, scope_at, scope_by, scope_within, with_entries, with_entry}
use Rattle.source_scopes.specs.Shown.{Parts, row_parts}
use Rattle.source_scopes.specs.Tables.{AllDone, AreAll, AreStarts, AreTables, AsExported, IsDone, IsExported, IsTableOf, TableAs, WholeAs}
use Rattle.source_scopes.proofs.Lookups.{length-set_each, none_left, past_end, push_each, replicate_each, set_each}

-- ---- what is known of other files

pub beyond : (n : ℕ) (rows : List FileRow) (k : ℕ) → slice_get rows k ≡ None → exports_within n rows k ≡ []
beyond zero rows k e = refl
beyond (suc n) rows k e = ap (exports_at (exports_within n rows) (counts_before rows k)) e

known_by : (rows : List FileRow) (tables : List (Option FileTable)) (done n k : ℕ) → done ≤ n → length tables ≡ length rows → (t : Option (Option FileTable)) → slice_get tables k ≡ t
    → TableAs rows done k t → IsExported (exports_within n rows) k t
known_by rows tables done n k le sized None at held = beyond n rows k (slice_get_past rows k (subst (λ m. m ≤ k) sized (past_end tables k at)))
known_by rows tables done n k le sized (Some None) at held = tt
known_by rows tables done n k le sized (Some (Some t)) at held = sym (held.taken n le)

pub as_exported : (rows : List FileRow) (tables : List (Option FileTable)) (done n : ℕ) → AreTables rows done tables → done ≤ n → AsExported (exports_within n rows) tables
as_exported rows tables done n are le = λ k. known_by rows tables done n k le are.sized (slice_get tables k) refl (are.each k)

-- ---- one file more

pub record RowThere (o : Option FileRow) (parts : Parts) : Type 0 where
  pub row : FileRow
  pub there : o ≡ Some row
  pub same : row_parts row ≡ parts

pub row_there : (o : Option FileRow) (parts : Parts) → Some parts ≡ option_map row_parts o → RowThere o parts
row_there None parts e = cc
row_there (Some row) parts e = record { row = row; there = refl; same = cc }

scope_is : (exports : ℕ → List Entry) (at at' : Counts) (o : Option FileRow) (row : FileRow) (parts : Parts) → o ≡ Some row → row_parts row ≡ parts → at ≡ at'
    → scope_among exports at parts.items parts.imports ≡ scope_at exports at' o
scope_is exports at at' o row parts there same counts = rw (there, ← same, counts) refl

exports_is : (exports : ℕ → List Entry) (at at' : Counts) (o : Option FileRow) (row : FileRow) (parts : Parts) → o ≡ Some row → row_parts row ≡ parts → at ≡ at'
    → exports_among exports (scope_among exports at parts.items parts.imports) [] at parts.items parts.imports ≡ exports_at exports at' o
exports_is exports at at' o row parts there same counts = rw (there, ← same, counts) refl

module _ (rows : List FileRow) (tables : List (Option FileTable)) (done k : ℕ) (counts : Counts) (parts : Parts) (table : FileTable)
    (are : AreTables rows done tables) (there : RowThere (slice_get rows k) parts) (before : counts ≡ counts_before rows k)
    (made : (exports : ℕ → List Entry) → AsExported exports tables → IsTableOf exports counts parts.items parts.imports table) where
  scope_from : (n : ℕ) → suc done ≤ n → table.scope ≡ scope_within n rows k
  scope_from n le = (made (exports_within n rows) (as_exported rows tables done n are (omega (arith, le)))).scope
      ∙ scope_is (exports_within n rows) counts (counts_before rows k) (slice_get rows k) there.row parts there.there there.same before

  taken_from : (n : ℕ) → suc done ≤ n → table.exports ≡ exports_within n rows k
  taken_from zero le = absurd (omega (arith, le))
  taken_from (suc n) le = (made (exports_within n rows) (as_exported rows tables done n are (omega (arith, le)))).taken
      ∙ exports_is (exports_within n rows) counts (counts_before rows k) (slice_get rows k) there.row parts there.there there.same before

  later : (j : ℕ) (t : Option (Option FileTable)) → TableAs rows done j t → TableAs rows (suc done) j t
  later j None held = tt
  later j (Some None) held = tt
  later j (Some (Some t)) held = record { scope = λ n le. held.scope n (omega (arith, le)); taken = λ n le. held.taken n (omega (arith, le)) }

  pub filled : AreTables rows (suc done) (slice_set tables k (Some table))
  filled = record {
    sized = length-set_each tables k (Some table) ∙ are.sized;
    each = set_each (λ j t. TableAs rows (suc done) j t) tables k (Some table) (λ j. later j (slice_get tables j) (are.each j)) (record { scope = scope_from; taken = taken_from });
  }

-- ---- no file, and all files

-- no file's names
abbrev pub nothing : Option FileTable
nothing = None

no_tables : (rows : List FileRow) (n : ℕ) → n ≡ length rows → AreTables rows 0 (replicate n nothing)
no_tables rows n sized = record {
  sized = length-replicate n nothing ∙ sized;
  each = replicate_each (λ j t. TableAs rows 0 j t) nothing (λ k. tt) (λ k. tt) n;
}

pub tables_begin : (rows : List FileRow) (n : ℕ) (tables : List (Option FileTable)) → n ≡ length rows → tables ≡ replicate n nothing → AreTables rows 0 tables
tables_begin rows n tables sized are = subst (λ ts. AreTables rows 0 ts) (sym are) (no_tables rows n sized)

pub tables_turn : (rows : List FileRow) (done : ℕ) (tables : List (Option FileTable)) → AreTables rows (suc done) tables → AreTables rows (done + 1) tables
tables_turn rows done tables are = subst (λ n. AreTables rows n tables) (sym (add-one done)) are

whole_by : (rows : List FileRow) (tables : List (Option FileTable)) (done k : ℕ) → done ≤ length rows → length tables ≡ length rows → (t : Option (Option FileTable)) → slice_get tables k ≡ t
    → TableAs rows done k t → IsDone t → WholeAs rows k t
whole_by rows tables done k le sized None at held is = subst (λ m. m ≤ k) sized (past_end tables k at)
whole_by rows tables done k le sized (Some None) at held is = is
whole_by rows tables done k le sized (Some (Some t)) at held is = record { scope = held.scope (length rows) le; taken = held.taken (length rows) le }

pub all_there : (rows : List FileRow) (tables : List (Option FileTable)) (done : ℕ) → AreTables rows done tables → done ≤ length rows → AllDone tables → AreAll rows tables
all_there rows tables done are le all = λ k. whole_by rows tables done k le are.sized (slice_get tables k) refl (are.each k) (all k)

-- ---- what is declared before each file

before_from : (c : Counts) (rows : List FileRow) (k : ℕ) → counted_files c (take (suc k) rows) ≡ counted_row (counted_files c (take k rows)) (slice_get rows k)
before_from c [] zero = refl
before_from c [] (suc k) = refl
before_from c (row ∷ rows) zero = refl
before_from c (row ∷ rows) (suc k) = before_from (counted_all c row.tree.items) rows k

pub counts_next : (rows : List FileRow) (k : ℕ) → counts_before rows (k + 1) ≡ counted_row (counts_before rows k) (slice_get rows k)
counts_next rows k = rw add-one (before_from no_declarations rows k)

pub starts_next : (rows : List FileRow) (k : ℕ) (starts : List Counts) (counts : Counts) → AreStarts rows k starts → counts ≡ counts_before rows k → AreStarts rows (k + 1) (starts ++ counts ∷ [])
starts_next rows k starts counts are is = record {
  sized = omega (arith, length-append starts (counts ∷ []), are.sized);
  each = λ j less. push_each (counts_before rows) starts counts (λ i below. are.each i (omega (arith, below, are.sized))) (is ∙ ap (counts_before rows) (sym are.sized)) j (omega (arith, less, are.sized));
}

pub starts_begin : (rows : List FileRow) (starts : List Counts) → starts ≡ [] → AreStarts rows 0 starts
starts_begin rows starts is = record { sized = ap length is; each = λ k less. absurd (omega (arith, less)) }

pub starts_grow : (rows : List FileRow) (k : ℕ) (starts new : List Counts) (counts : Counts) → AreStarts rows k starts → counts ≡ counts_before rows k → new ≡ starts ++ counts ∷ [] → AreStarts rows (k + 1) new
starts_grow rows k starts new counts are is grown = subst (λ xs. AreStarts rows (k + 1) xs) (sym grown) (starts_next rows k starts counts are is)

pub counts_grow : (rows : List FileRow) (k : ℕ) (counts new : Counts) → counts ≡ counts_before rows k → new ≡ counted_row counts (slice_get rows k) → new ≡ counts_before rows (k + 1)
counts_grow rows k counts new is grown = grown ∙ ap (λ c. counted_row c (slice_get rows k)) is ∙ sym (counts_next rows k)

-- ---- what is among the items of files

files_next_from : {A : Type 0} (among : ℕ → List FileItem → List A) (b : ℕ) (rows : List FileRow) (k : ℕ) → ((n : ℕ) → among n [] ≡ [])
    → of_files among b (take (suc k) rows) ≡ of_files among b (take k rows) ++ among (b + k) (items_in (slice_get rows k))
files_next_from among b [] zero none = sym (none (b + 0))
files_next_from among b [] (suc k) none = sym (none (b + suc k))
files_next_from among b (row ∷ rows) zero none = let e : b + 0 ≡ b = omega arith in rw e (append-nil (among b row.tree.items))
files_next_from among b (row ∷ rows) (suc k) none =
    let e : b + suc k ≡ suc b + k = omega arith in
    rw (files_next_from among (suc b) rows k none, e) (sym (append_assoc (among b row.tree.items) (of_files among (suc b) (take k rows)) (among (suc b + k) (items_in (slice_get rows k)))))

pub files_next : {A : Type 0} (among : ℕ → List FileItem → List A) (rows : List FileRow) (k : ℕ) → ((n : ℕ) → among n [] ≡ [])
    → of_files among 0 (take (k + 1) rows) ≡ of_files among 0 (take k rows) ++ among k (items_in (slice_get rows k))
files_next among rows k none = let e : 0 + k ≡ k = omega arith in rw (add-one k) (files_next_from among 0 rows k none ∙ ap (λ n. of_files among 0 (take k rows) ++ among n (items_in (slice_get rows k))) e)

pub files_turn : {A : Type 0} (among : ℕ → List FileItem → List A) (rows : List FileRow) (k : ℕ) (first old new : List A) (items : List FileItem) → ((n : ℕ) → among n [] ≡ [])
    → new ≡ old ++ among k items → items ≡ items_in (slice_get rows k) → old ≡ first ++ of_files among 0 (take k rows) → new ≡ first ++ of_files among 0 (take (k + 1) rows)
files_turn among rows k first old new items none grown are before = grown ∙ ap (λ xs. xs ++ among k items) before ∙ append_assoc first (of_files among 0 (take k rows)) (among k items)
    ∙ ap (λ is. first ++ (of_files among 0 (take k rows) ++ among k is)) are ∙ ap (λ xs. first ++ xs) (sym (files_next among rows k none))

-- ---- the items of one file

pub start_is : (rows : List FileRow) (n k : ℕ) (starts : List Counts) (counts : Counts) → AreStarts rows n starts → Some counts ≡ slice_get starts k → counts ≡ counts_before rows k
start_is rows n k starts counts are at = some_same (at ∙ are.each k (omega (arith, slice_get_within starts k counts (sym at), are.sized)))
  where
    some_same : Some counts ≡ Some (counts_before rows k) → counts ≡ counts_before rows k
    some_same e = cc

pub scope_step : (exports : ℕ → List Entry) (whole old new : List Entry) (at after : Counts) (rest rest' : List FileItem) (item : FileItem) (left behind : List ℕ)
    → rest ≡ item ∷ rest' → new ≡ old ++ scope_by exports at item left → after ≡ counted at item → behind ≡ imports_behind item left
    → whole ≡ old ++ scope_among exports at rest left → whole ≡ new ++ scope_among exports after rest' behind
scope_step exports whole old new at after rest rest' item left behind is grown counted_is behind_is e = rw (grown, counted_is, behind_is) (e ∙ ap (λ r. old ++ scope_among exports at r left) is
    ∙ sym (append_assoc old (scope_by exports at item left) (scope_among exports (counted at item) rest' (imports_behind item left))))

pub scope_done : (exports : ℕ → List Entry) (whole old : List Entry) (at : Counts) (items : List FileItem) (i : ℕ) (left : List ℕ) → length items ≤ i
    → whole ≡ old ++ scope_among exports at (drop i items) left → old ≡ whole
scope_done exports whole old at items i left past e = sym (e ∙ ap (λ r. old ++ scope_among exports at r left) (none_left items i past) ∙ append-nil old)

pub exports_done : (exports : ℕ → List Entry) (scope whole old : List Entry) (at : Counts) (items : List FileItem) (i : ℕ) (left : List ℕ) → length items ≤ i
    → whole ≡ exports_among exports scope old at (drop i items) left → old ≡ whole
exports_done exports scope whole old at items i left past e = sym (e ∙ ap (λ r. exports_among exports scope old at r left) (none_left items i past))

pub exports_step : (exports : ℕ → List Entry) (scope whole old new : List Entry) (at after : Counts) (rest rest' : List FileItem) (item : FileItem) (left behind : List ℕ)
    → rest ≡ item ∷ rest' → new ≡ with_entries old (exports_by exports scope at item left) → after ≡ counted at item → behind ≡ imports_behind item left
    → whole ≡ exports_among exports scope old at rest left → whole ≡ exports_among exports scope new after rest' behind
exports_step exports scope whole old new at after rest rest' item left behind is grown counted_is behind_is e = rw (grown, counted_is, behind_is) (e ∙ ap (λ r. exports_among exports scope old at r left) is)

-- entries that are added one by one
pub with_entries-next : (es : List Entry) (more : List Entry) (e : Entry) → with_entries es (more ++ e ∷ []) ≡ with_entry (with_entries es more) e
with_entries-next es [] e = refl
with_entries-next es (x ∷ more) e = with_entries-next (with_entry es x) more e

pub entries_turn : (first old new others : List Entry) (i : ℕ) (e x : Entry) → i < length others → x ≡ get_or others i x → e ≡ x → new ≡ with_entry old e
    → old ≡ with_entries first (take i others) → new ≡ with_entries first (take (i + 1) others)
entries_turn first old new others i e x less is same grown before = grown ∙ ap (λ o. with_entry o e) before ∙ ap (with_entry (with_entries first (take i others))) (same ∙ is)
    ∙ sym (with_entries-next first (take i others) (get_or others i x)) ∙ ap (with_entries first) (sym (take_more others i x less))

pub listed_turn : {A : Type 0} (f : A → Entry) (first old new : List Entry) (names : List A) (i : ℕ) (e : Entry) (x : A) → i < length names → x ≡ get_or names i x → e ≡ f x → new ≡ with_entry old e
    → old ≡ with_entries first (map f (take i names)) → new ≡ with_entries first (map f (take (i + 1) names))
listed_turn f first old new names i e x less is same grown before = grown ∙ ap (λ o. with_entry o e) before ∙ ap (with_entry (with_entries first (map f (take i names)))) (same ∙ ap f is)
    ∙ sym (with_entries-next first (map f (take i names)) (f (get_or names i x)))
    ∙ ap (with_entries first) (sym (map-append f (take i names) (get_or names i x ∷ [])))
    ∙ ap (λ xs. with_entries first (map f xs)) (sym (take_more names i x less))

-- what some items give, one more
one_given : {A B : Type 0} (f : A → Option B) (x : A) (o : Option B) → f x ≡ o → onto_some o [] ≡ filter_map f (x ∷ [])
one_given f x None e = rw e refl
one_given f x (Some y) e = rw e refl

pub filtered_turn : {A B : Type 0} (f : A → Option B) (old new : List B) (xs : List A) (i : ℕ) (x : A) (o : Option B) → i < length xs → x ≡ get_or xs i x → o ≡ f x → new ≡ old ++ onto_some o []
    → old ≡ filter_map f (take i xs) → new ≡ filter_map f (take (i + 1) xs)
filtered_turn f old new xs i x o less is given grown before = grown ∙ ap (λ ys. ys ++ onto_some o []) before
    ∙ ap (λ ys. filter_map f (take i xs) ++ ys) (one_given f x o (sym given)) ∙ sym (filter_map-append f (take i xs) (x ∷ []))
    ∙ ap (λ y. filter_map f (take i xs ++ y ∷ [])) is ∙ ap (filter_map f) (sym (take_more xs i x less))
