-- What the tables of all files and structs say.
use Rattle.std.specs.Prelude.{ℕ, suc, List, [], ◌∷◌, ◌++◌, map, slice_get, length, Option, Some, None}
use Rattle.std.specs.List.{filter_map}
use Rattle.std.specs.Option.{option_and_then, option_map}
use Rattle.std.proofs.Common.{◌≡◌, ◌+◌, ◌<◌, ◌≤◌, refl, sym, ◌∙◌, ap, subst, length-append, arith}
use Rattle.std.proofs.lemmas.Option.{slice_get-map, slice_get_past, slice_get_within}
use Rattle.syntax_tree.specs.declared.types.Field.{Field}
use Rattle.value_types.specs.declared.types.Ty.{Ty}
use Rattle.typed_tree.specs.declared.outlines.Declared.TheVariants as declared
use Rattle.typed_tree.specs.declared.outlines.FileName.{FileName}
use Rattle.import_resolver.specs.Loaded.{FileRow}
use Rattle.source_scopes.specs.declared.declarations.FileStruct.{FileStruct as StructThere}
use Rattle.source_scopes.specs.declared.meanings.Entry.{Entry}
use Rattle.source_scopes.specs.declared.meanings.Meaning.{Meaning}
use Rattle.source_scopes.specs.declared.meanings.Meaning.TheVariants as meaning
use Rattle.source_scopes.specs.declared.tables.FileTable.{FileTable}
use Rattle.source_scopes.specs.Declarations.{counts_before, structs_of}
use Rattle.source_scopes.specs.Entries.{exports_of, scope_at, scope_of}
use Rattle.source_scopes.specs.Indexed.{AreFileNames, NamesAs}
use Rattle.source_scopes.specs.Names.{declared_as, file_names, named_as}
use Rattle.source_scopes.specs.Shown.{shown_struct}
use Rattle.source_scopes.specs.Structs.{AreStructTypes, type_at, type_known}
use Rattle.source_scopes.specs.Tables.{AreAll, WholeAs, exports_in, scope_in}
use Rattle.source_scopes.specs.Types.{fields_by, struct_at, struct_type}
use Rattle.source_scopes.proofs.Filling.{beyond}
use Rattle.source_scopes.proofs.Lookups.{past_end, push_each}

no_scope : (rows : List FileRow) (k : ℕ) → length rows ≤ k → [] ≡ scope_of rows k
no_scope rows k past = sym (ap (scope_at (exports_of rows) (counts_before rows k)) (slice_get_past rows k past))

scope_by : (rows : List FileRow) (k : ℕ) (t : Option (Option FileTable)) → WholeAs rows k t → scope_in t ≡ scope_of rows k
scope_by rows k None past = no_scope rows k past
scope_by rows k (Some None) is = absurd is
scope_by rows k (Some (Some table)) is = is.scope

pub scope_whole : (rows : List FileRow) (tables : List (Option FileTable)) (k : ℕ) → AreAll rows tables → scope_in (slice_get tables k) ≡ scope_of rows k
scope_whole rows tables k are = scope_by rows k (slice_get tables k) (are k)

exports_by : (rows : List FileRow) (k : ℕ) (t : Option (Option FileTable)) → WholeAs rows k t → exports_in t ≡ exports_of rows k
exports_by rows k None past = sym (beyond (length rows) rows k (slice_get_past rows k past))
exports_by rows k (Some None) is = absurd is
exports_by rows k (Some (Some table)) is = is.taken

pub exports_whole : (rows : List FileRow) (tables : List (Option FileTable)) (k : ℕ) → AreAll rows tables → exports_in (slice_get tables k) ≡ exports_of rows k
exports_whole rows tables k are = exports_by rows k (slice_get tables k) (are k)

-- the names of a file, where it is there
abbrev pub names_in : Option (List FileName) → List FileName
names_in None = []
names_in (Some names) = names

names_by : (rows : List FileRow) (k : ℕ) (o : Option (List FileName)) → NamesAs rows k o → names_in o ≡ file_names rows k
names_by rows k None past = ap (filter_map (named_as (struct_type rows))) (no_scope rows k past)
names_by rows k (Some names) is = is

pub names_whole : (rows : List FileRow) (names : List (List FileName)) (k : ℕ) (o : Option (List FileName)) → AreFileNames rows names → slice_get names k ≡ o → names_in o ≡ file_names rows k
names_whole rows names k o are at = ap names_in (sym at) ∙ names_by rows k (slice_get names k) (are k)

-- names by a table of the types of all structs
declared_same : (f g : ℕ → Option Ty) → ((s : ℕ) → f s ≡ g s) → (m : Option Meaning) → option_and_then (declared_as f) m ≡ option_and_then (declared_as g) m
declared_same f g same None = refl
declared_same f g same (Some (meaning.Component n)) = refl
declared_same f g same (Some (meaning.Global n)) = refl
declared_same f g same (Some (meaning.Enum n)) = refl
declared_same f g same (Some (meaning.Struct s)) = ap (option_map declared.Struct) (same s)

names_same : (f g : ℕ → Option Ty) → ((s : ℕ) → f s ≡ g s) → (es : List Entry) → filter_map (named_as f) es ≡ filter_map (named_as g) es
names_same f g same [] = refl
names_same f g same (e ∷ es) = rw (declared_same f g same e.meaning, names_same f g same es) refl

pub names_of_file : (rows : List FileRow) (tables : List (Option FileTable)) (types : List (Option Ty)) (k : ℕ) (es : List Entry) (names : List FileName) → AreAll rows tables → AreStructTypes rows types
    → es ≡ scope_in (slice_get tables k) → names ≡ filter_map (named_as (type_at types)) es → names ≡ file_names rows k
names_of_file rows tables types k es names all typed is made = made ∙ ap (filter_map (named_as (type_at types))) (is ∙ scope_whole rows tables k all)
    ∙ names_same (type_at types) (struct_type rows) typed (scope_of rows k)

pub names_each : (rows : List FileRow) (names more : List (List FileName)) (k : ℕ) (new : List FileName) → length names ≡ k → ((j : ℕ) → j < length names → slice_get names j ≡ Some (file_names rows j))
    → new ≡ file_names rows k → more ≡ names ++ new ∷ [] → (j : ℕ) → j < length more → slice_get more j ≡ Some (file_names rows j)
names_each rows names more k new sized each is grown = subst (λ xs. (j : ℕ) → j < length xs → slice_get xs j ≡ Some (file_names rows j)) (sym grown)
    (λ j less. push_each (file_names rows) names new each (is ∙ ap (file_names rows) (sym sized)) j (omega (arith, less, length-append names (new ∷ []))))

-- the names that are made are those of all files
filled_by : (rows : List FileRow) (names : List (List FileName)) (k : ℕ) (o : Option (List FileName)) → slice_get names k ≡ o → (length rows ≤ length names)
    → (k < length names → slice_get names k ≡ Some (file_names rows k)) → NamesAs rows k o
filled_by rows names k None at sized each = omega (arith, past_end names k at, sized)
filled_by rows names k (Some found) at sized each = some_same (sym at ∙ each (within names k found at))
  where
    some_same : Some found ≡ Some (file_names rows k) → found ≡ file_names rows k
    some_same e = cc

    within : (xs : List (List FileName)) (i : ℕ) (x : List FileName) → slice_get xs i ≡ Some x → i < length xs
    within xs i x e = slice_get_within xs i x e

pub names_filled : (rows : List FileRow) (names : List (List FileName)) → length rows ≤ length names → ((k : ℕ) → k < length names → slice_get names k ≡ Some (file_names rows k)) → AreFileNames rows names
names_filled rows names sized each = λ k. filled_by rows names k (slice_get names k) refl sized (each k)

-- ---- a struct by its number

pub struct_is : (rows : List FileRow) (tables : List (Option FileTable)) (types : List (Option Ty)) (structs : List StructThere) (number : ℕ) (of : StructThere) (scope : List Entry) (fields : List Field)
    → map shown_struct structs ≡ structs_of rows → AreAll rows tables → Some of ≡ slice_get structs number → scope ≡ scope_in (slice_get tables of.file) → fields ≡ of.decl.now.fields
    → fields_by (type_known types scope) fields ≡ struct_at (type_at types) rows (slice_get (structs_of rows) number)
struct_is rows tables types structs number of scope fields are all at scope_is fields_is =
    let there : slice_get (structs_of rows) number ≡ Some (shown_struct of) = ap (λ xs. slice_get xs number) (sym are) ∙ slice_get-map shown_struct structs number ∙ ap (option_map shown_struct) (sym at) in
    ap (λ fs. fields_by (type_known types scope) fs) fields_is ∙ ap (λ s. fields_by (type_known types s) of.decl.now.fields) (scope_is ∙ scope_whole rows tables of.file all)
    ∙ ap (struct_at (type_at types) rows) (sym there)

pub struct_none : (rows : List FileRow) (types : List (Option Ty)) (structs : List StructThere) (number : ℕ) → map shown_struct structs ≡ structs_of rows → None ≡ slice_get structs number
    → None ≡ struct_at (type_at types) rows (slice_get (structs_of rows) number)
struct_none rows types structs number are at =
    let there : slice_get (structs_of rows) number ≡ None = ap (λ xs. slice_get xs number) (sym are) ∙ slice_get-map shown_struct structs number ∙ ap (option_map shown_struct) (sym at) in
    ap (struct_at (type_at types) rows) (sym there)

pub names_grown : (names more : List (List FileName)) (k : ℕ) (new : List FileName) → length names ≡ k → more ≡ names ++ new ∷ [] → length more ≡ k + 1
names_grown names more k new sized grown = ap length grown ∙ omega (arith, length-append names (new ∷ []), sized)

sized : {A B : Type 0} (f : A → B) (xs : List A) → length (map f xs) ≡ length xs
sized f [] = refl
sized f (x ∷ xs) = ap suc (sized f xs)

pub structs_sized : (rows : List FileRow) (structs : List StructThere) → map shown_struct structs ≡ structs_of rows → length structs ≡ length (structs_of rows)
structs_sized rows structs are = sym (sized shown_struct structs) ∙ ap length are
