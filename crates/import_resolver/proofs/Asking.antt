-- What an import of a file asks for.
use Rattle.std.proofs.Common.{◌≡◌, ℕ, Bool, true, false, List, Option, None, Some, Result, Ok, Err, sym, ap, ◌∙◌, inl, inr, rules}
use Rattle.std.specs.Prelude.{if◌then◌else◌, slice_get}
use Rattle.std.specs.Option.{option_map}
use Rattle.slint_base.specs.declared.refusals.Refusal.{Refusal}
use Rattle.slint_base.specs.declared.rules.Rule.{Rule}
use Rattle.slint_base.specs.declared.rules.Rule.TheVariants as rules_of
use Rattle.syntax_tree.specs.declared.files.FileItem.{FileItem}
use Rattle.syntax_tree.specs.declared.words.Quoted.{Quoted}
use Rattle.file_exports.specs.Imports.{Import}
use Rattle.file_exports.specs.Roots.{has_name}
use Rattle.import_paths.specs.Paths.{file_meant}
use Rattle.import_resolver.specs.declared.ends.LoadEnd.{LoadEnd}
use Rattle.import_resolver.specs.declared.ends.LoadEnd.TheVariants as ends
use Rattle.import_resolver.specs.declared.steps.ToLoad.{ToLoad}
use Rattle.import_resolver.specs.declared.tables.SeenFile.{SeenFile}
use Rattle.import_resolver.specs.declared.tables.Site.TheVariants as sites
use Rattle.import_resolver.specs.declared.tables.Table.{Table}
use Rattle.import_resolver.specs.Ends.{IsRefusal}
use Rattle.import_resolver.specs.Loads.{Loop, To, asked_at, refused, target_by, target_of}
use Rattle.import_resolver.specs.Tables.{AsksAs, AsksFor, asked_in, asked_of, path_of, seen_of_file}
use Rattle.import_resolver.proofs.Lists.{some_same}

-- the file that a path means, in the file at a place and at the path of an import of it
pub meant-at : (main : List ℕ) (table : Table) (importer : ℕ) (one file : SeenFile) (import : Import) (path : Quoted) (name text : List ℕ) (found : Option (List ℕ)) → slice_get table.files importer ≡ Some one
    → slice_get table.files importer ≡ Some file → import.path ≡ path → name ≡ one.name → text ≡ path.text → found ≡ file_meant main name text → file_meant main file.name import.path.text ≡ found
meant-at main table importer one file import path name text found is there same_path same_name same_text meant =
    let same : one ≡ file = some_same is there in
    sym (meant ∙ (ap (λ n. file_meant main n text) (same_name ∙ ap (λ (f : SeenFile). f.name) same)
    ∙ ap (λ t. file_meant main file.name t) (same_text ∙ ap (λ (q : Quoted). q.text) (sym same_path))))

-- a refusal at the path of an import
refused-at : (main : List ℕ) (table : Table) (importer : ℕ) (file : SeenFile) (import : Import) (path : Quoted) (rule : Rule) (refusal : Refusal) → slice_get table.files importer ≡ Some file → import.path ≡ path
    → refusal ≡ refused rule (asked_of main table (sites.Import importer path.span)) → refusal ≡ refused rule (asked_at (seen_of_file file) import.path.span)
refused-at main table importer file import path rule refusal there same_path is =
    is ∙ (ap (λ o. refused rule (asked_in main o path.span)) there ∙ ap (λ (q : Quoted). refused rule (asked_at (seen_of_file file) q.span)) (sym same_path))

pub asks-outside : (main : List ℕ) (table : Table) (importer : ℕ) (file : SeenFile) (import : Import) (path : Quoted) (end : LoadEnd) → slice_get table.files importer ≡ Some file → import.path ≡ path
    → file_meant main file.name import.path.text ≡ None → IsRefusal (refused rules_of.PathOutside (asked_of main table (sites.Import importer path.span))) end
    → AsksFor main table importer file import (Err end)
asks-outside main table importer file import path (ends.Refused refusal) there same_path none is =
    inl (ap (target_by table.loading) none, refused-at main table importer file import path rules_of.PathOutside refusal there same_path is)
asks-outside main table importer file import path ends.ReadFault there same_path none is = is
asks-outside main table importer file import path ends.Memory there same_path none is = tt

pub asks-loop : (main : List ℕ) (table : Table) (importer : ℕ) (file : SeenFile) (import : Import) (path : Quoted) (name : List ℕ) (end : LoadEnd) → slice_get table.files importer ≡ Some file → import.path ≡ path
    → file_meant main file.name import.path.text ≡ Some name → has_name table.loading name ≡ true
    → IsRefusal (refused rules_of.ImportLoop (asked_of main table (sites.Import importer path.span))) end → AsksFor main table importer file import (Err end)
asks-loop main table importer file import path name (ends.Refused refusal) there same_path meant test is =
    inr (ap (target_by table.loading) meant ∙ ap (λ (b : Bool). if b then Loop else To name) test, refused-at main table importer file import path rules_of.ImportLoop refusal there same_path is)
asks-loop main table importer file import path name ends.ReadFault there same_path meant test is = is
asks-loop main table importer file import path name ends.Memory there same_path meant test is = tt

pub asks-to : (main : List ℕ) (table : Table) (importer : ℕ) (file : SeenFile) (import : Import) (path : Quoted) (name : List ℕ) → import.path ≡ path → file_meant main file.name import.path.text ≡ Some name
    → has_name table.loading name ≡ false → (target_of main table.loading (seen_of_file file) import ≡ To name) × (sites.Import importer path.span ≡ sites.Import importer import.path.span)
asks-to main table importer file import path name same_path meant test =
    (ap (target_by table.loading) meant ∙ ap (λ (b : Bool). if b then Loop else To name) test, ap (λ (q : Quoted). sites.Import importer q.span) (sym same_path))

-- ---- items

pub asks-some : (main : List ℕ) (table : Table) (importer : ℕ) (file : SeenFile) (path : Quoted) (result : Result (Option ToLoad) LoadEnd) (o : Option Import) → Some path ≡ option_map path_of o
    → ((import : Import) → import.path ≡ path → AsksFor main table importer file import result) → AsksAs main table importer file o result
asks-some main table importer file path result None is asks = absurd (search (rules, is))
asks-some main table importer file path result (Some import) is asks = asks import (search (rules, is))

pub asks-none : (main : List ℕ) (table : Table) (importer : ℕ) (file : SeenFile) (o : Option Import) → None ≡ option_map path_of o → AsksAs main table importer file o (Ok None)
asks-none main table importer file None is = tt
asks-none main table importer file (Some import) is = absurd (search (rules, is))

-- the item that is read at a place of a file
pub item-read : (table : Table) (importer place : ℕ) (one file : SeenFile) (item : Option FileItem) (its_item : FileItem) → slice_get table.files importer ≡ Some one → item ≡ slice_get one.tree.items place
    → slice_get table.files importer ≡ Some file → slice_get file.tree.items place ≡ Some its_item → item ≡ Some its_item
item-read table importer place one file item its_item is read there its_item_there = read ∙ (ap (λ (f : SeenFile). slice_get f.tree.items place) (some_same is there) ∙ its_item_there)
