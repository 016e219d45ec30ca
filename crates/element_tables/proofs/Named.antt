-- What a search by halving finds in a table of names.
use Rattle.std.proofs.Common.{◌≡◌, ℕ, List, true, length, get_or, Some, None, Ok, Err, Bor, sym, ◌∙◌}
use Rattle.std.proofs.lemmas.Cmp.{nat_list_cmp_total}
use Rattle.std.specs.Cmp.{unsigned_ties}
use Rattle.std.specs.Cmp.Lexicographic.{lists_ties}
use Rattle.std.specs.List.Sorted.{IsBinarySearchResult, IsSearchInRange}
use Rattle.std.specs.Ordering.{nat_cmp, is_eq}
use Rattle.element_tables.specs.Rows.{beside, named, is_rising, byte_order, in_byte_order, row_of, rows_of}
use Rattle.element_tables.proofs.Halving.{searched}
use Rattle.element_tables.proofs.Sorting.{beside-sorted}

-- two names are equal where their order says so
pub named_by_order : {T : Type 0} (name : List ℕ) (rows : List (List ℕ × T)) → named name rows ≡ beside (λ key. is_eq (byte_order key name)) rows
named_by_order name rows = λ i. beside (λ key. lists_ties nat_cmp unsigned_ties key name i) rows

-- a name is found alike in rows and in the same rows in byte order
pub named-sorted : {T : Type 0} (name : List ℕ) (rows : List (List ℕ × T)) → named name (in_byte_order rows) ≡ named name rows
named-sorted name rows = named_by_order name (in_byte_order rows) ∙ beside-sorted nat_list_cmp_total name rows ∙ sym (named_by_order name rows)

module _ {T : Type 0} (name : List ℕ) (table : List (Bor (List ℕ) × T)) (up : is_rising byte_order (rows_of table) ≡ true) where
  pub name_found : (at : ℕ) (row : Bor (List ℕ) × T) → IsSearchInRange (Ok at) (length table) → IsBinarySearchResult (λ row. byte_order row.0.now name) table (Ok at)
      → Some (get_or table at row).1 ≡ named name (rows_of table)
  name_found at row within here = sym (named_by_order name (rows_of table) ∙ searched nat_list_cmp_total row_of name table up (Ok at) within here row)

  pub name_missing : (at : ℕ) → IsSearchInRange (Err at) (length table) → IsBinarySearchResult (λ row. byte_order row.0.now name) table (Err at)
      → None ≡ named name (rows_of table)
  name_missing at within parts = sym (named_by_order name (rows_of table) ∙ searched nat_list_cmp_total row_of name table up (Err at) within parts)
