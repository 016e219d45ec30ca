-- The order of the matrix, and what a search by halving finds in it.
use Rattle.std.proofs.Common.{◌≡◌, ℕ, List, true, length, get_or, Some, None, Ok, Err, sym}
use Rattle.std.proofs.lemmas.Cmp.{nat_cmp_total, on_total, then_total}
use Rattle.std.specs.Cmp.{IsTotalOrder}
use Rattle.std.specs.List.Sorted.{IsBinarySearchResult, IsSearchInRange}
use Rattle.element_tables.specs.declared.operators.Op.{Op}
use Rattle.element_tables.specs.declared.operators.OpRow.{OpRow}
use Rattle.element_tables.specs.declared.operators.Operation.{Operation}
use Rattle.element_tables.specs.declared.operators.TyCode.{TyCode}
use Rattle.element_tables.specs.Operators.{Key, key_order, op_number, code_number, operation, operation_of, operations_of}
use Rattle.element_tables.specs.Rows.{is_rising, sorted}
use Rattle.element_tables.proofs.Halving.{searched}
use Rattle.element_tables.proofs.Sorting.{beside-sorted}

pub key_total : IsTotalOrder key_order
key_total = then_total (on_total (λ (key : Key). op_number key.0) nat_cmp_total)
    (then_total (on_total (λ (key : Key). code_number key.1) nat_cmp_total) (on_total (λ (key : Key). code_number key.2) nat_cmp_total))

-- an operator is found alike in rows and in the same rows in order
pub operation-sorted : (op : Op) (left right : TyCode) (rows : List (Key × Operation)) → operation op left right (sorted key_order rows) ≡ operation op left right rows
operation-sorted op left right rows = beside-sorted key_total (op, left, right) rows

module _ (op : Op) (left right : TyCode) (table : List OpRow) (up : is_rising key_order (operations_of table) ≡ true) where
  pub row_found : (at : ℕ) (row : OpRow) → IsSearchInRange (Ok at) (length table) → IsBinarySearchResult (λ row. key_order (operation_of row).0 (op, left, right)) table (Ok at)
      → Some (get_or table at row).operation ≡ operation op left right (operations_of table)
  row_found at row within here = sym (searched key_total operation_of (op, left, right) table up (Ok at) within here row)

  pub row_missing : (at : ℕ) → IsSearchInRange (Err at) (length table) → IsBinarySearchResult (λ row. key_order (operation_of row).0 (op, left, right)) table (Err at)
      → None ≡ operation op left right (operations_of table)
  row_missing at within parts = sym (searched key_total operation_of (op, left, right) table up (Err at) within parts)
