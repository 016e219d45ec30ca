-- Where the cells of a grid stand: a cursor goes along them.
use Rattle.std.specs.Prelude.{Bool, true, false, ◌||◌, if◌then◌else◌, ℤ, pos, ◌+ℤ◌, int_lt, Option, Some, None, unwrap_or}
use Rattle.std.specs.Option.{is_some}
use Rattle.slint_base.specs.Numbers.{sat}
use Rattle.child_rules.specs.declared.cursors.Cursor.{Cursor}
use Rattle.child_rules.specs.declared.numbers.Numbers.{Numbers}

-- a cursor begins at the first row and column, before any cell
abbrev pub start : Cursor
start = record { row = pos 0; column = pos 0; begun = None; after_row = false }

-- rows and columns are added as all whole units are; no source is so long that it comes to their limit
abbrev pub behind : ℤ → ℤ → ℤ
behind at span = sat (at +ℤ span)

-- the row behind that in which the cell before begins, or the first one where there is none
abbrev pub row_behind : Option ℤ → ℤ
row_behind None = pos 0
row_behind (Some row) = behind row (pos 1)

abbrev pub new_row : Bool → Cursor → Cursor
new_row after cursor = record { row = row_behind cursor.begun; column = pos 0; begun = cursor.begun; after_row = after }

-- a `Row` begins a row, and so does a direct child that follows one
abbrev pub at_row : Cursor → Cursor
at_row cursor = new_row true cursor

abbrev pub at_child : Cursor → Cursor
at_child cursor = if cursor.after_row then new_row false cursor else cursor

-- a row that is given sets the row, and the column to the first one unless a column is given too
abbrev pub column_by : Numbers → ℤ → ℤ
column_by numbers column = unwrap_or numbers.column (if is_some numbers.row then pos 0 else column)

abbrev pub placed_by : Numbers → Cursor → Cursor
placed_by numbers cursor = record cursor { row = unwrap_or numbers.row cursor.row; column = column_by numbers cursor.column }

abbrev pub span_by : Option ℤ → ℤ
span_by span = unwrap_or span (pos 1)

-- behind a cell that stands at the cursor
abbrev pub behind_cell : Numbers → Cursor → Cursor
behind_cell numbers cursor = record cursor { column = behind cursor.column (span_by numbers.colspan); begun = Some cursor.row }

-- a cell that stands at the cursor ends past the thousandth row or column
abbrev pub is_past : ℤ → Bool
is_past at = int_lt (pos 1000) at

abbrev pub ends_past : Numbers → Cursor → Bool
ends_past numbers cursor = is_past (behind cursor.row (span_by numbers.rowspan)) || is_past (behind cursor.column (span_by numbers.colspan))
