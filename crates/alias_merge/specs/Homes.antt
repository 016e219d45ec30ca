-- Where each class of linked members has its rows: at the member with the fewest repeaters around it.
use Rattle.std.specs.Prelude.{ℕ, suc, ◌==◌, Bool, ◌||◌, ◌&&◌, if◌then◌else◌, List, [], ◌∷◌, length, map, nat_lt, replicate, slice_get, Option, Some, None}
use Rattle.alias_merge.specs.declared.homes.Home.{Home}
use Rattle.alias_merge.specs.declared.homes.Seat.{Seat}
use Rattle.alias_merge.specs.declared.rows.MemberRow.{MemberRow}
use Rattle.alias_merge.specs.ChoosingSteps.{grouped}
use Rattle.alias_merge.specs.Rows.{is_before}

-- rows with their numbers, which are counted from n
pub record NumberedRow : Type 0 where
  pub number : ℕ
  pub row : MemberRow

abbrev pub numbered_rows : ℕ → List MemberRow → List NumberedRow
numbered_rows n [] = []
numbered_rows n (r ∷ rs) = record { number = n; row = r } ∷ numbered_rows (suc n) rs

-- ---- what the members of a class come to: the first of them, and of those with the fewest repeaters the first

abbrev pub seat_of : ℕ → MemberRow → Seat
seat_of n r = record { first = n; first_key = r.key; element = r.element; repeaters = r.repeaters; key = r.key }

abbrev pub with_first : ℕ → MemberRow → Seat → Seat
with_first n r s = if is_before r.key s.first_key then record s { first = n; first_key = r.key } else s

abbrev pub is_fewer : MemberRow → Seat → Bool
is_fewer r s = nat_lt r.repeaters s.repeaters || ((r.repeaters == s.repeaters) && is_before r.key s.key)

abbrev pub with_fewest : MemberRow → Seat → Seat
with_fewest r s = if is_fewer r s then record s { element = r.element; repeaters = r.repeaters; key = r.key } else s

abbrev pub sit : ℕ → MemberRow → Option Seat → Option Seat
sit n r None = Some (seat_of n r)
sit n r (Some s) = Some (with_fewest r (with_first n r s))

abbrev pub sit_row : Option Seat → NumberedRow → Option Seat
sit_row seat x = sit x.number x.row seat

abbrev pub label_of_row : List ℕ → NumberedRow → Option ℕ
label_of_row labels x = slice_get labels x.number

-- by label
abbrev pub seats_of : List ℕ → List MemberRow → List (Option Seat)
seats_of labels rows = grouped sit_row (label_of_row labels) (replicate (length labels) None) (numbered_rows 0 rows)

abbrev pub home_of : Option Seat → Option Home
home_of None = None
home_of (Some s) = Some (record { first = s.first; element = s.element; repeaters = s.repeaters })

-- by label, the home of each class, and nothing at what is no label
abbrev pub homes_of : List ℕ → List MemberRow → List (Option Home)
homes_of labels rows = map home_of (seats_of labels rows)
