-- Members that are seated one after the other.
use Rattle.std.proofs.Common.{◌≡◌, ℕ, ◌+◌, ◌<◌, ◌≤◌, List, ◌∷◌, Option, length, get_or, drop, sym, ap, ◌∙◌, add-one}
use Rattle.std.specs.Prelude.{slice_get}
use Rattle.std.proofs.lemmas.List.{drop_all}
use Rattle.std.proofs.Math.Seq.{drop-cons}
use Rattle.alias_merge.specs.declared.homes.Seat.{Seat}
use Rattle.alias_merge.specs.declared.rows.MemberRow.{MemberRow}
use Rattle.alias_merge.specs.ChoosingSteps.{grouped, put}
use Rattle.alias_merge.specs.Homes.{NumberedRow, label_of_row, numbered_rows, sit_row}

abbrev with_number : ℕ → MemberRow → NumberedRow
with_number n r = record { number = n; row = r }

rows_from : (rows : List MemberRow) (i : ℕ) (d : MemberRow) → i < length rows → numbered_rows i (drop i rows) ≡ with_number i (get_or rows i d) ∷ numbered_rows (i + 1) (drop (i + 1) rows)
rows_from rows i d l =
    ap (numbered_rows i) (drop-cons rows i d l) ∙ ap (λ n. with_number i (get_or rows i d) ∷ numbered_rows n (drop n rows)) (sym (add-one i))

pub seats_next : (labels : List ℕ) (rows : List MemberRow) (i : ℕ) (d : MemberRow) (seats new all : List (Option Seat)) (class : Option ℕ) → i < length rows → class ≡ slice_get labels i
    → new ≡ put sit_row class (record { number = i; row = get_or rows i d }) seats
    → grouped sit_row (label_of_row labels) seats (numbered_rows i (drop i rows)) ≡ all → grouped sit_row (label_of_row labels) new (numbered_rows (i + 1) (drop (i + 1) rows)) ≡ all
seats_next labels rows i d seats new all class l is adds held =
    ap (λ (now : List (Option Seat)). grouped sit_row (label_of_row labels) now (numbered_rows (i + 1) (drop (i + 1) rows)))
    (adds ∙ ap (λ (o : Option ℕ). put sit_row o (with_number i (get_or rows i d)) seats) is)
    ∙ (sym (ap (grouped sit_row (label_of_row labels) seats) (rows_from rows i d l)) ∙ held)

pub seats_all : (labels : List ℕ) (rows : List MemberRow) (i : ℕ) (seats all : List (Option Seat)) → length rows ≤ i
    → grouped sit_row (label_of_row labels) seats (numbered_rows i (drop i rows)) ≡ all → seats ≡ all
seats_all labels rows i seats all l held = sym (ap (λ (rs : List MemberRow). grouped sit_row (label_of_row labels) seats (numbered_rows i rs)) (drop_all i rows l)) ∙ held
