use Rattle.std.proofs.Common.{◌≡◌, ℕ, List, Option, Bor, map, ap, ◌∙◌}
use Rattle.std.specs.Bool.{◌==◌}
use Rattle.std.specs.List.{find}
use Rattle.std.specs.Option.{option_map}
use Rattle.element_tables.specs.declared.members.Member.{Member}
use Rattle.element_tables.specs.Members.{row_numbered}
use Rattle.element_tables.specs.Rows.{row_of}
use Rattle.element_tables.proofs.Tables.{from_first, from_second, from_third, members_numbered}
use Rattle.element_tables.proofs.Texts.{find-map}
use Rattle.element_tables.proofs.members.member_at.Goals as goal

-- the row that is found in a table in code, in the definition's rows
seen : (n : ℕ) (found : Option (Bor (List ℕ) × Member)) (table : List (Bor (List ℕ) × Member)) (rows : List (List ℕ × Member)) → found ≡ find (λ row. row.1.number == n) table
    → map row_of table ≡ rows → option_map row_of found ≡ row_numbered n rows
seen n found table rows e same = ap (option_map row_of) e ∙ (find-map row_of (λ row. row.1.number == n) table ∙ ap (row_numbered n) same)

pub returns-in-Some : goal.returns-in-Some
returns-in-Some c = from_first _ _ _ _ (members_numbered c.args.element c.args.number) (seen c.args.number _ _ _ c.in-Some.ensures c.common.ensures)

pub returns-in-Some-row_at : goal.returns-in-Some-row_at
returns-in-Some-row_at c =
    from_second _ _ _ _ _ (members_numbered c.args.element c.args.number)
    (seen c.args.number _ _ _ c.in-None.ensures c.common.ensures) (seen c.args.number _ _ _ c.in-Some-row_at.ensures c.own.ensures)

pub returns-in-None-row_at : goal.returns-in-None-row_at
returns-in-None-row_at c =
    from_third _ _ _ _ _ (members_numbered c.args.element c.args.number)
    (seen c.args.number _ _ _ c.in-None.ensures c.common.ensures) (seen c.args.number _ _ _ c.in-None-row_at.ensures c.own.ensures)
    (seen c.args.number _ _ _ c.row_at-in-None-row_at.ensures c.further.ensures)
