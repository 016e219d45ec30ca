use Rattle.std.proofs.Common.{ap, ◌∙◌}
use Rattle.element_tables.specs.Rows.{named}
use Rattle.element_tables.proofs.Tables.{from_first, from_second, from_third, members_named}
use Rattle.element_tables.proofs.members.member_named.Goals as goal

pub returns-in-Some : goal.returns-in-Some
returns-in-Some c = from_first _ _ _ _ (members_named c.args.element c.args.name.now) (c.in-Some.ensures ∙ ap (named c.args.name.now) c.common.ensures)

pub returns-in-Some-find : goal.returns-in-Some-find
returns-in-Some-find c =
    from_second _ _ _ _ _ (members_named c.args.element c.args.name.now)
    (c.in-None.ensures ∙ ap (named c.args.name.now) c.common.ensures) (c.in-Some-find.ensures ∙ ap (named c.args.name.now) c.own.ensures)

pub returns-in-None-find : goal.returns-in-None-find
returns-in-None-find c =
    from_third _ _ _ _ _ (members_named c.args.element c.args.name.now)
    (c.in-None.ensures ∙ ap (named c.args.name.now) c.common.ensures) (c.in-None-find.ensures ∙ ap (named c.args.name.now) c.own.ensures)
    (c.find-in-None-find.ensures ∙ ap (named c.args.name.now) c.further.ensures)
