use Rattle.type_rules.proofs.FieldLemmas.{neither_wider, either_wider}
use Rattle.type_rules.proofs.conversions.+converting.Goals as goal

pub fields_to-returns-then-not-is_wider_or_narrower : goal.fields_to-returns-then-not-is_wider_or_narrower
fields_to-returns-then-not-is_wider_or_narrower t c = neither_wider c.args.fields.now c.args.others.now c.is_wider_or_narrower.result c.is_wider_or_narrower.ensures c.if-not-is_wider_or_narrower.true

pub fields_to-returns : goal.fields_to-returns
fields_to-returns t c =
    either_wider c.args.fields.now c.args.others.now c.is_wider_or_narrower.result c.is_wider_or_narrower.ensures c.all_shared_to-shared.result c.if-not-is_wider_or_narrower.false c.all_shared_to-shared.ensures
