use Rattle.std.proofs.Common.{◌≡◌, Bool, true, false, drop, sym, ap, ◌∙◌, refl}
use Rattle.slint_parser.specs.declared.stops.Seen.{Seen}
use Rattle.slint_parser.specs.Readings.{seen}
use Rattle.slint_grammar.specs.Grammar.{Alt as alts}
use Rattle.slint_parser.specs.Values.{is_field, is_plain, rule_behind}
use Rattle.slint_parser.proofs.Joining.{chosen_reads}
use Rattle.slint_parser.proofs.ChosenBraces.{chosen_field_value, chosen_block_value, deep_enough, too_deep_name}
use Rattle.slint_parser.proofs.values.braced_value.Goals as goal

field_seen : (a b x y : Seen) (r v : Bool) → a ≡ x → b ≡ y → r ≡ is_field a b → r ≡ v → is_field x y ≡ v
field_seen a b x y r v i j k h = ap (λ z. is_field z y) (sym i) ∙ ap (is_field a) (sym j) ∙ sym k ∙ h

pub returns-then-is_field : goal.returns-then-is_field
returns-then-is_field c =
    chosen_reads alts.expr_value c.args.depth c.args.cursor.now c.expr_value.new.cursor c.expr_value.result
    (chosen_field_value c.args.depth c.args.cursor.now c.requires.is_open
    (field_seen c.ahead.result c.ahead-2.result (seen (drop 1 c.args.cursor.now)) (seen (drop 2 c.args.cursor.now)) c.is_field.result true c.ahead.ensures c.ahead-2.ensures c.is_field.ensures c.if-is_field.true))
    (c.expr_value.ensures.of_value refl)

pub returns-then-is_too_deep : goal.returns-then-is_too_deep
returns-then-is_too_deep c =
    too_deep_name c.args.depth c.args.cursor.now c.rule_behind-rule.result c.refuse_ahead.result c.requires.is_open
    (field_seen c.ahead.result c.ahead-2.result (seen (drop 1 c.args.cursor.now)) (seen (drop 2 c.args.cursor.now)) c.is_field.result false c.ahead.ensures c.ahead-2.ensures c.is_field.ensures c.if-is_field.false)
    (c.is_too_deep.ensures.deep c.if-is_too_deep.true) (ap is_plain (sym c.ahead-3.ensures) ∙ c.is_too_deep.ensures.plain c.if-is_too_deep.true)
    (c.rule_behind-rule.ensures ∙ ap rule_behind c.ahead-then-is_too_deep.ensures) c.refuse_ahead.ensures

pub returns : goal.returns
returns c =
    chosen_reads alts.block_value c.args.depth c.args.cursor.now c.block_value.new.cursor c.block_value.result
    (chosen_block_value c.args.depth c.args.cursor.now c.requires.is_open
    (field_seen c.ahead.result c.ahead-2.result (seen (drop 1 c.args.cursor.now)) (seen (drop 2 c.args.cursor.now)) c.is_field.result false c.ahead.ensures c.ahead-2.ensures c.is_field.ensures c.if-is_field.false)
    (deep_enough c.args.depth _ c.requires.low (λ h. c.is_too_deep.ensures.not_deep c.if-is_too_deep.false (ap is_plain c.ahead-3.ensures ∙ h))))
    c.block_value.ensures.of_value
