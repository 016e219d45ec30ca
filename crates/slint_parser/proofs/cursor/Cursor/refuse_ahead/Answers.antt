use Rattle.std.proofs.Common.{◌≡◌, ℕ, List, [], ◌∷◌, length, drop, ap, length-drop, arith}
use Rattle.slint_base.specs.declared.rules.Rule.{Rule}
use Rattle.slint_base.specs.declared.endings.End.TheVariants as endings
use Rattle.slint_lexer.specs.declared.tokens.Token.{Token}
use Rattle.slint_parser.specs.declared.stops.Stop.TheVariants.{At}
use Rattle.slint_parser.specs.Readings.{stop_at}
use Rattle.slint_parser.proofs.cursor.Cursor.refuse_ahead.Goals as goal

left_at : (rule : Rule) (s : List Token) (n : ℕ) → n ≡ length s → (n ≡ 0 → ⊥) → At rule n ≡ stop_at rule s
left_at rule [] n e h = absurd (h e)
left_at rule (t ∷ s) n e h = ap (At rule) e

pub returns-in_default : goal.returns-in_default
returns-in_default c = ap endings.Fault (left_at c.args.rule (drop c.args.places c.args.self.now) c.saturating_sub.result (omega (arith, length-drop c.args.places c.args.self.now, ap length c.self.view_is)) (omega (arith, c.in_default)))
