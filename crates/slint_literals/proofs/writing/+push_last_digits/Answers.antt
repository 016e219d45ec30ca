use Rattle.std.proofs.Common.{ap, ◌∙◌, ◌++◌, ◌∷◌, [], arith}
use Rattle.slint_literals.proofs.Digits.{last_more}
use Rattle.slint_literals.proofs.writing.+push_last_digits.Goals as goal

pub returns : goal.returns
returns t c =
    last_more c.args.base c.args.count c.args.n c.args.out.now.items c.push_last_digits.new.out.items c.push.new.self.items (omega arith) c.in_ok-push_last_digits.ensures
    (c.in_ok-push.ensures.items ∙ ap (λ d. c.push_last_digits.new.out.items ++ d ∷ []) c.digit_char.ensures)
