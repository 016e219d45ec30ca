use Rattle.std.proofs.Common.{◌≡◌, ℕ, List, Some, sym, ◌∙◌, rules}
use Rattle.std.specs.Prelude.{ℤ}
use Rattle.std.proofs.lemmas.Result.{on_ok_weaker}
use Rattle.script_lines.specs.Ints.{int_reading}
use Rattle.slint_meaning.specs.Commands.{Target, property, does_assign, does_set, target_of}
use Rattle.first_evaluator.specs.Values.{World}
use Rattle.first_evaluator.specs.Live.{Live}
use Rattle.slint_cli.specs.Turns.{Answers}
use Rattle.slint_cli.proofs.answers.answer_set.Goals as goal

-- an assignment is what `set` does at a property where the text reads as that value
Answers-set : (world : World) (target : Target) (name text : List ℕ) (value : ℤ) (out now : List ℕ) (live : Live)
    → target ≡ property name → int_reading text ≡ Some value → Answers (does_assign world name (Some value)) out now live
    → Answers (does_set world target text) out now live
Answers-set world target name text value out now live t r a = rw t (rw r a)

pub returns-in-Some-clause-answered : goal.returns-in-Some-clause-answered
returns-in-Some-clause-answered c =
    let named = c.in-Property.ensures in
    on_ok_weaker c.answer_assignment.result
    (λ answered. λ world shows. let assigned = answered world named.0 shows named.2 in
    Answers-set world (target_of c.args.evaluator.now.file c.args.path.now) named.0 c.args.text.now c.in-Some.value c.args.out.now.items c.answer_assignment.new.out.items c.answer_assignment.new.evaluator
    named.1 (sym c.read_int.ensures ∙ c.in-Some.is) (search (rules, assigned))) c.answer_assignment.ensures.answered
