use Rattle.std.proofs.Common.{◌≡◌, ◌||◌, ◌∙◌, sym, ap, rules, tests, nat_eq}
use Rattle.std.specs.Prelude.{codes}
use Rattle.std.specs.List.{list_all, starts_with}
use Rattle.std.proofs.lemmas.Iterator.{YieldsList-from_slice}
use Rattle.std.proofs.lemmas.Iterator.Search.{all_from_yields_List}
use Rattle.script_lines.specs.Lines.{is_blank}
use Rattle.script_lines.proofs.words.is_passed_over.Goals as goal

pub returns-then-all : goal.returns-then-all
returns-then-all c =
    let line = c.args.line.now in
    let e : c.all.result ≡ list_all is_blank line = all_from_yields_List is_blank _ _ c.all.result c.all.ensures.ran (YieldsList-from_slice line cc) (λ x b q k. search (rules, tests)) in
    c.if-all.true ∙ ap (λ v. v || starts_with nat_eq line (codes "//")) (sym c.if-all.true ∙ e)
