use Rattle.std.proofs.Common.{◌∙◌, ◌∷◌, ◌++◌, [], ap, sym}
use Rattle.std.proofs.lemmas.List.{take_all}
use Rattle.declaration_rules.proofs.Gathering.{front-next}
use Rattle.declaration_rules.proofs.repeats.words_of.Goals as goal

pub loop-ident-preserved : goal.loop-ident-preserved
loop-ident-preserved c =
    c.in_ok-push_word.ensures ∙ (ap (λ front. front ++ c.ident-item.result ∷ []) c.loop-ident.invariant ∙ sym (front-next c.args.idents.now c.loop-ident.ident-index c.ident-item.result c.loop-ident-test.true c.ident-item.is))

pub returns : goal.returns
returns c = c.loop-ident.invariant ∙ take_all c.loop-ident.ident-index c.args.idents.now c.loop-ident-test.false
