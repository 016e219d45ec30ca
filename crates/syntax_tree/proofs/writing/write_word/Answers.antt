use Rattle.std.proofs.Common.{[], ◌∷◌, ◌++◌, ap, ◌∙◌, append_assoc}
use Rattle.slint_lexer.specs.declared.tokens.TokenKind.TheVariants as kinds
use Rattle.syntax_tree.proofs.WrittenUtf8.{token}
use Rattle.syntax_tree.proofs.writing.write_word.Goals as goal

pub returns : goal.returns
returns c = token (kinds.Id c.args.word.now) c.utf8.word
    (c.in_ok-push.ensures.items ∙ ap (λ front. front ++ 32 ∷ []) (c.in_ok-extend_from_slice.ensures.items ∙ ap (λ word. c.args.out.now.items ++ word) c.as_bytes.ensures.value)
    ∙ append_assoc c.args.out.now.items c.args.word.now (32 ∷ []))
