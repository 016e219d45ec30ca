use Rattle.std.proofs.Common.{ap, [], ◌∷◌, ◌∙◌, append_assoc}
use Rattle.slint_lexer.specs.declared.tokens.TokenKind.TheVariants as kinds
use Rattle.slint_lexer.specs.Spelled.{spelled}
use Rattle.syntax_tree.proofs.InOrder.{as_told}
use Rattle.syntax_tree.proofs.WrittenUtf8.{token}
use Rattle.syntax_tree.proofs.writing.write_mid.Goals as goal

pub returns : goal.returns
returns c =
    let kind = kinds.Mid c.as_str.result.now in
    as_told (ap (λ text. kinds.Mid text ∷ []) c.as_str.ensures) (token kind c.as_str.utf8 (c.in_ok-write_piece.ensures ∙ append_assoc c.args.out.now.items (spelled kind) (32 ∷ [])))
