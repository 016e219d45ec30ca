use Rattle.std.proofs.Common.{rules}
use Rattle.slint_lexer.specs.declared.tokens.TokenKind.TheVariants as kinds
use Rattle.syntax_tree.proofs.WrittenUtf8.{token}
use Rattle.syntax_tree.proofs.writing.write_number.Goals as goal

pub returns : goal.returns
returns c = token (kinds.Number c.args.number) tt (search rules)
