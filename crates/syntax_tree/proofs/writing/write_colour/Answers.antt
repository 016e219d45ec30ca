use Rattle.std.proofs.Common.{rules}
use Rattle.slint_lexer.specs.declared.tokens.TokenKind.TheVariants as kinds
use Rattle.syntax_tree.proofs.WrittenUtf8.{token}
use Rattle.syntax_tree.proofs.writing.write_colour.Goals as goal

pub returns : goal.returns
returns c = token (kinds.Colour c.args.colour) tt (search rules)
