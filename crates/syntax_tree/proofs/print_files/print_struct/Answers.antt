use Rattle.slint_lexer.specs.declared.tokens.Symbol.TheVariants.{OpenBrace, CloseBrace}
use Rattle.std.proofs.Common.{map}
use Rattle.syntax_tree.specs.Printed.{listed, tokens_of_field}
use Rattle.syntax_tree.proofs.InOrder.{behind, at_slice}
use Rattle.syntax_tree.proofs.print_files.print_struct.Goals as goal

pub returns : goal.returns
returns c = behind c.in_ok-write_word.ensures (behind c.in_ok-write_name.ensures (at_slice (λ xs. listed OpenBrace (map tokens_of_field xs) CloseBrace) c.as_slice.ensures c.in_ok-print_fields.ensures))
