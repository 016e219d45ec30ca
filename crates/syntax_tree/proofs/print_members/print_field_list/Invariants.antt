use Rattle.std.proofs.Common.{ℕ, List, map, drop}
use Rattle.slint_lexer.specs.declared.tokens.Symbol.TheVariants.{CloseParen}
use Rattle.syntax_tree.specs.Printed.{with_commas, tokens_of_field}
use Rattle.syntax_tree.specs.Writes.{Writes}
use Rattle.syntax_tree.proofs.InOrder.{commas_from}
use Rattle.syntax_tree.proofs.print_members.print_field_list.Given as goal

-- whatever end comes to be written behind, all is written to that end
abbrev pub invariant-loop-at : goal.invariant-loop-at
invariant-loop-at l = (end : List ℕ) → Writes l.out.items end (commas_from l.at CloseParen (map tokens_of_field (drop l.at l.fields))) → Writes l.initial.out.items end (with_commas CloseParen (map tokens_of_field l.fields))
