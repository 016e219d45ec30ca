use Rattle.std.proofs.Common.{ℕ, List, map, drop}
use Rattle.slint_lexer.specs.declared.tokens.Symbol.TheVariants.{CloseBrace}
use Rattle.syntax_tree.specs.Printed.{tokens_of_field, with_commas}
use Rattle.syntax_tree.specs.Writes.{Writes}
use Rattle.syntax_tree.proofs.InOrder.{commas_from}
use Rattle.syntax_tree.proofs.print_types.+print_types.Given as goal

-- whatever end comes to be written behind, all is written to that end
abbrev pub invariant-print_fields-loop-at : goal.invariant-print_fields-loop-at
invariant-print_fields-loop-at l = (end : List ℕ) → Writes l.out.items end (commas_from l.at CloseBrace (map tokens_of_field (drop l.at l.fields))) → Writes l.initial.out.items end (with_commas CloseBrace (map tokens_of_field l.fields))
