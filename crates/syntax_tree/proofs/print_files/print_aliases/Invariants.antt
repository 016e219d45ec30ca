use Rattle.std.proofs.Common.{ℕ, List, map, drop}
use Rattle.slint_lexer.specs.declared.tokens.Symbol.TheVariants.{CloseBrace}
use Rattle.syntax_tree.specs.Printed.{with_commas, tokens_of_alias}
use Rattle.syntax_tree.specs.Writes.{Writes}
use Rattle.syntax_tree.proofs.InOrder.{commas_from}
use Rattle.syntax_tree.proofs.print_files.print_aliases.Given as goal

-- whatever end comes to be written behind, all is written to that end
abbrev pub invariant-loop-at : goal.invariant-loop-at
invariant-loop-at l = (end : List ℕ) → Writes l.out.items end (commas_from l.at CloseBrace (map tokens_of_alias (drop l.at l.names))) → Writes l.initial.out.items end (with_commas CloseBrace (map tokens_of_alias l.names))
