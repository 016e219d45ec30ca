use Rattle.slint_lexer.specs.declared.tokens.Symbol.TheVariants.{CloseBrace}
use Rattle.syntax_tree.specs.Printed.{tokens_of_alias}
use Rattle.syntax_tree.proofs.InOrder.{behind, comma_turn, commas_end}
use Rattle.syntax_tree.proofs.print_files.print_aliases.Goals as goal

pub loop-at-init : goal.loop-at-init
loop-at-init c = λ end w. w

pub loop-at-preserved : goal.loop-at-preserved
loop-at-preserved c = λ end w. c.loop-at.invariant end (comma_turn tokens_of_alias CloseBrace c.args.names.now c.loop-at.at c.index-names-at.result c.index-names-at.is c.loop-at-test.true c.in_ok-write_comma.ensures c.in_ok-print_alias.ensures w)

pub returns : goal.returns
returns c = behind c.in_ok-write_symbol.ensures (c.loop-at.invariant _ (commas_end tokens_of_alias CloseBrace c.args.names.now c.loop-at.at c.loop-at-test.false c.in_ok-write_symbol-2.ensures))
