use Rattle.std.proofs.Common.{rules}
use Rattle.slint_lexer.specs.declared.tokens.Symbol.TheVariants as symbols
use Rattle.slint_grammar.specs.Parts as parts
use Rattle.slint_grammar.specs.Grammar.{Alt as alts}
use Rattle.slint_parser.proofs.Joining.{alt_error, part_error, took_by, end_all, and_one, and_same, at_one, at_same, at_deep, past_one, past_deep, chosen_reads, chosen_took, chosen_stuck}
use Rattle.slint_parser.proofs.Listing.{still_open}
use Rattle.slint_parser.proofs.Among.{unlike}
use Rattle.slint_parser.proofs.ChosenStatements.{chosen_block, chosen_an_if, no_else, chosen_else_if, chosen_else_block, if_read, else_read, else_block_read, if_then_as, if_stuck, empty_then, empty_stuck, read_error, begun_stmts, no_closing, all_closed, at_stmt, last_stmt, stmt_turn}
use Rattle.slint_parser.proofs.statements.+statements.Goals as goal

pub block-returns-in_err-open : goal.block-returns-in_err-open
block-returns-in_err-open t c =
    part_error parts.Block c.args.depth c.args.cursor.now c.symbol.new.self _ c.from_residual.result c.from_residual.ensures.1
    (chosen_stuck (chosen_block c.args.depth c.args.cursor.now) (at_one c.in_err-open.ensures))

pub block-returns-in_err-stmts : goal.block-returns-in_err-stmts
block-returns-in_err-stmts t c =
    part_error parts.Block c.args.depth c.args.cursor.now c.statements.new.cursor _ c.from_residual-in_err-stmts.result c.from_residual-in_err-stmts.ensures.1
    (chosen_stuck (chosen_block c.args.depth c.args.cursor.now) (past_one c.in_ok-open.ensures (at_same c.in_err-stmts.ensures)))

pub block-returns : goal.block-returns
block-returns t c =
    rw c.join.ensures (chosen_took (chosen_block c.args.depth c.args.cursor.now)
    (took_by alts.block (and_one c.in_ok-open.ensures (and_same c.in_ok-stmts.ensures (end_all c.args.depth c.statements.new.cursor)))))

pub statements-returns-in_err-end : goal.statements-returns-in_err-end
statements-returns-in_err-end t c =
    part_error (parts.Stmts parts.InStmt) c.args.depth c.args.cursor.now c.closes.new.self _ c.from_residual.result c.from_residual.ensures.1
    (no_closing c.turns.behind_if c.args.depth c.args.cursor.now c.turns.cursor c.turns.all _ c.turns.invariant c.in_err-end.ensures)

pub statements-returns-in-Some : goal.statements-returns-in-Some
statements-returns-in-Some t c =
    all_closed c.turns.behind_if c.args.depth c.args.cursor.now c.turns.cursor c.closes.new.self c.turns.all c.in_ok-end.field-0 c.in-Some.end c.turns.invariant c.in-Some.is c.in_ok-end.ensures

pub statements-statement-requires : goal.statements-statement-requires
statements-statement-requires t c =
    (search rules, (c.requires.low, still_open symbols.CloseBrace c.args.depth c.turns.cursor c.closes.new.self c.in_ok-end.field-0 c.in_default.not-Some c.in_ok-end.ensures))

pub statements-returns-in_err-stmt : goal.statements-returns-in_err-stmt
statements-returns-in_err-stmt t c =
    part_error (parts.Stmts parts.InStmt) c.args.depth c.args.cursor.now c.statement.new.cursor _ c.from_residual-in_err-stmt.result c.from_residual-in_err-stmt.ensures.1
    ((at_stmt c.turns.behind_if c.args.depth c.args.cursor.now c.turns.cursor c.closes.new.self c.turns.all c.in_ok-end.field-0 c.turns.invariant c.in_default.not-Some c.in_ok-end.ensures).stuck _ c.in_err-stmt.ensures)

pub statements-returns-in-Closed : goal.statements-returns-in-Closed
statements-returns-in-Closed t c =
    last_stmt c.turns.behind_if c.args.depth c.args.cursor.now c.closes.new.self c.statement.new.cursor c.turns.all c.push.new.self c.in_ok-stmt.stmt c.in_ok-stmt.behind c.in-Closed.end
    (at_stmt c.turns.behind_if c.args.depth c.args.cursor.now c.turns.cursor c.closes.new.self c.turns.all c.in_ok-end.field-0 c.turns.invariant c.in_default.not-Some c.in_ok-end.ensures)
    c.in-Closed.is c.in_ok-push.ensures.ok c.in_ok-stmt.ensures

pub statements-turns-init : goal.statements-turns-init
statements-turns-init t c = begun_stmts c.args.depth c.args.cursor.now c.new-all.result c.new-all.ensures

pub statements-turns-smaller : goal.statements-turns-smaller
statements-turns-smaller t c =
    (stmt_turn c.turns.behind_if c.in-Another.is_if c.args.depth c.args.cursor.now c.turns.cursor c.closes.new.self c.statement.new.cursor c.turns.all c.push.new.self c.in_ok-stmt.stmt c.in_ok-stmt.behind
    c.in_ok-end.field-0 c.turns.invariant c.in_default.not-Some c.in_ok-end.ensures c.in-Another.is c.in_ok-push.ensures.ok c.in_ok-stmt.ensures).1

pub statements-turns-preserved : goal.statements-turns-preserved
statements-turns-preserved t c =
    (stmt_turn c.turns.behind_if c.in-Another.is_if c.args.depth c.args.cursor.now c.turns.cursor c.closes.new.self c.statement.new.cursor c.turns.all c.push.new.self c.in_ok-stmt.stmt c.in_ok-stmt.behind
    c.in_ok-end.field-0 c.turns.invariant c.in_default.not-Some c.in_ok-end.ensures c.in-Another.is c.in_ok-push.ensures.ok c.in_ok-stmt.ensures).0

pub statement-returns-in_err-condition : goal.statement-returns-in_err-condition
statement-returns-in_err-condition t c =
    read_error c.args.behind_if c.args.depth c.args.cursor.now c.if_parts.new.cursor _ c.from_residual.result c.from_residual.ensures.1
    (if_stuck c.args.behind_if c.args.depth c.args.cursor.now _ (c.shows.ensures.0 c.if-shows.true) c.in_err-condition.ensures)

pub statement-returns-then-shows : goal.statement-returns-then-shows
statement-returns-then-shows t c =
    if_then_as c.args.behind_if c.args.depth c.args.cursor.now c.if_parts.new.cursor c.in_ok-condition.condition c.into_inner.result c.in_ok-condition.then_block c.in_ok-condition.otherwise
    c.into_inner-then-shows.result c.in_ok-condition.span (c.shows.ensures.0 c.if-shows.true) c.in_ok-condition.ensures c.into_inner.ensures c.into_inner-then-shows.ensures

pub statement-returns-in_err-span : goal.statement-returns-in_err-span
statement-returns-in_err-span t c =
    read_error c.args.behind_if c.args.depth c.args.cursor.now c.symbol.new.self _ c.from_residual-in_err-span.result c.from_residual-in_err-span.ensures.1
    (empty_stuck c.args.behind_if c.args.depth c.args.cursor.now _ (c.sees.ensures.0 c.if-sees.true) c.in_err-span.ensures)

pub statement-returns-then-sees : goal.statement-returns-then-sees
statement-returns-then-sees t c =
    empty_then c.args.behind_if c.args.depth c.args.cursor.now c.symbol.new.self c.in_ok-span.span (c.sees.ensures.0 c.if-sees.true) c.in_ok-span.ensures

pub statement-returns : goal.statement-returns
statement-returns t c = c.closed_statement.ensures

pub if_parts-returns-in_err-word : goal.if_parts-returns-in_err-word
if_parts-returns-in_err-word t c =
    part_error parts.If c.args.depth c.args.cursor.now c.word.new.self _ c.from_residual.result c.from_residual.ensures.1
    (chosen_stuck (chosen_an_if c.args.depth c.args.cursor.now) (at_one c.in_err-word.ensures))

pub if_parts-returns-in_err-condition : goal.if_parts-returns-in_err-condition
if_parts-returns-in_err-condition t c =
    part_error parts.If c.args.depth c.args.cursor.now c.expr.new.cursor _ c.from_residual-in_err-condition.result c.from_residual-in_err-condition.ensures.1
    (chosen_stuck (chosen_an_if c.args.depth c.args.cursor.now) (past_one c.in_ok-word.ensures (at_deep c.args.depth c.in_err-condition.ensures)))

pub if_parts-returns-in_err-then_block : goal.if_parts-returns-in_err-then_block
if_parts-returns-in_err-then_block t c =
    part_error parts.If c.args.depth c.args.cursor.now c.block.new.cursor _ c.from_residual-in_err-then_block.result c.from_residual-in_err-then_block.ensures.1
    (chosen_stuck (chosen_an_if c.args.depth c.args.cursor.now) (past_one c.in_ok-word.ensures (past_deep c.args.depth c.in_ok-condition.ensures (at_deep c.args.depth c.in_err-then_block.ensures))))

pub if_parts-returns-in_err-otherwise : goal.if_parts-returns-in_err-otherwise
if_parts-returns-in_err-otherwise t c =
    part_error parts.If c.args.depth c.args.cursor.now c.may_else.new.cursor _ c.from_residual-in_err-otherwise.result c.from_residual-in_err-otherwise.ensures.1
    (chosen_stuck (chosen_an_if c.args.depth c.args.cursor.now)
    (past_one c.in_ok-word.ensures (past_deep c.args.depth c.in_ok-condition.ensures (past_deep c.args.depth c.in_ok-then_block.ensures (at_same c.in_err-otherwise.ensures)))))

pub if_parts-returns : goal.if_parts-returns
if_parts-returns t c =
    if_read c.args.depth c.args.cursor.now c.word.new.self c.expr.new.cursor c.block.new.cursor c.may_else.new.cursor c.in_ok-word.word c.in_ok-condition.condition c.in_ok-then_block.then_block
    c.in_ok-otherwise.otherwise c.get.result.now c.if_span-span.result c.in_ok-word.ensures c.in_ok-condition.ensures c.in_ok-then_block.ensures c.in_ok-otherwise.ensures c.get.ensures c.if_span-span.ensures

pub may_else-returns-then-shows : goal.may_else-returns-then-shows
may_else-returns-then-shows t c = c.an_else.ensures

pub may_else-returns : goal.may_else-returns
may_else-returns t c =
    no_else c.args.depth c.args.cursor.now c.in_ok-new.field-0 (unlike c.shows.result c.if-shows.false c.shows.ensures.1) c.in_ok-new.ensures

pub an_else-returns-then-if_follows : goal.an_else-returns-then-if_follows
an_else-returns-then-if_follows t c =
    chosen_reads alts.else_if c.args.depth c.args.cursor.now c.else_if.new.cursor c.else_if.result
    (chosen_else_if c.args.depth c.args.cursor.now c.requires (c.if_follows.ensures.0 c.if-if_follows.true)) c.else_if.ensures

pub an_else-returns : goal.an_else-returns
an_else-returns t c =
    chosen_reads alts.else_block c.args.depth c.args.cursor.now c.else_block.new.cursor c.else_block.result
    (chosen_else_block c.args.depth c.args.cursor.now c.requires (unlike c.if_follows.result c.if-if_follows.false c.if_follows.ensures.1)) c.else_block.ensures

pub else_if-returns-in_err-condition : goal.else_if-returns-in_err-condition
else_if-returns-in_err-condition t c =
    alt_error alts.else_if c.args.depth c.args.cursor.now c.if_parts.new.cursor _ c.from_residual-in_err-condition.result c.from_residual-in_err-condition.ensures.1
    (past_one c.in_ok-word.ensures (at_deep c.args.depth c.in_err-condition.ensures))

pub else_if-returns : goal.else_if-returns
else_if-returns t c =
    else_read c.args.depth c.args.cursor.now c.word.new.self c.if_parts.new.cursor c.in_ok-word.field-0 c.in_ok-condition.condition c.into_inner.result c.in_ok-condition.then_block
    c.in_ok-condition.otherwise c.in_ok-condition.span c.in_ok-new.field-0 c.in_ok-word.ensures c.in_ok-condition.ensures c.into_inner.ensures c.in_ok-new.ensures

pub else_block-returns-in_err-block : goal.else_block-returns-in_err-block
else_block-returns-in_err-block t c =
    alt_error alts.else_block c.args.depth c.args.cursor.now c.block.new.cursor _ c.from_residual-in_err-block.result c.from_residual-in_err-block.ensures.1
    (past_one c.in_ok-word.ensures (at_deep c.args.depth c.in_err-block.ensures))

pub else_block-returns : goal.else_block-returns
else_block-returns t c =
    else_block_read c.args.depth c.args.cursor.now c.word.new.self c.block.new.cursor c.in_ok-word.field-0 c.in_ok-block.block c.in_ok-new.field-0 c.in_ok-word.ensures c.in_ok-block.ensures c.in_ok-new.ensures
