use Rattle.std.proofs.lemmas.Result.{err_from_is_err_and}
use Rattle.slint_lexer.proofs.Readings.{read_none, read_more, read_all, seen_with, ends_by}
use Rattle.slint_lexer.proofs.lexing.lex.Goals as goal

pub loop-at-init : goal.loop-at-init
loop-at-init c =
    read_none c.args.file c.args.bytes.now c.new-tokens.result.items c.new-held.result.items c.mark_length-at.result c.mark_length-at.ensures.within c.mark_length-at.ensures.value c.new-tokens.ensures.items c.new-held.ensures.items

pub loop-at-preserved : goal.loop-at-preserved
loop-at-preserved c =
    read_more c.args.file c.args.bytes.now c.split_at.result.1.now _ _ _ _ c.loop-at.at c.in_ok-at.field-0 _ c.split_at.ensures.back c.loop-at.invariant
    (seen_with _ _ _ _ _ c.ends_hole.ensures c.deref.ensures.value c.in_ok-found.ensures) c.in_ok-at.ensures.takes

pub returns-clause-tokens : goal.returns-clause-tokens
returns-clause-tokens c = read_all c.args.file c.args.bytes.now c.loop-at.tokens.items c.loop-at.held.items c.loop-at.at c.loop-at.invariant c.loop-at-test.false

pub returns-in_err-at-clause-fault : goal.returns-in_err-at-clause-fault
returns-in_err-at-clause-fault c =
    let seen = seen_with _ _ _ _ _ c.ends_hole.ensures c.deref.ensures.value c.in_ok-found.ensures in
    let end = ends_by c.args.file c.args.bytes.now c.split_at.result.1.now _ _ c.loop-at.at _ c.in_err-at.field-0.0 c.split_at.ensures.back c.loop-at.invariant seen c.in_err-at.ensures.fault in
    let p = err_from_is_err_and c.from_residual-in_err-at.result c.from_residual-in_err-at.ensures.1 in
    rw (p.1, p.2) end
