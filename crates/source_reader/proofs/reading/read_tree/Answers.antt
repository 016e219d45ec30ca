use Rattle.std.proofs.Common.{arith, length, refl}
use Rattle.std.proofs.lemmas.Result.{err_from_is_err_and}
use Rattle.source_reader.proofs.Lexed.{read_too_long, read_unlexed, read_lexed}
use Rattle.source_reader.proofs.reading.read_tree.Goals as goal

pub returns-then-bytes-gt-MOST_BYTES : goal.returns-then-bytes-gt-MOST_BYTES
returns-then-bytes-gt-MOST_BYTES c = read_too_long c.args.file c.args.bytes.now c.at_start.result (omega arith) c.at_start.ensures

pub returns-in_err-tokens : goal.returns-in_err-tokens
returns-in_err-tokens c =
    let end = read_unlexed c.args.file c.args.bytes.now c.in_err-tokens.field-0.0 (omega arith) c.in_err-tokens.ensures.fault in
    let p = err_from_is_err_and c.from_residual.result c.from_residual.ensures.1 in
    rw (p.1, p.2) end

pub returns : goal.returns
returns c =
    read_lexed c.args.file (length c.args.bytes.now) c.args.bytes.now c.in_ok-tokens.tokens.items c.deref.result.now c.parse.result (omega arith) refl c.in_ok-tokens.ensures.tokens.lexed c.deref.ensures.value c.parse.ensures
