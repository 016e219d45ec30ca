use Rattle.std.proofs.Common.{ℕ, List, length, drop, FitsSigned, subst, sym, refl, arith}
use Rattle.std.specs.Int.{w128}
use Rattle.std.specs.Str.{chars}
use Rattle.std.proofs.lemmas.Iterator.{YieldsList-from_chars}
use Rattle.std.proofs.lemmas.Iterator.Consumers.{YieldsList-turn, YieldsList-end}
use Rattle.std.proofs.lemmas.List.{length_push}
use Rattle.text_measure.proofs.PenSteps.{IsWriting, sees-kept, ends-word, turned, finished, writing-first, writing-letter, writing-space, writing-line, writing-last-width, writing-last-rows}
use Rattle.text_measure.proofs.measuring.written.Goals as goal

pub loop-ch-init : goal.loop-ch-init
loop-ch-init c = writing-first _ _ _ _

pub loop-ch-preserved-then-ch-eq10 : goal.loop-ch-preserved-then-ch-eq10
loop-ch-preserved-then-ch-eq10 c =
    let fits : FitsSigned w128 c.room_of.result = record { sfits = c.room_of.type_inv } in
    let r = sees-kept c.args.width c.room_of.result fits c.room_of.ensures in
    let t = YieldsList-turn (YieldsList-from_chars c.args.text.now c.utf8.text cc) c.loop-ch.yielded _ c.loop-ch.yielded_by _ _ c.in-Some.ch c.in-Some.is c.next.ensures.steps in
    let P : List ℕ → Type 0 = IsWriting c.args.table.now c.args.size c.args.width (chars c.args.text.now) c.loop-ch.pen in
    let h = turned P (chars c.args.text.now) (length c.loop-ch.yielded) c.in-Some.ch t c.loop-ch.invariant in
    let n = length_push c.loop-ch.yielded c.in-Some.ch in
    let ended = ends-word c.args.width _ r _ c.char_width.result c.char_width.ensures c.loop-ch.pen.row c.loop-ch.pen c.end_word.result refl c.end_word.ensures in
    let Q : ℕ → Type 0 = λ k. IsWriting c.args.table.now c.args.size c.args.width (chars c.args.text.now) c.end_line-pen.result (drop k (chars c.args.text.now)) in
    subst Q (sym n) (writing-line _ _ _ _ _ _ _ c.in-Some.ch _ h c.if-ch-eq10.true ended (record { is = c.end_line-pen.ensures }))

pub loop-ch-preserved-then-ch-eq32 : goal.loop-ch-preserved-then-ch-eq32
loop-ch-preserved-then-ch-eq32 c =
    let fits : FitsSigned w128 c.room_of.result = record { sfits = c.room_of.type_inv } in
    let r = sees-kept c.args.width c.room_of.result fits c.room_of.ensures in
    let t = YieldsList-turn (YieldsList-from_chars c.args.text.now c.utf8.text cc) c.loop-ch.yielded _ c.loop-ch.yielded_by _ _ c.in-Some.ch c.in-Some.is c.next.ensures.steps in
    let P : List ℕ → Type 0 = IsWriting c.args.table.now c.args.size c.args.width (chars c.args.text.now) c.loop-ch.pen in
    let h = turned P (chars c.args.text.now) (length c.loop-ch.yielded) c.in-Some.ch t c.loop-ch.invariant in
    let n = length_push c.loop-ch.yielded c.in-Some.ch in
    let ended = ends-word c.args.width _ r _ c.char_width.result c.char_width.ensures c.loop-ch.pen.row c.loop-ch.pen c.end_word-then-ch-eq32.result refl c.end_word-then-ch-eq32.ensures in
    let Q : ℕ → Type 0 = λ k. IsWriting c.args.table.now c.args.size c.args.width (chars c.args.text.now) c.add_space.result (drop k (chars c.args.text.now)) in
    subst Q (sym n) (writing-space _ _ _ _ _ _ _ c.in-Some.ch _ _ h c.if-ch-eq32.true c.char_width.ensures ended c.add_space.ensures)

pub loop-ch-preserved : goal.loop-ch-preserved
loop-ch-preserved c =
    let fits : FitsSigned w128 c.room_of.result = record { sfits = c.room_of.type_inv } in
    let r = sees-kept c.args.width c.room_of.result fits c.room_of.ensures in
    let t = YieldsList-turn (YieldsList-from_chars c.args.text.now c.utf8.text cc) c.loop-ch.yielded _ c.loop-ch.yielded_by _ _ c.in-Some.ch c.in-Some.is c.next.ensures.steps in
    let P : List ℕ → Type 0 = IsWriting c.args.table.now c.args.size c.args.width (chars c.args.text.now) c.loop-ch.pen in
    let h = turned P (chars c.args.text.now) (length c.loop-ch.yielded) c.in-Some.ch t c.loop-ch.invariant in
    let n = length_push c.loop-ch.yielded c.in-Some.ch in
    let Q : ℕ → Type 0 = λ k. IsWriting c.args.table.now c.args.size c.args.width (chars c.args.text.now) c.add.result (drop k (chars c.args.text.now)) in
    subst Q (sym n) (writing-letter _ _ _ _ r _ _ _ c.in-Some.ch _ _ h c.if-ch-eq10.false c.if-ch-eq32.false c.char_width-else-ch-eq32.ensures c.add.ensures)

pub returns-clause-width : goal.returns-clause-width
returns-clause-width c =
    let fits : FitsSigned w128 c.room_of.result = record { sfits = c.room_of.type_inv } in
    let r = sees-kept c.args.width c.room_of.result fits c.room_of.ensures in
    let t = YieldsList-end (YieldsList-from_chars c.args.text.now c.utf8.text cc) c.loop-ch.yielded _ c.loop-ch.yielded_by _ _ c.in-None.is c.next.ensures.steps in
    let P : List ℕ → Type 0 = IsWriting c.args.table.now c.args.size c.args.width (chars c.args.text.now) c.loop-ch.pen in
    let h = finished P (chars c.args.text.now) (length c.loop-ch.yielded) (omega (arith, t.1)) c.loop-ch.invariant in
    let ended = ends-word c.args.width _ r _ c.char_width.result c.char_width.ensures c.loop-ch.pen.row c.loop-ch.pen c.end_word-2.result refl c.end_word-2.ensures in
    writing-last-width _ _ _ _ _ _ _ h ended (record { is = c.end_line.ensures })

pub returns-clause-rows : goal.returns-clause-rows
returns-clause-rows c =
    let fits : FitsSigned w128 c.room_of.result = record { sfits = c.room_of.type_inv } in
    let r = sees-kept c.args.width c.room_of.result fits c.room_of.ensures in
    let t = YieldsList-end (YieldsList-from_chars c.args.text.now c.utf8.text cc) c.loop-ch.yielded _ c.loop-ch.yielded_by _ _ c.in-None.is c.next.ensures.steps in
    let P : List ℕ → Type 0 = IsWriting c.args.table.now c.args.size c.args.width (chars c.args.text.now) c.loop-ch.pen in
    let h = finished P (chars c.args.text.now) (length c.loop-ch.yielded) (omega (arith, t.1)) c.loop-ch.invariant in
    let ended = ends-word c.args.width _ r _ c.char_width.result c.char_width.ensures c.loop-ch.pen.row c.loop-ch.pen c.end_word-2.result refl c.end_word-2.ensures in
    writing-last-rows _ _ _ _ _ _ _ h ended (record { is = c.end_line.ensures })
