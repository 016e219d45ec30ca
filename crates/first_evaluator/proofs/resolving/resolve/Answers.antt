use Rattle.std.proofs.Common.{◌+◌, length, string_bytes, ap, ◌∙◌, arith}
use Rattle.std.specs.BTreeMap.{get_by_text}
use Rattle.std.proofs.lemmas.List.{length_push}
use Rattle.first_evaluator.specs.Resolved.{sum_of}
use Rattle.first_evaluator.proofs.ResolvedSums.{AreAt-more, bound_from_sums, refused_twice, refused_sum, bound_file-unsound, bound_file-sound, sums-more, sums-end}
use Rattle.first_evaluator.proofs.resolving.resolve.Goals as goal

pub returns-then-contains_key : goal.returns-then-contains_key
returns-then-contains_key c =
    let l = c.loop-prop in
    bound_file-unsound c.args.file
    (rw (← c.as_slice-prop-items.ensures) (refused_twice c.as_slice-prop-items.result.now l.sums.items l.places l.prop-index c.prop-item.result l.invariant.sums l.invariant.at (omega arith) c.prop-item.is
    c.as_str.result.now c.contains_key.result c.as_str.ensures c.contains_key.ensures c.if-contains_key.true))

pub returns-in_default : goal.returns-in_default
returns-in_default c =
    let l = c.loop-prop in
    bound_file-unsound c.args.file
    (rw (← c.as_slice-prop-items.ensures) (refused_sum c.as_slice-prop-items.result.now l.sums.items l.places l.prop-index c.prop-item.result l.invariant.sums l.invariant.at (omega arith) c.prop-item.is
    c.in_ok-sum.field-0 (c.in_ok-sum.ensures ∙ ap (sum_of (λ name. get_by_text l.places name)) c.as_slice.ensures) c.in_default.is))

pub loop-prop-preserved : goal.loop-prop-preserved
loop-prop-preserved c =
    let l = c.loop-prop in
    record {
      sums = rw c.in_ok-push.ensures.items (sums-more c.as_slice-prop-items.result.now l.sums.items l.places l.prop-index c.prop-item.result l.invariant.sums l.invariant.at (omega arith) c.prop-item.is
          c.as_str.result.now c.contains_key.result c.in-Some.sum c.in_ok-sum.field-0 c.as_str.ensures c.contains_key.ensures c.if-contains_key.false
          (c.in_ok-sum.ensures ∙ ap (sum_of (λ name. get_by_text l.places name)) c.as_slice.ensures) c.in-Some.is);
      count = ap length c.in_ok-push.ensures.items ∙ length_push l.sums.items c.in-Some.sum ∙ ap (λ n. n + 1) l.invariant.count;
      at = AreAt-more l.places c.insert.new.self c.as_slice-prop-items.result.now l.prop-index c.prop-item.result (string_bytes c.in_ok-name.name) c.len.result l.invariant.at (omega arith) c.prop-item.is
          (c.in_ok-name.ensures.ok ∙ c.as_str-in-loop-prop.ensures) (c.len.ensures ∙ l.sums.ok.0 ∙ l.invariant.count) c.in_ok-insert.ensures.updates;
    }

pub returns : goal.returns
returns c =
    let l = c.loop-prop in
    bound_file-sound c.args.file
    (rw (← c.as_slice-prop-items.ensures) (bound_from_sums c.as_slice-prop-items.result.now l.sums.items (sums-end c.as_slice-prop-items.result.now l.sums.items l.prop-index l.invariant.sums (omega arith))))
