use Rattle.std.proofs.Common.{◌≡◌, ◌==◌, ℕ, ◌+◌, List, take, not, ap, sym, ◌∙◌}
use Rattle.std.specs.List.{count_by, suffix_len}
use Rattle.slint_base.specs.declared.places.Place.{Place}
use Rattle.slint_base.proofs.LastLines.{length-after_last, take_within}
use Rattle.slint_base.proofs.places.Place.of_byte.Goals as goal

pub returns : goal.returns
returns c =
    let front : take c.min.result c.args.bytes.now ≡ take c.args.at c.args.bytes.now = ap (λ n. take n c.args.bytes.now) c.min.ensures ∙ take_within c.args.at c.args.bytes.now in
    let line : ℕ → ℕ → Place = λ feeds since. record { line = feeds + 1; column = since + 1 } in
    let at : List ℕ → Place = λ text. line (count_by (λ b. b == 10) text) (suffix_len (λ b. not (b == 10)) text) in
    ap (λ n. line n c.last_line_length.result) c.line_feeds.ensures
    ∙ ap (λ n. line (count_by (λ b. b == 10) (take c.min.result c.args.bytes.now)) n) c.last_line_length.ensures.value
    ∙ ap at front
    ∙ ap (λ n. line (count_by (λ b. b == 10) (take c.args.at c.args.bytes.now)) n) (sym (length-after_last (take c.args.at c.args.bytes.now)))
