use Rattle.std.proofs.Common.{◌≡◌, ◌≤◌, ◌-◌, ℕ, List, Option, length, inl, inr, ap, ◌∙◌, arith}
use Rattle.std.specs.Prelude.{vec_len}
use Rattle.property_cells.specs.Blocks.{Free, sized}
use Rattle.property_cells.proofs.PointLemmas.{resized}
use Rattle.property_cells.proofs.BlockLemmas.{chains_room}
use Rattle.property_cells.proofs.blocks.Blocks.admit.Goals as goal

pub invariant_of-self-in_err-resize-2 : goal.invariant_of-self-in_err-resize-2
invariant_of-self-in_err-resize-2 c =
    let b = c.self.inside in let h = b.heads.ok.0 in let n = b.next.ok.0 in
    let wide : length b.heads.items ≤ c.max.result = omega (arith, c.max.ensures, c.len-2.ensures, h) in
    let heads = resized b.heads.items c.max.result c.resize.new.self.items (c.max.result - vec_len b.heads) wide c.in_ok-resize.ensures.items in
    let longer : length c.resize-2.new.self.items ≤ length c.resize.new.self.items = (let e : length c.resize-2.new.self.items ≡ length b.next.items = ap (λ (l : List (Option ℕ)). length l) c.in_err-resize-2.ensures.items in let k = c.self.invariant.longer in
    let l = c.in_ok-resize.ensures.len in let m = c.resize.new.self.ok.0 in omega (arith, e, k, l, m, wide)) in
    (chains_room b.heads.items b.next.items c.self.invariant c.resize.new.self.items c.resize-2.new.self.items (c.max.result - vec_len b.heads) 0 heads (inl c.in_err-resize-2.ensures.items) longer).0

pub returns-in_err-resize-2-clause-blocks : goal.returns-in_err-resize-2-clause-blocks
returns-in_err-resize-2-clause-blocks c =
    let b = c.self.inside in let h = b.heads.ok.0 in let n = b.next.ok.0 in
    let wide : length b.heads.items ≤ c.max.result = omega (arith, c.max.ensures, c.len-2.ensures, h) in
    let heads = resized b.heads.items c.max.result c.resize.new.self.items (c.max.result - vec_len b.heads) wide c.in_ok-resize.ensures.items in
    let longer : length c.resize-2.new.self.items ≤ length c.resize.new.self.items = (let e : length c.resize-2.new.self.items ≡ length b.next.items = ap (λ (l : List (Option ℕ)). length l) c.in_err-resize-2.ensures.items in let k = c.self.invariant.longer in
    let l = c.in_ok-resize.ensures.len in let m = c.resize.new.self.ok.0 in omega (arith, e, k, l, m, wide)) in
    λ k. (chains_room b.heads.items b.next.items c.self.invariant c.resize.new.self.items c.resize-2.new.self.items (c.max.result - vec_len b.heads) 0 heads (inl c.in_err-resize-2.ensures.items) longer).1 k
    ∙ ap (λ (f : Free). sized f.blocks k) c.self.view_is

pub invariant_of-self-2 : goal.invariant_of-self-2
invariant_of-self-2 c =
    let b = c.self.inside in let h = b.heads.ok.0 in let n = b.next.ok.0 in
    let wide : length b.heads.items ≤ c.max.result = omega (arith, c.max.ensures, c.len-2.ensures, h) in
    let short : length b.next.items ≤ c.args.cells = omega (arith, n, c.len.ensures, c.if-cells-len.false) in
    let heads = resized b.heads.items c.max.result c.resize.new.self.items (c.max.result - vec_len b.heads) wide c.in_ok-resize.ensures.items in
    let next = resized b.next.items c.args.cells c.resize-2.new.self.items (c.args.cells - vec_len b.next) short c.in_ok-resize-2.ensures.items in
    let longer : length c.resize-2.new.self.items ≤ length c.resize.new.self.items = (let l = c.in_ok-resize.ensures.len in let m = c.resize.new.self.ok.0 in let j = c.in_ok-resize-2.ensures.len in let i = c.resize-2.new.self.ok.0 in
    omega (arith, l, m, j, i, c.max.ensures)) in
    (chains_room b.heads.items b.next.items c.self.invariant c.resize.new.self.items c.resize-2.new.self.items (c.max.result - vec_len b.heads) (c.args.cells - vec_len b.next) heads (inr next) longer).0

pub returns-clause-blocks : goal.returns-clause-blocks
returns-clause-blocks c =
    let b = c.self.inside in let h = b.heads.ok.0 in let n = b.next.ok.0 in
    let wide : length b.heads.items ≤ c.max.result = omega (arith, c.max.ensures, c.len-2.ensures, h) in
    let short : length b.next.items ≤ c.args.cells = omega (arith, n, c.len.ensures, c.if-cells-len.false) in
    let heads = resized b.heads.items c.max.result c.resize.new.self.items (c.max.result - vec_len b.heads) wide c.in_ok-resize.ensures.items in
    let next = resized b.next.items c.args.cells c.resize-2.new.self.items (c.args.cells - vec_len b.next) short c.in_ok-resize-2.ensures.items in
    let longer : length c.resize-2.new.self.items ≤ length c.resize.new.self.items = (let l = c.in_ok-resize.ensures.len in let m = c.resize.new.self.ok.0 in let j = c.in_ok-resize-2.ensures.len in let i = c.resize-2.new.self.ok.0 in
    omega (arith, l, m, j, i, c.max.ensures)) in
    λ k. (chains_room b.heads.items b.next.items c.self.invariant c.resize.new.self.items c.resize-2.new.self.items (c.max.result - vec_len b.heads) (c.args.cells - vec_len b.next) heads (inr next) longer).1 k
    ∙ ap (λ (f : Free). sized f.blocks k) c.self.view_is
