use Rattle.std.proofs.Common.{◌≡◌, ◌+◌, ◌-◌, ◌<◌, List, [], ◌∷◌, ◌++◌, length, Some, refl, sym, ap, ◌∙◌, subst}
use Rattle.std.specs.Prelude.{IsSome, Option}
use denote.RawPtr.{Ptr}
use Rattle.dep_list.specs.declared.node.Node.{Node}
use Rattle.dep_list.specs.declared.node.Side.TheVariants.{Reader, Point}
use Rattle.dep_list.specs.Cells.{places, take_out, Apart}
use Rattle.dep_list.specs.Lists.{place, State, state, Held, FoundIf, cut, entries}
use Rattle.dep_list.proofs.CutKeeps.{pair_at, pair_of, inside_of, places-cut_cells, Found_cut, c1, s1, apart1, prev_found, next_found, entries3, cut_kept}
use Rattle.dep_list.proofs.lists.Lists.remove.Goals as goal

pub get-node-requires : goal.get-node-requires
get-node-requires c =
    let t = pair_at (state c.args.self.now) c.requires.held c.args.at.ptr c.requires.there in
    subst (λ (o : Option Node). IsSome o) (sym t.1.found) refl

pub cut_out-requires-clause-inside : goal.cut_out-requires-clause-inside
cut_out-requires-clause-inside c =
    let s = state c.args.self.now in let K = c.requires.held in let n = c.get-node.result.now in let p = c.args.at.ptr in
    let t = pair_of s K p c.requires.there n c.get-node.ensures in let ins = inside_of s K p n t in
    let w : c.renew.new.self.cells ≡ c1 s K p n t.found t.linked = c.renew.ensures ∙ ap (λ (m : Node). take_out s.cells p ++ (p, m) ∷ []) c.spare_node.ensures in
    ins Reader

pub cut_out-requires-clause-apart : goal.cut_out-requires-clause-apart
cut_out-requires-clause-apart c =
    let s = state c.args.self.now in let K = c.requires.held in let n = c.get-node.result.now in let p = c.args.at.ptr in
    let t = pair_of s K p c.requires.there n c.get-node.ensures in let ins = inside_of s K p n t in
    let w : c.renew.new.self.cells ≡ c1 s K p n t.found t.linked = c.renew.ensures ∙ ap (λ (m : Node). take_out s.cells p ++ (p, m) ∷ []) c.spare_node.ensures in
    subst (λ (cs : List (Ptr × Node)). Apart (places cs)) (sym w) (apart1 s K p n t.found t.linked)

pub cut_out-requires-clause-prev : goal.cut_out-requires-clause-prev
cut_out-requires-clause-prev c =
    let s = state c.args.self.now in let K = c.requires.held in let n = c.get-node.result.now in let p = c.args.at.ptr in
    let t = pair_of s K p c.requires.there n c.get-node.ensures in let ins = inside_of s K p n t in
    let w : c.renew.new.self.cells ≡ c1 s K p n t.found t.linked = c.renew.ensures ∙ ap (λ (m : Node). take_out s.cells p ++ (p, m) ∷ []) c.spare_node.ensures in
    subst (FoundIf n.by_reader.prev) (sym w) (prev_found s K p n t.found t.linked Reader (ins Reader))

pub cut_out-requires-clause-next : goal.cut_out-requires-clause-next
cut_out-requires-clause-next c =
    let s = state c.args.self.now in let K = c.requires.held in let n = c.get-node.result.now in let p = c.args.at.ptr in
    let t = pair_of s K p c.requires.there n c.get-node.ensures in let ins = inside_of s K p n t in
    let w : c.renew.new.self.cells ≡ c1 s K p n t.found t.linked = c.renew.ensures ∙ ap (λ (m : Node). take_out s.cells p ++ (p, m) ∷ []) c.spare_node.ensures in
    subst (FoundIf n.by_reader.next) (sym w) (next_found s K p n t.found t.linked Reader (ins Reader))

pub cut_out-requires-2-clause-inside : goal.cut_out-requires-2-clause-inside
cut_out-requires-2-clause-inside c =
    let s = state c.args.self.now in let K = c.requires.held in let n = c.get-node.result.now in let p = c.args.at.ptr in
    let t = pair_of s K p c.requires.there n c.get-node.ensures in let ins = inside_of s K p n t in
    let w : c.renew.new.self.cells ≡ c1 s K p n t.found t.linked = c.renew.ensures ∙ ap (λ (m : Node). take_out s.cells p ++ (p, m) ∷ []) c.spare_node.ensures in
    let before = record s { cells = c.renew.new.self.cells; top = Some (place p); spare = s.spare + 1; count = s.count - 1 } in
    let first : state c.cut_out.new.self ≡ cut Reader n.reader n.by_reader (s1 s K p n t.found t.linked) = c.cut_out.ensures ∙ (λ i. cut Reader n.reader n.by_reader (record before { cells = w i })) in
    subst (λ (u : State). n.point < length u.points) (sym first) (ins Point)

pub cut_out-requires-2-clause-apart : goal.cut_out-requires-2-clause-apart
cut_out-requires-2-clause-apart c =
    let s = state c.args.self.now in let K = c.requires.held in let n = c.get-node.result.now in let p = c.args.at.ptr in
    let t = pair_of s K p c.requires.there n c.get-node.ensures in let ins = inside_of s K p n t in
    let w : c.renew.new.self.cells ≡ c1 s K p n t.found t.linked = c.renew.ensures ∙ ap (λ (m : Node). take_out s.cells p ++ (p, m) ∷ []) c.spare_node.ensures in
    let before = record s { cells = c.renew.new.self.cells; top = Some (place p); spare = s.spare + 1; count = s.count - 1 } in
    let first : state c.cut_out.new.self ≡ cut Reader n.reader n.by_reader (s1 s K p n t.found t.linked) = c.cut_out.ensures ∙ (λ i. cut Reader n.reader n.by_reader (record before { cells = w i })) in
    subst (λ (u : State). Apart (places u.cells)) (sym first) (subst Apart (sym (places-cut_cells Reader n.by_reader (c1 s K p n t.found t.linked))) (apart1 s K p n t.found t.linked))

pub cut_out-requires-2-clause-prev : goal.cut_out-requires-2-clause-prev
cut_out-requires-2-clause-prev c =
    let s = state c.args.self.now in let K = c.requires.held in let n = c.get-node.result.now in let p = c.args.at.ptr in
    let t = pair_of s K p c.requires.there n c.get-node.ensures in let ins = inside_of s K p n t in
    let w : c.renew.new.self.cells ≡ c1 s K p n t.found t.linked = c.renew.ensures ∙ ap (λ (m : Node). take_out s.cells p ++ (p, m) ∷ []) c.spare_node.ensures in
    let before = record s { cells = c.renew.new.self.cells; top = Some (place p); spare = s.spare + 1; count = s.count - 1 } in
    let first : state c.cut_out.new.self ≡ cut Reader n.reader n.by_reader (s1 s K p n t.found t.linked) = c.cut_out.ensures ∙ (λ i. cut Reader n.reader n.by_reader (record before { cells = w i })) in
    subst (λ (u : State). FoundIf n.by_point.prev u.cells) (sym first) (Found_cut Reader n.by_reader (c1 s K p n t.found t.linked) n.by_point.prev (prev_found s K p n t.found t.linked Point (ins Point)))

pub cut_out-requires-2-clause-next : goal.cut_out-requires-2-clause-next
cut_out-requires-2-clause-next c =
    let s = state c.args.self.now in let K = c.requires.held in let n = c.get-node.result.now in let p = c.args.at.ptr in
    let t = pair_of s K p c.requires.there n c.get-node.ensures in let ins = inside_of s K p n t in
    let w : c.renew.new.self.cells ≡ c1 s K p n t.found t.linked = c.renew.ensures ∙ ap (λ (m : Node). take_out s.cells p ++ (p, m) ∷ []) c.spare_node.ensures in
    let before = record s { cells = c.renew.new.self.cells; top = Some (place p); spare = s.spare + 1; count = s.count - 1 } in
    let first : state c.cut_out.new.self ≡ cut Reader n.reader n.by_reader (s1 s K p n t.found t.linked) = c.cut_out.ensures ∙ (λ i. cut Reader n.reader n.by_reader (record before { cells = w i })) in
    subst (λ (u : State). FoundIf n.by_point.next u.cells) (sym first) (Found_cut Reader n.by_reader (c1 s K p n t.found t.linked) n.by_point.next (next_found s K p n t.found t.linked Point (ins Point)))

pub returns-clause-held : goal.returns-clause-held
returns-clause-held c =
    let s = state c.args.self.now in let K = c.requires.held in let n = c.get-node.result.now in let p = c.args.at.ptr in
    let t = pair_of s K p c.requires.there n c.get-node.ensures in let ins = inside_of s K p n t in
    let w : c.renew.new.self.cells ≡ c1 s K p n t.found t.linked = c.renew.ensures ∙ ap (λ (m : Node). take_out s.cells p ++ (p, m) ∷ []) c.spare_node.ensures in
    let before = record s { cells = c.renew.new.self.cells; top = Some (place p); spare = s.spare + 1; count = s.count - 1 } in
    let first : state c.cut_out.new.self ≡ cut Reader n.reader n.by_reader (s1 s K p n t.found t.linked) = c.cut_out.ensures ∙ (λ i. cut Reader n.reader n.by_reader (record before { cells = w i })) in
    subst Held (sym (c.cut_out-2.ensures ∙ ap (cut Point n.point n.by_point) first)) (cut_kept s K p n t.found t.linked ins)

pub returns-clause-pairs : goal.returns-clause-pairs
returns-clause-pairs c =
    let s = state c.args.self.now in let K = c.requires.held in let n = c.get-node.result.now in let p = c.args.at.ptr in
    let t = pair_of s K p c.requires.there n c.get-node.ensures in let ins = inside_of s K p n t in
    let w : c.renew.new.self.cells ≡ c1 s K p n t.found t.linked = c.renew.ensures ∙ ap (λ (m : Node). take_out s.cells p ++ (p, m) ∷ []) c.spare_node.ensures in
    let before = record s { cells = c.renew.new.self.cells; top = Some (place p); spare = s.spare + 1; count = s.count - 1 } in
    let first : state c.cut_out.new.self ≡ cut Reader n.reader n.by_reader (s1 s K p n t.found t.linked) = c.cut_out.ensures ∙ (λ i. cut Reader n.reader n.by_reader (record before { cells = w i })) in
    ap (λ (u : State). entries u.cells) (c.cut_out-2.ensures ∙ ap (cut Point n.point n.by_point) first) ∙ entries3 s K p n t.found t.linked ins
