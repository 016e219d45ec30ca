use Rattle.std.proofs.Common.{◌≡◌, ◌+◌, ◌-◌, List, [], ◌∷◌, Some, refl, sym, ap, ◌∙◌, subst}
use Rattle.std.specs.Prelude.{IsSome, Option}
use denote.RawPtr.{Ptr}
use Rattle.dep_list.specs.declared.node.Node.{Node}
use Rattle.dep_list.specs.declared.node.Side.TheVariants.{Reader, Point}
use Rattle.dep_list.specs.Cells.{places, values, Apart}
use Rattle.dep_list.specs.Lists.{place, State, state, Held, ends_at, with_link, next_to, FoundIf, pushed, pairs_of, entries}
use Rattle.dep_list.proofs.Places.{values-append}
use Rattle.dep_list.proofs.Rows.{places-alter_if}
use Rattle.dep_list.proofs.Selections.{found_alter_if}
use Rattle.dep_list.proofs.EndsLemmas.{both_inside}
use Rattle.dep_list.proofs.LinkKeeps.{top_is, spare_top, top_of, written, node, c1, s1, apart1, last_there, entries3, link_kept}
use Rattle.dep_list.proofs.lists.Lists.link.Goals as goal

pub returns-in_default-clause-pairs : goal.returns-in_default-clause-pairs
returns-in_default-clause-pairs c = absurd (spare_top (state c.args.self.now) c.requires.held c.requires.room c.in_default.is)

pub get-requires : goal.get-requires
get-requires c =
    let t = top_is (state c.args.self.now) c.requires.held c.in-Some.at c.in-Some.is in
    subst (λ (o : Option Node). IsSome o) (sym t.1.found) refl

pub push_end-requires-clause-apart : goal.push_end-requires-clause-apart
push_end-requires-clause-apart c =
    let s = state c.args.self.now in let K = c.requires.held in let n = c.get.result.now in let p = c.in-Some.at.ptr in let r = c.args.reader in let q = c.args.point in
    let t = top_of s K c.in-Some.at c.in-Some.is n c.get.ensures in let ins = both_inside s (node s K p n t r q) c.requires.reader_in c.requires.point_in in
    let w = written s K p n t r q c.ends.result c.ends-2.result c.renew.new.self.cells c.ends.ensures c.ends-2.ensures c.renew.ensures in
    subst (λ (cs : List (Ptr × Node)). Apart (places cs)) (sym w) (apart1 s K p n t r q)

pub push_end-requires-clause-there : goal.push_end-requires-clause-there
push_end-requires-clause-there c =
    let s = state c.args.self.now in let K = c.requires.held in let n = c.get.result.now in let p = c.in-Some.at.ptr in let r = c.args.reader in let q = c.args.point in
    let t = top_of s K c.in-Some.at c.in-Some.is n c.get.ensures in let ins = both_inside s (node s K p n t r q) c.requires.reader_in c.requires.point_in in
    let w = written s K p n t r q c.ends.result c.ends-2.result c.renew.new.self.cells c.ends.ensures c.ends-2.ensures c.renew.ensures in
    subst (λ (cs : List (Ptr × Node)). FoundIf (ends_at Reader r s).last cs) (sym w) (last_there s K p n t r q ins Reader)

pub push_end-requires-2-clause-apart : goal.push_end-requires-2-clause-apart
push_end-requires-2-clause-apart c =
    let s = state c.args.self.now in let K = c.requires.held in let n = c.get.result.now in let p = c.in-Some.at.ptr in let r = c.args.reader in let q = c.args.point in
    let t = top_of s K c.in-Some.at c.in-Some.is n c.get.ensures in let ins = both_inside s (node s K p n t r q) c.requires.reader_in c.requires.point_in in
    let w = written s K p n t r q c.ends.result c.ends-2.result c.renew.new.self.cells c.ends.ensures c.ends-2.ensures c.renew.ensures in
    let before = record s { cells = c.renew.new.self.cells; top = n.by_reader.next; spare = s.spare - 1; count = s.count + 1 } in
    let first : state c.push_end.new.self ≡ pushed Reader r p (s1 s K p n t r q) = c.push_end.ensures ∙ (λ i. pushed Reader r p (record before { cells = w i })) in
    subst (λ (u : State). Apart (places u.cells)) (sym first) (subst Apart (sym (places-alter_if (with_link Reader (next_to (Some (place p)))) (ends_at Reader r s).last (c1 s K p n t r q))) (apart1 s K p n t r q))

pub push_end-requires-2-clause-there : goal.push_end-requires-2-clause-there
push_end-requires-2-clause-there c =
    let s = state c.args.self.now in let K = c.requires.held in let n = c.get.result.now in let p = c.in-Some.at.ptr in let r = c.args.reader in let q = c.args.point in
    let t = top_of s K c.in-Some.at c.in-Some.is n c.get.ensures in let ins = both_inside s (node s K p n t r q) c.requires.reader_in c.requires.point_in in
    let w = written s K p n t r q c.ends.result c.ends-2.result c.renew.new.self.cells c.ends.ensures c.ends-2.ensures c.renew.ensures in
    let before = record s { cells = c.renew.new.self.cells; top = n.by_reader.next; spare = s.spare - 1; count = s.count + 1 } in
    let first : state c.push_end.new.self ≡ pushed Reader r p (s1 s K p n t r q) = c.push_end.ensures ∙ (λ i. pushed Reader r p (record before { cells = w i })) in
    subst (λ (u : State). FoundIf (ends_at Point q u).last u.cells) (sym first)
    (found_alter_if (with_link Reader (next_to (Some (place p)))) (ends_at Reader r s).last (c1 s K p n t r q) (ends_at Point q s).last (last_there s K p n t r q ins Point))

pub returns-clause-held : goal.returns-clause-held
returns-clause-held c =
    let s = state c.args.self.now in let K = c.requires.held in let n = c.get.result.now in let p = c.in-Some.at.ptr in let r = c.args.reader in let q = c.args.point in
    let t = top_of s K c.in-Some.at c.in-Some.is n c.get.ensures in let ins = both_inside s (node s K p n t r q) c.requires.reader_in c.requires.point_in in
    let w = written s K p n t r q c.ends.result c.ends-2.result c.renew.new.self.cells c.ends.ensures c.ends-2.ensures c.renew.ensures in
    let before = record s { cells = c.renew.new.self.cells; top = n.by_reader.next; spare = s.spare - 1; count = s.count + 1 } in
    let first : state c.push_end.new.self ≡ pushed Reader r p (s1 s K p n t r q) = c.push_end.ensures ∙ (λ i. pushed Reader r p (record before { cells = w i })) in
    subst Held (sym (c.push_end-2.ensures ∙ ap (pushed Point q p) first)) (link_kept s K p n t r q ins)

pub returns-clause-pairs : goal.returns-clause-pairs
returns-clause-pairs c =
    let s = state c.args.self.now in let K = c.requires.held in let n = c.get.result.now in let p = c.in-Some.at.ptr in let r = c.args.reader in let q = c.args.point in
    let t = top_of s K c.in-Some.at c.in-Some.is n c.get.ensures in let ins = both_inside s (node s K p n t r q) c.requires.reader_in c.requires.point_in in
    let w = written s K p n t r q c.ends.result c.ends-2.result c.renew.new.self.cells c.ends.ensures c.ends-2.ensures c.renew.ensures in
    let before = record s { cells = c.renew.new.self.cells; top = n.by_reader.next; spare = s.spare - 1; count = s.count + 1 } in
    let first : state c.push_end.new.self ≡ pushed Reader r p (s1 s K p n t r q) = c.push_end.ensures ∙ (λ i. pushed Reader r p (record before { cells = w i })) in
    ap pairs_of (c.push_end-2.ensures ∙ ap (pushed Point q p) first) ∙ ap values (entries3 s K p n t r q ins) ∙ values-append (entries s.cells) ((p, (r, q)) ∷ [])
