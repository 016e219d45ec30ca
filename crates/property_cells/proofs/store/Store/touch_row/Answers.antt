use Rattle.std.proofs.Common.{◌<◌, false, length, Some, None, inl, refl, sym, ap, ◌∙◌, subst, arith, get_or-set_same, get_or-set_other}
use Rattle.std.proofs.Math.ListN.{set, length-set}
use Rattle.std.proofs.lemmas.List.{get_or_read}
use Rattle.value_types.specs.declared.values.Value.TheVariants.{Array}
use Rattle.property_cells.specs.declared.changes.Change.TheVariants.{Item}
use Rattle.property_cells.specs.Marks.{pending}
use Rattle.property_cells.specs.Changed.{Changed}
use Rattle.property_cells.specs.Net.{cell_in, array_of, value_of}
use Rattle.property_cells.specs.Store.{seen}
use Rattle.property_cells.proofs.AssignHeld.{inside_without, net_without, held_assigned, assigns}
use Rattle.property_cells.proofs.TouchHeld.{touched_live, touched_inside, touched_some, touched_is, touch_same}
use Rattle.property_cells.proofs.store.Store.touch_row.Goals as goal

pub index_mut-requires : goal.index_mut-requires
index_mut-requires c = let s = c.args.self.now in let h = (touched_inside s c.requires.held c.args.cell c.args.row c.requires.inside).1 in let l = s.values.ok.0 in omega (arith, h, l)

pub returns-in_default-clause-assigns : goal.returns-in_default-clause-assigns
returns-in_default-clause-assigns c =
    let s = c.args.self.now in let t = touched_some s c.requires.held c.args.cell c.args.row c.requires.inside in let h = (touched_inside s c.requires.held c.args.cell c.args.row c.requires.inside).1 in
    absurd (c.in_default.not-Some t.0 (c.take.ensures.value ∙ get_or_read s.values.items c.args.cell c.index_mut.result.now h c.index_mut.ensures.value None ∙ t.1))

pub with_item-new-requires : goal.with_item-new-requires
with_item-new-requires c =
    let s = c.args.self.now in let h = (touched_inside s c.requires.held c.args.cell c.args.row c.requires.inside).1 in
    let read = sym (get_or_read s.values.items c.args.cell c.index_mut.result.now h c.index_mut.ensures.value None) ∙ sym c.take.ensures.value ∙ c.in-Some.is in
    subst (λ l. c.args.row < length l) (touched_is s c.requires.held c.args.cell c.args.row c.requires.inside c.in-Some.old read).1 c.requires.inside

pub index_mut-requires-2 : goal.index_mut-requires-2
index_mut-requires-2 c = let s = c.args.self.now in let h = (touched_inside s c.requires.held c.args.cell c.args.row c.requires.inside).1 in let l = s.values.ok.0 in omega (arith, h, l)

pub unlink_reader-requires : goal.unlink_reader-requires
unlink_reader-requires c = let s = c.args.self.now in let h = (touched_inside s c.requires.held c.args.cell c.args.row c.requires.inside).0 in let r = c.requires.held.room.readers in omega (arith, h, r)

pub follow-requires-clause-inside : goal.follow-requires-clause-inside
follow-requires-clause-inside c = (touched_inside c.args.self.now c.requires.held c.args.cell c.args.row c.requires.inside).0

pub follow-requires-clause-readers : goal.follow-requires-clause-readers
follow-requires-clause-readers c = inside_without c.args.self.now c.requires.held c.args.cell c.unlink_reader.new.self.pairs c.unlink_reader.ensures.pairs

pub follow-requires-clause-net : goal.follow-requires-clause-net
follow-requires-clause-net c = let n = net_without c.args.self.now c.requires.held c.args.cell c.unlink_reader.new.self.pairs c.unlink_reader.ensures.pairs (λ x. ⊥) in record { stands = n.stands; bare = n.bare }

pub set-requires : goal.set-requires
set-requires c = subst (λ k. c.args.cell < k) (sym c.follow.ensures.cells) (touched_inside c.args.self.now c.requires.held c.args.cell c.args.row c.requires.inside).0

pub returns-clause-held : goal.returns-clause-held
returns-clause-held c =
    let s = c.args.self.now in let K = c.requires.held in let vs = s.values.items in let cell = c.args.cell in
    let h = (touched_inside s K cell c.args.row c.requires.inside).1 in
    let read = sym (get_or_read vs cell c.index_mut.result.now h c.index_mut.ensures.value None) ∙ sym c.take.ensures.value ∙ c.in-Some.is in
    let t = touched_is s K cell c.args.row c.requires.inside c.in-Some.old read in
    let mid = set vs cell c.take.new.self in
    let long = length-set vs cell c.take.new.self in
    held_assigned s _ K cell (Array (set (array_of (cell_in (seen s) cell)) c.args.row c.args.value)) (touched_live s K cell c.args.row c.requires.inside) (inl c.requires.idle) c.unlink_reader.ensures.pairs c.unlink_reader.ensures.ends (pending c.follow.new.self)
    (Changed (Item c.args.row c.with_item-new.result.1)) c.follow.ensures.unmade c.follow.ensures.none c.follow.ensures.cells c.set.ensures refl refl
    (get_or-set_same mid cell (Some c.with_item-new.result.0) None (subst (λ k. cell < k) (sym long) h) ∙ ap Some (c.with_item-new.ensures.value ∙ ap (λ l. Array (set l c.args.row c.args.value)) (sym t.1)))
    (λ d n. get_or-set_other mid cell d (Some c.with_item-new.result.0) None n ∙ get_or-set_other vs cell d c.take.new.self None n)
    (length-set mid cell (Some c.with_item-new.result.0) ∙ long) refl

pub returns-clause-assigns : goal.returns-clause-assigns
returns-clause-assigns c =
    let s = c.args.self.now in let K = c.requires.held in let vs = s.values.items in let cell = c.args.cell in
    let h = (touched_inside s K cell c.args.row c.requires.inside).1 in
    let read = sym (get_or_read vs cell c.index_mut.result.now h c.index_mut.ensures.value None) ∙ sym c.take.ensures.value ∙ c.in-Some.is in
    let t = touched_is s K cell c.args.row c.requires.inside c.in-Some.old read in
    let mid = set vs cell c.take.new.self in
    let long = length-set vs cell c.take.new.self in
    assigns s _ K cell (Array (set (array_of (cell_in (seen s) cell)) c.args.row c.args.value)) (touched_live s K cell c.args.row c.requires.inside) (inl c.requires.idle) c.unlink_reader.ensures.pairs c.unlink_reader.ensures.ends (pending c.follow.new.self)
    (Changed (Item c.args.row c.with_item-new.result.1)) c.follow.ensures.unmade c.follow.ensures.none c.follow.ensures.cells c.set.ensures refl refl
    (get_or-set_same mid cell (Some c.with_item-new.result.0) None (subst (λ k. cell < k) (sym long) h) ∙ ap Some (c.with_item-new.ensures.value ∙ ap (λ l. Array (set l c.args.row c.args.value)) (sym t.1)))
    (λ d n. get_or-set_other mid cell d (Some c.with_item-new.result.0) None n ∙ get_or-set_other vs cell d c.take.new.self None n)
    (length-set mid cell (Some c.with_item-new.result.0) ∙ long) refl (returns-clause-held c) false
    (touch_same c.in-Some.old c.args.row c.args.value c.with_item-new.result.1 (subst (λ l. c.args.row < length l) t.1 c.requires.inside) c.with_item-new.ensures.differs c.with_item-new.ensures.was (value_of (cell_in (seen s) cell)) t.0 (array_of (cell_in (seen s) cell)) t.1) refl
