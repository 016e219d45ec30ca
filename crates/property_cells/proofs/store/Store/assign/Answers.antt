use Rattle.std.proofs.Common.{◌≡◌, ◌<◌, List, Option, length, get_or, Some, None, refl, sym, ap, ◌∙◌, subst, arith, get_or-set_same, get_or-set_other}
use Rattle.std.proofs.Math.ListN.{length-set}
use Rattle.std.specs.Option.{option_copied}
use Rattle.value_types.specs.declared.values.Value.{Value}
use Rattle.property_cells.specs.Marks.{pending, state_at}
use Rattle.property_cells.specs.Net.{cell_in, value_of, Replaces}
use Rattle.property_cells.specs.Store.{cell_of, seen}
use Rattle.property_cells.proofs.Seen.{seen_inside, seen_at}
use Rattle.property_cells.proofs.AssignHeld.{inside_without, net_without, held_assigned, assigns, Replaces-same}
use Rattle.property_cells.proofs.store.Store.assign.Goals as goal

pub unlink_reader-requires : goal.unlink_reader-requires
unlink_reader-requires c = let h = seen_inside c.args.self.now c.requires.held c.args.cell c.requires.live in let r = c.requires.held.room.readers in omega (arith, h, r)

pub value_at-old-requires-clause-cell : goal.value_at-old-requires-clause-cell
value_at-old-requires-clause-cell c = seen_inside c.args.self.now c.requires.held c.args.cell c.requires.live

pub value_at-old-requires-clause-value : goal.value_at-old-requires-clause-value
value_at-old-requires-clause-value c =
    let h = seen_inside c.args.self.now c.requires.held c.args.cell c.requires.live in let r = c.requires.held.room.values in
    let e : length c.as_slice.result.now ≡ length c.args.self.now.values.items = ap (λ (l : List (Option Value)). length l) c.as_slice.ensures.value in omega (arith, h, r, e)

pub follow_value-requires-clause-inside : goal.follow_value-requires-clause-inside
follow_value-requires-clause-inside c = seen_inside c.args.self.now c.requires.held c.args.cell c.requires.live

pub follow_value-requires-clause-readers : goal.follow_value-requires-clause-readers
follow_value-requires-clause-readers c = inside_without c.args.self.now c.requires.held c.args.cell c.unlink_reader.new.self.pairs c.unlink_reader.ensures.pairs

pub follow_value-requires-clause-net : goal.follow_value-requires-clause-net
follow_value-requires-clause-net c = net_without c.args.self.now c.requires.held c.args.cell c.unlink_reader.new.self.pairs c.unlink_reader.ensures.pairs (λ x. ⊥)

pub set-requires : goal.set-requires
set-requires c = subst (λ k. c.args.cell < k) (sym c.follow_value.ensures.cells) (seen_inside c.args.self.now c.requires.held c.args.cell c.requires.live)

pub index_mut-requires : goal.index_mut-requires
index_mut-requires c =
    let s = c.args.self.now in let h = seen_inside s c.requires.held c.args.cell c.requires.live in let r = c.requires.held.room.values in let l = s.values.ok.0 in omega (arith, h, r, l)

pub returns-clause-held : goal.returns-clause-held
returns-clause-held c =
    let s = c.args.self.now in
    let inside : c.args.cell < length s.values.items = (let h = seen_inside s c.requires.held c.args.cell c.requires.live in let r = c.requires.held.room.values in omega (arith, h, r)) in
    held_assigned s _ c.requires.held c.args.cell c.args.value c.requires.live c.requires.idle c.unlink_reader.ensures.pairs c.unlink_reader.ensures.ends (pending c.follow_value.new.self)
    (Replaces (option_copied c.value_at-old.result) c.args.value c.args.new_keys) c.follow_value.ensures.unmade c.follow_value.ensures.none c.follow_value.ensures.cells c.set.ensures refl refl
    (get_or-set_same s.values.items c.args.cell (Some c.args.value) None inside) (λ d n. get_or-set_other s.values.items c.args.cell d (Some c.args.value) None n) (length-set s.values.items c.args.cell (Some c.args.value)) refl

pub returns-clause-assigns : goal.returns-clause-assigns
returns-clause-assigns c =
    let s = c.args.self.now in
    let inside : c.args.cell < length s.values.items = (let h = seen_inside s c.requires.held c.args.cell c.requires.live in let r = c.requires.held.room.values in omega (arith, h, r)) in
    let e = c.value_at-old.ensures ∙ (λ i. value_of (cell_of (state_at s.marks.cells.items c.args.cell) (get_or (c.as_slice.ensures.value i) c.args.cell None))) ∙ ap value_of (sym (seen_at s c.requires.held c.args.cell)) in
    assigns s _ c.requires.held c.args.cell c.args.value c.requires.live c.requires.idle c.unlink_reader.ensures.pairs c.unlink_reader.ensures.ends (pending c.follow_value.new.self)
    (Replaces (option_copied c.value_at-old.result) c.args.value c.args.new_keys) c.follow_value.ensures.unmade c.follow_value.ensures.none c.follow_value.ensures.cells c.set.ensures refl refl
    (get_or-set_same s.values.items c.args.cell (Some c.args.value) None inside) (λ d n. get_or-set_other s.values.items c.args.cell d (Some c.args.value) None n) (length-set s.values.items c.args.cell (Some c.args.value)) refl
    (returns-clause-held c) c.args.new_keys (Replaces-same (option_copied c.value_at-old.result) (value_of (cell_in (seen s) c.args.cell)) c.args.value c.args.new_keys e) refl
