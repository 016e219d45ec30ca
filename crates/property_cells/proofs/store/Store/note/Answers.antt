use Rattle.std.proofs.Common.{◌∷◌, ◌++◌, [], ℕ, List, inl, refl, sym, ap, ◌∙◌, subst, arith}
use Rattle.dep_list.specs.Pairs.{In}
use Rattle.property_cells.proofs.HitsLoop.{not_true}
use Rattle.property_cells.proofs.RunHeld.{note_inside, held_noted, notes_new, notes_there}
use Rattle.property_cells.proofs.store.Store.note.Goals as goal

pub returns-then-has-clause-ok : goal.returns-then-has-clause-ok
returns-then-has-clause-ok c =
    let s = c.args.self.now in
    notes_there s c.requires.held c.args.reader c.args.point (subst (In c.args.reader) (sym c.requires.runs.1) (inl refl)) c.requires.inside c.requires.runs.0 c.requires.runs.1 (c.has.ensures.0 c.if-has.true)

pub link-requires-clause-reader : goal.link-requires-clause-reader
link-requires-clause-reader c =
    let s = c.args.self.now in
    let h = note_inside s c.requires.held c.args.reader c.args.point (subst (In c.args.reader) (sym c.requires.runs.1) (inl refl)) c.requires.inside in
    let r = c.requires.held.room.readers in let e = c.in_ok-reserve.ensures.ends.readers in omega (arith, h, r, e)

pub returns-clause-held : goal.returns-clause-held
returns-clause-held c =
    let s = c.args.self.now in
    held_noted s c.requires.held c.args.reader c.args.point (subst (In c.args.reader) (sym c.requires.runs.1) (inl refl)) c.requires.inside _ c.requires.stands
    (λ i. not_true c.has.result c.if-has.false (c.has.ensures.1 i))
    (c.link.ensures.pairs ∙ ap (λ (l : List (ℕ × ℕ)). l ++ (c.args.reader, c.args.point) ∷ []) c.in_ok-reserve.ensures.pairs)
    (record { readers = c.link.ensures.ends.readers ∙ c.in_ok-reserve.ensures.ends.readers; points = c.link.ensures.ends.points ∙ c.in_ok-reserve.ensures.ends.points })
    refl refl refl refl refl

pub returns-clause-ok : goal.returns-clause-ok
returns-clause-ok c =
    let s = c.args.self.now in
    notes_new s c.requires.held c.args.reader c.args.point (subst (In c.args.reader) (sym c.requires.runs.1) (inl refl)) c.requires.inside _ c.requires.stands
    (λ i. not_true c.has.result c.if-has.false (c.has.ensures.1 i))
    (c.link.ensures.pairs ∙ ap (λ (l : List (ℕ × ℕ)). l ++ (c.args.reader, c.args.point) ∷ []) c.in_ok-reserve.ensures.pairs)
    (record { readers = c.link.ensures.ends.readers ∙ c.in_ok-reserve.ensures.ends.readers; points = c.link.ensures.ends.points ∙ c.in_ok-reserve.ensures.ends.points })
    refl refl refl refl refl c.requires.runs.0 c.requires.runs.1 (returns-clause-held c) refl
