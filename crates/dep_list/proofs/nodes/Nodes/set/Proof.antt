-- `set` writes the node at `at`. Assumes `Logic`.
use Rattle.std.proofs.Common.{◌≡◌, Some, [], ◌∷◌, refl, sym, ap}
use Rattle.std.proofs.raw_atomic.Walks.{proved}
use base.Fraction.{full_share}
use base.Fml.{ftrue, fat, flft}
use mir.Syntax.{named}
use mir.Val.{Val, vunit}
use contract.Running.{tables}
use types.Kit.{‵, raw, ◌⊛◌, some, given, at_ret, ◌$◌, ◌∵◌, !, qed, done, move, keep, drop, use1, use2, split, join, fsplit, fsplit3, fjoin, feq_i, pick, learn, rewrite, suffices, frame, group}
use types.Run.{enter, of_opd, unit_lit, store, stop, fld, assigns_last, first, blocks, exec, returns}
use types.Part.{whole, sub}
use types.ByLocal.{alloc_all, pass_all, free_all, look_at, get, get_in, is, through, sets, env}
use denote.Exit.{yes}
use denote.Memory.{lone}
use denote.RawPtr.{Ptr, block_ptr, ptr_val, lies_at, in_a_block}
use denote.Ref.{MutRef, mut_vals, mut_Tells}
use denote.Signature.{plain}
use denote.Steps.{nothing, opens, closes, heard}
use denote.Triple.Walked.{Stays, walk_of, says, stay_dropped, Goes-dropped, stay_ref, Goes-ref, ends_at}
use borrow.Table.OneValue.{part_in, part_out}
use Rattle.std.proofs.VecSteps.Shapes.{after}
use Rattle.std_alloc.specs.Box.Ownership.{box_owns}
use Rattle.dep_list.specs.declared.node.Node.{Node}
use Rattle.dep_list.specs.contracts.nodes.Nodes.{the_row as R}
use Rattle.dep_list.specs.contracts.node.Node.{the_row as NodeRow}
use Rattle.dep_list.specs.contracts.node.Place.{the_row as PlaceRow}
use Rattle.dep_list.specs.contracts.nodes.Nodes.set as f
use Rattle.dep_list.specs.Cells.{find, put, take_out}
use Rattle.dep_list.specs.Ownership.{chunk, cells_own}
use Rattle.dep_list.proofs.node.Node.TheLaws as node_laws
use Rattle.dep_list.proofs.node.Place.TheLaws as place_laws
use Rattle.dep_list.proofs.Memory.{cell_cut, cell_glue, no_box}
use Rattle.dep_list.proofs.nodes.Nodes.set.Statement.{statement}
use Rattle.dep_list.proofs.nodes.Nodes.set.Code as code

abbrev stayed : Stays f.ended.signature.params f.ended.kept
stayed = (stay_ref (0 ∷ []) tt (plain (λ _. R)), (stay_dropped _ yes, (stay_dropped _ yes, tt)))

pub set_spec : {M : Type 1} → statement M
set_spec 𝓤 𝓛 𝓜 𝓡 wired =
    let c = f.clauses 𝓛 𝓜.mem 𝓡.returns in let W = walk_of 𝓛 f.ended stayed c in let 𝓣 = tables 𝓤 𝓛.H 𝓜 𝓡 𝓡.env in
    proved 𝓛 f.ended stayed c 𝓜 𝓡 (Goes-ref 𝓛 1 0 tt (plain (λ _. R)), (Goes-dropped 𝓛 1 (plain (λ _. PlaceRow)) yes (λ κs x w. refl), (Goes-dropped 𝓛 1 (plain (λ _. NodeRow)) yes (λ κs x w. refl), tt)))
    f.Key.name code.function (code.unfolded 𝓤 𝓛.H 𝓜 𝓡 wired)
    (λ κs. (mut_vals, ((λ p. place_laws.lowered p ∷ []), ((λ n. node_laws.lowered n ∷ []), tt)))) (λ κs. (mut_Tells (named 0) κs.0 R, (place_laws.lowers.val_is, (node_laws.lowers.val_is, tt)))) (λ κs qs bounds a _ are.
    let b = a.0.ref_ptr.0 in let o = a.0.ref_ptr.1 in let d = a.0.now in let at = a.1.0.ptr in let node = a.1.1.0 in let vs = mut_vals a.0 in
    let pv = place_laws.lowered a.1.0 ∷ [] in let nv = node_laws.lowered node ∷ [] in
    let good = ((node_laws.the_row_laws.lawful 𝓛).typed node nv are.1.1.0).0 in
    let y : W.Ghost = ((κs, qs, bounds, a, (vs, (pv, (nv, tt)))), tt) in
    qed 𝓛 (((‵ (flft κs.0 qs.0) ⊛ ‵ ftrue) ⊛ ‵ ((MutRef (named 0) κs.0 R).own_val a.0 vs) ⊛ ‵ (PlaceRow.own_val a.1.0 pv) ⊛ ‵ (NodeRow.own_val node nv) ⊛ ‵ ftrue) ∷ raw ((c κs a).requires y.1) ∷ []) ∵
    split ! $ split ! $ move ! (2 ∷ []) $ split ! $ move ! (4 ∷ []) $ heard ! _ (λ there. move ! (1 ∷ []) $ split ! $ move ! (1 ∷ []) $ split ! $ keep ! (3 ∷ 0 ∷ 4 ∷ []) $
    -- [self; what the node owns; the token]
    enter ! _ _ _ _ _ $ alloc_all ! (λ l. pass_all ! refl ((tt, tt), (((place_laws.the_row_laws.lawful 𝓛).typed a.1.0 pv are.1.0).0, (good, tt))) $
    fsplit3 ! $ move ! (1 ∷ 2 ∷ 4 ∷ []) $ opens ! tt R b o (λ us. move ! (1 ∷ []) $ fsplit ! $ move ! (1 ∷ []) $
    use1 𝓛 (some (λ (n : Node). given (find d.cells at ≡ Some n) (‵ (box_owns chunk NodeRow at n) ⊛ ‵ (cells_own (take_out d.cells at))))) (cell_cut 𝓛 d.cells at there) $ pick ! (λ old. learn ! (λ found. split ! $
    in_a_block ! at (λ p. box_owns chunk NodeRow p old) (no_box 𝓛 old) (λ pb po e. fsplit ! $
    use1 𝓛 (some (λ (v : Val). ‵ (fat full_share (lone NodeRow.mir) pb po v) ⊛ ‵ (NodeRow.own_val old (v ∷ [])))) (part_out 𝓛 NodeRow refl full_share old pb po) $ pick ! (λ v. split ! $ move ! (1 ∷ []) $ drop ! $
    -- [the node's cell; the right to free it; the other nodes; what the fields own; self's cell; the open borrow, in three entries; self's first part; what the node owns]
    sets ! (is ! (of_opd ! (get_in ! (fld ! refl (stop !)) (sub ! 0 refl (whole !)))) (ap ptr_val e)) refl (tt, tt) $ first ! $ blocks ! $
    assigns_last ! (of_opd ! (get ! refl)) (through ! refl (stop !)) (store ! 0 refl good) $
    exec ! 𝓣.C 𝓣.Λ (env code.Mir.locals l) (after 2 (code.function).body) (at_ret _ (W.post y)) $ sets ! (of_opd ! (unit_lit !)) refl (tt, tt) $
    move ! (0 ∷ 9 ∷ []) $ use2 𝓛 (‵ (lies_at NodeRow full_share (block_ptr pb po) node)) (part_in 𝓛 NodeRow refl full_share node pb po (node_laws.lowered node)) $
    fjoin ! $ rewrite ! 0 (λ (p : Ptr). ‵ (box_owns chunk NodeRow p node)) (sym e) refl $ use2 𝓛 (‵ (cells_own (put d.cells at node))) (cell_glue 𝓛 d.cells at node there) $
    move ! (1 ∷ []) $ fjoin ! $ move ! (1 ∷ []) $ closes ! tt R (record d { cells = put d.cells at node }) us b o $
    -- [two parts of self; the token; self's first part]
    returns ! (look_at ! 0 refl) $ free_all ! refl $ move ! (3 ∷ []) $
    suffices ! _ (ends_at 𝓛 f.ended stayed c y vunit tt (record d { cells = put d.cells at node }, (tt, (tt, tt))) (tt, (tt, (tt, tt)))) $ says ! refl $
    group ! 3 $ nothing ! $ nothing ! $ join ! $ nothing ! $ join ! $ move ! (1 ∷ 0 ∷ []) $ join ! $ nothing ! $ move ! (2 ∷ 0 ∷ []) $ join ! $ frame ! $ frame ! $
    feq_i ! _ (vunit ∷ []) _ refl $ done !))))))))
