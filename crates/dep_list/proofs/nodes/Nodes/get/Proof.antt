-- `get` shows the node at `at`, which the owner lends. Assumes `Logic`.
use Rattle.std.proofs.Common.{◌≡◌, Some, List, [], ◌∷◌, refl}
use Rattle.std.proofs.raw_atomic.Walks.{proved}
use base.Fraction.{full_share}
use base.Logic.{never, fst∗}
use base.Fml.{ftrue, fat, flft}
use mir.Syntax.{named}
use mir.Val.{Val, vptr}
use contract.Running.{tables}
use types.Logic.{sem}
use types.Kit.{‵, raw, ◌⊛◌, some, given, at_ret, ◌$◌, ◌∵◌, !, qed, done, move, keep, drop, use1, split, join, fsplit, fjoin, feq_i, pick, learn, rewrite, suffices, frame}
use types.Run.{enter, of_opd, addr, from, stop, fld, hop, first, blocks, exec, returns}
use types.Part.{whole, sub}
use types.ByLocal.{alloc_all, pass_all, free_all, look_at, look_in_at, get, sets, sets_last, take_at, give_at, env}
use denote.Builtin.{RefOf}
use denote.Exit.{yes}
use denote.Memory.{lone, shared_of}
use denote.Opens.{hide, unhide}
use denote.RawPtr.{Ptr, in_a_block}
use denote.Ref.{ShrRef, shr_vals, shr_Tells}
use denote.Signature.{plain}
use denote.Steps.{nothing, heard}
use denote.Struct.Lending.{lent_at}
use denote.Triple.Walked.{Stays, walk_of, says, stay_dropped, Goes-dropped, ends_at}
use Rattle.std.proofs.VecSteps.Shapes.{after}
use Rattle.dep_list.specs.declared.node.Node.{Node}
use Rattle.dep_list.specs.contracts.nodes.Nodes.{the_row as R}
use Rattle.dep_list.specs.contracts.node.Node.{the_row as NodeRow}
use Rattle.dep_list.specs.contracts.node.Place.{the_row as PlaceRow}
use Rattle.dep_list.specs.contracts.nodes.Nodes.get as f
use Rattle.dep_list.specs.Cells.{find}
use Rattle.dep_list.proofs.node.Place.TheLaws as place_laws
use Rattle.dep_list.proofs.Memory.{cell_seen}
use Rattle.dep_list.proofs.nodes.Nodes.get.Statement.{statement}
use Rattle.dep_list.proofs.nodes.Nodes.get.Code as code

abbrev stayed : Stays f.ended.signature.params f.ended.kept
stayed = (stay_dropped _ yes, (stay_dropped _ yes, tt))

pub get_spec : {M : Type 1} → statement M
get_spec 𝓤 𝓛 𝓜 𝓡 wired =
    let c = f.clauses 𝓛 𝓜.mem 𝓡.returns in let W = walk_of 𝓛 f.ended stayed c in let 𝓣 = tables 𝓤 𝓛.H 𝓜 𝓡 𝓡.env in
    proved 𝓛 f.ended stayed c 𝓜 𝓡 (Goes-dropped 𝓛 1 (RefOf (0 ∷ []) tt (plain (λ _. R)) (λ _. tt)) yes (λ κs x w. refl), (Goes-dropped 𝓛 1 (plain (λ _. PlaceRow)) yes (λ κs x w. refl), tt))
    f.Key.name code.function (code.unfolded 𝓤 𝓛.H 𝓜 𝓡 wired)
    (λ κs. (shr_vals, ((λ p. place_laws.lowered p ∷ []), tt))) (λ κs. (shr_Tells (named 0) κs.0 R, (place_laws.lowers.val_is, tt))) (λ κs qs bounds a _ are.
    let κ = κs.0 in let b = a.0.ref_ptr.0 in let o = a.0.ref_ptr.1 in let d = a.0.now in let at = a.1.0.ptr in let vs = shr_vals a.0 in let pv = place_laws.lowered a.1.0 ∷ [] in
    let y : W.Ghost = ((κs, qs, bounds, a, (vs, (pv, tt))), tt) in
    qed 𝓛 (((‵ (flft κ qs.0) ⊛ ‵ ftrue) ⊛ ‵ ((ShrRef (named 0) κ R).own_val a.0 vs) ⊛ ‵ (PlaceRow.own_val a.1.0 pv) ⊛ ‵ ftrue) ∷ raw ((c κs a).requires y.1) ∷ []) ∵
    split ! $ split ! $ move ! (2 ∷ []) $ split ! $ move ! (4 ∷ []) $ heard ! _ (λ there. keep ! (0 ∷ 2 ∷ []) $ fsplit ! $ keep ! (1 ∷ 2 ∷ []) $
    -- [self, hidden; the token]
    enter ! _ _ _ _ _ $ alloc_all ! (λ l. pass_all ! refl ((tt, tt), (((place_laws.the_row_laws.lawful 𝓛).typed a.1.0 pv are.1.0).0, tt)) $
    unhide ! $ fsplit ! $ drop ! $
    use1 𝓛 (some (λ (n : Node). given (find d.cells at ≡ Some n) (‵ (lent_at NodeRow at n κ)))) (cell_seen 𝓛 κ d.cells at there) $ pick ! (λ n. learn ! (λ found.
    in_a_block ! at (λ p. lent_at NodeRow p n κ) (fst∗ 𝓤 (never 𝓤) (sem 𝓛 (shared_of NodeRow n 0 0 κ))) (λ pb po e. fsplit ! $ drop ! $ hide ! $
    -- [the node, hidden; the token]
    take_at ! 2 $ rewrite ! 0 (λ (p : Ptr). ‵ (fat full_share (lone PlaceRow.mir) (l 2) 0 (place_laws.lowered (record { ptr = p })))) e refl $ give_at ! 2 $
    first ! $ blocks ! $ sets_last ! (addr ! (from ! (fld ! refl (hop ! (look_in_at ! 2 (sub ! 0 refl (whole !))) (stop !))))) refl (tt, tt) $
    exec ! 𝓣.C 𝓣.Λ (env code.Mir.locals l) (after 1 (code.function).body) (at_ret _ (W.post y)) $ sets ! (of_opd ! (get ! refl)) refl (tt, tt) $
    feq_i ! (List Val) (vptr pb po ∷ []) (vptr pb po ∷ []) refl $ fjoin ! $
    returns ! (look_at ! 0 refl) $ free_all ! refl $ keep ! (1 ∷ 0 ∷ []) $
    suffices ! _ (ends_at 𝓛 f.ended stayed c y (vptr pb po) (record { ref_ptr = (pb, po); now = n }) (tt, (tt, tt)) (tt, (tt, tt))) $ says ! found $
    nothing ! $ move ! (1 ∷ 0 ∷ []) $ join ! $ frame ! $ nothing ! $ nothing ! $ fjoin ! $ nothing ! $ fjoin ! $ done !))))))
