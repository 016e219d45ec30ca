-- `release` gives a node away. Assumes `Logic`.
use Rattle.std.proofs.Common.{◌≡◌, Some, List, [], ◌∷◌, ◌++◌, refl, sym, subst}
use Rattle.std.specs.Prelude.{IsSome}
use Rattle.std.proofs.raw_atomic.Walks.{proved_at}
use base.Fraction.{full_share}
use base.Logic.{SProp, ent, id⊢}
use base.Fml.{ftrue, flft, fat}
use mir.Val.{Val, vptr}
use prog.Wp.{WpFn}
use contract.Running.{tables}
use types.Kit.{‵, raw, ◌⊛◌, some, given, ◌$◌, ◌∵◌, !, qed, done, move, keep, use1, split, join, fsplit, fsplit3, fjoin, fjoin3, feq_i, feq_l, pick, learn, rewrite, suffices, frame}
use types.Run.{enter, and_then, no_more, stop, fld, returns}
use types.Part.{whole, sub, agg}
use types.ByLocal.{alloc_all, pass_all, free_all, look_at, get, get_in, sets, take_at, give_at}
use denote.Exit.{yes}
use denote.Memory.{lone}
use denote.RattleType.{owns}
use denote.RawPtr.{Ptr, block_ptr, in_a_block}
use denote.Signature.{plain, types_at}
use denote.Steps.{nothing, opens, closes, heard}
use denote.Triple.Walked.{Stays, walk_of, stay_dropped, stay_ref, Goes-ref, Goes-dropped, ends_at}
use Rattle.core.proofs.alloc.Calls.{handle_tells}
use Rattle.std_alloc.proofs.RcSteps.{word, word-Good}
use Rattle.std_alloc.specs.Box.Ownership.{box_owns}
use Rattle.std.specs.contracts.alloc.Global as heap
use Rattle.std.proofs.alloc.Global.TheLaws as heap_laws
use Rattle.std.specs.contracts.impls.GlobalAllocator.TheImpl.{ghosts}
use Rattle.dep_list.specs.declared.node.Node.{Node}
use Rattle.dep_list.specs.contracts.nodes.Nodes.{the_row as R}
use Rattle.dep_list.specs.contracts.node.Node.{the_row as NodeRow}
use Rattle.dep_list.specs.contracts.node.Place.{the_row as PlaceRow}
use Rattle.dep_list.specs.contracts.nodes.Nodes.release as f
use Rattle.dep_list.specs.Cells.{find, take_out}
use Rattle.dep_list.specs.Ownership.{chunk, cells_own}
use Rattle.dep_list.proofs.Memory.{cell_cut, no_box, says_both, word_had}
use Rattle.dep_list.proofs.Values.{al, both, loose_good, loose_in}
use Rattle.dep_list.proofs.nodes.Nodes.release.Statement.{statement}
use Rattle.dep_list.proofs.nodes.Nodes.release.Code as code

pub release_spec : {M : Type 1} → statement M
release_spec 𝓤 𝓛 𝓜 𝓡 wired =
    let c = f.clauses 𝓛 𝓜.mem 𝓡.returns in let 𝓣 = tables 𝓤 𝓛.H 𝓜 𝓡 𝓡.env in let fn = code.function in let L = heap_laws.the_row_laws in
    let hs : Stays f.ended.signature.params f.ended.kept = (stay_ref (0 ∷ []) tt (plain (λ _. R)), (stay_dropped (plain (λ _. PlaceRow)) yes, (stay_dropped (plain (λ _. heap.the_row)) yes, tt))) in
    proved_at 𝓛 f.ended hs c 𝓜 𝓡 (Goes-ref 𝓛 1 0 tt (plain (λ _. R)), (Goes-dropped 𝓛 1 (plain (λ _. PlaceRow)) yes (λ κs x w. refl), (Goes-dropped 𝓛 1 (plain (λ _. heap.the_row)) yes (λ κs x w. refl), tt)))
    f.Key.name fn (code.unfolded 𝓤 𝓛.H 𝓜 𝓡 wired) (λ z are.
    let κs = z.0.0 in let qs = z.0.1 in let self = z.0.3.0 in let at = z.0.3.1.0.ptr in let alloc = z.0.3.1.1.0 in let b = self.ref_ptr.0 in let o = self.ref_ptr.1 in let d = self.now in
    let Post : Val → SProp 𝓤 = (walk_of 𝓛 f.ended hs c).post z in let Run : List Val → SProp 𝓤 = λ ws. WpFn 𝓤 𝓛.H 𝓣.C 𝓣.Λ fn ws Post in
    qed 𝓛 (((‵ (flft κs.0 qs.0) ⊛ ‵ ftrue) ⊛ ‵ (owns (types_at f.ended.signature.params κs) z.0.3 z.0.4)) ∷ raw ((c κs z.0.3).requires z.1) ∷ []) ∵
    split ! $ move ! (2 ∷ []) $ heard ! (IsSome (find d.cells at)) (λ there. move ! (1 ∷ []) $ fsplit ! $ fsplit3 ! $ feq_l ! (λ e0. move ! (2 ∷ []) $ fsplit ! $ word_had ! at z.0.4.1.0 (λ e1. fsplit ! $
    handle_tells (al NodeRow heap.the_row L ghosts) ! alloc z.0.4.1.1.0 (λ h e2 fits.
    keep ! (0 ∷ 2 ∷ 3 ∷ 4 ∷ []) $ move ! (3 ∷ []) $ split ! $ keep ! (3 ∷ 4 ∷ 0 ∷ 2 ∷ []) $
    -- [two parts of self; the token; the handle]
    suffices ! (Run (vptr b o ∷ word at ∷ h ∷ [])) (subst (λ (us : List Val × List Val × List Val). ent 𝓤 (Run (vptr b o ∷ word at ∷ h ∷ [])) (Run (us.0 ++ (us.1 ++ (us.2 ++ []))))) (λ j. (sym e0 j, sym e1 j, sym e2 j)) (id⊢ 𝓤 (Run (vptr b o ∷ word at ∷ h ∷ [])))) $
    enter ! 𝓣.C 𝓣.Λ fn (vptr b o ∷ word at ∷ h ∷ []) Post $ alloc_all ! (λ l. pass_all ! refl ((tt, tt), (word-Good [] at, (fits, tt))) $
    opens ! tt R {h = d} b o (λ us. move ! (1 ∷ []) $ fsplit ! $ move ! (1 ∷ []) $
    use1 𝓛 (some (λ (n : Node). given (find d.cells at ≡ Some n) (‵ (box_owns chunk NodeRow at n) ⊛ ‵ (cells_own (take_out d.cells at))))) (cell_cut 𝓛 d.cells at there) $ pick ! (λ old. learn ! (λ found. split ! $
    in_a_block ! at (λ p. box_owns chunk NodeRow p old) (no_box 𝓛 old) (λ pb po e. move ! (2 ∷ 1 ∷ []) $ fjoin ! $
    move ! (2 ∷ 0 ∷ 3 ∷ 4 ∷ 5 ∷ []) $ closes ! tt R (record d { cells = take_out d.cells at }) us b o $
    -- [two parts of self; the token; the node's memory; the handle]
    take_at ! 2 $ rewrite ! 0 (λ (p : Ptr). ‵ (fat full_share (lone PlaceRow.mir) (l 2) 0 (word p))) e refl $ give_at ! 2 $
    sets ! (agg ! (and_then ! (get_in ! (fld ! refl (stop !)) (sub ! 0 refl (whole !))) (and_then ! (get ! refl) (no_more !)))) refl (loose_good NodeRow heap.the_row L ghosts pb po h fits) $
    move ! (3 ∷ 4 ∷ []) $ loose_in NodeRow heap.the_row L ghosts ! pb po h alloc old $
    returns ! (look_at ! 0 refl) $ free_all ! refl $ move ! (1 ∷ 2 ∷ 3 ∷ 0 ∷ []) $
    suffices ! _ (ends_at 𝓛 f.ended hs c z (both (vptr pb po) h) (record { at = block_ptr pb po; alloc = alloc; value = old }) (record d { cells = take_out d.cells at }, (tt, (tt, tt))) (tt, (tt, (tt, tt)))) $ says_both ! found refl $
    nothing ! $ move ! (3 ∷ 0 ∷ []) $ join ! $ frame ! $ feq_i ! (List Val) z.0.4.0 (vptr b o ∷ []) e0 $ fjoin3 ! $ nothing ! $ nothing ! $ fjoin ! $ nothing ! $ fjoin ! $ move ! (1 ∷ 0 ∷ []) $ fjoin ! $ done !))))))))))
