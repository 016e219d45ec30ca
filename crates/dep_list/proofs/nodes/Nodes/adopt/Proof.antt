-- `adopt` takes a node over, which lies apart from all others. Assumes `Logic`.
use Rattle.std.proofs.Common.{◌≡◌, None, List, [], ◌∷◌, ◌++◌, refl, sym, subst}
use Rattle.std.proofs.raw_atomic.Walks.{proved_at}
use base.Logic.{SProp, ent, id⊢}
use base.Fml.{ftrue, flft}
use mir.Val.{Val, vptr}
use prog.Wp.{WpFn}
use contract.Running.{tables}
use types.Kit.{‵, raw, ◌⊛◌, ◌$◌, ◌∵◌, !, qed, done, move, keep, split, join, fsplit, fsplit3, fjoin, fjoin3, feq_i, feq_l, suffices, frame}
use types.Run.{enter, of_opd, and_then, no_more, stop, fld, returns}
use types.Part.{whole, sub, agg}
use types.ByLocal.{alloc_all, pass_all, free_all, look_at, get, get_in, sets}
use denote.Exit.{yes}
use denote.RattleType.{owns}
use denote.RawPtr.{Ptr, block_ptr}
use denote.Signature.{plain, types_at}
use denote.Steps.{nothing, opens, closes}
use denote.Triple.Walked.{Stays, walk_of, stay_dropped, stay_ref, Goes-ref, ends_at}
use Rattle.core.proofs.alloc.Calls.{Goes-blank}
use Rattle.std_alloc.proofs.RcSteps.{word, word-Good}
use Rattle.std.specs.contracts.alloc.Global as heap
use Rattle.std.proofs.alloc.Global.TheLaws as heap_laws
use Rattle.std.specs.contracts.impls.GlobalAllocator.TheImpl.{ghosts}
use Rattle.dep_list.specs.contracts.nodes.Nodes.{the_row as R}
use Rattle.dep_list.specs.contracts.node.Node.{the_row as NodeRow}
use Rattle.dep_list.specs.contracts.nodes.Nodes.adopt as f
use Rattle.dep_list.specs.Cells.{find}
use Rattle.dep_list.proofs.Memory.{cell_fresh, knows, says_both, word_made}
use Rattle.dep_list.proofs.Values.{Loose, both, loose_good, loose_out}
use Rattle.dep_list.proofs.nodes.Nodes.adopt.Statement.{statement}
use Rattle.dep_list.proofs.nodes.Nodes.adopt.Code as code

pub adopt_spec : {M : Type 1} → statement M
adopt_spec 𝓤 𝓛 𝓜 𝓡 wired =
    let c = f.clauses 𝓛 𝓜.mem 𝓡.returns in let 𝓣 = tables 𝓤 𝓛.H 𝓜 𝓡 𝓡.env in let fn = code.function in let L = heap_laws.the_row_laws in
    let hs : Stays f.ended.signature.params f.ended.kept = (stay_ref (0 ∷ []) tt (plain (λ _. R)), (stay_dropped (plain (λ _. Loose NodeRow heap.the_row L ghosts)) yes, tt)) in
    proved_at 𝓛 f.ended hs c 𝓜 𝓡 (Goes-ref 𝓛 1 0 tt (plain (λ _. R)), (Goes-blank 𝓛 1 (plain (λ _. Loose NodeRow heap.the_row L ghosts)) yes (λ κs x w. tt), tt))
    f.Key.name fn (code.unfolded 𝓤 𝓛.H 𝓜 𝓡 wired) (λ z are.
    let κs = z.0.0 in let qs = z.0.1 in let self = z.0.3.0 in let node = z.0.3.1.0 in let b = self.ref_ptr.0 in let o = self.ref_ptr.1 in let d = self.now in
    let Post : Val → SProp 𝓤 = (walk_of 𝓛 f.ended hs c).post z in let Run : List Val → SProp 𝓤 = λ ws. WpFn 𝓤 𝓛.H 𝓣.C 𝓣.Λ fn ws Post in
    qed 𝓛 (((‵ (flft κs.0 qs.0) ⊛ ‵ ftrue) ⊛ ‵ (owns (types_at f.ended.signature.params κs) z.0.3 z.0.4)) ∷ raw ((c κs z.0.3).requires z.1) ∷ []) ∵
    split ! $ move ! (1 ∷ []) $ fsplit ! $ fsplit3 ! $ feq_l ! (λ e0. move ! (2 ∷ []) $ fsplit ! $ loose_out NodeRow heap.the_row L ghosts ! node z.0.4.1.0 (λ pb po h e ws fits.
    let w : Val = both (vptr pb po) h in let p : Ptr = block_ptr pb po in
    keep ! (0 ∷ 3 ∷ 4 ∷ 5 ∷ []) $ move ! (3 ∷ []) $ split ! $ keep ! (3 ∷ 4 ∷ 0 ∷ 2 ∷ []) $
    -- [two parts of self; the token; the node's memory]
    suffices ! (Run (vptr b o ∷ w ∷ [])) (subst (λ (us : List Val × List Val). ent 𝓤 (Run (vptr b o ∷ w ∷ [])) (Run (us.0 ++ (us.1 ++ [])))) (λ j. (sym e0 j, sym ws j)) (id⊢ 𝓤 (Run (vptr b o ∷ w ∷ [])))) $
    enter ! 𝓣.C 𝓣.Λ fn (vptr b o ∷ w ∷ []) Post $ alloc_all ! (λ l. pass_all ! refl ((tt, tt), (loose_good NodeRow heap.the_row L ghosts pb po h fits, tt)) $
    opens ! tt R {h = d} b o (λ us. move ! (1 ∷ []) $ fsplit ! $ move ! (6 ∷ 1 ∷ []) $ knows ! (find d.cells p ≡ None) (cell_fresh 𝓛 𝓜 p node.value d.cells) (λ free. fjoin ! $
    move ! (1 ∷ []) $ fjoin ! $ move ! (1 ∷ []) $ closes ! tt R (record d { cells = (p, node.value) ∷ d.cells }) us b o $
    sets ! (of_opd ! (get_in ! (fld ! refl (stop !)) (sub ! 0 refl (whole !)))) refl (tt, tt) $
    sets ! (agg ! (and_then ! (get ! refl) (no_more !))) refl (word-Good [] p) $
    returns ! (look_at ! 0 refl) $ free_all ! refl $ word_made ! p $ move ! (1 ∷ 2 ∷ 3 ∷ 0 ∷ []) $
    suffices ! _ (ends_at 𝓛 f.ended hs c z (word p) (record { ptr = p }) (record d { cells = (p, node.value) ∷ d.cells }, (tt, tt)) (tt, (tt, tt))) $ says_both ! free refl $
    nothing ! $ move ! (3 ∷ 0 ∷ []) $ join ! $ frame ! $ feq_i ! (List Val) z.0.4.0 (vptr b o ∷ []) e0 $ fjoin3 ! $ nothing ! $ nothing ! $ fjoin ! $ move ! (1 ∷ 0 ∷ []) $ fjoin ! $ done !))))))
