-- What the walks of the owner of all nodes share: a cell is cut out, glued in, put last and seen. Assumes `Logic`.
use Rattle.std.proofs.Common.{◌≡◌, Bool, true, false, cond, List, [], ◌∷◌, ◌++◌, Some, None, refl, sym, subst, arith}
use Rattle.std.specs.Prelude.{IsSome}
use seplogic.Ra.Ura.{Ura}
use mir.Val.{Val, vstruct, vcons, vnil, of_list}
use mir.Raw.{raw as bare}
use base.Fraction.{full_share}
use base.Logic.{emp, SProp, ent, sep, ex, guard, via, never, never_e, fst∗, snd∗, id⊢}
use base.Fml.{Lft, Fml, Incl, ftrue, fat, froom}
use contract.Monad.{fact, fact_i, fact_use}
use prog.Model.{Model}
use types.Logic.{Logic, sem}
use denote.Shadow.{makes_shadow}
use Rattle.std_alloc.proofs.RcSteps.{word}
use Rattle.dep_list.specs.contracts.nodes.Nodes as C
use types.Kit.{frame, use0, feq_l, feq_i, fpick, fpack, Item, Goal, Seq, Step, step, mean, prop, ‵, raw, some, given, ◌⊛◌, ◌$◌, ◌∵◌, !, qed, by, move, keep, drop, use1, use2, pick, split, check, learn, show, fsplit, fjoin, rewrite, done}
use denote.Memory.{lone}
use denote.RawPtr.{Ptr, RawPtr, block_ptr, null_ptr, ptr_val, lies_at}
use denote.RattleType.{RattleType, Valss}
use denote.Struct.Struct.{Shape, Struct, within}
use denote.Struct.Owning.{shape}
use denote.Sharing.{ShrLaws}
use denote.SharingLaws.{beside_shr_laws, nothing_shr_laws}
use denote.Shares.{Shares-less}
use denote.Steps.{nothing}
use denote.Struct.Lending.{Lends, lent_at, lent_at_shr_laws, Lends-lies, Lends-first, Lends-both, Lends-nothing}
use borrow.Table.OneValue.{part_out}
use Rattle.std_alloc.specs.Box.Ownership.{box_owns}
use Rattle.dep_list.specs.declared.node.Node.{Node}
use Rattle.dep_list.specs.contracts.node.Node as N
use Rattle.dep_list.specs.Cells.{same_ptr, find, put, take_out}
use Rattle.dep_list.specs.Ownership.{chunk, cells_own, cells_lent}
use Rattle.dep_list.proofs.node.Node.TheLaws.{the_row_laws}
use Rattle.dep_list.proofs.Cells.{same_ptr_eq}

pub cells_lent_laws : (cs : List (Ptr × Node)) → ShrLaws (cells_lent cs)
cells_lent_laws [] = nothing_shr_laws
cells_lent_laws (c ∷ cs) = beside_shr_laws _ _ (lent_at_shr_laws N.the_row the_row_laws.shr_laws c.0 c.1) (cells_lent_laws cs)

module _ {M : Type 1} {𝓤 : Ura M} (𝓛 : Logic 𝓤) (l : Lft) (inc : Incl l N.the_row.lives) where
  pub Lends-cells : (cs : List (Ptr × Node)) → Lends 𝓛 (cells_own cs) (cells_lent cs) l
  Lends-cells [] = Lends-nothing 𝓛 ftrue l
  Lends-cells (c ∷ cs) = Lends-both 𝓛 (box_owns chunk N.the_row c.0 c.1) (cells_own cs) (lent_at N.the_row c.0 c.1) (cells_lent cs) l
      (Lends-first 𝓛 (lies_at N.the_row full_share c.0 c.1) _ (lent_at N.the_row c.0 c.1) l
      (Lends-lies 𝓛 N.the_row l c.0 c.1 (Shares-less 𝓛 N.the_row N.the_row.lives l inc (the_row_laws.shares 𝓛) c.1)))
      (Lends-cells cs)

module _ {M : Type 1} {𝓤 : Ura M} (𝓛 : Logic 𝓤) where
  abbrev Box : Ptr → Node → Fml
  Box = box_owns chunk N.the_row

  module _ (c : Ptr × Node) (cs : List (Ptr × Node)) (p : Ptr) where
    cut_step : (b : Bool) → same_ptr c.0 p ≡ b → IsSome (cond b (Some c.1) (find cs p))
        → (IsSome (find cs p) → ent 𝓤 (sem 𝓛 (cells_own cs)) (ex 𝓤 (λ (n : Node). guard 𝓤 (find cs p ≡ Some n) (sep 𝓤 (sem 𝓛 (Box p n)) (sem 𝓛 (cells_own (take_out cs p)))))))
        → ent 𝓤 (sem 𝓛 (cells_own (c ∷ cs))) (ex 𝓤 (λ (n : Node). guard 𝓤 (cond b (Some c.1) (find cs p) ≡ Some n) (sep 𝓤 (sem 𝓛 (Box p n)) (sem 𝓛 (cells_own (cond b cs (c ∷ take_out cs p)))))))
    cut_step true e h rest = qed 𝓛 (‵ (cells_own (c ∷ cs)) ∷ []) ∵ fsplit ! $ rewrite ! 0 (λ (r : Ptr). ‵ (Box r c.1)) (same_ptr_eq c.0 p e) refl $
        show ! (λ (n : Node). guard 𝓤 (Some c.1 ≡ Some n) (sep 𝓤 (sem 𝓛 (Box p n)) (sem 𝓛 (cells_own cs)))) c.1 $ check ! refl $ done !
    cut_step false e h rest = qed 𝓛 (‵ (cells_own (c ∷ cs)) ∷ []) ∵ fsplit ! $ move ! (1 ∷ []) $
        use1 𝓛 (some (λ (n : Node). given (find cs p ≡ Some n) (‵ (Box p n) ⊛ ‵ (cells_own (take_out cs p))))) (rest h) $ pick ! (λ n. learn ! (λ is. split ! $ move ! (2 ∷ 1 ∷ []) $ fjoin ! $
        show ! (λ (m : Node). guard 𝓤 (find cs p ≡ Some m) (sep 𝓤 (sem 𝓛 (Box p m)) (sem 𝓛 (cells_own (c ∷ take_out cs p))))) n $ check ! is $ move ! (1 ∷ []) $ done !))

    glue_step : (n : Node) (b : Bool) → same_ptr c.0 p ≡ b → IsSome (cond b (Some c.1) (find cs p))
        → (IsSome (find cs p) → ent 𝓤 (sep 𝓤 (sem 𝓛 (Box p n)) (sem 𝓛 (cells_own (take_out cs p)))) (sem 𝓛 (cells_own (put cs p n))))
        → ent 𝓤 (sep 𝓤 (sem 𝓛 (Box p n)) (sem 𝓛 (cells_own (cond b cs (c ∷ take_out cs p))))) (sem 𝓛 (cells_own (cond b ((c.0, n) ∷ cs) (c ∷ put cs p n))))
    glue_step n true e h rest = qed 𝓛 (‵ (Box p n) ∷ ‵ (cells_own cs) ∷ []) ∵ rewrite ! 0 (λ (r : Ptr). ‵ (Box r n)) (sym (same_ptr_eq c.0 p e)) refl $ fjoin ! $ done !
    glue_step n false e h rest = qed 𝓛 (‵ (Box p n) ∷ ‵ (cells_own (c ∷ take_out cs p)) ∷ []) ∵ move ! (1 ∷ []) $ fsplit ! $ move ! (2 ∷ 1 ∷ []) $
        use2 𝓛 (‵ (cells_own (put cs p n))) (rest h) $ move ! (1 ∷ 0 ∷ []) $ fjoin ! $ done !

    seen_step : (κ : Lft) (b : Bool) → same_ptr c.0 p ≡ b → IsSome (cond b (Some c.1) (find cs p))
        → (IsSome (find cs p) → ent 𝓤 (sem 𝓛 (cells_lent cs κ)) (ex 𝓤 (λ (n : Node). guard 𝓤 (find cs p ≡ Some n) (sem 𝓛 (lent_at N.the_row p n κ)))))
        → ent 𝓤 (sem 𝓛 (cells_lent (c ∷ cs) κ)) (ex 𝓤 (λ (n : Node). guard 𝓤 (cond b (Some c.1) (find cs p) ≡ Some n) (sem 𝓛 (lent_at N.the_row p n κ))))
    seen_step κ true e h rest = qed 𝓛 (‵ (cells_lent (c ∷ cs) κ) ∷ []) ∵ fsplit ! $ rewrite ! 0 (λ (r : Ptr). ‵ (lent_at N.the_row r c.1 κ)) (same_ptr_eq c.0 p e) refl $
        show ! (λ (n : Node). guard 𝓤 (Some c.1 ≡ Some n) (sem 𝓛 (lent_at N.the_row p n κ))) c.1 $ check ! refl $ keep ! (0 ∷ []) $ done !
    seen_step κ false e h rest = via 𝓤 _ (snd∗ 𝓤 (sem 𝓛 (lent_at N.the_row c.0 c.1 κ)) (sem 𝓛 (cells_lent cs κ))) (rest h)

  -- the node at p, with the right to free its block, and the others
  pub cell_cut : (cs : List (Ptr × Node)) (p : Ptr) → IsSome (find cs p)
      → ent 𝓤 (sem 𝓛 (cells_own cs)) (ex 𝓤 (λ (n : Node). guard 𝓤 (find cs p ≡ Some n) (sep 𝓤 (sem 𝓛 (Box p n)) (sem 𝓛 (cells_own (take_out cs p))))))
  cell_cut [] p h = cc
  cell_cut (c ∷ cs) p h = cut_step c cs p (same_ptr c.0 p) refl h (cell_cut cs p)

  pub cell_glue : (cs : List (Ptr × Node)) (p : Ptr) (n : Node) → IsSome (find cs p)
      → ent 𝓤 (sep 𝓤 (sem 𝓛 (Box p n)) (sem 𝓛 (cells_own (take_out cs p)))) (sem 𝓛 (cells_own (put cs p n)))
  cell_glue [] p n h = cc
  cell_glue (c ∷ cs) p n h = glue_step c cs p n (same_ptr c.0 p) refl h (cell_glue cs p n)

  pub cell_last : (cs : List (Ptr × Node)) (p : Ptr) (n : Node) → ent 𝓤 (sep 𝓤 (sem 𝓛 (Box p n)) (sem 𝓛 (cells_own cs))) (sem 𝓛 (cells_own (cs ++ (p, n) ∷ [])))
  cell_last [] p n = id⊢ 𝓤 _
  cell_last (c ∷ cs) p n = qed 𝓛 (‵ (Box p n) ∷ ‵ (cells_own (c ∷ cs)) ∷ []) ∵ move ! (1 ∷ []) $ fsplit ! $ move ! (2 ∷ 1 ∷ []) $
      use2 𝓛 (‵ (cells_own (cs ++ (p, n) ∷ []))) (cell_last cs p n) $ move ! (1 ∷ 0 ∷ []) $ fjoin ! $ done !

  pub cell_seen : (κ : Lft) (cs : List (Ptr × Node)) (p : Ptr) → IsSome (find cs p) → ent 𝓤 (sem 𝓛 (cells_lent cs κ)) (ex 𝓤 (λ (n : Node). guard 𝓤 (find cs p ≡ Some n) (sem 𝓛 (lent_at N.the_row p n κ))))
  cell_seen κ [] p h = cc
  cell_seen κ (c ∷ cs) p h = seen_step c cs p κ (same_ptr c.0 p) refl h (cell_seen κ cs p)

  pub no_box : (n : Node) → ent 𝓤 (sem 𝓛 (Box null_ptr n)) (never 𝓤)
  no_box n = fst∗ 𝓤 (never 𝓤) (sem 𝓛 (chunk (bare (lone N.the_row.mir)) null_ptr))

module _ {M : Type 1} {𝓤 : Ura M} (𝓛 : Logic 𝓤) (𝓜 : Model 𝓤 𝓛.H) where
  abbrev Node_at : Ptr → Node → Fml
  Node_at = box_owns chunk N.the_row

  -- two nodes cannot lie at one place
  no_two : (p : Ptr) (m n : Node) → ent 𝓤 (sep 𝓤 (sem 𝓛 (Node_at p m)) (sem 𝓛 (Node_at p n))) (never 𝓤)
  no_two (block_ptr b o) m n = let τ = lone N.the_row.mir in
      let Opened : Node → Item 𝓤 = λ x. some (λ (v : Val). ‵ (fat full_share τ b o v) ⊛ ‵ (N.the_row.own_val x (v ∷ []))) in
      qed 𝓛 (‵ (Node_at (block_ptr b o) m) ∷ ‵ (Node_at (block_ptr b o) n) ∷ []) ∵ fsplit ! $ move ! (2 ∷ []) $ fsplit ! $ keep ! (0 ∷ 2 ∷ []) $
      use1 𝓛 (Opened n) (part_out 𝓛 N.the_row refl full_share n b o) $ pick ! (λ v. split ! $ use1 𝓛 (‵ (froom τ b o)) (𝓛.laws.at_room τ b o v) $ move ! (2 ∷ []) $
      use1 𝓛 (Opened m) (part_out 𝓛 N.the_row refl full_share m b o) $ pick ! (λ w. split ! $ use1 𝓛 (‵ (froom τ b o)) (𝓛.laws.at_room τ b o w) $ keep ! (0 ∷ 2 ∷ []) $
      by ! (𝓜.room-room τ τ b o o o (omega arith, omega arith) (omega arith, omega arith))))
  no_two null_ptr m n = via 𝓤 _ (fst∗ 𝓤 (sem 𝓛 (Node_at null_ptr m)) (sem 𝓛 (Node_at null_ptr n))) (no_box 𝓛 m)

  fresh_step : (p : Ptr) (n : Node) (c : Ptr × Node) (cs : List (Ptr × Node)) (b : Bool) → same_ptr c.0 p ≡ b
      → ent 𝓤 (sep 𝓤 (sem 𝓛 (Node_at p n)) (sem 𝓛 (cells_own cs))) (fact 𝓤 (find cs p ≡ None))
      → ent 𝓤 (sep 𝓤 (sem 𝓛 (Node_at p n)) (sem 𝓛 (cells_own (c ∷ cs)))) (fact 𝓤 (cond b (Some c.1) (find cs p) ≡ None))
  fresh_step p n c cs true e rest = via 𝓤 (never 𝓤) (qed 𝓛 (‵ (Node_at p n) ∷ ‵ (cells_own (c ∷ cs)) ∷ []) {P = never 𝓤} ∵ move ! (1 ∷ []) $ fsplit ! $
      rewrite ! 0 (λ (r : Ptr). ‵ (Node_at r c.1)) (same_ptr_eq c.0 p e) refl $ keep ! (0 ∷ 2 ∷ []) $ by ! (no_two p c.1 n)) (never_e 𝓤 _)
  fresh_step p n c cs false e rest = qed 𝓛 (‵ (Node_at p n) ∷ ‵ (cells_own (c ∷ cs)) ∷ []) ∵ move ! (1 ∷ []) $ fsplit ! $ keep ! (2 ∷ 1 ∷ []) $ by ! rest

  -- a node that comes in lies apart from all others
  pub cell_fresh : (p : Ptr) (n : Node) (cs : List (Ptr × Node)) → ent 𝓤 (sep 𝓤 (sem 𝓛 (Node_at p n)) (sem 𝓛 (cells_own cs))) (fact 𝓤 (find cs p ≡ None))
  cell_fresh p n [] = fact_i 𝓤 _ _ refl
  cell_fresh p n (c ∷ cs) = fresh_step p n c cs (same_ptr c.0 p) refl (cell_fresh p n cs)

abbrev one_field : Shape
one_field = record { name = []; args = []; types = []; fields = RawPtr ∷ [] }

-- a struct of one pointer
abbrev pub Word : RattleType
Word = Struct one_field

-- the owner's own field, which takes no bytes
abbrev pub Mark : RattleType
Mark = Struct (shape C.the_type)

abbrev pub mark : Val
mark = vstruct (vcons (vstruct vnil) vnil)

pub mark_made : {M : Type 1} {𝓤 : Ura M} (𝓛 : Logic 𝓤) → ent 𝓤 (emp 𝓤) (sem 𝓛 (Mark.own_val (tt, tt) (mark ∷ [])))
mark_made 𝓛 = makes_shadow 𝓛 (Mark.own_val (tt, tt) (mark ∷ [])) (λ vss. (tt, ((λ uss. (tt, tt)), tt))) ((vstruct vnil ∷ [], tt), (refl, ((tt, (refl, tt)), tt)))

module _ {M : Type 1} {𝓤 : Ura M} {𝓛 : Logic 𝓤} {K : Type 0} {Γ : List (Item 𝓤)} {G : Goal 𝓤 𝓛.H} where
  pub word_had : K → (c : Ptr) (vs : List Val) → (vs ≡ word c ∷ [] → Seq K 𝓛 Γ G) → Seq K 𝓛 (‵ (Word.own_val (c, tt) vs) ∷ Γ) G
  word_had t c vs k = fpick t (λ vss. fsplit t $ feq_l t (λ ev. fsplit t $ feq_l t (λ e. drop t $ k (subst (λ (ws : List Val). vs ≡ vstruct (of_list (ws ++ [])) ∷ []) e ev))))

  pub word_made : K → (c : Ptr) → Step K 𝓛 (‵ (Word.own_val (c, tt) (word c ∷ [])) ∷ Γ) G Γ G
  word_made t c = step (λ s.
      nothing t $ feq_i t (List Val) (ptr_val c ∷ []) (ptr_val c ∷ []) refl $ fjoin t $ feq_i t (List Val) (word c ∷ []) (word c ∷ []) refl $ fjoin t $
      fpack t (Valss (RawPtr ∷ [])) (within one_field (c, tt) (word c ∷ [])) (ptr_val c ∷ [], tt) $ s)

  -- a fact that two entries show is learned, and they stay
  pub knows : K → {i j : Item 𝓤} (φ : Type 0) → ent 𝓤 (sep 𝓤 (mean 𝓛 i) (mean 𝓛 j)) (fact 𝓤 φ) → (φ → Seq K 𝓛 (i ∷ j ∷ Γ) G) → Seq K 𝓛 (i ∷ j ∷ Γ) G
  knows t {i} {j} φ h k =
      let shown : Seq K 𝓛 (i ∷ j ∷ Γ) (prop (fact 𝓤 φ)) = use2 𝓛 (raw (fact 𝓤 φ)) h $ keep t (0 ∷ []) $ done t in
      record { prf = fact_use 𝓤 φ shown.prf (λ x. (k x).prf) }

module _ {M : Type 1} {𝓤 : Ura M} {𝓛 : Logic 𝓤} {K : Type 0} {Γ : List (Item 𝓤)} where
  -- an `ensures` of two facts
  pub says_both : K → {φ ψ : Type 0} {P : SProp 𝓤} → φ → ψ → Step K 𝓛 Γ (prop P) Γ (prop (sep 𝓤 P (sep 𝓤 (fact 𝓤 φ) (fact 𝓤 ψ))))
  says_both t {φ} {ψ} {P} x y = step (λ s. record {
    prf = via 𝓤 P s.prf (qed 𝓛 (raw P ∷ []) {P = sep 𝓤 P (sep 𝓤 (fact 𝓤 φ) (fact 𝓤 ψ))} (
        frame ! $ use0 𝓛 (raw (fact 𝓤 ψ)) (fact_i 𝓤 ψ (emp 𝓤) y) $ use0 𝓛 (raw (fact 𝓤 φ)) (fact_i 𝓤 φ (emp 𝓤) x) $ done !));
  })
