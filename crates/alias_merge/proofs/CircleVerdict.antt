-- Whether an edge lies on a circle is decided, so there is a first fault of such edges or none.
use Rattle.std.proofs.Common.{◌≡◌, ◌⊎◌, inl, inr, List, [], ◌∷◌, Option, None, Some, map, refl, sym, ap, subst, ◌∙◌}
use Rattle.slint_base.specs.declared.faults.Fault.{Fault}
use Rattle.slint_base.specs.declared.rules.Rule.{Rule}
use Rattle.fault_order.specs.Order.{FirstIfAny, IsFirst, NoFault, NotBehind, earlier_of}
use Rattle.fault_order.proofs.First.{FirstIfAny-earlier_of, FirstIfAny-map, NotBehind-refl}
use Rattle.finite_graphs.specs.Graphs.{Leads}
use Rattle.finite_graphs.specs.Walks.{In, Reaches, here, there}
use Rattle.finite_graphs.proofs.Deciding.{Decided, reaches_decided}
use Rattle.finite_graphs.proofs.Lists.{in_none}
use Rattle.alias_merge.specs.declared.circle_faults.Spanned.{Spanned}
use Rattle.alias_merge.specs.CircleFaults.{CircleFault, edge_in}

-- the first fault with a property, or none has it
abbrev Told : (Fault → Type 0) → Type 0
Told P = (told : Option Fault) × FirstIfAny P told

either_told : (P : Fault → Type 0) (told : Option Fault) → FirstIfAny P told → ((f : Fault) × IsFirst P f) ⊎ NoFault P
either_told P None h = inr h
either_told P (Some f) h = inl (f, h)

in_front : {x y : Spanned} {xs : List Spanned} → In x (y ∷ xs) → (x ≡ y) ⊎ In x xs
in_front here = inl refl
in_front (there h) = inr h

module _ (rule : Rule) (all : List Spanned) where
  abbrev fault_at : Spanned → Fault
  fault_at s = record { rule = rule; span = s.span }

  abbrev LiesBack : Spanned → Type 0
  LiesBack s = Reaches (Leads (map edge_in all)) s.to s.from

  -- a fault at one edge, and one at some edge of a list
  record AtEdge (s : Spanned) (f : Fault) : Type 0 where
    back : LiesBack s
    is : f ≡ fault_at s

  record AtSome (ss : List Spanned) (f : Fault) : Type 0 where
    edge : Spanned
    among : In edge ss
    back : LiesBack edge
    is : f ≡ fault_at edge

  told_at : (s : Spanned) → Decided (LiesBack s) → Told (AtEdge s)
  told_at s (inl back) = (Some (fault_at s), record { has = record { back = back; is = refl }; first = λ g h. subst (λ (x : Fault). NotBehind (fault_at s) x) (sym h.is) (NotBehind-refl (fault_at s)) })
  told_at s (inr none) = (None, λ f h. none h.back)

  to_some : (s : Spanned) (ss : List Spanned) (f : Fault) → AtEdge s f ⊎ AtSome ss f → AtSome (s ∷ ss) f
  to_some s ss f (inl h) = record { edge = s; among = here; back = h.back; is = h.is }
  to_some s ss f (inr h) = record { edge = h.edge; among = there h.among; back = h.back; is = h.is }

  from_front : (s : Spanned) (ss : List Spanned) (f : Fault) (h : AtSome (s ∷ ss) f) → (h.edge ≡ s) ⊎ In h.edge ss → AtEdge s f ⊎ AtSome ss f
  from_front s ss f h (inl e) = inl (record { back = subst LiesBack e h.back; is = h.is ∙ ap fault_at e })
  from_front s ss f h (inr k) = inr (record { edge = h.edge; among = k; back = h.back; is = h.is })

  told_with : (s : Spanned) (ss : List Spanned) → Told (AtEdge s) → Told (AtSome ss) → Told (AtSome (s ∷ ss))
  told_with s ss a b = (
    earlier_of a.0 b.0,
    FirstIfAny-map (λ f. AtEdge s f ⊎ AtSome ss f) (AtSome (s ∷ ss)) (earlier_of a.0 b.0) (to_some s ss) (λ f h. from_front s ss f h (in_front h.among))
        (FirstIfAny-earlier_of (AtEdge s) (AtSome ss) a.0 b.0 a.1 b.1),
  )

  told_some : (ss : List Spanned) → Told (AtSome ss)
  told_some [] = (None, λ f h. in_none h.among)
  told_some (s ∷ ss) = told_with s ss (told_at s (reaches_decided (map edge_in all) s.to s.from)) (told_some ss)

  told_circle : Told (AtSome all) → Told (CircleFault rule all)
  told_circle t = (t.0, FirstIfAny-map (AtSome all) (CircleFault rule all) t.0 (λ f h. record { edge = h.edge; among = h.among; back = h.back; is = h.is }) (λ f h. record { edge = h.edge; among = h.among; back = h.back; is = h.is }) t.1)

pub some_circle_verdict : (rule : Rule) (edges : List Spanned) → ((f : Fault) × IsFirst (CircleFault rule edges) f) ⊎ NoFault (CircleFault rule edges)
some_circle_verdict rule edges = let t = told_circle rule edges (told_some rule edges edges) in either_told (CircleFault rule edges) t.0 t.1
