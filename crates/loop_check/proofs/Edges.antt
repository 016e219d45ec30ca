-- The edges of the graph are those along which what is impure spreads.
use Rattle.std.proofs.Common.{◌≡◌, ℕ, Bool, true, false, List, Option, Some, None, sym, ◌∙◌, ap, subst, refl}
use Rattle.std.specs.Prelude.{if◌then◌else◌}
use Rattle.typed_tree.specs.declared.trees.TypedTree.{TypedTree}
use Rattle.finite_graphs.specs.declared.edge.Edge.{Edge}
use Rattle.finite_graphs.specs.Graphs.{Leads, edge}
use Rattle.finite_graphs.specs.Walks.{In, here}
use Rattle.finite_graphs.proofs.Lists.{in_none, in_one}
use Rattle.loop_check.specs.declared.acts.Act.{Act}
use Rattle.loop_check.specs.declared.acts.Routine.{Routine}
use Rattle.loop_check.specs.declared.bodies.Place.{Place}
use Rattle.loop_check.specs.declared.bodies.Place.TheVariants as places
use Rattle.loop_check.specs.declared.numbers.Numbers.{Numbers}
use Rattle.loop_check.specs.Bodies.{bodies_in}
use Rattle.loop_check.specs.Graphs.{edge_from, edge_of, edges_in, edges_of, edges_to, inferred_at, number_at}
use Rattle.loop_check.specs.Numbers.{number_called, number_of}
use Rattle.loop_check.specs.Purity.{DoneIn, is_inferred, kind_of}
use Rattle.loop_check.proofs.Listing.{came, comes}

-- what an edge says: an act of a function without marks calls what has the first number
pub record Drives (tree : TypedTree) (numbers : Numbers) (j k : ℕ) : Type 0 where
  pub routine : Routine
  pub act : Act
  pub inferred : is_inferred (kind_of tree routine) ≡ true
  pub done : DoneIn tree routine act
  pub from : number_called numbers act.calls ≡ Some j
  pub to : number_of numbers routine ≡ Some k

-- the edge of an act
record FromAct (o : Option ℕ) (to j k : ℕ) : Type 0 where
  from : o ≡ Some j
  same : to ≡ k

from_act : (o : Option ℕ) (to j k : ℕ) → In (edge j k) (edge_from o to) → FromAct o to j k
from_act None to j k h = absurd (in_none h)
from_act (Some from) to j k h = let e = in_one h in record { from = ap (λ (x : Edge). Some x.from) (sym e); same = ap (λ (x : Edge). x.to) (sym e) }

-- the edge of one of some acts
record OfAct (numbers : Numbers) (o : Option ℕ) (acts : List Act) (j k : ℕ) : Type 0 where
  act : Act
  does : In act acts
  from : number_called numbers act.calls ≡ Some j
  to : o ≡ Some k

of_act : (numbers : Numbers) (o : Option ℕ) (acts : List Act) (j k : ℕ) → In (edge j k) (edges_to numbers o acts) → OfAct numbers o acts j k
of_act numbers None acts j k h = absurd (in_none h)
of_act numbers (Some to) acts j k h =
    let c = came (edge_of numbers to) acts h in
    let e = from_act (number_called numbers c.thing.calls) to j k c.made in
    record { act = c.thing; does = c.among; from = e.from; to = ap (λ (n : ℕ). Some n) e.same }

-- the function that has a number at a place
record NumberedAt (numbers : Numbers) (o : Option Routine) (k : ℕ) : Type 0 where
  routine : Routine
  there_is : o ≡ Some routine
  is : number_of numbers routine ≡ Some k

numbered_at : (numbers : Numbers) (o : Option Routine) (k : ℕ) → number_at numbers o ≡ Some k → NumberedAt numbers o k
numbered_at numbers None k e = absurd (cc)
numbered_at numbers (Some r) k e = record { routine = r; there_is = refl; is = e }

record InferredAt (tree : TypedTree) (place : Place) (r : Routine) : Type 0 where
  run : place ≡ places.Run r
  inferred : is_inferred (kind_of tree r) ≡ true

inferred_by : (tree : TypedTree) (q r : Routine) (b : Bool) → is_inferred (kind_of tree q) ≡ b → (if b then Some q else None) ≡ Some r → InferredAt tree (places.Run q) r
inferred_by tree q r true e h =
    let same : q ≡ r = cc in record { run = ap (λ (x : Routine). places.Run x) same; inferred = subst (λ (x : Routine). is_inferred (kind_of tree x) ≡ true) same e }
inferred_by tree q r false e h = absurd (cc)

inferred_is : (tree : TypedTree) (place : Place) (r : Routine) → inferred_at tree place ≡ Some r → InferredAt tree place r
inferred_is tree places.Value r h = absurd (cc)
inferred_is tree (places.Run q) r h = inferred_by tree q r (is_inferred (kind_of tree q)) refl h

-- each edge says so
pub drives : (tree : TypedTree) (numbers : Numbers) (j k : ℕ) → Leads (edges_in tree numbers (bodies_in tree)) j k → Drives tree numbers j k
drives tree numbers j k l =
    let c = came (edges_of tree numbers) (bodies_in tree) l.drawn in
    let a = of_act numbers (number_at numbers (inferred_at tree c.thing.place)) c.thing.acts j k c.made in
    let n = numbered_at numbers (inferred_at tree c.thing.place) k a.to in
    let i = inferred_is tree c.thing.place n.routine n.there_is in
    record { routine = n.routine; act = a.act; inferred = i.inferred; done = record { body = c.thing; among = c.among; place = i.run; does = a.does }; from = a.from; to = n.is }

-- and where something says so, there is an edge
inferred_run : (tree : TypedTree) (r : Routine) (b : Bool) → is_inferred (kind_of tree r) ≡ b → b ≡ true → (if b then Some r else None) ≡ Some r
inferred_run tree r true e t = refl
inferred_run tree r false e t = absurd (cc)

drawn_act : (numbers : Numbers) (o : Option ℕ) (acts : List Act) (act : Act) (j k : ℕ) → o ≡ Some k → In act acts → number_called numbers act.calls ≡ Some j → In (edge j k) (edges_to numbers o acts)
drawn_act numbers o acts act j k e h f =
    subst (λ (x : Option ℕ). In (edge j k) (edges_to numbers x acts)) (sym e)
    (comes (edge_of numbers k) h (subst (λ (x : Option ℕ). In (edge j k) (edge_from x k)) (sym f) here))

pub drawn : (tree : TypedTree) (numbers : Numbers) (j k : ℕ) → Drives tree numbers j k → Leads (edges_in tree numbers (bodies_in tree)) j k
drawn tree numbers j k d =
    let at_run : inferred_at tree (places.Run d.routine) ≡ Some d.routine = inferred_run tree d.routine (is_inferred (kind_of tree d.routine)) refl d.inferred in
    let at_place : inferred_at tree d.done.body.place ≡ Some d.routine = ap (inferred_at tree) d.done.place ∙ at_run in
    let to : number_at numbers (inferred_at tree d.done.body.place) ≡ Some k = ap (number_at numbers) at_place ∙ d.to in
    record { drawn = comes (edges_of tree numbers) d.done.among (drawn_act numbers (number_at numbers (inferred_at tree d.done.body.place)) d.done.body.acts d.act j k to d.done.does d.from) }
