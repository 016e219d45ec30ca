-- The faults that are listed are those that a source has.
use Rattle.std.proofs.Common.{◌≡◌, Bool, true, false, ◌⊎◌, inl, inr, List, [], ◌∷◌, Option, Some, None, sym, ap, subst, refl}
use Rattle.std.specs.Prelude.{if◌then◌else◌}
use Rattle.slint_base.specs.declared.faults.Fault.{Fault}
use Rattle.slint_base.specs.declared.rules.Rule.{Rule}
use Rattle.typed_tree.specs.declared.trees.TypedTree.{TypedTree}
use Rattle.fault_order.specs.Order.{FirstIfAny, IsFirst, NotBehind, earlier_of, first_of}
use Rattle.fault_order.proofs.First.{FirstIfAny-earlier_of, FirstIfAny-map, NotBehind-refl}
use Rattle.finite_graphs.specs.Walks.{In, here, there}
use Rattle.finite_graphs.proofs.Lists.{in_none, in_one}
use Rattle.loop_check.specs.declared.acts.Act.{Act}
use Rattle.loop_check.specs.declared.bodies.Body.{Body}
use Rattle.loop_check.specs.declared.graphs.Spread.{Spread}
use Rattle.loop_check.specs.Bodies.{bodies_in}
use Rattle.loop_check.specs.Graphs.{Spreads, fault_of, faults_by, faults_in, faults_of, is_reached}
use Rattle.loop_check.specs.Purity.{PurityFault, rule_at}
use Rattle.loop_check.proofs.Listing.{came, comes}

-- the first of a list is the first of those that are in it
in_front : (f : Fault) (fs : List Fault) (x : Fault) → (x ≡ f) ⊎ In x fs → In x (f ∷ fs)
in_front f fs x (inl e) = subst (λ (y : Fault). In y (f ∷ fs)) (sym e) here
in_front f fs x (inr h) = there h

front_or_not : (f : Fault) (fs : List Fault) (x : Fault) → In x (f ∷ fs) → (x ≡ f) ⊎ In x fs
front_or_not f fs x here = inl refl
front_or_not f fs x (there h) = inr h

first_alone : (f : Fault) → IsFirst (λ x. x ≡ f) f
first_alone f = record { has = refl; first = λ x e. subst (λ y. NotBehind f y) (sym e) (NotBehind-refl f) }

first_in : (fs : List Fault) → FirstIfAny (λ x. In x fs) (first_of fs)
first_in [] = λ f h. in_none h
first_in (f ∷ fs) = FirstIfAny-map (λ x. (x ≡ f) ⊎ In x fs) (λ x. In x (f ∷ fs)) (earlier_of (Some f) (first_of fs)) (in_front f fs) (front_or_not f fs)
    (FirstIfAny-earlier_of (λ x. x ≡ f) (λ x. In x fs) (Some f) (first_of fs) (first_alone f) (first_in fs))

-- a fault of some acts
record OfAct (spread : Spread) (o : Option Rule) (acts : List Act) (f : Fault) : Type 0 where
  act : Act
  does : In act acts
  reached : is_reached spread act.calls ≡ true
  rule : o ≡ Some f.rule
  span : f.span ≡ act.span

of_one : (spread : Spread) (rule : Rule) (acts : List Act) (act : Act) (f : Fault) (b : Bool) → In act acts → is_reached spread act.calls ≡ b
    → In f (if b then record { rule = rule; span = act.span } ∷ [] else []) → OfAct spread (Some rule) acts f
of_one spread rule acts act f true does e h = let same = in_one h in record { act = act; does = does; reached = e; rule = ap (λ (x : Fault). Some x.rule) (sym same); span = ap (λ (x : Fault). x.span) same }
of_one spread rule acts act f false does e h = absurd (in_none h)

of_acts : (spread : Spread) (o : Option Rule) (acts : List Act) (f : Fault) → In f (faults_by spread o acts) → OfAct spread o acts f
of_acts spread None acts f h = absurd (in_none h)
of_acts spread (Some rule) acts f h = let c = came (fault_of spread rule) acts h in of_one spread rule acts c.thing f (is_reached spread c.thing.calls) c.among refl c.made

fault_is : (tree : TypedTree) (spread : Spread) → Spreads tree spread → (f : Fault) → In f (faults_in tree spread (bodies_in tree)) → PurityFault tree f
fault_is tree spread s f h =
    let c = came (faults_of tree spread) (bodies_in tree) h in
    let a = of_acts spread (rule_at tree c.thing.place) c.thing.acts f c.made in
    record { body = c.thing; among = c.among; act = a.act; does = a.does; impure = s.sound a.act.calls a.reached; rule = a.rule; span = a.span }

listed_one : (spread : Spread) (act : Act) (f : Fault) (b : Bool) → b ≡ true → f.span ≡ act.span → In f (if b then record { rule = f.rule; span = act.span } ∷ [] else [])
listed_one spread act f true e span = subst (λ s. In f (record { rule = f.rule; span = s } ∷ [])) span here
listed_one spread act f false e span = absurd (cc)

listed_by : (spread : Spread) (o : Option Rule) (acts : List Act) (act : Act) (f : Fault) → o ≡ Some f.rule → In act acts → is_reached spread act.calls ≡ true → f.span ≡ act.span → In f (faults_by spread o acts)
listed_by spread o acts act f e does reached span =
    subst (λ (x : Option Rule). In f (faults_by spread x acts)) (sym e) (comes (fault_of spread f.rule) does (listed_one spread act f (is_reached spread act.calls) reached span))

is_listed : (tree : TypedTree) (spread : Spread) → Spreads tree spread → (f : Fault) → PurityFault tree f → In f (faults_in tree spread (bodies_in tree))
is_listed tree spread s f p =
    comes (faults_of tree spread) p.among (listed_by spread (rule_at tree p.body.place) p.body.acts p.act f p.rule p.does (s.complete p.act.calls p.impure) p.span)

pub first_fault_is : (tree : TypedTree) (spread : Spread) (bodies : List Body) → Spreads tree spread → bodies ≡ bodies_in tree → FirstIfAny (PurityFault tree) (first_of (faults_in tree spread bodies))
first_fault_is tree spread bodies s e =
    subst (λ (xs : List Body). FirstIfAny (PurityFault tree) (first_of (faults_in tree spread xs))) (sym e)
    (FirstIfAny-map (λ f. In f (faults_in tree spread (bodies_in tree))) (PurityFault tree) (first_of (faults_in tree spread (bodies_in tree))) (fault_is tree spread s) (is_listed tree spread s)
    (first_in (faults_in tree spread (bodies_in tree))))

pub told : (tree : TypedTree) (spread : Spread) (bodies : List Body) (fault : Option Fault) → Spreads tree spread → bodies ≡ bodies_in tree → fault ≡ first_of (faults_in tree spread bodies)
    → FirstIfAny (PurityFault tree) fault
told tree spread bodies fault s b e = subst (λ (x : Option Fault). FirstIfAny (PurityFault tree) x) (sym e) (first_fault_is tree spread bodies s b)
