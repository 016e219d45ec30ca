-- Some fault of the first pass is its first one, or there is none.
use Rattle.std.proofs.Common.{◌≡◌, ℕ, ◌⊎◌, inl, inr, List, [], ◌∷◌, ◌++◌, Option, Contains, map, refl, sym, subst}
use Rattle.std.proofs.lemmas.List.Elements.{Contains-append_cases, Contains-append_left, Contains-append_right, Contains-push}
use Rattle.slint_base.specs.declared.faults.Fault.{Fault}
use Rattle.fault_order.specs.Order.{FirstIfAny, earlier_of, first_of}
use Rattle.fault_order.proofs.First.{FirstIfAny-first_of, FirstIfAny-map}
use Rattle.finite_graphs.specs.declared.edge.Edge.{Edge}
use Rattle.finite_graphs.specs.Graphs.{Leads}
use Rattle.finite_graphs.specs.Walks.{In, Reaches, here, there}
use Rattle.import_resolver.specs.Loaded.{FileRow}
use Rattle.declaration_rules.specs.declared.usages.Usage.{Usage}
use Rattle.declaration_rules.specs.Circles.{CircleFault, component_usages, edge_of, struct_usages}
use Rattle.declaration_rules.specs.Declarations.{SomeFirst, declaration_faults}
use Rattle.declaration_rules.proofs.Circling.{circle_at, none_in, only_one}
use Rattle.declaration_rules.proofs.Filing.{first-of-all}

abbrev pub DecidesWalks : Type 0
DecidesWalks = (edges : List Edge) (a b : ℕ) → Reaches (Leads edges) a b ⊎ (Reaches (Leads edges) a b → ⊥)

abbrev Back : List Usage → Usage → Type 0
Back all u = Reaches (Leads (map edge_of all)) u.to u.from

abbrev if_back : (u : Usage) {P : Type 0} → P ⊎ (P → ⊥) → List Fault
if_back u (inl back) = circle_at u ∷ []
if_back u (inr never) = []

-- the faults of those uses that lie on circles
abbrev circle_faults : DecidesWalks → List Usage → List Usage → List Fault
circle_faults decide all [] = []
circle_faults decide all (u ∷ us) = if_back u (decide (map edge_of all) u.to u.from) ++ circle_faults decide all us

record Lies (all us : List Usage) (f : Fault) : Type 0 where
  used : Usage
  among : In used us
  back : Back all used
  is : f ≡ circle_at used

lies_here : (all us : List Usage) (u : Usage) (f : Fault) (d : Back all u ⊎ (Back all u → ⊥)) → Contains (if_back u d) f → Lies all (u ∷ us) f
lies_here all us u f (inl back) c = record { used = u; among = here; back = back; is = sym (only_one (circle_at u) f c) }
lies_here all us u f (inr never) c = absurd (none_in f c)

lies_later : (all us : List Usage) (u : Usage) (f : Fault) → Lies all us f → Lies all (u ∷ us) f
lies_later all us u f l = record { used = l.used; among = there l.among; back = l.back; is = l.is }

lies_by : (decide : DecidesWalks) (all us : List Usage) (u : Usage) (f : Fault) → (Contains (circle_faults decide all us) f → Lies all us f)
    → Contains (if_back u (decide (map edge_of all) u.to u.from)) f ⊎ Contains (circle_faults decide all us) f → Lies all (u ∷ us) f
lies_by decide all us u f later (inl h) = lies_here all us u f (decide (map edge_of all) u.to u.from) h
lies_by decide all us u f later (inr h) = lies_later all us u f (later h)

lies : (decide : DecidesWalks) (all us : List Usage) (f : Fault) → Contains (circle_faults decide all us) f → Lies all us f
lies decide all [] f c = absurd (none_in f c)
lies decide all (u ∷ us) f c = lies_by decide all us u f (lies decide all us f) (Contains-append_cases (if_back u (decide (map edge_of all) u.to u.from)) (circle_faults decide all us) f c)

listed_here : (all : List Usage) (u : Usage) (d : Back all u ⊎ (Back all u → ⊥)) → Back all u → Contains (if_back u d) (circle_at u)
listed_here all u (inl way) back = Contains-push [] (circle_at u)
listed_here all u (inr never) back = absurd (never back)

listed : (decide : DecidesWalks) (all : List Usage) {used : Usage} {us : List Usage} → In used us → Back all used → Contains (circle_faults decide all us) (circle_at used)
listed decide all (here {x = u} {xs = us}) back =
    Contains-append_left (if_back u (decide (map edge_of all) u.to u.from)) (circle_faults decide all us) (circle_at u) (listed_here all u (decide (map edge_of all) u.to u.from) back)
listed decide all {used} (there {y = u} {xs = us} h) back =
    Contains-append_right (if_back u (decide (map edge_of all) u.to u.from)) (circle_faults decide all us) (circle_at used) (listed decide all h back)

to_circle : (all : List Usage) (f : Fault) → Lies all all f → CircleFault all f
to_circle all f l = record { used = l.used; among = l.among; back = l.back; is = l.is }

from_circle : (decide : DecidesWalks) (all : List Usage) (f : Fault) → CircleFault all f → Contains (circle_faults decide all all) f
from_circle decide all f c = subst (λ (g : Fault). Contains (circle_faults decide all all) g) (sym c.is) (listed decide all c.among c.back)

first_on_circle : (decide : DecidesWalks) (all : List Usage) → FirstIfAny (CircleFault all) (first_of (circle_faults decide all all))
first_on_circle decide all =
    FirstIfAny-map (λ f. Contains (circle_faults decide all all) f) (CircleFault all) (first_of (circle_faults decide all all)) (λ f c. to_circle all f (lies decide all all f c)) (from_circle decide all)
    (FirstIfAny-first_of (circle_faults decide all all))

-- what is told where each walk is decided
abbrev told : DecidesWalks → List FileRow → Option (List ℕ) → Option Fault
told decide rows wanted =
    earlier_of (first_of (declaration_faults rows wanted))
    (earlier_of (first_of (circle_faults decide (component_usages rows) (component_usages rows))) (first_of (circle_faults decide (struct_usages rows) (struct_usages rows))))

pub some-first : DecidesWalks → (rows : List FileRow) (wanted : Option (List ℕ)) → SomeFirst rows wanted
some-first decide rows wanted = record {
  fault = told decide rows wanted;
  first = first-of-all rows wanted (first_of (declaration_faults rows wanted)) (first_of (circle_faults decide (component_usages rows) (component_usages rows)))
      (first_of (circle_faults decide (struct_usages rows) (struct_usages rows)))
      (earlier_of (first_of (circle_faults decide (component_usages rows) (component_usages rows))) (first_of (circle_faults decide (struct_usages rows) (struct_usages rows)))) (told decide rows wanted)
      refl (first_on_circle decide (component_usages rows)) (first_on_circle decide (struct_usages rows)) refl refl;
}
