-- What it is for something to come to a result and to break rules, and how that goes over to what is made of several things. Nothing here knows the language.
use Rattle.std.specs.Prelude.{◌≡◌, ◌⊎◌, List, [], ◌∷◌, ◌++◌, Option, Some, None, Result, Ok, Err}
use Rattle.slint_base.specs.declared.faults.Fault.{Fault}
use Rattle.fault_order.specs.Order.{IsFirst, earlier_fault}

-- the results to which something comes, and the rules that it breaks
pub record Judging (X : Type 0) : Type 1 where
  pub comes : X → Type 0
  pub breaks : Fault → Type 0

-- what is known at once: a result, or a broken rule
abbrev pub at_once : {X : Type 0} → Result X Fault → Judging X
at_once (Ok x) = record { comes = λ y. y ≡ x; breaks = λ f. ⊥ }
at_once (Err g) = record { comes = λ y. ⊥; breaks = λ f. f ≡ g }

-- going on with what is known at once
abbrev pub going_on : {A X : Type 0} → Result A Fault → (A → Judging X) → Judging X
going_on (Ok a) go = go a
going_on (Err g) go = at_once (Err g)

-- a rule of the whole, which it breaks only where its part comes to something
abbrev pub owned : {X Y : Type 0} → Judging X → (X → Result Y Fault) → Judging Y
owned {X} part own = record {
  comes = λ y. (x : X) × (part.comes x) × (own x ≡ Ok y);
  breaks = λ f. part.breaks f ⊎ ((x : X) × (part.comes x) × (own x ≡ Err f));
}

-- what is made of a part, without a rule of its own
abbrev pub made : {X Y : Type 0} → Judging X → (X → Y) → Judging Y
made part make = owned part (λ x. Ok (make x))

-- two parts: the rules that either breaks are broken in both
abbrev pub both : {X Y : Type 0} → Judging X → Judging Y → Judging (X × Y)
both a b = record { comes = λ p. a.comes p.0 × b.comes p.1; breaks = λ f. a.breaks f ⊎ b.breaks f }

-- a list of parts
pub data AllCome {A X : Type 0} (Comes : A → X → Type 0) : List A → List X → Type 0 where
  none : AllCome Comes [] []
  more : {a : A} {rest : List A} {x : X} {xs : List X} → Comes a x → AllCome Comes rest xs → AllCome Comes (a ∷ rest) (x ∷ xs)

pub data OneBreaks {A : Type 0} (Breaks : A → Fault → Type 0) : List A → Fault → Type 0 where
  first : {a : A} {rest : List A} {f : Fault} → Breaks a f → OneBreaks Breaks (a ∷ rest) f
  behind : {a : A} {rest : List A} {f : Fault} → OneBreaks Breaks rest f → OneBreaks Breaks (a ∷ rest) f

abbrev pub each : {A X : Type 0} → (A → Judging X) → List A → Judging (List X)
each part parts = record { comes = AllCome (λ a. (part a).comes) parts; breaks = OneBreaks (λ a. (part a).breaks) parts }

-- a part that may be there
abbrev pub optional : {A X : Type 0} → (A → Judging X) → Option A → Judging (Option X)
optional part None = at_once (Ok None)
optional part (Some a) = made (part a) (λ x. Some x)

-- one way, or where a rule is broken on it another one: where both break rules, those of the first way are told, or those of the second one
abbrev pub either : {X : Type 0} → Judging X → Judging X → X → Type 0
either one other x = one.comes x ⊎ (((f : Fault) × one.breaks f) × other.comes x)

abbrev pub or_else : {X : Type 0} → Judging X → Judging X → Judging X
or_else one other = record { comes = either one other; breaks = λ f. one.breaks f × ((g : Fault) × other.breaks g) }

abbrev pub or_as : {X : Type 0} → Judging X → Judging X → Judging X
or_as one other = record { comes = either one other; breaks = λ f. ((g : Fault) × one.breaks g) × other.breaks f }

-- what is told: a result, or of the rules that are broken the first one
pub data Tells {X : Type 0} (judging : Judging X) : Result X Fault → Type 0 where
  something : {x : X} → judging.comes x → Tells judging (Ok x)
  fault : {f : Fault} → IsFirst judging.breaks f → Tells judging (Err f)

-- of two that are told both results, or the first fault
abbrev pub both_told : {X Y : Type 0} → Result X Fault → Result Y Fault → Result (X × Y) Fault
both_told (Ok x) (Ok y) = Ok (x, y)
both_told (Ok x) (Err g) = Err g
both_told (Err f) (Ok y) = Err f
both_told (Err f) (Err g) = Err (earlier_fault f g)

-- of what is told of parts and of one more
abbrev pub added : {X : Type 0} → Result (List X) Fault → Result X Fault → Result (List X) Fault
added (Ok xs) (Ok x) = Ok (xs ++ x ∷ [])
added (Ok xs) (Err g) = Err g
added (Err f) (Ok x) = Err f
added (Err f) (Err g) = Err (earlier_fault f g)

-- something is told: a result, or a first fault
pub data Told {X : Type 0} (judging : Judging X) : Type 0 where
  told : {v : Result X Fault} → Tells judging v → Told judging
