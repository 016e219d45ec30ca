-- What is broken by what is made of several things.
use Rattle.std.proofs.Common.{inl, inr, List, [], ◌∷◌, Option, Some, None, Result, Ok, Err, sym, subst}
use Rattle.slint_base.specs.declared.faults.Fault.{Fault}
use Rattle.item_types.specs.Judging.{Judging, OneBreaks, at_once, both, each, first, behind, going_on, made, optional, or_as, or_else, owned}
use Rattle.type_resolver.specs.Bodies.{followed}
use Rattle.source_faults.proofs.Others.{IsOther}
use Rattle.source_faults.proofs.Results.{OrFault, fault, fine, other_if}

-- something breaks other rules alone
pub record Others {X : Type 0} (j : Judging X) : Type 0 where
  pub each : (f : Fault) → j.breaks f → IsOther f

once_by : {X : Type 0} (r : Result X Fault) → OrFault r → (f : Fault) → (at_once r).breaks f → IsOther f
once_by (Ok x) p f b = absurd b
once_by (Err g) (fault p) f b = subst IsOther (sym b) p

pub known : {X : Type 0} (r : Result X Fault) → OrFault r → Others (at_once r)
known r p = record { each = once_by r p }

pub onward : {A X : Type 0} (r : Result A Fault) (go : A → Judging X) → OrFault r → ((a : A) → Others (go a)) → Others (going_on r go)
onward (Ok a) go p q = q a
onward (Err g) go (fault p) q = known (Err g) (fault p)

owned_by : {X Y : Type 0} (part : Judging X) (own : X → Result Y Fault) → Others part → ((x : X) → OrFault (own x)) → (f : Fault) → (owned part own).breaks f → IsOther f
owned_by part own p q f (inl b) = p.each f b
owned_by part own p q f (inr (x, c, e)) = other_if (own x) f (q x) e

pub whole : {X Y : Type 0} (part : Judging X) (own : X → Result Y Fault) → Others part → ((x : X) → OrFault (own x)) → Others (owned part own)
whole part own p q = record { each = owned_by part own p q }

pub same : {X Y : Type 0} (part : Judging X) (make : X → Y) → Others part → Others (made part make)
same part make p = whole part (λ x. Ok (make x)) p (λ x. fine)

pair_by : {X Y : Type 0} (a : Judging X) (b : Judging Y) → Others a → Others b → (f : Fault) → (both a b).breaks f → IsOther f
pair_by a b p q f (inl c) = p.each f c
pair_by a b p q f (inr c) = q.each f c

pub pair : {X Y : Type 0} (a : Judging X) (b : Judging Y) → Others a → Others b → Others (both a b)
pair a b p q = record { each = pair_by a b p q }

each_by : {A X : Type 0} (part : A → Judging X) → ((a : A) → Others (part a)) → (parts : List A) (f : Fault) → OneBreaks (λ a. (part a).breaks) parts f → IsOther f
each_by part p [] f b = elim b [ ]
each_by part p (a ∷ rest) f (first b) = (p a).each f b
each_by part p (a ∷ rest) f (behind b) = each_by part p rest f b

pub all : {A X : Type 0} (part : A → Judging X) → ((a : A) → Others (part a)) → (parts : List A) → Others (each part parts)
all part p parts = record { each = each_by part p parts }

pub maybe : {A X : Type 0} (part : A → Judging X) → ((a : A) → Others (part a)) → (o : Option A) → Others (optional part o)
maybe part p None = known (Ok None) fine
maybe part p (Some a) = same (part a) (λ x. Some x) (p a)

pub first_way : {X : Type 0} (a b : Judging X) → Others a → Others (or_else a b)
first_way a b p = record { each = λ f c. p.each f c.0 }

pub second_way : {X : Type 0} (a b : Judging X) → Others b → Others (or_as a b)
second_way a b p = record { each = λ f c. p.each f c.1 }

next_by : {X Y : Type 0} (part : Judging X) (go : X → Judging Y) → Others part → ((x : X) → Others (go x)) → (f : Fault) → (followed part go).breaks f → IsOther f
next_by part go p q f (inl b) = p.each f b
next_by part go p q f (inr (x, c, b)) = (q x).each f b

pub next : {X Y : Type 0} (part : Judging X) (go : X → Judging Y) → Others part → ((x : X) → Others (go x)) → Others (followed part go)
next part go p q = record { each = next_by part go p q }
