-- Results that break no rule on missing files.
use Rattle.std.specs.Option.{option_map, option_or}
use Rattle.std.proofs.Common.{if◌then◌else◌, ◌≡◌, Bool, true, false, Option, Some, None, Result, Ok, Err, subst}
use Rattle.slint_base.specs.declared.faults.Fault.{Fault}
use Rattle.slint_base.specs.declared.rules.Rule.{Rule}
use Rattle.name_lookup.specs.declared.meanings.Meaning.{Meaning}
use Rattle.name_lookup.specs.Names.{Lookup}
use Rattle.expr_rules.specs.Denotations.{on_ok}
use Rattle.source_faults.proofs.Others.{IsOther, is_missing}

-- a result, or another rule
pub data OrRule {A : Type 0} : Result A Rule → Type 0 where
  sound : {a : A} → OrRule (Ok a)
  breach : {rule : Rule} → is_missing rule ≡ false → OrRule (Err rule)

-- a result, or a fault of another rule
pub data OrFault {A : Type 0} : Result A Fault → Type 0 where
  fine : {a : A} → OrFault (Ok a)
  fault : {f : Fault} → IsOther f → OrFault (Err f)

pub data OrLost : Lookup → Type 0 where
  lost : OrLost None
  met : {r : Result Meaning Rule} → OrRule r → OrLost (Some r)

pub if_rule : {A : Type 0} (b : Bool) (x y : Result A Rule) → OrRule x → OrRule y → OrRule (if b then x else y)
if_rule true x y p q = p
if_rule false x y p q = q

pub if_fault : {A : Type 0} (b : Bool) (x y : Result A Fault) → OrFault x → OrFault y → OrFault (if b then x else y)
if_fault true x y p q = p
if_fault false x y p q = q

pub if_lost : (b : Bool) (x y : Lookup) → OrLost x → OrLost y → OrLost (if b then x else y)
if_lost true x y p q = p
if_lost false x y p q = q

pub or_lost : (x y : Lookup) → OrLost x → OrLost y → OrLost (option_or x y)
or_lost None y p q = q
or_lost (Some r) y p q = p

pub mapped : {A : Type 0} (f : A → Result Meaning Rule) → ((a : A) → OrRule (f a)) → (o : Option A) → OrLost (option_map f o)
mapped f p None = lost
mapped f p (Some a) = met (p a)

pub going_on : {A B : Type 0} (r : Result A Fault) (go : A → Result B Fault) → OrFault r → ((a : A) → OrFault (go a)) → OrFault (on_ok r go)
going_on (Ok a) go p q = q a
going_on (Err f) go (fault p) q = fault p

-- a fault, if it is one, is of another rule
abbrev MayFault : {A : Type 0} → Result A Fault → Type 0
MayFault (Ok a) = Unit {0}
MayFault (Err f) = IsOther f

may_fault : {A : Type 0} (r : Result A Fault) → OrFault r → MayFault r
may_fault (Ok a) p = tt
may_fault (Err f) (fault p) = p

pub other_if : {A : Type 0} (r : Result A Fault) (f : Fault) → OrFault r → r ≡ Err f → IsOther f
other_if r f p e = subst MayFault e (may_fault r p)
