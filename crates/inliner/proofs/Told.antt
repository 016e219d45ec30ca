-- The first fault of a list.
use Rattle.std.specs.Prelude.{List, Option, Contains}
use Rattle.std.proofs.Common.{◌≡◌, subst, sym}
use Rattle.slint_base.specs.declared.faults.Fault.{Fault}
use Rattle.fault_order.specs.Order.{FirstIfAny, first_of}
use Rattle.fault_order.proofs.First.{FirstIfAny-first_of}

pub told_first : (xs : List Fault) (told : Option Fault) → told ≡ first_of xs → FirstIfAny (λ f. Contains xs f) told
told_first xs told is = subst (λ o. FirstIfAny (λ f. Contains xs f) o) (sym is) (FirstIfAny-first_of xs)
