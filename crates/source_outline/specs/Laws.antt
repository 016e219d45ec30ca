-- What a law tells of links in circles.
use Rattle.std.specs.Prelude.{List, Option}
use Rattle.slint_base.specs.declared.faults.Fault.{Fault}
use Rattle.fault_order.specs.Order.{FirstIfAny}
use Rattle.import_resolver.specs.Loaded.{FileRow}
use Rattle.source_outline.specs.Following.{EndlessLink}

-- the first endless link, if there is one
pub record SomeFirst (rows : List FileRow) : Type 0 where
  pub fault : Option Fault
  pub first : FirstIfAny (EndlessLink rows) fault
