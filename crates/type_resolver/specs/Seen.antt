-- What is told of the items of a body so far, without those that come to nothing.
use Rattle.std.specs.Prelude.{List, [], ◌∷◌, ◌++◌, Option, Some, None, Result, Ok, Err}
use Rattle.slint_base.specs.declared.faults.Fault.{Fault}
use Rattle.typed_tree.specs.declared.trees.TypedItem.{TypedItem}
use Rattle.fault_order.specs.Order.{earlier_fault}
use Rattle.type_resolver.specs.Bodies.{somes}

-- with what is told of one more item
abbrev pub with_item : Result (List TypedItem) Fault → Result (Option TypedItem) Fault → Result (List TypedItem) Fault
with_item (Ok xs) (Ok None) = Ok xs
with_item (Ok xs) (Ok (Some x)) = Ok (xs ++ x ∷ [])
with_item (Ok xs) (Err g) = Err g
with_item (Err f) (Ok x) = Err f
with_item (Err f) (Err g) = Err (earlier_fault f g)

-- only those that come to something
abbrev pub without_none : Result (List (Option TypedItem)) Fault → Result (List TypedItem) Fault
without_none (Ok xs) = Ok (somes xs)
without_none (Err f) = Err f
