-- What the owner of all nodes owns and lends.
use Rattle.std.specs.Prelude.{List, [], ◌∷◌}
use base.Fml.{Lft, Fml, ftrue, fsep}
use mir.Syntax.{Ty}
use denote.RawPtr.{Ptr}
use denote.Sharing.{nothing, beside}
use denote.Struct.Lending.{lent_at}
use Rattle.std.specs.contracts.impls.GlobalAllocator.TheImpl.{ghosts}
use Rattle.std_alloc.specs.Box.Ownership.{box_owns}
use Rattle.dep_list.specs.declared.node.Node.{Node}
use Rattle.dep_list.specs.contracts.node.Node.{the_row}

-- the right to free a block, which is the same for every handle to the heap
abbrev pub chunk : Ty → Ptr → Fml
chunk = ghosts.dealloc_token (record { memory = record { seal = tt } })

-- each node's memory, and the right to free its block
abbrev pub cells_own : List (Ptr × Node) → Fml
cells_own [] = ftrue
cells_own (c ∷ cs) = fsep (box_owns chunk the_row c.0 c.1) (cells_own cs)

-- each node, shared
abbrev pub cells_lent : List (Ptr × Node) → Lft → Fml
cells_lent [] = nothing
cells_lent (c ∷ cs) = beside (lent_at the_row c.0 c.1) (cells_lent cs)
