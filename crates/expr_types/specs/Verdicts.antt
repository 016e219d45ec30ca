-- What is told of a node, or of a list of nodes: what they come to, or the first of the faults in them.
use Rattle.std.specs.Prelude.{List, [], ◌∷◌, ◌++◌, Option, Some, None, Result, Ok, Err}
use Rattle.slint_base.specs.declared.faults.Fault.{Fault}
use Rattle.syntax_tree.specs.declared.expressions.Expr.{Expr}
use Rattle.syntax_tree.specs.declared.statements.AssignOp.{AssignOp}
use Rattle.typed_tree.specs.Scopes.{ScopeValue}
use Rattle.expr_rules.specs.declared.judged.Judged.{Judged}
use Rattle.fault_order.specs.Order.{IsFirst}
use Rattle.expr_types.specs.Judgement.{ComesTo, AllCome, FaultIn, FaultAmong}
use Rattle.expr_types.specs.Nodes.{Node, later_parts, right_side}
use Rattle.expr_types.specs.Typing.{typing}

abbrev pub Verdict : Type 0
Verdict = Result Judged Fault

abbrev pub Verdicts : Type 0
Verdicts = Result (List Judged) Fault

-- what a node comes to, or the first fault in it
pub data Tells (s : ScopeValue) (n : Node) : Verdict → Type 0 where
  something : {x : Judged} → ComesTo Node Judged Fault (typing s) n x → Tells s n (Ok x)
  fault : {f : Fault} → IsFirst (FaultIn Node Judged Fault (typing s) n) f → Tells s n (Err f)

-- what nodes come to, or the first fault in any of them
pub data Seen (s : ScopeValue) (ns : List Node) : Verdicts → Type 0 where
  all : {xs : List Judged} → AllCome Node Judged Fault (typing s) ns xs → Seen s ns (Ok xs)
  some_fault : {f : Fault} → IsFirst (FaultAmong Node Judged Fault (typing s) ns) f → Seen s ns (Err f)

-- what is told of further nodes is put behind what is told of some before them
abbrev pub Adds : ScopeValue → List Node → Verdicts → Verdicts → Type 0
Adds s more from to = (ns : List Node) → Seen s ns from → Seen s (ns ++ more) to

-- what is told of the further parts of a node, where its parts have come to something
abbrev pub SeenLater : ScopeValue → Node → Verdicts → Verdicts → Type 0
SeenLater s n (Ok xs) later = Seen s (later_parts s n xs) later
SeenLater s n (Err f) later = Unit {0}

-- what the first of the parts of a node comes to, where all come to something
abbrev pub first_come : Verdicts → Option Judged
first_come (Ok []) = None
first_come (Ok (x ∷ xs)) = Some x
first_come (Err f) = None

-- the right side of `=`, where what is assigned has come to something
abbrev pub SeenRight : ScopeValue → AssignOp → Expr → Verdicts → Verdicts → Type 0
SeenRight s op right (Ok xs) later = Seen s (right_side s op right xs) later
SeenRight s op right (Err f) later = Unit {0}
