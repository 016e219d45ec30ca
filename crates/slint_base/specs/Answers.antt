-- What a call that takes memory answers, against what its definition gives.
use Rattle.std.specs.Prelude.{◌≡◌, ⊤, Result, Ok, Err}
use Rattle.slint_base.specs.declared.endings.End.{End}
use Rattle.slint_base.specs.declared.endings.End.TheVariants as ends

-- the same value, seen by view, or the same fault, unless memory ran out
abbrev pub Gives : {X Y F : Type 0} → (X → Y) → Result X (End F) → Result Y F → Type 0
Gives view (Ok x) given = given ≡ Ok (view x)
Gives view (Err (ends.Fault f)) given = given ≡ Err f
Gives view (Err ends.Memory) given = ⊤
