-- Lists that are taken from their ends, last first.
use Rattle.std.proofs.Common.{◌≡◌, List, [], ◌∷◌, ◌++◌, length, reverse, drop, ℕ, suc, ◌+◌, refl, sym, ◌∙◌, ap, append_assoc, arith}
use Rattle.std.specs.Prelude.{slice_get}
use Rattle.std.proofs.lemmas.List.{append-nil, reverse-append, length-append}
use Rattle.typed_tree.specs.declared.outlines.ComponentOutline.{ComponentOutline}
use Rattle.typed_tree.specs.declared.outlines.GlobalOutline.{GlobalOutline}
use Rattle.typed_tree.specs.declared.members.Member.{Member}
use Rattle.typed_tree.specs.declared.members.MemberKind.{MemberKind}
use Rattle.source_outline.specs.Following.{comp_with, comps_with, global_with, globals_with, with_kind, with_kinds}

taken_last : {X : Type 0} (left rest : List X) (x : X) → left ≡ rest ++ x ∷ [] → reverse left ≡ x ∷ reverse rest
taken_last left rest x e = ap reverse e ∙ reverse-append rest (x ∷ [])

-- a turn: what comes of the first item that is left is added, and those behind it are left
pub pop_turn : {X Y : Type 0} (F G : List X → List Y) (y : Y) (x : X) (left rest : List X) (out next whole : List Y)
    → F (x ∷ reverse rest) ≡ y ∷ G (reverse rest) → left ≡ rest ++ x ∷ [] → next ≡ out ++ y ∷ [] → out ++ F (reverse left) ≡ whole → next ++ G (reverse rest) ≡ whole
pop_turn F G y x left rest out next whole step e added is =
    ap (λ ys. ys ++ G (reverse rest)) added
    ∙ append_assoc out (y ∷ []) (G (reverse rest))
    ∙ ap (λ ys. out ++ ys) (sym step)
    ∙ ap (λ xs. out ++ F xs) (sym (taken_last left rest x e))
    ∙ is

pub pop_ended : {X Y : Type 0} (F : List X → List Y) (left : List X) (out whole : List Y) → F [] ≡ [] → left ≡ [] → out ++ F (reverse left) ≡ whole → out ≡ whole
pop_ended F left out whole none e is = sym (append-nil out) ∙ ap (λ ys. out ++ ys) (sym none) ∙ ap (λ xs. out ++ F (reverse xs)) (sym e) ∙ is

one_longer : {Y : Type 0} (out next : List Y) (y : Y) → next ≡ out ++ y ∷ [] → suc (length out) ≡ length next
one_longer out next y e = let l : length next ≡ length (out ++ y ∷ []) = ap length e in let a : length (out ++ y ∷ []) ≡ length out + 1 = length-append out (y ∷ []) in omega arith

pub kinds_turn : (kinds : List MemberKind) (x made : Member) (left rest out next whole : List Member)
    → left ≡ rest ++ x ∷ [] → made ≡ with_kind x (slice_get kinds (length out)) → next ≡ out ++ made ∷ []
    → out ++ with_kinds kinds (length out) (reverse left) ≡ whole → next ++ with_kinds kinds (length next) (reverse rest) ≡ whole
kinds_turn kinds x made left rest out next whole e made_is added is =
    ap (λ n. next ++ with_kinds kinds n (reverse rest)) (sym (one_longer out next made added))
    ∙ pop_turn (λ xs. with_kinds kinds (length out) xs) (λ xs. with_kinds kinds (suc (length out)) xs) (with_kind x (slice_get kinds (length out))) x left rest out next whole
    refl e (added ∙ ap (λ m. out ++ m ∷ []) made_is) is

pub comps_turn : (rest dropped : List MemberKind) (count : ℕ) (x made : ComponentOutline) (left more out next whole : List ComponentOutline)
    → left ≡ more ++ x ∷ [] → count ≡ length x.members → made ≡ comp_with rest x → next ≡ out ++ made ∷ [] → dropped ≡ drop count rest
    → out ++ comps_with rest (reverse left) ≡ whole → next ++ comps_with dropped (reverse more) ≡ whole
comps_turn rest dropped count x made left more out next whole e count_is made_is added dropped_is is =
    ap (λ r. next ++ comps_with r (reverse more)) (dropped_is ∙ ap (λ n. drop n rest) count_is)
    ∙ pop_turn (λ xs. comps_with rest xs) (λ xs. comps_with (drop (length x.members) rest) xs) (comp_with rest x) x left more out next whole
    refl e (added ∙ ap (λ m. out ++ m ∷ []) made_is) is

pub globals_turn : (rest dropped : List MemberKind) (count : ℕ) (x made : GlobalOutline) (left more out next whole : List GlobalOutline)
    → left ≡ more ++ x ∷ [] → count ≡ length x.members → made ≡ global_with rest x → next ≡ out ++ made ∷ [] → dropped ≡ drop count rest
    → out ++ globals_with rest (reverse left) ≡ whole → next ++ globals_with dropped (reverse more) ≡ whole
globals_turn rest dropped count x made left more out next whole e count_is made_is added dropped_is is =
    ap (λ r. next ++ globals_with r (reverse more)) (dropped_is ∙ ap (λ n. drop n rest) count_is)
    ∙ pop_turn (λ xs. globals_with rest xs) (λ xs. globals_with (drop (length x.members) rest) xs) (global_with rest x) x left more out next whole
    refl e (added ∙ ap (λ m. out ++ m ∷ []) made_is) is
