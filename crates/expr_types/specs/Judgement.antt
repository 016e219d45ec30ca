-- What it is for the nodes of a tree to come to something, and to break rules. Nothing here knows the language.
use Rattle.std.specs.Prelude.{◌≡◌, List, [], ◌∷◌, Result, Ok, Err}

-- the rules of a language of nodes N, which come to X or break it by F: the parts of a node; further parts, which are known once the first
-- ones have come to something; and what a node comes to, once all its parts have
pub record Rules (N X F : Type 0) : Type 0 where
  pub parts : N → List N
  pub later : N → List X → List N
  pub own : N → List X → List X → Result X F

mutual
  -- a node comes to something where all its parts do and it breaks no rule itself
  pub data ComesTo (N X F : Type 0) (rules : Rules N X F) : N → X → Type 0 where
    comes : {n : N} {xs ys : List X} {x : X} → AllCome N X F rules (rules.parts n) xs → AllCome N X F rules (rules.later n xs) ys → rules.own n xs ys ≡ Ok x → ComesTo N X F rules n x

  pub data AllCome (N X F : Type 0) (rules : Rules N X F) : List N → List X → Type 0 where
    none : AllCome N X F rules [] []
    more : {n : N} {ns : List N} {x : X} {xs : List X} → ComesTo N X F rules n x → AllCome N X F rules ns xs → AllCome N X F rules (n ∷ ns) (x ∷ xs)

mutual
  -- a rule that is broken in a node: by the node itself, only where all its parts come to something, or in one of its parts
  pub data FaultIn (N X F : Type 0) (rules : Rules N X F) : N → F → Type 0 where
    here : {n : N} {xs ys : List X} {f : F} → AllCome N X F rules (rules.parts n) xs → AllCome N X F rules (rules.later n xs) ys → rules.own n xs ys ≡ Err f → FaultIn N X F rules n f
    in_part : {n : N} {f : F} → FaultAmong N X F rules (rules.parts n) f → FaultIn N X F rules n f
    in_later : {n : N} {xs : List X} {f : F} → AllCome N X F rules (rules.parts n) xs → FaultAmong N X F rules (rules.later n xs) f → FaultIn N X F rules n f

  pub data FaultAmong (N X F : Type 0) (rules : Rules N X F) : List N → F → Type 0 where
    first : {n : N} {ns : List N} {f : F} → FaultIn N X F rules n f → FaultAmong N X F rules (n ∷ ns) f
    behind : {n : N} {ns : List N} {f : F} → FaultAmong N X F rules ns f → FaultAmong N X F rules (n ∷ ns) f
