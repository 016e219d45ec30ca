-- A node comes to one thing, and where it comes to something it breaks no rule.
use Rattle.std.proofs.Common.{◌≡◌, List, Ok, Err, refl, sym, subst}
use Rattle.std.specs.Prelude.{◌∷◌}
use Rattle.expr_types.specs.Judgement.{Rules, ComesTo, comes, AllCome, none, more, FaultIn, here, in_part, in_later, FaultAmong, first, behind}

-- what a node comes to by itself, of parts that are the same
own_same : {N X F : Type 0} (r : Rules N X F) (n : N) (xs us ys vs : List X) (x y : X) → xs ≡ us → ys ≡ vs → r.own n xs ys ≡ Ok x → r.own n us vs ≡ Ok y → x ≡ y
own_same r n xs us ys vs x y p q e f = cc

own_apart : {N X F : Type 0} (r : Rules N X F) (n : N) (xs us ys vs : List X) (x : X) (g : F) → xs ≡ us → ys ≡ vs → r.own n xs ys ≡ Ok x → r.own n us vs ≡ Err g → ⊥
own_apart r n xs us ys vs x g p q e f = cc

onto_same : {X : Type 0} (x y : X) (xs ys : List X) → x ≡ y → xs ≡ ys → x ∷ xs ≡ y ∷ ys
onto_same x y xs ys p q = cc

-- further parts, of first parts that are the same
moved : {N X F : Type 0} (r : Rules N X F) (n : N) (xs us vs : List X) → us ≡ xs → AllCome N X F r (r.later n us) vs → AllCome N X F r (r.later n xs) vs
moved {N} {X} {F} r n xs us vs p a = let P : List X → Type 0 = λ z. AllCome N X F r (r.later n z) vs in subst P p a

mutual
  pub one_thing : {N X F : Type 0} {r : Rules N X F} {n : N} {x y : X} → ComesTo N X F r n x → ComesTo N X F r n y → x ≡ y
  one_thing {N} {X} {F} {r} (comes {n} {xs} {ys} {x} a b e) (comes {xs = us} {ys = vs} {x = y} c d f) =
      own_same r n xs us ys vs x y (all_one a c) (all_one b (moved r n xs us vs (sym (all_one a c)) d)) e f

  pub all_one : {N X F : Type 0} {r : Rules N X F} {ns : List N} {xs ys : List X} → AllCome N X F r ns xs → AllCome N X F r ns ys → xs ≡ ys
  all_one none none = refl
  all_one (more {x = x} {xs = xs} a as') (more {x = y} {xs = ys} b bs) = onto_same x y xs ys (one_thing a b) (all_one as' bs)

mutual
  pub no_fault : {N X F : Type 0} {r : Rules N X F} {n : N} {x : X} {f : F} → FaultIn N X F r n f → ComesTo N X F r n x → ⊥
  no_fault {N} {X} {F} {r} (here {n} {xs} {ys} {f} a b e) (comes {xs = us} {ys = vs} {x = x} c d g) =
      own_apart r n us xs vs ys x f (all_one c a) (all_one d (moved r n us xs ys (all_one a c) b)) g e
  no_fault (in_part k) (comes c d g) = no_fault_among k c
  no_fault {N} {X} {F} {r} (in_later {n} {xs} {f} a k) (comes {xs = us} {ys = vs} {x = x} c d g) = no_fault_among k (moved r n xs us vs (all_one c a) d)

  pub no_fault_among : {N X F : Type 0} {r : Rules N X F} {ns : List N} {xs : List X} {f : F} → FaultAmong N X F r ns f → AllCome N X F r ns xs → ⊥
  no_fault_among (first k) (more a as') = no_fault k a
  no_fault_among (behind k) (more a as') = no_fault_among k as'
