-- The paths through statements, one statement after the other.
use Rattle.std.proofs.Common.{◌≡◌, ℕ, ◌+◌, ◌<◌, Bool, true, false, List, [], ◌∷◌, ◌++◌, length, get_or, take, map, refl, sym, ap, ◌∙◌, add-one}
use Rattle.std.proofs.Math.Seq.{take-suc}
use Rattle.std.proofs.lemmas.List.{map-append}
use Rattle.syntax_tree.specs.declared.statements.Stmt.{Stmt}
use Rattle.expr_rules.specs.Paths.{Paths, all_in_turn, each_paths, in_turn, paths_of}

-- parts in turn may be put together in any order
in_turn_of : (gives returns bare : Bool) (q r : Paths) → let p : Paths = record { gives = gives; returns = returns; bare = bare } in in_turn (in_turn p q) r ≡ in_turn p (in_turn q r)
in_turn_of gives true true q r = refl
in_turn_of gives true false q r = refl
in_turn_of gives false true q r = refl
in_turn_of gives false false q r = refl

pub in_turn_assoc : (p q r : Paths) → in_turn (in_turn p q) r ≡ in_turn p (in_turn q r)
in_turn_assoc p q r = in_turn_of p.gives p.returns p.bare q r

-- one part more behind the others
pub one_more : (ps : List Paths) (p : Paths) → all_in_turn (ps ++ p ∷ []) ≡ in_turn (all_in_turn ps) p
one_more [] p = refl
one_more (q ∷ []) p = refl
one_more (q ∷ r ∷ rest) p = ap (in_turn q) (one_more (r ∷ rest) p) ∙ sym (in_turn_assoc q (all_in_turn (r ∷ rest)) p)

-- the next statement
pub next_paths : (stmts : List Stmt) (i : ℕ) (s : Stmt) → i < length stmts → s ≡ get_or stmts i s
    → all_in_turn (map paths_of (take (i + 1) stmts)) ≡ in_turn (all_in_turn (map paths_of (take i stmts))) (paths_of s)
next_paths stmts i s within at =
    let front : take (i + 1) stmts ≡ take i stmts ++ s ∷ [] = ap (λ n. take n stmts) (add-one i) ∙ take-suc stmts i s within ∙ ap (λ x. take i stmts ++ x ∷ []) (sym at) in
    ap (λ ss. all_in_turn (map paths_of ss)) front ∙ ap all_in_turn (map-append paths_of (take i stmts) (s ∷ [])) ∙ one_more (map paths_of (take i stmts)) (paths_of s)

-- each statement's paths
pub each-map : (stmts : List Stmt) → each_paths stmts ≡ map paths_of stmts
each-map [] = refl
each-map (s ∷ ss) = ap (λ ps. paths_of s ∷ ps) (each-map ss)
