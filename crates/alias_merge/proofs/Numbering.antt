-- Members are numbered block by block.
use Rattle.std.proofs.Common.{◌≡◌, ℕ, ◌+◌, ◌<◌, List, [], ◌∷◌, ◌++◌, length, get_or, drop, sym, ap, ◌∙◌, append_assoc}
use Rattle.std.specs.Prelude.{map, sum}
use Rattle.std.proofs.lemmas.List.{drop_more, length-append, length-map}
use Rattle.expanded_tree.specs.Trees.{ExpandedValue}
use Rattle.alias_merge.specs.declared.numbers.Block.{Block}
use Rattle.alias_merge.specs.declared.numbers.MemberNumbers.{MemberNumbers}
use Rattle.alias_merge.specs.Numbers.{blocks_from, body_size, count, element_size, global_size, numbers_of, sizes}

pub blocks_turn : (now new whole : List Block) (xs : List ℕ) (i d first past : ℕ) → i < length xs → now ++ blocks_from first (drop i xs) ≡ whole → past ≡ first + get_or xs i d
    → new ≡ now ++ record { first = first; past = past } ∷ [] → new ++ blocks_from past (drop (i + 1) xs) ≡ whole
blocks_turn now new whole xs i d first past l e p n =
    let block : ℕ → Block = λ k. record { first = first; past = k } in
    let rest = drop (i + 1) xs in
    ap (λ bs. bs ++ blocks_from past rest) n ∙ (append_assoc now (block past ∷ []) (blocks_from past rest)
    ∙ (ap (λ k. now ++ (record { first = first; past = k } ∷ blocks_from k rest)) p ∙ (sym (ap (λ ys. now ++ blocks_from first ys) (drop_more xs i d l)) ∙ e)))

abbrev made : ℕ → ℕ → ℕ → List Block → MemberNumbers
made bodies_from elements_from count blocks = record { bodies_from = bodies_from; elements_from = elements_from; count = count; blocks = blocks }

pub numbers_made : (e : ExpandedValue) (globals bodies elements : List ℕ) (bodies_from elements_from all : ℕ) (blocks : List Block) → globals ≡ map global_size e.tree.globals
    → bodies ≡ globals ++ map (body_size e.tree.comps) e.bodies → elements ≡ bodies ++ map element_size e.elements → bodies_from ≡ length globals → elements_from ≡ length bodies → all ≡ sum elements
    → blocks ≡ blocks_from 0 elements → record { bodies_from = bodies_from; elements_from = elements_from; count = all; blocks = blocks } ≡ numbers_of e
numbers_made e globals bodies elements bodies_from elements_from all blocks g b x f l c k =
    let sizes_are : elements ≡ sizes e = x ∙ ap (λ ys. ys ++ map element_size e.elements) (b ∙ ap (λ ys. ys ++ map (body_size e.tree.comps) e.bodies) g) in
    let from : bodies_from ≡ length e.tree.globals = f ∙ (ap (λ (xs : List ℕ). length xs) g ∙ length-map e.tree.globals global_size) in
    let behind : elements_from ≡ length e.tree.globals + length e.bodies =
    l ∙ (ap (λ (xs : List ℕ). length xs) b ∙ (length-append globals (map (body_size e.tree.comps) e.bodies)
    ∙ (ap (λ n. n + length (map (body_size e.tree.comps) e.bodies)) (ap (λ (xs : List ℕ). length xs) g ∙ length-map e.tree.globals global_size)
    ∙ ap (λ n. length e.tree.globals + n) (length-map e.bodies (body_size e.tree.comps))))) in
    ap (λ n. made n elements_from all blocks) from
    ∙ (ap (λ n. made (length e.tree.globals) n all blocks) behind
    ∙ (ap (λ n. made (length e.tree.globals) (length e.tree.globals + length e.bodies) n blocks) (c ∙ ap sum sizes_are)
    ∙ ap (made (length e.tree.globals) (length e.tree.globals + length e.bodies) (count e)) (k ∙ ap (blocks_from 0) sizes_are)))
