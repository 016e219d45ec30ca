-- The way through the expanded tree, task by task.
use Rattle.std.specs.Prelude.{ℕ, List, [], ◌∷◌, ◌++◌, insert, length, map, reverse, Option, Some}
use Rattle.std.proofs.Common.{◌≡◌, refl, sym, ap, ◌∙◌, ◌+◌, ◌-◌, ◌<◌, ◌≤◌, arith, append_assoc, drop, take}
use Rattle.std.proofs.lemmas.List.{drop_all, reverse-append, take_all}
use Rattle.typed_tree.specs.declared.outlines.Slot.{Slot}
use Rattle.typed_tree.specs.declared.trees.TypedComponent.{TypedComponent}
use Rattle.expanded_tree.specs.declared.bodies.Body.{Body}
use Rattle.expanded_tree.specs.declared.bodies.Place.{Place}
use Rattle.expanded_tree.specs.declared.bodies.Spot.{Spot}
use Rattle.expanded_tree.specs.declared.elements.ExpandedElement.{ExpandedElement}
use Rattle.expanded_tree.specs.declared.tasks.Around.{Around}
use Rattle.expanded_tree.specs.declared.tasks.Task.{Task}
use Rattle.expanded_tree.specs.declared.tasks.Task.TheVariants as task
use Rattle.expanded_tree.specs.Order.{entering, in_order, inside, parts, placed_behind, repeaters_at, told, with_placed, with_slot}
use Rattle.expanded_tree.specs.Places.{innermost, type_at}
use Rattle.typed_tree.specs.Bases.{kind_of}
use Rattle.inliner.proofs.Grows.{one_less}

-- a task among others
pub at_the_end : (tasks : List Task) (n : ℕ) (placed : Task) {all : List Task} → length tasks ≤ n → all ≡ tasks ++ placed ∷ [] → all ≡ insert tasks n placed
at_the_end tasks n placed past is = is ∙ sym (ap (λ xs. xs ++ placed ∷ drop n tasks) (take_all n tasks past) ∙ ap (λ xs. tasks ++ placed ∷ xs) (drop_all n tasks past))

pub among : (tasks : List Task) (n : ℕ) (placed : Task) {front back first second all : List Task} → front ≡ take n tasks → back ≡ drop n tasks
    → first ≡ [] ++ front → second ≡ first ++ placed ∷ [] → all ≡ second ++ back → all ≡ insert tasks n placed
among tasks n placed {front = front} {back = back} a b x y z = rw (z, y, x, a, b) (append_assoc (take n tasks) (placed ∷ []) (drop n tasks))

pub inside_is : (b e : ℕ) (around : Around) (slot : Option Slot) (children : List ℕ) {n : ℕ} {row : List ℕ} {tasks all : List Task} {place : Option ℕ} → row ≡ children
    → tasks ≡ map (entering b around) row → place ≡ placed_behind slot e n → n ≡ length tasks → all ≡ with_placed place (task.Placed b around) tasks
    → all ≡ with_slot b e around slot (map (entering b around) children)
inside_is b e around slot children rows goes places counts k = rw (k, places, counts, goes, rows) refl

pub entered_tasks : (comps : List TypedComponent) (bodies : List Body) (places : List Place) (spot : Spot) (around : Around) {last : Spot} {n len repeaters : ℕ} {tasks : List Task}
    → last ≡ innermost bodies places spot → repeaters ≡ repeaters_at comps bodies spot around → len ≡ n
    → tasks ≡ inside comps bodies last (record { element = Some len; repeaters = repeaters }) → tasks ≡ parts comps bodies places n (task.Enter spot around)
entered_tasks comps bodies places spot around a b d k = rw (k, a, b, d) refl

pub entered_element : (comps : List TypedComponent) (bodies : List Body) (places : List Place) (spot : Spot) (around : Around) (elements : List ExpandedElement)
    {last : Spot} {repeaters : ℕ} {more : List ExpandedElement} → last ≡ innermost bodies places spot → repeaters ≡ repeaters_at comps bodies spot around
    → more ≡ elements ++ record { spot = spot; kind = kind_of (type_at comps bodies last); parent = around.element; repeaters = repeaters } ∷ []
    → more ≡ told comps bodies places elements (task.Enter spot around)
entered_element comps bodies places spot around elements a b k = rw (k, a, b) refl

-- ---- the stack, whose top is its end

pub one_pushed : (tasks rest stack : List Task) (t : Task) {stack2 all : List Task} → tasks ≡ rest ++ t ∷ [] → stack2 ≡ stack ++ t ∷ []
    → tasks ++ reverse stack ≡ all → rest ++ reverse stack2 ≡ all
one_pushed tasks rest stack t is goes k =
    ap (λ xs. rest ++ reverse xs) goes ∙ ap (λ xs. rest ++ xs) (reverse-append stack (t ∷ []))
    ∙ sym (append_assoc rest (t ∷ []) (reverse stack)) ∙ ap (λ xs. xs ++ reverse stack) (sym is) ∙ k

popped : (stack rest : List Task) (t : Task) → stack ≡ rest ++ t ∷ [] → reverse stack ≡ t ∷ reverse rest
popped stack rest t is = ap reverse is ∙ reverse-append rest (t ∷ [])

pub order_goes : (comps : List TypedComponent) (bodies : List Body) (places : List Place) (n i : ℕ) (elements : List ExpandedElement) (stack rest : List Task) (t : Task) (stack2 : List Task)
    {elements2 all : List ExpandedElement} {tasks : List Task} → i < n → stack ≡ rest ++ t ∷ [] → elements2 ≡ told comps bodies places elements t
    → tasks ≡ parts comps bodies places (length elements) t → reverse stack2 ≡ tasks ++ reverse rest
    → in_order (n - i) comps bodies places elements (reverse stack) ≡ all → in_order (n - (i + 1)) comps bodies places elements2 (reverse stack2) ≡ all
order_goes comps bodies places n i elements stack rest t stack2 h is adds made pushes k =
    ap (λ es. in_order (n - (i + 1)) comps bodies places es (reverse stack2)) adds
    ∙ ap (λ ts. in_order (n - (i + 1)) comps bodies places (told comps bodies places elements t) ts) (pushes ∙ ap (λ ts. ts ++ reverse rest) made)
    ∙ ap (λ m. in_order m comps bodies places elements (t ∷ reverse rest)) (sym (one_less n i h))
    ∙ ap (λ ts. in_order (n - i) comps bodies places elements ts) (sym (popped stack rest t is))
    ∙ k

pub order_stops : (comps : List TypedComponent) (bodies : List Body) (places : List Place) (n : ℕ) (elements : List ExpandedElement) (stack : List Task) {all : List ExpandedElement}
    → stack ≡ [] → in_order n comps bodies places elements (reverse stack) ≡ all → elements ≡ all
order_stops comps bodies places n elements stack is k = sym (ap (λ ts. in_order n comps bodies places elements (reverse ts)) is) ∙ k

no_tasks : (comps : List TypedComponent) (bodies : List Body) (places : List Place) (elements : List ExpandedElement) (ts : List Task) → in_order 0 comps bodies places elements ts ≡ elements
no_tasks comps bodies places elements [] = refl
no_tasks comps bodies places elements (t ∷ ts) = refl

pub order_ends : (comps : List TypedComponent) (bodies : List Body) (places : List Place) (n i : ℕ) (elements : List ExpandedElement) (ts : List Task) {all : List ExpandedElement}
    → n ≤ i → in_order (n - i) comps bodies places elements ts ≡ all → elements ≡ all
order_ends comps bodies places n i elements ts past k =
    let done : n - i ≡ 0 = omega arith in
    sym (ap (λ m. in_order m comps bodies places elements ts) done ∙ no_tasks comps bodies places elements ts) ∙ k
