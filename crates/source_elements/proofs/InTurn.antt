-- Elements that are collected one part after the other.
use Rattle.std.proofs.Common.{◌≡◌, ℕ, suc, List, [], ◌∷◌, ◌++◌, ◌+◌, ◌<◌, ◌≤◌, length, drop, get_or, map, Option, Some, refl, sym, ◌∙◌, ap, append_assoc, add-one, length-append}
use Rattle.std.proofs.lemmas.List.{append-nil, drop_all}
use Rattle.std.proofs.Math.Seq.{drop-cons}
use Rattle.syntax_tree.specs.declared.items.Element.{Element, out-Element, fold_out-Element}
use Rattle.syntax_tree.specs.declared.items.Item.{Item}
use Rattle.syntax_tree.specs.declared.words.Ident.{Ident}
use Rattle.source_elements.specs.Elements.{WrittenElement, Elements, HowOften, OfItem, OfElement, OfFor, OfIf, in_turn, each_of, of_item, of_element, elements_of_item, elements_of_body, root_of_element, item_layer, element_layer, for_layer, if_layer}

-- what is left of a list at an item
from_item : (xs : List Item) (i : ℕ) (x : Item) → x ≡ get_or xs i x → i < length xs → drop i xs ≡ x ∷ drop (i + 1) xs
from_item xs i x e h = drop-cons xs i x h ∙ ap (λ y. y ∷ drop (suc i) xs) (sym e) ∙ ap (λ n. x ∷ drop n xs) (sym (add-one i))

-- a part is added, and what is left of the others
added : (out part : List WrittenElement) (rest : List Elements) (around : ℕ)
    → (out ++ part) ++ in_turn rest around (length (out ++ part)) ≡ out ++ (part ++ in_turn rest around (length out + length part))
added out part rest around = ap (λ n. (out ++ part) ++ in_turn rest around n) (length-append out part) ∙ append_assoc out part (in_turn rest around (length out + length part))

-- a turn of the loop over a body
pub turn : (items : List Item) (i : ℕ) (item : Item) (out next : List WrittenElement) (around : ℕ) → item ≡ get_or items i item → i < length items
    → next ≡ out ++ elements_of_item item around (length out)
    → next ++ elements_of_body (drop (i + 1) items) around (length next) ≡ out ++ elements_of_body (drop i items) around (length out)
turn items i item out next around e h added_is =
    ap (λ all. all ++ elements_of_body (drop (i + 1) items) around (length all)) added_is
    ∙ added out (elements_of_item item around (length out)) (map elements_of_item (drop (i + 1) items)) around
    ∙ ap (λ xs. out ++ elements_of_body xs around (length out)) (sym (from_item items i item e h))

-- behind the last item nothing is left
pub done : (items : List Item) (i : ℕ) (out : List WrittenElement) (around : ℕ) → length items ≤ i → out ++ elements_of_body (drop i items) around (length out) ≡ out
done items i out around h = ap (λ xs. out ++ elements_of_body xs around (length out)) (drop_all i items h) ∙ append-nil out

-- each part tells of itself
pub each_of-itself : (items : List Item) → each_of (map of_item items) items ≡ map elements_of_item items
each_of-itself [] = refl
each_of-itself (item ∷ items) = ap (λ more. of_item item item ∷ more) (each_of-itself items)

pub of_element-is : (element : Element) (around : Option ℕ) (repeating : HowOften) (n : ℕ)
    → of_element element element around repeating n ≡ root_of_element element around repeating ∷ elements_of_body (out-Element element).body n (suc n)
of_element-is element around repeating n =
    ap (λ (tells : OfElement). tells element around repeating n) (fold_out-Element OfItem OfElement OfFor OfIf item_layer element_layer for_layer if_layer element)
    ∙ ap (λ parts. root_of_element element around repeating ∷ in_turn parts n (suc n)) (each_of-itself (out-Element element).body)

-- an element is added, and then those inside it
behind_itself : (out next all : List WrittenElement) (root : WrittenElement) (parts : List Elements) (told : List WrittenElement)
    → next ≡ out ++ root ∷ [] → all ≡ next ++ in_turn parts (length out) (length next)
    → told ≡ root ∷ in_turn parts (length out) (suc (length out)) → all ≡ out ++ told
behind_itself out next all root parts told e f g =
    f ∙ ap (λ xs. xs ++ in_turn parts (length out) (length xs)) e
    ∙ ap (λ n. (out ++ root ∷ []) ++ in_turn parts (length out) n) (length-append out (root ∷ []) ∙ add-one (length out))
    ∙ append_assoc out (root ∷ []) (in_turn parts (length out) (suc (length out)))
    ∙ ap (λ xs. out ++ xs) (sym g)

pub element_added : (element : Element) (around : Option ℕ) (repeating : HowOften) (out next all : List WrittenElement) (root : WrittenElement) (body : List Item) (number : ℕ)
    → next ≡ out ++ root ∷ [] → root ≡ root_of_element element around repeating → number ≡ length out → body ≡ (out-Element element).body
    → all ≡ next ++ elements_of_body body number (length next) → all ≡ out ++ of_element element element around repeating (length out)
element_added element around repeating out next all root body number e root_is number_is body_is f =
    behind_itself out next all (root_of_element element around repeating) (map elements_of_item (out-Element element).body) (of_element element element around repeating (length out))
    (e ∙ ap (λ w. out ++ w ∷ []) root_is)
    (f ∙ ap (λ n. next ++ elements_of_body body n (length next)) number_is ∙ ap (λ xs. next ++ elements_of_body xs (length out) (length next)) body_is)
    (of_element-is element around repeating (length out))

pub root_is : (element : Element) (around : Option ℕ) (repeating : HowOften) (root : WrittenElement) (id : Option Ident) (body : List Item)
    → root ≡ record { id = id; type_name = Some (out-Element element).ty; parent = around; repeating = repeating; body = body }
    → id ≡ (out-Element element).id → body ≡ (out-Element element).body → root ≡ root_of_element element around repeating
root_is element around repeating root id body e f g =
    e ∙ ap (λ (x : Option Ident). let w : WrittenElement = record { id = x; type_name = Some (out-Element element).ty; parent = around; repeating = repeating; body = body } in w) f
    ∙ ap (λ (x : List Item). let w : WrittenElement = record { id = (out-Element element).id; type_name = Some (out-Element element).ty; parent = around; repeating = repeating; body = x } in w) g
