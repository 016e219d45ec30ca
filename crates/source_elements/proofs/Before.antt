-- The element around an element stands before it.
use Rattle.std.proofs.Common.{◌≡◌, ℕ, zero, suc, List, [], ◌∷◌, ◌++◌, ◌+◌, ◌<◌, ◌≤◌, length, map, Option, Some, None, refl, sym, ◌∙◌, ap, subst, arith}
use Rattle.std.specs.Prelude.{slice_get}
use Rattle.syntax_tree.specs.declared.files.Component.{Component}
use Rattle.syntax_tree.specs.declared.items.Element.{Element, out-Element, roll-Element, out-roll-Element, map-Element}
use Rattle.syntax_tree.specs.declared.items.For.{For, out-For, roll-For, out-roll-For, map-For, fold_out-For}
use Rattle.syntax_tree.specs.declared.items.IfElement.{IfElement, out-IfElement, roll-IfElement, out-roll-IfElement, map-IfElement, fold_out-IfElement}
use Rattle.syntax_tree.specs.declared.items.Item.{Item, out-Item, roll-Item, out-roll-Item, map-Item, ind-Item, fold_out-Item}
use Rattle.syntax_tree.specs.declared.items.Item.TheOpen.{Item-F, Element-F, For-F, IfElement-F}
use Rattle.source_elements.specs.Elements.{WrittenElement, Elements, HowOften, JustOnce, WhileTrue, EachRow, OfItem, OfElement, OfFor, OfIf, in_turn, of_item, of_element, of_repeated, of_conditional, elements_of_item, elements_of_body, root_of_element, item_layer, element_layer, for_layer, if_layer, as_element, as_for, as_if, root_element, written_in}
use Rattle.source_elements.proofs.InTurn.{of_element-is}

-- a parent, where there is one, has a number below n
abbrev Lower : ℕ → Option ℕ → Type 0
Lower n around = (p : ℕ) → around ≡ Some p → p < n

-- elements that stand behind n others: each has its parent before itself
abbrev Before : ℕ → List WrittenElement → Type 0
Before n [] = Unit {0}
Before n (w ∷ ws) = Lower n w.parent × Before (suc n) ws

before_both : (n : ℕ) (xs ys : List WrittenElement) → Before n xs → Before (n + length xs) ys → Before n (xs ++ ys)
before_both n [] ys p q = let e : n + length {A = WrittenElement} [] ≡ n = omega arith in subst (λ k. Before k ys) e q
before_both n (x ∷ xs) ys p q = (p.0, before_both (suc n) xs ys p.1 (let e : n + length (x ∷ xs) ≡ suc n + length xs = omega arith in subst (λ k. Before k ys) e q))

-- ---- parts of bodies

abbrev Fine : Elements → Type 0
Fine part = (around n : ℕ) → around < n → Before n (part around n)

abbrev OfParts : List Elements → Type 0
OfParts [] = Unit {0}
OfParts (part ∷ parts) = Fine part × OfParts parts

in_turn_fine : (parts : List Elements) → OfParts parts → Fine (in_turn parts)
in_turn_fine [] p around n h = tt
in_turn_fine (part ∷ parts) p around n h = before_both n (part around n) (in_turn parts around (n + length (part around n))) (p.0 around n h)
    (in_turn_fine parts p.1 around (n + length (part around n)) (omega arith))

-- ---- by the structure of trees

abbrev FineItem : Item → Type 0
FineItem item = Fine (elements_of_item item)

abbrev FineElement : Element → Type 0
FineElement element = (around : Option ℕ) (repeating : HowOften) (n : ℕ) → Lower n around → Before n (of_element element element around repeating n)

abbrev FineFor : For → Type 0
FineFor repeated = Fine (of_repeated repeated repeated)

abbrev FineIf : IfElement → Type 0
FineIf conditional = Fine (of_conditional conditional conditional)

one_lower : (around n : ℕ) → around < n → Lower n (Some around)
one_lower around n h p e = let f : around ≡ p = cc in subst (λ k. k < n) f h

-- what an item comes to, by its layer
abbrev by_layer : Item-F Item Element For IfElement → Elements
by_layer (Item-F.Element element) around n = of_element element element (Some around) JustOnce n
by_layer (Item-F.For repeated) around n = of_repeated repeated repeated around n
by_layer (Item-F.If conditional) around n = of_conditional conditional conditional around n
by_layer _ around n = []

abbrev told : Item-F Item Element For IfElement → Item-F OfItem OfElement OfFor OfIf
told z = map-Item Item Element For IfElement OfItem OfElement OfFor OfIf of_item of_element of_repeated of_conditional z

layer_is : (item : Item) (z : Item-F Item Element For IfElement) → out-Item item ≡ z → (around n : ℕ) → item_layer (told z) item around n ≡ by_layer z around n
layer_is item (Item-F.Element element) e around n = ap (λ x. as_element (of_element element) x around n) e
layer_is item (Item-F.For repeated) e around n = ap (λ x. as_for (of_repeated repeated) x around n) e
layer_is item (Item-F.If conditional) e around n = ap (λ x. as_if (of_conditional conditional) x around n) e
layer_is item (Item-F.Property p) e around n = refl
layer_is item (Item-F.Callback p) e around n = refl
layer_is item (Item-F.Function p) e around n = refl
layer_is item (Item-F.Binding p) e around n = refl
layer_is item (Item-F.Link p) e around n = refl
layer_is item (Item-F.Handler p) e around n = refl
layer_is item (Item-F.Changed p) e around n = refl
layer_is item (Item-F.States p) e around n = refl
layer_is item (Item-F.Children p) e around n = refl

item_is : (item : Item) (around n : ℕ) → elements_of_item item around n ≡ by_layer (out-Item item) around n
item_is item around n = ap (λ (f : OfItem). f item around n) (fold_out-Item OfItem OfElement OfFor OfIf item_layer element_layer for_layer if_layer item) ∙ layer_is item (out-Item item) refl around n

-- what is known of an item's layer
abbrev InLayer : Item-F Item Element For IfElement → Type 0
InLayer (Item-F.Element element) = FineElement element
InLayer (Item-F.For repeated) = FineFor repeated
InLayer (Item-F.If conditional) = FineIf conditional
InLayer _ = Unit {0}

layer_fine : (z : Item-F Item Element For IfElement) → InLayer z → Fine (by_layer z)
layer_fine (Item-F.Element element) p around n h = p (Some around) JustOnce n (one_lower around n h)
layer_fine (Item-F.For repeated) p around n h = p around n h
layer_fine (Item-F.If conditional) p around n h = p around n h
layer_fine _ p around n h = tt

item_fine : (item : Item) → InLayer (out-Item item) → FineItem item
item_fine item p around n h = subst (Before n) (sym (item_is item around n)) (layer_fine (out-Item item) p around n h)

element_fine : (element : Element) → OfParts (map elements_of_item (out-Element element).body) → FineElement element
element_fine element p around repeating n h = subst (Before n) (sym (of_element-is element around repeating n))
    (h, in_turn_fine (map elements_of_item (out-Element element).body) p n (suc n) (omega arith))

for_fine : (repeated : For) → FineElement (out-For repeated).element → FineFor repeated
for_fine repeated p around n h =
    subst (Before n) (sym (ap (λ (f : OfFor). f repeated around n) (fold_out-For OfItem OfElement OfFor OfIf item_layer element_layer for_layer if_layer repeated)))
    (p (Some around) (EachRow repeated) n (one_lower around n h))

if_fine : (conditional : IfElement) → FineElement (out-IfElement conditional).element → FineIf conditional
if_fine conditional p around n h =
    subst (Before n) (sym (ap (λ (f : OfIf). f conditional around n) (fold_out-IfElement OfItem OfElement OfFor OfIf item_layer element_layer for_layer if_layer conditional)))
    (p (Some around) (WhileTrue conditional) n (one_lower around n h))

-- a part of a layer stands beside what is known of it
abbrev Known : {A : Type 0} → (A → Type 0) → Type 0
Known {A} P = (x : A) × P x

abbrev KnownItem : Type 0
KnownItem = Item-F (Known FineItem) (Known FineElement) (Known FineFor) (Known FineIf)

abbrev bare_item : KnownItem → Item-F Item Element For IfElement
bare_item y = map-Item (Known FineItem) (Known FineElement) (Known FineFor) (Known FineIf) Item Element For IfElement (λ e. e.0) (λ e. e.0) (λ e. e.0) (λ e. e.0) y

item_known : (y : KnownItem) → InLayer (bare_item y)
item_known (Item-F.Element element) = element.1
item_known (Item-F.For repeated) = repeated.1
item_known (Item-F.If conditional) = conditional.1
item_known (Item-F.Property p) = tt
item_known (Item-F.Callback p) = tt
item_known (Item-F.Function p) = tt
item_known (Item-F.Binding p) = tt
item_known (Item-F.Link p) = tt
item_known (Item-F.Handler p) = tt
item_known (Item-F.Changed p) = tt
item_known (Item-F.States p) = tt
item_known (Item-F.Children p) = tt

body_known : (items : List (Known FineItem)) → OfParts (map elements_of_item (map (λ (i : Known FineItem). i.0) items))
body_known [] = tt
body_known (i ∷ items) = (i.1, body_known items)

fine : (item : Item) → FineItem item
fine = ind-Item FineItem FineElement FineFor FineIf
    (λ x y is. item_fine (roll-Item x) (let P : Item-F Item Element For IfElement → Type 0 = λ z. InLayer z in subst P (is ∙ sym (out-roll-Item x)) (item_known y)))
    (λ x y is. element_fine (roll-Element x) (let P : Element-F Item Element For IfElement → Type 0 = λ z. OfParts (map elements_of_item z.body) in subst P (is ∙ sym (out-roll-Element x)) (body_known y.body)))
    (λ x y is. for_fine (roll-For x) (let P : For-F Item Element For IfElement → Type 0 = λ z. FineElement z.element in subst P (is ∙ sym (out-roll-For x)) y.element.1))
    (λ x y is. if_fine (roll-IfElement x) (let P : IfElement-F Item Element For IfElement → Type 0 = λ z. FineElement z.element in subst P (is ∙ sym (out-roll-IfElement x)) y.element.1))

all_fine : (items : List Item) → OfParts (map elements_of_item items)
all_fine [] = tt
all_fine (item ∷ items) = (fine item, all_fine items)

-- ---- the elements of a component

no_parent : (p : ℕ) → None ≡ Some p → p < 0
no_parent p e = cc

component_before : (component : Component) → Before 0 (written_in component)
component_before component = (no_parent, in_turn_fine (map elements_of_item component.body) (all_fine component.body) 0 1 (omega arith))

read_before : (ws : List WrittenElement) (n e p : ℕ) (w : WrittenElement) → Before n ws → slice_get ws e ≡ Some w → w.parent ≡ Some p → p < n + e
read_before [] n e p w b found is = cc
read_before (x ∷ ws) n zero p w b found is = let same : x ≡ w = cc in let l : p < n = b.0 p (ap (λ (v : WrittenElement). v.parent) same ∙ is) in omega arith
read_before (x ∷ ws) n (suc e) p w b found is = let l : p < suc n + e = read_before ws (suc n) e p w b.1 found is in omega arith

pub parent_before : (component : Component) (e p : ℕ) (w : WrittenElement) → slice_get (written_in component) e ≡ Some w → w.parent ≡ Some p → p < e
parent_before component e p w found is = let l : p < 0 + e = read_before (written_in component) 0 e p w (component_before component) found is in omega arith
