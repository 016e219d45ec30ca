-- The elements of a component in the order of the text.
use Rattle.std.specs.Prelude.{ℕ, suc, ◌+◌, List, [], ◌∷◌, ◌++◌, length, map, Option, Some, None}
use Rattle.syntax_tree.specs.declared.files.Component.{Component}
use Rattle.syntax_tree.specs.declared.items.Element.{Element, out-Element, fold-Element}
use Rattle.syntax_tree.specs.declared.items.For.{For, out-For, fold-For}
use Rattle.syntax_tree.specs.declared.items.IfElement.{IfElement, out-IfElement, fold-IfElement}
use Rattle.syntax_tree.specs.declared.items.Item.{Item, out-Item, fold-Item}
use Rattle.syntax_tree.specs.declared.items.Item.TheOpen.{Item-F, Element-F, For-F, IfElement-F}
use Rattle.syntax_tree.specs.declared.words.Ident.{Ident}

-- how often an element is there: once, while the condition of an `if` holds, or for each row of the model of a `for`
pub data HowOften : Type 0 where
  JustOnce : HowOften
  WhileTrue : IfElement → HowOften
  EachRow : For → HowOften

-- an element as it is written: its id, the name of its type, the number of the element around it, how often it is there, and its body
pub record WrittenElement : Type 0 where
  pub id : Option Ident
  pub type_name : Option Ident
  pub parent : Option ℕ
  pub repeating : HowOften
  pub body : List Item

-- the elements that a part of a body comes to, in an element of some number, where so many elements stand before them
abbrev pub Elements : Type 0
Elements = ℕ → ℕ → List WrittenElement

-- those of some parts, one after the other
abbrev pub in_turn : List Elements → Elements
in_turn [] around n = []
in_turn (part ∷ parts) around n = part around n ++ in_turn parts around (n + length (part around n))

-- what parts of trees come to is told by a fold over the tree, of which each part is passed the same part again, as it is written
abbrev pub OfItem : Type 0
OfItem = Item → Elements

abbrev pub OfElement : Type 0
OfElement = Element → Option ℕ → HowOften → ℕ → List WrittenElement

abbrev pub OfFor : Type 0
OfFor = For → Elements

abbrev pub OfIf : Type 0
OfIf = IfElement → Elements

abbrev pub each_of : List OfItem → List Item → List Elements
each_of (tells ∷ more) (item ∷ items) = tells item ∷ each_of more items
each_of _ _ = []

abbrev pub root_of_element : Element → Option ℕ → HowOften → WrittenElement
root_of_element element around repeating = record {
  id = (out-Element element).id;
  type_name = Some (out-Element element).ty;
  parent = around;
  repeating = repeating;
  body = (out-Element element).body;
}

-- an element comes to itself, and to what its body comes to
abbrev pub element_layer : Element-F OfItem OfElement OfFor OfIf → OfElement
element_layer inner element around repeating n = root_of_element element around repeating ∷ in_turn (each_of inner.body (out-Element element).body) n (suc n)

abbrev pub for_layer : For-F OfItem OfElement OfFor OfIf → OfFor
for_layer inner repeated around n = inner.element (out-For repeated).element (Some around) (EachRow repeated) n

abbrev pub if_layer : IfElement-F OfItem OfElement OfFor OfIf → OfIf
if_layer inner conditional around n = inner.element (out-IfElement conditional).element (Some around) (WhileTrue conditional) n

abbrev pub as_element : OfElement → Item-F Item Element For IfElement → Elements
as_element tells (Item-F.Element element) around n = tells element (Some around) JustOnce n
as_element tells _ around n = []

abbrev pub as_for : OfFor → Item-F Item Element For IfElement → Elements
as_for tells (Item-F.For repeated) around n = tells repeated around n
as_for tells _ around n = []

abbrev pub as_if : OfIf → Item-F Item Element For IfElement → Elements
as_if tells (Item-F.If conditional) around n = tells conditional around n
as_if tells _ around n = []

abbrev pub item_layer : Item-F OfItem OfElement OfFor OfIf → OfItem
item_layer (Item-F.Element tells) item around n = as_element tells (out-Item item) around n
item_layer (Item-F.For tells) item around n = as_for tells (out-Item item) around n
item_layer (Item-F.If tells) item around n = as_if tells (out-Item item) around n
item_layer _ item around n = []

abbrev pub of_item : Item → OfItem
of_item = fold-Item OfItem OfElement OfFor OfIf item_layer element_layer for_layer if_layer

abbrev pub of_element : Element → OfElement
of_element = fold-Element OfItem OfElement OfFor OfIf item_layer element_layer for_layer if_layer

abbrev pub of_repeated : For → OfFor
of_repeated = fold-For OfItem OfElement OfFor OfIf item_layer element_layer for_layer if_layer

abbrev pub of_conditional : IfElement → OfIf
of_conditional = fold-IfElement OfItem OfElement OfFor OfIf item_layer element_layer for_layer if_layer

-- the elements of an item of a body: those of an element, of an `if` and of a `for`
abbrev pub elements_of_item : Item → Elements
elements_of_item item = of_item item item

-- the elements of a body
abbrev pub elements_of_body : List Item → Elements
elements_of_body items = in_turn (map elements_of_item items)

-- the root element of a component, which has no id, and whose type is the component's base
abbrev pub root_element : Component → WrittenElement
root_element component = record { id = None; type_name = component.base; parent = None; repeating = JustOnce; body = component.body }

-- the elements of a component: its root element, and those inside
abbrev pub written_in : Component → List WrittenElement
written_in component = root_element component ∷ elements_of_body component.body 0 1
