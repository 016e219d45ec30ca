-- A source has one tree, or one fault is told, and not both; and one of them there is.
use Rattle.std.proofs.Common.{◌≡◌, ◌⊎◌, inl, inr, ℕ, List, Option, Some, None, Result, Ok, Err, Contains, refl, sym, ap, ◌∙◌, subst}
use Rattle.slint_base.specs.declared.faults.Fault.{Fault}
use Rattle.import_resolver.specs.Loaded.{FileRow}
use Rattle.typed_tree.specs.declared.outlines.Outline.{Outline}
use Rattle.typed_tree.specs.declared.trees.TypedElement.{TypedElement}
use Rattle.typed_tree.specs.declared.trees.TypedItem.{TypedItem}
use Rattle.typed_tree.specs.declared.trees.TypedTree.{TypedTree}
use Rattle.fault_order.specs.Order.{FirstIfAny, IsFirst, NoFault, earlier_fault, earlier_of, first_of}
use Rattle.fault_order.proofs.First.{FirstIfAny-earlier_of, FirstIfAny-first_of, one_first}
use Rattle.source_scopes.specs.Declarations.{components_of, globals_of}
use Rattle.source_scopes.specs.Names.{root_component}
use Rattle.declaration_rules.specs.Declarations.{DeclarationFault}
use Rattle.source_outline.specs.Outlines.{rough_outline}
use Rattle.source_outline.specs.declared.sketching.Sketch.{Sketch}
use Rattle.source_outline.specs.declared.sketching.Sketch.TheVariants as sketches
use Rattle.source_outline.specs.Following.{outline, EndlessLink, IsSketch}
use Rattle.item_rules.specs.Items.{item_faults}
use Rattle.child_rules.specs.Source.{child_faults}
use Rattle.item_types.specs.Judging.{Tells, something, fault, Told, told}
use Rattle.item_types.proofs.Telling.{Sound}
use Rattle.type_resolver.specs.Resolves.{BodyFault, IsBroken, IsResolved, ItemFault, SecondPass, SomeResolution, broken, in_declarations, in_expressions, in_items, passed, resolved, source, tree_of}
use Rattle.type_resolver.proofs.Sounding.{Parts, bodies_sound}

module _ (known : Parts) (rows : List FileRow) where
  source_sound : Sound (source rows)
  source_sound = bodies_sound known (outline rows) (components_of rows) (globals_of rows)

  same_tree : (r q : ℕ) (x y : List (List TypedElement) × List (List TypedItem)) → r ≡ q → x ≡ y → tree_of (outline rows) r x ≡ tree_of (outline rows) q y
  same_tree r q x y e f = ap (λ n. tree_of (outline rows) n x) e ∙ ap (λ z. tree_of (outline rows) q z) f

  same_root : (o : Option ℕ) (r q : ℕ) → o ≡ Some r → o ≡ Some q → r ≡ q
  same_root o r q a b = cc

  pub one_tree : (named : Option (List ℕ)) (t u : TypedTree) → IsResolved rows named t → IsResolved rows named u → t ≡ u
  one_tree named t u a b = a.is ∙ (same_tree a.root b.root a.typed b.typed (same_root (root_component rows named) a.root b.root a.rooted b.rooted) (source_sound.one a.typed b.typed a.comes b.comes) ∙ sym b.is)

  pub not_both : (named : Option (List ℕ)) (t : TypedTree) (f : Fault) → IsResolved rows named t → IsBroken rows named f → ⊥
  not_both named t f a (in_declarations p) = a.declared f p.has
  not_both named t f a (in_items n p) = a.sound f p.has
  not_both named t f a (in_expressions n m p) = source_sound.apart a.typed f a.comes p.has

  pub one_fault : (named : Option (List ℕ)) (f g : Fault) → IsBroken rows named f → IsBroken rows named g → f ≡ g
  one_fault named f g (in_declarations p) (in_declarations q) = one_first f g p q
  one_fault named f g (in_declarations p) (in_items n q) = absurd (n f p.has)
  one_fault named f g (in_declarations p) (in_expressions n m q) = absurd (n f p.has)
  one_fault named f g (in_items n p) (in_declarations q) = absurd (n g q.has)
  one_fault named f g (in_items n p) (in_items m q) = one_first f g p q
  one_fault named f g (in_items n p) (in_expressions k m q) = absurd (m f p.has)
  one_fault named f g (in_expressions n m p) (in_declarations q) = absurd (n g q.has)
  one_fault named f g (in_expressions n m p) (in_items k q) = absurd (m g q.has)
  one_fault named f g (in_expressions n m p) (in_expressions k l q) = one_first f g p q

-- ---- the second pass

pub in_bodies : (rows : List FileRow) → FirstIfAny (BodyFault rows) (earlier_of (first_of (item_faults rows (rough_outline rows))) (first_of (child_faults rows (rough_outline rows))))
in_bodies rows = FirstIfAny-earlier_of (λ f. Contains (item_faults rows (rough_outline rows)) f) (λ f. Contains (child_faults rows (rough_outline rows)) f) (first_of (item_faults rows (rough_outline rows))) (first_of (child_faults rows (rough_outline rows))) (FirstIfAny-first_of (item_faults rows (rough_outline rows))) (FirstIfAny-first_of (child_faults rows (rough_outline rows)))

pub in_items_first : (rows : List FileRow) (a b : Option Fault) → FirstIfAny (BodyFault rows) a → FirstIfAny (EndlessLink rows) b → FirstIfAny (ItemFault rows) (earlier_of a b)
in_items_first rows a b p q = FirstIfAny-earlier_of (BodyFault rows) (EndlessLink rows) a b p q

-- by what the code is told of names and of children, over an outline that is the rough one
pub bodies_first : (rows : List FileRow) (o : Outline) {a b told : Option Fault} → told ≡ earlier_of a b → a ≡ first_of (item_faults rows o) → b ≡ first_of (child_faults rows o) → o ≡ rough_outline rows → FirstIfAny (BodyFault rows) told
bodies_first rows o {b = b} is p q same =
    subst (FirstIfAny (BodyFault rows)) (sym (is ∙ ap (λ x. earlier_of x b) (p ∙ ap (λ n. first_of (item_faults rows n)) same) ∙ ap (λ y. earlier_of (first_of (item_faults rows (rough_outline rows))) y) (q ∙ ap (λ n. first_of (child_faults rows n)) same)))
    (in_bodies rows)

-- what the second pass comes to is what is told of its parts
pub second_passed : (rows : List FileRow) (a : Option Fault) (s : Sketch) → FirstIfAny (BodyFault rows) a → IsSketch rows s → SecondPass rows (passed a s)
second_passed rows None (sketches.Whole o) p q = (q.0, in_items_first rows None None p q.1)
second_passed rows None (sketches.Endless g) p q = in_items_first rows None (Some g) p q
second_passed rows (Some f) (sketches.Whole o) p q = in_items_first rows (Some f) None p q.1
second_passed rows (Some f) (sketches.Endless g) p q = in_items_first rows (Some f) (Some g) p q

-- ---- there is one

some_typed : (rows : List FileRow) (named : Option (List ℕ)) (root : ℕ) → root_component rows named ≡ Some root → NoFault (DeclarationFault rows named) → NoFault (ItemFault rows) → Told (source rows) → SomeResolution rows named
some_typed rows named root rooted n m (told (something {x} p)) =
    resolved (record { declared = n; sound = m; root = root; rooted = rooted; typed = x; comes = p; is = refl })
some_typed rows named root rooted n m (told (fault p)) = broken (in_expressions n m p)

some_rooted : (rows : List FileRow) (named : Option (List ℕ)) (root : Option ℕ) → root_component rows named ≡ root → (root_component rows named ≡ None → (f : Fault) × DeclarationFault rows named f) → NoFault (DeclarationFault rows named)
    → NoFault (ItemFault rows) → Told (source rows) → SomeResolution rows named
some_rooted rows named None e rootless n m t = let f = rootless e in absurd (n f.0 f.1)
some_rooted rows named (Some root) e rootless n m t = some_typed rows named root e n m t

some_sound : (rows : List FileRow) (named : Option (List ℕ)) (o : Option Fault) → FirstIfAny (ItemFault rows) o → (root_component rows named ≡ None → (f : Fault) × DeclarationFault rows named f) → NoFault (DeclarationFault rows named)
    → Told (source rows) → SomeResolution rows named
some_sound rows named (Some f) p rootless n t = broken (in_items n p)
some_sound rows named None p rootless n t = some_rooted rows named (root_component rows named) refl rootless n p t

some_declared : (rows : List FileRow) (named : Option (List ℕ)) (o : Option Fault) → FirstIfAny (DeclarationFault rows named) o → (root_component rows named ≡ None → (f : Fault) × DeclarationFault rows named f)
    → ((b : Option Fault) × FirstIfAny (EndlessLink rows) b) → Told (source rows) → SomeResolution rows named
some_declared rows named (Some f) p rootless links t = broken (in_declarations p)
some_declared rows named None p rootless links t =
    let told = earlier_of (first_of (item_faults rows (rough_outline rows))) (first_of (child_faults rows (rough_outline rows))) in
    some_sound rows named (earlier_of told links.0) (in_items_first rows told links.0 (in_bodies rows) links.1) rootless p t

pub some_resolution : (rows : List FileRow) (named : Option (List ℕ)) → ((o : Option Fault) × FirstIfAny (DeclarationFault rows named) o) → (root_component rows named ≡ None → (f : Fault) × DeclarationFault rows named f)
    → ((b : Option Fault) × FirstIfAny (EndlessLink rows) b) → Told (source rows) → SomeResolution rows named
some_resolution rows named first rootless links t = some_declared rows named first.0 first.1 rootless links t
