-- From pass to pass.
use Rattle.std.proofs.Common.{◌≡◌, ℕ, List, [], ◌∷◌, ◌++◌, Option, Some, None, Result, Ok, Err, Contains, inl, refl, sym, ap, ◌∙◌, subst, arith}
use Rattle.std.proofs.lemmas.List.Elements.{Contains-append_left}
use Rattle.slint_base.specs.declared.faults.Fault.{Fault}
use Rattle.slint_base.specs.declared.rules.Rule.TheVariants as rule
use Rattle.slint_base.specs.Refusals.{at_start}
use Rattle.import_resolver.specs.Loaded.{FileRow}
use Rattle.typed_tree.specs.declared.outlines.Outline.{Outline}
use Rattle.typed_tree.specs.declared.trees.TypedElement.{TypedElement}
use Rattle.typed_tree.specs.declared.trees.TypedItem.{TypedItem}
use Rattle.typed_tree.specs.declared.trees.TypedTree.{TypedTree}
use Rattle.fault_order.specs.Order.{IsFirst, NoFault}
use Rattle.source_scopes.specs.Declarations.{components_of, globals_of}
use Rattle.source_scopes.specs.Names.{root_component}
use Rattle.declaration_rules.specs.Declarations.{DeclarationFault, faults_in_files, rootless}
use Rattle.source_outline.specs.Following.{outline}
use Rattle.item_types.specs.Judging.{Tells}
use Rattle.item_types.proofs.Telling.{came, told_at, told_first}
use Rattle.type_resolver.specs.Bodies.{bodies}
use Rattle.type_resolver.specs.Resolves.{IsBroken, IsResolved, ItemFault, in_expressions, source, tree_of}

abbrev Typed : Type 0
Typed = List (List TypedElement) × List (List TypedItem)

without_root : (o : Option ℕ) → o ≡ None → (fs : List Fault) → Contains (rootless o ++ fs) (at_start rule.NoComponent 0)
without_root None e fs = Contains-append_left (at_start rule.NoComponent 0 ∷ []) fs (at_start rule.NoComponent 0) (0, omega arith, refl)
without_root (Some n) e fs = cc

-- where nothing is broken in declarations there is a root
pub no_root : (rows : List FileRow) (named : Option (List ℕ)) (found : Option ℕ) → found ≡ root_component rows named → found ≡ None → NoFault (DeclarationFault rows named) → ⊥
no_root rows named found is none declared = declared (at_start rule.NoComponent 0) (inl (without_root (root_component rows named) (sym is ∙ none) (faults_in_files rows)))

pub rootless_breaks : (rows : List FileRow) (named : Option (List ℕ)) → root_component rows named ≡ None → (f : Fault) × DeclarationFault rows named f
rootless_breaks rows named none = (at_start rule.NoComponent 0, inl (without_root (root_component rows named) none (faults_in_files rows)))

moved : (rows : List FileRow) (names o : Outline) (v : Result Typed Fault) → names ≡ o → o ≡ outline rows → Tells (bodies names (components_of rows) (globals_of rows)) v → Tells (source rows) v
moved rows names o v p q t = let P : Outline → Type 0 = λ z. Tells (bodies z (components_of rows) (globals_of rows)) v in subst P (p ∙ q) t

pub broken_by : (rows : List FileRow) (named : Option (List ℕ)) (names o : Outline) (v : Result Typed Fault) (f : Fault) → NoFault (DeclarationFault rows named) → NoFault (ItemFault rows) → names ≡ o → o ≡ outline rows
    → Tells (bodies names (components_of rows) (globals_of rows)) v → v ≡ Err f → IsBroken rows named f
broken_by rows named names o v f n m p q t e = in_expressions n m (told_first (source rows) (told_at (source rows) e (moved rows names o v p q t)))

pub resolved_by : (rows : List FileRow) (named : Option (List ℕ)) (names o old : Outline) (v : Result Typed Fault) (typed : Typed) (found : Option ℕ) (root : ℕ) (tree : TypedTree) → NoFault (DeclarationFault rows named) → NoFault (ItemFault rows)
    → names ≡ o → o ≡ outline rows → Tells (bodies names (components_of rows) (globals_of rows)) v → v ≡ Ok typed → found ≡ root_component rows named → found ≡ Some root → old ≡ names → tree ≡ tree_of old root typed → IsResolved rows named tree
resolved_by rows named names o old v typed found root tree n m p q t e is some same made = record {
  declared = n;
  sound = m;
  root = root;
  rooted = sym is ∙ some;
  typed = typed;
  comes = came (source rows) (told_at (source rows) e (moved rows names o v p q t));
  is = made ∙ ap (λ z. tree_of z root typed) (same ∙ (p ∙ q));
}
