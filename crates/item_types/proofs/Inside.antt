-- What is told in a scope, of scopes that are the same; and of cases that are the same.
use Rattle.std.proofs.Common.{◌≡◌, Bool, true, false, List, Option, Some, None, Result, Ok, Err, refl, sym, ap, ◌∙◌, subst}
use Rattle.std.specs.Prelude.{IfOk, if◌then◌else◌, ◌&&◌}
use Rattle.slint_base.specs.declared.endings.Memory.{Memory}
use Rattle.slint_base.specs.declared.faults.Fault.{Fault}
use Rattle.syntax_tree.specs.declared.expressions.Expr.{Expr}
use Rattle.syntax_tree.specs.declared.items.Item.{Item, out-Item}
use Rattle.syntax_tree.specs.declared.items.Callback.{Callback}
use Rattle.syntax_tree.specs.declared.items.CallbackForm.{CallbackForm}
use Rattle.syntax_tree.specs.declared.items.PropValue.{PropValue}
use Rattle.syntax_tree.specs.declared.items.Property.{Property}
use Rattle.syntax_tree.specs.declared.items.State.{State}
use Rattle.syntax_tree.specs.declared.statements.Block.{Block}
use Rattle.syntax_tree.specs.declared.statements.Value.{Value}
use Rattle.value_types.specs.declared.types.Ty.{Ty}
use Rattle.value_types.specs.declared.types.Ty.TheVariants as ty
use Rattle.typed_tree.specs.declared.expressions.TypedExpr.{TypedExpr}
use Rattle.typed_tree.specs.declared.members.MemberRef.{MemberRef}
use Rattle.typed_tree.specs.declared.statements.Target.{Target}
use Rattle.typed_tree.specs.declared.statements.TypedBlock.{TypedBlock}
use Rattle.typed_tree.specs.declared.statements.TypedValue.{TypedValue}
use Rattle.typed_tree.specs.declared.trees.TypedChange.{TypedChange}
use Rattle.typed_tree.specs.declared.trees.TypedFor.{TypedFor}
use Rattle.typed_tree.specs.declared.trees.TypedItem.{TypedItem}
use Rattle.typed_tree.specs.declared.trees.TypedState.{TypedState}
use Rattle.typed_tree.specs.Scopes.{ScopeValue}
use Rattle.name_lookup.specs.declared.meanings.Meaning.TheVariants as meaning
use Rattle.expr_rules.specs.OwnBlocks.{may_assign, may_assign_member}
use Rattle.expr_rules.specs.Targets.{property_in, property_of_target, target_of}
use Rattle.item_types.specs.Judging.{Judging, at_once, both, each, optional, made, owned, Tells, both_told}
use Rattle.item_types.specs.Items.{ItemLayer, callback_judging, change_judging, item_judging, nothing, property_judging, some_made, something, state_judging, state_told}
use Rattle.item_types.specs.Rows.{model_judging, row_target}
use Rattle.item_types.specs.Members.{is_below_root, is_grid_number, is_size}
use Rattle.item_types.specs.Values.{block_judging, bound_value, constants, expression_judging, numbered_value, sized_value, value_judging}
use Rattle.item_types.proofs.Sounds.{changes_sound, state_parts_sound, when_sound}
use Rattle.item_types.proofs.Telling.{Sound, at_once_sound, at_once_told, both_of, if_told, made_told, map_ok, owned_in_ok, then_own, told_at}

-- scopes

pub block_inside : {s z : ScopeValue} (t : Ty) (b : Block) {v : Result TypedBlock Fault} → z ≡ s → Tells (block_judging z t b) v → Tells (block_judging s t b) v
block_inside t b {v} e p = let P : ScopeValue → Type 0 = λ y. Tells (block_judging y t b) v in subst P e p

pub value_inside : {s z : ScopeValue} (t : Ty) (x : Value) {v : Result TypedValue Fault} → z ≡ s → Tells (value_judging z t x) v → Tells (value_judging s t x) v
value_inside t x {v} e p = let P : ScopeValue → Type 0 = λ y. Tells (value_judging y t x) v in subst P e p

pub expression_inside : {s z : ScopeValue} (t : Ty) (x : Expr) {v : Result TypedExpr Fault} → z ≡ s → Tells (expression_judging z t x) v → Tells (expression_judging s t x) v
expression_inside t x {v} e p = let P : ScopeValue → Type 0 = λ y. Tells (expression_judging y t x) v in subst P e p

pub item_inside : {s z : ScopeValue} (x : ItemLayer) {v : Result (Option TypedItem) Fault} → z ≡ s → Tells (item_judging z x) v → Tells (item_judging s x) v
item_inside x {v} e p = let P : ScopeValue → Type 0 = λ y. Tells (item_judging y x) v in subst P e p

pub model_inside : {s z : ScopeValue} (x : Expr) {v : Result TypedFor Fault} → z ≡ s → Tells (model_judging z x) v → Tells (model_judging s x) v
model_inside x {v} e p = let P : ScopeValue → Type 0 = λ y. Tells (model_judging y x) v in subst P e p

-- values, by what the property is

pub numbered_at : (s : ScopeValue) (t : Ty) (x : Value) (size : Bool) {a b : Bool} {E : Type 0} (made : Result (Result (TypedValue × Bool) Fault) E) → a ≡ b → IfOk made (λ v. Tells (numbered_value s b size t x) v) → IfOk made (λ v. Tells (numbered_value s a size t x) v)
numbered_at s t x size made e p = let P : Bool → Type 0 = λ y. IfOk made (λ v. Tells (numbered_value s y size t x) v) in subst P (sym e) p

pub sized_at : (s : ScopeValue) (t : Ty) (x : Value) {a b : Bool} {E : Type 0} (made : Result (Result (TypedValue × Bool) Fault) E) → a ≡ b → IfOk made (λ v. Tells (sized_value s b t x) v) → IfOk made (λ v. Tells (sized_value s a t x) v)
sized_at s t x made e p = let P : Bool → Type 0 = λ y. IfOk made (λ v. Tells (sized_value s y t x) v) in subst P (sym e) p

-- states

state_same : (v : Result (Option TypedExpr) Fault) (w : Result (List TypedChange) Fault) → then_own (both_told v w) (λ p. Ok (record { when = p.0; changes = p.1 })) ≡ state_told v w
state_same (Ok x) (Ok y) = refl
state_same (Ok x) (Err g) = refl
state_same (Err f) (Ok y) = refl
state_same (Err f) (Err g) = refl

pub state_of_both : (s : ScopeValue) (st : State) {v : Result (Option TypedExpr) Fault} {w : Result (List TypedChange) Fault} → Tells (optional (expression_judging s ty.Bool) st.when) v → Tells (each (change_judging s) st.changes) w → Tells (state_judging s st) (state_told v w)
state_of_both s st {v} {w} t u = told_at (state_judging s st) (state_same v w)
    (made_told (both (optional (expression_judging s ty.Bool) st.when) (each (change_judging s) st.changes)) (λ p. record { when = p.0; changes = p.1 }) (state_parts_sound s st)
    (both_of (optional (expression_judging s ty.Bool) st.when) (each (change_judging s) st.changes) (when_sound s st.when) (changes_sound s st.changes) t u))

-- items

if_at_once : {X E : Type 0} (r : Result X Fault) (made : Result (Result X Fault) E) → IfOk made (λ v. v ≡ r) → IfOk made (λ v. Tells (at_once r) v)
if_at_once r (Ok v) e = told_at (at_once r) (sym e) (at_once_told r)
if_at_once r (Err m) e = tt

-- what is told of an item that has a typed form
some_is : (made : Result (Result TypedItem Fault) Memory) → some_made made ≡ map_ok (λ v. then_own v (λ y. Ok (Some y))) made
some_is (Ok (Ok x)) = refl
some_is (Ok (Err f)) = refl
some_is (Err m) = refl

pub some_item : (x : Judging TypedItem) → Sound x → (made : Result (Result TypedItem Fault) Memory) → IfOk made (λ v. Tells x v) → (given : Result (Result (Option TypedItem) Fault) Memory) → given ≡ some_made made → IfOk given (λ v. Tells (something x) v)
some_item x s made t given e = if_told x (something x) (λ v. then_own v (λ y. Ok (Some y))) (λ v u. made_told x (λ y. Some y) s u) made t given (e ∙ some_is made)

pub some_link : (r : Result TypedItem Fault) (made : Result (Result TypedItem Fault) Memory) → IfOk made (λ v. v ≡ r) → (given : Result (Result (Option TypedItem) Fault) Memory) → given ≡ some_made made → IfOk given (λ v. Tells (something (at_once r)) v)
some_link r made t given e = some_item (at_once r) (at_once_sound r) made (if_at_once r made t) given e

pub no_item : Tells nothing (Ok None)
no_item = at_once_told (Ok None)

-- an own rule, of what a call gives
pub if_owned : {X Y E : Type 0} (j : Judging X) (own : X → Result Y Fault) → Sound j → {v : Result X Fault} {x : X} (q : Result Y Fault) → v ≡ Ok x → q ≡ own x → Tells j v → (made : Result (Result Y Fault) E) → IfOk made (λ r. r ≡ q) → IfOk made (λ r. Tells (owned j own) r)
if_owned j own s q e h t (Ok r) k = owned_in_ok j own s e (k ∙ h) t
if_owned j own s q e h t (Err m) k = tt

-- targets of rows

none_either : (b : Bool) (x : Option Target) → x ≡ None → None ≡ (if b then x else None)
none_either true x k = sym k
none_either false x k = refl

if_true : (b : Bool) (x : Option Target) (t : Target) → b ≡ true → Some t ≡ x → Some t ≡ (if b then x else None)
if_true true x t k h = h
if_true false x t k h = cc

if_false : (b : Bool) (x : Option Target) → b ≡ false → None ≡ (if b then x else None)
if_false true x k = cc
if_false false x k = refl

pub no_target : (s : ScopeValue) (e : TypedExpr) (found : Option Target) → found ≡ target_of s e → found ≡ None → None ≡ row_target s e
no_target s e found h n = none_either (may_assign s (meaning.Value e)) (target_of s e) (sym h ∙ n)

may_be : (s : ScopeValue) (e : TypedExpr) (t : Target) → Some t ≡ target_of s e → may_assign_member s (property_in t.base) ≡ may_assign s (meaning.Value e)
may_be s e t h = ap (λ z. may_assign_member s (property_of_target z)) h

pub a_target : (s : ScopeValue) (e : TypedExpr) (t : Target) (may : Bool) → Some t ≡ target_of s e → may ≡ may_assign_member s (property_in t.base) → may ≡ true → Some t ≡ row_target s e
a_target s e t may h m opened = if_true (may_assign s (meaning.Value e)) (target_of s e) t (sym (may_be s e t h) ∙ sym m ∙ opened) h

pub closed_target : (s : ScopeValue) (e : TypedExpr) (t : Target) (may : Bool) → Some t ≡ target_of s e → may ≡ may_assign_member s (property_in t.base) → may ≡ false → None ≡ row_target s e
closed_target s e t may h m shut = if_false (may_assign s (meaning.Value e)) (target_of s e) (sym (may_be s e t h) ∙ sym m ∙ shut)

-- a part that may be there, by whether it is
pub optional_of : {A X : Type 0} (part : A → Judging X) {a b : Option A} {v : Result (Option X) Fault} → a ≡ b → Tells (optional part b) v → Tells (optional part a) v
optional_of {A} {X} part {v = v} e t = let P : Option A → Type 0 = λ z. Tells (optional part z) v in subst P (sym e) t

-- items, by what they are
pub item_at : (s : ScopeValue) {x y : ItemLayer} {E : Type 0} (made : Result (Result (Option TypedItem) Fault) E) → x ≡ y → IfOk made (λ v. Tells (item_judging s y) v) → IfOk made (λ v. Tells (item_judging s x) v)
item_at s {x} {y} made e t = let P : ItemLayer → Type 0 = λ z. IfOk made (λ v. Tells (item_judging s z) v) in subst P (sym e) t

pub item_told : (s : ScopeValue) {x y : ItemLayer} {v : Result (Option TypedItem) Fault} → x ≡ y → Tells (item_judging s y) v → Tells (item_judging s x) v
item_told s {v = v} e t = let P : ItemLayer → Type 0 = λ z. Tells (item_judging s z) v in subst P (sym e) t

pub property_at : (s : ScopeValue) (p : Property) {x y : PropValue} {E : Type 0} (made : Result (Result (Option TypedItem) Fault) E) → x ≡ y → IfOk made (λ v. Tells (property_judging s p y) v) → IfOk made (λ v. Tells (property_judging s p x) v)
property_at s p made e t = let P : PropValue → Type 0 = λ z. IfOk made (λ v. Tells (property_judging s p z) v) in subst P (sym e) t

pub property_told : (s : ScopeValue) (p : Property) {x y : PropValue} {v : Result (Option TypedItem) Fault} → x ≡ y → Tells (property_judging s p y) v → Tells (property_judging s p x) v
property_told s p {v = v} e t = let P : PropValue → Type 0 = λ z. Tells (property_judging s p z) v in subst P (sym e) t

pub callback_at : (s : ScopeValue) (c : Callback) {x y : CallbackForm} {E : Type 0} (made : Result (Result (Option TypedItem) Fault) E) → x ≡ y → IfOk made (λ v. Tells (callback_judging s c y) v) → IfOk made (λ v. Tells (callback_judging s c x) v)
callback_at s c made e t = let P : CallbackForm → Type 0 = λ z. IfOk made (λ v. Tells (callback_judging s c z) v) in subst P (sym e) t

pub callback_told : (s : ScopeValue) (c : Callback) {x y : CallbackForm} {v : Result (Option TypedItem) Fault} → x ≡ y → Tells (callback_judging s c y) v → Tells (callback_judging s c x) v
callback_told s c {v = v} e t = let P : CallbackForm → Type 0 = λ z. Tells (callback_judging s c z) v in subst P (sym e) t

pub value_at : (s : ScopeValue) (t : Ty) {x y : Value} {E : Type 0} (made : Result (Result TypedValue Fault) E) → x ≡ y → IfOk made (λ v. Tells (value_judging s t y) v) → IfOk made (λ v. Tells (value_judging s t x) v)
value_at s t made e p = let P : Value → Type 0 = λ z. IfOk made (λ v. Tells (value_judging s t z) v) in subst P (sym e) p

pub constant_at : (s : ScopeValue) (member : MemberRef) (t : Ty) (x : Value) (b : Bool) {E : Type 0} (made : Result (Result (TypedValue × Bool) Fault) E) → b ≡ is_grid_number member → b ≡ true → IfOk made (λ v. Tells (constants s t x) v) → IfOk made (λ v. Tells (bound_value s member t x) v)
constant_at s member t x b made e h p = numbered_at s t x (is_below_root s.site && is_size member) made (sym e ∙ h) p

pub sized_as : (s : ScopeValue) (member : MemberRef) (t : Ty) (x : Value) (b size : Bool) {E : Type 0} (made : Result (Result (TypedValue × Bool) Fault) E) → b ≡ is_grid_number member → b ≡ false → size ≡ (is_below_root s.site && is_size member)
    → IfOk made (λ v. Tells (sized_value s size t x) v) → IfOk made (λ v. Tells (bound_value s member t x) v)
sized_as s member t x b size made e h k p = numbered_at s t x (is_below_root s.site && is_size member) made (sym e ∙ h) (sized_at s t x made (sym k) p)
