-- What is listed of an expression is what it may name, both ways.
use Rattle.std.proofs.Common.{◌≡◌, ℕ, List, [], ◌∷◌, ◌++◌, ◌⊎◌, inl, inr, map, sym, ◌∙◌, ap, subst}
use Rattle.std.specs.List.{flat_map}
use Rattle.slint_base.specs.declared.faults.Span.{Span}
use Rattle.element_tables.specs.declared.functions.MathFunction.{MathFunction}
use Rattle.element_tables.specs.declared.operators.Op.{Op}
use Rattle.value_types.specs.declared.types.Ty.{Ty}
use Rattle.typed_tree.specs.Typed.{typed, typed_field, typed_hole, typed_operand, typed_step}
use Rattle.typed_tree.specs.declared.expressions.Callee.{Callee}
use Rattle.typed_tree.specs.declared.expressions.Callee.TheVariants as callees
use Rattle.typed_tree.specs.declared.expressions.ExprKind.{ExprKind, roll-ExprKind, map-ExprKind, fold-roll-ExprKind}
use Rattle.typed_tree.specs.declared.expressions.ExprKind.TheOpen.{ExprKind-F, StepKind-F, TypedExpr-F, TypedField-F, TypedHole-F, TypedOperand-F, TypedStep-F}
use Rattle.typed_tree.specs.declared.expressions.ExprKind.TheVariants as exprs
use Rattle.typed_tree.specs.declared.expressions.StepKind.{StepKind, roll-StepKind, map-StepKind, fold-StepKind, fold-roll-StepKind}
use Rattle.typed_tree.specs.declared.expressions.StepKind.TheVariants as steps
use Rattle.typed_tree.specs.declared.expressions.TypedExpr.{TypedExpr, roll-TypedExpr, fold-roll-TypedExpr, ind-TypedExpr}
use Rattle.typed_tree.specs.declared.expressions.TypedField.{TypedField, out-TypedField, roll-TypedField, out-roll-TypedField, roll-out-TypedField, fold-roll-TypedField}
use Rattle.typed_tree.specs.declared.expressions.TypedHole.{TypedHole, out-TypedHole, roll-TypedHole, out-roll-TypedHole, roll-out-TypedHole, fold-roll-TypedHole}
use Rattle.typed_tree.specs.declared.expressions.TypedOperand.{TypedOperand, out-TypedOperand, roll-TypedOperand, out-roll-TypedOperand, roll-out-TypedOperand, fold-roll-TypedOperand}
use Rattle.typed_tree.specs.declared.expressions.TypedStep.{TypedStep, out-TypedStep, roll-TypedStep, out-roll-TypedStep, roll-out-TypedStep, fold-roll-TypedStep, ind-TypedStep}
use Rattle.typed_tree.specs.declared.members.MemberRef.{MemberRef}
use Rattle.finite_graphs.specs.Walks.{In, here}
use Rattle.finite_graphs.proofs.Lists.{in_left, in_none, in_one, in_right, in_split}
use Rattle.expr_reads.specs.declared.names.Named.{Named}
use Rattle.expr_reads.specs.declared.names.Named.TheVariants as names
use Rattle.expr_reads.specs.MayName.{MayName, ExprNamesAreExact, property, length_of, index, item_of, row_item, row_number, base, step, asked, field, item, converted, prefixed, first, operand, condition, if_true, if_false, computed, hole, argument, function, callback}
use Rattle.expr_reads.specs.Names.{Names, all, called, named, named_field, named_hole, named_kind, named_operand, named_step, expr_layer, field_layer, hole_layer, kind_layer, operand_layer, step_kind_layer, step_layer}
use Rattle.expr_reads.proofs.Listing.{Came, Known, Through, bares, came, comes, in_all, through}

abbrev Layer : Type 0
Layer = ExprKind-F ExprKind StepKind TypedExpr TypedField TypedHole TypedOperand TypedStep

abbrev named_step_kind : StepKind → Names
named_step_kind = fold-StepKind (Span → Names) Names Names Names Names Names Names kind_layer step_kind_layer expr_layer field_layer hole_layer operand_layer step_layer

-- what the parts of a form name
abbrev parts : Layer → ExprKind-F (Span → Names) Names Names Names Names Names Names
parts x = map-ExprKind ExprKind StepKind TypedExpr TypedField TypedHole TypedOperand TypedStep (Span → Names) Names Names Names Names Names Names named_kind named_step_kind named named_field named_hole named_operand named_step x

rolled : (x : Layer) (span : Span) → named_kind (roll-ExprKind x) span ≡ kind_layer (parts x) span
rolled x span =
    ap (λ (f : Span → Names). f span) (fold-roll-ExprKind (Span → Names) Names Names Names Names Names Names kind_layer step_kind_layer expr_layer field_layer hole_layer operand_layer step_layer x)

whole : (kind : ExprKind) (ty : Ty) (span : Span) → named (typed kind ty span) ≡ named_kind kind span
whole kind ty span =
    fold-roll-TypedExpr (Span → Names) Names Names Names Names Names Names kind_layer step_kind_layer expr_layer field_layer hole_layer operand_layer step_layer (record { kind = kind; ty = ty; span = span })

-- ---- what may be named is listed

in_form : (kind : ExprKind) (ty : Ty) (span : Span) (x : Layer) {n : Named} → roll-ExprKind x ≡ kind → In n (kind_layer (parts x) span) → In n (named (typed kind ty span))
in_form kind ty span x {n} is h =
    let P : Names → Type 0 = λ xs. In n xs in
    subst P (sym (whole kind ty span ∙ ap (λ (k : ExprKind). named_kind k span) (sym is) ∙ rolled x span)) h

in_field : (name : List ℕ) (e : TypedExpr) {n : Named} → In n (named e) → In n (named_field (typed_field name e))
in_field name e {n} h =
    let P : Names → Type 0 = λ xs. In n xs in
    subst P (sym (fold-roll-TypedField (Span → Names) Names Names Names Names Names Names kind_layer step_kind_layer expr_layer field_layer hole_layer operand_layer step_layer (record { name = name; value = e }))) h

in_hole : (e : TypedExpr) (behind : List ℕ) {n : Named} → In n (named e) → In n (named_hole (typed_hole e behind))
in_hole e behind {n} h =
    let P : Names → Type 0 = λ xs. In n xs in
    subst P (sym (fold-roll-TypedHole (Span → Names) Names Names Names Names Names Names kind_layer step_kind_layer expr_layer field_layer hole_layer operand_layer step_layer (record { value = e; behind = behind }))) h

in_operand : (op : Op) (left : Ty) (right : TypedExpr) (result : Ty) {n : Named} → In n (named right) → In n (named_operand (typed_operand op left right result))
in_operand op left right result {n} h =
    let P : Names → Type 0 = λ xs. In n xs in
    subst P (sym (fold-roll-TypedOperand (Span → Names) Names Names Names Names Names Names kind_layer step_kind_layer expr_layer field_layer hole_layer operand_layer step_layer (record { op = op; left = left; right = right; ty = result }))) h

in_step : (at : TypedExpr) (part : Ty) {n : Named} → In n (named at) → In n (named_step (typed_step (steps.ToItem at) part))
in_step at part {n} h =
    let P : Names → Type 0 = λ xs. In n xs in
    let kind : named_step_kind (steps.ToItem at) ≡ named at = ap named_step_kind (sym (steps.rolls-ToItem at)) ∙
    fold-roll-StepKind (Span → Names) Names Names Names Names Names Names kind_layer step_kind_layer expr_layer field_layer hole_layer operand_layer step_layer (StepKind-F.ToItem at) in
    subst P (sym (fold-roll-TypedStep (Span → Names) Names Names Names Names Names Names kind_layer step_kind_layer expr_layer field_layer hole_layer operand_layer step_layer (record { kind = steps.ToItem at; ty = part }) ∙ kind)) h

-- the steps of a path
pub in_steps : (path : List TypedStep) (at : TypedExpr) (part : Ty) {n : Named} → In (typed_step (steps.ToItem at) part) path → In n (named at) → In n (flat_map named_step path)
in_steps path at part k h = comes named_step k (in_step at part h)

pub listed : {e : TypedExpr} {n : Named} → MayName e n → In n (named e)
listed (property m ty span) = in_form (exprs.Property m) ty span (ExprKind-F.Property m) (exprs.rolls-Property m) here
listed (length_of m ty span) = in_form (exprs.PropertyLength m) ty span (ExprKind-F.PropertyLength m) (exprs.rolls-PropertyLength m) here
listed (index m at ty span h) = in_form (exprs.PropertyItem m at) ty span (ExprKind-F.PropertyItem m at) (exprs.rolls-PropertyItem m at) (in_left (names.Property m ∷ []) (listed h))
listed (item_of m at ty span) = in_form (exprs.PropertyItem m at) ty span (ExprKind-F.PropertyItem m at) (exprs.rolls-PropertyItem m at) (in_right (named at) here)
listed (row_item r ty span) = in_form (exprs.RowItem r) ty span (ExprKind-F.RowItem r) (exprs.rolls-RowItem r) here
listed (row_number r ty span) = in_form (exprs.RowNumber r) ty span (ExprKind-F.RowNumber r) (exprs.rolls-RowNumber r) here
listed (base e path ty span h) = in_form (exprs.Part e path) ty span (ExprKind-F.Part e path) (exprs.rolls-Part e path) (in_left (all (map named_step path)) (listed h))
listed (step e path ty span at part k h) = in_form (exprs.Part e path) ty span (ExprKind-F.Part e path) (exprs.rolls-Part e path) (in_right (named e) (in_all named_step path k (in_step at part (listed h))))
listed (asked m e ty span h) = in_form (exprs.Ask m e) ty span (ExprKind-F.Ask m e) (exprs.rolls-Ask m e) (listed h)
listed (field fields ty span name e k h) = in_form (exprs.Struct fields) ty span (ExprKind-F.Struct fields) (exprs.rolls-Struct fields) (in_all named_field fields k (in_field name e (listed h)))
listed (item es ty span e k h) = in_form (exprs.Array es) ty span (ExprKind-F.Array es) (exprs.rolls-Array es) (in_all named es k (listed h))
listed (converted e ty span h) = in_form (exprs.Convert e) ty span (ExprKind-F.Convert e) (exprs.rolls-Convert e) (listed h)
listed (prefixed op e ty span h) = in_form (exprs.Prefix op e) ty span (ExprKind-F.Prefix op e) (exprs.rolls-Prefix op e) (listed h)
listed (first e others ty span h) = in_form (exprs.Chain e others) ty span (ExprKind-F.Chain e others) (exprs.rolls-Chain e others) (in_left (all (map named_operand others)) (listed h))
listed (operand e others ty span op left right result k h) =
    in_form (exprs.Chain e others) ty span (ExprKind-F.Chain e others) (exprs.rolls-Chain e others) (in_right (named e) (in_all named_operand others k (in_operand op left right result (listed h))))
listed (condition c taken other ty span h) = in_form (exprs.Choice c taken other) ty span (ExprKind-F.Choice c taken other) (exprs.rolls-Choice c taken other) (in_left (named taken ++ named other) (listed h))
listed (if_true c taken other ty span h) = in_form (exprs.Choice c taken other) ty span (ExprKind-F.Choice c taken other) (exprs.rolls-Choice c taken other) (in_right (named c) (in_left (named other) (listed h)))
listed (if_false c taken other ty span h) = in_form (exprs.Choice c taken other) ty span (ExprKind-F.Choice c taken other) (exprs.rolls-Choice c taken other) (in_right (named c) (in_right (named taken) (listed h)))
listed (computed f es ty span e k h) = in_form (exprs.Math f es) ty span (ExprKind-F.Math f es) (exprs.rolls-Math f es) (in_all named es k (listed h))
listed (hole text holes ty span e behind k h) = in_form (exprs.Template text holes) ty span (ExprKind-F.Template text holes) (exprs.rolls-Template text holes) (in_all named_hole holes k (in_hole e behind (listed h)))
listed (argument callee es ty span e k h) = in_form (exprs.Call callee es) ty span (ExprKind-F.Call callee es) (exprs.rolls-Call callee es) (in_left (called callee span) (in_all named es k (listed h)))
listed (function m es ty span) = in_form (exprs.Call (callees.Function m) es) ty span (ExprKind-F.Call (callees.Function m) es) (exprs.rolls-Call (callees.Function m) es) (in_right (all (map named es)) here)
listed (callback m es ty span) = in_form (exprs.Call (callees.Callback m) es) ty span (ExprKind-F.Call (callees.Callback m) es) (exprs.rolls-Call (callees.Callback m) es) (in_right (all (map named es)) here)

-- ---- what is listed may be named

-- an index in a step
pub record ByIndex (kind : StepKind) (n : Named) : Type 0 where
  pub at : TypedExpr
  pub is : kind ≡ steps.ToItem at
  pub may : MayName at n

abbrev OfKind : ExprKind → Type 0
OfKind k = (ty : Ty) (span : Span) (n : Named) → In n (named_kind k span) → MayName (typed k ty span) n

abbrev OfStepKind : StepKind → Type 0
OfStepKind k = (n : Named) → In n (named_step_kind k) → ByIndex k n

abbrev OfExpr : TypedExpr → Type 0
OfExpr e = (n : Named) → In n (named e) → MayName e n

abbrev OfField : TypedField → Type 0
OfField f = (n : Named) → In n (named_field f) → MayName (out-TypedField f).value n

abbrev OfHole : TypedHole → Type 0
OfHole h = (n : Named) → In n (named_hole h) → MayName (out-TypedHole h).value n

abbrev OfOperand : TypedOperand → Type 0
OfOperand o = (n : Named) → In n (named_operand o) → MayName (out-TypedOperand o).right n

abbrev OfStep : TypedStep → Type 0
OfStep s = (n : Named) → In n (named_step s) → ByIndex (out-TypedStep s).kind n

abbrev KnownKind : Type 0
KnownKind = ExprKind-F (Known OfKind) (Known OfStepKind) (Known OfExpr) (Known OfField) (Known OfHole) (Known OfOperand) (Known OfStep)

abbrev bare_kind : KnownKind → Layer
bare_kind y = map-ExprKind (Known OfKind) (Known OfStepKind) (Known OfExpr) (Known OfField) (Known OfHole) (Known OfOperand) (Known OfStep) ExprKind StepKind TypedExpr TypedField TypedHole TypedOperand TypedStep
    (λ e. e.0) (λ e. e.0) (λ e. e.0) (λ e. e.0) (λ e. e.0) (λ e. e.0) (λ e. e.0) y

turned : (ty : Ty) (span : Span) {n : Named} {a b : ExprKind} → a ≡ b → MayName (typed b ty span) n → MayName (typed a ty span) n
turned ty span {n} e m = let P : ExprKind → Type 0 = λ k. MayName (typed k ty span) n in subst P (sym e) m

told : {e : TypedExpr} {a b : Named} → MayName e b → a ≡ b → MayName e a
told {e} m is = let P : Named → Type 0 = λ n. MayName e n in subst P (sym is) m

step_is : (s : TypedStep) (at : TypedExpr) → (out-TypedStep s).kind ≡ steps.ToItem at → s ≡ typed_step (steps.ToItem at) (out-TypedStep s).ty
step_is s at is = sym (roll-out-TypedStep s) ∙ ap (λ (k : StepKind). typed_step k (out-TypedStep s).ty) is

-- that a step is among others, told by its parts
pub record InPath (path : List TypedStep) (n : Named) : Type 0 where
  pub at : TypedExpr
  pub part : Ty
  pub among : In (typed_step (steps.ToItem at) part) path
  pub may : MayName at n

in_path : (path : List TypedStep) (s : TypedStep) {n : Named} → In s path → ByIndex (out-TypedStep s).kind n → InPath path n
in_path path s k i =
    let P : TypedStep → Type 0 = λ z. In z path in
    record { at = i.at; part = (out-TypedStep s).ty; among = subst P (step_is s i.at i.is) k; may = i.may }

by_step : (e : TypedExpr) (path : List TypedStep) (ty : Ty) (span : Span) {n : Named} → InPath path n → MayName (typed (exprs.Part e path) ty span) n
by_step e path ty span i = step e path ty span i.at i.part i.among i.may

known_part : (e : Known OfExpr) (path : List (Known OfStep)) (ty : Ty) (span : Span) {n : Named} → In n (named e.0) ⊎ In n (all (map named_step (bares OfStep path))) → MayName (typed (exprs.Part e.0 (bares OfStep path)) ty span) n
known_part e path ty span {n} (inl k) = base e.0 (bares OfStep path) ty span (e.1 n k)
known_part e path ty span {n} (inr k) =
    let t : Through OfStep named_step (bares OfStep path) n = through OfStep named_step path k in
    by_step e.0 (bares OfStep path) ty span (in_path (bares OfStep path) t.thing t.among (t.known n t.made))

by_field : (fields : List TypedField) (ty : Ty) (span : Span) {n : Named} (f : TypedField) → In f fields → MayName (out-TypedField f).value n → MayName (typed (exprs.Struct fields) ty span) n
by_field fields ty span f k m =
    let P : TypedField → Type 0 = λ z. In z fields in
    field fields ty span (out-TypedField f).name (out-TypedField f).value (subst P (sym (roll-out-TypedField f)) k) m

known_fields : (fields : List (Known OfField)) (ty : Ty) (span : Span) {n : Named} → In n (all (map named_field (bares OfField fields))) → MayName (typed (exprs.Struct (bares OfField fields)) ty span) n
known_fields fields ty span {n} k =
    let t : Through OfField named_field (bares OfField fields) n = through OfField named_field fields k in
    by_field (bares OfField fields) ty span t.thing t.among (t.known n t.made)

by_hole : (text : List ℕ) (holes : List TypedHole) (ty : Ty) (span : Span) {n : Named} (h : TypedHole) → In h holes → MayName (out-TypedHole h).value n → MayName (typed (exprs.Template text holes) ty span) n
by_hole text holes ty span h k m =
    let P : TypedHole → Type 0 = λ z. In z holes in
    hole text holes ty span (out-TypedHole h).value (out-TypedHole h).behind (subst P (sym (roll-out-TypedHole h)) k) m

known_holes : (text : List ℕ) (holes : List (Known OfHole)) (ty : Ty) (span : Span) {n : Named} → In n (all (map named_hole (bares OfHole holes))) → MayName (typed (exprs.Template text (bares OfHole holes)) ty span) n
known_holes text holes ty span {n} k =
    let t : Through OfHole named_hole (bares OfHole holes) n = through OfHole named_hole holes k in
    by_hole text (bares OfHole holes) ty span t.thing t.among (t.known n t.made)

by_operand : (e : TypedExpr) (others : List TypedOperand) (ty : Ty) (span : Span) {n : Named} (o : TypedOperand) → In o others → MayName (out-TypedOperand o).right n → MayName (typed (exprs.Chain e others) ty span) n
by_operand e others ty span o k m =
    let P : TypedOperand → Type 0 = λ z. In z others in
    operand e others ty span (out-TypedOperand o).op (out-TypedOperand o).left (out-TypedOperand o).right (out-TypedOperand o).ty (subst P (sym (roll-out-TypedOperand o)) k) m

known_chain : (e : Known OfExpr) (others : List (Known OfOperand)) (ty : Ty) (span : Span) {n : Named} → In n (named e.0) ⊎ In n (all (map named_operand (bares OfOperand others)))
    → MayName (typed (exprs.Chain e.0 (bares OfOperand others)) ty span) n
known_chain e others ty span {n} (inl k) = first e.0 (bares OfOperand others) ty span (e.1 n k)
known_chain e others ty span {n} (inr k) =
    let t : Through OfOperand named_operand (bares OfOperand others) n = through OfOperand named_operand others k in
    by_operand e.0 (bares OfOperand others) ty span t.thing t.among (t.known n t.made)

known_index : (m : MemberRef) (at : Known OfExpr) (ty : Ty) (span : Span) {n : Named} → In n (named at.0) ⊎ In n (names.Property m ∷ []) → MayName (typed (exprs.PropertyItem m at.0) ty span) n
known_index m at ty span {n} (inl k) = index m at.0 ty span (at.1 n k)
known_index m at ty span (inr k) = told (item_of m at.0 ty span) (in_one k)

known_branch : (c taken other : Known OfExpr) (ty : Ty) (span : Span) {n : Named} → In n (named taken.0) ⊎ In n (named other.0) → MayName (typed (exprs.Choice c.0 taken.0 other.0) ty span) n
known_branch c taken other ty span {n} (inl k) = if_true c.0 taken.0 other.0 ty span (taken.1 n k)
known_branch c taken other ty span {n} (inr k) = if_false c.0 taken.0 other.0 ty span (other.1 n k)

known_choice : (c taken other : Known OfExpr) (ty : Ty) (span : Span) {n : Named} → In n (named c.0) ⊎ In n (named taken.0 ++ named other.0) → MayName (typed (exprs.Choice c.0 taken.0 other.0) ty span) n
known_choice c taken other ty span {n} (inl k) = condition c.0 taken.0 other.0 ty span (c.1 n k)
known_choice c taken other ty span (inr k) = known_branch c taken other ty span (in_split (named taken.0) (named other.0) k)

known_items : (es : List (Known OfExpr)) (ty : Ty) (span : Span) {n : Named} → In n (all (map named (bares OfExpr es))) → MayName (typed (exprs.Array (bares OfExpr es)) ty span) n
known_items es ty span {n} k =
    let t : Through OfExpr named (bares OfExpr es) n = through OfExpr named es k in
    item (bares OfExpr es) ty span t.thing t.among (t.known n t.made)

known_math : (f : MathFunction) (es : List (Known OfExpr)) (ty : Ty) (span : Span) {n : Named} → In n (all (map named (bares OfExpr es))) → MayName (typed (exprs.Math f (bares OfExpr es)) ty span) n
known_math f es ty span {n} k =
    let t : Through OfExpr named (bares OfExpr es) n = through OfExpr named es k in
    computed f (bares OfExpr es) ty span t.thing t.among (t.known n t.made)

known_callee : (callee : Callee) (es : List TypedExpr) (ty : Ty) (span : Span) {n : Named} → In n (called callee span) → MayName (typed (exprs.Call callee es) ty span) n
known_callee (callees.Function m) es ty span k = told (function m es ty span) (in_one k)
known_callee (callees.Callback m) es ty span k = told (callback m es ty span) (in_one k)
known_callee (callees.Focus e) es ty span k = absurd (in_none k)

known_call : (callee : Callee) (es : List (Known OfExpr)) (ty : Ty) (span : Span) {n : Named} → In n (all (map named (bares OfExpr es))) ⊎ In n (called callee span) → MayName (typed (exprs.Call callee (bares OfExpr es)) ty span) n
known_call callee es ty span {n} (inl k) =
    let t : Through OfExpr named (bares OfExpr es) n = through OfExpr named es k in
    argument callee (bares OfExpr es) ty span t.thing t.among (t.known n t.made)
known_call callee es ty span (inr k) = known_callee callee (bares OfExpr es) ty span k

kind_known : (y : KnownKind) (ty : Ty) (span : Span) (n : Named) → In n (kind_layer (parts (bare_kind y)) span) → MayName (typed (roll-ExprKind (bare_kind y)) ty span) n
kind_known (ExprKind-F.Literal value) ty span n h = absurd (in_none h)
kind_known (ExprKind-F.Parameter k) ty span n h = absurd (in_none h)
kind_known (ExprKind-F.Property m) ty span n h = turned ty span (exprs.rolls-Property m) (told (property m ty span) (in_one h))
kind_known (ExprKind-F.PropertyLength m) ty span n h = turned ty span (exprs.rolls-PropertyLength m) (told (length_of m ty span) (in_one h))
kind_known (ExprKind-F.PropertyItem m at) ty span n h = turned ty span (exprs.rolls-PropertyItem m at.0) (known_index m at ty span (in_split (named at.0) (names.Property m ∷ []) h))
kind_known (ExprKind-F.RowItem r) ty span n h = turned ty span (exprs.rolls-RowItem r) (told (row_item r ty span) (in_one h))
kind_known (ExprKind-F.RowNumber r) ty span n h = turned ty span (exprs.rolls-RowNumber r) (told (row_number r ty span) (in_one h))
kind_known (ExprKind-F.Part e path) ty span n h =
    turned ty span (exprs.rolls-Part e.0 (bares OfStep path)) (known_part e path ty span (in_split (named e.0) (all (map named_step (bares OfStep path))) h))
kind_known (ExprKind-F.Ask m e) ty span n h = turned ty span (exprs.rolls-Ask m e.0) (asked m e.0 ty span (e.1 n h))
kind_known (ExprKind-F.Struct fields) ty span n h = turned ty span (exprs.rolls-Struct (bares OfField fields)) (known_fields fields ty span h)
kind_known (ExprKind-F.Array es) ty span n h = turned ty span (exprs.rolls-Array (bares OfExpr es)) (known_items es ty span h)
kind_known (ExprKind-F.Convert e) ty span n h = turned ty span (exprs.rolls-Convert e.0) (converted e.0 ty span (e.1 n h))
kind_known (ExprKind-F.Prefix op e) ty span n h = turned ty span (exprs.rolls-Prefix op e.0) (prefixed op e.0 ty span (e.1 n h))
kind_known (ExprKind-F.Chain e others) ty span n h =
    turned ty span (exprs.rolls-Chain e.0 (bares OfOperand others)) (known_chain e others ty span (in_split (named e.0) (all (map named_operand (bares OfOperand others))) h))
kind_known (ExprKind-F.Choice c taken other) ty span n h = turned ty span (exprs.rolls-Choice c.0 taken.0 other.0) (known_choice c taken other ty span (in_split (named c.0) (named taken.0 ++ named other.0) h))
kind_known (ExprKind-F.Math f es) ty span n h = turned ty span (exprs.rolls-Math f (bares OfExpr es)) (known_math f es ty span h)
kind_known (ExprKind-F.Template text holes) ty span n h = turned ty span (exprs.rolls-Template text (bares OfHole holes)) (known_holes text holes ty span h)
kind_known (ExprKind-F.Call callee es) ty span n h =
    turned ty span (exprs.rolls-Call callee (bares OfExpr es)) (known_call callee es ty span (in_split (all (map named (bares OfExpr es))) (called callee span) h))

kind_step : (x : Layer) (y : KnownKind) → bare_kind y ≡ x → OfKind (roll-ExprKind x)
kind_step x y is ty span n h =
    let P : Layer → Type 0 = λ z. In n (kind_layer (parts z) span) → MayName (typed (roll-ExprKind z) ty span) n in
    let Q : Names → Type 0 = λ xs. In n xs in
    subst P is (kind_known y ty span n) (subst Q (rolled x span) h)

abbrev StepLayer : Type 0
StepLayer = StepKind-F ExprKind StepKind TypedExpr TypedField TypedHole TypedOperand TypedStep

abbrev KnownStepKind : Type 0
KnownStepKind = StepKind-F (Known OfKind) (Known OfStepKind) (Known OfExpr) (Known OfField) (Known OfHole) (Known OfOperand) (Known OfStep)

abbrev bare_step_kind : KnownStepKind → StepLayer
bare_step_kind y = map-StepKind (Known OfKind) (Known OfStepKind) (Known OfExpr) (Known OfField) (Known OfHole) (Known OfOperand) (Known OfStep) ExprKind StepKind TypedExpr TypedField TypedHole TypedOperand TypedStep
    (λ e. e.0) (λ e. e.0) (λ e. e.0) (λ e. e.0) (λ e. e.0) (λ e. e.0) (λ e. e.0) y

abbrev step_parts : StepLayer → StepKind-F (Span → Names) Names Names Names Names Names Names
step_parts x = map-StepKind ExprKind StepKind TypedExpr TypedField TypedHole TypedOperand TypedStep (Span → Names) Names Names Names Names Names Names named_kind named_step_kind named named_field named_hole named_operand named_step x

step_kind_known : (y : KnownStepKind) (n : Named) → In n (step_kind_layer (step_parts (bare_step_kind y))) → ByIndex (roll-StepKind (bare_step_kind y)) n
step_kind_known (StepKind-F.ToField name) n h = absurd (in_none h)
step_kind_known (StepKind-F.ToItem at) n h = record { at = at.0; is = steps.rolls-ToItem at.0; may = at.1 n h }

step_kind_step : (x : StepLayer) (y : KnownStepKind) → bare_step_kind y ≡ x → OfStepKind (roll-StepKind x)
step_kind_step x y is n h =
    let P : StepLayer → Type 0 = λ z. In n (step_kind_layer (step_parts z)) → ByIndex (roll-StepKind z) n in
    let Q : Names → Type 0 = λ xs. In n xs in
    subst P is (step_kind_known y n)
    (subst Q (fold-roll-StepKind (Span → Names) Names Names Names Names Names Names kind_layer step_kind_layer expr_layer field_layer hole_layer operand_layer step_layer x) h)

abbrev ExprLayer : Type 0
ExprLayer = TypedExpr-F ExprKind StepKind TypedExpr TypedField TypedHole TypedOperand TypedStep

abbrev KnownExpr : Type 0
KnownExpr = TypedExpr-F (Known OfKind) (Known OfStepKind) (Known OfExpr) (Known OfField) (Known OfHole) (Known OfOperand) (Known OfStep)

abbrev bare_expr : KnownExpr → ExprLayer
bare_expr y = record { kind = y.kind.0; ty = y.ty; span = y.span }

expr_step : (x : ExprLayer) (y : KnownExpr) → bare_expr y ≡ x → OfExpr (roll-TypedExpr x)
expr_step x y is n h =
    let P : ExprLayer → Type 0 = λ z. In n (named_kind z.kind z.span) → MayName (roll-TypedExpr z) n in
    let Q : Names → Type 0 = λ xs. In n xs in
    subst P is (y.kind.1 y.ty y.span n)
    (subst Q (fold-roll-TypedExpr (Span → Names) Names Names Names Names Names Names kind_layer step_kind_layer expr_layer field_layer hole_layer operand_layer step_layer x) h)

abbrev FieldLayer : Type 0
FieldLayer = TypedField-F ExprKind StepKind TypedExpr TypedField TypedHole TypedOperand TypedStep

abbrev KnownField : Type 0
KnownField = TypedField-F (Known OfKind) (Known OfStepKind) (Known OfExpr) (Known OfField) (Known OfHole) (Known OfOperand) (Known OfStep)

abbrev bare_field : KnownField → FieldLayer
bare_field y = record { name = y.name; value = y.value.0 }

field_step : (x : FieldLayer) (y : KnownField) → bare_field y ≡ x → OfField (roll-TypedField x)
field_step x y is n h =
    let P : FieldLayer → Type 0 = λ z. In n (named z.value) → MayName z.value n in
    let Q : Names → Type 0 = λ xs. In n xs in
    let R : FieldLayer → Type 0 = λ z. MayName z.value n in
    subst R (sym (out-roll-TypedField x)) (subst P is (y.value.1 n)
    (subst Q (fold-roll-TypedField (Span → Names) Names Names Names Names Names Names kind_layer step_kind_layer expr_layer field_layer hole_layer operand_layer step_layer x) h))

abbrev HoleLayer : Type 0
HoleLayer = TypedHole-F ExprKind StepKind TypedExpr TypedField TypedHole TypedOperand TypedStep

abbrev KnownHole : Type 0
KnownHole = TypedHole-F (Known OfKind) (Known OfStepKind) (Known OfExpr) (Known OfField) (Known OfHole) (Known OfOperand) (Known OfStep)

abbrev bare_hole : KnownHole → HoleLayer
bare_hole y = record { value = y.value.0; behind = y.behind }

hole_step : (x : HoleLayer) (y : KnownHole) → bare_hole y ≡ x → OfHole (roll-TypedHole x)
hole_step x y is n h =
    let P : HoleLayer → Type 0 = λ z. In n (named z.value) → MayName z.value n in
    let Q : Names → Type 0 = λ xs. In n xs in
    let R : HoleLayer → Type 0 = λ z. MayName z.value n in
    subst R (sym (out-roll-TypedHole x)) (subst P is (y.value.1 n)
    (subst Q (fold-roll-TypedHole (Span → Names) Names Names Names Names Names Names kind_layer step_kind_layer expr_layer field_layer hole_layer operand_layer step_layer x) h))

abbrev OperandLayer : Type 0
OperandLayer = TypedOperand-F ExprKind StepKind TypedExpr TypedField TypedHole TypedOperand TypedStep

abbrev KnownOperand : Type 0
KnownOperand = TypedOperand-F (Known OfKind) (Known OfStepKind) (Known OfExpr) (Known OfField) (Known OfHole) (Known OfOperand) (Known OfStep)

abbrev bare_operand : KnownOperand → OperandLayer
bare_operand y = record { op = y.op; left = y.left; right = y.right.0; ty = y.ty }

operand_step : (x : OperandLayer) (y : KnownOperand) → bare_operand y ≡ x → OfOperand (roll-TypedOperand x)
operand_step x y is n h =
    let P : OperandLayer → Type 0 = λ z. In n (named z.right) → MayName z.right n in
    let Q : Names → Type 0 = λ xs. In n xs in
    let R : OperandLayer → Type 0 = λ z. MayName z.right n in
    subst R (sym (out-roll-TypedOperand x)) (subst P is (y.right.1 n)
    (subst Q (fold-roll-TypedOperand (Span → Names) Names Names Names Names Names Names kind_layer step_kind_layer expr_layer field_layer hole_layer operand_layer step_layer x) h))

abbrev PathLayer : Type 0
PathLayer = TypedStep-F ExprKind StepKind TypedExpr TypedField TypedHole TypedOperand TypedStep

abbrev KnownStep : Type 0
KnownStep = TypedStep-F (Known OfKind) (Known OfStepKind) (Known OfExpr) (Known OfField) (Known OfHole) (Known OfOperand) (Known OfStep)

abbrev bare_step : KnownStep → PathLayer
bare_step y = record { kind = y.kind.0; ty = y.ty }

step_step : (x : PathLayer) (y : KnownStep) → bare_step y ≡ x → OfStep (roll-TypedStep x)
step_step x y is n h =
    let P : PathLayer → Type 0 = λ z. In n (named_step_kind z.kind) → ByIndex z.kind n in
    let Q : Names → Type 0 = λ xs. In n xs in
    let R : PathLayer → Type 0 = λ z. ByIndex z.kind n in
    subst R (sym (out-roll-TypedStep x)) (subst P is (y.kind.1 n)
    (subst Q (fold-roll-TypedStep (Span → Names) Names Names Names Names Names Names kind_layer step_kind_layer expr_layer field_layer hole_layer operand_layer step_layer x) h))

pub found : (e : TypedExpr) (n : Named) → In n (named e) → MayName e n
found = ind-TypedExpr OfKind OfStepKind OfExpr OfField OfHole OfOperand OfStep (λ x y is. kind_step x y is) (λ x y is. step_kind_step x y is) (λ x y is. expr_step x y is) (λ x y is. field_step x y is)
    (λ x y is. hole_step x y is) (λ x y is. operand_step x y is) (λ x y is. step_step x y is)

found_step : (s : TypedStep) → OfStep s
found_step = ind-TypedStep OfKind OfStepKind OfExpr OfField OfHole OfOperand OfStep (λ x y is. kind_step x y is) (λ x y is. step_kind_step x y is) (λ x y is. expr_step x y is) (λ x y is. field_step x y is)
    (λ x y is. hole_step x y is) (λ x y is. operand_step x y is) (λ x y is. step_step x y is)

-- the indices of a path
pub found_steps : (path : List TypedStep) {n : Named} → In n (flat_map named_step path) → InPath path n
found_steps path {n} h = let c : Came named_step path n = came named_step path h in in_path path c.thing c.among (found_step c.thing n c.made)

pub exact : ExprNamesAreExact
exact e n = (λ m. listed m, λ h. found e n h)
