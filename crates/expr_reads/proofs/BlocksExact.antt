-- What is listed of a block or a value is what it may name, both ways.
use Rattle.std.proofs.Common.{◌≡◌, List, ◌++◌, ◌⊎◌, inl, inr, Option, Some, None, map, sym, ◌∙◌, ap, subst}
use Rattle.slint_base.specs.declared.faults.Span.{Span}
use Rattle.typed_tree.specs.Typed.{typed_block, typed_stmt}
use Rattle.typed_tree.specs.declared.expressions.TypedExpr.{TypedExpr}
use Rattle.typed_tree.specs.declared.statements.StmtKind.{StmtKind, roll-StmtKind, map-StmtKind, fold-roll-StmtKind}
use Rattle.typed_tree.specs.declared.statements.StmtKind.TheOpen.{StmtKind-F, TypedBlock-F, TypedStmt-F}
use Rattle.typed_tree.specs.declared.statements.StmtKind.TheVariants as stmts
use Rattle.typed_tree.specs.declared.statements.Target.{Target}
use Rattle.typed_tree.specs.declared.statements.TypedBlock.{TypedBlock, out-TypedBlock, roll-TypedBlock, out-roll-TypedBlock, roll-out-TypedBlock, fold-roll-TypedBlock, ind-TypedBlock}
use Rattle.typed_tree.specs.declared.statements.TypedStmt.{TypedStmt, roll-TypedStmt, fold-roll-TypedStmt}
use Rattle.typed_tree.specs.declared.statements.TypedValue.{TypedValue}
use Rattle.typed_tree.specs.declared.statements.TypedValue.TheVariants as values
use Rattle.finite_graphs.specs.Walks.{In}
use Rattle.finite_graphs.proofs.Lists.{in_left, in_none, in_right, in_split}
use Rattle.expr_reads.specs.declared.names.Named.{Named}
use Rattle.expr_reads.specs.MayName.{StmtMayName, BlockMayName, ValueMayName, BlockNamesAreExact, ValueNamesAreExact, tested, then_run, else_run, returned, run, written_at, assigned, stmt, of_expr, of_block}
use Rattle.expr_reads.specs.Names.{Names, all, named, named_block, named_optional, named_stmt, named_stmt_kind, named_target, named_value, block_layer, stmt_kind_layer, stmt_layer}
use Rattle.expr_reads.proofs.Exact.{InPath, found, found_steps, in_steps, listed}
use Rattle.expr_reads.proofs.Listing.{Known, Through, bares, in_all, through}

abbrev Layer : Type 0
Layer = StmtKind-F StmtKind TypedBlock TypedStmt

-- what the parts of a statement name
abbrev parts : Layer → StmtKind-F Names Names Names
parts x = map-StmtKind StmtKind TypedBlock TypedStmt Names Names Names named_stmt_kind named_block named_stmt x

rolled : (x : Layer) → named_stmt_kind (roll-StmtKind x) ≡ stmt_kind_layer (parts x)
rolled x = fold-roll-StmtKind Names Names Names stmt_kind_layer block_layer stmt_layer x

whole : (kind : StmtKind) (span : Span) → named_stmt (typed_stmt kind span) ≡ named_stmt_kind kind
whole kind span = fold-roll-TypedStmt Names Names Names stmt_kind_layer block_layer stmt_layer (record { kind = kind; span = span })

in_form : (kind : StmtKind) (span : Span) (x : Layer) {n : Named} → roll-StmtKind x ≡ kind → In n (stmt_kind_layer (parts x)) → In n (named_stmt (typed_stmt kind span))
in_form kind span x {n} is h =
    let P : Names → Type 0 = λ xs. In n xs in
    subst P (sym (whole kind span ∙ ap named_stmt_kind (sym is) ∙ rolled x)) h

in_block : (list : List TypedStmt) (at : Span) (s : TypedStmt) {n : Named} → In s list → In n (named_stmt s) → In n (named_block (typed_block list at))
in_block list at s {n} k h =
    let P : Names → Type 0 = λ xs. In n xs in
    subst P (sym (fold-roll-TypedBlock Names Names Names stmt_kind_layer block_layer stmt_layer (record { stmts = list; span = at }))) (in_all named_stmt list k h)

listed_stmt : {s : TypedStmt} {n : Named} → StmtMayName s n → In n (named_stmt s)
listed_stmt (tested c taken other span h) = in_form (stmts.If c taken other) span (StmtKind-F.If c taken other) (stmts.rolls-If c taken other) (in_left (named_block taken ++ named_block other) (listed h))
listed_stmt (then_run c list at other span s k h) =
    in_form (stmts.If c (typed_block list at) other) span (StmtKind-F.If c (typed_block list at) other) (stmts.rolls-If c (typed_block list at) other)
    (in_right (named c) (in_left (named_block other) (in_block list at s k (listed_stmt h))))
listed_stmt (else_run c taken list at span s k h) =
    in_form (stmts.If c taken (typed_block list at)) span (StmtKind-F.If c taken (typed_block list at)) (stmts.rolls-If c taken (typed_block list at))
    (in_right (named c) (in_right (named_block taken) (in_block list at s k (listed_stmt h))))
listed_stmt (returned e span h) = in_form (stmts.Return (Some e)) span (StmtKind-F.Return (Some e)) (stmts.rolls-Return (Some e)) (listed h)
listed_stmt (run e span h) = in_form (stmts.Expr e) span (StmtKind-F.Expr e) (stmts.rolls-Expr e) (listed h)
listed_stmt (written_at target value span at part k h) =
    in_form (stmts.Assign target value) span (StmtKind-F.Assign target value) (stmts.rolls-Assign target value) (in_left (named value) (in_steps target.steps at part k (listed h)))
listed_stmt (assigned target value span h) =
    in_form (stmts.Assign target value) span (StmtKind-F.Assign target value) (stmts.rolls-Assign target value) (in_right (named_target target) (listed h))

pub listed_block : {b : TypedBlock} {n : Named} → BlockMayName b n → In n (named_block b)
listed_block (stmt list span s k h) = in_block list span s k (listed_stmt h)

-- ---- what is listed may be named

-- a statement of a block that may name it
record InBlock (b : TypedBlock) (n : Named) : Type 0 where
  pub one : TypedStmt
  pub among : In one (out-TypedBlock b).stmts
  pub may : StmtMayName one n

abbrev OfKind : StmtKind → Type 0
OfKind k = (span : Span) (n : Named) → In n (named_stmt_kind k) → StmtMayName (typed_stmt k span) n

abbrev OfBlock : TypedBlock → Type 0
OfBlock b = (n : Named) → In n (named_block b) → InBlock b n

abbrev OfStmt : TypedStmt → Type 0
OfStmt s = (n : Named) → In n (named_stmt s) → StmtMayName s n

abbrev KnownKind : Type 0
KnownKind = StmtKind-F (Known OfKind) (Known OfBlock) (Known OfStmt)

abbrev bare_kind : KnownKind → Layer
bare_kind y = map-StmtKind (Known OfKind) (Known OfBlock) (Known OfStmt) StmtKind TypedBlock TypedStmt (λ e. e.0) (λ e. e.0) (λ e. e.0) y

turned : (span : Span) {n : Named} {a b : StmtKind} → a ≡ b → StmtMayName (typed_stmt b span) n → StmtMayName (typed_stmt a span) n
turned span {n} e m = let P : StmtKind → Type 0 = λ k. StmtMayName (typed_stmt k span) n in subst P (sym e) m

by_then : (c : TypedExpr) (taken other : TypedBlock) (span : Span) {n : Named} → InBlock taken n → StmtMayName (typed_stmt (stmts.If c taken other) span) n
by_then c taken other span {n} i =
    let P : TypedBlock → Type 0 = λ b. StmtMayName (typed_stmt (stmts.If c b other) span) n in
    subst P (roll-out-TypedBlock taken) (then_run c (out-TypedBlock taken).stmts (out-TypedBlock taken).span other span i.one i.among i.may)

by_else : (c : TypedExpr) (taken other : TypedBlock) (span : Span) {n : Named} → InBlock other n → StmtMayName (typed_stmt (stmts.If c taken other) span) n
by_else c taken other span {n} i =
    let P : TypedBlock → Type 0 = λ b. StmtMayName (typed_stmt (stmts.If c taken b) span) n in
    subst P (roll-out-TypedBlock other) (else_run c taken (out-TypedBlock other).stmts (out-TypedBlock other).span span i.one i.among i.may)

known_branch : (c : TypedExpr) (taken other : Known OfBlock) (span : Span) {n : Named} → In n (named_block taken.0) ⊎ In n (named_block other.0) → StmtMayName (typed_stmt (stmts.If c taken.0 other.0) span) n
known_branch c taken other span {n} (inl k) = by_then c taken.0 other.0 span (taken.1 n k)
known_branch c taken other span {n} (inr k) = by_else c taken.0 other.0 span (other.1 n k)

known_if : (c : TypedExpr) (taken other : Known OfBlock) (span : Span) {n : Named} → In n (named c) ⊎ In n (named_block taken.0 ++ named_block other.0) → StmtMayName (typed_stmt (stmts.If c taken.0 other.0) span) n
known_if c taken other span {n} (inl k) = tested c taken.0 other.0 span (found c n k)
known_if c taken other span (inr k) = known_branch c taken other span (in_split (named_block taken.0) (named_block other.0) k)

known_return : (value : Option TypedExpr) (span : Span) {n : Named} → In n (named_optional value) → StmtMayName (typed_stmt (stmts.Return value) span) n
known_return None span k = absurd (in_none k)
known_return (Some e) span {n} k = returned e span (found e n k)

by_index : (target : Target) (value : TypedExpr) (span : Span) {n : Named} → InPath target.steps n → StmtMayName (typed_stmt (stmts.Assign target value) span) n
by_index target value span i = written_at target value span i.at i.part i.among i.may

known_assign : (target : Target) (value : TypedExpr) (span : Span) {n : Named} → In n (named_target target) ⊎ In n (named value) → StmtMayName (typed_stmt (stmts.Assign target value) span) n
known_assign target value span (inl k) = by_index target value span (found_steps target.steps k)
known_assign target value span {n} (inr k) = assigned target value span (found value n k)

kind_known : (y : KnownKind) (span : Span) (n : Named) → In n (stmt_kind_layer (parts (bare_kind y))) → StmtMayName (typed_stmt (roll-StmtKind (bare_kind y)) span) n
kind_known (StmtKind-F.If c taken other) span n h = turned span (stmts.rolls-If c taken.0 other.0) (known_if c taken other span (in_split (named c) (named_block taken.0 ++ named_block other.0) h))
kind_known (StmtKind-F.Return value) span n h = turned span (stmts.rolls-Return value) (known_return value span h)
kind_known StmtKind-F.Empty span n h = absurd (in_none h)
kind_known (StmtKind-F.Expr e) span n h = turned span (stmts.rolls-Expr e) (run e span (found e n h))
kind_known (StmtKind-F.Assign target value) span n h = turned span (stmts.rolls-Assign target value) (known_assign target value span (in_split (named_target target) (named value) h))

kind_step : (x : Layer) (y : KnownKind) → bare_kind y ≡ x → OfKind (roll-StmtKind x)
kind_step x y is span n h =
    let P : Layer → Type 0 = λ z. In n (stmt_kind_layer (parts z)) → StmtMayName (typed_stmt (roll-StmtKind z) span) n in
    let Q : Names → Type 0 = λ xs. In n xs in
    subst P is (kind_known y span n) (subst Q (rolled x) h)

abbrev BlockLayer : Type 0
BlockLayer = TypedBlock-F StmtKind TypedBlock TypedStmt

abbrev KnownBlock : Type 0
KnownBlock = TypedBlock-F (Known OfKind) (Known OfBlock) (Known OfStmt)

abbrev bare_block : KnownBlock → BlockLayer
bare_block y = record { stmts = bares OfStmt y.stmts; span = y.span }

-- of some statements the one that may name it
record OneOf (list : List TypedStmt) (n : Named) : Type 0 where
  pub one : TypedStmt
  pub among : In one list
  pub may : StmtMayName one n

one_of : (list : List (Known OfStmt)) (n : Named) → In n (all (map named_stmt (bares OfStmt list))) → OneOf (bares OfStmt list) n
one_of list n h =
    let t : Through OfStmt named_stmt (bares OfStmt list) n = through OfStmt named_stmt list h in
    record { one = t.thing; among = t.among; may = t.known n t.made }

block_step : (x : BlockLayer) (y : KnownBlock) → bare_block y ≡ x → OfBlock (roll-TypedBlock x)
block_step x y is n h =
    let P : BlockLayer → Type 0 = λ z. In n (all (map named_stmt z.stmts)) → OneOf z.stmts n in
    let Q : Names → Type 0 = λ xs. In n xs in
    let R : BlockLayer → Type 0 = λ z. OneOf z.stmts n in
    let o : OneOf (out-TypedBlock (roll-TypedBlock x)).stmts n = subst R (sym (out-roll-TypedBlock x)) (subst P is (one_of y.stmts n) (subst Q (fold-roll-TypedBlock Names Names Names stmt_kind_layer block_layer stmt_layer x) h)) in
    record { one = o.one; among = o.among; may = o.may }

abbrev StmtLayer : Type 0
StmtLayer = TypedStmt-F StmtKind TypedBlock TypedStmt

abbrev KnownStmt : Type 0
KnownStmt = TypedStmt-F (Known OfKind) (Known OfBlock) (Known OfStmt)

abbrev bare_stmt : KnownStmt → StmtLayer
bare_stmt y = record { kind = y.kind.0; span = y.span }

stmt_step : (x : StmtLayer) (y : KnownStmt) → bare_stmt y ≡ x → OfStmt (roll-TypedStmt x)
stmt_step x y is n h =
    let P : StmtLayer → Type 0 = λ z. In n (named_stmt_kind z.kind) → StmtMayName (roll-TypedStmt z) n in
    let Q : Names → Type 0 = λ xs. In n xs in
    subst P is (y.kind.1 y.span n) (subst Q (fold-roll-TypedStmt Names Names Names stmt_kind_layer block_layer stmt_layer x) h)

in_which : (b : TypedBlock) → OfBlock b
in_which = ind-TypedBlock OfKind OfBlock OfStmt (λ x y is. kind_step x y is) (λ x y is. block_step x y is) (λ x y is. stmt_step x y is)

by_one : (b : TypedBlock) {n : Named} → InBlock b n → BlockMayName b n
by_one b {n} i =
    let P : TypedBlock → Type 0 = λ z. BlockMayName z n in
    subst P (roll-out-TypedBlock b) (stmt (out-TypedBlock b).stmts (out-TypedBlock b).span i.one i.among i.may)

pub found_block : (b : TypedBlock) (n : Named) → In n (named_block b) → BlockMayName b n
found_block b n h = by_one b (in_which b n h)

pub listed_value : {v : TypedValue} {n : Named} → ValueMayName v n → In n (named_value v)
listed_value (of_expr e h) = listed h
listed_value (of_block b h) = listed_block h

pub found_value : (v : TypedValue) (n : Named) → In n (named_value v) → ValueMayName v n
found_value (values.Expr e) n h = of_expr e (found e n h)
found_value (values.Block b) n h = of_block b (found_block b n h)

pub exact_blocks : BlockNamesAreExact
exact_blocks b n = (λ m. listed_block m, λ h. found_block b n h)

pub exact_values : ValueNamesAreExact
exact_values v n = (λ m. listed_value m, λ h. found_value v n h)
