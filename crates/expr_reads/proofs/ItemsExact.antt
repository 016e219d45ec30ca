-- What is listed of an item, a model or a condition is what it may name, both ways.
use Rattle.std.proofs.Common.{◌≡◌, ◌⊎◌, inl, inr, Option, Some, None, refl, sym, subst}
use Rattle.std.specs.List.{flat_map}
use Rattle.typed_tree.specs.declared.expressions.TypedExpr.{TypedExpr}
use Rattle.typed_tree.specs.declared.trees.RowSource.{RowSource}
use Rattle.typed_tree.specs.declared.trees.RowSource.TheVariants as sources
use Rattle.typed_tree.specs.declared.trees.TypedChange.{TypedChange}
use Rattle.typed_tree.specs.declared.trees.TypedFor.{TypedFor}
use Rattle.typed_tree.specs.declared.trees.TypedItem.{TypedItem}
use Rattle.typed_tree.specs.declared.trees.TypedItem.TheVariants as items
use Rattle.typed_tree.specs.declared.trees.TypedRepeat.{TypedRepeat}
use Rattle.typed_tree.specs.declared.trees.TypedRepeat.TheVariants as repeats
use Rattle.typed_tree.specs.declared.trees.TypedState.{TypedState}
use Rattle.typed_tree.specs.declared.trees.TypedStates.{TypedStates}
use Rattle.finite_graphs.specs.Walks.{In, here}
use Rattle.finite_graphs.proofs.Lists.{in_left, in_none, in_one, in_right, in_split}
use Rattle.expr_reads.specs.declared.names.Named.{Named}
use Rattle.expr_reads.specs.Items.{named_change, named_item, named_repeat, named_rows, named_state, named_when}
use Rattle.expr_reads.specs.ItemsMayName.{ItemMayName, ItemNamesAreExact, RepeatMayName, RepeatNamesAreExact, array, body, bound, change, count, handled, holds, rows_of, watched, when}
use Rattle.expr_reads.specs.Names.{named, named_optional}
use Rattle.expr_reads.proofs.BlocksExact.{found_block, found_value, listed_block, listed_value}
use Rattle.expr_reads.proofs.Exact.{found, listed}
use Rattle.expr_reads.proofs.Listing.{Came, came, comes}

in_when : (s : TypedState) (e : TypedExpr) {n : Named} → s.when ≡ Some e → In n (named e) → In n (named_state s)
in_when s e {n} is h =
    let P : Option TypedExpr → Type 0 = λ o. In n (named_optional o) in
    in_left (flat_map named_change s.changes) (subst P (sym is) h)

in_change : (s : TypedState) (c : TypedChange) {n : Named} → In c s.changes → In n (named_change c) → In n (named_state s)
in_change s c k h = in_right (named_when s) (comes named_change k h)

listed_item : {i : TypedItem} {n : Named} → ItemMayName i n → In n (named_item i)
listed_item (bound b h) = listed_value h
listed_item (body f h) = listed_block h
listed_item (handled r h) = listed_value h
listed_item (watched c h) = listed_value h
listed_item (when list s e k is h) = comes named_state k (in_when s e is (listed h))
listed_item (change list s c k j h) = comes named_state k (in_change s c j (listed_value h))

by_when : (list : TypedStates) (s : TypedState) {n : Named} → In s list.states → (o : Option TypedExpr) → s.when ≡ o → In n (named_optional o) → ItemMayName (items.States list) n
by_when list s k None is h = absurd (in_none h)
by_when list s {n} k (Some e) is h = when list s e k is (found e n h)

by_change : (list : TypedStates) (s : TypedState) {n : Named} → In s list.states → Came named_change s.changes n → ItemMayName (items.States list) n
by_change list s {n} k c = change list s c.thing k c.among (found_value c.thing.value n c.made)

by_state : (list : TypedStates) (s : TypedState) {n : Named} → In s list.states → In n (named_when s) ⊎ In n (flat_map named_change s.changes) → ItemMayName (items.States list) n
by_state list s k (inl h) = by_when list s k s.when refl h
by_state list s k (inr h) = by_change list s k (came named_change s.changes h)

found_states : (list : TypedStates) {n : Named} → Came named_state list.states n → ItemMayName (items.States list) n
found_states list c = by_state list c.thing c.among (in_split (named_when c.thing) (flat_map named_change c.thing.changes) c.made)

found_item : (i : TypedItem) (n : Named) → In n (named_item i) → ItemMayName i n
found_item (items.Binding b) n h = bound b (found_value b.value n h)
found_item (items.Link l) n h = absurd (in_none h)
found_item (items.Function f) n h = body f (found_block f.body n h)
found_item (items.Handler r) n h = handled r (found_value r.run n h)
found_item (items.Changed c) n h = watched c (found_value c.run n h)
found_item (items.States list) n h = found_states list (came named_state list.states h)

pub exact_items : ItemNamesAreExact
exact_items i n = (λ m. listed_item m, λ h. found_item i n h)

in_rows : (f : TypedFor) (r : RowSource) {n : Named} → f.rows ≡ r → In n (named_rows r) → In n (named_rows f.rows)
in_rows f r {n} is h = let P : RowSource → Type 0 = λ z. In n (named_rows z) in subst P (sym is) h

listed_repeat : {r : TypedRepeat} {n : Named} → RepeatMayName r n → In n (named_repeat r)
listed_repeat (holds e s h) = listed h
listed_repeat (rows_of f m is) = in_rows f (sources.Property m) is here
listed_repeat (array f e is h) = in_rows f (sources.Array e) is (listed h)
listed_repeat (count f e is h) = in_rows f (sources.Count e) is (listed h)

told : {f : TypedFor} {a b : Named} → RepeatMayName (repeats.For f) b → a ≡ b → RepeatMayName (repeats.For f) a
told {f} p is = let P : Named → Type 0 = λ n. RepeatMayName (repeats.For f) n in subst P (sym is) p

by_rows : (f : TypedFor) (r : RowSource) {n : Named} → f.rows ≡ r → In n (named_rows r) → RepeatMayName (repeats.For f) n
by_rows f (sources.Property m) is h = told (rows_of f m is) (in_one h)
by_rows f (sources.Array e) {n} is h = array f e is (found e n h)
by_rows f (sources.Count e) {n} is h = count f e is (found e n h)

found_repeat : (r : TypedRepeat) (n : Named) → In n (named_repeat r) → RepeatMayName r n
found_repeat repeats.Once n h = absurd (in_none h)
found_repeat (repeats.If e s) n h = holds e s (found e n h)
found_repeat (repeats.For f) n h = by_rows f f.rows refl h

pub exact_repeats : RepeatNamesAreExact
exact_repeats r n = (λ m. listed_repeat m, λ h. found_repeat r n h)
