use Rattle.std.proofs.Common.{◌≡◌, ℕ, ◌<◌, ◌≤◌, List, length, refl, arith}
use Rattle.slint_base.specs.declared.faults.Span.{Span}
use Rattle.slint_lexer.specs.declared.tokens.Token.{Token}
use Rattle.syntax_tree.specs.declared.types.TypeName.{TypeName}
use Rattle.syntax_tree.specs.declared.types.TypeName.TheVariants as types
use Rattle.slint_grammar.specs.Trees.{join}
use Rattle.slint_parser.specs.Readings.{TookBy}
use Rattle.slint_grammar.specs.Parts as parts
use Rattle.slint_grammar.specs.Grammar.{Alt as alts}
use Rattle.slint_parser.proofs.Joining.{alt_error, part_error, took_by, end_all, and_one, and_same, and_deep, at_one, at_same, at_deep, past_one, past_deep, chosen_reads, chosen_took, chosen_stuck}
use Rattle.slint_parser.proofs.Listing.{none_closed, none_error, some_begun, still_open, item_error, last_item, behind_error, another, next_item}
use Rattle.slint_parser.proofs.Shorter.{no_longer, taken_shorter}
use Rattle.slint_parser.proofs.Among.{unlike}
use Rattle.slint_parser.proofs.ChosenTypes.{chosen_array, chosen_struct, chosen_named, chosen_field}
use Rattle.slint_parser.proofs.types.+types.Goals as goal

-- what is made of an array type, where its item was moved into a box
array_made : (d : ℕ) (s r : List Token) (from to : Span) (item boxed : TypeName) (span : Span) → boxed ≡ item → span ≡ join from to
    → TookBy alts.array_type d s r (types.Array item (join from to)) → TookBy alts.array_type d s r (types.Array boxed span)
array_made d s r from to item boxed span e f x = rw (e, f) x

below : {a b c : ℕ} → a < b → b ≤ c → a < c
below h k = omega arith

pub array_type-returns-in_err-item : goal.array_type-returns-in_err-item
array_type-returns-in_err-item t c =
    alt_error alts.array_type c.args.depth c.args.cursor.now c.type_name.new.cursor _ c.from_residual-in_err-item.result c.from_residual-in_err-item.ensures.1
    (past_one c.in_ok-open.ensures (at_deep c.args.depth c.in_err-item.ensures))

pub array_type-returns-in_err-close : goal.array_type-returns-in_err-close
array_type-returns-in_err-close t c =
    alt_error alts.array_type c.args.depth c.args.cursor.now c.symbol-2.new.self _ c.from_residual-in_err-close.result c.from_residual-in_err-close.ensures.1
    (past_one c.in_ok-open.ensures (past_deep c.args.depth c.in_ok-item.ensures (at_one c.in_err-close.ensures)))

pub array_type-returns : goal.array_type-returns
array_type-returns t c =
    array_made c.args.depth c.args.cursor.now c.symbol-2.new.self c.in_ok-open.open c.in_ok-close.close c.in_ok-item.item c.in_ok-new.field-0 c.join.result c.in_ok-new.ensures c.join.ensures
    (took_by alts.array_type (and_one c.in_ok-open.ensures (and_deep c.args.depth c.in_ok-item.ensures (and_one c.in_ok-close.ensures (end_all c.args.depth c.symbol-2.new.self)))))

pub field-returns-in_err-name : goal.field-returns-in_err-name
field-returns-in_err-name t c =
    part_error parts.Field c.args.depth c.args.cursor.now c.name.new.self _ c.from_residual.result c.from_residual.ensures.1
    (chosen_stuck (chosen_field c.args.depth c.args.cursor.now) (at_one c.in_err-name.ensures))

pub field-returns-in_err-symbol : goal.field-returns-in_err-symbol
field-returns-in_err-symbol t c =
    part_error parts.Field c.args.depth c.args.cursor.now c.symbol.new.self _ c.from_residual-in_err-symbol.result c.from_residual-in_err-symbol.ensures.1
    (chosen_stuck (chosen_field c.args.depth c.args.cursor.now) (past_one c.in_ok-name.ensures (at_one c.in_err-symbol.ensures)))

pub field-returns-in_err-ty : goal.field-returns-in_err-ty
field-returns-in_err-ty t c =
    part_error parts.Field c.args.depth c.args.cursor.now c.type_name.new.cursor _ c.from_residual-in_err-ty.result c.from_residual-in_err-ty.ensures.1
    (chosen_stuck (chosen_field c.args.depth c.args.cursor.now) (past_one c.in_ok-name.ensures (past_one c.in_ok-symbol.ensures (at_deep c.args.depth c.in_err-ty.ensures))))

pub field-returns : goal.field-returns
field-returns t c =
    chosen_took (chosen_field c.args.depth c.args.cursor.now)
    (took_by alts.field (and_one c.in_ok-name.ensures (and_one c.in_ok-symbol.ensures (and_deep c.args.depth c.in_ok-ty.ensures (end_all c.args.depth c.type_name.new.cursor)))))

pub fields-returns-in_err-end-clause-of_struct : goal.fields-returns-in_err-end-clause-of_struct
fields-returns-in_err-end-clause-of_struct t c k =
    part_error (parts.Listing parts.Fields) c.args.depth c.args.cursor.now c.closes.new.self _ c.from_residual.result c.from_residual.ensures.1
    (none_error parts.Fields c.args.closer c.args.depth c.args.cursor.now _ k c.in_err-end.ensures)

pub fields-returns-in-Some-clause-of_struct : goal.fields-returns-in-Some-clause-of_struct
fields-returns-in-Some-clause-of_struct t c k =
    rw c.new-all.ensures (none_closed parts.Fields c.args.closer c.args.depth c.args.cursor.now c.closes.new.self c.in_ok-end.field-0 c.in-Some.end k c.in-Some.is c.in_ok-end.ensures)

pub fields-returns-in_err-field-clause-of_struct : goal.fields-returns-in_err-field-clause-of_struct
fields-returns-in_err-field-clause-of_struct t c k =
    part_error (parts.Listing parts.Fields) c.args.depth c.args.cursor.now c.field.new.cursor _ c.from_residual-in_err-field.result c.from_residual-in_err-field.ensures.1
    (item_error parts.Fields c.args.closer c.args.depth c.args.cursor.now c.items.cursor c.items.all _ k (c.items.invariant.of_struct k) c.items.invariant.open_yet c.in_err-field.ensures)

pub fields-returns-in_err-end-2-clause-of_struct : goal.fields-returns-in_err-end-2-clause-of_struct
fields-returns-in_err-end-2-clause-of_struct t c k =
    part_error (parts.Listing parts.Fields) c.args.depth c.args.cursor.now c.behind_item.new.self _ c.from_residual-in_err-end-2.result c.from_residual-in_err-end-2.ensures.1
    (behind_error parts.Fields c.args.closer c.args.depth c.args.cursor.now c.items.cursor c.field.new.cursor c.behind_item.new.self c.items.all c.in_ok-field.field-0 _ k
    (c.items.invariant.of_struct k) c.items.invariant.open_yet c.in_ok-field.ensures c.in_err-end-2.ensures)

pub fields-returns-in-Some-2-clause-of_struct : goal.fields-returns-in-Some-2-clause-of_struct
fields-returns-in-Some-2-clause-of_struct t c k =
    last_item parts.Fields c.args.closer c.args.depth c.args.cursor.now c.items.cursor c.field.new.cursor c.behind_item.new.self c.items.all c.push.new.self c.in_ok-field.field-0
    c.in_ok-end-2.field-0 c.in-Some-2.end k (c.items.invariant.of_struct k) c.items.invariant.open_yet c.in_ok-field.ensures c.in_ok-push.ensures.ok c.in-Some-2.is c.in_ok-end-2.ensures

pub fields-returns-in_err-end-clause-of_function : goal.fields-returns-in_err-end-clause-of_function
fields-returns-in_err-end-clause-of_function t c k =
    part_error (parts.Listing parts.FunctionParameters) c.args.depth c.args.cursor.now c.closes.new.self _ c.from_residual.result c.from_residual.ensures.1
    (none_error parts.FunctionParameters c.args.closer c.args.depth c.args.cursor.now _ k c.in_err-end.ensures)

pub fields-returns-in-Some-clause-of_function : goal.fields-returns-in-Some-clause-of_function
fields-returns-in-Some-clause-of_function t c k =
    rw c.new-all.ensures (none_closed parts.FunctionParameters c.args.closer c.args.depth c.args.cursor.now c.closes.new.self c.in_ok-end.field-0 c.in-Some.end k c.in-Some.is c.in_ok-end.ensures)

pub fields-returns-in_err-field-clause-of_function : goal.fields-returns-in_err-field-clause-of_function
fields-returns-in_err-field-clause-of_function t c k =
    part_error (parts.Listing parts.FunctionParameters) c.args.depth c.args.cursor.now c.field.new.cursor _ c.from_residual-in_err-field.result c.from_residual-in_err-field.ensures.1
    (item_error parts.FunctionParameters c.args.closer c.args.depth c.args.cursor.now c.items.cursor c.items.all _ k (c.items.invariant.of_function k) c.items.invariant.open_yet c.in_err-field.ensures)

pub fields-returns-in_err-end-2-clause-of_function : goal.fields-returns-in_err-end-2-clause-of_function
fields-returns-in_err-end-2-clause-of_function t c k =
    part_error (parts.Listing parts.FunctionParameters) c.args.depth c.args.cursor.now c.behind_item.new.self _ c.from_residual-in_err-end-2.result c.from_residual-in_err-end-2.ensures.1
    (behind_error parts.FunctionParameters c.args.closer c.args.depth c.args.cursor.now c.items.cursor c.field.new.cursor c.behind_item.new.self c.items.all c.in_ok-field.field-0 _ k
    (c.items.invariant.of_function k) c.items.invariant.open_yet c.in_ok-field.ensures c.in_err-end-2.ensures)

pub fields-returns-in-Some-2-clause-of_function : goal.fields-returns-in-Some-2-clause-of_function
fields-returns-in-Some-2-clause-of_function t c k =
    last_item parts.FunctionParameters c.args.closer c.args.depth c.args.cursor.now c.items.cursor c.field.new.cursor c.behind_item.new.self c.items.all c.push.new.self c.in_ok-field.field-0
    c.in_ok-end-2.field-0 c.in-Some-2.end k (c.items.invariant.of_function k) c.items.invariant.open_yet c.in_ok-field.ensures c.in_ok-push.ensures.ok c.in-Some-2.is c.in_ok-end-2.ensures

pub fields-items-init : goal.fields-items-init
fields-items-init t c =
    rw c.new-all.ensures (record {
      open_yet = still_open c.args.closer c.args.depth c.args.cursor.now c.closes.new.self c.in_ok-end.field-0 c.in_default.not-Some c.in_ok-end.ensures;
      of_struct = λ k. (some_begun parts.Fields c.args.closer c.args.depth c.args.cursor.now c.closes.new.self c.in_ok-end.field-0 k c.in_default.not-Some c.in_ok-end.ensures);
      of_function = λ k. (some_begun parts.FunctionParameters c.args.closer c.args.depth c.args.cursor.now c.closes.new.self c.in_ok-end.field-0 k c.in_default.not-Some c.in_ok-end.ensures);
    })

pub fields-items-smaller : goal.fields-items-smaller
fields-items-smaller t c =
    let behind = another c.args.closer c.args.depth c.field.new.cursor c.behind_item.new.self c.in_ok-end-2.field-0 c.in_default-2.not-Some c.in_ok-end-2.ensures in
    let comma : length c.behind_item.new.self < length c.field.new.cursor = taken_shorter behind.2.1.x in
    let item : length c.field.new.cursor ≤ length c.items.cursor = no_longer c.in_ok-field.ensures.x in
    below comma item

pub fields-items-preserved : goal.fields-items-preserved
fields-items-preserved t c =
    let behind = another c.args.closer c.args.depth c.field.new.cursor c.behind_item.new.self c.in_ok-end-2.field-0 c.in_default-2.not-Some c.in_ok-end-2.ensures in
    record {
      open_yet = behind.1;
      of_struct = λ k. next_item parts.Fields c.args.closer c.args.depth c.args.cursor.now c.items.cursor c.field.new.cursor c.behind_item.new.self c.items.all c.push.new.self
          c.in_ok-field.field-0 k (c.items.invariant.of_struct k) c.items.invariant.open_yet c.in_ok-field.ensures c.in_ok-push.ensures.ok behind;
      of_function = λ k. next_item parts.FunctionParameters c.args.closer c.args.depth c.args.cursor.now c.items.cursor c.field.new.cursor c.behind_item.new.self c.items.all c.push.new.self
          c.in_ok-field.field-0 k (c.items.invariant.of_function k) c.items.invariant.open_yet c.in_ok-field.ensures c.in_ok-push.ensures.ok behind;
    }

pub struct_type-returns : goal.struct_type-returns
struct_type-returns t c =
    rw c.join.ensures (took_by alts.struct_type (and_one c.in_ok-open.ensures (and_same (c.in_ok-fields.ensures.of_struct refl) (end_all c.args.depth c.fields.new.cursor))))

pub struct_type-returns-in_err-fields : goal.struct_type-returns-in_err-fields
struct_type-returns-in_err-fields t c =
    alt_error alts.struct_type c.args.depth c.args.cursor.now c.fields.new.cursor _ c.from_residual-in_err-fields.result c.from_residual-in_err-fields.ensures.1
    (past_one c.in_ok-open.ensures (at_same (c.in_err-fields.ensures.of_struct refl)))

pub type_name-returns-then-sees : goal.type_name-returns-then-sees
type_name-returns-then-sees t c =
    chosen_reads alts.array_type c.args.depth c.args.cursor.now c.array_type.new.cursor c.array_type.result (chosen_array c.args.depth c.args.cursor.now (c.sees.ensures.0 c.if-sees.true)) c.array_type.ensures

pub type_name-returns-then-sees-2 : goal.type_name-returns-then-sees-2
type_name-returns-then-sees-2 t c =
    chosen_reads alts.struct_type c.args.depth c.args.cursor.now c.struct_type.new.cursor c.struct_type.result (chosen_struct c.args.depth c.args.cursor.now (c.sees-2.ensures.0 c.if-sees-2.true)) c.struct_type.ensures

pub type_name-returns : goal.type_name-returns
type_name-returns t c =
    chosen_reads alts.named_type c.args.depth c.args.cursor.now c.named_type.new.cursor c.named_type.result
    (chosen_named c.args.depth c.args.cursor.now (unlike c.sees.result c.if-sees.false c.sees.ensures.1) (unlike c.sees-2.result c.if-sees-2.false c.sees-2.ensures.1)) c.named_type.ensures
