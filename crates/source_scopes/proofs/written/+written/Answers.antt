use Rattle.std.specs.Option.{option_copied}
use Rattle.std.proofs.Common.{◌++◌, ◌∷◌, [], sym, ◌∙◌, ap}
use Rattle.source_scopes.specs.Structs.{type_known}
use Rattle.source_scopes.specs.Tables.{entries_in}
use Rattle.source_scopes.specs.Types.{fields_by, type_by}
use Rattle.source_scopes.proofs.Lookups.{left_at}
use Rattle.source_scopes.proofs.WrittenForms.{fields_step, written_struct}
use Rattle.source_scopes.proofs.written.+written.Goals as goal

pub written-returns-in_ok-made-in-Struct : goal.written-returns-in_ok-made-in-Struct
written-returns-in_ok-made-in-Struct t c =
    let known = type_known c.args.types.now (entries_in (option_copied c.args.scope)) in
    c.in_ok-made-in-Struct.ensures ∙ ap (fields_by known) c.as_slice.ensures ∙ written_struct known _ _ ∙ ap (type_by known) (sym c.in-Struct.is)

pub written_fields-loop-field-preserved : goal.written_fields-loop-field-preserved
written_fields-loop-field-preserved t c = fields_step (type_known c.args.types.now (entries_in (option_copied c.args.scope))) _ c.loop-field.made.items _ _ _ c.field-item.result _
    (left_at _ c.loop-field.field-index c.field-item.result c.loop-field-test.true c.field-item.is)
    (sym c.in-Some.is ∙ c.in_ok-ty.ensures) (c.in_ok-push-in-Some.ensures.items ∙ ap (λ name. c.loop-field.made.items ++ (name, c.in-Some.ty) ∷ []) c.in_ok-copy-in-Some.ensures) c.loop-field.invariant
