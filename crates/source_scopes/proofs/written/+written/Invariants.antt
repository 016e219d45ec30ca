use Rattle.std.proofs.Common.{◌≡◌, ◌++◌, drop}
use Rattle.std.specs.Option.{option_copied, option_map}
use Rattle.slint_base.specs.Options.{all_of}
use Rattle.source_scopes.specs.Structs.{type_known}
use Rattle.source_scopes.specs.Tables.{entries_in}
use Rattle.source_scopes.specs.Types.{field_by}
use Rattle.source_scopes.proofs.written.+written.Given as goal

-- the fields so far, and those that are left
abbrev pub invariant-written_fields-loop-field : goal.invariant-written_fields-loop-field
invariant-written_fields-loop-field l = all_of (field_by (type_known l.types (entries_in (option_copied l.scope)))) l.fields
    ≡ option_map (λ rest. l.made.items ++ rest) (all_of (field_by (type_known l.types (entries_in (option_copied l.scope)))) (drop l.field-index l.fields))
