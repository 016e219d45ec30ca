use Rattle.slint_base.specs.Names.{normal_name}
use Rattle.std.proofs.Common.{◌∙◌, ap, refl}
use Rattle.source_scopes.proofs.EnumNormal.{normal_enum, values_spelled}
use Rattle.source_scopes.proofs.declarations.built_in_names.Goals as goal

pub returns : goal.returns
returns c = rw (c.in_ok-values.ensures ∙ values_spelled c.args.of _ c.values.ensures, c.in_ok-name.ensures ∙ ap normal_name c.built_in_name.ensures ∙ normal_enum c.args.of) refl
