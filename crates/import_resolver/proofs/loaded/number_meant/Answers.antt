use Rattle.std.proofs.Common.{Some, sym, ap, ◌∙◌}
use Rattle.std.specs.Prelude.{string_bytes}
use Rattle.std.specs.Option.{option_map}
use Rattle.import_resolver.proofs.Numbering.{meant_there, meant_number, meant_none}
use Rattle.import_resolver.proofs.loaded.number_meant.Goals as goal

pub number_named-requires-clause-there : goal.number_named-requires-clause-there
number_named-requires-clause-there c =
    meant_there c.args.main.now c.args.names.now c.args.importer.now c.args.path.now c.as_str.result.now (ap Some c.as_str.ensures.value ∙ (sym (ap (option_map string_bytes) c.in-Some.is) ∙ c.in_ok-name.ensures)) c.requires.meant

pub unreachable-requires : goal.unreachable-requires
unreachable-requires c =
    meant_none c.args.main.now c.args.names.now c.args.importer.now c.args.path.now (sym (ap (option_map string_bytes) c.in-None.is) ∙ c.in_ok-name.ensures) c.requires.meant

pub returns : goal.returns
returns c =
    meant_number c.args.main.now c.args.names.now c.args.importer.now c.args.path.now c.as_str.result.now c.number_named.result (ap Some c.as_str.ensures.value ∙ (sym (ap (option_map string_bytes) c.in-Some.is) ∙ c.in_ok-name.ensures)) c.number_named.ensures
