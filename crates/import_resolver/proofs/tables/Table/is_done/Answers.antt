use Rattle.std.proofs.Common.{rules, sym, ◌∙◌}
use Rattle.std.specs.Str.{bytes_eq}
use Rattle.std.proofs.lemmas.Iterator.{YieldsList-from_slice}
use Rattle.std.proofs.lemmas.Iterator.Search.{any_from_yields_List}
use borrow.Author.Tests.{tests}
use Rattle.import_resolver.specs.declared.tables.DoneFile.{DoneFile}
use Rattle.import_resolver.specs.Loads.{Done}
use Rattle.import_resolver.specs.Tables.{done_of_file}
use Rattle.import_resolver.proofs.Lists.{list_any_map}
use Rattle.import_resolver.proofs.tables.Table.is_done.Goals as goal

pub returns : goal.returns
returns c =
    any_from_yields_List (λ (file : DoneFile). bytes_eq file.name c.args.name.now) _ _ c.any.result c.any.ensures.ran (YieldsList-from_slice c.args.self.now.done cc) (λ x b q k. search (rules, tests))
    ∙ sym (list_any_map (λ (file : Done). bytes_eq file.name c.args.name.now) done_of_file c.args.self.now.done)
