use Rattle.std.proofs.Common.{ℕ, List, rules}
use Rattle.std.specs.Str.{bytes_eq}
use Rattle.std.proofs.lemmas.Iterator.{YieldsList-from_slice}
use Rattle.std.proofs.lemmas.Iterator.Search.{any_from_yields_List}
use borrow.Author.Tests.{tests}
use Rattle.import_resolver.proofs.tables.Table.is_loading.Goals as goal

pub returns : goal.returns
returns c = any_from_yields_List (λ (other : List ℕ). bytes_eq other c.args.name.now) _ _ c.any.result c.any.ensures.ran (YieldsList-from_slice c.args.self.now.loading cc) (λ x b q k. search (rules, tests))
