use Rattle.std.proofs.Common.{◌∙◌}
use Rattle.element_tables.specs.Keys.{keys}
use Rattle.element_tables.proofs.Named.{named-sorted}
use Rattle.element_tables.proofs.keys.key_named.Goals as goal

-- the table in code is the definition's in byte order
pub returns : goal.returns
returns c = c.find.ensures ∙ named-sorted c.args.name.now keys
