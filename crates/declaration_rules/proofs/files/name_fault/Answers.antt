use Rattle.source_scopes.specs.Entries.{exports_of}
use Rattle.declaration_rules.specs.Declarations.{unlisted_in}
use Rattle.declaration_rules.specs.Exports.{clashes, groups_among}
use Rattle.declaration_rules.specs.Repeats.{repeated}
use Rattle.declaration_rules.specs.Words.{scope_words}
use Rattle.declaration_rules.proofs.Telling.{joined-three}
use Rattle.declaration_rules.proofs.files.name_fault.Goals as goal

pub returns : goal.returns
returns c =
    joined-three (repeated (scope_words c.args.items.now)) (clashes (groups_among (exports_of c.args.scopes.now) c.args.items.now c.args.imports.now)) (unlisted_in c.args.items.now)
    c.in_ok-scope.scope c.in_ok-exported.exported c.in_ok-listed.listed c.earlier.result c.earlier-2.result c.in_ok-scope.ensures c.in_ok-exported.ensures c.in_ok-listed.ensures c.earlier.ensures c.earlier-2.ensures
