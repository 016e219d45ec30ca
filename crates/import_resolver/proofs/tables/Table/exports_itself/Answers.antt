use Rattle.std.proofs.Common.{◌≡◌, ◌∙◌, sym, rules}
use Rattle.std.specs.HashSet.{contains_text}
use Rattle.import_resolver.proofs.Lists.{exports-some, exports-none}
use Rattle.import_resolver.proofs.tables.Table.exports_itself.Goals as goal

pub returns-in-Some : goal.returns-in-Some
returns-in-Some c =
    let own : c.contains.result ≡ contains_text c.in-Some.file.now.own c.args.name.now = search rules in
    own ∙ exports-some c.args.self.now.files c.args.number c.in-Some.file.now c.args.name.now c.requires.owned (sym c.in-Some.ensures.value)

pub returns-in-None : goal.returns-in-None
returns-in-None c = exports-none c.args.self.now.files c.args.number c.args.name.now (sym c.in-None.ensures.value)
