use Rattle.std.specs.Prelude.{Some, None}
use Rattle.std.proofs.Common.{sym, ◌∙◌, ap}
use Rattle.source_scopes.specs.Entries.{entry_named}
use Rattle.source_scopes.proofs.Lookups.{entry_at}
use Rattle.source_scopes.proofs.entries.Entries.find.Goals as goal

pub returns-in-Some : goal.returns-in-Some
returns-in-Some c = c.get.ensures.value ∙ entry_at c.args.name.now c.self.inside.index c.self.inside.entries (Some c.in-Some.place) c.self.invariant (sym c.first.ensures ∙ c.in-Some.is)
    ∙ ap (entry_named c.args.name.now) c.self.view_is

pub returns-in-None : goal.returns-in-None
returns-in-None c = entry_at c.args.name.now c.self.inside.index c.self.inside.entries None c.self.invariant (sym c.first.ensures ∙ c.in-None.is)
    ∙ ap (entry_named c.args.name.now) c.self.view_is
