use Rattle.std.specs.List.{list_any}
use Rattle.std.specs.Str.{bytes_eq}
use Rattle.std.proofs.Common.{◌∙◌, ap}
use Rattle.source_scopes.specs.Entries.{has_entry}
use Rattle.source_scopes.proofs.Lookups.{entry_among}
use Rattle.source_scopes.proofs.entries.Entries.contains.Goals as goal

pub returns : goal.returns
returns c = c.contains.ensures ∙ ap (list_any (λ x. bytes_eq x c.args.name.now)) c.self.invariant ∙ entry_among c.args.name.now c.self.inside.entries
    ∙ ap (λ es. has_entry es c.args.name.now) c.self.view_is
