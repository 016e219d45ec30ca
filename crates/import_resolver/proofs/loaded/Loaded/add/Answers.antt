use Rattle.std.proofs.Common.{refl, ◌∙◌}
use Rattle.import_resolver.proofs.Rows.{rows-added}
use Rattle.import_resolver.proofs.loaded.Loaded.add.Goals as goal

pub returns : goal.returns
returns c =
    rows-added c.args.self.now.files.entries c.insert.new.self.entries c.in_ok-name.name (record { tree = c.args.file.tree; line_starts = c.args.file.starts; imports = c.args.imports }) c.args.file c.args.imports.items c.requires
    (c.in_ok-name.ensures.ok ∙ c.as_str.ensures) c.in_ok-insert.ensures.entries refl refl refl
