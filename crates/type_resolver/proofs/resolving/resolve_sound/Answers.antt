use Rattle.std.specs.Option.{option_copied}
use Rattle.type_resolver.proofs.Passing.{broken_by, no_root, resolved_by}
use Rattle.type_resolver.proofs.resolving.resolve_sound.Goals as goal

pub unreachable-requires : goal.unreachable-requires
unreachable-requires c = no_root c.args.scopes.now (option_copied c.args.component) c.in_ok-root.field-0 c.in_ok-root.ensures c.in_default.is c.requires.declared

pub returns-in-Err : goal.returns-in-Err
returns-in-Err c =
    broken_by c.args.scopes.now (option_copied c.args.component) c.in_ok-names.names c.args.outline c.in_ok-typed.field-0 c.in-Err.fault c.requires.declared c.requires.sound c.in_ok-names.ensures c.requires.outline c.in_ok-typed.ensures c.in-Err.is

pub returns : goal.returns
returns c =
    resolved_by c.args.scopes.now (option_copied c.args.component) c.in_ok-names.names c.args.outline c.into_outline.result c.in_ok-typed.field-0 c.in-Ok.typed c.in_ok-root.field-0 c.in-Some.root c.in_ok-tree.tree c.requires.declared c.requires.sound c.in_ok-names.ensures c.requires.outline c.in_ok-typed.ensures c.in-Ok.is
    c.in_ok-root.ensures c.in-Some.is c.into_outline.ensures c.in_ok-tree.ensures
