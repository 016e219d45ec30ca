use Rattle.std.specs.Prelude.{length}
use Rattle.std.proofs.Common.{rules, ap, subst, arith}
use Rattle.import_resolver.specs.Loaded.{rows_of}
use Rattle.source_scopes.specs.Structs.{AllStay}
use Rattle.source_scopes.proofs.Typing.{all_typed}
use Rattle.source_scopes.proofs.Whole.{structs_sized}
use Rattle.source_scopes.proofs.structs.struct_types.Goals as goal

pub returns : goal.returns
returns c = all_typed (rows_of c.args.loaded.now) c.in_ok-types.types (length c.as_slice-3.result.now) c.in_ok-types.ensures
    (subst (λ ts. AllStay (rows_of c.args.loaded.now) ts) c.as_slice-5.ensures (c.in_ok-all_stay.ensures (search rules)))
    (omega (arith, ap length c.as_slice-3.ensures, c.len.ensures, c.len-2.ensures, c.if-len.false, structs_sized (rows_of c.args.loaded.now) c.in_ok-structs.structs c.in_ok-structs.ensures))
