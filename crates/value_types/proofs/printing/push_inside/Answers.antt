use Rattle.std.proofs.Common.{subst, sym, ap, ◌∙◌, ◌++◌}
use Rattle.std.specs.Str.{IsUtf8}
use Rattle.slint_literals.specs.Printed.{printed_text}
use Rattle.value_types.proofs.PrintedUtf8.{printed_utf8}
use Rattle.value_types.proofs.printing.push_inside.Goals as goal

pub unreachable-requires : goal.unreachable-requires
unreachable-requires c = c.in-Err.ensures.cases.0 (subst IsUtf8 (sym (c.as_slice.ensures.value ∙ (c.in_ok-print_text.ensures ∙ ap (λ bs. bs ++ printed_text c.args.inside.now) c.new-bytes.ensures.items))) (printed_utf8 c.args.inside.now c.utf8.inside))
