use Rattle.std.proofs.Common.{rules, ◌∙◌}
use Rattle.std.proofs.lemmas.Cmp.{nat_list_cmp_total}
use Rattle.std.proofs.lemmas.Fn.{always_returns_same}
use Rattle.source_scopes.proofs.StableSorts.{stable_sort, weak}
use Rattle.source_scopes.proofs.written.in_byte_order.Goals as goal

pub returns : goal.returns
returns c =
    c.from_vec.ensures
    ∙ stable_sort nat_list_cmp_total c.args.fields.items c.sort_by.new.self.items
    (c.in_ok-sort_by.ensures.sorted _ (weak nat_list_cmp_total) (always_returns_same _ _ _ (λ a r q called. (search rules, search rules))))
    (c.in_ok-sort_by.ensures.stable _ (weak nat_list_cmp_total) (always_returns_same _ _ _ (λ a r q called. (search rules, search rules))))
