use Rattle.std.proofs.Common.{◌≡◌, ◌-◌, Some, filter, slice_get}
use Rattle.std.specs.List.{list_all}
use Rattle.typed_tree.specs.Elements.{is_among, outwards, outwards_within, repeated_in}
use Rattle.typed_tree.proofs.elements.sees.Given as goal

abbrev pub invariant-loop : goal.invariant-loop
invariant-loop l = list_all (λ d. is_among (outwards l.elements l.from) d) (filter (λ d. repeated_in (slice_get l.elements d)) (outwards_within l.end l.elements (Some l.fn.element)))
    ≡ list_all (λ d. is_among (outwards l.elements l.from) d) (filter (λ d. repeated_in (slice_get l.elements d)) (outwards_within (l.end - l.counter) l.elements l.around))
