use Rattle.std.specs.List.{flat_map}
use Rattle.declaration_rules.specs.Declarations.{unknown_element, unknown_type}
use Rattle.declaration_rules.specs.Repeats.{repeated_in_item}
use Rattle.declaration_rules.specs.Words.{element_words, type_words}
use Rattle.declaration_rules.proofs.Telling.{joined-three}
use Rattle.declaration_rules.proofs.files.inner_fault.Goals as goal

pub returns : goal.returns
returns c =
    joined-three (flat_map repeated_in_item c.args.items.now) (flat_map (unknown_type c.args.scopes.now c.args.file) (type_words c.args.items.now)) (flat_map (unknown_element c.args.scopes.now c.args.file) (element_words c.args.items.now))
    c.in_ok-repeated.repeated c.in_ok-ty.ty c.in_ok-element.element c.earlier.result c.earlier-2.result c.in_ok-repeated.ensures c.in_ok-ty.ensures c.in_ok-element.ensures c.earlier.ensures c.earlier-2.ensures
