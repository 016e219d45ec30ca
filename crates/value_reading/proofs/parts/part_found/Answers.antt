use Rattle.std.proofs.Common.{rules}
use Rattle.value_reading.proofs.PartLemmas.{color_found_there, string_found_there}
use Rattle.value_reading.proofs.parts.part_found.Goals as goal

pub returns-in-Hash : goal.returns-in-Hash
returns-in-Hash c = color_found_there c.args.bytes.now c.in-Some.behind.now c.in-Some.first.now c.color_found.result (search rules) (search rules) c.color_found.ensures

pub returns-in_ok-found-in-Quote : goal.returns-in_ok-found-in-Quote
returns-in_ok-found-in-Quote c = string_found_there c.args.bytes.now c.in-Some.behind.now c.in-Some.first.now c.in_ok-found-in-Quote.found (search rules) (search rules) c.in_ok-found-in-Quote.ensures
