use Rattle.std.proofs.Common.{sym}
use Rattle.std.proofs.lemmas.List.{length-take-le}
use Rattle.slint_literals.proofs.Looks.{plain_fits, plain_utf8, escape_takes}
use Rattle.slint_literals.proofs.strings.take_char.Goals as goal

pub slice_bounds-text_of-end : goal.slice_bounds-text_of-end
slice_bounds-text_of-end c = sym (length-take-le c.in-Plain.length c.args.bytes.now (plain_fits c.args.bytes.now c.in-Plain.length (sym c.in-Plain.ensures.value)).1)

pub text_of-requires : goal.text_of-requires
text_of-requires c = plain_utf8 c.args.bytes.now c.in-Plain.length (sym c.in-Plain.ensures.value)

pub returns-in_ok-push_str-in-Plain-clause-within : goal.returns-in_ok-push_str-in-Plain-clause-within
returns-in_ok-push_str-in-Plain-clause-within c = (plain_fits c.args.bytes.now c.in-Plain.length (sym c.in-Plain.ensures.value)).1

pub returns-in_ok-push-in-Escape-clause-takes : goal.returns-in_ok-push-in-Escape-clause-takes
returns-in_ok-push-in-Escape-clause-takes c = escape_takes _ c.args.bytes.now _ c.in-Escape.ch c.in-Escape.length (sym c.in-Escape.ensures.value) c.in_ok-push-in-Escape.ensures.bytes
