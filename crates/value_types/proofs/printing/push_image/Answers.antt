use Rattle.std.proofs.Common.{string_bytes}
use Rattle.value_types.proofs.Joined.{three_more}
use Rattle.value_types.proofs.printing.push_image.Goals as goal

pub returns : goal.returns
returns c = three_more (string_bytes c.args.text.now) _ _ _ _ _ _ c.in_ok-push_str.ensures.bytes c.in_ok-push_string.ensures c.in_ok-push_str-2.ensures.bytes
