use Rattle.std.proofs.Common.{sym, subst, rules}
use Rattle.std.specs.Str.{IsUtf8}
use Rattle.std.proofs.lemmas.Str.{IsUtf8-nil}
use Rattle.syntax_tree.proofs.print_files.print_tree.Goals as goal

pub as_text-requires : goal.as_text-requires
as_text-requires c = c.in_ok-print_file_items.ensures.text (subst IsUtf8 (sym c.new-out.ensures.items) IsUtf8-nil)
