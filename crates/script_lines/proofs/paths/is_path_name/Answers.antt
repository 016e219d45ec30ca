use Rattle.std.proofs.Common.{◌≡◌, ◌++◌, ◌∙◌, sym, rules, tests}
use Rattle.std.specs.List.{list_all}
use Rattle.std.specs.Prelude.{encode_utf8}
use Rattle.std.specs.Str.{chars}
use Rattle.std.proofs.lemmas.Str.{IsUtf8-past_char}
use Rattle.std.proofs.lemmas.Iterator.{YieldsList-from_chars}
use Rattle.std.proofs.lemmas.Iterator.Search.{all_from_yields_List}
use Rattle.script_lines.proofs.Naming.{goes_on, begins, is_path_name-text}
use Rattle.script_lines.proofs.paths.is_path_name.Goals as goal

pub returns-then-first-eq95 : goal.returns-then-first-eq95
returns-then-first-eq95 c =
    let text = c.args.text.now in
    let rest = c.next.new.self.rest.now in
    let first = c.in-Some.first in
    let front : text ≡ encode_utf8 first ++ rest = sym c.chars-chars.ensures.rest ∙ c.in-Some.ensures.steps.0 in
    let utf8 = IsUtf8-past_char text rest first c.utf8.text front in
    let e : c.all.result ≡ list_all goes_on (chars rest) = all_from_yields_List goes_on _ _ c.all.result c.all.ensures.ran (YieldsList-from_chars rest utf8 cc) (λ x b q k. search (rules, tests)) in
    is_path_name-text text rest first c.all.result c.utf8.text front (begins first c.is_xid_start.result c.is_xid_start.ensures.value c.if-first-eq95.either) e
