use Rattle.std.proofs.Common.{◌≡◌, ◌∷◌, [], ◌∙◌, sym, ap, lit<, None, Some}
use Rattle.std.proofs.lemmas.Result.{IfOk-weaker}
use Rattle.std.proofs.lemmas.Str.Pattern.{split_once_first, split_parts}
use Rattle.script_lines.specs.Paths.{path_from}
use Rattle.script_lines.proofs.Following.{path_of-more, path_of-none, points-none}
use Rattle.script_lines.proofs.paths.read_path.Goals as goal

pub returns-in-Some-2 : goal.returns-in-Some-2
returns-in-Some-2 c =
    let cut = split_once_first 46 c.args.text.now (Some (c.in-Some.first, c.in-Some.others)) c.in-Some.ensures.cases (lit< tt) in
    let start : path_from (c.in-Some.first.now ∷ []) ≡ Some c.in-Some-2.path = sym c.in_ok-path-in-Some.ensures ∙ c.in-Some-2.is in
    IfOk-weaker c.continue_path.result _ _ (λ p e. e ∙ path_of-more c.args.text.now c.in-Some.first.now c.in-Some.others.now c.in-Some-2.path cut start) c.continue_path.ensures

pub returns-in-None-2 : goal.returns-in-None-2
returns-in-None-2 c =
    let cut = split_once_first 46 c.args.text.now (Some (c.in-Some.first, c.in-Some.others)) c.in-Some.ensures.cases (lit< tt) in
    path_of-none c.args.text.now c.in-Some.first.now c.in-Some.others.now cut (sym c.in_ok-path-in-Some.ensures ∙ c.in-None-2.is)

pub returns-in-None : goal.returns-in-None
returns-in-None c =
    let alone = points-none c.args.text.now (split_parts 46 c.args.text.now None c.in-None.ensures.cases (lit< tt)) in
    IfOk-weaker c.start_path-in-None.result _ _ (λ p e. e ∙ ap path_from (sym alone)) c.start_path-in-None.ensures
