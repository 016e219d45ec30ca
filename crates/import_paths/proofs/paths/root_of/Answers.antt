use Rattle.std.proofs.Common.{◌≡◌, ◌+◌, ◌-◌, ◌∙◌, Some, None, take, ap, arith, lit<}
use Rattle.std.proofs.lemmas.Str.Pattern.{rfind_char}
use Rattle.import_paths.proofs.Folders.{folder_of-slash, folder_of-none}
use Rattle.import_paths.proofs.paths.root_of.Goals as goal

pub returns-in-Some : goal.returns-in-Some
returns-in-Some c =
    let last = rfind_char 47 c.args.main.now (Some c.in-Some.slash) c.in-Some.ensures.cases (lit< tt) in
    let end : c.in-Some.slash + 1 - 0 ≡ c.in-Some.slash + 1 = omega arith in
    c.range.ensures.value ∙ (ap (λ n. take n c.args.main.now) end ∙ folder_of-slash c.args.main.now c.in-Some.slash last.0 last.1 last.2)

pub returns-in-None : goal.returns-in-None
returns-in-None c = folder_of-none c.args.main.now (rfind_char 47 c.args.main.now None c.in-None.ensures.cases (lit< tt))
