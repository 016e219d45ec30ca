use Rattle.std.proofs.Common.{◌≡◌, true, List, [], ◌∷◌, length, get_or, arith, rules, refl, is_none, codes}
use Rattle.std.specs.Str.{bytes_eq}
use Rattle.first_evaluator.specs.declared.trees.FirstFile.{FirstFile}
use Rattle.script_lines.specs.declared.commands.PathStep.{PathStep}
use Rattle.slint_meaning.specs.Commands.{target_of, property}
use Rattle.first_evaluator.specs.Bindings.{has_name, names_of}
use Rattle.slint_cli.proofs.NameLookups.{has_name-at}
use Rattle.slint_cli.proofs.answers.target_of.Goals as goal

-- the path of two parts, the first of which is `root`
target_of-property : (file : FirstFile) (path : List PathStep) (first second : PathStep) → length path ≡ 2 → first ≡ get_or path 0 first → second ≡ get_or path 1 second
    → bytes_eq first.name (codes "root") ≡ true → is_none second.row ≡ true → has_name (names_of file.props) second.name ≡ true
    → target_of file path ≡ property second.name
target_of-property file [] first second l a b r n h = absurd (omega arith)
target_of-property file (x ∷ []) first second l a b r n h = absurd (omega arith)
target_of-property file (x ∷ y ∷ []) first second l a b r n h = rw (← a, ← b) (rw (r, n, h) refl)
target_of-property file (x ∷ y ∷ z ∷ zs) first second l a b r n h = absurd (omega (arith))

pub returns-in-Some : goal.returns-in-Some
returns-in-Some c =
    let known = has_name-at (names_of c.args.evaluator.now.file.props) c.in-Some.place _ c.in-Some.ensures.found in
    (c.second-item.result.name, target_of-property _ c.args.path.now c.first-item-then-this-lt3.result c.second-item.result (grind arith) (cc) (cc) (search rules) (search rules) known, c.in-Some.ensures.found)
