use Rattle.std.proofs.Common.{◌≡◌, ℕ, false, ◌||◌, List, sym}
use Rattle.std.specs.Str.{bytes_eq}
use Rattle.std.specs.Cmp.Lexicographic.{bytes_decides}
use Rattle.std.proofs.lemmas.Bool.{false_from_ne_true}
use Rattle.first_evaluator.proofs.resolving.is_reserved.Goals as goal

-- a name that is another word
other : (word name : List ℕ) → (name ≡ word → ⊥) → bytes_eq word name ≡ false
other word name ne = false_from_ne_true (bytes_eq word name) (λ same. ne (sym ((bytes_decides word name).0 same)))

pub returns-in_default : goal.returns-in_default
returns-in_default c =
    let n = c.args.name.now in
    let d = c.in_default in
    sym (λ i. other _ n d.not-true i || (other _ n d.not-false i || (other _ n d.not-root i || (other _ n d.not-self i || (other _ n d.not-parent i || false)))))
