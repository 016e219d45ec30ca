-- The names of files, collected in a loop.
use Rattle.std.proofs.Common.{◌≡◌, ℕ, zero, suc, List, [], ◌∷◌, ◌++◌, ◌+◌, ◌<◌, length, drop, refl, sym, ◌∙◌, ap, append_assoc, add-one, arith}
use Rattle.import_resolver.specs.Loaded.{FileRow}
use Rattle.source_scopes.specs.Names.{file_names}
use Rattle.source_outline.specs.Outlines.{file_outline, files_from}
use Rattle.typed_tree.specs.declared.outlines.FileName.{FileName}
use Rattle.typed_tree.specs.declared.outlines.FileOutline.{FileOutline}

step : (all rows : List FileRow) (n k : ℕ) → k < length rows → files_from all n (drop k rows) ≡ file_outline all n ∷ files_from all (suc n) (drop (suc k) rows)
step all [] n k h = absurd (omega arith)
step all (row ∷ rows) n zero h = refl
step all (row ∷ rows) n (suc k) h = step all rows n k (omega arith)

pub files_turn : (rows : List FileRow) (k count : ℕ) (made next : List FileOutline) (names : List FileName) (whole : List FileOutline)
    → k < count → count ≡ length rows → names ≡ file_names rows k → next ≡ made ++ record { names = names } ∷ []
    → made ++ files_from rows k (drop k rows) ≡ whole → next ++ files_from rows (k + 1) (drop (k + 1) rows) ≡ whole
files_turn rows k count made next names whole h counted named added is =
    ap (λ ys. ys ++ files_from rows (k + 1) (drop (k + 1) rows)) (added ∙ ap (λ (x : List FileName). let o : FileOutline = record { names = x } in made ++ o ∷ []) named)
    ∙ ap (λ n. (made ++ file_outline rows k ∷ []) ++ files_from rows n (drop n rows)) (add-one k)
    ∙ append_assoc made (file_outline rows k ∷ []) (files_from rows (suc k) (drop (suc k) rows))
    ∙ ap (λ ys. made ++ ys) (sym (step rows rows k k (let l : k < length rows = omega arith in l)))
    ∙ is
