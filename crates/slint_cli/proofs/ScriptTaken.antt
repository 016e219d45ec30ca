-- What was taken of a script, and the outcome of the whole of it.
use Rattle.std.proofs.Common.{◌≡◌, ℕ, ◌<◌, ◌≤◌, false, List, [], ◌++◌, length, take, refl, ap, sym, ◌∙◌, arith, inl, inr, append-nil, length-append, Option, None, Some}
use Rattle.std.specs.Prelude.{nat_le}
use Rattle.std.specs.Io.KnownBytes.{Consumes, IsAtEnd}
use Rattle.std.proofs.lemmas.Bool.Decides.{leb_tells}
use Rattle.std.proofs.lemmas.List.{take-append-le}
use Rattle.first_evaluator.specs.declared.trees.FirstFile.{FirstFile}
use Rattle.script_lines.specs.Lines.{whole_lines}
use Rattle.slint_meaning.specs.Runs.{Outcome, run_script, run_lines, most_script, cut_off}
use Rattle.first_evaluator.specs.Values.{opening_world}
use Rattle.slint_cli.specs.Running.{RanScript}

-- of a script that is too long the front counts
run_script-long : (file : FirstFile) (script : List ℕ) → nat_le (length script) most_script ≡ false
    → run_script file script ≡ run_lines file opening_world (whole_lines (take most_script script)) cut_off
run_script-long file script long = rw long refl

-- past the limit
nat_le-past : (n : ℕ) → most_script < n → nat_le n most_script ≡ false
nat_le-past n past = elim (leb_tells n most_script) [ inl t ↦ absurd (omega (arith, t.1)) | inr f ↦ f.0 ]

-- what follows the limit changes nothing
run_script-front : (file : FirstFile) (bytes rest : List ℕ) → most_script < length bytes → run_script file (bytes ++ rest) ≡ run_script file bytes
run_script-front file bytes rest past =
    run_script-long file (bytes ++ rest) (nat_le-past (length (bytes ++ rest)) (omega (arith, length-append bytes rest)))
    ∙ ap (λ front. run_lines file opening_world (whole_lines front) cut_off) (take-append-le most_script bytes rest (omega arith))
    ∙ sym (run_script-long file bytes (nat_le-past (length bytes) past))

-- what was read up to the end or past the limit has the outcome of the whole
run_script-read : (file : FirstFile) (bytes rest : List ℕ) → (length bytes ≤ most_script → rest ≡ []) → run_script file (bytes ++ rest) ≡ run_script file bytes
run_script-read file bytes rest ended = elim (leb_tells (length bytes) most_script) [
  | inl t ↦ ap (run_script file) (ap (λ r. bytes ++ r) (ended t.1) ∙ append-nil bytes)
  | inr f ↦ run_script-front file bytes rest f.1
]

-- the outcome of what was taken is that of the script
pub ran_taken : (file : FirstFile) (left now : Option (List ℕ)) (bytes : List ℕ) (outcome : Outcome) → Consumes left now bytes
    → (length bytes ≤ most_script → IsAtEnd now) → outcome ≡ run_script file bytes → RanScript file left outcome
ran_taken file None now bytes outcome taken ended ran = (bytes, tt, ran)
ran_taken file (Some script) None bytes outcome taken ended ran = absurd taken
ran_taken file (Some script) (Some rest) bytes outcome taken ended ran =
    (script, refl, ran ∙ sym (run_script-read file bytes rest ended) ∙ ap (run_script file) (sym taken))
