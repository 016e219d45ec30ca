-- A line that is neither too long nor passed over.
use Rattle.std.proofs.Common.{◌≡◌, ℕ, ◌≤◌, Bool, true, false, List, length, Option, Result, Err, refl, ap, ◌∙◌, rules, tests, nat_lt, cond}
use Rattle.std.specs.Str.{IsUtf8, is_utf8}
use Rattle.std.proofs.lemmas.Str.{IsUtf8-from_is_utf8, is_utf8-from_IsUtf8}
use Rattle.script_lines.specs.declared.commands.Command.{Command}
use Rattle.script_lines.specs.declared.commands.BadLine.{BadLine}
use Rattle.script_lines.specs.declared.commands.BadLine.TheVariants.{Unread}
use Rattle.script_lines.specs.Lines.{read_text, read_words, trimmed, is_passed_over, most_line}

not_long : (n : ℕ) → n ≤ 4096 → nat_lt 4096 n ≡ false
not_long n h = search (rules, tests)

not_utf8 : (bs : List ℕ) → ¬ (IsUtf8 bs) → is_utf8 bs ≡ false
not_utf8 bs h = by_test (is_utf8 bs) refl
  where
    by_test : (t : Bool) → is_utf8 bs ≡ t → is_utf8 bs ≡ false
    by_test true e = absurd (h (IsUtf8-from_is_utf8 bs e))
    by_test false e = e

-- the last test of three
read_by_tests : (long passed utf8 : Bool) (first second third last : Result (Option Command) BadLine) → long ≡ false → passed ≡ false
    → cond long first (cond passed second (cond utf8 third last)) ≡ cond utf8 third last
read_by_tests long passed utf8 first second third last e f = rw (e, f) refl

pub read_text-words : (line : List ℕ) → length line ≤ 4096 → is_passed_over line ≡ false → IsUtf8 line → read_text line ≡ read_words (trimmed line)
read_text-words line short kept utf8 =
    read_by_tests (nat_lt most_line (length line)) (is_passed_over line) (is_utf8 line) _ _ _ _ (not_long (length line) short) kept
    ∙ ap (λ v. cond v (read_words (trimmed line)) (Err Unread)) (is_utf8-from_IsUtf8 line utf8)

pub read_text-unread : (line : List ℕ) → length line ≤ 4096 → is_passed_over line ≡ false → ¬ (IsUtf8 line) → read_text line ≡ Err Unread
read_text-unread line short kept utf8 =
    read_by_tests (nat_lt most_line (length line)) (is_passed_over line) (is_utf8 line) _ _ _ _ (not_long (length line) short) kept
    ∙ ap (λ v. cond v (read_words (trimmed line)) (Err Unread)) (not_utf8 line utf8)
