-- Bytes are tokens, or they have a fault.
use Rattle.std.proofs.Common.{◌≡◌, ℕ, zero, suc, ◌+◌, ◌<◌, ◌≤◌, Bool, true, false, cond, inl, inr, List, [], ◌∷◌, ◌++◌, length, drop, refl, sym, ◌∙◌, arith}
use Rattle.std.specs.Prelude.{◌⊎◌, nat_eq}
use Rattle.std.specs.List.{starts_with}
use Rattle.std.proofs.lemmas.Bool.{cases_lt}
use Rattle.std.proofs.lemmas.List.{length-drop, drop_all}
use Rattle.slint_base.specs.declared.faults.Fault.{Fault}
use Rattle.slint_lexer.specs.declared.found.Found.{Found}
use Rattle.slint_lexer.specs.declared.found.Found.TheVariants as found
use Rattle.slint_lexer.specs.declared.marks.Mark.{Mark}
use Rattle.slint_lexer.specs.declared.tokens.Token.{Token}
use Rattle.slint_lexer.specs.Lexing.{ends_hole, behind_token, IsLexing, IsFaulted}
use Rattle.slint_lexer.specs.Found.{IsFound, token_from, fault_from}
use Rattle.slint_lexer.proofs.Readings.{ReadUpTo, read_none, read_more, read_all, read_fault}
use Rattle.slint_lexer.proofs.SomeFront.{some_front}

abbrev pub SomeAnswer : ℕ → List ℕ → Type 0
SomeAnswer file bytes = ((ts : List Token) × IsLexing file bytes ts) ⊎ ((fault : Fault) × IsFaulted file bytes fault)

-- a piece is taken, or what is found is the fault
answer_by : (file : ℕ) (bytes : List ℕ) (ts : List Token) (held : List Mark) (at : ℕ) (f : Found) → ReadUpTo file bytes ts held at → IsFound (ends_hole held) (drop at bytes) f
    → ((us : List Token) (now : List Mark) (n : ℕ) → 0 < n → ReadUpTo file bytes us now (at + n) → SomeAnswer file bytes) → SomeAnswer file bytes
answer_by file bytes ts held at (found.Apart n) r seen more =
    more ts held n seen.0 (read_more file bytes (drop at bytes) ts ts held held at n (found.Apart n) refl r seen (refl, refl, refl))
answer_by file bytes ts held at (found.Token k n) r seen more =
    let us = ts ++ token_from file at k n ∷ [] in
    more us (behind_token k held) n seen.0 (read_more file bytes (drop at bytes) ts us held (behind_token k held) at n (found.Token k n) refl r seen (refl, refl, refl))
answer_by file bytes ts held at (found.Bad rule n) r seen more =
    let fault = fault_from file rule at n in
    inr (fault, (read_fault file bytes (drop at bytes) ts held at (found.Bad rule n) fault refl r seen refl).faulted)
answer_by file bytes ts held at (found.Breaks rule from count) r seen more =
    let fault = fault_from file rule (at + from) count in
    inr (fault, (read_fault file bytes (drop at bytes) ts held at (found.Breaks rule from count) fault refl r seen refl).faulted)

-- from a place on that isn't the end
answer_at : (file : ℕ) (bytes : List ℕ) (ts : List Token) (held : List Mark) (at : ℕ) → at < length bytes → ReadUpTo file bytes ts held at
    → ((us : List Token) (now : List Mark) (n : ℕ) → 0 < n → ReadUpTo file bytes us now (at + n) → SomeAnswer file bytes) → SomeAnswer file bytes
answer_at file bytes ts held at h r more =
    let seen = some_front (ends_hole held) (drop at bytes) (omega (arith, length-drop at bytes)) in
    answer_by file bytes ts held at seen.0 r seen.1 more

answer_end : (file : ℕ) (bytes : List ℕ) (ts : List Token) (held : List Mark) (at : ℕ) → length bytes ≤ at → ReadUpTo file bytes ts held at → SomeAnswer file bytes
answer_end file bytes ts held at h r = inl (ts, (read_all file bytes ts held at r h).lexed)

answer_from : (file : ℕ) (bytes : List ℕ) (fuel : ℕ) (ts : List Token) (held : List Mark) (at : ℕ) → length bytes ≤ at + fuel → ReadUpTo file bytes ts held at → SomeAnswer file bytes
answer_from file bytes zero ts held at h r = answer_end file bytes ts held at (omega arith) r
answer_from file bytes (suc fuel) ts held at h r =
    elim (cases_lt at (length bytes)) [
      | inl less ↦ answer_at file bytes ts held at less r (λ us now n p up. answer_from file bytes fuel us now (at + n) (omega arith) up)
      | inr end ↦ answer_end file bytes ts held at end r
    ]

-- where the bytes behind a mark begin
mark_by : (bytes : List ℕ) (t : Bool) → (at : ℕ) × (at ≤ length bytes) × (drop at bytes ≡ cond t (drop 3 bytes) bytes)
mark_by bytes false = (0, omega arith, refl)
mark_by bytes true =
    elim (cases_lt (length bytes) 3) [
      | inl less ↦ (length bytes, omega arith, drop_all (length bytes) bytes (omega arith) ∙ sym (drop_all 3 bytes (omega arith)))
      | inr most ↦ (3, most, refl)
    ]

pub some_answer : (file : ℕ) (bytes : List ℕ) → SomeAnswer file bytes
some_answer file bytes =
    let at = mark_by bytes (starts_with nat_eq bytes (0xEF ∷ 0xBB ∷ 0xBF ∷ [])) in
    answer_from file bytes (length bytes) [] [] at.0 (omega arith) (read_none file bytes [] [] at.0 at.1 at.2 refl refl)
