-- Comments at the front of bytes.
use Rattle.std.proofs.Common.{◌≡◌, ℕ, zero, suc, ◌+◌, ◌<◌, ◌≤◌, Some, None, List, length, drop, sym, ap, ◌∙◌, subst, arith}
use Rattle.std.proofs.lemmas.List.{length-drop, drop-drop}
use Rattle.slint_literals.specs.Steps.{Steps, still}
use Rattle.slint_literals.proofs.Runs.{steps_snoc}
use Rattle.slint_lexer.specs.Pieces.{comment_step, line_step}
use Rattle.slint_lexer.specs.Found.{IsCommentStep, IsCommentWalk, IsLineStep, IsLineWalk}

-- so many comments are open after so many bytes
pub record CommentUpTo (s : List ℕ) (depth at : ℕ) : Type 0 where
  pub begun : 2 ≤ at
  pub within : at ≤ length s
  pub few : depth < at
  pub walked : Steps comment_step (1, drop 2 s) (depth, drop at s)

pub comment_first : (s : List ℕ) → 2 ≤ length s → CommentUpTo s 1 2
comment_first s h = record { begun = omega arith; within = h; few = omega arith; walked = still (1, drop 2 s) }

pub comment_more : (s behind : List ℕ) (depth at next n : ℕ) → behind ≡ drop at s → CommentUpTo s depth at → IsCommentStep depth behind (Some (next, n)) → CommentUpTo s next (at + n)
comment_more s behind depth at next n e up step = record {
  begun = omega (arith, up.begun);
  within = omega (arith, length-drop at s, ap length e, up.within, step.2);
  few = omega (arith, up.few, step.3);
  walked =
      subst (λ t. Steps comment_step (1, drop 2 s) (next, t)) (ap (drop n) e ∙ drop-drop n at s)
      (steps_snoc comment_step (1, drop 2 s) (depth, behind) (next, drop n behind) (subst (λ t. Steps comment_step (1, drop 2 s) (depth, t)) (sym e) up.walked) step.0);
}

pub comment_shut : (s : List ℕ) (depth at : ℕ) → CommentUpTo s depth at → depth ≡ 0 → IsCommentWalk s depth at
comment_shut s depth at up z = record { begun = up.begun; within = up.within; walked = up.walked; ended = ap (λ d. comment_step (d, drop at s)) z }

pub comment_broken : (s behind : List ℕ) (depth at : ℕ) → behind ≡ drop at s → CommentUpTo s depth at → IsCommentStep depth behind None → IsCommentWalk s depth at
comment_broken s behind depth at e up step = record { begun = up.begun; within = up.within; walked = up.walked; ended = ap (λ t. comment_step (depth, t)) (sym e) ∙ step }

-- the comment to the line's end goes on over so many bytes
pub record LineUpTo (s : List ℕ) (at : ℕ) : Type 0 where
  pub begun : 2 ≤ at
  pub within : at ≤ length s
  pub walked : Steps line_step (drop 2 s) (drop at s)

pub line_first : (s : List ℕ) → 2 ≤ length s → LineUpTo s 2
line_first s h = record { begun = omega arith; within = h; walked = still (drop 2 s) }

pub line_more : (s behind : List ℕ) (at n : ℕ) → behind ≡ drop at s → LineUpTo s at → IsLineStep behind n → 0 < n → LineUpTo s (at + n)
line_more s behind at zero e up step p = absurd (omega arith)
line_more s behind at (suc n) e up step p = record {
  begun = omega (arith, up.begun);
  within = omega (arith, length-drop at s, ap length e, up.within, step.1);
  walked =
      subst (λ t. Steps line_step (drop 2 s) t) (ap (drop (suc n)) e ∙ drop-drop (suc n) at s)
      (steps_snoc line_step (drop 2 s) behind (drop (suc n) behind) (subst (λ t. Steps line_step (drop 2 s) t) (sym e) up.walked) step.0);
}

pub line_whole : (s behind : List ℕ) (at n : ℕ) → behind ≡ drop at s → LineUpTo s at → IsLineStep behind n → n ≡ 0 → IsLineWalk s at
line_whole s behind at zero e up step z = record { begun = up.begun; within = up.within; walked = up.walked; ended = ap line_step (sym e) ∙ step }
line_whole s behind at (suc n) e up step z = absurd (omega arith)
