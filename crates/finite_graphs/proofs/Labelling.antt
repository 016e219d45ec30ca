-- Nodes at the end of a path that get a label.
use Rattle.std.proofs.Common.{◌≡◌, ◌≢◌, ℕ, ◌+◌, ◌<◌, ◌≤◌, ◌⊎◌, inl, inr, List, [], ◌∷◌, ◌++◌, length, take, refl, sym, ap, ◌∙◌, subst, arith, length-append, append_assoc, append-nil}
use Rattle.std.specs.Prelude.{slice_set}
use Rattle.std.proofs.lemmas.Bool.{cases_lt}
use Rattle.std.proofs.lemmas.List.{length-set}
use Rattle.std.proofs.Math.Seq.{take-append_seam}
use Rattle.finite_graphs.specs.declared.search.Standing.{Standing}
use Rattle.finite_graphs.specs.declared.search.Standing.TheVariants.{Open, Closed}
use Rattle.finite_graphs.specs.Walks.{At}
use Rattle.finite_graphs.specs.Searching.{Closes, InTail}
use Rattle.finite_graphs.proofs.Lists.{at_last, at_left, at_other, at_same, at_set, at_was, at_within, same_or_not}
use Rattle.finite_graphs.proofs.Searching.{unseen_set}

-- what is left of a path is its front, and the rest has the label
pub record Labelling (old now : List Standing) (path left : List ℕ) (start label : ℕ) : Type 0 where
  pub closes : Closes old now path (length left) label
  pub tail : List ℕ
  pub front : path ≡ left ++ tail
  pub enough : start ≤ length left

pub labelling_init : (old : List Standing) (path : List ℕ) (start label : ℕ) → start ≤ length path → Labelling old old path path start label
labelling_init old path start label l = record {
  closes = record {
    sized = refl;
    closed = λ a i h le. let w = at_within h in absurd (omega (arith, w, le));
    kept = λ a x h n. h;
    only = λ a x h. inl h;
    unseen = refl;
  };
  tail = [];
  front = sym (append-nil path);
  enough = l;
}

module _ {old now : List Standing} {path left : List ℕ} {start label : ℕ} (on_path : (a i : ℕ) → At a path i → At (Open i) old a)
    (s : Labelling old now path left start label) (next : List ℕ) (w : ℕ) (popped : left ≡ next ++ w ∷ []) (more : start < length left) where
  shorter : length left ≡ length next + 1
  shorter = ap length popped ∙ length-append next (w ∷ [])

  here : At w path (length next)
  here = subst (λ (xs : List ℕ). At w xs (length next)) (sym s.front) (at_left s.tail (subst (λ (xs : List ℕ). At w xs (length next)) (sym popped) (at_last next)))

  only_here : {i : ℕ} → At w path i → i ≡ length next
  only_here {i} h = let e : Open i ≡ Open (length next) = at_same (on_path w i h) (on_path w (length next) here) in cc

  still : At (Open (length next)) now w
  still = s.closes.kept w (Open (length next)) (on_path w (length next) here) (λ t. let e = only_here t.stands in let f = t.from in omega (arith, e, f, shorter))

  pub label_within : w < length now
  label_within = at_within still

  tail_more : {a : ℕ} → InTail path (length left) a → InTail path (length next) a
  tail_more t = record { place = t.place; stands = t.stands; from = let f = t.from in omega (arith, f, shorter) }

  written : At (Closed label) (slice_set now w (Closed label)) w
  written = at_set still

  labelled_closed : (a i : ℕ) → At a path i → length next ≤ i → At (Closed label) (slice_set now w (Closed label)) a
  labelled_closed a i h le = by (same_or_not a w)
    where
      behind : a ≢ w → (i < length left) ⊎ (length left ≤ i) → At (Closed label) (slice_set now w (Closed label)) a
      behind n (inl l) = let place : i ≡ length next = omega (arith, l, le, shorter) in absurd (n (at_same h (subst (λ (k : ℕ). At w path k) (sym place) here)))
      behind n (inr l) = at_other (Closed label) w (s.closes.closed a i h l) n

      by : (a ≡ w) ⊎ (a ≢ w) → At (Closed label) (slice_set now w (Closed label)) a
      by (inl e) = subst (λ n. At (Closed label) (slice_set now w (Closed label)) n) (sym e) written
      by (inr n) = behind n (cases_lt i (length left))

  labelled_kept : (a : ℕ) (x : Standing) → At x old a → (InTail path (length next) a → ⊥) → At x (slice_set now w (Closed label)) a
  labelled_kept a x h n =
      at_other (Closed label) w (s.closes.kept a x h (λ t. n (tail_more t))) (λ e. n (record { place = length next; stands = subst (λ b. At b path (length next)) (sym e) here; from = omega arith }))

  labelled_only : (a : ℕ) (x : Standing) → At x (slice_set now w (Closed label)) a → At x old a ⊎ ((x ≡ Closed label) × InTail path (length next) a)
  labelled_only a x h = by (same_or_not a w)
    where
      was : At x old a ⊎ ((x ≡ Closed label) × InTail path (length left) a) → At x old a ⊎ ((x ≡ Closed label) × InTail path (length next) a)
      was (inl k) = inl k
      was (inr k) = inr (k.0, tail_more k.1)

      by : (a ≡ w) ⊎ (a ≢ w) → At x old a ⊎ ((x ≡ Closed label) × InTail path (length next) a)
      by (inl e) = inr (at_same (subst (λ n. At x (slice_set now w (Closed label)) n) e h) written, record { place = length next; stands = subst (λ b. At b path (length next)) (sym e) here; from = omega arith })
      by (inr n) = was (s.closes.only a x (at_was (Closed label) now w h n))

  pub labelling_next : Labelling old (slice_set now w (Closed label)) path next start label
  labelling_next = record {
    closes = record {
      sized = length-set now w (Closed label) ∙ s.closes.sized;
      closed = labelled_closed;
      kept = labelled_kept;
      only = labelled_only;
      unseen = let n = unseen_set now w (Closed label) still in let u = s.closes.unseen in omega (arith, n, u);
    };
    tail = w ∷ s.tail;
    front = s.front ∙ ap (λ (xs : List ℕ). xs ++ s.tail) popped ∙ append_assoc next (w ∷ []) s.tail;
    enough = let e = s.enough in omega (arith, more, shorter);
  }

  pub labelling_step : (label' : ℕ) (now' : List Standing) → label' ≡ label → now' ≡ slice_set now w (Closed label') → Labelling old now' path next start label
  labelling_step label' now' el en = subst (λ x. Labelling old x path next start label) (sym (en ∙ ap (λ n. slice_set now w (Closed n)) el)) labelling_next

pub labelling_end : {old now : List Standing} {path left : List ℕ} {start label : ℕ} → Labelling old now path left start label → length left ≤ start → Closes old now path start label
labelling_end {old} {now} {path} {left} {start} {label} s done = let e = s.enough in let same : length left ≡ start = omega (arith, e, done) in subst (λ n. Closes old now path n label) same s.closes

pub labelling_front : {old now : List Standing} {path left : List ℕ} {start label : ℕ} → Labelling old now path left start label → length left ≤ start → left ≡ take start path
labelling_front {old} {now} {path} {left} {start} {label} s done =
    let e = s.enough in let same : length left ≡ start = omega (arith, e, done) in
    sym (ap (λ n. take n path) (sym same) ∙ ap (take (length left)) s.front ∙ take-append_seam left s.tail)
