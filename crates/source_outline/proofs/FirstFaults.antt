-- The first fault of marked members, found in a loop.
use Rattle.std.proofs.Common.{◌≡◌, ℕ, suc, Bool, List, [], ◌∷◌, ◌++◌, ◌+◌, ◌<◌, length, drop, get_or, Option, Some, None, refl, sym, ◌∙◌, ap, append_assoc, add-one}
use Rattle.std.specs.Prelude.{slice_get}
use Rattle.slint_base.specs.declared.faults.Fault.{Fault}
use Rattle.fault_order.specs.Order.{earlier_of, first_of}
use Rattle.fault_order.proofs.First.{first_of-append}
use Rattle.source_outline.specs.declared.followers.Follower.{Follower}
use Rattle.source_outline.specs.Marked.{marked_from, told_if}
use Rattle.source_outline.specs.Members.{in_front}
use Rattle.source_outline.proofs.Turns.{from_item, front}

alone : (a : Option Fault) → first_of (in_front a []) ≡ a
alone None = refl
alone (Some f) = refl

first_in_front : (a : Option Fault) (fs : List Fault) → first_of (in_front a fs) ≡ earlier_of a (first_of fs)
first_in_front a fs = ap first_of (sym (front a fs)) ∙ first_of-append (in_front a []) fs ∙ ap (λ x. earlier_of x (first_of fs)) (alone a)

both : (a b : Option Fault) (fs : List Fault) → earlier_of (earlier_of a b) (first_of fs) ≡ earlier_of a (first_of (in_front b fs))
both a b fs =
    ap (λ x. earlier_of x (first_of fs)) (sym (first_of-append (in_front a []) (in_front b []) ∙ ap (λ x. earlier_of x (first_of (in_front b []))) (alone a) ∙ ap (earlier_of a) (alone b)))
    ∙ sym (first_of-append (in_front a [] ++ in_front b []) fs)
    ∙ ap first_of (append_assoc (in_front a []) (in_front b []) fs)
    ∙ first_of-append (in_front a []) (in_front b [] ++ fs)
    ∙ ap (λ x. earlier_of x (first_of (in_front b [] ++ fs))) (alone a)
    ∙ ap (λ ys. earlier_of a (first_of ys)) (front b fs)

pub marked_turn : (marks : List Bool) (xs : List Follower) (i : ℕ) (x : Follower) (first told next whole : Option Fault) → x ≡ get_or xs i x → i < length xs
    → told ≡ told_if (slice_get marks i) x → next ≡ earlier_of first told
    → earlier_of first (first_of (marked_from marks i (drop i xs))) ≡ whole → earlier_of next (first_of (marked_from marks (i + 1) (drop (i + 1) xs))) ≡ whole
marked_turn marks xs i x first told next whole e h told_is next_is is =
    ap (λ a. earlier_of a (first_of (marked_from marks (i + 1) (drop (i + 1) xs)))) (next_is ∙ ap (earlier_of first) told_is)
    ∙ ap (λ n. earlier_of (earlier_of first (told_if (slice_get marks i) x)) (first_of (marked_from marks n (drop (i + 1) xs)))) (add-one i)
    ∙ both first (told_if (slice_get marks i) x) (marked_from marks (suc i) (drop (i + 1) xs))
    ∙ ap (λ ys. earlier_of first (first_of (marked_from marks i ys))) (sym (from_item xs i x e h))
    ∙ is
