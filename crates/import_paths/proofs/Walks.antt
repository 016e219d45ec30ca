-- Walks along segments, and names joined of them.
use Rattle.std.proofs.Common.{◌≡◌, ◌==◌, ℕ, ◌<◌, ◌-◌, ◌+◌, zero, suc, false, List, [], ◌∷◌, ◌++◌, length, take, drop, get_or, Option, Some, None, refl, sym, ap, ◌∙◌, arith, append_assoc, append-nil, length-append, drop-cons}
use Rattle.std.specs.Prelude.{if◌then◌else◌, is_some, MatchOption}
use Rattle.std.specs.Option.{option_and_then}
use Rattle.std.specs.List.{join_with_byte}
use Rattle.std.proofs.lemmas.Bool.{ne_eqb}
use Rattle.std.proofs.lemmas.List.{take_at, take-append-drop, take_more, length-take-le}
use Rattle.import_paths.specs.Paths.{step_from, walk, without_last}

abbrev Segments : Type 0
Segments = List (List ℕ)

on_step : (step : Option Segments) (front back : Segments) (now : Segments) → ((next : Segments) → walk next front ≡ Some now → walk next (front ++ back) ≡ walk now back)
    → option_and_then (λ next. walk next front) step ≡ Some now → option_and_then (λ next. walk next (front ++ back)) step ≡ walk now back
on_step None front back now each e = cc
on_step (Some next) front back now each e = each next e

-- a walk goes on from where its front leads
walk-append : (folder : Segments) (front back now : Segments) → walk folder front ≡ Some now → walk folder (front ++ back) ≡ walk now back
walk-append folder [] back now e = let same : folder ≡ now = cc in ap (λ f. walk f back) same
walk-append folder (segment ∷ front) back now e = on_step (step_from folder segment) front back now (λ next. walk-append next front back now) e

-- one more segment
pub walk-push : (folder : Segments) (front : Segments) (segment : List ℕ) (now next : Segments) → walk folder front ≡ Some now → step_from now segment ≡ Some next → walk folder (front ++ segment ∷ []) ≡ Some next
walk-push folder front segment now next e step = walk-append folder front (segment ∷ []) now e ∙ ap (option_and_then (λ f. walk f [])) step

-- a segment that leads outside
walk-none : (folder : Segments) (front : Segments) (segment : List ℕ) (back now : Segments) → walk folder front ≡ Some now → step_from now segment ≡ None → walk folder (front ++ segment ∷ back) ≡ None
walk-none folder front segment back now e step = walk-append folder front (segment ∷ back) now e ∙ ap (option_and_then (λ f. walk f back)) step

-- the same, for the segments that a walk has come to when it leads outside
pub walk-cut : (folder all front : Segments) (count : ℕ) (segment : List ℕ) (now : Segments) → front ≡ take count all → count < length all → segment ≡ get_or all count segment
    → walk folder front ≡ Some now → step_from now segment ≡ None → walk folder all ≡ None
walk-cut folder all front count segment now so_far more is e step =
    let behind = drop (suc count) all in
    let cut : drop count all ≡ segment ∷ behind = drop-cons all count segment more ∙ ap (λ s. s ∷ behind) (sym is) in
    let split : all ≡ front ++ segment ∷ behind = sym (take-append-drop count all) ∙ (ap (λ s. s ++ drop count all) (sym so_far) ∙ ap (λ s. front ++ s) cut) in
    ap (walk folder) split ∙ walk-none folder front segment behind now e step

-- segments without the one at their end
without_last-push : (front : Segments) (last : List ℕ) → without_last (front ++ last ∷ []) ≡ front
without_last-push front last =
    let len = length-append front (last ∷ []) in
    take_at front (last ∷ []) (length (front ++ last ∷ []) - 1) (omega (arith, len))

-- the last segment is taken from a folder, where it has one
abbrev IsPopped : Segments → Segments → Option (List ℕ) → Type 0
IsPopped old new last = MatchOption last ((old ≡ []) × (new ≡ [])) (λ segment. old ≡ new ++ segment ∷ [])

pub without_last-popped : (old new : Segments) (last : Option (List ℕ)) → IsPopped old new last → new ≡ without_last old
without_last-popped old new None (was, now) = now ∙ sym (ap without_last was)
without_last-popped old new (Some segment) was = sym (without_last-push new segment) ∙ sym (ap without_last was)

-- and that is where `..` leads
abbrev back_from : Segments → Option Segments
back_from folder = if length folder == 0 then None else Some (without_last folder)

back_from-push : (new : Segments) (segment : List ℕ) → back_from (new ++ segment ∷ []) ≡ Some new
back_from-push new segment =
    let len = length-append new (segment ∷ []) in
    let some : (length (new ++ segment ∷ []) == 0) ≡ false = ne_eqb (length (new ++ segment ∷ [])) 0 (λ none. omega (arith, len, none)) in
    rw some (ap (λ f. Some f) (without_last-push new segment))

pub back_from-popped : (old new : Segments) (last : Option (List ℕ)) → IsPopped old new last → back_from old ≡ (if is_some last then Some new else None)
back_from-popped old new None (was, now) = ap back_from was
back_from-popped old new (Some segment) was = ap back_from was ∙ back_from-push new segment

-- one more segment in a name
joined-more : (segments : Segments) (segment : List ℕ) → 0 < length segments → join_with_byte 47 (segments ++ segment ∷ []) ≡ join_with_byte 47 segments ++ (47 ∷ segment)
joined-more [] segment some = absurd (omega arith)
joined-more (one ∷ []) segment some = refl
joined-more (one ∷ two ∷ segments) segment some =
    ap (λ v. one ++ (47 ∷ v)) (joined-more (two ∷ segments) segment (omega arith)) ∙ sym (append_assoc one (47 ∷ join_with_byte 47 (two ∷ segments)) (47 ∷ segment))

-- the name made of a root and segments, with the first segment or a further one behind it
joined-next : (root name segment : List ℕ) (front : Segments) → name ≡ root ++ join_with_byte 47 front → length front ≡ 0 → name ++ segment ≡ root ++ join_with_byte 47 (front ++ segment ∷ [])
joined-next root name segment [] e none = ap (λ n. n ++ segment) e ∙ ap (λ r. r ++ segment) (append-nil root)
joined-next root name segment (one ∷ front) e none = absurd (omega arith)

joined-further : (root name segment : List ℕ) (front : Segments) → name ≡ root ++ join_with_byte 47 front → 0 < length front → (name ++ 47 ∷ []) ++ segment ≡ root ++ join_with_byte 47 (front ++ segment ∷ [])
joined-further root name segment front e some =
    append_assoc name (47 ∷ []) segment
    ∙ (ap (λ n. n ++ (47 ∷ segment)) e ∙ (append_assoc root (join_with_byte 47 front) (47 ∷ segment) ∙ ap (λ v. root ++ v) (sym (joined-more front segment some))))

-- the same along a list
joined-at_first : (root name segment : List ℕ) (items : Segments) (index : ℕ) → index < length items → segment ≡ get_or items index segment → name ≡ root ++ join_with_byte 47 (take index items) → index ≡ 0
    → name ++ segment ≡ root ++ join_with_byte 47 (take (index + 1) items)
joined-at_first root name segment items index within is e first =
    let front = take index items in
    let len = length-take-le index items (omega arith) in
    joined-next root name segment front e (omega (arith, len))
    ∙ ap (λ s. root ++ join_with_byte 47 s) (ap (λ s. front ++ s ∷ []) is ∙ sym (take_more items index segment within))

joined-at_further : (root name segment : List ℕ) (items : Segments) (index : ℕ) → index < length items → segment ≡ get_or items index segment → name ≡ root ++ join_with_byte 47 (take index items) → 0 < index
    → (name ++ 47 ∷ []) ++ segment ≡ root ++ join_with_byte 47 (take (index + 1) items)
joined-at_further root name segment items index within is e further =
    let front = take index items in
    let len = length-take-le index items (omega arith) in
    joined-further root name segment front e (omega (arith, len))
    ∙ ap (λ s. root ++ join_with_byte 47 s) (ap (λ s. front ++ s ∷ []) is ∙ sym (take_more items index segment within))

pub joined-step : (root name next segment : List ℕ) (items : Segments) (index : ℕ) → index < length items → segment ≡ get_or items index segment → name ≡ root ++ join_with_byte 47 (take index items)
    → (index ≡ 0 → next ≡ name ++ segment) → (0 < index → next ≡ (name ++ 47 ∷ []) ++ segment) → next ≡ root ++ join_with_byte 47 (take (index + 1) items)
joined-step root name next segment items zero within is e first further = first refl ∙ joined-at_first root name segment items zero within is e refl
joined-step root name next segment items (suc index) within is e first further = further (omega arith) ∙ joined-at_further root name segment items (suc index) within is e (omega arith)
