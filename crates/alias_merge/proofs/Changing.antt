-- Changes in order: what was seen of a class tells whether a change behind breaks the rule.
use Rattle.std.proofs.Common.{◌≡◌, ℕ, zero, suc, ◌+◌, ◌<◌, ◌≤◌, ◌⊎◌, inl, inr, Bool, true, false, cond, List, [], ◌∷◌, ◌++◌, length, get_or, drop, Option, Some, None, refl, sym, ap, ◌∙◌, subst, arith, append_assoc}
use Rattle.std.specs.Prelude.{◌==◌, ◌||◌, ◌&&◌, nat_lt, filter, fold, replicate, slice_get, unwrap_or}
use Rattle.std.specs.List.{list_any}
use Rattle.std.specs.Option.{option_map}
use Rattle.std.proofs.lemmas.Bool.Decides.{nat_tests}
use Rattle.slint_base.specs.declared.faults.Fault.{Fault}
use Rattle.fault_order.specs.Order.{earlier_of, first_of}
use Rattle.fault_order.proofs.First.{earlier_of-None}
use Rattle.fault_order.proofs.Told.{one_told}
use Rattle.std.proofs.lemmas.List.{drop_all, drop_more}
use Rattle.expanded_tree.specs.Components.{each_below}
use Rattle.finite_graphs.specs.Walks.{In, here, there}
use Rattle.finite_graphs.proofs.Lists.{in_left, in_right}
use Rattle.alias_merge.specs.declared.changes.Change.{Change}
use Rattle.alias_merge.specs.declared.changes.Seen.{Seen}
use Rattle.alias_merge.specs.declared.changes.StateList.{StateList}
use Rattle.alias_merge.specs.declared.homes.Home.{Home}
use Rattle.alias_merge.specs.Choosing.{number_is}
use Rattle.alias_merge.specs.Changes.{HasSmallLabels, InOrder, NotAfter, breaks_rule, change_faults, changed_by, changes_of, conflicts, fault_if, faults_behind, first_list, label_of, stands_outside}
use Rattle.alias_merge.specs.ChangesSteps.{breaks_seen, faults_seen, is_seen_by, keep_first, see, seen_at}
use Rattle.alias_merge.specs.ChoosingSteps.{grouped, put}
use Rattle.alias_merge.proofs.Aheads.{get_at}
use Rattle.alias_merge.proofs.Choices.{replicate_sized, replicated}
use Rattle.alias_merge.proofs.Filters.{in_filter}
use Rattle.alias_merge.proofs.Grouping.{grouped_get, grouped_sized}

-- ---- orders

pub order_front : (xs ys : List Change) → InOrder (xs ++ ys) → InOrder xs
order_front [] ys o = tt
order_front (x ∷ xs) ys o = ((λ d k. o.0 d (in_left ys k)), order_front xs ys o.1)

pub order_across : (xs ys : List Change) → InOrder (xs ++ ys) → (c d : Change) → In c xs → In d ys → NotAfter c d
order_across [] ys o c d k m = elim k [ ]
order_across (x ∷ xs) ys o c d k m = across x xs k o.0 (λ l. order_across xs ys o.1 c d l m)
  where
    across : (x : Change) (xs : List Change) → In c (x ∷ xs) → ((e : Change) → In e (xs ++ ys) → NotAfter x e) → (In c xs → NotAfter c d) → NotAfter c d
    across x xs here f g = f d (in_right xs m)
    across x xs (there l) f g = g l

order_cond : (p : Change → Bool) (x : Change) (xs : List Change) (b : Bool) → ((d : Change) → In d xs → NotAfter x d) → InOrder (filter p xs) → InOrder (cond b (x ∷ filter p xs) (filter p xs))
order_cond p x xs true f o = ((λ d k. f d (in_filter p xs k).among), o)
order_cond p x xs false f o = o

pub order_filter : (p : Change → Bool) (xs : List Change) → InOrder xs → InOrder (filter p xs)
order_filter p [] o = tt
order_filter p (x ∷ xs) o = order_cond p x xs (p x) o.0 (order_filter p xs o.1)

-- ---- one more change of a class

abbrev after_numbers : ℕ → ℕ → ℕ → ℕ → Type 0
after_numbers l s m t = (l < m) ⊎ ((l ≡ m) × (s ≤ t))

seen_more : (f l s m t n u : ℕ) → f ≤ l → after_numbers l s m t → after_numbers m t n u
    → (nat_lt f n || ((m == n) && (t == u))) ≡ ((nat_lt f n || ((l == n) && (s == u))) || (nat_lt m n || ((m == n) && (t == u))))
seen_more f l s m t n u a b c = grind (arith, nat_tests)

or_assoc : (a b c : Bool) → ((a || b) || c) ≡ (a || (b || c))
or_assoc true b c = refl
or_assoc false b c = refl

or_none : (a : Bool) → (a || false) ≡ a
or_none true = refl
or_none false = refl

seen_later : (d : Change) (s : Seen) (cs : List Change) → s.first ≤ s.list → ((c : Change) → In c cs → after_numbers s.list s.state c.list c.state) → ((c : Change) → In c cs → NotAfter c d) → InOrder cs
    → is_seen_by d (fold see (Some s) cs) ≡ (is_seen_by d (Some s) || list_any (conflicts d) cs)
seen_later d s [] w f g o = sym (or_none (is_seen_by d (Some s)))
seen_later d s (c ∷ cs) w f g o =
    let fc = f c here in
    let le : s.first ≤ c.list = elim fc [ inl a ↦ omega (arith, a, w) | inr b ↦ let e = b.0 in omega (arith, e, w) ] in
    seen_later d (record { first = s.first; list = c.list; state = c.state }) cs le o.0 (λ e k. g e (there k)) o.1
    ∙ (ap (λ b. b || list_any (conflicts d) cs) (seen_more s.first s.list s.state c.list c.state d.list d.state w fc (g c here))
    ∙ or_assoc (is_seen_by d (Some s)) (conflicts d c) (list_any (conflicts d) cs))

pub seen_class : (d : Change) (cs : List Change) → InOrder cs → ((c : Change) → In c cs → NotAfter c d) → is_seen_by d (fold see None cs) ≡ list_any (conflicts d) cs
seen_class d [] o g = refl
seen_class d (c ∷ cs) o g = seen_later d (record { first = c.list; list = c.list; state = c.state }) cs (omega arith) o.0 (λ e k. g e (there k)) o.1

-- ---- all faults

module _ (labels : List ℕ) (homes : List (Option Home)) (lists : List StateList) (small : HasSmallLabels labels) where
  abbrev seen_of : List Change → List (Option Seen)
  seen_of before = grouped see (label_of labels) (replicate (length labels) None) before

  seen_there : (before : List Change) (l : ℕ) → l < length labels → seen_at (seen_of before) l ≡ fold see None (changes_of labels l before)
  seen_there before l w =
      ap (λ o. unwrap_or o None) (grouped_get see (label_of labels) (replicate (length labels) None) before l
      ∙ ap (option_map (λ (a : Option Seen). fold see a (changes_of labels l before))) (replicated (length labels) l None w))

  breaks_if : (before : List Change) (d : Change) (o : Option ℕ) → label_of labels d ≡ o → InOrder before → ((c : Change) → In c before → NotAfter c d)
      → breaks_seen homes lists (seen_of before) d o ≡ breaks_rule labels homes lists before d o
  breaks_if before d None e o g = refl
  breaks_if before d (Some l) e o g =
      ap (λ b. b || stands_outside (slice_get lists d.list) (slice_get homes l))
      (ap (is_seen_by d) (seen_there before l (small.small d.member l (get_at labels d.member l e)))
      ∙ seen_class d (changes_of labels l before) (order_filter (λ c. number_is l (label_of labels c)) before o)
      (λ c k. g c (in_filter (λ c. number_is l (label_of labels c)) before k).among))

  fold_append : {A X : Type 0} (f : A → X → A) (a : A) (xs : List X) (x : X) → fold f a (xs ++ x ∷ []) ≡ f (fold f a xs) x
  fold_append f a [] x = refl
  fold_append f a (y ∷ xs) x = fold_append f (f a y) xs x

  faults_same : (before ds : List Change) → InOrder (before ++ ds) → faults_seen labels homes lists (seen_of before) ds ≡ faults_behind labels homes lists before ds
  faults_same before [] o = refl
  faults_same before (d ∷ ds) o =
      let later : InOrder ((before ++ d ∷ []) ++ ds) = subst InOrder (sym (append_assoc before (d ∷ []) ds)) o in
      let next : put see (label_of labels d) d (seen_of before) ≡ seen_of (before ++ d ∷ []) =
      sym (fold_append (λ rows x. put see (label_of labels x) x rows) (replicate (length labels) None) before d) in
      ap (λ b. fault_if b d ++ faults_seen labels homes lists (put see (label_of labels d) d (seen_of before)) ds)
      (breaks_if before d (label_of labels d) refl (order_front before (d ∷ ds) o) (λ c k. order_across before (d ∷ ds) o c d k here))
      ∙ ap (λ fs. fault_if (breaks_rule labels homes lists before d (label_of labels d)) d ++ fs)
      (ap (λ seen. faults_seen labels homes lists seen ds) next ∙ faults_same (before ++ d ∷ []) ds later)

  pub faults_are : (cs : List Change) → InOrder cs → faults_seen labels homes lists (replicate (length labels) None) cs ≡ change_faults labels homes lists cs
  faults_are cs o = faults_same [] cs o

-- ---- the pass

pub fault_turn : (labels : List ℕ) (homes : List (Option Home)) (lists : List StateList) (seen shown next : List (Option Seen)) (cs : List Change) (i : ℕ) (e : Change) (o : Option ℕ) (first told later whole : Option Fault)
    → i < length cs → earlier_of first (first_of (faults_seen labels homes lists seen (drop i cs))) ≡ whole → o ≡ label_of labels (get_or cs i e) → shown ≡ seen
    → told ≡ first_of (fault_if (breaks_seen homes lists shown (get_or cs i e) o) (get_or cs i e)) → later ≡ earlier_of first told → next ≡ put see o (get_or cs i e) seen
    → earlier_of later (first_of (faults_seen labels homes lists next (drop (i + 1) cs))) ≡ whole
fault_turn labels homes lists seen shown next cs i e o first told later whole l inv class same told_is later_is next_is =
    let d = get_or cs i e in
    let rest = faults_seen labels homes lists (put see (label_of labels d) d seen) (drop (i + 1) cs) in
    let is : told ≡ first_of (fault_if (breaks_seen homes lists seen d (label_of labels d)) d) =
    told_is ∙ (ap (λ xs. first_of (fault_if (breaks_seen homes lists xs d o) d)) same ∙ ap (λ o. first_of (fault_if (breaks_seen homes lists seen d o) d)) class) in
    ap (λ s. earlier_of later (first_of (faults_seen labels homes lists s (drop (i + 1) cs)))) (next_is ∙ ap (λ o. put see o d seen) class)
    ∙ (one_told (fault_if (breaks_seen homes lists seen d (label_of labels d)) d) rest first later is later_is
    ∙ (sym (ap (λ ds. earlier_of first (first_of (faults_seen labels homes lists seen ds))) (drop_more cs i e l)) ∙ inv))

pub fault_end : (labels : List ℕ) (homes : List (Option Home)) (lists : List StateList) (seen : List (Option Seen)) (cs : List Change) (i : ℕ) (first whole : Option Fault)
    → length cs ≤ i → earlier_of first (first_of (faults_seen labels homes lists seen (drop i cs))) ≡ whole → first ≡ whole
fault_end labels homes lists seen cs i first whole l inv =
    sym (earlier_of-None first) ∙ (sym (ap (λ ds. earlier_of first (first_of (faults_seen labels homes lists seen ds))) (drop_all i cs l)) ∙ inv)

-- ---- the first list of each class

first_kept : (list : ℕ) (cs : List Change) → fold keep_first (Some list) cs ≡ Some list
first_kept list [] = refl
first_kept list (c ∷ cs) = first_kept list cs

first_is : (cs : List Change) → fold keep_first None cs ≡ first_list cs
first_is [] = refl
first_is (c ∷ cs) = first_kept c.list cs

-- a list is known by what stands at each place
ends : {A : Type 0} (xs : List A) (n : ℕ) → length xs ≡ suc n → (ys : List A) × ((y : A) × ((xs ≡ ys ++ y ∷ []) × (length ys ≡ n)))
ends [] n e = absurd (omega (arith, e))
ends (x ∷ []) n e = ([], (x, (refl, omega (arith, e))))
ends (x ∷ z ∷ zs) zero e = absurd (omega (arith, e))
ends (x ∷ z ∷ zs) (suc n) e =
    let r = ends (z ∷ zs) n (omega (arith, e)) in let s = r.1.1.1 in
    (x ∷ r.0, (r.1.0, (ap (λ ws. x ∷ ws) r.1.1.0, omega (arith, s))))

get_front : {A : Type 0} (ys zs : List A) (i : ℕ) → i < length ys → slice_get (ys ++ zs) i ≡ slice_get ys i
get_front [] zs i l = absurd (omega arith)
get_front (y ∷ ys) zs zero l = refl
get_front (y ∷ ys) zs (suc i) l = get_front ys zs i (omega (arith, l))

get_last : {A : Type 0} (ys : List A) (y : A) (n : ℕ) → length ys ≡ n → slice_get (ys ++ y ∷ []) n ≡ Some y
get_last [] y zero e = refl
get_last [] y (suc n) e = absurd (omega (arith, e))
get_last (x ∷ ys) y zero e = absurd (omega (arith, e))
get_last (x ∷ ys) y (suc n) e = get_last ys y n (omega (arith, e))

pub each_is : {B : Type 0} (f : ℕ → B) (n : ℕ) (xs : List B) → length xs ≡ n → ((i : ℕ) → i < n → slice_get xs i ≡ Some (f i)) → xs ≡ each_below f n
each_is f zero [] e g = refl
each_is f zero (x ∷ xs) e g = absurd (omega (arith, e))
each_is {B} f (suc n) xs e g =
    let r = ends xs n e in
    let last : Some r.1.0 ≡ Some (f n) = sym (get_last r.0 r.1.0 n r.1.1.1) ∙ (sym (ap (λ (zs : List B). slice_get zs n) r.1.1.0) ∙ g n (omega arith)) in
    let same : r.1.0 ≡ f n = cc in
    let sized = r.1.1.1 in
    let front : r.0 ≡ each_below f n =
    each_is f n r.0 r.1.1.1 (λ i l. sym (get_front r.0 (r.1.0 ∷ []) i (omega (arith, l, sized))) ∙ (sym (ap (λ (zs : List B). slice_get zs i) r.1.1.0) ∙ g i (omega (arith, l)))) in
    r.1.1.0 ∙ (ap (λ ys. ys ++ r.1.0 ∷ []) front ∙ ap (λ y. each_below f n ++ y ∷ []) same)

pub lists_are : (labels : List ℕ) (cs : List Change) → grouped keep_first (label_of labels) (replicate (length labels) None) cs ≡ changed_by labels cs
lists_are labels cs =
    each_is (λ l. first_list (changes_of labels l cs)) (length labels) (grouped keep_first (label_of labels) (replicate (length labels) None) cs)
    (grouped_sized keep_first (label_of labels) (replicate (length labels) None) cs ∙ replicate_sized (length labels) None)
    (λ l w. grouped_get keep_first (label_of labels) (replicate (length labels) None) cs l
    ∙ (ap (option_map (λ (a : Option ℕ). fold keep_first a (changes_of labels l cs))) (replicated (length labels) l None w) ∙ ap Some (first_is (changes_of labels l cs))))
