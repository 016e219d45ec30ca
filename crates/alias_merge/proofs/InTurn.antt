-- Changes are listed by list, then by state.
use Rattle.std.proofs.Common.{◌≡◌, ℕ, suc, ◌<◌, ◌≤◌, inl, inr, List, [], ◌∷◌, ◌++◌, Option, Some, None, sym, ap, ◌∙◌, arith}
use Rattle.std.specs.Option.{option_to_list}
use Rattle.typed_tree.specs.declared.trees.TypedChange.{TypedChange}
use Rattle.typed_tree.specs.declared.trees.TypedState.{TypedState}
use Rattle.expanded_tree.specs.Trees.{ExpandedValue}
use Rattle.finite_graphs.specs.Walks.{In, here, there}
use Rattle.finite_graphs.proofs.Lists.{in_one, in_split}
use Rattle.alias_merge.specs.declared.changes.Change.{Change}
use Rattle.alias_merge.specs.declared.changes.StateList.{StateList}
use Rattle.alias_merge.specs.declared.numbers.MemberNumbers.{MemberNumbers}
use Rattle.alias_merge.specs.Candidates.{holding_of, numbered_all}
use Rattle.alias_merge.specs.ChangeLists.{change_at, change_of, changes_in, changes_in_list, changes_in_state, changes_in_states, states_of}
use Rattle.alias_merge.specs.Changes.{InOrder, NotAfter}

order_append : (xs ys : List Change) → InOrder xs → InOrder ys → ((c d : Change) → In c xs → In d ys → NotAfter c d) → InOrder (xs ++ ys)
order_append [] ys o p f = p
order_append (x ∷ xs) ys o p f = ((λ d k. elim (in_split xs ys k) [ inl a ↦ o.0 d a | inr b ↦ f x d here b ]), order_append xs ys o.1 p (λ c d k m. f c d (there k) m))

-- a change comes of a thing whose number is at least n
record Comes {A : Type 0} (f : ℕ → A → List Change) (n : ℕ) (c : Change) : Type 0 where
  number : ℕ
  thing : A
  from : n ≤ number
  among : In c (f number thing)

comes_later : {A : Type 0} {f : ℕ → A → List Change} {n : ℕ} {c : Change} → Comes f (suc n) c → Comes f n c
comes_later h = record { number = h.number; thing = h.thing; from = let l = h.from in omega (arith, l); among = h.among }

comes_of : {A : Type 0} (f : ℕ → A → List Change) (n : ℕ) (xs : List A) {c : Change} → In c (numbered_all f n xs) → Comes f n c
comes_of f n [] k = elim k [ ]
comes_of f n (x ∷ xs) k = elim (in_split (f n x) (numbered_all f (suc n) xs) k) [
  | inl a ↦ record { number = n; thing = x; from = omega arith; among = a }
  | inr b ↦ comes_later (comes_of f (suc n) xs b)
]

order_numbered : {A : Type 0} (f : ℕ → A → List Change) (n : ℕ) (xs : List A) → ((i : ℕ) (x : A) → InOrder (f i x))
    → ((i j : ℕ) (x y : A) (c d : Change) → i < j → In c (f i x) → In d (f j y) → NotAfter c d) → InOrder (numbered_all f n xs)
order_numbered f n [] each across = tt
order_numbered f n (x ∷ xs) each across =
    order_append (f n x) (numbered_all f (suc n) xs) (each n x) (order_numbered f (suc n) xs each across)
    (λ c d k m. let h = comes_of f (suc n) xs m in let l = h.from in across n h.number x h.thing c d (omega (arith, l)) k h.among)

order_one : (o : Option Change) → InOrder (option_to_list o)
order_one None = tt
order_one (Some c) = ((λ d k. elim k [ ]), tt)

-- the list and the state of a change
at_keys : (l s i : ℕ) (t : TypedChange) (o : Option ℕ) (c : Change) → In c (option_to_list (change_at l s i t o)) → (c.list ≡ l) × (c.state ≡ s)
at_keys l s i t None c k = elim k [ ]
at_keys l s i t (Some m) c k = (ap (λ (x : Change). x.list) (in_one k), ap (λ (x : Change). x.state) (in_one k))

same_state : (c d : Change) (l s : ℕ) → (c.list ≡ l) × (c.state ≡ s) → (d.list ≡ l) × (d.state ≡ s) → NotAfter c d
same_state c d l s a b = let x = a.1 in let y = b.1 in inr (a.0 ∙ sym b.0, omega (arith, x, y))

module _ (e : ExpandedValue) (numbers : MemberNumbers) where
  change_keys : (b l s i : ℕ) (t : TypedChange) (c : Change) → In c (option_to_list (change_of e numbers b l s i t)) → (c.list ≡ l) × (c.state ≡ s)
  change_keys b l s i t c k = at_keys l s i t _ c k

  state_order : (b l s : ℕ) (state : TypedState) → InOrder (changes_in_state e numbers b l s state)
  state_order b l s state =
      order_numbered (λ i t. option_to_list (change_of e numbers b l s i t)) 0 state.changes (λ i t. order_one (change_of e numbers b l s i t))
      (λ i j t u c d h k m. same_state c d l s (change_keys b l s i t c k) (change_keys b l s j u d m))

  state_keys : (b l s : ℕ) (state : TypedState) (c : Change) → In c (changes_in_state e numbers b l s state) → (c.list ≡ l) × (c.state ≡ s)
  state_keys b l s state c k =
      let h = comes_of (λ i t. option_to_list (change_of e numbers b l s i t)) 0 state.changes k in change_keys b l s h.number h.thing c h.among

  later_state : (c d : Change) (l i j : ℕ) → i < j → (c.list ≡ l) × (c.state ≡ i) → (d.list ≡ l) × (d.state ≡ j) → NotAfter c d
  later_state c d l i j h a b = let x = a.1 in let y = b.1 in inr (a.0 ∙ sym b.0, omega (arith, x, y, h))

  states_order : (b l : ℕ) (states : List TypedState) → InOrder (changes_in_states e numbers b l states)
  states_order b l states =
      order_numbered (λ s state. changes_in_state e numbers b l s state) 0 states (λ s state. state_order b l s state)
      (λ i j x y c d h k m. later_state c d l i j h (state_keys b l i x c k) (state_keys b l j y d m))

  states_list : (b l : ℕ) (states : List TypedState) (c : Change) → In c (changes_in_states e numbers b l states) → c.list ≡ l
  states_list b l states c k =
      let h = comes_of (λ s state. changes_in_state e numbers b l s state) 0 states k in (state_keys b l h.number h.thing c h.among).0

  later_list : (c d : Change) (i j : ℕ) → i < j → c.list ≡ i → d.list ≡ j → NotAfter c d
  later_list c d i j h a b = inl (omega (arith, a, b, h))

  pub changes_in_order : (all : List StateList) → InOrder (changes_in e numbers all)
  changes_in_order all =
      order_numbered (changes_in_list e numbers) 0 all (λ l list. states_order (holding_of e list.holder).body l (states_of e list))
      (λ i j x y c d h k m. later_list c d i j h (states_list (holding_of e x.holder).body i (states_of e x) c k) (states_list (holding_of e y.holder).body j (states_of e y) d m))
