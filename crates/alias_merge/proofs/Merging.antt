-- What links need so that classes can be merged: their ends have numbers, and classes are kept along them.
use Rattle.std.proofs.Common.{◌≡◌, ℕ, zero, suc, ◌+◌, ◌-◌, ◌<◌, ◌≤◌, ◌⊎◌, inl, inr, Bool, true, false, List, [], ◌∷◌, Option, None, Some, length, map, refl, sym, ap, subst, ◌∙◌, arith}
use Rattle.std.specs.Prelude.{IfOk, Result, if◌then◌else◌, nat_lt, slice_get, sum}
use Rattle.std.specs.List.{flat_map}
use Rattle.std.proofs.lemmas.Bool.{ltb-true}
use Rattle.std.proofs.lemmas.List.Sums.{sum_by-cons}
use Rattle.slint_base.specs.declared.faults.Fault.{Fault}
use Rattle.slint_base.specs.declared.faults.Span.{Span}
use Rattle.slint_base.specs.declared.rules.Rule.TheVariants as rules
use Rattle.typed_tree.specs.declared.trees.TypedItem.{TypedItem}
use Rattle.typed_tree.specs.declared.trees.TypedItem.TheVariants as items
use Rattle.slint_base.specs.declared.endings.Memory.{Memory}
use Rattle.fault_order.specs.Order.{FirstIfAny, NoFault, first_of}
use Rattle.finite_graphs.specs.declared.edge.Edge.{Edge}
use Rattle.finite_graphs.specs.Graphs.{Leads, edge}
use Rattle.finite_graphs.specs.Walks.{At, In, OnCircle, Reaches, go, here, there}
use Rattle.finite_graphs.proofs.Lists.{at_some, at_within, in_none, in_one, in_right, in_split}
use Rattle.expanded_tree.specs.declared.members.ExpandedMember.{ExpandedMember}
use Rattle.expanded_tree.specs.declared.members.ExpandedMember.TheVariants as members
use Rattle.expanded_tree.specs.Items.{holders_in_order, items_of}
use Rattle.expanded_tree.specs.Members.{member_at}
use Rattle.expanded_tree.specs.Trees.{ExpandedValue}
use Rattle.alias_merge.specs.declared.circle_faults.Spanned.{Spanned}
use Rattle.alias_merge.specs.declared.numbers.Block.{Block}
use Rattle.alias_merge.specs.Candidates.{holding_of}
use Rattle.alias_merge.specs.declared.candidate.Candidate.{Candidate}
use Rattle.alias_merge.specs.declared.changes.Change.{Change}
use Rattle.alias_merge.specs.declared.changes.StateList.{StateList}
use Rattle.alias_merge.specs.declared.homes.Home.{Home}
use Rattle.alias_merge.specs.declared.numbers.MemberNumbers.{MemberNumbers}
use Rattle.alias_merge.specs.declared.rows.MemberRow.{MemberRow}
use Rattle.alias_merge.specs.ChangeLists.{changes, changes_in, lists}
use Rattle.alias_merge.specs.Changes.{HasSmallLabels, InOrder, change_faults, changed_by}
use Rattle.alias_merge.specs.Choosing.{AreChoices, HasNoCircle, KeepsLabels}
use Rattle.alias_merge.specs.Homes.{homes_of}
use Rattle.alias_merge.specs.Merged.{AreGroups}
use Rattle.alias_merge.specs.Rows.{member_rows}
use Rattle.alias_merge.specs.CircleFaults.{CircleFault, EndsWithin, edge_in}
use Rattle.alias_merge.specs.Labels.{AreLabels, both_ways, joined}
use Rattle.alias_merge.specs.Links.{LinkFault, link_between, link_edges, link_of, links, links_at}
use Rattle.alias_merge.specs.Numbers.{blocks_from, count, number_in, number_within, numbers_of, sizes}
use Rattle.alias_merge.proofs.CircleMarks.{get_at}
use Rattle.alias_merge.proofs.Labelling.{back_again, reach_within, to_within}

-- ---- numbers are small

past_in : Option Block → ℕ
past_in None = 0
past_in (Some b) = b.past

block_past : (a b : Block) → Some a ≡ Some b → b.past ≡ a.past
unfolding past_in
block_past a b e = sym (ap past_in e)

sum_more : (n : ℕ) (ns : List ℕ) → sum (n ∷ ns) ≡ n + sum ns
sum_more n ns = sum_by-cons (λ x. x) n ns

blocks_small : (from : ℕ) (ns : List ℕ) (i : ℕ) (b : Block) → slice_get (blocks_from from ns) i ≡ Some b → b.past ≤ from + sum ns
blocks_small from [] i b e = absurd (cc)
blocks_small from (n ∷ ns) zero b e = let p = block_past (record { first = from; past = from + n }) b e in let q = sum_more n ns in omega (arith, p, q)
blocks_small from (n ∷ ns) (suc i) b e = let p = blocks_small (from + n) ns i b e in let q = sum_more n ns in omega (arith, p, q)

some_same : (a b : ℕ) → Some a ≡ Some b → a ≡ b
some_same a b e = cc

if_some : (t : Bool) (o : Option ℕ) (n : ℕ) → (if t then o else None) ≡ Some n → o ≡ Some n
if_some true o n e = e
if_some false o n e = absurd (cc)

in_block : (t : Bool) (k : ℕ) (b : Block) (n limit : ℕ) → nat_lt k (b.past - b.first) ≡ t → b.past ≤ limit → (if t then Some (b.first + k) else None) ≡ Some n → n < limit
in_block true k b n limit q l e = let p = ltb-true k (b.past - b.first) q in let s = some_same (b.first + k) n e in omega (arith, p, l, s)
in_block false k b n limit q l e = absurd (cc)

within_small : (k : ℕ) (o : Option Block) (n limit : ℕ) → ((b : Block) → o ≡ Some b → b.past ≤ limit) → number_within k o ≡ Some n → n < limit
within_small k None n limit h e = absurd (cc)
within_small k (Some b) n limit h e = in_block (nat_lt k (b.past - b.first)) k b n limit refl (h b refl) e

behind_none : (n limit : ℕ) → n < 0 + limit → n < limit
behind_none n limit l = omega arith

module _ (e : ExpandedValue) where
  at_place : (k i n : ℕ) → number_within k (slice_get (blocks_from 0 (sizes e)) i) ≡ Some n → n < count e
  at_place k i n h = behind_none n (count e) (within_small k (slice_get (blocks_from 0 (sizes e)) i) n (0 + count e) (λ b q. blocks_small 0 (sizes e) i b q) h)

  pub number_small : (m : ExpandedMember) (n : ℕ) → number_in (numbers_of e) m ≡ Some n → n < count e
  number_small (members.Global g k) n h = at_place k g n (if_some _ _ n h)
  number_small (members.Declared b k) n h = at_place k _ n (if_some _ _ n h)
  number_small (members.BuiltIn x k) n h = at_place k _ n h

-- ---- links lie between members

all_flat : {A B : Type 0} (P : B → Type 0) (f : A → List B) (xs : List A) → ((x : A) (y : B) → In y (f x) → P y) → (y : B) → In y (flat_map f xs) → P y
all_flat P f [] each y h = absurd (in_none h)
all_flat P f (x ∷ xs) each y h = by (all_flat P f xs each y) (in_split (f x) (flat_map f xs) h)
  where
    by : (In y (flat_map f xs) → P y) → In y (f x) ⊎ In y (flat_map f xs) → P y
    by more (inl k) = each x y k
    by more (inr k) = more k

record Lies (n : ℕ) (s : Spanned) : Type 0 where
  from : s.from < n
  to : s.to < n

between_lies : (limit : ℕ) (span : Span) (o p : Option ℕ) → ((n : ℕ) → o ≡ Some n → n < limit) → ((n : ℕ) → p ≡ Some n → n < limit) → (s : Spanned) → In s (link_between span o p) → Lies limit s
between_lies limit span None p f g s h = absurd (in_none h)
between_lies limit span (Some a) None f g s h = absurd (in_none h)
between_lies limit span (Some a) (Some b) f g s h = subst (λ (t : Spanned). Lies limit t) (sym (in_one h)) (record { from = f a refl; to = g b refl })

module _ (e : ExpandedValue) where
  link_lies : (body : ℕ) (item : TypedItem) (s : Spanned) → In s (link_of e (numbers_of e) body item) → Lies (count e) s
  link_lies body (items.Link link) s h =
      between_lies (count e) link.span (number_in (numbers_of e) (member_at e body link.left)) (number_in (numbers_of e) (member_at e body link.right))
      (number_small e (member_at e body link.left)) (number_small e (member_at e body link.right)) s h
  link_lies body (items.Binding x) s h = absurd (in_none h)
  link_lies body (items.Function x) s h = absurd (in_none h)
  link_lies body (items.Handler x) s h = absurd (in_none h)
  link_lies body (items.Changed x) s h = absurd (in_none h)
  link_lies body (items.States x) s h = absurd (in_none h)

  links_lie : (s : Spanned) → In s (links e) → Lies (count e) s
  links_lie = all_flat (Lies (count e)) (links_at e (numbers_of e)) (holders_in_order e)
      (λ holder. all_flat (Lies (count e)) (link_of e (numbers_of e) (holding_of e holder).body) (items_of e holder) (link_lies (holding_of e holder).body))

  pub links_within : EndsWithin (count e) (links e)
  links_within = record { from = λ s h. (links_lie s h).from; to = λ s h. (links_lie s h).to }

pub ends_within : (e : ExpandedValue) (n : ℕ) (all : List Spanned) → n ≡ count e → all ≡ links e → EndsWithin n all
ends_within e n all p q = subst (λ (ss : List Spanned). EndsWithin n ss) (sym q) (subst (λ m. EndsWithin m (links e)) (sym p) (links_within e))

-- ---- classes are kept along links

-- of which link an edge is
record Drawn (all : List Spanned) (x : Edge) : Type 0 where
  link : Spanned
  among : In link all
  is : x ≡ edge_in link

drawn_later : {s : Spanned} {ss : List Spanned} {x : Edge} → Drawn ss x → Drawn (s ∷ ss) x
drawn_later d = record { link = d.link; among = there d.among; is = d.is }

drawn_by : (all : List Spanned) (x : Edge) → In x (map edge_in all) → Drawn all x
drawn_by [] x h = absurd (in_none h)
drawn_by (s ∷ ss) x here = record { link = s; among = here; is = refl }
drawn_by (s ∷ ss) x (there h) = drawn_later (drawn_by ss x h)

joined_by : (all : List Spanned) (s : Spanned) → In s all → In (edge_in s) (joined all)
joined_by [] s h = absurd (in_none h)
joined_by (t ∷ ss) s here = here
joined_by (t ∷ ss) s (there h) = in_right (both_ways t) (joined_by ss s h)

leads_joined : (all : List Spanned) (a b : ℕ) → Leads (map edge_in all) a b → Leads (joined all) a b
leads_joined all a b l =
    let d = drawn_by all (edge a b) l.drawn in record { drawn = subst (λ (x : Edge). In x (joined all)) (sym d.is) (joined_by all d.link d.among) }

least_first : (all : List Spanned) (n : ℕ) (labels : List ℕ) (a b k l : ℕ) → AreLabels all n labels → Leads (joined all) a b → At k labels a → At l labels b → k ≤ l
least_first all n labels a b k l are leads ka lb = are.least a l k ka (go leads (are.joined_to b l lb))

both_least : (k l : ℕ) → k ≤ l → l ≤ k → k ≡ l
both_least k l p q = omega arith

pub keeps_labels : (all : List Spanned) (n : ℕ) (labels : List ℕ) → EndsWithin n all → AreLabels all n labels → KeepsLabels (map edge_in all) labels
keeps_labels all n labels w are = record { along = λ a b l. by a b (leads_joined all a b l) }
  where
    by : (a b : ℕ) → Leads (joined all) a b → slice_get labels a ≡ slice_get labels b
    by a b leads =
        let sized : length labels ≡ n = are.sized in
        let back = back_again all a b leads in
        let la : a < n = to_within all n (edge b a) w back.drawn in
        let lb : b < n = to_within all n (edge a b) w leads.drawn in
        let p = at_some labels a (omega (arith, sized, la)) in
        let q = at_some labels b (omega (arith, sized, lb)) in
        get_at p.stands ∙ (ap Some (both_least p.item q.item (least_first all n labels a b p.item q.item are leads p.stands q.stands) (least_first all n labels b a q.item p.item are back q.stands p.stands)) ∙ sym (get_at q.stands))

pub small_labels : (all : List Spanned) (n : ℕ) (labels : List ℕ) → EndsWithin n all → AreLabels all n labels → HasSmallLabels labels
small_labels all n labels w are = record { small = λ a l h. by a l h }
  where
    by : (a l : ℕ) → At l labels a → l < length labels
    by a l h =
        let sized : length labels ≡ n = are.sized in
        let la = at_within h in
        let k : l < n = reach_within n (λ x m. to_within all n x w m) (are.joined_to a l h) (omega (arith, sized, la)) in
        omega (arith, sized, k)

circle_told : (e : ExpandedValue) (a : ℕ) (c : OnCircle (Leads (link_edges e)) a) → (d : Drawn (links e) (edge a c.next)) → LinkFault e (record { rule = rules.AliasLoop; span = d.link.span })
circle_told e a c d =
    let from : a ≡ d.link.from = ap (λ (x : Edge). x.from) d.is in
    let to : c.next ≡ d.link.to = ap (λ (x : Edge). x.to) d.is in
    record { edge = d.link; among = d.among; back = subst (λ m. Reaches (Leads (link_edges e)) m d.link.from) to (subst (λ m. Reaches (Leads (link_edges e)) c.next m) from c.back); is = refl }

pub no_circle : (e : ExpandedValue) → NoFault (LinkFault e) → HasNoCircle (link_edges e)
no_circle e none = record { none = λ a c. let d = drawn_by (links e) (edge a c.next) c.leads.drawn in none (record { rule = rules.AliasLoop; span = d.link.span }) (circle_told e a c d) }

-- ---- the steps of merging

pub told_of : (r : Result (Option Fault) Memory) (all : List Spanned) (e : ExpandedValue) → all ≡ links e → IfOk r (λ (fault : Option Fault). FirstIfAny (CircleFault rules.AliasLoop all) fault)
    → IfOk r (λ (fault : Option Fault). FirstIfAny (LinkFault e) fault)
told_of r all e q h = subst (λ (ss : List Spanned). IfOk r (λ (fault : Option Fault). FirstIfAny (λ f. CircleFault rules.AliasLoop ss f) fault)) q h

pub groups_are : (e : ExpandedValue) (all : List Spanned) (n : ℕ) (labels l : List ℕ) (rows r : List MemberRow) (homes : List (Option Home)) → all ≡ links e → n ≡ count e → AreLabels all n labels → l ≡ labels → rows ≡ member_rows e → r ≡ rows
    → homes ≡ homes_of l r → AreGroups e labels homes
groups_are e all n labels l rows r homes p q are s t u h = record {
  labelled = subst (λ m. AreLabels (links e) m labels) q (subst (λ (ss : List Spanned). AreLabels ss n labels) p are);
  housed = h ∙ (ap (λ (x : List ℕ). homes_of x r) s ∙ ap (homes_of labels) (u ∙ t));
}

pub chosen_are : (e : ExpandedValue) (edges : List Edge) (labels l : List ℕ) (homes h : List (Option Home)) (cs : List Candidate) (chosen : List (Option Candidate)) → edges ≡ link_edges e → l ≡ labels → h ≡ homes
    → NoFault (LinkFault e) → AreGroups e labels homes → (KeepsLabels edges l → HasNoCircle edges → AreChoices edges l h cs chosen) → AreChoices (link_edges e) labels homes cs chosen
chosen_are e edges labels l homes h cs chosen q ql qh none groups f =
    let a : KeepsLabels (link_edges e) l → HasNoCircle (link_edges e) → AreChoices (link_edges e) l h cs chosen =
    subst (λ (es : List Edge). KeepsLabels es l → HasNoCircle es → AreChoices es l h cs chosen) q f in
    let b : KeepsLabels (link_edges e) labels → HasNoCircle (link_edges e) → AreChoices (link_edges e) labels h cs chosen =
    subst (λ (ls : List ℕ). KeepsLabels (link_edges e) ls → HasNoCircle (link_edges e) → AreChoices (link_edges e) ls h cs chosen) ql a in
    subst (λ (hs : List (Option Home)). AreChoices (link_edges e) labels hs cs chosen) qh (b (keeps_labels (links e) (count e) labels (links_within e) groups.labelled) (no_circle e none))

pub changes_are : (e : ExpandedValue) (numbers : MemberNumbers) (all found : List StateList) (cs again : List Change) → numbers ≡ numbers_of e → all ≡ found → found ≡ lists e → cs ≡ changes_in e numbers all → again ≡ cs → again ≡ changes e
changes_are e numbers all found cs again n p q h s =
    s ∙ (h ∙ (ap (λ (x : MemberNumbers). changes_in e x all) n ∙ ap (changes_in e (numbers_of e)) (p ∙ q)))

pub change_told : (e : ExpandedValue) (labels l : List ℕ) (homes h : List (Option Home)) (ls : List StateList) (cs : List Change) (fault : Option Fault) → AreGroups e labels homes → l ≡ labels → h ≡ homes → ls ≡ lists e → cs ≡ changes e
    → InOrder cs → (HasSmallLabels l → InOrder cs → fault ≡ first_of (change_faults l h ls cs)) → fault ≡ first_of (change_faults labels homes (lists e) (changes e))
change_told e labels l homes h ls cs fault groups ql qh qs qc order f =
    let small : HasSmallLabels labels = small_labels (links e) (count e) labels (links_within e) groups.labelled in
    f (subst (λ (x : List ℕ). HasSmallLabels x) (sym ql) small) order
    ∙ (ap (λ (x : List ℕ). first_of (change_faults x h ls cs)) ql
    ∙ (ap (λ (x : List (Option Home)). first_of (change_faults labels x ls cs)) qh
    ∙ (ap (λ (x : List StateList). first_of (change_faults labels homes x cs)) qs
    ∙ ap (λ (x : List Change). first_of (change_faults labels homes (lists e) x)) qc)))

pub changed_are : (e : ExpandedValue) (labels l : List ℕ) (cs : List Change) (found : List (Option ℕ)) → l ≡ labels → cs ≡ changes e → found ≡ changed_by l cs → found ≡ changed_by labels (changes e)
changed_are e labels l cs found ql qc h = h ∙ (ap (λ (x : List ℕ). changed_by x cs) ql ∙ ap (changed_by labels) qc)

pub ordered : (cs again : List Change) → again ≡ cs → InOrder cs → InOrder again
ordered cs again e o = subst (λ (xs : List Change). InOrder xs) (sym e) o
