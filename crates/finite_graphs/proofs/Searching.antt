-- Each step of a search keeps what holds of it.
use Rattle.std.proofs.Common.{◌≡◌, ◌≢◌, ℕ, suc, zero, ◌+◌, ◌-◌, ◌*◌, ◌^◌, ◌<◌, ◌≤◌, ◌⊎◌, inl, inr, List, [], ◌∷◌, ◌++◌, Option, None, Some, Bor, MatchOption, length, get_or, take, drop, refl, sym, ap, ◌∙◌, subst, arith, length-append}
use Rattle.std.specs.Prelude.{slice_get, slice_set, option_copied}
use Rattle.std.proofs.lemmas.Option.{slice_get-get_or}
use Rattle.std.proofs.lemmas.Bool.{cases_lt}
use Rattle.std.proofs.lemmas.List.{length-set, length-take-le, take-append-drop}
use Rattle.finite_graphs.specs.declared.search.Standing.{Standing}
use Rattle.finite_graphs.specs.declared.search.Standing.TheVariants.{New, Open, Closed}
use Rattle.finite_graphs.specs.declared.search.Group.{Group}
use Rattle.finite_graphs.specs.Walks.{In, At, Reaches, stay, here, first, next}
use Rattle.finite_graphs.specs.Searching.{AllReach, Below, ClosedBelow, Closes, Covered, FewerNew, InTail, IsSearch, IsTop, Led, led_closed, led_held, led_waiting, led_due, Merged, Shares, Waits, is_unseen, unseen}
use Rattle.finite_graphs.proofs.Lists.{at_end, at_front, at_in, at_last, at_left, at_behind, at_none, at_other, at_same, at_set, at_split, at_was, at_within, in_at, in_left, in_none, in_one, in_right, in_split, last_read, same_or_not, Behind}
use Rattle.finite_graphs.proofs.Reaching.{joined, one_step}

-- ---- the last of the groups

pub top_is : (groups : List Group) (last : Option (Bor Group)) (found : Option Group) → option_copied last ≡ slice_get groups (length groups - 1) → found ≡ option_copied last
    → MatchOption found (groups ≡ []) (λ group. IsTop groups group)
top_is [] last found is copied = let none : List Group = [] in subst (λ (o : Option Group). MatchOption o (none ≡ none) (λ group. IsTop none group)) (sym (copied ∙ is)) refl
top_is (g ∷ gs) last found is copied =
    let groups : List Group = g ∷ gs in
    let some = slice_get-get_or groups (length groups - 1) g (omega arith) in
    subst (λ (o : Option Group). MatchOption o (groups ≡ []) (λ group. IsTop groups group)) (sym (copied ∙ is ∙ some))
    (record { at = length groups - 1; counted = omega arith; stands = last_read groups (length groups - 1) (get_or groups (length groups - 1) g) some })

module _ {E : ℕ → ℕ → Type 0} {nodes : ℕ} {due : Option ℕ} {places : List Standing} {path ahead : List ℕ} {groups : List Group} {count : ℕ} (s : IsSearch E nodes due places path ahead groups count) where
  path_top : {h g : Group} → IsTop groups g → In h groups → h.path_start ≤ g.path_start
  path_top {h} {g} top m = let p = in_at m in let l = at_within p.stands in s.path_rises h g p.place top.at p.stands top.stands (omega (arith, l, top.counted))

  ahead_top : {h g : Group} → IsTop groups g → In h groups → h.ahead_start ≤ g.ahead_start
  ahead_top {h} {g} top m = let p = in_at m in let l = at_within p.stands in s.ahead_rises h g p.place top.at p.stands top.stands (omega (arith, l, top.counted))

  -- a node of the path is open
  not_closed : {b j l : ℕ} → At b path j → At (Closed l) places b → ⊥
  not_closed {b} {j} {l} h k = let e : Open j ≡ Closed l = at_same (s.path_open b j h) k in cc

  not_new : {b j : ℕ} → At b path j → At New places b → ⊥
  not_new {b} {j} h k = let e : Open j ≡ New = at_same (s.path_open b j h) k in cc

  one_place : {b i j : ℕ} → At b path i → At b path j → i ≡ j
  one_place {b} {i} {j} h k = let e : Open i ≡ Open j = at_same (s.path_open b i h) (s.path_open b j k) in cc

-- ---- what waits last is taken

module _ {E : ℕ → ℕ → Type 0} {nodes : ℕ} {places : List Standing} {path before : List ℕ} (ahead : List ℕ) (w : ℕ) {groups : List Group} {count : ℕ} {g : Group}
    (s : IsSearch E nodes None places path before groups count) (top : IsTop groups g) (more : g.ahead_start < length before) (popped : before ≡ ahead ++ w ∷ []) where
  one_more : length before ≡ length ahead + 1
  one_more = ap length popped ∙ length-append ahead (w ∷ [])

  was_last : At w before (length ahead)
  was_last = subst (λ (xs : List ℕ). At w xs (length ahead)) (sym popped) (at_last ahead)

  pub taken_reach : AllReach E path w
  taken_reach =
      let q = s.waits w (length ahead) was_last in
      let on = q.shares.back g (at_in top.stands) (omega (arith, more, one_more)) in
      record { each = λ a i h. joined (s.reach a q.source i q.place h q.stands (record { below = λ f m l. let up = path_top s top m in omega (arith, up, on) })) (one_step q.leads) }

  pub taken_within : w < nodes
  taken_within = let q = s.waits w (length ahead) was_last in s.within q.source w q.leads

  led_taken : {i b : ℕ} → Led places path before groups None i b → Led places path ahead groups (Some w) i b
  led_taken (led_closed l h) = led_closed l h
  led_taken (led_held j h k) = led_held j h k
  led_taken {i} {b} (led_waiting t h k) = by (at_end ahead w (subst (λ (xs : List ℕ). At b xs t) popped h))
    where
      by : At b ahead t ⊎ ((b ≡ w) × (t ≡ length ahead)) → Led places path ahead groups (Some w) i b
      by (inl h) = led_waiting t h k
      by (inr e) = led_due (ap Some (sym e.0))
  led_taken (led_due e) = absurd (cc)

  pub taken : IsSearch E nodes (Some w) places path ahead groups count
  taken = record {
    within = s.within;
    sized = s.sized;
    path_open = s.path_open;
    open_path = s.open_path;
    reach = s.reach;
    led = λ a b i h e. led_taken (s.led a b i h e);
    waits = λ b t h. s.waits b t (subst (λ (xs : List ℕ). At b xs t) (sym popped) (at_left (w ∷ []) h));
    covered = s.covered;
    path_rises = s.path_rises;
    ahead_rises = s.ahead_rises;
    path_within = s.path_within;
    ahead_within = λ h m. let up = ahead_top s top m in omega (arith, up, more, one_more);
    closed_led = s.closed_led;
    together = s.together;
    fresh = s.fresh;
    room = s.room;
  }

-- ---- it is closed already

module _ {E : ℕ → ℕ → Type 0} {nodes : ℕ} {places : List Standing} {path ahead : List ℕ} {groups : List Group} {count w l : ℕ}
    (s : IsSearch E nodes (Some w) places path ahead groups count) (there : At (Closed l) places w) where
  led_skipped : {i b : ℕ} → Led places path ahead groups (Some w) i b → Led places path ahead groups None i b
  led_skipped (led_closed l h) = led_closed l h
  led_skipped (led_held j h k) = led_held j h k
  led_skipped (led_waiting t h k) = led_waiting t h k
  led_skipped {b = b} (led_due e) = let same : w ≡ b = cc in led_closed l (subst (λ x. At (Closed l) places x) same there)

  pub skipped : IsSearch E nodes None places path ahead groups count
  skipped = record {
    within = s.within;
    sized = s.sized;
    path_open = s.path_open;
    open_path = s.open_path;
    reach = s.reach;
    led = λ a b i h e. led_skipped (s.led a b i h e);
    waits = s.waits;
    covered = s.covered;
    path_rises = s.path_rises;
    ahead_rises = s.ahead_rises;
    path_within = s.path_within;
    ahead_within = s.ahead_within;
    closed_led = s.closed_led;
    together = s.together;
    fresh = s.fresh;
    room = s.room;
  }

-- ---- it is on the path: what stands behind it becomes one group with it

module _ {E : ℕ → ℕ → Type 0} {nodes : ℕ} {places : List Standing} {path ahead : List ℕ} {groups fewer : List Group} {count w q : ℕ}
    (s : IsSearch E nodes (Some w) places path ahead groups count) (all : AllReach E path w) (there : At (Open q) places w) (m : Merged groups fewer q) where
  held : At w path q
  held = s.open_path w q there

  less_below : {i j : ℕ} → Below groups i j → Below fewer i j
  less_below b = record { below = λ g h l. b.below g (m.only g h).0 l }

  less_shares : {i t : ℕ} → Shares groups i t → Shares fewer i t
  less_shares b = record { onto = λ g h l. b.onto g (m.only g h).0 l; back = λ g h l. b.back g (m.only g h).0 l }

  led_merged : {i b : ℕ} → Led places path ahead groups (Some w) i b → Led places path ahead fewer None i b
  led_merged (led_closed l h) = led_closed l h
  led_merged (led_held j h k) = led_held j h (less_below k)
  led_merged (led_waiting t h k) = led_waiting t h (less_shares k)
  led_merged {b = b} (led_due e) = let same : w ≡ b = cc in led_held q (subst (λ x. At x path q) same held) (record { below = λ g h l. (m.only g h).1 })

  merged_reach : (a b i j : ℕ) → At a path i → At b path j → Below fewer i j → Reaches E a b
  merged_reach a b i j h k below = by (cases_lt i q)
    where
      by : (i < q) ⊎ (q ≤ i) → Reaches E a b
      by (inl l) = s.reach a b i j h k (record { below = λ g among le. below.below g (m.kept g among (omega (arith, l, le))) le })
      by (inr l) = joined (all.each a i h) (s.reach w b q j held k (record { below = λ g among le. below.below g (m.kept g among le) (omega (arith, l, le)) }))

  merged_covered : (a i : ℕ) → At a path i → Covered fewer i
  merged_covered a i h = by (cases_lt i q)
    where
      by : (i < q) ⊎ (q ≤ i) → Covered fewer i
      by (inl l) = let c = s.covered a i h in let begins = c.begins in record { group = c.group; among = m.kept c.group c.among (omega (arith, l, begins)); begins = begins }
      by (inr l) = let c = s.covered w q held in let begins = c.begins in record { group = c.group; among = m.kept c.group c.among begins; begins = omega (arith, l, begins) }

  led_waits : {b t : ℕ} → Waits E path groups b t → Waits E path fewer b t
  led_waits q = record { source = q.source; place = q.place; stands = q.stands; leads = q.leads; shares = less_shares q.shares }

  pub merged : IsSearch E nodes None places path ahead fewer count
  merged = record {
    within = s.within;
    sized = s.sized;
    path_open = s.path_open;
    open_path = s.open_path;
    reach = merged_reach;
    led = λ a b i h e. led_merged (s.led a b i h e);
    waits = λ b t h. led_waits (s.waits b t h);
    covered = merged_covered;
    path_rises = λ g h i j k l. s.path_rises g h i j (m.front g i k) (m.front h j l);
    ahead_rises = λ g h i j k l. s.ahead_rises g h i j (m.front g i k) (m.front h j l);
    path_within = λ g h. s.path_within g (m.only g h).0;
    ahead_within = λ g h. s.ahead_within g (m.only g h).0;
    closed_led = s.closed_led;
    together = s.together;
    fresh = s.fresh;
    room = let r = s.room in omega (arith, r, m.fewer);
  }

-- ---- counting what is new

pub unseen_set : (xs : List Standing) (i : ℕ) {x : Standing} (y : Standing) → At x xs i → unseen (slice_set xs i y) + is_unseen x ≡ unseen xs + is_unseen y
unseen_set [] i y h = absurd (at_none h)
unseen_set (z ∷ xs) zero y first = omega arith
unseen_set (z ∷ xs) (suc i) y (next h) = let rec = unseen_set xs i y h in omega (arith, rec)

-- ---- a node that is new comes to the end of the path

pub same_standing : {places : List Standing} {a b : ℕ} {x y : Standing} → a ≡ b → At x places a → At y places b → x ≡ y
same_standing {places} {a} {b} {x} {y} e h k = at_same (subst (λ n. At x places n) e h) k

module _ {E : ℕ → ℕ → Type 0} {nodes : ℕ} {due : Option ℕ} {places : List Standing} {path ahead : List ℕ} {groups : List Group} {count : ℕ} (w : ℕ) (row : List ℕ) (new : Group)
    (s : IsSearch E nodes due places path ahead groups count) (only_due : (b : ℕ) → due ≡ Some b → b ≡ w) (all : AllReach E path w) (unmet : At New places w)
    (leads : (b : ℕ) → In b row → E w b) (led_by : (b : ℕ) → E w b → In b row) (path_here : new.path_start ≡ length path) (ahead_here : new.ahead_start ≡ length ahead) where
  -- the standing of the node, and of the others
  opened_there : At (Open (length path)) (slice_set places w (Open (length path))) w
  opened_there = at_set unmet

  opened_was : {a : ℕ} {x : Standing} → At x (slice_set places w (Open (length path))) a → (At x places a × (a ≢ w)) ⊎ ((a ≡ w) × (x ≡ Open (length path)))
  opened_was {a} {x} h = by (same_or_not a w)
    where
      by : (a ≡ w) ⊎ (a ≢ w) → (At x places a × (a ≢ w)) ⊎ ((a ≡ w) × (x ≡ Open (length path)))
      by (inl e) = inr (e, same_standing e h opened_there)
      by (inr n) = inl (at_was (Open (length path)) places w h n, n)

  opened_kept : {a : ℕ} {x : Standing} → At x places a → (x ≡ New → ⊥) → At x (slice_set places w (Open (length path))) a
  opened_kept {a} {x} h n = at_other (Open (length path)) w h (λ e. n (same_standing e h unmet))

  among_groups : {g : Group} → In g (groups ++ new ∷ []) → In g groups ⊎ (g ≡ new)
  among_groups {g} h = by (in_split groups (new ∷ []) h)
    where
      by : In g groups ⊎ In g (new ∷ []) → In g groups ⊎ (g ≡ new)
      by (inl k) = inl k
      by (inr k) = inr (in_one k)

  path_start_is : {g : Group} → g ≡ new → g.path_start ≡ length path
  path_start_is e = ap (λ (g : Group). g.path_start) e ∙ path_here

  ahead_start_is : {g : Group} → g ≡ new → g.ahead_start ≡ length ahead
  ahead_start_is e = ap (λ (g : Group). g.ahead_start) e ∙ ahead_here

  below_back : {i j : ℕ} → Below (groups ++ new ∷ []) i j → Below groups i j
  below_back b = record { below = λ g h. b.below g (in_left (new ∷ []) h) }

  below_more : {i j : ℕ} → i < length path → Below groups i j → Below (groups ++ new ∷ []) i j
  below_more {i} {j} l b = record { below = λ g h le. by g le (among_groups h) }
    where
      by : (g : Group) → g.path_start ≤ i → In g groups ⊎ (g ≡ new) → g.path_start ≤ j
      by g le (inl h) = b.below g h le
      by g le (inr e) = let p = path_start_is e in absurd (omega (arith, p, l, le))

  shares_more : {i t : ℕ} → i < length path → t < length ahead → Shares groups i t → Shares (groups ++ new ∷ []) i t
  shares_more {i} {t} l m b = record { onto = λ g h le. onto g le (among_groups h); back = λ g h le. back g le (among_groups h) }
    where
      onto : (g : Group) → g.path_start ≤ i → In g groups ⊎ (g ≡ new) → g.ahead_start ≤ t
      onto g le (inl h) = b.onto g h le
      onto g le (inr e) = let p = path_start_is e in absurd (omega (arith, p, l, le))

      back : (g : Group) → g.ahead_start ≤ t → In g groups ⊎ (g ≡ new) → g.path_start ≤ i
      back g le (inl h) = b.back g h le
      back g le (inr e) = let p = ahead_start_is e in absurd (omega (arith, p, m, le))

  -- what waits behind all else is of the new group
  shares_new : {t : ℕ} → length ahead ≤ t → Shares (groups ++ new ∷ []) (length path) t
  shares_new {t} l = record { onto = λ g h le. onto g (among_groups h); back = λ g h le. back g (among_groups h) }
    where
      onto : (g : Group) → In g groups ⊎ (g ≡ new) → g.ahead_start ≤ t
      onto g (inl h) = let p = s.ahead_within g h in omega (arith, p, l)
      onto g (inr e) = let p = ahead_start_is e in omega (arith, p, l)

      back : (g : Group) → In g groups ⊎ (g ≡ new) → g.path_start ≤ length path
      back g (inl h) = s.path_within g h
      back g (inr e) = let p = path_start_is e in omega (arith, p)

  opened_path_open : (a i : ℕ) → At a (path ++ w ∷ []) i → At (Open i) (slice_set places w (Open (length path))) a
  opened_path_open a i h = by (at_end path w h)
    where
      by : At a path i ⊎ ((a ≡ w) × (i ≡ length path)) → At (Open i) (slice_set places w (Open (length path))) a
      by (inl k) = opened_kept (s.path_open a i k) (λ e. cc)
      by (inr e) = subst (λ n. At (Open i) (slice_set places w (Open (length path))) n) (sym e.0) (subst (λ (n : ℕ). At (Open n) (slice_set places w (Open (length path))) w) (sym e.1) opened_there)

  opened_open_path : (a i : ℕ) → At (Open i) (slice_set places w (Open (length path))) a → At a (path ++ w ∷ []) i
  opened_open_path a i h = by (opened_was h)
    where
      by : (At (Open i) places a × (a ≢ w)) ⊎ ((a ≡ w) × (Open i ≡ Open (length path))) → At a (path ++ w ∷ []) i
      by (inl k) = at_left (w ∷ []) (s.open_path a i k.0)
      by (inr e) =
          let place : i ≡ length path = let f : Open i ≡ Open (length path) = e.1 in cc in
          subst (λ n. At n (path ++ w ∷ []) i) (sym e.0) (subst (λ n. At w (path ++ w ∷ []) n) (sym place) (at_last path))

  opened_reach : (a b i j : ℕ) → At a (path ++ w ∷ []) i → At b (path ++ w ∷ []) j → Below (groups ++ new ∷ []) i j → Reaches E a b
  opened_reach a b i j h k below = by (at_end path w h) (at_end path w k)
    where
      by : At a path i ⊎ ((a ≡ w) × (i ≡ length path)) → At b path j ⊎ ((b ≡ w) × (j ≡ length path)) → Reaches E a b
      by (inl h') (inl k') = s.reach a b i j h' k' (below_back below)
      by (inl h') (inr e) = subst (λ x. Reaches E a x) (sym e.0) (all.each a i h')
      by (inr e) (inl k') = let l = at_within k' in let le = below.below new (in_right groups here) (omega (arith, path_here, e.1)) in absurd (omega (arith, l, le, path_here))
      by (inr e) (inr f) = subst (λ x. Reaches E a x) (e.0 ∙ sym f.0) stay

  led_old : {i b : ℕ} → i < length path → Led places path ahead groups due i b → Led (slice_set places w (Open (length path))) (path ++ w ∷ []) (ahead ++ row) (groups ++ new ∷ []) None i b
  led_old l (led_closed label h) = led_closed label (opened_kept h (λ e. cc))
  led_old l (led_held j h k) = led_held j (at_left (w ∷ []) h) (below_more l k)
  led_old l (led_waiting t h k) = led_waiting t (at_left row h) (shares_more l (at_within h) k)
  led_old {i} {b} l (led_due e) =
      led_held (length path) (subst (λ x. At x (path ++ w ∷ []) (length path)) (sym (only_due b e)) (at_last path)) (record { below = λ g h le. omega (arith, le, l) })

  led_new : {b : ℕ} → In b row → Led (slice_set places w (Open (length path))) (path ++ w ∷ []) (ahead ++ row) (groups ++ new ∷ []) None (length path) b
  led_new h = let p = in_at h in led_waiting (length ahead + p.place) (at_behind ahead p.stands) (shares_new (omega arith))

  opened_led : (a b i : ℕ) → At a (path ++ w ∷ []) i → E a b → Led (slice_set places w (Open (length path))) (path ++ w ∷ []) (ahead ++ row) (groups ++ new ∷ []) None i b
  opened_led a b i h e = by (at_end path w h)
    where
      by : At a path i ⊎ ((a ≡ w) × (i ≡ length path)) → Led (slice_set places w (Open (length path))) (path ++ w ∷ []) (ahead ++ row) (groups ++ new ∷ []) None i b
      by (inl k) = led_old (at_within k) (s.led a b i k e)
      by (inr f) = subst (λ n. Led (slice_set places w (Open (length path))) (path ++ w ∷ []) (ahead ++ row) (groups ++ new ∷ []) None n b) (sym f.1) (led_new (led_by b (subst (λ x. E x b) f.0 e)))

  waits_old : {b t : ℕ} → t < length ahead → Waits E path groups b t → Waits E (path ++ w ∷ []) (groups ++ new ∷ []) b t
  waits_old l q = record { source = q.source; place = q.place; stands = at_left (w ∷ []) q.stands; leads = q.leads; shares = shares_more (at_within q.stands) l q.shares }

  opened_waits : (b t : ℕ) → At b (ahead ++ row) t → Waits E (path ++ w ∷ []) (groups ++ new ∷ []) b t
  opened_waits b t h = by (at_split ahead row h)
    where
      by : At b ahead t ⊎ Behind b ahead row t → Waits E (path ++ w ∷ []) (groups ++ new ∷ []) b t
      by (inl k) = waits_old (at_within k) (s.waits b t k)
      by (inr k) = let is = k.is in record { source = w; place = length path; stands = at_last path; leads = leads b (at_in k.stands); shares = shares_new (omega (arith, is)) }

  covered_old : {i : ℕ} → Covered groups i → Covered (groups ++ new ∷ []) i
  covered_old c = record { group = c.group; among = in_left (new ∷ []) c.among; begins = c.begins }

  opened_covered : (a i : ℕ) → At a (path ++ w ∷ []) i → Covered (groups ++ new ∷ []) i
  opened_covered a i h = by (at_end path w h)
    where
      by : At a path i ⊎ ((a ≡ w) × (i ≡ length path)) → Covered (groups ++ new ∷ []) i
      by (inl k) = covered_old (s.covered a i k)
      by (inr e) = record { group = new; among = in_right groups here; begins = omega (arith, path_here, e.1) }

  opened_path_rises : (g h : Group) (i j : ℕ) → At g (groups ++ new ∷ []) i → At h (groups ++ new ∷ []) j → i ≤ j → g.path_start ≤ h.path_start
  opened_path_rises g h i j k m l = by (at_end groups new k) (at_end groups new m)
    where
      by : At g groups i ⊎ ((g ≡ new) × (i ≡ length groups)) → At h groups j ⊎ ((h ≡ new) × (j ≡ length groups)) → g.path_start ≤ h.path_start
      by (inl x) (inl y) = s.path_rises g h i j x y l
      by (inl x) (inr y) = let p = s.path_within g (at_in x) in let q = path_start_is y.0 in omega (arith, p, q)
      by (inr x) (inl y) = let p = at_within y in absurd (omega (arith, p, x.1, l))
      by (inr x) (inr y) = let p = path_start_is x.0 in let q = path_start_is y.0 in omega (arith, p, q)

  opened_ahead_rises : (g h : Group) (i j : ℕ) → At g (groups ++ new ∷ []) i → At h (groups ++ new ∷ []) j → i ≤ j → g.ahead_start ≤ h.ahead_start
  opened_ahead_rises g h i j k m l = by (at_end groups new k) (at_end groups new m)
    where
      by : At g groups i ⊎ ((g ≡ new) × (i ≡ length groups)) → At h groups j ⊎ ((h ≡ new) × (j ≡ length groups)) → g.ahead_start ≤ h.ahead_start
      by (inl x) (inl y) = s.ahead_rises g h i j x y l
      by (inl x) (inr y) = let p = s.ahead_within g (at_in x) in let q = ahead_start_is y.0 in omega (arith, p, q)
      by (inr x) (inl y) = let p = at_within y in absurd (omega (arith, p, x.1, l))
      by (inr x) (inr y) = let p = ahead_start_is x.0 in let q = ahead_start_is y.0 in omega (arith, p, q)

  opened_path_within : (g : Group) → In g (groups ++ new ∷ []) → g.path_start ≤ length (path ++ w ∷ [])
  opened_path_within g h = by (among_groups h)
    where
      longer : length (path ++ w ∷ []) ≡ length path + 1
      longer = length-append path (w ∷ [])

      by : In g groups ⊎ (g ≡ new) → g.path_start ≤ length (path ++ w ∷ [])
      by (inl k) = let p = s.path_within g k in omega (arith, p, longer)
      by (inr e) = let p = path_start_is e in omega (arith, p, longer)

  opened_ahead_within : (g : Group) → In g (groups ++ new ∷ []) → g.ahead_start ≤ length (ahead ++ row)
  opened_ahead_within g h = by (among_groups h)
    where
      longer : length (ahead ++ row) ≡ length ahead + length row
      longer = length-append ahead row

      by : In g groups ⊎ (g ≡ new) → g.ahead_start ≤ length (ahead ++ row)
      by (inl k) = let p = s.ahead_within g k in omega (arith, p, longer)
      by (inr e) = let p = ahead_start_is e in omega (arith, p, longer)

  closed_was : {a l : ℕ} → At (Closed l) (slice_set places w (Open (length path))) a → At (Closed l) places a
  closed_was {a} {l} h = by (opened_was h)
    where
      by : (At (Closed l) places a × (a ≢ w)) ⊎ ((a ≡ w) × (Closed l ≡ Open (length path))) → At (Closed l) places a
      by (inl k) = k.0
      by (inr e) = let f : Closed l ≡ Open (length path) = e.1 in absurd (cc)

  closed_kept : {l b : ℕ} → ClosedBelow places l b → ClosedBelow (slice_set places w (Open (length path))) l b
  closed_kept c = record { label = c.label; stands = opened_kept c.stands (λ e. cc); falls = c.falls }

  pub opened_unseen : unseen (slice_set places w (Open (length path))) + 1 ≡ unseen places
  opened_unseen = let n = unseen_set places w (Open (length path)) unmet in omega (arith, n)

  pub opened_fewer : FewerNew places (slice_set places w (Open (length path)))
  opened_fewer = record { fewer = λ a h. by a (opened_was h) }
    where
      by : (a : ℕ) → (At New places a × (a ≢ w)) ⊎ ((a ≡ w) × (New ≡ Open (length path))) → At New places a
      by a (inl k) = k.0
      by a (inr e) = let f : New ≡ Open (length path) = e.1 in absurd (cc)

  pub opened_met : At New (slice_set places w (Open (length path))) w → ⊥
  opened_met h = let e : New ≡ Open (length path) = at_same h opened_there in cc

  pub opened : IsSearch E nodes None (slice_set places w (Open (length path))) (path ++ w ∷ []) (ahead ++ row) (groups ++ new ∷ []) count
  opened = record {
    within = s.within;
    sized = length-set places w (Open (length path)) ∙ s.sized;
    path_open = opened_path_open;
    open_path = opened_open_path;
    reach = opened_reach;
    led = opened_led;
    waits = opened_waits;
    covered = opened_covered;
    path_rises = opened_path_rises;
    ahead_rises = opened_ahead_rises;
    path_within = opened_path_within;
    ahead_within = opened_ahead_within;
    closed_led = λ a b l h e. closed_kept (s.closed_led a b l (closed_was h) e);
    together = λ a b l h k. s.together a b l (closed_was h) (closed_was k);
    fresh = λ a l h. s.fresh a l (closed_was h);
    room = let r = s.room in let longer = length-append groups (new ∷ []) in omega (arith, r, longer, opened_unseen);
  }

-- ---- the last group is closed

module _ {E : ℕ → ℕ → Type 0} {nodes : ℕ} {places new : List Standing} {path : List ℕ} (front tail : List ℕ) {ahead : List ℕ} {groups : List Group} (rest : List Group) {count : ℕ} {g : Group}
    (s : IsSearch E nodes None places path ahead groups count) (top : IsTop groups g) (no_more : length ahead ≤ g.ahead_start)
    (marks : Closes places new path g.path_start count) (cut : path ≡ front ++ tail) (short : length front ≡ g.path_start) (popped : groups ≡ rest ++ g ∷ []) where
  front_path : {a i : ℕ} → At a front i → At a path i
  front_path {a} {i} h = subst (λ (xs : List ℕ). At a xs i) (sym cut) (at_left tail h)

  path_front : {a i : ℕ} → At a path i → (At a front i) ⊎ (g.path_start ≤ i)
  path_front {a} {i} h = by (cases_lt i (length front))
    where
      by : (i < length front) ⊎ (length front ≤ i) → (At a front i) ⊎ (g.path_start ≤ i)
      by (inl l) = inl (at_front front tail (subst (λ (xs : List ℕ). At a xs i) cut h) l)
      by (inr l) = inr (omega (arith, l, short))

  rest_groups : {h : Group} → In h rest → In h groups
  rest_groups {h} m = subst (λ (xs : List Group). In h xs) (sym popped) (in_left (g ∷ []) m)

  rest_at : {h : Group} {i : ℕ} → At h rest i → At h groups i
  rest_at {h} {i} m = subst (λ (xs : List Group). At h xs i) (sym popped) (at_left (g ∷ []) m)

  groups_rest : {h : Group} → In h groups → In h rest ⊎ (h ≡ g)
  groups_rest {h} m = by (in_split rest (g ∷ []) (subst (λ (xs : List Group). In h xs) popped m))
    where
      by : In h rest ⊎ In h (g ∷ []) → In h rest ⊎ (h ≡ g)
      by (inl k) = inl k
      by (inr k) = inr (in_one k)

  start_is : {h : Group} → h ≡ g → h.path_start ≡ g.path_start
  start_is e = ap (λ (h : Group). h.path_start) e

  -- what is not of the group stays
  open_kept : {a i : ℕ} → At a front i → InTail path g.path_start a → ⊥
  open_kept h t = let same = one_place s (front_path h) t.stands in let l = at_within h in let from = t.from in omega (arith, same, l, from, short)

  label_kept : {b l : ℕ} → At (Closed l) places b → At (Closed l) new b
  label_kept {b} {l} h = marks.kept b (Closed l) h (λ t. not_closed s t.stands h)

  below_rest : {i j : ℕ} → Below groups i j → Below rest i j
  below_rest b = record { below = λ h m. b.below h (rest_groups m) }

  shares_rest : {i t : ℕ} → Shares groups i t → Shares rest i t
  shares_rest b = record { onto = λ h m. b.onto h (rest_groups m); back = λ h m. b.back h (rest_groups m) }

  below_front : {i j : ℕ} → i < length front → Below rest i j → Below groups i j
  below_front {i} {j} l b = record { below = λ h m le. by h le (groups_rest m) }
    where
      by : (h : Group) → h.path_start ≤ i → In h rest ⊎ (h ≡ g) → h.path_start ≤ j
      by h le (inl m) = b.below h m le
      by h le (inr e) = let p = start_is e in absurd (omega (arith, p, l, le, short))

  -- all of the group reach each other
  below_tail : {i j : ℕ} → g.path_start ≤ j → Below groups i j
  below_tail l = record { below = λ h m le. let p = path_top s top m in omega (arith, p, l) }

  closed_open_path : (a i : ℕ) → At (Open i) new a → At a front i
  closed_open_path a i h = by (marks.only a (Open i) h)
    where
      from : At a path i → (At a front i) ⊎ (g.path_start ≤ i) → At a front i
      from k (inl m) = m
      from k (inr l) = let e : Open i ≡ Closed count = at_same h (marks.closed a i k l) in absurd (cc)

      by : At (Open i) places a ⊎ ((Open i ≡ Closed count) × InTail path g.path_start a) → At a front i
      by (inl k) = let on = s.open_path a i k in from on (path_front on)
      by (inr e) = let f : Open i ≡ Closed count = e.0 in absurd (cc)

  led_front : {i b : ℕ} → Led places path ahead groups None i b → Led new front ahead rest None i b
  led_front (led_closed l h) = led_closed l (label_kept h)
  led_front {i} {b} (led_held j h k) = by (path_front h)
    where
      by : (At b front j) ⊎ (g.path_start ≤ j) → Led new front ahead rest None i b
      by (inl m) = led_held j m (below_rest k)
      by (inr l) = led_closed count (marks.closed b j h l)
  led_front (led_waiting t h k) = led_waiting t h (shares_rest k)
  led_front (led_due e) = absurd (cc)

  waits_front : {b t : ℕ} → t < length ahead → Waits E path groups b t → Waits E front rest b t
  waits_front {b} {t} l q = by (path_front q.stands)
    where
      by : (At q.source front q.place) ⊎ (g.path_start ≤ q.place) → Waits E front rest b t
      by (inl m) = record { source = q.source; place = q.place; stands = m; leads = q.leads; shares = shares_rest q.shares }
      by (inr le) = let on = q.shares.onto g (at_in top.stands) le in absurd (omega (arith, on, l, no_more))

  covered_front : {i : ℕ} → i < length front → Covered groups i → Covered rest i
  covered_front {i} l c = by (groups_rest c.among)
    where
      by : In c.group rest ⊎ (c.group ≡ g) → Covered rest i
      by (inl m) = record { group = c.group; among = m; begins = c.begins }
      by (inr e) = let p = start_is e in let b = c.begins in absurd (omega (arith, p, b, l, short))

  -- what an edge of the group leads to
  led_tail : {i b : ℕ} → g.path_start ≤ i → Led places path ahead groups None i b → ClosedBelow new count b
  led_tail {b = b} le (led_closed l h) = let f = s.fresh b l h in record { label = l; stands = label_kept h; falls = omega (arith, f) }
  led_tail {b = b} le (led_held j h k) = record { label = count; stands = marks.closed b j h (k.below g (at_in top.stands) le); falls = omega arith }
  led_tail le (led_waiting t h k) = let on = k.onto g (at_in top.stands) le in let l = at_within h in absurd (omega (arith, on, l, no_more))
  led_tail le (led_due e) = absurd (cc)

  closed_below : {l b : ℕ} → ClosedBelow places l b → ClosedBelow new l b
  closed_below c = record { label = c.label; stands = label_kept c.stands; falls = c.falls }

  closed_closed_led : (a b l : ℕ) → At (Closed l) new a → E a b → ClosedBelow new l b
  closed_closed_led a b l h e = by (marks.only a (Closed l) h)
    where
      by : At (Closed l) places a ⊎ ((Closed l ≡ Closed count) × InTail path g.path_start a) → ClosedBelow new l b
      by (inl k) = closed_below (s.closed_led a b l k e)
      by (inr t) =
          let same : count ≡ l = let f : Closed l ≡ Closed count = t.0 in cc in
          subst (λ n. ClosedBelow new n b) same (led_tail t.1.from (s.led a b t.1.place t.1.stands e))

  closed_together : (a b l : ℕ) → At (Closed l) new a → At (Closed l) new b → Reaches E a b
  closed_together a b l h k = by (marks.only a (Closed l) h) (marks.only b (Closed l) k)
    where
      by : At (Closed l) places a ⊎ ((Closed l ≡ Closed count) × InTail path g.path_start a) → At (Closed l) places b ⊎ ((Closed l ≡ Closed count) × InTail path g.path_start b) → Reaches E a b
      by (inl x) (inl y) = s.together a b l x y
      by (inl x) (inr y) = let n : l ≡ count = let f : Closed l ≡ Closed count = y.0 in cc in let f = s.fresh a l x in absurd (omega (arith, n, f))
      by (inr x) (inl y) = let n : l ≡ count = let f : Closed l ≡ Closed count = x.0 in cc in let f = s.fresh b l y in absurd (omega (arith, n, f))
      by (inr x) (inr y) = s.reach a b x.1.place y.1.place x.1.stands y.1.stands (below_tail y.1.from)

  closed_fresh : (a l : ℕ) → At (Closed l) new a → l < count + 1
  closed_fresh a l h = by (marks.only a (Closed l) h)
    where
      by : At (Closed l) places a ⊎ ((Closed l ≡ Closed count) × InTail path g.path_start a) → l < count + 1
      by (inl k) = let f = s.fresh a l k in omega (arith, f)
      by (inr t) = let n : l ≡ count = let f : Closed l ≡ Closed count = t.0 in cc in omega (arith, n)

  pub one_group : length groups ≡ length rest + 1
  one_group = ap length popped ∙ length-append rest (g ∷ [])

  pub closed_fewer : FewerNew places new
  closed_fewer = record { fewer = λ a h. by a (marks.only a New h) }
    where
      by : (a : ℕ) → At New places a ⊎ ((New ≡ Closed count) × InTail path g.path_start a) → At New places a
      by a (inl k) = k
      by a (inr t) = let f : New ≡ Closed count = t.0 in absurd (cc)

  pub closed : IsSearch E nodes None new front ahead rest (count + 1)
  closed = record {
    within = s.within;
    sized = marks.sized ∙ s.sized;
    path_open = λ a i h. marks.kept a (Open i) (s.path_open a i (front_path h)) (open_kept h);
    open_path = closed_open_path;
    reach = λ a b i j h k below. s.reach a b i j (front_path h) (front_path k) (below_front (at_within h) below);
    led = λ a b i h e. led_front (s.led a b i (front_path h) e);
    waits = λ b t h. waits_front (at_within h) (s.waits b t h);
    covered = λ a i h. covered_front (at_within h) (s.covered a i (front_path h));
    path_rises = λ h k i j m n. s.path_rises h k i j (rest_at m) (rest_at n);
    ahead_rises = λ h k i j m n. s.ahead_rises h k i j (rest_at m) (rest_at n);
    path_within = λ h m. let p = path_top s top (rest_groups m) in omega (arith, p, short);
    ahead_within = λ h m. s.ahead_within h (rest_groups m);
    closed_led = closed_closed_led;
    together = closed_together;
    fresh = closed_fresh;
    room = let r = s.room in omega (arith, r, one_group, marks.unseen);
  }

-- ---- the steps as the functions make them

pub load_open : (u u' a a' g g' r : ℕ) → u' + 1 ≡ u → a' ≡ a + r → g' ≡ g + 1 → r < 2 ^ 64 → u' * 2 ^ 64 + (a' + g') ≤ u * 2 ^ 64 + (a + g)
load_open u u' a a' g g' r eu ea eg l = omega arith

pub record OpenStep (E : ℕ → ℕ → Type 0) (nodes : ℕ) (before places : List Standing) (path ahead : List ℕ) (groups : List Group) (count w : ℕ) : Type 0 where
  pub state : IsSearch E nodes None places path ahead groups count
  pub fewer : FewerNew before places
  pub met : At New places w → ⊥
  pub seen : unseen places + 1 ≡ unseen before

pub open_step : {E : ℕ → ℕ → Type 0} {nodes : ℕ} {due : Option ℕ} {before : List Standing} {path ahead : List ℕ} {groups : List Group} {count : ℕ} (w : ℕ) (row : List ℕ) (new : Group)
    → (places : List Standing) (path' ahead' : List ℕ) (groups' : List Group)
    → IsSearch E nodes due before path ahead groups count → ((b : ℕ) → due ≡ Some b → b ≡ w) → AllReach E path w → At New before w
    → ((b : ℕ) → In b row → E w b) → ((b : ℕ) → E w b → In b row) → new.path_start ≡ length path → new.ahead_start ≡ length ahead
    → places ≡ slice_set before w (Open new.path_start) → path' ≡ path ++ w ∷ [] → ahead' ≡ ahead ++ row → groups' ≡ groups ++ new ∷ []
    → OpenStep E nodes before places path' ahead' groups' count w
open_step {E} {nodes} {due} {before} {path} {ahead} {groups} {count} w row new places path' ahead' groups' s only_due all unmet leads led_by ph ah e1 e2 e3 e4 =
    let e : places ≡ slice_set before w (Open (length path)) = e1 ∙ ap (λ n. slice_set before w (Open n)) ph in
    subst (λ x. OpenStep E nodes before x path' ahead' groups' count w) (sym e)
    (subst (λ x. OpenStep E nodes before (slice_set before w (Open (length path))) x ahead' groups' count w) (sym e2)
    (subst (λ x. OpenStep E nodes before (slice_set before w (Open (length path))) (path ++ w ∷ []) x groups' count w) (sym e3)
    (subst (λ x. OpenStep E nodes before (slice_set before w (Open (length path))) (path ++ w ∷ []) (ahead ++ row) x count w) (sym e4)
    (record {
      state = opened w row new s only_due all unmet leads led_by ph ah;
      fewer = opened_fewer w row new s only_due all unmet leads led_by ph ah;
      met = opened_met w row new s only_due all unmet leads led_by ph ah;
      seen = opened_unseen w row new s only_due all unmet leads led_by ph ah;
    }))))

pub popped_top : {groups : List Group} {g : Group} (rest : List Group) (last : Option Group) → IsTop groups g
    → MatchOption last ((groups ≡ []) × (rest ≡ [])) (λ x. groups ≡ rest ++ x ∷ []) → groups ≡ rest ++ g ∷ []
popped_top {groups} {g} rest None top e = absurd (at_none (subst (λ (xs : List Group). At g xs top.at) e.0 top.stands))
popped_top {groups} {g} rest (Some x) top e =
    let shorter : length groups ≡ length rest + 1 = ap length e ∙ length-append rest (x ∷ []) in
    let place : length rest ≡ top.at = let c = top.counted in omega (arith, c, shorter) in
    let here : At x groups (length rest) = subst (λ (xs : List Group). At x xs (length rest)) (sym e) (at_last rest) in
    let same : x ≡ g = at_same (subst (λ (n : ℕ). At x groups n) place here) top.stands in
    e ∙ ap (λ y. rest ++ y ∷ []) same

pub one_shorter : {A : Type 0} {old : List A} (new : List A) (x : A) → old ≡ new ++ x ∷ [] → length new < length old
one_shorter new x e = let n = ap length e ∙ length-append new (x ∷ []) in omega (arith, n)

pub none_reach : {E : ℕ → ℕ → Type 0} {nodes : ℕ} {due : Option ℕ} {places : List Standing} {path ahead : List ℕ} {groups : List Group} {count : ℕ} (w : ℕ) → IsSearch E nodes due places path ahead groups count → groups ≡ [] → AllReach E path w
none_reach w s e = record { each = λ a i h. let c = s.covered a i h in absurd (in_none (subst (λ (xs : List Group). In c.group xs) e c.among)) }

pub close_step : {E : ℕ → ℕ → Type 0} {nodes : ℕ} {before places : List Standing} {path : List ℕ} (path' : List ℕ) {ahead : List ℕ} (ahead' : List ℕ) {groups : List Group} (rest : List Group) {count : ℕ} (count' : ℕ) {g : Group}
    → IsSearch E nodes None before path ahead groups count → IsTop groups g → length ahead ≤ g.ahead_start → Closes before places path g.path_start count
    → path' ≡ take g.path_start path → ahead' ≡ ahead → groups ≡ rest ++ g ∷ [] → count' ≡ count
    → IsSearch E nodes None places path' ahead' rest (count' + 1)
close_step {E} {nodes} {before} {places} {path} path' {ahead} ahead' {groups} rest {count} count' {g} s top no_more marks ep ea eg ec =
    let m = g.path_start in
    let within = s.path_within g (at_in top.stands) in
    let short : length (take m path) ≡ m = length-take-le m path within in
    subst (λ (x : List ℕ). IsSearch E nodes None places x ahead' rest (count' + 1)) (sym ep)
    (subst (λ (x : List ℕ). IsSearch E nodes None places (take m path) x rest (count' + 1)) (sym ea)
    (subst (λ (x : ℕ). IsSearch E nodes None places (take m path) ahead rest (x + 1)) (sym ec)
    (closed (take m path) (drop m path) rest s top no_more marks (sym (take-append-drop m path)) short eg)))
