-- The home that the pass over rows finds for a class is that of the class's members.
use Rattle.std.proofs.Common.{◌≡◌, ℕ, suc, ◌+◌, ◌<◌, ◌≤◌, ◌⊎◌, inl, inr, Bool, true, false, List, [], ◌∷◌, ◌++◌, length, Option, None, Some, refl, sym, ap, subst, ◌∙◌, arith, append_assoc}
use Rattle.std.specs.Prelude.{◌==◌, ◌||◌, ◌&&◌, fold, if◌then◌else◌, nat_lt, replicate}
use Rattle.std.specs.Option.{option_map}
use Rattle.std.proofs.lemmas.Bool.{ltb-false, ltb-true}
use Rattle.std.proofs.lemmas.Bool.Decides.{eqb_tells}
use Rattle.std.proofs.lemmas.List.{length-map}
use Rattle.finite_graphs.specs.Walks.{At, In, first, here, next, there}
use Rattle.finite_graphs.proofs.Lists.{Mapped, at_map, at_none, at_within, in_none, in_one, in_right, in_left, in_split, last_read}
use Rattle.alias_merge.specs.declared.homes.Home.{Home}
use Rattle.alias_merge.specs.declared.homes.Seat.{Seat}
use Rattle.alias_merge.specs.declared.rows.MemberRow.{MemberRow}
use Rattle.alias_merge.specs.Choosing.{number_is}
use Rattle.alias_merge.specs.ClassHomes.{AreHomes, IsHomeAt, IsMember}
use Rattle.alias_merge.specs.Homes.{NumberedRow, home_of, homes_of, is_fewer, label_of_row, numbered_rows, seat_of, seats_of, sit_row, with_fewest, with_first}
use Rattle.alias_merge.specs.Rows.{is_before}
use Rattle.alias_merge.proofs.Choices.{replicate_sized, replicated}
use Rattle.alias_merge.proofs.CircleMarks.{get_at}
use Rattle.alias_merge.proofs.Filters.{filter_in, in_filter}
use Rattle.alias_merge.proofs.Grouping.{grouped_get, grouped_sized, of_number}
use Rattle.alias_merge.proofs.Orders.{instance_order, not_sooner}

-- ---- the first of some rows, and the one with the fewest repeaters

record Leads (xs : List NumberedRow) (s : Seat) : Type 0 where
  row : NumberedRow
  among : In row xs
  number : s.first ≡ row.number
  key : s.first_key ≡ row.row.key
  none : (y : NumberedRow) → In y xs → is_before y.row.key s.first_key ≡ false

record Hosts (xs : List NumberedRow) (s : Seat) : Type 0 where
  row : NumberedRow
  among : In row xs
  element : s.element ≡ row.row.element
  repeaters : s.repeaters ≡ row.row.repeaters
  key : s.key ≡ row.row.key
  fewest : (y : NumberedRow) → In y xs → s.repeaters ≤ y.row.repeaters
  none : (y : NumberedRow) → In y xs → y.row.repeaters ≡ s.repeaters → is_before y.row.key s.key ≡ false

record Seats (xs : List NumberedRow) (s : Seat) : Type 0 where
  leads : Leads xs s
  hosts : Hosts xs s

-- a row has fewer repeaters than a seat, or as many and comes sooner
abbrev Fewer : MemberRow → Seat → Type 0
Fewer r s = (r.repeaters < s.repeaters) ⊎ ((r.repeaters ≡ s.repeaters) × (is_before r.key s.key ≡ true))

record NotFewer (r : MemberRow) (s : Seat) : Type 0 where
  many : s.repeaters ≤ r.repeaters
  behind : r.repeaters ≡ s.repeaters → is_before r.key s.key ≡ false

seconds : (m n : ℕ) (less before : Bool) → nat_lt m n ≡ less → (((m == n) ≡ true) × (m ≡ n)) ⊎ (((m == n) ≡ false) × (m ≡ n → ⊥)) → (less || ((m == n) && before)) ≡ true → (m < n) ⊎ ((m ≡ n) × (before ≡ true))
seconds m n true before l e t = inl (ltb-true m n l)
seconds m n false before l (inl e) t = inr (e.1, sym (ap (λ (b : Bool). b && before) e.0) ∙ t)
seconds m n false before l (inr e) t = let f : false ≡ true = sym (ap (λ (b : Bool). b && before) e.0) ∙ t in absurd (cc)

not_seconds : (m n : ℕ) (less before : Bool) → nat_lt m n ≡ less → (((m == n) ≡ true) × (m ≡ n)) ⊎ (((m == n) ≡ false) × (m ≡ n → ⊥)) → (less || ((m == n) && before)) ≡ false → (n ≤ m) × (m ≡ n → before ≡ false)
not_seconds m n true before l e t = absurd (cc)
not_seconds m n false before l (inl e) t = (ltb-false m n l, λ k. sym (ap (λ (b : Bool). b && before) e.0) ∙ t)
not_seconds m n false before l (inr e) t = (ltb-false m n l, λ k. absurd (e.1 k))

module _ (xs : List NumberedRow) (x : NumberedRow) where
  either_in : {y : NumberedRow} → (P : Type 0) → (In y xs → P) → (y ≡ x → P) → In y (xs ++ x ∷ []) → P
  either_in P f g h = elim (in_split xs (x ∷ []) h) [ inl a ↦ f a | inr b ↦ g (in_one b) ]

  is_last : In x (xs ++ x ∷ [])
  is_last = in_right xs here

  -- ---- the first row

  abbrev led_by : Seat → Seat
  led_by s = record s { first = x.number; first_key = x.row.key }

  leads_now : (s : Seat) → Leads xs s → is_before x.row.key s.first_key ≡ true → Leads (xs ++ x ∷ []) (led_by s)
  leads_now s h sooner = record {
    row = x;
    among = is_last;
    number = refl;
    key = refl;
    none = λ y k. either_in (is_before y.row.key x.row.key ≡ false) (λ a. not_sooner instance_order x.row.key s.first_key y.row.key sooner (h.none y a))
        (λ e. ap (λ (z : NumberedRow). is_before z.row.key x.row.key) e ∙ instance_order.itself x.row.key) k;
  }

  leads_still : (s : Seat) → Leads xs s → is_before x.row.key s.first_key ≡ false → Leads (xs ++ x ∷ []) s
  leads_still s h later = record {
    row = h.row;
    among = in_left (x ∷ []) h.among;
    number = h.number;
    key = h.key;
    none = λ y k. either_in (is_before y.row.key s.first_key ≡ false) (h.none y) (λ e. ap (λ (z : NumberedRow). is_before z.row.key s.first_key) e ∙ later) k;
  }

  leads_with : (s : Seat) (b : Bool) → is_before x.row.key s.first_key ≡ b → Leads xs s → Leads (xs ++ x ∷ []) (if b then led_by s else s)
  leads_with s true e h = leads_now s h e
  leads_with s false e h = leads_still s h e

  -- the host stays the same
  host_stays : (s : Seat) (b : Bool) → Hosts xs s → Hosts xs (if b then led_by s else s)
  host_stays s true h = record { row = h.row; among = h.among; element = h.element; repeaters = h.repeaters; key = h.key; fewest = h.fewest; none = h.none }
  host_stays s false h = h

  -- ---- the row with the fewest repeaters

  abbrev hosted_by : Seat → Seat
  hosted_by s = record s { element = x.row.element; repeaters = x.row.repeaters; key = x.row.key }

  fewest_now : (s : Seat) → Hosts xs s → Fewer x.row s → (y : NumberedRow) → In y xs → x.row.repeaters ≤ y.row.repeaters
  fewest_now s h (inl l) y k = let m = h.fewest y k in omega (arith, l, m)
  fewest_now s h (inr l) y k = let m = h.fewest y k in let e = l.0 in omega (arith, e, m)

  none_now : (s : Seat) → Hosts xs s → Fewer x.row s → (y : NumberedRow) → In y xs → y.row.repeaters ≡ x.row.repeaters → is_before y.row.key x.row.key ≡ false
  none_now s h (inl l) y k e = let m = h.fewest y k in absurd (omega (arith, l, m, e))
  none_now s h (inr l) y k e = not_sooner instance_order x.row.key s.key y.row.key l.1 (h.none y k (e ∙ l.0))

  hosts_now : (s : Seat) → Hosts xs s → Fewer x.row s → Hosts (xs ++ x ∷ []) (hosted_by s)
  hosts_now s h fewer = record {
    row = x;
    among = is_last;
    element = refl;
    repeaters = refl;
    key = refl;
    fewest = λ y k. either_in (x.row.repeaters ≤ y.row.repeaters) (fewest_now s h fewer y) (λ e. let r : y.row.repeaters ≡ x.row.repeaters = ap (λ (z : NumberedRow). z.row.repeaters) e in omega (arith, r)) k;
    none = λ y k r. either_in (is_before y.row.key x.row.key ≡ false) (λ a. none_now s h fewer y a r)
        (λ e. ap (λ (z : NumberedRow). is_before z.row.key x.row.key) e ∙ instance_order.itself x.row.key) k;
  }

  hosts_still : (s : Seat) → Hosts xs s → NotFewer x.row s → Hosts (xs ++ x ∷ []) s
  hosts_still s h not_fewer = record {
    row = h.row;
    among = in_left (x ∷ []) h.among;
    element = h.element;
    repeaters = h.repeaters;
    key = h.key;
    fewest = λ y k. either_in (s.repeaters ≤ y.row.repeaters) (h.fewest y) (λ e. let r : y.row.repeaters ≡ x.row.repeaters = ap (λ (z : NumberedRow). z.row.repeaters) e in let m = not_fewer.many in omega (arith, r, m)) k;
    none = λ y k r. either_in (is_before y.row.key s.key ≡ false) (λ a. h.none y a r)
        (λ e. ap (λ (z : NumberedRow). is_before z.row.key s.key) e ∙ not_fewer.behind (sym (ap (λ (z : NumberedRow). z.row.repeaters) e) ∙ r)) k;
  }

  hosts_with : (s : Seat) (b : Bool) → is_fewer x.row s ≡ b → Hosts xs s → Hosts (xs ++ x ∷ []) (if b then hosted_by s else s)
  hosts_with s true e h = hosts_now s h (seconds x.row.repeaters s.repeaters (nat_lt x.row.repeaters s.repeaters) (is_before x.row.key s.key) refl (eqb_tells x.row.repeaters s.repeaters) e)
  hosts_with s false e h =
      let n = not_seconds x.row.repeaters s.repeaters (nat_lt x.row.repeaters s.repeaters) (is_before x.row.key s.key) refl (eqb_tells x.row.repeaters s.repeaters) e in
      hosts_still s h (record { many = n.0; behind = n.1 })

  leader_stays : (s : Seat) (b : Bool) → Leads (xs ++ x ∷ []) s → Leads (xs ++ x ∷ []) (if b then hosted_by s else s)
  leader_stays s true h = record { row = h.row; among = h.among; number = h.number; key = h.key; none = h.none }
  leader_stays s false h = h

  seats_with : (s : Seat) → Seats xs s → Seats (xs ++ x ∷ []) (with_fewest x.row (with_first x.number x.row s))
  seats_with s h =
      let led = with_first x.number x.row s in
      record {
        leads = leader_stays led (is_fewer x.row led) (leads_with s (is_before x.row.key s.first_key) refl h.leads);
        hosts = hosts_with led (is_fewer x.row led) refl (host_stays s (is_before x.row.key s.first_key) h.hosts);
      }

-- ---- all rows of a class

only_itself : (x y : NumberedRow) → In y (x ∷ []) → is_before y.row.key x.row.key ≡ false
only_itself x y k = ap (λ (z : NumberedRow). is_before z.row.key x.row.key) (in_one k) ∙ instance_order.itself x.row.key

one_seat : (x : NumberedRow) → Seats (x ∷ []) (seat_of x.number x.row)
one_seat x = record {
  leads = record { row = x; among = here; number = refl; key = refl; none = only_itself x };
  hosts = record {
    row = x;
    among = here;
    element = refl;
    repeaters = refl;
    key = refl;
    fewest = λ y k. let r : y.row.repeaters ≡ x.row.repeaters = ap (λ (z : NumberedRow). z.row.repeaters) (in_one k) in omega (arith, r);
    none = λ y k r. only_itself x y k;
  };
}

abbrev SeatsAt : List NumberedRow → Option Seat → Type 0
SeatsAt xs None = (y : NumberedRow) → In y xs → ⊥
SeatsAt xs (Some s) = Seats xs s

append_none : {A : Type 0} (xs : List A) → xs ++ [] ≡ xs
append_none [] = refl
append_none (x ∷ xs) = ap (λ ys. x ∷ ys) (append_none xs)

seats_behind : (done xs : List NumberedRow) (s : Seat) → Seats done s → SeatsAt (done ++ xs) (fold sit_row (Some s) xs)
seats_behind done [] s h = subst (λ (ys : List NumberedRow). Seats ys s) (sym (append_none done)) h
seats_behind done (x ∷ xs) s h =
    subst (λ (ys : List NumberedRow). SeatsAt ys (fold sit_row (Some s) (x ∷ xs))) (append_assoc done (x ∷ []) xs)
    (seats_behind (done ++ x ∷ []) xs (with_fewest x.row (with_first x.number x.row s)) (seats_with done x s h))

seats_all : (xs : List NumberedRow) → SeatsAt xs (fold sit_row None xs)
seats_all [] = λ y k. in_none k
seats_all (x ∷ xs) = seats_behind (x ∷ []) xs (seat_of x.number x.row) (one_seat x)

-- ---- rows by their numbers

-- a numbered row stands as many places behind as its number says
record Numbered (from : ℕ) (rows : List MemberRow) (y : NumberedRow) : Type 0 where
  place : ℕ
  stands : At y.row rows place
  is : y.number ≡ from + place

numbered_later : (from : ℕ) (r : MemberRow) (rows : List MemberRow) (y : NumberedRow) → Numbered (suc from) rows y → Numbered from (r ∷ rows) y
numbered_later from r rows y h = record { place = suc h.place; stands = next h.stands; is = let e = h.is in omega (arith, e) }

in_front : {x y : NumberedRow} {xs : List NumberedRow} → In x (y ∷ xs) → (x ≡ y) ⊎ In x xs
in_front here = inl refl
in_front (there h) = inr h

numbered_here : (from : ℕ) (r : MemberRow) (rows : List MemberRow) (y : NumberedRow) → y ≡ record { number = from; row = r } → Numbered from (r ∷ rows) y
numbered_here from r rows y e = record {
  place = 0;
  stands = subst (λ (z : MemberRow). At z (r ∷ rows) 0) (sym (ap (λ (z : NumberedRow). z.row) e)) first;
  is = let n : y.number ≡ from = ap (λ (z : NumberedRow). z.number) e in omega (arith, n);
}

in_numbered : (from : ℕ) (rows : List MemberRow) (y : NumberedRow) → In y (numbered_rows from rows) → Numbered from rows y
in_numbered from [] y h = absurd (in_none h)
in_numbered from (r ∷ rows) y h = by (in_numbered (suc from) rows y) (in_front h)
  where
    by : (In y (numbered_rows (suc from) rows) → Numbered (suc from) rows y) → (y ≡ record { number = from; row = r }) ⊎ In y (numbered_rows (suc from) rows) → Numbered from (r ∷ rows) y
    by later (inl e) = numbered_here from r rows y e
    by later (inr k) = numbered_later from r rows y (later k)

abbrev at_number : ℕ → MemberRow → NumberedRow
at_number n r = record { number = n; row = r }

numbered_in : (from : ℕ) (rows : List MemberRow) (n : ℕ) (r : MemberRow) → At r rows n → In (at_number (from + n) r) (numbered_rows from rows)
numbered_in from [] n r h = absurd (at_none h)
numbered_in from (x ∷ rows) n r (first {xs = ys}) = subst (λ m. In (at_number m r) (numbered_rows from (r ∷ ys))) (let e : from ≡ from + 0 = omega arith in e) here
numbered_in from (x ∷ rows) n r (next {i = i} h) = subst (λ m. In (at_number m r) (numbered_rows from (x ∷ rows))) (let e : suc from + i ≡ from + suc i = omega arith in e) (there (numbered_in (suc from) rows i r h))

-- ---- the rows of a class are its members

some_number : (l : ℕ) (o : Option ℕ) → number_is l o ≡ true → o ≡ Some l
some_number l None e = absurd (cc)
some_number l (Some m) e = by (eqb_tells m l)
  where
    by : (((m == l) ≡ true) × (m ≡ l)) ⊎ (((m == l) ≡ false) × (m ≡ l → ⊥)) → Some m ≡ Some l
    by (inl t) = ap Some t.1
    by (inr t) = let f : true ≡ false = sym e ∙ t.0 in absurd (cc)

itself_is : (l : ℕ) (t : ℕ) → t ≡ l → (((t == l) ≡ true) × (t ≡ l)) ⊎ (((t == l) ≡ false) × (t ≡ l → ⊥)) → (t == l) ≡ true
itself_is l t e (inl h) = h.0
itself_is l t e (inr h) = absurd (h.1 e)

module _ (labels : List ℕ) (rows : List MemberRow) (l : ℕ) where
  abbrev class_rows : List NumberedRow
  class_rows = of_number (label_of_row labels) l (numbered_rows 0 rows)

  abbrev is_of : NumberedRow → Bool
  is_of x = number_is l (label_of_row labels x)

  is_member : (y : NumberedRow) → In y class_rows → IsMember labels rows l y.number y.row
  is_member y k =
      let p = in_filter is_of (numbered_rows 0 rows) k in
      let n = in_numbered 0 rows y p.among in
      let e : n.place ≡ y.number = (let i = n.is in omega (arith, i)) in
      record { labelled = last_read labels y.number l (some_number l (label_of_row labels y) p.passes); stands = subst (λ m. At y.row rows m) e n.stands }

  member_in : (n : ℕ) (r : MemberRow) → IsMember labels rows l n r → In (at_number n r) class_rows
  member_in n r m =
      let k : In (at_number n r) (numbered_rows 0 rows) = subst (λ i. In (at_number i r) (numbered_rows 0 rows)) (let e : 0 + n ≡ n = omega arith in e) (numbered_in 0 rows n r m.stands) in
      filter_in is_of k (ap (number_is l) (get_at m.labelled) ∙ itself_is l l refl (eqb_tells l l))

  home_at : (s : Option Seat) → SeatsAt class_rows s → IsHomeAt labels rows l (home_of s)
  home_at None none = λ n r m. none (at_number n r) (member_in n r m)
  home_at (Some s) h = record {
    leads = record {
      row = h.leads.row.row;
      member = subst (λ n. IsMember labels rows l n h.leads.row.row) (sym h.leads.number) (is_member h.leads.row h.leads.among);
      none_before = λ m r is. subst (λ k. is_before r.key k ≡ false) h.leads.key (h.leads.none (at_number m r) (member_in m r is));
    };
    number = h.hosts.row.number;
    row = h.hosts.row.row;
    outermost = record {
      member = is_member h.hosts.row h.hosts.among;
      fewest = λ m r is. let k = h.hosts.fewest (at_number m r) (member_in m r is) in let e = h.hosts.repeaters in omega (arith, k, e);
      none_before = λ m r is e. subst (λ k. is_before r.key k ≡ false) h.hosts.key (h.hosts.none (at_number m r) (member_in m r is) (e ∙ sym h.hosts.repeaters));
    };
    element = h.hosts.element;
    repeaters = h.hosts.repeaters;
  }

sized : (labels : List ℕ) (rows : List MemberRow) → length (seats_of labels rows) ≡ length labels
sized labels rows = grouped_sized sit_row (label_of_row labels) (replicate (length labels) None) (numbered_rows 0 rows) ∙ replicate_sized (length labels) None

abbrev no_seat : Option Seat
no_seat = None

seat_read : (labels : List ℕ) (rows : List MemberRow) (l : ℕ) (s : Option Seat) → At s (seats_of labels rows) l → Some s ≡ Some (fold sit_row None (class_rows labels rows l))
seat_read labels rows l s h =
    let size = sized labels rows in
    let within = at_within h in
    sym (get_at h) ∙ (grouped_get sit_row (label_of_row labels) (replicate (length labels) no_seat) (numbered_rows 0 rows) l
    ∙ ap (option_map (λ (a : Option Seat). fold sit_row a (class_rows labels rows l))) (replicated (length labels) l no_seat (omega (arith, size, within))))

same_some : (a b : Option Seat) → Some a ≡ Some b → a ≡ b
same_some a b e = cc

each_home : (labels : List ℕ) (rows : List MemberRow) (l : ℕ) (home : Option Home) → Mapped home_of (seats_of labels rows) home l → IsHomeAt labels rows l home
each_home labels rows l home m =
    let e = same_some m.item (fold sit_row None (class_rows labels rows l)) (seat_read labels rows l m.item m.stands) in
    subst (λ (o : Option Home). IsHomeAt labels rows l o) (sym m.is)
    (home_at labels rows l m.item (subst (λ (s : Option Seat). SeatsAt (class_rows labels rows l) s) (sym e) (seats_all (class_rows labels rows l))))

pub are_homes : (labels : List ℕ) (rows : List MemberRow) → AreHomes labels rows (homes_of labels rows)
are_homes labels rows = record {
  sized = length-map (seats_of labels rows) home_of ∙ sized labels rows;
  each = λ l home h. each_home labels rows l home (at_map home_of (seats_of labels rows) h);
}
