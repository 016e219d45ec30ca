-- Rows of numbers, as they are made, and what they say of a whole source.
use Rattle.std.proofs.Common.{◌≡◌, ℕ, ◌+◌, ◌<◌, ◌⊎◌, inl, inr, List, [], ◌∷◌, ◌++◌, Option, Some, None, length, map, sym, ◌∙◌, ap, subst, refl, arith, length-append}
use Rattle.std.specs.Prelude.{slice_get}
use Rattle.std.specs.Option.{option_map}
use Rattle.typed_tree.specs.declared.members.Member.{Member}
use Rattle.typed_tree.specs.declared.members.MemberKind.{MemberKind}
use Rattle.typed_tree.specs.declared.trees.TypedComponent.{TypedComponent}
use Rattle.typed_tree.specs.declared.trees.TypedGlobal.{TypedGlobal}
use Rattle.typed_tree.specs.declared.trees.TypedTree.{TypedTree}
use Rattle.finite_graphs.specs.Walks.{At, first}
use Rattle.finite_graphs.proofs.Lists.{at_end, at_last, at_left, at_none, at_same, at_some, at_within, last_read, map_at}
use Rattle.loop_check.specs.declared.acts.Home.{Home}
use Rattle.loop_check.specs.declared.acts.Home.TheVariants as homes
use Rattle.loop_check.specs.declared.acts.Routine.{Routine}
use Rattle.loop_check.specs.declared.numbers.Numbers.{Numbers}
use Rattle.loop_check.specs.Numbers.{AreNumbers, AreRowsOf, HasNumber, IsRow, declared_in_component, declared_in_global, number_in, row_of}
use Rattle.loop_check.specs.Purity.{component_members, global_members, members_of}
use Rattle.loop_check.proofs.Listing.{read_at}

abbrev pub Things : Type 0
Things = List (Option Routine)

abbrev pub thing : Home → ℕ → Option Routine
thing home n = Some (record { home = home; number = n })

-- ---- a row

pub row_first : (home : Home) (things : Things) (row : List ℕ) → row ≡ [] → IsRow home 0 things things row
row_first home things row e = record {
  kept = λ x i h. h;
  sized = ap length e;
  stands = λ n i h. absurd (at_none (subst (λ (xs : List ℕ). At i xs n) e h));
}

pub row_next : (home : Home) (n number : ℕ) {old now : Things} {row : List ℕ} (new : Things) (row' : List ℕ) → number ≡ length now → IsRow home n old now row
    → row' ≡ row ++ number ∷ [] → new ≡ now ++ thing home n ∷ [] → IsRow home (n + 1) old new row'
row_next home n number {old} {now} {row} new row' counted r e f = record {
  kept = λ x i h. into x i (at_left (thing home n ∷ []) (r.kept x i h));
  sized = let long = length-append row (number ∷ []) in let same = ap length e in let before = r.sized in omega (arith, long, same, before);
  stands = λ m i h. by m i (at_end row number (subst (λ (xs : List ℕ). At i xs m) e h));
}
  where
    into : (x : Option Routine) (i : ℕ) → At x (now ++ thing home n ∷ []) i → At x new i
    into x i h = subst (λ (xs : Things). At x xs i) (sym f) h

    by : (m i : ℕ) → At i row m ⊎ ((i ≡ number) × (m ≡ length row)) → At (thing home m) new i
    by m i (inl h) = into (thing home m) i (at_left (thing home n ∷ []) (r.stands m i h))
    by m i (inr h) =
        let place : length now ≡ i = sym counted ∙ sym h.0 in
        let same : n ≡ m = sym r.sized ∙ sym h.1 in
        into (thing home m) i (subst (λ (k : ℕ). At (thing home k) (now ++ thing home n ∷ []) i) same
        (subst (λ (k : ℕ). At (thing home n) (now ++ thing home n ∷ []) k) place (at_last now)))

-- ---- many rows

pub rows_first : (home_at : ℕ → Home) (members : List (List Member)) (things : Things) (rows : List (List ℕ)) → rows ≡ [] → AreRowsOf home_at members 0 things things rows
rows_first home_at members things rows e = record {
  kept = λ x i h. h;
  sized = ap length e;
  each = λ c row ms h k. absurd (at_none (subst (λ (xs : List (List ℕ)). At row xs c) e h));
  stands = λ c n i row h k. absurd (at_none (subst (λ (xs : List (List ℕ)). At row xs c) e h));
}

pub rows_next : (home_at : ℕ → Home) (members : List (List Member)) (n : ℕ) (ms : List Member) {old now new : Things} {rows : List (List ℕ)} {row : List ℕ} (rows' : List (List ℕ))
    → At ms members n → AreRowsOf home_at members n old now rows → IsRow (home_at n) (length ms) now new row → rows' ≡ rows ++ row ∷ [] → AreRowsOf home_at members (n + 1) old new rows'
rows_next home_at members n ms {old} {now} {new} {rows} {row} rows' here so_far r e = record {
  kept = λ x i h. r.kept x i (so_far.kept x i h);
  sized = let long = length-append rows (row ∷ []) in let same = ap length e in let before = so_far.sized in omega (arith, long, same, before);
  each = λ c x xs h k. same_length c x xs k (at_end rows row (subst (λ (ys : List (List ℕ)). At x ys c) e h));
  stands = λ c m i x h k. by c m i x k (at_end rows row (subst (λ (ys : List (List ℕ)). At x ys c) e h));
}
  where
    same_length : (c : ℕ) (x : List ℕ) (xs : List Member) → At xs members c → At x rows c ⊎ ((x ≡ row) × (c ≡ length rows)) → length x ≡ length xs
    same_length c x xs k (inl h) = so_far.each c x xs h k
    same_length c x xs k (inr h) =
        let place : c ≡ n = h.1 ∙ so_far.sized in
        ap length h.0 ∙ r.sized ∙ ap length (at_same here (subst (λ (m : ℕ). At xs members m) place k))

    by : (c m i : ℕ) (x : List ℕ) → At i x m → At x rows c ⊎ ((x ≡ row) × (c ≡ length rows)) → At (thing (home_at c) m) new i
    by c m i x k (inl h) = r.kept (thing (home_at c) m) i (so_far.stands c m i x h k)
    by c m i x k (inr h) =
        let place : n ≡ c = sym (h.1 ∙ so_far.sized) in
        subst (λ (d : ℕ). At (thing (home_at d) m) new i) place (r.stands m i (subst (λ (xs : List ℕ). At i xs m) h.0 k))

-- ---- what is read in rows

record InRow (rows : List (List ℕ)) (c n i : ℕ) : Type 0 where
  row : List ℕ
  stands : At row rows c
  number : At i row n

in_row : (rows : List (List ℕ)) (c n i : ℕ) (o : Option (List ℕ)) → slice_get rows c ≡ o → number_in o n ≡ Some i → InRow rows c n i
in_row rows c n i None e f = absurd (cc)
in_row rows c n i (Some row) e f = record { row = row; stands = last_read rows c row e; number = last_read row n i f }

read_number : {home_at : ℕ → Home} {members : List (List Member)} {count : ℕ} {old new : Things} {rows : List (List ℕ)} → AreRowsOf home_at members count old new rows
    → (c n i : ℕ) → number_in (slice_get rows c) n ≡ Some i → At (thing (home_at c) n) new i
read_number {rows = rows} r c n i e = let f = in_row rows c n i (slice_get rows c) refl e in r.stands c n i f.row f.stands f.number

record SomeNumber (rows : List (List ℕ)) (c n : ℕ) : Type 0 where
  number : ℕ
  is : number_in (slice_get rows c) n ≡ Some number

some_number : {home_at : ℕ → Home} {members : List (List Member)} {count : ℕ} {old new : Things} {rows : List (List ℕ)} → AreRowsOf home_at members count old new rows
    → (c n : ℕ) (ms : List Member) (m : Member) → c < count → At ms members c → At m ms n → SomeNumber rows c n
some_number {rows = rows} r c n ms m within h k =
    let sized = r.sized in
    let row = at_some rows c (omega (arith, within, sized)) in
    let long = r.each c row.item ms row.stands h in
    let there = at_within k in
    let number = at_some row.item n (omega (arith, long, there)) in
    record { number = number.item; is = ap (λ (o : Option (List ℕ)). number_in o n) (read_at row.stands) ∙ read_at number.stands }

-- ---- a whole source

record KindAt (members : List Member) (n : ℕ) : Type 0 where
  member : Member
  stands : At member members n

kind_at : (members : List Member) (n : ℕ) (kind : MemberKind) (o : Option Member) → slice_get members n ≡ o → option_map (λ (m : Member). m.kind) o ≡ Some kind → KindAt members n
kind_at members n kind None e f = absurd (cc)
kind_at members n kind (Some m) e f = record { member = m; stands = last_read members n m e }

module _ (tree : TypedTree) (numbers : Numbers) {things now new : Things}
    (comps : AreRowsOf (λ c. homes.Component c) (map declared_in_component tree.comps) (length tree.comps) things now numbers.comps)
    (globals : AreRowsOf (λ g. homes.Global g) (map declared_in_global tree.globals) (length tree.globals) now new numbers.globals) where
  stands_at : (home : Home) (n i : ℕ) → number_in (row_of numbers home) n ≡ Some i → At (thing home n) new i
  stands_at (homes.Component c) n i e = globals.kept (thing (homes.Component c) n) i (read_number comps c n i e)
  stands_at (homes.Global g) n i e = read_number globals g n i e

  component_number : (c n : ℕ) (o : Option TypedComponent) → slice_get tree.comps c ≡ o → KindAt (component_members o) n → SomeNumber numbers.comps c n
  component_number c n None e k = absurd (at_none k.stands)
  component_number c n (Some comp) e k =
      let h = last_read tree.comps c comp e in
      some_number comps c n (declared_in_component comp) k.member (at_within h) (map_at declared_in_component h) k.stands

  global_number : (g n : ℕ) (o : Option TypedGlobal) → slice_get tree.globals g ≡ o → KindAt (global_members o) n → SomeNumber numbers.globals g n
  global_number g n None e k = absurd (at_none k.stands)
  global_number g n (Some global) e k =
      let h = last_read tree.globals g global e in
      some_number globals g n (declared_in_global global) k.member (at_within h) (map_at declared_in_global h) k.stands

  has_number : (home : Home) (n : ℕ) → KindAt (members_of tree home) n → HasNumber numbers (record { home = home; number = n })
  has_number (homes.Component c) n k = let s = component_number c n (slice_get tree.comps c) refl k in record { number = s.number; is = s.is }
  has_number (homes.Global g) n k = let s = global_number g n (slice_get tree.globals g) refl k in record { number = s.number; is = s.is }

  -- each declared member has a number
  pub are_numbers : At None things 0 → AreNumbers tree numbers new
  are_numbers none = record {
    first = globals.kept None 0 (comps.kept None 0 none);
    stands = λ r i e. stands_at r.home r.number i e;
    all = λ r kind e. has_number r.home r.number (kind_at (members_of tree r.home) r.number kind (slice_get (members_of tree r.home) r.number) refl e);
  }

pub only_none : (things : Things) → things ≡ None ∷ [] → At None things 0
only_none things e = subst (λ (xs : Things). At None xs 0) (sym e) first

-- the same, of members and lists as they were read
pub rows_read : {home_at : ℕ → Home} (members : List (List Member)) (n : ℕ) (ms read : List Member) {old now new : Things} {rows : List (List ℕ)} {row : List ℕ} (rows' : List (List ℕ))
    → At ms members n → read ≡ ms → AreRowsOf home_at members n old now rows → IsRow (home_at n) (length read) now new row → rows' ≡ rows ++ row ∷ [] → AreRowsOf home_at members (n + 1) old new rows'
rows_read {home_at} members n ms read {now = now} {new = new} {row = row} rows' here e so_far r f =
    rows_next home_at members n ms rows' here so_far (subst (λ (xs : List Member). IsRow (home_at n) (length xs) now new row) e r) f

pub all_numbered : (tree : TypedTree) (numbers : Numbers) {things now new : Things} (comps : List TypedComponent) (globals : List TypedGlobal) → comps ≡ tree.comps → globals ≡ tree.globals
    → AreRowsOf (λ c. homes.Component c) (map declared_in_component comps) (length comps) things now numbers.comps
    → AreRowsOf (λ g. homes.Global g) (map declared_in_global globals) (length globals) now new numbers.globals → things ≡ None ∷ [] → AreNumbers tree numbers new
all_numbered tree numbers {things} {now} {new} comps globals e f c g none =
    are_numbers tree numbers
    (subst (λ (xs : List TypedComponent). AreRowsOf (λ n. homes.Component n) (map declared_in_component xs) (length xs) things now numbers.comps) e c)
    (subst (λ (xs : List TypedGlobal). AreRowsOf (λ n. homes.Global n) (map declared_in_global xs) (length xs) now new numbers.globals) f g)
    (only_none things none)
