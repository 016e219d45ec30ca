-- The list of those to be made invalid, as it is threaded through the cells.
use Rattle.std.proofs.Common.{◌≡◌, ◌≢◌, ℕ, zero, suc, ◌+◌, ◌<◌, ◌≤◌, Bool, true, false, cond, List, [], ◌∷◌, length, Option, Some, None, ◌⊎◌, inl, inr, refl, sym, ap, ◌∙◌, subst, arith, get_or-set_same, get_or-set_other}
use Rattle.std.proofs.Math.ListN.{set, length-set}
use Rattle.dep_list.specs.Pairs.{In}
use Rattle.property_cells.specs.declared.marks.State.{State}
use Rattle.property_cells.specs.declared.marks.State.TheVariants.{Gone, Invalid, Running, Valid, Assigned, Marked}
use Rattle.property_cells.specs.declared.marks.Mark.{Mark}
use Rattle.property_cells.specs.Reach.{Reached, Unmakes, IsNet, Became, IsMarking}
use Rattle.property_cells.specs.Marks.{Pending, no_mark, mark_at, state_at, is_valid, marked, all_marked, taken, Threads, AllBelow}
use Rattle.property_cells.proofs.Reaching.{same_or_not, Sets, IsDone, put, took, passed, ended}

-- no cell becomes valid
abbrev pub Fades : Pending → Pending → Type 0
Fades m n = (c : ℕ) → state_at n.cells c ≡ Valid → state_at m.cells c ≡ Valid

mark_set_here : (ms : List Mark) (c : ℕ) (x : Mark) → c < length ms → mark_at (set ms c x) c ≡ x
mark_set_here ms c x h = get_or-set_same ms c x no_mark h

mark_set_there : (ms : List Mark) (c d : ℕ) (x : Mark) → d ≢ c → mark_at (set ms c x) d ≡ mark_at ms d
mark_set_there ms c d x n = get_or-set_other ms c d x no_mark n

pub sets : (ms : List Mark) (c : ℕ) (x : Mark) → c < length ms → Sets c x.state (state_at ms) (state_at (set ms c x))
sets ms c x h = record { here = ap (λ (m : Mark). m.state) (mark_set_here ms c x h); there = λ d n. ap (λ (m : Mark). m.state) (mark_set_there ms c d x n) }

-- a thread stays where a cell that isn't in it is written
Threads-set : (ms : List Mark) (h : Option ℕ) (cs : List ℕ) (c : ℕ) (x : Mark) → (In c cs → ⊥) → Threads ms h cs → Threads (set ms c x) h cs
Threads-set ms h [] c x n t = t
Threads-set ms h (d ∷ cs) c x n t = (
  t.0,
  subst (λ l. d < l) (sym (length-set ms c x)) t.1,
  subst (λ (o : Option ℕ). Threads (set ms c x) o cs) (sym (ap (λ (m : Mark). m.next) (mark_set_there ms c d x (λ same. n (inl (sym same))))))
      (Threads-set ms (mark_at ms d).next cs c x (λ i. n (inr i)) t.2),
)

valid_is : (s : State) → is_valid s ≡ true → s ≡ Valid
valid_is Valid e = refl
valid_is Gone e = cc
valid_is Invalid e = cc
valid_is Running e = cc
valid_is Assigned e = cc
valid_is Marked e = cc

pub by_valid : (s : State) {X : Type 0} → (s ≡ Valid → X) → (is_valid s ≡ false → s ≢ Valid → X) → X
by_valid Valid f g = f refl
by_valid Gone f g = g refl (λ e. cc)
by_valid Invalid f g = g refl (λ e. cc)
by_valid Running f g = g refl (λ e. cc)
by_valid Assigned f g = g refl (λ e. cc)
by_valid Marked f g = g refl (λ e. cc)

-- a valid cell that is marked
abbrev front : ℕ → Pending → Pending
front c m = record { cells = set m.cells c (record { state = Marked; next = m.head }); head = Some c }

pub marked_valid : (c : ℕ) (m : Pending) → state_at m.cells c ≡ Valid → marked c m ≡ front c m
marked_valid c m e = λ i. cond (is_valid (e i)) (front c m) m

pub marked_other : (c : ℕ) (m : Pending) → is_valid (state_at m.cells c) ≡ false → marked c m ≡ m
marked_other c m e = λ i. cond (e i) (front c m) m

length_marked : (c : ℕ) (m : Pending) (b : Bool) → length (cond b (front c m) m).cells ≡ length m.cells
length_marked c m true = length-set m.cells c (record { state = Marked; next = m.head })
length_marked c m false = refl

pub length-marked : (c : ℕ) (m : Pending) → length (marked c m).cells ≡ length m.cells
length-marked c m = length_marked c m (is_valid (state_at m.cells c))

pub length-all_marked : (cs : List ℕ) (m : Pending) → length (all_marked cs m).cells ≡ length m.cells
length-all_marked [] m = refl
length-all_marked (c ∷ cs) m = length-all_marked cs (marked c m) ∙ length-marked c m

-- ---- no cell becomes valid, and those that are marked aren't valid

pub Fades-marked : (c : ℕ) (m : Pending) → c < length m.cells → Fades m (marked c m)
Fades-marked c m h = by_valid (state_at m.cells c)
    (λ e. subst (Fades m) (sym (marked_valid c m e)) (λ d v. fade e d v (same_or_not d c)))
    (λ e n. subst (Fades m) (sym (marked_other c m e)) (λ d v. v))
  where
    fade : state_at m.cells c ≡ Valid → (d : ℕ) → state_at (front c m).cells d ≡ Valid → (d ≡ c) ⊎ (d ≢ c) → state_at m.cells d ≡ Valid
    fade e d v (inl same) = ap (state_at m.cells) same ∙ e
    fade e d v (inr differ) = sym ((sets m.cells c (record { state = Marked; next = m.head }) h).there d differ) ∙ v

pub marked-done : (c : ℕ) (m : Pending) → c < length m.cells → state_at (marked c m).cells c ≢ Valid
marked-done c m h = by_valid (state_at m.cells c)
    (λ e. subst (λ (n : Pending). state_at n.cells c ≢ Valid) (sym (marked_valid c m e)) (λ v. let no : Marked ≡ Valid = sym (sets m.cells c (record { state = Marked; next = m.head }) h).here ∙ v in cc))
    (λ e n. subst (λ (k : Pending). state_at k.cells c ≢ Valid) (sym (marked_other c m e)) n)

pub Fades-all_marked : (cs : List ℕ) (m : Pending) → AllBelow (length m.cells) cs → Fades m (all_marked cs m)
Fades-all_marked [] m a = λ d v. v
Fades-all_marked (c ∷ cs) m a = λ d v. Fades-marked c m a.0 d (Fades-all_marked cs (marked c m) (subst (λ l. AllBelow l cs) (sym (length-marked c m)) a.1) d v)

pub all_marked-done : (cs : List ℕ) (m : Pending) → AllBelow (length m.cells) cs → (c : ℕ) → In c cs → state_at (all_marked cs m).cells c ≢ Valid
all_marked-done [] m a c i v = absurd i
all_marked-done (d ∷ cs) m a c (inl same) v =
    let rest = subst (λ l. AllBelow l cs) (sym (length-marked d m)) a.1 in
    marked-done d m a.0 (ap (state_at (marked d m).cells) (sym same) ∙ Fades-all_marked cs (marked d m) rest c v)
all_marked-done (d ∷ cs) m a c (inr i) v = all_marked-done cs (marked d m) (subst (λ l. AllBelow l cs) (sym (length-marked d m)) a.1) c i v

-- ---- the marking as the cells have it

module _ {P : Type 0} (pairs : List (ℕ × P)) (cell_of : P → ℕ) (hit : P → Type 0) (first : ℕ → State) where
  -- how far the marking has come in the cells
  pub record AreMarking (busy : Option ℕ) (m : Pending) : Type 0 where
    pub list : List ℕ
    pub threads : Threads m.cells m.head list
    pub marking : IsMarking pairs cell_of hit first (state_at m.cells) busy list

  pub AreMarking-marked : (busy : Option ℕ) (c : ℕ) (m : Pending) → c < length m.cells → Reached pairs cell_of hit c → AreMarking busy m → AreMarking busy (marked c m)
  AreMarking-marked busy c m h reached a = by_valid (state_at m.cells c)
      (λ e. subst (AreMarking busy) (sym (marked_valid c m e)) (more e))
      (λ e n. subst (AreMarking busy) (sym (marked_other c m e)) a)
    where
      more : state_at m.cells c ≡ Valid → AreMarking busy (front c m)
      more e =
          let x : Mark = record { state = Marked; next = m.head } in
          let new = put pairs cell_of hit first (state_at m.cells) (state_at (front c m).cells) busy a.list c a.marking e reached (sets m.cells c x h) in
          record {
            list = c ∷ a.list;
            threads = (
              refl,
              subst (λ l. c < l) (sym (length-set m.cells c x)) h,
              subst (λ (o : Option ℕ). Threads (set m.cells c x) o a.list) (sym (ap (λ (k : Mark). k.next) (mark_set_here m.cells c x h))) (Threads-set m.cells m.head a.list c x new.distinct.0 a.threads),
            );
            marking = new;
          }

  pub AreMarking-all : (busy : Option ℕ) (cs : List ℕ) (m : Pending) → AllBelow (length m.cells) cs → ((c : ℕ) → In c cs → Reached pairs cell_of hit c) → AreMarking busy m → AreMarking busy (all_marked cs m)
  AreMarking-all busy [] m b r a = a
  AreMarking-all busy (c ∷ cs) m b r a =
      AreMarking-all busy cs (marked c m) (subst (λ l. AllBelow l cs) (sym (length-marked c m)) b.1) (λ d i. r d (inr i)) (AreMarking-marked busy c m b.0 (r c (inl refl)) a)

  pub AreMarking-taken : (c : ℕ) (m : Pending) → m.head ≡ Some c → AreMarking None m → AreMarking (Some c) (taken c m)
  AreMarking-taken c m e a = by_list a.list a.threads a.marking
    where
      by_list : (cs : List ℕ) → Threads m.cells m.head cs → IsMarking pairs cell_of hit first (state_at m.cells) None cs → AreMarking (Some c) (taken c m)
      by_list [] t k = let no : Some c ≡ None = sym e ∙ t in cc
      by_list (d ∷ cs) t k =
          let same : d ≡ c = let q : Some d ≡ Some c = sym t.0 ∙ e in cc in
          subst (λ (j : ℕ). AreMarking (Some j) (taken j m)) same (record {
            list = cs;
            threads = Threads-set m.cells (mark_at m.cells d).next cs d (record { state = Invalid; next = None }) k.distinct.0 t.2;
            marking = took pairs cell_of hit first (state_at m.cells) (state_at (taken d m).cells) d cs k (sets m.cells d (record { state = Invalid; next = None }) t.1);
          })

  pub head_inside : (m : Pending) → AreMarking None m → (c : ℕ) → m.head ≡ Some c → c < length m.cells
  head_inside m a c e = by_list a.list a.threads
    where
      by_list : (cs : List ℕ) → Threads m.cells m.head cs → c < length m.cells
      by_list [] t = let no : Some c ≡ None = sym e ∙ t in cc
      by_list (d ∷ cs) t = let same : d ≡ c = let q : Some d ≡ Some c = sym t.0 ∙ e in cc in subst (λ j. j < length m.cells) same t.1

  pub head_marked : (m : Pending) → AreMarking None m → (c : ℕ) → m.head ≡ Some c → state_at m.cells c ≡ Marked
  head_marked m a c e = by_list a.list a.threads a.marking
    where
      by_list : (cs : List ℕ) → Threads m.cells m.head cs → IsMarking pairs cell_of hit first (state_at m.cells) None cs → state_at m.cells c ≡ Marked
      by_list [] t k = let no : Some c ≡ None = sym e ∙ t in cc
      by_list (d ∷ cs) t k = let same : d ≡ c = let q : Some d ≡ Some c = sym t.0 ∙ e in cc in ap (state_at m.cells) (sym same) ∙ (k.marked d (inl refl)).1

  pub AreMarking-passed : (c : ℕ) (m : Pending) → AreMarking (Some c) m → ((p : P) → cell_of p ≡ c → IsDone pairs cell_of hit (state_at m.cells) p) → AreMarking None m
  AreMarking-passed c m a done = record { list = a.list; threads = a.threads; marking = passed pairs cell_of hit first (state_at m.cells) c a.list a.marking done }

  pub AreMarking-ended : (m : Pending) → AreMarking None m → m.head ≡ None → ((p : P) → hit p → IsDone pairs cell_of hit (state_at m.cells) p) → IsNet pairs cell_of hit first → Unmakes pairs cell_of hit first (state_at m.cells)
  AreMarking-ended m a e done net = ended pairs cell_of hit first (state_at m.cells) (by_list a.list a.threads a.marking) done net
    where
      by_list : (cs : List ℕ) → Threads m.cells m.head cs → IsMarking pairs cell_of hit first (state_at m.cells) None cs → IsMarking pairs cell_of hit first (state_at m.cells) None []
      by_list [] t k = k
      by_list (d ∷ cs) t k = let no : Some d ≡ None = sym t.0 ∙ e in cc

  pub AreMarking-begun : (m : Pending) → m.head ≡ None → ((c : ℕ) → first c ≡ state_at m.cells c) → AreMarking None m
  AreMarking-begun m e same = record {
    list = [];
    threads = e;
    marking = record {
      kept = λ c n. sym (same c);
      fate = λ c v. subst (λ s. Became pairs cell_of hit [] s c) (sym (sym (same c) ∙ v)) tt;
      marked = λ c h. absurd h;
      distinct = tt;
      closed = λ r p i v n. let no : Valid ≡ Invalid = sym v ∙ same (cell_of p) ∙ n in cc;
    };
  }

-- ---- the measure: each cell is marked once and taken out once

abbrev weigh : State → ℕ
weigh Gone = 0
weigh Invalid = 0
weigh Running = 0
weigh Valid = 2
weigh Assigned = 0
weigh Marked = 1

-- the work that may still come
abbrev pub weight : List Mark → ℕ
weight [] = 0
weight (m ∷ ms) = weigh m.state + weight ms

weight-set : (ms : List Mark) (c : ℕ) (x : Mark) → c < length ms → weight (set ms c x) + weigh (state_at ms c) ≡ weight ms + weigh x.state
weight-set [] c x h = absurd (omega arith)
weight-set (m ∷ ms) zero x h = omega arith
weight-set (m ∷ ms) (suc c) x h = let rest = weight-set ms c x (omega arith) in omega arith

pub weight-marked : (c : ℕ) (m : Pending) → c < length m.cells → weight (marked c m).cells ≤ weight m.cells
weight-marked c m h = by_valid (state_at m.cells c)
    (λ e. subst (λ (n : Pending). weight n.cells ≤ weight m.cells) (sym (marked_valid c m e))
    (let w = weight-set m.cells c (record { state = Marked; next = m.head }) h in let v = ap weigh e in omega arith))
    (λ e n. subst (λ (k : Pending). weight k.cells ≤ weight m.cells) (sym (marked_other c m e)) (omega arith))

pub weight-all_marked : (cs : List ℕ) (m : Pending) → AllBelow (length m.cells) cs → weight (all_marked cs m).cells ≤ weight m.cells
weight-all_marked [] m a = omega arith
weight-all_marked (c ∷ cs) m a =
    let one = weight-marked c m a.0 in let rest = weight-all_marked cs (marked c m) (subst (λ l. AllBelow l cs) (sym (length-marked c m)) a.1) in omega arith

pub weight-taken : (c : ℕ) (m : Pending) → c < length m.cells → state_at m.cells c ≡ Marked → weight (taken c m).cells + 1 ≡ weight m.cells
weight-taken c m h e = let w = weight-set m.cells c (record { state = Invalid; next = None }) h in let v = ap weigh e in omega arith

pub length-taken : (c : ℕ) (m : Pending) → length (taken c m).cells ≡ length m.cells
length-taken c m = length-set m.cells c (record { state = Invalid; next = None })

pub Fades-taken : (c : ℕ) (m : Pending) → c < length m.cells → Fades m (taken c m)
Fades-taken c m h d v = fade (same_or_not d c)
  where
    fade : (d ≡ c) ⊎ (d ≢ c) → state_at m.cells d ≡ Valid
    fade (inl same) = let no : Invalid ≡ Valid = sym (ap (state_at (taken c m).cells) same ∙ (sets m.cells c (record { state = Invalid; next = None }) h).here) ∙ v in cc
    fade (inr differ) = sym ((sets m.cells c (record { state = Invalid; next = None }) h).there d differ) ∙ v
