-- When no node is new and no group is left, the labels of a search are those of components.
use Rattle.std.proofs.Common.{◌≡◌, ◌≢◌, ℕ, zero, suc, ◌+◌, ◌<◌, ◌≤◌, List, [], None, Result, Ok, Err, length, refl, sym, ap, ◌∙◌, subst, arith}
use Rattle.std.specs.Prelude.{map, replicate, IfOk}
use Rattle.std.proofs.lemmas.List.{length-replicate}
use Rattle.std.proofs.lemmas.List.{length-map}
use Rattle.finite_graphs.specs.declared.search.Search.{Search}
use Rattle.finite_graphs.specs.declared.search.Standing.{Standing}
use Rattle.finite_graphs.specs.declared.search.Standing.TheVariants.{New, Open, Closed}
use Rattle.finite_graphs.specs.declared.search.Group.{Group}
use Rattle.finite_graphs.specs.Circles.{AreLabels}
use Rattle.finite_graphs.specs.Rows.{Steps}
use Rattle.finite_graphs.specs.Walks.{At}
use Rattle.finite_graphs.specs.Searching.{FewerNew, Holds, IsSearch, label_of, unseen}
use Rattle.finite_graphs.proofs.Lists.{at_map, at_none, at_replicate, at_same, at_within, in_none}

-- ---- the start

new_is_unseen : (n : ℕ) → unseen (replicate n New) ≡ n
new_is_unseen zero = refl
new_is_unseen (suc n) = let e = new_is_unseen n in omega (arith, e)

pub begun : {E : ℕ → ℕ → Type 0} (nodes : ℕ) (places : List Standing) → ((a b : ℕ) → E a b → b < nodes) → places ≡ replicate nodes New → IsSearch E nodes None places [] [] [] 0
begun {E} nodes places within e = subst (λ xs. IsSearch E nodes None xs [] [] [] 0) (sym e) (record {
  within = within;
  sized = length-replicate nodes New;
  path_open = λ a i h. absurd (at_none h);
  open_path = λ a i h. let f : Open i ≡ New = at_replicate nodes New h in absurd (cc);
  reach = λ a b i j h k l. absurd (at_none h);
  led = λ a b i h k. absurd (at_none h);
  waits = λ b t h. absurd (at_none h);
  covered = λ a i h. absurd (at_none h);
  path_rises = λ g h i j k l m. absurd (at_none k);
  ahead_rises = λ g h i j k l m. absurd (at_none k);
  path_within = λ g h. absurd (in_none h);
  ahead_within = λ g h. absurd (in_none h);
  closed_led = λ a b l h k. let f : Closed l ≡ New = at_replicate nodes New h in absurd (cc);
  together = λ a b l h k. let f : Closed l ≡ New = at_replicate nodes New h in absurd (cc);
  fresh = λ a l h. let f : Closed l ≡ New = at_replicate nodes New h in absurd (cc);
  room = let n = new_is_unseen nodes in omega (arith, n);
})

-- ---- the end

-- all that is new stands at n or behind it
pub record NewFrom (places : List Standing) (n : ℕ) : Type 0 where
  pub from : (a : ℕ) → At New places a → n ≤ a

pub new_none : (places : List Standing) → NewFrom places 0
new_none places = record { from = λ a h. omega arith }

pub new_more : {places : List Standing} {n : ℕ} → NewFrom places n → (At New places n → ⊥) → NewFrom places (n + 1)
new_more {places} {n} f met = record { from = λ a h. let l = f.from a h in let ne : a ≢ n = λ e. met (subst (λ k. At New places k) e h) in omega (arith, l, ne) }

pub new_fewer : {old new : List Standing} {n : ℕ} → NewFrom old n → FewerNew old new → NewFrom new n
new_fewer f g = record { from = λ a h. f.from a (g.fewer a h) }

-- the nodes before n are closed, with all that they reach
pub record AllClosed (rows : List (List ℕ)) (search : Search) (n : ℕ) : Type 0 where
  pub state : Holds rows None search
  pub whole : search.groups ≡ []
  pub begun : NewFrom search.places n

pub closed_now : {rows : List (List ℕ)} {old new : Search} {n : ℕ} → AllClosed rows old n → Holds rows None new → new.groups ≡ [] → FewerNew old.places new.places → (At New new.places n → ⊥) → AllClosed rows new (n + 1)
closed_now s state whole fewer met = record { state = state; whole = whole; begun = new_more (new_fewer s.begun fewer) met }

pub closed_before : {rows : List (List ℕ)} {old : Search} {n : ℕ} → AllClosed rows old n → (At New old.places n → ⊥) → AllClosed rows old (n + 1)
closed_before s met = record { state = s.state; whole = s.whole; begun = new_more s.begun met }

module _ {rows : List (List ℕ)} {places : List Standing} {path ahead : List ℕ} {count : ℕ} (s : IsSearch (Steps rows) (length rows) None places path ahead [] count) (f : NewFrom places (length rows)) where
  -- each node is closed
  all_closed : (a : ℕ) (x : Standing) → At x places a → At (Closed (label_of x)) places a
  all_closed a New h = let l = f.from a h in let w = at_within h in absurd (omega (arith, l, w, s.sized))
  all_closed a (Open i) h = let c = s.covered a i (s.open_path a i h) in absurd (in_none c.among)
  all_closed a (Closed l) h = h

  label_at : {a l : ℕ} → At l (map label_of places) a → At (Closed l) places a
  label_at {a} {l} h = let m = at_map label_of places h in subst (λ n. At (Closed n) places a) (sym m.is) (all_closed a m.item m.stands)

  label_falls : {a b l k : ℕ} → At (Closed l) places a → At (Closed k) places b → Steps rows a b → k ≤ l
  label_falls {a} {b} {l} {k} h m e =
      let below = s.closed_led a b l h e in
      let same : k ≡ below.label = let g : Closed k ≡ Closed below.label = at_same m below.stands in cc in
      let le = below.falls in omega (arith, same, le)

  labels_are : AreLabels rows (map label_of places)
  labels_are = record {
    sized = length-map places label_of ∙ s.sized;
    same = λ a b l h k. s.together a b l (label_at h) (label_at k);
    falls = λ a b l k h m e. label_falls (label_at h) (label_at m) e;
    small = λ a l h. let f = s.fresh a l (label_at h) in let r = s.room in omega (arith, f, r);
  }

  pub labels_done : (labels : List ℕ) → labels ≡ map label_of places → AreLabels rows labels
  labels_done labels e = subst (λ xs. AreLabels rows xs) (sym e) labels_are

pub all_done : {rows : List (List ℕ)} {places now : List Standing} {path ahead : List ℕ} {groups : List Group} {count n : ℕ} {M : Type 0} (result : Result (List ℕ) M)
    → IsSearch (Steps rows) (length rows) None places path ahead groups count → groups ≡ [] → NewFrom places n → length rows ≤ n
    → now ≡ places → IfOk result (λ labels. labels ≡ map label_of now) → IfOk result (λ labels. AreLabels rows labels)
all_done {rows} {places} {now} {path} {ahead} {groups} {count} {n} (Ok labels) s none f past is made =
    labels_done (subst (λ (g : List Group). IsSearch (Steps rows) (length rows) None places path ahead g count) none s)
    (record { from = λ a h. let l = f.from a h in omega (arith, l, past) }) labels (made ∙ ap (map label_of) is)
all_done (Err m) s none f past is made = made
