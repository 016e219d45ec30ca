-- One element more.
use Rattle.std.proofs.Common.{◌≡◌, inl, inr, ℕ, zero, suc, ◌+◌, ◌<◌, List, [], ◌∷◌, ◌++◌, Option, Some, None, Result, Ok, Err, length, take, get_or, refl, sym, ap, ◌∙◌, subst, arith}
use Rattle.std.specs.Prelude.{slice_get}
use Rattle.std.proofs.lemmas.List.{length-append}
use Rattle.std.proofs.lemmas.Option.{slice_get-get_or}
use Rattle.slint_base.specs.declared.faults.Fault.{Fault}
use Rattle.syntax_tree.specs.declared.items.Item.{Item}
use Rattle.typed_tree.specs.declared.outlines.Outline.{Outline}
use Rattle.typed_tree.specs.declared.scopes.RowNames.{RowNames}
use Rattle.typed_tree.specs.declared.scopes.Site.{Site}
use Rattle.typed_tree.specs.declared.scopes.Site.TheVariants as site
use Rattle.typed_tree.specs.declared.trees.TypedElement.{TypedElement}
use Rattle.typed_tree.specs.declared.trees.TypedItem.{TypedItem}
use Rattle.typed_tree.specs.declared.trees.TypedRepeat.{TypedRepeat}
use Rattle.typed_tree.specs.declared.trees.TypedRepeat.TheVariants as repeats
use Rattle.fault_order.specs.Order.{IsFirst}
use Rattle.source_elements.specs.Elements.{HowOften, JustOnce, WrittenElement}
use Rattle.item_types.specs.Judging.{Judging, Tells, something, fault, added, each, made}
use Rattle.item_types.proofs.Telling.{came, each_more, each_none, made_told, then_own, told_at, told_first}
use Rattle.type_resolver.specs.declared.elements.Inside.{Inside}
use Rattle.type_resolver.specs.Bodies.{RowsIn, outside, within, body, counted, element, in_body, in_rows, repeated, rows_in, site_around, with_items}
use Rattle.type_resolver.specs.Walking.{ElementTold, IsErr, Stands, Walked, WentIn, element_of, failed, known_at, rows_at, seen_with, skipped, went, went_in}
use Rattle.type_resolver.proofs.Following.{each_skipped, followed_broken, followed_on}
use Rattle.type_resolver.proofs.Sounding.{Parts, body_sound, element_sound, in_body_sound, in_rows_sound, one_rows, repeated_sound, rows_sound}

-- ---- things with their places

pub counted-append : {A : Type 0} (n : ℕ) (xs : List A) (x : A) → counted n (xs ++ x ∷ []) ≡ counted n xs ++ (n + length xs, x) ∷ []
counted-append n [] x = ap (λ k. (k, x) ∷ []) (plain n)
  where
    plain : (k : ℕ) → k ≡ k + 0
    plain k = omega arith
counted-append n (y ∷ xs) x = ap (λ zs. (n, y) ∷ zs) (counted-append (suc n) xs x ∙ ap (λ k. counted (suc n) xs ++ (k, x) ∷ []) (moved n (length xs)))
  where
    moved : (k l : ℕ) → suc k + l ≡ k + suc l
    moved k l = omega arith

pub take_at : {A : Type 0} (xs : List A) (n : ℕ) (x : A) → slice_get xs n ≡ Some x → take (suc n) xs ≡ take n xs ++ x ∷ []
take_at [] n x e = cc
take_at (y ∷ xs) zero x e = let same : y ≡ x = cc in ap (λ z. z ∷ []) same
take_at (y ∷ xs) (suc n) x e = ap (λ zs. y ∷ zs) (take_at xs n x e)

pub take_length : {A : Type 0} (xs : List A) (n : ℕ) (x : A) → slice_get xs n ≡ Some x → length (take n xs) ≡ n
take_length [] n x e = cc
take_length (y ∷ xs) zero x e = refl
take_length (y ∷ xs) (suc n) x e = ap suc (take_length xs n x e)

pub counted_at : {A : Type 0} (xs : List A) (n : ℕ) (x : A) → slice_get xs n ≡ Some x → counted 0 (take (suc n) xs) ≡ counted 0 (take n xs) ++ (n, x) ∷ []
counted_at xs n x e = ap (counted 0) (take_at xs n x e) ∙ (counted-append 0 (take n xs) x ∙ ap (λ k. counted 0 (take n xs) ++ (k, x) ∷ []) (plain (length (take n xs)) n (take_length xs n x e)))
  where
    plain : (k l : ℕ) → k ≡ l → 0 + k ≡ l
    plain k l e = omega (arith, e)

-- ---- an element, of what is told of its parts

of_body : (repeat : TypedRepeat) (v : Result (List TypedItem) Fault) → then_own v (λ xs. Ok (with_items repeat xs)) ≡ element_of repeat v
of_body repeat (Ok xs) = refl
of_body repeat (Err f) = refl

pub went_inside : (known : Parts) (o : Outline) (here : Site) (items : List Item) (inside : Inside) (v : Result (List TypedItem) Fault) → Tells (body o here inside.rows items) v → WentIn o here items inside (Some (element_of inside.repeat v)) (Some inside.rows)
went_inside known o here items inside v t =
    let P : Result TypedElement Fault → Type 0 = λ u. Tells (made (body o here inside.rows items) (with_items inside.repeat)) u in
    went_in (subst P (of_body inside.repeat v) (made_told (body o here inside.rows items) (with_items inside.repeat) (body_sound known o here inside.rows items) t))

pub went_told : (known : Parts) (o : Outline) (here : Site) (items : List Item) (inside : Inside) (rows : List RowNames) (v : Result (List TypedItem) Fault) (new : Result TypedElement Fault) → rows ≡ inside.rows → Tells (body o here rows items) v
    → new ≡ element_of inside.repeat v → WentIn o here items inside (Some new) (Some inside.rows)
went_told known o here items inside rows v new same t e =
    let P : List RowNames → Type 0 = λ r. Tells (body o here r items) v in
    let Q : Result TypedElement Fault → Type 0 = λ u. WentIn o here items inside (Some u) (Some inside.rows) in
    subst Q (sym e) (went_inside known o here items inside v (subst P same t))

-- an element that is there once
pub once_told : (o : Outline) (around : Site) (e : ℕ) (often : HowOften) (rows same : List RowNames) → often ≡ JustOnce → same ≡ rows → Tells (repeated o around e often rows) (Ok (record { repeat = repeats.Once; rows = same }))
once_told o around e often rows same once is =
    let P : HowOften → Type 0 = λ h. Tells (repeated o around e h rows) (Ok (record { repeat = repeats.Once; rows = same })) in
    subst P (sym once) (something (ap (λ r. as_inside repeats.Once r) is))
  where
    as_inside : TypedRepeat → List RowNames → Inside
    as_inside repeat r = record { repeat = repeat; rows = r }

went_at : (o : Outline) (c e : ℕ) (w : WrittenElement) (rows : List RowNames) (inside : Inside) {told : Option (Result TypedElement Fault)} {new : Option (List RowNames)} → (repeated o (site_around c w.parent) e w.repeating rows).comes inside
    → WentIn o (site.Element c e) w.body inside told new → (ws : List WrittenElement) → RowsIn o c ws w.parent rows → ElementTold o c ws (e, w) told new
went_at o c e w rows inside a (went_in t) = λ ws around. went around a t

pub went_by : (o : Outline) (c e : ℕ) (w : WrittenElement) (rows : List RowNames) (inside : Inside) (around : Site) (often : HowOften) (items : List Item) {r : Result Inside Fault} {told : Option (Result TypedElement Fault)} {new : Option (List RowNames)}
    → around ≡ site_around c w.parent → often ≡ w.repeating → items ≡ w.body → r ≡ Ok inside → Tells (repeated o around e often rows) r → WentIn o (site.Element c e) items inside told new
    → (ws : List WrittenElement) → RowsIn o c ws w.parent rows → ElementTold o c ws (e, w) told new
went_by o c e w rows inside around often items {r} {told} {new} p q i is t in_it =
    let P : Site → Type 0 = λ s. Tells (repeated o s e often rows) r in
    let Q : HowOften → Type 0 = λ h. Tells (repeated o (site_around c w.parent) e h rows) r in
    let R : List Item → Type 0 = λ its. WentIn o (site.Element c e) its inside told new in
    went_at o c e w rows inside (came (repeated o (site_around c w.parent) e w.repeating rows) (told_at (repeated o (site_around c w.parent) e w.repeating rows) is (subst Q q (subst P p t)))) (subst R i in_it)

pub failed_by : (o : Outline) (c e : ℕ) (w : WrittenElement) (rows : List RowNames) (around : Site) (often : HowOften) {r : Result Inside Fault} {f : Fault}
    → around ≡ site_around c w.parent → often ≡ w.repeating → r ≡ Err f → Tells (repeated o around e often rows) r
    → (ws : List WrittenElement) → RowsIn o c ws w.parent rows → ElementTold o c ws (e, w) (Some (Err f)) None
failed_by o c e w rows around often {r} {f} p q is t =
    let P : Site → Type 0 = λ s. Tells (repeated o s e often rows) r in
    let Q : HowOften → Type 0 = λ h. Tells (repeated o (site_around c w.parent) e h rows) r in
    let one = told_first (repeated o (site_around c w.parent) e w.repeating rows) (told_at (repeated o (site_around c w.parent) e w.repeating rows) is (subst Q q (subst P p t))) in
    λ ws around_is. failed around_is one

-- one with no names around isn't looked at
pub skipped_by : (o : Outline) (c e : ℕ) (w : WrittenElement) (around : Option (List RowNames)) → around ≡ None → (ws : List WrittenElement) → Stands o c ws w.parent around → ElementTold o c ws (e, w) None None
skipped_by o c e w around none = λ ws s. let P : Option (List RowNames) → Type 0 = λ a. Stands o c ws w.parent a in skipped (subst P none s)

pub looked_by : (o : Outline) (c e : ℕ) (w : WrittenElement) (around : Option (List RowNames)) (rows : List RowNames) {told : Option (Result TypedElement Fault)} {new : Option (List RowNames)} → around ≡ Some rows
    → ((ws : List WrittenElement) → RowsIn o c ws w.parent rows → ElementTold o c ws (e, w) told new) → (ws : List WrittenElement) → Stands o c ws w.parent around → ElementTold o c ws (e, w) told new
looked_by o c e w around rows is f = λ ws s. let P : Option (List RowNames) → Type 0 = λ a. Stands o c ws w.parent a in f ws (subst P is s)

-- ---- what stands where in a list with one more behind it

pub data Place {X : Type 0} (xs : List X) (x y : X) (k : ℕ) : Type 0 where
  before : slice_get xs k ≡ Some y → Place xs x y k
  last : k ≡ length xs → y ≡ x → Place xs x y k

place_later : {X : Type 0} {z x y : X} {xs : List X} {k : ℕ} → Place xs x y k → Place (z ∷ xs) x y (suc k)
place_later (before e) = before e
place_later (last e f) = last (ap suc e) f

pub place_in : {X : Type 0} (xs : List X) (x y : X) (k : ℕ) → slice_get (xs ++ x ∷ []) k ≡ Some y → Place xs x y k
place_in [] x y zero e = last refl cc
place_in [] x y (suc k) e = cc
place_in (z ∷ xs) x y zero e = before e
place_in (z ∷ xs) x y (suc k) e = place_later (place_in xs x y k e)

module _ (known : Parts) (o : Outline) (c : ℕ) (ws : List WrittenElement) where
  quiet : (p : ℕ × WrittenElement) → Stands o c ws p.1.parent None → (g : Fault) → (element o c ws p).breaks g → ⊥
  quiet p no_rows g (inl b) = b
  quiet p no_rows g (inr (r, a, b)) = no_rows r a

  -- what is told of the element itself
  element_told : (p : ℕ × WrittenElement) {v : Result TypedElement Fault} {rows : Option (List RowNames)} {w : Option (Result TypedElement Fault)} → w ≡ Some v → ElementTold o c ws p w rows → Tells (element o c ws p) v
  element_told p e (skipped n) = absurd (let h = e in cc)
  element_told p {v} e (failed {around} {f} a q) = let same : Err f ≡ v = cc in
      let P : Result TypedElement Fault → Type 0 = λ u. Tells (element o c ws p) u in
      subst P same (followed_on _ (in_rows o c p) (rows_sound known o c ws p.1.parent) a (followed_broken _ _ (repeated_sound known o (site_around c p.1.parent) p.0 p.1.repeating around) q))
  element_told p {v} e (went {around} {inside} {v = u} a b t) = let same : u ≡ v = cc in
      let P : Result TypedElement Fault → Type 0 = λ z. Tells (element o c ws p) z in
      subst P same (followed_on _ (in_rows o c p) (rows_sound known o c ws p.1.parent) a (followed_on _ _ (repeated_sound known o (site_around c p.1.parent) p.0 p.1.repeating around) b t))

  -- the names in it
  rows_told : (e : ℕ) (w : WrittenElement) {v : Option (Result TypedElement Fault)} {rows : Option (List RowNames)} → slice_get ws e ≡ Some w → ElementTold o c ws (e, w) v rows → Stands o c ws (Some e) rows
  rows_told e w at (skipped n) = λ rows stands. without stands
    where
      without : {rows : List RowNames} → RowsIn o c ws (Some e) rows → ⊥
      without (within {w = u} {around} i stands on comes) = let same : u ≡ w = cc in let P : WrittenElement → Type 0 = λ z. RowsIn o c ws z.parent around in n around (subst P same on)
  rows_told e w at (failed {around} {f} a q) = λ rows stands. without stands
    where
      broken : {u : WrittenElement} {other : List RowNames} (i : Inside) → u ≡ w → RowsIn o c ws u.parent other → (repeated o (site_around c u.parent) e u.repeating other).comes i → ⊥
      broken {u} {other} i same on comes =
          let P : WrittenElement → Type 0 = λ z. RowsIn o c ws z.parent other in
          let Q : WrittenElement → Type 0 = λ z. (repeated o (site_around c z.parent) e z.repeating other).comes i in
          let rows : other ≡ around = one_rows known o c ws (subst P same on) a in
          let R : List RowNames → Type 0 = λ r. (repeated o (site_around c w.parent) e w.repeating r).comes i in
          (repeated_sound known o (site_around c w.parent) e w.repeating around).apart i f (subst R rows (subst Q same comes)) q.has

      without : {rows : List RowNames} → RowsIn o c ws (Some e) rows → ⊥
      without (within {w = u} i stands on comes) = let same : u ≡ w = cc in broken i same on comes
  rows_told e w at (went {inside} a b t) = within inside at a b

  seen_more : (n : ℕ) (w : WrittenElement) {seen : Result (List TypedElement) Fault} (v : Option (Result TypedElement Fault)) {rows : Option (List RowNames)} → ElementTold o c ws (n, w) v rows
      → (v ≡ None → IsErr seen) → (parts : List (ℕ × WrittenElement)) → Tells (each (element o c ws) parts) seen → Tells (each (element o c ws) (parts ++ (n, w) ∷ [])) (seen_with seen v)
  seen_more n w {seen = Ok xs} None t whole parts told = absurd (whole refl)
  seen_more n w {seen = Err f} None t whole parts told = each_skipped (element o c ws) parts (n, w) (quiet (n, w) (no_rows t)) told
    where
      no_rows : {rows : Option (List RowNames)} → ElementTold o c ws (n, w) None rows → Stands o c ws w.parent None
      no_rows (skipped s) = s
  seen_more n w (Some v) t whole parts told = each_more (element o c ws) (element_sound known o c ws) parts (n, w) told (element_told (n, w) refl t)

  -- where an element is skipped, or its model or condition breaks a rule, something is broken
  err_after : (seen : Result (List TypedElement) Fault) (v : Option (Result TypedElement Fault)) {p : ℕ × WrittenElement} {rows : Option (List RowNames)} → ElementTold o c ws p v rows → (v ≡ None → IsErr seen) → rows ≡ None → IsErr (seen_with seen v)
  err_after seen None t whole e = whole refl
  err_after (Ok xs) (Some v) (failed a q) whole e = tt
  err_after (Err f) (Some v) (failed a q) whole e = tt
  err_after seen (Some v) (went a b t) whole e = absurd (let h = e in cc)

  err_stays : (seen : Result (List TypedElement) Fault) (v : Option (Result TypedElement Fault)) → IsErr seen → IsErr (seen_with seen v)
  err_stays (Ok xs) v e = absurd e
  err_stays (Err f) None e = tt
  err_stays (Err f) (Some (Ok x)) e = tt
  err_stays (Err f) (Some (Err g)) e = tt

  stands_more : (n : ℕ) (known_rows : List (Option (List RowNames))) (rows : Option (List RowNames)) → length known_rows ≡ n → ((e : ℕ) (r : Option (List RowNames)) → slice_get known_rows e ≡ Some r → Stands o c ws (Some e) r)
      → Stands o c ws (Some n) rows → (e : ℕ) (r : Option (List RowNames)) → Place known_rows rows r e → Stands o c ws (Some e) r
  stands_more n known_rows rows sized stand one e r (before at) = stand e r at
  stands_more n known_rows rows sized stand one e r (last at same) =
      let P : ℕ → Type 0 = λ k. Stands o c ws (Some k) r in
      let Q : Option (List RowNames) → Type 0 = λ x. Stands o c ws (Some n) x in
      subst P (sym (at ∙ sized)) (subst Q (sym same) one)

  broken_more : (known_rows : List (Option (List RowNames))) (rows : Option (List RowNames)) (seen : Result (List TypedElement) Fault) (v : Option (Result TypedElement Fault)) → ((e : ℕ) → slice_get known_rows e ≡ Some None → IsErr seen)
      → (rows ≡ None → IsErr (seen_with seen v)) → (e : ℕ) → Place known_rows rows None e → IsErr (seen_with seen v)
  broken_more known_rows rows seen v stood one e (before at) = err_stays seen v (stood e at)
  broken_more known_rows rows seen v stood one e (last at same) = one (sym same)

  pub walked_none : Walked o c ws 0 (Ok []) []
  walked_none = record { sized = refl; told = each_none (element o c ws); stand = λ e r at. absurd (let h = at in cc); broken = λ e at. absurd (let h = at in cc) }

  pub walked_more : (n : ℕ) (w : WrittenElement) (seen : Result (List TypedElement) Fault) (known_rows : List (Option (List RowNames))) (v : Option (Result TypedElement Fault)) (rows : Option (List RowNames)) → slice_get ws n ≡ Some w
      → Walked o c ws n seen known_rows → ElementTold o c ws (n, w) v rows → (v ≡ None → IsErr seen) → Walked o c ws (suc n) (seen_with seen v) (known_rows ++ rows ∷ [])
  walked_more n w seen known_rows v rows at s t whole = record {
    sized = length-append known_rows (rows ∷ []) ∙ one_more (length known_rows) n s.sized;
    told = let P : List (ℕ × WrittenElement) → Type 0 = λ parts. Tells (each (element o c ws) parts) (seen_with seen v) in
        subst P (sym (counted_at ws n w at)) (seen_more n w v t whole (counted 0 (take n ws)) s.told);
    stand = λ e r here. stands_more n known_rows rows s.sized s.stand (rows_told n w at t) e r (place_in known_rows rows r e here);
    broken = λ e here. broken_more known_rows rows seen v s.broken (err_after seen v t whole) e (place_in known_rows rows None e here);
  }
    where
      one_more : (k l : ℕ) → k ≡ l → k + 1 ≡ suc l
      one_more k l e = omega (arith, e)

  -- the names around an element that follows so many
  some_or_none : (o2 : Option (Option (List RowNames))) (n p : ℕ) (known_rows : List (Option (List RowNames))) → slice_get known_rows p ≡ o2 → length known_rows ≡ n → p < n
      → ((e : ℕ) (r : Option (List RowNames)) → slice_get known_rows e ≡ Some r → Stands o c ws (Some e) r) → Stands o c ws (Some p) (known_at o2)
  some_or_none None n p known_rows at sized less stand = absurd (not_there known_rows p at (let s = sized in omega (arith, s, less)))
    where
      not_there : {X : Type 0} (xs : List X) (k : ℕ) → slice_get xs k ≡ None → k < length xs → ⊥
      not_there [] k e l = omega (arith, l)
      not_there (x ∷ xs) zero e l = cc
      not_there (x ∷ xs) (suc k) e l = not_there xs k e (omega (arith, l))
  some_or_none (Some r) n p known_rows at sized less stand = stand p r at

  pub around_stands : (n : ℕ) (seen : Result (List TypedElement) Fault) (known_rows : List (Option (List RowNames))) → Walked o c ws n seen known_rows → (p : Option ℕ) → ((k : ℕ) → p ≡ Some k → k < n) → Stands o c ws p (rows_at known_rows p)
  around_stands n seen known_rows s None less = outside
  around_stands n seen known_rows s (Some p) less = some_or_none (slice_get known_rows p) n p known_rows refl s.sized (less p refl) s.stand

  -- an element is skipped only where something is broken
  pub skipped_broken : (n : ℕ) (seen : Result (List TypedElement) Fault) (known_rows : List (Option (List RowNames))) → Walked o c ws n seen known_rows → (p : Option ℕ) → ((k : ℕ) → p ≡ Some k → k < n) → rows_at known_rows p ≡ None → IsErr seen
  skipped_broken n seen known_rows s None less e = absurd (let h = e in cc)
  skipped_broken n seen known_rows s (Some p) less e = by (slice_get known_rows p) refl e
    where
      there : {X : Type 0} (xs : List X) (k : ℕ) → slice_get xs k ≡ None → k < length xs → ⊥
      there [] k h l = omega (arith, l)
      there (x ∷ xs) zero h l = cc
      there (x ∷ xs) (suc k) h l = there xs k h (omega (arith, l))

      by : (o2 : Option (Option (List RowNames))) → slice_get known_rows p ≡ o2 → known_at o2 ≡ None → IsErr seen
      by None at h = let sized = s.sized in let l = less p refl in absurd (there known_rows p at (omega (arith, sized, l)))
      by (Some None) at h = s.broken p at
      by (Some (Some r)) at h = absurd (let k = h in cc)

  -- all of them
  pub walked_all : (n : ℕ) (seen : Result (List TypedElement) Fault) (known_rows : List (Option (List RowNames))) → take n ws ≡ ws → Walked o c ws n seen known_rows → Tells (each (element o c ws) (counted 0 ws)) seen
  walked_all n seen known_rows e s = let P : List WrittenElement → Type 0 = λ us. Tells (each (element o c ws) (counted 0 us)) seen in subst P e s.told

  pub walked_first : (xs : List TypedElement) (ys : List (Option (List RowNames))) → xs ≡ [] → ys ≡ [] → Walked o c ws 0 (Ok xs) ys
  walked_first xs ys e f =
      let P : List TypedElement → Type 0 = λ z. Walked o c ws 0 (Ok z) ys in
      let Q : List (Option (List RowNames)) → Type 0 = λ z. Walked o c ws 0 (Ok []) z in
      subst P (sym e) (subst Q (sym f) walked_none)

  pub walked_next : (n : ℕ) (w : WrittenElement) (seen new : Result (List TypedElement) Fault) (known_rows slice longer : List (Option (List RowNames))) (parent : Option ℕ) (around : Option (List RowNames)) (v : Option (Result TypedElement Fault)) (rows : Option (List RowNames))
      → ((e p : ℕ) (u : WrittenElement) → slice_get ws e ≡ Some u → u.parent ≡ Some p → p < e) → n < length ws → w ≡ get_or ws n w → Walked o c ws n seen known_rows → slice ≡ known_rows → parent ≡ w.parent → around ≡ rows_at slice parent
      → ((us : List WrittenElement) → Stands o c us w.parent around → ElementTold o c us (n, w) v rows) → (v ≡ None → around ≡ None) → longer ≡ known_rows ++ rows ∷ [] → new ≡ seen_with seen v
      → Walked o c ws (n + 1) new longer
  walked_next n w seen new known_rows slice longer parent around v rows parents inner is s same above at told skip pushed added_is =
      let here : slice_get ws n ≡ Some w = slice_get-get_or ws n w inner ∙ ap Some (sym is) in
      let less : (k : ℕ) → w.parent ≡ Some k → k < n = λ k e. parents n k w here e in
      let names : around ≡ rows_at known_rows w.parent = at ∙ (ap (λ z. rows_at z parent) same ∙ ap (rows_at known_rows) above) in
      let P : Option (List RowNames) → Type 0 = λ a. Stands o c ws w.parent a in
      let one = told ws (subst P (sym names) (around_stands n seen known_rows s w.parent less)) in
      let all = walked_more n w seen known_rows v rows here s one (λ e. skipped_broken n seen known_rows s w.parent less (sym names ∙ skip e)) in
      let Q : Result (List TypedElement) Fault → Type 0 = λ z. Walked o c ws (suc n) z longer in
      let R : List (Option (List RowNames)) → Type 0 = λ z. Walked o c ws (suc n) (seen_with seen v) z in
      let S : ℕ → Type 0 = λ k. Walked o c ws k new longer in
      subst S (plain n) (subst Q (sym added_is) (subst R (sym pushed) all))
    where
      plain : (k : ℕ) → suc k ≡ k + 1
      plain k = omega arith
