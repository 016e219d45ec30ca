-- Tracks, cell by cell.
use Rattle.std.proofs.Common.{◌≡◌, ℕ, ◌+◌, ◌<◌, ◌≤◌, Bool, true, false, cond, ◌&&◌, ◌||◌, eqb, leb, ltb, List, [], ◌∷◌, map, length, get_or, set, take, All, sym, ap, ◌∙◌, ⊎_elim, refl, arith, get_or-set_same, get_or-set_other, take_all}
use Rattle.std.specs.List.{filter, fold, list_any}
use Rattle.std.proofs.lemmas.Bool.{cases_eq, lt-ltb, le-ltb, eq-eqb, ne_eqb}
use Rattle.std.proofs.lemmas.Bool.Decides.{nat_tests}
use Rattle.std.proofs.lemmas.List.Sums.{fold_more}
use Rattle.layout_solve.specs.declared.items.Item.{Item}
use Rattle.layout_solve.specs.declared.items.Cell.{Cell}
use Rattle.layout_solve.specs.Items.{IsItem}
use Rattle.layout_solve.specs.Tracks.{empty_track, loose_track, greatest_item, is_alone, reaches, items_alone}

-- what a cell that passes a test leaves of a track: a mark
abbrev pub marked : (Cell → Bool) → Item → Item → Cell → Item
marked test mark track cell = cond (test cell) mark track

-- what a cell that stands in a track alone leaves of it: the greatest of both
abbrev pub topped : ℕ → Item → Cell → Item
topped t track cell = cond (is_alone t cell) (greatest_item track cell.item) track

-- one more cell
pub folded-more : (step : Item → Cell → Item) (x now new : Item) (cells : List Cell) (i : ℕ) (d : Cell) → i < length cells → now ≡ fold step x (take i cells) → new ≡ step now (get_or cells i d)
    → new ≡ fold step x (take (i + 1) cells)
folded-more step x now new cells i d within e f = f ∙ ap (λ a. step a (get_or cells i d)) e ∙ sym (fold_more step x cells i d within)

pub folded_all : (step : Item → Cell → Item) (x now : Item) (cells : List Cell) (i : ℕ) → length cells ≤ i → now ≡ fold step x (take i cells) → now ≡ fold step x cells
folded_all step x now cells i past e = e ∙ ap (fold step x) (take_all i cells past)

-- a mark once set stays
fold-marked : (test : Cell → Bool) (mark x : Item) (cells : List Cell) → fold (marked test mark) x cells ≡ cond (list_any test cells) mark x
fold-marked test mark x [] = refl
fold-marked test mark x (c ∷ cells) = fold-marked test mark (cond (test c) mark x) cells ∙ joined (test c) (list_any test cells)
  where
    joined : (a b : Bool) → cond b mark (cond a mark x) ≡ cond (a || b) mark x
    joined true true = refl
    joined true false = refl
    joined false true = refl
    joined false false = refl

pub marked_all : (test : Cell → Bool) (mark x now : Item) (cells : List Cell) (i : ℕ) → length cells ≤ i → now ≡ fold (marked test mark) x (take i cells) → now ≡ cond (list_any test cells) mark x
marked_all test mark x now cells i past e = folded_all (marked test mark) x now cells i past e ∙ fold-marked test mark x cells

-- the greatest of the items that stand alone
fold-topped : (t : ℕ) (x : Item) (cells : List Cell) → fold (topped t) x cells ≡ fold greatest_item x (items_alone t cells)
fold-topped t x [] = refl
fold-topped t x (c ∷ cells) = fold-topped t (cond (is_alone t c) (greatest_item x c.item) x) cells ∙ joined (is_alone t c)
  where
    joined : (b : Bool) → fold greatest_item (cond b (greatest_item x c.item) x) (items_alone t cells) ≡ fold greatest_item x (map (λ cell. cell.item) (cond b (c ∷ filter (is_alone t) cells) (filter (is_alone t) cells)))
    joined true = refl
    joined false = refl

pub topped_all : (t : ℕ) (x now : Item) (cells : List Cell) (i : ℕ) → length cells ≤ i → now ≡ fold (topped t) x (take i cells) → now ≡ fold greatest_item x (items_alone t cells)
topped_all t x now cells i past e = folded_all (topped t) x now cells i past e ∙ fold-topped t x cells

-- a write at one place, seen at each
pub get_or-set_cond : (xs : List Item) (i t : ℕ) (v d : Item) → i < length xs → get_or (set xs i v) t d ≡ cond (eqb i t) v (get_or xs t d)
get_or-set_cond xs i t v d within =
    ⊎_elim
    (λ same. rw (eq-eqb i t same) (rw (sym same) (get_or-set_same xs i v d within)))
    (λ other. rw (ne_eqb i t other) (get_or-set_other xs i t v d (λ e. other (sym e))))
    (cases_eq i t)

-- a range of places grows by one
range-more : (first i t : ℕ) (mark old : Item) → first ≤ i → cond (eqb i t) mark (cond (leb first t && ltb t i) mark old) ≡ cond (leb first t && ltb t (i + 1)) mark old
range-more first i t mark old from = grind (arith, nat_tests)

pub range-set : (xs : List Item) (first i t : ℕ) (mark d old : Item) → i < length xs → first ≤ i → get_or xs t d ≡ cond (leb first t && ltb t i) mark old
    → get_or (set xs i mark) t d ≡ cond (leb first t && ltb t (i + 1)) mark old
range-set xs first i t mark d old within from e =
    get_or-set_cond xs i t mark d within ∙ ap (λ a. cond (eqb i t) mark a) e ∙ range-more first i t mark old from

pub range-none : (first t : ℕ) (mark old : Item) → old ≡ cond (leb first t && ltb t first) mark old
range-none first t mark old = grind (arith, nat_tests)

-- a cell that spans several tracks marks those that it reaches
pub reached-yes : (t : ℕ) (cell : Cell) (now new : Item) → 1 < cell.span → new ≡ cond (leb cell.first t && ltb t (cell.first + cell.span)) loose_track now → new ≡ marked (reaches t) loose_track now cell
reached-yes t cell now new wide e = e ∙ ap (λ b. cond (b && (leb cell.first t && ltb t (cell.first + cell.span))) loose_track now) (sym (lt-ltb 1 cell.span wide))

pub reached-no : (t : ℕ) (cell : Cell) (now new : Item) → cell.span ≤ 1 → new ≡ now → new ≡ marked (reaches t) loose_track now cell
reached-no t cell now new narrow e = e ∙ ap (λ b. cond (b && (leb cell.first t && ltb t (cell.first + cell.span))) loose_track now) (sym (le-ltb 1 cell.span narrow))

-- a cell of one track marks it
pub alone-yes : (t : ℕ) (cell : Cell) (mark now new : Item) → cell.span ≡ 1 → new ≡ cond (eqb cell.first t) mark now → new ≡ marked (is_alone t) mark now cell
alone-yes t cell mark now new one e = e ∙ ap (λ b. cond (b && eqb cell.first t) mark now) (sym (eq-eqb cell.span 1 one))

pub alone-no : (t : ℕ) (cell : Cell) (mark now new : Item) → (cell.span ≡ 1 → ⊥) → new ≡ now → new ≡ marked (is_alone t) mark now cell
alone-no t cell mark now new several e = e ∙ ap (λ b. cond (b && eqb cell.first t) mark now) (sym (ne_eqb cell.span 1 several))

-- a cell of one track raises it
pub topped-yes : (t : ℕ) (cell : Cell) (now new : Item) → cell.span ≡ 1 → new ≡ cond (eqb cell.first t) (greatest_item now cell.item) now → new ≡ topped t now cell
topped-yes t cell now new one e = e ∙ ap (λ b. cond (b && eqb cell.first t) (greatest_item now cell.item) now) (sym (eq-eqb cell.span 1 one))

pub topped-no : (t : ℕ) (cell : Cell) (now new : Item) → (cell.span ≡ 1 → ⊥) → new ≡ now → new ≡ topped t now cell
topped-no t cell now new several e = e ∙ ap (λ b. cond (b && eqb cell.first t) (greatest_item now cell.item) now) (sym (ne_eqb cell.span 1 several))

-- what a read past the cells would give
abbrev pub no_cell : Cell
no_cell = record { item = empty_track; first = 0; span = 0 }

-- the tracks are raised by the first i cells, and are items
pub record IsTopping (cells : List Cell) (old now : List Item) (i : ℕ) : Type 0 where
  pub raised : (t : ℕ) → get_or now t empty_track ≡ fold (topped t) (get_or old t empty_track) (take i cells)
  pub items : All IsItem now
