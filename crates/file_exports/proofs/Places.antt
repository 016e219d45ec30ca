-- The first and the last place of an item of a kind, when one more item is looked at.
use Rattle.std.proofs.Common.{◌≡◌, ℕ, ◌+◌, ◌<◌, Bool, true, false, List, [], ◌∷◌, ◌++◌, Option, None, Some, drop, get_or, length, suc, take, refl, sym, ap, ◌∙◌, add-one, arith}
use Rattle.std.specs.Prelude.{if◌then◌else◌}
use Rattle.std.proofs.lemmas.List.{drop_more, length-take-le, take-append-drop, take_more}
use Rattle.syntax_tree.specs.declared.files.FileItem.{FileItem}
use Rattle.file_exports.specs.Roots.{first_place, last_place, one_later, or_else}

abbrev place_or : Bool → ℕ → Option ℕ → Option ℕ
place_or is_one place other = if is_one then Some place else other

last-later : (is_one is_first : Bool) (size : ℕ) (before : Option ℕ)
    → or_else (one_later (place_or is_one size before)) (place_or is_first 0 None) ≡ place_or is_one (suc size) (or_else (one_later before) (place_or is_first 0 None))
last-later true is_first size before = ap (λ n. Some n) (add-one size)
last-later false is_first size before = refl

-- one more item behind the others
last_place-push : (test : FileItem → Bool) (front : List FileItem) (item : FileItem) → last_place test (front ++ item ∷ []) ≡ place_or (test item) (length front) (last_place test front)
last_place-push test [] item = refl
last_place-push test (first ∷ front) item =
    ap (λ place. or_else (one_later place) (place_or (test first) 0 None)) (last_place-push test front item) ∙ last-later (test item) (test first) (length front) (last_place test front)

front_at : (items : List FileItem) (place : ℕ) (item : FileItem) → place < length items → item ≡ get_or items place item → take (place + 1) items ≡ take place items ++ item ∷ []
front_at items place item within is = take_more items place item within ∙ ap (λ last. take place items ++ last ∷ []) (sym is)

last_place-at : (test : FileItem → Bool) (items : List FileItem) (place : ℕ) (item : FileItem) → place < length items → item ≡ get_or items place item
    → last_place test (take (place + 1) items) ≡ (if test item then Some place else last_place test (take place items))
last_place-at test items place item within is =
    ap (last_place test) (front_at items place item within is)
    ∙ (last_place-push test (take place items) item ∙ ap (λ size. place_or (test item) size (last_place test (take place items))) (length-take-le place items (omega arith)))

first-none : (is_first : Bool) (later : Option ℕ) → place_or is_first 0 (one_later later) ≡ None → (is_first ≡ false) × (later ≡ None)
first-none true later e = absurd (cc)
first-none false None e = (refl, refl)
first-none false (Some place) e = absurd (cc)

-- the next item is the first of its kind
first_place-found : (test : FileItem → Bool) (front : List FileItem) (item : FileItem) (rest : List FileItem) → first_place test front ≡ None → test item ≡ true
    → first_place test (front ++ item ∷ rest) ≡ Some (length front)
first_place-found test [] item rest none is_one = ap (λ b. place_or b 0 (one_later (first_place test rest))) is_one
first_place-found test (first ∷ front) item rest none is_one =
    let parts = first-none (test first) (first_place test front) none in
    ap (λ b. place_or b 0 (one_later (first_place test (front ++ item ∷ rest)))) parts.0
    ∙ (ap one_later (first_place-found test front item rest parts.1 is_one) ∙ ap (λ n. Some n) (add-one (length front)))

-- the next item isn't of the kind either
first_place-passed : (test : FileItem → Bool) (front : List FileItem) (item : FileItem) → first_place test front ≡ None → test item ≡ false → first_place test (front ++ item ∷ []) ≡ None
first_place-passed test [] item none is_not = ap (λ b. place_or b 0 None) is_not
first_place-passed test (first ∷ front) item none is_not =
    let parts = first-none (test first) (first_place test front) none in
    ap (λ b. place_or b 0 (one_later (first_place test (front ++ item ∷ [])))) parts.0 ∙ ap one_later (first_place-passed test front item parts.1 is_not)

pub first_place-at : (test : FileItem → Bool) (items : List FileItem) (place : ℕ) (item : FileItem) → place < length items → item ≡ get_or items place item
    → first_place test (take place items) ≡ None → test item ≡ true → first_place test items ≡ Some place
first_place-at test items place item within is none is_one =
    ap (first_place test) (sym (take-append-drop place items) ∙ ap (λ rest. take place items ++ rest) (drop_more items place item within ∙ ap (λ first. first ∷ drop (place + 1) items) (sym is)))
    ∙ (first_place-found test (take place items) item (drop (place + 1) items) none is_one ∙ ap (λ n. Some n) (length-take-le place items (omega arith)))

pub first_place-after : (test : FileItem → Bool) (items : List FileItem) (place : ℕ) (item : FileItem) → place < length items → item ≡ get_or items place item
    → first_place test (take place items) ≡ None → test item ≡ false → first_place test (take (place + 1) items) ≡ None
first_place-after test items place item within is none is_not = ap (first_place test) (front_at items place item within is) ∙ first_place-passed test (take place items) item none is_not

-- the last place so far, by what it was before
pub last_place-later : (test : FileItem → Bool) (items : List FileItem) (place : ℕ) (item : FileItem) (is_one : Bool) (before after : Option ℕ) → place < length items → item ≡ get_or items place item
    → is_one ≡ test item → before ≡ last_place test (take place items) → after ≡ (if is_one then Some place else before) → after ≡ last_place test (take (place + 1) items)
last_place-later test items place item is_one before after within is tells so_far later =
    later ∙ (ap (λ b. place_or b place before) tells ∙ (ap (λ last. place_or (test item) place last) so_far ∙ sym (last_place-at test items place item within is)))
