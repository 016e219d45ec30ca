-- What the items of a list come to, as a loop over the list gathers it.
use Rattle.std.proofs.Common.{◌≡◌, ℕ, ◌+◌, ◌<◌, ◌≤◌, List, [], ◌∷◌, ◌++◌, length, get_or, take, sym, ap, ◌∙◌, append_assoc, arith}
use Rattle.std.specs.Prelude.{map}
use Rattle.std.specs.List.{flat_map}
use Rattle.std.proofs.lemmas.Grind.{flat_map-append}
use Rattle.std.proofs.lemmas.List.{append-nil, length-take-le, map-append, take_all, take_more}
use Rattle.declaration_rules.specs.Turns.{in_turn}

-- one item more of the front of a list
pub front-next : {A : Type 0} (xs : List A) (i : ℕ) (x : A) → i < length xs → x ≡ get_or xs i x → take (i + 1) xs ≡ take i xs ++ x ∷ []
front-next xs i x within is = take_more xs i x within ∙ ap (λ y. take i xs ++ y ∷ []) (sym is)

-- ---- one item more

pub flat_map-one : {A B : Type 0} (f : A → List B) (xs : List A) (x : A) → flat_map f (xs ++ x ∷ []) ≡ flat_map f xs ++ f x
flat_map-one f xs x = flat_map-append f xs (x ∷ []) ∙ ap (λ ys. flat_map f xs ++ ys) (append-nil (f x))

pub in_turn-one : {A B : Type 0} (f : List A → A → List B) (before xs : List A) (x : A) → in_turn f before (xs ++ x ∷ []) ≡ in_turn f before xs ++ f (before ++ xs) x
in_turn-one f before [] x = append-nil (f before x) ∙ ap (λ ys. f ys x) (sym (append-nil before))
in_turn-one f before (y ∷ ys) x =
    ap (λ zs. f before y ++ zs) (in_turn-one f (before ++ y ∷ []) ys x)
    ∙ (sym (append_assoc (f before y) (in_turn f (before ++ y ∷ []) ys) (f ((before ++ y ∷ []) ++ ys) x))
    ∙ ap (λ zs. (f before y ++ in_turn f (before ++ y ∷ []) ys) ++ f zs x) (append_assoc before (y ∷ []) ys))

-- ---- a loop that pushes what each item comes to

behind : {B : Type 0} (start now more later all next : List B) → now ≡ start ++ all → later ≡ now ++ more → next ≡ all ++ more → later ≡ start ++ next
behind start now more later all next held pushed grown = pushed ∙ (ap (λ ys. ys ++ more) held ∙ (append_assoc start all more ∙ ap (λ ys. start ++ ys) (sym grown)))

pub gathers-next : {A B : Type 0} (f : A → List B) (start now later : List B) (xs : List A) (i : ℕ) (x : A) → i < length xs → x ≡ get_or xs i x
    → now ≡ start ++ flat_map f (take i xs) → later ≡ now ++ f x → later ≡ start ++ flat_map f (take (i + 1) xs)
gathers-next f start now later xs i x within is held pushed =
    behind start now (f x) later (flat_map f (take i xs)) (flat_map f (take (i + 1) xs)) held pushed (ap (flat_map f) (front-next xs i x within is) ∙ flat_map-one f (take i xs) x)

pub gathers-all : {A B : Type 0} (f : A → List B) (start now : List B) (xs : List A) (i : ℕ) → length xs ≤ i → now ≡ start ++ flat_map f (take i xs) → now ≡ start ++ flat_map f xs
gathers-all f start now xs i past held = held ∙ ap (λ ys. start ++ flat_map f ys) (take_all i xs past)

pub maps-next : {A B : Type 0} (f : A → B) (start now later : List B) (xs : List A) (i : ℕ) (x : A) → i < length xs → x ≡ get_or xs i x
    → now ≡ start ++ map f (take i xs) → later ≡ now ++ f x ∷ [] → later ≡ start ++ map f (take (i + 1) xs)
maps-next f start now later xs i x within is held pushed =
    behind start now (f x ∷ []) later (map f (take i xs)) (map f (take (i + 1) xs)) held pushed (ap (map f) (front-next xs i x within is) ∙ map-append f (take i xs) (x ∷ []))

pub maps-all : {A B : Type 0} (f : A → B) (start now : List B) (xs : List A) (i : ℕ) → length xs ≤ i → now ≡ start ++ map f (take i xs) → now ≡ start ++ map f xs
maps-all f start now xs i past held = held ∙ ap (λ ys. start ++ map f ys) (take_all i xs past)

-- the number of items before one is its index
pub front-length : {A : Type 0} (xs : List A) (i : ℕ) → i < length xs → length (take i xs) ≡ i
front-length xs i within = length-take-le i xs (omega arith)

pub turns-next : {A B : Type 0} (f : List A → A → List B) (now later : List B) (xs : List A) (i : ℕ) (x : A) → i < length xs → x ≡ get_or xs i x
    → now ≡ in_turn f [] (take i xs) → later ≡ now ++ f (take i xs) x → later ≡ in_turn f [] (take (i + 1) xs)
turns-next f now later xs i x within is held pushed =
    behind [] now (f (take i xs) x) later (in_turn f [] (take i xs)) (in_turn f [] (take (i + 1) xs)) held pushed (ap (in_turn f []) (front-next xs i x within is) ∙ in_turn-one f [] (take i xs) x)

pub turns-all : {A B : Type 0} (f : List A → A → List B) (now : List B) (xs : List A) (i : ℕ) → length xs ≤ i → now ≡ in_turn f [] (take i xs) → now ≡ in_turn f [] xs
turns-all f now xs i past held = held ∙ ap (in_turn f []) (take_all i xs past)
