-- Tokens written one after the other.
use Rattle.std.proofs.Common.{◌≡◌, ℕ, zero, suc, List, [], ◌∷◌, ◌++◌, ◌+◌, ◌<◌, ◌≤◌, length, drop, get_or, map, refl, sym, ◌∙◌, ap, subst, append_assoc, add-one}
use Rattle.std.proofs.lemmas.List.{append-nil, drop_all}
use Rattle.std.proofs.Math.Seq.{drop-cons}
use Rattle.slint_lexer.specs.declared.tokens.Symbol.{Symbol}
use Rattle.slint_lexer.specs.declared.tokens.Symbol.TheVariants as symbols
use Rattle.slint_lexer.specs.Spelled.{spelled, written}
use Rattle.syntax_tree.specs.declared.expressions.Hole.{Hole, out-Hole, fold_out-Hole}
use Rattle.syntax_tree.specs.Printed.{Kinds, sign, in_order, with_commas, behind_commas, HoleKinds, with_holes, behind_hole, tokens_of_expr, tokens_of_hole, expr_layer, suffix_layer, field_value_layer, hole_layer, operand_layer}
use Rattle.syntax_tree.specs.Writes.{Writes, comma_before, opening, closing}

pub written-append : (xs ys : Kinds) → written (xs ++ ys) ≡ written xs ++ written ys
written-append [] ys = refl
written-append (x ∷ xs) ys = ap (λ z. spelled x ++ 32 ∷ z) (written-append xs ys) ∙ sym (append_assoc (spelled x) (32 ∷ written xs) (written ys))

pub nothing : (a : List ℕ) → Writes a a []
nothing a = record { is = sym (append-nil a); text = λ before. before }

pub behind : {a b c : List ℕ} {xs ys : Kinds} → Writes a b xs → Writes b c ys → Writes a c (xs ++ ys)
behind {a} {b} {c} {xs} {ys} x y = record { is = y.is ∙ ap (λ z. z ++ written ys) x.is ∙ append_assoc a (written xs) (written ys) ∙ ap (λ z. a ++ z) (sym (written-append xs ys)); text = λ before. y.text (x.text before) }

-- the same tokens, told otherwise
pub as_told : {a b : List ℕ} {xs ys : Kinds} → xs ≡ ys → Writes a b xs → Writes a b ys
as_told {a} {b} e w = subst (Writes a b) e w

-- what is left of a list with commas, from an item on
abbrev pub commas_from : ℕ → Symbol → List Kinds → Kinds
commas_from zero closer xs = with_commas closer xs
commas_from (suc n) closer xs = behind_commas closer xs

-- what is left of a list at an item
pub from_item : {A : Type 0} (xs : List A) (i : ℕ) (x : A) → x ≡ get_or xs i x → i < length xs → drop i xs ≡ x ∷ drop (i + 1) xs
from_item xs i x e h = drop-cons xs i x h ∙ ap (λ y. y ∷ drop (suc i) xs) (sym e) ∙ ap (λ n. x ∷ drop n xs) (sym (add-one i))

comma_first : (closer : Symbol) (i : ℕ) (x : Kinds) (xs : List Kinds) → comma_before i ++ (x ++ commas_from (suc i) closer xs) ≡ commas_from i closer (x ∷ xs)
comma_first closer zero x xs = refl
comma_first closer (suc i) x xs = refl

comma_last : (closer : Symbol) (i : ℕ) → sign closer ≡ commas_from i closer []
comma_last closer zero = refl
comma_last closer (suc i) = refl

-- a turn of a loop that writes a list with commas, and what is written behind it
pub comma_turn : {A : Type 0} (f : A → Kinds) (closer : Symbol) (xs : List A) (i : ℕ) (x : A) {a b d e : List ℕ} → x ≡ get_or xs i x → i < length xs → Writes a b (comma_before i) → Writes b d (f x)
    → Writes d e (commas_from (i + 1) closer (map f (drop (i + 1) xs))) → Writes a e (commas_from i closer (map f (drop i xs)))
comma_turn f closer xs i x k h u v w = as_told
    (ap (λ n. comma_before i ++ (f x ++ commas_from n closer (map f (drop (i + 1) xs)))) (add-one i) ∙ comma_first closer i (f x) (map f (drop (i + 1) xs)) ∙ ap (λ ys. commas_from i closer (map f ys)) (sym (from_item xs i x k h)))
    (behind u (behind v w))

pub commas_end : {A : Type 0} (f : A → Kinds) (closer : Symbol) (xs : List A) (i : ℕ) {a b : List ℕ} → length xs ≤ i → Writes a b (sign closer) → Writes a b (commas_from i closer (map f (drop i xs)))
commas_end f closer xs i h w = as_told (comma_last closer i ∙ ap (λ ys. commas_from i closer (map f ys)) (sym (drop_all i xs h))) w

-- the same of a loop that writes its items alone
pub turn : {A : Type 0} (f : A → Kinds) (xs : List A) (i : ℕ) (x : A) {a b e : List ℕ} → x ≡ get_or xs i x → i < length xs → Writes a b (f x) → Writes b e (in_order (map f (drop (i + 1) xs))) → Writes a e (in_order (map f (drop i xs)))
turn f xs i x k h u w = as_told (ap (λ ys. in_order (map f ys)) (sym (from_item xs i x k h))) (behind u w)

pub end_of_turns : {A : Type 0} (f : A → Kinds) (xs : List A) (i : ℕ) (a : List ℕ) → length xs ≤ i → Writes a a (in_order (map f (drop i xs)))
end_of_turns f xs i a h = as_told (ap (λ ys. in_order (map f ys)) (sym (drop_all i xs h))) (nothing a)

-- the same of a loop that writes each item behind a comma, and then what closes them
pub behind_turn : {A : Type 0} (f : A → Kinds) (closer : Symbol) (xs : List A) (i : ℕ) (x : A) {a b d e : List ℕ} → x ≡ get_or xs i x → i < length xs → Writes a b (sign symbols.Comma) → Writes b d (f x)
    → Writes d e (behind_commas closer (map f (drop (i + 1) xs))) → Writes a e (behind_commas closer (map f (drop i xs)))
behind_turn f closer xs i x k h u v w = as_told (ap (λ ys. behind_commas closer (map f ys)) (sym (from_item xs i x k h))) (behind u (behind v w))

pub behind_end : {A : Type 0} (f : A → Kinds) (closer : Symbol) (xs : List A) (i : ℕ) {a b : List ℕ} → length xs ≤ i → Writes a b (sign closer) → Writes a b (behind_commas closer (map f (drop i xs)))
behind_end f closer xs i h w = as_told (ap (λ ys. behind_commas closer (map f ys)) (sym (drop_all i xs h))) w

-- what is left of a string with holes, from a hole on, behind a text
abbrev pub holes_from : ℕ → List ℕ → List HoleKinds → Kinds
holes_from zero text hs = with_holes text hs
holes_from (suc n) text hs = behind_hole text hs

hole_first : (i : ℕ) (text : List ℕ) (h : HoleKinds) (hs : List HoleKinds) → opening i text ++ (h.0 ++ holes_from (suc i) h.1 hs) ≡ holes_from i text (h ∷ hs)
hole_first zero text h hs = refl
hole_first (suc i) text h hs = refl

hole_last : (i : ℕ) (text : List ℕ) → closing i text ≡ holes_from i text []
hole_last zero text = refl
hole_last (suc i) text = refl

hole_tokens : (h : Hole) → tokens_of_hole h ≡ (tokens_of_expr (out-Hole h).value, (out-Hole h).behind)
hole_tokens h = fold_out-Hole Kinds Kinds Kinds HoleKinds Kinds expr_layer suffix_layer field_value_layer hole_layer operand_layer h

pub hole_turn : (text : List ℕ) (hs : List Hole) (i : ℕ) (h : Hole) {a b d e : List ℕ} → h ≡ get_or hs i h → i < length hs → Writes a b (opening i text) → Writes b d (tokens_of_expr (out-Hole h).value)
    → Writes d e (holes_from (i + 1) (out-Hole h).behind (map tokens_of_hole (drop (i + 1) hs))) → Writes a e (holes_from i text (map tokens_of_hole (drop i hs)))
hole_turn text hs i h k l u v w = as_told
    (ap (λ n. opening i text ++ (tokens_of_expr (out-Hole h).value ++ holes_from n (out-Hole h).behind (map tokens_of_hole (drop (i + 1) hs)))) (add-one i)
    ∙ ap (λ z. opening i text ++ (z.0 ++ holes_from (suc i) z.1 (map tokens_of_hole (drop (i + 1) hs)))) (sym (hole_tokens h))
    ∙ hole_first i text (tokens_of_hole h) (map tokens_of_hole (drop (i + 1) hs)) ∙ ap (λ ys. holes_from i text (map tokens_of_hole ys)) (sym (from_item hs i h k l)))
    (behind u (behind v w))

pub holes_end : (text : List ℕ) (hs : List Hole) (i : ℕ) {a b : List ℕ} → length hs ≡ i → length hs ≤ i → Writes a b (closing (length hs) text) → Writes a b (holes_from i text (map tokens_of_hole (drop i hs)))
holes_end text hs i e h w = as_told (ap (λ n. closing n text) e ∙ hole_last i text ∙ ap (λ ys. holes_from i text (map tokens_of_hole ys)) (sym (drop_all i hs h))) w

-- items that were told of another list, which is the same
pub at_slice : {A : Type 0} {a b : List ℕ} {xs ys : List A} (f : List A → Kinds) → xs ≡ ys → Writes a b (f xs) → Writes a b (f ys)
at_slice f e w = as_told (ap f e) w
