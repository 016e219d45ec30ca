-- The longest symbol at the front of bytes.
use Rattle.std.proofs.Common.{◌≡◌, ℕ, ◌≤◌, Bool, true, false, cond, eqb, ◌&&◌, Option, Some, None, List, [], ◌∷◌, ◌++◌, length, drop, refl, sym, ap, ◌∙◌, subst, arith}
use Rattle.std.proofs.lemmas.Bool.{eqb-true}
use Rattle.slint_literals.proofs.Choices.{both}
use Rattle.slint_lexer.specs.declared.tokens.Symbol.{Symbol}
use Rattle.slint_lexer.specs.declared.tokens.Symbol.TheVariants as symbols
use Rattle.slint_lexer.specs.Reading.{and_equal, and_greater, two_bytes, three_bytes, bracket, operator, mark, first_of, one_byte, with_length, longer, top_symbol}
use Rattle.slint_lexer.specs.Symbols.{symbol_text}
use Rattle.slint_lexer.proofs.SymbolTexts.{symbol_of, symbol_of-text}

-- a choice of symbols: what holds of both ways holds of what is found
either : (P : Symbol → Type 0) (t : Bool) (x k : Symbol) (others : Option Symbol) → (t ≡ true → P x) → (others ≡ Some k → P k) → cond t (Some x) others ≡ Some k → P k
either P true x k others p q h = let same : x ≡ k = cc in subst P same (p refl)
either P false x k others p q h = q h

nowhere : (P : Symbol → Type 0) (k : Symbol) → None ≡ Some k → P k
nowhere P k h = cc

abbrev IsOne : ℕ → Symbol → Type 0
IsOne a k = symbol_text k ≡ a ∷ []

one : (a b : ℕ) → eqb a b ≡ true → b ∷ [] ≡ a ∷ []
one a b h = ap (λ x. x ∷ []) (sym (eqb-true a b h))

bracket_is : (a : ℕ) (k : Symbol) → bracket a ≡ Some k → IsOne a k
bracket_is a k =
    either (IsOne a) (eqb a 123) symbols.OpenBrace k _ (one a 123)
    (either (IsOne a) (eqb a 125) symbols.CloseBrace k _ (one a 125)
    (either (IsOne a) (eqb a 40) symbols.OpenParen k _ (one a 40)
    (either (IsOne a) (eqb a 41) symbols.CloseParen k _ (one a 41)
    (either (IsOne a) (eqb a 91) symbols.OpenBracket k _ (one a 91)
    (either (IsOne a) (eqb a 93) symbols.CloseBracket k None (one a 93) (nowhere (IsOne a) k))))))

operator_is : (a : ℕ) (k : Symbol) → operator a ≡ Some k → IsOne a k
operator_is a k =
    either (IsOne a) (eqb a 60) symbols.Less k _ (one a 60)
    (either (IsOne a) (eqb a 62) symbols.Greater k _ (one a 62)
    (either (IsOne a) (eqb a 61) symbols.Equal k _ (one a 61)
    (either (IsOne a) (eqb a 33) symbols.Bang k _ (one a 33)
    (either (IsOne a) (eqb a 43) symbols.Plus k _ (one a 43)
    (either (IsOne a) (eqb a 45) symbols.Minus k _ (one a 45)
    (either (IsOne a) (eqb a 42) symbols.Star k _ (one a 42)
    (either (IsOne a) (eqb a 47) symbols.Slash k None (one a 47) (nowhere (IsOne a) k))))))))

mark_is : (a : ℕ) (k : Symbol) → mark a ≡ Some k → IsOne a k
mark_is a k =
    either (IsOne a) (eqb a 58) symbols.Colon k _ (one a 58)
    (either (IsOne a) (eqb a 59) symbols.Semicolon k _ (one a 59)
    (either (IsOne a) (eqb a 44) symbols.Comma k _ (one a 44)
    (either (IsOne a) (eqb a 46) symbols.Dot k _ (one a 46)
    (either (IsOne a) (eqb a 63) symbols.Question k _ (one a 63)
    (either (IsOne a) (eqb a 64) symbols.At k None (one a 64) (nowhere (IsOne a) k))))))

first_is : (P : Symbol → Type 0) (x y : Option Symbol) (k : Symbol) → (x ≡ Some k → P k) → (y ≡ Some k → P k) → first_of x y ≡ Some k → P k
first_is P None y k p q h = q h
first_is P (Some j) y k p q h = p h

one_byte_is : (a : ℕ) (k : Symbol) → one_byte a ≡ Some k → symbol_text k ≡ a ∷ []
one_byte_is a k = first_is (IsOne a) (bracket a) (first_of (operator a) (mark a)) k (bracket_is a k) (first_is (IsOne a) (operator a) (mark a) k (operator_is a k) (mark_is a k))

abbrev IsTwo : ℕ → ℕ → Symbol → Type 0
IsTwo a b k = symbol_text k ≡ a ∷ b ∷ []

two : (a b c d : ℕ) → eqb b d ≡ true → eqb a c ≡ true → c ∷ d ∷ [] ≡ a ∷ b ∷ []
two a b c d h k = ap (λ x. x ∷ d ∷ []) (sym (eqb-true a c k)) ∙ ap (λ x. a ∷ x ∷ []) (sym (eqb-true b d h))

equal_is : (a b : ℕ) (k : Symbol) → eqb b 61 ≡ true → and_equal a ≡ Some k → IsTwo a b k
equal_is a b k h =
    either (IsTwo a b) (eqb a 58) symbols.ColonEqual k _ (two a b 58 61 h)
    (either (IsTwo a b) (eqb a 61) symbols.EqualEqual k _ (two a b 61 61 h)
    (either (IsTwo a b) (eqb a 33) symbols.NotEqual k _ (two a b 33 61 h)
    (either (IsTwo a b) (eqb a 60) symbols.LessEqual k _ (two a b 60 61 h)
    (either (IsTwo a b) (eqb a 62) symbols.GreaterEqual k _ (two a b 62 61 h)
    (either (IsTwo a b) (eqb a 43) symbols.PlusEqual k _ (two a b 43 61 h)
    (either (IsTwo a b) (eqb a 45) symbols.MinusEqual k _ (two a b 45 61 h)
    (either (IsTwo a b) (eqb a 42) symbols.StarEqual k _ (two a b 42 61 h)
    (either (IsTwo a b) (eqb a 47) symbols.SlashEqual k None (two a b 47 61 h) (nowhere (IsTwo a b) k)))))))))

greater_is : (a b : ℕ) (k : Symbol) → eqb b 62 ≡ true → and_greater a ≡ Some k → IsTwo a b k
greater_is a b k h =
    either (IsTwo a b) (eqb a 61) symbols.FatArrow k _ (two a b 61 62 h)
    (either (IsTwo a b) (eqb a 45) symbols.ThinArrow k None (two a b 45 62 h) (nowhere (IsTwo a b) k))

pair : (a b c d : ℕ) → (eqb a c && eqb b d) ≡ true → c ∷ d ∷ [] ≡ a ∷ b ∷ []
pair a b c d h = let parts = both (eqb a c) (eqb b d) h in two a b c d parts.1 parts.0

two_by : (t u : Bool) (a b : ℕ) (k : Symbol) → eqb b 61 ≡ t → eqb b 62 ≡ u
    → cond t (and_equal a) (cond u (and_greater a) (cond (eqb a 38 && eqb b 38) (Some symbols.AndAnd) (cond (eqb a 124 && eqb b 124) (Some symbols.OrOr) None))) ≡ Some k → IsTwo a b k
two_by true u a b k e f h = equal_is a b k e h
two_by false true a b k e f h = greater_is a b k f h
two_by false false a b k e f h =
    either (IsTwo a b) (eqb a 38 && eqb b 38) symbols.AndAnd k _ (pair a b 38 38)
    (either (IsTwo a b) (eqb a 124 && eqb b 124) symbols.OrOr k None (pair a b 124 124) (nowhere (IsTwo a b) k)) h

two_bytes_is : (a b : ℕ) (k : Symbol) → two_bytes a b ≡ Some k → symbol_text k ≡ a ∷ b ∷ []
two_bytes_is a b k = two_by (eqb b 61) (eqb b 62) a b k refl refl

three : (a b c : ℕ) → (eqb a 60 && (eqb b 61 && eqb c 62)) ≡ true → symbol_text symbols.TwoWay ≡ a ∷ b ∷ c ∷ []
three a b c h =
    let first = both (eqb a 60) (eqb b 61 && eqb c 62) h in
    let others = both (eqb b 61) (eqb c 62) first.1 in
    ap (λ x. x ∷ 61 ∷ 62 ∷ []) (sym (eqb-true a 60 first.0)) ∙ ap (λ x. a ∷ x ∷ 62 ∷ []) (sym (eqb-true b 61 others.0)) ∙ ap (λ x. a ∷ b ∷ x ∷ []) (sym (eqb-true c 62 others.1))

abbrev IsThree : ℕ → ℕ → ℕ → Symbol → Type 0
IsThree a b c k = symbol_text k ≡ a ∷ b ∷ c ∷ []

three_bytes_is : (a b c : ℕ) (s : List ℕ) (k : Symbol) → three_bytes a b (c ∷ s) ≡ Some k → symbol_text k ≡ a ∷ b ∷ c ∷ []
three_bytes_is a b c s k = either (IsThree a b c) (eqb a 60 && (eqb b 61 && eqb c 62)) symbols.TwoWay k None (three a b c) (nowhere (IsThree a b c) k)

-- what is found at the front: so many bytes spell it
pub record IsAtFront (s : List ℕ) (k : Symbol) (n : ℕ) : Type 0 where
  pub whole : s ≡ symbol_text k ++ drop n s
  pub count : length (symbol_text k) ≡ n
  pub within : n ≤ length s

with_is : (s : List ℕ) (m : ℕ) (found : Option Symbol) (k : Symbol) (n : ℕ) → ((j : Symbol) → found ≡ Some j → IsAtFront s j m) → with_length m found ≡ Some (k, n) → IsAtFront s k n
with_is s m None k n p h = cc
with_is s m (Some j) k n p h =
    let same : ◌≡◌ {A = Symbol × ℕ} (j, m) (k, n) = cc in
    subst (λ x. IsAtFront s x.0 x.1) same (p j refl)

longer_is : (s : List ℕ) (x y : Option (Symbol × ℕ)) (k : Symbol) (n : ℕ) → (x ≡ Some (k, n) → IsAtFront s k n) → (y ≡ Some (k, n) → IsAtFront s k n) → longer x y ≡ Some (k, n) → IsAtFront s k n
longer_is s None y k n p q h = q h
longer_is s (Some found) y k n p q h = p h

at_front : (a : ℕ) (t s : List ℕ) (k : Symbol) (n : ℕ) → symbol_text k ≡ t → s ≡ t ++ drop n s → length t ≡ n → n ≤ length s → IsAtFront s k n
at_front a t s k n e whole count within = record { whole = whole ∙ ap (λ x. x ++ drop n s) (sym e); count = ap length e ∙ count; within = within }

front_three : (a b : ℕ) (s : List ℕ) (j : Symbol) → three_bytes a b s ≡ Some j → IsAtFront (a ∷ b ∷ s) j 3
front_three a b [] j h = cc
front_three a b (c ∷ s) j h = at_front a (a ∷ b ∷ c ∷ []) (a ∷ b ∷ c ∷ s) j 3 (three_bytes_is a b c s j h) refl refl (omega arith)

pub top_is : (s : List ℕ) (k : Symbol) (n : ℕ) → top_symbol s ≡ Some (k, n) → IsAtFront s k n
top_is [] k n h = cc
top_is (a ∷ []) k n h = with_is (a ∷ []) 1 (one_byte a) k n (λ j e. at_front a (a ∷ []) (a ∷ []) j 1 (one_byte_is a j e) refl refl (omega arith)) h
top_is (a ∷ b ∷ s) k n h =
    longer_is (a ∷ b ∷ s) (with_length 3 (three_bytes a b s)) (longer (with_length 2 (two_bytes a b)) (with_length 1 (one_byte a))) k n
    (with_is (a ∷ b ∷ s) 3 (three_bytes a b s) k n (front_three a b s))
    (longer_is (a ∷ b ∷ s) (with_length 2 (two_bytes a b)) (with_length 1 (one_byte a)) k n
    (with_is (a ∷ b ∷ s) 2 (two_bytes a b) k n (λ j e. at_front a (a ∷ b ∷ []) (a ∷ b ∷ s) j 2 (two_bytes_is a b j e) refl refl (omega arith)))
    (with_is (a ∷ b ∷ s) 1 (one_byte a) k n (λ j e. at_front a (a ∷ []) (a ∷ b ∷ s) j 1 (one_byte_is a j e) refl refl (omega arith))))
    h

-- no symbol at the front is longer

pub record AtLeast (m : ℕ) (found : Option (Symbol × ℕ)) : Type 0 where
  pub symbol : Symbol
  pub count : ℕ
  pub is : found ≡ Some (symbol, count)
  pub enough : m ≤ count

least_with : (m n : ℕ) (found : Option Symbol) (k : Symbol) → found ≡ Some k → m ≤ n → AtLeast m (with_length n found)
least_with m n found k e h = record { symbol = k; count = n; is = ap (with_length n) e; enough = h }

least_longer : (m n : ℕ) (found : Option Symbol) (y : Option (Symbol × ℕ)) → m ≤ n → AtLeast m y → AtLeast m (longer (with_length n found) y)
least_longer m n None y h l = l
least_longer m n (Some k) y h l = record { symbol = k; count = n; is = refl; enough = h }

least_first : (m : ℕ) (x y : Option (Symbol × ℕ)) → AtLeast m x → AtLeast m (longer x y)
least_first m None y l = let e : ◌≡◌ {A = Option (Symbol × ℕ)} None (Some (l.symbol, l.count)) = l.is in cc
least_first m (Some found) y l = record { symbol = l.symbol; count = l.count; is = l.is; enough = l.enough }

longest_one : (a : ℕ) (q : List ℕ) (k : Symbol) → one_byte a ≡ Some k → AtLeast 1 (top_symbol (a ∷ q))
longest_one a [] k e = least_with 1 1 (one_byte a) k e (omega arith)
longest_one a (b ∷ q) k e = least_longer 1 3 (three_bytes a b q) _ (omega arith) (least_longer 1 2 (two_bytes a b) _ (omega arith) (least_with 1 1 (one_byte a) k e (omega arith)))

longest_by : (t q : List ℕ) (k : Symbol) → symbol_of t ≡ Some k → AtLeast (length t) (top_symbol (t ++ q))
unfolding symbol_of
longest_by [] q k e = cc
longest_by (a ∷ []) q k e = longest_one a q k e
longest_by (a ∷ b ∷ []) q k e = least_longer 2 3 (three_bytes a b q) _ (omega arith) (least_first 2 (with_length 2 (two_bytes a b)) _ (least_with 2 2 (two_bytes a b) k e (omega arith)))
longest_by (a ∷ b ∷ c ∷ []) q k e = least_first 3 (with_length 3 (three_bytes a b (c ∷ q))) _ (least_with 3 3 (three_bytes a b (c ∷ q)) k e (omega arith))
longest_by (a ∷ b ∷ c ∷ d ∷ t) q k e = cc

pub top_longest : (s q : List ℕ) (k : Symbol) → s ≡ symbol_text k ++ q → AtLeast (length (symbol_text k)) (top_symbol s)
top_longest s q k e = subst (λ t. AtLeast (length (symbol_text k)) (top_symbol t)) (sym e) (longest_by (symbol_text k) q k (symbol_of-text k))
