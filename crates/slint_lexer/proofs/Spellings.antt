-- That written tokens are read as they are.
use Rattle.std.proofs.Common.{◌≡◌, ℕ, ◌^◌, ◌<◌, ◌≤◌, Bool, true, false, cond, eqb, ltb, ◌&&◌, ◌||◌, inl, inr, Some, None, List, [], ◌∷◌, ◌++◌, length, take, drop, map, get_or, refl, sym, ap, ◌∙◌, subst, arith}
use Rattle.std.specs.Char.{is_ascii_digit, is_ascii_alphabetic, is_ascii_alphanumeric}
use Rattle.std.specs.List.{list_all, prefix_len}
use Rattle.std.specs.Str.{IsUtf8, chars}
use Rattle.std.proofs.Math.Utf8.{scalar, scalars, encode, encodes, low_scalar}
use Rattle.std.proofs.lemmas.Bool.{cases_lt, ne_eqb, or_right}
use Rattle.std.proofs.lemmas.Bool.Decides.{nat_tests}
use Rattle.std.proofs.lemmas.List.{append_assoc, length-append, take_at, drop_at, get_or_append_left}
use Rattle.std.proofs.lemmas.Str.{encode_ascii, chars-encodes}
use Rattle.unicode_ident.specs.Ident.{is_xid_continue}
use Rattle.unicode_ident.proofs.IdentLemmas.{is_xid_start-ascii, is_xid_continue-ascii}
use Rattle.slint_base.specs.Names.{dashed, normal_chars, normal_name}
use Rattle.slint_literals.specs.declared.numbers.Number.{Number}
use Rattle.slint_literals.specs.Characters.{front_char}
use Rattle.slint_literals.specs.Numbers.{some_digits, is_unit, is_number, number_length, number_value}
use Rattle.slint_literals.specs.Printed.{printed_text}
use Rattle.slint_literals.specs.Spelled.{last_digits, spelled_number, spelled_colour, IsWorth}
use Rattle.slint_literals.specs.Strings.{text_step, IsRun}
use Rattle.slint_literals.proofs.Chars.{front_char-encode, bounded}
use Rattle.slint_literals.proofs.Choices.{both, both_true}
use Rattle.slint_literals.proofs.NumberTexts.{numeral_is, no_longer, ended_length, prefix_len-whole}
use Rattle.slint_literals.proofs.PrintedTexts.{printed_reads, high_bytes}
use Rattle.slint_literals.proofs.SpelledNumbers.{spelled_worth, colour_digits_alnum, colour_worth}
use Rattle.slint_lexer.specs.declared.classes.Class.TheVariants.{Blank, Digit, Hash, Quote, Close, Slash, Word, Other}
use Rattle.slint_lexer.specs.declared.tokens.Symbol.{Symbol}
use Rattle.slint_lexer.specs.declared.tokens.Symbol.TheVariants as symbols
use Rattle.slint_lexer.specs.declared.tokens.TokenKind.{TokenKind}
use Rattle.slint_lexer.specs.declared.tokens.TokenKind.TheVariants as kinds
use Rattle.slint_lexer.specs.Found.{part_length, hash_length, BeginsText, IsWholeName}
use Rattle.slint_lexer.specs.Names.{is_name_start, is_name_part, starts_name, begins_name, IsName}
use Rattle.slint_lexer.specs.Pieces.{Apart, Tok, is_blank, class_of, closed_text, holed_text, number_what, colour_what, Front}
use Rattle.slint_lexer.specs.Reading.{one_byte, two_bytes, three_bytes, with_length, longer, top_symbol}
use Rattle.slint_lexer.specs.Spelled.{spelled, IsNormal, ReadySymbol, Ready}
use Rattle.slint_lexer.specs.Symbols.{symbol_text}
use Rattle.slint_lexer.proofs.Fronts.{front_as, symbol_front, text_front, slash_by, hash_longest, word_front}

-- a blank
pub blank_front : (ends : Bool) (s : List ℕ) → Front ends (32 ∷ s) Apart s
blank_front ends s = front_as Blank ends 32 s Apart s refl (refl, refl) (λ v q h. let same : length q ≡ length s = ap length h.0 in omega arith)

-- symbols

ascii_front : (b : ℕ) (s : List ℕ) → b < 128 → front_char (b ∷ s) ≡ Some b
ascii_front b s h = ap (λ t. front_char (t ++ s)) (sym (encode_ascii b h)) ∙ front_char-encode b s (low_scalar b (omega arith))

no_word : (b : ℕ) (s : List ℕ) → b < 128 → is_ascii_alphabetic b ≡ false → eqb b 95 ≡ false → begins_name (b ∷ s) ≡ false
no_word b s h k l =
    ap starts_name (ascii_front b s h) ∙ ap (λ t. t || eqb b 95) (is_xid_start-ascii b h ∙ k) ∙ l

-- a byte of no other class
abbrev is_plain : ℕ → Bool
is_plain b = cond (is_blank b) false (cond (is_ascii_digit b) false (cond (eqb b 35) false (cond (eqb b 34) false (cond (eqb b 125) false (cond (eqb b 47) false (cond (is_ascii_alphabetic b) false (cond (eqb b 95) false (ltb b 128))))))))

other_by : (t1 t2 t3 t4 t5 t6 t7 t8 t9 name : Bool) → cond t1 false (cond t2 false (cond t3 false (cond t4 false (cond t5 false (cond t6 false (cond t7 false (cond t8 false t9))))))) ≡ true → name ≡ false
    → cond t1 Blank (cond t2 Digit (cond t3 Hash (cond t4 Quote (cond t5 Close (cond t6 Slash (cond name Word Other)))))) ≡ Other
other_by true t2 t3 t4 t5 t6 t7 t8 t9 name h e = cc
other_by false true t3 t4 t5 t6 t7 t8 t9 name h e = cc
other_by false false true t4 t5 t6 t7 t8 t9 name h e = cc
other_by false false false true t5 t6 t7 t8 t9 name h e = cc
other_by false false false false true t6 t7 t8 t9 name h e = cc
other_by false false false false false true t7 t8 t9 name h e = cc
other_by false false false false false false t7 t8 t9 name h e = ap (λ t. cond t Word Other) e

-- the class of a symbol's first byte, from what is known of the byte
pub other_class : (b : ℕ) (s : List ℕ) → is_plain b ≡ true → b < 128 → is_ascii_alphabetic b ≡ false → eqb b 95 ≡ false → class_of (b ∷ s) ≡ Other
other_class b s h low letter underscore =
    other_by (is_blank b) (is_ascii_digit b) (eqb b 35) (eqb b 34) (eqb b 125) (eqb b 47) (is_ascii_alphabetic b) (eqb b 95) (ltb b 128) (begins_name (b ∷ s)) h (no_word b s low letter underscore)

other_front : (ends : Bool) (b : ℕ) (s : List ℕ) (k : Symbol) (n : ℕ) → is_plain b ≡ true → b < 128 → is_ascii_alphabetic b ≡ false → eqb b 95 ≡ false → top_symbol (b ∷ s) ≡ Some (k, n) → Front ends (b ∷ s) (Tok (kinds.Symbol k)) (drop n (b ∷ s))
other_front ends b s k n h low letter underscore top = symbol_front Other ends b s k n (other_class b s h low letter underscore) (λ w r x. x) (λ w r x. x) top

three_by : (t : Bool) → cond (t && false) (Some symbols.TwoWay) None ≡ None
three_by true = refl
three_by false = refl

three_none : (a : ℕ) (s : List ℕ) → three_bytes a 32 s ≡ None
three_none a [] = refl
three_none a (c ∷ s) = three_by (eqb a 60)

-- the symbol of one byte before a blank
one_top : (a : ℕ) (s : List ℕ) (k : Symbol) → two_bytes a 32 ≡ None → one_byte a ≡ Some k → top_symbol (a ∷ 32 ∷ s) ≡ Some (k, 1)
one_top a s k h e =
    ap (λ t. longer (with_length 3 t) (longer (with_length 2 (two_bytes a 32)) (with_length 1 (one_byte a)))) (three_none a s)
    ∙ ap (λ t. longer (with_length 2 t) (with_length 1 (one_byte a))) h
    ∙ ap (with_length 1) e

one_front : (ends : Bool) (a : ℕ) (s : List ℕ) (k : Symbol) → is_plain a ≡ true → a < 128 → is_ascii_alphabetic a ≡ false → eqb a 95 ≡ false → two_bytes a 32 ≡ None → one_byte a ≡ Some k → Front ends (a ∷ 32 ∷ s) (Tok (kinds.Symbol k)) (32 ∷ s)
one_front ends a s k h low letter underscore two one = other_front ends a (32 ∷ s) k 1 h low letter underscore (one_top a s k two one)

two_front : (ends : Bool) (a b : ℕ) (s : List ℕ) (k : Symbol) → is_plain a ≡ true → a < 128 → is_ascii_alphabetic a ≡ false → eqb a 95 ≡ false → three_bytes a b (32 ∷ s) ≡ None → two_bytes a b ≡ Some k → Front ends (a ∷ b ∷ 32 ∷ s) (Tok (kinds.Symbol k)) (32 ∷ s)
two_front ends a b s k h low letter underscore three two =
    other_front ends a (b ∷ 32 ∷ s) k 2 h low letter underscore
    (ap (λ t. longer (with_length 3 t) (longer (with_length 2 (two_bytes a b)) (with_length 1 (one_byte a)))) three ∙ ap (λ t. longer (with_length 2 t) (with_length 1 (one_byte a))) two)

slash_front : (ends : Bool) (s : List ℕ) → Front ends (47 ∷ 32 ∷ s) (Tok (kinds.Symbol symbols.Slash)) (32 ∷ s)
slash_front ends s = (slash_by ends 47 (32 ∷ s) (Some (symbols.Slash, 1)) 1 refl refl (one_top 47 s symbols.Slash refl refl)).2

slash_equal_front : (ends : Bool) (s : List ℕ) → Front ends (47 ∷ 61 ∷ 32 ∷ s) (Tok (kinds.Symbol symbols.SlashEqual)) (32 ∷ s)
slash_equal_front ends s = (slash_by ends 47 (61 ∷ 32 ∷ s) (Some (symbols.SlashEqual, 2)) 2 refl refl refl).2

close_front : (ends : Bool) (s : List ℕ) → ends ≡ false → Front ends (125 ∷ s) (Tok (kinds.Symbol symbols.CloseBrace)) s
close_front true s h = cc
close_front false s h = front_as Close false 125 s (Tok (kinds.Symbol symbols.CloseBrace)) s refl (refl, refl) (λ v q x. let same : length q ≡ length s = ap length x.0 in omega arith)

symbol_is : (ends : Bool) (k : Symbol) (s : List ℕ) → ReadySymbol ends k → Front ends (symbol_text k ++ 32 ∷ s) (Tok (kinds.Symbol k)) (32 ∷ s)
symbol_is ends symbols.TwoWay s h = other_front ends 60 (61 ∷ 62 ∷ 32 ∷ s) symbols.TwoWay 3 refl (omega arith) refl refl refl
symbol_is ends symbols.ColonEqual s h = two_front ends 58 61 s symbols.ColonEqual refl (omega arith) refl refl refl refl
symbol_is ends symbols.FatArrow s h = two_front ends 61 62 s symbols.FatArrow refl (omega arith) refl refl refl refl
symbol_is ends symbols.ThinArrow s h = two_front ends 45 62 s symbols.ThinArrow refl (omega arith) refl refl refl refl
symbol_is ends symbols.EqualEqual s h = two_front ends 61 61 s symbols.EqualEqual refl (omega arith) refl refl refl refl
symbol_is ends symbols.NotEqual s h = two_front ends 33 61 s symbols.NotEqual refl (omega arith) refl refl refl refl
symbol_is ends symbols.LessEqual s h = two_front ends 60 61 s symbols.LessEqual refl (omega arith) refl refl refl refl
symbol_is ends symbols.GreaterEqual s h = two_front ends 62 61 s symbols.GreaterEqual refl (omega arith) refl refl refl refl
symbol_is ends symbols.PlusEqual s h = two_front ends 43 61 s symbols.PlusEqual refl (omega arith) refl refl refl refl
symbol_is ends symbols.MinusEqual s h = two_front ends 45 61 s symbols.MinusEqual refl (omega arith) refl refl refl refl
symbol_is ends symbols.StarEqual s h = two_front ends 42 61 s symbols.StarEqual refl (omega arith) refl refl refl refl
symbol_is ends symbols.SlashEqual s h = slash_equal_front ends s
symbol_is ends symbols.AndAnd s h = two_front ends 38 38 s symbols.AndAnd refl (omega arith) refl refl refl refl
symbol_is ends symbols.OrOr s h = two_front ends 124 124 s symbols.OrOr refl (omega arith) refl refl refl refl
symbol_is ends symbols.OpenBrace s h = one_front ends 123 s symbols.OpenBrace refl (omega arith) refl refl refl refl
symbol_is ends symbols.CloseBrace s h = close_front ends (32 ∷ s) h
symbol_is ends symbols.OpenParen s h = one_front ends 40 s symbols.OpenParen refl (omega arith) refl refl refl refl
symbol_is ends symbols.CloseParen s h = one_front ends 41 s symbols.CloseParen refl (omega arith) refl refl refl refl
symbol_is ends symbols.OpenBracket s h = one_front ends 91 s symbols.OpenBracket refl (omega arith) refl refl refl refl
symbol_is ends symbols.CloseBracket s h = one_front ends 93 s symbols.CloseBracket refl (omega arith) refl refl refl refl
symbol_is ends symbols.Less s h = one_front ends 60 s symbols.Less refl (omega arith) refl refl refl refl
symbol_is ends symbols.Greater s h = one_front ends 62 s symbols.Greater refl (omega arith) refl refl refl refl
symbol_is ends symbols.Equal s h = one_front ends 61 s symbols.Equal refl (omega arith) refl refl refl refl
symbol_is ends symbols.Colon s h = one_front ends 58 s symbols.Colon refl (omega arith) refl refl refl refl
symbol_is ends symbols.Semicolon s h = one_front ends 59 s symbols.Semicolon refl (omega arith) refl refl refl refl
symbol_is ends symbols.Comma s h = one_front ends 44 s symbols.Comma refl (omega arith) refl refl refl refl
symbol_is ends symbols.Dot s h = one_front ends 46 s symbols.Dot refl (omega arith) refl refl refl refl
symbol_is ends symbols.Bang s h = one_front ends 33 s symbols.Bang refl (omega arith) refl refl refl refl
symbol_is ends symbols.Question s h = one_front ends 63 s symbols.Question refl (omega arith) refl refl refl refl
symbol_is ends symbols.Plus s h = one_front ends 43 s symbols.Plus refl (omega arith) refl refl refl refl
symbol_is ends symbols.Minus s h = one_front ends 45 s symbols.Minus refl (omega arith) refl refl refl refl
symbol_is ends symbols.Star s h = one_front ends 42 s symbols.Star refl (omega arith) refl refl refl refl
symbol_is ends symbols.Slash s h = slash_front ends s
symbol_is ends symbols.At s h = one_front ends 64 s symbols.At refl (omega arith) refl refl refl refl

-- numbers

digit_no_blank : (b : ℕ) → is_ascii_digit b ≡ true → is_blank b ≡ false
digit_no_blank b h = grind (arith, nat_tests)

digit_class : (b : ℕ) (s : List ℕ) → is_ascii_digit b ≡ true → class_of (b ∷ s) ≡ Digit
digit_class b s h = rw (digit_no_blank b h) (rw h refl)

first_digit : (w rest : List ℕ) → some_digits w ≡ true → (b : ℕ) × (more : List ℕ) × (w ++ rest ≡ b ∷ more) × (is_ascii_digit b ≡ true)
first_digit [] rest h = cc
first_digit (b ∷ w) rest h = (b, w ++ rest, refl, (both (is_ascii_digit b) (list_all is_ascii_digit w) h).0)

number_by : (ends : Bool) (b : ℕ) (more s : List ℕ) (n : Number) → is_ascii_digit b ≡ true → is_number (b ∷ more) ≡ true → number_value (b ∷ more) ≡ Some n → number_length ((b ∷ more) ++ 32 ∷ s) ≡ length (b ∷ more) → Front ends ((b ∷ more) ++ 32 ∷ s) (Tok (kinds.Number n)) (32 ∷ s)
number_by ends b more s n digit good value ended =
    front_as Digit ends b (more ++ 32 ∷ s) (Tok (kinds.Number n)) (32 ∷ s) (digit_class b (more ++ 32 ∷ s) digit) (more, refl, good, sym (ap number_what value))
    (λ v q h.
    let longer_no : length (b ∷ h.0) ≤ number_length ((b ∷ h.0) ++ q) = no_longer (b ∷ h.0) q h.2 in
    let same : number_length ((b ∷ more) ++ 32 ∷ s) ≡ number_length ((b ∷ h.0) ++ q) = ap (λ t. number_length (b ∷ t)) h.1 in
    let counts : length (more ++ 32 ∷ s) ≡ length (h.0 ++ q) = ap length h.1 in
    omega (arith, length-append more (32 ∷ s), length-append h.0 q))

number_is : (ends : Bool) (text s : List ℕ) (n : Number) → IsWorth text n → Front ends (text ++ 32 ∷ s) (Tok (kinds.Number n)) (32 ∷ s)
number_is ends text s n worth =
    let parts = both (some_digits worth.whole) (list_all is_ascii_digit worth.fraction && is_unit worth.unit) worth.parts in
    let first = first_digit worth.whole _ parts.0 in
    let shape : text ≡ first.0 ∷ first.1 = worth.is ∙ first.2 in
    let good : is_number (first.0 ∷ first.1) ≡ true = ap is_number (sym first.2) ∙ (numeral_is worth.whole worth.fraction worth.unit worth.parts).0 in
    let value : number_value (first.0 ∷ first.1) ≡ Some n = ap number_value (sym shape) ∙ worth.value in
    let ended : number_length ((first.0 ∷ first.1) ++ 32 ∷ s) ≡ length (first.0 ∷ first.1) =
    ap (λ t. number_length (t ++ 32 ∷ s)) (sym first.2) ∙ ended_length worth.whole worth.fraction worth.unit s worth.parts ∙ ap length first.2 in
    subst (λ t. Front ends (t ++ 32 ∷ s) (Tok (kinds.Number n)) (32 ∷ s)) (sym shape) (number_by ends first.0 first.1 s n first.3 good value ended)

-- colours

colour_is : (ends : Bool) (c : ℕ) (s : List ℕ) → c < 2 ^ 32 → Front ends (spelled_colour c ++ 32 ∷ s) (Tok (kinds.Colour c)) (32 ∷ s)
colour_is ends c s h =
    let more = last_digits 16 8 c in
    let behind = more ++ 32 ∷ s in
    let count : prefix_len is_ascii_alphanumeric behind ≡ length more = prefix_len-whole is_ascii_alphanumeric more (32 ∷ s) (colour_digits_alnum c) refl in
    let rest : drop (hash_length behind) behind ≡ 32 ∷ s = drop_at more (32 ∷ s) (hash_length behind) (sym count) in
    front_as Hash ends 35 behind (Tok (kinds.Colour c)) (32 ∷ s) refl (more, refl, colour_digits_alnum c, sym (ap colour_what (colour_worth c h)))
    (λ v q x. let most = hash_longest behind x.0 q x.1 x.2 in let counts = ap length rest in omega arith)

-- strings

text_begins : (text s : List ℕ) → IsUtf8 text → text_step (text, s) ≡ None → IsRun (printed_text text ++ s) text s
text_begins text s u h = record { spelled = printed_reads text [] s u; ended = h }

closed_is : (first ends : Bool) (b : ℕ) (text s : List ℕ) → ((x : List ℕ) → BeginsText first ends (b ∷ x)) → IsUtf8 text → Front ends (b ∷ ((printed_text text ++ 34 ∷ []) ++ 32 ∷ s)) (Tok (closed_text first text)) (32 ∷ s)
closed_is first ends b text s h u =
    let whole : printed_text text ++ 34 ∷ 32 ∷ s ≡ (printed_text text ++ 34 ∷ []) ++ 32 ∷ s = sym (append_assoc (printed_text text) (34 ∷ []) (32 ∷ s)) in
    subst (λ t. Front ends (b ∷ t) (Tok (closed_text first text)) (32 ∷ s)) whole
    (text_front first ends b (printed_text text ++ 34 ∷ 32 ∷ s) text (34 ∷ 32 ∷ s) (Tok (closed_text first text)) (32 ∷ s) (h (printed_text text ++ 34 ∷ 32 ∷ s)) (text_begins text (34 ∷ 32 ∷ s) u refl) (refl, refl))

holed_is : (first ends : Bool) (b : ℕ) (text s : List ℕ) → ((x : List ℕ) → BeginsText first ends (b ∷ x)) → IsUtf8 text → Front ends (b ∷ ((printed_text text ++ 92 ∷ 123 ∷ []) ++ 32 ∷ s)) (Tok (holed_text first text)) (32 ∷ s)
holed_is first ends b text s h u =
    let whole : printed_text text ++ 92 ∷ 123 ∷ 32 ∷ s ≡ (printed_text text ++ 92 ∷ 123 ∷ []) ++ 32 ∷ s = sym (append_assoc (printed_text text) (92 ∷ 123 ∷ []) (32 ∷ s)) in
    subst (λ t. Front ends (b ∷ t) (Tok (holed_text first text)) (32 ∷ s)) whole
    (text_front first ends b (printed_text text ++ 92 ∷ 123 ∷ 32 ∷ s) text (92 ∷ 123 ∷ 32 ∷ s) (Tok (holed_text first text)) (32 ∷ s) (h (printed_text text ++ 92 ∷ 123 ∷ 32 ∷ s)) (text_begins text (92 ∷ 123 ∷ 32 ∷ s) u refl) (refl, refl))

-- names

dash_by : (t : Bool) (c : ℕ) → is_name_part c ≡ true → is_name_part (cond t 45 c) ≡ true
dash_by true c h = or_right (is_xid_continue 45) true refl
dash_by false c h = h

dash_part : (c : ℕ) → is_name_part c ≡ true → is_name_part (dashed c) ≡ true
dash_part c h = dash_by (eqb c 95) c h

dash_scalar : (t : Bool) (c : ℕ) → scalar c ≡ true → scalar (cond t 45 c) ≡ true
dash_scalar true c h = refl
dash_scalar false c h = h

dashed_parts : (cs : List ℕ) → list_all is_name_part cs ≡ true → list_all is_name_part (map dashed cs) ≡ true
dashed_parts [] h = refl
dashed_parts (c ∷ cs) h =
    let parts = both (is_name_part c) (list_all is_name_part cs) h in
    both_true (is_name_part (dashed c)) (list_all is_name_part (map dashed cs)) (dash_part c parts.0) (dashed_parts cs parts.1)

dashed_scalars : (cs : List ℕ) → scalars cs ≡ true → scalars (map dashed cs) ≡ true
dashed_scalars [] h = refl
dashed_scalars (c ∷ cs) h =
    let parts = both (scalar c) (scalars cs) h in
    both_true (scalar (dashed c)) (scalars (map dashed cs)) (dash_scalar (eqb c 95) c parts.0) (dashed_scalars cs parts.1)

dashed_once : (t : Bool) (c : ℕ) → eqb c 95 ≡ t → dashed (cond t 45 c) ≡ cond t 45 c
dashed_once true c h = refl
dashed_once false c h = ap (λ t. cond t 45 c) h

dashed_twice : (cs : List ℕ) → map dashed (map dashed cs) ≡ map dashed cs
dashed_twice [] = refl
dashed_twice (c ∷ cs) = ap (λ x. x ∷ map dashed (map dashed cs)) (dashed_once (eqb c 95) c refl) ∙ ap (λ t. dashed c ∷ t) (dashed_twice cs)

-- a normal name is a name, and its own normal form
record IsOwnNormal (name : List ℕ) : Type 0 where
  is_name : IsName name
  same : normal_name name ≡ name

normal_by : (text : List ℕ) (n : IsName text) → normal_name text ≡ encodes (n.first ∷ map dashed n.others)
normal_by text n = ap (λ t. encodes (normal_chars t)) (ap chars n.is ∙ chars-encodes (n.first ∷ n.others) n.are_chars)

own_normal : (name : List ℕ) → IsNormal name → IsOwnNormal name
own_normal name h =
    let n = h.1 in
    let is : name ≡ encodes (n.first ∷ map dashed n.others) = h.2 ∙ normal_by h.0 n in
    let parts = both (scalar n.first) (scalars n.others) n.are_chars in
    let are : scalars (n.first ∷ map dashed n.others) ≡ true = both_true (scalar n.first) (scalars (map dashed n.others)) parts.0 (dashed_scalars n.others parts.1) in
    let name_of : IsName name = record { first = n.first; others = map dashed n.others; are_chars = are; starts = n.starts; goes_on = dashed_parts n.others n.goes_on; is = is } in
    record { is_name = name_of; same = normal_by name name_of ∙ ap (λ t. encodes (n.first ∷ t)) (dashed_twice n.others) ∙ sym is }

-- the class of a name's first byte
start_ascii : (c : ℕ) → c < 128 → is_name_start c ≡ true → (is_ascii_alphabetic c || eqb c 95) ≡ true
start_ascii c h k = ap (λ t. t || eqb c 95) (sym (is_xid_start-ascii c h)) ∙ k

word_by : (b : ℕ) (s : List ℕ) → is_blank b ≡ false → is_ascii_digit b ≡ false → eqb b 35 ≡ false → eqb b 34 ≡ false → eqb b 125 ≡ false → eqb b 47 ≡ false → begins_name (b ∷ s) ≡ true → class_of (b ∷ s) ≡ Word
word_by b s h1 h2 h3 h4 h5 h6 h7 = rw h1 (rw h2 (rw h3 (rw h4 (rw h5 (rw h6 (rw h7 refl))))))

letter_blank : (c : ℕ) → (is_ascii_alphabetic c || eqb c 95) ≡ true → is_blank c ≡ false
letter_blank c h = grind (arith, nat_tests)

letter_digit : (c : ℕ) → (is_ascii_alphabetic c || eqb c 95) ≡ true → is_ascii_digit c ≡ false
letter_digit c h = grind (arith, nat_tests)

letter_not : (c d : ℕ) → (is_ascii_alphabetic d || eqb d 95) ≡ false → (is_ascii_alphabetic c || eqb c 95) ≡ true → eqb c d ≡ false
letter_not c d h k = ne_eqb c d (λ e. let bad : false ≡ true = sym h ∙ ap (λ x. is_ascii_alphabetic x || eqb x 95) (sym e) ∙ k in cc)

low_word : (c : ℕ) (s : List ℕ) → c < 128 → is_name_start c ≡ true → begins_name (c ∷ s) ≡ true → class_of (c ∷ s) ≡ Word
low_word c s low start begins =
    let letter = start_ascii c low start in
    word_by c s (letter_blank c letter) (letter_digit c letter) (letter_not c 35 refl letter) (letter_not c 34 refl letter) (letter_not c 125 refl letter) (letter_not c 47 refl letter) begins

high_blank : (b : ℕ) → 128 ≤ b → is_blank b ≡ false
high_blank b h = grind (arith, nat_tests)

high_digit : (b : ℕ) → 128 ≤ b → is_ascii_digit b ≡ false
high_digit b h = grind (arith, nat_tests)

high_word : (b : ℕ) (s : List ℕ) → 128 ≤ b → begins_name (b ∷ s) ≡ true → class_of (b ∷ s) ≡ Word
high_word b s h begins = word_by b s (high_blank b h) (high_digit b h) (ne_eqb b 35 (λ e. omega arith)) (ne_eqb b 34 (λ e. omega arith)) (ne_eqb b 125 (λ e. omega arith)) (ne_eqb b 47 (λ e. omega arith)) begins

first_word : (c : ℕ) (x y : List ℕ) → x ≡ encode c ++ y → scalar c ≡ true → is_name_start c ≡ true → begins_name x ≡ true
first_word c x y e h start = ap starts_name (ap front_char e ∙ front_char-encode c y h) ∙ start

first_high : (c b : ℕ) (s y : List ℕ) → b ∷ s ≡ encode c ++ y → 128 ≤ c → 128 ≤ b
first_high c b s y e h =
    let first : b ≡ get_or (encode c) 0 0 = ap (λ t. get_or t 0 0) e ∙ get_or_append_left (encode c) y 0 0 (omega (arith, bounded c)) in
    omega (arith, high_bytes c h 0 (omega (arith, bounded c)))

word_class : (c b : ℕ) (s y : List ℕ) → b ∷ s ≡ encode c ++ y → scalar c ≡ true → is_name_start c ≡ true → class_of (b ∷ s) ≡ Word
word_class c b s y e h start =
    let begins = first_word c (b ∷ s) y e h start in
    elim (cases_lt c 128) [
      | inl low ↦
          let first : b ≡ c = ap (λ t. get_or t 0 0) (e ∙ ap (λ t. t ++ y) (encode_ascii c low)) in
          let letter : (is_ascii_alphabetic b || eqb b 95) ≡ true = ap (λ x. is_ascii_alphabetic x || eqb x 95) first ∙ start_ascii c low start in
          low_word b s (omega arith) (ap is_name_start first ∙ start) begins
      | inr high ↦ high_word b s (first_high c b s y e high) begins
    ]

blank_ends : (s : List ℕ) → part_length (front_char (32 ∷ s)) ≡ 0
blank_ends s = ap part_length (ascii_front 32 s (omega arith)) ∙ ap (λ t. cond (t || eqb 32 45) 1 0) (is_xid_continue-ascii 32 (omega arith))

name_by : (ends : Bool) (name more s : List ℕ) (b : ℕ) → name ≡ b ∷ more → IsOwnNormal name → Front ends (name ++ 32 ∷ s) (Tok (kinds.Id name)) (32 ∷ s)
name_by ends name more s b e own =
    let n = own.is_name in
    let whole = name ++ 32 ∷ s in
    let shape : whole ≡ b ∷ (more ++ 32 ∷ s) = ap (λ t. t ++ 32 ∷ s) e in
    let first : b ∷ (more ++ 32 ∷ s) ≡ encode n.first ++ (encodes n.others ++ 32 ∷ s) = sym shape ∙ ap (λ t. t ++ 32 ∷ s) n.is ∙ append_assoc (encode n.first) (encodes n.others) (32 ∷ s) in
    let class : class_of (b ∷ (more ++ 32 ∷ s)) ≡ Word = word_class n.first b (more ++ 32 ∷ s) (encodes n.others ++ 32 ∷ s) first (both (scalar n.first) (scalars n.others) n.are_chars).0 n.starts in
    let front : take (length name) (b ∷ (more ++ 32 ∷ s)) ≡ name = ap (take (length name)) (sym shape) ∙ take_at name (32 ∷ s) (length name) refl in
    let rest : drop (length name) (b ∷ (more ++ 32 ∷ s)) ≡ 32 ∷ s = ap (drop (length name)) (sym shape) ∙ drop_at name (32 ∷ s) (length name) refl in
    let whole_name : IsWholeName (b ∷ (more ++ 32 ∷ s)) (length name) = record {
      within = omega (arith, ap length shape, length-append name (32 ∷ s));
      name = subst (λ t. IsName t) (sym front) n;
      ended = ap (λ t. part_length (front_char t)) rest ∙ blank_ends s;
    } in
    let found = word_front ends b (more ++ 32 ∷ s) (length name) class whole_name in
    let named : normal_name (take (length name) (b ∷ (more ++ 32 ∷ s))) ≡ name = ap normal_name front ∙ own.same in
    subst (λ t. Front ends t (Tok (kinds.Id name)) (32 ∷ s)) (sym shape)
    (subst (λ t. Front ends (b ∷ (more ++ 32 ∷ s)) (Tok (kinds.Id name)) t) rest
    (subst (λ t. Front ends (b ∷ (more ++ 32 ∷ s)) (Tok (kinds.Id t)) (drop (length name) (b ∷ (more ++ 32 ∷ s)))) named found))

name_shape : (name : List ℕ) → IsName name → (b : ℕ) × (more : List ℕ) × (name ≡ b ∷ more)
name_shape [] n = absurd (omega (arith, ap length n.is, length-append (encode n.first) (encodes n.others), bounded n.first))
name_shape (b ∷ more) n = (b, more, refl)

name_is : (ends : Bool) (name s : List ℕ) → IsNormal name → Front ends (name ++ 32 ∷ s) (Tok (kinds.Id name)) (32 ∷ s)
name_is ends name s h = let own = own_normal name h in let shape = name_shape name own.is_name in name_by ends name shape.1 s shape.0 shape.2 own

-- a token that is as reading gives it, written before a blank, is read as the token
pub ready_front : (ends : Bool) (k : TokenKind) (s : List ℕ) → Ready ends k → Front ends (spelled k ++ 32 ∷ s) (Tok k) (32 ∷ s)
ready_front ends (kinds.Id name) s h = name_is ends name s h
ready_front ends (kinds.Number n) s h = number_is ends (spelled_number n) s n (spelled_worth n h)
ready_front ends (kinds.Colour c) s h = colour_is ends c s h
ready_front ends (kinds.Str text) s h = closed_is true ends 34 text s (λ x. refl) h
ready_front ends (kinds.Head text) s h = holed_is true ends 34 text s (λ x. refl) h
ready_front ends (kinds.Mid text) s h = holed_is false ends 125 text s (λ x. (refl, h.0)) h.1
ready_front ends (kinds.Tail text) s h = closed_is false ends 125 text s (λ x. (refl, h.0)) h.1
ready_front ends (kinds.Symbol k) s h = symbol_is ends k s h
