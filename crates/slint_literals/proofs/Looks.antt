-- What lies at the front of the inside of a string, and how far it goes.
use Rattle.std.proofs.Common.{◌≡◌, ℕ, zero, suc, ◌+◌, ◌<◌, ◌≤◌, Bool, true, false, cond, eqb, ltb, ◌||◌, inl, inr, Option, Some, None, List, [], ◌∷◌, ◌++◌, length, take, drop, get_or, refl, sym, ap, ◌∙◌, subst, arith}
use Rattle.std.proofs.Math.Utf8.{encode}
use Rattle.std.specs.Char.{is_ascii_hexdigit}
use Rattle.std.specs.List.{prefix_len}
use Rattle.std.specs.Str.{IsUtf8}
use Rattle.std.specs.Str.Parse.{digits_value}
use Rattle.std.proofs.lemmas.Bool.{eqb-true, cases_lt}
use Rattle.std.proofs.lemmas.List.{get_or_past}
use Rattle.slint_literals.specs.declared.strings.Look.{Look}
use Rattle.slint_literals.specs.declared.strings.Look.TheVariants.{Plain, Escape, Quote, Hole, BadEscape, NotUtf8, End}
use Rattle.slint_literals.specs.Characters.{char_len}
use Rattle.slint_literals.specs.Strings.{IsWithin, scalar_of, braced_char, unicode_escape, unicode_look, escape_look, plain_look, text_look, behind_look, text_step, Takes}
use Rattle.slint_literals.proofs.Chars.{char_len_le, char_utf8}

-- a choice is within where both its ways are
either_within : (t : Bool) (x y : Look) (m : ℕ) → (t ≡ true → IsWithin x m) → IsWithin y m → IsWithin (cond t x y) m
either_within true x y m p q = p refl
either_within false x y m p q = q

code_within : (n count code : ℕ) (s : List ℕ) (c : ℕ) (t : Bool) → ((t ≡ true) → count < length s) → cond t (scalar_of code) None ≡ Some c → count < length s
code_within n count code s c true p h = p refl
code_within n count code s c false p h = cc

-- a closing brace behind the digits lies within
brace_within : (s : List ℕ) (count : ℕ) → eqb (get_or s count 0) 125 ≡ true → count < length s
brace_within s count h = elim (cases_lt count (length s)) [
  | inl less ↦ less
  | inr past ↦ let none : get_or s count 0 ≡ 0 = get_or_past s count 0 past in let brace : get_or s count 0 ≡ 125 = eqb-true (get_or s count 0) 125 h in absurd (omega arith)
]

braced_within : (count : ℕ) (s : List ℕ) (c : ℕ) (few : Bool) → cond few None (cond (eqb (get_or s count 0) 125) (scalar_of (digits_value 16 (take count s))) None) ≡ Some c → count < length s
braced_within count s c true h = cc
braced_within count s c false h = code_within 0 count (digits_value 16 (take count s)) s c (eqb (get_or s count 0) 125) (brace_within s count) h

unicode_by : (count : ℕ) (s : List ℕ) (found : Option ℕ) → braced_char count s ≡ found → IsWithin (unicode_escape count found) (length s + 3)
unicode_by count s None h = (omega arith, omega arith)
unicode_by count s (Some c) h = let less = braced_within count s c (eqb count 0 || ltb 6 count) h in (omega arith, omega arith)

unicode_within : (s : List ℕ) → IsWithin (unicode_look s) (length s + 2)
unicode_within [] = (omega arith, omega arith)
unicode_within (b ∷ s) =
    let count = prefix_len is_ascii_hexdigit s in
    let inside : IsWithin (unicode_escape count (braced_char count s)) (length s + 3) = unicode_by count s (braced_char count s) refl in
    let more : length s + 3 ≡ length (b ∷ s) + 2 = omega arith in
    either_within (eqb b 123) _ (BadEscape 2) (length (b ∷ s) + 2) (λ _. subst (λ m. IsWithin (unicode_escape count (braced_char count s)) m) more inside) (omega arith, omega arith)

pub escape_within : (s : List ℕ) → IsWithin (escape_look s) (length s + 1)
escape_within [] = (omega arith, omega arith)
escape_within (c ∷ s) =
    let room : 2 ≤ length (c ∷ s) + 1 = omega arith in
    let two : (0 < 2) × (2 ≤ length (c ∷ s) + 1) = (omega arith, room) in
    let same : length s + 2 ≡ length (c ∷ s) + 1 = omega arith in
    either_within (eqb c 34) (Escape 34 2) _ (length (c ∷ s) + 1) (λ _. two)
    (either_within (eqb c 92) (Escape 92 2) _ (length (c ∷ s) + 1) (λ _. two)
    (either_within (eqb c 110) (Escape 10 2) _ (length (c ∷ s) + 1) (λ _. two)
    (either_within (eqb c 123) Hole _ (length (c ∷ s) + 1) (λ _. room)
    (either_within (eqb c 117) (unicode_look s) (BadEscape (1 + char_len (c ∷ s))) (length (c ∷ s) + 1) (λ _. subst (λ m. IsWithin (unicode_look s) m) same (unicode_within s))
    (omega arith, omega (arith, char_len_le (c ∷ s)))))))

plain_within : (n m : ℕ) → 1 ≤ m → n ≤ m → IsWithin (plain_look n) m
plain_within zero m p h = p
plain_within (suc n) m p h = (omega arith, h)

-- what lies at the front lies within the bytes
pub look_within : (s : List ℕ) → IsWithin (text_look s) (length s)
look_within [] = refl
look_within (b ∷ s) =
    let same : length s + 1 ≡ length (b ∷ s) = omega arith in
    let one : 1 ≤ length (b ∷ s) = omega arith in
    either_within (eqb b 34) Quote _ (length (b ∷ s)) (λ _. one)
    (either_within (eqb b 92) (escape_look s) (plain_look (char_len (b ∷ s))) (length (b ∷ s)) (λ _. subst (λ m. IsWithin (escape_look s) m) same (escape_within s)) (plain_within (char_len (b ∷ s)) (length (b ∷ s)) one (char_len_le (b ∷ s))))

pub plain_fits : (s : List ℕ) (n : ℕ) → text_look s ≡ Plain n → (0 < n) × (n ≤ length s)
plain_fits s n h = subst (λ l. IsWithin l (length s)) h (look_within s)

pub escape_fits : (s : List ℕ) (c n : ℕ) → text_look s ≡ Escape c n → (0 < n) × (n ≤ length s)
escape_fits s c n h = subst (λ l. IsWithin l (length s)) h (look_within s)

-- a look is at a character only where one lies
abbrev IsChar : Look → List ℕ → Type 0
IsChar (Plain n) s = char_len s ≡ n
IsChar (Escape c n) s = Unit {0}
IsChar Quote s = Unit {0}
IsChar Hole s = Unit {0}
IsChar (BadEscape n) s = Unit {0}
IsChar NotUtf8 s = Unit {0}
IsChar End s = Unit {0}

either_char : (t : Bool) (x y : Look) (s : List ℕ) → IsChar x s → IsChar y s → IsChar (cond t x y) s
either_char true x y s p q = p
either_char false x y s p q = q

unicode_char : (count : ℕ) (found : Option ℕ) (s : List ℕ) → IsChar (unicode_escape count found) s
unicode_char count None s = tt
unicode_char count (Some c) s = tt

unicode_look_char : (s t : List ℕ) → IsChar (unicode_look s) t
unicode_look_char [] t = tt
unicode_look_char (b ∷ s) t = either_char (eqb b 123) _ (BadEscape 2) t (unicode_char (prefix_len is_ascii_hexdigit s) (braced_char (prefix_len is_ascii_hexdigit s) s) t) tt

escape_char : (s t : List ℕ) → IsChar (escape_look s) t
escape_char [] t = tt
escape_char (c ∷ s) t =
    either_char (eqb c 34) (Escape 34 2) _ t tt
    (either_char (eqb c 92) (Escape 92 2) _ t tt
    (either_char (eqb c 110) (Escape 10 2) _ t tt
    (either_char (eqb c 123) Hole _ t tt
    (either_char (eqb c 117) (unicode_look s) (BadEscape (1 + char_len (c ∷ s))) t (unicode_look_char s t) tt))))

plain_char : (n : ℕ) (s : List ℕ) → char_len s ≡ n → IsChar (plain_look n) s
plain_char zero s h = tt
plain_char (suc n) s h = h

look_char : (s : List ℕ) → IsChar (text_look s) s
look_char [] = tt
look_char (b ∷ s) = either_char (eqb b 34) Quote _ (b ∷ s) tt (either_char (eqb b 92) (escape_look s) (plain_look (char_len (b ∷ s))) (b ∷ s) (escape_char s (b ∷ s)) (plain_char (char_len (b ∷ s)) (b ∷ s) refl))

-- the bytes of a character at the front are UTF-8
pub plain_utf8 : (s : List ℕ) (n : ℕ) → text_look s ≡ Plain n → IsUtf8 (take n s)
plain_utf8 s n h =
    let count : char_len s ≡ n = subst (λ l. IsChar l s) h (look_char s) in
    subst (λ k. IsUtf8 (take k s)) count (char_utf8 s)

takes_by : (text s after : List ℕ) (n : ℕ) → 0 < n → text_step (text, s) ≡ Some (after, drop n s) → Takes text s after n
takes_by text s after zero p h = absurd (omega arith)
takes_by text s after (suc n) p h = h

-- what an escape takes
pub escape_takes : (text s after : List ℕ) (c n : ℕ) → text_look s ≡ Escape c n → after ≡ text ++ encode c → Takes text s after n
escape_takes text s after c n h e = takes_by text s after n (escape_fits s c n h).0 (ap (λ l. behind_look l text s) h ∙ ap (λ t. Some (t, drop n s)) (sym e))

-- what a character takes
pub plain_takes : (text s after : List ℕ) (n : ℕ) → text_look s ≡ Plain n → after ≡ text ++ take n s → Takes text s after n
plain_takes text s after n h e = takes_by text s after n (plain_fits s n h).0 (ap (λ l. behind_look l text s) h ∙ ap (λ t. Some (t, drop n s)) (sym e))

pub at_look : (look seen : Look) (m n : ℕ) → look ≡ seen → m ≡ n → IsWithin seen m → IsWithin look n
at_look look seen m n e f h = subst (λ x. IsWithin x n) (sym e) (subst (IsWithin seen) f h)
