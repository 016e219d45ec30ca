-- What runs spell is UTF-8.
use Rattle.std.proofs.Common.{◌≡◌, ℕ, zero, suc, ◌+◌, Bool, true, false, cond, eqb, ltb, ◌||◌, Option, Some, None, List, [], ◌∷◌, ◌++◌, take, drop, get_or, refl, sym, ap, ◌∙◌, subst}
use Rattle.std.proofs.Math.Utf8.{scalar, encode}
use Rattle.std.specs.Char.{is_ascii_hexdigit}
use Rattle.std.specs.List.{prefix_len}
use Rattle.std.specs.Str.{IsUtf8}
use Rattle.std.specs.Str.Parse.{digits_value}
use Rattle.std.proofs.lemmas.Str.{IsUtf8-append, IsUtf8-nil, IsUtf8-encode}
use Rattle.slint_literals.specs.declared.strings.Look.{Look}
use Rattle.slint_literals.specs.declared.strings.Look.TheVariants.{Plain, Escape, Quote, Hole, BadEscape, NotUtf8, End}
use Rattle.slint_literals.specs.Characters.{char_len}
use Rattle.slint_literals.specs.Steps.{Steps, still, onward}
use Rattle.slint_literals.specs.Strings.{scalar_of, braced_char, unicode_escape, unicode_look, escape_look, plain_look, text_look, behind_look, text_step, IsRun}
use Rattle.slint_literals.proofs.Looks.{plain_utf8}

-- an escape stands for a character
abbrev IsScalarLook : Look → Type 0
IsScalarLook (Escape c n) = scalar c ≡ true
IsScalarLook (Plain n) = Unit {0}
IsScalarLook Quote = Unit {0}
IsScalarLook Hole = Unit {0}
IsScalarLook (BadEscape n) = Unit {0}
IsScalarLook NotUtf8 = Unit {0}
IsScalarLook End = Unit {0}

either_scalar : (t : Bool) (x y : Look) → IsScalarLook x → IsScalarLook y → IsScalarLook (cond t x y)
either_scalar true x y p q = p
either_scalar false x y p q = q

scalar_by : (t : Bool) (code c : ℕ) → scalar code ≡ t → cond t (Some code) None ≡ Some c → scalar c ≡ true
scalar_by true code c e h = let same : code ≡ c = cc in ap scalar (sym same) ∙ e
scalar_by false code c e h = cc

braced_by : (few brace : Bool) (code c : ℕ) → cond few None (cond brace (scalar_of code) None) ≡ Some c → scalar c ≡ true
braced_by true brace code c h = cc
braced_by false true code c h = scalar_by (scalar code) code c refl h
braced_by false false code c h = cc

unicode_by : (count : ℕ) (s : List ℕ) (found : Option ℕ) → braced_char count s ≡ found → IsScalarLook (unicode_escape count found)
unicode_by count s None h = tt
unicode_by count s (Some c) h = braced_by (eqb count 0 || ltb 6 count) (eqb (get_or s count 0) 125) (digits_value 16 (take count s)) c h

unicode_scalar : (s : List ℕ) → IsScalarLook (unicode_look s)
unicode_scalar [] = tt
unicode_scalar (b ∷ s) =
    let count = prefix_len is_ascii_hexdigit s in
    either_scalar (eqb b 123) (unicode_escape count (braced_char count s)) (BadEscape 2) (unicode_by count s (braced_char count s) refl) tt

escape_scalar : (s : List ℕ) → IsScalarLook (escape_look s)
escape_scalar [] = tt
escape_scalar (c ∷ s) =
    either_scalar (eqb c 34) (Escape 34 2) _ refl
    (either_scalar (eqb c 92) (Escape 92 2) _ refl
    (either_scalar (eqb c 110) (Escape 10 2) _ refl
    (either_scalar (eqb c 123) Hole _ tt
    (either_scalar (eqb c 117) (unicode_look s) (BadEscape (1 + char_len (c ∷ s))) (unicode_scalar s) tt))))

plain_scalar : (n : ℕ) → IsScalarLook (plain_look n)
plain_scalar zero = tt
plain_scalar (suc n) = tt

look_scalar : (s : List ℕ) → IsScalarLook (text_look s)
look_scalar [] = tt
look_scalar (b ∷ s) = either_scalar (eqb b 34) Quote _ tt (either_scalar (eqb b 92) (escape_look s) (plain_look (char_len (b ∷ s))) (escape_scalar s) (plain_scalar (char_len (b ∷ s))))

-- one step keeps a text a text
step_by : (text s after behind : List ℕ) (look : Look) → text_look s ≡ look → IsUtf8 text → behind_look look text s ≡ Some (after, behind) → IsUtf8 after
step_by text s after behind (Plain n) e u h =
    let pair : ◌≡◌ {A = List ℕ × List ℕ} (text ++ take n s, drop n s) (after, behind) = cc in
    subst (λ t. IsUtf8 t) (ap (λ p. p.0) pair) (IsUtf8-append text (take n s) u (plain_utf8 s n e))
step_by text s after behind (Escape c n) e u h =
    let pair : ◌≡◌ {A = List ℕ × List ℕ} (text ++ encode c, drop n s) (after, behind) = cc in
    let is_char : scalar c ≡ true = subst (λ l. IsScalarLook l) e (look_scalar s) in
    subst (λ t. IsUtf8 t) (ap (λ p. p.0) pair) (IsUtf8-append text (encode c) u (IsUtf8-encode c is_char))
step_by text s after behind Quote e u h = cc
step_by text s after behind Hole e u h = cc
step_by text s after behind (BadEscape n) e u h = cc
step_by text s after behind NotUtf8 e u h = cc
step_by text s after behind End e u h = cc

steps_utf8 : (x y : List ℕ × List ℕ) → Steps text_step x y → IsUtf8 x.0 → IsUtf8 y.0
steps_utf8 x y (still _) u = u
steps_utf8 x y (onward _ z _ first others) u = steps_utf8 z y others (step_by x.0 x.1 z.0 z.1 (text_look x.1) refl u first)

-- what a run spells is UTF-8
pub run_utf8 : (bytes text behind : List ℕ) → IsRun bytes text behind → IsUtf8 text
run_utf8 bytes text behind run = steps_utf8 ([], bytes) (text, behind) run.spelled IsUtf8-nil
