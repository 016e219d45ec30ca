-- At each place in bytes something is found: a piece, or what breaks there.
use Rattle.std.proofs.Common.{◌≡◌, ℕ, zero, suc, ◌+◌, ◌<◌, ◌≤◌, Bool, true, false, cond, eqb, None, List, [], ◌∷◌, ◌++◌, length, take, drop, refl, sym, ap, ◌∙◌, arith}
use Rattle.std.specs.Prelude.{encode_utf8}
use Rattle.std.specs.Char.{is_ascii_digit}
use Rattle.slint_base.specs.Names.{normal_name}
use Rattle.slint_literals.specs.declared.strings.Look.{Look}
use Rattle.slint_literals.specs.declared.strings.Look.TheVariants as looks
use Rattle.slint_literals.specs.Characters.{char_len, front_char}
use Rattle.slint_literals.specs.Colours.{colour_value}
use Rattle.slint_literals.specs.Numbers.{number_value, number_length}
use Rattle.slint_literals.specs.Strings.{text_look, behind_look, IsRun, IsWithin}
use Rattle.slint_literals.proofs.Chars.{char_len_le}
use Rattle.slint_literals.proofs.Looks.{look_within}
use Rattle.slint_literals.proofs.NumberTexts.{longest_number}
use Rattle.slint_literals.proofs.Runs.{Read, read_none, read_more, read_run}
use Rattle.slint_lexer.specs.declared.classes.Class.{Class}
use Rattle.slint_lexer.specs.declared.classes.Class.TheVariants.{Blank, Digit, Hash, Quote, Close, Slash, Word, Other}
use Rattle.slint_lexer.specs.declared.classes.Second.{Second}
use Rattle.slint_lexer.specs.declared.classes.Second.TheVariants.{Block, Line, Neither}
use Rattle.slint_lexer.specs.declared.comments.Bound.{Bound}
use Rattle.slint_lexer.specs.declared.comments.Bound.TheVariants.{Opens, Shuts, Skips}
use Rattle.slint_lexer.specs.declared.found.Found.{Found}
use Rattle.slint_lexer.specs.declared.found.Found.TheVariants as found
use Rattle.slint_lexer.specs.declared.tokens.Symbol.TheVariants as symbols
use Rattle.slint_lexer.specs.declared.tokens.TokenKind.TheVariants as kinds
use Rattle.slint_lexer.specs.Names.{begins_name}
use Rattle.slint_lexer.specs.Pieces.{Apart, Tok, number_what, colour_what, is_blank, class_of, second_of, bound_of, behind_bound, skipped}
use Rattle.slint_lexer.specs.Reading.{top_symbol}
use Rattle.slint_lexer.specs.Found.{IsFound, found_of, text_found, symbol_found, comment_found, hash_length, part_length, BeginsText, IsWholeName, IsCommentWalk, IsLineWalk, IsLineStep}
use Rattle.slint_lexer.proofs.CommentTexts.{CommentUpTo, comment_first, comment_more, comment_shut, comment_broken, LineUpTo, line_first, line_more, line_whole}
use Rattle.slint_lexer.proofs.Fronts.{front_as, number_is, colour_is, word_is, text_is, other_is, line_is, slash_is, comment_is}
use Rattle.slint_lexer.proofs.NameTexts.{NamedUpTo, named_first, named_more, named_whole}

-- names

name_by : (s : List ℕ) (at n : ℕ) → NamedUpTo s at → n ≡ part_length (front_char (drop at s)) → (0 < n → NamedUpTo s (at + n) → (k : ℕ) × IsWholeName s k) → (k : ℕ) × IsWholeName s k
name_by s at zero named e more = (at, named_whole s (drop at s) at zero refl named e refl)
name_by s at (suc n) named e more = more (omega arith) (named_more s (drop at s) at (suc n) refl named e (omega arith))

name_from : (s : List ℕ) (fuel at : ℕ) → length s ≤ at + fuel → NamedUpTo s at → (k : ℕ) × IsWholeName s k
name_from s zero at h named = name_by s at (part_length (front_char (drop at s))) named refl (λ p up. absurd (omega (arith, up.within)))
name_from s (suc fuel) at h named =
    let n = part_length (front_char (drop at s)) in name_by s at n named refl (λ p up. name_from s fuel (at + n) (omega arith) up)

whole_name : (s : List ℕ) → begins_name s ≡ true → (k : ℕ) × IsWholeName s k
whole_name s h = name_from s (length s) (char_len s) (omega arith) (named_first s h)

-- insides of strings

abbrev SomeRun : List ℕ → Type 0
SomeRun s = (text : List ℕ) × (k : ℕ) × (k ≤ length s) × IsRun s text (drop k s)

run_by : (s text : List ℕ) (at : ℕ) (look : Look) → text_look (drop at s) ≡ look → IsWithin look (length (drop at s)) → Read s text at → ((after : List ℕ) (n : ℕ) → 0 < n → Read s after (at + n) → SomeRun s) → SomeRun s
run_by s text at (looks.Plain zero) e w r more = absurd (omega (arith, w.0))
run_by s text at (looks.Plain (suc n)) e w r more =
    let after = text ++ take (suc n) (drop at s) in
    more after (suc n) w.0 (read_more s text after (drop at s) at (suc n) refl r w.1 w.0 (ap (λ l. behind_look l text (drop at s)) e))
run_by s text at (looks.Escape c zero) e w r more = absurd (omega (arith, w.0))
run_by s text at (looks.Escape c (suc n)) e w r more =
    let after = text ++ encode_utf8 c in
    more after (suc n) w.0 (read_more s text after (drop at s) at (suc n) refl r w.1 w.0 (ap (λ l. behind_look l text (drop at s)) e))
run_by s text at looks.Quote e w r more = (text, at, r.within, read_run s text text text (drop at s) at refl r (ap (λ l. behind_look l text (drop at s)) e, refl) refl)
run_by s text at looks.Hole e w r more = (text, at, r.within, read_run s text text text (drop at s) at refl r (ap (λ l. behind_look l text (drop at s)) e, refl) refl)
run_by s text at (looks.BadEscape n) e w r more = (text, at, r.within, read_run s text text text (drop at s) at refl r (ap (λ l. behind_look l text (drop at s)) e, refl) refl)
run_by s text at looks.NotUtf8 e w r more = (text, at, r.within, read_run s text text text (drop at s) at refl r (ap (λ l. behind_look l text (drop at s)) e, refl) refl)
run_by s text at looks.End e w r more = (text, at, r.within, read_run s text text text (drop at s) at refl r (ap (λ l. behind_look l text (drop at s)) e, refl) refl)

run_from : (s : List ℕ) (fuel at : ℕ) (text : List ℕ) → length s ≤ at + fuel → Read s text at → SomeRun s
run_from s zero at text h r = run_by s text at (text_look (drop at s)) refl (look_within (drop at s)) r (λ after n p up. absurd (omega (arith, up.within)))
run_from s (suc fuel) at text h r = run_by s text at (text_look (drop at s)) refl (look_within (drop at s)) r (λ after n p up. run_from s fuel (at + n) after (omega arith) up)

some_run : (s : List ℕ) → SomeRun s
some_run s = run_from s (length s) 0 [] (omega arith) (read_none s [] refl)

some_text : (first ends : Bool) (b : ℕ) (s : List ℕ) → BeginsText first ends (b ∷ s) → (f : Found) × IsFound ends (b ∷ s) f
some_text first ends b s h =
    let run = some_run s in
    let f = text_found first run.0 (run.1 + 1) (text_look (drop run.1 s)) in
    (f, text_is first ends (b ∷ s) s run.0 (drop run.1 s) run.1 (text_look (drop run.1 s)) f h refl run.3 run.2 refl refl refl)

-- comments that nest

abbrev Bounded : Bound → List ℕ → Type 0
Bounded Opens x = 2 ≤ length x
Bounded Shuts x = 2 ≤ length x
Bounded (Skips n) x = n ≤ length x

bounded_by : (t u : Bool) (x : List ℕ) (n : ℕ) → 2 ≤ length x → n ≤ length x → Bounded (cond t Opens (cond u Shuts (Skips n))) x
bounded_by true u x n h k = h
bounded_by false true x n h k = h
bounded_by false false x n h k = k

bounded : (x : List ℕ) → Bounded (bound_of x) x
bounded [] = omega arith
bounded (b ∷ []) = char_len_le (b ∷ [])
bounded (b ∷ c ∷ x) = bounded_by _ _ (b ∷ c ∷ x) (char_len (b ∷ c ∷ x)) (omega arith) (char_len_le (b ∷ c ∷ x))

abbrev SomeWalk : List ℕ → Type 0
SomeWalk s = (depth : ℕ) × (k : ℕ) × IsCommentWalk s depth k

step_by : (s : List ℕ) (d at : ℕ) (bound : Bound) → bound_of (drop at s) ≡ bound → Bounded bound (drop at s) → CommentUpTo s (suc d) at → ((next n : ℕ) → 0 < n → CommentUpTo s next (at + n) → SomeWalk s) → SomeWalk s
step_by s d at Opens e w up more =
    more (suc (suc d)) 2 (omega arith) (comment_more s (drop at s) (suc d) at (suc (suc d)) 2 refl up (ap (λ x. behind_bound x d (drop at s)) e, omega arith, w, omega arith))
step_by s d at Shuts e w up more =
    more d 2 (omega arith) (comment_more s (drop at s) (suc d) at d 2 refl up (ap (λ x. behind_bound x d (drop at s)) e, omega arith, w, omega arith))
step_by s d at (Skips zero) e w up more = (suc d, at, comment_broken s (drop at s) (suc d) at refl up (ap (λ x. behind_bound x d (drop at s)) e))
step_by s d at (Skips (suc n)) e w up more =
    more (suc d) (suc n) (omega arith) (comment_more s (drop at s) (suc d) at (suc d) (suc n) refl up (ap (λ x. behind_bound x d (drop at s)) e, omega arith, w, omega arith))

walk_by : (s : List ℕ) (depth at : ℕ) → CommentUpTo s depth at → ((next n : ℕ) → 0 < n → CommentUpTo s next (at + n) → SomeWalk s) → SomeWalk s
walk_by s zero at up more = (0, at, comment_shut s 0 at up refl)
walk_by s (suc d) at up more = step_by s d at (bound_of (drop at s)) refl (bounded (drop at s)) up more

walk_from : (s : List ℕ) (fuel depth at : ℕ) → length s ≤ at + fuel → CommentUpTo s depth at → SomeWalk s
walk_from s zero depth at h up = walk_by s depth at up (λ next n p more. absurd (omega (arith, more.within)))
walk_from s (suc fuel) depth at h up = walk_by s depth at up (λ next n p more. walk_from s fuel next (at + n) (omega arith) more)

some_walk : (s : List ℕ) → 2 ≤ length s → SomeWalk s
some_walk s h = walk_from s (length s) 1 2 (omega arith) (comment_first s h)

-- comments to the line's end

line_of : (b : ℕ) (s : List ℕ) (t : Bool) (k : ℕ) → eqb b 10 ≡ t → char_len (b ∷ s) ≡ k → k ≤ length (b ∷ s) → (n : ℕ) × IsLineStep (b ∷ s) n
line_of b s true k e f h = (0, ap (λ c. cond c None (skipped (char_len (b ∷ s)) (b ∷ s))) e)
line_of b s false zero e f h = (0, ap (λ c. cond c None (skipped (char_len (b ∷ s)) (b ∷ s))) e ∙ ap (λ j. skipped j (b ∷ s)) f)
line_of b s false (suc k) e f h = (suc k, (ap (λ c. cond c None (skipped (char_len (b ∷ s)) (b ∷ s))) e ∙ ap (λ j. skipped j (b ∷ s)) f, h))

some_step : (x : List ℕ) → (n : ℕ) × IsLineStep x n
some_step [] = (0, refl)
some_step (b ∷ s) = line_of b s (eqb b 10) (char_len (b ∷ s)) refl refl (char_len_le (b ∷ s))

abbrev SomeLine : List ℕ → Type 0
SomeLine s = (k : ℕ) × IsLineWalk s k

line_by : (s : List ℕ) (at n : ℕ) → IsLineStep (drop at s) n → LineUpTo s at → (0 < n → LineUpTo s (at + n) → SomeLine s) → SomeLine s
line_by s at zero step up more = (at, line_whole s (drop at s) at zero refl up step refl)
line_by s at (suc n) step up more = more (omega arith) (line_more s (drop at s) at (suc n) refl up step (omega arith))

line_from : (s : List ℕ) (fuel at : ℕ) → length s ≤ at + fuel → LineUpTo s at → SomeLine s
line_from s zero at h up = let step = some_step (drop at s) in line_by s at step.0 step.1 up (λ p more. absurd (omega (arith, more.within)))
line_from s (suc fuel) at h up = let step = some_step (drop at s) in line_by s at step.0 step.1 up (λ p more. line_from s fuel (at + step.0) (omega arith) more)

some_line : (s : List ℕ) → 2 ≤ length s → SomeLine s
some_line s h = line_from s (length s) 2 (omega arith) (line_first s h)

-- what the class of the first byte tells of it

digit_by : (t u v w x y z : Bool) → cond t Blank (cond u Digit (cond v Hash (cond w Quote (cond x Close (cond y Slash (cond z Word Other)))))) ≡ Digit → u ≡ true
digit_by true u v w x y z e = cc
digit_by false true v w x y z e = refl
digit_by false false true w x y z e = cc
digit_by false false false true x y z e = cc
digit_by false false false false true y z e = cc
digit_by false false false false false true z e = cc
digit_by false false false false false false true e = cc
digit_by false false false false false false false e = cc

word_by : (t u v w x y z : Bool) → cond t Blank (cond u Digit (cond v Hash (cond w Quote (cond x Close (cond y Slash (cond z Word Other)))))) ≡ Word → z ≡ true
word_by true u v w x y z e = cc
word_by false true v w x y z e = cc
word_by false false true w x y z e = cc
word_by false false false true x y z e = cc
word_by false false false false true y z e = cc
word_by false false false false false true z e = cc
word_by false false false false false false true e = refl
word_by false false false false false false false e = cc

-- pieces by their class

some_blank : (ends : Bool) (b : ℕ) (s : List ℕ) → class_of (b ∷ s) ≡ Blank → (f : Found) × IsFound ends (b ∷ s) f
some_blank ends b s c = (
  found.Apart 1,
  (
    omega arith,
    omega arith,
    front_as Blank ends b s Apart s c (refl, refl) (λ v q h.
        let same : length q ≡ length s = ap length h.0 in
        omega arith),
  ),
)

some_close : (ends : Bool) (b : ℕ) (s : List ℕ) → class_of (b ∷ s) ≡ Close → (f : Found) × IsFound ends (b ∷ s) f
some_close true b s c = some_text false true b s (c, refl)
some_close false b s c = (
  found.Token (kinds.Symbol symbols.CloseBrace) 1,
  (
    omega arith,
    omega arith,
    front_as Close false b s (Tok (kinds.Symbol symbols.CloseBrace)) s c (refl, refl) (λ v q h.
        let same : length q ≡ length s = ap length h.0 in
        omega arith),
  ),
)

two_by : (b : ℕ) (s : List ℕ) (second : Second) → second_of s ≡ second → (second ≡ Neither → ⊥) → 2 ≤ length (b ∷ s)
two_by b [] second e h = absurd (h (sym e))
two_by b (c ∷ s) second e h = omega arith

some_slash : (ends : Bool) (b : ℕ) (s : List ℕ) (second : Second) → class_of (b ∷ s) ≡ Slash → second_of s ≡ second → (f : Found) × IsFound ends (b ∷ s) f
some_slash ends b s Block c e =
    let two = two_by b s Block e (λ (x : Block ≡ Neither). cc) in
    let walk = some_walk (b ∷ s) two in
    let t = eqb walk.1 (length (b ∷ s)) in
    (comment_found walk.0 walk.1 t, comment_is ends (b ∷ s) walk.0 walk.1 t (comment_found walk.0 walk.1 t) (c, e) two walk.2 refl refl)
some_slash ends b s Line c e =
    let walk = some_line (b ∷ s) (two_by b s Line e (λ (x : Line ≡ Neither). cc)) in
    (found.Apart walk.0, line_is ends (b ∷ s) s walk.0 c refl e walk.1)
some_slash ends b s Neither c e =
    let top = top_symbol (b ∷ s) in
    (symbol_found top 1, slash_is ends (b ∷ s) s top 1 (symbol_found top 1) c refl e refl refl)

some_by : (class : Class) (ends : Bool) (b : ℕ) (s : List ℕ) → class_of (b ∷ s) ≡ class → (f : Found) × IsFound ends (b ∷ s) f
some_by Blank ends b s c = some_blank ends b s c
some_by Digit ends b s c =
    let n = number_length (b ∷ s) in
    let f = found_of (number_what (number_value (take n (b ∷ s)))) n in
    (f, number_is ends (b ∷ s) n f c (longest_number (b ∷ s) (digit_by (is_blank b) (is_ascii_digit b) (eqb b 35) (eqb b 34) (eqb b 125) (eqb b 47) (begins_name (b ∷ s)) c)) refl)
some_by Hash ends b s c =
    let n = hash_length s in
    let f = found_of (colour_what (colour_value (take n s))) (n + 1) in
    (f, colour_is ends (b ∷ s) s (take n s) n f c refl refl refl refl)
some_by Quote ends b s c = some_text true ends b s c
some_by Close ends b s c = some_close ends b s c
some_by Slash ends b s c = some_slash ends b s (second_of s) c refl
some_by Word ends b s c =
    let whole = whole_name (b ∷ s) (word_by (is_blank b) (is_ascii_digit b) (eqb b 35) (eqb b 34) (eqb b 125) (eqb b 47) (begins_name (b ∷ s)) c) in
    let text = take whole.0 (b ∷ s) in
    (found.Token (kinds.Id (normal_name text)) whole.0, word_is ends (b ∷ s) text (normal_name text) whole.0 c whole.1 refl refl)
some_by Other ends b s c =
    let top = top_symbol (b ∷ s) in
    let n = char_len (b ∷ s) in
    (symbol_found top n, other_is ends (b ∷ s) top n (symbol_found top n) c (omega arith) refl refl refl)

-- something is found at the front of bytes
pub some_front : (ends : Bool) (s : List ℕ) → 0 < length s → (f : Found) × IsFound ends s f
some_front ends [] h = absurd (omega arith)
some_front ends (b ∷ s) h = some_by (class_of (b ∷ s)) ends b s refl
