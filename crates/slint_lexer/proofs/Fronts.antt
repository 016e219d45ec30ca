-- What the code finds at the front of bytes is the piece there.
use Rattle.std.proofs.Common.{◌≡◌, ℕ, zero, suc, ◌+◌, ◌<◌, ◌≤◌, Bool, true, false, cond, eqb, inl, inr, Option, Some, None, List, [], ◌∷◌, ◌++◌, length, take, drop, refl, sym, ap, ◌∙◌, subst, arith, add-one}
use Rattle.std.specs.Char.{is_ascii_alphanumeric}
use Rattle.std.specs.List.{list_all, prefix_len}
use Rattle.std.specs.Str.{IsUtf8}
use Rattle.std.proofs.Math.Utf8.{encode, encodes}
use Rattle.std.proofs.lemmas.Bool.{eqb-true, eqb-false, cases_lt}
use Rattle.std.proofs.lemmas.List.{length-append, length-drop, length-take-le, take-append-drop, take_at, drop-drop}
use Rattle.std.proofs.lemmas.List.Sums.{prefix_len-le-length}
use Rattle.slint_base.specs.Names.{normal_name}
use Rattle.slint_base.specs.declared.rules.Rule.{Rule}
use Rattle.slint_base.specs.declared.rules.Rule.TheVariants as rules
use Rattle.slint_literals.specs.declared.strings.Look.{Look}
use Rattle.slint_literals.specs.declared.strings.Look.TheVariants as looks
use Rattle.slint_literals.specs.Characters.{char_len}
use Rattle.slint_literals.specs.Colours.{colour_value}
use Rattle.slint_literals.specs.Numbers.{is_number, number_value, IsLongestNumber}
use Rattle.slint_literals.specs.Strings.{text_look, behind_look, IsRun, IsWithin}
use Rattle.slint_literals.proofs.Chars.{char_len_le, bounded}
use Rattle.slint_literals.proofs.Hex.{all_front}
use Rattle.slint_literals.proofs.Looks.{look_within}
use Rattle.slint_literals.proofs.NumberTexts.{prefix_len-all}
use Rattle.slint_literals.proofs.Runs.{steps_same}
use Rattle.slint_lexer.specs.declared.classes.Class.{Class}
use Rattle.slint_lexer.specs.declared.classes.Class.TheVariants.{Blank, Digit, Hash, Quote, Close, Slash, Word, Other}
use Rattle.slint_lexer.specs.declared.classes.Second.{Second}
use Rattle.slint_lexer.specs.declared.classes.Second.TheVariants.{Block, Line, Neither}
use Rattle.slint_lexer.specs.declared.found.Found.{Found}
use Rattle.slint_lexer.specs.declared.tokens.Symbol.{Symbol}
use Rattle.slint_lexer.specs.declared.tokens.Symbol.TheVariants as symbols
use Rattle.slint_lexer.specs.declared.tokens.TokenKind.TheVariants as kinds
use Rattle.slint_lexer.specs.Names.{begins_name, IsName}
use Rattle.slint_lexer.specs.Symbols.{symbol_text}
use Rattle.slint_lexer.specs.Pieces.{What, Apart, Tok, Bad, number_what, colour_what, is_blank, class_of, second_of, closed_text, holed_text, SpellsComment, SpellsLine, SpellsSlash, EndsText, SpellsText, SpellsSymbol, comment_step, SpellsAs, Spells, Front, NothingBegins}
use Rattle.slint_lexer.specs.Lexing.{BreaksText, BreaksComment, BreaksOther, BreaksSlash, BreaksAs, Breaks}
use Rattle.slint_lexer.specs.Reading.{top_symbol}
use Rattle.slint_lexer.specs.Found.{IsFound, found_of, text_found, BeginsText, BeginsBlock, nothing_found, symbol_found, hash_length, comment_found, IsWholeName, IsCommentWalk, IsLineWalk}
use Rattle.slint_lexer.proofs.NameTexts.{no_longer_name, name_utf8}
use Rattle.slint_lexer.proofs.Same.{run_same, same_texts, same_comments, same_lines}
use Rattle.slint_lexer.proofs.SymbolTexts.{symbol_of, symbol_of-text}
use Rattle.slint_lexer.proofs.TopSymbols.{top_is, top_longest}

-- along the class of the first byte

spells_as : (c : Class) (ends : Bool) (b : ℕ) (s : List ℕ) (w : What) (r : List ℕ) → class_of (b ∷ s) ≡ c → SpellsAs c ends b s w r → Spells ends (b ∷ s) w r
spells_as c ends b s w r e h = subst (λ x. SpellsAs x ends b s w r) (sym e) h

as_spells : (c : Class) (ends : Bool) (b : ℕ) (s : List ℕ) (w : What) (r : List ℕ) → class_of (b ∷ s) ≡ c → Spells ends (b ∷ s) w r → SpellsAs c ends b s w r
as_spells c ends b s w r e h = subst (λ x. SpellsAs x ends b s w r) e h

pub front_as : (c : Class) (ends : Bool) (b : ℕ) (s : List ℕ) (w : What) (r : List ℕ) → class_of (b ∷ s) ≡ c → SpellsAs c ends b s w r → ((v : What) (q : List ℕ) → SpellsAs c ends b s v q → length r ≤ length q) → Front ends (b ∷ s) w r
front_as c ends b s w r e h longest = record { spells = spells_as c ends b s w r e h; longest = λ v q k. longest v q (as_spells c ends b s v q e k) }

found_front : (ends : Bool) (s : List ℕ) (w : What) (n : ℕ) → 0 < n → n ≤ length s → Front ends s w (drop n s) → IsFound ends s (found_of w n)
found_front ends s Apart n p q f = (p, q, f)
found_front ends s (Tok k) n p q f = (p, q, f)
found_front ends s (Bad rule) n p q f = (q, f)

-- numbers

number_longest : (b m : ℕ) (s : List ℕ) → IsLongestNumber (b ∷ s) (suc m) → (more q : List ℕ) → s ≡ more ++ q → is_number (b ∷ more) ≡ true → length (drop m s) ≤ length q
number_longest b m s l more q e h =
    let front : take (suc (length more)) (b ∷ s) ≡ b ∷ more = ap (λ t. b ∷ take (length more) t) e ∙ ap (λ t. b ∷ t) (take_at more q (length more) refl) in
    let counts : length s ≡ length more + length q = ap length e ∙ length-append more q in
    let most = l.longest (suc (length more)) (omega arith) (ap is_number front ∙ h) in
    omega (arith, length-drop m s)

pub number_is : (ends : Bool) (s : List ℕ) (n : ℕ) (f : Found) → class_of s ≡ Digit → IsLongestNumber s n → f ≡ found_of (number_what (number_value (take n s))) n → IsFound ends s f
number_is ends [] n f c l e = cc
number_is ends (b ∷ s) zero f c l e = let no_number : false ≡ true = l.number in cc
number_is ends (b ∷ s) (suc m) f c l e =
    let w = number_what (number_value (take (suc m) (b ∷ s))) in
    subst (λ x. IsFound ends (b ∷ s) x) (sym e)
    (found_front ends (b ∷ s) w (suc m) (omega arith) l.within
    (front_as Digit ends b s w (drop m s) c (take m s, sym (take-append-drop m s), l.number, refl)
    (λ v q h. number_longest b m s l h.0 q h.1 h.2)))

-- colours

pub hash_longest : (s more q : List ℕ) → s ≡ more ++ q → list_all is_ascii_alphanumeric more ≡ true → length (drop (hash_length s) s) ≤ length q
hash_longest s more q e h =
    let most : prefix_len is_ascii_alphanumeric s ≡ length more + prefix_len is_ascii_alphanumeric q = ap (prefix_len is_ascii_alphanumeric) e ∙ prefix_len-all is_ascii_alphanumeric more q h in
    let counts : length s ≡ length more + length q = ap length e ∙ length-append more q in
    omega (arith, length-drop (hash_length s) s)

pub colour_is : (ends : Bool) (s behind digits : List ℕ) (n : ℕ) (f : Found) → class_of s ≡ Hash → behind ≡ drop 1 s → n ≡ hash_length behind → digits ≡ take n behind → f ≡ found_of (colour_what (colour_value digits)) (n + 1) → IsFound ends s f
colour_is ends [] behind digits n f c e k d h = cc
colour_is ends (b ∷ s) behind digits n f c e k d h =
    let m = hash_length s in
    let count : n ≡ m = k ∙ ap hash_length e in
    let more : digits ≡ take m s = d ∙ ap (λ t. take n t) e ∙ ap (λ j. take j s) count in
    let w = colour_what (colour_value (take m s)) in
    let is : f ≡ found_of w (suc m) = h ∙ ap (λ t. found_of (colour_what (colour_value t)) (n + 1)) more ∙ ap (found_of w) (add-one n ∙ ap suc count) in
    subst (λ x. IsFound ends (b ∷ s) x) (sym is)
    (found_front ends (b ∷ s) w (suc m) (omega arith) (omega (arith, prefix_len-le-length is_ascii_alphanumeric s))
    (front_as Hash ends b s w (drop m s) c (take m s, sym (take-append-drop m s), all_front is_ascii_alphanumeric s, refl)
    (λ v q x. hash_longest s x.0 q x.1 x.2)))

-- names

some_name : (text : List ℕ) → IsName text → 0 < length text
some_name text n = omega (arith, ap length n.is, length-append (encode n.first) (encodes n.others), bounded n.first)

pub word_front : (ends : Bool) (b : ℕ) (s : List ℕ) (n : ℕ) → class_of (b ∷ s) ≡ Word → IsWholeName (b ∷ s) n → Front ends (b ∷ s) (Tok (kinds.Id (normal_name (take n (b ∷ s))))) (drop n (b ∷ s))
word_front ends b s n c whole =
    let text = take n (b ∷ s) in
    front_as Word ends b s (Tok (kinds.Id (normal_name text))) (drop n (b ∷ s)) c (text, sym (take-append-drop n (b ∷ s)), whole.name, refl)
    (λ v q x.
    let counts : length (b ∷ s) ≡ length x.0 + length q = ap length x.1 ∙ length-append x.0 q in
    omega (arith, no_longer_name (b ∷ s) x.0 q n whole x.2 x.1, length-drop n (b ∷ s)))

pub word_is : (ends : Bool) (s text name : List ℕ) (n : ℕ) → class_of s ≡ Word → IsWholeName s n → text ≡ take n s → name ≡ normal_name text → (0 < n) × (n ≤ length s) × Front ends s (Tok (kinds.Id name)) (drop n s)
word_is ends [] text name n c whole e k = cc
word_is ends (b ∷ s) text name n c whole e k =
    let same : name ≡ normal_name (take n (b ∷ s)) = k ∙ ap normal_name e in (
      omega (arith, some_name (take n (b ∷ s)) whole.name, length-take-le n (b ∷ s) whole.within),
      whole.within,
      subst (λ x. Front ends (b ∷ s) (Tok (kinds.Id x)) (drop n (b ∷ s))) (sym same) (word_front ends b s n c whole),
    )

pub word_utf8 : (s text : List ℕ) (n : ℕ) → IsWholeName s n → text ≡ take n s → IsUtf8 text
word_utf8 s text n whole e = subst (λ t. IsUtf8 t) (sym e) (name_utf8 (take n s) whole.name)

-- pieces of strings

text_spells : (first ends : Bool) (b : ℕ) (s : List ℕ) (w : What) (r : List ℕ) → BeginsText first ends (b ∷ s) → SpellsText first s w r → Spells ends (b ∷ s) w r
text_spells true ends b s w r h k = spells_as Quote ends b s w r h k
text_spells false true b s w r h k = spells_as Close true b s w r h.0 k
text_spells false false b s w r h k = let e : false ≡ true = h.1 in cc

spells_text : (first ends : Bool) (b : ℕ) (s : List ℕ) (w : What) (r : List ℕ) → BeginsText first ends (b ∷ s) → Spells ends (b ∷ s) w r → SpellsText first s w r
spells_text true ends b s w r h k = as_spells Quote ends b s w r h k
spells_text false true b s w r h k = as_spells Close true b s w r h.0 k
spells_text false false b s w r h k = let e : false ≡ true = h.1 in cc

breaks_as : (c : Class) (ends : Bool) (b : ℕ) (s : List ℕ) (rule : Rule) (at : List ℕ) (count : ℕ) → class_of (b ∷ s) ≡ c → BreaksAs c ends b s rule at count → Breaks ends (b ∷ s) rule at count
breaks_as c ends b s rule at count e h = subst (λ x. BreaksAs x ends b s rule at count) (sym e) h

text_breaks : (first ends : Bool) (b : ℕ) (s text x : List ℕ) (rule : Rule) (at : List ℕ) (count : ℕ) → BeginsText first ends (b ∷ s) → IsRun s text x → BreaksText (text_look x) (b ∷ s) x rule at count → Breaks ends (b ∷ s) rule at count
text_breaks true ends b s text x rule at count h run k = breaks_as Quote ends b s rule at count h (text, x, run, k)
text_breaks false true b s text x rule at count h run k = breaks_as Close true b s rule at count h.0 (text, x, run, k)
text_breaks false false b s text x rule at count h run k = let e : false ≡ true = h.1 in cc

-- what ends a piece of a string behind a run
ends_run : (first : Bool) (s text x : List ℕ) (w : What) (r : List ℕ) → IsRun s text x → SpellsText first s w r → EndsText first text (text_look x) x w r
ends_run first s text x w r run h =
    let same = run_same s text x h.0 h.1 run h.2 in
    subst (λ y. EndsText first text (text_look y) y w r) (sym same.1) (subst (λ t. EndsText first t (text_look h.1) h.1 w r) (sym same.0) h.3)

pub text_front : (first ends : Bool) (b : ℕ) (s text x : List ℕ) (w : What) (r : List ℕ) → BeginsText first ends (b ∷ s) → IsRun s text x → EndsText first text (text_look x) x w r → Front ends (b ∷ s) w r
text_front first ends b s text x w r h run e = record {
  spells = text_spells first ends b s w r h (text, x, run, e);
  longest = λ v q k.
      let same = same_texts first s w v r q (text, x, run, e) (spells_text first ends b s v q h k) in
      let counts : length r ≡ length q = ap length same.rest in
      omega arith;
}

nothing_text : (first ends : Bool) (b : ℕ) (s text x : List ℕ) → BeginsText first ends (b ∷ s) → IsRun s text x → ((w : What) (r : List ℕ) → EndsText first text (text_look x) x w r → ⊥) → NothingBegins ends (b ∷ s)
nothing_text first ends b s text x h run k = λ w r spelled. k w r (ends_run first s text x w r run (spells_text first ends b s w r h spelled))

drop-suc : (n : ℕ) (b : ℕ) (s : List ℕ) → drop (n + 1) (b ∷ s) ≡ drop n s
drop-suc n b s = ap (λ k. drop k (b ∷ s)) (add-one n)

drop_more : (n m b : ℕ) (s : List ℕ) → drop (n + 1 + m) (b ∷ s) ≡ drop m (drop n s)
drop_more n m b s =
    let count : n + 1 + m ≡ suc (n + m) = omega arith in
    ap (λ k. drop k (b ∷ s)) count ∙ sym (drop-drop m n s)

text_by : (first ends : Bool) (b : ℕ) (s text : List ℕ) (n : ℕ) (look : Look) → BeginsText first ends (b ∷ s) → IsRun s text (drop n s) → n ≤ length s → text_look (drop n s) ≡ look → IsWithin look (length (drop n s)) → IsFound ends (b ∷ s) (text_found first text (n + 1) look)
text_by first ends b s text n looks.Quote h run fits e within =
    let w = Tok (closed_text first text) in
    let ended : EndsText first text (text_look (drop n s)) (drop n s) w (drop (n + 1 + 1) (b ∷ s)) =
    subst (λ l. EndsText first text l (drop n s) w (drop (n + 1 + 1) (b ∷ s))) (sym e) (drop_more n 1 b s, refl) in (
      omega arith,
      omega (arith, length-drop n s),
      text_front first ends b s text (drop n s) w (drop (n + 1 + 1) (b ∷ s)) h run ended,
    )
text_by first ends b s text n looks.Hole h run fits e within =
    let w = Tok (holed_text first text) in
    let ended : EndsText first text (text_look (drop n s)) (drop n s) w (drop (n + 1 + 2) (b ∷ s)) =
    subst (λ l. EndsText first text l (drop n s) w (drop (n + 1 + 2) (b ∷ s))) (sym e) (drop_more n 2 b s, refl) in (
      omega arith,
      omega (arith, length-drop n s),
      text_front first ends b s text (drop n s) w (drop (n + 1 + 2) (b ∷ s)) h run ended,
    )
text_by first ends b s text n (looks.BadEscape m) h run fits e within =
    let broken : BreaksText (text_look (drop n s)) (b ∷ s) (drop n s) rules.BadEscape (drop (n + 1) (b ∷ s)) m =
    subst (λ l. BreaksText l (b ∷ s) (drop n s) rules.BadEscape (drop (n + 1) (b ∷ s)) m) (sym e) (refl, drop-suc n b s, refl) in (
      omega (arith, length-drop n s, within.1),
      nothing_text first ends b s text (drop n s) h run (λ w r k. subst (λ l. EndsText first text l (drop n s) w r) e k),
      text_breaks first ends b s text (drop n s) rules.BadEscape (drop (n + 1) (b ∷ s)) m h run broken,
    )
text_by first ends b s text n looks.NotUtf8 h run fits e within =
    let broken : BreaksText (text_look (drop n s)) (b ∷ s) (drop n s) rules.NotUtf8 (drop (n + 1) (b ∷ s)) 1 =
    subst (λ l. BreaksText l (b ∷ s) (drop n s) rules.NotUtf8 (drop (n + 1) (b ∷ s)) 1) (sym e) (refl, drop-suc n b s, refl) in (
      omega (arith, length-drop n s),
      nothing_text first ends b s text (drop n s) h run (λ w r k. subst (λ l. EndsText first text l (drop n s) w r) e k),
      text_breaks first ends b s text (drop n s) rules.NotUtf8 (drop (n + 1) (b ∷ s)) 1 h run broken,
    )
text_by first ends b s text n looks.End h run fits e within =
    let broken : BreaksText (text_look (drop n s)) (b ∷ s) (drop n s) rules.BadToken (b ∷ s) 1 =
    subst (λ l. BreaksText l (b ∷ s) (drop n s) rules.BadToken (b ∷ s) 1) (sym e) (refl, refl, refl) in (
      omega arith,
      nothing_text first ends b s text (drop n s) h run (λ w r k. subst (λ l. EndsText first text l (drop n s) w r) e k),
      text_breaks first ends b s text (drop n s) rules.BadToken (b ∷ s) 1 h run broken,
    )
text_by first ends b s text n (looks.Plain m) h run fits e within =
    let stands : ◌≡◌ {A = Option (List ℕ × List ℕ)} (Some (text ++ take m (drop n s), drop m (drop n s))) None = sym (ap (λ l. behind_look l text (drop n s)) e) ∙ run.ended in cc
text_by first ends b s text n (looks.Escape c m) h run fits e within =
    let stands : ◌≡◌ {A = Option (List ℕ × List ℕ)} (Some (text ++ encode c, drop m (drop n s))) None = sym (ap (λ l. behind_look l text (drop n s)) e) ∙ run.ended in cc

begins_some : (first ends : Bool) → BeginsText first ends [] → ⊥
begins_some true ends h = let e : Other ≡ Quote = h in cc
begins_some false ends h = let e : Other ≡ Close = h.0 in cc

pub text_is : (first ends : Bool) (s behind text x : List ℕ) (n : ℕ) (look : Look) (f : Found) → BeginsText first ends s → behind ≡ drop 1 s → IsRun behind text (drop n behind) → n ≤ length behind → x ≡ drop n behind → look ≡ text_look x → f ≡ text_found first text (n + 1) look → IsFound ends s f
text_is first ends [] behind text x n look f h e run fits k l d = absurd (begins_some first ends h)
text_is first ends (b ∷ s) behind text x n look f h e run fits k l d =
    let own : IsRun s text (drop n s) = subst (λ t. IsRun t text (drop n t)) e run in
    let same : look ≡ text_look (drop n s) = l ∙ ap text_look (k ∙ ap (drop n) e) in
    let is : f ≡ text_found first text (n + 1) (text_look (drop n s)) = d ∙ ap (text_found first text (n + 1)) same in
    subst (λ y. IsFound ends (b ∷ s) y) (sym is) (text_by first ends b s text n (text_look (drop n s)) h own (omega (arith, ap length e)) refl (look_within (drop n s)))

-- symbols

symbol_longest : (s : List ℕ) (k : Symbol) (n : ℕ) → top_symbol s ≡ Some (k, n) → (v : What) (q : List ℕ) → SpellsSymbol s v q → length (drop n s) ≤ length q
symbol_longest s k n e v q h =
    let other = top_longest s q h.0 h.1 in
    let same : ◌≡◌ {A = Option (Symbol × ℕ)} (Some (other.symbol, other.count)) (Some (k, n)) = sym other.is ∙ e in
    let pair : ◌≡◌ {A = Symbol × ℕ} (other.symbol, other.count) (k, n) = cc in
    let count : other.count ≡ n = ap (λ p. p.1) pair in
    let counts : length s ≡ length (symbol_text h.0) + length q = ap length h.1 ∙ length-append (symbol_text h.0) q in
    omega (arith, length-drop n s, other.enough)

some_by : (t : List ℕ) (k : Symbol) → symbol_of t ≡ Some k → 0 < length t
unfolding symbol_of
some_by [] k h = cc
some_by (a ∷ t) k h = omega arith

some_symbol : (k : Symbol) → 0 < length (symbol_text k)
some_symbol k = some_by (symbol_text k) k (symbol_of-text k)

pub symbol_front : (c : Class) (ends : Bool) (b : ℕ) (s : List ℕ) (k : Symbol) (n : ℕ) → class_of (b ∷ s) ≡ c → ((w : What) (r : List ℕ) → SpellsSymbol (b ∷ s) w r → SpellsAs c ends b s w r) → ((w : What) (r : List ℕ) → SpellsAs c ends b s w r → SpellsSymbol (b ∷ s) w r)
    → top_symbol (b ∷ s) ≡ Some (k, n) → Front ends (b ∷ s) (Tok (kinds.Symbol k)) (drop n (b ∷ s))
symbol_front c ends b s k n e to from top =
    let at = top_is (b ∷ s) k n top in
    front_as c ends b s (Tok (kinds.Symbol k)) (drop n (b ∷ s)) e (to (Tok (kinds.Symbol k)) (drop n (b ∷ s)) (k, at.whole, refl))
    (λ v q h. symbol_longest (b ∷ s) k n top v q (from v q h))

pub no_symbol : (s : List ℕ) → top_symbol s ≡ None → (w : What) (r : List ℕ) → SpellsSymbol s w r → ⊥
no_symbol s e w r h =
    let other = top_longest s r h.0 h.1 in
    let same : ◌≡◌ {A = Option (Symbol × ℕ)} (Some (other.symbol, other.count)) None = sym other.is ∙ e in
    cc

nothing_by : (ends : Bool) (b : ℕ) (s : List ℕ) (n : ℕ) → class_of (b ∷ s) ≡ Other → char_len (b ∷ s) ≡ n → top_symbol (b ∷ s) ≡ None → IsFound ends (b ∷ s) (nothing_found n)
nothing_by ends b s zero c e t =
    let broken : BreaksOther (char_len (b ∷ s)) (b ∷ s) rules.NotUtf8 (b ∷ s) 1 = subst (λ n. BreaksOther n (b ∷ s) rules.NotUtf8 (b ∷ s) 1) (sym e) (refl, refl, refl) in
    (omega arith, λ w r h. no_symbol (b ∷ s) t w r (as_spells Other ends b s w r c h), breaks_as Other ends b s rules.NotUtf8 (b ∷ s) 1 c broken)
nothing_by ends b s (suc n) c e t =
    let broken : BreaksOther (char_len (b ∷ s)) (b ∷ s) rules.BadToken (b ∷ s) (suc n) = subst (λ m. BreaksOther m (b ∷ s) rules.BadToken (b ∷ s) (suc n)) (sym e) (refl, refl, refl) in
    (omega (arith, char_len_le (b ∷ s)), λ w r h. no_symbol (b ∷ s) t w r (as_spells Other ends b s w r c h), breaks_as Other ends b s rules.BadToken (b ∷ s) (suc n) c broken)

other_by : (ends : Bool) (b : ℕ) (s : List ℕ) (top : Option (Symbol × ℕ)) → class_of (b ∷ s) ≡ Other → top_symbol (b ∷ s) ≡ top → IsFound ends (b ∷ s) (symbol_found top (char_len (b ∷ s)))
other_by ends b s None c e = nothing_by ends b s (char_len (b ∷ s)) c refl e
other_by ends b s (Some (k, n)) c e =
    let at = top_is (b ∷ s) k n e in
    (omega (arith, at.count, some_symbol k), at.within, symbol_front Other ends b s k n c (λ w r h. h) (λ w r h. h) e)

pub other_is : (ends : Bool) (s : List ℕ) (top : Option (Symbol × ℕ)) (n : ℕ) (f : Found) → class_of s ≡ Other → 0 < length s → top ≡ top_symbol s → n ≡ char_len s → f ≡ symbol_found top n → IsFound ends s f
other_is ends [] top n f c p e k h = absurd (omega arith)
other_is ends (b ∷ s) top n f c p e k h =
    let is : f ≡ symbol_found (top_symbol (b ∷ s)) (char_len (b ∷ s)) = h ∙ ap (λ t. symbol_found t n) e ∙ ap (symbol_found (top_symbol (b ∷ s))) k in
    subst (λ x. IsFound ends (b ∷ s) x) (sym is) (other_by ends b s (top_symbol (b ∷ s)) c refl)

-- what begins with a slash

past : (t : Bool) (x y z : Class) → (x ≡ z → ⊥) → cond t x y ≡ z → (t ≡ false) × (y ≡ z)
past true x y z h e = absurd (h e)
past false x y z h e = (refl, e)

at_last : (t u : Bool) → cond t Slash (cond u Word Other) ≡ Slash → t ≡ true
at_last true u e = refl
at_last false true e = cc
at_last false false e = cc

slash_first : (b : ℕ) (s : List ℕ) → class_of (b ∷ s) ≡ Slash → b ≡ 47
slash_first b s e =
    let p = past (is_blank b) Blank _ Slash (λ (x : Blank ≡ Slash). cc) e in
    let q = past _ Digit _ Slash (λ (x : Digit ≡ Slash). cc) p.1 in
    let r = past (eqb b 35) Hash _ Slash (λ (x : Hash ≡ Slash). cc) q.1 in
    let t = past (eqb b 34) Quote _ Slash (λ (x : Quote ≡ Slash). cc) r.1 in
    let u = past (eqb b 125) Close _ Slash (λ (x : Close ≡ Slash). cc) t.1 in
    eqb-true b 47 (at_last (eqb b 47) (begins_name (b ∷ s)) u.1)

slash_spells : (c : Second) (ends : Bool) (b : ℕ) (s : List ℕ) (w : What) (r : List ℕ) → class_of (b ∷ s) ≡ Slash → second_of s ≡ c → SpellsSlash c s w r → Spells ends (b ∷ s) w r
slash_spells c ends b s w r e h k = spells_as Slash ends b s w r e (subst (λ x. SpellsSlash x s w r) (sym h) k)

spells_slash : (c : Second) (ends : Bool) (b : ℕ) (s : List ℕ) (w : What) (r : List ℕ) → class_of (b ∷ s) ≡ Slash → second_of s ≡ c → Spells ends (b ∷ s) w r → SpellsSlash c s w r
spells_slash c ends b s w r e h k = subst (λ x. SpellsSlash x s w r) h (as_spells Slash ends b s w r e k)

line_front : (ends : Bool) (b : ℕ) (s : List ℕ) (n : ℕ) → class_of (b ∷ s) ≡ Slash → second_of s ≡ Line → IsLineWalk (b ∷ s) n → Front ends (b ∷ s) Apart (drop n (b ∷ s))
line_front ends b s n c e walk =
    let own : SpellsLine (drop 1 s) Apart (drop n (b ∷ s)) = (walk.walked, walk.ended, refl) in
    record {
      spells = slash_spells Line ends b s Apart (drop n (b ∷ s)) c e own;
      longest = λ v q h.
          let same = same_lines (drop 1 s) Apart v (drop n (b ∷ s)) q own (spells_slash Line ends b s v q c e h) in
          let counts : length (drop n (b ∷ s)) ≡ length q = ap length same.rest in
          omega arith;
    }

pub line_is : (ends : Bool) (s behind : List ℕ) (n : ℕ) → class_of s ≡ Slash → behind ≡ drop 1 s → second_of behind ≡ Line → IsLineWalk s n → (0 < n) × (n ≤ length s) × Front ends s Apart (drop n s)
line_is ends [] behind n c e k walk = cc
line_is ends (b ∷ s) behind n c e k walk = (omega (arith, walk.begun), walk.within, line_front ends b s n c (ap second_of (sym e) ∙ k) walk)

pub slash_by : (ends : Bool) (b : ℕ) (s : List ℕ) (top : Option (Symbol × ℕ)) (m : ℕ) → class_of (b ∷ s) ≡ Slash → second_of s ≡ Neither → top_symbol (b ∷ s) ≡ top → IsFound ends (b ∷ s) (symbol_found top m)
slash_by ends b s None m c e t = absurd (no_symbol (b ∷ s) t (Tok (kinds.Symbol symbols.Slash)) s (symbols.Slash, ap (λ x. x ∷ s) (slash_first b s c), refl))
slash_by ends b s (Some (k, n)) m c e t =
    let at = top_is (b ∷ s) k n t in
    let first = slash_first b s c in
    let spelled : SpellsSymbol (47 ∷ s) (Tok (kinds.Symbol k)) (drop n (b ∷ s)) = (k, ap (λ x. x ∷ s) (sym first) ∙ at.whole, refl) in (
      omega (arith, at.count, some_symbol k),
      at.within,
      record {
        spells = slash_spells Neither ends b s (Tok (kinds.Symbol k)) (drop n (b ∷ s)) c e spelled;
        longest = λ v q h.
            let other = spells_slash Neither ends b s v q c e h in
            symbol_longest (b ∷ s) k n t v q (other.0, ap (λ x. x ∷ s) first ∙ other.1, other.2);
      },
    )

pub slash_is : (ends : Bool) (s behind : List ℕ) (top : Option (Symbol × ℕ)) (m : ℕ) (f : Found) → class_of s ≡ Slash → behind ≡ drop 1 s → second_of behind ≡ Neither → top ≡ top_symbol s → f ≡ symbol_found top m → IsFound ends s f
slash_is ends [] behind top m f c e k t h = cc
slash_is ends (b ∷ s) behind top m f c e k t h =
    subst (λ x. IsFound ends (b ∷ s) x) (sym (h ∙ ap (λ x. symbol_found x m) t)) (slash_by ends b s (top_symbol (b ∷ s)) m c (ap second_of (sym e) ∙ k) refl)

comment_front : (ends : Bool) (b : ℕ) (s : List ℕ) (n : ℕ) → class_of (b ∷ s) ≡ Slash → second_of s ≡ Block → IsCommentWalk (b ∷ s) 0 n → Front ends (b ∷ s) Apart (drop n (b ∷ s))
comment_front ends b s n c e walk =
    let own : SpellsComment (drop 1 s) Apart (drop n (b ∷ s)) = (walk.walked, refl) in
    record {
      spells = slash_spells Block ends b s Apart (drop n (b ∷ s)) c e own;
      longest = λ v q h.
          let same = same_comments (drop 1 s) Apart v (drop n (b ∷ s)) q own (spells_slash Block ends b s v q c e h) in
          let counts : length (drop n (b ∷ s)) ≡ length q = ap length same.rest in
          omega arith;
    }

nothing_comment : (ends : Bool) (b : ℕ) (s : List ℕ) (d n : ℕ) → class_of (b ∷ s) ≡ Slash → second_of s ≡ Block → IsCommentWalk (b ∷ s) (suc d) n → NothingBegins ends (b ∷ s)
nothing_comment ends b s d n c e walk = λ w r h.
    let spelled = spells_slash Block ends b s w r c e h in
    let same : ◌≡◌ {A = ℕ × List ℕ} (0, r) (suc d, drop n (b ∷ s)) = steps_same comment_step (1, drop 1 s) (0, r) (suc d, drop n (b ∷ s)) spelled.0 walk.walked refl walk.ended in
    let none : 0 ≡ suc d = ap (λ p. p.0) same in
    absurd (omega arith)

comment_breaks : (ends : Bool) (b : ℕ) (s : List ℕ) (d n : ℕ) (rule : Rule) (at : List ℕ) (count : ℕ) → class_of (b ∷ s) ≡ Slash → second_of s ≡ Block → IsCommentWalk (b ∷ s) (suc d) n → BreaksComment (b ∷ s) (drop n (b ∷ s)) rule at count → Breaks ends (b ∷ s) rule at count
comment_breaks ends b s d n rule at count c e walk h =
    breaks_as Slash ends b s rule at count c (subst (λ x. BreaksSlash x b s rule at count) (sym e) (d, drop n (b ∷ s), walk.walked, walk.ended, h))

unclosed : (s x : List ℕ) → length x ≡ 0 → BreaksComment s x rules.BadToken s 2
unclosed s [] h = (refl, refl, refl)
unclosed s (b ∷ x) h = absurd (omega arith)

not_utf8 : (s x : List ℕ) → (length x ≡ 0 → ⊥) → BreaksComment s x rules.NotUtf8 x 1
not_utf8 s [] h = absurd (h refl)
not_utf8 s (b ∷ x) h = (refl, refl, refl)

at_most : (m n : ℕ) → m ≤ n → (m ≡ n → ⊥) → m + 1 ≤ n
at_most m n h k = elim (cases_lt m n) [ inl less ↦ omega arith | inr most ↦ absurd (k (omega arith)) ]

comment_by : (t : Bool) (ends : Bool) (b : ℕ) (s : List ℕ) (depth n : ℕ) → class_of (b ∷ s) ≡ Slash → second_of s ≡ Block → IsCommentWalk (b ∷ s) depth n → eqb n (length (b ∷ s)) ≡ t → 2 ≤ length (b ∷ s) → IsFound ends (b ∷ s) (comment_found depth n t)
comment_by t ends b s zero n c e walk h two = (omega (arith, walk.begun), walk.within, comment_front ends b s n c e walk)
comment_by true ends b s (suc d) n c e walk h two =
    let end : n ≡ length (b ∷ s) = eqb-true n (length (b ∷ s)) h in
    let none : length (drop n (b ∷ s)) ≡ 0 = omega (arith, length-drop n (b ∷ s)) in
    (omega arith, nothing_comment ends b s d n c e walk, comment_breaks ends b s d n rules.BadToken (b ∷ s) 2 c e walk (unclosed (b ∷ s) (drop n (b ∷ s)) none))
comment_by false ends b s (suc d) n c e walk h two =
    let some : length (drop n (b ∷ s)) ≡ 0 → ⊥ = λ z. eqb-false n (length (b ∷ s)) h (omega (arith, length-drop n (b ∷ s), walk.within)) in
    let fits : n + 1 ≤ length (b ∷ s) = at_most n (length (b ∷ s)) walk.within (eqb-false n (length (b ∷ s)) h) in
    (fits, nothing_comment ends b s d n c e walk, comment_breaks ends b s d n rules.NotUtf8 (drop n (b ∷ s)) 1 c e walk (not_utf8 (b ∷ s) (drop n (b ∷ s)) some))

pub comment_is : (ends : Bool) (s : List ℕ) (depth n : ℕ) (t : Bool) (f : Found) → BeginsBlock s → 2 ≤ length s → IsCommentWalk s depth n → t ≡ eqb n (length s) → f ≡ comment_found depth n t → IsFound ends s f
comment_is ends [] depth n t f c two walk e h = absurd (omega arith)
comment_is ends (b ∷ s) depth n t f c two walk e h =
    subst (λ x. IsFound ends (b ∷ s) x) (sym h) (comment_by t ends b s depth n c.0 c.1 walk (sym e) two)
