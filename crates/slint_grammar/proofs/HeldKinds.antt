-- A token that is what it was asked to be is told by what it gives, but for its stretch.
use Rattle.std.proofs.Common.{◌≡◌, ℕ, zero, suc, Bool, true, false, not, ◌&&◌, IsTrue, ◌==◌, List, [], ◌∷◌, refl, sym, ◌∙◌, ap, if◌then◌else◌}
use Rattle.std.specs.Str.{bytes_eq}
use Rattle.std.proofs.lemmas.Slice.Eq.{bytes_eq-Decides}
use Rattle.slint_base.specs.declared.faults.Span.{Span}
use Rattle.slint_lexer.specs.declared.tokens.Symbol.{Symbol}
use Rattle.slint_lexer.specs.declared.tokens.Symbol.TheVariants as symbols
use Rattle.slint_lexer.specs.declared.tokens.Token.{Token}
use Rattle.slint_lexer.specs.declared.tokens.TokenKind.{TokenKind}
use Rattle.slint_lexer.specs.declared.tokens.TokenKind.TheVariants as kinds
use Rattle.syntax_tree.specs.Bare.{nowhere}
use Rattle.slint_grammar.specs.declared.words.Word.{Word}
use Rattle.slint_grammar.specs.declared.words.Word.TheVariants as words
use Rattle.slint_grammar.specs.Parts.{Listed, Aliases}
use Rattle.slint_grammar.specs.Grammar.{Terminal, Sign, SignWhere, TheWord, AnyName, NameBut, ANumber, AColour, AText, AHead, AMid, ATail, Slot, one, same, deeper, Alt, slots, item}
use Rattle.slint_grammar.specs.Grammar.{Alt as alts}
use Rattle.slint_grammar.specs.Derivations.{symbol_number, spelling, word_number, all_words, word_among, word_of, class_of, fits, held}
use Rattle.slint_grammar.proofs.Terminals.{no, and_right, is_same, not_both}
use Rattle.slint_grammar.proofs.Spelled.{kind_of, bare_held}

abbrev nth : {A : Type 0} → A → ℕ → List A → A
nth z n [] = z
nth z zero (x ∷ xs) = x
nth z (suc n) (x ∷ xs) = nth z n xs

-- the symbols by their numbers
abbrev all_symbols : List Symbol
all_symbols = symbols.TwoWay ∷ symbols.ColonEqual ∷ symbols.FatArrow ∷ symbols.ThinArrow ∷ symbols.EqualEqual ∷ symbols.NotEqual ∷ symbols.LessEqual ∷ symbols.GreaterEqual ∷ symbols.PlusEqual ∷ symbols.MinusEqual ∷ symbols.StarEqual ∷ symbols.SlashEqual ∷ symbols.AndAnd ∷ symbols.OrOr ∷ symbols.OpenBrace ∷ symbols.CloseBrace ∷ symbols.OpenParen ∷ symbols.CloseParen ∷ symbols.OpenBracket ∷ symbols.CloseBracket ∷ symbols.Less ∷ symbols.Greater ∷ symbols.Equal ∷ symbols.Colon ∷ symbols.Semicolon ∷ symbols.Comma ∷ symbols.Dot ∷ symbols.Bang ∷ symbols.Question ∷ symbols.Plus ∷ symbols.Minus ∷ symbols.Star ∷ symbols.Slash ∷ symbols.At ∷ []

symbol_back : (s : Symbol) → nth symbols.At (symbol_number s) all_symbols ≡ s
symbol_back symbols.TwoWay = refl
symbol_back _ = refl

one_symbol : (s x : Symbol) → IsTrue (symbol_number s == symbol_number x) → s ≡ x
one_symbol s x h = sym (symbol_back s) ∙ ap (λ n. nth symbols.At n all_symbols) (is_same _ _ h) ∙ symbol_back x

word_back : (w : Word) → nth words.Other (word_number w) all_words ≡ w
word_back words.As = refl
word_back _ = refl

one_word : (w x : Word) → IsTrue (word_number w == word_number x) → w ≡ x
one_word w x h = sym (word_back w) ∙ ap (λ n. nth words.Other n all_words) (is_same _ _ h) ∙ word_back x

spelled_so : (b : Bool) (w v x : Word) (name : List ℕ) → (IsTrue b → name ≡ spelling v) → (w ≡ x → name ≡ spelling w) → w ≡ (if b then v else x) → name ≡ spelling w
spelled_so true w v x name f g e = f refl ∙ ap spelling (sym e)
spelled_so false w v x name f g e = g e

-- a name that spells a word of a list, and not none of them
spelled_among : (ws : List Word) (w : Word) (name : List ℕ) → IsTrue (not (word_number w == word_number words.Other)) → w ≡ word_among ws name → name ≡ spelling w
spelled_among [] w name h e = absurd (not_both _ h (ap (λ x. word_number x == word_number words.Other) e))
spelled_among (v ∷ ws) w name h e = spelled_so (bytes_eq name (spelling v)) w v (word_among ws name) name (λ b. (bytes_eq-Decides name (spelling v)).0 b) (spelled_among ws w name h) e

-- a word that is told by its spelling
abbrev pub is_proper : Terminal → Bool
is_proper (TheWord w) = not (word_number w == word_number words.Other)
is_proper _ = true

abbrev pub all_proper : List Slot → Bool
all_proper [] = true
all_proper (one t ∷ xs) = is_proper t && all_proper xs
all_proper (same p ∷ xs) = all_proper xs
all_proper (deeper p ∷ xs) = all_proper xs

item_proper : (l : Listed) → IsTrue (all_proper (item l ∷ []))
item_proper Aliases = refl
item_proper _ = refl

item_and_rest : (l : Listed) (xs : List Slot) → IsTrue (all_proper xs) → IsTrue (all_proper (item l ∷ xs))
item_and_rest Aliases xs h = h
item_and_rest _ xs h = h

-- each word of the grammar is one
pub proper : {p : _} (a : Alt p) → IsTrue (all_proper (slots a))
proper (alts.listing_item {l}) = item_and_rest l _ refl
proper _ = refl

-- the token is the one that is told by what it gives
pub kind_held : (t : Terminal) (k : TokenKind) (span : Span) → IsTrue (is_proper t) → IsTrue (fits t (class_of k)) → kind_of t (held t (record { kind = k; span = span })) ≡ k
kind_held (Sign s) (kinds.Symbol x) span p h = ap kinds.Symbol (one_symbol s x h)
kind_held (Sign s) _ span p h = no h
kind_held (SignWhere b s) (kinds.Symbol x) span p h = ap kinds.Symbol (one_symbol s x (and_right b _ h))
kind_held (SignWhere b s) _ span p h = no (and_right b false h)
kind_held (TheWord w) (kinds.Id name) span p h = ap kinds.Id (sym (spelled_among all_words w name p (one_word w (word_of name) h)))
kind_held (TheWord w) _ span p h = no h
kind_held AnyName (kinds.Id name) span p h = refl
kind_held AnyName _ span p h = no h
kind_held (NameBut ws) (kinds.Id name) span p h = refl
kind_held (NameBut ws) _ span p h = no h
kind_held ANumber (kinds.Number n) span p h = refl
kind_held ANumber _ span p h = no h
kind_held AColour (kinds.Colour c) span p h = refl
kind_held AColour _ span p h = no h
kind_held AText (kinds.Str text) span p h = refl
kind_held AText _ span p h = no h
kind_held AHead (kinds.Head text) span p h = refl
kind_held AHead _ span p h = no h
kind_held AMid (kinds.Mid text) span p h = refl
kind_held AMid _ span p h = no h
kind_held ATail (kinds.Tail text) span p h = refl
kind_held ATail _ span p h = no h

abbrev unplaced : TokenKind → Token
unplaced k = record { kind = k; span = nowhere }

bare_unplaced : (t : Terminal) (k : TokenKind) (span : Span) → bare_held t (held t (record { kind = k; span = span })) ≡ bare_held t (held t (unplaced k))
bare_unplaced (Sign s) k span = refl
bare_unplaced (SignWhere b s) k span = refl
bare_unplaced (TheWord w) k span = refl
bare_unplaced AnyName (kinds.Id name) span = refl
bare_unplaced AnyName _ span = refl
bare_unplaced (NameBut ws) (kinds.Id name) span = refl
bare_unplaced (NameBut ws) _ span = refl
bare_unplaced ANumber k span = refl
bare_unplaced AColour k span = refl
bare_unplaced AText k span = refl
bare_unplaced AHead k span = refl
bare_unplaced AMid k span = refl
bare_unplaced ATail k span = refl

-- tokens of one kind give the same, stretches aside
pub held_alike : (t : Terminal) (a b : Token) → a.kind ≡ b.kind → bare_held t (held t a) ≡ bare_held t (held t b)
held_alike t a b e = bare_unplaced t a.kind a.span ∙ ap (λ k. bare_held t (held t (unplaced k))) e ∙ sym (bare_unplaced t b.kind b.span)
