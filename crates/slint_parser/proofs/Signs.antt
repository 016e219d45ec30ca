-- What is seen at the front of tokens, against what a token is asked to be.
use Rattle.std.proofs.Common.{◌≡◌, ℕ, Bool, true, false, List, [], ◌∷◌, sym, refl, ap, ◌∙◌, eq-eqb, eqb-true, slice_index_or}
use Rattle.std.proofs.lemmas.Bool.{false≢true}
use Rattle.slint_base.specs.declared.faults.Span.{Span}
use Rattle.slint_lexer.specs.declared.tokens.Symbol.{Symbol}
use Rattle.slint_lexer.specs.declared.tokens.Symbol.TheVariants as symbols
use Rattle.slint_lexer.specs.declared.tokens.Token.{Token}
use Rattle.slint_grammar.specs.declared.words.Word.{Word}
use Rattle.slint_grammar.specs.declared.words.Word.TheVariants as words
use Rattle.slint_parser.specs.declared.stops.Seen.{Seen}
use Rattle.slint_parser.specs.declared.stops.Seen.TheVariants as seens
use Rattle.slint_grammar.specs.Grammar.{Terminal, Sign, TheWord, AnyName, ANumber, AColour, AText, AHead, AMid, ATail}
use Rattle.slint_grammar.specs.Derivations.{Class, ASign, AWord, NumberClass, ColourClass, TextClass, HeadClass, MidClass, TailClass, class_of, fits, is_sign, is_word, symbol_number, word_number, all_words}
use Rattle.slint_parser.specs.Readings.{seen, seen_of, shows_name, is_piece, TookOne}

all_symbols : List Symbol
all_symbols = symbols.TwoWay ∷ symbols.ColonEqual ∷ symbols.FatArrow ∷ symbols.ThinArrow ∷ symbols.EqualEqual ∷ symbols.NotEqual ∷ symbols.LessEqual ∷ symbols.GreaterEqual ∷ symbols.PlusEqual ∷ symbols.MinusEqual ∷ symbols.StarEqual ∷ symbols.SlashEqual ∷ symbols.AndAnd ∷ symbols.OrOr ∷ symbols.OpenBrace ∷ symbols.CloseBrace ∷ symbols.OpenParen ∷ symbols.CloseParen ∷ symbols.OpenBracket ∷ symbols.CloseBracket ∷ symbols.Less ∷ symbols.Greater ∷ symbols.Equal ∷ symbols.Colon ∷ symbols.Semicolon ∷ symbols.Comma ∷ symbols.Dot ∷ symbols.Bang ∷ symbols.Question ∷ symbols.Plus ∷ symbols.Minus ∷ symbols.Star ∷ symbols.Slash ∷ symbols.At ∷ []

numbered : (s : Symbol) → slice_index_or all_symbols (symbol_number s) symbols.At ≡ s
unfolding all_symbols
numbered symbols.TwoWay = refl
numbered _ = refl

numbered_word : (w : Word) → slice_index_or all_words (word_number w) words.Other ≡ w
numbered_word words.As = refl
numbered_word _ = refl

same_symbol : (a b : Symbol) → symbol_number a ≡ symbol_number b → a ≡ b
same_symbol a b e = sym (numbered a) ∙ ap (λ n. slice_index_or all_symbols n symbols.At) e ∙ numbered b

same_word : (a b : Word) → word_number a ≡ word_number b → a ≡ b
same_word a b e = sym (numbered_word a) ∙ ap (λ n. slice_index_or all_words n words.Other) e ∙ numbered_word b

is_sign_of : (s : Symbol) (c : Class) → seen_of c ≡ seens.Symbol s → is_sign s c ≡ true
is_sign_of s (ASign o) h = let same : s ≡ o = cc in eq-eqb (symbol_number s) (symbol_number o) (ap symbol_number same)
is_sign_of s _ h = cc

is_sign_from : (s : Symbol) (c : Class) → is_sign s c ≡ true → seen_of c ≡ seens.Symbol s
is_sign_from s (ASign o) h = ap seens.Symbol (sym (same_symbol s o (eqb-true (symbol_number s) (symbol_number o) h)))
is_sign_from s _ h = absurd (false≢true h)

is_word_of : (w : Word) (c : Class) → seen_of c ≡ seens.Word w → is_word w c ≡ true
is_word_of w (AWord o) h = let same : w ≡ o = cc in eq-eqb (word_number w) (word_number o) (ap word_number same)
is_word_of w _ h = cc

pub is_word_from : (w : Word) (c : Class) → is_word w c ≡ true → seen_of c ≡ seens.Word w
is_word_from w (AWord o) h = ap seens.Word (sym (same_word w o (eqb-true (word_number w) (word_number o) h)))
is_word_from w _ h = absurd (false≢true h)

both_or_none : (a b : Bool) → (a ≡ true → b ≡ true) → (b ≡ true → a ≡ true) → a ≡ b
both_or_none true b f g = sym (f refl)
both_or_none false true f g = g refl
both_or_none false false f g = refl

-- a test that says whether a symbol is seen, against the token at the front
pub sign_agrees : (symbol : Symbol) (s : List Token) (b : Bool) → (b ≡ true → seen s ≡ seens.Symbol symbol) → (seen s ≡ seens.Symbol symbol → b ≡ true)
    → (token : Token) (rest : List Token) → s ≡ token ∷ rest → fits (Sign symbol) (class_of token.kind) ≡ b
sign_agrees symbol s b f g token rest e =
    both_or_none (is_sign symbol (class_of token.kind)) b (λ h. g (ap seen e ∙ is_sign_from symbol (class_of token.kind) h)) (λ h. is_sign_of symbol (class_of token.kind) (sym (ap seen e) ∙ f h))

pub word_agrees : (word : Word) (s : List Token) (b : Bool) → (b ≡ true → seen s ≡ seens.Word word) → (seen s ≡ seens.Word word → b ≡ true)
    → (token : Token) (rest : List Token) → s ≡ token ∷ rest → fits (TheWord word) (class_of token.kind) ≡ b
word_agrees word s b f g token rest e =
    both_or_none (is_word word (class_of token.kind)) b (λ h. g (ap seen e ∙ is_word_from word (class_of token.kind) h)) (λ h. is_word_of word (class_of token.kind) (sym (ap seen e) ∙ f h))

-- the other tokens, as the tests say it
agrees_by : (t : Terminal) (wanted : Seen) (of : (c : Class) → seen_of c ≡ wanted → fits t c ≡ true) (from : (c : Class) → fits t c ≡ true → seen_of c ≡ wanted)
    → (s : List Token) (b : Bool) → (b ≡ true → seen s ≡ wanted) → (seen s ≡ wanted → b ≡ true)
    → (token : Token) (rest : List Token) → s ≡ token ∷ rest → fits t (class_of token.kind) ≡ b
agrees_by t wanted of from s b f g token rest e =
    both_or_none (fits t (class_of token.kind)) b (λ h. g (ap seen e ∙ from (class_of token.kind) h)) (λ h. of (class_of token.kind) (sym (ap seen e) ∙ f h))

number_of : (c : Class) → seen_of c ≡ seens.Number → fits ANumber c ≡ true
number_of NumberClass h = refl
number_of _ h = cc

number_from : (c : Class) → fits ANumber c ≡ true → seen_of c ≡ seens.Number
number_from NumberClass h = refl
number_from _ h = absurd (false≢true h)

pub number_agrees : (s : List Token) (b : Bool) → (b ≡ true → seen s ≡ seens.Number) → (seen s ≡ seens.Number → b ≡ true)
    → (token : Token) (rest : List Token) → s ≡ token ∷ rest → fits ANumber (class_of token.kind) ≡ b
number_agrees = agrees_by ANumber seens.Number number_of number_from

colour_of : (c : Class) → seen_of c ≡ seens.Colour → fits AColour c ≡ true
colour_of ColourClass h = refl
colour_of _ h = cc

colour_from : (c : Class) → fits AColour c ≡ true → seen_of c ≡ seens.Colour
colour_from ColourClass h = refl
colour_from _ h = absurd (false≢true h)

pub colour_agrees : (s : List Token) (b : Bool) → (b ≡ true → seen s ≡ seens.Colour) → (seen s ≡ seens.Colour → b ≡ true)
    → (token : Token) (rest : List Token) → s ≡ token ∷ rest → fits AColour (class_of token.kind) ≡ b
colour_agrees = agrees_by AColour seens.Colour colour_of colour_from

text_of : (c : Class) → seen_of c ≡ seens.Text → fits AText c ≡ true
text_of TextClass h = refl
text_of _ h = cc

text_from : (c : Class) → fits AText c ≡ true → seen_of c ≡ seens.Text
text_from TextClass h = refl
text_from _ h = absurd (false≢true h)

pub text_agrees : (s : List Token) (b : Bool) → (b ≡ true → seen s ≡ seens.Text) → (seen s ≡ seens.Text → b ≡ true)
    → (token : Token) (rest : List Token) → s ≡ token ∷ rest → fits AText (class_of token.kind) ≡ b
text_agrees = agrees_by AText seens.Text text_of text_from

head_of : (c : Class) → seen_of c ≡ seens.Head → fits AHead c ≡ true
head_of HeadClass h = refl
head_of _ h = cc

head_from : (c : Class) → fits AHead c ≡ true → seen_of c ≡ seens.Head
head_from HeadClass h = refl
head_from _ h = absurd (false≢true h)

pub head_agrees : (s : List Token) (b : Bool) → (b ≡ true → seen s ≡ seens.Head) → (seen s ≡ seens.Head → b ≡ true)
    → (token : Token) (rest : List Token) → s ≡ token ∷ rest → fits AHead (class_of token.kind) ≡ b
head_agrees = agrees_by AHead seens.Head head_of head_from

mid_of : (c : Class) → seen_of c ≡ seens.Mid → fits AMid c ≡ true
mid_of MidClass h = refl
mid_of _ h = cc

mid_from : (c : Class) → fits AMid c ≡ true → seen_of c ≡ seens.Mid
mid_from MidClass h = refl
mid_from _ h = absurd (false≢true h)

pub mid_agrees : (s : List Token) (b : Bool) → (b ≡ true → seen s ≡ seens.Mid) → (seen s ≡ seens.Mid → b ≡ true)
    → (token : Token) (rest : List Token) → s ≡ token ∷ rest → fits AMid (class_of token.kind) ≡ b
mid_agrees = agrees_by AMid seens.Mid mid_of mid_from

tail_of : (c : Class) → seen_of c ≡ seens.Tail → fits ATail c ≡ true
tail_of TailClass h = refl
tail_of _ h = cc

tail_from : (c : Class) → fits ATail c ≡ true → seen_of c ≡ seens.Tail
tail_from TailClass h = refl
tail_from _ h = absurd (false≢true h)

pub tail_agrees : (s : List Token) (b : Bool) → (b ≡ true → seen s ≡ seens.Tail) → (seen s ≡ seens.Tail → b ≡ true)
    → (token : Token) (rest : List Token) → s ≡ token ∷ rest → fits ATail (class_of token.kind) ≡ b
tail_agrees = agrees_by ATail seens.Tail tail_of tail_from

pub name_agrees : (s : List Token) (b : Bool) → b ≡ shows_name s → (token : Token) (rest : List Token) → s ≡ token ∷ rest → fits AnyName (class_of token.kind) ≡ b
name_agrees s b h token rest e = sym (h ∙ ap shows_name e)

pub text_is_piece : (c : Class) → fits AText c ≡ true → is_piece c ≡ true
text_is_piece TextClass h = refl
text_is_piece _ h = absurd (false≢true h)

pub head_is_piece : (c : Class) → fits AHead c ≡ true → is_piece c ≡ true
head_is_piece HeadClass h = refl
head_is_piece _ h = absurd (false≢true h)

pub mid_is_piece : (c : Class) → fits AMid c ≡ true → is_piece c ≡ true
mid_is_piece MidClass h = refl
mid_is_piece _ h = absurd (false≢true h)

pub tail_is_piece : (c : Class) → fits ATail c ≡ true → is_piece c ≡ true
tail_is_piece TailClass h = refl
tail_is_piece _ h = absurd (false≢true h)

pub not_sign : (symbol : Symbol) (s : List Token) → (seen s ≡ seens.Symbol symbol → ⊥) → (token : Token) (rest : List Token) → s ≡ token ∷ rest → is_sign symbol (class_of token.kind) ≡ false
not_sign symbol s unlike token rest e = sign_agrees symbol s false (λ h. absurd (false≢true h)) (λ h. absurd (unlike h)) token rest e

pub not_word : (word : Word) (s : List Token) → (seen s ≡ seens.Word word → ⊥) → (token : Token) (rest : List Token) → s ≡ token ∷ rest → is_word word (class_of token.kind) ≡ false
not_word word s unlike token rest e = word_agrees word s false (λ h. absurd (false≢true h)) (λ h. absurd (unlike h)) token rest e

-- what is seen where a token was taken
pub took_sign_seen : (symbol : Symbol) (d : ℕ) (s r : List Token) (span : Span) → TookOne (Sign symbol) d s r span → seen s ≡ seens.Symbol symbol
took_sign_seen symbol d s r span x = ap seen x.x.front ∙ is_sign_from symbol (class_of x.x.token.kind) x.x.fits_it
