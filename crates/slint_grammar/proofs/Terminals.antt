-- Which two terminals no token can both be, and which ones are among others.
use Rattle.std.proofs.Common.{◌≡◌, ℕ, Bool, true, false, not, ◌&&◌, ◌||◌, IsTrue, ◌==◌, List, [], ◌∷◌, ◌⊎◌, inl, inr, ⊎_elim, refl, sym, ◌∙◌, true≢false}
use Rattle.std.specs.Cmp.{unsigned_Decides}
use Rattle.slint_lexer.specs.declared.tokens.Symbol.{Symbol}
use Rattle.slint_grammar.specs.declared.words.Word.{Word}
use Rattle.slint_grammar.specs.Grammar.{Terminal, Sign, SignWhere, TheWord, AnyName, NameBut, ANumber, AColour, AText, AHead, AMid, ATail}
use Rattle.slint_grammar.specs.Derivations.{Class, ASign, AWord, NumberClass, ColourClass, TextClass, HeadClass, MidClass, TailClass, fits, symbol_number, word_number, is_among}

pub no {ℓ} : {A : Type ℓ} → false ≡ true → A
no e = absurd (true≢false (sym e))

pub and_left : (a b : Bool) → IsTrue (a && b) → IsTrue a
and_left true b h = refl
and_left false b h = h

pub and_right : (a b : Bool) → IsTrue (a && b) → IsTrue b
and_right true b h = h
and_right false b h = no h

pub or_each : (a b : Bool) → IsTrue (a || b) → IsTrue a ⊎ IsTrue b
or_each true b h = inl refl
or_each false b h = inr h

pub not_both : (b : Bool) → IsTrue (not b) → IsTrue b → ⊥
not_both true h k = no h
not_both false h k = no k

pub is_same : (m n : ℕ) → IsTrue (m == n) → m ≡ n
is_same m n = (unsigned_Decides m n).0

pub same_is : (m n : ℕ) → m ≡ n → IsTrue (m == n)
same_is m n = (unsigned_Decides m n).1

-- a token that is this symbol is not that terminal
abbrev not_sign : Symbol → Terminal → Bool
not_sign s (Sign x) = not (symbol_number s == symbol_number x)
not_sign s (SignWhere true x) = not (symbol_number s == symbol_number x)
not_sign s _ = true

abbrev not_word : Word → Terminal → Bool
not_word w (TheWord x) = not (word_number w == word_number x)
not_word w AnyName = false
not_word w (NameBut ws) = is_among w ws
not_word w _ = true

abbrev not_name : List Word → Terminal → Bool
not_name ws (TheWord x) = is_among x ws
not_name ws AnyName = false
not_name ws (NameBut xs) = false
not_name ws _ = true

-- no token is both
abbrev pub disjoint : Terminal → Terminal → Bool
disjoint (Sign s) u = not_sign s u
disjoint (SignWhere true s) u = not_sign s u
disjoint (TheWord w) u = not_word w u
disjoint AnyName u = not_name [] u
disjoint (NameBut ws) u = not_name ws u
disjoint ANumber ANumber = false
disjoint AColour AColour = false
disjoint AText AText = false
disjoint AHead AHead = false
disjoint AMid AMid = false
disjoint ATail ATail = false
disjoint _ _ = true

two_numbers : (m n k : ℕ) → IsTrue (not (m == n)) → IsTrue (m == k) → IsTrue (n == k) → ⊥
two_numbers m n k h a b = not_both (m == n) h (same_is m n (is_same m k a ∙ sym (is_same n k b)))

among_alike : (w x : Word) → word_number w ≡ word_number x → (ws : List Word) → is_among w ws ≡ is_among x ws
among_alike w x e [] = refl
among_alike w x e (y ∷ ys) = rw (e, among_alike w x e ys)

sign_fails : (s : Symbol) (u : Terminal) (x : Symbol) → IsTrue (not_sign s u) → IsTrue (symbol_number s == symbol_number x) → IsTrue (fits u (ASign x)) → ⊥
sign_fails s (Sign y) x h a b = two_numbers _ _ _ h a b
sign_fails s (SignWhere true y) x h a b = two_numbers _ _ _ h a b
sign_fails s _ x h a b = no b

word_fails : (w : Word) (u : Terminal) (x : Word) → IsTrue (not_word w u) → IsTrue (word_number w == word_number x) → IsTrue (fits u (AWord x)) → ⊥
word_fails w (TheWord y) x h a b = two_numbers _ _ _ h a b
word_fails w AnyName x h a b = no h
word_fails w (NameBut ws) x h a b = not_both (is_among x ws) b (sym (among_alike w x (is_same _ _ a) ws) ∙ h)
word_fails w (SignWhere true s) x h a b = no b
word_fails w (SignWhere false s) x h a b = no b
word_fails w _ x h a b = no b

name_fails : (ws : List Word) (u : Terminal) (x : Word) → IsTrue (not_name ws u) → IsTrue (not (is_among x ws)) → IsTrue (fits u (AWord x)) → ⊥
name_fails ws (TheWord w) x h a b = not_both (is_among x ws) a (sym (among_alike w x (is_same _ _ b) ws) ∙ h)
name_fails ws AnyName x h a b = no h
name_fails ws (NameBut xs) x h a b = no h
name_fails ws (SignWhere true s) x h a b = no b
name_fails ws (SignWhere false s) x h a b = no b
name_fails ws _ x h a b = no b

-- a terminal that fits none of these
fails_as_sign : (t u : Terminal) (x : Symbol) → IsTrue (disjoint t u) → IsTrue (fits t (ASign x)) → IsTrue (fits u (ASign x)) → ⊥
fails_as_sign (Sign s) u x h a b = sign_fails s u x h a b
fails_as_sign (SignWhere true s) u x h a b = sign_fails s u x h a b
fails_as_sign _ u x h a b = no a

fails_as_word : (t u : Terminal) (x : Word) → IsTrue (disjoint t u) → IsTrue (fits t (AWord x)) → IsTrue (fits u (AWord x)) → ⊥
fails_as_word (TheWord w) u x h a b = word_fails w u x h a b
fails_as_word AnyName u x h a b = name_fails [] u x h a b
fails_as_word (NameBut ws) u x h a b = name_fails ws u x h a b
fails_as_word (SignWhere true s) u x h a b = no a
fails_as_word (SignWhere false s) u x h a b = no a
fails_as_word _ u x h a b = no a

fails_as_number : (t u : Terminal) → IsTrue (disjoint t u) → IsTrue (fits t NumberClass) → IsTrue (fits u NumberClass) → ⊥
fails_as_number ANumber ANumber h a b = no h
fails_as_number ANumber (SignWhere true s) h a b = no b
fails_as_number ANumber (SignWhere false s) h a b = no b
fails_as_number ANumber _ h a b = no b
fails_as_number (SignWhere true s) u h a b = no a
fails_as_number (SignWhere false s) u h a b = no a
fails_as_number _ u h a b = no a

fails_as_colour : (t u : Terminal) → IsTrue (disjoint t u) → IsTrue (fits t ColourClass) → IsTrue (fits u ColourClass) → ⊥
fails_as_colour AColour AColour h a b = no h
fails_as_colour AColour (SignWhere true s) h a b = no b
fails_as_colour AColour (SignWhere false s) h a b = no b
fails_as_colour AColour _ h a b = no b
fails_as_colour (SignWhere true s) u h a b = no a
fails_as_colour (SignWhere false s) u h a b = no a
fails_as_colour _ u h a b = no a

fails_as_text : (t u : Terminal) → IsTrue (disjoint t u) → IsTrue (fits t TextClass) → IsTrue (fits u TextClass) → ⊥
fails_as_text AText AText h a b = no h
fails_as_text AText (SignWhere true s) h a b = no b
fails_as_text AText (SignWhere false s) h a b = no b
fails_as_text AText _ h a b = no b
fails_as_text (SignWhere true s) u h a b = no a
fails_as_text (SignWhere false s) u h a b = no a
fails_as_text _ u h a b = no a

fails_as_head : (t u : Terminal) → IsTrue (disjoint t u) → IsTrue (fits t HeadClass) → IsTrue (fits u HeadClass) → ⊥
fails_as_head AHead AHead h a b = no h
fails_as_head AHead (SignWhere true s) h a b = no b
fails_as_head AHead (SignWhere false s) h a b = no b
fails_as_head AHead _ h a b = no b
fails_as_head (SignWhere true s) u h a b = no a
fails_as_head (SignWhere false s) u h a b = no a
fails_as_head _ u h a b = no a

fails_as_mid : (t u : Terminal) → IsTrue (disjoint t u) → IsTrue (fits t MidClass) → IsTrue (fits u MidClass) → ⊥
fails_as_mid AMid AMid h a b = no h
fails_as_mid AMid (SignWhere true s) h a b = no b
fails_as_mid AMid (SignWhere false s) h a b = no b
fails_as_mid AMid _ h a b = no b
fails_as_mid (SignWhere true s) u h a b = no a
fails_as_mid (SignWhere false s) u h a b = no a
fails_as_mid _ u h a b = no a

fails_as_tail : (t u : Terminal) → IsTrue (disjoint t u) → IsTrue (fits t TailClass) → IsTrue (fits u TailClass) → ⊥
fails_as_tail ATail ATail h a b = no h
fails_as_tail ATail (SignWhere true s) h a b = no b
fails_as_tail ATail (SignWhere false s) h a b = no b
fails_as_tail ATail _ h a b = no b
fails_as_tail (SignWhere true s) u h a b = no a
fails_as_tail (SignWhere false s) u h a b = no a
fails_as_tail _ u h a b = no a

pub disjoint-fits : (t u : Terminal) (c : Class) → IsTrue (disjoint t u) → IsTrue (fits t c) → IsTrue (fits u c) → ⊥
disjoint-fits t u (ASign x) = fails_as_sign t u x
disjoint-fits t u (AWord x) = fails_as_word t u x
disjoint-fits t u NumberClass = fails_as_number t u
disjoint-fits t u ColourClass = fails_as_colour t u
disjoint-fits t u TextClass = fails_as_text t u
disjoint-fits t u HeadClass = fails_as_head t u
disjoint-fits t u MidClass = fails_as_mid t u
disjoint-fits t u TailClass = fails_as_tail t u

abbrev is_the_sign : Symbol → Terminal → Bool
is_the_sign s (Sign x) = symbol_number s == symbol_number x
is_the_sign s _ = false

abbrev is_the_word : Word → Terminal → Bool
is_the_word w (TheWord x) = word_number w == word_number x
is_the_word w AnyName = true
is_the_word w _ = false

abbrev is_any_name : Terminal → Bool
is_any_name AnyName = true
is_any_name _ = false

-- each token that is the first is the second too
abbrev pub inside : Terminal → Terminal → Bool
inside (Sign s) u = is_the_sign s u
inside (SignWhere true s) u = is_the_sign s u
inside (SignWhere false s) u = true
inside (TheWord w) u = is_the_word w u
inside AnyName u = is_any_name u
inside (NameBut ws) u = is_any_name u
inside ANumber ANumber = true
inside AColour AColour = true
inside AText AText = true
inside AHead AHead = true
inside _ _ = false

sign_inside : (s : Symbol) (u : Terminal) (c : Class) → IsTrue (is_the_sign s u) → IsTrue (fits (Sign s) c) → IsTrue (fits u c)
sign_inside s (Sign x) (ASign y) h a = same_is _ _ (sym (is_same _ _ h) ∙ is_same _ _ a)
sign_inside s (Sign x) _ h a = no a
sign_inside s _ c h a = no h

word_inside : (w : Word) (u : Terminal) (c : Class) → IsTrue (is_the_word w u) → IsTrue (fits (TheWord w) c) → IsTrue (fits u c)
word_inside w (TheWord x) (AWord y) h a = same_is _ _ (sym (is_same _ _ h) ∙ is_same _ _ a)
word_inside w (TheWord x) _ h a = no a
word_inside w AnyName (AWord y) h a = refl
word_inside w AnyName _ h a = no a
word_inside w _ c h a = no h

name_inside : (ws : List Word) (u : Terminal) (c : Class) → IsTrue (is_any_name u) → IsTrue (fits (NameBut ws) c) → IsTrue (fits u c)
name_inside ws AnyName (AWord y) h a = refl
name_inside ws AnyName _ h a = no a
name_inside ws _ c h a = no h

pub inside-fits : (t u : Terminal) (c : Class) → IsTrue (inside t u) → IsTrue (fits t c) → IsTrue (fits u c)
inside-fits (Sign s) u c h a = sign_inside s u c h a
inside-fits (SignWhere true s) u c h a = sign_inside s u c h a
inside-fits (SignWhere false s) u c h a = no a
inside-fits (TheWord w) u c h a = word_inside w u c h a
inside-fits AnyName u c h a = name_inside [] u c h a
inside-fits (NameBut ws) u c h a = name_inside ws u c h a
inside-fits ANumber ANumber c h a = a
inside-fits AColour AColour c h a = a
inside-fits AText AText c h a = a
inside-fits AHead AHead c h a = a
inside-fits _ _ c h a = no h

-- a token of this class is none of these terminals
abbrev pub none_fits : List Terminal → Class → Bool
none_fits [] c = true
none_fits (g ∷ gs) c = not (fits g c) && none_fits gs c

abbrev pub covered : Terminal → List Terminal → Bool
covered t [] = false
covered t (g ∷ gs) = inside t g || covered t gs

abbrev pub all_covered : List Terminal → List Terminal → Bool
all_covered [] fs = true
all_covered (g ∷ gs) fs = covered g fs && all_covered gs fs

abbrev pub all_disjoint : Terminal → List Terminal → Bool
all_disjoint t [] = true
all_disjoint t (g ∷ gs) = disjoint t g && all_disjoint t gs

pub covered-fails : (t : Terminal) (fs : List Terminal) (c : Class) → IsTrue (covered t fs) → IsTrue (none_fits fs c) → IsTrue (fits t c) → ⊥
covered-fails t [] c h k a = no h
covered-fails t (g ∷ gs) c h k a = ⊎_elim (λ i. not_both (fits g c) (and_left _ _ k) (inside-fits t g c i a))
    (λ more. covered-fails t gs c more (and_right _ _ k) a) (or_each (inside t g) (covered t gs) h)

fails-not : (b : Bool) → (IsTrue b → ⊥) → IsTrue (not b)
fails-not true f = absurd (f refl)
fails-not false f = refl

both : (a b : Bool) → IsTrue a → IsTrue b → IsTrue (a && b)
both a b h k = rw (h, k)

pub all_covered-none : (gs fs : List Terminal) (c : Class) → IsTrue (all_covered gs fs) → IsTrue (none_fits fs c) → IsTrue (none_fits gs c)
all_covered-none [] fs c h k = refl
all_covered-none (g ∷ gs) fs c h k = both (not (fits g c)) (none_fits gs c) (fails-not (fits g c) (λ a. covered-fails g fs c (and_left _ _ h) k a))
    (all_covered-none gs fs c (and_right _ _ h) k)

pub all_disjoint-none : (t : Terminal) (gs : List Terminal) (c : Class) → IsTrue (all_disjoint t gs) → IsTrue (fits t c) → IsTrue (none_fits gs c)
all_disjoint-none t [] c h a = refl
all_disjoint-none t (g ∷ gs) c h a = both (not (fits g c)) (none_fits gs c) (fails-not (fits g c) (λ b. disjoint-fits t g c (and_left _ _ h) a b))
    (all_disjoint-none t gs c (and_right _ _ h) a)
