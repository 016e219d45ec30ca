-- Tokens derive at most one tree.
use Rattle.std.proofs.Common.{◌≡◌, ℕ, ◌&&◌, IsTrue, List, ◌∷◌, ⊎_elim, refl, sym, ◌∙◌, ap, ap₂, subst}
use Rattle.slint_lexer.specs.declared.tokens.Token.{Token}
use Rattle.syntax_tree.specs.declared.files.File.{File}
use Rattle.slint_grammar.specs.Parts.{Part}
use Rattle.slint_grammar.specs.Grammar.{Terminal, Slot, Alt, slots}
use Rattle.slint_grammar.specs.Made.{made}
use Rattle.slint_grammar.specs.Derivations.{held, Derives, by, Through, ends, takes, part, deep, tree, trees, DerivesFile}
use Rattle.slint_grammar.specs.Stacks.{alts_of}
use Rattle.slint_grammar.proofs.Terminals.{and_left, and_right}
use Rattle.slint_grammar.proofs.Members.{IsMember, listed}
use Rattle.slint_grammar.proofs.Heads.{Accepts, accepted}
use Rattle.slint_grammar.proofs.GoesOn.{goes_on}
use Rattle.slint_grammar.proofs.Predicted.{Okay, same_front, same_rest, apart-fails, follows, follows-okay, stands, each_follows, each_alt_follows-holds, all_apart, look_ahead, compared}
use Rattle.slint_grammar.proofs.Table.{predicted}

-- a production told by the tokens that it derives
one_alt : {p : Part} (k : ℕ) (fs : List Terminal) (as' : List (Alt p)) (a b : Alt p) (s r r' : List Token) → IsTrue (all_apart k fs as') → IsMember a as' → IsMember b as'
    → Accepts (slots a) s r → Accepts (slots b) s r' → Okay fs r → Okay fs r' → a ≡ b
one_alt k fs as' a b s r r' h m n x y u v = ⊎_elim (λ e. e) (λ c. absurd (⊎_elim (λ d. apart-fails k fs (slots a) (slots b) s r r' d x y u v) (λ d. apart-fails k fs (slots b) (slots a) s r' r d y x v u) c))
    (compared k fs as' a b h m n)

-- two right sides of equal productions that end alike and have equal trees: so have their parts
by_one_alt : {p : Part} (f g c d : ℕ) (s s' r r' : List Token) (a b : Alt p) → a ≡ b → (x : Through f (slots a) c s r) (y : Through g (slots b) d s' r')
    → ((z : Through g (slots a) d s' r') → (r ≡ r') × (trees x ≡ trees z)) → (r ≡ r') × (made a (trees x) ≡ made b (trees y))
by_one_alt f g c d s s' r r' a b e x y alike = (subst (λ b. (z : Through g (slots b) d s' r') → (r ≡ r') × (made a (trees x) ≡ made b (trees z))) e
    (λ z. ((alike z).0, ap (made a) (alike z).1))) y

-- what is checked at a part of a right side: that it can stand, that the next token tells its end, and the same of the places behind it
abbrev PartFollows : List Terminal → Part → List Slot → Type 0
PartFollows fs p xs = IsTrue (stands p && (follows (goes_on p) fs xs && each_follows fs xs))

ended_okay : (fs : List Terminal) (p : Part) (xs : List Slot) (m r : List Token) → PartFollows fs p xs → Accepts xs m r → Okay fs r → Okay (goes_on p) m
ended_okay fs p xs m r h = follows-okay (goes_on p) fs xs m r (and_left _ (each_follows fs xs) (and_right (stands p) _ h))

rest_follows : (fs : List Terminal) (p : Part) (xs : List Slot) → PartFollows fs p xs → IsTrue (each_follows fs xs)
rest_follows fs p xs h = and_right (follows (goes_on p) fs xs) _ (and_right (stands p) _ h)

mutual
  -- two derivations of a part from the same tokens, neither of which can go on: they end alike, and have one tree
  pub one_part : {p : Part} {f g c d : ℕ} {s s' r r' : List Token} (x : Derives f p c s r) (y : Derives g p d s' r') → s ≡ s' → IsTrue (stands p) → Okay (goes_on p) r → Okay (goes_on p) r'
      → (r ≡ r') × (tree x ≡ tree y)
  one_part {p} {f} {g} {c} {d} {s} {s'} {r} {r'} (by a x) (by b y) e h u v =
      let from_s = subst (λ z. Accepts (slots b) z r') (sym e) (accepted y) in
      let e' = one_alt look_ahead (goes_on p) (alts_of p) a b s r r' (and_right _ _ (predicted p h)) (listed a) (listed b) (accepted x) from_s u v in
      let checked = each_alt_follows-holds (goes_on p) (alts_of p) a (and_left _ _ (predicted p h)) (listed a) in
      by_one_alt f g c d s s' r r' a b e' x y (λ z. one_through (goes_on p) x z e checked u v)

  one_through : (fs : List Terminal) {xs : List Slot} {f g c d : ℕ} {s s' r r' : List Token} (x : Through f xs c s r) (y : Through g xs d s' r') → s ≡ s' → IsTrue (each_follows fs xs)
      → Okay fs r → Okay fs r' → (r ≡ r') × (trees x ≡ trees y)
  one_through fs ends ends e h u v = (e, refl)
  one_through fs (takes {t} a x) (takes b y) e h u v =
      let e' : a.token ∷ _ ≡ b.token ∷ _ = sym a.front ∙ e ∙ b.front in
      let more = one_through fs x y (same_rest a.token b.token _ _ e') h u v in
      (more.0, ap₂ (λ i j. (held t i, j)) (same_front _ _ _ _ e') more.1)
  one_through fs (part {p} {xs} {m} {r} a x) (part {m = n} {r = r'} b y) e h u v =
      let first = one_part a b e (and_left _ _ h) (ended_okay fs p xs m r h (accepted x) u) (ended_okay fs p xs n r' h (accepted y) v) in
      let more = one_through fs x y first.0 (rest_follows fs p xs h) u v in
      (more.0, ap₂ (λ i j. (i, j)) first.1 more.1)
  one_through fs (deep {p} {xs} {m} {r} a x) (deep {m = n} {r = r'} b y) e h u v =
      let first = one_part a b e (and_left _ _ h) (ended_okay fs p xs m r h (accepted x) u) (ended_okay fs p xs n r' h (accepted y) v) in
      let more = one_through fs x y first.0 (rest_follows fs p xs h) u v in
      (more.0, ap₂ (λ i j. (i, j)) first.1 more.1)

pub one_tree : (tokens : List Token) (a b : File) → DerivesFile tokens a → DerivesFile tokens b → a ≡ b
one_tree tokens a b x y = ap (λ items. record { items = items }) (sym x.1 ∙ (one_part x.0 y.0 refl refl tt tt).1 ∙ y.1)
