-- What is printed of a derived part is derived again, and its tree is the same, stretches aside.
use Rattle.std.proofs.Common.{◌≡◌, ℕ, IsTrue, List, [], ◌∷◌, ◌++◌, ◌⊎◌, inl, inr, map, refl, sym, ◌∙◌, ap, ap₂, subst, append_assoc}
use Rattle.std.proofs.lemmas.List.{append-nil}
use Rattle.slint_lexer.specs.declared.tokens.Symbol.TheVariants as symbols
use Rattle.slint_lexer.specs.declared.tokens.Token.{Token}
use Rattle.slint_lexer.specs.declared.tokens.TokenKind.{TokenKind}
use Rattle.slint_lexer.specs.declared.tokens.TokenKind.TheVariants as kinds
use Rattle.syntax_tree.specs.declared.files.File.{File}
use Rattle.syntax_tree.specs.Bare.{SameFile}
use Rattle.slint_lexer.specs.Spelled.{kinds_of}
use Rattle.syntax_tree.specs.Printed.{Kinds, sign, in_order, if_some, tokens_of_expr, tokens_of_stmt, tokens_of_file}
use Rattle.slint_grammar.specs.Parts.{Start, Part, closer, FileItems, Open, MayAssign}
use Rattle.slint_grammar.specs.declared.words.Word.TheVariants as words
use Rattle.slint_grammar.specs.Grammar.{Slot, Alt, slots, Sign, TheWord}
use Rattle.slint_grammar.specs.Grammar.{Alt as alts}
use Rattle.slint_grammar.specs.Made.{Tree, AllGiven, made}
use Rattle.slint_grammar.specs.Derivations.{held, spelling, Derives, by, Through, ends, takes, part, deep, tree, trees, DerivesFile}
use Rattle.slint_grammar.proofs.Terminals.{and_left, and_right, same_is}
use Rattle.slint_grammar.proofs.Spelled.{all_but_last, spell, spells, bare, bares}
use Rattle.slint_grammar.proofs.HeldKinds.{all_proper, proper, kind_held, held_alike}
use Rattle.slint_grammar.proofs.SpelledForms.{spelled, but_last, returned, assigned}
use Rattle.slint_grammar.proofs.BareMade.{is_made, bare_made}
use Rattle.slint_grammar.proofs.Fronts.{front, limit}
use Rattle.slint_grammar.proofs.Edited.{Edited, stays, adds, a_semicolon, a_comma, joined, keeps_front, drops_front, swaps_front}

-- a part is derived from other tokens, with the same tree, stretches aside, and the kinds behind it are these
pub record Again (free : ℕ) (p : Part) (d : ℕ) (s : List Token) (ks : Kinds) (t : Tree p) : Type 0 where
  pub rest : List Token
  pub behind : kinds_of rest ≡ ks
  pub derived : Derives free p d s rest
  pub alike : bare p (tree derived) ≡ bare p t

pub record AgainThrough (free : ℕ) (xs : List Slot) (d : ℕ) (s : List Token) (ks : Kinds) (g : AllGiven xs) : Type 0 where
  pub rest : List Token
  pub behind : kinds_of rest ≡ ks
  pub derived : Through free xs d s rest
  pub alike : bares xs (trees derived) ≡ bares xs g

-- a production of which the tree forgets something: how it is derived again, and how its tokens are edited
pub record Lost {p : Part} {d : ℕ} {s r : List Token} (a : Alt p) (x : Through 0 (slots a) d s r) : Type 0 where
  pub again : (free : ℕ) (s' : List Token) (ks : Kinds) → kinds_of s' ≡ spell p (made a (trees x)) ++ ks → Again free p d s' ks (made a (trees x))
  pub edited : Edited (kinds_of s) (spell p (made a (trees x))) (kinds_of r)

-- a production either keeps all of its tokens, or it forgets something
abbrev Form : {p : Part} {d : ℕ} {s r : List Token} → (a : Alt p) → Through 0 (slots a) d s r → Type 0
Form {p} a x = (IsTrue (is_made a) × (spell p (made a (trees x)) ≡ spells (slots a) (trees x))) ⊎ Lost a x

semicolon_closed : (xs ys : Kinds) (k : TokenKind) → xs ≡ ys ++ (k ∷ []) → xs ≡ all_but_last xs ++ (k ∷ [])
semicolon_closed xs ys k e = e ∙ ap (λ z. z ++ (k ∷ [])) (sym (but_last ys k) ∙ ap all_but_last (sym e))

open_closed : {free d : ℕ} {h : Start} {s r : List Token} (x : Derives free (Open h) d s r) → tokens_of_stmt (tree x) ≡ all_but_last (tokens_of_stmt (tree x)) ++ sign symbols.Semicolon
open_closed (by alts.return_stmt (takes w (part v ends))) = semicolon_closed _ (kinds.Id (spelling words.Return) ∷ if_some tokens_of_expr (tree v)) (kinds.Symbol symbols.Semicolon) (returned (held (TheWord words.Return) w.token) (tree v))
open_closed (by alts.expr_stmt (deep e (part v ends))) = semicolon_closed _ (tokens_of_expr (tree e) ++ spell MayAssign (tree v)) (kinds.Symbol symbols.Semicolon) (assigned (tree e) (tree v))

form : {p : Part} {d : ℕ} {s r : List Token} (a : Alt p) (x : Through 0 (slots a) d s r) → Form a x
form alts.semicolon (takes t ends) = inr (record {
  again = λ free s ks e. record { rest = s; behind = e; derived = by alts.no_semicolon ends; alike = refl };
  edited = drops_front t refl a_semicolon stays;
})
form (alts.rest_comma {l}) (takes t (part (by alts.listing_closes (takes u ends)) ends)) = inr (record {
  again = λ free s ks e. let f = front free (Sign (closer l)) (kinds.Symbol (closer l)) (same_is _ _ refl) (limit u) s ks e in
      record { rest = f.rest; behind = f.behind; derived = by alts.rest_closes (takes f.taken ends); alike = refl };
  edited = drops_front t refl a_comma (keeps_front u refl stays);
})
form (alts.rest_comma {l}) (takes t (part (by alts.listing_item x) ends)) = inl (refl, ap (λ z. kinds.Symbol symbols.Comma ∷ z) (sym (append-nil _)))
form alts.public_pure (takes t (takes u ends)) = inr (record {
  again = λ free s ks e.
      let f = front free (TheWord words.Pure) (kinds.Id (spelling words.Pure)) refl (limit t) s (kinds.Id (spelling words.Public) ∷ ks) e in
      let g = front free (TheWord words.Public) (kinds.Id (spelling words.Public)) refl (limit t) f.rest ks f.behind in
      record { rest = g.rest; behind = g.behind; derived = by alts.pure_public (takes f.taken (takes g.taken ends)); alike = refl };
  edited = swaps_front t u refl refl;
})
form alts.protected_pure (takes t (takes u ends)) = inr (record {
  again = λ free s ks e.
      let f = front free (TheWord words.Pure) (kinds.Id (spelling words.Pure)) refl (limit t) s (kinds.Id (spelling words.Protected) ∷ ks) e in
      let g = front free (TheWord words.Protected) (kinds.Id (spelling words.Protected)) refl (limit t) f.rest ks f.behind in
      record { rest = g.rest; behind = g.behind; derived = by alts.pure_protected (takes f.taken (takes g.taken ends)); alike = refl };
  edited = swaps_front t u refl refl;
})
form alts.stmt_last (takes t ends) = inr (record {
  again = λ free s ks e.
      let f = front free (Sign symbols.Semicolon) (kinds.Symbol symbols.Semicolon) refl (limit t) s (kinds.Symbol symbols.CloseBrace ∷ ks) e in
      let g = front free (Sign symbols.CloseBrace) (kinds.Symbol symbols.CloseBrace) refl (limit t) f.rest ks f.behind in
      record { rest = g.rest; behind = g.behind; derived = by alts.stmt_closed (takes f.taken (part (by alts.stmts_close (takes g.taken ends)) ends)); alike = refl };
  edited = adds (kinds.Symbol symbols.Semicolon) a_semicolon (keeps_front t refl stays);
})
form alts.stmts_more (part o (part y ends)) = inl (refl, ap (λ z. (z ++ in_order (map tokens_of_stmt (tree y).0)) ++ sign symbols.CloseBrace) (open_closed o) ∙ simp (append_assoc, append-nil))
form a x = inl (refl, spelled a refl (trees x))

-- a production derived again by its places
again_by : {p : Part} {d : ℕ} {s r : List Token} (a : Alt p) (x : Through 0 (slots a) d s r) → Form a x → (free : ℕ) (s' : List Token) (ks : Kinds)
    → (kinds_of s' ≡ spells (slots a) (trees x) ++ ks → AgainThrough free (slots a) d s' ks (trees x)) → kinds_of s' ≡ spell p (made a (trees x)) ++ ks → Again free p d s' ks (made a (trees x))
again_by a x (inl kept) free s' ks f e =
    let m = f (e ∙ ap (λ z. z ++ ks) kept.1) in
    record { rest = m.rest; behind = m.behind; derived = by a m.derived; alike = bare_made a kept.0 (trees m.derived) ∙ ap (made a) m.alike ∙ sym (bare_made a kept.0 (trees x)) }
again_by a x (inr lost) free s' ks f e = lost.again free s' ks e

mutual
  pub again : {p : Part} {d : ℕ} {s r : List Token} (x : Derives 0 p d s r) (free : ℕ) (s' : List Token) (ks : Kinds) → kinds_of s' ≡ spell p (tree x) ++ ks → Again free p d s' ks (tree x)
  again (by a x) free s' ks e = again_by a x (form a x) free s' ks (λ e'. again_through x (proper a) free s' ks e') e

  again_through : {xs : List Slot} {d : ℕ} {s r : List Token} (x : Through 0 xs d s r) → IsTrue (all_proper xs) → (free : ℕ) (s' : List Token) (ks : Kinds) → kinds_of s' ≡ spells xs (trees x) ++ ks
      → AgainThrough free xs d s' ks (trees x)
  again_through ends h free s' ks e = record { rest = s'; behind = e; derived = ends; alike = refl }
  again_through (takes {t} {xs} a x) h free s' ks e =
      let f = front free t a.token.kind a.fits_it (limit a) s' (spells xs (trees x) ++ ks) (e ∙ ap (λ k. k ∷ (spells xs (trees x) ++ ks)) (kind_held t a.token.kind a.token.span (and_left _ _ h) a.fits_it)) in
      let more = again_through x (and_right _ _ h) free f.rest ks f.behind in
      record { rest = more.rest; behind = more.behind; derived = takes f.taken more.derived; alike = ap₂ (λ i j. (i, j)) (held_alike t f.taken.token a.token f.kind) more.alike }
  again_through (part {p} {xs} a x) h free s' ks e =
      let f = again a free s' (spells xs (trees x) ++ ks) (e ∙ append_assoc (spell p (tree a)) (spells xs (trees x)) ks) in
      let more = again_through x h free f.rest ks f.behind in
      record { rest = more.rest; behind = more.behind; derived = part f.derived more.derived; alike = ap₂ (λ i j. (i, j)) f.alike more.alike }
  again_through (deep {p} {xs} a x) h free s' ks e =
      let f = again a free s' (spells xs (trees x) ++ ks) (e ∙ append_assoc (spell p (tree a)) (spells xs (trees x)) ks) in
      let more = again_through x h free f.rest ks f.behind in
      record { rest = more.rest; behind = more.behind; derived = deep f.derived more.derived; alike = ap₂ (λ i j. (i, j)) f.alike more.alike }

edited_by : {p : Part} {d : ℕ} {s r : List Token} (a : Alt p) (x : Through 0 (slots a) d s r) → Form a x → Edited (kinds_of s) (spells (slots a) (trees x)) (kinds_of r) → Edited (kinds_of s) (spell p (made a (trees x))) (kinds_of r)
edited_by {p} {d} {s} {r} a x (inl kept) y = subst (λ w. Edited (kinds_of s) w (kinds_of r)) (sym kept.1) y
edited_by a x (inr lost) y = lost.edited

mutual
  pub edited : {p : Part} {d : ℕ} {s r : List Token} (x : Derives 0 p d s r) → Edited (kinds_of s) (spell p (tree x)) (kinds_of r)
  edited (by a x) = edited_by a x (form a x) (edited_through x (proper a))

  edited_through : {xs : List Slot} {d : ℕ} {s r : List Token} (x : Through 0 xs d s r) → IsTrue (all_proper xs) → Edited (kinds_of s) (spells xs (trees x)) (kinds_of r)
  edited_through ends h = stays
  edited_through (takes a x) h = keeps_front a (and_left _ _ h) (edited_through x (and_right _ _ h))
  edited_through (part a x) h = joined (edited a) (edited_through x h)
  edited_through (deep a x) h = joined (edited a) (edited_through x h)

no_more : (s : List Token) → kinds_of s ≡ [] → s ≡ []
no_more [] e = refl
no_more (token ∷ m) e = cc

-- what is printed of a file is derived, with the same tree, stretches aside
pub printed_again : (tokens printed : List Token) (f : File) → DerivesFile tokens f → kinds_of printed ≡ tokens_of_file f → (g : File) × DerivesFile printed g × SameFile g f
printed_again tokens printed f (x, is) e =
    let y = again x 0 printed [] (e ∙ ap (spell FileItems) (sym is) ∙ sym (append-nil _)) in
    let z = subst (λ rest. (w : Derives 0 FileItems 0 printed rest) × (bare FileItems (tree w) ≡ bare FileItems (tree x))) (no_more y.rest y.behind) (y.derived, y.alike) in
    (record { items = tree z.0 }, (z.0, refl), ap (λ items. record { items = items }) (z.1 ∙ ap (bare FileItems) is))

-- and its kinds are those of the file, edited
pub printed_edited : (tokens : List Token) (f : File) → DerivesFile tokens f → Edited (kinds_of tokens) (tokens_of_file f) []
printed_edited tokens f (x, is) = subst (λ items. Edited (kinds_of tokens) (spell FileItems items) []) is (edited x)
