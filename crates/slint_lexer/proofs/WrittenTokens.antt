-- That written tokens are read again.
use Rattle.std.proofs.Common.{◌≡◌, ℕ, Bool, true, false, cond, List, [], ◌∷◌, ◌++◌, length, take, drop, refl, sym, ap, ◌∙◌, subst}
use Rattle.std.specs.Prelude.{nat_eq}
use Rattle.std.specs.List.{starts_with}
use Rattle.std.proofs.Math.Utf8.{encode}
use Rattle.std.proofs.lemmas.List.{take-append-drop}
use Rattle.std.proofs.lemmas.Slice.Eq.{bytes_eq-Decides}
use Rattle.unicode_ident.proofs.Computing.{unicode_ident}
use Rattle.slint_literals.specs.Characters.{front_char}
use Rattle.slint_literals.proofs.Chars.{front_char-encode}
use Rattle.slint_lexer.specs.declared.classes.Class.TheVariants.{Word, Other}
use Rattle.slint_lexer.specs.Names.{is_name_start, starts_name, begins_name}
use Rattle.slint_lexer.specs.Pieces.{What, Tok, class_of, SpellsAs, Spells}
use Rattle.slint_lexer.proofs.Fronts.{no_symbol}
use Rattle.slint_lexer.specs.declared.marks.Mark.{Mark}
use Rattle.slint_lexer.specs.declared.tokens.Token.{Token}
use Rattle.slint_lexer.specs.declared.tokens.TokenKind.{TokenKind}
use Rattle.slint_lexer.specs.Lexing.{Lexes, stop, blank, token, ends_hole, behind_token, token_between, behind_mark, IsLexing}
use Rattle.slint_lexer.specs.Spelled.{spelled, written, kinds_of, Fits}
use Rattle.slint_lexer.proofs.Spellings.{blank_front, ready_front}

-- tokens, their marks and what they are
pub record ReadAgain (file n : ℕ) (held now : List Mark) (ks : List TokenKind) : Type 0 where
  pub tokens : List Token
  pub lexed : Lexes file n held (written ks) tokens now []
  pub same : kinds_of tokens ≡ ks

pub reads_again : (file n : ℕ) (held now : List Mark) (ks : List TokenKind) → Fits held ks now → ReadAgain file n held now ks
reads_again file n held now [] h = record { tokens = []; lexed = subst (λ m. Lexes file n held [] [] m []) (sym h) (stop held []); same = refl }
reads_again file n held now (k ∷ ks) h =
    let others = reads_again file n (behind_token k held) now ks h.1 in
    let s = spelled k ++ 32 ∷ written ks in
    let behind = blank (behind_token k held) now (32 ∷ written ks) (written ks) [] others.tokens (blank_front (ends_hole (behind_token k held)) (written ks)) others.lexed in
    record {
      tokens = token_between file n k s (32 ∷ written ks) ∷ others.tokens;
      lexed = token held now s (32 ∷ written ks) [] k others.tokens (ready_front (ends_hole held) k (written ks) h.0) behind;
      same = ap (λ xs. k ∷ xs) others.same;
    }

-- nothing begins with a U+FEFF
mark_starts : is_name_start 0xFEFF ≡ false
unfolding unicode_ident
mark_starts = refl

mark_bytes : encode 0xFEFF ≡ 0xEF ∷ 0xBB ∷ 0xBF ∷ []
unfolding encode
mark_bytes = refl

mark_no_name : (x : List ℕ) → begins_name (0xEF ∷ 0xBB ∷ 0xBF ∷ x) ≡ false
mark_no_name x = ap starts_name (ap (λ t. front_char (t ++ x)) (sym mark_bytes) ∙ front_char-encode 0xFEFF x refl) ∙ mark_starts

mark_class : (x : List ℕ) → class_of (0xEF ∷ 0xBB ∷ 0xBF ∷ x) ≡ Other
mark_class x = ap (λ t. cond t Word Other) (mark_no_name x)

nothing_at_mark : (ends : Bool) (x : List ℕ) (w : What) (r : List ℕ) → Spells ends (0xEF ∷ 0xBB ∷ 0xBF ∷ x) w r → ⊥
nothing_at_mark ends x w r h =
    let spelled_as : SpellsAs Other ends 0xEF (0xBB ∷ 0xBF ∷ x) w r = subst (λ c. SpellsAs c ends 0xEF (0xBB ∷ 0xBF ∷ x) w r) (mark_class x) h in
    no_symbol (0xEF ∷ 0xBB ∷ 0xBF ∷ x) refl w r spelled_as

mark_shape : (s : List ℕ) → starts_with nat_eq s (0xEF ∷ 0xBB ∷ 0xBF ∷ []) ≡ true → (x : List ℕ) × (s ≡ 0xEF ∷ 0xBB ∷ 0xBF ∷ x)
mark_shape s h =
    let front : 0xEF ∷ 0xBB ∷ 0xBF ∷ [] ≡ take 3 s = (bytes_eq-Decides (0xEF ∷ 0xBB ∷ 0xBF ∷ []) (take 3 s)).0 h in
    (drop 3 s, sym (take-append-drop 3 s) ∙ ap (λ t. t ++ drop 3 s) (sym front))

spelled_no_mark : (ends : Bool) (s r : List ℕ) (w : What) (t : Bool) → starts_with nat_eq s (0xEF ∷ 0xBB ∷ 0xBF ∷ []) ≡ t → Spells ends s w r → t ≡ false
spelled_no_mark ends s r w true e h = let shape = mark_shape s e in absurd (nothing_at_mark ends shape.0 w r (subst (λ x. Spells ends x w r) shape.1 h))
spelled_no_mark ends s r w false e h = refl

pub no_mark : (held now : List Mark) (ks : List TokenKind) → Fits held ks now → starts_with nat_eq (written ks) (0xEF ∷ 0xBB ∷ 0xBF ∷ []) ≡ false
no_mark held now [] h = refl
no_mark held now (k ∷ ks) h =
    let s = spelled k ++ 32 ∷ written ks in
    spelled_no_mark (ends_hole held) s (32 ∷ written ks) (Tok k) (starts_with nat_eq s (0xEF ∷ 0xBB ∷ 0xBF ∷ [])) refl (ready_front (ends_hole held) k (written ks) h.0).spells

pub written_lexes : (file : ℕ) (ks : List TokenKind) (now : List Mark) → Fits [] ks now → (ts : List Token) × IsLexing file (written ks) ts × (kinds_of ts ≡ ks)
written_lexes file ks now h =
    let again = reads_again file (length (written ks)) [] now ks h in
    let begun : behind_mark (written ks) ≡ written ks = ap (λ t. cond t (drop 3 (written ks)) (written ks)) (no_mark [] now ks h) in
    (again.tokens, (now, subst (λ s. Lexes file (length (written ks)) [] s again.tokens now []) (sym begun) again.lexed), again.same)
