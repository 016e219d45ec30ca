-- Reading a file, piece by piece.
use Rattle.std.proofs.Common.{◌≡◌, ℕ, ◌+◌, ◌-◌, ◌^◌, ◌<◌, ◌≤◌, Bool, List, [], ◌∷◌, ◌++◌, length, drop, sym, ap, ◌∙◌, subst, arith}
use Rattle.std.proofs.lemmas.List.{length-drop, drop-drop, drop_all}
use Rattle.slint_base.specs.declared.endings.End.{End}
use Rattle.slint_base.specs.declared.endings.End.TheVariants as ends
use Rattle.slint_base.specs.declared.faults.Fault.{Fault}
use Rattle.slint_base.specs.declared.rules.Rule.{Rule}
use Rattle.slint_lexer.specs.declared.found.Found.{Found}
use Rattle.slint_lexer.specs.declared.found.Found.TheVariants as found
use Rattle.slint_lexer.specs.declared.marks.Mark.{Mark}
use Rattle.slint_lexer.specs.declared.tokens.Token.{Token}
use Rattle.slint_lexer.specs.declared.tokens.TokenKind.{TokenKind}
use Rattle.slint_lexer.specs.Pieces.{Apart, Tok, Bad, Front, NothingBegins}
use Rattle.slint_lexer.specs.Lexing.{ends_hole, behind_token, token_between, Lexes, stop, blank, token, behind_mark, fault_at, Breaks, Stuck, bad, breaks, AreTokens, HasFault, EndsLexing}
use Rattle.slint_lexer.specs.Found.{IsFound, FitsFile, fault_from, token_from, TakesPiece, IsFaultOf, EndsPiece}
use Rattle.slint_lexer.proofs.OneAnswer.{one_lexing, one_fault}

-- a lexing and a separator behind it
pub blank_snoc : (file n : ℕ) (held now : List Mark) (s r x : List ℕ) (ts : List Token) → Lexes file n held s ts now r → Front (ends_hole now) r Apart x → Lexes file n held s ts now x
blank_snoc file n held now s r x ts (stop _ _) f = blank held now s x x [] f (stop now x)
blank_snoc file n held now s r x ts (blank _ _ _ y _ _ g others) f = blank held now s y x ts g (blank_snoc file n held now y r x ts others f)
blank_snoc file n held now s r x ts (token _ _ _ y _ k us g others) f = token held now s y x k us g (blank_snoc file n (behind_token k held) now y r x us others f)

-- a lexing and a token behind it
pub token_snoc : (file n : ℕ) (held now : List Mark) (s r x : List ℕ) (ts : List Token) (k : TokenKind) → Lexes file n held s ts now r → Front (ends_hole now) r (Tok k) x → Lexes file n held s (ts ++ token_between file n k r x ∷ []) (behind_token k now) x
token_snoc file n held now s r x ts k (stop _ _) f = token held (behind_token k now) s x x k [] f (stop (behind_token k now) x)
token_snoc file n held now s r x ts k (blank _ _ _ y _ _ g others) f = blank held (behind_token k now) s y x (ts ++ token_between file n k r x ∷ []) g (token_snoc file n held now y r x ts k others f)
token_snoc file n held now s r x ts k (token _ _ _ y _ j us g others) f = token held (behind_token k now) s y x j (us ++ token_between file n k r x ∷ []) g (token_snoc file n (behind_token j held) now y r x us k others f)

-- the bytes up to a place are these tokens, and leave these marks open
pub record ReadUpTo (file : ℕ) (bytes : List ℕ) (tokens : List Token) (held : List Mark) (at : ℕ) : Type 0 where
  pub within : at ≤ length bytes
  pub lexed : Lexes file (length bytes) [] (behind_mark bytes) tokens held (drop at bytes)

pub read_none : (file : ℕ) (bytes : List ℕ) (tokens : List Token) (held : List Mark) (at : ℕ) → at ≤ length bytes → drop at bytes ≡ behind_mark bytes → tokens ≡ [] → held ≡ [] → ReadUpTo file bytes tokens held at
read_none file bytes tokens held at h e t m = record {
  within = h;
  lexed =
      subst (λ ts. Lexes file (length bytes) [] (behind_mark bytes) ts held (drop at bytes)) (sym t)
      (subst (λ ms. Lexes file (length bytes) [] (behind_mark bytes) [] ms (drop at bytes)) (sym m)
      (subst (λ s. Lexes file (length bytes) [] (behind_mark bytes) [] [] s) (sym e) (stop [] (behind_mark bytes))));
}

-- places are what is left, counted from the end
place : (bytes : List ℕ) (at : ℕ) → at ≤ length bytes → length bytes - length (drop at bytes) ≡ at
place bytes at h = omega (arith, length-drop at bytes)

token_with : ℕ → TokenKind → ℕ → ℕ → Token
token_with file k start end = record { kind = k; span = record { file = file; start = start; end = end } }

token_is : (file : ℕ) (bytes : List ℕ) (k : TokenKind) (at n : ℕ) → at + n ≤ length bytes → token_between file (length bytes) k (drop at bytes) (drop (at + n) bytes) ≡ token_from file at k n
unfolding token_with
token_is file bytes k at n h =
    let start : length bytes - length (drop at bytes) ≡ at = place bytes at (omega arith) in
    let end : length bytes - length (drop (at + n) bytes) ≡ at + n = place bytes (at + n) h in
    ap (λ p. token_with file k p (length bytes - length (drop (at + n) bytes))) start ∙ ap (token_with file k at) end

fault_is : (file : ℕ) (bytes : List ℕ) (rule : Rule) (at count : ℕ) → at ≤ length bytes → fault_at file (length bytes) rule (drop at bytes) count ≡ fault_from file rule at count
fault_is file bytes rule at count h = ap (λ p. fault_from file rule p count) (place bytes at h)

token_read : (file : ℕ) (bytes : List ℕ) (ts us : List Token) (held now : List Mark) (at n : ℕ) (k : TokenKind) → ReadUpTo file bytes ts held at → at + n ≤ length bytes → Front (ends_hole held) (drop at bytes) (Tok k) (drop n (drop at bytes))
    → us ≡ ts ++ token_from file at k n ∷ [] → now ≡ behind_token k held → ReadUpTo file bytes us now (at + n)
token_read file bytes ts us held now at n k r fits front t m =
    let behind : drop n (drop at bytes) ≡ drop (at + n) bytes = drop-drop n at bytes in
    let more = token_snoc file (length bytes) [] held (behind_mark bytes) (drop at bytes) (drop n (drop at bytes)) ts k r.lexed front in
    let same : token_between file (length bytes) k (drop at bytes) (drop n (drop at bytes)) ≡ token_from file at k n = ap (token_between file (length bytes) k (drop at bytes)) behind ∙ token_is file bytes k at n fits in
    let tokens : ts ++ token_between file (length bytes) k (drop at bytes) (drop n (drop at bytes)) ∷ [] ≡ us = ap (λ x. ts ++ x ∷ []) same ∙ sym t in
    record {
      within = fits;
      lexed =
          subst (λ x. Lexes file (length bytes) [] (behind_mark bytes) us now x) behind
          (subst (λ x. Lexes file (length bytes) [] (behind_mark bytes) us x (drop n (drop at bytes))) (sym m)
          (subst (λ x. Lexes file (length bytes) [] (behind_mark bytes) x (behind_token k held) (drop n (drop at bytes))) tokens more));
    }

blank_read : (file : ℕ) (bytes : List ℕ) (ts us : List Token) (held now : List Mark) (at n : ℕ) → ReadUpTo file bytes ts held at → at + n ≤ length bytes → Front (ends_hole held) (drop at bytes) Apart (drop n (drop at bytes))
    → us ≡ ts → now ≡ held → ReadUpTo file bytes us now (at + n)
blank_read file bytes ts us held now at n r fits front t m = record {
  within = fits;
  lexed =
      subst (λ x. Lexes file (length bytes) [] (behind_mark bytes) us now x) (drop-drop n at bytes)
      (subst (λ x. Lexes file (length bytes) [] (behind_mark bytes) us x (drop n (drop at bytes))) (sym m)
      (subst (λ x. Lexes file (length bytes) [] (behind_mark bytes) x held (drop n (drop at bytes))) (sym t)
      (blank_snoc file (length bytes) [] held (behind_mark bytes) (drop at bytes) (drop n (drop at bytes)) ts r.lexed front)));
}

at_place : (ends : Bool) (s x : List ℕ) (f : Found) → s ≡ x → IsFound ends s f → IsFound ends x f
at_place ends s x f e h = subst (λ t. IsFound ends t f) e h

more_by : (file : ℕ) (bytes : List ℕ) (ts us : List Token) (held now : List Mark) (at m : ℕ) (f : Found) → ReadUpTo file bytes ts held at → IsFound (ends_hole held) (drop at bytes) f → TakesPiece file at f ts held us now m → ReadUpTo file bytes us now (at + m)
more_by file bytes ts us held now at m (found.Apart n) r seen took =
    subst (λ x. ReadUpTo file bytes us now (at + x)) (sym took.0) (blank_read file bytes ts us held now at n r (omega (arith, length-drop at bytes, seen.1, r.within)) seen.2 took.1 took.2)
more_by file bytes ts us held now at m (found.Token k n) r seen took =
    subst (λ x. ReadUpTo file bytes us now (at + x)) (sym took.0) (token_read file bytes ts us held now at n k r (omega (arith, length-drop at bytes, seen.1, r.within)) seen.2 took.1 took.2)
more_by file bytes ts us held now at m (found.Bad rule n) r seen took = absurd took
more_by file bytes ts us held now at m (found.Breaks rule from count) r seen took = absurd took

-- what is taken is read
pub read_more : (file : ℕ) (bytes s : List ℕ) (ts us : List Token) (held now : List Mark) (at m : ℕ) (f : Found) → s ≡ drop at bytes → ReadUpTo file bytes ts held at → IsFound (ends_hole held) s f → TakesPiece file at f ts held us now m → ReadUpTo file bytes us now (at + m)
read_more file bytes s ts us held now at m f e r seen took = more_by file bytes ts us held now at m f r (at_place (ends_hole held) s (drop at bytes) f e seen) took

-- something is taken
pub takes_some : (ends : Bool) (s : List ℕ) (file at m : ℕ) (f : Found) (ts us : List Token) (held now : List Mark) → IsFound ends s f → TakesPiece file at f ts held us now m → 0 < m
takes_some ends s file at m (found.Apart n) ts us held now seen took = omega (arith, seen.0, took.0)
takes_some ends s file at m (found.Token k n) ts us held now seen took = omega (arith, seen.0, took.0)
takes_some ends s file at m (found.Bad rule n) ts us held now seen took = absurd took
takes_some ends s file at m (found.Breaks rule from count) ts us held now seen took = absurd took

-- what is found lies within the file
pub fits_file : (ends : Bool) (bytes s : List ℕ) (at : ℕ) (f : Found) → s ≡ drop at bytes → at ≤ length bytes → length bytes < 2 ^ 32 → IsFound ends s f → FitsFile at f
fits_file ends bytes s at (found.Apart n) e h k seen = omega (arith, length-drop at bytes, ap length e, seen.1)
fits_file ends bytes s at (found.Token kind n) e h k seen = omega (arith, length-drop at bytes, ap length e, seen.1)
fits_file ends bytes s at (found.Bad rule n) e h k seen = omega (arith, length-drop at bytes, ap length e, seen.0)
fits_file ends bytes s at (found.Breaks rule from count) e h k seen = omega (arith, length-drop at bytes, ap length e, seen.0)

-- all is read
pub read_all : (file : ℕ) (bytes : List ℕ) (ts : List Token) (held : List Mark) (at : ℕ) → ReadUpTo file bytes ts held at → length bytes ≤ at → AreTokens file bytes ts
read_all file bytes ts held at r h =
    let none : drop at bytes ≡ [] = drop_all at bytes h in
    one_lexing file bytes ts (held, subst (λ s. Lexes file (length bytes) [] (behind_mark bytes) ts held s) none r.lexed)

bad_by : (file : ℕ) (bytes : List ℕ) (held : List Mark) (at n : ℕ) (rule : Rule) → at ≤ length bytes → n ≤ length (drop at bytes) → Front (ends_hole held) (drop at bytes) (Bad rule) (drop n (drop at bytes)) → Stuck file (length bytes) (ends_hole held) (drop at bytes) (fault_from file rule at n)
bad_by file bytes held at n rule h k front =
    let count : length (drop at bytes) - length (drop n (drop at bytes)) ≡ n = omega (arith, length-drop n (drop at bytes)) in
    let same : fault_at file (length bytes) rule (drop at bytes) (length (drop at bytes) - length (drop n (drop at bytes))) ≡ fault_from file rule at n = ap (fault_at file (length bytes) rule (drop at bytes)) count ∙ fault_is file bytes rule at n h in
    subst (λ x. Stuck file (length bytes) (ends_hole held) (drop at bytes) x) same (bad rule (drop n (drop at bytes)) front)

breaks_by : (file : ℕ) (bytes : List ℕ) (held : List Mark) (at from count : ℕ) (rule : Rule) → at + from ≤ length bytes → NothingBegins (ends_hole held) (drop at bytes) → Breaks (ends_hole held) (drop at bytes) rule (drop from (drop at bytes)) count
    → Stuck file (length bytes) (ends_hole held) (drop at bytes) (fault_from file rule (at + from) count)
breaks_by file bytes held at from count rule h nothing broken =
    let same : fault_at file (length bytes) rule (drop from (drop at bytes)) count ≡ fault_from file rule (at + from) count =
    ap (λ s. fault_at file (length bytes) rule s count) (drop-drop from at bytes) ∙ fault_is file bytes rule (at + from) count h in
    subst (λ x. Stuck file (length bytes) (ends_hole held) (drop at bytes) x) same (breaks rule (drop from (drop at bytes)) count nothing broken)

stuck_by : (file : ℕ) (bytes : List ℕ) (held : List Mark) (at : ℕ) (f : Found) (fault : Fault) → at ≤ length bytes → IsFound (ends_hole held) (drop at bytes) f → IsFaultOf file at f fault → Stuck file (length bytes) (ends_hole held) (drop at bytes) fault
stuck_by file bytes held at (found.Apart n) fault h seen is = absurd is
stuck_by file bytes held at (found.Token k n) fault h seen is = absurd is
stuck_by file bytes held at (found.Bad rule n) fault h seen is =
    subst (λ x. Stuck file (length bytes) (ends_hole held) (drop at bytes) x) (sym is) (bad_by file bytes held at n rule h seen.0 seen.1)
stuck_by file bytes held at (found.Breaks rule from count) fault h seen is =
    subst (λ x. Stuck file (length bytes) (ends_hole held) (drop at bytes) x) (sym is) (breaks_by file bytes held at from count rule (omega (arith, length-drop at bytes, seen.0)) seen.1 seen.2)

-- what is found is the file's fault
pub read_fault : (file : ℕ) (bytes s : List ℕ) (ts : List Token) (held : List Mark) (at : ℕ) (f : Found) (fault : Fault) → s ≡ drop at bytes → ReadUpTo file bytes ts held at → IsFound (ends_hole held) s f → IsFaultOf file at f fault → HasFault file bytes fault
read_fault file bytes s ts held at f fault e r seen is =
    one_fault file bytes fault (ts, held, drop at bytes, r.lexed, stuck_by file bytes held at f fault r.within (at_place (ends_hole held) s (drop at bytes) f e seen) is)

-- what is found where it is known what stands open
pub seen_with : (ends : Bool) (marks held : List Mark) (s : List ℕ) (f : Found) → ends ≡ ends_hole marks → marks ≡ held → IsFound ends s f → IsFound (ends_hole held) s f
seen_with ends marks held s f e m h = subst (λ x. IsFound x s f) (e ∙ ap ends_hole m) h

-- how reading ends, by how taking what is found ends
pub ends_by : (file : ℕ) (bytes s : List ℕ) (ts : List Token) (held : List Mark) (at : ℕ) (f : Found) (e : End Fault) → s ≡ drop at bytes → ReadUpTo file bytes ts held at → IsFound (ends_hole held) s f → EndsPiece file at f e → EndsLexing file bytes e
ends_by file bytes s ts held at f (ends.Fault fault) e r seen is = read_fault file bytes s ts held at f fault e r seen is
ends_by file bytes s ts held at f ends.Memory e r seen is = tt
