-- Bytes have one answer.
use Rattle.std.proofs.Common.{◌≡◌, ℕ, zero, suc, ◌-◌, Bool, true, false, List, [], ◌∷◌, length, drop, refl, sym, ap, ◌∙◌, subst}
use Rattle.slint_base.specs.declared.faults.Fault.{Fault}
use Rattle.slint_base.specs.declared.rules.Rule.{Rule}
use Rattle.slint_literals.specs.declared.strings.Look.{Look}
use Rattle.slint_literals.specs.declared.strings.Look.TheVariants as looks
use Rattle.slint_literals.specs.Characters.{char_len}
use Rattle.slint_literals.specs.Strings.{text_look}
use Rattle.slint_literals.proofs.Runs.{steps_same}
use Rattle.slint_lexer.specs.declared.classes.Class.{Class}
use Rattle.slint_lexer.specs.declared.classes.Class.TheVariants.{Blank, Digit, Hash, Quote, Close, Slash, Word, Other}
use Rattle.slint_lexer.specs.declared.classes.Second.{Second}
use Rattle.slint_lexer.specs.declared.classes.Second.TheVariants.{Block, Line, Neither}
use Rattle.slint_lexer.specs.declared.marks.Mark.{Mark}
use Rattle.slint_lexer.specs.declared.tokens.Token.{Token}
use Rattle.slint_lexer.specs.declared.tokens.TokenKind.{TokenKind}
use Rattle.slint_lexer.specs.Pieces.{What, Apart, Tok, Bad, Front, class_of, second_of, comment_step}
use Rattle.slint_lexer.specs.Lexing.{Lexes, stop, blank, token, ends_hole, behind_token, token_between, behind_mark, IsLexing, fault_at, BreaksText, BreaksComment, BreaksOther, BreaksString, BreaksSlash, BreaksClose, BreaksAs, Breaks, Stuck, bad, breaks, IsFaulted, AreTokens, HasFault}
use Rattle.slint_lexer.proofs.Same.{front_same, run_same}

-- neither a separator nor a token lies here
pub record Halts (ends : Bool) (s : List ℕ) : Type 0 where
  pub no_blank : (x : List ℕ) → Front ends s Apart x → ⊥
  pub no_token : (k : TokenKind) (x : List ℕ) → Front ends s (Tok k) x → ⊥

pub halts_end : (ends : Bool) → Halts ends []
halts_end ends = record { no_blank = λ x f. f.spells; no_token = λ k x f. f.spells }

pub halts_stuck : (file n : ℕ) (ends : Bool) (s : List ℕ) (fault : Fault) → Stuck file n ends s fault → Halts ends s
halts_stuck file n ends s fault (bad rule r front) = record {
  no_blank = λ x f. let e : Bad rule ≡ Apart = (front_same ends s (Bad rule) Apart r x front f).piece in cc;
  no_token = λ k x f. let e : Bad rule ≡ Tok k = (front_same ends s (Bad rule) (Tok k) r x front f).piece in cc;
}
halts_stuck file n ends s fault (breaks rule at count nothing broken) = record { no_blank = λ x f. nothing Apart x f.spells; no_token = λ k x f. nothing (Tok k) x f.spells }

-- the same tokens, marks and rest
pub record SameLexing (ts us : List Token) (now later : List Mark) (r q : List ℕ) : Type 0 where
  pub tokens : ts ≡ us
  pub marks : now ≡ later
  pub rest : r ≡ q

-- two lexings from one place that both can't go on are one
pub lexes_same : (file n : ℕ) (held now later : List Mark) (s r q : List ℕ) (ts us : List Token) → Lexes file n held s ts now r → Lexes file n held s us later q → Halts (ends_hole now) r → Halts (ends_hole later) q → SameLexing ts us now later r q
lexes_same file n held now later s r q ts us (stop _ _) (stop _ _) h k = record { tokens = refl; marks = refl; rest = refl }
lexes_same file n held now later s r q ts us (stop _ _) (blank _ _ _ x _ _ f others) h k = absurd (h.no_blank x f)
lexes_same file n held now later s r q ts us (stop _ _) (token _ _ _ x _ kind _ f others) h k = absurd (h.no_token kind x f)
lexes_same file n held now later s r q ts us (blank _ _ _ x _ _ f others) (stop _ _) h k = absurd (k.no_blank x f)
lexes_same file n held now later s r q ts us (token _ _ _ x _ kind _ f others) (stop _ _) h k = absurd (k.no_token kind x f)
lexes_same file n held now later s r q ts us (blank _ _ _ x _ _ f others) (blank _ _ _ y _ _ g further) h k =
    let same = front_same (ends_hole held) s Apart Apart x y f g in
    lexes_same file n held now later x r q ts us others (subst (λ z. Lexes file n held z us later q) (sym same.rest) further) h k
lexes_same file n held now later s r q ts us (blank _ _ _ x _ _ f others) (token _ _ _ y _ kind _ g further) h k =
    let e : Apart ≡ Tok kind = (front_same (ends_hole held) s Apart (Tok kind) x y f g).piece in cc
lexes_same file n held now later s r q ts us (token _ _ _ x _ kind _ f others) (blank _ _ _ y _ _ g further) h k =
    let e : Tok kind ≡ Apart = (front_same (ends_hole held) s (Tok kind) Apart x y f g).piece in cc
lexes_same file n held now later s r q ts us (token _ _ _ x _ kind ts1 f others) (token _ _ _ y _ other us1 g further) h k =
    let same = front_same (ends_hole held) s (Tok kind) (Tok other) x y f g in
    let e : Tok kind ≡ Tok other = same.piece in
    let kinds_same : kind ≡ other = cc in
    let moved : Lexes file n (behind_token kind held) x us1 later q =
    subst (λ z. Lexes file n (behind_token kind held) z us1 later q) (sym same.rest) (subst (λ z. Lexes file n (behind_token z held) y us1 later q) (sym kinds_same) further) in
    let rest_same = lexes_same file n (behind_token kind held) now later x r q ts1 us1 others moved h k in
    record {
      tokens =
          ap (λ t. token_between file n kind s x ∷ t) rest_same.tokens ∙ ap (λ z. token_between file n z s x ∷ us1) kinds_same ∙ ap (λ z. token_between file n other s z ∷ us1) same.rest;
      marks = rest_same.marks;
      rest = rest_same.rest;
    }

-- what breaks at one place breaks one way

record SameBreak (rule law : Rule) (at place : List ℕ) (count size : ℕ) : Type 0 where
  pub rules : rule ≡ law
  pub places : at ≡ place
  pub counts : count ≡ size

text_breaks : (look : Look) (s x : List ℕ) (rule law : Rule) (at place : List ℕ) (count size : ℕ) → BreaksText look s x rule at count → BreaksText look s x law place size → SameBreak rule law at place count size
text_breaks (looks.BadEscape n) s x rule law at place count size a b = record { rules = a.0 ∙ sym b.0; places = a.1 ∙ sym b.1; counts = a.2 ∙ sym b.2 }
text_breaks looks.NotUtf8 s x rule law at place count size a b = record { rules = a.0 ∙ sym b.0; places = a.1 ∙ sym b.1; counts = a.2 ∙ sym b.2 }
text_breaks looks.End s x rule law at place count size a b = record { rules = a.0 ∙ sym b.0; places = a.1 ∙ sym b.1; counts = a.2 ∙ sym b.2 }
text_breaks (looks.Plain n) s x rule law at place count size a b = absurd a
text_breaks (looks.Escape c n) s x rule law at place count size a b = absurd a
text_breaks looks.Quote s x rule law at place count size a b = absurd a
text_breaks looks.Hole s x rule law at place count size a b = absurd a

string_breaks : (b : ℕ) (s : List ℕ) (rule law : Rule) (at place : List ℕ) (count size : ℕ) → BreaksString b s rule at count → BreaksString b s law place size → SameBreak rule law at place count size
string_breaks b s rule law at place count size x y =
    let same = run_same s x.0 x.1 y.0 y.1 x.2 y.2 in
    text_breaks (text_look x.1) (b ∷ s) x.1 rule law at place count size x.3 (subst (λ z. BreaksText (text_look z) (b ∷ s) z law place size) (sym same.1) y.3)

comment_breaks : (s x : List ℕ) (rule law : Rule) (at place : List ℕ) (count size : ℕ) → BreaksComment s x rule at count → BreaksComment s x law place size → SameBreak rule law at place count size
comment_breaks s [] rule law at place count size a b = record { rules = a.0 ∙ sym b.0; places = a.1 ∙ sym b.1; counts = a.2 ∙ sym b.2 }
comment_breaks s (c ∷ x) rule law at place count size a b = record { rules = a.0 ∙ sym b.0; places = a.1 ∙ sym b.1; counts = a.2 ∙ sym b.2 }

slash_breaks : (c : Second) (b : ℕ) (s : List ℕ) (rule law : Rule) (at place : List ℕ) (count size : ℕ) → BreaksSlash c b s rule at count → BreaksSlash c b s law place size → SameBreak rule law at place count size
slash_breaks Block b s rule law at place count size x y =
    let same : (suc x.0, x.1) ≡ (suc y.0, y.1) = steps_same comment_step (1, drop 1 s) (suc x.0, x.1) (suc y.0, y.1) x.2 y.2 x.3 y.3 in
    comment_breaks (b ∷ s) x.1 rule law at place count size x.4 (subst (λ z. BreaksComment (b ∷ s) z law place size) (sym (ap (λ p. p.1) same)) y.4)
slash_breaks Line b s rule law at place count size x y = absurd x
slash_breaks Neither b s rule law at place count size x y = absurd x

close_breaks : (ends : Bool) (b : ℕ) (s : List ℕ) (rule law : Rule) (at place : List ℕ) (count size : ℕ) → BreaksClose ends b s rule at count → BreaksClose ends b s law place size → SameBreak rule law at place count size
close_breaks true b s rule law at place count size x y = string_breaks b s rule law at place count size x y
close_breaks false b s rule law at place count size x y = absurd x

other_breaks : (n : ℕ) (s : List ℕ) (rule law : Rule) (at place : List ℕ) (count size : ℕ) → BreaksOther n s rule at count → BreaksOther n s law place size → SameBreak rule law at place count size
other_breaks zero s rule law at place count size a b = record { rules = a.0 ∙ sym b.0; places = a.1 ∙ sym b.1; counts = a.2 ∙ sym b.2 }
other_breaks (suc n) s rule law at place count size a b = record { rules = a.0 ∙ sym b.0; places = a.1 ∙ sym b.1; counts = a.2 ∙ sym b.2 }

breaks_as : (c : Class) (ends : Bool) (b : ℕ) (s : List ℕ) (rule law : Rule) (at place : List ℕ) (count size : ℕ) → BreaksAs c ends b s rule at count → BreaksAs c ends b s law place size → SameBreak rule law at place count size
breaks_as Quote ends b s rule law at place count size x y = string_breaks b s rule law at place count size x y
breaks_as Close ends b s rule law at place count size x y = close_breaks ends b s rule law at place count size x y
breaks_as Slash ends b s rule law at place count size x y = slash_breaks (second_of s) b s rule law at place count size x y
breaks_as Other ends b s rule law at place count size x y = other_breaks (char_len (b ∷ s)) (b ∷ s) rule law at place count size x y
breaks_as Blank ends b s rule law at place count size x y = absurd x
breaks_as Digit ends b s rule law at place count size x y = absurd x
breaks_as Hash ends b s rule law at place count size x y = absurd x
breaks_as Word ends b s rule law at place count size x y = absurd x

breaks_same : (ends : Bool) (s : List ℕ) (rule law : Rule) (at place : List ℕ) (count size : ℕ) → Breaks ends s rule at count → Breaks ends s law place size → SameBreak rule law at place count size
breaks_same ends [] rule law at place count size x y = absurd x
breaks_same ends (b ∷ s) rule law at place count size x y = breaks_as (class_of (b ∷ s)) ends b s rule law at place count size x y

-- lexing ends at one place with one fault
pub stuck_same : (file n : ℕ) (ends : Bool) (s : List ℕ) (fault other : Fault) → Stuck file n ends s fault → Stuck file n ends s other → fault ≡ other
stuck_same file n ends s fault other (bad rule r f) (bad law q g) =
    let same = front_same ends s (Bad rule) (Bad law) r q f g in
    let e : Bad rule ≡ Bad law = same.piece in
    let rules : rule ≡ law = cc in
    ap (λ x. fault_at file n x s (length s - length r)) rules ∙ ap (λ x. fault_at file n law s (length s - length x)) same.rest
stuck_same file n ends s fault other (bad rule r f) (breaks law place size nothing broken) = absurd (nothing (Bad rule) r f.spells)
stuck_same file n ends s fault other (breaks rule at count nothing broken) (bad law q g) = absurd (nothing (Bad law) q g.spells)
stuck_same file n ends s fault other (breaks rule at count nothing broken) (breaks law place size none_of further) =
    let same = breaks_same ends s rule law at place count size broken further in
    ap (λ x. fault_at file n x at count) same.rules ∙ ap (λ x. fault_at file n law x count) same.places ∙ ap (fault_at file n law place) same.counts

-- the one answer

pub tokens_only : (file : ℕ) (bytes : List ℕ) (ts us : List Token) → IsLexing file bytes ts → IsLexing file bytes us → us ≡ ts
tokens_only file bytes ts us a b = sym (lexes_same file (length bytes) [] a.0 b.0 (behind_mark bytes) [] [] ts us a.1 b.1 (halts_end (ends_hole a.0)) (halts_end (ends_hole b.0))).tokens

no_breaks : (ends : Bool) (s : List ℕ) (rule : Rule) (at : List ℕ) (count : ℕ) → s ≡ [] → Breaks ends s rule at count → ⊥
no_breaks ends [] rule at count e h = h
no_breaks ends (b ∷ s) rule at count e h = cc

no_front : (ends : Bool) (s : List ℕ) (w : What) (r : List ℕ) → s ≡ [] → Front ends s w r → ⊥
no_front ends [] w r e f = f.spells
no_front ends (b ∷ s) w r e f = cc

no_stuck : (file n : ℕ) (ends : Bool) (s : List ℕ) (fault : Fault) → s ≡ [] → Stuck file n ends s fault → ⊥
no_stuck file n ends s fault e (bad rule r f) = no_front ends s (Bad rule) r e f
no_stuck file n ends s fault e (breaks rule at count nothing broken) = no_breaks ends s rule at count e broken

pub never_both : (file : ℕ) (bytes : List ℕ) (ts : List Token) (fault : Fault) → IsLexing file bytes ts → IsFaulted file bytes fault → ⊥
never_both file bytes ts fault a b =
    let stuck = halts_stuck file (length bytes) (ends_hole b.1) b.2 fault b.4 in
    let same = lexes_same file (length bytes) [] a.0 b.1 (behind_mark bytes) [] b.2 ts b.0 a.1 b.3 (halts_end (ends_hole a.0)) stuck in
    no_stuck file (length bytes) (ends_hole b.1) b.2 fault (sym same.rest) b.4

pub fault_only : (file : ℕ) (bytes : List ℕ) (fault other : Fault) → IsFaulted file bytes fault → IsFaulted file bytes other → other ≡ fault
fault_only file bytes fault other a b =
    let n = length bytes in
    let same = lexes_same file n [] a.1 b.1 (behind_mark bytes) a.2 b.2 a.0 b.0 a.3 b.3 (halts_stuck file n (ends_hole a.1) a.2 fault a.4) (halts_stuck file n (ends_hole b.1) b.2 other b.4) in
    let moved : Stuck file n (ends_hole a.1) a.2 other =
    subst (λ held. Stuck file n (ends_hole held) a.2 other) (sym same.marks) (subst (λ s. Stuck file n (ends_hole b.1) s other) (sym same.rest) b.4) in
    sym (stuck_same file n (ends_hole a.1) a.2 fault other a.4 moved)

pub one_lexing : (file : ℕ) (bytes : List ℕ) (ts : List Token) → IsLexing file bytes ts → AreTokens file bytes ts
one_lexing file bytes ts h = record { lexed = h; only = λ us k. tokens_only file bytes ts us h k; faultless = λ fault k. never_both file bytes ts fault h k }

pub one_fault : (file : ℕ) (bytes : List ℕ) (fault : Fault) → IsFaulted file bytes fault → HasFault file bytes fault
one_fault file bytes fault h = record { faulted = h; only = λ other k. fault_only file bytes fault other h k; tokenless = λ ts k. never_both file bytes ts fault k h }
