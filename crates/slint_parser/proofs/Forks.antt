-- Several stacks behind a token, of which the next token leaves one; and parts that find nothing.
use Rattle.std.proofs.Common.{◌≡◌, ℕ, suc, ◌+◌, Bool, true, false, cond, ◌&&◌, List, [], ◌∷◌, ◌++◌, length, map, sym, refl, ap, ◌∙◌}
use Rattle.slint_base.specs.declared.rules.Rule.TheVariants.{TooDeep}
use Rattle.slint_lexer.specs.declared.tokens.Token.{Token}
use Rattle.slint_grammar.specs.Parts.{Part}
use Rattle.slint_grammar.specs.Grammar.{Terminal, Slot, one, same, deeper, Alt, slots}
use Rattle.slint_grammar.specs.Derivations.{Class, class_of, fits}
use Rattle.slint_parser.specs.Readings.{at}
use Rattle.slint_grammar.specs.Stacks.{Stack, Left, at_depth, behind, through, each_alt, first, alts_of, nullable, longest_chain, after, is_live, is_done, rule_of, Stops, run}
use Rattle.slint_grammar.proofs.Tables.{all_nullable}
use Rattle.slint_grammar.proofs.Steps.{Lost, lost_left, lost_right, step, stop, afters-only}
use Rattle.slint_parser.proofs.Joining.{alike, by_alt, by_alts, no_lead}
use Rattle.slint_parser.proofs.Among.{AllNone, each_one}

abbrev pub tagged : Bool → List Stack → List Left
tagged w [] = []
tagged w (a ∷ as') = (a, w) ∷ tagged w as'

tagged-append : (w : Bool) (a b : List Stack) → tagged w (a ++ b) ≡ tagged w a ++ tagged w b
tagged-append w [] b = refl
tagged-append w (x ∷ a) b = ap (λ z. (x, w) ∷ z) (tagged-append w a b)

tagged-live : (x : Stack) (a b : List Stack) → is_live (tagged true (a ++ x ∷ b)) ≡ true
tagged-live x [] b = refl
tagged-live x (y ∷ a) b = refl

tagged-dead : (a : List Stack) → is_live (tagged false a) ≡ false
tagged-dead [] = refl
tagged-dead (x ∷ a) = tagged-dead a

too_deep : (x : Stack) (a b : List Stack) → rule_of (tagged false (a ++ x ∷ b)) ≡ TooDeep
too_deep x [] b = refl
too_deep x (y ∷ a) b = refl

-- behind the token one stack and others, all as deep, and the next token loses the others
pub fork : (t : Token) (s : List Token) (c : Class) (from only : Stack) (x : Stack) (a b : List Stack) (w : Bool) → class_of t.kind ≡ c
    → after c from true ≡ tagged w (a ++ x ∷ b) → after c only true ≡ tagged w (x ∷ []) → Lost s (tagged true a) → Lost s (tagged true b) → run (t ∷ s) (at from) ≡ run (t ∷ s) (at only)
fork t s c from only x a b true k e f la lb =
    step t s (at from) (tagged true (a ++ x ∷ b)) (afters-only t c from k ∙ e) (tagged-live x a b)
    ∙ ap (run s) (tagged-append true a (x ∷ b))
    ∙ lost_left s (tagged true a) (tagged true (x ∷ b)) la
    ∙ lost_right s (tagged true (x ∷ [])) (tagged true b) lb
    ∙ sym (step t s (at only) (tagged true (x ∷ [])) (afters-only t c only k ∙ f) refl)
fork t s c from only x a b false k e f la lb =
    stop t s (at from) (tagged false (a ++ x ∷ b)) (afters-only t c from k ∙ e) (tagged-dead (a ++ x ∷ b))
    ∙ ap (λ z. Stops z (suc (length s))) (too_deep x a b)
    ∙ sym (stop t s (at only) (tagged false (x ∷ [])) (afters-only t c only k ∙ f) refl)

-- the same where what follows tells it
pub fork_by : (t : Token) (s : List Token) (c : Class) (from only : Stack) (x : Stack) (a b : List Stack) (w : Bool) → class_of t.kind ≡ c
    → after c from true ≡ tagged w (a ++ x ∷ b) → after c only true ≡ tagged w (x ∷ []) → (w ≡ true → run s (tagged true (a ++ x ∷ b)) ≡ run s (tagged true (x ∷ []))) → run (t ∷ s) (at from) ≡ run (t ∷ s) (at only)
fork_by t s c from only x a b true k e f h =
    step t s (at from) (tagged true (a ++ x ∷ b)) (afters-only t c from k ∙ e) (tagged-live x a b) ∙ h refl
    ∙ sym (step t s (at only) (tagged true (x ∷ [])) (afters-only t c only k ∙ f) refl)
fork_by t s c from only x a b false k e f h =
    stop t s (at from) (tagged false (a ++ x ∷ b)) (afters-only t c from k ∙ e) (tagged-dead (a ++ x ∷ b))
    ∙ ap (λ z. Stops z (suc (length s))) (too_deep x a b)
    ∙ sym (stop t s (at only) (tagged false (x ∷ [])) (afters-only t c only k ∙ f) refl)

-- a part with one production, which leads with a token that isn't there
pub part_none : {p : Part} (a : Alt p) (t : Terminal) (xs : List Slot) (c : Class) (d : ℕ) → alts_of p ≡ a ∷ [] → slots a ≡ one t ∷ xs → fits t c ≡ false → first longest_chain c (same p) d ≡ []
part_none {p} a t xs c d alone lead n =
    by_alts c p d ∙ ap (λ z. each_alt (first longest_chain c) z d) alone ∙ ap (λ z. through (first longest_chain c) z d ++ []) lead ∙ ap (λ z. z ++ []) (no_lead c t xs d n)

-- a right side that leads with a part that finds nothing
pub no_part : (p : Part) (xs : List Slot) (c : Class) (d : ℕ) → nullable p ≡ false → first longest_chain c (same p) d ≡ [] → through (first longest_chain c) (same p ∷ xs) d ≡ []
no_part p xs c d n e =
    ap (λ z. map (behind (at_depth d xs)) z ++ cond (nullable p) (through (first longest_chain c) xs d) []) e ∙ ap (λ z. cond z (through (first longest_chain c) xs d) []) n

-- the same of a part one deeper
pub no_deep : (p : Part) (xs : List Slot) (c : Class) (d : ℕ) → nullable p ≡ false → first longest_chain c (same p) (d + 1) ≡ [] → through (first longest_chain c) (deeper p ∷ xs) d ≡ []
no_deep p xs c d n e =
    ap (λ z. map (behind (at_depth d xs)) z ++ cond (nullable p) (through (first longest_chain c) xs d) []) e ∙ ap (λ z. cond z (through (first longest_chain c) xs d) []) n

-- a production among others that find nothing, of a part that takes a token
pub runs_among : {p : Part} (before : List (Alt p)) (a : Alt p) (behind : List (Alt p)) (d : ℕ) (s : List Token) → alts_of p ≡ before ++ a ∷ behind → nullable p ≡ false
    → ((ps : Stack) → is_done (at_depth d (slots a) ++ ps) ≡ false) → all_nullable (slots a) ≡ false
    → ((t : Token) (r : List Token) → s ≡ t ∷ r → AllNone (class_of t.kind) d before × AllNone (class_of t.kind) d behind)
    → (ps : Stack) → run s (at ((same p, d) ∷ ps)) ≡ run s (at (at_depth d (slots a) ++ ps))
runs_among {p} before a behind d s split n done m none ps =
    alike ((same p, d) ∷ ps) (at_depth d (slots a) ++ ps) (ap (λ z. z && is_done ps) n ∙ sym (done ps)) s
    (λ t r e. by_alt a (class_of t.kind) d ps true (each_one before a behind (class_of t.kind) d split (none t r e))
    (ap (λ z. cond z (after (class_of t.kind) ps true) []) n ∙ sym (ap (λ z. cond z (after (class_of t.kind) ps true) []) m)))
