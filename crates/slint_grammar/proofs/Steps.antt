-- What a run of stacks does at a token, from what stays of the stacks behind it.
use Rattle.std.proofs.Common.{◌≡◌, ℕ, suc, ◌≤◌, ◌<◌, Bool, true, false, cond, ◌&&◌, ◌||◌, List, [], ◌∷◌, ◌++◌, length, map, nat_le, sym, refl, ap, ◌∙◌, append_assoc, append-nil, le-leb}
use Rattle.std.proofs.lemmas.Bool.{lt-leb}
use Rattle.std.proofs.Math.Bool.{or-true}
use Rattle.slint_base.specs.declared.rules.Rule.TheVariants.{Syntax, TooDeep}
use Rattle.slint_lexer.specs.declared.tokens.Token.{Token}
use Rattle.slint_grammar.specs.Grammar.{Slot}
use Rattle.slint_grammar.specs.Derivations.{Class, class_of, deepest_token}
use Rattle.slint_grammar.specs.Stacks.{Stack, Left, first, onto, longest_chain, nullable_slot, after, afters, is_live, is_done, is_any_done, rule_of, Stops, Ends, run}

-- one stack, within the limit
abbrev pub only : Stack → List Left
only ps = (ps, true) ∷ []

abbrev flagged : Stack → Bool → List Left
flagged ps b = (ps, b) ∷ []

-- ---- sets of stacks

pub afters-append : (c : Class) (a b : List Left) → afters c (a ++ b) ≡ afters c a ++ afters c b
afters-append c [] b = refl
afters-append c (x ∷ a) b = ap (λ z. after c x.0 x.1 ++ z) (afters-append c a b) ∙ sym (append_assoc (after c x.0 x.1) (afters c a) (afters c b))

pub is_live-append : (a b : List Left) → is_live (a ++ b) ≡ (is_live a || is_live b)
is_live-append [] b = refl
is_live-append ((ps, true) ∷ a) b = refl
is_live-append ((ps, false) ∷ a) b = is_live-append a b

pub is_any_done-append : (a b : List Left) → is_any_done (a ++ b) ≡ (is_any_done a || is_any_done b)
is_any_done-append [] b = refl
is_any_done-append ((ps, false) ∷ a) b = is_any_done-append a b
is_any_done-append ((ps, true) ∷ a) b = done_or (is_done ps) (is_any_done-append a b)
  where
    done_or : (d : Bool) → is_any_done (a ++ b) ≡ (is_any_done a || is_any_done b) → (d || is_any_done (a ++ b)) ≡ (d || is_any_done a || is_any_done b)
    done_or true e = refl
    done_or false e = e

afters-none : (c : Class) (a : List Left) → afters c a ≡ [] → (b : List Left) → afters c (a ++ b) ≡ afters c b
afters-none c a e b = afters-append c a b ∙ ap (λ z. z ++ afters c b) e

afters-none_right : (c : Class) (a b : List Left) → afters c b ≡ [] → afters c (a ++ b) ≡ afters c a
afters-none_right c a b e = afters-append c a b ∙ ap (λ z. afters c a ++ z) e ∙ append-nil (afters c a)

or-false : (x y : Bool) → y ≡ false → (x || y) ≡ x
or-false true y e = refl
or-false false y e = e

-- ---- a token

-- at a token a run only sees what stays behind it
pub by_what_stays : (t : Token) (s : List Token) (a b : List Left) → afters (class_of t.kind) a ≡ afters (class_of t.kind) b → run (t ∷ s) a ≡ run (t ∷ s) b
by_what_stays t s a b e = ap (λ z. cond (is_live z) (run s z) (Stops (rule_of z) (suc (length s)))) e

-- a token that some stack can take within the limit, and one that none can
pub step : (t : Token) (s : List Token) (now next : List Left) → afters (class_of t.kind) now ≡ next → is_live next ≡ true → run (t ∷ s) now ≡ run s next
step t s now next e live =
    ap (λ z. cond (is_live z) (run s z) (Stops (rule_of z) (suc (length s)))) e
    ∙ ap (λ z. cond z (run s next) (Stops (rule_of next) (suc (length s)))) live

pub stop : (t : Token) (s : List Token) (now next : List Left) → afters (class_of t.kind) now ≡ next → is_live next ≡ false → run (t ∷ s) now ≡ Stops (rule_of next) (suc (length s))
stop t s now next e dead =
    ap (λ z. cond (is_live z) (run s z) (Stops (rule_of z) (suc (length s)))) e
    ∙ ap (λ z. cond z (run s next) (Stops (rule_of next) (suc (length s)))) dead

-- ---- one stack at a token of the class c: what stays is computed by `refl`

pub afters-only : (t : Token) (c : Class) (ps : Stack) → class_of t.kind ≡ c → afters (class_of t.kind) (only ps) ≡ after c ps true
afters-only t c ps e = append-nil (after (class_of t.kind) ps true) ∙ ap (λ z. after z ps true) e

pub step_set : (t : Token) (s : List Token) (c : Class) (ps : Stack) (next : List Left) → class_of t.kind ≡ c → after c ps true ≡ next → is_live next ≡ true
    → run (t ∷ s) (only ps) ≡ run s next
step_set t s c ps next k e live = step t s (only ps) next (afters-only t c ps k ∙ e) live

pub step_only : (t : Token) (s : List Token) (c : Class) (ps qs : Stack) (b : Bool) → class_of t.kind ≡ c → after c ps true ≡ (qs, b) ∷ [] → b ≡ true
    → run (t ∷ s) (only ps) ≡ run s (only qs)
step_only t s c ps qs b k e w = step_set t s c ps (only qs) k (e ∙ ap (flagged qs) w) refl

pub step_deep : (t : Token) (s : List Token) (c : Class) (ps qs : Stack) (b : Bool) → class_of t.kind ≡ c → after c ps true ≡ (qs, b) ∷ [] → b ≡ false
    → run (t ∷ s) (only ps) ≡ Stops TooDeep (suc (length s))
step_deep t s c ps qs b k e w = stop t s (only ps) ((qs, false) ∷ []) (afters-only t c ps k ∙ e ∙ ap (flagged qs) w) refl

pub refused : (t : Token) (s : List Token) (c : Class) (ps : Stack) → class_of t.kind ≡ c → after c ps true ≡ [] → run (t ∷ s) (only ps) ≡ Stops Syntax (suc (length s))
refused t s c ps k e = stop t s (only ps) [] (afters-only t c ps k ∙ e) refl

-- the same where the token's depth decides
pub step_within : (t : Token) (s : List Token) (c : Class) (ps qs : Stack) (d : ℕ) → class_of t.kind ≡ c → after c ps true ≡ (qs, nat_le d deepest_token) ∷ [] → d ≤ deepest_token
    → run (t ∷ s) (only ps) ≡ run s (only qs)
step_within t s c ps qs d k e l = step_only t s c ps qs (nat_le d deepest_token) k e (le-leb d deepest_token l)

pub step_too_deep : (t : Token) (s : List Token) (c : Class) (ps qs : Stack) (d : ℕ) → class_of t.kind ≡ c → after c ps true ≡ (qs, nat_le d deepest_token) ∷ [] → deepest_token < d
    → run (t ∷ s) (only ps) ≡ Stops TooDeep (suc (length s))
step_too_deep t s c ps qs d k e l = step_deep t s c ps qs (nat_le d deepest_token) k e (lt-leb d deepest_token l)

-- ---- a place that need not be taken, in front of a token that it can't take

pub drop : (c : Class) (x : Slot) (d : ℕ) (ps : Stack) (w : Bool) → first longest_chain c x d ≡ [] → nullable_slot x ≡ true → after c ((x, d) ∷ ps) w ≡ after c ps w
drop c x d ps w e n =
    ap (λ z. map (onto ps w) z ++ cond (nullable_slot x) (after c ps w) []) e
    ∙ ap (λ z. cond z (after c ps w) []) n

pub drop_run : (t : Token) (s : List Token) (x : Slot) (d : ℕ) (ps : Stack) → first longest_chain (class_of t.kind) x d ≡ [] → nullable_slot x ≡ true
    → run (t ∷ s) (only ((x, d) ∷ ps)) ≡ run (t ∷ s) (only ps)
drop_run t s x d ps e n = by_what_stays t s (only ((x, d) ∷ ps)) (only ps) (ap (λ z. z ++ []) (drop (class_of t.kind) x d ps true e n))

pub drop_end : (x : Slot) (d : ℕ) (ps : Stack) → nullable_slot x ≡ true → run [] (only ((x, d) ∷ ps)) ≡ run [] (only ps)
drop_end x d ps n = ap (λ z. Ends (z && is_done ps || false)) n

-- at the end of the tokens, or in front of a token that it can't take
pub drops : (s : List Token) (x : Slot) (d : ℕ) (ps : Stack) → nullable_slot x ≡ true
    → ((t : Token) (r : List Token) → s ≡ t ∷ r → first longest_chain (class_of t.kind) x d ≡ [])
    → run s (only ((x, d) ∷ ps)) ≡ run s (only ps)
drops [] x d ps n refuses = drop_end x d ps n
drops (t ∷ s) x d ps n refuses = drop_run t s x d ps (refuses t s refl) n

-- ---- sets of which a part is lost

-- none of these stacks can take the next token, nor is done at the end
abbrev pub Lost : List Token → List Left → Type 0
Lost [] a = is_any_done a ≡ false
Lost (t ∷ s) a = afters (class_of t.kind) a ≡ []

pub lost_left : (s : List Token) (a b : List Left) → Lost s a → run s (a ++ b) ≡ run s b
lost_left [] a b e = ap Ends (is_any_done-append a b ∙ ap (λ z. z || is_any_done b) e)
lost_left (t ∷ s) a b e = by_what_stays t s (a ++ b) b (afters-none (class_of t.kind) a e b)

pub lost_right : (s : List Token) (a b : List Left) → Lost s b → run s (a ++ b) ≡ run s a
lost_right [] a b e = ap Ends (is_any_done-append a b ∙ or-false (is_any_done a) (is_any_done b) e)
lost_right (t ∷ s) a b e = by_what_stays t s (a ++ b) a (afters-none_right (class_of t.kind) a b e)

-- lost one token later, where the others can take this one
pub lost_left_behind : (t : Token) (s : List Token) (a b : List Left) → is_live (afters (class_of t.kind) b) ≡ true → Lost s (afters (class_of t.kind) a)
    → run (t ∷ s) (a ++ b) ≡ run (t ∷ s) b
lost_left_behind t s a b live lost =
    step t s (a ++ b) (afters (class_of t.kind) a ++ afters (class_of t.kind) b) (afters-append (class_of t.kind) a b)
    (is_live-append (afters (class_of t.kind) a) (afters (class_of t.kind) b) ∙ ap (λ z. is_live (afters (class_of t.kind) a) || z) live ∙ or-true (is_live (afters (class_of t.kind) a)))
    ∙ lost_left s (afters (class_of t.kind) a) (afters (class_of t.kind) b) lost
    ∙ sym (step t s b (afters (class_of t.kind) b) refl live)

pub lost_right_behind : (t : Token) (s : List Token) (a b : List Left) → is_live (afters (class_of t.kind) a) ≡ true → Lost s (afters (class_of t.kind) b)
    → run (t ∷ s) (a ++ b) ≡ run (t ∷ s) a
lost_right_behind t s a b live lost =
    step t s (a ++ b) (afters (class_of t.kind) a ++ afters (class_of t.kind) b) (afters-append (class_of t.kind) a b)
    (is_live-append (afters (class_of t.kind) a) (afters (class_of t.kind) b) ∙ ap (λ z. z || is_live (afters (class_of t.kind) b)) live)
    ∙ lost_right s (afters (class_of t.kind) a) (afters (class_of t.kind) b) lost
    ∙ sym (step t s a (afters (class_of t.kind) a) refl live)
