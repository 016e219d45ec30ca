-- A callback's parameter: whether its first name is its own name or its type's, which is one deeper.
use Rattle.std.proofs.Common.{◌≡◌, ℕ, suc, ◌+◌, Bool, true, false, cond, List, [], ◌∷◌, ◌++◌, length, map, drop, nat_le, sym, refl, ap, ◌∙◌, subst, append-nil, le-leb, arith}
use Rattle.std.proofs.lemmas.Bool.{leb-true, leb-false, lt-leb, false≢true}
use Rattle.std.specs.Prelude.{Result, Ok, Err}
use Rattle.slint_base.specs.declared.endings.End.{End}
use Rattle.slint_base.specs.declared.endings.End.TheVariants as endings
use Rattle.slint_lexer.specs.declared.tokens.Symbol.TheVariants as symbols
use Rattle.slint_lexer.specs.declared.tokens.Token.{Token}
use Rattle.syntax_tree.specs.declared.items.Parameter.{Parameter}
use Rattle.slint_grammar.specs.declared.words.Word.{Word}
use Rattle.slint_parser.specs.declared.stops.Stop.{Stop}
use Rattle.slint_parser.specs.declared.stops.Seen.TheVariants as seens
use Rattle.slint_grammar.specs.Parts as parts
use Rattle.slint_grammar.specs.Grammar.{Sign, AnyName, one, same, deeper}
use Rattle.slint_grammar.specs.Grammar.{Alt as alts}
use Rattle.slint_grammar.specs.Derivations.{Class, ASign, AWord, NumberClass, ColourClass, TextClass, HeadClass, MidClass, TailClass, class_of, fits, deepest_token}
use Rattle.slint_parser.specs.Readings.{at, outcome, seen, seen_of, shows_name, stop_at, Refuses, Stuck, Reads, ReadsBy}
use Rattle.slint_grammar.specs.Stacks.{Stack, Left, onto, first, longest_chain, nullable_slot, after, afters, is_live, rule_of, Stops, run}
use Rattle.slint_parser.specs.Members.{StuckParameter, ReadsParameter, rule_behind}
use Rattle.slint_grammar.proofs.Steps.{step, stop, afters-only, Lost, lost_left, lost_right}
use Rattle.slint_parser.proofs.Signs.{not_sign}
use Rattle.slint_parser.proofs.Joining.{seen_same, Chosen, chosen_second, chosen_reads, no_alt}
use Rattle.slint_parser.proofs.Listing.{BegunList, chosen_item}

-- a stack that refuses a token within the limit refuses it past the limit
none_more : (F : List Left) (n : Bool) (xs : Stack) (now later : List Left) → (now ≡ [] → later ≡ []) → map (onto xs true) F ++ cond n now [] ≡ [] → map (onto xs false) F ++ cond n later [] ≡ []
none_more [] true xs now later h e = h e
none_more [] false xs now later h e = refl
none_more (l ∷ F) n xs now later h e = cc

refuses_past : (c : Class) (ps : Stack) → after c ps true ≡ [] → after c ps false ≡ []
refuses_past c [] h = refl
refuses_past c (x ∷ xs) h = none_more (first longest_chain c x.0 x.1) (nullable_slot x.0) xs (after c xs true) (after c xs false) (refuses_past c xs) h

refuses_both : (c : Class) (ps : Stack) (w : Bool) → after c ps true ≡ [] → after c ps w ≡ []
refuses_both c ps true h = h
refuses_both c ps false h = refuses_past c ps h

-- what can stand behind a name
abbrev Named : ℕ → Stack → Stack
Named d ps = (one (Sign symbols.Colon), d) ∷ (deeper parts.TypeName, d) ∷ ps

abbrev open_ways : ℕ → Stack → Bool → Bool → List Left
open_ways d ps u v = (Named d ps, u) ∷ (ps, v) ∷ []

name_class : (c : Class) → fits AnyName c ≡ true → (w : Word) × (c ≡ AWord w)
name_class (AWord w) h = (w, refl)
name_class (ASign x) h = absurd (false≢true h)
name_class NumberClass h = absurd (false≢true h)
name_class ColourClass h = absurd (false≢true h)
name_class TextClass h = absurd (false≢true h)
name_class HeadClass h = absurd (false≢true h)
name_class MidClass h = absurd (false≢true h)
name_class TailClass h = absurd (false≢true h)

behind_name : (t : Token) (d : ℕ) (ps : Stack) (u v : Bool) → fits AnyName (class_of t.kind) ≡ true → nat_le d deepest_token ≡ u → nat_le (d + 1) deepest_token ≡ v
    → afters (class_of t.kind) (at ((same parts.Parameter, d) ∷ ps)) ≡ open_ways d ps u v
behind_name t d ps u v h e f =
    let w = name_class (class_of t.kind) h in
    afters-only t (AWord w.0) ((same parts.Parameter, d) ∷ ps) w.1 ∙ ap (λ z. open_ways d ps z (nat_le (d + 1) deepest_token)) e ∙ ap (open_ways d ps u) f

behind_own : (t : Token) (d : ℕ) (ps : Stack) (u : Bool) → fits AnyName (class_of t.kind) ≡ true → nat_le d deepest_token ≡ u
    → afters (class_of t.kind) (at ((one AnyName, d) ∷ Named d ps)) ≡ (Named d ps, u) ∷ []
behind_own t d ps u h e =
    let w = name_class (class_of t.kind) h in
    afters-only t (AWord w.0) ((one AnyName, d) ∷ Named d ps) w.1 ∙ ap (λ z. (Named d ps, z) ∷ []) e

behind_type : (t : Token) (d : ℕ) (ps : Stack) (v : Bool) → fits AnyName (class_of t.kind) ≡ true → nat_le (d + 1) deepest_token ≡ v
    → afters (class_of t.kind) (at ((deeper parts.TypeName, d) ∷ ps)) ≡ (ps, v) ∷ []
behind_type t d ps v h e =
    let w = name_class (class_of t.kind) h in
    afters-only t (AWord w.0) ((deeper parts.TypeName, d) ∷ ps) w.1 ∙ ap (λ z. (ps, z) ∷ []) e

lost_type : (s : List Token) (ps : Stack) (v : Bool) → seen s ≡ seens.Symbol symbols.Colon → after (ASign symbols.Colon) ps true ≡ [] → Lost s ((ps, v) ∷ [])
lost_type [] ps v e g = cc
lost_type (t ∷ s) ps v e g = append-nil (after (class_of t.kind) ps v) ∙ ap (λ z. after z ps v) (seen_same (class_of t.kind) (ASign symbols.Colon) e) ∙ refuses_both (ASign symbols.Colon) ps v g

lost_named : (s : List Token) (d : ℕ) (ps : Stack) → (seen s ≡ seens.Symbol symbols.Colon → ⊥) → Lost s ((Named d ps, true) ∷ [])
lost_named [] d ps n = refl
lost_named (t ∷ s) d ps n =
    ap (λ z. (map (onto ((deeper parts.TypeName, d) ∷ ps) true) (cond z (([], nat_le d deepest_token) ∷ []) []) ++ []) ++ []) (not_sign symbols.Colon (t ∷ s) n t s refl)

past_more : (d : ℕ) → nat_le d deepest_token ≡ false → nat_le (d + 1) deepest_token ≡ false
past_more d e = let h = leb-false d deepest_token e in lt-leb (d + 1) deepest_token (omega (arith, h))

-- ---- a name and a colon

named_goes : (t : Token) (s : List Token) (d : ℕ) (ps : Stack) (u : Bool) → nat_le d deepest_token ≡ u → fits AnyName (class_of t.kind) ≡ true → seen s ≡ seens.Symbol symbols.Colon
    → after (ASign symbols.Colon) ps true ≡ [] → run (t ∷ s) (at ((same parts.Parameter, d) ∷ ps)) ≡ run (t ∷ s) (at ((one AnyName, d) ∷ Named d ps))
named_goes t s d ps true k h e g =
    step t s (at ((same parts.Parameter, d) ∷ ps)) (open_ways d ps true (nat_le (d + 1) deepest_token)) (behind_name t d ps true (nat_le (d + 1) deepest_token) h k refl) refl
    ∙ lost_right s (at (Named d ps)) ((ps, nat_le (d + 1) deepest_token) ∷ []) (lost_type s ps (nat_le (d + 1) deepest_token) e g)
    ∙ sym (step t s (at ((one AnyName, d) ∷ Named d ps)) (at (Named d ps)) (behind_own t d ps true h k) refl)
named_goes t s d ps false k h e g =
    stop t s (at ((same parts.Parameter, d) ∷ ps)) (open_ways d ps false false) (behind_name t d ps false false h k (past_more d k)) refl
    ∙ sym (stop t s (at ((one AnyName, d) ∷ Named d ps)) ((Named d ps, false) ∷ []) (behind_own t d ps false h k) refl)

named_runs : (s : List Token) (d : ℕ) (ps : Stack) → shows_name s ≡ true → seen (drop 1 s) ≡ seens.Symbol symbols.Colon → after (ASign symbols.Colon) ps true ≡ []
    → run s (at ((same parts.Parameter, d) ∷ ps)) ≡ run s (at ((one AnyName, d) ∷ Named d ps))
named_runs [] d ps h e g = absurd (false≢true h)
named_runs (t ∷ s) d ps h e g = named_goes t s d ps (nat_le d deepest_token) refl h e g

chosen_named : (d : ℕ) (s : List Token) → shows_name s ≡ true → seen (drop 1 s) ≡ seens.Symbol symbols.Colon → Chosen alts.named_parameter d s
chosen_named d s h e = record { same_run = λ ps g. named_runs s d ps h e g.0; fit = λ ps g. (tt, tt) }

-- ---- a type

same_depth : (d : ℕ) → (d ≡ 100 → ⊥) → nat_le (d + 1) deepest_token ≡ nat_le d deepest_token
same_depth d n = same_by (nat_le d deepest_token) refl
  where
    same_by : (b : Bool) → nat_le d deepest_token ≡ b → nat_le (d + 1) deepest_token ≡ nat_le d deepest_token
    same_by true h = let l = leb-true d deepest_token h in le-leb (d + 1) deepest_token (omega (arith, l, n)) ∙ sym h
    same_by false h = past_more d h ∙ sym h

nameless_goes : (t : Token) (s : List Token) (d : ℕ) (ps : Stack) (u : Bool) → nat_le d deepest_token ≡ u → nat_le (d + 1) deepest_token ≡ u → fits AnyName (class_of t.kind) ≡ true
    → (seen s ≡ seens.Symbol symbols.Colon → ⊥) → run (t ∷ s) (at ((same parts.Parameter, d) ∷ ps)) ≡ run (t ∷ s) (at ((deeper parts.TypeName, d) ∷ ps))
nameless_goes t s d ps true k l h n =
    step t s (at ((same parts.Parameter, d) ∷ ps)) (open_ways d ps true true) (behind_name t d ps true true h k l) refl
    ∙ lost_left s (at (Named d ps)) (at ps) (lost_named s d ps n)
    ∙ sym (step t s (at ((deeper parts.TypeName, d) ∷ ps)) (at ps) (behind_type t d ps true h l) refl)
nameless_goes t s d ps false k l h n =
    stop t s (at ((same parts.Parameter, d) ∷ ps)) (open_ways d ps false false) (behind_name t d ps false false h k l) refl
    ∙ sym (stop t s (at ((deeper parts.TypeName, d) ∷ ps)) ((ps, false) ∷ []) (behind_type t d ps false h l) refl)

nameless_runs : (s : List Token) (d : ℕ) (ps : Stack) → shows_name s ≡ true → (seen (drop 1 s) ≡ seens.Symbol symbols.Colon → ⊥) → (d ≡ 100 → ⊥)
    → run s (at ((same parts.Parameter, d) ∷ ps)) ≡ run s (at ((deeper parts.TypeName, d) ∷ ps))
nameless_runs [] d ps h n m = absurd (false≢true h)
nameless_runs (t ∷ s) d ps h n m = nameless_goes t s d ps (nat_le d deepest_token) refl (same_depth d m) h n

chosen_type : (d : ℕ) (s : List Token) → shows_name s ≡ true → (seen (drop 1 s) ≡ seens.Symbol symbols.Colon → ⊥) → (d ≡ 100 → ⊥) → Chosen alts.nameless_parameter d s
chosen_type d s h n m = record { same_run = λ ps g. nameless_runs s d ps h n m; fit = λ ps g. (tt, tt) }

chosen_no_name : (d : ℕ) (s : List Token) → shows_name s ≡ false → Chosen alts.nameless_parameter d s
chosen_no_name d s h =
    chosen_second alts.named_parameter alts.nameless_parameter d s refl refl (λ t r e. no_alt alts.named_parameter AnyName (class_of t.kind) d refl (sym (ap shows_name e) ∙ h)) (λ ps g. (tt, tt))

-- ---- at the limit of depths

rest_dead : (c : Class) (ps : Stack) → (is_live (afters c (((same (parts.Rest parts.Parameters), 100) ∷ ps, false) ∷ [])) ≡ false)
    × (rule_of (afters c (((same (parts.Rest parts.Parameters), 100) ∷ ps, false) ∷ [])) ≡ rule_behind (seen_of c))
rest_dead (ASign symbols.Comma) ps = (refl, refl)
rest_dead (ASign symbols.CloseParen) ps = (refl, refl)
rest_dead (ASign _) ps = (refl, refl)
rest_dead (AWord w) ps = (refl, refl)
rest_dead _ ps = (refl, refl)

behind_rest : (m : List Token) (ps : Stack) → run m (((same (parts.Rest parts.Parameters), 100) ∷ ps, false) ∷ []) ≡ outcome (stop_at (rule_behind (seen m)) m)
behind_rest [] ps = refl
behind_rest (t ∷ m) ps =
    let now : List Left = ((same (parts.Rest parts.Parameters), 100) ∷ ps, false) ∷ [] in
    let dead = rest_dead (class_of t.kind) ps in
    stop t m now (afters (class_of t.kind) now) refl dead.0 ∙ ap (λ z. Stops z (suc (length m))) dead.1

limit_goes : (s : List Token) (ps : Stack) → shows_name s ≡ true → (seen (drop 1 s) ≡ seens.Symbol symbols.Colon → ⊥)
    → run s (at ((same parts.Parameter, 100) ∷ (same (parts.Rest parts.Parameters), 100) ∷ ps)) ≡ outcome (stop_at (rule_behind (seen (drop 1 s))) (drop 1 s))
limit_goes [] ps h n = absurd (false≢true h)
limit_goes (t ∷ s) ps h n =
    let more : Stack = (same (parts.Rest parts.Parameters), 100) ∷ ps in
    step t s (at ((same parts.Parameter, 100) ∷ more)) (open_ways 100 more true false) (behind_name t 100 more true false h refl refl) refl
    ∙ lost_left s (at (Named 100 more)) ((more, false) ∷ []) (lost_named s 100 more n)
    ∙ behind_rest s ps

pub limit_reads : (d : ℕ) (s r : List Token) (e : End Stop) → d ≡ 100 → shows_name s ≡ true → (seen (drop 1 s) ≡ seens.Symbol symbols.Colon → ⊥)
    → e ≡ endings.Fault (stop_at (rule_behind (seen (drop 1 s))) (drop 1 s)) → ReadsParameter d s (Err e) r
limit_reads d s r e k h n is = subst (λ z. StuckParameter z s e) (sym k) (record {
  stops = λ where_to f ps. let same_stop : stop_at (rule_behind (seen (drop 1 s))) (drop 1 s) ≡ where_to = cc in limit_goes s ps h n ∙ ap outcome same_stop;
})

by_chosen : (d : ℕ) (s r : List Token) (result : Result Parameter (End Stop)) → ((ps : Stack) → Refuses (ASign symbols.Colon ∷ []) ((same (parts.Rest parts.Parameters), d) ∷ ps))
    → Reads parts.Parameter d s result r → ReadsParameter d s result r
by_chosen d s r (Ok t) f x = x
by_chosen d s r (Err e) f x = record { stops = λ where_to is ps. x.stops where_to is ((same (parts.Rest parts.Parameters), d) ∷ ps) (f ps) }

pub named_reads : (d : ℕ) (s r : List Token) (result : Result Parameter (End Stop)) → shows_name s ≡ true → seen (drop 1 s) ≡ seens.Symbol symbols.Colon → ReadsBy alts.named_parameter d s result r
    → ReadsParameter d s result r
named_reads d s r result h e x = by_chosen d s r result (λ ps. (refl, tt)) (chosen_reads alts.named_parameter d s r result (chosen_named d s h e) x)

pub type_reads : (d : ℕ) (s r : List Token) (result : Result Parameter (End Stop)) → shows_name s ≡ true → (seen (drop 1 s) ≡ seens.Symbol symbols.Colon → ⊥) → (d ≡ 100 → ⊥)
    → ReadsBy alts.nameless_parameter d s result r → ReadsParameter d s result r
type_reads d s r result h n m x = by_chosen d s r result (λ ps. (refl, tt)) (chosen_reads alts.nameless_parameter d s r result (chosen_type d s h n m) x)

pub no_name_reads : (d : ℕ) (s r : List Token) (result : Result Parameter (End Stop)) → shows_name s ≡ false → ReadsBy alts.nameless_parameter d s result r → ReadsParameter d s result r
no_name_reads d s r result h x = by_chosen d s r result (λ ps. (refl, tt)) (chosen_reads alts.nameless_parameter d s r result (chosen_no_name d s h) x)

-- an item that is none
pub parameter_error : (d : ℕ) (start s : List Token) (all : List Parameter) (e : End Stop) → BegunList parts.Parameters d start s all → (seen s ≡ seens.Symbol symbols.CloseParen → ⊥) → StuckParameter d s e
    → Stuck (parts.Listing parts.Parameters) d start e
parameter_error d start s all e g n x =
    let chosen = chosen_item parts.Parameters d s n in
    g.stuck e (record { stops = λ where_to is ps f. chosen.same_run ps f ∙ x.stops where_to is ps })
