-- Which production reads a value that begins with a brace.
use Rattle.std.proofs.Common.{◌≡◌, ℕ, suc, ◌+◌, ◌≤◌, Bool, true, false, cond, ◌&&◌, ◌||◌, List, [], ◌∷◌, ◌++◌, length, map, drop, nat_le, sym, refl, ap, ◌∙◌, subst, true≢false, le-leb, leb-true, append-nil, arith}
use Rattle.std.proofs.lemmas.Bool.{and_parts, lt-leb}
use Rattle.slint_base.specs.declared.endings.End.{End}
use Rattle.slint_base.specs.declared.endings.End.TheVariants as endings
use Rattle.slint_base.specs.declared.rules.Rule.{Rule}
use Rattle.slint_lexer.specs.declared.tokens.Symbol.TheVariants as symbols
use Rattle.slint_lexer.specs.declared.tokens.Token.{Token}
use Rattle.slint_grammar.specs.declared.words.Word.{Word}
use Rattle.slint_grammar.specs.declared.words.Word.TheVariants as words
use Rattle.slint_parser.specs.declared.stops.Stop.{Stop}
use Rattle.slint_parser.specs.declared.stops.Seen.TheVariants as seens
use Rattle.slint_grammar.specs.Parts as parts
use Rattle.slint_grammar.specs.Grammar.{Sign, one, same, deeper}
use Rattle.slint_grammar.specs.Grammar.{Alt as alts}
use Rattle.slint_grammar.specs.Derivations.{Class, ASign, AWord, NumberClass, ColourClass, TextClass, HeadClass, MidClass, TailClass, class_of, is_sign, deepest_token}
use Rattle.slint_parser.specs.Readings.{at, outcome, seen, seen_of, stop_at, expr_classes, Stuck}
use Rattle.slint_grammar.specs.Stacks.{Stack, at_depth, onto, after, afters, is_live, rule_of, Stops, run}
use Rattle.slint_parser.specs.Values.{is_a_name, is_a_colon, is_field, is_plain, rule_behind}
use Rattle.slint_parser.proofs.Signs.{not_sign}
use Rattle.slint_grammar.proofs.Steps.{Lost, lost_right, lost_left_behind, lost_right_behind, step, stop, afters-only}
use Rattle.slint_parser.proofs.Joining.{Chosen, chosen_second, seen_same, seen_not_end, refuses_all}
use Rattle.slint_parser.proofs.Forks.{tagged, fork_by, no_deep}
use Rattle.slint_parser.proofs.ChosenValues.{block_none}

abbrev block_stack : ℕ → Stack → Stack
block_stack d ps = (same (parts.Stmts parts.InStmt), d + 1) ∷ (same parts.MaySemicolon, d) ∷ ps

abbrev struct_stack : ℕ → Stack → Stack
struct_stack d ps = at_depth (d + 1) (same (parts.StructFields parts.InValue) ∷ same parts.Suffixes ∷ same parts.ProdRest ∷ same parts.SumRest ∷ same parts.MayCompare ∷ same parts.LogicRest ∷ same parts.MayChoice ∷ []) ++ (one (Sign symbols.Semicolon), d) ∷ ps

brace_goes : (d : ℕ) (ps : Stack) → after (ASign symbols.OpenBrace) ((same parts.Value, d) ∷ ps) true ≡ tagged (nat_le (d + 1) deepest_token) (block_stack d ps ∷ struct_stack d ps ∷ [])
brace_goes d ps = refl

-- ---- a field behind the brace

colon_lost : (w : Word) (d : ℕ) (ps : Stack) → afters (ASign symbols.Colon) (afters (AWord w) (tagged true (block_stack d ps ∷ []))) ≡ []
colon_lost words.If d ps = refl
colon_lost words.Return d ps = refl
colon_lost _ d ps = refl

colon_of : (c : Class) → is_a_colon (seen_of c) ≡ true → c ≡ ASign symbols.Colon
colon_of (ASign symbols.Colon) h = refl
colon_of _ h = absurd (true≢false (sym h))

word_of_name : (c : Class) → is_a_name (seen_of c) ≡ true → (w : Word) × (c ≡ AWord w)
word_of_name (AWord w) h = (w, refl)
word_of_name _ h = absurd (true≢false (sym h))

lost_colon : (w : Word) (d : ℕ) (ps : Stack) (s : List Token) → is_a_colon (seen s) ≡ true → Lost s (afters (AWord w) (tagged true (block_stack d ps ∷ [])))
lost_colon w d ps [] h = absurd (true≢false (sym h))
lost_colon w d ps (t ∷ s) h = let P : Class → Type 0 = λ z. afters z (afters (AWord w) (tagged true (block_stack d ps ∷ []))) ≡ [] in subst P (sym (colon_of (class_of t.kind) h)) (colon_lost w d ps)

field_runs : (d : ℕ) (ps : Stack) (s : List Token) → is_field (seen s) (seen (drop 1 s)) ≡ true → nat_le (d + 1) deepest_token ≡ true
    → run s (tagged true (block_stack d ps ∷ struct_stack d ps ∷ [])) ≡ run s (tagged true (struct_stack d ps ∷ []))
field_runs d ps [] h l = absurd (true≢false (sym h))
field_runs d ps (t ∷ s) h l =
    let both = and_parts (is_a_name (seen_of (class_of t.kind))) (is_a_colon (seen s)) h in
    let w = word_of_name (class_of t.kind) both.0 in
    let P : Class → Type 0 = λ z. is_live (afters z (tagged true (struct_stack d ps ∷ []))) ≡ true in
    let Q : Class → Type 0 = λ z. Lost s (afters z (tagged true (block_stack d ps ∷ []))) in
    lost_left_behind t s (tagged true (block_stack d ps ∷ [])) (tagged true (struct_stack d ps ∷ []))
    (subst P (sym w.1) (ap (λ z. z || false) l)) (subst Q (sym w.1) (lost_colon w.0 d ps s both.1))

pub chosen_field_value : (d : ℕ) (s : List Token) → seen s ≡ seens.Symbol symbols.OpenBrace → is_field (seen (drop 1 s)) (seen (drop 2 s)) ≡ true → Chosen alts.expr_value d s
chosen_field_value d [] e h = absurd (seen_not_end (ASign symbols.OpenBrace) e)
chosen_field_value d (t ∷ s) e h = record {
  same_run = λ ps g. fork_by t s (ASign symbols.OpenBrace) ((same parts.Value, d) ∷ ps) ((deeper (parts.Expr parts.InValue), d) ∷ (one (Sign symbols.Semicolon), d) ∷ ps) (struct_stack d ps) (block_stack d ps ∷ []) []
      (nat_le (d + 1) deepest_token) (seen_same (class_of t.kind) (ASign symbols.OpenBrace) e) (brace_goes d ps) refl (field_runs d ps s (further s h));
  fit = λ ps g. (refuses_all expr_classes ((one (Sign symbols.Semicolon), d) ∷ ps) refl, tt);
}
  where
    further : (s : List Token) → is_field (seen s) (seen (drop 1 s)) ≡ true → is_field (seen s) (seen (drop 1 s)) ≡ true
    further s h = h

-- ---- a block behind the brace

either_false : (x : Bool) → ((x && false) || false) ≡ false
either_false true = refl
either_false false = refl

no_colon : (s : List Token) → is_a_colon (seen s) ≡ false → seen s ≡ seens.Symbol symbols.Colon → ⊥
no_colon s h e = true≢false (sym (ap is_a_colon e) ∙ h)

lost_no_colon : (w : Word) (d : ℕ) (ps : Stack) (s : List Token) → is_a_colon (seen s) ≡ false → Lost s (afters (AWord w) (tagged true (struct_stack d ps ∷ [])))
lost_no_colon w d ps [] h = either_false (nat_le (d + 1) deepest_token)
lost_no_colon w d ps (t ∷ s) h =
    ap (λ z. (map (onto (at_depth (d + 1) (deeper (parts.Expr parts.Anywhere) ∷ same (parts.Rest parts.FieldValues) ∷ same parts.Suffixes ∷ same parts.ProdRest ∷ same parts.SumRest ∷ same parts.MayCompare ∷ same parts.LogicRest ∷ same parts.MayChoice ∷ []) ++ (one (Sign symbols.Semicolon), d) ∷ ps) (nat_le (d + 1) deepest_token))
    (cond z (([], nat_le (d + 1) deepest_token) ∷ []) []) ++ []) ++ []) (not_sign symbols.Colon (t ∷ s) (no_colon (t ∷ s) h) t s refl)

block_live : (w : Word) (d : ℕ) (ps : Stack) → nat_le (d + 1) deepest_token ≡ true → (is_plain (seens.Word w) ≡ true → nat_le ((d + 1) + 1) deepest_token ≡ true)
    → is_live (afters (AWord w) (tagged true (block_stack d ps ∷ []))) ≡ true
block_live words.If d ps l f = ap (λ z. z || false) l
block_live words.Return d ps l f = ap (λ z. z || false) l
block_live _ d ps l f = ap (λ z. z || false) (f refl)

no_name_lost : (c : Class) (d : ℕ) (ps : Stack) → is_a_name (seen_of c) ≡ false → afters c (tagged true (struct_stack d ps ∷ [])) ≡ []
no_name_lost (AWord w) d ps h = absurd (true≢false h)
no_name_lost (ASign s) d ps h = refl
no_name_lost NumberClass d ps h = refl
no_name_lost ColourClass d ps h = refl
no_name_lost TextClass d ps h = refl
no_name_lost HeadClass d ps h = refl
no_name_lost MidClass d ps h = refl
no_name_lost TailClass d ps h = refl

block_runs : (d : ℕ) (ps : Stack) (s : List Token) → is_field (seen s) (seen (drop 1 s)) ≡ false → nat_le (d + 1) deepest_token ≡ true → (is_plain (seen s) ≡ true → nat_le ((d + 1) + 1) deepest_token ≡ true)
    → run s (tagged true (block_stack d ps ∷ struct_stack d ps ∷ [])) ≡ run s (tagged true (block_stack d ps ∷ []))
block_runs d ps [] h l f = lost_right [] (tagged true (block_stack d ps ∷ [])) (tagged true (struct_stack d ps ∷ [])) refl
block_runs d ps (t ∷ s) h l f = by_name (is_a_name (seen_of (class_of t.kind))) refl h
  where
    by_name : (b : Bool) → is_a_name (seen_of (class_of t.kind)) ≡ b → (b && is_a_colon (seen s)) ≡ false
        → run (t ∷ s) (tagged true (block_stack d ps ∷ struct_stack d ps ∷ [])) ≡ run (t ∷ s) (tagged true (block_stack d ps ∷ []))
    by_name false n k = lost_right (t ∷ s) (tagged true (block_stack d ps ∷ [])) (tagged true (struct_stack d ps ∷ [])) (no_name_lost (class_of t.kind) d ps n)
    by_name true n k =
        let w = word_of_name (class_of t.kind) n in
        let P : Class → Type 0 = λ z. is_live (afters z (tagged true (block_stack d ps ∷ []))) ≡ true in
        let Q : Class → Type 0 = λ z. Lost s (afters z (tagged true (struct_stack d ps ∷ []))) in
        lost_right_behind t s (tagged true (block_stack d ps ∷ [])) (tagged true (struct_stack d ps ∷ []))
        (subst P (sym w.1) (block_live w.0 d ps l (λ p. f (ap (λ z. is_plain (seen_of z)) w.1 ∙ p)))) (subst Q (sym w.1) (lost_no_colon w.0 d ps s k))

pub chosen_block_value : (d : ℕ) (s : List Token) → seen s ≡ seens.Symbol symbols.OpenBrace → is_field (seen (drop 1 s)) (seen (drop 2 s)) ≡ false
    → (nat_le (d + 1) deepest_token ≡ true → is_plain (seen (drop 1 s)) ≡ true → nat_le ((d + 1) + 1) deepest_token ≡ true) → Chosen alts.block_value d s
chosen_block_value d [] e h f = absurd (seen_not_end (ASign symbols.OpenBrace) e)
chosen_block_value d (t ∷ s) e h f = record {
  same_run = λ ps g. fork_by t s (ASign symbols.OpenBrace) ((same parts.Value, d) ∷ ps) ((deeper parts.Block, d) ∷ (same parts.MaySemicolon, d) ∷ ps) (block_stack d ps) [] (struct_stack d ps ∷ [])
      (nat_le (d + 1) deepest_token) (seen_same (class_of t.kind) (ASign symbols.OpenBrace) e) (brace_goes d ps) refl (λ l. block_runs d ps s h l (f l));
  fit = λ ps g. (tt, (g, tt));
}

-- not too deep, or not a name that would be
pub deep_enough : (d : ℕ) (plain : Bool) → d ≤ deepest_token → (plain ≡ true → d + 1 ≡ deepest_token → ⊥) → nat_le (d + 1) deepest_token ≡ true → plain ≡ true → nat_le ((d + 1) + 1) deepest_token ≡ true
deep_enough d plain l n k p = le-leb ((d + 1) + 1) deepest_token (omega (arith, leb-true (d + 1) deepest_token k, n p))

-- ---- neither: a name that is too deep as the head of a statement, and no field

abbrev name_stack : ℕ → Stack → Stack
name_stack d ps = at_depth ((d + 1) + 1) (same parts.Suffixes ∷ same parts.ProdRest ∷ same parts.SumRest ∷ same parts.MayCompare ∷ same parts.LogicRest ∷ same parts.MayChoice ∷ []) ++ at_depth (d + 1) (same parts.MayAssign ∷ same parts.StmtEnd ∷ []) ++ (same parts.MaySemicolon, d) ∷ ps

abbrev field_stack : ℕ → Stack → Stack
field_stack d ps = at_depth (d + 1) (one (Sign symbols.Colon) ∷ deeper (parts.Expr parts.Anywhere) ∷ same (parts.Rest parts.FieldValues) ∷ same parts.Suffixes ∷ same parts.ProdRest ∷ same parts.SumRest ∷ same parts.MayCompare ∷ same parts.LogicRest ∷ same parts.MayChoice ∷ []) ++ (one (Sign symbols.Semicolon), d) ∷ ps

name_goes : (w : Word) (d : ℕ) (ps : Stack) → is_plain (seens.Word w) ≡ true
    → afters (AWord w) (tagged true (block_stack d ps ∷ struct_stack d ps ∷ [])) ≡ (name_stack d ps, nat_le ((d + 1) + 1) deepest_token) ∷ (field_stack d ps, nat_le (d + 1) deepest_token) ∷ []
name_goes words.If d ps h = absurd (true≢false (sym h))
name_goes words.Return d ps h = absurd (true≢false (sym h))
name_goes _ d ps h = refl

-- what the statement could go on with
rules_behind : (c : Class) (d : ℕ) (ps : Stack) → (is_live (after c (name_stack d ps) false) ≡ false) × (rule_of (after c (name_stack d ps) false) ≡ rule_behind (seen_of c))
rules_behind (ASign symbols.Dot) d ps = (refl, refl)
rules_behind _ d ps = (refl, refl)

no_field : (c : Class) (d : ℕ) (ps : Stack) → is_sign symbols.Colon c ≡ false → after c (field_stack d ps) true ≡ []
no_field c d ps n =
    ap (λ z. map (onto (at_depth (d + 1) (deeper (parts.Expr parts.Anywhere) ∷ same (parts.Rest parts.FieldValues) ∷ same parts.Suffixes ∷ same parts.ProdRest ∷ same parts.SumRest ∷ same parts.MayCompare ∷ same parts.LogicRest ∷ same parts.MayChoice ∷ []) ++ (one (Sign symbols.Semicolon), d) ∷ ps) true)
    (cond z (([], nat_le (d + 1) deepest_token) ∷ []) []) ++ []) n

behind_stops : (d : ℕ) (ps : Stack) (s : List Token) → is_a_colon (seen s) ≡ false → run s ((name_stack d ps, false) ∷ (field_stack d ps, true) ∷ []) ≡ outcome (stop_at (rule_behind (seen s)) s)
behind_stops d ps [] h = refl
behind_stops d ps (t ∷ s) h =
    let c = class_of t.kind in
    let table = rules_behind c d ps in
    stop t s ((name_stack d ps, false) ∷ (field_stack d ps, true) ∷ []) (after c (name_stack d ps) false)
    (ap (λ z. after c (name_stack d ps) false ++ (z ++ [])) (no_field c d ps (not_sign symbols.Colon (t ∷ s) (no_colon (t ∷ s) h) t s refl)) ∙ append-nil (after c (name_stack d ps) false)) table.0
    ∙ ap (λ z. Stops z (suc (length s))) table.1

word_of_plain : (c : Class) → is_plain (seen_of c) ≡ true → (w : Word) × (c ≡ AWord w)
word_of_plain (AWord w) h = (w, refl)
word_of_plain _ h = absurd (true≢false (sym h))

name_runs : (d : ℕ) (ps : Stack) (t : Token) (s : List Token) → d + 1 ≡ deepest_token → is_plain (seen_of (class_of t.kind)) ≡ true → is_field (seen_of (class_of t.kind)) (seen s) ≡ false
    → run (t ∷ s) (tagged true (block_stack d ps ∷ struct_stack d ps ∷ [])) ≡ outcome (stop_at (rule_behind (seen s)) s)
name_runs d ps t s deep h k =
    let w = word_of_plain (class_of t.kind) h in
    let low : nat_le (d + 1) deepest_token ≡ true = le-leb (d + 1) deepest_token (omega arith) in
    let past : nat_le ((d + 1) + 1) deepest_token ≡ false = lt-leb ((d + 1) + 1) deepest_token (omega arith) in
    let P : Class → Type 0 = λ z. afters z (tagged true (block_stack d ps ∷ struct_stack d ps ∷ [])) ≡ (name_stack d ps, nat_le ((d + 1) + 1) deepest_token) ∷ (field_stack d ps, nat_le (d + 1) deepest_token) ∷ [] in
    let Q : Class → Type 0 = λ z. is_plain (seen_of z) ≡ true in
    let R : Class → Type 0 = λ z. is_field (seen_of z) (seen s) ≡ false in
    step t s (tagged true (block_stack d ps ∷ struct_stack d ps ∷ [])) ((name_stack d ps, false) ∷ (field_stack d ps, true) ∷ [])
    (subst P (sym w.1) (name_goes w.0 d ps (subst Q w.1 h)) ∙ ap (λ z. (name_stack d ps, z) ∷ (field_stack d ps, nat_le (d + 1) deepest_token) ∷ []) past ∙ ap (λ z. (name_stack d ps, false) ∷ (field_stack d ps, z) ∷ []) low) refl
    ∙ behind_stops d ps s (subst R w.1 k)

pub too_deep_name : (d : ℕ) (s : List Token) (rule : Rule) (e : End Stop) → seen s ≡ seens.Symbol symbols.OpenBrace → is_field (seen (drop 1 s)) (seen (drop 2 s)) ≡ false → d + 1 ≡ deepest_token
    → is_plain (seen (drop 1 s)) ≡ true → rule ≡ rule_behind (seen (drop 2 s)) → e ≡ endings.Fault (stop_at rule (drop 2 s)) → Stuck parts.Value d s e
too_deep_name d [] rule e k f deep h i j = absurd (seen_not_end (ASign symbols.OpenBrace) k)
too_deep_name d (t ∷ []) rule e k f deep h i j = absurd (true≢false (sym h))
too_deep_name d (t ∷ u ∷ s) rule e k f deep h i j = record {
  stops = λ where_to is ps g.
      step t (u ∷ s) (at ((same parts.Value, d) ∷ ps)) (tagged true (block_stack d ps ∷ struct_stack d ps ∷ []))
      (afters-only t (ASign symbols.OpenBrace) ((same parts.Value, d) ∷ ps) (seen_same (class_of t.kind) (ASign symbols.OpenBrace) k) ∙ brace_goes d ps
      ∙ ap (λ z. tagged z (block_stack d ps ∷ struct_stack d ps ∷ [])) (low_brace d deep)) refl
      ∙ name_runs d ps u s deep h f ∙ ap outcome (ap (λ z. stop_at z s) (sym i) ∙ same_stop (stop_at rule s) where_to (sym j ∙ is));
}
  where
    low_brace : (d : ℕ) → d + 1 ≡ deepest_token → nat_le (d + 1) deepest_token ≡ true
    low_brace d deep = le-leb (d + 1) deepest_token (omega arith)

    same_stop : (a b : Stop) → endings.Fault a ≡ endings.Fault b → a ≡ b
    same_stop a b h = cc

pub chosen_no_brace : (d : ℕ) (s : List Token) → (seen s ≡ seens.Symbol symbols.OpenBrace → ⊥) → Chosen alts.expr_value d s
chosen_no_brace d s n = chosen_second alts.block_value alts.expr_value d s refl refl
    (λ t r e. no_deep parts.Block (same parts.MaySemicolon ∷ []) (class_of t.kind) d refl (block_none (class_of t.kind) (d + 1) (not_sign symbols.OpenBrace s n t r e)))
    (λ ps g. (refuses_all expr_classes ((one (Sign symbols.Semicolon), d) ∷ ps) refl, tt))
