-- Tokens derive a file, or they have exactly one fault, which the outcome of a run names.
use Rattle.std.proofs.Common.{◌≡◌, ℕ, suc, ◌+◌, Bool, true, false, cond, ◌||◌, List, [], ◌∷◌, ◌++◌, length, eqb, refl, sym, ap, ◌∙◌, subst, ◌⊎◌, inl, inr, true≢false, eq-eqb, ne_eqb, length-append, arith}
use Rattle.std.proofs.lemmas.Bool.{false_from_ne_true}
use Rattle.slint_base.specs.declared.rules.Rule.{Rule}
use Rattle.slint_base.specs.declared.rules.Rule.TheVariants.{Syntax, TooDeep}
use Rattle.slint_base.specs.declared.faults.Fault.{Fault}
use Rattle.slint_lexer.specs.declared.tokens.Token.{Token}
use Rattle.syntax_tree.specs.declared.files.File.{File}
use Rattle.slint_grammar.specs.Parts.{FileItems}
use Rattle.slint_grammar.specs.Derivations.{Class, class_of, Derives, DerivesFile, tree}
use Rattle.slint_grammar.specs.Faults.{Viable, FreelyViable, NoFile, IsFault, at_token, too_deep, at_end}
use Rattle.slint_grammar.specs.Stacks.{Left, after, afters, is_live, is_any_done, rule_of, Outcome, Stops, Ends, run, start}
use Rattle.slint_grammar.proofs.Sets.{EachOf}
use Rattle.slint_grammar.proofs.Steps.{is_live-append, step, stop}
use Rattle.slint_grammar.proofs.AfterToken.{flags}
use Rattle.slint_grammar.proofs.Outcomes.{behind_front, behind_front-append, Any, viable_live, live_viable, freely_any, any_freely, file_done, done_file, Says, run_says}

-- ---- sets that are live were live before

dead_each : (lefts : List Left) → EachOf (λ l. l.1 ≡ false) lefts → is_live lefts ≡ false
dead_each [] e = refl
dead_each (l ∷ lefts) e = ap (λ z. z || is_live lefts) e.0 ∙ dead_each lefts e.1

dead_after : (c : Class) (now : List Left) → is_live now ≡ false → is_live (afters c now) ≡ false
dead_after c [] e = refl
dead_after c ((ps, true) ∷ now) e = absurd (true≢false e)
dead_after c ((ps, false) ∷ now) e =
    is_live-append (after c ps false) (afters c now) ∙ ap (λ z. z || is_live (afters c now)) (dead_each (after c ps false) (flags c ps)) ∙ dead_after c now e

dead_behind : (front : List Token) (now : List Left) → is_live now ≡ false → is_live (behind_front front now) ≡ false
dead_behind [] now e = e
dead_behind (t ∷ front) now e = dead_behind front (afters (class_of t.kind) now) (dead_after (class_of t.kind) now e)

live_before : (front : List Token) (now : List Left) → is_live (behind_front front now) ≡ true → is_live now ≡ true
live_before front now e = by_cases (is_live now) refl
  where
    by_cases : (b : Bool) → is_live now ≡ b → b ≡ true
    by_cases true f = refl
    by_cases false f = absurd (true≢false (sym e ∙ dead_behind front now f))

-- ---- the outcome of a run, from the sets behind the fronts

pub run_ends : (tokens : List Token) (now : List Left) → is_live (behind_front tokens now) ≡ true → run tokens now ≡ Ends (is_any_done (behind_front tokens now))
run_ends [] now e = refl
run_ends (t ∷ tokens) now e =
    step t tokens now (afters (class_of t.kind) now) refl (live_before tokens (afters (class_of t.kind) now) e) ∙ run_ends tokens (afters (class_of t.kind) now) e

pub run_stops : (front : List Token) (token : Token) (rest : List Token) (now : List Left) → is_live (behind_front front now) ≡ true
    → is_live (afters (class_of token.kind) (behind_front front now)) ≡ false
    → run (front ++ token ∷ rest) now ≡ Stops (rule_of (afters (class_of token.kind) (behind_front front now))) (suc (length rest))
run_stops [] token rest now e f = stop token rest now (afters (class_of token.kind) now) refl f
run_stops (t ∷ front) token rest now e f =
    step t (front ++ token ∷ rest) now (afters (class_of t.kind) now) refl (live_before front (afters (class_of t.kind) now) e)
    ∙ run_stops front token rest (afters (class_of t.kind) now) e f

-- ---- a run that stops, and one that ends where no file does, have a fault

behind_token : (front : List Token) (token : Token) → behind_front (front ++ token ∷ []) start ≡ afters (class_of token.kind) (behind_front front start)
behind_token front token = behind_front-append front (token ∷ []) start

fault_by : (file len : ℕ) (front : List Token) (token : Token) (rest : List Token) → Viable front → (left : List Left) → behind_front (front ++ token ∷ []) start ≡ left → is_live left ≡ false
    → IsFault file len (front ++ token ∷ rest) (record { rule = rule_of left; span = token.span })
fault_by file len front token rest v [] e dead = at_token front token rest v (λ w. subst Any e (freely_any (front ++ token ∷ []) w))
fault_by file len front token rest v (x ∷ left) e dead =
    too_deep front token rest v (λ w. true≢false (sym (viable_live (front ++ token ∷ []) w) ∙ ap is_live e ∙ dead))
    (any_freely (front ++ token ∷ []) (subst Any (sym e) (inl tt)))

pub fault_says : (file len : ℕ) (tokens : List Token) (rule : Rule) (left : ℕ) → Says tokens start (Stops rule left)
    → (front : List Token) × (token : Token) × (rest : List Token) × (tokens ≡ front ++ token ∷ rest) × (left ≡ suc (length rest))
    × IsFault file len tokens (record { rule = rule; span = token.span })
fault_says file len tokens rule left (front, token, rest, e, l, live, dead, r) = (
  front,
  token,
  rest,
  e,
  l,
  subst (λ z. IsFault file len tokens (record { rule = z; span = token.span })) (sym r)
      (subst (λ z. IsFault file len z (record { rule = rule_of (afters (class_of token.kind) (behind_front front start)); span = token.span })) (sym e)
      (fault_by file len front token rest (live_viable front live) (afters (class_of token.kind) (behind_front front start)) (behind_token front token) dead)),
)

-- a run that stops in front of a token: its fault is there
pub stops_fault : (file len : ℕ) (tokens : List Token) (rule : Rule) (left : ℕ) → run tokens start ≡ Stops rule left
    → (front : List Token) × (token : Token) × (rest : List Token) × (tokens ≡ front ++ token ∷ rest) × (left ≡ suc (length rest))
    × IsFault file len tokens (record { rule = rule; span = token.span })
stops_fault file len tokens rule left e = fault_says file len tokens rule left (subst (Says tokens start) e (run_says tokens start refl))

pub ends_viable : (tokens : List Token) (b : Bool) → run tokens start ≡ Ends b → Viable tokens × (b ≡ is_any_done (behind_front tokens start))
ends_viable tokens b e = let f : Says tokens start (Ends b) = subst (Says tokens start) e (run_says tokens start refl) in (live_viable tokens f.0, f.1)

-- a derivation of a file is a run to the end
pub derives_ends : (tokens : List Token) → Derives 0 FileItems 0 tokens [] → run tokens start ≡ Ends true
derives_ends tokens x = let f = file_done tokens x in run_ends tokens start f.0 ∙ ap Ends f.1

-- and a run to the end is one
pub ends_derives : (tokens : List Token) → run tokens start ≡ Ends true → Derives 0 FileItems 0 tokens []
ends_derives tokens e = done_file tokens (sym (ends_viable tokens true e).1)

abbrev stops_code : Outcome → Type 0
stops_code (Stops rule left) = Unit {0}
stops_code (Ends b) = ⊥

abbrev ends_with : Bool → Outcome → Bool
ends_with b (Stops rule left) = b
ends_with b (Ends c) = c

ends_same : (a b : Bool) → Ends a ≡ Ends b → a ≡ b
ends_same a b e = ap (ends_with a) e

pub ends_no_file : (tokens : List Token) → run tokens start ≡ Ends false → NoFile tokens
ends_no_file tokens e file x = true≢false (ends_same true false (sym (derives_ends tokens x.0) ∙ e))

pub ends_fault : (file len : ℕ) (tokens : List Token) → run tokens start ≡ Ends false → IsFault file len tokens (record { rule = Syntax; span = record { file = file; start = len; end = len } })
ends_fault file len tokens e = at_end (ends_viable tokens false e).0 (ends_no_file tokens e)

-- ---- a fault tells how a run comes out

abbrev Told : ℕ → ℕ → List Token → Fault → Type 0
Told file len tokens f =
    ((front : List Token) × (token : Token) × (rest : List Token) × (tokens ≡ front ++ token ∷ rest) × (f.span ≡ token.span) × (run tokens start ≡ Stops f.rule (suc (length rest))))
    ⊎ ((run tokens start ≡ Ends false) × (f ≡ record { rule = Syntax; span = record { file = file; start = len; end = len } }))

no_rule : (left : List Left) → (Any left → ⊥) → (is_live left ≡ false) × (rule_of left ≡ Syntax)
no_rule [] e = (refl, refl)
no_rule (x ∷ left) e = absurd (e (inl tt))

deep_rule : (left : List Left) → Any left → rule_of left ≡ TooDeep
deep_rule [] e = absurd e
deep_rule (x ∷ left) e = refl

told_syntax : (front : List Token) (token : Token) (rest : List Token) → Viable front → (FreelyViable (front ++ token ∷ []) → ⊥) → run (front ++ token ∷ rest) start ≡ Stops Syntax (suc (length rest))
told_syntax front token rest v n =
    let f = no_rule (afters (class_of token.kind) (behind_front front start)) (λ e. n (any_freely (front ++ token ∷ []) (subst Any (sym (behind_token front token)) e))) in
    run_stops front token rest start (viable_live front v) f.0 ∙ ap (λ z. Stops z (suc (length rest))) f.1

told_deep : (front : List Token) (token : Token) (rest : List Token) → Viable front → (Viable (front ++ token ∷ []) → ⊥) → FreelyViable (front ++ token ∷ [])
    → run (front ++ token ∷ rest) start ≡ Stops TooDeep (suc (length rest))
told_deep front token rest v n w =
    run_stops front token rest start (viable_live front v)
    (false_from_ne_true (is_live (afters (class_of token.kind) (behind_front front start))) (λ e. n (live_viable (front ++ token ∷ []) (ap is_live (behind_token front token) ∙ e))))
    ∙ ap (λ z. Stops z (suc (length rest))) (deep_rule (afters (class_of token.kind) (behind_front front start)) (subst Any (behind_token front token) (freely_any (front ++ token ∷ []) w)))

told_end : (tokens : List Token) → Viable tokens → NoFile tokens → run tokens start ≡ Ends false
told_end tokens v n =
    run_ends tokens start (viable_live tokens v)
    ∙ ap Ends (false_from_ne_true (is_any_done (behind_front tokens start)) (λ e. let x = done_file tokens e in n (record { items = tree x }) (x, refl)))

told : {file len : ℕ} {tokens : List Token} {f : Fault} → IsFault file len tokens f → Told file len tokens f
told (at_token front token rest v n) = inl (front, token, rest, refl, refl, told_syntax front token rest v n)
told (too_deep front token rest v n w) = inl (front, token, rest, refl, refl, told_deep front token rest v n w)
told (at_end {tokens} v n) = inr (told_end tokens v n, refl)

-- ---- the token in front of which so many are left is one

abbrev token_left : Token → List Token → ℕ → Token
token_left z [] n = z
token_left z (t ∷ s) n = cond (eqb (length s) n) t (token_left z s n)

not_left : (front : List Token) (t : Token) (rest : List Token) → length (front ++ t ∷ rest) ≡ length rest → ⊥
not_left front t rest e = let f : length (front ++ t ∷ rest) ≡ length front + length (t ∷ rest) = length-append front (t ∷ rest) in omega arith

token_left_is : (z : Token) (front : List Token) (t : Token) (rest : List Token) → token_left z (front ++ t ∷ rest) (length rest) ≡ t
token_left_is z [] t rest = ap (λ b. cond b t (token_left z rest (length rest))) (eq-eqb (length rest) (length rest) refl)
token_left_is z (x ∷ front) t rest =
    ap (λ b. cond b x (token_left z (front ++ t ∷ rest) (length rest))) (ne_eqb (length (front ++ t ∷ rest)) (length rest) (not_left front t rest)) ∙ token_left_is z front t rest

pub same_token : (front front' : List Token) (t t' : Token) (rest rest' : List Token) → front ++ t ∷ rest ≡ front' ++ t' ∷ rest' → length rest ≡ length rest' → t ≡ t'
same_token front front' t t' rest rest' e l =
    sym (token_left_is t front t rest) ∙ ap (λ z. token_left t z (length rest)) e ∙ ap (λ n. token_left t (front' ++ t' ∷ rest') n) l ∙ token_left_is t front' t' rest'

abbrev rule_or : Rule → Outcome → Rule
rule_or r (Stops rule left) = rule
rule_or r (Ends b) = r

abbrev left_or : ℕ → Outcome → ℕ
left_or n (Stops rule left) = left
left_or n (Ends b) = n

same_rule : (r r' : Rule) (n n' : ℕ) → Stops r n ≡ Stops r' n' → r ≡ r'
same_rule r r' n n' e = ap (rule_or r) e

same_left : (r r' : Rule) (n n' : ℕ) → Stops r (suc n) ≡ Stops r' (suc n') → n ≡ n'
same_left r r' n n' e = let f : suc n ≡ suc n' = ap (left_or (suc n)) e in omega arith

stops_not_ends : (r : Rule) (n : ℕ) (b : Bool) → Stops r n ≡ Ends b → ⊥
stops_not_ends r n b e = subst stops_code e tt

same_fault : (f g : Fault) → f.rule ≡ g.rule → f.span ≡ g.span → f ≡ g
same_fault f g r s = λ i. record { rule = r i; span = s i }

told_same : (file len : ℕ) (tokens : List Token) (f g : Fault) → Told file len tokens f → Told file len tokens g → f ≡ g
told_same file len tokens f g (inl (front, t, rest, e, s, o)) (inl (front', t', rest', e', s', o')) =
    same_fault f g (same_rule f.rule g.rule (suc (length rest)) (suc (length rest')) (sym o ∙ o'))
    (s ∙ ap (λ (z : Token). z.span) (same_token front front' t t' rest rest' (sym e ∙ e') (same_left f.rule g.rule (length rest) (length rest') (sym o ∙ o'))) ∙ sym s')
told_same file len tokens f g (inl (front, t, rest, e, s, o)) (inr (o', k)) = absurd (stops_not_ends f.rule (suc (length rest)) false (sym o ∙ o'))
told_same file len tokens f g (inr (o, k)) (inl (front', t', rest', e', s', o')) = absurd (stops_not_ends g.rule (suc (length rest')) false (sym o' ∙ o))
told_same file len tokens f g (inr (o, k)) (inr (o', k')) = k ∙ sym k'

told_no_file : (file len : ℕ) (tokens : List Token) (f : Fault) → run tokens start ≡ Ends true → Told file len tokens f → ⊥
told_no_file file len tokens f e (inl (front, t, rest, q, s, o)) = stops_not_ends f.rule (suc (length rest)) true (sym o ∙ e)
told_no_file file len tokens f e (inr (o, k)) = true≢false (ends_same true false (sym e ∙ o))

-- ---- one fault, and a tree or a fault

pub one_fault : (file len : ℕ) (tokens : List Token) (f g : Fault) → IsFault file len tokens f → IsFault file len tokens g → f ≡ g
one_fault file len tokens f g x y = told_same file len tokens f g (told x) (told y)

pub only_one : (file len : ℕ) (tokens : List Token) (tree : File) (f : Fault) → DerivesFile tokens tree → IsFault file len tokens f → ⊥
only_one file len tokens tree f x y = told_no_file file len tokens f (derives_ends tokens x.0) (told y)

pub tree_or_fault : (file len : ℕ) (tokens : List Token) → ((tree : File) × DerivesFile tokens tree) ⊎ ((f : Fault) × IsFault file len tokens f)
tree_or_fault file len tokens = by_outcome (run tokens start) refl
  where
    by_outcome : (o : Outcome) → run tokens start ≡ o → ((tree : File) × DerivesFile tokens tree) ⊎ ((f : Fault) × IsFault file len tokens f)
    by_outcome (Stops rule left) e = let w = stops_fault file len tokens rule left e in inr (record { rule = rule; span = w.1.span }, w.5)
    by_outcome (Ends true) e = let x = ends_derives tokens e in inl (record { items = tree x }, (x, refl))
    by_outcome (Ends false) e = inr (record { rule = Syntax; span = record { file = file; start = len; end = len } }, ends_fault file len tokens e)
