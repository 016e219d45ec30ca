-- Which productions read states and what they change, and the lists of them.
use Rattle.std.proofs.Common.{◌≡◌, ℕ, List, [], ◌∷◌, ◌++◌, sym, refl, subst, append-nil, append_assoc}
use Rattle.slint_base.specs.declared.faults.Span.{Span}
use Rattle.slint_base.specs.declared.endings.End.{End}
use Rattle.slint_lexer.specs.declared.tokens.Symbol.TheVariants as symbols
use Rattle.slint_lexer.specs.declared.tokens.Token.{Token}
use Rattle.syntax_tree.specs.declared.words.Path.{Path}
use Rattle.syntax_tree.specs.declared.statements.Value.{Value}
use Rattle.syntax_tree.specs.declared.items.Change.{Change}
use Rattle.syntax_tree.specs.declared.items.State.{State}
use Rattle.slint_grammar.specs.declared.words.Word.TheVariants as words
use Rattle.slint_parser.specs.declared.stops.Stop.{Stop}
use Rattle.slint_parser.specs.declared.stops.Seen.TheVariants as seens
use Rattle.slint_grammar.specs.Parts as parts
use Rattle.slint_grammar.specs.Grammar.{Sign, TheWord, symbol, same}
use Rattle.slint_grammar.specs.Grammar.{Alt as alts}
use Rattle.slint_grammar.specs.Derivations.{ASign, AWord, class_of}
use Rattle.slint_parser.specs.Readings.{seen, goes_on, TookOne, StuckOne, Took, Stuck}
use Rattle.slint_grammar.specs.Stacks.{at_depth}
use Rattle.slint_parser.proofs.Signs.{not_sign, not_word}
use Rattle.slint_parser.proofs.Joining.{Chosen, chosen_at, chosen_alone, chosen_first, chosen_second, chosen_here, chosen_took, chosen_stuck, took_by, end_all, and_one, at_one, at_same, past_one, past_same, no_alt, refuses_all, Leads, leads_self, leads_as, leads_on, leads_by, leads_took, leads_stuck, front_one, front_same, front_last}

pub chosen_state : (d : ℕ) (s : List Token) → Chosen alts.state d s
chosen_state d s =
    chosen_alone alts.state d s refl refl (λ ps g. (refuses_all (goes_on parts.When) (at_depth d (symbol symbols.Colon ∷ symbol symbols.OpenBrace ∷ same parts.Changes ∷ []) ++ ps) refl, (tt, tt)))

pub chosen_when : (d : ℕ) (s : List Token) → seen s ≡ seens.Word words.When → Chosen alts.when d s
chosen_when d s e = chosen_here alts.when d s (AWord words.When) e (λ ps g. g.0) refl (λ ps g. (g.1, tt))

pub chosen_no_when : (d : ℕ) (s : List Token) → (seen s ≡ seens.Word words.When → ⊥) → Chosen alts.no_when d s
chosen_no_when d s n =
    chosen_first alts.no_when alts.when d s refl refl (λ t r e. no_alt alts.when (TheWord words.When) (class_of t.kind) d refl (not_word words.When s n t r e)) (λ ps g. tt)

-- ---- states

chosen_states_more : (d : ℕ) (s : List Token) → (seen s ≡ seens.Symbol symbols.CloseBracket → ⊥) → Chosen alts.states_more d s
chosen_states_more d s n =
    chosen_second alts.states_close alts.states_more d s refl refl (λ t r e. no_alt alts.states_close (Sign symbols.CloseBracket) (class_of t.kind) d refl (not_sign symbols.CloseBracket s n t r e)) (λ ps g. (tt, (tt, tt)))

chosen_states_close : (d : ℕ) (s : List Token) → seen s ≡ seens.Symbol symbols.CloseBracket → Chosen alts.states_close d s
chosen_states_close d s e = chosen_at alts.states_close d s (ASign symbols.CloseBracket) e (λ ps g. refl) (λ ps g. tt)

-- those so far are in front of those to come
abbrev pub States : ℕ → List Token → List Token → List State → Type 0
States d s m all = Leads parts.StateList d s parts.StateList m (λ t. all ++ t)

pub states_begin : (d : ℕ) (s : List Token) → States d s s []
states_begin d s = leads_self parts.StateList d s

pub states_took : (d : ℕ) (s m r : List Token) (all : List State) (end : Span) → States d s m all → seen m ≡ seens.Symbol symbols.CloseBracket → TookOne (Sign symbols.CloseBracket) d m r end → Took parts.StateList d s r all
states_took d s m r all end way e x =
    subst (λ (z : List State). Took parts.StateList d s r z) (append-nil all) (leads_took way (chosen_took (chosen_states_close d m e) (took_by alts.states_close (and_one x (end_all d r)))))

pub states_open : (d : ℕ) (s m : List Token) (all : List State) (e : End Stop) → States d s m all → seen m ≡ seens.Symbol symbols.CloseBracket → StuckOne (Sign symbols.CloseBracket) d m e → Stuck parts.StateList d s e
states_open d s m all e way is x = leads_stuck way (chosen_stuck (chosen_states_close d m is) (at_one x))

pub states_next : (d : ℕ) (s m n : List Token) (all now : List State) (one : State) → States d s m all → (seen m ≡ seens.Symbol symbols.CloseBracket → ⊥) → Took parts.State d m n one → now ≡ all ++ one ∷ []
    → States d s n now
states_next d s m n all now one way open_yet x is =
    subst (λ z. States d s n z) (sym is)
    (leads_as (leads_on way (leads_by (chosen_states_more d m open_yet) (front_same x (front_last parts.StateList d n)) (λ ps g. g))) (λ t. sym (append_assoc all (one ∷ []) t)))

pub states_no_state : (d : ℕ) (s m : List Token) (all : List State) (e : End Stop) → States d s m all → (seen m ≡ seens.Symbol symbols.CloseBracket → ⊥) → Stuck parts.State d m e → Stuck parts.StateList d s e
states_no_state d s m all e way open_yet x = leads_stuck way (chosen_stuck (chosen_states_more d m open_yet) (at_same x))

-- ---- changes

chosen_changes_more : (d : ℕ) (s : List Token) → (seen s ≡ seens.Symbol symbols.CloseBrace → ⊥) → Chosen alts.changes_more d s
chosen_changes_more d s n =
    chosen_second alts.changes_close alts.changes_more d s refl refl (λ t r e. no_alt alts.changes_close (Sign symbols.CloseBrace) (class_of t.kind) d refl (not_sign symbols.CloseBrace s n t r e)) (λ ps g. ((refl, tt), ((refl, tt), (tt, tt))))

chosen_changes_close : (d : ℕ) (s : List Token) → seen s ≡ seens.Symbol symbols.CloseBrace → Chosen alts.changes_close d s
chosen_changes_close d s e = chosen_at alts.changes_close d s (ASign symbols.CloseBrace) e (λ ps g. refl) (λ ps g. tt)

-- those so far are in front of those to come
abbrev pub Changes : ℕ → List Token → List Token → List Change → Type 0
Changes d s m all = Leads parts.Changes d s parts.Changes m (λ t. all ++ t)

pub changes_begin : (d : ℕ) (s : List Token) → Changes d s s []
changes_begin d s = leads_self parts.Changes d s

pub changes_took : (d : ℕ) (s m r : List Token) (all : List Change) (end : Span) → Changes d s m all → seen m ≡ seens.Symbol symbols.CloseBrace → TookOne (Sign symbols.CloseBrace) d m r end → Took parts.Changes d s r all
changes_took d s m r all end way e x =
    subst (λ (z : List Change). Took parts.Changes d s r z) (append-nil all) (leads_took way (chosen_took (chosen_changes_close d m e) (took_by alts.changes_close (and_one x (end_all d r)))))

pub changes_open : (d : ℕ) (s m : List Token) (all : List Change) (e : End Stop) → Changes d s m all → seen m ≡ seens.Symbol symbols.CloseBrace → StuckOne (Sign symbols.CloseBrace) d m e → Stuck parts.Changes d s e
changes_open d s m all e way is x = leads_stuck way (chosen_stuck (chosen_changes_close d m is) (at_one x))

pub changes_next : (d : ℕ) (s m n k o : List Token) (all now : List Change) (path : Path) (colon : Span) (value : Value) (end : Span) → Changes d s m all → (seen m ≡ seens.Symbol symbols.CloseBrace → ⊥)
    → Took parts.Path d m n path → TookOne (Sign symbols.Colon) d n k colon → Took parts.Value d k o (value, end) → now ≡ all ++ record { path = path; value = value } ∷ [] → Changes d s o now
changes_next d s m n k o all now path colon value end way open_yet x y z is =
    subst (λ z. Changes d s o z) (sym is)
    (leads_as (leads_on way (leads_by (chosen_changes_more d m open_yet) (front_same x (front_one y (front_same z (front_last parts.Changes d o)))) (λ ps g. g)))
    (λ t. sym (append_assoc all (record { path = path; value = value } ∷ []) t)))

pub changes_no_path : (d : ℕ) (s m : List Token) (all : List Change) (e : End Stop) → Changes d s m all → (seen m ≡ seens.Symbol symbols.CloseBrace → ⊥) → Stuck parts.Path d m e → Stuck parts.Changes d s e
changes_no_path d s m all e way open_yet x = leads_stuck way (chosen_stuck (chosen_changes_more d m open_yet) (at_same x))

pub changes_no_colon : (d : ℕ) (s m n : List Token) (all : List Change) (path : Path) (e : End Stop) → Changes d s m all → (seen m ≡ seens.Symbol symbols.CloseBrace → ⊥) → Took parts.Path d m n path
    → StuckOne (Sign symbols.Colon) d n e → Stuck parts.Changes d s e
changes_no_colon d s m n all path e way open_yet x y = leads_stuck way (chosen_stuck (chosen_changes_more d m open_yet) (past_same x (at_one y)))

pub changes_no_value : (d : ℕ) (s m n k : List Token) (all : List Change) (path : Path) (colon : Span) (e : End Stop) → Changes d s m all → (seen m ≡ seens.Symbol symbols.CloseBrace → ⊥) → Took parts.Path d m n path
    → TookOne (Sign symbols.Colon) d n k colon → Stuck parts.Value d k e → Stuck parts.Changes d s e
changes_no_value d s m n k all path colon e way open_yet x y z = leads_stuck way (chosen_stuck (chosen_changes_more d m open_yet) (past_same x (past_one y (at_same z))))
