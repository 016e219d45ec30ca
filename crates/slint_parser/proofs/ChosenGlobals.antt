-- Which productions read the items of globals, and the lists of them.
use Rattle.std.proofs.Common.{◌≡◌, ℕ, List, [], ◌∷◌, ◌++◌, sym, refl, subst, ◌∙◌, append-nil, append_assoc}
use Rattle.std.specs.Prelude.{Result, Ok, Err}
use Rattle.slint_base.specs.declared.faults.Span.{Span}
use Rattle.slint_base.specs.declared.endings.End.{End}
use Rattle.slint_lexer.specs.declared.tokens.Symbol.TheVariants as symbols
use Rattle.slint_lexer.specs.declared.tokens.Token.{Token}
use Rattle.syntax_tree.specs.declared.items.Item.{Item}
use Rattle.slint_parser.specs.declared.stops.Stop.{Stop}
use Rattle.slint_parser.specs.declared.stops.Seen.TheVariants as seens
use Rattle.slint_grammar.specs.Parts as parts
use Rattle.slint_grammar.specs.Grammar.{Sign, slots}
use Rattle.slint_grammar.specs.Grammar.{Alt as alts}
use Rattle.slint_grammar.specs.Made.{AllGiven, made}
use Rattle.slint_grammar.specs.Derivations.{ASign, class_of}
use Rattle.slint_parser.specs.Readings.{seen, TookOne, StuckOne, Took, Stuck, ReadsBy}
use Rattle.slint_parser.proofs.Signs.{not_sign}
use Rattle.slint_parser.proofs.Joining.{Chosen, chosen_at, chosen_alone, chosen_second, chosen_took, chosen_stuck, took_by, end_all, and_one, at_one, at_same, no_alt, Leads, leads_self, leads_as, leads_on, leads_by, leads_took, leads_stuck, front_same, front_last}

pub chosen_global_body : (d : ℕ) (s : List Token) → Chosen alts.global_body d s
chosen_global_body d s = chosen_alone alts.global_body d s refl refl (λ ps g. (tt, tt))

-- ---- what an item of a body is as an item of a global

property_made : (gs : AllGiven (slots alts.property_item)) → made alts.global_property gs ≡ made alts.property_item gs
property_made (a, end) = refl

callback_made : (gs : AllGiven (slots alts.callback_item)) → made alts.global_callback gs ≡ made alts.callback_item gs
callback_made (a, end) = refl

function_made : (gs : AllGiven (slots alts.function_item)) → made alts.global_function gs ≡ made alts.function_item gs
function_made (a, end) = refl

handler_made : (gs : AllGiven (slots alts.handler_item)) → made alts.global_handler gs ≡ made alts.handler_item gs
handler_made (a, end) = refl

pub property_by : (d : ℕ) (s r : List Token) (result : Result Item (End Stop)) → ReadsBy alts.property_item d s result r → ReadsBy alts.global_property d s result r
property_by d s r (Ok t) x = record { gs = x.gs; all = x.all; is = property_made x.gs ∙ x.is }
property_by d s r (Err e) x = x

pub callback_by : (d : ℕ) (s r : List Token) (result : Result Item (End Stop)) → ReadsBy alts.callback_item d s result r → ReadsBy alts.global_callback d s result r
callback_by d s r (Ok t) x = record { gs = x.gs; all = x.all; is = callback_made x.gs ∙ x.is }
callback_by d s r (Err e) x = x

pub function_by : (d : ℕ) (s r : List Token) (result : Result Item (End Stop)) → ReadsBy alts.function_item d s result r → ReadsBy alts.global_function d s result r
function_by d s r (Ok t) x = record { gs = x.gs; all = x.all; is = function_made x.gs ∙ x.is }
function_by d s r (Err e) x = x

pub handler_by : (d : ℕ) (s r : List Token) (result : Result Item (End Stop)) → ReadsBy alts.handler_item d s result r → ReadsBy alts.global_handler d s result r
handler_by d s r (Ok t) x = record { gs = x.gs; all = x.all; is = handler_made x.gs ∙ x.is }
handler_by d s r (Err e) x = x

-- ---- lists of items

chosen_global_more : (d : ℕ) (s : List Token) → (seen s ≡ seens.Symbol symbols.CloseBrace → ⊥) → Chosen alts.global_more d s
chosen_global_more d s n =
    chosen_second alts.global_closes alts.global_more d s refl refl (λ t r e. no_alt alts.global_closes (Sign symbols.CloseBrace) (class_of t.kind) d refl (not_sign symbols.CloseBrace s n t r e)) (λ ps g. ((refl, tt), (tt, tt)))

chosen_global_closes : (d : ℕ) (s : List Token) → seen s ≡ seens.Symbol symbols.CloseBrace → Chosen alts.global_closes d s
chosen_global_closes d s e = chosen_at alts.global_closes d s (ASign symbols.CloseBrace) e (λ ps g. refl) (λ ps g. tt)

-- those so far are in front of those to come
abbrev pub Globals : ℕ → List Token → List Token → List Item → Type 0
Globals d s m all = Leads parts.GlobalItems d s parts.GlobalItems m (λ t. all ++ t)

pub globals_begin : (d : ℕ) (s : List Token) → Globals d s s []
globals_begin d s = leads_self parts.GlobalItems d s

pub globals_took : (d : ℕ) (s m r : List Token) (all : List Item) (end : Span) → Globals d s m all → seen m ≡ seens.Symbol symbols.CloseBrace → TookOne (Sign symbols.CloseBrace) d m r end → Took parts.GlobalItems d s r all
globals_took d s m r all end way e x =
    subst (λ (z : List Item). Took parts.GlobalItems d s r z) (append-nil all) (leads_took way (chosen_took (chosen_global_closes d m e) (took_by alts.global_closes (and_one x (end_all d r)))))

pub globals_open : (d : ℕ) (s m : List Token) (all : List Item) (e : End Stop) → Globals d s m all → seen m ≡ seens.Symbol symbols.CloseBrace → StuckOne (Sign symbols.CloseBrace) d m e → Stuck parts.GlobalItems d s e
globals_open d s m all e way is x = leads_stuck way (chosen_stuck (chosen_global_closes d m is) (at_one x))

pub globals_next : (d : ℕ) (s m n : List Token) (all now : List Item) (one : Item) → Globals d s m all → (seen m ≡ seens.Symbol symbols.CloseBrace → ⊥) → Took parts.GlobalItem d m n one → now ≡ all ++ one ∷ []
    → Globals d s n now
globals_next d s m n all now one way open_yet x is =
    subst (λ z. Globals d s n z) (sym is)
    (leads_as (leads_on way (leads_by (chosen_global_more d m open_yet) (front_same x (front_last parts.GlobalItems d n)) (λ ps g. g))) (λ t. sym (append_assoc all (one ∷ []) t)))

pub globals_no_global_item : (d : ℕ) (s m : List Token) (all : List Item) (e : End Stop) → Globals d s m all → (seen m ≡ seens.Symbol symbols.CloseBrace → ⊥) → Stuck parts.GlobalItem d m e → Stuck parts.GlobalItems d s e
globals_no_global_item d s m all e way open_yet x = leads_stuck way (chosen_stuck (chosen_global_more d m open_yet) (at_same x))
