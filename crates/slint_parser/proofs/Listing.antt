-- Lists with commas between: what their loops keep, and how each turn goes on.
use Rattle.std.proofs.Common.{◌≡◌, ℕ, ◌+◌, true, false, ◌&&◌, List, [], ◌∷◌, ◌++◌, sym, refl, ap, ◌∙◌, subst, append-nil, append_assoc}
use Rattle.std.specs.Prelude.{Option, Some, None, Ok, Err}
use Rattle.slint_base.specs.declared.faults.Span.{Span}
use Rattle.slint_base.specs.declared.endings.End.{End}
use Rattle.slint_lexer.specs.declared.tokens.Symbol.{Symbol}
use Rattle.slint_lexer.specs.declared.tokens.Symbol.TheVariants as symbols
use Rattle.slint_lexer.specs.declared.tokens.Token.{Token}
use Rattle.slint_parser.specs.declared.stops.Stop.{Stop}
use Rattle.slint_parser.specs.declared.stops.Seen.TheVariants as seens
use Rattle.slint_grammar.specs.Parts.{Listed, closer, Listing, Rest, Aliases, Fields, EnumValues, Parameters, FunctionParameters, HandlerParameters, Arguments, Elements, FieldValues}
use Rattle.slint_grammar.specs.Grammar.{Sign, Slot, one, same, deeper, item}
use Rattle.slint_grammar.specs.Grammar.{Alt as alts}
use Rattle.slint_grammar.specs.Made.{Given, AllGiven, ItemTree, item_tree}
use Rattle.slint_grammar.specs.Derivations.{class_of}
use Rattle.slint_parser.specs.Readings.{Fits, seen, TookOne, StuckOne, Took, Stuck, TookAll, StuckAll, Closes, BehindItem}
use Rattle.slint_grammar.specs.Stacks.{Stack}
use Rattle.slint_grammar.proofs.Tables.{all_nullable, item_takes_a_token}
use Rattle.slint_parser.proofs.Signs.{not_sign, took_sign_seen}
use Rattle.slint_parser.proofs.Lists.{listing_closes, rest_comma}
use Rattle.slint_parser.proofs.Joining.{Chosen, chosen_second, no_lead, took_by, chosen_took, chosen_stuck, end_all, and_one, and_same, and_deep, at_one, at_same, at_deep, past_one, past_same, past_deep}

-- ---- what is read at a place

abbrev pub TookPlace : (x : Slot) → ℕ → List Token → List Token → Given x → Type 0
TookPlace (one t) d s r h = TookOne t d s r h
TookPlace (same p) d s r h = Took p d s r h
TookPlace (deeper p) d s r h = Took p (d + 1) s r h

abbrev pub StuckPlace : (x : Slot) → ℕ → List Token → End Stop → Type 0
StuckPlace (one t) d s e = StuckOne t d s e
StuckPlace (same p) d s e = Stuck p d s e
StuckPlace (deeper p) d s e = Stuck p (d + 1) s e

pub and_place : (x : Slot) {xs : List Slot} (d : ℕ) {s m r : List Token} (h : Given x) {gs : AllGiven xs} → TookPlace x d s m h → TookAll xs d m r gs → TookAll (x ∷ xs) d s r (h, gs)
and_place (one t) d h x y = and_one x y
and_place (same p) d h x y = and_same x y
and_place (deeper p) d h x y = and_deep d x y

pub at_place : (x : Slot) (xs : List Slot) (d : ℕ) {s : List Token} {e : End Stop} → StuckPlace x d s e → StuckAll (x ∷ xs) d s e
at_place (one t) xs d x = at_one x
at_place (same p) xs d x = at_same x
at_place (deeper p) xs d x = at_deep d x

pub past_place : (x : Slot) {xs : List Slot} (d : ℕ) {s m : List Token} (h : Given x) {e : End Stop} → TookPlace x d s m h → StuckAll xs d m e → StuckAll (x ∷ xs) d s e
past_place (one t) d h x y = past_one x y
past_place (same p) d h x y = past_same x y
past_place (deeper p) d h x y = past_deep d x y

-- ---- which production reads a list

abbrev NotClosed : (l : Listed) → List Token → Type 0
NotClosed l s = seen s ≡ seens.Symbol (closer l) → ⊥

item_fits : (l : Listed) (d : ℕ) (ps : Stack) → Fits d (item l ∷ same (Rest l) ∷ []) ps
item_fits Aliases d ps = ((refl, tt), (tt, tt))
item_fits Fields d ps = (tt, (tt, tt))
item_fits EnumValues d ps = (tt, (tt, tt))
item_fits Parameters d ps = ((refl, tt), (tt, tt))
item_fits FunctionParameters d ps = (tt, (tt, tt))
item_fits HandlerParameters d ps = (tt, (tt, tt))
item_fits Arguments d ps = ((refl, (refl, (refl, (refl, (refl, (refl, (refl, (refl, (refl, (refl, (refl, (refl, (refl, (refl, (refl, (refl, tt)))))))))))))))), (tt, tt))
item_fits Elements d ps = ((refl, (refl, (refl, (refl, (refl, (refl, (refl, (refl, (refl, (refl, (refl, (refl, (refl, (refl, (refl, (refl, tt)))))))))))))))), (tt, tt))
item_fits FieldValues d ps = ((refl, (refl, (refl, (refl, (refl, (refl, (refl, (refl, (refl, (refl, (refl, (refl, (refl, (refl, (refl, (refl, tt)))))))))))))))), (tt, tt))

no_token : (l : Listed) → false ≡ all_nullable (item l ∷ same (Rest l) ∷ [])
no_token l = ap (λ z. z && (false && true)) (sym (item_takes_a_token l))

pub chosen_item : (l : Listed) (d : ℕ) (s : List Token) → NotClosed l s → Chosen (alts.listing_item {l = l}) d s
chosen_item l d s n =
    chosen_second (alts.listing_closes {l = l}) (alts.listing_item {l = l}) d s refl (no_token l) (λ t r e. no_lead (class_of t.kind) (Sign (closer l)) [] d (not_sign (closer l) s n t r e)) (λ ps f. item_fits l d ps)

-- ---- what a loop keeps: the items so far, and a list that goes on from here as the one from the start

pub record BegunList (l : Listed) (d : ℕ) (start s : List Token) (all : List (ItemTree l)) : Type 0 where
  pub took : (r : List Token) (rest : List (ItemTree l)) (end : Span) → Took (Listing l) d s r (rest, end) → Took (Listing l) d start r (all ++ rest, end)
  pub stuck : (e : End Stop) → Stuck (Listing l) d s e → Stuck (Listing l) d start e

-- the same behind an item
pub record BegunRest (l : Listed) (d : ℕ) (start s : List Token) (all : List (ItemTree l)) : Type 0 where
  pub took : (r : List Token) (rest : List (ItemTree l)) (end : Span) → Took (Rest l) d s r (rest, end) → Took (Listing l) d start r (all ++ rest, end)
  pub stuck : (e : End Stop) → Stuck (Rest l) d s e → Stuck (Listing l) d start e

pub begun : (l : Listed) (d : ℕ) (s : List Token) → BegunList l d s s []
begun l d s = record { took = λ r rest end x. x; stuck = λ e x. x }

without_more : (l : Listed) (d : ℕ) (start r : List Token) (all : List (ItemTree l)) (end : Span) → Took (Listing l) d start r (all ++ [], end) → Took (Listing l) d start r (all, end)
without_more l d start r all end x = subst (λ (z : List (ItemTree l)). Took (Listing l) d start r (z, end)) (append-nil all) x

-- an item
one_more : (l : Listed) (d : ℕ) (start r : List Token) (all rest : List (ItemTree l)) (h : ItemTree l) (end : Span) → Took (Listing l) d start r (all ++ h ∷ rest, end)
    → Took (Listing l) d start r ((all ++ h ∷ []) ++ rest, end)
one_more l d start r all rest h end x = subst (λ (z : List (ItemTree l)). Took (Listing l) d start r (z, end)) (sym (append_assoc all (h ∷ []) rest)) x

pub with_item : (l : Listed) (d : ℕ) (start s m : List Token) (all : List (ItemTree l)) (h : Given (item l)) → BegunList l d start s all → NotClosed l s → TookPlace (item l) d s m h
    → BegunRest l d start m (all ++ item_tree l h ∷ [])
with_item l d start s m all h g n x = record {
  took = λ r rest end y. one_more l d start r all rest (item_tree l h) end
      (g.took r (item_tree l h ∷ rest) end (chosen_took (chosen_item l d s n) (took_by (alts.listing_item {l = l}) (and_place (item l) d h x (and_same y (end_all d r))))));
  stuck = λ e y. g.stuck e (chosen_stuck (chosen_item l d s n) (past_place (item l) d h x (at_same y)));
}

pub no_item : (l : Listed) (d : ℕ) (start s : List Token) (all : List (ItemTree l)) (e : End Stop) → BegunList l d start s all → NotClosed l s → StuckPlace (item l) d s e
    → Stuck (Listing l) d start e
no_item l d start s all e g n x = g.stuck e (chosen_stuck (chosen_item l d s n) (at_place (item l) (same (Rest l) ∷ []) d x))

-- a comma behind an item
pub with_comma : (l : Listed) (d : ℕ) (start s m : List Token) (all : List (ItemTree l)) (h : Span) → BegunRest l d start s all → NotClosed l s → TookOne (Sign symbols.Comma) d s m h
    → BegunList l d start m all
with_comma l d start s m all h g n x = record {
  took = λ r rest end y. g.took r rest end (chosen_took (rest_comma l d s n) (took_by (alts.rest_comma {l = l}) (and_one x (and_same y (end_all d r)))));
  stuck = λ e y. g.stuck e (chosen_stuck (rest_comma l d s n) (past_one x (at_same y)));
}

pub no_comma : (l : Listed) (d : ℕ) (start s : List Token) (all : List (ItemTree l)) (e : End Stop) → BegunRest l d start s all → NotClosed l s → StuckOne (Sign symbols.Comma) d s e
    → Stuck (Listing l) d start e
no_comma l d start s all e g n x = g.stuck e (chosen_stuck (rest_comma l d s n) (at_one x))

-- ---- a loop's exits, for a list that this symbol closes

-- the closing symbol alone
pub none_closed : (l : Listed) (closing : Symbol) (d : ℕ) (s r : List Token) (o : Option Span) (end : Span) → closer l ≡ closing → o ≡ Some end → Closes closing d s (Ok o) r
    → Took (Listing l) d s r ([], end)
none_closed l closing d s r o end k e x =
    let P : Option Span → Type 0 = λ z. Closes closing d s (Ok z) r in
    let y = subst P e x in
    let Q : Symbol → Type 0 = λ z. TookOne (Sign z) d s r end in
    let w = subst Q (sym k) y in
    chosen_took (listing_closes l d s (took_sign_seen (closer l) d s r end w)) (took_by (alts.listing_closes {l = l}) (and_one w (end_all d r)))

pub none_error : (l : Listed) (closing : Symbol) (d : ℕ) (s : List Token) (e : End Stop) → closer l ≡ closing → StuckOne (Sign closing) d s e × (seen s ≡ seens.Symbol closing) → Stuck (Listing l) d s e
none_error l closing d s e k x =
    let Q : Symbol → Type 0 = λ z. StuckOne (Sign z) d s e × (seen s ≡ seens.Symbol z) in
    let w = subst Q (sym k) x in
    chosen_stuck (listing_closes l d s w.1) (at_one w.0)

-- no closing symbol: the first item follows
pub still_open : (closing : Symbol) (d : ℕ) (s r : List Token) (o : Option Span) → ((end : Span) → o ≡ Some end → ⊥) → Closes closing d s (Ok o) r → seen r ≡ seens.Symbol closing → ⊥
still_open closing d s r (Some end) none x = absurd (none end refl)
still_open closing d s r None none x = let P : List Token → Type 0 = λ z. seen z ≡ seens.Symbol closing → ⊥ in subst P (sym x.0) x.1

pub some_begun : (l : Listed) (closing : Symbol) (d : ℕ) (s r : List Token) (o : Option Span) → closer l ≡ closing → ((end : Span) → o ≡ Some end → ⊥) → Closes closing d s (Ok o) r → BegunList l d s r []
some_begun l closing d s r (Some end) k none x = absurd (none end refl)
some_begun l closing d s r None k none x = let P : List Token → Type 0 = λ z. BegunList l d s z [] in subst P (sym x.0) (begun l d s)

-- an item that is none
pub item_error : (l : Listed) (closing : Symbol) (d : ℕ) (start s : List Token) (all : List (ItemTree l)) (e : End Stop) → closer l ≡ closing → BegunList l d start s all
    → (seen s ≡ seens.Symbol closing → ⊥) → StuckPlace (item l) d s e → Stuck (Listing l) d start e
item_error l closing d start s all e k g n x = no_item l d start s all e g (λ h. n (h ∙ ap seens.Symbol k)) x

-- an item, and what is behind it
pub last_item : (l : Listed) (closing : Symbol) (d : ℕ) (start s m r : List Token) (all now : List (ItemTree l)) (h : Given (item l)) (o : Option Span) (end : Span) → closer l ≡ closing
    → BegunList l d start s all → (seen s ≡ seens.Symbol closing → ⊥) → TookPlace (item l) d s m h → now ≡ all ++ item_tree l h ∷ [] → o ≡ Some end → BehindItem closing d m (Ok o) r
    → Took (Listing l) d start r (now, end)
last_item l closing d start s m r all now h o end k g n x a e y =
    let P : Option Span → Type 0 = λ z. BehindItem closing d m (Ok z) r in
    let Q : List (ItemTree l) → Type 0 = λ z. Took (Listing l) d start r (z, end) in
    subst Q (sym a) (without_more l d start r (all ++ item_tree l h ∷ []) end
    ((with_item l d start s m all h g (λ w. n (w ∙ ap seens.Symbol k)) x).took r [] end (subst P e y l k)))

pub behind_error : (l : Listed) (closing : Symbol) (d : ℕ) (start s m r : List Token) (all : List (ItemTree l)) (h : Given (item l)) (e : End Stop) → closer l ≡ closing
    → BegunList l d start s all → (seen s ≡ seens.Symbol closing → ⊥) → TookPlace (item l) d s m h → BehindItem closing d m (Err e) r → Stuck (Listing l) d start e
behind_error l closing d start s m r all h e k g n x y = (with_item l d start s m all h g (λ w. n (w ∙ ap seens.Symbol k)) x).stuck e (y l k)

-- an item that another one follows
abbrev pub After : Symbol → ℕ → List Token → List Token → Type 0
After closing d m r = (seen m ≡ seens.Symbol closing → ⊥) × (seen r ≡ seens.Symbol closing → ⊥) × ((span : Span) × TookOne (Sign symbols.Comma) d m r span)

pub another : (closing : Symbol) (d : ℕ) (m r : List Token) (o : Option Span) → ((end : Span) → o ≡ Some end → ⊥) → BehindItem closing d m (Ok o) r → After closing d m r
another closing d m r (Some end) none y = absurd (none end refl)
another closing d m r None none y = y

pub next_item : (l : Listed) (closing : Symbol) (d : ℕ) (start s m r : List Token) (all now : List (ItemTree l)) (h : Given (item l)) → closer l ≡ closing
    → BegunList l d start s all → (seen s ≡ seens.Symbol closing → ⊥) → TookPlace (item l) d s m h → now ≡ all ++ item_tree l h ∷ [] → After closing d m r → BegunList l d start r now
next_item l closing d start s m r all now h k g n x a y =
    let Q : List (ItemTree l) → Type 0 = λ z. BegunList l d start r z in
    subst Q (sym a) (with_comma l d start m r (all ++ item_tree l h ∷ []) y.2.0 (with_item l d start s m all h g (λ w. n (w ∙ ap seens.Symbol k)) x) (λ w. y.0 (w ∙ ap seens.Symbol k)) y.2.1)
