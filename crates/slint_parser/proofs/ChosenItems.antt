-- Which productions read the items of a body and its elements, and the lists of items.
use Rattle.std.proofs.Common.{◌≡◌, ℕ, true, cond, nat_le, map, drop, List, [], ◌∷◌, ◌++◌, sym, refl, ap, ◌∙◌, subst, append-nil, append_assoc}
use Rattle.std.proofs.lemmas.Bool.{false≢true}
use Rattle.std.specs.Prelude.{Result}
use Rattle.std.specs.Result.{IsErrAnd}
use Rattle.slint_base.specs.declared.faults.Span.{Span}
use Rattle.slint_base.specs.declared.endings.End.{End}
use Rattle.slint_lexer.specs.declared.tokens.Symbol.{Symbol}
use Rattle.slint_lexer.specs.declared.tokens.Symbol.TheVariants as symbols
use Rattle.slint_lexer.specs.declared.tokens.Token.{Token}
use Rattle.syntax_tree.specs.declared.expressions.Expr.{Expr}
use Rattle.syntax_tree.specs.declared.items.Element.{Element}
use Rattle.syntax_tree.specs.declared.items.Item.{Item}
use Rattle.syntax_tree.specs.declared.items.Item.TheVariants as items
use Rattle.slint_grammar.specs.declared.words.Word.TheVariants as words
use Rattle.slint_parser.specs.declared.stops.Stop.{Stop}
use Rattle.slint_parser.specs.declared.stops.Seen.TheVariants as seens
use Rattle.slint_grammar.specs.Parts as parts
use Rattle.slint_grammar.specs.Grammar.{Sign, AnyName, NameBut, Slot, one, same, deeper}
use Rattle.slint_grammar.specs.Grammar.{Alt as alts}
use Rattle.slint_grammar.specs.Made.{AllGiven}
use Rattle.slint_grammar.specs.Derivations.{Class, ASign, AWord, class_of, fits, deepest_token, Through, takes, trees}
use Rattle.slint_grammar.specs.Stacks.{Stack, Left, at_depth, onto, after, afters, run}
use Rattle.slint_parser.specs.Readings.{at, seen, seen_of, TookOne, StuckOne, Took, Stuck, TookAll, StuckAll, TookBy}
use Rattle.slint_parser.specs.Members.{MayName}
use Rattle.slint_parser.specs.Bodies.{guarded, ReadsGuarded}
use Rattle.slint_grammar.proofs.Steps.{Lost, by_what_stays}
use Rattle.slint_parser.proofs.Signs.{not_sign}
use Rattle.slint_parser.proofs.Joining.{by_error, Chosen, chosen_at, chosen_alone, chosen_second, chosen_took, chosen_stuck, took_by, end_all, and_one, at_one, at_same, no_alt, alike_at, seen_same, seen_not_end, Leads, leads_self, leads_as, leads_on, leads_by, leads_took, leads_stuck, front_same, front_last}
use Rattle.slint_parser.proofs.Forks.{tagged, fork}

-- ---- bodies, and the lists of their items

pub chosen_body : (d : ℕ) (s : List Token) → Chosen alts.body d s
chosen_body d s = chosen_alone alts.body d s refl refl (λ ps g. (tt, tt))

chosen_more : (d : ℕ) (s : List Token) → (seen s ≡ seens.Symbol symbols.CloseBrace → ⊥) → Chosen alts.items_more d s
chosen_more d s n =
    chosen_second alts.items_close alts.items_more d s refl refl (λ t r e. no_alt alts.items_close (Sign symbols.CloseBrace) (class_of t.kind) d refl (not_sign symbols.CloseBrace s n t r e)) (λ ps g. ((refl, tt), (tt, tt)))

chosen_close : (d : ℕ) (s : List Token) → seen s ≡ seens.Symbol symbols.CloseBrace → Chosen alts.items_close d s
chosen_close d s e = chosen_at alts.items_close d s (ASign symbols.CloseBrace) e (λ ps g. refl) (λ ps g. tt)

-- those so far are in front of those to come
abbrev pub ItemsSoFar : ℕ → List Token → List Token → List Item → Type 0
ItemsSoFar d s m all = Leads parts.Items d s parts.Items m (λ t. all ++ t)

pub items_begin : (d : ℕ) (s : List Token) → ItemsSoFar d s s []
items_begin d s = leads_self parts.Items d s

pub items_took : (d : ℕ) (s m r : List Token) (all : List Item) (end : Span) → ItemsSoFar d s m all → seen m ≡ seens.Symbol symbols.CloseBrace → TookOne (Sign symbols.CloseBrace) d m r end → Took parts.Items d s r all
items_took d s m r all end way e x =
    subst (λ (z : List Item). Took parts.Items d s r z) (append-nil all) (leads_took way (chosen_took (chosen_close d m e) (took_by alts.items_close (and_one x (end_all d r)))))

pub items_open : (d : ℕ) (s m : List Token) (all : List Item) (e : End Stop) → ItemsSoFar d s m all → seen m ≡ seens.Symbol symbols.CloseBrace → StuckOne (Sign symbols.CloseBrace) d m e → Stuck parts.Items d s e
items_open d s m all e way is x = leads_stuck way (chosen_stuck (chosen_close d m is) (at_one x))

pub items_next : (d : ℕ) (s m n : List Token) (all now : List Item) (item : Item) → ItemsSoFar d s m all → (seen m ≡ seens.Symbol symbols.CloseBrace → ⊥) → Took parts.Item d m n item → now ≡ all ++ item ∷ []
    → ItemsSoFar d s n now
items_next d s m n all now item way open_yet x is =
    subst (λ z. ItemsSoFar d s n z) (sym is)
    (leads_as (leads_on way (leads_by (chosen_more d m open_yet) (front_same x (front_last parts.Items d n)) (λ ps g. g))) (λ t. sym (append_assoc all (item ∷ []) t)))

pub items_no_item : (d : ℕ) (s m : List Token) (all : List Item) (e : End Stop) → ItemsSoFar d s m all → (seen m ≡ seens.Symbol symbols.CloseBrace → ⊥) → Stuck parts.Item d m e → Stuck parts.Items d s e
items_no_item d s m all e way open_yet x = leads_stuck way (chosen_stuck (chosen_more d m open_yet) (at_same x))

-- ---- items that begin with a name: what is left of them behind it

abbrev binding_stack : ℕ → Stack → Stack
binding_stack d ps = (one (Sign symbols.Colon), d) ∷ (same parts.Value, d) ∷ ps

abbrev link_stack : ℕ → Stack → Stack
link_stack d ps = (one (Sign symbols.TwoWay), d) ∷ (same parts.Path, d) ∷ (one (Sign symbols.Semicolon), d) ∷ ps

abbrev handler_stack : ℕ → Stack → Stack
handler_stack d ps = (same parts.MayNames, d) ∷ (one (Sign symbols.FatArrow), d) ∷ (same parts.Run, d) ∷ ps

abbrev element_stack : ℕ → Stack → Stack
element_stack d ps = (deeper parts.Body, d) ∷ ps

abbrev named_stack : ℕ → Stack → Stack
named_stack d ps = (one (Sign symbols.ColonEqual), d) ∷ (one AnyName, d) ∷ (deeper parts.Body, d) ∷ ps

-- what an item and its productions leave behind a name
abbrev Named : Class → Type 0
Named c = ((d : ℕ) (ps : Stack) → after c ((same parts.Item, d) ∷ ps) true
    ≡ tagged (nat_le d deepest_token) (binding_stack d ps ∷ link_stack d ps ∷ handler_stack d ps ∷ element_stack d ps ∷ named_stack d ps ∷ []))
    × ((d : ℕ) (ps : Stack) → after c ((same parts.Handler, d) ∷ ps) true ≡ tagged (nat_le d deepest_token) (handler_stack d ps ∷ []))
    × ((d : ℕ) (ps : Stack) → after c ((one (NameBut parts.item_words), d) ∷ ps) true ≡ tagged (nat_le d deepest_token) (ps ∷ []))

named : (c : Class) → fits (NameBut parts.item_words) c ≡ true → Named c
named (AWord words.Private) h = absurd (false≢true h)
named (AWord words.In) h = absurd (false≢true h)
named (AWord words.Out) h = absurd (false≢true h)
named (AWord words.InOut) h = absurd (false≢true h)
named (AWord words.Property) h = absurd (false≢true h)
named (AWord words.Callback) h = absurd (false≢true h)
named (AWord words.Pure) h = absurd (false≢true h)
named (AWord words.Public) h = absurd (false≢true h)
named (AWord words.Protected) h = absurd (false≢true h)
named (AWord words.Function) h = absurd (false≢true h)
named (AWord words.Changed) h = absurd (false≢true h)
named (AWord words.States) h = absurd (false≢true h)
named (AWord words.If) h = absurd (false≢true h)
named (AWord words.For) h = absurd (false≢true h)
named (AWord w) h = (λ d ps. refl, λ d ps. refl, λ d ps. refl)
named _ h = absurd (false≢true h)

-- ---- what the token behind the name leaves of them

lost_none : (s : List Token) → Lost s []
lost_none [] = refl
lost_none (t ∷ s) = refl

lost_at : (x : Symbol) (s : List Token) (ls : List Left) → seen s ≡ seens.Symbol x → afters (ASign x) ls ≡ [] → Lost s ls
lost_at x [] ls e k = absurd (seen_not_end (ASign x) e)
lost_at x (t ∷ s) ls e k = let P : Class → Type 0 = λ z. afters z ls ≡ [] in subst P (sym (seen_same (class_of t.kind) (ASign x) e)) k

module _ (d : ℕ) (ps : Stack) where
  lost_signs : (s : List Token) → (seen s ≡ seens.Symbol symbols.Colon → ⊥) → (seen s ≡ seens.Symbol symbols.TwoWay → ⊥) → Lost s (tagged true (binding_stack d ps ∷ link_stack d ps ∷ []))
  lost_signs [] n m = refl
  lost_signs (t ∷ s) n m = rw (not_sign symbols.Colon (t ∷ s) n t s refl, not_sign symbols.TwoWay (t ∷ s) m t s refl) refl

  lost_elements : (s : List Token) → (seen s ≡ seens.Symbol symbols.OpenBrace → ⊥) → (seen s ≡ seens.Symbol symbols.ColonEqual → ⊥) → Lost s (tagged true (element_stack d ps ∷ named_stack d ps ∷ []))
  lost_elements [] n m = refl
  lost_elements (t ∷ s) n m = rw (not_sign symbols.OpenBrace (t ∷ s) n t s refl, not_sign symbols.ColonEqual (t ∷ s) m t s refl) refl

  lost_named : (s : List Token) → (seen s ≡ seens.Symbol symbols.ColonEqual → ⊥) → Lost s (tagged true (named_stack d ps ∷ []))
  lost_named [] n = refl
  lost_named (t ∷ s) n = rw (not_sign symbols.ColonEqual (t ∷ s) n t s refl) refl

pub chosen_binding : (d : ℕ) (s : List Token) → MayName s → seen (drop 1 s) ≡ seens.Symbol symbols.Colon → Chosen alts.binding_item d s
chosen_binding d [] h e = absurd (seen_not_end (ASign symbols.Colon) e)
chosen_binding d (t ∷ s) h e = record {
  same_run = λ ps g. (let n = named (class_of t.kind) h in
      fork t s (class_of t.kind) ((same parts.Item, d) ∷ ps) ((one (NameBut parts.item_words), d) ∷ binding_stack d ps) (binding_stack d ps)
      [] (link_stack d ps ∷ handler_stack d ps ∷ element_stack d ps ∷ named_stack d ps ∷ []) (nat_le d deepest_token) refl (n.0 d ps) (n.2 d (binding_stack d ps)) (lost_none s)
      (lost_at symbols.Colon s (tagged true (link_stack d ps ∷ handler_stack d ps ∷ element_stack d ps ∷ named_stack d ps ∷ [])) e refl));
  fit = λ ps g. (g, tt);
}

pub chosen_link : (d : ℕ) (s : List Token) → MayName s → seen (drop 1 s) ≡ seens.Symbol symbols.TwoWay → Chosen alts.link_item d s
chosen_link d [] h e = absurd (seen_not_end (ASign symbols.TwoWay) e)
chosen_link d (t ∷ s) h e = record {
  same_run = λ ps g. (let n = named (class_of t.kind) h in
      fork t s (class_of t.kind) ((same parts.Item, d) ∷ ps) ((one (NameBut parts.item_words), d) ∷ link_stack d ps) (link_stack d ps)
      (binding_stack d ps ∷ []) (handler_stack d ps ∷ element_stack d ps ∷ named_stack d ps ∷ []) (nat_le d deepest_token) refl (n.0 d ps) (n.2 d (link_stack d ps))
      (lost_at symbols.TwoWay s (tagged true (binding_stack d ps ∷ [])) e refl)
      (lost_at symbols.TwoWay s (tagged true (handler_stack d ps ∷ element_stack d ps ∷ named_stack d ps ∷ [])) e refl));
  fit = λ ps g. ((refl, tt), tt);
}

pub chosen_element_item : (d : ℕ) (s : List Token) → MayName s → seen (drop 1 s) ≡ seens.Symbol symbols.OpenBrace → Chosen alts.element_item d s
chosen_element_item d [] h e = absurd (seen_not_end (ASign symbols.OpenBrace) e)
chosen_element_item d (t ∷ s) h e = record {
  same_run = λ ps g. (let n = named (class_of t.kind) h in
      fork t s (class_of t.kind) ((same parts.Item, d) ∷ ps) ((one (NameBut parts.item_words), d) ∷ element_stack d ps) (element_stack d ps)
      (binding_stack d ps ∷ link_stack d ps ∷ handler_stack d ps ∷ []) (named_stack d ps ∷ []) (nat_le d deepest_token) refl (n.0 d ps) (n.2 d (element_stack d ps))
      (lost_at symbols.OpenBrace s (tagged true (binding_stack d ps ∷ link_stack d ps ∷ handler_stack d ps ∷ [])) e refl)
      (lost_at symbols.OpenBrace s (tagged true (named_stack d ps ∷ [])) e refl));
  fit = λ ps g. (tt, tt);
}

pub chosen_named_item : (d : ℕ) (s : List Token) → MayName s → seen (drop 1 s) ≡ seens.Symbol symbols.ColonEqual → Chosen alts.named_element_item d s
chosen_named_item d [] h e = absurd (seen_not_end (ASign symbols.ColonEqual) e)
chosen_named_item d (t ∷ s) h e = record {
  same_run = λ ps g. (let n = named (class_of t.kind) h in
      fork t s (class_of t.kind) ((same parts.Item, d) ∷ ps) ((one (NameBut parts.item_words), d) ∷ named_stack d ps) (named_stack d ps)
      (binding_stack d ps ∷ link_stack d ps ∷ handler_stack d ps ∷ element_stack d ps ∷ []) [] (nat_le d deepest_token) refl (n.0 d ps) (n.2 d (named_stack d ps))
      (lost_at symbols.ColonEqual s (tagged true (binding_stack d ps ∷ link_stack d ps ∷ handler_stack d ps ∷ element_stack d ps ∷ [])) e refl) (lost_none s));
  fit = λ ps g. (tt, tt);
}

pub chosen_handler : (d : ℕ) (s : List Token) → MayName s → (seen (drop 1 s) ≡ seens.Symbol symbols.Colon → ⊥) → (seen (drop 1 s) ≡ seens.Symbol symbols.TwoWay → ⊥)
    → (seen (drop 1 s) ≡ seens.Symbol symbols.OpenBrace → ⊥) → (seen (drop 1 s) ≡ seens.Symbol symbols.ColonEqual → ⊥) → Chosen alts.handler_item d s
chosen_handler d [] h n m o k = record { same_run = λ ps g. refl; fit = λ ps g. (g, tt) }
chosen_handler d (t ∷ s) h n m o k = record {
  same_run = λ ps g. (let x = named (class_of t.kind) h in
      fork t s (class_of t.kind) ((same parts.Item, d) ∷ ps) ((same parts.Handler, d) ∷ ps) (handler_stack d ps)
      (binding_stack d ps ∷ link_stack d ps ∷ []) (element_stack d ps ∷ named_stack d ps ∷ []) (nat_le d deepest_token) refl (x.0 d ps) (x.1 d ps)
      (lost_signs d ps s n m) (lost_elements d ps s o k));
  fit = λ ps g. (g, tt);
}

-- ---- elements

-- at a token of this class
alike_by : (t : Token) (s : List Token) (c : Class) (a b : Stack) → class_of t.kind ≡ c → after c a true ≡ after c b true → run (t ∷ s) (at a) ≡ run (t ∷ s) (at b)
alike_by t s c a b k e = alike_at c (t ∷ s) (ap seen_of k) a b e

-- whether an element has a name, the token behind its first one tells
element_runs : (d : ℕ) (t : Token) (s : List Token) (c : Class) → class_of t.kind ≡ c → (seen s ≡ seens.Symbol symbols.ColonEqual → ⊥) → (ps : Stack)
    → run (t ∷ s) (at ((same parts.Element, d) ∷ ps)) ≡ run (t ∷ s) (at ((one AnyName, d) ∷ element_stack d ps))
element_runs d t s (AWord w) k n ps =
    fork t s (AWord w) ((same parts.Element, d) ∷ ps) ((one AnyName, d) ∷ element_stack d ps) (element_stack d ps) [] (named_stack d ps ∷ []) (nat_le d deepest_token) k refl refl (lost_none s) (lost_named d ps s n)
element_runs d t s _ k n ps = alike_by t s _ ((same parts.Element, d) ∷ ps) ((one AnyName, d) ∷ element_stack d ps) k refl

named_runs : (d : ℕ) (t : Token) (s : List Token) (c : Class) → class_of t.kind ≡ c → seen s ≡ seens.Symbol symbols.ColonEqual → (ps : Stack)
    → run (t ∷ s) (at ((same parts.Element, d) ∷ ps)) ≡ run (t ∷ s) (at ((one AnyName, d) ∷ named_stack d ps))
named_runs d t s (AWord w) k e ps =
    fork t s (AWord w) ((same parts.Element, d) ∷ ps) ((one AnyName, d) ∷ named_stack d ps) (named_stack d ps) (element_stack d ps ∷ []) [] (nat_le d deepest_token) k refl refl
    (lost_at symbols.ColonEqual s (tagged true (element_stack d ps ∷ [])) e refl) (lost_none s)
named_runs d t s _ k e ps = alike_by t s _ ((same parts.Element, d) ∷ ps) ((one AnyName, d) ∷ named_stack d ps) k refl

pub chosen_element : (d : ℕ) (s : List Token) → (seen (drop 1 s) ≡ seens.Symbol symbols.ColonEqual → ⊥) → Chosen alts.element d s
chosen_element d [] n = record { same_run = λ ps g. refl; fit = λ ps g. (tt, tt) }
chosen_element d (t ∷ s) n = record { same_run = λ ps g. element_runs d t s (class_of t.kind) refl n ps; fit = λ ps g. (tt, tt) }

pub chosen_named : (d : ℕ) (s : List Token) → seen (drop 1 s) ≡ seens.Symbol symbols.ColonEqual → Chosen alts.named_element d s
chosen_named d [] e = absurd (seen_not_end (ASign symbols.ColonEqual) e)
chosen_named d (t ∷ s) e = record { same_run = λ ps g. named_runs d t s (class_of t.kind) refl e ps; fit = λ ps g. (tt, tt) }

-- ---- an element at the head of an item, where its first name is no word

name_if_but : (c : Class) → fits (NameBut parts.item_words) c ≡ true → fits AnyName c ≡ true
name_if_but (AWord w) h = refl
name_if_but _ h = absurd (false≢true h)

but_fits : (s : List Token) (token : Token) (r : List Token) → s ≡ token ∷ r → MayName s → fits (NameBut parts.item_words) (class_of token.kind) ≡ true
but_fits s token r e may = subst MayName e may

but_runs : (d : ℕ) (s : List Token) (ps : Stack) → MayName s → run s (at ((one (NameBut parts.item_words), d) ∷ ps)) ≡ run s (at ((one AnyName, d) ∷ ps))
but_runs d [] ps may = refl
but_runs d (t ∷ s) ps may =
    by_what_stays t s (at ((one (NameBut parts.item_words), d) ∷ ps)) (at ((one AnyName, d) ∷ ps))
    (ap (λ z. (map (onto ps true) (cond z (([], nat_le d deepest_token) ∷ []) []) ++ []) ++ []) (may ∙ sym (name_if_but (class_of t.kind) may)))

abbrev but_through : {xs : List Slot} {d : ℕ} {s r : List Token} → MayName s → Through 0 (one AnyName ∷ xs) d s r → Through 0 (one (NameBut parts.item_words) ∷ xs) d s r
but_through may (takes {m = m} x y) = takes (record { token = x.token; front = x.front; fits_it = but_fits _ x.token m x.front may; within = x.within }) y

but_trees : {xs : List Slot} {d : ℕ} {s r : List Token} (may : MayName s) (x : Through 0 (one AnyName ∷ xs) d s r) → trees (but_through may x) ≡ trees x
but_trees may (takes x y) = refl

but_took : {xs : List Slot} {d : ℕ} {s r : List Token} {gs : AllGiven (one AnyName ∷ xs)} → MayName s → TookAll (one AnyName ∷ xs) d s r gs → TookAll (one (NameBut parts.item_words) ∷ xs) d s r gs
but_took {xs} {d} {s} may x = record { x = but_through may x.x; is = but_trees may x.x ∙ x.is; goes = λ ps f. but_runs d s (at_depth d xs ++ ps) may ∙ x.goes ps f }

pub but_stuck : {xs : List Slot} {d : ℕ} {s : List Token} {e : End Stop} → MayName s → StuckAll (one AnyName ∷ xs) d s e → StuckAll (one (NameBut parts.item_words) ∷ xs) d s e
but_stuck {xs} {d} {s} may x = record { stops = λ stop is ps f. but_runs d s (at_depth d xs ++ ps) may ∙ x.stops stop is ps f }

pub element_item_took : (d : ℕ) (s r : List Token) (element : Element) → MayName s → TookBy alts.element d s r element → TookBy alts.element_item d s r (items.Element element)
element_item_took d s r element may x = record { gs = x.gs; all = but_took may x.all; is = ap items.Element x.is }

pub named_item_took : (d : ℕ) (s r : List Token) (element : Element) → MayName s → TookBy alts.named_element d s r element → TookBy alts.named_element_item d s r (items.Element element)
named_item_took d s r element may x = record { gs = x.gs; all = but_took may x.all; is = ap items.Element x.is }

-- ---- where a `?` ends what reads a condition and its element

pub guarded_error : (d : ℕ) (s r : List Token) (e : End Stop) (result : Result (Expr × Element) (End Stop)) → IsErrAnd result (λ y. y ≡ e) → StuckAll guarded d s e → ReadsGuarded d s result r
guarded_error d s r e result h k = by_error (λ z. ReadsGuarded d s z r) e result h k
