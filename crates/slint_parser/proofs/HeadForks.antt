-- Which productions read the items of bodies and of globals, by what is at their heads.
use Rattle.std.proofs.Common.{◌≡◌, ℕ, ◌⊎◌, inl, inr, Bool, true, false, List, [], ◌∷◌, ◌++◌, nat_le, sym, refl, ap, ◌∙◌, subst}
use Rattle.slint_base.specs.declared.endings.End.{End}
use Rattle.slint_base.specs.declared.endings.End.TheVariants as endings
use Rattle.slint_base.specs.declared.rules.Rule.TheVariants.{Syntax}
use Rattle.slint_lexer.specs.declared.tokens.Symbol.TheVariants as symbols
use Rattle.slint_lexer.specs.declared.tokens.Token.{Token}
use Rattle.slint_grammar.specs.declared.words.Word.TheVariants as words
use Rattle.slint_parser.specs.declared.heads.ItemHead.{ItemHead}
use Rattle.slint_parser.specs.declared.heads.ItemHead.TheVariants as heads
use Rattle.slint_parser.specs.declared.stops.Stop.{Stop}
use Rattle.slint_parser.specs.declared.stops.Seen.{Seen}
use Rattle.slint_parser.specs.declared.stops.Seen.TheVariants as seens
use Rattle.slint_grammar.specs.Parts as parts
use Rattle.slint_grammar.specs.Grammar.{Sign, TheWord, AnyName, NameBut, one, same, deeper, symbol}
use Rattle.slint_grammar.specs.Grammar.{Alt as alts}
use Rattle.slint_grammar.specs.Derivations.{Class, ASign, AWord, class_of, fits, deepest_token}
use Rattle.slint_parser.specs.Readings.{at, outcome, seen, seen_of, stop_at, expr_classes, Stuck}
use Rattle.slint_parser.specs.Heads.{pure_head, head_of, head_at}
use Rattle.slint_parser.specs.Members.{MayName}
use Rattle.slint_grammar.specs.Stacks.{Stack, at_depth, after, afters, run}
use Rattle.slint_grammar.proofs.Steps.{by_what_stays, afters-only, step, stop, refused, Lost, lost_left}
use Rattle.slint_parser.proofs.Signs.{not_sign, not_word}
use Rattle.slint_parser.proofs.Joining.{Chosen, seen_same, chosen_first, chosen_here, no_alt, refuses_all}
use Rattle.slint_parser.proofs.Forks.{tagged, fork}
use Rattle.slint_parser.proofs.Picks.{lost_one}

-- ---- the number of a row

pub chosen_row_number : (d : ℕ) (s : List Token) → seen s ≡ seens.Symbol symbols.OpenBracket → Chosen alts.row_number d s
chosen_row_number d s e = chosen_here alts.row_number d s (ASign symbols.OpenBracket) e (λ ps g. g.0) refl (λ ps g. tt)

pub chosen_no_row_number : (d : ℕ) (s : List Token) → (seen s ≡ seens.Symbol symbols.OpenBracket → ⊥) → Chosen alts.no_row_number d s
chosen_no_row_number d s n =
    chosen_first alts.no_row_number alts.row_number d s refl refl (λ t r e. no_alt alts.row_number (Sign symbols.OpenBracket) (class_of t.kind) d refl (not_sign symbols.OpenBracket s n t r e)) (λ ps g. tt)

-- ---- what a head says

-- behind `pure`
pure_either : (b : Seen) → (pure_head b ≡ heads.Callback) ⊎ (pure_head b ≡ heads.Function)
pure_either (seens.Word words.Callback) = inl refl
pure_either _ = inr refl

pure_callback : (b : Seen) → pure_head b ≡ heads.Callback → b ≡ seens.Word words.Callback
pure_callback (seens.Word words.Callback) h = refl
pure_callback _ h = cc

pure_function : (b : Seen) → pure_head b ≡ heads.Function → b ≡ seens.Word words.Callback → ⊥
pure_function b h e = let k : heads.Callback ≡ heads.Function = sym (ap pure_head e) ∙ h in cc

pure_not : (b : Seen) (head : ItemHead) → (heads.Callback ≡ head → ⊥) → (heads.Function ≡ head → ⊥) → pure_head b ≡ head → ⊥
pure_not b head n m h = by_either (pure_either b)
  where
    by_either : (pure_head b ≡ heads.Callback) ⊎ (pure_head b ≡ heads.Function) → ⊥
    by_either (inl e) = n (sym e ∙ h)
    by_either (inr e) = m (sym e ∙ h)

-- two stacks that go on alike at a token of this class
alike_by : (t : Token) (s : List Token) (c : Class) (a b : Stack) → class_of t.kind ≡ c → after c a true ≡ after c b true → run (t ∷ s) (at a) ≡ run (t ∷ s) (at b)
alike_by t s c a b k e = by_what_stays t s (at a) (at b) (afters-only t c a k ∙ e ∙ sym (afters-only t c b k))

name_fits : (c : Class) (b : Seen) → head_of (seen_of c) b ≡ heads.Name → fits (NameBut parts.item_words) c ≡ true
name_fits (AWord words.As) b h = refl
name_fits (AWord words.Children) b h = refl
name_fits (AWord words.Component) b h = refl
name_fits (AWord words.Else) b h = refl
name_fits (AWord words.Enum) b h = refl
name_fits (AWord words.Export) b h = refl
name_fits (AWord words.From) b h = refl
name_fits (AWord words.Global) b h = refl
name_fits (AWord words.ImageUrl) b h = refl
name_fits (AWord words.Import) b h = refl
name_fits (AWord words.Inherits) b h = refl
name_fits (AWord words.Return) b h = refl
name_fits (AWord words.Struct) b h = refl
name_fits (AWord words.Tr) b h = refl
name_fits (AWord words.When) b h = refl
name_fits (AWord words.Other) b h = refl
name_fits (AWord words.Pure) b h = absurd (pure_not b heads.Name (λ e. cc) (λ e. cc) h)
name_fits _ b h = cc

-- a name that is no word at the head of an item
pub may_name : (s : List Token) → head_at s ≡ heads.Name → MayName s
may_name [] h = tt
may_name (t ∷ s) h = name_fits (class_of t.kind) (seen s) h

-- ---- behind `pure`

abbrev callback_stack : ℕ → Stack → Stack
callback_stack d ps = (one (TheWord words.Callback), d) ∷ (one AnyName, d) ∷ (same parts.CallbackEnd, d) ∷ ps

abbrev function_stack : ℕ → Stack → Stack
function_stack d ps = at_depth d (one (TheWord words.Function) ∷ one AnyName ∷ one (Sign symbols.OpenParen) ∷ same (parts.Listing parts.FunctionParameters) ∷ same parts.MayResult ∷ deeper parts.Block ∷ []) ++ ps

abbrev function_stacks : ℕ → Stack → List Stack
function_stacks d ps = function_stack d ps ∷ ((one (TheWord words.Public), d) ∷ function_stack d ps) ∷ ((one (TheWord words.Protected), d) ∷ function_stack d ps) ∷ []

functions_lost : (d : ℕ) (ps : Stack) (s : List Token) → seen s ≡ seens.Word words.Callback → Lost s (tagged true (function_stacks d ps))
functions_lost d ps [] e = refl
functions_lost d ps (t ∷ s) e = ap (λ z. afters z (tagged true (function_stacks d ps))) (seen_same (class_of t.kind) (AWord words.Callback) e)

-- the functions alone
functions_left : (t : Token) (s : List Token) (d : ℕ) (ps : Stack) (from only : Stack) (w : Bool) → class_of t.kind ≡ AWord words.Pure → after (AWord words.Pure) from true ≡ tagged w (callback_stack d ps ∷ function_stacks d ps)
    → after (AWord words.Pure) only true ≡ tagged w (function_stacks d ps) → (seen s ≡ seens.Word words.Callback → ⊥) → run (t ∷ s) (at from) ≡ run (t ∷ s) (at only)
functions_left t s d ps from only true k e f n =
    step t s (at from) (tagged true (callback_stack d ps ∷ function_stacks d ps)) (afters-only t (AWord words.Pure) from k ∙ e) refl
    ∙ lost_left s (tagged true (callback_stack d ps ∷ [])) (tagged true (function_stacks d ps)) (lost_one (TheWord words.Callback) d ((one AnyName, d) ∷ (same parts.CallbackEnd, d) ∷ ps) s (λ u r i. not_word words.Callback s n u r i))
    ∙ sym (step t s (at only) (tagged true (function_stacks d ps)) (afters-only t (AWord words.Pure) only k ∙ f) refl)
functions_left t s d ps from only false k e f n =
    stop t s (at from) (tagged false (callback_stack d ps ∷ function_stacks d ps)) (afters-only t (AWord words.Pure) from k ∙ e) refl
    ∙ sym (stop t s (at only) (tagged false (function_stacks d ps)) (afters-only t (AWord words.Pure) only k ∙ f) refl)

-- the callback alone
callback_left : (t : Token) (s : List Token) (d : ℕ) (ps : Stack) (from only : Stack) → class_of t.kind ≡ AWord words.Pure
    → after (AWord words.Pure) from true ≡ tagged (nat_le d deepest_token) (callback_stack d ps ∷ function_stacks d ps) → after (AWord words.Pure) only true ≡ tagged (nat_le d deepest_token) (callback_stack d ps ∷ [])
    → seen s ≡ seens.Word words.Callback → run (t ∷ s) (at from) ≡ run (t ∷ s) (at only)
callback_left t s d ps from only k e f is =
    fork t s (AWord words.Pure) from only (callback_stack d ps) [] (function_stacks d ps) (nat_le d deepest_token) k e f (lost_nothing s) (functions_lost d ps s is)
  where
    lost_nothing : (s : List Token) → Lost s (tagged true [])
    lost_nothing [] = refl
    lost_nothing (t ∷ s) = refl

-- ---- items of a body

item_property_alike : (c : Class) (b : Seen) (d : ℕ) (ps : Stack) → head_of (seen_of c) b ≡ heads.Property → after c ((same parts.Item, d) ∷ ps) true ≡ after c ((same parts.Property, d) ∷ ps) true
item_property_alike (AWord words.Private) b d ps h = refl
item_property_alike (AWord words.In) b d ps h = refl
item_property_alike (AWord words.Out) b d ps h = refl
item_property_alike (AWord words.InOut) b d ps h = refl
item_property_alike (AWord words.Property) b d ps h = refl
item_property_alike (AWord words.Pure) b d ps h = absurd (pure_not b heads.Property (λ e. cc) (λ e. cc) h)
item_property_alike _ b d ps h = cc

pub item_property : (d : ℕ) (s : List Token) → head_at s ≡ heads.Property → Chosen alts.property_item d s
item_property d [] h = cc
item_property d (t ∷ s) h = record {
  same_run = λ ps g. alike_by t s (class_of t.kind) ((same parts.Item, d) ∷ ps) ((same parts.Property, d) ∷ ps) refl (item_property_alike (class_of t.kind) (seen s) d ps h);
  fit = λ ps g. (g, tt);
}

item_callback_runs : (c : Class) (t : Token) (s : List Token) (d : ℕ) (ps : Stack) → class_of t.kind ≡ c → head_of (seen_of c) (seen s) ≡ heads.Callback → run (t ∷ s) (at ((same parts.Item, d) ∷ ps)) ≡ run (t ∷ s) (at ((same parts.Callback, d) ∷ ps))
item_callback_runs (AWord words.Callback) t s d ps k h = alike_by t s (AWord words.Callback) ((same parts.Item, d) ∷ ps) ((same parts.Callback, d) ∷ ps) k refl
item_callback_runs (AWord words.Pure) t s d ps k h = callback_left t s d ps ((same parts.Item, d) ∷ ps) ((same parts.Callback, d) ∷ ps) k refl refl (pure_callback (seen s) h)
item_callback_runs _ t s d ps k h = cc

pub item_callback : (d : ℕ) (s : List Token) → head_at s ≡ heads.Callback → Chosen alts.callback_item d s
item_callback d [] h = cc
item_callback d (t ∷ s) h = record { same_run = λ ps g. item_callback_runs (class_of t.kind) t s d ps refl h; fit = λ ps g. (tt, tt) }

item_function_runs : (c : Class) (t : Token) (s : List Token) (d : ℕ) (ps : Stack) → class_of t.kind ≡ c → head_of (seen_of c) (seen s) ≡ heads.Function → run (t ∷ s) (at ((same parts.Item, d) ∷ ps)) ≡ run (t ∷ s) (at ((same parts.Function, d) ∷ ps))
item_function_runs (AWord words.Public) t s d ps k h = alike_by t s (AWord words.Public) ((same parts.Item, d) ∷ ps) ((same parts.Function, d) ∷ ps) k refl
item_function_runs (AWord words.Protected) t s d ps k h = alike_by t s (AWord words.Protected) ((same parts.Item, d) ∷ ps) ((same parts.Function, d) ∷ ps) k refl
item_function_runs (AWord words.Function) t s d ps k h = alike_by t s (AWord words.Function) ((same parts.Item, d) ∷ ps) ((same parts.Function, d) ∷ ps) k refl
item_function_runs (AWord words.Pure) t s d ps k h = functions_left t s d ps ((same parts.Item, d) ∷ ps) ((same parts.Function, d) ∷ ps) (nat_le d deepest_token) k refl refl (pure_function (seen s) h)
item_function_runs _ t s d ps k h = cc

pub item_function : (d : ℕ) (s : List Token) → head_at s ≡ heads.Function → Chosen alts.function_item d s
item_function d [] h = cc
item_function d (t ∷ s) h = record { same_run = λ ps g. item_function_runs (class_of t.kind) t s d ps refl h; fit = λ ps g. (tt, tt) }

item_changed_alike : (c : Class) (b : Seen) (d : ℕ) (ps : Stack) → head_of (seen_of c) b ≡ heads.Changed → after c ((same parts.Item, d) ∷ ps) true ≡ after c (at_depth d (one (TheWord words.Changed) ∷ one AnyName ∷ symbol symbols.FatArrow ∷ same parts.Run ∷ []) ++ ps) true
item_changed_alike (AWord words.Changed) b d ps h = refl
item_changed_alike (AWord words.Pure) b d ps h = absurd (pure_not b heads.Changed (λ e. cc) (λ e. cc) h)
item_changed_alike _ b d ps h = cc

pub item_changed : (d : ℕ) (s : List Token) → head_at s ≡ heads.Changed → Chosen alts.changed_item d s
item_changed d [] h = cc
item_changed d (t ∷ s) h = record {
  same_run = λ ps g. alike_by t s (class_of t.kind) ((same parts.Item, d) ∷ ps) (at_depth d (one (TheWord words.Changed) ∷ one AnyName ∷ symbol symbols.FatArrow ∷ same parts.Run ∷ []) ++ ps) refl (item_changed_alike (class_of t.kind) (seen s) d ps h);
  fit = λ ps g. (g, tt);
}

item_states_alike : (c : Class) (b : Seen) (d : ℕ) (ps : Stack) → head_of (seen_of c) b ≡ heads.States → after c ((same parts.Item, d) ∷ ps) true ≡ after c (at_depth d (one (TheWord words.States) ∷ symbol symbols.OpenBracket ∷ same parts.StateList ∷ []) ++ ps) true
item_states_alike (AWord words.States) b d ps h = refl
item_states_alike (AWord words.Pure) b d ps h = absurd (pure_not b heads.States (λ e. cc) (λ e. cc) h)
item_states_alike _ b d ps h = cc

pub item_states : (d : ℕ) (s : List Token) → head_at s ≡ heads.States → Chosen alts.states_item d s
item_states d [] h = cc
item_states d (t ∷ s) h = record {
  same_run = λ ps g. alike_by t s (class_of t.kind) ((same parts.Item, d) ∷ ps) (at_depth d (one (TheWord words.States) ∷ symbol symbols.OpenBracket ∷ same parts.StateList ∷ []) ++ ps) refl (item_states_alike (class_of t.kind) (seen s) d ps h);
  fit = λ ps g. (tt, tt);
}

item_if_alike : (c : Class) (b : Seen) (d : ℕ) (ps : Stack) → head_of (seen_of c) b ≡ heads.If → after c ((same parts.Item, d) ∷ ps) true ≡ after c (at_depth d (one (TheWord words.If) ∷ deeper (parts.Expr parts.Anywhere) ∷ symbol symbols.Colon ∷ same parts.Element ∷ []) ++ ps) true
item_if_alike (AWord words.If) b d ps h = refl
item_if_alike (AWord words.Pure) b d ps h = absurd (pure_not b heads.If (λ e. cc) (λ e. cc) h)
item_if_alike _ b d ps h = cc

pub item_if : (d : ℕ) (s : List Token) → head_at s ≡ heads.If → Chosen alts.if_item d s
item_if d [] h = cc
item_if d (t ∷ s) h = record {
  same_run = λ ps g. alike_by t s (class_of t.kind) ((same parts.Item, d) ∷ ps) (at_depth d (one (TheWord words.If) ∷ deeper (parts.Expr parts.Anywhere) ∷ symbol symbols.Colon ∷ same parts.Element ∷ []) ++ ps) refl (item_if_alike (class_of t.kind) (seen s) d ps h);
  fit = λ ps g. (refuses_all expr_classes (at_depth d (symbol symbols.Colon ∷ same parts.Element ∷ []) ++ ps) refl, (tt, tt));
}

item_for_alike : (c : Class) (b : Seen) (d : ℕ) (ps : Stack) → head_of (seen_of c) b ≡ heads.For → after c ((same parts.Item, d) ∷ ps) true ≡ after c (at_depth d (one (TheWord words.For) ∷ one AnyName ∷ same parts.RowNumber ∷ one (TheWord words.In) ∷ deeper (parts.Expr parts.Anywhere) ∷ symbol symbols.Colon ∷ same parts.Element ∷ []) ++ ps) true
item_for_alike (AWord words.For) b d ps h = refl
item_for_alike (AWord words.Pure) b d ps h = absurd (pure_not b heads.For (λ e. cc) (λ e. cc) h)
item_for_alike _ b d ps h = cc

pub item_for : (d : ℕ) (s : List Token) → head_at s ≡ heads.For → Chosen alts.for_item d s
item_for d [] h = cc
item_for d (t ∷ s) h = record {
  same_run = λ ps g. alike_by t s (class_of t.kind) ((same parts.Item, d) ∷ ps) (at_depth d (one (TheWord words.For) ∷ one AnyName ∷ same parts.RowNumber ∷ one (TheWord words.In) ∷ deeper (parts.Expr parts.Anywhere) ∷ symbol symbols.Colon ∷ same parts.Element ∷ []) ++ ps) refl (item_for_alike (class_of t.kind) (seen s) d ps h);
  fit = λ ps g. ((refl, tt), (refuses_all expr_classes (at_depth d (symbol symbols.Colon ∷ same parts.Element ∷ []) ++ ps) refl, (tt, tt)));
}

-- no name, with which only one item can begin
item_nameless_alike : (c : Class) (b : Seen) (d : ℕ) (ps : Stack) → head_of (seen_of c) b ≡ heads.Nameless → after c ((same parts.Item, d) ∷ ps) true ≡ after c ((one (Sign symbols.At), d) ∷ (one (TheWord words.Children), d) ∷ ps) true
item_nameless_alike (AWord words.Pure) b d ps h = absurd (pure_not b heads.Nameless (λ e. cc) (λ e. cc) h)
item_nameless_alike (AWord _) b d ps h = cc
item_nameless_alike (ASign symbols.At) b d ps h = refl
item_nameless_alike _ b d ps h = refl

pub item_nameless : (d : ℕ) (s : List Token) → head_at s ≡ heads.Nameless → Chosen alts.children_item d s
item_nameless d [] h = record { same_run = λ ps g. refl; fit = λ ps g. tt }
item_nameless d (t ∷ s) h = record {
  same_run = λ ps g. alike_by t s (class_of t.kind) ((same parts.Item, d) ∷ ps) ((one (Sign symbols.At), d) ∷ (one (TheWord words.Children), d) ∷ ps) refl (item_nameless_alike (class_of t.kind) (seen s) d ps h);
  fit = λ ps g. tt;
}

-- ---- items of a global

global_property_alike : (c : Class) (b : Seen) (d : ℕ) (ps : Stack) → head_of (seen_of c) b ≡ heads.Property → after c ((same parts.GlobalItem, d) ∷ ps) true ≡ after c ((same parts.Property, d) ∷ ps) true
global_property_alike (AWord words.Private) b d ps h = refl
global_property_alike (AWord words.In) b d ps h = refl
global_property_alike (AWord words.Out) b d ps h = refl
global_property_alike (AWord words.InOut) b d ps h = refl
global_property_alike (AWord words.Property) b d ps h = refl
global_property_alike (AWord words.Pure) b d ps h = absurd (pure_not b heads.Property (λ e. cc) (λ e. cc) h)
global_property_alike _ b d ps h = cc

pub global_property : (d : ℕ) (s : List Token) → head_at s ≡ heads.Property → Chosen alts.global_property d s
global_property d [] h = cc
global_property d (t ∷ s) h = record {
  same_run = λ ps g. alike_by t s (class_of t.kind) ((same parts.GlobalItem, d) ∷ ps) ((same parts.Property, d) ∷ ps) refl (global_property_alike (class_of t.kind) (seen s) d ps h);
  fit = λ ps g. (g, tt);
}

global_callback_runs : (c : Class) (t : Token) (s : List Token) (d : ℕ) (ps : Stack) → class_of t.kind ≡ c → head_of (seen_of c) (seen s) ≡ heads.Callback → run (t ∷ s) (at ((same parts.GlobalItem, d) ∷ ps)) ≡ run (t ∷ s) (at ((same parts.Callback, d) ∷ ps))
global_callback_runs (AWord words.Callback) t s d ps k h = alike_by t s (AWord words.Callback) ((same parts.GlobalItem, d) ∷ ps) ((same parts.Callback, d) ∷ ps) k refl
global_callback_runs (AWord words.Pure) t s d ps k h = callback_left t s d ps ((same parts.GlobalItem, d) ∷ ps) ((same parts.Callback, d) ∷ ps) k refl refl (pure_callback (seen s) h)
global_callback_runs _ t s d ps k h = cc

pub global_callback : (d : ℕ) (s : List Token) → head_at s ≡ heads.Callback → Chosen alts.global_callback d s
global_callback d [] h = cc
global_callback d (t ∷ s) h = record { same_run = λ ps g. global_callback_runs (class_of t.kind) t s d ps refl h; fit = λ ps g. (tt, tt) }

global_function_runs : (c : Class) (t : Token) (s : List Token) (d : ℕ) (ps : Stack) → class_of t.kind ≡ c → head_of (seen_of c) (seen s) ≡ heads.Function → run (t ∷ s) (at ((same parts.GlobalItem, d) ∷ ps)) ≡ run (t ∷ s) (at ((same parts.Function, d) ∷ ps))
global_function_runs (AWord words.Public) t s d ps k h = alike_by t s (AWord words.Public) ((same parts.GlobalItem, d) ∷ ps) ((same parts.Function, d) ∷ ps) k refl
global_function_runs (AWord words.Protected) t s d ps k h = alike_by t s (AWord words.Protected) ((same parts.GlobalItem, d) ∷ ps) ((same parts.Function, d) ∷ ps) k refl
global_function_runs (AWord words.Function) t s d ps k h = alike_by t s (AWord words.Function) ((same parts.GlobalItem, d) ∷ ps) ((same parts.Function, d) ∷ ps) k refl
global_function_runs (AWord words.Pure) t s d ps k h = functions_left t s d ps ((same parts.GlobalItem, d) ∷ ps) ((same parts.Function, d) ∷ ps) (nat_le d deepest_token) k refl refl (pure_function (seen s) h)
global_function_runs _ t s d ps k h = cc

pub global_function : (d : ℕ) (s : List Token) → head_at s ≡ heads.Function → Chosen alts.global_function d s
global_function d [] h = cc
global_function d (t ∷ s) h = record { same_run = λ ps g. global_function_runs (class_of t.kind) t s d ps refl h; fit = λ ps g. (tt, tt) }

global_handler_alike : (c : Class) (b : Seen) (d : ℕ) (ps : Stack) → head_of (seen_of c) b ≡ heads.Name → after c ((same parts.GlobalItem, d) ∷ ps) true ≡ after c ((same parts.Handler, d) ∷ ps) true
global_handler_alike (AWord words.As) b d ps h = refl
global_handler_alike (AWord words.Children) b d ps h = refl
global_handler_alike (AWord words.Component) b d ps h = refl
global_handler_alike (AWord words.Else) b d ps h = refl
global_handler_alike (AWord words.Enum) b d ps h = refl
global_handler_alike (AWord words.Export) b d ps h = refl
global_handler_alike (AWord words.From) b d ps h = refl
global_handler_alike (AWord words.Global) b d ps h = refl
global_handler_alike (AWord words.ImageUrl) b d ps h = refl
global_handler_alike (AWord words.Import) b d ps h = refl
global_handler_alike (AWord words.Inherits) b d ps h = refl
global_handler_alike (AWord words.Return) b d ps h = refl
global_handler_alike (AWord words.Struct) b d ps h = refl
global_handler_alike (AWord words.Tr) b d ps h = refl
global_handler_alike (AWord words.When) b d ps h = refl
global_handler_alike (AWord words.Other) b d ps h = refl
global_handler_alike (AWord words.Pure) b d ps h = absurd (pure_not b heads.Name (λ e. cc) (λ e. cc) h)
global_handler_alike _ b d ps h = cc

pub global_handler : (d : ℕ) (s : List Token) → head_at s ≡ heads.Name → Chosen alts.global_handler d s
global_handler d [] h = cc
global_handler d (t ∷ s) h = record {
  same_run = λ ps g. alike_by t s (class_of t.kind) ((same parts.GlobalItem, d) ∷ ps) ((same parts.Handler, d) ∷ ps) refl (global_handler_alike (class_of t.kind) (seen s) d ps h);
  fit = λ ps g. (g, tt);
}

-- a head that begins none of them
abbrev NoGlobal : ItemHead → Type 0
NoGlobal heads.Property = ⊥
NoGlobal heads.Callback = ⊥
NoGlobal heads.Function = ⊥
NoGlobal heads.Name = ⊥
NoGlobal _ = Unit {0}

pure_global : (b : Seen) → NoGlobal (pure_head b) → ⊥
pure_global (seens.Word words.Callback) h = h
pure_global _ h = h

global_none : (c : Class) (b : Seen) (d : ℕ) (ps : Stack) → NoGlobal (head_of (seen_of c) b) → after c ((same parts.GlobalItem, d) ∷ ps) true ≡ []
global_none (AWord words.As) b d ps h = absurd h
global_none (AWord words.Children) b d ps h = absurd h
global_none (AWord words.Component) b d ps h = absurd h
global_none (AWord words.Else) b d ps h = absurd h
global_none (AWord words.Enum) b d ps h = absurd h
global_none (AWord words.Export) b d ps h = absurd h
global_none (AWord words.From) b d ps h = absurd h
global_none (AWord words.Global) b d ps h = absurd h
global_none (AWord words.ImageUrl) b d ps h = absurd h
global_none (AWord words.Import) b d ps h = absurd h
global_none (AWord words.Inherits) b d ps h = absurd h
global_none (AWord words.Return) b d ps h = absurd h
global_none (AWord words.Struct) b d ps h = absurd h
global_none (AWord words.Tr) b d ps h = absurd h
global_none (AWord words.When) b d ps h = absurd h
global_none (AWord words.Other) b d ps h = absurd h
global_none (AWord words.Private) b d ps h = absurd h
global_none (AWord words.In) b d ps h = absurd h
global_none (AWord words.Out) b d ps h = absurd h
global_none (AWord words.InOut) b d ps h = absurd h
global_none (AWord words.Property) b d ps h = absurd h
global_none (AWord words.Public) b d ps h = absurd h
global_none (AWord words.Protected) b d ps h = absurd h
global_none (AWord words.Function) b d ps h = absurd h
global_none (AWord words.Callback) b d ps h = absurd h
global_none (AWord words.Pure) b d ps h = absurd (pure_global b h)
global_none _ b d ps h = refl

global_stops : (d : ℕ) (s : List Token) → NoGlobal (head_at s) → (stop : Stop) → stop_at Syntax s ≡ stop → (ps : Stack) → run s (at ((same parts.GlobalItem, d) ∷ ps)) ≡ outcome stop
global_stops d [] h stop is ps = ap outcome is
global_stops d (t ∷ s) h stop is ps = refused t s (class_of t.kind) ((same parts.GlobalItem, d) ∷ ps) refl (global_none (class_of t.kind) (seen s) d ps h) ∙ ap outcome is

no_global_head : (h : ItemHead) → (h ≡ heads.Changed) ⊎ (h ≡ heads.States) ⊎ (h ≡ heads.If) ⊎ (h ≡ heads.For) ⊎ (h ≡ heads.Nameless) → NoGlobal h
no_global_head h (inl e) = subst NoGlobal (sym e) tt
no_global_head h (inr (inl e)) = subst NoGlobal (sym e) tt
no_global_head h (inr (inr (inl e))) = subst NoGlobal (sym e) tt
no_global_head h (inr (inr (inr (inl e)))) = subst NoGlobal (sym e) tt
no_global_head h (inr (inr (inr (inr e)))) = subst NoGlobal (sym e) tt

pub no_global : (d : ℕ) (s : List Token) (e : End Stop) (h : ItemHead) → h ≡ head_at s → (h ≡ heads.Changed) ⊎ (h ≡ heads.States) ⊎ (h ≡ heads.If) ⊎ (h ≡ heads.For) ⊎ (h ≡ heads.Nameless)
    → e ≡ endings.Fault (stop_at Syntax s) → Stuck parts.GlobalItem d s e
no_global d s e h i o is = record { stops = λ stop f ps g. let k : stop_at Syntax s ≡ stop = same_fault (sym is ∙ f) in global_stops d s (subst NoGlobal i (no_global_head h o)) stop k ps }
  where
    same_fault : {a b : Stop} → endings.Fault a ≡ endings.Fault b → a ≡ b
    same_fault e = cc
