-- Expressions without an operator: which production is chosen where, and what their loops read.
use Rattle.std.proofs.Common.{◌≡◌, ℕ, Bool, true, false, List, [], ◌∷◌, ◌++◌, ◌+◌, ◌&&◌, ◌⊎◌, inl, inr, cond, map, nat_le, sym, refl, ap, ◌∙◌, append_assoc, append-nil, subst}
use Rattle.slint_base.specs.declared.faults.Span.{Span}
use Rattle.slint_base.specs.declared.endings.End.{End}
use Rattle.slint_lexer.specs.declared.tokens.Token.{Token}
use Rattle.syntax_tree.specs.declared.expressions.Expr.{Expr}
use Rattle.syntax_tree.specs.declared.expressions.Suffix.{Suffix}
use Rattle.std.specs.Prelude.{Option, Some, None, Result, Ok, Err}
use Rattle.std.specs.Result.{IsErrAnd}
use Rattle.std.proofs.lemmas.Bool.{and_from, false≢true}
use Rattle.slint_base.specs.declared.endings.End.TheVariants as endings
use Rattle.slint_lexer.specs.declared.tokens.Symbol.{Symbol}
use Rattle.slint_lexer.specs.declared.tokens.Symbol.TheVariants as symbols
use Rattle.syntax_tree.specs.declared.expressions.Expr.TheVariants as exprs
use Rattle.syntax_tree.specs.declared.expressions.FieldValue.{FieldValue}
use Rattle.syntax_tree.specs.declared.expressions.Hole.{Hole}
use Rattle.syntax_tree.specs.declared.words.Quoted.{Quoted}
use Rattle.syntax_tree.specs.declared.expressions.Suffix.TheVariants as suffixes
use Rattle.slint_parser.specs.declared.stops.Stop.{Stop}
use Rattle.slint_parser.specs.declared.stops.Seen.TheVariants as seens
use Rattle.slint_grammar.specs.Trees.{join, hole}
use Rattle.slint_grammar.specs.Made.{Tree}
use Rattle.slint_grammar.specs.Stacks.{Stack, each_alt, first, longest_chain, through, alts_of, onto, after, run}
use Rattle.slint_grammar.specs.declared.words.Word.{Word}
use Rattle.syntax_tree.specs.declared.words.Ident.{Ident}
use Rattle.slint_grammar.specs.Parts as p
use Rattle.slint_grammar.specs.Parts.{Start, Part, Listed, closer, may_be_empty, words_at}
use Rattle.slint_parser.proofs.Signs.{not_sign, mid_agrees}
use Rattle.slint_parser.proofs.Lists.{rest_comma, closes_none}
use Rattle.slint_parser.proofs.Listing.{another}
use Rattle.slint_grammar.specs.Grammar.{Alt, slots, one, Sign, SignWhere, AnyName, NameBut, AMid, ATail, AHead, symbol, same}
use Rattle.slint_grammar.specs.Grammar.{Alt as alts}
use Rattle.slint_grammar.specs.Derivations.{Class, ASign, AWord, MidClass, class_of, deepest_token, is_sign, fits}
use Rattle.slint_parser.specs.Readings.{seen, TookOne, StuckOne, Took, Stuck, TookBy, Reads, ReadsBy, Begun, ReadsMay, Absent, suffix_classes, expr_classes, Closes, BehindItem, MoreArguments, MoreElements, MoreFieldValues, HolesFrom, shows_name_but, at}
use Rattle.slint_parser.proofs.Joining.{Chosen, alike, by_error, by_alts, no_alt, chosen_at, chosen_second, took_as, and_one, and_same, and_deep, at_one, at_deep, past_one, past_same, past_deep, refuses_all, no_memory, front_one, front_deep, chosen_alone, chosen_first, chosen_here, chosen_took, chosen_stuck, took_by, end_all, at_same, no_alt_part, Leads, leads_self, leads_as, leads_on, leads_by, leads_took, leads_stuck, front_same, front_last}

pub chosen_post : (h : Start) (d : ℕ) (s : List Token) → Chosen (alts.post {h = h}) d s
chosen_post h d s = chosen_alone (alts.post {h = h}) d s refl refl (λ ps g. (tt, (g, tt)))

-- ---- parts that may be there

pub may_some : (q : Part) (cs : List Class) (d : ℕ) (s r : List Token) (o : Option (Tree q)) (t : Tree q) → o ≡ Some t → ReadsMay q cs d s (Ok o) r → Begun cs s × Took q d s r t
may_some q cs d s r o t e x = let P : Option (Tree q) → Type 0 = λ z. ReadsMay q cs d s (Ok z) r in subst P e x

pub may_none : (q : Part) (cs : List Class) (d : ℕ) (s r : List Token) (o : Option (Tree q)) → ((t : Tree q) → o ≡ Some t → ⊥) → ReadsMay q cs d s (Ok o) r → (r ≡ s) × Absent q d s
may_none q cs d s r (Some t) unlike x = absurd (unlike t refl)
may_none q cs d s r None unlike x = x

pub may_error : (q : Part) (cs : List Class) (d : ℕ) (s r : List Token) (e : End Stop) (result : Result (Option (Tree q)) (End Stop)) → IsErrAnd result (λ y. y ≡ e) → Begun cs s × Stuck q d s e → ReadsMay q cs d s result r
may_error q cs d s r e result h k = by_error (λ z. ReadsMay q cs d s z r) e result h k

abbrev pub AllNothing : {q : Part} → Class → ℕ → List (Alt q) → Type 0
AllNothing c d [] = Unit {0}
AllNothing c d (a ∷ more) = (through (first longest_chain c) (slots a) d ≡ []) × AllNothing c d more

each_nothing : {q : Part} (c : Class) (d : ℕ) (some : List (Alt q)) → AllNothing c d some → each_alt (first longest_chain c) some d ≡ []
each_nothing c d [] h = refl
each_nothing c d (a ∷ some) h = ap (λ z. z ++ each_alt (first longest_chain c) some d) h.0 ∙ each_nothing c d some h.1

pub absent_by : (q : Part) (d : ℕ) (s : List Token) → ((t : Token) (r : List Token) → s ≡ t ∷ r → AllNothing (class_of t.kind) d (alts_of q)) → Absent q d s
absent_by q d s h = λ t r e. by_alts (class_of t.kind) q d ∙ each_nothing (class_of t.kind) d (alts_of q) (h t r e)

-- ---- suffixes

suffixes_over : (d : ℕ) (s : List Token) → Absent p.Suffix d s → Took p.Suffixes d s s []
suffixes_over d s none = chosen_took (chosen_first alts.no_suffix alts.suffix_more d s refl refl (λ t r e. no_alt_part alts.suffix_more p.Suffix (class_of t.kind) d refl (none t r e) refl) (λ ps g. tt)) (took_by alts.no_suffix (end_all d s))

chosen_suffix : (d : ℕ) (s : List Token) → Begun suffix_classes s → Chosen alts.suffix_more d s
chosen_suffix d s begun = chosen_here alts.suffix_more d s begun.0 begun.1 begun.2 (append-nil _) (λ ps g. (tt, (g, tt)))

-- what was read in the loop so far
abbrev pub SuffixesSoFar : ℕ → List Token → List Token → List Suffix → Type 0
SuffixesSoFar d s m all = Leads p.Suffixes d s p.Suffixes m (λ ys. all ++ ys)

pub suffixes_begin : (d : ℕ) (s : List Token) (all : List Suffix) → all ≡ [] → SuffixesSoFar d s s all
suffixes_begin d s all e = leads_as (leads_self p.Suffixes d s) (λ ys. ap (λ z. z ++ ys) (sym e))

pub suffixes_next : (d : ℕ) (s m r : List Token) (all new : List Suffix) (o : Option Suffix) (x : Suffix) → SuffixesSoFar d s m all → o ≡ Some x → ReadsMay p.Suffix suffix_classes d m (Ok o) r → new ≡ all ++ x ∷ [] → SuffixesSoFar d s r new
suffixes_next d s m r all new o x way is z e =
    let y = may_some p.Suffix suffix_classes d m r o x is z in
    leads_as (leads_on way (leads_by (chosen_suffix d m y.0) (front_same y.1 (front_last p.Suffixes d r)) (λ ps g. g)))
    (λ ys. sym (append_assoc all (x ∷ []) ys) ∙ ap (λ z. z ++ ys) (sym e))

pub suffixes_no_suffix : (d : ℕ) (s m : List Token) (all : List Suffix) (e : End Stop) → SuffixesSoFar d s m all → Begun suffix_classes m × Stuck p.Suffix d m e → Stuck p.Suffixes d s e
suffixes_no_suffix d s m all e way y = leads_stuck way (chosen_stuck (chosen_suffix d m y.0) (at_same y.1))

pub suffixes_end : (d : ℕ) (s m r : List Token) (all : List Suffix) (o : Option Suffix) → SuffixesSoFar d s m all → ((t : Suffix) → o ≡ Some t → ⊥) → ReadsMay p.Suffix suffix_classes d m (Ok o) r → Took p.Suffixes d s r all
suffixes_end d s m r all o way unlike z =
    let y = may_none p.Suffix suffix_classes d m r o unlike z in
    let P : List Token → Type 0 = λ z. Took p.Suffixes d s z all in
    let Q : List Suffix → Type 0 = λ z. Took p.Suffixes d s m z in
    subst P (sym y.0) (subst Q (append-nil all) (leads_took way (suffixes_over d m y.1)))

pub member_begun : (s : List Token) → seen s ≡ seens.Symbol symbols.Dot → Begun suffix_classes s
member_begun s h = (ASign symbols.Dot, h, λ ps g. g.0)

pub call_begun : (s : List Token) → seen s ≡ seens.Symbol symbols.OpenParen → Begun suffix_classes s
call_begun s h = (ASign symbols.OpenParen, h, λ ps g. g.1.0)

pub index_begun : (s : List Token) → seen s ≡ seens.Symbol symbols.OpenBracket → Begun suffix_classes s
index_begun s h = (ASign symbols.OpenBracket, h, λ ps g. g.1.1.0)

pub chosen_member : (d : ℕ) (s : List Token) → seen s ≡ seens.Symbol symbols.Dot → Chosen alts.member d s
chosen_member d s h = chosen_at alts.member d s (ASign symbols.Dot) h (λ ps g. refl) (λ ps g. tt)

pub chosen_call : (d : ℕ) (s : List Token) → seen s ≡ seens.Symbol symbols.OpenParen → Chosen alts.call d s
chosen_call d s h = chosen_at alts.call d s (ASign symbols.OpenParen) h (λ ps g. refl) (λ ps g. (tt, tt))

pub chosen_index : (d : ℕ) (s : List Token) → seen s ≡ seens.Symbol symbols.OpenBracket → Chosen alts.index d s
chosen_index d s h = chosen_at alts.index d s (ASign symbols.OpenBracket) h (λ ps g. refl) (λ ps g. (refuses_all expr_classes ((symbol symbols.CloseBracket, d) ∷ ps) refl, tt))

pub no_suffix_here : (d : ℕ) (s : List Token) → (seen s ≡ seens.Symbol symbols.Dot → ⊥) → (seen s ≡ seens.Symbol symbols.OpenParen → ⊥) → (seen s ≡ seens.Symbol symbols.OpenBracket → ⊥) → Absent p.Suffix d s
no_suffix_here d s a b c = absent_by p.Suffix d s (λ t r e. (
  no_alt alts.member (Sign symbols.Dot) (class_of t.kind) d refl (not_sign symbols.Dot s a t r e),
  (
    no_alt alts.call (Sign symbols.OpenParen) (class_of t.kind) d refl (not_sign symbols.OpenParen s b t r e),
    (no_alt alts.index (Sign symbols.OpenBracket) (class_of t.kind) d refl (not_sign symbols.OpenBracket s c t r e), tt),
  ),
))

pub index_made : (a b : Expr) (s t : Span) → b ≡ a → t ≡ s → suffixes.Index a s ≡ suffixes.Index b t
index_made a b s t e f = ap (λ z. suffixes.Index z s) (sym e) ∙ ap (λ z. suffixes.Index b z) (sym f)

pub paren_made : (a b : Expr) (s t : Span) → t ≡ s → b ≡ exprs.Paren a t → exprs.Paren a s ≡ b
paren_made a b s t e f = ap (λ z. exprs.Paren a z) (sym e) ∙ sym f

pub array_made : (a : List Expr) (b : Expr) (s t : Span) → t ≡ s → b ≡ exprs.Array a t → exprs.Array a s ≡ b
array_made a b s t e f = ap (λ z. exprs.Array a z) (sym e) ∙ sym f

pub struct_made : (a : List FieldValue) (b : Expr) (s t : Span) → t ≡ s → b ≡ exprs.Struct a t → exprs.Struct a s ≡ b
struct_made a b s t e f = ap (λ z. exprs.Struct a z) (sym e) ∙ sym f

-- ---- fields of struct literals

pub chosen_field_value : (d : ℕ) (s : List Token) → Chosen alts.field_value d s
chosen_field_value d s = chosen_alone alts.field_value d s refl refl (λ ps g. (g, tt))

and_false : (b : Bool) → (b && false) ≡ false
and_false true = refl
and_false false = refl

pub chosen_some_fields : (h : Start) (d : ℕ) (s : List Token) → (may_be_empty h ≡ false) ⊎ (seen s ≡ seens.Symbol symbols.CloseBrace → ⊥) → Chosen (alts.some_fields {h = h}) d s
chosen_some_fields h d s unlike = chosen_second (alts.no_fields {h = h}) (alts.some_fields {h = h}) d s refl refl (λ t r e. no_alt (alts.no_fields {h = h}) (SignWhere (may_be_empty h) symbols.CloseBrace) (class_of t.kind) d refl (not_where h s unlike t r e))
    (λ ps g. (refuses_all expr_classes ((same (p.Rest p.FieldValues), d) ∷ ps) refl, (tt, tt)))
  where
    not_where : (h : Start) (s : List Token) → (may_be_empty h ≡ false) ⊎ (seen s ≡ seens.Symbol symbols.CloseBrace → ⊥) → (t : Token) (r : List Token) → s ≡ t ∷ r → (may_be_empty h && is_sign symbols.CloseBrace (class_of t.kind)) ≡ false
    not_where h s (inl e) t r f = ap (λ z. z && is_sign symbols.CloseBrace (class_of t.kind)) e
    not_where h s (inr unlike) t r f = ap (λ z. may_be_empty h && z) (not_sign symbols.CloseBrace s unlike t r f) ∙ and_false (may_be_empty h)

pub chosen_no_fields : (h : Start) (d : ℕ) (s : List Token) → seen s ≡ seens.Symbol symbols.CloseBrace → may_be_empty h ≡ true → Chosen (alts.no_fields {h = h}) d s
chosen_no_fields h d s e may = chosen_at (alts.no_fields {h = h}) d s (ASign symbols.CloseBrace) e (λ ps g. rw may refl) (λ ps g. tt)

pub one_where : (b : Bool) (sign : Symbol) (d : ℕ) (s r : List Token) (span : Span) → b ≡ true → TookOne (Sign sign) d s r span → TookOne (SignWhere b sign) d s r span
one_where b sign d s r span e x = record {
  x = record { token = x.x.token; front = x.x.front; fits_it = and_from b (is_sign sign (class_of x.x.token.kind)) e x.x.fits_it; within = x.x.within };
  is = x.is;
  low = x.low;
}

-- ---- arguments

chosen_arguments : (d : ℕ) (s : List Token) → (seen s ≡ seens.Symbol (closer p.Arguments) → ⊥) → Chosen (alts.listing_item {l = p.Arguments}) d s
chosen_arguments d s unlike = chosen_second (alts.listing_closes {l = p.Arguments}) (alts.listing_item {l = p.Arguments}) d s refl refl (λ t r e. no_alt (alts.listing_closes {l = p.Arguments}) (Sign (closer p.Arguments)) (class_of t.kind) d refl (not_sign (closer p.Arguments) s unlike t r e))
    (λ ps g. (refuses_all expr_classes ((same (p.Rest p.Arguments), d) ∷ ps) refl, (tt, tt)))

-- what was read in the loop so far
abbrev pub ArgumentsSoFar : ℕ → List Token → List Token → List Expr → List Expr → Type 0
ArgumentsSoFar d s m before all = (xs : List Expr) × (all ≡ before ++ xs) × Leads (p.Rest p.Arguments) d s (p.Rest p.Arguments) m (λ t. (xs ++ t.0, t.1))

pub arguments_begin : (d : ℕ) (s : List Token) (all : List Expr) → ArgumentsSoFar d s s all all
arguments_begin d s all = ([], sym (append-nil all), leads_self (p.Rest p.Arguments) d s)

pub arguments_next : (d : ℕ) (s m n r : List Token) (before all new : List Expr) (x : Expr) (o : Option Span) → ArgumentsSoFar d s m before all → ((end : Span) → o ≡ Some end → ⊥) → BehindItem (closer p.Arguments) d m (Ok o) n
    → Took (p.Expr p.Anywhere) (d + 1) n r x → new ≡ all ++ x ∷ [] → ArgumentsSoFar d s r before new
arguments_next d s m n r before all new x o way none behind y e =
    let b = another (closer p.Arguments) d m n o none behind in (
      way.0 ++ x ∷ [],
      e ∙ ap (λ z. z ++ x ∷ []) way.1 ∙ append_assoc before way.0 (x ∷ []),
      leads_as (leads_on way.2 (leads_on (leads_by (rest_comma p.Arguments d m b.0) (front_one b.2.1 (front_last (p.Listing p.Arguments) d n)) (λ ps g. tt))
          (leads_by (chosen_arguments d n b.1) (front_deep d y (front_last (p.Rest p.Arguments) d r)) (λ ps g. tt))))
          (λ t. ap (λ z. (z, t.1)) (sym (append_assoc way.0 (x ∷ []) t.0))),
    )

pub arguments_no_item : (d : ℕ) (s m n : List Token) (before all : List Expr) (o : Option Span) (e : End Stop) → ArgumentsSoFar d s m before all → ((end : Span) → o ≡ Some end → ⊥) → BehindItem (closer p.Arguments) d m (Ok o) n
    → Stuck (p.Expr p.Anywhere) (d + 1) n e → Stuck (p.Rest p.Arguments) d s e
arguments_no_item d s m n before all o e way none behind y =
    let b = another (closer p.Arguments) d m n o none behind in
    leads_stuck way.2 (chosen_stuck (rest_comma p.Arguments d m b.0) (past_one b.2.1 (at_same (chosen_stuck (chosen_arguments d n b.1) (at_deep d y)))))

pub arguments_no_sign : (d : ℕ) (s m : List Token) (before all : List Expr) (e : End Stop) → ArgumentsSoFar d s m before all → ((l : Listed) → closer l ≡ closer p.Arguments → Stuck (p.Rest l) d m e) → Stuck (p.Rest p.Arguments) d s e
arguments_no_sign d s m before all e way x = leads_stuck way.2 (x p.Arguments refl)

pub arguments_end : (d : ℕ) (s m r : List Token) (before all : List Expr) (o : Option Span) (end : Span) → ArgumentsSoFar d s m before all → o ≡ Some end → BehindItem (closer p.Arguments) d m (Ok o) r
    → (xs : List Expr) × (all ≡ before ++ xs) × Took (p.Rest p.Arguments) d s r (xs, end)
arguments_end d s m r before all o end way is behind =
    let P : Option Span → Type 0 = λ z. BehindItem (closer p.Arguments) d m (Ok z) r in
    let Q : List Expr → Type 0 = λ z. Took (p.Rest p.Arguments) d s r (z, end) in
    (way.0, way.1, subst Q (append-nil way.0) (leads_took way.2 (subst P is behind p.Arguments refl)))

pub arguments_error : (d : ℕ) (all : List Expr) (s r : List Token) (e : End Stop) (result : Result (List Expr × Span) (End Stop)) → IsErrAnd result (λ y. y ≡ e) → Stuck (p.Rest p.Arguments) d s e → MoreArguments d all s result r
arguments_error d all s r e result h k = by_error (λ z. MoreArguments d all s z r) e result h k

pub arguments_memory : (d : ℕ) (all : List Expr) (s r : List Token) (result : Result (List Expr × Span) (End Stop)) → IsErrAnd result (λ y. y ≡ endings.Memory) → MoreArguments d all s result r
arguments_memory d all s r result h = arguments_error d all s r endings.Memory result h (no_memory (p.Rest p.Arguments) d s)

-- a list from its first item on
pub arguments_listing : (d : ℕ) (s n r : List Token) (x : Expr) (one_item : List Expr) (result : Result (List Expr × Span) (End Stop)) → (seen s ≡ seens.Symbol (closer p.Arguments) → ⊥) → Took (p.Expr p.Anywhere) (d + 1) s n x → one_item ≡ x ∷ []
    → MoreArguments d one_item n result r → Reads (p.Listing p.Arguments) d s result r
arguments_listing d s n r x one_item (Ok listed) unlike y e z =
    chosen_took (chosen_arguments d s unlike) (took_as (alts.listing_item {l = p.Arguments}) (and_deep d y (and_same z.2 (end_all d r))) (ap (λ w. (w ++ z.0, listed.1)) (sym e) ∙ ap (λ w. (w, listed.1)) (sym z.1)))
arguments_listing d s n r x one_item (Err end) unlike y e z = chosen_stuck (chosen_arguments d s unlike) (past_deep d y (at_same z))

pub arguments_no_first : (d : ℕ) (s : List Token) (e : End Stop) → (seen s ≡ seens.Symbol (closer p.Arguments) → ⊥) → Stuck (p.Expr p.Anywhere) (d + 1) s e → Stuck (p.Listing p.Arguments) d s e
arguments_no_first d s e unlike y = chosen_stuck (chosen_arguments d s unlike) (at_deep d y)

-- ---- elements

chosen_elements : (d : ℕ) (s : List Token) → (seen s ≡ seens.Symbol (closer p.Elements) → ⊥) → Chosen (alts.listing_item {l = p.Elements}) d s
chosen_elements d s unlike = chosen_second (alts.listing_closes {l = p.Elements}) (alts.listing_item {l = p.Elements}) d s refl refl (λ t r e. no_alt (alts.listing_closes {l = p.Elements}) (Sign (closer p.Elements)) (class_of t.kind) d refl (not_sign (closer p.Elements) s unlike t r e))
    (λ ps g. (refuses_all expr_classes ((same (p.Rest p.Elements), d) ∷ ps) refl, (tt, tt)))

-- what was read in the loop so far
abbrev pub ElementsSoFar : ℕ → List Token → List Token → List Expr → List Expr → Type 0
ElementsSoFar d s m before all = (xs : List Expr) × (all ≡ before ++ xs) × Leads (p.Rest p.Elements) d s (p.Rest p.Elements) m (λ t. (xs ++ t.0, t.1))

pub elements_begin : (d : ℕ) (s : List Token) (all : List Expr) → ElementsSoFar d s s all all
elements_begin d s all = ([], sym (append-nil all), leads_self (p.Rest p.Elements) d s)

pub elements_next : (d : ℕ) (s m n r : List Token) (before all new : List Expr) (x : Expr) (o : Option Span) → ElementsSoFar d s m before all → ((end : Span) → o ≡ Some end → ⊥) → BehindItem (closer p.Elements) d m (Ok o) n
    → Took (p.Expr p.Anywhere) (d + 1) n r x → new ≡ all ++ x ∷ [] → ElementsSoFar d s r before new
elements_next d s m n r before all new x o way none behind y e =
    let b = another (closer p.Elements) d m n o none behind in (
      way.0 ++ x ∷ [],
      e ∙ ap (λ z. z ++ x ∷ []) way.1 ∙ append_assoc before way.0 (x ∷ []),
      leads_as (leads_on way.2 (leads_on (leads_by (rest_comma p.Elements d m b.0) (front_one b.2.1 (front_last (p.Listing p.Elements) d n)) (λ ps g. tt))
          (leads_by (chosen_elements d n b.1) (front_deep d y (front_last (p.Rest p.Elements) d r)) (λ ps g. tt))))
          (λ t. ap (λ z. (z, t.1)) (sym (append_assoc way.0 (x ∷ []) t.0))),
    )

pub elements_no_item : (d : ℕ) (s m n : List Token) (before all : List Expr) (o : Option Span) (e : End Stop) → ElementsSoFar d s m before all → ((end : Span) → o ≡ Some end → ⊥) → BehindItem (closer p.Elements) d m (Ok o) n
    → Stuck (p.Expr p.Anywhere) (d + 1) n e → Stuck (p.Rest p.Elements) d s e
elements_no_item d s m n before all o e way none behind y =
    let b = another (closer p.Elements) d m n o none behind in
    leads_stuck way.2 (chosen_stuck (rest_comma p.Elements d m b.0) (past_one b.2.1 (at_same (chosen_stuck (chosen_elements d n b.1) (at_deep d y)))))

pub elements_no_sign : (d : ℕ) (s m : List Token) (before all : List Expr) (e : End Stop) → ElementsSoFar d s m before all → ((l : Listed) → closer l ≡ closer p.Elements → Stuck (p.Rest l) d m e) → Stuck (p.Rest p.Elements) d s e
elements_no_sign d s m before all e way x = leads_stuck way.2 (x p.Elements refl)

pub elements_end : (d : ℕ) (s m r : List Token) (before all : List Expr) (o : Option Span) (end : Span) → ElementsSoFar d s m before all → o ≡ Some end → BehindItem (closer p.Elements) d m (Ok o) r
    → (xs : List Expr) × (all ≡ before ++ xs) × Took (p.Rest p.Elements) d s r (xs, end)
elements_end d s m r before all o end way is behind =
    let P : Option Span → Type 0 = λ z. BehindItem (closer p.Elements) d m (Ok z) r in
    let Q : List Expr → Type 0 = λ z. Took (p.Rest p.Elements) d s r (z, end) in
    (way.0, way.1, subst Q (append-nil way.0) (leads_took way.2 (subst P is behind p.Elements refl)))

pub elements_error : (d : ℕ) (all : List Expr) (s r : List Token) (e : End Stop) (result : Result (List Expr × Span) (End Stop)) → IsErrAnd result (λ y. y ≡ e) → Stuck (p.Rest p.Elements) d s e → MoreElements d all s result r
elements_error d all s r e result h k = by_error (λ z. MoreElements d all s z r) e result h k

pub elements_memory : (d : ℕ) (all : List Expr) (s r : List Token) (result : Result (List Expr × Span) (End Stop)) → IsErrAnd result (λ y. y ≡ endings.Memory) → MoreElements d all s result r
elements_memory d all s r result h = elements_error d all s r endings.Memory result h (no_memory (p.Rest p.Elements) d s)

-- a list from its first item on
pub elements_listing : (d : ℕ) (s n r : List Token) (x : Expr) (one_item : List Expr) (result : Result (List Expr × Span) (End Stop)) → (seen s ≡ seens.Symbol (closer p.Elements) → ⊥) → Took (p.Expr p.Anywhere) (d + 1) s n x → one_item ≡ x ∷ []
    → MoreElements d one_item n result r → Reads (p.Listing p.Elements) d s result r
elements_listing d s n r x one_item (Ok listed) unlike y e z =
    chosen_took (chosen_elements d s unlike) (took_as (alts.listing_item {l = p.Elements}) (and_deep d y (and_same z.2 (end_all d r))) (ap (λ w. (w ++ z.0, listed.1)) (sym e) ∙ ap (λ w. (w, listed.1)) (sym z.1)))
elements_listing d s n r x one_item (Err end) unlike y e z = chosen_stuck (chosen_elements d s unlike) (past_deep d y (at_same z))

pub elements_no_first : (d : ℕ) (s : List Token) (e : End Stop) → (seen s ≡ seens.Symbol (closer p.Elements) → ⊥) → Stuck (p.Expr p.Anywhere) (d + 1) s e → Stuck (p.Listing p.Elements) d s e
elements_no_first d s e unlike y = chosen_stuck (chosen_elements d s unlike) (at_deep d y)

-- ---- field values

chosen_field_values : (d : ℕ) (s : List Token) → (seen s ≡ seens.Symbol (closer p.FieldValues) → ⊥) → Chosen (alts.listing_item {l = p.FieldValues}) d s
chosen_field_values d s unlike = chosen_second (alts.listing_closes {l = p.FieldValues}) (alts.listing_item {l = p.FieldValues}) d s refl refl (λ t r e. no_alt (alts.listing_closes {l = p.FieldValues}) (Sign (closer p.FieldValues)) (class_of t.kind) d refl (not_sign (closer p.FieldValues) s unlike t r e))
    (λ ps g. (refuses_all expr_classes ((same (p.Rest p.FieldValues), d) ∷ ps) refl, (tt, tt)))

-- what was read in the loop so far
abbrev pub FieldValuesSoFar : ℕ → List Token → List Token → List FieldValue → List FieldValue → Type 0
FieldValuesSoFar d s m before all = (xs : List FieldValue) × (all ≡ before ++ xs) × Leads (p.Rest p.FieldValues) d s (p.Rest p.FieldValues) m (λ t. (xs ++ t.0, t.1))

pub field_values_begin : (d : ℕ) (s : List Token) (all : List FieldValue) → FieldValuesSoFar d s s all all
field_values_begin d s all = ([], sym (append-nil all), leads_self (p.Rest p.FieldValues) d s)

pub field_values_next : (d : ℕ) (s m n r : List Token) (before all new : List FieldValue) (x : FieldValue) (o : Option Span) → FieldValuesSoFar d s m before all → ((end : Span) → o ≡ Some end → ⊥) → BehindItem (closer p.FieldValues) d m (Ok o) n
    → Took p.FieldValue d n r x → new ≡ all ++ x ∷ [] → FieldValuesSoFar d s r before new
field_values_next d s m n r before all new x o way none behind y e =
    let b = another (closer p.FieldValues) d m n o none behind in (
      way.0 ++ x ∷ [],
      e ∙ ap (λ z. z ++ x ∷ []) way.1 ∙ append_assoc before way.0 (x ∷ []),
      leads_as (leads_on way.2 (leads_on (leads_by (rest_comma p.FieldValues d m b.0) (front_one b.2.1 (front_last (p.Listing p.FieldValues) d n)) (λ ps g. tt))
          (leads_by (chosen_field_values d n b.1) (front_same y (front_last (p.Rest p.FieldValues) d r)) (λ ps g. tt))))
          (λ t. ap (λ z. (z, t.1)) (sym (append_assoc way.0 (x ∷ []) t.0))),
    )

pub field_values_no_item : (d : ℕ) (s m n : List Token) (before all : List FieldValue) (o : Option Span) (e : End Stop) → FieldValuesSoFar d s m before all → ((end : Span) → o ≡ Some end → ⊥) → BehindItem (closer p.FieldValues) d m (Ok o) n
    → Stuck p.FieldValue d n e → Stuck (p.Rest p.FieldValues) d s e
field_values_no_item d s m n before all o e way none behind y =
    let b = another (closer p.FieldValues) d m n o none behind in
    leads_stuck way.2 (chosen_stuck (rest_comma p.FieldValues d m b.0) (past_one b.2.1 (at_same (chosen_stuck (chosen_field_values d n b.1) (at_same y)))))

pub field_values_no_sign : (d : ℕ) (s m : List Token) (before all : List FieldValue) (e : End Stop) → FieldValuesSoFar d s m before all → ((l : Listed) → closer l ≡ closer p.FieldValues → Stuck (p.Rest l) d m e) → Stuck (p.Rest p.FieldValues) d s e
field_values_no_sign d s m before all e way x = leads_stuck way.2 (x p.FieldValues refl)

pub field_values_end : (d : ℕ) (s m r : List Token) (before all : List FieldValue) (o : Option Span) (end : Span) → FieldValuesSoFar d s m before all → o ≡ Some end → BehindItem (closer p.FieldValues) d m (Ok o) r
    → (xs : List FieldValue) × (all ≡ before ++ xs) × Took (p.Rest p.FieldValues) d s r (xs, end)
field_values_end d s m r before all o end way is behind =
    let P : Option Span → Type 0 = λ z. BehindItem (closer p.FieldValues) d m (Ok z) r in
    let Q : List FieldValue → Type 0 = λ z. Took (p.Rest p.FieldValues) d s r (z, end) in
    (way.0, way.1, subst Q (append-nil way.0) (leads_took way.2 (subst P is behind p.FieldValues refl)))

pub field_values_error : (d : ℕ) (all : List FieldValue) (s r : List Token) (e : End Stop) (result : Result (List FieldValue × Span) (End Stop)) → IsErrAnd result (λ y. y ≡ e) → Stuck (p.Rest p.FieldValues) d s e → MoreFieldValues d all s result r
field_values_error d all s r e result h k = by_error (λ z. MoreFieldValues d all s z r) e result h k

pub field_values_memory : (d : ℕ) (all : List FieldValue) (s r : List Token) (result : Result (List FieldValue × Span) (End Stop)) → IsErrAnd result (λ y. y ≡ endings.Memory) → MoreFieldValues d all s result r
field_values_memory d all s r result h = field_values_error d all s r endings.Memory result h (no_memory (p.Rest p.FieldValues) d s)

-- a list from its first item on
pub field_values_listing : (d : ℕ) (s n r : List Token) (x : FieldValue) (one_item : List FieldValue) (result : Result (List FieldValue × Span) (End Stop)) → (seen s ≡ seens.Symbol (closer p.FieldValues) → ⊥) → Took p.FieldValue d s n x → one_item ≡ x ∷ []
    → MoreFieldValues d one_item n result r → Reads (p.Listing p.FieldValues) d s result r
field_values_listing d s n r x one_item (Ok listed) unlike y e z =
    chosen_took (chosen_field_values d s unlike) (took_as (alts.listing_item {l = p.FieldValues}) (and_same y (and_same z.2 (end_all d r))) (ap (λ w. (w ++ z.0, listed.1)) (sym e) ∙ ap (λ w. (w, listed.1)) (sym z.1)))
field_values_listing d s n r x one_item (Err end) unlike y e z = chosen_stuck (chosen_field_values d s unlike) (past_same y (at_same z))

pub field_values_no_first : (d : ℕ) (s : List Token) (e : End Stop) → (seen s ≡ seens.Symbol (closer p.FieldValues) → ⊥) → Stuck p.FieldValue d s e → Stuck (p.Listing p.FieldValues) d s e
field_values_no_first d s e unlike y = chosen_stuck (chosen_field_values d s unlike) (at_same y)

-- the same where the closing symbol is known to be this list's
pub arguments_no_sign_of : (d : ℕ) (closing : Symbol) (s m : List Token) (before all : List Expr) (e : End Stop) → closer p.Arguments ≡ closing → ArgumentsSoFar d s m before all → ((l : Listed) → closer l ≡ closing → Stuck (p.Rest l) d m e) → Stuck (p.Rest p.Arguments) d s e
arguments_no_sign_of d closing s m before all e k way x = leads_stuck way.2 (x p.Arguments k)

pub arguments_end_of : (d : ℕ) (closing : Symbol) (s m r : List Token) (before all : List Expr) (o : Option Span) (end : Span) → closer p.Arguments ≡ closing → ArgumentsSoFar d s m before all → o ≡ Some end → BehindItem closing d m (Ok o) r
    → (xs : List Expr) × (all ≡ before ++ xs) × Took (p.Rest p.Arguments) d s r (xs, end)
arguments_end_of d closing s m r before all o end k way is behind =
    let P : Symbol → Type 0 = λ z. BehindItem z d m (Ok o) r in arguments_end d s m r before all o end way is (subst P (sym k) behind)

pub arguments_no_item_of : (d : ℕ) (closing : Symbol) (s m n : List Token) (before all : List Expr) (o : Option Span) (e : End Stop) → closer p.Arguments ≡ closing → ArgumentsSoFar d s m before all → ((end : Span) → o ≡ Some end → ⊥)
    → BehindItem closing d m (Ok o) n → Stuck (p.Expr p.Anywhere) (d + 1) n e → Stuck (p.Rest p.Arguments) d s e
arguments_no_item_of d closing s m n before all o e k way none behind y =
    let P : Symbol → Type 0 = λ z. BehindItem z d m (Ok o) n in arguments_no_item d s m n before all o e way none (subst P (sym k) behind) y

pub arguments_next_of : (d : ℕ) (closing : Symbol) (s m n r : List Token) (before all new : List Expr) (x : Expr) (o : Option Span) → closer p.Arguments ≡ closing → ArgumentsSoFar d s m before all → ((end : Span) → o ≡ Some end → ⊥)
    → BehindItem closing d m (Ok o) n → Took (p.Expr p.Anywhere) (d + 1) n r x → new ≡ all ++ x ∷ [] → ArgumentsSoFar d s r before new
arguments_next_of d closing s m n r before all new x o k way none behind y e =
    let P : Symbol → Type 0 = λ z. BehindItem z d m (Ok o) n in arguments_next d s m n r before all new x o way none (subst P (sym k) behind) y e

-- the same where the closing symbol is known to be this list's
pub elements_no_sign_of : (d : ℕ) (closing : Symbol) (s m : List Token) (before all : List Expr) (e : End Stop) → closer p.Elements ≡ closing → ElementsSoFar d s m before all → ((l : Listed) → closer l ≡ closing → Stuck (p.Rest l) d m e) → Stuck (p.Rest p.Elements) d s e
elements_no_sign_of d closing s m before all e k way x = leads_stuck way.2 (x p.Elements k)

pub elements_end_of : (d : ℕ) (closing : Symbol) (s m r : List Token) (before all : List Expr) (o : Option Span) (end : Span) → closer p.Elements ≡ closing → ElementsSoFar d s m before all → o ≡ Some end → BehindItem closing d m (Ok o) r
    → (xs : List Expr) × (all ≡ before ++ xs) × Took (p.Rest p.Elements) d s r (xs, end)
elements_end_of d closing s m r before all o end k way is behind =
    let P : Symbol → Type 0 = λ z. BehindItem z d m (Ok o) r in elements_end d s m r before all o end way is (subst P (sym k) behind)

pub elements_no_item_of : (d : ℕ) (closing : Symbol) (s m n : List Token) (before all : List Expr) (o : Option Span) (e : End Stop) → closer p.Elements ≡ closing → ElementsSoFar d s m before all → ((end : Span) → o ≡ Some end → ⊥)
    → BehindItem closing d m (Ok o) n → Stuck (p.Expr p.Anywhere) (d + 1) n e → Stuck (p.Rest p.Elements) d s e
elements_no_item_of d closing s m n before all o e k way none behind y =
    let P : Symbol → Type 0 = λ z. BehindItem z d m (Ok o) n in elements_no_item d s m n before all o e way none (subst P (sym k) behind) y

pub elements_next_of : (d : ℕ) (closing : Symbol) (s m n r : List Token) (before all new : List Expr) (x : Expr) (o : Option Span) → closer p.Elements ≡ closing → ElementsSoFar d s m before all → ((end : Span) → o ≡ Some end → ⊥)
    → BehindItem closing d m (Ok o) n → Took (p.Expr p.Anywhere) (d + 1) n r x → new ≡ all ++ x ∷ [] → ElementsSoFar d s r before new
elements_next_of d closing s m n r before all new x o k way none behind y e =
    let P : Symbol → Type 0 = λ z. BehindItem z d m (Ok o) n in elements_next d s m n r before all new x o way none (subst P (sym k) behind) y e

pub arguments_no_first_of : (d : ℕ) (closing : Symbol) (s r : List Token) (o : Option Span) (e : End Stop) → closer p.Arguments ≡ closing → ((end : Span) → o ≡ Some end → ⊥) → Closes closing d s (Ok o) r
    → Stuck (p.Expr p.Anywhere) (d + 1) r e → Stuck (p.Listing p.Arguments) d s e
arguments_no_first_of d closing s r o e k none closed x =
    let y = closes_none closing d s r o none closed in
    let P : List Token → Type 0 = λ z. Stuck (p.Expr p.Anywhere) (d + 1) z e in
    arguments_no_first d s e (λ g. y.1 (g ∙ ap seens.Symbol k)) (subst P y.0 x)

pub arguments_listing_of : (d : ℕ) (closing : Symbol) (s m n r : List Token) (x : Expr) (one_item : List Expr) (result : Result (List Expr × Span) (End Stop)) (o : Option Span) → closer p.Arguments ≡ closing
    → ((end : Span) → o ≡ Some end → ⊥) → Closes closing d s (Ok o) m → Took (p.Expr p.Anywhere) (d + 1) m n x → one_item ≡ x ∷ [] → MoreArguments d one_item n result r → Reads (p.Listing p.Arguments) d s result r
arguments_listing_of d closing s m n r x one_item result o k none closed y e z =
    let w = closes_none closing d s m o none closed in
    let P : List Token → Type 0 = λ z. Took (p.Expr p.Anywhere) (d + 1) z n x in
    arguments_listing d s n r x one_item result (λ g. w.1 (g ∙ ap seens.Symbol k)) (subst P w.0 y) e z

pub elements_no_first_of : (d : ℕ) (closing : Symbol) (s r : List Token) (o : Option Span) (e : End Stop) → closer p.Elements ≡ closing → ((end : Span) → o ≡ Some end → ⊥) → Closes closing d s (Ok o) r
    → Stuck (p.Expr p.Anywhere) (d + 1) r e → Stuck (p.Listing p.Elements) d s e
elements_no_first_of d closing s r o e k none closed x =
    let y = closes_none closing d s r o none closed in
    let P : List Token → Type 0 = λ z. Stuck (p.Expr p.Anywhere) (d + 1) z e in
    elements_no_first d s e (λ g. y.1 (g ∙ ap seens.Symbol k)) (subst P y.0 x)

pub elements_listing_of : (d : ℕ) (closing : Symbol) (s m n r : List Token) (x : Expr) (one_item : List Expr) (result : Result (List Expr × Span) (End Stop)) (o : Option Span) → closer p.Elements ≡ closing
    → ((end : Span) → o ≡ Some end → ⊥) → Closes closing d s (Ok o) m → Took (p.Expr p.Anywhere) (d + 1) m n x → one_item ≡ x ∷ [] → MoreElements d one_item n result r → Reads (p.Listing p.Elements) d s result r
elements_listing_of d closing s m n r x one_item result o k none closed y e z =
    let w = closes_none closing d s m o none closed in
    let P : List Token → Type 0 = λ z. Took (p.Expr p.Anywhere) (d + 1) z n x in
    elements_listing d s n r x one_item result (λ g. w.1 (g ∙ ap seens.Symbol k)) (subst P w.0 y) e z

where_true : (sign : Symbol) (d : ℕ) (s : List Token) (e : End Stop) → StuckOne (Sign sign) d s e → StuckOne (SignWhere true sign) d s e
where_true sign d s e x = record { stops = λ stop is ps. alike ((one (SignWhere true sign), d) ∷ ps) ((one (Sign sign), d) ∷ ps) refl s (λ t r f. refl) ∙ x.stops stop is ps }

pub stuck_where : (b : Bool) (sign : Symbol) (d : ℕ) (s : List Token) (e : End Stop) → b ≡ true → StuckOne (Sign sign) d s e → StuckOne (SignWhere b sign) d s e
stuck_where b sign d s e may x = let P : Bool → Type 0 = λ z. StuckOne (SignWhere z sign) d s e in subst P (sym may) (where_true sign d s e x)

pub some_fields_all : (h : Start) (d : ℕ) (s n r : List Token) (x : FieldValue) (one_item : List FieldValue) (result : Result (List FieldValue × Span) (End Stop)) → Took p.FieldValue d s n x → one_item ≡ x ∷ []
    → MoreFieldValues d one_item n result r → ReadsBy (alts.some_fields {h = h}) d s result r
some_fields_all h d s n r x one_item (Ok listed) y e z =
    took_as (alts.some_fields {h = h}) (and_same y (and_same z.2 (end_all d r))) (ap (λ w. (w ++ z.0, listed.1)) (sym e) ∙ ap (λ w. (w, listed.1)) (sym z.1))
some_fields_all h d s n r x one_item (Err end) y e z = past_same y (at_same z)

pub call_made : (a : List Expr) (s t : Span) → t ≡ s → suffixes.Call a s ≡ suffixes.Call a t
call_made a s t e = ap (λ z. suffixes.Call a z) (sym e)

-- ---- the holes of strings

chosen_mid : (d : ℕ) (s : List Token) → seen s ≡ seens.Mid → Chosen alts.holes_more d s
chosen_mid d s h = chosen_at alts.holes_more d s MidClass h (λ ps g. refl) (λ ps g. (refuses_all expr_classes ((same p.Holes, d) ∷ ps) refl, (tt, tt)))

chosen_tail : (d : ℕ) (s : List Token) → (seen s ≡ seens.Mid → ⊥) → Chosen alts.holes_end d s
chosen_tail d s unlike = chosen_first alts.holes_end alts.holes_more d s refl refl
    (λ t r e. no_alt alts.holes_more AMid (class_of t.kind) d refl (mid_agrees s false (λ h. absurd (false≢true h)) (λ h. absurd (unlike h)) t r e)) (λ ps g. tt)

abbrev pub HolesTree : Type 0
HolesTree = Quoted × List Hole × Span

-- what was read in the loop so far: of the holes to come, all of them
abbrev pub HolesSoFar : ℕ → List Token → List Token → Expr → Expr → List Hole → Type 0
HolesSoFar d s m start value all = (f : HolesTree → HolesTree) × Leads p.Holes d s p.Holes m f × ((t : HolesTree) → hole start (f t).0 ∷ (f t).1 ≡ all ++ (hole value t.0 ∷ t.1)) × ((t : HolesTree) → (f t).2 ≡ t.2)

pub holes_begin : (d : ℕ) (s : List Token) (start : Expr) (all : List Hole) → all ≡ [] → HolesSoFar d s s start start all
holes_begin d s start all e = ((λ t. t), leads_self p.Holes d s, (λ t. ap (λ z. z ++ (hole start t.0 ∷ t.1)) (sym e)), (λ t. refl))

pub holes_next : (d : ℕ) (s m n r : List Token) (start value : Expr) (all new : List Hole) (q : Quoted) (next : Expr) → HolesSoFar d s m start value all → seen m ≡ seens.Mid
    → TookOne AMid d m n q → Took (p.Expr p.Anywhere) (d + 1) n r next → new ≡ all ++ hole value q ∷ [] → HolesSoFar d s r start next new
holes_next d s m n r start value all new q next way h x y e =
    let g : HolesTree → HolesTree = λ t. (q, hole next t.0 ∷ t.1, t.2) in (
      (λ t. way.0 (g t)),
      leads_on way.1 (leads_by (chosen_mid d m h) (front_one x (front_deep d y (front_last p.Holes d r))) (λ ps k. tt)),
      (λ t. way.2 (g t) ∙ sym (append_assoc all (hole value q ∷ []) (hole next t.0 ∷ t.1)) ∙ ap (λ z. z ++ (hole next t.0 ∷ t.1)) (sym e)),
      (λ t. way.3 (g t)),
    )

pub holes_no_mid : (d : ℕ) (s m : List Token) (start value : Expr) (all : List Hole) (e : End Stop) → HolesSoFar d s m start value all → seen m ≡ seens.Mid → StuckOne AMid d m e → Stuck p.Holes d s e
holes_no_mid d s m start value all e way h x = leads_stuck way.1 (chosen_stuck (chosen_mid d m h) (at_one x))

pub holes_no_value : (d : ℕ) (s m n : List Token) (start value : Expr) (all : List Hole) (q : Quoted) (e : End Stop) → HolesSoFar d s m start value all → seen m ≡ seens.Mid → TookOne AMid d m n q
    → Stuck (p.Expr p.Anywhere) (d + 1) n e → Stuck p.Holes d s e
holes_no_value d s m n start value all q e way h x y = leads_stuck way.1 (chosen_stuck (chosen_mid d m h) (past_one x (at_deep d y)))

pub holes_no_tail : (d : ℕ) (s m : List Token) (start value : Expr) (all : List Hole) (e : End Stop) → HolesSoFar d s m start value all → (seen m ≡ seens.Mid → ⊥) → StuckOne ATail d m e → Stuck p.Holes d s e
holes_no_tail d s m start value all e way unlike x = leads_stuck way.1 (chosen_stuck (chosen_tail d m unlike) (at_one x))

pub holes_end : (d : ℕ) (s m r : List Token) (start value : Expr) (all new : List Hole) (q : Quoted) → HolesSoFar d s m start value all → (seen m ≡ seens.Mid → ⊥) → TookOne ATail d m r q
    → new ≡ all ++ hole value q ∷ [] → (behind : Quoted) × (hs : List Hole) × (new ≡ hole start behind ∷ hs) × Took p.Holes d s r (behind, hs, q.span)
holes_end d s m r start value all new q way unlike x e =
    let t : HolesTree = (q, [], q.span) in
    let P : Span → Type 0 = λ z. Took p.Holes d s r ((way.0 t).0, (way.0 t).1, z) in
    ((way.0 t).0, (way.0 t).1, e ∙ sym (way.2 t), subst P (way.3 t) (leads_took way.1 (chosen_took (chosen_tail d m unlike) (took_by alts.holes_end (and_one x (end_all d r))))))

pub holes_error : (d : ℕ) (start : Expr) (s r : List Token) (e : End Stop) (result : Result (List Hole × Span) (End Stop)) → IsErrAnd result (λ y. y ≡ e) → Stuck p.Holes d s e → HolesFrom d start s result r
holes_error d start s r e result h k = by_error (λ z. HolesFrom d start s z r) e result h k

pub holes_memory : (d : ℕ) (start : Expr) (s r : List Token) (result : Result (List Hole × Span) (End Stop)) → IsErrAnd result (λ y. y ≡ endings.Memory) → HolesFrom d start s result r
holes_memory d start s r result h = holes_error d start s r endings.Memory result h (no_memory p.Holes d s)

pub template_all : (h : Start) (d : ℕ) (s m n r : List Token) (head : Quoted) (start : Expr) (list : List Hole) (end span : Span) (made : Expr) → TookOne AHead d s m head → Took (p.Expr p.Anywhere) (d + 1) m n start
    → HolesFrom d start n (Ok (list, end)) r → span ≡ join head.span end → made ≡ exprs.Template head.text list span → TookBy (alts.template {h = h}) d s r made
template_all h d s m n r head start list end span made x y z e f =
    took_as (alts.template {h = h}) (and_one x (and_deep d y (and_same z.3 (end_all d r))))
    (ap (λ w. exprs.Template head.text w (join head.span end)) (sym z.2) ∙ ap (λ w. exprs.Template head.text list w) (sym e) ∙ sym f)

-- ---- names, and what begins with `@`

pub name_but : (h : Start) (d : ℕ) (s r : List Token) (ident : Ident) → shows_name_but (words_at h) s ≡ true → TookOne AnyName d s r ident → TookOne (NameBut (words_at h)) d s r ident
name_but h d s r ident may x = record {
  x = record { token = x.x.token; front = x.x.front; fits_it = ap (shows_name_but (words_at h)) (sym x.x.front) ∙ may; within = x.x.within };
  is = x.is;
  low = x.low;
}

but_alike : (h : Start) (d : ℕ) (s : List Token) (ps : Stack) → shows_name_but (words_at h) s ≡ true → run s (at ((one (NameBut (words_at h)), d) ∷ ps)) ≡ run s (at ((one AnyName, d) ∷ ps))
but_alike h d [] ps may = absurd (false≢true may)
but_alike h d (t ∷ r) ps may = alike ((one (NameBut (words_at h)), d) ∷ ps) ((one AnyName, d) ∷ ps) refl (t ∷ r)
    (λ u q e. let token : t ≡ u = cc in
    let P : Token → Type 0 = λ z. after (class_of z.kind) ((one (NameBut (words_at h)), d) ∷ ps) true ≡ after (class_of z.kind) ((one AnyName, d) ∷ ps) true in
    subst P token (ap (λ z. map (onto ps true) (cond z (([], nat_le d deepest_token) ∷ []) []) ++ []) (may ∙ sym (but_is_name (words_at h) (class_of t.kind) may))))
  where
    but_is_name : (ws : List Word) (c : Class) → fits (NameBut ws) c ≡ true → fits AnyName c ≡ true
    but_is_name ws (AWord w) k = refl
    but_is_name ws _ k = absurd (false≢true k)

pub stuck_name_but : (h : Start) (d : ℕ) (s : List Token) (e : End Stop) → shows_name_but (words_at h) s ≡ true → StuckOne AnyName d s e → StuckOne (NameBut (words_at h)) d s e
stuck_name_but h d s e may x = record { stops = λ stop is ps. but_alike h d s ps may ∙ x.stops stop is ps }

pub image_made : (a : Quoted) (b : Expr) (s t : Span) → t ≡ s → b ≡ exprs.ImageUrl a t → exprs.ImageUrl a s ≡ b
image_made a b s t e f = ap (λ z. exprs.ImageUrl a z) (sym e) ∙ sym f
