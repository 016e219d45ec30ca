-- Operators: which production is chosen where, and what their loops read.
use Rattle.std.proofs.Common.{◌≡◌, ℕ, true, List, [], ◌∷◌, ◌++◌, ◌+◌, map, sym, refl, ap, ◌∙◌, append_assoc, append-nil, subst}
use Rattle.std.specs.Prelude.{Option, Some, None, Result, Ok, Err}
use Rattle.std.specs.Result.{IsErrAnd}
use Rattle.slint_base.specs.declared.endings.End.TheVariants as endings
use Rattle.syntax_tree.specs.declared.expressions.Expr.TheVariants as exprs
use Rattle.slint_grammar.specs.Made.{Tree}
use Rattle.slint_base.specs.declared.faults.Span.{Span}
use Rattle.slint_base.specs.declared.endings.End.{End}
use Rattle.slint_lexer.specs.declared.tokens.Symbol.{Symbol}
use Rattle.slint_lexer.specs.declared.tokens.Symbol.TheVariants as symbols
use Rattle.slint_lexer.specs.declared.tokens.Token.{Token}
use Rattle.syntax_tree.specs.declared.expressions.BinaryOp.{BinaryOp}
use Rattle.syntax_tree.specs.declared.expressions.BinaryOp.TheVariants as binary
use Rattle.syntax_tree.specs.declared.expressions.PrefixOp.{PrefixOp}
use Rattle.syntax_tree.specs.declared.expressions.PrefixOp.TheVariants as prefixes
use Rattle.syntax_tree.specs.declared.expressions.Expr.{Expr}
use Rattle.syntax_tree.specs.declared.expressions.Operand.{Operand}
use Rattle.slint_parser.specs.declared.stops.Seen.{Seen}
use Rattle.slint_parser.specs.declared.stops.Seen.TheVariants as seens
use Rattle.slint_parser.specs.declared.stops.Stop.{Stop}
use Rattle.slint_grammar.specs.Parts as p
use Rattle.slint_grammar.specs.Parts.{Start, Part}
use Rattle.slint_grammar.specs.Grammar.{Sign, symbol, same, deeper}
use Rattle.slint_grammar.specs.Grammar.{Alt as alts}
use Rattle.slint_grammar.specs.Trees.{operand, join}
use Rattle.syntax_tree.specs.Spans.{expr_span}
use Rattle.slint_grammar.specs.Derivations.{ASign, class_of}
use Rattle.slint_grammar.specs.Stacks.{Stack, Left, after, first, longest_chain, onto}
use Rattle.slint_parser.specs.Readings.{seen, Refuses, TookOne, StuckOne, Took, Stuck, Reads, ReadsBy, ReadsOnto, LooksUp, Absent, comparison_classes, sum_classes, product_classes, prefix_classes, expr_classes}
use Rattle.slint_parser.proofs.Signs.{took_sign_seen, not_sign}
use Rattle.slint_parser.proofs.Among.{chosen_among}
use Rattle.slint_parser.proofs.Joining.{Chosen, seen_same, by_error, no_memory, chosen_at, chosen_alone, chosen_first, chosen_second, chosen_here, chosen_took, chosen_stuck, took_by, took_as, and_one, and_same, and_deep, end_all, at_one, at_same, at_deep, past_one, past_same, no_alt, no_alt_part, refuses_all, Leads, leads_self, leads_as, leads_on, leads_by, leads_took, leads_stuck, front_one, front_same, front_last}

pub looks_equal : (sight : Seen) → sight ≡ seens.Symbol symbols.EqualEqual → LooksUp p.CompareOp (λ op span. op) comparison_classes sight (Some (symbols.EqualEqual, binary.Equal))
looks_equal sight is = (
  is,
  (λ d s r span x. chosen_took (chosen_at alts.equal d s (ASign symbols.EqualEqual) (took_sign_seen symbols.EqualEqual d s r span x) (λ ps g. refl) (λ ps g. tt)) (took_as alts.equal (and_one x (end_all d r)) refl)),
  (λ d s e h x. chosen_stuck (chosen_at alts.equal d s (ASign symbols.EqualEqual) (h ∙ is) (λ ps g. refl) (λ ps g. tt)) (at_one x)),
  λ ps g. g.0,
)

pub looks_not_equal : (sight : Seen) → sight ≡ seens.Symbol symbols.NotEqual → LooksUp p.CompareOp (λ op span. op) comparison_classes sight (Some (symbols.NotEqual, binary.NotEqual))
looks_not_equal sight is = (
  is,
  (λ d s r span x. chosen_took (chosen_at alts.not_equal d s (ASign symbols.NotEqual) (took_sign_seen symbols.NotEqual d s r span x) (λ ps g. refl) (λ ps g. tt)) (took_as alts.not_equal (and_one x (end_all d r)) refl)),
  (λ d s e h x. chosen_stuck (chosen_at alts.not_equal d s (ASign symbols.NotEqual) (h ∙ is) (λ ps g. refl) (λ ps g. tt)) (at_one x)),
  λ ps g. g.1.0,
)

pub looks_less : (sight : Seen) → sight ≡ seens.Symbol symbols.Less → LooksUp p.CompareOp (λ op span. op) comparison_classes sight (Some (symbols.Less, binary.Less))
looks_less sight is = (
  is,
  (λ d s r span x. chosen_took (chosen_at alts.less d s (ASign symbols.Less) (took_sign_seen symbols.Less d s r span x) (λ ps g. refl) (λ ps g. tt)) (took_as alts.less (and_one x (end_all d r)) refl)),
  (λ d s e h x. chosen_stuck (chosen_at alts.less d s (ASign symbols.Less) (h ∙ is) (λ ps g. refl) (λ ps g. tt)) (at_one x)),
  λ ps g. g.1.1.0,
)

pub looks_less_equal : (sight : Seen) → sight ≡ seens.Symbol symbols.LessEqual → LooksUp p.CompareOp (λ op span. op) comparison_classes sight (Some (symbols.LessEqual, binary.LessEqual))
looks_less_equal sight is = (
  is,
  (λ d s r span x. chosen_took (chosen_at alts.less_equal d s (ASign symbols.LessEqual) (took_sign_seen symbols.LessEqual d s r span x) (λ ps g. refl) (λ ps g. tt)) (took_as alts.less_equal (and_one x (end_all d r)) refl)),
  (λ d s e h x. chosen_stuck (chosen_at alts.less_equal d s (ASign symbols.LessEqual) (h ∙ is) (λ ps g. refl) (λ ps g. tt)) (at_one x)),
  λ ps g. g.1.1.1.0,
)

pub looks_greater : (sight : Seen) → sight ≡ seens.Symbol symbols.Greater → LooksUp p.CompareOp (λ op span. op) comparison_classes sight (Some (symbols.Greater, binary.Greater))
looks_greater sight is = (
  is,
  (λ d s r span x. chosen_took (chosen_at alts.greater d s (ASign symbols.Greater) (took_sign_seen symbols.Greater d s r span x) (λ ps g. refl) (λ ps g. tt)) (took_as alts.greater (and_one x (end_all d r)) refl)),
  (λ d s e h x. chosen_stuck (chosen_at alts.greater d s (ASign symbols.Greater) (h ∙ is) (λ ps g. refl) (λ ps g. tt)) (at_one x)),
  λ ps g. g.1.1.1.1.0,
)

pub looks_greater_equal : (sight : Seen) → sight ≡ seens.Symbol symbols.GreaterEqual → LooksUp p.CompareOp (λ op span. op) comparison_classes sight (Some (symbols.GreaterEqual, binary.GreaterEqual))
looks_greater_equal sight is = (
  is,
  (λ d s r span x. chosen_took (chosen_at alts.greater_equal d s (ASign symbols.GreaterEqual) (took_sign_seen symbols.GreaterEqual d s r span x) (λ ps g. refl) (λ ps g. tt)) (took_as alts.greater_equal (and_one x (end_all d r)) refl)),
  (λ d s e h x. chosen_stuck (chosen_at alts.greater_equal d s (ASign symbols.GreaterEqual) (h ∙ is) (λ ps g. refl) (λ ps g. tt)) (at_one x)),
  λ ps g. g.1.1.1.1.1.0,
)

pub looks_plus_sign : (sight : Seen) → sight ≡ seens.Symbol symbols.Plus → LooksUp p.SumOp (λ op span. op) sum_classes sight (Some (symbols.Plus, binary.Add))
looks_plus_sign sight is = (
  is,
  (λ d s r span x. chosen_took (chosen_at alts.plus_sign d s (ASign symbols.Plus) (took_sign_seen symbols.Plus d s r span x) (λ ps g. refl) (λ ps g. tt)) (took_as alts.plus_sign (and_one x (end_all d r)) refl)),
  (λ d s e h x. chosen_stuck (chosen_at alts.plus_sign d s (ASign symbols.Plus) (h ∙ is) (λ ps g. refl) (λ ps g. tt)) (at_one x)),
  λ ps g. g.0,
)

pub looks_minus_sign : (sight : Seen) → sight ≡ seens.Symbol symbols.Minus → LooksUp p.SumOp (λ op span. op) sum_classes sight (Some (symbols.Minus, binary.Sub))
looks_minus_sign sight is = (
  is,
  (λ d s r span x. chosen_took (chosen_at alts.minus_sign d s (ASign symbols.Minus) (took_sign_seen symbols.Minus d s r span x) (λ ps g. refl) (λ ps g. tt)) (took_as alts.minus_sign (and_one x (end_all d r)) refl)),
  (λ d s e h x. chosen_stuck (chosen_at alts.minus_sign d s (ASign symbols.Minus) (h ∙ is) (λ ps g. refl) (λ ps g. tt)) (at_one x)),
  λ ps g. g.1.0,
)

pub looks_star_sign : (sight : Seen) → sight ≡ seens.Symbol symbols.Star → LooksUp p.ProdOp (λ op span. op) product_classes sight (Some (symbols.Star, binary.Mul))
looks_star_sign sight is = (
  is,
  (λ d s r span x. chosen_took (chosen_at alts.star_sign d s (ASign symbols.Star) (took_sign_seen symbols.Star d s r span x) (λ ps g. refl) (λ ps g. tt)) (took_as alts.star_sign (and_one x (end_all d r)) refl)),
  (λ d s e h x. chosen_stuck (chosen_at alts.star_sign d s (ASign symbols.Star) (h ∙ is) (λ ps g. refl) (λ ps g. tt)) (at_one x)),
  λ ps g. g.0,
)

pub looks_slash_sign : (sight : Seen) → sight ≡ seens.Symbol symbols.Slash → LooksUp p.ProdOp (λ op span. op) product_classes sight (Some (symbols.Slash, binary.Div))
looks_slash_sign sight is = (
  is,
  (λ d s r span x. chosen_took (chosen_at alts.slash_sign d s (ASign symbols.Slash) (took_sign_seen symbols.Slash d s r span x) (λ ps g. refl) (λ ps g. tt)) (took_as alts.slash_sign (and_one x (end_all d r)) refl)),
  (λ d s e h x. chosen_stuck (chosen_at alts.slash_sign d s (ASign symbols.Slash) (h ∙ is) (λ ps g. refl) (λ ps g. tt)) (at_one x)),
  λ ps g. g.1.0,
)

pub looks_negation : (sight : Seen) → sight ≡ seens.Symbol symbols.Bang → LooksUp p.PrefixOp (λ op span. (op, span)) prefix_classes sight (Some (symbols.Bang, prefixes.Not))
looks_negation sight is = (
  is,
  (λ d s r span x. chosen_took (chosen_at alts.negation d s (ASign symbols.Bang) (took_sign_seen symbols.Bang d s r span x) (λ ps g. refl) (λ ps g. tt)) (took_as alts.negation (and_one x (end_all d r)) refl)),
  (λ d s e h x. chosen_stuck (chosen_at alts.negation d s (ASign symbols.Bang) (h ∙ is) (λ ps g. refl) (λ ps g. tt)) (at_one x)),
  λ ps g. g.0,
)

pub looks_minus : (sight : Seen) → sight ≡ seens.Symbol symbols.Minus → LooksUp p.PrefixOp (λ op span. (op, span)) prefix_classes sight (Some (symbols.Minus, prefixes.Minus))
looks_minus sight is = (
  is,
  (λ d s r span x. chosen_took (chosen_at alts.minus d s (ASign symbols.Minus) (took_sign_seen symbols.Minus d s r span x) (λ ps g. refl) (λ ps g. tt)) (took_as alts.minus (and_one x (end_all d r)) refl)),
  (λ d s e h x. chosen_stuck (chosen_at alts.minus d s (ASign symbols.Minus) (h ∙ is) (λ ps g. refl) (λ ps g. tt)) (at_one x)),
  λ ps g. g.1.0,
)

pub looks_plus : (sight : Seen) → sight ≡ seens.Symbol symbols.Plus → LooksUp p.PrefixOp (λ op span. (op, span)) prefix_classes sight (Some (symbols.Plus, prefixes.Plus))
looks_plus sight is = (
  is,
  (λ d s r span x. chosen_took (chosen_at alts.plus d s (ASign symbols.Plus) (took_sign_seen symbols.Plus d s r span x) (λ ps g. refl) (λ ps g. tt)) (took_as alts.plus (and_one x (end_all d r)) refl)),
  (λ d s e h x. chosen_stuck (chosen_at alts.plus d s (ASign symbols.Plus) (h ∙ is) (λ ps g. refl) (λ ps g. tt)) (at_one x)),
  λ ps g. g.1.1.0,
)

pub chosen_expr : (h : Start) (d : ℕ) (s : List Token) → Chosen (alts.expr {h = h}) d s
chosen_expr h d s = chosen_alone (alts.expr {h = h}) d s refl refl (λ ps g. (g.1, (g, tt)))

pub chosen_logic : (h : Start) (d : ℕ) (s : List Token) → Chosen (alts.logic {h = h}) d s
chosen_logic h d s = chosen_alone (alts.logic {h = h}) d s refl refl (λ ps g. (g.1.1, (g, tt)))

pub chosen_cmp : (h : Start) (d : ℕ) (s : List Token) → Chosen (alts.cmp {h = h}) d s
chosen_cmp h d s = chosen_alone (alts.cmp {h = h}) d s refl refl (λ ps g. (g.1.1.1.1.1.1, (g, tt)))

pub chosen_sum : (h : Start) (d : ℕ) (s : List Token) → Chosen (alts.sum {h = h}) d s
chosen_sum h d s = chosen_alone (alts.sum {h = h}) d s refl refl (λ ps g. (g.1.1, (g, tt)))

pub chosen_prod : (h : Start) (d : ℕ) (s : List Token) → Chosen (alts.prod {h = h}) d s
chosen_prod h d s = chosen_alone (alts.prod {h = h}) d s refl refl (λ ps g. (g.1.1, (g, tt)))

pub chosen_no_choice : (d : ℕ) (s : List Token) → (seen s ≡ seens.Symbol symbols.Question → ⊥) → Chosen alts.no_choice d s
chosen_no_choice d s unlike = chosen_first alts.no_choice alts.choice d s refl refl (λ t r e. no_alt alts.choice (Sign symbols.Question) (class_of t.kind) d refl (not_sign symbols.Question s unlike t r e)) (λ ps g. tt)

pub chosen_choice : (d : ℕ) (s : List Token) → seen s ≡ seens.Symbol symbols.Question → Chosen alts.choice d s
chosen_choice d s h = chosen_here alts.choice d s (ASign symbols.Question) h (λ ps g. g.0) refl (λ ps g. (refuses_all expr_classes ((symbol symbols.Colon, d) ∷ (deeper (p.Expr p.Anywhere), d) ∷ ps) refl, (g, tt)))

pub chosen_logic_and : (d : ℕ) (s : List Token) → seen s ≡ seens.Symbol symbols.AndAnd → Chosen alts.logic_and d s
chosen_logic_and d s h = chosen_here alts.logic_and d s (ASign symbols.AndAnd) h (λ ps g. g.0) refl (λ ps g. (g.1.1, (g, tt)))

pub chosen_logic_or : (d : ℕ) (s : List Token) → seen s ≡ seens.Symbol symbols.OrOr → Chosen alts.logic_or d s
chosen_logic_or d s h = chosen_here alts.logic_or d s (ASign symbols.OrOr) h (λ ps g. g.1.0) refl (λ ps g. (g.1.1, (g, tt)))

pub chosen_no_logic : (d : ℕ) (s : List Token) → (seen s ≡ seens.Symbol symbols.AndAnd → ⊥) → (seen s ≡ seens.Symbol symbols.OrOr → ⊥) → Chosen alts.no_logic d s
chosen_no_logic d s unlike other = chosen_among [] alts.no_logic (alts.logic_and ∷ alts.logic_or ∷ []) d s refl refl
    (λ t r e. (tt, (no_alt alts.logic_and (Sign symbols.AndAnd) (class_of t.kind) d refl (not_sign symbols.AndAnd s unlike t r e), (no_alt alts.logic_or (Sign symbols.OrOr) (class_of t.kind) d refl (not_sign symbols.OrOr s other t r e), tt)))) (λ ps g. tt)

pub chosen_no_compare : (d : ℕ) (s : List Token) → Absent p.CompareOp d s → Chosen alts.no_compare d s
chosen_no_compare d s none = chosen_first alts.no_compare alts.compare d s refl refl (λ t r e. no_alt_part alts.compare p.CompareOp (class_of t.kind) d refl (none t r e) refl) (λ ps g. tt)

pub chosen_compare : (d : ℕ) (s : List Token) (symbol : Symbol) → seen s ≡ seens.Symbol symbol → ((ps : Stack) → Refuses comparison_classes ps → after (ASign symbol) ps true ≡ []) → Chosen alts.compare d s
chosen_compare d s symbol h none = chosen_here alts.compare d s (ASign symbol) h none (append-nil _) (λ ps g. (tt, (g.1.1.1.1.1.1, tt)))

pub terms_over : (d : ℕ) (s : List Token) → Absent p.SumOp d s → Took p.SumRest d s s []
terms_over d s none = chosen_took (chosen_first alts.sum_ends alts.sum_more d s refl refl (λ t r e. no_alt_part alts.sum_more p.SumOp (class_of t.kind) d refl (none t r e) refl) (λ ps g. tt)) (took_by alts.sum_ends (end_all d s))

chosen_terms : (d : ℕ) (s : List Token) (symbol : Symbol) → seen s ≡ seens.Symbol symbol → ((ps : Stack) → Refuses sum_classes ps → after (ASign symbol) ps true ≡ []) → Chosen alts.sum_more d s
chosen_terms d s symbol h none = chosen_here alts.sum_more d s (ASign symbol) h none (append-nil _) (λ ps g. (tt, (g.1.1, (g, tt))))

-- what was read in the loop so far
abbrev pub Terms : ℕ → List Token → List Token → List Operand → Type 0
Terms d s m all = Leads p.SumRest d s p.SumRest m (λ ys. all ++ ys)

pub terms_begin : (d : ℕ) (s : List Token) (all : List Operand) → all ≡ [] → Terms d s s all
terms_begin d s all e = leads_as (leads_self p.SumRest d s) (λ ys. ap (λ z. z ++ ys) (sym e))

pub terms_next : (d : ℕ) (s m n r : List Token) (all new : List Operand) (sight : Seen) (found : Option (Symbol × BinaryOp)) (symbol : Symbol) (op : BinaryOp) (span : Span) (right : Expr) → Terms d s m all
    → sight ≡ seen m → LooksUp p.SumOp (λ op span. op) sum_classes sight found → found ≡ Some (symbol, op) → TookOne (Sign symbol) d m n span → Took (p.Prod p.Anywhere) d n r right → new ≡ all ++ operand op right ∷ [] → Terms d s r new
terms_next d s m n r all new sight found symbol op span right way is looks some x y e =
    let found_here : LooksUp p.SumOp (λ op span. op) sum_classes sight (Some (symbol, op)) = let P : Option (Symbol × BinaryOp) → Type 0 = λ z. LooksUp p.SumOp (λ op span. op) sum_classes sight z in subst P some looks in
    leads_as (leads_on way (leads_by (chosen_terms d m symbol (sym is ∙ found_here.0) found_here.3) (front_same (found_here.1 d m n span x) (front_same y (front_last p.SumRest d r))) (λ ps g. g)))
    (λ ys. sym (append_assoc all (operand op right ∷ []) ys) ∙ ap (λ z. z ++ ys) (sym e))

pub terms_no_sign : (d : ℕ) (s m : List Token) (all : List Operand) (sight : Seen) (found : Option (Symbol × BinaryOp)) (symbol : Symbol) (op : BinaryOp) (e : End Stop) → Terms d s m all
    → sight ≡ seen m → LooksUp p.SumOp (λ op span. op) sum_classes sight found → found ≡ Some (symbol, op) → StuckOne (Sign symbol) d m e → Stuck p.SumRest d s e
terms_no_sign d s m all sight found symbol op e way is looks some x =
    let found_here : LooksUp p.SumOp (λ op span. op) sum_classes sight (Some (symbol, op)) = let P : Option (Symbol × BinaryOp) → Type 0 = λ z. LooksUp p.SumOp (λ op span. op) sum_classes sight z in subst P some looks in
    leads_stuck way (chosen_stuck (chosen_terms d m symbol (sym is ∙ found_here.0) found_here.3) (at_same (found_here.2 d m e (sym is) x)))

pub terms_no_right : (d : ℕ) (s m n : List Token) (all : List Operand) (sight : Seen) (found : Option (Symbol × BinaryOp)) (symbol : Symbol) (op : BinaryOp) (span : Span) (e : End Stop) → Terms d s m all
    → sight ≡ seen m → LooksUp p.SumOp (λ op span. op) sum_classes sight found → found ≡ Some (symbol, op) → TookOne (Sign symbol) d m n span → Stuck (p.Prod p.Anywhere) d n e → Stuck p.SumRest d s e
terms_no_right d s m n all sight found symbol op span e way is looks some x y =
    let found_here : LooksUp p.SumOp (λ op span. op) sum_classes sight (Some (symbol, op)) = let P : Option (Symbol × BinaryOp) → Type 0 = λ z. LooksUp p.SumOp (λ op span. op) sum_classes sight z in subst P some looks in
    leads_stuck way (chosen_stuck (chosen_terms d m symbol (sym is ∙ found_here.0) found_here.3) (past_same (found_here.1 d m n span x) (at_same y)))

pub terms_end : (d : ℕ) (s m : List Token) (all : List Operand) (sight : Seen) (found : Option (Symbol × BinaryOp)) → Terms d s m all → sight ≡ seen m → LooksUp p.SumOp (λ op span. op) sum_classes sight found
    → ((x : Symbol × BinaryOp) → found ≡ Some x → ⊥) → Took p.SumRest d s m all
terms_end d s m all sight (Some x) way is looks unlike = absurd (unlike x refl)
terms_end d s m all sight None way is looks unlike =
    let P : List Operand → Type 0 = λ z. Took p.SumRest d s m z in subst P (append-nil all) (leads_took way (terms_over d m (looks d m (sym is))))

pub factors_over : (d : ℕ) (s : List Token) → Absent p.ProdOp d s → Took p.ProdRest d s s []
factors_over d s none = chosen_took (chosen_first alts.prod_ends alts.prod_more d s refl refl (λ t r e. no_alt_part alts.prod_more p.ProdOp (class_of t.kind) d refl (none t r e) refl) (λ ps g. tt)) (took_by alts.prod_ends (end_all d s))

chosen_factors : (d : ℕ) (s : List Token) (symbol : Symbol) → seen s ≡ seens.Symbol symbol → ((ps : Stack) → Refuses product_classes ps → after (ASign symbol) ps true ≡ []) → Chosen alts.prod_more d s
chosen_factors d s symbol h none = chosen_here alts.prod_more d s (ASign symbol) h none (append-nil _) (λ ps g. (tt, (g.1.1, (g, tt))))

-- what was read in the loop so far
abbrev pub Factors : ℕ → List Token → List Token → List Operand → Type 0
Factors d s m all = Leads p.ProdRest d s p.ProdRest m (λ ys. all ++ ys)

pub factors_begin : (d : ℕ) (s : List Token) (all : List Operand) → all ≡ [] → Factors d s s all
factors_begin d s all e = leads_as (leads_self p.ProdRest d s) (λ ys. ap (λ z. z ++ ys) (sym e))

pub factors_next : (d : ℕ) (s m n r : List Token) (all new : List Operand) (sight : Seen) (found : Option (Symbol × BinaryOp)) (symbol : Symbol) (op : BinaryOp) (span : Span) (right : Expr) → Factors d s m all
    → sight ≡ seen m → LooksUp p.ProdOp (λ op span. op) product_classes sight found → found ≡ Some (symbol, op) → TookOne (Sign symbol) d m n span → Took (p.Unary p.Anywhere) d n r right → new ≡ all ++ operand op right ∷ [] → Factors d s r new
factors_next d s m n r all new sight found symbol op span right way is looks some x y e =
    let found_here : LooksUp p.ProdOp (λ op span. op) product_classes sight (Some (symbol, op)) = let P : Option (Symbol × BinaryOp) → Type 0 = λ z. LooksUp p.ProdOp (λ op span. op) product_classes sight z in subst P some looks in
    leads_as (leads_on way (leads_by (chosen_factors d m symbol (sym is ∙ found_here.0) found_here.3) (front_same (found_here.1 d m n span x) (front_same y (front_last p.ProdRest d r))) (λ ps g. g)))
    (λ ys. sym (append_assoc all (operand op right ∷ []) ys) ∙ ap (λ z. z ++ ys) (sym e))

pub factors_no_sign : (d : ℕ) (s m : List Token) (all : List Operand) (sight : Seen) (found : Option (Symbol × BinaryOp)) (symbol : Symbol) (op : BinaryOp) (e : End Stop) → Factors d s m all
    → sight ≡ seen m → LooksUp p.ProdOp (λ op span. op) product_classes sight found → found ≡ Some (symbol, op) → StuckOne (Sign symbol) d m e → Stuck p.ProdRest d s e
factors_no_sign d s m all sight found symbol op e way is looks some x =
    let found_here : LooksUp p.ProdOp (λ op span. op) product_classes sight (Some (symbol, op)) = let P : Option (Symbol × BinaryOp) → Type 0 = λ z. LooksUp p.ProdOp (λ op span. op) product_classes sight z in subst P some looks in
    leads_stuck way (chosen_stuck (chosen_factors d m symbol (sym is ∙ found_here.0) found_here.3) (at_same (found_here.2 d m e (sym is) x)))

pub factors_no_right : (d : ℕ) (s m n : List Token) (all : List Operand) (sight : Seen) (found : Option (Symbol × BinaryOp)) (symbol : Symbol) (op : BinaryOp) (span : Span) (e : End Stop) → Factors d s m all
    → sight ≡ seen m → LooksUp p.ProdOp (λ op span. op) product_classes sight found → found ≡ Some (symbol, op) → TookOne (Sign symbol) d m n span → Stuck (p.Unary p.Anywhere) d n e → Stuck p.ProdRest d s e
factors_no_right d s m n all sight found symbol op span e way is looks some x y =
    let found_here : LooksUp p.ProdOp (λ op span. op) product_classes sight (Some (symbol, op)) = let P : Option (Symbol × BinaryOp) → Type 0 = λ z. LooksUp p.ProdOp (λ op span. op) product_classes sight z in subst P some looks in
    leads_stuck way (chosen_stuck (chosen_factors d m symbol (sym is ∙ found_here.0) found_here.3) (past_same (found_here.1 d m n span x) (at_same y)))

pub factors_end : (d : ℕ) (s m : List Token) (all : List Operand) (sight : Seen) (found : Option (Symbol × BinaryOp)) → Factors d s m all → sight ≡ seen m → LooksUp p.ProdOp (λ op span. op) product_classes sight found
    → ((x : Symbol × BinaryOp) → found ≡ Some x → ⊥) → Took p.ProdRest d s m all
factors_end d s m all sight (Some x) way is looks unlike = absurd (unlike x refl)
factors_end d s m all sight None way is looks unlike =
    let P : List Operand → Type 0 = λ z. Took p.ProdRest d s m z in subst P (append-nil all) (leads_took way (factors_over d m (looks d m (sym is))))

pub conjuncts_over : (d : ℕ) (s : List Token) → (seen s ≡ seens.Symbol symbols.AndAnd → ⊥) → Took p.Ands d s s []
conjuncts_over d s unlike = chosen_took (chosen_first alts.ands_end alts.ands_more d s refl refl (λ t r e. no_alt alts.ands_more (Sign symbols.AndAnd) (class_of t.kind) d refl (not_sign symbols.AndAnd s unlike t r e)) (λ ps g. tt)) (took_by alts.ands_end (end_all d s))

chosen_conjuncts : (d : ℕ) (s : List Token) → seen s ≡ seens.Symbol symbols.AndAnd → Chosen alts.ands_more d s
chosen_conjuncts d s h = chosen_here alts.ands_more d s (ASign symbols.AndAnd) h (λ ps g. g.0) refl (λ ps g. (g.1.1, (g, tt)))

-- what was read in the loop so far
abbrev pub Conjuncts : ℕ → List Token → List Token → List Operand → List Operand → Type 0
Conjuncts d s m before all = (xs : List Operand) × (all ≡ before ++ xs) × Leads p.Ands d s p.Ands m (λ ys. xs ++ ys)

pub conjuncts_begin : (d : ℕ) (s : List Token) (all : List Operand) → Conjuncts d s s all all
conjuncts_begin d s all = ([], sym (append-nil all), leads_self p.Ands d s)

pub conjuncts_next : (d : ℕ) (s m n r : List Token) (before all new : List Operand) (span : Span) (right : Expr) → Conjuncts d s m before all
    → TookOne (Sign symbols.AndAnd) d m n span → Took (p.Cmp p.Anywhere) d n r right → new ≡ all ++ operand binary.And right ∷ [] → Conjuncts d s r before new
conjuncts_next d s m n r before all new span right way x y e = (
  way.0 ++ operand binary.And right ∷ [],
  e ∙ ap (λ z. z ++ operand binary.And right ∷ []) way.1 ∙ append_assoc before way.0 (operand binary.And right ∷ []),
  leads_as (leads_on way.2 (leads_by (chosen_conjuncts d m (took_sign_seen symbols.AndAnd d m n span x)) (front_one x (front_same y (front_last p.Ands d r))) (λ ps g. g)))
      (λ ys. sym (append_assoc way.0 (operand binary.And right ∷ []) ys)),
)

pub conjuncts_no_sign : (d : ℕ) (s m : List Token) (before all : List Operand) (e : End Stop) → Conjuncts d s m before all → seen m ≡ seens.Symbol symbols.AndAnd → StuckOne (Sign symbols.AndAnd) d m e → Stuck p.Ands d s e
conjuncts_no_sign d s m before all e way h x = leads_stuck way.2 (chosen_stuck (chosen_conjuncts d m h) (at_one x))

pub conjuncts_no_right : (d : ℕ) (s m n : List Token) (before all : List Operand) (span : Span) (e : End Stop) → Conjuncts d s m before all → TookOne (Sign symbols.AndAnd) d m n span → Stuck (p.Cmp p.Anywhere) d n e → Stuck p.Ands d s e
conjuncts_no_right d s m n before all span e way x y = leads_stuck way.2 (chosen_stuck (chosen_conjuncts d m (took_sign_seen symbols.AndAnd d m n span x)) (past_one x (at_same y)))

pub conjuncts_end : (d : ℕ) (s m : List Token) (before all : List Operand) → Conjuncts d s m before all → (seen m ≡ seens.Symbol symbols.AndAnd → ⊥) → (xs : List Operand) × (all ≡ before ++ xs) × Took p.Ands d s m xs
conjuncts_end d s m before all way unlike =
    let P : List Operand → Type 0 = λ z. Took p.Ands d s m z in (way.0, way.1, subst P (append-nil way.0) (leads_took way.2 (conjuncts_over d m unlike)))

pub disjuncts_over : (d : ℕ) (s : List Token) → (seen s ≡ seens.Symbol symbols.OrOr → ⊥) → Took p.Ors d s s []
disjuncts_over d s unlike = chosen_took (chosen_first alts.ors_end alts.ors_more d s refl refl (λ t r e. no_alt alts.ors_more (Sign symbols.OrOr) (class_of t.kind) d refl (not_sign symbols.OrOr s unlike t r e)) (λ ps g. tt)) (took_by alts.ors_end (end_all d s))

chosen_disjuncts : (d : ℕ) (s : List Token) → seen s ≡ seens.Symbol symbols.OrOr → Chosen alts.ors_more d s
chosen_disjuncts d s h = chosen_here alts.ors_more d s (ASign symbols.OrOr) h (λ ps g. g.1.0) refl (λ ps g. (g.1.1, (g, tt)))

-- what was read in the loop so far
abbrev pub Disjuncts : ℕ → List Token → List Token → List Operand → List Operand → Type 0
Disjuncts d s m before all = (xs : List Operand) × (all ≡ before ++ xs) × Leads p.Ors d s p.Ors m (λ ys. xs ++ ys)

pub disjuncts_begin : (d : ℕ) (s : List Token) (all : List Operand) → Disjuncts d s s all all
disjuncts_begin d s all = ([], sym (append-nil all), leads_self p.Ors d s)

pub disjuncts_next : (d : ℕ) (s m n r : List Token) (before all new : List Operand) (span : Span) (right : Expr) → Disjuncts d s m before all
    → TookOne (Sign symbols.OrOr) d m n span → Took (p.Cmp p.Anywhere) d n r right → new ≡ all ++ operand binary.Or right ∷ [] → Disjuncts d s r before new
disjuncts_next d s m n r before all new span right way x y e = (
  way.0 ++ operand binary.Or right ∷ [],
  e ∙ ap (λ z. z ++ operand binary.Or right ∷ []) way.1 ∙ append_assoc before way.0 (operand binary.Or right ∷ []),
  leads_as (leads_on way.2 (leads_by (chosen_disjuncts d m (took_sign_seen symbols.OrOr d m n span x)) (front_one x (front_same y (front_last p.Ors d r))) (λ ps g. g)))
      (λ ys. sym (append_assoc way.0 (operand binary.Or right ∷ []) ys)),
)

pub disjuncts_no_sign : (d : ℕ) (s m : List Token) (before all : List Operand) (e : End Stop) → Disjuncts d s m before all → seen m ≡ seens.Symbol symbols.OrOr → StuckOne (Sign symbols.OrOr) d m e → Stuck p.Ors d s e
disjuncts_no_sign d s m before all e way h x = leads_stuck way.2 (chosen_stuck (chosen_disjuncts d m h) (at_one x))

pub disjuncts_no_right : (d : ℕ) (s m n : List Token) (before all : List Operand) (span : Span) (e : End Stop) → Disjuncts d s m before all → TookOne (Sign symbols.OrOr) d m n span → Stuck (p.Cmp p.Anywhere) d n e → Stuck p.Ors d s e
disjuncts_no_right d s m n before all span e way x y = leads_stuck way.2 (chosen_stuck (chosen_disjuncts d m (took_sign_seen symbols.OrOr d m n span x)) (past_one x (at_same y)))

pub disjuncts_end : (d : ℕ) (s m : List Token) (before all : List Operand) → Disjuncts d s m before all → (seen m ≡ seens.Symbol symbols.OrOr → ⊥) → (xs : List Operand) × (all ≡ before ++ xs) × Took p.Ors d s m xs
disjuncts_end d s m before all way unlike =
    let P : List Operand → Type 0 = λ z. Took p.Ors d s m z in (way.0, way.1, subst P (append-nil way.0) (leads_took way.2 (disjuncts_over d m unlike)))

pub compare_none : (d : ℕ) (s : List Token) (all : List Operand) (sight : Seen) (found : Option (Symbol × BinaryOp)) → sight ≡ seen s → LooksUp p.CompareOp (λ op span. op) comparison_classes sight found
    → ((x : Symbol × BinaryOp) → found ≡ Some x → ⊥) → all ≡ [] → Took p.MayCompare d s s all
compare_none d s all sight (Some x) is looks unlike e = absurd (unlike x refl)
compare_none d s all sight None is looks unlike e = chosen_took (chosen_no_compare d s (looks d s (sym is))) (took_as alts.no_compare (end_all d s) (sym e))

pub compare_no_sign : (d : ℕ) (s : List Token) (e : End Stop) (sight : Seen) (found : Option (Symbol × BinaryOp)) (symbol : Symbol) (op : BinaryOp) → sight ≡ seen s → LooksUp p.CompareOp (λ op span. op) comparison_classes sight found → found ≡ Some (symbol, op) → StuckOne (Sign symbol) d s e → Stuck p.MayCompare d s e
compare_no_sign d s e sight found symbol op is looks some x =
    let found_here : LooksUp p.CompareOp (λ op span. op) comparison_classes sight (Some (symbol, op)) = let P : Option (Symbol × BinaryOp) → Type 0 = λ z. LooksUp p.CompareOp (λ op span. op) comparison_classes sight z in subst P some looks in
    chosen_stuck (chosen_compare d s symbol (sym is ∙ found_here.0) found_here.3) (at_same (found_here.2 d s e (sym is) x))

pub compare_no_right : (d : ℕ) (s m : List Token) (span : Span) (e : End Stop) (sight : Seen) (found : Option (Symbol × BinaryOp)) (symbol : Symbol) (op : BinaryOp) → sight ≡ seen s → LooksUp p.CompareOp (λ op span. op) comparison_classes sight found → found ≡ Some (symbol, op) → TookOne (Sign symbol) d s m span → Stuck (p.Sum p.Anywhere) d m e → Stuck p.MayCompare d s e
compare_no_right d s m span e sight found symbol op is looks some x y =
    let found_here : LooksUp p.CompareOp (λ op span. op) comparison_classes sight (Some (symbol, op)) = let P : Option (Symbol × BinaryOp) → Type 0 = λ z. LooksUp p.CompareOp (λ op span. op) comparison_classes sight z in subst P some looks in
    chosen_stuck (chosen_compare d s symbol (sym is ∙ found_here.0) found_here.3) (past_same (found_here.1 d s m span x) (at_same y))

pub compare_some : (d : ℕ) (s m r : List Token) (span : Span) (right : Expr) (all : List Operand) (sight : Seen) (found : Option (Symbol × BinaryOp)) (symbol : Symbol) (op : BinaryOp) → sight ≡ seen s → LooksUp p.CompareOp (λ op span. op) comparison_classes sight found → found ≡ Some (symbol, op) → TookOne (Sign symbol) d s m span → Took (p.Sum p.Anywhere) d m r right → all ≡ operand op right ∷ []
    → Took p.MayCompare d s r all
compare_some d s m r span right all sight found symbol op is looks some x y e =
    let found_here : LooksUp p.CompareOp (λ op span. op) comparison_classes sight (Some (symbol, op)) = let P : Option (Symbol × BinaryOp) → Type 0 = λ z. LooksUp p.CompareOp (λ op span. op) comparison_classes sight z in subst P some looks in
    chosen_took (chosen_compare d s symbol (sym is ∙ found_here.0) found_here.3) (took_as alts.compare (and_same (found_here.1 d s m span x) (and_same y (end_all d r))) (sym e))

pub chosen_post_alone : (h : Start) (d : ℕ) (s : List Token) (sight : Seen) (found : Option (Symbol × PrefixOp)) → sight ≡ seen s → LooksUp p.PrefixOp (λ op span. (op, span)) prefix_classes sight found
    → ((x : Symbol × PrefixOp) → found ≡ Some x → ⊥) → Chosen (alts.post_alone {h = h}) d s
chosen_post_alone h d s sight (Some x) is looks unlike = absurd (unlike x refl)
chosen_post_alone h d s sight None is looks unlike =
    chosen_second (alts.prefix {h = h}) (alts.post_alone {h = h}) d s refl refl (λ t r e. no_alt_part (alts.prefix {h = h}) p.PrefixOp (class_of t.kind) d refl (looks d s (sym is) t r e) refl) (λ ps g. (g, tt))

pub alone_reads : (h : Start) (d : ℕ) (s r : List Token) (result : Result Expr (End Stop)) → Reads (p.Post h) d s result r → ReadsBy (alts.post_alone {h = h}) d s result r
alone_reads h d s r (Ok t) x = took_as (alts.post_alone {h = h}) (and_same x (end_all d r)) refl
alone_reads h d s r (Err e) x = at_same x

found_none : (ls : List Left) → map (onto [] true) ls ++ [] ≡ [] → ls ≡ []
found_none [] e = refl
found_none (l ∷ ls) e = cc

post_refuses : (h : Start) (d : ℕ) → Refuses prefix_classes ((same (p.Post h), d) ∷ [])
post_refuses p.Anywhere d = (refl, (refl, (refl, tt)))
post_refuses p.InValue d = (refl, (refl, (refl, tt)))
post_refuses p.InRun d = (refl, (refl, (refl, tt)))
post_refuses p.InStmt d = (refl, (refl, (refl, tt)))
post_refuses p.BehindIf d = (refl, (refl, (refl, tt)))

chosen_prefix : (h : Start) (d : ℕ) (s : List Token) (symbol : Symbol) → seen s ≡ seens.Symbol symbol → ((ps : Stack) → Refuses prefix_classes ps → after (ASign symbol) ps true ≡ []) → Chosen (alts.prefix {h = h}) d s
chosen_prefix h d s symbol is among =
    chosen_first (alts.prefix {h = h}) (alts.post_alone {h = h}) d s refl refl
    (λ t r e. no_alt_part (alts.post_alone {h = h}) (p.Post h) (class_of t.kind) d refl
    (subst (λ z. first longest_chain z (same (p.Post h)) d ≡ []) (sym (seen_same (class_of t.kind) (ASign symbol) (sym (ap seen e) ∙ is)))
    (found_none (first longest_chain (ASign symbol) (same (p.Post h)) d) (among ((same (p.Post h), d) ∷ []) (post_refuses h d)))) refl)
    (λ ps g. (tt, (g, tt)))

pub prefix_no_sign : (h : Start) (d : ℕ) (s : List Token) (e : End Stop) (sight : Seen) (found : Option (Symbol × PrefixOp)) (symbol : Symbol) (op : PrefixOp) → sight ≡ seen s → LooksUp p.PrefixOp (λ op span. (op, span)) prefix_classes sight found → found ≡ Some (symbol, op) → StuckOne (Sign symbol) d s e → Stuck (p.Unary h) d s e
prefix_no_sign h d s e sight found symbol op is looks some x =
    let found_here : LooksUp p.PrefixOp (λ op span. (op, span)) prefix_classes sight (Some (symbol, op)) = let P : Option (Symbol × PrefixOp) → Type 0 = λ z. LooksUp p.PrefixOp (λ op span. (op, span)) prefix_classes sight z in subst P some looks in
    chosen_stuck (chosen_prefix h d s symbol (sym is ∙ found_here.0) found_here.3) (at_same (found_here.2 d s e (sym is) x))

pub prefix_no_operand : (h : Start) (d : ℕ) (s m : List Token) (span : Span) (e : End Stop) (sight : Seen) (found : Option (Symbol × PrefixOp)) (symbol : Symbol) (op : PrefixOp) → sight ≡ seen s → LooksUp p.PrefixOp (λ op span. (op, span)) prefix_classes sight found → found ≡ Some (symbol, op) → TookOne (Sign symbol) d s m span → Stuck (p.Unary p.Anywhere) (d + 1) m e → Stuck (p.Unary h) d s e
prefix_no_operand h d s m span e sight found symbol op is looks some x y =
    let found_here : LooksUp p.PrefixOp (λ op span. (op, span)) prefix_classes sight (Some (symbol, op)) = let P : Option (Symbol × PrefixOp) → Type 0 = λ z. LooksUp p.PrefixOp (λ op span. (op, span)) prefix_classes sight z in subst P some looks in
    chosen_stuck (chosen_prefix h d s symbol (sym is ∙ found_here.0) found_here.3) (past_same (found_here.1 d s m span x) (at_deep d y))

pub prefix_some : (h : Start) (d : ℕ) (s m r : List Token) (span : Span) (inner made : Expr) (sight : Seen) (found : Option (Symbol × PrefixOp)) (symbol : Symbol) (op : PrefixOp) → sight ≡ seen s → LooksUp p.PrefixOp (λ op span. (op, span)) prefix_classes sight found → found ≡ Some (symbol, op) → TookOne (Sign symbol) d s m span → Took (p.Unary p.Anywhere) (d + 1) m r inner
    → made ≡ exprs.Prefix op inner (join span (expr_span inner)) → Took (p.Unary h) d s r made
prefix_some h d s m r span inner made sight found symbol op is looks some x y e =
    let found_here : LooksUp p.PrefixOp (λ op span. (op, span)) prefix_classes sight (Some (symbol, op)) = let P : Option (Symbol × PrefixOp) → Type 0 = λ z. LooksUp p.PrefixOp (λ op span. (op, span)) prefix_classes sight z in subst P some looks in
    chosen_took (chosen_prefix h d s symbol (sym is ∙ found_here.0) found_here.3) (took_as (alts.prefix {h = h}) (and_same (found_here.1 d s m span x) (and_deep d y (end_all d r))) (sym e))

pub onto_error : {A : Type 0} (p : Part) (made_of : List A → Tree p) (d : ℕ) (all : List A) (s r : List Token) (e : End Stop) (result : Result (List A) (End Stop)) → IsErrAnd result (λ y. y ≡ e) → Stuck p d s e → ReadsOnto p made_of d all s result r
onto_error p made_of d all s r e result h k = by_error (λ z. ReadsOnto p made_of d all s z r) e result h k

pub onto_memory : {A : Type 0} (p : Part) (made_of : List A → Tree p) (d : ℕ) (all : List A) (s r : List Token) (result : Result (List A) (End Stop)) → IsErrAnd result (λ y. y ≡ endings.Memory) → ReadsOnto p made_of d all s result r
onto_memory p made_of d all s r result h = onto_error p made_of d all s r endings.Memory result h (no_memory p d s)

pub conjuncts_all : (d : ℕ) (s m n r : List Token) (span : Span) (right : Expr) (first : List Operand) (result : Result (List Operand) (End Stop)) → TookOne (Sign symbols.AndAnd) d s m span → Took (p.Cmp p.Anywhere) d m n right
    → first ≡ operand binary.And right ∷ [] → ReadsOnto p.Ands (λ xs. xs) d first n result r → ReadsBy alts.logic_and d s result r
conjuncts_all d s m n r span right first (Ok list) x y e z = took_as alts.logic_and (and_one x (and_same y (and_same z.2 (end_all d r)))) (ap (λ w. w ++ z.0) (sym e) ∙ sym z.1)
conjuncts_all d s m n r span right first (Err end) x y e z = past_one x (past_same y (at_same z))

pub disjuncts_all : (d : ℕ) (s m n r : List Token) (span : Span) (right : Expr) (first : List Operand) (result : Result (List Operand) (End Stop)) → TookOne (Sign symbols.OrOr) d s m span → Took (p.Cmp p.Anywhere) d m n right
    → first ≡ operand binary.Or right ∷ [] → ReadsOnto p.Ors (λ xs. xs) d first n result r → ReadsBy alts.logic_or d s result r
disjuncts_all d s m n r span right first (Ok list) x y e z = took_as alts.logic_or (and_one x (and_same y (and_same z.2 (end_all d r)))) (ap (λ w. w ++ z.0) (sym e) ∙ sym z.1)
disjuncts_all d s m n r span right first (Err end) x y e z = past_one x (past_same y (at_same z))
