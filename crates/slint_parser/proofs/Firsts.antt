-- Expressions of one token or behind an opening one: which production is chosen where.
use Rattle.std.proofs.Common.{◌≡◌, ℕ, Bool, true, false, ◌&&◌, ◌⊎◌, inl, inr, List, [], ◌∷◌, ◌++◌, drop, nat_le, sym, refl, ap, ◌∙◌, subst, append-nil}
use Rattle.std.proofs.lemmas.Bool.{false≢true}
use Rattle.std.specs.Prelude.{Option, Ok}
use Rattle.slint_base.specs.declared.faults.Span.{Span}
use Rattle.slint_lexer.specs.declared.tokens.Symbol.TheVariants as symbols
use Rattle.slint_lexer.specs.declared.tokens.Token.{Token}
use Rattle.syntax_tree.specs.declared.expressions.Expr.{Expr}
use Rattle.syntax_tree.specs.declared.expressions.Expr.TheVariants as exprs
use Rattle.syntax_tree.specs.declared.words.Quoted.{Quoted}
use Rattle.slint_grammar.specs.declared.words.Word.{Word}
use Rattle.slint_grammar.specs.declared.words.Word.TheVariants as words
use Rattle.slint_parser.specs.declared.stops.Seen.TheVariants as seens
use Rattle.slint_grammar.specs.Trees.{join}
use Rattle.slint_grammar.specs.Parts as p
use Rattle.slint_grammar.specs.Parts.{Start, begins_struct, words_at}
use Rattle.slint_grammar.specs.Grammar.{slots, one, same, symbol, word, text, Sign, SignWhere, TheWord, NameBut, AColour, AText, AHead}
use Rattle.slint_grammar.specs.Grammar.{Alt as alts}
use Rattle.slint_grammar.specs.Derivations.{Class, ASign, AWord, ColourClass, TextClass, HeadClass, class_of, fits, is_sign, deepest_token}
use Rattle.slint_grammar.specs.Stacks.{Stack, at_depth, after, run}
use Rattle.slint_parser.specs.Readings.{seen, seen_of, at, TookOne, Took, TookBy, MoreArguments, shows_name_but, IsSingle, expr_classes}
use Rattle.slint_parser.proofs.Signs.{not_sign, not_word, text_agrees, colour_agrees, head_agrees}
use Rattle.slint_parser.proofs.Among.{chosen_among}
use Rattle.slint_grammar.proofs.Steps.{Lost, by_what_stays}
use Rattle.slint_parser.proofs.Picks.{pick_first, pick_second, lost_one}
use Rattle.slint_parser.proofs.Joining.{Chosen, chosen_at, seen_same, seen_not_end, no_alt, refuses_all, took_as, and_one, and_same, end_all}

paren_after : (h : Start) (d : ℕ) (ps : Stack) → after (ASign symbols.OpenParen) ((same (p.Prim h), d) ∷ ps) true ≡ after (ASign symbols.OpenParen) (at_depth d (slots (alts.paren {h = h})) ++ ps) true
paren_after p.Anywhere d ps = refl
paren_after p.InValue d ps = refl
paren_after p.InRun d ps = refl
paren_after p.InStmt d ps = refl
paren_after p.BehindIf d ps = refl

pub chosen_paren : (h : Start) (d : ℕ) (s : List Token) → seen s ≡ seen_of (ASign symbols.OpenParen) → Chosen (alts.paren {h = h}) d s
chosen_paren h d s e = chosen_at (alts.paren {h = h}) d s (ASign symbols.OpenParen) e (λ ps g. paren_after h d ps) (λ ps g. (refuses_all expr_classes ((symbol symbols.CloseParen, d) ∷ ps) refl, tt))

array_after : (h : Start) (d : ℕ) (ps : Stack) → after (ASign symbols.OpenBracket) ((same (p.Prim h), d) ∷ ps) true ≡ after (ASign symbols.OpenBracket) (at_depth d (slots (alts.array {h = h})) ++ ps) true
array_after p.Anywhere d ps = refl
array_after p.InValue d ps = refl
array_after p.InRun d ps = refl
array_after p.InStmt d ps = refl
array_after p.BehindIf d ps = refl

pub chosen_array : (h : Start) (d : ℕ) (s : List Token) → seen s ≡ seen_of (ASign symbols.OpenBracket) → Chosen (alts.array {h = h}) d s
chosen_array h d s e = chosen_at (alts.array {h = h}) d s (ASign symbols.OpenBracket) e (λ ps g. array_after h d ps) (λ ps g. (tt, tt))

template_after : (h : Start) (d : ℕ) (ps : Stack) → after (HeadClass) ((same (p.Prim h), d) ∷ ps) true ≡ after (HeadClass) (at_depth d (slots (alts.template {h = h})) ++ ps) true
template_after p.Anywhere d ps = refl
template_after p.InValue d ps = refl
template_after p.InRun d ps = refl
template_after p.InStmt d ps = refl
template_after p.BehindIf d ps = refl

pub chosen_template : (h : Start) (d : ℕ) (s : List Token) → seen s ≡ seen_of (HeadClass) → Chosen (alts.template {h = h}) d s
chosen_template h d s e = chosen_at (alts.template {h = h}) d s (HeadClass) e (λ ps g. template_after h d ps) (λ ps g. (refuses_all expr_classes ((same p.Holes, d) ∷ ps) refl, (tt, tt)))

text_after : (h : Start) (d : ℕ) (ps : Stack) → after (TextClass) ((same (p.Prim h), d) ∷ ps) true ≡ after (TextClass) (at_depth d (slots (alts.text_literal {h = h})) ++ ps) true
text_after p.Anywhere d ps = refl
text_after p.InValue d ps = refl
text_after p.InRun d ps = refl
text_after p.InStmt d ps = refl
text_after p.BehindIf d ps = refl

pub chosen_text : (h : Start) (d : ℕ) (s : List Token) → seen s ≡ seen_of (TextClass) → Chosen (alts.text_literal {h = h}) d s
chosen_text h d s e = chosen_at (alts.text_literal {h = h}) d s (TextClass) e (λ ps g. text_after h d ps) (λ ps g. tt)

colour_after : (h : Start) (d : ℕ) (ps : Stack) → after (ColourClass) ((same (p.Prim h), d) ∷ ps) true ≡ after (ColourClass) (at_depth d (slots (alts.colour_literal {h = h})) ++ ps) true
colour_after p.Anywhere d ps = refl
colour_after p.InValue d ps = refl
colour_after p.InRun d ps = refl
colour_after p.InStmt d ps = refl
colour_after p.BehindIf d ps = refl

pub chosen_colour : (h : Start) (d : ℕ) (s : List Token) → seen s ≡ seen_of (ColourClass) → Chosen (alts.colour_literal {h = h}) d s
chosen_colour h d s e = chosen_at (alts.colour_literal {h = h}) d s (ColourClass) e (λ ps g. colour_after h d ps) (λ ps g. tt)

struct_after : (h : Start) (d : ℕ) (ps : Stack) → begins_struct h ≡ true → after (ASign symbols.OpenBrace) ((same (p.Prim h), d) ∷ ps) true ≡ after (ASign symbols.OpenBrace) (at_depth d (slots (alts.struct {h = h})) ++ ps) true
struct_after p.Anywhere d ps may = refl
struct_after p.InValue d ps may = refl
struct_after p.InRun d ps may = refl
struct_after p.InStmt d ps may = refl
struct_after p.BehindIf d ps may = refl

pub chosen_struct : (h : Start) (d : ℕ) (s : List Token) → begins_struct h ≡ true → seen s ≡ seens.Symbol symbols.OpenBrace → Chosen (alts.struct {h = h}) d s
chosen_struct h d s may e = chosen_at (alts.struct {h = h}) d s (ASign symbols.OpenBrace) e (λ ps g. struct_after h d ps may) (λ ps g. (tt, tt))

name_after : (h : Start) (w : Word) (d : ℕ) (ps : Stack) → fits (NameBut (words_at h)) (AWord w) ≡ true → after (AWord w) ((same (p.Prim h), d) ∷ ps) true ≡ after (AWord w) (at_depth d (slots (alts.name_alone {h = h})) ++ ps) true
name_after p.Anywhere w d ps may = refl
name_after p.InValue w d ps may = refl
name_after p.InRun w d ps may = refl
name_after p.InStmt w d ps may = rw may refl
name_after p.BehindIf w d ps may = rw may refl

name_class : (ws : List Word) (c : Class) → fits (NameBut ws) c ≡ true → (w : Word) × (c ≡ AWord w)
name_class ws (AWord w) e = (w, refl)
name_class ws _ e = absurd (false≢true e)

pub chosen_name : (h : Start) (d : ℕ) (s : List Token) → shows_name_but (words_at h) s ≡ true → Chosen (alts.name_alone {h = h}) d s
chosen_name h d [] may = absurd (false≢true may)
chosen_name h d (t ∷ r) may =
    let w = name_class (words_at h) (class_of t.kind) may in
    let P : Class → Type 0 = λ z. fits (NameBut (words_at h)) z ≡ true in
    chosen_at (alts.name_alone {h = h}) d (t ∷ r) (AWord w.0) (ap seen_of w.1) (λ ps g. name_after h w.0 d ps (subst P w.1 may)) (λ ps g. tt)

struct_where : (b : Bool) (s : List Token) → (b ≡ false) ⊎ (seen s ≡ seens.Symbol symbols.OpenBrace → ⊥) → (t : Token) (r : List Token) → s ≡ t ∷ r → (b && is_sign symbols.OpenBrace (class_of t.kind)) ≡ false
struct_where b s (inl e) t r f = ap (λ z. z && is_sign symbols.OpenBrace (class_of t.kind)) e
struct_where true s (inr unlike) t r f = not_sign symbols.OpenBrace s unlike t r f
struct_where false s (inr unlike) t r f = refl

-- what is none of the other expressions can only be a number
pub chosen_number : (h : Start) (d : ℕ) (s : List Token) → IsSingle h s → (seen s ≡ seens.Text → ⊥) → (seen s ≡ seens.Colour → ⊥) → shows_name_but (words_at h) s ≡ false → Chosen (alts.number_literal {h = h}) d s
chosen_number h d s single no_text no_colour no_name = chosen_among [] (alts.number_literal {h = h})
    (alts.colour_literal ∷ alts.text_literal ∷ alts.template ∷ alts.name_alone ∷ alts.paren ∷ alts.array ∷ alts.struct ∷ alts.image_url ∷ alts.tr ∷ []) d s refl refl
    (λ t r e. (
      tt,
      (
        no_alt (alts.colour_literal {h = h}) AColour (class_of t.kind) d refl (colour_agrees s false (λ z. absurd (false≢true z)) (λ z. absurd (no_colour z)) t r e),
        (
          no_alt (alts.text_literal {h = h}) AText (class_of t.kind) d refl (text_agrees s false (λ z. absurd (false≢true z)) (λ z. absurd (no_text z)) t r e),
          (
            no_alt (alts.template {h = h}) AHead (class_of t.kind) d refl (head_agrees s false (λ z. absurd (false≢true z)) (λ z. absurd (single.3 z)) t r e),
            (
              no_alt (alts.name_alone {h = h}) (NameBut (words_at h)) (class_of t.kind) d refl (ap (shows_name_but (words_at h)) (sym e) ∙ no_name),
              (
                no_alt (alts.paren {h = h}) (Sign symbols.OpenParen) (class_of t.kind) d refl (not_sign symbols.OpenParen s single.0 t r e),
                (
                  no_alt (alts.array {h = h}) (Sign symbols.OpenBracket) (class_of t.kind) d refl (not_sign symbols.OpenBracket s single.1 t r e),
                  (
                    no_alt (alts.struct {h = h}) (SignWhere (begins_struct h) symbols.OpenBrace) (class_of t.kind) d refl (struct_where (begins_struct h) s single.4 t r e),
                    (
                      no_alt (alts.image_url {h = h}) (Sign symbols.At) (class_of t.kind) d refl (not_sign symbols.At s single.2 t r e),
                      (no_alt (alts.tr {h = h}) (Sign symbols.At) (class_of t.kind) d refl (not_sign symbols.At s single.2 t r e), tt),
                    ),
                  ),
                ),
              ),
            ),
          ),
        ),
      ),
    ))
    (λ ps g. tt)

at_front : (h : Start) (d : ℕ) (ps : Stack) → after (ASign symbols.At) ((same (p.Prim h), d) ∷ ps) true
    ≡ (at_depth d (word words.ImageUrl ∷ symbol symbols.OpenParen ∷ text ∷ symbol symbols.CloseParen ∷ []) ++ ps, nat_le d deepest_token)
    ∷ (at_depth d (word words.Tr ∷ symbol symbols.OpenParen ∷ same p.TrText ∷ same (p.Rest p.Arguments) ∷ []) ++ ps, nat_le d deepest_token) ∷ []
at_front p.Anywhere d ps = refl
at_front p.InValue d ps = refl
at_front p.InRun d ps = refl
at_front p.InStmt d ps = refl
at_front p.BehindIf d ps = refl

pub chosen_image : (h : Start) (d : ℕ) (s : List Token) → seen s ≡ seens.Symbol symbols.At → seen (drop 1 s) ≡ seens.Word words.ImageUrl → Chosen (alts.image_url {h = h}) d s
chosen_image h d s e k = record {
  same_run = λ ps g. pick_first (ASign symbols.At) s ((same (p.Prim h), d) ∷ ps) (at_depth d (slots (alts.image_url {h = h})) ++ ps)
      (at_depth d (word words.ImageUrl ∷ symbol symbols.OpenParen ∷ text ∷ symbol symbols.CloseParen ∷ []) ++ ps)
      (at_depth d (word words.Tr ∷ symbol symbols.OpenParen ∷ same p.TrText ∷ same (p.Rest p.Arguments) ∷ []) ++ ps) (nat_le d deepest_token) e (at_front h d ps) refl
      (lost_one (TheWord words.Tr) d (at_depth d (symbol symbols.OpenParen ∷ same p.TrText ∷ same (p.Rest p.Arguments) ∷ []) ++ ps) (drop 1 s)
      (λ t r f. not_word words.Tr (drop 1 s) (λ q. let clash : seens.Word words.Tr ≡ seens.Word words.ImageUrl = sym q ∙ k in cc) t r f));
  fit = λ ps g. tt;
}

pub chosen_tr : (h : Start) (d : ℕ) (s : List Token) → seen s ≡ seens.Symbol symbols.At → (seen (drop 1 s) ≡ seens.Word words.ImageUrl → ⊥) → Chosen (alts.tr {h = h}) d s
chosen_tr h d s e k = record {
  same_run = λ ps g. pick_second (ASign symbols.At) s ((same (p.Prim h), d) ∷ ps) (at_depth d (slots (alts.tr {h = h})) ++ ps)
      (at_depth d (word words.ImageUrl ∷ symbol symbols.OpenParen ∷ text ∷ symbol symbols.CloseParen ∷ []) ++ ps)
      (at_depth d (word words.Tr ∷ symbol symbols.OpenParen ∷ same p.TrText ∷ same (p.Rest p.Arguments) ∷ []) ++ ps) (nat_le d deepest_token) e (at_front h d ps) refl
      (lost_one (TheWord words.ImageUrl) d (at_depth d (symbol symbols.OpenParen ∷ text ∷ symbol symbols.CloseParen ∷ []) ++ ps) (drop 1 s) (not_word words.ImageUrl (drop 1 s) k));
  fit = λ ps g. ((refl, tt), (tt, tt));
}

-- ---- the text that is translated

text_or : (d : ℕ) (ps : Stack) (c : Class) → (c ≡ TextClass)
    ⊎ ((after c ((same p.TrText, d) ∷ ps) true ≡ []) × (after c ((one AText, d) ∷ ps) true ≡ []) × (after c (at_depth d (slots alts.tr_context) ++ ps) true ≡ []))
text_or d ps TextClass = inl refl
text_or d ps _ = inr (refl, refl, refl)

tr_run : (d : ℕ) (s : List Token) (ps : Stack) → (seen (drop 1 s) ≡ seens.Symbol symbols.FatArrow → ⊥) → run s (at ((same p.TrText, d) ∷ ps)) ≡ run s (at ((one AText, d) ∷ ps))
tr_run d [] ps unlike = refl
tr_run d (t ∷ r) ps unlike = by_case (text_or d ps (class_of t.kind))
  where
    by_case : (class_of t.kind ≡ TextClass) ⊎ ((after (class_of t.kind) ((same p.TrText, d) ∷ ps) true ≡ []) × (after (class_of t.kind) ((one AText, d) ∷ ps) true ≡ []) × (after (class_of t.kind) (at_depth d (slots alts.tr_context) ++ ps) true ≡ []))
        → run (t ∷ r) (at ((same p.TrText, d) ∷ ps)) ≡ run (t ∷ r) (at ((one AText, d) ∷ ps))
    by_case (inl e) = pick_first TextClass (t ∷ r) ((same p.TrText, d) ∷ ps) ((one AText, d) ∷ ps) ps ((symbol symbols.FatArrow, d) ∷ (text, d) ∷ ps) (nat_le d deepest_token) (ap seen_of e) refl refl
        (lost_one (Sign symbols.FatArrow) d ((text, d) ∷ ps) r (not_sign symbols.FatArrow r unlike))
    by_case (inr e) = by_what_stays t r (at ((same p.TrText, d) ∷ ps)) (at ((one AText, d) ∷ ps)) (ap (λ z. z ++ []) (e.0 ∙ sym e.1))

pub chosen_tr_text : (d : ℕ) (s : List Token) → (seen (drop 1 s) ≡ seens.Symbol symbols.FatArrow → ⊥) → Chosen alts.tr_text d s
chosen_tr_text d s unlike = record { same_run = λ ps g. tr_run d s ps unlike; fit = λ ps g. tt }

lost_arrow : (r : List Token) (ps : Stack) → seen r ≡ seens.Symbol symbols.FatArrow → after (ASign symbols.FatArrow) ps true ≡ [] → Lost r ((ps, true) ∷ [])
lost_arrow [] ps e g = absurd (seen_not_end (ASign symbols.FatArrow) e)
lost_arrow (t ∷ r) ps e g = append-nil (after (class_of t.kind) ps true) ∙ ap (λ z. after z ps true) (seen_same (class_of t.kind) (ASign symbols.FatArrow) e) ∙ g

context_run : (d : ℕ) (s : List Token) (ps : Stack) → seen (drop 1 s) ≡ seens.Symbol symbols.FatArrow → after (ASign symbols.FatArrow) ps true ≡ [] → run s (at ((same p.TrText, d) ∷ ps)) ≡ run s (at (at_depth d (slots alts.tr_context) ++ ps))
context_run d [] ps e g = refl
context_run d (t ∷ r) ps e g = by_case (text_or d ps (class_of t.kind))
  where
    by_case : (class_of t.kind ≡ TextClass) ⊎ ((after (class_of t.kind) ((same p.TrText, d) ∷ ps) true ≡ []) × (after (class_of t.kind) ((one AText, d) ∷ ps) true ≡ []) × (after (class_of t.kind) (at_depth d (slots alts.tr_context) ++ ps) true ≡ []))
        → run (t ∷ r) (at ((same p.TrText, d) ∷ ps)) ≡ run (t ∷ r) (at (at_depth d (slots alts.tr_context) ++ ps))
    by_case (inl k) = pick_second TextClass (t ∷ r) ((same p.TrText, d) ∷ ps) (at_depth d (slots alts.tr_context) ++ ps) ps ((symbol symbols.FatArrow, d) ∷ (text, d) ∷ ps) (nat_le d deepest_token) (ap seen_of k) refl refl
        (lost_arrow r ps e g)
    by_case (inr k) = by_what_stays t r (at ((same p.TrText, d) ∷ ps)) (at (at_depth d (slots alts.tr_context) ++ ps)) (ap (λ z. z ++ []) (k.0 ∙ sym k.2))

pub chosen_tr_context : (d : ℕ) (s : List Token) → seen (drop 1 s) ≡ seens.Symbol symbols.FatArrow → Chosen alts.tr_context d s
chosen_tr_context d s e = record { same_run = λ ps g. context_run d s ps e g.0; fit = λ ps g. tt }

pub translation_all : (h : Start) (d : ℕ) (s m n o q r : List Token) (at_sign w paren close : Span) (context : Option Quoted) (quoted : Quoted) (none arguments : List Expr) (span : Span) (made : Expr) → TookOne (Sign symbols.At) d s m at_sign → TookOne (TheWord words.Tr) d m n w
    → TookOne (Sign symbols.OpenParen) d n o paren → Took p.TrText d o q (context, quoted) → none ≡ [] → MoreArguments d none q (Ok (arguments, close)) r → span ≡ join at_sign close → made ≡ exprs.Tr context quoted arguments span
    → TookBy (alts.tr {h = h}) d s r made
translation_all h d s m n o q r at_sign w paren close context quoted none arguments span made x y z u e v f g =
    took_as (alts.tr {h = h}) (and_one x (and_one y (and_one z (and_same u (and_same v.2 (end_all d r))))))
    (ap (λ a. exprs.Tr context quoted a (join at_sign close)) (ap (λ b. b ++ v.0) (sym e) ∙ sym v.1) ∙ ap (λ a. exprs.Tr context quoted arguments a) (sym f) ∙ sym g)
