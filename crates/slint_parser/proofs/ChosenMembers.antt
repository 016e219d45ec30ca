-- Which productions read the members of components and globals, and what is read of the points of a path.
use Rattle.std.proofs.Common.{◌≡◌, ℕ, Bool, true, cond, nat_le, map, List, [], ◌∷◌, ◌++◌, sym, refl, ap, ◌∙◌, subst, append-nil, append_assoc}
use Rattle.std.specs.Prelude.{Result, Ok, Err}
use Rattle.std.specs.Result.{IsErrAnd}
use Rattle.syntax_tree.specs.declared.items.Access.{Access}
use Rattle.syntax_tree.specs.declared.items.Function.{Function}
use Rattle.syntax_tree.specs.declared.items.Property.{Property}
use Rattle.slint_grammar.specs.declared.words.Word.{Word}
use Rattle.slint_base.specs.declared.faults.Span.{Span}
use Rattle.slint_base.specs.declared.endings.End.{End}
use Rattle.slint_lexer.specs.declared.tokens.Symbol.TheVariants as symbols
use Rattle.slint_lexer.specs.declared.tokens.Token.{Token}
use Rattle.syntax_tree.specs.declared.words.Ident.{Ident}
use Rattle.syntax_tree.specs.declared.items.Mark.{Mark}
use Rattle.syntax_tree.specs.declared.items.Mark.TheVariants as marks
use Rattle.slint_grammar.specs.declared.words.Word.TheVariants as words
use Rattle.slint_parser.specs.declared.stops.Stop.{Stop}
use Rattle.slint_parser.specs.declared.stops.Seen.TheVariants as seens
use Rattle.slint_grammar.specs.Parts as parts
use Rattle.slint_grammar.specs.Grammar.{Sign, TheWord, AnyName, NameBut, one}
use Rattle.slint_grammar.specs.Grammar.{Alt as alts}
use Rattle.slint_grammar.specs.Derivations.{Class, ASign, AWord, NumberClass, ColourClass, TextClass, HeadClass, MidClass, TailClass, class_of, fits, deepest_token}
use Rattle.slint_grammar.specs.Stacks.{Stack, onto, run}
use Rattle.slint_base.specs.declared.endings.End.TheVariants as endings
use Rattle.std.proofs.lemmas.Bool.{false≢true}
use Rattle.slint_grammar.proofs.Steps.{by_what_stays}
use Rattle.slint_parser.specs.Readings.{seen, at, outcome, ReadsOne, TookOne, StuckOne, Took, Stuck, StuckAll, Reads, ReadsBy}
use Rattle.slint_parser.specs.Members.{marked, ReadsMark, MayName, typed_rest, ReadsTyped, untyped_rest, ReadsUntyped, function_rest, ReadsFunctionRest}
use Rattle.slint_parser.proofs.Signs.{not_sign, not_word}
use Rattle.slint_parser.proofs.Joining.{by_error, Chosen, chosen_at, chosen_alone, chosen_first, chosen_second, chosen_here, took_one, chosen_took, chosen_stuck, took_by, took_as, end_all, and_one, and_same, at_one, past_one, past_same, no_alt, Leads, leads_self, leads_as, leads_on, leads_by, leads_took, leads_stuck, front_one, front_last}
use Rattle.slint_parser.proofs.Among.{chosen_among}

-- ---- names

pub chosen_path : (d : ℕ) (s : List Token) → Chosen alts.path d s
chosen_path d s = chosen_alone alts.path d s refl refl (λ ps g. (g, tt))

pub chosen_name : (d : ℕ) (s : List Token) → Chosen alts.listed_name d s
chosen_name d s = chosen_alone alts.listed_name d s refl refl (λ ps g. tt)

pub name_by : (d : ℕ) (s r : List Token) (result : Result Ident (End Stop)) → ReadsOne AnyName d s result r → ReadsBy alts.listed_name d s result r
name_by d s r (Ok t) x = took_by alts.listed_name (and_one x (end_all d r))
name_by d s r (Err e) x = at_one x

chosen_point : (d : ℕ) (s : List Token) → seen s ≡ seens.Symbol symbols.Dot → Chosen alts.path_more d s
chosen_point d s e = chosen_here alts.path_more d s (ASign symbols.Dot) e (λ ps g. g.0) refl (λ ps g. (g, tt))

chosen_no_point : (d : ℕ) (s : List Token) → (seen s ≡ seens.Symbol symbols.Dot → ⊥) → Chosen alts.path_ends d s
chosen_no_point d s n =
    chosen_first alts.path_ends alts.path_more d s refl refl (λ t r e. no_alt alts.path_more (Sign symbols.Dot) (class_of t.kind) d refl (not_sign symbols.Dot s n t r e)) (λ ps g. tt)

-- the names so far are in front of those to come
abbrev pub Points : ℕ → List Token → List Token → List Ident → Type 0
Points d s m all = Leads parts.PathRest d s parts.PathRest m (λ t. all ++ t)

pub points_begin : (d : ℕ) (s : List Token) → Points d s s []
points_begin d s = leads_self parts.PathRest d s

pub points_next : (d : ℕ) (s m n k : List Token) (all now : List Ident) (dot : Span) (ident : Ident) → Points d s m all → seen m ≡ seens.Symbol symbols.Dot
    → TookOne (Sign symbols.Dot) d m n dot → TookOne AnyName d n k ident → now ≡ all ++ ident ∷ [] → Points d s k now
points_next d s m n k all now dot ident way e x y is =
    subst (λ z. Points d s k z) (sym is)
    (leads_as (leads_on way (leads_by (chosen_point d m e) (front_one x (front_one y (front_last parts.PathRest d k))) (λ ps g. g))) (λ t. sym (append_assoc all (ident ∷ []) t)))

pub points_no_dot : (d : ℕ) (s m : List Token) (all : List Ident) (e : End Stop) → Points d s m all → seen m ≡ seens.Symbol symbols.Dot → StuckOne (Sign symbols.Dot) d m e → Stuck parts.PathRest d s e
points_no_dot d s m all e way is x = leads_stuck way (chosen_stuck (chosen_point d m is) (at_one x))

pub points_no_name : (d : ℕ) (s m n : List Token) (all : List Ident) (dot : Span) (e : End Stop) → Points d s m all → seen m ≡ seens.Symbol symbols.Dot → TookOne (Sign symbols.Dot) d m n dot
    → StuckOne AnyName d n e → Stuck parts.PathRest d s e
points_no_name d s m n all dot e way is x y = leads_stuck way (chosen_stuck (chosen_point d m is) (past_one x (at_one y)))

pub points_end : (d : ℕ) (s m : List Token) (all : List Ident) → Points d s m all → (seen m ≡ seens.Symbol symbols.Dot → ⊥) → Took parts.PathRest d s m all
points_end d s m all way n = subst (λ (z : List Ident). Took parts.PathRest d s m z) (append-nil all) (leads_took way (chosen_took (chosen_no_point d m n) (took_by alts.path_ends (end_all d m))))

-- ---- properties

pub chosen_no_mark : (d : ℕ) (s : List Token) → (seen s ≡ seens.Word words.Private → ⊥) → (seen s ≡ seens.Word words.In → ⊥) → (seen s ≡ seens.Word words.Out → ⊥) → (seen s ≡ seens.Word words.InOut → ⊥)
    → Chosen alts.no_mark d s
chosen_no_mark d s a b c o = chosen_among [] alts.no_mark (alts.private_mark ∷ alts.in_mark ∷ alts.out_mark ∷ alts.in_out_mark ∷ []) d s refl refl
    (λ t r e. (
      tt,
      (
        no_alt alts.private_mark (TheWord words.Private) (class_of t.kind) d refl (not_word words.Private s a t r e),
        (
          no_alt alts.in_mark (TheWord words.In) (class_of t.kind) d refl (not_word words.In s b t r e),
          (
            no_alt alts.out_mark (TheWord words.Out) (class_of t.kind) d refl (not_word words.Out s c t r e),
            (no_alt alts.in_out_mark (TheWord words.InOut) (class_of t.kind) d refl (not_word words.InOut s o t r e), tt),
          ),
        ),
      ),
    )) (λ ps g. tt)

pub chosen_private : (d : ℕ) (s : List Token) → seen s ≡ seens.Word words.Private → Chosen alts.private_mark d s
chosen_private d s e = chosen_at alts.private_mark d s (AWord words.Private) e (λ ps g. refl) (λ ps g. tt)

pub chosen_in : (d : ℕ) (s : List Token) → seen s ≡ seens.Word words.In → Chosen alts.in_mark d s
chosen_in d s e = chosen_at alts.in_mark d s (AWord words.In) e (λ ps g. refl) (λ ps g. tt)

pub chosen_out : (d : ℕ) (s : List Token) → seen s ≡ seens.Word words.Out → Chosen alts.out_mark d s
chosen_out d s e = chosen_at alts.out_mark d s (AWord words.Out) e (λ ps g. refl) (λ ps g. tt)

pub chosen_in_out : (d : ℕ) (s : List Token) → seen s ≡ seens.Word words.InOut → Chosen alts.in_out_mark d s
chosen_in_out d s e = chosen_at alts.in_out_mark d s (AWord words.InOut) e (λ ps g. refl) (λ ps g. tt)

pub private_by : (d : ℕ) (s r : List Token) (result : Result (Mark × Span) (End Stop)) → ReadsMark marks.Private words.Private d s result r → ReadsBy alts.private_mark d s result r
private_by d s r (Ok t) x = took_as alts.private_mark x.1 (ap (λ z. (z, t.1)) (sym x.2))
private_by d s r (Err e) x = x

pub in_by : (d : ℕ) (s r : List Token) (result : Result (Mark × Span) (End Stop)) → ReadsMark marks.In words.In d s result r → ReadsBy alts.in_mark d s result r
in_by d s r (Ok t) x = took_as alts.in_mark x.1 (ap (λ z. (z, t.1)) (sym x.2))
in_by d s r (Err e) x = x

pub out_by : (d : ℕ) (s r : List Token) (result : Result (Mark × Span) (End Stop)) → ReadsMark marks.Out words.Out d s result r → ReadsBy alts.out_mark d s result r
out_by d s r (Ok t) x = took_as alts.out_mark x.1 (ap (λ z. (z, t.1)) (sym x.2))
out_by d s r (Err e) x = x

pub in_out_by : (d : ℕ) (s r : List Token) (result : Result (Mark × Span) (End Stop)) → ReadsMark marks.InOut words.InOut d s result r → ReadsBy alts.in_out_mark d s result r
in_out_by d s r (Ok t) x = took_as alts.in_out_mark x.1 (ap (λ z. (z, t.1)) (sym x.2))
in_out_by d s r (Err e) x = x

pub chosen_bound : (d : ℕ) (s : List Token) → seen s ≡ seens.Symbol symbols.Colon → Chosen alts.bound_value d s
chosen_bound d s e = chosen_at alts.bound_value d s (ASign symbols.Colon) e (λ ps g. refl) (λ ps g. (g, tt))

pub chosen_linked : (d : ℕ) (s : List Token) → seen s ≡ seens.Symbol symbols.TwoWay → Chosen alts.linked_value d s
chosen_linked d s e = chosen_at alts.linked_value d s (ASign symbols.TwoWay) e (λ ps g. refl) (λ ps g. ((refl, tt), tt))

pub chosen_no_value : (d : ℕ) (s : List Token) → (seen s ≡ seens.Symbol symbols.Colon → ⊥) → (seen s ≡ seens.Symbol symbols.TwoWay → ⊥) → Chosen alts.no_value d s
chosen_no_value d s a b = chosen_among [] alts.no_value (alts.bound_value ∷ alts.linked_value ∷ []) d s refl refl
    (λ t r e. (
      tt,
      (
        no_alt alts.bound_value (Sign symbols.Colon) (class_of t.kind) d refl (not_sign symbols.Colon s a t r e),
        (no_alt alts.linked_value (Sign symbols.TwoWay) (class_of t.kind) d refl (not_sign symbols.TwoWay s b t r e), tt),
      ),
    )) (λ ps g. tt)

-- ---- callbacks

pub chosen_callback : (d : ℕ) (s : List Token) → Chosen alts.callback d s
chosen_callback d s = chosen_alone alts.callback d s refl refl (λ ps g. (tt, (tt, tt)))

pub chosen_pure : (d : ℕ) (s : List Token) → seen s ≡ seens.Word words.Pure → Chosen alts.pure_callback d s
chosen_pure d s e = chosen_at alts.pure_callback d s (AWord words.Pure) e (λ ps g. refl) (λ ps g. tt)

pub chosen_impure : (d : ℕ) (s : List Token) → (seen s ≡ seens.Word words.Pure → ⊥) → Chosen alts.impure_callback d s
chosen_impure d s n =
    chosen_first alts.impure_callback alts.pure_callback d s refl refl (λ t r e. no_alt alts.pure_callback (TheWord words.Pure) (class_of t.kind) d refl (not_word words.Pure s n t r e)) (λ ps g. tt)

pub chosen_linked_callback : (d : ℕ) (s : List Token) → seen s ≡ seens.Symbol symbols.TwoWay → Chosen alts.linked_callback d s
chosen_linked_callback d s e = chosen_at alts.linked_callback d s (ASign symbols.TwoWay) e (λ ps g. refl) (λ ps g. ((refl, tt), tt))

pub chosen_signature : (d : ℕ) (s : List Token) → (seen s ≡ seens.Symbol symbols.TwoWay → ⊥) → Chosen alts.signature d s
chosen_signature d s n =
    chosen_second alts.linked_callback alts.signature d s refl refl (λ t r e. no_alt alts.linked_callback (Sign symbols.TwoWay) (class_of t.kind) d refl (not_sign symbols.TwoWay s n t r e))
    (λ ps g. ((refl, tt), ((refl, tt), tt)))

pub chosen_result : (d : ℕ) (s : List Token) → seen s ≡ seens.Symbol symbols.ThinArrow → Chosen alts.result d s
chosen_result d s e = chosen_here alts.result d s (ASign symbols.ThinArrow) e (λ ps g. g.0) refl (λ ps g. (tt, tt))

pub chosen_no_result : (d : ℕ) (s : List Token) → (seen s ≡ seens.Symbol symbols.ThinArrow → ⊥) → Chosen alts.no_result d s
chosen_no_result d s n =
    chosen_first alts.no_result alts.result d s refl refl (λ t r e. no_alt alts.result (Sign symbols.ThinArrow) (class_of t.kind) d refl (not_sign symbols.ThinArrow s n t r e)) (λ ps g. tt)

pub chosen_parameters : (d : ℕ) (s : List Token) → seen s ≡ seens.Symbol symbols.OpenParen → Chosen alts.parameters d s
chosen_parameters d s e = chosen_here alts.parameters d s (ASign symbols.OpenParen) e (λ ps g. g.0) refl (λ ps g. (tt, tt))

pub chosen_no_parameters : (d : ℕ) (s : List Token) → (seen s ≡ seens.Symbol symbols.OpenParen → ⊥) → Chosen alts.no_parameters d s
chosen_no_parameters d s n =
    chosen_first alts.no_parameters alts.parameters d s refl refl (λ t r e. no_alt alts.parameters (Sign symbols.OpenParen) (class_of t.kind) d refl (not_sign symbols.OpenParen s n t r e)) (λ ps g. tt)

-- ---- handlers

pub chosen_names : (d : ℕ) (s : List Token) → seen s ≡ seens.Symbol symbols.OpenParen → Chosen alts.names d s
chosen_names d s e = chosen_here alts.names d s (ASign symbols.OpenParen) e (λ ps g. g.0) refl (λ ps g. (tt, tt))

pub chosen_no_names : (d : ℕ) (s : List Token) → (seen s ≡ seens.Symbol symbols.OpenParen → ⊥) → Chosen alts.no_names d s
chosen_no_names d s n =
    chosen_first alts.no_names alts.names d s refl refl (λ t r e. no_alt alts.names (Sign symbols.OpenParen) (class_of t.kind) d refl (not_sign symbols.OpenParen s n t r e)) (λ ps g. tt)

pub chosen_handler : (d : ℕ) (s : List Token) → Chosen alts.handler d s
chosen_handler d s = chosen_alone alts.handler d s refl refl (λ ps g. ((refl, tt), (g, tt)))

-- ---- functions

pub chosen_function : (d : ℕ) (s : List Token) → Chosen alts.function d s
chosen_function d s = chosen_alone alts.function d s refl refl (λ ps g. ((refl, (refl, (refl, tt))), (tt, ((refl, tt), (tt, tt)))))

-- ---- where a `?` ends a function

pub marked_error : (mark : Mark) (w : Word) (d : ℕ) (s r : List Token) (e : End Stop) (result : Result (Mark × Span) (End Stop)) → IsErrAnd result (λ y. y ≡ e) → StuckAll (marked w) d s e
    → ReadsMark mark w d s result r
marked_error mark w d s r e result h k = by_error (λ z. ReadsMark mark w d s z r) e result h k

pub typed_error : (mark : Mark) (head : Span) (d : ℕ) (s r : List Token) (e : End Stop) (result : Result Property (End Stop)) → IsErrAnd result (λ y. y ≡ e) → StuckAll typed_rest d s e
    → ReadsTyped mark head d s result r
typed_error mark head d s r e result h k = by_error (λ z. ReadsTyped mark head d s z r) e result h k

pub untyped_error : (mark : Mark) (head : Span) (d : ℕ) (s r : List Token) (e : End Stop) (result : Result Property (End Stop)) → IsErrAnd result (λ y. y ≡ e) → StuckAll untyped_rest d s e
    → ReadsUntyped mark head d s result r
untyped_error mark head d s r e result h k = by_error (λ z. ReadsUntyped mark head d s z r) e result h k

pub rest_error : (is_pure : Bool) (access : Access) (ident : Ident) (d : ℕ) (s r : List Token) (e : End Stop) (result : Result Function (End Stop)) → IsErrAnd result (λ y. y ≡ e)
    → StuckAll function_rest d s e → ReadsFunctionRest is_pure access ident d s result r
rest_error is_pure access ident d s r e result h k = by_error (λ z. ReadsFunctionRest is_pure access ident d s z r) e result h k

-- ---- a name that is no word at the head of an item

name_if_but : (c : Class) → fits (NameBut parts.item_words) c ≡ true → fits AnyName c ≡ true
name_if_but (AWord w) h = refl
name_if_but (ASign x) h = absurd (false≢true h)
name_if_but NumberClass h = absurd (false≢true h)
name_if_but ColourClass h = absurd (false≢true h)
name_if_but TextClass h = absurd (false≢true h)
name_if_but HeadClass h = absurd (false≢true h)
name_if_but MidClass h = absurd (false≢true h)
name_if_but TailClass h = absurd (false≢true h)

fits_but : (s : List Token) (token : Token) (r : List Token) → s ≡ token ∷ r → MayName s → fits (NameBut parts.item_words) (class_of token.kind) ≡ true
fits_but s token r e may = subst MayName e may

pub took_but : (d : ℕ) {s r : List Token} {h : Ident} → MayName s → TookOne AnyName d s r h → TookOne (NameBut parts.item_words) d s r h
took_but d {s} {r} may x = took_one (NameBut parts.item_words) d s r x.x.token _ x.x.front (fits_but s x.x.token r x.x.front may) x.low x.is

stuck_but_at : (d : ℕ) (s : List Token) (e : End Stop) → MayName s → StuckOne AnyName d s e → (stop : Stop) → e ≡ endings.Fault stop → (ps : Stack)
    → run s (at ((one (NameBut parts.item_words), d) ∷ ps)) ≡ outcome stop
stuck_but_at d [] e may x stop is ps = x.stops stop is ps
stuck_but_at d (t ∷ s) e may x stop is ps =
    by_what_stays t s (at ((one (NameBut parts.item_words), d) ∷ ps)) (at ((one AnyName, d) ∷ ps))
    (ap (λ z. (map (onto ps true) (cond z (([], nat_le d deepest_token) ∷ []) []) ++ []) ++ []) (may ∙ sym (name_if_but (class_of t.kind) may)))
    ∙ x.stops stop is ps

pub stuck_but : (d : ℕ) {s : List Token} {e : End Stop} → MayName s → StuckOne AnyName d s e → StuckOne (NameBut parts.item_words) d s e
stuck_but d {s} {e} may x = record { stops = stuck_but_at d s e may x }

-- a function, of its head and what is behind its name
pub function_by : (d : ℕ) (s m n k r : List Token) (is_pure : Bool) (access : Access) (word : Span) (ident : Ident) (result : Result Function (End Stop))
    → Took parts.Modifiers d s m (is_pure, access) → TookOne (TheWord words.Function) d m n word → TookOne AnyName d n k ident → ReadsFunctionRest is_pure access ident d k result r → Reads parts.Function d s result r
function_by d s m n k r is_pure access word ident (Ok t) x y z rest =
    chosen_took (chosen_function d s) (took_as alts.function (and_same x (and_one y (and_one z rest.1))) (rest.2 word))
function_by d s m n k r is_pure access word ident (Err e) x y z rest = chosen_stuck (chosen_function d s) (past_same x (past_one y (past_one z rest)))
