-- Lists of parts, one part more, and chains, one link more.
use Rattle.std.proofs.Common.{◌≡◌, ℕ, ◌+◌, ◌<◌, List, [], ◌∷◌, ◌++◌, length, take, get_or, map, slice_get, Some, None, Ok, Err, refl, sym, ap, ◌∙◌, append_assoc, arith}
use Rattle.std.proofs.lemmas.List.{append-nil, take_more, length-take-le}
use Rattle.syntax_tree.specs.declared.expressions.Expr.{Expr}
use Rattle.syntax_tree.specs.declared.expressions.FieldValue.{FieldValue, out-FieldValue}
use Rattle.syntax_tree.specs.declared.expressions.Hole.{Hole, out-Hole}
use Rattle.syntax_tree.specs.declared.expressions.Suffix.{Suffix, out-Suffix}
use Rattle.value_types.specs.declared.types.Ty.{Ty}
use Rattle.value_types.specs.declared.types.Ty.TheVariants as ty
use Rattle.typed_tree.specs.Scopes.{Place, ScopeValue}
use Rattle.slint_base.specs.declared.faults.Span.{Span}
use Rattle.syntax_tree.specs.declared.expressions.Expr.TheOpen.{Suffix-F}
use Rattle.expr_rules.specs.declared.judged.Judged.{Judged}
use Rattle.expr_rules.specs.Denotations.{denoted, field_place}
use Rattle.expr_rules.specs.Layers.{SuffixLayer}
use Rattle.expr_rules.specs.Targets.{argument_places}
use Rattle.expr_types.specs.Nodes.{Node, At, FieldName, Suffixed, at_all, hole_nodes, field_nodes, argument_nodes, argument_parts}
use Rattle.expr_types.specs.Verdicts.{Verdicts, Seen, SeenLater, first_come}
use Rattle.expr_types.proofs.Telling.{seen_of}

-- a front of a list, one item longer

pub front_next : {A : Type 0} (xs : List A) (i : ℕ) (x : A) → x ≡ get_or xs i x → i < length xs → take (i + 1) xs ≡ take i xs ++ x ∷ []
front_next xs i x e h = take_more xs i x h ∙ ap (λ y. take i xs ++ y ∷ []) (sym e)

-- the nodes of a longer list

at_all_more : (place : Place) (es : List Expr) (e : Expr) → at_all place (es ++ e ∷ []) ≡ at_all place es ++ At place e ∷ []
at_all_more place [] e = refl
at_all_more place (d ∷ es) e = ap (λ z. At place d ∷ z) (at_all_more place es e)

holes_more : (hs : List Hole) (h : Hole) → hole_nodes (hs ++ h ∷ []) ≡ hole_nodes hs ++ At (Some ty.Str) (out-Hole h).value ∷ []
holes_more [] h = refl
holes_more (g ∷ hs) h = ap (λ z. At (Some ty.Str) (out-Hole g).value ∷ z) (holes_more hs h)

arguments_more : (tys : List Ty) (es : List Expr) (e : Expr) → argument_nodes (map (λ t. Some t) tys) (es ++ e ∷ []) ≡ argument_nodes (map (λ t. Some t) tys) es ++ At (slice_get tys (length es)) e ∷ []
arguments_more [] [] e = refl
arguments_more [] (d ∷ es) e = ap (λ z. At None d ∷ z) (arguments_more [] es e)
arguments_more (t ∷ tys) [] e = refl
arguments_more (t ∷ tys) (d ∷ es) e = ap (λ z. At (Some t) d ∷ z) (arguments_more tys es e)

-- the names of fields
abbrev pub field_names : List FieldValue → List (List ℕ)
field_names fs = map (λ f. (out-FieldValue f).name.name) fs

abbrev pub field_pair : Place → List (List ℕ) → FieldValue → List Node
field_pair place before f = FieldName (out-FieldValue f).name before ∷ At (field_place (out-FieldValue f).name.name place) (out-FieldValue f).value ∷ []

fields_more : (place : Place) (before : List (List ℕ)) (fs : List FieldValue) (f : FieldValue) → field_nodes place before (fs ++ f ∷ []) ≡ field_nodes place before fs ++ field_pair place (before ++ field_names fs) f
fields_more place before [] f = ap (λ z. field_pair place z f) (sym (append-nil before))
fields_more place before (g ∷ fs) f = ap (λ z. FieldName (out-FieldValue g).name before ∷ At (field_place (out-FieldValue g).name.name place) (out-FieldValue g).value ∷ z)
    (fields_more place (before ++ (out-FieldValue g).name.name ∷ []) fs f
    ∙ ap (λ z. field_nodes place (before ++ (out-FieldValue g).name.name ∷ []) fs ++ field_pair place z f) (append_assoc before ((out-FieldValue g).name.name ∷ []) (field_names fs)))

names_more : (fs : List FieldValue) (f : FieldValue) → field_names (fs ++ f ∷ []) ≡ field_names fs ++ (out-FieldValue f).name.name ∷ []
names_more [] f = refl
names_more (g ∷ fs) f = ap (λ z. (out-FieldValue g).name.name ∷ z) (names_more fs f)

-- turns of loops over them

pub each_turn : {s : ScopeValue} (place : Place) (es : List Expr) (i : ℕ) (e : Expr) {seen : Verdicts} → e ≡ get_or es i e → i < length es → Seen s (at_all place (take i es) ++ At place e ∷ []) seen → Seen s (at_all place (take (i + 1) es)) seen
each_turn place es i e k h p = seen_of (sym (at_all_more place (take i es) e) ∙ ap (at_all place) (sym (front_next es i e k h))) p

pub hole_turn : {s : ScopeValue} (hs : List Hole) (i : ℕ) (x : Hole) {seen : Verdicts} → x ≡ get_or hs i x → i < length hs → Seen s (hole_nodes (take i hs) ++ At (Some ty.Str) (out-Hole x).value ∷ []) seen → Seen s (hole_nodes (take (i + 1) hs)) seen
hole_turn hs i x k h p = seen_of (sym (holes_more (take i hs) x) ∙ ap hole_nodes (sym (front_next hs i x k h))) p

argument_next : (tys : List Ty) (es : List Expr) (i : ℕ) (e : Expr) (place : Place) → e ≡ get_or es i e → i < length es → place ≡ slice_get tys i
    → argument_nodes (map (λ t. Some t) tys) (take (i + 1) es) ≡ argument_nodes (map (λ t. Some t) tys) (take i es) ++ At place e ∷ []
argument_next tys es i e place k h q = ap (argument_nodes (map (λ t. Some t) tys)) (front_next es i e k h) ∙ arguments_more tys (take i es) e
    ∙ ap (λ z. argument_nodes (map (λ t. Some t) tys) (take i es) ++ At z e ∷ []) (ap (slice_get tys) (length-take-le i es (omega arith)) ∙ sym q)

pub argument_turn : {s : ScopeValue} (tys : List Ty) (es : List Expr) (i : ℕ) (e : Expr) (place : Place) {seen : Verdicts} → e ≡ get_or es i e → i < length es → place ≡ slice_get tys i
    → Seen s (argument_nodes (map (λ t. Some t) tys) (take i es) ++ At place e ∷ []) seen → Seen s (argument_nodes (map (λ t. Some t) tys) (take (i + 1) es)) seen
argument_turn tys es i e place k h q p = seen_of (sym (argument_next tys es i e place k h q)) p

fields_next : (place : Place) (fs : List FieldValue) (i : ℕ) (x : FieldValue) (before : List (List ℕ)) (wanted : Place) → x ≡ get_or fs i x → i < length fs → before ≡ field_names (take i fs) → wanted ≡ field_place (out-FieldValue x).name.name place
    → (field_nodes place [] (take i fs) ++ FieldName (out-FieldValue x).name before ∷ []) ++ At wanted (out-FieldValue x).value ∷ [] ≡ field_nodes place [] (take (i + 1) fs)
fields_next place fs i x before wanted k h e f = append_assoc (field_nodes place [] (take i fs)) (FieldName (out-FieldValue x).name before ∷ []) (At wanted (out-FieldValue x).value ∷ [])
    ∙ ap (λ z. field_nodes place [] (take i fs) ++ (FieldName (out-FieldValue x).name z ∷ At wanted (out-FieldValue x).value ∷ [])) e
    ∙ ap (λ z. field_nodes place [] (take i fs) ++ (FieldName (out-FieldValue x).name (field_names (take i fs)) ∷ At z (out-FieldValue x).value ∷ [])) f
    ∙ sym (fields_more place [] (take i fs) x) ∙ ap (field_nodes place []) (sym (front_next fs i x k h))

pub field_turn : {s : ScopeValue} (place : Place) (fs : List FieldValue) (i : ℕ) (x : FieldValue) (before : List (List ℕ)) (wanted : Place) {seen : Verdicts} → x ≡ get_or fs i x → i < length fs → before ≡ field_names (take i fs) → wanted ≡ field_place (out-FieldValue x).name.name place
    → Seen s ((field_nodes place [] (take i fs) ++ FieldName (out-FieldValue x).name before ∷ []) ++ At wanted (out-FieldValue x).value ∷ []) seen → Seen s (field_nodes place [] (take (i + 1) fs)) seen
field_turn place fs i x before wanted k h e f p = seen_of (fields_next place fs i x before wanted k h e f) p

pub names_turn : (fs : List FieldValue) (i : ℕ) (x : FieldValue) (before after : List (List ℕ)) → x ≡ get_or fs i x → i < length fs → before ≡ field_names (take i fs) → after ≡ before ++ (out-FieldValue x).name.name ∷ [] → after ≡ field_names (take (i + 1) fs)
names_turn fs i x before after k h e f = f ∙ ap (λ z. z ++ (out-FieldValue x).name.name ∷ []) e ∙ sym (names_more (take i fs) x) ∙ ap field_names (sym (front_next fs i x k h))

-- further parts of a front of suffixes

pub start_later : {s : ScopeValue} (e : Expr) (parts : Verdicts) {v : Verdicts} → Seen s [] v → SeenLater s (Suffixed e []) parts v
start_later e (Ok xs) p = p
start_later e (Err f) p = tt

pub no_later : {s : ScopeValue} (e : Expr) (before : List Suffix) (x : Suffix) (parts : Verdicts) {v : Verdicts} (layer : SuffixLayer) → out-Suffix x ≡ layer → ((xs : List Judged) → argument_parts layer xs ≡ []) → Seen s [] v → SeenLater s (Suffixed e (x ∷ before)) parts v
no_later e before x (Ok xs) layer k lacks p = seen_of (sym (ap (λ z. argument_parts z xs) k ∙ lacks xs)) p
no_later e before x (Err f) layer k lacks p = tt

called_nodes : (x : Suffix) (es : List Expr) (span : Span) (called y : Judged) (ys : List Judged) → out-Suffix x ≡ Suffix-F.Call es span → Some called ≡ Some y → argument_nodes (argument_places (denoted called).meaning) es ≡ argument_parts (out-Suffix x) (y ∷ ys)
called_nodes x es span called y ys k e = let same : called ≡ y = cc in ap (λ z. argument_nodes (argument_places (denoted z).meaning) es) same ∙ sym (ap (λ z. argument_parts z (y ∷ ys)) k)

pub call_later : {s : ScopeValue} (e : Expr) (before : List Suffix) (x : Suffix) (parts : Verdicts) {v : Verdicts} (es : List Expr) (span : Span) (called : Judged) → out-Suffix x ≡ Suffix-F.Call es span → Some called ≡ first_come parts
    → Seen s (argument_nodes (argument_places (denoted called).meaning) es) v → SeenLater s (Suffixed e (x ∷ before)) parts v
call_later e before x (Ok []) es span called k c p = cc
call_later e before x (Ok (y ∷ ys)) es span called k c p = seen_of (called_nodes x es span called y ys k c) p
call_later e before x (Err f) es span called k c p = tt

pub uncalled_later : {s : ScopeValue} (e : Expr) (before : List Suffix) (x : Suffix) (parts : Verdicts) {v : Verdicts} (es : List Expr) (span : Span) → out-Suffix x ≡ Suffix-F.Call es span → None ≡ first_come parts → Seen s [] v → SeenLater s (Suffixed e (x ∷ before)) parts v
uncalled_later e before x (Ok []) es span k c p = seen_of (sym (ap (λ z. argument_parts z []) k)) p
uncalled_later e before x (Ok (y ∷ ys)) es span k c p = cc
uncalled_later e before x (Err f) es span k c p = tt
