-- Where a path leads depends on the names of repeaters only by whether its first name is one of them.
use Rattle.std.specs.Prelude.{ℕ, Bool, true, false, ◌||◌, if◌then◌else◌, List, [], ◌∷◌, Option, Some, None}
use Rattle.std.specs.Option.{option_or}
use Rattle.std.specs.Str.{bytes_eq}
use Rattle.std.proofs.Common.{◌≡◌, refl, sym, ◌∙◌, ap, rules}
use Rattle.std.proofs.lemmas.Slice.Eq.{bytes_eq-Decides}
use Rattle.slint_base.specs.declared.faults.Span.{Span}
use Rattle.syntax_tree.specs.declared.words.Ident.{Ident}
use Rattle.syntax_tree.specs.declared.words.Path.{Path}
use Rattle.value_types.specs.declared.types.Ty.TheVariants as ty
use Rattle.typed_tree.specs.declared.expressions.ExprKind.TheVariants as exprs
use Rattle.typed_tree.specs.declared.outlines.Outline.{Outline}
use Rattle.typed_tree.specs.declared.scopes.RowNames.{RowNames}
use Rattle.typed_tree.specs.declared.scopes.Site.{Site}
use Rattle.typed_tree.specs.declared.scopes.Site.TheVariants as site
use Rattle.name_lookup.specs.declared.meanings.Meaning.{Meaning}
use Rattle.name_lookup.specs.declared.meanings.Meaning.TheVariants as meaning
use Rattle.name_lookup.specs.Leads.{AtElement, AtGlobal, AtMember, AtOther, Spot, at_found, at_member, body_scope, first_spot, lead_of, member_at, own_member, settled, spot_found, walk, walk_from}
use Rattle.name_lookup.specs.Names.{Lookup, a_value, far_name, found, id_here, is_name, near_name, root_of, row_among, self_of, word}
use Rattle.item_rules.specs.Rows.{is_row_name, named_row}

-- a row's name stands for something that has no members
row_spot : (name : List ℕ) (rows : List RowNames) (span : Span) (behind : Lookup)
    → spot_found (option_or (row_among name rows span) behind) ≡ (if is_row_name name rows then Some (Some AtOther) else spot_found behind)
row_spot name [] span behind = refl
row_spot name (r ∷ rs) span behind = by_tests (is_name name r.number) (bytes_eq r.item name) (row_spot name rs span behind)
  where
    by_tests : (a b : Bool) → spot_found (option_or (row_among name rs span) behind) ≡ (if is_row_name name rs then Some (Some AtOther) else spot_found behind)
        → spot_found (option_or (if a then found (a_value (exprs.RowNumber r.element) ty.Int span) else if b then found (a_value (exprs.RowItem r.element) r.ty span) else row_among name rs span) behind)
        ≡ (if ((a || b) || is_row_name name rs) then Some (Some AtOther) else spot_found behind)
    by_tests true b e = refl
    by_tests false true e = refl
    by_tests false false e = e

same_near : (outline : Outline) (here : Site) (name : List ℕ) (span : Span) (rows others : List RowNames) → is_row_name name rows ≡ is_row_name name others
    → spot_found (near_name (body_scope outline here rows) name span) ≡ spot_found (near_name (body_scope outline here others) name span)
same_near outline here name span rows others same = by_word (word (body_scope outline here rows) name span)
  where
    by_word : (w : Lookup) → spot_found (option_or w (option_or (row_among name rows span) (id_here outline here name))) ≡ spot_found (option_or w (option_or (row_among name others span) (id_here outline here name)))
    by_word None = row_spot name rows span (id_here outline here name) ∙ ap (λ b. if b then Some (Some AtOther) else spot_found (id_here outline here name)) same ∙ sym (row_spot name others span (id_here outline here name))
    by_word (Some m) = refl

same_member : (outline : Outline) (here at : Site) (rows others : List RowNames) (m : Meaning) (name : List ℕ) → member_at (body_scope outline here rows) at m name ≡ member_at (body_scope outline here others) at m name
same_member outline here (site.Element c e) rows others (meaning.Element d) name = refl
same_member outline here (site.Element c e) rows others (meaning.Global g) name = refl
same_member outline here (site.Element c e) rows others m name = refl
same_member outline here (site.Global h) rows others (meaning.Global g) name = refl
same_member outline here (site.Global h) rows others m name = refl

pub same_own : (outline : Outline) (here : Site) (rows others : List RowNames) (name : List ℕ) → own_member (body_scope outline here rows) name ≡ own_member (body_scope outline here others) name
same_own outline here rows others name = same_member outline here here rows others (self_of here) name

same_first : (outline : Outline) (here : Site) (rows others : List RowNames) (x : Ident) → is_row_name x.name rows ≡ is_row_name x.name others
    → first_spot (body_scope outline here rows) x ≡ first_spot (body_scope outline here others) x
same_first outline here rows others x same =
    ap (λ near. settled (option_or near (option_or (at_member (member_at (body_scope outline here rows) here (self_of here) x.name))
    (option_or (at_member (member_at (body_scope outline here rows) here (root_of here) x.name)) (spot_found (far_name (body_scope outline here rows) None x.name x.span))))))
    (same_near outline here x.name x.span rows others same)
    ∙ ap (λ own. settled (option_or (spot_found (near_name (body_scope outline here others) x.name x.span)) (option_or (at_member own)
    (option_or (at_member (member_at (body_scope outline here rows) here (root_of here) x.name)) (spot_found (far_name (body_scope outline here rows) None x.name x.span))))))
    (same_member outline here here rows others (self_of here) x.name)
    ∙ ap (λ of_root. settled (option_or (spot_found (near_name (body_scope outline here others) x.name x.span)) (option_or (at_member (member_at (body_scope outline here others) here (self_of here) x.name))
    (option_or (at_member of_root) (spot_found (far_name (body_scope outline here rows) None x.name x.span))))))
    (same_member outline here here rows others (root_of here) x.name)

same_walk : (outline : Outline) (here : Site) (rows others : List RowNames) (spot : Spot) (span : Span) (xs : List Ident) → walk (body_scope outline here rows) spot span xs ≡ walk (body_scope outline here others) spot span xs
same_walk outline here rows others (AtMember f) span xs = refl
same_walk outline here rows others (AtElement e) span [] = refl
same_walk outline here rows others (AtElement e) span (x ∷ xs) = ap (λ m. at_found x.span xs m) (same_member outline here here rows others (meaning.Element e) x.name)
same_walk outline here rows others (AtGlobal g) span [] = refl
same_walk outline here rows others (AtGlobal g) span (x ∷ xs) = refl
same_walk outline here rows others AtOther span xs = refl

same_from : (outline : Outline) (here : Site) (rows others : List RowNames) (first : Ident) (rest : List Ident) (spot : Option Spot)
    → walk_from (body_scope outline here rows) first rest spot ≡ walk_from (body_scope outline here others) first rest spot
same_from outline here rows others first rest None = refl
same_from outline here rows others first rest (Some spot) = same_walk outline here rows others spot first.span rest

pub same_lead : (outline : Outline) (here : Site) (rows others : List RowNames) (path : Path) → is_row_name path.first.name rows ≡ is_row_name path.first.name others
    → lead_of (body_scope outline here rows) path ≡ lead_of (body_scope outline here others) path
same_lead outline here rows others path same =
    ap (walk_from (body_scope outline here rows) path.first path.rest) (same_first outline here rows others path.first same)
    ∙ same_from outline here rows others path.first path.rest (first_spot (body_scope outline here others) path.first)

same_bytes : (xs : List ℕ) → bytes_eq xs xs ≡ true
same_bytes xs = search (rules, bytes_eq-Decides xs xs)

-- a row that has a name in place of all that are there
pub is_named_row : (name : List ℕ) → is_row_name name (named_row name ∷ []) ≡ true
is_named_row name = ap (λ b. b || false) (same_bytes name)
