-- Where paths outside expressions lead.
use Rattle.std.specs.Prelude.{ℕ, List, [], ◌∷◌, Option, Some, None, Ok, Err}
use Rattle.std.specs.Option.{option_or, option_map}
use Rattle.slint_base.specs.declared.faults.Span.{Span}
use Rattle.syntax_tree.specs.declared.words.Ident.{Ident}
use Rattle.syntax_tree.specs.declared.words.Path.{Path}
use Rattle.typed_tree.specs.declared.outlines.Outline.{Outline}
use Rattle.typed_tree.specs.declared.scopes.RowNames.{RowNames}
use Rattle.typed_tree.specs.declared.scopes.Site.{Site}
use Rattle.typed_tree.specs.declared.scopes.Site.TheVariants as site
use Rattle.typed_tree.specs.declared.members.Found.{Found}
use Rattle.typed_tree.specs.Members.{element_member_named, global_member_named}
use Rattle.typed_tree.specs.Scopes.{ScopeValue}
use Rattle.name_lookup.specs.declared.leads.Lead.{Lead}
use Rattle.name_lookup.specs.declared.leads.Lead.TheVariants as leads
use Rattle.name_lookup.specs.declared.meanings.Meaning.{Meaning}
use Rattle.name_lookup.specs.declared.meanings.Meaning.TheVariants as meaning
use Rattle.name_lookup.specs.Names.{Lookup, near_name, far_name, self_of, root_of}

-- where a path is after some of its names: at an element or a global, at a member, or at something that has no members
pub data Spot : Type 0 where
  AtElement : ℕ → Spot
  AtGlobal : ℕ → Spot
  AtMember : Found → Spot
  AtOther : Spot

-- the scope of a body, without parameters
abbrev pub body_scope : Outline → Site → List RowNames → ScopeValue
body_scope outline here rows = record { outline = outline; site = here; parameters = []; rows = rows }

abbrev pub spot_of : Meaning → Spot
spot_of (meaning.Element e) = AtElement e
spot_of (meaning.Global g) = AtGlobal g
spot_of _ = AtOther

abbrev pub spot_found : Lookup → Option (Option Spot)
spot_found None = None
spot_found (Some (Err rule)) = Some None
spot_found (Some (Ok m)) = Some (Some (spot_of m))

-- the member of `self` or `root`
abbrev pub member_at : ScopeValue → Site → Meaning → List ℕ → Option Found
member_at s (site.Element c around) (meaning.Element e) name = element_member_named s.outline.comps c e name
member_at s here (meaning.Global g) name = global_member_named s.outline.globals g name
member_at s here _ name = None

abbrev pub at_member : Option Found → Option (Option Spot)
at_member found = option_map (λ f. Some (AtMember f)) found

-- where the first name of a path is, if it is anywhere
abbrev pub settled : Option (Option Spot) → Option Spot
settled None = None
settled (Some spot) = spot

abbrev pub first_spot : ScopeValue → Ident → Option Spot
first_spot s x = settled (option_or (spot_found (near_name s x.name x.span))
    (option_or (at_member (member_at s s.site (self_of s.site) x.name))
    (option_or (at_member (member_at s s.site (root_of s.site) x.name))
    (spot_found (far_name s None x.name x.span)))))

abbrev pub last_span : Span → List Ident → Span
last_span span [] = span
last_span span (x ∷ xs) = last_span x.span xs

-- a path that ends at a member leads there; one that goes on through a value, or ends at anything else, is lost at its last name
abbrev pub element_found : ScopeValue → ℕ → List ℕ → Option Found
element_found s e name = member_at s s.site (meaning.Element e) name

-- a member that isn't the path's end is gone through
abbrev pub at_found : Span → List Ident → Option Found → Lead
at_found span xs None = leads.Lost span
at_found span [] (Some f) = leads.To f
at_found span (x ∷ xs) (Some f) = leads.Lost (last_span x.span xs)

abbrev pub walk : ScopeValue → Spot → Span → List Ident → Lead
walk s (AtMember f) span xs = at_found span xs (Some f)
walk s (AtElement e) span [] = leads.Lost span
walk s (AtElement e) span (x ∷ xs) = at_found x.span xs (element_found s e x.name)
walk s (AtGlobal g) span [] = leads.Lost span
walk s (AtGlobal g) span (x ∷ xs) = at_found x.span xs (global_member_named s.outline.globals g x.name)
walk s AtOther span xs = leads.Lost (last_span span xs)

abbrev pub walk_from : ScopeValue → Ident → List Ident → Option Spot → Lead
walk_from s first rest None = leads.Lost first.span
walk_from s first rest (Some spot) = walk s spot first.span rest

-- where a path leads
abbrev pub lead_of : ScopeValue → Path → Lead
lead_of s path = walk_from s path.first path.rest (first_spot s path.first)

-- the name at which a path is told: its last one
abbrev pub path_name : Path → Span
path_name path = last_span path.first.span path.rest

-- a member of the element or the global in whose body a name stands
abbrev pub own_member : ScopeValue → List ℕ → Option Found
own_member s name = member_at s s.site (self_of s.site) name
