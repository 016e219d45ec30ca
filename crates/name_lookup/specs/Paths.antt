-- Where the first name of a path is, taken apart.
use Rattle.std.specs.Prelude.{ℕ, List, Option, None}
use Rattle.std.specs.Option.{option_or}
use Rattle.syntax_tree.specs.declared.words.Ident.{Ident}
use Rattle.syntax_tree.specs.declared.words.Path.{Path}
use Rattle.typed_tree.specs.declared.members.Found.{Found}
use Rattle.typed_tree.specs.Scopes.{ScopeValue}
use Rattle.name_lookup.specs.declared.leads.Lead.{Lead}
use Rattle.name_lookup.specs.Leads.{Spot, at_member, member_at, settled, spot_found, walk_from}
use Rattle.name_lookup.specs.Names.{self_of, root_of, far_name}

-- a member of `self`, or else of `root`
abbrev pub member_around : ScopeValue → List ℕ → Option Found
member_around s name = option_or (member_at s s.site (self_of s.site) name) (member_at s s.site (root_of s.site) name)

-- where a name is that is found behind members, if anywhere
abbrev pub far_spot : ScopeValue → Ident → Option (Option Spot)
far_spot s x = spot_found (far_name s None x.name x.span)

-- where a name is that isn't found before members
abbrev pub behind_near : ScopeValue → Ident → Option (Option Spot)
behind_near s x = option_or (at_member (member_at s s.site (self_of s.site) x.name))
    (option_or (at_member (member_at s s.site (root_of s.site) x.name))
    (far_spot s x))

-- where a path leads whose first name is there
abbrev pub lead_at : ScopeValue → Path → Option (Option Spot) → Lead
lead_at s path spot = walk_from s path.first path.rest (settled spot)
