-- Kinds that are left out: where links lead, and the outline with these kinds.
use Rattle.std.specs.Prelude.{◌≡◌, ℕ, zero, suc, ◌+◌, Bool, true, false, if◌then◌else◌, nat_lt, List, [], ◌∷◌, ◌++◌, map, length, drop, slice_get, Option, Some, None}
use Rattle.std.specs.Option.{option_and_then, option_map}
use Rattle.slint_base.specs.declared.faults.Fault.{Fault}
use Rattle.slint_base.specs.declared.faults.Span.{Span}
use Rattle.slint_base.specs.declared.rules.Rule.TheVariants as rules
use Rattle.syntax_tree.specs.declared.words.Ident.{Ident}
use Rattle.syntax_tree.specs.declared.words.Path.{Path}
use Rattle.value_types.specs.declared.types.Ty.TheVariants as ty
use Rattle.import_resolver.specs.Loaded.{FileRow}
use Rattle.finite_graphs.specs.Graphs.{Leads}
use Rattle.finite_graphs.specs.Walks.{OnCircle}
use Rattle.name_lookup.specs.declared.leads.Lead.{Lead}
use Rattle.name_lookup.specs.declared.leads.Lead.TheVariants as leads
use Rattle.name_lookup.specs.Leads.{body_scope, lead_of}
use Rattle.source_elements.specs.Elements.{written_in}
use Rattle.source_scopes.specs.Declarations.{FileComponent, FileGlobal, components_of, globals_of}
use Rattle.source_outline.specs.declared.followers.Follower.{Follower}
use Rattle.fault_order.specs.Order.{IsFirst, NoFault}
use Rattle.source_outline.specs.declared.sketching.Sketch.{Sketch}
use Rattle.source_outline.specs.declared.sketching.Sketch.TheVariants as sketches
use Rattle.source_outline.specs.Ends.{ends_of, link_edges}
use Rattle.source_outline.specs.Members.{body_links, element_links, in_front}
use Rattle.source_outline.specs.Outlines.{rough_outline}
use Rattle.typed_tree.specs.declared.members.ElementMember.TheVariants as element_member
use Rattle.typed_tree.specs.declared.members.Found.{Found}
use Rattle.typed_tree.specs.declared.members.Member.{Member}
use Rattle.typed_tree.specs.declared.members.MemberKind.{MemberKind}
use Rattle.typed_tree.specs.declared.members.MemberKind.TheVariants as kinds
use Rattle.typed_tree.specs.declared.members.MemberRef.{MemberRef}
use Rattle.typed_tree.specs.declared.members.MemberRef.TheVariants as member_ref
use Rattle.typed_tree.specs.declared.outlines.ComponentOutline.{ComponentOutline}
use Rattle.typed_tree.specs.declared.outlines.ElementOutline.{ElementOutline}
use Rattle.typed_tree.specs.declared.outlines.GlobalOutline.{GlobalOutline}
use Rattle.typed_tree.specs.declared.outlines.Outline.{Outline}
use Rattle.typed_tree.specs.declared.outlines.Repeat.{Repeat}
use Rattle.typed_tree.specs.declared.outlines.Repeat.TheVariants as repeats
use Rattle.typed_tree.specs.declared.scopes.RowNames.{RowNames}
use Rattle.typed_tree.specs.declared.scopes.Site.{Site}
use Rattle.typed_tree.specs.declared.scopes.Site.TheVariants as site
use Rattle.typed_tree.specs.Elements.{parent_of}

-- the names of the repeaters around an element, innermost first; where a path leads doesn't depend on their types, which are void here
abbrev pub name_only : Ident → List ℕ
name_only ident = ident.name

abbrev pub row_names : ℕ → Ident → Option Ident → RowNames
row_names e item number = record { element = e; item = item.name; ty = ty.Void; is_assignable = false; number = option_map name_only number }

abbrev pub row_of_repeat : ℕ → Repeat → List RowNames
row_of_repeat e (repeats.For item number word) = row_names e item number ∷ []
row_of_repeat e _ = []

abbrev pub row_in : ℕ → Option ElementOutline → List RowNames
row_in e None = []
row_in e (Some element) = row_of_repeat e element.repeat

abbrev pub rows_within : ℕ → List ElementOutline → Option ℕ → List RowNames
rows_within n elements None = []
rows_within zero elements (Some e) = []
rows_within (suc n) elements (Some e) = row_in e (slice_get elements e) ++ rows_within n elements (parent_of elements e)

abbrev pub rows_around : List ElementOutline → ℕ → List RowNames
rows_around elements e = rows_within (length elements) elements (Some e)

-- the member that a link leads to, a property from a property and a callback from a callback
abbrev pub suits : MemberKind → MemberKind → Bool
suits (kinds.Property mark t) (kinds.Property other u) = true
suits (kinds.Callback pure s) (kinds.Callback other r) = true
suits _ _ = false

abbrev pub found_of : MemberKind → Lead → Option Found
found_of kind (leads.Lost span) = None
found_of kind (leads.To f) = if suits kind f.kind then Some f else None

abbrev pub found_by : Outline → Site → List RowNames → MemberKind → Option Path → Option Found
found_by outline here around kind None = None
found_by outline here around kind (Some path) = found_of kind (lead_of (body_scope outline here around) path)

-- a declared member, with the member that it is linked to where its kind is left out
abbrev pub follower : Outline → Site → List RowNames → Member → Option Path → Follower
follower outline here around m link = record { kind = m.kind; span = m.span; found = found_by outline here around m.kind link }

abbrev pub component_follower : Outline → ℕ → List ElementOutline → Member → Option Path → Follower
component_follower outline c elements m link = follower outline (site.Element c m.element) (rows_around elements m.element) m link

abbrev pub component_follower_at : Outline → ℕ → List ElementOutline → Option Path → Option Member → Option Follower
component_follower_at outline c elements link None = None
component_follower_at outline c elements link (Some m) = Some (component_follower outline c elements m link)

abbrev pub global_follower_at : Outline → ℕ → Option Path → Option Member → Option Follower
global_follower_at outline g link None = None
global_follower_at outline g link (Some m) = Some (follower outline (site.Global g) [] m link)

-- the members of a component or of a global, each with the link that stands at its place; they are counted from i
abbrev pub component_followers : Outline → ℕ → ComponentOutline → ℕ → List (Option Path) → List Follower
component_followers outline c comp i [] = []
component_followers outline c comp i (link ∷ links) =
    in_front (component_follower_at outline c comp.elements link (slice_get comp.members i)) (component_followers outline c comp (suc i) links)

abbrev pub global_followers : Outline → ℕ → List Member → ℕ → List (Option Path) → List Follower
global_followers outline g members i [] = []
global_followers outline g members i (link ∷ links) =
    in_front (global_follower_at outline g link (slice_get members i)) (global_followers outline g members (suc i) links)

abbrev pub followers_of_comp : Outline → ℕ → FileComponent → Option ComponentOutline → List Follower
followers_of_comp outline c written None = []
followers_of_comp outline c written (Some comp) = component_followers outline c comp 0 (element_links (written_in written.component))

abbrev pub followers_of_global : Outline → ℕ → FileGlobal → Option GlobalOutline → List Follower
followers_of_global outline g written None = []
followers_of_global outline g written (Some global) = global_followers outline g global.members 0 (body_links written.global.items)

abbrev pub followers_of_comps : Outline → ℕ → List FileComponent → List Follower
followers_of_comps outline c [] = []
followers_of_comps outline c (written ∷ more) = followers_of_comp outline c written (slice_get outline.comps c) ++ followers_of_comps outline (suc c) more

abbrev pub followers_of_globals : Outline → ℕ → List FileGlobal → List Follower
followers_of_globals outline g [] = []
followers_of_globals outline g (written ∷ more) = followers_of_global outline g written (slice_get outline.globals g) ++ followers_of_globals outline (suc g) more

-- all declared members of a source: those of its components, and then those of its globals
abbrev pub followers_in : Outline → List FileRow → List Follower
followers_in outline rows = followers_of_comps outline 0 (components_of rows) ++ followers_of_globals outline 0 (globals_of rows)

-- a member's number among them: behind those of the components and globals before its own
abbrev pub starts_from : ℕ → List ℕ → List ℕ
starts_from n [] = []
starts_from n (size ∷ sizes) = n ∷ starts_from (n + size) sizes

abbrev pub size_of_comp : ComponentOutline → ℕ
size_of_comp comp = length comp.members

abbrev pub size_of_global : GlobalOutline → ℕ
size_of_global g = length g.members

abbrev pub starts_of : Outline → List ℕ
starts_of outline = starts_from 0 (map size_of_comp outline.comps ++ map size_of_global outline.globals)

abbrev pub below : ℕ → ℕ → Option ℕ
below n number = if nat_lt number n then Some number else None

-- of n members the one that stands at a place behind a start
abbrev pub number_behind : ℕ → ℕ → Option ℕ → Option ℕ
number_behind n place None = None
number_behind n place (Some start) = below n (start + place)

-- of n members the one that a reference names, where these are the starts of components, and those of globals
abbrev pub number_of : List ℕ → List ℕ → ℕ → MemberRef → Option ℕ
number_of comps globals n (member_ref.Element e (element_member.BuiltIn place)) = None
number_of comps globals n (member_ref.Element e (element_member.Declared c place)) = number_behind n place (slice_get comps c)
number_of comps globals n (member_ref.Global g place) = number_behind n place (slice_get globals g)

-- of n members the one that a member follows
abbrev pub number_found : List ℕ → List ℕ → ℕ → Option Found → Option ℕ
number_found comps globals n None = None
number_found comps globals n (Some f) = number_of comps globals n f.member

abbrev pub next_by : List ℕ → List ℕ → ℕ → Follower → Option ℕ
next_by comps globals n x = number_found comps globals n x.found

abbrev pub nexts_of : Outline → List Follower → List (Option ℕ)
nexts_of outline xs = map (next_by (starts_of outline) (drop (length outline.comps) (starts_of outline)) (length xs)) xs

-- a kind that is left out is that of another member, but for its own mark or `pure`
abbrev pub taken : MemberKind → MemberKind → MemberKind
taken (kinds.Property mark t) (kinds.Property other u) = kinds.Property mark u
taken (kinds.Callback pure s) (kinds.Callback other r) = kinds.Callback pure r
taken own _ = own

abbrev pub taken_if : MemberKind → Option MemberKind → MemberKind
taken_if own None = own
taken_if own (Some kind) = taken own kind

-- what a member has by itself: its own kind, or that of the built-in member that it is linked to
abbrev pub kind_found : Found → MemberKind
kind_found f = f.kind

abbrev pub kind_there : Follower → MemberKind
kind_there x = taken_if x.kind (option_map kind_found x.found)

-- and by its chain: what the member has at which the chain ends
abbrev pub kind_by : List Follower → Option ℕ → Follower → MemberKind
kind_by all end x = taken_if x.kind (option_map kind_there (option_and_then (slice_get all) end))

abbrev pub kinds_from : List Follower → List ℕ → ℕ → List Follower → List MemberKind
kinds_from all ends i [] = []
kinds_from all ends i (x ∷ xs) = kind_by all (slice_get ends i) x ∷ kinds_from all ends (suc i) xs

abbrev pub kinds_of : List Follower → List (Option ℕ) → List MemberKind
kinds_of xs nexts = kinds_from xs (ends_of nexts) 0 xs

-- an outline with other kinds, in the order of its members
abbrev pub with_kind : Member → Option MemberKind → Member
with_kind m None = m
with_kind m (Some kind) = record m { kind = kind }

abbrev pub with_kinds : List MemberKind → ℕ → List Member → List Member
with_kinds kinds i [] = []
with_kinds kinds i (m ∷ ms) = with_kind m (slice_get kinds i) ∷ with_kinds kinds (suc i) ms

abbrev pub comp_with : List MemberKind → ComponentOutline → ComponentOutline
comp_with kinds comp = record comp { members = with_kinds kinds 0 comp.members }

abbrev pub comps_with : List MemberKind → List ComponentOutline → List ComponentOutline
comps_with kinds [] = []
comps_with kinds (comp ∷ comps) = comp_with kinds comp ∷ comps_with (drop (length comp.members) kinds) comps

abbrev pub global_with : List MemberKind → GlobalOutline → GlobalOutline
global_with kinds g = record g { members = with_kinds kinds 0 g.members }

abbrev pub globals_with : List MemberKind → List GlobalOutline → List GlobalOutline
globals_with kinds [] = []
globals_with kinds (g ∷ gs) = global_with kinds g ∷ globals_with (drop (length g.members) kinds) gs

abbrev pub behind_comps : List MemberKind → List ComponentOutline → List MemberKind
behind_comps kinds [] = kinds
behind_comps kinds (comp ∷ comps) = behind_comps (drop (length comp.members) kinds) comps

abbrev pub refilled : List MemberKind → Outline → Outline
refilled kinds outline = record outline {
  comps = comps_with kinds outline.comps;
  globals = globals_with (behind_comps kinds outline.comps) outline.globals;
}

abbrev pub filled : List FileRow → Outline → Outline
filled rows rough = refilled (kinds_of (followers_in rough rows) (nexts_of rough (followers_in rough rows))) rough

-- the outline of a source
abbrev pub outline : List FileRow → Outline
outline rows = filled rows (rough_outline rows)

-- rule 45 at each member whose kind is left out on a circle of links; the stretch is that of the whole item
abbrev pub endless : Follower → Fault
endless x = record { rule = rules.AliasTypes; span = x.span }

pub record EndlessIn (xs : List Follower) (nexts : List (Option ℕ)) (f : Fault) : Type 0 where
  pub member : ℕ
  pub circle : OnCircle (Leads (link_edges nexts)) member
  pub told : slice_get (map endless xs) member ≡ Some f

abbrev pub EndlessAmong : List FileRow → Outline → Fault → Type 0
EndlessAmong rows rough f = EndlessIn (followers_in rough rows) (nexts_of rough (followers_in rough rows)) f

abbrev pub EndlessLink : List FileRow → Fault → Type 0
EndlessLink rows f = EndlessAmong rows (rough_outline rows) f

-- what a source is sketched as: its outline, where no link is endless, or the first endless link
abbrev pub IsSketch : List FileRow → Sketch → Type 0
IsSketch rows (sketches.Whole made) = (made ≡ outline rows) × NoFault (EndlessLink rows)
IsSketch rows (sketches.Endless f) = IsFirst (EndlessLink rows) f
