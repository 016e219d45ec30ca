-- What names outside expressions may stand for: members of the element or the global at hand, and what paths lead to.
use Rattle.std.specs.Prelude.{Bool, true, false, List, [], ◌∷◌, if◌then◌else◌, codes, Option, Some, None}
use Rattle.std.specs.Str.{bytes_eq}
use Rattle.slint_base.specs.declared.faults.Fault.{Fault}
use Rattle.slint_base.specs.declared.faults.Span.{Span}
use Rattle.slint_base.specs.declared.rules.Rule.{Rule}
use Rattle.slint_base.specs.declared.rules.Rule.TheVariants as rules
use Rattle.syntax_tree.specs.declared.items.Mark.{Mark}
use Rattle.syntax_tree.specs.declared.items.Mark.TheVariants as marks
use Rattle.syntax_tree.specs.declared.words.Ident.{Ident}
use Rattle.syntax_tree.specs.declared.words.Path.{Path}
use Rattle.typed_tree.specs.declared.members.Found.{Found}
use Rattle.typed_tree.specs.declared.members.MemberKind.{MemberKind}
use Rattle.typed_tree.specs.declared.members.MemberKind.TheVariants as kinds
use Rattle.typed_tree.specs.declared.scopes.Site.{Site}
use Rattle.typed_tree.specs.Members.{bindable, is_inside, linkable, readable}
use Rattle.typed_tree.specs.Scopes.{ScopeValue}
use Rattle.name_lookup.specs.declared.leads.Lead.{Lead}
use Rattle.name_lookup.specs.declared.leads.Lead.TheVariants as leads
use Rattle.name_lookup.specs.Leads.{lead_of, own_member, path_name}
use Rattle.item_rules.specs.declared.uses.Use.{Use}
use Rattle.item_rules.specs.declared.uses.Use.TheVariants as uses

-- the rule that a use breaks which has to be allowed
abbrev pub unless : Bool → Option Rule
unless true = None
unless false = Some rules.Visibility

-- a property is bound, also in a state; watched; linked, as the left side or beside a left side with some mark; it is no callback that is handled
abbrev pub property_breach : Use → Bool → Mark → Option Rule
property_breach uses.Bind inside mark = unless (bindable inside mark)
property_breach uses.Watch inside mark = unless (readable inside mark)
property_breach uses.LinkLeft inside mark = unless (bindable inside mark)
property_breach (uses.LinkRight left) inside mark = unless (linkable inside left mark)
property_breach uses.Handle inside mark = Some rules.UnknownName

-- a callback is linked and handled by everybody; it is no property
abbrev pub callback_breach : Use → Option Rule
callback_breach uses.Bind = Some rules.UnknownName
callback_breach uses.Watch = Some rules.UnknownName
callback_breach uses.LinkLeft = None
callback_breach (uses.LinkRight left) = None
callback_breach uses.Handle = None

-- a function is only called
abbrev pub kind_breach : Use → Bool → MemberKind → Option Rule
kind_breach how inside (kinds.Property mark ty) = property_breach how inside mark
kind_breach how inside (kinds.Callback pure signature) = callback_breach how
kind_breach how inside (kinds.Function pure access signature) = Some rules.UnknownName

-- the rule that a body breaks by a use of a member, if it is there
abbrev pub breach : Site → Use → Option Found → Option Rule
breach here how None = Some rules.UnknownName
breach here how (Some f) = kind_breach how (is_inside here f.owner) f.kind

abbrev pub told_at : Span → Option Rule → List Fault
told_at span None = []
told_at span (Some rule) = record { rule = rule; span = span } ∷ []

-- the name of a binding, of a link's left side, of what is watched
abbrev pub name_faults : ScopeValue → Use → Ident → List Fault
name_faults s how x = told_at x.span (breach s.site how (own_member s x.name))

-- the name of a handler; `init` is always one
abbrev pub handler_faults : ScopeValue → Ident → List Fault
handler_faults s x = if bytes_eq x.name (codes "init") then [] else name_faults s uses.Handle x

-- a path: it is told where it is lost, and else at its last name
abbrev pub lead_faults : Site → Use → Span → Lead → List Fault
lead_faults here how last (leads.Lost at) = told_at at (Some rules.UnknownName)
lead_faults here how last (leads.To f) = told_at last (breach here how (Some f))

abbrev pub path_faults : ScopeValue → Use → Path → List Fault
path_faults s how path = lead_faults s.site how (path_name path) (lead_of s path)

-- the mark of a link's left side; what is no property has none
abbrev pub mark_of_kind : MemberKind → Mark
mark_of_kind (kinds.Property mark ty) = mark
mark_of_kind _ = marks.None

abbrev pub left_mark : Option Found → Mark
left_mark None = marks.None
left_mark (Some f) = mark_of_kind f.kind
