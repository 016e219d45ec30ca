-- The classes of an expanded tree are determined.
use Rattle.std.proofs.Common.{◌≡◌, ℕ, List, Option, sym, ap, subst, ◌∙◌}
use Rattle.expanded_tree.specs.Trees.{ExpandedValue}
use Rattle.alias_merge.specs.declared.candidate.Candidate.{Candidate}
use Rattle.alias_merge.specs.declared.homes.Home.{Home}
use Rattle.alias_merge.specs.Candidates.{bindings, defaults, handlers}
use Rattle.alias_merge.specs.ChangeLists.{changes}
use Rattle.alias_merge.specs.Changes.{changed_by}
use Rattle.alias_merge.specs.Choosing.{AreChoices}
use Rattle.alias_merge.specs.ClassesValues.{ClassesValue}
use Rattle.alias_merge.specs.Homes.{homes_of}
use Rattle.alias_merge.specs.Links.{link_edges, links}
use Rattle.alias_merge.specs.Merged.{AreClasses}
use Rattle.alias_merge.specs.Numbers.{count}
use Rattle.alias_merge.specs.Rows.{member_rows}
use Rattle.alias_merge.proofs.Labelling.{same_labels}
use Rattle.alias_merge.proofs.OneChoice.{one_list}

same_choices : (e : ExpandedValue) (l m : List ℕ) (g h : List (Option Home)) (cs : List Candidate) (xs ys : List (Option Candidate)) → l ≡ m → g ≡ h → AreChoices (link_edges e) l g cs xs → AreChoices (link_edges e) m h cs ys → xs ≡ ys
same_choices e l m g h cs xs ys p q a b =
    one_list (link_edges e) m h cs xs ys (subst (λ (t : List (Option Home)). AreChoices (link_edges e) m t cs xs) q (subst (λ (t : List ℕ). AreChoices (link_edges e) t g cs xs) p a)) b

abbrev value : List ℕ → List (Option Home) → List (Option Candidate) → List (Option Candidate) → List (Option Candidate) → List (Option ℕ) → ClassesValue
value l h b d k c = record { labels = l; homes = h; bindings = b; defaults = d; handlers = k; changed = c }

pub same_classes : (e : ExpandedValue) (a b : ClassesValue) → AreClasses e a → AreClasses e b → a ≡ b
same_classes e a b p q =
    let l : a.labels ≡ b.labels = same_labels (links e) (count e) a.labels b.labels p.groups.labelled q.groups.labelled in
    let h : a.homes ≡ b.homes = p.groups.housed ∙ (ap (λ (x : List ℕ). homes_of x (member_rows e)) l ∙ sym q.groups.housed) in
    let x : a.bindings ≡ b.bindings = same_choices e a.labels b.labels a.homes b.homes (bindings e) a.bindings b.bindings l h p.bound q.bound in
    let y : a.defaults ≡ b.defaults = same_choices e a.labels b.labels a.homes b.homes (defaults e) a.defaults b.defaults l h p.given q.given in
    let z : a.handlers ≡ b.handlers = same_choices e a.labels b.labels a.homes b.homes (handlers e) a.handlers b.handlers l h p.handled q.handled in
    let c : a.changed ≡ b.changed = p.listed ∙ (ap (λ (x : List ℕ). changed_by x (changes e)) l ∙ sym q.listed) in
    ap (λ t. value t a.homes a.bindings a.defaults a.handlers a.changed) l
    ∙ (ap (λ t. value b.labels t a.bindings a.defaults a.handlers a.changed) h
    ∙ (ap (λ t. value b.labels b.homes t a.defaults a.handlers a.changed) x
    ∙ (ap (λ t. value b.labels b.homes b.bindings t a.handlers a.changed) y
    ∙ (ap (λ t. value b.labels b.homes b.bindings b.defaults t a.changed) z
    ∙ ap (λ t. value b.labels b.homes b.bindings b.defaults b.handlers t) c))))
