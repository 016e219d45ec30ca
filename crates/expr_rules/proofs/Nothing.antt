-- What isn't the node of an expression assigns nothing, and breaks no rule by that.
use Rattle.std.proofs.Common.{◌≡◌, rules, None, refl, sym, ap, Option, Some, if◌then◌else◌}
use Rattle.slint_base.specs.declared.faults.Span.{Span}
use Rattle.slint_base.specs.declared.rules.Rule.TheVariants as rule
use Rattle.typed_tree.specs.declared.statements.Target.{Target}
use Rattle.typed_tree.specs.Scopes.{ScopeValue}
use Rattle.expr_rules.specs.declared.judged.Denoted.{Denoted}
use Rattle.expr_rules.specs.declared.judged.Judged.{Judged}
use Rattle.expr_rules.specs.declared.judged.Judged.TheVariants as judged
use Rattle.expr_rules.specs.Denotations.{denoted, nothing, nowhere}
use Rattle.expr_rules.specs.OwnBlocks.{may_assign_member}
use Rattle.expr_rules.specs.OwnSteps.{assigned_fault}
use Rattle.expr_rules.specs.Targets.{property_of_target, target_of}
use Rattle.typed_tree.specs.declared.expressions.ExprKind.{the_lemmas}

pub no_target : (s : ScopeValue) (span : Span) → target_of s (nothing span) ≡ None
no_target s span = search (rules, the_lemmas)

no_fault : (s : ScopeValue) → None ≡ assigned_fault s (denoted judged.Fresh)
no_fault s = sym (ap (λ (t : Option Target). if may_assign_member s (property_of_target t) then None else Some (record { rule = rule.Visibility; span = nowhere })) (no_target s nowhere))

pub none_denoted : (s : ScopeValue) (x : Judged) → ((d : Denoted) → x ≡ judged.Denoted d → ⊥) → None ≡ assigned_fault s (denoted x)
none_denoted s (judged.Denoted d) h = absurd (h d refl)
none_denoted s judged.Fresh h = no_fault s
none_denoted s (judged.Stmt stmt) h = no_fault s
none_denoted s (judged.Block block) h = no_fault s
