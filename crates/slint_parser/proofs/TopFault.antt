-- From where the tokens of a file stop to their fault.
use Rattle.std.proofs.Common.{◌≡◌, ℕ, ◌-◌, ◌<◌, inl, inr, List, length, slice_get, Some, None, sym, refl, ap, ◌∙◌, subst, arith}
use Rattle.std.specs.Prelude.{Ok}
use Rattle.std.proofs.lemmas.Option.{slice_get_cases}
use Rattle.slint_base.specs.declared.rules.Rule.{Rule}
use Rattle.slint_base.specs.declared.rules.Rule.TheVariants.{Syntax}
use Rattle.slint_base.specs.declared.faults.Fault.{Fault}
use Rattle.slint_lexer.specs.declared.tokens.Token.{Token}
use Rattle.syntax_tree.specs.declared.files.FileItem.{FileItem}
use Rattle.slint_parser.specs.declared.stops.Stop.{Stop}
use Rattle.slint_parser.specs.declared.stops.Stop.TheVariants.{At, AtEnd}
use Rattle.slint_grammar.specs.Faults.{IsFault}
use Rattle.slint_parser.specs.Readings.{outcome}
use Rattle.slint_parser.specs.Files.{ReadsFile, StopFault}
use Rattle.slint_grammar.specs.Stacks.{run, start, Stops}
use Rattle.slint_grammar.proofs.OneFault.{ends_fault}
use Rattle.slint_grammar.proofs.Stopping.{stop_range, stop_fault}

pub of_tokens : (s tokens : List Token) (items : List FileItem) → s ≡ tokens → ReadsFile s (Ok items) → ReadsFile tokens (Ok items)
of_tokens s tokens items e x = let P : List Token → Type 0 = λ z. ReadsFile z (Ok items) in subst P e x

token_there : (tokens : List Token) (i : ℕ) → i < length tokens → (token : Token) × (slice_get tokens i ≡ Some token)
token_there tokens i h = elim (slice_get_cases tokens i).1 [ inl w ↦ (w.0, w.2) | inr w ↦ absurd (omega (arith, w.0)) ]

-- where the tokens stop is their fault
pub fault_of : (file len : ℕ) (s tokens : List Token) (stop : Stop) (fault : Fault) → s ≡ tokens → run s start ≡ outcome stop → StopFault file len tokens stop fault → IsFault file len tokens fault
fault_of file len s tokens AtEnd fault e x y =
    let P : Fault → Type 0 = λ z. IsFault file len tokens z in
    subst P (sym y) (ends_fault file len tokens (ap (λ z. run z start) (sym e) ∙ x))
fault_of file len s tokens (At rule left) fault e x y =
    let P : Fault → Type 0 = λ z. IsFault file len tokens z in
    let stops : run tokens start ≡ Stops rule left = ap (λ z. run z start) (sym e) ∙ x in
    let range = stop_range tokens rule left stops in
    let within : length tokens - left < length tokens = omega (arith, range.0, range.1) in
    let there = token_there tokens (length tokens - left) within in
    subst P (sym (y there.0 there.1)) (stop_fault file len tokens rule left there.0 stops there.1)

-- a stop that is at no token
pub fault_at_end : (file len : ℕ) (tokens : List Token) (stop : Stop) → ((rule : Rule) (left : ℕ) → stop ≡ At rule left → ⊥)
    → StopFault file len tokens stop (record { rule = Syntax; span = record { file = file; start = len; end = len } })
fault_at_end file len tokens AtEnd n = refl
fault_at_end file len tokens (At rule left) n = absurd (n rule left refl)

abbrev fault_with : Rule → Token → Fault
fault_with rule token = record { rule = rule; span = token.span }

same_token_there : (token other : Token) → Some token ≡ Some other → token ≡ other
same_token_there token other h = cc

pub fault_at_token : (file len : ℕ) (tokens : List Token) (stop : Stop) (rule : Rule) (left i : ℕ) (token : Token) → stop ≡ At rule left → i ≡ length tokens - left → Some token ≡ slice_get tokens i
    → StopFault file len tokens stop (fault_with rule token)
fault_at_token file len tokens stop rule left i token e k x =
    let P : Stop → Type 0 = λ z. StopFault file len tokens z (fault_with rule token) in
    subst P (sym e) (λ other g. ap (fault_with rule) (same_token_there token other (x ∙ ap (slice_get tokens) k ∙ g)))

pub fault_at_none : (file len : ℕ) (tokens : List Token) (stop : Stop) (rule : Rule) (left i : ℕ) (fault : Fault) → stop ≡ At rule left → i ≡ length tokens - left → None ≡ slice_get tokens i
    → StopFault file len tokens stop fault
fault_at_none file len tokens stop rule left i fault e k x =
    let P : Stop → Type 0 = λ z. StopFault file len tokens z fault in
    subst P (sym e) (λ other g. absurd (none_some other (x ∙ ap (slice_get tokens) k ∙ g)))
  where
    none_some : (other : Token) → None ≡ Some other → ⊥
    none_some other h = cc
