-- The fault of a run that stops, at the token that stands where it stopped.
use Rattle.std.proofs.Common.{◌≡◌, ℕ, suc, ◌+◌, ◌-◌, ◌≤◌, ◌<◌, List, ◌∷◌, ◌++◌, length, get_or, slice_get, Some, sym, ap, ◌∙◌, subst, length-append, arith}
use Rattle.std.proofs.Math.Seq.{get_or-append_seam}
use Rattle.std.proofs.lemmas.Option.{get_or_from_slice_get}
use Rattle.slint_base.specs.declared.rules.Rule.{Rule}
use Rattle.slint_lexer.specs.declared.tokens.Token.{Token}
use Rattle.slint_grammar.specs.Faults.{IsFault}
use Rattle.slint_grammar.specs.Stacks.{Stops, run, start}
use Rattle.slint_grammar.proofs.OneFault.{same_token, stops_fault}

place_of : (front rest : List Token) (t : Token) (tokens : List Token) (left : ℕ) → tokens ≡ front ++ t ∷ rest → left ≡ suc (length rest) → length tokens - left ≡ length front
place_of front rest t tokens left e l =
    let f : length tokens ≡ length front + length (t ∷ rest) = ap length e ∙ length-append front (t ∷ rest) in omega arith

-- so many are left, of which there is one
pub stop_range : (tokens : List Token) (rule : Rule) (left : ℕ) → run tokens start ≡ Stops rule left → (0 < left) × (left ≤ length tokens)
stop_range tokens rule left e = of (stops_fault 0 0 tokens rule left e)
  where
    of : (front : List Token) × (token : Token) × (rest : List Token) × (tokens ≡ front ++ token ∷ rest) × (left ≡ suc (length rest))
        × IsFault 0 0 tokens (record { rule = rule; span = token.span }) → (0 < left) × (left ≤ length tokens)
    of (front, t, rest, f, l, x) =
        let g : length tokens ≡ length front + length (t ∷ rest) = ap length f ∙ length-append front (t ∷ rest) in (omega arith, omega arith)

-- the token that stands where so many are left
pub stop_fault : (file len : ℕ) (tokens : List Token) (rule : Rule) (left : ℕ) (token : Token) → run tokens start ≡ Stops rule left → slice_get tokens (length tokens - left) ≡ Some token
    → IsFault file len tokens (record { rule = rule; span = token.span })
stop_fault file len tokens rule left token e g = of (stops_fault file len tokens rule left e)
  where
    of : (front : List Token) × (t : Token) × (rest : List Token) × (tokens ≡ front ++ t ∷ rest) × (left ≡ suc (length rest))
        × IsFault file len tokens (record { rule = rule; span = t.span }) → IsFault file len tokens (record { rule = rule; span = token.span })
    of (front, t, rest, f, l, x) =
        let k : length tokens - left ≡ length front = place_of front rest t tokens left f l in
        let h : t ≡ token =
        sym (get_or-append_seam front t rest token) ∙ ap (λ z. get_or z (length front) token) (sym f) ∙ ap (λ n. get_or tokens n token) (sym k)
        ∙ get_or_from_slice_get tokens (length tokens - left) token token g in
        subst (λ (z : Token). IsFault file len tokens (record { rule = rule; span = z.span })) h x

-- the same where what stands before and behind it is known
pub stop_fault_at : (file len : ℕ) (front : List Token) (token : Token) (rest : List Token) (rule : Rule) → run (front ++ token ∷ rest) start ≡ Stops rule (suc (length rest))
    → IsFault file len (front ++ token ∷ rest) (record { rule = rule; span = token.span })
stop_fault_at file len front token rest rule e = of (stops_fault file len (front ++ token ∷ rest) rule (suc (length rest)) e)
  where
    of : (front' : List Token) × (t : Token) × (rest' : List Token) × (front ++ token ∷ rest ≡ front' ++ t ∷ rest') × (suc (length rest) ≡ suc (length rest'))
        × IsFault file len (front ++ token ∷ rest) (record { rule = rule; span = t.span }) → IsFault file len (front ++ token ∷ rest) (record { rule = rule; span = token.span })
    of (front', t, rest', f, l, x) =
        let n : length rest' ≡ length rest = omega arith in
        subst (λ (z : Token). IsFault file len (front ++ token ∷ rest) (record { rule = rule; span = z.span })) (same_token front' front t token rest' rest (sym f) n) x
