use Rattle.std.proofs.Common.{◌≡◌, ℕ, List, [], ◌∷◌, ◌++◌, map, sym, ap, ◌∙◌, refl, append_assoc, append-nil, map-id}
use Rattle.std.specs.Prelude.{encode_utf8, encode_utf8_all}
use Rattle.std.specs.Str.{chars}
use Rattle.std.proofs.lemmas.List.{map-append}
use Rattle.std.proofs.lemmas.Str.{encodes-append, chars_past_char, IsUtf8-past_char}
use Rattle.std.proofs.lemmas.Iterator.{YieldsList-from_chars}
use Rattle.std.proofs.lemmas.Iterator.Consumers.{YieldsList-end}
use Rattle.slint_base.specs.Names.{dashed, normal_name}
use Rattle.slint_base.proofs.names.Name.normal.Goals as goal

-- one more character
one_more : (first old new cs : List ℕ) (c d : ℕ) → old ≡ first ++ encode_utf8_all (map dashed cs) → new ≡ old ++ encode_utf8 d → d ≡ dashed c
    → new ≡ first ++ encode_utf8_all (map dashed (cs ++ c ∷ []))
one_more first old new cs c d o n e = rw n (rw o (rw e (simp (map-append, encodes-append, append_assoc, append-nil) refl)))

-- the whole name
whole : (text first new cs : List ℕ) (c : ℕ) → chars text ≡ c ∷ cs → first ≡ encode_utf8 c → new ≡ first ++ encode_utf8_all (map dashed cs) → new ≡ normal_name text
whole text first new cs c e f n = rw e (rw n (rw f refl))

pub loop-ch-preserved : goal.loop-ch-preserved
loop-ch-preserved c = one_more _ _ _ c.loop-ch.yielded c.in-Some-ch.ch _ c.loop-ch.invariant c.in_ok-push-2.ensures.bytes c.dashed.ensures

pub returns : goal.returns
returns c =
    let rest = c.next.new.self.rest.now in
    let front : c.args.text.now ≡ encode_utf8 c.in-Some.first ++ rest = sym c.chars-chars.ensures.rest ∙ c.in-Some.ensures.steps.0 in
    let source = ap (λ s. s.rest.now) c.into_iter-ch-iterator.ensures.into_iter_gives in
    let text = IsUtf8-past_char c.args.text.now rest c.in-Some.first c.utf8.text front in
    let ended = YieldsList-end (YieldsList-from_chars rest text source) c.loop-ch.yielded _ c.loop-ch.yielded_by _ _ c.in-None.is c.next-in-loop-ch.ensures.steps in
    let all : chars rest ≡ c.loop-ch.yielded = sym ended.0 ∙ map-id c.loop-ch.yielded in
    whole c.args.text.now _ _ c.loop-ch.yielded c.in-Some.first (chars_past_char c.args.text.now rest c.in-Some.first c.utf8.text front ∙ ap (λ cs. c.in-Some.first ∷ cs) all) (c.in_ok-push.ensures.bytes ∙ ap (λ bs. bs ++ encode_utf8 c.in-Some.first) c.new-normal.ensures.bytes) c.loop-ch.invariant
