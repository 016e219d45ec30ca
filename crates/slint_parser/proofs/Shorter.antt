-- What a derivation leaves of the tokens: no more than there were, and fewer where the part takes a token.
use Rattle.std.proofs.Common.{◌≡◌, ℕ, ◌≤◌, ◌<◌, Bool, true, false, ◌&&◌, ◌||◌, not, List, length, sym, refl, ap, ◌∙◌, le_trans, true≢false, arith}
use Rattle.slint_lexer.specs.declared.tokens.Token.{Token}
use Rattle.slint_grammar.specs.Parts.{Part}
use Rattle.slint_grammar.specs.Grammar.{Terminal, Slot, Alt, slots}
use Rattle.slint_grammar.specs.Derivations.{Takes, Derives, by, Through, ends, takes, part, deep}
use Rattle.slint_grammar.specs.Stacks.{nullable}
use Rattle.slint_grammar.proofs.Tables.{all_nullable, nullable_by}

pub taken_shorter : {free d : ℕ} {t : Terminal} {s r : List Token} → Takes free d t s r → length r < length s
taken_shorter {s} {r} x = omega (arith, ap length x.front)

mutual
  pub no_longer : {free d : ℕ} {p : Part} {s r : List Token} → Derives free p d s r → length r ≤ length s
  no_longer (by a x) = all_no_longer x

  pub all_no_longer : {free d : ℕ} {xs : List Slot} {s r : List Token} → Through free xs d s r → length r ≤ length s
  all_no_longer ends = omega arith
  all_no_longer (takes x y) = let a = taken_shorter x in let b = all_no_longer y in omega (arith, a, b)
  all_no_longer (part x y) = le_trans (all_no_longer y) (no_longer x)
  all_no_longer (deep x y) = le_trans (all_no_longer y) (no_longer x)

not_nullable : {p : Part} (a : Alt p) → nullable p ≡ false → all_nullable (slots a) ≡ false
not_nullable {p} a n = by_test (all_nullable (slots a)) (nullable p) (nullable_by a) n
  where
    by_test : (x y : Bool) → (not x || y) ≡ true → y ≡ false → x ≡ false
    by_test false y e n = refl
    by_test true y e n = absurd (true≢false (sym e ∙ n))

either : (s m r : List Token) (a b : Bool) → (a && b) ≡ false → (a ≡ false → length m < length s) → (b ≡ false → length r < length m) → length m ≤ length s → length r ≤ length m → length r < length s
either s m r false b e f g h k = let a = f refl in omega (arith, a)
either s m r true b e f g h k = let a = g e in omega (arith, a)

mutual
  pub shorter : {free d : ℕ} {p : Part} {s r : List Token} → Derives free p d s r → nullable p ≡ false → length r < length s
  shorter (by a x) n = all_shorter x (not_nullable a n)

  pub all_shorter : {free d : ℕ} {xs : List Slot} {s r : List Token} → Through free xs d s r → all_nullable xs ≡ false → length r < length s
  all_shorter ends n = absurd (true≢false n)
  all_shorter (takes x y) n = let a = taken_shorter x in let b = all_no_longer y in omega (arith, a, b)
  all_shorter (part {p} {xs} {s = s} {m} {r} x y) n = either s m r (nullable p) (all_nullable xs) n (λ k. shorter x k) (λ k. all_shorter y k) (no_longer x) (all_no_longer y)
  all_shorter (deep {p} {xs} {s = s} {m} {r} x y) n = either s m r (nullable p) (all_nullable xs) n (λ k. shorter x k) (λ k. all_shorter y k) (no_longer x) (all_no_longer y)
