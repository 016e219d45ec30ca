-- What words of some shapes come to, whatever their names are.
use Rattle.std.proofs.Common.{◌≡◌, refl, false, nat_eq, ℕ, List, [], ◌∷◌, ◌++◌, Some, None, codes}
use borrow.Author.Tests.{ne_eqb}
use Rattle.clap.proofs.OnLiterals.{clap_on_literals}
use Rattle.command_words.specs.Laws.{Asks, IsPlain, IsUnreadable}
use Rattle.command_words.specs.Words.{words_of}

pub alone : (own word : List ℕ) → IsPlain word → Asks (own ∷ word ∷ []) word None
unfolding words_of clap_on_literals
alone own [] plain = refl
alone own (x ∷ xs) plain =
    let other : nat_eq x 45 ≡ false = ne_eqb x 45 plain in
    simp other

pub dashes : (own word : List ℕ) → Asks (own ∷ codes "--" ∷ word ∷ []) word None
unfolding words_of clap_on_literals
dashes own word = refl

pub before : (own name word : List ℕ) → IsPlain name → IsPlain word → Asks (own ∷ codes "--component" ∷ name ∷ word ∷ []) word (Some name)
unfolding words_of clap_on_literals
before own [] [] named plain = refl
before own [] (x ∷ xs) named plain =
    let other : nat_eq x 45 ≡ false = ne_eqb x 45 plain in
    simp other
before own (y ∷ ys) [] named plain =
    let other : nat_eq y 45 ≡ false = ne_eqb y 45 named in
    simp other
before own (y ∷ ys) (x ∷ xs) named plain =
    let other : nat_eq y 45 ≡ false = ne_eqb y 45 named in
    let further : nat_eq x 45 ≡ false = ne_eqb x 45 plain in
    simp (other, further)

pub behind : (own name word : List ℕ) → IsPlain name → IsPlain word → Asks (own ∷ word ∷ codes "--component" ∷ name ∷ []) word (Some name)
unfolding words_of clap_on_literals
behind own [] [] named plain = refl
behind own [] (x ∷ xs) named plain =
    let other : nat_eq x 45 ≡ false = ne_eqb x 45 plain in
    simp other
behind own (y ∷ ys) [] named plain =
    let other : nat_eq y 45 ≡ false = ne_eqb y 45 named in
    simp other
behind own (y ∷ ys) (x ∷ xs) named plain =
    let other : nat_eq x 45 ≡ false = ne_eqb x 45 plain in
    let further : nat_eq y 45 ≡ false = ne_eqb y 45 named in
    simp (other, further)

pub joined : (own name word : List ℕ) → IsPlain word → Asks (own ∷ (codes "--component=" ++ name) ∷ word ∷ []) word (Some name)
unfolding words_of clap_on_literals
joined own name [] plain = refl
joined own name (x ∷ xs) plain =
    let other : nat_eq x 45 ≡ false = ne_eqb x 45 plain in
    simp other

pub twice : (own name other : List ℕ) (others : List (List ℕ)) → IsUnreadable (own ∷ (codes "--component=" ++ name) ∷ (codes "--component=" ++ other) ∷ others)
unfolding words_of clap_on_literals
twice own name other others = refl

pub two_files : (own word other : List ℕ) (others : List (List ℕ)) → IsPlain word → IsPlain other → IsUnreadable (own ∷ word ∷ other ∷ others)
unfolding words_of clap_on_literals
two_files own [] [] others plain further = refl
two_files own [] (y ∷ ys) others plain further =
    let no_option : nat_eq y 45 ≡ false = ne_eqb y 45 further in
    simp no_option
two_files own (x ∷ xs) [] others plain further =
    let no_option : nat_eq x 45 ≡ false = ne_eqb x 45 plain in
    simp no_option
two_files own (x ∷ xs) (y ∷ ys) others plain further =
    let no_option : nat_eq x 45 ≡ false = ne_eqb x 45 plain in
    let no_other : nat_eq y 45 ≡ false = ne_eqb y 45 further in
    simp (no_option, no_other)

pub no_words : IsUnreadable []
unfolding words_of clap_on_literals
no_words = refl

pub own_word : (own : List ℕ) → IsUnreadable (own ∷ [])
unfolding words_of clap_on_literals
own_word own = refl

pub component_alone : (own name : List ℕ) → IsUnreadable (own ∷ (codes "--component=" ++ name) ∷ [])
unfolding words_of clap_on_literals
component_alone own name = refl
