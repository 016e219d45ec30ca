-- Rows that stand in several tables, each in byte order.
use Rattle.std.proofs.Common.{◌≡◌, ℕ, suc, ◌<◌, Bool, true, false, if◌then◌else◌, List, [], ◌∷◌, ◌++◌, Option, Some, None, refl, sym, ap, ◌∙◌, arith, true≢false}
use Rattle.std.proofs.lemmas.Bool.Decides.{nat_tests}
use Rattle.std.proofs.lemmas.List.Folds.{find-append}
use Rattle.std.specs.Bool.{◌==◌}
use Rattle.std.specs.List.{find}
use Rattle.std.specs.Option.{option_or}
use Rattle.std.specs.Ordering.{is_gt}
use Rattle.std.specs.Str.{bytes_eq}
use Rattle.element_tables.specs.declared.members.MemberKind.{MemberKind}
use Rattle.element_tables.specs.declared.elements.ElementKind.{ElementKind}
use Rattle.element_tables.specs.declared.elements.ElementKind.TheVariants.{Empty, Window, Rectangle, Text, Image, TouchArea, FocusScope, HorizontalLayout, VerticalLayout, GridLayout, Row}
use Rattle.element_tables.specs.Members.{common_of, own_of, further_of, members, numbered, row_numbered}
use Rattle.element_tables.specs.Rows.{named, byte_order, in_byte_order, insert_row}
use Rattle.element_tables.proofs.Named.{named-sorted}
use Rattle.element_tables.proofs.Sorting.{either_order}

-- what is there in one of three places is what is there in all
pub from_first : {T : Type 0} (whole a b : Option T) (x : T) → whole ≡ option_or a b → Some x ≡ a → Some x ≡ whole
from_first whole a b x w e = sym (w ∙ ap (λ (p : Option _). option_or p b) (sym e))

pub from_second : {T : Type 0} (whole a b c : Option T) (x : T) → whole ≡ option_or a (option_or b c) → None ≡ a → Some x ≡ b → Some x ≡ whole
from_second whole a b c x w n e = sym (w ∙ (ap (λ (p : Option _). option_or p (option_or b c)) (sym n) ∙ ap (λ (p : Option _). option_or p c) (sym e)))

pub from_third : {T : Type 0} (whole a b c r : Option T) → whole ≡ option_or a (option_or b c) → None ≡ a → None ≡ b → r ≡ c → r ≡ whole
from_third whole a b c r w n m e = e ∙ sym (w ∙ (ap (λ (p : Option _). option_or p (option_or b c)) (sym n) ∙ ap (λ (p : Option _). option_or p c) (sym m)))

one_more : {T : Type 0} (b : Bool) (x : T) (whole p q : Option T) → whole ≡ option_or p q → (if b then Some x else whole) ≡ option_or (if b then Some x else p) q
one_more true x whole p q e = refl
one_more false x whole p q e = e

named-append : {T : Type 0} (name : List ℕ) (xs ys : List (List ℕ × T)) → named name (xs ++ ys) ≡ option_or (named name xs) (named name ys)
named-append name [] ys = refl
named-append name (x ∷ xs) ys = one_more (bytes_eq x.0 name) x.1 _ _ _ (named-append name xs ys)

-- the members of an element are those of its three tables
parts : (of : ElementKind) → members of ≡ numbered 0 (common_of of) ++ (numbered 19 (own_of of) ++ numbered 25 (further_of of))
parts Empty = refl
parts Window = refl
parts Rectangle = refl
parts Text = refl
parts Image = refl
parts TouchArea = refl
parts FocusScope = refl
parts HorizontalLayout = refl
parts VerticalLayout = refl
parts GridLayout = refl
parts Row = refl

pub members_named : (of : ElementKind) (name : List ℕ) → named name (members of)
    ≡ option_or (named name (in_byte_order (numbered 0 (common_of of)))) (option_or (named name (in_byte_order (numbered 19 (own_of of)))) (named name (in_byte_order (numbered 25 (further_of of)))))
members_named of name =
    let own = numbered 19 (own_of of) in
    let further = numbered 25 (further_of of) in
    ap (named name) (parts of)
    ∙ (named-append name (numbered 0 (common_of of)) (own ++ further)
    ∙ ((λ i. option_or (sym (named-sorted name (numbered 0 (common_of of))) i) (named-append name own further i))
    ∙ (λ i. option_or (named name (in_byte_order (numbered 0 (common_of of)))) (option_or (sym (named-sorted name own) i) (sym (named-sorted name further) i)))))

-- at most one row passes a test
abbrev pub AtMostOne : {X : Type 0} → (X → Bool) → List X → Type 0
AtMostOne p [] = Unit {0}
AtMostOne p (x ∷ xs) = (p x ≡ true → find p xs ≡ None) × AtMostOne p xs

Some≢None : {X : Type 0} (x : X) → Some x ≡ None → ⊥
Some≢None x e = cc

neither : {X : Type 0} (b : Bool) (x : X) (rest : Option X) → (if b then Some x else rest) ≡ None → (b ≡ false) × (rest ≡ None)
neither true x rest e = absurd (Some≢None x e)
neither false x rest e = (refl, e)

module _ {T : Type 0} (p : List ℕ × T → Bool) where
  find-insert_row : (row : List ℕ × T) (rows : List (List ℕ × T)) → (p row ≡ true → find p rows ≡ None) → find p (insert_row byte_order row rows) ≡ find p (row ∷ rows)
  find-insert_row row [] apart = refl
  find-insert_row row (r ∷ rows) apart = by (is_gt (byte_order row.0 r.0)) (find-insert_row row rows (λ passes. (neither (p r) r (find p rows) (apart passes)).1))
    where
      by : (b : Bool) → find p (insert_row byte_order row rows) ≡ find p (row ∷ rows)
          → find p (if b then r ∷ insert_row byte_order row rows else row ∷ r ∷ rows) ≡ find p (row ∷ r ∷ rows)
      by true rest = either_order (p row) (p r) (Some row) (Some r) _ (find p rows) (λ a b. true≢false (sym b ∙ (neither (p r) r (find p rows) (apart a)).0)) rest
      by false rest = refl

  find-sorted : (rows : List (List ℕ × T)) → AtMostOne p rows → find p (in_byte_order rows) ≡ find p rows
  find-sorted [] once = refl
  find-sorted (row ∷ rows) once =
      find-insert_row row (in_byte_order rows) (λ passes. find-sorted rows once.1 ∙ once.0 passes)
      ∙ ap (λ (found : Option (List ℕ × T)). if p row then Some row else found) (find-sorted rows once.1)

other_number : (m n : ℕ) → n < m → (m == n) ≡ false
other_number m n h = grind (arith, nat_tests)

same_number : (m n : ℕ) → (m == n) ≡ true → m ≡ n
same_number m n h = grind (arith, nat_tests)

-- numbers rise
past : (n m : ℕ) (kinds : List (List ℕ × MemberKind)) → n < m → row_numbered n (numbered m kinds) ≡ None
past n m [] h = refl
past n m (row ∷ kinds) h =
    ap (λ (b : Bool). if b then Some (row.0, record { number = m; kind = row.1 }) else row_numbered n (numbered (suc m) kinds)) (other_number m n h)
    ∙ past n (suc m) kinds (omega arith)

numbered_once : (n m : ℕ) (kinds : List (List ℕ × MemberKind)) → AtMostOne (λ row. row.1.number == n) (numbered m kinds)
numbered_once n m [] = tt
numbered_once n m (row ∷ kinds) = (λ same. past n (suc m) kinds (omega (arith, same_number m n same)), numbered_once n (suc m) kinds)

number-sorted : (n m : ℕ) (kinds : List (List ℕ × MemberKind)) → row_numbered n (in_byte_order (numbered m kinds)) ≡ row_numbered n (numbered m kinds)
number-sorted n m kinds = find-sorted (λ row. row.1.number == n) (numbered m kinds) (numbered_once n m kinds)

pub members_numbered : (of : ElementKind) (n : ℕ) → row_numbered n (members of)
    ≡ option_or (row_numbered n (in_byte_order (numbered 0 (common_of of)))) (option_or (row_numbered n (in_byte_order (numbered 19 (own_of of)))) (row_numbered n (in_byte_order (numbered 25 (further_of of)))))
members_numbered of n =
    let own = numbered 19 (own_of of) in
    let further = numbered 25 (further_of of) in
    ap (row_numbered n) (parts of)
    ∙ (find-append (λ row. row.1.number == n) (numbered 0 (common_of of)) (own ++ further)
    ∙ ((λ i. option_or (sym (number-sorted n 0 (common_of of)) i) (find-append (λ row. row.1.number == n) own further i))
    ∙ (λ i. option_or (row_numbered n (in_byte_order (numbered 0 (common_of of)))) (option_or (sym (number-sorted n 19 (own_of of)) i) (sym (number-sorted n 25 (further_of of)) i)))))
