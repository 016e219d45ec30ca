-- What is read is written so.
use Rattle.std.proofs.Common.{◌≡◌, ℕ, zero, suc, ◌+◌, ◌<◌, ◌≤◌, Bool, true, false, List, [], ◌∷◌, ◌++◌, length, drop, sym, ◌∙◌, ap, refl, subst, arith, append_assoc, append-nil, length-append, Option, Some, None}
use Rattle.std.specs.Prelude.{if◌then◌else◌, ◌==◌, ◌&&◌, slice_get, codes, option_and_then, is_some}
use Rattle.std.specs.Str.{bytes_eq}
use Rattle.std.specs.Cmp.Lexicographic.{bytes_decides}
use Rattle.std.proofs.lemmas.Bool.{eqb-true}
use Rattle.std.proofs.lemmas.List.{drop_all}
use Rattle.slint_literals.proofs.Choices.{both}
use Rattle.value_types.specs.declared.enums.EnumNames.{EnumNames}
use Rattle.value_types.specs.declared.types.Ty.{Ty, out-Ty}
use Rattle.value_types.specs.declared.types.Ty.TheOpen as form
use Rattle.value_types.specs.declared.values.Value.{Value}
use Rattle.value_types.specs.declared.values.Value.TheVariants as value
use Rattle.value_types.specs.Conversions.{Form, converted, field_named}
use Rattle.value_reading.specs.declared.parts.Part.{Part}
use Rattle.value_reading.specs.declared.parts.Part.TheVariants as part
use Rattle.value_reading.specs.declared.reading.Reading.{Reading}
use Rattle.value_reading.specs.declared.reading.ItemsRead.{ItemsRead}
use Rattle.value_reading.specs.declared.reading.FieldsRead.{FieldsRead}
use Rattle.value_reading.specs.Reading.{beside, is_mark_of, is_mark_at, is_word_of, path_read, negative_read, image_read, mark_read, second_read, word_read, plain_by, plain_read, item_then, items_read, field_read, field_then, name_read, fields_read, word_of, array_of, struct_of, array_read, struct_read, read_form, read_to, whole_of, value_of_parts}
use Rattle.value_reading.specs.Words.{number_as, negative_as, word_in, pair_in, filled}
use Rattle.value_reading.specs.Grammar.{IsValue, a_number, a_negative, a_color, a_string, a_word, a_pair, an_image, an_array, a_struct, IsItems, no_items, last_item, more_items, IsFields, no_fields, last_field, more_fields}

-- options
some_is : {X : Type 0} (x y : X) → Some x ≡ Some y → x ≡ y
some_is x y e = cc

none_is : {X : Type 0} (x : X) (P : Type 0) → None ≡ Some x → P
none_is x P e = absurd (cc)

-- a part that stands at a place
front : (all : List Part) (k j : ℕ) (p : Part) → slice_get all k ≡ Some p → j ≡ k + 1 → drop k all ≡ p ∷ drop j all
front [] k j p e n = none_is p (drop k [] ≡ p ∷ drop j []) e
front (x ∷ xs) zero j p e n = let one : j ≡ suc zero = omega (arith, n) in ap (λ y. y ∷ xs) (some_is x p e) ∙ ap (λ i. p ∷ drop i (x ∷ xs)) (sym one)
front (x ∷ xs) (suc k) j p e n = let more : j ≡ suc (k + 1) = omega (arith, n) in front xs k (k + 1) p e refl ∙ ap (λ i. p ∷ drop i (x ∷ xs)) (sym more)

mark_is : (m : ℕ) (o : Option Part) → is_mark_of m o ≡ true → o ≡ Some (part.Mark m)
mark_is m None e = absurd (cc)
mark_is m (Some (part.Mark k)) e = ap (λ x. Some (part.Mark x)) (eqb-true k m e)
mark_is m (Some (part.Number n)) e = absurd (cc)
mark_is m (Some (part.Color c)) e = absurd (cc)
mark_is m (Some (part.Str t)) e = absurd (cc)
mark_is m (Some (part.Word w)) e = absurd (cc)

word_is : (w : List ℕ) (o : Option Part) → is_word_of w o ≡ true → o ≡ Some (part.Word w)
word_is w None e = absurd (cc)
word_is w (Some (part.Word x)) e = ap (λ y. Some (part.Word y)) ((bytes_decides x w).0 e)
word_is w (Some (part.Mark k)) e = absurd (cc)
word_is w (Some (part.Number n)) e = absurd (cc)
word_is w (Some (part.Color c)) e = absurd (cc)
word_is w (Some (part.Str t)) e = absurd (cc)

name_is : (name : List ℕ) (o : Option Part) → word_of o ≡ Some name → o ≡ Some (part.Word name)
name_is name None e = none_is name _ e
name_is name (Some (part.Word x)) e = ap (λ y. Some (part.Word y)) (some_is x name e)
name_is name (Some (part.Mark k)) e = none_is name _ e
name_is name (Some (part.Number n)) e = none_is name _ e
name_is name (Some (part.Color c)) e = none_is name _ e
name_is name (Some (part.Str t)) e = none_is name _ e

-- parts at a place that are a written form of what was read, up to the place behind
record IsReading (enums : List EnumNames) (all : List Part) (ty : Ty) (at : ℕ) (r : Reading) : Type 0 where
  ps : List Part
  stands : drop at all ≡ ps ++ drop r.next all
  ends : r.next ≡ at + length ps
  written : IsValue enums ty ps r.value

beside_is : (next : ℕ) (o : Option Value) (r : Reading) → beside next o ≡ Some r → (o ≡ Some r.value) × (r.next ≡ next)
beside_is next None r e = none_is r _ e
beside_is next (Some v) r e = let same = some_is (record { value = v; next = next }) r e in (ap (λ q. Some q.value) same, sym (ap (λ q. q.next) same))

reading_of : (enums : List EnumNames) (all : List Part) (ty : Ty) (at : ℕ) (r : Reading) (ps : List Part) (next : ℕ) → drop at all ≡ ps ++ drop next all → r.next ≡ next → next ≡ at + length ps → IsValue enums ty ps r.value → IsReading enums all ty at r
reading_of enums all ty at r ps next d e n is = record { ps = ps; stands = d ∙ ap (λ k. ps ++ drop k all) (sym e); ends = e ∙ n; written = is }

-- values that are neither arrays nor structs
second_sound : (enums : List EnumNames) (all : List Part) (ty : Ty) (at : ℕ) (w : List ℕ) (r : Reading) (o : Option Part) → slice_get all at ≡ Some (part.Word w) → slice_get all (at + 1) ≡ Some (part.Mark 46) → slice_get all (at + 2) ≡ o → second_read enums ty at w o ≡ Some r → IsReading enums all ty at r
second_sound enums all ty at w r None f g h e = none_is r _ e
second_sound enums all ty at w r (Some (part.Word x)) f g h e =
    let b = beside_is (at + 3) (pair_in enums w x (out-Ty ty)) r e in
    reading_of enums all ty at r (part.Word w ∷ part.Mark 46 ∷ part.Word x ∷ []) (at + 3)
    (front all at (at + 1) (part.Word w) f refl ∙ ap (λ xs. part.Word w ∷ xs) (front all (at + 1) (at + 2) (part.Mark 46) g (omega arith)) ∙ ap (λ xs. part.Word w ∷ part.Mark 46 ∷ xs) (front all (at + 2) (at + 3) (part.Word x) h (omega arith))) b.1 refl
    (a_pair ty w x r.value b.0)
second_sound enums all ty at w r (Some (part.Mark k)) f g h e = none_is r _ e
second_sound enums all ty at w r (Some (part.Number n)) f g h e = none_is r _ e
second_sound enums all ty at w r (Some (part.Color c)) f g h e = none_is r _ e
second_sound enums all ty at w r (Some (part.Str t)) f g h e = none_is r _ e

word_sound : (enums : List EnumNames) (all : List Part) (ty : Ty) (at : ℕ) (w : List ℕ) (r : Reading) (b : Bool) → slice_get all at ≡ Some (part.Word w) → is_mark_at all (at + 1) 46 ≡ b
    → (if b then second_read enums ty at w (slice_get all (at + 2)) else beside (at + 1) (word_in enums w (out-Ty ty))) ≡ Some r → IsReading enums all ty at r
word_sound enums all ty at w r true f g e = second_sound enums all ty at w r (slice_get all (at + 2)) f (mark_is 46 (slice_get all (at + 1)) g) refl e
word_sound enums all ty at w r false f g e =
    let b = beside_is (at + 1) (word_in enums w (out-Ty ty)) r e in
    reading_of enums all ty at r (part.Word w ∷ []) (at + 1) (front all at (at + 1) (part.Word w) f refl) b.1 refl (a_word ty w r.value b.0)

negative_sound : (enums : List EnumNames) (all : List Part) (ty : Ty) (at : ℕ) (r : Reading) (o : Option Part) → slice_get all at ≡ Some (part.Mark 45) → slice_get all (at + 1) ≡ o → negative_read ty at o ≡ Some r → IsReading enums all ty at r
negative_sound enums all ty at r None f g e = none_is r _ e
negative_sound enums all ty at r (Some (part.Number n)) f g e =
    let b = beside_is (at + 2) (converted (negative_as n) ty) r e in
    reading_of enums all ty at r (part.Mark 45 ∷ part.Number n ∷ []) (at + 2)
    (front all at (at + 1) (part.Mark 45) f refl ∙ ap (λ xs. part.Mark 45 ∷ xs) (front all (at + 1) (at + 2) (part.Number n) g (omega arith))) b.1 refl (a_negative ty n r.value b.0)
negative_sound enums all ty at r (Some (part.Mark k)) f g e = none_is r _ e
negative_sound enums all ty at r (Some (part.Color c)) f g e = none_is r _ e
negative_sound enums all ty at r (Some (part.Str t)) f g e = none_is r _ e
negative_sound enums all ty at r (Some (part.Word w)) f g e = none_is r _ e

path_sound : (enums : List EnumNames) (all : List Part) (ty : Ty) (at : ℕ) (r : Reading) (o : Option Part) → slice_get all at ≡ Some (part.Mark 64) → slice_get all (at + 1) ≡ Some (part.Word (codes "image-url")) → slice_get all (at + 2) ≡ Some (part.Mark 40)
    → slice_get all (at + 4) ≡ Some (part.Mark 41) → slice_get all (at + 3) ≡ o → path_read ty at o ≡ Some r → IsReading enums all ty at r
path_sound enums all ty at r None f g h k l e = none_is r _ e
path_sound enums all ty at r (Some (part.Str path)) f g h k l e =
    let b = beside_is (at + 5) (converted (value.Image path) ty) r e in
    let word : Part = part.Word (codes "image-url") in
    reading_of enums all ty at r (part.Mark 64 ∷ word ∷ part.Mark 40 ∷ part.Str path ∷ part.Mark 41 ∷ []) (at + 5)
    (front all at (at + 1) (part.Mark 64) f refl ∙ ap (λ xs. part.Mark 64 ∷ xs) (front all (at + 1) (at + 2) word g (omega arith)) ∙ ap (λ xs. part.Mark 64 ∷ word ∷ xs) (front all (at + 2) (at + 3) (part.Mark 40) h (omega arith))
    ∙ ap (λ xs. part.Mark 64 ∷ word ∷ part.Mark 40 ∷ xs) (front all (at + 3) (at + 4) (part.Str path) l (omega arith)) ∙ ap (λ xs. part.Mark 64 ∷ word ∷ part.Mark 40 ∷ part.Str path ∷ xs) (front all (at + 4) (at + 5) (part.Mark 41) k (omega arith))) b.1 refl
    (an_image ty path r.value b.0)
path_sound enums all ty at r (Some (part.Mark m)) f g h k l e = none_is r _ e
path_sound enums all ty at r (Some (part.Number n)) f g h k l e = none_is r _ e
path_sound enums all ty at r (Some (part.Color c)) f g h k l e = none_is r _ e
path_sound enums all ty at r (Some (part.Word w)) f g h k l e = none_is r _ e

image_sound : (enums : List EnumNames) (all : List Part) (ty : Ty) (at : ℕ) (r : Reading) (b : Bool) → slice_get all at ≡ Some (part.Mark 64) → (is_word_of (codes "image-url") (slice_get all (at + 1)) && (is_mark_at all (at + 2) 40 && is_mark_at all (at + 4) 41)) ≡ b
    → (if b then path_read ty at (slice_get all (at + 3)) else None) ≡ Some r → IsReading enums all ty at r
image_sound enums all ty at r false f g e = none_is r _ e
image_sound enums all ty at r true f g e =
    let tests = both (is_word_of (codes "image-url") (slice_get all (at + 1))) (is_mark_at all (at + 2) 40 && is_mark_at all (at + 4) 41) g in
    let marks = both (is_mark_at all (at + 2) 40) (is_mark_at all (at + 4) 41) tests.1 in
    path_sound enums all ty at r (slice_get all (at + 3)) f (word_is (codes "image-url") (slice_get all (at + 1)) tests.0) (mark_is 40 (slice_get all (at + 2)) marks.0) (mark_is 41 (slice_get all (at + 4)) marks.1) refl e

other_mark : (enums : List EnumNames) (all : List Part) (ty : Ty) (at m : ℕ) (r : Reading) (b : Bool) → slice_get all at ≡ Some (part.Mark m) → (m == 64) ≡ b → (if b then image_read ty all at else None) ≡ Some r → IsReading enums all ty at r
other_mark enums all ty at m r false f g e = none_is r _ e
other_mark enums all ty at m r true f g e =
    image_sound enums all ty at r (is_word_of (codes "image-url") (slice_get all (at + 1)) && (is_mark_at all (at + 2) 40 && is_mark_at all (at + 4) 41)) (f ∙ ap (λ k. Some (part.Mark k)) (eqb-true m 64 g)) refl e

mark_sound : (enums : List EnumNames) (all : List Part) (ty : Ty) (at m : ℕ) (r : Reading) (b : Bool) → slice_get all at ≡ Some (part.Mark m) → (m == 45) ≡ b
    → (if b then negative_read ty at (slice_get all (at + 1)) else if m == 64 then image_read ty all at else None) ≡ Some r → IsReading enums all ty at r
mark_sound enums all ty at m r true f g e = negative_sound enums all ty at r (slice_get all (at + 1)) (f ∙ ap (λ k. Some (part.Mark k)) (eqb-true m 45 g)) refl e
mark_sound enums all ty at m r false f g e = other_mark enums all ty at m r (m == 64) f refl e

plain_sound : (enums : List EnumNames) (all : List Part) (ty : Ty) (at : ℕ) (r : Reading) (o : Option Part) → slice_get all at ≡ o → plain_by enums ty all at o ≡ Some r → IsReading enums all ty at r
plain_sound enums all ty at r None f e = none_is r _ e
plain_sound enums all ty at r (Some (part.Number n)) f e =
    let b = beside_is (at + 1) (converted (number_as n) ty) r e in
    reading_of enums all ty at r (part.Number n ∷ []) (at + 1) (front all at (at + 1) (part.Number n) f refl) b.1 refl (a_number ty n r.value b.0)
plain_sound enums all ty at r (Some (part.Color c)) f e =
    let b = beside_is (at + 1) (converted (value.Color c) ty) r e in
    reading_of enums all ty at r (part.Color c ∷ []) (at + 1) (front all at (at + 1) (part.Color c) f refl) b.1 refl (a_color ty c r.value b.0)
plain_sound enums all ty at r (Some (part.Str t)) f e =
    let b = beside_is (at + 1) (converted (value.Str t) ty) r e in
    reading_of enums all ty at r (part.Str t ∷ []) (at + 1) (front all at (at + 1) (part.Str t) f refl) b.1 refl (a_string ty t r.value b.0)
plain_sound enums all ty at r (Some (part.Word w)) f e = word_sound enums all ty at w r (is_mark_at all (at + 1) 46) f refl e
plain_sound enums all ty at r (Some (part.Mark m)) f e = mark_sound enums all ty at m r (m == 45) f refl e

-- what is read is written so, for a reader to some depth
abbrev IsSound : List EnumNames → List Part → (Ty → ℕ → Option Reading) → Type 0
IsSound enums all read = (ty : Ty) (at : ℕ) (r : Reading) → read ty at ≡ Some r → IsReading enums all ty at r

-- items up to `]`
record AreItems (enums : List EnumNames) (all : List Part) (item : Ty) (before : List Value) (at : ℕ) (found : ItemsRead) : Type 0 where
  inside : List Part
  vs : List Value
  stands : drop at all ≡ inside ++ part.Mark 93 ∷ drop found.next all
  ends : found.next ≡ at + length inside + 1
  joined : found.values ≡ before ++ vs
  written : IsItems enums item inside vs

end_items : (enums : List EnumNames) (all : List Part) (item : Ty) (before : List Value) (at : ℕ) (found : ItemsRead) → is_mark_at all at 93 ≡ true → Some (record { values = before; next = at + 1 }) ≡ Some found → AreItems enums all item before at found
end_items enums all item before at found m e =
    let same = some_is (record { values = before; next = at + 1 }) found e in
    let counts : found.next ≡ at + 1 = sym (ap (λ f. f.next) same) in
    record {
      inside = [];
      vs = [];
      stands = front all at (at + 1) (part.Mark 93) (mark_is 93 (slice_get all at) m) refl ∙ ap (λ k. part.Mark 93 ∷ drop k all) (sym counts);
      ends = counts ∙ omega arith;
      joined = sym (ap (λ f. f.values) same) ∙ sym (append-nil before);
      written = no_items item;
    }

last_items : (enums : List EnumNames) (all : List Part) (item : Ty) (before : List Value) (at : ℕ) (q : Reading) (found : ItemsRead) → IsReading enums all item at q → is_mark_at all q.next 93 ≡ true → Some (record { values = before ++ q.value ∷ []; next = q.next + 1 }) ≡ Some found
    → AreItems enums all item before at found
last_items enums all item before at q found is m e =
    let same = some_is (record { values = before ++ q.value ∷ []; next = q.next + 1 }) found e in
    let counts : found.next ≡ q.next + 1 = sym (ap (λ f. f.next) same) in
    record {
      inside = is.ps;
      vs = q.value ∷ [];
      stands = is.stands ∙ ap (λ xs. is.ps ++ xs) (front all q.next (q.next + 1) (part.Mark 93) (mark_is 93 (slice_get all q.next) m) refl ∙ ap (λ k. part.Mark 93 ∷ drop k all) (sym counts));
      ends = omega (arith, counts, is.ends);
      joined = sym (ap (λ f. f.values) same);
      written = last_item item is.ps q.value is.written;
    }

commas_items : (enums : List EnumNames) (all : List Part) (item : Ty) (before : List Value) (at : ℕ) (q : Reading) (found : ItemsRead) → IsReading enums all item at q → is_mark_at all q.next 44 ≡ true → AreItems enums all item (before ++ q.value ∷ []) (q.next + 1) found
    → AreItems enums all item before at found
commas_items enums all item before at q found is m later =
    let parted : length (is.ps ++ part.Mark 44 ∷ later.inside) ≡ length is.ps + length later.inside + 1 = omega (arith, length-append is.ps (part.Mark 44 ∷ later.inside)) in
    record {
      inside = is.ps ++ part.Mark 44 ∷ later.inside;
      vs = q.value ∷ later.vs;
      stands = is.stands ∙ ap (λ xs. is.ps ++ xs) (front all q.next (q.next + 1) (part.Mark 44) (mark_is 44 (slice_get all q.next) m) refl ∙ ap (λ xs. part.Mark 44 ∷ xs) later.stands)
          ∙ sym (append_assoc is.ps (part.Mark 44 ∷ later.inside) (part.Mark 93 ∷ drop found.next all));
      ends = omega (arith, later.ends, is.ends, parted);
      joined = later.joined ∙ append_assoc before (q.value ∷ []) later.vs;
      written = more_items item is.ps later.inside q.value later.vs is.written later.written;
    }

-- behind an item: the end, or a comma and more
items_behind : (enums : List EnumNames) (all : List Part) (item : Ty) (read : Ty → ℕ → Option Reading) (left : ℕ) (before : List Value) (at : ℕ) (q : Reading) (found : ItemsRead) (b c : Bool) → IsReading enums all item at q → is_mark_at all q.next 93 ≡ b → is_mark_at all q.next 44 ≡ c
    → ((earlier : List Value) (k : ℕ) → items_read (read item) all left earlier k ≡ Some found → AreItems enums all item earlier k found)
    → (if b then Some (record { values = before ++ q.value ∷ []; next = q.next + 1 }) else if c then items_read (read item) all left (before ++ q.value ∷ []) (q.next + 1) else None) ≡ Some found → AreItems enums all item before at found
items_behind enums all item read left before at q found true c is m n more e = last_items enums all item before at q found is m e
items_behind enums all item read left before at q found false true is m n more e = commas_items enums all item before at q found is n (more (before ++ q.value ∷ []) (q.next + 1) e)
items_behind enums all item read left before at q found false false is m n more e = none_is found _ e

items_after : (enums : List EnumNames) (all : List Part) (item : Ty) (read : Ty → ℕ → Option Reading) (left : ℕ) (before : List Value) (at : ℕ) (o : Option Reading) (found : ItemsRead) → IsSound enums all read → read item at ≡ o
    → ((earlier : List Value) (k : ℕ) → items_read (read item) all left earlier k ≡ Some found → AreItems enums all item earlier k found)
    → item_then (λ values next. items_read (read item) all left values next) all before o ≡ Some found → AreItems enums all item before at found
items_after enums all item read left before at None found sound r more e = none_is found _ e
items_after enums all item read left before at (Some q) found sound r more e = items_behind enums all item read left before at q found (is_mark_at all q.next 93) (is_mark_at all q.next 44) (sound item at q r) refl refl more e

items_first : (enums : List EnumNames) (all : List Part) (item : Ty) (read : Ty → ℕ → Option Reading) (left : ℕ) (before : List Value) (at : ℕ) (b : Bool) (found : ItemsRead) → IsSound enums all read → is_mark_at all at 93 ≡ b
    → ((earlier : List Value) (k : ℕ) → items_read (read item) all left earlier k ≡ Some found → AreItems enums all item earlier k found)
    → (if b then Some (record { values = before; next = at + 1 }) else item_then (λ values next. items_read (read item) all left values next) all before (read item at)) ≡ Some found → AreItems enums all item before at found
items_first enums all item read left before at true found sound m more e = end_items enums all item before at found m e
items_first enums all item read left before at false found sound m more e = items_after enums all item read left before at (read item at) found sound refl more e

items_sound : (enums : List EnumNames) (all : List Part) (item : Ty) (read : Ty → ℕ → Option Reading) (found : ItemsRead) → IsSound enums all read → (left : ℕ) (before : List Value) (at : ℕ) → items_read (read item) all left before at ≡ Some found → AreItems enums all item before at found
unfolding items_read
items_sound enums all item read found sound zero before at e = none_is found _ e
items_sound enums all item read found sound (suc left) before at e = items_first enums all item read left before at (is_mark_at all at 93) found sound refl (λ earlier k g. items_sound enums all item read found sound left earlier k g) e

array_end : (o : Option ItemsRead) (r : Reading) → array_of o ≡ Some r → (found : ItemsRead) × (o ≡ Some found) × (value.Array found.values ≡ r.value) × (r.next ≡ found.next)
array_end None r e = none_is r _ e
array_end (Some found) r e = let same = some_is (record { value = value.Array found.values; next = found.next }) r e in (found, refl, ap (λ q. q.value) same, sym (ap (λ q. q.next) same))

array_sound : (enums : List EnumNames) (all : List Part) (ty item : Ty) (read : Ty → ℕ → Option Reading) (at : ℕ) (r : Reading) (b : Bool) → IsSound enums all read → out-Ty ty ≡ form.Array item → is_mark_at all at 91 ≡ b
    → (if b then array_of (items_read (read item) all (suc (length all)) [] (at + 1)) else None) ≡ Some r → IsReading enums all ty at r
array_sound enums all ty item read at r false sound o m e = none_is r _ e
array_sound enums all ty item read at r true sound o m e =
    let a = array_end (items_read (read item) all (suc (length all)) [] (at + 1)) r e in
    let is = items_sound enums all item read a.0 sound (suc (length all)) [] (at + 1) a.1 in
    let count : a.0.next ≡ at + length (part.Mark 91 ∷ (is.inside ++ part.Mark 93 ∷ [])) = omega (arith, is.ends, length-append is.inside (part.Mark 93 ∷ [])) in
    reading_of enums all ty at r (part.Mark 91 ∷ (is.inside ++ part.Mark 93 ∷ [])) a.0.next
    (front all at (at + 1) (part.Mark 91) (mark_is 91 (slice_get all at) m) refl ∙ ap (λ xs. part.Mark 91 ∷ xs) (is.stands ∙ sym (append_assoc is.inside (part.Mark 93 ∷ []) (drop a.0.next all)))) a.3 count
    (subst (IsValue enums ty (part.Mark 91 ∷ (is.inside ++ part.Mark 93 ∷ []))) (ap value.Array (sym is.joined) ∙ a.2) (an_array ty item is.inside is.vs o is.written))

-- fields up to `}`
record AreFields (enums : List EnumNames) (all : List Part) (fields : List (List ℕ × Ty)) (before : List (List ℕ × Value)) (at : ℕ) (found : FieldsRead) : Type 0 where
  inside : List Part
  vs : List (List ℕ × Value)
  stands : drop at all ≡ inside ++ part.Mark 125 ∷ drop found.next all
  ends : found.next ≡ at + length inside + 1
  joined : found.fields ≡ before ++ vs
  written : IsFields enums fields before inside vs

-- a field's name, `:` and its value
record IsFieldAt (enums : List EnumNames) (all : List Part) (fields : List (List ℕ × Ty)) (before : List (List ℕ × Value)) (at : ℕ) (name : List ℕ) (q : Reading) : Type 0 where
  ty : Ty
  absent : field_named name before ≡ None
  known : field_named name fields ≡ Some ty
  colon : slice_get all (at + 1) ≡ Some (part.Mark 58)
  is : IsReading enums all ty (at + 2) q

field_known : (enums : List EnumNames) (all : List Part) (fields : List (List ℕ × Ty)) (before : List (List ℕ × Value)) (at : ℕ) (name : List ℕ) (q : Reading) (read : Ty → ℕ → Option Reading) (o : Option Ty) → IsSound enums all read → field_named name before ≡ None → slice_get all (at + 1) ≡ Some (part.Mark 58)
    → field_named name fields ≡ o → option_and_then (λ ty. read ty (at + 2)) o ≡ Some q → IsFieldAt enums all fields before at name q
field_known enums all fields before at name q read None sound a c k e = none_is q _ e
field_known enums all fields before at name q read (Some t) sound a c k e = record { ty = t; absent = a; known = k; colon = c; is = sound t (at + 2) q e }

field_coloned : (enums : List EnumNames) (all : List Part) (fields : List (List ℕ × Ty)) (before : List (List ℕ × Value)) (at : ℕ) (name : List ℕ) (q : Reading) (read : Ty → ℕ → Option Reading) (b : Bool) → IsSound enums all read → field_named name before ≡ None → is_mark_at all (at + 1) 58 ≡ b
    → (if b then option_and_then (λ ty. read ty (at + 2)) (field_named name fields) else None) ≡ Some q → IsFieldAt enums all fields before at name q
field_coloned enums all fields before at name q read false sound a c e = none_is q _ e
field_coloned enums all fields before at name q read true sound a c e = field_known enums all fields before at name q read (field_named name fields) sound a (mark_is 58 (slice_get all (at + 1)) c) refl e

field_sound : (enums : List EnumNames) (all : List Part) (fields : List (List ℕ × Ty)) (before : List (List ℕ × Value)) (at : ℕ) (name : List ℕ) (q : Reading) (read : Ty → ℕ → Option Reading) (o : Option Value) → IsSound enums all read → field_named name before ≡ o
    → (if is_some o then None else if is_mark_at all (at + 1) 58 then option_and_then (λ ty. read ty (at + 2)) (field_named name fields) else None) ≡ Some q → IsFieldAt enums all fields before at name q
field_sound enums all fields before at name q read (Some v) sound a e = none_is q _ e
field_sound enums all fields before at name q read None sound a e = field_coloned enums all fields before at name q read (is_mark_at all (at + 1) 58) sound a refl e

end_fields : (enums : List EnumNames) (all : List Part) (fields : List (List ℕ × Ty)) (before : List (List ℕ × Value)) (at : ℕ) (found : FieldsRead) → is_mark_at all at 125 ≡ true → Some (record { fields = before; next = at + 1 }) ≡ Some found → AreFields enums all fields before at found
end_fields enums all fields before at found m e =
    let same = some_is (record { fields = before; next = at + 1 }) found e in
    let counts : found.next ≡ at + 1 = sym (ap (λ f. f.next) same) in
    record {
      inside = [];
      vs = [];
      stands = front all at (at + 1) (part.Mark 125) (mark_is 125 (slice_get all at) m) refl ∙ ap (λ k. part.Mark 125 ∷ drop k all) (sym counts);
      ends = counts ∙ omega arith;
      joined = sym (ap (λ f. f.fields) same) ∙ sym (append-nil before);
      written = no_fields fields before;
    }

-- the front of a field, up to behind its value
field_stands : (enums : List EnumNames) (all : List Part) (fields : List (List ℕ × Ty)) (before : List (List ℕ × Value)) (at : ℕ) (name : List ℕ) (q : Reading) (h : IsFieldAt enums all fields before at name q) → slice_get all at ≡ Some (part.Word name)
    → drop at all ≡ part.Word name ∷ part.Mark 58 ∷ (h.is.ps ++ drop q.next all)
field_stands enums all fields before at name q h w =
    front all at (at + 1) (part.Word name) w refl ∙ ap (λ xs. part.Word name ∷ xs) (front all (at + 1) (at + 2) (part.Mark 58) h.colon (omega arith)) ∙ ap (λ xs. part.Word name ∷ part.Mark 58 ∷ xs) h.is.stands

last_fields : (enums : List EnumNames) (all : List Part) (fields : List (List ℕ × Ty)) (before : List (List ℕ × Value)) (at : ℕ) (name : List ℕ) (q : Reading) (found : FieldsRead) → IsFieldAt enums all fields before at name q → slice_get all at ≡ Some (part.Word name) → is_mark_at all q.next 125 ≡ true
    → Some (record { fields = before ++ (name, q.value) ∷ []; next = q.next + 1 }) ≡ Some found → AreFields enums all fields before at found
last_fields enums all fields before at name q found h w m e =
    let same = some_is (record { fields = before ++ (name, q.value) ∷ []; next = q.next + 1 }) found e in
    let counts : found.next ≡ q.next + 1 = sym (ap (λ f. f.next) same) in
    record {
      inside = part.Word name ∷ part.Mark 58 ∷ h.is.ps;
      vs = (name, q.value) ∷ [];
      stands = field_stands enums all fields before at name q h w ∙ ap (λ xs. part.Word name ∷ part.Mark 58 ∷ (h.is.ps ++ xs)) (front all q.next (q.next + 1) (part.Mark 125) (mark_is 125 (slice_get all q.next) m) refl ∙ ap (λ k. part.Mark 125 ∷ drop k all) (sym counts));
      ends = omega (arith, counts, h.is.ends);
      joined = sym (ap (λ f. f.fields) same);
      written = last_field fields before name h.ty h.is.ps q.value h.absent h.known h.is.written;
    }

commas_fields : (enums : List EnumNames) (all : List Part) (fields : List (List ℕ × Ty)) (before : List (List ℕ × Value)) (at : ℕ) (name : List ℕ) (q : Reading) (found : FieldsRead) → IsFieldAt enums all fields before at name q → slice_get all at ≡ Some (part.Word name) → is_mark_at all q.next 44 ≡ true
    → AreFields enums all fields (before ++ (name, q.value) ∷ []) (q.next + 1) found → AreFields enums all fields before at found
commas_fields enums all fields before at name q found h w m later =
    let parted : length (h.is.ps ++ part.Mark 44 ∷ later.inside) ≡ length h.is.ps + length later.inside + 1 = omega (arith, length-append h.is.ps (part.Mark 44 ∷ later.inside)) in
    record {
      inside = part.Word name ∷ part.Mark 58 ∷ (h.is.ps ++ part.Mark 44 ∷ later.inside);
      vs = (name, q.value) ∷ later.vs;
      stands = field_stands enums all fields before at name q h w
          ∙ ap (λ xs. part.Word name ∷ part.Mark 58 ∷ xs) (ap (λ xs. h.is.ps ++ xs) (front all q.next (q.next + 1) (part.Mark 44) (mark_is 44 (slice_get all q.next) m) refl ∙ ap (λ xs. part.Mark 44 ∷ xs) later.stands)
          ∙ sym (append_assoc h.is.ps (part.Mark 44 ∷ later.inside) (part.Mark 125 ∷ drop found.next all)));
      ends = omega (arith, later.ends, h.is.ends, parted);
      joined = later.joined ∙ append_assoc before ((name, q.value) ∷ []) later.vs;
      written = more_fields fields before name h.ty h.is.ps later.inside q.value later.vs h.absent h.known h.is.written later.written;
    }

fields_behind : (enums : List EnumNames) (all : List Part) (fields : List (List ℕ × Ty)) (read : Ty → ℕ → Option Reading) (left : ℕ) (before : List (List ℕ × Value)) (at : ℕ) (name : List ℕ) (q : Reading) (found : FieldsRead) (b c : Bool) → IsFieldAt enums all fields before at name q → slice_get all at ≡ Some (part.Word name)
    → is_mark_at all q.next 125 ≡ b → is_mark_at all q.next 44 ≡ c → ((earlier : List (List ℕ × Value)) (k : ℕ) → fields_read read fields all left earlier k ≡ Some found → AreFields enums all fields earlier k found)
    → (if b then Some (record { fields = before ++ (name, q.value) ∷ []; next = q.next + 1 }) else if c then fields_read read fields all left (before ++ (name, q.value) ∷ []) (q.next + 1) else None) ≡ Some found → AreFields enums all fields before at found
fields_behind enums all fields read left before at name q found true c h w m n more e = last_fields enums all fields before at name q found h w m e
fields_behind enums all fields read left before at name q found false true h w m n more e = commas_fields enums all fields before at name q found h w n (more (before ++ (name, q.value) ∷ []) (q.next + 1) e)
fields_behind enums all fields read left before at name q found false false h w m n more e = none_is found _ e

fields_after : (enums : List EnumNames) (all : List Part) (fields : List (List ℕ × Ty)) (read : Ty → ℕ → Option Reading) (left : ℕ) (before : List (List ℕ × Value)) (at : ℕ) (name : List ℕ) (o : Option Reading) (found : FieldsRead) → IsSound enums all read → slice_get all at ≡ Some (part.Word name)
    → field_read read fields all before at name ≡ o → ((earlier : List (List ℕ × Value)) (k : ℕ) → fields_read read fields all left earlier k ≡ Some found → AreFields enums all fields earlier k found)
    → field_then (λ more next. fields_read read fields all left more next) all before name o ≡ Some found → AreFields enums all fields before at found
fields_after enums all fields read left before at name None found sound w r more e = none_is found _ e
fields_after enums all fields read left before at name (Some q) found sound w r more e =
    fields_behind enums all fields read left before at name q found (is_mark_at all q.next 125) (is_mark_at all q.next 44) (field_sound enums all fields before at name q read (field_named name before) sound refl r) w refl refl more e

fields_worded : (enums : List EnumNames) (all : List Part) (fields : List (List ℕ × Ty)) (read : Ty → ℕ → Option Reading) (left : ℕ) (before : List (List ℕ × Value)) (at : ℕ) (o : Option (List ℕ)) (found : FieldsRead) → IsSound enums all read → word_of (slice_get all at) ≡ o
    → ((earlier : List (List ℕ × Value)) (k : ℕ) → fields_read read fields all left earlier k ≡ Some found → AreFields enums all fields earlier k found)
    → name_read (λ more next. fields_read read fields all left more next) read fields all before at o ≡ Some found → AreFields enums all fields before at found
fields_worded enums all fields read left before at None found sound w more e = none_is found _ e
fields_worded enums all fields read left before at (Some name) found sound w more e = fields_after enums all fields read left before at name (field_read read fields all before at name) found sound (name_is name (slice_get all at) w) refl more e

fields_first : (enums : List EnumNames) (all : List Part) (fields : List (List ℕ × Ty)) (read : Ty → ℕ → Option Reading) (left : ℕ) (before : List (List ℕ × Value)) (at : ℕ) (b : Bool) (found : FieldsRead) → IsSound enums all read → is_mark_at all at 125 ≡ b
    → ((earlier : List (List ℕ × Value)) (k : ℕ) → fields_read read fields all left earlier k ≡ Some found → AreFields enums all fields earlier k found)
    → (if b then Some (record { fields = before; next = at + 1 }) else name_read (λ more next. fields_read read fields all left more next) read fields all before at (word_of (slice_get all at))) ≡ Some found → AreFields enums all fields before at found
fields_first enums all fields read left before at true found sound m more e = end_fields enums all fields before at found m e
fields_first enums all fields read left before at false found sound m more e = fields_worded enums all fields read left before at (word_of (slice_get all at)) found sound refl more e

fields_sound : (enums : List EnumNames) (all : List Part) (fields : List (List ℕ × Ty)) (read : Ty → ℕ → Option Reading) (found : FieldsRead) → IsSound enums all read → (left : ℕ) (before : List (List ℕ × Value)) (at : ℕ) → fields_read read fields all left before at ≡ Some found → AreFields enums all fields before at found
unfolding fields_read
fields_sound enums all fields read found sound zero before at e = none_is found _ e
fields_sound enums all fields read found sound (suc left) before at e = fields_first enums all fields read left before at (is_mark_at all at 125) found sound refl (λ earlier k g. fields_sound enums all fields read found sound left earlier k g) e

struct_end : (fields : List (List ℕ × Ty)) (o : Option FieldsRead) (r : Reading) → struct_of fields o ≡ Some r → (found : FieldsRead) × (o ≡ Some found) × (value.Struct (filled fields found.fields) ≡ r.value) × (r.next ≡ found.next)
struct_end fields None r e = none_is r _ e
struct_end fields (Some found) r e = let same = some_is (record { value = value.Struct (filled fields found.fields); next = found.next }) r e in (found, refl, ap (λ q. q.value) same, sym (ap (λ q. q.next) same))

struct_sound : (enums : List EnumNames) (all : List Part) (ty : Ty) (fields : List (List ℕ × Ty)) (read : Ty → ℕ → Option Reading) (at : ℕ) (r : Reading) (b : Bool) → IsSound enums all read → out-Ty ty ≡ form.Struct fields → is_mark_at all at 123 ≡ b
    → (if b then struct_of fields (fields_read read fields all (suc (length all)) [] (at + 1)) else None) ≡ Some r → IsReading enums all ty at r
struct_sound enums all ty fields read at r false sound o m e = none_is r _ e
struct_sound enums all ty fields read at r true sound o m e =
    let a = struct_end fields (fields_read read fields all (suc (length all)) [] (at + 1)) r e in
    let is = fields_sound enums all fields read a.0 sound (suc (length all)) [] (at + 1) a.1 in
    let count : a.0.next ≡ at + length (part.Mark 123 ∷ (is.inside ++ part.Mark 125 ∷ [])) = omega (arith, is.ends, length-append is.inside (part.Mark 125 ∷ [])) in
    reading_of enums all ty at r (part.Mark 123 ∷ (is.inside ++ part.Mark 125 ∷ [])) a.0.next
    (front all at (at + 1) (part.Mark 123) (mark_is 123 (slice_get all at) m) refl ∙ ap (λ xs. part.Mark 123 ∷ xs) (is.stands ∙ sym (append_assoc is.inside (part.Mark 125 ∷ []) (drop a.0.next all)))) a.3 count
    (subst (IsValue enums ty (part.Mark 123 ∷ (is.inside ++ part.Mark 125 ∷ []))) (ap (λ fs. value.Struct (filled fields fs)) (sym is.joined) ∙ a.2) (a_struct ty fields is.inside is.vs o is.written))

-- a value of a type, by its form
form_sound : (enums : List EnumNames) (all : List Part) (ty : Ty) (read : Ty → ℕ → Option Reading) (at : ℕ) (r : Reading) (f : Form) → IsSound enums all read → out-Ty ty ≡ f → read_form enums read ty all at f ≡ Some r → IsReading enums all ty at r
form_sound enums all ty read at r (form.Array item) sound o e = array_sound enums all ty item read at r (is_mark_at all at 91) sound o refl e
form_sound enums all ty read at r (form.Struct fields) sound o e = struct_sound enums all ty fields read at r (is_mark_at all at 123) sound o refl e
form_sound enums all ty read at r _ sound o e = plain_sound enums all ty at r (slice_get all at) refl e

value_sound : (enums : List EnumNames) (all : List Part) (depth : ℕ) → IsSound enums all (read_to enums all depth)
unfolding read_to
value_sound enums all zero = λ ty at r e. none_is r _ e
value_sound enums all (suc depth) = λ ty at r e. form_sound enums all ty (read_to enums all depth) at r (out-Ty ty) (value_sound enums all depth) refl e

-- parts that are read as a value are a written form of it
whole_sound : (enums : List EnumNames) (ty : Ty) (parts : List Part) (v : Value) (found : Reading) (b : Bool) → IsReading enums parts ty 0 found → (found.next == length parts) ≡ b → (if b then Some found.value else None) ≡ Some v → IsValue enums ty parts v
whole_sound enums ty parts v found false is c e = none_is v _ e
whole_sound enums ty parts v found true is c e =
    let past : length parts ≤ found.next = omega (arith, eqb-true found.next (length parts) c) in
    let whole : parts ≡ is.ps = is.stands ∙ ap (λ xs. is.ps ++ xs) (drop_all found.next parts past) ∙ append-nil is.ps in
    subst (λ ps. IsValue enums ty ps v) (sym whole) (subst (IsValue enums ty is.ps) (some_is found.value v e) is.written)

either_sound : (enums : List EnumNames) (ty : Ty) (parts : List Part) (v : Value) (o : Option Reading) → read_to enums parts (length parts + 1) ty 0 ≡ o → whole_of parts o ≡ Some v → IsValue enums ty parts v
either_sound enums ty parts v None f e = none_is v _ e
either_sound enums ty parts v (Some found) f e = whole_sound enums ty parts v found (found.next == length parts) (value_sound enums parts (length parts + 1) ty 0 found f) refl e

pub parts_sound : (enums : List EnumNames) (ty : Ty) (parts : List Part) (v : Value) → value_of_parts enums ty parts ≡ Some v → IsValue enums ty parts v
parts_sound enums ty parts v e = either_sound enums ty parts v (read_to enums parts (length parts + 1) ty 0) refl e
