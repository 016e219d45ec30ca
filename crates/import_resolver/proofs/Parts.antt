-- Small facts on tests, on names and on what was found.
use Rattle.std.proofs.Common.{◌≡◌, ℕ, ◌≤◌, ◌||◌, Bool, true, false, List, [], ◌∷◌, ◌++◌, length, take, Option, None, Some, Result, Ok, Err, refl, sym, ap, ◌∙◌, subst, arith, option_map, bytes_eq}
use Rattle.std.proofs.lemmas.List.{length-take, take_all}
use Rattle.std.proofs.lemmas.List.Folds.{list_any-append}
use Rattle.std.proofs.lemmas.Slice.Eq.{bytes_eq-Decides}
use Rattle.slint_base.specs.declared.faults.Fault.{Fault}
use Rattle.syntax_tree.specs.declared.files.File.{File}
use Rattle.io_edge.specs.Files.{most_read}
use Rattle.file_exports.specs.Roots.{has_name}
use Rattle.source_reader.specs.Sources.{IsRead, reads, most_bytes}

-- ---- tests

pub or_left : (a b : Bool) → (a || b) ≡ false → a ≡ false
or_left true b e = cc
or_left false b e = refl

pub or_right : (a b : Bool) → (a || b) ≡ false → b ≡ false
or_right true b e = cc
or_right false b e = e

-- a choice that holds still holds with one more test in it
pub or_more : (a b c : Bool) → (a || b) ≡ true → (a || (b || c)) ≡ true
or_more true b c e = refl
or_more false true c e = refl
or_more false false c e = cc

-- a test that moves to the other side of a choice
pub or_moved : (a b c : Bool) → (a || (b || (c || false))) ≡ true → ((a || (c || false)) || b) ≡ true
or_moved true b c e = refl
or_moved false true true e = refl
or_moved false true false e = refl
or_moved false false true e = refl
or_moved false false false e = cc

pub or_last : (a : Bool) → (a || (true || false)) ≡ true
or_last true = refl
or_last false = refl

-- ---- names

pub same_text : (xs ys : List ℕ) → bytes_eq xs ys ≡ true → xs ≡ ys
same_text xs ys e = (bytes_eq-Decides xs ys).0 e

pub text_same : (xs ys : List ℕ) → xs ≡ ys → bytes_eq xs ys ≡ true
text_same xs ys e = (bytes_eq-Decides xs ys).1 e

other_by : (a b : List ℕ) (v : Bool) → bytes_eq b a ≡ v → bytes_eq a b ≡ false → bytes_eq b a ≡ false
other_by a b false is e = is
other_by a b true is e = let no : true ≡ false = sym (text_same a b (sym (same_text b a is))) ∙ e in cc

pub text_other : (a b : List ℕ) → bytes_eq a b ≡ false → bytes_eq b a ≡ false
text_other a b e = other_by a b (bytes_eq b a) refl e

pub has_name-push : (names : List (List ℕ)) (last name : List ℕ) → has_name (names ++ last ∷ []) name ≡ (has_name names name || (bytes_eq last name || false))
has_name-push names last name = list_any-append (λ other. bytes_eq other name) names (last ∷ [])

-- ---- what was found

pub none_some : {A : Type 0} {x : A} → None ≡ Some x → ⊥
none_some e = cc

pub some_same : {A : Type 0} {x y : A} → Some x ≡ Some y → x ≡ y
some_same e = cc

-- a front that isn't full is the whole
pub front_whole : (full bytes : List ℕ) → take most_read full ≡ bytes → length bytes ≤ most_bytes → full ≡ bytes
front_whole full bytes front short = sym (take_all most_read full (omega (arith, length-take most_read full, ap length front))) ∙ front

pub found_whole : (found : Option (List ℕ)) (bytes : List ℕ) → option_map (take most_read) found ≡ Some bytes → length bytes ≤ most_bytes → found ≡ Some bytes
found_whole None bytes e short = absurd (none_some e)
found_whole (Some full) bytes e short = ap Some (front_whole full bytes (some_same e) short)

-- what reads as a tree isn't too long
pub tree_short : {number : ℕ} {bytes : List ℕ} {tree : File} → IsRead number bytes (Ok tree) → length bytes ≤ most_bytes
tree_short (reads tokens tree short lexed derived) = short
