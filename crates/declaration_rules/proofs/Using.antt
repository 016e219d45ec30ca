-- Uses of declarations, as loops over words and over declarations have them.
use Rattle.std.proofs.Common.{◌≡◌, ℕ, ◌+◌, ◌<◌, ◌≤◌, List, [], ◌∷◌, ◌++◌, Option, None, Some, length, get_or, map, take, refl, sym, ap, ◌∙◌}
use Rattle.std.specs.Option.{option_map}
use Rattle.std.proofs.lemmas.List.{length-map, map-append, take_all}
use Rattle.slint_base.specs.declared.faults.Span.{Span}
use Rattle.syntax_tree.specs.declared.words.Ident.{Ident}
use Rattle.import_resolver.specs.Loaded.{FileRow}
use Rattle.typed_tree.specs.declared.outlines.ElementType.{ElementType}
use Rattle.source_scopes.specs.declared.meanings.Entry.{Entry}
use Rattle.source_scopes.specs.declared.meanings.Meaning.{Meaning}
use Rattle.source_scopes.specs.Entries.{entry_meaning, entry_of, meaning_of_entry}
use Rattle.source_scopes.specs.Names.{element_named}
use Rattle.declaration_rules.specs.declared.usages.Usage.{Usage}
use Rattle.declaration_rules.specs.Circles.{component_usage, struct_usage, usage_of_element, usage_of_type}
use Rattle.declaration_rules.specs.Turns.{in_turn}
use Rattle.declaration_rules.proofs.Gathering.{front-length, front-next, in_turn-one}

-- the use of an element that a word names
pub used-element : (rows : List FileRow) (from k : ℕ) (word : Ident) (name : List ℕ) (span : Span) (element : Option ElementType) (now later : List Usage)
    → name ≡ word.name → span ≡ word.span → element ≡ element_named rows k name → later ≡ now ++ component_usage from span element → later ≡ now ++ usage_of_element rows from k word
used-element rows from k word name span element now later n s e pushed =
    pushed ∙ (ap (λ x. now ++ component_usage from x element) s ∙ ap (λ x. now ++ component_usage from word.span x) (e ∙ ap (element_named rows k) n))

-- the use of a type that a word names
pub used-type : (rows : List FileRow) (from k : ℕ) (word : Ident) (span : Span) (meaning : Option Meaning) (now later : List Usage)
    → span ≡ word.span → meaning ≡ entry_meaning (entry_of rows k word.name) → later ≡ now ++ struct_usage from span meaning → later ≡ now ++ usage_of_type rows from k word
used-type rows from k word span meaning now later s e pushed =
    pushed ∙ (ap (λ x. now ++ struct_usage from x meaning) s ∙ ap (λ x. now ++ struct_usage from word.span x) e)

some_meant : (o : Option Entry) (m : Option Meaning) → Some m ≡ option_map meaning_of_entry o → m ≡ entry_meaning o
some_meant None m e = absurd (cc)
some_meant (Some entry) m e = cc

none_meant : (o : Option Entry) → None ≡ option_map meaning_of_entry o → None ≡ entry_meaning o
none_meant None e = refl
none_meant (Some entry) e = absurd (cc)

-- what a name stands for, by its entry
pub meaning-some : (rows : List FileRow) (k : ℕ) (word : Ident) (name : List ℕ) (m : Option Meaning) → name ≡ word.name → Some m ≡ option_map meaning_of_entry (entry_of rows k name) → m ≡ entry_meaning (entry_of rows k word.name)
meaning-some rows k word name m n e = some_meant (entry_of rows k word.name) m (e ∙ ap (λ x. option_map meaning_of_entry (entry_of rows k x)) n)

pub meaning-none : (rows : List FileRow) (k : ℕ) (word : Ident) (name : List ℕ) → name ≡ word.name → None ≡ option_map meaning_of_entry (entry_of rows k name) → None ≡ entry_meaning (entry_of rows k word.name)
meaning-none rows k word name n e = none_meant (entry_of rows k word.name) (e ∙ ap (λ x. option_map meaning_of_entry (entry_of rows k x)) n)

-- one declaration more, seen through the list in which it is handed over
pub views-next : {A B C : Type 0} (f : List B → B → List C) (g : A → B) (now later : List C) (xs : List A) (i : ℕ) (x : A) → i < length xs → x ≡ get_or xs i x
    → now ≡ in_turn f [] (map g (take i xs)) → later ≡ now ++ f (map g (take i xs)) (g x) → later ≡ in_turn f [] (map g (take (i + 1) xs))
views-next f g now later xs i x within is held pushed =
    pushed ∙ (ap (λ ys. ys ++ f (map g (take i xs)) (g x)) held
    ∙ (sym (in_turn-one f [] (map g (take i xs)) (g x))
    ∙ ap (in_turn f []) (sym (map-append g (take i xs) (x ∷ [])) ∙ ap (map g) (sym (front-next xs i x within is)))))

pub views-all : {A B C : Type 0} (f : List B → B → List C) (g : A → B) (now : List C) (xs : List A) (i : ℕ) → length xs ≤ i → now ≡ in_turn f [] (map g (take i xs)) → now ≡ in_turn f [] (map g xs)
views-all f g now xs i past held = held ∙ ap (λ ys. in_turn f [] (map g ys)) (take_all i xs past)

-- the number of declarations before one
pub views-length : {A B : Type 0} (g : A → B) (xs : List A) (i : ℕ) → i < length xs → length (map g (take i xs)) ≡ i
views-length g xs i within = length-map (take i xs) g ∙ front-length xs i within
