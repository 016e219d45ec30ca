-- What a file exports, as loops over its items and over its groups have it.
use Rattle.std.proofs.Common.{◌≡◌, ℕ, ◌+◌, ◌<◌, ◌≤◌, List, ◌∷◌, ◌++◌, length, get_or, map, take, drop, sym, ap, ◌∙◌, append_assoc}
use Rattle.std.specs.List.{flat_map}
use Rattle.std.proofs.lemmas.List.{append-nil, drop_all, drop_more, map-append}
use Rattle.syntax_tree.specs.declared.files.FileItem.{FileItem}
use Rattle.source_scopes.specs.declared.meanings.Entry.{Entry}
use Rattle.source_scopes.specs.Entries.{imports_behind}
use Rattle.declaration_rules.specs.Exports.{Group, groups_among, groups_by}
use Rattle.declaration_rules.specs.Repeats.{name_of}
use Rattle.declaration_rules.specs.Words.{same_words}
use Rattle.declaration_rules.proofs.Gathering.{flat_map-one, front-next}

-- the names of one group more
pub names-next : (groups : List Group) (i : ℕ) (group : Group) (now later : List (List ℕ)) → i < length groups → group ≡ get_or groups i group
    → now ≡ map name_of (flat_map same_words (take i groups)) → later ≡ now ++ map name_of group → later ≡ map name_of (flat_map same_words (take (i + 1) groups))
names-next groups i group now later within is held pushed =
    pushed ∙ (ap (λ names. names ++ map name_of group) held
    ∙ (sym (map-append name_of (flat_map same_words (take i groups)) group)
    ∙ ap (map name_of) (sym (flat_map-one same_words (take i groups) group) ∙ ap (flat_map same_words) (sym (front-next groups i group within is)))))

-- the items from one on are that one and those behind it
rest-next : {A : Type 0} (xs : List A) (i : ℕ) (x : A) → i < length xs → x ≡ get_or xs i x → drop i xs ≡ x ∷ drop (i + 1) xs
rest-next xs i x within is = drop_more xs i x within ∙ ap (λ y. y ∷ drop (i + 1) xs) (sym is)

-- one item is looked at
pub groups-next : (exports : ℕ → List Entry) (items : List FileItem) (i : ℕ) (item : FileItem) (numbers behind : List ℕ) (now later all : List Group) → i < length items → item ≡ get_or items i item
    → now ++ groups_among exports (drop i items) numbers ≡ all → later ≡ now ++ groups_by exports item numbers → behind ≡ imports_behind item numbers
    → later ++ groups_among exports (drop (i + 1) items) behind ≡ all
groups-next exports items i item numbers behind now later all within is held pushed rest =
    ap (λ gs. gs ++ groups_among exports (drop (i + 1) items) behind) pushed
    ∙ (append_assoc now (groups_by exports item numbers) (groups_among exports (drop (i + 1) items) behind)
    ∙ (ap (λ ns. now ++ (groups_by exports item numbers ++ groups_among exports (drop (i + 1) items) ns)) rest
    ∙ (ap (λ xs. now ++ groups_among exports xs numbers) (sym (rest-next items i item within is)) ∙ held)))

-- all items are looked at
pub groups-all : (exports : ℕ → List Entry) (items : List FileItem) (i : ℕ) (numbers : List ℕ) (now all : List Group) → length items ≤ i → now ++ groups_among exports (drop i items) numbers ≡ all → now ≡ all
groups-all exports items i numbers now all past held = sym (append-nil now) ∙ (ap (λ xs. now ++ groups_among exports xs numbers) (sym (drop_all i items past)) ∙ held)
