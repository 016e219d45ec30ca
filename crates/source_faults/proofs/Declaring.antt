-- The faults of declarations.
use Rattle.std.specs.List.{flat_map}
use Rattle.std.specs.Option.{is_none}
use Rattle.std.proofs.Common.{◌≡◌, inl, inr, ℕ, Bool, true, false, not, List, [], ◌∷◌, ◌++◌, length, map, Option, Some, None, refl, ap}
use Rattle.slint_base.specs.declared.faults.Fault.{Fault}
use Rattle.slint_base.specs.declared.faults.Span.{Span}
use Rattle.slint_base.specs.declared.rules.Rule.{Rule}
use Rattle.slint_base.specs.declared.rules.Rule.TheVariants as rules
use Rattle.syntax_tree.specs.declared.files.Decl.{Decl}
use Rattle.syntax_tree.specs.declared.files.Decl.TheVariants as decls
use Rattle.syntax_tree.specs.declared.files.FileItem.{FileItem}
use Rattle.syntax_tree.specs.declared.files.FileItem.TheVariants as items
use Rattle.syntax_tree.specs.declared.types.Field.{Field}
use Rattle.syntax_tree.specs.declared.words.Ident.{Ident}
use Rattle.file_exports.specs.Roots.{has_name}
use Rattle.import_resolver.specs.Loaded.{FileRow}
use Rattle.source_scopes.specs.Entries.{exports_of}
use Rattle.source_scopes.specs.Names.{element_named, is_type_name, root_component}
use Rattle.declaration_rules.specs.Circles.{CircleFault, component_usages, struct_usages}
use Rattle.declaration_rules.specs.declared.usages.Usage.{Usage}
use Rattle.declaration_rules.specs.Declarations.{DeclarationFault, declaration_faults, faults_behind, inner_faults, name_faults, rootless, unknown_element, unknown_type, unlisted}
use Rattle.declaration_rules.specs.Exports.{Group, clash_of, groups_among}
use Rattle.declaration_rules.specs.Repeats.{broken_if, field_word, name_of, of_field, repeat_in, repeat_of, repeated, repeated_in_decl, repeated_in_fields, repeated_in_item, struct_faults, type_layer}
use Rattle.declaration_rules.specs.Turns.{in_turn}
use Rattle.declaration_rules.specs.Words.{element_words, listed_words, same_words, scope_words, type_words}
use Rattle.source_faults.proofs.Others.{AllOther, IsOther, both, flat, is_missing, none, one, other_of}
use Rattle.source_faults.proofs.Fields.{FieldFaults, fields_other, inner}

if_broken : (b : Bool) (rule : Rule) (span : Span) → is_missing rule ≡ false → AllOther (broken_if b rule span)
if_broken true rule span p = one p
if_broken false rule span p = none

turns : {A : Type 0} (f : List A → A → List Fault) → ((before : List A) (x : A) → AllOther (f before x)) → (before xs : List A) → AllOther (in_turn f before xs)
turns f p before [] = none
turns f p before (x ∷ xs) = both (p before x) (turns f p (before ++ x ∷ []) xs)

in_names : (names : List (List ℕ)) (word : Ident) → AllOther (repeat_in names word)
in_names names word = if_broken (has_name names word.name) rules.NameTwice word.span refl

twice : (words : List Ident) → AllOther (repeated words)
twice words = turns repeat_of (λ before word. in_names (map name_of before) word) [] words

fields_layer : (fields : List FieldFaults) → AllOther (flat_map inner fields) → AllOther (struct_faults fields)
fields_layer fields p = both (twice (map field_word fields)) p

in_fields : (fields : List Field) → AllOther (repeated_in_fields fields)
in_fields fields = fields_layer (map of_field fields) (fields_other type_layer (λ ident. none) (λ item span p. p) (λ fs span p. fields_layer fs p) fields)

in_decl : (d : Decl) → AllOther (repeated_in_decl d)
in_decl (decls.Component component) = none
in_decl (decls.Global global) = none
in_decl (decls.Struct struct) = in_fields struct.fields
in_decl (decls.Enum enum) = twice enum.values

in_item : (item : FileItem) → AllOther (repeated_in_item item)
in_item (items.Decl marked d) = in_decl d
in_item (items.Import i) = none
in_item (items.Export list) = none
in_item (items.ExportAll all) = none

clash : (before : List Group) (group : Group) → AllOther (clash_of before group)
clash before group = flat (repeat_in (map name_of (flat_map same_words before))) (λ word. in_names (map name_of (flat_map same_words before)) word) group

no_type : (rows : List FileRow) (k : ℕ) (word : Ident) → AllOther (unknown_type rows k word)
no_type rows k word = if_broken (not (is_type_name rows k word.name)) rules.UnknownType word.span refl

no_element : (rows : List FileRow) (k : ℕ) (word : Ident) → AllOther (unknown_element rows k word)
no_element rows k word = if_broken (is_none (element_named rows k word.name)) rules.UnknownElement word.span refl

no_name : (names : List (List ℕ)) (word : Ident) → AllOther (unlisted names word)
no_name names word = if_broken (not (has_name names word.name)) rules.UnknownName word.span refl

names : (rows : List FileRow) (items : List FileItem) (imports : List ℕ) → AllOther (name_faults rows items imports)
names rows items imports = both (twice (scope_words items)) (both (turns clash_of clash [] (groups_among (exports_of rows) items imports))
    (flat (unlisted (map name_of (scope_words items))) (no_name (map name_of (scope_words items))) (listed_words items)))

inside : (rows : List FileRow) (k : ℕ) (items : List FileItem) → AllOther (inner_faults rows k items)
inside rows k items = both (flat repeated_in_item in_item items) (both (flat (unknown_type rows k) (no_type rows k) (type_words items)) (flat (unknown_element rows k) (no_element rows k) (element_words items)))

in_file : (rows : List FileRow) (before : List FileRow) (row : FileRow) → AllOther (faults_behind rows before row)
in_file rows before row = both (names rows row.tree.items row.imports) (inside rows (length before) row.tree.items)

no_root : (root : Option ℕ) → AllOther (rootless root)
no_root None = one refl
no_root (Some c) = none

listed : (rows : List FileRow) (wanted : Option (List ℕ)) → AllOther (declaration_faults rows wanted)
listed rows wanted = both (no_root (root_component rows wanted)) (turns (faults_behind rows) (in_file rows) [] rows)

circle : (usages : List Usage) (f : Fault) → CircleFault usages f → IsOther f
circle usages f c = ap (λ (g : Fault). is_missing g.rule) c.is

pub declarations_other : (rows : List FileRow) (wanted : Option (List ℕ)) (f : Fault) → DeclarationFault rows wanted f → IsOther f
declarations_other rows wanted f (inl c) = other_of (declaration_faults rows wanted) f (listed rows wanted) c
declarations_other rows wanted f (inr (inl c)) = circle (component_usages rows) f c
declarations_other rows wanted f (inr (inr c)) = circle (struct_usages rows) f c
