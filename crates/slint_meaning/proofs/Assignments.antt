-- An assignment of a property stays until the next one.
use Rattle.std.proofs.Common.{◌≡◌, ℕ, ℤ, Bool, true, false, cond, ◌||◌, ◌&&◌, List, [], ◌∷◌, reverse, Option, Some, None, Result, Ok, Err, refl, sym, ap, ◌∙◌}
use Rattle.std.specs.Prelude.{codes, is_none, All}
use Rattle.std.specs.List.{list_any}
use Rattle.std.specs.Str.{bytes_eq}
use Rattle.std.proofs.lemmas.Bool.{and_parts, cond-false}
use Rattle.std.proofs.lemmas.List.{reverse-append}
use Rattle.std.proofs.lemmas.List.Elements.{All-head, All-tail}
use Rattle.std.proofs.lemmas.List.Folds.{list_any-append}
use Rattle.std.proofs.lemmas.Slice.Eq.{bytes_eq-Decides}
use Rattle.first_evaluator.specs.declared.trees.FirstFile.{FirstFile}
use Rattle.first_evaluator.specs.declared.trees.FirstProp.{FirstProp}
use Rattle.script_lines.specs.declared.commands.Command.{Command}
use Rattle.script_lines.specs.declared.commands.Command.TheVariants.{Get, Set}
use Rattle.script_lines.specs.declared.commands.BadLine.{BadLine}
use Rattle.script_lines.specs.declared.commands.BadLine.TheVariants as bad
use Rattle.script_lines.specs.declared.commands.PathStep.{PathStep}
use Rattle.script_lines.specs.Ints.{int_reading}
use Rattle.slint_meaning.specs.Commands.{Target, nothing, root, property, target_of, value_reply, does_get, does_assign, does_set, does_command, does_reading, does_line}
use Rattle.slint_meaning.specs.Laws.{turn_answer, turn_world, answer_of, world_after, Sets, Gets, SetsNot}
use Rattle.script_lines.specs.Lines.{line_reading}
use Rattle.first_evaluator.specs.Bindings.{has_name, names_of}
use Rattle.first_evaluator.specs.Values.{World, assign, assigned_or, assignment, latest, value_among, sum_value}

-- ---- what a line does to an assignment

-- equal names are equal to the test
same_name : (name : List ℕ) → bytes_eq name name ≡ true
same_name name = (bytes_eq-Decides name name).1 refl

-- an assignment of another property
assign_keeps : (world : World) (other name : List ℕ) (value : ℤ) → bytes_eq other name ≡ false → assignment (assign world other value) name ≡ assignment world name
assign_keeps world other name value e = cond-false (bytes_eq other name) (Some value) (latest world.assigned name) e

-- what a turn does to the assignment of a name, unless it assigns one
abbrev pub Keeps : World → List ℕ → World → Type 0
Keeps world name next = assignment next name ≡ assignment world name

get_keeps : (file : FirstFile) (world : World) (name : List ℕ) (target : Target) → Keeps world name (turn_world world (does_get file world target))
get_keeps file world name nothing = refl
get_keeps file world name root = refl
get_keeps file world name (property other) = refl

-- by whether the property is the other one
assigned_keeps : (world : World) (name other : List ℕ) (value : ℤ) (test : Bool) → bytes_eq other name ≡ test → (other ≡ name → ⊥) → Keeps world name (assign world other value)
assigned_keeps world name other value false e none = assign_keeps world other name value e
assigned_keeps world name other value true e none = absurd (none ((bytes_eq-Decides other name).0 e))

assign_turn_keeps : (world : World) (name other : List ℕ) (value : Option ℤ) → ((v : ℤ) → value ≡ Some v → other ≡ name → ⊥) → Keeps world name (turn_world world (does_assign world other value))
assign_turn_keeps world name other None none = refl
assign_turn_keeps world name other (Some value) none = assigned_keeps world name other value (bytes_eq other name) refl (none value refl)

set_keeps : (world : World) (name text : List ℕ) (target : Target) → ((v : ℤ) → int_reading text ≡ Some v → target ≡ property name → ⊥) → Keeps world name (turn_world world (does_set world target text))
set_keeps world name text nothing none = refl
set_keeps world name text root none = refl
set_keeps world name text (property other) none = assign_turn_keeps world name other (int_reading text) (λ v e same. none v e (ap (λ n. property n) same))

command_keeps : (file : FirstFile) (world : World) (name : List ℕ) (command : Command)
    → ((path : List PathStep) (text : List ℕ) (v : ℤ) → command ≡ Set path text → target_of file path ≡ property name → int_reading text ≡ Some v → ⊥)
    → Keeps world name (turn_world world (does_command file world command))
command_keeps file world name (Get path) none = get_keeps file world name (target_of file path)
command_keeps file world name (Set path text) none = set_keeps world name text (target_of file path) (λ v e leads. none path text v refl leads e)

reading_keeps : (file : FirstFile) (world : World) (name : List ℕ) (reading : Result (Option Command) BadLine)
    → ((path : List PathStep) (text : List ℕ) (v : ℤ) → reading ≡ Ok (Some (Set path text)) → target_of file path ≡ property name → int_reading text ≡ Some v → ⊥)
    → Keeps world name (turn_world world (does_reading file world reading))
reading_keeps file world name (Ok None) none = refl
reading_keeps file world name (Ok (Some command)) none = command_keeps file world name command (λ path text v e leads means. none path text v (ap (λ c. Ok (Some c)) e) leads means)
reading_keeps file world name (Err bad.TooLong) none = refl
reading_keeps file world name (Err bad.Unread) none = refl

-- a line that assigns nothing to the property keeps its assignment
line_keeps : (file : FirstFile) (world : World) (name line : List ℕ) → SetsNot file name line → Keeps world name (turn_world world (does_line file world line))
line_keeps file world name line none =
    reading_keeps file world name (line_reading line) (λ path text v reads leads means. none v (record { path = path; text = text; reads = reads; leads = leads; means = means }))

-- so do lines in order
lines_keep : (file : FirstFile) (world : World) (name : List ℕ) (lines : List (List ℕ)) → All (SetsNot file name) lines → Keeps world name (world_after file world lines)
lines_keep file world name [] none = refl
lines_keep file world name (line ∷ lines) none =
    lines_keep file (turn_world world (does_line file world line)) name lines (All-tail (SetsNot file name) line lines none)
    ∙ line_keeps file world name line (All-head (SetsNot file name) line lines none)

-- a line that assigns a value
sets_assigns : (file : FirstFile) (world : World) (line name : List ℕ) (value : ℤ) → Sets file line name value → assignment (turn_world world (does_line file world line)) name ≡ Some value
sets_assigns file world line name value s =
    ap (λ reading. assignment (turn_world world (does_reading file world reading)) name) s.reads
    ∙ ap (λ target. assignment (turn_world world (does_set world target s.text)) name) s.leads
    ∙ ap (λ read. assignment (turn_world world (does_assign world name read)) name) s.means
    ∙ ap (λ test. cond test (Some value) (latest world.assigned name)) (same_name name)

-- ---- the value of an assigned property

-- the test of a property's name, over the properties in place of their names
any_of_names : (name : List ℕ) (props : List FirstProp) → has_name (names_of props) name ≡ list_any (λ prop. bytes_eq prop.name name) props
any_of_names name [] = refl
any_of_names name (prop ∷ props) = ap (λ t. bytes_eq prop.name name || t) (any_of_names name props)

or_comm : (a b : Bool) → (a || b) ≡ (b || a)
or_comm false false = refl
or_comm false true = refl
or_comm true false = refl
or_comm true true = refl

or_false : (b : Bool) → (b || false) ≡ b
or_false false = refl
or_false true = refl

any_reverse : (p : FirstProp → Bool) (props : List FirstProp) → list_any p (reverse props) ≡ list_any p props
any_reverse p [] = refl
any_reverse p (prop ∷ props) =
    ap (λ ps. list_any p ps) (reverse-append (prop ∷ []) props)
    ∙ list_any-append p (reverse props) (prop ∷ [])
    ∙ ap (λ t. t || (p prop || false)) (any_reverse p props)
    ∙ ap (λ t. list_any p props || t) (or_false (p prop))
    ∙ or_comm (list_any p props) (p prop)

-- by whether the last property is the one
value_by : (test : Bool) (given : Option ℤ) (bound earlier value : ℤ) (others : Bool) → (test || others) ≡ true → given ≡ Some value → (others ≡ true → earlier ≡ value) → cond test (assigned_or given bound) earlier ≡ value
value_by true given bound earlier value others some e rest = ap (λ g. assigned_or g bound) e
value_by false given bound earlier value others some e rest = rest some

value_assigned : (props : List FirstProp) (world : World) (name : List ℕ) (value : ℤ) → list_any (λ prop. bytes_eq prop.name name) props ≡ true → assignment world name ≡ Some value → value_among props world name ≡ value
value_assigned [] world name value some e = cc
value_assigned (prop ∷ props) world name value some e =
    value_by (bytes_eq prop.name name) (assignment world name) (sum_value (λ earlier. value_among props world earlier) prop.terms) (value_among props world name) value (list_any (λ p. bytes_eq p.name name) props) some e
    (λ others. value_assigned props world name value others e)

-- ---- what a path leads to

chosen_property : (a b : Bool) (found name : List ℕ) → cond (a && b) (property found) nothing ≡ property name → (b ≡ true) × (found ≡ name)
chosen_property true true found name e = (refl, cc)
chosen_property true false found name e = absurd cc
chosen_property false true found name e = absurd cc
chosen_property false false found name e = absurd cc

chosen_root : (a : Bool) (name : List ℕ) → cond a root nothing ≡ property name → ⊥
chosen_root true name e = cc
chosen_root false name e = cc

-- a path leads to properties of the file alone
leads_to_property : (file : FirstFile) (path : List PathStep) (name : List ℕ) → target_of file path ≡ property name → has_name (names_of file.props) name ≡ true
leads_to_property file [] name e = absurd cc
leads_to_property file (first ∷ []) name e = absurd (chosen_root (bytes_eq first.name (codes "root")) name e)
leads_to_property file (first ∷ second ∷ []) name e =
    let chosen = chosen_property (bytes_eq first.name (codes "root")) (is_none second.row && has_name (names_of file.props) second.name) second.name name e in
    ap (λ n. has_name (names_of file.props) n) (sym chosen.1) ∙ (and_parts (is_none second.row) (has_name (names_of file.props) second.name) chosen.0).1
leads_to_property file (first ∷ second ∷ third ∷ others) name e = absurd cc

-- what is answered where a value is assigned
gets_assigned : (file : FirstFile) (world : World) (line name : List ℕ) (value : ℤ) → Gets file line name → assignment world name ≡ Some value → answer_of file world line ≡ value_reply value
gets_assigned file world line name value g e =
    let has = leads_to_property file g.path name g.leads in
    let some = any_reverse (λ prop. bytes_eq prop.name name) file.props ∙ sym (any_of_names name file.props) ∙ has in
    ap (λ reading. turn_answer (does_reading file world reading)) g.reads
    ∙ ap (λ target. turn_answer (does_get file world target)) g.leads
    ∙ ap value_reply (value_assigned (reverse file.props) world name value some e)

-- behind an assignment each question answers its value, until the next one
pub assigned_stays : (file : FirstFile) (world : World) (set get : List ℕ) (between : List (List ℕ)) (name : List ℕ) (value : ℤ)
    → Sets file set name value → All (SetsNot file name) between → Gets file get name → answer_of file (world_after file world (set ∷ between)) get ≡ value_reply value
assigned_stays file world set get between name value sets none gets =
    let first = turn_world world (does_line file world set) in
    gets_assigned file (world_after file first between) get name value gets
    (lines_keep file first name between none ∙ sets_assigns file world set name value sets)
