-- What can follow, as stacks of the places that are left: each with the depth of its tokens, and each stack with whether all tokens so far
-- were within the limit. Of the grammar this only knows the table of productions.
use Rattle.std.specs.Prelude.{ℕ, zero, suc, ◌+◌, Bool, true, false, ◌&&◌, ◌||◌, List, [], ◌∷◌, ◌++◌, length, nat_le, map, if◌then◌else◌}
use Rattle.slint_grammar.specs.Parts.{Part, FileItems, FileItem, ImportNames, Alias, NewName, Decl, Base, Listing, Rest, Name, Field, TypeName, Body, Items, GlobalBody, GlobalItems, GlobalItem, Item, RowNumber, Element, PropertyHead, Property, PropertyEnd, Callback, CallbackHead, CallbackEnd, MayParameters, MayResult, Parameter, Function, Modifiers, Value, MaySemicolon, Handler, MayNames, Run, StateList, State, When, Changes, Path, PathRest, Block, Stmts, StmtEnd, Open, MayValue, MayAssign, AssignOp, If, MayElse, Expr, MayChoice, Logic, LogicRest, Ands, Ors, Cmp, MayCompare, CompareOp, Sum, SumRest, SumOp, Prod, ProdRest, ProdOp, Unary, PrefixOp, Post, Suffixes, Suffix, Prim, StructFields, Holes, TrText, FieldValue}
use Rattle.slint_grammar.specs.Grammar.{Slot, one, same, deeper, Alt, slots}
use Rattle.slint_grammar.specs.Grammar.{Alt as alts}
use Rattle.slint_base.specs.declared.rules.Rule.{Rule}
use Rattle.slint_base.specs.declared.rules.Rule.TheVariants.{Syntax, TooDeep}
use Rattle.slint_lexer.specs.declared.tokens.Token.{Token}
use Rattle.slint_grammar.specs.Derivations.{Class, class_of, fits, deepest_token}

-- the productions of each part
abbrev pub alts_of : (p : Part) → List (Alt p)
alts_of FileItems = alts.no_more_items ∷ alts.file_items ∷ []
alts_of FileItem = alts.import_item ∷ alts.export_list ∷ alts.export_all ∷ alts.declared ∷ alts.exported ∷ []
alts_of ImportNames = alts.import_all ∷ alts.import_names ∷ []
alts_of Alias = alts.alias ∷ []
alts_of NewName = alts.same_name ∷ alts.new_name ∷ []
alts_of Decl = alts.component ∷ alts.global ∷ alts.struct_decl ∷ alts.enum_decl ∷ []
alts_of Base = alts.no_base ∷ alts.base ∷ []
alts_of (Listing l) = alts.listing_closes ∷ alts.listing_item ∷ []
alts_of (Rest l) = alts.rest_closes ∷ alts.rest_comma ∷ []
alts_of Name = alts.listed_name ∷ []
alts_of Field = alts.field ∷ []
alts_of TypeName = alts.named_type ∷ alts.array_type ∷ alts.struct_type ∷ []
alts_of Body = alts.body ∷ []
alts_of Items = alts.items_close ∷ alts.items_more ∷ []
alts_of GlobalBody = alts.global_body ∷ []
alts_of GlobalItems = alts.global_closes ∷ alts.global_more ∷ []
alts_of GlobalItem = alts.global_property ∷ alts.global_callback ∷ alts.global_function ∷ alts.global_handler ∷ []
alts_of Item = alts.property_item ∷ alts.callback_item ∷ alts.function_item ∷ alts.binding_item ∷ alts.link_item ∷ alts.handler_item ∷ alts.changed_item ∷ alts.states_item ∷ alts.element_item ∷ alts.named_element_item ∷ alts.if_item ∷ alts.for_item ∷ alts.children_item ∷ []
alts_of RowNumber = alts.no_row_number ∷ alts.row_number ∷ []
alts_of Element = alts.element ∷ alts.named_element ∷ []
alts_of PropertyHead = alts.no_mark ∷ alts.private_mark ∷ alts.in_mark ∷ alts.out_mark ∷ alts.in_out_mark ∷ []
alts_of Property = alts.typed_property ∷ alts.untyped_property ∷ []
alts_of PropertyEnd = alts.no_value ∷ alts.bound_value ∷ alts.linked_value ∷ []
alts_of Callback = alts.callback ∷ []
alts_of CallbackHead = alts.impure_callback ∷ alts.pure_callback ∷ []
alts_of CallbackEnd = alts.linked_callback ∷ alts.signature ∷ []
alts_of MayParameters = alts.no_parameters ∷ alts.parameters ∷ []
alts_of MayResult = alts.no_result ∷ alts.result ∷ []
alts_of Parameter = alts.named_parameter ∷ alts.nameless_parameter ∷ []
alts_of Function = alts.function ∷ []
alts_of Modifiers = alts.no_modifier ∷ alts.pure_alone ∷ alts.public_alone ∷ alts.protected_alone ∷ alts.pure_public ∷ alts.pure_protected ∷ alts.public_pure ∷ alts.protected_pure ∷ []
alts_of Value = alts.block_value ∷ alts.expr_value ∷ []
alts_of MaySemicolon = alts.no_semicolon ∷ alts.semicolon ∷ []
alts_of Handler = alts.handler ∷ []
alts_of MayNames = alts.no_names ∷ alts.names ∷ []
alts_of Run = alts.block_run ∷ alts.expr_run ∷ []
alts_of StateList = alts.states_close ∷ alts.states_more ∷ []
alts_of State = alts.state ∷ []
alts_of When = alts.no_when ∷ alts.when ∷ []
alts_of Changes = alts.changes_close ∷ alts.changes_more ∷ []
alts_of Path = alts.path ∷ []
alts_of PathRest = alts.path_ends ∷ alts.path_more ∷ []
alts_of Block = alts.block ∷ []
alts_of (Stmts h) = alts.stmts_close ∷ alts.stmts_if ∷ alts.stmts_empty ∷ alts.stmts_more ∷ []
alts_of StmtEnd = alts.stmt_closed ∷ alts.stmt_last ∷ []
alts_of (Open h) = alts.return_stmt ∷ alts.expr_stmt ∷ []
alts_of MayValue = alts.no_return_value ∷ alts.return_value ∷ []
alts_of MayAssign = alts.no_assign ∷ alts.assign ∷ []
alts_of AssignOp = alts.plain_set ∷ alts.set_add ∷ alts.set_sub ∷ alts.set_mul ∷ alts.set_div ∷ []
alts_of If = alts.an_if ∷ []
alts_of MayElse = alts.no_else ∷ alts.else_if ∷ alts.else_block ∷ []
alts_of (Expr h) = alts.expr ∷ []
alts_of MayChoice = alts.no_choice ∷ alts.choice ∷ []
alts_of (Logic h) = alts.logic ∷ []
alts_of LogicRest = alts.no_logic ∷ alts.logic_and ∷ alts.logic_or ∷ []
alts_of Ands = alts.ands_end ∷ alts.ands_more ∷ []
alts_of Ors = alts.ors_end ∷ alts.ors_more ∷ []
alts_of (Cmp h) = alts.cmp ∷ []
alts_of MayCompare = alts.no_compare ∷ alts.compare ∷ []
alts_of CompareOp = alts.equal ∷ alts.not_equal ∷ alts.less ∷ alts.less_equal ∷ alts.greater ∷ alts.greater_equal ∷ []
alts_of (Sum h) = alts.sum ∷ []
alts_of SumRest = alts.sum_ends ∷ alts.sum_more ∷ []
alts_of SumOp = alts.plus_sign ∷ alts.minus_sign ∷ []
alts_of (Prod h) = alts.prod ∷ []
alts_of ProdRest = alts.prod_ends ∷ alts.prod_more ∷ []
alts_of ProdOp = alts.star_sign ∷ alts.slash_sign ∷ []
alts_of (Unary h) = alts.prefix ∷ alts.post_alone ∷ []
alts_of PrefixOp = alts.negation ∷ alts.minus ∷ alts.plus ∷ []
alts_of (Post h) = alts.post ∷ []
alts_of Suffixes = alts.no_suffix ∷ alts.suffix_more ∷ []
alts_of Suffix = alts.member ∷ alts.call ∷ alts.index ∷ []
alts_of (Prim h) = alts.number_literal ∷ alts.colour_literal ∷ alts.text_literal ∷ alts.template ∷ alts.name_alone ∷ alts.paren ∷ alts.array ∷ alts.struct ∷ alts.image_url ∷ alts.tr ∷ []
alts_of (StructFields h) = alts.no_fields ∷ alts.some_fields ∷ []
alts_of Holes = alts.holes_end ∷ alts.holes_more ∷ []
alts_of TrText = alts.tr_text ∷ alts.tr_context ∷ []
alts_of FieldValue = alts.field_value ∷ []

-- whether no token is a part
abbrev pub nullable : Part → Bool
nullable FileItems = true
nullable FileItem = false
nullable ImportNames = true
nullable Alias = false
nullable NewName = true
nullable Decl = false
nullable Base = true
nullable (Listing x) = false
nullable (Rest x) = false
nullable Name = false
nullable Field = false
nullable TypeName = false
nullable Body = false
nullable Items = false
nullable GlobalBody = false
nullable GlobalItems = false
nullable GlobalItem = false
nullable Item = false
nullable RowNumber = true
nullable Element = false
nullable PropertyHead = false
nullable Property = false
nullable PropertyEnd = false
nullable Callback = false
nullable CallbackHead = false
nullable CallbackEnd = false
nullable MayParameters = true
nullable MayResult = true
nullable Parameter = false
nullable Function = false
nullable Modifiers = true
nullable Value = false
nullable MaySemicolon = true
nullable Handler = false
nullable MayNames = true
nullable Run = false
nullable StateList = false
nullable State = false
nullable When = true
nullable Changes = false
nullable Path = false
nullable PathRest = true
nullable Block = false
nullable (Stmts x) = false
nullable StmtEnd = false
nullable (Open x) = false
nullable MayValue = true
nullable MayAssign = true
nullable AssignOp = false
nullable If = false
nullable MayElse = true
nullable (Expr x) = false
nullable MayChoice = true
nullable (Logic x) = false
nullable LogicRest = true
nullable Ands = true
nullable Ors = true
nullable (Cmp x) = false
nullable MayCompare = true
nullable CompareOp = false
nullable (Sum x) = false
nullable SumRest = true
nullable SumOp = false
nullable (Prod x) = false
nullable ProdRest = true
nullable ProdOp = false
nullable (Unary x) = false
nullable PrefixOp = false
nullable (Post x) = false
nullable Suffixes = true
nullable Suffix = false
nullable (Prim x) = false
nullable (StructFields x) = false
nullable Holes = false
nullable TrText = false
nullable FieldValue = false

abbrev pub nullable_slot : Slot → Bool
nullable_slot (one t) = false
nullable_slot (same p) = nullable p
nullable_slot (deeper p) = nullable p

-- places that are left, the next one first, each with the depth of its tokens
abbrev pub Stack : Type 0
Stack = List (Slot × ℕ)

abbrev pub at_depth : ℕ → List Slot → Stack
at_depth d xs = map (λ x. (x, d)) xs

-- what can be left of a place behind a token, and whether the token was within the limit
abbrev pub Left : Type 0
Left = Stack × Bool

abbrev pub behind : Stack → Left → Left
behind more left = (left.0 ++ more, left.1)

-- of a right side, where of a single place it is known
abbrev pub through : (Slot → ℕ → List Left) → List Slot → ℕ → List Left
through f [] d = []
through f (x ∷ xs) d = map (behind (at_depth d xs)) (f x d) ++ (if nullable_slot x then through f xs d else [])

abbrev pub each_alt : {p : Part} → (Slot → ℕ → List Left) → List (Alt p) → ℕ → List Left
each_alt f [] d = []
each_alt f (a ∷ as') d = through f (slots a) d ++ each_alt f as' d

abbrev pub first : ℕ → Class → Slot → ℕ → List Left
first zero c x d = []
first (suc n) c (one t) d = if fits t c then ([], nat_le d deepest_token) ∷ [] else []
first (suc n) c (same p) d = each_alt (first n c) (alts_of p) d
first (suc n) c (deeper p) d = each_alt (first n c) (alts_of p) (d + 1)

-- no part begins with a longer chain of parts than this
abbrev pub longest_chain : ℕ
longest_chain = 12

abbrev pub onto : Stack → Bool → Left → Left
onto more within left = (left.0 ++ more, within && left.1)

-- what can be left of a stack behind a token
abbrev pub after : Class → Stack → Bool → List Left
after c [] within = []
after c (x ∷ xs) within = map (onto xs within) (first longest_chain c x.0 x.1) ++ (if nullable_slot x.0 then after c xs within else [])

-- the same of several stacks
abbrev pub afters : Class → List Left → List Left
afters c [] = []
afters c (left ∷ more) = after c left.0 left.1 ++ afters c more

-- whether one of the stacks is within the limit
abbrev pub is_live : List Left → Bool
is_live [] = false
is_live (left ∷ more) = left.1 || is_live more

-- whether nothing need follow a stack
abbrev pub is_done : Stack → Bool
is_done [] = true
is_done (x ∷ xs) = nullable_slot x.0 && is_done xs

abbrev pub is_any_done : List Left → Bool
is_any_done [] = false
is_any_done (left ∷ more) = (left.1 && is_done left.0) || is_any_done more

-- how a list of tokens comes out: it stops by a rule in front of so many tokens, the first of which can't stand there, or it ends,
-- and may or may not end there
pub data Outcome : Type 0 where
  Stops : Rule → ℕ → Outcome
  Ends : Bool → Outcome

abbrev pub rule_of : List Left → Rule
rule_of [] = Syntax
rule_of (left ∷ more) = TooDeep

abbrev pub run : List Token → List Left → Outcome
run [] now = Ends (is_any_done now)
run (token ∷ rest) now = if is_live (afters (class_of token.kind) now) then run rest (afters (class_of token.kind) now)
    else Stops (rule_of (afters (class_of token.kind) now)) (suc (length rest))

-- before the first token of a file
abbrev pub start : List Left
start = ((same FileItems, 0) ∷ [], true) ∷ []
