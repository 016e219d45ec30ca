-- The tokens of each part's tree, and each part's tree without its stretches.
use Rattle.std.proofs.Common.{List, [], ◌∷◌, ◌++◌, map, None}
use Rattle.slint_lexer.specs.declared.tokens.Symbol.TheVariants as symbols
use Rattle.slint_lexer.specs.declared.tokens.TokenKind.{TokenKind}
use Rattle.slint_lexer.specs.declared.tokens.TokenKind.TheVariants as kinds
use Rattle.syntax_tree.specs.Bare.{nowhere, in_some, bare_ident, bare_quoted, bare_path, bare_type, bare_field, bare_expr, bare_suffix, bare_field_value, bare_hole, bare_operand, bare_stmt, bare_block, bare_else, bare_value, bare_prop_value, bare_property, bare_parameter, bare_form, bare_callback, bare_function, bare_handler, bare_change, bare_state, bare_item, bare_element, bare_alias, bare_decl, bare_file_item}
use Rattle.syntax_tree.specs.Printed.{Kinds, sign, in_order, behind_commas, with_commas, if_some, closed_by, in_braces, behind_points, behind_hole, binary_sign, prefix_sign, assign_sign, tokens_of_ident, tokens_of_path, tokens_of_type, tokens_of_field, tokens_of_expr, tokens_of_suffix, tokens_of_field_value, tokens_of_hole, tokens_of_operand, tokens_of_stmt, tokens_of_block, tokens_of_else, tokens_of_value, property_head, tokens_of_prop_value, tokens_of_property, callback_head, tokens_of_parameter, tokens_of_parameters, tokens_of_result, tokens_of_form, tokens_of_callback, modifiers, tokens_of_function, tokens_of_names, tokens_of_handler, tokens_of_change, tokens_of_when, tokens_of_state, tokens_of_number, tokens_of_item, tokens_of_element, tokens_of_items, tokens_of_new_name, tokens_of_alias, import_names, tokens_of_base, tokens_of_decl, tokens_of_context, tokens_of_file_item}
use Rattle.slint_grammar.specs.Parts.{Listed, Part, closer, FileItems, FileItem, ImportNames, Alias, NewName, Decl, Base, Listing, Rest, Name, Field, TypeName, Body, Items, GlobalBody, GlobalItems, GlobalItem, Item, RowNumber, Element, PropertyHead, Property, PropertyEnd, Callback, CallbackHead, CallbackEnd, MayParameters, MayResult, Parameter, Function, Modifiers, Value, MaySemicolon, Handler, MayNames, Run, StateList, State, When, Changes, Path, PathRest, Block, Stmts, StmtEnd, Open, MayValue, MayAssign, AssignOp, If, MayElse, Expr, MayChoice, Logic, LogicRest, Ands, Ors, Cmp, MayCompare, CompareOp, Sum, SumRest, SumOp, Prod, ProdRest, ProdOp, Unary, PrefixOp, Post, Suffixes, Suffix, Prim, StructFields, Holes, TrText, FieldValue, Aliases, Fields, EnumValues, Parameters, FunctionParameters, HandlerParameters, Arguments, Elements, FieldValues}
use Rattle.slint_grammar.specs.declared.words.Word.TheVariants as words
use Rattle.slint_grammar.specs.Grammar.{Terminal, Sign, SignWhere, TheWord, AnyName, NameBut, ANumber, AColour, AText, AHead, AMid, ATail, Slot, one, same, deeper}
use Rattle.slint_grammar.specs.Made.{ItemTree, Tree, Held, AllGiven}
use Rattle.slint_grammar.specs.Derivations.{spelling}

-- an item of a list
abbrev pub item_tokens : (l : Listed) → ItemTree l → Kinds
item_tokens Aliases = tokens_of_alias
item_tokens Fields = tokens_of_field
item_tokens EnumValues = tokens_of_ident
item_tokens Parameters = tokens_of_parameter
item_tokens FunctionParameters = tokens_of_field
item_tokens HandlerParameters = tokens_of_ident
item_tokens Arguments = tokens_of_expr
item_tokens Elements = tokens_of_expr
item_tokens FieldValues = tokens_of_field_value

-- all but the last
abbrev pub all_but_last : Kinds → Kinds
all_but_last [] = []
all_but_last (x ∷ []) = []
all_but_last (x ∷ y ∷ ys) = x ∷ all_but_last (y ∷ ys)

-- the tokens of a part's tree; an open statement is without its semicolon
abbrev pub spell : (p : Part) → Tree p → Kinds
spell FileItems t = in_order (map tokens_of_file_item t)
spell FileItem t = tokens_of_file_item t
spell ImportNames t = if_some import_names t
spell Alias t = tokens_of_alias t
spell NewName t = if_some tokens_of_new_name t
spell Decl t = tokens_of_decl t
spell Base t = if_some tokens_of_base t
spell (Listing l) t = with_commas (closer l) (map (item_tokens l) t.0)
spell (Rest l) t = behind_commas (closer l) (map (item_tokens l) t.0)
spell Name t = tokens_of_ident t
spell Field t = tokens_of_field t
spell TypeName t = tokens_of_type t
spell Body t = in_braces (map tokens_of_item t)
spell Items t = tokens_of_items t
spell GlobalBody t = in_braces (map tokens_of_item t)
spell GlobalItems t = tokens_of_items t
spell GlobalItem t = tokens_of_item t
spell Item t = tokens_of_item t
spell RowNumber t = if_some tokens_of_number t
spell Element t = tokens_of_element t
spell PropertyHead t = property_head t.0
spell Property t = tokens_of_property t
spell PropertyEnd t = tokens_of_prop_value t.0
spell Callback t = tokens_of_callback t
spell CallbackHead t = callback_head t.0
spell CallbackEnd t = tokens_of_form t.0
spell MayParameters t = if_some tokens_of_parameters t
spell MayResult t = if_some tokens_of_result t
spell Parameter t = tokens_of_parameter t
spell Function t = tokens_of_function t
spell Modifiers t = modifiers t.0 t.1
spell Value t = tokens_of_value t.0
spell MaySemicolon t = []
spell Handler t = tokens_of_handler t
spell MayNames t = if_some tokens_of_names t
spell Run t = tokens_of_value t.0
spell StateList t = closed_by symbols.CloseBracket (map tokens_of_state t)
spell State t = tokens_of_state t
spell When t = if_some tokens_of_when t
spell Changes t = closed_by symbols.CloseBrace (map tokens_of_change t)
spell Path t = tokens_of_path t
spell PathRest t = behind_points t
spell Block t = tokens_of_block t
spell (Stmts h) t = closed_by symbols.CloseBrace (map tokens_of_stmt t.0)
spell StmtEnd t = kinds.Symbol symbols.Semicolon ∷ closed_by symbols.CloseBrace (map tokens_of_stmt t.0)
spell (Open h) t = all_but_last (tokens_of_stmt t)
spell MayValue t = if_some tokens_of_expr t
spell MayAssign t = if_some (λ a. kinds.Symbol (assign_sign a.0) ∷ tokens_of_expr a.1) t
spell AssignOp t = sign (assign_sign t)
spell If t = kinds.Id (spelling words.If) ∷ (tokens_of_expr t.0 ++ (tokens_of_block t.1 ++ tokens_of_else t.2))
spell MayElse t = tokens_of_else t
spell (Expr h) t = tokens_of_expr t
spell MayChoice t = if_some (λ c. kinds.Symbol symbols.Question ∷ (tokens_of_expr c.0 ++ (kinds.Symbol symbols.Colon ∷ tokens_of_expr c.1))) t
spell (Logic h) t = tokens_of_expr t
spell LogicRest t = in_order (map tokens_of_operand t)
spell Ands t = in_order (map tokens_of_operand t)
spell Ors t = in_order (map tokens_of_operand t)
spell (Cmp h) t = tokens_of_expr t
spell MayCompare t = in_order (map tokens_of_operand t)
spell CompareOp t = sign (binary_sign t)
spell (Sum h) t = tokens_of_expr t
spell SumRest t = in_order (map tokens_of_operand t)
spell SumOp t = sign (binary_sign t)
spell (Prod h) t = tokens_of_expr t
spell ProdRest t = in_order (map tokens_of_operand t)
spell ProdOp t = sign (binary_sign t)
spell (Unary h) t = tokens_of_expr t
spell PrefixOp t = sign (prefix_sign t.0)
spell (Post h) t = tokens_of_expr t
spell Suffixes t = in_order (map tokens_of_suffix t)
spell Suffix t = tokens_of_suffix t
spell (Prim h) t = tokens_of_expr t
spell (StructFields h) t = with_commas symbols.CloseBrace (map tokens_of_field_value t.0)
spell Holes t = behind_hole t.0.text (map tokens_of_hole t.1)
spell TrText t = tokens_of_context t.0 ++ (kinds.Str t.1.text ∷ [])
spell FieldValue t = tokens_of_field_value t

-- the token that was what it was asked to be
abbrev pub kind_of : (t : Terminal) → Held t → TokenKind
kind_of (Sign s) h = kinds.Symbol s
kind_of (SignWhere b s) h = kinds.Symbol s
kind_of (TheWord w) h = kinds.Id (spelling w)
kind_of AnyName h = kinds.Id h.name
kind_of (NameBut ws) h = kinds.Id h.name
kind_of ANumber h = kinds.Number h.0
kind_of AColour h = kinds.Colour h.0
kind_of AText h = kinds.Str h.text
kind_of AHead h = kinds.Head h.text
kind_of AMid h = kinds.Mid h.text
kind_of ATail h = kinds.Tail h.text

abbrev pub spells : (xs : List Slot) → AllGiven xs → Kinds
spells [] g = []
spells (one t ∷ xs) g = kind_of t g.0 ∷ spells xs g.1
spells (same p ∷ xs) g = spell p g.0 ++ spells xs g.1
spells (deeper p ∷ xs) g = spell p g.0 ++ spells xs g.1

-- an item of a list without its stretches
abbrev pub bare_listed : (l : Listed) → ItemTree l → ItemTree l
bare_listed Aliases = bare_alias
bare_listed Fields = bare_field
bare_listed EnumValues = bare_ident
bare_listed Parameters = bare_parameter
bare_listed FunctionParameters = bare_field
bare_listed HandlerParameters = bare_ident
bare_listed Arguments = bare_expr
bare_listed Elements = bare_expr
bare_listed FieldValues = bare_field_value

-- a part's tree without its stretches; of a semicolon that may stand, nothing is left
abbrev pub bare : (p : Part) → Tree p → Tree p
bare FileItems t = map bare_file_item t
bare FileItem t = bare_file_item t
bare ImportNames t = in_some (map bare_alias) t
bare Alias t = bare_alias t
bare NewName t = in_some bare_ident t
bare Decl t = bare_decl t
bare Base t = in_some bare_ident t
bare (Listing l) t = (map (bare_listed l) t.0, nowhere)
bare (Rest l) t = (map (bare_listed l) t.0, nowhere)
bare Name t = bare_ident t
bare Field t = bare_field t
bare TypeName t = bare_type t
bare Body t = map bare_item t
bare Items t = map bare_item t
bare GlobalBody t = map bare_item t
bare GlobalItems t = map bare_item t
bare GlobalItem t = bare_item t
bare Item t = bare_item t
bare RowNumber t = in_some bare_ident t
bare Element t = bare_element t
bare PropertyHead t = (t.0, nowhere)
bare Property t = bare_property t
bare PropertyEnd t = (bare_prop_value t.0, nowhere)
bare Callback t = bare_callback t
bare CallbackHead t = (t.0, nowhere)
bare CallbackEnd t = (bare_form t.0, nowhere)
bare MayParameters t = in_some (map bare_parameter) t
bare MayResult t = in_some bare_type t
bare Parameter t = bare_parameter t
bare Function t = bare_function t
bare Modifiers t = t
bare Value t = (bare_value t.0, nowhere)
bare MaySemicolon t = None
bare Handler t = bare_handler t
bare MayNames t = in_some (map bare_ident) t
bare Run t = (bare_value t.0, nowhere)
bare StateList t = map bare_state t
bare State t = bare_state t
bare When t = in_some bare_expr t
bare Changes t = map bare_change t
bare Path t = bare_path t
bare PathRest t = map bare_ident t
bare Block t = bare_block t
bare (Stmts h) t = (map bare_stmt t.0, nowhere)
bare StmtEnd t = (map bare_stmt t.0, nowhere)
bare (Open h) t = bare_stmt t
bare MayValue t = in_some bare_expr t
bare MayAssign t = in_some (λ a. (a.0, bare_expr a.1)) t
bare AssignOp t = t
bare If t = (bare_expr t.0, bare_block t.1, bare_else t.2, nowhere)
bare MayElse t = bare_else t
bare (Expr h) t = bare_expr t
bare MayChoice t = in_some (λ c. (bare_expr c.0, bare_expr c.1)) t
bare (Logic h) t = bare_expr t
bare LogicRest t = map bare_operand t
bare Ands t = map bare_operand t
bare Ors t = map bare_operand t
bare (Cmp h) t = bare_expr t
bare MayCompare t = map bare_operand t
bare CompareOp t = t
bare (Sum h) t = bare_expr t
bare SumRest t = map bare_operand t
bare SumOp t = t
bare (Prod h) t = bare_expr t
bare ProdRest t = map bare_operand t
bare ProdOp t = t
bare (Unary h) t = bare_expr t
bare PrefixOp t = (t.0, nowhere)
bare (Post h) t = bare_expr t
bare Suffixes t = map bare_suffix t
bare Suffix t = bare_suffix t
bare (Prim h) t = bare_expr t
bare (StructFields h) t = (map bare_field_value t.0, nowhere)
bare Holes t = (bare_quoted t.0, map bare_hole t.1, nowhere)
bare TrText t = (in_some bare_quoted t.0, bare_quoted t.1)
bare FieldValue t = bare_field_value t

abbrev pub bare_held : (t : Terminal) → Held t → Held t
bare_held (Sign s) h = nowhere
bare_held (SignWhere b s) h = nowhere
bare_held (TheWord w) h = nowhere
bare_held AnyName h = bare_ident h
bare_held (NameBut ws) h = bare_ident h
bare_held ANumber h = (h.0, nowhere)
bare_held AColour h = (h.0, nowhere)
bare_held AText h = bare_quoted h
bare_held AHead h = bare_quoted h
bare_held AMid h = bare_quoted h
bare_held ATail h = bare_quoted h

abbrev pub bares : (xs : List Slot) → AllGiven xs → AllGiven xs
bares [] g = tt
bares (one t ∷ xs) g = (bare_held t g.0, bares xs g.1)
bares (same p ∷ xs) g = (bare p g.0, bares xs g.1)
bares (deeper p ∷ xs) g = (bare p g.0, bares xs g.1)
