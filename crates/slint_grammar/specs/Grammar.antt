-- The written grammar, a production a line: the names of the productions, and what each right side is.
use Rattle.std.specs.Prelude.{Bool, List, [], ◌∷◌}
use Rattle.slint_lexer.specs.declared.tokens.Symbol.{Symbol}
use Rattle.slint_lexer.specs.declared.tokens.Symbol.TheVariants as symbols
use Rattle.slint_grammar.specs.declared.words.Word.{Word}
use Rattle.slint_grammar.specs.declared.words.Word.TheVariants as words
use Rattle.slint_grammar.specs.Parts.{Listed, Start, Part, closer, words_at, begins_struct, may_be_empty, item_words, FileItems, FileItem, ImportNames, Alias, NewName, Decl, Base, Listing, Rest, Name, Field, TypeName, Body, Items, GlobalBody, GlobalItems, GlobalItem, Item, RowNumber, Element, PropertyHead, Property, PropertyEnd, Callback, CallbackHead, CallbackEnd, MayParameters, MayResult, Parameter, Function, Modifiers, Value, MaySemicolon, Handler, MayNames, Run, StateList, State, When, Changes, Path, PathRest, Block, Stmts, StmtEnd, Open, MayValue, MayAssign, AssignOp, If, MayElse, Expr, MayChoice, Logic, LogicRest, Ands, Ors, Cmp, MayCompare, CompareOp, Sum, SumRest, SumOp, Prod, ProdRest, ProdOp, Unary, PrefixOp, Post, Suffixes, Suffix, Prim, StructFields, Holes, TrText, FieldValue, Aliases, Fields, EnumValues, Parameters, FunctionParameters, HandlerParameters, Arguments, Elements, FieldValues, Anywhere, InValue, InRun, InStmt, BehindIf}

-- what one token can be asked to be
pub data Terminal : Type 0 where
  -- this symbol, and one that stands only where the test holds
  Sign : Symbol → Terminal
  SignWhere : Bool → Symbol → Terminal
  -- this word; a name; a name that is none of these
  TheWord : Word → Terminal
  AnyName : Terminal
  NameBut : List Word → Terminal
  -- a number, a colour, a string without holes, and the pieces of one with holes
  ANumber : Terminal
  AColour : Terminal
  AText : Terminal
  AHead : Terminal
  AMid : Terminal
  ATail : Terminal

-- what stands at a place of a right side: a token, a part whose tokens are as deep as those around it, or a part one deeper
pub data Slot : Type 0 where
  one : Terminal → Slot
  same : Part → Slot
  deeper : Part → Slot

abbrev pub symbol : Symbol → Slot
symbol s = one (Sign s)

abbrev pub symbol_where : Bool → Symbol → Slot
symbol_where b s = one (SignWhere b s)

abbrev pub word : Word → Slot
word w = one (TheWord w)

abbrev pub name : Slot
name = one AnyName

abbrev pub name_but : List Word → Slot
name_but ws = one (NameBut ws)

abbrev pub number : Slot
number = one ANumber

abbrev pub colour : Slot
colour = one AColour

abbrev pub text : Slot
text = one AText

abbrev pub head : Slot
head = one AHead

abbrev pub mid : Slot
mid = one AMid

abbrev pub tail : Slot
tail = one ATail

-- an item of a list
abbrev pub item : Listed → Slot
item Aliases = same Alias
item Fields = same Field
item EnumValues = same Name
item Parameters = same Parameter
item FunctionParameters = same Field
item HandlerParameters = same Name
item Arguments = deeper (Expr Anywhere)
item Elements = deeper (Expr Anywhere)
item FieldValues = same FieldValue

pub data Alt : Part → Type 0 where
  -- File = { Import | Export | [ "export" ] Decl }
  no_more_items : Alt FileItems
  file_items : Alt FileItems
  -- Import = "import" [ "{" [ As { "," As } [ "," ] ] "}" "from" ] String ";"
  import_item : Alt FileItem
  import_all : Alt ImportNames
  import_names : Alt ImportNames
  -- Export = "export" "{" [ As { "," As } [ "," ] ] "}" [ ";" ]
  -- | "export" "*" "from" String ";"
  export_list : Alt FileItem
  export_all : Alt FileItem
  -- [ "export" ] Decl
  declared : Alt FileItem
  exported : Alt FileItem
  -- As = Id [ "as" Id ]
  alias : Alt Alias
  same_name : Alt NewName
  new_name : Alt NewName
  -- Decl = "component" Id [ "inherits" Id ] Body | "global" Id GBody
  -- | "struct" Id Fields | "enum" Id "{" Id { "," Id } [ "," ] "}"
  component : Alt Decl
  no_base : Alt Base
  base : Alt Base
  global : Alt Decl
  struct_decl : Alt Decl
  enum_decl : Alt Decl
  -- lists with commas between: the closing symbol, or an item; behind an item the closing symbol, or a comma
  listing_closes : {l : Listed} → Alt (Listing l)
  listing_item : {l : Listed} → Alt (Listing l)
  rest_closes : {l : Listed} → Alt (Rest l)
  rest_comma : {l : Listed} → Alt (Rest l)
  listed_name : Alt Name
  -- Fields = "{" [ Id ":" Type { "," Id ":" Type } [ "," ] ] "}"
  field : Alt Field
  -- Type = Id | "[" Type "]" | Fields
  named_type : Alt TypeName
  array_type : Alt TypeName
  struct_type : Alt TypeName
  -- Body = "{" { Item } "}"
  body : Alt Body
  items_close : Alt Items
  items_more : Alt Items
  -- GBody = "{" { Prop | Callback | Function | Handler } "}"
  global_body : Alt GlobalBody
  global_closes : Alt GlobalItems
  global_more : Alt GlobalItems
  global_property : Alt GlobalItem
  global_callback : Alt GlobalItem
  global_function : Alt GlobalItem
  global_handler : Alt GlobalItem
  -- Item = Prop | Callback | Function | Bind | Link | Handler | Changed
  -- | States | Element | "if" Expr ":" Element
  -- | "for" Id [ "[" Id "]" ] "in" Expr ":" Element | "@" "children"
  property_item : Alt Item
  callback_item : Alt Item
  function_item : Alt Item
  -- Bind = Id ":" Value
  binding_item : Alt Item
  -- Link = Id "<=>" Path ";"
  link_item : Alt Item
  handler_item : Alt Item
  -- Changed = "changed" Id "=>" Run
  changed_item : Alt Item
  -- States = "states" "[" { Id [ "when" Expr ] ":" "{" { Path ":" Value } "}" } "]"
  states_item : Alt Item
  -- an element at an item's head: [ Id ":=" ] Id Body
  element_item : Alt Item
  named_element_item : Alt Item
  if_item : Alt Item
  for_item : Alt Item
  children_item : Alt Item
  no_row_number : Alt RowNumber
  row_number : Alt RowNumber
  -- Element = [ Id ":=" ] Id Body
  element : Alt Element
  named_element : Alt Element
  -- Prop = [ "private" | "in" | "out" | "in-out" ] "property"
  -- ( "<" Type ">" Id ( ";" | ":" Value | "<=>" Path ";" )
  -- | Id "<=>" Path ";" )
  no_mark : Alt PropertyHead
  private_mark : Alt PropertyHead
  in_mark : Alt PropertyHead
  out_mark : Alt PropertyHead
  in_out_mark : Alt PropertyHead
  typed_property : Alt Property
  untyped_property : Alt Property
  no_value : Alt PropertyEnd
  bound_value : Alt PropertyEnd
  linked_value : Alt PropertyEnd
  -- Callback = [ "pure" ] "callback" Id ( "<=>" Path ";"
  -- | [ "(" [ Par { "," Par } [ "," ] ] ")" ] [ "->" Type ] ";" )
  callback : Alt Callback
  impure_callback : Alt CallbackHead
  pure_callback : Alt CallbackHead
  linked_callback : Alt CallbackEnd
  signature : Alt CallbackEnd
  no_parameters : Alt MayParameters
  parameters : Alt MayParameters
  no_result : Alt MayResult
  result : Alt MayResult
  -- Par = [ Id ":" ] Type
  named_parameter : Alt Parameter
  nameless_parameter : Alt Parameter
  -- Function = Mods "function" Id "(" [ Id ":" Type { "," Id ":" Type } [ "," ] ] ")"
  -- [ "->" Type ] Block
  function : Alt Function
  -- Mods = [ "pure" ] [ "public" | "protected" ] | ( "public" | "protected" ) "pure"
  no_modifier : Alt Modifiers
  pure_alone : Alt Modifiers
  public_alone : Alt Modifiers
  protected_alone : Alt Modifiers
  pure_public : Alt Modifiers
  pure_protected : Alt Modifiers
  public_pure : Alt Modifiers
  protected_pure : Alt Modifiers
  -- Value = Block [ ";" ] | Expr ";"
  block_value : Alt Value
  expr_value : Alt Value
  no_semicolon : Alt MaySemicolon
  semicolon : Alt MaySemicolon
  -- Handler = Id [ "(" [ Id { "," Id } [ "," ] ] ")" ] "=>" Run
  handler : Alt Handler
  no_names : Alt MayNames
  names : Alt MayNames
  -- Run = Block [ ";" ] | Expr ";"
  block_run : Alt Run
  expr_run : Alt Run
  -- a list of states: { Id [ "when" Expr ] ":" "{" { Path ":" Value } "}" } "]"
  states_close : Alt StateList
  states_more : Alt StateList
  state : Alt State
  no_when : Alt When
  when : Alt When
  changes_close : Alt Changes
  changes_more : Alt Changes
  -- Path = Id { "." Id }
  path : Alt Path
  path_ends : Alt PathRest
  path_more : Alt PathRest
  -- Block = "{" { Stmt } "}"
  block : Alt Block
  stmts_close : {h : Start} → Alt (Stmts h)
  -- Stmt = If | "return" [ Expr ] ";" | ";" | Expr [ ( "=" | "+=" | "-=" | "*=" | "/=" ) Expr ] ";"
  -- the last one before the brace may leave its semicolon out, but where that is the whole statement
  stmts_if : {h : Start} → Alt (Stmts h)
  stmts_empty : {h : Start} → Alt (Stmts h)
  stmts_more : {h : Start} → Alt (Stmts h)
  stmt_closed : Alt StmtEnd
  stmt_last : Alt StmtEnd
  return_stmt : {h : Start} → Alt (Open h)
  no_return_value : Alt MayValue
  return_value : Alt MayValue
  expr_stmt : {h : Start} → Alt (Open h)
  no_assign : Alt MayAssign
  assign : Alt MayAssign
  plain_set : Alt AssignOp
  set_add : Alt AssignOp
  set_sub : Alt AssignOp
  set_mul : Alt AssignOp
  set_div : Alt AssignOp
  -- If = "if" Expr Block [ "else" ( If | Block ) ]
  an_if : Alt If
  no_else : Alt MayElse
  else_if : Alt MayElse
  else_block : Alt MayElse
  -- Expr = Logic [ "?" Expr ":" Expr ]
  expr : {h : Start} → Alt (Expr h)
  no_choice : Alt MayChoice
  choice : Alt MayChoice
  -- Logic = Cmp { "&&" Cmp } | Cmp { "||" Cmp }
  logic : {h : Start} → Alt (Logic h)
  no_logic : Alt LogicRest
  logic_and : Alt LogicRest
  logic_or : Alt LogicRest
  ands_end : Alt Ands
  ands_more : Alt Ands
  ors_end : Alt Ors
  ors_more : Alt Ors
  -- Cmp = Sum [ ( "==" | "!=" | "<" | "<=" | ">" | ">=" ) Sum ]
  cmp : {h : Start} → Alt (Cmp h)
  no_compare : Alt MayCompare
  compare : Alt MayCompare
  equal : Alt CompareOp
  not_equal : Alt CompareOp
  less : Alt CompareOp
  less_equal : Alt CompareOp
  greater : Alt CompareOp
  greater_equal : Alt CompareOp
  -- Sum = Prod { ( "+" | "-" ) Prod }
  sum : {h : Start} → Alt (Sum h)
  sum_ends : Alt SumRest
  sum_more : Alt SumRest
  plus_sign : Alt SumOp
  minus_sign : Alt SumOp
  -- Prod = Unary { ( "*" | "/" ) Unary }
  prod : {h : Start} → Alt (Prod h)
  prod_ends : Alt ProdRest
  prod_more : Alt ProdRest
  star_sign : Alt ProdOp
  slash_sign : Alt ProdOp
  -- Unary = ( "!" | "-" | "+" ) Unary | Post
  prefix : {h : Start} → Alt (Unary h)
  post_alone : {h : Start} → Alt (Unary h)
  negation : Alt PrefixOp
  minus : Alt PrefixOp
  plus : Alt PrefixOp
  -- Post = Prim { "." Id | "(" [ Args ] ")" | "[" Expr "]" }
  post : {h : Start} → Alt (Post h)
  no_suffix : Alt Suffixes
  suffix_more : Alt Suffixes
  member : Alt Suffix
  call : Alt Suffix
  index : Alt Suffix
  -- Prim = Number | Colour | String | Head Expr { Mid Expr } Tail | Id
  -- | "(" Expr ")" | "[" [ Args ] "]"
  -- | "{" [ Id ":" Expr { "," Id ":" Expr } [ "," ] ] "}"
  -- | "@" "image-url" "(" String ")"
  -- | "@" "tr" "(" [ String "=>" ] String { "," Expr } [ "," ] ")"
  number_literal : {h : Start} → Alt (Prim h)
  colour_literal : {h : Start} → Alt (Prim h)
  text_literal : {h : Start} → Alt (Prim h)
  template : {h : Start} → Alt (Prim h)
  name_alone : {h : Start} → Alt (Prim h)
  paren : {h : Start} → Alt (Prim h)
  array : {h : Start} → Alt (Prim h)
  struct : {h : Start} → Alt (Prim h)
  no_fields : {h : Start} → Alt (StructFields h)
  some_fields : {h : Start} → Alt (StructFields h)
  image_url : {h : Start} → Alt (Prim h)
  tr : {h : Start} → Alt (Prim h)
  holes_end : Alt Holes
  holes_more : Alt Holes
  tr_text : Alt TrText
  tr_context : Alt TrText
  field_value : Alt FieldValue

abbrev pub slots : {p : Part} → Alt p → List Slot
-- File = { Import | Export | [ "export" ] Decl }
slots no_more_items = []
slots file_items = same FileItem ∷ same FileItems ∷ []
-- Import = "import" [ "{" [ As { "," As } [ "," ] ] "}" "from" ] String ";"
slots import_item = word words.Import ∷ same ImportNames ∷ text ∷ symbol symbols.Semicolon ∷ []
slots import_all = []
slots import_names = symbol symbols.OpenBrace ∷ same (Listing Aliases) ∷ word words.From ∷ []
-- Export = "export" "{" [ As { "," As } [ "," ] ] "}" [ ";" ]
-- | "export" "*" "from" String ";"
slots export_list = word words.Export ∷ symbol symbols.OpenBrace ∷ same (Listing Aliases) ∷ same MaySemicolon ∷ []
slots export_all = word words.Export ∷ symbol symbols.Star ∷ word words.From ∷ text ∷ symbol symbols.Semicolon ∷ []
-- [ "export" ] Decl
slots declared = same Decl ∷ []
slots exported = word words.Export ∷ same Decl ∷ []
-- As = Id [ "as" Id ]
slots alias = name ∷ same NewName ∷ []
slots same_name = []
slots new_name = word words.As ∷ name ∷ []
-- Decl = "component" Id [ "inherits" Id ] Body | "global" Id GBody
-- | "struct" Id Fields | "enum" Id "{" Id { "," Id } [ "," ] "}"
slots component = word words.Component ∷ name ∷ same Base ∷ deeper Body ∷ []
slots no_base = []
slots base = word words.Inherits ∷ name ∷ []
slots global = word words.Global ∷ name ∷ same GlobalBody ∷ []
slots struct_decl = word words.Struct ∷ name ∷ symbol symbols.OpenBrace ∷ same (Listing Fields) ∷ []
slots enum_decl = word words.Enum ∷ name ∷ symbol symbols.OpenBrace ∷ name ∷ same (Rest EnumValues) ∷ []
-- lists with commas between: the closing symbol, or an item; behind an item the closing symbol, or a comma
slots (listing_closes {l}) = symbol (closer l) ∷ []
slots (listing_item {l}) = item l ∷ same (Rest l) ∷ []
slots (rest_closes {l}) = symbol (closer l) ∷ []
slots (rest_comma {l}) = symbol symbols.Comma ∷ same (Listing l) ∷ []
slots listed_name = name ∷ []
-- Fields = "{" [ Id ":" Type { "," Id ":" Type } [ "," ] ] "}"
slots field = name ∷ symbol symbols.Colon ∷ deeper TypeName ∷ []
-- Type = Id | "[" Type "]" | Fields
slots named_type = name ∷ []
slots array_type = symbol symbols.OpenBracket ∷ deeper TypeName ∷ symbol symbols.CloseBracket ∷ []
slots struct_type = symbol symbols.OpenBrace ∷ same (Listing Fields) ∷ []
-- Body = "{" { Item } "}"
slots body = symbol symbols.OpenBrace ∷ same Items ∷ []
slots items_close = symbol symbols.CloseBrace ∷ []
slots items_more = same Item ∷ same Items ∷ []
-- GBody = "{" { Prop | Callback | Function | Handler } "}"
slots global_body = symbol symbols.OpenBrace ∷ same GlobalItems ∷ []
slots global_closes = symbol symbols.CloseBrace ∷ []
slots global_more = same GlobalItem ∷ same GlobalItems ∷ []
slots global_property = same Property ∷ []
slots global_callback = same Callback ∷ []
slots global_function = same Function ∷ []
slots global_handler = same Handler ∷ []
-- Item = Prop | Callback | Function | Bind | Link | Handler | Changed
-- | States | Element | "if" Expr ":" Element
-- | "for" Id [ "[" Id "]" ] "in" Expr ":" Element | "@" "children"
slots property_item = same Property ∷ []
slots callback_item = same Callback ∷ []
slots function_item = same Function ∷ []
-- Bind = Id ":" Value
slots binding_item = name_but item_words ∷ symbol symbols.Colon ∷ same Value ∷ []
-- Link = Id "<=>" Path ";"
slots link_item = name_but item_words ∷ symbol symbols.TwoWay ∷ same Path ∷ symbol symbols.Semicolon ∷ []
slots handler_item = same Handler ∷ []
-- Changed = "changed" Id "=>" Run
slots changed_item = word words.Changed ∷ name ∷ symbol symbols.FatArrow ∷ same Run ∷ []
-- States = "states" "[" { Id [ "when" Expr ] ":" "{" { Path ":" Value } "}" } "]"
slots states_item = word words.States ∷ symbol symbols.OpenBracket ∷ same StateList ∷ []
-- an element at an item's head: [ Id ":=" ] Id Body
slots element_item = name_but item_words ∷ deeper Body ∷ []
slots named_element_item = name_but item_words ∷ symbol symbols.ColonEqual ∷ name ∷ deeper Body ∷ []
slots if_item = word words.If ∷ deeper (Expr Anywhere) ∷ symbol symbols.Colon ∷ same Element ∷ []
slots for_item = word words.For ∷ name ∷ same RowNumber ∷ word words.In ∷ deeper (Expr Anywhere) ∷ symbol symbols.Colon ∷ same Element ∷ []
slots children_item = symbol symbols.At ∷ word words.Children ∷ []
slots no_row_number = []
slots row_number = symbol symbols.OpenBracket ∷ name ∷ symbol symbols.CloseBracket ∷ []
-- Element = [ Id ":=" ] Id Body
slots element = name ∷ deeper Body ∷ []
slots named_element = name ∷ symbol symbols.ColonEqual ∷ name ∷ deeper Body ∷ []
-- Prop = [ "private" | "in" | "out" | "in-out" ] "property"
-- ( "<" Type ">" Id ( ";" | ":" Value | "<=>" Path ";" )
-- | Id "<=>" Path ";" )
slots no_mark = word words.Property ∷ []
slots private_mark = word words.Private ∷ word words.Property ∷ []
slots in_mark = word words.In ∷ word words.Property ∷ []
slots out_mark = word words.Out ∷ word words.Property ∷ []
slots in_out_mark = word words.InOut ∷ word words.Property ∷ []
slots typed_property = same PropertyHead ∷ symbol symbols.Less ∷ deeper TypeName ∷ symbol symbols.Greater ∷ name ∷ same PropertyEnd ∷ []
slots untyped_property = same PropertyHead ∷ name ∷ symbol symbols.TwoWay ∷ same Path ∷ symbol symbols.Semicolon ∷ []
slots no_value = symbol symbols.Semicolon ∷ []
slots bound_value = symbol symbols.Colon ∷ same Value ∷ []
slots linked_value = symbol symbols.TwoWay ∷ same Path ∷ symbol symbols.Semicolon ∷ []
-- Callback = [ "pure" ] "callback" Id ( "<=>" Path ";"
-- | [ "(" [ Par { "," Par } [ "," ] ] ")" ] [ "->" Type ] ";" )
slots callback = same CallbackHead ∷ name ∷ same CallbackEnd ∷ []
slots impure_callback = word words.Callback ∷ []
slots pure_callback = word words.Pure ∷ word words.Callback ∷ []
slots linked_callback = symbol symbols.TwoWay ∷ same Path ∷ symbol symbols.Semicolon ∷ []
slots signature = same MayParameters ∷ same MayResult ∷ symbol symbols.Semicolon ∷ []
slots no_parameters = []
slots parameters = symbol symbols.OpenParen ∷ same (Listing Parameters) ∷ []
slots no_result = []
slots result = symbol symbols.ThinArrow ∷ deeper TypeName ∷ []
-- Par = [ Id ":" ] Type
slots named_parameter = name ∷ symbol symbols.Colon ∷ deeper TypeName ∷ []
slots nameless_parameter = deeper TypeName ∷ []
-- Function = Mods "function" Id "(" [ Id ":" Type { "," Id ":" Type } [ "," ] ] ")"
-- [ "->" Type ] Block
slots function = same Modifiers ∷ word words.Function ∷ name ∷ symbol symbols.OpenParen ∷ same (Listing FunctionParameters) ∷ same MayResult ∷ deeper Block ∷ []
-- Mods = [ "pure" ] [ "public" | "protected" ] | ( "public" | "protected" ) "pure"
slots no_modifier = []
slots pure_alone = word words.Pure ∷ []
slots public_alone = word words.Public ∷ []
slots protected_alone = word words.Protected ∷ []
slots pure_public = word words.Pure ∷ word words.Public ∷ []
slots pure_protected = word words.Pure ∷ word words.Protected ∷ []
slots public_pure = word words.Public ∷ word words.Pure ∷ []
slots protected_pure = word words.Protected ∷ word words.Pure ∷ []
-- Value = Block [ ";" ] | Expr ";"
slots block_value = deeper Block ∷ same MaySemicolon ∷ []
slots expr_value = deeper (Expr InValue) ∷ symbol symbols.Semicolon ∷ []
slots no_semicolon = []
slots semicolon = symbol symbols.Semicolon ∷ []
-- Handler = Id [ "(" [ Id { "," Id } [ "," ] ] ")" ] "=>" Run
slots handler = name_but item_words ∷ same MayNames ∷ symbol symbols.FatArrow ∷ same Run ∷ []
slots no_names = []
slots names = symbol symbols.OpenParen ∷ same (Listing HandlerParameters) ∷ []
-- Run = Block [ ";" ] | Expr ";"
slots block_run = deeper Block ∷ same MaySemicolon ∷ []
slots expr_run = deeper (Expr InRun) ∷ symbol symbols.Semicolon ∷ []
-- a list of states: { Id [ "when" Expr ] ":" "{" { Path ":" Value } "}" } "]"
slots states_close = symbol symbols.CloseBracket ∷ []
slots states_more = same State ∷ same StateList ∷ []
slots state = name ∷ same When ∷ symbol symbols.Colon ∷ symbol symbols.OpenBrace ∷ same Changes ∷ []
slots no_when = []
slots when = word words.When ∷ deeper (Expr Anywhere) ∷ []
slots changes_close = symbol symbols.CloseBrace ∷ []
slots changes_more = same Path ∷ symbol symbols.Colon ∷ same Value ∷ same Changes ∷ []
-- Path = Id { "." Id }
slots path = name ∷ same PathRest ∷ []
slots path_ends = []
slots path_more = symbol symbols.Dot ∷ name ∷ same PathRest ∷ []
-- Block = "{" { Stmt } "}"
slots block = symbol symbols.OpenBrace ∷ same (Stmts InStmt) ∷ []
slots (stmts_close {h}) = symbol symbols.CloseBrace ∷ []
-- Stmt = If | "return" [ Expr ] ";" | ";" | Expr [ ( "=" | "+=" | "-=" | "*=" | "/=" ) Expr ] ";"
-- the last one before the brace may leave its semicolon out, but where that is the whole statement
slots (stmts_if {h}) = same If ∷ same (Stmts BehindIf) ∷ []
slots (stmts_empty {h}) = symbol symbols.Semicolon ∷ same (Stmts InStmt) ∷ []
slots (stmts_more {h}) = same (Open h) ∷ same StmtEnd ∷ []
slots stmt_closed = symbol symbols.Semicolon ∷ same (Stmts InStmt) ∷ []
slots stmt_last = symbol symbols.CloseBrace ∷ []
slots (return_stmt {h}) = word words.Return ∷ same MayValue ∷ []
slots no_return_value = []
slots return_value = deeper (Expr Anywhere) ∷ []
slots (expr_stmt {h}) = deeper (Expr h) ∷ same MayAssign ∷ []
slots no_assign = []
slots assign = same AssignOp ∷ deeper (Expr Anywhere) ∷ []
slots plain_set = symbol symbols.Equal ∷ []
slots set_add = symbol symbols.PlusEqual ∷ []
slots set_sub = symbol symbols.MinusEqual ∷ []
slots set_mul = symbol symbols.StarEqual ∷ []
slots set_div = symbol symbols.SlashEqual ∷ []
-- If = "if" Expr Block [ "else" ( If | Block ) ]
slots an_if = word words.If ∷ deeper (Expr Anywhere) ∷ deeper Block ∷ same MayElse ∷ []
slots no_else = []
slots else_if = word words.Else ∷ deeper If ∷ []
slots else_block = word words.Else ∷ deeper Block ∷ []
-- Expr = Logic [ "?" Expr ":" Expr ]
slots (expr {h}) = same (Logic h) ∷ same MayChoice ∷ []
slots no_choice = []
slots choice = symbol symbols.Question ∷ deeper (Expr Anywhere) ∷ symbol symbols.Colon ∷ deeper (Expr Anywhere) ∷ []
-- Logic = Cmp { "&&" Cmp } | Cmp { "||" Cmp }
slots (logic {h}) = same (Cmp h) ∷ same LogicRest ∷ []
slots no_logic = []
slots logic_and = symbol symbols.AndAnd ∷ same (Cmp Anywhere) ∷ same Ands ∷ []
slots logic_or = symbol symbols.OrOr ∷ same (Cmp Anywhere) ∷ same Ors ∷ []
slots ands_end = []
slots ands_more = symbol symbols.AndAnd ∷ same (Cmp Anywhere) ∷ same Ands ∷ []
slots ors_end = []
slots ors_more = symbol symbols.OrOr ∷ same (Cmp Anywhere) ∷ same Ors ∷ []
-- Cmp = Sum [ ( "==" | "!=" | "<" | "<=" | ">" | ">=" ) Sum ]
slots (cmp {h}) = same (Sum h) ∷ same MayCompare ∷ []
slots no_compare = []
slots compare = same CompareOp ∷ same (Sum Anywhere) ∷ []
slots equal = symbol symbols.EqualEqual ∷ []
slots not_equal = symbol symbols.NotEqual ∷ []
slots less = symbol symbols.Less ∷ []
slots less_equal = symbol symbols.LessEqual ∷ []
slots greater = symbol symbols.Greater ∷ []
slots greater_equal = symbol symbols.GreaterEqual ∷ []
-- Sum = Prod { ( "+" | "-" ) Prod }
slots (sum {h}) = same (Prod h) ∷ same SumRest ∷ []
slots sum_ends = []
slots sum_more = same SumOp ∷ same (Prod Anywhere) ∷ same SumRest ∷ []
slots plus_sign = symbol symbols.Plus ∷ []
slots minus_sign = symbol symbols.Minus ∷ []
-- Prod = Unary { ( "*" | "/" ) Unary }
slots (prod {h}) = same (Unary h) ∷ same ProdRest ∷ []
slots prod_ends = []
slots prod_more = same ProdOp ∷ same (Unary Anywhere) ∷ same ProdRest ∷ []
slots star_sign = symbol symbols.Star ∷ []
slots slash_sign = symbol symbols.Slash ∷ []
-- Unary = ( "!" | "-" | "+" ) Unary | Post
slots (prefix {h}) = same PrefixOp ∷ deeper (Unary Anywhere) ∷ []
slots (post_alone {h}) = same (Post h) ∷ []
slots negation = symbol symbols.Bang ∷ []
slots minus = symbol symbols.Minus ∷ []
slots plus = symbol symbols.Plus ∷ []
-- Post = Prim { "." Id | "(" [ Args ] ")" | "[" Expr "]" }
slots (post {h}) = same (Prim h) ∷ same Suffixes ∷ []
slots no_suffix = []
slots suffix_more = same Suffix ∷ same Suffixes ∷ []
slots member = symbol symbols.Dot ∷ name ∷ []
slots call = symbol symbols.OpenParen ∷ same (Listing Arguments) ∷ []
slots index = symbol symbols.OpenBracket ∷ deeper (Expr Anywhere) ∷ symbol symbols.CloseBracket ∷ []
-- Prim = Number | Colour | String | Head Expr { Mid Expr } Tail | Id
-- | "(" Expr ")" | "[" [ Args ] "]"
-- | "{" [ Id ":" Expr { "," Id ":" Expr } [ "," ] ] "}"
-- | "@" "image-url" "(" String ")"
-- | "@" "tr" "(" [ String "=>" ] String { "," Expr } [ "," ] ")"
slots (number_literal {h}) = number ∷ []
slots (colour_literal {h}) = colour ∷ []
slots (text_literal {h}) = text ∷ []
slots (template {h}) = head ∷ deeper (Expr Anywhere) ∷ same Holes ∷ []
slots (name_alone {h}) = name_but (words_at h) ∷ []
slots (paren {h}) = symbol symbols.OpenParen ∷ deeper (Expr Anywhere) ∷ symbol symbols.CloseParen ∷ []
slots (array {h}) = symbol symbols.OpenBracket ∷ same (Listing Elements) ∷ []
slots (struct {h}) = symbol_where (begins_struct h) symbols.OpenBrace ∷ same (StructFields h) ∷ []
slots (no_fields {h}) = symbol_where (may_be_empty h) symbols.CloseBrace ∷ []
slots (some_fields {h}) = same FieldValue ∷ same (Rest FieldValues) ∷ []
slots (image_url {h}) = symbol symbols.At ∷ word words.ImageUrl ∷ symbol symbols.OpenParen ∷ text ∷ symbol symbols.CloseParen ∷ []
slots (tr {h}) = symbol symbols.At ∷ word words.Tr ∷ symbol symbols.OpenParen ∷ same TrText ∷ same (Rest Arguments) ∷ []
slots holes_end = tail ∷ []
slots holes_more = mid ∷ deeper (Expr Anywhere) ∷ same Holes ∷ []
slots tr_text = text ∷ []
slots tr_context = text ∷ symbol symbols.FatArrow ∷ text ∷ []
slots field_value = name ∷ symbol symbols.Colon ∷ deeper (Expr Anywhere) ∷ []
