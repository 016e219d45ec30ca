-- The parts of the written grammar: its left sides, and each bracket or repetition of a right side under a name of its own.
use Rattle.std.specs.Prelude.{Bool, true, false, List, [], ◌∷◌}
use Rattle.slint_lexer.specs.declared.tokens.Symbol.{Symbol}
use Rattle.slint_lexer.specs.declared.tokens.Symbol.TheVariants as symbols
use Rattle.slint_grammar.specs.declared.words.Word.{Word}
use Rattle.slint_grammar.specs.declared.words.Word.TheVariants as words

-- the lists with commas between, whose last comma may stand too
pub data Listed : Type 0 where
  Aliases : Listed
  Fields : Listed
  EnumValues : Listed
  Parameters : Listed
  FunctionParameters : Listed
  HandlerParameters : Listed
  Arguments : Listed
  Elements : Listed
  FieldValues : Listed

-- the symbol that closes each of them
abbrev pub closer : Listed → Symbol
closer Aliases = symbols.CloseBrace
closer Fields = symbols.CloseBrace
closer EnumValues = symbols.CloseBrace
closer Parameters = symbols.CloseParen
closer FunctionParameters = symbols.CloseParen
closer HandlerParameters = symbols.CloseParen
closer Arguments = symbols.CloseParen
closer Elements = symbols.CloseBracket
closer FieldValues = symbols.CloseBrace

-- the place at which an expression begins, which bears on its first token alone: a value that begins with a brace is a struct literal
-- exactly where a name and a colon follow, else a block; what a handler runs is a block where it begins with a brace; at
-- the head of a statement `if` and `return` are words, and behind an `if` statement `else` is one too
pub data Start : Type 0 where
  Anywhere : Start
  InValue : Start
  InRun : Start
  InStmt : Start
  BehindIf : Start

-- the names that can't begin an expression there
abbrev pub words_at : Start → List Word
words_at Anywhere = []
words_at InValue = []
words_at InRun = []
words_at InStmt = words.If ∷ words.Return ∷ []
words_at BehindIf = words.If ∷ words.Return ∷ words.Else ∷ []

-- whether a struct literal can begin an expression there
abbrev pub begins_struct : Start → Bool
begins_struct Anywhere = true
begins_struct InValue = true
begins_struct InRun = false
begins_struct InStmt = true
begins_struct BehindIf = true

-- whether one without fields can
abbrev pub may_be_empty : Start → Bool
may_be_empty Anywhere = true
may_be_empty InValue = false
may_be_empty InRun = false
may_be_empty InStmt = true
may_be_empty BehindIf = true

-- the names that are always words at the head of an item of a body
abbrev pub item_words : List Word
item_words = words.Private ∷ words.In ∷ words.Out ∷ words.InOut ∷ words.Property ∷ words.Pure ∷ words.Callback ∷ words.Public ∷ words.Protected ∷ words.Function ∷ words.Changed ∷ words.States ∷ words.If ∷ words.For ∷ []

pub data Part : Type 0 where
  FileItems : Part
  FileItem : Part
  ImportNames : Part
  Alias : Part
  NewName : Part
  Decl : Part
  Base : Part
  Listing : Listed → Part
  Rest : Listed → Part
  Name : Part
  Field : Part
  TypeName : Part
  Body : Part
  Items : Part
  GlobalBody : Part
  GlobalItems : Part
  GlobalItem : Part
  Item : Part
  RowNumber : Part
  Element : Part
  PropertyHead : Part
  Property : Part
  PropertyEnd : Part
  Callback : Part
  CallbackHead : Part
  CallbackEnd : Part
  MayParameters : Part
  MayResult : Part
  Parameter : Part
  Function : Part
  Modifiers : Part
  Value : Part
  MaySemicolon : Part
  Handler : Part
  MayNames : Part
  Run : Part
  StateList : Part
  State : Part
  When : Part
  Changes : Part
  Path : Part
  PathRest : Part
  Block : Part
  Stmts : Start → Part
  StmtEnd : Part
  Open : Start → Part
  MayValue : Part
  MayAssign : Part
  AssignOp : Part
  If : Part
  MayElse : Part
  Expr : Start → Part
  MayChoice : Part
  Logic : Start → Part
  LogicRest : Part
  Ands : Part
  Ors : Part
  Cmp : Start → Part
  MayCompare : Part
  CompareOp : Part
  Sum : Start → Part
  SumRest : Part
  SumOp : Part
  Prod : Start → Part
  ProdRest : Part
  ProdOp : Part
  Unary : Start → Part
  PrefixOp : Part
  Post : Start → Part
  Suffixes : Part
  Suffix : Part
  Prim : Start → Part
  StructFields : Start → Part
  Holes : Part
  TrText : Part
  FieldValue : Part
