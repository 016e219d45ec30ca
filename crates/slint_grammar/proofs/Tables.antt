-- What is finite about the table of productions, computed production by production and part by part.
use Rattle.std.proofs.Common.{◌≡◌, ℕ, Bool, true, false, cond, ◌&&◌, ◌||◌, not, List, [], ◌∷◌, nat_lt, refl, codes, inl, inr, true≢false, sym, subst}
use Rattle.slint_lexer.specs.declared.tokens.TokenKind.{TokenKind}
use Rattle.slint_lexer.specs.declared.tokens.TokenKind.TheVariants as kinds
use Rattle.slint_literals.specs.declared.numbers.Number.TheVariants as numbers
use Rattle.slint_grammar.specs.Parts.{Listed, Part, closer, FileItems, FileItem, ImportNames, Alias, NewName, Decl, Base, Listing, Rest, Name, Field, TypeName, Body, Items, GlobalBody, GlobalItems, GlobalItem, Item, RowNumber, Element, PropertyHead, Property, PropertyEnd, Callback, CallbackHead, CallbackEnd, MayParameters, MayResult, Parameter, Function, Modifiers, Value, MaySemicolon, Handler, MayNames, Run, StateList, State, When, Changes, Path, PathRest, Block, Stmts, StmtEnd, Open, MayValue, MayAssign, AssignOp, If, MayElse, Expr, MayChoice, Logic, LogicRest, Ands, Ors, Cmp, MayCompare, CompareOp, Sum, SumRest, SumOp, Prod, ProdRest, ProdOp, Unary, PrefixOp, Post, Suffixes, Suffix, Prim, StructFields, Holes, TrText, FieldValue, Aliases}
use Rattle.slint_grammar.specs.Grammar.{Terminal, Sign, SignWhere, TheWord, AnyName, NameBut, ANumber, AColour, AText, AHead, AMid, ATail, Slot, one, same, deeper, Alt, slots, item, symbol}
use Rattle.slint_grammar.specs.Grammar.{Alt as alts}
use Rattle.slint_grammar.specs.Derivations.{class_of, fits, spelling}
use Rattle.slint_grammar.specs.Stacks.{alts_of, nullable, nullable_slot, longest_chain}
use Rattle.slint_grammar.proofs.Members.{IsMember, listed}
use Rattle.slint_grammar.proofs.Sets.{OneOf}

-- ---- the list of a part's productions has each of them

one_at : {A : Type 0} (P : A → Type 0) (x : A) (xs : List A) → IsMember x xs → P x → OneOf P xs
one_at P x [] m y = absurd m
one_at P x (z ∷ xs) (inl e) y = inl (subst P e y)
one_at P x (z ∷ xs) (inr m) y = inr (one_at P x xs m y)

pub each_listed : {p : Part} (a : Alt p) (P : Alt p → Type 0) → P a → OneOf P (alts_of p)
each_listed {p} a P x = one_at P a (alts_of p) (listed a) x

-- ---- no token

abbrev pub all_nullable : List Slot → Bool
all_nullable [] = true
all_nullable (x ∷ xs) = nullable_slot x && all_nullable xs

pub item_takes_a_token : (l : Listed) → nullable_slot (item l) ≡ false
item_takes_a_token Aliases = refl
item_takes_a_token _ = refl

pub nullable_by : {p : Part} (a : Alt p) → (not (all_nullable (slots a)) || nullable p) ≡ true
nullable_by alts.no_more_items = refl
nullable_by (alts.listing_item {l}) = of_item (nullable_slot (item l)) (item_takes_a_token l)
  where
    of_item : (b : Bool) → b ≡ false → (not (b && (false && true)) || false) ≡ true
    of_item false e = refl
    of_item true e = refl
nullable_by _ = refl

pub empty_alt : (p : Part) → nullable p ≡ true → (a : Alt p) × (slots a ≡ [])
empty_alt FileItems n = (alts.no_more_items, refl)
empty_alt ImportNames n = (alts.import_all, refl)
empty_alt NewName n = (alts.same_name, refl)
empty_alt Base n = (alts.no_base, refl)
empty_alt RowNumber n = (alts.no_row_number, refl)
empty_alt MayParameters n = (alts.no_parameters, refl)
empty_alt MayResult n = (alts.no_result, refl)
empty_alt Modifiers n = (alts.no_modifier, refl)
empty_alt MaySemicolon n = (alts.no_semicolon, refl)
empty_alt MayNames n = (alts.no_names, refl)
empty_alt When n = (alts.no_when, refl)
empty_alt PathRest n = (alts.path_ends, refl)
empty_alt MayValue n = (alts.no_return_value, refl)
empty_alt MayAssign n = (alts.no_assign, refl)
empty_alt MayElse n = (alts.no_else, refl)
empty_alt MayChoice n = (alts.no_choice, refl)
empty_alt LogicRest n = (alts.no_logic, refl)
empty_alt Ands n = (alts.ands_end, refl)
empty_alt Ors n = (alts.ors_end, refl)
empty_alt MayCompare n = (alts.no_compare, refl)
empty_alt SumRest n = (alts.sum_ends, refl)
empty_alt ProdRest n = (alts.prod_ends, refl)
empty_alt Suffixes n = (alts.no_suffix, refl)
empty_alt _ n = absurd (true≢false (sym n))

-- ---- chains of first parts

-- longer than the longest chain of parts that begin one another under this one
abbrev pub rank : Part → ℕ
rank FileItems = 3
rank FileItem = 2
rank ImportNames = 1
rank Alias = 1
rank NewName = 1
rank Decl = 1
rank Base = 1
rank (Listing l) = 9
rank (Rest l) = 1
rank Name = 1
rank Field = 1
rank TypeName = 1
rank Body = 1
rank Items = 4
rank GlobalBody = 1
rank GlobalItems = 4
rank GlobalItem = 3
rank Item = 3
rank RowNumber = 1
rank Element = 1
rank PropertyHead = 1
rank Property = 2
rank PropertyEnd = 1
rank Callback = 2
rank CallbackHead = 1
rank CallbackEnd = 2
rank MayParameters = 1
rank MayResult = 1
rank Parameter = 2
rank Function = 2
rank Modifiers = 1
rank Value = 9
rank MaySemicolon = 1
rank Handler = 1
rank MayNames = 1
rank Run = 9
rank StateList = 2
rank State = 1
rank When = 1
rank Changes = 2
rank Path = 1
rank PathRest = 1
rank Block = 1
rank (Stmts h) = 10
rank StmtEnd = 1
rank (Open h) = 9
rank MayValue = 9
rank MayAssign = 2
rank AssignOp = 1
rank If = 1
rank MayElse = 1
rank (Expr h) = 8
rank MayChoice = 1
rank (Logic h) = 7
rank LogicRest = 1
rank Ands = 1
rank Ors = 1
rank (Cmp h) = 6
rank MayCompare = 2
rank CompareOp = 1
rank (Sum h) = 5
rank SumRest = 2
rank SumOp = 1
rank (Prod h) = 4
rank ProdRest = 2
rank ProdOp = 1
rank (Unary h) = 3
rank PrefixOp = 1
rank (Post h) = 2
rank Suffixes = 2
rank Suffix = 1
rank (Prim h) = 1
rank (StructFields h) = 2
rank Holes = 1
rank TrText = 1
rank FieldValue = 1

abbrev pub rank_of : Slot → ℕ
rank_of (one t) = 0
rank_of (same p) = rank p
rank_of (deeper p) = rank p

-- the places of a right side that can begin it have lower ranks
abbrev pub leads_below : ℕ → List Slot → Bool
leads_below n [] = true
leads_below n (x ∷ xs) = nat_lt (rank_of x) n && cond (nullable_slot x) (leads_below n xs) true

by_item : (l : Listed) → leads_below (rank (Listing l)) (item l ∷ same (Rest l) ∷ []) ≡ true
by_item Aliases = refl
by_item _ = refl

pub ranked : {p : Part} (a : Alt p) → leads_below (rank p) (slots a) ≡ true
ranked alts.no_more_items = refl
ranked (alts.listing_item {l}) = by_item l
ranked _ = refl

pub rank-below : (p : Part) → nat_lt (rank p) longest_chain ≡ true
rank-below FileItems = refl
rank-below _ = refl

-- ---- each part derives something

-- a token that is what it is asked to be
abbrev pub kind_for : Terminal → TokenKind
kind_for (Sign s) = kinds.Symbol s
kind_for (SignWhere b s) = kinds.Symbol s
kind_for (TheWord w) = kinds.Id (spelling w)
kind_for AnyName = kinds.Id (codes "x")
kind_for (NameBut ws) = kinds.Id (codes "x")
kind_for ANumber = kinds.Number numbers.Zero
kind_for AColour = kinds.Colour 0
kind_for AText = kinds.Str []
kind_for AHead = kinds.Head []
kind_for AMid = kinds.Mid []
kind_for ATail = kinds.Tail []

-- whether there is one
abbrev pub can_be : Slot → Bool
can_be (one t) = fits t (class_of (kind_for t))
can_be (same p) = true
can_be (deeper p) = true

abbrev pub all_can_be : List Slot → Bool
all_can_be [] = true
all_can_be (x ∷ xs) = can_be x && all_can_be xs

-- a least production, and the height of what it derives
abbrev pub least : (p : Part) → Alt p
least FileItems = alts.no_more_items
least FileItem = alts.export_all
least ImportNames = alts.import_all
least Alias = alts.alias
least NewName = alts.same_name
least Decl = alts.struct_decl
least Base = alts.no_base
least (Listing l) = alts.listing_closes
least (Rest l) = alts.rest_closes
least Name = alts.listed_name
least Field = alts.field
least TypeName = alts.named_type
least Body = alts.body
least Items = alts.items_close
least GlobalBody = alts.global_body
least GlobalItems = alts.global_closes
least GlobalItem = alts.global_property
least Item = alts.children_item
least RowNumber = alts.no_row_number
least Element = alts.element
least PropertyHead = alts.no_mark
least Property = alts.typed_property
least PropertyEnd = alts.no_value
least Callback = alts.callback
least CallbackHead = alts.impure_callback
least CallbackEnd = alts.signature
least MayParameters = alts.no_parameters
least MayResult = alts.no_result
least Parameter = alts.named_parameter
least Function = alts.function
least Modifiers = alts.no_modifier
least Value = alts.block_value
least MaySemicolon = alts.no_semicolon
least Handler = alts.handler
least MayNames = alts.no_names
least Run = alts.block_run
least StateList = alts.states_close
least State = alts.state
least When = alts.no_when
least Changes = alts.changes_close
least Path = alts.path
least PathRest = alts.path_ends
least Block = alts.block
least (Stmts h) = alts.stmts_close
least StmtEnd = alts.stmt_last
least (Open h) = alts.return_stmt
least MayValue = alts.no_return_value
least MayAssign = alts.no_assign
least AssignOp = alts.plain_set
least If = alts.an_if
least MayElse = alts.no_else
least (Expr h) = alts.expr
least MayChoice = alts.no_choice
least (Logic h) = alts.logic
least LogicRest = alts.no_logic
least Ands = alts.ands_end
least Ors = alts.ors_end
least (Cmp h) = alts.cmp
least MayCompare = alts.no_compare
least CompareOp = alts.equal
least (Sum h) = alts.sum
least SumRest = alts.sum_ends
least SumOp = alts.plus_sign
least (Prod h) = alts.prod
least ProdRest = alts.prod_ends
least ProdOp = alts.star_sign
least (Unary h) = alts.post_alone
least PrefixOp = alts.negation
least (Post h) = alts.post
least Suffixes = alts.no_suffix
least Suffix = alts.member
least (Prim h) = alts.number_literal
least (StructFields h) = alts.some_fields
least Holes = alts.holes_end
least TrText = alts.tr_text
least FieldValue = alts.field_value

abbrev pub height : Part → ℕ
height FileItems = 1
height FileItem = 1
height ImportNames = 1
height Alias = 2
height NewName = 1
height Decl = 2
height Base = 1
height (Listing l) = 1
height (Rest l) = 1
height Name = 1
height Field = 2
height TypeName = 1
height Body = 2
height Items = 1
height GlobalBody = 2
height GlobalItems = 1
height GlobalItem = 3
height Item = 1
height RowNumber = 1
height Element = 3
height PropertyHead = 1
height Property = 2
height PropertyEnd = 1
height Callback = 3
height CallbackHead = 1
height CallbackEnd = 2
height MayParameters = 1
height MayResult = 1
height Parameter = 2
height Function = 3
height Modifiers = 1
height Value = 3
height MaySemicolon = 1
height Handler = 4
height MayNames = 1
height Run = 3
height StateList = 1
height State = 2
height When = 1
height Changes = 1
height Path = 2
height PathRest = 1
height Block = 2
height (Stmts h) = 1
height StmtEnd = 1
height (Open h) = 2
height MayValue = 1
height MayAssign = 1
height AssignOp = 1
height If = 9
height MayElse = 1
height (Expr h) = 8
height MayChoice = 1
height (Logic h) = 7
height LogicRest = 1
height Ands = 1
height Ors = 1
height (Cmp h) = 6
height MayCompare = 1
height CompareOp = 1
height (Sum h) = 5
height SumRest = 1
height SumOp = 1
height (Prod h) = 4
height ProdRest = 1
height ProdOp = 1
height (Unary h) = 3
height PrefixOp = 1
height (Post h) = 2
height Suffixes = 1
height Suffix = 1
height (Prim h) = 1
height (StructFields h) = 10
height Holes = 1
height TrText = 1
height FieldValue = 9

abbrev pub height_of : Slot → ℕ
height_of (one t) = 0
height_of (same p) = height p
height_of (deeper p) = height p

abbrev pub all_below : ℕ → List Slot → Bool
all_below n [] = true
all_below n (x ∷ xs) = (nat_lt (height_of x) n && can_be x) && all_below n xs

by_closer : (l : Listed) → all_below 1 (symbol (closer l) ∷ []) ≡ true
by_closer Aliases = refl
by_closer _ = refl

pub least_below : (p : Part) → all_below (height p) (slots (least p)) ≡ true
least_below FileItems = refl
least_below (Listing l) = by_closer l
least_below (Rest l) = by_closer l
least_below _ = refl

-- ---- behind the first place of a right side nothing is asked that no token is

abbrev pub behind_first : List Slot → List Slot
behind_first [] = []
behind_first (x ∷ xs) = xs

pub tails_can_be : {p : Part} (a : Alt p) → all_can_be (behind_first (slots a)) ≡ true
tails_can_be alts.no_more_items = refl
tails_can_be _ = refl
