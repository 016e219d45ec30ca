-- What is computed from the table of productions, part by part.
use Rattle.std.proofs.Common.{IsTrue, refl}
use Rattle.slint_grammar.specs.Parts.{Part, Listed, Start}
use Rattle.slint_grammar.specs.Parts as parts
use Rattle.slint_grammar.proofs.Terminals.{no}
use Rattle.slint_grammar.proofs.Heads.{deepest_head}
use Rattle.slint_grammar.proofs.Predicted.{stands, is_predicted, look_ahead}

listing_predicted : (x : Listed) → IsTrue (stands (parts.Listing x)) → IsTrue (is_predicted (parts.Listing x))
unfolding deepest_head look_ahead
listing_predicted parts.Aliases h = refl
listing_predicted _ h = refl

rest_predicted : (x : Listed) → IsTrue (stands (parts.Rest x)) → IsTrue (is_predicted (parts.Rest x))
unfolding deepest_head look_ahead
rest_predicted parts.Aliases h = refl
rest_predicted _ h = refl

stmts_predicted : (x : Start) → IsTrue (stands (parts.Stmts x)) → IsTrue (is_predicted (parts.Stmts x))
unfolding deepest_head look_ahead
stmts_predicted parts.Anywhere h = no h
stmts_predicted parts.InValue h = no h
stmts_predicted parts.InRun h = no h
stmts_predicted _ h = refl

open_predicted : (x : Start) → IsTrue (stands (parts.Open x)) → IsTrue (is_predicted (parts.Open x))
unfolding deepest_head look_ahead
open_predicted parts.Anywhere h = no h
open_predicted parts.InValue h = no h
open_predicted parts.InRun h = no h
open_predicted _ h = refl

expr_predicted : (x : Start) → IsTrue (stands (parts.Expr x)) → IsTrue (is_predicted (parts.Expr x))
unfolding deepest_head look_ahead
expr_predicted parts.Anywhere h = refl
expr_predicted _ h = refl

logic_predicted : (x : Start) → IsTrue (stands (parts.Logic x)) → IsTrue (is_predicted (parts.Logic x))
unfolding deepest_head look_ahead
logic_predicted parts.Anywhere h = refl
logic_predicted _ h = refl

cmp_predicted : (x : Start) → IsTrue (stands (parts.Cmp x)) → IsTrue (is_predicted (parts.Cmp x))
unfolding deepest_head look_ahead
cmp_predicted parts.Anywhere h = refl
cmp_predicted _ h = refl

sum_predicted : (x : Start) → IsTrue (stands (parts.Sum x)) → IsTrue (is_predicted (parts.Sum x))
unfolding deepest_head look_ahead
sum_predicted parts.Anywhere h = refl
sum_predicted _ h = refl

prod_predicted : (x : Start) → IsTrue (stands (parts.Prod x)) → IsTrue (is_predicted (parts.Prod x))
unfolding deepest_head look_ahead
prod_predicted parts.Anywhere h = refl
prod_predicted _ h = refl

unary_predicted : (x : Start) → IsTrue (stands (parts.Unary x)) → IsTrue (is_predicted (parts.Unary x))
unfolding deepest_head look_ahead
unary_predicted parts.Anywhere h = refl
unary_predicted _ h = refl

post_predicted : (x : Start) → IsTrue (stands (parts.Post x)) → IsTrue (is_predicted (parts.Post x))
unfolding deepest_head look_ahead
post_predicted parts.Anywhere h = refl
post_predicted _ h = refl

prim_predicted : (x : Start) → IsTrue (stands (parts.Prim x)) → IsTrue (is_predicted (parts.Prim x))
unfolding deepest_head look_ahead
prim_predicted parts.Anywhere h = refl
prim_predicted _ h = refl

struct_fields_predicted : (x : Start) → IsTrue (stands (parts.StructFields x)) → IsTrue (is_predicted (parts.StructFields x))
unfolding deepest_head look_ahead
struct_fields_predicted parts.Anywhere h = refl
struct_fields_predicted _ h = refl

-- each part that can stand in a file is predicted by three tokens, and its end by the token behind it
pub predicted : (p : Part) → IsTrue (stands p) → IsTrue (is_predicted p)
unfolding deepest_head look_ahead
predicted (parts.Listing x) h = listing_predicted x h
predicted (parts.Rest x) h = rest_predicted x h
predicted (parts.Stmts x) h = stmts_predicted x h
predicted (parts.Open x) h = open_predicted x h
predicted (parts.Expr x) h = expr_predicted x h
predicted (parts.Logic x) h = logic_predicted x h
predicted (parts.Cmp x) h = cmp_predicted x h
predicted (parts.Sum x) h = sum_predicted x h
predicted (parts.Prod x) h = prod_predicted x h
predicted (parts.Unary x) h = unary_predicted x h
predicted (parts.Post x) h = post_predicted x h
predicted (parts.Prim x) h = prim_predicted x h
predicted (parts.StructFields x) h = struct_fields_predicted x h
predicted _ h = refl
