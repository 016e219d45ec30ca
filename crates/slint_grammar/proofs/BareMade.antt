-- Each production makes the tree without its stretches of the trees of its places without theirs.
use Rattle.std.proofs.Common.{◌≡◌, Bool, true, false, IsTrue, List, [], ◌∷◌, map, Option, Some, None, refl, sym, ◌∙◌, ap, subst}
use Rattle.slint_base.specs.declared.faults.Span.{Span}
use Rattle.syntax_tree.specs.declared.expressions.BinaryOp.TheVariants as binary
use Rattle.syntax_tree.specs.declared.expressions.Expr.{Expr as TheExpr, fold_out-Expr, out-roll-Expr}
use Rattle.syntax_tree.specs.declared.expressions.Expr.TheVariants as exprs
use Rattle.syntax_tree.specs.declared.expressions.Expr.TheOpen.{Expr-F, Suffix-F}
use Rattle.syntax_tree.specs.declared.expressions.FieldValue.{FieldValue}
use Rattle.syntax_tree.specs.declared.expressions.Hole.{Hole}
use Rattle.syntax_tree.specs.declared.expressions.Operand.{Operand, out-Operand, fold_out-Operand}
use Rattle.syntax_tree.specs.declared.expressions.Suffix.{Suffix as TheSuffix, out-Suffix, out-roll-Suffix, fold_out-Suffix}
use Rattle.syntax_tree.specs.declared.statements.AssignOp.{AssignOp as TheAssignOp}
use Rattle.syntax_tree.specs.declared.statements.Block.{Block as TheBlock, fold_out-Block}
use Rattle.syntax_tree.specs.declared.statements.Else.{Else as TheElse, out-Else, roll-Else, roll-out-Else, out-roll-Else, fold-roll-Else}
use Rattle.syntax_tree.specs.declared.statements.Else.TheOpen.{Else-F}
use Rattle.syntax_tree.specs.declared.statements.Stmt.{Stmt as TheStmt}
use Rattle.syntax_tree.specs.declared.statements.Stmt.TheVariants as stmts
use Rattle.syntax_tree.specs.declared.statements.Value.TheVariants as values
use Rattle.syntax_tree.specs.declared.items.Item.TheVariants as items
use Rattle.syntax_tree.specs.Bare.{nowhere, in_some, bare_quoted, bare_expr_layer, bare_expr_step, bare_suffix_layer, bare_suffix_step, bare_field_value_step, bare_hole_step, bare_operand_step, bare_else_step, bare_stmt_step, bare_block_step, bare_expr, bare_suffix, bare_hole, bare_operand, bare_stmt, bare_block, bare_else}
use Rattle.syntax_tree.proofs.BareForms.{bare-block, bare-element, bare-else-else_block, bare-else-else_if, bare-else-nothing, bare-expr-array, bare-expr-chain, bare-expr-choice, bare-expr-colour, bare-expr-image_url, bare-expr-name, bare-expr-number, bare-expr-paren, bare-expr-postfix, bare-expr-prefix, bare-expr-struct, bare-expr-template, bare-expr-text, bare-expr-tr, bare-field, bare-field_value, bare-for, bare-hole, bare-if_element, bare-item-binding, bare-item-callback, bare-item-changed, bare-item-children, bare-item-element, bare-item-for, bare-item-function, bare-item-handler, bare-item-if, bare-item-link, bare-item-property, bare-item-states, bare-operand, bare-stmt-assign, bare-stmt-empty, bare-stmt-expr, bare-stmt-if, bare-stmt-return, bare-suffix-call, bare-suffix-index, bare-suffix-member, bare-type_name-array, bare-type_name-named, bare-type_name-struct}
use Rattle.slint_grammar.specs.Parts.{Listed, Rest, Listing, Aliases, MayChoice, MayAssign}
use Rattle.slint_grammar.specs.Grammar.{Alt, slots, item, same}
use Rattle.slint_grammar.specs.Grammar.{Alt as alts}
use Rattle.slint_grammar.specs.Trees as t
use Rattle.syntax_tree.specs.Spans.{ExprLayer, layer_span, expr_span}
use Rattle.slint_grammar.specs.Trees.{join, SuffixLayer, ElseLayer, suffix_layer_span, else_layer_span, block_span, behind_operands, behind_suffixes, if_span, chain, postfix, may_choose, return_of, assign_or_expr, if_element, for_element}
use Rattle.slint_grammar.specs.Made.{ItemTree, Given, item_tree, made}
use Rattle.slint_grammar.proofs.Terminals.{no}
use Rattle.slint_grammar.proofs.Spelled.{bare, bares}

layer_nowhere : (d : ExprLayer) → layer_span (bare_expr_layer d) ≡ nowhere
layer_nowhere (Expr-F.Paren e span) = refl
layer_nowhere _ = refl

bare_expr_span : (e : TheExpr) → expr_span (bare_expr e) ≡ nowhere
bare_expr_span e = ap expr_span (fold_out-Expr TheExpr TheSuffix FieldValue Hole Operand bare_expr_step bare_suffix_step bare_field_value_step bare_hole_step bare_operand_step e) ∙ ap layer_span (out-roll-Expr _) ∙ layer_nowhere _

suffix_nowhere : (d : SuffixLayer) → suffix_layer_span (bare_suffix_layer d) ≡ nowhere
suffix_nowhere (Suffix-F.Member ident) = refl
suffix_nowhere _ = refl

bare_suffix_span : (x : TheSuffix) → suffix_layer_span (out-Suffix (bare_suffix x)) ≡ nowhere
bare_suffix_span x = ap (λ y. suffix_layer_span (out-Suffix y)) (fold_out-Suffix TheExpr TheSuffix FieldValue Hole Operand bare_expr_step bare_suffix_step bare_field_value_step bare_hole_step bare_operand_step x) ∙ ap suffix_layer_span (out-roll-Suffix _) ∙ suffix_nowhere _

bare_block_span : (b : TheBlock) → block_span (bare_block b) ≡ nowhere
bare_block_span b = ap block_span (fold_out-Block TheElse TheStmt TheBlock bare_else_step bare_stmt_step bare_block_step b)

bare_operand_span : (o : Operand) → expr_span (out-Operand (bare_operand o)).right ≡ nowhere
bare_operand_span o = ap (λ y. expr_span (out-Operand y).right) (fold_out-Operand TheExpr TheSuffix FieldValue Hole Operand bare_expr_step bare_suffix_step bare_field_value_step bare_hole_step bare_operand_step o) ∙ bare_expr_span (out-Operand o).right

bare_behind_operands : (os : List Operand) (s : Span) → s ≡ nowhere → behind_operands s (map bare_operand os) ≡ nowhere
bare_behind_operands [] s e = e
bare_behind_operands (o ∷ os) s e = bare_behind_operands os _ (bare_operand_span o)

bare_behind_suffixes : (xs : List TheSuffix) (s : Span) → s ≡ nowhere → behind_suffixes s (map bare_suffix xs) ≡ nowhere
bare_behind_suffixes [] s e = e
bare_behind_suffixes (x ∷ xs) s e = bare_behind_suffixes xs _ (bare_suffix_span x)

bare_else_span : (s : Span) → s ≡ nowhere → (d : ElseLayer) → else_layer_span s (out-Else (bare_else (roll-Else d))) ≡ nowhere
bare_else_span s e Else-F.Nothing = ap (λ y. else_layer_span s (out-Else y)) (fold-roll-Else TheElse TheStmt TheBlock bare_else_step bare_stmt_step bare_block_step Else-F.Nothing)
    ∙ ap (else_layer_span s) (out-roll-Else Else-F.Nothing) ∙ e
bare_else_span s e (Else-F.ElseIf c b o i) = ap (λ y. else_layer_span s (out-Else y)) (fold-roll-Else TheElse TheStmt TheBlock bare_else_step bare_stmt_step bare_block_step (Else-F.ElseIf c b o i))
    ∙ ap (else_layer_span s) (out-roll-Else (Else-F.ElseIf (bare_expr c) (bare_block b) (bare_else o) nowhere))
bare_else_span s e (Else-F.ElseBlock b) = ap (λ y. else_layer_span s (out-Else y)) (fold-roll-Else TheElse TheStmt TheBlock bare_else_step bare_stmt_step bare_block_step (Else-F.ElseBlock b))
    ∙ ap (else_layer_span s) (out-roll-Else (Else-F.ElseBlock (bare_block b))) ∙ bare_block_span b

joined_nowhere : (a b : Span) → a ≡ nowhere → b ≡ nowhere → nowhere ≡ join a b
joined_nowhere a b e f = sym (ap (λ z. join z b) e ∙ ap (join nowhere) f)

bare_chained : (e : TheExpr) (os : List Operand) → bare_expr (chain e os) ≡ chain (bare_expr e) (map bare_operand os)
bare_chained e [] = refl
bare_chained e (o ∷ os) = bare-expr-chain e (o ∷ os) _ ∙ ap (exprs.Chain (bare_expr e) (map bare_operand (o ∷ os))) (joined_nowhere _ _ (bare_expr_span e) (bare_behind_operands (o ∷ os) _ (bare_expr_span e)))

bare_postfixed : (e : TheExpr) (xs : List TheSuffix) → bare_expr (postfix e xs) ≡ postfix (bare_expr e) (map bare_suffix xs)
bare_postfixed e [] = refl
bare_postfixed e (x ∷ xs) = bare-expr-postfix e (x ∷ xs) _ ∙ ap (exprs.Postfix (bare_expr e) (map bare_suffix (x ∷ xs))) (joined_nowhere _ _ (bare_expr_span e) (bare_behind_suffixes (x ∷ xs) _ (bare_expr_span e)))

bare_chosen : (e : TheExpr) (b : Option (TheExpr × TheExpr)) → bare_expr (may_choose e b) ≡ may_choose (bare_expr e) (bare MayChoice b)
bare_chosen e None = refl
bare_chosen e (Some b) = bare-expr-choice e b.0 b.1 _ ∙ ap (exprs.Choice (bare_expr e) (bare_expr b.0) (bare_expr b.1)) (joined_nowhere _ _ (bare_expr_span e) (bare_expr_span b.1))

bare_returned : (word : Span) (value : Option TheExpr) → bare_stmt (return_of word value) ≡ return_of nowhere (in_some bare_expr value)
bare_returned word None = bare-stmt-return None word
bare_returned word (Some e) = bare-stmt-return (Some e) _ ∙ ap (stmts.Return (Some (bare_expr e))) (joined_nowhere _ _ refl (bare_expr_span e))

bare_assigned : (e : TheExpr) (right : Option (TheAssignOp × TheExpr)) → bare_stmt (assign_or_expr e right) ≡ assign_or_expr (bare_expr e) (bare MayAssign right)
bare_assigned e None = bare-stmt-expr e
bare_assigned e (Some right) = bare-stmt-assign e right.0 right.1 _ ∙ ap (stmts.Assign (bare_expr e) right.0 (bare_expr right.1)) (joined_nowhere _ _ (bare_expr_span e) (bare_expr_span right.1))

bare_if_span : (b : TheBlock) (o : TheElse) → if_span nowhere (bare_block b) (bare_else o) ≡ nowhere
bare_if_span b o = sym (joined_nowhere nowhere _ refl (subst (λ z. else_layer_span (block_span (bare_block b)) (out-Else (bare_else z)) ≡ nowhere) (roll-out-Else o) (bare_else_span _ (bare_block_span b) (out-Else o))))

bare_item_made : (l : Listed) (a : Given (item l)) (b : List (ItemTree l) × Span) → bare (Listing l) (item_tree l a ∷ b.0, b.1) ≡ made (alts.listing_item {l = l}) (bares (item l ∷ same (Rest l) ∷ []) (a, (b, tt)))
bare_item_made Aliases a b = refl
bare_item_made _ a b = refl

-- of these a tree keeps all but stretches
abbrev pub is_made : {p : _} → Alt p → Bool
is_made alts.semicolon = false
is_made _ = true

pub bare_made : {p : _} (a : Alt p) → IsTrue (is_made a) → (g : _) → bare p (made a g) ≡ made a (bares (slots a) g)
bare_made alts.no_more_items h end = refl
bare_made alts.file_items h (a, (b, end)) = refl
bare_made alts.import_item h (s0, (a, (b, (s3, end)))) = refl
bare_made alts.import_all h end = refl
bare_made alts.import_names h (s0, (a, (s2, end))) = refl
bare_made alts.export_list h (s0, (s1, (a, (b, end)))) = refl
bare_made alts.export_all h (s0, (s1, (s2, (a, (s4, end))))) = refl
bare_made alts.declared h (a, end) = refl
bare_made alts.exported h (s0, (a, end)) = refl
bare_made alts.alias h (a, (b, end)) = refl
bare_made alts.same_name h end = refl
bare_made alts.new_name h (s0, (a, end)) = refl
bare_made alts.component h (s0, (a, (b, (c, end)))) = refl
bare_made alts.no_base h end = refl
bare_made alts.base h (s0, (a, end)) = refl
bare_made alts.global h (s0, (a, (b, end))) = refl
bare_made alts.struct_decl h (s0, (a, (s2, (b, end)))) = refl
bare_made alts.enum_decl h (s0, (a, (s2, (b, (c, end))))) = refl
bare_made alts.listing_closes h (s0, end) = refl
bare_made (alts.listing_item {l}) h (a, (b, end)) = bare_item_made l a b
bare_made alts.rest_closes h (s0, end) = refl
bare_made alts.rest_comma h (s0, (a, end)) = refl
bare_made alts.listed_name h (a, end) = refl
bare_made alts.field h (a, (s1, (b, end))) = bare-field a b
bare_made alts.named_type h (a, end) = bare-type_name-named a
bare_made alts.array_type h (s0, (a, (s2, end))) = bare-type_name-array a (join s0 s2)
bare_made alts.struct_type h (s0, (a, end)) = bare-type_name-struct a.0 (join s0 a.1)
bare_made alts.body h (s0, (a, end)) = refl
bare_made alts.items_close h (s0, end) = refl
bare_made alts.items_more h (a, (b, end)) = refl
bare_made alts.global_body h (s0, (a, end)) = refl
bare_made alts.global_closes h (s0, end) = refl
bare_made alts.global_more h (a, (b, end)) = refl
bare_made alts.global_property h (a, end) = bare-item-property a
bare_made alts.global_callback h (a, end) = bare-item-callback a
bare_made alts.global_function h (a, end) = bare-item-function a
bare_made alts.global_handler h (a, end) = bare-item-handler a
bare_made alts.property_item h (a, end) = bare-item-property a
bare_made alts.callback_item h (a, end) = bare-item-callback a
bare_made alts.function_item h (a, end) = bare-item-function a
bare_made alts.binding_item h (a, (s1, (b, end))) = bare-item-binding (record { name = a; value = b.0 })
bare_made alts.link_item h (a, (s1, (b, (s3, end)))) = bare-item-link (record { left = a; right = b; span = join a.span s3 })
bare_made alts.handler_item h (a, end) = bare-item-handler a
bare_made alts.changed_item h (s0, (a, (s2, (b, end)))) = bare-item-changed (record { name = a; run = b.0 })
bare_made alts.states_item h (s0, (s1, (a, end))) = bare-item-states (record { states = a; word = s0 })
bare_made alts.element_item h (a, (b, end)) = bare-item-element (t.element None a b) ∙ ap items.Element (bare-element None a b)
bare_made alts.named_element_item h (a, (s1, (b, (c, end)))) = bare-item-element (t.element (Some a) b c) ∙ ap items.Element (bare-element (Some a) b c)
bare_made alts.if_item h (s0, (a, (s2, (b, end)))) = bare-item-if (if_element a b s0) ∙ ap items.If (bare-if_element a b s0)
bare_made alts.for_item h (s0, (a, (b, (s3, (c, (s5, (d, end))))))) = bare-item-for (for_element a b c d s0) ∙ ap items.For (bare-for a b c d s0)
bare_made alts.children_item h (s0, (s1, end)) = bare-item-children (join s0 s1)
bare_made alts.no_row_number h end = refl
bare_made alts.row_number h (s0, (a, (s2, end))) = refl
bare_made alts.element h (a, (b, end)) = bare-element None a b
bare_made alts.named_element h (a, (s1, (b, (c, end)))) = bare-element (Some a) b c
bare_made alts.no_mark h (s0, end) = refl
bare_made alts.private_mark h (s0, (s1, end)) = refl
bare_made alts.in_mark h (s0, (s1, end)) = refl
bare_made alts.out_mark h (s0, (s1, end)) = refl
bare_made alts.in_out_mark h (s0, (s1, end)) = refl
bare_made alts.typed_property h (a, (s1, (b, (s3, (c, (d, end)))))) = refl
bare_made alts.untyped_property h (a, (b, (s2, (c, (s4, end))))) = refl
bare_made alts.no_value h (s0, end) = refl
bare_made alts.bound_value h (s0, (a, end)) = refl
bare_made alts.linked_value h (s0, (a, (s2, end))) = refl
bare_made alts.callback h (a, (b, (c, end))) = refl
bare_made alts.impure_callback h (s0, end) = refl
bare_made alts.pure_callback h (s0, (s1, end)) = refl
bare_made alts.linked_callback h (s0, (a, (s2, end))) = refl
bare_made alts.signature h (a, (b, (s2, end))) = refl
bare_made alts.no_parameters h end = refl
bare_made alts.parameters h (s0, (a, end)) = refl
bare_made alts.no_result h end = refl
bare_made alts.result h (s0, (a, end)) = refl
bare_made alts.named_parameter h (a, (s1, (b, end))) = refl
bare_made alts.nameless_parameter h (a, end) = refl
bare_made alts.function h (a, (s1, (b, (s3, (c, (d, (e, end))))))) = refl
bare_made alts.no_modifier h end = refl
bare_made alts.pure_alone h (s0, end) = refl
bare_made alts.public_alone h (s0, end) = refl
bare_made alts.protected_alone h (s0, end) = refl
bare_made alts.pure_public h (s0, (s1, end)) = refl
bare_made alts.pure_protected h (s0, (s1, end)) = refl
bare_made alts.public_pure h (s0, (s1, end)) = refl
bare_made alts.protected_pure h (s0, (s1, end)) = refl
bare_made alts.block_value h (a, (b, end)) = ap (λ s. (values.Block (bare_block a), s)) (sym (bare_block_span a))
bare_made alts.expr_value h (a, (s1, end)) = refl
bare_made alts.no_semicolon h end = refl
bare_made alts.semicolon h g = no h
bare_made alts.handler h (a, (b, (s2, (c, end)))) = refl
bare_made alts.no_names h end = refl
bare_made alts.names h (s0, (a, end)) = refl
bare_made alts.block_run h (a, (b, end)) = ap (λ s. (values.Block (bare_block a), s)) (sym (bare_block_span a))
bare_made alts.expr_run h (a, (s1, end)) = refl
bare_made alts.states_close h (s0, end) = refl
bare_made alts.states_more h (a, (b, end)) = refl
bare_made alts.state h (a, (b, (s2, (s3, (c, end))))) = refl
bare_made alts.no_when h end = refl
bare_made alts.when h (s0, (a, end)) = refl
bare_made alts.changes_close h (s0, end) = refl
bare_made alts.changes_more h (a, (s1, (b, (c, end)))) = refl
bare_made alts.path h (a, (b, end)) = refl
bare_made alts.path_ends h end = refl
bare_made alts.path_more h (s0, (a, (b, end))) = refl
bare_made alts.block h (s0, (a, end)) = bare-block a.0 (join s0 a.1)
bare_made alts.stmts_close h (s0, end) = refl
bare_made alts.stmts_if h (a, (b, end)) = ap (λ z. (z ∷ map bare_stmt b.0, nowhere)) (bare-stmt-if a.0 a.1 a.2 a.3)
bare_made alts.stmts_empty h (s0, (a, end)) = ap (λ z. (z ∷ map bare_stmt a.0, nowhere)) (bare-stmt-empty s0)
bare_made alts.stmts_more h (a, (b, end)) = refl
bare_made alts.stmt_closed h (s0, (a, end)) = refl
bare_made alts.stmt_last h (s0, end) = refl
bare_made alts.return_stmt h (s0, (a, end)) = bare_returned s0 a
bare_made alts.no_return_value h end = refl
bare_made alts.return_value h (a, end) = refl
bare_made alts.expr_stmt h (a, (b, end)) = bare_assigned a b
bare_made alts.no_assign h end = refl
bare_made alts.assign h (a, (b, end)) = refl
bare_made alts.plain_set h (s0, end) = refl
bare_made alts.set_add h (s0, end) = refl
bare_made alts.set_sub h (s0, end) = refl
bare_made alts.set_mul h (s0, end) = refl
bare_made alts.set_div h (s0, end) = refl
bare_made alts.an_if h (s0, (a, (b, (c, end)))) = ap (λ s. (bare_expr a, bare_block b, bare_else c, s)) (sym (bare_if_span b c))
bare_made alts.no_else h end = bare-else-nothing
bare_made alts.else_if h (s0, (a, end)) = bare-else-else_if a.0 a.1 a.2 a.3
bare_made alts.else_block h (s0, (a, end)) = bare-else-else_block a
bare_made alts.expr h (a, (b, end)) = bare_chosen a b
bare_made alts.no_choice h end = refl
bare_made alts.choice h (s0, (a, (s2, (b, end)))) = refl
bare_made alts.logic h (a, (b, end)) = bare_chained a b
bare_made alts.no_logic h end = refl
bare_made alts.logic_and h (s0, (a, (b, end))) = ap (λ z. z ∷ map bare_operand b) (bare-operand binary.And a)
bare_made alts.logic_or h (s0, (a, (b, end))) = ap (λ z. z ∷ map bare_operand b) (bare-operand binary.Or a)
bare_made alts.ands_end h end = refl
bare_made alts.ands_more h (s0, (a, (b, end))) = ap (λ z. z ∷ map bare_operand b) (bare-operand binary.And a)
bare_made alts.ors_end h end = refl
bare_made alts.ors_more h (s0, (a, (b, end))) = ap (λ z. z ∷ map bare_operand b) (bare-operand binary.Or a)
bare_made alts.cmp h (a, (b, end)) = bare_chained a b
bare_made alts.no_compare h end = refl
bare_made alts.compare h (a, (b, end)) = ap (λ z. z ∷ []) (bare-operand a b)
bare_made alts.equal h (s0, end) = refl
bare_made alts.not_equal h (s0, end) = refl
bare_made alts.less h (s0, end) = refl
bare_made alts.less_equal h (s0, end) = refl
bare_made alts.greater h (s0, end) = refl
bare_made alts.greater_equal h (s0, end) = refl
bare_made alts.sum h (a, (b, end)) = bare_chained a b
bare_made alts.sum_ends h end = refl
bare_made alts.sum_more h (a, (b, (c, end))) = ap (λ z. z ∷ map bare_operand c) (bare-operand a b)
bare_made alts.plus_sign h (s0, end) = refl
bare_made alts.minus_sign h (s0, end) = refl
bare_made alts.prod h (a, (b, end)) = bare_chained a b
bare_made alts.prod_ends h end = refl
bare_made alts.prod_more h (a, (b, (c, end))) = ap (λ z. z ∷ map bare_operand c) (bare-operand a b)
bare_made alts.star_sign h (s0, end) = refl
bare_made alts.slash_sign h (s0, end) = refl
bare_made alts.prefix h (a, (b, end)) = bare-expr-prefix a.0 b (join a.1 (expr_span b)) ∙ ap (λ s. exprs.Prefix a.0 (bare_expr b) (join nowhere s)) (sym (bare_expr_span b))
bare_made alts.post_alone h (a, end) = refl
bare_made alts.negation h (s0, end) = refl
bare_made alts.minus h (s0, end) = refl
bare_made alts.plus h (s0, end) = refl
bare_made alts.post h (a, (b, end)) = bare_postfixed a b
bare_made alts.no_suffix h end = refl
bare_made alts.suffix_more h (a, (b, end)) = refl
bare_made alts.member h (s0, (a, end)) = bare-suffix-member a
bare_made alts.call h (s0, (a, end)) = bare-suffix-call a.0 (join s0 a.1)
bare_made alts.index h (s0, (a, (s2, end))) = bare-suffix-index a (join s0 s2)
bare_made alts.number_literal h (a, end) = bare-expr-number a.0 a.1
bare_made alts.colour_literal h (a, end) = bare-expr-colour a.0 a.1
bare_made alts.text_literal h (a, end) = bare-expr-text a.text a.span
bare_made alts.template h (a, (b, (c, end))) = bare-expr-template a.text (t.hole b c.0 ∷ c.1) (join a.span c.2) ∙ ap (λ h. exprs.Template a.text (h ∷ map bare_hole c.1) nowhere) (bare-hole b c.0.text)
bare_made alts.name_alone h (a, end) = bare-expr-name a a.span
bare_made alts.paren h (s0, (a, (s2, end))) = bare-expr-paren a (join s0 s2)
bare_made alts.array h (s0, (a, end)) = bare-expr-array a.0 (join s0 a.1)
bare_made alts.struct h (s0, (a, end)) = bare-expr-struct a.0 (join s0 a.1)
bare_made alts.no_fields h (s0, end) = refl
bare_made alts.some_fields h (a, (b, end)) = refl
bare_made alts.image_url h (s0, (s1, (s2, (a, (s4, end))))) = bare-expr-image_url a (join s0 s4)
bare_made alts.tr h (s0, (s1, (s2, (a, (b, end))))) = bare-expr-tr a.0 a.1 b.0 (join s0 b.1)
bare_made alts.holes_end h (a, end) = refl
bare_made alts.holes_more h (a, (b, (c, end))) = ap (λ h. (bare_quoted a, h ∷ map bare_hole c.1, nowhere)) (bare-hole b c.0.text)
bare_made alts.tr_text h (a, end) = refl
bare_made alts.tr_context h (a, (s1, (b, end))) = refl
bare_made alts.field_value h (a, (s1, (b, end))) = bare-field_value a b
