-- The tokens of each production's tree are those of its places, but for the productions of which a tree forgets something.
use Rattle.std.proofs.Common.{◌≡◌, Bool, true, false, IsTrue, List, [], ◌∷◌, ◌++◌, map, Option, Some, None, refl, sym, ◌∙◌, ap, append_assoc}
use Rattle.std.proofs.lemmas.List.{append-nil}
use Rattle.slint_base.specs.declared.faults.Span.{Span}
use Rattle.slint_lexer.specs.declared.tokens.Symbol.TheVariants as symbols
use Rattle.slint_lexer.specs.declared.tokens.TokenKind.{TokenKind}
use Rattle.slint_lexer.specs.declared.tokens.TokenKind.TheVariants as kinds
use Rattle.syntax_tree.specs.declared.expressions.BinaryOp.TheVariants as binary
use Rattle.syntax_tree.specs.declared.expressions.Expr.{Expr as TheExpr}
use Rattle.syntax_tree.specs.declared.expressions.Operand.{Operand}
use Rattle.syntax_tree.specs.declared.expressions.Suffix.{Suffix as TheSuffix}
use Rattle.syntax_tree.specs.declared.statements.AssignOp.{AssignOp as TheAssignOp}
use Rattle.syntax_tree.specs.Printed.{Kinds, sign, in_order, if_some, with_commas, behind_hole, tokens_of_expr, tokens_of_hole, tokens_of_operand, tokens_of_suffix, tokens_of_stmt}
use Rattle.syntax_tree.proofs.PrintedForms.{tokens-block, tokens-element, tokens-else-else_block, tokens-else-else_if, tokens-else-nothing, tokens-expr-array, tokens-expr-chain, tokens-expr-choice, tokens-expr-colour, tokens-expr-image_url, tokens-expr-name, tokens-expr-number, tokens-expr-paren, tokens-expr-postfix, tokens-expr-prefix, tokens-expr-struct, tokens-expr-template, tokens-expr-text, tokens-expr-tr, tokens-field, tokens-field_value, tokens-for, tokens-hole, tokens-if_element, tokens-item-binding, tokens-item-callback, tokens-item-changed, tokens-item-children, tokens-item-element, tokens-item-for, tokens-item-function, tokens-item-handler, tokens-item-if, tokens-item-link, tokens-item-property, tokens-item-states, tokens-operand, tokens-stmt-assign, tokens-stmt-empty, tokens-stmt-expr, tokens-stmt-if, tokens-stmt-return, tokens-suffix-call, tokens-suffix-index, tokens-suffix-member, tokens-type_name-array, tokens-type_name-named, tokens-type_name-struct}
use Rattle.slint_grammar.specs.Parts.{Listed, closer, Rest, MayAssign, MayChoice, Aliases}
use Rattle.slint_grammar.specs.declared.words.Word.TheVariants as words
use Rattle.slint_grammar.specs.Grammar.{Alt, slots, item, same}
use Rattle.slint_grammar.specs.Grammar.{Alt as alts}
use Rattle.slint_grammar.specs.Trees as t
use Rattle.syntax_tree.specs.Spans.{expr_span}
use Rattle.slint_grammar.specs.Trees.{join, chain, postfix, may_choose, return_of, assign_or_expr, if_element, for_element}
use Rattle.slint_grammar.specs.Made.{ItemTree, Given, item_tree, made}
use Rattle.slint_grammar.specs.Derivations.{spelling}
use Rattle.slint_grammar.proofs.Terminals.{no}
use Rattle.slint_grammar.proofs.Spelled.{item_tokens, all_but_last, spell, spells}

pub but_last : (xs : Kinds) (k : TokenKind) → all_but_last (xs ++ (k ∷ [])) ≡ xs
but_last [] k = refl
but_last (x ∷ []) k = refl
but_last (x ∷ y ∷ ys) k = ap (λ z. x ∷ z) (but_last (y ∷ ys) k)

-- an expression with what may stand behind it
chained : (e : TheExpr) (os : List Operand) → tokens_of_expr (chain e os) ≡ tokens_of_expr e ++ in_order (map tokens_of_operand os)
chained e [] = sym (append-nil (tokens_of_expr e))
chained e (o ∷ os) = tokens-expr-chain e (o ∷ os) _

postfixed : (e : TheExpr) (xs : List TheSuffix) → tokens_of_expr (postfix e xs) ≡ tokens_of_expr e ++ in_order (map tokens_of_suffix xs)
postfixed e [] = sym (append-nil (tokens_of_expr e))
postfixed e (x ∷ xs) = tokens-expr-postfix e (x ∷ xs) _

chosen : (e : TheExpr) (b : Option (TheExpr × TheExpr)) → tokens_of_expr (may_choose e b) ≡ tokens_of_expr e ++ spell MayChoice b
chosen e None = sym (append-nil (tokens_of_expr e))
chosen e (Some b) = tokens-expr-choice e b.0 b.1 _

-- a statement with its semicolon
pub returned : (word : Span) (value : Option TheExpr) → tokens_of_stmt (return_of word value) ≡ (kinds.Id (spelling words.Return) ∷ if_some tokens_of_expr value) ++ sign symbols.Semicolon
returned word None = tokens-stmt-return None word
returned word (Some e) = tokens-stmt-return (Some e) _

pub assigned : (e : TheExpr) (right : Option (TheAssignOp × TheExpr)) → tokens_of_stmt (assign_or_expr e right) ≡ (tokens_of_expr e ++ spell MayAssign right) ++ sign symbols.Semicolon
assigned e None = tokens-stmt-expr e ∙ sym (ap (λ z. z ++ sign symbols.Semicolon) (append-nil (tokens_of_expr e)))
assigned e (Some right) = tokens-stmt-assign e right.0 right.1 _

listed_item : (l : Listed) (a : Given (item l)) (b : List (ItemTree l) × Span) → with_commas (closer l) (map (item_tokens l) (item_tree l a ∷ b.0)) ≡ spells (item l ∷ same (Rest l) ∷ []) (a, (b, tt))
listed_item Aliases a b = simp append-nil
listed_item _ a b = simp append-nil

-- the productions whose trees keep all of their tokens
abbrev pub is_kept : {p : _} → Alt p → Bool
is_kept alts.semicolon = false
is_kept alts.rest_comma = false
is_kept alts.public_pure = false
is_kept alts.protected_pure = false
is_kept alts.stmt_last = false
is_kept alts.stmts_more = false
is_kept _ = true

pub spelled : {p : _} (a : Alt p) → IsTrue (is_kept a) → (g : _) → spell p (made a g) ≡ spells (slots a) g
spelled alts.no_more_items h end = refl
spelled alts.file_items h (a, (b, end)) = simp append-nil
spelled alts.import_item h (s0, (a, (b, (s3, end)))) = refl
spelled alts.import_all h end = refl
spelled alts.import_names h (s0, (a, (s2, end))) = refl
spelled alts.export_list h (s0, (s1, (a, (b, end)))) = simp append-nil
spelled alts.export_all h (s0, (s1, (s2, (a, (s4, end))))) = refl
spelled alts.declared h (a, end) = simp append-nil
spelled alts.exported h (s0, (a, end)) = simp append-nil
spelled alts.alias h (a, (b, end)) = simp append-nil
spelled alts.same_name h end = refl
spelled alts.new_name h (s0, (a, end)) = refl
spelled alts.component h (s0, (a, (b, (c, end)))) = simp (append_assoc, append-nil)
spelled alts.no_base h end = refl
spelled alts.base h (s0, (a, end)) = refl
spelled alts.global h (s0, (a, (b, end))) = simp (append_assoc, append-nil)
spelled alts.struct_decl h (s0, (a, (s2, (b, end)))) = simp append-nil
spelled alts.enum_decl h (s0, (a, (s2, (b, (c, end))))) = simp append-nil
spelled alts.listing_closes h (s0, end) = refl
spelled (alts.listing_item {l}) h (a, (b, end)) = listed_item l a b
spelled alts.rest_closes h (s0, end) = refl
spelled alts.listed_name h (a, end) = refl
spelled alts.field h (a, (s1, (b, end))) = tokens-field a b ∙ simp append-nil
spelled alts.named_type h (a, end) = tokens-type_name-named a
spelled alts.array_type h (s0, (a, (s2, end))) = tokens-type_name-array a (join s0 s2)
spelled alts.struct_type h (s0, (a, end)) = tokens-type_name-struct a.0 (join s0 a.1) ∙ simp append-nil
spelled alts.body h (s0, (a, end)) = simp (append_assoc, append-nil)
spelled alts.items_close h (s0, end) = refl
spelled alts.items_more h (a, (b, end)) = simp (append_assoc, append-nil)
spelled alts.global_body h (s0, (a, end)) = simp (append_assoc, append-nil)
spelled alts.global_closes h (s0, end) = refl
spelled alts.global_more h (a, (b, end)) = simp (append_assoc, append-nil)
spelled alts.global_property h (a, end) = tokens-item-property a ∙ simp (append_assoc, append-nil)
spelled alts.global_callback h (a, end) = tokens-item-callback a ∙ simp (append_assoc, append-nil)
spelled alts.global_function h (a, end) = tokens-item-function a ∙ simp (append_assoc, append-nil)
spelled alts.global_handler h (a, end) = tokens-item-handler a ∙ simp (append_assoc, append-nil)
spelled alts.property_item h (a, end) = tokens-item-property a ∙ simp (append_assoc, append-nil)
spelled alts.callback_item h (a, end) = tokens-item-callback a ∙ simp (append_assoc, append-nil)
spelled alts.function_item h (a, end) = tokens-item-function a ∙ simp (append_assoc, append-nil)
spelled alts.binding_item h (a, (s1, (b, end))) = tokens-item-binding (record { name = a; value = b.0 }) ∙ simp append-nil
spelled alts.link_item h (a, (s1, (b, (s3, end)))) = tokens-item-link (record { left = a; right = b; span = join a.span s3 })
spelled alts.handler_item h (a, end) = tokens-item-handler a ∙ simp (append_assoc, append-nil)
spelled alts.changed_item h (s0, (a, (s2, (b, end)))) = tokens-item-changed (record { name = a; run = b.0 }) ∙ simp append-nil
spelled alts.states_item h (s0, (s1, (a, end))) = tokens-item-states (record { states = a; word = s0 }) ∙ simp (append_assoc, append-nil)
spelled alts.element_item h (a, (b, end)) = tokens-item-element (t.element None a b) ∙ tokens-element None a b ∙ simp (append_assoc, append-nil)
spelled alts.named_element_item h (a, (s1, (b, (c, end)))) = tokens-item-element (t.element (Some a) b c) ∙ tokens-element (Some a) b c ∙ simp (append_assoc, append-nil)
spelled alts.if_item h (s0, (a, (s2, (b, end)))) = tokens-item-if (if_element a b s0) ∙ tokens-if_element a b s0 ∙ simp append-nil
spelled alts.for_item h (s0, (a, (b, (s3, (c, (s5, (d, end))))))) = tokens-item-for (for_element a b c d s0) ∙ tokens-for a b c d s0 ∙ simp append-nil
spelled alts.children_item h (s0, (s1, end)) = tokens-item-children (join s0 s1)
spelled alts.no_row_number h end = refl
spelled alts.row_number h (s0, (a, (s2, end))) = refl
spelled alts.element h (a, (b, end)) = tokens-element None a b ∙ simp (append_assoc, append-nil)
spelled alts.named_element h (a, (s1, (b, (c, end)))) = tokens-element (Some a) b c ∙ simp (append_assoc, append-nil)
spelled alts.no_mark h (s0, end) = refl
spelled alts.private_mark h (s0, (s1, end)) = refl
spelled alts.in_mark h (s0, (s1, end)) = refl
spelled alts.out_mark h (s0, (s1, end)) = refl
spelled alts.in_out_mark h (s0, (s1, end)) = refl
spelled alts.typed_property h (a, (s1, (b, (s3, (c, (d, end)))))) = simp (append_assoc, append-nil)
spelled alts.untyped_property h (a, (b, (s2, (c, (s4, end))))) = refl
spelled alts.no_value h (s0, end) = refl
spelled alts.bound_value h (s0, (a, end)) = simp append-nil
spelled alts.linked_value h (s0, (a, (s2, end))) = refl
spelled alts.callback h (a, (b, (c, end))) = simp (append_assoc, append-nil)
spelled alts.impure_callback h (s0, end) = refl
spelled alts.pure_callback h (s0, (s1, end)) = refl
spelled alts.linked_callback h (s0, (a, (s2, end))) = refl
spelled alts.signature h (a, (b, (s2, end))) = refl
spelled alts.no_parameters h end = refl
spelled alts.parameters h (s0, (a, end)) = simp append-nil
spelled alts.no_result h end = refl
spelled alts.result h (s0, (a, end)) = simp append-nil
spelled alts.named_parameter h (a, (s1, (b, end))) = simp append-nil
spelled alts.nameless_parameter h (a, end) = simp append-nil
spelled alts.function h (a, (s1, (b, (s3, (c, (d, (e, end))))))) = simp (append_assoc, append-nil)
spelled alts.no_modifier h end = refl
spelled alts.pure_alone h (s0, end) = refl
spelled alts.public_alone h (s0, end) = refl
spelled alts.protected_alone h (s0, end) = refl
spelled alts.pure_public h (s0, (s1, end)) = refl
spelled alts.pure_protected h (s0, (s1, end)) = refl
spelled alts.block_value h (a, (b, end)) = simp append-nil
spelled alts.expr_value h (a, (s1, end)) = refl
spelled alts.no_semicolon h end = refl
spelled alts.handler h (a, (b, (s2, (c, end)))) = simp append-nil
spelled alts.no_names h end = refl
spelled alts.names h (s0, (a, end)) = simp append-nil
spelled alts.block_run h (a, (b, end)) = simp append-nil
spelled alts.expr_run h (a, (s1, end)) = refl
spelled alts.states_close h (s0, end) = refl
spelled alts.states_more h (a, (b, end)) = simp (append_assoc, append-nil)
spelled alts.state h (a, (b, (s2, (s3, (c, end))))) = simp (append_assoc, append-nil)
spelled alts.no_when h end = refl
spelled alts.when h (s0, (a, end)) = simp append-nil
spelled alts.changes_close h (s0, end) = refl
spelled alts.changes_more h (a, (s1, (b, (c, end)))) = simp (append_assoc, append-nil)
spelled alts.path h (a, (b, end)) = simp append-nil
spelled alts.path_ends h end = refl
spelled alts.path_more h (s0, (a, (b, end))) = simp append-nil
spelled alts.block h (s0, (a, end)) = tokens-block a.0 (join s0 a.1) ∙ simp (append_assoc, append-nil)
spelled alts.stmts_close h (s0, end) = refl
spelled alts.stmts_if h (a, (b, end)) = ap (λ z. (z ++ in_order (map tokens_of_stmt b.0)) ++ sign symbols.CloseBrace) (tokens-stmt-if a.0 a.1 a.2 a.3) ∙ simp (append_assoc, append-nil)
spelled alts.stmts_empty h (s0, (a, end)) = ap (λ z. (z ++ in_order (map tokens_of_stmt a.0)) ++ sign symbols.CloseBrace) (tokens-stmt-empty s0) ∙ simp (append_assoc, append-nil)
spelled alts.stmt_closed h (s0, (a, end)) = simp (append_assoc, append-nil)
spelled alts.return_stmt h (s0, (a, end)) = ap all_but_last (returned s0 a) ∙ but_last (kinds.Id (spelling words.Return) ∷ if_some tokens_of_expr a) (kinds.Symbol symbols.Semicolon) ∙ simp append-nil
spelled alts.no_return_value h end = refl
spelled alts.return_value h (a, end) = simp append-nil
spelled alts.expr_stmt h (a, (b, end)) = ap all_but_last (assigned a b) ∙ but_last (tokens_of_expr a ++ spell MayAssign b) (kinds.Symbol symbols.Semicolon) ∙ simp append-nil
spelled alts.no_assign h end = refl
spelled alts.assign h (a, (b, end)) = simp append-nil
spelled alts.plain_set h (s0, end) = refl
spelled alts.set_add h (s0, end) = refl
spelled alts.set_sub h (s0, end) = refl
spelled alts.set_mul h (s0, end) = refl
spelled alts.set_div h (s0, end) = refl
spelled alts.an_if h (s0, (a, (b, (c, end)))) = simp append-nil
spelled alts.no_else h end = tokens-else-nothing
spelled alts.else_if h (s0, (a, end)) = tokens-else-else_if a.0 a.1 a.2 a.3 ∙ simp (append_assoc, append-nil)
spelled alts.else_block h (s0, (a, end)) = tokens-else-else_block a ∙ simp append-nil
spelled alts.expr h (a, (b, end)) = chosen a b ∙ simp append-nil
spelled alts.no_choice h end = refl
spelled alts.choice h (s0, (a, (s2, (b, end)))) = simp append-nil
spelled alts.logic h (a, (b, end)) = chained a b ∙ simp append-nil
spelled alts.no_logic h end = refl
spelled alts.logic_and h (s0, (a, (b, end))) = ap (λ z. z ++ in_order (map tokens_of_operand b)) (tokens-operand binary.And a) ∙ simp append-nil
spelled alts.logic_or h (s0, (a, (b, end))) = ap (λ z. z ++ in_order (map tokens_of_operand b)) (tokens-operand binary.Or a) ∙ simp append-nil
spelled alts.ands_end h end = refl
spelled alts.ands_more h (s0, (a, (b, end))) = ap (λ z. z ++ in_order (map tokens_of_operand b)) (tokens-operand binary.And a) ∙ simp append-nil
spelled alts.ors_end h end = refl
spelled alts.ors_more h (s0, (a, (b, end))) = ap (λ z. z ++ in_order (map tokens_of_operand b)) (tokens-operand binary.Or a) ∙ simp append-nil
spelled alts.cmp h (a, (b, end)) = chained a b ∙ simp append-nil
spelled alts.no_compare h end = refl
spelled alts.compare h (a, (b, end)) = ap (λ z. z ++ []) (tokens-operand a b) ∙ simp append-nil
spelled alts.equal h (s0, end) = refl
spelled alts.not_equal h (s0, end) = refl
spelled alts.less h (s0, end) = refl
spelled alts.less_equal h (s0, end) = refl
spelled alts.greater h (s0, end) = refl
spelled alts.greater_equal h (s0, end) = refl
spelled alts.sum h (a, (b, end)) = chained a b ∙ simp append-nil
spelled alts.sum_ends h end = refl
spelled alts.sum_more h (a, (b, (c, end))) = ap (λ z. z ++ in_order (map tokens_of_operand c)) (tokens-operand a b) ∙ simp append-nil
spelled alts.plus_sign h (s0, end) = refl
spelled alts.minus_sign h (s0, end) = refl
spelled alts.prod h (a, (b, end)) = chained a b ∙ simp append-nil
spelled alts.prod_ends h end = refl
spelled alts.prod_more h (a, (b, (c, end))) = ap (λ z. z ++ in_order (map tokens_of_operand c)) (tokens-operand a b) ∙ simp append-nil
spelled alts.star_sign h (s0, end) = refl
spelled alts.slash_sign h (s0, end) = refl
spelled alts.prefix h (a, (b, end)) = tokens-expr-prefix a.0 b (join a.1 (expr_span b)) ∙ simp append-nil
spelled alts.post_alone h (a, end) = simp append-nil
spelled alts.negation h (s0, end) = refl
spelled alts.minus h (s0, end) = refl
spelled alts.plus h (s0, end) = refl
spelled alts.post h (a, (b, end)) = postfixed a b ∙ simp append-nil
spelled alts.no_suffix h end = refl
spelled alts.suffix_more h (a, (b, end)) = simp append-nil
spelled alts.member h (s0, (a, end)) = tokens-suffix-member a
spelled alts.call h (s0, (a, end)) = tokens-suffix-call a.0 (join s0 a.1) ∙ simp append-nil
spelled alts.index h (s0, (a, (s2, end))) = tokens-suffix-index a (join s0 s2)
spelled alts.number_literal h (a, end) = tokens-expr-number a.0 a.1
spelled alts.colour_literal h (a, end) = tokens-expr-colour a.0 a.1
spelled alts.text_literal h (a, end) = tokens-expr-text a.text a.span
spelled alts.template h (a, (b, (c, end))) = tokens-expr-template a.text (t.hole b c.0 ∷ c.1) (join a.span c.2) ∙ ap (λ h. kinds.Head a.text ∷ (h.0 ++ behind_hole h.1 (map tokens_of_hole c.1))) (tokens-hole b c.0.text) ∙ simp append-nil
spelled alts.name_alone h (a, end) = tokens-expr-name a a.span
spelled alts.paren h (s0, (a, (s2, end))) = tokens-expr-paren a (join s0 s2)
spelled alts.array h (s0, (a, end)) = tokens-expr-array a.0 (join s0 a.1) ∙ simp append-nil
spelled alts.struct h (s0, (a, end)) = tokens-expr-struct a.0 (join s0 a.1) ∙ simp append-nil
spelled alts.no_fields h (s0, end) = refl
spelled alts.some_fields h (a, (b, end)) = simp append-nil
spelled alts.image_url h (s0, (s1, (s2, (a, (s4, end))))) = tokens-expr-image_url a (join s0 s4)
spelled alts.tr h (s0, (s1, (s2, (a, (b, end))))) = tokens-expr-tr a.0 a.1 b.0 (join s0 b.1) ∙ simp (append_assoc, append-nil)
spelled alts.holes_end h (a, end) = refl
spelled alts.holes_more h (a, (b, (c, end))) = ap (λ h. kinds.Mid a.text ∷ (h.0 ++ behind_hole h.1 (map tokens_of_hole c.1))) (tokens-hole b c.0.text) ∙ simp append-nil
spelled alts.tr_text h (a, end) = refl
spelled alts.tr_context h (a, (s1, (b, end))) = refl
spelled alts.field_value h (a, (s1, (b, end))) = tokens-field_value a b ∙ simp append-nil
spelled alts.semicolon h g = no h
spelled alts.rest_comma h g = no h
spelled alts.public_pure h g = no h
spelled alts.protected_pure h g = no h
spelled alts.stmt_last h g = no h
spelled alts.stmts_more h g = no h
