-- Which productions read blocks and statements, and what is read.
use Rattle.std.proofs.Common.{◌≡◌, ℕ, ◌+◌, ◌≤◌, ◌<◌, ◌⊎◌, inl, inr, Bool, true, false, cond, List, [], ◌∷◌, ◌++◌, length, map, drop, nat_le, sym, refl, ap, ◌∙◌, subst, append-nil, append_assoc, arith}
use Rattle.std.specs.Prelude.{Option, Some, None, Result, Ok, Err}
use Rattle.std.specs.Result.{IsErrAnd}
use Rattle.slint_base.specs.declared.faults.Span.{Span}
use Rattle.slint_base.specs.declared.endings.End.{End}
use Rattle.slint_lexer.specs.declared.tokens.Symbol.{Symbol}
use Rattle.slint_lexer.specs.declared.tokens.Symbol.TheVariants as symbols
use Rattle.slint_lexer.specs.declared.tokens.Token.{Token}
use Rattle.syntax_tree.specs.declared.expressions.Expr.{Expr}
use Rattle.syntax_tree.specs.declared.statements.AssignOp.{AssignOp}
use Rattle.syntax_tree.specs.declared.statements.Block.{Block}
use Rattle.syntax_tree.specs.declared.statements.Else.{Else}
use Rattle.syntax_tree.specs.declared.statements.Else.TheVariants as elses
use Rattle.syntax_tree.specs.declared.statements.Stmt.{Stmt}
use Rattle.syntax_tree.specs.declared.statements.Stmt.TheVariants as stmts
use Rattle.slint_grammar.specs.declared.words.Word.TheVariants as words
use Rattle.slint_parser.specs.declared.stops.Stop.{Stop}
use Rattle.slint_parser.specs.declared.stops.Seen.{Seen}
use Rattle.slint_parser.specs.declared.stops.Seen.TheVariants as seens
use Rattle.slint_parser.specs.declared.statements.Behind.{Behind}
use Rattle.slint_parser.specs.declared.statements.Behind.TheVariants as behinds
use Rattle.slint_grammar.specs.Parts as parts
use Rattle.slint_grammar.specs.Parts.{Part}
use Rattle.slint_grammar.specs.Grammar.{Sign, TheWord, one, same, deeper, slots}
use Rattle.slint_grammar.specs.Grammar.{Alt as alts}
use Rattle.slint_grammar.specs.Made.{Tree, made}
use Rattle.syntax_tree.specs.Spans.{expr_span}
use Rattle.slint_grammar.specs.Trees as trees
use Rattle.slint_grammar.specs.Derivations.{Class, ASign, AWord, class_of, is_sign, is_word, deepest_token, by, ends, takes, part, deep, tree}
use Rattle.slint_parser.specs.Readings.{at, seen, seen_of, expr_classes, assign_classes, Refuses, Fits, TookOne, StuckOne, Took, Stuck, StuckAll, TookBy, Closes}
use Rattle.slint_grammar.specs.Stacks.{Stack, onto, through, first, longest_chain, after, afters, run}
use Rattle.slint_parser.specs.Statements.{head_of, TookBefore, StuckBefore, ReadsBefore, ReadsStmtEnd, StmtThen, ReadsStmt, assign_sign}
use Rattle.slint_parser.proofs.Signs.{not_sign, not_word, took_sign_seen}
use Rattle.slint_grammar.proofs.Steps.{Lost}
use Rattle.slint_parser.proofs.Joining as joining
use Rattle.slint_parser.proofs.Joining.{Chosen, chosen_at, chosen_alone, chosen_first, chosen_second, chosen_took, chosen_stuck, took_by, end_all, and_one, and_same, and_deep, at_one, at_same, at_deep, past_one, past_same, past_deep, no_lead, alike, alike_at, by_alt, seen_same, seen_not_end, refuses_all}
use Rattle.slint_parser.proofs.Lists.{closes_none}
use Rattle.slint_parser.proofs.Shorter.{no_longer, shorter, taken_shorter}
use Rattle.slint_parser.proofs.Among.{chosen_among}
use Rattle.slint_parser.proofs.Forks.{tagged, fork, part_none, no_part, runs_among}

pub chosen_block : (d : ℕ) (s : List Token) → Chosen alts.block d s
chosen_block d s = chosen_alone alts.block d s refl refl (λ ps g. (tt, tt))

-- ---- the head of a statement

closing_same : (b : Bool) (d : ℕ) (ps : Stack) → after (ASign symbols.CloseBrace) ((same (parts.Stmts (head_of b)), d) ∷ ps) true ≡ after (ASign symbols.CloseBrace) ((one (Sign symbols.CloseBrace), d) ∷ ps) true
closing_same true d ps = refl
closing_same false d ps = refl

chosen_close : (b : Bool) (d : ℕ) (s : List Token) → seen s ≡ seens.Symbol symbols.CloseBrace → Chosen (alts.stmts_close {h = head_of b}) d s
chosen_close b d s e = chosen_at (alts.stmts_close {h = head_of b}) d s (ASign symbols.CloseBrace) e (λ ps g. closing_same b d ps) (λ ps g. tt)

if_same : (b : Bool) (d : ℕ) (ps : Stack) → after (AWord words.If) ((same (parts.Stmts (head_of b)), d) ∷ ps) true ≡ after (AWord words.If) ((same parts.If, d) ∷ (same (parts.Stmts parts.BehindIf), d) ∷ ps) true
if_same true d ps = refl
if_same false d ps = refl

chosen_if_stmt : (b : Bool) (d : ℕ) (s : List Token) → seen s ≡ seens.Word words.If → Chosen (alts.stmts_if {h = head_of b}) d s
chosen_if_stmt b d s e = chosen_at (alts.stmts_if {h = head_of b}) d s (AWord words.If) e (λ ps g. if_same b d ps) (λ ps g. ((refl, tt), (tt, tt)))

empty_same : (b : Bool) (d : ℕ) (ps : Stack) → after (ASign symbols.Semicolon) ((same (parts.Stmts (head_of b)), d) ∷ ps) true ≡ after (ASign symbols.Semicolon) ((one (Sign symbols.Semicolon), d) ∷ (same (parts.Stmts parts.InStmt), d) ∷ ps) true
empty_same true d ps = refl
empty_same false d ps = refl

chosen_empty : (b : Bool) (d : ℕ) (s : List Token) → seen s ≡ seens.Symbol symbols.Semicolon → Chosen (alts.stmts_empty {h = head_of b}) d s
chosen_empty b d s e = chosen_at (alts.stmts_empty {h = head_of b}) d s (ASign symbols.Semicolon) e (λ ps g. empty_same b d ps) (λ ps g. (tt, tt))

if_none : (c : Class) (d : ℕ) → is_word words.If c ≡ false → first longest_chain c (same parts.If) d ≡ []
if_none c d n = part_none alts.an_if (TheWord words.If) (deeper (parts.Expr parts.Anywhere) ∷ deeper parts.Block ∷ same parts.MayElse ∷ []) c d refl refl n

-- another statement
stmt_runs : (b : Bool) (d : ℕ) (s : List Token) → (seen s ≡ seens.Symbol symbols.CloseBrace → ⊥) → (seen s ≡ seens.Symbol symbols.Semicolon → ⊥) → (seen s ≡ seens.Word words.If → ⊥)
    → (ps : Stack) → run s (at ((same (parts.Stmts (head_of b)), d) ∷ ps)) ≡ run s (at ((same (parts.Open (head_of b)), d) ∷ (same parts.StmtEnd, d) ∷ ps))
stmt_runs b d s no_close no_semicolon no_if =
    runs_among (alts.stmts_close {h = head_of b} ∷ alts.stmts_if {h = head_of b} ∷ alts.stmts_empty {h = head_of b} ∷ []) (alts.stmts_more {h = head_of b}) [] d s refl refl (λ ps. refl) refl
    (λ t r e. (
      (
        no_lead (class_of t.kind) (Sign symbols.CloseBrace) [] d (not_sign symbols.CloseBrace s no_close t r e),
        (
          no_part parts.If (same (parts.Stmts parts.BehindIf) ∷ []) (class_of t.kind) d refl (if_none (class_of t.kind) d (not_word words.If s no_if t r e)),
          (no_lead (class_of t.kind) (Sign symbols.Semicolon) (same (parts.Stmts parts.InStmt) ∷ []) d (not_sign symbols.Semicolon s no_semicolon t r e), tt),
        ),
      ),
      tt,
    ))

-- ---- what is read of statements

pub if_then : (b : Bool) (d : ℕ) (s m : List Token) (condition : Expr) (block : Block) (otherwise : Else) (span : Span) → seen s ≡ seens.Word words.If
    → Took parts.If d s m (condition, block, otherwise, span) → StmtThen b true d s m (stmts.If condition block otherwise span)
if_then b d s m condition block otherwise span e x = record {
  took = λ r more end y. chosen_took (chosen_if_stmt b d s e) (took_by (alts.stmts_if {h = head_of b}) (and_same x (and_same y (end_all d r))));
  stuck = λ f y. chosen_stuck (chosen_if_stmt b d s e) (past_same x (at_same y));
  fewer = shorter x.x refl;
}

pub if_stuck : (b : Bool) (d : ℕ) (s : List Token) (e : End Stop) → seen s ≡ seens.Word words.If → Stuck parts.If d s e → Stuck (parts.Stmts (head_of b)) d s e
if_stuck b d s e k x = chosen_stuck (chosen_if_stmt b d s k) (at_same x)

pub empty_then : (b : Bool) (d : ℕ) (s m : List Token) (span : Span) → seen s ≡ seens.Symbol symbols.Semicolon → TookOne (Sign symbols.Semicolon) d s m span → StmtThen b false d s m (stmts.Empty span)
empty_then b d s m span e x = record {
  took = λ r more end y. chosen_took (chosen_empty b d s e) (took_by (alts.stmts_empty {h = head_of b}) (and_one x (and_same y (end_all d r))));
  stuck = λ f y. chosen_stuck (chosen_empty b d s e) (past_one x (at_same y));
  fewer = taken_shorter x.x;
}

pub empty_stuck : (b : Bool) (d : ℕ) (s : List Token) (e : End Stop) → seen s ≡ seens.Symbol symbols.Semicolon → StuckOne (Sign symbols.Semicolon) d s e → Stuck (parts.Stmts (head_of b)) d s e
empty_stuck b d s e k x = chosen_stuck (chosen_empty b d s k) (at_one x)

-- the end of a statement
chosen_last : (d : ℕ) (s : List Token) → seen s ≡ seens.Symbol symbols.CloseBrace → Chosen alts.stmt_last d s
chosen_last d s e = chosen_at alts.stmt_last d s (ASign symbols.CloseBrace) e (λ ps g. refl) (λ ps g. tt)

chosen_closed : (d : ℕ) (s : List Token) → (seen s ≡ seens.Symbol symbols.CloseBrace → ⊥) → Chosen alts.stmt_closed d s
chosen_closed d s n = chosen_first alts.stmt_closed alts.stmt_last d s refl refl (λ t r e. no_lead (class_of t.kind) (Sign symbols.CloseBrace) [] d (not_sign symbols.CloseBrace s n t r e)) (λ ps g. (tt, tt))

pub last_took : (d : ℕ) (s r : List Token) (end : Span) → seen s ≡ seens.Symbol symbols.CloseBrace → TookOne (Sign symbols.CloseBrace) d s r end → Took parts.StmtEnd d s r ([], end)
last_took d s r end e x = chosen_took (chosen_last d s e) (took_by alts.stmt_last (and_one x (end_all d r)))

end_error : (d : ℕ) (s r : List Token) (e : End Stop) (result : Result Behind (End Stop)) → IsErrAnd result (λ y. y ≡ e) → Stuck parts.StmtEnd d s e → ReadsStmtEnd d s result r
end_error d s r e result h x = joining.by_error (λ z. ReadsStmtEnd d s z r) e result h x

pub last_error : (d : ℕ) (s r : List Token) (e : End Stop) (result : Result Behind (End Stop)) → IsErrAnd result (λ y. y ≡ e) → seen s ≡ seens.Symbol symbols.CloseBrace
    → StuckOne (Sign symbols.CloseBrace) d s e → ReadsStmtEnd d s result r
last_error d s r e result h k x = end_error d s r e result h (chosen_stuck (chosen_last d s k) (at_one x))

pub closed_error : (d : ℕ) (s r : List Token) (e : End Stop) (result : Result Behind (End Stop)) → IsErrAnd result (λ y. y ≡ e) → (seen s ≡ seens.Symbol symbols.CloseBrace → ⊥)
    → StuckOne (Sign symbols.Semicolon) d s e → ReadsStmtEnd d s result r
closed_error d s r e result h n x = end_error d s r e result h (chosen_stuck (chosen_closed d s n) (at_one x))

-- a statement with its end
module _ (b : Bool) (d : ℕ) (s : List Token) (no_close : seen s ≡ seens.Symbol symbols.CloseBrace → ⊥) (no_semicolon : seen s ≡ seens.Symbol symbols.Semicolon → ⊥) (no_if : seen s ≡ seens.Word words.If → ⊥) where
  more_took : (m r : List Token) (stmt : Stmt) (more : List Stmt) (end : Span) → TookBefore parts.StmtEnd (parts.Open (head_of b)) d s m stmt → Took parts.StmtEnd d m r (more, end)
      → Took (parts.Stmts (head_of b)) d s r (stmt ∷ more, end)
  more_took m r stmt more end x y = record {
    x = by (alts.stmts_more {h = head_of b}) (part x.x (part y.x ends));
    is = ap (λ z. (z ∷ (tree y.x).0, (tree y.x).1)) x.is ∙ ap (λ z. (stmt ∷ z.0, z.1)) y.is;
    goes = λ ps g. stmt_runs b d s no_close no_semicolon no_if ps ∙ x.goes ps ∙ y.goes ps tt;
  }

  more_stuck : (m : List Token) (stmt : Stmt) (e : End Stop) → TookBefore parts.StmtEnd (parts.Open (head_of b)) d s m stmt → Stuck parts.StmtEnd d m e → Stuck (parts.Stmts (head_of b)) d s e
  more_stuck m stmt e x y = record { stops = λ stop is ps g. stmt_runs b d s no_close no_semicolon no_if ps ∙ x.goes ps ∙ y.stops stop is ps tt }

  pub open_stuck : (e : End Stop) → StuckBefore parts.StmtEnd (parts.Open (head_of b)) d s e → Stuck (parts.Stmts (head_of b)) d s e
  open_stuck e x = record { stops = λ stop is ps g. stmt_runs b d s no_close no_semicolon no_if ps ∙ x.stops stop is ps }

  stmt_error : (r : List Token) (e : End Stop) (result : Result (Stmt × Behind) (End Stop)) → IsErrAnd result (λ y. y ≡ e) → Stuck (parts.Stmts (head_of b)) d s e → ReadsStmt b d s result r
  stmt_error r e result h x = joining.by_error (λ z. ReadsStmt b d s z r) e result h x

  pub open_error : (r : List Token) (e : End Stop) (result : Result (Stmt × Behind) (End Stop)) → IsErrAnd result (λ y. y ≡ e) → StuckBefore parts.StmtEnd (parts.Open (head_of b)) d s e → ReadsStmt b d s result r
  open_error r e result h x = stmt_error r e result h (open_stuck e x)

  pub behind_error : (m r : List Token) (stmt : Stmt) (e : End Stop) (result : Result (Stmt × Behind) (End Stop)) → IsErrAnd result (λ y. y ≡ e)
      → TookBefore parts.StmtEnd (parts.Open (head_of b)) d s m stmt → ReadsStmtEnd d m (Err e) r → ReadsStmt b d s result r
  behind_error m r stmt e result h x y = stmt_error r e result h (more_stuck m stmt e x y)

  pub stmt_read : (m r : List Token) (stmt : Stmt) (behind : Behind) → TookBefore parts.StmtEnd (parts.Open (head_of b)) d s m stmt → ReadsStmtEnd d m (Ok behind) r
      → ReadsStmt b d s (Ok (stmt, behind)) r
  stmt_read m r stmt (behinds.Closed end) x y = more_took m r stmt [] end x y
  stmt_read m r stmt (behinds.Another i) x y =
      let P : Bool → Type 0 = λ z. StmtThen b z d s r stmt in
      let shorter_then : length r < length s = below (taken_shorter y.2.1.x) (no_longer x.x) in
      subst P (sym y.0) (record {
        took = λ o more end z. more_took m o stmt more end x (chosen_took (chosen_closed d m y.1) (took_by alts.stmt_closed (and_one y.2.1 (and_same z (end_all d o)))));
        stuck = λ e z. more_stuck m stmt e x (chosen_stuck (chosen_closed d m y.1) (past_one y.2.1 (at_same z)));
        fewer = shorter_then;
      })
    where
      below : {i j k : ℕ} → i < j → j ≤ k → i < k
      below h g = omega arith

-- ---- an open statement, in front of its end

open_return : (b : Bool) (d : ℕ) (s : List Token) → seen s ≡ seens.Word words.Return → (ps : Stack)
    → run s (at ((same (parts.Open (head_of b)), d) ∷ ps)) ≡ run s (at ((one (TheWord words.Return), d) ∷ (same parts.MayValue, d) ∷ ps))
open_return b d s e ps = alike_at (AWord words.Return) s e ((same (parts.Open (head_of b)), d) ∷ ps) ((one (TheWord words.Return), d) ∷ (same parts.MayValue, d) ∷ ps) (each b)
  where
    each : (b : Bool) → after (AWord words.Return) ((same (parts.Open (head_of b)), d) ∷ ps) true ≡ after (AWord words.Return) ((one (TheWord words.Return), d) ∷ (same parts.MayValue, d) ∷ ps) true
    each true = refl
    each false = refl

open_expr : (b : Bool) (d : ℕ) (s : List Token) → (seen s ≡ seens.Word words.Return → ⊥) → (ps : Stack)
    → run s (at ((same (parts.Open (head_of b)), d) ∷ ps)) ≡ run s (at ((deeper (parts.Expr (head_of b)), d) ∷ (same parts.MayAssign, d) ∷ ps))
open_expr b d s n =
    runs_among (alts.return_stmt {h = head_of b} ∷ []) (alts.expr_stmt {h = head_of b}) [] d s refl refl (λ ps. refl) refl
    (λ t r e. ((no_lead (class_of t.kind) (TheWord words.Return) (same parts.MayValue ∷ []) d (not_word words.Return s n t r e), tt), tt))

-- what stands behind an open statement
end_refuses : (c : Class) (d : ℕ) (ps : Stack) → is_sign symbols.Semicolon c ≡ false → is_sign symbols.CloseBrace c ≡ false → after c ((same parts.StmtEnd, d) ∷ ps) true ≡ []
end_refuses c d ps n m = by_alt alts.stmt_closed c d ps true
    (ap (λ z. through (first longest_chain c) (slots alts.stmt_closed) d ++ (z ++ [])) (no_lead c (Sign symbols.CloseBrace) [] d m) ∙ append-nil (through (first longest_chain c) (slots alts.stmt_closed) d)) refl
    ∙ ap (λ z. map (onto ((same (parts.Stmts parts.InStmt), d) ∷ ps) true) (cond z (([], nat_le d deepest_token) ∷ []) []) ++ []) n

no_value_runs : (d : ℕ) (s : List Token) → (seen s ≡ seens.Symbol symbols.Semicolon) ⊎ (seen s ≡ seens.Symbol symbols.CloseBrace) → (ps : Stack) → run s (at ((same parts.MayValue, d) ∷ ps)) ≡ run s (at ps)
no_value_runs d s (inl e) ps = alike_at (ASign symbols.Semicolon) s e ((same parts.MayValue, d) ∷ ps) ps refl
no_value_runs d s (inr e) ps = alike_at (ASign symbols.CloseBrace) s e ((same parts.MayValue, d) ∷ ps) ps refl

value_runs : (d : ℕ) (s : List Token) → ((seen s ≡ seens.Symbol symbols.Semicolon) ⊎ (seen s ≡ seens.Symbol symbols.CloseBrace) → ⊥) → (ps : Stack)
    → run s (at ((same parts.MayValue, d) ∷ (same parts.StmtEnd, d) ∷ ps)) ≡ run s (at ((deeper (parts.Expr parts.Anywhere), d) ∷ (same parts.StmtEnd, d) ∷ ps))
value_runs d s n ps =
    alike ((same parts.MayValue, d) ∷ (same parts.StmtEnd, d) ∷ ps) ((deeper (parts.Expr parts.Anywhere), d) ∷ (same parts.StmtEnd, d) ∷ ps) refl s
    (λ t r e. by_alt alts.return_value (class_of t.kind) d ((same parts.StmtEnd, d) ∷ ps) true
    (append-nil (through (first longest_chain (class_of t.kind)) (slots alts.return_value) d))
    (end_refuses (class_of t.kind) d ps (not_sign symbols.Semicolon s (λ k. n (inl k)) t r e) (not_sign symbols.CloseBrace s (λ k. n (inr k)) t r e)))

pub before_error : (q p : Part) (d : ℕ) (s r : List Token) (e : End Stop) (result : Result (Tree p) (End Stop)) → IsErrAnd result (λ y. y ≡ e) → StuckBefore q p d s e → ReadsBefore q p d s result r
before_error q p d s r e result h x = joining.by_error (λ z. ReadsBefore q p d s z r) e result h x

pub no_return : (b : Bool) (d : ℕ) (s : List Token) (e : End Stop) → seen s ≡ seens.Word words.Return → StuckOne (TheWord words.Return) d s e → StuckBefore parts.StmtEnd (parts.Open (head_of b)) d s e
no_return b d s e k x = record { stops = λ stop is ps. open_return b d s k ((same parts.StmtEnd, d) ∷ ps) ∙ x.stops stop is ((same parts.MayValue, d) ∷ (same parts.StmtEnd, d) ∷ ps) }

word_goes : (d : ℕ) (s m : List Token) (word : Span) → TookOne (TheWord words.Return) d s m word → (ps : Stack) → run s (at ((one (TheWord words.Return), d) ∷ ps)) ≡ run m (at ps)
word_goes d s m word x ps = (and_one x (end_all d m)).goes ps tt

pub bare_return : (b : Bool) (d : ℕ) (s m : List Token) (word : Span) → seen s ≡ seens.Word words.Return → TookOne (TheWord words.Return) d s m word
    → (seen m ≡ seens.Symbol symbols.Semicolon) ⊎ (seen m ≡ seens.Symbol symbols.CloseBrace) → TookBefore parts.StmtEnd (parts.Open (head_of b)) d s m (stmts.Return None word)
bare_return b d s m word e x k = record {
  x = by (alts.return_stmt {h = head_of b}) (takes x.x (part (by alts.no_return_value ends) ends));
  is = ap (λ z. trees.return_of z None) x.is;
  goes = λ ps. open_return b d s e ((same parts.StmtEnd, d) ∷ ps) ∙ word_goes d s m word x ((same parts.MayValue, d) ∷ (same parts.StmtEnd, d) ∷ ps) ∙ no_value_runs d m k ((same parts.StmtEnd, d) ∷ ps);
}

value_fit : (d : ℕ) (ps : Stack) → Refuses expr_classes ((same parts.StmtEnd, d) ∷ ps)
value_fit d ps = refuses_all expr_classes ((same parts.StmtEnd, d) ∷ ps) refl

pub returned : (b : Bool) (d : ℕ) (s m r : List Token) (word : Span) (value : Expr) → seen s ≡ seens.Word words.Return → TookOne (TheWord words.Return) d s m word
    → ((seen m ≡ seens.Symbol symbols.Semicolon) ⊎ (seen m ≡ seens.Symbol symbols.CloseBrace) → ⊥) → Took (parts.Expr parts.Anywhere) (d + 1) m r value
    → TookBefore parts.StmtEnd (parts.Open (head_of b)) d s r (stmts.Return (Some value) (trees.join word (expr_span value)))
returned b d s m r word value e x n y = record {
  x = by (alts.return_stmt {h = head_of b}) (takes x.x (part (by alts.return_value (deep y.x ends)) ends));
  is = ap (λ z. trees.return_of z (Some (tree y.x))) x.is ∙ ap (λ z. trees.return_of word (Some z)) y.is;
  goes = λ ps. open_return b d s e ((same parts.StmtEnd, d) ∷ ps) ∙ word_goes d s m word x ((same parts.MayValue, d) ∷ (same parts.StmtEnd, d) ∷ ps) ∙ value_runs d m n ps
      ∙ (and_deep d y (end_all d r)).goes ((same parts.StmtEnd, d) ∷ ps) (value_fit d ps, tt);
}

pub no_value : (b : Bool) (d : ℕ) (s m : List Token) (word : Span) (e : End Stop) → seen s ≡ seens.Word words.Return → TookOne (TheWord words.Return) d s m word
    → ((seen m ≡ seens.Symbol symbols.Semicolon) ⊎ (seen m ≡ seens.Symbol symbols.CloseBrace) → ⊥) → Stuck (parts.Expr parts.Anywhere) (d + 1) m e → StuckBefore parts.StmtEnd (parts.Open (head_of b)) d s e
no_value b d s m word e k x n y = record {
  stops = λ stop is ps. open_return b d s k ((same parts.StmtEnd, d) ∷ ps) ∙ word_goes d s m word x ((same parts.MayValue, d) ∷ (same parts.StmtEnd, d) ∷ ps) ∙ value_runs d m n ps
      ∙ at_expr.stops stop is ((same parts.StmtEnd, d) ∷ ps) (value_fit d ps, tt);
}
  where
    at_expr : StuckAll (deeper (parts.Expr parts.Anywhere) ∷ []) d m e
    at_expr = at_deep d y

pub returned_as : (b : Bool) (d : ℕ) (s m r : List Token) (word : Span) (value inner : Expr) (behind span : Span) → seen s ≡ seens.Word words.Return → TookOne (TheWord words.Return) d s m word
    → ((seen m ≡ seens.Symbol symbols.Semicolon) ⊎ (seen m ≡ seens.Symbol symbols.CloseBrace) → ⊥) → Took (parts.Expr parts.Anywhere) (d + 1) m r value
    → inner ≡ value → behind ≡ expr_span inner → span ≡ trees.join word behind → TookBefore parts.StmtEnd (parts.Open (head_of b)) d s r (stmts.Return (Some inner) span)
returned_as b d s m r word value inner behind span e x n y i j k =
    let P : Span → Type 0 = λ z. TookBefore parts.StmtEnd (parts.Open (head_of b)) d s r (stmts.Return (Some inner) z) in
    let Q : Expr → Type 0 = λ z. TookBefore parts.StmtEnd (parts.Open (head_of b)) d s r (stmts.Return (Some z) (trees.join word (expr_span z))) in
    subst P (sym (k ∙ ap (trees.join word) j)) (subst Q (sym i) (returned b d s m r word value e x n y))

assign_fit : (b : Bool) (d : ℕ) (ps : Stack) → Fits d (deeper (parts.Expr (head_of b)) ∷ same parts.MayAssign ∷ []) ((same parts.StmtEnd, d) ∷ ps)
assign_fit b d ps = (refuses_all expr_classes ((same parts.MayAssign, d) ∷ (same parts.StmtEnd, d) ∷ ps) refl, (refuses_all assign_classes ((same parts.StmtEnd, d) ∷ ps) refl, tt))

pub assigned : (b : Bool) (d : ℕ) (s m r : List Token) (left : Expr) (right : Option (AssignOp × Expr)) (stmt : Stmt) → (seen s ≡ seens.Word words.Return → ⊥)
    → Took (parts.Expr (head_of b)) (d + 1) s m left → Took parts.MayAssign d m r right → stmt ≡ trees.assign_or_expr left right → TookBefore parts.StmtEnd (parts.Open (head_of b)) d s r stmt
assigned b d s m r left right stmt n x y k =
    let all = and_deep d x (and_same y (end_all d r)) in
    let P : Stmt → Type 0 = λ z. TookBefore parts.StmtEnd (parts.Open (head_of b)) d s r z in
    subst P (sym k) (record {
      x = by (alts.expr_stmt {h = head_of b}) all.x;
      is = ap (made (alts.expr_stmt {h = head_of b})) all.is;
      goes = λ ps. open_expr b d s n ((same parts.StmtEnd, d) ∷ ps) ∙ all.goes ((same parts.StmtEnd, d) ∷ ps) (assign_fit b d ps);
    })

stuck_before_all : (b : Bool) (d : ℕ) (s : List Token) (e : End Stop) → (seen s ≡ seens.Word words.Return → ⊥) → StuckAll (deeper (parts.Expr (head_of b)) ∷ same parts.MayAssign ∷ []) d s e
    → StuckBefore parts.StmtEnd (parts.Open (head_of b)) d s e
stuck_before_all b d s e n x = record { stops = λ stop is ps. open_expr b d s n ((same parts.StmtEnd, d) ∷ ps) ∙ x.stops stop is ((same parts.StmtEnd, d) ∷ ps) (assign_fit b d ps) }

pub no_left : (b : Bool) (d : ℕ) (s : List Token) (e : End Stop) → (seen s ≡ seens.Word words.Return → ⊥) → Stuck (parts.Expr (head_of b)) (d + 1) s e → StuckBefore parts.StmtEnd (parts.Open (head_of b)) d s e
no_left b d s e n x = stuck_before_all b d s e n (at_deep d x)

pub no_right : (b : Bool) (d : ℕ) (s m : List Token) (left : Expr) (e : End Stop) → (seen s ≡ seens.Word words.Return → ⊥) → Took (parts.Expr (head_of b)) (d + 1) s m left → Stuck parts.MayAssign d m e
    → StuckBefore parts.StmtEnd (parts.Open (head_of b)) d s e
no_right b d s m left e n x y = stuck_before_all b d s e n (past_deep d x (at_same y))

-- where the head is named otherwise
pub left_at : (b : Bool) (d : ℕ) (s m : List Token) (left : Expr) (h : parts.Start) → h ≡ head_of b → Took (parts.Expr h) (d + 1) s m left → Took (parts.Expr (head_of b)) (d + 1) s m left
left_at b d s m left h e x = let P : parts.Start → Type 0 = λ z. Took (parts.Expr z) (d + 1) s m left in subst P e x

pub no_left_at : (b : Bool) (d : ℕ) (s : List Token) (e : End Stop) (h : parts.Start) → h ≡ head_of b → (seen s ≡ seens.Word words.Return → ⊥) → Stuck (parts.Expr h) (d + 1) s e
    → StuckBefore parts.StmtEnd (parts.Open (head_of b)) d s e
no_left_at b d s e h k n x = let P : parts.Start → Type 0 = λ z. Stuck (parts.Expr z) (d + 1) s e in no_left b d s e n (subst P k x)

-- ---- assignments

no_sign : (c : Class) (d : ℕ) → None ≡ assign_sign (seen_of c) → through (first longest_chain c) (same parts.AssignOp ∷ deeper (parts.Expr parts.Anywhere) ∷ []) d ≡ []
no_sign (ASign symbols.Equal) d e = cc
no_sign (ASign symbols.PlusEqual) d e = cc
no_sign (ASign symbols.MinusEqual) d e = cc
no_sign (ASign symbols.StarEqual) d e = cc
no_sign (ASign symbols.SlashEqual) d e = cc
no_sign (ASign s) d e = refl
no_sign _ d e = refl

pub no_assignment : (d : ℕ) (s : List Token) → None ≡ assign_sign (seen s) → Took parts.MayAssign d s s None
no_assignment d s e =
    chosen_took (chosen_first alts.no_assign alts.assign d s refl refl (λ t r k. no_sign (class_of t.kind) d (e ∙ ap (λ z. assign_sign (seen z)) k)) (λ ps g. tt)) (took_by alts.no_assign (end_all d s))

assign_goes : (c : Class) (d : ℕ) (ps : Stack) → after c ps true ≡ [] → after c ((same parts.MayAssign, d) ∷ ps) true ≡ after c ((same parts.AssignOp, d) ∷ (deeper (parts.Expr parts.Anywhere), d) ∷ ps) true
assign_goes c d ps e = by_alt alts.assign c d ps true (append-nil (through (first longest_chain c) (slots alts.assign) d)) e

-- the sign of an assignment: which production it chooses, and what it is read as
pub record AtSign (d : ℕ) (s : List Token) (sign : Symbol) (op : AssignOp) : Type 0 where
  pub chosen : Chosen alts.assign d s
  pub took : (r : List Token) (span : Span) → TookOne (Sign sign) d s r span → Took parts.AssignOp d s r op
  pub stuck : (e : End Stop) → StuckOne (Sign sign) d s e → Stuck parts.AssignOp d s e

abbrev AtSigns : ℕ → List Token → Option (Symbol × AssignOp) → Type 0
AtSigns d s None = Unit {0}
AtSigns d s (Some x) = AtSign d s x.0 x.1

at_signs : (d : ℕ) (s : List Token) (x : Seen) → seen s ≡ x → AtSigns d s (assign_sign x)
at_signs d s (seens.Symbol symbols.Equal) e = record {
  chosen = chosen_at alts.assign d s (ASign symbols.Equal) e (λ ps g. assign_goes (ASign symbols.Equal) d ps g.0) (λ ps g. (tt, (g.1.1.1.1.1, tt)));
  took = λ r span x. chosen_took (chosen_at alts.plain_set d s (ASign symbols.Equal) e (λ ps g. refl) (λ ps g. tt)) (took_by alts.plain_set (and_one x (end_all d r)));
  stuck = λ f x. chosen_stuck (chosen_at alts.plain_set d s (ASign symbols.Equal) e (λ ps g. refl) (λ ps g. tt)) (at_one x);
}
at_signs d s (seens.Symbol symbols.PlusEqual) e = record {
  chosen = chosen_at alts.assign d s (ASign symbols.PlusEqual) e (λ ps g. assign_goes (ASign symbols.PlusEqual) d ps g.1.0) (λ ps g. (tt, (g.1.1.1.1.1, tt)));
  took = λ r span x. chosen_took (chosen_at alts.set_add d s (ASign symbols.PlusEqual) e (λ ps g. refl) (λ ps g. tt)) (took_by alts.set_add (and_one x (end_all d r)));
  stuck = λ f x. chosen_stuck (chosen_at alts.set_add d s (ASign symbols.PlusEqual) e (λ ps g. refl) (λ ps g. tt)) (at_one x);
}
at_signs d s (seens.Symbol symbols.MinusEqual) e = record {
  chosen = chosen_at alts.assign d s (ASign symbols.MinusEqual) e (λ ps g. assign_goes (ASign symbols.MinusEqual) d ps g.1.1.0) (λ ps g. (tt, (g.1.1.1.1.1, tt)));
  took = λ r span x. chosen_took (chosen_at alts.set_sub d s (ASign symbols.MinusEqual) e (λ ps g. refl) (λ ps g. tt)) (took_by alts.set_sub (and_one x (end_all d r)));
  stuck = λ f x. chosen_stuck (chosen_at alts.set_sub d s (ASign symbols.MinusEqual) e (λ ps g. refl) (λ ps g. tt)) (at_one x);
}
at_signs d s (seens.Symbol symbols.StarEqual) e = record {
  chosen = chosen_at alts.assign d s (ASign symbols.StarEqual) e (λ ps g. assign_goes (ASign symbols.StarEqual) d ps g.1.1.1.0) (λ ps g. (tt, (g.1.1.1.1.1, tt)));
  took = λ r span x. chosen_took (chosen_at alts.set_mul d s (ASign symbols.StarEqual) e (λ ps g. refl) (λ ps g. tt)) (took_by alts.set_mul (and_one x (end_all d r)));
  stuck = λ f x. chosen_stuck (chosen_at alts.set_mul d s (ASign symbols.StarEqual) e (λ ps g. refl) (λ ps g. tt)) (at_one x);
}
at_signs d s (seens.Symbol symbols.SlashEqual) e = record {
  chosen = chosen_at alts.assign d s (ASign symbols.SlashEqual) e (λ ps g. assign_goes (ASign symbols.SlashEqual) d ps g.1.1.1.1.0) (λ ps g. (tt, (g.1.1.1.1.1, tt)));
  took = λ r span x. chosen_took (chosen_at alts.set_div d s (ASign symbols.SlashEqual) e (λ ps g. refl) (λ ps g. tt)) (took_by alts.set_div (and_one x (end_all d r)));
  stuck = λ f x. chosen_stuck (chosen_at alts.set_div d s (ASign symbols.SlashEqual) e (λ ps g. refl) (λ ps g. tt)) (at_one x);
}
at_signs d s _ e = tt

pub at_sign : (d : ℕ) (s : List Token) (sign : Symbol) (op : AssignOp) → assign_sign (seen s) ≡ Some (sign, op) → AtSign d s sign op
at_sign d s sign op e = let P : Option (Symbol × AssignOp) → Type 0 = λ z. AtSigns d s z in subst P e (at_signs d s (seen s) refl)

-- ---- an `if`, and what is behind its block

pub chosen_an_if : (d : ℕ) (s : List Token) → Chosen alts.an_if d s
chosen_an_if d s = chosen_alone alts.an_if d s refl refl (λ ps g. (refuses_all expr_classes ((deeper parts.Block, d) ∷ (same parts.MayElse, d) ∷ ps) refl, (tt, (g, tt))))

pub no_else : (d : ℕ) (s : List Token) (otherwise : Else) → (seen s ≡ seens.Word words.Else → ⊥) → otherwise ≡ made alts.no_else tt → Took parts.MayElse d s s otherwise
no_else d s otherwise n e =
    let P : Else → Type 0 = λ z. Took parts.MayElse d s s z in
    subst P (sym e) (chosen_took (chosen_among [] alts.no_else (alts.else_if ∷ alts.else_block ∷ []) d s refl refl
    (λ t r k. (
      tt,
      (
        no_lead (class_of t.kind) (TheWord words.Else) (deeper parts.If ∷ []) d (not_word words.Else s n t r k),
        (no_lead (class_of t.kind) (TheWord words.Else) (deeper parts.Block ∷ []) d (not_word words.Else s n t r k), tt),
      ),
    )) (λ ps g. tt)) (took_by alts.no_else (end_all d s)))

else_goes : (d : ℕ) (ps : Stack) → after (AWord words.Else) ps true ≡ []
    → after (AWord words.Else) ((same parts.MayElse, d) ∷ ps) true ≡ tagged (nat_le d deepest_token) (((deeper parts.If, d) ∷ ps) ∷ ((deeper parts.Block, d) ∷ ps) ∷ [])
else_goes d ps e = ap (λ z. map (onto ps true) (first longest_chain (AWord words.Else) (same parts.MayElse) d) ++ z) e

lost_block : (d : ℕ) (ps : Stack) (s : List Token) → seen s ≡ seens.Word words.If → Lost s (tagged true (((deeper parts.Block, d) ∷ ps) ∷ []))
lost_block d ps [] e = absurd (seen_not_end (AWord words.If) e)
lost_block d ps (t ∷ s) e = let P : Class → Type 0 = λ z. afters z (tagged true (((deeper parts.Block, d) ∷ ps) ∷ [])) ≡ [] in subst P (sym (seen_same (class_of t.kind) (AWord words.If) e)) refl

lost_if : (d : ℕ) (ps : Stack) (s : List Token) → (seen s ≡ seens.Word words.If → ⊥) → Lost s (tagged true (((deeper parts.If, d) ∷ ps) ∷ []))
lost_if d ps [] n = refl
lost_if d ps (t ∷ s) n = ap (λ z. (map (onto ps true) z ++ []) ++ []) (if_none (class_of t.kind) (d + 1) (not_word words.If (t ∷ s) n t s refl))

pub chosen_else_if : (d : ℕ) (s : List Token) → seen s ≡ seens.Word words.Else → seen (drop 1 s) ≡ seens.Word words.If → Chosen alts.else_if d s
chosen_else_if d [] e k = absurd (seen_not_end (AWord words.Else) e)
chosen_else_if d (t ∷ s) e k = record {
  same_run = λ ps g. fork t s (AWord words.Else) ((same parts.MayElse, d) ∷ ps) ((one (TheWord words.Else), d) ∷ (deeper parts.If, d) ∷ ps) ((deeper parts.If, d) ∷ ps) [] (((deeper parts.Block, d) ∷ ps) ∷ [])
      (nat_le d deepest_token) (seen_same (class_of t.kind) (AWord words.Else) e) (else_goes d ps g.0) refl (nothing_lost s) (lost_block d ps s k);
  fit = λ ps g. (g, tt);
}
  where
    nothing_lost : (s : List Token) → Lost s []
    nothing_lost [] = refl
    nothing_lost (t ∷ s) = refl

pub chosen_else_block : (d : ℕ) (s : List Token) → seen s ≡ seens.Word words.Else → (seen (drop 1 s) ≡ seens.Word words.If → ⊥) → Chosen alts.else_block d s
chosen_else_block d [] e k = absurd (seen_not_end (AWord words.Else) e)
chosen_else_block d (t ∷ s) e k = record {
  same_run = λ ps g. fork t s (AWord words.Else) ((same parts.MayElse, d) ∷ ps) ((one (TheWord words.Else), d) ∷ (deeper parts.Block, d) ∷ ps) ((deeper parts.Block, d) ∷ ps) (((deeper parts.If, d) ∷ ps) ∷ []) []
      (nat_le d deepest_token) (seen_same (class_of t.kind) (AWord words.Else) e) (else_goes d ps g.0) refl (lost_if d ps s k) (nothing_lost s);
  fit = λ ps g. (tt, tt);
}
  where
    nothing_lost : (s : List Token) → Lost s []
    nothing_lost [] = refl
    nothing_lost (t ∷ s) = refl

-- what is read of an `if` and of an `else`
pub if_read : (d : ℕ) (s m n o r : List Token) (word : Span) (condition : Expr) (block : Block) (otherwise inner : Else) (span : Span) → TookOne (TheWord words.If) d s m word
    → Took (parts.Expr parts.Anywhere) (d + 1) m n condition → Took parts.Block (d + 1) n o block → Took parts.MayElse d o r otherwise → inner ≡ otherwise → span ≡ trees.if_span word block inner
    → Took parts.If d s r (condition, block, otherwise, span)
if_read d s m n o r word condition block otherwise inner span x y z w i k =
    let P : Span → Type 0 = λ v. Took parts.If d s r (condition, block, otherwise, v) in
    subst P (sym (k ∙ ap (trees.if_span word block) i)) (chosen_took (chosen_an_if d s) (took_by alts.an_if (and_one x (and_deep d y (and_deep d z (and_same w (end_all d r)))))))

pub else_read : (d : ℕ) (s m r : List Token) (word : Span) (condition inner : Expr) (block : Block) (otherwise : Else) (span : Span) (boxed : Else) → TookOne (TheWord words.Else) d s m word
    → Took parts.If (d + 1) m r (condition, block, otherwise, span) → inner ≡ condition → boxed ≡ elses.ElseIf inner block otherwise span → TookBy alts.else_if d s r boxed
else_read d s m r word condition inner block otherwise span boxed x y i k =
    let P : Else → Type 0 = λ z. TookBy alts.else_if d s r z in
    subst P (sym (k ∙ ap (λ z. elses.ElseIf z block otherwise span) i)) (took_by alts.else_if (and_one x (and_deep d y (end_all d r))))

pub else_block_read : (d : ℕ) (s m r : List Token) (word : Span) (block : Block) (boxed : Else) → TookOne (TheWord words.Else) d s m word → Took parts.Block (d + 1) m r block
    → boxed ≡ elses.ElseBlock block → TookBy alts.else_block d s r boxed
else_block_read d s m r word block boxed x y k =
    let P : Else → Type 0 = λ z. TookBy alts.else_block d s r z in
    subst P (sym k) (took_by alts.else_block (and_one x (and_deep d y (end_all d r))))

-- an `if` as a statement, whose parts were moved out of their boxes
pub if_then_as : (b : Bool) (d : ℕ) (s m : List Token) (condition condition' : Expr) (block : Block) (otherwise otherwise' : Else) (span : Span) → seen s ≡ seens.Word words.If
    → Took parts.If d s m (condition, block, otherwise, span) → condition' ≡ condition → otherwise' ≡ otherwise → StmtThen b true d s m (stmts.If condition' block otherwise' span)
if_then_as b d s m condition condition' block otherwise otherwise' span e x i k =
    let P : Expr → Type 0 = λ z. StmtThen b true d s m (stmts.If z block otherwise' span) in
    let Q : Else → Type 0 = λ z. StmtThen b true d s m (stmts.If condition block z span) in
    subst P (sym i) (subst Q (sym k) (if_then b d s m condition block otherwise span e x))

pub read_error : (b : Bool) (d : ℕ) (s r : List Token) (e : End Stop) (result : Result (Stmt × Behind) (End Stop)) → IsErrAnd result (λ y. y ≡ e) → Stuck (parts.Stmts (head_of b)) d s e → ReadsStmt b d s result r
read_error b d s r e result h x = joining.by_error (λ z. ReadsStmt b d s z r) e result h x

-- ---- the loop over statements: the statements so far, and others that go on from here as those from the start

pub record BegunStmts (b : Bool) (d : ℕ) (start s : List Token) (all : List Stmt) : Type 0 where
  pub took : (r : List Token) (more : List Stmt) (end : Span) → Took (parts.Stmts (head_of b)) d s r (more, end) → Took (parts.Stmts parts.InStmt) d start r (all ++ more, end)
  pub stuck : (e : End Stop) → Stuck (parts.Stmts (head_of b)) d s e → Stuck (parts.Stmts parts.InStmt) d start e

pub begun_stmts : (d : ℕ) (s : List Token) (all : List Stmt) → all ≡ [] → BegunStmts false d s s all
begun_stmts d s all e = let P : List Stmt → Type 0 = λ z. BegunStmts false d s s z in subst P (sym e) (record { took = λ r more end x. x; stuck = λ e x. x })

pub no_closing : (b : Bool) (d : ℕ) (start s : List Token) (all : List Stmt) (e : End Stop) → BegunStmts b d start s all
    → StuckOne (Sign symbols.CloseBrace) d s e × (seen s ≡ seens.Symbol symbols.CloseBrace) → Stuck (parts.Stmts parts.InStmt) d start e
no_closing b d start s all e g x = g.stuck e (chosen_stuck (chosen_close b d s x.1) (at_one x.0))

pub all_closed : (b : Bool) (d : ℕ) (start s r : List Token) (all : List Stmt) (o : Option Span) (end : Span) → BegunStmts b d start s all → o ≡ Some end
    → Closes symbols.CloseBrace d s (Ok o) r → Took (parts.Stmts parts.InStmt) d start r (all, end)
all_closed b d start s r all o end g e x =
    let P : Option Span → Type 0 = λ z. Closes symbols.CloseBrace d s (Ok z) r in
    let y = subst P e x in
    let Q : List Stmt → Type 0 = λ z. Took (parts.Stmts parts.InStmt) d start r (z, end) in
    subst Q (append-nil all) (g.took r [] end (chosen_took (chosen_close b d s (took_sign_seen symbols.CloseBrace d s r end y))
    (took_by (alts.stmts_close {h = head_of b}) (and_one y (end_all d r)))))

-- where the closing brace isn't there, the cursor stays
pub at_stmt : (b : Bool) (d : ℕ) (start s m : List Token) (all : List Stmt) (o : Option Span) → BegunStmts b d start s all → ((end : Span) → o ≡ Some end → ⊥)
    → Closes symbols.CloseBrace d s (Ok o) m → BegunStmts b d start m all
at_stmt b d start s m all o g none x = let P : List Token → Type 0 = λ z. BegunStmts b d start z all in subst P (sym (closes_none symbols.CloseBrace d s m o none x).0) g

pub last_stmt : (b : Bool) (d : ℕ) (start s r : List Token) (all now : List Stmt) (stmt : Stmt) (behind : Behind) (end : Span) → BegunStmts b d start s all → behind ≡ behinds.Closed end
    → now ≡ all ++ stmt ∷ [] → ReadsStmt b d s (Ok (stmt, behind)) r → Took (parts.Stmts parts.InStmt) d start r (now, end)
last_stmt b d start s r all now stmt behind end g e k x =
    let P : Behind → Type 0 = λ z. ReadsStmt b d s (Ok (stmt, z)) r in
    let Q : List Stmt → Type 0 = λ z. Took (parts.Stmts parts.InStmt) d start r (z, end) in
    subst Q (sym k) (g.took r (stmt ∷ []) end (subst P e x))

pub next_stmt : (b i : Bool) (d : ℕ) (start s r : List Token) (all now : List Stmt) (stmt : Stmt) (behind : Behind) → BegunStmts b d start s all → behind ≡ behinds.Another i
    → now ≡ all ++ stmt ∷ [] → ReadsStmt b d s (Ok (stmt, behind)) r → BegunStmts i d start r now × (length r < length s)
next_stmt b i d start s r all now stmt behind g e k x =
    let P : Behind → Type 0 = λ z. ReadsStmt b d s (Ok (stmt, z)) r in
    let y = subst P e x in
    let Q : List Stmt → Type 0 = λ z. BegunStmts i d start r z × (length r < length s) in
    subst Q (sym k) (
      record {
        took = λ o more end z. (let R : List Stmt → Type 0 = λ w. Took (parts.Stmts parts.InStmt) d start o (w, end) in subst R (sym (append_assoc all (stmt ∷ []) more)) (g.took o (stmt ∷ more) end (y.took o more end z)));
        stuck = λ f z. g.stuck f (y.stuck f z);
      },
      y.fewer,
    )

pub stmt_turn : (b i : Bool) (d : ℕ) (start s0 s r : List Token) (all now : List Stmt) (stmt : Stmt) (behind : Behind) (o : Option Span) → BegunStmts b d start s0 all → ((end : Span) → o ≡ Some end → ⊥)
    → Closes symbols.CloseBrace d s0 (Ok o) s → behind ≡ behinds.Another i → now ≡ all ++ stmt ∷ [] → ReadsStmt b d s (Ok (stmt, behind)) r → BegunStmts i d start r now × (length r < length s0)
stmt_turn b i d start s0 s r all now stmt behind o g none x e k y =
    let P : List Token → Type 0 = λ z. BegunStmts i d start r now × (length r < length z) in
    subst P (closes_none symbols.CloseBrace d s0 s o none x).0 (next_stmt b i d start s r all now stmt behind (at_stmt b d start s0 s all o g none x) e k y)
