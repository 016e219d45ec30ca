-- Lines of characters, read one by one.
use Rattle.std.proofs.Common.{◌≡◌, ℕ, ◌+◌, true, false, cond, Option, None, Some, Result, Ok, Err, List, [], ◌∷◌, ◌++◌, sym, ap, ◌∙◌, refl}
use Rattle.std.specs.Prelude.{nat_le}
use Rattle.text_measure.specs.Tables.{Table, least_from}
use Rattle.text_measure.specs.Grammar.{pair_of}
use Rattle.text_measure.specs.Reading.{bad_at, behind_line, with_pair, pair_then, least_behind, pairs_from, with_pairs}
use Rattle.text_measure.specs.declared.faults.BadTable.{BadTable}

-- pairs in front of those that follow them
abbrev pub ahead : List (ℕ × ℕ) → Result (List (ℕ × ℕ)) BadTable → Result (List (ℕ × ℕ)) BadTable
ahead [] others = others
ahead (pair ∷ pairs) others = with_pair pair (ahead pairs others)

ahead-append : (pairs : List (ℕ × ℕ)) (pair : ℕ × ℕ) (others : Result (List (ℕ × ℕ)) BadTable) → ahead (pairs ++ pair ∷ []) others ≡ ahead pairs (with_pair pair others)
ahead-append [] pair others = refl
ahead-append (p ∷ ps) pair others = ap (with_pair p) (ahead-append ps pair others)

ahead-all : (pairs : List (ℕ × ℕ)) → ahead pairs (Ok []) ≡ Ok pairs
ahead-all [] = refl
ahead-all (p ∷ ps) = ap (with_pair p) (ahead-all ps)

ahead-Err : (pairs : List (ℕ × ℕ)) (bad : BadTable) → ahead pairs (Err bad) ≡ Err bad
ahead-Err [] bad = refl
ahead-Err (p ∷ ps) bad = ap (with_pair p) (ahead-Err ps bad)

least_from-append : (pairs : List (ℕ × ℕ)) (n : ℕ) (pair : ℕ × ℕ) → least_from n (pairs ++ pair ∷ []) ≡ pair.0 + 1
least_from-append [] n pair = refl
least_from-append (p ∷ ps) n pair = least_from-append ps (p.0 + 1) pair

-- all comes to the pairs so far and what the lines to come read as
pub record IsRead (all : Result (List (ℕ × ℕ)) BadTable) (at : ℕ) (lines : List (List ℕ)) (pairs : List (ℕ × ℕ)) : Type 0 where
  pub is : all ≡ ahead pairs (pairs_from at (least_from 0 pairs) lines)

pub read-first : (at : ℕ) (lines : List (List ℕ)) (pairs : List (ℕ × ℕ)) → pairs ≡ [] → IsRead (pairs_from at 0 lines) at lines pairs
read-first at lines pairs e = record { is = ap (λ ps. ahead ps (pairs_from at (least_from 0 ps) lines)) (sym e) }

-- what the lines are seen as whose first one is known
seen : (all : Result (List (ℕ × ℕ)) BadTable) (at : ℕ) (lines rest : List (List ℕ)) (line : List ℕ) (pairs : List (ℕ × ℕ)) (found : Option (ℕ × ℕ)) → IsRead all at lines pairs → lines ≡ line ∷ rest → found ≡ pair_of line
    → all ≡ ahead pairs (pair_then at (least_from 0 pairs) found (pairs_from (behind_line at line) (least_behind found) rest))
seen all at lines rest line pairs found h e f =
    h.is
    ∙ ap (λ ls. ahead pairs (pairs_from at (least_from 0 pairs) ls)) e
    ∙ ap (λ o. ahead pairs (pair_then at (least_from 0 pairs) o (pairs_from (behind_line at line) (least_behind o) rest))) (sym f)

pub read-more : (all : Result (List (ℕ × ℕ)) BadTable) (at next : ℕ) (lines rest : List (List ℕ)) (line : List ℕ) (pairs new : List (ℕ × ℕ)) (pair : ℕ × ℕ) → IsRead all at lines pairs → lines ≡ line ∷ rest → Some pair ≡ pair_of line
    → nat_le (least_from 0 pairs) pair.0 ≡ true → next ≡ behind_line at line → new ≡ pairs ++ pair ∷ [] → IsRead all next rest new
read-more all at next lines rest line pairs new pair h e f above n g =
    let others = pairs_from (behind_line at line) (pair.0 + 1) rest in
    record {
      is =
          seen all at lines rest line pairs (Some pair) h e f
          ∙ ap (λ b. ahead pairs (cond b (with_pair pair others) (bad_at at))) above
          ∙ sym (ahead-append pairs pair others)
          ∙ ap (λ k. ahead (pairs ++ pair ∷ []) (pairs_from (behind_line at line) k rest)) (sym (least_from-append pairs 0 pair))
          ∙ ap (λ k. ahead (pairs ++ pair ∷ []) (pairs_from k (least_from 0 (pairs ++ pair ∷ [])) rest)) (sym n)
          ∙ ap (λ ps. ahead ps (pairs_from next (least_from 0 ps) rest)) (sym g);
    }

-- lines end
pub read-end : (all : Result (List (ℕ × ℕ)) BadTable) (at : ℕ) (lines : List (List ℕ)) (table : Table) (height default : ℕ) → IsRead all at lines table.pairs → lines ≡ [] → table.line ≡ height → table.default ≡ default
    → with_pairs height default all ≡ Ok table
read-end all at lines table height default h e f g =
    ap (with_pairs height default) (h.is ∙ ap (λ ls. ahead table.pairs (pairs_from at (least_from 0 table.pairs) ls)) e ∙ ahead-all table.pairs)
    ∙ ap (λ (n : ℕ). Ok (record { line = n; default = default; pairs = table.pairs })) (sym f)
    ∙ ap (λ (n : ℕ). Ok (record { line = table.line; default = n; pairs = table.pairs })) (sym g)

-- a line that doesn't fit
pub read-unfit : (all : Result (List (ℕ × ℕ)) BadTable) (at : ℕ) (lines rest : List (List ℕ)) (line : List ℕ) (pairs : List (ℕ × ℕ)) (height default : ℕ) → IsRead all at lines pairs → lines ≡ line ∷ rest → None ≡ pair_of line
    → with_pairs height default all ≡ bad_at at
read-unfit all at lines rest line pairs height default h e f =
    ap (with_pairs height default) (seen all at lines rest line pairs None h e f ∙ ahead-Err pairs (record { at = at }))

-- a character that doesn't rise
pub read-fallen : (all : Result (List (ℕ × ℕ)) BadTable) (at : ℕ) (lines rest : List (List ℕ)) (line : List ℕ) (pairs : List (ℕ × ℕ)) (pair : ℕ × ℕ) (height default : ℕ) → IsRead all at lines pairs → lines ≡ line ∷ rest → Some pair ≡ pair_of line
    → nat_le (least_from 0 pairs) pair.0 ≡ false → with_pairs height default all ≡ bad_at at
read-fallen all at lines rest line pairs pair height default h e f below =
    let others = pairs_from (behind_line at line) (pair.0 + 1) rest in
    ap (with_pairs height default)
    (seen all at lines rest line pairs (Some pair) h e f ∙ ap (λ b. ahead pairs (cond b (with_pair pair others) (bad_at at))) below ∙ ahead-Err pairs (record { at = at }))
