-- How what the parser's functions give is put together: by tokens, places, productions and loops.
use Rattle.std.proofs.Common.{◌≡◌, ℕ, zero, suc, ◌+◌, ◌≤◌, ◌<◌, inl, inr, Bool, true, false, cond, ◌&&◌, ◌||◌, List, [], ◌∷◌, ◌++◌, length, map, nat_le, nat_lt, sym, refl, ap, ◌∙◌, subst, append_assoc, append-nil, le-leb, ltb-true, le_trans, le_of_suc-le-suc, not-suc-le-zero, true≢false, arith}
use Rattle.std.proofs.lemmas.Bool.{and_parts, lt-leb}
use Rattle.std.specs.Prelude.{Result, Ok, Err}
use Rattle.std.specs.Result.{IsErrAnd}
use Rattle.slint_base.specs.declared.rules.Rule.TheVariants.{Syntax, TooDeep}
use Rattle.slint_base.specs.declared.endings.End.{End}
use Rattle.slint_base.specs.declared.endings.End.TheVariants as endings
use Rattle.slint_lexer.specs.declared.tokens.Token.{Token}
use Rattle.slint_parser.specs.declared.stops.Seen.TheVariants as seens
use Rattle.slint_parser.specs.declared.stops.Stop.{Stop}
use Rattle.slint_parser.specs.declared.stops.Stop.TheVariants.{At, AtEnd}
use Rattle.slint_grammar.specs.Parts.{Part}
use Rattle.slint_grammar.specs.Grammar.{Terminal, Slot, one, same, deeper, Alt, slots}
use Rattle.slint_grammar.specs.Made.{Tree, Held, AllGiven, made}
use Rattle.slint_grammar.specs.Derivations.{Class, ASign, AWord, NumberClass, ColourClass, TextClass, HeadClass, MidClass, TailClass, class_of, fits, deepest_token, Takes, held, Derives, by, Through, ends, takes, part, deep, tree, trees}
use Rattle.slint_parser.specs.Readings.{seen, seen_of, outcome, at, goes_on, Refuses, Misfits, TookOne, StuckOne, ReadsOne, Took, Stuck, Reads, Fits, TookAll, StuckAll, TookBy, ReadsBy}
use Rattle.slint_grammar.specs.Stacks.{Stack, Left, at_depth, behind, through, each_alt, first, alts_of, nullable, nullable_slot, longest_chain, onto, after, is_done, Stops, Ends, run}
use Rattle.slint_grammar.proofs.Tables.{all_nullable, rank, rank_of, leads_below, ranked, rank-below}
use Rattle.slint_grammar.proofs.AfterToken.{not_empty}
use Rattle.slint_grammar.proofs.Steps.{by_what_stays, step, stop}

-- ---- what is found behind a token doesn't depend on the chain's length, where that is enough

module _ (f g : Slot → ℕ → List Left) (k : ℕ) (h : (x : Slot) (d : ℕ) → rank_of x < k → f x d ≡ g x d) where
  same_further : (xs : List Slot) (d : ℕ) (b : Bool) → (leads_below k xs ≡ true → through f xs d ≡ through g xs d)
      → cond b (leads_below k xs) true ≡ true → cond b (through f xs d) [] ≡ cond b (through g xs d) []
  same_further xs d true e l = e l
  same_further xs d false e l = refl

  pub same_through : (xs : List Slot) (d : ℕ) → leads_below k xs ≡ true → through f xs d ≡ through g xs d
  same_through [] d l = refl
  same_through (x ∷ xs) d l =
      let parts = and_parts (nat_lt (rank_of x) k) (cond (nullable_slot x) (leads_below k xs) true) l in
      ap (λ z. map (behind (at_depth d xs)) z ++ cond (nullable_slot x) (through f xs d) []) (h x d (ltb-true (rank_of x) k parts.0))
      ∙ ap (λ z. map (behind (at_depth d xs)) (g x d) ++ z) (same_further xs d (nullable_slot x) (same_through xs d) parts.1)

  pub same_each : {p : Part} (some : List (Alt p)) (d : ℕ) → ((a : Alt p) → leads_below k (slots a) ≡ true) → each_alt f some d ≡ each_alt g some d
  same_each [] d l = refl
  same_each (a ∷ some) d l =
      ap (λ z. z ++ each_alt f some d) (same_through (slots a) d (l a)) ∙ ap (λ z. through g (slots a) d ++ z) (same_each some d l)

pub fuel : (n m : ℕ) (c : Class) (x : Slot) (d : ℕ) → rank_of x < n → rank_of x < m → first n c x d ≡ first m c x d
fuel zero m c x d l k = absurd (not-suc-le-zero l)
fuel (suc n) zero c x d l k = absurd (not-suc-le-zero k)
fuel (suc n) (suc m) c (one t) d l k = refl
fuel (suc n) (suc m) c (same p) d l k =
    same_each (first n c) (first m c) (rank p) (λ x e b. fuel n m c x e (le_trans b (le_of_suc-le-suc l)) (le_trans b (le_of_suc-le-suc k))) (alts_of p) d ranked
fuel (suc n) (suc m) c (deeper p) d l k =
    same_each (first n c) (first m c) (rank p) (λ x e b. fuel n m c x e (le_trans b (le_of_suc-le-suc l)) (le_trans b (le_of_suc-le-suc k))) (alts_of p) (d + 1) ranked

-- what is found of a part, of its productions
pub by_alts : (c : Class) (p : Part) (d : ℕ) → first longest_chain c (same p) d ≡ each_alt (first longest_chain c) (alts_of p) d
by_alts c p d = fuel longest_chain (suc longest_chain) c (same p) d (ltb-true (rank p) longest_chain (rank-below p)) (le_trans (ltb-true (rank p) longest_chain (rank-below p)) (omega arith))

-- ---- a right side in place of its part

onto_behind : (ps more : Stack) (w : Bool) (ls : List Left) → map (onto ps w) (map (behind more) ls) ≡ map (onto (more ++ ps) w) ls
onto_behind ps more w [] = refl
onto_behind ps more w (l ∷ ls) = ap (λ z. (z, w && l.1) ∷ map (onto ps w) (map (behind more) ls)) (append_assoc l.0 more ps) ∙ ap (λ z. (l.0 ++ (more ++ ps), w && l.1) ∷ z) (onto_behind ps more w ls)

pub onto_append : (ps : Stack) (w : Bool) (a b : List Left) → map (onto ps w) (a ++ b) ≡ map (onto ps w) a ++ map (onto ps w) b
onto_append ps w [] b = refl
onto_append ps w (l ∷ a) b = ap (λ z. onto ps w l ∷ z) (onto_append ps w a b)

further : (c : Class) (ps : Stack) (w : Bool) (xs : List Slot) (d : ℕ) (b : Bool)
    → after c (at_depth d xs ++ ps) w ≡ map (onto ps w) (through (first longest_chain c) xs d) ++ cond (all_nullable xs) (after c ps w) []
    → cond b (after c (at_depth d xs ++ ps) w) [] ≡ map (onto ps w) (cond b (through (first longest_chain c) xs d) []) ++ cond (b && all_nullable xs) (after c ps w) []
further c ps w xs d true e = e
further c ps w xs d false e = refl

pub after_through : (c : Class) (ps : Stack) (w : Bool) (xs : List Slot) (d : ℕ)
    → after c (at_depth d xs ++ ps) w ≡ map (onto ps w) (through (first longest_chain c) xs d) ++ cond (all_nullable xs) (after c ps w) []
after_through c ps w [] d = refl
after_through c ps w (x ∷ xs) d =
    let f = first longest_chain c in
    let here = map (behind (at_depth d xs)) (f x d) in
    let rest = cond (nullable_slot x) (through f xs d) [] in
    let end = cond (nullable_slot x && all_nullable xs) (after c ps w) [] in
    ap (λ z. z ++ cond (nullable_slot x) (after c (at_depth d xs ++ ps) w) []) (sym (onto_behind ps (at_depth d xs) w (f x d)))
    ∙ ap (λ z. map (onto ps w) here ++ z) (further c ps w xs d (nullable_slot x) (after_through c ps w xs d))
    ∙ sym (append_assoc (map (onto ps w) here) (map (onto ps w) rest) end)
    ∙ ap (λ z. z ++ end) (sym (onto_append ps w here rest))

-- a production that alone finds something at a token
pub by_alt : {p : Part} (a : Alt p) (c : Class) (d : ℕ) (ps : Stack) (w : Bool) → each_alt (first longest_chain c) (alts_of p) d ≡ through (first longest_chain c) (slots a) d
    → cond (nullable p) (after c ps w) [] ≡ cond (all_nullable (slots a)) (after c ps w) []
    → after c ((same p, d) ∷ ps) w ≡ after c (at_depth d (slots a) ++ ps) w
by_alt {p} a c d ps w e n =
    ap (λ z. map (onto ps w) z ++ cond (nullable p) (after c ps w) []) (by_alts c p d ∙ e)
    ∙ ap (λ z. map (onto ps w) (through (first longest_chain c) (slots a) d) ++ z) n
    ∙ sym (after_through c ps w (slots a) d)

-- ---- one stack at the front of tokens

pub alike : (a b : Stack) → is_done a ≡ is_done b → (s : List Token) → ((t : Token) (r : List Token) → s ≡ t ∷ r → after (class_of t.kind) a true ≡ after (class_of t.kind) b true) → run s (at a) ≡ run s (at b)
alike a b e [] h = ap (λ z. Ends (z || false)) e
alike a b e (t ∷ s) h = by_what_stays t s (at a) (at b) (ap (λ z. z ++ []) (h t s refl))

-- ---- a token

token_goes : (t : Terminal) (d : ℕ) (token : Token) (r : List Token) (ps : Stack) (b w : Bool) → fits t (class_of token.kind) ≡ b → nat_le d deepest_token ≡ w
    → run (token ∷ r) (at ((one t, d) ∷ ps)) ≡ cond (b && w) (run r (at ps)) (Stops (cond b TooDeep Syntax) (suc (length r)))
token_goes t d token r ps true true e l =
    step token r (at ((one t, d) ∷ ps)) (at ps)
    (ap (λ z. (map (onto ps true) (cond z (([], nat_le d deepest_token) ∷ []) []) ++ []) ++ []) e ∙ ap (λ z. (ps, z) ∷ []) l) refl
token_goes t d token r ps true false e l =
    stop token r (at ((one t, d) ∷ ps)) ((ps, false) ∷ [])
    (ap (λ z. (map (onto ps true) (cond z (([], nat_le d deepest_token) ∷ []) []) ++ []) ++ []) e ∙ ap (λ z. (ps, z) ∷ []) l) refl
token_goes t d token r ps false w e l =
    stop token r (at ((one t, d) ∷ ps)) []
    (ap (λ z. (map (onto ps true) (cond z (([], nat_le d deepest_token) ∷ []) []) ++ []) ++ []) e) refl

pub one_goes : (t : Terminal) (d : ℕ) (s r : List Token) → Takes 0 d t s r → d ≤ deepest_token → (ps : Stack) → run s (at ((one t, d) ∷ ps)) ≡ run r (at ps)
one_goes t d s r x low ps = ap (λ z. run z (at ((one t, d) ∷ ps))) x.front ∙ token_goes t d x.token r ps true true x.fits_it (le-leb d deepest_token low)

pub took_one : (t : Terminal) (d : ℕ) (s r : List Token) (token : Token) (h : Held t) → s ≡ token ∷ r → fits t (class_of token.kind) ≡ true → d ≤ deepest_token → held t token ≡ h
    → TookOne t d s r h
took_one t d s r token h front f low is = record { x = record { token = token; front = front; fits_it = f; within = inl low }; is = is; low = low }

stuck_at : (t : Terminal) (d : ℕ) (s : List Token) (b : Bool) (e : End Stop) → ((token : Token) (rest : List Token) → s ≡ token ∷ rest → fits t (class_of token.kind) ≡ b)
    → Misfits b d s e → (where_to : Stop) → e ≡ endings.Fault where_to → (ps : Stack) → run s (at ((one t, d) ∷ ps)) ≡ outcome where_to
stuck_at t d [] b e agrees (inl m) where_to is ps = let same_stop : AtEnd ≡ where_to = cc in ap outcome same_stop
stuck_at t d [] b e agrees (inr m) where_to is ps = let same_stop : AtEnd ≡ where_to = cc in ap outcome same_stop
stuck_at t d (token ∷ rest) true e agrees (inl m) where_to is ps = absurd (not_empty token rest (sym (m.1 refl)))
stuck_at t d (token ∷ rest) false e agrees (inl m) where_to is ps =
    let same_stop : At Syntax (suc (length rest)) ≡ where_to = cc in
    token_goes t d token rest ps false (nat_le d deepest_token) (agrees token rest refl) refl ∙ ap outcome same_stop
stuck_at t d (token ∷ rest) b e agrees (inr m) where_to is ps =
    let same_stop : At TooDeep (suc (length rest)) ≡ where_to = cc in
    token_goes t d token rest ps true false (agrees token rest refl ∙ m.1) (lt-leb d deepest_token m.2) ∙ ap outcome same_stop

pub stuck_one : (t : Terminal) (d : ℕ) (s : List Token) (b : Bool) (e : End Stop) → ((token : Token) (rest : List Token) → s ≡ token ∷ rest → fits t (class_of token.kind) ≡ b)
    → Misfits b d s e → StuckOne t d s e
stuck_one t d s b e agrees m = record { stops = stuck_at t d s b e agrees m }

-- ---- right sides

pub end_all : (d : ℕ) (s : List Token) → TookAll [] d s s tt
end_all d s = record { x = ends; is = refl; goes = λ ps f. refl }

pub and_one : {t : Terminal} {xs : List Slot} {d : ℕ} {s m r : List Token} {h : Held t} {gs : AllGiven xs} → TookOne t d s m h → TookAll xs d m r gs → TookAll (one t ∷ xs) d s r (h, gs)
and_one {t} {xs} {d} {s} {m} {h = h} x y = record {
  x = takes x.x y.x;
  is = ap (λ z. (z, trees y.x)) x.is ∙ ap (λ z. (h, z)) y.is;
  goes = λ ps f. one_goes t d s m x.x x.low (at_depth d xs ++ ps) ∙ y.goes ps f;
}

pub and_same : {p : Part} {xs : List Slot} {d : ℕ} {s m r : List Token} {h : Tree p} {gs : AllGiven xs} → Took p d s m h → TookAll xs d m r gs → TookAll (same p ∷ xs) d s r (h, gs)
and_same {p} {xs} {d} {s} {m} {h = h} x y = record {
  x = part x.x y.x;
  is = ap (λ z. (z, trees y.x)) x.is ∙ ap (λ z. (h, z)) y.is;
  goes = λ ps f. x.goes (at_depth d xs ++ ps) f.0 ∙ y.goes ps f.1;
}

deeper_goes : (p : Part) (d : ℕ) (s : List Token) (ps : Stack) → run s (at ((deeper p, d) ∷ ps)) ≡ run s (at ((same p, d + 1) ∷ ps))
deeper_goes p d s ps = alike ((deeper p, d) ∷ ps) ((same p, d + 1) ∷ ps) refl s (λ t r e. refl)

pub and_deep : {p : Part} {xs : List Slot} {s m r : List Token} (d : ℕ) {h : Tree p} {gs : AllGiven xs} → Took p (d + 1) s m h → TookAll xs d m r gs → TookAll (deeper p ∷ xs) d s r (h, gs)
and_deep {p} {xs} {s} {m} d {h = h} x y = record {
  x = deep x.x y.x;
  is = ap (λ z. (z, trees y.x)) x.is ∙ ap (λ z. (h, z)) y.is;
  goes = λ ps f. deeper_goes p d s (at_depth d xs ++ ps) ∙ x.goes (at_depth d xs ++ ps) f.0 ∙ y.goes ps f.1;
}

pub at_one : {t : Terminal} {d : ℕ} {s : List Token} {e : End Stop} {xs : List Slot} → StuckOne t d s e → StuckAll (one t ∷ xs) d s e
at_one {d = d} {xs = xs} x = record { stops = λ stop is ps f. x.stops stop is (at_depth d xs ++ ps) }

pub at_same : {p : Part} {d : ℕ} {s : List Token} {e : End Stop} {xs : List Slot} → Stuck p d s e → StuckAll (same p ∷ xs) d s e
at_same {d = d} {xs = xs} x = record { stops = λ stop is ps f. x.stops stop is (at_depth d xs ++ ps) f.0 }

pub at_deep : {p : Part} (d : ℕ) {s : List Token} {e : End Stop} {xs : List Slot} → Stuck p (d + 1) s e → StuckAll (deeper p ∷ xs) d s e
at_deep {p} d {s} {xs = xs} x = record { stops = λ stop is ps f. deeper_goes p d s (at_depth d xs ++ ps) ∙ x.stops stop is (at_depth d xs ++ ps) f.0 }

pub past_one : {t : Terminal} {xs : List Slot} {d : ℕ} {s m : List Token} {h : Held t} {e : End Stop} → TookOne t d s m h → StuckAll xs d m e → StuckAll (one t ∷ xs) d s e
past_one {t} {xs} {d} {s} {m} x y = record { stops = λ stop is ps f. one_goes t d s m x.x x.low (at_depth d xs ++ ps) ∙ y.stops stop is ps f }

pub past_same : {p : Part} {xs : List Slot} {d : ℕ} {s m : List Token} {h : Tree p} {e : End Stop} → Took p d s m h → StuckAll xs d m e → StuckAll (same p ∷ xs) d s e
past_same {xs = xs} {d} x y = record { stops = λ stop is ps f. x.goes (at_depth d xs ++ ps) f.0 ∙ y.stops stop is ps f.1 }

pub past_deep : {p : Part} {xs : List Slot} (d : ℕ) {s m : List Token} {h : Tree p} {e : End Stop} → Took p (d + 1) s m h → StuckAll xs d m e → StuckAll (deeper p ∷ xs) d s e
past_deep {p} {xs} d {s} x y = record { stops = λ stop is ps f. deeper_goes p d s (at_depth d xs ++ ps) ∙ x.goes (at_depth d xs ++ ps) f.0 ∙ y.stops stop is ps f.1 }

-- ---- a part by one of its productions

-- where the next tokens let a part be read by a production alone
pub record Chosen {p : Part} (a : Alt p) (d : ℕ) (s : List Token) : Type 0 where
  pub same_run : (ps : Stack) → Refuses (goes_on p) ps → run s (at ((same p, d) ∷ ps)) ≡ run s (at (at_depth d (slots a) ++ ps))
  pub fit : (ps : Stack) → Refuses (goes_on p) ps → Fits d (slots a) ps

pub took_by : {p : Part} (a : Alt p) {d : ℕ} {s r : List Token} {gs : AllGiven (slots a)} → TookAll (slots a) d s r gs → TookBy a d s r (made a gs)
took_by a x = record { gs = _; all = x; is = refl }

pub took_as : {p : Part} (a : Alt p) {d : ℕ} {s r : List Token} {gs : AllGiven (slots a)} {t : Tree p} → TookAll (slots a) d s r gs → made a gs ≡ t → TookBy a d s r t
took_as a x e = record { gs = _; all = x; is = e }

pub chosen_took : {p : Part} {a : Alt p} {d : ℕ} {s r : List Token} {t : Tree p} → Chosen a d s → TookBy a d s r t → Took p d s r t
chosen_took {a = a} chosen x = record {
  x = by a x.all.x;
  is = ap (made a) x.all.is ∙ x.is;
  goes = λ ps f. chosen.same_run ps f ∙ x.all.goes ps (chosen.fit ps f);
}

pub chosen_stuck : {p : Part} {a : Alt p} {d : ℕ} {s : List Token} {e : End Stop} → Chosen a d s → StuckAll (slots a) d s e → Stuck p d s e
chosen_stuck chosen x = record { stops = λ stop is ps f. chosen.same_run ps f ∙ x.stops stop is ps (chosen.fit ps f) }

pub chosen_reads : {p : Part} (a : Alt p) (d : ℕ) (s r : List Token) (result : Result (Tree p) (End Stop)) → Chosen a d s → ReadsBy a d s result r → Reads p d s result r
chosen_reads a d s r (Ok t) chosen x = chosen_took chosen x
chosen_reads a d s r (Err e) chosen x = chosen_stuck chosen x

-- ---- when a production is chosen

pub seen_same : (a b : Class) → seen_of a ≡ seen_of b → a ≡ b
seen_same (ASign a) (ASign b) h = let same : a ≡ b = cc in ap ASign same
seen_same (AWord a) (AWord b) h = let same : a ≡ b = cc in ap AWord same
seen_same NumberClass NumberClass h = refl
seen_same ColourClass ColourClass h = refl
seen_same TextClass TextClass h = refl
seen_same HeadClass HeadClass h = refl
seen_same MidClass MidClass h = refl
seen_same TailClass TailClass h = refl
seen_same _ _ h = cc

pub seen_not_end : (c : Class) → seens.End ≡ seen_of c → ⊥
seen_not_end (ASign s) h = cc
seen_not_end _ h = cc

-- two stacks that go on alike at the class that is seen
pub alike_at : (c : Class) (s : List Token) → seen s ≡ seen_of c → (a b : Stack) → after c a true ≡ after c b true → run s (at a) ≡ run s (at b)
alike_at c [] h a b e = absurd (seen_not_end c h)
alike_at c (t ∷ s) h a b e = by_what_stays t s (at a) (at b) (ap (λ z. z ++ []) (subst (λ z. after z a true ≡ after z b true) (sym (seen_same (class_of t.kind) c h)) e))

-- at a token of a known class
pub chosen_at : {p : Part} (a : Alt p) (d : ℕ) (s : List Token) (c : Class) → seen s ≡ seen_of c
    → ((ps : Stack) → Refuses (goes_on p) ps → after c ((same p, d) ∷ ps) true ≡ after c (at_depth d (slots a) ++ ps) true)
    → ((ps : Stack) → Refuses (goes_on p) ps → Fits d (slots a) ps) → Chosen a d s
chosen_at {p} a d s c h e f = record { same_run = λ ps g. alike_at c s h ((same p, d) ∷ ps) (at_depth d (slots a) ++ ps) (e ps g); fit = f }

done_all : (d : ℕ) (xs : List Slot) (ps : Stack) → is_done (at_depth d xs ++ ps) ≡ (all_nullable xs && is_done ps)
done_all d [] ps = refl
done_all d (x ∷ xs) ps = done_more (nullable_slot x) (all_nullable xs) (is_done ps) (is_done (at_depth d xs ++ ps)) (done_all d xs ps)
  where
    done_more : (a b c e : Bool) → e ≡ (b && c) → (a && e) ≡ ((a && b) && c)
    done_more true b c e h = h
    done_more false b c e h = refl

-- at any token and at the end, where the other productions find nothing
pub chosen_if : {p : Part} (a : Alt p) (d : ℕ) (s : List Token) → nullable p ≡ all_nullable (slots a)
    → ((t : Token) (r : List Token) → s ≡ t ∷ r → each_alt (first longest_chain (class_of t.kind)) (alts_of p) d ≡ through (first longest_chain (class_of t.kind)) (slots a) d)
    → ((ps : Stack) → Refuses (goes_on p) ps → Fits d (slots a) ps) → Chosen a d s
chosen_if {p} a d s n e f = record {
  same_run = λ ps g. alike ((same p, d) ∷ ps) (at_depth d (slots a) ++ ps) (ap (λ z. z && is_done ps) n ∙ sym (done_all d (slots a) ps)) s
      (λ t r h. by_alt a (class_of t.kind) d ps true (e t r h) (ap (λ z. cond z (after (class_of t.kind) ps true) []) n));
  fit = f;
}

same_none : (b c : Bool) (ls : List Left) → ls ≡ [] → cond b ls [] ≡ cond c ls []
same_none true true ls e = refl
same_none true false ls e = e
same_none false true ls e = sym e
same_none false false ls e = refl

-- at a class that what follows refuses
pub chosen_here : {p : Part} (a : Alt p) (d : ℕ) (s : List Token) (c : Class) → seen s ≡ seen_of c → ((ps : Stack) → Refuses (goes_on p) ps → after c ps true ≡ [])
    → each_alt (first longest_chain c) (alts_of p) d ≡ through (first longest_chain c) (slots a) d → ((ps : Stack) → Refuses (goes_on p) ps → Fits d (slots a) ps) → Chosen a d s
chosen_here {p} a d s c h none e f = chosen_at a d s c h (λ ps g. by_alt a c d ps true e (same_none (nullable p) (all_nullable (slots a)) (after c ps true) (none ps g))) f

-- a part with one production
pub chosen_alone : {p : Part} (a : Alt p) (d : ℕ) (s : List Token) → alts_of p ≡ a ∷ [] → nullable p ≡ all_nullable (slots a) → ((ps : Stack) → Refuses (goes_on p) ps → Fits d (slots a) ps) → Chosen a d s
chosen_alone a d s only_one n f =
    chosen_if a d s n (λ t r h. ap (λ z. each_alt (first longest_chain (class_of t.kind)) z d) only_one ∙ append-nil (through (first longest_chain (class_of t.kind)) (slots a) d)) f

-- a right side that begins with a token that isn't there finds nothing
pub no_lead : (c : Class) (t : Terminal) (xs : List Slot) (d : ℕ) → fits t c ≡ false → through (first longest_chain c) (one t ∷ xs) d ≡ []
no_lead c t xs d e = ap (λ z. map (behind (at_depth d xs)) (cond z (([], nat_le d deepest_token) ∷ []) []) ++ []) e

pub no_lead_part : (c : Class) (q : Part) (xs : List Slot) (d : ℕ) → first longest_chain c (same q) d ≡ [] → nullable q ≡ false → through (first longest_chain c) (same q ∷ xs) d ≡ []
no_lead_part c q xs d e n = ap (λ z. map (behind (at_depth d xs)) z ++ cond (nullable q) (through (first longest_chain c) xs d) []) e ∙ ap (λ z. cond z (through (first longest_chain c) xs d) []) n

-- the same, of a production
pub no_alt : {p : Part} {xs : List Slot} (a : Alt p) (t : Terminal) (c : Class) (d : ℕ) → slots a ≡ one t ∷ xs → fits t c ≡ false → through (first longest_chain c) (slots a) d ≡ []
no_alt {xs = xs} a t c d is e = ap (λ z. through (first longest_chain c) z d) is ∙ no_lead c t xs d e

pub no_alt_part : {p : Part} {xs : List Slot} (a : Alt p) (q : Part) (c : Class) (d : ℕ) → slots a ≡ same q ∷ xs → first longest_chain c (same q) d ≡ [] → nullable q ≡ false
    → through (first longest_chain c) (slots a) d ≡ []
no_alt_part {xs = xs} a q c d is e n = ap (λ z. through (first longest_chain c) z d) is ∙ no_lead_part c q xs d e n

-- the first of two productions, and the second
pub chosen_first : {p : Part} (a b : Alt p) (d : ℕ) (s : List Token) → alts_of p ≡ a ∷ b ∷ [] → nullable p ≡ all_nullable (slots a)
    → ((t : Token) (r : List Token) → s ≡ t ∷ r → through (first longest_chain (class_of t.kind)) (slots b) d ≡ [])
    → ((ps : Stack) → Refuses (goes_on p) ps → Fits d (slots a) ps) → Chosen a d s
chosen_first a b d s two n none f =
    chosen_if a d s n (λ t r h. ap (λ z. each_alt (first longest_chain (class_of t.kind)) z d) two
    ∙ ap (λ z. through (first longest_chain (class_of t.kind)) (slots a) d ++ (z ++ [])) (none t r h) ∙ append-nil (through (first longest_chain (class_of t.kind)) (slots a) d)) f

pub chosen_second : {p : Part} (a b : Alt p) (d : ℕ) (s : List Token) → alts_of p ≡ a ∷ b ∷ [] → nullable p ≡ all_nullable (slots b)
    → ((t : Token) (r : List Token) → s ≡ t ∷ r → through (first longest_chain (class_of t.kind)) (slots a) d ≡ [])
    → ((ps : Stack) → Refuses (goes_on p) ps → Fits d (slots b) ps) → Chosen b d s
chosen_second a b d s two n none f =
    chosen_if b d s n (λ t r h. ap (λ z. each_alt (first longest_chain (class_of t.kind)) z d) two
    ∙ ap (λ z. z ++ (through (first longest_chain (class_of t.kind)) (slots b) d ++ [])) (none t r h) ∙ append-nil (through (first longest_chain (class_of t.kind)) (slots b) d)) f

-- ---- loops: what was read so far leads from one part to another, of whose tree the function makes the first one's

pub record Leads (p : Part) (d : ℕ) (s : List Token) (q : Part) (m : List Token) (f : Tree q → Tree p) : Type 0 where
  pub joins : (r : List Token) (x : Derives 0 q d m r) → (y : Derives 0 p d s r) × (tree y ≡ f (tree x))
  pub goes : (ps : Stack) → Refuses (goes_on p) ps → run s (at ((same p, d) ∷ ps)) ≡ run m (at ((same q, d) ∷ ps))
  pub hands : (ps : Stack) → Refuses (goes_on p) ps → Refuses (goes_on q) ps

pub leads_self : (p : Part) (d : ℕ) (s : List Token) → Leads p d s p s (λ t. t)
leads_self p d s = record { joins = λ r x. (x, refl); goes = λ ps g. refl; hands = λ ps g. g }

pub leads_took : {p q : Part} {d : ℕ} {s m r : List Token} {f : Tree q → Tree p} {t : Tree q} → Leads p d s q m f → Took q d m r t → Took p d s r (f t)
leads_took {r = r} {f = f} way x = let w = way.joins r x.x in record { x = w.0; is = w.1 ∙ ap f x.is; goes = λ ps g. way.goes ps g ∙ x.goes ps (way.hands ps g) }

pub leads_stuck : {p q : Part} {d : ℕ} {s m : List Token} {e : End Stop} {f : Tree q → Tree p} → Leads p d s q m f → Stuck q d m e → Stuck p d s e
leads_stuck way x = record { stops = λ stop is ps g. way.goes ps g ∙ x.stops stop is ps (way.hands ps g) }

pub leads_on : {p q o : Part} {d : ℕ} {s m n : List Token} {f : Tree q → Tree p} {g : Tree o → Tree q} → Leads p d s q m f → Leads q d m o n g → Leads p d s o n (λ t. f (g t))
leads_on {f = f} way next = record {
  joins = λ r x. let w = next.joins r x in let v = way.joins r w.0 in (v.0, v.1 ∙ ap f w.1);
  goes = λ ps h. way.goes ps h ∙ next.goes ps (way.hands ps h);
  hands = λ ps h. next.hands ps (way.hands ps h);
}

pub leads_as : {p q : Part} {d : ℕ} {s m : List Token} {f g : Tree q → Tree p} → Leads p d s q m f → ((t : Tree q) → f t ≡ g t) → Leads p d s q m g
leads_as way e = record { joins = λ r x. let w = way.joins r x in (w.0, w.1 ∙ e (tree x)); goes = way.goes; hands = way.hands }

-- a right side up to its last place, which is a part at the same depth that is still to come
pub record Front (xs : List Slot) (d : ℕ) (s : List Token) (q : Part) (m : List Token) (f : Tree q → AllGiven xs) : Type 0 where
  pub joins : (r : List Token) (x : Derives 0 q d m r) → (y : Through 0 xs d s r) × (trees y ≡ f (tree x))
  pub goes : (ps : Stack) → Fits d xs ps → run s (at (at_depth d xs ++ ps)) ≡ run m (at ((same q, d) ∷ ps))

pub front_last : (q : Part) (d : ℕ) (s : List Token) → Front (same q ∷ []) d s q s (λ t. (t, tt))
front_last q d s = record { joins = λ r x. (part x ends, refl); goes = λ ps f. refl }

pub front_one : {t : Terminal} {xs : List Slot} {d : ℕ} {s m n : List Token} {q : Part} {h : Held t} {f : Tree q → AllGiven xs} → TookOne t d s m h → Front xs d m q n f → Front (one t ∷ xs) d s q n (λ z. (h, f z))
front_one {t} {xs} {d} {s} {m} {q = q} {h} {f} x y = record {
  joins = λ r z. let w = y.joins r z in (takes x.x w.0, ap (λ a. (a, trees w.0)) x.is ∙ ap (λ b. (h, b)) w.1);
  goes = λ ps g. one_goes t d s m x.x x.low (at_depth d xs ++ ps) ∙ y.goes ps g;
}

pub front_same : {p : Part} {xs : List Slot} {d : ℕ} {s m n : List Token} {q : Part} {h : Tree p} {f : Tree q → AllGiven xs} → Took p d s m h → Front xs d m q n f → Front (same p ∷ xs) d s q n (λ z. (h, f z))
front_same {p} {xs} {d} {s} {m} {q = q} {h} {f} x y = record {
  joins = λ r z. let w = y.joins r z in (part x.x w.0, ap (λ a. (a, trees w.0)) x.is ∙ ap (λ b. (h, b)) w.1);
  goes = λ ps g. x.goes (at_depth d xs ++ ps) g.0 ∙ y.goes ps g.1;
}

pub front_deep : {p : Part} {xs : List Slot} (d : ℕ) {s m n : List Token} {q : Part} {h : Tree p} {f : Tree q → AllGiven xs} → Took p (d + 1) s m h → Front xs d m q n f → Front (deeper p ∷ xs) d s q n (λ z. (h, f z))
front_deep {p} {xs} d {s} {m} {q = q} {h} {f} x y = record {
  joins = λ r z. let w = y.joins r z in (deep x.x w.0, ap (λ a. (a, trees w.0)) x.is ∙ ap (λ b. (h, b)) w.1);
  goes = λ ps g. deeper_goes p d s (at_depth d xs ++ ps) ∙ x.goes (at_depth d xs ++ ps) g.0 ∙ y.goes ps g.1;
}

pub leads_by : {p : Part} {a : Alt p} {d : ℕ} {s m : List Token} {q : Part} {f : Tree q → AllGiven (slots a)} → Chosen a d s → Front (slots a) d s q m f
    → ((ps : Stack) → Refuses (goes_on p) ps → Refuses (goes_on q) ps) → Leads p d s q m (λ t. made a (f t))
leads_by {a = a} chosen y hands = record {
  joins = λ r x. let w = y.joins r x in (by a w.0, ap (made a) w.1);
  goes = λ ps g. chosen.same_run ps g ∙ y.goes ps (chosen.fit ps g);
  hands = hands;
}

-- ---- stacks that refuse, by computation

abbrev pub is_nothing : List Left → Bool
is_nothing [] = true
is_nothing (l ∷ ls) = false

abbrev pub all_nothing : List Class → Stack → Bool
all_nothing [] ps = true
all_nothing (c ∷ cs) ps = is_nothing (after c ps true) && all_nothing cs ps

nothing : (ls : List Left) → is_nothing ls ≡ true → ls ≡ []
nothing [] h = refl
nothing (l ∷ ls) h = absurd (true≢false (sym h))

pub refuses_all : (cs : List Class) (ps : Stack) → all_nothing cs ps ≡ true → Refuses cs ps
refuses_all [] ps h = tt
refuses_all (c ∷ cs) ps h = let parts = and_parts (is_nothing (after c ps true)) (all_nothing cs ps) h in (nothing (after c ps true) parts.0, refuses_all cs ps parts.1)

-- ---- where a `?` ends a function

pub by_error : {T : Type 0} (P : Result T (End Stop) → Type 0) (e : End Stop) (r : Result T (End Stop)) → IsErrAnd r (λ y. y ≡ e) → P (Err e) → P r
by_error P e (Err y) h k = subst (λ z. P (Err z)) (sym h) k
by_error P e (Ok x) h k = absurd h

pub one_error : (t : Terminal) (d : ℕ) (s r : List Token) (e : End Stop) (result : Result (Held t) (End Stop)) → IsErrAnd result (λ y. y ≡ e) → StuckOne t d s e → ReadsOne t d s result r
one_error t d s r e result h k = by_error (λ z. ReadsOne t d s z r) e result h k

pub part_error : (p : Part) (d : ℕ) (s r : List Token) (e : End Stop) (result : Result (Tree p) (End Stop)) → IsErrAnd result (λ y. y ≡ e) → Stuck p d s e → Reads p d s result r
part_error p d s r e result h k = by_error (λ z. Reads p d s z r) e result h k

pub alt_error : {p : Part} (a : Alt p) (d : ℕ) (s r : List Token) (e : End Stop) (result : Result (Tree p) (End Stop)) → IsErrAnd result (λ y. y ≡ e) → StuckAll (slots a) d s e → ReadsBy a d s result r
alt_error a d s r e result h k = by_error (λ z. ReadsBy a d s z r) e result h k

no_fault : (stop : Stop) → endings.Memory ≡ endings.Fault stop → ⊥
no_fault stop e = cc

pub one_memory : (t : Terminal) (d : ℕ) (s r : List Token) (result : Result (Held t) (End Stop)) → IsErrAnd result (λ y. y ≡ endings.Memory) → ReadsOne t d s result r
one_memory t d s r result h = one_error t d s r endings.Memory result h (record { stops = λ stop is ps. absurd (no_fault stop is) })

pub no_memory : (p : Part) (d : ℕ) (s : List Token) → Stuck p d s endings.Memory
no_memory p d s = record { stops = λ stop is ps f. absurd (no_fault stop is) }

pub part_memory : (p : Part) (d : ℕ) (s r : List Token) (result : Result (Tree p) (End Stop)) → IsErrAnd result (λ y. y ≡ endings.Memory) → Reads p d s result r
part_memory p d s r result h = part_error p d s r endings.Memory result h (record { stops = λ stop is ps f. absurd (no_fault stop is) })

pub alt_memory : {p : Part} (a : Alt p) (d : ℕ) (s r : List Token) (result : Result (Tree p) (End Stop)) → IsErrAnd result (λ y. y ≡ endings.Memory) → ReadsBy a d s result r
alt_memory a d s r result h = alt_error a d s r endings.Memory result h (record { stops = λ stop is ps f. absurd (no_fault stop is) })
