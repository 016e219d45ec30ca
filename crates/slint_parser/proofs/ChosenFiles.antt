-- Which productions read a file's items, and what is read.
use Rattle.std.proofs.Common.{◌≡◌, ℕ, ◌<◌, true, cond, List, [], ◌∷◌, ◌++◌, length, map, drop, nat_le, sym, refl, ap, ◌∙◌, subst, append-nil, append_assoc, arith}
use Rattle.std.specs.Prelude.{Option, Some, None, Result, Ok, Err}
use Rattle.std.specs.Result.{IsErrAnd}
use Rattle.slint_base.specs.declared.faults.Span.{Span}
use Rattle.slint_base.specs.declared.endings.End.{End}
use Rattle.slint_base.specs.declared.endings.End.TheVariants as endings
use Rattle.slint_lexer.specs.declared.tokens.Symbol.TheVariants as symbols
use Rattle.slint_lexer.specs.declared.tokens.Token.{Token}
use Rattle.syntax_tree.specs.declared.words.Ident.{Ident}
use Rattle.syntax_tree.specs.declared.files.Decl.TheVariants as decls
use Rattle.syntax_tree.specs.declared.files.FileItem.{FileItem}
use Rattle.slint_grammar.specs.declared.words.Word.TheVariants as words
use Rattle.slint_parser.specs.declared.stops.Stop.{Stop}
use Rattle.slint_parser.specs.declared.stops.Seen.TheVariants as seens
use Rattle.slint_grammar.specs.Parts as parts
use Rattle.slint_grammar.specs.Grammar.{Sign, TheWord, AnyName, AText, one, same, deeper, slots}
use Rattle.slint_grammar.specs.Grammar.{Alt as alts}
use Rattle.slint_grammar.specs.Derivations.{Class, ASign, AWord, class_of, deepest_token, Derives, by, ends, part, tree}
use Rattle.slint_parser.specs.Readings.{at, outcome, seen, seen_of, TookOne, StuckOne, Took, Stuck, TookBy, BehindItem}
use Rattle.slint_grammar.specs.Stacks.{Stack, Left, onto, through, first, longest_chain, after, afters, run, start}
use Rattle.slint_parser.specs.Files.{ReadsFile, ReadsMore}
use Rattle.slint_parser.proofs.Signs.{not_sign, not_word}
use Rattle.slint_grammar.proofs.Steps.{Lost, by_what_stays}
use Rattle.slint_parser.proofs.Joining as joining
use Rattle.slint_parser.proofs.Joining.{Chosen, chosen_at, chosen_alone, chosen_first, chosen_took, chosen_stuck, took_by, end_all, and_one, and_same, and_deep, at_one, at_same, at_deep, past_one, past_same, past_deep, no_lead, by_alt, seen_same, seen_not_end}
use Rattle.slint_parser.proofs.Lists.{rest_comma}
use Rattle.slint_parser.proofs.Listing.{chosen_item, After}
use Rattle.slint_parser.proofs.Shorter.{shorter, taken_shorter}
use Rattle.slint_parser.proofs.Among.{chosen_among}
use Rattle.slint_parser.proofs.Forks.{tagged, fork}

-- ---- items of a file

pub chosen_import : (d : ℕ) (s : List Token) → seen s ≡ seens.Word words.Import → Chosen alts.import_item d s
chosen_import d s e = chosen_at alts.import_item d s (AWord words.Import) e (λ ps g. refl) (λ ps g. ((refl, tt), tt))

pub chosen_declared : (d : ℕ) (s : List Token) → (seen s ≡ seens.Word words.Import → ⊥) → (seen s ≡ seens.Word words.Export → ⊥) → Chosen alts.declared d s
chosen_declared d s no_import no_export =
    chosen_among (alts.import_item ∷ alts.export_list ∷ alts.export_all ∷ []) alts.declared (alts.exported ∷ []) d s refl refl
    (λ t r e. let x = not_word words.Export s no_export t r e in (
      (
        no_lead (class_of t.kind) (TheWord words.Import) (same parts.ImportNames ∷ one AText ∷ one (Sign symbols.Semicolon) ∷ []) d (not_word words.Import s no_import t r e),
        (
          no_lead (class_of t.kind) (TheWord words.Export) (one (Sign symbols.OpenBrace) ∷ same (parts.Listing parts.Aliases) ∷ same parts.MaySemicolon ∷ []) d x,
          (no_lead (class_of t.kind) (TheWord words.Export) (one (Sign symbols.Star) ∷ one (TheWord words.From) ∷ one AText ∷ one (Sign symbols.Semicolon) ∷ []) d x, tt),
        ),
      ),
      (no_lead (class_of t.kind) (TheWord words.Export) (same parts.Decl ∷ []) d x, tt),
    )) (λ ps g. (tt, tt))

-- the three stacks behind `export`
abbrev list_stack : ℕ → Stack → Stack
list_stack d ps = (one (Sign symbols.OpenBrace), d) ∷ (same (parts.Listing parts.Aliases), d) ∷ (same parts.MaySemicolon, d) ∷ ps

abbrev all_stack : ℕ → Stack → Stack
all_stack d ps = (one (Sign symbols.Star), d) ∷ (one (TheWord words.From), d) ∷ (one AText, d) ∷ (one (Sign symbols.Semicolon), d) ∷ ps

abbrev decl_stack : ℕ → Stack → Stack
decl_stack d ps = (same parts.Decl, d) ∷ ps

export_goes : (d : ℕ) (ps : Stack) → after (AWord words.Export) ((same parts.FileItem, d) ∷ ps) true ≡ tagged (nat_le d deepest_token) (list_stack d ps ∷ all_stack d ps ∷ decl_stack d ps ∷ [])
export_goes d ps = refl

nothing_lost : (s : List Token) → Lost s []
nothing_lost [] = refl
nothing_lost (t ∷ s) = refl

lost_at : (c : Class) (s : List Token) (ls : List Left) → seen s ≡ seen_of c → afters c ls ≡ [] → Lost s ls
lost_at c [] ls e k = absurd (seen_not_end c e)
lost_at c (t ∷ s) ls e k = let P : Class → Type 0 = λ z. afters z ls ≡ [] in subst P (sym (seen_same (class_of t.kind) c e)) k

pub chosen_export_list : (d : ℕ) (s : List Token) → seen s ≡ seens.Word words.Export → seen (drop 1 s) ≡ seens.Symbol symbols.OpenBrace → Chosen alts.export_list d s
chosen_export_list d [] e k = absurd (seen_not_end (AWord words.Export) e)
chosen_export_list d (t ∷ s) e k = record {
  same_run = λ ps g. fork t s (AWord words.Export) ((same parts.FileItem, d) ∷ ps) ((one (TheWord words.Export), d) ∷ list_stack d ps) (list_stack d ps) [] (all_stack d ps ∷ decl_stack d ps ∷ [])
      (nat_le d deepest_token) (seen_same (class_of t.kind) (AWord words.Export) e) (export_goes d ps) refl (nothing_lost s)
      (lost_at (ASign symbols.OpenBrace) s (tagged true (all_stack d ps ∷ decl_stack d ps ∷ [])) k refl);
  fit = λ ps g. (tt, (g, tt));
}

pub chosen_export_all : (d : ℕ) (s : List Token) → seen s ≡ seens.Word words.Export → seen (drop 1 s) ≡ seens.Symbol symbols.Star → Chosen alts.export_all d s
chosen_export_all d [] e k = absurd (seen_not_end (AWord words.Export) e)
chosen_export_all d (t ∷ s) e k = record {
  same_run = λ ps g. fork t s (AWord words.Export) ((same parts.FileItem, d) ∷ ps) ((one (TheWord words.Export), d) ∷ all_stack d ps) (all_stack d ps) (list_stack d ps ∷ []) (decl_stack d ps ∷ [])
      (nat_le d deepest_token) (seen_same (class_of t.kind) (AWord words.Export) e) (export_goes d ps) refl
      (lost_at (ASign symbols.Star) s (tagged true (list_stack d ps ∷ [])) k refl) (lost_at (ASign symbols.Star) s (tagged true (decl_stack d ps ∷ [])) k refl);
  fit = λ ps g. tt;
}

-- neither of these symbols
lost_signs : (d : ℕ) (ps : Stack) (s : List Token) → (seen s ≡ seens.Symbol symbols.OpenBrace → ⊥) → (seen s ≡ seens.Symbol symbols.Star → ⊥) → Lost s (tagged true (list_stack d ps ∷ all_stack d ps ∷ []))
lost_signs d ps [] n m = refl
lost_signs d ps (t ∷ s) n m =
    ap (λ z. (map (onto ((same (parts.Listing parts.Aliases), d) ∷ (same parts.MaySemicolon, d) ∷ ps) true) (cond z (([], nat_le d deepest_token) ∷ []) []) ++ [])
    ++ afters (class_of t.kind) (tagged true (all_stack d ps ∷ []))) (not_sign symbols.OpenBrace (t ∷ s) n t s refl)
    ∙ ap (λ z. (map (onto ((one (TheWord words.From), d) ∷ (one AText, d) ∷ (one (Sign symbols.Semicolon), d) ∷ ps) true) (cond z (([], nat_le d deepest_token) ∷ []) []) ++ []) ++ [])
    (not_sign symbols.Star (t ∷ s) m t s refl)

pub chosen_exported : (d : ℕ) (s : List Token) → seen s ≡ seens.Word words.Export → (seen (drop 1 s) ≡ seens.Symbol symbols.OpenBrace → ⊥) → (seen (drop 1 s) ≡ seens.Symbol symbols.Star → ⊥) → Chosen alts.exported d s
chosen_exported d [] e n m = absurd (seen_not_end (AWord words.Export) e)
chosen_exported d (t ∷ s) e n m = record {
  same_run = λ ps g. fork t s (AWord words.Export) ((same parts.FileItem, d) ∷ ps) ((one (TheWord words.Export), d) ∷ decl_stack d ps) (decl_stack d ps) (list_stack d ps ∷ all_stack d ps ∷ []) []
      (nat_le d deepest_token) (seen_same (class_of t.kind) (AWord words.Export) e) (export_goes d ps) refl (lost_signs d ps s n m) (nothing_lost s);
  fit = λ ps g. (tt, tt);
}

-- ---- names in braces

names_goes : (c : Class) (d : ℕ) (ps : Stack) → after c ps true ≡ [] → after c ((same parts.ImportNames, d) ∷ ps) true
    ≡ after c ((one (Sign symbols.OpenBrace), d) ∷ (same (parts.Listing parts.Aliases), d) ∷ (one (TheWord words.From), d) ∷ ps) true
names_goes c d ps e = by_alt alts.import_names c d ps true (append-nil (through (first longest_chain c) (slots alts.import_names) d)) e

pub chosen_names : (d : ℕ) (s : List Token) → seen s ≡ seens.Symbol symbols.OpenBrace → Chosen alts.import_names d s
chosen_names d s e = chosen_at alts.import_names d s (ASign symbols.OpenBrace) e (λ ps g. names_goes (ASign symbols.OpenBrace) d ps g.0) (λ ps g. (tt, tt))

pub no_names : (d : ℕ) (s : List Token) → (seen s ≡ seens.Symbol symbols.OpenBrace → ⊥) → Took parts.ImportNames d s s None
no_names d s n = chosen_took (chosen_first alts.import_all alts.import_names d s refl refl
    (λ t r e. no_lead (class_of t.kind) (Sign symbols.OpenBrace) (same (parts.Listing parts.Aliases) ∷ one (TheWord words.From) ∷ []) d (not_sign symbols.OpenBrace s n t r e)) (λ ps g. tt)) (took_by alts.import_all (end_all d s))

pub chosen_alias : (d : ℕ) (s : List Token) → Chosen alts.alias d s
chosen_alias d s = chosen_alone alts.alias d s refl refl (λ ps g. (g, tt))

new_goes : (c : Class) (d : ℕ) (ps : Stack) → after c ps true ≡ [] → after c ((same parts.NewName, d) ∷ ps) true ≡ after c ((one (TheWord words.As), d) ∷ (one AnyName, d) ∷ ps) true
new_goes c d ps e = by_alt alts.new_name c d ps true (append-nil (through (first longest_chain c) (slots alts.new_name) d)) e

pub chosen_new : (d : ℕ) (s : List Token) → seen s ≡ seens.Word words.As → Chosen alts.new_name d s
chosen_new d s e = chosen_at alts.new_name d s (AWord words.As) e (λ ps g. new_goes (AWord words.As) d ps g.0) (λ ps g. tt)

pub no_new : (d : ℕ) (s : List Token) → (seen s ≡ seens.Word words.As → ⊥) → Took parts.NewName d s s None
no_new d s n = chosen_took (chosen_first alts.same_name alts.new_name d s refl refl
    (λ t r e. no_lead (class_of t.kind) (TheWord words.As) (one AnyName ∷ []) d (not_word words.As s n t r e)) (λ ps g. tt)) (took_by alts.same_name (end_all d s))

base_goes : (c : Class) (d : ℕ) (ps : Stack) → after c ps true ≡ [] → after c ((same parts.Base, d) ∷ ps) true ≡ after c ((one (TheWord words.Inherits), d) ∷ (one AnyName, d) ∷ ps) true
base_goes c d ps e = by_alt alts.base c d ps true (append-nil (through (first longest_chain c) (slots alts.base) d)) e

pub chosen_base : (d : ℕ) (s : List Token) → seen s ≡ seens.Word words.Inherits → Chosen alts.base d s
chosen_base d s e = chosen_at alts.base d s (AWord words.Inherits) e (λ ps g. base_goes (AWord words.Inherits) d ps g.0) (λ ps g. tt)

pub no_base : (d : ℕ) (s : List Token) → (seen s ≡ seens.Word words.Inherits → ⊥) → Took parts.Base d s s None
no_base d s n = chosen_took (chosen_first alts.no_base alts.base d s refl refl
    (λ t r e. no_lead (class_of t.kind) (TheWord words.Inherits) (one AnyName ∷ []) d (not_word words.Inherits s n t r e)) (λ ps g. tt)) (took_by alts.no_base (end_all d s))

-- ---- declarations

pub chosen_component : (d : ℕ) (s : List Token) → seen s ≡ seens.Word words.Component → Chosen alts.component d s
chosen_component d s e = chosen_at alts.component d s (AWord words.Component) e (λ ps g. refl) (λ ps g. ((refl, tt), (tt, tt)))

pub chosen_global : (d : ℕ) (s : List Token) → seen s ≡ seens.Word words.Global → Chosen alts.global d s
chosen_global d s e = chosen_at alts.global d s (AWord words.Global) e (λ ps g. refl) (λ ps g. (tt, tt))

pub chosen_struct_decl : (d : ℕ) (s : List Token) → seen s ≡ seens.Word words.Struct → Chosen alts.struct_decl d s
chosen_struct_decl d s e = chosen_at alts.struct_decl d s (AWord words.Struct) e (λ ps g. refl) (λ ps g. (tt, tt))

pub chosen_enum_decl : (d : ℕ) (s : List Token) → (seen s ≡ seens.Word words.Component → ⊥) → (seen s ≡ seens.Word words.Global → ⊥) → (seen s ≡ seens.Word words.Struct → ⊥) → Chosen alts.enum_decl d s
chosen_enum_decl d s no_component no_global no_struct =
    chosen_among (alts.component ∷ alts.global ∷ alts.struct_decl ∷ []) alts.enum_decl [] d s refl refl
    (λ t r e. (
      (
        no_lead (class_of t.kind) (TheWord words.Component) (one AnyName ∷ same parts.Base ∷ deeper parts.Body ∷ []) d (not_word words.Component s no_component t r e),
        (
          no_lead (class_of t.kind) (TheWord words.Global) (one AnyName ∷ same parts.GlobalBody ∷ []) d (not_word words.Global s no_global t r e),
          (no_lead (class_of t.kind) (TheWord words.Struct) (one AnyName ∷ one (Sign symbols.OpenBrace) ∷ same (parts.Listing parts.Fields) ∷ []) d (not_word words.Struct s no_struct t r e), tt),
        ),
      ),
      tt,
    )) (λ ps g. (tt, tt))

-- ---- the loop over a file's items

pub record BegunFile (start_tokens s : List Token) (all : List FileItem) : Type 0 where
  pub took : (more : List FileItem) → (x : Derives 0 parts.FileItems 0 s []) → tree x ≡ more → (y : Derives 0 parts.FileItems 0 start_tokens []) × (tree y ≡ all ++ more)
  pub goes : run start_tokens start ≡ run s start

pub begun_file : (s : List Token) (all : List FileItem) → all ≡ [] → BegunFile s s all
begun_file s all e = let P : List FileItem → Type 0 = λ z. BegunFile s s z in subst P (sym e) (record { took = λ more x k. (x, k); goes = refl })

no_token : (s : List Token) → seen s ≡ seens.End → s ≡ []
no_token [] e = refl
no_token (t ∷ s) e = absurd (seen_not_end (class_of t.kind) (sym e))

pub whole_file : (start_tokens s : List Token) (all : List FileItem) → BegunFile start_tokens s all → seen s ≡ seens.End → ReadsFile start_tokens (Ok all)
whole_file start_tokens s all g e =
    let P : List Token → Type 0 = λ z. BegunFile start_tokens z all in
    let w = (subst P (no_token s e) g).took [] (by alts.no_more_items ends) refl in
    (w.0, w.1 ∙ append-nil all)

items_run : (s : List Token) → (seen s ≡ seens.End → ⊥) → run s start ≡ run s (at ((same parts.FileItem, 0) ∷ (same parts.FileItems, 0) ∷ []))
items_run [] n = absurd (n refl)
items_run (t ∷ s) n = by_what_stays t s start (at ((same parts.FileItem, 0) ∷ (same parts.FileItems, 0) ∷ []))
    (ap (λ z. z ++ []) (by_alt alts.file_items (class_of t.kind) 0 [] true (append-nil (through (first longest_chain (class_of t.kind)) (slots alts.file_items) 0)) refl))

pub next_file_item : (start_tokens s m : List Token) (all now : List FileItem) (item : FileItem) → BegunFile start_tokens s all → (seen s ≡ seens.End → ⊥) → Took parts.FileItem 0 s m item → now ≡ all ++ item ∷ []
    → BegunFile start_tokens m now × (length m < length s)
next_file_item start_tokens s m all now item g n x e =
    let P : List FileItem → Type 0 = λ z. BegunFile start_tokens m z × (length m < length s) in
    subst P (sym e) (
      record {
        took = λ more y k. (let w = g.took (item ∷ more) (by alts.file_items (part x.x (part y ends))) (ap (λ z. z ∷ tree y) x.is ∙ ap (λ z. item ∷ z) k) in (w.0, w.1 ∙ sym (append_assoc all (item ∷ []) more)));
        goes = g.goes ∙ items_run s n ∙ x.goes ((same parts.FileItems, 0) ∷ []) (refl, tt);
      },
      shorter x.x refl,
    )

file_error : (s : List Token) (e : End Stop) (result : Result (List FileItem) (End Stop)) → IsErrAnd result (λ y. y ≡ e) → ((stop : Stop) → e ≡ endings.Fault stop → run s start ≡ outcome stop) → ReadsFile s result
file_error s e result h x = joining.by_error (λ z. ReadsFile s z) e result h x

pub no_file_item : (start_tokens s : List Token) (all : List FileItem) (e : End Stop) (result : Result (List FileItem) (End Stop)) → IsErrAnd result (λ y. y ≡ e) → BegunFile start_tokens s all → (seen s ≡ seens.End → ⊥)
    → Stuck parts.FileItem 0 s e → ReadsFile start_tokens result
no_file_item start_tokens s all e result h g n x = file_error start_tokens e result h (λ stop is. g.goes ∙ items_run s n ∙ x.stops stop is ((same parts.FileItems, 0) ∷ []) (refl, tt))

no_fault : (stop : Stop) → endings.Memory ≡ endings.Fault stop → ⊥
no_fault stop e = cc

pub file_memory : (s : List Token) (result : Result (List FileItem) (End Stop)) → IsErrAnd result (λ y. y ≡ endings.Memory) → ReadsFile s result
file_memory s result h = file_error s endings.Memory result h (λ stop is. absurd (no_fault stop is))

-- ---- the loop over an enum's values

pub record BegunMore (first_value : Ident) (start_tokens s : List Token) (all : List Ident) : Type 0 where
  pub took : (r : List Token) (more : List Ident) (end : Span) → Took (parts.Rest parts.EnumValues) 0 s r (more, end)
      → (rest : List Ident) × (all ++ more ≡ first_value ∷ rest) × Took (parts.Rest parts.EnumValues) 0 start_tokens r (rest, end)
  pub stuck : (e : End Stop) → Stuck (parts.Rest parts.EnumValues) 0 s e → Stuck (parts.Rest parts.EnumValues) 0 start_tokens e

pub begun_more : (first_value : Ident) (s : List Token) (none all : List Ident) → none ≡ [] → all ≡ none ++ first_value ∷ [] → BegunMore first_value s s all
begun_more first_value s none all k e =
    let P : List Ident → Type 0 = λ z. BegunMore first_value s s z in
    subst P (sym (e ∙ ap (λ z. z ++ first_value ∷ []) k)) (record { took = λ r more end x. (more, refl, x); stuck = λ e x. x })

more_error : (first_value : Ident) (s r : List Token) (e : End Stop) (result : Result (List Ident × Span) (End Stop)) → IsErrAnd result (λ y. y ≡ e) → Stuck (parts.Rest parts.EnumValues) 0 s e → ReadsMore first_value s result r
more_error first_value s r e result h x = joining.by_error (λ z. ReadsMore first_value s z r) e result h x

pub more_memory : (first_value : Ident) (s r : List Token) (result : Result (List Ident × Span) (End Stop)) → IsErrAnd result (λ y. y ≡ endings.Memory) → ReadsMore first_value s result r
more_memory first_value s r result h = more_error first_value s r endings.Memory result h (record { stops = λ stop is ps g. absurd (no_fault stop is) })

pub more_stuck : (first_value : Ident) (start_tokens s r o : List Token) (all : List Ident) (e : End Stop) (result : Result (List Ident × Span) (End Stop)) → IsErrAnd result (λ y. y ≡ e)
    → BegunMore first_value start_tokens s all → BehindItem symbols.CloseBrace 0 s (Err e) r → ReadsMore first_value start_tokens result o
more_stuck first_value start_tokens s r o all e result h g x = more_error first_value start_tokens o e result h (g.stuck e (x parts.EnumValues refl))

pub more_done : (first_value : Ident) (start_tokens s r : List Token) (all : List Ident) (o : Option Span) (end : Span) → BegunMore first_value start_tokens s all → o ≡ Some end → BehindItem symbols.CloseBrace 0 s (Ok o) r
    → ReadsMore first_value start_tokens (Ok (all, end)) r
more_done first_value start_tokens s r all o end g e x =
    let P : Option Span → Type 0 = λ z. BehindItem symbols.CloseBrace 0 s (Ok z) r in
    let w = g.took r [] end (subst P e x parts.EnumValues refl) in
    (w.0, sym (append-nil all) ∙ w.1, w.2)

after_comma : (s m : List Token) (a : After symbols.CloseBrace 0 s m) → Chosen (alts.rest_comma {l = parts.EnumValues}) 0 s
after_comma s m a = rest_comma parts.EnumValues 0 s a.0

name_took : (s m : List Token) (value : Ident) → TookOne AnyName 0 s m value → Took parts.Name 0 s m value
name_took s m value x = chosen_took (chosen_alone alts.listed_name 0 s refl refl (λ ps g. tt)) (took_by alts.listed_name (and_one x (end_all 0 m)))

name_stuck : (s : List Token) (e : End Stop) → StuckOne AnyName 0 s e → Stuck parts.Name 0 s e
name_stuck s e x = chosen_stuck (chosen_alone alts.listed_name 0 s refl refl (λ ps g. tt)) (at_one x)

pub no_value : (first_value : Ident) (start_tokens s m o : List Token) (all : List Ident) (e : End Stop) (result : Result (List Ident × Span) (End Stop)) → IsErrAnd result (λ y. y ≡ e)
    → BegunMore first_value start_tokens s all → After symbols.CloseBrace 0 s m → StuckOne AnyName 0 m e → ReadsMore first_value start_tokens result o
no_value first_value start_tokens s m o all e result h g a x =
    more_error first_value start_tokens o e result h
    (g.stuck e (chosen_stuck (after_comma s m a) (past_one a.2.1 (at_same (chosen_stuck (chosen_item parts.EnumValues 0 m a.1) (at_same (name_stuck m e x)))))))

pub next_value : (first_value : Ident) (start_tokens s m r : List Token) (all now : List Ident) (value : Ident) → BegunMore first_value start_tokens s all → After symbols.CloseBrace 0 s m → TookOne AnyName 0 m r value
    → now ≡ all ++ value ∷ [] → BegunMore first_value start_tokens r now × (length r < length s)
next_value first_value start_tokens s m r all now value g a x e =
    let P : List Ident → Type 0 = λ z. BegunMore first_value start_tokens r z × (length r < length s) in
    subst P (sym e) (
      record {
        took = λ o more end y. (let w = g.took o (value ∷ more) end (chosen_took (after_comma s m a) (took_by (alts.rest_comma {l = parts.EnumValues}) (and_one a.2.1 (and_same (chosen_took (chosen_item parts.EnumValues 0 m a.1)
            (took_by (alts.listing_item {l = parts.EnumValues}) (and_same (name_took m r value x) (and_same y (end_all 0 o))))) (end_all 0 o))))) in
            (w.0, append_assoc all (value ∷ []) more ∙ w.1, w.2));
        stuck = λ f y. g.stuck f (chosen_stuck (after_comma s m a) (past_one a.2.1 (at_same (chosen_stuck (chosen_item parts.EnumValues 0 m a.1) (past_same (name_took m r value x) (at_same y))))));
      },
      fewer (taken_shorter a.2.1.x) (taken_shorter x.x),
    )
  where
    fewer : {i j k : ℕ} → j < k → i < j → i < k
    fewer h f = omega arith

pub enum_read : (s m r : List Token) (name first_value : Ident) (values : List Ident) (end : Span) → (rest : List Ident) × (values ≡ first_value ∷ rest) × Took (parts.Rest parts.EnumValues) 0 m r (rest, end)
    → ((rest : List Ident) → Took (parts.Rest parts.EnumValues) 0 m r (rest, end) → TookBy alts.enum_decl 0 s r (decls.Enum (record { name = name; values = first_value ∷ rest })))
    → TookBy alts.enum_decl 0 s r (decls.Enum (record { name = name; values = values }))
enum_read s m r name first_value values end x f =
    let P : List Ident → Type 0 = λ z. TookBy alts.enum_decl 0 s r (decls.Enum (record { name = name; values = z })) in
    subst P (sym x.1) (f x.0 x.2)
