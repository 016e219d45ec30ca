-- Parts at the front of a text.
use Rattle.std.proofs.Common.{◌≡◌, ◌≢◌, ◌++◌, append_assoc, append-nil, add-one, drop-cons, get_or, ℕ, suc, ◌+◌, ◌<◌, ◌≤◌, true, List, [], ◌∷◌, length, take, drop, sym, ◌∙◌, ap, refl, subst, arith, Option, Some, None}
use Rattle.std.specs.Option.{option_map}
use Rattle.slint_base.specs.Texts.{cut_text}
use Rattle.slint_literals.specs.declared.numbers.Number.{Number}
use Rattle.slint_literals.specs.Numbers.{number_length, number_value, starts_with_digit, IsLongestNumber}
use Rattle.value_reading.specs.declared.parts.Found.{Found}
use Rattle.value_reading.specs.declared.parts.Front.{Front}
use Rattle.value_reading.specs.declared.parts.Front.TheVariants.{Digit, Hash, Quote, Letter, Mark, Other}
use Rattle.value_reading.specs.Parts.{number_part, color_part, front_of, IsPart, IsStringOf, FindsAt, Finds, SplitsInto, AreParts, none, space, more}
use Rattle.std.specs.Prelude.{MatchOption}
use Rattle.std.specs.Char.{is_ascii_alphanumeric}
use Rattle.std.specs.List.{prefix_len}
use Rattle.std.proofs.lemmas.List.{length-drop, drop-drop, drop_all}
use Rattle.slint_literals.specs.Strings.{IsRun, text_step}
use Rattle.slint_literals.proofs.NumberTexts.{longest_number}
use Rattle.slint_literals.proofs.Runs.{steps_same}
use Rattle.value_reading.specs.declared.parts.Part.{Part}
use Rattle.value_reading.specs.declared.parts.Part.TheVariants as part

-- there is one longest number
pub longest_is : (text : List ℕ) (a : ℕ) → starts_with_digit text ≡ true → IsLongestNumber text a → a ≡ number_length text
longest_is text a h f =
    let g = longest_number text h in
    let low : a ≤ number_length text = g.longest a f.within f.number in
    let high : number_length text ≤ a = f.longest (number_length text) g.within g.number in
    omega arith

-- there is one run
pub run_same : (s a b x y : List ℕ) → IsRun s a x → IsRun s b y → (a ≡ b) × (x ≡ y)
run_same s a b x y f g = let e = steps_same text_step ([], s) (a, x) (b, y) f.spelled g.spelled f.ended g.ended in (ap (λ p. p.0) e, ap (λ p. p.1) e)

-- no string, where no quote stands behind the run
pub no_string : (s text behind : List ℕ) → IsRun s text behind → ((rest : List ℕ) → behind ≡ 34 ∷ rest → ⊥) → (t rest : List ℕ) → IsRun s t (34 ∷ rest) → ⊥
no_string s text behind f without t rest g = without rest (run_same s text t behind (34 ∷ rest) f g).1

-- the number at the front, by what the code reads
pub number_part_is : (text front : List ℕ) (n : ℕ) (v : Option Number) → n ≡ number_length text → front ≡ take n text → v ≡ number_value front → number_part text ≡ option_map part.Number v
number_part_is text front n v e f g = sym (ap (option_map part.Number) (g ∙ ap number_value (f ∙ ap (λ k. take k text) e)))

-- a string, whose run so many bytes has
pub a_string : (s text rest behind : List ℕ) (n : ℕ) (found : Found) (kept : List ℕ) → IsRun s text (drop n s) → behind ≡ drop n s → behind ≡ 34 ∷ rest → kept ≡ cut_text text
    → found.part ≡ part.Str kept → found.length ≡ n + 2 → (t : List ℕ) × (m : ℕ) × IsStringOf s t m found
a_string s text rest behind n found kept run b q k e f =
    let at_quote : drop n s ≡ 34 ∷ rest = sym b ∙ q in
    let counts : length (drop n s) ≡ length rest + 1 = ap length at_quote ∙ omega arith in
    let next : drop (n + 1) s ≡ rest = sym (drop-drop 1 n s) ∙ ap (drop 1) at_quote in
    let is : IsStringOf s text n found = record {
      counts = f;
      within = omega (arith, length-drop n s, counts);
      run = subst (λ r. IsRun s text (34 ∷ r)) (sym next) (subst (IsRun s text) at_quote run);
      part = e ∙ ap part.Str k;
    } in
    (text, n, is)

-- what is found, by kinds
at_front : (bytes s : List ℕ) (b : ℕ) (f : Front) (answer : Option Found) → bytes ≡ b ∷ s → front_of b ≡ f → FindsAt f b s answer → Finds bytes answer
at_front bytes s b f answer e g h = subst (λ bs. Finds bs answer) (sym e) (subst (λ k. FindsAt k b s answer) (sym g) h)

color_by : (b : ℕ) (s : List ℕ) (answer : Option Found)
    → MatchOption answer (color_part s ≡ None) (λ found. (color_part s ≡ Some found.part) × (found.length ≡ prefix_len is_ascii_alphanumeric s + 1) × (found.length ≤ length s + 1)) → FindsAt Hash b s answer
color_by b s None h = λ p rest g. (let e : None ≡ Some p = sym h ∙ g.0 in cc)
color_by b s (Some found) h =
    let next : found.length ≡ suc (prefix_len is_ascii_alphanumeric s) = omega (arith, h.1) in
    ((h.0, ap (λ k. drop k (b ∷ s)) next), omega (arith, next), omega (arith, h.2))

pub color_found_there : (bytes s : List ℕ) (b : ℕ) (answer : Option Found) → bytes ≡ b ∷ s → front_of b ≡ Hash
    → MatchOption answer (color_part s ≡ None) (λ found. (color_part s ≡ Some found.part) × (found.length ≡ prefix_len is_ascii_alphanumeric s + 1) × (found.length ≤ length s + 1)) → Finds bytes answer
color_found_there bytes s b answer e f h = at_front bytes s b Hash answer e f (color_by b s answer h)

string_by : (b : ℕ) (s : List ℕ) (answer : Option Found)
    → MatchOption answer ((t rest : List ℕ) → IsRun s t (34 ∷ rest) → ⊥) (λ found. (t : List ℕ) × (n : ℕ) × IsStringOf s t n found) → FindsAt Quote b s answer
string_by b s None h = λ p rest g. h g.0 rest g.1
string_by b s (Some found) h =
    let is = h.2 in
    let next : found.length ≡ suc (h.1 + 1) = is.counts ∙ omega arith in
    ((h.0, subst (λ r. IsRun s h.0 (34 ∷ r)) (sym (ap (λ k. drop k (b ∷ s)) next)) is.run, is.part), omega (arith, next), omega (arith, next, is.within))

pub string_found_there : (bytes s : List ℕ) (b : ℕ) (answer : Option Found) → bytes ≡ b ∷ s → front_of b ≡ Quote
    → MatchOption answer ((t rest : List ℕ) → IsRun s t (34 ∷ rest) → ⊥) (λ found. (t : List ℕ) × (n : ℕ) × IsStringOf s t n found) → Finds bytes answer
string_found_there bytes s b answer e f h = at_front bytes s b Quote answer e f (string_by b s answer h)

head_same : (x y : ℕ) (xs ys : List ℕ) → x ∷ xs ≡ y ∷ ys → x ≡ y
head_same x y xs ys e = cc

tail_same : {x y : ℕ} (xs ys : List ℕ) → x ∷ xs ≡ y ∷ ys → xs ≡ ys
tail_same xs ys e = cc

some_same : (p q : Part) → Some p ≡ Some q → p ≡ q
some_same p q e = cc

-- one part lies at a front, if any
part_same : (f : Front) (b : ℕ) (s : List ℕ) (p q : Part) (r t : List ℕ) → IsPart f b s p r → IsPart f b s q t → (p ≡ q) × (r ≡ t)
part_same Digit b s p q r t g h = (some_same p q (sym g.0 ∙ h.0), g.1 ∙ sym h.1)
part_same Hash b s p q r t g h = (some_same p q (sym g.0 ∙ h.0), g.1 ∙ sym h.1)
part_same Quote b s p q r t g h = let e = run_same s g.0 h.0 (34 ∷ r) (34 ∷ t) g.1 h.1 in (g.2 ∙ ap (λ x. part.Str (cut_text x)) e.0 ∙ sym h.2, tail_same r t e.1)
part_same Letter b s p q r t g h = (g.0 ∙ sym h.0, g.1 ∙ sym h.1)
part_same Mark b s p q r t g h = (g.0 ∙ sym h.0, g.1 ∙ sym h.1)
part_same Other b s p q r t g h = absurd g

-- the parts of a text, by its front
nil_in : (text : List ℕ) (qs : List Part) → text ≡ [] → AreParts text qs → qs ≡ []
nil_in _ _ e none = refl
nil_in _ _ e (space text parts h) = cc
nil_in _ _ e (more b s rest p parts g h) = cc

space_in : (text s : List ℕ) (qs : List Part) → text ≡ 32 ∷ s → AreParts text qs → AreParts s qs
space_in _ s _ e none = absurd (cc)
space_in _ s _ e (space text parts h) = subst (λ t. AreParts t parts) (tail_same text s e) h
space_in _ s _ e (more b u rest p parts g h) = let same : b ≡ 32 = head_same b 32 u s e in absurd (subst (λ c. IsPart (front_of c) c u p rest) same g)

part_in : (b : ℕ) (s text : List ℕ) (qs : List Part) → text ≡ b ∷ s → b ≢ 32 → AreParts text qs → (p : Part) × (rest : List ℕ) × (rs : List Part) × (qs ≡ p ∷ rs) × IsPart (front_of b) b s p rest × AreParts rest rs
part_in b s _ _ e n none = absurd (cc)
part_in b s _ _ e n (space text parts h) = let same : 32 ≡ b = head_same 32 b text s e in absurd (n (sym same))
part_in b s _ _ e n (more c u rest p parts g h) =
    (p, rest, parts, refl, subst (λ x. IsPart (front_of x) x s p rest) (head_same c b u s e) (subst (λ x. IsPart (front_of c) c x p rest) (tail_same u s e) g), h)

-- the parts made of a text before a place
pub record Splits (text : List ℕ) (made : List Part) (at : ℕ) : Type 0 where
  pub within : at ≤ length text
  pub forward : (qs : List Part) → AreParts (drop at text) qs → AreParts text (made ++ qs)
  pub backward : (qs : List Part) → AreParts text qs → (rs : List Part) × (qs ≡ made ++ rs) × AreParts (drop at text) rs

pub splits_none : (text : List ℕ) (made : List Part) → made ≡ [] → Splits text made 0
splits_none text made e = rw e (record { within = omega arith; forward = λ qs h. h; backward = λ qs h. (qs, refl, h) })

-- behind a space
pub splits_space : (text s : List ℕ) (made : List Part) (at : ℕ) → drop at text ≡ 32 ∷ s → at < length text → Splits text made at → Splits text made (at + 1)
splits_space text s made at e within h =
    let next : drop (at + 1) text ≡ s = sym (drop-drop 1 at text) ∙ ap (drop 1) e in
    record {
      within = omega (arith, within);
      forward = λ qs g. h.forward qs (subst (λ t. AreParts t qs) (sym e) (space s qs (subst (λ t. AreParts t qs) next g)));
      backward = λ qs g. (let back = h.backward qs g in (back.0, back.1, subst (λ t. AreParts t back.0) (sym next) (space_in (drop at text) s back.0 e back.2)));
    }

-- behind a part
pub splits_part : (text s : List ℕ) (b : ℕ) (p : Part) (n : ℕ) (made now : List Part) (at : ℕ) → drop at text ≡ b ∷ s → b ≢ 32 → IsPart (front_of b) b s p (drop n (b ∷ s)) → n ≤ length (b ∷ s) → at < length text
    → now ≡ made ++ p ∷ [] → Splits text made at → Splits text now (at + n)
splits_part text s b p n made now at e unspaced is fits within m h =
    let next : drop (at + n) text ≡ drop n (b ∷ s) = sym (drop-drop n at text) ∙ ap (drop n) e in
    let counts : length (drop at text) ≡ length (b ∷ s) = ap length e in
    rw m (record {
      within = omega (arith, fits, counts, length-drop at text, within);
      forward = λ qs g.
          (let front : AreParts (drop at text) (p ∷ qs) = subst (λ t. AreParts t (p ∷ qs)) (sym e) (more b s (drop n (b ∷ s)) p qs is (subst (λ t. AreParts t qs) next g)) in
          subst (AreParts text) (sym (append_assoc made (p ∷ []) qs)) (h.forward (p ∷ qs) front));
      backward = λ qs g.
          (let back = h.backward qs g in
          let part = part_in b s (drop at text) back.0 e unspaced back.2 in
          let same = part_same (front_of b) b s part.0 p part.1 (drop n (b ∷ s)) part.4 is in
          (part.2, back.1 ∙ ap (λ rs. made ++ rs) (part.3 ∙ ap (λ (q : Part). q ∷ part.2) same.0) ∙ sym (append_assoc made (p ∷ []) part.2), subst (λ t. AreParts t part.2) (same.1 ∙ sym next) part.5));
    })

-- at the end, and where no part lies
pub splits_end : (text : List ℕ) (made : List Part) (at : ℕ) → length text ≤ at → Splits text made at → SplitsInto text (Some made)
splits_end text made at past h =
    let nothing : drop at text ≡ [] = drop_all at text past in (
      subst (AreParts text) (append-nil made) (h.forward [] (subst (λ t. AreParts t []) (sym nothing) none)),
      λ others g. (let back = h.backward others g in back.1 ∙ ap (λ rs. made ++ rs) (nil_in (drop at text) back.0 nothing back.2) ∙ append-nil made),
    )

pub splits_not : (text s : List ℕ) (b : ℕ) (made : List Part) (at : ℕ) → drop at text ≡ b ∷ s → b ≢ 32 → ((p : Part) (rest : List ℕ) → IsPart (front_of b) b s p rest → ⊥) → Splits text made at → SplitsInto text None
splits_not text s b made at e unspaced without h = λ parts g. (let back = h.backward parts g in let part = part_in b s (drop at text) back.0 e unspaced back.2 in without part.0 part.1 part.4)

-- what is left at a byte
pub left_byte : (text : List ℕ) (at b : ℕ) → at < length text → b ≡ get_or text at 0 → drop at text ≡ b ∷ drop (at + 1) text
left_byte text at b within e = rw (add-one, drop-cons text at 0) (ap (λ x. x ∷ drop (suc at) text) (sym e))

-- what is found at a byte
pub finds_byte : (text bytes s : List ℕ) (b : ℕ) (answer : Option Found) → bytes ≡ text → text ≡ b ∷ s → Finds bytes answer → FindsAt (front_of b) b s answer
finds_byte text bytes s b answer e f h = subst (λ t. Finds t answer) (e ∙ f) h
