-- Which rules the tokens of a file break.
use Rattle.std.proofs.Common.{◌≡◌, ℕ, zero, suc, Bool, true, false, Option, Some, None, List, [], ◌∷◌, refl, sym, ap, ◌∙◌}
use Rattle.slint_base.specs.declared.faults.Fault.{Fault}
use Rattle.slint_base.specs.declared.rules.Rule.{Rule}
use Rattle.slint_base.specs.declared.rules.Rule.TheVariants as rules
use Rattle.slint_literals.specs.declared.numbers.Number.{Number}
use Rattle.slint_literals.specs.declared.strings.Look.{Look}
use Rattle.slint_literals.specs.declared.strings.Look.TheVariants as looks
use Rattle.slint_literals.specs.Characters.{char_len}
use Rattle.slint_literals.specs.Colours.{colour_value}
use Rattle.slint_literals.specs.Numbers.{number_value}
use Rattle.slint_literals.specs.Strings.{text_look}
use Rattle.slint_lexer.specs.declared.classes.Class.{Class}
use Rattle.slint_lexer.specs.declared.classes.Class.TheVariants.{Blank, Digit, Hash, Quote, Close, Slash, Word, Other}
use Rattle.slint_lexer.specs.declared.classes.Second.{Second}
use Rattle.slint_lexer.specs.declared.classes.Second.TheVariants.{Block, Line, Neither}
use Rattle.slint_lexer.specs.Pieces.{What, Bad, number_what, colour_what, class_of, second_of, EndsText, SpellsText, SpellsSlash, SpellsClose, SpellsAs, Spells}
use Rattle.slint_lexer.specs.Lexing.{BreaksText, BreaksComment, BreaksOther, BreaksString, BreaksSlash, BreaksClose, BreaksAs, Breaks, Stuck, bad, breaks, IsFaulted, is_token_rule}

-- a rule that is one of them
one_of : (rule law : Rule) → rule ≡ law → is_token_rule law ≡ true → is_token_rule rule ≡ true
one_of rule law e h = ap is_token_rule e ∙ h

bad_number : (rule : Rule) (value : Option Number) → number_what value ≡ Bad rule → is_token_rule rule ≡ true
bad_number rule None e = let same : rules.BadNumber ≡ rule = cc in one_of rule rules.BadNumber (sym same) refl
bad_number rule (Some n) e = cc

bad_colour : (rule : Rule) (value : Option ℕ) → colour_what value ≡ Bad rule → is_token_rule rule ≡ true
bad_colour rule None e = let same : rules.BadToken ≡ rule = cc in one_of rule rules.BadToken (sym same) refl
bad_colour rule (Some n) e = cc

bad_ends : (rule : Rule) (first : Bool) (text : List ℕ) (look : Look) (x : List ℕ) (w : What) (r : List ℕ) → EndsText first text look x w r → w ≡ Bad rule → is_token_rule rule ≡ true
bad_ends rule first text looks.Quote x w r h e = let token = h.1 in cc
bad_ends rule first text looks.Hole x w r h e = let token = h.1 in cc
bad_ends rule first text (looks.Plain n) x w r h e = absurd h
bad_ends rule first text (looks.Escape c n) x w r h e = absurd h
bad_ends rule first text (looks.BadEscape n) x w r h e = absurd h
bad_ends rule first text looks.NotUtf8 x w r h e = absurd h
bad_ends rule first text looks.End x w r h e = absurd h

bad_text : (rule : Rule) (first : Bool) (s : List ℕ) (w : What) (r : List ℕ) → SpellsText first s w r → w ≡ Bad rule → is_token_rule rule ≡ true
bad_text rule first s w r h e = bad_ends rule first h.0 (text_look h.1) h.1 w r h.3 e

bad_close : (rule : Rule) (ends : Bool) (s : List ℕ) (w : What) (r : List ℕ) → SpellsClose ends s w r → w ≡ Bad rule → is_token_rule rule ≡ true
bad_close rule true s w r h e = bad_text rule false s w r h e
bad_close rule false s w r h e = let token = h.1 in cc

bad_slash : (rule : Rule) (c : Second) (s : List ℕ) (w : What) (r : List ℕ) → SpellsSlash c s w r → w ≡ Bad rule → is_token_rule rule ≡ true
bad_slash rule Block s w r h e = let apart = h.1 in cc
bad_slash rule Line s w r h e = let apart = h.2 in cc
bad_slash rule Neither s w r h e = let token = h.2 in cc

bad_as : (rule : Rule) (c : Class) (ends : Bool) (b : ℕ) (s : List ℕ) (w : What) (r : List ℕ) → SpellsAs c ends b s w r → w ≡ Bad rule → is_token_rule rule ≡ true
bad_as rule Blank ends b s w r h e = let apart = h.1 in cc
bad_as rule Digit ends b s w r h e = bad_number rule (number_value (b ∷ h.0)) (sym h.3 ∙ e)
bad_as rule Hash ends b s w r h e = bad_colour rule (colour_value h.0) (sym h.3 ∙ e)
bad_as rule Quote ends b s w r h e = bad_text rule true s w r h e
bad_as rule Close ends b s w r h e = bad_close rule ends s w r h e
bad_as rule Slash ends b s w r h e = bad_slash rule (second_of s) s w r h e
bad_as rule Word ends b s w r h e = let token = h.3 in cc
bad_as rule Other ends b s w r h e = let token = h.2 in cc

bad_spells : (rule : Rule) (ends : Bool) (s r : List ℕ) → Spells ends s (Bad rule) r → is_token_rule rule ≡ true
bad_spells rule ends [] r h = absurd h
bad_spells rule ends (b ∷ s) r h = bad_as rule (class_of (b ∷ s)) ends b s (Bad rule) r h refl

text_rule : (look : Look) (s x : List ℕ) (rule : Rule) (at : List ℕ) (count : ℕ) → BreaksText look s x rule at count → is_token_rule rule ≡ true
text_rule (looks.BadEscape n) s x rule at count h = one_of rule rules.BadEscape h.0 refl
text_rule looks.NotUtf8 s x rule at count h = one_of rule rules.NotUtf8 h.0 refl
text_rule looks.End s x rule at count h = one_of rule rules.BadToken h.0 refl
text_rule (looks.Plain n) s x rule at count h = absurd h
text_rule (looks.Escape c n) s x rule at count h = absurd h
text_rule looks.Quote s x rule at count h = absurd h
text_rule looks.Hole s x rule at count h = absurd h

string_rule : (b : ℕ) (s : List ℕ) (rule : Rule) (at : List ℕ) (count : ℕ) → BreaksString b s rule at count → is_token_rule rule ≡ true
string_rule b s rule at count h = text_rule (text_look h.1) (b ∷ s) h.1 rule at count h.3

comment_rule : (s x : List ℕ) (rule : Rule) (at : List ℕ) (count : ℕ) → BreaksComment s x rule at count → is_token_rule rule ≡ true
comment_rule s [] rule at count h = one_of rule rules.BadToken h.0 refl
comment_rule s (b ∷ x) rule at count h = one_of rule rules.NotUtf8 h.0 refl

slash_rule : (c : Second) (b : ℕ) (s : List ℕ) (rule : Rule) (at : List ℕ) (count : ℕ) → BreaksSlash c b s rule at count → is_token_rule rule ≡ true
slash_rule Block b s rule at count h = comment_rule (b ∷ s) h.1 rule at count h.4
slash_rule Line b s rule at count h = absurd h
slash_rule Neither b s rule at count h = absurd h

close_rule : (ends : Bool) (b : ℕ) (s : List ℕ) (rule : Rule) (at : List ℕ) (count : ℕ) → BreaksClose ends b s rule at count → is_token_rule rule ≡ true
close_rule true b s rule at count h = string_rule b s rule at count h
close_rule false b s rule at count h = absurd h

other_rule : (n : ℕ) (s : List ℕ) (rule : Rule) (at : List ℕ) (count : ℕ) → BreaksOther n s rule at count → is_token_rule rule ≡ true
other_rule zero s rule at count h = one_of rule rules.NotUtf8 h.0 refl
other_rule (suc n) s rule at count h = one_of rule rules.BadToken h.0 refl

rule_as : (c : Class) (ends : Bool) (b : ℕ) (s : List ℕ) (rule : Rule) (at : List ℕ) (count : ℕ) → BreaksAs c ends b s rule at count → is_token_rule rule ≡ true
rule_as Quote ends b s rule at count h = string_rule b s rule at count h
rule_as Close ends b s rule at count h = close_rule ends b s rule at count h
rule_as Slash ends b s rule at count h = slash_rule (second_of s) b s rule at count h
rule_as Other ends b s rule at count h = other_rule (char_len (b ∷ s)) (b ∷ s) rule at count h
rule_as Blank ends b s rule at count h = absurd h
rule_as Digit ends b s rule at count h = absurd h
rule_as Hash ends b s rule at count h = absurd h
rule_as Word ends b s rule at count h = absurd h

breaks_rule : (ends : Bool) (s : List ℕ) (rule : Rule) (at : List ℕ) (count : ℕ) → Breaks ends s rule at count → is_token_rule rule ≡ true
breaks_rule ends [] rule at count h = absurd h
breaks_rule ends (b ∷ s) rule at count h = rule_as (class_of (b ∷ s)) ends b s rule at count h

stuck_rule : (file n : ℕ) (ends : Bool) (s : List ℕ) (fault : Fault) → Stuck file n ends s fault → is_token_rule fault.rule ≡ true
stuck_rule file n ends s fault (bad rule r front) = bad_spells rule ends s r front.spells
stuck_rule file n ends s fault (breaks rule at count nothing broken) = breaks_rule ends s rule at count broken

pub token_rule : (file : ℕ) (bytes : List ℕ) (fault : Fault) → IsFaulted file bytes fault → is_token_rule fault.rule ≡ true
token_rule file bytes fault h = stuck_rule file _ _ h.2 fault h.4
