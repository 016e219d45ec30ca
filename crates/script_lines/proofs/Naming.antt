-- The characters of a name, the first and the others.
use Rattle.std.proofs.Common.{◌≡◌, ◌==◌, ℕ, Bool, true, false, ◌&&◌, ◌||◌, List, ◌++◌, refl, sym, ap, ◌∙◌, ◌⊎◌, inl, inr}
use Rattle.std.specs.List.{list_all}
use Rattle.std.specs.Prelude.{encode_utf8}
use Rattle.std.specs.Str.{IsUtf8, chars}
use Rattle.std.proofs.lemmas.Str.{chars_past_char}
use Rattle.std.proofs.lemmas.Bool.{eq-eqb}
use Rattle.unicode_ident.specs.Ident.{is_xid_start, is_xid_continue}
use Rattle.script_lines.specs.Paths.{is_path_name, are_name_chars}

-- a character that may go on in a name
abbrev pub goes_on : ℕ → Bool
goes_on d = is_xid_continue d || d == 45

-- the first character may begin a name
pub begins : (first : ℕ) (start : Bool) → start ≡ is_xid_start first → (start ≡ true) ⊎ ((start ≡ false) × (first ≡ 95)) → (is_xid_start first || first == 95) ≡ true
begins first start e (inl h) = rw (sym e ∙ h) refl
begins first start e (inr (h, is)) = rw (sym e ∙ h) (eq-eqb first 95 is)

pub is_path_name-text : (text rest : List ℕ) (first : ℕ) (r : Bool) → IsUtf8 text → text ≡ encode_utf8 first ++ rest → (is_xid_start first || first == 95) ≡ true → r ≡ list_all goes_on (chars rest) → r ≡ is_path_name text
is_path_name-text text rest first r utf8 front start e =
    let all = chars_past_char text rest first utf8 front in
    sym (ap are_name_chars all ∙ (ap (λ v. v && list_all goes_on (chars rest)) start ∙ sym e))
