-- The lines of the files that were read.
use Rattle.std.proofs.Common.{◌≡◌, ◌≤◌, ◌+◌, ◌==◌, ℕ, zero, suc, Bool, true, false, List, [], ◌∷◌, length, Some, ap, arith, rules}
use Rattle.std.specs.Prelude.{if◌then◌else◌, slice_get}
use Rattle.source_lines.specs.Starts.{starts_behind}
use Rattle.import_resolver.specs.declared.tables.SeenFile.{SeenFile}
use Rattle.import_resolver.specs.Loads.{World}
use Rattle.import_resolver.specs.Tables.{AtEach, FitsFrom, IsFitting, IsSeen, IsShort}

-- no more starts than bytes, and one
starts-few : (feed : Bool) (at count : ℕ) (starts : List ℕ) → length starts ≤ count → length (if feed then suc at ∷ starts else starts) ≤ suc count
starts-few true at count starts few = omega (arith, few)
starts-few false at count starts few = omega (arith, few)

behind-few : (at : ℕ) (bytes : List ℕ) → length (starts_behind at bytes) ≤ length bytes
behind-few at [] = omega arith
behind-few at (b ∷ bytes) = starts-few (b == 10) at (length bytes) (starts_behind (suc at) bytes) (behind-few (suc at) bytes)

-- a file of so many bytes as are read at most is short
pub seen-short : (number : ℕ) (bytes : List ℕ) (file : SeenFile) → IsSeen number bytes file → IsShort file
seen-short number bytes file seen = omega (arith, ap length seen.starts, behind-few 0 bytes, seen.short)

fits-short : (w : World) (number : ℕ) (files : List SeenFile) → FitsFrom w number files → (k : ℕ) (file : SeenFile) → slice_get files k ≡ Some file → IsShort file
fits-short w number [] fits k file is = absurd (search (rules, is))
fits-short w number (one ∷ files) fits zero file is =
    let same : one ≡ file = search (rules, is) in
    let short : IsShort one = seen-short number fits.0.0 one fits.0.1 in
    omega (arith, short, ap (λ (f : SeenFile). length f.starts.items) same)
fits-short w number (one ∷ files) fits (suc k) file is = fits-short w (number + 1) files fits.1 k file is

-- the files that were read are short
pub short_of : {files : List SeenFile} → IsFitting files → AtEach files (λ k file. IsShort file)
short_of {files} fitting = λ k file is. fits-short _ 0 files fitting.fits k file is
