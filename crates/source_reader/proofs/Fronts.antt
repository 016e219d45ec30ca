-- What the front of a file tells of the file: of one that is too long, only its first bytes are read.
use Rattle.std.proofs.Common.{◌≡◌, ℕ, ◌<◌, ◌≤◌, List, length, take, Result, Ok, Err, refl, sym, ap, ◌∙◌, subst, arith}
use Rattle.std.proofs.lemmas.List.{length-take, take_all}
use Rattle.slint_base.specs.declared.faults.Fault.{Fault}
use Rattle.slint_base.specs.declared.rules.Rule.TheVariants.{FileTooLong}
use Rattle.slint_base.specs.Refusals.{at_start, refusal_of}
use Rattle.syntax_tree.specs.declared.files.File.{File}
use Rattle.source_reader.specs.Sources.{IsRead, too_long, no_tokens, no_tree, reads, most_bytes, front_bytes}

-- a front that isn't full is the whole
whole_front : (full : List ℕ) → length (take front_bytes full) ≤ most_bytes → take front_bytes full ≡ full
whole_front full short = take_all front_bytes full (omega (arith, length-take front_bytes full))

-- a front that is full is too long itself
long_front : (full : List ℕ) → most_bytes < length (take front_bytes full) → most_bytes < length full
long_front full long = omega (arith, length-take front_bytes full)

reads_by : (number : ℕ) (full front : List ℕ) (reading : Result File Fault) → front ≡ take front_bytes full → IsRead number front reading → IsRead number full reading
reads_by number full front reading same (too_long long) = too_long (long_front full (subst (λ (bs : List ℕ). most_bytes < length bs) same long))
reads_by number full front reading same (no_tokens fault short h) =
    let e : front ≡ full = same ∙ whole_front full (subst (λ (bs : List ℕ). length bs ≤ most_bytes) same short) in
    subst (λ (bs : List ℕ). IsRead number bs (Err fault)) e (no_tokens fault short h)
reads_by number full front reading same (no_tree tokens fault short h k) =
    let e : front ≡ full = same ∙ whole_front full (subst (λ (bs : List ℕ). length bs ≤ most_bytes) same short) in
    subst (λ (bs : List ℕ). IsRead number bs (Err fault)) e (no_tree tokens fault short h k)
reads_by number full front reading same (reads tokens tree short h k) =
    let e : front ≡ full = same ∙ whole_front full (subst (λ (bs : List ℕ). length bs ≤ most_bytes) same short) in
    subst (λ (bs : List ℕ). IsRead number bs (Ok tree)) e (reads tokens tree short h k)

-- a file reads as its front does
pub front_reads : (number : ℕ) (full : List ℕ) (reading : Result File Fault) → IsRead number (take front_bytes full) reading → IsRead number full reading
front_reads number full reading read = reads_by number full (take front_bytes full) reading refl read

-- a front that reads as a tree is the whole file
whole_by : (number : ℕ) (full front : List ℕ) (reading : Result File Fault) (tree : File) → front ≡ take front_bytes full → IsRead number front reading → reading ≡ Ok tree → take front_bytes full ≡ full
whole_by number full front reading tree same (too_long long) e = cc
whole_by number full front reading tree same (no_tokens fault short h) e = cc
whole_by number full front reading tree same (no_tree tokens fault short h k) e = cc
whole_by number full front reading tree same (reads tokens other short h k) e = whole_front full (subst (λ (bs : List ℕ). length bs ≤ most_bytes) same short)

pub front_whole : (number : ℕ) (full : List ℕ) (tree : File) → IsRead number (take front_bytes full) (Ok tree) → take front_bytes full ≡ full
front_whole number full tree read = whole_by number full (take front_bytes full) (Ok tree) tree refl read refl

-- the fault of a file as a whole is told alike whatever its bytes are
refused_alike : (name front full : List ℕ) (fault : Fault) (number : ℕ) → fault ≡ at_start FileTooLong number → refusal_of name front fault ≡ refusal_of name full fault
refused_alike name front full fault number whole = ap (refusal_of name front) whole ∙ ap (refusal_of name full) (sym whole)

refused_by : (number : ℕ) (name full front : List ℕ) (reading : Result File Fault) (fault : Fault) → front ≡ take front_bytes full → IsRead number front reading → reading ≡ Err fault → refusal_of name front fault ≡ refusal_of name full fault
refused_by number name full front reading fault same (too_long long) e = let is : fault ≡ at_start FileTooLong number = cc in refused_alike name front full fault number is
refused_by number name full front reading fault same (no_tokens other short h) e =
    ap (λ bs. refusal_of name bs fault) (same ∙ whole_front full (subst (λ (bs : List ℕ). length bs ≤ most_bytes) same short))
refused_by number name full front reading fault same (no_tree tokens other short h k) e =
    ap (λ bs. refusal_of name bs fault) (same ∙ whole_front full (subst (λ (bs : List ℕ). length bs ≤ most_bytes) same short))
refused_by number name full front reading fault same (reads tokens tree short h k) e = cc

-- so a fault of the front is told as a fault of the file
pub front_refused : (number : ℕ) (name full : List ℕ) (fault : Fault) → IsRead number (take front_bytes full) (Err fault) → refusal_of name (take front_bytes full) fault ≡ refusal_of name full fault
front_refused number name full fault read = refused_by number name full (take front_bytes full) (Err fault) fault refl read refl
