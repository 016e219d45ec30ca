-- Lemmas on the files of a map in memory.
use Rattle.std.proofs.Common.{◌≡◌, ℕ, ◌≤◌, List, length, take, Some, sym, ap, ◌∙◌, option_map, arith}
use Rattle.std.proofs.Math.Nat.{min-le_left}
use Rattle.std.proofs.lemmas.List.{length-take}
use Rattle.io_edge.specs.Files.{FileList, bytes_named}

-- a copy of the front of a file that the map has
pub front-of_named : (most : ℕ) (files held : FileList) (name bytes copied copy : List ℕ) → files ≡ held → Some bytes ≡ bytes_named files name
    → copied ≡ bytes → copy ≡ take most copied
    → (length copy ≤ most) × (option_map (take most) (bytes_named held name) ≡ Some copy)
front-of_named most files held name bytes copied copy same named is front =
    let e : copy ≡ take most bytes = front ∙ ap (take most) is in
    let len : length copy ≤ most = omega (arith, ap length e, length-take most bytes, min-le_left most (length bytes)) in
    let is_named : bytes_named held name ≡ Some bytes = ap (λ f. bytes_named f name) (sym same) ∙ sym named in
    (len, ap (option_map (take most)) is_named ∙ ap Some (sym e))
