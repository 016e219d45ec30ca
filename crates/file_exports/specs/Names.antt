-- Sets of names, and names that are added to them.
use Rattle.std.specs.Prelude.{◌≡◌, ◌||◌, ℕ, List, String}
use Rattle.std.specs.declared.alloc.Global.{Global}
use Rattle.std.specs.declared.hash.FoldHasher.{FoldHasher}
use Rattle.std.specs.declared.hash.BuildHasherDefault.{BuildHasherDefault}
use Rattle.std.specs.HashSet.{HashSet, contains_text}
use Rattle.file_exports.specs.Roots.{has_name}

-- a set of names
abbrev pub NameSet : Type 0
NameSet = HashSet (String Global) (BuildHasherDefault FoldHasher)

-- a set has the names that it had, and these
abbrev pub AddsNames : NameSet → NameSet → List (List ℕ) → Type 0
AddsNames old new added = (name : List ℕ) → contains_text new name ≡ (contains_text old name || has_name added name)
