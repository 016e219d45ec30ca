-- What a map of files has under a name, and what a read of it answers.
use Rattle.std.specs.Prelude.{◌≡◌, ℕ, ◌≤◌, List, [], ◌∷◌, length, take, Option, None, Some, IfSome, Result, Ok, Err, if◌then◌else◌}
use Rattle.std.specs.Option.{option_map}
use Rattle.std.specs.Str.{bytes_eq}
use Rattle.io_edge.specs.declared.file_map.Found.{Found}
use Rattle.io_edge.specs.declared.file_map.Found.TheVariants.{Bytes, Missing}
use Rattle.io_edge.specs.declared.file_map.FilesEnd.{FilesEnd}
use Rattle.io_edge.specs.declared.file_map.FilesEnd.TheVariants.{Failed, Memory}
use Rattle.io_edge.specs.Counts.{Rose}

-- files, each with its name and its bytes
abbrev pub FileList : Type 0
FileList = List (List ℕ × List ℕ)

-- the bytes of the first file of that name
abbrev pub bytes_named : FileList → List ℕ → Option (List ℕ)
bytes_named [] name = None
bytes_named (file ∷ files) name = if bytes_eq file.0 name then Some file.1 else bytes_named files name

-- the most bytes of one file that are read
abbrev pub most_read : ℕ
most_read = 262145

-- what was found is what the map has under the name, where it is told: the file or its front
abbrev pub Finds : Option FileList → List ℕ → Found → Type 0
Finds held name (Bytes bytes) =
    (length bytes.items ≤ most_read) × IfSome held (λ files. option_map (take most_read) (bytes_named files name) ≡ Some bytes.items)
Finds held name Missing = IfSome held (λ files. bytes_named files name ≡ None)

-- what an answer does to the counts of faults and of misses, each before and now
abbrev pub FilesCount : Result Found FilesEnd → ℕ → ℕ → ℕ → ℕ → Type 0
FilesCount (Ok (Bytes _)) faults faults_now misses misses_now = (faults_now ≡ faults) × (misses_now ≡ misses)
FilesCount (Ok Missing) faults faults_now misses misses_now = (faults_now ≡ faults) × Rose misses misses_now
FilesCount (Err Failed) faults faults_now misses misses_now = Rose faults faults_now × (misses_now ≡ misses)
FilesCount (Err Memory) faults faults_now misses misses_now = (faults_now ≡ faults) × (misses_now ≡ misses)
