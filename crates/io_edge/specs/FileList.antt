-- Files in memory as a list of names and bytes.
use Rattle.std.specs.Prelude.{ℕ, List, map, String, Vec, string_bytes}
use Rattle.std.specs.Global.{Global}
use Rattle.io_edge.specs.Files.{FileList}

-- each file's name and its bytes
abbrev pub file_list : List (String Global × Vec ℕ Global) → FileList
file_list files = map (λ f. (string_bytes f.0, f.1.items)) files
