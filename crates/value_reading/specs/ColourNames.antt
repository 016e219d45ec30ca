-- The colours that have names.
use Rattle.std.specs.Prelude.{ℕ, List, if◌then◌else◌, codes, Option, Some, None}
use Rattle.std.specs.Str.{bytes_eq}

-- the colour of a name, as `rrggbbaa`
abbrev pub color_named : List ℕ → Option ℕ
color_named name = if bytes_eq name (codes "aqua") then Some 0x00ffffff
    else if bytes_eq name (codes "black") then Some 0x000000ff
    else if bytes_eq name (codes "blue") then Some 0x0000ffff
    else if bytes_eq name (codes "fuchsia") then Some 0xff00ffff
    else if bytes_eq name (codes "gray") then Some 0x808080ff
    else if bytes_eq name (codes "green") then Some 0x008000ff
    else if bytes_eq name (codes "lime") then Some 0x00ff00ff
    else if bytes_eq name (codes "maroon") then Some 0x800000ff
    else if bytes_eq name (codes "navy") then Some 0x000080ff
    else if bytes_eq name (codes "olive") then Some 0x808000ff
    else if bytes_eq name (codes "purple") then Some 0x800080ff
    else if bytes_eq name (codes "red") then Some 0xff0000ff
    else if bytes_eq name (codes "silver") then Some 0xc0c0c0ff
    else if bytes_eq name (codes "teal") then Some 0x008080ff
    else if bytes_eq name (codes "white") then Some 0xffffffff
    else if bytes_eq name (codes "yellow") then Some 0xffff00ff
    else if bytes_eq name (codes "transparent") then Some 0x00000000
    else None
