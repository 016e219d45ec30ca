-- Where items stand along an axis.
use Rattle.std.specs.Prelude.{ℕ, ℤ, pos, negsuc, ◌+ℤ◌, ◌-ℤ◌, ◌*ℤ◌, ◌+◌, ◌-◌, ◌*◌, ◌/◌, ◌%◌, min, List, map, take, length}
use Rattle.std.specs.List.{range_with_len}
use Rattle.slint_base.specs.Numbers.{sat}
use Rattle.layout_solve.specs.declared.places.Align.{Align}
use Rattle.layout_solve.specs.declared.places.Align.TheVariants.{Stretch, Center, Start, End, SpaceBetween, SpaceAround}
use Rattle.layout_solve.specs.Sizes.{total}

-- a number, or 0 in place of one below
abbrev pub at_least_zero : ℤ → ℕ
at_least_zero (pos n) = n
at_least_zero (negsuc n) = 0

-- what the sizes leave of the room
abbrev pub room_left : List ℤ → ℤ → ℕ
room_left sizes room = at_least_zero (room -ℤ total sizes)

-- how much of what is left of the room lies before item i of n: between items an even share for each gap before it, of which the first get one unit more; around
-- items one share for it and two for each item before it
abbrev pub shift : Align → ℕ → ℕ → ℕ → ℕ
shift Stretch n left i = 0
shift Center n left i = left / 2
shift Start n left i = 0
shift End n left i = left
shift SpaceBetween n left i = i * (left / (n - 1)) + min i (left % (n - 1))
shift SpaceAround n left i = (2 * i + 1) * (left / (2 * n))

-- the offset of item i: the items and spacings before it, and its part of what is left, brought into the limits
abbrev pub offset : Align → List ℤ → ℤ → ℤ → ℕ → ℤ
offset align sizes room spacing i =
    sat (total (take i sizes) +ℤ pos i *ℤ spacing +ℤ pos (shift align (length sizes) (room_left sizes room) i))

-- the offsets of all items, in order
abbrev pub offsets : Align → List ℤ → ℤ → ℤ → List ℤ
offsets align sizes room spacing = map (offset align sizes room spacing) (range_with_len 0 (length sizes))
