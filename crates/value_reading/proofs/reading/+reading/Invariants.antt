use Rattle.std.proofs.Common.{◌≡◌, ◌+◌, ◌*◌, suc, [], length}
use Rattle.value_reading.specs.Reading.{read_to, items_read, fields_read}
use Rattle.value_reading.proofs.reading.+reading.Given as goal

-- each array or struct takes a level; within one level the calls go down to its parts
abbrev pub decreases-read : goal.decreases-read
decreases-read l = 5 * l.depth

abbrev pub decreases-read_form : goal.decreases-read_form
decreases-read_form l = 5 * l.depth + 4

abbrev pub decreases-array_read : goal.decreases-array_read
decreases-array_read l = 5 * l.depth + 3

abbrev pub decreases-struct_read : goal.decreases-struct_read
decreases-struct_read l = 5 * l.depth + 3

abbrev pub decreases-items_read : goal.decreases-items_read
decreases-items_read l = 5 * l.depth + 2

abbrev pub decreases-fields_read : goal.decreases-fields_read
decreases-fields_read l = 5 * l.depth + 2

abbrev pub decreases-field_read : goal.decreases-field_read
decreases-field_read l = 5 * l.depth + 1

-- what is left to be read comes to what all comes to
abbrev pub invariant-items_read-loop-left : goal.invariant-items_read-loop-left
invariant-items_read-loop-left l =
    items_read (read_to l.enums l.parts l.depth l.item) l.parts (suc (length l.parts)) [] l.first ≡ items_read (read_to l.enums l.parts l.depth l.item) l.parts l.left l.values l.place

abbrev pub decreases-items_read-loop-left : goal.decreases-items_read-loop-left
decreases-items_read-loop-left l = l.left

abbrev pub invariant-fields_read-loop-left : goal.invariant-fields_read-loop-left
invariant-fields_read-loop-left l =
    fields_read (read_to l.enums l.parts l.depth) l.fields l.parts (suc (length l.parts)) [] l.first ≡ fields_read (read_to l.enums l.parts l.depth) l.fields l.parts l.left l.made l.place

abbrev pub decreases-fields_read-loop-left : goal.decreases-fields_read-loop-left
decreases-fields_read-loop-left l = l.left
