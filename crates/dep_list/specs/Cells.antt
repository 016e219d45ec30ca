-- Lists of values that stand at places, as all nodes do. The order of the list is the order of linking.
use Rattle.std.specs.Prelude.{◌≡◌, Bool, true, false, ◌&&◌, ◌==◌, if◌then◌else◌, List, [], ◌∷◌, Option, Some, None}
use denote.RawPtr.{Ptr, block_ptr, null_ptr}

-- whether two pointers are the same
abbrev pub same_ptr : Ptr → Ptr → Bool
same_ptr (block_ptr b o) (block_ptr c p) = (b == c) && (o == p)
same_ptr (block_ptr b o) null_ptr = false
same_ptr null_ptr (block_ptr c p) = false
same_ptr null_ptr null_ptr = true

module _ {A : Type 0} where
  -- the first value at a place
  abbrev pub find : List (Ptr × A) → Ptr → Option A
  find [] p = None
  find (c ∷ cs) p = if same_ptr c.0 p then Some c.1 else find cs p

  -- the list with the first value at a place replaced
  abbrev pub put : List (Ptr × A) → Ptr → A → List (Ptr × A)
  put [] p x = []
  put (c ∷ cs) p x = if same_ptr c.0 p then (c.0, x) ∷ cs else c ∷ put cs p x

  -- the list without the first value at a place
  abbrev pub take_out : List (Ptr × A) → Ptr → List (Ptr × A)
  take_out [] p = []
  take_out (c ∷ cs) p = if same_ptr c.0 p then cs else c ∷ take_out cs p

  -- the places of the list, in order
  abbrev pub places : List (Ptr × A) → List Ptr
  places [] = []
  places (c ∷ cs) = c.0 ∷ places cs

  -- the values of the list, in order
  abbrev pub values : List (Ptr × A) → List A
  values [] = []
  values (c ∷ cs) = c.1 ∷ values cs

  -- the list with each value at a place changed
  abbrev pub alter : (A → A) → Ptr → List (Ptr × A) → List (Ptr × A)
  alter g p [] = []
  alter g p (c ∷ cs) = (c.0, if same_ptr c.0 p then g c.1 else c.1) ∷ alter g p cs

  -- the list without any value at a place
  abbrev pub without : Ptr → List (Ptr × A) → List (Ptr × A)
  without p [] = []
  without p (c ∷ cs) = if same_ptr c.0 p then without p cs else c ∷ without p cs

-- the list with a value in front, if there is one
abbrev pub add : {B : Type 0} → Ptr → Option B → List (Ptr × B) → List (Ptr × B)
add p None xs = xs
add p (Some x) xs = (p, x) ∷ xs

-- what the values show that show anything, at their places
abbrev pub pick : {A B : Type 0} → (A → Option B) → List (Ptr × A) → List (Ptr × B)
pick show [] = []
pick show (c ∷ cs) = add c.0 (show c.1) (pick show cs)

-- none of the places is this one
abbrev pub Absent : Ptr → List Ptr → Type 0
Absent p [] = Unit {0}
Absent p (q ∷ qs) = (same_ptr q p ≡ false) × Absent p qs

-- no place comes twice
abbrev pub Apart : List Ptr → Type 0
Apart [] = Unit {0}
Apart (q ∷ qs) = Absent q qs × Apart qs
