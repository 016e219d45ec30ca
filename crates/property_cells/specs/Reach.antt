-- Which cells a change reaches over pairs of a reader and what it has read. A read P names its cell by cell_of, and hit says which reads the change touches.
use Rattle.std.specs.Prelude.{◌≡◌, ◌≢◌, ℕ, List, [], ◌∷◌, Option, Some, ◌⊎◌}
use Rattle.property_cells.specs.declared.marks.State.{State}
use Rattle.property_cells.specs.declared.marks.State.TheVariants.{Gone, Invalid, Running, Valid, Assigned, Marked}
use Rattle.dep_list.specs.Pairs.{In}

module _ {P : Type 0} (pairs : List (ℕ × P)) (cell_of : P → ℕ) (hit : P → Type 0) where
  -- the cell has read what the change touches, or it has read a cell that the change reaches
  pub data Reached : ℕ → Type 0 where
    direct : (r : ℕ) (p : P) → In (r, p) pairs → hit p → Reached r
    through : (r : ℕ) (p : P) → In (r, p) pairs → Reached (cell_of p) → Reached r

  -- exactly the valid cells that the change reaches become invalid, and no other state changes
  pub record Unmakes (before after : ℕ → State) : Type 0 where
    pub kept : (c : ℕ) → before c ≢ Valid → after c ≡ before c
    pub fate : (c : ℕ) → before c ≡ Valid → ((after c ≡ Valid) × (Reached c → ⊥)) ⊎ ((after c ≡ Invalid) × Reached c)

  -- what a valid cell has read is valid or assigned, and an assigned cell has read nothing
  pub record IsNet (states : ℕ → State) : Type 0 where
    pub stands : (r : ℕ) (p : P) → In (r, p) pairs → states r ≡ Valid → (states (cell_of p) ≡ Valid) ⊎ (states (cell_of p) ≡ Assigned)
    pub bare : (c : ℕ) (p : P) → In (c, p) pairs → states c ≡ Assigned → ⊥

-- none of the list comes twice
abbrev pub Distinct : {A : Type 0} → List A → Type 0
Distinct [] = Unit {0}
Distinct (c ∷ cs) = (In c cs → ⊥) × Distinct cs

module _ {P : Type 0} (pairs : List (ℕ × P)) (cell_of : P → ℕ) (hit : P → Type 0) where
  -- what has become of a cell that was valid, while those in a list are still to be made invalid
  abbrev pub Became : List ℕ → State → ℕ → Type 0
  Became pending Valid c = Unit {0}
  Became pending Marked c = In c pending × Reached pairs cell_of hit c
  Became pending Invalid c = Reached pairs cell_of hit c
  Became pending Gone c = ⊥
  Became pending Running c = ⊥
  Became pending Assigned c = ⊥

  -- how far the marking has come; busy is the cell that was made invalid last, while its readers are gone through
  pub record IsMarking (first now : ℕ → State) (busy : Option ℕ) (pending : List ℕ) : Type 0 where
    pub kept : (c : ℕ) → first c ≢ Valid → now c ≡ first c
    pub fate : (c : ℕ) → first c ≡ Valid → Became pending (now c) c
    pub marked : (c : ℕ) → In c pending → (first c ≡ Valid) × (now c ≡ Marked)
    pub distinct : Distinct pending
    pub closed : (r : ℕ) (p : P) → In (r, p) pairs → first (cell_of p) ≡ Valid → now (cell_of p) ≡ Invalid → (busy ≡ Some (cell_of p)) ⊎ (now r ≢ Valid)
