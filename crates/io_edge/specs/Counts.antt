-- Counts of failures and misses, which never fall.
use Rattle.std.specs.Prelude.{◌≡◌, ℕ, ◌+◌, ◌-◌, ◌^◌, ◌≤◌, min}

-- the last value of a count
abbrev pub last_count : ℕ
last_count = 2 ^ 64 - 1

-- a count rose over what happened between before and now, or it stands at its last value
abbrev pub Rose : ℕ → ℕ → Type 0
Rose before now = min (before + 1) last_count ≤ now

-- what is steady stays so, and its count doesn't move
abbrev pub IsQuiet : Type 0 → ℕ → ℕ → Type 0
IsQuiet still_steady before now = still_steady × (now ≡ before)
