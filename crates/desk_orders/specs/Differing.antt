-- How the clerks' lists are held against the entries.
use Rattle.std.specs.Prelude.{◌≡◌, ◌≢◌, ℕ, ◌+◌, ◌==◌, MatchBool, true, List, slice_get, Some}
use Rattle.mem_base.specs.declared.machine.records.DeskEntry.{DeskEntry}

-- the list goes on with the entry, where this has the number
abbrev pub IsNext : List DeskEntry → ℕ → ℕ → DeskEntry → ℕ → Type 0
IsNext mine at who e next = MatchBool (e.who == who) ((slice_get mine at ≡ Some e) × (next ≡ at + 1)) (next ≡ at)

-- the entry has the number, and the list does not have it there
abbrev pub IsMissed : List DeskEntry → ℕ → ℕ → DeskEntry → Type 0
IsMissed mine at who e = ((e.who == who) ≡ true) × (slice_get mine at ≢ Some e)
