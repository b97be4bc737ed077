-- The marks of a write that are still to come.
use Rattle.std.specs.Prelude.{ℕ, zero, suc, ◌+◌, ◌-◌, Bool, ◌==◌, not, if◌then◌else◌, bit_and, List, [], ◌∷◌, ◌++◌, map, filter, Option, Some, None}
use Rattle.mem_base.specs.declared.map.kinds.Client.{Client}
use Rattle.mem_base.specs.declared.map.kinds.Client.TheVariants.{Vga, Code, Migration}
use Rattle.mem_base.specs.map.Clients.{bit_of}

-- the logging mask has the client
abbrev pub has : ℕ → Client → Bool
has log c = not (bit_and log (bit_of c) == 0)

-- the clients of a mask after one
abbrev pub clients_after : ℕ → Client → List Client
clients_after log Vga = filter (has log) (Code ∷ Migration ∷ [])
clients_after log Code = filter (has log) (Migration ∷ [])
clients_after log Migration = []

-- all clients of a mask
abbrev pub all_clients : ℕ → List Client
all_clients log = if has log Vga then Vga ∷ clients_after log Vga else clients_after log Vga

abbrev pub first_of : {A : Type 0} → List A → Option A
first_of [] = None
first_of (x ∷ xs) = Some x

-- a page, marked for these clients
abbrev pub marks_on : ℕ → List Client → List (ℕ × Client)
marks_on page clients = map (λ c. (page, c)) clients

-- `count` pages from one on, each marked for these clients
abbrev pub marks_from : List Client → ℕ → ℕ → List (ℕ × Client)
marks_from clients page zero = []
marks_from clients page (suc count) = marks_on page clients ++ marks_from clients (page + 1) count

-- what is left, from the next mark on, up to the last page
abbrev pub marks_left : ℕ → ℕ → Option (ℕ × Client) → List (ℕ × Client)
marks_left log last None = []
marks_left log last (Some m) = m ∷ marks_on m.0 (clients_after log m.1) ++ marks_from (all_clients log) (m.0 + 1) (last - m.0)
