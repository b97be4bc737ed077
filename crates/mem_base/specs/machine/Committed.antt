-- The forests that calls, begins and commits commit, one after another. A call that the forest refuses counts for
-- nothing. What is refused for another cause (a publish that is held up, a region without a hole, a transaction too
-- many) is left out of the list by whoever cites this.
-- QEMU's manual, "The memory API", `memory_region_transaction_begin` and `_commit`: transactions nest, and only the
-- outermost commit acts. That it acts only where a change is pending, and that a change outside a transaction is one
-- by itself, are QEMU's core too; that every such change counts, also where it alters no view, is this project's own
-- rule.
use Rattle.std.specs.Prelude.{ℕ, ◌+◌, ◌-◌, Bool, false, ◌==◌, ◌&&◌, ◌||◌, not, if◌then◌else◌, is_ok, List, [], ◌∷◌}
use Rattle.mem_base.specs.declared.map.forests.Forest.{Forest}
use Rattle.mem_base.specs.declared.map.calls.Call.{Call}
use Rattle.mem_base.specs.declared.map.calls.Config.{Config}
use Rattle.mem_base.specs.declared.map.calls.Config.TheVariants as configs
use Rattle.mem_base.specs.map.Calls.{after, left_by, empty, is_quiet}

-- the forest that stands, the transactions that are open, and whether a change was made in them
pub record TransactionState : Type 0 where
  pub forest : Forest
  pub depth : ℕ
  pub pending : Bool

-- such a state, by its three parts
abbrev pub transaction : Forest → ℕ → Bool → TransactionState
transaction forest depth pending = record { forest = forest; depth = depth; pending = pending }

-- the call is a change, and the forest accepts it; making and dropping a region are no changes
abbrev pub is_change : Forest → Call → Bool
is_change f call = not (is_quiet call) && is_ok (after f call)

-- what stands after a call, a begin or a commit; a change is pending while a transaction is open
abbrev pub transaction_after : TransactionState → Config → TransactionState
transaction_after s configs.Begin = record s { depth = s.depth + 1 }
transaction_after s (configs.Call call) =
    transaction (left_by s.forest (after s.forest call)) s.depth (not (s.depth == 0) && (s.pending || is_change s.forest call))
transaction_after s configs.Commit = transaction s.forest (s.depth - 1) (not (s.depth == 1) && s.pending)
transaction_after s (configs.Listen listener space priority) = s
transaction_after s (configs.Unlisten listener) = s

-- a forest is committed: by a change outside all transactions, or by the outermost commit with a change pending
abbrev pub commits : TransactionState → Config → Bool
commits s (configs.Call call) = (s.depth == 0) && is_change s.forest call
commits s configs.Commit = (s.depth == 1) && s.pending
commits s _ = false

-- the forests committed from what stands on
abbrev pub committed_from : TransactionState → List Config → List Forest
committed_from s [] = []
committed_from s (k ∷ ks) =
    if commits s k then (transaction_after s k).forest ∷ committed_from (transaction_after s k) ks
    else committed_from (transaction_after s k) ks

-- all committed forests; number 0 is the empty one
abbrev pub committed_forests : List Config → List Forest
committed_forests ks = empty ∷ committed_from (transaction empty 0 false) ks
