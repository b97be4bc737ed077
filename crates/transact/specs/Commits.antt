-- What a commit comes to.
-- QEMU's core, `memory_region_transaction_commit`: only the outermost one acts, and only where a change is pending.
use Rattle.std.specs.Prelude.{◌≡◌, ◌<◌, true, false, List, None}
use Rattle.mem_base.specs.declared.map.calls.Config.TheVariants as configs
use Rattle.mem_base.specs.declared.access.cells.Place.{Place}
use Rattle.mem_base.specs.declared.views.listening.Listener.{Listener}
use Rattle.mem_base.specs.machine.Committed.{transaction_after}
use Rattle.transact.specs.Desks.{DeskState, with_state}
use Rattle.transact.specs.Preparing.{Readied, readied}
use Rattle.transact.specs.declared.prepared.Step.{Step}
use Rattle.transact.specs.declared.prepared.Step.TheVariants.{Inner, Empty, Ready}

-- a commit that publishes nothing: it closes an inner transaction, or the outermost one in which nothing is pending
abbrev pub closed : DeskState → DeskState
closed d = with_state (transaction_after d.state configs.Commit) d

-- what a commit comes to, by the desk before it and after it: an inner transaction is closed; or the outermost one, in which
-- nothing is pending; or what is pending is prepared, and the desk stays as it was
abbrev pub IsStep : DeskState → List Place → List Listener → DeskState → Step → Type 0
IsStep old places listeners new Inner = (1 < old.state.depth) × (new ≡ closed old)
IsStep old places listeners new Empty = (old.state.depth ≡ 1) × (old.state.pending ≡ false) × (new ≡ closed old)
IsStep old places listeners new (Ready p) =
    (old.state.depth ≡ 1) × (old.state.pending ≡ true) × (new ≡ old) × (p ≡ readied old.current old.state.forest places listeners None)

-- where a commit prepares something, this holds of it
abbrev pub IfReady : Step → (Readied → Type 0) → Type 0
IfReady (Ready p) holds = holds p
IfReady _ holds = Unit {0}
