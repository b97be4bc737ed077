-- The writer's own entries.
use Rattle.std.proofs.Common.{◌≡◌, ◌+◌, eqb, List, [], ◌∷◌, refl, arith, ne_eqb, if◌then◌else◌}
use Rattle.mem_base.specs.declared.machine.events.Event.{Event}
use Rattle.mem_base.specs.declared.machine.events.Event.TheVariants as events
use Rattle.mem_base.specs.declared.machine.events.HistoryEntry.{HistoryEntry}
use Rattle.mem_base.specs.declared.machine.events.Hand.TheVariants as hands
use Rattle.mem_base.specs.machine.Turns.{is_writers, writers_of}
use Rattle.mem_base.specs.machine.Actors.{actor_of, own_entries}

writer_by : (e : Event) → eqb (actor_of e) 0 ≡ is_writers e
writer_by (events.Look u) = ne_eqb (u.0 + 1) 0 (λ q. omega arith)
writer_by (events.Announce u) = ne_eqb (u.0 + 1) 0 (λ q. omega arith)
writer_by (events.Enter u) = ne_eqb (u.0 + 1) 0 (λ q. omega arith)
writer_by (events.Leave u) = ne_eqb (u.0 + 1) 0 (λ q. omega arith)
writer_by (events.Word (hands.Pass u) c step) = ne_eqb (u.0 + 1) 0 (λ q. omega arith)
writer_by (events.Mark u region client page) = ne_eqb (u.0 + 1) 0 (λ q. omega arith)
writer_by _ = refl

pub own_writers : (xs : List HistoryEntry) → own_entries 0 xs ≡ writers_of xs
own_writers [] = refl
own_writers (x ∷ xs) = λ i. if writer_by x.event i then x ∷ own_writers xs i else own_writers xs i
