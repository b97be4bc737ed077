-- Histories of the pure machine in parts, and what a run of events makes of them.
use Rattle.std.proofs.Common.{◌≡◌, List, [], ◌∷◌, ◌++◌, map, refl, ap}
use Rattle.mem_base.specs.declared.machine.events.Event.{Event}
use Rattle.mem_base.specs.machine.World.{World, world_after}
use Rattle.mem_base.specs.machine.History.{PureEntry, after_entry, after_entries, IsLegalFrom, run_events}

pub legal_parts : (w : World) (xs ys : List PureEntry) → IsLegalFrom w (xs ++ ys) → IsLegalFrom w xs × IsLegalFrom (after_entries w xs) ys
legal_parts w [] ys l = (tt, l)
legal_parts w (x ∷ xs) ys l = let t = legal_parts (after_entry w x) xs ys l.2 in ((l.0, l.1, t.0), t.1)

pub legal_both : (w : World) (xs ys : List PureEntry) → IsLegalFrom w xs → IsLegalFrom (after_entries w xs) ys → IsLegalFrom w (xs ++ ys)
legal_both w [] ys l m = m
legal_both w (x ∷ xs) ys l m = (l.0, l.1, legal_both (after_entry w x) xs ys l.2 m)

pub after_both : (w : World) (xs ys : List PureEntry) → after_entries w (xs ++ ys) ≡ after_entries (after_entries w xs) ys
after_both w [] ys = refl
after_both w (x ∷ xs) ys = after_both (after_entry w x) xs ys

-- the entries of a run of events lead to its world

pub run_ends : (es : List Event) (w : World) → after_entries w (run_events w es).entries ≡ (run_events w es).world
run_ends [] w = refl
run_ends (e ∷ es) w = run_ends es (world_after w e)

pub ends_then : (es : List Event) (w : World) (ys : List PureEntry) → after_entries w ((run_events w es).entries ++ ys)
    ≡ after_entries (run_events w es).world ys
ends_then [] w ys = refl
ends_then (e ∷ es) w ys = ends_then es (world_after w e) ys

pub events_of_run : (es : List Event) (w : World) → map (λ y. y.event) (run_events w es).entries ≡ es
events_of_run [] w = refl
events_of_run (e ∷ es) w = ap (λ (fs : List Event). e ∷ fs) (events_of_run es (world_after w e))
