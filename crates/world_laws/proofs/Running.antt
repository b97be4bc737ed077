-- Events that are possible one after another, and what holds after them.
use Rattle.std.proofs.Common.{◌≡◌, ℕ, true, false, List, [], ◌∷◌, ◌++◌, map, replicate, refl, sym, subst, zero, suc}
use Rattle.mem_base.specs.declared.machine.events.Event.{Event}
use Rattle.mem_base.specs.declared.machine.events.Event.TheVariants as events
use Rattle.mem_base.specs.lists.Every.{Every}
use Rattle.mem_base.specs.machine.Generations.{PassTrack, nothing_known, with_placed}
use Rattle.mem_base.specs.machine.World.{World, opening, possible, number_in, world_after, after_telling}
use Rattle.mem_base.specs.machine.History.{PureEntry, after_entry, after_entries, IsLegalFrom, IsLegal, run_events}
use Rattle.mem_base.proofs.EveryLaws.{every_get, every_set}
use Rattle.world_laws.proofs.Keeping.{Holds, holds_after, holds_at_first}
use Rattle.std.proofs.lemmas.Bool.{and_parts, not-true}
use Rattle.mem_base.proofs.BoolLaws.{true_is_not_false}

-- each event is possible where it stands
abbrev pub AllMay : World → List Event → Type 0
AllMay w [] = Unit {0}
AllMay w (e ∷ es) = (possible w e ≡ true) × AllMay (world_after w e) es

pub all_both : (es fs : List Event) (w : World) → AllMay w es → AllMay (run_events w es).world fs → AllMay w (es ++ fs)
all_both [] fs w a b = b
all_both (e ∷ es) fs w a b = (a.0, all_both es fs (world_after w e) a.1 b)

-- they are a legal history
pub legal_run : (es : List Event) (w : World) → AllMay w es → IsLegalFrom w (run_events w es).entries
legal_run [] w a = tt
legal_run (e ∷ es) w a = (a.0, refl, legal_run es (world_after w e) a.1)

pub legal_then : (es : List Event) (w : World) (ys : List PureEntry) → AllMay w es → IsLegalFrom (run_events w es).world ys
    → IsLegalFrom w ((run_events w es).entries ++ ys)
legal_then [] w ys a l = l
legal_then (e ∷ es) w ys a l = (a.0, refl, legal_then es (world_after w e) ys a.1 l)

-- no pass has its copy of the next generation
abbrev pub AreUnplaced : List PassTrack → Type 0
AreUnplaced ks = Every (λ k. k.placed ≡ false) ks

-- so it is while nothing is due
pub record Sound (w : World) : Type 0 where
  pub holds : Holds w
  pub unplaced : w.writer.desk.due ≡ false → AreUnplaced w.writer.generations.passes

none_placed : (ks : List PassTrack) → AreUnplaced (map (with_placed false) ks)
none_placed [] = tt
none_placed (k ∷ ks) = (refl, none_placed ks)

none_at_first : (n : ℕ) → AreUnplaced (replicate n nothing_known)
none_at_first zero = tt
none_at_first (suc n) = (refl, none_at_first n)

unplaced_after : (w : World) → Sound w → (e : Event) → possible w e ≡ true → (world_after w e).writer.desk.due ≡ false
    → AreUnplaced (world_after w e).writer.generations.passes
unplaced_after w k (events.Sweep v) may off = let ks = w.writer.generations.passes in
    every_set (λ k. k.placed ≡ false) ks v.0 _ (every_get (λ k. k.placed ≡ false) ks v.0 nothing_known refl (k.unplaced off)) (k.unplaced off)
unplaced_after w k (events.Place v) may off = true_is_not_false w.writer.desk.due (and_parts _ _ may).0 off
unplaced_after w k events.Publish may off = none_placed w.writer.generations.passes
unplaced_after w k (events.Config x) may off = k.unplaced (not-true w.writer.desk.due (and_parts _ _ (and_parts _ _ may).0).0)
unplaced_after w k _ may off = k.unplaced off

pub sound_after : (w : World) → Sound w → (e : Event) → possible w e ≡ true → Sound (world_after w e)
sound_after w k e may = record { holds = holds_after w k.holds e may; unplaced = unplaced_after w k e may }

pub sound_run : (es : List Event) (w : World) → Sound w → AllMay w es → Sound (run_events w es).world
sound_run [] w k a = k
sound_run (e ∷ es) w k a = sound_run es (world_after w e) (sound_after w k e a.0) a.1

pub sound_from : (w : World) (xs : List PureEntry) → Sound w → IsLegalFrom w xs → Sound (after_entries w xs)
sound_from w [] k l = k
sound_from w (x ∷ xs) k l = sound_from (after_entry w x) xs
    (subst (λ r. Sound (after_telling w x.event (number_in r))) (sym l.1) (sound_after w k x.event l.0)) l.2

pub sound : (pool_words passes : ℕ) (xs : List PureEntry) → IsLegal pool_words passes xs → Sound (after_entries (opening pool_words passes) xs)
sound pool_words passes xs l =
    sound_from (opening pool_words passes) xs (record { holds = holds_at_first pool_words passes; unplaced = λ off. none_at_first passes }) l
