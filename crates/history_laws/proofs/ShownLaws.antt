-- After every legal history each generation that is kept shows just the places of its forest.
use Rattle.std.proofs.Common.{◌≡◌, ℕ, ◌-◌, true, List, [], ◌∷◌, ◌++◌, sym, refl, subst, arith}
use Rattle.mem_base.specs.declared.machine.events.Event.{Event}
use Rattle.mem_base.specs.declared.machine.events.Event.TheVariants as events
use Rattle.mem_base.specs.lists.Every.{Every}
use Rattle.mem_base.specs.map.Limits.{most_generations}
use Rattle.mem_base.specs.access.Places.{notifiers_place}
use Rattle.mem_base.specs.access.EditionPlaces.{ArePlacesOf}
use Rattle.mem_base.specs.machine.Generations.{Generation}
use Rattle.mem_base.specs.machine.Desk.{shown_places}
use Rattle.mem_base.specs.machine.World.{World, possible, after_telling, number_in, opening}
use Rattle.mem_base.specs.machine.History.{PureEntry, after_entry, after_entries, IsLegalFrom, IsLegal}
use Rattle.history_laws.specs.BackedForests.{ShowsOwnPlaces}
use Rattle.history_laws.proofs.Idles.{IsSoundDesk, opens_idle}
use Rattle.history_laws.proofs.PublishedLaws.{sound_after}
use Rattle.history_laws.proofs.DroppedLaws.{Dropped, dropped_after}
use Rattle.history_laws.proofs.PlaceLaws.{shown_are_its_own}
use Rattle.history_laws.proofs.BackLaws.{Backs, configured_backs, reap_backs}
use Rattle.mem_base.proofs.EveryLaws.{every_taken}

abbrev Shown : ℕ → Generation → Type 0
Shown pool_words x = ArePlacesOf pool_words x.forest x.places

record KeepsPlaces (pool_words : ℕ) (w : World) : Type 0 where
  sound : IsSoundDesk w.writer.desk
  dropped : Dropped w.writer.desk
  backs : Backs pool_words w.writer.desk
  shown : Every (Shown pool_words) w.writer.generations.kept

module _ (pool_words : ℕ) (w : World) (k : KeepsPlaces pool_words w) where
  -- the desk's forest with the places that a Publish carries
  carried : Shown pool_words (record {
    forest = w.writer.desk.forest;
    places = shown_places w.writer.desk.forest
        (w.writer.desk.places ++ notifiers_place w.writer.desk.pool_words ∷ []);
  })
  carried = let d = w.writer.desk in let b = k.backs in
      subst (λ (n : ℕ). ArePlacesOf pool_words d.forest (shown_places d.forest (d.places ++ notifiers_place n ∷ []))) (sym b.0)
      (shown_are_its_own pool_words d.forest d.places k.sound.forest.ascending b.1)

  backs_shows : (e : Event) (n : ℕ) → Backs pool_words (after_telling w e n).writer.desk × Every (Shown pool_words)
      (after_telling w e n).writer.generations.kept
  backs_shows events.Publish n = (k.backs, (carried, every_taken (Shown pool_words) (most_generations - 1) w.writer.generations.kept k.shown))
  backs_shows (events.Config c) n = (configured_backs pool_words w.writer.generations w.writer.desk k.sound k.backs c, k.shown)
  backs_shows events.Reap n = (reap_backs pool_words w.writer k.dropped k.backs, k.shown)
  backs_shows _ n = (k.backs, k.shown)

  keeps_after : (e : Event) (n : ℕ) → possible w e ≡ true → KeepsPlaces pool_words (after_telling w e n)
  keeps_after e n may = let t = backs_shows e n in record {
    sound = sound_after w e n may k.sound;
    dropped = dropped_after w e n k.sound k.dropped;
    backs = t.0;
    shown = t.1;
  }

keeps_from : (pool_words : ℕ) (w : World) (xs : List PureEntry) → KeepsPlaces pool_words w → IsLegalFrom w xs → KeepsPlaces pool_words (after_entries w xs)
keeps_from pool_words w [] k l = k
keeps_from pool_words w (x ∷ xs) k l =
    keeps_from pool_words (after_entry w x) xs (keeps_after pool_words w k x.event (number_in x.reply) l.0) l.2

pub generations_show_places : (pool_words passes : ℕ) (xs : List PureEntry) → IsLegal pool_words passes xs
    → ShowsOwnPlaces pool_words (after_entries (opening pool_words passes) xs).writer
generations_show_places pool_words passes xs l =
    let t = keeps_from pool_words (opening pool_words passes) xs record {
      sound = (opens_idle pool_words passes).sound;
      dropped = record { rising = tt; gone = tt };
      backs = (refl, record { regions = λ r n e some. absurd (grind (arith, e)); fits = tt; inside = tt; apart = tt });
      shown = (record { each = tt; regions = tt; notifying = λ shows. absurd (grind (arith, shows)); apart = tt }, tt);
    } l in record { pool = t.backs.0; backs = t.backs.1; shown = t.shown }
