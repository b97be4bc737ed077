-- What holds of a world holds of it without some calls in its journal too.
use Rattle.std.proofs.Common.{ℕ, List}
use Rattle.mem_base.specs.map.PassIds.{PassId}
use Rattle.mem_base.specs.views.Listening.{Delivery}
use Rattle.mem_base.specs.machine.World.{World}
use Rattle.history_laws.specs.BackedForests.{ShowsOwnPlaces}
use Rattle.history_laws.specs.Released.{DropsOnce}
use Rattle.world_laws.specs.Entered.{EntersHeld}
use Rattle.world_laws.proofs.Keeping.{Holds}
use Rattle.world_hand.specs.Taken.{told_before}

module _ (taken : List Delivery) (w : World) where
  pub holds_without : Holds (told_before taken w) → Holds w
  holds_without h = let k = h.kept.coupled in let s = h.sound in record {
    kept = record {
      words = h.kept.words;
      coupled = record {
        backed = k.backed;
        held = k.held;
        whole = k.whole;
        low = k.low;
        still = k.still;
        bare = k.bare;
        order = k.order;
      };
    };
    sound = record { forest = s.forest; few = s.few; places = s.places; pending = s.pending };
  }

  pub places_without : (pool_words : ℕ) → ShowsOwnPlaces pool_words (told_before taken w).writer → ShowsOwnPlaces pool_words w.writer
  places_without pool_words h = record { pool = h.pool; backs = h.backs; shown = h.shown }

  pub drops_without : DropsOnce (told_before taken w).writer → DropsOnce w.writer
  drops_without h = record { rising = h.rising; gone = h.gone; released = h.released }

  pub enters_without : (pass : PassId) → EntersHeld (told_before taken w) pass → EntersHeld w pass
  enters_without pass h = record {
    there = λ n e. let t = h.there n e in (t.0, t.1, record { kept = t.2.kept; held = t.2.held; among = t.2.among });
    numbered = λ x e. let t = h.numbered x e in (t.0, t.1, record { kept = t.2.kept; held = t.2.held; among = t.2.among });
  }
