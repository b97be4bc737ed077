-- The pure machine beside the running one: what holds between them at any moment.
use Rattle.std.specs.Prelude.{◌≡◌, ℕ, ◌+◌, ◌<◌, ◌≤◌, true, false, ◌||◌, List, [], Some, None}
use Rattle.mem_base.specs.declared.map.ids.RegionId.{RegionId}
use Rattle.mem_base.specs.declared.map.kinds.Client.{Client}
use Rattle.mem_base.specs.declared.access.cells.Place.{Place}
use Rattle.mem_base.specs.declared.access.cells.Cell.{Cell}
use Rattle.mem_base.specs.declared.machine.events.Event.{Event}
use Rattle.mem_base.specs.declared.machine.events.Carried.{Carried}
use Rattle.mem_base.specs.lists.Every.{Every}
use Rattle.mem_base.specs.access.PlacesByRegion.{place_in}
use Rattle.mem_base.specs.map.Limits.{notifier_count}
use Rattle.mem_base.specs.views.Naming.{names}
use Rattle.mem_base.specs.access.Places.{is_notifiers, data_words, pages_in, word_of_page}
use Rattle.mem_base.specs.access.Cells.{has_block}
use Rattle.mem_base.specs.machine.Generations.{Generation, held_generations}
use Rattle.mem_base.specs.machine.Desk.{places_of}
use Rattle.mem_base.specs.machine.World.{World, possible, reply, world_after}
use Rattle.mem_base.specs.machine.History.{IsOrderly}
use Rattle.mem_base.specs.machine.SharedHistory.{Shared, shared, pool_after, pool_touch_of}
use Rattle.mem_base.specs.machine.SharedHistory as running
use Rattle.mem_base.specs.machine.JoinedHistory.{reply_read}
use Rattle.mem_base.specs.machine.Turns.{history_entry}
use Rattle.turn_laws.proofs.Backed.{IsBacked, waits}

-- a place by itself: it is the one of its region, it has words, it has the words that its bytes and registers ask for, and the
-- notifiers' has 64
pub record IsWhole (places : List Place) (p : Place) : Type 0 where
  pub stands : place_in places p.region ≡ Some p
  pub some : 0 < p.words
  pub wide : data_words p.bytes + p.regs ≤ p.words
  pub marks : (client : Client) (page : ℕ) → page < pages_in p → word_of_page p client page < p.words
  pub notifiers : is_notifiers p.region ≡ true → p.words ≡ notifier_count

-- a place that a generation carries still stands, its region is named, and each of its cells was cleared
pub record Stands (places : List Place) (unfilled : List Cell) (x : Generation) (p : Place) : Type 0 where
  pub whole : IsWhole places p
  pub named : (is_notifiers p.region || names x.forest p.region) ≡ true
  pub filled : (i : ℕ) → waits unfilled p.region i ≡ false

abbrev pub AllStand : List Place → List Cell → Generation → Type 0
AllStand places unfilled x = Every (Stands places unfilled x) x.places

-- what the running machine shows of a world, with these words
abbrev pub seen : World → List ℕ → Shared
seen w words = shared w.writer.generations w.passes words

pub record Coupled (w : World) (words : List ℕ) : Type 0 where
  pub backed : IsBacked (places_of w.writer.desk) w.writer.desk.unfilled w.blocks words
  pub held : Every (AllStand (places_of w.writer.desk) w.writer.desk.unfilled) (held_generations w.writer.generations)
  pub whole : Every (IsWhole (places_of w.writer.desk)) (places_of w.writer.desk)
  pub low : Every (λ r. is_notifiers r ≡ false) w.writer.desk.dropped
  pub still : w.writer.desk.due ≡ true → w.writer.desk.unfilled ≡ []
  pub bare : (r : RegionId) → place_in (places_of w.writer.desk) r ≡ None → has_block w.blocks r ≡ false
  pub order : IsOrderly w

-- an event of the running machine, with what it carries, is one of the world, with the same reply
pub record Follows (w : World) (words : List ℕ) (e : Event) (x : Carried) : Type 0 where
  pub may : possible w e ≡ true
  pub tells : reply_read e (running.shared_reply (seen w words) e x) ≡ reply w e
  pub leads : running.after_shared_entry (seen w words) (history_entry e x (running.shared_reply (seen w words) e x)) ≡ seen (world_after w e)
      (pool_after words (pool_touch_of e x))
  pub coupled : Coupled (world_after w e) (pool_after words (pool_touch_of e x))
