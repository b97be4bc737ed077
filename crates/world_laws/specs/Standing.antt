-- That the places of held generations stand, in every history of the pure machine.
use Rattle.std.specs.Prelude.{◌≡◌, ℕ, ◌+◌, ◌<◌, ◌≤◌, true, false, ◌||◌, List, Some}
use Rattle.mem_base.specs.declared.map.kinds.Client.{Client}
use Rattle.mem_base.specs.declared.access.cells.Place.{Place}
use Rattle.mem_base.specs.lists.Every.{Every}
use Rattle.mem_base.specs.map.Limits.{notifier_count}
use Rattle.mem_base.specs.views.Naming.{names}
use Rattle.mem_base.specs.access.PlacesByRegion.{place_in}
use Rattle.mem_base.specs.access.Places.{is_notifiers, data_words, pages_in, word_of_page}
use Rattle.mem_base.specs.access.Cells.{cell}
use Rattle.mem_base.specs.machine.Generations.{Generation, held_generations}
use Rattle.mem_base.specs.machine.Desk.{Desk, places_of, is_unfilled}
use Rattle.mem_base.specs.machine.World.{opening}
use Rattle.mem_base.specs.machine.History.{PureEntry, after_entries, IsLegal}

-- a place that a generation carries stands at a desk
pub record StandsIn (d : Desk) (x : Generation) (p : Place) : Type 0 where
  -- it is the desk's place of its region
  pub stands : place_in (places_of d) p.region ≡ Some p
  -- the generation's forest names its region, or it is the notifiers'
  pub named : (is_notifiers p.region || names x.forest p.region) ≡ true
  -- it has words, and they hold its data, its registers and the marks of its pages
  pub some : 0 < p.words
  pub wide : data_words p.bytes + p.regs ≤ p.words
  pub marks : (client : Client) (page : ℕ) → page < pages_in p → word_of_page p client page < p.words
  pub notifiers : is_notifiers p.region ≡ true → p.words ≡ notifier_count
  -- each of its cells was cleared
  pub filled : (word : ℕ) → is_unfilled d (cell p.region word) ≡ false

-- each place of each held generation does
abbrev pub HeldPlacesStand : Type 0
HeldPlacesStand = (pool_words passes : ℕ) (xs : List PureEntry) → IsLegal pool_words passes xs →
    let h = (after_entries (opening pool_words passes) xs).writer in
    Every (λ x. Every (StandsIn h.desk x) x.places) (held_generations h.generations)
