-- Entries that lack their answers, with the room for the lists of these.
use Rattle.std.specs.Prelude.{◌≡◌, ◌≤◌, ◌*◌, ℕ, List, [], length, vec_capacity}
use Rattle.mem_base.specs.declared.map.ids.RegionId.{RegionId}
use Rattle.mem_base.specs.declared.machine.records.DeskOrder.{DeskOrder}
use Rattle.mem_base.specs.declared.machine.records.DeskOrder.TheVariants as orders
use Rattle.mem_base.specs.declared.machine.records.DeskAnswer.{DeskAnswer}
use Rattle.mem_base.specs.declared.machine.records.DeskAnswer.TheVariants as answers
use Rattle.mem_base.specs.map.Limits.{pages_per_word}
use Rattle.mem_base.specs.access.PlacesByRegion.{place_in}
use Rattle.mem_base.specs.machine.Desk.{places_of}
use Rattle.mem_base.specs.machine.Orders.{mark_words_at}
use Rattle.mem_base.specs.machine.Reaps.{Writer}
use Rattle.desk_orders.specs.declared.drafts.Draft.{Draft}

abbrev pub regions_in : DeskAnswer → List RegionId
regions_in (answers.Released regions) = regions
regions_in answer = []

abbrev pub pages_in : DeskAnswer → List ℕ
pages_in (answers.Pages pages) = pages
pages_in answer = []

-- how many regions an answer names at most: a reap answers dropped ones
abbrev pub most_regions : Writer → DeskOrder → ℕ
most_regions w orders.Reap = length w.desk.dropped
most_regions w order = 0

-- how many pages at most: a harvest answers those of its region's mark words
abbrev pub most_pages : Writer → DeskOrder → ℕ
most_pages w (orders.Harvest region client) = mark_words_at (place_in (places_of w.desk) region) * pages_per_word
most_pages w order = 0

-- the draft is for this order, and has room for so many regions and so many pages
pub record IsDraftFor (order : DeskOrder) (region_room page_room : ℕ) (d : Draft) : Type 0 where
  pub order_is : d.order ≡ order
  pub no_regions : d.regions.items ≡ []
  pub no_pages : d.pages.items ≡ []
  pub regions : region_room ≤ vec_capacity d.regions
  pub pages : page_room ≤ vec_capacity d.pages

-- the draft is for this order, and has room for what it may answer
abbrev pub IsDraft : Writer → DeskOrder → Draft → Type 0
IsDraft w order d = IsDraftFor order (most_regions w order) (most_pages w order) d

-- it has room for this answer
pub record HasRoom (answer : DeskAnswer) (d : Draft) : Type 0 where
  pub no_regions : d.regions.items ≡ []
  pub no_pages : d.pages.items ≡ []
  pub regions : length (regions_in answer) ≤ vec_capacity d.regions
  pub pages : length (pages_in answer) ≤ vec_capacity d.pages
