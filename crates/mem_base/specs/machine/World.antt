-- The pure machine: which events are possible, what each answers, and what it leaves.
-- This project's own: all that a machine has, as if one lock were round it, namely the desk, the generations that are
-- kept, the passes, and the cells of the notifiers and of all regions that have a place.
use Rattle.std.specs.Prelude.{ℕ, Bool, false, ◌&&◌, ◌||◌, not, nat_lt, if◌then◌else◌, List, [], map, replicate, slice_index, Option, Some}
use Rattle.std.specs.Prelude.{None, option_and_then, Result, Ok}
use Rattle.mem_base.specs.declared.map.ids.RegionId.{RegionId}
use Rattle.mem_base.specs.declared.map.refusals.Refusal.{Refusal}
use Rattle.mem_base.specs.declared.access.cells.Place.{Place}
use Rattle.mem_base.specs.declared.machine.events.Hand.TheVariants as hands
use Rattle.mem_base.specs.declared.machine.events.Event.{Event}
use Rattle.mem_base.specs.declared.machine.events.Event.TheVariants as events
use Rattle.mem_base.specs.declared.machine.events.Reply.{Reply}
use Rattle.mem_base.specs.declared.machine.events.Reply.TheVariants.{Number, Old, Done}
use Rattle.mem_base.specs.access.PlacesByRegion.{place_in}
use Rattle.mem_base.specs.access.Places.{mark_words}
use Rattle.mem_base.specs.access.Cells.{Touch, touch_of, region_of, Block, has_block, cells_in, blocks_after}
use Rattle.mem_base.specs.machine.Passes.{PassState, idle, passes_after}
use Rattle.mem_base.specs.machine.Generations.{may, number_told, entered_generation}
use Rattle.mem_base.specs.machine.Desk.{Desk, places_of, is_unfilled, is_all_filled, is_all_swept, carried_by}
use Rattle.mem_base.specs.machine.Reaps.{Writer, first_writer}
use Rattle.mem_base.specs.machine.Publishing.{would_publish}
use Rattle.mem_base.specs.machine.Configs.{private_reply, writer_after}
use Rattle.mem_base.specs.machine.Guards.{may_reach, may_mark}

-- the writer's part, the passes, and the cells of each place
pub record World : Type 0 where
  pub writer : Writer
  pub passes : List PassState
  pub blocks : List Block

-- a world, by its three parts
abbrev pub world : Writer → List PassState → List Block → World
world writer passes blocks = record { writer = writer; passes = passes; blocks = blocks }

-- the place of a region, of those that have one, or of the notifiers
abbrev pub place_in_world : World → RegionId → Option Place
place_in_world w region = place_in (places_of w.writer.desk) region

-- the region has a place, and the place passes a test
abbrev pub if_placed : Option Place → (Place → Bool) → Bool
if_placed None test = false
if_placed (Some p) test = test p

-- nothing is due or unfilled
abbrev pub is_at_rest : Desk → Bool
is_at_rest d = not d.due && is_all_filled d

-- the event is possible where it stands; a Look, an Announce, an Enter, a Leave or a Sweep goes by numbers alone
abbrev pub possible : World → Event → Bool
possible w (events.Place pass) = w.writer.desk.due && may w.writer.generations w.passes (events.Place pass)
possible w events.Publish = w.writer.desk.due && may w.writer.generations w.passes events.Publish
possible w (events.Word (hands.Pass pass) c step) =
    if_placed (place_in_world w c.region) (λ p. may_reach (entered_generation w.writer.generations w.passes pass) p c)
possible w (events.Word hands.Writer c step) = if_placed (place_in_world w c.region) (λ p. nat_lt c.word p.words)
possible w (events.Mark pass region client page) =
    if_placed (place_in_world w region) (λ p. may_mark (entered_generation w.writer.generations w.passes pass) p region page)
possible w (events.Harvest region client index) = if_placed (place_in_world w region) (λ p. nat_lt index (mark_words p.bytes))
possible w (events.Fill c) = is_unfilled w.writer.desk c
possible w (events.Config k) =
    is_at_rest w.writer.desk && (not (would_publish w.writer.desk k) || is_all_swept w.writer.desk)
possible w events.Reap = is_at_rest w.writer.desk && is_all_swept w.writer.desk
possible w e = may w.writer.generations w.passes e

-- the touch of an event on the place of its region
abbrev pub touch_at : World → Event → Option RegionId → Option Touch
touch_at w e None = None
touch_at w e (Some region) = option_and_then (λ p. touch_of p e) (place_in_world w region)

-- the word that a touch finds in the cells of a region
abbrev pub old_at : World → Option RegionId → Option Touch → ℕ
old_at w (Some region) (Some t) = slice_index (cells_in w.blocks region) t.word
old_at w _ _ = 0

-- the value before it of the cell that an event touches
abbrev pub old_value : World → Event → ℕ
old_value w e = old_at w (region_of e) (touch_at w e (region_of e))

-- what an event answers
abbrev pub reply : World → Event → Result Reply Refusal
reply w (events.Look pass) = Ok (Number (number_told w.writer.generations w.passes (events.Look pass)))
reply w (events.Enter pass) = Ok (Number (number_told w.writer.generations w.passes (events.Enter pass)))
reply w (events.Sweep pass) = Ok (Number (number_told w.writer.generations w.passes (events.Sweep pass)))
reply w events.Publish = Ok (Number (number_told w.writer.generations w.passes events.Publish))
reply w (events.Word hand c step) = Ok (Old (old_value w (events.Word hand c step)))
reply w (events.Harvest region client index) = Ok (Old (old_value w (events.Harvest region client index)))
reply w (events.Config k) = private_reply w.writer (events.Config k)
reply w e = Ok Done

-- the number in a reply; 0 where it has none
abbrev pub number_in : Result Reply Refusal → ℕ
number_in (Ok (Number n)) = n
number_in (Ok (Old n)) = n
number_in _ = 0

-- the cells of these places: those that were there stay, and new ones are 0
abbrev pub block_for : List Block → Place → Block
block_for blocks p = record { region = p.region; words = if has_block blocks p.region then cells_in blocks p.region else replicate p.words 0 }

-- the cells of all places of a desk
abbrev pub blocks_for : List Block → Desk → List Block
blocks_for blocks d = map (block_for blocks) (places_of d)

-- all cells after a touch, if there is one
abbrev pub touched_blocks : List Block → Option RegionId → Option Touch → List Block
touched_blocks blocks (Some region) (Some t) = blocks_after blocks region t.word t.step
touched_blocks blocks _ _ = blocks

-- the cells after an event: a private one makes and removes cells with their places, any other steps on one
abbrev pub cells_after : World → Event → Desk → List Block
cells_after w (events.Config k) d = blocks_for w.blocks d
cells_after w events.Reap d = blocks_for w.blocks d
cells_after w e d = touched_blocks w.blocks (region_of e) (touch_at w e (region_of e))

-- the world after an event that told a number
abbrev pub after_telling : World → Event → ℕ → World
after_telling w e number =
    let next = writer_after w.writer e (carried_by w.writer.desk e) number in
    world next (passes_after w.passes e number) (cells_after w e next.desk)

-- the world after an event, with the world's own reply
abbrev pub world_after : World → Event → World
world_after w e = after_telling w e (number_in (reply w e))

-- the world at first, by the words of its pool and the number of its passes
abbrev pub opening : ℕ → ℕ → World
opening pool_words passes =
    let first = first_writer pool_words passes in world first (replicate passes idle) (blocks_for [] first.desk)
