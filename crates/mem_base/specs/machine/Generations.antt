-- The generations that are kept, and what the writer knows of each pass. The pure machine and the running one share
-- all of this.
-- This project's own rule: a generation is published by one store, at most eight are kept, and one is held while it
-- is current or may still be used by a pass.
use Rattle.std.specs.Prelude.{ℕ, ◌+◌, ◌-◌, ◌==◌, ◌&&◌, ◌||◌, max, min, Bool, true, false, not, nat_le, if◌then◌else◌, List, [], ◌∷◌, take}
use Rattle.std.specs.Prelude.{map, replicate, slice_set, slice_index_or, slice_get, Option, Some, None, is_some, is_none}
use Rattle.std.specs.List.{list_any, list_all}
use Rattle.mem_base.specs.map.PassIds.{PassId}
use Rattle.mem_base.specs.declared.map.forests.Forest.{Forest}
use Rattle.mem_base.specs.declared.access.cells.Place.{Place}
use Rattle.mem_base.specs.declared.machine.events.Event.{Event}
use Rattle.mem_base.specs.declared.machine.events.Event.TheVariants.{Look, Announce, Enter, Leave, Sweep, Publish}
use Rattle.mem_base.specs.declared.machine.events.Event.TheVariants as events
use Rattle.mem_base.specs.declared.machine.events.Carried.{Carried}
use Rattle.mem_base.specs.declared.machine.events.Carried.TheVariants.{Edition}
use Rattle.mem_base.specs.map.Limits.{most_generations}
use Rattle.mem_base.specs.map.Calls.{empty}
use Rattle.mem_base.specs.machine.Passes.{PassState, is_pass, pass_of}

-- a published forest, and the places that it shows
pub record Generation : Type 0 where
  pub forest : Forest
  pub places : List Place

-- a generation, by its forest and its places
abbrev pub generation : Forest → List Place → Generation
generation forest places = record { forest = forest; places = places }

-- of one pass: the number that the last Sweep found announced, the lowest number that the pass may still use, and
-- whether it has its copy of the next generation
pub record PassTrack : Type 0 where
  pub found : Option ℕ
  pub lowest : ℕ
  pub placed : Bool

-- what is known of a pass at first
abbrev pub nothing_known : PassTrack
nothing_known = record { found = None; lowest = 0; placed = false }

-- the current number; the generations that are kept, from the current one back; and what is known of each pass
pub record Generations : Type 0 where
  pub current : ℕ
  pub kept : List Generation
  pub passes : List PassTrack

-- what is known of one pass
abbrev pub known_of : Generations → PassId → PassTrack
known_of g pass = slice_index_or g.passes pass.0 nothing_known

-- the generation of a number, where it is kept
abbrev pub generation_of : Generations → ℕ → Option Generation
generation_of g number = if nat_le number g.current then slice_get g.kept (g.current - number) else None

-- at first there is the empty generation, and nothing is known
abbrev pub first_generations : ℕ → Generations
first_generations passes = record { current = 0; kept = generation empty [] ∷ []; passes = replicate passes nothing_known }

-- the word by which a pass announces: 0, or the announced number plus one
abbrev pub pin_word : Option ℕ → ℕ
pin_word None = 0
pin_word (Some number) = number + 1

-- the number that a word announces, if any
abbrev pub number_pinned : ℕ → Option ℕ
number_pinned word = if word == 0 then None else Some (word - 1)

-- the lowest number after a Sweep: the current one where nothing was announced, and else no less than before
abbrev pub lowest_after : ℕ → ℕ → Option ℕ → ℕ
lowest_after current lowest None = current
lowest_after current lowest (Some number) = max lowest number

-- what is known of a pass after a Sweep found this word
abbrev pub known_after_sweep : ℕ → PassTrack → ℕ → PassTrack
known_after_sweep current k word = record k { found = number_pinned word; lowest = lowest_after current k.lowest (number_pinned word) }

-- the same of a pass, but for whether it has its copy
abbrev pub with_placed : Bool → PassTrack → PassTrack
with_placed placed k = record k { placed = placed }

-- the next generation is current, the oldest of eight is kept no more, and no pass has its copy of one yet
abbrev pub published : Generations → Carried → Generations
published g (Edition forest places) = record {
  current = g.current + 1;
  kept = generation forest places ∷ take (most_generations - 1) g.kept;
  passes = map (with_placed false) g.passes;
}
published g _ = g

-- the generations with something else known of one pass
abbrev pub with_known : Generations → PassId → PassTrack → Generations
with_known g pass k = record g { passes = slice_set g.passes pass.0 k }

-- the generations after an event of the writer with what it carries and the number that it told
abbrev pub generations_after : Generations → Event → Carried → ℕ → Generations
generations_after g (Sweep pass) carried number = with_known g pass (known_after_sweep g.current (known_of g pass) number)
generations_after g (events.Place pass) carried number = with_known g pass (with_placed true (known_of g pass))
generations_after g Publish carried number = published g carried
generations_after g _ carried number = g

-- all passes have their copy of the next generation
abbrev pub all_placed : List PassTrack → Bool
all_placed ks = list_all (λ k. k.placed) ks

-- when an event on numbers may happen, by what both machines ask
abbrev pub may : Generations → List PassState → Event → Bool
may g ps (Look pass) = is_pass ps pass && is_none (pass_of ps pass).announced
may g ps (Announce pass) = is_pass ps pass && is_some (pass_of ps pass).looked && is_none (pass_of ps pass).announced
may g ps (Enter pass) = is_pass ps pass && is_some (pass_of ps pass).announced && is_none (pass_of ps pass).entered
may g ps (Leave pass) = is_pass ps pass && is_some (pass_of ps pass).entered
may g ps (Sweep pass) = is_pass ps pass
may g ps (events.Place pass) = is_pass ps pass && not (known_of g pass).placed
may g ps Publish = all_placed g.passes
may g ps _ = false

-- the number that an event on numbers tells, and 0 of any other
abbrev pub number_told : Generations → List PassState → Event → ℕ
number_told g ps (Look pass) = g.current
number_told g ps (Enter pass) = g.current
number_told g ps (Sweep pass) = pin_word (pass_of ps pass).announced
number_told g ps Publish = g.current + 1
number_told g ps _ = 0

-- the generation of a number, if there is a number and it is kept
abbrev pub generation_at : Generations → Option ℕ → Option Generation
generation_at g None = None
generation_at g (Some number) = generation_of g number

-- the generation in which a pass is entered
abbrev pub entered_generation : Generations → List PassState → PassId → Option Generation
entered_generation g ps pass = if is_pass ps pass then generation_at g (pass_of ps pass).entered else None

-- a generation is held while it is current, or while some pass may still use it
abbrev pub is_held : Generations → ℕ → Bool
is_held g number = (number == g.current) || nat_le number g.current && list_any (λ k. nat_le k.lowest number) g.passes

-- the least number that is held
abbrev pub least_lowest : ℕ → List PassTrack → ℕ
least_lowest current [] = current
least_lowest current (k ∷ ks) = min k.lowest (least_lowest current ks)

-- the generations from the least lowest number to the current one
abbrev pub held_generations : Generations → List Generation
held_generations g = take (g.current + 1 - least_lowest g.current g.passes) g.kept
