-- The writer's part, and which dropped regions a reap releases.
-- This project's own rule, in place of the reference counts of QEMU's core: a dropped region keeps its place while a
-- generation that is held names it.
use Rattle.std.specs.Prelude.{ℕ, Bool, ◌==◌, not, List, filter}
use Rattle.std.specs.List.{list_any}
use Rattle.mem_base.specs.declared.map.ids.RegionId.{RegionId}
use Rattle.mem_base.specs.views.Naming.{names}
use Rattle.mem_base.specs.machine.Generations.{Generations, first_generations, held_generations}
use Rattle.mem_base.specs.machine.Desk.{Desk, first_desk}

-- the desk with the generations: all that the writer's own events change
pub record Writer : Type 0 where
  pub desk : Desk
  pub generations : Generations

-- the writer's part, by its desk and its generations
abbrev pub writer : Desk → Generations → Writer
writer desk generations = record { desk = desk; generations = generations }

-- the writer's part before anything was done, by the words of the pool and the number of passes
abbrev pub first_writer : ℕ → ℕ → Writer
first_writer pool_words passes = writer (first_desk pool_words passes) (first_generations passes)

-- a generation that is held names the region
abbrev pub is_named : Generations → RegionId → Bool
is_named g region = list_any (λ x. names x.forest region) (held_generations g)

-- the regions that a reap releases, ascending: those dropped ones that no held generation names
abbrev pub released : Writer → List RegionId
released w = filter (λ r. not (is_named w.generations r)) w.desk.dropped

-- the region is one of these
abbrev pub is_among : List RegionId → RegionId → Bool
is_among rs region = list_any (λ r. r.0 == region.0) rs

-- the desk after a reap: the released regions are no longer dropped ones, and their places are holes again
abbrev pub reaped : Writer → Desk
reaped w = record w.desk {
  dropped = filter (is_named w.generations) w.desk.dropped;
  places = filter (λ p. not (is_among (released w) p.region)) w.desk.places;
}
