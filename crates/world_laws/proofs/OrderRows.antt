-- Rows of the writer's events of one sort: that they are possible, and what they leave.
use Rattle.std.proofs.Common.{◌≡◌, ℕ, zero, suc, ◌+◌, ◌<◌, ◌≤◌, true, false, List, [], ◌∷◌, length, map, get_or}
use Rattle.std.proofs.Common.{set, length-set, get_or-set_same, get_or-set_other, sym, refl, ap, ◌∙◌, subst, arith, Option, Some}
use Rattle.std.specs.Prelude.{filter, not, nat_lt}
use Rattle.std.specs.List.{list_any, range_with_len}
use Rattle.std.proofs.lemmas.Bool.{lt-ltb, and_from, not_from_false}
use mathlib.Core.Logic.{dite}
use native.Mathlib.Decide.{ℕ_discrete}
use Rattle.mem_base.specs.declared.map.ids.RegionId.{RegionId}
use Rattle.mem_base.specs.map.PassIds.{PassId}
use Rattle.mem_base.specs.declared.map.kinds.Client.{Client}
use Rattle.mem_base.specs.declared.access.cells.Place.{Place}
use Rattle.mem_base.specs.declared.access.cells.Cell.{Cell}
use Rattle.mem_base.specs.declared.access.cells.WordStep.{WordStep}
use Rattle.mem_base.specs.declared.machine.events.Event.{Event}
use Rattle.mem_base.specs.declared.machine.events.Event.TheVariants as events
use Rattle.mem_base.specs.declared.machine.events.Hand.TheVariants as hands
use Rattle.mem_base.specs.lists.Every.{Every}
use Rattle.mem_base.specs.lists.Runs.{Run}
use Rattle.mem_base.specs.access.PlacesByRegion.{place_in}
use Rattle.mem_base.specs.access.Places.{mark_words}
use Rattle.mem_base.specs.access.Cells.{cell, is_same_cell}
use Rattle.mem_base.specs.machine.Passes.{pass_id}
use Rattle.mem_base.specs.machine.Generations.{PassTrack, nothing_known, all_placed}
use Rattle.mem_base.specs.machine.Desk.{places_of}
use Rattle.mem_base.specs.machine.Reaps.{Writer}
use Rattle.mem_base.specs.machine.World.{World, reply, number_in, world_after, if_placed}
use Rattle.mem_base.specs.machine.History.{run_events}
use Rattle.view_laws.proofs.RangeLaws.{keeps_all}
use Rattle.history_laws.proofs.ReleasedLaws.{ids}
use Rattle.history_laws.proofs.Outcomes.{Distinct}
use Rattle.turn_laws.proofs.Rows as played
use Rattle.turn_laws.proofs.Rows.{with_swept, with_due, with_unfilled, sweeps_of, publishes_of, fills_of, flags_after, writer_played, same_cell}
use Rattle.world_laws.proofs.Running.{AllMay}
use Rattle.mem_base.proofs.PassTurnLaws.{all_from}

-- sweeps

pub sweeps_may : (a n : ℕ) (w : World) → a + n ≤ length w.passes → AllMay w (sweeps_of (ids a n))
sweeps_may a zero w l = tt
sweeps_may a (suc n) w l = (lt-ltb a (length w.passes) (omega arith), sweeps_may (a + 1) n (world_after w (events.Sweep (pass_id a))) (omega arith))

-- the numbers that events tell
abbrev told : List Event → World → List ℕ
told [] w = []
told (e ∷ es) w = number_in (reply w e) ∷ told es (world_after w e)

-- the writer's part goes as on the running machine, by these numbers
as_played : (es : List Event) (w : World) → (run_events w es).world.writer ≡ writer_played w.writer es (told es w)
as_played [] w = refl
as_played (e ∷ es) w = as_played es (world_after w e)

pub swept_desk : (vs : List PassId) (w : World) → (run_events w (sweeps_of vs)).world.writer.desk
    ≡ with_swept (flags_after vs w.writer.desk.swept) w.writer.desk
swept_desk vs w = ap (λ (h : Writer). h.desk) (as_played (sweeps_of vs) w) ∙ played.swept_desk vs w.writer (told (sweeps_of vs) w)

-- copies and a publish

pub publishes_may : (a n : ℕ) (w : World) → w.writer.desk.due ≡ true → length w.writer.generations.passes ≡ length w.passes
    → a + n ≡ length w.writer.generations.passes
    → ((v : ℕ) → a ≤ v → (get_or w.writer.generations.passes v nothing_known).placed ≡ false)
    → ((v : ℕ) → v < a → (get_or w.writer.generations.passes v nothing_known).placed ≡ true)
    → AllMay w (publishes_of (ids a n))
publishes_may a zero w due same all off on =
    (and_from w.writer.desk.due (all_placed w.writer.generations.passes) due (all_from w.writer.generations.passes (λ v l. on v (omega arith))), tt)
publishes_may a (suc n) w due same all off on =
    let ks = w.writer.generations.passes in
    let size : length (set ks a (record (get_or ks a nothing_known) { placed = true })) ≡ length ks = length-set ks a _ in (
      and_from w.writer.desk.due _ due (and_from (nat_lt a (length w.passes)) _ (lt-ltb a (length w.passes) (omega arith))
          (not_from_false (get_or ks a nothing_known).placed (off a (omega arith)))),
      publishes_may (a + 1) n (world_after w (events.Place (pass_id a))) due (size ∙ same) (omega arith)
          (λ v l. ap (λ (k : PassTrack). k.placed) (get_or-set_other ks a v _ nothing_known (λ e. omega arith)) ∙ off v (omega arith))
          (λ v l. dite (ℕ_discrete v a)
          (λ e. subst (λ (z : ℕ). (get_or (set ks a (record (get_or ks a nothing_known) { placed = true })) z nothing_known).placed ≡ true) (sym e)
          (ap (λ (k : PassTrack). k.placed) (get_or-set_same ks a _ nothing_known (omega arith))))
          (λ ne. ap (λ (k : PassTrack). k.placed) (get_or-set_other ks a v _ nothing_known ne) ∙ on v (omega arith))),
    )

pub published_desk : (vs : List PassId) (w : World) → (run_events w (publishes_of vs)).world.writer.desk ≡ with_due false w.writer.desk
published_desk [] w = refl
published_desk (v ∷ vs) w = published_desk vs (world_after w (events.Place v))

-- fills

left_to_fill : (w : World) (c : Cell) (cs : List Cell) → w.writer.desk.unfilled ≡ c ∷ cs → Distinct (c ∷ cs)
    → (world_after w (events.Fill c)).writer.desk.unfilled ≡ cs
left_to_fill w c cs e d = ap (λ (xs : List Cell). filter (λ x. not (is_same_cell c x)) xs) e ∙ rw (same_cell c) (keeps_all (is_same_cell c) cs d.0)

pub fills_may : (cs : List Cell) (w : World) → w.writer.desk.unfilled ≡ cs → Distinct cs → AllMay w (fills_of cs)
fills_may [] w e d = tt
fills_may (c ∷ cs) w e d = (
  subst (λ (xs : List Cell). list_any (is_same_cell c) xs ≡ true) (sym e) (rw (same_cell c) refl),
  fills_may cs (world_after w (events.Fill c)) (left_to_fill w c cs e d) d.1,
)

pub filled_desk : (cs : List Cell) (w : World) → w.writer.desk.unfilled ≡ cs → Distinct cs
    → (run_events w (fills_of cs)).world.writer.desk ≡ with_unfilled [] w.writer.desk
filled_desk [] w e d = λ i. with_unfilled (e i) w.writer.desk
filled_desk (c ∷ cs) w e d = filled_desk cs (world_after w (events.Fill c)) (left_to_fill w c cs e d) d.1

-- steps of the writer on the words of a place, which leave the writer's part as it is

module _ (region : RegionId) (p : Place) where
  pub loads_may : (f : Run → ℕ) (s : Run → WordStep) (ws : List Run) (w : World) → place_in (places_of w.writer.desk) region ≡ Some p
      → Every (λ r. f r < p.words) ws → AllMay w (map (λ r. events.Word hands.Writer (cell region (f r)) (s r)) ws)
  loads_may f s [] w here k = tt
  loads_may f s (r ∷ ws) w here k = (
    ap (λ (o : Option Place). if_placed o (λ q. nat_lt (f r) q.words)) here ∙ lt-ltb (f r) p.words k.0,
    loads_may f s ws (world_after w (events.Word hands.Writer (cell region (f r)) (s r))) here k.1,
  )

  pub harvests_may : (client : Client) (a n : ℕ) (w : World) → place_in (places_of w.writer.desk) region ≡ Some p → a + n ≤ mark_words p.bytes
      → AllMay w (map (λ index. events.Harvest region client index) (range_with_len a n))
  harvests_may client a zero w here l = tt
  harvests_may client a (suc n) w here l = (
    ap (λ (o : Option Place). if_placed o (λ q. nat_lt a (mark_words q.bytes))) here ∙ lt-ltb a (mark_words p.bytes) (omega (arith, l)),
    harvests_may client (a + 1) n (world_after w (events.Harvest region client a)) here (omega (arith, l)),
  )

pub loads_rest : (region : RegionId) (f : Run → ℕ) (s : Run → WordStep) (ws : List Run) (w : World)
    → (run_events w (map (λ r. events.Word hands.Writer (cell region (f r)) (s r)) ws)).world.writer.desk ≡ w.writer.desk
loads_rest region f s [] w = refl
loads_rest region f s (r ∷ ws) w = loads_rest region f s ws (world_after w (events.Word hands.Writer (cell region (f r)) (s r)))

pub harvests_rest : (region : RegionId) (client : Client) (is : List ℕ) (w : World)
    → (run_events w (map (λ index. events.Harvest region client index) is)).world.writer.desk ≡ w.writer.desk
harvests_rest region client [] w = refl
harvests_rest region client (i ∷ is) w = harvests_rest region client is (world_after w (events.Harvest region client i))
