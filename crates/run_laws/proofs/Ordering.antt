-- Each call of the writer goes on with the history, and keeps what passes may do.
use Rattle.std.proofs.Common.{◌≡◌, ℕ, ◌<◌, Bool, true, false, List, [], ◌∷◌, ◌++◌, map, refl, ap, subst, ◌∙◌, if◌then◌else◌, Option, Some, None}
use Rattle.std.specs.Prelude.{◌||◌, ◌&&◌, is_some, is_none, length}
use Rattle.std.specs.List.{range_with_len}
use Rattle.mem_base.specs.map.PassIds.{PassId}
use Rattle.mem_base.specs.declared.map.refusals.Refusal.{Refusal}
use Rattle.mem_base.specs.declared.machine.events.Event.{Event}
use Rattle.mem_base.specs.declared.machine.events.Event.TheVariants as events
use Rattle.mem_base.specs.lists.Every.{Every}
use Rattle.mem_base.specs.lists.Runs.{touched}
use Rattle.mem_base.specs.map.Limits.{most_passes, notifier_count, word_size}
use Rattle.mem_base.specs.access.PlacesByRegion.{place_in}
use Rattle.mem_base.specs.machine.Passes.{PassState, is_pass, pass_of, passes_after}
use Rattle.mem_base.specs.machine.Desk.{places_of}
use Rattle.mem_base.specs.machine.Publishing.{would_publish}
use Rattle.mem_base.specs.machine.Generations.{Generations}
use Rattle.mem_base.specs.machine.Reaps.{Writer}
use Rattle.mem_base.specs.machine.World.{World, world_after, is_at_rest, number_in, reply}
use Rattle.mem_base.specs.machine.History.{PureEntry, run_events}
use Rattle.mem_base.specs.machine.Orders.{Order, configure, reap, load, harvest, notified, journal, current, pass_ids, sweeps, publishes, events_before}
use Rattle.mem_base.specs.machine.Orders.{private_of, events_after, unless, loads, harvests, mark_words_at, load_refusal, harvest_refusal}
use Rattle.mem_base.specs.machine.Composites.{completed}
use Rattle.mem_base.specs.machine.Completions.{may_access}
use Rattle.mem_base.proofs.EveryLaws.{every_map, weaker, every_append, every_one}
use Rattle.world_laws.specs.Legal.{IsFitting, IsLegalCall}
use Rattle.world_laws.proofs.OrderLaws.{orders_are_legal}
use Rattle.run_laws.specs.MadeForests.{FitsConfig, FitsEvent, HasMadeForests}
use Rattle.run_laws.proofs.MadeLaws.{made_run}
use Rattle.world_laws.proofs.PassKeeping.{after_events}
use Rattle.run_laws.specs.Asks.{Asked, added, one_call}
use Rattle.run_laws.proofs.Passing.{Led, led_on}

-- a legal history leads to a machine in which nothing is due or unfilled, and each pass may make an access
pub record Settled (pool : ℕ) (xs : List PureEntry) (w : World) : Type 0 where
  pub led : Led pool xs w
  pub rests : is_at_rest w.writer.desk ≡ true
  pub may : (pass : PassId) → pass.0 < most_passes → may_access w pass ≡ true

-- so does one that goes on from a world
pub record SettledOn (pool : ℕ) (xs : List PureEntry) (w : World) (asked : Asked) (v : World) : Type 0 where
  pub settled : Settled pool (xs ++ added asked w) v

-- an event of the writer, whose call fits its types
pub record IsOurs (e : Event) : Type 0 where
  pub fits : FitsEvent e
  pub passes : (ps : List PassState) (n : ℕ) → passes_after ps e n ≡ ps

abbrev pub AreOurs : List Event → Type 0
AreOurs es = Every IsOurs es

run_passes : (es : List Event) (w : World) → AreOurs es → (run_events w es).world.passes ≡ w.passes
run_passes [] w k = refl
run_passes (e ∷ es) w k = run_passes es (world_after w e) k.1 ∙ k.0.passes w.passes (number_in (reply w e))

pub all_fit : (es : List Event) → AreOurs es → Every FitsEvent es
all_fit es k = weaker IsOurs FitsEvent (λ e x. x.fits) es k

all_of : {A : Type 0} (f : A → Event) (xs : List A) → ((x : A) → IsOurs (f x)) → AreOurs (map f xs)
all_of f xs h = every_map IsOurs f xs (every_one (λ x. IsOurs (f x)) xs h)

-- what an order asks of the numbers in it
abbrev pub FitsOrder : Order → Type 0
FitsOrder (configure k) = FitsConfig k
FitsOrder (notified number) = number < notifier_count
FitsOrder k = Unit {0}

pub sweeps_ours : (g : Generations) → AreOurs (sweeps g)
sweeps_ours g = all_of (λ pass. events.Sweep pass) (pass_ids g) (λ pass. record { fits = tt; passes = λ ps n. refl })

publishes_ours : (g : Generations) → AreOurs (publishes g)
publishes_ours g = every_append IsOurs (map (λ pass. events.Place pass) (pass_ids g)) (events.Publish ∷ [])
    (all_of (λ pass. events.Place pass) (pass_ids g) (λ pass. record { fits = tt; passes = λ ps n. refl }))
    (record { fits = tt; passes = λ ps n. refl }, tt)

pub before_ours : (w : Writer) (k : Order) → AreOurs (events_before w k)
before_ours w (configure c) = go (would_publish w.desk c)
  where
    go : (b : Bool) → AreOurs (if b then sweeps w.generations else [])
    go true = sweeps_ours w.generations
    go false = tt
before_ours w reap = sweeps_ours w.generations
before_ours w (load region offset bytes) = tt
before_ours w (harvest region client) = tt
before_ours w (notified number) = tt
before_ours w journal = tt
before_ours w current = tt

private_ours : (k : Order) → FitsOrder k → AreOurs (private_of k)
private_ours (configure c) fits = (record { fits = fits; passes = λ ps n. refl }, tt)
private_ours reap fits = (record { fits = tt; passes = λ ps n. refl }, tt)
private_ours (load region offset bytes) fits = tt
private_ours (harvest region client) fits = tt
private_ours (notified number) fits = tt
private_ours journal fits = tt
private_ours current fits = tt

unless_ours : (o : Option Refusal) (es : List Event) → AreOurs es → AreOurs (unless o es)
unless_ours None es k = k
unless_ours (Some why) es k = tt

pub after_ours : (w : Writer) (k : Order) → AreOurs (events_after w k)
after_ours w (configure c) = go w.desk.due
  where
    go : (b : Bool) → AreOurs (if b then publishes w.generations else map (λ c. events.Fill c) w.desk.unfilled)
    go true = publishes_ours w.generations
    go false = all_of (λ c. events.Fill c) w.desk.unfilled (λ c. record { fits = tt; passes = λ ps n. refl })
after_ours w reap = tt
after_ours w (load region offset bytes) =
    unless_ours (load_refusal w.desk.forest region offset (length bytes)) (loads region offset bytes)
    (all_of _ (touched word_size offset (length bytes)) (λ r. record { fits = tt; passes = λ ps n. refl }))
after_ours w (harvest region client) =
    unless_ours (harvest_refusal w.desk.forest region) (harvests w.desk region client)
    (all_of _ (range_with_len 0 (mark_words_at (place_in (places_of w.desk) region))) (λ i. record { fits = tt; passes = λ ps n. refl }))
after_ours w (notified number) = (record { fits = tt; passes = λ ps n. refl }, tt)
after_ours w journal = tt
after_ours w current = tt

-- where the passes are as they were, each may make an access as before
pub same_may : (w v : World) → v.passes ≡ w.passes → (pass : PassId) → may_access w pass ≡ true → may_access v pass ≡ true
same_may w v e pass t =
    ap (λ (ps : List PassState). is_some (pass_of ps pass).entered || (is_pass ps pass && is_none (pass_of ps pass).announced)) e ∙ t

module _ (pool : ℕ) (xs : List PureEntry) (w : World) (k : Settled pool xs w) (order : Order) (fits : FitsOrder order) where
  fitting : (order : Order) → FitsOrder order → IsFitting w order
  fitting (configure c) f = tt
  fitting reap f = tt
  fitting (load region offset bytes) f = k.led.made.desk
  fitting (harvest region client) f = tt
  fitting (notified number) f = f
  fitting journal f = tt
  fitting current f = tt

  legal_call : IsLegalCall w order
  legal_call = subst (λ (v : World). is_at_rest v.writer.desk ≡ true → IsFitting v order → IsLegalCall v order) k.led.leads
      (λ rests f. orders_are_legal pool most_passes xs k.led.legal rests order f) k.rests (fitting order fits)

  abbrev one : World
  one = after_events w (events_before w.writer order)

  abbrev two : World
  two = after_events one (private_of order)

  abbrev last : World
  last = after_events two (events_after two.writer order)

  made : HasMadeForests last.writer
  made =
      made_run (events_after two.writer order) two (all_fit _ (after_ours two.writer order))
      (made_run (private_of order) one (all_fit _ (private_ours order fits))
      (made_run (events_before w.writer order) w (all_fit _ (before_ours w.writer order)) k.led.made))

  same_passes : last.passes ≡ w.passes
  same_passes =
      run_passes (events_after two.writer order) two (after_ours two.writer order)
      ∙ run_passes (private_of order) one (private_ours order fits)
      ∙ run_passes (events_before w.writer order) w (before_ours w.writer order)

  pub order_settles : SettledOn pool xs w (one_call order) (completed w order).world
  order_settles = record {
    settled = record {
      led = led_on pool xs w (completed w order).world (completed w order).entries k.led legal_call.legal legal_call.ends made;
      rests = legal_call.rests;
      may = λ pass l. same_may w last same_passes pass (k.may pass l);
    };
  }
