-- Calls that fit their types made every forest of the machine.
use Rattle.std.proofs.Common.{◌≡◌, ℕ, ◌+◌, ◌-◌, Bool, true, false, List, [], ◌∷◌, refl, Option, Some, None}
use Rattle.std.specs.Prelude.{◌==◌, ◌&&◌, not, if◌then◌else◌, Result, Ok, Err}
use Rattle.mem_base.specs.declared.map.ids.RegionId.{RegionId}
use Rattle.mem_base.specs.declared.map.ids.ListenerId.{ListenerId}
use Rattle.mem_base.specs.declared.map.forests.Forest.{Forest}
use Rattle.mem_base.specs.declared.map.calls.Applied.{Applied}
use Rattle.mem_base.specs.declared.map.calls.Applied.TheVariants.{Made, Done}
use Rattle.mem_base.specs.declared.map.calls.Call.{Call}
use Rattle.mem_base.specs.declared.map.calls.Call.TheVariants as calls
use Rattle.mem_base.specs.declared.map.calls.Config.{Config}
use Rattle.mem_base.specs.declared.map.calls.Config.TheVariants as configs
use Rattle.mem_base.specs.declared.map.refusals.Refusal.{Refusal}
use Rattle.mem_base.specs.declared.map.refusals.Refusal.TheVariants.{NoTransaction, TooNested}
use Rattle.mem_base.specs.declared.views.listening.Listener.{Listener}
use Rattle.mem_base.specs.declared.machine.events.Event.{Event}
use Rattle.mem_base.specs.declared.machine.events.Event.TheVariants as events
use Rattle.mem_base.specs.lists.Every.{Every}
use Rattle.mem_base.specs.map.Limits.{most_nested}
use Rattle.mem_base.specs.map.Forest.{FitsTypes, IsMade}
use Rattle.mem_base.specs.map.Calls.{after, answer_of, is_quiet}
use Rattle.mem_base.specs.map.Refusals.{first_refusal, unknown_space}
use Rattle.mem_base.specs.access.Places.{Extent, extent_of, words_of, first_fit}
use Rattle.mem_base.specs.views.Listening.{joined, join_refusal, left, leave_refusal}
use Rattle.mem_base.specs.machine.Generations.{Generation, Generations}
use Rattle.mem_base.specs.machine.Desk.{Desk}
use Rattle.mem_base.specs.machine.Publishing.{Settled, settled, refused_desk, unless_refused, held_up, readied, publishing, current_forest}
use Rattle.mem_base.specs.views.LiveEvents.{lives_of}
use Rattle.mem_base.specs.views.Flattened.{view_of}
use Rattle.mem_base.specs.machine.Configs.{configured, made, backed, kept_back, after_call, begun, committed, listened, without_listener}
use Rattle.mem_base.specs.machine.World.{World, opening, world_after, after_telling}
use Rattle.mem_base.specs.machine.History.{PureEntry, after_entry, after_entries, run_events}
use Rattle.mem_base.proofs.EveryLaws.{every_taken}
use Rattle.run_laws.specs.MadeForests.{FitsConfig, FitsEvent, HasMadeForests}
use Rattle.map_laws.proofs.MadeForests.{made_after, made_empty}

-- what a private event leaves

module _ (g : Generations) (d : Desk) (k : IsMade d.forest) where
  abbrev Left : Settled → Type 0
  Left s = IsMade s.desk.forest

  unless_left : (o : Option Refusal) (m : Desk) (a : Applied) → IsMade m.forest → Left (unless_refused o d (settled m a))
  unless_left None m a h = h
  unless_left (Some why) m a h = k

  backed_left : (f : Forest) (region : RegionId) (x : Extent) (o : Option ℕ) → IsMade f → Left (backed d f region x o)
  backed_left f region x None h = k
  backed_left f region x (Some start) h = h

  made_left : (f : Forest) (region : RegionId) (x : Extent) → IsMade f → Left (made d f region x)
  made_left f region x h = go (words_of x == 0)
    where
      go : (b : Bool) → Left (if b then settled (record d { forest = f }) (Made region)
          else backed d f region x (first_fit d.pool_words d.places (words_of x)))
      go true = h
      go false = backed_left f region x (first_fit d.pool_words d.places (words_of x)) h

  kept_left : (call : Call) (f : Forest) → IsMade f → Left (kept_back d call f)
  kept_left (calls.Region kind size) f h = made_left f (record { 0 = d.forest.made }) (extent_of kind size) h
  kept_left (calls.Drop region) f h = h
  kept_left call f h = h

  call_left : (call : Call) → FitsTypes call → (x : Result Forest Refusal) → after d.forest call ≡ x → Left (after_call g d call x)
  call_left call fits (Err why) e = k
  call_left call fits (Ok f) e = go ((d.depth == 0) && not (is_quiet call))
    where
      h : IsMade f
      h = made_after d.forest f call k fits e

      go : (b : Bool) → Left (if b then publishing g d f (answer_of d.forest call) else kept_back d call f)
      go true = unless_left (held_up g) (readied g d f) (answer_of d.forest call) h
      go false = kept_left call f h

  begun_left : Left (begun d)
  begun_left = go (d.depth == most_nested)
    where
      go : (b : Bool) → Left (if b then refused_desk d TooNested else settled (record d { depth = d.depth + 1 }) Done)
      go true = k
      go false = k

  committed_left : Left (committed g d)
  committed_left = go (d.depth == 0)
    where
      inner : (b : Bool) → Left (if b then publishing g d d.forest Done else settled (record d { depth = d.depth - 1 }) Done)
      inner true = unless_left (held_up g) (readied g d d.forest) Done k
      inner false = k

      go : (b : Bool) → Left (if b then refused_desk d NoTransaction else if (d.depth == 1)
          && d.pending then publishing g d d.forest Done else settled (record d { depth = d.depth - 1 }) Done)
      go true = k
      go false = inner ((d.depth == 1) && d.pending)

  listened_left : (l : Listener) → Left (listened g d l)
  listened_left l = unless_left (first_refusal (unknown_space d.forest l.space ∷ join_refusal d.listening l.listener ∷ []))
      (record d { listening = joined d.listening l (view_of (current_forest g) l.space) (lives_of (current_forest g) l.space) }) Done k

  without_left : (ls : List Listener) (id : ListenerId) → IsMade (without_listener ls id g d).forest
  without_left [] id = k
  without_left (l ∷ ls) id = go (l.listener.0 == id.0) (without_left ls id)
    where
      go : (b : Bool) → IsMade (without_listener ls id g d).forest → IsMade (if b then (record d {
        listening = left d.listening id (view_of (current_forest g) l.space) (lives_of (current_forest g) l.space);
      }) else without_listener ls id g d).forest
      go true rest = k
      go false rest = rest

  pub configured_left : (c : Config) → FitsConfig c → Left (configured g d c)
  configured_left configs.Begin fits = begun_left
  configured_left (configs.Call call) fits = call_left call fits (after d.forest call) refl
  configured_left configs.Commit fits = committed_left
  configured_left (configs.Listen listener space priority) fits = listened_left (record { listener = listener; space = space; priority = priority })
  configured_left (configs.Unlisten id) fits = unless_left (leave_refusal d.listening id) (without_listener d.listening.listeners id g d) Done
      (without_left d.listening.listeners id)

-- an event, whatever number it tells
made_telling : (w : World) (e : Event) (n : ℕ) → FitsEvent e → HasMadeForests w.writer → HasMadeForests (after_telling w e n).writer
made_telling w events.Publish n fits k = record {
  desk = k.desk;
  kept = (k.desk, every_taken (λ (x : Generation). IsMade x.forest) 7 w.writer.generations.kept k.kept);
}
made_telling w (events.Config c) n fits k = record { desk = configured_left w.writer.generations w.writer.desk k.desk c fits; kept = k.kept }
made_telling w _ n fits k = record { desk = k.desk; kept = k.kept }

pub made_run : (es : List Event) (w : World) → Every FitsEvent es → HasMadeForests w.writer → HasMadeForests (run_events w es).world.writer
made_run [] w fits k = k
made_run (e ∷ es) w fits k = made_run es (world_after w e) fits.1 (made_telling w e _ fits.0 k)

made_from : (xs : List PureEntry) (w : World) → Every (λ x. FitsEvent x.event) xs → HasMadeForests w.writer → HasMadeForests (after_entries w xs).writer
made_from [] w fits k = k
made_from (x ∷ xs) w fits k = made_from xs (after_entry w x) fits.1 (made_telling w x.event _ fits.0 k)

pub made_first : (pool_words passes : ℕ) → HasMadeForests (opening pool_words passes).writer
made_first pool_words passes = record { desk = made_empty; kept = (made_empty, tt) }

pub forests_are_made : (pool_words passes : ℕ) (xs : List PureEntry) → Every (λ x. FitsEvent x.event) xs
    → HasMadeForests (after_entries (opening pool_words passes) xs).writer
forests_are_made pool_words passes xs fits = made_from xs (opening pool_words passes) fits (made_first pool_words passes)
