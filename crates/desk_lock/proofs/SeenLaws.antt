-- What the writer's seat has seen published.
use Rattle.std.proofs.Common.{◌≡◌, ℕ, ◌+◌, ◌-◌, ◌<◌, ◌≤◌, List, [], ◌∷◌, length, Some, sym, ap, subst, ◌∙◌, arith, flat_map}
use Rattle.std.specs.Prelude.{slice_get}
use Rattle.std.proofs.lemmas.Option.{slice_get-get_or, same_Some}
use Rattle.mem_base.specs.map.Limits.{notifier_count}
use Rattle.mem_base.specs.machine.Actors.{first_generation, generation_published, generations_published}
use Rattle.mem_base.specs.machine.Generations.{Generation, Generations}
use Rattle.mem_base.specs.machine.Publishing.{current_forest, forest_in}
use Rattle.mem_base.specs.machine.Reaps.{Writer, first_writer}
use Rattle.mem_base.specs.machine.SharedHistory.{IsSharedLegal, after_shared_entries, shared_opening}
use Rattle.mem_base.specs.machine.Turns.{entries_of_turn, turns, writers_of}
use Rattle.view_laws.proofs.Tests.{none_is_not_some}
use Rattle.history_laws.specs.Numbers.{HasSoundNumbers}
use Rattle.history_laws.proofs.NumberLaws.{sound}
use Rattle.history_laws.proofs.OwnLaws.{own_writers}
use Rattle.end_laws.proofs.EndLaws.{turns_end_in}
use Rattle.epoch_rule.specs.Rule.{IsLegal}
use Rattle.race_laws.proofs.OutsideLaws.{publish_stands}
use Rattle.config_desk.specs.Configs.{ConfigState, IsOfTurns}
use Rattle.desk_orders.specs.Receipts.{HasSeenPublished}

-- the first of these generations
first_of : (gs : List Generation) (x : Generation) → slice_get gs 0 ≡ Some x → forest_in gs ≡ x.forest
first_of [] x e = none_is_not_some x e
first_of (g ∷ gs) x e = ap (λ (y : Generation). y.forest) (same_Some g x e)

module _ (c : ConfigState) (legal : IsLegal c.seat.sizes c.seat.seen) (t : IsOfTurns c.seat c.part) where
  shared : IsSharedLegal (t.pool_words + notifier_count) t.passes c.seat.seen
  shared = subst (λ (z : ℕ × ℕ). IsSharedLegal z.0 z.1 c.seat.seen) (λ i. (t.wide i, t.counts i)) legal

  are : writers_of c.seat.seen ≡ flat_map entries_of_turn (turns (first_writer t.pool_words t.passes) t.orders)
  are = sym (own_writers c.seat.seen) ∙ t.entries

  same : (after_shared_entries (shared_opening (t.pool_words + notifier_count) t.passes) c.seat.seen).generations ≡ c.part.generations
  same = (turns_end_in t.pool_words t.passes t.orders c.seat.seen shared are).generations ∙ ap (λ (w : Writer). w.generations) (sym t.last)

  numbers : HasSoundNumbers (t.pool_words + notifier_count) t.passes (generations_published c.seat.seen)
      (after_shared_entries (shared_opening (t.pool_words + notifier_count) t.passes) c.seat.seen)
  numbers = sound (t.pool_words + notifier_count) t.passes c.seat.seen shared

  counted : length (generations_published c.seat.seen) ≡ c.part.generations.current + 1
  counted = numbers.counted ∙ ap (λ (g : Generations). g.current + 1) same

  -- the current number was published
  pub current_seen : c.part.generations.current < length (generations_published c.seat.seen)
  current_seen = omega (arith, counted)

  -- and what its Publish carried is the current forest
  pub current_shown : (generation_published c.seat.seen c.part.generations.current).forest ≡ current_forest c.part.generations
  current_shown =
      let n : ℕ = c.part.generations.current in
      let g : Generations = (after_shared_entries (shared_opening (t.pool_words + notifier_count) t.passes) c.seat.seen).generations in
      let now : g.current ≡ n = ap (λ (x : Generations). x.current) same in
      let low : g.current ≤ g.current = omega arith in
      let near : g.current ≤ g.current + 7 = omega arith in
      let none : g.current - g.current ≡ 0 = omega arith in
      let kept : slice_get g.kept 0 ≡ slice_get (generations_published c.seat.seen) g.current =
      ap (λ (k : ℕ). slice_get g.kept k) (sym none) ∙ numbers.kept g.current low near in
      let there : slice_get (generations_published c.seat.seen) n ≡ Some (generation_published c.seat.seen n) =
      slice_get-get_or (generations_published c.seat.seen) n first_generation current_seen in
      let found : slice_get g.kept 0 ≡ Some (generation_published c.seat.seen n) = kept ∙ ap (slice_get (generations_published c.seat.seen)) now ∙ there in
      sym (first_of g.kept (generation_published c.seat.seen n) found) ∙ ap (λ (x : Generations). current_forest x) same

  -- a number up to the current one was published by an entry of that number, but for 0
  pub published_seen : (number : ℕ) → number ≤ c.part.generations.current → HasSeenPublished c.seat.seen number
  published_seen number low =
      let inside : number < length (generations_published c.seat.seen) = omega (arith, counted, low) in record {
        inside = inside;
        stands = λ above. publish_stands (t.pool_words + notifier_count) t.passes c.seat.seen number shared above inside;
      }
