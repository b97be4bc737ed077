-- The words that the proofs of this crate share.
pub use Rattle.std.proofs.Common.{◌≡◌, ℕ, List, [], ◌∷◌, ◌++◌, length, refl, sym, ap, ◌∙◌, append_assoc, append-nil, arith, ◌+◌, ◌*◌, false, subst}
pub use Rattle.std.proofs.Common.{length-append, ◌⊎◌, ◌<◌, ◌≤◌, eqb, Bool, true, ⊎_elim, inl, inr, Option, Some, None, ◌&&◌, ◌-◌, get_or, set, zero, suc, max}
pub use Rattle.std.proofs.Common.{ne_eqb, map, length-set, if◌then◌else◌, get_or-set_other, get_or-set_same, ◌≢◌, drop, ◌%◌, replicate, Global, take}
pub use Rattle.std.proofs.lemmas.Bool.{lt-ltb, ltb-true, le-leb, eqb-true, eq-eqb, both_ways, leb-false, ltb-false, and_from, and_parts, or_left, or_right}
pub use Rattle.std.proofs.lemmas.List.{map-set, append_cancel_left, get_or_push, drop_all, length-take-le}
pub use Rattle.std.specs.Arc.{arc_value}
pub use Rattle.std.specs.Option.{option_to_list, unwrap_or}
pub use Rattle.std.specs.Prelude.{MatchBool, nat_lt, IsSomeAnd, slice_get, min, option_map, nat_le, slice_index_or, is_some, is_none, not, slice_set}
pub use Rattle.std.specs.declared.sync.Arc.{Arc}
pub use mathlib.Core.List.{IsPrefix}
pub use mathlib.Core.Logic.{dite}
pub use mathlib.Core.Option.{some, some-ne-none, some-injective, none}
pub use native.Mathlib.Decide.{ℕ_discrete, dec_le}
pub use base.Growing.{prefix_refl, prefix_trans, prefix_anti}
pub use lib.ListN.{get_elem?, length-map, get_or-append, get_or-replicate, length-replicate}
pub use lib.Seq.{set-get_or}
pub use Rattle.atomic_table.proofs.Lists.{set_again, at_snoc, set_else, at_set, one_turn, set_here, at_map, at_last, at_longer, some_there}
pub use Rattle.atomic_table.specs.Seated.{TableId}
pub use Rattle.atomic_table.specs.Table.{State, Me, keeps, Allows, Act, Valid, stepped, carried_after, Splits, Joins, opening, step, takes, gives, rest}
pub use Rattle.mem_base.proofs.EveryLaws.{every_first, every_rest, every_at, every_push, weaker}
pub use Rattle.mem_base.specs.access.Cells.{cell, words_after}
pub use Rattle.mem_base.specs.access.EditionPlaces.{IsEdition, IsRegionPlace, IsNotifiersPlace}
pub use Rattle.mem_base.specs.access.Places.{past, extent, extent_of, words_of, place_from, pages_in, is_data_or_register, word_of_page, notifiers_place}
pub use Rattle.mem_base.specs.access.Places.{is_notifiers}
pub use Rattle.mem_base.specs.access.Words.{bytes_of, word_after}
pub use Rattle.mem_base.specs.declared.access.cells.Place.{Place}
pub use Rattle.mem_base.specs.declared.access.cells.WordStep.TheVariants.{Load}
pub use Rattle.mem_base.specs.declared.machine.events.Carried.{Carried}
pub use Rattle.mem_base.specs.declared.machine.events.Carried.TheVariants.{At, Nothing}
pub use Rattle.mem_base.specs.declared.machine.events.Event.{Event}
pub use Rattle.mem_base.specs.declared.machine.events.Event.TheVariants.{Word, Look, Announce, Enter, Leave}
pub use Rattle.mem_base.specs.declared.machine.events.Hand.{Hand}
pub use Rattle.mem_base.specs.declared.machine.events.Hand.TheVariants.{Writer, Pass}
pub use Rattle.mem_base.specs.declared.machine.events.HistoryEntry.{HistoryEntry}
pub use Rattle.mem_base.specs.declared.map.forests.Forest.{Forest}
pub use Rattle.mem_base.specs.lists.Every.{Every}
pub use Rattle.mem_base.specs.machine.Actors.{actor_of_hand, own_entries, actor_of, generations_published, generation_published, first_generation}
pub use Rattle.mem_base.specs.machine.Actors.{generations_after_all, number_seen, pass_after_all, published_with}
pub use Rattle.mem_base.specs.machine.Generations.{Generation, generation, entered_generation, generation_at, Generations, PassTrack, nothing_known, known_of}
pub use Rattle.mem_base.specs.machine.Generations.{known_after_sweep, pin_word, number_pinned, first_generations, with_known, with_placed, all_placed}
pub use Rattle.mem_base.specs.machine.Generations.{least_lowest, generations_after}
pub use Rattle.mem_base.specs.machine.Histories.{last_of}
pub use Rattle.mem_base.specs.machine.Passes.{pass_id, PassState, pass_after, pass_of, idle}
pub use Rattle.mem_base.specs.machine.Publishing.{holds_up, held_up, held_at, held_from}
pub use Rattle.mem_base.specs.machine.SharedHistory.{Shared, shared_possible, is_same_place, shared, shared_reply, after_shared_entry, PoolTouch, pool_after}
pub use Rattle.mem_base.specs.machine.SharedHistory.{old_in, shared_opening, IsSharedLegal}
pub use Rattle.mem_base.specs.machine.Turns.{history_entry}
pub use Rattle.view_laws.proofs.Tests.{none_is_not_some, none_is_no_number, same_number}
pub use Rattle.std.proofs.lemmas.Option.{same_Some}
pub use Rattle.history_laws.proofs.AppendLaws.{generation_stays, generations_by_append, own_append, legal_start, published_append, generations_own}
pub use Rattle.history_laws.proofs.AppendLaws.{after_append, legal_snoc, own_other, pass_by_append, last_reply, published_more, pass_owns, published_longer}
pub use Rattle.history_laws.proofs.NumberLaws.{sound, none_placed, all_of}
pub use Rattle.epoch_rule.specs.Calls.{sweeps_of, places_of, HasWritten, HasSwept, AreCopies, held_in, HasPlaced, least_in, refusal_of, first_at}
pub use Rattle.epoch_rule.specs.Calls.{IsLeastPassAt, generations_in_seen}
pub use Rattle.epoch_rule.specs.Copies.{shown_by, IsEnteredIn, picked, IsCopy, placed_as, Suits, HasItsEdition, value_in}
pub use Rattle.epoch_rule.specs.Loads.{HasLoaded, loads_of, bytes_in, IsAtPlace, StaysPass}
pub use Rattle.epoch_rule.specs.Opening.{AreFirstSlots, AddsSlots}
pub use Rattle.epoch_rule.specs.Plays.{IsSettled, met_view, taken_in, note_view, spent_view, with_least_out, next_pass, settles, first_view, looks, announces}
pub use Rattle.epoch_rule.specs.Plays.{enters, leaves, sweeps, reaches, places, publishes}
pub use Rattle.epoch_rule.specs.Rule.{ComesNext, state_of, IsLegal, pass_seen, generations_seen, KeepsHome, WordsShow, IsRuled, KeepsSlot, carried_pick}
pub use Rattle.epoch_rule.specs.Rule.{SeatKnows, generation_of_pick, PlacesFit, PassSlots, SlotsOfPass, AllSlots, HasAt}
pub use Rattle.epoch_rule.specs.Shown.{WriterMay, IsReach, PassMay, ShowsStep, ShowsTouch}
pub use Rattle.epoch_rule.specs.Touches.{TouchesWord, IsReady, IsTouch, touch_at, ToldStep, Told, event_of, told_by, touched, IsStepReady}
pub use Rattle.epoch_rule.specs.Values.{first_free}
pub use Rattle.epoch_rule.specs.Writing.{stored, IsWriting}
pub use Rattle.epoch_rule.specs.Wrote.{Adds, EndsWith, Wrote, WordWas, HadWord, longer, entries_of_enter}
pub use Rattle.epoch_rule.specs.declared.views.Picked.{Picked}
pub use Rattle.epoch_rule.specs.declared.views.Sizes.{Sizes}
pub use Rattle.epoch_rule.specs.declared.views.View.{View}
pub use Rattle.epoch_rule.specs.declared.writers.Found.{Found}
