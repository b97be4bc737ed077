-- The writer's private events: calls, transactions and listeners, with their refusals, and what they leave.
-- QEMU's core, `memory_region_transaction_begin` and `_commit` and the functions that change regions between them.
-- That there are at most 64 open transactions, and that a region may find no backing, are this project's own rules.
use Rattle.std.specs.Prelude.{ℕ, ◌+◌, ◌-◌, true, false, ◌==◌, ◌&&◌, not, if◌then◌else◌, List, [], ◌∷◌, ◌++◌, slice_set, filter, Option}
use Rattle.std.specs.Prelude.{Some, None, Result, Ok, Err}
use Rattle.mem_base.specs.declared.map.ids.RegionId.{RegionId}
use Rattle.mem_base.specs.declared.map.ids.ListenerId.{ListenerId}
use Rattle.mem_base.specs.declared.map.forests.Forest.{Forest}
use Rattle.mem_base.specs.declared.map.calls.Call.{Call}
use Rattle.mem_base.specs.declared.map.calls.Call.TheVariants as calls
use Rattle.mem_base.specs.declared.map.calls.Applied.{Applied}
use Rattle.mem_base.specs.declared.map.calls.Applied.TheVariants.{Made, Done}
use Rattle.mem_base.specs.declared.map.calls.Config.{Config}
use Rattle.mem_base.specs.declared.map.calls.Config.TheVariants as configs
use Rattle.mem_base.specs.declared.views.listening.Listener.{Listener}
use Rattle.mem_base.specs.declared.machine.events.Event.{Event}
use Rattle.mem_base.specs.declared.machine.events.Event.TheVariants as events
use Rattle.mem_base.specs.declared.machine.events.Carried.{Carried}
use Rattle.mem_base.specs.declared.machine.events.Reply.{Reply}
use Rattle.mem_base.specs.declared.machine.events.Reply.TheVariants as replies
use Rattle.mem_base.specs.declared.map.refusals.Refusal.{Refusal}
use Rattle.mem_base.specs.declared.map.refusals.Refusal.TheVariants.{NoTransaction, TooNested, NoBacking}
use Rattle.mem_base.specs.map.Limits.{most_nested}
use Rattle.mem_base.specs.map.Refusals.{first_refusal, unknown_space}
use Rattle.mem_base.specs.map.Calls.{after, answer_of, is_quiet}
use Rattle.mem_base.specs.access.Places.{Extent, extent_of, words_of, place_from, first_fit}
use Rattle.mem_base.specs.access.Cells.{is_same_cell}
use Rattle.mem_base.specs.views.LiveEvents.{lives_of}
use Rattle.mem_base.specs.views.Flattened.{view_of}
use Rattle.mem_base.specs.views.Listening.{joined, join_refusal, left, leave_refusal}
use Rattle.mem_base.specs.machine.Generations.{Generations, generations_after}
use Rattle.mem_base.specs.lists.Sorting.{put_by}
use Rattle.mem_base.specs.machine.Desk.{Desk, cells_of, region_order, unswept}
use Rattle.mem_base.specs.machine.Reaps.{Writer, writer, reaped}
use Rattle.mem_base.specs.machine.Publishing.{Settled, settled, refused_desk, unless_refused, current_forest, publishing}

-- a region that is made gets its place, and none of its cells is filled yet
abbrev pub backed : Desk → Forest → RegionId → Extent → Option ℕ → Settled
backed d f region x None = refused_desk d (NoBacking (words_of x))
backed d f region x (Some start) = let p = place_from region start x in
    settled (record d { forest = f; places = d.places ++ p ∷ []; unfilled = d.unfilled ++ cells_of p }) (Made region)

-- a region that is made; one without words needs no place
abbrev pub made : Desk → Forest → RegionId → Extent → Settled
made d f region x =
    if words_of x == 0 then settled (record d { forest = f }) (Made region)
    else backed d f region x (first_fit d.pool_words d.places (words_of x))

-- an accepted call that publishes nothing: a region is made or dropped, or a change is pending in a transaction
abbrev pub kept_back : Desk → Call → Forest → Settled
kept_back d (calls.Region kind size) f = made d f (record { 0 = d.forest.made }) (extent_of kind size)
kept_back d (calls.Drop region) f = settled (record d { forest = f; dropped = put_by region_order region d.dropped }) Done
kept_back d call f = settled (record d { forest = f; pending = true }) (answer_of d.forest call)

-- the desk after a call, by the forest that the call makes: a change outside all transactions publishes
abbrev pub after_call : Generations → Desk → Call → Result Forest Refusal → Settled
after_call g d call (Err why) = refused_desk d why
after_call g d call (Ok f) =
    if (d.depth == 0) && not (is_quiet call) then publishing g d f (answer_of d.forest call) else kept_back d call f

-- a transaction is opened, one inside the other up to the limit
abbrev pub begun : Desk → Settled
begun d = if d.depth == most_nested then refused_desk d TooNested else settled (record d { depth = d.depth + 1 }) Done

-- a transaction is closed: the outermost one with a change pending publishes
abbrev pub committed : Generations → Desk → Settled
committed g d =
    if d.depth == 0 then refused_desk d NoTransaction
    else if (d.depth == 1) && d.pending then publishing g d d.forest Done
    else settled (record d { depth = d.depth - 1 }) Done

-- a listener joins or leaves with what the current generation shows

-- a listener joins, unless its space is unknown or it may not join
abbrev pub listened : Generations → Desk → Listener → Settled
listened g d l = unless_refused (first_refusal (unknown_space d.forest l.space ∷ join_refusal d.listening l.listener ∷ [])) d
    (settled (record d { listening = joined d.listening l (view_of (current_forest g) l.space) (lives_of (current_forest g) l.space) }) Done)

-- the first of these listeners that has the id leaves, with what its space shows
abbrev pub without_listener : List Listener → ListenerId → Generations → Desk → Desk
without_listener [] id g d = d
without_listener (l ∷ ls) id g d =
    if l.listener.0 == id.0 then record d { listening = left d.listening id (view_of (current_forest g) l.space) (lives_of (current_forest g) l.space) }
    else without_listener ls id g d

-- the listener with this id leaves, unless there is none
abbrev pub unlistened : Generations → Desk → ListenerId → Settled
unlistened g d id = unless_refused (leave_refusal d.listening id) d (settled (without_listener d.listening.listeners id g d) Done)

-- what a private event leaves and answers
abbrev pub configured : Generations → Desk → Config → Settled
configured g d configs.Begin = begun d
configured g d (configs.Call call) = after_call g d call (after d.forest call)
configured g d configs.Commit = committed g d
configured g d (configs.Listen listener space priority) =
    listened g d (record { listener = listener; space = space; priority = priority })
configured g d (configs.Unlisten listener) = unlistened g d listener

-- a region that is made answers its id, any other accepted call that it is done
abbrev pub answers : Config → Result Applied Refusal → Result Reply Refusal
answers (configs.Call call) (Ok applied) = Ok (replies.Applied applied)
answers k (Ok applied) = Ok replies.Done
answers k (Err why) = Err why

-- what a private event answers; a reap is done
abbrev pub private_reply : Writer → Event → Result Reply Refusal
private_reply w (events.Config k) = answers k (configured w.generations w.desk k).answer
private_reply w e = Ok replies.Done

-- the desk after an event of the writer
abbrev pub desk_after : Writer → Event → Desk
desk_after w (events.Sweep pass) = record w.desk { swept = slice_set w.desk.swept pass.0 true }
desk_after w events.Publish = record w.desk { due = false }
desk_after w (events.Fill c) = record w.desk { unfilled = filter (λ x. not (is_same_cell c x)) w.desk.unfilled }
desk_after w (events.Config k) = unswept (configured w.generations w.desk k).desk
desk_after w events.Reap = unswept (reaped w)
desk_after w _ = w.desk

-- the writer's part after an event of its own with what it carries and the number that it told
abbrev pub writer_after : Writer → Event → Carried → ℕ → Writer
writer_after w e carried number = writer (desk_after w e) (generations_after w.generations e carried number)
