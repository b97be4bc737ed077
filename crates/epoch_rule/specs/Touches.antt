-- Steps on the cabinet's words: their events, and what they tell. One rule serves all of them.
use Rattle.std.specs.Prelude.{◌≡◌, ℕ, ◌+◌, ◌<◌, ◌≤◌, ◌==◌, true, false, if◌then◌else◌, MatchBool, List, Some}
use Rattle.std.specs.Option.{unwrap_or}
use mathlib.Core.List.{IsPrefix}
use Rattle.atomic_table.specs.Table.{Me}
use Rattle.mem_base.specs.map.PassIds.{PassId}
use Rattle.mem_base.specs.declared.machine.events.Hand.{Hand}
use Rattle.mem_base.specs.declared.machine.events.Hand.TheVariants as hands
use Rattle.mem_base.specs.declared.access.cells.Place.{Place}
use Rattle.mem_base.specs.declared.access.cells.WordStep.{WordStep}
use Rattle.mem_base.specs.declared.access.cells.WordStep.TheVariants.{Load, Replace}
use Rattle.mem_base.specs.declared.machine.events.Event.{Event}
use Rattle.mem_base.specs.declared.machine.events.Event.TheVariants as events
use Rattle.mem_base.specs.declared.machine.events.Carried.TheVariants.{At}
use Rattle.mem_base.specs.declared.machine.events.HistoryEntry.{HistoryEntry}
use Rattle.mem_base.specs.access.Places.{mark_word, word_of_page}
use Rattle.mem_base.specs.access.Cells.{cell, touch as cell_touch}
use Rattle.mem_base.specs.machine.Passes.{PassState, passes_after}
use Rattle.mem_base.specs.machine.Generations.{Generation, Generations, generations_after}
use Rattle.mem_base.specs.machine.SharedHistory.{PoolTouch, pool_touch_of, shared_possible}
use Rattle.epoch_rule.specs.declared.views.Sizes.{Sizes}
use Rattle.epoch_rule.specs.declared.views.View.{View}
use Rattle.epoch_rule.specs.declared.touches.Touch.{Touch}
use Rattle.epoch_rule.specs.declared.touches.Touch.TheVariants as touches
use Rattle.mem_base.specs.machine.Passes.{pass_id}
use Rattle.mem_base.specs.machine.Actors.{actor_of, actor_of_hand, own_entries, published_with}
use Rattle.mem_base.specs.machine.Turns.{history_entry}
use Rattle.epoch_rule.specs.Wrote.{WordWas, WordWasBefore}
use Rattle.epoch_rule.specs.Rule.{state_of, IsLegal, ComesNext, KeepsSlot}

-- the event is the actor's, and steps on that word of the cabinet alone
pub record TouchesWord (a : ℕ) (e : Event) (p : Place) (t : PoolTouch) : Type 0 where
  pub mine : actor_of e ≡ a
  pub is : pool_touch_of e (At p) ≡ Some t
  pub generations : (g : Generations) (r : ℕ) → generations_after g e (At p) r ≡ g
  pub passes : (ps : List PassState) (r : ℕ) → passes_after ps e r ≡ ps
  pub published : (gs : List Generation) → published_with gs e (At p) ≡ gs

-- the reply in the history of a step that found this word
abbrev pub told_by : PoolTouch → ℕ → ℕ
told_by t old = if t.touch.tells then old else 0

-- the seat made the event, and the word was this before it
abbrev pub touched : {S : Type 0} → ℕ → Event → Place → PoolTouch → Me S View → ℕ → Me S View → Type 0
touched a e p t m r w = (w.1 ≡ m.1) × KeepsSlot m.0 w.0 × ComesNext a m.0 e (At p) (told_by t r) w.0
    × WordWasBefore m.0.sizes m.0.seen t.word r (history_entry e (At p) (told_by t r)) w.0.seen

-- the pass that a hand is
abbrev pub pass_of_hand : Hand → PassId
pass_of_hand (hands.Pass pass) = pass
pass_of_hand hands.Writer = pass_id 0

-- the event of a touch by an actor, on a word of a place; a Look shows none, and a Try only where it stands
abbrev pub event_of : Hand → Place → ℕ → Touch → Event
event_of hand p word touches.Look = events.Word hand (cell p.region word) Load
event_of hand p word (touches.Step step) = events.Word hand (cell p.region word) step
event_of hand p word (touches.Try old first bytes value) = events.Word hand (cell p.region word) (Replace first bytes value)
event_of hand p word touches.Fill = events.Fill (cell p.region word)
event_of hand p word (touches.Mark client page) = events.Mark (pass_of_hand hand) p.region client page
event_of hand p word (touches.Harvest client index) = events.Harvest p.region client index

-- who makes the touch

abbrev pub IsPassHand : Hand → Type 0
IsPassHand (hands.Pass pass) = Unit {0}
IsPassHand hands.Writer = ⊥

abbrev pub IsWriterHand : Hand → Type 0
IsWriterHand (hands.Pass pass) = ⊥
IsWriterHand hands.Writer = Unit {0}

-- a whole word is replaced
abbrev pub IsWholeStep : WordStep → Type 0
IsWholeStep (Replace first bytes value) = (first ≡ 0) × (bytes ≡ 8)
IsWholeStep s = Unit {0}

-- This actor may make a touch of this kind on this word: a Fill and a Harvest are the writer's and a Mark a pass's, and
-- marks are in their mark words
abbrev pub IsTouch : Hand → Place → ℕ → Touch → Type 0
IsTouch hand p word touches.Look = Unit {0}
IsTouch hand p word (touches.Step step) = IsWholeStep step
IsTouch hand p word (touches.Try old first bytes value) = (0 < bytes) × (first + bytes ≤ 8)
IsTouch hand p word touches.Fill = IsWriterHand hand
IsTouch hand p word (touches.Mark client page) = IsPassHand hand × (word ≡ word_of_page p client page)
IsTouch hand p word (touches.Harvest client index) = IsWriterHand hand × (word ≡ mark_word p client index)

-- what a step on a word tells: the word before it, or 0 where it is a store
abbrev pub ToldStep : Hand → Place → ℕ → WordStep → View → ℕ → View → Type 0
ToldStep hand p word (Replace first bytes value) v r w = (r ≡ 0)
    × ((old : ℕ) × ComesNext (actor_of_hand hand) v (events.Word hand (cell p.region word) (Replace first bytes value)) (At p) old w)
ToldStep hand p word s v r w = ComesNext (actor_of_hand hand) v (events.Word hand (cell p.region word) s) (At p) r w

-- what a touch tells: its event, with the reply that stands in the history
abbrev pub Told : Hand → Place → ℕ → Touch → View → ℕ → View → Type 0
Told hand p word touches.Look v r w = (w ≡ v) × WordWas v.sizes v.seen (p.start + word) r
Told hand p word (touches.Step step) v r w = ToldStep hand p word step v r w
Told hand p word (touches.Try old first bytes value) v r w =
    MatchBool (r == old) (ComesNext (actor_of_hand hand) v (events.Word hand (cell p.region word) (Replace first bytes value)) (At p) r w)
    ((w ≡ v) × WordWas v.sizes v.seen (p.start + word) r)
Told hand p word touches.Fill v r w = (r ≡ 0) × ComesNext (actor_of_hand hand) v (events.Fill (cell p.region word)) (At p) 0 w
Told hand p word (touches.Mark client page) v r w =
    let event = events.Mark (pass_of_hand hand) p.region client page in
    ComesNext (actor_of_hand hand) v event (At p) 0 w
    × WordWasBefore v.sizes v.seen (p.start + word_of_page p client page) r (history_entry event (At p) 0) w.seen
Told hand p word (touches.Harvest client index) v r w = ComesNext (actor_of_hand hand) v (events.Harvest p.region client index) (At p) r w

-- all that a step on a word needs of the seat that makes it
pub record IsStepReady (z : Sizes) (v : View) (a : ℕ) (e : Event) (p : Place) (t : PoolTouch) : Type 0 where
  pub kind : TouchesWord a e p t
  pub role : v.role ≡ Some a
  pub inside : t.word < z.words
  pub may : (log : List HistoryEntry) → v.sizes ≡ z → IsLegal z log → IsPrefix v.seen log → own_entries a v.seen ≡ own_entries a log
      → shared_possible (state_of z log) e (At p) ≡ true

-- the touch of an event at a place
abbrev pub no_touch : PoolTouch
no_touch = record { word = 0; touch = cell_touch 0 Load false }

-- what an event does to a word of the cabinet
abbrev pub touch_at : Event → Place → PoolTouch
touch_at e p = unwrap_or (pool_touch_of e (At p)) no_touch

-- the same of a touch
abbrev pub IsReady : Sizes → View → Hand → Place → ℕ → Touch → Type 0
IsReady z v hand p word touch = let e = event_of hand p word touch in IsStepReady z v (actor_of_hand hand) e p (touch_at e p)
