-- What the running machine may do next, after orders and what passes did: any order, and each stage of what a pass does.
use Rattle.std.proofs.Common.{◌≡◌, ℕ, zero, suc, ◌+◌, ◌-◌, ◌<◌, ◌≤◌, Bool, true, false, List, [], ◌∷◌, ◌++◌, length, flat_map, refl, sym, ap, ◌∙◌, subst, arith}
use Rattle.std.proofs.Common.{Option, Some, None, slice_get, slice_index_or, is_some, if◌then◌else◌, unwrap_or, lt-ltb}
use Rattle.std.specs.Prelude.{is_none, nat_le, nat_lt}
use Rattle.std.proofs.lemmas.List.{get_or-replicate}
use Rattle.mem_base.specs.map.PassIds.{PassId}
use Rattle.mem_base.specs.declared.map.ids.SpaceId.{SpaceId}
use Rattle.mem_base.specs.declared.access.cells.Place.{Place}
use Rattle.mem_base.specs.declared.machine.events.Event.{Event}
use Rattle.mem_base.specs.declared.machine.events.Event.TheVariants as events
use Rattle.mem_base.specs.declared.machine.events.HistoryEntry.{HistoryEntry}
use Rattle.mem_base.specs.declared.machine.records.DeskOrder.{DeskOrder}
use Rattle.mem_base.specs.declared.machine.records.DeskOrder.TheVariants as orders
use Rattle.mem_base.specs.lists.Every.{Every}
use Rattle.mem_base.specs.map.Limits.{most_passes, notifier_count}
use Rattle.mem_base.specs.access.AccessSteps.{Transfer, AccessStep, blank, steps, marks, events_of_steps}
use Rattle.mem_base.specs.access.Access.{access}
use Rattle.mem_base.specs.machine.Passes.{PassState, idle, pass_of, is_pass}
use Rattle.mem_base.specs.machine.Generations.{Generation, Generations, entered_generation, generation_at}
use Rattle.mem_base.specs.machine.Reaps.{Writer, first_writer}
use Rattle.mem_base.specs.machine.World.{World, opening, possible}
use Rattle.mem_base.specs.machine.History.{PureEntry, after_entries}
use Rattle.mem_base.specs.machine.SharedHistory.{Shared, shared_opening, after_shared_entries, IsSharedLegal, IsSharedLegalFrom}
use Rattle.mem_base.specs.machine.Actors.{actor_of, first_generation, generations_published, own_entries, pass_after_all}
use Rattle.mem_base.specs.machine.Composites.{enters, forest_at, leaves, steps_in}
use Rattle.mem_base.specs.machine.Orders.{Order}
use Rattle.mem_base.specs.machine.Turns.{Answered, turn, turns, entries_of_turn, is_writers, last_writer, replies_of, writers_of}
use Rattle.mem_base.specs.machine.JoinedHistory.{joined_history}
use Rattle.mem_base.specs.machine.PassTurns.{entries_of}
use Rattle.mem_base.specs.machine.Records.{call_of, FitsDeskOrder}
use Rattle.mem_base.specs.script.Race.{pass_state}
use Rattle.mem_base.proofs.EveryLaws.{every_push}
use Rattle.view_laws.proofs.Tests.{none_is_not_some}
use Rattle.history_laws.specs.Numbers.{HasSoundNumbers}
use Rattle.history_laws.proofs.NumberLaws.{sound}
use Rattle.history_laws.proofs.AppendLaws.{pass_owns}
use Rattle.turn_laws.proofs.TurnsLaw.{turns_join}
use Rattle.run_laws.proofs.HandedOn.{IsFitting}
use Rattle.run_laws.specs.MadeForests.{HasMadeForests}
use Rattle.run_laws.proofs.Passing.{Led, may_enter, may_leave, orderly, within}
use Rattle.mem_base.specs.machine.ShownWorlds.{world_shown}
use Rattle.turn_laws.proofs.Joining.{Ends}
use Rattle.end_laws.proofs.EndLaws.{ends}
use Rattle.end_laws.proofs.GoingOn.{turns_go_on}
use Rattle.cell_laws.specs.TurnCells.{HasFittingCall}
use Rattle.cell_laws.proofs.MadeTurns.{turns_make_forests}
use Rattle.cell_laws.proofs.Carrying.{AllCarry, Carries, carry, carry_enters, carry_leaves, steps_carry}
use Rattle.cell_laws.proofs.Following.{shared_join, turns_may_follow}
use Rattle.race_laws.specs.Acting.{AreEntries, generation_in}
use Rattle.std.proofs.lemmas.Bool.{and_from}
use Rattle.std.proofs.lemmas.Option.{same_Some}

-- a legal history, whose writer's entries are those of the turns of orders that fit their types
pub record Stands (pool : ℕ) (os : List Answered) (xs : List HistoryEntry) : Type 0 where
  pub legal : IsSharedLegal (pool + notifier_count) most_passes xs
  pub same : writers_of xs ≡ flat_map entries_of_turn (turns (first_writer pool most_passes) os)
  pub fits : Every HasFittingCall os

abbrev pub writer_now : ℕ → List Answered → Writer
writer_now pool os = last_writer (first_writer pool most_passes) (turns (first_writer pool most_passes) os)

abbrev pub shared_now : ℕ → List HistoryEntry → Shared
shared_now pool xs = after_shared_entries (shared_opening (pool + notifier_count) most_passes) xs

-- what fits fits as an order of the writer
pub call_fits : (order : DeskOrder) (replies : List ℕ) → FitsDeskOrder order → HasFittingCall (call_of order, replies)
call_fits (orders.Call call) replies h = h
call_fits _ replies h = tt

-- any order may follow

pub record OrderGoes (pool : ℕ) (os : List Answered) (xs : List HistoryEntry) (k : Order) : Type 0 where
  pub replies : List ℕ
  pub next : Stands pool (os ++ (k, replies) ∷ []) (xs ++ entries_of_turn (turn (writer_now pool os) k replies))
  pub writer : writer_now pool (os ++ (k, replies) ∷ []) ≡ (turn (writer_now pool os) k replies).writer

module _ (pool : ℕ) (os : List Answered) (xs : List HistoryEntry) (s : Stands pool os xs) where
  made : HasMadeForests (writer_now pool os)
  made = turns_make_forests pool most_passes os s.fits

  order_fits : (order : DeskOrder) → FitsDeskOrder order → IsFitting (world_shown (writer_now pool os) (shared_now pool xs)) (call_of order)
  order_fits (orders.Load region offset bytes) h = made.desk
  order_fits (orders.Notified number) h = h
  order_fits _ h = tt

  pub order_goes : (order : DeskOrder) → FitsDeskOrder order → OrderGoes pool os xs (call_of order)
  order_goes order h =
      let t = turns_may_follow pool most_passes os xs (call_of order) s.legal s.same (order_fits order h) in
      let on = (turns_go_on (first_writer pool most_passes) os xs s.same).turn (call_of order) t.0 in record {
        replies = t.0;
        next = record { legal = t.1; same = on.0; fits = every_push HasFittingCall os (call_of order, t.0) s.fits (call_fits order t.0 h) };
        writer = on.1;
      }

-- passes

-- the event is one of this pass
abbrev pub IsOf : PassId → Event → Type 0
IsOf pass e = (actor_of e ≡ pass.0 + 1) × (is_writers e ≡ false)

abbrev pub AreOf : PassId → List HistoryEntry → Type 0
AreOf pass ys = Every (λ y. IsOf pass y.event) ys

entries_of_pass : (pass : PassId) (places : List Place) (es : List Event) (ns : List ℕ) → Every (IsOf pass) es → AreOf pass (entries_of places es ns)
entries_of_pass pass places [] ns h = tt
entries_of_pass pass places (e ∷ es) [] h = (h.0, entries_of_pass pass places es [] h.1)
entries_of_pass pass places (e ∷ es) (n ∷ ns) h = (h.0, entries_of_pass pass places es ns h.1)

pub only_passes : (pass : PassId) (ys : List HistoryEntry) → AreOf pass ys → Every (λ y. is_writers y.event ≡ false) ys
only_passes pass [] h = tt
only_passes pass (y ∷ ys) h = (h.0.1, only_passes pass ys h.1)

steps_of_pass : (pass : PassId) (ds : List AccessStep) → Every (IsOf pass) (events_of_steps pass ds)
steps_of_pass pass [] = tt
steps_of_pass pass (blank n result ∷ ds) = steps_of_pass pass ds
steps_of_pass pass (steps c step x ∷ ds) = ((refl, refl), steps_of_pass pass ds)
steps_of_pass pass (marks region client page ∷ ds) = ((refl, refl), steps_of_pass pass ds)

-- a stage of what a pass does may follow
pub record PassGoes (pool : ℕ) (os : List Answered) (xs : List HistoryEntry) (pass : PassId) (places : List Place) (es : List Event) : Type 0 where
  pub ys : List HistoryEntry
  pub are : AreEntries places es ys
  pub mine : AreOf pass ys
  pub next : Stands pool os (xs ++ ys)

get_told : (gs : List Generation) (n : ℕ) (x : Generation) → slice_get gs n ≡ Some x → slice_index_or gs n first_generation ≡ x
get_told [] n x e = none_is_not_some x e
get_told (g ∷ gs) zero x e = same_Some g x e
get_told (g ∷ gs) (suc n) x e = get_told gs n x e

-- the generation in which a pass is entered is that of its number among those that were published
entered_is : (words : ℕ) (gs : List Generation) (s : Shared) (pass : PassId) (x : Generation) → HasSoundNumbers words most_passes gs s → pass.0 < most_passes
    → entered_generation s.generations s.passes pass ≡ Some x → slice_index_or gs (unwrap_or (pass_of s.passes pass).entered 0) first_generation ≡ x
entered_is words gs s pass x k near is = go (pass_of s.passes pass).entered refl (into (is_pass s.passes pass) is)
  where
    g : Generations
    g = s.generations

    into : (b : Bool) → (if b then generation_at g (pass_of s.passes pass).entered else None) ≡ Some x
        → generation_at g (pass_of s.passes pass).entered ≡ Some x
    into true e = e
    into false e = none_is_not_some x e

    here : (n : ℕ) → (b : Bool) → nat_le n g.current ≡ b → (if b then slice_get g.kept (g.current - n) else None) ≡ Some x
        → slice_get g.kept (g.current - n) ≡ Some x
    here n true e h = h
    here n false e h = none_is_not_some x h

    go : (o : Option ℕ) → (pass_of s.passes pass).entered ≡ o → generation_at g o ≡ Some x → slice_index_or gs (unwrap_or o 0) first_generation ≡ x
    go None e h = none_is_not_some x h
    go (Some n) e h =
        let k_pass = k.each pass.0 near in
        let low = k_pass.entered n e in
        let low_two : _ ≤ n = low.3 in
        let low_three : n ≤ g.current = low.4 in
        let close = k_pass.near in
        get_told gs n x (sym (k.kept n low_three (omega (arith, close, low_two))) ∙ here n (nat_le n g.current) refl h)

module _ (pool : ℕ) (os : List Answered) (xs : List HistoryEntry) (s : Stands pool os xs) where
  abbrev zs : List PureEntry
  zs = joined_history (turns (first_writer pool most_passes) os) xs

  abbrev w : World
  w = after_entries (opening pool most_passes) zs

  ended : Ends (writer_now pool os) (shared_now pool xs) w
  ended = ends pool most_passes os xs s.legal s.same

  led : Led pool zs w
  led = record {
    legal = (turns_join pool most_passes os xs s.legal s.same).legal;
    leads = refl;
    made = subst HasMadeForests (sym ended.writer) (turns_make_forests pool most_passes os s.fits);
  }

  numbers : HasSoundNumbers (pool + notifier_count) most_passes (generations_published xs) (shared_now pool xs)
  numbers = sound (pool + notifier_count) most_passes xs s.legal

  pub goes : (pass : PassId) (places : List Place) (es : List Event) → AllCarry places w es → Every (IsOf pass) es → PassGoes pool os xs pass places es
  goes pass places es all of =
      let c : Carries places w ended.words es = carry places es w ended.words ended.coupled all in
      let mine : AreOf pass c.entries = subst (λ (ys : List HistoryEntry). AreOf pass ys) (sym c.are) (entries_of_pass pass places es
      (replies_of c.entries) of) in
      record {
        ys = c.entries;
        are = c.are;
        mine = mine;
        next = record {
          legal = shared_join xs c.entries (shared_opening (pool + notifier_count) most_passes) s.legal
              (subst (λ (z : Shared). IsSharedLegalFrom z c.entries) ended.shows c.legal);
          same = (turns_go_on (first_writer pool most_passes) os xs s.same).passes c.entries (only_passes pass c.entries mine);
          fits = s.fits;
        };
      }

  module _ (pass : PassId) (near : pass.0 < most_passes) where
    passes_are : w.passes ≡ (shared_now pool xs).passes
    passes_are = ap (λ (z : Shared). z.passes) ended.shows

    pub state_is : pass_of w.passes pass ≡ pass_state pass xs
    state_is =
        ap (λ (ps : List PassState). pass_of ps pass) passes_are
        ∙ pass_owns xs (shared_opening (pool + notifier_count) most_passes) pass.0 near
        ∙ ap (λ (p : PassState). pass_after_all p (own_entries (pass.0 + 1) xs)) (get_or-replicate most_passes pass.0 idle idle near)

    is_there : is_pass w.passes pass ≡ true
    is_there = ap (λ (n : ℕ). nat_lt pass.0 n) (ap (λ (ps : List PassState). length ps) passes_are ∙ numbers.many) ∙ lt-ltb pass.0 most_passes near

    pub enters_go : is_none (pass_state pass xs).announced ≡ true → PassGoes pool os xs pass [] (enters pass)
    enters_go out =
        let look : possible w (events.Look pass) ≡ true = and_from _ _ is_there (ap (λ (p : PassState). is_none p.announced) state_is ∙ out) in
        goes pass [] (enters pass) (carry_enters [] w pass (may_enter w pass (orderly pool zs w led) look))
        ((refl, refl), ((refl, refl), ((refl, refl), tt)))

    inside : is_some (pass_state pass xs).entered ≡ true → is_some (pass_of w.passes pass).entered ≡ true
    inside e = ap (λ (p : PassState). is_some p.entered) state_is ∙ e

    pub leaves_go : is_some (pass_state pass xs).entered ≡ true → PassGoes pool os xs pass [] (leaves pass)
    leaves_go e = goes pass [] (leaves pass) (carry_leaves [] w pass (may_leave pool zs w pass led (inside e))) ((refl, refl), tt)

    pub transfer_goes : (space : SpaceId) (addr : ℕ) (transfer : Transfer) → is_some (pass_state pass xs).entered ≡ true
        → let x = generation_in (generations_published xs) (pass_state pass xs) in
        PassGoes pool os xs pass x.places (events_of_steps pass (access x.forest space addr transfer))
    transfer_goes space addr transfer e =
        let i = within pool zs w pass led (inside e) in
        let x : Generation = i.generation in
        let here : entered_generation (shared_now pool xs).generations (shared_now pool xs).passes pass ≡ Some x =
        ap (λ (z : Shared). entered_generation z.generations z.passes pass) (sym ended.shows) ∙ i.here in
        let number : (pass_of (shared_now pool xs).passes pass) ≡ pass_state pass xs =
        ap (λ (ps : List PassState). pass_of ps pass) (sym passes_are) ∙ state_is in
        let same : x ≡ generation_in (generations_published xs) (pass_state pass xs) =
        sym (entered_is (pool + notifier_count) (generations_published xs) (shared_now pool xs) pass x numbers near here)
        ∙ ap (λ (p : PassState). generation_in (generations_published xs) p) number in
        let ds : access x.forest space addr transfer ≡ steps_in w pass space addr transfer =
        ap (λ (o : Option Generation). access (forest_at o) space addr transfer) (sym i.here) in
        let all : AllCarry x.places w (events_of_steps pass (access x.forest space addr transfer)) =
        subst (λ (steps : List AccessStep). AllCarry x.places w (events_of_steps pass steps)) (sym ds)
        (steps_carry pool zs w pass space addr transfer led (inside e)) in
        subst (λ (y : Generation). PassGoes pool os xs pass y.places (events_of_steps pass (access y.forest space addr transfer))) same
        (goes pass x.places (events_of_steps pass (access x.forest space addr transfer)) all
        (steps_of_pass pass (access x.forest space addr transfer)))
