-- One private event of the writer: what it leaves of the parts of a world is what the event leaves of the world.
use Rattle.std.proofs.Common.{◌≡◌, ℕ, ◌+◌, ◌<◌, ◌≤◌, Bool, true, false, List, [], map, length, Option, Some, None, refl, sym, ap, subst, ◌∙◌, arith}
use Rattle.std.specs.Prelude.{not, ◌&&◌, ◌||◌, Result, Ok, Err, IfSome}
use Rattle.mem_base.specs.declared.map.ids.RegionId.{RegionId}
use Rattle.mem_base.specs.declared.map.forests.Forest.{Forest}
use Rattle.mem_base.specs.declared.map.calls.Applied.{Applied}
use Rattle.mem_base.specs.declared.map.calls.Config.{Config}
use Rattle.mem_base.specs.declared.map.refusals.Refusal.{Refusal}
use Rattle.mem_base.specs.declared.access.cells.Cell.{Cell}
use Rattle.mem_base.specs.declared.access.cells.Place.{Place}
use Rattle.mem_base.specs.declared.machine.events.Event.TheVariants as events
use Rattle.mem_base.specs.lists.Every.{Every}
use Rattle.mem_base.specs.map.Limits.{notifier_count, most_made}
use Rattle.mem_base.specs.access.Places.{past}
use Rattle.mem_base.specs.access.Cells.{Block}
use Rattle.mem_base.specs.machine.Desk as desks
use Rattle.mem_base.specs.machine.Desk.{Desk, places_of}
use Rattle.mem_base.specs.machine.Publishing.{Settled, held_up}
use Rattle.mem_base.specs.machine.Configs.{configured}
use Rattle.mem_base.specs.machine.Reaps.{writer}
use Rattle.mem_base.specs.machine.World.{World, world, possible, world_after, block_for}
use Rattle.history_laws.specs.BackedForests.{BacksForest}
use Rattle.generation.specs.Published.{Published}
use Rattle.kept_generations.specs.KeptState.{KeptState, generations_of}
use Rattle.mem_base.specs.access.PlaceCells.{blocks_at}
use Rattle.transact.specs.Preparing.{Readied}
use Rattle.backing_pool.specs.Backing.{Backing}
use Rattle.transact.specs.Backed.{all_places}
use Rattle.writer_desk.specs.Writers.{WriterState, Beside, desk_of, settled_as, standing, IsConfigured, IsAccepted, IsReady}
use Rattle.world_core.specs.declared.world.World.TheInside.{Inside}
use Rattle.writer_desk.specs.Listened.{resting}
use Rattle.world_core.specs.Worlds.{Aside, aside, state_of, beside, world_of, filled_beside, filled_world, IsWorld, IsFilledWorld, cleared_at, unswept}
use Rattle.world_hand.specs.Reached.{IsReached}
use Rattle.world_hand.proofs.Completing.{backs, reached_holds}
use Rattle.writer_run.proofs.MadeLaws.{kept_beside, pool_stays, unfilled_with}
use Rattle.writer_desk.specs.Writers.{dropped_with, made_place}
use Rattle.world_core.specs.Events.{IsChanged, makes_region}
use Rattle.place_words.specs.Unfilled.{cells_at}
use Rattle.world_core.proofs.MadeCellLaws.{made_only}
use Rattle.world_core.proofs.MadeCellLaws as made
use Rattle.world_core.proofs.ReachedLaws.{reached_after}
use Rattle.world_core.proofs.RestLaws.{Rested, filled}
use Rattle.mem_base.proofs.BoolLaws.{or_nothing}

-- the parts make a world, and the event leads there with this answer
pub record ChangesWorld (w : World) (c : Config) (answer : Result Applied Refusal) (d : WriterState) (k : KeptState) (ws : List ℕ)
    (x : Aside) : Type 0 where
  pub world : IsWorld d k ws x
  pub changed : IsChanged w c answer (world_of d k ws x)

-- a region's words are flags for which there is room
pub made_fits : (o : Option Place) (n room : ℕ) (makes : Bool) → IfSome o (λ p. past p ≤ n) → IfSome o (λ p. makes ≡ true) → (makes ≡ true → n ≤ room)
    → IfSome o (λ p. p.words ≤ room)
made_fits None n room makes near only wide = tt
made_fits (Some p) n room makes near only wide =
    let l : past p ≤ n = near in
    let m : n ≤ room = wide only in
    omega (arith, l, m)

module _ (d : WriterState) (k : KeptState) (ws : List ℕ) (dropped : List RegionId) (h : IsFilledWorld d k ws dropped)
    (no_due : d.due ≡ None) (c : Config)
    (may : possible (filled_world d k ws dropped) (events.Config c) ≡ true) where
  abbrev w : World
  w = filled_world d k ws dropped

  abbrev blocks : List Block
  blocks = blocks_at ws (all_places d.backed.backing)

  abbrev started : Desk
  started = desk_of d (filled_beside dropped k.swept)

  same_forest : w.writer.desk.forest ≡ d.backed.desk.state.forest
  same_forest = ap (λ (o : Option Readied). (standing d.backed.desk o).forest) no_due

  few : d.backed.desk.state.forest.made ≤ most_made
  few = subst (λ (f : Forest). f.made ≤ most_made) same_forest (reached_holds w h.reached).sound.few

  below : Every (λ p. p.region.0 < d.backed.desk.state.forest.made) d.backed.backing.places
  below = subst (λ (f : Forest). Every (λ p. p.region.0 < f.made) d.backed.backing.places) same_forest (reached_holds w h.reached).sound.places

  back : BacksForest d.backed.backing.pool_words w.writer.desk.forest d.backed.backing.places
  back = backs w h.reached

  -- what the event leaves of the parts
  module _ (e : WriterState) (r : Result Applied Refusal) (dropped_then : List RegionId) (unfilled : List Cell)
      (settles : configured (generations_of k) started c ≡ settled_as (desk_of e (beside (aside dropped_then unfilled) k.swept)) r) where
    abbrev desk_then : Desk
    desk_then = desk_of e (beside (aside dropped_then unfilled) k.swept)

    -- the places then back the forest
    backed_then : BacksForest e.backed.backing.pool_words desk_then.forest e.backed.backing.places
    backed_then =
        let same : (world_after w (events.Config c)).writer.desk ≡ desks.unswept desk_then = ap (λ (s : Settled). desks.unswept s.desk) settles in
        subst (λ (x : Desk). BacksForest x.pool_words x.forest x.places) same (backs _ (reached_after w (events.Config c) h.reached may))

    module _ (ws_then : List ℕ) (cells : map (block_for blocks) (all_places e.backed.backing) ≡ blocks_at ws_then (all_places e.backed.backing))
        (wide : length ws_then ≡ e.backed.backing.pool_words + notifier_count) (current : e.backed.desk.current ≡ d.backed.desk.current)
        (ready : IfSome e.due (IsReady e.backed)) where
      leads : world_after w (events.Config c) ≡ world_of e (unswept k) ws_then (aside dropped_then unfilled)
      leads =
          ap (λ (s : Settled). world (writer (desks.unswept s.desk) (generations_of k)) k.states (map (block_for blocks) (places_of
          (desks.unswept s.desk)))) settles
          ∙ ap (λ (bs : List Block). world (writer (desks.unswept desk_then) (generations_of k)) k.states bs) cells

      changes : ChangesWorld w c r e (unswept k) ws_then (aside dropped_then unfilled)
      changes = record {
        world = record {
          reached = subst IsReached leads (reached_after w (events.Config c) h.reached may);
          current = h.current ∙ ap (λ (p : Published). p.forest) (sym current);
          number = ap (λ (p : Published). p.number) current ∙ h.number;
          ready = ready;
          wide = wide;
        };
        changed = record {
          world = sym leads;
          answer_is = sym (ap (λ (s : Settled). s.answer) settles);
        };
      }

  -- a refused event
  pub refused : (e : WriterState) → e ≡ d → (held : Option Refusal) (why : Refusal) → IsConfigured d c held e (Err why) → held ≡ held_up (generations_of k)
      → (kept_then : KeptState) → kept_then ≡ unswept k → (dropped_then : List RegionId) → dropped_then ≡ dropped → (cells : List Cell) → cells ≡ []
      → ChangesWorld w c (Err why) e kept_then ws (aside dropped_then cells)
  refused e same held why is told kept_then kept dropped_then drops cells none =
      subst (λ (z : WriterState × KeptState × Aside). ChangesWorld w c (Err why) z.0 z.1 ws z.2)
      (λ i. (sym same i, sym kept i, aside (sym drops i) (sym none i)))
      (changes d (Err why) dropped []
      (subst (λ (x : WriterState). configured (generations_of k) started c ≡ settled_as (desk_of x (filled_beside dropped k.swept)) (Err why)) same
      (is (generations_of k) (filled_beside dropped k.swept) h.current (λ u. sym told)))
      ws (made.same_cells ws d.backed h.wide w.writer.desk.forest back few below) h.wide refl h.ready)

  -- an accepted event
  module _ (e : WriterState) (held : Option Refusal) (a : Applied) (is : IsConfigured d c held e (Ok a))
      (told : held ≡ held_up (generations_of k)) (ok : IsAccepted d c e a) where
    settled_so : configured (generations_of k) started c
        ≡ settled_as (desk_of e (beside (aside (dropped_with c dropped) (unfilled_with d.backed c)) k.swept)) (Ok a)
    settled_so = is (generations_of k) (filled_beside dropped k.swept) h.current (λ u. sym told)
        ∙ ap (λ (x : Beside). settled_as (desk_of e x) (Ok a)) (kept_beside d.backed (filled_beside dropped k.swept) c refl)

    abbrev Clears : Backing → Applied → Type 0
    Clears n x = made.Clears ws d.backed h.wide w.writer.desk.forest back few below n x (unfilled_with d.backed c)

    clears_so : Clears e.backed.backing a
    clears_so =
        let desk : Desk = desk_of e (beside (aside (dropped_with c dropped) (unfilled_with d.backed c)) k.swept) in
        let new = backed_then e (Ok a) (dropped_with c dropped) (unfilled_with d.backed c) settled_so in
        subst (λ (z : Backing × Applied). Clears z.0 z.1) (λ i. (sym ok.backing i, sym ok.answered i))
        (made.clears ws d.backed h.wide w.writer.desk.forest back few below c desk.forest
        (subst (λ (n : Backing). BacksForest n.pool_words desk.forest n.places) ok.backing new))

    -- the words of a region that was made are words
    pub has_words : IfSome (made_place e.backed.backing.places a) (λ p. past p ≤ length ws)
    has_words = clears_so.room

    -- and there is room to note them
    pub has_flags : (room : ℕ) → (makes_region c ≡ true → length ws ≤ room) → IfSome (made_place e.backed.backing.places a) (λ p. p.words ≤ room)
    has_flags room wide =
        made_fits (made_place e.backed.backing.places a) (length ws) room (makes_region c) has_words
        (subst (λ (x : Applied). IfSome (made_place e.backed.backing.places x) (λ p. makes_region c ≡ true)) (sym ok.answered)
        (made_only d.backed e.backed.backing.places c)) wide

    -- the parts as they are then
    pub accepted : IfSome e.due (IsReady e.backed) → (ws_then : List ℕ) → ws_then ≡ cleared_at ws (made_place e.backed.backing.places a)
        → length ws_then ≡ length ws
        → (kept_then : KeptState) → kept_then ≡ unswept k → (dropped_then : List RegionId) → dropped_then ≡ dropped_with c dropped
        → (cells : List Cell) → cells ≡ cells_at (made_place e.backed.backing.places a)
        → ChangesWorld w c (Ok a) e kept_then ws_then (aside dropped_then cells)
    accepted ready ws_then cleared long kept_then kept dropped_then drops cells left =
        subst (λ (z : KeptState × Aside). ChangesWorld w c (Ok a) e z.0 ws_then z.1)
        (λ i. (sym kept i, aside (sym drops i) (sym (left ∙ sym clears_so.left) i)))
        (changes e (Ok a) (dropped_with c dropped) (unfilled_with d.backed c) settled_so ws_then
        (clears_so.cells ∙ ap (λ (vs : List ℕ). blocks_at vs (all_places e.backed.backing)) (sym cleared))
        (long ∙ h.wide ∙ ap (λ (n : ℕ). n + notifier_count) (sym (ap (λ (n : Backing). n.pool_words) ok.backing ∙ pool_stays d.backed c))) ok.current ready)

-- the same by the fields of the struct
module _ (s : Inside) (w : World) (f : Rested s w) (c : Config) (may : possible w (events.Config c) ≡ true) (held : Option Refusal)
    (told : held ≡ held_up (generations_of s.hand.kept)) (e : WriterState) where
  able : possible (filled s.desk s.hand.kept s.hand.words) (events.Config c) ≡ true
  able = ap (λ (v : World). possible v (events.Config c)) f.view ∙ may

  is_so : (r : Result Applied Refusal) → IsConfigured (state_of s.desk s.due) c held e r → IsConfigured (resting s.desk.listened) c held e r
  is_so r is = subst (λ (o : Option Readied). IsConfigured (state_of s.desk o) c held e r) f.none_due is

  module _ (a : Applied) (is : IsConfigured (state_of s.desk s.due) c held e (Ok a)) (ok : IsAccepted (state_of s.desk s.due) c e a) where
    ok_so : IsAccepted (resting s.desk.listened) c e a
    ok_so = subst (λ (o : Option Readied). IsAccepted (state_of s.desk o) c e a) f.none_due ok

    pub made_there : IfSome (made_place e.backed.backing.places a) (λ p. past p ≤ length s.hand.words)
    made_there =
        has_words (resting s.desk.listened) s.hand.kept s.hand.words s.desk.dropped.items f.world refl c able e held a (is_so (Ok a) is) told ok_so

    pub accepted_so : IfSome e.due (IsReady e.backed) → (ws : List ℕ) → ws ≡ cleared_at s.hand.words (made_place e.backed.backing.places a)
        → length ws ≡ length s.hand.words → (k : KeptState) → k ≡ unswept s.hand.kept
        → (dropped : List RegionId) → dropped ≡ dropped_with c s.desk.dropped.items
        → (cells : List Cell) → cells ≡ cells_at (made_place e.backed.backing.places a) → ChangesWorld w c (Ok a) e k ws (aside dropped cells)
    accepted_so ready ws cleared long k kept dropped drops cells left =
        subst (λ (v : World). ChangesWorld v c (Ok a) e k ws (aside dropped cells)) f.view
        (accepted (resting s.desk.listened) s.hand.kept s.hand.words s.desk.dropped.items f.world refl c able e held a (is_so (Ok a) is) told ok_so
        ready ws cleared long k kept dropped drops cells left)

  pub refused_so : e ≡ resting s.desk.listened → (why : Refusal) → IsConfigured (state_of s.desk s.due) c held e (Err why)
      → (k : KeptState) → k ≡ unswept s.hand.kept → (dropped : List RegionId) → dropped ≡ s.desk.dropped.items → (cells : List Cell) → cells ≡ []
      → ChangesWorld w c (Err why) e k s.hand.words (aside dropped cells)
  refused_so same why is k kept dropped drops cells none =
      subst (λ (v : World). ChangesWorld v c (Err why) e k s.hand.words (aside dropped cells)) f.view
      (refused (resting s.desk.listened) s.hand.kept s.hand.words s.desk.dropped.items f.world refl c able e same held why (is_so (Err why) is) told
      k kept dropped drops cells none)

-- where nothing is due or unfilled and not every pass was swept, only what publishes nothing may happen

pub by_sweeps : (rests swept told publishes : Bool) → rests ≡ true → swept ≡ false → told ≡ publishes → not told ≡ rests && (not publishes || swept)
by_sweeps rests swept told publishes e f g =
    ap not g ∙ sym (or_nothing (not publishes)) ∙ (λ i. sym e i && (not publishes || sym f i))
