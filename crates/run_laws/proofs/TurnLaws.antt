-- What is known of names after a turn on the running machine is what its desk has, whatever passes do in between.
use Rattle.std.proofs.Common.{◌≡◌, ℕ, List, [], ◌∷◌, None, refl, sym, subst}
use Rattle.std.specs.Prelude.{drop}
use Rattle.mem_base.specs.declared.map.ids.ListenerId.{ListenerId}
use Rattle.mem_base.specs.declared.map.calls.Call.{Call}
use Rattle.mem_base.specs.declared.map.calls.Config.{Config}
use Rattle.mem_base.specs.declared.map.calls.Config.TheVariants as configs
use Rattle.mem_base.specs.declared.views.listening.Listener.{Listener}
use Rattle.mem_base.specs.declared.machine.events.Event.{Event}
use Rattle.mem_base.specs.declared.machine.records.DeskOrder.{DeskOrder}
use Rattle.mem_base.specs.declared.machine.records.DeskOrder.TheVariants as orders
use Rattle.mem_base.specs.lists.Every.{Every}
use Rattle.mem_base.specs.machine.Desk.{Desk, carried_by}
use Rattle.mem_base.specs.machine.Reaps.{Writer}
use Rattle.mem_base.specs.machine.Configs.{begun, committed, configured, writer_after}
use Rattle.mem_base.specs.machine.World.{World, world}
use Rattle.mem_base.specs.machine.Orders.{Order, configure, reap, load, harvest, notified, events_before, private_of, events_after}
use Rattle.mem_base.specs.machine.Answers.{first_or_zero, number_due}
use Rattle.mem_base.specs.machine.Turns.{after_private, played, turn}
use Rattle.mem_base.specs.machine.Records.{call_of, told}
use Rattle.mem_base.specs.script.Spelling.{Text}
use Rattle.mem_base.specs.script.WriterSteps.{refusal_in}
use Rattle.mem_base.specs.script.Tasks.{Known, after_order, with_order}
use Rattle.run_laws.specs.KnownNames.{IsChangeOrder, IsKnownOrder, KnowsNames}
use Rattle.run_laws.specs.LineLaws.{TurnsKeepNames}
use Rattle.run_laws.proofs.DeskLaws.{Configures, IsPlain, LeavesCall, LeavesListen, LeavesUnlisten, SameMap, begin_same, called_left, commit_same, err_in}
use Rattle.run_laws.proofs.DeskLaws.{leaves_same, listen_left, listen_same, plain_after, plain_before, refused_config, same_map, then_same}
use Rattle.run_laws.proofs.DeskLaws.{unlisten_left, unlisten_same}
use Rattle.run_laws.proofs.KnowingLaws.{after_same, calling, changing, leaving, listening, same_known}

-- a writer's part as a world without passes and cells
abbrev bare : Writer → World
bare h = world h [] []

played_same : (es : List Event) → Every IsPlain es → (h : Writer) (ns : List ℕ) → SameMap h.desk (played h es ns).writer.desk
played_same [] p h ns = same_map h.desk
played_same (e ∷ es) p h ns =
    let v : Writer = writer_after h e (carried_by h.desk e) (first_or_zero ns) in
    then_same h.desk v.desk (played v es (drop 1 ns)).writer.desk (p.0 (bare h)) (played_same es p.1 v (drop 1 ns))

module _ (h : Writer) (ns : List ℕ) where
  abbrev after_turn : Order → Desk
  after_turn o = (turn h o ns).writer.desk

  configures : (c : Config) → Configures (bare h) c (bare (turn h (configure c) ns).writer) (refusal_in (turn h (configure c) ns).answer)
  configures c =
      let before = played h (events_before h (configure c)) ns in
      let middle : Writer = after_private before.writer (private_of (configure c)) in record {
        generations = before.writer.generations;
        desk = before.writer.desk;
        before = played_same (events_before h (configure c)) (plain_before h (configure c)) h ns;
        refusal = refused_config c (configured before.writer.generations before.writer.desk c).answer (number_due middle);
        after = let later = played_same (events_after middle (configure c)) (plain_after middle (configure c)) middle before.replies in
            record { forest = later.forest; listeners = later.listeners };
      }

  -- a turn without a call of the map, and without a listener that joins or leaves

  begin_turn : SameMap h.desk (after_turn (configure configs.Begin))
  begin_turn = let k = configures configs.Begin in then_same h.desk k.desk _ k.before (then_same k.desk (begun k.desk).desk _ (begin_same k.desk) k.after)

  commit_turn : SameMap h.desk (after_turn (configure configs.Commit))
  commit_turn = let k = configures configs.Commit in
      then_same h.desk k.desk _ k.before (then_same k.desk (committed k.generations k.desk).desk _ (commit_same k.generations k.desk) k.after)

  reap_turn : SameMap h.desk (after_turn reap)
  reap_turn = let k = played_same (events_before h reap) (plain_before h reap) h ns in record { forest = k.forest; listeners = k.listeners }

  module _ (k : Known) (a : KnowsNames k h.desk) where
    abbrev Keeps : Text → DeskOrder → Type 0
    Keeps name order = KnowsNames (after_order k name order (told (turn h (call_of order) ns).answer)) (after_turn (call_of order))

    plainly : (name : Text) (order : DeskOrder) → with_order k name order ≡ k → SameMap h.desk (after_turn (call_of order)) → Keeps name order
    plainly name order e s = subst (λ (g : Known). KnowsNames g (after_turn (call_of order)))
        (sym (after_same k name order (told (turn h (call_of order) ns).answer) e)) (same_known k h.desk (after_turn (call_of order)) s a)

    call_left : (call : Call) → let o = configure (configs.Call call) in LeavesCall h.desk call (after_turn o) (refusal_in (turn h o ns).answer)
    call_left call =
        let c = configures (configs.Call call) in
        let s = configured c.generations c.desk (configs.Call call) in
        subst (LeavesCall h.desk call (after_turn (configure (configs.Call call)))) (sym c.refusal)
        (leaves_same h.desk c.desk s.desk (after_turn (configure (configs.Call call))) call (err_in s.answer) c.before c.after
        (called_left c.generations c.desk call))

    listen_turn : (l : Listener) → let o = configure (configs.Listen l.listener l.space l.priority) in
        LeavesListen h.desk l (after_turn o) (refusal_in (turn h o ns).answer)
    listen_turn l =
        let o = configs.Listen l.listener l.space l.priority in
        let c = configures o in
        let s = configured c.generations c.desk o in
        subst (LeavesListen h.desk l (after_turn (configure o))) (sym c.refusal)
        (listen_same h.desk c.desk s.desk (after_turn (configure o)) l (err_in s.answer) c.before c.after (listen_left c.generations c.desk l))

    unlisten_turn : (id : ListenerId) → let o = configure (configs.Unlisten id) in LeavesUnlisten h.desk id (after_turn o) (refusal_in (turn h o ns).answer)
    unlisten_turn id =
        let o = configs.Unlisten id in
        let c = configures o in
        let s = configured c.generations c.desk o in
        subst (LeavesUnlisten h.desk id (after_turn (configure o))) (sym c.refusal)
        (unlisten_same h.desk c.desk s.desk (after_turn (configure o)) id (err_in s.answer) c.before c.after (unlisten_left c.generations c.desk id))

    pub turn_knows : (order : DeskOrder) (name : Text) → IsKnownOrder k order → Keeps name order
    turn_knows orders.Begin name i = plainly name orders.Begin refl begin_turn
    turn_knows (orders.Call call) name i = calling k (bare h) a name call i _ _ (after_turn (configure (configs.Call call))) (call_left call)
    turn_knows orders.Commit name i = plainly name orders.Commit refl commit_turn
    turn_knows orders.Reap name i = plainly name orders.Reap refl reap_turn
    turn_knows (orders.Listen listener space priority) name i =
        let l : Listener = record { listener = listener; space = space; priority = priority } in
        listening k (bare h) a name l i _ None (after_turn (configure (configs.Listen listener space priority))) (listen_turn l)
    turn_knows (orders.Unlisten id) name i = leaving k (bare h) a name id i _ None (after_turn (configure (configs.Unlisten id))) (unlisten_turn id)
    turn_knows (orders.Load region offset bytes) name i = plainly name (orders.Load region offset bytes) refl
        (let o = load region offset bytes in played_same (events_after h o) (plain_after h o) h ns)
    turn_knows (orders.Harvest region client) name i = plainly name (orders.Harvest region client) refl
        (let o = harvest region client in played_same (events_after h o) (plain_after h o) h ns)
    turn_knows (orders.Notified number) name i = plainly name (orders.Notified number) refl
        (let o = notified number in played_same (events_after h o) (plain_after h o) h ns)
    turn_knows orders.Look name i = plainly name orders.Look refl (same_map h.desk)

    pub change_knows : (order : DeskOrder) → IsChangeOrder order → KnowsNames k (after_turn (call_of order))
    change_knows (orders.Call call) q = changing k (bare h) a call q _ _ (after_turn (configure (configs.Call call))) (call_left call)
    change_knows order q = absurd q

pub turns_keep_names : TurnsKeepNames
turns_keep_names k h order replies a = record { desk = λ name i. turn_knows h replies k a order name i; pass = change_knows h replies k a order }
