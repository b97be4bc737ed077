-- What is known of names after an order is what the machine has.
use Rattle.std.proofs.Common.{◌≡◌, ◌≢◌, ◌<◌, ◌+◌, ℕ, eq-eqb, ne_eqb, false, [], ◌∷◌, ◌++◌}
use Rattle.std.proofs.Common.{length, length-append, Option, None, Result, Ok, Err, refl, sym, ap, subst, ◌∙◌, arith}
use Rattle.std.specs.Prelude.{is_some, not, ◌==◌}
use Rattle.std.specs.List.{list_any}
use mathlib.Core.Logic.{dite}
use native.Mathlib.Decide.{ℕ_discrete}
use Rattle.mem_base.specs.declared.map.ids.RegionId.{RegionId}
use Rattle.mem_base.specs.declared.map.ids.ListenerId.{ListenerId}
use Rattle.mem_base.specs.declared.map.forests.Forest.{Forest}
use Rattle.mem_base.specs.declared.map.kinds.Kind.{Kind}
use Rattle.mem_base.specs.declared.map.calls.Applied.{Applied}
use Rattle.mem_base.specs.declared.map.calls.Call.{Call}
use Rattle.mem_base.specs.declared.map.calls.Call.TheVariants as calls
use Rattle.mem_base.specs.declared.map.calls.Config.TheVariants as configs
use Rattle.mem_base.specs.declared.map.refusals.Refusal.{Refusal}
use Rattle.mem_base.specs.declared.views.listening.Listener.{Listener}
use Rattle.mem_base.specs.declared.machine.records.DeskOrder.{DeskOrder}
use Rattle.mem_base.specs.declared.machine.records.DeskOrder.TheVariants as orders
use Rattle.mem_base.specs.declared.machine.records.DeskAnswer.{DeskAnswer}
use Rattle.mem_base.specs.declared.machine.records.DeskAnswer.TheVariants as answers
use Rattle.mem_base.specs.map.Region.{node_of}
use Rattle.mem_base.specs.map.Changes.{changed}
use Rattle.mem_base.specs.map.Calls.{counted, is_quiet}
use Rattle.mem_base.specs.views.Listening.{is_listener}
use Rattle.mem_base.specs.machine.Desk.{Desk}
use Rattle.mem_base.specs.machine.Reaps.{is_among}
use Rattle.mem_base.specs.machine.World.{World}
use Rattle.mem_base.specs.machine.Orders.{Order, configure}
use Rattle.mem_base.specs.machine.Answers.{answer_of_config}
use Rattle.mem_base.specs.machine.Composites.{completed}
use Rattle.mem_base.specs.machine.Records.{call_of, told}
use Rattle.mem_base.specs.script.Spelling.{Text}
use Rattle.mem_base.specs.script.WriterSteps.{refusal_in}
use Rattle.mem_base.specs.script.Tasks.{Known, after_order, region_id, with_order}
use Rattle.run_laws.specs.KnownNames.{IsChangeOrder, IsKnownOrder, KnowsNames}
use Rattle.run_laws.specs.LineLaws.{OrdersAreKnown}
use Rattle.run_laws.proofs.DeskLaws.{IsGone, LeavesCall, LeavesListen, LeavesUnlisten, SameMap, any_push, begin_keeps, call_leaves, change_keeps}
use Rattle.run_laws.proofs.DeskLaws.{commit_keeps, dropped_gone, dropped_others, harvest_keeps, listen_leaves, load_keeps, made_others, made_there}
use Rattle.run_laws.proofs.DeskLaws.{notified_keeps, reap_keeps, unlisten_leaves}
use Rattle.std.proofs.lemmas.Bool.{or_right}
use Rattle.mem_base.proofs.BoolLaws.{or_false}

-- the same regions and listeners
pub same_known : (k : Known) (d e : Desk) → SameMap d e → KnowsNames k d → KnowsNames k e
same_known k d e s a = record {
  regions = λ n l. ap (λ (f : Forest). is_some (node_of f.nodes (region_id n))) s.forest ∙ a.regions n l;
  made = ap (λ (f : Forest). f.made) s.forest ∙ a.made;
  dropped = a.dropped;
  listeners = λ n l. ap (list_any (is_listener (record { 0 = n }))) s.listeners ∙ a.listeners n l;
  gone = a.gone;
}

call_known : (k : Known) (d e : Desk) (call : Call) → is_quiet call ≡ false → (e.forest ≡ counted (changed d.forest call))
    × (e.listening.listeners ≡ d.listening.listeners) → KnowsNames k d → KnowsNames k e
call_known k d e call q s a = let r = change_keeps d.forest call q in record {
  regions = λ n l. ap (λ (f : Forest). is_some (node_of f.nodes (region_id n))) s.0 ∙ r.there (region_id n) ∙ a.regions n l;
  made = ap (λ (f : Forest). f.made) s.0 ∙ r.made ∙ a.made;
  dropped = a.dropped;
  listeners = λ n l. ap (list_any (is_listener (record { 0 = n }))) s.1 ∙ a.listeners n l;
  gone = a.gone;
}

made_known : (k : Known) (d e : Desk) (name : Text) (kind : Kind) (size : ℕ)
    → (e.forest ≡ counted (changed d.forest (calls.Region kind size))) × (e.listening.listeners ≡ d.listening.listeners) → KnowsNames k d
    → KnowsNames (with_order k name (orders.Call (calls.Region kind size))) e
made_known k d e name kind size s a =
    let longer : length (k.names.regions ++ name ∷ []) ≡ length k.names.regions + 1 = length-append k.names.regions (name ∷ []) in
    let m : d.forest.made ≡ length k.names.regions = a.made in record {
      regions = λ n l. ap (λ (f : Forest). is_some (node_of f.nodes (region_id n))) s.0 ∙ dite (ℕ_discrete n d.forest.made)
          (λ same. subst (λ (z : ℕ). is_some (node_of (counted (changed d.forest (calls.Region kind size))).nodes (region_id z))
          ≡ not (is_among k.dropped (region_id z))) (sym same)
          (made_there d.forest kind size ∙ sym (ap not (a.dropped d.forest.made (omega arith)))))
          (λ other. made_others d.forest kind size (region_id n) (omega arith) ∙ a.regions n (omega arith));
      made = ap (λ (f : Forest). f.made) s.0 ∙ ap (λ (z : ℕ). z + 1) m ∙ sym longer;
      dropped = λ n l. a.dropped n (omega arith);
      listeners = λ n l. ap (list_any (is_listener (record { 0 = n }))) s.1 ∙ a.listeners n l;
      gone = a.gone;
    }

dropped_known : (k : Known) (d e : Desk) (name : Text) (region : RegionId) → region.0 < length k.names.regions
    → (e.forest ≡ counted (changed d.forest (calls.Drop region))) × (e.listening.listeners ≡ d.listening.listeners) → KnowsNames k d
    → KnowsNames (with_order k name (orders.Call (calls.Drop region))) e
dropped_known k d e name region near s a = record {
  regions = λ n l. ap (λ (f : Forest). is_some (node_of f.nodes (region_id n))) s.0 ∙ dite (ℕ_discrete n region.0)
      (λ same. subst (λ (z : ℕ). is_some (node_of (counted (changed d.forest (calls.Drop region))).nodes (region_id z))
      ≡ not (is_among (k.dropped ++ region ∷ []) (region_id z))) (sym same)
      (dropped_gone d.forest region
      ∙ sym (ap not (any_push (λ (r : RegionId). r.0 == region.0) k.dropped region
      ∙ or_right (is_among k.dropped region) (region.0 == region.0) (eq-eqb region.0 region.0 refl)))))
      (λ other. dropped_others d.forest region (region_id n) other ∙ a.regions n l
      ∙ sym (ap not (still n other)));
  made = ap (λ (f : Forest). f.made) s.0 ∙ a.made;
  dropped = λ n l. still n (λ same. omega (arith, same, near, l)) ∙ a.dropped n l;
  listeners = λ n l. ap (list_any (is_listener (record { 0 = n }))) s.1 ∙ a.listeners n l;
  gone = a.gone;
}
  where
    still : (n : ℕ) → n ≢ region.0 → is_among (k.dropped ++ region ∷ []) (region_id n) ≡ is_among k.dropped (region_id n)
    still n other = any_push (λ (r : RegionId). r.0 == n) k.dropped region
        ∙ or_false (is_among k.dropped (region_id n)) (region.0 == n) (ne_eqb region.0 n (λ same. other (sym same)))

listened_known : (k : Known) (d e : Desk) (name : Text) (l : Listener) → l.listener.0 ≡ length k.names.listeners
    → (e.forest ≡ d.forest) × (e.listening.listeners ≡ d.listening.listeners ++ l ∷ []) → KnowsNames k d
    → KnowsNames (with_order k name (orders.Listen l.listener l.space l.priority)) e
listened_known k d e name l is s a =
    let longer : length (k.names.listeners ++ name ∷ []) ≡ length k.names.listeners + 1 = length-append k.names.listeners (name ∷ []) in record {
      regions = λ n m. ap (λ (f : Forest). is_some (node_of f.nodes (region_id n))) s.0 ∙ a.regions n m;
      made = ap (λ (f : Forest). f.made) s.0 ∙ a.made;
      dropped = a.dropped;
      listeners = λ n m. ap (list_any (is_listener (record { 0 = n }))) s.1
          ∙ any_push (is_listener (record { 0 = n })) d.listening.listeners l
          ∙ dite (ℕ_discrete n l.listener.0)
          (λ same. or_right (list_any (is_listener (record { 0 = n })) d.listening.listeners) (l.listener.0 == n) (eq-eqb l.listener.0 n (sym same))
          ∙ sym (ap not (a.gone n (omega arith))))
          (λ other. or_false (list_any (is_listener (record { 0 = n })) d.listening.listeners) (l.listener.0 == n)
          (ne_eqb l.listener.0 n (λ same. other (sym same))) ∙ a.listeners n (omega arith));
      gone = λ n m. a.gone n (omega arith);
    }

left_known : (k : Known) (d e : Desk) (name : Text) (id : ListenerId) → id.0 < length k.names.listeners → IsGone d id e → KnowsNames k d
    → KnowsNames (with_order k name (orders.Unlisten id)) e
left_known k d e name id near s a = record {
  regions = λ n m. ap (λ (f : Forest). is_some (node_of f.nodes (region_id n))) s.forest ∙ a.regions n m;
  made = ap (λ (f : Forest). f.made) s.forest ∙ a.made;
  dropped = a.dropped;
  listeners = λ n m. dite (ℕ_discrete n id.0)
      (λ same. subst (λ (z : ℕ). list_any (is_listener (record { 0 = z })) e.listening.listeners
      ≡ not (list_any (λ (g : ListenerId). g.0 == z) (k.gone ++ id ∷ []))) (sym same)
      (s.gone ∙ sym (ap not (any_push (λ (g : ListenerId). g.0 == id.0) k.gone id
      ∙ or_right (list_any (λ (g : ListenerId). g.0 == id.0) k.gone) (id.0 == id.0) (eq-eqb id.0 id.0 refl)))))
      (λ other. s.others (record { 0 = n }) other ∙ a.listeners n m ∙ sym (ap not (still n other)));
  gone = λ n m. still n (λ same. omega (arith, same, near, m)) ∙ a.gone n m;
}
  where
    still : (n : ℕ) → n ≢ id.0 → list_any (λ (g : ListenerId). g.0 == n) (k.gone ++ id ∷ []) ≡ list_any (λ (g : ListenerId). g.0 == n) k.gone
    still n other = any_push (λ (g : ListenerId). g.0 == n) k.gone id
        ∙ or_false (list_any (λ (g : ListenerId). g.0 == n) k.gone) (id.0 == n) (ne_eqb id.0 n (λ same. other (sym same)))

-- an order that is no call of the map, and lets nobody join or leave
pub after_same : (k : Known) (name : Text) (order : DeskOrder) (x : DeskAnswer) → with_order k name order ≡ k → after_order k name order x ≡ k
after_same k name order (answers.Refused why) e = refl
after_same k name order x e = e

module _ (k : Known) (w : World) (a : KnowsNames k w.writer.desk) where
  abbrev desk_at : Order → Desk
  desk_at o = (completed w o).world.writer.desk

  abbrev Keeps : Text → DeskOrder → Type 0
  Keeps name order = KnowsNames (after_order k name order (told (completed w (call_of order)).answer)) (desk_at (call_of order))

  plainly : (name : Text) (order : DeskOrder) → with_order k name order ≡ k → SameMap w.writer.desk (desk_at (call_of order)) → Keeps name order
  plainly name order e s = subst (λ (h : Known). KnowsNames h (desk_at (call_of order)))
      (sym (after_same k name order (told (completed w (call_of order)).answer) e)) (same_known k w.writer.desk (desk_at (call_of order)) s a)

  accepted : (name : Text) (call : Call) (e : Desk) → IsKnownOrder k (orders.Call call)
      → (e.forest ≡ counted (changed w.writer.desk.forest call)) × (e.listening.listeners ≡ w.writer.desk.listening.listeners)
      → KnowsNames (with_order k name (orders.Call call)) e
  accepted name (calls.Region kind size) e i s = made_known k w.writer.desk e name kind size s a
  accepted name (calls.Drop region) e i s = dropped_known k w.writer.desk e name region i s a
  accepted name (calls.Space space root) e i s = let h = call_known k w.writer.desk e (calls.Space space root) refl s a in
      record { regions = h.regions; made = h.made; dropped = h.dropped; listeners = h.listeners; gone = h.gone }
  accepted name call e i s = call_known k w.writer.desk e call refl s a

  pub calling : (name : Text) (call : Call) → IsKnownOrder k (orders.Call call) → (r : Result Applied Refusal) (number : Option ℕ) (e : Desk)
      → LeavesCall w.writer.desk call e (refusal_in (answer_of_config (configs.Call call) r number))
      → KnowsNames (after_order k name (orders.Call call) (told (answer_of_config (configs.Call call) r number))) e
  calling name call i (Err why) number e l = same_known k w.writer.desk e l a
  calling name call i (Ok x) number e l = accepted name call e i l

  pub listening : (name : Text) (l : Listener) → l.listener.0 ≡ length k.names.listeners → (r : Result Applied Refusal) (number : Option ℕ) (e : Desk)
      → LeavesListen w.writer.desk l e (refusal_in (answer_of_config (configs.Listen l.listener l.space l.priority) r number))
      → KnowsNames (after_order k name (orders.Listen l.listener l.space l.priority)
      (told (answer_of_config (configs.Listen l.listener l.space l.priority) r number))) e
  listening name l i (Err why) number e m = same_known k w.writer.desk e m a
  listening name l i (Ok x) number e m = listened_known k w.writer.desk e name l i m a

  pub leaving : (name : Text) (id : ListenerId) → id.0 < length k.names.listeners → (r : Result Applied Refusal) (number : Option ℕ) (e : Desk)
      → LeavesUnlisten w.writer.desk id e (refusal_in (answer_of_config (configs.Unlisten id) r number))
      → KnowsNames (after_order k name (orders.Unlisten id) (told (answer_of_config (configs.Unlisten id) r number))) e
  leaving name id i (Err why) number e m = same_known k w.writer.desk e m a
  leaving name id i (Ok x) number e m = left_known k w.writer.desk e name id i m a

  desk_keeps : (order : DeskOrder) (name : Text) → IsKnownOrder k order → Keeps name order
  desk_keeps orders.Begin name i = plainly name orders.Begin refl (begin_keeps w)
  desk_keeps (orders.Call call) name i = calling name call i _ _ (desk_at (configure (configs.Call call))) (call_leaves w call)
  desk_keeps orders.Commit name i = plainly name orders.Commit refl (commit_keeps w)
  desk_keeps orders.Reap name i = plainly name orders.Reap refl (reap_keeps w)
  desk_keeps (orders.Listen listener space priority) name i =
      let l : Listener = record { listener = listener; space = space; priority = priority } in
      listening name l i _ None (desk_at (configure (configs.Listen listener space priority))) (listen_leaves w l)
  desk_keeps (orders.Unlisten id) name i = leaving name id i _ None (desk_at (configure (configs.Unlisten id))) (unlisten_leaves w id)
  desk_keeps (orders.Load region offset bytes) name i = plainly name (orders.Load region offset bytes) refl (load_keeps w region offset bytes)
  desk_keeps (orders.Harvest region client) name i = plainly name (orders.Harvest region client) refl (harvest_keeps w region client)
  desk_keeps (orders.Notified number) name i = plainly name (orders.Notified number) refl (notified_keeps w number)
  desk_keeps orders.Look name i = plainly name orders.Look refl (record { forest = refl; listeners = refl })

  pub changing : (call : Call) → is_quiet call ≡ false → (r : Result Applied Refusal) (number : Option ℕ) (e : Desk)
      → LeavesCall w.writer.desk call e (refusal_in (answer_of_config (configs.Call call) r number)) → KnowsNames k e
  changing call q (Err why) number e l = same_known k w.writer.desk e l a
  changing call q (Ok x) number e l = call_known k w.writer.desk e call q l a

  pass_keeps : (order : DeskOrder) → IsChangeOrder order → KnowsNames k (desk_at (call_of order))
  pass_keeps (orders.Call call) q = changing call q _ _ (desk_at (configure (configs.Call call))) (call_leaves w call)
  pass_keeps order q = absurd q

pub orders_are_known : OrdersAreKnown
orders_are_known k w order a = record { desk = λ name i. desk_keeps k w a order name i; pass = pass_keeps k w a order }
