-- Worlds to which legal histories lead.
use Rattle.std.proofs.Common.{◌≡◌, ℕ, ◌+◌, ◌<◌, ◌≤◌, true, arith, length-set, get_or-set_same, ltb-true}
use Rattle.std.proofs.Common.{List, [], ◌∷◌, refl, sym, ap, subst, ◌∙◌}
use Rattle.std.proofs.lemmas.List.{length-replicate}
use Rattle.std.specs.Prelude.{length, replicate, nat_lt, is_some, is_none}
use Rattle.mem_base.specs.map.PassIds.{PassId}
use Rattle.mem_base.specs.declared.machine.events.Event.TheVariants as events
use Rattle.mem_base.specs.declared.machine.events.Event.{Event}
use Rattle.mem_base.specs.machine.Passes.{PassState, pass_of, pass_after, with_pass, idle}
use Rattle.mem_base.specs.machine.World.{World, world, possible, reply, world_after, opening}
use Rattle.mem_base.specs.machine.History.{pure_entry, IsOrderly}
use Rattle.history_laws.proofs.OrderLaws.{order}
use Rattle.mem_base.specs.access.Cells.{Block}
use Rattle.mem_base.specs.access.Places.{notifiers_place}
use Rattle.mem_base.specs.map.Calls.{empty}
use Rattle.mem_base.specs.map.Limits.{notifier_count}
use Rattle.mem_base.specs.machine.Reaps.{first_writer}
use Rattle.generation.specs.Published.{published}
use Rattle.place_words.specs.Blocks.{AreWithin}
use Rattle.place_words.proofs.CellLaws.{first_zero}
use Rattle.mem_base.specs.machine.Publishing.{current_forest}
use Rattle.kept_generations.specs.KeptState.{KeptState, first_kept, generations_of, with_states}
use Rattle.writer_desk.specs.Writers.{WriterState, first_state}
use Rattle.world_core.specs.Worlds.{Aside, aside, world_of, IsWorld}
use Rattle.world_hand.specs.Reached.{IsReached}
use Rattle.world_hand.proofs.Completing.{reached_on}
use Rattle.world_laws.proofs.PassKeeping.{not_entered}
use Rattle.std.proofs.lemmas.Bool.{and_parts, and_from}

-- a possible event leads on
pub reached_after : (w : World) (e : Event) → IsReached w → possible w e ≡ true → IsReached (world_after w e)
reached_after w e r may = reached_on w (pure_entry e (reply w e) ∷ []) (world_after w e) r (may, refl, tt) refl

pub reached_first : (pool_words passes : ℕ) → IsReached (opening pool_words passes)
reached_first pool_words passes = record { pool_words = pool_words; passes = passes; taken = []; entries = []; legal = tt; leads = refl }

pub reached_is_orderly : (w : World) → IsReached w → IsOrderly w
reached_is_orderly w r = subst IsOrderly r.leads (order r.pool_words r.passes r.entries r.legal)

-- an event on the numbers of a pass changes the states of passes alone
pub passes_change : (d : WriterState) (k l : KeptState) (ws : List ℕ) (x : Aside) (states : List PassState) (e : Event) → IsWorld d k ws x
    → l ≡ with_states k states → possible (world_of d k ws x) e ≡ true → world_of d l ws x ≡ world_after (world_of d k ws x) e → IsWorld d l ws x
passes_change d k l ws x states e h is may goes = record {
  reached = subst IsReached (sym goes) (reached_after (world_of d k ws x) e h.reached may);
  current = ap (λ (m : KeptState). current_forest (generations_of m)) is ∙ h.current;
  number = h.number ∙ sym (ap (λ (m : KeptState). m.current) is);
  ready = h.ready;
  wide = h.wide;
}

-- a pass that looked and then announced may enter
pub may_enter : (w : World) (pass : PassId) → IsReached w → possible w (events.Look pass) ≡ true
    → possible (world_after (world_after w (events.Look pass)) (events.Announce pass)) (events.Enter pass) ≡ true
may_enter w pass r may =
    let t = and_parts _ _ may in
    let near : pass.0 < length w.passes = ltb-true pass.0 (length w.passes) t.0 in
    let p = pass_of w.passes pass in
    let looked : PassState = pass_after p (events.Look pass) w.writer.generations.current in
    let first = with_pass w.passes pass looked in
    let announced : PassState = pass_after (pass_of first pass) (events.Announce pass) 0 in
    let second = with_pass first pass announced in
    let long : length first ≡ length w.passes = length-set w.passes pass.0 looked in
    let longer : length second ≡ length first = length-set first pass.0 announced in
    let one : pass_of first pass ≡ looked = get_or-set_same w.passes pass.0 looked idle near in
    let two : pass_of second pass ≡ announced = get_or-set_same first pass.0 announced idle (omega (arith, near, long)) in
    let there : nat_lt pass.0 (length second) ≡ true = ap (λ (n : ℕ). nat_lt pass.0 n) (longer ∙ long) ∙ t.0 in
    let told : is_some (pass_of second pass).announced ≡ true =
    ap (λ (q : PassState). is_some q.announced) two ∙ ap (λ (q : PassState). is_some q.looked) one in
    let out : is_none p.entered ≡ true = not_entered p (λ n e. let k = ((reached_is_orderly w r).each pass near).entered n e in (k.0, k.1)) t.1 in
    and_from _ _ (and_from _ _ there told) (ap (λ (q : PassState). is_none q.entered) two ∙ ap (λ (q : PassState). is_none q.entered) one ∙ out)

-- the parts at first make the first world
pub parts_at_first : (pool_words passes : ℕ) → world_of (first_state pool_words) (first_kept passes (published 0 empty []))
    (replicate (pool_words + notifier_count) 0) (aside [] []) ≡ opening pool_words passes
parts_at_first pool_words passes =
    let within : AreWithin (pool_words + notifier_count) (notifiers_place pool_words ∷ []) =
    ((let l : pool_words + notifier_count ≤ pool_words + notifier_count = omega arith in l), tt) in
    ap (λ (bs : List Block). world (first_writer pool_words passes) (replicate passes idle) bs)
    (sym (first_zero (pool_words + notifier_count) (notifiers_place pool_words ∷ []) within))

pub world_at_first : (pool_words passes : ℕ) → IsWorld (first_state pool_words) (first_kept passes (published 0 empty []))
    (replicate (pool_words + notifier_count) 0) (aside [] [])
world_at_first pool_words passes = record {
  reached = subst IsReached (sym (parts_at_first pool_words passes)) (reached_first pool_words passes);
  current = refl;
  number = refl;
  ready = tt;
  wide = length-replicate (pool_words + notifier_count) 0;
}
