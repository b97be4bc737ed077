use Rattle.std.proofs.Common.{rules, ◌≡◌, List, ◌++◌, None, length, All, option_to_list, ap, sym, subst, ◌∙◌}
use Rattle.std.specs.Prelude.{OnOk}
use Rattle.mem_base.specs.views.Listening.{Delivery}
use Rattle.mem_base.specs.script.Race.{block, differs_line}
use Rattle.race_join.proofs.HandedOn.{RecordState}
use Rattle.race_block.specs.Blocks.{CanAct}
use Rattle.race_levels.specs.Ready.{AreReady}
use Rattle.race_levels.specs.Outside.{StopsIn}
use Rattle.race_seats.specs.Ran.{HasRunBlock, known_after_block}
use Rattle.race_seats.proofs.PhaseTextLaws.{blocks_may_stop, blocks_step_on}
use Rattle.race_seats.specs.Seats.{IsKnown, IsTold, names_then}
use Rattle.race_seats.specs.Texts.{actors_said, names_now}
use Rattle.race_seats.proofs.BackLaws.{all_heard, all_own, all_ready}
use Rattle.race_seats.specs.Blocks.{HasRunAll}
use Rattle.race_seats.proofs.BlockLaws.{came_back, has_run, is_told, known_is, known_list, names_same, parts, seated_can_all, steps_on}
use Rattle.race_inside.proofs.blocks.run_in.Goals as goal

pub run_actors-after-requires-clause-ready : goal.run_actors-after-requires-clause-ready
run_actors-after-requires-clause-ready g c κs within =
    subst (λ (z : RecordState). All (CanAct z.seat.cabinet) c.args.seated.actors.items) c.requires.start
    (seated_can_all c.requires.seated.0 c.args.lines.now c.args.desk c.args.seated c.requires.seated.1)

pub add_block-done-requires : goal.add_block-done-requires
add_block-done-requires g c =
    let v : RecordState = c.args.desk in
    let w : RecordState = c.run_actors-after.result.0 in
    let s = c.args.seated in
    let lines = c.args.lines.now in
    let news = c.run_actors-after.new.actors.items in
    let clerks = c.run_actors-after.new.clerks.items in
    let differs = c.run_actors-after.result.1 in
    let r : HasRunAll v w s.actors.items news clerks differs = c.run_actors-after.ensures in
    let same : c.as_slice.result.now ≡ news = c.as_slice.ensures.value in
    record { known = subst (IsKnown s.known.now) (sym same) (parts c.requires.seated.0 lines v w s c.requires.seated.1 news clerks differs r).known }

pub meet-requires-clause-own : goal.meet-requires-clause-own
meet-requires-clause-own g c =
    let v : RecordState = c.args.desk in
    let w : RecordState = c.run_actors-after.result.0 in
    let s = c.args.seated in
    let lines = c.args.lines.now in
    let news = c.run_actors-after.new.actors.items in
    let clerks = c.run_actors-after.new.clerks.items in
    let differs = c.run_actors-after.result.1 in
    let r : HasRunAll v w s.actors.items news clerks differs = c.run_actors-after.ensures in
    let back = came_back c.requires.seated.0 lines v w s c.requires.seated.1 news clerks differs r c.as_slice-3.result.now c.unseat_passes.new.actors.items
    c.unseat_passes.new.cpus.items c.as_slice-3.ensures.value c.unseat_passes.ensures.back in
    all_own lines v w c.unseat_passes.new.cpus.items r.later back.1

pub meet-requires-clause-heard : goal.meet-requires-clause-heard
meet-requires-clause-heard g c =
    let v : RecordState = c.args.desk in
    let w : RecordState = c.run_actors-after.result.0 in
    let s = c.args.seated in
    let lines = c.args.lines.now in
    let news = c.run_actors-after.new.actors.items in
    let clerks = c.run_actors-after.new.clerks.items in
    let differs = c.run_actors-after.result.1 in
    let r : HasRunAll v w s.actors.items news clerks differs = c.run_actors-after.ensures in
    let back = came_back c.requires.seated.0 lines v w s c.requires.seated.1 news clerks differs r c.as_slice-3.result.now c.unseat_passes.new.actors.items
    c.unseat_passes.new.cpus.items c.as_slice-3.ensures.value c.unseat_passes.ensures.back in
    all_heard lines v w c.unseat_passes.new.cpus.items r.later back.1

pub returns-clause-told : goal.returns-clause-told
returns-clause-told g c =
    let v : RecordState = c.args.desk in
    let w : RecordState = c.run_actors-after.result.0 in
    let s = c.args.seated in
    let lines = c.args.lines.now in
    let news = c.run_actors-after.new.actors.items in
    let clerks = c.run_actors-after.new.clerks.items in
    let differs = c.run_actors-after.result.1 in
    let r : HasRunAll v w s.actors.items news clerks differs = c.run_actors-after.ensures in
    let back = came_back c.requires.seated.0 lines v w s c.requires.seated.1 news clerks differs r c.as_slice-3.result.now c.unseat_passes.new.actors.items
    c.unseat_passes.new.cpus.items c.as_slice-3.ensures.value c.unseat_passes.ensures.back in
    let p = parts c.requires.seated.0 lines v w s c.requires.seated.1 news clerks differs r in
    let none : c.pop.result ≡ None → length c.unseat_passes.new.actors.items ≡ 0 = search rules in
    subst (IsTold s.known.now) (sym c.desks_known-desks.ensures) (is_told s.known.now (option_to_list c.pop.result)
    (subst (IsKnown s.known.now) (sym (known_list c.requires.seated.0 lines v w s c.requires.seated.1 news clerks differs r
    c.unseat_passes.new.actors.items c.pop.new.self.items c.pop.result back.0 c.pop.ensures.items none)) p.kept))

pub returns-clause-ready : goal.returns-clause-ready
returns-clause-ready g c =
    let v : RecordState = c.args.desk in
    let w : RecordState = c.run_actors-after.result.0 in
    let s = c.args.seated in
    let lines = c.args.lines.now in
    let news = c.run_actors-after.new.actors.items in
    let clerks = c.run_actors-after.new.clerks.items in
    let differs = c.run_actors-after.result.1 in
    let r : HasRunAll v w s.actors.items news clerks differs = c.run_actors-after.ensures in
    let back = came_back c.requires.seated.0 lines v w s c.requires.seated.1 news clerks differs r c.as_slice-3.result.now c.unseat_passes.new.actors.items
    c.unseat_passes.new.cpus.items c.as_slice-3.ensures.value c.unseat_passes.ensures.back in
    subst (λ (x : RecordState). AreReady x c.meet.new.cpus.items) (sym c.meet.ensures.same)
    (all_ready lines v w c.unseat_passes.new.cpus.items c.meet.new.cpus.items r.later back.1
    c.meet.ensures.count c.meet.ensures.met)

pub returns-clause-step : goal.returns-clause-step
returns-clause-step g c = λ k h.
    let v : RecordState = c.args.desk in
    let w : RecordState = c.run_actors-after.result.0 in
    let s = c.args.seated in
    let lines = c.args.lines.now in
    let news = c.run_actors-after.new.actors.items in
    let clerks = c.run_actors-after.new.clerks.items in
    let differs = c.run_actors-after.result.1 in
    let r : HasRunAll v w s.actors.items news clerks differs = c.run_actors-after.ensures in
    let back = came_back k lines v w s h news clerks differs r c.as_slice-3.result.now c.unseat_passes.new.actors.items
    c.unseat_passes.new.cpus.items c.as_slice-3.ensures.value c.unseat_passes.ensures.back in
    let whole : HasRunBlock k lines v w s.actors.items news clerks differs =
    has_run k lines v w s h news clerks differs r c.unseat_passes.new.cpus.items c.meet.new.cpus.items back.1 c.meet.ensures.met in
    let none : c.pop.result ≡ None → length c.unseat_passes.new.actors.items ≡ 0 = search rules in
    let known : names_then k s.known.now c.desks_known-desks.result ≡ known_after_block k news =
    ap (names_then k s.known.now) c.desks_known-desks.ensures ∙ names_same k s.known.now (option_to_list c.pop.result)
    ∙ known_is k lines v w s h news clerks differs r c.unseat_passes.new.actors.items c.pop.new.self.items c.pop.result back.0 c.pop.ensures.items none in
    let wrote = subst (λ (calls : List Delivery). OnOk c.add_block-done.result (c.add_block-done.new.text ≡ c.args.text.now
    ++ (actors_said (names_now s.known.now c.as_slice.result.now) calls c.as_slice.result.now c.as_slice-2.result.now ++ differs_line differs)))
    c.journal.ensures c.add_block-done.ensures.text in
    steps_on k lines v w c.meet.new.desk s h news c.as_slice.result.now clerks c.as_slice-2.result.now differs r
    (names_then k s.known.now c.desks_known-desks.result)
    c.args.text.now c.add_block-done.new.text c.add_block-done.result c.as_slice.ensures.value c.as_slice-2.ensures.value c.meet.ensures.same known
    c.add_block-done.ensures.lasted wrote (blocks_step_on k lines v w s.actors.items news clerks differs whole)

pub returns-clause-stopped : goal.returns-clause-stopped
returns-clause-stopped g c = λ k h.
    let v : RecordState = c.args.desk in
    let w : RecordState = c.run_actors-after.result.0 in
    let s = c.args.seated in
    let lines = c.args.lines.now in
    let news = c.run_actors-after.new.actors.items in
    let clerks = c.run_actors-after.new.clerks.items in
    let differs = c.run_actors-after.result.1 in
    let r : HasRunAll v w s.actors.items news clerks differs = c.run_actors-after.ensures in
    let back = came_back k lines v w s h news clerks differs r c.as_slice-3.result.now c.unseat_passes.new.actors.items
    c.unseat_passes.new.cpus.items c.as_slice-3.ensures.value c.unseat_passes.ensures.back in
    subst (λ (x : RecordState). StopsIn v k (block lines) x) (sym c.meet.ensures.same)
    (blocks_may_stop k lines v w s.actors.items news clerks differs
    (has_run k lines v w s h news clerks differs r c.unseat_passes.new.cpus.items c.meet.new.cpus.items back.1 c.meet.ensures.met))
