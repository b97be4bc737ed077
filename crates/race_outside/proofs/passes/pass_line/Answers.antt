use Rattle.std.proofs.Common.{ℕ, ◌<◌, [], IfOk, OnErr, refl, subst, sym, ◌∙◌}
use Rattle.mem_base.specs.map.Limits.{most_passes}
use Rattle.mem_base.specs.script.Race.{alone}
use Rattle.mem_base.specs.script.RaceLines.{said_text}
use Rattle.mem_base.specs.script.Scripts.{Line}
use Rattle.desk_orders.specs.Records.{RecordState}
use Rattle.desk_orders.proofs.RecordLaws.{later_joins}
use Rattle.race_lines.specs.PassLines.{said_of}
use Rattle.race_outside.specs.Passes.{HasDoneLine, HasDoneNothing}
use Rattle.race_outside.proofs.PassLaws.{between_ready, done_between, done_steps, either_way, nothing_between, nothing_steps, others_heard, steps_written, still_own}
use Rattle.race_levels.proofs.StoppingLaws.{lost_stops, nothing_stops}
use Rattle.race_outside.proofs.passes.pass_line.Goals as goal
use Rattle.mem_base.proofs.OptionLaws.{on_failure}

pub returns-in_default-clause-stopped : goal.returns-in_default-clause-stopped
returns-in_default-clause-stopped g c =
    nothing_stops c.args.desk.now c.args.desk.now c.args.known.now (alone (c.args.number, c.args.command.now)) refl

pub settle-requires : goal.settle-requires
settle-requires g c =
    let v : RecordState = c.args.desk.now in
    let m : RecordState = c.do_line-bounce.new.desk in
    let who : ℕ = c.number-who.result in
    let few = c.number-who.ensures.bound in
    let did = c.do_line-bounce.ensures in
    let olds = c.args.cpus.now.items in
    let between = c.do_line-bounce.new.cpus.items in
    let x = either_way c.do_line-bounce.result.1 did.done did.err
    (λ said h. done_between v m who olds between few c.requires.ready c.in-Ok.task said h)
    (nothing_between v m who olds between few c.requires.ready) in
    let ready = c.requires.ready in record {
      near = subst (λ (n : ℕ). who < n) (sym (x.changed.count ∙ ready.all)) few;
      own = still_own v m who olds between few ready m x did.later.grew.cabinet;
      others = others_heard v m who olds between few ready x did.later.grew.seen;
    }

pub returns-clause-ready : goal.returns-clause-ready
returns-clause-ready g c =
    let v : RecordState = c.args.desk.now in
    let m : RecordState = c.do_line-bounce.new.desk in
    let who : ℕ = c.number-who.result in
    let few = c.number-who.ensures.bound in
    let did = c.do_line-bounce.ensures in
    let olds = c.args.cpus.now.items in
    let between = c.do_line-bounce.new.cpus.items in
    let x = either_way c.do_line-bounce.result.1 did.done did.err
    (λ said h. done_between v m who olds between few c.requires.ready c.in-Ok.task said h)
    (nothing_between v m who olds between few c.requires.ready) in
    between_ready v m who olds between few c.requires.ready c.settle.new.desk c.settle.new.cpus.items c.settle.ensures.settled x did.later.grew.cabinet

pub returns-clause-later : goal.returns-clause-later
returns-clause-later g c = later_joins c.args.desk.now c.do_line-bounce.new.desk c.settle.new.desk c.do_line-bounce.ensures.later
    (record { given = []; grew = c.settle.ensures.settled.grew })

pub returns-clause-step : goal.returns-clause-step
returns-clause-step g c =
    let v : RecordState = c.args.desk.now in
    let m : RecordState = c.do_line-bounce.new.desk in
    let w : RecordState = c.settle.new.desk in
    let k = c.args.known.now in
    let line : Line = (c.args.number, c.args.command.now) in
    let is = c.number-who.ensures.value in
    let few : c.args.pass.0 < most_passes = subst (λ (n : ℕ). n < most_passes) is c.number-who.ensures.bound in
    let olds = c.args.cpus.now.items in
    let between = c.do_line-bounce.new.cpus.items in
    steps_written v w k (alone line) w.part.desk.listening.journal c.args.pass c.args.number c.args.text.now c.write_line-done.new.text
    c.write_line-done.result c.do_line-bounce.result.1 c.write_line-done.ensures.written
    (subst (λ (n : ℕ). IfOk c.do_line-bounce.result.1 (λ said. HasDoneLine n v olds c.in-Ok.task said m between)) is c.do_line-bounce.ensures.done)
    (λ said h. done_steps v m c.args.pass.0 olds between few c.requires.ready w c.settle.new.cpus.items c.settle.ensures.settled k line c.in-Ok.task said
    c.requires.actor c.requires.fits c.in-Ok.ensures h)

pub returns-clause-stopped : goal.returns-clause-stopped
returns-clause-stopped g c =
    let v : RecordState = c.args.desk.now in
    let m : RecordState = c.do_line-bounce.new.desk in
    let w : RecordState = c.settle.new.desk in
    let k = c.args.known.now in
    let line : Line = (c.args.number, c.args.command.now) in
    let is = c.number-who.ensures.value in
    let few : c.args.pass.0 < most_passes = subst (λ (n : ℕ). n < most_passes) is c.number-who.ensures.bound in
    let olds = c.args.cpus.now.items in
    let between = c.do_line-bounce.new.cpus.items in
    on_failure c.write_line-done.result _ (either_way c.do_line-bounce.result.1
    (subst (λ (n : ℕ). IfOk c.do_line-bounce.result.1 (λ said. HasDoneLine n v olds c.in-Ok.task said m between)) is c.do_line-bounce.ensures.done)
    (subst (λ (n : ℕ). OnErr c.do_line-bounce.result.1 (HasDoneNothing n v olds m between)) is c.do_line-bounce.ensures.err)
    (λ said h. lost_stops v w k k (alone line) (said_text k.names w.part.desk.listening.journal (said_of k.names c.args.pass c.args.number said))
    (done_steps v m c.args.pass.0 olds between few c.requires.ready w c.settle.new.cpus.items c.settle.ensures.settled k line c.in-Ok.task said
    c.requires.actor c.requires.fits c.in-Ok.ensures h))
    (nothing_steps v m c.args.pass.0 olds between few c.requires.ready w c.settle.new.cpus.items c.settle.ensures.settled k line c.requires.actor))
