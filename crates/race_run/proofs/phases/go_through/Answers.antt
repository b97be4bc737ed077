use Rattle.std.proofs.Common.{◌++◌, ◌∙◌, ap, map, subst, sym}
use Rattle.mem_base.specs.declared.script.places.Section.TheVariants.{Start}
use Rattle.mem_base.specs.script.Race.{phases_of}
use Rattle.race_laws.specs.Outside.{block_of, phases_alone}
use Rattle.race_phases.specs.Plain.{whose_line}
use Rattle.run_laws.specs.Fitting.{AreFitting, FitsCommand}
use Rattle.run_laws.proofs.FittingLaws.{sound_fits}
use Rattle.race_run.proofs.LineLaws.{in_parts, phases_are}
use Rattle.race_run.proofs.RacingLaws.{goes_first_fault, goes_second_fault, goes_three}
use Rattle.race_run.proofs.phases.go_through.Goals as goal

pub parts_of-parts-requires-clause-whose : goal.parts_of-parts-requires-clause-whose
parts_of-parts-requires-clause-whose g c = c.actors.ensures ∙ ap (map whose_line) (sym c.lines.ensures.value)

pub go_lines-bounce-requires-clause-fits : goal.go_lines-bounce-requires-clause-fits
go_lines-bounce-requires-clause-fits g c =
    let p = c.parts_of-parts.result in
    (in_parts (λ line. FitsCommand line.1) c.lines.result.now p.before.now p.block.now p.after.now c.parts_of-parts.ensures.lines
    (subst AreFitting (sym c.lines.ensures.value) (sound_fits Start c.args.script.now c.lines.ensures.sound))).before_it

pub returns-in-Err-clause-fits : goal.returns-in-Err-clause-fits
returns-in-Err-clause-fits g c = sound_fits Start c.args.script.now c.lines.ensures.sound

pub returns-in-Err-clause-goes : goal.returns-in-Err-clause-goes
returns-in-Err-clause-goes g c =
    let p = c.parts_of-parts.result in
    goes_first_fault g.S.Sink.written g.S.Sink.holds g.S.Sink.faults c.args.sink.now c.go_lines-bounce.new.sink (phases_alone p.before.now)
    (block_of p.block.now) (phases_alone p.after.now) (phases_of c.args.script.now) c.args.racer c.go_lines-bounce.new.racer c.go_lines-bounce.result.1 c.in-Err.fault c.in-Err.is
    (phases_are c.args.script.now c.lines.result.now (phases_alone p.before.now ++ (block_of p.block.now ++ phases_alone p.after.now))
    c.lines.ensures.value c.parts_of-parts.ensures.phases) c.go_lines-bounce.ensures.goes

pub go_block-racer-requires-clause-fits : goal.go_block-racer-requires-clause-fits
go_block-racer-requires-clause-fits g c = λ κs l.
    let p = c.parts_of-parts.result in
    (in_parts (λ line. FitsCommand line.1) c.lines.result.now p.before.now p.block.now p.after.now c.parts_of-parts.ensures.lines
    (subst AreFitting (sym c.lines.ensures.value) (sound_fits Start c.args.script.now c.lines.ensures.sound))).in_it

pub returns-in-Err-done-clause-fits : goal.returns-in-Err-done-clause-fits
returns-in-Err-done-clause-fits g c = sound_fits Start c.args.script.now c.lines.ensures.sound

pub returns-in-Err-done-clause-goes : goal.returns-in-Err-done-clause-goes
returns-in-Err-done-clause-goes g c =
    let p = c.parts_of-parts.result in
    goes_second_fault g.S.Sink.written g.S.Sink.holds g.S.Sink.faults c.args.sink.now c.go_lines-bounce.new.sink c.go_block-racer.new.sink
    (phases_alone p.before.now) (block_of p.block.now) (phases_alone p.after.now) (phases_of c.args.script.now) c.args.racer c.go_lines-bounce.new.racer c.go_block-racer.result.0
    c.go_lines-bounce.result.1 c.go_block-racer.result.1 c.in-Err-done.fault c.in_default.is c.in-Err-done.is
    (phases_are c.args.script.now c.lines.result.now (phases_alone p.before.now ++ (block_of p.block.now ++ phases_alone p.after.now))
    c.lines.ensures.value c.parts_of-parts.ensures.phases) c.go_lines-bounce.ensures.goes c.go_block-racer.ensures.goes

pub go_lines-bounce-requires-2-clause-fits : goal.go_lines-bounce-requires-2-clause-fits
go_lines-bounce-requires-2-clause-fits g c =
    let p = c.parts_of-parts.result in
    (in_parts (λ line. FitsCommand line.1) c.lines.result.now p.before.now p.block.now p.after.now c.parts_of-parts.ensures.lines
    (subst AreFitting (sym c.lines.ensures.value) (sound_fits Start c.args.script.now c.lines.ensures.sound))).after_it

pub returns-clause-fits : goal.returns-clause-fits
returns-clause-fits g c = sound_fits Start c.args.script.now c.lines.ensures.sound

pub returns-clause-goes : goal.returns-clause-goes
returns-clause-goes g c =
    let p = c.parts_of-parts.result in
    goes_three g.S.Sink.written g.S.Sink.holds g.S.Sink.faults c.args.sink.now c.go_lines-bounce.new.sink c.go_block-racer.new.sink c.go_lines-bounce-2.new.sink
    (phases_alone p.before.now) (block_of p.block.now) (phases_alone p.after.now) (phases_of c.args.script.now) c.args.racer c.go_lines-bounce.new.racer c.go_block-racer.result.0
    c.go_lines-bounce-2.new.racer c.go_lines-bounce.result.1 c.go_block-racer.result.1 c.go_lines-bounce-2.result.1 c.in_default.is c.in_default-done.is
    (phases_are c.args.script.now c.lines.result.now (phases_alone p.before.now ++ (block_of p.block.now ++ phases_alone p.after.now))
    c.lines.ensures.value c.parts_of-parts.ensures.phases) c.go_lines-bounce.ensures.goes c.go_block-racer.ensures.goes c.go_lines-bounce-2.ensures.goes
