use Rattle.std.proofs.Common.{◌∙◌}
use Rattle.mem_base.specs.declared.script.places.Section.TheVariants.{Start}
use Rattle.mem_base.specs.script.Run.{pool_words}
use Rattle.run_laws.proofs.FittingLaws.{sound_fits}
use Rattle.race_run.proofs.RacingLaws.{nothing_begun, plain_race, stopped_race, unused_fresh, whole_race}
use Rattle.race_run.proofs.races.race.Goals as goal

pub returns-in-Err-clause-fault : goal.returns-in-Err-clause-fault
returns-in-Err-clause-fault g c =
    nothing_begun g.S.Sink.written g.S.Sink.holds g.S.Sink.faults c.args.sink.now c.args.script.now c.args.config
    (sound_fits Start c.args.script.now c.lines-lines.ensures.sound) c.requires.fresh.seen

pub begin-racer-requires-clause-unused : goal.begin-racer-requires-clause-unused
begin-racer-requires-clause-unused g c = unused_fresh (pool_words c.args.script.now) c.args.config c.requires.fresh

pub returns-clause-text : goal.returns-clause-text
returns-clause-text g c =
    let b = c.begin-racer.ensures in
    whole_race g.S.Sink.written g.S.Sink.holds g.S.Sink.faults c.args.sink.now c.go_through-racer.new.sink c.args.script.now c.begin-racer.result
    c.go_through-racer.result.0 c.close.result c.go_through-racer.result.1 c.go_through-racer.ensures.goes c.close.ensures
    (b.same.1 ∙ c.requires.fresh.sizes) b.known b.seen (b.part ∙ c.requires.fresh.part)

pub returns-clause-fault : goal.returns-clause-fault
returns-clause-fault g c =
    let b = c.begin-racer.ensures in
    stopped_race g.S.Sink.written g.S.Sink.holds g.S.Sink.faults c.args.sink.now c.go_through-racer.new.sink c.args.script.now c.begin-racer.result
    c.go_through-racer.result.0 c.close.result c.go_through-racer.result.1 c.go_through-racer.ensures.goes c.close.ensures
    c.go_through-racer.ensures.fits (b.same.1 ∙ c.requires.fresh.sizes) b.known b.seen (b.part ∙ c.requires.fresh.part)

pub returns-clause-run : goal.returns-clause-run
returns-clause-run g c =
    let b = c.begin-racer.ensures in
    let goes = c.go_through-racer.ensures.goes in
    plain_race g.S.Sink.written g.S.Sink.holds g.S.Sink.faults c.args.sink.now c.go_through-racer.new.sink c.args.script.now c.close.result
    c.go_through-racer.result.1 c.go_through-racer.ensures.fits
    (whole_race g.S.Sink.written g.S.Sink.holds g.S.Sink.faults c.args.sink.now c.go_through-racer.new.sink c.args.script.now c.begin-racer.result
    c.go_through-racer.result.0 c.close.result c.go_through-racer.result.1 goes c.close.ensures
    (b.same.1 ∙ c.requires.fresh.sizes) b.known b.seen (b.part ∙ c.requires.fresh.part))
    (stopped_race g.S.Sink.written g.S.Sink.holds g.S.Sink.faults c.args.sink.now c.go_through-racer.new.sink c.args.script.now c.begin-racer.result
    c.go_through-racer.result.0 c.close.result c.go_through-racer.result.1 goes c.close.ensures
    c.go_through-racer.ensures.fits (b.same.1 ∙ c.requires.fresh.sizes) b.known b.seen (b.part ∙ c.requires.fresh.part))
    goes.failed goes.no_less
