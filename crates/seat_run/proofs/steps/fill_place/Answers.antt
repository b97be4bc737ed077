use Rattle.std.proofs.Common.{ap, subst}
use Rattle.mem_base.specs.declared.machine.events.Hand.TheVariants as hands
use Rattle.epoch_rule.proofs.AddsLaws.{adds_some}
use Rattle.shared_words.specs.Fills.{fills_of}
use Rattle.seat_run.specs.Written.{HasWritten}
use Rattle.seat_run.proofs.RowLaws.{fills_clear, fills_some}
use Rattle.seat_run.proofs.steps.fill_place.Goals as goal

pub returns : goal.returns
returns c =
    let p = c.args.place.now in
    let same = c.fill.ensures.same in
    subst (λ es. HasWritten c.args.seat.now es c.fill.new.writer) (fills_clear p)
    (record {
      cabinet = same.0;
      sizes = same.1;
      out = same.2;
      home = c.fill.ensures.home;
      adds = adds_some hands.Writer c.args.seat.now.sizes c.args.seat.now.seen c.fill.new.writer.seen (fills_of p p.words)
          (λ e. ap (λ w. w.seen) (c.fill.ensures.still (fills_some p p.words e))) c.fill.ensures.wrote;
    })
