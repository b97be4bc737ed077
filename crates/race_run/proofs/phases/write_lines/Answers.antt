use Rattle.std.proofs.Common.{[], rules, subst, sym}
use Rattle.std.proofs.lemmas.List.{append-nil}
use Rattle.outside.specs.Sink.{TakesPrefix}
use Rattle.race_run.proofs.WritingLaws.{Through, cut_text, through_next, through_prefix}
use Rattle.race_run.proofs.phases.write_lines.Goals as goal
use Rattle.mem_base.proofs.OptionLaws.{on_failure}

pub returns-in_err-write_all : goal.returns-in_err-write_all
returns-in_err-write_all g c =
    let s = c.split_at in
    let cut = cut_text c.loop-end.rest.now s.result.0.now s.result.1.now _ s.ensures.front s.ensures.back in record {
      all = search rules;
      prefix = on_failure c.from_residual.result (TakesPrefix g.S.Sink.written g.S.Sink.holds c.args.sink.now c.write_all.new.sink c.args.text.now)
          (through_prefix g.S.Sink.written g.S.Sink.holds g.S.Sink.faults c.args.sink.now c.loop-end.sink c.write_all.new.sink c.args.text.now s.result.0.now
          s.result.1.now
          (subst (Through g.S.Sink.written g.S.Sink.holds g.S.Sink.faults c.args.sink.now c.loop-end.sink c.args.text.now) cut c.loop-end.invariant)
          c.in_err-write_all.ensures.prefix);
      failed = search rules;
      later = search rules;
    }

pub loop-end-preserved : goal.loop-end-preserved
loop-end-preserved g c =
    let s = c.split_at in
    let cut = cut_text c.loop-end.rest.now s.result.0.now s.result.1.now _ s.ensures.front s.ensures.back in
    through_next g.S.Sink.written g.S.Sink.holds g.S.Sink.faults c.args.sink.now c.loop-end.sink c.write_all.new.sink c.args.text.now s.result.0.now
    s.result.1.now
    (subst (Through g.S.Sink.written g.S.Sink.holds g.S.Sink.faults c.args.sink.now c.loop-end.sink c.args.text.now) cut c.loop-end.invariant)
    c.in_ok-write_all.ensures.all c.in_ok-write_all.ensures.later

pub returns-in_err-write_all-2 : goal.returns-in_err-write_all-2
returns-in_err-write_all-2 g c = record {
  all = search rules;
  prefix = on_failure c.from_residual-in_err-write_all-2.result
      (TakesPrefix g.S.Sink.written g.S.Sink.holds c.args.sink.now c.write_all-2.new.sink c.args.text.now)
      (through_prefix g.S.Sink.written g.S.Sink.holds g.S.Sink.faults c.args.sink.now c.loop-end.sink c.write_all-2.new.sink c.args.text.now
      c.loop-end.rest.now []
      (subst (Through g.S.Sink.written g.S.Sink.holds g.S.Sink.faults c.args.sink.now c.loop-end.sink c.args.text.now) (sym (append-nil c.loop-end.rest.now))
      c.loop-end.invariant)
      c.in_err-write_all-2.ensures.prefix);
  failed = search rules;
  later = search rules;
}
