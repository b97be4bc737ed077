use Rattle.std.proofs.Common.{◌≡◌, ◌++◌, sym, subst, rules}
use Rattle.script_run.proofs.Writing.{Through, cut_at, through_next, through_part}
use Rattle.script_run.proofs.pieces.write_lines.Goals as goal
use Rattle.mem_base.proofs.OptionLaws.{on_failure}

pub returns-in_err-write_all : goal.returns-in_err-write_all
returns-in_err-write_all g c =
    let line = c.split_at.result.0.now in
    let rest = c.split_at.result.1.now in
    let both : line ++ rest ≡ c.loop-rest.rest.now =
    cut_at c.loop-rest.rest.now line rest c.first_line.result c.split_at.ensures.front c.split_at.ensures.back in
    record {
      all = search rules;
      prefix = on_failure c.from_residual.result _ (through_part g.K.Sink.written g.K.Sink.holds g.K.Sink.faults _ _ _ c.args.text.now line rest
          (subst (Through g.K.Sink.written g.K.Sink.holds g.K.Sink.faults c.args.sink.now c.loop-rest.sink c.args.text.now) (sym both)
          c.loop-rest.invariant) c.in_err-write_all.ensures.prefix);
      failed = search rules;
      later = search rules;
    }

pub loop-rest-preserved : goal.loop-rest-preserved
loop-rest-preserved g c =
    let line = c.split_at.result.0.now in
    let rest = c.split_at.result.1.now in
    let both : line ++ rest ≡ c.loop-rest.rest.now =
    cut_at c.loop-rest.rest.now line rest c.first_line.result c.split_at.ensures.front c.split_at.ensures.back in
    through_next g.K.Sink.written g.K.Sink.holds g.K.Sink.faults _ _ _ c.args.text.now line rest
    (subst (Through g.K.Sink.written g.K.Sink.holds g.K.Sink.faults c.args.sink.now c.loop-rest.sink c.args.text.now) (sym both)
    c.loop-rest.invariant) c.in_ok-write_all.ensures.all c.write_all.ensures.later
