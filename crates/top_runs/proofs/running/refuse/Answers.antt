use Rattle.std.proofs.Common.{refl, inl, subst, ◌∙◌}
use Rattle.outside.specs.Sink.{Takes}
use Rattle.outside.proofs.Took.{TakesPrefix-all}
use Rattle.mem_base.specs.script.RefusalLines.{bad_line}
use Rattle.top_runs.proofs.running.refuse.Goals as goal

pub returns-in-Ok-write_all-clause-says : goal.returns-in-Ok-write_all-clause-says
returns-in-Ok-write_all-clause-says g c =
    let taken : Takes g.K.Sink.written g.K.Sink.holds c.args.sink.now c.write_all.new.sink (bad_line c.args.bad) =
    subst (Takes g.K.Sink.written g.K.Sink.holds c.args.sink.now c.write_all.new.sink) (c.as_bytes.ensures ∙ c.in-Ok.ensures)
    c.in-Ok-write_all.ensures.all in record {
      whole = λ e. taken;
      only = inl refl;
      write = λ e. cc;
      prefix = TakesPrefix-all g.K.Sink.written g.K.Sink.holds _ _ (bad_line c.args.bad) taken;
    }
