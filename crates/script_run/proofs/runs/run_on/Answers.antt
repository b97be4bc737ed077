use Rattle.std.proofs.Common.{sym, subst, ◌∙◌, List, ℕ}
use Rattle.outside.specs.Sink.{Writes}
use Rattle.mem_base.specs.declared.script.places.Section.TheVariants.{Start}
use Rattle.mem_base.specs.script.Run.{pool_words, text_from}
use Rattle.run_laws.specs.Fitting.{AreFitting}
use Rattle.run_laws.proofs.FittingLaws.{sound_fits}
use Rattle.script_run.specs.declared.faults.RunFault.TheVariants.{Write}
use Rattle.script_run.proofs.RunLaws.{starts_at, starts_ready}
use Rattle.script_run.proofs.runs.run_on.Goals as goal

pub run_lines-done-requires-clause-ready : goal.run_lines-done-requires-clause-ready
run_lines-done-requires-clause-ready g c = starts_ready c.new-session.result (pool_words c.args.script.now) c.new-session.ensures.known
    (c.new-session.ensures.world ∙ c.requires)

pub run_lines-done-requires-clause-fits : goal.run_lines-done-requires-clause-fits
run_lines-done-requires-clause-fits g c =
    subst AreFitting (sym c.lines.ensures.value) (sound_fits Start c.args.script.now c.lines.ensures.sound)

pub returns : goal.returns
returns g c =
    let is = starts_at c.new-session.result (pool_words c.args.script.now) c.new-session.ensures.known (c.new-session.ensures.world ∙ c.requires) in
    subst (λ (t : List ℕ). Writes g.K.Sink.written g.K.Sink.holds g.K.Sink.faults c.args.sink.now c.run_lines-done.new.sink t Write c.run_lines-done.result)
    (λ i. text_from (is i) (c.lines.ensures.value i)) c.run_lines-done.ensures
