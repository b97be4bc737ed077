use Rattle.std.proofs.Common.{sym, subst}
use Rattle.std.proofs.lemmas.Result.{IfOk-weaker}
use Rattle.mem_base.specs.declared.script.places.Section.TheVariants.{Start}
use Rattle.run_laws.specs.Fitting.{AreFitting}
use Rattle.run_laws.proofs.FittingLaws.{sound_fits}
use Rattle.script_map.proofs.LeftLaws.{left_by_all, ok_gives}
use Rattle.script_map.proofs.maps.after.Goals as goal

pub take_lines-done-requires-clause-fits : goal.take_lines-done-requires-clause-fits
take_lines-done-requires-clause-fits c =
    subst AreFitting (sym c.lines.ensures.value) (sound_fits Start c.args.script.now c.lines.ensures.sound)

pub returns : goal.returns
returns c = IfOk-weaker c.finished.result _ _ (λ m h. left_by_all c.args.script.now c.lines.result.now c.in_ok-session.session c.take_lines-done.new.session
    c.new-refused.result.items c.take_lines-done.new.refused.items m c.lines.ensures.value c.in_ok-session.ensures.state c.new-refused.ensures.items h.0
    (ok_gives c.take_lines-done.result _ h.1 c.take_lines-done.ensures.state)
    (ok_gives c.take_lines-done.result _ h.1 c.take_lines-done.ensures.refused)) c.finished.ensures
