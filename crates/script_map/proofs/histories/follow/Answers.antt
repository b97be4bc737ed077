use Rattle.std.proofs.Common.{ap, sym, subst}
use Rattle.mem_base.specs.declared.script.places.Section.TheVariants.{Start}
use Rattle.run_laws.specs.Fitting.{AreFitting}
use Rattle.run_laws.proofs.FittingLaws.{sound_fits}
use Rattle.script_map.specs.Left.{all_shown}
use Rattle.script_map.proofs.LeftLaws.{left_by_all, ok_gives, published_by_all}
use Rattle.script_map.proofs.histories.follow.Goals as goal

pub follow_lines-done-requires-clause-fits : goal.follow_lines-done-requires-clause-fits
follow_lines-done-requires-clause-fits c =
    subst AreFitting (sym c.lines.ensures.value) (sound_fits Start c.args.script.now c.lines.ensures.sound)

pub returns-in-Ok-clause-map : goal.returns-in-Ok-clause-map
returns-in-Ok-clause-map c =
    left_by_all c.args.script.now c.lines.result.now c.in_ok-session.session c.follow_lines-done.new.session c.new-refused.result.items
    c.follow_lines-done.new.refused.items c.in-Ok.map c.lines.ensures.value c.in_ok-session.ensures.state c.new-refused.ensures.items c.in-Ok.ensures.0
    (ok_gives c.follow_lines-done.result _ c.in-Ok.ensures.1 c.follow_lines-done.ensures.state)
    (ok_gives c.follow_lines-done.result _ c.in-Ok.ensures.1 c.follow_lines-done.ensures.refused)

pub returns-in-Ok-clause-published : goal.returns-in-Ok-clause-published
returns-in-Ok-clause-published c =
    published_by_all c.args.script.now c.lines.result.now c.in_ok-session.session _ _ c.lines.ensures.value c.in_ok-session.ensures.state
    (ap all_shown c.new-published.ensures.items)
    (ok_gives c.follow_lines-done.result _ c.in-Ok.ensures.1 c.follow_lines-done.ensures.published)
