use Rattle.script_marks.proofs.Readings.{decides}
use Rattle.script_marks.proofs.openings.opens.Goals as goal

pub returns : goal.returns
returns c = decides c.args.text.now c.in_ok-open_line.open_line c.if-not-is_short.ensures c.in_ok-open_line.ensures
