use Rattle.script_explain.proofs.lines.+line_of.Given as goal

abbrev pub decreases-line_of : goal.decreases-line_of
decreases-line_of l = l.number
