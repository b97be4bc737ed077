use Rattle.change_spans.proofs.reaches.covers.Given as goal

-- nothing is kept
abbrev pub invariant-loop-i : goal.invariant-loop-i
invariant-loop-i l = Unit {0}
