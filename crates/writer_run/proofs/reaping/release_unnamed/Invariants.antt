use Rattle.std.proofs.Common.{◌≡◌, drop, filter}
use Rattle.std.specs.Prelude.{not}
use Rattle.writer_hand.specs.Hands.{is_named_from}
use Rattle.writer_run.specs.Reaped.{without_regions}
use Rattle.writer_run.proofs.reaping.release_unnamed.Given as goal

-- what is released, and what is still to be released, is the whole
abbrev pub invariant-loop-region : goal.invariant-loop-region
invariant-loop-region g l = record {
  whole : without_regions l.desk (filter (λ r. not (is_named_from (g.H.Writing.generations l.hand) l.lowest r)) (drop l.region-index l.regions))
      ≡ without_regions l.initial.desk (filter (λ r. not (is_named_from (g.H.Writing.generations l.hand) l.lowest r)) l.regions);
  desk : l.desk.backed.desk ≡ l.initial.desk.backed.desk;
}
