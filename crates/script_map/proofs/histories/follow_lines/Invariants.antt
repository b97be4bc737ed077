use Rattle.std.proofs.Common.{◌≡◌, ◌++◌, drop}
use Rattle.run_laws.specs.Fitting.{AreFitting}
use Rattle.script_run.specs.Standing.{MayGoOn, state_of}
use Rattle.script_map.specs.Left.{all_shown, published_in, refused_in, state_after}
use Rattle.script_map.proofs.histories.follow_lines.Given as goal

abbrev pub invariant-loop-number : goal.invariant-loop-number
invariant-loop-number l = record {
  state : state_after (state_of l.session) (drop l.number-index l.lines) ≡ state_after (state_of l.fn.session) l.lines;
  refused : l.refused.items ++ refused_in (state_of l.session) (drop l.number-index l.lines)
      ≡ l.fn.refused.items ++ refused_in (state_of l.fn.session) l.lines;
  published : all_shown l.published.items ++ published_in (state_of l.session) (drop l.number-index l.lines)
      ≡ all_shown l.fn.published.items ++ published_in (state_of l.fn.session) l.lines;
  ready : MayGoOn l.session;
  fits : AreFitting (drop l.number-index l.lines);
}
