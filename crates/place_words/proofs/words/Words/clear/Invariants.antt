use Rattle.std.proofs.Common.{◌≡◌, ◌-◌, ◌≤◌, length}
use Rattle.place_words.specs.Blocks.{cleared_between}
use Rattle.place_words.proofs.words.Words.clear.Given as goal

abbrev pub invariant-loop-at : goal.invariant-loop-at
invariant-loop-at l = record {
  from : l.place.start ≤ l.at;
  to : l.at ≤ l.end;
  words : l.self ≡ cleared_between l.place.start l.at l.fn.self;
  len : length l.self ≡ length l.fn.self;
}

abbrev pub decreases-loop-at : goal.decreases-loop-at
decreases-loop-at l = l.end - l.at
