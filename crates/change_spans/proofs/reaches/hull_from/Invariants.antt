use Rattle.std.proofs.Common.{◌≡◌, ◌≤◌, ℕ, true, take}
use Rattle.change_spans.specs.Reaches.{has_in}
use Rattle.change_spans.proofs.reaches.hull_from.Given as goal

-- what the spans so far have
abbrev pub invariant-loop-i : goal.invariant-loop-i
invariant-loop-i l = record {
  over : (a : ℕ) → has_in (take l.i l.spans) l.region a ≡ true → (l.first ≤ a) × (a ≤ l.last);
  low : l.first ≤ l.fn.from.first;
  high : l.fn.from.last ≤ l.last;
}
