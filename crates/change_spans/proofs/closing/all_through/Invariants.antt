use Rattle.std.proofs.Common.{◌≡◌, ◌+◌, ◌≤◌, ℕ, true, take}
use Rattle.change_spans.specs.Reaches.{has_in}
use Rattle.change_spans.proofs.closing.all_through.Given as goal

-- what leads into one of the target's spans so far
abbrev pub invariant-loop-i : goal.invariant-loop-i
invariant-loop-i l =
    (a : ℕ) → a ≤ l.most → has_in (take l.i l.spans) l.target (a + l.offset) ≡ true → has_in l.spans l.alias a ≡ true
