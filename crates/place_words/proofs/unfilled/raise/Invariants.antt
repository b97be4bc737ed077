use Rattle.std.proofs.Common.{◌≡◌, ◌≤◌, true, replicate, vec_len, vec_capacity}
use Rattle.place_words.proofs.unfilled.raise.Given as goal

abbrev pub invariant-loop : goal.invariant-loop
invariant-loop l = record {
  items : l.flags.items ≡ replicate l.counter true;
  len : vec_len l.flags ≤ l.counter;
  room : l.count ≤ vec_capacity l.flags;
}
