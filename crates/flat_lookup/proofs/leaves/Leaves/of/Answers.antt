use Rattle.std.proofs.Common.{rules, ◌≡◌, ◌∙◌, drop, length, List, Bool, ℕ, ap}
use Rattle.std.proofs.lemmas.List.{take_at}
use Rattle.std.proofs.lemmas.List.Sorted.{IsNonDecreasingBy-from_sort}
use Rattle.flat_lookup.specs.Leaves.{is_noted}
use Rattle.flat_lookup.proofs.LeafLaws.{sorted_others}
use Rattle.flat_lookup.proofs.leaves.Leaves.of.Goals as goal

pub invariant_of-result : goal.invariant_of-result
invariant_of-result c = IsNonDecreasingBy-from_sort (λ (n : ℕ). n) c.sort_unstable.new.self.items c.sort_unstable.ensures.sorted

pub returns : goal.returns
returns c n =
    let others : List ℕ = c.sort_unstable.new.self.items in
    let marks : List Bool = c.noted.new.marks in
    let count : length marks ≡ c.in_ok-marks.marks.len = search rules in
    let same = take_at marks (drop (length marks) c.in_ok-marks.marks.items) c.in_ok-marks.marks.len count in
    ap (λ (ms : List Bool). is_noted ms others n) same
    ∙ sorted_others marks c.in_ok-others.others.items others c.sort_unstable.ensures.permutation n ∙ c.in_ok-others.ensures.noted n
