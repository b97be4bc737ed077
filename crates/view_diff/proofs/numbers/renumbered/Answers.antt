use Rattle.std.proofs.Common.{◌≡◌, List, ◌^◌, take, subst, rules, arith}
use Rattle.std.proofs.lemmas.List.{take_all}
use Rattle.mem_base.specs.declared.views.flat.FlatRange.{FlatRange}
use Rattle.script_names.specs.Tables.{printed_names}
use Rattle.view_diff.specs.Numbers.{Renumbered}
use Rattle.view_diff.proofs.Binding.{one_range_more, ranges_again}
use Rattle.view_diff.proofs.numbers.renumbered.Goals as goal

pub loop-range-preserved : goal.loop-range-preserved
loop-range-preserved c = record {
  told = c.in_ok-renumber.ensures.told;
  grows = λ label i h. c.in_ok-renumber.ensures.grows label i (c.loop-range.invariant.grows label i h);
  ranges = one_range_more c.loop-range.labels.bound c.renumber.new.labels.bound (printed_names c.args.names.now) c.as_slice-ranges.result.now
      c.loop-range.items.items c.push.new.self.items c.loop-range.range-index c.in_ok-renumber.field-0 _ c.loop-range-test.true
      c.in_ok-renumber.ensures.grows c.loop-range.invariant.ranges c.in_ok-renumber.ensures.number c.in_ok-renumber.ensures.same c.in_ok-push.ensures.items;
}

pub new-requires : goal.new-requires
new-requires c =
    let all : take c.loop-range.range-index c.as_slice-ranges.result.now ≡ c.as_slice-ranges.result.now =
    take_all c.loop-range.range-index c.as_slice-ranges.result.now (omega arith) in
    ranges_again c.loop-range.labels.bound (printed_names c.args.names.now) 0 (2 ^ 64) c.as_slice-ranges.result.now c.loop-range.items.items
    (subst (λ (rs : List FlatRange). Renumbered c.loop-range.labels.bound (printed_names c.args.names.now) rs c.loop-range.items.items) all
    c.loop-range.invariant.ranges)
    (search rules)
