use Rattle.std.proofs.Common.{◌^◌, sym, subst}
use Rattle.mem_base.specs.views.View.{IsRanges}
use Rattle.script_names.specs.Tables.{printed_names}
use Rattle.view_slots.proofs.TableLaws.{ends_there, lies_at, table_more}
use Rattle.view_slots.proofs.tables.table.Goals as goal

pub add_slots-requires-clause-order : goal.add_slots-requires-clause-order
add_slots-requires-clause-order c =
    (lies_at 0 (2 ^ 64) c.as_slice-ranges.result.now c.loop-range.range-index _
    (subst (IsRanges 0 (2 ^ 64)) (sym c.as_slice-ranges.ensures.value) c.as_slice-ranges.ensures.ranges) c.loop-range-test.true).0

pub add_slots-requires-clause-fits : goal.add_slots-requires-clause-fits
add_slots-requires-clause-fits c =
    (lies_at 0 (2 ^ 64) c.as_slice-ranges.result.now c.loop-range.range-index _
    (subst (IsRanges 0 (2 ^ 64)) (sym c.as_slice-ranges.ensures.value) c.as_slice-ranges.ensures.ranges) c.loop-range-test.true).1

pub loop-range-preserved : goal.loop-range-preserved
loop-range-preserved c =
    table_more c.as_slice-edges.result.now (printed_names c.args.names.now) c.args.others.now c.as_slice-ranges.result.now
    c.loop-range.slots.items c.add_slots.new.slots.items c.loop-range.range-index _ c.loop-range-test.true
    (ends_there c.args.edges.now c.as_slice-edges.result.now c.args.view.now c.as_slice-ranges.result.now c.as_slice-edges.ensures
    c.as_slice-ranges.ensures.value c.requires)
    c.loop-range.invariant c.in_ok-add_slots.ensures
