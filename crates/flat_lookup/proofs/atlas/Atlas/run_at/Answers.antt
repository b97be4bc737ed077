use Rattle.std.proofs.Common.{◌∙◌, ◌^◌, List, length, sym, ap, subst, arith}
use Rattle.mem_base.specs.declared.views.flat.FlatRange.{FlatRange}
use Rattle.mem_base.specs.views.View.{shown, IsRanges}
use Rattle.flat_lookup.specs.Atlases.{run_end, no_range}
use Rattle.flat_lookup.proofs.AtlasLaws.{atlas_place, atlas_probes, shown_at_place, shown_before_first, range_fits, run_of_place, run_before_first}
use Rattle.flat_lookup.proofs.AtlasLaws.{starts_length, not_empty}
use Rattle.flat_lookup.proofs.atlas.Atlas.run_at.Goals as goal

pub returns-then-addr-ranges-clause-spot : goal.returns-then-addr-ranges-clause-spot
returns-then-addr-ranges-clause-spot g c =
    let rs : List FlatRange = c.as_slice-ranges.result.now in
    let some = not_empty (length rs) c.is_empty.result c.is_empty.ensures c.if-is_empty.false in
    let ranges : IsRanges 0 (2 ^ 64) rs = subst (IsRanges 0 (2 ^ 64)) (sym c.as_slice-ranges.ensures.value) c.as_slice-ranges.ensures.ranges in
    sym (shown_before_first rs c.args.addr no_range (2 ^ 64) ranges some c.if-addr-ranges.true)
    ∙ ap (λ (xs : List FlatRange). shown xs c.args.addr) (c.as_slice-ranges.ensures.value ∙ c.self.view_is)

pub returns-then-addr-ranges-clause-last : goal.returns-then-addr-ranges-clause-last
returns-then-addr-ranges-clause-last g c =
    let rs : List FlatRange = c.as_slice-ranges.result.now in
    let some = not_empty (length rs) c.is_empty.result c.is_empty.ensures c.if-is_empty.false in
    sym (run_before_first rs c.args.addr some c.if-addr-ranges.true)
    ∙ ap (λ (xs : List FlatRange). run_end xs c.args.addr) (c.as_slice-ranges.ensures.value ∙ c.self.view_is)

pub spot-requires : goal.spot-requires
spot-requires g c =
    let rs : List FlatRange = c.as_slice-ranges.result.now in
    let some = not_empty (length rs) c.is_empty.result c.is_empty.ensures c.if-is_empty.false in
    let ranges : IsRanges 0 (2 ^ 64) rs = subst (IsRanges 0 (2 ^ 64)) (sym c.as_slice-ranges.ensures.value) c.as_slice-ranges.ensures.ranges in
    let k = atlas_place c.self.inside.ranges rs c.self.inside.levels.items c.as_slice.result.now c.args.addr c.place-at.result c.self.invariant.levels_over
    c.as_slice.ensures.value c.as_slice-ranges.ensures.value some c.place-at.ensures.place in
    let n = starts_length rs in
    let inside = k.inside in
    range_fits 0 (2 ^ 64) rs c.place-at.result no_range ranges (omega arith)

pub returns-clause-spot : goal.returns-clause-spot
returns-clause-spot g c =
    let rs : List FlatRange = c.as_slice-ranges.result.now in
    let some = not_empty (length rs) c.is_empty.result c.is_empty.ensures c.if-is_empty.false in
    let ranges : IsRanges 0 (2 ^ 64) rs = subst (IsRanges 0 (2 ^ 64)) (sym c.as_slice-ranges.ensures.value) c.as_slice-ranges.ensures.ranges in
    let k = atlas_place c.self.inside.ranges rs c.self.inside.levels.items c.as_slice.result.now c.args.addr c.place-at.result c.self.invariant.levels_over
    c.as_slice.ensures.value c.as_slice-ranges.ensures.value some c.place-at.ensures.place in
    c.spot.ensures ∙ sym (shown_at_place rs c.args.addr c.place-at.result no_range (2 ^ 64) ranges k)
    ∙ ap (λ (xs : List FlatRange). shown xs c.args.addr) (c.as_slice-ranges.ensures.value ∙ c.self.view_is)

pub returns-clause-last : goal.returns-clause-last
returns-clause-last g c =
    let rs : List FlatRange = c.as_slice-ranges.result.now in
    let some = not_empty (length rs) c.is_empty.result c.is_empty.ensures c.if-is_empty.false in
    let ranges : IsRanges 0 (2 ^ 64) rs = subst (IsRanges 0 (2 ^ 64)) (sym c.as_slice-ranges.ensures.value) c.as_slice-ranges.ensures.ranges in
    let k = atlas_place c.self.inside.ranges rs c.self.inside.levels.items c.as_slice.result.now c.args.addr c.place-at.result c.self.invariant.levels_over
    c.as_slice.ensures.value c.as_slice-ranges.ensures.value some c.place-at.ensures.place in
    c.end_after.ensures ∙ sym (run_of_place rs c.args.addr c.place-at.result (2 ^ 64) ranges k)
    ∙ ap (λ (xs : List FlatRange). run_end xs c.args.addr) (c.as_slice-ranges.ensures.value ∙ c.self.view_is)

pub returns-clause-probes : goal.returns-clause-probes
returns-clause-probes g c =
    let rs : List FlatRange = c.as_slice-ranges.result.now in
    let some = not_empty (length rs) c.is_empty.result c.is_empty.ensures c.if-is_empty.false in
    atlas_probes c.self.inside.ranges rs c.args.self.now c.self.inside.levels.items c.as_slice.result.now c.args.steps.now c.place-at.new.steps
    c.self.invariant.levels_over c.as_slice.ensures.value c.as_slice-ranges.ensures.value c.self.view_is some c.place-at.ensures.probes
