use Rattle.std.proofs.Common.{ap, ◌∙◌, slice_set, get_or, arith}
use Rattle.std.proofs.lemmas.Option.{slice_get-get_or}
use Rattle.std.specs.Prelude.{option_map}
use Rattle.mem_base.specs.declared.map.ids.RegionId.{RegionId}
use Rattle.libvobrekan.proofs.BufferLaws.{put_more, put_all}
use Rattle.libvobrekan.proofs.buffers.put_regions.Goals as goal

pub loop-i-preserved : goal.loop-i-preserved
loop-i-preserved c =
    let regions = c.args.regions.now in
    let i = c.loop-i.i in
    let none : RegionId = record { 0 = 0 } in
    let less = c.loop-i-test.true in
    let count = c.min-count.ensures in
    let same = c.loop-i.auto.out in
    ap (λ l. slice_set l i (get_or regions i none).0) c.loop-i.invariant
    ∙ put_more (λ (r : RegionId). r.0) regions c.args.out.now i (get_or regions i none).0
    (ap (option_map (λ (r : RegionId). r.0)) (slice_get-get_or regions i none (omega (arith, less, count)))) (omega (arith, less, count))

pub returns : goal.returns
returns c =
    let over = c.loop-i-test.false in
    let end = c.loop-i.auto.i-end in
    let count = c.min-count.ensures in
    c.loop-i.invariant ∙ put_all (λ (r : RegionId). r.0) c.args.regions.now c.args.out.now c.loop-i.i (omega (arith, over, end, count))
