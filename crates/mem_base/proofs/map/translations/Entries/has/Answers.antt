use Rattle.std.proofs.Common.{sym, ap, ◌∙◌}
use Rattle.mem_base.specs.lists.Sorting.{place_of}
use Rattle.mem_base.specs.map.Entries.{iova_cmp, has_iova}
use Rattle.mem_base.proofs.PlaceLaws.{any-place_of}
use Rattle.mem_base.proofs.EntryLaws.{rises_entries, has_iova-is}
use Rattle.mem_base.proofs.map.translations.Entries.has.Goals as goal

pub returns : goal.returns
returns c =
    let iova = c.args.iova in
    let place = sym (c.place_of.ensures.place ∙ ap (place_of (iova_cmp iova)) c.as_slice.ensures.value) in
    c.is_ok.ensures.value
    ∙ any-place_of (iova_cmp iova) (has_iova iova) (has_iova-is iova) c.args.self.now c.place_of.result
    (rises_entries iova c.args.self.now c.as_slice.ensures.entries) place
