use Rattle.std.proofs.Common.{rules, sym}
use Rattle.std.proofs.lemmas.Fn.{always_returns_same}
use Rattle.mem_base.specs.map.Entries.{iova_cmp}
use Rattle.mem_base.proofs.PlaceLaws.{place_of-searched}
use Rattle.mem_base.proofs.EntryLaws.{rises_entries}
use Rattle.mem_base.proofs.map.translations.place_of.Goals as goal

pub returns-clause-place : goal.returns-clause-place
returns-clause-place c =
    let position = c.binary_search_by.ensures.position (iova_cmp c.args.iova) (always_returns_same _ _ _ (λ a r f' k. search rules)) in
    sym (place_of-searched (iova_cmp c.args.iova) c.args.entries.now c.binary_search_by.result
    (rises_entries c.args.iova c.args.entries.now c.requires) c.binary_search_by.ensures.bound position)
