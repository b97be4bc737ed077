use Rattle.std.proofs.Common.{◌≡◌, ◌∙◌, sym, ap, subst, false, drop, length, arith, List}
use Rattle.std.proofs.lemmas.List.{length-replicate}
use Rattle.mem_base.specs.declared.map.ids.RegionId.{RegionId}
use Rattle.mem_base.specs.lists.Every.{Every}
use Rattle.mem_base.specs.map.Steps.{steps_from}
use Rattle.region_slots.specs.Slots.{nodes_of}
use Rattle.region_extents.specs.Extents.{told_of, stepped, alone}
use Rattle.region_extents.specs.Kept.{listed, IsShort}
use Rattle.region_extents.proofs.SettledLaws.{told_missing}
use Rattle.region_extents.proofs.JoinedLaws.{settled_extents_in, unlisted_missing, every_replicate, written_back}
use Rattle.region_extents.proofs.kept.found_anew.Goals as goal

pub raise-requires-clause-others : goal.raise-requires-clause-others
raise-requires-clause-others c v h =
    let slots = c.args.slots.now in
    let nodes = nodes_of slots in
    let es = c.deref_mut.result.now in
    let none = unlisted_missing nodes v (subst (λ (ids : List RegionId). listed v ids ≡ false) c.in_ok-waiting.ensures h) in
    told_missing slots es v none ∙ sym (ap (λ o. stepped (told_of slots es) (steps_from nodes o)) none)

pub returns : goal.returns
returns c =
    let slots = c.args.slots.now in
    let es = c.raise.new.known in
    let first = c.deref_mut.ensures.value ∙ c.in_ok-extents.ensures.items_if_clones_equal (λ y e. e) in
    let short = c.in_ok-done.ensures.short (subst (Every IsShort) (sym first) (every_replicate (length slots))) in
    let before : length c.deref_mut.result.now ≡ length slots = ap length first ∙ length-replicate (length slots) alone in
    let all : length es ≡ length slots = c.in_ok-done.ensures.all ∙ before in
    let full : length es ≡ c.in_ok-extents.extents.len = omega arith in
    let whole = written_back c.in_ok-extents.extents.len es (drop (length es) c.in_ok-extents.extents.items) full in
    record {
      extents = λ t. whole ∙ settled_extents_in slots es c.requires.ascending all (c.in_ok-done.ensures.settled c.if-not-done.false) short;
      aliases = λ t. c.in_ok-aliases.ensures;
    }
