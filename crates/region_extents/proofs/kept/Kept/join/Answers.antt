use Rattle.std.proofs.Common.{◌≡◌, ◌∙◌, sym, subst, drop, length, arith}
use Rattle.mem_base.specs.lists.Every.{Every}
use Rattle.region_slots.specs.Slots.{nodes_of}
use Rattle.region_extents.specs.Kept.{IsShort}
use Rattle.region_extents.proofs.JoinedLaws.{kept_settled, kept_short, written_back}
use Rattle.region_extents.proofs.kept.Kept.join.Goals as goal

pub joined-requires-clause-settled : goal.joined-requires-clause-settled
joined-requires-clause-settled c =
    let slots = c.args.slots.now in
    let f = c.requires.forest.0 in
    let same = c.deref_mut.ensures.value ∙ c.requires.kept.extents c.if-not-self.false in
    kept_settled f c.requires.forest.1 slots c.requires.forest.2 c.deref_mut.result.now same

pub returns-in-Ok-true-clause-short : goal.returns-in-Ok-true-clause-short
returns-in-Ok-true-clause-short c t =
    let slots = c.args.slots.now in
    let f = c.requires.forest.0 in
    let same = c.deref_mut.ensures.value ∙ c.requires.kept.extents c.if-not-self.false in
    let l : length c.joined.new.known ≡ c.args.self.now.extents.len = omega arith in
    let whole = written_back c.args.self.now.extents.len c.joined.new.known (drop (length c.joined.new.known) c.args.self.now.extents.items) l in
    subst (Every IsShort) (sym whole) (c.in-Ok-true.ensures.short
    (kept_short f c.requires.forest.1 (nodes_of slots) c.requires.forest.2 c.deref_mut.result.now same))
