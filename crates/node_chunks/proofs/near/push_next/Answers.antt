use Rattle.std.proofs.Common.{rules, ◌≡◌, ◌++◌, false, sym, ap, ◌∙◌}
use Rattle.std.specs.Prelude.{flat_map}
use Rattle.std.specs.Arc.{arc_value}
use Rattle.node_chunks.specs.Near.{is_touched}
use Rattle.node_chunks.proofs.NearLaws.{flat_push, left_of_copied, shared}
use Rattle.node_chunks.proofs.near.push_next.Goals as goal

pub returns-then-is_touched-clause-left : goal.returns-then-is_touched-clause-left
returns-then-is_touched-clause-left c =
    left_of_copied arc_value c.args.from c.args.bound c.args.old.now c.args.rest.now c.count_below-count.result c.args.changed.now c.requires.some
    c.requires.bound c.requires.left c.count_below-count.ensures.below c.count_below-count.ensures.above

pub returns-clause-count : goal.returns-clause-count
returns-clause-count c =
    let untouched : is_touched c.args.from.0 c.args.bound c.args.changed.now ≡ false = search rules in
    let piece = c.as_slice.ensures.value ∙ c.deref.ensures ∙ ap arc_value c.index-old-0.is in
    let s = shared arc_value c.args.from c.args.bound c.args.old.now c.index-old-0.result c.args.rest.now c.as_slice.result.now c.args.changed.now
    c.requires.some c.requires.bound c.requires.left untouched piece in
    s.count

pub returns-clause-value : goal.returns-clause-value
returns-clause-value c =
    let untouched : is_touched c.args.from.0 c.args.bound c.args.changed.now ≡ false = search rules in
    let piece = c.as_slice.ensures.value ∙ c.deref.ensures ∙ ap arc_value c.index-old-0.is in
    let s = shared arc_value c.args.from c.args.bound c.args.old.now c.index-old-0.result c.args.rest.now c.as_slice.result.now c.args.changed.now
    c.requires.some c.requires.bound c.requires.left untouched piece in
    let copy = c.in_ok-try_clone.field-0 in
    let same : arc_value copy ≡ c.as_slice.result.now = c.in_ok-try_clone.ensures ∙ sym (c.as_slice.ensures.value ∙ c.deref.ensures) in
    ap (flat_map arc_value) c.in_ok-push.ensures.items ∙ flat_push arc_value c.args.chunks.now.items copy
    ∙ ap (λ ns. flat_map arc_value c.args.chunks.now.items ++ ns) (same ∙ s.first)

pub returns-clause-left : goal.returns-clause-left
returns-clause-left c =
    let untouched : is_touched c.args.from.0 c.args.bound c.args.changed.now ≡ false = search rules in
    let piece = c.as_slice.ensures.value ∙ c.deref.ensures ∙ ap arc_value c.index-old-0.is in
    let s = shared arc_value c.args.from c.args.bound c.args.old.now c.index-old-0.result c.args.rest.now c.as_slice.result.now c.args.changed.now
    c.requires.some c.requires.bound c.requires.left untouched piece in
    s.left
