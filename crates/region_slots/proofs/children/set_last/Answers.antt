use Rattle.std.proofs.Common.{◌≡◌, ◌∙◌, ap, length, pos, arith}
use Rattle.std.proofs.lemmas.List.{set-get_or}
use Rattle.region_slots.specs.declared.children.Child.{Child}
use Rattle.region_slots.specs.Slots.{one_resized}
use Rattle.region_slots.proofs.ResizeLaws.{changed_before, resized_next, kept_next, all_changed}
use Rattle.region_slots.proofs.children.set_last.Goals.{then-child-id, else-child-id}
use Rattle.region_slots.proofs.children.set_last.Goals as goal

abbrev no_child : Child
no_child = record { id = record { 0 = 0 }; offset = 0; last = 0; priority = pos 0 }

pub loop-child-preserved : goal.loop-child-preserved
loop-child-preserved c =
    let cs = c.args.placed.now in
    let xs = c.loop-child.placed in
    elim c.if-child-id.branch [
      | then-child-id w ↦
          w.placed-is
          ∙ resized_next c.args.id c.args.last xs cs c.loop-child.child-index no_child c.loop-child.invariant c.loop-child-test.true w.if-child-id.true
      | else-child-id w ↦
          w.placed-is ∙ set-get_or xs c.loop-child.child-index no_child
          ∙ kept_next c.args.id c.args.last xs cs c.loop-child.child-index no_child c.loop-child.invariant c.loop-child-test.true w.if-child-id.false
    ]

pub returns : goal.returns
returns c =
    let cs = c.args.placed.now in
    let f = one_resized c.args.id c.args.last in
    let whole : c.loop-child.child-index ≡ length cs = let past = c.loop-child-test.false in let within = c.loop-child.auto.child-index-end in omega arith in
    c.loop-child.invariant ∙ ap (λ k. changed_before f k cs) whole ∙ all_changed f cs
