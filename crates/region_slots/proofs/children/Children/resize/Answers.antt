use Rattle.std.proofs.Common.{◌≡◌, ◌∙◌, length, ap, sym, rules}
use Rattle.std.proofs.lemmas.List.{with_items_is, places}
use Rattle.region_slots.specs.Slots.{ids_in, resized}
use Rattle.region_slots.proofs.ResizeLaws.{ids_resized, length_resized}
use Rattle.region_slots.proofs.children.Children.resize.Goals as goal

pub invariant_of-self : goal.invariant_of-self
invariant_of-self c =
    let placed = c.self.inside.placed in
    let told = c.set_last.ensures ∙ ap (resized c.args.id c.args.last) c.deref_mut.ensures.value in
    let whole : length c.set_last.new.placed ≡ placed.len = ap length told ∙ length_resized c.args.id c.args.last placed.items ∙ search (rules, places) in
    c.self.invariant ∙ sym (ids_resized c.args.id c.args.last placed.items) ∙ ap ids_in (sym told)
    ∙ ap ids_in (sym (with_items_is placed c.set_last.new.placed whole))
