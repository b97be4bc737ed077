use Rattle.std.proofs.Common.{rules, ◌≡◌, Bool, List, get_or, true, false, sym, ap, ◌∙◌}
use Rattle.std.specs.Prelude.{◌==◌}
use Rattle.std.specs.List.{list_any}
use Rattle.mem_base.specs.access.Cells.{is_same_cell}
use Rattle.place_words.specs.Unfilled.{Waiting}
use Rattle.place_words.proofs.UnfilledLaws.{none_of_other, one_by_flag}
use Rattle.place_words.proofs.unfilled.Unfilled.has.Goals as goal

pub returns-then-cell-self : goal.returns-then-cell-self
returns-then-cell-self c =
    let s = c.self.inside in
    let other : (c.args.cell.now.region.0 == s.region.0) ≡ false = search rules in
    sym (none_of_other c.args.cell.now s.region s.flags.items other)
    ∙ ap (λ (w : Waiting). list_any (is_same_cell c.args.cell.now) w.cells) c.self.view_is

pub returns : goal.returns
returns c =
    let s = c.self.inside in
    let same : (c.args.cell.now.region.0 == s.region.0) ≡ true = search rules in
    c.flag_at.ensures ∙ ap (λ (fs : List Bool). get_or fs c.args.cell.now.word false) c.as_slice.ensures.value
    ∙ sym (one_by_flag c.args.cell.now s.region s.flags.items same)
    ∙ ap (λ (w : Waiting). list_any (is_same_cell c.args.cell.now) w.cells) c.self.view_is
