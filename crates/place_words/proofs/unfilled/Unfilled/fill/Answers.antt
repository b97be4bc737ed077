use Rattle.std.proofs.Common.{◌≡◌, ◌-◌, false, suc, Bool, List, ℕ, length, set, sym, ap, ◌∙◌, arith}
use Rattle.std.specs.Prelude.{not, filter}
use Rattle.std.specs.List.{list_any}
use Rattle.mem_base.specs.declared.access.cells.Cell.{Cell}
use Rattle.mem_base.specs.access.Cells.{is_same_cell}
use Rattle.place_words.specs.Unfilled.{Waiting, cells_left}
use Rattle.place_words.proofs.UnfilledLaws.{IsLeft, is_left, one_less, less_left}
use Rattle.place_words.proofs.unfilled.Unfilled.fill.Goals as goal

pub lower-requires : goal.lower-requires
lower-requires c =
    let s = c.self.inside in
    let k : IsLeft c.args.cell.now s.region s.flags.items = is_left c.args.cell.now s.region s.flags.items
    (ap (λ (w : Waiting). list_any (is_same_cell c.args.cell.now) w.cells) c.self.view_is ∙ c.requires.waits) in
    k.within

pub invariant_of-self : goal.invariant_of-self
invariant_of-self c =
    let s = c.self.inside in
    let k : IsLeft c.args.cell.now s.region s.flags.items = is_left c.args.cell.now s.region s.flags.items
    (ap (λ (w : Waiting). list_any (is_same_cell c.args.cell.now) w.cells) c.self.view_is ∙ c.requires.waits) in
    let now : ℕ = length (cells_left s.region 0 (set s.flags.items c.args.cell.now.word false)) in
    let less : suc now ≡ length (cells_left s.region 0 s.flags.items) = one_less s.region 0 c.args.cell.now.word s.flags.items k.on in
    let items : c.lower.new.flags.items ≡ set s.flags.items c.args.cell.now.word false = c.lower.ensures.items in
    let left : s.left ≡ length (cells_left s.region 0 s.flags.items) = c.self.invariant in
    let goal_is : s.left - 1 ≡ now = omega (arith, less, left) in
    goal_is ∙ ap (λ (fs : List Bool). length (cells_left s.region 0 fs)) (sym items)

pub returns : goal.returns
returns c =
    let s = c.self.inside in
    let k : IsLeft c.args.cell.now s.region s.flags.items = is_left c.args.cell.now s.region s.flags.items
    (ap (λ (w : Waiting). list_any (is_same_cell c.args.cell.now) w.cells) c.self.view_is ∙ c.requires.waits) in
    ap (λ (fs : List Bool). cells_left s.region 0 fs) c.lower.ensures.items
    ∙ sym (less_left c.args.cell.now s.region s.flags.items k.same)
    ∙ ap (λ (w : Waiting). filter (λ (x : Cell). not (is_same_cell c.args.cell.now x)) w.cells) c.self.view_is
