use Rattle.std.proofs.Common.{rules, ◌≡◌, ◌+◌, ◌-◌, ℕ, length, sym, ap, ◌∙◌, arith}
use Rattle.mem_base.specs.map.Limits.{notifier_count}
use Rattle.mem_base.specs.access.PlacesByRegion.{notifiers}
use Rattle.mem_base.specs.machine.World.{World, place_in_world}
use Rattle.world_core.proofs.PlaceLaws.{notifiers_after}
use Rattle.writer_desk.specs.Writers.{WriterState}
use Rattle.world_core.specs.Worlds.{Aside, aside, state_of}
use Rattle.world_core.proofs.world.World.notifiers.Goals as goal

pub overflow_sub-start : goal.overflow_sub-start
overflow_sub-start c =
    let s = c.self.inside in
    let d : WriterState = state_of s.desk s.due in
    let wide : length s.hand.words ≡ d.backed.backing.pool_words + notifier_count = c.self.invariant.wide in
    let len : c.len-start.result ≡ length s.hand.words = search rules in
    omega (arith, wide, len)

pub returns-clause-place : goal.returns-clause-place
returns-clause-place c =
    let s = c.self.inside in
    let d : WriterState = state_of s.desk s.due in
    let x : Aside = aside s.desk.dropped.items s.unfilled.cells in
    let len : c.len-start.result ≡ length s.hand.words = search rules in
    rw c.notifiers.ensures (sym (ap (λ (w : World). place_in_world w notifiers) c.self.view_is)
    ∙ notifiers_after d s.hand.kept s.hand.words x c.self.invariant (c.len-start.result - notifier_count) (ap (λ (n : ℕ). n - notifier_count) len))
