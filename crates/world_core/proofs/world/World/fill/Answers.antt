use Rattle.std.proofs.Common.{◌≡◌, ◌+◌, ◌<◌, true, length, filter, Option, sym, ap, subst, ◌∙◌}
use Rattle.std.specs.Prelude.{IfSome, not}
use Rattle.mem_base.specs.declared.access.cells.Place.{Place}
use Rattle.mem_base.specs.declared.access.cells.Cell.{Cell}
use Rattle.mem_base.specs.declared.machine.events.Event.TheVariants as events
use Rattle.mem_base.specs.access.Cells.{is_same_cell}
use Rattle.mem_base.specs.machine.World.{World, possible, world_after, place_in_world}
use Rattle.writer_desk.specs.Writers.{WriterState}
use Rattle.world_core.specs.Worlds.{Aside, aside, world_of, state_of}
use Rattle.world_core.specs.Cleared.{word_cleared}
use Rattle.world_core.proofs.CellEventLaws.{word_there, fill_is, filled_world}
use Rattle.world_core.proofs.world.World.fill.Goals as goal

pub clear_word-requires : goal.clear_word-requires
clear_word-requires c =
    let s = c.self.inside in
    let d : WriterState = state_of s.desk s.due in
    let x : Aside = aside s.desk.dropped.items s.unfilled.cells in
    let y = c.args.cell.now in
    let found : place_in_world (world_of d s.hand.kept s.hand.words x) y.region ≡ c.place_of-place.result =
    ap (λ (w : World). place_in_world w y.region) c.self.view_is ∙ sym c.place_of-place.ensures in
    subst (λ (o : Option Place). IfSome o (λ p. y.word < p.words → p.start + y.word < length s.hand.words)) found
    (word_there d s.hand.kept s.hand.words x c.self.invariant y)

pub invariant_of-self : goal.invariant_of-self
invariant_of-self c =
    let s = c.self.inside in
    let d : WriterState = state_of s.desk s.due in
    let x : Aside = aside s.desk.dropped.items s.unfilled.cells in
    let y = c.args.cell.now in
    let found : c.place_of-place.result ≡ place_in_world (world_of d s.hand.kept s.hand.words x) y.region =
    c.place_of-place.ensures ∙ sym (ap (λ (w : World). place_in_world w y.region) c.self.view_is) in
    let words : c.clear_word.new.words ≡ word_cleared s.hand.words (place_in_world (world_of d s.hand.kept s.hand.words x) y.region) y.word =
    c.clear_word.ensures.words ∙ ap (λ (o : Option Place). word_cleared s.hand.words o y.word) found in
    let may : possible (world_of d s.hand.kept s.hand.words x) (events.Fill y) ≡ true =
    ap (λ (w : World). possible w (events.Fill y)) c.self.view_is ∙ c.requires in
    filled_world d s.hand.kept s.hand.words x c.self.invariant y c.clear_word.new.words words c.clear_word.ensures.len may c.fill.new.self.cells c.fill.ensures

pub returns : goal.returns
returns c =
    let s = c.self.inside in
    let d : WriterState = state_of s.desk s.due in
    let x : Aside = aside s.desk.dropped.items s.unfilled.cells in
    let y = c.args.cell.now in
    let found : c.place_of-place.result ≡ place_in_world (world_of d s.hand.kept s.hand.words x) y.region =
    c.place_of-place.ensures ∙ sym (ap (λ (w : World). place_in_world w y.region) c.self.view_is) in
    let words : c.clear_word.new.words ≡ word_cleared s.hand.words (place_in_world (world_of d s.hand.kept s.hand.words x) y.region) y.word =
    c.clear_word.ensures.words ∙ ap (λ (o : Option Place). word_cleared s.hand.words o y.word) found in
    let cells : c.fill.new.self.cells ≡ filter (λ (z : Cell). not (is_same_cell y z)) s.unfilled.cells = c.fill.ensures in
    (λ i. world_of d s.hand.kept (words i) (aside s.desk.dropped.items (cells i)))
    ∙ fill_is d s.hand.kept s.hand.words x c.self.invariant y
    ∙ ap (λ (w : World). world_after w (events.Fill y)) c.self.view_is
