use Rattle.std.proofs.Common.{rules, ◌≡◌, Some, true, sym, ap, ◌∙◌, arith}
use Rattle.std.specs.Prelude.{◌<◌, ◌+◌, ◌^◌, ℕ, List, length}
use Rattle.mem_base.specs.declared.machine.events.Event.{Event}
use Rattle.mem_base.specs.declared.machine.events.Event.TheVariants as events
use Rattle.mem_base.specs.access.Cells.{cell, words_after}
use Rattle.mem_base.specs.access.PlacesByRegion.{place_in}
use Rattle.mem_base.specs.machine.World.{World, possible, reply, number_in, world_after}
use Rattle.transact.specs.Backed.{all_places}
use Rattle.writer_desk.specs.Writers.{WriterState}
use Rattle.world_core.specs.Worlds.{Aside, aside, world_of, state_of}
use Rattle.world_core.proofs.WordLaws.{far, step_is, step_tells, words_change}
use Rattle.world_core.proofs.world.World.step_word.Goals as goal

pub overflow_add-place : goal.overflow_add-place
overflow_add-place c =
    let s = c.self.inside in
    let d : WriterState = state_of s.desk s.due in
    let x : Aside = aside s.desk.dropped.items s.unfilled.cells in
    let p = c.args.place.now in
    let is : place_in (all_places d.backed.backing) p.region ≡ Some p = search rules in
    let l : p.start + c.args.word < length s.hand.words = far d s.hand.kept s.hand.words x c.self.invariant p.region p c.args.word is c.requires.within in
    let few : length s.hand.words < 2 ^ 64 = search rules in
    omega (arith, l, few)

pub step-requires : goal.step-requires
step-requires c =
    let s = c.self.inside in
    let d : WriterState = state_of s.desk s.due in
    let p = c.args.place.now in
    let is : place_in (all_places d.backed.backing) p.region ≡ Some p = search rules in
    far d s.hand.kept s.hand.words (aside s.desk.dropped.items s.unfilled.cells) c.self.invariant p.region p c.args.word is c.requires.within

pub invariant_of-self : goal.invariant_of-self
invariant_of-self c =
    let s = c.self.inside in
    let d : WriterState = state_of s.desk s.due in
    let x : Aside = aside s.desk.dropped.items s.unfilled.cells in
    let p = c.args.place.now in
    let e : Event = events.Word c.args.hand (cell p.region c.args.word) c.args.step in
    let is : place_in (all_places d.backed.backing) p.region ≡ Some p = search rules in
    let may : possible (world_of d s.hand.kept s.hand.words x) e ≡ true = search rules in
    let words : words_after s.hand.words (p.start + c.args.word) c.args.step ≡ c.step.new.self = search rules in
    let long : length c.step.new.self ≡ length s.hand.words = search rules in
    words_change d s.hand.kept s.hand.words x c.self.invariant c.step.new.self e long may
    (ap (λ (vs : List ℕ). world_of d s.hand.kept vs x) (sym words)
    ∙ step_is d s.hand.kept s.hand.words x c.self.invariant c.args.hand p c.args.word c.args.step is c.requires.within)

pub returns-clause-old : goal.returns-clause-old
returns-clause-old c =
    let s = c.self.inside in
    let d : WriterState = state_of s.desk s.due in
    let x : Aside = aside s.desk.dropped.items s.unfilled.cells in
    let p = c.args.place.now in
    let e : Event = events.Word c.args.hand (cell p.region c.args.word) c.args.step in
    let is : place_in (all_places d.backed.backing) p.region ≡ Some p = search rules in
    c.step.ensures.old ∙ step_tells d s.hand.kept s.hand.words x c.self.invariant c.args.hand p c.args.word c.args.step is c.requires.within
    ∙ ap (λ (w : World). number_in (reply w e)) c.self.view_is

pub returns-clause-world : goal.returns-clause-world
returns-clause-world c =
    let s = c.self.inside in
    let d : WriterState = state_of s.desk s.due in
    let x : Aside = aside s.desk.dropped.items s.unfilled.cells in
    let p = c.args.place.now in
    let e : Event = events.Word c.args.hand (cell p.region c.args.word) c.args.step in
    let is : place_in (all_places d.backed.backing) p.region ≡ Some p = search rules in
    let words : words_after s.hand.words (p.start + c.args.word) c.args.step ≡ c.step.new.self = search rules in
    ap (λ (vs : List ℕ). world_of d s.hand.kept vs x) (sym words)
    ∙ step_is d s.hand.kept s.hand.words x c.self.invariant c.args.hand p c.args.word c.args.step is c.requires.within
    ∙ ap (λ (w : World). world_after w e) c.self.view_is
