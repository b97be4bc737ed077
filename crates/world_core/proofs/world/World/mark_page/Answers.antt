use Rattle.std.proofs.Common.{rules, ◌≡◌, Some, true, sym, ap, subst, ◌∙◌, arith}
use Rattle.std.specs.Prelude.{◌<◌, ◌+◌, ◌^◌, ℕ, List, length}
use Rattle.mem_base.specs.declared.machine.events.Event.{Event}
use Rattle.mem_base.specs.declared.machine.events.Event.TheVariants as events
use Rattle.mem_base.specs.access.Cells.{words_after}
use Rattle.mem_base.specs.access.Places.{word_of_page, bit_of_page}
use Rattle.mem_base.specs.access.PlacesByRegion.{place_in}
use Rattle.mem_base.specs.declared.access.cells.WordStep.TheVariants.{Or}
use Rattle.mem_base.specs.machine.World.{World, possible, world_after}
use Rattle.transact.specs.Backed.{all_places}
use Rattle.writer_desk.specs.Writers.{WriterState}
use Rattle.world_core.specs.Worlds.{Aside, aside, world_of, state_of}
use Rattle.world_core.proofs.WordLaws.{far, mark_is, words_change}
use Rattle.world_core.proofs.world.World.mark_page.Goals as goal

pub overflow_add-place : goal.overflow_add-place
overflow_add-place c =
    let s = c.self.inside in
    let d : WriterState = state_of s.desk s.due in
    let x : Aside = aside s.desk.dropped.items s.unfilled.cells in
    let p = c.args.place.now in
    let word : c.mark_of-word.result.0 ≡ word_of_page p c.args.client c.args.page = search rules in
    let is : place_in (all_places d.backed.backing) p.region ≡ Some p = search rules in
    let l : p.start + word_of_page p c.args.client c.args.page < length s.hand.words =
    far d s.hand.kept s.hand.words x c.self.invariant p.region p (word_of_page p c.args.client c.args.page) is c.requires.within in
    let few : length s.hand.words < 2 ^ 64 = search rules in
    omega (arith, l, few, word)

pub step-requires : goal.step-requires
step-requires c =
    let s = c.self.inside in
    let d : WriterState = state_of s.desk s.due in
    let p = c.args.place.now in
    let word : c.mark_of-word.result.0 ≡ word_of_page p c.args.client c.args.page = search rules in
    let is : place_in (all_places d.backed.backing) p.region ≡ Some p = search rules in
    subst (λ (n : ℕ). p.start + n < length s.hand.words) (sym word)
    (far d s.hand.kept s.hand.words (aside s.desk.dropped.items s.unfilled.cells) c.self.invariant p.region p (word_of_page p c.args.client c.args.page) is
    c.requires.within)

pub invariant_of-self : goal.invariant_of-self
invariant_of-self c =
    let s = c.self.inside in
    let d : WriterState = state_of s.desk s.due in
    let x : Aside = aside s.desk.dropped.items s.unfilled.cells in
    let p = c.args.place.now in
    let e : Event = events.Mark c.args.pass p.region c.args.client c.args.page in
    let is : place_in (all_places d.backed.backing) p.region ≡ Some p = search rules in
    let may : possible (world_of d s.hand.kept s.hand.words x) e ≡ true = search rules in
    let words : words_after s.hand.words (p.start + word_of_page p c.args.client c.args.page) (Or (bit_of_page c.args.page)) ≡ c.step.new.self = search rules in
    let long : length c.step.new.self ≡ length s.hand.words = search rules in
    words_change d s.hand.kept s.hand.words x c.self.invariant c.step.new.self e long may
    (ap (λ (vs : List ℕ). world_of d s.hand.kept vs x) (sym words)
    ∙ mark_is d s.hand.kept s.hand.words x c.self.invariant c.args.pass p c.args.client c.args.page is c.requires.within)

pub returns : goal.returns
returns c =
    let s = c.self.inside in
    let d : WriterState = state_of s.desk s.due in
    let x : Aside = aside s.desk.dropped.items s.unfilled.cells in
    let p = c.args.place.now in
    let e : Event = events.Mark c.args.pass p.region c.args.client c.args.page in
    let is : place_in (all_places d.backed.backing) p.region ≡ Some p = search rules in
    let words : words_after s.hand.words (p.start + word_of_page p c.args.client c.args.page) (Or (bit_of_page c.args.page)) ≡ c.step.new.self = search rules in
    ap (λ (vs : List ℕ). world_of d s.hand.kept vs x) (sym words)
    ∙ mark_is d s.hand.kept s.hand.words x c.self.invariant c.args.pass p c.args.client c.args.page is c.requires.within
    ∙ ap (λ (w : World). world_after w e) c.self.view_is
