use Rattle.std.proofs.Common.{rules, ◌≡◌, ◌+◌, ◌<◌, ◌^◌, Option, Some, true, ap, subst, ◌∙◌, sym, arith, length, ltb-true, ℕ}
use Rattle.std.specs.Prelude.{nat_lt}
use Rattle.mem_base.specs.declared.access.cells.Place.{Place}
use Rattle.mem_base.specs.declared.machine.events.Event.TheVariants as events
use Rattle.mem_base.specs.access.Places.{mark_word, mark_words}
use Rattle.mem_base.specs.machine.World.{World, if_placed, possible, reply, number_in, world_after, place_in_world}
use Rattle.world_core.specs.Worlds.{aside, state_of}
use Rattle.world_core.proofs.WordLaws.{words_change}
use Rattle.world_core.proofs.PlaceLaws.{mark_far, mark_is_at, take_is, take_tells}
use Rattle.world_core.proofs.RestLaws.{shown}
use Rattle.world_core.proofs.world.World.take.Goals.{After-mark_of-word}
use Rattle.world_core.proofs.world.World.take.Goals as goal

-- the place, and its mark word

placed : (c : After-mark_of-word) → place_in_world (shown c.self.inside) c.args.region ≡ Some c.in-Some.place
placed c = ap (λ (w : World). place_in_world w c.args.region) c.self.view_is ∙ (sym c.place_of.ensures ∙ c.in-Some.is)

inside : (c : After-mark_of-word) → c.args.index < mark_words c.in-Some.place.bytes
inside c =
    let here : place_in_world c.args.self.now c.args.region ≡ Some c.in-Some.place = sym c.place_of.ensures ∙ c.in-Some.is in
    ltb-true c.args.index (mark_words c.in-Some.place.bytes)
    (ap (λ (o : Option Place). if_placed o (λ q. nat_lt c.args.index (mark_words q.bytes))) (sym here) ∙ c.requires)

word : (c : After-mark_of-word) → c.mark_of-word.result.0 ≡ mark_word c.in-Some.place c.args.client c.args.index
word c = mark_is_at c.in-Some.place c.args.client c.args.index c.first_page.result c.mark_of-word.result.0 c.first_page.ensures.value
    c.mark_of-word.ensures.word

near : (c : After-mark_of-word) → c.in-Some.place.start + c.mark_of-word.result.0 < length c.self.inside.hand.words
near c = let s = c.self.inside in
    subst (λ (n : ℕ). c.in-Some.place.start + n < length s.hand.words) (sym (word c))
    (mark_far (state_of s.desk s.due) s.hand.kept s.hand.words (aside s.desk.dropped.items s.unfilled.cells) c.self.invariant c.args.region c.in-Some.place
    (placed c) c.args.client c.args.index (inside c))

pub overflow_add-place : goal.overflow_add-place
overflow_add-place c =
    let l : c.in-Some.place.start + c.mark_of-word.result.0 < length c.self.inside.hand.words =
    near (goal.at.overflow_add-place c).After-mark_of-word in
    let few : length c.self.inside.hand.words < 2 ^ 64 = search rules in
    omega (arith, l, few)

pub step-requires : goal.step-requires
step-requires c = near (goal.at.step-requires c).After-mark_of-word

pub invariant_of-self : goal.invariant_of-self
invariant_of-self c =
    let s = c.self.inside in
    let at = (goal.at.invariant_of-self c).After-mark_of-word in
    let may : possible (shown s) (events.Harvest c.args.region c.args.client c.args.index) ≡ true =
    ap (λ (w : World). possible w (events.Harvest c.args.region c.args.client c.args.index)) c.self.view_is ∙ c.requires in
    let long : length c.step.new.self ≡ length s.hand.words = search rules in
    words_change (state_of s.desk s.due) s.hand.kept s.hand.words (aside s.desk.dropped.items s.unfilled.cells) c.self.invariant c.step.new.self
    (events.Harvest c.args.region c.args.client c.args.index) long may
    (take_is (state_of s.desk s.due) s.hand.kept s.hand.words (aside s.desk.dropped.items s.unfilled.cells) c.self.invariant c.args.region c.in-Some.place
    (placed at) c.args.client c.args.index (inside at) c.mark_of-word.result.0 (word at) c.step.new.self c.step.ensures.words)

pub returns-clause-old : goal.returns-clause-old
returns-clause-old c =
    let s = c.self.inside in
    let at = (goal.at.returns-clause-old c).After-mark_of-word in
    c.step.ensures.old
    ∙ take_tells (state_of s.desk s.due) s.hand.kept s.hand.words (aside s.desk.dropped.items s.unfilled.cells) c.self.invariant c.args.region
    c.in-Some.place (placed at) c.args.client c.args.index (inside at) c.mark_of-word.result.0 (word at)
    ∙ ap (λ (w : World). number_in (reply w (events.Harvest c.args.region c.args.client c.args.index))) c.self.view_is

pub returns-clause-world : goal.returns-clause-world
returns-clause-world c =
    let s = c.self.inside in
    let at = (goal.at.returns-clause-world c).After-mark_of-word in
    take_is (state_of s.desk s.due) s.hand.kept s.hand.words (aside s.desk.dropped.items s.unfilled.cells) c.self.invariant c.args.region c.in-Some.place
    (placed at) c.args.client c.args.index (inside at) c.mark_of-word.result.0 (word at) c.step.new.self c.step.ensures.words
    ∙ ap (λ (w : World). world_after w (events.Harvest c.args.region c.args.client c.args.index)) c.self.view_is
