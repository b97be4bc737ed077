use Rattle.std.proofs.Common.{◌≡◌, ℕ, List, length, set, ap, ◌∙◌, arith}
use Rattle.std.specs.Vec.{vec_capacity}
use Rattle.mem_base.specs.access.Words.{word_after}
use Rattle.place_words.specs.Frames.{shown, spot}
use Rattle.place_words.proofs.FrameLaws.{count_is, entry_is, shown_held}
use Rattle.place_words.proofs.words.Words.step.Goals as goal

pub hold-requires-clause-entry : goal.hold-requires-clause-entry
hold-requires-clause-entry c =
    let own = c.self.inside in
    entry_is own.table.items own.frames.items c.args.self.now own.count c.args.at c.self.view_is c.self.invariant.0 c.requires

pub returns-then-new-old-clause-words : goal.returns-then-new-old-clause-words
returns-then-new-old-clause-words c =
    let own = c.self.inside in
    let at : ℕ = c.args.at in
    let value : ℕ = c.after-new.result in
    let table : List ℕ = c.hold.new.table.items in
    let frames : List ℕ = c.hold.new.frames.items in
    let whole : length c.args.self.now ≡ own.count = count_is own.table.items own.frames.items c.args.self.now own.count c.self.view_is in
    let there : c.spot_of-spot.result ≡ spot table at = rw c.deref.ensures.value at c.spot_of-spot.ensures in
    ap (λ i. shown table (set frames i value) own.count) there
    ∙ shown_held own.table.items own.frames.items table frames own.count (vec_capacity c.hold.new.frames) at value c.self.invariant.0
    c.hold.ensures.entries c.hold.ensures.framed c.hold.ensures.own (omega (arith, c.requires)) c.hold.ensures.words
    ∙ ap (λ (ws : List ℕ). set ws at value) c.self.view_is
    ∙ ap (λ n. set c.args.self.now at n) (c.after-new.ensures ∙ ap (word_after c.args.step) c.word_at-old.ensures)
