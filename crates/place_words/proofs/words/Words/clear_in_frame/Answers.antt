use Rattle.std.proofs.Common.{◌≡◌, ◌+◌, ◌*◌, ◌-◌, ◌/◌, ◌<◌, ◌≤◌, ℕ, List, length, sym, ap, ◌∙◌, subst, arith}
use Rattle.std.specs.Prelude.{slice_index}
use Rattle.std.specs.Vec.{vec_capacity}
use Rattle.place_words.specs.Blocks.{cleared_between}
use Rattle.place_words.specs.Frames.{shown, spot, IsFramed}
use Rattle.place_words.proofs.FrameLaws.{count_is, entry_is, is_own, is_none, shown_cleared, shown_zero, framed_cleared}
use Rattle.place_words.proofs.words.Words.clear_in_frame.Goals as goal

-- the first word has an entry
entry : (c : goal.After-index-arg-1) → c.args.start / 512 < length c.self.inside.table.items
entry c = entry_is c.self.inside.table.items c.self.inside.frames.items c.args.self.now c.self.inside.count c.args.start c.self.view_is
    c.self.invariant.0 (omega (arith, c.requires))

pub index-requires : goal.index-requires
index-requires c = let l = entry c in omega (arith, l, c.self.inside.table.ok)

pub spot_of-first-requires-clause-entry : goal.spot_of-first-requires-clause-entry
spot_of-first-requires-clause-entry c =
    let own = c.self.inside in
    let l = entry_is own.table.items own.frames.items c.args.self.now own.count c.args.start c.self.view_is c.self.invariant.0 (omega (arith, c.requires)) in
    subst (λ (table : List ℕ). c.args.start / 512 < length table) (sym c.deref.ensures.value) l

pub invariant_of-self : goal.invariant_of-self
invariant_of-self c =
    let own = c.self.inside in
    let start : ℕ = c.args.start in
    let end : ℕ = c.args.end in
    let table : List ℕ = own.table.items in
    let frames : List ℕ = own.frames.items in
    let room : ℕ = vec_capacity own.frames in
    let first : c.spot_of-first.result ≡ spot table start = rw c.deref.ensures.value at c.spot_of-first.ensures in
    let l : start / 512 < length table = entry_is table frames c.args.self.now own.count start c.self.view_is c.self.invariant.0 (omega (arith, c.requires)) in
    let owned : 0 < slice_index table (start / 512) = is_own table (start / 512) c.index.result.now l c.index.ensures c.if-index-ne0.true in
    let inside : (slice_index table (start / 512) + 1) * 512 ≤ length frames = c.self.invariant.1.inside (start / 512) l in
    let framed : IsFramed table (cleared_between (spot table start) (spot table start + (end - start)) frames) room =
    framed_cleared table frames room (spot table start) (spot table start + (end - start)) c.self.invariant.1 (omega arith) (omega arith)
    (omega (arith, c.requires)) in
    let words : c.clear_between.new.words.items ≡ cleared_between (spot table start) (spot table start + (end - start)) frames =
    rw first at c.clear_between.ensures.words in (
      c.self.invariant.0,
      subst (λ (ws : List ℕ). IsFramed table ws (vec_capacity c.clear_between.new.words)) (sym words)
          (subst (λ n. IsFramed table (cleared_between (spot table start) (spot table start + (end - start)) frames) n) (sym c.clear_between.ensures.capacity) framed),
    )

pub returns-then-index-ne0-clause-words : goal.returns-then-index-ne0-clause-words
returns-then-index-ne0-clause-words c =
    let own = c.self.inside in
    let start : ℕ = c.args.start in
    let end : ℕ = c.args.end in
    let table : List ℕ = own.table.items in
    let whole : length c.args.self.now ≡ own.count = count_is table own.frames.items c.args.self.now own.count c.self.view_is in
    let first : c.spot_of-first.result ≡ spot table start = rw c.deref.ensures.value at c.spot_of-first.ensures in
    let l : start / 512 < length table = entry_is table own.frames.items c.args.self.now own.count start c.self.view_is c.self.invariant.0 (omega (arith, c.requires)) in
    let within : end ≤ own.count = omega (arith, c.requires) in
    ap (λ ws. shown table ws own.count) (rw first at c.clear_between.ensures.words)
    ∙ shown_cleared table own.frames.items (vec_capacity own.frames) own.count start end c.self.invariant.0 c.self.invariant.1
    (is_own table (start / 512) c.index.result.now l c.index.ensures c.if-index-ne0.true) c.requires.some c.requires.one within
    ∙ ap (cleared_between start end) c.self.view_is

pub returns-else-index-ne0-clause-words : goal.returns-else-index-ne0-clause-words
returns-else-index-ne0-clause-words c =
    let own = c.self.inside in
    let start : ℕ = c.args.start in
    let end : ℕ = c.args.end in
    let table : List ℕ = own.table.items in
    let whole : length c.args.self.now ≡ own.count = count_is table own.frames.items c.args.self.now own.count c.self.view_is in
    let l : start / 512 < length table = entry_is table own.frames.items c.args.self.now own.count start c.self.view_is c.self.invariant.0 (omega (arith, c.requires)) in
    let within : end ≤ own.count = omega (arith, c.requires) in
    sym c.self.view_is
    ∙ shown_zero table own.frames.items (vec_capacity own.frames) own.count start end c.self.invariant.0 c.self.invariant.1
    (is_none table (start / 512) c.index.result.now l c.index.ensures c.if-index-ne0.false) c.requires.some c.requires.one within
    ∙ ap (cleared_between start end) c.self.view_is
