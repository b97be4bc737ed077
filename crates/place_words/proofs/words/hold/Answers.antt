use Rattle.std.proofs.Common.{◌≡◌, ◌/◌, ℕ, List, length, set, sym, ap, ◌∙◌, subst}
use Rattle.std.specs.Prelude.{slice_index}
use Rattle.std.specs.Vec.{vec_capacity}
use Rattle.place_words.specs.Frames.{word_in, IsFramed}
use Rattle.place_words.proofs.FrameLaws.{framed_new, is_none, room_left, words_new}
use Rattle.place_words.proofs.words.hold.Goals as goal

pub add_frame-requires : goal.add_frame-requires
add_frame-requires c =
    let table : List ℕ = c.args.table.now.items in
    let none : slice_index table c.args.entry ≡ 0 = is_none table c.args.entry c.index.result.now c.requires.entry c.index.ensures c.if-index-eq0.true in
    record { room = room_left table c.args.frames.now.items (vec_capacity c.args.frames.now) c.args.entry c.requires.framed c.requires.entry none }

pub returns-then-index-eq0-clause-framed : goal.returns-then-index-eq0-clause-framed
returns-then-index-eq0-clause-framed c =
    let table : List ℕ = c.args.table.now.items in
    let none : slice_index table c.args.entry ≡ 0 = is_none table c.args.entry c.index.result.now c.requires.entry c.index.ensures c.if-index-eq0.true in
    let len : c.len.result ≡ length c.args.frames.now.items = c.len.ensures ∙ c.args.frames.now.ok.0 in
    subst (λ (frames : List ℕ). IsFramed (set table c.args.entry (c.len.result / 512)) frames (vec_capacity c.add_frame.new.frames)) (sym c.add_frame.ensures.words)
    (framed_new table c.args.frames.now.items (vec_capacity c.args.frames.now) (vec_capacity c.add_frame.new.frames) c.args.entry c.len.result len
    c.add_frame.ensures.capacity c.requires.entry none c.requires.framed)

pub returns-then-index-eq0-clause-words : goal.returns-then-index-eq0-clause-words
returns-then-index-eq0-clause-words c at l =
    let table : List ℕ = c.args.table.now.items in
    let none : slice_index table c.args.entry ≡ 0 = is_none table c.args.entry c.index.result.now c.requires.entry c.index.ensures c.if-index-eq0.true in
    let len : c.len.result ≡ length c.args.frames.now.items = c.len.ensures ∙ c.args.frames.now.ok.0 in
    ap (λ (frames : List ℕ). word_in (set table c.args.entry (c.len.result / 512)) frames at) c.add_frame.ensures.words
    ∙ words_new table c.args.frames.now.items (vec_capacity c.args.frames.now) c.args.entry c.len.result at len c.requires.entry none c.requires.framed l
