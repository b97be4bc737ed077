use Rattle.std.proofs.Common.{◌≡◌, ◌+◌, ◌/◌, ℕ, List, length, sym, ap, ◌∙◌, subst, arith}
use Rattle.std.specs.Prelude.{replicate}
use Rattle.std.specs.Vec.{vec_capacity}
use Rattle.place_words.specs.Frames.{shown, IsFramed}
use Rattle.place_words.proofs.FrameLaws.{framed_first, shown_first, zeros_length}
use Rattle.place_words.proofs.words.Words.new.Goals as goal

pub invariant_of-result : goal.invariant_of-result
invariant_of-result c =
    let n : ℕ = c.args.count / 512 + 1 in
    let room : ℕ = vec_capacity c.in_ok-frames.frames in
    let table : c.in_ok-table.table.items ≡ replicate n 0 = c.in_ok-table.ensures.items_if_clones_equal (λ y e. e) in
    let entries : length c.in_ok-table.table.items ≡ n = ap length table ∙ zeros_length n in
    let first : IsFramed (replicate n 0) (replicate 512 0) room = framed_first n room (omega (arith, c.in_ok-frames.ensures.room)) in
    let framed : IsFramed c.in_ok-table.table.items (replicate 512 0) room = subst (λ (t : List ℕ). IsFramed t (replicate 512 0) room) (sym table) first in
    (omega arith, subst (λ (ws : List ℕ). IsFramed c.in_ok-table.table.items ws room) (sym c.in_ok-frames.ensures.words) framed)

pub returns : goal.returns
returns c =
    let table : c.in_ok-table.table.items ≡ replicate (c.args.count / 512 + 1) 0 = c.in_ok-table.ensures.items_if_clones_equal (λ y e. e) in
    let frames : c.in_ok-frames.frames.items ≡ replicate 512 0 = c.in_ok-frames.ensures.words in
    ap (λ t. shown t c.in_ok-frames.frames.items c.args.count) table
    ∙ ap (λ ws. shown (replicate (c.args.count / 512 + 1) 0) ws c.args.count) frames
    ∙ shown_first (c.args.count / 512 + 1) c.args.count
