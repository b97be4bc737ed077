use Rattle.std.proofs.Common.{◌≡◌, ℕ, ◌+◌, ◌-◌, ◌≤◌, List, [], refl, sym, ap, subst, ◌∙◌, arith}
use Rattle.std.specs.Prelude.{flat_map}
use Rattle.mem_base.specs.declared.map.ioevents.Ioevent.{Ioevent}
use Rattle.mem_base.specs.declared.access.accesses.Piece.{Piece}
use Rattle.mem_base.specs.views.LiveEvents.{events_of}
use Rattle.mem_base.specs.access.Pieces.{pieces}
use Rattle.mem_base.specs.access.AccessSteps.{Transfer, length_of, part}
use Rattle.mem_base.specs.access.Plans.{Reached, in_piece, in_device}
use Rattle.access_plan.specs.Lists.{Adds, IsUnderway, moved}
use Rattle.access_plan.proofs.ListLaws.{underway_none, underway_then, all_done, adds_as, moved_length}
use Rattle.access_plan.proofs.DeviceLists.{piece_in, piece_meant, next_of, within_of, all_of}
use Rattle.access_plan.proofs.devices.device.Goals as goal

pub loop-next-init : goal.loop-next-init
loop-next-init c =
    let ops = c.args.ops.now in
    let n : ℕ = c.args.len in
    let u : Transfer = moved c.args.write c.args.bytes.now in
    let t : Transfer = part c.args.at n u in
    let events : List Ioevent = events_of c.args.g.now.forest c.args.region in
    let whole : List Reached = in_device c.args.region c.args.offset ops events t in
    let size : length_of t ≡ n = moved_length c.args.write c.args.bytes.now c.args.at n c.requires.within in
    let all : whole ≡ flat_map (piece_in c.args.region ops events c.args.offset t) c.cut-pieces.result =
    ap (λ m. flat_map (piece_in c.args.region ops events c.args.offset t) (pieces ops c.args.offset m)) size
    ∙ ap (flat_map (piece_in c.args.region ops events c.args.offset t)) (sym c.cut-pieces.ensures) in
    let here : c.args.offset ≡ c.args.offset + 0 = omega arith in
    let left : n ≡ n - 0 = omega arith in
    let end : c.args.at ≡ c.args.at + 0 = omega arith in (
      omega arith,
      c.cut-pieces.ensures ∙ (λ i. pieces ops (here i) (left i)),
      subst (λ m. IsUnderway u c.args.list.now.items c.args.list.now.items whole (flat_map (piece_in c.args.region ops events c.args.offset t)
          c.cut-pieces.result)
          c.args.at m) end
          (subst (λ l. IsUnderway u c.args.list.now.items c.args.list.now.items whole l c.args.at c.args.at) all (underway_none u
          c.args.list.now.items whole c.args.at)),
    )

pub piece-requires-clause-cut : goal.piece-requires-clause-cut
piece-requires-clause-cut c = (next_of c.args.ops.now c.args.offset c.args.len c.loop-next.done c.in-Some.next c.loop-next.pieces c.next.new.self
    c.requires.good c.loop-next.invariant.0 c.requires.offsets c.loop-next.invariant.1 c.in-Some.ensures).cut

pub piece-requires-clause-size : goal.piece-requires-clause-size
piece-requires-clause-size c = (next_of c.args.ops.now c.args.offset c.args.len c.loop-next.done c.in-Some.next c.loop-next.pieces c.next.new.self
    c.requires.good c.loop-next.invariant.0 c.requires.offsets c.loop-next.invariant.1 c.in-Some.ensures).sized

pub piece-requires-clause-within : goal.piece-requires-clause-within
piece-requires-clause-within c = λ w. let h = c.requires.within w in let m = within_of c.args.ops.now c.args.offset c.args.len c.loop-next.done
    c.in-Some.next c.next.new.self c.loop-next.invariant.0 (next_of c.args.ops.now c.args.offset c.args.len c.loop-next.done c.in-Some.next
    c.loop-next.pieces c.next.new.self c.requires.good c.loop-next.invariant.0 c.requires.offsets c.loop-next.invariant.1 c.in-Some.ensures) in omega
    (arith, h, m)

pub piece-requires-clause-bound : goal.piece-requires-clause-bound
piece-requires-clause-bound c = let h = c.requires.bound in let m = within_of c.args.ops.now c.args.offset c.args.len c.loop-next.done c.in-Some.next
    c.next.new.self c.loop-next.invariant.0 (next_of c.args.ops.now c.args.offset c.args.len c.loop-next.done c.in-Some.next c.loop-next.pieces
    c.next.new.self c.requires.good c.loop-next.invariant.0 c.requires.offsets c.loop-next.invariant.1 c.in-Some.ensures) in omega (arith, h, m)

pub overflow_add-done : goal.overflow_add-done
overflow_add-done c = let h = c.requires.bound in let m = within_of c.args.ops.now c.args.offset c.args.len c.loop-next.done c.in-Some.next
    c.next.new.self c.loop-next.invariant.0 (next_of c.args.ops.now c.args.offset c.args.len c.loop-next.done c.in-Some.next c.loop-next.pieces
    c.next.new.self c.requires.good c.loop-next.invariant.0 c.requires.offsets c.loop-next.invariant.1 c.in-Some.ensures) in omega (arith, h, m)

pub loop-next-preserved : goal.loop-next-preserved
loop-next-preserved c =
    let ops = c.args.ops.now in
    let n : ℕ = c.args.len in
    let at : ℕ = c.args.at in
    let offset : ℕ = c.args.offset in
    let region = c.args.region in
    let u : Transfer = moved c.args.write c.args.bytes.now in
    let t : Transfer = part at n u in
    let events : List Ioevent = events_of c.args.g.now.forest region in
    let f : Piece → List Reached = piece_in region ops events offset t in
    let p : Piece = c.in-Some.next in
    let done : ℕ = c.loop-next.done in
    let np = next_of c.args.ops.now c.args.offset c.args.len c.loop-next.done c.in-Some.next c.loop-next.pieces c.next.new.self c.requires.good
    c.loop-next.invariant.0 c.requires.offsets c.loop-next.invariant.1 c.in-Some.ensures in
    let fits : done + p.size ≤ n = within_of c.args.ops.now c.args.offset c.args.len c.loop-next.done c.in-Some.next c.next.new.self
    c.loop-next.invariant.0 (next_of c.args.ops.now c.args.offset c.args.len c.loop-next.done c.in-Some.next c.loop-next.pieces c.next.new.self
    c.requires.good c.loop-next.invariant.0 c.requires.offsets c.loop-next.invariant.1 c.in-Some.ensures) in
    let here : offset + done + p.size ≡ offset + (done + p.size) = omega arith in
    let left : n - done - p.size ≡ n - (done + p.size) = omega arith in
    let end : at + done + p.size ≡ at + (done + p.size) = omega arith in
    let one = adds_as u c.loop-next.list.items c.piece.new.list.items (in_piece region ops events p (part (at + done) p.size u)) (f p) (at + done)
    (at + done + p.size) (at + done) (at + (done + p.size)) (piece_meant region ops events offset p u at n done np.at fits) refl end c.in_ok-piece.ensures in (
      fits,
      np.later ∙ (λ i. pieces ops (here i) (left i)),
      underway_then u c.args.list.now.items c.loop-next.list.items c.piece.new.list.items (in_device region offset ops events t) (flat_map f c.loop-next.pieces)
          (f p) (flat_map f c.next.new.self) at (at + done) (at + (done + p.size)) c.loop-next.invariant.2 (ap (flat_map f) c.in-Some.ensures) one,
    )

pub returns : goal.returns
returns c =
    let ops = c.args.ops.now in
    let at : ℕ = c.args.at in
    let u : Transfer = moved c.args.write c.args.bytes.now in
    let t : Transfer = part at c.args.len u in
    let events : List Ioevent = events_of c.args.g.now.forest c.args.region in
    let whole : List Reached = in_device c.args.region c.args.offset ops events t in
    let none : c.loop-next.pieces ≡ [] = c.in_default.ensures.0 in
    let all : c.loop-next.done ≡ c.args.len =
    all_of ops c.args.offset c.args.len c.loop-next.done c.loop-next.pieces c.requires.good c.loop-next.invariant.0 c.loop-next.invariant.1 none in
    subst (λ m. Adds u c.args.list.now.items c.loop-next.list.items whole at (at + m)) all
    (all_done u c.args.list.now.items c.loop-next.list.items whole (flat_map (piece_in c.args.region ops events c.args.offset t) c.loop-next.pieces) at
    (at + c.loop-next.done) c.loop-next.invariant.2 (ap (flat_map (piece_in c.args.region ops events c.args.offset t)) none))
