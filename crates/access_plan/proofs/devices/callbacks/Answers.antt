use Rattle.std.proofs.Common.{◌≡◌, ℕ, ◌+◌, ◌-◌, ◌≤◌, min, List, [], ◌∷◌, map, refl, sym, ap, subst, ◌∙◌, arith}
use Rattle.mem_base.specs.declared.access.accesses.Piece.{Piece}
use Rattle.mem_base.specs.access.Pieces.{Callback, callbacks}
use Rattle.mem_base.specs.access.AccessSteps.{Transfer, part}
use Rattle.mem_base.specs.access.Plans.{Reached, callback, request, in_callback}
use Rattle.access_cut.specs.Offsets.{At, places}
use Rattle.access_base.specs.Sizes.{Tiles, callback_of}
use Rattle.access_base.proofs.DeviceLaws.{tiles_all, callbacks_at}
use Rattle.access_plan.specs.declared.lists.Reach.TheVariants as reach
use Rattle.access_plan.specs.Lists.{IsUnderway, moved, request_of}
use Rattle.access_plan.proofs.ListLaws.{underway_none, underway_then, adds_one, adds_as}
use Rattle.access_plan.proofs.DeviceLists.{callback_meant}
use Rattle.access_plan.proofs.devices.callbacks.Goals as goal

pub loop-offset-init : goal.loop-offset-init
loop-offset-init c =
    let piece : Piece = c.args.piece.now in
    let ops = c.args.ops.now in
    let t : Transfer = moved c.args.write c.args.bytes.now in
    let step : Callback → Reached = in_callback c.args.region ops (part c.args.at piece.size t) in
    let found : c.accesses-places.result ≡ places ops piece = c.accesses-places.ensures in
    let list : map step (callbacks ops piece) ≡ map step (map (callback_of piece) c.accesses-places.result) =
    ap (map step) (callbacks_at ops piece ∙ ap (map (callback_of piece)) (sym found)) in
    let end : c.args.at ≡ c.args.at + 0 = omega arith in (
      0,
      subst (λ l. Tiles piece 0 l) (sym found) (tiles_all ops piece c.requires.good c.requires.size),
      subst (λ n. IsUnderway t c.args.list.now.items c.args.list.now.items (map step (callbacks ops piece)) (map step (map (callback_of piece)
          c.accesses-places.result)) c.args.at n) end
          (subst (λ l. IsUnderway t c.args.list.now.items c.args.list.now.items (map step (callbacks ops piece)) l c.args.at c.args.at) list
          (underway_none t c.args.list.now.items (map step (callbacks ops piece)) c.args.at)),
    )

pub loop-offset-preserved : goal.loop-offset-preserved
loop-offset-preserved c =
    let piece : Piece = c.args.piece.now in
    let ops = c.args.ops.now in
    let region = c.args.region in
    let at : ℕ = c.args.at in
    let t : Transfer = moved c.args.write c.args.bytes.now in
    let step : Callback → Reached = in_callback region ops (part at piece.size t) in
    let o : ℕ = c.in-Some.offset in
    let s : ℕ = c.in-Some.size in
    let old : List At = c.loop-offset.places in
    let later : List At = c.next.new.self in
    let inv = c.loop-offset.invariant in
    let done : ℕ = inv.0 in
    let list : old ≡ (o, s) ∷ later = c.in-Some.ensures in
    let tiles = subst (λ l. Tiles piece done l) list inv.1 in
    let start : o ≡ piece.offset + done = tiles.0 in
    let most : done + min s piece.size ≤ piece.size = tiles.2 in
    let skipped : ℕ = at + (o - piece.offset) in
    let here : skipped ≡ at + done = omega (arith, start) in
    let count : c.min-count.result ≡ min s piece.size = c.min-count.ensures in
    let asked : callback region o s (request_of c.request_at.result) ≡ step (callback_of piece (o, s)) =
    ap (callback region o s) (c.request_at.ensures ∙ ap (λ n. request ops.big s (part skipped n t)) count)
    ∙ callback_meant region ops piece t at o s done skipped start most refl in
    let end : at + done + c.min-count.result ≡ at + (done + min s piece.size) = omega (arith, count) in
    let one = adds_as t c.loop-offset.list.items c.push.new.self.items (callback region o s (request_of c.request_at.result) ∷ [])
    (step (callback_of piece (o, s)) ∷ []) (at + done) (at + (done + min s piece.size)) (at + done) (at + (done + min s piece.size)) (ap (λ r. r ∷
    []) asked) refl refl
    (adds_one t c.loop-offset.list.items c.push.new.self.items (reach.Callback region o s c.request_at.result skipped c.min-count.result) (at + done)
    (at + (done + min s piece.size)) c.in_ok-push.ensures.items (here, end)) in (
      done + min s piece.size,
      tiles.4,
      underway_then t c.args.list.now.items c.loop-offset.list.items c.push.new.self.items (map step (callbacks ops piece))
          (map step (map (callback_of piece) old)) (step (callback_of piece (o, s)) ∷ []) (map step (map (callback_of piece) later)) at (at + done)
          (at + (done + min s piece.size)) inv.2 (ap (λ l. map step (map (callback_of piece) l)) list) one,
    )
