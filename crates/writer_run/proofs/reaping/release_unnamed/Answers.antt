use Rattle.std.proofs.Common.{◌+◌, ◌<◌, Bool, List, ℕ, length, filter, drop, sym, ap, ◌∙◌}
use Rattle.std.specs.Prelude.{not}
use Rattle.mem_base.specs.declared.map.ids.RegionId.{RegionId}
use Rattle.writer_desk.specs.Listened.{ListenedState}
use Rattle.writer_hand.specs.Hands.{is_named_from}
use Rattle.writer_run.specs.Reaped.{without_regions}
use Rattle.writer_run.proofs.ReapLaws.{pass_one, release_one, release_last}
use Rattle.writer_run.proofs.reaping.release_unnamed.Goals as goal
use Rattle.writer_run.proofs.reaping.release_unnamed.Goals.{then-not-held, else-not-held}

pub loop-region-preserved : goal.loop-region-preserved
loop-region-preserved g c =
    let test : RegionId → Bool = λ r. not (is_named_from (g.H.Writing.generations c.args.hand.now) c.args.lowest r) in
    let rs : List RegionId = c.args.regions.now in
    let i : ℕ = c.loop-region.region-index in
    let d : ListenedState = c.loop-region.desk in
    let other : RegionId = record { 0 = 0 } in
    let near : i < length rs = c.loop-region-test.true in
    let k = c.loop-region.invariant in
    elim c.if-not-held.branch [
      | then-not-held w ↦
          let made = w.desk-is ∙ w.release.ensures.desk in record {
            whole = release_one test rs i other near d c.if-not-held.desk (sym (ap not w.if-not-held.ensures)) made ∙ k.whole;
            desk = ap (λ (x : ListenedState). x.backed.desk) made ∙ k.desk;
          }
      | else-not-held w ↦ record {
        whole = ap (λ (x : ListenedState). without_regions x (filter test (drop (i + 1) rs))) w.desk-is
            ∙ pass_one test rs i other near d (sym (ap not w.if-not-held.ensures)) ∙ k.whole;
        desk = ap (λ (x : ListenedState). x.backed.desk) w.desk-is ∙ k.desk;
      }
    ]

pub returns : goal.returns
returns g c =
    release_last (λ r. not (is_named_from (g.H.Writing.generations c.args.hand.now) c.args.lowest r)) c.args.regions.now c.loop-region.region-index
    c.args.desk.now c.loop-region.desk c.loop-region-test.false c.loop-region.invariant.whole
