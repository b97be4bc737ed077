use Rattle.std.proofs.Common.{◌≡◌, ℕ, ◌<◌, ◌≤◌, List, All, length, get_or, sym, subst, ◌∙◌, arith}
use Rattle.std.proofs.lemmas.List.{get_or_default, length-set}
use Rattle.race_block.specs.Resolving.{IsPassLine}
use Rattle.race_seats.specs.declared.rooms.Work.{Work}
use Rattle.race_seats.specs.Rooms.{IsPrepared}
use Rattle.race_seats.proofs.LineLists.{prepared_more, same_after}
use Rattle.race_seats.proofs.tasks.prepare_all.Goals as goal

pub prepare-requires : goal.prepare-requires
prepare-requires c =
    let h = c.loop-at.invariant in
    let xs : List Work = c.args.works.now.items in
    let i : ℕ = c.loop-at.at in
    let room : i < length xs = let t = c.loop-at-test.true in let e = h.1 in omega (arith, t, e) in
    let e : Work = c.index_mut.result.now in
    record { fits = subst (λ (w : Work). All IsPassLine w.own.items) (sym (c.index_mut.ensures.value ∙ h.2 i e (omega arith))) (c.requires.fit i e room) }

pub loop-at-preserved : goal.loop-at-preserved
loop-at-preserved c =
    let h = c.loop-at.invariant in
    let xs : List Work = c.args.works.now.items in
    let ys : List Work = c.loop-at.works.items in
    let i : ℕ = c.loop-at.at in
    let y : Work = c.prepare.new.work in
    let room : i < length xs = let t = c.loop-at-test.true in let e = h.1 in omega (arith, t, e) in
    let near : i < length ys = let long = h.0 in omega (arith, room, long) in
    let before : c.index_mut.result.now ≡ get_or ys i y =
    c.index_mut.ensures.value ∙ get_or_default ys i c.index_mut.result.now y near in (
      length-set ys i y ∙ h.0,
      h.1,
      same_after xs ys i y h.2,
      prepared_more c.args.known.now xs ys i y y h.0 room h.2 h.3
          (subst (λ (w : Work). IsPrepared c.args.known.now w y) before c.in_ok-prepare.ensures),
    )

pub returns : goal.returns
returns c =
    let h = c.loop-at.invariant in
    let xs : List Work = c.args.works.now.items in
    let past : length xs ≤ c.loop-at.at = let t = c.loop-at-test.false in let e = h.1 in omega (arith, t, e) in record {
      all = h.0;
      each = λ p d near. h.3 p d (omega (arith, near, past));
    }
