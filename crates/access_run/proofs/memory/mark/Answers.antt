use Rattle.std.proofs.Common.{◌≡◌, ◌<◌, map, false, refl, sym, subst, ℕ, Some, [], ◌∷◌, ◌++◌, ◌∙◌, ap}
use Rattle.mem_base.specs.declared.map.kinds.Client.{Client}
use Rattle.mem_base.specs.lists.Every.{Every}
use Rattle.mem_base.specs.access.AccessSteps.{AccessStep, marks, tx}
use Rattle.mem_base.specs.access.MemoryAccess.{marked}
use Rattle.mem_base.specs.access.Places.{pages_in}
use Rattle.dirty_log.specs.MarksLeft.{first_of}
use Rattle.access_run.specs.Runs.{HasDone, IsUnderway}
use Rattle.access_run.proofs.HandLaws.{AreHandLaws, underway_none, underway_then}
use Rattle.access_base.proofs.MemoryLaws.{marks_inside, first_and_rest}
use Rattle.access_run.proofs.memory.mark.Goals as goal

pub loop-page-init : goal.loop-page-init
loop-page-init g c =
    let laws : AreHandLaws g.H.Entered.makes g.H.Entered.pass g.H.Entered.shows =
    record { begins = g.met.H.Entered.begins; goes_on = g.met.H.Entered.goes_on; stays = g.met.H.Entered.stays } in
    let is = c.marks_of-marks.ensures in (
      subst (λ ms. IsUnderway g.H.Entered.makes (g.H.Entered.pass c.args.hand.now) c.args.hand.now
          (marked c.args.place.now.region c.args.log c.args.offset c.args.len)
          (map (λ (m : ℕ × Client). marks c.args.place.now.region m.1 m.0) ms) [] (tx false false) c.args.hand.now) (sym is)
          (underway_none g.H.Entered.makes g.H.Entered.pass g.H.Entered.shows laws c.args.hand.now
          (marked c.args.place.now.region c.args.log c.args.offset c.args.len)),
      subst (λ ms. Every {A = ℕ × Client} (λ m. m.0 < pages_in c.args.place.now) ms) (sym is)
          (marks_inside c.args.log c.args.offset c.args.len c.args.place.now.bytes c.requires.within c.requires.pages),
    )

pub loop-page-preserved : goal.loop-page-preserved
loop-page-preserved g c =
    let laws : AreHandLaws g.H.Entered.makes g.H.Entered.pass g.H.Entered.shows =
    record { begins = g.met.H.Entered.begins; goes_on = g.met.H.Entered.goes_on; stays = g.met.H.Entered.stays } in
    let region = c.args.place.now.region in
    let first : Some (c.in-Some.page, c.in-Some.client) ≡ first_of c.loop-page.marks = sym c.in-Some.is ∙ c.next.ensures.first in
    let list : c.loop-page.marks ≡ (c.in-Some.page, c.in-Some.client) ∷ c.next.new.self =
    first_and_rest c.loop-page.marks c.next.new.self (c.in-Some.page, c.in-Some.client) first c.next.ensures.rest in
    let step : ℕ × Client → AccessStep = λ m. marks region m.1 m.0 in
    let rest : map step c.loop-page.marks ≡ (marks region c.in-Some.client c.in-Some.page ∷ []) ++ map step c.next.new.self = ap (map step) list in
    let h : HasDone g.H.Entered.makes (g.H.Entered.pass c.loop-page.hand) c.loop-page.hand (marks region c.in-Some.client c.in-Some.page ∷ []) []
    c.mark_page.new.self =
    record { replies = 0 ∷ []; made = c.mark_page.ensures; each = refl; read = refl } in (
      underway_then g.H.Entered.makes g.H.Entered.pass g.H.Entered.shows laws c.args.hand.now c.loop-page.hand c.mark_page.new.self
          (marked region c.args.log c.args.offset c.args.len) (map step c.loop-page.marks) (marks region c.in-Some.client c.in-Some.page ∷ [])
          (map step c.next.new.self) [] [] (tx false false) (tx false false) c.loop-page.invariant.0 rest h refl,
      (subst (λ ms. Every {A = ℕ × Client} (λ m. m.0 < pages_in c.args.place.now) ms) list c.loop-page.invariant.1).1,
    )
