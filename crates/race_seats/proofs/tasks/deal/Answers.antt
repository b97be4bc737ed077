use Rattle.std.proofs.Common.{rules, ◌≡◌, ◌<◌, ◌∷◌, ◌++◌, ◌∙◌, ℕ, List, get_or, length, map, refl, sym, ap, subst, arith}
use Rattle.std.specs.Prelude.{slice_set}
use Rattle.std.proofs.lemmas.List.{get_or_default, take-append-drop}
use Rattle.mem_base.specs.lists.Every.{Every}
use Rattle.mem_base.specs.script.Race.{actor_number}
use Rattle.mem_base.specs.script.Scripts.{Line}
use Rattle.run_laws.specs.Fitting.{AreFitting}
use Rattle.race_phases.specs.Plain.{whose_line}
use Rattle.race_block.specs.Desks.{lines_meant}
use Rattle.race_seats.specs.declared.rooms.Work.{Work}
use Rattle.race_seats.specs.Rooms.{most_actors}
use Rattle.race_seats.proofs.LineLists.{near_first, none_dealt, rest_fits, rest_noted, run_dealt, run_noted}
use Rattle.race_seats.proofs.tasks.deal.Goals as goal

pub loop-who-init : goal.loop-who-init
loop-who-init c = (none_dealt c.args.lines.now c.args.lines.now c.args.works.now.items refl c.requires.idle, c.requires.whose, c.requires.fits)

pub loop-who-preserved : goal.loop-who-preserved
loop-who-preserved c =
    let rest : List Line = c.loop-who.rest.now in
    let whose : List ℕ = c.loop-who.left.now in
    let who : ℕ = c.in-Some.who.now in
    let n : ℕ = c.count_first-count.result in
    let run : List Line = c.split_at.result.0.now in
    let works : List Work = c.loop-who.works.items in
    let later : Work = c.put_lines.new.work in
    let so_far = c.loop-who.invariant in
    let first : whose ≡ who ∷ c.in-Some.field-0-1.now = search rules in
    let few : who < most_actors = near_first who c.in-Some.field-0-1.now rest whose first so_far.1 so_far.2 in
    let near : who < length works = let all = so_far.0.all in omega (arith, few, all) in
    let before : c.index_mut.result.now ≡ get_or works who later =
    c.index_mut.ensures.value ∙ get_or_default works who c.index_mut.result.now later near in (
      run_dealt c.args.lines.now rest run c.split_at.result.1.now who works (slice_set works who later)
          (sym (take-append-drop n rest) ∙ (λ j. sym c.split_at.ensures.front j ++ sym c.split_at.ensures.back j))
          (subst (Every (λ line. actor_number line.1 ≡ who)) (sym c.split_at.ensures.front)
          (run_noted who rest whose n so_far.1 c.count_first-count.ensures.value))
          few
          (record {
            later = later;
            set_at = refl;
            put = c.in_ok-put_lines.ensures.lines ∙ ap (λ (w : Work). lines_meant w.own.items ++ run) before;
            bounce = c.in_ok-put_lines.ensures.bounce ∙ ap (λ (w : Work). w.bounce) before;
          })
          so_far.0,
      c.split_at-in-Some.ensures.back ∙ rest_noted rest whose n so_far.1 ∙ ap (map whose_line) (sym c.split_at.ensures.back),
      subst AreFitting (sym c.split_at.ensures.back) (rest_fits rest n so_far.2),
    )
