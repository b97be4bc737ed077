use Rattle.std.proofs.Common.{◌≡◌, ◌+◌, ◌-◌, ◌<◌, ◌∙◌, sym, ap, arith, rules, length, get_or, [], Some}
use Rattle.std.proofs.lemmas.Option.{slice_get-get_or}
use Rattle.std.specs.List.{slice_get}
use Rattle.mem_base.specs.views.Slices.{path_told, slices_of}
use Rattle.mem_base.specs.views.View.{Merges}
use Rattle.flat_simplify.proofs.MergeLaws.{paths_meet, turn_longer, turn_next, turned, merging_first, merging_last, no_range}
use Rattle.flat_simplify.proofs.merge.Goals as goal
use Rattle.flat_simplify.proofs.merge.Goals.{then-merges, else-merges}

pub merges-requires : goal.merges-requires
merges-requires c = record { some = search rules; within = search rules }

pub loop-i-init : goal.loop-i-init
loop-i-init c = record {
  merging = merging_first c.args.ranges.now c.args.paths.now no_range (search rules) c.requires.paths c.requires.ranges;
  kept_below = omega arith;
  within = search rules;
}

pub loop-i-preserved : goal.loop-i-preserved
loop-i-preserved c =
    let now = c.loop-i.ranges in
    let paths = c.args.paths.now in
    let i = c.loop-i.i in
    let told = path_told (slices_of c.args.ranges.now paths) in
    let current = c.loop-i.current in
    let next = get_or now i no_range in
    let n = c.loop-i.auto.ranges in
    let t = c.loop-i-test.true in
    let many = c.requires.paths in
    let kept_below = c.loop-i.invariant.kept_below in
    let in_now : i < length now = omega arith in
    let in_paths : i < length paths = omega arith in
    let meet = paths_meet told _ _ current (get_or paths (i - 1) []) now paths i no_range in_now in_paths c.loop-i.invariant.merging in
    let here : slice_get paths (i - 1) ≡ Some (told current.last) = slice_get-get_or paths (i - 1) [] (omega arith) ∙ ap (λ p. Some p) (sym meet.0) in
    let there : slice_get paths i ≡ Some (told next.start) = slice_get-get_or paths i [] in_paths ∙ ap (λ p. Some p) (sym meet.1) in
    let at : i + 1 - 1 ≡ i = omega arith in
    elim c.if-merges.branch [
      | then-merges w ↦
          let m : Merges told current next = (c.merges.ensures told here there).0 w.if-merges.true in
          let step = turn_longer told c.args.ranges.now now paths c.loop-i.kept i current
          (get_or paths (i - 1) []) no_range in_now in_paths c.loop-i.invariant.merging m in
          record {
            merging = turned told c.args.ranges.now _ _ _ _ _ _ _ _ _ _ w.ranges-is w.kept-is w.current-is (ap (λ k. get_or paths k []) at) step;
            kept_below = let k = w.kept-is in omega arith;
            within = let l = c.if-merges.auto.ranges in omega arith;
          }
      | else-merges w ↦
          let m : Merges told current next → ⊥ = λ m. let yes = (c.merges.ensures told here there).1 m in let no = w.if-merges.false in cc in
          let step = turn_next told c.args.ranges.now now paths c.loop-i.kept i current
          (get_or paths (i - 1) []) no_range in_now in_paths kept_below c.loop-i.invariant.merging m in
          record {
            merging = turned told c.args.ranges.now _ _ _ _ _ _ _ _ _ _ w.ranges-is w.kept-is w.current-is (ap (λ k. get_or paths k []) at) step;
            kept_below = let k = w.kept-is in omega arith;
            within = let l = c.if-merges.auto.ranges in omega arith;
          }
    ]

pub returns-clause-ranges : goal.returns-clause-ranges
returns-clause-ranges c = (merging_last _ c.args.ranges.now c.loop-i.ranges c.args.paths.now c.loop-i.kept c.loop-i.i c.loop-i.current _ (omega arith)
    (omega arith) c.loop-i.invariant.merging).ranges
