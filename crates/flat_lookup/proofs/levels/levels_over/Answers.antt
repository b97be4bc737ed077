use Rattle.std.proofs.Common.{◌≡◌, ◌∙◌, ◌-◌, ◌<◌, List, ℕ, length, get_or, [], ◌++◌, ◌∷◌, sym, ap, subst, arith, rules}
use Rattle.std.proofs.lemmas.List.{get_or_read}
use Rattle.flat_lookup.specs.Levels.{IsThin}
use Rattle.flat_lookup.proofs.LevelLaws.{IsBuilding, building_next}
use Rattle.flat_lookup.proofs.levels.levels_over.Goals as goal

pub loop-alloc-preserved : goal.loop-alloc-preserved
loop-alloc-preserved c =
    let ls : List (List ℕ) = c.loop-alloc.levels.items in
    let top : List ℕ = get_or ls (length ls - 1) [] in
    let some = c.loop-alloc.invariant.levels.some in
    let read : c.index.result.now ≡ get_or ls (length ls - 1) c.index.result.now = search rules in
    let read' : c.index-in-loop-alloc.result.now ≡ get_or ls (length ls - 1) c.index-in-loop-alloc.result.now = search rules in
    let at : c.as_slice.result.now ≡ top = c.as_slice.ensures ∙ get_or_read ls (length ls - 1) c.index.result.now (omega arith) read [] in
    let at' : c.as_slice-in-loop-alloc.result.now ≡ top = c.as_slice-in-loop-alloc.ensures
    ∙ get_or_read ls (length ls - 1) c.index-in-loop-alloc.result.now (omega arith) read' [] in
    let long : 16 < length top = omega (arith, c.loop-alloc-test.true, ap length at) in
    let thin : IsThin top c.in_ok-above.above.items = subst (λ (ks : List ℕ). IsThin ks c.in_ok-above.above.items) at' c.in_ok-above.ensures in
    let pushed : c.push.new.self.items ≡ ls ++ c.in_ok-above.above.items ∷ [] = c.in_ok-push.ensures.items in
    subst (IsBuilding c.args.keys.items) (sym pushed) (building_next c.args.keys.items ls c.in_ok-above.above.items c.loop-alloc.invariant thin long)
