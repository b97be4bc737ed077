use Rattle.std.proofs.Common.{◌≡◌, ◌∙◌, ◌-◌, List, ℕ, length, get_or, [], subst, sym, arith}
use Rattle.std.proofs.lemmas.List.{get_or_read}
use Rattle.flat_lookup.specs.Levels.{IsPlace, IsNode, Ascends}
use Rattle.flat_lookup.proofs.LevelLaws.{down_next}
use Rattle.flat_lookup.proofs.levels.place.Goals as goal

pub loop-i-preserved : goal.loop-i-preserved
loop-i-preserved g c =
    let ls : List (List ℕ) = c.args.levels.now in
    let at : c.as_slice.result.now ≡ get_or ls (length ls - 1 - c.loop-i.i) [] = c.as_slice.ensures
    ∙ get_or_read ls _ _ (omega arith) c.index-levels-levels.is [] in
    record {
      down = down_next ls c.args.addr c.loop-i.i c.place_in-node.result c.requires.levels (omega arith)
          (subst (λ (ks : List ℕ). IsPlace ks c.args.addr c.place_in-node.result) at c.place_in-node.ensures);
      probes = omega arith;
    }

pub place_in-node-requires : goal.place_in-node-requires
place_in-node-requires g c =
    let ls : List (List ℕ) = c.args.levels.now in
    let at : c.as_slice.result.now ≡ get_or ls (length ls - 1 - c.loop-i.i) [] = c.as_slice.ensures
    ∙ get_or_read ls _ _ (omega arith) c.index-levels-levels.is [] in
    record {
      ascends = subst Ascends (sym at) (c.requires.levels.ascend (length ls - 1 - c.loop-i.i) (omega arith));
      node = subst (λ (ks : List ℕ). IsNode ks c.args.addr c.loop-i.node) (sym at) (c.loop-i.invariant.down.next (omega arith));
    }
