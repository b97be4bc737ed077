use Rattle.std.proofs.Common.{◌++◌, ◌<◌, length, refl, ap, subst, ◌∙◌}
use Rattle.script_memory.proofs.NameLaws.{count_next, name_next}
use Rattle.script_names.specs.Tables.{Table}
use Rattle.script_memory.proofs.names.add_spaces.Goals as goal

pub loop-number-init : goal.loop-number-init
loop-number-init c = record {
  spaces = ap (λ xs. xs ++ c.args.names.now.spaces.made) c.requires.none;
  count = ap length c.requires.none;
  others = refl;
}

pub loop-number-preserved : goal.loop-number-preserved
loop-number-preserved c =
    let own = c.in_ok-add_space.ensures in
    let near = subst (λ n. c.loop-number.number < n) (c.in_ok-number-end.ensures ∙ ap (λ (t : Table). length t.made) c.spaces.ensures)
    c.loop-number-test.true in
    record {
      spaces = name_next c.args.names.now.spaces.made c.loop-number.number c.loop-number.told.spaces.made c.add_space.new.told.spaces.made _
          near own.spaces c.loop-number.invariant.spaces;
      count = count_next c.loop-number.number c.loop-number.told.spaces.made c.add_space.new.told.spaces.made _ c.loop-number.invariant.count own.spaces;
      others = own.others ∙ (λ i. record (c.loop-number.invariant.others i) { spaces = c.add_space.new.told.spaces });
    }
