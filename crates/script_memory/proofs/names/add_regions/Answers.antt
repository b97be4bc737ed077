use Rattle.std.proofs.Common.{◌≡◌, ◌++◌, ◌<◌, ◌≤◌, None, length, refl, ap, subst, ◌∙◌, arith, rules}
use Rattle.std.specs.List.{slice_get}
use Rattle.script_memory.specs.Told.{told_kinds}
use Rattle.script_memory.proofs.NameLaws.{count_next, kind_next, kinds_all, name_next, past_end}
use Rattle.script_names.specs.Tables.{Table}
use Rattle.script_memory.proofs.names.add_regions.Goals as goal

pub loop-number-init : goal.loop-number-init
loop-number-init c = record {
  regions = ap (λ xs. xs ++ c.args.names.now.regions.made) c.requires.none;
  kinds = ap (λ xs. xs ++ told_kinds c.args.memory.now 0 c.args.names.now.kinds) c.requires.kinds;
  count = ap length c.requires.none;
  others = refl;
}

pub loop-number-preserved : goal.loop-number-preserved
loop-number-preserved c =
    let own = c.in_ok-add_region.ensures in
    let near = subst (λ n. c.loop-number.number < n) (c.in_ok-count.ensures ∙ ap (λ (t : Table). length t.made) c.regions.ensures) c.loop-number-test.true in
    record {
      regions = name_next c.args.names.now.regions.made c.loop-number.number c.loop-number.told.regions.made c.add_region.new.told.regions.made _
          near own.regions c.loop-number.invariant.regions;
      kinds = kind_next c.args.memory.now c.args.names.now.kinds c.loop-number.number own.kind c.loop-number.told.kinds c.add_region.new.told.kinds _
          own.known own.kinds c.loop-number.invariant.kinds;
      count = count_next c.loop-number.number c.loop-number.told.regions.made c.add_region.new.told.regions.made _ c.loop-number.invariant.count own.regions;
      others = own.others ∙ (λ i. record (c.loop-number.invariant.others i) {
        regions = c.add_region.new.told.regions;
        kinds = c.add_region.new.told.kinds;
      });
    }

pub returns-clause-kinds : goal.returns-clause-kinds
returns-clause-kinds c =
    let kinds = c.args.names.now.kinds in
    let none : slice_get kinds c.in_ok-count.count ≡ None = search rules in
    let past : length kinds ≤ c.in_ok-count.count = past_end kinds c.in_ok-count.count none in
    kinds_all c.args.memory.now kinds c.loop-number.number c.loop-number.told.kinds _ (omega (arith, past)) c.loop-number.invariant.kinds
