use Rattle.std.proofs.Common.{◌∙◌, ◌-◌, sym, ap, get_or, take, arith}
use Rattle.std.proofs.lemmas.List.{set_past}
use Rattle.region_extents.specs.declared.journal.Before.{Before}
use Rattle.region_extents.specs.Kept.{undone}
use Rattle.region_extents.proofs.RaiseLaws.{undone_one}
use Rattle.region_extents.proofs.journal.undo.Goals as goal

abbrev none : Before
none = record { at = 0; extent = record { depth = 0; weight = 0 } }

pub loop-left-preserved-then-before-known : goal.loop-left-preserved-then-before-known
loop-left-preserved-then-before-known c =
    let within = c.loop-left.invariant.within in
    record {
      within = omega arith;
      undone = undone_one c.args.journal.now c.loop-left.left none c.loop-left.known c.loop-left-test.true within ∙ c.loop-left.invariant.undone;
    }

pub loop-left-preserved : goal.loop-left-preserved
loop-left-preserved c =
    let within = c.loop-left.invariant.within in
    let b = get_or c.args.journal.now (c.loop-left.left - 1) none in
    record {
      within = omega arith;
      undone =
          ap (undone (take (c.loop-left.left - 1) c.args.journal.now)) (sym (set_past c.loop-left.known b.at b.extent (omega (arith, c.if-before-known.false))))
          ∙ undone_one c.args.journal.now c.loop-left.left none c.loop-left.known c.loop-left-test.true within ∙ c.loop-left.invariant.undone;
    }
