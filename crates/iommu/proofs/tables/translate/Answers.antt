use Rattle.std.proofs.Common.{◌≡◌, ◌∙◌, sym, ap, true, false, cond, Some, None, arith}
use Rattle.std.specs.Prelude.{nat_le}
use Rattle.std.proofs.lemmas.Bool.Decides.{nat_tests}
use Rattle.mem_base.specs.declared.map.translations.Entry.{Entry}
use Rattle.iommu.proofs.TableLaws.{found_end, found_index}
use Rattle.iommu.proofs.tables.translate.Goals as goal

pub returns-in_err-entry : goal.returns-in_err-entry
returns-in_err-entry c =
    c.from_residual.ensures
    ∙ sym (found_end c.args.offset c.args.entries.now c.passed-first.result c.requires.sorted c.requires.pages c.passed-first.ensures.bound
    (c.in_err-entry.ensures.lookup).3 c.passed-first.ensures.passed)

pub returns-then-entry-offset : goal.returns-then-entry-offset
returns-then-entry-offset c =
    let e : Entry = c.in_ok-entry.entry.now in
    let met = found_index c.args.offset c.args.entries.now c.passed-first.result e c.requires.sorted c.requires.pages
    ((c.in_ok-entry.ensures.lookup).3).0 (c.in_ok-entry.ensures.lookup).1 c.passed-first.ensures.passed in
    let t : nat_le e.iova c.args.offset ≡ true = grind (arith, nat_tests) in
    sym (met ∙ ap (λ b. cond b (Some e) None) t)

pub returns-else-entry-offset : goal.returns-else-entry-offset
returns-else-entry-offset c =
    let e : Entry = c.in_ok-entry.entry.now in
    let met = found_index c.args.offset c.args.entries.now c.passed-first.result e c.requires.sorted c.requires.pages
    ((c.in_ok-entry.ensures.lookup).3).0 (c.in_ok-entry.ensures.lookup).1 c.passed-first.ensures.passed in
    let t : nat_le e.iova c.args.offset ≡ false = grind (arith, nat_tests) in
    sym (met ∙ ap (λ b. cond b (Some e) None) t)
