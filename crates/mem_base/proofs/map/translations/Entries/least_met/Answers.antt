use Rattle.std.proofs.Common.{◌≡◌, ◌+◌, ◌∙◌, sym, ap, true, false, cond, Some, None, arith, nat_lt, subst}
use Rattle.std.proofs.lemmas.Bool.Decides.{nat_tests}
use Rattle.mem_base.specs.declared.map.translations.Entry.{Entry}
use Rattle.mem_base.specs.map.Entries.{AreEntries, least_met}
use Rattle.mem_base.proofs.EntryLaws.{least_met-end, least_met-at}
use Rattle.mem_base.proofs.map.translations.Entries.least_met.Goals as goal

pub returns-in_err-entry : goal.returns-in_err-entry
returns-in_err-entry c =
    let entries = c.as_slice-entries.result.now in
    let value = c.as_slice-entries.ensures.value in
    let sorted = subst AreEntries (sym value) c.as_slice-entries.ensures.entries in
    let none = least_met-end c.args.iova c.args.size entries c.passed-first.result sorted c.passed-first.ensures.bound
    (c.in_err-entry.ensures.lookup).3 c.passed-first.ensures.passed in
    c.from_residual.ensures ∙ sym none ∙ ap (least_met c.args.iova c.args.size) value

pub returns-then-from-get : goal.returns-then-from-get
returns-then-from-get c =
    let entries = c.as_slice-entries.result.now in
    let value = c.as_slice-entries.ensures.value in
    let sorted = subst AreEntries (sym value) c.as_slice-entries.ensures.entries in
    let entry : Entry = c.in_ok-entry.entry.now in
    let met = least_met-at c.args.iova c.args.size entries c.passed-first.result entry sorted ((c.in_ok-entry.ensures.lookup).3).0
    (c.in_ok-entry.ensures.lookup).1 c.passed-first.ensures.passed in
    let within : nat_lt entry.iova (c.args.iova + c.args.size) ≡ true = grind (arith, nat_tests) in
    sym (ap (λ b. cond b (Some entry.iova) None) within) ∙ sym met ∙ ap (least_met c.args.iova c.args.size) value

pub returns-else-from-get : goal.returns-else-from-get
returns-else-from-get c =
    let entries = c.as_slice-entries.result.now in
    let value = c.as_slice-entries.ensures.value in
    let sorted = subst AreEntries (sym value) c.as_slice-entries.ensures.entries in
    let entry : Entry = c.in_ok-entry.entry.now in
    let met = least_met-at c.args.iova c.args.size entries c.passed-first.result entry sorted ((c.in_ok-entry.ensures.lookup).3).0
    (c.in_ok-entry.ensures.lookup).1 c.passed-first.ensures.passed in
    let past : nat_lt entry.iova (c.args.iova + c.args.size) ≡ false = grind (arith, nat_tests) in
    sym (ap (λ b. cond b (Some entry.iova) None) past) ∙ sym met ∙ ap (least_met c.args.iova c.args.size) value
