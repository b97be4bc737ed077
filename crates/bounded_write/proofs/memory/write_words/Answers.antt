use Rattle.std.proofs.Common.{◌≡◌, ℕ, ◌+◌, ◌-◌, ◌≤◌, List, [], length, take, drop, inl, refl, sym, subst, arith}
use Rattle.mem_base.specs.lists.Runs.{run}
use Rattle.mem_base.specs.access.AccessSteps.{writing}
use Rattle.mem_base.specs.access.MemoryAccess.{on_word, on_words}
use Rattle.access_base.proofs.MemoryLaws.{part_length}
use Rattle.access_run.proofs.MemoryLaws.{word_written}
use Rattle.io_window.specs.Calls.{Does}
use Rattle.io_window.proofs.WholeLaws.{does_nothing}
use Rattle.bounded_write.specs.Tries.{WasContended}
use Rattle.bounded_write.proofs.RunLaws.{in_vain, stood}
use Rattle.bounded_write.proofs.WordLaws.{ends_at_word, one_more_done, words_of_first}
use Rattle.bounded_write.proofs.memory.write_words.Goals as goal

pub overflow_add-at : goal.overflow_add-at
overflow_add-at c = record { fits = omega (arith, c.requires.within, c.requires.fits, c.loop-done-test.true) }

pub loop-done-init : goal.loop-done-init
loop-done-init c = (omega arith, does_nothing c.args.pass.now, λ l. inl refl)

pub loop-done-preserved : goal.loop-done-preserved
loop-done-preserved c =
    let region = c.args.place.now.region in
    let offset : ℕ = c.args.offset in
    let done : ℕ = c.loop-done.done in
    let count : ℕ = c.min-count.result in
    let bytes : List ℕ = c.args.bytes.now in
    let n : ℕ = length bytes in
    let k : ℕ = done + count - done in
    let inv = c.loop-done.invariant in
    let most : done + count ≤ n = omega (arith, c.min-count.ensures, c.loop-done-test.true) in
    let size : length (take k (drop done bytes)) ≡ count = part_length done count n k bytes refl most refl in
    let word = word_written region offset done k (length (take k (drop done bytes))) count bytes refl refl size in
    let h = stood _ _ c.write_word.result c.write_word.ensures c.if-not-write_word.false in (
      most,
      one_more_done c.args.pass.now c.loop-done.pass c.write_word.new.pass region offset done count n bytes
          (on_word region (offset + done) (writing (take k (drop done bytes))) (run (offset + done) (length (take k (drop done bytes)))))
          inv.1 h word (inv.2 c.loop-done-test.true) c.loop-done-test.true c.min-count.ensures,
      λ more. ends_at_word offset done count n c.loop-done-test.true c.min-count.ensures more,
    )

pub returns-then-not-write_word-clause-done : goal.returns-then-not-write_word-clause-done
returns-then-not-write_word-clause-done c =
    let inv = c.loop-done.invariant in
    let v = in_vain _ _ c.write_word.result c.write_word.ensures c.if-not-write_word.true in
    subst (λ x. Does c.args.pass.now (on_words c.args.place.now.region c.args.offset (writing (take c.loop-done.done c.args.bytes.now))) [] x) (sym v.0)
    (subst (λ ds. Does c.args.pass.now ds [] c.loop-done.pass) (words_of_first c.args.place.now.region c.args.offset c.loop-done.done c.args.bytes.now inv.0) inv.1)

pub returns-then-not-write_word-clause-stopped : goal.returns-then-not-write_word-clause-stopped
returns-then-not-write_word-clause-stopped c =
    let v = in_vain _ _ c.write_word.result c.write_word.ensures c.if-not-write_word.true in
    λ less. subst (λ x. WasContended x c.args.tries) (sym v.0) v.1

pub returns-clause-done : goal.returns-clause-done
returns-clause-done c =
    let inv = c.loop-done.invariant in
    subst (λ ds. Does c.args.pass.now ds [] c.loop-done.pass) (words_of_first c.args.place.now.region c.args.offset c.loop-done.done c.args.bytes.now inv.0) inv.1
