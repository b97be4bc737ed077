use Rattle.std.proofs.Common.{◌≡◌, ◌+◌, ◌-◌, ◌≤◌, length, take, drop, map, false, refl, sym, ap, subst, List, ℕ, [], ◌∷◌, ◌∙◌, arith}
use Rattle.mem_base.specs.lists.Runs.{run, touched}
use Rattle.mem_base.specs.access.AccessSteps.{AccessStep, writing, tx}
use Rattle.mem_base.specs.access.MemoryAccess.{on_word, on_words}
use Rattle.mem_base.specs.access.Words.{little_endian}
use Rattle.access_run.specs.Runs.{HasDone, TakesStep, TakesAll}
use Rattle.access_run.proofs.HandLaws.{AreHandLaws, underway_then, takes_lasts}
use Rattle.access_base.proofs.MemoryLaws.{part_length}
use Rattle.access_run.proofs.MemoryLaws.{words_then, word_written}
use Rattle.access_run.proofs.memory.write.Goals as goal

pub overflow_add-at : goal.overflow_add-at
overflow_add-at g c = record { fits = omega (arith, c.requires.within, c.requires.fits, c.loop-done-test.true) }

pub write_word-requires-clause-value : goal.write_word-requires-clause-value
write_word-requires-clause-value g c =
    let same : c.min-count.result ≡ c.loop-done.done + c.min-count.result - c.loop-done.done = omega arith in
    c.part_of-value.ensures ∙ ap (λ n. little_endian (take n (drop c.loop-done.done c.args.bytes.now))) same

pub write_word-requires-clause-takes : goal.write_word-requires-clause-takes
write_word-requires-clause-takes g c =
    let region = c.args.place.now.region in
    let offset : ℕ = c.args.offset in
    let done : ℕ = c.loop-done.done in
    let count : ℕ = c.min-count.result in
    let bytes : List ℕ = c.args.bytes.now in
    let n : ℕ = length bytes in
    let k : ℕ = done + count - done in
    let most : done + count ≤ n = omega (arith, c.min-count.ensures, c.loop-done-test.true) in
    let size : length (take k (drop done bytes)) ≡ count = part_length done count n k bytes refl most refl in
    let rest = words_then (on_word region offset (writing bytes)) offset done n count c.loop-done-test.true c.min-count.ensures in
    let word = word_written region offset done k (length (take k (drop done bytes))) count bytes refl refl size in
    let all = subst (λ ds. TakesAll (g.H.Writes.takes c.loop-done.hand) ds) rest c.loop-done.invariant.2 in
    subst (λ d. TakesStep (g.H.Writes.takes c.loop-done.hand) d) (sym word) all.0

pub loop-done-preserved : goal.loop-done-preserved
loop-done-preserved g c =
    let laws : AreHandLaws g.H.Entered.makes g.H.Entered.pass g.H.Entered.shows =
    record { begins = g.met.H.Entered.begins; goes_on = g.met.H.Entered.goes_on; stays = g.met.H.Entered.stays } in
    let region = c.args.place.now.region in
    let offset : ℕ = c.args.offset in
    let done : ℕ = c.loop-done.done in
    let count : ℕ = c.min-count.result in
    let bytes : List ℕ = c.args.bytes.now in
    let n : ℕ = length bytes in
    let k : ℕ = done + count - done in
    let most : done + count ≤ n = omega (arith, c.min-count.ensures, c.loop-done-test.true) in
    let size : length (take k (drop done bytes)) ≡ count = part_length done count n k bytes refl most refl in
    let word = word_written region offset done k (length (take k (drop done bytes))) count bytes refl refl size in
    let h : HasDone g.H.Entered.makes (g.H.Entered.pass c.loop-done.hand) c.loop-done.hand
    (on_word region offset (writing bytes) (run (offset + done) count) ∷ []) [] c.write_word.new.hand =
    subst (λ d. HasDone g.H.Entered.makes (g.H.Entered.pass c.loop-done.hand) c.loop-done.hand (d ∷ []) [] c.write_word.new.hand) word c.write_word.ensures in
    let later : List AccessStep = map (on_word region offset (writing bytes)) (touched 8 (offset + (done + count)) (n - (done + count))) in
    let rest = words_then (on_word region offset (writing bytes)) offset done n count c.loop-done-test.true c.min-count.ensures in
    let all = subst (λ ds. TakesAll (g.H.Writes.takes c.loop-done.hand) ds) rest c.loop-done.invariant.2 in (
      most,
      underway_then g.H.Entered.makes g.H.Entered.pass g.H.Entered.shows laws c.args.hand.now c.loop-done.hand c.write_word.new.hand
          (on_words region offset (writing bytes)) (map (on_word region offset (writing bytes)) (touched 8 (offset + done) (n - done)))
          (on_word region offset (writing bytes) (run (offset + done) count) ∷ []) later [] [] (tx false false)
          (tx false false) c.loop-done.invariant.1 rest h refl,
      takes_lasts g.H.Entered.makes g.H.Writes.takes g.met.H.Writes.lasts (g.H.Entered.pass c.loop-done.hand) c.loop-done.hand c.write_word.new.hand
          (on_word region offset (writing bytes) (run (offset + done) count) ∷ []) [] h later all.1,
    )
