use Rattle.std.proofs.Common.{◌≡◌, ◌+◌, ◌-◌, ◌%◌, ◌<◌, ◌≤◌, min, length, take, drop, map, false, refl, sym, ap, subst, List, ℕ, [], ◌∷◌, ◌++◌, ◌∙◌, arith}
use Rattle.std.proofs.lemmas.Slice.{take-put_mid}
use Rattle.mem_base.specs.lists.Runs.{run, touched}
use Rattle.mem_base.specs.access.AccessSteps.{AccessStep, reading, tx}
use Rattle.mem_base.specs.access.MemoryAccess.{on_word, on_words}
use Rattle.access_run.specs.Runs.{HasDone, IsUnderway}
use Rattle.access_run.proofs.AnswerLaws.{words_read_fine}
use Rattle.access_run.proofs.HandLaws.{AreHandLaws, underway_then}
use Rattle.access_base.proofs.MemoryLaws.{part_length}
use Rattle.access_run.proofs.MemoryLaws.{words_then, whole_words_then, word_read}
use Rattle.access_run.proofs.memory.read.Goals as goal

pub overflow_add-at : goal.overflow_add-at
overflow_add-at g c = record { fits = omega (arith, c.requires.within, c.requires.fits, c.loop-done-test.true) }

pub loop-done-preserved : goal.loop-done-preserved
loop-done-preserved g c =
    let laws : AreHandLaws g.H.Entered.makes g.H.Entered.pass g.H.Entered.shows =
    record { begins = g.met.H.Entered.begins; goes_on = g.met.H.Entered.goes_on; stays = g.met.H.Entered.stays } in
    let region = c.args.place.now.region in
    let offset : ℕ = c.args.offset in
    let done : ℕ = c.loop-done.done in
    let count : ℕ = c.min-count.result in
    let n : ℕ = length c.args.out.now in
    let out : List ℕ = c.loop-done.out in
    let k : ℕ = done + count - done in
    let most : done + count ≤ n = omega (arith, c.min-count.ensures, c.loop-done-test.true, c.loop-done.auto.out) in
    let size : length (take k (drop done out)) ≡ count = part_length done count n k out c.loop-done.auto.out most refl in
    let got : List ℕ = c.read_word.new.out in
    let as_many : length got ≡ length (take k (drop done out)) = c.read_word.auto.out in
    let word : on_word region (offset + done) (reading (length (take k (drop done out)))) (run (offset + done) (length (take k (drop done out))))
    ≡ on_word region offset (reading n) (run (offset + done) count) =
    word_read region offset (offset + done) n (length (take k (drop done out))) count size in
    let h : HasDone g.H.Entered.makes (g.H.Entered.pass c.loop-done.hand) c.loop-done.hand
    (on_word region offset (reading n) (run (offset + done) count) ∷ []) got c.read_word.new.hand =
    subst (λ d. HasDone g.H.Entered.makes (g.H.Entered.pass c.loop-done.hand) c.loop-done.hand (d ∷ []) got c.read_word.new.hand) word c.read_word.ensures in
    let later : List AccessStep = map (on_word region offset (reading n)) (touched 8 (offset + (done + count)) (n - (done + count))) in
    let more : done < n = omega (arith, c.loop-done-test.true, c.loop-done.auto.out) in
    let is : count ≡ min (n - done) (8 - (offset + done) % 8) =
    c.min-count.ensures ∙ ap (λ m. min (m - done) (8 - (offset + done) % 8)) c.loop-done.auto.out in
    let rest = words_then (on_word region offset (reading n)) offset done n count more is in
    let u : IsUnderway g.H.Entered.makes (g.H.Entered.pass c.args.hand.now) c.args.hand.now (on_words region offset (reading n)) later (take done out ++ got)
    (tx false false) c.read_word.new.hand =
    underway_then g.H.Entered.makes g.H.Entered.pass g.H.Entered.shows laws c.args.hand.now c.loop-done.hand c.read_word.new.hand
    (on_words region offset (reading n)) (map (on_word region offset (reading n)) (touched 8 (offset + done) (n - done)))
    (on_word region offset (reading n) (run (offset + done) count) ∷ []) later (take done out) got (tx false false)
    (tx false false) c.loop-done.invariant.1 rest h
    refl in
    let end : done + count ≡ done + length got = omega (arith, as_many, size) in
    let inside : done ≤ length out = omega (arith, most, c.loop-done.auto.out) in (
      most,
      subst (λ bs. IsUnderway g.H.Entered.makes (g.H.Entered.pass c.args.hand.now) c.args.hand.now (on_words region offset (reading n)) later bs
          (tx false false) c.read_word.new.hand) (sym (take-put_mid done k out got (done + count) end inside)) u,
    )

pub loop-done-preserved-then-left-ge8 : goal.loop-done-preserved-then-left-ge8
loop-done-preserved-then-left-ge8 g c =
    let laws : AreHandLaws g.H.Entered.makes g.H.Entered.pass g.H.Entered.shows =
    record { begins = g.met.H.Entered.begins; goes_on = g.met.H.Entered.goes_on; stays = g.met.H.Entered.stays } in
    let region = c.args.place.now.region in
    let offset : ℕ = c.args.offset in
    let done : ℕ = c.loop-done.done in
    let n : ℕ = length c.args.out.now in
    let out : List ℕ = c.loop-done.out in
    let left : ℕ = length out - done in
    let count : ℕ = left - left % 8 in
    let k : ℕ = done + count - done in
    let more : done < n = omega (arith, c.loop-done-test.true, c.loop-done.auto.out) in
    let most : done + count ≤ n = omega (arith, more, c.loop-done.auto.out) in
    let size : length (take k (drop done out)) ≡ count = part_length done count n k out c.loop-done.auto.out most refl in
    let got : List ℕ = c.read_words.new.out in
    let as_many : length got ≡ length (take k (drop done out)) = c.read_words.auto.out in
    let these : List AccessStep = map (on_word region offset (reading n)) (touched 8 (offset + done) count) in
    let h : HasDone g.H.Entered.makes (g.H.Entered.pass c.loop-done.hand) c.loop-done.hand these got c.read_words.new.hand =
    subst (λ m. HasDone g.H.Entered.makes (g.H.Entered.pass c.loop-done.hand) c.loop-done.hand
    (map (on_word region offset (reading n)) (touched 8 (offset + done) m)) got c.read_words.new.hand) size c.read_words.ensures in
    let later : List AccessStep = map (on_word region offset (reading n)) (touched 8 (offset + (done + count)) (n - (done + count))) in
    let rest = whole_words_then (on_word region offset (reading n)) offset done n count c.if-at-eq0.true (omega arith) most in
    let u : IsUnderway g.H.Entered.makes (g.H.Entered.pass c.args.hand.now) c.args.hand.now (on_words region offset (reading n)) later (take done out ++ got)
    (tx false false) c.read_words.new.hand =
    underway_then g.H.Entered.makes g.H.Entered.pass g.H.Entered.shows laws c.args.hand.now c.loop-done.hand c.read_words.new.hand
    (on_words region offset (reading n)) (map (on_word region offset (reading n)) (touched 8 (offset + done) (n - done)))
    these later (take done out) got (tx false false)
    (tx false false) c.loop-done.invariant.1 rest h
    (words_read_fine region (offset + done) count) in
    let end : done + count ≡ done + length got = omega (arith, as_many, size) in
    let inside : done ≤ length out = omega (arith, most, c.loop-done.auto.out) in (
      most,
      subst (λ bs. IsUnderway g.H.Entered.makes (g.H.Entered.pass c.args.hand.now) c.args.hand.now (on_words region offset (reading n)) later bs
          (tx false false) c.read_words.new.hand) (sym (take-put_mid done k out got (done + count) end inside)) u,
    )
