use Rattle.std.proofs.Common.{◌≡◌, ◌+◌, ◌-◌, ◌%◌, ◌<◌, ◌≤◌, min, length, take, drop, map, false, refl, sym, subst, List, ℕ, [], ◌∷◌, ◌++◌, arith}
use Rattle.std.proofs.lemmas.Slice.{take-put_mid}
use Rattle.mem_base.specs.lists.Runs.{run, touched}
use Rattle.mem_base.specs.access.AccessSteps.{AccessStep, reading, tx}
use Rattle.mem_base.specs.access.MemoryAccess.{on_word, on_words}
use Rattle.access_run.specs.Runs.{HasDone, IsUnderway}
use Rattle.access_run.proofs.HandLaws.{AreHandLaws, underway_then}
use Rattle.access_base.proofs.MemoryLaws.{part_length}
use Rattle.access_run.proofs.MemoryLaws.{words_then, word_read}
use Rattle.access_run.proofs.memory.read_words.Goals as goal

pub loop-done-preserved : goal.loop-done-preserved
loop-done-preserved g c =
    let laws : AreHandLaws g.H.Entered.makes g.H.Entered.pass g.H.Entered.shows =
    record { begins = g.met.H.Entered.begins; goes_on = g.met.H.Entered.goes_on; stays = g.met.H.Entered.stays } in
    let region = c.args.place.now.region in
    let offset : ℕ = c.args.offset in
    let done : ℕ = c.loop-done.done in
    let n : ℕ = length c.args.out.now in
    let out : List ℕ = c.loop-done.out in
    let k : ℕ = done + 8 - done in
    let more : done < n = omega (arith, c.loop-done-test.true, c.loop-done.auto.out) in
    let most : done + 8 ≤ n = omega (arith, more, c.loop-done.invariant.2, c.requires.whole) in
    let size : length (take k (drop done out)) ≡ 8 = part_length done 8 n k out c.loop-done.auto.out most refl in
    let got : List ℕ = c.read_word.new.out in
    let as_many : length got ≡ length (take k (drop done out)) = c.read_word.auto.out in
    let word : on_word region (offset + done) (reading (length (take k (drop done out)))) (run (offset + done) (length (take k (drop done out))))
    ≡ on_word region offset (reading n) (run (offset + done) 8) =
    word_read region offset (offset + done) n (length (take k (drop done out))) 8 size in
    let h : HasDone g.H.Entered.makes (g.H.Entered.pass c.loop-done.hand) c.loop-done.hand
    (on_word region offset (reading n) (run (offset + done) 8) ∷ []) got c.read_word.new.hand =
    subst (λ d. HasDone g.H.Entered.makes (g.H.Entered.pass c.loop-done.hand) c.loop-done.hand (d ∷ []) got c.read_word.new.hand) word c.read_word.ensures in
    let later : List AccessStep = map (on_word region offset (reading n)) (touched 8 (offset + (done + 8)) (n - (done + 8))) in
    let is : 8 ≡ min (n - done) (8 - (offset + done) % 8) = omega (arith, most, c.loop-done.invariant.2, c.requires.begins) in
    let rest = words_then (on_word region offset (reading n)) offset done n 8 more is in
    let u : IsUnderway g.H.Entered.makes (g.H.Entered.pass c.args.hand.now) c.args.hand.now (on_words region offset (reading n)) later (take done out ++ got)
    (tx false false) c.read_word.new.hand =
    underway_then g.H.Entered.makes g.H.Entered.pass g.H.Entered.shows laws c.args.hand.now c.loop-done.hand c.read_word.new.hand
    (on_words region offset (reading n)) (map (on_word region offset (reading n)) (touched 8 (offset + done) (n - done)))
    (on_word region offset (reading n) (run (offset + done) 8) ∷ []) later (take done out) got (tx false false)
    (tx false false) c.loop-done.invariant.1 rest h
    refl in
    let end : done + 8 ≡ done + length got = omega (arith, as_many, size) in
    let inside : done ≤ length out = omega (arith, most, c.loop-done.auto.out) in (
      most,
      subst (λ bs. IsUnderway g.H.Entered.makes (g.H.Entered.pass c.args.hand.now) c.args.hand.now (on_words region offset (reading n)) later bs
          (tx false false) c.read_word.new.hand) (sym (take-put_mid done k out got (done + 8) end inside)) u,
      omega (arith, c.loop-done.invariant.2),
    )
