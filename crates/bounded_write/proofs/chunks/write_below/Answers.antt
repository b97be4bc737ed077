use Rattle.std.proofs.Common.{◌≡◌, ℕ, ◌+◌, ◌-◌, ◌≤◌, List, [], true, length, take, drop, sym, ap, subst, ◌∙◌, arith}
use Rattle.std.proofs.lemmas.List.{length-drop}
use Rattle.mem_base.specs.declared.map.forests.Forest.{Forest}
use Rattle.mem_base.specs.access.AccessSteps.{writing}
use Rattle.mem_base.specs.access.Access.{access}
use Rattle.mem_base.specs.access.Windows.{chunk_length, window_start}
use Rattle.vcpu_pass.specs.Steps.{generation_in}
use Rattle.io_window.specs.Whole.{HasRun}
use Rattle.bounded_write.specs.Writes.{HasStopped}
use Rattle.bounded_write.proofs.CutLaws.{cut_after, cut_at_none, IsCutAt}
use Rattle.bounded_write.proofs.RunLaws.{memory_whole, run_none, run_on, same_forest, stop_on}
use Rattle.bounded_write.proofs.chunks.write_below.Goals as goal

pub overflow_add-at : goal.overflow_add-at
overflow_add-at c = record { fits = omega (arith, c.requires.within, c.loop-count-test.true) }

pub loop-count-init : goal.loop-count-init
loop-count-init c = (
  omega arith,
  run_none c.args.pass.now c.args.space c.args.addr,
  cut_at_none (generation_in c.args.pass.now).forest c.args.space c.args.addr c.args.bytes.now,
)

pub loop-count-preserved : goal.loop-count-preserved
loop-count-preserved c =
    let u = c.args.pass.now in
    let v = c.loop-count.pass in
    let space = c.args.space in
    let addr : ℕ = c.args.addr in
    let bytes : List ℕ = c.args.bytes.now in
    let k : ℕ = c.loop-count.count in
    let len : ℕ = c.write_first-len.result.0 in
    let part = c.write_first-len.result.1 in
    let e = c.write_first-len.ensures in
    let inv = c.loop-count.invariant in
    let f : Forest = (generation_in u).forest in
    let rest : List ℕ = c.split_at.result.1.now in
    let back : rest ≡ drop k bytes = c.split_at.ensures.back in
    let left : length rest ≡ length bytes - k = ap (λ l. length l) back ∙ length-drop k bytes in
    let same : (generation_in v).forest ≡ f = same_forest u v (access f space addr (writing (take k bytes))) inv.1.done in
    let all : part.count ≡ len = omega (arith, e.most, c.if-part-len.false) in
    let most : k + len ≤ length bytes = omega (arith, e.inside, left, c.loop-count-test.true) in
    let chunk : len ≡ chunk_length f (window_start space (addr + k) true) (length bytes - k) =
    e.len ∙ (λ i. chunk_length (same i) (window_start space (addr + k) true) (left i)) in
    let run = run_on u v c.write_first-len.new.pass space addr k len bytes c.loop-count.result part.result inv.1 inv.2 most
    (subst (λ l. HasRun v space (addr + k) (writing (take len l)) part.result [] c.write_first-len.new.pass) back (e.whole all)) in (
      omega (arith, most, all),
      subst (λ (q : ℕ). HasRun u space addr (writing (take (k + q) bytes)) c.joined-result.result [] c.write_first-len.new.pass) (sym all)
          (subst (λ r. HasRun u space addr (writing (take (k + len) bytes)) r [] c.write_first-len.new.pass) (sym c.joined-result.ensures) run),
      subst (λ (q : ℕ). IsCutAt f space addr bytes (k + q)) (sym all) (cut_after f space addr k len bytes inv.2 c.loop-count-test.true chunk),
    )

pub returns-then-part-len-clause-stopped : goal.returns-then-part-len-clause-stopped
returns-then-part-len-clause-stopped c =
    let u = c.args.pass.now in
    let v = c.loop-count.pass in
    let bytes : List ℕ = c.args.bytes.now in
    let k : ℕ = c.loop-count.count in
    let len : ℕ = c.write_first-len.result.0 in
    let part = c.write_first-len.result.1 in
    let e = c.write_first-len.ensures in
    let inv = c.loop-count.invariant in
    let rest : List ℕ = c.split_at.result.1.now in
    let back : rest ≡ drop k bytes = c.split_at.ensures.back in
    let left : length rest ≡ length bytes - k = ap (λ l. length l) back ∙ length-drop k bytes in
    let most : k + len ≤ length bytes = omega (arith, e.inside, left, c.loop-count-test.true) in
    λ less. subst (λ r. HasStopped u c.args.space c.args.addr bytes (k + part.count) r part.begun c.args.tries c.write_first-len.new.pass)
    (sym c.joined-result.ensures)
    (stop_on u v c.write_first-len.new.pass c.args.space c.args.addr k len part.count bytes c.loop-count.result part.result part.begun c.args.tries
    inv.1 inv.2 c.if-part-len.true most
    (subst (λ l. HasStopped v c.args.space (c.args.addr + k) (take len l) part.count part.result part.begun c.args.tries c.write_first-len.new.pass) back
    (e.stopped c.if-part-len.true)))

pub returns-clause-whole : goal.returns-clause-whole
returns-clause-whole c =
    λ all. memory_whole c.args.pass.now c.loop-count.pass c.args.space c.args.addr c.args.bytes.now c.loop-count.count c.loop-count.result all
    c.loop-count.invariant.1

pub returns-then-part-len-clause-stays : goal.returns-then-part-len-clause-stays
returns-then-part-len-clause-stays c =
    let m = c.loop-count.invariant.1.done.made in
    let s = c.write_first-len.ensures.stays in (s.0 ∙ m.cabinet, s.1 ∙ m.edition)

pub returns-then-part-len-clause-whole : goal.returns-then-part-len-clause-whole
returns-then-part-len-clause-whole c =
    let left : length c.split_at.result.1.now ≡ length c.args.bytes.now - c.loop-count.count =
    ap (λ l. length l) c.split_at.ensures.back ∙ length-drop c.loop-count.count c.args.bytes.now in
    λ all. absurd (omega (arith, all, left, c.if-part-len.true, c.write_first-len.ensures.inside, c.loop-count-test.true))

pub returns-then-part-len-clause-done : goal.returns-then-part-len-clause-done
returns-then-part-len-clause-done c =
    let left : length c.split_at.result.1.now ≡ length c.args.bytes.now - c.loop-count.count =
    ap (λ l. length l) c.split_at.ensures.back ∙ length-drop c.loop-count.count c.args.bytes.now in
    λ all. absurd (omega (arith, all, left, c.if-part-len.true, c.write_first-len.ensures.inside, c.loop-count-test.true))

pub returns-clause-stays : goal.returns-clause-stays
returns-clause-stays c = let m = c.loop-count.invariant.1.done.made in (m.cabinet, m.edition)
