use Rattle.std.proofs.Common.{◌≡◌, ℕ, List, length, take, ap, sym, subst, ◌∙◌, arith}
use Rattle.std.proofs.Math.Seq.{take-length}
use Rattle.mem_base.specs.map.Forest.{IsMade}
use Rattle.generation.specs.Published.{Published}
use Rattle.access_base.proofs.ChunkLaws.{at_end}
use Rattle.vcpu_pass.specs.Steps.{generation_in, generation_shown}
use Rattle.bounded_write.proofs.PastLaws.{Ends, ends_past}
use Rattle.bounded_write.proofs.chunks.write_entered.Goals as goal

pub returns-then-below-bytes-clause-most : goal.returns-then-below-bytes-clause-most
returns-then-below-bytes-clause-most c =
    let v = c.args.pass.now in
    let made : IsMade (generation_in v).forest =
    subst (λ (g : Published). IsMade g.forest) (sym (ap generation_shown c.generation.ensures)) c.knows_forest.ensures in
    let e = c.write_below-part.ensures in
    let at = at_end c.args.addr c.reach-below.result (length c.args.bytes.now) c.if-below-bytes.true c.reach-below.ensures.all c.reach-below.ensures.past in
    (ends_past v c.write_below-part.new.pass c.args.space c.args.addr c.reach-below.result c.args.bytes.now c.args.tries c.write_below-part.result
    c.past_end.result made c.if-below-bytes.true at (e.most, e.whole, e.done, e.stopped) c.past_end.ensures.same c.past_end.ensures.past).0

pub returns-then-below-bytes-clause-whole : goal.returns-then-below-bytes-clause-whole
returns-then-below-bytes-clause-whole c =
    let v = c.args.pass.now in
    let made : IsMade (generation_in v).forest =
    subst (λ (g : Published). IsMade g.forest) (sym (ap generation_shown c.generation.ensures)) c.knows_forest.ensures in
    let e = c.write_below-part.ensures in
    let at = at_end c.args.addr c.reach-below.result (length c.args.bytes.now) c.if-below-bytes.true c.reach-below.ensures.all c.reach-below.ensures.past in
    (ends_past v c.write_below-part.new.pass c.args.space c.args.addr c.reach-below.result c.args.bytes.now c.args.tries c.write_below-part.result
    c.past_end.result made c.if-below-bytes.true at (e.most, e.whole, e.done, e.stopped) c.past_end.ensures.same c.past_end.ensures.past).1

pub returns-then-below-bytes-clause-done : goal.returns-then-below-bytes-clause-done
returns-then-below-bytes-clause-done c =
    let v = c.args.pass.now in
    let made : IsMade (generation_in v).forest =
    subst (λ (g : Published). IsMade g.forest) (sym (ap generation_shown c.generation.ensures)) c.knows_forest.ensures in
    let e = c.write_below-part.ensures in
    let at = at_end c.args.addr c.reach-below.result (length c.args.bytes.now) c.if-below-bytes.true c.reach-below.ensures.all c.reach-below.ensures.past in
    (ends_past v c.write_below-part.new.pass c.args.space c.args.addr c.reach-below.result c.args.bytes.now c.args.tries c.write_below-part.result
    c.past_end.result made c.if-below-bytes.true at (e.most, e.whole, e.done, e.stopped) c.past_end.ensures.same c.past_end.ensures.past).2

pub returns-then-below-bytes-clause-stopped : goal.returns-then-below-bytes-clause-stopped
returns-then-below-bytes-clause-stopped c =
    let v = c.args.pass.now in
    let made : IsMade (generation_in v).forest =
    subst (λ (g : Published). IsMade g.forest) (sym (ap generation_shown c.generation.ensures)) c.knows_forest.ensures in
    let e = c.write_below-part.ensures in
    let at = at_end c.args.addr c.reach-below.result (length c.args.bytes.now) c.if-below-bytes.true c.reach-below.ensures.all c.reach-below.ensures.past in
    (ends_past v c.write_below-part.new.pass c.args.space c.args.addr c.reach-below.result c.args.bytes.now c.args.tries c.write_below-part.result
    c.past_end.result made c.if-below-bytes.true at (e.most, e.whole, e.done, e.stopped) c.past_end.ensures.same c.past_end.ensures.past).3

pub returns-clause-most : goal.returns-clause-most
returns-clause-most c =
    let bytes : List ℕ = c.args.bytes.now in
    let below : ℕ = c.reach-below.result in
    let e = c.write_below-part.ensures in
    let all : below ≡ length bytes = omega (arith, c.reach-below.ensures.most, c.if-below-bytes.false) in
    (subst (λ bs. Ends c.args.pass.now c.args.space c.args.addr bs c.args.tries c.write_below-part.result c.write_below-part.new.pass)
    (ap (λ n. take n bytes) all ∙ take-length bytes) (e.most, e.whole, e.done, e.stopped)).0

pub returns-clause-whole : goal.returns-clause-whole
returns-clause-whole c =
    let bytes : List ℕ = c.args.bytes.now in
    let below : ℕ = c.reach-below.result in
    let e = c.write_below-part.ensures in
    let all : below ≡ length bytes = omega (arith, c.reach-below.ensures.most, c.if-below-bytes.false) in
    (subst (λ bs. Ends c.args.pass.now c.args.space c.args.addr bs c.args.tries c.write_below-part.result c.write_below-part.new.pass)
    (ap (λ n. take n bytes) all ∙ take-length bytes) (e.most, e.whole, e.done, e.stopped)).1

pub returns-clause-done : goal.returns-clause-done
returns-clause-done c =
    let bytes : List ℕ = c.args.bytes.now in
    let below : ℕ = c.reach-below.result in
    let e = c.write_below-part.ensures in
    let all : below ≡ length bytes = omega (arith, c.reach-below.ensures.most, c.if-below-bytes.false) in
    (subst (λ bs. Ends c.args.pass.now c.args.space c.args.addr bs c.args.tries c.write_below-part.result c.write_below-part.new.pass)
    (ap (λ n. take n bytes) all ∙ take-length bytes) (e.most, e.whole, e.done, e.stopped)).2

pub returns-clause-stopped : goal.returns-clause-stopped
returns-clause-stopped c =
    let bytes : List ℕ = c.args.bytes.now in
    let below : ℕ = c.reach-below.result in
    let e = c.write_below-part.ensures in
    let all : below ≡ length bytes = omega (arith, c.reach-below.ensures.most, c.if-below-bytes.false) in
    (subst (λ bs. Ends c.args.pass.now c.args.space c.args.addr bs c.args.tries c.write_below-part.result c.write_below-part.new.pass)
    (ap (λ n. take n bytes) all ∙ take-length bytes) (e.most, e.whole, e.done, e.stopped)).3
