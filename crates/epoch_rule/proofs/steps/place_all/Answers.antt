use Rattle.epoch_rule.proofs.Common.{arith, ◌≡◌, ℕ, ◌+◌, ◌-◌, ◌≤◌, sym, ap, ◌∙◌, subst, Generations, PassTrack, known_of, View, pass_id, generations_seen}
use Rattle.epoch_rule.proofs.Common.{generations_after_all, HasPlaced, places_of, length, ◌++◌, length-append, suc, refl, HasWritten, option_to_list}
use Rattle.epoch_rule.proofs.SweepLaws.{writes_generations, places_current, places_later, places_placed, last_copy, writes_more}
use Rattle.epoch_rule.proofs.steps.place_all.Given.{Over}
use Rattle.epoch_rule.proofs.steps.place_all.Goals.{After-pop}
use Rattle.epoch_rule.proofs.steps.place_all.Goals as goal
use Rattle.mem_base.specs.map.Limits.{most_generations}

-- the copies that are placed by now
abbrev began : (g : Over) → After-pop g → Generations
began g c = generations_seen c.args.seat.now.me.0

placed : (g : Over) (c : After-pop g) → HasPlaced c.args.seat.now.me.0 c.loop-pass.seat.me.0 c.requires.copies.0 c.loop-pass.pass
placed g c = (c.loop-pass.invariant.3 c.requires.copies.0 c.requires.copies.1).1

by_now : (g : Over) (c : After-pop g) → generations_seen c.loop-pass.seat.me.0 ≡ generations_after_all (began g c) (places_of c.loop-pass.pass)
by_now g c = writes_generations _ _ _ (placed g c).writes

current : (g : Over) (c : After-pop g) → (generations_seen c.loop-pass.seat.me.0).current ≡ (began g c).current
current g c = ap (λ (x : Generations). x.current) (by_now g c) ∙ (places_current (began g c) c.loop-pass.pass).0

known : (g : Over) (c : After-pop g) → known_of (generations_seen c.loop-pass.seat.me.0) (pass_id c.loop-pass.pass)
    ≡ known_of (began g c) (pass_id c.loop-pass.pass)
known g c = ap (λ (x : Generations). known_of x (pass_id c.loop-pass.pass)) (by_now g c)
    ∙ places_later (began g c) c.loop-pass.pass c.loop-pass.pass (omega arith)

pub place-requires-clause-writer : goal.place-requires-clause-writer
place-requires-clause-writer g c =
    let p = placed g (goal.at.place-requires-clause-writer g c).After-pop in
    (p.writes.role ∙ c.requires.writer.0, p.free, c.loop-pass.invariant.1)

pub place-requires-clause-next : goal.place-requires-clause-next
place-requires-clause-next g c =
    c.requires.next ∙ ap (λ (x : ℕ). x + 1) (sym (current g (goal.at.place-requires-clause-next g c).After-pop))

pub place-requires-clause-near : goal.place-requires-clause-near
place-requires-clause-near g c =
    let at = (goal.at.place-requires-clause-near g c).After-pop in
    subst (λ (x : ℕ × PassTrack). x.0 ≤ x.1.lowest + (most_generations - 2)) (λ i. (sym (current g at) i, sym (known g at) i))
    (c.requires.near c.loop-pass.pass c.loop-pass-test.true)

pub place-requires-clause-free : goal.place-requires-clause-free
place-requires-clause-free g c =
    ap (λ (k : PassTrack). k.placed) (known g (goal.at.place-requires-clause-free g c).After-pop) ∙ c.requires.free c.loop-pass.pass

pub place-requires-clause-copy : goal.place-requires-clause-copy
place-requires-clause-copy g c =
    let at = (goal.at.place-requires-clause-copy g c).After-pop in
    let last = last_copy g.E.Edition.counted g.E.Edition.forest g.E.Edition.places c.args.next c.requires.copies.0 c.loop-pass.copies.items
    c.pop.new.self.items c.pop.result c.in-Some.copy c.pop.ensures.items c.in-Some.is (c.loop-pass.invariant.3 c.requires.copies.0 c.requires.copies.1).0 in (
      last.1.0,
      λ u placed'. (placed g at).is_next (places_placed (began g at) c.loop-pass.pass u
          (ap (λ (x : Generations). (known_of x (pass_id u)).placed) (sym (by_now g at)) ∙ placed') (c.requires.free u)) ∙ sym last.1.1,
    )

pub loop-pass-preserved : goal.loop-pass-preserved
loop-pass-preserved g c =
    let inv = c.loop-pass.invariant in
    let v : View = c.args.seat.now.me.0 in
    let n : ℕ = c.loop-pass.pass in
    let len = ap length (c.pop.ensures.items ∙ ap (λ o. c.pop.new.self.items ++ option_to_list o) c.in-Some.is) ∙ length-append c.pop.new.self.items _ in (
      c.place.ensures.seat.0 ∙ inv.0,
      c.place.ensures.seat.1,
      (let m = inv.2 in omega arith),
      λ x all. let h = inv.3 x all in let last = last_copy g.E.Edition.counted g.E.Edition.forest g.E.Edition.places c.args.next x c.loop-pass.copies.items
          c.pop.new.self.items c.pop.result c.in-Some.copy c.pop.ensures.items c.in-Some.is h.0 in (
            last.0,
            record {
              writes = let one : suc n ≡ n + 1 = omega arith in subst (λ (m : ℕ). HasWritten v (places_of m) c.place.new.seat.me.0) one
                  (writes_more v (places_of n) _ _ _ _ _ refl h.1.writes c.place.ensures.adds);
              free = c.place.ensures.seat.2;
              is_next = λ _. c.place.ensures.seat.3 ∙ last.1.1;
            },
          ),
    )

pub returns-clause-placed : goal.returns-clause-placed
returns-clause-placed g c = λ x all.
    let inv = c.loop-pass.invariant in
    let m = inv.2 in
    let f = c.loop-pass-test.false in
    let done : c.loop-pass.pass ≡ c.args.passes = omega arith in
    subst (HasPlaced c.args.seat.now.me.0 c.loop-pass.seat.me.0 x) done (inv.3 x all).1
