use Rattle.epoch_rule.proofs.Common.{arith, ◌≡◌, ℕ, ◌<◌, subst, map, sym, refl, ap, ◌∙◌, ◌+◌, false, get_or, own_entries, least_lowest, pass_id, Sizes, View}
use Rattle.epoch_rule.proofs.Common.{generations_seen, stored, IsLeastPassAt, generations_in_seen, least_in, sweeps_of}
use Rattle.std.proofs.lemmas.Bool.{iff_false}
use Rattle.std.specs.Prelude.{IfSome, is_some}
use Rattle.mem_base.specs.map.Limits.{most_passes}
use Rattle.epoch_rule.proofs.SweepLaws.{sweeping_current, wrote_of, swept_writing, least_is}
use Rattle.epoch_rule.proofs.LeastLaws.{swept_pass}
use Rattle.epoch_rule.proofs.PassLaws.{same_sizes}
use Rattle.epoch_rule.proofs.cabinet.Cabinet.sweep.Given.{Over}
use Rattle.epoch_rule.proofs.cabinet.Cabinet.sweep.Goals.{After-first_at}
use Rattle.epoch_rule.proofs.cabinet.Cabinet.sweep.Goals as goal

-- the seat has as many passes as the cabinet
sizes : (g : Over) (c : After-first_at g) → c.writer.inside.seat.me.0.sizes.passes ≡ c.self.inside.table.shared.key.passes
sizes g c = (same_sizes _ _ _ _ (ap (λ x. x.cabinet) c.writer.view_is ∙ (c.requires.own ∙ sym (ap (λ w. w.id) c.self.view_is))) c.writer.invariant.suits
    c.self.invariant.suits).0

some : (g : Over) (c : After-first_at g) → 0 < c.writer.inside.seat.me.0.sizes.passes
some g c = let is = sizes g c in let most = c.self.invariant.some in omega arith

-- the lowest number, and the first pass that has it
low : (g : Over) (c : After-first_at g) → c.least-lowest.result
    ≡ least_lowest (generations_in_seen c.writer.inside.seat.me.0.sizes c.sweep_all.new.seat.me.0.seen).current
    (generations_in_seen c.writer.inside.seat.me.0.sizes c.sweep_all.new.seat.me.0.seen).passes
low g c =
    let w : View = c.sweep_all.new.seat.me.0 in
    let s = c.sweep_all.ensures.swept in
    let now = sweeping_current c.writer.inside.seat.me.0 w c.sweep_all.new.known.items c.self.inside.passes s in
    c.least-lowest.ensures
    ∙ (ap (least_in c.writer.inside.current) (c.as_slice-known.ensures.value ∙ s.is_known) ∙ (least_is c.writer.inside.current (generations_seen w).passes
    ∙ ((λ i. least_lowest ((c.writer.invariant.is_current ∙ sym now.0) i) (generations_seen w).passes)
    ∙ ap (λ (y : Sizes). least_lowest (generations_in_seen y w.seen).current (generations_in_seen y w.seen).passes) s.writes.sizes)))

least : (g : Over) (c : After-first_at g) → IsLeastPassAt (generations_in_seen c.writer.inside.seat.me.0.sizes c.sweep_all.new.seat.me.0.seen)
    c.least-lowest.result (pass_id c.first_at.result) × (c.first_at.result < c.writer.inside.seat.me.0.sizes.passes)
least g c =
    let w : View = c.sweep_all.new.seat.me.0 in
    let s = c.sweep_all.ensures.swept in
    let found : c.as_slice-known.result.now ≡ map stored (generations_in_seen c.writer.inside.seat.me.0.sizes w.seen).passes =
    c.as_slice-known.ensures.value ∙ (s.is_known ∙ ap (λ (y : Sizes). map stored (generations_in_seen y w.seen).passes) s.writes.sizes) in
    swept_pass c.writer.inside.seat.me.0.sizes w.seen s.writes.lawful (some g c) c.as_slice-known.result.now found c.least-lowest.result
    c.first_at.result (low g c) c.first_at.ensures

pub invariant_of-writer : goal.invariant_of-writer
invariant_of-writer g c =
    swept_writing _ _ c.writer.inside.seat.me c.sweep_all.new.seat.me _ _ c.sweep_all.new.known.items _ c.self.inside.passes c.sweep_all.ensures.seat.0
    c.sweep_all.ensures.seat.1 c.sweep_all.ensures.swept c.writer.invariant

pub returns-clause-some : goal.returns-clause-some
returns-clause-some g c = rw (sym c.writer.view_is) (some g (goal.at.returns-clause-some g c).After-first_at)

pub returns-clause-swept : goal.returns-clause-swept
returns-clause-swept g c =
    let s = c.sweep_all.ensures.swept in
    rw (sym c.writer.view_is) (
      s.rs,
      s.many ∙ (c.self.invariant.counts ∙ sym (sizes g (goal.at.returns-clause-swept g c).After-first_at)),
      wrote_of c.writer.inside.seat.me.0 (sweeps_of 0 s.rs) c.sweep_all.new.seat.me.0 s.writes s.ends,
    )

pub returns-clause-lowest : goal.returns-clause-lowest
returns-clause-lowest g c = rw (sym c.writer.view_is) (low g (goal.at.returns-clause-lowest g c).After-first_at)

pub returns-clause-same : goal.returns-clause-same
returns-clause-same g c = rw (sym c.writer.view_is) (c.sweep_all.ensures.seat.0, c.sweep_all.ensures.swept.writes.sizes, refl)

pub returns-clause-pass : goal.returns-clause-pass
returns-clause-pass g c =
    let at = (goal.at.returns-clause-pass g c).After-first_at in
    let is : c.in-Some.pass.0 ≡ c.first_at.result = subst (λ o. IfSome o (λ pass. pass.0 ≡ c.first_at.result)) c.in-Some.is c.new.ensures.value in
    rw (sym c.writer.view_is)
    (subst (λ (i : ℕ). IsLeastPassAt (generations_in_seen c.writer.inside.seat.me.0.sizes c.sweep_all.new.seat.me.0.seen) c.least-lowest.result (pass_id i))
    (sym is) (least g at).0)

-- the pass is one of those that a machine may have
few : (g : Over) (c : After-first_at g) → c.first_at.result < most_passes
few g c = let inside = (least g c).1 in let few = c.self.invariant.few in let is = sizes g c in omega arith

pub overflow_cast-first_at : goal.overflow_cast-first_at
overflow_cast-first_at g c = let low = few g c in omega arith

pub unreachable-requires : goal.unreachable-requires
unreachable-requires g c =
    let at = (goal.at.unreachable-requires g c).After-first_at in
    iff_false c.new.ensures.some (ap is_some c.in_default.is) (few g at)

pub returns-clause-home : goal.returns-clause-home
returns-clause-home g c q out =
    let free = ap (λ l. get_or l q false) (sym (c.writer.invariant.is_out)) ∙ (ap (λ w. get_or w.out q false) c.writer.view_is ∙ out) in
    c.sweep_all.ensures.swept.writes.home q free ∙ ap (λ w. own_entries (q + 1) w.seen) c.writer.view_is
