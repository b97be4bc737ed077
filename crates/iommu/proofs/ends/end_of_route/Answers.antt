use Rattle.std.proofs.Common.{[], ◌∷◌, ◌++◌, refl, sym, ap, arith}
use Rattle.mem_base.specs.access.Trails.{Route}
use Rattle.iommu.proofs.RouteLaws.{begins, ended, ended_last, went_on, no_probes, more_probes, all_probes}
use Rattle.iommu.proofs.ends.end_of_route.Goals as goal

pub loop-init : goal.loop-init
loop-init g c = (
  ([], begins c.args.g.now.forest c.args.write c.args.space c.args.addr c.args.len [] refl c.requires.some c.requires.within),
  no_probes c.args.g.now.forest c.args.steps.now,
)

pub loop-preserved : goal.loop-preserved
loop-preserved g c = (
  (
    c.loop.invariant.0.0 ++ c.in-On.entry ∷ [],
    went_on c.args.g.now.forest c.args.write c.args.space c.args.addr c.args.len c.loop.invariant.0.0 c.loop.counter c.loop.here c.loop.from c.loop.count
        c.in-On.entry c.in-On.addr c.in-On.len (c.loop.invariant.0.0 ++ c.in-On.entry ∷ []) refl c.loop.invariant.0.1 (omega arith)
        c.in-On.ensures.route c.in-On.ensures.narrows,
  ),
  more_probes c.args.g.now.forest c.loop.counter c.args.steps.now c.loop.steps c.hop_from.new.steps c.loop.invariant.1 c.hop_from.ensures.probes,
)

pub returns-in-End-clause-target : goal.returns-in-End-clause-target
returns-in-End-clause-target g c =
    sym (ap (λ (r : Route). r.target)
    (ended c.args.g.now.forest c.args.write c.args.space c.args.addr c.args.len c.loop.invariant.0.0 c.loop.counter c.loop.here c.loop.from c.loop.count
    c.in-End.target c.in-End.len c.loop.invariant.0.1 (omega arith) c.in-End.ensures.route))

pub returns-in-End-clause-len : goal.returns-in-End-clause-len
returns-in-End-clause-len g c =
    sym (ap (λ (r : Route). r.length)
    (ended c.args.g.now.forest c.args.write c.args.space c.args.addr c.args.len c.loop.invariant.0.0 c.loop.counter c.loop.here c.loop.from c.loop.count
    c.in-End.target c.in-End.len c.loop.invariant.0.1 (omega arith) c.in-End.ensures.route))

pub returns-in-End-clause-probes : goal.returns-in-End-clause-probes
returns-in-End-clause-probes g c =
    all_probes c.args.g.now.forest c.loop.counter c.args.steps.now c.loop.steps c.hop_from.new.steps (omega arith) c.loop.invariant.1 c.hop_from.ensures.probes

pub returns-clause-target : goal.returns-clause-target
returns-clause-target g c =
    sym (ap (λ (r : Route). r.target)
    (ended_last c.args.g.now.forest c.args.write c.args.space c.args.addr c.args.len c.loop.invariant.0.0 c.loop.counter c.loop.here c.loop.from c.loop.count
    c.last.result.0 c.last.result.1 c.loop.invariant.0.1 (omega arith) (c.last.ensures.route c.args.write)))

pub returns-clause-len : goal.returns-clause-len
returns-clause-len g c =
    sym (ap (λ (r : Route). r.length)
    (ended_last c.args.g.now.forest c.args.write c.args.space c.args.addr c.args.len c.loop.invariant.0.0 c.loop.counter c.loop.here c.loop.from c.loop.count
    c.last.result.0 c.last.result.1 c.loop.invariant.0.1 (omega arith) (c.last.ensures.route c.args.write)))

pub returns-clause-probes : goal.returns-clause-probes
returns-clause-probes g c =
    all_probes c.args.g.now.forest c.loop.counter c.args.steps.now c.loop.steps c.last.new.steps (let h = c.loop.invariant.0.1.all in omega arith)
    c.loop.invariant.1 c.last.ensures.probes
