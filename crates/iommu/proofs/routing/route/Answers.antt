use Rattle.std.proofs.Common.{sym, ap, arith}
use Rattle.mem_base.specs.access.Trails.{Route}
use Rattle.iommu.proofs.RouteLaws.{begins, ended, ended_last, went_on, no_probes, more_probes, all_probes}
use Rattle.iommu.proofs.routing.route.Goals as goal

pub loop-init : goal.loop-init
loop-init g c = (
  begins c.args.g.now.forest c.args.write c.args.space c.args.addr c.args.len c.new-used.result c.new-used.ensures c.requires.some c.requires.within,
  no_probes c.args.g.now.forest c.args.steps.now,
)

pub loop-preserved : goal.loop-preserved
loop-preserved g c = (
  went_on c.args.g.now.forest c.args.write c.args.space c.args.addr c.args.len c.loop.used c.loop.counter c.loop.here c.loop.from c.loop.count c.in-On.entry
      c.in-On.addr c.in-On.len c.push.new.self c.push.ensures c.loop.invariant.0 (omega arith) c.in-On.ensures.route c.in-On.ensures.narrows,
  more_probes c.args.g.now.forest c.loop.counter c.args.steps.now c.loop.steps c.hop_from.new.steps c.loop.invariant.1 c.hop_from.ensures.probes,
)

pub returns-in-End-clause-target : goal.returns-in-End-clause-target
returns-in-End-clause-target g c =
    sym (ap (λ (r : Route). r.target)
    (ended c.args.g.now.forest c.args.write c.args.space c.args.addr c.args.len c.loop.used c.loop.counter c.loop.here c.loop.from c.loop.count c.in-End.target
    c.in-End.len c.loop.invariant.0 (omega arith) c.in-End.ensures.route))

pub returns-in-End-clause-len : goal.returns-in-End-clause-len
returns-in-End-clause-len g c =
    sym (ap (λ (r : Route). r.length)
    (ended c.args.g.now.forest c.args.write c.args.space c.args.addr c.args.len c.loop.used c.loop.counter c.loop.here c.loop.from c.loop.count c.in-End.target
    c.in-End.len c.loop.invariant.0 (omega arith) c.in-End.ensures.route))

pub returns-in-End-clause-used : goal.returns-in-End-clause-used
returns-in-End-clause-used g c =
    sym (ap (λ (r : Route). r.used)
    (ended c.args.g.now.forest c.args.write c.args.space c.args.addr c.args.len c.loop.used c.loop.counter c.loop.here c.loop.from c.loop.count c.in-End.target
    c.in-End.len c.loop.invariant.0 (omega arith) c.in-End.ensures.route))

pub returns-in-End-clause-probes : goal.returns-in-End-clause-probes
returns-in-End-clause-probes g c =
    all_probes c.args.g.now.forest c.loop.counter c.args.steps.now c.loop.steps c.hop_from.new.steps (omega arith) c.loop.invariant.1 c.hop_from.ensures.probes

pub returns-clause-target : goal.returns-clause-target
returns-clause-target g c =
    sym (ap (λ (r : Route). r.target)
    (ended_last c.args.g.now.forest c.args.write c.args.space c.args.addr c.args.len c.loop.used c.loop.counter c.loop.here c.loop.from c.loop.count
    c.last-target.result.0 c.last-target.result.1 c.loop.invariant.0 (omega arith) (c.last-target.ensures.route c.args.write)))

pub returns-clause-len : goal.returns-clause-len
returns-clause-len g c =
    sym (ap (λ (r : Route). r.length)
    (ended_last c.args.g.now.forest c.args.write c.args.space c.args.addr c.args.len c.loop.used c.loop.counter c.loop.here c.loop.from c.loop.count
    c.last-target.result.0 c.last-target.result.1 c.loop.invariant.0 (omega arith) (c.last-target.ensures.route c.args.write)))

pub returns-clause-used : goal.returns-clause-used
returns-clause-used g c =
    sym (ap (λ (r : Route). r.used)
    (ended_last c.args.g.now.forest c.args.write c.args.space c.args.addr c.args.len c.loop.used c.loop.counter c.loop.here c.loop.from c.loop.count
    c.last-target.result.0 c.last-target.result.1 c.loop.invariant.0 (omega arith) (c.last-target.ensures.route c.args.write)))

pub returns-clause-probes : goal.returns-clause-probes
returns-clause-probes g c =
    all_probes c.args.g.now.forest c.loop.counter c.args.steps.now c.loop.steps c.last-target.new.steps (let h = c.loop.invariant.0.all in omega arith)
    c.loop.invariant.1 c.last-target.ensures.probes
