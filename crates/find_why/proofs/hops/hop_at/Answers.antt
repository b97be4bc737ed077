use Rattle.std.proofs.Common.{[], false, Some, sym, subst}
use Rattle.std.specs.Prelude.{List}
use Rattle.mem_base.specs.map.Forest.{IsMade}
use Rattle.mem_base.specs.map.Search.{found_in}
use Rattle.find_why.specs.declared.looks.Look.{Look}
use Rattle.find_why.specs.Hops.{IsHop}
use Rattle.find_why.specs.Seen.{Sees}
use Rattle.find_why.proofs.HopLaws.{hop_found}
use Rattle.find_why.proofs.SeenLaws.{tried}
use Rattle.find_why.proofs.WithinLaws.{root_there, whole_depth}
use Rattle.find_why.proofs.hops.hop_at.Goals as goal
use Rattle.mem_base.specs.map.Limits.{most_depth}

pub look_from-requires-clause-known : goal.look_from-requires-clause-known
look_from-requires-clause-known c =
    let made = subst IsMade c.regions.view_is c.regions.invariant.1 in
    root_there c.args.regions.now c.args.space c.in-Some.root made (sym c.in-Some.ensures)

pub look_from-requires-clause-within : goal.look_from-requires-clause-within
look_from-requires-clause-within c =
    let made = subst IsMade c.regions.view_is c.regions.invariant.1 in whole_depth c.args.regions.now c.in-Some.root made

pub returns-clause-hop : goal.returns-clause-hop
returns-clause-hop c =
    let f = c.args.regions.now in
    let root = c.in-Some.root in
    let a = c.args.addr in
    let new = c.look_from.new.looks in
    let s = c.in_ok-sight.sight in
    let seen = subst (λ b. Sees f false (root, Some b) (found_in f most_depth root b) [] new s) c.from.ensures
    (subst (λ looks. Sees f false (root, Some c.from.result) (found_in f most_depth root c.from.result) looks new s) c.new-looks.ensures c.in_ok-sight.ensures) in
    subst (λ (looks : List Look). IsHop f (record {
      space = c.args.space;
      addr = a;
      root = Some (tried root s.outcome);
      answer = s.spot;
      looks = looks;
      used = c.used_at-used.result;
    })) (sym c.reversed.ensures) (hop_found f c.args.space a root new s c.used_at-used.result (sym c.in-Some.ensures) seen c.used_at-used.ensures)
