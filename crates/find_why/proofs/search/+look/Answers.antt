use Rattle.std.proofs.Common.{◌≡◌, ◌∙◌, ◌-◌, ◌<◌, ◌≤◌, ◌++◌, ◌∷◌, [], false, Some, None, take, get_or, pos, refl, sym, ap, subst, arith, rules}
use Rattle.std.specs.Prelude.{is_some, IfOk}
use Rattle.mem_base.specs.declared.map.forests.Node.{Node}
use Rattle.mem_base.specs.map.Region.{node_of}
use Rattle.mem_base.specs.map.Order.{children_of}
use Rattle.mem_base.specs.map.Search.{found_in}
use Rattle.mem_base.specs.map.Forest.{IsMade}
use Rattle.mem_base.proofs.ForestLaws.{id_of}
use Rattle.child_lists.specs.declared.siblings.Sibling.{Sibling}
use Rattle.find_why.specs.declared.looks.Look.{Look}
use Rattle.find_why.specs.Reasons.{place_in}
use Rattle.find_why.specs.Seen.{Sees, unless, tried_in, later, IsShallow}
use Rattle.find_why.proofs.SeenLaws.{SoFar, sight, tried, ends_before, disabled_at, looked_at, comes_later, next_child}
use Rattle.find_why.proofs.WithinLaws.{no_depth, step_within, target_there, target_within, next_at}
use Rattle.find_why.proofs.search.+look.Goals as goal
use Rattle.mem_base.proofs.NodeLaws.{found_itself}

abbrev no_sibling : Sibling
no_sibling = record { id = record { 0 = 0 }; priority = pos 0; placing = 0 }

pub look_at-returns-then-at-get : goal.look_at-returns-then-at-get
look_at-returns-then-at-get t c =
    let l : c.get.result ≤ c.args.at = c.if-at-get.true in
    let v : c.get.result ≡ c.args.node.now.size = c.get.ensures.value in
    ends_before c.args.regions.now c.args.depth c.args.node.now c.args.at c.args.looks.now c.requires.known (omega arith) c.requires.looked

pub look_at-returns-then-not-node : goal.look_at-returns-then-not-node
look_at-returns-then-not-node t c =
    let l : c.args.at < c.get.result = c.if-at-get.false in
    let v : c.get.result ≡ c.args.node.now.size = c.get.ensures.value in
    disabled_at c.args.regions.now c.args.depth c.args.node.now c.args.at c.args.looks.now c.requires.known c.if-not-node.true (omega arith) c.requires.looked

pub look_at-look_inside-requires : goal.look_at-look_inside-requires
look_at-look_inside-requires t c = (
  search rules,
  (
    c.requires.known,
    (step_within c.args.regions.now c.args.depth c.args.node.now c.if-depth-eq0.false c.requires.known c.requires.within, c.requires.looked),
  ),
)

pub look_at-returns : goal.look_at-returns
look_at-returns t c =
    let f = c.args.regions.now in
    let n = c.args.node.now in
    let a = c.args.at in
    let old = c.args.looks.now in
    let mid = c.look_inside.new.looks in
    let spot = c.in_ok-within.within.spot in
    let l : c.args.at < c.get.result = c.if-at-get.false in
    let v : c.get.result ≡ c.args.node.now.size = c.get.ensures.value in
    let look : Look = record { region = n.id; at = a; answers = c.is_some-answers.result; trials = c.in_ok-within.within.trials } in
    subst (λ looks. Sees f false (n.id, Some a) (found_in f c.args.depth n.id a) old looks c.sight_of.result) (sym c.in_ok-push.ensures.ok)
    (looked_at f c.args.depth n a old mid spot look c.sight_of.result c.if-depth-eq0.false c.requires.within c.requires.known c.if-not-node.false (omega arith)
    c.in_ok-within.ensures refl refl c.is_some-answers.ensures c.sight_of.ensures.spot c.sight_of.ensures.outcome)

pub look_below-look_child-requires : goal.look_below-look_child-requires
look_below-look_child-requires t c =
    let f = c.args.regions.now in
    let made = subst IsMade c.regions.view_is c.regions.invariant.1 in
    let here = next_at f c.args.depth c.args.region c.children-child-items.result.now c.loop-child.child-index no_sibling made c.children-child-items.ensures
    c.loop-child-test.true c.requires.within in (
      search rules,
      (
        ap (λ r. is_some (node_of f.nodes r)) here.1 ∙ ap is_some here.3.0,
        (subst (IsShallow f c.args.depth) (sym here.1) here.3.1, c.loop-child.invariant.among.went.looked),
      ),
    )

pub look_below-loop-child-preserved : goal.look_below-loop-child-preserved
look_below-loop-child-preserved t c =
    let f = c.args.regions.now in
    let below = found_in f c.args.depth in
    let a = c.args.at in
    let cs = children_of f.nodes c.args.region in
    let i = c.loop-child.child-index in
    let old = c.args.looks.now in
    let new = c.look_child.new.looks in
    let s = c.in_ok-sight.sight in
    let made = subst IsMade c.regions.view_is c.regions.invariant.1 in
    let here = next_at f c.args.depth c.args.region c.children-child-items.result.now i no_sibling made c.children-child-items.ensures
    c.loop-child-test.true c.requires.within in
    let child : Node = here.0 in
    let id = (get_or c.children-child-items.result.now i no_sibling).id in
    let seen = subst (λ b. Sees f b (place_in a child) (unless b (tried_in below child a)) c.loop-child.looks new s) c.is_some.ensures
    (c.in_ok-sight.ensures child (ap (node_of f.nodes) here.1 ∙ here.3.0)) in
    let next = next_child f below (take i cs) child a old c.loop-child.looks new c.loop-child.trials c.loop-child.spot s c.loop-child.invariant seen in
    let trials : c.push.new.self ≡ c.loop-child.trials ++ tried child.id s.outcome ∷ [] =
    c.in_ok-push.ensures.ok ∙ ap (λ r. c.loop-child.trials ++ tried r s.outcome ∷ []) here.1 in
    subst (λ ns. SoFar f below ns a old new c.push.new.self c.first_of-spot.result) (sym here.2)
    (subst (λ ts. SoFar f below (take i cs ++ child ∷ []) a old new ts c.first_of-spot.result) (sym trials)
    (subst (λ o. SoFar f below (take i cs ++ child ∷ []) a old new (c.loop-child.trials ++ tried child.id s.outcome ∷ []) o) (sym c.first_of-spot.ensures) next))

pub look_child-returns-then-answered : goal.look_child-returns-then-answered
look_child-returns-then-answered t c child e =
    let f = c.args.regions.now in
    let below = found_in f c.args.depth in
    let a = c.args.at in
    let looks = c.args.looks.now in
    let node = c.in-Some.node.now in
    let known : Some node ≡ node_of f.nodes c.args.child = c.in-Some.ensures.value in
    let same : node ≡ child = cc in
    let l : c.in-Some.node.now.offset ≤ c.args.at = c.if-node-at.false in
    let within : child.offset ≤ a = subst (λ (n : Node). n.offset ≤ a) same l in
    let outcome = c.outcome_later.ensures ∙ ap (λ (n : Node). later n (a - n.offset)) same in
    subst (λ o. Sees f c.args.answered (place_in a child) (unless c.args.answered (tried_in below child a)) looks looks (sight o None)) (sym outcome)
    (comes_later f below c.args.answered child a looks c.if-answered.true (found_itself f.nodes c.args.child child (sym e)) within c.requires.looked)

pub look_child-look_at-requires : goal.look_child-look_at-requires
look_child-look_at-requires t c =
    let f = c.args.regions.now in
    let node = c.in-Some.node.now in
    let known : Some node ≡ node_of f.nodes c.args.child = c.in-Some.ensures.value in (
      search rules,
      (
        found_itself f.nodes c.args.child node known,
        (subst (IsShallow f c.args.depth) (sym (id_of f.nodes c.args.child node (sym known))) c.requires.within, c.requires.looked),
      ),
    )

pub look_from-look_at-requires : goal.look_from-look_at-requires
look_from-look_at-requires t c =
    let f = c.args.regions.now in
    let node = c.in-Some.node.now in
    let known : Some node ≡ node_of f.nodes c.args.region = c.in-Some.ensures.value in (
      search rules,
      (
        found_itself f.nodes c.args.region node known,
        (subst (IsShallow f c.args.depth) (sym (id_of f.nodes c.args.region node (sym known))) c.requires.within, c.requires.looked),
      ),
    )

pub look_inside-look_through-requires : goal.look_inside-look_through-requires
look_inside-look_through-requires t c =
    let f = c.args.regions.now in
    let n = c.args.node.now in
    let made = subst IsMade c.regions.view_is c.regions.invariant.1 in (
      search rules,
      (
        target_there f n c.in-Alias.target c.in-Alias.offset made c.requires.known c.in-Alias.is,
        (target_within f (IsShallow f c.args.depth) n.kind n c.in-Alias.target c.in-Alias.offset c.in-Alias.is c.requires.within, c.requires.looked),
      ),
    )

pub look_from-returns : goal.look_from-returns
look_from-returns t c =
    let f = c.args.regions.now in
    let node = c.in-Some.node.now in
    let known : Some node ≡ node_of f.nodes c.args.region = c.in-Some.ensures.value in
    subst (λ r. IfOk c.look_at.result (λ s. Sees f false (r, Some c.args.at) (found_in f c.args.depth r c.args.at) c.args.looks.now c.look_at.new.looks s))
    (id_of f.nodes c.args.region node (sym known)) c.look_at.ensures

pub look_at-unreachable-requires : goal.look_at-unreachable-requires
look_at-unreachable-requires t c = no_depth c.args.regions.now c.args.depth c.args.node.now.id c.if-depth-eq0.true c.requires.within
