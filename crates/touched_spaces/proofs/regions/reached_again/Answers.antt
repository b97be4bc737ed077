use Rattle.std.proofs.Common.{rules, ◌≡◌, true, sym, subst, ◌∙◌}
use Rattle.mem_base.specs.lists.Booleans.{bool_eq}
use Rattle.mem_base.specs.lists.Every.{Every}
use Rattle.mem_base.specs.map.Region.{node_of}
use Rattle.mem_base.specs.map.Search.{root_of}
use Rattle.mem_base.specs.map.Touched.{is_same_region}
use Rattle.view_laws.proofs.TouchedLaws.{region_same}
use Rattle.change_laws.specs.Meeting.{OthersStay}
use Rattle.change_laws.specs.Reaching.{KeepsWays}
use Rattle.change_laws.proofs.ReachingLaws.{same_are_reached}
use Rattle.change_spans.specs.Alike.{keeps_ways}
use Rattle.change_spans.proofs.AlikeLaws.{same_ways}
use Rattle.change_spans.proofs.ClosedLaws.{each_among}
use Rattle.touched_spaces.specs.Noted.{Ascend}
use Rattle.map_laws.proofs.MadeForests.{ordered_made}
use Rattle.touched_spaces.proofs.RegionLaws.{reached_ascend}
use Rattle.touched_spaces.proofs.TouchedLaws.{known_some}
use Rattle.touched_spaces.proofs.regions.reached_again.Goals as goal
use Rattle.std.proofs.lemmas.Bool.{and_parts}

pub returns : goal.returns
returns c =
    let f = c.args.old.now in
    let g = c.args.new.now in
    let s = c.args.space in
    let known = known_some f s c.args.known.now c.in-Some-known_at.regions.now c.requires.known c.in-Some-known_at.ensures in
    let others : OthersStay f g c.in-Some.noted = search rules in
    let same = and_parts (is_same_region (root_of f s) (root_of g s)) (bool_eq f.global g.global) (sym c.if-is_same_space.ensures) in
    let kept : Every (λ r. keeps_ways (node_of f.nodes r) (node_of g.nodes r) ≡ true) c.in-Some.noted =
    subst (Every (λ r. keeps_ways (node_of f.nodes r) (node_of g.nodes r) ≡ true)) c.as_slice.ensures (c.keep_ways.ensures c.if-keep_ways.true) in
    let ways : KeepsWays c.in-Some.noted f g = record {
      others = others;
      ways = λ r m. same_ways (node_of f.nodes r) (node_of g.nodes r)
          (each_among (λ r. keeps_ways (node_of f.nodes r) (node_of g.nodes r) ≡ true) c.in-Some.noted r kept m);
    } in
    c.in_ok-shared.ensures ∙ known
    ∙ same_are_reached c.in-Some.noted f g s (ordered_made f c.requires.old_made).ascending (ordered_made g c.requires.new_made).ascending
    (region_same (root_of f s) (root_of g s) same.0) ways

pub new-requires : goal.new-requires
new-requires c = subst Ascend (sym c.in_ok-reach.ensures) (reached_ascend c.args.new.now c.args.space c.requires.new_made)
