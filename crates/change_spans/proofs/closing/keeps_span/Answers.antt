use Rattle.std.proofs.Common.{rules, ◌≡◌, Some, None, sym, subst}
use Rattle.std.specs.Prelude.{IfSome}
use Rattle.mem_base.specs.map.Region.{node_of}
use Rattle.change_spans.specs.Reaches.{HasAbove}
use Rattle.change_spans.proofs.ClosedLaws.{listed_aliases, no_aliases}
use Rattle.change_spans.proofs.closing.keeps_span.Goals as goal

pub returns-in_default : goal.returns-in_default
returns-in_default c e =
    let gone : node_of c.args.after.now.nodes c.args.region ≡ None = search rules in
    record {
      above = subst (λ o. IfSome o (HasAbove c.args.spans.now)) (sym gone) tt;
      through = no_aliases c.args.after.now c.args.spans.now c.args.region c.node.ensures.sound gone;
    }

pub returns-then-keeps_above : goal.returns-then-keeps_above
returns-then-keeps_above c e =
    let there : Some c.in-Some.node.now ≡ node_of c.args.after.now.nodes c.args.region = search rules in
    record {
      above = subst (λ o. IfSome o (HasAbove c.args.spans.now)) there (c.keeps_above.ensures c.if-keeps_above.true);
      through = listed_aliases c.args.after.now.nodes c.args.spans.now c.args.region c.in-Some-aliases.aliases.now c.in-Some-aliases.ensures
          (c.are_aliases_kept.ensures e);
    }
