use Rattle.std.proofs.Common.{rules, ◌≡◌, true, false, Option, None, sym, ap, ◌∙◌}
use Rattle.mem_base.specs.machine.Desk.{is_all_swept}
use Rattle.mem_base.specs.machine.Publishing.{would_publish}
use Rattle.mem_base.specs.machine.World.{World, is_at_rest}
use Rattle.world_core.specs.Worlds.{Aside, aside, beside, state_of}
use Rattle.transact.specs.Preparing.{Readied}
use Rattle.writer_desk.specs.Writers.{desk_of}
use Rattle.world_core.proofs.ChangeLaws.{by_sweeps}
use Rattle.world_core.proofs.RestLaws.{rested}
use Rattle.world_core.proofs.world.World.may_change.Goals as goal

pub returns : goal.returns
returns c =
    let s = c.self.inside in
    let x : Aside = aside s.desk.dropped.items s.unfilled.cells in
    let w : World = c.args.self.now in
    let rests : is_at_rest w.writer.desk ≡ true = search rules in
    let swept : is_all_swept w.writer.desk ≡ false =
    ap (λ (v : World). is_all_swept v.writer.desk) (sym c.self.view_is) ∙ sym c.is_all_swept.ensures ∙ c.if-is_all_swept.false in
    let none : s.due ≡ None =
    (rested s w c.self.invariant c.self.view_is rests).none_due in
    let told : c.would_publish-publishes.result ≡ would_publish w.writer.desk c.args.config.now =
    c.would_publish-publishes.ensures (beside x s.hand.kept.swept)
    ∙ ap (λ (o : Option Readied). would_publish (desk_of (state_of s.desk o) (beside x s.hand.kept.swept)) c.args.config.now) (sym none)
    ∙ ap (λ (v : World). would_publish v.writer.desk c.args.config.now) c.self.view_is in
    by_sweeps (is_at_rest w.writer.desk) (is_all_swept w.writer.desk) c.would_publish-publishes.result (would_publish w.writer.desk c.args.config.now)
    rests swept told
