use Rattle.std.proofs.Common.{rules, ◌≡◌, true, subst}
use Rattle.mem_base.specs.declared.map.calls.Config.TheVariants.{Commit}
use Rattle.mem_base.specs.views.Listening.{ascending, changes_between}
use Rattle.transact.specs.Preparing.{Readied, heard_by}
use Rattle.transact.specs.Backed.{forest_at}
use Rattle.writer_desk.specs.Listened.{ListenedState, listened_state, IsReadied, Publishes}
use Rattle.writer_desk.proofs.ReadyLaws.{commit_published}
use Rattle.writer_desk.proofs.listened.ListenedDesk.commit.Goals as goal

pub returns-in_ok-due-in-Ready-clause-planned : goal.returns-in_ok-due-in-Ready-clause-planned
returns-in_ok-due-in-Ready-clause-planned g c =
    let i : ListenedState = listened_state c.self.inside.backed c.self.inside.listeners in
    let same : i ≡ c.args.self.now = c.self.view_is in
    let r : Readied = c.in_ok-due-in-Ready.due in
    let told : r.changes ≡ heard_by (ascending i.set.listening.listeners) (changes_between i.backed.desk.current.forest r.generation.forest) = search rules in
    let outermost : i.backed.desk.state.depth ≡ 1 = search rules in
    let pending : i.backed.desk.state.pending ≡ true = search rules in
    let own : r.generation.forest ≡ forest_at i.backed = search rules in
    let publishes : Publishes i Commit = search rules in
    subst (λ (x : ListenedState). IsReadied x Commit c.readied.new.self r) same (record {
      publishes = publishes;
      unmoved = search rules;
      ready = search rules;
      room = search rules;
      free = λ gs b here free. commit_published i.backed i.set.listening r told gs b here (free (publishes b)) outermost pending own;
      held = search rules;
      accepted = search rules;
    })
