use Rattle.std.proofs.Common.{rules, ◌≡◌, ◌==◌, true, false, Ok, subst}
use Rattle.mem_base.specs.declared.map.calls.Config.TheVariants.{Call}
use Rattle.mem_base.specs.map.Calls.{after, is_quiet}
use Rattle.mem_base.specs.views.Listening.{ascending, changes_between}
use Rattle.transact.specs.Preparing.{Readied, heard_by}
use Rattle.transact.specs.Backed.{forest_at}
use Rattle.writer_desk.specs.Listened.{ListenedState, listened_state, IsReadied, Publishes}
use Rattle.writer_desk.proofs.ReadyLaws.{call_published}
use Rattle.writer_desk.proofs.listened.ListenedDesk.call.Goals as goal

pub returns-clause-planned : goal.returns-clause-planned
returns-clause-planned g c =
    let i : ListenedState = listened_state c.self-2.inside.backed c.self-2.inside.listeners in
    let same : i ≡ c.args.self.now = c.self-2.view_is in
    let r : Readied = c.in_ok-due.due in
    let told : r.changes ≡ heard_by (ascending i.set.listening.listeners) (changes_between i.backed.desk.current.forest r.generation.forest) = search rules in
    let outside : (i.backed.desk.state.depth == 0) ≡ true = search rules in
    let change : is_quiet c.args.call.now ≡ false = search rules in
    let done : after (forest_at i.backed) c.args.call.now ≡ Ok r.generation.forest = search rules in
    let publishes : Publishes i (Call c.args.call.now) = search rules in
    subst (λ (x : ListenedState). IsReadied x (Call c.args.call.now) c.readied.new.self r) same (record {
      publishes = publishes;
      unmoved = search rules;
      ready = search rules;
      room = search rules;
      free = λ gs b here free. call_published i.backed i.set.listening r told c.args.call.now gs b here (free (publishes b)) outside change done;
      held = search rules;
      accepted = search rules;
    })
