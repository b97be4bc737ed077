use Rattle.std.proofs.Common.{◌≡◌, List, ap, ◌∙◌}
use Rattle.mem_base.specs.declared.machine.events.HistoryEntry.{HistoryEntry}
use Rattle.mem_base.specs.machine.Actors.{own_entries}
use Rattle.config_desk.proofs.ConfigLaws.{no_entry, part_stays}
use Rattle.config_desk.proofs.config.Config.pass.Goals as goal

pub invariant_of-self : goal.invariant_of-self
invariant_of-self c =
    let i = c.self.inside in
    let own : own_entries 0 c.pass.new.self.seat.seen ≡ own_entries 0 i.hand.seat.seen =
    ap (λ (xs : List HistoryEntry). own_entries 0 xs) c.pass.ensures.seen in
    no_entry i.desk i.hand.seat c.pass.new.self.seat c.self.invariant c.pass.ensures.same.1 own

pub returns-clause-part : goal.returns-clause-part
returns-clause-part c =
    let i = c.self.inside in
    let own : own_entries 0 c.pass.new.self.seat.seen ≡ own_entries 0 i.hand.seat.seen =
    ap (λ (xs : List HistoryEntry). own_entries 0 xs) c.pass.ensures.seen in
    part_stays i.desk i.hand.seat c.pass.new.self.seat c.pass.ensures.same.1 own ∙ ap (λ x. x.part) c.self.view_is
