use Rattle.std.proofs.Common.{◌≡◌, ap, ◌∙◌, append-nil}
use Rattle.mem_base.specs.machine.Actors.{own_entries}
use Rattle.config_desk.proofs.ConfigLaws.{no_entry, part_stays}
use Rattle.config_desk.proofs.config.Config.hear.Goals as goal

pub invariant_of-self : goal.invariant_of-self
invariant_of-self c =
    let i = c.self.inside in
    let own : own_entries 0 c.hear.new.self.seat.seen ≡ own_entries 0 i.hand.seat.seen = c.hear.ensures.wrote.events ∙ append-nil _ in
    no_entry i.desk i.hand.seat c.hear.new.self.seat c.self.invariant c.hear.ensures.same.1 own

pub returns-clause-part : goal.returns-clause-part
returns-clause-part c =
    let i = c.self.inside in
    let own : own_entries 0 c.hear.new.self.seat.seen ≡ own_entries 0 i.hand.seat.seen = c.hear.ensures.wrote.events ∙ append-nil _ in
    part_stays i.desk i.hand.seat c.hear.new.self.seat c.hear.ensures.same.1 own ∙ ap (λ x. x.part) c.self.view_is
