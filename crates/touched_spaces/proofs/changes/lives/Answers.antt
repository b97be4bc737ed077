use Rattle.std.proofs.Common.{sym, ◌∙◌}
use Rattle.std.specs.Prelude.{nat_lt, length}
use Rattle.change_laws.proofs.EventlessLaws.{none_is_live}
use Rattle.touched_spaces.proofs.LiveLaws.{none_listed}
use Rattle.touched_spaces.proofs.ViewedLaws.{lives_are}
use Rattle.touched_spaces.proofs.changes.lives.Goals as goal

pub returns-then-not-has_events : goal.returns-then-not-has_events
returns-then-not-has_events c =
    c.new-then-not-has_events.ensures ∙ c.new.ensures.items
    ∙ sym (none_is_live c.args.forest.now c.args.space
    (none_listed (λ n. nat_lt 0 (length n.events)) c.args.forest.now.nodes (sym c.requires.events ∙ c.if-not-has_events.true)))

pub returns : goal.returns
returns c = lives_are c.args.forest.now c.args.space c.args.view.now c.in_ok-live.field-0 c.requires.made c.requires.view c.in_ok-live.ensures.value
