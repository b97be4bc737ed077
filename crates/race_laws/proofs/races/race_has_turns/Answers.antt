use Rattle.std.proofs.Common.{List, ◌++◌, flat_map, ap, ◌∙◌, append-nil}
use Rattle.mem_base.specs.declared.machine.events.HistoryEntry.{HistoryEntry}
use Rattle.mem_base.specs.machine.Turns.{writers_of}
use Rattle.mem_base.specs.machine.Actors.{generations_published}
use Rattle.mem_base.specs.script.Run.{pool_words}
use Rattle.mem_base.specs.script.Race.{Course, first_stand, phases_of}
use Rattle.turn_laws.proofs.TurnLists.{writers_append}
use Rattle.race_laws.proofs.Turning.{phases_have_turns}
use Rattle.race_laws.proofs.races.race_has_turns.Goals as goal

pub returns : goal.returns
returns c = λ lines courses last xs text h.
    let all : List HistoryEntry = flat_map (λ (c : Course). c.entries) courses in
    ap writers_of h.cut
    ∙ writers_append all last
    ∙ ap (λ (ys : List HistoryEntry). writers_of all ++ ys) h.rests
    ∙ append-nil (writers_of all)
    ∙ phases_have_turns (generations_published xs) (first_stand (pool_words lines)) (phases_of lines) courses h.phases
