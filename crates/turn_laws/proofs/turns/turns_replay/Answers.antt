use Rattle.std.proofs.Common.{◌≡◌, subst, Some}
use Rattle.mem_base.specs.views.Replay.{replay}
use Rattle.mem_base.specs.views.Listening.{calls_to}
use Rattle.mem_base.specs.machine.Reaps.{Writer, first_writer}
use Rattle.mem_base.specs.machine.Turns.{turns}
use Rattle.mem_base.specs.machine.JoinedHistory.{joined_history}
use Rattle.mem_base.specs.machine.ListenerReplay.{listener_of, heard_of, told_forest}
use Rattle.turn_laws.proofs.TurnsLaw.{turns_join}
use Rattle.history_laws.proofs.ReplayedLaws.{all_calls_replay}
use Rattle.turn_laws.proofs.turns.turns_replay.Goals as goal

pub returns : goal.returns
returns c = λ pool_words passes os xs legal same id.
    let j = turns_join pool_words passes os xs legal same in
    subst (λ (h : Writer). replay (calls_to id h.desk.listening.journal) ≡ Some (heard_of (told_forest h) (listener_of h.desk.listening.listeners id))) j.ends
    (all_calls_replay pool_words passes (joined_history (turns (first_writer pool_words passes) os) xs) j.legal id)
