use Rattle.std.proofs.Common.{List, sym, ◌∙◌}
use Rattle.mem_base.specs.declared.machine.events.HistoryEntry.{HistoryEntry}
use Rattle.mem_base.specs.machine.Answers.{plain_answer}
use Rattle.epoch_rule.specs.Calls.{generations_in_seen}
use Rattle.seat_run.specs.Written.{HasWritten}
use Rattle.config_desk.proofs.LoadedLaws.{loaded_kept}
use Rattle.config_desk.proofs.loading.load_with.Goals as goal

pub invariant_of-hand-clause-keeps : goal.invariant_of-hand-clause-keeps
invariant_of-hand-clause-keeps g c =
    let old = c.args.hand.now.seat in
    let new = c.load_by.new.seat in
    c.args.hand.now.keeps ∙ sym (loaded_kept (generations_in_seen old.sizes old.seen) (generations_in_seen new.sizes new.seen)
    c.args.desk.now c.args.region c.args.offset c.args.bytes.now
    (λ (xs : List HistoryEntry). HasWritten old xs new) (plain_answer c.load_by.result) c.load_by.ensures.turn)
