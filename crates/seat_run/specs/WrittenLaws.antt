-- Laws of what the writer's seat adds. They stand here because the laws of the hand, in `src`, cite them.
use Rattle.std.proofs.Common.{◌≡◌, List, [], ◌++◌, refl, ap, subst, ◌∙◌, Bool, false}
use Rattle.std.specs.Prelude.{slice_index_or}
use Rattle.mem_base.specs.declared.machine.events.HistoryEntry.{HistoryEntry}
use Rattle.mem_base.specs.machine.Actors.{own_entries, generations_after_all}
use Rattle.mem_base.specs.machine.Generations.{first_generations}
use Rattle.epoch_rule.specs.declared.views.Sizes.{Sizes}
use Rattle.epoch_rule.specs.Calls.{generations_in_seen}
use Rattle.epoch_rule.specs.Values.{WriterValue}
use Rattle.epoch_rule.specs.Wrote.{Adds}
use Rattle.epoch_rule.proofs.AddsLaws.{adds_none, adds_then}
use Rattle.writer_hand.proofs.EntryLaws.{after_both}
use Rattle.seat_run.specs.Written.{HasWritten}

pub written_none : (v : WriterValue) → HasWritten v [] v
written_none v = record { cabinet = refl; sizes = refl; out = refl; home = λ q e. refl; adds = adds_none v.sizes 0 v.seen }

pub written_then : (u v w : WriterValue) (es fs : List HistoryEntry) → HasWritten u es v → HasWritten v fs w → HasWritten u (es ++ fs) w
written_then u v w es fs h k =
    let later : Adds u.sizes 0 v.seen fs w.seen = subst (λ (z : Sizes). Adds z 0 v.seen fs w.seen) h.sizes k.adds in record {
      cabinet = k.cabinet ∙ h.cabinet;
      sizes = k.sizes ∙ h.sizes;
      out = k.out ∙ h.out;
      home = λ q e. k.home q (ap (λ (bs : List Bool). slice_index_or bs q false) h.out ∙ e) ∙ h.home q e;
      adds = adds_then u.sizes 0 u.seen es v.seen fs w.seen h.adds later;
    }

pub generations_go : (v w : WriterValue) (es : List HistoryEntry) → HasWritten v es w
    → generations_in_seen w.sizes w.seen ≡ generations_after_all (generations_in_seen v.sizes v.seen) es
generations_go v w es h =
    (λ i. generations_after_all (first_generations (h.sizes i).passes) (h.adds.events i))
    ∙ after_both (own_entries 0 v.seen) es (first_generations v.sizes.passes)
