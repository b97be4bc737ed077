-- What an actor wrote, call after call.
use Rattle.std.proofs.Common.{List, [], ◌∷◌, ◌++◌, refl, sym, ap, ◌∙◌, append_assoc}
use base.Growing.{prefix_trans}
use Rattle.mem_base.specs.declared.machine.events.Hand.{Hand}
use Rattle.mem_base.specs.declared.machine.events.HistoryEntry.{HistoryEntry}
use Rattle.mem_base.specs.machine.Actors.{actor_of_hand, own_entries}
use Rattle.epoch_rule.specs.declared.views.Sizes.{Sizes}
use Rattle.epoch_rule.specs.Wrote.{Wrote}
use Rattle.epoch_rule.proofs.PassLaws.{last_snoc}

pub wrote_one_more : (hand : Hand) (z : Sizes) (xs es ys : List HistoryEntry) (e : HistoryEntry) (zs : List HistoryEntry)
    → Wrote hand z xs es ys → Wrote hand z ys (e ∷ []) zs → Wrote hand z xs (es ++ e ∷ []) zs
wrote_one_more hand z xs es ys e zs before now = record {
  begins = prefix_trans xs ys zs before.begins now.begins;
  lawful = now.lawful;
  events = now.events ∙ (ap (λ l. l ++ e ∷ []) before.events ∙ append_assoc (own_entries (actor_of_hand hand) xs) es (e ∷ []));
  ends = λ x is. now.ends e refl ∙ (sym (last_snoc es e) ∙ is);
}
