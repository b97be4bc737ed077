-- Virtual CPUs of which one is heard.
use Rattle.std.proofs.Common.{◌≡◌, ◌≢◌, ℕ, ◌<◌, List, length, set, get_or, ap, subst, sym, ◌∙◌}
use mathlib.Core.List.{IsPrefix}
use mathlib.Core.Logic.{dite}
use native.Mathlib.Decide.{ℕ_discrete}
use base.Growing.{prefix_trans}
use Rattle.std.proofs.lemmas.List.{set-get_or}
use Rattle.mem_base.specs.declared.machine.events.HistoryEntry.{HistoryEntry}
use Rattle.generation.specs.Published.{Published}
use Rattle.epoch_rule.specs.Values.{PassValue}
use Rattle.race_levels.specs.Levels.{IsHeard}

pub same_list : (xs ys : List (PassValue Published)) (i : ℕ) (d y : PassValue Published) → ys ≡ xs → y ≡ get_or ys i d → set ys i y ≡ xs
same_list xs ys i d y is same = ap (set ys i) same ∙ set-get_or ys i d ∙ is

-- the record has heard all, where it heard one of them now and the others before
pub heard_all : (before after : List HistoryEntry) (xs : List (PassValue Published)) (i : ℕ) → IsPrefix before after
    → ((d : PassValue Published) → IsHeard after (get_or xs i d))
    → ((k : ℕ) (d : PassValue Published) → k < length xs → k ≢ i → IsHeard before (get_or xs k d))
    → (k : ℕ) (d : PassValue Published) → k < length xs → IsHeard after (get_or xs k d)
heard_all before after xs i p here others k d near = dite (ℕ_discrete k i)
    (λ at. subst (λ (n : ℕ). IsHeard after (get_or xs n d)) (sym at) (here d))
    (λ other. prefix_trans (get_or xs k d).seen before after (others k d near other) p)
