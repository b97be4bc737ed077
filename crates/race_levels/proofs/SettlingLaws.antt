-- What came to pass between two levels.
use Rattle.std.proofs.Common.{◌≡◌, ◌≢◌, ℕ, ◌+◌, ◌<◌, List, ◌++◌, append-nil, sym, ap, subst, ◌∙◌}
use mathlib.Core.Logic.{dite}
use native.Mathlib.Decide.{ℕ_discrete}
use Rattle.std.specs.Prelude.{flat_map}
use Rattle.mem_base.specs.declared.machine.events.HistoryEntry.{HistoryEntry}
use Rattle.mem_base.specs.map.Limits.{most_passes, notifier_count}
use Rattle.mem_base.specs.machine.Actors.{own_entries}
use Rattle.mem_base.specs.machine.SharedHistory.{IsSharedLegal}
use Rattle.mem_base.specs.machine.Turns.{entries_of_turn}
use Rattle.generation.specs.Published.{Published}
use Rattle.epoch_rule.specs.Values.{PassValue}
use Rattle.desk_orders.specs.Records.{turns_given}
use Rattle.race_levels.specs.ActorLevels.{OneActed, Stayed}
use Rattle.race_levels.proofs.LevelLaws.{actors_are_level}
use Rattle.race_levels.specs.Settling.{AreLevel, DeskSettles, HaveMet, PassSettles, pass_at}

-- a pass that was level and met the longer history made nothing in it
still : (seen after : List HistoryEntry) (olds news : List (PassValue Published)) (d : PassValue Published) → AreLevel seen olds → HaveMet after olds news
    → (v : ℕ) → v < most_passes → Stayed (v + 1) seen after
still seen after olds news d level met v l =
    let at = level v d l in
    subst (λ (n : ℕ). own_entries (n + 1) after ≡ own_entries (n + 1) seen) at.0
    ((met v d l).own ∙ ap (λ (xs : List HistoryEntry). own_entries ((pass_at olds v d).number + 1) xs) at.1)

pub level_again : (after : List HistoryEntry) (olds news : List (PassValue Published))
    → ((v : ℕ) (d : PassValue Published) → v < most_passes → (pass_at olds v d).number ≡ v) → HaveMet after olds news → AreLevel after news
level_again after olds news numbers met v d l = ((met v d l).number ∙ numbers v d l, (met v d l).seen_is)

pub desk_settles : DeskSettles
desk_settles pool r w given olds news d legal grew level met =
    let more = grew.seen.0 in
    let whole : r.seat.seen ++ more ≡ w.seat.seen = grew.seen.1 in
    let one : OneActed pool r.seat.seen more = actors_are_level pool r.seat.seen more
    (subst (λ (xs : List HistoryEntry). IsSharedLegal (pool + notifier_count) most_passes xs) (sym whole) legal) in
    let turned : List HistoryEntry = flat_map entries_of_turn (turns_given r.part given) in
    let is : more ≡ turned = one.writer turned
    (ap (λ (xs : List HistoryEntry). own_entries 0 xs) whole ∙ grew.own)
    (λ v l. ap (λ (xs : List HistoryEntry). own_entries (v + 1) xs) whole ∙ still r.seat.seen w.seat.seen olds news d level met v l) in
    (sym whole ∙ ap (λ (xs : List HistoryEntry). r.seat.seen ++ xs) is, level_again w.seat.seen olds news (λ v e l. (level v e l).0) met)

pub pass_settles : PassSettles
pass_settles pool p r w new olds between news d legal grew level made met =
    let more = grew.seen.0 in
    let whole : r.seat.seen ++ more ≡ w.seat.seen = grew.seen.1 in
    let one : OneActed pool r.seat.seen more = actors_are_level pool r.seat.seen more
    (subst (λ (xs : List HistoryEntry). IsSharedLegal (pool + notifier_count) most_passes xs) (sym whole) legal) in
    let own_pass : own_entries (p + 1) w.seat.seen ≡ own_entries (p + 1) r.seat.seen ++ new =
    subst (λ (n : ℕ). own_entries (n + 1) w.seat.seen ≡ own_entries (n + 1) (pass_at between p d).seen) (made.number d) (met p d made.near).own ∙ made.made d in
    let is : more ≡ new = one.pass p new
    (ap (λ (xs : List HistoryEntry). own_entries 0 xs) whole ∙ grew.own ∙ append-nil (own_entries 0 r.seat.seen))
    (ap (λ (xs : List HistoryEntry). own_entries (p + 1) xs) whole ∙ own_pass)
    (λ v l other. ap (λ (xs : List HistoryEntry). own_entries (v + 1) xs) whole ∙ other_still v l other) in
    (sym whole ∙ ap (λ (xs : List HistoryEntry). r.seat.seen ++ xs) is, level_again w.seat.seen between news numbers met)
  where
    other_still : (v : ℕ) → v < most_passes → v ≢ p → own_entries (v + 1) w.seat.seen ≡ own_entries (v + 1) r.seat.seen
    other_still v l other =
        let same : pass_at between v d ≡ pass_at olds v d = made.others v d l other in
        let at = level v d l in
        let number : (pass_at between v d).number ≡ v = ap (λ (x : PassValue Published). x.number) same ∙ at.0 in
        let seen : (pass_at between v d).seen ≡ r.seat.seen = ap (λ (x : PassValue Published). x.seen) same ∙ at.1 in
        subst (λ (n : ℕ). own_entries (n + 1) w.seat.seen ≡ own_entries (n + 1) r.seat.seen) number
        ((met v d l).own ∙ ap (λ (xs : List HistoryEntry). own_entries ((pass_at between v d).number + 1) xs) seen)

    numbers : (v : ℕ) (e : PassValue Published) → v < most_passes → (pass_at between v e).number ≡ v
    numbers v e l = dite (ℕ_discrete v p)
        (λ same. subst (λ (n : ℕ). (pass_at between n e).number ≡ n) (sym same) (made.number e))
        (λ other. ap (λ (x : PassValue Published). x.number) (made.others v e l other) ∙ (level v e l).0)
