-- What a runner has between two phases, once more after a phase.
use Rattle.std.proofs.Common.{◌≡◌, ℕ, ◌+◌, ◌<◌, List, [], ◌∷◌, ◌++◌, length, suc, refl, sym, ap, subst, ◌∙◌, arith}
use Rattle.std.proofs.Common.{length-append}
use Rattle.std.specs.Prelude.{All, option_map, slice_index_or}
use Rattle.mem_base.specs.declared.machine.events.HistoryEntry.{HistoryEntry}
use Rattle.mem_base.specs.declared.machine.records.DeskEntry.{DeskEntry}
use Rattle.mem_base.specs.map.Limits.{most_passes}
use Rattle.mem_base.specs.machine.Actors.{pass_after_all}
use Rattle.mem_base.specs.machine.Passes.{PassState, idle, pass_id}
use Rattle.mem_base.specs.machine.Records.{Given, recorded}
use Rattle.mem_base.specs.script.Race.{pass_state}
use Rattle.generation.specs.Published.{Published}
use Rattle.epoch_rule.specs.Values.{PassValue}
use Rattle.pass_lines.specs.Doing.{IsInItsGeneration, state_seen}
use Rattle.desk_orders.specs.Records.{GrewBy, IsLater, RecordState}
use Rattle.race_levels.specs.Levels.{HasMet, IsOfCabinet}
use Rattle.race_levels.specs.Settling.{HaveMet, pass_at}
use Rattle.race_levels.specs.Ready.{AreReady}
use Rattle.race_levels.proofs.SettlingLaws.{level_again}

-- a record that has no more entries took no order

longer : (xs ys zs : List DeskEntry) (e : DeskEntry) → zs ≡ xs ++ e ∷ ys → zs ≡ xs → ⊥
longer xs ys zs e more same =
    let all : length zs ≡ length xs + length (e ∷ ys) = ap length more ∙ length-append xs (e ∷ ys) in
    let one : length (e ∷ ys) ≡ suc (length ys) = refl in
    let none : length zs ≡ length xs = ap length same in absurd (omega (arith, all, one, none))

pub quiet : (v w : RecordState) → IsLater v w → w.entries ≡ v.entries → GrewBy [] v w
quiet v w l same = go l.given l.grew
  where
    go : (given : List Given) → GrewBy given v w → GrewBy [] v w
    go [] g = g
    go (x ∷ xs) g = absurd (by_entries (recorded v.part (x ∷ xs)) g.entries refl)
      where
        by_entries : (es : List DeskEntry) → w.entries ≡ v.entries ++ es → recorded v.part (x ∷ xs) ≡ es → ⊥
        by_entries [] more is = absurd (omega (arith, (let l : length (recorded v.part (x ∷ xs)) ≡ 0 = ap length is in l)))
        by_entries (e ∷ es) more is = longer v.entries es w.entries e more same

-- a pass that met a longer history stays in its generation, by its own entries too

state_met : (seen : List HistoryEntry) (v w : PassValue Published) → HasMet seen v w → state_seen w ≡ state_seen v
state_met seen v w m =
    ap (λ (n : ℕ). pass_state (pass_id n) w.seen) m.number
    ∙ ap (λ (xs : List HistoryEntry). pass_state (pass_id v.number) xs) m.seen_is
    ∙ ap (λ (xs : List HistoryEntry). pass_after_all idle xs) m.own

pub stays_inside : (seen : List HistoryEntry) (v w : PassValue Published) → HasMet seen v w → IsInItsGeneration v → IsInItsGeneration w
stays_inside seen v w m inside =
    ap (λ (p : PassState). p.entered) (state_met seen v w m) ∙ inside ∙ ap (option_map (λ (g : Published). g.number)) (sym m.edition)

-- all sixteen have met what the record has seen

pub have_met : (seen : List HistoryEntry) (olds news : List (PassValue Published)) → length olds ≡ most_passes
    → ((i : ℕ) (d : PassValue Published) → i < length olds → HasMet seen (slice_index_or olds i d) (slice_index_or news i d)) → HaveMet seen olds news
have_met seen olds news all met i d near = met i d (subst (λ (n : ℕ). i < n) (sym all) near)

pub ready_again : (w : RecordState) (olds news : List (PassValue Published)) → length olds ≡ most_passes → length news ≡ length olds
    → All (IsOfCabinet w.seat.cabinet) olds → All IsInItsGeneration olds
    → ((i : ℕ) (d : PassValue Published) → i < most_passes → (pass_at olds i d).number ≡ i)
    → ((i : ℕ) (d : PassValue Published) → i < length olds → HasMet w.seat.seen (slice_index_or olds i d) (slice_index_or news i d)) → AreReady w news
ready_again w olds news all count own inside numbers met = record {
  all = count ∙ all;
  own = λ i d l. let near : i < length olds = subst (λ (n : ℕ). i < n) count l in (met i d near).cabinet ∙ own i d near;
  level = level_again w.seat.seen olds news numbers (have_met w.seat.seen olds news all met);
  inside = λ i d l. let near : i < length olds = subst (λ (n : ℕ). i < n) count l in
      stays_inside w.seat.seen (slice_index_or olds i d) (slice_index_or news i d) (met i d near) (inside i d near);
}

-- all sixteen met a later record, from where they were level
pub settled : (v w : RecordState) (olds news : List (PassValue Published)) → AreReady v olds → IsLater v w → length news ≡ length olds
    → ((i : ℕ) (d : PassValue Published) → i < length olds → HasMet w.seat.seen (slice_index_or olds i d) (slice_index_or news i d)) → AreReady w news
settled v w olds news ready later count met =
    ready_again w olds news ready.all count (λ i d l. ready.own i d l ∙ sym later.grew.cabinet) ready.inside (λ i d l. (ready.level i d l).0) met
