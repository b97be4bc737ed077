-- What a pass makes before its events and after them, and where it is then.
use Rattle.std.proofs.Common.{◌≡◌, ℕ, ◌+◌, ◌<◌, Bool, true, false, List, [], ◌∷◌, ◌++◌, length, refl, sym, ap, ◌∙◌, arith}
use Rattle.std.proofs.Common.{Option, Some, None, option_map, is_some, if◌then◌else◌, append-nil, unwrap_or}
use Rattle.std.specs.Prelude.{IfSome}
use Rattle.mem_base.specs.map.PassIds.{PassId}
use Rattle.mem_base.specs.declared.access.cells.Place.{Place}
use Rattle.mem_base.specs.declared.machine.events.Event.{Event}
use Rattle.mem_base.specs.declared.machine.events.HistoryEntry.{HistoryEntry}
use Rattle.mem_base.specs.machine.Passes.{PassState, idle}
use Rattle.mem_base.specs.machine.Generations.{Generation}
use Rattle.mem_base.specs.machine.Composites.{enters_unless, leaves, leaves_unless}
use Rattle.mem_base.specs.machine.Actors.{generation_published, generations_published, own_entries, pass_after_all}
use Rattle.mem_base.specs.machine.PassTurns.{entries_of}
use Rattle.mem_base.specs.machine.Turns.{replies_of}
use Rattle.mem_base.specs.script.RaceLines.{generation_numbered}
use Rattle.mem_base.proofs.PassTurnLaws.{entries_append}
use Rattle.history_laws.proofs.AppendLaws.{pass_by_append}
use Rattle.generation.specs.Published.{Published}
use Rattle.epoch_rule.specs.Values.{PassValue}
use Rattle.epoch_rule.specs.Wrote.{Made}
use Rattle.vcpu_pass.specs.Entries.{replies_around, replies_to_enter, replies_to_leave}
use Rattle.race_laws.specs.Acting.{AreEntries, generation_in}
use Rattle.race_laws.proofs.MorePublished.{numbered_same}
use Rattle.pass_lines.specs.Doing.{Grew, state_seen}

-- entering unless it is entered, and leaving again

abbrev pub entering : Bool → PassId → ℕ → ℕ → List HistoryEntry
entering entered pass looked number = entries_of [] (enters_unless entered pass) (if entered then [] else replies_to_enter looked number)

abbrev pub leaving : Bool → PassId → List HistoryEntry
leaving entered pass = entries_of [] (leaves_unless entered pass) (if entered then [] else replies_to_leave)

pub enters_are : (b : Bool) (pass : PassId) (looked number : ℕ) → AreEntries [] (enters_unless b pass) (entering b pass looked number)
enters_are true pass looked number = refl
enters_are false pass looked number = refl

pub leaves_are : (b : Bool) (pass : PassId) → AreEntries [] (leaves_unless b pass) (leaving b pass)
leaves_are true pass = refl
leaves_are false pass = refl

-- what was made around some events, in three parts
pub cut : (b : Bool) (places : List Place) (pass : PassId) (es : List Event) (rs : List ℕ) (looked number : ℕ) → length rs ≡ length es
    → entries_of places (enters_unless b pass ++ (es ++ leaves_unless b pass)) (replies_around b looked number rs)
    ≡ (entering b pass looked number ++ entries_of places es rs) ++ leaving b pass
cut true places pass es rs looked number each =
    ap (λ (fs : List Event). entries_of places fs rs) (append-nil es) ∙ sym (append-nil (entries_of places es rs))
cut false places pass es rs looked number each =
    ap (λ (ys : List HistoryEntry). entering false pass looked number ++ ys) (entries_append places es (leaves pass) rs replies_to_leave each)

pub replies_are : (places : List Place) (es : List Event) (rs : List ℕ) → length rs ≡ length es → replies_of (entries_of places es rs) ≡ rs
replies_are places [] [] each = refl
replies_are places [] (r ∷ rs) each = absurd (omega (arith, each))
replies_are places (e ∷ es) [] each = absurd (omega (arith, each))
replies_are places (e ∷ es) (r ∷ rs) each = ap (λ (ns : List ℕ). r ∷ ns) (replies_are places es rs (omega (arith, each)))

-- where the pass is

abbrev pub number_of : Option Published → Option ℕ
number_of o = option_map (λ g. g.number) o

pub same_inside : (o : Option Published) → is_some (number_of o) ≡ is_some o
same_inside None = refl
same_inside (Some g) = refl

-- once it has come in, it is in the generation of the number
pub entered_then : (o : Option Published) (p : PassState) (pass : PassId) (looked number : ℕ) → p.entered ≡ number_of o → IfSome o (λ g. number ≡ g.number)
    → (pass_after_all p (entering (is_some o) pass looked number)).entered ≡ Some number
entered_then None p pass looked number e same = refl
entered_then (Some g) p pass looked number e same = e ∙ ap (λ (n : ℕ). Some n) (sym same)

-- and once it has gone out again, it is where it was
pub left_then : (o : Option Published) (p : PassState) (pass : PassId) (looked number : ℕ) → p.entered ≡ number_of o
    → (pass_after_all (pass_after_all p (entering (is_some o) pass looked number)) (leaving (is_some o) pass)).entered ≡ number_of o
left_then None p pass looked number e = refl
left_then (Some g) p pass looked number e = e

-- the generation in which it is, whatever is published later
pub generation_is : (xs : List HistoryEntry) (later : List Generation) (q : PassState) (number : ℕ) → number < length (generations_published xs)
    → q.entered ≡ Some number → generation_in (generations_published xs ++ later) q ≡ generation_published xs number
generation_is xs later q number l e =
    ap (λ (o : Option ℕ). generation_numbered (generations_published xs ++ later) (unwrap_or o 0)) e
    ∙ numbered_same (generations_published xs) later (omega (arith, l)) number l

-- a pass that made some entries
pub grew_made : (v w : PassValue Published) (new : List HistoryEntry) → Made v new w → Grew v new w
grew_made v w new m = record {
  cabinet = m.cabinet;
  number = m.number;
  sizes = m.sizes;
  begins = m.wrote.begins;
  own = m.wrote.events;
}

pub state_then : (v w : PassValue Published) (new : List HistoryEntry) → Grew v new w → state_seen w ≡ pass_after_all (state_seen v) new
state_then v w new g =
    ap (λ (n : ℕ). pass_after_all idle (own_entries (n + 1) w.seen)) g.number
    ∙ ap (λ (ys : List HistoryEntry). pass_after_all idle ys) g.own
    ∙ pass_by_append (own_entries (v.number + 1) v.seen) new idle

-- three parts one after another
pub state_three : (p : PassState) (one two three : List HistoryEntry)
    → pass_after_all p ((one ++ two) ++ three) ≡ pass_after_all (pass_after_all (pass_after_all p one) two) three
state_three p one two three =
    pass_by_append (one ++ two) three p ∙ ap (λ (q : PassState). pass_after_all q three) (pass_by_append one two p)
