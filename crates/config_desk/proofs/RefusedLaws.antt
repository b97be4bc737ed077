-- A turn of a private event that was refused leaves the number of the current generation.
use Rattle.std.proofs.Common.{◌≡◌, ℕ, Bool, true, false, List, [], ◌∷◌, drop, Option, refl, sym, ap, subst, ◌∙◌, if◌then◌else◌, inl, inr}
use Rattle.std.specs.Prelude.{◌≢◌, ◌⊎◌, Result, Ok, Err, OnErr}
use Rattle.mem_base.specs.declared.map.calls.Applied.{Applied}
use Rattle.mem_base.specs.declared.map.calls.Config.{Config}
use Rattle.mem_base.specs.declared.map.calls.Config.TheVariants as configs
use Rattle.mem_base.specs.declared.map.refusals.Refusal.{Refusal}
use Rattle.mem_base.specs.declared.map.refusals.Refusal.TheVariants.{Memory}
use Rattle.mem_base.specs.declared.machine.events.Event.TheVariants as events
use Rattle.mem_base.specs.map.PassIds.{PassId}
use Rattle.mem_base.proofs.BoolLaws.{true_is_not_false}
use Rattle.mem_base.specs.machine.Answers.{Answer, call_answer, commit_answer, plain_answer, answer_of_config, first_or_zero, number_due}
use Rattle.mem_base.specs.machine.Configs.{configured, writer_after}
use Rattle.mem_base.specs.machine.Desk.{Desk, carried_by, unswept}
use Rattle.mem_base.specs.machine.Generations.{Generations}
use Rattle.mem_base.specs.machine.Orders.{configure, sweeps, publishes, pass_ids, events_after}
use Rattle.mem_base.specs.machine.Publishing.{Settled, would_publish}
use Rattle.mem_base.specs.machine.Reaps.{Writer, writer}
use Rattle.mem_base.specs.machine.Turns.{Played, played, turn}
use Rattle.mem_base.specs.declared.machine.events.HistoryEntry.{HistoryEntry}
use Rattle.history_laws.proofs.Idles.{Idle, IsSoundDesk}
use Rattle.history_laws.proofs.Outcomes.{Tells, outcome}
use Rattle.turn_laws.proofs.Rows.{flags_after, sweeps_of, swept_desk, with_swept, writer_played, filled_generations, fills_of}
use Rattle.writer_run.specs.Turns.{IsTurn, answer_by}

abbrev is_error : Result Applied Refusal → Bool
is_error (Ok applied) = false
is_error (Err why) = true

-- the answer is a refusal
abbrev is_refusal : Answer → Bool
is_refusal (call_answer (Err why)) = true
is_refusal (commit_answer (Err why)) = true
is_refusal (plain_answer (Err why)) = true
is_refusal answer = false

refusal_of_config : (k : Config) (r : Result Applied Refusal) (n : _) → is_refusal (answer_of_config k r n) ≡ is_error r
refusal_of_config (configs.Call call) (Ok applied) n = refl
refusal_of_config (configs.Call call) (Err why) n = refl
refusal_of_config configs.Commit (Ok applied) n = refl
refusal_of_config configs.Commit (Err why) n = refl
refusal_of_config configs.Begin (Ok applied) n = refl
refusal_of_config configs.Begin (Err why) n = refl
refusal_of_config (configs.Listen listener space priority) (Ok applied) n = refl
refusal_of_config (configs.Listen listener space priority) (Err why) n = refl
refusal_of_config (configs.Unlisten listener) (Ok applied) n = refl
refusal_of_config (configs.Unlisten listener) (Err why) n = refl

refusal_answered : (k : Config) (why : Refusal) → true ≡ is_refusal (answer_by k (Err why))
refusal_answered (configs.Call call) why = refl
refusal_answered configs.Commit why = refl
refusal_answered configs.Begin why = refl
refusal_answered (configs.Listen listener space priority) why = refl
refusal_answered (configs.Unlisten listener) why = refl

none_due : (d m : Desk) (k : Config) (r : Result Applied Refusal) → is_error r ≡ true → Tells d k m r → m.due ≡ false
none_due d m k (Ok applied) e t = true_is_not_false false e refl
none_due d m k (Err why) e t = t.1

-- a sweep leaves the number that is current
swept_current : (vs : List PassId) (h : Writer) (ns : List ℕ) → (writer_played h (sweeps_of vs) ns).generations.current ≡ h.generations.current
swept_current [] h ns = refl
swept_current (v ∷ vs) h ns = swept_current vs (writer_after h (events.Sweep v) (carried_by h.desk (events.Sweep v)) (first_or_zero ns)) (drop 1 ns)

-- nothing is due or unfilled, and what is made next is new
record Rests (d : Desk) : Type 0 where
  sound : IsSoundDesk d
  due : d.due ≡ false
  filled : d.unfilled ≡ []

rests_swept : (d : Desk) (bs : List Bool) → Rests d → Rests (with_swept bs d)
rests_swept d bs r = record {
  sound = record { forest = r.sound.forest; few = r.sound.few; places = r.sound.places; pending = r.sound.pending };
  due = r.due;
  filled = r.filled;
}

-- what a refused event leaves, after whatever was played before it
module _ (k : Config) (p : Played) where
  abbrev settled_by : Settled
  settled_by = configured p.writer.generations p.writer.desk k

  abbrev middle : Writer
  middle = writer (unswept settled_by.desk) p.writer.generations

  abbrev answered : Answer
  answered = answer_of_config k settled_by.answer (number_due middle)

  refused_later : Rests p.writer.desk → is_refusal answered ≡ true
      → (played middle (events_after middle (configure k)) p.replies).writer.generations.current ≡ p.writer.generations.current
  refused_later r e = go settled_by.desk.due
      (none_due p.writer.desk settled_by.desk k settled_by.answer (sym (refusal_of_config k settled_by.answer (number_due middle)) ∙ e)
      (outcome p.writer.generations p.writer.desk r.sound r.due r.filled k).tells)
    where
      go : (b : Bool) → b ≡ false
          → (played middle (if b then publishes middle.generations else fills_of middle.desk.unfilled) p.replies).writer.generations.current
          ≡ p.writer.generations.current
      go true off = true_is_not_false true refl off
      go false off = ap (λ (g : Generations). g.current) (filled_generations middle.desk.unfilled middle p.replies)

module _ (w : Writer) (k : Config) (rs : List ℕ) (i : Idle w) where
  abbrev before : Bool → Played
  before b = played w (if b then sweeps w.generations else []) rs

  abbrev after_it : Bool → Played
  after_it b = let m = middle k (before b) in played m (events_after m (configure k)) (before b).replies

  rests : Rests w.desk
  rests = record { sound = i.sound; due = i.due; filled = i.filled }

  refused_by : (b : Bool) → is_refusal (answered k (before b)) ≡ true → (after_it b).writer.generations.current ≡ w.generations.current
  refused_by true e = refused_later k (before true)
      (subst Rests (sym (swept_desk (pass_ids w.generations) w rs)) (rests_swept w.desk (flags_after (pass_ids w.generations) w.desk.swept) rests)) e
      ∙ swept_current (pass_ids w.generations) w rs
  refused_by false e = refused_later k (before false) rests e

  refused_turn : is_refusal (turn w (configure k) rs).answer ≡ true → (turn w (configure k) rs).writer.generations.current ≡ w.generations.current
  refused_turn e = refused_by (would_publish w.desk k) e

-- a turn that answers a refusal
refused_stays : (w v : Writer) (k : Config) (makes : List HistoryEntry → Type 0) (why : Refusal) → Idle w
    → IsTurn w (configure k) makes (answer_by k (Err why)) v → v.generations.current ≡ w.generations.current
refused_stays w v k makes why i t = ap (λ (x : Writer). x.generations.current) t.writer
    ∙ refused_turn w k t.replies i (ap is_refusal (sym t.answer_is) ∙ sym (refusal_answered k why))

either_way : {A : Type 0} (r : Result A Refusal) (P : Type 0) → P → OnErr r P
either_way (Ok x) P p = tt
either_way (Err why) P p = p

-- a call that was such a turn, or changed nothing
pub stays_current : (w v : Writer) (k : Config) (makes : List HistoryEntry → Type 0) (r : Result (Applied × Option ℕ) Refusal) → Idle w
    → (r ≢ Err Memory → IsTurn w (configure k) makes (answer_by k r) v) → (r ≡ Err Memory → v ≡ w) → (r ≡ Err Memory) ⊎ (r ≢ Err Memory)
    → OnErr r (v.generations.current ≡ w.generations.current)
stays_current w v k makes r i turned unchanged (inl out) = either_way r _ (ap (λ (x : Writer). x.generations.current) (unchanged out))
stays_current w v k makes (Ok x) i turned unchanged (inr other) = tt
stays_current w v k makes (Err why) i turned unchanged (inr other) = refused_stays w v k makes why i (turned other)
