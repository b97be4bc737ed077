-- The run of a script, command after command.
use Rattle.std.proofs.Common.{◌≡◌, ℕ, zero, suc, ◌<◌, true, List, [], ◌∷◌, ◌++◌, take, drop, append-nil, append_assoc, add-one}
use Rattle.std.proofs.Common.{refl, sym, ap, subst, ◌∙◌, arith, get_or, replicate}
use Rattle.std.specs.Prelude.{◌||◌, ◌&&◌, is_some, is_none, nat_lt, Ok}
use Rattle.std.proofs.lemmas.List.{get_or-replicate}
use Rattle.std.proofs.lemmas.Bool.Decides.{nat_tests}
use Rattle.mem_base.specs.map.PassIds.{PassId}
use Rattle.mem_base.specs.map.Limits.{most_passes}
use Rattle.mem_base.specs.machine.Passes.{idle}
use Rattle.mem_base.specs.machine.World.{World, opening}
use Rattle.mem_base.specs.machine.History.{PureEntry, after_entries}
use Rattle.mem_base.specs.machine.Completions.{may_access}
use Rattle.mem_base.specs.script.Spelling.{Text}
use Rattle.mem_base.specs.script.Scripts.{Line, script_of}
use Rattle.mem_base.specs.script.States.{State, heard}
use Rattle.mem_base.specs.script.Run.{pool_words, start, step, text_from}
use Rattle.run_laws.specs.Fitting.{AreFitting, FitsCommand}
use Rattle.run_laws.specs.LawfulRuns.{RunIsLawful, history_at, history_from, state_after, state_at}
use Rattle.run_laws.specs.Asks.{added, asked_first, asks}
use Rattle.mem_base.proofs.EveryLaws.{every_taken}
use Rattle.run_laws.proofs.FittingLaws.{lines_fit}
use Rattle.run_laws.proofs.MadeLaws.{made_first}
use Rattle.run_laws.proofs.JournalLaws.{heard_is_added}
use Rattle.history_laws.proofs.PureAppends.{after_both}
use Rattle.run_laws.proofs.Ordering.{Settled}
use Rattle.run_laws.proofs.Commands.{step_settles}
use Rattle.run_laws.proofs.Lawful.{lawful}

pub may_first : (pool : ℕ) (pass : PassId) → pass.0 < most_passes → may_access (opening pool most_passes) pass ≡ true
may_first pool pass l =
    let same : get_or (replicate most_passes idle) pass.0 idle ≡ idle = get_or-replicate most_passes pass.0 idle idle l in
    let there : nat_lt pass.0 most_passes ≡ true = grind (arith, nat_tests) in
    (λ i. is_some (same i).entered || (nat_lt pass.0 most_passes && is_none (same i).announced)) ∙ (λ i. there i && true)

settled_first : (pool : ℕ) → Settled pool [] (start pool).world
settled_first pool = record {
  led = record { legal = tt; leads = refl; made = made_first pool most_passes };
  rests = refl;
  may = may_first pool;
}

-- the history of commands leads on

settled_from : (pool : ℕ) (xs : List PureEntry) (state : State) → Settled pool xs state.world → (lines : List Line) → AreFitting lines
    → Settled pool (xs ++ history_from state lines) (state_after state lines).world
settled_from pool xs state k [] fits = subst (λ (ys : List PureEntry). Settled pool ys state.world) (sym (append-nil xs)) k
settled_from pool xs state k (line ∷ lines) fits =
    let on = step_settles pool xs state k line.0 line.1 fits.0 in
    let next : State = (step state line.0 line.1).1 in
    subst (λ (ys : List PureEntry). Settled pool ys (state_after next lines).world)
    (append_assoc xs (added (asks state line.1) state.world) (history_from next lines))
    (settled_from pool (xs ++ added (asks state line.1) state.world) next on.settled lines fits.1)

-- one more command
grows : (state : State) (lines : List Line) (n : ℕ) → history_from state (take (suc n) lines)
    ≡ history_from state (take n lines) ++ added (asked_first (state_after state (take n lines)) (drop n lines)) (state_after state (take n lines)).world
grows state [] zero = refl
grows state [] (suc n) = refl
grows state (line ∷ lines) zero = append-nil (added (asks state line.1) state.world)
grows state (line ∷ lines) (suc n) =
    let next : State = (step state line.0 line.1).1 in
    ap (λ (ys : List PureEntry). added (asks state line.1) state.world ++ ys) (grows next lines n)
    ∙ sym (append_assoc (added (asks state line.1) state.world) (history_from next (take n lines))
    (added (asked_first (state_after next (take n lines)) (drop n lines)) (state_after next (take n lines)).world))

text_splits : (state : State) (lines : List Line) (n : ℕ)
    → text_from state lines ≡ text_from state (take n lines) ++ text_from (state_after state (take n lines)) (drop n lines)
text_splits state [] zero = refl
text_splits state [] (suc n) = refl
text_splits state (line ∷ lines) zero = refl
text_splits state (line ∷ lines) (suc n) =
    let x = step state line.0 line.1 in
    ap (λ (t : Text). x.0 ++ t) (text_splits x.1 lines n)
    ∙ sym (append_assoc x.0 (text_from x.1 (take n lines)) (text_from (state_after x.1 (take n lines)) (drop n lines)))

pub fitting_run : (lines : List Line) → AreFitting lines → RunIsLawful lines
fitting_run lines fits = record {
  lawful = λ n. lawful pool (history_at lines n) (state_at lines n) (at n);
  grows = λ n. ap (history_at lines) (add-one n) ∙ grows (start pool) lines n;
  told = λ n. subst (λ (m : ℕ). (state_at lines m).world.writer.desk.listening.journal
      ≡ (state_at lines n).world.writer.desk.listening.journal ++ heard (state_at lines n).world (state_at lines m).world) (sym (add-one n))
      (heard_is_added (more n) (state_at lines n).world (state_at lines (suc n)).world
      (sym (ap (λ (w : World). after_entries w (more n)) (at n).led.leads) ∙ sym (after_both (opening pool most_passes) (history_at lines n) (more n))
      ∙ sym (ap (λ (ys : List PureEntry). after_entries (opening pool most_passes) ys) (grows (start pool) lines n)) ∙ (at (suc n)).led.leads));
  text = text_splits (start pool) lines;
}
  where
    pool : ℕ
    pool = pool_words lines

    at : (n : ℕ) → Settled pool (history_at lines n) (state_at lines n).world
    at n = settled_from pool [] (start pool) (settled_first pool) (take n lines) (every_taken (λ (l : Line). FitsCommand l.1) n lines fits)

    more : ℕ → List PureEntry
    more n = added (asked_first (state_at lines n) (drop n lines)) (state_at lines n).world

pub runs_are_lawful : (text : Text) (lines : List Line) → script_of text ≡ Ok lines → RunIsLawful lines
runs_are_lawful text lines e = fitting_run lines (lines_fit text lines e)
