-- A phase that stopped, or that was written.
use Rattle.std.proofs.Common.{◌≡◌, ◌+◌, List, [], ◌∷◌, ◌++◌, Result, Ok, Err, OnOk, sym, subst, ◌∙◌, append_assoc}
use Rattle.mem_base.specs.script.Spelling.{Text}
use Rattle.mem_base.specs.views.Listening.{Delivery}
use Rattle.mem_base.specs.script.Named.{Names}
use Rattle.mem_base.specs.script.RaceLines.{Said, said_text}
use Rattle.mem_base.specs.script.Run.{pool_words}
use Rattle.mem_base.specs.script.Tasks.{Known}
use Rattle.mem_base.specs.script.Race.{IsTextOfRace, Phase}
use Rattle.race_laws.specs.Stopped.{GoesOn}
use Rattle.race_laws.proofs.StoppedEnds.{race_goes_on}
use Rattle.desk_orders.specs.Records.{RecordState}
use Rattle.race_levels.specs.Outside.{StepsOn, StopsIn, WritesOn, stand_of}

pub on_both : {T E P Q R : Type 0} (r : Result T E) → OnOk r P → OnOk r Q → (P → Q → R) → OnOk r R
on_both (Ok x) p q f = f p q
on_both (Err e) p q f = tt

-- nothing was done
pub nothing_stops : (v w : RecordState) (k : Known) (phase : Phase) → w ≡ v → StopsIn v k phase w
nothing_stops v w k phase same lines done left text sizes fits cut race =
    subst (λ (r : RecordState). GoesOn lines r.seat.seen text) (sym same)
    (race_goes_on lines done (phase ∷ left) (stand_of k v) text fits cut race)

-- the phase was done, and its text is lost
pub lost_stops : (v w : RecordState) (k next : Known) (phase : Phase) (written : Text) → StepsOn v k phase w next written → StopsIn v k phase w
lost_stops v w k next phase written steps lines done left text sizes fits cut race =
    let on = race_goes_on lines (done ++ phase ∷ []) left (stand_of next w) (text ++ written) fits (cut ∙ sym (append_assoc done (phase ∷ []) left))
    (steps (pool_words lines) done text sizes race) in (
      on.0,
      written ++ on.1,
      subst (λ (t : Text). IsTextOfRace lines (w.seat.seen ++ on.0) t) (append_assoc text written on.1) on.2,
    )

-- a phase was done, and what it says was put after what stood there, by these names and this journal
pub writes_on : {T E : Type 0} (v w : RecordState) (k next : Known) (phase : Phase) (before after : Text) (said : Said) (names : Names)
    (journal : List Delivery) (r : Result T E) → OnOk r (after ≡ before ++ said_text names journal said) → names ≡ next.names
    → journal ≡ w.part.desk.listening.journal → StepsOn v k phase w next (said_text next.names w.part.desk.listening.journal said)
    → OnOk r (WritesOn v k phase w next before after)
writes_on v w k next phase before after said names journal (Ok x) is named told steps = record {
  written = said_text next.names w.part.desk.listening.journal said;
  text = is ∙ (λ i. before ++ said_text (named i) (told i) said);
  steps = steps;
}
writes_on v w k next phase before after said names journal (Err e) is named told steps = tt
