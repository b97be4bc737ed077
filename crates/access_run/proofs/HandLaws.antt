-- Laws of what a hand has done: of what comes after one another, and of what is underway.
use Rattle.std.proofs.Common.{◌≡◌, ℕ, ◌+◌, false, List, [], ◌∷◌, ◌++◌, length, refl, sym, ap, subst, ◌∙◌, append_assoc, arith}
use Rattle.std.specs.Prelude.{replicate}
use Rattle.std.proofs.lemmas.List.{length-append, append-nil}
use Rattle.std.proofs.lemmas.List.Elements.{filter_map-append}
use Rattle.mem_base.specs.map.PassIds.{PassId}
use Rattle.mem_base.specs.declared.access.accesses.TxResult.{TxResult}
use Rattle.mem_base.specs.declared.access.cells.WordStep.{WordStep}
use Rattle.mem_base.specs.declared.machine.events.Event.{Event}
use Rattle.mem_base.specs.access.AccessSteps.{AccessStep, blank, steps, marks, event_of, events_of_steps, result_of, result_at, bytes_read}
use Rattle.mem_base.specs.access.AccessSteps.{shown_bytes, either, tx}
use Rattle.mem_base.proofs.EveryLaws.{weaker}
use Rattle.generation.specs.Published.{Published}
use Rattle.access_run.specs.Runs.{Makes, HasDone, IsUnderway, TakesStep, TakesAll}
use Rattle.access_reach.proofs.ReachLaws.{either_assoc}

-- what every hand keeps
pub record AreHandLaws {S : Type 0} (makes : Makes S) (pass : S → PassId) (shows : S → Published) : Type 0 where
  pub begins : (x : S) → makes x [] [] x
  pub goes_on : (x y z : S) (es fs : List Event) (rs qs : List ℕ) → length rs ≡ length es → makes x es rs y → makes y fs qs z
      → makes x (es ++ fs) (rs ++ qs) z
  pub stays : (x y : S) (es : List Event) (rs : List ℕ) → makes x es rs y → (pass y ≡ pass x) × (shows y ≡ shows x)

-- results

pub results_append : (ds es : List AccessStep) → result_of (ds ++ es) ≡ either (result_of ds) (result_of es)
results_append [] es = refl
results_append (d ∷ ds) es =
    ap (λ r. either (result_at d) r) (results_append ds es) ∙ sym (either_assoc (result_at d) (result_of ds) (result_of es))

-- bytes

pub bytes_append : (pass : PassId) (ds es : List AccessStep) (rs qs : List ℕ) → length rs ≡ length (events_of_steps pass ds)
    → bytes_read (ds ++ es) (rs ++ qs) ≡ bytes_read ds rs ++ bytes_read es qs
bytes_append pass [] es [] qs e = refl
bytes_append pass [] es (r ∷ rs) qs e = absurd (omega (arith, e))
bytes_append pass (blank n result ∷ ds) es rs qs e =
    ap (λ bs. replicate n 0 ++ bs) (bytes_append pass ds es rs qs e) ∙ sym (append_assoc (replicate n 0) (bytes_read ds rs) (bytes_read es qs))
bytes_append pass (steps cell step x ∷ ds) es [] qs e = absurd (omega (arith, e))
bytes_append pass (steps cell step x ∷ ds) es (r ∷ rs) qs e =
    let less : length rs ≡ length (events_of_steps pass ds) = omega (arith, e) in
    ap (λ bs. shown_bytes x r ++ bs) (bytes_append pass ds es rs qs less) ∙ sym (append_assoc (shown_bytes x r) (bytes_read ds rs) (bytes_read es qs))
bytes_append pass (marks region client page ∷ ds) es [] qs e = absurd (omega (arith, e))
bytes_append pass (marks region client page ∷ ds) es (r ∷ rs) qs e =
    let less : length rs ≡ length (events_of_steps pass ds) = omega (arith, e) in bytes_append pass ds es rs qs less

module _ {S : Type 0} (makes : Makes S) (pass : S → PassId) (shows : S → Published) (laws : AreHandLaws makes pass shows) where
  -- a hand that has done something is the same pass, in the same generation
  pub same_pass : (x y : S) (ds : List AccessStep) (bs : List ℕ) → HasDone makes (pass x) x ds bs y → pass y ≡ pass x
  same_pass x y ds bs h = (laws.stays x y (events_of_steps (pass x) ds) h.replies h.made).0

  pub same_shows : (x y : S) (ds : List AccessStep) (bs : List ℕ) → HasDone makes (pass x) x ds bs y → shows y ≡ shows x
  same_shows x y ds bs h = (laws.stays x y (events_of_steps (pass x) ds) h.replies h.made).1

  -- nothing is done at first
  pub done_none : (x : S) → HasDone makes (pass x) x [] [] x
  done_none x = record { replies = []; made = laws.begins x; each = refl; read = refl }

  -- what is done, and what is done after it
  pub done_then : (x y z : S) (ds es : List AccessStep) (bs cs : List ℕ) → HasDone makes (pass x) x ds bs y → HasDone makes (pass y) y es cs z
      → HasDone makes (pass x) x (ds ++ es) (bs ++ cs) z
  done_then x y z ds es bs cs h k =
      let p : PassId = pass x in
      let same : pass y ≡ p = same_pass x y ds bs h in
      let k : HasDone makes p y es cs z = subst (λ q. HasDone makes q y es cs z) same k in
      let events : events_of_steps p (ds ++ es) ≡ events_of_steps p ds ++ events_of_steps p es = filter_map-append (event_of p) ds es in
      let made : makes x (events_of_steps p ds ++ events_of_steps p es) (h.replies ++ k.replies) z =
      laws.goes_on x y z (events_of_steps p ds) (events_of_steps p es) h.replies k.replies h.each h.made k.made in record {
        replies = h.replies ++ k.replies;
        made = subst (λ e. makes x e (h.replies ++ k.replies) z) (sym events) made;
        each = length-append h.replies k.replies ∙ (λ i. h.each i + k.each i)
            ∙ sym (length-append (events_of_steps p ds) (events_of_steps p es)) ∙ sym (ap (λ es. length es) events);
        read = (λ i. h.read i ++ k.read i) ∙ sym (bytes_append p ds es h.replies k.replies h.each);
      }

  -- of a list of steps nothing is done at first
  pub underway_none : (x : S) (whole : List AccessStep) → IsUnderway makes (pass x) x whole whole [] (tx false false) x
  underway_none x whole = record { ds = []; done = done_none x; result = refl; parts = refl }

  -- and a part of the rest
  pub underway_then : (x y z : S) (whole rest ds later : List AccessStep) (bs cs : List ℕ) (r q : TxResult)
      → IsUnderway makes (pass x) x whole rest bs r y → rest ≡ ds ++ later → HasDone makes (pass y) y ds cs z → q ≡ result_of ds
      → IsUnderway makes (pass x) x whole later (bs ++ cs) (either r q) z
  underway_then x y z whole rest ds later bs cs r q u first h is = record {
    ds = u.ds ++ ds;
    done = done_then x y z u.ds ds bs cs u.done h;
    result = (λ i. either (u.result i) (is i)) ∙ sym (results_append u.ds ds);
    parts = u.parts ∙ ap (λ es. u.ds ++ es) first ∙ sym (append_assoc u.ds ds later);
  }

  -- until all is done
  pub all_done : (x y : S) (whole rest : List AccessStep) (bs : List ℕ) (r : TxResult) → IsUnderway makes (pass x) x whole rest bs r y → rest ≡ []
      → HasDone makes (pass x) x whole bs y
  all_done x y whole rest bs r u none =
      subst (λ ds. HasDone makes (pass x) x ds bs y) (sym (append-nil u.ds) ∙ ap (λ es. u.ds ++ es) (sym none) ∙ sym u.parts) u.done

  pub all_results : (x y : S) (whole rest : List AccessStep) (bs : List ℕ) (r : TxResult) → IsUnderway makes (pass x) x whole rest bs r y → rest ≡ []
      → r ≡ result_of whole
  all_results x y whole rest bs r u none =
      u.result ∙ ap (λ ds. result_of ds) (sym (append-nil u.ds) ∙ ap (λ es. u.ds ++ es) (sym none) ∙ sym u.parts)

  pub underway_pass : (x y : S) (whole rest : List AccessStep) (bs : List ℕ) (r : TxResult) → IsUnderway makes (pass x) x whole rest bs r y → pass y ≡ pass x
  underway_pass x y whole rest bs r u = same_pass x y u.ds bs u.done

  pub underway_shows : (x y : S) (whole rest : List AccessStep) (bs : List ℕ) (r : TxResult) → IsUnderway makes (pass x) x whole rest bs r y → shows y ≡ shows x
  underway_shows x y whole rest bs r u = same_shows x y u.ds bs u.done

-- what a hand takes it takes as it goes on
pub takes_lasts : {S : Type 0} (makes : Makes S) (takes : S → WordStep → Type 0)
    → ((x y : S) (es : List Event) (rs : List ℕ) → makes x es rs y → (step : WordStep) → takes x step → takes y step)
    → (p : PassId) (x y : S) (done : List AccessStep) (bs : List ℕ) → HasDone makes p x done bs y → (ds : List AccessStep) → TakesAll (takes x) ds
    → TakesAll (takes y) ds
takes_lasts makes takes lasts p x y done bs h ds all = weaker (TakesStep (takes x)) (TakesStep (takes y)) each ds all
  where
    each : (d : AccessStep) → TakesStep (takes x) d → TakesStep (takes y) d
    each (blank n result) t = tt
    each (steps cell step shown) t = lasts x y (events_of_steps p done) h.replies h.made step t
    each (marks region client page) t = tt
