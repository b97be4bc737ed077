-- What a pass does between two commands is legal: it enters, leaves, and makes accesses.
use Rattle.std.proofs.Common.{◌≡◌, ℕ, ◌<◌, Bool, true, false, List, [], ◌∷◌, ◌++◌, append-nil, append_assoc, length-set, get_or-set_same, ltb-true}
use Rattle.std.proofs.Common.{refl, sym, ap, subst, ◌∙◌, arith, if◌then◌else◌, Option, Some, None, length}
use Rattle.std.specs.Prelude.{is_some, is_none, nat_lt}
use Rattle.mem_base.specs.map.PassIds.{PassId}
use Rattle.mem_base.specs.declared.map.ids.SpaceId.{SpaceId}
use Rattle.mem_base.specs.declared.machine.events.Event.{Event}
use Rattle.mem_base.specs.declared.machine.events.Event.TheVariants as events
use Rattle.mem_base.specs.lists.Every.{Every}
use Rattle.mem_base.specs.map.Limits.{most_passes}
use Rattle.mem_base.specs.map.Forest.{IsMade}
use Rattle.mem_base.specs.access.AccessSteps.{Transfer, AccessStep, blank, steps, marks, events_of_steps}
use Rattle.mem_base.specs.access.Access.{access}
use Rattle.mem_base.specs.machine.Passes.{PassState, pass_of, pass_after, is_pass, with_pass, idle}
use Rattle.mem_base.specs.machine.Generations.{Generation, generation_at, held_generations}
use Rattle.mem_base.specs.machine.World.{World, opening, possible}
use Rattle.mem_base.specs.machine.History.{PureEntry, after_entries, IsLegal, IsLegalFrom, IsOrderly, run_events}
use Rattle.mem_base.specs.machine.Composites.{accessed, enters, enters_unless, forest_at, is_entered, leaves, leaves_unless, steps_in}
use Rattle.mem_base.specs.machine.Completions.{may_access}
use Rattle.view_laws.proofs.Tests.{none_is_not_some}
use Rattle.history_laws.proofs.OrderLaws.{order}
use Rattle.world_laws.specs.Entered.{IsEnteredIn, EntersHeld}
use Rattle.world_laws.specs.Accessing.{AreLegalSteps}
use Rattle.mem_base.proofs.EveryLaws.{every_element, every_taken}
use Rattle.history_laws.proofs.PureAppends.{run_ends, after_both, legal_both}
use Rattle.world_laws.proofs.Running.{AllMay, legal_run}
use Rattle.world_laws.proofs.Entering.{entered_generations_are_held}
use Rattle.world_laws.proofs.Accessing.{accesses_are_possible}
use Rattle.run_laws.specs.MadeForests.{FitsEvent, HasMadeForests}
use Rattle.run_laws.proofs.MadeLaws.{made_run}
use Rattle.world_laws.proofs.PassKeeping.{KeepsAll, accessed_by, after_events, entered_by, may_look, steps_keep}
use Rattle.world_laws.proofs.PassKeeping.{not_entered}
use Rattle.std.proofs.lemmas.Bool.{and_from, and_parts}
use Rattle.mem_base.proofs.BoolLaws.{true_is_not_false}

-- histories in parts

-- a legal history leads to the world, and calls that fit their types made its forests
pub record Led (pool : ℕ) (xs : List PureEntry) (w : World) : Type 0 where
  pub legal : IsLegal pool most_passes xs
  pub leads : after_entries (opening pool most_passes) xs ≡ w
  pub made : HasMadeForests w.writer

-- it goes on so by legal entries
pub led_on : (pool : ℕ) (xs : List PureEntry) (w v : World) (ys : List PureEntry) → Led pool xs w → IsLegalFrom w ys → after_entries w ys ≡ v
    → HasMadeForests v.writer → Led pool (xs ++ ys) v
led_on pool xs w v ys k l e made = record {
  legal = legal_both (opening pool most_passes) xs ys k.legal (subst (λ (z : World). IsLegalFrom z ys) (sym k.leads) l);
  leads = after_both (opening pool most_passes) xs ys ∙ ap (λ (z : World). after_entries z ys) k.leads ∙ e;
  made = made;
}

-- such a history goes on to another world by these entries
pub record LedOn (pool : ℕ) (xs : List PureEntry) (w : World) (more : List PureEntry) : Type 0 where
  pub led : Led pool (xs ++ more) w

pub then_led : (pool : ℕ) (xs : List PureEntry) (v w : World) (a b : List PureEntry) → LedOn pool xs v a
    → ((ys : List PureEntry) → Led pool ys v → LedOn pool ys w b) → LedOn pool xs w (a ++ b)
then_led pool xs v w a b k next = record {
  led = subst (λ (zs : List PureEntry). Led pool zs w) (append_assoc xs a b) (next (xs ++ a) k.led).led;
}

run_led : (pool : ℕ) (xs : List PureEntry) (w : World) (es : List Event) → Led pool xs w → AllMay w es → Every FitsEvent es
    → LedOn pool xs (after_events w es) (run_events w es).entries
run_led pool xs w es k may fits = record {
  led = led_on pool xs w (after_events w es) (run_events w es).entries k (legal_run es w may) (run_ends es w) (made_run es w fits k.made);
}

-- a pass that may look may announce then, and enter

pub may_enter : (w : World) (pass : PassId) → IsOrderly w → possible w (events.Look pass) ≡ true → AllMay w (enters pass)
may_enter w pass k may =
    let t = and_parts _ _ may in
    let near : pass.0 < length w.passes = ltb-true pass.0 (length w.passes) t.0 in
    let p = pass_of w.passes pass in
    let looked : PassState = pass_after p (events.Look pass) w.writer.generations.current in
    let first = with_pass w.passes pass looked in
    let announced : PassState = pass_after (pass_of first pass) (events.Announce pass) 0 in
    let second = with_pass first pass announced in
    let long : length first ≡ length w.passes = length-set w.passes pass.0 looked in
    let longer : length second ≡ length first = length-set first pass.0 announced in
    let one : pass_of first pass ≡ looked = get_or-set_same w.passes pass.0 looked idle near in
    let two : pass_of second pass ≡ announced = get_or-set_same first pass.0 announced idle (omega (arith, near, long)) in
    let here : nat_lt pass.0 (length first) ≡ true = ap (λ (n : ℕ). nat_lt pass.0 n) long ∙ t.0 in
    let there : nat_lt pass.0 (length second) ≡ true = ap (λ (n : ℕ). nat_lt pass.0 n) (longer ∙ long) ∙ t.0 in
    let saw : is_some (pass_of first pass).looked ≡ true = ap (λ (q : PassState). is_some q.looked) one in
    let free : is_none (pass_of first pass).announced ≡ true = ap (λ (q : PassState). is_none q.announced) one ∙ t.1 in
    let told : is_some (pass_of second pass).announced ≡ true =
    ap (λ (q : PassState). is_some q.announced) two ∙ ap (λ (q : PassState). is_some q.looked) one in
    let out : is_none p.entered ≡ true = not_entered p (λ n e. let q = (k.each pass near).entered n e in (q.0, q.1)) t.1 in (
      may,
      (
        and_from _ _ (and_from _ _ here saw) free,
        (
          and_from _ _ (and_from _ _ there told)
              (ap (λ (q : PassState). is_none q.entered) two ∙ ap (λ (q : PassState). is_none q.entered) one ∙ out),
          tt,
        ),
      ),
    )

module _ (pool : ℕ) where
  pub orderly : (xs : List PureEntry) (w : World) → Led pool xs w → IsOrderly w
  orderly xs w k = subst IsOrderly k.leads (order pool most_passes xs k.legal)

  pub enters_led : (xs : List PureEntry) (w : World) (pass : PassId) → Led pool xs w → possible w (events.Look pass) ≡ true
      → LedOn pool xs (after_events w (enters pass)) (run_events w (enters pass)).entries
  enters_led xs w pass k may = run_led pool xs w (enters pass) k (may_enter w pass (orderly xs w k) may)
      (tt, (tt, (tt, tt)))

  -- the generation in which a pass is entered

  held : (xs : List PureEntry) (w : World) (pass : PassId) → Led pool xs w → EntersHeld w pass
  held xs w pass k = subst (λ (v : World). EntersHeld v pass) k.leads (entered_generations_are_held pool most_passes xs k.legal pass)

  pub record IsWithin (w : World) (pass : PassId) : Type 0 where
    pub there : is_pass w.passes pass ≡ true
    pub generation : Generation
    pub here : IsEnteredIn w pass generation
    pub made : IsMade generation.forest

  pub within : (xs : List PureEntry) (w : World) (pass : PassId) → Led pool xs w → is_entered w pass ≡ true → IsWithin w pass
  within xs w pass k e = go (pass_of w.passes pass).entered refl e
    where
      a_pass : (b : Bool) (o : Option Generation) (x : Generation) → (if b then o else None) ≡ Some x → b ≡ true
      a_pass true o x is = refl
      a_pass false o x is = none_is_not_some x is

      go : (o : Option ℕ) → (pass_of w.passes pass).entered ≡ o → is_some o ≡ true → IsWithin w pass
      go None is e = true_is_not_false false e refl
      go (Some n) is e = let x = (held xs w pass k).there n is in record {
        there = a_pass (is_pass w.passes pass) (generation_at w.writer.generations (pass_of w.passes pass).entered) x.0 x.1;
        generation = x.0;
        here = x.1;
        made = every_element (λ (y : Generation). IsMade y.forest) (held_generations w.writer.generations) x.0
            (every_taken (λ (y : Generation). IsMade y.forest) _ w.writer.generations.kept k.made.kept) x.2.among;
      }

  pub may_leave : (xs : List PureEntry) (w : World) (pass : PassId) → Led pool xs w → is_entered w pass ≡ true
      → possible w (events.Leave pass) ≡ true
  may_leave xs w pass k e = and_from _ _ (within xs w pass k e).there e

  pub leaves_led : (xs : List PureEntry) (w : World) (pass : PassId) → Led pool xs w → is_entered w pass ≡ true
      → LedOn pool xs (after_events w (leaves pass)) (run_events w (leaves pass)).entries
  leaves_led xs w pass k e = run_led pool xs w (leaves pass) k (may_leave xs w pass k e, tt) (tt, tt)

  -- the steps of an access

  steps_fit : (pass : PassId) (ds : List AccessStep) → Every FitsEvent (events_of_steps pass ds)
  steps_fit pass [] = tt
  steps_fit pass (blank n result ∷ ds) = steps_fit pass ds
  steps_fit pass (steps cell step x ∷ ds) = (tt, steps_fit pass ds)
  steps_fit pass (marks region client page ∷ ds) = (tt, steps_fit pass ds)

  pub legal_steps : (xs : List PureEntry) (w : World) (pass : PassId) (x : Generation) (space : SpaceId) (addr : ℕ) (transfer : Transfer) → Led pool xs w
      → IsEnteredIn w pass x → IsMade x.forest → AreLegalSteps w pass x (access x.forest space addr transfer)
  legal_steps xs w pass x space addr transfer k =
      subst (λ (v : World). IsEnteredIn v pass x → IsMade x.forest → AreLegalSteps v pass x (access x.forest space addr transfer)) k.leads
      (λ is made. accesses_are_possible pool most_passes xs k.legal pass x is made space addr transfer)

  pub steps_led : (xs : List PureEntry) (w : World) (pass : PassId) (space : SpaceId) (addr : ℕ) (transfer : Transfer) → Led pool xs w
      → is_entered w pass ≡ true → LedOn pool xs (after_events w (events_of_steps pass (steps_in w pass space addr transfer)))
      (run_events w (events_of_steps pass (steps_in w pass space addr transfer))).entries
  steps_led xs w pass space addr transfer k e =
      let i = within xs w pass k e in
      let same : access i.generation.forest space addr transfer ≡ steps_in w pass space addr transfer =
      ap (λ (o : Option Generation). access (forest_at o) space addr transfer) (sym i.here) in
      let l : AreLegalSteps w pass i.generation (steps_in w pass space addr transfer) =
      subst (λ (ds : List AccessStep). AreLegalSteps w pass i.generation ds) same
      (legal_steps xs w pass i.generation space addr transfer k i.here i.made) in
      let ds = steps_in w pass space addr transfer in
      let es = events_of_steps pass ds in record {
        led = led_on pool xs w (after_events w es) (run_events w es).entries k l.legal l.ends (made_run es w (steps_fit pass ds) k.made);
      }

  -- its entries
  abbrev entries_by : Bool → World → PassId → SpaceId → ℕ → Transfer → List PureEntry
  entries_by entered w pass space addr transfer =
      let before = run_events w (enters_unless entered pass) in
      let during = run_events before.world (events_of_steps pass (steps_in before.world pass space addr transfer)) in
      let later = run_events during.world (leaves_unless entered pass) in
      before.entries ++ (during.entries ++ later.entries)

  access_led_by : (entered : Bool) (xs : List PureEntry) (w : World) (pass : PassId) (space : SpaceId) (addr : ℕ) (transfer : Transfer) → Led pool xs w
      → is_entered w pass ≡ entered → may_access w pass ≡ true → LedOn pool xs (accessed_by entered w pass space addr transfer)
      (entries_by entered w pass space addr transfer)
  access_led_by true xs w pass space addr transfer k e may =
      let es : List Event = events_of_steps pass (steps_in w pass space addr transfer) in
      subst (λ (more : List PureEntry). LedOn pool xs (after_events w es) more) (sym (append-nil (run_events w es).entries))
      (steps_led xs w pass space addr transfer k e)
  access_led_by false xs w pass space addr transfer k e may =
      let look : possible w (events.Look pass) ≡ true = may_look _ _ may e in
      let u : World = after_events w (enters pass) in
      let ds : List AccessStep = steps_in u pass space addr transfer in
      let v : World = after_events u (events_of_steps pass ds) in
      let in_u : is_entered u pass ≡ true = entered_by w pass look in
      let kept : KeepsAll u v = steps_keep pass ds u in
      let in_v : is_entered v pass ≡ true = ap (λ (ps : List PassState). is_some (pass_of ps pass).entered) kept.passes ∙ in_u in
      let a : List PureEntry = (run_events w (enters pass)).entries in
      let b : List PureEntry = (run_events u (events_of_steps pass ds)).entries in
      let c : List PureEntry = (run_events v (leaves pass)).entries in
      subst (λ (more : List PureEntry). LedOn pool xs (after_events v (leaves pass)) more) (append_assoc a b c)
      (then_led pool xs v (after_events v (leaves pass)) (a ++ b) c
      (then_led pool xs u v a b (enters_led xs w pass k look) (λ ys l. steps_led ys u pass space addr transfer l in_u))
      (λ ys l. leaves_led ys v pass l in_v))

  pub access_led : (xs : List PureEntry) (w : World) (pass : PassId) (space : SpaceId) (addr : ℕ) (transfer : Transfer) → Led pool xs w
      → may_access w pass ≡ true → LedOn pool xs (accessed w pass space addr transfer).world (accessed w pass space addr transfer).entries
  access_led xs w pass space addr transfer k may =
      access_led_by (is_entered w pass) xs w pass space addr transfer k refl may
