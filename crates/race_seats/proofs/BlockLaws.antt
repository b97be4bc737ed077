-- A block, from the places that its actors took to what its runner has after it.
use Rattle.std.proofs.Common.{◌≡◌, ◌⊎◌, ℕ, ◌+◌, ◌<◌, Bool, false, List, [], ◌∷◌, ◌++◌, length, get_or, refl, sym, ap, subst, ◌∙◌, arith}
use Rattle.std.proofs.lemmas.List.{length_push, nil_from_length}
use Rattle.std.proofs.Common.{zero, suc, inl, inr, All, Option, Some, None, OnOk, Result, option_to_list}
use Rattle.std.specs.List.{range_with_len, list_any}
use Rattle.mem_base.specs.declared.machine.records.Differs.{Differs}
use Rattle.mem_base.specs.lists.Every.{Every}
use Rattle.mem_base.proofs.EveryLaws.{every_at, every_filter, weaker}
use Rattle.mem_base.specs.map.Limits.{most_passes}
use Rattle.mem_base.specs.machine.Records.{Clerk, Closes}
use Rattle.mem_base.specs.script.Scripts.{Line}
use Rattle.mem_base.specs.script.Spelling.{Text}
use Rattle.mem_base.specs.script.Tasks.{Known}
use Rattle.mem_base.specs.script.Race.{Phase, actors_in, block, differs_line}
use Rattle.generation.specs.Published.{Published}
use Rattle.epoch_rule.specs.Rule.{IsLegal}
use Rattle.epoch_rule.specs.Values.{PassValue}
use Rattle.race_laws.proofs.StoppedEnds.{race_goes_on}
use Rattle.desk_orders.specs.Records.{IsLater, RecordState, later_entries}
use Rattle.race_phases.specs.Plain.{has_lines}
use Rattle.race_block.specs.declared.blocks.BlockActor.{BlockActor}
use Rattle.race_block.specs.declared.blocks.BlockActor.TheVariants.{Desk, Pass, Gone}
use Rattle.race_block.specs.Blocks.{CanAct}
use Rattle.race_block.specs.Joined.{HasJoined}
use Rattle.race_levels.specs.Levels.{HasMet}
use Rattle.race_levels.specs.Outside.{StepsOn, StopsIn, WritesOn, stand_of}
use Rattle.race_seats.specs.Starts.{AreAtStart}
use Rattle.race_seats.specs.Ran.{HasRunBlock, block_text, is_out_of_memory, known_after_block}
use Rattle.race_seats.specs.Blocks.{HasRunAll}
use Rattle.race_seats.specs.Seats.{AllComeBack, AreSeated, ComeBack, IsKnown, IsTold, acting, desks_known, known_now, names_then}
use Rattle.race_seats.specs.Texts.{actors_said, names_now}
use Rattle.race_seats.specs.declared.seats.Seated.{Seated}
use Rattle.race_seats.proofs.SeatLaws.{all_can, all_start}
use Rattle.race_seats.proofs.BackLaws.{AllBack, all_back, all_rest}
use Rattle.race_seats.proofs.JoinedLaws.{Parted, parted, texts_after}
use Rattle.race_levels.proofs.StoppingLaws.{on_both}

-- the numbers of passes

in_range : (n from : ℕ) → Every (λ p. p < from + n) (range_with_len from n)
in_range zero from = tt
in_range (suc n) from = (
  omega arith,
  weaker (λ (p : ℕ). p < (from + 1) + n) (λ p. p < from + suc n) (λ p l. omega (arith, l)) (range_with_len (from + 1) n) (in_range n (from + 1)),
)

pub near_passes : (lines : List Line) → Every (λ p. p < most_passes) (acting lines most_passes)
near_passes lines = every_filter (λ p. p < most_passes) (has_lines (block lines)) (range_with_len 0 most_passes) (in_range most_passes 0)

-- what a pop leaves of one at most
pub popped_one : (front news : List BlockActor) (got : Option BlockActor) → (front ≡ []) ⊎ ((b : BlockActor) × (front ≡ b ∷ []))
    → front ≡ news ++ option_to_list got → (got ≡ None → length front ≡ 0) → option_to_list got ≡ front
popped_one front news None few is none = sym (nil_from_length front (none refl))
popped_one front [] (Some x) few is none = sym is
popped_one front (y ∷ news) (Some x) (inl e) is none = absurd (let long = ap length (sym e ∙ is) in omega (arith, long))
popped_one front (y ∷ news) (Some x) (inr e) is none =
    let long : length (e.0 ∷ []) ≡ length (y ∷ (news ++ x ∷ [])) = ap length (sym e.1 ∙ is) in
    let more = length_push news x in
    absurd (omega (arith, long, more))

-- where nothing was done, the race could have gone on
pub nothing_stops : (v : RecordState) (k : Known) (phase : Phase) → StopsIn v k phase v
nothing_stops v k phase lines done left text sizes fits are so_far = race_goes_on lines done (phase ∷ left) (stand_of k v) text fits are so_far

-- what is told of the run of a block, by the actors that were handed in
pub has_run_all : (v w : RecordState) (olds given news : List BlockActor) (clerks : List Clerk) (differs : Option Differs) → given ≡ olds → IsLater v w
    → IsLegal w.seat.sizes w.seat.seen → Closes (later_entries v w) clerks differs → length news ≡ length given → length clerks ≡ length given
    → ((i : ℕ) (d : BlockActor) (c : Clerk) → i < length given → HasJoined w.seat.seen (get_or given i d) (get_or news i d) (get_or clerks i c))
    → HasRunAll v w olds news clerks differs
has_run_all v w olds given news clerks differs same later legal closes count clerks_count joined =
    subst (λ (xs : List BlockActor). HasRunAll v w xs news clerks differs) same
    (record { later = later; legal = legal; closes = closes; all_news = count; all_clerks = clerks_count; joined = joined })

module _ (k : Known) (lines : List Line) (v : RecordState) (s : Seated) (h : AreSeated k lines v s) where
  pub seated_start : AreAtStart k lines v.seat.seen (actors_in (block lines)) s.actors.items
  seated_start = subst (λ (xs : List BlockActor). AreAtStart k lines v.seat.seen (actors_in (block lines)) xs) (sym h.actors)
      (all_start k lines v s.known.now h.front h.passes h.desk h.starts)

  pub seated_can : Every (CanAct v.seat.cabinet) s.actors.items
  seated_can = subst (Every (CanAct v.seat.cabinet)) (sym h.actors) (all_can k lines v s.known.now h.front h.passes h.desk h.can)

  pub seated_can_all : All (CanAct v.seat.cabinet) s.actors.items
  seated_can_all i d l = every_at (CanAct v.seat.cabinet) s.actors.items i d l seated_can

module _ (k : Known) (lines : List Line) (v w : RecordState) (s : Seated) (h : AreSeated k lines v s) (news : List BlockActor) (clerks : List Clerk)
    (differs : Option Differs) (r : HasRunAll v w s.actors.items news clerks differs) where
  pub parts : Parted k lines v w r.later.grew.cabinet s.known.now news
  parts = parted k lines v w r.later.grew.cabinet s.known.now h.front h.passes news clerks h.desk (near_passes lines) h.starts h.can
      (r.all_news ∙ ap length h.actors) (r.all_clerks ∙ ap length h.actors)
      (subst (λ (xs : List BlockActor). (i : ℕ) (d : BlockActor) (c : Clerk) → i < length xs
      → HasJoined w.seat.seen (get_or xs i d) (get_or news i d) (get_or clerks i c)) h.actors r.joined)

  -- all virtual CPUs have come back
  pub came_back : (told : List Bool) (rest : List BlockActor) (cpus : List (PassValue Published)) → told ≡ s.busy.items
      → AllComeBack told news rest s.waiting.items s.cpus.items cpus → (rest ≡ parts.front) × AllBack lines v w cpus
  came_back told rest cpus same come =
      let all : AllComeBack s.busy.items news rest s.waiting.items s.cpus.items cpus =
      subst (λ (bs : List Bool). AllComeBack bs news rest s.waiting.items s.cpus.items cpus) same come in
      let comes : ComeBack lines most_passes news rest s.waiting.items s.cpus.items cpus =
      subst (λ (n : ℕ). ComeBack lines n news rest s.waiting.items s.cpus.items cpus) h.all_busy (all lines h.busy) in
      let b = comes v w parts.front parts.passes parts.is parts.seats h.wait in
      (b.rest_is, all_back lines v w parts.front rest s.cpus.items cpus h.no_cpus b)

  pub has_run : (cpus after : List (PassValue Published)) → AllBack lines v w cpus
      → ((i : ℕ) (d : PassValue Published) → i < length cpus → HasMet w.seat.seen (get_or cpus i d) (get_or after i d))
      → HasRunBlock k lines v w s.actors.items news clerks differs
  has_run cpus after back met = record {
    starts = seated_start k lines v s h;
    can = seated_can_all k lines v s h;
    later = r.later;
    legal = r.legal;
    closes = r.closes;
    all_news = r.all_news;
    all_clerks = r.all_clerks;
    joined = r.joined;
    rest = all_rest lines v w cpus after back met;
  }

  pub texts_are : list_any is_out_of_memory news ≡ false
      → actors_said (names_now s.known.now news) w.part.desk.listening.journal news clerks ++ differs_line differs ≡ block_text k lines w news clerks differs
  texts_are lasted =
      ap (λ (t : Text). t ++ differs_line differs)
      (ap (λ names. actors_said names w.part.desk.listening.journal news clerks) parts.names
      ∙ texts_after k lines v w r.later.grew.cabinet (known_after_block k news).names w.part.desk.listening.journal (actors_in (block lines)) s.actors.items
      news clerks (seated_start k lines v s h) (seated_can k lines v s h) r.all_news r.all_clerks r.joined lasted)

  -- what is known then
  pub known_list : (rest less : List BlockActor) (got : Option BlockActor) → rest ≡ parts.front → rest ≡ less ++ option_to_list got
      → (got ≡ None → length rest ≡ 0) → option_to_list got ≡ parts.front
  known_list rest less got is pops none =
      popped_one parts.front less got parts.few (sym is ∙ pops) (λ e. ap length (sym is) ∙ none e)

  pub known_is : (rest less : List BlockActor) (got : Option BlockActor) → rest ≡ parts.front → rest ≡ less ++ option_to_list got
      → (got ≡ None → length rest ≡ 0) → known_now k s.known.now (option_to_list got) ≡ known_after_block k news
  known_is rest less got is pops none = ap (λ (xs : List BlockActor). known_now k s.known.now xs) (known_list rest less got is pops none) ∙ parts.now

-- what is known is told by what the desk knows
pub is_told : (kept : Option Known) (actors : List BlockActor) → IsKnown kept actors → IsTold kept (desks_known actors)
is_told (Some x) actors h = tt
is_told None (Desk a ∷ actors) h = tt
is_told None [] h = absurd h
is_told None (Pass a ∷ actors) h = absurd h
is_told None (Gone ∷ actors) h = absurd h

pub names_same : (k : Known) (kept : Option Known) (actors : List BlockActor) → names_then k kept (desks_known actors) ≡ known_now k kept actors
names_same k (Some x) actors = refl
names_same k None (Desk a ∷ actors) = refl
names_same k None [] = refl
names_same k None (Pass a ∷ actors) = refl
names_same k None (Gone ∷ actors) = refl

-- the race takes the block, where all is written
pub steps_on : {T E : Type 0} (k : Known) (lines : List Line) (v w last : RecordState) (s : Seated) (h : AreSeated k lines v s) (news shown : List BlockActor)
    (clerks told : List Clerk) (differs : Option Differs) → HasRunAll v w s.actors.items news clerks differs → (next : Known) (before after : Text)
    (done : Result T E) → shown ≡ news → told ≡ clerks → last ≡ w → next ≡ known_after_block k news
    → OnOk done (list_any is_out_of_memory shown ≡ false)
    → OnOk done (after ≡ before ++ (actors_said (names_now s.known.now shown) w.part.desk.listening.journal shown told ++ differs_line differs))
    → (list_any is_out_of_memory news ≡ false → StepsOn v k (block lines) w (known_after_block k news) (block_text k lines w news clerks differs))
    → OnOk done (WritesOn v k (block lines) last next before after)
steps_on k lines v w last s h news shown clerks told differs r next before after done same_news same_clerks same known lasted text steps =
    on_both done lasted text (λ all put. record {
      written = block_text k lines w news clerks differs;
      text = put ∙ ap (λ (t : Text). before ++ t)
          ((λ i. actors_said (names_now s.known.now (same_news i)) w.part.desk.listening.journal (same_news i) (same_clerks i) ++ differs_line differs)
          ∙ texts_are k lines v w s h news clerks differs r (subst (λ (xs : List BlockActor). list_any is_out_of_memory xs ≡ false) same_news all));
      steps = subst (λ (z : RecordState × Known). StepsOn v k (block lines) z.0 z.1 (block_text k lines w news clerks differs)) (λ i. (sym same i, sym known i))
          (steps (subst (λ (xs : List BlockActor). list_any is_out_of_memory xs ≡ false) same_news all));
    })
