-- A phase ends: the desk goes on with the lines that are left, then each pass with its own, one after another.
use Rattle.std.proofs.Common.{◌≡◌, ℕ, zero, suc, ◌+◌, ◌<◌, ◌≤◌, List, [], ◌∷◌, ◌++◌, refl, sym, ap, ◌∙◌, subst, arith}
use Rattle.std.proofs.Common.{Option, append_assoc, append-nil, inl, inr, le_refl, eqb}
use Rattle.std.specs.List.{range_with_len}
use mathlib.Core.Logic.{dite}
use native.Mathlib.Decide.{ℕ_discrete}
use Rattle.mem_base.specs.map.PassIds.{PassId}
use Rattle.mem_base.specs.declared.machine.events.HistoryEntry.{HistoryEntry}
use Rattle.mem_base.specs.declared.machine.records.Differs.{Differs}
use Rattle.mem_base.specs.lists.Every.{Every}
use Rattle.mem_base.specs.map.Limits.{most_passes}
use Rattle.mem_base.specs.machine.Passes.{pass_id}
use Rattle.mem_base.specs.machine.Generations.{Generation}
use Rattle.mem_base.specs.machine.Actors.{own_entries}
use Rattle.mem_base.specs.machine.Turns.{Answered}
use Rattle.mem_base.specs.machine.Records.{got_by, recorded}
use Rattle.mem_base.specs.script.Scripts.{Line}
use Rattle.mem_base.specs.script.Tasks.{Known}
use Rattle.mem_base.specs.script.Race.{Phase, Stand, Course, actor_number, desk_number, lines_by, lines_in, pass_state, passes, IsPassPart}
use Rattle.mem_base.proofs.EveryLaws.{every_filter, every_map, every_rest}
use Rattle.run_laws.specs.Fitting.{FitsCommand}
use Rattle.race_laws.specs.SoFar.{IsNextPhase}
use Rattle.race_laws.proofs.GoesOn.{IsRested}
use Rattle.race_laws.proofs.ActingLaws.{desk_ends, pass_ends}
use Rattle.race_laws.proofs.Closing.{HasClosed, closed}
use Rattle.race_laws.proofs.DeskGoes.{DeskIs, DeskOn, desk_kept, desk_lines_on}
use Rattle.race_laws.proofs.NextNumbers.{next_under}
use Rattle.race_laws.proofs.PhaseParts.{Part, has_clerk, only_none, published_in}
use Rattle.race_laws.proofs.PassGoesOn.{PassIs, PassOn, pass_kept, pass_lines_on, seen_on, state_kept}

-- a pass has done the first of its lines
pub record PassBegun (s : Stand) (phase : Phase) (c : Course) (pass : PassId) : Type 0 where
  pub front : List Line
  pub left : List Line
  pub lines : lines_by pass.0 phase ≡ front ++ left
  pub at : PassIs s c pass front

pub record DeskBegun (s : Stand) (phase : Phase) (c : Course) : Type 0 where
  pub front : List Line
  pub left : List Line
  pub lines : lines_by desk_number phase ≡ front ++ left
  pub now : Known
  pub at : DeskIs s c front now

-- each actor has done the first of its lines
pub record Begun (pool : ℕ) (os : List Answered) (s : Stand) (phase : Phase) (c : Course) : Type 0 where
  pub part : Part pool os s phase c
  pub desk : DeskBegun s phase c
  pub each : (pass : PassId) → pass.0 < most_passes → PassBegun s phase c pass
  pub rested : (pass : PassId) → pass.0 < most_passes → IsRested (pass_state pass (s.seen ++ c.entries))

-- the desk has done all of its lines, and so have the passes of the numbers below `count`
pub record Upto (count : ℕ) (pool : ℕ) (os : List Answered) (s : Stand) (phase : Phase) (c : Course) : Type 0 where
  pub part : Part pool os s phase c
  pub now : Known
  pub desk : DeskIs s c (lines_by desk_number phase) now
  pub below : (pass : PassId) → pass.0 < most_passes → pass.0 < count → PassIs s c pass (lines_by pass.0 phase)
  pub above : (pass : PassId) → pass.0 < most_passes → count ≤ pass.0 → PassBegun s phase c pass
  pub rested : (pass : PassId) → pass.0 < most_passes → IsRested (pass_state pass (s.seen ++ c.entries))

-- with what was added to a course
pub record UptoOn (count : ℕ) (pool : ℕ) (os : List Answered) (s : Stand) (phase : Phase) (c : Course) : Type 0 where
  pub course : Course
  pub upto : Upto count pool os s phase course
  pub more : List HistoryEntry
  pub is : course.entries ≡ c.entries ++ more

module _ (pool : ℕ) (os : List Answered) (s : Stand) (phase : Phase) (fits : Every (λ l. FitsCommand l.1) (lines_in phase)) where
  left_fits : (who : ℕ) (front left : List Line) → lines_by who phase ≡ front ++ left → Every (λ l. FitsCommand l.1) left
  left_fits who front left is = every_rest (λ l. FitsCommand l.1) front left
      (subst (λ (ls : List Line). Every (λ l. FitsCommand l.1) ls) is (every_filter (λ l. FitsCommand l.1)
      (λ l. eqb (actor_number l.1) who) (lines_in phase) fits))

  desk_goes : (c : Course) (front left : List Line) (now : Known) → lines_by desk_number phase ≡ front ++ left → Part pool os s phase c → DeskIs s c front now
      → DeskOn pool os s phase c (front ++ left)
  desk_goes c front [] now is part at = record {
    course = c;
    part = part;
    only = only_none desk_number c;
    now = now;
    at = subst (λ (ls : List Line). DeskIs s c ls now) (sym (append-nil front)) at;
  }
  desk_goes c front (line ∷ left) now is part at =
      desk_lines_on pool os s phase (λ cs whos. has_clerk phase cs desk_number front line left whos (inl refl) is) (line ∷ left) front c now part at
      (left_fits desk_number front (line ∷ left) is)

  pass_goes : (c : Course) (pass : PassId) → pass.0 < most_passes → (front left : List Line) → lines_by pass.0 phase ≡ front ++ left → Part pool os s phase c
      → PassIs s c pass front → IsRested (pass_state pass (s.seen ++ c.entries)) → PassOn pool os s phase c pass (front ++ left)
  pass_goes c pass near front [] is part at rested = record {
    course = c;
    part = part;
    only = only_none pass.0 c;
    at = subst (λ (ls : List Line). PassIs s c pass ls) (sym (append-nil front)) at;
    rested = rested;
  }
  pass_goes c pass near front (line ∷ left) is part at rested =
      pass_lines_on pool os s phase pass near (λ cs whos. has_clerk phase cs pass.0 front line left whos (inr near) is) (line ∷ left) front c part at rested
      (left_fits pass.0 front (line ∷ left) is)

  -- what another actor did leaves a pass as it was
  pub rested_kept : (c d : Course) (pass : PassId) (ys : List HistoryEntry) → d.entries ≡ c.entries ++ ys → own_entries (pass.0 + 1) ys ≡ []
      → IsRested (pass_state pass (s.seen ++ c.entries)) → IsRested (pass_state pass (s.seen ++ d.entries))
  rested_kept c d pass ys is none h =
      subst IsRested (sym (state_kept pass (s.seen ++ c.entries) ys (s.seen ++ d.entries) (seen_on s c d ys is) none)) h

  pub begun_kept : (c d : Course) (pass : PassId) (ys : List HistoryEntry) → d.entries ≡ c.entries ++ ys → own_entries (pass.0 + 1) ys ≡ []
      → got_by pass.0 d.clerks ≡ got_by pass.0 c.clerks → PassBegun s phase c pass → PassBegun s phase d pass
  begun_kept c d pass ys is none got h = record {
    front = h.front;
    left = h.left;
    lines = h.lines;
    at = pass_kept s c d pass h.front ys is none got h.at;
  }

  desk_first : (c : Course) → Begun pool os s phase c → UptoOn 0 pool os s phase c
  desk_first c h =
      let b = h.desk in
      let a = desk_goes c b.front b.left b.now b.lines h.part b.at in
      let other : (pass : PassId) → pass.0 < most_passes → pass.0 ≡ desk_number → ⊥ = λ pass near same. omega (arith, near, same) in record {
        course = a.course;
        upto = record {
          part = a.part;
          now = a.now;
          desk = subst (λ (ls : List Line). DeskIs s a.course ls a.now) (sym b.lines) a.at;
          below = λ pass near none. absurd (omega (arith, none));
          above = λ pass near low. begun_kept c a.course pass a.only.more a.only.is (a.only.apart pass.0 (other pass near))
              (a.only.got pass.0 (other pass near)) (h.each pass near);
          rested = λ pass near. rested_kept c a.course pass a.only.more a.only.is (a.only.apart pass.0 (other pass near)) (h.rested pass near);
        };
        more = a.only.more;
        is = a.only.is;
      }

  pass_next : (count : ℕ) → count < most_passes → (c : Course) → Upto count pool os s phase c → UptoOn (count + 1) pool os s phase c
  pass_next count near c h =
      let v : PassId = pass_id count in
      let b : PassBegun s phase c v = h.above v near (le_refl count) in
      let a : PassOn pool os s phase c v (b.front ++ b.left) = pass_goes c v near b.front b.left b.lines h.part b.at (h.rested v near) in
      let d : Course = a.course in
      let not_desk : desk_number ≡ count → ⊥ = λ same. omega (arith, near, same) in
      let it_is : (pass : PassId) → pass.0 ≡ count → pass ≡ v = λ pass e i. record { 0 = e i } in record {
        course = d;
        upto = record {
          part = a.part;
          now = h.now;
          desk = desk_kept s c d a.only.more (lines_by desk_number phase) h.now a.only.is (a.only.got desk_number not_desk) h.desk;
          below = λ pass l low. dite (ℕ_discrete pass.0 count)
              (λ e. subst (λ (u : PassId). PassIs s d u (lines_by u.0 phase)) (sym (it_is pass e)) (subst
              (λ (ls : List Line). PassIs s d v ls) (sym b.lines) a.at))
              (λ ne. pass_kept s c d pass (lines_by pass.0 phase) a.only.more a.only.is (a.only.apart pass.0 ne) (a.only.got pass.0 ne)
              (h.below pass l (next_under pass.0 count low ne)));
          above = λ pass l high. let ne : pass.0 ≡ count → ⊥ = (λ e. omega (arith, high, e)) in
              begun_kept c d pass a.only.more a.only.is (a.only.apart pass.0 ne) (a.only.got pass.0 ne) (h.above pass l (omega (arith, high)));
          rested = λ pass l. dite (ℕ_discrete pass.0 count)
              (λ e. subst (λ (u : PassId). IsRested (pass_state u (s.seen ++ d.entries))) (sym (it_is pass e)) a.rested)
              (λ ne. rested_kept c d pass a.only.more a.only.is (a.only.apart pass.0 ne) (h.rested pass l));
        };
        more = a.only.more;
        is = a.only.is;
      }

  passes_next : (k count : ℕ) → count + k ≡ most_passes → (c : Course) → Upto count pool os s phase c → UptoOn most_passes pool os s phase c
  passes_next zero count all c h =
      let same : count ≡ most_passes = omega (arith, all) in
      record { course = c; upto = subst (λ (n : ℕ). Upto n pool os s phase c) same h; more = []; is = sym (append-nil c.entries) }
  passes_next (suc k) count all c h =
      let one = pass_next count (omega (arith, all)) c h in
      let rest = passes_next k (count + 1) (omega (arith, all)) one.course one.upto in record {
        course = rest.course;
        upto = rest.upto;
        more = one.more ++ rest.more;
        is = rest.is ∙ ap (λ (xs : List HistoryEntry). xs ++ rest.more) one.is ∙ append_assoc c.entries one.more rest.more;
      }

  pub all_go : (c : Course) → Begun pool os s phase c → UptoOn most_passes pool os s phase c
  all_go c h =
      let one = desk_first c h in
      let rest = passes_next most_passes 0 refl one.course one.upto in record {
        course = rest.course;
        upto = rest.upto;
        more = one.more ++ rest.more;
        is = rest.is ∙ ap (λ (xs : List HistoryEntry). xs ++ rest.more) one.is ∙ append_assoc c.entries one.more rest.more;
      }

-- all passes

pub every_pass : (P : PassId → Type 0) → ((pass : PassId) → pass.0 < most_passes → P pass) → Every P passes
every_pass P h = every_map P pass_id (range_with_len 0 most_passes) (each_from most_passes 0 refl)
  where
    each_from : (k a : ℕ) → a + k ≡ most_passes → Every (λ n. P (pass_id n)) (range_with_len a k)
    each_from zero a all = tt
    each_from (suc k) a all = (h (pass_id a) (omega (arith, all)), each_from k (a + 1) (omega (arith, all)))

-- where all lines were done, the phase is whole

abbrev pub closed_with : Course → Option Differs → Course
closed_with c differs = record { given = c.given; clerks = c.clerks; differs = differs; entries = c.entries }

pub whole_phase : (pool : ℕ) (os : List Answered) (s : Stand) (phase : Phase) (c : Course) → Upto most_passes pool os s phase c
    → (d : Option Differs) × IsNextPhase pool s phase (closed_with c d)
whole_phase pool os s phase c h =
    let end : HasClosed phase (recorded s.writer c.given) c.clerks = closed phase (recorded s.writer c.given) c.clerks h.part.closes in
    let e : Course = closed_with c end.differs in
    let gs : List Generation = published_in s c in
    let part_of : (pass : PassId) → pass.0 < most_passes → IsPassPart gs s phase e pass =
    λ pass near. pass_ends gs s phase e pass (pass_state pass (s.seen ++ c.entries)) (h.below pass near near) in (
      end.differs,
      record {
        legal = h.part.stands.legal;
        lines = record {
          writer = h.part.own;
          desk = desk_ends gs s phase e h.now h.desk;
          each = every_pass (IsPassPart gs s phase e) part_of;
          clerks = h.part.clerks;
          closes = end.closes;
          lock = end.may;
        };
        told = h.part.told;
        fits = h.part.fits;
      },
    )
