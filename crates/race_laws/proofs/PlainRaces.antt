-- A race without a block is the run: line by line.
use Rattle.std.proofs.Common.{◌≡◌, ℕ, Bool, true, false, List, [], ◌∷◌, ◌++◌, map, append_assoc, append-nil, refl, sym, ap, subst, ◌∙◌, arith, inl, inr}
use Rattle.std.proofs.Common.{if◌then◌else◌}
use Rattle.std.specs.Prelude.{flat_map}
use Rattle.mem_base.specs.declared.machine.events.HistoryEntry.{HistoryEntry}
use Rattle.mem_base.specs.declared.script.commands.Command.{Command}
use Rattle.mem_base.specs.declared.script.commands.Command.TheVariants as commands
use Rattle.mem_base.specs.lists.Every.{Every}
use Rattle.mem_base.specs.map.Limits.{most_passes}
use Rattle.mem_base.specs.machine.Generations.{Generation}
use Rattle.mem_base.specs.machine.Reaps.{first_writer}
use Rattle.mem_base.specs.machine.Actors.{generations_published}
use Rattle.mem_base.specs.script.Spelling.{Text}
use Rattle.mem_base.specs.script.Scripts.{Line}
use Rattle.mem_base.specs.script.States.{Outcome, State}
use Rattle.mem_base.specs.script.Run.{pool_words, start, step, text_from}
use Rattle.mem_base.specs.script.Tasks.{known_at_first}
use Rattle.mem_base.specs.script.Race.{ArePhases, Course, IsAlone, IsPhase, IsRace, NameTheirPasses, Phase, RaceIsRun, Stand, alone, block, first_stand, is_end}
use Rattle.mem_base.specs.script.Race.{is_par, phases_from, phases_of, put_in_block, stand_after, text_along, with_line}
use Rattle.run_laws.specs.LawfulRuns.{state_after}
use Rattle.end_laws.proofs.EndLaws.{turns_end_in}
use Rattle.run_laws.specs.TaskSteps.{known_state}
use Rattle.run_laws.specs.KnownNames.{KnowsNames}
use Rattle.run_laws.specs.LineLaws.{IsSomeonesLine}
use Rattle.run_laws.proofs.TaskLaws.{lines_are_tasks}
use Rattle.race_laws.specs.OutsideRuns.{AreLines}
use Rattle.race_laws.proofs.Running.{IsLegal, IsRun, first_part, world_after}
use Rattle.race_laws.proofs.DeskPhases.{Goes, desk_goes}
use Rattle.race_laws.proofs.PassPhases.{pass_goes}

par_does : (state : State) (n : ℕ) (c : Command) → is_par c ≡ true → step state n c ≡ ([], state)
par_does state n commands.Par e = refl
par_does state n c e = absurd (grind arith)

end_does : (state : State) (n : ℕ) (c : Command) → is_end c ≡ true → step state n c ≡ ([], state)
end_does state n commands.End e = refl
end_does state n c e = absurd (grind arith)

not_alone : (line : Line) (phases : List Phase) → Every IsAlone (put_in_block line phases) → ⊥
not_alone line [] h = h.0
not_alone line (block lines ∷ phases) h = h.0
not_alone line (alone other ∷ phases) h = h.0

abbrev pub all_entries : List Course → List HistoryEntry
all_entries cs = flat_map (λ c. c.entries) cs

module _ (pool : ℕ) (published : List Generation) where
  -- where the machine and the names stand between two phases
  abbrev pub state_of : Stand → State
  state_of s = known_state s.known (world_after pool s.writer s.seen)

  -- what is to come is legal, and publishes what is published
  pub record Comes (s : Stand) (ys : List HistoryEntry) : Type 0 where
    pub runs : IsRun pool s.writer s.seen
    pub knows : KnowsNames s.known s.writer.desk
    pub legal : IsLegal pool (s.seen ++ ys)
    pub are : published ≡ generations_published (s.seen ++ ys)

  goes : (s : Stand) (line : Line) (c : Course) (ys : List HistoryEntry) → Comes s (c.entries ++ ys) → IsPhase published s (alone line) c
      → IsSomeonesLine s.known (world_after pool s.writer s.seen) line.0 line.1
      → Goes pool published s line c
  goes s line c ys k p (inl d) = desk_goes pool published s line c ys k.runs k.knows p
      (first_part pool (s.seen ++ c.entries) ys (subst (IsLegal pool) (sym (append_assoc s.seen c.entries ys)) k.legal))
      (k.are ∙ ap generations_published (sym (append_assoc s.seen c.entries ys))) d
  goes s line c ys k p (inr d) = pass_goes pool published s line c ys k.runs k.knows p
      (first_part pool (s.seen ++ c.entries) ys (subst (IsLegal pool) (sym (append_assoc s.seen c.entries ys)) k.legal))
      (k.are ∙ ap generations_published (sym (append_assoc s.seen c.entries ys))) d.0 d.1

  -- after lines outside a block: where the race stands, and how it goes on. What they wrote and left is what the run does
  pub record Continues (s : Stand) (lines : List Line) (phases later : List Phase) (cs : List Course) (rest : List HistoryEntry) : Type 0 where
    pub stand : Stand
    pub courses : List Course
    pub text : text_along published s (phases ++ later) cs ≡ text_from (state_of s) lines ++ text_along published stand later courses
    pub left : state_of stand ≡ state_after (state_of s) lines
    pub are : ArePhases published stand later courses
    pub comes : Comes stand (all_entries courses ++ rest)

  abbrev pub Same : List Phase → List Line → Type 0
  Same phases lines = (s : Stand) (later : List Phase) (cs : List Course) (rest : List HistoryEntry) → Every IsAlone phases
      → ArePhases published s (phases ++ later) cs → Comes s (all_entries cs ++ rest) → Continues s lines phases later cs rest

  no_lines : Same [] []
  no_lines s later cs rest all are k = record { stand = s; courses = cs; text = refl; left = refl; are = are; comes = k }

  quiet_line : (line : Line) (lines : List Line) (phases : List Phase) → ((state : State) → step state line.0 line.1 ≡ ([], state)) → Same phases lines
      → Same phases (line ∷ lines)
  quiet_line line lines phases nothing same s later cs rest all are k =
      let g = same s later cs rest all are k in
      let on : ([], state_of s) ≡ step (state_of s) line.0 line.1 = sym (nothing (state_of s)) in record {
        stand = g.stand;
        courses = g.courses;
        text = g.text ∙ ap (λ (x : Outcome). (x.0 ++ text_from x.1 lines) ++ text_along published g.stand later g.courses) on;
        left = g.left ∙ ap (λ (x : Outcome). state_after x.1 lines) on;
        are = g.are;
        comes = g.comes;
      }

  one_line : (line : Line) (lines : List Line) (phases : List Phase)
      → ((s : Stand) → KnowsNames s.known s.writer.desk
      → IsSomeonesLine s.known (world_after pool s.writer s.seen) line.0 line.1)
      → Same phases lines → Same (alone line ∷ phases) (line ∷ lines)
  one_line line lines phases kind same s later [] rest all are k = absurd are
  one_line line lines phases kind same s later (c ∷ cs) rest all are k =
      let more : List HistoryEntry = all_entries cs ++ rest in
      let now : Comes s (c.entries ++ more) = subst (Comes s) (append_assoc c.entries (all_entries cs) rest) k in
      let g : Goes pool published s line c = goes s line c more now are.0 (kind s k.knows) in
      let t : Stand = stand_after published s (alone line) c in
      let next : Comes t more = record {
        runs = g.runs;
        knows = g.knows;
        legal = subst (IsLegal pool) (sym (append_assoc s.seen c.entries more)) now.legal;
        are = now.are ∙ ap generations_published (sym (append_assoc s.seen c.entries more));
      } in
      let f = same t later cs rest all.1 are.1 next in
      let then_text : Text = text_along published f.stand later f.courses in
      let own : Text = (step (state_of s) line.0 line.1).0 in record {
        stand = f.stand;
        courses = f.courses;
        text = (λ i. g.text i ++ f.text i)
            ∙ ap (λ (state : State). own ++ (text_from state lines ++ then_text)) g.left
            ∙ sym (append_assoc own (text_from (step (state_of s) line.0 line.1).1 lines) then_text);
        left = f.left ∙ ap (λ (state : State). state_after state lines) g.left;
        are = f.are;
        comes = f.comes;
      }

  one : (line : Line) (lines : List Line) (inside p e : Bool) → is_par line.1 ≡ p → is_end line.1 ≡ e
      → (p ≡ false → e ≡ false → (s : Stand) → KnowsNames s.known s.writer.desk
      → IsSomeonesLine s.known (world_after pool s.writer s.seen) line.0 line.1)
      → ((inside : Bool) → Same (phases_from inside lines) lines)
      → Same (if p then phases_from true lines else if e then phases_from false lines else with_line inside line (phases_from inside lines)) (line ∷ lines)
  one line lines inside true e is_p is_e kind same = quiet_line line lines (phases_from true lines) (λ state. par_does state line.0 line.1 is_p) (same true)
  one line lines inside false true is_p is_e kind same =
      quiet_line line lines (phases_from false lines) (λ state. end_does state line.0 line.1 is_e) (same false)
  one line lines true false false is_p is_e kind same = λ s later cs rest all are k. absurd (not_alone line (phases_from true lines) all)
  one line lines false false false is_p is_e kind same = one_line line lines (phases_from false lines) (kind refl refl) (same false)

  pub lines_continue : (lines : List Line) → NameTheirPasses lines → (inside : Bool) → Same (phases_from inside lines) lines
  lines_continue [] names inside = no_lines
  lines_continue (line ∷ lines) names inside = one line lines inside (is_par line.1) (is_end line.1) refl refl
      (λ p e s a. lines_are_tasks s.known (world_after pool s.writer s.seen) line.0 line.1 a names.0 p e) (lines_continue lines names.1)

  pub alone_continue : (lines : List Line) → NameTheirPasses lines → AreLines lines → Same (map alone lines) lines
  alone_continue [] names are = no_lines
  alone_continue (line ∷ lines) names are = one_line line lines (map alone lines)
      (λ s a. lines_are_tasks s.known (world_after pool s.writer s.seen) line.0 line.1 a names.0 are.0.0 are.0.1) (alone_continue lines names.1 are.1)

-- at first

none_known : (pool : ℕ) → KnowsNames known_at_first (first_writer pool most_passes).desk
none_known pool = record {
  regions = λ n l. absurd (omega arith);
  made = refl;
  dropped = λ n l. refl;
  listeners = λ n l. absurd (omega arith);
  gone = λ n l. refl;
}

pub starts : (pool : ℕ) → known_state known_at_first (world_after pool (first_writer pool most_passes) []) ≡ start pool
starts pool = ap (known_state known_at_first) (sym (turns_end_in pool most_passes [] [] tt refl).leads)

-- the whole history comes where nothing was seen
pub first_comes : (lines : List Line) (cs : List Course) (last xs : List HistoryEntry) (text : Text) → IsRace lines cs last xs text
    → Comes (pool_words lines) (generations_published xs) (first_stand (pool_words lines)) (all_entries cs ++ last)
first_comes lines cs last xs text race = record {
  runs = record { os = []; writer = refl; same = refl };
  knows = none_known (pool_words lines);
  legal = subst (IsLegal (pool_words lines)) race.cut race.legal;
  are = ap generations_published race.cut;
}

no_phases : (published : List Generation) (s : Stand) (cs : List Course) → text_along published s [] cs ≡ []
no_phases published s cs = refl

pub race_is_run : RaceIsRun
race_is_run lines xs text names all h =
    let pool : ℕ = pool_words lines in
    let published : List Generation = generations_published xs in
    let cs : List Course = h.0 in
    let last : List HistoryEntry = h.1 in
    let race = h.2 in
    let phases : List Phase = phases_of lines in
    let same : phases ++ [] ≡ phases = append-nil phases in
    let g = lines_continue pool published lines names false (first_stand pool) [] cs last all
    (subst (λ (ps : List Phase). ArePhases published (first_stand pool) ps cs) (sym same) race.phases) (first_comes lines cs last xs text race) in
    race.writes
    ∙ ap (λ (ps : List Phase). text_along published (first_stand pool) ps cs) (sym same)
    ∙ g.text
    ∙ ap (λ (t : Text). text_from (state_of pool published (first_stand pool)) lines ++ t) (no_phases published g.stand g.courses)
    ∙ append-nil (text_from (state_of pool published (first_stand pool)) lines)
    ∙ ap (λ (state : State). text_from state lines) (starts pool)
