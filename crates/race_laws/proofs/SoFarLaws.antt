-- What a runner keeps, as it takes one more phase, and at the end.
use Rattle.std.proofs.Common.{◌≡◌, ℕ, ◌+◌, ◌≤◌, List, [], ◌∷◌, ◌++◌, length, flat_map, sym, ap, ◌∙◌, subst, arith, length-append, lt_of_lt_of_le}
use Rattle.mem_base.specs.declared.machine.events.HistoryEntry.{HistoryEntry}
use Rattle.mem_base.specs.declared.machine.records.DeskEntry.{DeskEntry}
use Rattle.mem_base.specs.lists.Every.{Every}
use Rattle.mem_base.specs.map.Limits.{most_passes, notifier_count}
use Rattle.mem_base.specs.machine.Generations.{Generation}
use Rattle.mem_base.specs.machine.Actors.{generations_published}
use Rattle.mem_base.specs.machine.SharedHistory.{IsSharedLegal}
use Rattle.mem_base.specs.machine.Turns.{writers_of}
use Rattle.mem_base.specs.machine.Records.{got_by}
use Rattle.mem_base.specs.script.Spelling.{Text}
use Rattle.mem_base.specs.script.Scripts.{Line}
use Rattle.mem_base.specs.script.Run.{pool_words}
use Rattle.mem_base.specs.script.Race.{phases_of, passes, LeavesLast, IsTextOfRace}
use Rattle.mem_base.specs.script.Race.{Phase, Course, Stand, first_stand, stand_after, phase_text, text_along, desk_number, ArePhases, IsPhase}
use Rattle.mem_base.proofs.EveryLaws.{every_push, weaker}
use Rattle.race_laws.specs.SoFar.{HasFitting, HasGone, HasTold, IsNextPhase, IsRaceSoFar, IsTold, stand_along}
use Rattle.race_laws.proofs.MorePublished.{EntersBelow}
use Rattle.race_laws.proofs.Phases.{AreKept, each_course, phases_kept, phases_push, seen_along, stand_push, text_push}
use Rattle.race_laws.proofs.EnterLaws.{enters_below, more_published, some_published}

told_longer : (n m : ℕ) → n ≤ m → (es : List DeskEntry) → Every (IsTold n) es → Every (IsTold m) es
told_longer n m l = weaker (IsTold n) (IsTold m) (λ e h. lt_of_lt_of_le h l)

pub all_told_longer : (n m : ℕ) → n ≤ m → (cs : List Course) → Every (HasTold n) cs → Every (HasTold m) cs
all_told_longer n m l = weaker (HasTold n) (HasTold m) (λ c h. told_longer n m l (got_by desk_number c.clerks) h)

-- the history is that of the phases
pub whole_history : (pool : ℕ) (done : List Phase) (cs : List Course) (s : Stand) (text : Text) → HasGone pool done cs s text
    → s.seen ≡ flat_map (λ (c : Course). c.entries) cs
whole_history pool done cs s text h =
    sym (ap (λ (z : Stand). z.seen) h.ends) ∙ seen_along (generations_published s.seen) done cs (first_stand pool) h.phases

-- the phases so far, held against a history that goes on
pub record GoneOn (pool : ℕ) (done : List Phase) (cs : List Course) (s : Stand) (text : Text) (gs : List Generation) : Type 0 where
  pub phases : ArePhases gs (first_stand pool) done cs
  pub ends : stand_along gs (first_stand pool) done cs ≡ s
  pub writes : text ≡ text_along gs (first_stand pool) done cs
  pub told : Every (HasTold (length gs)) cs

pub gone_on : (pool : ℕ) (done : List Phase) (cs : List Course) (s : Stand) (text : Text) → HasGone pool done cs s text → (ys : List HistoryEntry)
    → GoneOn pool done cs s text (generations_published (s.seen ++ ys))
gone_on pool done cs s text h ys =
    let gs : List Generation = generations_published s.seen in
    let grown = more_published s.seen ys in
    let more : List Generation = grown.0 in
    let below = enters_below (pool + notifier_count) most_passes s.seen h.legal in
    let whole : s.seen ≡ flat_map (λ (c : Course). c.entries) cs = whole_history pool done cs s text h in
    let each = each_course (EntersBelow (length gs)) cs (subst (λ (xs : List HistoryEntry). Every (EntersBelow (length gs)) xs) whole below) in
    let kept : AreKept gs more (some_published s.seen) (first_stand pool) done cs =
    phases_kept gs more (some_published s.seen) done cs (first_stand pool) tt each h.told h.phases in
    let long : length gs ≤ length (gs ++ more) = (let same = length-append gs more in omega (arith, same)) in
    subst (λ (hs : List Generation). GoneOn pool done cs s text hs) (sym grown.1) record {
      phases = kept.phases;
      ends = kept.ends ∙ h.ends;
      writes = h.writes ∙ sym kept.writes;
      told = all_told_longer (length gs) (length (gs ++ more)) long cs h.told;
    }

pub takes_phase : (pool : ℕ) (done : List Phase) (s : Stand) (text : Text) (phase : Phase) (c : Course) → IsRaceSoFar pool done s text
    → IsNextPhase pool s phase c → let published = generations_published (s.seen ++ c.entries) in
    IsRaceSoFar pool (done ++ phase ∷ []) (stand_after published s phase c) (text ++ phase_text published s phase c)
takes_phase pool done s text phase c h n =
    let cs : List Course = h.0 in
    let gs : List Generation = generations_published (s.seen ++ c.entries) in
    let g = gone_on pool done cs s text h.1 c.entries in
    let back : s ≡ stand_along gs (first_stand pool) done cs = sym g.ends in (
      cs ++ c ∷ [],
      record {
        legal = n.legal;
        phases = phases_push gs done cs (first_stand pool) phase c g.phases
            (subst (λ (z : Stand). IsPhase gs z phase c) back n.lines);
        ends = stand_push gs done cs (first_stand pool) phase c g.phases ∙ ap (λ (z : Stand). stand_after gs z phase c) g.ends;
        writes = (λ i. g.writes i ++ phase_text gs (back i) phase c) ∙ sym (text_push gs done cs (first_stand pool) phase c g.phases);
        told = every_push (HasTold (length gs)) cs c g.told n.told;
        fits = every_push HasFitting cs c h.1.fits n.fits;
      },
    )

pub stops : (lines : List Line) (s : Stand) (text : Text) (last : List HistoryEntry) → IsRaceSoFar (pool_words lines) (phases_of lines) s text
    → IsSharedLegal (pool_words lines + notifier_count) most_passes (s.seen ++ last) → Every (LeavesLast s.seen last) passes
    → writers_of last ≡ [] → IsTextOfRace lines (s.seen ++ last) text
stops lines s text last h legal leaves rests =
    let cs : List Course = h.0 in
    let g = gone_on (pool_words lines) (phases_of lines) cs s text h.1 last in
    let whole = whole_history (pool_words lines) (phases_of lines) cs s text h.1 in (
      cs,
      last,
      record {
        legal = legal;
        cut = ap (λ (xs : List HistoryEntry). xs ++ last) whole;
        phases = g.phases;
        leaves = subst (λ (xs : List HistoryEntry). Every (LeavesLast xs last) passes) whole leaves;
        rests = rests;
        writes = g.writes;
      },
    )
