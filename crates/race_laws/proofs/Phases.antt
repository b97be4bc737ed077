-- Phases stay what they are where more generations are published.
use Rattle.std.proofs.Common.{◌≡◌, ℕ, ◌+◌, ◌<◌, Bool, true, false, eqb, List, [], ◌∷◌, ◌++◌, length, flat_map, refl, sym, ap, ◌∙◌, subst}
use Rattle.std.proofs.Common.{Option, if◌then◌else◌, append_assoc, append-nil}
use Rattle.mem_base.specs.map.PassIds.{PassId}
use Rattle.mem_base.specs.declared.machine.events.HistoryEntry.{HistoryEntry}
use Rattle.mem_base.specs.declared.machine.records.Differs.{Differs}
use Rattle.mem_base.specs.lists.Every.{Every}
use Rattle.mem_base.specs.machine.Generations.{Generation}
use Rattle.mem_base.specs.machine.Passes.{PassState, idle}
use Rattle.mem_base.specs.machine.Actors.{actor_of, own_entries}
use Rattle.mem_base.specs.machine.Turns.{last_writer, replies_of}
use Rattle.mem_base.specs.machine.Records.{got_by}
use Rattle.mem_base.specs.script.Spelling.{Text}
use Rattle.mem_base.specs.script.RaceLines.{DeskLine, PassLine, known_after, lines_of_pass, said_text}
use Rattle.mem_base.specs.script.Race.{Phase, Course, Stand, stand_after, turns_in, desk_part, pass_part, pass_state, phase_text, text_along, passes}
use Rattle.mem_base.specs.script.Race.{desk_number, lines_by, differs_line, ActsAfterPublishes, IsPassPart, IsPhase, ArePhases}
use Rattle.mem_base.proofs.EveryLaws.{weaker, every_append, every_first, every_rest}
use Rattle.race_laws.specs.SoFar.{HasTold, stand_along}
use Rattle.race_laws.proofs.MorePublished.{EntersBelow, desk_lines_same, entries_under, pass_lines_same}

pub every_own : (P : HistoryEntry → Type 0) (actor : ℕ) (xs : List HistoryEntry) → Every P xs → Every P (own_entries actor xs)
every_own P actor [] h = tt
every_own P actor (x ∷ xs) h = go (eqb (actor_of x.event) actor) (every_own P actor xs h.1)
  where
    go : (b : Bool) → Every P (own_entries actor xs) → Every P (if b then x ∷ own_entries actor xs else own_entries actor xs)
    go true rest = (h.0, rest)
    go false rest = rest

-- a phase's text by its parts

abbrev pub text_by : Stand → List DeskLine → Text → Option Differs → Text
text_by after desk rest differs =
    flat_map (λ (x : DeskLine). said_text after.known.names after.writer.desk.listening.journal x.said) desk ++ (rest ++ differs_line differs)

abbrev pub parts_text : Stand → (PassId → List PassLine) → List PassId → Text
parts_text after part ps =
    flat_map (λ (pass : PassId). flat_map (λ (x : PassLine). said_text after.known.names after.writer.desk.listening.journal x.said) (part pass)) ps

pub parts_text_same : (after : Stand) (f g : PassId → List PassLine) (ps : List PassId) → Every (λ p. f p ≡ g p) ps
    → parts_text after f ps ≡ parts_text after g ps
parts_text_same after f g [] h = refl
parts_text_same after f g (p ∷ ps) h =
    let rest = parts_text_same after f g ps h.1 in
    (λ i. flat_map (λ (x : PassLine). said_text after.known.names after.writer.desk.listening.journal x.said) (h.0 i) ++ rest i)

module _ (gs more : List Generation) (some : 0 < length gs) where
  abbrev Below : List HistoryEntry → Type 0
  Below xs = Every (EntersBelow (length gs)) xs

  module _ (s : Stand) (phase : Phase) (c : Course) (seen : Below s.seen) (new : Below c.entries) (told : HasTold (length gs) c) where
    desk_same : desk_part (gs ++ more) s phase c ≡ desk_part gs s phase c
    desk_same = desk_lines_same gs more some (lines_by desk_number phase) s.known (got_by desk_number c.clerks) told

    pub after_same : stand_after (gs ++ more) s phase c ≡ stand_after gs s phase c
    after_same = ap (λ (xs : List DeskLine). record {
      known = known_after s.known xs;
      seen = s.seen ++ c.entries;
      writer = last_writer s.writer (turns_in s c);
    }) desk_same

    part_same : (pass : PassId) → IsPassPart gs s phase c pass → pass_part (gs ++ more) s phase c pass ≡ pass_part gs s phase c pass
    part_same pass h =
        let own : List HistoryEntry = own_entries (pass.0 + 1) c.entries in
        let p : PassState = pass_state pass s.seen in
        ap (λ (z : Stand). lines_of_pass (gs ++ more) s.known z.known.names pass p (lines_by pass.0 phase) (replies_of own)
        (got_by pass.0 c.clerks)) after_same
        ∙ pass_lines_same gs more some s.known (stand_after gs s phase c).known.names pass (lines_by pass.0 phase) p (replies_of own) (got_by pass.0 c.clerks)
        (entries_under (length gs) idle (own_entries (pass.0 + 1) s.seen) tt (every_own (EntersBelow (length gs)) (pass.0 + 1) s.seen seen))
        (subst (λ (xs : List HistoryEntry). Every (EntersBelow (length gs)) xs) h.entries (every_own (EntersBelow (length gs)) (pass.0 + 1) c.entries new))

    part_kept : (pass : PassId) → IsPassPart gs s phase c pass → IsPassPart (gs ++ more) s phase c pass
    part_kept pass h = let same = sym (part_same pass h) in record {
      entries = h.entries ∙ ap (λ (xs : List PassLine). flat_map (λ (x : PassLine). x.turn.entries) xs) same;
      asks = h.asks ∙ ap (λ (xs : List PassLine). flat_map (λ (x : PassLine). x.asks) xs) same;
      after = subst (λ (xs : List PassLine). ActsAfterPublishes (s.seen ++ c.entries) (pass.0 + 1) (length (own_entries (pass.0 + 1) s.seen)) xs) same h.after;
    }

    pub phase_kept : IsPhase gs s phase c → IsPhase (gs ++ more) s phase c
    phase_kept h = record {
      writer = h.writer;
      desk = h.desk ∙ ap (λ (xs : List DeskLine). flat_map (λ (x : DeskLine). x.asks) xs) (sym desk_same);
      each = weaker (IsPassPart gs s phase c) (IsPassPart (gs ++ more) s phase c) part_kept passes h.each;
      clerks = h.clerks;
      closes = h.closes;
      lock = h.lock;
    }

    pub phase_text_same : IsPhase gs s phase c → phase_text (gs ++ more) s phase c ≡ phase_text gs s phase c
    phase_text_same h =
        let parts = weaker (IsPassPart gs s phase c) (λ pass. pass_part (gs ++ more) s phase c pass ≡ pass_part gs s phase c pass) part_same passes h.each in
        let after = after_same in let desk = desk_same in
        (λ i. text_by (after i) (desk i) (parts_text (after i) (pass_part (gs ++ more) s phase c) passes) c.differs)
        ∙ ap (λ (rest : Text). text_by (stand_after gs s phase c) (desk_part gs s phase c) rest c.differs)
        (parts_text_same (stand_after gs s phase c) (pass_part (gs ++ more) s phase c) (pass_part gs s phase c) passes parts)

  -- along several phases
  pub record AreKept (s : Stand) (done : List Phase) (cs : List Course) : Type 0 where
    pub phases : ArePhases (gs ++ more) s done cs
    pub ends : stand_along (gs ++ more) s done cs ≡ stand_along gs s done cs
    pub writes : text_along (gs ++ more) s done cs ≡ text_along gs s done cs

  pub phases_kept : (done : List Phase) (cs : List Course) (s : Stand) → Below s.seen → Every (λ c. Below c.entries) cs → Every (HasTold (length gs)) cs
      → ArePhases gs s done cs → AreKept s done cs
  phases_kept [] [] s seen new told h = record { phases = tt; ends = refl; writes = refl }
  phases_kept [] (c ∷ cs) s seen new told h = absurd h
  phases_kept (phase ∷ done) [] s seen new told h = absurd h
  phases_kept (phase ∷ done) (c ∷ cs) s seen new told h =
      let next : Stand = stand_after gs s phase c in
      let after = after_same s phase c seen new.0 told.0 in
      let rest = phases_kept done cs next (every_append (EntersBelow (length gs)) s.seen c.entries seen new.0) new.1 told.1 h.1 in
      let text = phase_text_same s phase c seen new.0 told.0 h.0 in record {
        phases = (
          phase_kept s phase c seen new.0 told.0 h.0,
          subst (λ (z : Stand). ArePhases (gs ++ more) z done cs) (sym after) rest.phases,
        );
        ends = ap (λ (z : Stand). stand_along (gs ++ more) z done cs) after ∙ rest.ends;
        writes = (λ i. text i ++ text_along (gs ++ more) (after i) done cs) ∙ ap (λ (t : Text). phase_text gs s phase c ++ t) rest.writes;
      }

-- phases, and one more

pub phases_push : (gs : List Generation) (done : List Phase) (cs : List Course) (s : Stand) (phase : Phase) (c : Course) → ArePhases gs s done cs
    → IsPhase gs (stand_along gs s done cs) phase c → ArePhases gs s (done ++ phase ∷ []) (cs ++ c ∷ [])
phases_push gs [] [] s phase c h k = (k, tt)
phases_push gs [] (d ∷ cs) s phase c h k = absurd h
phases_push gs (p ∷ done) [] s phase c h k = absurd h
phases_push gs (p ∷ done) (d ∷ cs) s phase c h k = (h.0, phases_push gs done cs (stand_after gs s p d) phase c h.1 k)

pub stand_push : (gs : List Generation) (done : List Phase) (cs : List Course) (s : Stand) (phase : Phase) (c : Course) → ArePhases gs s done cs
    → stand_along gs s (done ++ phase ∷ []) (cs ++ c ∷ []) ≡ stand_after gs (stand_along gs s done cs) phase c
stand_push gs [] [] s phase c h = refl
stand_push gs [] (d ∷ cs) s phase c h = absurd h
stand_push gs (p ∷ done) [] s phase c h = absurd h
stand_push gs (p ∷ done) (d ∷ cs) s phase c h = stand_push gs done cs (stand_after gs s p d) phase c h.1

pub text_push : (gs : List Generation) (done : List Phase) (cs : List Course) (s : Stand) (phase : Phase) (c : Course) → ArePhases gs s done cs
    → text_along gs s (done ++ phase ∷ []) (cs ++ c ∷ []) ≡ text_along gs s done cs ++ phase_text gs (stand_along gs s done cs) phase c
text_push gs [] [] s phase c h = append-nil (phase_text gs s phase c)
text_push gs [] (d ∷ cs) s phase c h = absurd h
text_push gs (p ∷ done) [] s phase c h = absurd h
text_push gs (p ∷ done) (d ∷ cs) s phase c h =
    let next : Stand = stand_after gs s p d in
    ap (λ (t : Text). phase_text gs s p d ++ t) (text_push gs done cs next phase c h.1)
    ∙ sym (append_assoc (phase_text gs s p d) (text_along gs next done cs) (phase_text gs (stand_along gs next done cs) phase c))

-- the history is that of the phases
pub seen_along : (gs : List Generation) (done : List Phase) (cs : List Course) (s : Stand) → ArePhases gs s done cs
    → (stand_along gs s done cs).seen ≡ s.seen ++ flat_map (λ (c : Course). c.entries) cs
seen_along gs [] [] s h = sym (append-nil s.seen)
seen_along gs [] (c ∷ cs) s h = absurd h
seen_along gs (p ∷ done) [] s h = absurd h
seen_along gs (p ∷ done) (c ∷ cs) s h =
    seen_along gs done cs (stand_after gs s p c) h.1 ∙ append_assoc s.seen c.entries (flat_map (λ (c : Course). c.entries) cs)

pub each_course : (P : HistoryEntry → Type 0) (cs : List Course) → Every P (flat_map (λ (c : Course). c.entries) cs) → Every (λ c. Every P c.entries) cs
each_course P [] h = tt
each_course P (c ∷ cs) h =
    let rest : List HistoryEntry = flat_map (λ (c : Course). c.entries) cs in
    (every_first P c.entries rest h, each_course P cs (every_rest P c.entries rest h))
