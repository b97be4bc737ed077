-- What a race does before and after its block.
use Rattle.std.proofs.Common.{◌≡◌, ℕ, true, false, List, [], ◌∷◌, ◌++◌, map, append_assoc, append-nil, refl, sym, ap, subst, ◌∙◌, if◌then◌else◌, Ok}
use Rattle.std.proofs.lemmas.Grind.{flat_map-append}
use Rattle.std.specs.Prelude.{flat_map}
use Rattle.mem_base.specs.declared.machine.events.HistoryEntry.{HistoryEntry}
use Rattle.mem_base.specs.declared.script.commands.Command.TheVariants as commands
use Rattle.mem_base.specs.lists.Every.{Every}
use Rattle.mem_base.specs.map.Limits.{most_passes}
use Rattle.mem_base.specs.machine.Generations.{Generation}
use Rattle.mem_base.specs.machine.Reaps.{Writer, first_writer}
use Rattle.mem_base.specs.machine.Actors.{generations_published}
use Rattle.mem_base.specs.machine.Turns.{Answered, WriterCall, entries_of_turn, last_writer, turn, turns}
use Rattle.mem_base.specs.machine.Records.{answered}
use Rattle.mem_base.specs.script.Spelling.{Text}
use Rattle.mem_base.specs.script.Scripts.{Line, script_of}
use Rattle.mem_base.specs.script.States.{State}
use Rattle.mem_base.specs.script.Run.{pool_words, start, text_from}
use Rattle.mem_base.specs.script.Race.{ArePhases, Course, IsAlone, IsPhase, NameTheirPasses, Phase, Stand, alone, block, first_stand}
use Rattle.mem_base.specs.script.Race.{phases_from, phases_of, put_in_block, stand_after, text_along, turns_in}
use Rattle.run_laws.specs.Fitting.{AreFitting}
use Rattle.run_laws.specs.LawfulRuns.{state_after}
use Rattle.run_laws.proofs.FittingLaws.{lines_fit, names_its}
use Rattle.race_laws.specs.OutsideRuns.{AreLines, IsRoundBlock, OutsideIsRun, ReadRaceIsRun, with_block}
use Rattle.turn_laws.proofs.TurnLists.{turns_append, writers_append}
use Rattle.race_laws.proofs.Running.{IsLegal, IsRun}
use Rattle.race_laws.proofs.BlockNames.{IsLine}
use Rattle.race_laws.proofs.BlockPhases.{block_knows}
use Rattle.race_laws.proofs.PlainRaces.{Comes, all_entries, alone_continue, first_comes, race_is_run, starts, state_of}

-- commands that were read name their passes

pub name_theirs : (lines : List Line) → AreFitting lines → NameTheirPasses lines
name_theirs [] f = tt
name_theirs (line ∷ lines) f = (names_its line.1 f.0, name_theirs lines f.1)

pub read_names : (source : Text) (lines : List Line) → script_of source ≡ Ok lines → NameTheirPasses lines
read_names source lines e = name_theirs lines (lines_fit source lines e)

pub read_race_is_run : ReadRaceIsRun
read_race_is_run source lines xs text e all h = race_is_run lines xs text (read_names source lines e) all h

-- The phases of a script with a block

abbrev alones : List Line → List Phase
alones lines = map alone lines

phases_before : (lines more : List Line) → AreLines lines → phases_from false (lines ++ more) ≡ alones lines ++ phases_from false more
phases_before [] more are = refl
phases_before (line ∷ lines) more are =
    (λ i. if are.0.0 i then phases_from true (lines ++ more) else if are.0.1 i then phases_from false (lines ++ more)
    else alone line ∷ phases_before lines more are.1 i)

phases_after : (lines : List Line) → AreLines lines → phases_from false lines ≡ alones lines
phases_after lines are = ap (phases_from false) (sym (append-nil lines)) ∙ phases_before lines [] are ∙ append-nil (alones lines)

opens : (line : Line) (after : List Line) → put_in_block line (alones after) ≡ block (line ∷ []) ∷ alones after
opens line [] = refl
opens line (other ∷ after) = refl

phases_inside : (first : Line) (inner : List Line) (end : ℕ) (after : List Line) → AreLines (first ∷ inner) → AreLines after
    → phases_from true ((first ∷ inner) ++ ((end, commands.End) ∷ after)) ≡ block (first ∷ inner) ∷ alones after
phases_inside first [] end after are later =
    (λ i. if are.0.0 i then phases_from true ((end, commands.End) ∷ after) else if are.0.1 i then phases_from false ((end, commands.End) ∷ after)
    else put_in_block first (phases_after after later i)) ∙ opens first after
phases_inside first (next ∷ inner) end after are later =
    (λ i. if are.0.0 i then phases_from true ((next ∷ inner) ++ ((end, commands.End) ∷ after))
    else if are.0.1 i then phases_from false ((next ∷ inner) ++ ((end, commands.End) ∷ after))
    else put_in_block first (phases_inside next inner end after are.1 later i))

phases_with_block : (before : List Line) (par : ℕ) (first : Line) (inner : List Line) (end : ℕ) (after : List Line) → AreLines before → AreLines (first ∷ inner)
    → AreLines after → phases_of (with_block before par (first ∷ inner) end after) ≡ alones before ++ (block (first ∷ inner) ∷ alones after)
phases_with_block before par first inner end after b i a =
    phases_before before ((par, commands.Par) ∷ ((first ∷ inner) ++ ((end, commands.End) ∷ after))) b
    ∙ ap (λ (ps : List Phase). alones before ++ ps) (phases_inside first inner end after i a)

all_alone : (lines : List Line) → Every IsAlone (alones lines)
all_alone [] = tt
all_alone (line ∷ lines) = (tt, all_alone lines)

-- lines of a part name their passes

names_first : (xs ys : List Line) → NameTheirPasses (xs ++ ys) → NameTheirPasses xs × NameTheirPasses ys
names_first [] ys h = (tt, h)
names_first (x ∷ xs) ys h = let t = names_first xs ys h.1 in ((h.0, t.0), t.1)

both_lines : (lines : List Line) → NameTheirPasses lines → AreLines lines → Every IsLine lines
both_lines [] n a = tt
both_lines (line ∷ lines) n a = ((n.0, a.0.0, a.0.1), both_lines lines n.1 a.1)

-- a block goes on with the turns

last_append : (w : Writer) (os qs : List Answered) → let v = last_writer w (turns w os) in last_writer w (turns w (os ++ qs)) ≡ last_writer v (turns v qs)
last_append w [] qs = refl
last_append w (o ∷ os) qs = last_append (turn w o.0 o.1).writer os qs

block_runs : (pool : ℕ) (published : List Generation) (s : Stand) (inner : List Line) (c : Course) → IsPhase published s (block inner) c
    → IsRun pool s.writer s.seen
    → IsRun pool (last_writer s.writer (turns_in s c)) (s.seen ++ c.entries)
block_runs pool published s inner c p r =
    let first : Writer = first_writer pool most_passes in
    let more : List Answered = map answered c.given in record {
      os = r.os ++ more;
      writer = ap (λ (w : Writer). last_writer w (turns w more)) r.writer ∙ sym (last_append first r.os more);
      same = writers_append s.seen c.entries
          ∙ (λ i. r.same i ++ (p.writer ∙ ap (λ (w : Writer). flat_map entries_of_turn (turns w more)) r.writer) i)
          ∙ sym (flat_map-append entries_of_turn (turns first r.os) (turns (last_writer first (turns first r.os)) more))
          ∙ ap (λ (ts : List WriterCall). flat_map entries_of_turn ts) (sym (turns_append first r.os more));
    }

module _ (pool : ℕ) (published : List Generation) where
  -- the lines after a block
  rest_runs : (s : Stand) (after : List Line) (cs : List Course) (last : List HistoryEntry) → NameTheirPasses after → AreLines after
      → ArePhases published s (alones after) cs → Comes pool published s (all_entries cs ++ last)
      → text_along published s (alones after) cs ≡ text_from (state_of pool published s) after
  rest_runs s after cs last names are phases k =
      let same : alones after ++ [] ≡ alones after = append-nil (alones after) in
      let g = alone_continue pool published after names are s [] cs last (all_alone after)
      (subst (λ (ps : List Phase). ArePhases published s ps cs) (sym same) phases) k in
      ap (λ (ps : List Phase). text_along published s ps cs) (sym same) ∙ g.text ∙ append-nil (text_from (state_of pool published s) after)

  -- a block where the race stands, and the lines after it
  goes_round : (s : Stand) (before inner after : List Line) (text : Text) (cs : List Course) (last : List HistoryEntry) → NameTheirPasses inner
      → NameTheirPasses after → AreLines inner → AreLines after → ArePhases published s (block inner ∷ alones after) cs
      → Comes pool published s (all_entries cs ++ last)
      → text ≡ text_from (start pool) before ++ text_along published s (block inner ∷ alones after) cs
      → state_of pool published s ≡ state_after (start pool) before → IsRoundBlock pool published before inner after text
  goes_round s before inner after text [] last ni na ai aa are k is left = absurd are
  goes_round s before inner after text (c ∷ cs) last ni na ai aa are k is left =
      let t : Stand = stand_after published s (block inner) c in
      let more : List HistoryEntry = all_entries cs ++ last in
      let now : Comes pool published s (c.entries ++ more) = subst (Comes pool published s) (append_assoc c.entries (all_entries cs) last) k in record {
        stand = s;
        course = c;
        rest = text_along published t (alones after) cs;
        parts = is;
        begins = left;
        phase = are.0;
        ends = λ none. rest_runs t after cs last na aa are.1 (record {
          runs = block_runs pool published s inner c are.0 k.runs;
          knows = block_knows published s inner c (both_lines inner ni ai) are.0 none k.knows;
          legal = subst (IsLegal pool) (sym (append_assoc s.seen c.entries more)) now.legal;
          are = now.are ∙ ap generations_published (sym (append_assoc s.seen c.entries more));
        });
      }

pub outside_is_run : OutsideIsRun
outside_is_run source before inner after first par end xs text e b i a h =
    let lines : List Line = with_block before par (first ∷ inner) end after in
    let pool : ℕ = pool_words lines in
    let published : List Generation = generations_published xs in
    let later : List Phase = block (first ∷ inner) ∷ alones after in
    let race = h.2 in
    let names : NameTheirPasses lines = read_names source lines e in
    let split = names_first before ((par, commands.Par) ∷ ((first ∷ inner) ++ ((end, commands.End) ∷ after))) names in
    let inside = names_first (first ∷ inner) ((end, commands.End) ∷ after) split.1.1 in
    let are : phases_of lines ≡ alones before ++ later = phases_with_block before par first inner end after b i a in
    let g = alone_continue pool published before split.0 b (first_stand pool) later h.0 h.1 (all_alone before)
    (subst (λ (ps : List Phase). ArePhases published (first_stand pool) ps h.0) are race.phases) (first_comes lines h.0 h.1 xs text race) in
    goes_round pool published g.stand before (first ∷ inner) after text g.courses h.1 inside.0 inside.1.1 i a g.are g.comes
    (race.writes ∙ ap (λ (ps : List Phase). text_along published (first_stand pool) ps h.0) are ∙ g.text
    ∙ ap (λ (state : State). text_from state before ++ text_along published g.stand later g.courses) (starts pool))
    (g.left ∙ ap (λ (state : State). state_after state before) (starts pool))
