-- What a pass keeps of its lines in a block.
use Rattle.std.proofs.Common.{◌≡◌, ℕ, ◌+◌, List, [], ◌∷◌, ◌++◌, drop, length, map, Option, refl, sym, ap, subst, ◌∙◌, append-nil, append_assoc}
use Rattle.std.proofs.Common.{length-append, arith}
use Rattle.std.proofs.lemmas.List.{drop_at, length-map}
use base.Growing.{prefix_trans}
use mathlib.Core.List.{IsPrefix}
use Rattle.mem_base.specs.map.PassIds.{PassId}
use Rattle.mem_base.specs.declared.machine.events.HistoryEntry.{HistoryEntry}
use Rattle.mem_base.specs.declared.machine.records.DeskEntry.{DeskEntry}
use Rattle.mem_base.specs.machine.Passes.{PassState, pass_id}
use Rattle.mem_base.specs.machine.Generations.{Generation}
use Rattle.mem_base.specs.machine.Actors.{generations_published, own_entries}
use Rattle.mem_base.specs.machine.Records.{Clerk}
use Rattle.mem_base.specs.machine.Turns.{replies_of}
use Rattle.mem_base.specs.script.Named.{Names}
use Rattle.mem_base.specs.script.RaceLines.{PassLine, entry_at, lines_of_pass}
use Rattle.mem_base.specs.script.Scripts.{Line}
use Rattle.mem_base.specs.script.Tasks.{Known}
use Rattle.generation.specs.Published.{Published}
use Rattle.epoch_rule.specs.Values.{PassValue}
use Rattle.race_laws.specs.Acting.{PassDeed, deed_on}
use Rattle.race_laws.proofs.ActingLaws.{pass_acts}
use Rattle.race_laws.proofs.PassGoesOn.{replies_both}
use Rattle.pass_lines.proofs.DoneLaws.{published_prefix}
use Rattle.pass_lines.specs.Doing.{Grew, IsInItsGeneration, state_seen}
use Rattle.pass_lines.specs.Laws.{KeepsLines}
use Rattle.pass_lines.proofs.LineLaws.{nothing_grew}
use Rattle.race_block.specs.declared.tasks.BlockLine.{BlockLine}
use Rattle.race_block.specs.declared.tasks.LineGot.{LineGot}
use Rattle.race_block.specs.Lines.{HaveRun}
use Rattle.race_block.specs.Resolving.{AreTasksOf}
use Rattle.race_block.specs.Laws.{PassesKeepLines, count_own, deed_from, said_of, saids}
use Rattle.race_block.specs.Texts.{taken_by}
use Rattle.race_block.proofs.StepLaws.{AreLine, StepKept, line_by, step_kept}

grew_then : (u v w : PassValue Published) (xs ys : List HistoryEntry) → Grew u xs v → Grew v ys w → Grew u (xs ++ ys) w
grew_then u v w xs ys g h = record {
  cabinet = h.cabinet ∙ g.cabinet;
  number = h.number ∙ g.number;
  sizes = h.sizes ∙ g.sizes;
  begins = prefix_trans u.seen v.seen w.seen g.begins h.begins;
  own = subst (λ (n : ℕ). own_entries (n + 1) w.seen ≡ own_entries (n + 1) v.seen ++ ys) g.number h.own
      ∙ ap (λ (zs : List HistoryEntry). zs ++ ys) g.own ∙ append_assoc (own_entries (u.number + 1) u.seen) xs ys;
}

-- how many entries of its own the pass has seen then
counted : (v w : PassValue Published) (ys : List HistoryEntry) → Grew v ys w → count_own w ≡ count_own v + length ys
counted v w ys g =
    ap (λ (n : ℕ). length (own_entries (n + 1) w.seen)) g.number ∙ ap length g.own ∙ length-append (own_entries (v.number + 1) v.seen) ys

-- the deed with more lines
abbrev deed_with : PassDeed → List Line → List HistoryEntry → List DeskEntry → PassState → PassDeed
deed_with deed lines own got now =
    record { before = deed.before; lines = deed.lines ++ lines; own = deed.own ++ own; got = deed.got ++ got; now = now }

record Runs (k : Known) (count : ℕ) (deed : PassDeed) (lines : List Line) (c : Clerk) (v : PassValue Published) (all : List LineGot) (d : Clerk)
    (w : PassValue Published) : Type 0 where
  own : List HistoryEntry
  got : List DeskEntry
  grew : Grew v own w
  clerk : d ≡ record { who = c.who; got = c.got ++ got }
  inside : IsInItsGeneration w
  keeps : KeepsLines k count (deed_with deed lines own got (state_seen w)) w
  writes : (names : Names) (later : List Generation) (replies : List ℕ) (more : List DeskEntry) → map (λ x. x.said)
      (lines_of_pass (generations_published w.seen ++ later) k names (pass_id v.number) (state_seen v) lines (replies_of own ++ replies) (got ++ more))
      ≡ saids names k (pass_id v.number) lines all got

nothing_run : (k : Known) (count : ℕ) (deed : PassDeed) (c d : Clerk) (v w : PassValue Published) (all : List LineGot) → d ≡ c → w ≡ v
    → IsInItsGeneration v → KeepsLines k count deed v → Runs k count deed [] c v all d w
nothing_run k count deed c d v w all clerk same inside keeps = subst (λ (z : PassValue Published). Runs k count deed [] c v all d z) (sym same) record {
  own = [];
  got = [];
  grew = nothing_grew v v refl;
  clerk = clerk ∙ ap (λ (got : List DeskEntry). let x : Clerk = record { who = c.who; got = got } in x) (sym (append-nil c.got));
  inside = inside;
  keeps = subst (λ (z : PassDeed). KeepsLines k count z v)
      (λ i. deed_from deed.before (sym (append-nil deed.lines) i) (sym (append-nil deed.own) i) (sym (append-nil deed.got) i) (keeps.1 i)) keeps;
  writes = λ names later replies more. refl;
}

-- what the first line writes, and then the others
first_writes : (k : Known) (line : Line) (lines : List Line) (v x w : PassValue Published) (got : LineGot) (all : List LineGot)
    (own rest : List HistoryEntry) (new more : List DeskEntry) (told : Option ℕ) → AreLine k line v x got own new told → taken_by got ≡ length new
    → x.number ≡ v.number → IsPrefix x.seen w.seen
    → ((names : Names) (later : List Generation) (replies : List ℕ) (others : List DeskEntry) → map (λ y. y.said)
    (lines_of_pass (generations_published w.seen ++ later) k names (pass_id x.number) (state_seen x) lines (replies_of rest ++ replies) (more ++ others))
    ≡ saids names k (pass_id x.number) lines all more)
    → (names : Names) (later : List Generation) (replies : List ℕ) (others : List DeskEntry) → map (λ y. y.said)
    (lines_of_pass (generations_published w.seen ++ later) k names (pass_id v.number) (state_seen v) (line ∷ lines) (replies_of (own ++ rest) ++ replies)
    ((new ++ more) ++ others)) ≡ saids names k (pass_id v.number) (line ∷ lines) (got ∷ all) (new ++ more)
first_writes k line lines v x w got all own rest new more told are taken named begins after names later replies others =
    let pass : PassId = pass_id v.number in
    let grown = published_prefix x.seen w.seen begins in
    let gs : List Generation = generations_published x.seen ++ (grown.0 ++ later) in
    let gs_is : generations_published w.seen ++ later ≡ gs =
    ap (λ (hs : List Generation). hs ++ later) (sym grown.1) ∙ append_assoc (generations_published x.seen) grown.0 later in
    let ns : List ℕ = replies_of rest ++ replies in
    let ns_are : replies_of (own ++ rest) ++ replies ≡ replies_of own ++ ns = replies_both own rest replies in
    let es : List DeskEntry = more ++ others in
    let es_are : (new ++ more) ++ others ≡ new ++ es = append_assoc new more others in
    let i = are names (grown.0 ++ later) ns es in
    let y : PassLine = line_by k line v x own names (grown.0 ++ later) ns (new ++ es) in
    let long : length y.asks ≡ length new = ap length i.does.asks ∙ length-map new (λ (e : DeskEntry). e.order) in
    let left : drop (length y.asks) (new ++ es) ≡ es = ap (λ (n : ℕ). drop n (new ++ es)) long ∙ drop_at new es (length new) refl in
    let back : drop (taken_by got) (new ++ more) ≡ more = ap (λ (n : ℕ). drop n (new ++ more)) taken ∙ drop_at new more (length new) refl in
    let tail : map (λ (z : PassLine). z.said) (lines_of_pass gs k names pass y.turn.state lines y.turn.replies (drop (length y.asks) (new ++ es)))
    ≡ saids names k pass lines all more =
    (λ j. map (λ (z : PassLine). z.said) (lines_of_pass gs k names pass (i.does.state j) lines (i.does.replies_left j) (left j)))
    ∙ (λ j. map (λ (z : PassLine). z.said) (lines_of_pass (sym gs_is j) k names (pass_id (sym named j)) (state_seen x) lines ns es))
    ∙ after names later replies others
    ∙ ap (λ (n : ℕ). saids names k (pass_id n) lines all more) named in
    (λ j. map (λ (z : PassLine). z.said) (lines_of_pass (gs_is j) k names pass (state_seen v) (line ∷ lines) (ns_are j) (es_are j)))
    ∙ (λ j. i.said more j ∷ tail j)
    ∙ ap (λ (zs : List DeskEntry). said_of names k pass line got (entry_at (new ++ more) 0) ∷ saids names k pass lines all zs) (sym back)

step_runs : (k : Known) (count : ℕ) (deed : PassDeed) (line : Line) (lines : List Line) (c e d : Clerk) (v x w : PassValue Published) (got : LineGot)
    (all : List LineGot) (s : StepKept k count deed line c v got e x)
    → Runs k count (deed_on deed line s.own s.new (state_seen x)) lines e x all d w → Runs k count deed (line ∷ lines) c v (got ∷ all) d w
step_runs k count deed line lines c e d v x w got all s r =
    let first : PassDeed = deed_on deed line s.own s.new (state_seen x) in record {
      own = s.own ++ r.own;
      got = s.new ++ r.got;
      grew = grew_then v x w s.own r.own s.grew r.grew;
      clerk = r.clerk ∙ ap (λ (z : Clerk). let y : Clerk = record { who = z.who; got = z.got ++ r.got } in y) s.clerk
          ∙ ap (λ (got : List DeskEntry). let y : Clerk = record { who = c.who; got = got } in y) (append_assoc c.got s.new r.got);
      inside = r.inside;
      keeps = subst (λ (z : PassDeed). KeepsLines k count z w)
          (λ i. deed_from deed.before (append_assoc deed.lines (line ∷ []) lines i) (append_assoc deed.own s.own r.own i)
          (append_assoc deed.got s.new r.got i) (state_seen w)) r.keeps;
      writes = first_writes k line lines v x w got all s.own r.own s.new r.got s.told s.are s.taken s.grew.number r.grew.begins r.writes;
    }

runs : (k : Known) (count : ℕ) (deed : PassDeed) (lines : List Line) (xs : List BlockLine) (c d : Clerk) (v w : PassValue Published)
    (all : List LineGot) → HaveRun xs c v all d w → AreTasksOf k lines xs → IsInItsGeneration v → KeepsLines k count deed v
    → count_own v ≡ count + length deed.own → Runs k count deed lines c v all d w
runs k count deed [] [] c d v w all h are inside keeps counts = nothing_run k count deed c d v w all h.1 h.2 inside keeps
runs k count deed [] (x ∷ xs) c d v w all h are inside keeps counts = absurd are
runs k count deed (line ∷ lines) [] c d v w all h are inside keeps counts = absurd are
runs k count deed (line ∷ lines) (x ∷ xs) c d v w all h are inside keeps counts =
    let s = step_kept k count deed line c v h.got h.clerk h.pass inside keeps counts x.task are.1 h.first in
    let first : PassDeed = deed_on deed line s.own s.new (state_seen h.pass) in
    let long : length (deed.own ++ s.own) ≡ length deed.own + length s.own = length-append deed.own s.own in
    let more : count_own h.pass ≡ count_own v + length s.own = counted v h.pass s.own s.grew in
    let now : count_own h.pass ≡ count + length (deed.own ++ s.own) = omega (arith, long, more, counts) in
    subst (λ (z : List LineGot). Runs k count deed (line ∷ lines) c v z d w) (sym h.is)
    (step_runs k count deed line lines c h.clerk d v h.pass w h.got h.rest s
    (runs k count first lines xs h.clerk d h.pass w h.rest h.then are.2 s.inside s.keeps now))

pub passes_keep_lines : PassesKeepLines
passes_keep_lines k lines xs c v all d w h are inside =
    let count : ℕ = count_own v in
    let deed : PassDeed = deed_from (state_seen v) [] [] [] (state_seen v) in
    let begins : KeepsLines k count deed v =
    (pass_acts.begins (generations_published v.seen) k (pass_id v.number) v.seen count (state_seen v), refl) in
    let r = runs k count deed lines xs c d v w all h are inside begins (omega arith) in record {
      own = r.own;
      got = r.got;
      grew = r.grew;
      clerk = r.clerk;
      inside = r.inside;
      keeps = r.keeps;
      writes = r.writes;
    }
