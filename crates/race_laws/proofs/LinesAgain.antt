-- The lines that a pass has done, once more: what holds of them stays whatever follows.
use Rattle.std.proofs.Common.{◌≡◌, ℕ, zero, suc, ◌+◌, ◌<◌, ◌≤◌, Bool, true, false, cond, List, [], ◌∷◌, ◌++◌, length, map, drop, take, flat_map}
use Rattle.std.proofs.Common.{refl, sym, ap, ◌∙◌, subst, arith, Option, Some, None, Result, Ok, not, ◌||◌, length-append}
use Rattle.std.specs.List.{list_any, before_first, position_or_len}
use Rattle.std.specs.Prelude.{nat_le}
use Rattle.mem_base.specs.map.PassIds.{PassId}
use Rattle.mem_base.specs.declared.machine.events.HistoryEntry.{HistoryEntry}
use Rattle.mem_base.specs.declared.machine.records.DeskEntry.{DeskEntry}
use Rattle.mem_base.specs.declared.machine.records.DeskOrder.{DeskOrder}
use Rattle.mem_base.specs.lists.Every.{Every}
use Rattle.mem_base.specs.machine.Passes.{PassState}
use Rattle.mem_base.specs.machine.Generations.{Generation}
use Rattle.mem_base.specs.machine.Actors.{own_entries, pass_after_all}
use Rattle.mem_base.specs.machine.Turns.{replies_of}
use Rattle.mem_base.specs.machine.PassTurns.{PassTurn, pass_begins}
use Rattle.mem_base.specs.script.Spelling.{Text}
use Rattle.mem_base.specs.script.Scripts.{Line}
use Rattle.mem_base.specs.script.Named.{Names}
use Rattle.mem_base.specs.script.Tasks.{Known, Task, task_of}
use Rattle.mem_base.specs.script.Tasks as tasks
use Rattle.mem_base.specs.script.RaceLines.{PassLine, entry_at, line_of_pass, lines_of_pass}
use Rattle.mem_base.specs.script.Race.{ActsAfterPublishes, IsAfterPublish, publishes_number}
use Rattle.history_laws.proofs.AppendLaws.{pass_by_append}
use Rattle.race_laws.specs.Acting.{left_of_pass, pass_left}
use Rattle.race_laws.specs.Stopped.{StandsPublished}
use Rattle.race_laws.proofs.GoesOn.{IsRested}
use Rattle.mem_base.proofs.EveryLaws.{every_first, every_rest}
use Rattle.race_laws.proofs.MorePublished.{EntersBelow, IsUnder, entries_under}
use Rattle.race_laws.proofs.PassAgain.{again}
use Rattle.race_laws.proofs.PassGoesOn.{replies_both}
use Rattle.race_laws.proofs.PassStages.{turn_at}
use Rattle.std.proofs.lemmas.List.{drop_at, length-map}

-- lists

drop_le : {A : Type 0} (n : ℕ) (xs ys : List A) → n ≤ length xs → drop n (xs ++ ys) ≡ drop n xs ++ ys
drop_le zero xs ys l = refl
drop_le (suc n) [] ys l = absurd (omega (arith, l))
drop_le (suc n) (x ∷ xs) ys l = drop_le n xs ys (omega (arith, l))

map_drop : {A B : Type 0} (f : A → B) (n : ℕ) (xs : List A) → map f (drop n xs) ≡ drop n (map f xs)
map_drop f zero xs = refl
map_drop f (suc n) [] = refl
map_drop f (suc n) (x ∷ xs) = map_drop f n xs

-- what comes after the first part of what was asked for
pub asked_rest : (got : List DeskEntry) (xs ys : List DeskOrder) → map (λ (e : DeskEntry). e.order) got ≡ xs ++ ys
    → map (λ (e : DeskEntry). e.order) (drop (length xs) got) ≡ ys
asked_rest got xs ys h =
    map_drop (λ (e : DeskEntry). e.order) (length xs) got ∙ ap (λ (os : List DeskOrder). drop (length xs) os) h ∙ drop_at xs ys (length xs) refl

pub asked_fits : (got : List DeskEntry) (xs ys : List DeskOrder) → map (λ (e : DeskEntry). e.order) got ≡ xs ++ ys → length xs ≤ length got
asked_fits got xs ys h =
    let a = length-map got (λ (e : DeskEntry). e.order) in let b = length-append xs ys in
    let same : length (map (λ (e : DeskEntry). e.order) got) ≡ length (xs ++ ys) = ap length h in omega (arith, a, b, same)

no_first : (xs ys : List DeskOrder) → [] ≡ xs ++ ys → xs ≡ []
no_first [] ys h = refl
no_first (x ∷ xs) ys h = absurd (let same : 0 ≡ length (x ∷ xs ++ ys) = ap length h in omega (arith, same))

-- a line that gives no order reads no entry

entry_free : (gs hs : List Generation) (names others : Names) (pass : PassId) (n : ℕ) (task : Result Task Text) (t u : PassTurn) (e d f : DeskEntry)
    → (line_of_pass gs names pass n task t e).asks ≡ [] → line_of_pass hs others pass n task u d ≡ line_of_pass hs others pass n task u f
entry_free gs hs names others pass n (Ok (tasks.ordered order name)) t u e d f h = absurd (let same : 1 ≡ 0 = ap length h in omega (arith, same))
entry_free gs hs names others pass n (Ok (tasks.shown s)) t u e d f h = refl
entry_free gs hs names others pass n (Ok (tasks.found s a)) t u e d f h = refl
entry_free gs hs names others pass n (Ok (tasks.watched name r first last)) t u e d f h = refl
entry_free gs hs names others pass n (Ok (tasks.unwatched id)) t u e d f h = refl
entry_free gs hs names others pass n (Ok (tasks.accessed s a transfer)) t u e d f h = refl
entry_free gs hs names others pass n (Ok (tasks.copied from a m to c)) t u e d f h = refl
entry_free gs hs names others pass n _ t u e d f h = refl

entry_same : (gs hs : List Generation) (names others : Names) (pass : PassId) (n : ℕ) (task : Result Task Text) (t u : PassTurn)
    (got more : List DeskEntry) (rest : List DeskOrder)
    → map (λ (e : DeskEntry). e.order) got ≡ (line_of_pass gs names pass n task t (entry_at got 0)).asks ++ rest
    → line_of_pass hs others pass n task u (entry_at (got ++ more) 0) ≡ line_of_pass hs others pass n task u (entry_at got 0)
entry_same gs hs names others pass n task t u [] more rest h =
    let none : List DeskEntry = [] in
    entry_free gs hs names others pass n task t u (entry_at none 0) (entry_at more 0) (entry_at none 0)
    (no_first (line_of_pass gs names pass n task t (entry_at none 0)).asks rest h)
entry_same gs hs names others pass n task t u (e ∷ got) more rest h = refl

-- lines

abbrev pub entries_in : List PassLine → List HistoryEntry
entries_in xs = flat_map (λ (x : PassLine). x.turn.entries) xs

abbrev pub asks_in : List PassLine → List DeskOrder
asks_in xs = flat_map (λ (x : PassLine). x.asks) xs

module _ (gs : List Generation) (some : 0 < length gs) (k : Known) (names : Names) (pass : PassId) where
  abbrev Below : List HistoryEntry → Type 0
  Below ys = Every (EntersBelow (length gs)) ys

  -- the lines leave the pass between two lines
  pub lines_rested : (front : List Line) (p : PassState) (ns : List ℕ) (got : List DeskEntry) → IsUnder (length gs) p.entered
      → Below (entries_in (lines_of_pass gs k names pass p front ns got)) → IsRested p
      → IsRested (pass_after_all p (entries_in (lines_of_pass gs k names pass p front ns got)))
  lines_rested [] p ns got under below h = h
  lines_rested (line ∷ front) p ns got under below h =
      let x : PassLine = line_of_pass gs names pass line.0 (task_of k line.1) (pass_begins p ns) (entry_at got 0) in
      let rest : List PassLine = lines_of_pass gs k names pass x.turn.state front x.turn.replies (drop (length x.asks) got) in
      let first = every_first (EntersBelow (length gs)) x.turn.entries (entries_in rest) below in
      let last = every_rest (EntersBelow (length gs)) x.turn.entries (entries_in rest) below in
      let a = again gs some pass line.0 names p ns (entry_at got 0) under (task_of k line.1) first in
      let under_x : IsUnder (length gs) x.turn.state.entered =
      subst (λ (q : PassState). IsUnder (length gs) q.entered) (sym a.state) (entries_under (length gs) p x.turn.entries under first) in
      subst IsRested (ap (λ (q : PassState). pass_after_all q (entries_in rest)) a.state ∙ sym (pass_by_append x.turn.entries (entries_in rest) p))
      (lines_rested front x.turn.state x.turn.replies (drop (length x.asks) got) under_x last (a.rested h))

  -- the same lines, by the replies of their entries
  abbrev once_more : List Line → PassState → List HistoryEntry → List DeskEntry → List Generation → Names → List ℕ → List DeskEntry → List PassLine
  once_more front p es got later others ms more = lines_of_pass (gs ++ later) k others pass p front (replies_of es ++ ms) (got ++ more)

  pub record AreAgain (front : List Line) (p : PassState) (part : List PassLine) (got : List DeskEntry) (later : List Generation) (others : Names)
      (ms : List ℕ) (more : List DeskEntry) : Type 0 where
    pub entries : entries_in (once_more front p (entries_in part) got later others ms more) ≡ entries_in part
    pub asks : asks_in (once_more front p (entries_in part) got later others ms more) ≡ asks_in part
    pub acts : (xs : List HistoryEntry) (count : ℕ) → ActsAfterPublishes xs (pass.0 + 1) count part
        → ActsAfterPublishes xs (pass.0 + 1) count (once_more front p (entries_in part) got later others ms more)
    pub left : left_of_pass (gs ++ later) k others pass p front (replies_of (entries_in part) ++ ms) (got ++ more)
        ≡ pass_left (pass_after_all p (entries_in part)) ms more

  pub lines_again : (front : List Line) (p : PassState) (ns : List ℕ) (got : List DeskEntry) → IsUnder (length gs) p.entered
      → Below (entries_in (lines_of_pass gs k names pass p front ns got))
      → map (λ (e : DeskEntry). e.order) got ≡ asks_in (lines_of_pass gs k names pass p front ns got)
      → (later : List Generation) (others : Names) (ms : List ℕ) (more : List DeskEntry)
      → AreAgain front p (lines_of_pass gs k names pass p front ns got) got later others ms more
  lines_again [] p ns [] under below h later others ms more = record { entries = refl; asks = refl; acts = λ xs count k. tt; left = refl }
  lines_again [] p ns (e ∷ got) under below h later others ms more =
      absurd (let same : suc (length (map (λ (e : DeskEntry). e.order) got)) ≡ 0 = ap length h in omega (arith, same))
  lines_again (line ∷ front) p ns got under below h later others ms more =
      let task = task_of k line.1 in
      let x : PassLine = line_of_pass gs names pass line.0 task (pass_begins p ns) (entry_at got 0) in
      let back : List DeskEntry = drop (length x.asks) got in
      let rest : List PassLine = lines_of_pass gs k names pass x.turn.state front x.turn.replies back in
      let es : List HistoryEntry = entries_in rest in
      let first = every_first (EntersBelow (length gs)) x.turn.entries es below in
      let last = every_rest (EntersBelow (length gs)) x.turn.entries es below in
      let a = again gs some pass line.0 names p ns (entry_at got 0) under task first in
      let under_x : IsUnder (length gs) x.turn.state.entered =
      subst (λ (q : PassState). IsUnder (length gs) q.entered) (sym a.state) (entries_under (length gs) p x.turn.entries under first) in
      let i = lines_again front x.turn.state x.turn.replies back under_x last (asked_rest got x.asks (asks_in rest) h) later others ms more in
      let hs : List Generation = gs ++ later in
      let ts : List ℕ = replies_of es ++ ms in
      let y : PassLine = line_of_pass hs others pass line.0 task (pass_begins p (replies_of (x.turn.entries ++ es) ++ ms)) (entry_at (got ++ more) 0) in
      let z : PassLine = line_of_pass hs others pass line.0 task (pass_begins p (replies_of x.turn.entries ++ ts)) (entry_at got 0) in
      let y_is : y ≡ z =
      ap (λ (ms : List ℕ). line_of_pass hs others pass line.0 task (pass_begins p ms) (entry_at (got ++ more) 0)) (replies_both x.turn.entries es ms)
      ∙ entry_same gs hs names others pass line.0 task (pass_begins p ns) (pass_begins p (replies_of x.turn.entries ++ ts)) got more (asks_in rest) h in
      let turn : y.turn ≡ turn_at x.turn.state x.turn.entries ts = ap (λ (z : PassLine). z.turn) y_is ∙ a.turn others later ts in
      let asks : y.asks ≡ x.asks = ap (λ (z : PassLine). z.asks) y_is ∙ a.asks others later ts in
      let told : y.published ≡ x.published = ap (λ (z : PassLine). z.published) y_is ∙ a.published others later ts in
      let entries : y.turn.entries ≡ x.turn.entries = ap (λ (t : PassTurn). t.entries) turn in
      let dropped : drop (length y.asks) (got ++ more) ≡ back ++ more =
      ap (λ (os : List DeskOrder). drop (length os) (got ++ more)) asks ∙ drop_le (length x.asks) got more (asked_fits got x.asks (asks_in rest) h) in
      let tail : lines_of_pass hs k others pass y.turn.state front y.turn.replies (drop (length y.asks) (got ++ more))
      ≡ once_more front x.turn.state es back later others ms more =
      (λ j. lines_of_pass hs k others pass (turn j).state front (turn j).replies (dropped j)) in record {
        entries = (λ j. entries j ++ entries_in (tail j)) ∙ ap (λ (zs : List HistoryEntry). x.turn.entries ++ zs) i.entries;
        asks = (λ j. asks j ++ asks_in (tail j)) ∙ ap (λ (os : List DeskOrder). x.asks ++ os) i.asks;
        acts = λ xs count acts. (
          subst (λ (w : List HistoryEntry × Option ℕ). IsAfterPublish xs (pass.0 + 1) (count + length w.0) w.1) (λ j. (sym entries j, sym told j)) acts.0,
          subst (λ (w : List HistoryEntry × List PassLine). ActsAfterPublishes xs (pass.0 + 1) (count + length w.0) w.1) (λ j. (sym entries j, sym tail j))
              (i.acts xs (count + length x.turn.entries) acts.1),
        );
        left = (λ j. left_of_pass hs k others pass (turn j).state front (turn j).replies (dropped j)) ∙ i.left
            ∙ ap (λ (q : PassState). pass_left q ms more)
            (ap (λ (q : PassState). pass_after_all q es) a.state ∙ sym (pass_by_append x.turn.entries es p));
      }

-- what stands before a Publish that is there stays

before_same : (p : HistoryEntry → Bool) (xs zs : List HistoryEntry) → list_any p xs ≡ true → before_first p (xs ++ zs) ≡ before_first p xs
before_same p [] zs h = absurd (grind arith)
before_same p (x ∷ xs) zs h = go (p x) h (before_same p xs zs)
  where
    go : (b : Bool) → (b || list_any p xs) ≡ true → (list_any p xs ≡ true → before_first p (xs ++ zs) ≡ before_first p xs)
        → take (cond (not b) (1 + position_or_len p (xs ++ zs)) 0) (x ∷ xs ++ zs) ≡ take (cond (not b) (1 + position_or_len p xs) 0) (x ∷ xs)
    go true h rest = refl
    go false h rest =
        let n : ℕ = position_or_len p (xs ++ zs) in
        let m : ℕ = position_or_len p xs in
        let one : 1 + n ≡ suc n = omega arith in
        let two : suc m ≡ 1 + m = omega arith in
        ap (λ (j : ℕ). take j (x ∷ xs ++ zs)) one ∙ ap (λ (ys : List HistoryEntry). x ∷ ys) (rest h) ∙ ap (λ (j : ℕ). take j (x ∷ xs)) two

pub acts_longer : (xs zs : List HistoryEntry) (actor count : ℕ) (lines : List PassLine) → Every (λ x. StandsPublished xs x.published) lines
    → ActsAfterPublishes xs actor count lines → ActsAfterPublishes (xs ++ zs) actor count lines
acts_longer xs zs actor count [] h k = tt
acts_longer xs zs actor count (x ∷ lines) h k =
    (one x.published h.0 k.0, acts_longer xs zs actor (count + length x.turn.entries) lines h.1 k.1)
  where
    one : (o : Option ℕ) → StandsPublished xs o → IsAfterPublish xs actor (count + length x.turn.entries) o
        → IsAfterPublish (xs ++ zs) actor (count + length x.turn.entries) o
    one None s l = tt
    one (Some number) s l = ap (λ (ys : List HistoryEntry). nat_le (length (own_entries actor ys)) (count + length x.turn.entries))
        (before_same (publishes_number number) xs zs s) ∙ l
