-- From what each actor has done of a phase, as a runner knows it, to what the rest of the phase stands on.
use Rattle.std.proofs.Common.{◌≡◌, ℕ, zero, suc, ◌<◌, List, [], ◌∷◌, ◌++◌, length, map, drop, take, flat_map, refl, sym, ap, ◌∙◌, subst, arith}
use Rattle.std.proofs.Common.{append-nil, append_assoc, take-append-drop}
use Rattle.mem_base.specs.declared.machine.events.HistoryEntry.{HistoryEntry}
use Rattle.mem_base.specs.declared.machine.records.DeskEntry.{DeskEntry}
use Rattle.mem_base.specs.declared.machine.records.DeskOrder.{DeskOrder}
use Rattle.mem_base.specs.declared.machine.records.DeskOrder.TheVariants as orders
use Rattle.mem_base.specs.lists.Every.{Every}
use Rattle.mem_base.specs.map.Limits.{most_passes}
use Rattle.mem_base.specs.machine.Generations.{Generation}
use Rattle.mem_base.specs.machine.Reaps.{Writer, first_writer}
use Rattle.mem_base.specs.machine.Turns.{Answered, entries_of_turn, last_writer, turn, turns}
use Rattle.mem_base.specs.machine.Records.{answered}
use Rattle.mem_base.specs.script.Scripts.{Line}
use Rattle.mem_base.specs.script.Tasks.{Known, task_of}
use Rattle.mem_base.specs.script.RaceLines.{DeskLine, asked_first, known_after, line_of_desk, lines_of_desk}
use Rattle.mem_base.specs.script.Race.{Phase, Course, Stand}
use Rattle.turn_laws.proofs.TurnLists.{writers_append, last_append}
use Rattle.race_laws.specs.Acting.{DeskAt, DeskLineDoes, DeskRuns, left_of_desk}
use Rattle.race_laws.specs.SoFar.{IsTold}
use Rattle.race_laws.specs.Stopped.{ActorsHaveBegun}
use Rattle.race_laws.proofs.NextLines.{desk_does, orders_of, own_asks}
use Rattle.race_laws.proofs.LinesAgain.{asked_rest}
use Rattle.mem_base.proofs.EveryLaws.{every_append, every_first, every_rest}
use Rattle.race_laws.proofs.MorePublished.{told_at}
use Rattle.race_laws.proofs.PhaseParts.{Part}
use Rattle.std.proofs.lemmas.List.{drop_at, length-map}
use Rattle.race_laws.proofs.RaceEnds.{At, given_fit}

-- orders, and more of them

pub turned_append : (w : Writer) (os qs : List Answered)
    → flat_map entries_of_turn (turns w (os ++ qs))
    ≡ flat_map entries_of_turn (turns w os) ++ flat_map entries_of_turn (turns (last_writer w (turns w os)) qs)
turned_append w [] qs = refl
turned_append w (o ∷ os) qs =
    let t = turn w o.0 o.1 in
    ap (λ (xs : List HistoryEntry). entries_of_turn t ++ xs) (turned_append t.writer os qs)
    ∙ sym (append_assoc (entries_of_turn t) (flat_map entries_of_turn (turns t.writer os))
    (flat_map entries_of_turn (turns (last_writer t.writer (turns t.writer os)) qs)))

pub begun_part : (pool : ℕ) (s : Stand) (phase : Phase) (c : Course) (a : At pool s) → ActorsHaveBegun pool s phase c → Part pool a.os s phase c
begun_part pool s phase c a h =
    let w : Writer = first_writer pool most_passes in
    let qs : List Answered = map answered c.given in record {
      stands = record {
        legal = h.legal;
        same = writers_append s.seen c.entries
            ∙ (λ i. a.stands.same i ++ h.writer i)
            ∙ ap (λ (z : Writer). flat_map entries_of_turn (turns w a.os) ++ flat_map entries_of_turn (turns z qs)) (sym a.writer)
            ∙ sym (turned_append w a.os qs);
        fits = every_append _ a.os qs a.stands.fits (given_fit c.given h.fits);
      };
      writer = last_append w a.os qs ∙ ap (λ (z : Writer). last_writer z (turns z qs)) a.writer;
      own = h.writer;
      clerks = h.clerks;
      closes = h.closes;
      told = h.told;
      fits = h.fits;
    }

-- the desk

map_take : {A B : Type 0} (f : A → B) (n : ℕ) (xs : List A) → map f (take n xs) ≡ take n (map f xs)
map_take f zero xs = refl
map_take f (suc n) [] = refl
map_take f (suc n) (x ∷ xs) = ap (λ (ys : List _). f x ∷ ys) (map_take f n xs)

take_first : {A : Type 0} (xs ys : List A) → take (length xs) (xs ++ ys) ≡ xs
take_first [] ys = refl
take_first (x ∷ xs) ys = ap (λ (zs : List _). x ∷ zs) (take_first xs ys)

abbrev desk_asks : List DeskLine → List DeskOrder
desk_asks xs = flat_map (λ (x : DeskLine). x.asks) xs

module _ (gs : List Generation) (some : 0 < length gs) where
  pub desk_again : (front : List Line) (k : Known) (got : List DeskEntry) → map (λ (e : DeskEntry). e.order) got ≡ desk_asks (lines_of_desk gs k front got)
      → Every (IsTold (length gs)) got → DeskAt gs k front got (known_after k (lines_of_desk gs k front got))
  desk_again [] k [] h told later more = record { asks = refl; left = refl }
  desk_again [] k (e ∷ got) h told later more =
      absurd (let same : suc (length (map (λ (e : DeskEntry). e.order) got)) ≡ 0 = ap length h in omega (arith, same))
  desk_again (line ∷ front) k got h told later more =
      let task = task_of k line.1 in
      let x : DeskLine = line_of_desk gs k line got in
      let n : ℕ = length x.asks in
      let new : List DeskEntry = take n got in
      let rest : List DeskEntry = drop n got in
      let split : new ++ rest ≡ got = take-append-drop n got in
      let tail : List DeskOrder = desk_asks (lines_of_desk gs x.known front rest) in
      let mine : map (λ (e : DeskEntry). e.order) new ≡ x.asks =
      map_take (λ (e : DeskEntry). e.order) n got ∙ ap (λ (os : List DeskOrder). take n os) h ∙ take_first x.asks tail in
      let asks : x.asks ≡ orders_of task ++ orders.Look ∷ [] =
      ap (λ (os : List DeskOrder). os ++ orders.Look ∷ []) (own_asks k line.0 task _ _ _) in
      let told_both = subst (λ (es : List DeskEntry). Every (IsTold (length gs)) es) (sym split) told in
      let told_new = every_first (IsTold (length gs)) new rest told_both in
      let next : Known = (line_of_desk gs k line new).known in
      let does : (later : List Generation) (more : List DeskEntry) → DeskLineDoes (gs ++ later) k line new more next =
      desk_does gs k line new some (mine ∙ asks) (told_at gs [] some new (asked_first task) told_new) in
      let d_here : DeskLineDoes (gs ++ []) k line new rest next = does [] rest in
      let known_x : x.known ≡ next =
      (λ i. (line_of_desk (sym (append-nil gs) i) k line (sym split i)).known) ∙ d_here.known in
      let d : DeskLineDoes (gs ++ later) k line new (rest ++ more) next = does later (rest ++ more) in
      let hs : List Generation = gs ++ later in
      let whole : got ++ more ≡ new ++ (rest ++ more) = ap (λ (es : List DeskEntry). es ++ more) (sym split) ∙ append_assoc new rest more in
      let y : DeskLine = line_of_desk hs k line (got ++ more) in
      let y_is : y ≡ line_of_desk hs k line (new ++ (rest ++ more)) = ap (λ (es : List DeskEntry). line_of_desk hs k line es) whole in
      let y_asks : y.asks ≡ map (λ (e : DeskEntry). e.order) new = ap (λ (z : DeskLine). z.asks) y_is ∙ d.asks in
      let y_known : y.known ≡ x.known = ap (λ (z : DeskLine). z.known) y_is ∙ d.known ∙ sym known_x in
      let dropped : drop (length y.asks) (got ++ more) ≡ rest ++ more =
      (λ i. drop (length (y_asks i)) (whole i)) ∙ ap (λ (j : ℕ). drop j (new ++ (rest ++ more))) (length-map new (λ (e : DeskEntry). e.order))
      ∙ drop_at new (rest ++ more) (length new) refl in
      let old : map (λ (e : DeskEntry). e.order) rest ≡ tail = asked_rest got x.asks tail h in
      let i : DeskRuns hs x.known front rest more (known_after x.known (lines_of_desk gs x.known front rest)) =
      desk_again front x.known rest old (every_rest (IsTold (length gs)) new rest told_both) later more in
      record {
        asks = h ∙ (λ j. (sym (y_asks ∙ mine)) j ++ (sym old) j)
            ∙ ap (λ (os : List DeskOrder). y.asks ++ os) (i.asks ∙ (λ j. desk_asks (lines_of_desk hs (sym y_known j) front (sym dropped j))));
        left = (λ j. left_of_desk hs (y_known j) front (dropped j)) ∙ i.left;
      }
