-- One more line of the desk or of a pass, after those that it has done.
use Rattle.std.proofs.Common.{◌≡◌, ℕ, ◌+◌, ◌<◌, List, [], ◌∷◌, ◌++◌, length, map, drop, flat_map, refl, sym, ap, ◌∙◌, subst, arith}
use Rattle.std.proofs.Common.{Option, Some, None, Result, Ok, append-nil, append_assoc, length-append}
use Rattle.std.proofs.lemmas.List.{map-append, drop_at, length-map}
use Rattle.std.proofs.lemmas.Grind.{flat_map-append}
use lib.ListN.{get_or-append}
use Rattle.mem_base.specs.map.PassIds.{PassId}
use Rattle.mem_base.specs.declared.map.forests.Forest.{Forest}
use Rattle.mem_base.specs.declared.map.refusals.Refusal.{Refusal}
use Rattle.mem_base.specs.declared.machine.events.HistoryEntry.{HistoryEntry}
use Rattle.mem_base.specs.declared.machine.records.DeskEntry.{DeskEntry}
use Rattle.mem_base.specs.declared.machine.records.DeskOrder.{DeskOrder}
use Rattle.mem_base.specs.declared.machine.records.DeskOrder.TheVariants as orders
use Rattle.mem_base.specs.machine.Passes.{PassState}
use Rattle.mem_base.specs.machine.Generations.{Generation}
use Rattle.mem_base.specs.machine.PassTurns.{pass_begins}
use Rattle.mem_base.specs.machine.Turns.{replies_of}
use Rattle.mem_base.specs.script.Spelling.{Text}
use Rattle.mem_base.specs.script.Scripts.{Line}
use Rattle.mem_base.specs.script.Named.{Names}
use Rattle.mem_base.specs.script.Watching.{watch_refusal, Watcher}
use Rattle.mem_base.specs.script.Tasks.{Known, Task, task_of}
use Rattle.mem_base.specs.script.Tasks as tasks
use Rattle.mem_base.specs.script.RaceLines.{DeskLine, PassLine, asked_first, catching_up, entry_at, generation_numbered, line_of_desk, lines_of_desk, no_entry}
use Rattle.mem_base.specs.script.RaceLines.{line_of_pass, lines_of_pass, new_watcher, number_looked, own_line, watch_line}
use Rattle.mem_base.specs.script.Race.{ActsAfterPublishes, IsAfterPublish}
use Rattle.race_laws.specs.Acting.{DeskAt, DeskLeft, DeskLineDoes, DeskRuns, PassAt, PassDeed, PassLeft, PassLineDoes, PassRuns, deed_on, left_of_desk}
use Rattle.race_laws.specs.Acting.{left_of_pass, pass_left}
use Rattle.race_laws.proofs.MorePublished.{numbered_same}

-- the desk

pub desk_append : (gs : List Generation) (k : Known) (front back : List Line) (got : List DeskEntry) → let l = left_of_desk gs k front got in
    lines_of_desk gs k (front ++ back) got ≡ lines_of_desk gs k front got ++ lines_of_desk gs l.known back l.got
desk_append gs k [] back got = refl
desk_append gs k (line ∷ front) back got =
    let x : DeskLine = line_of_desk gs k line got in
    ap (λ (xs : List DeskLine). x ∷ xs) (desk_append gs x.known front back (drop (length x.asks) got))

left_append : (gs : List Generation) (k : Known) (front back : List Line) (got : List DeskEntry) → let l = left_of_desk gs k front got in
    left_of_desk gs k (front ++ back) got ≡ left_of_desk gs l.known back l.got
left_append gs k [] back got = refl
left_append gs k (line ∷ front) back got =
    let x : DeskLine = line_of_desk gs k line got in left_append gs x.known front back (drop (length x.asks) got)

pub desk_line_done : (gs : List Generation) (k : Known) (front : List Line) (got : List DeskEntry) (now : Known) → DeskAt gs k front got now
    → (line : Line) (new : List DeskEntry) (next : Known) → ((later : List Generation) (more : List DeskEntry)
    → DeskLineDoes (gs ++ later) now line new more next)
    → DeskAt gs k (front ++ line ∷ []) (got ++ new) next
desk_line_done gs k front got now at line new next does later more =
    let hs : List Generation = gs ++ later in
    let all : List DeskEntry = got ++ (new ++ more) in
    let r : DeskRuns hs k front got (new ++ more) now = at later (new ++ more) in
    let x : DeskLine = line_of_desk hs now line (new ++ more) in
    let d : DeskLineDoes hs now line new more next = does later more in
    let same : (got ++ new) ++ more ≡ all = append_assoc got new more in
    let long : length x.asks ≡ length new = ap length d.asks ∙ length-map new (λ (e : DeskEntry). e.order) in
    let lines : lines_of_desk hs k (front ++ line ∷ []) ((got ++ new) ++ more) ≡ lines_of_desk hs k front all ++ x ∷ [] =
    ap (λ (es : List DeskEntry). lines_of_desk hs k (front ++ line ∷ []) es) same
    ∙ desk_append hs k front (line ∷ []) all
    ∙ ap (λ (l : DeskLeft). lines_of_desk hs k front all ++ lines_of_desk hs l.known (line ∷ []) l.got) r.left in record {
      asks = map-append (λ (e : DeskEntry). e.order) got new
          ∙ (λ i. r.asks i ++ map (λ (e : DeskEntry). e.order) new)
          ∙ ap (λ (os : List DeskOrder). flat_map (λ (y : DeskLine). y.asks) (lines_of_desk hs k front all) ++ os) (sym d.asks ∙ sym (append-nil x.asks))
          ∙ sym (flat_map-append (λ (y : DeskLine). y.asks) (lines_of_desk hs k front all) (x ∷ []))
          ∙ ap (λ (ys : List DeskLine). flat_map (λ (y : DeskLine). y.asks) ys) (sym lines);
      left = ap (λ (es : List DeskEntry). left_of_desk hs k (front ++ line ∷ []) es) same
          ∙ left_append hs k front (line ∷ []) all
          ∙ ap (λ (l : DeskLeft). left_of_desk hs l.known (line ∷ []) l.got) r.left
          ∙ (λ i. record { known = d.known i; got = drop (long i) (new ++ more) })
          ∙ ap (λ (es : List DeskEntry). record { known = next; got = es }) (drop_at new more (length new) refl);
    }

-- a line by its task
abbrev pub orders_of : Result Task Text → List DeskOrder
orders_of (Ok (tasks.ordered order name)) = order ∷ []
orders_of _ = []

first_counts : (task : Result Task Text) → asked_first task ≡ length (orders_of task)
first_counts (Ok (tasks.ordered order name)) = refl
first_counts (Ok (tasks.shown s)) = refl
first_counts (Ok (tasks.found s addr)) = refl
first_counts (Ok (tasks.watched name r first last)) = refl
first_counts (Ok (tasks.unwatched id)) = refl
first_counts (Ok (tasks.accessed s addr transfer)) = refl
first_counts (Ok (tasks.copied from addr n to to_addr)) = refl
first_counts _ = refl

pub own_asks : (k : Known) (n : ℕ) (task : Result Task Text) (e : DeskEntry) (number : ℕ) (f : Forest) → (own_line k n task e number f).asks ≡ orders_of task
own_asks k n (Ok (tasks.ordered order name)) e number f = refl
own_asks k n (Ok (tasks.shown s)) e number f = refl
own_asks k n (Ok (tasks.found s addr)) e number f = refl
own_asks k n (Ok (tasks.watched name r first last)) e number f = go (new_watcher k r first last) (watch_refusal k.watchers first last)
  where
    go : (w : Watcher) (o : Option Refusal) → (watch_line k n f name w o).asks ≡ []
    go w None = refl
    go w (Some why) = refl
own_asks k n (Ok (tasks.unwatched id)) e number f = refl
own_asks k n (Ok (tasks.accessed s addr transfer)) e number f = refl
own_asks k n (Ok (tasks.copied from addr m to to_addr)) e number f = refl
own_asks k n _ e number f = refl

-- a line by the entries that it reads, and the current generation
abbrev line_by : Known → ℕ → Result Task Text → DeskEntry → DeskEntry → Generation → DeskLine
line_by k n task e look g = catching_up g.forest (own_line k n task e (number_looked look.answer) g.forest)

pub desk_does : (gs : List Generation) (k : Known) (line : Line) (new : List DeskEntry) → 0 < length gs
    → map (λ (e : DeskEntry). e.order) new ≡ orders_of (task_of k line.1) ++ orders.Look ∷ []
    → number_looked (entry_at new (asked_first (task_of k line.1))).answer < length gs
    → (later : List Generation) (more : List DeskEntry) → DeskLineDoes (gs ++ later) k line new more (line_of_desk gs k line new).known
desk_does gs k line new some is told later more =
    let task = task_of k line.1 in
    let i = asked_first task in
    let long : length new ≡ length (orders_of task) + 1 =
    sym (length-map new (λ (e : DeskEntry). e.order)) ∙ ap length is ∙ length-append (orders_of task) (orders.Look ∷ []) in
    let counts : i ≡ length (orders_of task) = first_counts task in
    let look : entry_at (new ++ more) i ≡ entry_at new i = get_or-append new more no_entry i (omega (arith, long, counts)) in
    let first : entry_at (new ++ more) 0 ≡ entry_at new 0 = get_or-append new more no_entry 0 (omega (arith, long)) in
    let number = number_looked (entry_at new i).answer in
    let g : generation_numbered (gs ++ later) number ≡ generation_numbered gs number = numbered_same gs later some number told in
    let same : line_of_desk (gs ++ later) k line (new ++ more) ≡ line_of_desk gs k line new =
    (λ j. line_by k line.0 task (first j) (look j) (generation_numbered (gs ++ later) (number_looked (look j).answer)))
    ∙ ap (λ (h : Generation). line_by k line.0 task (entry_at new 0) (entry_at new i) h) g in
    let x : DeskLine = line_of_desk gs k line new in record {
      asks = ap (λ (z : DeskLine). z.asks) same
          ∙ ap (λ (os : List DeskOrder). os ++ orders.Look ∷ [])
          (own_asks k line.0 task (entry_at new 0) number (generation_numbered gs number).forest)
          ∙ sym is;
      known = ap (λ (z : DeskLine). z.known) same;
    }

-- a pass

pass_append : (gs : List Generation) (k : Known) (names : Names) (pass : PassId) (p : PassState) (front back : List Line) (replies : List ℕ)
    (got : List DeskEntry) → let l = left_of_pass gs k names pass p front replies got in
    lines_of_pass gs k names pass p (front ++ back) replies got
    ≡ lines_of_pass gs k names pass p front replies got ++ lines_of_pass gs k names pass l.state back l.replies l.got
pass_append gs k names pass p [] back replies got = refl
pass_append gs k names pass p (line ∷ front) back replies got =
    let x : PassLine = line_of_pass gs names pass line.0 (task_of k line.1) (pass_begins p replies) (entry_at got 0) in
    ap (λ (xs : List PassLine). x ∷ xs) (pass_append gs k names pass x.turn.state front back x.turn.replies (drop (length x.asks) got))

pass_left_append : (gs : List Generation) (k : Known) (names : Names) (pass : PassId) (p : PassState) (front back : List Line) (replies : List ℕ)
    (got : List DeskEntry) → let l = left_of_pass gs k names pass p front replies got in
    left_of_pass gs k names pass p (front ++ back) replies got ≡ left_of_pass gs k names pass l.state back l.replies l.got
pass_left_append gs k names pass p [] back replies got = refl
pass_left_append gs k names pass p (line ∷ front) back replies got =
    let x : PassLine = line_of_pass gs names pass line.0 (task_of k line.1) (pass_begins p replies) (entry_at got 0) in
    pass_left_append gs k names pass x.turn.state front back x.turn.replies (drop (length x.asks) got)

acts_push : (xs : List HistoryEntry) (actor count : ℕ) (lines : List PassLine) (x : PassLine) → ActsAfterPublishes xs actor count lines
    → IsAfterPublish xs actor ((count + length (flat_map (λ (y : PassLine). y.turn.entries) lines)) + length x.turn.entries) x.published
    → ActsAfterPublishes xs actor count (lines ++ x ∷ [])
acts_push xs actor count [] x h k = (
  subst (λ (n : ℕ). IsAfterPublish xs actor n x.published) (let same :
      (count + 0) + length x.turn.entries ≡ count + length x.turn.entries = omega arith in same) k,
  tt,
)
acts_push xs actor count (y ∷ lines) x h k =
    let rest : List HistoryEntry = flat_map (λ (y : PassLine). y.turn.entries) lines in
    let long = length-append y.turn.entries rest in
    let same : (count + length (y.turn.entries ++ rest)) + length x.turn.entries ≡ ((count + length y.turn.entries) + length rest) + length x.turn.entries =
    omega (arith, long) in
    (h.0, acts_push xs actor (count + length y.turn.entries) lines x h.1 (subst (λ (n : ℕ). IsAfterPublish xs actor n x.published) same k))

pub pass_line_done : (gs : List Generation) (k : Known) (pass : PassId) (xs : List HistoryEntry) (count : ℕ) (d : PassDeed) → PassAt gs k pass xs count d
    → (line : Line) (ys : List HistoryEntry) (new : List DeskEntry) (next : PassState) (published : Option ℕ)
    → ((names : Names) (later : List Generation) (replies : List ℕ) (more : List DeskEntry) → PassLineDoes
    (line_of_pass (gs ++ later) names pass line.0 (task_of k line.1) (pass_begins d.now (replies_of ys ++ replies)) (entry_at (new ++ more) 0))
    ys new next published replies)
    → ((zs : List HistoryEntry) → IsAfterPublish (xs ++ zs) (pass.0 + 1) ((count + length d.own) + length ys) published)
    → PassAt gs k pass xs count (deed_on d line ys new next)
pass_line_done gs k pass xs count d at line ys new next published does stands names later zs replies more =
    let hs : List Generation = gs ++ later in
    let ns : List ℕ = replies_of ys ++ replies in
    let es : List DeskEntry = new ++ more in
    let r : PassRuns hs k pass (xs ++ zs) count d names ns es = at names later zs ns es in
    let before : List PassLine = lines_of_pass hs k names pass d.before d.lines (replies_of d.own ++ ns) (d.got ++ es) in
    let x : PassLine = line_of_pass hs names pass line.0 (task_of k line.1) (pass_begins d.now ns) (entry_at es 0) in
    let does_x : PassLineDoes x ys new next published replies = does names later replies more in
    let told : replies_of (d.own ++ ys) ++ replies ≡ replies_of d.own ++ ns =
    ap (λ (ms : List ℕ). ms ++ replies) (map-append (λ (x : HistoryEntry). x.reply) d.own ys) ∙ append_assoc (replies_of d.own) (replies_of ys) replies in
    let same : (d.got ++ new) ++ more ≡ d.got ++ es = append_assoc d.got new more in
    let long : length x.asks ≡ length new = ap length does_x.asks ∙ length-map new (λ (e : DeskEntry). e.order) in
    let lines : lines_of_pass hs k names pass d.before (d.lines ++ line ∷ []) (replies_of (d.own ++ ys) ++ replies)
    ((d.got ++ new) ++ more) ≡ before ++ x ∷ [] =
    (λ i. lines_of_pass hs k names pass d.before (d.lines ++ line ∷ []) (told i) (same i))
    ∙ pass_append hs k names pass d.before d.lines (line ∷ []) (replies_of d.own ++ ns) (d.got ++ es)
    ∙ ap (λ (l : PassLeft). before ++ lines_of_pass hs k names pass l.state (line ∷ []) l.replies l.got) r.left in
    let counts : (count + length (flat_map (λ (y : PassLine). y.turn.entries) before)) + length x.turn.entries ≡ (count + length d.own) + length ys =
    (λ i. (count + length (sym r.entries i)) + length x.turn.entries) ∙ ap (λ (zs : List HistoryEntry). (count + length d.own) + length zs) does_x.entries in
    record {
      entries = (λ i. r.entries i ++ ys)
          ∙ ap (λ (zs : List HistoryEntry). flat_map (λ (y : PassLine). y.turn.entries) before ++ zs) (sym does_x.entries ∙ sym (append-nil x.turn.entries))
          ∙ sym (flat_map-append (λ (y : PassLine). y.turn.entries) before (x ∷ []))
          ∙ ap (λ (ys : List PassLine). flat_map (λ (y : PassLine). y.turn.entries) ys) (sym lines);
      asks = map-append (λ (e : DeskEntry). e.order) d.got new
          ∙ (λ i. r.asks i ++ map (λ (e : DeskEntry). e.order) new)
          ∙ ap (λ (os : List DeskOrder). flat_map (λ (y : PassLine). y.asks) before ++ os) (sym does_x.asks ∙ sym (append-nil x.asks))
          ∙ sym (flat_map-append (λ (y : PassLine). y.asks) before (x ∷ []))
          ∙ ap (λ (ys : List PassLine). flat_map (λ (y : PassLine). y.asks) ys) (sym lines);
      after = subst (λ (ys : List PassLine). ActsAfterPublishes (xs ++ zs) (pass.0 + 1) count ys) (sym lines)
          (acts_push (xs ++ zs) (pass.0 + 1) count before x r.after
          (subst (λ (z : ℕ × Option ℕ). IsAfterPublish (xs ++ zs) (pass.0 + 1) z.0 z.1) (λ i. (sym counts i, sym does_x.told i)) (stands zs)));
      left = (λ i. left_of_pass hs k names pass d.before (d.lines ++ line ∷ []) (told i) (same i))
          ∙ pass_left_append hs k names pass d.before d.lines (line ∷ []) (replies_of d.own ++ ns) (d.got ++ es)
          ∙ ap (λ (l : PassLeft). left_of_pass hs k names pass l.state (line ∷ []) l.replies l.got) r.left
          ∙ (λ i. pass_left (does_x.state i) (does_x.replies_left i) (drop (long i) es))
          ∙ ap (λ (es : List DeskEntry). pass_left next replies es) (drop_at new more (length new) refl);
    }

-- what holds of a pass's lines stays where more is published and more is done by others
pub pass_at_grows : (gs hs : List Generation) (k : Known) (pass : PassId) (xs zs : List HistoryEntry) (count : ℕ) (d : PassDeed)
    → PassAt gs k pass xs count d → PassAt (gs ++ hs) k pass (xs ++ zs) count d
pass_at_grows gs hs k pass xs zs count d at names later more replies es =
    subst (λ (z : List Generation × List HistoryEntry). PassRuns z.0 k pass z.1 count d names replies es)
    (λ i. (sym (append_assoc gs hs later) i, sym (append_assoc xs zs more) i)) (at names (hs ++ later) (zs ++ more) replies es)

pub desk_at_grows : (gs hs : List Generation) (k : Known) (lines : List Line) (got : List DeskEntry) (now : Known) → DeskAt gs k lines got now
    → DeskAt (gs ++ hs) k lines got now
desk_at_grows gs hs k lines got now at later more =
    subst (λ (ys : List Generation). DeskRuns ys k lines got more now) (sym (append_assoc gs hs later)) (at (hs ++ later) more)
