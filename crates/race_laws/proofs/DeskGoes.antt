-- The desk goes on with its lines: each asks for its order, if any, and then what is current.
use Rattle.std.proofs.Common.{◌≡◌, ℕ, ◌≤◌, true, eqb, List, [], ◌∷◌, ◌++◌, length, map, refl, sym, ap, ◌∙◌, subst, arith}
use Rattle.std.proofs.Common.{Result, Ok, append_assoc, append-nil, length-append, lt_of_lt_of_le}
use Rattle.std.proofs.lemmas.List.{map-append}
use Rattle.std.specs.List.{list_any}
use Rattle.mem_base.specs.declared.machine.events.HistoryEntry.{HistoryEntry}
use Rattle.mem_base.specs.declared.machine.records.DeskEntry.{DeskEntry}
use Rattle.mem_base.specs.declared.machine.records.DeskOrder.{DeskOrder}
use Rattle.mem_base.specs.declared.machine.records.DeskOrder.TheVariants as orders
use Rattle.mem_base.specs.lists.Every.{Every}
use Rattle.mem_base.specs.machine.Generations.{Generation}
use Rattle.mem_base.specs.machine.Actors.{generations_published}
use Rattle.mem_base.specs.machine.Turns.{Answered}
use Rattle.mem_base.specs.machine.Records.{Clerk, got_by, FitsDeskOrder}
use Rattle.mem_base.specs.script.Spelling.{Text}
use Rattle.mem_base.specs.script.Scripts.{Line}
use Rattle.mem_base.specs.script.Tasks.{Known, Task, task_of}
use Rattle.mem_base.specs.script.Tasks as tasks
use Rattle.mem_base.specs.script.RaceLines.{asked_first, line_of_desk}
use Rattle.mem_base.specs.script.Race.{Phase, Stand, Course, actors_in, desk_number}
use Rattle.mem_base.proofs.EveryLaws.{weaker, every_append, every_rest}
use Rattle.run_laws.specs.Fitting.{FitsCommand}
use Rattle.race_laws.specs.Acting.{DeskAt}
use Rattle.race_laws.specs.SoFar.{IsTold}
use Rattle.race_laws.proofs.EnterLaws.{more_published, some_published}
use Rattle.race_laws.proofs.Fitting.{FitsTask, task_fits}
use Rattle.race_laws.proofs.NextLines.{desk_at_grows, desk_does, desk_line_done, orders_of}
use Rattle.race_laws.proofs.MorePublished.{told_at}
use Rattle.race_laws.proofs.PhaseParts.{Only, OrderOn, Part, only_none, only_then, order_on, published_in}

-- more is published
pub published_on : (s : Stand) (c d : Course) (ys : List HistoryEntry) → d.entries ≡ c.entries ++ ys
    → (more : List Generation) × (published_in s d ≡ published_in s c ++ more)
published_on s c d ys is =
    let grown = more_published (s.seen ++ c.entries) ys in (
      grown.0,
      ap (λ (xs : List HistoryEntry). generations_published xs)
          (ap (λ (xs : List HistoryEntry). s.seen ++ xs) is ∙ sym (append_assoc s.seen c.entries ys)) ∙ grown.1,
    )

pub published_longer : (s : Stand) (c d : Course) (ys : List HistoryEntry) → d.entries ≡ c.entries ++ ys
    → length (published_in s c) ≤ length (published_in s d)
published_longer s c d ys is =
    let m = published_on s c d ys is in
    let a : length (published_in s d) ≡ length (published_in s c ++ m.0) = ap length m.1 in
    let b = length-append (published_in s c) m.0 in omega (arith, a, b)

-- the actor has a clerk, whatever the clerks have got
abbrev pub HasClerk : Phase → ℕ → Type 0
HasClerk phase who = (cs : List Clerk) → map (λ (c : Clerk). c.who) cs ≡ actors_in phase → list_any (λ (c : Clerk). eqb c.who who) cs ≡ true

-- several orders by one actor
pub record AsksOn (pool : ℕ) (os : List Answered) (s : Stand) (phase : Phase) (c : Course) (who : ℕ) (asks : List DeskOrder) : Type 0 where
  pub course : Course
  pub part : Part pool os s phase course
  pub only : Only who c course
  pub new : List DeskEntry
  pub asked : map (λ (e : DeskEntry). e.order) new ≡ asks
  pub got : got_by who course.clerks ≡ got_by who c.clerks ++ new
  pub told : Every (IsTold (length (published_in s course))) new

asks_on : (pool : ℕ) (os : List Answered) (s : Stand) (phase : Phase) (who : ℕ) → HasClerk phase who → (asks : List DeskOrder) (c : Course)
    → Part pool os s phase c → Every FitsDeskOrder asks → AsksOn pool os s phase c who asks
asks_on pool os s phase who there [] c part fits = record {
  course = c;
  part = part;
  only = only_none who c;
  new = [];
  asked = refl;
  got = sym (append-nil (got_by who c.clerks));
  told = tt;
}
asks_on pool os s phase who there (order ∷ asks) c part fits =
    let a : OrderOn pool os s phase c who order = order_on pool os s phase c who order part (there c.clerks part.clerks) fits.0 in
    let rest : AsksOn pool os s phase a.course who asks = asks_on pool os s phase who there asks a.course a.part fits.1 in record {
      course = rest.course;
      part = rest.part;
      only = only_then who c a.course rest.course a.only rest.only;
      new = a.entry ∷ rest.new;
      asked = (λ i. a.asked i ∷ rest.asked i);
      got = rest.got ∙ ap (λ (es : List DeskEntry). es ++ rest.new) a.got ∙ append_assoc (got_by who c.clerks) (a.entry ∷ []) rest.new;
      told = (lt_of_lt_of_le a.low (published_longer s a.course rest.course rest.only.more rest.only.is), rest.told);
    }

-- the desk has done these lines
abbrev pub DeskIs : Stand → Course → List Line → Known → Type 0
DeskIs s c lines now = DeskAt (published_in s c) s.known lines (got_by desk_number c.clerks) now

pub desk_kept : (s : Stand) (c d : Course) (ys : List HistoryEntry) (lines : List Line) (now : Known) → d.entries ≡ c.entries ++ ys
    → got_by desk_number d.clerks ≡ got_by desk_number c.clerks → DeskIs s c lines now → DeskIs s d lines now
desk_kept s c d ys lines now is got at =
    let m = published_on s c d ys is in
    subst (λ (z : List Generation × List DeskEntry). DeskAt z.0 s.known lines z.1 now) (λ i. (sym m.1 i, sym got i))
    (desk_at_grows (published_in s c) m.0 s.known lines (got_by desk_number c.clerks) now at)

pub record DeskOn (pool : ℕ) (os : List Answered) (s : Stand) (phase : Phase) (c : Course) (lines : List Line) : Type 0 where
  pub course : Course
  pub part : Part pool os s phase course
  pub only : Only desk_number c course
  pub now : Known
  pub at : DeskIs s course lines now

asks_fit : (task : Result Task Text) → FitsTask task → Every FitsDeskOrder (orders_of task ++ orders.Look ∷ [])
asks_fit (Ok (tasks.ordered order name)) h = (h, (tt, tt))
asks_fit (Ok (tasks.shown s)) h = (tt, tt)
asks_fit (Ok (tasks.found s addr)) h = (tt, tt)
asks_fit (Ok (tasks.watched name r first last)) h = (tt, tt)
asks_fit (Ok (tasks.unwatched id)) h = (tt, tt)
asks_fit (Ok (tasks.accessed s addr transfer)) h = (tt, tt)
asks_fit (Ok (tasks.copied from addr n to to_addr)) h = (tt, tt)
asks_fit _ h = (tt, tt)

-- one more line, of which this was got already
pub desk_line_with : (pool : ℕ) (os : List Answered) (s : Stand) (phase : Phase) → HasClerk phase desk_number → (c : Course) (front : List Line) (now : Known)
    (line : Line) (got had : List DeskEntry) (asks : List DeskOrder) → Part pool os s phase c → got_by desk_number c.clerks ≡ got ++ had
    → DeskAt (published_in s c) s.known front got now → orders_of (task_of now line.1) ++ orders.Look ∷ [] ≡ map (λ (e : DeskEntry). e.order) had ++ asks
    → Every FitsDeskOrder asks → DeskOn pool os s phase c (front ++ line ∷ [])
desk_line_with pool os s phase there c front now line got had asks part all at is fits =
    let task = task_of now line.1 in
    let a : AsksOn pool os s phase c desk_number asks = asks_on pool os s phase desk_number there asks c part fits in
    let d : Course = a.course in
    let gs : List Generation = published_in s d in
    let m = published_on s c d a.only.more a.only.is in
    let some = some_published (s.seen ++ d.entries) in
    let new : List DeskEntry = had ++ a.new in
    let next : Known = (line_of_desk gs now line new).known in
    let kept : DeskAt gs s.known front got now =
    subst (λ (hs : List Generation). DeskAt hs s.known front got now) (sym m.1) (desk_at_grows (published_in s c) m.0 s.known front got now at) in
    let asked : map (λ (e : DeskEntry). e.order) new ≡ orders_of task ++ orders.Look ∷ [] =
    map-append (λ (e : DeskEntry). e.order) had a.new ∙ ap (λ (os : List DeskOrder). map (λ (e : DeskEntry). e.order) had ++ os) a.asked ∙ sym is in
    let all_now : got_by desk_number d.clerks ≡ got ++ new =
    a.got ∙ ap (λ (es : List DeskEntry). es ++ a.new) all ∙ append_assoc got had a.new in
    let told_had : Every (IsTold (length gs)) had = weaker (IsTold (length (published_in s c))) (IsTold (length gs))
    (λ e h. lt_of_lt_of_le h (published_longer s c d a.only.more a.only.is)) had
    (every_rest (IsTold (length (published_in s c))) got had (subst (λ (es : List DeskEntry). Every (IsTold (length (published_in s c))) es) all part.told)) in
    let told : Every (IsTold (length gs)) new = every_append (IsTold (length gs)) had a.new told_had a.told in
    let done : DeskAt gs s.known (front ++ line ∷ []) (got ++ new) next =
    desk_line_done gs s.known front got now kept line new next
    (desk_does gs now line new some asked (told_at gs [] some new (asked_first task) told)) in record {
      course = d;
      part = a.part;
      only = a.only;
      now = next;
      at = subst (λ (es : List DeskEntry). DeskAt gs s.known (front ++ line ∷ []) es next) (sym all_now) done;
    }

desk_line_on : (pool : ℕ) (os : List Answered) (s : Stand) (phase : Phase) → HasClerk phase desk_number → (c : Course) (front : List Line) (now : Known)
    (line : Line) → Part pool os s phase c → DeskIs s c front now → FitsCommand line.1 → DeskOn pool os s phase c (front ++ line ∷ [])
desk_line_on pool os s phase there c front now line part at fits =
    let task = task_of now line.1 in
    desk_line_with pool os s phase there c front now line (got_by desk_number c.clerks) [] (orders_of task ++ orders.Look ∷ []) part
    (sym (append-nil (got_by desk_number c.clerks))) at refl (asks_fit task (task_fits now line.1 fits))

pub desk_lines_on : (pool : ℕ) (os : List Answered) (s : Stand) (phase : Phase) → HasClerk phase desk_number → (left front : List Line) (c : Course)
    (now : Known) → Part pool os s phase c → DeskIs s c front now → Every (λ l. FitsCommand l.1) left → DeskOn pool os s phase c (front ++ left)
desk_lines_on pool os s phase there [] front c now part at fits = record {
  course = c;
  part = part;
  only = only_none desk_number c;
  now = now;
  at = subst (λ (lines : List Line). DeskIs s c lines now) (sym (append-nil front)) at;
}
desk_lines_on pool os s phase there (line ∷ left) front c now part at fits =
    let a = desk_line_on pool os s phase there c front now line part at fits.0 in
    let rest = desk_lines_on pool os s phase there left (front ++ line ∷ []) a.course a.now a.part a.at fits.1 in record {
      course = rest.course;
      part = rest.part;
      only = only_then desk_number c a.course rest.course a.only rest.only;
      now = rest.now;
      at = subst (λ (lines : List Line). DeskIs s rest.course lines rest.now) (append_assoc front (line ∷ []) left) rest.at;
    }
