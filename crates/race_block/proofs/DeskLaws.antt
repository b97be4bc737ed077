-- A line of the desk, by the receipts of its orders.
use Rattle.std.proofs.Common.{◌≡◌, ℕ, ◌<◌, List, [], ◌∷◌, ◌++◌, length, map, refl, sym, ap, subst, ◌∙◌, append-nil, append_assoc, arith}
use Rattle.std.proofs.Common.{Option, Some, None, Result, Ok, Err}
use Rattle.std.proofs.lemmas.List.{map-append}
use Rattle.std.specs.Arc.{arc_value}
use mathlib.Core.List.{IsPrefix}
use Rattle.atomic_table.specs.Seated.{TableId}
use Rattle.mem_base.specs.declared.map.forests.Forest.{Forest}
use Rattle.mem_base.specs.declared.machine.events.HistoryEntry.{HistoryEntry}
use Rattle.mem_base.specs.declared.machine.records.DeskEntry.{DeskEntry}
use Rattle.mem_base.specs.declared.machine.records.DeskOrder.{DeskOrder}
use Rattle.mem_base.specs.declared.machine.records.DeskOrder.TheVariants as orders
use Rattle.mem_base.specs.declared.machine.records.DeskAnswer.{DeskAnswer}
use Rattle.mem_base.specs.declared.machine.records.DeskAnswer.TheVariants as answers
use Rattle.mem_base.specs.lists.Every.{Every}
use Rattle.mem_base.specs.machine.Generations.{Generation}
use Rattle.mem_base.specs.machine.Actors.{generations_published}
use Rattle.mem_base.specs.machine.Records.{Clerk}
use Rattle.mem_base.specs.script.Spelling.{Text}
use Rattle.mem_base.specs.script.Scripts.{Line}
use Rattle.mem_base.specs.script.Tasks.{Known, Resolved, Task, task_of}
use Rattle.mem_base.specs.script.Tasks as tasks
use Rattle.mem_base.specs.script.RaceLines.{DeskLine, asked_first, catching_up, entry_at, generation_numbered, number_looked, own_line}
use Rattle.history_laws.proofs.AppendLaws.{generation_stays, published_more}
use Rattle.generation.specs.Published.{Published}
use Rattle.epoch_rule.specs.Copies.{value_in}
use Rattle.epoch_rule.specs.Values.{NoteValue}
use Rattle.race_laws.specs.SoFar.{IsTold}
use Rattle.race_laws.specs.Stopped.{BeginsLine}
use Rattle.race_laws.proofs.EnterLaws.{some_published}
use Rattle.race_laws.proofs.NextLines.{orders_of, own_asks}
use Rattle.desk_orders.specs.Receipts.{HandsOut, HasSeenTold, IsAnswerTo, number_told}
use Rattle.desk_orders.specs.Given.{entry_got}
use Rattle.race_lines.specs.declared.tasks.LineTask.{LineTask}
use Rattle.race_lines.specs.declared.tasks.LineTask.TheVariants.{Idle, Ordered, Shown, Found, Watched, Unwatched, Entered, Left, Read, Written, Copied}
use Rattle.race_lines.specs.declared.tasks.Refused.{Refused}
use Rattle.race_lines.specs.DeskLines.{desk_line_by, entry_with}
use Rattle.race_lines.specs.LineTasks.{Resolves, name_made, resolved}
use Rattle.race_lines.proofs.SaidLaws.{lines_go_by_answers}
use Rattle.race_block.specs.declared.desks.Asked.{Asked}
use Rattle.race_block.specs.declared.desks.Given.{Given}
use Rattle.race_block.specs.Desks.{Gives, GivesOwn, HasHeard, IsAsked, StopsIn, clerk_with, entry_of, line_asked}

-- what a receipt tells, in every history that begins with what its note had seen

told_by : (answer : DeskAnswer) (xs ys : List HistoryEntry) → IsPrefix xs ys → HasSeenTold xs (number_told answer)
    → number_looked answer < length (generations_published ys)
told_by (answers.Looked number) xs ys h k = published_more xs ys h number k.inside
told_by _ xs ys h k = some_published ys

-- what a look hands out is the generation of the number that it tells
record IsLooked (number : ℕ) (g : Published) (ys : List HistoryEntry) : Type 0 where
  number_is : number ≡ g.number
  forest_is : (generation_numbered (generations_published ys) number).forest ≡ g.forest

looked_by : (answer : DeskAnswer) (g : Published) (xs ys : List HistoryEntry) → IsPrefix xs ys → IsAnswerTo orders.Look answer
    → HasSeenTold xs (number_told answer) → HandsOut orders.Look answer (Some g) xs → IsLooked (number_looked answer) g ys
looked_by (answers.Looked number) g xs ys h a k o = record {
  number_is = sym o.0;
  forest_is = ap (λ (x : Generation). x.forest) (generation_stays xs ys h number k.inside) ∙ sym o.1;
}
looked_by (answers.Refused why) g xs ys h a k o = absurd a.0
looked_by _ g xs ys h a k o = absurd a

pub hands_out : (answer : DeskAnswer) (xs : List HistoryEntry) → HandsOut orders.Look answer None xs → ⊥
hands_out answers.Done xs h = h
hands_out _ xs h = h

-- a line, by its task
abbrev line_at : List Generation → Known → ℕ → Resolved Task → List DeskEntry → DeskLine
line_at gs k n task got =
    let number = number_looked (entry_at got (asked_first task)).answer in
    let f = (generation_numbered gs number).forest in catching_up f (own_line k n task (entry_at got 0) number f)

-- a line without an order reads no entry
own_free : (k : Known) (n : ℕ) (x : Result LineTask Refused) (e d : DeskEntry) (number : ℕ) (f : Forest) → asked_first (resolved x) ≡ 0
    → own_line k n (resolved x) e number f ≡ own_line k n (resolved x) d number f
own_free k n (Err why) e d number f h = refl
own_free k n (Ok Idle) e d number f h = refl
own_free k n (Ok (Ordered order naming)) e d number f h = absurd (omega (arith, h))
own_free k n (Ok (Shown space)) e d number f h = refl
own_free k n (Ok (Found space addr)) e d number f h = refl
own_free k n (Ok (Watched name region first last)) e d number f h = refl
own_free k n (Ok (Unwatched name watcher)) e d number f h = refl
own_free k n (Ok Entered) e d number f h = refl
own_free k n (Ok Left) e d number f h = refl
own_free k n (Ok (Read space addr len)) e d number f h = refl
own_free k n (Ok (Written space addr bytes)) e d number f h = refl
own_free k n (Ok (Copied space addr len to to_addr)) e d number f h = refl

-- lists

at_end : (xs : List DeskEntry) (y : DeskEntry) (zs : List DeskEntry) → entry_at ((xs ++ y ∷ []) ++ zs) (length xs) ≡ y
at_end [] y zs = refl
at_end (x ∷ xs) y zs = at_end xs y zs

pub heard_both : (xs ys : List NoteValue) (seen : List HistoryEntry) → HasHeard (xs ++ ys) seen → HasHeard xs seen × HasHeard ys seen
heard_both [] ys seen h = (tt, h)
heard_both (x ∷ xs) ys seen h = let r = heard_both xs ys seen h.1 in ((h.0, r.0), r.1)

pub told_both : (n : ℕ) (xs ys : List DeskEntry) → Every (IsTold n) xs → Every (IsTold n) ys → Every (IsTold n) (xs ++ ys)
told_both n [] ys h k = k
told_both n (x ∷ xs) ys h k = (h.0, told_both n xs ys h.1 k)

pub with_nothing : (c : Clerk) → c ≡ clerk_with c []
with_nothing c = ap (λ (got : List DeskEntry). let x : Clerk = record { who = c.who; got = got } in x) (sym (append-nil c.got))

-- the order of a line

record Own (k : Known) (line : Line) (x : Result LineTask Refused) (c : Clerk) (notes : List NoteValue) (got : Option Given) (d : Clerk)
    (more : List NoteValue) : Type 0 where
  new : List DeskEntry
  heard : List NoteValue
  clerk : d ≡ clerk_with c new
  notes_are : more ≡ notes ++ heard
  asks : map (λ (e : DeskEntry). e.order) new ≡ orders_of (resolved x)
  many : length new ≡ asked_first (resolved x)
  begins : resolved x ≡ task_of k line.1 → BeginsLine k (line ∷ []) new
  told : (seen : List HistoryEntry) → HasHeard heard seen → Every (IsTold (length (generations_published seen))) new
  same : (others : List DeskEntry) (number : ℕ) (f : Forest) → desk_line_by k line.0 (resolved x) (entry_at (new ++ others) 0) number f
      ≡ desk_line_by k line.0 (resolved x) (entry_of got) number f

no_own : (k : Known) (line : Line) (x : Result LineTask Refused) (c : Clerk) (notes : List NoteValue) (got : Option Given) (d : Clerk)
    (more : List NoteValue) → orders_of (resolved x) ≡ [] → asked_first (resolved x) ≡ 0 → (got ≡ None) × (d ≡ c) × (more ≡ notes)
    → Own k line x c notes got d more
no_own k line x c notes got d more asks many h = record {
  new = [];
  heard = [];
  clerk = h.1 ∙ with_nothing c;
  notes_are = h.2 ∙ sym (append-nil notes);
  asks = sym asks;
  many = sym many;
  begins = λ is. tt;
  told = λ seen heard. tt;
  same = λ others number f. ap (λ (z : DeskLine). catching_up f z) (own_free k line.0 x (entry_at others 0) (entry_of got) number f many);
}

one_own : (cabinet : TableId) (k : Known) (line : Line) (x : Result LineTask Refused) (order : DeskOrder) (name : Text) (c : Clerk)
    (notes : List NoteValue) (got : Option Given) (g : Given) (d : Clerk) (more : List NoteValue) → resolved x ≡ Ok (tasks.ordered order name)
    → got ≡ Some g → Gives cabinet order c notes g d more → Own k line x c notes got d more
one_own cabinet k line x order name c notes got g d more is some h =
    let entry : DeskEntry = entry_got c.who order h.receipt in record {
      new = entry ∷ [];
      heard = h.receipt.note ∷ [];
      clerk = h.clerk;
      notes_are = h.notes_are;
      asks = ap orders_of (sym is);
      many = ap asked_first (sym is);
      begins = λ same. (name, sym same ∙ is);
      told = λ seen heard. (told_by h.receipt.answer h.receipt.note.seen seen heard.0 h.is.seen, tt);
      same = λ others number f. lines_go_by_answers k line.0 (resolved x) entry number f
          ∙ (λ i. desk_line_by k line.0 (resolved x) (entry_with (sym h.answer i) (sym h.from i) (sym h.to i)) number f)
          ∙ ap (λ (z : Option Given). desk_line_by k line.0 (resolved x) (entry_of z) number f) (sym some);
    }

own_part : (cabinet : TableId) (k : Known) (line : Line) (x : Result LineTask Refused) (c : Clerk) (notes : List NoteValue) (got : Option Given)
    (d : Clerk) (more : List NoteValue) → GivesOwn cabinet x c notes got d more → Own k line x c notes got d more
own_part cabinet k line (Err why) c notes got d more h = no_own k line (Err why) c notes got d more refl refl h
own_part cabinet k line (Ok Idle) c notes got d more h = no_own k line (Ok Idle) c notes got d more refl refl h
own_part cabinet k line (Ok (Ordered order naming)) c notes got d more h =
    one_own cabinet k line (Ok (Ordered order naming)) order (name_made naming) c notes got h.0 d more refl h.1 h.2
own_part cabinet k line (Ok (Shown space)) c notes got d more h = no_own k line (Ok (Shown space)) c notes got d more refl refl h
own_part cabinet k line (Ok (Found space addr)) c notes got d more h = no_own k line (Ok (Found space addr)) c notes got d more refl refl h
own_part cabinet k line (Ok (Watched name region first last)) c notes got d more h =
    no_own k line (Ok (Watched name region first last)) c notes got d more refl refl h
own_part cabinet k line (Ok (Unwatched name watcher)) c notes got d more h = no_own k line (Ok (Unwatched name watcher)) c notes got d more refl refl h
own_part cabinet k line (Ok Entered) c notes got d more h = no_own k line (Ok Entered) c notes got d more refl refl h
own_part cabinet k line (Ok Left) c notes got d more h = no_own k line (Ok Left) c notes got d more refl refl h
own_part cabinet k line (Ok (Read space addr len)) c notes got d more h = no_own k line (Ok (Read space addr len)) c notes got d more refl refl h
own_part cabinet k line (Ok (Written space addr bytes)) c notes got d more h =
    no_own k line (Ok (Written space addr bytes)) c notes got d more refl refl h
own_part cabinet k line (Ok (Copied space addr len to to_addr)) c notes got d more h =
    no_own k line (Ok (Copied space addr len to to_addr)) c notes got d more refl refl h

-- a line that stopped

pub stops_first : (k : Known) (line : Line) (c d : Clerk) (notes more : List NoteValue) → d ≡ c → more ≡ notes → StopsIn k line c notes d more
stops_first k line c d notes more clerk same = record {
  new = [];
  heard = [];
  clerk = clerk ∙ with_nothing c;
  notes_are = same ∙ sym (append-nil notes);
  begins = tt;
  told = λ seen heard. tt;
}

pub stops_after : (cabinet : TableId) (k : Known) (line : Line) (x : Result LineTask Refused) (c : Clerk) (notes : List NoteValue) (got : Option Given)
    (d e : Clerk) (more most : List NoteValue) → Resolves k x (task_of k line.1) → GivesOwn cabinet x c notes got d more → e ≡ d → most ≡ more
    → StopsIn k line c notes e most
stops_after cabinet k line x c notes got d e more most r h clerk same =
    let o = own_part cabinet k line x c notes got d more h in record {
      new = o.new;
      heard = o.heard;
      clerk = clerk ∙ o.clerk;
      notes_are = same ∙ o.notes_are;
      begins = o.begins r.is;
      told = o.told;
    }

-- a line that asked for all that it asks for

module _ (cabinet : TableId) (k : Known) (line : Line) (x : Asked) (c d e : Clerk) (notes more most : List NoteValue) (look : Given)
    (o : Own k line x.task c notes x.got d more) (h : Gives cabinet orders.Look d more look e most)
    (shows : value_in h.receipt.current ≡ Some (arc_value x.current)) where
  abbrev last : DeskEntry
  last = entry_got d.who orders.Look h.receipt

  abbrev all : List DeskEntry
  all = o.new ++ last ∷ []

  abbrev heard_all : List NoteValue
  heard_all = o.heard ++ h.receipt.note ∷ []

  last_at : (others : List DeskEntry) → entry_at (all ++ others) (asked_first (resolved x.task)) ≡ last
  last_at others = ap (λ (n : ℕ). entry_at (all ++ others) n) (sym o.many) ∙ at_end o.new last others

  last_alone : entry_at all (asked_first (resolved x.task)) ≡ last
  last_alone = ap (λ (es : List DeskEntry). entry_at es (asked_first (resolved x.task))) (sym (append-nil all)) ∙ last_at []

  module _ (seen : List HistoryEntry) (heard : HasHeard heard_all seen) where
    abbrev gs : List Generation
    gs = generations_published seen

    abbrev g : Published
    g = arc_value x.current

    begins : IsPrefix h.receipt.note.seen seen
    begins = (heard_both o.heard (h.receipt.note ∷ []) seen heard).1.0

    looked : IsLooked (number_looked h.receipt.answer) g seen
    looked = looked_by h.receipt.answer g h.receipt.note.seen seen begins h.is.answers h.is.seen
        (subst (λ (z : Option Published). HandsOut orders.Look h.receipt.answer z h.receipt.note.seen) shows h.is.current)

    below : number_looked last.answer < length gs
    below = told_by h.receipt.answer h.receipt.note.seen seen begins h.is.seen

    abbrev asks_at : Resolved Task → Type 0
    asks_at task = (map (λ (z : DeskEntry). z.order) all ≡ (line_at gs k line.0 task all).asks)
        × (number_looked (entry_at all (asked_first task)).answer < length gs)

    asked_at : asks_at (resolved x.task)
    asked_at = (
      map-append (λ (z : DeskEntry). z.order) o.new (last ∷ []) ∙ ap (λ (os : List DeskOrder). os ++ orders.Look ∷ [])
          (o.asks ∙ sym (own_asks k line.0 (resolved x.task) (entry_at all 0) _ _)),
      subst (λ (z : DeskEntry). number_looked z.answer < length gs) (sym last_alone) below,
    )

    line_is : (others : List DeskEntry) → line_at gs k line.0 (resolved x.task) (all ++ others) ≡ line_asked k line.0 x
    line_is others =
        let number_at : number_looked (entry_at (all ++ others) (asked_first (resolved x.task))).answer ≡ number_looked last.answer =
        ap (λ (z : DeskEntry). number_looked z.answer) (last_at others) in
        let number : number_looked (entry_at (all ++ others) (asked_first (resolved x.task))).answer ≡ g.number = number_at ∙ looked.number_is in
        let forest : (generation_numbered gs (number_looked (entry_at (all ++ others) (asked_first (resolved x.task))).answer)).forest ≡ g.forest =
        ap (λ (n : ℕ). (generation_numbered gs n).forest) number_at ∙ looked.forest_is in
        (λ i. desk_line_by k line.0 (resolved x.task) (entry_at (append_assoc o.new (last ∷ []) others i) 0) (number i) (forest i))
        ∙ o.same (last ∷ others) g.number g.forest

  is_asked : Resolves k x.task (task_of k line.1) → IsAsked k line c notes x e most
  is_asked r = record {
    task = r;
    asked = record {
      new = all;
      heard = heard_all;
      clerk = h.clerk
          ∙ ap (λ (z : Clerk). let y : Clerk = record { who = z.who; got = z.got ++ last ∷ [] } in y) o.clerk
          ∙ ap (λ (got : List DeskEntry). let y : Clerk = record { who = c.who; got = got } in y) (append_assoc c.got o.new (last ∷ []));
      notes_are = h.notes_are ∙ ap (λ (ns : List NoteValue). ns ++ h.receipt.note ∷ []) o.notes_are ∙ append_assoc notes o.heard (h.receipt.note ∷ []);
      is = λ seen heard.
          let a = subst (λ (t : Resolved Task). asks_at seen heard t) r.is (asked_at seen heard) in
          let first = (heard_both o.heard (h.receipt.note ∷ []) seen heard).0 in record {
            asks = a.0;
            looked = a.1;
            told = told_both (length (generations_published seen)) o.new (last ∷ []) (o.told seen first) (below seen heard, tt);
          };
    };
    is = λ seen heard others. ap (λ (t : Resolved Task). line_at (generations_published seen) k line.0 t (all ++ others)) (sym r.is)
        ∙ line_is seen heard others;
  }

pub asked : (cabinet other : TableId) (k : Known) (line : Line) (x : Asked) (c d e : Clerk) (notes more most : List NoteValue) (look : Given)
    → Resolves k x.task (task_of k line.1) → GivesOwn cabinet x.task c notes x.got d more → (h : Gives other orders.Look d more look e most)
    → look.current ≡ Some x.current → IsAsked k line c notes x e most
asked cabinet other k line x c d e notes more most look r own h is =
    is_asked other k line x c d e notes more most look (own_part cabinet k line x.task c notes x.got d more own) h
    (ap value_in (sym h.current ∙ is)) r
