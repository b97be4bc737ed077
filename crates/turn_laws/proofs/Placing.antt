-- Which entries a joined history keeps, and where each private one stands.
use Rattle.std.proofs.Common.{◌≡◌, Bool, true, false, List, [], ◌∷◌, ◌++◌, map, arith, sym, refl, ap, ◌∙◌, subst, if◌then◌else◌, Option, Some, None}
use Rattle.std.specs.Prelude.{filter}
use Rattle.std.specs.Option.{option_or}
use Rattle.mem_base.specs.declared.machine.events.Event.{Event}
use Rattle.mem_base.specs.declared.machine.events.Event.TheVariants as events
use Rattle.mem_base.specs.declared.machine.events.HistoryEntry.{HistoryEntry}
use Rattle.mem_base.specs.machine.Histories.{last_of, first_of}
use Rattle.mem_base.specs.machine.History.{PureEntry}
use Rattle.mem_base.specs.machine.Turns.{is_writers, writers_of}
use Rattle.mem_base.specs.machine.JoinedHistory.{RowPart, next_entry, after_last, before_next, read, before_entry, at_once, past_at_once}
use Rattle.mem_base.specs.machine.JoinedHistory.{past_entry, put_in, is_private}
use Rattle.mem_base.proofs.BoolLaws.{true_is_not_false}

-- the private entries of a row are private events of the writer
abbrev pub ArePrivate : List RowPart → Type 0
ArePrivate [] = Unit {0}
ArePrivate (next_entry ∷ ps) = ArePrivate ps
ArePrivate (after_last x ∷ ps) = (is_private x.event ≡ true) × ArePrivate ps
ArePrivate (before_next x ∷ ps) = (is_private x.event ≡ true) × ArePrivate ps

-- and these are all of them
abbrev pub privates_in : List RowPart → List PureEntry
privates_in [] = []
privates_in (next_entry ∷ ps) = privates_in ps
privates_in (after_last x ∷ ps) = x ∷ privates_in ps
privates_in (before_next x ∷ ps) = x ∷ privates_in ps

-- the row has no more entries than these
abbrev pub Fits : List RowPart → List HistoryEntry → Type 0
Fits [] ws = Unit {0}
Fits (next_entry ∷ ps) [] = ⊥
Fits (next_entry ∷ ps) (w ∷ ws) = Fits ps ws
Fits (after_last x ∷ ps) ws = Fits ps ws
Fits (before_next x ∷ ps) ws = Fits ps ws

-- a row as a list of entries, and the entries left over
abbrev pub row_entries : List RowPart → List HistoryEntry → List PureEntry
row_entries [] ws = []
row_entries (next_entry ∷ ps) [] = []
row_entries (next_entry ∷ ps) (w ∷ ws) = read w ∷ row_entries ps ws
row_entries (after_last x ∷ ps) ws = x ∷ row_entries ps ws
row_entries (before_next x ∷ ps) ws = x ∷ row_entries ps ws

abbrev pub left_over : List RowPart → List HistoryEntry → List HistoryEntry
left_over [] ws = ws
left_over (next_entry ∷ ps) [] = []
left_over (next_entry ∷ ps) (w ∷ ws) = left_over ps ws
left_over (after_last x ∷ ps) ws = left_over ps ws
left_over (before_next x ∷ ps) ws = left_over ps ws

abbrev writers : List PureEntry → List PureEntry
writers ys = filter (λ y. is_writers y.event) ys

-- the last of a list

some_or : (o : Option PureEntry) (x : PureEntry) (p : Option PureEntry) → option_or (option_or o (Some x)) p ≡ option_or o (Some x)
some_or None x p = refl
some_or (Some y) x p = refl

last_cons : (x : PureEntry) (xs : List PureEntry) → last_of (x ∷ xs) ≡ option_or (last_of xs) (Some x)
last_cons x [] = refl
last_cons x (y ∷ ys) =
    let e = last_cons y ys in e ∙ sym (some_or (last_of ys) y (Some x)) ∙ ap (λ (o : Option PureEntry). option_or o (Some x)) (sym e)

last_longer : (x : PureEntry) (xs ys : List PureEntry) → last_of xs ≡ last_of ys → last_of (x ∷ xs) ≡ last_of (x ∷ ys)
last_longer x xs ys e = last_cons x xs ∙ ap (λ (o : Option PureEntry). option_or o (Some x)) e ∙ sym (last_cons x ys)

last_or : (x : PureEntry) (xs : List PureEntry) (p : Option PureEntry) → option_or (last_of (x ∷ xs)) p ≡ last_of (x ∷ xs)
last_or x xs p = let e = last_cons x xs in ap (λ (o : Option PureEntry). option_or o p) e ∙ some_or (last_of xs) x p ∙ sym e

-- a private entry in a row: one that waits for the writer's next entry, or one that stands directly after the last
abbrev pub private_at : Bool → PureEntry → RowPart
private_at true y = before_next y
private_at false y = after_last y

-- what one waits for comes next
abbrev pub Starts : Bool → List RowPart → Type 0
Starts true (next_entry ∷ ps) = Unit {0}
Starts true ps = ⊥
Starts false ps = Unit {0}

-- one that does not wait stands after something of its row
abbrev Opens : List RowPart → Bool → Type 0
Opens [] false = ⊥
Opens [] true = Unit {0}
Opens (p ∷ ps) late = Unit {0}

writers_cons : (y : PureEntry) (ys : List PureEntry) → is_writers y.event ≡ true → writers (y ∷ ys) ≡ y ∷ writers ys
writers_cons y ys e = ap (λ (b : Bool). if b then y ∷ writers ys else writers ys) e

writers_skip : (y : PureEntry) (ys : List PureEntry) → is_writers y.event ≡ false → writers (y ∷ ys) ≡ writers ys
writers_skip y ys e = ap (λ (b : Bool). if b then y ∷ writers ys else writers ys) e

is_private_writers : (x : PureEntry) → is_private x.event ≡ true → is_writers x.event ≡ true
is_private_writers x h = go x.event h
  where
    go : (e : Event) → is_private e ≡ true → is_writers e ≡ true
    go (events.Config k) h = refl
    go events.Reap h = refl
    go e h = absurd (grind arith)

-- an entry of a row stands at its place among these entries
pub record Placement (late : Bool) (y : PureEntry) (ps : List RowPart) (ws : List HistoryEntry) (ys : List PureEntry) : Type 0 where
  pub before : List PureEntry
  pub after : List PureEntry
  pub parts : ys ≡ before ++ y ∷ after
  pub row : writers before ≡ row_entries ps ws
  pub last : late ≡ false → last_of before ≡ last_of (row_entries ps ws)
  pub next : late ≡ true → first_of after ≡ first_of (map read (left_over ps ws))

-- where the row begins with it

first_at_end : (y : PureEntry) (late : Bool) (bs : List RowPart) → Starts late bs → Fits (private_at late y ∷ bs) []
    → Placement late y [] [] (before_entry (private_at late y ∷ bs))
first_at_end y true [] s f = absurd s
first_at_end y true (next_entry ∷ bs) s f = absurd f
first_at_end y true (after_last z ∷ bs) s f = absurd s
first_at_end y true (before_next z ∷ bs) s f = absurd s
first_at_end y false bs s f =
    record { before = []; after = before_entry bs; parts = refl; row = refl; last = λ h. refl; next = λ h. true_is_not_false true refl (sym h) }

first_at_entry : (y : PureEntry) (late : Bool) (bs : List RowPart) (xs ws : List HistoryEntry)
    → (Opens [] late → Placement late y [] ws (put_in (private_at late y ∷ bs) xs))
    → Placement late y [] ws (at_once (private_at late y ∷ bs) ++ put_in (past_at_once (private_at late y ∷ bs)) xs)
first_at_entry y true bs xs ws on = on tt
first_at_entry y false bs xs ws on = record {
  before = [];
  after = at_once bs ++ put_in (past_at_once bs) xs;
  parts = refl;
  row = refl;
  last = λ h. refl;
  next = λ h. true_is_not_false true refl (sym h);
}

-- the history where its next entry is the writer's
abbrev with_entry : List RowPart → HistoryEntry → List HistoryEntry → List PureEntry
with_entry ps x xs = before_entry ps ++ (read x ∷ at_once (past_entry ps)) ++ put_in (past_at_once (past_entry ps)) xs

first_before : (y : PureEntry) (late : Bool) (bs : List RowPart) (x : HistoryEntry) (xs ws : List HistoryEntry) → Starts late bs
    → Placement late y [] (x ∷ ws) (with_entry (private_at late y ∷ bs) x xs)
first_before y true [] x xs ws s = absurd s
first_before y true (next_entry ∷ bs) x xs ws s = record {
  before = [];
  after = (read x ∷ at_once bs) ++ put_in (past_at_once bs) xs;
  parts = refl;
  row = refl;
  last = λ h. refl;
  next = λ h. refl;
}
first_before y true (after_last z ∷ bs) x xs ws s = absurd s
first_before y true (before_next z ∷ bs) x xs ws s = absurd s
first_before y false bs x xs ws s = record {
  before = [];
  after = with_entry bs x xs;
  parts = refl;
  row = refl;
  last = λ h. refl;
  next = λ h. true_is_not_false true refl (sym h);
}

module _ (bs : List RowPart) (late : Bool) (y : PureEntry) (starts : Starts late bs) where
  abbrev with_rest : List RowPart → List RowPart
  with_rest ps = ps ++ private_at late y ∷ bs

  -- one more entry of the row before it
  later : (z : PureEntry) (ps qs : List RowPart) (ws vs : List HistoryEntry) (ys : List PureEntry) → is_writers z.event ≡ true
      → row_entries qs vs ≡ z ∷ row_entries ps ws → left_over qs vs ≡ left_over ps ws → Placement late y ps ws ys → Placement late y qs vs (z ∷ ys)
  later z ps qs ws vs ys mine e f k = record {
    before = z ∷ k.before;
    after = k.after;
    parts = ap (λ (zs : List PureEntry). z ∷ zs) k.parts;
    row = writers_cons z k.before mine ∙ ap (λ (zs : List PureEntry). z ∷ zs) k.row ∙ sym e;
    last = λ h. last_longer z k.before (row_entries ps ws) (k.last h) ∙ ap last_of (sym e);
    next = λ h. k.next h ∙ ap (λ (vs : List HistoryEntry). first_of (map read vs)) (sym f);
  }

  -- at the end of the history
  at_end : (ps : List RowPart) → ArePrivate ps → Fits (with_rest ps) [] → Placement late y ps [] (before_entry (with_rest ps))
  at_end [] k f = first_at_end y late bs starts f
  at_end (next_entry ∷ ps) k f = absurd f
  at_end (after_last z ∷ ps) k f = later z ps (after_last z ∷ ps) [] [] _ (is_private_writers z k.0) refl refl (at_end ps k.1 f)
  at_end (before_next z ∷ ps) k f = later z ps (before_next z ∷ ps) [] [] _ (is_private_writers z k.0) refl refl (at_end ps k.1 f)

  module _ (xs ws : List HistoryEntry)
      (on : (ps : List RowPart) → ArePrivate ps → Fits (with_rest ps) ws → Opens ps late → Placement late y ps ws (put_in (with_rest ps) xs)) where
    -- directly after an entry of the writer
    at_entry : (ps : List RowPart) → ArePrivate ps → Fits (with_rest ps) ws
        → Placement late y ps ws (at_once (with_rest ps) ++ put_in (past_at_once (with_rest ps)) xs)
    at_entry [] k f = first_at_entry y late bs xs ws (on [] tt f)
    at_entry (next_entry ∷ ps) k f = on (next_entry ∷ ps) k f tt
    at_entry (after_last z ∷ ps) k f = later z ps (after_last z ∷ ps) ws ws _ (is_private_writers z k.0) refl refl (at_entry ps k.1 f)
    at_entry (before_next z ∷ ps) k f = on (before_next z ∷ ps) k f tt

    -- before an entry of the writer
    before_writers : (x : HistoryEntry) → is_writers x.event ≡ true → (ps : List RowPart) → ArePrivate ps → Fits (with_rest ps) (x ∷ ws)
        → Placement late y ps (x ∷ ws) (with_entry (with_rest ps) x xs)
    before_writers x mine [] k f = first_before y late bs x xs ws starts
    before_writers x mine (next_entry ∷ ps) k f = later (read x) ps (next_entry ∷ ps) ws (x ∷ ws) _ mine refl refl (at_entry ps k f)
    before_writers x mine (after_last z ∷ ps) k f =
        later z ps (after_last z ∷ ps) (x ∷ ws) (x ∷ ws) _ (is_private_writers z k.0) refl refl (before_writers x mine ps k.1 f)
    before_writers x mine (before_next z ∷ ps) k f =
        later z ps (before_next z ∷ ps) (x ∷ ws) (x ∷ ws) _ (is_private_writers z k.0) refl refl (before_writers x mine ps k.1 f)

  -- what is not empty has a last entry
  row_last : (ps : List RowPart) (ws : List HistoryEntry) (p : Option PureEntry) → late ≡ false → Opens ps late → Fits (with_rest ps) ws
      → option_or (last_of (row_entries ps ws)) p ≡ last_of (row_entries ps ws)
  row_last [] ws p h o f = absurd (subst (Opens []) h o)
  row_last (next_entry ∷ ps) [] p h o f = absurd f
  row_last (next_entry ∷ ps) (w ∷ ws) p h o f = last_or (read w) (row_entries ps ws) p
  row_last (after_last z ∷ ps) ws p h o f = last_or z (row_entries ps ws) p
  row_last (before_next z ∷ ps) ws p h o f = last_or z (row_entries ps ws) p

  -- a pass's entry before it
  passes_by : (x : HistoryEntry) (ps : List RowPart) (ws : List HistoryEntry) (ys : List PureEntry) → is_writers x.event ≡ false → Opens ps late
      → Fits (with_rest ps) ws
      → Placement late y ps ws ys → Placement late y ps ws (read x ∷ ys)
  passes_by x ps ws ys other o f k = record {
    before = read x ∷ k.before;
    after = k.after;
    parts = ap (λ (zs : List PureEntry). read x ∷ zs) k.parts;
    row = writers_skip (read x) k.before other ∙ k.row;
    last = λ h. last_cons (read x) k.before ∙ ap (λ (l : Option PureEntry). option_or l (Some (read x))) (k.last h)
        ∙ row_last ps ws (Some (read x)) h o f ∙ sym (k.last h) ∙ k.last h;
    next = k.next;
  }

  -- the history with all put in
  placed : (xs : List HistoryEntry) (ps : List RowPart) → ArePrivate ps → Fits (with_rest ps) (writers_of xs) → Opens ps late
      → Placement late y ps (writers_of xs) (put_in (with_rest ps) xs)
  placed [] ps k f o = at_end ps k f
  placed (x ∷ xs) ps k f o = go (is_writers x.event) refl f (placed xs)
    where
      go : (b : Bool) → is_writers x.event ≡ b → Fits (with_rest ps) (if b then x ∷ writers_of xs else writers_of xs)
          → ((ps : List RowPart) → ArePrivate ps → Fits (with_rest ps) (writers_of xs) → Opens ps late → Placement late y ps (writers_of xs)
          (put_in (with_rest ps) xs))
          → Placement late y ps (if b then x ∷ writers_of xs else writers_of xs)
          (if b then with_entry (with_rest ps) x xs else read x ∷ put_in (with_rest ps) xs)
      go true e f on = before_writers xs (writers_of xs) on x e ps k f
      go false e f on = passes_by x ps (writers_of xs) (put_in (with_rest ps) xs) e o f (on ps k f o)

  pub placed_all : (xs : List HistoryEntry) (ps : List RowPart) → ArePrivate ps → Fits (with_rest ps) (writers_of xs)
      → Placement late y ps (writers_of xs) (at_once (with_rest ps) ++ put_in (past_at_once (with_rest ps)) xs)
  placed_all xs ps k f = at_entry xs (writers_of xs) (placed xs) ps k f
