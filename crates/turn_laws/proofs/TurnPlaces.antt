-- A joined history keeps the entries of the shared history and of the turns, and each private one stands at its place.
use Rattle.std.proofs.Common.{◌≡◌, Bool, true, false, ◌&&◌, List, [], ◌∷◌, ◌++◌, map, length, append_assoc, arith, ne_eqb, sym, refl, ap, append-nil}
use Rattle.std.proofs.Common.{◌∙◌, subst, if◌then◌else◌, Some}
use Rattle.std.specs.Prelude.{flat_map, filter, not, ◌==◌}
use Rattle.mem_base.specs.declared.machine.events.Event.{Event}
use Rattle.mem_base.specs.declared.machine.events.Event.TheVariants as events
use Rattle.mem_base.specs.declared.machine.events.Carried.{Carried}
use Rattle.mem_base.specs.declared.machine.events.Carried.TheVariants.{Nothing, Edition, At}
use Rattle.mem_base.specs.declared.machine.events.HistoryEntry.{HistoryEntry}
use Rattle.mem_base.specs.lists.Every.{Every}
use Rattle.mem_base.specs.machine.Histories.{last_of, first_of}
use Rattle.mem_base.specs.machine.History.{PureEntry}
use Rattle.mem_base.specs.machine.SharedHistory.{Shared}
use Rattle.mem_base.specs.machine.SharedHistory as running
use Rattle.mem_base.specs.machine.Turns.{WriterCall, entries_of_turn, is_writers, writers_of}
use Rattle.mem_base.specs.machine.JoinedHistory.{RowPart, next_entry, after_last, before_next, read, waits_for_fill, private_part, row_of}
use Rattle.mem_base.specs.machine.JoinedHistory.{before_entry, at_once, past_at_once, past_entry, put_in, joined_history, is_private}
use Rattle.mem_base.specs.machine.JoinedHistory.{shared_entries, private_entries_in, IsWritersOrNone, StandsBeside, IsPlaced}
use Rattle.mem_base.proofs.EveryLaws.{every_filter, every_first}
use Rattle.turn_laws.proofs.Placing.{ArePrivate, privates_in, Fits, row_entries, left_over, private_at, Starts, Placement, placed_all}
use Rattle.view_laws.proofs.Projections.{filter_swap}

-- lists

filter_both : {A : Type 0} (test : A → Bool) (xs ys : List A) → filter test (xs ++ ys) ≡ filter test xs ++ filter test ys
filter_both test [] ys = refl
filter_both test (x ∷ xs) ys = go (test x) (filter_both test xs ys)
  where
    go : (b : Bool) → filter test (xs ++ ys) ≡ filter test xs ++ filter test ys
        → (if b then x ∷ filter test (xs ++ ys) else filter test (xs ++ ys)) ≡ (if b then x ∷ filter test xs else filter test xs) ++ filter test ys
    go true rest = ap (λ (zs : List _). x ∷ zs) rest
    go false rest = rest

flat_both : {A B : Type 0} (f : A → List B) (xs ys : List A) → flat_map f (xs ++ ys) ≡ flat_map f xs ++ flat_map f ys
flat_both f [] ys = refl
flat_both f (x ∷ xs) ys = ap (λ (zs : List _). f x ++ zs) (flat_both f xs ys) ∙ sym (append_assoc (f x) (flat_map f xs) (flat_map f ys))

-- what is private and what is shared

abbrev AreShared : List HistoryEntry → Type 0
AreShared xs = Every (λ x. is_private x.event ≡ false) xs

shared_cons : (y : PureEntry) (ys : List PureEntry) → is_private y.event ≡ false → shared_entries (y ∷ ys) ≡ y ∷ shared_entries ys
shared_cons y ys e = ap (λ (b : Bool). if not b then y ∷ shared_entries ys else shared_entries ys) e

shared_skip : (y : PureEntry) (ys : List PureEntry) → is_private y.event ≡ true → shared_entries (y ∷ ys) ≡ shared_entries ys
shared_skip y ys e = ap (λ (b : Bool). if not b then y ∷ shared_entries ys else shared_entries ys) e

private_cons : (y : PureEntry) (ys : List PureEntry) → is_private y.event ≡ true → private_entries_in (y ∷ ys) ≡ y ∷ private_entries_in ys
private_cons y ys e = ap (λ (b : Bool). if b then y ∷ private_entries_in ys else private_entries_in ys) e

private_skip : (y : PureEntry) (ys : List PureEntry) → is_private y.event ≡ false → private_entries_in (y ∷ ys) ≡ private_entries_in ys
private_skip y ys e = ap (λ (b : Bool). if b then y ∷ private_entries_in ys else private_entries_in ys) e

-- the parts of a row that stand together

none_before : (ps : List RowPart) → ArePrivate ps → shared_entries (before_entry ps) ≡ []
none_before [] k = refl
none_before (next_entry ∷ ps) k = refl
none_before (after_last x ∷ ps) k = shared_skip x (before_entry ps) k.0 ∙ none_before ps k.1
none_before (before_next x ∷ ps) k = shared_skip x (before_entry ps) k.0 ∙ none_before ps k.1

none_at_once : (ps : List RowPart) → ArePrivate ps → shared_entries (at_once ps) ≡ []
none_at_once [] k = refl
none_at_once (next_entry ∷ ps) k = refl
none_at_once (after_last x ∷ ps) k = shared_skip x (at_once ps) k.0 ∙ none_at_once ps k.1
none_at_once (before_next x ∷ ps) k = refl

all_before : (ps : List RowPart) → ArePrivate ps → private_entries_in (before_entry ps) ≡ before_entry ps
all_before [] k = refl
all_before (next_entry ∷ ps) k = refl
all_before (after_last x ∷ ps) k = private_cons x (before_entry ps) k.0 ∙ ap (λ (ys : List PureEntry). x ∷ ys) (all_before ps k.1)
all_before (before_next x ∷ ps) k = private_cons x (before_entry ps) k.0 ∙ ap (λ (ys : List PureEntry). x ∷ ys) (all_before ps k.1)

all_at_once : (ps : List RowPart) → ArePrivate ps → private_entries_in (at_once ps) ≡ at_once ps
all_at_once [] k = refl
all_at_once (next_entry ∷ ps) k = refl
all_at_once (after_last x ∷ ps) k = private_cons x (at_once ps) k.0 ∙ ap (λ (ys : List PureEntry). x ∷ ys) (all_at_once ps k.1)
all_at_once (before_next x ∷ ps) k = refl

private_past_entry : (ps : List RowPart) → ArePrivate ps → ArePrivate (past_entry ps)
private_past_entry [] k = tt
private_past_entry (next_entry ∷ ps) k = k
private_past_entry (after_last x ∷ ps) k = private_past_entry ps k.1
private_past_entry (before_next x ∷ ps) k = private_past_entry ps k.1

private_past_once : (ps : List RowPart) → ArePrivate ps → ArePrivate (past_at_once ps)
private_past_once [] k = k
private_past_once (next_entry ∷ ps) k = k
private_past_once (after_last x ∷ ps) k = private_past_once ps k.1
private_past_once (before_next x ∷ ps) k = k

fits_past_entry : (ps : List RowPart) (w : HistoryEntry) (ws : List HistoryEntry) → Fits ps (w ∷ ws) → Fits (past_entry ps) ws
fits_past_entry [] w ws f = tt
fits_past_entry (next_entry ∷ ps) w ws f = f
fits_past_entry (after_last x ∷ ps) w ws f = fits_past_entry ps w ws f
fits_past_entry (before_next x ∷ ps) w ws f = fits_past_entry ps w ws f

fits_past_once : (ps : List RowPart) (ws : List HistoryEntry) → Fits ps ws → Fits (past_at_once ps) ws
fits_past_once [] ws f = f
fits_past_once (next_entry ∷ ps) ws f = f
fits_past_once (after_last x ∷ ps) ws f = fits_past_once ps ws f
fits_past_once (before_next x ∷ ps) ws f = f

privates_at_entry : (ps : List RowPart) → before_entry ps ++ privates_in (past_entry ps) ≡ privates_in ps
privates_at_entry [] = refl
privates_at_entry (next_entry ∷ ps) = refl
privates_at_entry (after_last x ∷ ps) = ap (λ (ys : List PureEntry). x ∷ ys) (privates_at_entry ps)
privates_at_entry (before_next x ∷ ps) = ap (λ (ys : List PureEntry). x ∷ ys) (privates_at_entry ps)

privates_at_once : (ps : List RowPart) → at_once ps ++ privates_in (past_at_once ps) ≡ privates_in ps
privates_at_once [] = refl
privates_at_once (next_entry ∷ ps) = refl
privates_at_once (after_last x ∷ ps) = ap (λ (ys : List PureEntry). x ∷ ys) (privates_at_once ps)
privates_at_once (before_next x ∷ ps) = refl

privates_at_end : (ps : List RowPart) → Fits ps [] → before_entry ps ≡ privates_in ps
privates_at_end [] f = refl
privates_at_end (next_entry ∷ ps) f = absurd f
privates_at_end (after_last x ∷ ps) f = ap (λ (ys : List PureEntry). x ∷ ys) (privates_at_end ps f)
privates_at_end (before_next x ∷ ps) f = ap (λ (ys : List PureEntry). x ∷ ys) (privates_at_end ps f)

-- the history with all put in has the shared entries, and the private ones of the row

abbrev not_private : PureEntry → Bool
not_private y = not (is_private y.event)

keeps_shared : (xs : List HistoryEntry) (ps : List RowPart) → ArePrivate ps → AreShared xs → shared_entries (put_in ps xs) ≡ map read xs
keeps_shared [] ps k s = none_before ps k
keeps_shared (x ∷ xs) ps k s = go (is_writers x.event) (λ qs m. keeps_shared xs qs m s.1)
  where
    go : (b : Bool) → ((qs : List RowPart) → ArePrivate qs → shared_entries (put_in qs xs) ≡ map read xs)
        → shared_entries (if b then before_entry ps ++ (read x ∷ at_once (past_entry ps)) ++ put_in (past_at_once (past_entry ps)) xs
        else read x ∷ put_in ps xs) ≡ map read (x ∷ xs)
    go true on = let q = past_entry ps in let m = private_past_entry ps k in
        filter_both not_private (before_entry ps ++ (read x ∷ at_once q)) (put_in (past_at_once q) xs)
        ∙ ap (λ (zs : List PureEntry). zs ++ shared_entries (put_in (past_at_once q) xs))
        (filter_both not_private (before_entry ps) (read x ∷ at_once q) ∙ ap (λ (zs : List PureEntry). zs ++ shared_entries (read x ∷ at_once q))
        (none_before ps k)
        ∙ shared_cons (read x) (at_once q) s.0 ∙ ap (λ (zs : List PureEntry). read x ∷ zs) (none_at_once q m))
        ∙ ap (λ (zs : List PureEntry). read x ∷ zs) (on (past_at_once q) (private_past_once q m))
    go false on = shared_cons (read x) (put_in ps xs) s.0 ∙ ap (λ (zs : List PureEntry). read x ∷ zs) (on ps k)

keeps_private : (xs : List HistoryEntry) (ps : List RowPart) → ArePrivate ps → AreShared xs → Fits ps (writers_of xs)
    → private_entries_in (put_in ps xs) ≡ privates_in ps
keeps_private [] ps k s f = all_before ps k ∙ privates_at_end ps f
keeps_private (x ∷ xs) ps k s f = go (is_writers x.event) f (λ qs m g. keeps_private xs qs m s.1 g)
  where
    go : (b : Bool) → Fits ps (if b then x ∷ writers_of xs else writers_of xs)
        → ((qs : List RowPart) → ArePrivate qs → Fits qs (writers_of xs) → private_entries_in (put_in qs xs) ≡ privates_in qs)
        → private_entries_in (if b then before_entry ps ++ (read x ∷ at_once (past_entry ps)) ++ put_in (past_at_once (past_entry ps)) xs
        else read x ∷ put_in ps xs) ≡ privates_in ps
    go true f on = let q = past_entry ps in let m = private_past_entry ps k in
        filter_both (λ y. is_private y.event) (before_entry ps ++ (read x ∷ at_once q)) (put_in (past_at_once q) xs)
        ∙ ap (λ (zs : List PureEntry). zs ++ private_entries_in (put_in (past_at_once q) xs))
        (filter_both (λ y. is_private y.event) (before_entry ps) (read x ∷ at_once q)
        ∙ ap (λ (zs : List PureEntry). zs ++ private_entries_in (read x ∷ at_once q)) (all_before ps k)
        ∙ ap (λ (zs : List PureEntry). before_entry ps ++ zs) (private_skip (read x) (at_once q) s.0 ∙ all_at_once q m))
        ∙ ap (λ (zs : List PureEntry). (before_entry ps ++ at_once q) ++ zs)
        (on (past_at_once q) (private_past_once q m) (fits_past_once q (writers_of xs) (fits_past_entry ps x (writers_of xs) f)))
        ∙ append_assoc (before_entry ps) (at_once q) (privates_in (past_at_once q))
        ∙ ap (λ (zs : List PureEntry). before_entry ps ++ zs) (privates_at_once q) ∙ privates_at_entry ps
    go false f on = private_skip (read x) (put_in ps xs) s.0 ∙ on ps k f

-- rows of turns

-- the row stands for just these entries of the writer
abbrev IsRowOf : List RowPart → List HistoryEntry → Type 0
IsRowOf [] [] = Unit {0}
IsRowOf [] (w ∷ ws) = ⊥
IsRowOf (next_entry ∷ ps) [] = ⊥
IsRowOf (next_entry ∷ ps) (w ∷ ws) = IsRowOf ps ws
IsRowOf (after_last x ∷ ps) ws = IsRowOf ps ws
IsRowOf (before_next x ∷ ps) ws = IsRowOf ps ws

rows_both : (ps qs : List RowPart) (us ws : List HistoryEntry) → IsRowOf ps us → IsRowOf qs ws → IsRowOf (ps ++ qs) (us ++ ws)
rows_both [] qs [] ws h k = k
rows_both [] qs (u ∷ us) ws h k = absurd h
rows_both (next_entry ∷ ps) qs [] ws h k = absurd h
rows_both (next_entry ∷ ps) qs (u ∷ us) ws h k = rows_both ps qs us ws h k
rows_both (after_last x ∷ ps) qs us ws h k = rows_both ps qs us ws h k
rows_both (before_next x ∷ ps) qs us ws h k = rows_both ps qs us ws h k

nexts_row : (ws : List HistoryEntry) → IsRowOf (map (λ x. next_entry) ws) ws
nexts_row [] = tt
nexts_row (w ∷ ws) = nexts_row ws

row_fits : (ps : List RowPart) (ws : List HistoryEntry) → IsRowOf ps ws → Fits ps ws
row_fits [] ws h = tt
row_fits (next_entry ∷ ps) [] h = h
row_fits (next_entry ∷ ps) (w ∷ ws) h = row_fits ps ws h
row_fits (after_last x ∷ ps) ws h = row_fits ps ws h
row_fits (before_next x ∷ ps) ws h = row_fits ps ws h

row_shared : (ps : List RowPart) (us ws : List HistoryEntry) → IsRowOf ps us → ArePrivate ps → AreShared us
    → shared_entries (row_entries ps (us ++ ws)) ≡ map read us
row_shared [] [] ws h k s = refl
row_shared [] (u ∷ us) ws h k s = absurd h
row_shared (next_entry ∷ ps) [] ws h k s = absurd h
row_shared (next_entry ∷ ps) (u ∷ us) ws h k s = shared_cons (read u) (row_entries ps (us ++ ws)) s.0
    ∙ ap (λ (zs : List PureEntry). read u ∷ zs) (row_shared ps us ws h k s.1)
row_shared (after_last x ∷ ps) us ws h k s = shared_skip x (row_entries ps (us ++ ws)) k.0 ∙ row_shared ps us ws h k.1 s
row_shared (before_next x ∷ ps) us ws h k s = shared_skip x (row_entries ps (us ++ ws)) k.0 ∙ row_shared ps us ws h k.1 s

row_left : (ps : List RowPart) (us ws : List HistoryEntry) → IsRowOf ps us → left_over ps (us ++ ws) ≡ ws
row_left [] [] ws h = refl
row_left [] (u ∷ us) ws h = absurd h
row_left (next_entry ∷ ps) [] ws h = absurd h
row_left (next_entry ∷ ps) (u ∷ us) ws h = row_left ps us ws h
row_left (after_last x ∷ ps) us ws h = row_left ps us ws h
row_left (before_next x ∷ ps) us ws h = row_left ps us ws h

-- the last of a row that ends in an entry of the writer
last_both : (xs : List PureEntry) (y : PureEntry) (ys : List PureEntry) → last_of (xs ++ y ∷ ys) ≡ last_of (y ∷ ys)
last_both [] y ys = refl
last_both (x ∷ []) y ys = refl
last_both (x ∷ z ∷ xs) y ys = last_both (z ∷ xs) y ys

rows_entries : (ps qs : List RowPart) (us ws : List HistoryEntry) → IsRowOf ps us → row_entries (ps ++ qs) (us ++ ws) ≡ row_entries ps us ++ row_entries qs ws
rows_entries [] qs [] ws h = refl
rows_entries [] qs (u ∷ us) ws h = absurd h
rows_entries (next_entry ∷ ps) qs [] ws h = absurd h
rows_entries (next_entry ∷ ps) qs (u ∷ us) ws h = ap (λ (zs : List PureEntry). read u ∷ zs) (rows_entries ps qs us ws h)
rows_entries (after_last x ∷ ps) qs us ws h = ap (λ (zs : List PureEntry). x ∷ zs) (rows_entries ps qs us ws h)
rows_entries (before_next x ∷ ps) qs us ws h = ap (λ (zs : List PureEntry). x ∷ zs) (rows_entries ps qs us ws h)

nexts_entries : (us ws : List HistoryEntry) → row_entries (map (λ x. next_entry) us) (us ++ ws) ≡ map read us
nexts_entries [] ws = refl
nexts_entries (u ∷ us) ws = ap (λ (zs : List PureEntry). read u ∷ zs) (nexts_entries us ws)

private_row : (t : WriterCall) (ys : List PureEntry) → IsRowOf (map (private_part t) ys) []
private_row t [] = tt
private_row t (y ∷ ys) = go (waits_for_fill t) (private_row t ys)
  where
    go : (b : Bool) → IsRowOf (map (private_part t) ys) [] → IsRowOf ((if b then before_next y else after_last y) ∷ map (private_part t) ys) []
    go true rest = rest
    go false rest = rest

abbrev pub PrivateCall : WriterCall → Type 0
PrivateCall t = Every (λ y. is_private y.event ≡ true) t.private

row_private : (t : WriterCall) (ys : List PureEntry) → Every (λ y. is_private y.event ≡ true) ys → ArePrivate (map (private_part t) ys)
row_private t [] k = tt
row_private t (y ∷ ys) k = go (waits_for_fill t) (row_private t ys k.1)
  where
    go : (b : Bool) → ArePrivate (map (private_part t) ys) → ArePrivate ((if b then before_next y else after_last y) ∷ map (private_part t) ys)
    go true rest = (k.0, rest)
    go false rest = (k.0, rest)

private_both : (ps qs : List RowPart) → ArePrivate ps → ArePrivate qs → ArePrivate (ps ++ qs)
private_both [] qs h k = k
private_both (next_entry ∷ ps) qs h k = private_both ps qs h k
private_both (after_last x ∷ ps) qs h k = (h.0, private_both ps qs h.1 k)
private_both (before_next x ∷ ps) qs h k = (h.0, private_both ps qs h.1 k)

nexts_private : (ws : List HistoryEntry) → ArePrivate (map (λ x. next_entry) ws)
nexts_private [] = tt
nexts_private (w ∷ ws) = nexts_private ws

privates_both : (ps qs : List RowPart) → privates_in (ps ++ qs) ≡ privates_in ps ++ privates_in qs
privates_both [] qs = refl
privates_both (next_entry ∷ ps) qs = privates_both ps qs
privates_both (after_last x ∷ ps) qs = ap (λ (zs : List PureEntry). x ∷ zs) (privates_both ps qs)
privates_both (before_next x ∷ ps) qs = ap (λ (zs : List PureEntry). x ∷ zs) (privates_both ps qs)

nexts_none : (ws : List HistoryEntry) → privates_in (map (λ x. next_entry) ws) ≡ []
nexts_none [] = refl
nexts_none (w ∷ ws) = nexts_none ws

private_all : (t : WriterCall) (ys : List PureEntry) → privates_in (map (private_part t) ys) ≡ ys
private_all t [] = refl
private_all t (y ∷ ys) = go (waits_for_fill t) (private_all t ys)
  where
    go : (b : Bool) → privates_in (map (private_part t) ys) ≡ ys → privates_in ((if b then before_next y else after_last y) ∷ map (private_part t) ys) ≡ y ∷ ys
    go true rest = ap (λ (zs : List PureEntry). y ∷ zs) rest
    go false rest = ap (λ (zs : List PureEntry). y ∷ zs) rest

-- of one turn, and of all

turn_row : (t : WriterCall) → IsRowOf (row_of t) (entries_of_turn t)
turn_row t = subst (λ (us : List HistoryEntry). IsRowOf (row_of t) (us ++ t.after)) (append-nil t.before)
    (rows_both (map (λ x. next_entry) t.before ++ map (private_part t) t.private) (map (λ x. next_entry) t.after) (t.before ++ []) t.after
    (rows_both (map (λ x. next_entry) t.before) (map (private_part t) t.private) t.before [] (nexts_row t.before) (private_row t t.private))
    (nexts_row t.after))

turns_row : (ts : List WriterCall) → IsRowOf (flat_map row_of ts) (flat_map entries_of_turn ts)
turns_row [] = tt
turns_row (t ∷ ts) = rows_both (row_of t) (flat_map row_of ts) (entries_of_turn t) (flat_map entries_of_turn ts) (turn_row t) (turns_row ts)

turns_private : (ts : List WriterCall) → Every PrivateCall ts → ArePrivate (flat_map row_of ts)
turns_private [] k = tt
turns_private (t ∷ ts) k = private_both (row_of t) (flat_map row_of ts)
    (private_both (map (λ x. next_entry) t.before ++ map (private_part t) t.private) (map (λ x. next_entry) t.after)
    (private_both (map (λ x. next_entry) t.before) (map (private_part t) t.private) (nexts_private t.before) (row_private t t.private k.0))
    (nexts_private t.after))
    (turns_private ts k.1)

turn_privates : (t : WriterCall) → privates_in (row_of t) ≡ t.private
turn_privates t =
    privates_both (map (λ x. next_entry) t.before ++ map (private_part t) t.private) (map (λ x. next_entry) t.after)
    ∙ ap (λ (zs : List PureEntry). zs ++ privates_in (map (λ x. next_entry) t.after))
    (privates_both (map (λ x. next_entry) t.before) (map (private_part t) t.private)
    ∙ ap (λ (zs : List PureEntry). zs ++ privates_in (map (private_part t) t.private)) (nexts_none t.before) ∙ private_all t t.private)
    ∙ ap (λ (zs : List PureEntry). t.private ++ zs) (nexts_none t.after) ∙ append-nil t.private

turns_privates : (ts : List WriterCall) → privates_in (flat_map row_of ts) ≡ flat_map (λ t. t.private) ts
turns_privates [] = refl
turns_privates (t ∷ ts) = privates_both (row_of t) (flat_map row_of ts) ∙ ap (λ (zs : List PureEntry). zs ++ privates_in (flat_map row_of ts)) (turn_privates t)
    ∙ ap (λ (zs : List PureEntry). t.private ++ zs) (turns_privates ts)

-- shared events are not private
shared_event : (s : Shared) (e : Event) (x : Carried) → running.shared_possible s e x ≡ true → is_private e ≡ false
shared_event s (events.Config k) Nothing h = absurd (grind arith)
shared_event s (events.Config k) (Edition f ps) h = absurd (grind arith)
shared_event s (events.Config k) (At p) h = absurd (grind arith)
shared_event s events.Reap Nothing h = absurd (grind arith)
shared_event s events.Reap (Edition f ps) h = absurd (grind arith)
shared_event s events.Reap (At p) h = absurd (grind arith)
shared_event s e x h = refl

pub all_shared : (xs : List HistoryEntry) (s : Shared) → running.IsSharedLegalFrom s xs → AreShared xs
all_shared [] s l = tt
all_shared (x ∷ xs) s l = (shared_event s x.event x.carried l.0, all_shared xs (running.after_shared_entry s x) l.2)

-- what a test lets through last passes it
last_writer_of : (ys : List PureEntry) → IsWritersOrNone (last_of (filter (λ y. is_writers y.event) ys))
last_writer_of ys = go (filter (λ y. is_writers y.event) ys) (passes ys)
  where
    passes : (ys : List PureEntry) → Every (λ y. is_writers y.event ≡ true) (filter (λ y. is_writers y.event) ys)
    passes [] = tt
    passes (y ∷ ys) = at (is_writers y.event) refl (passes ys)
      where
        at : (b : Bool) → is_writers y.event ≡ b → Every (λ y. is_writers y.event ≡ true) (filter (λ y. is_writers y.event) ys)
            → Every (λ y. is_writers y.event ≡ true) (if b then y ∷ filter (λ y. is_writers y.event) ys else filter (λ y. is_writers y.event) ys)
        at true e rest = (e, rest)
        at false e rest = rest

    go : (zs : List PureEntry) → Every (λ y. is_writers y.event ≡ true) zs → IsWritersOrNone (last_of zs)
    go [] h = tt
    go (z ∷ []) h = h.0
    go (z ∷ y ∷ zs) h = go (y ∷ zs) h.1

first_both : (x : HistoryEntry) (xs ys : List HistoryEntry) → first_of (map read ((x ∷ xs) ++ ys)) ≡ Some (read x)
first_both x xs ys = refl

long : (x : HistoryEntry) (xs : List HistoryEntry) → (length (x ∷ xs) == 0) ≡ false
long x xs = ne_eqb (length (x ∷ xs)) 0 (λ z. omega arith)

some_length : (x : HistoryEntry) (xs : List HistoryEntry) → not (length (x ∷ xs) == 0) ≡ true
some_length x xs = ap not (long x xs)

-- what stands beside a private entry
beside_it : (sweeps fills ws : List HistoryEntry) (ps : List RowPart) (us : List HistoryEntry) (y : PureEntry) (ys : List PureEntry) → IsRowOf ps us
    → (k : Placement ((length sweeps == 0) && not (length fills == 0)) y (ps ++ map (λ x. next_entry) sweeps) (us ++ sweeps ++ (fills ++ ws)) ys)
    → StandsBeside sweeps fills k.before k.after
beside_it [] [] ws ps us y ys h k =
    subst IsWritersOrNone (ap last_of k.row ∙ sym (k.last refl)) (last_writer_of k.before)
beside_it [] (c ∷ cs) ws ps us y ys h k =
    let same : left_over (ps ++ []) ((us ++ []) ++ ((c ∷ cs) ++ ws)) ≡ (c ∷ cs) ++ ws =
    row_left (ps ++ []) (us ++ []) ((c ∷ cs) ++ ws) (rows_both ps [] us [] h tt) in
    k.next (some_length c cs) ∙ ap (λ (vs : List HistoryEntry). first_of (map read vs)) same
beside_it (s ∷ ss) fills ws ps us y ys h k =
    k.last (ap (λ (b : Bool). b && not (length fills == 0)) (long s ss))
    ∙ ap (λ (vs : List HistoryEntry). last_of (row_entries (ps ++ map (λ x. next_entry) (s ∷ ss)) vs)) (append_assoc us (s ∷ ss) (fills ++ ws))
    ∙ ap last_of (rows_entries ps (map (λ x. next_entry) (s ∷ ss)) us ((s ∷ ss) ++ (fills ++ ws)) h
    ∙ ap (λ (zs : List PureEntry). row_entries ps us ++ zs) (nexts_entries (s ∷ ss) (fills ++ ws)))
    ∙ last_both (row_entries ps us) (read s) (map read ss)

starts_with : (t : WriterCall) (qs : List RowPart) → Starts (waits_for_fill t) (map (λ x. next_entry) t.after ++ qs)
starts_with t qs = go t.before t.after
  where
    go : (sweeps fills : List HistoryEntry) → Starts ((length sweeps == 0) && not (length fills == 0)) (map (λ x. next_entry) fills ++ qs)
    go [] [] = tt
    go [] (c ∷ cs) = subst (λ (b : Bool). Starts b (next_entry ∷ map (λ x. next_entry) cs ++ qs)) (sym (some_length c cs)) tt
    go (s ∷ ss) fills = subst (λ (b : Bool). Starts (b && not (length fills == 0)) (map (λ x. next_entry) fills ++ qs)) (sym (long s ss)) tt

part_is : (t : WriterCall) (y : PureEntry) → private_part t y ≡ private_at (waits_for_fill t) y
part_is t y = go (waits_for_fill t)
  where
    go : (b : Bool) → (if b then before_next y else after_last y) ≡ private_at b y
    go true = refl
    go false = refl

-- the row of all turns, cut at a private entry
row_cut : (done rest : List WriterCall) (t : WriterCall) (y : PureEntry) → t.private ≡ y ∷ []
    → flat_map row_of (done ++ t ∷ rest) ≡ (flat_map row_of done ++ map (λ x. next_entry) t.before) ++ private_at (waits_for_fill t) y
    ∷ (map (λ x. next_entry) t.after ++ flat_map row_of rest)
row_cut done rest t y one =
    let before = map (λ (x : HistoryEntry). next_entry) t.before in let later = map (λ (x : HistoryEntry). next_entry) t.after in
    let mine : row_of t ≡ (before ++ private_at (waits_for_fill t) y ∷ []) ++ later =
    ap (λ (ys : List PureEntry). (before ++ map (private_part t) ys) ++ later) one ∙ ap (λ (p : RowPart). (before ++ p ∷ []) ++ later) (part_is t y) in
    flat_both row_of done (t ∷ rest)
    ∙ ap (λ (ps : List RowPart). flat_map row_of done ++ (ps ++ flat_map row_of rest)) mine
    ∙ ap (λ (ps : List RowPart). flat_map row_of done ++ ps)
    (append_assoc (before ++ private_at (waits_for_fill t) y ∷ []) later (flat_map row_of rest)
    ∙ append_assoc before (private_at (waits_for_fill t) y ∷ []) (later ++ flat_map row_of rest))
    ∙ sym (append_assoc (flat_map row_of done) before (private_at (waits_for_fill t) y ∷ (later ++ flat_map row_of rest)))

-- the writer's entries, cut there
entries_cut : (done rest : List WriterCall) (t : WriterCall)
    → flat_map entries_of_turn (done ++ t ∷ rest) ≡ flat_map entries_of_turn done ++ t.before ++ (t.after ++ flat_map entries_of_turn rest)
entries_cut done rest t =
    flat_both entries_of_turn done (t ∷ rest)
    ∙ ap (λ (zs : List HistoryEntry). flat_map entries_of_turn done ++ zs) (append_assoc t.before t.after (flat_map entries_of_turn rest))
    ∙ sym (append_assoc (flat_map entries_of_turn done) t.before (t.after ++ flat_map entries_of_turn rest))

every_left_calls : (done rest : List WriterCall) → Every PrivateCall (done ++ rest) → Every PrivateCall done
every_left_calls done rest h = every_first PrivateCall done rest h

-- the private entry of each turn stands at its place
pub turn_placed : (ts : List WriterCall) (xs : List HistoryEntry) → Every PrivateCall ts → AreShared xs → writers_of xs ≡ flat_map entries_of_turn ts
    → (done rest : List WriterCall) (t : WriterCall) (y : PureEntry) → ts ≡ done ++ t ∷ rest → t.private ≡ y ∷ [] → IsPlaced done t y (joined_history ts xs)
turn_placed ts xs private shared same done rest t y cut one =
    let nexts = λ (es : List HistoryEntry). map (λ (x : HistoryEntry). next_entry) es in
    let ps = flat_map row_of done ++ nexts t.before in
    let bs = nexts t.after ++ flat_map row_of rest in
    let late = waits_for_fill t in
    let us = flat_map entries_of_turn done ++ t.before in
    let ws = t.after ++ flat_map entries_of_turn rest in
    let all : flat_map row_of ts ≡ ps ++ private_at late y ∷ bs = ap (λ (ts : List WriterCall). flat_map row_of ts) cut ∙ row_cut done rest t y one in
    let entries : writers_of xs ≡ us ++ ws = same ∙ ap (λ (ts : List WriterCall). flat_map entries_of_turn ts) cut ∙ entries_cut done rest t in
    let row_all : ArePrivate ps = private_both (flat_map row_of done) (nexts t.before)
    (turns_private done (every_left_calls done (t ∷ rest) (subst (Every PrivateCall) cut private))) (nexts_private t.before) in
    let fits : Fits (ps ++ private_at late y ∷ bs) (writers_of xs) =
    subst (λ (qs : List RowPart). Fits qs (writers_of xs)) all
    (subst (Fits (flat_map row_of ts)) (sym same) (row_fits (flat_map row_of ts) (flat_map entries_of_turn ts) (turns_row ts))) in
    let k : Placement late y ps (writers_of xs) (at_once (ps ++ private_at late y ∷ bs) ++ put_in (past_at_once (ps ++ private_at late y ∷ bs)) xs) =
    placed_all bs late y (starts_with t (flat_map row_of rest)) xs ps row_all fits in
    let m : Placement late y ps (us ++ ws) (at_once (ps ++ private_at late y ∷ bs) ++ put_in (past_at_once (ps ++ private_at late y ∷ bs)) xs) =
    subst (λ (vs : List HistoryEntry). Placement late y ps vs
    (at_once (ps ++ private_at late y ∷ bs) ++ put_in (past_at_once (ps ++ private_at late y ∷ bs)) xs)) entries k in
    let is_row : IsRowOf ps us = rows_both (flat_map row_of done) (nexts t.before) (flat_map entries_of_turn done) t.before (turns_row done)
    (nexts_row t.before) in
    let are_shared : AreShared us = every_first (λ x. is_private x.event ≡ false) us ws
    (subst AreShared entries (every_filter (λ x. is_private x.event ≡ false) (λ x. is_writers x.event) xs shared)) in record {
      before = m.before;
      after = m.after;
      parts = ap (λ (qs : List RowPart). at_once qs ++ put_in (past_at_once qs) xs) all ∙ m.parts;
      row = filter_swap (λ y. is_writers y.event) not_private m.before ∙ ap shared_entries m.row ∙ row_shared ps us ws is_row row_all are_shared;
      beside = beside_it t.before t.after (flat_map entries_of_turn rest) (flat_map row_of done) (flat_map entries_of_turn done) y _ (turns_row done) m;
    }

-- the joined history has the shared entries and the private ones
pub turns_keep_shared : (ts : List WriterCall) (xs : List HistoryEntry) → Every PrivateCall ts → AreShared xs → shared_entries (joined_history ts xs)
    ≡ map read xs
turns_keep_shared ts xs private shared =
    let ps = flat_map row_of ts in let k = turns_private ts private in
    filter_both not_private (at_once ps) (put_in (past_at_once ps) xs)
    ∙ ap (λ (zs : List PureEntry). zs ++ shared_entries (put_in (past_at_once ps) xs)) (none_at_once ps k)
    ∙ keeps_shared xs (past_at_once ps) (private_past_once ps k) shared

pub turns_keep_private : (ts : List WriterCall) (xs : List HistoryEntry) → Every PrivateCall ts → AreShared xs → writers_of xs ≡ flat_map entries_of_turn ts
    → private_entries_in (joined_history ts xs) ≡ flat_map (λ t. t.private) ts
turns_keep_private ts xs private shared same =
    let ps = flat_map row_of ts in let k = turns_private ts private in
    let fits : Fits ps (writers_of xs) = subst (Fits ps) (sym same) (row_fits ps (flat_map entries_of_turn ts) (turns_row ts)) in
    filter_both (λ y. is_private y.event) (at_once ps) (put_in (past_at_once ps) xs)
    ∙ ap (λ (zs : List PureEntry). zs ++ private_entries_in (put_in (past_at_once ps) xs)) (all_at_once ps k)
    ∙ ap (λ (zs : List PureEntry). at_once ps ++ zs)
    (keeps_private xs (past_at_once ps) (private_past_once ps k) shared (fits_past_once ps (writers_of xs) fits))
    ∙ privates_at_once ps ∙ turns_privates ts
