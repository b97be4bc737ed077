-- A shared history with the writer's private events put in is legal for the pure machine, and leads to a world with the last
-- writer's part and the shared state, where the row of the writer goes: each of its shared events is ready where it stands, and
-- each private one due. What is shown of each entry where it stands comes out beside it.
use Rattle.std.proofs.Common.{◌≡◌, ℕ, Bool, true, false, List, [], ◌∷◌, ◌++◌, sym, refl, ap, ◌∙◌, subst, arith, if◌then◌else◌}
use Rattle.mem_base.specs.declared.machine.events.HistoryEntry.{HistoryEntry}
use Rattle.mem_base.specs.declared.machine.events.Carried.{Carried}
use Rattle.mem_base.specs.declared.machine.events.Event.{Event}
use Rattle.mem_base.specs.declared.machine.events.Event.TheVariants as events
use Rattle.mem_base.specs.declared.machine.events.Hand.TheVariants as hands
use Rattle.mem_base.specs.machine.Reaps.{Writer}
use Rattle.mem_base.specs.machine.Desk.{carried_by}
use Rattle.mem_base.specs.machine.Configs.{writer_after}
use Rattle.mem_base.specs.machine.World.{World, possible, reply}
use Rattle.mem_base.specs.machine.History.{PureEntry, pure_entry, after_entry, after_entries, IsLegalFrom}
use Rattle.mem_base.specs.machine.SharedHistory.{Shared, pool_after, pool_touch_of}
use Rattle.mem_base.specs.machine.SharedHistory as running
use Rattle.mem_base.specs.machine.Turns.{history_entry, is_writers, writers_of}
use Rattle.mem_base.specs.machine.JoinedHistory.{RowPart, next_entry, after_last, before_next, before_entry, at_once, past_at_once}
use Rattle.mem_base.specs.machine.JoinedHistory.{past_entry, put_in, read, reply_read}
use Rattle.turn_laws.proofs.Coupled.{Coupled, Follows, seen}
use Rattle.turn_laws.proofs.PassSteps.{passes_follow}

-- the row leads from one writer's part to another over these shared events
abbrev pub Goes : (Writer → HistoryEntry → Type 0) → (Writer → PureEntry → Type 0) → Writer → Writer → List RowPart → List HistoryEntry → Type 0
Goes Ready Due end h [] ys = (ys ≡ []) × (h ≡ end)
Goes Ready Due end h (next_entry ∷ ps) [] = ⊥
Goes Ready Due end h (next_entry ∷ ps) (y ∷ ys) = Ready h y × Goes Ready Due end (writer_after h y.event y.carried y.reply) ps ys
Goes Ready Due end h (after_last x ∷ ps) ys = Due h x × Goes Ready Due end (writer_after h x.event (carried_by h.desk x.event) 0) ps ys
Goes Ready Due end h (before_next x ∷ ps) ys = Due h x × Goes Ready Due end (writer_after h x.event (carried_by h.desk x.event) 0) ps ys

-- the world has this writer's part, and these words back its cells as the shared state has them
pub record Ends (end : Writer) (final : Shared) (w : World) : Type 0 where
  pub words : List ℕ
  pub coupled : Coupled w words
  pub writer : w.writer ≡ end
  pub shows : seen w words ≡ final

-- a legal history of the pure machine that leads to such a world, and what holds of each entry where it stands
abbrev pub Reaches : (World → PureEntry → Type 0) → Writer → Shared → World → List PureEntry → Type 0
Reaches Fact end final w [] = Ends end final w
Reaches Fact end final w (x ∷ xs) =
    Fact w x × (possible w x.event ≡ true) × (x.reply ≡ reply w x.event) × Reaches Fact end final (after_entry w x) xs

pub reaches_end : (Fact : World → PureEntry → Type 0) (end : Writer) (final : Shared) (w : World) (xs : List PureEntry) → Reaches Fact end final w xs
    → Ends end final (after_entries w xs)
reaches_end Fact end final w [] h = h
reaches_end Fact end final w (x ∷ xs) h = reaches_end Fact end final (after_entry w x) xs h.3

pub reaches_legal : (Fact : World → PureEntry → Type 0) (end : Writer) (final : Shared) (w : World) (xs : List PureEntry) → Reaches Fact end final w xs
    → IsLegalFrom w xs
reaches_legal Fact end final w [] h = tt
reaches_legal Fact end final w (x ∷ xs) h = (h.1, h.2, reaches_legal Fact end final (after_entry w x) xs h.3)

-- what holds of each entry of a history where it stands
abbrev pub EachEntry : (World → PureEntry → Type 0) → World → List PureEntry → Type 0
EachEntry Fact w [] = Unit {0}
EachEntry Fact w (x ∷ xs) = Fact w x × EachEntry Fact (after_entry w x) xs

pub reaches_each : (Fact : World → PureEntry → Type 0) (end : Writer) (final : Shared) (w : World) (xs : List PureEntry) → Reaches Fact end final w xs
    → EachEntry Fact w xs
reaches_each Fact end final w [] h = tt
reaches_each Fact end final w (x ∷ xs) h = (h.0, reaches_each Fact end final (after_entry w x) xs h.3)

-- where nothing is to be shown of the entries
abbrev pub Anything : World → PureEntry → Type 0
Anything w x = Unit {0}

-- a pass's event leaves the writer's part
writer_stays : (h : Writer) (e : Event) (x : Carried) (n : ℕ) → is_writers e ≡ false → writer_after h e x n ≡ h
writer_stays h (events.Look v) x n is = refl
writer_stays h (events.Announce v) x n is = refl
writer_stays h (events.Enter v) x n is = refl
writer_stays h (events.Leave v) x n is = refl
writer_stays h (events.Word (hands.Pass v) c step) x n is = refl
writer_stays h (events.Mark v region client page) x n is = refl
writer_stays h e x n is = absurd (grind arith)

-- what a step of the writer has to keep
pub record Keeps (w : World) (words : List ℕ) (y : HistoryEntry) : Type 0 where
  pub follows : Follows w words y.event y.carried
  pub writer : (after_entry w (read y)).writer ≡ writer_after w.writer y.event y.carried y.reply

pub record KeepsPrivate (w : World) (words : List ℕ) (x : PureEntry) : Type 0 where
  pub may : possible w x.event ≡ true
  pub tells : x.reply ≡ reply w x.event
  pub coupled : Coupled (after_entry w x) words
  pub writer : (after_entry w x).writer ≡ writer_after w.writer x.event (carried_by w.writer.desk x.event) 0
  pub shows : seen (after_entry w x) words ≡ seen w words

module _ (Ready : Writer → HistoryEntry → Type 0) (Due : Writer → PureEntry → Type 0) (Fact : World → PureEntry → Type 0) (end : Writer) (final : Shared)
    (steps : (w : World) (words : List ℕ) → Coupled w words → (y : HistoryEntry) → Ready w.writer y → running.shared_possible
    (seen w words) y.event y.carried ≡ true → y.reply ≡ running.shared_reply (seen w words) y.event y.carried → Keeps w words y)
    (settles : (w : World) (words : List ℕ) → Coupled w words → (x : PureEntry) → Due w.writer x → KeepsPrivate w words x)
    (on_step : (w : World) (words : List ℕ) → Coupled w words → (y : HistoryEntry) → Ready w.writer y → running.shared_possible
    (seen w words) y.event y.carried ≡ true → Fact w (read y))
    (on_private : (w : World) (words : List ℕ) → Coupled w words → (x : PureEntry) → Due w.writer x → Fact w x)
    (on_pass : (w : World) (words : List ℕ) → Coupled w words → (y : HistoryEntry) → is_writers y.event ≡ false → running.shared_possible
    (seen w words) y.event y.carried ≡ true → Fact w (read y)) where
  -- an entry that follows, for the rest
  taken : (w : World) (words : List ℕ) (y : HistoryEntry) → Follows w words y.event y.carried → y.reply ≡ running.shared_reply (seen w words) y.event y.carried
      → (q : List ℕ) × (possible w y.event ≡ true) × ((read y).reply ≡ reply w y.event) × Coupled (after_entry w (read y)) q ×
      (running.after_shared_entry (seen w words) y ≡ seen (after_entry w (read y)) q)
  taken w words y f e =
      let told : reply_read y.event y.reply ≡ reply w y.event = ap (reply_read y.event) e ∙ f.tells in
      let same : pure_entry y.event (reply w y.event) ≡ read y = ap (pure_entry y.event) (sym told) in (
        pool_after words (pool_touch_of y.event y.carried),
        f.may,
        told,
        subst (λ (z : PureEntry). Coupled (after_entry w z) (pool_after words (pool_touch_of y.event y.carried))) same f.coupled,
        ap (λ (n : ℕ). running.after_shared_entry (seen w words) (history_entry y.event y.carried n)) e ∙ f.leads
            ∙ ap (λ (z : PureEntry). seen (after_entry w z) (pool_after words (pool_touch_of y.event y.carried))) same,
      )

  -- private events directly after the writer's last entry
  once : (ps : List RowPart) (ys : List HistoryEntry) (rest : List RowPart → List PureEntry) (w : World) (words : List ℕ) → Coupled w words
      → Goes Ready Due end w.writer ps ys
      → ((v : World) → Coupled v words → (seen v words ≡ seen w words) → Goes Ready Due end v.writer (past_at_once ps) ys → Reaches Fact end final v
      (rest (past_at_once ps))) → Reaches Fact end final w (at_once ps ++ rest (past_at_once ps))
  once [] ys rest w words k g go = go w k refl g
  once (next_entry ∷ ps) ys rest w words k g go = go w k refl g
  once (before_next x ∷ ps) ys rest w words k g go = go w k refl g
  once (after_last x ∷ ps) ys rest w words k g go = let s = settles w words k x g.0 in (
    on_private w words k x g.0,
    s.may,
    s.tells,
    once ps ys rest (after_entry w x) words s.coupled (subst (λ (h : Writer). Goes Ready Due end h ps ys) (sym s.writer) g.1)
        (λ v c e h. go v c (e ∙ s.shows) h),
  )

  -- the writer's next entry, with what stands before it and directly after it
  lead : (ps : List RowPart) (y : HistoryEntry) (ys : List HistoryEntry) (rest : List RowPart → List PureEntry) (w : World) (words : List ℕ)
      → Coupled w words → Goes Ready Due end w.writer ps (y ∷ ys)
      → running.shared_possible (seen w words) y.event y.carried ≡ true → y.reply ≡ running.shared_reply (seen w words) y.event y.carried
      → ((v : World) (q : List ℕ) → Coupled v q → (seen v q ≡ running.after_shared_entry (seen w words) y) → Goes Ready Due end v.writer
      (past_at_once (past_entry ps)) ys → Reaches Fact end final v (rest (past_at_once (past_entry ps))))
      → Reaches Fact end final w ((before_entry ps ++ (read y ∷ at_once (past_entry ps))) ++ rest (past_at_once (past_entry ps)))
  lead [] y ys rest w words k g may is go = absurd (grind arith)
  lead (next_entry ∷ ps) y ys rest w words k g may is go =
      let s = steps w words k y g.0 may is in let t = taken w words y s.follows is in (
        on_step w words k y g.0 may,
        t.1,
        t.2,
        once ps ys rest (after_entry w (read y)) t.0 t.3 (subst (λ (h : Writer). Goes Ready Due end h ps ys) (sym s.writer) g.1)
            (λ v c e h. go v t.0 c (e ∙ sym t.4) h),
      )
  lead (after_last x ∷ ps) y ys rest w words k g may is go = let s = settles w words k x g.0 in (
    on_private w words k x g.0,
    s.may,
    s.tells,
    lead ps y ys rest (after_entry w x) words s.coupled (subst (λ (h : Writer). Goes Ready Due end h ps (y ∷ ys)) (sym s.writer) g.1)
        (subst (λ (z : Shared). running.shared_possible z y.event y.carried ≡ true) (sym s.shows) may)
        (subst (λ (z : Shared). y.reply ≡ running.shared_reply z y.event y.carried) (sym s.shows) is)
        (λ v q c e h. go v q c (e ∙ ap (λ (z : Shared). running.after_shared_entry z y) s.shows) h),
  )
  lead (before_next x ∷ ps) y ys rest w words k g may is go = let s = settles w words k x g.0 in (
    on_private w words k x g.0,
    s.may,
    s.tells,
    lead ps y ys rest (after_entry w x) words s.coupled (subst (λ (h : Writer). Goes Ready Due end h ps (y ∷ ys)) (sym s.writer) g.1)
        (subst (λ (z : Shared). running.shared_possible z y.event y.carried ≡ true) (sym s.shows) may)
        (subst (λ (z : Shared). y.reply ≡ running.shared_reply z y.event y.carried) (sym s.shows) is)
        (λ v q c e h. go v q c (e ∙ ap (λ (z : Shared). running.after_shared_entry z y) s.shows) h),
  )

  -- private events at the end
  trails : (ps : List RowPart) (w : World) (words : List ℕ) → Coupled w words → Goes Ready Due end w.writer ps [] → seen w words ≡ final
      → Reaches Fact end final w (before_entry ps)
  trails [] w words k g m = record { words = words; coupled = k; writer = g.1; shows = m }
  trails (next_entry ∷ ps) w words k g m = absurd g
  trails (after_last x ∷ ps) w words k g m = let s = settles w words k x g.0 in (
    on_private w words k x g.0,
    s.may,
    s.tells,
    trails ps (after_entry w x) words s.coupled (subst (λ (h : Writer). Goes Ready Due end h ps []) (sym s.writer) g.1) (s.shows ∙ m),
  )
  trails (before_next x ∷ ps) w words k g m = let s = settles w words k x g.0 in (
    on_private w words k x g.0,
    s.may,
    s.tells,
    trails ps (after_entry w x) words s.coupled (subst (λ (h : Writer). Goes Ready Due end h ps []) (sym s.writer) g.1) (s.shows ∙ m),
  )

  -- the history with all put in
  pub joins : (xs : List HistoryEntry) (ps : List RowPart) (w : World) (words : List ℕ) → Coupled w words → Goes Ready Due end w.writer ps
      (writers_of xs) → running.IsSharedLegalFrom (seen w words) xs → running.after_shared_entries (seen w words) xs ≡ final
      → Reaches Fact end final w (put_in ps xs)
  joins [] ps w words k g l m = trails ps w words k g m
  joins (x ∷ xs) ps w words k g l m = go (is_writers x.event) refl g (λ ps v q c h n o. joins xs ps v q c h n o)
    where
      go : (b : Bool) → is_writers x.event ≡ b → Goes Ready Due end w.writer ps (if b then x ∷ writers_of xs else writers_of xs)
          → ((ps : List RowPart) (v : World) (q : List ℕ) → Coupled v q → Goes Ready Due end v.writer ps (writers_of xs) → running.IsSharedLegalFrom
          (seen v q) xs → running.after_shared_entries (seen v q) xs ≡ final → Reaches Fact end final v (put_in ps xs))
          → Reaches Fact end final w (if b then before_entry ps ++ (read x ∷ at_once (past_entry ps)) ++ put_in (past_at_once (past_entry ps)) xs
          else read x ∷ put_in ps xs)
      go true e g on = lead ps x (writers_of xs) (λ qs. put_in qs xs) w words k g l.0 l.1
          (λ v q c same h. on (past_at_once (past_entry ps)) v q c h (subst (λ (z : Shared). running.IsSharedLegalFrom z xs) (sym same) l.2)
          (ap (λ (z : Shared). running.after_shared_entries z xs) same ∙ m))
      go false e g on = let t = taken w words x (passes_follow w words k x.event x.carried e l.0) l.1 in (
        on_pass w words k x e l.0,
        t.1,
        t.2,
        on ps (after_entry w (read x)) t.0 t.3
            (subst (λ (h : Writer). Goes Ready Due end h ps (writers_of xs)) (sym (writer_stays w.writer x.event (carried_by w.writer.desk x.event) _ e)) g)
            (subst (λ (z : Shared). running.IsSharedLegalFrom z xs) t.4 l.2)
            (ap (λ (z : Shared). running.after_shared_entries z xs) (sym t.4) ∙ m),
      )

  -- with the private events that stand before all shared ones
  pub joins_all : (xs : List HistoryEntry) (ps : List RowPart) (w : World) (words : List ℕ) → Coupled w words → Goes Ready Due end w.writer ps
      (writers_of xs) → running.IsSharedLegalFrom (seen w words) xs → running.after_shared_entries (seen w words) xs ≡ final
      → Reaches Fact end final w (at_once ps ++ put_in (past_at_once ps) xs)
  joins_all xs ps w words k g l m = once ps (writers_of xs) (λ qs. put_in qs xs) w words k g
      (λ v c e h. joins xs (past_at_once ps) v words c h (subst (λ (z : Shared). running.IsSharedLegalFrom z xs) (sym e) l)
      (ap (λ (z : Shared). running.after_shared_entries z xs) e ∙ m))
