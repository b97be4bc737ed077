-- A world in which nothing is due or unfilled, by its parts, and what a call of the writer leaves of it.
use Rattle.std.proofs.Common.{◌≡◌, ◌≢◌, ◌⊎◌, inl, inr, ⊎_elim, ℕ, ◌+◌, true, false, List, [], length, Option, Some, None, refl, sym, ap, subst, ◌∙◌, arith}
use Rattle.std.specs.Prelude.{Bool, Result, Ok, Err, if◌then◌else◌, is_some, not}
use Rattle.mem_base.specs.declared.map.calls.Config.{Config}
use Rattle.mem_base.specs.declared.map.refusals.Refusal.{Refusal}
use Rattle.mem_base.specs.declared.map.refusals.Refusal.TheVariants.{Memory}
use Rattle.mem_base.specs.declared.access.cells.Cell.{Cell}
use Rattle.mem_base.specs.declared.machine.events.HistoryEntry.{HistoryEntry}
use Rattle.mem_base.specs.access.PlaceCells.{blocks_at}
use Rattle.mem_base.specs.machine.Answers.{Answer}
use Rattle.mem_base.specs.machine.Completions.{IsCompleted}
use Rattle.mem_base.specs.machine.Desk as desks
use Rattle.mem_base.specs.machine.Desk.{places_of}
use Rattle.mem_base.specs.machine.Generations.{Generations}
use Rattle.mem_base.specs.machine.Orders.{Order}
use Rattle.mem_base.specs.machine.Reaps.{Writer, writer}
use Rattle.mem_base.specs.machine.ShownWorlds.{world_shown}
use Rattle.mem_base.specs.machine.Turns.{entries_of_turn, turn}
use Rattle.mem_base.specs.machine.World.{World, is_at_rest, world}
use Rattle.history_laws.specs.Released.{DropsOnce}
use Rattle.history_laws.proofs.DroppedLaws.{regions_are_dropped_once}
use Rattle.turn_laws.proofs.Coupled.{seen}
use Rattle.world_laws.specs.Legal.{IsFitting}
use Rattle.kept_generations.specs.KeptState.{KeptState, generations_of}
use Rattle.transact.specs.Preparing.{Readied}
use Rattle.transact.specs.Backed.{all_places}
use Rattle.writer_desk.specs.declared.idle.IdleDesk.{IdleDesk}
use Rattle.writer_desk.specs.Listened.{resting}
use Rattle.writer_desk.specs.Writers.{desk_of}
use Rattle.writer_run.specs.Parts.{AreParts, part_of}
use Rattle.writer_run.specs.Turns.{IsTurn, number_told}
use Rattle.writer_hand.proofs.EntryLaws.{same_flags}
use Rattle.world_hand.specs.Reached.{IsReached}
use Rattle.world_hand.specs.declared.hand.PureHand.{PureHand}
use Rattle.world_hand.specs.Run.{HasMade, HasRun, shared_of}
use Rattle.world_hand.proofs.Completing.{CompletesCall, completes_call, reached_holds}
use Rattle.world_hand.proofs.FlagLaws.{FlaggedTurn, flag_turn, flagged, left_with, would_with}
use Rattle.world_hand.proofs.WithoutLaws.{drops_without}
use Rattle.world_core.specs.declared.world.World.TheInside.{Inside}
use Rattle.world_core.specs.Worlds.{aside, beside, filled_world, state_of, unswept, world_of, IsFilledWorld, IsWorld}
use Rattle.world_core.specs.Rests.{StaysAtRest}
use Rattle.world_core.proofs.ReachedLaws.{reached_is_orderly}
use Rattle.std.proofs.lemmas.Bool.{and_parts}
use Rattle.mem_base.proofs.ListLaws.{length_map}
use Rattle.turn_laws.proofs.PrivateSteps.{nothing_unfilled}

drops_once : (w : World) → IsReached w → DropsOnce w.writer
drops_once w r = drops_without r.taken w
    (subst (λ (v : World). DropsOnce v.writer) r.leads (regions_are_dropped_once r.pool_words r.passes r.entries r.legal))

-- memory ran out, or it did not
pub memory_or_not : {A : Type 0} (r : Result A Refusal) → (r ≡ Err Memory) ⊎ (r ≢ Err Memory)
memory_or_not (Ok a) = inr (λ e. cc)
memory_or_not (Err Memory) = inl refl
memory_or_not (Err why) = inr (λ e. cc)

-- what the fields of the struct make
abbrev pub shown : Inside → World
shown s = world_of (state_of s.desk s.due) s.hand.kept s.hand.words (aside s.desk.dropped.items s.unfilled.cells)

abbrev pub IsShown : Inside → Type 0
IsShown s = IsWorld (state_of s.desk s.due) s.hand.kept s.hand.words (aside s.desk.dropped.items s.unfilled.cells)

-- the same where nothing is due or unfilled
abbrev pub filled : IdleDesk → KeptState → List ℕ → World
filled desk k ws = filled_world (resting desk.listened) k ws desk.dropped.items

-- the parts of a world make one in which nothing is due or unfilled
pub record Rested (s : Inside) (w : World) : Type 0 where
  pub none_due : s.due ≡ None
  pub none_left : s.unfilled.cells ≡ []
  pub world : IsFilledWorld (resting s.desk.listened) s.hand.kept s.hand.words s.desk.dropped.items
  pub view : filled s.desk s.hand.kept s.hand.words ≡ w

pub rested : (s : Inside) (w : World) → IsShown s → shown s ≡ w → is_at_rest w.writer.desk ≡ true → Rested s w
rested s w h view rest =
    let t = and_parts _ _ (ap (λ (v : World). is_at_rest v.writer.desk) view ∙ rest) in
    let no_due : s.due ≡ None = go s.due t.0 in
    let none : s.unfilled.cells ≡ [] = nothing_unfilled s.unfilled.cells t.1 in record {
      none_due = no_due;
      none_left = none;
      world = subst (λ (z : Option Readied × List Cell). IsWorld (state_of s.desk z.0) s.hand.kept s.hand.words (aside s.desk.dropped.items z.1))
          (λ i. (no_due i, none i)) h;
      view = (λ i. world_of (state_of s.desk (sym no_due i)) s.hand.kept s.hand.words (aside s.desk.dropped.items (sym none i))) ∙ view;
    }
  where
    go : (o : Option Readied) → not (is_some o) ≡ true → o ≡ None
    go None n = refl
    go (Some r) n = absurd (grind arith)

-- what a call leaves: the parts make a world again, and the call leads there with this answer
pub record Leaves (w : World) (o : Order) (answer : Answer) (e : IdleDesk) (l : KeptState) (vs : List ℕ) : Type 0 where
  pub world : IsFilledWorld (resting e.listened) l vs e.dropped.items
  pub is : IsCompleted w o answer (filled_world (resting e.listened) l vs e.dropped.items)

-- the same beside what the call leaves as it is
pub record LeavesAll (w : World) (o : Order) (answer : Answer) (e : IdleDesk) (due : Option Readied) (l : KeptState) (vs : List ℕ) (cells : List Cell)
    : Type 0 where
  pub world : IsWorld (state_of e due) l vs (aside e.dropped.items cells)
  pub is : IsCompleted w o answer (world_of (state_of e due) l vs (aside e.dropped.items cells))

abbrev pub LeavesIn : World → Order → Answer → Inside → IdleDesk → KeptState → List ℕ → Type 0
LeavesIn w o answer s e l vs = LeavesAll w o answer e s.due l vs s.unfilled.cells

pub leaves_all : (s : Inside) (w : World) → Rested s w → (o : Order) (answer : Answer) (e : IdleDesk) (l : KeptState) (vs : List ℕ)
    → Leaves (filled s.desk s.hand.kept s.hand.words) o answer e l vs → LeavesIn w o answer s e l vs
leaves_all s w r o answer e l vs m =
    subst (λ (z : Option Readied × List Cell). LeavesAll w o answer e z.0 l vs z.1) (λ i. (sym r.none_due i, sym r.none_left i))
    (subst (λ (v : World). LeavesAll v o answer e None l vs []) r.view (record { world = m.world; is = m.is }))

module _ (desk : IdleDesk) (k : KeptState) (ws : List ℕ) (h : IsFilledWorld (resting desk.listened) k ws desk.dropped.items) where
  abbrev w : World
  w = filled_world (resting desk.listened) k ws desk.dropped.items

  abbrev h0 : Writer
  h0 = part_of desk (generations_of k)

  -- the parts are those of the writer's calls
  pub parts : AreParts desk (generations_of k) (length ws)
  parts =
      let s = (reached_holds w h.reached).sound in
      let once = drops_once w h.reached in record {
        idle = record {
          due = refl;
          filled = refl;
          flagged = length_map (λ t. false) k.tracks;
          sound = record { forest = s.forest; few = s.few; places = s.places; pending = s.pending };
        };
        gone = record { rising = once.rising; gone = once.gone };
        current = h.current;
        number = h.number;
        wide = h.wide;
      }

  flags : length k.swept ≡ length k.tracks
  flags = let o = reached_is_orderly w h.reached in o.all_flagged ∙ sym o.all_known

  module _ (e : IdleDesk) (l : KeptState) (vs : List ℕ) (o : Order) (answer : Answer) (fits : IsFitting w o)
      (t : IsTurn h0 o (λ xs. HasMade k ws xs l vs) answer (part_of e (generations_of l))) (together : AreParts e (generations_of l) (length vs)) where
    turn_is : FlaggedTurn k.swept h0 o t.replies
    turn_is = flag_turn k.swept h0 t.replies o (flags ∙ sym (length_map (λ x. false) k.tracks))

    run : HasRun (seen w ws) (entries_of_turn (turn w.writer o t.replies)) (shared_of l vs)
    run = subst (λ (xs : List HistoryEntry). HasRun (shared_of k ws) xs (shared_of l vs)) (sym turn_is.entries) t.made.run

    abbrev left : Writer
    left = left_with o k.swept (part_of e (generations_of l))

    all : CompletesCall w o answer (world_shown left (shared_of l vs))
    all = subst (λ (z : Answer × Writer). CompletesCall w o z.0 (world_shown z.1 (shared_of l vs)))
        (λ i. (sym (t.answer_is ∙ sym turn_is.answer) i, (turn_is.writer ∙ ap (λ (v : Writer). left_with o k.swept v) (sym t.writer)) i))
        (completes_call w ws h.reached refl h.wide refl o fits t.replies (shared_of l vs) run)

    ends : (m : KeptState) → generations_of m ≡ generations_of l → m.current ≡ l.current
        → world_shown left (shared_of l vs) ≡ filled_world (resting e.listened) m vs e.dropped.items → Leaves w o answer e m vs
    ends m same number is = record {
      world = record {
        reached = subst IsReached is all.reached;
        current = (subst (λ (g : Generations). AreParts e g (length vs)) (sym same) together).current;
        number = together.number ∙ sym number;
        ready = tt;
        wide = together.wide;
      };
      is = subst (λ (v : World). IsCompleted w o answer v) is all.is;
    }

    -- after a private event no pass is swept
    pub private_leaves : left ≡ part_of e (generations_of l) → length l.swept ≡ length l.tracks → (m : KeptState) → m ≡ unswept l → Leaves w o answer e m vs
    private_leaves whole long m is =
        subst (λ (n : KeptState). Leaves w o answer e n vs) (sym is)
        (ends (unswept l) refl refl
        (ap (λ (v : Writer). world_shown v (shared_of l vs)) whole
        ∙ (λ i. world (writer (desk_of (resting e.listened) (beside (aside e.dropped.items []) (same_flags l.tracks l.swept (sym long) i))) (generations_of l))
        l.states (blocks_at vs (all_places e.listened.backed.backing)))))

    -- steps on words leave it as it was
    pub steady_leaves : left ≡ flagged k.swept (part_of e (generations_of l)) → l.swept ≡ k.swept → Leaves w o answer e l vs
    steady_leaves whole still =
        ends l refl refl
        (ap (λ (v : Writer). world_shown v (shared_of l vs)) whole
        ∙ (λ i. world (writer (desk_of (resting e.listened) (beside (aside e.dropped.items []) (sym still i))) (generations_of l))
        l.states (blocks_at vs (all_places e.listened.backed.backing))))

  -- where memory ran out nothing has changed
  module _ (e : IdleDesk) (same : part_of e (generations_of k) ≡ h0) (together : AreParts e (generations_of k) (length ws)) where
    still : filled_world (resting e.listened) k ws e.dropped.items ≡ w
    still = λ i. world (flagged k.swept (same i)) k.states (blocks_at ws (places_of (same i).desk))

    pub unmoved : IsFilledWorld (resting e.listened) k ws e.dropped.items
    unmoved = record {
      reached = subst IsReached (sym still) h.reached;
      current = together.current;
      number = together.number;
      ready = tt;
      wide = together.wide;
    }

    pub is_unmoved : filled_world (resting e.listened) k ws e.dropped.items ≡ w
    is_unmoved = still

  -- what a private event tells is by the world

  pub told_so : (c : Config) → number_told h0 c ≡ number_told w.writer c
  told_so c = ap (λ (b : Bool). if b then Some (k.current + 1) else None) (sym (would_with k.swept h0.desk c))

  -- the desk after a refusal, where it was left as it was
  pub left_so : (e : IdleDesk) (l : KeptState) (vs : List ℕ) → (part_of e (generations_of l)).desk ≡ h0.desk → length l.swept ≡ length l.tracks
      → (filled_world (resting e.listened) (unswept l) vs e.dropped.items).writer.desk ≡ desks.unswept w.writer.desk
  left_so e l vs same long =
      (λ i. desk_of (resting e.listened) (beside (aside e.dropped.items []) (same_flags l.swept l.tracks long i)))
      ∙ same
      ∙ (λ i. desk_of (resting desk.listened) (beside (aside desk.dropped.items []) (same_flags k.tracks k.swept (sym flags) i)))

pub parts_of : (s : Inside) (w : World) → IsShown s → shown s ≡ w → is_at_rest w.writer.desk ≡ true
    → AreParts s.desk (generations_of s.hand.kept) (length s.hand.words)
parts_of s w h view rest = parts s.desk s.hand.kept s.hand.words (rested s w h view rest).world

-- a call of the writer, for which memory may run out: each clause of it, whatever it answers
pub record Ends {A : Type 0} (w : World) (o : Order) (told : Result A Refusal → Answer) (r : Result A Refusal) (e : IdleDesk) (due : Option Readied)
    (m : KeptState) (vs : List ℕ) (cells : List Cell) : Type 0 where
  pub world : IsWorld (state_of e due) m vs (aside e.dropped.items cells)
  pub completed : r ≢ Err Memory → IsCompleted w o (told r) (world_of (state_of e due) m vs (aside e.dropped.items cells))
  pub unchanged : r ≡ Err Memory → world_of (state_of e due) m vs (aside e.dropped.items cells) ≡ w
  pub rests : StaysAtRest w (world_of (state_of e due) m vs (aside e.dropped.items cells))

module _ {A : Type 0} (s : Inside) (w : World) (h : IsShown s) (view : shown s ≡ w) (rest : is_at_rest w.writer.desk ≡ true) (e : IdleDesk) (l : PureHand)
    (together : AreParts e (generations_of l.kept) (length l.words)) (o : Order) (told : Result A Refusal → Answer) (r : Result A Refusal)
    (fits : IsFitting (filled s.desk s.hand.kept s.hand.words) o)
    (turn : r ≢ Err Memory → IsTurn (part_of s.desk (generations_of s.hand.kept)) o (λ xs. HasMade s.hand.kept s.hand.words xs l.kept l.words) (told r)
    (part_of e (generations_of l.kept)))
    (nothing : r ≡ Err Memory → (part_of e (generations_of l.kept) ≡ part_of s.desk (generations_of s.hand.kept)) × (l ≡ s.hand)) where
  f : Rested s w
  f = rested s w h view rest

  memory_ends : (m : KeptState) → m ≡ l.kept → r ≡ Err Memory → Ends w o told r e s.due m l.words s.unfilled.cells
  memory_ends m is memory =
      let u = nothing memory in
      let same : part_of e (generations_of s.hand.kept) ≡ part_of s.desk (generations_of s.hand.kept) =
      subst (λ (x : PureHand). part_of e (generations_of x.kept) ≡ part_of s.desk (generations_of s.hand.kept)) u.1 u.0 in
      let here : AreParts e (generations_of s.hand.kept) (length s.hand.words) =
      subst (λ (x : PureHand). AreParts e (generations_of x.kept) (length x.words)) u.1 together in
      let still = is_unmoved s.desk s.hand.kept s.hand.words f.world e same here ∙ f.view in
      subst (λ (z : (Option Readied × List Cell) × KeptState × List ℕ). Ends w o told r e z.0.0 z.1 z.2 z.0.1)
      (λ i. ((sym f.none_due i, sym f.none_left i), sym (is ∙ ap (λ (x : PureHand). x.kept) u.1) i, sym (ap (λ (x : PureHand). x.words) u.1) i))
      (record {
        world = unmoved s.desk s.hand.kept s.hand.words f.world e same here;
        completed = λ other. absurd (other memory);
        unchanged = λ _. still;
        rests = record { rests = ap (λ (x : World). is_at_rest x.writer.desk) still ∙ rest; passes = ap (λ (x : World). x.passes) still };
      })

  done : (m : KeptState) → r ≢ Err Memory → Leaves (filled s.desk s.hand.kept s.hand.words) o (told r) e m l.words
      → Ends w o told r e s.due m l.words s.unfilled.cells
  done m other x = let all : LeavesIn w o (told r) s e m l.words = leaves_all s w f o (told r) e m l.words x in record {
    world = all.world;
    completed = λ _. all.is;
    unchanged = λ memory. absurd (other memory);
    rests = record { rests = all.is.rests; passes = all.is.passes };
  }

  -- with a private event
  pub private_ends : left_with o s.hand.kept.swept (part_of e (generations_of l.kept)) ≡ part_of e (generations_of l.kept)
      → length l.kept.swept ≡ length l.kept.tracks → (m : KeptState)
      → ((r ≡ Err Memory) × (m ≡ l.kept)) ⊎ ((r ≢ Err Memory) × (m ≡ unswept l.kept)) → Ends w o told r e s.due m l.words s.unfilled.cells
  private_ends whole long m either = ⊎_elim (λ a. memory_ends m a.1 a.0)
      (λ b. done m b.0 (private_leaves s.desk s.hand.kept s.hand.words f.world e l.kept l.words o (told r) fits (turn b.0) together whole long m b.1)) either

  -- by steps on words alone
  pub steady_ends : left_with o s.hand.kept.swept (part_of e (generations_of l.kept)) ≡ flagged s.hand.kept.swept (part_of e (generations_of l.kept))
      → (r ≢ Err Memory → l.kept.swept ≡ s.hand.kept.swept) → Ends w o told r e s.due l.kept l.words s.unfilled.cells
  steady_ends whole still = ⊎_elim (λ a. memory_ends l.kept refl a)
      (λ b. done l.kept b (steady_leaves s.desk s.hand.kept s.hand.words f.world e l.kept l.words o (told r) fits (turn b) together whole (still b)))
      (memory_or_not r)
