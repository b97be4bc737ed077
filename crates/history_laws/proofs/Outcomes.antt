-- What a call, a begin, a commit, or a listener that joins or leaves makes of the desk.
use Rattle.std.proofs.Common.{◌≡◌, ℕ, zero, suc, ◌+◌, ◌-◌, ◌<◌, ◌≤◌, eqb, ne_eqb, Bool, true, false, ◌&&◌, ◌||◌, List, [], ◌∷◌, ◌++◌}
use Rattle.std.proofs.Common.{length, map, sym, refl, ap, ◌∙◌, subst, arith, if◌then◌else◌, Option, Some, None}
use Rattle.std.specs.Prelude.{not, ◌==◌, Ok, Err, Result, is_ok}
use Rattle.std.specs.List.{range_with_len}
use Rattle.std.proofs.lemmas.Bool.{eqb-true, eqb-false, and_parts}
use Rattle.mem_base.specs.declared.map.ids.RegionId.{RegionId}
use Rattle.mem_base.specs.declared.map.ids.ListenerId.{ListenerId}
use Rattle.mem_base.specs.declared.map.forests.Forest.{Forest}
use Rattle.mem_base.specs.declared.views.listening.Listener.{Listener}
use Rattle.mem_base.specs.declared.map.refusals.Refusal.{Refusal}
use Rattle.mem_base.specs.declared.map.refusals.Refusal.TheVariants.{NoTransaction, TooNested, NoBacking}
use Rattle.mem_base.specs.declared.map.calls.Applied.{Applied}
use Rattle.mem_base.specs.declared.map.calls.Applied.TheVariants.{Done, Made}
use Rattle.mem_base.specs.declared.map.calls.Call.{Call}
use Rattle.mem_base.specs.declared.map.calls.Call.TheVariants as calls
use Rattle.mem_base.specs.declared.map.calls.Config.{Config}
use Rattle.mem_base.specs.declared.map.calls.Config.TheVariants as configs
use Rattle.mem_base.specs.declared.access.cells.Place.{Place}
use Rattle.mem_base.specs.declared.access.cells.Cell.{Cell}
use Rattle.mem_base.specs.map.Limits.{most_nested, most_made}
use Rattle.mem_base.specs.lists.Every.{Every}
use Rattle.mem_base.specs.map.Forest.{IsOrderedForest}
use Rattle.mem_base.specs.map.Refusals.{first_refusal, unknown_space}
use Rattle.mem_base.specs.views.Flattened.{view_of}
use Rattle.mem_base.specs.views.LiveEvents.{lives_of}
use Rattle.mem_base.specs.map.Calls.{after as forest_after, left_by, answer_of, is_quiet}
use Rattle.mem_base.specs.machine.Committed.{TransactionState, transaction, transaction_after, commits, committed_from}
use Rattle.mem_base.specs.access.Places.{Extent, extent_of, words_of, place_from, first_fit}
use Rattle.mem_base.specs.access.Cells.{cell, is_same_cell}
use Rattle.mem_base.specs.machine.Generations.{Generations}
use Rattle.mem_base.specs.views.Listening.{Listening, joined, join_refusal, leave_refusal}
use Rattle.mem_base.specs.lists.Sorting.{put_by}
use Rattle.mem_base.specs.machine.Desk.{Desk, cells_of, region_order}
use Rattle.mem_base.specs.machine.Publishing.{Settled, settled, refused_desk, unless_refused, held_up, readied, publishing, current_forest}
use Rattle.mem_base.specs.machine.Configs.{configured, answers, made, backed, kept_back, after_call, begun, committed, listened, unlistened, without_listener}
use Rattle.mem_base.proofs.EveryLaws.{weaker, every_push}
use Rattle.mem_base.specs.declared.machine.events.Event.TheVariants as events
use Rattle.mem_base.specs.machine.JoinedHistory.{accepted_one}
use Rattle.map_laws.proofs.CallLaws.{IsOrderedForest-after, after-accepted}
use Rattle.history_laws.proofs.Idles.{IsSoundDesk, made_after}
use Rattle.mem_base.proofs.BoolLaws.{true_is_not_false}

-- no cell stands twice
abbrev pub Distinct : List Cell → Type 0
Distinct [] = Unit {0}
Distinct (c ∷ cs) = Every (λ x. is_same_cell c x ≡ false) cs × Distinct cs

after_cells : (r : RegionId) (i a n : ℕ) → i < a → Every (λ x. is_same_cell (cell r i) x ≡ false) (map (cell r) (range_with_len a n))
after_cells r i a zero l = tt
after_cells r i a (suc n) l = (go (r.0 == r.0) (ne_eqb i a (λ e. omega arith)), after_cells r i (a + 1) n (omega arith))
  where
    go : (b : Bool) → eqb i a ≡ false → (b && (i == a)) ≡ false
    go true e = e
    go false e = refl

cells_distinct : (r : RegionId) (a n : ℕ) → Distinct (map (cell r) (range_with_len a n))
cells_distinct r a zero = tt
cells_distinct r a (suc n) = (after_cells r a (a + 1) n (omega arith), cells_distinct r (a + 1) n)

-- what stands, of a desk
abbrev pub stands : Desk → TransactionState
stands d = transaction d.forest d.depth d.pending

-- a refused event leaves what stands; an accepted one goes as the committed forests do
abbrev pub Tells : Desk → Config → Desk → Result Applied Refusal → Type 0
Tells d c m (Ok applied) = (stands m ≡ transaction_after (stands d) c) × (m.due ≡ commits (stands d) c)
Tells d c m (Err why) = (stands m ≡ stands d) × (m.due ≡ false)

pub record Outcome (d : Desk) (c : Config) (s : Settled) : Type 0 where
  pub sound : IsSoundDesk s.desk
  pub flags : length s.desk.swept ≡ length d.swept
  pub distinct : Distinct s.desk.unfilled
  pub none_due : s.desk.due ≡ true → s.desk.unfilled ≡ []
  pub tells : Tells d c s.desk s.answer

is_zero : (n : ℕ) → (n == 0) ≡ true → n ≡ 0
is_zero n e = eqb-true n 0 e

module _ (g : Generations) (d : Desk) (k : IsSoundDesk d) (off : d.due ≡ false) (none : d.unfilled ≡ []) where
  -- what a desk has left of this one
  record Leaves (m : Desk) : Type 0 where
    flags : length m.swept ≡ length d.swept
    unfilled : m.unfilled ≡ []
    sound : IsSoundDesk m

  refusing : (c : Config) (why : Refusal) → Outcome d c (refused_desk d why)
  refusing c why = record { sound = k; flags = refl; distinct = subst Distinct (sym none) tt; none_due = λ on. none; tells = (refl, off) }

  accepting : (c : Config) (m : Desk) (a : Applied) → Leaves m → stands m ≡ transaction_after (stands d) c → m.due ≡ commits (stands d) c
      → Outcome d c (settled m a)
  accepting c m a l s e = record {
    sound = l.sound;
    flags = l.flags;
    distinct = subst Distinct (sym l.unfilled) tt;
    none_due = λ on. l.unfilled;
    tells = (s, e);
  }

  unless_outcome : (c : Config) (o : Option Refusal) (m : Desk) (a : Applied) → Outcome d c (settled m a) → Outcome d c (unless_refused o d (settled m a))
  unless_outcome c None m a s = s
  unless_outcome c (Some why) m a s = refusing c why

  -- a forest after a call
  abbrev Sound_after : Forest → Type 0
  Sound_after f = IsOrderedForest f × (d.forest.made ≤ f.made) × (f.made ≤ most_made)

  sound_after : (call : Call) (f : Forest) → forest_after d.forest call ≡ Ok f → Sound_after f
  sound_after call f e = let m = made_after d.forest f call e k.few in (IsOrderedForest-after d.forest f call k.forest e, m.0, m.1)

  places_below : (n : ℕ) → d.forest.made ≤ n → Every (λ p. p.region.0 < n) d.places
  places_below n l = weaker (λ p. p.region.0 < d.forest.made) (λ p. p.region.0 < n) (λ p m. omega arith) d.places k.places

  publish_outcome : (c : Config) (f : Forest) (a : Applied) → Sound_after f → transaction f 0 false ≡ transaction_after (stands d) c
      → true ≡ commits (stands d) c → Outcome d c (publishing g d f a)
  publish_outcome c f a s e t = unless_outcome c (held_up g) (readied g d f) a
      (accepting c (readied g d f) a (record {
        flags = refl;
        unfilled = none;
        sound = record { forest = s.0; few = s.2; places = places_below f.made s.1; pending = λ h. refl };
      }) e t)

  -- where nothing is open nothing is pending, so a quiet call leaves what is pending
  quiet_pending : d.pending ≡ (not (d.depth == 0) && (d.pending || false))
  quiet_pending = go (d.depth == 0) refl d.pending refl
    where
      go : (b : Bool) → (d.depth == 0) ≡ b → (p : Bool) → d.pending ≡ p → p ≡ (not b && (p || false))
      go true e true q = sym q ∙ k.pending e
      go true e false q = refl
      go false e true q = refl
      go false e false q = refl

  quiet_commits : false ≡ ((d.depth == 0) && false)
  quiet_commits = go (d.depth == 0)
    where
      go : (b : Bool) → false ≡ (b && false)
      go true = refl
      go false = refl

  abbrev quiet_stands : Forest → TransactionState
  quiet_stands f = transaction f d.depth (not (d.depth == 0) && (d.pending || false))

  backed_outcome : (kind_call : Call) (f : Forest) (x : Extent) (o : Option ℕ) → Sound_after f → d.forest.made < f.made
      → quiet_stands f ≡ transaction_after (stands d) (configs.Call kind_call) → ((d.depth == 0) && false) ≡ commits (stands d) (configs.Call kind_call)
      → Outcome d (configs.Call kind_call) (backed d f (record { 0 = d.forest.made }) x o)
  backed_outcome call f x None s l e t = refusing (configs.Call call) (NoBacking (words_of x))
  backed_outcome call f x (Some start) s l e t = let r : RegionId = record { 0 = d.forest.made } in let p = place_from r start x in record {
    sound = record { forest = s.0; few = s.2; places = every_push (λ p. p.region.0 < f.made) d.places p (places_below f.made s.1) l; pending = k.pending };
    flags = refl;
    distinct = subst Distinct (ap (λ (cs : List Cell). cs ++ cells_of p) (sym none)) (cells_distinct r 0 p.words);
    none_due = λ on. true_is_not_false d.due on off;
    tells = (ap (λ (b : Bool). transaction f d.depth b) quiet_pending ∙ e, off ∙ quiet_commits ∙ t);
  }

  made_outcome : (call : Call) (f : Forest) (x : Extent) → Sound_after f → d.forest.made < f.made
      → quiet_stands f ≡ transaction_after (stands d) (configs.Call call) → ((d.depth == 0) && false) ≡ commits (stands d) (configs.Call call)
      → Outcome d (configs.Call call) (made d f (record { 0 = d.forest.made }) x)
  made_outcome call f x s l e t = go (words_of x == 0)
    where
      go : (b : Bool) → Outcome d (configs.Call call) (if b then settled (record d { forest = f }) (Made (record { 0 = d.forest.made }))
          else backed d f (record { 0 = d.forest.made }) x (first_fit d.pool_words d.places (words_of x)))
      go true = accepting (configs.Call call) (record d { forest = f }) (Made (record { 0 = d.forest.made }))
          (record { flags = refl; unfilled = none; sound = record { forest = s.0; few = s.2; places = places_below f.made s.1; pending = k.pending } })
          (ap (λ (b : Bool). transaction f d.depth b) quiet_pending ∙ e) (off ∙ quiet_commits ∙ t)
      go false = backed_outcome call f x (first_fit d.pool_words d.places (words_of x)) s l e t

  and_true : (b : Bool) → b ≡ (b && true)
  and_true true = refl
  and_true false = refl

  -- an accepted call goes as the committed forests do
  call_stands : (call : Call) (f : Forest) → forest_after d.forest call ≡ Ok f
      → transaction f d.depth (not (d.depth == 0) && (d.pending || not (is_quiet call))) ≡ transaction_after (stands d) (configs.Call call)
  call_stands call f e = ap (λ (b : Bool). transaction f d.depth (not (d.depth == 0) && (d.pending || b))) (and_true (not (is_quiet call)))
      ∙ ap (λ (x : Result Forest Refusal). transaction (left_by d.forest x) d.depth
      (not (d.depth == 0) && (d.pending || (not (is_quiet call) && is_ok x)))) (sym e)

  call_commits : (call : Call) (f : Forest) → forest_after d.forest call ≡ Ok f → ((d.depth == 0) && not (is_quiet call)) ≡ commits (stands d)
      (configs.Call call)
  call_commits call f e = ap (λ (b : Bool). (d.depth == 0) && b) (and_true (not (is_quiet call)))
      ∙ ap (λ (x : Result Forest Refusal). (d.depth == 0) && (not (is_quiet call) && is_ok x)) (sym e)

  -- inside a transaction a change is pending
  change_outcome : (call : Call) (f : Forest) (a : Applied) → Sound_after f → (d.depth == 0) ≡ false
      → transaction f d.depth (not (d.depth == 0) && (d.pending || true)) ≡ transaction_after (stands d) (configs.Call call)
      → ((d.depth == 0) && true) ≡ commits (stands d) (configs.Call call)
      → Outcome d (configs.Call call) (settled (record d { forest = f; pending = true }) a)
  change_outcome call f a s deep e t =
      accepting (configs.Call call) (record d { forest = f; pending = true }) a
      (record {
        flags = refl;
        unfilled = none;
        sound = record {
          forest = s.0;
          few = s.2;
          places = places_below f.made s.1;
          pending = λ h. true_is_not_false (d.depth == 0) h deep;
        };
      })
      (ap (λ (b : Bool). transaction f d.depth b) (go (d.depth == 0) d.pending deep) ∙ e) (off ∙ off_too (d.depth == 0) deep ∙ t)
    where
      go : (b p : Bool) → b ≡ false → true ≡ (not b && (p || true))
      go true p e = true_is_not_false true refl e
      go false true e = refl
      go false false e = refl

      off_too : (b : Bool) → b ≡ false → false ≡ (b && true)
      off_too true e = sym e
      off_too false e = refl

  deep_of : (b c : Bool) → (b && c) ≡ false → c ≡ true → b ≡ false
  deep_of true true h e = h
  deep_of true false h e = sym e ∙ h
  deep_of false c h e = refl

  kept_back_outcome : (call : Call) (f : Forest) → forest_after d.forest call ≡ Ok f → ((d.depth == 0) && not (is_quiet call)) ≡ false
      → Outcome d (configs.Call call) (kept_back d call f)
  kept_back_outcome (calls.Region kind size) f e n =
      let ok = after-accepted d.forest f (calls.Region kind size) e in
      made_outcome (calls.Region kind size) f (extent_of kind size) (sound_after (calls.Region kind size) f e)
      (subst (λ (z : Forest). d.forest.made < z.made) (sym ok.1) (omega arith))
      (call_stands (calls.Region kind size) f e) (call_commits (calls.Region kind size) f e)
  kept_back_outcome (calls.Drop region) f e n = let s = sound_after (calls.Drop region) f e in
      accepting (configs.Call (calls.Drop region)) (record d { forest = f; dropped = put_by region_order region d.dropped }) Done
      (record { flags = refl; unfilled = none; sound = record { forest = s.0; few = s.2; places = places_below f.made s.1; pending = k.pending } })
      (ap (λ (b : Bool). transaction f d.depth b) quiet_pending ∙ call_stands (calls.Drop region) f e) (off ∙ quiet_commits
      ∙ call_commits (calls.Drop region) f e)
  kept_back_outcome call f e n = change_outcome call f (answer_of d.forest call) (sound_after call f e) (deep_of _ _ n refl) (call_stands call f e)
      (call_commits call f e)

  called_outcome : (call : Call) → Outcome d (configs.Call call) (after_call g d call (forest_after d.forest call))
  called_outcome call = go (forest_after d.forest call) refl
    where
      at : (f : Forest) → forest_after d.forest call ≡ Ok f → (b : Bool) → ((d.depth == 0) && not (is_quiet call)) ≡ b → Outcome d (configs.Call call)
          (if b then publishing g d f (answer_of d.forest call) else kept_back d call f)
      at f e true h = let t = and_parts _ _ h in let zero_deep = is_zero d.depth t.0 in
          publish_outcome (configs.Call call) f (answer_of d.forest call) (sound_after call f e)
          ((λ i. transaction f (sym zero_deep i) (not (sym t.0 i) && (d.pending || not (is_quiet call)))) ∙ call_stands call f e)
          (sym h ∙ call_commits call f e)
      at f e false h = kept_back_outcome call f e h

      go : (x : Result Forest Refusal) → forest_after d.forest call ≡ x → Outcome d (configs.Call call) (after_call g d call x)
      go (Err why) e = refusing (configs.Call call) why
      go (Ok f) e = at f e ((d.depth == 0) && not (is_quiet call)) refl

  sound_same : (m : Desk) → m.forest ≡ d.forest → m.places ≡ d.places → ((m.depth == 0) ≡ true → m.pending ≡ false) → IsSoundDesk m
  sound_same m f p h = record {
    forest = subst IsOrderedForest (sym f) k.forest;
    few = subst (λ (z : Forest). z.made ≤ most_made) (sym f) k.few;
    places = subst (λ (z : Forest × List Place). Every (λ p. p.region.0 < z.0.made) z.1) (λ i. (sym f i, sym p i)) k.places;
    pending = h;
  }

  begun_outcome : Outcome d configs.Begin (begun d)
  begun_outcome = go (d.depth == most_nested)
    where
      go : (b : Bool) → Outcome d configs.Begin (if b then refused_desk d TooNested else settled (record d { depth = d.depth + 1 }) Done)
      go true = refusing configs.Begin TooNested
      go false = accepting configs.Begin (record d { depth = d.depth + 1 }) Done
          (record {
            flags = refl;
            unfilled = none;
            sound = sound_same (record d { depth = d.depth + 1 }) refl refl
                (λ h. absurd (let e = is_zero (d.depth + 1) h in omega arith));
          }) refl off

  committed_outcome : Outcome d configs.Commit (committed g d)
  committed_outcome = go (d.depth == 0) refl
    where
      lower : (p b : Bool) → d.pending ≡ p → (d.depth == 1) ≡ b → (b && p) ≡ false → p ≡ (not b && p)
      lower true true q e h = h
      lower false true q e h = refl
      lower p false q e h = refl

      inner : (d.depth == 0) ≡ false → (b : Bool) → ((d.depth == 1) && d.pending) ≡ b → Outcome d configs.Commit
          (if b then publishing g d d.forest Done else settled (record d { depth = d.depth - 1 }) Done)
      inner some true h = let t = and_parts _ _ h in let one = eqb-true d.depth 1 t.0 in
          publish_outcome configs.Commit d.forest Done (k.forest, (let l : d.forest.made ≤ d.forest.made = omega arith in l), k.few)
          (λ i. transaction d.forest ((let e : 0 ≡ d.depth - 1 = omega arith in e) i) (not (sym t.0 i) && d.pending)) (sym h)
      inner some false h = accepting configs.Commit (record d { depth = d.depth - 1 }) Done
          (record {
            flags = refl;
            unfilled = none;
            sound = sound_same (record d { depth = d.depth - 1 }) refl refl
                (λ z. only_one (d.depth == 1) refl h (is_zero (d.depth - 1) z));
          })
          (ap (λ (b : Bool). transaction d.forest (d.depth - 1) b) (lower d.pending (d.depth == 1) refl refl h)) (off ∙ sym h)
        where
          only_one : (b : Bool) → (d.depth == 1) ≡ b → (b && d.pending) ≡ false → d.depth - 1 ≡ 0 → d.pending ≡ false
          only_one true e h z = h
          only_one false e h z = absurd (let n : d.depth ≡ 1 → ⊥ = eqb-false d.depth 1 e in let o : d.depth ≡ 0 → ⊥ = eqb-false d.depth 0 some in
              omega (arith, n, o))

      go : (b : Bool) → (d.depth == 0) ≡ b → Outcome d configs.Commit (if b then refused_desk d NoTransaction else if (d.depth == 1)
          && d.pending then publishing g d d.forest Done else settled (record d { depth = d.depth - 1 }) Done)
      go true e = refusing configs.Commit NoTransaction
      go false e = inner e ((d.depth == 1) && d.pending) refl

  abbrev with_listening : Listening → Desk
  with_listening x = record d { listening = x }

  listening_leaves : (x : Listening) → Leaves (with_listening x)
  listening_leaves x = record { flags = refl; unfilled = none; sound = sound_same (with_listening x) refl refl k.pending }

  listened_outcome : (l : Listener) → Outcome d (configs.Listen l.listener l.space l.priority) (listened g d l)
  listened_outcome l =
      let x : Listening = joined d.listening l (view_of (current_forest g) l.space) (lives_of (current_forest g) l.space) in
      unless_outcome (configs.Listen l.listener l.space l.priority)
      (first_refusal (unknown_space d.forest l.space ∷ join_refusal d.listening l.listener ∷ [])) (with_listening x) Done
      (accepting (configs.Listen l.listener l.space l.priority) (with_listening x) Done (listening_leaves x) refl off)

  -- only the listeners of a desk are others
  record OnlyListening (m : Desk) : Type 0 where
    leaves : Leaves m
    same : stands m ≡ stands d
    due : m.due ≡ false

  either_only : (b : Bool) (x : Listening) (m : Desk) → OnlyListening m → OnlyListening (if b then with_listening x else m)
  either_only true x m s = record { leaves = listening_leaves x; same = refl; due = off }
  either_only false x m s = s

  without_only : (ls : List Listener) (id : ListenerId) → OnlyListening (without_listener ls id g d)
  without_only [] id = record { leaves = record { flags = refl; unfilled = none; sound = k }; same = refl; due = off }
  without_only (l ∷ ls) id = either_only (l.listener.0 == id.0) _ (without_listener ls id g d) (without_only ls id)

  unlistened_outcome : (id : ListenerId) → Outcome d (configs.Unlisten id) (unlistened g d id)
  unlistened_outcome id = let m = without_listener d.listening.listeners id g d in let s = without_only d.listening.listeners id in
      unless_outcome (configs.Unlisten id) (leave_refusal d.listening id) m Done (accepting (configs.Unlisten id) m Done s.leaves s.same s.due)

  pub outcome : (c : Config) → Outcome d c (configured g d c)
  outcome configs.Begin = begun_outcome
  outcome (configs.Call call) = called_outcome call
  outcome configs.Commit = committed_outcome
  outcome (configs.Listen listener space priority) = listened_outcome (record { listener = listener; space = space; priority = priority })
  outcome (configs.Unlisten id) = unlistened_outcome id

-- what a private event commits

abbrev pub due_forests : Bool → Forest → List Forest
due_forests b f = if b then f ∷ [] else []

accepted_ok : (c : Config) (a : Applied) → accepted_one (events.Config c) (answers c (Ok a)) ≡ c ∷ []
accepted_ok configs.Begin a = refl
accepted_ok _ a = refl

accepted_err : (c : Config) (why : Refusal) → accepted_one (events.Config c) (answers c (Err why)) ≡ []
accepted_err configs.Begin why = refl
accepted_err _ why = refl

commits_one : (s : TransactionState) (c : Config) (ks : List Config) → committed_from s (c ∷ ks) ≡ due_forests (commits s c)
    (transaction_after s c).forest ++ committed_from (transaction_after s c) ks
commits_one s c ks = go (commits s c)
  where
    go : (b : Bool) → (if b then (transaction_after s c).forest ∷ committed_from (transaction_after s c) ks
        else committed_from (transaction_after s c) ks) ≡ due_forests b (transaction_after s c).forest ++ committed_from (transaction_after s c) ks
    go true = refl
    go false = refl

pub told_commits : (d m : Desk) (c : Config) (answer : Result Applied Refusal) (ks : List Config) → Tells d c m answer
    → committed_from (stands d) (accepted_one (events.Config c) (answers c answer) ++ ks) ≡ due_forests m.due m.forest ++ committed_from (stands m) ks
told_commits d m c (Ok a) ks t =
    ap (λ (xs : List Config). committed_from (stands d) (xs ++ ks)) (accepted_ok c a)
    ∙ commits_one (stands d) c ks
    ∙ (λ i. due_forests (sym t.1 i) (sym t.0 i).forest ++ committed_from (sym t.0 i) ks)
told_commits d m c (Err why) ks t =
    ap (λ (xs : List Config). committed_from (stands d) (xs ++ ks)) (accepted_err c why)
    ∙ (λ i. due_forests (sym t.1 i) m.forest ++ committed_from (sym t.0 i) ks)
