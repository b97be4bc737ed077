-- In every legal history a region is dropped once, and what is released stands in order.
use Rattle.std.proofs.Common.{◌≡◌, ◌≢◌, ℕ, ◌+◌, ◌-◌, ◌<◌, ne_eqb, Bool, true, false, ◌&&◌, List, [], ◌∷◌, ◌++◌, sym, refl, ap, ◌∙◌, subst}
use Rattle.std.proofs.Common.{arith, if◌then◌else◌, Option, Some, None}
use Rattle.std.specs.Prelude.{filter, not, nat_lt, ◌==◌, is_some, Result, Ok, Err, option_map}
use Rattle.std.specs.declared.cmp.Ordering.{Ordering}
use Rattle.std.specs.declared.cmp.Ordering.TheVariants.{Less, Equal, Greater}
use Rattle.std.specs.Ordering.{is_lt, nat_cmp}
use Rattle.std.proofs.lemmas.Bool.{ltb-true}
use mathlib.Core.Logic.{dite}
use native.Mathlib.Decide.{ℕ_discrete}
use Rattle.mem_base.specs.declared.map.ids.RegionId.{RegionId}
use Rattle.mem_base.specs.declared.map.ids.ListenerId.{ListenerId}
use Rattle.mem_base.specs.declared.map.forests.Node.{Node}
use Rattle.mem_base.specs.declared.map.forests.Forest.{Forest}
use Rattle.mem_base.specs.declared.map.calls.Applied.{Applied}
use Rattle.mem_base.specs.declared.map.calls.Applied.TheVariants.{Done, Made}
use Rattle.mem_base.specs.declared.map.calls.Call.{Call}
use Rattle.mem_base.specs.declared.map.calls.Call.TheVariants as calls
use Rattle.mem_base.specs.declared.map.calls.Config.{Config}
use Rattle.mem_base.specs.declared.map.calls.Config.TheVariants as configs
use Rattle.mem_base.specs.declared.views.listening.Listener.{Listener}
use Rattle.mem_base.specs.declared.map.refusals.Refusal.{Refusal}
use Rattle.mem_base.specs.declared.map.refusals.Refusal.TheVariants.{NoTransaction, TooNested}
use Rattle.mem_base.specs.declared.machine.events.Event.{Event}
use Rattle.mem_base.specs.declared.machine.events.Event.TheVariants as events
use Rattle.mem_base.specs.map.Limits.{most_nested}
use Rattle.mem_base.specs.lists.Every.{Every}
use Rattle.mem_base.specs.lists.Sorting.{put_by, IsRising}
use Rattle.mem_base.specs.map.Region.{has_id, node_of}
use Rattle.mem_base.specs.map.Forest.{IsOrderedForest}
use Rattle.mem_base.specs.map.TableRefusals.{no_more_calls}
use Rattle.mem_base.specs.map.Calls.{after as forest_after, refusals, counted, answer_of, is_quiet}
use Rattle.mem_base.specs.map.Changes.{changed, changed_at, moved, made_region}
use Rattle.mem_base.specs.access.Places.{Extent, extent_of, words_of, first_fit}
use Rattle.mem_base.specs.machine.Generations.{Generations}
use Rattle.mem_base.specs.views.Listening.{Listening}
use Rattle.mem_base.specs.machine.Desk.{Desk, region_order}
use Rattle.mem_base.specs.machine.Reaps.{is_named}
use Rattle.mem_base.specs.machine.Publishing.{settled, refused_desk, unless_refused, held_up, readied, publishing}
use Rattle.mem_base.specs.machine.Configs.{configured, made, backed, kept_back, after_call, begun, committed, without_listener}
use Rattle.mem_base.specs.machine.World.{World, after_telling, number_in, opening}
use Rattle.mem_base.specs.machine.History.{PureEntry, after_entry, after_entries, IsLegalFrom, IsLegal}
use Rattle.mem_base.proofs.EveryLaws.{weaker, every_filter}
use Rattle.map_laws.proofs.RefusalLaws.{each_none, is_known}
use Rattle.mem_base.proofs.ForestLaws.{known_below, every_put}
use Rattle.mem_base.proofs.JoinLaws.{node_of-changed_at}
use Rattle.map_laws.proofs.DropLaws.{node_of-without, node_of-dropped}
use Rattle.map_laws.proofs.CallLaws.{after-accepted}
use Rattle.history_laws.specs.Released.{DropsOnce}
use Rattle.history_laws.proofs.Idles.{IsSoundDesk, opens_idle}
use Rattle.history_laws.proofs.ReplayedLaws.{find_push}
use Rattle.history_laws.proofs.PublishedLaws.{sound_after}
use Rattle.mem_base.proofs.EntryLaws.{before_is}
use Rattle.mem_base.proofs.BoolLaws.{true_is_not_false}

-- a list that is put in order

abbrev Other : RegionId → RegionId → Type 0
Other x y = x.0 ≢ y.0

of_less : (a b : ℕ) → nat_cmp a b ≡ Less → a < b
of_less a b e = go (nat_lt a b) refl
  where
    either : (c : Bool) → (if c then Equal else Greater) ≡ Less → ⊥
    either true k = cc
    either false k = cc

    go : (c : Bool) → nat_lt a b ≡ c → a < b
    go true t = ltb-true a b t
    go false t = absurd (either (a == b) (let same : nat_cmp a b ≡ (if a == b then Equal else Greater) = rw t refl in sym same ∙ e))

put_rising : (x : RegionId) (xs : List RegionId) → Every (Other x) xs → IsRising region_order xs → IsRising region_order (put_by region_order x xs)
put_rising x [] h k = (tt, tt)
put_rising x (y ∷ ys) h k = go (nat_cmp x.0 y.0) refl (put_rising x ys h.1 k.1)
  where
    larger : y.0 < x.0 → Every (λ z. region_order y z ≡ Less) (put_by region_order x ys)
    larger l = every_put (λ z. region_order y z ≡ Less) region_order x ys (before_is y.0 x.0 l) k.0

    more : (o : Ordering) → nat_cmp x.0 y.0 ≡ o → (o ≡ Less → ⊥) → y.0 < x.0
    more o e ne = let far : x.0 < y.0 → ⊥ = (λ l. ne (sym e ∙ before_is x.0 y.0 l)) in let other = h.0 in grind (arith, far, other)

    go : (o : Ordering) → nat_cmp x.0 y.0 ≡ o → IsRising region_order (put_by region_order x ys)
        → IsRising region_order (if is_lt o then x ∷ y ∷ ys else y ∷ put_by region_order x ys)
    go Less e rest = (
      (
        e,
        weaker (λ z. region_order y z ≡ Less) (λ z. region_order x z ≡ Less) (λ z t. let l = of_less x.0 y.0 e in
            let m = of_less y.0 z.0 t in before_is x.0 z.0 (omega arith)) ys k.0,
      ),
      k,
    )
    go Equal e rest = (larger (more Equal e (λ q. let f : Equal ≡ Less = q in cc)), rest)
    go Greater e rest = (larger (more Greater e (λ q. let f : Greater ≡ Less = q in cc)), rest)

rising_filter : (test : RegionId → Bool) (xs : List RegionId) → IsRising region_order xs → IsRising region_order (filter test xs)
rising_filter test [] k = tt
rising_filter test (x ∷ xs) k = go (test x) (rising_filter test xs k.1)
  where
    go : (b : Bool) → IsRising region_order (filter test xs) → IsRising region_order (if b then x ∷ filter test xs else filter test xs)
    go true rest = (every_filter (λ y. region_order x y ≡ Less) test xs k.0, rest)
    go false rest = rest

-- a region that is not there, and was made before, does not come back

abbrev pub IsGone : Forest → RegionId → Type 0
IsGone f r = (node_of f.nodes r ≡ None) × (r.0 < f.made)

module _ (f : Forest) (r : RegionId) (k : IsGone f r) where
  none_changed : (q : RegionId) (g : Node → Node) → ((n : Node) → (g n).id ≡ n.id) → node_of (changed_at q g f.nodes) r ≡ None
  none_changed q g same = node_of-changed_at q g same f.nodes r ∙ ap (option_map _) k.0

  gone_still : (g : Forest) (call : Call) → forest_after f call ≡ Ok g → IsGone g r
  gone_still g call e = subst (λ (z : Forest). IsGone z r) (sym (after-accepted f g call e).1) (go call)
    where
      moved_id : (offset placing : ℕ) (n : Node) → (moved offset placing n).id ≡ n.id
      moved_id offset placing n = at (n.offset == offset)
        where
          at : (b : Bool) → (if b then n else record n { offset = offset; placing = placing }).id ≡ n.id
          at true = refl
          at false = refl

      below : r.0 < f.made
      below = k.1

      go : (call : Call) → IsGone (counted (changed f call)) r
      go (calls.Region kind size) = (
        find_push (has_id r) f.nodes (made_region (record { 0 = f.made }) kind size)
            (ne_eqb f.made r.0 (λ s. let l = below in omega arith)) ∙ k.0,
        let l = below in omega arith,
      )
      go (calls.Space space root) = k
      go (calls.Add parent offset child priority) = (none_changed child _ (λ n. refl), below)
      go (calls.Del parent child) = (none_changed child _ (λ n. refl), below)
      go (calls.Move child offset) = (none_changed child (moved offset f.placings) (moved_id offset f.placings), below)
      go (calls.Resize region size) = (none_changed region _ (λ n. refl), below)
      go (calls.Retarget alias offset) = (none_changed alias _ (λ n. refl), below)
      go (calls.Enable region on) = (none_changed region _ (λ n. refl), below)
      go (calls.Readonly region on) = (none_changed region _ (λ n. refl), below)
      go (calls.Nonvolatile region on) = (none_changed region _ (λ n. refl), below)
      go (calls.Romd region on) = (none_changed region _ (λ n. refl), below)
      go (calls.Unmergeable region on) = (none_changed region _ (λ n. refl), below)
      go (calls.Log region client on) = (none_changed region _ (λ n. refl), below)
      go (calls.Global on) = k
      go (calls.Map region iova size space translated perm) = (none_changed region _ (λ n. refl), below)
      go (calls.Unmap region iova) = (none_changed region _ (λ n. refl), below)
      go (calls.Event region event) = (none_changed region _ (λ n. refl), below)
      go (calls.Unevent region offset size matched value) = (none_changed region _ (λ n. refl), below)
      go (calls.Drop region) = (
        dite (ℕ_discrete r.0 region.0)
            (λ s. subst (λ (q : RegionId). node_of (filter (λ n. not (has_id region n)) f.nodes) q ≡ None) (λ i. record { 0 = sym s i })
            (node_of-dropped region f.nodes))
            (λ ne. node_of-without region f.nodes r ne ∙ k.0),
        below,
      )

-- of a desk

pub record AreGone (f : Forest) (rs : List RegionId) : Type 0 where
  pub rising : IsRising region_order rs
  pub gone : Every (IsGone f) rs

abbrev pub Dropped : Desk → Type 0
Dropped m = AreGone m.forest m.dropped

module _ (g : Generations) (d : Desk) (forest : IsOrderedForest d.forest) (k : Dropped d) where
  stay_gone : (f : Forest) (call : Call) → forest_after d.forest call ≡ Ok f → AreGone f d.dropped
  stay_gone f call e = record { rising = k.rising; gone = weaker (IsGone d.forest) (IsGone f) (λ r w. gone_still d.forest r w f call e) d.dropped k.gone }

  -- one more, which is there until now
  drops : (f : Forest) (region : RegionId) → forest_after d.forest (calls.Drop region) ≡ Ok f → AreGone f (put_by region_order region d.dropped)
  drops f region e =
      let ok = after-accepted d.forest f (calls.Drop region) e in
      let each = each_none (refusals d.forest (calls.Drop region) ++ no_more_calls d.forest ∷ []) ok.0 in
      let there = is_known d.forest region each.0 in
      let below = known_below d.forest region forest there in
      let known : IsGone d.forest region → ⊥ =
      (λ w. true_is_not_false (is_some (node_of d.forest.nodes region)) there (ap (λ (o : Option Node). is_some o) w.0)) in record {
        rising = put_rising region d.dropped
            (weaker (IsGone d.forest) (Other region) (λ r w s. known (subst (IsGone d.forest) (λ i. record { 0 = sym s i }) w)) d.dropped k.gone) k.rising;
        gone = every_put (IsGone f) region_order region d.dropped
            (subst (λ (z : Forest). IsGone z region) (sym ok.1) (node_of-dropped region d.forest.nodes, below)) (stay_gone f (calls.Drop region) e).gone;
      }

  unless_dropped : (o : Option Refusal) (m : Desk) (a : Applied) → Dropped m → Dropped (unless_refused o d (settled m a)).desk
  unless_dropped None m a s = s
  unless_dropped (Some why) m a s = k

  backed_dropped : (f : Forest) (r : RegionId) (x : Extent) (o : Option ℕ) → AreGone f d.dropped → Dropped (backed d f r x o).desk
  backed_dropped f r x None w = k
  backed_dropped f r x (Some start) w = w

  made_dropped : (f : Forest) (r : RegionId) (x : Extent) → AreGone f d.dropped → Dropped (made d f r x).desk
  made_dropped f r x w = go (words_of x == 0)
    where
      go : (b : Bool) → Dropped (if b then settled (record d { forest = f }) (Made r) else backed d f r x (first_fit d.pool_words d.places (words_of x))).desk
      go true = w
      go false = backed_dropped f r x (first_fit d.pool_words d.places (words_of x)) w

  kept_back_dropped : (call : Call) (f : Forest) → forest_after d.forest call ≡ Ok f → Dropped (kept_back d call f).desk
  kept_back_dropped (calls.Region kind size) f e = made_dropped f (record { 0 = d.forest.made }) (extent_of kind size) (stay_gone f (calls.Region kind size) e)
  kept_back_dropped (calls.Drop region) f e = drops f region e
  kept_back_dropped call f e = stay_gone f call e

  called_dropped : (call : Call) → Dropped (after_call g d call (forest_after d.forest call)).desk
  called_dropped call = go (forest_after d.forest call) refl
    where
      at : (f : Forest) → forest_after d.forest call ≡ Ok f → (b : Bool)
          → Dropped (if b then publishing g d f (answer_of d.forest call) else kept_back d call f).desk
      at f e true = unless_dropped (held_up g) (readied g d f) (answer_of d.forest call) (stay_gone f call e)
      at f e false = kept_back_dropped call f e

      go : (x : Result Forest Refusal) → forest_after d.forest call ≡ x → Dropped (after_call g d call x).desk
      go (Err why) e = k
      go (Ok f) e = at f e ((d.depth == 0) && not (is_quiet call))

  begun_dropped : Dropped (begun d).desk
  begun_dropped = go (d.depth == most_nested)
    where
      go : (b : Bool) → Dropped (if b then refused_desk d TooNested else settled (record d { depth = d.depth + 1 }) Done).desk
      go true = k
      go false = k

  committed_dropped : Dropped (committed g d).desk
  committed_dropped = go (d.depth == 0)
    where
      inner : (b : Bool) → Dropped (if b then publishing g d d.forest Done else settled (record d { depth = d.depth - 1 }) Done).desk
      inner true = unless_dropped (held_up g) (readied g d d.forest) Done k
      inner false = k

      go : (b : Bool) → Dropped (if b then refused_desk d NoTransaction else if (d.depth == 1) && d.pending then publishing g d d.forest Done
          else settled (record d { depth = d.depth - 1 }) Done).desk
      go true = k
      go false = inner ((d.depth == 1) && d.pending)

  either_dropped : (b : Bool) (x : Listening) (m : Desk) → Dropped m → Dropped (if b then record d { listening = x } else m)
  either_dropped true x m s = k
  either_dropped false x m s = s

  without_dropped : (ls : List Listener) (id : ListenerId) → Dropped (without_listener ls id g d)
  without_dropped [] id = k
  without_dropped (l ∷ ls) id = either_dropped (l.listener.0 == id.0) _ (without_listener ls id g d) (without_dropped ls id)

  configured_dropped : (c : Config) → Dropped (configured g d c).desk
  configured_dropped configs.Begin = begun_dropped
  configured_dropped (configs.Call call) = called_dropped call
  configured_dropped configs.Commit = committed_dropped
  configured_dropped (configs.Listen listener space priority) = unless_dropped _ _ Done k
  configured_dropped (configs.Unlisten id) = unless_dropped _ _ Done (without_dropped d.listening.listeners id)

pub dropped_after : (w : World) (e : Event) (n : ℕ) → IsSoundDesk w.writer.desk → Dropped w.writer.desk → Dropped (after_telling w e n).writer.desk
dropped_after w (events.Config c) n s k = configured_dropped w.writer.generations w.writer.desk s.forest k c
dropped_after w events.Reap n s k = let d = w.writer.desk in record {
  rising = rising_filter (is_named w.writer.generations) d.dropped k.rising;
  gone = every_filter (IsGone d.forest) (is_named w.writer.generations) d.dropped k.gone;
}
dropped_after w _ n s k = k

dropped_from : (w : World) (xs : List PureEntry) → IsSoundDesk w.writer.desk → Dropped w.writer.desk → IsLegalFrom w xs
    → Dropped (after_entries w xs).writer.desk
dropped_from w [] s k l = k
dropped_from w (x ∷ xs) s k l = dropped_from (after_entry w x) xs (sound_after w x.event (number_in x.reply) l.0 s)
    (dropped_after w x.event (number_in x.reply) s k) l.2

pub regions_are_dropped_once : (pool_words passes : ℕ) (xs : List PureEntry) → IsLegal pool_words passes xs
    → DropsOnce (after_entries (opening pool_words passes) xs).writer
regions_are_dropped_once pool_words passes xs l =
    let h = (after_entries (opening pool_words passes) xs).writer in
    let k = dropped_from (opening pool_words passes) xs (opens_idle pool_words passes).sound (record { rising = tt; gone = tt }) l in record {
      rising = k.rising;
      gone = k.gone;
      released = rising_filter (λ r. not (is_named h.generations r)) h.desk.dropped k.rising;
    }
