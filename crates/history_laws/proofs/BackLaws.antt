-- In every legal history the desk's places back its forest, and each generation shows just its own.
use Rattle.std.proofs.Common.{◌≡◌, ◌⊎◌, ℕ, ◌+◌, ◌<◌, ◌≤◌, ne_eqb, eq-eqb, Bool, true, false, ◌&&◌, cond, List, [], ◌∷◌, ◌++◌, sym, refl, ap}
use Rattle.std.proofs.Common.{◌∙◌, subst, inl, inr, arith, if◌then◌else◌, Option, Some, None}
use Rattle.std.specs.Prelude.{◌==◌, ◌^◌, ◌-◌, not, filter, option_map, is_some, IsSome, Result, Ok, Err}
use Rattle.std.proofs.lemmas.Bool.{eqb-true, eqb-false, and_parts, not-true, not_from_false}
use mathlib.Core.Logic.{dite}
use native.Mathlib.Decide.{ℕ_discrete}
use Rattle.mem_base.specs.declared.map.ids.RegionId.{RegionId}
use Rattle.mem_base.specs.declared.map.ids.ListenerId.{ListenerId}
use Rattle.mem_base.specs.declared.map.forests.Node.{Node}
use Rattle.mem_base.specs.declared.map.forests.Forest.{Forest}
use Rattle.mem_base.specs.declared.map.kinds.Kind.{Kind}
use Rattle.mem_base.specs.declared.map.kinds.Kind.TheVariants.{Ram, Rom, RomDevice, Alias}
use Rattle.mem_base.specs.declared.map.calls.Applied.{Applied}
use Rattle.mem_base.specs.declared.map.calls.Applied.TheVariants.{Done, Made}
use Rattle.mem_base.specs.declared.map.calls.Call.{Call}
use Rattle.mem_base.specs.declared.map.calls.Call.TheVariants as calls
use Rattle.mem_base.specs.declared.map.refusals.Refusal.{Refusal}
use Rattle.mem_base.specs.declared.map.refusals.Refusal.TheVariants.{WrongKind, NoTransaction, TooNested}
use Rattle.mem_base.specs.declared.access.cells.Place.{Place}
use Rattle.mem_base.specs.lists.Every.{Every, EveryPair}
use Rattle.mem_base.specs.map.Limits.{most_made}
use Rattle.mem_base.specs.map.Region.{has_id, node_of}
use Rattle.mem_base.specs.map.Kinds.{is_memory}
use Rattle.mem_base.specs.map.Refusals.{wrong_kind, refuse_where}
use Rattle.mem_base.specs.map.TableRefusals.{no_more_calls}
use Rattle.mem_base.specs.map.Edits.{retargeted, edited}
use Rattle.mem_base.specs.map.Calls.{after as forest_after, refusals, counted, answer_of, is_quiet}
use Rattle.mem_base.specs.map.Changes.{changed, changed_at, moved, made_region}
use Rattle.mem_base.specs.access.PlacesByRegion.{place_in}
use Rattle.mem_base.specs.access.Places.{Extent, extent_of, words_of, place_from, past, is_notifiers, notifiers_place, first_fit}
use Rattle.mem_base.specs.access.EditionPlaces.{ArePlacesApart}
use Rattle.mem_base.specs.declared.map.calls.Config.{Config}
use Rattle.mem_base.specs.declared.map.calls.Config.TheVariants as configs
use Rattle.mem_base.specs.declared.views.listening.Listener.{Listener}
use Rattle.mem_base.specs.map.Limits.{most_nested}
use Rattle.mem_base.specs.views.Listening.{Listening}
use Rattle.mem_base.specs.machine.Generations.{Generations}
use Rattle.mem_base.specs.machine.Desk.{Desk}
use Rattle.mem_base.specs.machine.Reaps.{Writer, is_named, is_among, released, reaped}
use Rattle.mem_base.specs.machine.Publishing.{settled, refused_desk, unless_refused, held_up, readied, publishing}
use Rattle.mem_base.specs.machine.Configs.{configured, made, backed, kept_back, after_call, begun, committed, without_listener}
use Rattle.mem_base.proofs.EveryLaws.{weaker, every_push, every_filter}
use Rattle.mem_base.proofs.ForestLaws.{known_below, id_of}
use Rattle.mem_base.proofs.JoinLaws.{node_of-changed_at}
use Rattle.map_laws.proofs.PairLaws.{pairs_push}
use Rattle.map_laws.proofs.DropLaws.{node_of-without, node_of-dropped}
use Rattle.map_laws.proofs.RefusalLaws.{each_none, refuse_if-none}
use Rattle.map_laws.proofs.CallLaws.{after-accepted}
use Rattle.view_laws.proofs.Tests.{none_is_not_some, same_region}
use Rattle.view_laws.proofs.LiveLaws.{In, every_in}
use Rattle.view_laws.proofs.SortedLaws.{each_in, append_right, filter_in, filter_out, any_found}
use Rattle.history_laws.specs.BackedForests.{BacksForest}
use Rattle.history_laws.proofs.FitLaws.{Fits, fits, clear}
use Rattle.history_laws.proofs.Idles.{IsSoundDesk}
use Rattle.history_laws.proofs.DroppedLaws.{Dropped}
use Rattle.history_laws.proofs.PlaceLaws.{place_some, place_of_region, some_is}
use Rattle.map_laws.proofs.MoveLaws.{moved_id}
use Rattle.mem_base.proofs.SortingLaws.{pairs_filter}
use Rattle.std.proofs.lemmas.Option.{same_Some}
use Rattle.mem_base.proofs.BoolLaws.{true_is_not_false}

abbrev pub extent_at : Node → Extent
extent_at n = extent_of n.kind n.size

-- what an accepted call other than Region leaves of the extents

abbrev pub makes : Call → Bool
makes (calls.Region kind size) = true
makes _ = false

-- a region after a change was there before, and has the same extent
abbrev KeepsExtents : List Node → List Node → Type 0
KeepsExtents old new = (q : RegionId) (m : Node) → node_of new q ≡ Some m → (n : Node) × (node_of old q ≡ Some n) × (extent_at m ≡ extent_at n)

changed_keeps : (nodes : List Node) (r : RegionId) (h : Node → Node) → ((n : Node) → (h n).id ≡ n.id)
    → ((n : Node) → node_of nodes r ≡ Some n → extent_at (h n) ≡ extent_at n) → KeepsExtents nodes (changed_at r h nodes)
changed_keeps nodes r h id same q m e = go (node_of nodes q) refl (sym (node_of-changed_at r h id nodes q) ∙ e)
  where
    at : (n : Node) → node_of nodes q ≡ Some n → (b : Bool) → has_id r n ≡ b → cond b (h n) n ≡ m → extent_at m ≡ extent_at n
    at n d true t e =
        let mine : q ≡ r = sym (id_of nodes q n d) ∙ same_region n.id r (eqb-true _ _ t) in
        subst (λ (w : Node). extent_at w ≡ extent_at n) e (same n (ap (λ (z : RegionId). node_of nodes z) (sym mine) ∙ d))
    at n d false t e = ap extent_at (sym e)

    go : (o : Option Node) → node_of nodes q ≡ o → option_map (λ n. cond (has_id r n) (h n) n) o ≡ Some m
        → (n : Node) × (node_of nodes q ≡ Some n) × (extent_at m ≡ extent_at n)
    go None d e = none_is_not_some m e
    go (Some n) d e = (n, d, at n d (has_id r n) refl (same_Some (cond (has_id r n) (h n) n) m e))

moved_extent : (offset placing : ℕ) (n : Node) → extent_at (moved offset placing n) ≡ extent_at n
moved_extent offset placing n = go (n.offset == offset)
  where
    go : (b : Bool) → extent_at (if b then n else record n { offset = offset; placing = placing }) ≡ extent_at n
    go true = refl
    go false = refl

retargeted_extent : (offset : ℕ) (k : Kind) (size : ℕ) → extent_of (retargeted offset k) size ≡ extent_of k size
retargeted_extent offset (Alias target old) size = refl
retargeted_extent offset _ size = refl

-- only regions that are no memory are resized
resized_extent : (k : Kind) (old new : ℕ) → is_memory k ≡ false → extent_of k new ≡ extent_of k old
resized_extent Ram old new h = absurd (grind arith)
resized_extent Rom old new h = absurd (grind arith)
resized_extent (RomDevice d) old new h = absurd (grind arith)
resized_extent _ old new h = refl

no_memory : (f : Forest) (region : RegionId) (n : Node) → wrong_kind (λ k. not (is_memory k)) f region ≡ None → node_of f.nodes region ≡ Some n
    → is_memory n.kind ≡ false
no_memory f region n h e =
    let k : refuse_where (λ n. not (not (is_memory n.kind))) (WrongKind region) (Some n) ≡ None =
    subst (λ (o : Option Node). refuse_where (λ n. not (not (is_memory n.kind))) (WrongKind region) o ≡ None) e h in
    go (is_memory n.kind) (refuse_if-none (not (not (is_memory n.kind))) (WrongKind region) k)
  where
    go : (b : Bool) → not (not b) ≡ false → b ≡ false
    go true h = absurd (grind arith)
    go false h = refl

call_keeps : (f g : Forest) (call : Call) → forest_after f call ≡ Ok g → makes call ≡ false → KeepsExtents f.nodes g.nodes
call_keeps f g call e plain = let ok = after-accepted f g call e in
    subst (λ (z : Forest). KeepsExtents f.nodes z.nodes) (sym ok.1) (go call plain (each_none (refusals f call ++ no_more_calls f ∷ []) ok.0))
  where
    go : (call : Call) → makes call ≡ false → Every (λ x. x ≡ None) (refusals f call ++ no_more_calls f ∷ [])
        → KeepsExtents f.nodes (counted (changed f call)).nodes
    go (calls.Region kind size) h each = absurd (grind arith)
    go (calls.Space space root) h each = λ q m e. (m, e, refl)
    go (calls.Add parent offset child priority) h each = changed_keeps f.nodes child _ (λ n. refl) (λ n e. refl)
    go (calls.Del parent child) h each = changed_keeps f.nodes child _ (λ n. refl) (λ n e. refl)
    go (calls.Move child offset) h each =
        changed_keeps f.nodes child (moved offset f.placings) (moved_id offset f.placings) (λ n e. moved_extent offset f.placings n)
    go (calls.Resize region size) h each = changed_keeps f.nodes region (edited (calls.Resize region size)) (λ n. refl)
        (λ n e. resized_extent n.kind n.size size (no_memory f region n each.1.0 e))
    go (calls.Retarget alias offset) h each = changed_keeps f.nodes alias (edited (calls.Retarget alias offset)) (λ n. refl)
        (λ n e. retargeted_extent offset n.kind n.size)
    go (calls.Enable region on) h each = changed_keeps f.nodes region _ (λ n. refl) (λ n e. refl)
    go (calls.Readonly region on) h each = changed_keeps f.nodes region _ (λ n. refl) (λ n e. refl)
    go (calls.Nonvolatile region on) h each = changed_keeps f.nodes region _ (λ n. refl) (λ n e. refl)
    go (calls.Unmergeable region on) h each = changed_keeps f.nodes region _ (λ n. refl) (λ n e. refl)
    go (calls.Romd region on) h each = changed_keeps f.nodes region _ (λ n. refl) (λ n e. refl)
    go (calls.Log region client on) h each = changed_keeps f.nodes region _ (λ n. refl) (λ n e. refl)
    go (calls.Global on) h each = λ q m e. (m, e, refl)
    go (calls.Map region iova size space translated perm) h each = changed_keeps f.nodes region _ (λ n. refl) (λ n e. refl)
    go (calls.Unmap region iova) h each = changed_keeps f.nodes region _ (λ n. refl) (λ n e. refl)
    go (calls.Event region event) h each = changed_keeps f.nodes region _ (λ n. refl) (λ n e. refl)
    go (calls.Unevent region offset size matched value) h each = changed_keeps f.nodes region _ (λ n. refl) (λ n e. refl)
    go (calls.Drop region) h each = λ q m e. dite (ℕ_discrete q.0 region.0)
        (λ s. none_is_not_some m (sym (subst (λ (x : RegionId). node_of (filter (λ n. not (has_id region n)) f.nodes) x ≡ None) (λ i. record { 0 = sym s i })
        (node_of-dropped region f.nodes)) ∙ e))
        (λ ne. (m, sym (node_of-without region f.nodes q ne) ∙ e, refl))

-- places that back a forest back it after such a call
pub still_backs : (pool_words : ℕ) (f g : Forest) (places : List Place) → KeepsExtents f.nodes g.nodes → BacksForest pool_words f places
    → BacksForest pool_words g places
still_backs pool_words f g places keeps k = record {
  regions = λ region m e some. let t = keeps region m e in k.regions region t.0 t.1 (subst (λ (x : Extent). 0 < words_of x) t.2 some);
  fits = each_in (λ p. (n : Node) → node_of g.nodes p.region ≡ Some n → p ≡ place_from p.region p.start (extent_at n)) places
      (λ p l m e. let t = keeps p.region m e in
      every_in (λ (q : Place). (n : Node) → node_of f.nodes q.region ≡ Some n → q ≡ place_from q.region q.start (extent_at n)) p places k.fits l t.0 t.1
      ∙ ap (λ (x : Extent). place_from p.region p.start x) (sym t.2));
  inside = k.inside;
  apart = k.apart;
}

pub backs_after : (pool_words : ℕ) (f g : Forest) (call : Call) (places : List Place) → forest_after f call ≡ Ok g → makes call ≡ false
    → BacksForest pool_words f places → BacksForest pool_words g places
backs_after pool_words f g call places e plain k = still_backs pool_words f g places (call_keeps f g call e plain) k

-- a new region

-- what stands last in a list of regions, where no other has its id
node_last : (nodes : List Node) (x m : Node) (q : RegionId) → node_of (nodes ++ x ∷ []) q ≡ Some m → (node_of nodes q ≡ Some m) ⊎ ((m ≡ x) × (q ≡ x.id))
node_last [] x m q e = go (has_id q x) refl e
  where
    go : (b : Bool) → has_id q x ≡ b → (if b then Some x else None) ≡ Some m → (None ≡ Some m) ⊎ ((m ≡ x) × (q ≡ x.id))
    go true t e = inr (sym (same_Some x m e), sym (same_region x.id q (eqb-true _ _ t)))
    go false t e = none_is_not_some m e
node_last (n ∷ ns) x m q e = go (has_id q n) e (node_last ns x m q)
  where
    go : (b : Bool) → (if b then Some n else node_of (ns ++ x ∷ []) q) ≡ Some m
        → (node_of (ns ++ x ∷ []) q ≡ Some m → (node_of ns q ≡ Some m) ⊎ ((m ≡ x) × (q ≡ x.id)))
        → ((if b then Some n else node_of ns q) ≡ Some m) ⊎ ((m ≡ x) × (q ≡ x.id))
    go true e rest = inl e
    go false e rest = rest e

place_more : (ps : List Place) (p : Place) (r : RegionId) → IsSome (place_in ps r) → IsSome (place_in (ps ++ p ∷ []) r)
place_more [] p r h = absurd (grind arith)
place_more (q ∷ qs) p r h = go (q.region.0 == r.0) h (place_more qs p r)
  where
    go : (b : Bool) → IsSome (if b then Some q else place_in qs r) → (IsSome (place_in qs r) → IsSome (place_in (qs ++ p ∷ []) r))
        → IsSome (if b then Some q else place_in (qs ++ p ∷ []) r)
    go true h rest = refl
    go false h rest = rest h

-- of places that are apart, each is the one of its region, also with more after it
place_itself : (ps others : List Place) → EveryPair ArePlacesApart ps → (q : Place) → In q ps → place_in (ps ++ others) q.region ≡ Some q
place_itself [] others a q m = absurd m
place_itself (p ∷ ps) others a q (inl e) = go (p.region.0 == q.region.0) (eq-eqb p.region.0 q.region.0 (ap (λ (x : Place). x.region.0) (sym e)))
  where
    go : (b : Bool) → b ≡ true → (if b then Some p else place_in (ps ++ others) q.region) ≡ Some q
    go true h = ap (λ (x : Place). Some x) (sym e)
    go false h = absurd (grind arith)
place_itself (p ∷ ps) others a q (inr m) =
    rw (ne_eqb p.region.0 q.region.0 (every_in (ArePlacesApart p) q ps a.0 m).0) (place_itself ps others a.1 q m)

module _ (pool_words : ℕ) (f : Forest) (places : List Place) (few : f.made ≤ most_made)
    (below : (q : RegionId) (n : Node) → node_of f.nodes q ≡ Some n → q.0 < f.made) (made_before : Every (λ p. p.region.0 < f.made) places)
    (k : BacksForest pool_words f places) (kind : Kind) (size : ℕ) where
  abbrev new : RegionId
  new = record { 0 = f.made }

  abbrev node : Node
  node = made_region new kind size

  abbrev after : Forest
  after = record f { nodes = f.nodes ++ node ∷ []; made = f.made + 1; calls = f.calls + 1 }

  old_place : (p : Place) → In p places → p.region.0 < f.made
  old_place p m = every_in (λ (q : Place). q.region.0 < f.made) p places made_before m

  old_fits : (p : Place) → In p places → (n : Node) → node_of after.nodes p.region ≡ Some n → p ≡ place_from p.region p.start (extent_at n)
  old_fits p m n e = go (node_last f.nodes node n p.region e)
    where
      go : (node_of f.nodes p.region ≡ Some n) ⊎ ((n ≡ node) × (p.region ≡ new)) → p ≡ place_from p.region p.start (extent_at n)
      go (inl h) = every_in (λ (q : Place). (n : Node) → node_of f.nodes q.region ≡ Some n → q ≡ place_from q.region q.start
          (extent_at n)) p places k.fits m n h
      go (inr t) = absurd (let l = old_place p m in let s = ap (λ (r : RegionId). r.0) t.1 in omega arith)

  -- one without words has no place
  pub without_words : words_of (extent_of kind size) ≡ 0 → BacksForest pool_words after places
  without_words none = record {
    regions = λ r n e some. go r n (node_last f.nodes node n r e) some;
    fits = each_in (λ p. (n : Node) → node_of after.nodes p.region ≡ Some n → p ≡ place_from p.region p.start (extent_at n)) places old_fits;
    inside = k.inside;
    apart = k.apart;
  }
    where
      go : (r : RegionId) (n : Node) → (node_of f.nodes r ≡ Some n) ⊎ ((n ≡ node) × (r ≡ new)) → 0 < words_of (extent_at n) → IsSome (place_in places r)
      go r n (inl h) some = k.regions r n h some
      go r n (inr t) some = absurd (let s = ap (λ (x : Node). words_of (extent_at x)) t.0 in omega arith)

  -- one with words goes into a hole
  pub with_words : (start : ℕ) → 0 < words_of (extent_of kind size) → first_fit pool_words places (words_of (extent_of kind size)) ≡ Some start
      → BacksForest pool_words after (places ++ place_from new start (extent_of kind size) ∷ [])
  with_words start some fit = record {
    regions = λ r n e some. go r n (node_last f.nodes node n r e) some;
    fits = every_push (λ q. (n : Node) → node_of after.nodes q.region ≡ Some n → q ≡ place_from q.region q.start (extent_at n)) places p
        (each_in (λ p. (n : Node) → node_of after.nodes p.region ≡ Some n → p ≡ place_from p.region p.start (extent_at n)) places old_fits)
        (λ n e. its_own n e);
    inside = every_push (λ q. (is_notifiers q.region ≡ false) × (0 < q.words) × (past q ≤ pool_words)) places p k.inside
        (ne_eqb f.made (2 ^ 32 - 1) (λ e. let l = few in omega arith), some, (let l = in_hole.inside in omega arith));
    apart = pairs_push ArePlacesApart places p (each_in (λ q. ArePlacesApart q p) places apart_from) k.apart;
  }
    where
      p : Place
      p = place_from new start (extent_of kind size)

      in_hole : Fits pool_words (words_of (extent_of kind size)) start places
      in_hole = fits pool_words (words_of (extent_of kind size)) start places fit

      go : (r : RegionId) (n : Node) → (node_of f.nodes r ≡ Some n) ⊎ ((n ≡ node) × (r ≡ new)) → 0 < words_of (extent_at n)
          → IsSome (place_in (places ++ p ∷ []) r)
      go r n (inl h) some = place_more places p r (k.regions r n h some)
      go r n (inr t) some = subst (λ (q : RegionId). IsSome (place_in (places ++ p ∷ []) q)) (sym t.1)
          (place_some (places ++ p ∷ []) p (append_right p places (p ∷ []) (inl refl)))

      its_own : (n : Node) → node_of after.nodes new ≡ Some n → p ≡ place_from p.region p.start (extent_at n)
      its_own n e = at (node_last f.nodes node n new e)
        where
          at : (node_of f.nodes new ≡ Some n) ⊎ ((n ≡ node) × (new ≡ new)) → p ≡ place_from p.region p.start (extent_at n)
          at (inl h) = absurd (let l = below new n h in omega arith)
          at (inr t) = ap (λ (x : Node). place_from new start (extent_at x)) (sym t.0)

      apart_from : (q : Place) → In q places → ArePlacesApart q p
      apart_from q m = let l = old_place q m in (
        (λ e. omega arith),
        turn (clear pool_words (words_of (extent_of kind size)) start places some in_hole
            (weaker (λ q. (is_notifiers q.region ≡ false) × (0 < q.words) × (past q ≤ pool_words)) (λ q. 0 < q.words) (λ q h. h.1) places k.inside)
            q.region q (place_itself places (notifiers_place pool_words ∷ []) k.apart q m)),
      )
        where
          turn : (start + words_of (extent_of kind size) ≤ q.start) ⊎ (q.start + q.words ≤ start) → (past q ≤ p.start) ⊎ (past p ≤ q.start)
          turn (inl l) = inr l
          turn (inr l) = inl l

-- of a desk

abbrev pub Backs : ℕ → Desk → Type 0
Backs pool_words m = (m.pool_words ≡ pool_words) × BacksForest pool_words m.forest m.places

is_made_quiet : (call : Call) → makes call ≡ true → is_quiet call ≡ true
is_made_quiet (calls.Region kind size) h = refl
is_made_quiet call h = absurd (grind arith)

module _ (pool_words : ℕ) (g : Generations) (d : Desk) (sound : IsSoundDesk d) (k : Backs pool_words d) where
  unless_backs : (o : Option Refusal) (m : Desk) (a : Applied) → Backs pool_words m → Backs pool_words (unless_refused o d (settled m a)).desk
  unless_backs None m a s = s
  unless_backs (Some why) m a s = k

  changed_backs : (call : Call) (f : Forest) → forest_after d.forest call ≡ Ok f → makes call ≡ false → BacksForest pool_words f d.places
  changed_backs call f e plain = backs_after pool_words d.forest f call d.places e plain k.1

  below : (q : RegionId) (n : Node) → node_of d.forest.nodes q ≡ Some n → q.0 < d.forest.made
  below q n e = known_below d.forest q sound.forest (ap (λ (o : Option Node). is_some o) e)

  module _ (kind : Kind) (size : ℕ) (f : Forest) (e : forest_after d.forest (calls.Region kind size) ≡ Ok f) where
    abbrev r : RegionId
    r = record { 0 = d.forest.made }

    abbrev x : Extent
    x = extent_of kind size

    is_forest : after pool_words d.forest d.places sound.few below sound.places k.1 kind size ≡ f
    is_forest = sym (after-accepted d.forest f (calls.Region kind size) e).1

    backed_backs : (o : Option ℕ) → first_fit d.pool_words d.places (words_of x) ≡ o → 0 < words_of x → Backs pool_words (backed d f r x o).desk
    backed_backs None fit some = k
    backed_backs (Some start) fit some = (
      k.0,
      subst (λ (z : Forest). BacksForest pool_words z (d.places ++ place_from r start x ∷ [])) is_forest
          (with_words pool_words d.forest d.places sound.few below sound.places k.1 kind size start some
          (subst (λ (n : ℕ). first_fit n d.places (words_of x) ≡ Some start) k.0 fit)),
    )

    made_backs : Backs pool_words (made d f r x).desk
    made_backs = go (words_of x == 0) refl
      where
        go : (b : Bool) → (words_of x == 0) ≡ b
            → Backs pool_words (if b then settled (record d { forest = f }) (Made r) else backed d f r x (first_fit d.pool_words d.places (words_of x))).desk
        go true t = (
          k.0,
          subst (λ (z : Forest). BacksForest pool_words z d.places) is_forest
              (without_words pool_words d.forest d.places sound.few below sound.places k.1 kind size (eqb-true _ _ t)),
        )
        go false t = backed_backs (first_fit d.pool_words d.places (words_of x)) refl (let ne : words_of x ≡ 0 → ⊥ = eqb-false _ _ t in omega arith)

  kept_back_backs : (call : Call) (f : Forest) → forest_after d.forest call ≡ Ok f → Backs pool_words (kept_back d call f).desk
  kept_back_backs (calls.Region kind size) f e = made_backs kind size f e
  kept_back_backs (calls.Drop region) f e = (k.0, changed_backs (calls.Drop region) f e refl)
  kept_back_backs call f e = (k.0, changed_backs call f e refl)

  called_backs : (call : Call) → Backs pool_words (after_call g d call (forest_after d.forest call)).desk
  called_backs call = go (forest_after d.forest call) refl
    where
      plain : (b : Bool) → makes call ≡ b → ((d.depth == 0) && not (is_quiet call)) ≡ true → makes call ≡ false
      plain false h t = h
      plain true h t = true_is_not_false (is_quiet call) (is_made_quiet call h) (not-true (is_quiet call) (and_parts _ _ t).1)

      at : (f : Forest) → forest_after d.forest call ≡ Ok f → (b : Bool) → ((d.depth == 0) && not (is_quiet call)) ≡ b
          → Backs pool_words (if b then publishing g d f (answer_of d.forest call) else kept_back d call f).desk
      at f e true t = unless_backs (held_up g) (readied g d f) (answer_of d.forest call) (k.0, changed_backs call f e (plain (makes call) refl t))
      at f e false t = kept_back_backs call f e

      go : (o : Result Forest Refusal) → forest_after d.forest call ≡ o → Backs pool_words (after_call g d call o).desk
      go (Err why) e = k
      go (Ok f) e = at f e ((d.depth == 0) && not (is_quiet call)) refl

  begun_backs : Backs pool_words (begun d).desk
  begun_backs = go (d.depth == most_nested)
    where
      go : (b : Bool) → Backs pool_words (if b then refused_desk d TooNested else settled (record d { depth = d.depth + 1 }) Done).desk
      go true = k
      go false = k

  committed_backs : Backs pool_words (committed g d).desk
  committed_backs = go (d.depth == 0)
    where
      inner : (b : Bool) → Backs pool_words (if b then publishing g d d.forest Done else settled (record d { depth = d.depth - 1 }) Done).desk
      inner true = unless_backs (held_up g) (readied g d d.forest) Done k
      inner false = k

      go : (b : Bool) → Backs pool_words (if b then refused_desk d NoTransaction
          else if (d.depth == 1) && d.pending then publishing g d d.forest Done else settled (record d { depth = d.depth - 1 }) Done).desk
      go true = k
      go false = inner ((d.depth == 1) && d.pending)

  either_backs : (b : Bool) (x : Listening) (m : Desk) → Backs pool_words m → Backs pool_words (if b then record d { listening = x } else m)
  either_backs true x m s = k
  either_backs false x m s = s

  without_backs : (ls : List Listener) (id : ListenerId) → Backs pool_words (without_listener ls id g d)
  without_backs [] id = k
  without_backs (l ∷ ls) id = either_backs (l.listener.0 == id.0) _ (without_listener ls id g d) (without_backs ls id)

  pub configured_backs : (c : Config) → Backs pool_words (configured g d c).desk
  configured_backs configs.Begin = begun_backs
  configured_backs (configs.Call call) = called_backs call
  configured_backs configs.Commit = committed_backs
  configured_backs (configs.Listen listener space priority) = unless_backs _ _ Done k
  configured_backs (configs.Unlisten id) = unless_backs _ _ Done (without_backs d.listening.listeners id)

-- a reap takes away places of regions that are no more

place_kept : (test : RegionId → Bool) (ps : List Place) (r : RegionId) → test r ≡ true → IsSome (place_in ps r)
    → IsSome (place_in (filter (λ p. test p.region) ps) r)
place_kept test ps r t h =
    let q = some_is (place_in ps r) h in let m = place_of_region ps r q.0 q.1 in
    subst (λ (z : RegionId). IsSome (place_in (filter (λ p. test p.region) ps) z)) m.1
    (place_some (filter (λ p. test p.region) ps) q.0 (filter_out (λ p. test p.region) q.0 ps m.0 (subst (λ (z : RegionId). test z ≡ true) (sym m.1) t)))

pub reap_backs : (pool_words : ℕ) (h : Writer) → Dropped h.desk → Backs pool_words h.desk → Backs pool_words (reaped h)
reap_backs pool_words h gone k = (
  k.0,
  record {
    regions = λ r n e some. place_kept kept h.desk.places r (there r n e) (k.1.regions r n e some);
    fits = every_filter (λ p. (n : Node) → node_of h.desk.forest.nodes p.region ≡ Some n → p ≡ place_from p.region p.start (extent_at n))
        (λ p. kept p.region) h.desk.places k.1.fits;
    inside = every_filter (λ p. (is_notifiers p.region ≡ false) × (0 < p.words) × (past p ≤ pool_words)) (λ p. kept p.region) h.desk.places k.1.inside;
    apart = pairs_filter ArePlacesApart (λ p. kept p.region) h.desk.places k.1.apart;
  },
)
  where
    kept : RegionId → Bool
    kept r = not (is_among (released h) r)

    -- a region that is there is not among the dropped ones
    there : (r : RegionId) (n : Node) → node_of h.desk.forest.nodes r ≡ Some n → not (is_among (released h) r) ≡ true
    there r n e = not_from_false _ (go (is_among (released h) r) refl)
      where
        go : (b : Bool) → is_among (released h) r ≡ b → is_among (released h) r ≡ false
        go false t = t
        go true t =
            let q = any_found (λ (z : RegionId). z.0 == r.0) (released h) t in
            let m = (filter_in (λ z. not (is_named h.generations z)) q.0 h.desk.dropped q.1).0 in
            let none = (every_in (λ (z : RegionId). (node_of h.desk.forest.nodes z ≡ None) × (z.0 < h.desk.forest.made)) q.0 h.desk.dropped gone.gone m).0 in
            let same : q.0 ≡ r = same_region q.0 r (eqb-true _ _ q.2) in
            none_is_not_some n (sym (subst (λ (z : RegionId). node_of h.desk.forest.nodes z ≡ None) same none) ∙ e)
