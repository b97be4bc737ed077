-- Where no piece reaches past its range, an access reaches the same by its chunks as by the rounds of QEMU's core.
use Rattle.std.proofs.Common.{◌≡◌, ℕ, zero, suc, ◌+◌, ◌-◌, ◌<◌, ◌≤◌, ◌&&◌, not, Bool, true, false, List, [], ◌∷◌, ◌++◌, Option, Some, None, ◌⊎◌, inl, inr}
use Rattle.std.proofs.Common.{if◌then◌else◌, refl, sym, ap, subst, ◌∙◌, arith, append_assoc}
use Rattle.std.specs.Prelude.{flat_map}
use Rattle.std.proofs.lemmas.Bool.{cases_lt, and_parts}
use Rattle.mem_base.specs.declared.map.kinds.Device.{Device}
use Rattle.mem_base.specs.map.Kinds.{device_of}
use Rattle.mem_base.specs.map.Devices.{is_good_device}
use Rattle.mem_base.specs.map.TableRefusals.{bad_device}
use Rattle.mem_base.proofs.ForestLaws.{every_node_of}
use Rattle.map_laws.proofs.RefusalLaws.{refuse_if-none}
use Rattle.mem_base.specs.declared.map.ids.RegionId.{RegionId}
use Rattle.mem_base.specs.declared.map.ids.SpaceId.{SpaceId}
use Rattle.mem_base.specs.declared.map.forests.Node.{Node}
use Rattle.mem_base.specs.declared.map.forests.Forest.{Forest}
use Rattle.mem_base.specs.declared.map.spots.Spot.{Spot}
use Rattle.mem_base.specs.declared.map.kinds.Kind.{Kind}
use Rattle.mem_base.specs.declared.map.kinds.Kind.TheVariants.{Ram, Rom, RomDevice, Io}
use Rattle.mem_base.specs.declared.map.kinds.Ops.{Ops}
use Rattle.mem_base.specs.declared.map.ioevents.Ioevent.{Ioevent}
use Rattle.mem_base.specs.declared.access.accesses.Target.{Target}
use Rattle.mem_base.specs.declared.access.accesses.Target.TheVariants.{Leaf, Unassigned}
use Rattle.mem_base.specs.lists.Runs.{run, runs}
use Rattle.mem_base.specs.map.Limits.{most_translations}
use Rattle.mem_base.specs.map.Region.{node_of}
use Rattle.mem_base.specs.map.Forest.{IsRegion, IsClosedForest}
use Rattle.mem_base.specs.access.Pieces.{piece, size_at, is_valid}
use Rattle.mem_base.specs.declared.map.translations.Entry.{Entry}
use Rattle.mem_base.specs.access.Trails.{Hop, trail_of, shares_next, chunks, first_length}
use Rattle.mem_base.specs.access.AccessSteps.{Transfer, reading, writing, is_write, length_of, part}
use Rattle.mem_base.specs.access.Plans.{Reached, Answerer, by_memory, by_device, by_nobody, by_memory_unless, answerer_at, answerer_in, answerer, in_piece, in_device, reached, in_chunk, plan}
use Rattle.mem_base.specs.access.CorePlans.{in_page, in_pages, taken_by, reached_at_once, plan_of_core}
use Rattle.iommu.specs.Ways.{further}
use Rattle.access_cut.proofs.PieceLaws.{size_some}
use Rattle.access_base.specs.Sizes.{IsSize}
use Rattle.access_base.proofs.DeviceLaws.{size_so}
use Rattle.access_base.proofs.RunLaws.{first_run}
use Rattle.plan_laws.specs.CoreLaws.{NoWindowShuts, PlansAgree, OneChunkAgrees, EndsEven, RangesEndEven, EvenRangesAgree}
use Rattle.plan_laws.proofs.ShownRounds.{StaysFrom, in_round, rounds_as_shown, rounds_from, stays_as_shown, taken}
use Rattle.plan_laws.proofs.FirstRuns.{IsFirst, first_is}
use Rattle.plan_laws.proofs.Sizes.{size_less, same_size, size_even}
use Rattle.plan_laws.proofs.Parts.{same_kind, part_length, device_then}
use Rattle.plan_laws.proofs.Ways.{along_itself, own_trail, on_route, leads_along, hops_pages}

-- who answers n bytes further on

-- a device that answers at a leaf
pub record IsDeviceAt (f : Forest) (w : Bool) (x : Spot) (region : RegionId) (offset : ℕ) (ops : Ops) (events : List Ioevent) : Type 0 where
  pub leaf : region ≡ x.leaf
  pub here : offset ≡ x.offset
  pub further_on : (n : ℕ) → answerer f w (Leaf (further n x)) ≡ by_device x.leaf (x.offset + n) ops events

module _ (f : Forest) (w : Bool) (x : Spot) (region : RegionId) (offset : ℕ) (ops : Ops) (events : List Ioevent) where
  no_memory : (b : Bool) (y : Spot) → by_memory_unless b y ≡ by_device region offset ops events → ⊥
  no_memory true y e = cc
  no_memory false y e = cc

  no_one : by_nobody ≡ by_device region offset ops events → ⊥
  no_one e = cc

  abbrev At : Option Node → Type 0
  At o = answerer_in o x w ≡ by_device region offset ops events
      → (region ≡ x.leaf) × (offset ≡ x.offset) × ((n : ℕ) → answerer_in o (further n x) w ≡ by_device x.leaf (x.offset + n) ops events)

  at_kind : (k : Kind) (n : Node) → answerer_at k n x w ≡ by_device region offset ops events
      → (region ≡ x.leaf) × (offset ≡ x.offset) × ((m : ℕ) → answerer_at k n (further m x) w ≡ by_device x.leaf (x.offset + m) ops events)
  at_kind Ram n e = absurd (no_memory (w && x.attrs.readonly) x e)
  at_kind Rom n e = absurd (no_memory (w && x.attrs.readonly) x e)
  at_kind (RomDevice device) n e = go (x.attrs.romd && not w) e
    where
      go : (b : Bool) → (if b then by_memory x else by_device x.leaf x.offset device.ops n.events) ≡ by_device region offset ops events
          → (region ≡ x.leaf) × (offset ≡ x.offset)
          × ((m : ℕ) → (if b then by_memory (further m x) else by_device x.leaf (x.offset + m) device.ops n.events) ≡ by_device x.leaf (x.offset + m) ops events)
      go true e = cc
      go false e =
          let o : device.ops ≡ ops = cc in
          let v : n.events ≡ events = cc in
          (cc, cc, λ m. (λ i. by_device x.leaf (x.offset + m) (o i) (v i)))
  at_kind (Io device) n e =
      let o : device.ops ≡ ops = cc in
      let v : n.events ≡ events = cc in
      (cc, cc, λ m. (λ i. by_device x.leaf (x.offset + m) (o i) (v i)))
  at_kind _ n e = absurd (no_one e)

  device_at : answerer f w (Leaf x) ≡ by_device region offset ops events → IsDeviceAt f w x region offset ops events
  device_at e = let t = go (node_of f.nodes x.leaf) e in record { leaf = t.0; here = t.1; further_on = t.2 }
    where
      go : (o : Option Node) → At o
      go None e = absurd (no_one e)
      go (Some n) e = at_kind n.kind n e

-- the rounds

module _ (f : Forest) (closed : IsClosedForest f) (s : SpaceId) (first : ℕ) (t : Transfer) where
  abbrev w : Bool
  w = is_write t

  abbrev share : ℕ → Bool
  share = shares_next f w s

  -- the bytes of a round that began before are passed over
  passed_over : (a left inside : ℕ) → inside ≤ left → rounds_from f s first t a left inside ≡ rounds_from f s first t (a + inside) (left - inside) 0
  passed_over a left zero l =
      let same : left ≡ left - 0 = omega arith in
      let here : a ≡ a + 0 = omega arith in (λ i. rounds_from f s first t (here i) (same i) 0)
  passed_over a zero (suc inside) l = absurd (omega (arith, l))
  passed_over a (suc left) (suc inside) l =
      let at : a + 1 + inside ≡ a + suc inside = omega arith in
      let same : left - inside ≡ suc left - suc inside = omega arith in
      passed_over (a + 1) left inside (omega (arith, l)) ∙ (λ i. rounds_from f s first t (at i) (same i) 0)

  stays_over : (a left inside : ℕ) → inside ≤ left → StaysFrom f w s a left inside → StaysFrom f w s (a + inside) (left - inside) 0
  stays_over a left zero l h =
      let same : left ≡ left - 0 = omega arith in
      let here : a ≡ a + 0 = omega arith in
      subst (λ n. StaysFrom f w s (a + 0) n 0) same (subst (λ b. StaysFrom f w s b left 0) here h)
  stays_over a zero (suc inside) l h = absurd (omega (arith, l))
  stays_over a (suc left) (suc inside) l h =
      let at : a + 1 + inside ≡ a + suc inside = omega arith in
      let same : left - inside ≡ suc left - suc inside = omega arith in
      subst (λ n. StaysFrom f w s (a + suc inside) n 0) same
      (subst (λ b. StaysFrom f w s b (left - inside) 0) at (stays_over (a + 1) left inside (omega (arith, l)) h))

  -- what the chunks from an address on reach
  abbrev all_from : ℕ → ℕ → List Reached
  all_from a left = flat_map (in_chunk f s first t) (runs share a left)

  round_is : (a k n : ℕ) → in_round f s a (part k n t) ≡ reached_at_once (answerer f w (trail_of f w s a).target) (part k n t)
  round_is a k n = ap (λ v. reached_at_once (answerer f v (trail_of f v s a).target) (part k n t)) (same_kind k n t)

  -- one round, and the chunks after it
  pub record IsRound (a left n : ℕ) : Type 0 where
    pub some : 0 < n
    pub most : n ≤ left
    pub whole : all_from a left ≡ in_round f s a (part (a - first) n t) ++ all_from (a + n) (left - n)

  -- a round that takes its whole chunk
  whole_round : (a left c : ℕ) → IsFirst share a left c
      → ((u : Transfer) → reached_at_once (answerer f w (trail_of f w s a).target) u ≡ reached (answerer f w (trail_of f w s a).target) u)
      → IsRound a left c
  whole_round a left c h same = record {
    some = h.some;
    most = h.most;
    whole = ap (flat_map (in_chunk f s first t)) h.is
        ∙ ap (λ rs. rs ++ all_from (a + c) (left - c)) (sym (round_is a (a - first) c ∙ same (part (a - first) c t)));
  }

  -- one piece of a device, whose chunk has c bytes
  device_round : (a left c : ℕ) (region : RegionId) (offset : ℕ) (ops : Ops) (events : List Ioevent) (x : Spot) → IsFirst share a left c
      → first ≤ a → a - first + left ≤ length_of t → (trail_of f w s a).target ≡ Leaf x
      → answerer f w (trail_of f w s a).target ≡ by_device region offset ops events
      → size_at ops offset (in_pages (trail_of f w s a).hops left) ≤ c
      → IsRound a left (size_at ops offset (in_pages (trail_of f w s a).hops left))
  device_round a left c region offset ops events x h low within target who fits = record { some = some; most = omega (arith, fits, most); whole = whole }
    where
      n : ℕ
      n = size_at ops offset (in_pages (trail_of f w s a).hops left)

      some : 0 < n
      some = size_some ops offset (in_pages (trail_of f w s a).hops left)

      most : c ≤ left
      most = h.most

      positive : 0 < c
      positive = h.some

      -- the chunk lies in the pages of its translations
      paged : c ≤ in_pages (trail_of f w s a).hops left
      paged =
          let route = on_route f w s a c h.shared (c - 1) (omega (arith, positive)) in
          let l : c - 1 + 1 ≤ in_pages (trail_of f w s a).hops left =
          hops_pages f closed w (c - 1) left (trail_of f w s a).hops (trail_of f w s (a + (c - 1))).hops
          (own_trail f w most_translations s a).own (own_trail f w most_translations s (a + (c - 1))).own route.hops (omega (arith, most, positive)) in
          omega (arith, l, positive)

      same : size_at ops offset c ≡ n
      same = same_size ops offset c (in_pages (trail_of f w s a).hops left) paged fits

      is_device : IsDeviceAt f w x region offset ops events
      is_device = device_at f w x region offset ops events (sym (ap (answerer f w) target) ∙ who)

      -- the device answers n bytes further on
      answers_on : n < c → answerer f w (trail_of f w s (a + n)).target ≡ by_device region (offset + n) ops events
      answers_on l =
          let there = leads_along f w n (trail_of f w s a) (trail_of f w s (a + n)) x (own_trail f w most_translations s a)
          (own_trail f w most_translations s (a + n)) (on_route f w s a c h.shared n l) target in
          ap (answerer f w) there ∙ is_device.further_on n ∙ (λ i. by_device (sym is_device.leaf i) (sym is_device.here i + n) ops events)

      chunk_is : in_chunk f s first t (run a c) ≡ in_device region offset ops events (part (a - first) c t)
      chunk_is = ap (λ o. reached o (part (a - first) c t)) who

      round : in_round f s a (part (a - first) n t) ≡ in_piece region ops events (piece offset n (is_valid ops offset n)) (part (a - first) n t)
      round =
          let l : a - first + n ≤ length_of t = omega (arith, within, fits, most) in
          round_is a (a - first) n ∙ ap (λ o. reached_at_once o (part (a - first) n t)) who
          ∙ ap (λ m. in_piece region ops events (piece offset m (is_valid ops offset m)) (part (a - first) n t)) (part_length (a - first) n t l)

      split : in_chunk f s first t (run a c) ≡ in_round f s a (part (a - first) n t)
          ++ in_device region (offset + n) ops events (part (a - first + n) (c - n) t)
      split =
          let l : a - first + c ≤ length_of t = omega (arith, within, most) in
          chunk_is ∙ device_then region ops events offset (a - first) c n t l same fits
          ∙ ap (λ rs. rs ++ in_device region (offset + n) ops events (part (a - first + n) (c - n) t)) (sym round)

      -- what is left of the chunk, and the chunks after it
      rest : (n < c) ⊎ (c ≤ n) → in_device region (offset + n) ops events (part (a - first + n) (c - n) t) ++ all_from (a + c) (left - c)
          ≡ all_from (a + n) (left - n)
      rest (inl l) =
          let at : a - first + n ≡ a + n - first = omega (arith, low) in
          let there : a + n + (c - n) ≡ a + c = omega (arith, l) in
          let after : left - n - (c - n) ≡ left - c = omega (arith, l, most) in
          let shared : (i : ℕ) → i + 1 < c - n → share (a + n + i) ≡ true =
          λ i less. (let to : a + (n + i) ≡ a + n + i = omega arith in sym (ap share to) ∙ h.shared (n + i) (omega (arith, less))) in
          let ends : c - n < left - n → share (a + n + (c - n - 1)) ≡ false =
          λ less. (let to : a + (c - 1) ≡ a + n + (c - n - 1) = omega (arith, l) in sym (ap share to) ∙ h.ends (omega (arith, less, l))) in
          let is : runs share (a + n) (left - n) ≡ run (a + n) (c - n) ∷ runs share (a + n + (c - n)) (left - n - (c - n)) =
          first_run share (a + n) (c - n) (left - n) (omega (arith, l)) (omega (arith, l, most)) shared ends in
          let chunk : in_chunk f s first t (run (a + n) (c - n)) ≡ in_device region (offset + n) ops events (part (a - first + n) (c - n) t) =
          ap (λ o. reached o (part (a + n - first) (c - n) t)) (answers_on l)
          ∙ ap (λ k. in_device region (offset + n) ops events (part k (c - n) t)) (sym at) in
          sym (ap (flat_map (in_chunk f s first t)) is ∙ (λ i. chunk i ++ all_from (there i) (after i)))
      rest (inr l) =
          let none : c - n ≡ 0 = omega (arith, l) in
          let same_end : c ≡ n = omega (arith, l, fits) in
          let nothing_left : in_device region (offset + n) ops events (part (a - first + n) (c - n) t) ≡ [] =
          ap (λ m. in_device region (offset + n) ops events (part (a - first + n) m t)) none ∙ no_bytes (a - first + n) t in
          (λ i. nothing_left i ++ all_from (a + same_end i) (left - same_end i))
        where
          no_bytes : (k : ℕ) (u : Transfer) → in_device region (offset + n) ops events (part k 0 u) ≡ []
          no_bytes k (reading m) = refl
          no_bytes k (writing bs) = refl

      whole : all_from a left ≡ in_round f s a (part (a - first) n t) ++ all_from (a + n) (left - n)
      whole =
          ap (flat_map (in_chunk f s first t)) h.is ∙ ap (λ rs. rs ++ all_from (a + c) (left - c)) split
          ∙ append_assoc (in_round f s a (part (a - first) n t)) (in_device region (offset + n) ops events (part (a - first + n) (c - n) t))
          (all_from (a + c) (left - c))
          ∙ ap (λ rs. in_round f s a (part (a - first) n t) ++ rs) (rest (cases_lt n c))

  one_round : (a left : ℕ) → 0 < left → first ≤ a → a - first + left ≤ length_of t → taken f w s a left ≤ first_length (chunks f w s a left)
      → IsRound a left (taken f w s a left)
  one_round a left some low within fits = go (answerer f w (trail_of f w s a).target) refl fits
    where
      h : IsFirst share a left (first_length (chunks f w s a left))
      h = first_is share a left some

      go : (o : Answerer) → answerer f w (trail_of f w s a).target ≡ o
          → taken_by o (trail_of f w s a).hops (first_length (chunks f w s a left)) left ≤ first_length (chunks f w s a left)
          → IsRound a left (taken_by o (trail_of f w s a).hops (first_length (chunks f w s a left)) left)
      go (by_memory spot) who fits = whole_round a left (first_length (chunks f w s a left)) h
          (λ u. ap (λ o. reached_at_once o u) who ∙ sym (ap (λ o. reached o u) who))
      go by_nobody who fits = whole_round a left (first_length (chunks f w s a left)) h
          (λ u. ap (λ o. reached_at_once o u) who ∙ sym (ap (λ o. reached o u) who))
      go (by_device region offset ops events) who fits = leaf (trail_of f w s a).target refl
        where
          no_device : by_nobody ≡ by_device region offset ops events → ⊥
          no_device e = cc

          leaf : (x : Target) → (trail_of f w s a).target ≡ x → IsRound a left (size_at ops offset (in_pages (trail_of f w s a).hops left))
          leaf Unassigned e = absurd (no_device (sym (ap (answerer f w) e) ∙ who))
          leaf (Leaf x) e =
              device_round a left (first_length (chunks f w s a left)) region offset ops events x h low within e who fits

  rounds : (fuel left a : ℕ) → left ≤ fuel → first ≤ a → a - first + left ≤ length_of t → StaysFrom f w s a left 0
      → rounds_from f s first t a left 0 ≡ all_from a left
  rounds fuel zero a l low within h = refl
  rounds zero (suc left) a l low within h = absurd (omega (arith, l))
  rounds (suc fuel) (suc left) a l low within h =
      let n : ℕ = taken f w s a (suc left) in
      let one : IsRound a (suc left) n = one_round a (suc left) (omega arith) low within h.0 in
      let some : 0 < n = one.some in
      let most : n ≤ suc left = one.most in
      let at : a + 1 + (n - 1) ≡ a + n = omega (arith, some) in
      let after : left - (n - 1) ≡ suc left - n = omega (arith, some) in
      let stays : StaysFrom f w s (a + n) (suc left - n) 0 =
      subst (λ m. StaysFrom f w s (a + n) m 0) after (subst (λ b. StaysFrom f w s b (left - (n - 1)) 0) at
      (stays_over (a + 1) left (n - 1) (omega (arith, some, most)) h.1)) in
      let rest = rounds fuel (suc left - n) (a + n) (omega (arith, l, some)) (omega (arith, low)) (omega (arith, within, low, most)) stays in
      ap (λ rs. in_round f s a (part (a - first) n t) ++ rs)
      (passed_over (a + 1) left (n - 1) (omega (arith, some, most)) ∙ (λ i. rounds_from f s first t (at i) (after i) 0) ∙ rest)
      ∙ sym one.whole

-- the core's plan, where its rounds are those that are shown
as_shown : (f : Forest) → IsClosedForest f → (s : SpaceId) (a : ℕ) (t : Transfer) → NoWindowShuts f (is_write t) s a (length_of t)
    → StaysFrom f (is_write t) s a (length_of t) 0 → plan_of_core f s a t ≡ plan f s a t
as_shown f closed s a t free h =
    rounds_as_shown f s a t a (length_of t) 0 free ∙ rounds f closed s a t (length_of t) (length_of t) a (omega arith) (omega arith) (omega arith) h

pub plans_agree : PlansAgree
plans_agree f closed s a t free h = as_shown f closed s a t free (stays_as_shown f (is_write t) s a (length_of t) 0 free h)

-- premises that are easier to see

-- no page has more bytes than are left
paged_less : (u : Option Entry) (offset left : ℕ) → in_page u offset left ≤ left
paged_less None offset left = omega arith
paged_less (Some e) offset left = omega arith

pages_less : (hs : List Hop) (left : ℕ) → in_pages hs left ≤ left
pages_less [] left = omega arith
pages_less (h ∷ hs) left =
    let a = pages_less hs (in_page h.used h.spot.offset left) in
    let b = paged_less h.used h.spot.offset left in omega (arith, a, b)

module _ (f : Forest) (w : Bool) (s : SpaceId) where
  takes_less : (o : Answerer) (hs : List Hop) (shared left : ℕ) → 0 < left → shared ≤ left → taken_by o hs shared left ≤ left
  takes_less (by_memory spot) hs shared left some l = l
  takes_less by_nobody hs shared left some l = l
  takes_less (by_device region offset ops events) hs shared left some l = size_less ops offset (in_pages hs left) left (pages_less hs left) some

  -- all addresses share the route
  one_stays : (left a inside : ℕ) → ((i : ℕ) → i + 1 < left → shares_next f w s (a + i) ≡ true) → StaysFrom f w s a left inside
  one_stays zero a inside h = tt
  one_stays (suc left) a (suc inside) h = one_stays left (a + 1) inside (further_shared left a h)
    where
      further_shared : (left a : ℕ) → ((i : ℕ) → i + 1 < suc left → shares_next f w s (a + i) ≡ true)
          → (i : ℕ) → i + 1 < left → shares_next f w s (a + 1 + i) ≡ true
      further_shared left a h i l = let at : a + suc i ≡ a + 1 + i = omega arith in sym (ap (shares_next f w s) at) ∙ h (suc i) (omega (arith, l))
  one_stays (suc left) a zero h = (subst (λ n. taken f w s a (suc left) ≤ n) (sym all) less, one_stays left (a + 1) (taken f w s a (suc left) - 1) more)
    where
      more : (i : ℕ) → i + 1 < left → shares_next f w s (a + 1 + i) ≡ true
      more i l = let at : a + suc i ≡ a + 1 + i = omega arith in sym (ap (shares_next f w s) at) ∙ h (suc i) (omega (arith, l))

      all : first_length (chunks f w s a (suc left)) ≡ suc left
      all = ap first_length (first_run (shares_next f w s) a (suc left) (suc left) (omega arith) (omega arith) h (λ l. absurd (omega (arith, l))))

      less : taken f w s a (suc left) ≤ suc left
      less =
          let c = first_is (shares_next f w s) a (suc left) (omega arith) in
          takes_less (answerer f w (trail_of f w s a).target) (trail_of f w s a).hops (first_length (chunks f w s a (suc left))) (suc left) (omega arith) c.most

  -- a device in a closed forest has sizes of 1, 2, 4 and 8
  good_sizes : (nodes : List Node) (n : Node) (device : Device) → IsRegion nodes n → device_of n.kind ≡ Some device → IsSize device.ops.valid_max
  good_sizes nodes n device region e =
      let none : bad_device (Some device) ≡ None = sym (ap bad_device e) ∙ region.device in
      let good : is_good_device device ≡ true = go (is_good_device device) refl (refuse_if-none _ _ none) in
      let ops = device.ops in
      size_so ops.valid_max (and_parts _ _ (and_parts _ _ (and_parts _ _ (and_parts _ _ (and_parts _ _ (and_parts _ _ (and_parts _ _ good).0).0).0).0).0).0).1
    where
      go : (b : Bool) → is_good_device device ≡ b → not b ≡ false → is_good_device device ≡ true
      go true e h = e
      go false e h = cc

  abbrev HasSizes : Answerer → Type 0
  HasSizes (by_device region offset ops events) = IsSize ops.valid_max
  HasSizes _ = Unit {0}

  has_sizes : IsClosedForest f → (x : Target) → HasSizes (answerer f w x)
  has_sizes closed Unassigned = tt
  has_sizes closed (Leaf x) = go (node_of f.nodes x.leaf) refl
    where
      unless : (b : Bool) → HasSizes (by_memory_unless b x)
      unless true = tt
      unless false = tt

      kind : (k : Kind) (n : Node) → n.kind ≡ k → IsRegion f.nodes n → HasSizes (answerer_at k n x w)
      kind Ram n e region = unless (w && x.attrs.readonly)
      kind Rom n e region = unless (w && x.attrs.readonly)
      kind (RomDevice device) n e region = direct (x.attrs.romd && not w)
        where
          direct : (b : Bool) → HasSizes (if b then by_memory x else by_device x.leaf x.offset device.ops n.events)
          direct true = tt
          direct false = good_sizes f.nodes n device region (ap device_of e)
      kind (Io device) n e region = good_sizes f.nodes n device region (ap device_of e)
      kind _ n e region = tt

      go : (o : Option Node) → node_of f.nodes x.leaf ≡ o → HasSizes (answerer_in o x w)
      go None e = tt
      go (Some n) e = kind n.kind n refl (every_node_of (IsRegion f.nodes) f.nodes x.leaf n e closed.regions).0

  even_takes : (o : Answerer) (hs : List Hop) (shared left : ℕ) → 0 < left → 0 < shared → shared ≤ left → 1 ≤ in_pages hs left → HasSizes o → EndsEven o shared left
      → taken_by o hs shared left ≤ shared
  even_takes (by_memory spot) hs shared left some positive l paged sizes h = omega arith
  even_takes by_nobody hs shared left some positive l paged sizes h = omega arith
  even_takes (by_device region offset ops events) hs shared left some positive l paged sizes h = go (cases_lt shared left)
    where
      go : (shared < left) ⊎ (left ≤ shared) → size_at ops offset (in_pages hs left) ≤ shared
      go (inl m) = let t = h m in size_even ops offset (in_pages hs left) shared paged t.0 sizes t.1 positive
      go (inr m) = let u = size_less ops offset (in_pages hs left) left (pages_less hs left) some in omega (arith, m, u)

  even_stays : IsClosedForest f → (left a inside : ℕ) → RangesEndEven f w s a left → StaysFrom f w s a left inside
  even_stays closed zero a inside h = tt
  even_stays closed (suc left) a (suc inside) h = even_stays closed left (a + 1) inside (even_further left a h)
    where
      even_further : (left a : ℕ) → RangesEndEven f w s a (suc left) → RangesEndEven f w s (a + 1) left
      even_further left a h i l =
          let at : a + suc i ≡ a + 1 + i = omega arith in
          let rest : suc left - suc i ≡ left - i = omega arith in
          subst (λ n. EndsEven (answerer f w (trail_of f w s (a + 1 + i)).target) (first_length (chunks f w s (a + 1 + i) n)) n) rest
          (subst (λ b. EndsEven (answerer f w (trail_of f w s b).target) (first_length (chunks f w s b (suc left - suc i))) (suc left - suc i)) at
          (h (suc i) (omega (arith, l))))
  even_stays closed (suc left) a zero h = (
    even_takes (answerer f w (trail_of f w s a).target) (trail_of f w s a).hops (first_length (chunks f w s a (suc left))) (suc left) (omega arith)
        c.some c.most paged (has_sizes closed (trail_of f w s a).target) here,
    even_stays closed left (a + 1) (taken f w s a (suc left) - 1) more,
  )
    where
      c : IsFirst (shares_next f w s) a (suc left) (first_length (chunks f w s a (suc left)))
      c = first_is (shares_next f w s) a (suc left) (omega arith)

      paged : 1 ≤ in_pages (trail_of f w s a).hops (suc left)
      paged =
          let l : 0 + 1 ≤ in_pages (trail_of f w s a).hops (suc left) =
          hops_pages f closed w 0 (suc left) (trail_of f w s a).hops (trail_of f w s a).hops (own_trail f w most_translations s a).own
          (own_trail f w most_translations s a).own (along_itself (trail_of f w s a).hops) (omega arith) in omega (arith, l)

      here : EndsEven (answerer f w (trail_of f w s a).target) (first_length (chunks f w s a (suc left))) (suc left)
      here =
          let at : a + 0 ≡ a = omega arith in
          let rest : suc left - 0 ≡ suc left = omega arith in
          subst (λ n. EndsEven (answerer f w (trail_of f w s a).target) (first_length (chunks f w s a n)) n) rest
          (subst (λ b. EndsEven (answerer f w (trail_of f w s b).target) (first_length (chunks f w s b (suc left - 0))) (suc left - 0)) at (h 0 (omega arith)))

      more : RangesEndEven f w s (a + 1) left
      more i l =
          let at : a + suc i ≡ a + 1 + i = omega arith in
          let rest : suc left - suc i ≡ left - i = omega arith in
          subst (λ n. EndsEven (answerer f w (trail_of f w s (a + 1 + i)).target) (first_length (chunks f w s (a + 1 + i) n)) n) rest
          (subst (λ b. EndsEven (answerer f w (trail_of f w s b).target) (first_length (chunks f w s b (suc left - suc i))) (suc left - suc i)) at
          (h (suc i) (omega (arith, l))))

pub one_chunk_agrees : OneChunkAgrees
one_chunk_agrees f closed s a t free e = as_shown f closed s a t free (go (length_of t) e)
  where
    go : (n : ℕ) → first_length (chunks f (is_write t) s a n) ≡ n → StaysFrom f (is_write t) s a n 0
    go zero e = tt
    go (suc n) e =
        let h = first_is (shares_next f (is_write t) s) a (suc n) (omega arith) in
        one_stays f (is_write t) s (suc n) a 0 (λ i l. h.shared i (subst (λ m. i + 1 < m) (sym e) l))

pub even_ranges_agree : EvenRangesAgree
even_ranges_agree f closed s a t free h = as_shown f closed s a t free (even_stays f (is_write t) s closed (length_of t) a 0 h)
