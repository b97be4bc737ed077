-- Laws of the chunks of an access, and of its addresses above 2^64 - 1.
use Rattle.std.proofs.Common.{◌≡◌, ℕ, zero, suc, ◌+◌, ◌-◌, ◌^◌, ◌<◌, ◌≤◌, Bool, true, false, List, [], ◌∷◌, ◌++◌, Some, None}
use Rattle.std.proofs.Common.{◌⊎◌, inl, inr, length, take, drop, refl, sym, ap, subst, ◌∙◌, arith, append_assoc}
use Rattle.std.specs.Prelude.{flat_map, replicate}
use Rattle.std.proofs.lemmas.Bool.{cases_lt}
use Rattle.std.proofs.lemmas.List.{append-nil, replicate-append-replicate}
use Rattle.mem_base.specs.declared.access.accesses.TxResult.{TxResult}
use Rattle.mem_base.specs.declared.map.ids.SpaceId.{SpaceId}
use Rattle.mem_base.specs.declared.map.forests.Forest.{Forest}
use Rattle.mem_base.specs.declared.access.accesses.Target.{Target}
use Rattle.mem_base.specs.declared.access.accesses.Target.TheVariants.{Unassigned}
use Rattle.mem_base.specs.lists.Runs.{Run, run, runs}
use Rattle.mem_base.specs.map.Forest.{IsClosedForest}
use Rattle.mem_base.specs.access.Trails.{Trail, trail_of, chunks, shares_next, first_length}
use Rattle.mem_base.specs.access.AccessSteps.{Transfer, reading, writing, is_write, part, either, tx}
use Rattle.mem_base.specs.access.Plans.{Answerer, by_nobody, answers, takes, Reached, memory, callback, notifier, mark, nothing, nobody, reached}
use Rattle.generation.specs.Published.{Published}
use Rattle.mem_base.specs.map.Forest.{IsMade}
use Rattle.map_laws.proofs.SoundCallLaws.{IsClosedForest-made}
use Rattle.access_reach.specs.Asking as asks_of
use Rattle.access_reach.specs.Asking.{Asked, asked, Reply, Outcome, outcome, followed_by, told, outcome_of}
use Rattle.access_plan.specs.HostPlans.{answerer_by, plan_by}
use Rattle.access_reach.specs.Reaching.{Asks, HasReached, IsUnderway, AllTaken, in_chunk, plan_below}
use Rattle.access_reach.proofs.TakenLaws.{taken_split}
use Rattle.mem_base.specs.lists.Every.{Every}
use Rattle.access_reach.proofs.ReachLaws.{AreBusLaws, underway_then, underway_shows, reached_then, reached_nothing}
use Rattle.access_base.proofs.RunLaws.{first_run}
use Rattle.access_base.proofs.ChunkLaws.{at_end, chunks_then, nothing_past, shares_past, blank_from}
use Rattle.access_plan.proofs.HandedOn.{IsFirst, first_is}

-- plans of which the same is asked, and which have the same outcome
pub record DoSame (xs ys : List Reached) : Type 0 where
  pub asks : asked xs ≡ asked ys
  pub ends : (rs : List Reply) → outcome_of xs rs ≡ outcome_of ys rs

same_list : (xs ys : List Reached) → xs ≡ ys → DoSame xs ys
same_list xs ys e = subst (DoSame xs) e (record { asks = refl; ends = λ rs. refl })

same_cons : (d : Reached) (xs ys : List Reached) → DoSame xs ys → DoSame (d ∷ xs) (d ∷ ys)
same_cons (nothing n result) xs ys h = record { asks = h.asks; ends = λ rs. ap (followed_by (outcome (replicate n 0) result)) (h.ends rs) }
same_cons (memory region offset (reading n)) xs ys h = record { asks = ap (λ es. asks_of.reads region offset n ∷ es) h.asks; ends = λ rs. go rs }
  where
    go : (rs : List Reply) → outcome_of (memory region offset (reading n) ∷ xs) rs ≡ outcome_of (memory region offset (reading n) ∷ ys) rs
    go [] = refl
    go (r ∷ rs) = ap (followed_by (told (memory region offset (reading n)) r)) (h.ends rs)
same_cons (memory region offset (writing bs)) xs ys h = record { asks = ap (λ es. asks_of.writes region offset bs ∷ es) h.asks; ends = λ rs. go rs }
  where
    go : (rs : List Reply) → outcome_of (memory region offset (writing bs) ∷ xs) rs ≡ outcome_of (memory region offset (writing bs) ∷ ys) rs
    go [] = refl
    go (r ∷ rs) = ap (followed_by (told (memory region offset (writing bs)) r)) (h.ends rs)
same_cons (callback region offset size (answers n big)) xs ys h = record {
  asks = ap (λ es. asks_of.calls region offset size None ∷ es) h.asks;
  ends = λ rs. go rs;
}
  where
    go : (rs : List Reply) → outcome_of (callback region offset size (answers n big) ∷ xs) rs ≡ outcome_of (callback region offset size (answers n big) ∷ ys) rs
    go [] = refl
    go (r ∷ rs) = ap (followed_by (told (callback region offset size (answers n big)) r)) (h.ends rs)
same_cons (callback region offset size (takes value)) xs ys h = record {
  asks = ap (λ es. asks_of.calls region offset size (Some value) ∷ es) h.asks;
  ends = λ rs. go rs;
}
  where
    go : (rs : List Reply) → outcome_of (callback region offset size (takes value) ∷ xs) rs ≡ outcome_of (callback region offset size (takes value) ∷ ys) rs
    go [] = refl
    go (r ∷ rs) = ap (followed_by (told (callback region offset size (takes value)) r)) (h.ends rs)
same_cons (notifier number) xs ys h = record { asks = ap (λ es. asks_of.sets number ∷ es) h.asks; ends = λ rs. go rs }
  where
    go : (rs : List Reply) → outcome_of (notifier number ∷ xs) rs ≡ outcome_of (notifier number ∷ ys) rs
    go [] = refl
    go (r ∷ rs) = ap (followed_by (told (notifier number) r)) (h.ends rs)
same_cons (mark region client page) xs ys h = record { asks = ap (λ es. asks_of.marks region client page ∷ es) h.asks; ends = λ rs. go rs }
  where
    go : (rs : List Reply) → outcome_of (mark region client page ∷ xs) rs ≡ outcome_of (mark region client page ∷ ys) rs
    go [] = refl
    go (r ∷ rs) = ap (followed_by (told (mark region client page) r)) (h.ends rs)

same_after : (ds xs ys : List Reached) → DoSame xs ys → DoSame (ds ++ xs) (ds ++ ys)
same_after [] xs ys h = h
same_after (d ∷ ds) xs ys h = same_cons d (ds ++ xs) (ds ++ ys) (same_after ds xs ys h)

same_then : (xs ys zs : List Reached) → DoSame xs ys → ys ≡ zs → DoSame xs zs
same_then xs ys zs h e = subst (DoSame xs) e h

many_and_many : (z m k n : ℕ) → m + k ≡ n → replicate n z ++ [] ≡ replicate m z ++ (replicate k z ++ [])
many_and_many z m k n e =
    sym (ap (λ bs. replicate m z ++ bs) (append-nil (replicate k z)) ∙ replicate-append-replicate m k z
    ∙ ap (λ l. replicate l z) e ∙ sym (append-nil (replicate n z)))

-- two parts that nothing answers are as one
two_blanks : (m k n : ℕ) → m + k ≡ n → DoSame (nothing n (tx false true) ∷ []) ((nothing m (tx false true) ∷ []) ++ (nothing k (tx false true) ∷ []))
two_blanks m k n e = record { asks = refl; ends = λ rs. (λ i. outcome (many_and_many 0 m k n e i) (tx false true)) }

-- where nothing is found nobody answers
pub unassigned : (host : Bool) (f : Forest) (w : Bool) → answerer_by host f w Unassigned ≡ by_nobody
unassigned true f w = refl
unassigned false f w = refl

module _ (host : Bool) (f : Forest) (closed : IsClosedForest f) (s : SpaceId) (first : ℕ) (t : Transfer) where
  abbrev share : ℕ → Bool
  share = shares_next f (is_write t) s

  abbrev F : Run → List Reached
  F = in_chunk host f s first t

  abbrev U : ℕ → ℕ → List Reached
  U a c = nobody (part (a - first) c t)

  blank_chunk : (a c : ℕ) → (trail_of f (is_write t) s a).target ≡ Unassigned → flat_map F (run a c ∷ []) ≡ U a c
  blank_chunk a c e = append-nil (F (run a c)) ∙ ap (λ x. reached (answerer_by host f (is_write t) x) (part (a - first) c t)) e
      ∙ ap (λ (o : Answerer). reached o (part (a - first) c t)) (unassigned host f (is_write t))

  -- some addresses that all share the route are one run
  one_run : (a n : ℕ) → 0 < n → ((i : ℕ) → i + 1 < n → share (a + i) ≡ true) → runs share a n ≡ run a n ∷ []
  one_run a n some all =
      let none : n - n ≡ 0 = omega arith in
      first_run share a n n some (omega arith) all (λ l. absurd (omega (arith, l))) ∙ ap (λ m. run a n ∷ runs share (a + n) m) none

  all_past : (a k : ℕ) → 2 ^ 64 ≤ a → 0 < k → flat_map F (runs share a k) ≡ U a k
  all_past a k l some =
      ap (flat_map F) (one_run a k some (λ i less. shares_past f closed (is_write t) s (a + i) (omega (arith, l))))
      ∙ blank_chunk a k (ap (λ (x : Trail). x.target) (nothing_past f closed (is_write t) s a l))

  blanks : (u : Transfer) (a b m k n : ℕ) → m + k ≡ n → DoSame (nobody (part a n u)) (nobody (part a m u) ++ nobody (part b k u))
  blanks (reading all) a b m k n e = two_blanks m k n e
  blanks (writing bs) a b m k n e = two_blanks 0 0 0 refl

  -- the chunks of some addresses of which the first m lie below 2^64, and the k others do not
  pub clip : (fuel m a k : ℕ) → m ≤ fuel → a + m ≡ 2 ^ 64 → 0 < k
      → DoSame (flat_map F (runs share a (m + k))) (flat_map F (runs share a m) ++ U (2 ^ 64) k)
  clip fuel zero a k l e some =
      let here : a ≡ 2 ^ 64 = omega (arith, e) in
      let all : 0 + k ≡ k = omega arith in
      same_list (flat_map F (runs share a (0 + k))) (U (2 ^ 64) k)
      ((λ i. flat_map F (runs share (here i) (all i))) ∙ all_past (2 ^ 64) k (omega arith) some)
  clip zero (suc m) a k l e some = absurd (omega (arith, l))
  clip (suc fuel) (suc m) a k l e some =
      let n : ℕ = first_length (runs share a (suc m)) in
      let h : IsFirst share a (suc m) n = first_is share a (suc m) (omega arith) in go n h (cases_lt n (suc m)) (share (a + (n - 1))) refl
      (clip fuel (suc m - n) (a + n) k (let q : 0 < n = h.some in omega (arith, q, l))
      (let q : n ≤ suc m = h.most in omega (arith, q, e)) some)
    where
      go : (c : ℕ) → IsFirst share a (suc m) c → (c < suc m) ⊎ (suc m ≤ c) → (b : Bool) → share (a + (c - 1)) ≡ b
          → DoSame (flat_map F (runs share (a + c) (suc m - c + k))) (flat_map F (runs share (a + c) (suc m - c)) ++ U (2 ^ 64) k)
          → DoSame (flat_map F (runs share a (suc m + k))) (flat_map F (runs share a (suc m)) ++ U (2 ^ 64) k)
      go c h (inl less) b eb rest =
          let left : suc m - c + k ≡ suc m + k - c = omega (arith, less) in
          let whole : runs share a (suc m + k) ≡ run a c ∷ runs share (a + c) (suc m + k - c) =
          first_run share a c (suc m + k) h.some (omega (arith, less)) h.shared (λ q. h.ends less) in
          let xs : F (run a c) ++ flat_map F (runs share (a + c) (suc m - c + k)) ≡ flat_map F (runs share a (suc m + k)) =
          ap (λ n. F (run a c) ++ flat_map F (runs share (a + c) n)) left ∙ sym (ap (flat_map F) whole) in
          let ys : F (run a c) ++ (flat_map F (runs share (a + c) (suc m - c)) ++ U (2 ^ 64) k) ≡ flat_map F (runs share a (suc m)) ++ U (2 ^ 64) k =
          sym (append_assoc (F (run a c)) (flat_map F (runs share (a + c) (suc m - c))) (U (2 ^ 64) k))
          ∙ ap (λ z. z ++ U (2 ^ 64) k) (sym (ap (flat_map F) h.is)) in
          subst (λ z. DoSame z (flat_map F (runs share a (suc m)) ++ U (2 ^ 64) k)) xs
          (same_then (F (run a c) ++ flat_map F (runs share (a + c) (suc m - c + k)))
          (F (run a c) ++ (flat_map F (runs share (a + c) (suc m - c)) ++ U (2 ^ 64) k))
          (flat_map F (runs share a (suc m)) ++ U (2 ^ 64) k)
          (same_after (F (run a c)) (flat_map F (runs share (a + c) (suc m - c + k))) (flat_map F (runs share (a + c) (suc m - c)) ++ U (2 ^ 64) k) rest) ys)
      go c h (inr more) false eb rest =
          let most : c ≤ suc m = h.most in
          let same : c ≡ suc m = omega (arith, more, most) in
          let left : suc m + k - c ≡ k = omega (arith, same) in
          let none : suc m - c ≡ 0 = omega (arith, same) in
          let at : a + c ≡ 2 ^ 64 = omega (arith, same, e) in
          let whole : runs share a (suc m + k) ≡ run a c ∷ runs share (a + c) (suc m + k - c) =
          first_run share a c (suc m + k) h.some (omega (arith, same)) h.shared (λ q. eb) in
          let xs : flat_map F (runs share a (suc m + k)) ≡ F (run a c) ++ U (2 ^ 64) k =
          ap (flat_map F) whole ∙ (λ i. F (run a c) ++ flat_map F (runs share (at i) (left i))) ∙ ap
          (λ z. F (run a c) ++ z) (all_past (2 ^ 64) k (omega arith) some) in
          let ys : F (run a c) ++ U (2 ^ 64) k ≡ flat_map F (runs share a (suc m)) ++ U (2 ^ 64) k =
          ap (λ z. z ++ U (2 ^ 64) k) (sym (append-nil (F (run a c))) ∙ ap
          (λ n. F (run a c) ++ flat_map F (runs share (a + c) n)) (sym none) ∙ sym (ap (flat_map F) h.is)) in
          same_list (flat_map F (runs share a (suc m + k))) (flat_map F (runs share a (suc m)) ++ U (2 ^ 64) k) (xs ∙ ys)
      go c h (inr more) true eb rest =
          let most : c ≤ suc m = h.most in
          let same : c ≡ suc m = omega (arith, more, most) in
          let all : (i : ℕ) → i < suc m → share (a + i) ≡ true = λ i l. at_most i l (cases_lt (i + 1) c) in
          let every : (i : ℕ) → i + 1 < suc m + k → share (a + i) ≡ true = λ i l. beyond i (cases_lt i (suc m)) in
          let blank = blank_from f closed (is_write t) s (suc m) a e all in
          let xs : flat_map F (runs share a (suc m + k)) ≡ U a (suc m + k) =
          ap (flat_map F) (one_run a (suc m + k) (omega arith) every) ∙ blank_chunk a (suc m + k) blank.1 in
          let ys : flat_map F (runs share a (suc m)) ≡ U a (suc m) =
          ap (flat_map F) (one_run a (suc m) (omega arith) (λ i l. all i (omega (arith, l)))) ∙ blank_chunk a (suc m) blank.1 in
          subst (λ z. DoSame z (flat_map F (runs share a (suc m)) ++ U (2 ^ 64) k)) (sym xs)
          (subst (λ z. DoSame (U a (suc m + k)) (z ++ U (2 ^ 64) k)) (sym ys) (blanks t (a - first) (2 ^ 64 - first) (suc m) k (suc m + k) refl))
        where
          at_most : (i : ℕ) → i < suc m → (i + 1 < c) ⊎ (c ≤ i + 1) → share (a + i) ≡ true
          at_most i l (inl less) = h.shared i less
          at_most i l (inr more') =
              let most : c ≤ suc m = h.most in
              let last : a + i ≡ a + (c - 1) = omega (arith, l, more, more', most) in ap share last ∙ eb

          beyond : (i : ℕ) → (i < suc m) ⊎ (suc m ≤ i) → share (a + i) ≡ true
          beyond i (inl l) = at_most i l (cases_lt (i + 1) c)
          beyond i (inr l) = shares_past f closed (is_write t) s (a + i) (omega (arith, l, e))

module _ {S : Type 0} (asks : Asks S) (shows : S → Published) (laws : AreBusLaws asks shows) (host : Bool) where
  -- one chunk more is read
  pub read_more : (x y z : S) (s : SpaceId) (addr n below done count m : ℕ) (target : Target) (bs got : List ℕ) (r q : TxResult)
      → IsUnderway asks x (plan_below host (shows x).forest s addr (reading n) below)
      (flat_map (in_chunk host (shows x).forest s addr (reading n)) (chunks (shows x).forest false s (addr + done) (below - done))) (outcome bs r) y
      → done < below → target ≡ (trail_of (shows y).forest false s (addr + done)).target
      → count ≡ first_length (chunks (shows y).forest false s (addr + done) (below - done)) → m ≡ count
      → HasReached asks y (reached (answerer_by host (shows y).forest false target) (reading m)) (outcome got q) z
      → IsUnderway asks x (plan_below host (shows x).forest s addr (reading n) below)
      (flat_map (in_chunk host (shows x).forest s addr (reading n)) (chunks (shows x).forest false s (addr + (done + count)) (below - (done + count))))
      (outcome (bs ++ got) (either r q)) z
  read_more x y z s addr n below done count m target bs got r q u l t c e h =
      let f : Forest = (shows x).forest in
      let whole : List Reached = plan_below host f s addr (reading n) below in
      let rest : List Reached = flat_map (in_chunk host f s addr (reading n)) (chunks f false s (addr + done) (below - done)) in
      let same : (shows y).forest ≡ f = ap (λ (g : Published). g.forest) (underway_shows asks shows laws x y whole rest (outcome bs r) u) in
      let target' : target ≡ (trail_of f false s (addr + done)).target = t ∙ ap (λ (f : Forest). (trail_of f false s (addr + done)).target) same in
      let count' : count ≡ first_length (chunks f false s (addr + done) (below - done)) =
      c ∙ ap (λ (f : Forest). first_length (chunks f false s (addr + done) (below - done))) same in
      let list : reached (answerer_by host (shows y).forest false target) (reading m) ≡ in_chunk host f s addr (reading n) (run (addr + done) count) =
      (λ i. reached (answerer_by host (same i) false (target' i)) (reading (e i))) in
      underway_then asks shows laws x y z whole rest (in_chunk host f s addr (reading n) (run (addr + done) count))
      (flat_map (in_chunk host f s addr (reading n)) (chunks f false s (addr + (done + count)) (below - (done + count)))) bs got r q u
      (chunks_then (in_chunk host f s addr (reading n)) (shares_next f false s) addr done below count l count')
      (subst (λ rs. HasReached asks y rs (outcome got q) z) list h)

  -- what is asked the same, and has the same outcome
  same_reached : (x y : S) (rs qs : List Reached) (o : Outcome) → DoSame rs qs → HasReached asks x qs o y → HasReached asks x rs o y
  same_reached x y rs qs o d h = record {
    replies = h.replies;
    made = subst (λ q. asks x q h.replies y) (sym d.asks) h.made;
    each = h.each ∙ sym (ap (λ q. length q) d.asks);
    told = h.told ∙ sym (d.ends h.replies);
  }

  -- the end of a read above 2^64 - 1
  pub read_past : (x y : S) (s : SpaceId) (addr n below k : ℕ) (bs zeros : List ℕ) (r : TxResult) → IsMade (shows x).forest
      → addr + below ≡ 2 ^ 64 → below + k ≡ n → 0 < k
      → HasReached asks x (plan_below host (shows x).forest s addr (reading n) below) (outcome bs r) y
      → zeros ≡ replicate k 0
      → HasReached asks x (plan_by host (shows x).forest s addr (reading n)) (outcome (bs ++ zeros) (either r (tx false true))) y
  read_past x y s addr n below k bs zeros r made at all some h e =
      let f : Forest = (shows x).forest in
      let closed : IsClosedForest f = subst IsClosedForest made.made (IsClosedForest-made made.calls made.fitting) in
      let ds : List Reached = plan_below host f s addr (reading n) below in
      let past : List Reached = nobody (reading k) in
      let d : DoSame (plan_below host f s addr (reading n) (below + k)) (ds ++ past) = clip host f closed s addr (reading n) below below addr k (omega arith) at some in
      let d' : DoSame (plan_by host f s addr (reading n)) (ds ++ past) = subst (λ m. DoSame (plan_below host f s addr (reading n) m) (ds ++ past)) all d in
      let z : HasReached asks y past (outcome zeros (tx false true)) y = reached_nothing asks shows laws y k (tx false true) zeros e in
      same_reached x y (plan_by host f s addr (reading n)) (ds ++ past) (outcome (bs ++ zeros) (either r (tx false true))) d'
      (reached_then asks shows laws x y y ds past (outcome bs r) (outcome zeros (tx false true)) h z)

-- the bytes of a chunk
chunk_bytes : (addr done count k : ℕ) (bs : List ℕ) → k ≡ done + count - done → take k (drop done bs) ≡ take count (drop (addr + done - addr) bs)
chunk_bytes addr done count k bs is =
    let all : k ≡ count = omega (arith, is) in
    let at : done ≡ addr + done - addr = omega arith in (λ i. take (all i) (drop (at i) bs))

module _ {S : Type 0} (asks : Asks S) (shows : S → Published) (laws : AreBusLaws asks shows) (host : Bool) where
  -- one chunk more is written
  pub write_more : (x y z : S) (s : SpaceId) (addr below done count k : ℕ) (target : Target) (bytes : List ℕ) (r q : TxResult)
      → IsUnderway asks x (plan_below host (shows x).forest s addr (writing bytes) below)
      (flat_map (in_chunk host (shows x).forest s addr (writing bytes)) (chunks (shows x).forest true s (addr + done) (below - done))) (outcome [] r) y
      → done < below → target ≡ (trail_of (shows y).forest true s (addr + done)).target
      → count ≡ first_length (chunks (shows y).forest true s (addr + done) (below - done)) → k ≡ done + count - done
      → HasReached asks y (reached (answerer_by host (shows y).forest true target) (writing (take k (drop done bytes)))) (outcome [] q) z
      → IsUnderway asks x (plan_below host (shows x).forest s addr (writing bytes) below)
      (flat_map (in_chunk host (shows x).forest s addr (writing bytes)) (chunks (shows x).forest true s (addr + (done + count)) (below - (done + count))))
      (outcome [] (either r q)) z
  write_more x y z s addr below done count k target bytes r q u l t c e h =
      let f : Forest = (shows x).forest in
      let whole : List Reached = plan_below host f s addr (writing bytes) below in
      let rest : List Reached = flat_map (in_chunk host f s addr (writing bytes)) (chunks f true s (addr + done) (below - done)) in
      let same : (shows y).forest ≡ f = ap (λ (g : Published). g.forest) (underway_shows asks shows laws x y whole rest (outcome [] r) u) in
      let target' : target ≡ (trail_of f true s (addr + done)).target = t ∙ ap (λ (f : Forest). (trail_of f true s (addr + done)).target) same in
      let count' : count ≡ first_length (chunks f true s (addr + done) (below - done)) =
      c ∙ ap (λ (f : Forest). first_length (chunks f true s (addr + done) (below - done))) same in
      let mine : take k (drop done bytes) ≡ take count (drop (addr + done - addr) bytes) = chunk_bytes addr done count k bytes e in
      let list : reached (answerer_by host (shows y).forest true target) (writing (take k (drop done bytes)))
      ≡ in_chunk host f s addr (writing bytes) (run (addr + done) count) =
      (λ i. reached (answerer_by host (same i) true (target' i)) (writing (mine i))) in
      underway_then asks shows laws x y z whole rest (in_chunk host f s addr (writing bytes) (run (addr + done) count))
      (flat_map (in_chunk host f s addr (writing bytes)) (chunks f true s (addr + (done + count)) (below - (done + count)))) [] [] r q u
      (chunks_then (in_chunk host f s addr (writing bytes)) (shares_next f true s) addr done below count l count')
      (subst (λ rs. HasReached asks y rs (outcome [] q) z) list h)

  -- what the next chunk asks, and those after it, is taken
  pub takes_more : (allowed : S → Asked → Type 0) (x y : S) (s : SpaceId) (addr below done count k : ℕ) (target : Target) (bytes : List ℕ)
      → shows y ≡ shows x → done < below → target ≡ (trail_of (shows y).forest true s (addr + done)).target
      → count ≡ first_length (chunks (shows y).forest true s (addr + done) (below - done)) → k ≡ done + count - done
      → AllTaken allowed y (flat_map (in_chunk host (shows x).forest s addr (writing bytes)) (chunks (shows x).forest true s (addr + done) (below - done)))
      → AllTaken allowed y (reached (answerer_by host (shows y).forest true target) (writing (take k (drop done bytes))))
      × AllTaken allowed y (flat_map (in_chunk host (shows x).forest s addr (writing bytes))
      (chunks (shows x).forest true s (addr + (done + count)) (below - (done + count))))
  takes_more allowed x y s addr below done count k target bytes g l t c e all =
      let f : Forest = (shows x).forest in
      let same : (shows y).forest ≡ f = ap (λ (g : Published). g.forest) g in
      let target' : target ≡ (trail_of f true s (addr + done)).target = t ∙ ap (λ (f : Forest). (trail_of f true s (addr + done)).target) same in
      let count' : count ≡ first_length (chunks f true s (addr + done) (below - done)) =
      c ∙ ap (λ (f : Forest). first_length (chunks f true s (addr + done) (below - done))) same in
      let mine : take k (drop done bytes) ≡ take count (drop (addr + done - addr) bytes) = chunk_bytes addr done count k bytes e in
      let list : reached (answerer_by host (shows y).forest true target) (writing (take k (drop done bytes)))
      ≡ in_chunk host f s addr (writing bytes) (run (addr + done) count) =
      (λ i. reached (answerer_by host (same i) true (target' i)) (writing (mine i))) in
      let rest = chunks_then (in_chunk host f s addr (writing bytes)) (shares_next f true s) addr done below count l count' in
      let halves = taken_split allowed y (in_chunk host f s addr (writing bytes) (run (addr + done) count))
      (flat_map (in_chunk host f s addr (writing bytes)) (chunks f true s (addr + (done + count)) (below - (done + count))))
      (subst (AllTaken allowed y) rest all) in
      (subst (AllTaken allowed y) (sym list) halves.0, halves.1)

  -- the end of a write above 2^64 - 1
  pub write_past : (x y : S) (s : SpaceId) (addr below k : ℕ) (bytes : List ℕ) (r : TxResult) → IsMade (shows x).forest
      → addr + below ≡ 2 ^ 64 → below + k ≡ length bytes → 0 < k
      → HasReached asks x (plan_below host (shows x).forest s addr (writing bytes) below) (outcome [] r) y
      → HasReached asks x (plan_by host (shows x).forest s addr (writing bytes)) (outcome [] (either r (tx false true))) y
  write_past x y s addr below k bytes r made at all some h =
      let f : Forest = (shows x).forest in
      let closed : IsClosedForest f = subst IsClosedForest made.made (IsClosedForest-made made.calls made.fitting) in
      let ds : List Reached = plan_below host f s addr (writing bytes) below in
      let past : List Reached = nobody (writing []) in
      let d : DoSame (plan_below host f s addr (writing bytes) (below + k)) (ds ++ past) =
      clip host f closed s addr (writing bytes) below below addr k (omega arith) at some in
      let d' : DoSame (plan_by host f s addr (writing bytes)) (ds ++ past) = subst (λ m. DoSame (plan_below host f s addr (writing bytes) m) (ds ++ past)) all d in
      let z : HasReached asks y past (outcome [] (tx false true)) y = reached_nothing asks shows laws y 0 (tx false true) [] refl in
      same_reached asks shows laws host x y (plan_by host f s addr (writing bytes)) (ds ++ past) (outcome [] (either r (tx false true))) d'
      (reached_then asks shows laws x y y ds past (outcome [] r) (outcome [] (tx false true)) h z)

-- what is taken of a whole access is taken of its first bytes, which may be all
pub takes_first : {S : Type 0} (host : Bool) (f : Forest) (allowed : S → Asked → Type 0) (x : S) (s : SpaceId) (addr below : ℕ) (bytes : List ℕ) → IsMade f
    → below ≤ length bytes → (addr + length bytes ≤ 2 ^ 64 → below ≡ length bytes) → (2 ^ 64 < addr + length bytes → addr + below ≡ 2 ^ 64)
    → AllTaken allowed x (plan_by host f s addr (writing bytes)) → AllTaken allowed x (plan_below host f s addr (writing bytes) below)
takes_first host f allowed x s addr below bytes made most all past h = go (cases_lt below (length bytes))
  where
    closed : IsClosedForest f
    closed = subst IsClosedForest made.made (IsClosedForest-made made.calls made.fitting)

    go : (below < length bytes) ⊎ (length bytes ≤ below) → AllTaken allowed x (plan_below host f s addr (writing bytes) below)
    go (inr l) = let same : length bytes ≡ below = omega (arith, l, most) in subst (λ m. AllTaken allowed x (plan_below host f s addr (writing bytes) m)) same h
    go (inl l) =
        let at : addr + below ≡ 2 ^ 64 = at_end addr below (length bytes) l all past in
        let k : ℕ = length bytes - below in
        let sum : length bytes ≡ below + k = omega (arith, l) in
        let ds : List Reached = plan_below host f s addr (writing bytes) below in
        let d : DoSame (plan_below host f s addr (writing bytes) (below + k)) (ds ++ nobody (writing [])) =
        clip host f closed s addr (writing bytes) below below addr k (omega arith) at (omega (arith, l)) in
        let q : AllTaken allowed x (plan_below host f s addr (writing bytes) (below + k)) =
        subst (λ m. AllTaken allowed x (plan_below host f s addr (writing bytes) m)) sum h in
        (taken_split allowed x ds (nobody (writing [])) (subst (Every (allowed x)) d.asks q)).0
