-- The journal of notices, and what each watcher got of it.
use Rattle.std.proofs.Common.{◌≡◌, ℕ, Bool, true, false, not, ◌||◌, cond, eqb, List, [], ◌∷◌, ◌++◌, length, map, filter}
use Rattle.std.proofs.Common.{drop, flat_map}
use Rattle.std.proofs.Common.{Option, Some, None, refl, ap, ◌∙◌, arith}
use Rattle.std.specs.List.{list_any}
use Rattle.std.specs.Option.{option_or}
use Rattle.std.proofs.lemmas.List.{append-nil, drop-append-le, length-append}
use Rattle.std.proofs.Math.Seq.{drop-append_seam}
use Rattle.std.proofs.lemmas.Bool.Decides.{nat_tests}
use Rattle.mem_base.specs.declared.map.ids.WatcherId.{WatcherId}
use Rattle.mem_base.specs.declared.map.forests.Forest.{Forest}
use Rattle.mem_base.specs.declared.map.refusals.Refusal.{Refusal}
use Rattle.mem_base.specs.declared.access.notices.Part.{Part}
use Rattle.mem_base.specs.declared.access.notices.Notice.{Notice}
use Rattle.mem_base.specs.map.Refusals.{refuse_if}
use Rattle.mem_base.specs.lists.Every.{Every, EveryPair}
use Rattle.mem_base.specs.access.Parts.{notices_to, notices_between, parts_after_all, replay_notices}
use Rattle.mem_base.specs.script.Watching.{Watcher, Noticed, parts_shown, with_parts, notices_of, notices_all, caught_up}
use Rattle.mem_base.specs.script.Watching.{with_number, without_number}
use Rattle.mem_base.proofs.EveryLaws.{weaker, both, every_map, every_filter, every_push}
use Rattle.iommu_notify.specs.PartLists.{AreParts, noticed}
use Rattle.iommu_notify.specs.Watchers.{Joined, joined, notices_state, has_same_id, is_joined, IsReplayed}
use Rattle.iommu_notify.specs.Watchers.{AreReplayed, caught, told, others, leaving}
use Rattle.iommu_notify.proofs.ReplayLaws.{after_then, replay_between}

pub watchers_caught : (f : Forest) (js : List Joined)
    → map (λ j. j.watcher) (map (caught f) js) ≡ caught_up f (map (λ j. j.watcher) js)
watchers_caught f [] = refl
watchers_caught f (j ∷ js) = ap (λ ws. with_parts (parts_shown f j.watcher) j.watcher ∷ ws) (watchers_caught f js)

pub notices_told : (f : Forest) (js : List Joined) → flat_map (told f) js ≡ notices_all f (map (λ j. j.watcher) js)
notices_told f [] = refl
notices_told f (j ∷ js) = ap (λ xs. told f j ++ xs) (notices_told f js)

pub watchers_pushed : (js : List Joined) (j : Joined)
    → map (λ i. i.watcher) (js ++ j ∷ []) ≡ map (λ i. i.watcher) js ++ j.watcher ∷ []
watchers_pushed [] j = refl
watchers_pushed (i ∷ is) j = ap (λ ws. i.watcher ∷ ws) (watchers_pushed is j)

pub watchers_others : (id : WatcherId) (js : List Joined)
    → map (λ j. j.watcher) (others id js) ≡ without_number id.0 (map (λ j. j.watcher) js)
watchers_others id [] = refl
watchers_others id (j ∷ js) = elim (is_joined id j) as (λ b. map (λ i. i.watcher) (cond (not b) (j ∷ others id js) (others id js))
    ≡ cond (not b) (j.watcher ∷ without_number id.0 (map (λ i. i.watcher) js)) (without_number id.0 (map (λ i. i.watcher) js)))
    [ true ↦ watchers_others id js | false ↦ ap (λ ws. j.watcher ∷ ws) (watchers_others id js) ]

pub notices_leaving : (id : WatcherId) (js : List Joined)
    → leaving id js ≡ flat_map (notices_of []) (with_number id.0 (map (λ j. j.watcher) js))
notices_leaving id [] = refl
notices_leaving id (j ∷ js) = elim (is_joined id j) as
    (λ b. flat_map (λ i. notices_of [] i.watcher) (cond b (j ∷ filter (is_joined id) js) (filter (is_joined id) js))
    ≡ flat_map (notices_of []) (cond b (j.watcher ∷ with_number id.0 (map (λ i. i.watcher) js))
    (with_number id.0 (map (λ i. i.watcher) js))))
    [ true ↦ ap (λ xs. notices_of [] j.watcher ++ xs) (notices_leaving id js) | false ↦ notices_leaving id js ]

-- What one watcher got

to_append : (id : WatcherId) (xs ys : List Noticed) → notices_to id (xs ++ ys) ≡ notices_to id xs ++ notices_to id ys
to_append id [] ys = refl
to_append id (x ∷ xs) ys = elim (eqb x.0.0 id.0) as (λ b. cond b (x.1 ∷ notices_to id (xs ++ ys)) (notices_to id (xs ++ ys))
    ≡ cond b (x.1 ∷ notices_to id xs) (notices_to id xs) ++ notices_to id ys)
    [ true ↦ ap (λ zs. x.1 ∷ zs) (to_append id xs ys) | false ↦ to_append id xs ys ]

to_own : (id : WatcherId) (xs : List Notice) → notices_to id (noticed id xs) ≡ xs
to_own id [] = refl
to_own id (x ∷ xs) = let one : eqb id.0 id.0 ≡ true = grind (arith, nat_tests) in rw one (ap (λ zs. x ∷ zs) (to_own id xs))

to_other : (id other : WatcherId) (xs : List Notice) → eqb other.0 id.0 ≡ false → notices_to id (noticed other xs) ≡ []
to_other id other [] e = refl
to_other id other (x ∷ xs) e = rw e (to_other id other xs e)

module _ (tell : Joined → List Notice) where
  abbrev telling : List Joined → List Noticed
  telling js = flat_map (λ j. noticed j.watcher.id (tell j)) js

  to_none : (id : WatcherId) (js : List Joined) → Every (λ j. eqb j.watcher.id.0 id.0 ≡ false) js
      → notices_to id (telling js) ≡ []
  to_none id [] h = refl
  to_none id (j ∷ js) h =
      to_append id (noticed j.watcher.id (tell j)) (telling js)
      ∙ ap (λ xs. xs ++ notices_to id (telling js)) (to_other id j.watcher.id (tell j) h.0) ∙ to_none id js h.1

  eq_back : (a b : ℕ) → eqb a b ≡ false → eqb b a ≡ false
  eq_back a b e = grind (arith, nat_tests)

  -- of watchers with different ids each gets its own
  to_each : (js : List Joined) → EveryPair (λ i j. has_same_id i j ≡ false) js
      → Every (λ j. notices_to j.watcher.id (telling js) ≡ tell j) js
  to_each [] h = tt
  to_each (j ∷ js) h = (
    first,
    weaker (λ i. (has_same_id j i ≡ false) × (notices_to i.watcher.id (telling js) ≡ tell i))
        (λ i. notices_to i.watcher.id (noticed j.watcher.id (tell j) ++ telling js) ≡ tell i) later js
        (both (λ i. has_same_id j i ≡ false) (λ i. notices_to i.watcher.id (telling js) ≡ tell i) js h.0 (to_each js h.1)),
  )
    where
      first : notices_to j.watcher.id (noticed j.watcher.id (tell j) ++ telling js) ≡ tell j
      first =
          to_append j.watcher.id (noticed j.watcher.id (tell j)) (telling js)
          ∙ ap (λ xs. xs ++ notices_to j.watcher.id (telling js)) (to_own j.watcher.id (tell j))
          ∙ ap (λ xs. tell j ++ xs) (to_none j.watcher.id js
          (weaker (λ i. has_same_id j i ≡ false) (λ i. eqb i.watcher.id.0 j.watcher.id.0 ≡ false)
          (λ i e. eq_back j.watcher.id.0 i.watcher.id.0 e) js h.0))
          ∙ append-nil (tell j)

      later : (i : Joined) → (has_same_id j i ≡ false) × (notices_to i.watcher.id (telling js) ≡ tell i)
          → notices_to i.watcher.id (noticed j.watcher.id (tell j) ++ telling js) ≡ tell i
      later i e =
          to_append i.watcher.id (noticed j.watcher.id (tell j)) (telling js)
          ∙ ap (λ xs. xs ++ notices_to i.watcher.id (telling js)) (to_other i.watcher.id j.watcher.id (tell j) e.0) ∙ e.1

-- The replay of one watcher

-- its notices grow by those on the way to other parts
grown : (journal xs : List Noticed) (j : Joined) (new : List Part) → IsReplayed journal j → AreParts j.watcher.parts
    → AreParts new
    → notices_to j.watcher.id xs ≡ notices_between j.watcher.parts new
    → IsReplayed (journal ++ xs) (joined (with_parts new j.watcher) j.since)
grown journal xs j new h old parts e = (
  (let at = length-append journal xs in let w = h.0 in omega arith),
  ap (λ ys. replay_notices (notices_to j.watcher.id ys)) (drop-append-le j.since journal xs h.0)
      ∙ ap replay_notices (to_append j.watcher.id (drop j.since journal) xs)
      ∙ after_then (Some []) (notices_to j.watcher.id (drop j.since journal)) (notices_to j.watcher.id xs)
      ∙ ap (λ s. parts_after_all s (notices_to j.watcher.id xs)) h.1
      ∙ ap (parts_after_all (Some j.watcher.parts)) e
      ∙ replay_between j.watcher.parts new old parts,
)

-- notices of others leave it as it is
untouched : (journal xs : List Noticed) (j : Joined) → IsReplayed journal j → notices_to j.watcher.id xs ≡ []
    → IsReplayed (journal ++ xs) j
untouched journal xs j h e = (
  (let at = length-append journal xs in let w = h.0 in omega arith),
  ap (λ ys. replay_notices (notices_to j.watcher.id ys)) (drop-append-le j.since journal xs h.0)
      ∙ ap replay_notices (to_append j.watcher.id (drop j.since journal) xs)
      ∙ ap (λ ys. replay_notices (notices_to j.watcher.id (drop j.since journal) ++ ys)) e
      ∙ ap replay_notices (append-nil (notices_to j.watcher.id (drop j.since journal))) ∙ h.1,
)

-- a new watcher is told its first parts
begun : (journal : List Noticed) (w : Watcher) (new : List Part) → w.parts ≡ [] → AreParts new
    → IsReplayed (journal ++ notices_of new w) (joined (with_parts new w) (length journal))
begun journal w new e parts = (
  (let at = length-append journal (notices_of new w) in omega arith),
  ap (λ ys. replay_notices (notices_to w.id ys)) (drop-append_seam journal (notices_of new w))
      ∙ ap replay_notices (to_own w.id (notices_between w.parts new))
      ∙ ap (λ ps. replay_notices (notices_between ps new)) e
      ∙ replay_between [] new tt parts,
)

-- All watchers

pairs_caught : (f : Forest) (js : List Joined) → EveryPair (λ i j. has_same_id i j ≡ false) js
    → EveryPair (λ i j. has_same_id i j ≡ false) (map (caught f) js)
pairs_caught f [] h = tt
pairs_caught f (j ∷ js) h = (every_map (λ i. has_same_id (caught f j) i ≡ false) (caught f) js h.0, pairs_caught f js h.1)

unmapped : (f : Forest) (js : List Joined) → Every (λ j. AreParts j.watcher.parts) (map (caught f) js)
    → Every (λ j. AreParts (parts_shown f j.watcher)) js
unmapped f [] h = tt
unmapped f (j ∷ js) h = (h.0, unmapped f js h.1)

abbrev Known : Forest → List Joined → List Noticed → Joined → Type 0
Known f js journal j = (IsReplayed journal j × AreParts j.watcher.parts)
    × (AreParts (parts_shown f j.watcher) × (notices_to j.watcher.id (flat_map (told f) js) ≡ notices_between j.watcher.parts
    (parts_shown f j.watcher)))

all_known : (f : Forest) (js : List Joined) (journal : List Noticed) → AreReplayed (notices_state js journal)
    → Every (λ j. AreParts j.watcher.parts) (map (caught f) js) → Every (Known f js journal) js
all_known f js journal h parts =
    both (λ j. IsReplayed journal j × AreParts j.watcher.parts)
    (λ j. AreParts (parts_shown f j.watcher) × (notices_to j.watcher.id (flat_map (told f) js) ≡ notices_between j.watcher.parts
    (parts_shown f j.watcher))) js
    (both (IsReplayed journal) (λ j. AreParts j.watcher.parts) js h.each h.ordered)
    (both (λ j. AreParts (parts_shown f j.watcher))
    (λ j. notices_to j.watcher.id (flat_map (told f) js) ≡ notices_between j.watcher.parts (parts_shown f j.watcher)) js
    (unmapped f js parts) (to_each (λ j. notices_between j.watcher.parts (parts_shown f j.watcher)) js h.apart))

-- all have caught up
pub all_caught : (f : Forest) (js : List Joined) (journal : List Noticed) → AreReplayed (notices_state js journal)
    → Every (λ j. AreParts j.watcher.parts) (map (caught f) js)
    → AreReplayed (notices_state (map (caught f) js) (journal ++ flat_map (told f) js))
all_caught f js journal h parts = record {
  each = every_map (IsReplayed (journal ++ flat_map (told f) js)) (caught f) js
      (weaker (Known f js journal) (λ j. IsReplayed (journal ++ flat_map (told f) js) (caught f j))
      (λ j k. grown journal (flat_map (told f) js) j (parts_shown f j.watcher) k.0.0 k.0.1 k.1.0 k.1.1) js
      (all_known f js journal h parts));
  apart = pairs_caught f js h.apart;
  ordered = parts;
}

-- no watcher has an id
absent : (id : WatcherId) (js : List Joined) → list_any (is_joined id) js ≡ false
    → Every (λ j. eqb j.watcher.id.0 id.0 ≡ false) js
absent id [] e = tt
absent id (j ∷ js) e =
    let rest = λ (w : list_any (is_joined id) js ≡ false). absent id js w in
    elim (is_joined id j) as (λ t. is_joined id j ≡ t → t || list_any (is_joined id) js ≡ false
    → (eqb j.watcher.id.0 id.0 ≡ false) × Every (λ i. eqb i.watcher.id.0 id.0 ≡ false) js) [
      | true ↦ λ t w. absurd (let x : true ≡ false = w in cc)
      | false ↦ λ t w. (t, rest w)
    ] refl e

-- where a watcher may join, its id is free
pub free_id : (there : Bool) (why : Refusal) (rest : Option Refusal) → option_or (refuse_if there why) rest ≡ None → there ≡ false
free_id true why rest e = cc
free_id false why rest e = refl

pairs_pushed : (js : List Joined) (j : Joined) → EveryPair (λ i k. has_same_id i k ≡ false) js
    → Every (λ i. has_same_id i j ≡ false) js
    → EveryPair (λ i k. has_same_id i k ≡ false) (js ++ j ∷ [])
pairs_pushed [] j h k = (tt, tt)
pairs_pushed (i ∷ is) j h k = (every_push (λ x. has_same_id i x ≡ false) is j h.0 k.0, pairs_pushed is j h.1 k.1)

none_to : (id other : WatcherId) (xs : List Notice) → eqb other.0 id.0 ≡ false → notices_to other (noticed id xs) ≡ []
none_to id other xs e = to_other other id xs (let back : eqb id.0 other.0 ≡ false = grind (arith, nat_tests) in back)

-- one more has joined
pub one_joined : (js : List Joined) (journal : List Noticed) (w : Watcher) (new : List Part)
    → AreReplayed (notices_state js journal)
    → list_any (is_joined w.id) js ≡ false → w.parts ≡ [] → AreParts new
    → AreReplayed (notices_state (js ++ joined (with_parts new w) (length journal) ∷ []) (journal ++ notices_of new w))
one_joined js journal w new h e empty parts = record {
  each = every_push (IsReplayed (journal ++ notices_of new w)) js (joined (with_parts new w) (length journal))
      (weaker (λ j. IsReplayed journal j × (eqb j.watcher.id.0 w.id.0 ≡ false)) (IsReplayed (journal ++ notices_of new w))
      (λ j k. untouched journal (notices_of new w) j k.0 (none_to w.id j.watcher.id (notices_between w.parts new) k.1)) js
      (both (IsReplayed journal) (λ j. eqb j.watcher.id.0 w.id.0 ≡ false) js h.each (absent w.id js e)))
      (begun journal w new empty parts);
  apart = pairs_pushed js (joined (with_parts new w) (length journal)) h.apart (absent w.id js e);
  ordered = every_push (λ j. AreParts j.watcher.parts) js (joined (with_parts new w) (length journal)) h.ordered parts;
}

pairs_filter : (test : Joined → Bool) (js : List Joined) → EveryPair (λ i k. has_same_id i k ≡ false) js
    → EveryPair (λ i k. has_same_id i k ≡ false) (filter test js)
pairs_filter test [] h = tt
pairs_filter test (j ∷ js) h = elim (test j) as
    (λ b. EveryPair (λ i k. has_same_id i k ≡ false) (cond b (j ∷ filter test js) (filter test js))) [
      | true ↦ (every_filter (λ k. has_same_id j k ≡ false) test js h.0, pairs_filter test js h.1)
      | false ↦ pairs_filter test js
          h.1
    ]

-- those that stay get nothing of what those that leave are told
stay_untold : (id other : WatcherId) (js : List Joined) → eqb other.0 id.0 ≡ false → notices_to other (leaving id js) ≡ []
stay_untold id other [] e = refl
stay_untold id other (j ∷ js) e =
    let rest = stay_untold id other js e in
    elim (is_joined id j) as (λ t. is_joined id j ≡ t
    → notices_to other (flat_map (λ i. notices_of [] i.watcher)
    (cond t (j ∷ filter (is_joined id) js) (filter (is_joined id) js))) ≡ []) [
      | true ↦ λ t.
          to_append other (notices_of [] j.watcher) (leaving id js)
          ∙ ap (λ xs. xs ++ notices_to other (leaving id js))
          (to_other other j.watcher.id (notices_between j.watcher.parts []) (differs t))
          ∙ rest
      | false ↦ λ t. rest
    ] refl
  where
    differs : is_joined id j ≡ true → eqb j.watcher.id.0 other.0 ≡ false
    differs t = grind (arith, nat_tests)

those_others : (id : WatcherId) (js : List Joined) → Every (λ j. eqb j.watcher.id.0 id.0 ≡ false) (others id js)
those_others id [] = tt
those_others id (j ∷ js) =
    let rest = those_others id js in
    elim (is_joined id j) as (λ t. is_joined id j ≡ t → Every (λ i. eqb i.watcher.id.0 id.0 ≡ false)
    (cond (not t) (j ∷ others id js) (others id js)))
    [ true ↦ λ t. rest | false ↦ λ t. (t, rest) ] refl

-- one has left
pub one_left : (id : WatcherId) (js : List Joined) (journal : List Noticed) → AreReplayed (notices_state js journal)
    → AreReplayed (notices_state (others id js) (journal ++ leaving id js))
one_left id js journal h = record {
  each = weaker (λ j. IsReplayed journal j × (eqb j.watcher.id.0 id.0 ≡ false)) (IsReplayed (journal ++ leaving id js))
      (λ j k. untouched journal (leaving id js) j k.0 (stay_untold id j.watcher.id js k.1)) (others id js)
      (both (IsReplayed journal) (λ j. eqb j.watcher.id.0 id.0 ≡ false) (others id js)
      (every_filter (IsReplayed journal) (λ j. not (is_joined id j)) js h.each) (those_others id js));
  apart = pairs_filter (λ j. not (is_joined id j)) js h.apart;
  ordered = every_filter (λ j. AreParts j.watcher.parts) (λ j. not (is_joined id j)) js h.ordered;
}
