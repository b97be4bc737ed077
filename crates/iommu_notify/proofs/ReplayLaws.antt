-- The notices on the way from some parts to others, replayed.
use Rattle.std.proofs.Common.{◌≡◌, ℕ, zero, suc, ◌+◌, ◌<◌, ◌≤◌, Bool, true, false, not, ◌&&◌, ◌||◌, cond, eqb, ltb, List, [], ◌∷◌}
use Rattle.std.proofs.Common.{◌++◌, length, map, filter}
use Rattle.std.proofs.Common.{Option, Some, refl, sym, ap, subst, ◌∙◌, arith, append_assoc}
use Rattle.std.specs.Prelude.{nat_lt, option_and_then}
use Rattle.std.specs.List.{list_any}
use Rattle.std.proofs.lemmas.Bool.Decides.{nat_tests}
use Rattle.std.specs.Ordering.{is_lt}
use Rattle.mem_base.specs.declared.map.translations.Perm.{Perm}
use Rattle.mem_base.specs.declared.map.translations.Perm.TheVariants.{Nothing, Read, Write, Both}
use Rattle.mem_base.specs.declared.access.notices.Part.{Part}
use Rattle.mem_base.specs.declared.access.notices.Notice.{Notice}
use Rattle.mem_base.specs.declared.access.notices.Notice.TheVariants.{Map, Unmap}
use Rattle.mem_base.specs.lists.Every.{Every}
use Rattle.mem_base.specs.lists.Sorting.{put_by}
use Rattle.mem_base.specs.views.Replay.{if_fits}
use Rattle.mem_base.specs.access.Parts.{is_same_part, is_same_perm, meets_part, notices_between, part_order, parts_after}
use Rattle.mem_base.specs.access.Parts.{parts_after_all, parts_without}
use Rattle.mem_base.proofs.EveryLaws.{weaker, every_filter, every_push}
use Rattle.iommu_notify.specs.PartLists.{AreParts}
use Rattle.mem_base.proofs.BoolLaws.{left_of, number_itself, right_of}
use Rattle.std.proofs.lemmas.Bool.{eqb-true}
use Rattle.mem_base.proofs.EntryLaws.{lt_number}

-- those of the first parts that are among the second
abbrev pub kept : List Part → List Part → List Part
kept ps qs = filter (λ p. list_any (is_same_part p) qs) ps

same_perm : (p : Perm) → is_same_perm p p ≡ true
same_perm Nothing = refl
same_perm _ = refl

is_perm : (p q : Perm) → is_same_perm p q ≡ true → p ≡ q
is_perm Nothing Nothing e = refl
is_perm Nothing Read e = cc
is_perm Nothing Write e = cc
is_perm Nothing Both e = cc
is_perm Read Nothing e = cc
is_perm Read Read e = refl
is_perm Read Write e = cc
is_perm Read Both e = cc
is_perm Write Nothing e = cc
is_perm Write Read e = cc
is_perm Write Write e = refl
is_perm Write Both e = cc
is_perm Both Nothing e = cc
is_perm Both Read e = cc
is_perm Both Write e = cc
is_perm Both Both e = refl

same_self : (p : Part) → is_same_part p p ≡ true
same_self p =
    let a = number_itself p.from in let b = number_itself p.to in let c = number_itself p.space.0 in let d = number_itself p.addr in let e = same_perm
    p.perm in
    rw (a, b, c, d, e) refl

abbrev part : ℕ → ℕ → ℕ → ℕ → Perm → Part
part from to space addr perm = record { from = from; to = to; space = record { 0 = space }; addr = addr; perm = perm }

same_fields : (from to space addr : ℕ) (perm : Perm) (q : Part) → from ≡ q.from → to ≡ q.to → space ≡ q.space.0 → addr ≡ q.addr
    → perm ≡ q.perm
    → part from to space addr perm ≡ q
same_fields from to space addr perm q a b c d e = rw (a, b, c, d, e) refl

is_part : (p q : Part) → is_same_part p q ≡ true → p ≡ q
is_part p q e =
    let four = left_of ((eqb p.from q.from) && (eqb p.to q.to) && (eqb p.space.0 q.space.0) && (eqb p.addr q.addr))
    (is_same_perm p.perm q.perm) e in
    let three = left_of ((eqb p.from q.from) && (eqb p.to q.to) && (eqb p.space.0 q.space.0)) (eqb p.addr q.addr) four in
    let two = left_of ((eqb p.from q.from) && (eqb p.to q.to)) (eqb p.space.0 q.space.0) three in
    same_fields p.from p.to p.space.0 p.addr p.perm q
    (eqb-true p.from q.from (left_of (eqb p.from q.from) (eqb p.to q.to) two))
    (eqb-true p.to q.to (right_of (eqb p.from q.from) (eqb p.to q.to) two))
    (eqb-true p.space.0 q.space.0 (right_of ((eqb p.from q.from) && (eqb p.to q.to)) (eqb p.space.0 q.space.0) three))
    (eqb-true p.addr q.addr (right_of ((eqb p.from q.from) && (eqb p.to q.to) && (eqb p.space.0 q.space.0)) (eqb p.addr q.addr)
    four))
    (is_perm p.perm q.perm (right_of ((eqb p.from q.from) && (eqb p.to q.to) && (eqb p.space.0 q.space.0) && (eqb p.addr q.addr))
    (is_same_perm p.perm q.perm) e))

-- parts that begin at two offsets differ
apart : (p q : Part) → eqb p.from q.from ≡ false → is_same_part p q ≡ false
apart p q e = rw e refl

less_apart : (p q : Part) → p.from < q.from → is_same_part p q ≡ false
less_apart p q l = apart p q (grind (arith, nat_tests))

more_apart : (p q : Part) → q.from < p.from → is_same_part p q ≡ false
more_apart p q l = apart p q (grind (arith, nat_tests))

-- a part that begins before all of these is none of them
none_after : (p : Part) (qs : List Part) → Every (λ q. p.from < q.from) qs → list_any (is_same_part p) qs ≡ false
none_after p [] h = refl
none_after p (q ∷ qs) h = let differs = less_apart p q h.0 in rw differs (none_after p qs h.1)

-- what was told first, and then the rest
pub after_then : (s : Option (List Part)) (xs ys : List Notice)
    → parts_after_all s (xs ++ ys) ≡ parts_after_all (parts_after_all s xs) ys
after_then s [] ys = refl
after_then s (x ∷ xs) ys = after_then (option_and_then (λ qs. parts_after qs x) s) xs ys

-- the front parts end before the rest begin
abbrev IsBefore : List Part → List Part → Type 0
IsBefore front rest = Every (λ x. (x.from ≤ x.to) × Every (λ q. x.to < q.from) rest) front

abbrev IsBeforeOne : Part → Part → Type 0
IsBeforeOne q x = (x.from ≤ x.to) × (x.to < q.from)

before_rest : (front : List Part) (p : Part) (ps : List Part) → IsBefore front (p ∷ ps) → IsBefore front ps
before_rest front p ps h =
    weaker (λ x. (x.from ≤ x.to) × Every (λ q. x.to < q.from) (p ∷ ps)) (λ x. (x.from ≤ x.to) × Every (λ q. x.to < q.from) ps)
    (λ x k. (k.0, k.1.1)) front h

before_one : (front : List Part) (p : Part) (ps : List Part) → IsBefore front (p ∷ ps) → Every (IsBeforeOne p) front
before_one front p ps h =
    weaker (λ x. (x.from ≤ x.to) × Every (λ q. x.to < q.from) (p ∷ ps)) (IsBeforeOne p) (λ x k. (k.0, k.1.0)) front h

before_more : (front : List Part) (p : Part) (ps : List Part) → IsBefore front (p ∷ ps) → AreParts (p ∷ ps)
    → IsBefore (front ++ p ∷ []) ps
before_more front p ps h k =
    every_push (λ x. (x.from ≤ x.to) × Every (λ q. x.to < q.from) ps) front p (before_rest front p ps h) (k.0, k.1)

begin_after : (p : Part) (ps : List Part) → p.from ≤ p.to → Every (λ q. p.to < q.from) ps → Every (λ q. p.from < q.from) ps
begin_after p ps l h = weaker (λ q. p.to < q.from) (λ q. p.from < q.from) (λ q k. omega arith) ps h

any_middle : (p : Part) (front ps : List Part) → list_any (is_same_part p) (front ++ p ∷ ps) ≡ true
any_middle p [] ps = let same = same_self p in rw same refl
any_middle p (x ∷ xs) ps =
    elim (is_same_part p x) as (λ b. b || list_any (is_same_part p) (xs ++ p ∷ ps) ≡ true)
    [ true ↦ refl | false ↦ any_middle p xs ps ]

none_taken : (p : Part) (ps : List Part) → Every (λ q. p.from < q.from) ps → filter (λ q. not (is_same_part p q)) ps ≡ ps
none_taken p [] h = refl
none_taken p (q ∷ qs) h = let differs = less_apart p q h.0 in rw differs (ap (λ l. q ∷ l) (none_taken p qs h.1))

-- taking one part out
taken_out : (p : Part) (front ps : List Part) → Every (IsBeforeOne p) front → Every (λ q. p.from < q.from) ps
    → filter (λ q. not (is_same_part p q)) (front ++ p ∷ ps) ≡ front ++ ps
taken_out p [] ps h k = let same = same_self p in rw same (none_taken p ps k)
taken_out p (x ∷ xs) ps h k =
    let ends = h.0.0 in let begins = h.0.1 in
    let differs = more_apart p x (omega arith) in
    rw differs (ap (λ l. x ∷ l) (taken_out p xs ps h.1 k))

unmap_one : (p : Part) (front ps : List Part) → Every (IsBeforeOne p) front → Every (λ q. p.from < q.from) ps
    → parts_after (front ++ p ∷ ps) (Unmap p) ≡ Some (front ++ ps)
unmap_one p front ps h k =
    ap (λ b. if_fits b (filter (λ q. not (is_same_part p q)) (front ++ p ∷ ps))) (any_middle p front ps)
    ∙ ap (λ l. let o : Option (List Part) = Some l in o) (taken_out p front ps h k)

-- the parts that go are taken out one after another
unmaps : (front ps new : List Part) → IsBefore front ps → AreParts ps
    → parts_after_all (Some (front ++ ps)) (map (λ p. Unmap p) (parts_without ps new)) ≡ Some (front ++ kept ps new)
unmaps front [] new b h = refl
unmaps front (p ∷ ps) new b h =
    elim (list_any (is_same_part p) new) as (λ t. parts_after_all (Some (front ++ p ∷ ps))
    (map (λ q. Unmap q) (cond (not t) (p ∷ parts_without ps new) (parts_without ps new)))
    ≡ Some (front ++ cond t (p ∷ kept ps new) (kept ps new))) [
      | true ↦
          ap (λ l. parts_after_all (Some l) (map (λ q. Unmap q) (parts_without ps new))) (sym (append_assoc front (p ∷ []) ps))
          ∙ unmaps (front ++ p ∷ []) ps new (before_more front p ps b h) h.2
          ∙ ap (λ l. let o : Option (List Part) = Some l in o) (append_assoc front (p ∷ []) (kept ps new))
      | false ↦
          ap (λ s. parts_after_all s (map (λ q. Unmap q) (parts_without ps new)))
          (unmap_one p front ps (before_one front p ps b) (begin_after p ps h.0 h.1))
          ∙ unmaps front ps new (before_rest front p ps b) h.2
    ]

none_met : (q : Part) (front ks : List Part) → q.from ≤ q.to → Every (IsBeforeOne q) front → Every (λ x. q.to < x.from) ks
    → list_any (meets_part q) (front ++ ks) ≡ false
none_met q [] [] l h k = refl
none_met q [] (x ∷ xs) l h k = let past : nat_lt q.to x.from
    ≡ true = (let w = k.0 in grind (arith, nat_tests)) in rw past (none_met q [] xs l tt k.1)
none_met q (x ∷ xs) ks l h k = let rest = none_met q xs ks l h.1 k in misses (nat_lt q.to x.from) rest
  where
    misses : (t : Bool) → list_any (meets_part q) (xs ++ ks) ≡ false
        → not t && not (nat_lt x.to q.from) || list_any (meets_part q) (xs ++ ks) ≡ false
    misses true e = e
    misses false e = let past : nat_lt x.to q.from ≡ true = (let w = h.0.1 in grind (arith, nat_tests)) in rw past e

put_middle : (q : Part) (front ks : List Part) → q.from ≤ q.to → Every (IsBeforeOne q) front → Every (λ x. q.to < x.from) ks
    → put_by part_order q (front ++ ks) ≡ front ++ q ∷ ks
put_middle q [] [] l h k = refl
put_middle q [] (x ∷ xs) l h k =
    let before : ltb q.from x.from ≡ true = (let w = k.0 in grind (arith, nat_tests)) in
    let less : is_lt (part_order q x) ≡ true = lt_number q.from x.from ∙ before in
    rw less refl
put_middle q (x ∷ xs) ks l h k =
    let after : ltb q.from x.from ≡ false = (let v = h.0.0 in let w = h.0.1 in grind (arith, nat_tests)) in
    let less : is_lt (part_order q x) ≡ false = lt_number q.from x.from ∙ after in
    rw less (ap (λ r. x ∷ r) (put_middle q xs ks l h.1 k))

map_one : (q : Part) (front ks : List Part) → q.from ≤ q.to → Every (IsBeforeOne q) front → Every (λ x. q.to < x.from) ks
    → parts_after (front ++ ks) (Map q) ≡ Some (front ++ q ∷ ks)
map_one q front ks l h k =
    ap (λ b. if_fits (not b) (put_by part_order q (front ++ ks))) (none_met q front ks l h k)
    ∙ ap (λ l. let o : Option (List Part) = Some l in o) (put_middle q front ks l h k)

-- and those that come are put in one after another
maps : (front qs old : List Part) → IsBefore front qs → AreParts qs
    → parts_after_all (Some (front ++ kept qs old)) (map (λ p. Map p) (parts_without qs old)) ≡ Some (front ++ qs)
maps front [] old b h = refl
maps front (q ∷ qs) old b h =
    let rest = maps (front ++ q ∷ []) qs old (before_more front q qs b h) h.2 in
    elim (list_any (is_same_part q) old) as (λ t. parts_after_all (Some (front ++ cond t (q ∷ kept qs old) (kept qs old)))
    (map (λ p. Map p) (cond (not t) (q ∷ parts_without qs old) (parts_without qs old))) ≡ Some (front ++ q ∷ qs)) [
      | true ↦
          ap (λ l. parts_after_all (Some l) (map (λ p. Map p) (parts_without qs old)))
          (sym (append_assoc front (q ∷ []) (kept qs old)))
          ∙ rest ∙ ap (λ l. let o : Option (List Part) = Some l in o) (append_assoc front (q ∷ []) qs)
      | false ↦
          let after = every_filter (λ x. q.to < x.from) (λ p. list_any (is_same_part p) old) qs h.1 in
          ap (λ s. parts_after_all s (map (λ p. Map p) (parts_without qs old)))
          (map_one q front (kept qs old) h.0 (before_one front q qs b) after
          ∙ ap (λ l. let o : Option (List Part) = Some l in o) (sym (append_assoc front (q ∷ []) (kept qs old))))
          ∙ rest ∙ ap (λ l. let o : Option (List Part) = Some l in o) (append_assoc front (q ∷ []) qs)
    ]

none_kept : (ps : List Part) → kept ps [] ≡ []
none_kept [] = refl
none_kept (p ∷ ps) = none_kept ps

-- a part that none of these is may be left out
kept_past : (xs : List Part) (p : Part) (ps : List Part) → Every (λ x. is_same_part x p ≡ false) xs
    → kept xs (p ∷ ps) ≡ kept xs ps
kept_past [] p ps h = refl
kept_past (x ∷ xs) p ps h =
    let differs = h.0 in
    rw differs (elim (list_any (is_same_part x) ps) as
    (λ t. cond t (x ∷ kept xs (p ∷ ps)) (kept xs (p ∷ ps)) ≡ cond t (x ∷ kept xs ps) (kept xs ps))
    [ true ↦ ap (λ l. x ∷ l) (kept_past xs p ps h.1) | false ↦ kept_past xs p ps h.1 ])

all_apart : (p : Part) (qs : List Part) → Every (λ q. p.from < q.from) qs → Every (λ x. is_same_part x p ≡ false) qs
all_apart p qs h = weaker (λ q. p.from < q.from) (λ x. is_same_part x p ≡ false) (λ x l. more_apart x p l) qs h

begin_later : (a : ℕ) (q : Part) (qs : List Part) → a < q.from → Every (λ x. q.from < x.from) qs
    → Every (λ x. a < x.from) (q ∷ qs)
begin_later a q qs l h = (l, weaker (λ x. q.from < x.from) (λ x. a < x.from) (λ x k. omega arith) qs h)

data Order (a b : ℕ) : Type 0 where
  less : a < b → Order a b
  same : a ≡ b → Order a b
  more : b < a → Order a b

order_of : (a b : ℕ) → Order a b
order_of a b = elim (ltb a b) as (λ t. ltb a b ≡ t → Order a b) [
  | true ↦ λ t. less (grind (arith, nat_tests))
  | false ↦ λ t. elim (eqb a b) as (λ e. eqb a b ≡ e → Order a b)
      [ true ↦ λ e. same (eqb-true a b e) | false ↦ λ e. more (grind (arith, nat_tests)) ] refl
] refl

not_back : (p q : Part) → is_same_part p q ≡ false → is_same_part q p ≡ false
not_back p q u = elim (is_same_part q p) as (λ b. is_same_part q p ≡ b → b ≡ false) [
  | true ↦ λ b.
      let one = is_part q p b in
      let again : is_same_part p q ≡ true = rw one (same_self p) in
      absurd (let x : true ≡ false = sym again ∙ u in cc)
  | false ↦ λ b. refl
] refl

-- where both begin at one offset
swap_same : (p q : Part) (ps qs : List Part) → p.from ≡ q.from → Every (λ x. p.from < x.from) ps → Every (λ x. q.from < x.from) qs
    → kept ps qs ≡ kept qs ps
    → (t : Bool) → is_same_part p q ≡ t → kept (p ∷ ps) (q ∷ qs) ≡ kept (q ∷ qs) (p ∷ ps)
swap_same p q ps qs e ps_after qs_after both_rest t is = by_same t is
  where
    ps_past : Every (λ x. q.from < x.from) ps
    ps_past = subst (λ a. Every (λ x. a < x.from) ps) e ps_after

    qs_past : Every (λ x. p.from < x.from) qs
    qs_past = subst (λ a. Every (λ x. a < x.from) qs) (sym e) qs_after

    rest : kept ps (q ∷ qs) ≡ kept qs (p ∷ ps)
    rest = kept_past ps q qs (all_apart q ps ps_past) ∙ both_rest ∙ sym (kept_past qs p ps (all_apart p qs qs_past))

    by_same : (t : Bool) → is_same_part p q ≡ t → kept (p ∷ ps) (q ∷ qs) ≡ kept (q ∷ qs) (p ∷ ps)
    by_same true t =
        let one = is_part p q t in
        let back : is_same_part q p ≡ true = ap (λ x. is_same_part q x) one ∙ same_self q in
        rw (t, back) (ap (λ l. p ∷ l) rest ∙ ap (λ x. x ∷ kept qs (p ∷ ps)) one)
    by_same false t =
        let absent = none_after p qs qs_past in
        let back = not_back p q t in
        let missing = none_after q ps ps_past in
        rw (t, absent, back, missing) rest

swap_step : (p q : Part) (ps qs : List Part) → AreParts (p ∷ ps) → AreParts (q ∷ qs) → kept ps (q ∷ qs) ≡ kept (q ∷ qs) ps
    → kept (p ∷ ps) qs ≡ kept qs (p ∷ ps) → kept ps qs ≡ kept qs ps → Order p.from q.from
    → kept (p ∷ ps) (q ∷ qs) ≡ kept (q ∷ qs) (p ∷ ps)
swap_step p q ps qs h k left right both_rest (less b) =
    let all = begin_later p.from q qs b (begin_after q qs k.0 k.1) in
    let absent = none_after p (q ∷ qs) all in
    rw absent (left ∙ sym (kept_past (q ∷ qs) p ps (all_apart p (q ∷ qs) all)))
swap_step p q ps qs h k left right both_rest (more b) =
    let all = begin_later q.from p ps b (begin_after p ps h.0 h.1) in
    let absent = none_after q (p ∷ ps) all in
    rw absent (kept_past (p ∷ ps) q qs (all_apart q (p ∷ ps) all) ∙ right)
swap_step p q ps qs h k left right both_rest (same e) =
    swap_same p q ps qs e (begin_after p ps h.0 h.1) (begin_after q qs k.0 k.1) both_rest (is_same_part p q) refl

-- the parts that both have are the same, from either side
swap : (n : ℕ) (ps qs : List Part) → length ps + length qs ≤ n → AreParts ps → AreParts qs → kept ps qs ≡ kept qs ps
swap n [] qs l h k = sym (none_kept qs)
swap n (p ∷ ps) [] l h k = none_kept (p ∷ ps)
swap zero (p ∷ ps) (q ∷ qs) l h k = absurd (omega arith)
swap (suc n) (p ∷ ps) (q ∷ qs) l h k =
    swap_step p q ps qs h k (swap n ps (q ∷ qs) (omega arith) h.2 k) (swap n (p ∷ ps) qs (omega arith) h k.2)
    (swap n ps qs (omega arith) h.2 k.2) (order_of p.from q.from)

-- the notices on the way from some parts to others lead there
pub replay_between : (old new : List Part) → AreParts old → AreParts new
    → parts_after_all (Some old) (notices_between old new) ≡ Some new
replay_between old new h k =
    after_then (Some old) (map (λ p. Unmap p) (parts_without old new)) (map (λ p. Map p) (parts_without new old))
    ∙ ap (λ s. parts_after_all s (map (λ p. Map p) (parts_without new old)))
    (unmaps [] old new tt h ∙ ap (λ l. let o : Option (List Part) = Some l in o)
    (swap (length old + length new) old new (omega arith) h k))
    ∙ maps [] new old tt k
