-- A list of regions that differs from another one in a few, chunk by chunk.
use Rattle.std.proofs.Common.{◌≡◌, ◌≢◌, ℕ, ◌+◌, ◌<◌, ◌≤◌, ◌==◌, ◌||◌, ◌&&◌, Bool, true, false, eqb, ltb, eq-eqb, List, [], ◌∷◌, ◌++◌, length, get_or}
use Rattle.std.proofs.Common.{take, drop, Option, Some, None, refl, sym, ap, subst, ◌∙◌, arith}
use Rattle.std.specs.Prelude.{unwrap_or, nat_le, nat_lt, flat_map}
use Rattle.std.specs.List.{list_any}
use Rattle.std.proofs.lemmas.Bool.Decides.{nat_tests}
use Rattle.std.proofs.lemmas.Option.{none-some}
use Rattle.std.proofs.lemmas.List.{append-nil, drop-map, drop_at, drop_more, length-append, length-map, map-append, take-append-drop, take-map, take_at}
use Rattle.std.proofs.lemmas.List.Concat.{flat_map-append}
use Rattle.mem_base.specs.declared.map.ids.RegionId.{RegionId}
use Rattle.mem_base.specs.declared.map.forests.Node.{Node}
use Rattle.mem_base.specs.lists.Every.{Every}
use Rattle.mem_base.specs.map.Region.{IsAscending, node_of}
use Rattle.mem_base.specs.map.Chunks.{first_id}
use Rattle.mem_base.proofs.EveryLaws.{weaker, every_one}
use Rattle.mem_base.proofs.ForestLaws.{IsAbsent}
use Rattle.mem_base.proofs.ChunkLaws.{none_there, front_only, back_only, ascending_first, ascending_rest, below_rest, from_first, first_has}
use Rattle.region_slots.specs.declared.slots.Slot.{Slot}
use Rattle.region_slots.specs.Slots.{nodes_of}
use Rattle.node_chunks.specs.Near.{AreLeft, IsBound, is_below, is_touched}
use Rattle.mem_base.proofs.BoolLaws.{and_nothing}

none_below : (xs : List Node) (r : RegionId) → Every (λ m. r.0 < m.id.0) xs → node_of xs r ≡ None
none_below [] r h = refl
none_below (x ∷ xs) r h = let f : eqb x.id.0 r.0 ≡ false = let l = h.0 in grind (arith, nat_tests) in rw f (none_below xs r h.1)

first_of : (x : Node) (xs : List Node) → node_of (x ∷ xs) x.id ≡ Some x
first_of x xs = let t : eqb x.id.0 x.id.0 ≡ true = eq-eqb x.id.0 x.id.0 refl in rw t refl

below_all : (x y : Node) (ys : List Node) → x.id.0 < y.id.0 → Every (λ m. y.id.0 < m.id.0) ys → node_of (y ∷ ys) x.id ≡ None
below_all x y ys l h = none_below (y ∷ ys) x.id (l, weaker (λ m. y.id.0 < m.id.0) (λ m. x.id.0 < m.id.0) (λ m k. omega arith) ys h)

-- a first region of a lesser id is not in the other list
apart : (x y : Node) (xs ys : List Node) → x.id.0 < y.id.0 → Every (λ m. y.id.0 < m.id.0) ys → node_of (x ∷ xs) x.id ≡ node_of (y ∷ ys) x.id → ⊥
apart x y xs ys l b h = none-some x (sym (below_all x y ys l b) ∙ sym h ∙ first_of x xs)

tail_same : (x y : Node) (xs ys : List Node) → x.id.0 ≡ y.id.0 → Every (λ m. x.id.0 < m.id.0) xs → Every (λ m. y.id.0 < m.id.0) ys
    → (r : RegionId) → node_of (x ∷ xs) r ≡ node_of (y ∷ ys) r → node_of xs r ≡ node_of ys r
tail_same x y xs ys ids a b r h = go (eqb x.id.0 r.0) refl
  where
    go : (c : Bool) → eqb x.id.0 r.0 ≡ c → node_of xs r ≡ node_of ys r
    go true t =
        let at : x.id.0 ≡ r.0 = grind (arith, nat_tests, t) in
        let at_y : y.id.0 ≡ r.0 = grind (arith, at, ids) in
        none_below xs r (subst (λ n. Every (λ m. n < m.id.0) xs) at a) ∙ sym (none_below ys r (subst (λ n. Every (λ m. n < m.id.0) ys) at_y b))
    go false t =
        let f : eqb y.id.0 r.0 ≡ false = grind (arith, nat_tests, t, ids) in
        let p : node_of (x ∷ xs) r ≡ node_of xs r = rw t refl in
        let q : node_of (y ∷ ys) r ≡ node_of ys r = rw f refl in
        sym p ∙ h ∙ q

-- two lists of regions by ascending id are the same, where each region is the same in both
pub same_nodes : (xs ys : List Node) → IsAscending xs → IsAscending ys → ((r : RegionId) → node_of xs r ≡ node_of ys r) → xs ≡ ys
same_nodes [] [] a b h = refl
same_nodes [] (y ∷ ys) a b h = absurd (none-some y (h y.id ∙ first_of y ys))
same_nodes (x ∷ xs) [] a b h = absurd (none-some x (sym (h x.id) ∙ first_of x xs))
same_nodes (x ∷ xs) (y ∷ ys) a b h = go (same_nodes xs ys a.1 b.1) (eqb x.id.0 y.id.0) refl
  where
    other : (b : Bool) → ltb x.id.0 y.id.0 ≡ b → x.id.0 ≢ y.id.0 → ⊥
    other true l ne = apart x y xs ys (grind (arith, nat_tests, l)) b.0 (h x.id)
    other false l ne = apart y x ys xs (grind (arith, nat_tests, l, ne)) a.0 (sym (h y.id))

    go : (((r : RegionId) → node_of xs r ≡ node_of ys r) → xs ≡ ys) → (b : Bool) → eqb x.id.0 y.id.0 ≡ b → (x ∷ xs) ≡ (y ∷ ys)
    go rest true e =
        let ids : x.id.0 ≡ y.id.0 = grind (arith, nat_tests, e) in
        let there : node_of (y ∷ ys) x.id ≡ Some y = let t : eqb y.id.0 x.id.0 ≡ true = grind (arith, nat_tests, ids) in rw t refl in
        let same : x ≡ y = ap (λ o. unwrap_or o x) (sym (first_of x xs) ∙ h x.id ∙ there) in
        let tails : xs ≡ ys = rest (λ r. tail_same x y xs ys ids a.0 b.0 r (h r)) in
        ap (λ n. n ∷ xs) same ∙ ap (λ ns. y ∷ ns) tails
    go rest false e = absurd (other (ltb x.id.0 y.id.0) refl (grind (arith, nat_tests, e)))

-- two numbers on different sides of a bound
below_apart : (u : Option RegionId) (m n : ℕ) → is_below u m ≡ true → is_below u n ≡ false → m ≢ n
below_apart None m n t f = cc
below_apart (Some b) m n t f = grind (arith, nat_tests, t, f)

absent_below : (u : Option RegionId) (r : RegionId) (xs : List Node) → is_below u r.0 ≡ false → Every (λ n. is_below u n.id.0 ≡ true) xs → IsAbsent r xs
absent_below u r xs f h = weaker (λ n. is_below u n.id.0 ≡ true) (λ n. eqb n.id.0 r.0 ≡ false)
    (λ n t. let other = below_apart u n.id.0 r.0 t f in grind (arith, nat_tests, other)) xs h

absent_above : (u : Option RegionId) (r : RegionId) (xs : List Node) → is_below u r.0 ≡ true → Every (λ n. is_below u n.id.0 ≡ false) xs → IsAbsent r xs
absent_above u r xs t h = weaker (λ n. is_below u n.id.0 ≡ false) (λ n. eqb n.id.0 r.0 ≡ false)
    (λ n f. let other = below_apart u r.0 n.id.0 t f in grind (arith, nat_tests, other)) xs h

stays_above : (u : Option RegionId) (m n : ℕ) → is_below u m ≡ false → m < n → is_below u n ≡ false
stays_above None m n f l = cc
stays_above (Some b) m n f l = grind (arith, nat_tests, f, l)

-- regions by ascending id are above a bound from the first one on that is
pub above_from : (u : Option RegionId) (x : Node) (xs : List Node) → IsAscending (x ∷ xs) → is_below u x.id.0 ≡ false
    → Every (λ n. is_below u n.id.0 ≡ false) (x ∷ xs)
above_from u x xs h f = (f, weaker (λ m. x.id.0 < m.id.0) (λ m. is_below u m.id.0 ≡ false) (λ m l. stays_above u x.id.0 m.id.0 f l) xs h.0)

-- regions in two parts, those below a bound and those above
pub record IsCut (u : Option RegionId) (xs front back : List Node) : Type 0 where
  pub whole : xs ≡ front ++ back
  pub below : Every (λ n. is_below u n.id.0 ≡ true) front
  pub above : Every (λ n. is_below u n.id.0 ≡ false) back

record Cut (u : Option RegionId) (xs : List Node) : Type 0 where
  front : List Node
  back : List Node
  cut : IsCut u xs front back

cut_at : (u : Option RegionId) (xs : List Node) → IsAscending xs → Cut u xs
cut_at u [] h = record { front = []; back = []; cut = record { whole = refl; below = tt; above = tt } }
cut_at u (x ∷ xs) h = go (cut_at u xs h.1) (is_below u x.id.0) refl
  where
    go : Cut u xs → (b : Bool) → is_below u x.id.0 ≡ b → Cut u (x ∷ xs)
    go k true t =
        let whole : (x ∷ xs) ≡ (x ∷ k.front) ++ k.back = ap (λ ns. x ∷ ns) k.cut.whole in
        record { front = x ∷ k.front; back = k.back; cut = record { whole = whole; below = (t, k.cut.below); above = k.cut.above } }
    go k false f = record { front = []; back = x ∷ xs; cut = record { whole = refl; below = tt; above = above_from u x xs h f } }

-- the regions before a bound and from it on
pub at_bound : (u : Option RegionId) (a later : List Node) → IsAscending (a ++ later) → IsBound u later
    → Every (λ n. is_below u n.id.0 ≡ true) a × Every (λ n. is_below u n.id.0 ≡ false) later
at_bound None a later h e = (every_one (λ n. true ≡ true) a (λ n. refl), subst (λ ns. Every (λ n. true ≡ false) ns) (sym e) tt)
at_bound (Some b) a later h e =
    let first : b.0 ≡ first_id later = e.1 in (
      weaker (λ n. Every (λ m. n.id.0 < m.id.0) later) (λ n. nat_lt n.id.0 b.0 ≡ true)
          (λ n l. let below : n.id.0 < first_id later = first_has (λ v. n.id.0 < v) later e.0 l in grind (arith, nat_tests, below, first))
          a (below_rest a later h),
      weaker (λ n. first_id later ≤ n.id.0) (λ n. nat_lt n.id.0 b.0 ≡ false) (λ n l. grind (arith, nat_tests, l, first)) later
          (from_first later (ascending_rest a later h)),
    )

-- what is left once the regions below a bound are done
pub left_after : (from : RegionId) (u : Option RegionId) (a later f g : List Node) (rs : List RegionId) → AreLeft from.0 (a ++ later) (f ++ g) rs
    → Every (λ n. is_below u n.id.0 ≡ true) a → Every (λ n. is_below u n.id.0 ≡ false) later
    → Every (λ n. is_below u n.id.0 ≡ true) f → Every (λ n. is_below u n.id.0 ≡ false) g → AreLeft (unwrap_or u from).0 later g rs
left_after from u a later f g rs left ba al bf ag = record {
  old_ascends = ascending_rest a later left.old_ascends;
  new_ascends = ascending_rest f g left.new_ascends;
  same = λ r out. go r out (is_below u r.0) refl;
}
  where
    among : RegionId → Bool
    among r = list_any (λ q. q.0 == r.0) rs

    still : (w : Option RegionId) (r : RegionId) → (nat_le (unwrap_or w from).0 r.0 && among r) ≡ false → is_below w r.0 ≡ false
        → (nat_le from.0 r.0 && among r) ≡ false
    still None r out t = cc
    still (Some b) r out t =
        let t2 : nat_le b.0 r.0 ≡ true = grind (arith, nat_tests, t) in
        let none : among r ≡ false = subst (λ c. (c && among r) ≡ false) t2 out in
        rw none (and_nothing (nat_le from.0 r.0))

    go : (r : RegionId) → (nat_le (unwrap_or u from).0 r.0 && among r) ≡ false → (b : Bool) → is_below u r.0 ≡ b → node_of later r ≡ node_of g r
    go r out true t = none_there r later (absent_above u r later t al) ∙ sym (none_there r g (absent_above u r g t ag))
    go r out false t =
        sym (back_only r a later (absent_below u r a t ba)) ∙ left.same r (still u r out t) ∙ back_only r f g (absent_below u r f t bf)

-- where no region below a bound changed, none is among the changed ones
outside : (from : ℕ) (u : Option RegionId) (r : RegionId) (rs : List RegionId) → is_touched from u rs ≡ false → is_below u r.0 ≡ true
    → (nat_le from r.0 && list_any (λ q. q.0 == r.0) rs) ≡ false
outside from u r [] h t = and_nothing (nat_le from r.0)
outside from u r (q ∷ qs) h t = go (λ k. outside from u r qs k t) (nat_le from q.0 && is_below u q.0) refl h (eqb q.0 r.0) refl
  where
    alone : (b c : Bool) → (b && c) ≡ false → c ≡ true → b ≡ false
    alone true true h e = cc
    alone true false h e = cc
    alone false c h e = refl

    go : (is_touched from u qs ≡ false → (nat_le from r.0 && list_any (λ q. q.0 == r.0) qs) ≡ false)
        → (b : Bool) → (nat_le from q.0 && is_below u q.0) ≡ b → (b || is_touched from u qs) ≡ false → (c : Bool) → eqb q.0 r.0 ≡ c
        → (nat_le from r.0 && (c || list_any (λ q. q.0 == r.0) qs)) ≡ false
    go rest true e k c d = cc
    go rest false e k false d = rest k
    go rest false e k true d =
        let same : q.0 ≡ r.0 = grind (arith, nat_tests, d) in
        let low : nat_le from r.0 ≡ false = alone (nat_le from r.0) (is_below u r.0) (subst (λ n. (nat_le from n && is_below u n) ≡ false) same e) t in
        rw low refl

-- A chunk of the old regions in whose place no region changed is the first part of the new ones.
pub taken_over : (from : ℕ) (u : Option RegionId) (a later new : List Node) (rs : List RegionId) → AreLeft from (a ++ later) new rs
    → Every (λ n. is_below u n.id.0 ≡ true) a → Every (λ n. is_below u n.id.0 ≡ false) later → is_touched from u rs ≡ false
    → IsCut u new a (drop (length a) new)
taken_over from u a later new rs left ba al untouched = go (cut_at u new left.new_ascends)
  where
    go : Cut u new → IsCut u new a (drop (length a) new)
    go k =
        let ascends : IsAscending k.front = ascending_first k.front k.back (subst IsAscending k.cut.whole left.new_ascends) in
        let same : a ≡ k.front = same_nodes a k.front (ascending_first a later left.old_ascends) ascends (λ r. at r (is_below u r.0) refl) in
        let whole : new ≡ a ++ k.back = subst (λ ns. new ≡ ns ++ k.back) (sym same) k.cut.whole in
        let back : drop (length a) new ≡ k.back = ap (drop (length a)) whole ∙ drop_at a k.back (length a) refl in
        record {
          whole = subst (λ ns. new ≡ a ++ ns) (sym back) whole;
          below = ba;
          above = subst (λ ns. Every (λ n. is_below u n.id.0 ≡ false) ns) (sym back) k.cut.above;
        }
      where
        at : (r : RegionId) → (b : Bool) → is_below u r.0 ≡ b → node_of a r ≡ node_of k.front r
        at r true t =
            sym (front_only r a later (absent_above u r later t al)) ∙ left.same r (outside from u r rs untouched t)
            ∙ ap (λ ns. node_of ns r) k.cut.whole ∙ front_only r k.front k.back (absent_above u r k.back t k.cut.above)
        at r false t = none_there r a (absent_below u r a t ba) ∙ sym (none_there r k.front (absent_below u r k.front t k.cut.below))

module _ {A : Type 0} (f : A → List Node) where
  pub first_piece : (cs : List A) (d : A) → 0 < length cs → flat_map f cs ≡ f (get_or cs 0 d) ++ flat_map f (drop 1 cs)
  first_piece [] d l = absurd (omega arith)
  first_piece (c ∷ cs) d l = refl

  -- what is left after a chunk in whose place some region changed
  next_touched : (from : RegionId) (u : Option RegionId) (cs : List A) (new : List Node) (n : ℕ) (rs : List RegionId) → 0 < length cs
      → IsBound u (flat_map f (drop 1 cs)) → AreLeft from.0 (flat_map f cs) new rs
      → Every (λ n. is_below u n.id.0 ≡ true) (take n new) → Every (λ n. is_below u n.id.0 ≡ false) (drop n new)
      → AreLeft (unwrap_or u from).0 (flat_map f (drop 1 cs)) (drop n new) rs
  next_touched from u [] new n rs l bound left below above = absurd (omega arith)
  next_touched from u (c ∷ cs) new n rs l bound left below above =
      let cut : AreLeft from.0 (f c ++ flat_map f cs) (take n new ++ drop n new) rs =
      subst (λ ns. AreLeft from.0 (f c ++ flat_map f cs) ns rs) (sym (take-append-drop n new)) left in
      let sides = at_bound u (f c) (flat_map f cs) left.old_ascends bound in
      left_after from u (f c) (flat_map f cs) (take n new) (drop n new) rs cut sides.0 sides.1 below above

  -- and after one in whose place none did: it is the first part of the new regions
  next_shared : (from : RegionId) (u : Option RegionId) (cs : List A) (d : A) (new : List Node) (rs : List RegionId) → 0 < length cs
      → IsBound u (flat_map f (drop 1 cs)) → AreLeft from.0 (flat_map f cs) new rs → is_touched from.0 u rs ≡ false
      → (new ≡ f (get_or cs 0 d) ++ drop (length (f (get_or cs 0 d))) new)
      × AreLeft (unwrap_or u from).0 (flat_map f (drop 1 cs)) (drop (length (f (get_or cs 0 d))) new) rs
  next_shared from u cs d new rs l bound left untouched =
      let a = f (get_or cs 0 d) in
      let later = flat_map f (drop 1 cs) in
      let parts : AreLeft from.0 (a ++ later) new rs = subst (λ ns. AreLeft from.0 ns new rs) (first_piece cs d l) left in
      let sides = at_bound u a later parts.old_ascends bound in
      let k = taken_over from.0 u a later new rs parts sides.0 sides.1 untouched in
      let cut : AreLeft from.0 (a ++ later) (a ++ drop (length a) new) rs = subst (λ ns. AreLeft from.0 (a ++ later) ns rs) k.whole parts in
      (k.whole, left_after from u a later a (drop (length a) new) rs cut sides.0 sides.1 k.below k.above)

pub nodes_parts : (slots : List Slot) (i : ℕ) → nodes_of slots ≡ nodes_of (take i slots) ++ nodes_of (drop i slots)
nodes_parts slots i = ap nodes_of (sym (take-append-drop i slots)) ∙ map-append (λ (s : Slot). s.node) (take i slots) (drop i slots)

-- the regions of slots are above a bound from the first one on that is
pub slots_above : (u : Option RegionId) (slots : List Slot) (i : ℕ) (s : Slot) → i < length slots → s ≡ get_or slots i s → IsAscending (nodes_of slots)
    → is_below u s.node.id.0 ≡ false → Every (λ n. is_below u n.id.0 ≡ false) (nodes_of (drop i slots))
slots_above u slots i s l read h f =
    let left : nodes_of (drop i slots) ≡ s.node ∷ nodes_of (drop (i + 1) slots) =
    ap nodes_of (drop_more slots i s l ∙ ap (λ t. t ∷ drop (i + 1) slots) (sym read)) in
    let ascends : IsAscending (s.node ∷ nodes_of (drop (i + 1) slots)) =
    subst IsAscending left (ascending_rest (nodes_of (take i slots)) (nodes_of (drop i slots)) (subst IsAscending (nodes_parts slots i) h)) in
    subst (λ ns. Every (λ n. is_below u n.id.0 ≡ false) ns) (sym left) (above_from u s.node (nodes_of (drop (i + 1) slots)) ascends f)

module _ {A : Type 0} (f : A → List Node) where
  -- the same of slots, whose regions are copied
  pub left_of_copied : (from : RegionId) (u : Option RegionId) (cs : List A) (slots : List Slot) (n : ℕ) (rs : List RegionId) → 0 < length cs
      → IsBound u (flat_map f (drop 1 cs)) → AreLeft from.0 (flat_map f cs) (nodes_of slots) rs
      → Every (λ n. is_below u n.id.0 ≡ true) (nodes_of (take n slots)) → Every (λ n. is_below u n.id.0 ≡ false) (nodes_of (drop n slots))
      → AreLeft (unwrap_or u from).0 (flat_map f (drop 1 cs)) (nodes_of (drop n slots)) rs
  left_of_copied from u cs slots n rs l bound left below above =
      let front : take n (nodes_of slots) ≡ nodes_of (take n slots) = take-map (λ (s : Slot). s.node) n slots in
      let back : drop n (nodes_of slots) ≡ nodes_of (drop n slots) = drop-map (λ (s : Slot). s.node) n slots in
      subst (λ ns. AreLeft (unwrap_or u from).0 (flat_map f (drop 1 cs)) ns rs) back
      (next_touched f from u cs (nodes_of slots) n rs l bound left
      (subst (λ ns. Every (λ n. is_below u n.id.0 ≡ true) ns) (sym front) below)
      (subst (λ ns. Every (λ n. is_below u n.id.0 ≡ false) ns) (sym back) above))

  -- what sharing a chunk puts, and what it leaves
  pub record IsShared (from : RegionId) (u : Option RegionId) (cs : List A) (slots : List Slot) (nodes : List Node) (rs : List RegionId) : Type 0 where
    pub count : length nodes ≤ length slots
    pub first : nodes ≡ nodes_of (take (length nodes) slots)
    pub left : AreLeft (unwrap_or u from).0 (flat_map f (drop 1 cs)) (nodes_of (drop (length nodes) slots)) rs

  pub shared : (from : RegionId) (u : Option RegionId) (cs : List A) (d : A) (slots : List Slot) (nodes : List Node) (rs : List RegionId) → 0 < length cs
      → IsBound u (flat_map f (drop 1 cs)) → AreLeft from.0 (flat_map f cs) (nodes_of slots) rs → is_touched from.0 u rs ≡ false
      → nodes ≡ f (get_or cs 0 d) → IsShared from u cs slots nodes rs
  shared from u cs d slots nodes rs l bound left untouched e =
      let a = f (get_or cs 0 d) in
      let both = next_shared f from u cs d (nodes_of slots) rs l bound left untouched in
      let whole : nodes_of slots ≡ nodes ++ drop (length nodes) (nodes_of slots) =
      subst (λ ns. nodes_of slots ≡ ns ++ drop (length ns) (nodes_of slots)) (sym e) both.0 in
      let rest : AreLeft (unwrap_or u from).0 (flat_map f (drop 1 cs)) (drop (length nodes) (nodes_of slots)) rs =
      subst (λ ns. AreLeft (unwrap_or u from).0 (flat_map f (drop 1 cs)) (drop (length ns) (nodes_of slots)) rs) (sym e) both.1 in
      let size : length (nodes_of slots) ≡ length slots = length-map slots (λ (s : Slot). s.node) in
      let sum : length (nodes_of slots) ≡ length nodes + length (drop (length nodes) (nodes_of slots)) =
      ap length whole ∙ length-append nodes (drop (length nodes) (nodes_of slots)) in
      record {
        count = omega arith;
        first = sym (take_at nodes (drop (length nodes) (nodes_of slots)) (length nodes) refl) ∙ ap (take (length nodes)) (sym whole)
            ∙ take-map (λ (s : Slot). s.node) (length nodes) slots;
        left = subst (λ ns. AreLeft (unwrap_or u from).0 (flat_map f (drop 1 cs)) ns rs) (drop-map (λ (s : Slot). s.node) (length nodes) slots) rest;
      }

  -- one more chunk
  pub flat_push : (cs : List A) (c : A) → flat_map f (cs ++ c ∷ []) ≡ flat_map f cs ++ f c
  flat_push cs c = flat_map-append f cs (c ∷ []) ∙ ap (λ ns. flat_map f cs ++ ns) (append-nil (f c))
