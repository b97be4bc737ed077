-- After the words of a chunk in RAM its pages are marked.
use Rattle.std.proofs.Common.{◌≡◌, ℕ, zero, suc, ◌+◌, ◌-◌, ◌/◌, ◌%◌, ◌<◌, ◌≤◌, Bool, true, false, not, List, [], ◌∷◌, ◌++◌, length, map, filter, take, drop}
use Rattle.std.proofs.Common.{refl, sym, ap, subst, ◌∙◌, arith, inl, inr, if◌then◌else◌, cond, Option, Some, length-drop, length-take-le}
use Rattle.std.proofs.lemmas.Bool.{eqb-true}
use Rattle.std.proofs.lemmas.Grind.{flat_map-append}
use Rattle.std.specs.Prelude.{flat_map, ◌⊎◌, ◌==◌, unwrap_or, option_map}
use Rattle.mem_base.specs.declared.map.ids.SpaceId.{SpaceId}
use Rattle.mem_base.specs.declared.map.forests.Node.{Node}
use Rattle.mem_base.specs.declared.map.forests.Forest.{Forest}
use Rattle.mem_base.specs.declared.map.kinds.Client.{Client}
use Rattle.mem_base.specs.declared.map.kinds.Client.TheVariants.{Vga, Code, Migration}
use Rattle.mem_base.specs.declared.map.kinds.Kind.{Kind}
use Rattle.mem_base.specs.declared.map.kinds.Kind.TheVariants.{Ram}
use Rattle.mem_base.specs.declared.map.spots.Spot.{Spot}
use Rattle.mem_base.specs.declared.access.accesses.Target.{Target}
use Rattle.mem_base.specs.declared.access.accesses.Target.TheVariants.{Leaf}
use Rattle.mem_base.specs.lists.Every.{Every, EveryPair, HasElement}
use Rattle.mem_base.specs.lists.Runs.{Run, run, runs, put_before, is_in_unit, touched}
use Rattle.mem_base.specs.map.Region.{node_of}
use Rattle.mem_base.specs.access.Marks.{clients_of, marks_of}
use Rattle.mem_base.specs.access.Trails.{chunks, shares_next, trail_of}
use Rattle.mem_base.specs.access.AccessSteps.{AccessStep, unanswered, writing}
use Rattle.mem_base.specs.access.Places.{number_of_client}
use Rattle.mem_base.specs.access.MemoryAccess.{in_memory, marked, on_word, on_words}
use Rattle.mem_base.specs.access.Access.{access, at_leaf, at_target, in_chunk}
use Rattle.mem_base.proofs.EveryLaws.{every_append, every_flat, every_map, every_one, every_rest, weaker}
use Rattle.cell_laws.specs.WriteMarks.{HasMarkedChunk, IsBefore, IsMarked, IsOnRegion, IsTouchedPage, Mark, is_logging}
use Rattle.mem_base.proofs.BoolLaws.{true_is_not_false}
use Rattle.mem_base.proofs.SortingLaws.{pairs_filter}
use Rattle.mem_base.specs.map.Limits.{page_size}

-- Pages that are touched

-- one of these runs begins in this page
abbrev HasPage : List Run → ℕ → Type 0
HasPage [] page = ⊥
HasPage (r ∷ rs) page = (r.start / page_size ≡ page) ⊎ HasPage rs page

-- the first run begins here
abbrev BeginsAt : ℕ → List Run → Type 0
BeginsAt a [] = Unit {0}
BeginsAt a (r ∷ rs) = r.start ≡ a

abbrev InOrder : Run → Run → Type 0
InOrder r s = r.start / page_size < s.start / page_size

record ArePages (a n : ℕ) (rs : List Run) : Type 0 where
  begins : BeginsAt a rs
  within : Every (λ r. (a ≤ r.start) × (r.start < a + n)) rs
  rising : EveryPair InOrder rs
  all : (i : ℕ) → i < n → HasPage rs ((a + i) / page_size)

above_zero : (n : ℕ) → (n ≡ 0 → ⊥) → 0 < n
above_zero zero h = absurd (h refl)
above_zero (suc n) h = omega arith

same_page : (a : ℕ) → is_in_unit page_size a ≡ true → (a + 1) / page_size ≡ a / page_size
same_page a e =
    let some : 0 < (a + 1) % page_size =
    above_zero ((a + 1) % page_size) (λ z. true_is_not_false (is_in_unit page_size a) e (ap (λ (r : ℕ). not (r == 0)) z)) in
    omega (arith, some)

next_page : (a : ℕ) → is_in_unit page_size a ≡ false → (a + 1) % page_size ≡ 0
next_page a e = go ((a + 1) % page_size == 0) refl e
  where
    go : (b : Bool) → ((a + 1) % page_size == 0) ≡ b → not b ≡ false → (a + 1) % page_size ≡ 0
    go true is e = eqb-true ((a + 1) % page_size) 0 is
    go false is e = absurd (true_is_not_false true refl e)

first_page : (a count : ℕ) (rs : List Run) → HasPage (run a count ∷ rs) ((a + 0) / page_size)
first_page a count rs = let here : a ≡ a + 0 = omega arith in inl (ap (λ (m : ℕ). m / page_size) here)

later_page : (a j : ℕ) (rs : List Run) → HasPage rs ((a + 1 + j) / page_size) → HasPage rs ((a + suc j) / page_size)
later_page a j rs h = let at : a + 1 + j ≡ a + suc j = omega arith in subst (λ (m : ℕ). HasPage rs (m / page_size)) at h

wider : (a n : ℕ) (rs : List Run) → Every (λ r. (a + 1 ≤ r.start) × (r.start < a + 1 + n)) rs → Every (λ r. (a ≤ r.start) × (r.start < a + suc n)) rs
wider a n rs h = weaker (λ r. (a + 1 ≤ r.start) × (r.start < a + 1 + n)) (λ r. (a ≤ r.start) × (r.start < a + suc n))
    (λ r k. let low = k.0 in let high = k.1 in (omega (arith, low), omega (arith, high))) rs h

pages : (a n : ℕ) → ArePages a n (touched page_size a n)
pages a zero = record { begins = tt; within = tt; rising = tt; all = λ i l. absurd (omega (arith, l)) }
pages a (suc n) = put (is_in_unit page_size a) refl (touched page_size (a + 1) n) (pages (a + 1) n)
  where
    joined : (r : Run) (rs : List Run) → is_in_unit page_size a ≡ true → ArePages (a + 1) n (r ∷ rs) → (i : ℕ) → i < suc n
        → HasPage (run a (r.length + 1) ∷ rs) ((a + i) / page_size)
    joined r rs e k zero l = first_page a (r.length + 1) rs
    joined r rs e k (suc j) l = later_page a j (run a (r.length + 1) ∷ rs) (go (k.all j (omega (arith, l))))
      where
        go : HasPage (r ∷ rs) ((a + 1 + j) / page_size) → HasPage (run a (r.length + 1) ∷ rs) ((a + 1 + j) / page_size)
        go (inl h) = inl (sym (same_page a e) ∙ ap (λ (m : ℕ). m / page_size) (sym k.begins) ∙ h)
        go (inr h) = inr h

    apart : (rs : List Run) → ArePages (a + 1) n rs → (i : ℕ) → i < suc n → HasPage (run a 1 ∷ rs) ((a + i) / page_size)
    apart rs k zero l = first_page a 1 rs
    apart rs k (suc j) l = later_page a j (run a 1 ∷ rs) (inr (k.all j (omega (arith, l))))

    none : (k : ArePages (a + 1) n []) → (i : ℕ) → i < suc n → HasPage (run a 1 ∷ []) ((a + i) / page_size)
    none k zero l = first_page a 1 []
    none k (suc j) l = absurd (k.all j (omega (arith, l)))

    put : (b : Bool) → is_in_unit page_size a ≡ b → (rs : List Run) → ArePages (a + 1) n rs → ArePages a (suc n) (put_before b a rs)
    put true e [] k = record {
      begins = refl;
      within = ((omega arith, omega arith), tt);
      rising = (tt, tt);
      all = none k;
    }
    put true e (r ∷ rs) k = record {
      begins = refl;
      within = ((omega arith, omega arith), wider a n rs k.within.1);
      rising = (
        weaker (InOrder r) (InOrder (run a (r.length + 1)))
            (λ s h. subst (λ (m : ℕ). m < s.start / page_size) (ap (λ (m : ℕ). m / page_size) k.begins ∙ same_page a e) h) rs k.rising.0,
        k.rising.1,
      );
      all = joined r rs e k;
    }
    put false e rs k = record {
      begins = refl;
      within = ((omega arith, omega arith), wider a n rs k.within);
      rising = (
        weaker (λ s. (a + 1 ≤ s.start) × (s.start < a + 1 + n)) (InOrder (run a 1))
            (λ s h. let low = h.0 in let next = next_page a e in omega (arith, low, next)) rs k.within,
        k.rising,
      );
      all = apart rs k;
    }

-- Lists

element_left : {A : Type 0} (xs ys : List A) (x : A) → HasElement xs x → HasElement (xs ++ ys) x
element_left [] ys x h = absurd h
element_left (y ∷ xs) ys x (inl e) = inl e
element_left (y ∷ xs) ys x (inr h) = inr (element_left xs ys x h)

element_right : {A : Type 0} (xs ys : List A) (x : A) → HasElement ys x → HasElement (xs ++ ys) x
element_right [] ys x h = h
element_right (y ∷ xs) ys x h = inr (element_right xs ys x h)

element_kept : {A : Type 0} (p : A → Bool) (xs : List A) (x : A) → HasElement xs x → p x ≡ true → HasElement (filter p xs) x
element_kept p [] x h t = absurd h
element_kept {A} p (y ∷ ys) x (inl e) t =
    subst (λ (b : Bool). HasElement (cond b (y ∷ filter p ys) (filter p ys)) x) (sym (ap p e ∙ t)) (inl e)
element_kept {A} p (y ∷ ys) x (inr h) t = go (p y) (element_kept p ys x h t)
  where
    go : (b : Bool) → HasElement (filter p ys) x → HasElement (cond b (y ∷ filter p ys) (filter p ys)) x
    go true k = inr k
    go false k = k

all_kept : {A : Type 0} (p : A → Bool) (xs : List A) → Every (λ x. p x ≡ true) (filter p xs)
all_kept p [] = tt
all_kept {A} p (x ∷ xs) = go (p x) refl (all_kept p xs)
  where
    go : (b : Bool) → p x ≡ b → Every (λ y. p y ≡ true) (filter p xs) → Every (λ y. p y ≡ true) (cond b (x ∷ filter p xs) (filter p xs))
    go true e rest = (e, rest)
    go false e rest = rest

pairs_append : {A : Type 0} (R : A → A → Type 0) (xs ys : List A) → EveryPair R xs → EveryPair R ys → Every (λ x. Every (R x) ys) xs → EveryPair R (xs ++ ys)
pairs_append R [] ys h k c = k
pairs_append R (x ∷ xs) ys h k c = (every_append (R x) xs ys h.0 c.0, pairs_append R xs ys h.1 k c.1)

-- Marks of touched pages

abbrev marks_at : List Client → Run → List Mark
marks_at cs r = map (λ c. (r.start / page_size, c)) cs

abbrev Earlier : Client → Client → Type 0
Earlier c d = number_of_client c < number_of_client d

clients_in_order : (log : ℕ) → EveryPair Earlier (clients_of log)
clients_in_order log = pairs_filter Earlier (is_logging log) (Vga ∷ Code ∷ Migration ∷ [])
    ((omega arith, (omega arith, tt)), ((omega arith, tt), (tt, tt)))

each_client : (c : Client) → HasElement (Vga ∷ Code ∷ Migration ∷ []) c
each_client Vga = inl refl
each_client Code = inr (inl refl)
each_client Migration = inr (inr (inl refl))

marked_at : (cs : List Client) (r : Run) (page : ℕ) (c : Client) → r.start / page_size ≡ page → HasElement cs c → HasElement (marks_at cs r) (page, c)
marked_at [] r page c e h = absurd h
marked_at (d ∷ cs) r page c e (inl same) = inl (λ i. (e i, same i))
marked_at (d ∷ cs) r page c e (inr h) = inr (marked_at cs r page c e h)

all_marked : (cs : List Client) (rs : List Run) (page : ℕ) (c : Client) → HasPage rs page → HasElement cs c → HasElement (flat_map (marks_at cs) rs) (page, c)
all_marked cs [] page c p h = absurd p
all_marked cs (r ∷ rs) page c (inl e) h = element_left (marks_at cs r) (flat_map (marks_at cs) rs) (page, c) (marked_at cs r page c e h)
all_marked cs (r ∷ rs) page c (inr p) h = element_right (marks_at cs r) (flat_map (marks_at cs) rs) (page, c) (all_marked cs rs page c p h)

block_in_order : (cs : List Client) (r : Run) → EveryPair Earlier cs → EveryPair IsBefore (marks_at cs r)
block_in_order [] r h = tt
block_in_order (c ∷ cs) r h = (
  every_map (IsBefore (r.start / page_size, c)) (λ d. (r.start / page_size, d)) cs
      (weaker (Earlier c) (λ d. IsBefore (r.start / page_size, c) (r.start / page_size, d)) (λ d k. inr (refl, k)) cs h.0),
  block_in_order cs r h.1,
)

later_marks : (cs : List Client) (rs : List Run) (page : ℕ) → Every (λ s. page < s.start / page_size) rs → Every (λ m. page < m.0) (flat_map (marks_at cs) rs)
later_marks cs rs page h = every_flat (λ (m : Mark). page < m.0) (marks_at cs) rs
    (weaker (λ (s : Run). page < s.start / page_size) (λ s. Every (λ (m : Mark). page < m.0) (marks_at cs s))
    (λ s l. every_map (λ (m : Mark). page < m.0) (λ c. (s.start / page_size, c)) cs (every_one (λ c. page < s.start / page_size) cs (λ c. l))) rs h)

all_in_order : (cs : List Client) (rs : List Run) → EveryPair Earlier cs → EveryPair InOrder rs → EveryPair IsBefore (flat_map (marks_at cs) rs)
all_in_order cs [] h k = tt
all_in_order cs (r ∷ rs) h k =
    pairs_append IsBefore (marks_at cs r) (flat_map (marks_at cs) rs) (block_in_order cs r h) (all_in_order cs rs h k.1)
    (every_map (λ m. Every (IsBefore m) (flat_map (marks_at cs) rs)) (λ c. (r.start / page_size, c)) cs
    (every_one (λ c. Every (IsBefore (r.start / page_size, c)) (flat_map (marks_at cs) rs)) cs
    (λ c. weaker (λ (m : Mark). r.start / page_size < m.0) (IsBefore (r.start / page_size, c)) (λ m l. inl l) (flat_map (marks_at cs) rs)
    (later_marks cs rs (r.start / page_size) k.0))))

only_touched : (log offset bytes : ℕ) (rs : List Run) → Every (λ r. (offset ≤ r.start) × (r.start < offset + bytes)) rs
    → Every (λ m. IsTouchedPage offset bytes m.0 × (is_logging log m.1 ≡ true)) (flat_map (marks_at (clients_of log)) rs)
only_touched log offset bytes rs h =
    every_flat (λ (m : Mark). IsTouchedPage offset bytes m.0 × (is_logging log m.1 ≡ true)) (marks_at (clients_of log)) rs
    (weaker (λ (r : Run). (offset ≤ r.start) × (r.start < offset + bytes))
    (λ r. Every (λ (m : Mark). IsTouchedPage offset bytes m.0 × (is_logging log m.1 ≡ true)) (marks_at (clients_of log) r))
    (λ r k. let low = k.0 in let high = k.1 in
    let at : offset + (r.start - offset) ≡ r.start = omega (arith, low) in
    let page : IsTouchedPage offset bytes (r.start / page_size) = (r.start - offset, omega (arith, low, high), ap (λ (m : ℕ). m / page_size) at) in
    every_map (λ (m : Mark). IsTouchedPage offset bytes m.0 × (is_logging log m.1 ≡ true)) (λ c. (r.start / page_size, c)) (clients_of log)
    (weaker (λ c. is_logging log c ≡ true) (λ c. IsTouchedPage offset bytes (r.start / page_size) × (is_logging log c ≡ true)) (λ c t. (page, t))
    (clients_of log) (all_kept (is_logging log) (Vga ∷ Code ∷ Migration ∷ [])))) rs h)

-- Chunks

record IsWithin (a n : ℕ) (rs : List Run) : Type 0 where
  begins : BeginsAt a rs
  each : Every (λ r. (a ≤ r.start) × (r.start + r.length ≤ a + n)) rs

runs_within : (with_next : ℕ → Bool) (a n : ℕ) → IsWithin a n (runs with_next a n)
runs_within with_next a zero = record { begins = tt; each = tt }
runs_within with_next a (suc n) = put (with_next a) (runs with_next (a + 1) n) (runs_within with_next (a + 1) n)
  where
    more : (rs : List Run) → Every (λ r. (a + 1 ≤ r.start) × (r.start + r.length ≤ a + 1 + n)) rs
        → Every (λ r. (a ≤ r.start) × (r.start + r.length ≤ a + suc n)) rs
    more rs h = weaker (λ r. (a + 1 ≤ r.start) × (r.start + r.length ≤ a + 1 + n)) (λ r. (a ≤ r.start) × (r.start + r.length ≤ a + suc n))
        (λ r k. let low = k.0 in let high = k.1 in (omega (arith, low), omega (arith, high))) rs h

    put : (b : Bool) (rs : List Run) → IsWithin (a + 1) n rs → IsWithin a (suc n) (put_before b a rs)
    put true [] k = record { begins = refl; each = ((omega arith, omega arith), tt) }
    put true (r ∷ rs) k = let at = k.begins in let high = k.each.0.1 in
        record { begins = refl; each = ((omega arith, omega (arith, at, high)), more rs k.each.1) }
    put false rs k = record { begins = refl; each = ((omega arith, omega arith), more rs k.each) }

-- what is done for a chunk in RAM
in_ram : (spot : Spot) (bytes : List ℕ) → spot.attrs.readonly ≡ false → IsMarked spot (length bytes) (in_memory spot (writing bytes))
in_ram spot bytes writable =
    let rs : List Run = touched page_size spot.offset (length bytes) in
    let k : ArePages spot.offset (length bytes) rs = pages spot.offset (length bytes) in record {
      words = on_words spot.leaf spot.offset (writing bytes);
      marked = marks_of spot.attrs.log spot.offset (length bytes);
      parts = ap (λ (b : Bool). if b then unanswered (writing bytes)
          else on_words spot.leaf spot.offset (writing bytes) ++ marked spot.leaf spot.attrs.log spot.offset (length bytes)) writable;
      on_words = every_map (IsOnRegion spot.leaf) (on_word spot.leaf spot.offset (writing bytes)) (touched 8 spot.offset (length bytes))
          (every_one (λ w. IsOnRegion spot.leaf (on_word spot.leaf spot.offset (writing bytes) w)) (touched 8 spot.offset (length bytes)) (λ w. refl));
      all = λ page client t logs. all_marked (clients_of spot.attrs.log) rs page client
          (subst (HasPage rs) t.2 (k.all t.0 t.1))
          (element_kept (is_logging spot.attrs.log) (Vga ∷ Code ∷ Migration ∷ []) client (each_client client) logs);
      only = only_touched spot.attrs.log spot.offset (length bytes) rs k.within;
      order = all_in_order (clients_of spot.attrs.log) rs (clients_in_order spot.attrs.log) k.rising;
    }

pub writes_are_marked : (f : Forest) (space : SpaceId) (addr : ℕ) (bytes : List ℕ) (front back : List Run) (chunk : Run) (spot : Spot) (n : Node)
    → chunks f true space addr (length bytes) ≡ front ++ chunk ∷ back → (trail_of f true space chunk.start).target ≡ Leaf spot
    → node_of f.nodes spot.leaf ≡ Some n → n.kind ≡ Ram → spot.attrs.readonly ≡ false
    → HasMarkedChunk (access f space addr (writing bytes)) spot chunk.length
writes_are_marked f space addr bytes front back chunk spot n cut target node ram writable =
    let F : Run → List AccessStep = in_chunk f space addr (writing bytes) in
    let bs : List ℕ = take chunk.length (drop (chunk.start - addr) bytes) in
    let inside : (addr ≤ chunk.start) × (chunk.start + chunk.length ≤ addr + length bytes) =
    (every_rest (λ (r : Run). (addr ≤ r.start) × (r.start + r.length ≤ addr + length bytes)) front (chunk ∷ back)
    (subst (Every (λ (r : Run). (addr ≤ r.start) × (r.start + r.length ≤ addr + length bytes))) cut
    (runs_within (shares_next f true space) addr (length bytes)).each)).0 in
    let low = inside.0 in let high = inside.1 in
    let left : length (drop (chunk.start - addr) bytes) ≡ length bytes - (chunk.start - addr) = length-drop (chunk.start - addr) bytes in
    let size : length bs ≡ chunk.length = length-take-le chunk.length (drop (chunk.start - addr) bytes) (omega (arith, low, high, left)) in
    let done : F chunk ≡ in_memory spot (writing bs) =
    ap (λ (t : Target). at_target f t (writing bs)) target
    ∙ ap (λ (o : Option Node). unwrap_or (option_map (λ (m : Node). at_leaf m.kind m spot (writing bs)) o) (unanswered (writing bs))) node
    ∙ ap (λ (k : Kind). at_leaf k n spot (writing bs)) ram in record {
      before = flat_map F front;
      done = in_memory spot (writing bs);
      after = flat_map F back;
      parts = ap (flat_map F) cut ∙ flat_map-append F front (chunk ∷ back)
          ∙ ap (λ (ds : List AccessStep). flat_map F front ++ (ds ++ flat_map F back)) done;
      marked = subst (λ (m : ℕ). IsMarked spot m (in_memory spot (writing bs))) size (in_ram spot bs writable);
    }
