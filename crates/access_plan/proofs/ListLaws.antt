-- Laws of lists that grow.
use Rattle.std.proofs.Common.{◌≡◌, ℕ, ◌+◌, ◌≤◌, Bool, true, false, length, take, drop, List, [], ◌∷◌, ◌++◌, refl, sym, ap, subst, ◌∙◌, append_assoc}
use Rattle.std.proofs.lemmas.List.{append-nil, map-append}
use Rattle.mem_base.specs.access.AccessSteps.{Transfer, writing, is_write, length_of, part}
use Rattle.mem_base.specs.access.Plans.{Reached, memory, in_memory}
use Rattle.mem_base.specs.access.Marks.{marks_of}
use Rattle.mem_base.specs.declared.map.spots.Spot.{Spot}
use Rattle.access_plan.specs.declared.lists.Reach.{Reach}
use Rattle.access_plan.specs.declared.lists.Reach.TheVariants.{Memory, Callback, Notifier, Mark, Nothing}
use Rattle.access_plan.specs.Lists.{meant, Follow, Adds, IsUnderway, marks_in, moved}
use Rattle.plan_laws.proofs.Parts.{part_length}

pub follow_append : (a b c : ℕ) (xs ys : List Reach) → Follow a xs b → Follow b ys c → Follow a (xs ++ ys) c
follow_append a b c [] ys h k = subst (λ n. Follow n ys c) (sym h) k
follow_append a b c (Memory region offset at len ∷ xs) ys h k = (h.0, follow_append (a + len) b c xs ys h.1 k)
follow_append a b c (Callback region offset size request at len ∷ xs) ys h k = (h.0, follow_append (a + len) b c xs ys h.1 k)
follow_append a b c (Notifier number at len ∷ xs) ys h k = (h.0, follow_append (a + len) b c xs ys h.1 k)
follow_append a b c (Mark region client page ∷ xs) ys h k = follow_append a b c xs ys h k
follow_append a b c (Nothing at len ∷ xs) ys h k = (h.0, follow_append (a + len) b c xs ys h.1 k)

module _ (t : Transfer) where
  -- nothing more
  pub adds_none : (x : List Reach) (a : ℕ) → Adds t x x [] a a
  adds_none x a = record { added = []; grown = sym (append-nil x); is = refl; order = refl }

  -- one thing more
  pub adds_one : (x y : List Reach) (r : Reach) (a b : ℕ) → y ≡ x ++ r ∷ [] → Follow a (r ∷ []) b → Adds t x y (meant t r ∷ []) a b
  adds_one x y r a b e h = record { added = r ∷ []; grown = e; is = refl; order = h }

  -- and more after it
  pub adds_then : (x y z : List Reach) (rs qs : List Reached) (a b c : ℕ) → Adds t x y rs a b → Adds t y z qs b c → Adds t x z (rs ++ qs) a c
  adds_then x y z rs qs a b c h k = record {
    added = h.added ++ k.added;
    grown = k.grown ∙ ap (λ l. l ++ k.added) h.grown ∙ append_assoc x h.added k.added;
    is = map-append (meant t) h.added k.added ∙ (λ i. h.is i ++ k.is i);
    order = follow_append a b c h.added k.added h.order k.order;
  }

  -- the same things, by other words
  pub adds_as : (x y : List Reach) (rs qs : List Reached) (a b c d : ℕ) → rs ≡ qs → a ≡ c → b ≡ d → Adds t x y rs a b → Adds t x y qs c d
  adds_as x y rs qs a b c d e f g h = subst (λ n. Adds t x y qs n d) f (subst (λ n. Adds t x y qs a n) g (subst (λ l. Adds t x y l a b) e h))

  pub underway_none : (x : List Reach) (whole : List Reached) (a : ℕ) → IsUnderway t x x whole whole a a
  underway_none x whole a = record { first = []; done = adds_none x a; parts = refl }

  pub underway_then : (x y z : List Reach) (whole rest rs later : List Reached) (a b c : ℕ) → IsUnderway t x y whole rest a b → rest ≡ rs ++ later
      → Adds t y z rs b c → IsUnderway t x z whole later a c
  underway_then x y z whole rest rs later a b c u e h = record {
    first = u.first ++ rs;
    done = adds_then x y z u.first rs a b c u.done h;
    parts = u.parts ∙ ap (λ es. u.first ++ es) e ∙ sym (append_assoc u.first rs later);
  }

  pub all_done : (x y : List Reach) (whole rest : List Reached) (a b : ℕ) → IsUnderway t x y whole rest a b → rest ≡ [] → Adds t x y whole a b
  all_done x y whole rest a b u none =
      subst (λ rs. Adds t x y rs a b) (sym (append-nil u.first) ∙ ap (λ es. u.first ++ es) (sym none) ∙ sym u.parts) u.done

-- parts of a write, or of a read

pub moved_length : (w : Bool) (bs : List ℕ) (at n : ℕ) → (w ≡ true → at + n ≤ length bs) → length_of (part at n (moved w bs)) ≡ n
moved_length true bs at n h = part_length at n (writing bs) (h refl)
moved_length false bs at n h = refl

pub moved_write : (w : Bool) (bs : List ℕ) → is_write (moved w bs) ≡ w
moved_write true bs = refl
moved_write false bs = refl

-- memory that is written, and then its marks
pub memory_written : (spot : Spot) (bs : List ℕ) (at n : ℕ) → at + n ≤ length bs
    → (memory spot.leaf spot.offset (part at n (writing bs)) ∷ []) ++ marks_in spot.leaf (marks_of spot.attrs.log spot.offset n)
    ≡ in_memory spot (part at n (writing bs))
memory_written spot bs at n l =
    let size : length (take n (drop at bs)) ≡ n = part_length at n (writing bs) l in
    ap (λ m. memory spot.leaf spot.offset (writing (take n (drop at bs))) ∷ marks_in spot.leaf (marks_of spot.attrs.log spot.offset m)) (sym size)
