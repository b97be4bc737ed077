-- The rounds of QEMU's core, were a region read-only wherever it is shown so, and where these are the core's own.
use Rattle.std.proofs.Common.{◌≡◌, ℕ, zero, suc, ◌+◌, ◌-◌, ◌<◌, ◌≤◌, ◌&&◌, not, Bool, true, false, List, [], ◌++◌, Option, Some, None}
use Rattle.std.proofs.Common.{if◌then◌else◌, refl, sym, ap, subst, ◌∙◌, arith}
use Rattle.mem_base.specs.declared.map.ids.SpaceId.{SpaceId}
use Rattle.mem_base.specs.declared.map.forests.Node.{Node}
use Rattle.mem_base.specs.declared.map.forests.Forest.{Forest}
use Rattle.mem_base.specs.declared.map.spots.Spot.{Spot}
use Rattle.mem_base.specs.declared.map.kinds.Kind.{Kind}
use Rattle.mem_base.specs.declared.map.kinds.Kind.TheVariants.{Ram, Rom, RomDevice, Io}
use Rattle.mem_base.specs.declared.access.accesses.Target.{Target}
use Rattle.mem_base.specs.declared.access.accesses.Target.TheVariants.{Leaf, Unassigned}
use Rattle.mem_base.specs.map.Region.{node_of}
use Rattle.mem_base.specs.access.Trails.{Hop, trail_of, chunks, first_length}
use Rattle.mem_base.specs.access.AccessSteps.{Transfer, reading, writing, is_write, part}
use Rattle.mem_base.specs.access.Plans.{Reached, Answerer, answerer, answerer_at, answerer_in, by_memory, by_device_of}
use Rattle.mem_base.specs.access.CorePlans as core
use Rattle.mem_base.specs.access.CorePlans.{core_answerer, own_spot, own_target, taken_by, reached_at_once}
use Rattle.plan_laws.specs.CoreLaws as laws
use Rattle.plan_laws.specs.CoreLaws.{NoWindowShuts}
use Rattle.plan_laws.proofs.Parts.{same_kind}

abbrev pub taken : Forest → Bool → SpaceId → ℕ → ℕ → ℕ
taken f write s a left =
    let t = trail_of f write s a in taken_by (answerer f write t.target) t.hops (first_length (chunks f write s a left)) left

abbrev pub in_round : Forest → SpaceId → ℕ → Transfer → List Reached
in_round f s a transfer = reached_at_once (answerer f (is_write transfer) (trail_of f (is_write transfer) s a).target) transfer

abbrev pub rounds_from : Forest → SpaceId → ℕ → Transfer → ℕ → ℕ → ℕ → List Reached
rounds_from f s first transfer a zero inside = []
rounds_from f s first transfer a (suc left) (suc inside) = rounds_from f s first transfer (a + 1) left inside
rounds_from f s first transfer a (suc left) zero = let n = taken f (is_write transfer) s a (suc left) in
    in_round f s a (part (a - first) n transfer) ++ rounds_from f s first transfer (a + 1) left (n - 1)

abbrev pub StaysFrom : Forest → Bool → SpaceId → ℕ → ℕ → ℕ → Type 0
StaysFrom f write s a zero inside = Unit {0}
StaysFrom f write s a (suc left) (suc inside) = StaysFrom f write s (a + 1) left inside
StaysFrom f write s a (suc left) zero = let n = taken f write s a (suc left) in
    (n ≤ first_length (chunks f write s a (suc left))) × StaysFrom f write s (a + 1) left (n - 1)

-- two answerers are asked for the same by a round
record AreAlike (x y : Answerer) : Type 0 where
  taken : (hops : List Hop) (shared left : ℕ) → taken_by x hops shared left ≡ taken_by y hops shared left
  reached : (t : Transfer) → reached_at_once x t ≡ reached_at_once y t

alike_itself : (x : Answerer) → AreAlike x x
alike_itself x = record { taken = λ hops shared left. refl; reached = λ t. refl }

own_leaf : (o : Option Node) (x : Spot) → (own_spot o x).leaf ≡ x.leaf
own_leaf None x = refl
own_leaf (Some n) x = refl

-- a read does not ask whether memory takes writes
reads_alike : (f : Forest) (x : Target) → AreAlike (core_answerer f false x) (answerer f false x)
reads_alike f Unassigned = alike_itself (answerer f false Unassigned)
reads_alike f (Leaf x) =
    subst (λ r. AreAlike (answerer_in (node_of f.nodes r) (own_spot (node_of f.nodes x.leaf) x) false) (answerer f false (Leaf x)))
    (sym (own_leaf (node_of f.nodes x.leaf) x)) (found (node_of f.nodes x.leaf))
  where
    by_own : (n : Node) → AreAlike (by_memory (own_spot (Some n) x)) (by_memory x)
    by_own n = record { taken = λ hops shared left. refl; reached = same }
      where
        same : (t : Transfer) → reached_at_once (by_memory (own_spot (Some n) x)) t ≡ reached_at_once (by_memory x) t
        same (reading m) = refl
        same (writing bs) = refl

    kind : (k : Kind) (n : Node) → AreAlike (answerer_at k n (own_spot (Some n) x) false) (answerer_at k n x false)
    kind Ram n = by_own n
    kind Rom n = by_own n
    kind (RomDevice device) n = direct (x.attrs.romd && true)
      where
        direct : (b : Bool) → AreAlike (if b then by_memory (own_spot (Some n) x) else by_device_of n device (own_spot (Some n) x))
            (if b then by_memory x else by_device_of n device x)
        direct true = by_own n
        direct false = alike_itself (by_device_of n device x)
    kind (Io device) n = alike_itself (by_device_of n device x)
    kind k n = alike_itself (answerer_at k n x false)

    found : (o : Option Node) → AreAlike (answerer_in o (own_spot o x) false) (answerer_in o x false)
    found None = alike_itself (answerer_in None x false)
    found (Some n) = kind n.kind n

-- so the core asks for what is shown at each address of an access that no window shuts
alike_at : (f : Forest) (w : Bool) (s : SpaceId) (a bytes : ℕ) → NoWindowShuts f w s a bytes → (i : ℕ) → i < bytes
    → AreAlike (core_answerer f w (trail_of f w s (a + i)).target) (answerer f w (trail_of f w s (a + i)).target)
alike_at f true s a bytes free i l =
    subst (λ x. AreAlike (answerer f true x) (answerer f true (trail_of f true s (a + i)).target)) (sym (free refl i l))
    (alike_itself (answerer f true (trail_of f true s (a + i)).target))
alike_at f false s a bytes free i l = reads_alike f (trail_of f false s (a + i)).target

-- of the bytes after the first too
open_after : (f : Forest) (w : Bool) (s : SpaceId) (a left : ℕ) → NoWindowShuts f w s a (suc left) → NoWindowShuts f w s (a + 1) left
open_after f w s a left free is i l =
    let at : a + suc i ≡ a + 1 + i = omega arith in
    subst (λ b. own_target f (trail_of f w s b).target ≡ (trail_of f w s b).target) at (free is (suc i) (omega (arith, l)))

-- at the first byte
alike_here : (f : Forest) (w : Bool) (s : SpaceId) (a left : ℕ) → NoWindowShuts f w s a (suc left)
    → AreAlike (core_answerer f w (trail_of f w s a).target) (answerer f w (trail_of f w s a).target)
alike_here f w s a left free =
    let at : a + 0 ≡ a = omega arith in
    subst (λ b. AreAlike (core_answerer f w (trail_of f w s b).target) (answerer f w (trail_of f w s b).target)) at
    (alike_at f w s a (suc left) free 0 (omega arith))

same_taken : (f : Forest) (w : Bool) (s : SpaceId) (a left : ℕ) → NoWindowShuts f w s a (suc left)
    → core.taken f w s a (suc left) ≡ taken f w s a (suc left)
same_taken f w s a left free =
    (alike_here f w s a left free).taken (trail_of f w s a).hops (first_length (chunks f w s a (suc left))) (suc left)

pub stays_as_shown : (f : Forest) (w : Bool) (s : SpaceId) (a left inside : ℕ) → NoWindowShuts f w s a left → laws.StaysFrom f w s a left inside
    → StaysFrom f w s a left inside
stays_as_shown f w s a zero inside free h = tt
stays_as_shown f w s a (suc left) (suc inside) free h = stays_as_shown f w s (a + 1) left inside (open_after f w s a left free) h
stays_as_shown f w s a (suc left) zero free h =
    let same : core.taken f w s a (suc left) ≡ taken f w s a (suc left) = same_taken f w s a left free in (
      subst (λ n. n ≤ first_length (chunks f w s a (suc left))) same h.0,
      stays_as_shown f w s (a + 1) left (taken f w s a (suc left) - 1) (open_after f w s a left free)
          (subst (λ n. laws.StaysFrom f w s (a + 1) left (n - 1)) same h.1),
    )

pub rounds_as_shown : (f : Forest) (s : SpaceId) (first : ℕ) (t : Transfer) (a left inside : ℕ) → NoWindowShuts f (is_write t) s a left
    → core.rounds_from f s first t a left inside ≡ rounds_from f s first t a left inside
rounds_as_shown f s first t a zero inside free = refl
rounds_as_shown f s first t a (suc left) (suc inside) free =
    rounds_as_shown f s first t (a + 1) left inside (open_after f (is_write t) s a left free)
rounds_as_shown f s first t a (suc left) zero free =
    let w = is_write t in
    let n : ℕ = taken f w s a (suc left) in
    ap (λ m. core.in_round f s a (part (a - first) m t) ++ core.rounds_from f s first t (a + 1) left (m - 1)) (same_taken f w s a left free)
    ∙ ap (λ rs. rs ++ core.rounds_from f s first t (a + 1) left (n - 1)) (round (part (a - first) n t) (same_kind (a - first) n t))
    ∙ ap (λ rs. in_round f s a (part (a - first) n t) ++ rs) (rounds_as_shown f s first t (a + 1) left (n - 1) (open_after f w s a left free))
  where
    round : (u : Transfer) → is_write u ≡ is_write t → core.in_round f s a u ≡ in_round f s a u
    round u same =
        subst (λ v. reached_at_once (core_answerer f v (trail_of f v s a).target) u ≡ reached_at_once (answerer f v (trail_of f v s a).target) u)
        (sym same) ((alike_here f (is_write t) s a left free).reached u)
