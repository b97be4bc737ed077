-- Where an access reaches the same by its plan as by QEMU's core.
use Rattle.std.specs.Prelude.{◌≡◌, ℕ, zero, suc, ◌+◌, ◌-◌, ◌%◌, ◌<◌, ◌≤◌, Bool, true, false}
use Rattle.mem_base.specs.declared.map.ids.SpaceId.{SpaceId}
use Rattle.mem_base.specs.declared.map.forests.Forest.{Forest}
use Rattle.mem_base.specs.map.Forest.{IsClosedForest}
use Rattle.mem_base.specs.access.AccessSteps.{Transfer, is_write, length_of}
use Rattle.mem_base.specs.access.Trails.{trail_of, chunks, first_length}
use Rattle.mem_base.specs.access.Plans.{Answerer, by_device, answerer, plan}
use Rattle.mem_base.specs.access.CorePlans.{own_target, taken, plan_of_core}

-- from an address on, no round of the core's takes a byte past those that share the route with its first: no piece of a
-- device reaches past its range. Counted as the rounds are: the first `inside` bytes belong to a round that began before
abbrev pub StaysFrom : Forest → Bool → SpaceId → ℕ → ℕ → ℕ → Type 0
StaysFrom f write s a zero inside = Unit {0}
StaysFrom f write s a (suc left) (suc inside) = StaysFrom f write s (a + 1) left inside
StaysFrom f write s a (suc left) zero = let n = taken f write s a (suc left) in
    (n ≤ first_length (chunks f write s a (suc left))) × StaysFrom f write s (a + 1) left (n - 1)

-- no piece of a device reaches past its range, in a whole access
abbrev pub StaysInRanges : Forest → Bool → SpaceId → ℕ → ℕ → Type 0
StaysInRanges f write s a bytes = StaysFrom f write s a bytes 0

-- no window makes read-only what a write meets: where the flag of the region itself, which QEMU's core tests, is the one that is
-- shown. A read asks for no flag
abbrev pub NoWindowShuts : Forest → Bool → SpaceId → ℕ → ℕ → Type 0
NoWindowShuts f write s a bytes = write ≡ true → (i : ℕ) → i < bytes
    → own_target f (trail_of f write s (a + i)).target ≡ (trail_of f write s (a + i)).target

-- where both hold, QEMU's core reaches the same
abbrev pub PlansAgree : Type 0
PlansAgree = (f : Forest) → IsClosedForest f → (s : SpaceId) (a : ℕ) (t : Transfer) → NoWindowShuts f (is_write t) s a (length_of t)
    → StaysInRanges f (is_write t) s a (length_of t) → plan_of_core f s a t ≡ plan f s a t

-- it reaches the same where no window shuts and the whole access is one chunk
abbrev pub OneChunkAgrees : Type 0
OneChunkAgrees = (f : Forest) → IsClosedForest f → (s : SpaceId) (a : ℕ) (t : Transfer) → NoWindowShuts f (is_write t) s a (length_of t)
    → first_length (chunks f (is_write t) s a (length_of t)) ≡ length_of t → plan_of_core f s a t ≡ plan f s a t

-- a device whose callbacks take aligned accesses alone, and whose range ends at a multiple of the largest size that it takes,
-- where more bytes are left of the access than the range has
abbrev pub EndsEven : Answerer → ℕ → ℕ → Type 0
EndsEven (by_device region offset ops events) length left =
    length < left → (ops.impl_unaligned ≡ false) × ((offset + length) % ops.valid_max ≡ 0)
EndsEven _ length left = Unit {0}

-- all ranges that an access leaves do
abbrev pub RangesEndEven : Forest → Bool → SpaceId → ℕ → ℕ → Type 0
RangesEndEven f write s a bytes = (i : ℕ) → i < bytes
    → EndsEven (answerer f write (trail_of f write s (a + i)).target) (first_length (chunks f write s (a + i) (bytes - i))) (bytes - i)

-- it reaches the same where no window shuts and they do
abbrev pub EvenRangesAgree : Type 0
EvenRangesAgree = (f : Forest) → IsClosedForest f → (s : SpaceId) (a : ℕ) (t : Transfer) → NoWindowShuts f (is_write t) s a (length_of t)
    → RangesEndEven f (is_write t) s a (length_of t) → plan_of_core f s a t ≡ plan f s a t
