-- Laws of the rounds of QEMU's core.
use Rattle.std.proofs.Common.{◌≡◌, ℕ, zero, suc, ◌+◌, ◌-◌, ◌<◌, ◌≤◌, Bool, Option, Some, None, ◌++◌, refl, sym, ap, ◌∙◌, arith}
use Rattle.mem_base.specs.declared.map.ids.SpaceId.{SpaceId}
use Rattle.mem_base.specs.declared.map.forests.Forest.{Forest}
use Rattle.mem_base.specs.declared.map.forests.Node.{Node}
use Rattle.mem_base.specs.declared.map.spots.Spot.{Spot}
use Rattle.mem_base.specs.declared.access.accesses.Target.{Target}
use Rattle.mem_base.specs.declared.access.accesses.Target.TheVariants.{Leaf, Unassigned}
use Rattle.mem_base.specs.map.Region.{node_of}
use Rattle.mem_base.specs.access.CorePlans.{own_spot, own_target}
use Rattle.access_base.specs.Leaves.{IsLeafRun, IsTargetRun}
use Rattle.mem_base.specs.access.AccessSteps.{Transfer, reading, part}
use Rattle.mem_base.specs.access.Plans.{Answerer}
use Rattle.access_plan.specs.HostPlans.{IsNearEnd, taken_at, round_at, rounds_by}

module _ (who : Target → Answerer) (f : Forest) (w : Bool) (s : SpaceId) (first : ℕ) where
  -- the bytes that belong to a round begin none
  skip : (t : Transfer) (left k a : ℕ) → k ≤ left → rounds_by who f w s first t a left k ≡ rounds_by who f w s first t (a + k) (left - k) 0
  skip t left zero a l = let here : a ≡ a + 0 = omega arith in let all : left ≡ left - 0 = omega arith in
      (λ i. rounds_by who f w s first t (here i) (all i) 0)
  skip t zero (suc k) a l = absurd (omega (arith, l))
  skip t (suc left) (suc k) a l =
      let here : a + 1 + k ≡ a + suc k = omega arith in
      let all : left - k ≡ suc left - suc k = omega arith in
      skip t left k (a + 1) (omega (arith, l)) ∙ (λ i. rounds_by who f w s first t (here i) (all i) 0)

  -- the next round, and those after it
  pub rounds_then : (t : Transfer) (a left n : ℕ) → n ≡ taken_at who f w s a left → 0 < n → n ≤ left
      → rounds_by who f w s first t a left 0 ≡ round_at who f w s a (part (a - first) n t) ++ rounds_by who f w s first t (a + n) (left - n) 0
  rounds_then t a zero n is some most = absurd (omega (arith, some, most))
  rounds_then t a (suc left) n is some most =
      let here : a + 1 + (n - 1) ≡ a + n = omega (arith, some) in
      let all : left - (n - 1) ≡ suc left - n = omega (arith, some) in
      ap (λ m. round_at who f w s a (part (a - first) m t) ++ rounds_by who f w s first t (a + 1) left (m - 1)) (sym is)
      ∙ ap (λ rs. round_at who f w s a (part (a - first) n t) ++ rs) (skip t left (n - 1) (a + 1) (omega (arith, most))
      ∙ (λ i. rounds_by who f w s first t (here i) (all i) 0))

  -- what a read reaches does not depend on how many bytes its transfer has
  pub rounds_read : (m n a left inside : ℕ) → rounds_by who f w s first (reading m) a left inside ≡ rounds_by who f w s first (reading n) a left inside
  rounds_read m n a zero inside = refl
  rounds_read m n a (suc left) (suc inside) = rounds_read m n (a + 1) left inside
  rounds_read m n a (suc left) zero =
      ap (λ rs. round_at who f w s a (reading (taken_at who f w s a (suc left))) ++ rs) (rounds_read m n (a + 1) left (taken_at who f w s a (suc left) - 1))

-- a region's own flag changes nothing of where its bytes lie

pub near_own : (f : Forest) (x : Target) → IsNearEnd (own_target f x) → IsNearEnd x
near_own f Unassigned h = h
near_own f (Leaf x) h = go (node_of f.nodes x.leaf) h
  where
    go : (o : Option Node) → IsNearEnd (Leaf (own_spot o x)) → IsNearEnd (Leaf x)
    go None h = h
    go (Some n) h = h

pub run_own : (f : Forest) (x : Target) (bytes : ℕ) → IsTargetRun f x bytes → IsTargetRun f (own_target f x) bytes
run_own f Unassigned bytes h = h
run_own f (Leaf x) bytes h = go (node_of f.nodes x.leaf)
  where
    go : (o : Option Node) → IsLeafRun f (own_spot o x) bytes
    go None = h
    go (Some n) = record { named = h.named; within = h.within }
