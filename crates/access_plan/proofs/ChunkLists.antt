-- Laws of what chunks reach.
use Rattle.std.proofs.Common.{◌≡◌, ℕ, ◌+◌, ◌-◌, ◌<◌, Bool, List, [], ◌∷◌, ◌++◌, map, refl, sym, ap, ◌∙◌, arith}
use Rattle.std.specs.Prelude.{flat_map}
use Rattle.mem_base.specs.declared.map.ids.SpaceId.{SpaceId}
use Rattle.mem_base.specs.declared.map.forests.Forest.{Forest}
use Rattle.mem_base.specs.declared.access.accesses.Target.{Target}
use Rattle.mem_base.specs.lists.Runs.{Run, run}
use Rattle.mem_base.specs.access.AccessSteps.{Transfer, reading, part}
use Rattle.mem_base.specs.access.Trails.{trail_of, chunks, first_length, shares_next}
use Rattle.mem_base.specs.access.Plans.{Reached, reached}
use Rattle.plan_laws.proofs.FirstRuns.{first_is}
use Rattle.access_plan.specs.declared.lists.Reach.{Reach}
use Rattle.access_plan.specs.declared.lists.Reach.TheVariants.{Memory}
use Rattle.access_plan.specs.HostPlans.{answerer_with_host, chunk_by}
use Rattle.access_plan.specs.Lists.{meant}

-- a chunk of an access
abbrev pub chunk_in : Forest → Bool → SpaceId → ℕ → Transfer → Run → List Reached
chunk_in f w s a t r = chunk_by (answerer_with_host f w) f w s a t r

-- the next chunk, and those after it
pub chunk_then : (f : Forest) (w : Bool) (s : SpaceId) (a : ℕ) (t : Transfer) (done n count : ℕ) (leads : Target) → done < n
    → leads ≡ (trail_of f w s (a + done)).target → count ≡ first_length (chunks f w s (a + done) (n - done))
    → flat_map (chunk_in f w s a t) (chunks f w s (a + done) (n - done))
    ≡ reached (answerer_with_host f w leads) (part done count t) ++ flat_map (chunk_in f w s a t) (chunks f w s (a + (done + count)) (n - (done + count)))
chunk_then f w s a t done n count leads less to is =
    let first = first_is (shares_next f w s) (a + done) (n - done) (omega (arith, less)) in
    let here : a + done + count ≡ a + (done + count) = omega arith in
    let left : n - done - count ≡ n - (done + count) = omega arith in
    let skipped : a + done - a ≡ done = omega arith in
    ap (flat_map (chunk_in f w s a t)) (first.is ∙ (λ i. run (a + done) (sym is i) ∷ chunks f w s (a + done + sym is i) (n - done - sym is i)))
    ∙ (λ i. reached (answerer_with_host f w (sym to i)) (part (skipped i) count t) ++ flat_map (chunk_in f w s a t) (chunks f w s (here i) (left i)))

-- what a list of a read means does not depend on how many bytes are read
one_read : (n : ℕ) (r : Reach) → meant (reading 0) r ≡ meant (reading n) r
one_read n (Memory region offset at len) = refl
one_read n _ = refl

pub all_read : (n : ℕ) (rs : List Reach) → map (meant (reading 0)) rs ≡ map (meant (reading n)) rs
all_read n [] = refl
all_read n (r ∷ rs) = (λ i. one_read n r i ∷ all_read n rs i)
