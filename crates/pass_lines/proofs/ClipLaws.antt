-- Reads and writes by windows whose last bytes lie above 2^64 - 1.
use Rattle.std.proofs.Common.{◌≡◌, ℕ, zero, suc, ◌+◌, ◌-◌, ◌^◌, ◌<◌, ◌≤◌, Bool, true, false, List, [], ◌∷◌, ◌++◌, length, take, drop}
use Rattle.std.proofs.Common.{refl, sym, ap, subst, ◌∙◌, arith, append-nil, length-append}
use Rattle.std.specs.Prelude.{flat_map, replicate}
use Rattle.std.proofs.lemmas.List.{drop_all, length-drop, length-take-le, take-take, take_at}
use borrow.Rule.Slice.PartMut.{post_of}
use Rattle.mem_base.specs.declared.map.ids.SpaceId.{SpaceId}
use Rattle.mem_base.specs.declared.map.forests.Forest.{Forest}
use Rattle.mem_base.specs.declared.access.accesses.TxResult.{TxResult}
use Rattle.mem_base.specs.lists.Every.{Every}
use Rattle.mem_base.specs.lists.Runs.{Run, runs, put_before}
use Rattle.mem_base.specs.map.Forest.{IsMade}
use Rattle.mem_base.specs.access.Trails.{trail_of, shares_next}
use Rattle.mem_base.specs.access.AccessSteps.{AccessStep, either, reading, result_of, tx, writing}
use Rattle.mem_base.specs.access.Access.{access, at_target, in_chunk}
use Rattle.mem_base.specs.machine.Passes.{pass_id}
use Rattle.generation.specs.Published.{Published}
use Rattle.epoch_rule.specs.Values.{PassValue}
use Rattle.vcpu_pass.proofs.HandedOn.{steps_below, read_past, write_past}
use Rattle.access_base.proofs.ChunkLaws.{at_end}
use Rattle.access_base.proofs.MemoryLaws.{part_length}
use Rattle.vcpu_pass.specs.Steps.{HasMade, generation_in}
use Rattle.io_window.specs.Calls.{Does}
use Rattle.io_window.specs.Whole.{HasRun}
use Rattle.vcpu_pass.proofs.LoadLaws.{hand_laws}

-- runs end within their numbers
ends_within : (share : ℕ → Bool) (a n : ℕ) → Every (λ r. (a ≤ r.start) × (r.start + r.length ≤ a + n)) (runs share a n)
ends_within share a zero = tt
ends_within share a (suc n) = put (share a) (runs share (a + 1) n) (ends_within share (a + 1) n)
  where
    later : (rs : List Run) → Every (λ r. (a + 1 ≤ r.start) × (r.start + r.length ≤ a + 1 + n)) rs
        → Every (λ r. (a ≤ r.start) × (r.start + r.length ≤ a + suc n)) rs
    later [] h = tt
    later (r ∷ rs) h =
        let l : a + 1 ≤ r.start = h.0.0 in
        let m : r.start + r.length ≤ a + 1 + n = h.0.1 in ((omega (arith, l), omega (arith, m)), later rs h.1)

    put : (b : Bool) (rs : List Run) → Every (λ r. (a + 1 ≤ r.start) × (r.start + r.length ≤ a + 1 + n)) rs
        → Every (λ r. (a ≤ r.start) × (r.start + r.length ≤ a + suc n)) (put_before b a rs)
    put true [] h = ((omega arith, omega arith), tt)
    put true (r ∷ rs) h =
        let l : a + 1 ≤ r.start = h.0.0 in
        let m : r.start + r.length ≤ a + 1 + n = h.0.1 in ((omega arith, omega (arith, l, m)), later rs h.1)
    put false rs h = ((omega arith, omega arith), later rs h)

-- what is taken of the first bytes is taken of all
same_part : (bytes : List ℕ) (skip count below : ℕ) → skip + count ≤ below → take count (drop skip (take below bytes)) ≡ take count (drop skip bytes)
same_part bytes zero count below l = take-take count below bytes (omega (arith, l))
same_part [] (suc skip) count zero l = refl
same_part [] (suc skip) count (suc below) l = refl
same_part (x ∷ bytes) (suc skip) count zero l = absurd (omega (arith, l))
same_part (x ∷ bytes) (suc skip) count (suc below) l = same_part bytes skip count below (omega (arith, l))

chunk_same : (f : Forest) (space : SpaceId) (addr below : ℕ) (bytes : List ℕ) (r : Run) → addr ≤ r.start → r.start + r.length ≤ addr + below
    → in_chunk f space addr (writing (take below bytes)) r ≡ in_chunk f space addr (writing bytes) r
chunk_same f space addr below bytes r l m =
    ap (λ (bs : List ℕ). at_target f (trail_of f true space r.start).target (writing bs))
    (same_part bytes (r.start - addr) r.length below (omega (arith, l, m)))

chunks_same : (f : Forest) (space : SpaceId) (addr below : ℕ) (bytes : List ℕ) (rs : List Run)
    → Every (λ r. (addr ≤ r.start) × (r.start + r.length ≤ addr + below)) rs
    → flat_map (in_chunk f space addr (writing (take below bytes))) rs ≡ flat_map (in_chunk f space addr (writing bytes)) rs
chunks_same f space addr below bytes [] h = refl
chunks_same f space addr below bytes (r ∷ rs) h =
    (λ i. chunk_same f space addr below bytes r h.0.0 h.0.1 i ++ chunks_same f space addr below bytes rs h.1 i)

first_steps : (f : Forest) (space : SpaceId) (addr below : ℕ) (bytes : List ℕ) → below ≤ length bytes
    → access f space addr (writing (take below bytes)) ≡ steps_below f space addr (writing bytes) below
first_steps f space addr below bytes most =
    ap (λ (n : ℕ). flat_map (in_chunk f space addr (writing (take below bytes))) (runs (shares_next f true space) addr n)) (length-take-le below bytes most)
    ∙ chunks_same f space addr below bytes (runs (shares_next f true space) addr below) (ends_within (shares_next f true space) addr below)

-- the end of a read

pub read_end : (v y : PassValue Published) (space : SpaceId) (addr n below : ℕ) (bs zeros : List ℕ) (r : TxResult) → IsMade (generation_in v).forest
    → addr + below ≡ 2 ^ 64 → below < n → HasRun v space addr (reading below) r bs y → zeros ≡ replicate (n - below) 0
    → HasRun v space addr (reading n) (either r (tx false true)) (bs ++ zeros) y
read_end v y space addr n below bs zeros r made at less h is =
    let d = read_past HasMade (λ v. pass_id v.number) generation_in hand_laws v y space addr n below (n - below) bs zeros r made at
    (omega (arith, less)) (omega (arith, less)) h.done h.result is in record { done = d.0; result = d.1 }

pub write_end : (v y : PassValue Published) (space : SpaceId) (addr below : ℕ) (bytes : List ℕ) (r : TxResult) → IsMade (generation_in v).forest
    → addr + below ≡ 2 ^ 64 → below < length bytes → HasRun v space addr (writing (take below bytes)) r [] y
    → HasRun v space addr (writing bytes) (either r (tx false true)) [] y
write_end v y space addr below bytes r made at less h =
    let list = first_steps (generation_in v).forest space addr below bytes (omega (arith, less)) in
    let d = write_past HasMade (λ v. pass_id v.number) generation_in hand_laws v y space addr below (length bytes - below) bytes r made at
    (omega (arith, less)) (omega (arith, less)) (subst (λ (ds : List AccessStep). Does v ds [] y) list h.done)
    (h.result ∙ ap (λ (ds : List AccessStep). result_of ds) list) in record { done = d.0; result = d.1 }

-- the bytes after the first ones read as 0
zeros_after : (below n k : ℕ) (out filled : List ℕ) → length out ≡ n → below + k ≡ n
    → filled ≡ replicate (length (take (length out - below) (drop below out))) 0 → filled ++ post_of below (length out - below) out ≡ replicate k 0
zeros_after below n k out filled all sum is =
    let left : length out - below ≡ k = omega (arith, all, sum) in
    let many : length (take (length out - below) (drop below out)) ≡ k =
    part_length below k n (length out - below) out all (omega (arith, sum)) (omega (arith, all, sum)) in
    let none : post_of below (length out - below) out ≡ [] = drop_all (length out - below) (drop below out) (omega (arith, length-drop below out)) in
    ap (λ (z : List ℕ). filled ++ z) none ∙ append-nil filled ∙ is ∙ ap (λ (m : ℕ). replicate m 0) many

-- what comes of a read of the first bytes, and zeros for the others
pub read_whole : (v x y : PassValue Published) (space : SpaceId) (addr below : ℕ) (out got filled : List ℕ) (r ended : TxResult) → x ≡ v
    → IsMade (generation_in v).forest → below ≤ length out → below < length (got ++ drop below out) → (addr + length out ≤ 2 ^ 64 → below ≡ length out)
    → (2 ^ 64 < addr + length out → addr + below ≡ 2 ^ 64) → length got ≡ length (take below out)
    → HasRun x space addr (reading (length (take below out))) r got y → ended ≡ either r (tx false true) → let all = got ++ drop below out in
    filled ≡ replicate (length (take (length all - below) (drop below all))) 0
    → HasRun v space addr (reading (length out)) ended (take below all ++ (filled ++ post_of below (length all - below) all)) y
read_whole v x y space addr below out got filled r ended same made most short whole past long h join is =
    let n : ℕ = length out in
    let all : List ℕ = got ++ drop below out in
    let size : length (take below out) ≡ below = length-take-le below out most in
    let left : length (drop below out) ≡ n - below = length-drop below out in
    let count : length all ≡ length got + length (drop below out) = length-append got (drop below out) in
    let total : length all ≡ n = omega (arith, count, left, long, size, most) in
    let less : below < n = omega (arith, short, total) in
    let first : HasRun v space addr (reading below) r got y =
    subst (λ (z : PassValue Published × ℕ). HasRun z.0 space addr (reading z.1) r got y) (λ i. (same i, size i)) h in
    let zeros : filled ++ post_of below (length all - below) all ≡ replicate (n - below) 0 =
    zeros_after below n (n - below) all filled total (omega (arith, less)) is in
    let part : got ≡ take below all = sym (take_at got (drop below out) below (long ∙ size)) in
    let rest : List ℕ = filled ++ post_of below (length all - below) all in
    subst (λ (z : TxResult × List ℕ). HasRun v space addr (reading n) z.0 (z.1 ++ rest) y) (λ i. (sym join i, part i))
    (read_end v y space addr n below got rest r made (at_end addr below n less whole past) less first zeros)

-- and of a write of the first bytes
pub write_whole : (v x y : PassValue Published) (space : SpaceId) (addr below : ℕ) (bytes : List ℕ) (r ended : TxResult) → x ≡ v
    → IsMade (generation_in v).forest → below < length bytes → (addr + length bytes ≤ 2 ^ 64 → below ≡ length bytes)
    → (2 ^ 64 < addr + length bytes → addr + below ≡ 2 ^ 64) → HasRun x space addr (writing (take below bytes)) r [] y
    → ended ≡ either r (tx false true) → HasRun v space addr (writing bytes) ended [] y
write_whole v x y space addr below bytes r ended same made less whole past h join =
    subst (λ (z : TxResult). HasRun v space addr (writing bytes) z [] y) (sym join)
    (write_end v y space addr below bytes r made (at_end addr below (length bytes) less whole past) less
    (subst (λ (z : PassValue Published). HasRun z space addr (writing (take below bytes)) r [] y) same h))
