-- The end of a write above 2^64 - 1, where nothing answers.
use Rattle.std.proofs.Common.{◌≡◌, ℕ, zero, suc, ◌+◌, ◌-◌, ◌^◌, ◌<◌, ◌≤◌, Bool, true, false, List, [], ◌∷◌, ◌++◌, length, take, drop}
use Rattle.std.proofs.Common.{refl, sym, ap, subst, ◌∙◌, ◌⊎◌, inl, inr, arith}
use Rattle.std.proofs.lemmas.Bool.{cases_lt}
use Rattle.std.specs.Prelude.{flat_map}
use Rattle.std.proofs.lemmas.List.{take-take, drop-take, length-take-le}
use Rattle.mem_base.specs.declared.map.ids.SpaceId.{SpaceId}
use Rattle.mem_base.specs.declared.map.forests.Forest.{Forest}
use Rattle.mem_base.specs.declared.access.accesses.TxResult.{TxResult}
use Rattle.mem_base.specs.lists.Every.{Every}
use Rattle.mem_base.specs.lists.Runs.{Run, run, runs, put_before}
use Rattle.mem_base.specs.map.Forest.{IsMade}
use Rattle.mem_base.specs.access.Trails.{trail_of, shares_next}
use Rattle.mem_base.specs.access.AccessSteps.{writing, AccessStep, either, result_of, tx}
use Rattle.mem_base.specs.access.Access.{access, at_target, in_chunk}
use Rattle.generation.specs.Published.{Published}
use Rattle.epoch_rule.specs.Values.{PassValue}
use Rattle.mem_base.specs.machine.Passes.{pass_id}
use Rattle.access_run.specs.Chunks.{steps_below}
use Rattle.access_run.proofs.AccessLaws.{write_past}
use Rattle.vcpu_pass.specs.Steps.{HasMade, generation_in}
use Rattle.io_window.specs.Calls.{Does}
use Rattle.io_window.specs.Whole.{HasRun}
use Rattle.bounded_write.specs.declared.chunks.Part.{Part}
use Rattle.bounded_write.specs.Writes.{HasStopped}
use Rattle.bounded_write.proofs.RunLaws.{stop_first}
use Rattle.vcpu_pass.proofs.LoadLaws.{hand_laws}

-- a run among some numbers
abbrev pub IsAmong : ℕ → ℕ → Run → Type 0
IsAmong a n r = (a ≤ r.start) × (r.start + r.length ≤ a + n)

pub runs_among : (share : ℕ → Bool) (a n : ℕ) → Every (IsAmong a n) (runs share a n)
runs_among share a zero = tt
runs_among share a (suc n) = put (share a) (runs share (a + 1) n) (runs_among share (a + 1) n)
  where
    later : (rs : List Run) → Every (IsAmong (a + 1) n) rs → Every (IsAmong a (suc n)) rs
    later [] h = tt
    later (r ∷ rs) h =
        let from : a + 1 ≤ r.start = h.0.0 in
        let to : r.start + r.length ≤ a + 1 + n = h.0.1 in ((omega (arith, from), omega (arith, to)), later rs h.1)

    put : (b : Bool) (rs : List Run) → Every (IsAmong (a + 1) n) rs → Every (IsAmong a (suc n)) (put_before b a rs)
    put true [] h = ((omega arith, omega arith), tt)
    put true (r ∷ rs) h =
        let from : a + 1 ≤ r.start = h.0.0 in
        let to : r.start + r.length ≤ a + 1 + n = h.0.1 in
        let end : a + (r.length + 1) ≤ a + suc n = omega (arith, from, to) in ((omega arith, end), later rs h.1)
    put false rs h = ((omega arith, omega arith), later rs h)

same_chunks : (F G : Run → List AccessStep) (a n : ℕ) → ((r : Run) → IsAmong a n r → F r ≡ G r) → (rs : List Run) → Every (IsAmong a n) rs
    → flat_map F rs ≡ flat_map G rs
same_chunks F G a n same [] h = refl
same_chunks F G a n same (r ∷ rs) h = (λ i. same r h.0 i ++ same_chunks F G a n same rs h.1 i)

-- what an access does with its first bytes is the access of these
pub steps_of_first : (f : Forest) (space : SpaceId) (addr below : ℕ) (bytes : List ℕ) → below ≤ length bytes
    → access f space addr (writing (take below bytes)) ≡ steps_below f space addr (writing bytes) below
steps_of_first f space addr below bytes most =
    let size : length (take below bytes) ≡ below = length-take-le below bytes most in
    let F = in_chunk f space addr (writing (take below bytes)) in
    let G = in_chunk f space addr (writing bytes) in
    ap (λ n. flat_map F (runs (shares_next f true space) addr n)) size
    ∙ same_chunks F G addr below (each) (runs (shares_next f true space) addr below) (runs_among (shares_next f true space) addr below)
  where
    each : (r : Run) → IsAmong addr below r → in_chunk f space addr (writing (take below bytes)) r ≡ in_chunk f space addr (writing bytes) r
    each r h =
        let from : addr ≤ r.start = h.0 in
        let to : r.start + r.length ≤ addr + below = h.1 in
        let skip : ℕ = r.start - addr in
        let all : skip + (below - skip) ≡ below = omega (arith, from, to) in
        ap (λ bs. at_target f (trail_of f true space r.start).target (writing bs))
        (ap (λ j. take r.length (drop skip (take j bytes))) (sym all) ∙ ap (take r.length) (drop-take skip (below - skip) bytes)
        ∙ take-take r.length (below - skip) (drop skip bytes) (omega (arith, from, to)))

pub run_past : (v w : PassValue Published) (space : SpaceId) (addr below : ℕ) (bytes : List ℕ) (r : TxResult) → IsMade (generation_in v).forest
    → addr + below ≡ 2 ^ 64 → below < length bytes → HasRun v space addr (writing (take below bytes)) r [] w
    → HasRun v space addr (writing bytes) (either r (tx false true)) [] w
run_past v w space addr below bytes r made at less h =
    let f : Forest = (generation_in v).forest in
    let list : access f space addr (writing (take below bytes)) ≡ steps_below f space addr (writing bytes) below =
    steps_of_first f space addr below bytes (omega (arith, less)) in
    let p = write_past HasMade (λ x. pass_id x.number) generation_in hand_laws v w space addr below (length bytes - below) bytes r made at
    (omega (arith, less)) (omega (arith, less)) (subst (λ ds. Does v ds [] w) list h.done) (h.result ∙ ap result_of list) in
    record { done = p.0; result = p.1 }

-- what is written of some bytes, by what is written of those below 2^64
abbrev pub Ends : PassValue Published → SpaceId → ℕ → List ℕ → ℕ → Part → PassValue Published → Type 0
Ends v space addr bytes tries r w =
    (r.count ≤ length bytes)
    × (r.count ≡ length bytes → HasRun v space addr (writing bytes) r.result [] w)
    × (r.count ≡ length bytes → r.begun ≡ false)
    × (r.count < length bytes → HasStopped v space addr bytes r.count r.result r.begun tries w)

pub ends_past : (v w : PassValue Published) (space : SpaceId) (addr below : ℕ) (bytes : List ℕ) (tries : ℕ) (p r : Part) → IsMade (generation_in v).forest
    → below < length bytes → addr + below ≡ 2 ^ 64 → Ends v space addr (take below bytes) tries p w → (p.count < below → r ≡ p)
    → (below ≤ p.count → (r.count ≡ length bytes) × (r.result ≡ either p.result (tx false true)) × (r.begun ≡ false))
    → Ends v space addr bytes tries r w
ends_past v w space addr below bytes tries p r made less at h same past = go (cases_lt p.count below)
  where
    size : length (take below bytes) ≡ below
    size = length-take-le below bytes (omega (arith, less))

    go : (p.count < below) ⊎ (below ≤ p.count) → Ends v space addr bytes tries r w
    go (inl l) =
        let short : p.count < length bytes = omega (arith, l, less) in
        let stop : HasStopped v space addr bytes p.count p.result p.begun tries w =
        stop_first v w space addr below p.count bytes p.result p.begun tries (omega (arith, less)) l (h.3 (subst (λ n. p.count < n) (sym size) l)) in
        subst (λ x. Ends v space addr bytes tries x w) (sym (same l))
        (omega (arith, short), (λ all. absurd (omega (arith, all, short))), (λ all. absurd (omega (arith, all, short))), (λ m. stop))
    go (inr l) =
        let q = past l in
        let count : r.count ≡ length bytes = q.0 in
        let most : p.count ≤ length (take below bytes) = h.0 in
        let all : p.count ≡ length (take below bytes) = omega (arith, l, most, size) in
        let run : HasRun v space addr (writing bytes) (either p.result (tx false true)) [] w =
        run_past v w space addr below bytes p.result made at less (h.1 all) in
        (omega (arith, count), (λ e. subst (λ x. HasRun v space addr (writing bytes) x [] w) (sym q.1) run), (λ e. q.2), (λ m. absurd (omega (arith, m, count))))
