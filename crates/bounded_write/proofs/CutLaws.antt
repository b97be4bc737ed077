-- Where a write is cut: at the first bytes of its first chunk, and between chunks.
use Rattle.std.proofs.Common.{◌≡◌, ℕ, ◌+◌, ◌-◌, ◌<◌, ◌≤◌, Bool, true, List, [], ◌∷◌, ◌++◌, length, take, drop}
use Rattle.std.proofs.Common.{refl, sym, ap, subst, ◌∙◌, arith, append_assoc}
use Rattle.std.proofs.lemmas.List.{take-take, drop-take, drop-drop, length-take-le, length-drop}
use Rattle.mem_base.specs.declared.map.ids.SpaceId.{SpaceId}
use Rattle.mem_base.specs.declared.map.forests.Forest.{Forest}
use Rattle.mem_base.specs.declared.access.accesses.Target.{Target}
use Rattle.mem_base.specs.declared.access.accesses.Target.TheVariants.{Leaf, Unassigned}
use Rattle.mem_base.specs.declared.access.accesses.WindowStart.{WindowStart}
use Rattle.mem_base.specs.lists.Runs.{runs}
use Rattle.mem_base.specs.access.Trails.{shares_next, first_length}
use Rattle.mem_base.specs.access.AccessSteps.{writing}
use Rattle.mem_base.specs.access.Access.{access}
use Rattle.mem_base.specs.access.Windows.{window_start, is_direct, target_at, chunk_length, part_steps, mark_steps}
use Rattle.access_base.proofs.RunLaws.{first_run}
use Rattle.access_base.proofs.TrailLaws.{together}
use Rattle.access_base.proofs.ChunkLaws.{FirstRun, first_given}
use Rattle.io_window.proofs.ChunkLaws.{written_is}
use Rattle.io_window.proofs.CutLaws.{write_cut}

-- the first run of some numbers is that of fewer of them, if these have it whole
pub first_of_fewer : (p : ℕ → Bool) (a n k c : ℕ) → 0 < n → c ≡ first_length (runs p a n) → c ≤ k → k ≤ n → first_length (runs p a k) ≡ c
first_of_fewer p a n k c some is most fewer =
    let t : FirstRun p a n c = first_given p a n c some is in
    ap first_length (first_run p a c k t.some most (λ i l. together p a n i (subst (λ m. i + 1 < m) is l)) (λ l. t.ends (omega (arith, l, fewer))))

-- and else it is all of these
pub first_inside : (p : ℕ → Bool) (a n k c : ℕ) → c ≡ first_length (runs p a n) → 0 < k → k ≤ c → first_length (runs p a k) ≡ k
first_inside p a n k c is some most =
    ap first_length (first_run p a k k some (omega arith) (λ i l. together p a n i (subst (λ m. i + 1 < m) is (omega (arith, l, most)))) (λ l. absurd (omega (arith, l))))

-- the first bytes of a chunk are one chunk
pub chunk_inside : (f : Forest) (s : WindowStart) (n k c : ℕ) → c ≡ chunk_length f s n → 0 < k → k ≤ c → k ≡ chunk_length f s k
chunk_inside f s n k c is some most = sym (first_inside (shares_next f s.write s.space) s.addr n k c is some most)

no_steps : (x : Target) → part_steps x 0 (writing []) ++ mark_steps x 0 ≡ []
no_steps Unassigned = refl
no_steps (Leaf spot) = refl

-- a write that is one chunk of memory
pub direct_is : (f : Forest) (space : SpaceId) (addr : ℕ) (bs : List ℕ) → is_direct f (window_start space addr true) ≡ true
    → (0 < length bs → length bs ≡ chunk_length f (window_start space addr true) (length bs))
    → access f space addr (writing bs)
    ≡ part_steps (target_at f (window_start space addr true)) 0 (writing bs) ++ mark_steps (target_at f (window_start space addr true)) (length bs)
direct_is f space addr [] direct chunk = sym (no_steps (target_at f (window_start space addr true)))
direct_is f space addr (b ∷ bs) direct chunk =
    let some : 0 < length (b ∷ bs) = omega arith in written_is f space addr (length (b ∷ bs)) (b ∷ bs) direct (chunk some) some

-- the first `k` bytes are whole chunks of what is written: whatever of the rest is written beside them is a write of its own
abbrev pub IsCutAt : Forest → SpaceId → ℕ → List ℕ → ℕ → Type 0
IsCutAt f space addr bytes k = (m : ℕ) → k + m ≤ length bytes
    → access f space addr (writing (take (k + m) bytes)) ≡ access f space addr (writing (take k bytes)) ++ access f space (addr + k) (writing (take m (drop k bytes)))

pub cut_at_none : (f : Forest) (space : SpaceId) (addr : ℕ) (bytes : List ℕ) → IsCutAt f space addr bytes 0
cut_at_none f space addr bytes m most =
    let here : addr ≡ addr + 0 = omega arith in let all : 0 + m ≡ m = omega arith in
    ap (λ n. access f space addr (writing (take n bytes))) all ∙ ap (λ a. access f space a (writing (take m bytes))) here

-- a part of what is left, and what is left after that
pub part_of_rest : (k n : ℕ) (bytes : List ℕ) → take n (drop k bytes) ≡ drop k (take (k + n) bytes)
part_of_rest k n bytes = sym (drop-take k n bytes)

-- after the next chunk it may be cut again
pub cut_after : (f : Forest) (space : SpaceId) (addr k c : ℕ) (bytes : List ℕ) → IsCutAt f space addr bytes k → k < length bytes
    → c ≡ chunk_length f (window_start space (addr + k) true) (length bytes - k) → IsCutAt f space addr bytes (k + c)
cut_after f space addr k c bytes cut less is m most =
    let n : ℕ = length bytes - k in
    let rest : List ℕ = drop k bytes in
    let bs : List ℕ = take (c + m) rest in
    let t : FirstRun (shares_next f true space) (addr + k) n c = first_given (shares_next f true space) (addr + k) n c (omega (arith, less)) is in
    let some : 0 < c = t.some in
    let left : length rest ≡ n = length-drop k bytes in
    let fits : c + m ≤ n = omega (arith, most, less) in
    let size : length bs ≡ c + m = length-take-le (c + m) rest (omega (arith, fits, left)) in
    let chunk : c ≡ chunk_length f (window_start space (addr + k) true) (length bs) =
    sym (first_of_fewer (shares_next f true space) (addr + k) n (c + m) c (omega (arith, less)) is (omega arith) fits)
    ∙ ap (λ j. chunk_length f (window_start space (addr + k) true) j) (sym size) in
    let whole : k + c + m ≡ k + (c + m) = omega arith in
    let at : addr + k + c ≡ addr + (k + c) = omega arith in
    let first : take c bs ≡ take c rest = take-take c (c + m) rest (omega arith) in
    let later : drop c bs ≡ take m (drop (k + c) bytes) = drop-take c m rest ∙ ap (take m) (drop-drop c k bytes) in
    let two = write_cut f space (addr + k) c bs (omega (arith, size, some)) chunk in
    let these : access f space addr (writing (take (k + c) bytes)) ≡ access f space addr (writing (take k bytes)) ++ access f space (addr + k) (writing (take c rest)) =
    cut c (omega (arith, most)) in
    ap (λ j. access f space addr (writing (take j bytes))) whole
    ∙ cut (c + m) (omega (arith, most))
    ∙ ap (λ ds. access f space addr (writing (take k bytes)) ++ ds) (two ∙ (λ i. access f space (addr + k) (writing (first i)) ++ access f space (at i) (writing (later i))))
    ∙ sym (append_assoc (access f space addr (writing (take k bytes))) (access f space (addr + k) (writing (take c rest)))
    (access f space (addr + (k + c)) (writing (take m (drop (k + c) bytes)))))
    ∙ ap (λ ds. ds ++ access f space (addr + (k + c)) (writing (take m (drop (k + c) bytes)))) (sym these)
