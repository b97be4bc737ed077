-- An access that is one chunk of memory is the steps of its words, and the marks.
use Rattle.std.proofs.Common.{◌≡◌, ℕ, ◌+◌, ◌-◌, ◌<◌, ◌&&◌, Bool, true, false, List, [], ◌∷◌, ◌++◌, length, take, drop, Option, Some, None}
use Rattle.std.proofs.Common.{refl, sym, ap, subst, ◌∙◌, if◌then◌else◌, arith, append-nil}
use Rattle.std.specs.Prelude.{flat_map, unwrap_or, option_map}
use Rattle.std.proofs.Math.Seq.{take-length}
use Rattle.mem_base.specs.declared.map.ids.SpaceId.{SpaceId}
use Rattle.mem_base.specs.declared.map.spots.Spot.{Spot}
use Rattle.mem_base.specs.declared.map.kinds.Kind.{Kind}
use Rattle.mem_base.specs.declared.map.kinds.Kind.TheVariants.{Ram, Rom, RomDevice}
use Rattle.mem_base.specs.declared.map.forests.Node.{Node}
use Rattle.mem_base.specs.declared.map.forests.Forest.{Forest}
use Rattle.mem_base.specs.declared.access.accesses.Target.{Target}
use Rattle.mem_base.specs.declared.access.accesses.Target.TheVariants.{Leaf, Unassigned}
use Rattle.mem_base.specs.lists.Runs.{run, runs}
use Rattle.mem_base.specs.map.Region.{node_of}
use Rattle.mem_base.specs.access.Places.{data_words}
use Rattle.mem_base.specs.access.Trails.{shares_next, first_length}
use Rattle.mem_base.specs.access.AccessSteps.{Transfer, reading, writing, is_write, length_of, AccessStep, unanswered, tx, result_of}
use Rattle.mem_base.specs.access.MemoryAccess.{in_memory, on_words, marked}
use Rattle.mem_base.specs.access.DeviceAccess.{in_device}
use Rattle.mem_base.specs.access.Access.{at_leaf, at_target, in_chunk, access}
use Rattle.access_base.proofs.RunLaws.{first_run}
use Rattle.access_base.proofs.TrailLaws.{together}
use Rattle.access_run.proofs.AnswerLaws.{words_read_fine, words_written_fine}
use Rattle.mem_base.specs.access.Windows.{window_start, is_direct_kind, is_direct_node, is_direct_target, is_direct, target_at, chunk_length, part_steps, mark_steps}
use Rattle.std.proofs.lemmas.Bool.{not-true}

-- the first chunk of some addresses, alone, is one chunk
pub one_chunk : (share : ℕ → Bool) (a n c : ℕ) → c ≡ first_length (runs share a n) → 0 < c → runs share a c ≡ run a c ∷ []
one_chunk share a n c is some =
    let none : c - c ≡ 0 = omega arith in
    first_run share a c c some (omega arith) (λ i l. together share a n i (subst (λ m. i + 1 < m) is l)) (λ l. absurd (omega (arith, l)))
    ∙ ap (λ m. run a c ∷ runs share (a + c) m) none

-- at a leaf that is direct
pub direct_kind : (k : Kind) (n : Node) (spot : Spot) (t : Transfer) → is_direct_kind k (is_write t) spot.attrs ≡ true → at_leaf k n spot t ≡ in_memory spot t
direct_kind Ram n spot t e = refl
direct_kind Rom n spot t e = refl
direct_kind (RomDevice device) n spot t e =
    ap (λ (b : Bool). if b then in_memory spot t else in_device n device (data_words n.size) spot.offset (length_of t) t) e
direct_kind _ n spot t e = cc

pub direct_target : (f : Forest) (x : Target) (t : Transfer) → is_direct_target f (is_write t) x ≡ true
    → (spot : Spot) × (x ≡ Leaf spot) × (at_target f x t ≡ in_memory spot t)
direct_target f Unassigned t e = cc
direct_target f (Leaf spot) t e = (spot, refl, go (node_of f.nodes spot.leaf) e)
  where
    go : (o : Option Node) → is_direct_node o (is_write t) spot.attrs ≡ true → unwrap_or (option_map (λ (m : Node). at_leaf m.kind m spot t) o) (unanswered t) ≡ in_memory spot t
    go None e = cc
    go (Some n) e = direct_kind n.kind n spot t e

-- what is written directly is not read-only
written_kind : (k : Kind) (spot : Spot) → is_direct_kind k true spot.attrs ≡ true → spot.attrs.readonly ≡ false
written_kind Ram spot e = not-true spot.attrs.readonly e
written_kind (RomDevice device) spot e = go spot.attrs.romd e
  where
    go : (b : Bool) → (b && false) ≡ true → spot.attrs.readonly ≡ false
    go true e = cc
    go false e = cc
written_kind _ spot e = cc

written_node : (o : Option Node) (spot : Spot) → is_direct_node o true spot.attrs ≡ true → spot.attrs.readonly ≡ false
written_node None spot e = cc
written_node (Some n) spot e = written_kind n.kind spot e

written_target : (f : Forest) (x : Target) (spot : Spot) → x ≡ Leaf spot → is_direct_target f true x ≡ true → spot.attrs.readonly ≡ false
written_target f x spot is e = written_node (node_of f.nodes spot.leaf) spot (subst (λ (y : Target). is_direct_target f true y ≡ true) is e)

-- a read of the first chunk, where that is direct
pub read_is : (f : Forest) (space : SpaceId) (addr n c : ℕ) → is_direct f (window_start space addr false) ≡ true
    → c ≡ chunk_length f (window_start space addr false) n → 0 < c
    → access f space addr (reading c) ≡ part_steps (target_at f (window_start space addr false)) 0 (reading c)
read_is f space addr n c direct is some =
    let x : Target = target_at f (window_start space addr false) in
    let d = direct_target f x (reading c) direct in
    let at : d.0.offset ≡ d.0.offset + 0 = omega arith in
    ap (flat_map (in_chunk f space addr (reading c))) (one_chunk (shares_next f false space) addr n c is some)
    ∙ append-nil (at_target f x (reading c))
    ∙ d.2
    ∙ ap (λ o. on_words d.0.leaf o (reading c)) at
    ∙ ap (λ (y : Target). part_steps y 0 (reading c)) (sym d.1)

-- and a write
pub written_is : (f : Forest) (space : SpaceId) (addr n : ℕ) (bs : List ℕ) → is_direct f (window_start space addr true) ≡ true
    → length bs ≡ chunk_length f (window_start space addr true) n → 0 < length bs
    → access f space addr (writing bs)
    ≡ part_steps (target_at f (window_start space addr true)) 0 (writing bs) ++ mark_steps (target_at f (window_start space addr true)) (length bs)
written_is f space addr n bs direct is some =
    let x : Target = target_at f (window_start space addr true) in
    let d = direct_target f x (writing bs) direct in
    let off : d.0.attrs.readonly ≡ false = written_target f x d.0 d.1 direct in
    let at : d.0.offset ≡ d.0.offset + 0 = omega arith in
    let none : addr - addr ≡ 0 = omega arith in
    let whole : take (length bs) (drop (addr - addr) bs) ≡ bs = ap (λ k. take (length bs) (drop k bs)) none ∙ take-length bs in
    let marks : List AccessStep = marked d.0.leaf d.0.attrs.log d.0.offset (length bs) in
    ap (flat_map (in_chunk f space addr (writing bs))) (one_chunk (shares_next f true space) addr n (length bs) is some)
    ∙ append-nil (at_target f x (writing (take (length bs) (drop (addr - addr) bs))))
    ∙ ap (λ l. at_target f x (writing l)) whole
    ∙ d.2
    ∙ ap (λ (b : Bool). if b then unanswered (writing bs) else on_words d.0.leaf d.0.offset (writing bs) ++ marks) off
    ∙ ap (λ o. on_words d.0.leaf o (writing bs) ++ marks) at
    ∙ ap (λ (y : Target). part_steps y 0 (writing bs) ++ mark_steps y (length bs)) (sym d.1)

-- neither has an error

pub part_read_fine : (x : Target) (at n : ℕ) → tx false false ≡ result_of (part_steps x at (reading n))
part_read_fine Unassigned at n = refl
part_read_fine (Leaf spot) at n = words_read_fine spot.leaf (spot.offset + at) n

pub written_fine : (x : Target) (bs : List ℕ) → tx false false ≡ result_of (part_steps x 0 (writing bs) ++ mark_steps x (length bs))
written_fine Unassigned bs = refl
written_fine (Leaf spot) bs =
    let at : spot.offset ≡ spot.offset + 0 = omega arith in
    words_written_fine spot.leaf spot.attrs.log spot.offset bs
    ∙ ap (λ o. result_of (on_words spot.leaf o (writing bs) ++ marked spot.leaf spot.attrs.log spot.offset (length bs))) at
