-- Laws of what pieces and callbacks reach.
use Rattle.std.proofs.Common.{◌≡◌, ℕ, ◌+◌, ◌-◌, ◌≤◌, ◌^◌, min, List, [], ◌∷◌, ap, sym, ◌∙◌, arith}
use Rattle.mem_base.specs.declared.map.ids.RegionId.{RegionId}
use Rattle.mem_base.specs.declared.map.kinds.Ops.{Ops}
use Rattle.mem_base.specs.declared.map.ioevents.Ioevent.{Ioevent}
use Rattle.mem_base.specs.declared.access.accesses.Piece.{Piece}
use Rattle.mem_base.specs.access.AccessSteps.{Transfer, part}
use Rattle.mem_base.specs.access.Plans.{Reached, callback, request, in_callback, in_piece}
use Rattle.mem_base.specs.access.Pieces.{pieces}
use Rattle.access_cut.specs.Conditions.{AreGood}
use Rattle.access_base.specs.Sizes.{callback_of}
use Rattle.access_base.proofs.DeviceLaws.{NextPiece, next_given, no_more}
use Rattle.plan_laws.proofs.Parts.{part_of_part}

-- a piece of the bytes of a device from an offset on
abbrev pub piece_in : RegionId → Ops → List Ioevent → ℕ → Transfer → Piece → List Reached
piece_in region ops events offset t p = in_piece region ops events p (part (p.offset - offset) p.size t)

-- the callback at a place, by the whole transfer
pub callback_meant : (region : RegionId) (ops : Ops) (p : Piece) (t : Transfer) (at o s done skipped : ℕ) → o ≡ p.offset + done → done + min s p.size ≤ p.size
    → skipped ≡ at + (o - p.offset)
    → callback region o s (request ops.big s (part skipped (min s p.size) t)) ≡ in_callback region ops (part at p.size t) (callback_of p (o, s))
callback_meant region ops p t at o s done skipped is most here =
    ap (λ u. callback region o s (request ops.big s u))
    (ap (λ k. part k (min s p.size) t) here ∙ sym (part_of_part t at p.size (o - p.offset) (min s p.size) (omega (arith, is, most))))

-- a piece, by the whole transfer
pub piece_meant : (region : RegionId) (ops : Ops) (events : List Ioevent) (offset : ℕ) (p : Piece) (t : Transfer) (at len done : ℕ) → p.offset ≡ offset + done
    → done + p.size ≤ len → in_piece region ops events p (part (at + done) p.size t) ≡ piece_in region ops events offset (part at len t) p
piece_meant region ops events offset p t at len done is most =
    let skipped : p.offset - offset ≡ done = omega (arith, is) in
    ap (in_piece region ops events p) (sym (part_of_part t at len done p.size most) ∙ ap (λ k. part k p.size (part at len t)) (sym skipped))

-- the next of the pieces that are left
pub next_of : (ops : Ops) (offset n done : ℕ) (p : Piece) (now later : List Piece) → AreGood ops → done ≤ n → offset + n ≤ 2 ^ 64
    → now ≡ pieces ops (offset + done) (n - done) → now ≡ p ∷ later → NextPiece ops (offset + done) (n - done) p later
next_of ops offset n done p now later good inside fits is list =
    next_given ops (offset + done) (n - done) p later good (omega (arith, inside, fits)) (sym is ∙ list)

pub within_of : (ops : Ops) (offset n done : ℕ) (p : Piece) (later : List Piece) → done ≤ n → NextPiece ops (offset + done) (n - done) p later → done
    + p.size ≤ n
within_of ops offset n done p later inside np = let h = np.most in omega (arith, h, inside)

-- all are done where none is left
pub all_of : (ops : Ops) (offset n done : ℕ) (now : List Piece) → AreGood ops → done ≤ n → now ≡ pieces ops (offset + done) (n - done) → now ≡ [] → done ≡ n
all_of ops offset n done now good inside is none =
    let left : n - done ≡ 0 = no_more ops (offset + done) (n - done) good (sym is ∙ none) in omega (arith, left, inside)
