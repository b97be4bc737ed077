-- Laws of the pages on the way of an address, and of the first piece there.
use Rattle.std.proofs.Common.{◌≡◌, ℕ, zero, suc, ◌+◌, if◌then◌else◌, ◌≤◌, ◌<◌, ◌^◌, Bool, true, List, [], ◌∷◌, Option, Some, None, refl, sym, ap, ◌∙◌, arith}
use Rattle.std.specs.Prelude.{MatchOption, IfSome, min}
use Rattle.mem_base.specs.declared.map.ids.SpaceId.{SpaceId}
use Rattle.mem_base.specs.declared.map.forests.Forest.{Forest}
use Rattle.mem_base.specs.declared.map.spots.Spot.{Spot}
use Rattle.mem_base.specs.declared.map.translations.Entry.{Entry}
use Rattle.mem_base.specs.declared.map.kinds.Ops.{Ops}
use Rattle.mem_base.specs.declared.access.accesses.Piece.{Piece}
use Rattle.mem_base.specs.map.Search.{Found, found_at, look}
use Rattle.mem_base.specs.access.Translations.{translates, used_at, translated_address}
use Rattle.mem_base.specs.access.Trails.{trail_at, trail_within, through, hop, trail}
use Rattle.mem_base.specs.declared.access.accesses.Target.TheVariants.{Leaf}
use Rattle.mem_base.specs.access.CorePlans.{in_page, in_pages}
use Rattle.mem_base.specs.access.Pieces.{pieces, piece, piece_at, size_at, is_valid, aligned_size}
use Rattle.access_cut.specs.Conditions.{AreGood, IsCut}
use Rattle.access_cut.proofs.PieceLaws.{size_most}
use Rattle.access_base.specs.Sizes.{IsSize}
use Rattle.access_base.proofs.DeviceLaws.{next_given, no_more, power_is_size, size_few}
use Rattle.plan_laws.proofs.Sizes.{same_size}

-- one translation of a trail
pub page_then : (f : Forest) (w : Bool) (k left : ℕ) (s : SpaceId) (a : ℕ) (x : Spot) (e : Entry) → look f s a ≡ Some x → translates f x.leaf ≡ true
    → used_at f w x.leaf x.offset ≡ Some e
    → in_pages (trail_within f w (suc k) s a).hops left
    ≡ in_pages (trail_within f w k e.space (translated_address e x.offset)).hops (in_page (Some e) x.offset left)
page_then f w k left s a x e seen crosses used = go (found_at f s a) refl
  where
    go : (o : Option Found) → found_at f s a ≡ o → in_pages (trail_within f w (suc k) s a).hops left
        ≡ in_pages (trail_within f w k e.space (translated_address e x.offset)).hops (in_page (Some e) x.offset left)
    go None h = cc
    go (Some y) h = let same : y.0 ≡ x = cc in
        ap (λ o. in_pages (trail_at f w (Some (trail_within f w k)) o).hops left) h
        ∙ ap (λ b. in_pages (if b then through (Some (trail_within f w k)) y (used_at f w y.0.leaf y.0.offset) else trail (hop y None ∷ []) (Leaf
        y.0)).hops left)
        (ap (λ (z : Spot). translates f z.leaf) same ∙ crosses)
        ∙ ap (λ u. in_pages (through (Some (trail_within f w k)) y u).hops left) (ap (λ (z : Spot). used_at f w z.leaf z.offset) same ∙ used)
        ∙ ap (λ (z : Spot). in_pages (trail_within f w k e.space (translated_address e z.offset)).hops (in_page (Some e) z.offset left)) same

-- the first piece of a device, by the first 8 bytes at most
pub record IsFirstPiece (ops : Ops) (offset left : ℕ) (p : Piece) : Type 0 where
  pub is : p ≡ piece_at ops offset left
  pub cut : IsCut ops p
  pub sized : IsSize p.size
  pub most : p.size ≤ left

pub first_of : (ops : Ops) (offset left few : ℕ) (p : Piece) (now later : List Piece) → AreGood ops → 1 ≤ left → few ≡ min left 8 → offset + few ≤ 2 ^ 64
    → now ≡ pieces ops offset few → now ≡ p ∷ later → IsFirstPiece ops offset left p
first_of ops offset left few p now later good some is fits list now_is =
    let np = next_given ops offset few p later good fits (sym list ∙ now_is) in
    let all = size_most ops offset left some in
    let eight = (size_few (size_at ops offset left) (power_is_size (aligned_size ops offset (min left ops.valid_max)))).1 in
    let same : size_at ops offset few ≡ size_at ops offset left = same_size ops offset few left (omega (arith, is)) (omega (arith, is, all, eight)) in
    let most = np.most in record {
      is = head few (omega (arith, is, some)) (sym list ∙ now_is) ∙ ap (λ m. piece offset m (is_valid ops offset m)) same;
      cut = np.cut;
      sized = np.sized;
      most = omega (arith, is, most);
    }
  where
    head : (n : ℕ) → 1 ≤ n → pieces ops offset n ≡ p ∷ later → p ≡ piece_at ops offset n
    head zero l e = absurd (omega (arith, l))
    head (suc n) l e = cc

-- what is given of them is one
pub first_all : (ops : Ops) (offset left few : ℕ) (o : Option Piece) (now later : List Piece) → AreGood ops → 1 ≤ left → few ≡ min left 8 → offset +
    few ≤ 2 ^ 64
    → now ≡ pieces ops offset few → MatchOption o ((now ≡ []) × (later ≡ [])) (λ p. now ≡ p ∷ later)
    → MatchOption o (2 ^ 64 < offset + 8) (λ p. p ≡ piece_at ops offset left) × IfSome o (λ p. IsCut ops p) × IfSome o (λ p. IsSize p.size)
    × IfSome o (λ p. p.size ≤ left)
first_all ops offset left few None now later good some is fits list h =
    let none : few ≡ 0 = no_more ops offset few good (sym list ∙ h.0) in absurd (omega (arith, none, is, some))
first_all ops offset left few (Some p) now later good some is fits list h =
    let q = first_of ops offset left few p now later good some is fits list h in (q.is, q.cut, q.sized, q.most)
