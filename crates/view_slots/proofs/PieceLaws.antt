-- What a range shows that was cut into pieces.
use Rattle.std.proofs.Common.{◌≡◌, ℕ, ◌+◌, ◌-◌, ◌^◌, ◌<◌, ◌≤◌, Bool, true, false, cond}
use Rattle.std.proofs.Common.{List, [], ◌∷◌, ◌++◌, Option, Some, None, refl, sym, ap, ◌∙◌, subst, arith, nat_le}
use Rattle.std.proofs.Common.{append_assoc}
use Rattle.std.specs.Option.{option_or}
use Rattle.std.proofs.lemmas.Bool.Decides.{nat_tests}
use Rattle.mem_base.specs.declared.map.spots.Spot.{Spot}
use Rattle.mem_base.specs.declared.views.flat.FlatRange.{FlatRange}
use Rattle.mem_base.specs.lists.Every.{Every, HasElement}
use Rattle.mem_base.specs.views.View.{IsRanges, holds, seen, shown}
use Rattle.view_slots.specs.Edges.{HasEnds, NextIn, NoEdge}
use Rattle.view_slots.specs.Slots.{CutsInto, IsPiece, before, from_on}

pub or_none : (o : Option Spot) → option_or o None ≡ o
or_none None = refl
or_none (Some s) = refl

-- Pieces as the code adds them

pub cut_none : (edges : List ℕ) (r : FlatRange) → NextIn edges r.start r.last None → CutsInto edges r (r ∷ [])
cut_none edges r h = (refl, h)

cut_onto : (edges : List ℕ) (r : FlatRange) (edge : ℕ) (ps : List FlatRange) → NextIn edges r.start r.last (Some edge)
    → CutsInto edges (from_on r edge) ps → CutsInto edges r (before r edge ∷ ps)
cut_onto edges r edge [] h rest = absurd rest
cut_onto edges r edge (q ∷ ps) h rest =
    let at : q.start ≡ edge = first edge ps rest in
    let low : r.start < edge = h.1 in
    let no : NoEdge edges r.start (edge - 1) = λ e there above below. h.3 e there above (omega (arith, below, low)) in
    subst (λ (n : ℕ). (before r edge ≡ before r n) × NoEdge edges r.start (edge - 1) × HasElement edges n × (r.start < n) × (n ≤ r.last)
    × CutsInto edges (from_on r n) (q ∷ ps)) (sym at)
    (refl, no, h.0, h.1, h.2, rest)
  where
    first : (edge : ℕ) (ps : List FlatRange) → CutsInto edges (from_on r edge) (q ∷ ps) → q.start ≡ edge
    first edge [] rest = ap (λ (x : FlatRange). x.start) rest.0
    first edge (p ∷ ps) rest = ap (λ (x : FlatRange). x.start) rest.0

pub cut_some : (edges : List ℕ) (r : FlatRange) (edge : ℕ) (old mid new ps : List FlatRange) → NextIn edges r.start r.last (Some edge)
    → mid ≡ old ++ before r edge ∷ [] → new ≡ mid ++ ps → CutsInto edges (from_on r edge) ps
    → (qs : List FlatRange) × (new ≡ old ++ qs) × CutsInto edges r qs
cut_some edges r edge old mid new ps h front back rest =
    (before r edge ∷ ps, back ∙ ap (λ xs. xs ++ ps) front ∙ append_assoc old (before r edge ∷ []) ps, cut_onto edges r edge ps h rest)

-- what the code adds for a range that an edge cuts
pub cut_goes_on : (edges : List ℕ) (r b f : FlatRange) (edge : ℕ) (old mid new : List FlatRange) → b ≡ before r edge → f ≡ from_on r edge
    → NextIn edges r.start r.last (Some edge) → mid ≡ old ++ b ∷ [] → ((ps : List FlatRange) × (new ≡ mid ++ ps) × CutsInto edges f ps)
    → (qs : List FlatRange) × (new ≡ old ++ qs) × CutsInto edges r qs
cut_goes_on edges r b f edge old mid new is from h front rest =
    cut_some edges r edge old mid new rest.0 h (front ∙ ap (λ (x : FlatRange). old ++ x ∷ []) is) rest.1
    (subst (λ (x : FlatRange). CutsInto edges x rest.0) from rest.2)

-- Where the pieces lie

pub pieces_lie : (edges : List ℕ) (r : FlatRange) (ps : List FlatRange) → r.start ≤ r.last → r.offset + (r.last - r.start) < 2 ^ 64 → CutsInto edges r ps
    → IsRanges r.start (r.last + 1) ps
pieces_lie edges r [] order fits h = absurd h
pieces_lie edges r (p ∷ []) order fits h =
    subst (λ (x : FlatRange). IsRanges r.start (r.last + 1) (x ∷ [])) (sym h.0) (omega arith, order, fits, omega arith)
pieces_lie edges r (p ∷ q ∷ ps) order fits h =
    let low : r.start < q.start = h.3 in
    let high : q.start ≤ r.last = h.4 in
    let rest : IsRanges q.start (r.last + 1) (q ∷ ps) =
    pieces_lie edges (from_on r q.start) (q ∷ ps) high (omega (arith, fits, low, high)) h.5 in
    let last : q.start - 1 + 1 ≡ q.start = omega (arith, low) in
    subst (λ (x : FlatRange). IsRanges r.start (r.last + 1) (x ∷ q ∷ ps)) (sym h.0)
    (omega arith, omega (arith, low), omega (arith, fits, low, high), subst (λ (n : ℕ). IsRanges n (r.last + 1) (q ∷ ps)) (sym last) rest)

-- What the pieces show

seen_in : (r : FlatRange) (a : ℕ) (b : Bool) → holds r a ≡ b
    → seen r a ≡ cond b (Some (record { leaf = r.leaf; offset = r.offset + (a - r.start); attrs = r.attrs })) None
seen_in r a b e = ap (λ c. cond c (Some (record { leaf = r.leaf; offset = r.offset + (a - r.start); attrs = r.attrs })) None) e

split_seen : (r : FlatRange) (edge a : ℕ) → r.start < edge → edge ≤ r.last → option_or (seen (before r edge) a) (seen (from_on r edge) a) ≡ seen r a
split_seen r edge a low high = by (nat_le edge a) refl
  where
    by : (b : Bool) → nat_le edge a ≡ b → option_or (seen (before r edge) a) (seen (from_on r edge) a) ≡ seen r a
    by true is =
        let above : edge ≤ a = grind (arith, nat_tests, is) in
        let no : holds (before r edge) a ≡ false = grind (arith, nat_tests, above, low) in
        let same : holds (from_on r edge) a ≡ holds r a = grind (arith, nat_tests, above, low) in
        let offset : r.offset + (edge - r.start) + (a - edge) ≡ r.offset + (a - r.start) = omega (arith, above, low) in
        ap (λ o. option_or o (seen (from_on r edge) a)) (seen_in (before r edge) a false no)
        ∙ ap (λ b. cond b (Some (record { leaf = r.leaf; offset = r.offset + (edge - r.start) + (a - edge); attrs = r.attrs })) None) same
        ∙ ap (λ n. cond (holds r a) (Some (record { leaf = r.leaf; offset = n; attrs = r.attrs })) None) offset
    by false is =
        let below : a < edge = grind (arith, nat_tests, is) in
        let no : holds (from_on r edge) a ≡ false = grind (arith, nat_tests, below) in
        let same : holds (before r edge) a ≡ holds r a = grind (arith, nat_tests, below, low, high) in
        ap (λ o. option_or (seen (before r edge) a) o) (seen_in (from_on r edge) a false no)
        ∙ or_none (seen (before r edge) a)
        ∙ ap (λ b. cond b (Some (record { leaf = r.leaf; offset = r.offset + (a - r.start); attrs = r.attrs })) None) same

pub pieces_show : (edges : List ℕ) (r : FlatRange) (ps : List FlatRange) (a : ℕ) → CutsInto edges r ps → shown ps a ≡ seen r a
pieces_show edges r [] a h = absurd h
pieces_show edges r (p ∷ []) a h = ap (λ (x : FlatRange). option_or (seen x a) None) h.0 ∙ or_none (seen r a)
pieces_show edges r (p ∷ q ∷ ps) a h =
    ap (λ (x : FlatRange). option_or (seen x a) (shown (q ∷ ps) a)) h.0
    ∙ ap (λ o. option_or (seen (before r q.start) a) o) (pieces_show edges (from_on r q.start) (q ∷ ps) a h.5)
    ∙ split_seen r q.start a h.3 h.4

-- The pieces begin and end at edges

pub pieces_end : (edges : List ℕ) (r : FlatRange) (ps : List FlatRange) → HasEnds edges r → CutsInto edges r ps → Every (IsPiece edges) ps
pieces_end edges r [] ends h = absurd h
pieces_end edges r (p ∷ []) ends h = subst (λ (x : FlatRange). Every (IsPiece edges) (x ∷ [])) (sym h.0) (record { ends = ends; whole = h.1 }, tt)
pieces_end edges r (p ∷ q ∷ ps) ends h =
    let low : r.start < q.start = h.3 in
    let last : q.start - 1 + 1 ≡ q.start = omega (arith, low) in
    let at : HasElement edges (q.start - 1 + 1) = subst (HasElement edges) (sym last) h.2 in
    let first : HasEnds edges p = subst (HasEnds edges) (sym h.0) (ends.0, λ below. at) in
    (record { ends = first; whole = h.1 }, pieces_end edges (from_on r q.start) (q ∷ ps) (h.2, ends.1) h.5)
