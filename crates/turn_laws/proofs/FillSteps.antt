-- A cell of a new region is cleared on both machines.
use Rattle.std.proofs.Common.{◌≡◌, ℕ, ◌+◌, ◌<◌, Bool, true, false, ◌||◌, List, [], ◌∷◌, sym, refl, ap, ◌∙◌, subst, arith, if◌then◌else◌, Some}
use Rattle.std.specs.Prelude.{slice_index, filter, ◌==◌, not}
use Rattle.std.proofs.lemmas.Bool.{eqb-true, and_parts}
use mathlib.Core.Logic.{dite}
use native.Mathlib.Decide.{ℕ_discrete}
use Rattle.mem_base.specs.declared.map.ids.RegionId.{RegionId}
use Rattle.mem_base.specs.declared.access.cells.Place.{Place}
use Rattle.mem_base.specs.declared.access.cells.Cell.{Cell}
use Rattle.mem_base.specs.declared.access.cells.WordStep.TheVariants.{Take}
use Rattle.mem_base.specs.declared.machine.events.Carried.TheVariants.{At}
use Rattle.mem_base.specs.declared.machine.events.Event.TheVariants as events
use Rattle.mem_base.specs.access.PlacesByRegion.{place_in}
use Rattle.mem_base.specs.access.Cells.{cell, is_same_cell, cells_in, blocks_after, words_after}
use Rattle.mem_base.specs.machine.Generations.{held_generations}
use Rattle.mem_base.specs.machine.Desk.{places_of}
use Rattle.mem_base.specs.machine.World.{World, touched_blocks}
use Rattle.mem_base.proofs.EveryLaws.{weaker}
use Rattle.view_laws.proofs.Tests.{same_region, same_place}
use Rattle.history_laws.proofs.OrderLaws.{order_after}
use Rattle.turn_laws.proofs.Backed.{IsBacked, waits, its_own, at_same, steps_both}
use Rattle.turn_laws.proofs.Coupled.{Stands, AllStand, Coupled, Follows}
use Rattle.turn_laws.proofs.PassSteps.{touch_there, bare_touch}

abbrev pub less_cell : Cell → List Cell → List Cell
less_cell c cells = filter (λ x. not (is_same_cell c x)) cells

-- another cell waits as before
pub others_wait : (c : Cell) (r : RegionId) (i : ℕ) → (r.0 ≡ c.region.0 → i ≡ c.word → ⊥) → (cells : List Cell) → waits (less_cell c cells) r i
    ≡ waits cells r i
others_wait c r i ne [] = refl
others_wait c r i ne (x ∷ xs) = go (is_same_cell c x) refl (others_wait c r i ne xs)
  where
    go : (b : Bool) → is_same_cell c x ≡ b → waits (less_cell c xs) r i ≡ waits xs r i
        → waits (if not b then x ∷ less_cell c xs else less_cell c xs) r i ≡ (is_same_cell (cell r i) x || waits xs r i)
    go false e rest = ap (λ (b : Bool). is_same_cell (cell r i) x || b) rest
    go true e rest = at (is_same_cell (cell r i) x) refl
      where
        at : (b : Bool) → is_same_cell (cell r i) x ≡ b → waits (less_cell c xs) r i ≡ (b || waits xs r i)
        at false z = rest
        at true z = let h = and_parts (c.region.0 == x.region.0) (c.word == x.word) e in let g = and_parts (r.0 == x.region.0) (i == x.word) z in
            absurd (ne (eqb-true _ _ g.0 ∙ sym (eqb-true _ _ h.0)) (eqb-true _ _ g.1 ∙ sym (eqb-true _ _ h.1)))

pub fewer_wait : (c : Cell) (r : RegionId) (i : ℕ) (cells : List Cell) → waits cells r i ≡ false → waits (less_cell c cells) r i ≡ false
fewer_wait c r i [] h = refl
fewer_wait c r i (x ∷ xs) h = go (is_same_cell c x) (is_same_cell (cell r i) x) refl (fewer_wait c r i xs) h
  where
    go : (b a : Bool) → is_same_cell (cell r i) x ≡ a → (waits xs r i ≡ false → waits (less_cell c xs) r i ≡ false) → (a || waits xs r i) ≡ false
        → waits (if not b then x ∷ less_cell c xs else less_cell c xs) r i ≡ false
    go b true e rest h = absurd (grind arith)
    go true false e rest h = rest h
    go false false e rest h = rw e (rest h)

pub fills : (w : World) (words : List ℕ) → Coupled w words → (c : Cell) (p : Place) → waits w.writer.desk.unfilled c.region c.word ≡ true
    → place_in (places_of w.writer.desk) c.region ≡ Some p → c.word < p.words
    → Follows w words (events.Fill c) (At p)
fills w words k c p waiting here near = let d = w.writer.desk in
    let old = steps_both (places_of d) d.unfilled w.blocks words k.backed c.region p c.word Take here near in
    let long = k.backed.long c.region p here in let wide = k.backed.inside c.region p here in
    let new : IsBacked (places_of d) (less_cell c d.unfilled) (blocks_after w.blocks c.region c.word Take)
    (words_after words (p.start + c.word) Take) = record {
      same = λ r q i is l filled. dite (ℕ_discrete r.0 c.region.0)
          (λ e. dite (ℕ_discrete i c.word)
          (λ f. subst (λ (z : RegionId). place_in (places_of d) z ≡ Some q → slice_index (cells_in (blocks_after w.blocks c.region c.word Take) z) i
          ≡ slice_index (words_after words (p.start + c.word) Take) (q.start + i)) (sym (same_region r c.region e))
          (λ is. subst (λ (z : Place × ℕ). slice_index (cells_in (blocks_after w.blocks c.region c.word Take) c.region) z.1 ≡ slice_index
          (words_after words (p.start + c.word) Take) (z.0.start + z.1))
          (λ j. (same_place p q (sym here ∙ is) j, sym f j))
          (ap (λ (ws : List ℕ). slice_index ws c.word) (its_own w.blocks c.region c.word Take (omega arith))
          ∙ at_same (cells_in w.blocks c.region) c.word Take (omega arith) ∙ sym (at_same words (p.start + c.word) Take (omega arith)))) is)
          (λ ne. old.same r q i is l (sym (others_wait c r i (λ x y. ne y) d.unfilled) ∙ filled)))
          (λ ne. old.same r q i is l (sym (others_wait c r i (λ x y. ne x) d.unfilled) ∙ filled));
      long = old.long;
      inside = old.inside;
      apart = old.apart;
    } in record {
      may = waiting;
      tells = refl;
      leads = refl;
      coupled = record {
        backed = subst (λ o. IsBacked (places_of d) (less_cell c d.unfilled) (touched_blocks w.blocks (Some c.region) o)
            (words_after words (p.start + c.word) Take)) (sym (touch_there w (events.Fill c) c.region p _ here refl)) new;
        held = weaker (AllStand (places_of d) d.unfilled) (AllStand (places_of d) (less_cell c d.unfilled))
            (λ e t. weaker (Stands (places_of d) d.unfilled e) (Stands (places_of d) (less_cell c d.unfilled) e)
            (λ q s. record { whole = s.whole; named = s.named; filled = λ i. fewer_wait c q.region i d.unfilled (s.filled i) }) e.places t)
            (held_generations w.writer.generations) k.held;
        whole = k.whole;
        low = k.low;
        still = λ on. ap (less_cell c) (k.still on);
        bare = bare_touch w words k (events.Fill c) c.region p _ here refl;
        order = order_after w k.order (events.Fill c) _ waiting refl;
      };
    }
