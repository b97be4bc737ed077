-- The cells of a region that is made are 0, and those of the others stay.
use Rattle.std.proofs.Common.{◌≡◌, ◌≢◌, ℕ, ◌+◌, ◌<◌, ◌≤◌, Bool, true, false, List, [], ◌∷◌, ◌++◌, map, length}
use Rattle.std.proofs.Common.{Option, Some, None, refl, sym, ap, subst, ◌∙◌, arith, append-nil, ne_eqb, eq-eqb}
use Rattle.std.specs.Prelude.{◌==◌, if◌then◌else◌, flat_map, IfSome}
use Rattle.mem_base.specs.declared.map.ids.RegionId.{RegionId}
use Rattle.mem_base.specs.declared.map.forests.Forest.{Forest}
use Rattle.mem_base.specs.declared.map.calls.Call.TheVariants as calls
use Rattle.mem_base.specs.declared.map.calls.Applied.{Applied}
use Rattle.mem_base.specs.declared.map.calls.Applied.TheVariants.{Made, Done}
use Rattle.mem_base.specs.declared.map.calls.Config.{Config}
use Rattle.mem_base.specs.declared.map.calls.Config.TheVariants as configs
use Rattle.mem_base.specs.declared.access.cells.Place.{Place}
use Rattle.mem_base.specs.declared.access.cells.Cell.{Cell}
use Rattle.mem_base.specs.lists.Every.{Every}
use Rattle.mem_base.specs.map.Limits.{notifier_count, most_made}
use Rattle.mem_base.specs.access.Places.{Extent, extent_of, words_of, place_from, first_fit, notifiers_place, past, is_notifiers}
use Rattle.mem_base.specs.access.PlacesByRegion.{place_in}
use Rattle.mem_base.specs.access.Cells.{Block}
use Rattle.mem_base.specs.machine.Desk.{cells_of}
use Rattle.mem_base.specs.machine.World.{block_for}
use Rattle.mem_base.proofs.EveryLaws.{weaker}
use Rattle.history_laws.specs.BackedForests.{BacksForest}
use Rattle.mem_base.specs.access.PlaceCells.{blocks_at}
use Rattle.place_words.specs.Blocks.{AreWithin}
use Rattle.place_words.proofs.CellLaws.{new_cleared, places_keep, all_have}
use Rattle.backing_pool.specs.Backing.{Backing}
use Rattle.transact.specs.Backed.{BackedState, all_places, backing_at, places_for, forest_at}
use Rattle.writer_desk.specs.Writers.{backing_by, applied_by}
use Rattle.writer_desk.specs.Writers.{made_place}
use Rattle.world_core.specs.Worlds.{cleared_at}
use Rattle.world_core.specs.Events.{makes_region}
use Rattle.place_words.specs.Unfilled.{cells_at}
use Rattle.world_hand.proofs.Completing.{all_apart, all_within}
use Rattle.writer_run.proofs.MadeLaws.{unfilled_with}
use Rattle.mem_base.proofs.PlaceLaws.{found_has}

-- a region that none of these places is of
abbrev AreOthers : RegionId → List Place → Type 0
AreOthers r places = Every (λ q. q.region.0 ≢ r.0) places

no_place : (r : RegionId) (qs : List Place) → AreOthers r qs → place_in qs r ≡ None
no_place r [] h = refl
no_place r (q ∷ qs) h = rw (ne_eqb q.region.0 r.0 h.0) (no_place r qs h.1)

last_place : (p : Place) (qs : List Place) → AreOthers p.region qs → place_in (qs ++ p ∷ []) p.region ≡ Some p
last_place p [] h = rw (eq-eqb p.region.0 p.region.0 refl) refl
last_place p (q ∷ qs) h = rw (ne_eqb q.region.0 p.region.0 h.0) (last_place p qs h.1)

module _ (ws : List ℕ) (s : BackedState) (wide : length ws ≡ s.backing.pool_words + notifier_count)
    (f : Forest) (back : BacksForest s.backing.pool_words f s.backing.places)
    (few : (forest_at s).made ≤ most_made) (below : Every (λ p. p.region.0 < (forest_at s).made) s.backing.places) where
  abbrev made : RegionId
  made = record { 0 = (forest_at s).made }

  abbrev blocks : List Block
  blocks = blocks_at ws (all_places s.backing)

  -- what the pool, the answer and the cells that are not cleared yet tell of the words
  pub record Clears (n : Backing) (a : Applied) (unfilled : List Cell) : Type 0 where
    pub room : IfSome (made_place n.places a) (λ p. past p ≤ length ws)
    pub cells : map (block_for blocks) (all_places n) ≡ blocks_at (cleared_at ws (made_place n.places a)) (all_places n)
    pub left : unfilled ≡ cells_at (made_place n.places a)

  others : AreOthers made s.backing.places
  others = weaker (λ p. p.region.0 < (forest_at s).made) (λ p. p.region.0 ≢ made.0) (λ p l e. omega arith) s.backing.places below

  pub same_cells : map (block_for blocks) (all_places s.backing) ≡ blocks
  same_cells = places_keep ws (all_places s.backing) (all_places s.backing)
      (all_apart s.backing.pool_words s.backing.places back.inside back.apart) (all_have (all_places s.backing))

  -- where no region is made with words
  none_made : (a : Applied) → made_place s.backing.places a ≡ None → Clears s.backing a []
  none_made a none = record {
    room = subst (λ (o : Option Place). IfSome o (λ p. past p ≤ length ws)) (sym none) tt;
    cells = same_cells ∙ ap (λ (o : Option Place). blocks_at (cleared_at ws o) (all_places s.backing)) (sym none);
    left = ap (λ (o : Option Place). cells_at o) (sym none);
  }

  without_words : (a : Applied) → made_place s.backing.places a ≡ None → Clears (backing_at s.backing.pool_words (s.backing.places ++ [])) a []
  without_words a none = subst (λ (ps : List Place). Clears (backing_at s.backing.pool_words ps) a []) (sym (append-nil s.backing.places))
      (none_made a none)

  with_words : (p : Place) → p.region ≡ made → (g : Forest) → BacksForest s.backing.pool_words g (s.backing.places ++ p ∷ [])
      → Clears (backing_at s.backing.pool_words (s.backing.places ++ p ∷ [])) (Made p.region) (cells_of p ++ [])
  with_words p is g new =
      let strange : AreOthers p.region s.backing.places = subst (λ (r : RegionId). AreOthers r s.backing.places) (sym is) others in
      let found : place_in (s.backing.places ++ p ∷ []) p.region ≡ Some p = last_place p s.backing.places strange in
      let inside : past p ≤ s.backing.pool_words =
      found_has (λ q. past q ≤ s.backing.pool_words) (s.backing.places ++ p ∷ []) p.region p
      (weaker (λ q. (is_notifiers q.region ≡ false) × (0 < q.words) × (past q ≤ s.backing.pool_words)) (λ q. past q ≤ s.backing.pool_words) (λ q k. k.2)
      (s.backing.places ++ p ∷ []) new.inside) found in
      let within : AreWithin (length ws) ((s.backing.places ++ p ∷ []) ++ notifiers_place s.backing.pool_words ∷ []) =
      subst (λ (n : ℕ). AreWithin n ((s.backing.places ++ p ∷ []) ++ notifiers_place s.backing.pool_words ∷ [])) (sym wide)
      (all_within s.backing.pool_words (s.backing.places ++ p ∷ []) new.inside) in record {
        room = subst (λ (o : Option Place). IfSome o (λ q. past q ≤ length ws)) (sym found) (omega (arith, inside, wide));
        cells = new_cleared ws s.backing.places (notifiers_place s.backing.pool_words ∷ []) p within
            (all_apart s.backing.pool_words (s.backing.places ++ p ∷ []) new.inside new.apart)
            ∙ ap (λ (o : Option Place). blocks_at (cleared_at ws o) ((s.backing.places ++ p ∷ []) ++ notifiers_place s.backing.pool_words ∷ []))
            (sym found);
        left = append-nil (cells_of p) ∙ ap (λ (o : Option Place). cells_at o) (sym found);
      }

  region : (x : Extent) (z : Bool) (o : Option ℕ) → let ps = if z then [] else places_for s.backing made x o in
      (g : Forest) → BacksForest s.backing.pool_words g (s.backing.places ++ ps)
      → Clears (backing_at s.backing.pool_words (s.backing.places ++ ps)) (Made made) ([] ++ flat_map cells_of ps)
  region x true o g new = without_words (Made made) (no_place made s.backing.places others)
  region x false None g new = without_words (Made made) (no_place made s.backing.places others)
  region x false (Some start) g new = with_words (place_from made start x) refl g new

  pub clears : (c : Config) (g : Forest) → BacksForest (backing_by s c).pool_words g (backing_by s c).places
      → Clears (backing_by s c) (applied_by s c) (unfilled_with s c)
  clears (configs.Call (calls.Region kind size)) g new = let x = extent_of kind size in
      region x (words_of x == 0) (first_fit s.backing.pool_words s.backing.places (words_of x)) g new
  clears (configs.Call (calls.Drop r)) g new = without_words Done refl
  clears (configs.Call (calls.Space space root)) g new = without_words Done refl
  clears (configs.Call (calls.Add parent offset child priority)) g new = without_words Done refl
  clears (configs.Call (calls.Del parent child)) g new = without_words Done refl
  clears (configs.Call (calls.Move child offset)) g new = without_words Done refl
  clears (configs.Call (calls.Resize r size)) g new = without_words Done refl
  clears (configs.Call (calls.Retarget alias offset)) g new = without_words Done refl
  clears (configs.Call (calls.Enable r on)) g new = without_words Done refl
  clears (configs.Call (calls.Readonly r on)) g new = without_words Done refl
  clears (configs.Call (calls.Nonvolatile r on)) g new = without_words Done refl
  clears (configs.Call (calls.Unmergeable r on)) g new = without_words Done refl
  clears (configs.Call (calls.Romd r on)) g new = without_words Done refl
  clears (configs.Call (calls.Log r client on)) g new = without_words Done refl
  clears (configs.Call (calls.Global on)) g new = without_words Done refl
  clears (configs.Call (calls.Map r iova size space translated perm)) g new = without_words Done refl
  clears (configs.Call (calls.Unmap r iova)) g new = without_words Done refl
  clears (configs.Call (calls.Event r event)) g new = without_words Done refl
  clears (configs.Call (calls.Unevent r offset size matched value)) g new = without_words Done refl
  clears _ g new = none_made Done refl

-- only a call that makes a region gives one a place
module _ (s : BackedState) (places : List Place) where
  any_way : (o : Option Place) → IfSome o (λ p. true ≡ true)
  any_way None = tt
  any_way (Some p) = refl

  pub made_only : (c : Config) → IfSome (made_place places (applied_by s c)) (λ p. makes_region c ≡ true)
  made_only (configs.Call (calls.Region kind size)) = any_way (made_place places (applied_by s (configs.Call (calls.Region kind size))))
  made_only (configs.Call (calls.Drop r)) = tt
  made_only (configs.Call (calls.Space space root)) = tt
  made_only (configs.Call (calls.Add parent offset child priority)) = tt
  made_only (configs.Call (calls.Del parent child)) = tt
  made_only (configs.Call (calls.Move child offset)) = tt
  made_only (configs.Call (calls.Resize r size)) = tt
  made_only (configs.Call (calls.Retarget alias offset)) = tt
  made_only (configs.Call (calls.Enable r on)) = tt
  made_only (configs.Call (calls.Readonly r on)) = tt
  made_only (configs.Call (calls.Nonvolatile r on)) = tt
  made_only (configs.Call (calls.Unmergeable r on)) = tt
  made_only (configs.Call (calls.Romd r on)) = tt
  made_only (configs.Call (calls.Log r client on)) = tt
  made_only (configs.Call (calls.Global on)) = tt
  made_only (configs.Call (calls.Map r iova size space translated perm)) = tt
  made_only (configs.Call (calls.Unmap r iova)) = tt
  made_only (configs.Call (calls.Event r event)) = tt
  made_only (configs.Call (calls.Unevent r offset size matched value)) = tt
  made_only _ = tt
