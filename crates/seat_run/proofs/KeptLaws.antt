-- The generations that the writer's seat keeps.
use Rattle.std.proofs.Common.{◌≡◌, ℕ, zero, suc, ◌≤◌, Bool, List, [], ◌∷◌, ◌++◌, length, map, take, refl, sym, ap, ◌∙◌, append-nil, arith}
use Rattle.std.specs.Prelude.{◌||◌}
use Rattle.std.specs.List.{list_any}
use Rattle.mem_base.specs.declared.map.ids.RegionId.{RegionId}
use Rattle.mem_base.specs.declared.access.cells.Place.{Place}
use Rattle.mem_base.specs.declared.machine.events.HistoryEntry.{HistoryEntry}
use Rattle.mem_base.specs.views.Naming.{names}
use Rattle.mem_base.specs.declared.machine.events.Hand.TheVariants as hands
use Rattle.mem_base.specs.machine.Actors.{own_entries, generations_after_all}
use Rattle.mem_base.specs.machine.Desk.{cells_of}
use Rattle.mem_base.specs.machine.Generations.{Generation, Generations, first_generations, generation}
use Rattle.mem_base.specs.machine.Orders.{pass_ids}
use Rattle.generation.specs.Published.{Published}
use Rattle.epoch_rule.specs.Calls.{generations_in_seen}
use Rattle.epoch_rule.specs.Values.{WriterValue}
use Rattle.epoch_rule.specs.Wrote.{Wrote}
use Rattle.writer_hand.specs.Hands.{IsPublished, cleared, swept}
use Rattle.writer_hand.proofs.EntryLaws.{after_both, fills_keep, published_by, publishes_leave, sweeps_keep}
use Rattle.seat_run.specs.Recents.{is_named_in, shown_by}
use Rattle.seat_run.specs.Written.{HasWritten}
use Rattle.seat_run.specs.WrittenLaws.{generations_go}

-- what each step leaves of the generations that are kept

module _ (v w : WriterValue) where
  abbrev g : Generations
  g = generations_in_seen v.sizes v.seen

  abbrev h : Generations
  h = generations_in_seen w.sizes w.seen

  pub swept_kept : (found : List ℕ) → HasWritten v (swept g found) w → h.kept ≡ g.kept
  swept_kept found made = ap (λ (x : Generations). x.kept) (generations_go v w (swept g found) made) ∙ (sweeps_keep (pass_ids g) g found).kept

  pub published_kept : (x : Published) → IsPublished g x (λ xs. HasWritten v xs w) → h.kept ≡ generation x.forest x.places ∷ take 7 g.kept
  published_kept x u =
      let all : List HistoryEntry = published_by x (pass_ids g) u.replies in
      ap (λ (y : Generations). y.kept) (generations_go v w (swept g u.found ++ all) u.made ∙ after_both (swept g u.found) all g)
      ∙ (publishes_leave x (pass_ids g) (generations_after_all g (swept g u.found)) u.replies).kept
      ∙ ap (λ (ks : List Generation). generation x.forest x.places ∷ take 7 ks) (sweeps_keep (pass_ids g) g u.found).kept

  pub filled_kept : (p : Place) → HasWritten v (cleared p) w → h.kept ≡ g.kept
  filled_kept p made = ap (λ (x : Generations). x.kept) (generations_go v w (cleared p) made ∙ fills_keep p (cells_of p) [] g)

  -- where the writer made no entry
  pub still_kept : w.sizes ≡ v.sizes → own_entries 0 w.seen ≡ own_entries 0 v.seen → h.kept ≡ g.kept
  still_kept sizes own = λ i. (generations_after_all (first_generations (sizes i).passes) (own i)).kept

  pub nothing_written : w.sizes ≡ v.sizes → Wrote hands.Writer v.sizes v.seen [] w.seen → h.kept ≡ g.kept
  nothing_written sizes wrote = still_kept sizes (wrote.events ∙ append-nil (own_entries 0 v.seen))

-- lists of generations

module _ {A : Type 0} (f : A → Published) (region : RegionId) where
  pub any_shown : (xs : List A) → list_any (λ (x : Generation). names x.forest region) (map shown_by (map f xs)) ≡ list_any (λ x. names
      (f x).forest region) xs
  any_shown [] = refl
  any_shown (x ∷ xs) = ap (λ (b : Bool). names (f x).forest region || b) (any_shown xs)

  take_shown : (n : ℕ) (xs : List A) → take n (map shown_by (map f xs)) ≡ map shown_by (map f (take n xs))
  take_shown zero [] = refl
  take_shown zero (x ∷ xs) = refl
  take_shown (suc n) [] = refl
  take_shown (suc n) (x ∷ xs) = ap (λ (ys : List Generation). shown_by (f x) ∷ ys) (take_shown n xs)

  take_all : (n : ℕ) (xs : List A) → length xs ≤ n → take n xs ≡ xs
  take_all zero [] l = refl
  take_all (suc n) [] l = refl
  take_all zero (x ∷ xs) l = absurd (omega (arith, l))
  take_all (suc n) (x ∷ xs) l = let less : length xs ≤ n = omega (arith, l) in ap (λ (ys : List A). x ∷ ys) (take_all n xs less)

  abbrev any_first : ℕ → List A → Bool
  any_first n xs = list_any (λ (x : Generation). names x.forest region) (take n (map shown_by (map f xs)))

  -- some of the first, and all of them

  pub first_named : (n m : ℕ) (xs ys : List A) (zs : List Generation) (b : Bool) → b ≡ list_any (λ x. is_named_in region (f x)) ys → ys ≡ take m xs
      → map shown_by (map f xs) ≡ zs → n ≡ m → b ≡ list_any (λ (x : Generation). names x.forest region) (take n zs)
  first_named n m xs ys zs b told is seen e =
      told ∙ ap (λ (us : List A). list_any (λ x. is_named_in region (f x)) us) is
      ∙ sym (any_shown (take m xs))
      ∙ ap (λ (us : List Generation). list_any (λ (x : Generation). names x.forest region) us) (sym (take_shown m xs))
      ∙ (λ i. list_any (λ (x : Generation). names x.forest region) (take (sym e i) (seen i)))

  pub all_named : (n : ℕ) (xs ys : List A) (zs : List Generation) (b : Bool) → b ≡ list_any (λ x. is_named_in region (f x)) ys → ys ≡ xs
      → map shown_by (map f xs) ≡ zs → length ys ≤ n → b ≡ list_any (λ (x : Generation). names x.forest region) (take n zs)
  all_named n xs ys zs b told is seen l =
      first_named n n xs ys zs b told (sym (take_all n ys l) ∙ ap (λ (us : List A). take n us) is) seen refl
