-- The generations of the tests are editions.
use Rattle.std.proofs.Common.{◌≡◌, ℕ, zero, suc, true, ne_eqb, [], ◌∷◌, length, refl}
use Rattle.std.proofs.Common.{inl, arith}
use Rattle.mem_base.specs.map.Calls.{empty}
use Rattle.mem_base.specs.map.Search as search
use Rattle.mem_base.specs.views.LiveEvents.{events_of}
use Rattle.mem_base.specs.views.Naming.{names}
use Rattle.mem_base.specs.access.EditionPlaces.{IsEdition}
use Rattle.view_laws.specs.Named.{ShowsEvents}
use Rattle.view_laws.proofs.NamingLaws.{names_leaves}
use Rattle.view_laws.proofs.ShownEvents.{events_shown}
use Rattle.machine_tests.specs.Boards.{ram_region, ram_space, ram_calls, ram_forest, ram_place, forest_of, places_of}

empty_edition : IsEdition empty []
empty_edition = record {
  made = record { calls = []; fitting = tt; made = refl };
  pool_words = 0;
  places_of = record { each = tt; regions = tt; notifying = λ e. absurd (grind arith); apart = tt };
}

ram_named : names ram_forest ram_region ≡ true
unfolding search.found_in
ram_named = (names_leaves ram_forest ram_region).1 (ram_space, 0, omega arith, refl)

no_events : (n : ℕ) → length (events_of ram_forest (record { 0 = n })) ≡ 0
no_events zero = refl
no_events (suc n) = rw (ne_eqb 0 (suc n) (λ z. omega arith)) refl

no_event : ShowsEvents ram_forest → ⊥
no_event s = let h = s.2 in let none = no_events s.0.0 in omega arith

ram_edition : IsEdition ram_forest (ram_place ∷ [])
ram_edition = record {
  made = record { calls = ram_calls; fitting = (omega arith, (tt, tt)); made = refl };
  pool_words = 32771;
  places_of = record {
    each = (inl record { named = ram_named; fits = refl; nonempty = omega arith; within = omega arith }, tt);
    regions = ((λ n some. refl), tt);
    notifying = λ e. absurd (no_event ((events_shown ram_forest).0 e));
    apart = (tt, tt);
  };
}

pub board_edition : (number : ℕ) → IsEdition (forest_of number) (places_of number)
board_edition zero = empty_edition
board_edition (suc n) = ram_edition
