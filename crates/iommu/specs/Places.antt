-- The places that keep the translations of a route.
use Rattle.std.specs.Prelude.{◌≡◌, ℕ, ◌≤◌, List, [], Option, Some, None, length, take}
use Rattle.mem_base.specs.declared.map.translations.Entry.{Entry}
use Rattle.mem_base.specs.map.Limits.{most_translations}

-- the translations in the places, of which the first `count` are taken
abbrev pub taken : Option (List Entry) → ℕ → List Entry
taken None count = []
taken (Some places) count = take count places

-- there are eight places, of which at most all are taken, or none
abbrev pub AreTaken : Option (List Entry) → ℕ → Type 0
AreTaken None count = count ≡ 0
AreTaken (Some places) count = (length places ≡ most_translations) × (count ≤ most_translations)
