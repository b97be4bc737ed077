-- No two marks of a place share a bit.
use Rattle.std.specs.Prelude.{◌≡◌, ℕ, ◌<◌}
use Rattle.mem_base.specs.declared.map.kinds.Client.{Client}
use Rattle.mem_base.specs.declared.access.cells.Place.{Place}
use Rattle.mem_base.specs.access.Places.{pages_in, word_of_page, bit_of_page}

-- two pages of a place that have one mark word and one bit there are one page, marked for one client
abbrev pub MarksAreApart : Type 0
MarksAreApart = (place : Place) (c d : Client) (p q : ℕ) → p < pages_in place → q < pages_in place →
    word_of_page place c p ≡ word_of_page place d q → bit_of_page p ≡ bit_of_page q → (c ≡ d) × (p ≡ q)
