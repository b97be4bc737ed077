-- Words that places have in a list, and the list with some of them cleared.
-- This project's own rule: all backing is one pool of words, and after it stand the words of the notifiers.
use Rattle.std.specs.Prelude.{ℕ, ◌-◌, ◌≤◌, List, ◌++◌, take, drop, replicate}
use Rattle.mem_base.specs.declared.access.cells.Place.{Place}
use Rattle.mem_base.specs.lists.Every.{Every}
use Rattle.mem_base.specs.access.Places.{past}

-- no place ends past this number of words
abbrev pub AreWithin : ℕ → List Place → Type 0
AreWithin count places = Every (λ p. past p ≤ count) places

-- the words, with those of a place 0
abbrev pub cleared : List ℕ → Place → List ℕ
cleared ws p = take p.start ws ++ replicate p.words 0 ++ drop (past p) ws

-- the words, with those from one index up to another 0
abbrev pub cleared_between : ℕ → ℕ → List ℕ → List ℕ
cleared_between start end ws = take start ws ++ replicate (end - start) 0 ++ drop end ws
