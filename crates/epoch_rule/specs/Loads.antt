-- Loads of words in a row by a pass that is entered.
use Rattle.std.specs.Prelude.{◌≡◌, ℕ, ◌+◌, false, true, List, [], ◌∷◌, ◌++◌}
use Rattle.std.specs.List.{list_any}
use Rattle.mem_base.specs.declared.map.forests.Forest.{Forest}
use Rattle.mem_base.specs.declared.access.cells.Place.{Place}
use Rattle.mem_base.specs.declared.access.cells.WordStep.TheVariants.{Load}
use Rattle.mem_base.specs.declared.machine.events.Hand.{Hand}
use Rattle.mem_base.specs.declared.machine.events.Hand.TheVariants as hands
use Rattle.mem_base.specs.declared.machine.events.Event.TheVariants.{Word}
use Rattle.mem_base.specs.declared.machine.events.Carried.TheVariants.{At}
use Rattle.mem_base.specs.declared.machine.events.HistoryEntry.{HistoryEntry}
use Rattle.mem_base.specs.access.Cells.{cell}
use Rattle.mem_base.specs.access.EditionPlaces.{IsEdition}
use Rattle.mem_base.specs.access.Words.{bytes_of}
use Rattle.mem_base.specs.machine.Passes.{pass_id}
use Rattle.mem_base.specs.machine.SharedHistory.{is_same_place}
use Rattle.mem_base.specs.machine.Turns.{history_entry}
use Rattle.epoch_rule.specs.declared.views.Sizes.{Sizes}
use Rattle.epoch_rule.specs.declared.views.View.{View}
use Rattle.epoch_rule.specs.Copies.{IsEnteredIn}
use Rattle.epoch_rule.specs.Rule.{pass_seen}
use Rattle.epoch_rule.specs.Wrote.{Adds}

-- one load of each word of a place in a row, from a word on, ascending: these are the values that the words had
abbrev pub loads_of : Hand → Place → ℕ → List ℕ → List HistoryEntry
loads_of hand p word [] = []
loads_of hand p word (r ∷ rs) = history_entry (Word hand (cell p.region word) Load) (At p) r ∷ loads_of hand p (word + 1) rs

-- the bytes of words in a row: eight of each, the lowest first
abbrev pub bytes_in : List ℕ → List ℕ
bytes_in [] = []
bytes_in (r ∷ rs) = bytes_of r 8 false ++ bytes_in rs

-- The pass loaded the words of a place from a word on, each once, ascending, and these are their bytes. It added these
-- loads to its own entries, and no others
pub record HasLoaded (z : Sizes) (number : ℕ) (p : Place) (word : ℕ) (before : List HistoryEntry) (bytes : List ℕ) (after : List HistoryEntry) : Type 0 where
  pub values : List ℕ
  pub shown : bytes ≡ bytes_in values
  pub adds : Adds z (number + 1) before (loads_of (hands.Pass (pass_id number)) p word values) after

-- the pass is entered in an edition that carries the place
pub record IsAtPlace {E : Type 0} (number : E → ℕ) (forest : E → Forest) (places : E → List Place) (p : ℕ) (v : View) (at : Place) : Type 0 where
  pub edition : E
  pub entered : IsEnteredIn number forest places p v edition
  pub law : IsEdition (forest edition) (places edition)
  pub carried : list_any (is_same_place at) (places edition) ≡ true

-- the pass stands where it stood
abbrev pub StaysPass : ℕ → View → View → Type 0
StaysPass p v w = (w.role ≡ v.role) × (w.sizes ≡ v.sizes) × (pass_seen p w ≡ pass_seen p v)
