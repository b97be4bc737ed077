-- What a pass that is entered adds to its own entries.
use Rattle.std.specs.Prelude.{◌≡◌, ℕ, ◌+◌, ◌^◌, ◌<◌, ◌≤◌, List, [], ◌++◌, Option, Some, None}
use mathlib.Core.List.{IsPrefix}
use Rattle.mem_base.specs.declared.access.cells.WordStep.{WordStep}
use Rattle.mem_base.specs.declared.access.cells.WordStep.TheVariants.{Replace}
use Rattle.mem_base.specs.declared.machine.events.Event.{Event}
use Rattle.mem_base.specs.declared.machine.events.HistoryEntry.{HistoryEntry}
use Rattle.mem_base.specs.map.Calls.{empty}
use Rattle.mem_base.specs.machine.Actors.{own_entries}
use Rattle.generation.specs.Published.{Published, published}
use Rattle.epoch_rule.specs.declared.views.Sizes.{Sizes}
use Rattle.epoch_rule.specs.Rule.{IsLegal}
use Rattle.epoch_rule.specs.Values.{PassValue}
use Rattle.epoch_rule.specs.Wrote.{EndsWith}
use Rattle.mem_base.specs.machine.PassTurns.{entries_of}

-- the generation of a pass that is entered in one
abbrev pub generation_shown : Option Published → Published
generation_shown None = published 0 empty []
generation_shown (Some g) = g

abbrev pub generation_in : PassValue Published → Published
generation_in v = generation_shown v.edition

-- an actor's own entries grew by these; where there are none, it has seen no more than before
pub record Adds (z : Sizes) (actor : ℕ) (before new after : List HistoryEntry) : Type 0 where
  pub begins : IsPrefix before after
  pub lawful : IsLegal z before → IsLegal z after
  pub events : own_entries actor after ≡ own_entries actor before ++ new
  pub ends : EndsWith new after
  pub still : new ≡ [] → after ≡ before

-- The pass made just these events in its generation, in order, each with its reply and with the place that the generation
-- has
pub record HasMade (v : PassValue Published) (es : List Event) (replies : List ℕ) (w : PassValue Published) : Type 0 where
  pub cabinet : w.cabinet ≡ v.cabinet
  pub number : w.number ≡ v.number
  pub sizes : w.sizes ≡ v.sizes
  pub edition : w.edition ≡ v.edition
  pub adds : Adds v.sizes (v.number + 1) v.seen (entries_of (generation_in v).places es replies) w.seen

-- the step does not replace a part of a word
abbrev pub IsNotPart : WordStep → Type 0
IsNotPart (Replace first bytes value) = 8 ≤ bytes
IsNotPart step = Unit {0}

-- where the step replaces bytes, they are a whole word
abbrev pub IsWhole : WordStep → Type 0
IsWhole (Replace first bytes value) = bytes ≡ 8
IsWhole step = Unit {0}

-- some bytes of a word, from byte `first` on, and a number of that many bytes
abbrev pub IsPart : ℕ → ℕ → ℕ → Type 0
IsPart first bytes value = (0 < bytes) × (first + bytes ≤ 8) × (value < 256 ^ bytes)
