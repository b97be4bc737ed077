-- What is kept in the writer's seat.
use Rattle.std.specs.Prelude.{◌≡◌, ℕ, false, List, [], length, map, Bool, Some}
use Rattle.atomic_table.specs.Seated.{TableId}
use Rattle.atomic_table.specs.Table.{Me}
use Rattle.mem_base.specs.machine.Generations.{PassTrack, known_of, pin_word}
use Rattle.epoch_rule.specs.declared.views.View.{View}
use Rattle.epoch_rule.specs.declared.writers.Found.{Found}
use Rattle.mem_base.specs.machine.Passes.{pass_id}
use Rattle.epoch_rule.specs.Rule.{IsLegal, generations_seen}
use Rattle.epoch_rule.specs.Copies.{Suits}

-- what is stored of a pass
abbrev pub stored : PassTrack → Found
stored k = record { word = pin_word k.found; lowest = k.lowest }

-- What is stored is what the writer's own entries make of the generations; the writer holds no slot, and no pass has its
-- copy of the next generation
pub record IsWriting {S : Type 0} (t : TableId) (me : Me S View) (current : ℕ) (known : List Found) (out : List Bool) : Type 0 where
  pub role : me.0.role ≡ Some 0
  pub free : me.0.held ≡ 0
  pub bare : me.1 ≡ []
  pub suits : Suits t me.0.sizes
  pub is_current : current ≡ (generations_seen me.0).current
  pub is_known : known ≡ map stored (generations_seen me.0).passes
  pub many : length (generations_seen me.0).passes ≡ me.0.sizes.passes
  pub unplaced : (v : ℕ) → (known_of (generations_seen me.0) (pass_id v)).placed ≡ false
  pub is_out : out ≡ me.0.out
  pub outs : length out ≡ me.0.sizes.passes
  pub lawful : IsLegal me.0.sizes me.0.seen
