-- What a walk does to the view that it begins from.
use Rattle.std.specs.Prelude.{◌≡◌, ℕ, List, Some}
use Rattle.mem_base.specs.declared.views.flat.FlatRange.{FlatRange}
use Rattle.mem_base.specs.views.View.{IsRanges}
use Rattle.mem_base.specs.views.Walk.{walk}
use Rattle.mem_base.specs.views.Replay.{ranges_after_all}

-- a walk from one view to another, replayed on the one, fits call by call and gives the other
abbrev pub WalkReplays : Type 0
WalkReplays = (from end : ℕ) (old new : List FlatRange) → IsRanges from end old → IsRanges from end new →
    ranges_after_all (Some old) (walk old new) ≡ Some new
