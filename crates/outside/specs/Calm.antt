-- What the ends that never fail have, keep and hold.
use Rattle.std.specs.Prelude.{ℕ, ◌≡◌, ◌-◌, List, Option, Some, None, true, if◌then◌else◌, vec_len, vec_capacity}
use Rattle.outside.specs.declared.calm.CalmSource.{CalmSource}
use Rattle.outside.specs.declared.calm.CalmSink.{CalmSink}
use Rattle.outside.specs.Remainder.{bytes_left}

-- the bytes that are left
abbrev pub calm_left : CalmSource → List ℕ
calm_left s = bytes_left s.rest

-- the bytes that are in the buffer
abbrev pub calm_kept : CalmSink → List ℕ
calm_kept s = s.buffer.now.items

-- how many more bytes the buffer has room for
abbrev pub calm_room : CalmSink → ℕ
calm_room s = vec_capacity s.buffer.now - vec_len s.buffer.now

-- all that was taken is in the buffer
abbrev pub IsWhole : CalmSink → Type 0
IsWhole s = s.is_whole ≡ true

-- the bytes taken, as long as all of them are in the buffer
abbrev pub calm_written : CalmSink → Option (List ℕ)
calm_written s = if s.is_whole then Some (calm_kept s) else None

-- the bytes taken are this text, as far as that is known
abbrev pub CalmHolds : CalmSink → List ℕ → Type 0
CalmHolds s text = IsWhole s → text ≡ calm_kept s
