-- What the calls of windows do.
use Rattle.std.specs.Prelude.{◌≡◌, ℕ, ◌+◌, ◌<◌, ◌≤◌, ◌||◌, Bool, true, false, not, if◌then◌else◌, MatchBool, max, List, [], ◌++◌, length, take, drop}
use Rattle.std.specs.Prelude.{replicate, is_some, Option, None, option_map}
use Rattle.mem_base.specs.declared.access.accesses.TxResult.{TxResult}
use Rattle.mem_base.specs.access.AccessSteps.{reading, writing, AccessStep, result_of}
use Rattle.mem_base.specs.machine.Passes.{pass_id}
use Rattle.mem_base.specs.machine.Composites.{enters_unless, leaves_unless}
use Rattle.mem_base.specs.machine.Generations.{Generation}
use Rattle.generation.specs.Published.{Published}
use Rattle.epoch_rule.specs.Values.{PassValue}
use Rattle.epoch_rule.specs.Wrote.{Made}
use Rattle.epoch_rule.specs.Copies.{ShowsPublished}
use Rattle.access_run.specs.Runs.{HasDone}
use Rattle.mem_base.specs.machine.PassTurns.{entries_of}
use Rattle.vcpu_pass.specs.Entries.{replies_around}
use Rattle.vcpu_pass.specs.Steps.{HasMade, generation_in}
use Rattle.vcpu_pass.specs.Around.{HasBegun, HasEnded}
use Rattle.vcpu_pass.specs.Calls.{GoesBy, generation_of, is_entered}
use Rattle.mem_base.specs.declared.access.accesses.WindowStart.{WindowStart}
use Rattle.mem_base.specs.access.Windows.{is_direct, target_at, window_length, part_steps, opening_steps, closing_steps, closing_result}
use Rattle.io_window.specs.Windows.{WindowValue, forest_of, number_of, held_in, room_of}

-- the pass, entered in its generation, did just these steps, and these bytes are what their replies give
abbrev pub Does : PassValue Published → List AccessStep → List ℕ → PassValue Published → Type 0
Does v ds bytes w = HasDone HasMade (pass_id v.number) v ds bytes w

-- A window stands for `asked` bytes from where it begins, by a pass that looked in its generation: it is direct, and as long, as the forest
-- gives. Where it is not direct a bounce was handed in; that of a window which is read was filled at once, and that of one
-- which is written holds zeros
pub record IsOpened (looked : PassValue Published) (stays : Bool) (s : WindowStart) (asked : ℕ) (handed : Option ℕ) (w : WindowValue) : Type 0 where
  pub filled : Does looked (opening_steps (forest_of w) s w.direct w.len) (if w.direct || s.write then [] else take w.len (held_in w.buffer)) w.pass
  pub kept : w.stays ≡ stays
  pub start : w.start ≡ s
  pub direct : w.direct ≡ is_direct (forest_of w) s
  pub len : w.len ≡ window_length (forest_of w) s asked (length (held_in w.buffer))
  pub some : 0 < w.len
  pub most : w.len ≤ asked
  pub nothing_put : w.put_end ≡ 0
  pub room : room_of w.buffer ≡ handed
  pub bounced : (w.direct || is_some w.buffer) ≡ true
  pub zeros : (w.direct || not s.write) ≡ false → take w.len (held_in w.buffer) ≡ replicate w.len 0
  pub filling : w.filling ≡ result_of (opening_steps (forest_of w) s w.direct w.len)

-- A window was opened by a virtual CPU, which entered where it was not entered; the generation in which it looked is the one that the
-- Publish of its number carried
pub record HasOpened (v : PassValue Published) (s : WindowStart) (asked : ℕ) (handed : Option ℕ) (w : WindowValue) : Type 0 where
  pub looked : PassValue Published
  pub begun : HasBegun (is_entered v) v looked
  pub shown : ShowsPublished (λ x. x.number) (λ x. x.forest) (λ x. x.places) looked.seen (generation_in looked)
  pub opened : IsOpened looked (is_entered v) s asked handed w

-- No window was opened: it would not be direct in the generation of this number, and no bounce was handed in. No word was touched,
-- and the virtual CPU is entered exactly where it was
pub record HasNoBounceBy (x : Generation) (v : PassValue Published) (s : WindowStart) (handed : Option ℕ) (number : ℕ) (w : PassValue Published) : Type 0 where
  pub goes_by : GoesBy v number w
  pub none : handed ≡ None
  pub indirect : is_direct x.forest s ≡ false
  pub looked : ℕ
  pub made : Made v (entries_of x.places (enters_unless (is_entered v) (pass_id v.number) ++ leaves_unless (is_entered v) (pass_id v.number))
      (replies_around (is_entered v) looked number [])) w

abbrev pub HasNoBounce : PassValue Published → WindowStart → Option ℕ → ℕ → PassValue Published → Type 0
HasNoBounce v s handed number w = HasNoBounceBy (generation_of w number) v s handed number w

-- the window with its pass further on, and nothing else changed
abbrev pub with_pass : WindowValue → PassValue Published → WindowValue
with_pass w pass = record w { pass = pass }

-- Bytes from `at` on were got: from a direct window by one load of each word that they lie in, and else from the bounce
abbrev pub HasGot : WindowValue → ℕ → List ℕ → WindowValue → Type 0
HasGot w at bytes u =
    (u ≡ with_pass w u.pass)
    × MatchBool w.direct (Does w.pass (part_steps (target_at (forest_of w) w.start) at (reading (length bytes))) bytes u.pass)
    ((u.pass ≡ w.pass) × (bytes ≡ take (length bytes) (drop at (held_in w.buffer))))

-- some bytes with others put in at a place
abbrev pub put_in : ℕ → List ℕ → List ℕ → List ℕ
put_in at bytes held = take at held ++ (bytes ++ drop (at + length bytes) held)

-- the window with its pass further on, some bytes put, and its bounce as it is then
abbrev pub with_put : WindowValue → PassValue Published → ℕ → Option (List ℕ) → WindowValue
with_put w pass end buffer = record w { pass = pass; put_end = max w.put_end end; buffer = buffer }

-- Bytes were put from `at` on: into a direct window by one step on each word that they lie in, which replaces those that they
-- are, and else into the bounce, whose room stays
abbrev pub HasPut : WindowValue → ℕ → List ℕ → WindowValue → Type 0
HasPut w at bytes u =
    (u ≡ with_put w u.pass (at + length bytes) u.buffer) × (room_of u.buffer ≡ room_of w.buffer)
    × MatchBool w.direct ((u.buffer ≡ w.buffer) × Does w.pass (part_steps (target_at (forest_of w) w.start) at (writing bytes)) [] u.pass)
    ((u.pass ≡ w.pass) × (u.buffer ≡ option_map (put_in at bytes) w.buffer))

-- A window was closed with its first `used` bytes used: its pass did what closing does, and left unless the virtual CPU was entered
-- before the window was opened; the bounce that was handed in came back
pub record HasClosed (w : WindowValue) (used : ℕ) (v : PassValue Published) (handed : Option ℕ) (ended : TxResult) : Type 0 where
  pub last : PassValue Published
  pub closing : Does w.pass (closing_steps (forest_of w) w.start w.direct used (held_in w.buffer)) [] last
  pub left : HasEnded w.stays last (number_of w) v
  pub room : handed ≡ room_of w.buffer
  pub result : ended ≡ closing_result (forest_of w) w.start w.direct w.filling used (held_in w.buffer)
