-- What a pass has done: which number it looked at, announced and entered.
-- This project's own rule, in place of the RCU read sections of QEMU's core: a virtual CPU announces a generation
-- before it enters one, so that the writer keeps what it may still use.
use Rattle.std.specs.Prelude.{ℕ, Bool, nat_lt, List, length, slice_set, slice_index_or, Option, Some, None}
use Rattle.mem_base.specs.map.PassIds.{PassId}
use Rattle.mem_base.specs.declared.machine.events.Event.{Event}
use Rattle.mem_base.specs.declared.machine.events.Event.TheVariants.{Look, Announce, Enter, Leave}

-- the number that it looked at, the one that it announced, and the generation in which it is entered, each if there is one
pub record PassState : Type 0 where
  pub looked : Option ℕ
  pub announced : Option ℕ
  pub entered : Option ℕ

-- a pass that has done nothing since it left last
abbrev pub idle : PassState
idle = record { looked = None; announced = None; entered = None }

-- a pass after an event of its own that told a number
abbrev pub pass_after : PassState → Event → ℕ → PassState
pass_after p (Look pass) number = record p { looked = Some number }
pass_after p (Announce pass) number = record p { announced = p.looked }
pass_after p (Enter pass) number = record p { entered = Some number }
pass_after p (Leave pass) number = idle
pass_after p _ number = p

-- the pass with a number
abbrev pub pass_id : ℕ → PassId
pass_id number = record { 0 = number }

-- the pass is one of the world's
abbrev pub is_pass : List PassState → PassId → Bool
is_pass ps pass = nat_lt pass.0 (length ps)

-- the state of one pass
abbrev pub pass_of : List PassState → PassId → PassState
pass_of ps pass = slice_index_or ps pass.0 idle

-- the passes with another state of one
abbrev pub with_pass : List PassState → PassId → PassState → List PassState
with_pass ps pass p = slice_set ps pass.0 p

-- all passes after an event
abbrev pub passes_after : List PassState → Event → ℕ → List PassState
passes_after ps (Look pass) number = with_pass ps pass (pass_after (pass_of ps pass) (Look pass) number)
passes_after ps (Announce pass) number = with_pass ps pass (pass_after (pass_of ps pass) (Announce pass) number)
passes_after ps (Enter pass) number = with_pass ps pass (pass_after (pass_of ps pass) (Enter pass) number)
passes_after ps (Leave pass) number = with_pass ps pass (pass_after (pass_of ps pass) (Leave pass) number)
passes_after ps _ number = ps
