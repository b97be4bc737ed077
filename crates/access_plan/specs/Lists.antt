-- What the list of an access means, and how it grows.
use Rattle.std.specs.Prelude.{◌≡◌, ℕ, ◌+◌, Bool, true, false, if◌then◌else◌, List, [], ◌∷◌, ◌++◌, map}
use Rattle.mem_base.specs.declared.map.ids.RegionId.{RegionId}
use Rattle.mem_base.specs.declared.map.kinds.Client.{Client}
use Rattle.mem_base.specs.access.AccessSteps.{Transfer, reading, writing, read_length, length_of, part, tx}
use Rattle.mem_base.specs.access.Plans as plans
use Rattle.mem_base.specs.access.Plans.{Reached}
use Rattle.access_plan.specs.declared.lists.Reach.{Reach}
use Rattle.access_plan.specs.declared.lists.Reach.TheVariants.{Memory, Callback, Notifier, Mark, Nothing}
use Rattle.access_plan.specs.declared.requests.Request.{Request}
use Rattle.access_plan.specs.declared.requests.Request.TheVariants.{Answers, Takes}

-- what callbacks are asked
abbrev pub request_of : Request → plans.Request
request_of (Answers len big) = plans.answers len big
request_of (Takes value) = plans.takes value

-- one thing of the list of a transfer
abbrev pub meant : Transfer → Reach → Reached
meant t (Memory region offset at len) = plans.memory region offset (part at len t)
meant t (Callback region offset size request at len) = plans.callback region offset size (request_of request)
meant t (Notifier number at len) = plans.notifier number
meant t (Mark region client page) = plans.mark region client page
meant t (Nothing at len) = plans.nothing (read_length (part at len t)) (tx false true)

-- each is about the bytes after those of the one before it, from a byte of the access up to another
abbrev pub Follow : ℕ → List Reach → ℕ → Type 0
Follow now [] end = now ≡ end
Follow now (Memory region offset at len ∷ rs) end = (at ≡ now) × Follow (now + len) rs end
Follow now (Callback region offset size request at len ∷ rs) end = (at ≡ now) × Follow (now + len) rs end
Follow now (Notifier number at len ∷ rs) end = (at ≡ now) × Follow (now + len) rs end
Follow now (Mark region client page ∷ rs) end = Follow now rs end
Follow now (Nothing at len ∷ rs) end = (at ≡ now) × Follow (now + len) rs end

-- the list tells a plan of a transfer, all bytes of it one after another
pub record IsPlanned (t : Transfer) (list : List Reach) (plan : List Reached) : Type 0 where
  pub is : map (meant t) list ≡ plan
  pub order : Follow 0 list (length_of t)

-- a list grew by what tells these things, which are about the bytes of a transfer from one on up to another
pub record Adds (t : Transfer) (before after : List Reach) (rs : List Reached) (at end : ℕ) : Type 0 where
  pub added : List Reach
  pub grown : after ≡ before ++ added
  pub is : map (meant t) added ≡ rs
  pub order : Follow at added end

-- of the whole list the rest is still to come
pub record IsUnderway (t : Transfer) (before now : List Reach) (whole rest : List Reached) (at end : ℕ) : Type 0 where
  pub first : List Reached
  pub done : Adds t before now first at end
  pub parts : whole ≡ first ++ rest

-- a write of these bytes, or a read: of how many bytes does not matter to its parts
abbrev pub moved : Bool → List ℕ → Transfer
moved write bytes = if write then writing bytes else reading 0

-- the marks of some pages of a region
abbrev pub marks_in : RegionId → List (ℕ × Client) → List Reached
marks_in region ms = map (λ m. plans.mark region m.1 m.0) ms
