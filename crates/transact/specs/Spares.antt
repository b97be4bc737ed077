-- The second tree of a desk.
-- QEMU's core has one tree, which is changed in place; a second one is this project's own.
use Rattle.std.specs.Prelude.{◌≡◌, [], ◌∷◌, Option, IfSome}
use Rattle.mem_base.specs.declared.map.forests.Forest.{Forest}
use Rattle.transact.specs.declared.spare.Next.{Next}

-- the second tree, where there is one, comes to this forest when the calls are done that it lacks
abbrev pub IsSpare : Forest → Option Forest → Type 0
IsSpare f spare = IfSome spare (λ g. g ≡ f)

-- the tree after a call is this forest, and the call is all that the tree before it lacks
abbrev pub IsNext : Forest → Next → Type 0
IsNext f next = (next.tree ≡ f) × (next.missing.items ≡ next.call ∷ [])
