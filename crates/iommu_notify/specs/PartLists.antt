-- Parts of a table in order, and notices with the watcher that gets them.
use Rattle.std.specs.Prelude.{◌<◌, ◌≤◌, List, [], ◌∷◌, map}
use Rattle.mem_base.specs.declared.map.ids.WatcherId.{WatcherId}
use Rattle.mem_base.specs.declared.access.notices.Part.{Part}
use Rattle.mem_base.specs.declared.access.notices.Notice.{Notice}
use Rattle.mem_base.specs.lists.Every.{Every}
use Rattle.mem_base.specs.script.Watching.{Noticed}

-- parts, none of them empty: each ends before every later one begins
abbrev pub AreParts : List Part → Type 0
AreParts [] = Unit {0}
AreParts (p ∷ ps) = (p.from ≤ p.to) × Every (λ q. p.to < q.from) ps × AreParts ps

-- some notices of one watcher
abbrev pub noticed : WatcherId → List Notice → List Noticed
noticed id xs = map (λ x. (id, x)) xs
