-- The parts of a range of an IOMMU region's table, and what a watcher of the range is told as they change.
-- QEMU's manual, "The memory API", IOMMU regions, and `IOMMUNotifier` with its range of QEMU's core. That a watcher
-- is told after a publish, and of the whole difference at once, is this project's own rule.
use Rattle.std.specs.Prelude.{ℕ, ◌+◌, min, max, Bool, true, false, ◌==◌, ◌&&◌, not, nat_lt, nat_le, if◌then◌else◌, List, [], ◌∷◌, ◌++◌, map}
use Rattle.std.specs.Prelude.{filter, Option, Some, option_and_then}
use Rattle.std.specs.List.{list_any}
use Rattle.std.specs.Ordering.{nat_cmp}
use Rattle.std.specs.declared.cmp.Ordering.{Ordering}
use Rattle.mem_base.specs.declared.map.ids.RegionId.{RegionId}
use Rattle.mem_base.specs.declared.map.ids.WatcherId.{WatcherId}
use Rattle.mem_base.specs.declared.map.forests.Forest.{Forest}
use Rattle.mem_base.specs.declared.map.translations.Entry.{Entry}
use Rattle.mem_base.specs.declared.map.translations.Perm.{Perm}
use Rattle.mem_base.specs.declared.access.notices.Part.{Part}
use Rattle.mem_base.specs.declared.access.notices.Notice.{Notice}
use Rattle.mem_base.specs.declared.access.notices.Notice.TheVariants.{Map, Unmap}
use Rattle.mem_base.specs.lists.Sorting.{put_by}
use Rattle.mem_base.specs.views.Replay.{if_fits}
use Rattle.mem_base.specs.access.Translations.{translates, entries_of, translated_address, permits}
use Rattle.mem_base.specs.lists.Booleans.{bool_eq}

-- the parts of a table

-- the table of a region; a region that is not there, or that is no IOMMU region, has an empty one
abbrev pub table_of : Forest → RegionId → List Entry
table_of f region = if translates f region then entries_of f region else []

-- the translation's page has an address from `first` to `last`
abbrev pub meets_offsets : ℕ → ℕ → Entry → Bool
meets_offsets first last e = nat_le e.iova last && nat_le first (e.iova + e.mask)

-- the addresses of a translation that lie from `first` to `last`, and where the first of them goes
abbrev pub part_of : ℕ → ℕ → Entry → Part
part_of first last e = record {
  from = max e.iova first;
  to = min (e.iova + e.mask) last;
  space = e.space;
  addr = translated_address e (max e.iova first);
  perm = e.perm;
}

-- the parts of a table from `first` to `last`, ascending
abbrev pub parts_of : List Entry → ℕ → ℕ → List Part
parts_of entries first last = map (part_of first last) (filter (meets_offsets first last) entries)

-- the parts of a region's table in a forest
abbrev pub parts_in : Forest → RegionId → ℕ → ℕ → List Part
parts_in f region first last = parts_of (table_of f region) first last

-- what a watcher is told

-- both let the same accesses through
abbrev pub is_same_perm : Perm → Perm → Bool
is_same_perm p q = bool_eq (permits false p) (permits false q) && bool_eq (permits true p) (permits true q)

-- the same addresses go to the same place with the same permission
abbrev pub is_same_part : Part → Part → Bool
is_same_part p q =
    (p.from == q.from) && (p.to == q.to) && (p.space.0 == q.space.0) && (p.addr == q.addr) && is_same_perm p.perm q.perm

-- those of the first parts that are not among the second
abbrev pub parts_without : List Part → List Part → List Part
parts_without ps qs = filter (λ p. not (list_any (is_same_part p) qs)) ps

-- from the parts that a watcher has to those that it is to have: each that goes is unmapped, ascending, and then
-- each that comes is mapped, ascending. A new watcher has none before, and one that leaves has none after
abbrev pub notices_between : List Part → List Part → List Notice
notices_between old new = map (λ p. Unmap p) (parts_without old new) ++ map (λ p. Map p) (parts_without new old)

-- the replay of a watcher's notices

-- two parts have an address in common
abbrev pub meets_part : Part → Part → Bool
meets_part p q = not (nat_lt p.to q.from) && not (nat_lt q.to p.from)

-- by where the parts begin
abbrev pub part_order : Part → Part → Ordering
part_order p q = nat_cmp p.from q.from

-- the parts after a notice, where it fits: Map puts one that meets none, Unmap takes an equal one out
abbrev pub parts_after : List Part → Notice → Option (List Part)
parts_after ps (Map p) = if_fits (not (list_any (meets_part p) ps)) (put_by part_order p ps)
parts_after ps (Unmap p) = if_fits (list_any (is_same_part p) ps) (filter (λ q. not (is_same_part p q)) ps)

-- the parts that are mapped after some notices, from the first on: none where one of them does not fit what came before it
abbrev pub parts_after_all : Option (List Part) → List Notice → Option (List Part)
parts_after_all ps [] = ps
parts_after_all ps (x ∷ xs) = parts_after_all (option_and_then (λ qs. parts_after qs x) ps) xs

-- the parts that a watcher's notices since it joined leave it; None where one does not fit
abbrev pub replay_notices : List Notice → Option (List Part)
replay_notices xs = parts_after_all (Some []) xs

-- the notices of one watcher in a list of those of all
abbrev pub notices_to : WatcherId → List (WatcherId × Notice) → List Notice
notices_to id [] = []
notices_to id (x ∷ xs) = if x.0.0 == id.0 then x.1 ∷ notices_to id xs else notices_to id xs
