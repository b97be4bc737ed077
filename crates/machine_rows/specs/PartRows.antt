-- Worked parts of an IOMMU region's table, and notices of a watcher.
use Rattle.std.specs.Prelude.{◌≡◌, ℕ, List, [], ◌∷◌, Some, None}
use Rattle.mem_base.specs.declared.map.ids.WatcherId.{WatcherId}
use Rattle.mem_base.specs.declared.map.forests.Forest.{Forest}
use Rattle.mem_base.specs.declared.map.kinds.Kind.TheVariants.{Ram, Iommu}
use Rattle.mem_base.specs.declared.map.translations.Entry.{Entry}
use Rattle.mem_base.specs.declared.map.translations.Perm.{Perm}
use Rattle.mem_base.specs.declared.map.translations.Perm.TheVariants as perms
use Rattle.mem_base.specs.declared.access.notices.Part.{Part}
use Rattle.mem_base.specs.declared.access.notices.Notice.TheVariants.{Map, Unmap}
use Rattle.mem_base.specs.map.Changes.{made_region}
use Rattle.mem_base.specs.access.Parts.{parts_of, parts_in, notices_between, replay_notices, notices_to}
use Rattle.machine_rows.specs.Values.{region, space, forest_of, entry}

abbrev pub part : ℕ → ℕ → ℕ → ℕ → Perm → Part
part from to s addr perm = record { from = from; to = to; space = space s; addr = addr; perm = perm }

abbrev pub watcher : ℕ → WatcherId
watcher n = record { 0 = n }

-- a page at 0 that goes to 0x4000 and may be read, and one at 0x2000 that goes to 0
abbrev pub table : List Entry
table = entry 0 (space 0) 0x4000 perms.Read ∷ entry 0x2000 (space 0) 0 perms.Both ∷ []

-- the table in an IOMMU region, and in a region of another kind, which has none
abbrev pub tabled : Forest
tabled = forest_of (record (made_region (region 0) Iommu 65536) { entries = table }
    ∷ record (made_region (region 1) Ram 65536) { entries = table } ∷ []) []

abbrev pub low : Part
low = part 0 0xfff 0 0x4000 perms.Read

abbrev pub high : Part
high = part 0x2000 0x2fff 0 0 perms.Both

pub record PartRows : Type 0 where
  pub both-pages : parts_of table 0x800 0x2fff ≡ part 0x800 0xfff 0 0x4800 perms.Read ∷ high ∷ []
  -- one address of each page
  pub at-the-edges : parts_of table 0xfff 0x2000 ≡ part 0xfff 0xfff 0 0x4fff perms.Read ∷ part 0x2000 0x2000 0 0 perms.Both ∷ []
  pub between-the-pages : parts_of table 0x1000 0x1fff ≡ []
  pub of-an-iommu-region : parts_in tabled (region 0) 0 0xffff ≡ low ∷ high ∷ []
  pub of-another-kind : parts_in tabled (region 1) 0 0xffff ≡ []
  pub of-no-region : parts_in tabled (region 2) 0 0xffff ≡ []
  -- what stays is not told, and what differs in anything is unmapped and mapped
  pub joins : notices_between [] (low ∷ high ∷ []) ≡ Map low ∷ Map high ∷ []
  pub leaves : notices_between (low ∷ high ∷ []) [] ≡ Unmap low ∷ Unmap high ∷ []
  pub stays : notices_between (low ∷ high ∷ []) (low ∷ high ∷ []) ≡ []
  pub other-from : notices_between (low ∷ []) (part 1 0xfff 0 0x4000 perms.Read ∷ []) ≡ Unmap low ∷ Map (part 1 0xfff 0 0x4000 perms.Read) ∷ []
  pub other-to : notices_between (low ∷ []) (part 0 0xffe 0 0x4000 perms.Read ∷ []) ≡ Unmap low ∷ Map (part 0 0xffe 0 0x4000 perms.Read) ∷ []
  pub other-space : notices_between (low ∷ []) (part 0 0xfff 1 0x4000 perms.Read ∷ []) ≡ Unmap low ∷ Map (part 0 0xfff 1 0x4000 perms.Read) ∷ []
  pub other-address : notices_between (low ∷ []) (part 0 0xfff 0 0x5000 perms.Read ∷ []) ≡ Unmap low ∷ Map (part 0 0xfff 0 0x5000 perms.Read) ∷ []
  pub other-permission : notices_between (low ∷ []) (part 0 0xfff 0 0x4000 perms.Write ∷ []) ≡ Unmap low ∷ Map (part 0 0xfff 0 0x4000 perms.Write) ∷ []
  pub same-permissions : notices_between
      (part 0 1 0 0 perms.Nothing ∷ part 2 3 0 0 perms.Write ∷ part 4 5 0 0 perms.Both ∷ [])
      (part 0 1 0 0 perms.Nothing ∷ part 2 3 0 0 perms.Write ∷ part 4 5 0 0 perms.Both ∷ []) ≡ []
  -- the replay: parts side by side do not meet, and parts with one address in common do
  pub replays : replay_notices (Map high ∷ Map low ∷ Unmap high ∷ []) ≡ Some (low ∷ [])
  pub side-by-side : replay_notices (Map low ∷ Map (part 0x1000 0x1fff 0 0 perms.Both) ∷ []) ≡ Some (low ∷ part 0x1000 0x1fff 0 0 perms.Both ∷ [])
  pub before-it : replay_notices (Map high ∷ Map (part 0x1000 0x1fff 0 0 perms.Both) ∷ []) ≡ Some (part 0x1000 0x1fff 0 0 perms.Both ∷ high ∷ [])
  pub meets-at-the-end : replay_notices (Map low ∷ Map (part 0xfff 0x1fff 0 0 perms.Both) ∷ []) ≡ None
  pub meets-at-the-start : replay_notices (Map high ∷ Map (part 0x1000 0x2000 0 0 perms.Both) ∷ []) ≡ None
  pub mapped-twice : replay_notices (Map low ∷ Map low ∷ []) ≡ None
  pub not-there : replay_notices (Map low ∷ Unmap high ∷ []) ≡ None
  pub its-own : notices_to (watcher 1) ((watcher 1, Map low) ∷ (watcher 2, Map high) ∷ (watcher 1, Unmap low) ∷ []) ≡ Map low ∷ Unmap low ∷ []
