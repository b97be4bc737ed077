-- What an IOMMU region does with an offset: the translation that covers it, whether it lets the access through, and
-- where the access goes on.
-- QEMU's manual, "The memory API", IOMMU regions, and `IOMMUTLBEntry` of QEMU's core.
use Rattle.std.specs.Prelude.{ℕ, ◌-◌, Bool, true, false, ◌==◌, not, if◌then◌else◌, bit_and, bit_or, List, [], Option, Some, None, find}
use Rattle.mem_base.specs.declared.map.ids.RegionId.{RegionId}
use Rattle.mem_base.specs.declared.map.forests.Forest.{Forest}
use Rattle.mem_base.specs.declared.map.translations.Entry.{Entry}
use Rattle.mem_base.specs.declared.map.translations.Perm.{Perm}
use Rattle.mem_base.specs.declared.map.translations.Perm.TheVariants.{Nothing, Read, Write, Both}
use Rattle.mem_base.specs.map.Kinds.{is_iommu}
use Rattle.mem_base.specs.map.Region.{of_region}

-- the table of a region
abbrev pub entries_of : Forest → RegionId → List Entry
entries_of f r = of_region f.nodes r [] (λ n. n.entries)

-- the region is an IOMMU region
abbrev pub translates : Forest → RegionId → Bool
translates f r = of_region f.nodes r false (λ n. is_iommu n.kind)

-- a number without the bits of a mask
abbrev pub without_mask : ℕ → ℕ → ℕ
without_mask mask number = number - bit_and number mask

-- the offset is in the translation's page
abbrev pub covers : ℕ → Entry → Bool
covers offset e = without_mask e.mask offset == e.iova

-- the translation that covers an offset
abbrev pub translation_at : List Entry → ℕ → Option Entry
translation_at entries offset = find (covers offset) entries

-- a permission lets a write, or a read, through
abbrev pub permits : Bool → Perm → Bool
permits write Nothing = false
permits write Read = not write
permits write Write = write
permits write Both = true

-- the translation, where it lets the access through
abbrev pub if_permitted : Bool → Option Entry → Option Entry
if_permitted write None = None
if_permitted write (Some e) = if permits write e.perm then Some e else None

-- the translation that an access uses at an offset, if there is one and it lets the access through
abbrev pub used_at : Forest → Bool → RegionId → ℕ → Option Entry
used_at f write region offset = if_permitted write (translation_at (entries_of f region) offset)

-- the address in the translation's space at which an offset goes on
abbrev pub translated_address : Entry → ℕ → ℕ
translated_address e offset = bit_or (without_mask e.mask e.translated) (bit_and offset e.mask)
