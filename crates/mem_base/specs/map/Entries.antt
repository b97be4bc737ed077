-- The table of an IOMMU region: its translations, by ascending iova.
-- QEMU's manual, "The memory API", IOMMU regions. That no two pages overlap is this project's own rule.
use Rattle.std.specs.Prelude.{ℕ, ◌+◌, ◌<◌, ◌^◌, ◌==◌, ◌&&◌, nat_lt, nat_le, Bool, List, [], ◌∷◌, min, map, filter, unwrap_or, Option, Some, None}
use Rattle.std.specs.declared.cmp.Ordering.{Ordering}
use Rattle.std.specs.Ordering.{nat_cmp}
use Rattle.mem_base.specs.declared.map.translations.Entry.{Entry}
use Rattle.mem_base.specs.lists.Every.{Every}

-- translations: the page of each ends below 2^64, and before every later one begins
abbrev pub AreEntries : List Entry → Type 0
AreEntries [] = Unit {0}
AreEntries (e ∷ es) = (e.iova + e.mask < 2 ^ 64) × Every (λ x. e.iova + e.mask < x.iova) es × AreEntries es

-- translations stand by iova
abbrev pub entry_order : Entry → Entry → Ordering
entry_order x y = nat_cmp x.iova y.iova

-- how a translation stands to an iova
abbrev pub iova_cmp : ℕ → Entry → Ordering
iova_cmp iova e = nat_cmp e.iova iova

-- the translation's page begins at this iova
abbrev pub has_iova : ℕ → Entry → Bool
has_iova iova e = e.iova == iova

-- the `size` bytes from iova on meet the page of a translation
abbrev pub meets_page : ℕ → ℕ → Entry → Bool
meets_page iova size e = nat_le iova (e.iova + e.mask) && nat_lt e.iova (iova + size)

-- the least of some numbers, if there are any
abbrev pub least : List ℕ → Option ℕ
least [] = None
least (x ∷ xs) = Some (min x (unwrap_or (least xs) x))

-- the least iova of the translations whose page the `size` bytes from iova on meet
abbrev pub least_met : ℕ → ℕ → List Entry → Option ℕ
least_met iova size entries = least (map (λ e. e.iova) (filter (meets_page iova size) entries))
