-- Worked rows of host memory, by computing: it stands in the map as RAM does, and the machine has none of its bytes.
use Rattle.std.specs.Prelude.{◌≡◌, ℕ, ◌^◌, Bool, true, false, [], ◌∷◌, Some, None}
use Rattle.mem_base.specs.declared.map.forests.Forest.{Forest}
use Rattle.mem_base.specs.declared.map.spots.Spot.{Spot}
use Rattle.mem_base.specs.declared.map.kinds.Client.TheVariants.{Vga}
use Rattle.mem_base.specs.declared.map.kinds.Kind.TheVariants.{Host}
use Rattle.mem_base.specs.declared.map.calls.Call.TheVariants as calls
use Rattle.mem_base.specs.declared.map.refusals.Refusal.TheVariants.{BadSize, WrongKind}
use Rattle.mem_base.specs.map.Changes.{made_region}
use Rattle.mem_base.specs.map.Calls.{empty, refusal_of}
use Rattle.mem_base.specs.map.Search.{look}
use Rattle.mem_base.specs.access.Places.{extent_of, words_of}
use Rattle.mem_base.specs.access.AccessSteps.{reading, writing, blank, tx}
use Rattle.mem_base.specs.access.Access.{access}
use Rattle.mem_base.specs.machine.Orders.{harvest_refusal, load_refusal}
use Rattle.machine_rows.specs.Values.{region, space, forest_of}

-- two pages of host memory, logged for VGA, as the root of space 0
abbrev pub hosted : Bool → Forest
hosted global = record (forest_of ((record (made_region (region 0) Host 8192) { log = 1 }) ∷ []) ((space 0, region 0) ∷ [])) { global = global }

-- a spot in it, with this logging mask
abbrev pub spot_at : ℕ → ℕ → Spot
spot_at offset log = record {
  leaf = region 0;
  offset = offset;
  attrs = record { readonly = false; nonvolatile = false; romd = false; unmergeable = false; log = log };
}

pub record HostRows : Type 0 where
  -- it has any number of whole pages, up to 2^64 bytes
  pub fills-a-space : refusal_of empty (calls.Region Host (2 ^ 64)) ≡ None
  pub part-of-a-page : refusal_of empty (calls.Region Host 4097) ≡ Some BadSize
  pub no-page : refusal_of empty (calls.Region Host 0) ≡ Some BadSize
  -- it keeps its size, and may be logged
  pub keeps-its-size : refusal_of (hosted false) (calls.Resize (region 0) 4096) ≡ Some (WrongKind (region 0))
  pub may-be-logged : refusal_of (hosted false) (calls.Log (region 0) Vga true) ≡ None
  -- a search finds it, with its mask, and with migration's bit while global logging is on
  pub found : look (hosted false) (space 0) 4096 ≡ Some (spot_at 4096 1)
  pub found-globally : look (hosted true) (space 0) 8191 ≡ Some (spot_at 8191 5)
  pub past-its-end : look (hosted true) (space 0) 8192 ≡ None
  -- it takes no word of the pool, and is neither loaded nor harvested
  pub no-words : words_of (extent_of Host 8192) ≡ 0
  pub not-loaded : load_refusal (hosted false) (region 0) 0 1 ≡ Some (WrongKind (region 0))
  pub not-harvested : harvest_refusal (hosted false) (region 0) ≡ Some (WrongKind (region 0))
  -- an access that ends there is answered by nobody
  pub read-by-nobody : access (hosted false) (space 0) 4094 (reading 4) ≡ blank 4 (tx false true) ∷ []
  pub written-by-nobody : access (hosted false) (space 0) 4094 (writing (1 ∷ 2 ∷ [])) ≡ blank 0 (tx false true) ∷ []
