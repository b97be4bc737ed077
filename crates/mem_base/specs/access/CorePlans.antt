-- What an access reaches by QEMU's core, release 7.2: a device takes whole pieces, which the end of its range does not cut, and the
-- address is looked up again after each piece.
-- `flatview_write_continue` and `flatview_read_continue` of physmem.c are a loop; one pass through it is a round here. Each
-- definition names the function of physmem.c that it is from.
use Rattle.std.specs.Prelude.{ℕ, zero, suc, ◌+◌, ◌-◌, ◌||◌, min, bit_and, Bool, List, [], ◌∷◌, ◌++◌, Option, Some, None}
use Rattle.mem_base.specs.declared.map.ids.SpaceId.{SpaceId}
use Rattle.mem_base.specs.declared.map.forests.Forest.{Forest}
use Rattle.mem_base.specs.declared.map.forests.Node.{Node}
use Rattle.mem_base.specs.declared.map.spots.Spot.{Spot}
use Rattle.mem_base.specs.declared.map.translations.Entry.{Entry}
use Rattle.mem_base.specs.declared.access.accesses.Target.{Target}
use Rattle.mem_base.specs.declared.access.accesses.Target.TheVariants.{Leaf, Unassigned}
use Rattle.mem_base.specs.map.Kinds.{is_rom}
use Rattle.mem_base.specs.map.Region.{node_of}
use Rattle.mem_base.specs.access.Pieces.{piece, size_at, is_valid}
use Rattle.mem_base.specs.access.Trails.{Hop, trail_of, chunks, first_length}
use Rattle.mem_base.specs.access.AccessSteps.{Transfer, is_write, length_of, part}
use Rattle.mem_base.specs.access.Plans.{Reached, Answerer, by_device, answerer, reached, in_piece}

-- `address_space_translate_iommu`: no more than the translation's page has from an offset on,
-- `MIN(*plen_out, (addr | iotlb.addr_mask) - addr + 1)`
abbrev pub in_page : Option Entry → ℕ → ℕ → ℕ
in_page None offset left = left
in_page (Some e) offset left = min left (e.mask + 1 - bit_and offset e.mask)

-- the same of each translation on the way: the loop of `address_space_translate_iommu`
abbrev pub in_pages : List Hop → ℕ → ℕ
in_pages [] left = left
in_pages (h ∷ hs) left = in_pages hs (in_page h.used h.spot.offset left)

-- whether a region takes no writes by itself: `mr->readonly`, which `memory_region_init_rom` and `memory_region_set_readonly` set
abbrev pub is_readonly : Node → Bool
is_readonly n = is_rom n.kind || n.readonly

-- a spot as the core takes it: read-only by its region's own flag, whatever a window on the way says (`memory_access_is_direct` of
-- memory.h)
abbrev pub own_spot : Option Node → Spot → Spot
own_spot None spot = spot
own_spot (Some n) spot = record spot { attrs = record spot.attrs { readonly = is_readonly n } }

-- the same of where a route ends
abbrev pub own_target : Forest → Target → Target
own_target f Unassigned = Unassigned
own_target f (Leaf spot) = Leaf (own_spot (node_of f.nodes spot.leaf) spot)

-- who answers a write, or a read, in the core
abbrev pub core_answerer : Forest → Bool → Target → Answerer
core_answerer f write target = answerer f write (own_target f target)

-- how many bytes a round takes, of `left` that are left and `shared` that share the route with the first: a device as many as
-- `memory_access_size` says, since `address_space_translate_internal` cuts at a range's end only what is RAM; all else to the
-- end of the route
abbrev pub taken_by : Answerer → List Hop → ℕ → ℕ → ℕ
taken_by (by_device region offset ops events) hops shared left = size_at ops offset (in_pages hops left)
taken_by _ hops shared left = shared

-- the same at an address, where `flatview_translate` leads
abbrev pub taken : Forest → Bool → SpaceId → ℕ → ℕ → ℕ
taken f write s a left =
    let t = trail_of f write s a in taken_by (core_answerer f write t.target) t.hops (first_length (chunks f write s a left)) left

-- what a round reaches with the bytes that it takes: of a device one piece, which `flatview_write_continue` hands to
-- `memory_region_dispatch_write` of memory.c
abbrev pub reached_at_once : Answerer → Transfer → List Reached
reached_at_once (by_device region offset ops events) transfer =
    in_piece region ops events (piece offset (length_of transfer) (is_valid ops offset (length_of transfer))) transfer
reached_at_once who transfer = reached who transfer

-- the same at an address: the body of the loop of `flatview_write_continue` and of `flatview_read_continue`
abbrev pub in_round : Forest → SpaceId → ℕ → Transfer → List Reached
in_round f s a transfer = reached_at_once (core_answerer f (is_write transfer) (trail_of f (is_write transfer) s a).target) transfer

-- the rounds from an address on, `left` bytes from the access's end, of which the first `inside` belong to a round that began
-- before and so begin none: the loop of `flatview_write_continue`, which calls `flatview_translate` again after each round
abbrev pub rounds_from : Forest → SpaceId → ℕ → Transfer → ℕ → ℕ → ℕ → List Reached
rounds_from f s first transfer a zero inside = []
rounds_from f s first transfer a (suc left) (suc inside) = rounds_from f s first transfer (a + 1) left inside
rounds_from f s first transfer a (suc left) zero = let n = taken f (is_write transfer) s a (suc left) in
    in_round f s a (part (a - first) n transfer) ++ rounds_from f s first transfer (a + 1) left (n - 1)

-- an access to a space at an address: `address_space_write` and `address_space_read_full`, which call `flatview_write` and
-- `flatview_read`
abbrev pub plan_of_core : Forest → SpaceId → ℕ → Transfer → List Reached
plan_of_core f s a transfer = rounds_from f s a transfer a (length_of transfer) 0

-- What QEMU does besides, and this does not:
-- * a hole, a reservation and read-only memory are devices to it that refuse each piece (`unassigned_mem_ops`): pieces of 1, 2
--   or 4 bytes, aligned, so up to 3 bytes of what follows a hole or a reservation are refused with it (not after read-only
--   memory, which is cut at its range's end, since `memory_region_is_ram` holds);
-- * host memory is RAM to it, and is answered by nobody here;
-- * a ROM device that is read directly is not cut at its range's end either (it is not `ram`), but at its block's end;
-- * memory behind an IOMMU region goes on to the end of the translation's page, past the IOMMU region's own range;
-- * an access goes on at address 0 after 2^64 - 1, and any number of translations may be used.
