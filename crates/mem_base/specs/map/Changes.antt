-- What an accepted call changes in a forest. All that is not named stays.
use Rattle.std.specs.Prelude.{ℕ, ◌+◌, ◌==◌, true, false, not, if◌then◌else◌, List, [], ◌∷◌, ◌++◌, Option, Some, None, map, filter, ℤ, pos}
use Rattle.std.specs.Prelude.{unwrap_or, option_map}
use Rattle.mem_base.specs.declared.map.ids.RegionId.{RegionId}
use Rattle.mem_base.specs.declared.map.forests.Node.{Node}
use Rattle.mem_base.specs.declared.map.forests.Forest.{Forest}
use Rattle.mem_base.specs.declared.map.kinds.Kind.{Kind}
use Rattle.mem_base.specs.declared.map.calls.Call.{Call}
use Rattle.mem_base.specs.declared.map.calls.Call.TheVariants as calls
use Rattle.mem_base.specs.map.Region.{has_id, node_of}
use Rattle.mem_base.specs.map.Kinds.{is_rom_device}
use Rattle.mem_base.specs.map.Edits.{edit}

-- the node of one region changed
abbrev pub changed_at : RegionId → (Node → Node) → List Node → List Node
changed_at r change nodes = map (λ n. if has_id r n then change n else n) nodes

-- a region as it is made: enabled, in no container, without flags, logging, translations and ioeventfds; the mode
-- of a ROM device begins on
abbrev pub made_region : RegionId → Kind → ℕ → Node
made_region r kind size = record {
  id = r;
  kind = kind;
  size = size;
  parent = None;
  offset = 0;
  priority = pos 0;
  placing = 0;
  enabled = true;
  readonly = false;
  nonvolatile = false;
  romd = is_rom_device kind;
  unmergeable = false;
  log = 0;
  entries = [];
  events = [];
}

-- a region as it is placed in a container
abbrev pub placed : RegionId → ℕ → ℤ → ℕ → Node → Node
placed parent offset priority placing n =
    record n { parent = Some parent; offset = offset; priority = priority; placing = placing }

-- a region as it is moved, which is a placing only where the offset is another
abbrev pub moved : ℕ → ℕ → Node → Node
moved offset placing n = if n.offset == offset then n else record n { offset = offset; placing = placing }

-- how many placings a move is
abbrev pub moves : ℕ → Option Node → ℕ
moves offset None = 0
moves offset (Some n) = if n.offset == offset then 0 else 1

-- the forest with one region changed
abbrev pub at_region : Forest → RegionId → (Node → Node) → Forest
at_region f r change = record f { nodes = changed_at r change f.nodes }

-- the forest that an accepted call makes, but for the number of calls
abbrev pub changed : Forest → Call → Forest
changed f (calls.Region kind size) =
    record f { nodes = f.nodes ++ made_region (record { 0 = f.made }) kind size ∷ []; made = f.made + 1 }
changed f (calls.Space space root) = record f { spaces = f.spaces ++ (space, root) ∷ [] }
changed f (calls.Add parent offset child priority) =
    record f { nodes = changed_at child (placed parent offset priority f.placings) f.nodes; placings = f.placings + 1 }
changed f (calls.Del parent child) = at_region f child (λ n. record n { parent = None })
changed f (calls.Move child offset) =
    record f { nodes = changed_at child (moved offset f.placings) f.nodes; placings = f.placings + moves offset (node_of f.nodes child) }
changed f (calls.Global on) = record f { global = on }
changed f (calls.Drop region) = record f { nodes = filter (λ n. not (has_id region n)) f.nodes }
changed f call = unwrap_or (option_map (λ e. at_region f e.0 e.1) (edit call)) f
