-- The search as a relation, rule by rule of QEMU's manual ("The memory API", "Visibility"), with no bound on its
-- depth.
use Rattle.std.specs.Prelude.{◌≡◌, ℕ, ◌+◌, ◌-◌, true, false, ◌&&◌, nat_lt, nat_le, List, [], ◌∷◌, Option, Some, None, option_map}
use Rattle.std.specs.Option.{option_or}
use Rattle.mem_base.specs.declared.map.ids.RegionId.{RegionId}
use Rattle.mem_base.specs.declared.map.forests.Node.{Node}
use Rattle.mem_base.specs.declared.map.forests.Forest.{Forest}
use Rattle.mem_base.specs.declared.map.kinds.Kind.{Kind}
use Rattle.mem_base.specs.declared.map.kinds.Kind.TheVariants.{Alias}
use Rattle.mem_base.specs.map.Region.{node_of}
use Rattle.mem_base.specs.map.Order.{children_of}
use Rattle.mem_base.specs.map.Search.{Found, passed, itself}

-- any kind but a window
abbrev pub IsNoAlias : Kind → Type 0
IsNoAlias (Alias target offset) = ⊥
IsNoAlias _ = Unit {0}

mutual
  -- a search from a region at an offset finds this
  pub data Finds : Forest → RegionId → ℕ → Option Found → Type 0 where
    missing : {f : Forest} {r : RegionId} {a : ℕ} → node_of f.nodes r ≡ None → Finds f r a None
    outside : {f : Forest} {r : RegionId} {a : ℕ} (n : Node) → node_of f.nodes r ≡ Some n → (n.enabled && nat_lt a n.size) ≡ false → Finds f r a None
    through : {f : Forest} {r : RegionId} {a : ℕ} {y : Option Found} (n : Node) (target : RegionId) (offset : ℕ) (x : Option Found) →
        node_of f.nodes r ≡ Some n → (n.enabled && nat_lt a n.size) ≡ true → n.kind ≡ Alias target offset → Finds f target (a + offset) x →
        y ≡ option_map (passed n) x → Finds f r a y
    within : {f : Forest} {r : RegionId} {a : ℕ} {y : Option Found} (n : Node) (x : Option Found) → node_of f.nodes r ≡ Some n →
        (n.enabled && nat_lt a n.size) ≡ true → IsNoAlias n.kind → FindsFirst f (children_of f.nodes n.id) a x →
        y ≡ option_map (passed n) (option_or x (itself f.global n.kind n a)) → Finds f r a y

  -- the first of these regions in which something is found
  pub data FindsFirst : Forest → List Node → ℕ → Option Found → Type 0 where
    nowhere : {f : Forest} {a : ℕ} → FindsFirst f [] a None
    above : {f : Forest} {a : ℕ} {c : Node} {cs : List Node} {x : Option Found} → nat_le c.offset a ≡ false → FindsFirst f cs a x → FindsFirst f (c ∷ cs) a x
    at : {f : Forest} {a : ℕ} {c : Node} {cs : List Node} (s : Found) → nat_le c.offset a ≡ true → Finds f c.id (a - c.offset) (Some s) →
        FindsFirst f (c ∷ cs) a (Some s)
    past : {f : Forest} {a : ℕ} {c : Node} {cs : List Node} {x : Option Found} → nat_le c.offset a ≡ true → Finds f c.id (a - c.offset) None →
        FindsFirst f cs a x → FindsFirst f (c ∷ cs) a x
