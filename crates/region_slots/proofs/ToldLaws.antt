-- Laws of what is told of children: it is so of the regions, and nothing is found past a child's last offset.
use Rattle.std.proofs.Common.{◌≡◌, ◌∙◌, ℕ, zero, suc, ◌-◌, ◌<◌, ◌≤◌, Bool, true, false, ◌&&◌, cond, List, Option, Some, None, refl, ap, arith}
use Rattle.std.specs.Prelude.{nat_lt, option_map, option_and_then}
use Rattle.std.proofs.lemmas.Bool.Decides.{nat_tests}
use Rattle.mem_base.specs.declared.map.ids.RegionId.{RegionId}
use Rattle.mem_base.specs.declared.map.forests.Node.{Node}
use Rattle.mem_base.specs.declared.map.forests.Forest.{Forest}
use Rattle.mem_base.specs.lists.Every.{Every}
use Rattle.mem_base.specs.map.Region.{node_of, is_child_of, IsAscending}
use Rattle.mem_base.specs.map.Order.{children_of}
use Rattle.mem_base.specs.map.Search.{Found, passed, inside, at_node, found_in}
use Rattle.mem_base.proofs.EveryLaws.{weaker, every_map}
use Rattle.mem_base.proofs.ForestLaws.{every_child, node_of-itself}
use Rattle.region_slots.specs.declared.children.Child.{Child}
use Rattle.region_slots.specs.Slots.{child_of, placed_of}
use Rattle.region_slots.specs.Told.{IsChild}

-- what is told of the children of a region is so
pub children_are : (nodes : List Node) (r : RegionId) → IsAscending nodes → Every (IsChild nodes) (placed_of (children_of nodes r))
children_are nodes r ascending =
    let known : Node → Type 0 = λ n. node_of nodes n.id ≡ Some n in
    every_map (IsChild nodes) child_of (children_of nodes r)
    (weaker known (λ n. IsChild nodes (child_of n)) (λ n e. (n, e, refl)) (children_of nodes r)
    (every_child known r nodes (weaker known (λ n. is_child_of r n ≡ true → known n) (λ n e t. e) nodes (node_of-itself nodes ascending))))

past_size : (f : Forest) (depth : ℕ) (r : RegionId) (n : Node) (a : ℕ) → node_of f.nodes r ≡ Some n → n.size - 1 < a → found_in f depth r a ≡ None
unfolding found_in
past_size f zero r n a e l = refl
past_size f (suc depth) r n a e l =
    let out : nat_lt a n.size ≡ false = let past : n.size ≤ a = omega arith in grind (arith, nat_tests) in
    ap (option_and_then (λ m. at_node f (found_in f depth) m a)) e
    ∙ ap (λ b. cond (n.enabled && b) (option_map (passed n) (inside f (found_in f depth) n.kind n a)) None) out
    ∙ no_second n.enabled (option_map (passed n) (inside f (found_in f depth) n.kind n a))
  where
    no_second : (b : Bool) (x : Option Found) → cond (b && false) x None ≡ None
    no_second true x = refl
    no_second false x = refl

-- nothing is found past a child's last offset
pub past_last : (f : Forest) (depth : ℕ) (c : Child) (a : ℕ) → IsChild f.nodes c → c.last < a → found_in f depth c.id a ≡ None
past_last f depth c a h l =
    let last : c.last ≡ h.0.size - 1 = ap (λ (x : Child). x.last) h.2 in past_size f depth c.id h.0 a h.1 (omega arith)
