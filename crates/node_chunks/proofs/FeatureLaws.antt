-- The regions that have ioeventfds, chunk by chunk.
use Rattle.std.proofs.Common.{◌≡◌, ℕ, ◌+◌, ◌<◌, ◌++◌, ◌||◌, cond, Bool, true, false, List, [], ◌∷◌, length, get_or, take, filter, refl, ap, ◌∙◌}
use Rattle.std.specs.Prelude.{nat_lt, flat_map}
use Rattle.std.proofs.lemmas.List.{map-append}
use Rattle.std.proofs.lemmas.List.Elements.{filter-append}
use Rattle.mem_base.specs.declared.map.ids.RegionId.{RegionId}
use Rattle.mem_base.specs.declared.map.forests.Node.{Node}
use Rattle.mem_base.specs.map.Chunks.{any_events}
use Rattle.mem_base.specs.map.Order.{ids_of}
use Rattle.mem_base.proofs.ChunkLaws.{flat_more}

-- the regions that have ioeventfds
abbrev pub noted : List Node → List RegionId
noted nodes = ids_of (filter (λ n. nat_lt 0 (length n.events)) nodes)

pub noted_none : (nodes : List Node) → any_events nodes ≡ false → noted nodes ≡ []
noted_none [] h = refl
noted_none (n ∷ ns) h = go (nat_lt 0 (length n.events)) refl (λ k. noted_none ns k) h
  where
    go : (b : Bool) → nat_lt 0 (length n.events) ≡ b → (any_events ns ≡ false → noted ns ≡ []) → (b || any_events ns) ≡ false
        → ids_of (cond b (n ∷ filter (λ n. nat_lt 0 (length n.events)) ns) (filter (λ n. nat_lt 0 (length n.events)) ns)) ≡ []
    go true e rest k = cc
    go false e rest k = rest k

noted_append : (xs ys : List Node) → noted (xs ++ ys) ≡ noted xs ++ noted ys
noted_append xs ys =
    ap ids_of (filter-append (λ (n : Node). nat_lt 0 (length n.events)) xs ys)
    ∙ map-append (λ (n : Node). n.id) (filter (λ n. nat_lt 0 (length n.events)) xs) (filter (λ n. nat_lt 0 (length n.events)) ys)

pub noted_more : {A : Type 0} (f : A → List Node) (cs : List A) (i : ℕ) (d : A) → i < length cs
    → noted (flat_map f (take (i + 1) cs)) ≡ noted (flat_map f (take i cs)) ++ noted (f (get_or cs i d))
noted_more f cs i d l = ap noted (flat_more f cs i d l) ∙ noted_append (flat_map f (take i cs)) (f (get_or cs i d))
