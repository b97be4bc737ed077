-- What a view shows is what a search finds.
use Rattle.std.proofs.Common.{◌≡◌, ◌<◌, ◌^◌, ℕ, subst}
use Rattle.mem_base.specs.declared.map.ids.SpaceId.{SpaceId}
use Rattle.mem_base.specs.declared.map.forests.Forest.{Forest}
use Rattle.mem_base.specs.map.Forest.{IsMade}
use Rattle.mem_base.specs.map.Search.{look}
use Rattle.mem_base.specs.views.View.{IsView, shown}
use Rattle.mem_base.specs.views.Flattened.{view_of}
use Rattle.map_laws.proofs.OffsetLaws.{IsView-made}

pub shown_look : (f : Forest) (s : SpaceId) (addr : ℕ) → addr < 2 ^ 64 → IsMade f → shown (view_of f s) addr ≡ look f s addr
shown_look f s addr l made =
    let view : IsView f s (view_of f s) = subst (λ (g : Forest). IsView g s (view_of g s)) made.made
    (IsView-made made.calls s made.fitting) in
    view.agrees.shows addr l
