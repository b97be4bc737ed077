-- Laws of what a pass does. They stand here because the laws of the hand, in `src`, cite them.
use Rattle.std.proofs.Common.{◌≡◌, ℕ, List, [], ◌∷◌, ◌++◌, refl, sym, ap, subst, ◌∙◌}
use Rattle.mem_base.specs.map.PassIds.{PassId}
use Rattle.mem_base.specs.declared.machine.events.Event.{Event}
use Rattle.mem_base.specs.machine.World.{World, world_after, reply, number_in}
use Rattle.mem_base.specs.machine.History.{run_events}
use Rattle.mem_base.specs.machine.Composites.{numbers_of}
use Rattle.world_core.specs.Hands.{shown_to, HasRun}

-- events that are run one after another, in two parts
world_then : (w : World) (es fs : List Event) → (run_events w (es ++ fs)).world ≡ (run_events (run_events w es).world fs).world
world_then w [] fs = refl
world_then w (e ∷ es) fs = world_then (world_after w e) es fs

replies_then : (w : World) (es fs : List Event)
    → numbers_of (run_events w (es ++ fs)).entries ≡ numbers_of (run_events w es).entries ++ numbers_of (run_events (run_events w es).world fs).entries
replies_then w [] fs = refl
replies_then w (e ∷ es) fs = ap (λ (ns : List ℕ). number_in (reply w e) ∷ ns) (replies_then (world_after w e) es fs)

pub run_none : (pass : PassId) (w : World) → HasRun pass w [] [] w
run_none pass w = record { world = refl; replies_are = refl; shows = refl; inside = refl }

then_run : (pass : PassId) (u v w : World) (es fs : List Event) (rs qs : List ℕ) → HasRun pass u es rs v → HasRun pass v fs qs w
    → HasRun pass u (es ++ fs) (rs ++ qs) w
then_run pass u v w es fs rs qs k l = record {
  world = l.world ∙ ap (λ (x : World). (run_events x fs).world) k.world ∙ sym (world_then u es fs);
  replies_are = (λ i. k.replies_are i ++ l.replies_are i)
      ∙ ap (λ (x : World). numbers_of (run_events u es).entries ++ numbers_of (run_events x fs).entries) k.world ∙ sym (replies_then u es fs);
  shows = l.shows ∙ k.shows;
  inside = l.inside ∙ k.inside;
}

-- the same of a pass that is called by two names
pub run_then : (pass same : PassId) → same ≡ pass → (u v w : World) (es fs : List Event) (rs qs : List ℕ) → HasRun pass u es rs v → HasRun same v fs qs w
    → HasRun pass u (es ++ fs) (rs ++ qs) w
run_then pass same e u v w es fs rs qs k l = then_run pass u v w es fs rs qs k (subst (λ (q : PassId). HasRun q v fs qs w) e l)

pub run_stays : (pass same : PassId) → same ≡ pass → (v w : World) (es : List Event) (rs : List ℕ) → HasRun pass v es rs w
    → shown_to w same ≡ shown_to v pass
run_stays pass same e v w es rs k = ap (λ (q : PassId). shown_to w q) e ∙ k.shows
