-- The views of forests that accepted calls make.
use Rattle.std.proofs.Common.{◌≡◌, ℕ, zero, suc, ◌<◌, not, true, false, List, [], Option, Some, None, refl, sym}
use Rattle.std.proofs.Common.{ap, subst, ◌∙◌, arith}
use Rattle.mem_base.specs.declared.map.ids.SpaceId.{SpaceId}
use Rattle.mem_base.specs.declared.map.forests.Node.{Node}
use Rattle.mem_base.specs.declared.map.forests.Forest.{Forest}
use Rattle.mem_base.specs.declared.map.ioevents.Ioevent.{Ioevent}
use Rattle.mem_base.specs.declared.map.refusals.Refusal.TheVariants.{BadOps}
use Rattle.mem_base.specs.declared.views.flat.FlatRange.{FlatRange}
use Rattle.mem_base.specs.declared.map.ioevents.Live.{Live}
use Rattle.mem_base.specs.lists.Every.{Every}
use Rattle.mem_base.specs.map.Region.{node_of}
use Rattle.std.specs.Prelude.{option_and_then, unwrap_or, option_map}
use Rattle.mem_base.specs.map.Limits.{most_depth}
use Rattle.mem_base.specs.map.Search.{root_of, found_in, spot_of}
use Rattle.mem_base.specs.map.Devices.{is_access_size}
use Rattle.mem_base.specs.map.Events.{is_good_event}
use Rattle.mem_base.specs.map.TableRefusals.{bad_event}
use Rattle.mem_base.specs.map.Forest.{IsMade, IsClosedForest, IsRegion}
use Rattle.mem_base.specs.map.Touched.{is_touched}
use Rattle.mem_base.specs.views.View.{IsView}
use Rattle.mem_base.specs.views.Flattened.{view_of}
use Rattle.mem_base.specs.views.LiveEvents.{lives_of, lives_in}
use Rattle.mem_base.proofs.EveryLaws.{weaker}
use Rattle.mem_base.proofs.ForestLaws.{every_node_of}
use Rattle.mem_base.proofs.ViewLaws.{IsView-unique}
use Rattle.map_laws.proofs.OffsetLaws.{IsView-made}
use Rattle.map_laws.proofs.RefusalLaws.{refuse_if-none}
use Rattle.view_laws.specs.LiveLists.{HaveBytes}
use Rattle.view_laws.proofs.LiveRanges.{lives_agree}
use Rattle.view_laws.proofs.TouchedLaws.{untouched_view}
use Rattle.std.proofs.lemmas.Bool.{not-false}
use Rattle.map_laws.proofs.MadeForests.{closed_made, ordered_made}

-- the view of a forest at a space is its view
pub view_made : (f : Forest) (s : SpaceId) → IsMade f → IsView f s (view_of f s)
view_made f s m = subst (λ g. IsView g s (view_of g s)) m.made (IsView-made m.calls s m.fitting)

pub view_is : (f : Forest) (s : SpaceId) (rs : List FlatRange) → IsMade f → IsView f s rs → rs ≡ view_of f s
view_is f s rs m k = IsView-unique f s rs (view_of f s) k (view_made f s m)

-- a space that is not there shows nothing
pub nothing_shown : (f : Forest) (s : SpaceId) → IsMade f → root_of f s ≡ None → [] ≡ view_of f s
nothing_shown f s m e = view_is f s [] m (record {
  agrees = record {
    ranges = omega arith;
    shows = λ a l. sym (ap (λ o. spot_of (option_and_then (λ r. found_in f most_depth r a) o)) e);
    paths = tt;
  };
  merged = tt;
})

-- each ioeventfd has bytes
sized : (size : ℕ) → is_access_size size ≡ true → 0 < size
sized zero h = absurd (grind arith)
sized (suc n) h = omega arith

has_bytes : (e : Ioevent) → bad_event e ≡ None → 0 < e.size
has_bytes e h =
    let good : is_good_event e ≡ true = not-false (is_good_event e) (refuse_if-none (not (is_good_event e)) BadOps h) in
    sized e.size (grind (arith, good))

have_bytes : (f : Forest) → IsClosedForest f → HaveBytes f
have_bytes f k region = go (node_of f.nodes region) refl
  where
    go : (o : Option Node) → node_of f.nodes region ≡ o → Every (λ e. 0 < e.size) (unwrap_or (option_map (λ (m : Node). m.events) o) [])
    go None e = tt
    go (Some n) e = weaker (λ x. bad_event x ≡ None) (λ x. 0 < x.size) has_bytes n.events
        (every_node_of (IsRegion f.nodes) f.nodes region n e k.regions).0.good_events

-- the live ioeventfds of the view are those of the forest
pub lives_are : (f : Forest) (s : SpaceId) (rs : List FlatRange) (ls : List Live) → IsMade f → rs ≡ view_of f s → ls ≡ lives_in f rs → ls ≡ lives_of f s
lives_are f s rs ls m shown e =
    e ∙ ap (lives_in f) shown ∙ sym (lives_agree f s (view_of f s) (have_bytes f (closed_made f m)) (view_made f s m).agrees)

-- an untouched space keeps its view
pub view_stays : (f g : Forest) (s : SpaceId) → IsMade f → IsMade g → is_touched f g s ≡ false → view_of f s ≡ view_of g s
view_stays f g s m n calm = untouched_view f g s (ordered_made f m).ascending (ordered_made g n).ascending calm
