-- Tables of slots, generation after generation.
use Rattle.std.proofs.Common.{◌≡◌, ◌<◌, ◌+◌, ℕ, List, [], ◌∷◌, ◌++◌, length, take, get_or, add-one, refl, sym, ap, subst, ◌∙◌}
use Rattle.std.specs.Arc.{arc_value}
use Rattle.std.specs.declared.sync.Arc.{Arc}
use Rattle.mem_base.specs.declared.map.ids.SpaceId.{SpaceId}
use Rattle.mem_base.specs.lists.Every.{Every}
use Rattle.mem_base.specs.script.Scripts.{Line}
use Rattle.mem_base.specs.script.Spelling.{Text}
use Rattle.mem_base.specs.views.Flattened.{view_of}
use Rattle.generation.specs.Published.{Published}
use Rattle.view_slots.specs.Edges.{HasEnds, Keeps}
use Rattle.view_slots.proofs.EdgeLaws.{all_kept}
use Rattle.script_map.specs.Left.{Shown, all_shown, first_of, published_in, shown_by}
use Rattle.script_memory.specs.Told.{Told, told_of}
use Rattle.scope_run.specs.Tables.{HasEdges, TellsSlots, TellsSlotsIn}
use Rattle.std.proofs.Math.Seq.{take-suc}

-- edges that are there stay
edges_kept : (old new : List ℕ) (space : SpaceId) (gs : List Shown) → Keeps old new → HasEdges old space gs → HasEdges new space gs
edges_kept old new space [] k h = tt
edges_kept old new space (g ∷ gs) k h = (all_kept old new (view_of g.forest space) k h.0, edges_kept old new space gs k h.1)

edges_more : (edges : List ℕ) (space : SpaceId) (gs : List Shown) (g : Shown) → HasEdges edges space gs → Every (HasEnds edges) (view_of g.forest space)
    → HasEdges edges space (gs ++ g ∷ [])
edges_more edges space [] g h e = (e, tt)
edges_more edges space (x ∷ gs) g h e = (h.0, edges_more edges space gs g h.1 e)

shown_more : {Z : Type 0} (xs : List (Arc Published Z)) (x : Arc Published Z) → all_shown (xs ++ x ∷ []) ≡ all_shown xs ++ shown_by (arc_value x) ∷ []
shown_more [] x = refl
shown_more (y ∷ xs) x = ap (λ (zs : List Shown). shown_by (arc_value y) ∷ zs) (shown_more xs x)

-- the edges of one generation more
pub edges_next : {Z : Type 0} (old new : List ℕ) (space : SpaceId) (gs : List (Arc Published Z)) (i : ℕ) (d g : Arc Published Z) → i < length gs
    → g ≡ get_or gs i d → HasEdges old space (all_shown (take i gs)) → Keeps old new → Every (HasEnds new) (view_of (arc_value g).forest space)
    → HasEdges new space (all_shown (take (i + 1) gs))
edges_next {Z} old new space gs i d g l is h k e =
    let longer : take i gs ++ g ∷ [] ≡ take (i + 1) gs =
    ap (λ y. take i gs ++ y ∷ []) is ∙ sym (take-suc gs i d l) ∙ ap (λ n. take n gs) (sym (add-one i)) in
    subst (λ (ys : List (Arc Published Z)). HasEdges new space (all_shown ys)) longer
    (subst (HasEdges new space) (sym (shown_more (take i gs) g))
    (edges_more new space (all_shown (take i gs)) (shown_by (arc_value g)) (edges_kept old new space (all_shown (take i gs)) k h) e))

-- the spaces of a script in the generations that it publishes
pub slots_whole : (script : Text) (lines : List Line) (m : Told) (gs : List Shown) (text : Text) → m ≡ told_of script lines
    → gs ≡ published_in (first_of lines) lines → TellsSlotsIn m.state gs text → TellsSlots script lines text
slots_whole script lines m gs text h is t =
    subst (λ (x : Told). TellsSlotsIn x.state (published_in (first_of lines) lines) text) h (subst (λ xs. TellsSlotsIn m.state xs text) is t)
