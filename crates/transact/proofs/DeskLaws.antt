-- What a desk's calls leave of it.
use Rattle.std.proofs.Common.{◌≡◌, ℕ, ◌+◌, ◌<◌, ◌≤◌, ◌^◌, ◌⊎◌, inl, inr, Bool, true, false, List, [], refl, sym, ap, subst, Ok, ◌∙◌, arith}
use Rattle.std.specs.Prelude.{Option, None, Some, IfSome, option_map, unwrap_or}
use Rattle.std.proofs.lemmas.Option.{none-some}
use Rattle.mem_base.specs.declared.map.ids.RegionId.{RegionId}
use Rattle.mem_base.specs.declared.map.ids.SpaceId.{SpaceId}
use Rattle.mem_base.specs.declared.map.forests.Forest.{Forest}
use Rattle.mem_base.specs.declared.map.calls.Call.{Call}
use Rattle.mem_base.specs.map.Region.{node_of}
use Rattle.mem_base.specs.map.Calls.{after}
use Rattle.mem_base.specs.map.Forest.{FitsTypes, IsMade}
use Rattle.mem_base.specs.machine.Committed.{transaction}
use Rattle.generation.specs.Published.{Published}
use Rattle.transact.specs.Desks.{DeskState, IsDesk, desk_state, publishes_due}
use Rattle.touched_spaces.specs.Reached.{reached_in}
use Rattle.transact.specs.declared.spare.Next.{Next}
use Rattle.transact.specs.Preparing.{Readied, IsOfDesk, IsFromCall, IsFromCommit}
use Rattle.touched_spaces.specs.Noted.{AreNoted}
use Rattle.transact.specs.Spares.{IsSpare, IsNext}
use Rattle.transact.proofs.MadeLaws.{made_after, counted_after, closed_made}

due_at_most : (b : Bool) → publishes_due b ≤ 1
due_at_most true = omega arith
due_at_most false = omega arith

pub one_more : (now pending : Bool) → publishes_due now ≤ publishes_due pending + 1
one_more now pending = let few = due_at_most now in omega arith

-- an accepted call, inside of a transaction where it is a change
pub called : (f g : Forest) (call : Call) (depth : ℕ) (pending now : Bool) (current : Published) (known : List (SpaceId × List RegionId))
    (noted new_noted : Option (List RegionId)) (spare new_spare : Option Forest) → IsDesk (desk_state (transaction f depth pending) current) known noted spare
    → FitsTypes call → after f call ≡ Ok g → (depth ≡ 0 → now ≡ false) → publishes_due now ≤ publishes_due pending + 1 → AreNoted current.forest g new_noted
    → IsSpare g new_spare → IsDesk (desk_state (transaction g depth now) current) known new_noted new_spare
called f g call depth pending now current known noted new_noted spare new_spare d fits e idle due noted_are same = record {
  made = made_after f g call d.made fits e;
  nested = d.nested;
  idle = idle;
  counted = let more = counted_after f g call e in let few = d.counted in omega arith;
  known_is = d.known_is;
  noted_are = noted_are;
  spare_is = same;
}

-- the tree that goes with what was prepared, or where there is none the desk's own, is the forest of its generation
pub next_tree : (d : DeskState) (r : Readied) (next : Option Next) (tree : Forest) → IsOfDesk d r → r.call ≡ option_map (λ (n : Next). n.call) next
    → IfSome next (IsNext r.generation.forest) → tree ≡ unwrap_or (option_map (λ (n : Next). n.tree) next) d.state.forest → tree ≡ r.generation.forest
next_tree d r None tree of_it call is same = go of_it.source
  where
    go : IsFromCall d r ⊎ IsFromCommit d r → tree ≡ r.generation.forest
    go (inl (outside, one)) = absurd (none-some one.0 (sym call ∙ one.1))
    go (inr (one, due, none, own)) = same ∙ sym own
next_tree d r (Some n) tree of_it call is same = same ∙ is.0

-- the call that goes with it makes that tree of the desk's own
pub next_call : (d : DeskState) (r : Readied) (next : Option Next) → IsOfDesk d r → r.call ≡ option_map (λ (n : Next). n.call) next
    → IfSome next (IsNext r.generation.forest) → IfSome next (λ n. after d.state.forest n.call ≡ Ok n.tree)
next_call d r None of_it call is = tt
next_call d r (Some n) of_it call is = go of_it.source
  where
    go : IsFromCall d r ⊎ IsFromCommit d r → after d.state.forest n.call ≡ Ok n.tree
    go (inl (outside, one)) =
        let same : n.call ≡ one.0 = ap (λ o. unwrap_or o n.call) (sym call ∙ one.1) in
        ap (after d.state.forest) same ∙ one.2 ∙ ap (λ f. Ok f) (sym is.0)
    go (inr (one, due, none, own)) = absurd (none-some n.call (sym none ∙ call))

-- it is that call alone which the tree before it lacks
pub next_lacks : (f : Forest) (next : Option Next) → IfSome next (IsNext f) → IfSome next (λ n. IsNext n.tree n)
next_lacks f None is = tt
next_lacks f (Some n) is = (refl, is.1)

-- what was prepared, when it is current
pub done_desk : (d : DeskState) (r : Readied) (tree : Forest) (known new_known : List (SpaceId × List RegionId)) (noted : Option (List RegionId))
    (spare new_spare : Option Forest) → IsDesk d known noted spare → IsOfDesk d r → IsMade r.generation.forest → tree ≡ r.generation.forest
    → new_known ≡ reached_in r.generation.forest → IsSpare tree new_spare
    → IsDesk (desk_state (transaction tree 0 false) r.generation) new_known (Some []) new_spare
done_desk d r tree known new_known noted spare new_spare k of_it made e reach second = go of_it.source
  where
    whole : r.generation.number ≤ r.generation.forest.calls → IsDesk (desk_state (transaction tree 0 false) r.generation) new_known (Some []) new_spare
    whole few = record {
      made = subst IsMade (sym e) made;
      nested = omega arith;
      idle = λ outside. refl;
      counted = subst (λ (f : Forest). r.generation.number + 0 ≤ f.calls) (sym e) (let l = few in omega arith);
      known_is = reach;
      noted_are = λ q out. ap (λ (f : Forest). node_of f.nodes q) (sym e);
      spare_is = second;
    }

    go : IsFromCall d r ⊎ IsFromCommit d r → IsDesk (desk_state (transaction tree 0 false) r.generation) new_known (Some []) new_spare
    go (inl (outside, one)) =
        let more = counted_after d.state.forest r.generation.forest one.0 one.2 in
        let few = k.counted in
        let number = of_it.number in
        whole (omega arith)
    go (inr (one, due, none, own)) =
        let few : d.current.number + 1 ≤ d.state.forest.calls = subst (λ b. d.current.number + publishes_due b ≤ d.state.forest.calls) due k.counted in
        let number = of_it.number in
        let calls = ap (λ (f : Forest). f.calls) own in
        whole (omega arith)

-- each publish had a call of its own, so 64 bits hold the numbers after the current one
pub number_fits : (d : DeskState) (known : List (SpaceId × List RegionId)) (noted : Option (List RegionId)) (spare : Option Forest)
    → IsDesk d known noted spare → d.current.number + 2 < 2 ^ 64
number_fits d known noted spare k =
    let few : d.current.number + publishes_due d.state.pending ≤ d.state.forest.calls = k.counted in
    let calls : d.state.forest.calls ≤ 2 ^ 62 = (closed_made d.state.forest k.made).few_calls in
    omega arith
