-- Laws of why an Add is refused.
use Rattle.std.proofs.Common.{◌≡◌, ◌≢◌, ℕ, ◌<◌, ◌≤◌, true, false, ◌^◌, ℤ, List, [], ◌∷◌, ◌++◌, length}
use Rattle.std.proofs.Common.{Option, Some, None, refl, sym, ap, ◌∙◌, arith}
use Rattle.std.specs.Prelude.{is_some, is_none}
use Rattle.std.specs.Option.{option_or}
use Rattle.mem_base.specs.declared.map.ids.RegionId.{RegionId}
use Rattle.mem_base.specs.declared.map.forests.Forest.{Forest}
use Rattle.mem_base.specs.declared.map.refusals.Refusal.{Refusal}
use Rattle.mem_base.specs.declared.map.refusals.Refusal.TheVariants.{TooDeep, TooWide, Loop}
use Rattle.mem_base.specs.declared.map.calls.Call.TheVariants as calls
use Rattle.mem_base.specs.map.Region.{node_of}
use Rattle.mem_base.specs.map.Refusals.{first_refusal, unknown_region, has_container, alias_parent, makes_loop, too_deep, or_refused}
use Rattle.mem_base.specs.map.Refusals.{too_wide}
use Rattle.mem_base.specs.map.TableRefusals.{no_more_calls}
use Rattle.mem_base.specs.map.Changes.{changed}
use Rattle.std.specs.Prelude.{Ok, Err}
use Rattle.mem_base.specs.declared.map.calls.Call.{Call}
use Rattle.mem_base.specs.map.Calls.{refusal_of, after, counted}
use Rattle.mem_base.specs.declared.map.forests.Node.{Node}
use Rattle.mem_base.proofs.StepLaws.{reaches_by-apart}
use Rattle.mem_base.specs.lists.Every.{Every}
use Rattle.mem_base.specs.map.Forest.{IsOrderedForest}
use Rattle.region_slots.specs.declared.slots.Slot.{Slot}
use Rattle.region_slots.specs.Slots.{nodes_of}
use Rattle.region_extents.specs.declared.extents.Extent.{Extent}
use Rattle.region_extents.specs.Kept.{extents_in, steps_plus, IsSettledBy, IsShort}
use Rattle.region_extents.proofs.BesideLaws.{joined_extents}
use Rattle.mem_base.specs.map.Steps.{longest, steps_of, reaches, greatest_depth, greatest_weight}
use Rattle.region_slots.proofs.HandedOn.{has_container-none, first_none, refuse_if-none, is_known}
use Rattle.std.proofs.lemmas.Bool.{leb-false, ltb-false}
use Rattle.mem_base.specs.map.Limits.{most_depth, most_weight}

pub first_refusal-append : (xs ys : List (Option Refusal)) → first_refusal (xs ++ ys) ≡ option_or (first_refusal xs) (first_refusal ys)
first_refusal-append [] ys = refl
first_refusal-append (None ∷ xs) ys = first_refusal-append xs ys
first_refusal-append (Some x ∷ xs) ys = refl

pub or_none : (a : Option Refusal) → option_or a None ≡ a
or_none None = refl
or_none (Some x) = refl

-- three refusals, one after another
pub or_three : (a b d : Option Refusal) → option_or (option_or a b) d ≡ option_or a (option_or b (option_or d None))
or_three (Some x) b d = refl
or_three None (Some x) d = refl
or_three None None d = sym (or_none d)

or_assoc : (a b d : Option Refusal) → option_or (option_or a b) d ≡ option_or a (option_or b d)
or_assoc (Some x) b d = refl
or_assoc None b d = refl

-- seven of them
pub or_seven : (a b d e g h i : Option Refusal) →
    option_or (option_or (option_or (option_or (option_or (option_or a b) d) e) g) h) i ≡ option_or a
    (option_or b (option_or d (option_or e (option_or g (option_or h (option_or i None))))))
or_seven a b d e g h i = simp (or_assoc, or_none)

pub stands : (a b : Option Refusal) → is_some a ≡ true → option_or a b ≡ a
stands None b e = cc
stands (Some x) b e = refl

pub stands_not : (a b : Option Refusal) → is_some a ≡ true → is_none (option_or a b) ≡ false
stands_not None b e = cc
stands_not (Some x) b e = refl

-- what holds where nothing stands against an Add but the lengths of paths
pub record IsFree (f : Forest) (parent child : RegionId) : Type 0 where
  pub parent_known : is_some (node_of f.nodes parent) ≡ true
  pub child_known : is_some (node_of f.nodes child) ≡ true
  pub no_container : has_container f child ≡ None
  pub no_alias : alias_parent f parent ≡ None
  pub no_loop : reaches f.nodes child parent ≡ false

pub free_of : (f : Forest) (parent child : RegionId) →
    first_refusal (unknown_region f parent ∷ unknown_region f child ∷ has_container f child ∷ alias_parent f parent ∷ makes_loop f parent child ∷ []) ≡
    None → IsFree f parent child
free_of f parent child e =
    let a = first_none (unknown_region f parent)
    (first_refusal (unknown_region f child ∷ has_container f child ∷ alias_parent f parent ∷ makes_loop f parent child ∷ [])) e in
    let b = first_none (unknown_region f child) (first_refusal (has_container f child ∷ alias_parent f parent ∷ makes_loop f parent child ∷ [])) a.1 in
    let c = first_none (has_container f child) (first_refusal (alias_parent f parent ∷ makes_loop f parent child ∷ [])) b.1 in
    let d = first_none (alias_parent f parent) (first_refusal (makes_loop f parent child ∷ [])) c.1 in
    let l = first_none (makes_loop f parent child) None d.1 in
    record {
      parent_known = is_known f parent a.0;
      child_known = is_known f child b.0;
      no_container = c.0;
      no_alias = d.0;
      no_loop = refuse_if-none (reaches f.nodes child parent) (Loop parent) l.0;
    }

-- the refusal of an Add in three parts
pub refusal_of-add : (f : Forest) (parent : RegionId) (offset : ℕ) (child : RegionId) (priority : ℤ) →
    refusal_of f (calls.Add parent offset child priority) ≡
    option_or (first_refusal (unknown_region f parent ∷ unknown_region f child ∷ has_container f child ∷ alias_parent f parent ∷ makes_loop f parent child ∷
    []))
    (option_or (first_refusal (too_deep (changed f (calls.Add parent offset child priority)).nodes ∷ too_wide
    (changed f (calls.Add parent offset child priority)).nodes ∷ [])) (no_more_calls f))
refusal_of-add f parent offset child priority =
    let early = unknown_region f parent ∷ unknown_region f child ∷ has_container f child ∷ alias_parent f parent ∷ makes_loop f parent child ∷ [] in
    let late = too_deep (changed f (calls.Add parent offset child priority)).nodes ∷ too_wide (changed f (calls.Add parent offset child priority)).nodes ∷ [] in
    first_refusal-append early (late ++ no_more_calls f ∷ [])
    ∙ ap (option_or (first_refusal early)) (first_refusal-append late (no_more_calls f ∷ []) ∙ ap (option_or (first_refusal late)) (or_none (no_more_calls f)))

-- what an accepted Add keeps
pub record IsAllowed (f : Forest) (parent : RegionId) (offset : ℕ) (child : RegionId) (priority : ℤ) : Type 0 where
  pub free : IsFree f parent child
  pub shallow : greatest_depth (changed f (calls.Add parent offset child priority)).nodes ≤ most_depth
  pub narrow : greatest_weight (changed f (calls.Add parent offset child priority)).nodes ≤ most_weight
  pub few : f.calls < 2 ^ 62

pub allowed_of : (f : Forest) (parent : RegionId) (offset : ℕ) (child : RegionId) (priority : ℤ) →
    refusal_of f (calls.Add parent offset child priority) ≡ None → IsAllowed f parent offset child priority
allowed_of f parent offset child priority e =
    let deep = too_deep (changed f (calls.Add parent offset child priority)).nodes in
    let wide = too_wide (changed f (calls.Add parent offset child priority)).nodes in
    let a = first_none (first_refusal (unknown_region f parent ∷ unknown_region f child ∷ has_container f child ∷ alias_parent f parent ∷ makes_loop f parent
    child ∷ [])) (option_or (first_refusal (deep ∷ wide ∷ [])) (no_more_calls f)) (sym (refusal_of-add f parent offset child priority) ∙ e) in
    let b = first_none (first_refusal (deep ∷ wide ∷ [])) (no_more_calls f) a.1 in
    let c = first_none deep (first_refusal (wide ∷ [])) b.0 in
    let d = first_none wide None c.1 in
    let s = refuse_if-none _ (TooDeep (greatest_depth (changed f (calls.Add parent offset child priority)).nodes)) c.0 in
    let n = refuse_if-none _ (TooWide (greatest_weight (changed f (calls.Add parent offset child priority)).nodes)) d.0 in
    let k = refuse_if-none _ _ b.1 in
    record {
      free = free_of f parent child a.0;
      shallow = ltb-false _ _ s;
      narrow = ltb-false _ _ n;
      few = leb-false _ _ k;
    }

pub apart_of : (f : Forest) (parent child : RegionId) → IsFree f parent child → parent.0 ≢ child.0
apart_of f parent child h e = reaches_by-apart (steps_of f.nodes) longest child parent (omega arith) h.no_loop (sym e)

pub loose_of : (f : Forest) (child : RegionId) (n : Node) → has_container f child ≡ None → node_of f.nodes child ≡ Some n → n.parent ≡ None
loose_of f child n h e = has_container-none f child n e h

-- the forest after an accepted call
pub after_free : (f g : Forest) (call : Call) → refusal_of f call ≡ None → g ≡ counted (changed f call) → after f call ≡ Ok g
after_free f g call e h = answered (refusal_of f call) e
  where
    answered : (o : Option Refusal) → o ≡ None → or_refused o (counted (changed f call)) ≡ Ok g
    answered None k = ap Ok (sym h)
    answered (Some why) k = cc

pub refused_after : (f : Forest) (call : Call) (why : Refusal) → refusal_of f call ≡ Some why → after f call ≡ Err why
refused_after f call why h = ap (λ o. or_refused o (counted (changed f call))) h

-- what stands against an Add before loops and the lengths of paths
abbrev pub early : Forest → RegionId → RegionId → Option Refusal
early f parent child = first_refusal (unknown_region f parent ∷ unknown_region f child ∷ has_container f child ∷ alias_parent f parent ∷ [])

or_four : (a b d e late : Option Refusal) (why : Refusal) → option_or a (option_or b (option_or d (option_or e None))) ≡ Some why →
    option_or a (option_or b (option_or d (option_or e late))) ≡ Some why
or_four (Some x) b d e late why h = h
or_four None (Some x) d e late why h = h
or_four None None (Some x) e late why h = h
or_four None None None (Some x) late why h = h
or_four None None None None late why h = cc

pub refused_early : (f : Forest) (parent : RegionId) (offset : ℕ) (child : RegionId) (priority : ℤ) (why : Refusal) → early f parent child ≡ Some why →
    after f (calls.Add parent offset child priority) ≡ Err why
refused_early f parent offset child priority why h =
    refused_after f (calls.Add parent offset child priority) why
    (or_four (unknown_region f parent) (unknown_region f child) (has_container f child) (alias_parent f parent)
    (first_refusal (makes_loop f parent child ∷ too_deep (changed f (calls.Add parent offset child priority)).nodes ∷ too_wide
    (changed f (calls.Add parent offset child priority)).nodes ∷ no_more_calls f ∷ [])) why h)

pub or_five : (a b d e l : Option Refusal) →
    option_or (option_or a (option_or b (option_or d (option_or e None)))) l ≡ option_or a (option_or b (option_or d (option_or e (option_or l None))))
or_five (Some x) b d e l = refl
or_five None (Some x) d e l = refl
or_five None None (Some x) e l = refl
or_five None None None (Some x) l = refl
or_five None None None None l = sym (or_none l)

all_none : (a b d e g h i j : Option Refusal) → a ≡ None → b ≡ None → d ≡ None → e ≡ None → g ≡ None → h ≡ None → i ≡ None → j ≡ None →
    option_or a (option_or b (option_or d (option_or e (option_or g (option_or h (option_or i (option_or j None))))))) ≡ None
all_none a b d e g h i j p q r s t u v w = rw (p, q, r, s, t, u, v, w) refl

-- an Add after which all regions settle within the limits
pub record IsJoinedAdd (f : Forest) (parent : RegionId) (offset : ℕ) (child : RegionId) (priority : ℤ) (es : List Extent) : Type 0 where
  pub accepted : refusal_of f (calls.Add parent offset child priority) ≡ None
  pub extents : es ≡ extents_in (changed f (calls.Add parent offset child priority)).nodes

pub joined_add : (f : Forest) → IsOrderedForest f → (slots : List Slot) → f.nodes ≡ nodes_of slots → (parent child : RegionId) →
    early f parent child ≡ None → no_more_calls f ≡ None →
    (es : List Extent) → ((v : RegionId) → IsSettledBy (steps_plus (nodes_of slots) (Some (record { parent = parent; child = child }))) slots es v) →
    Every IsShort es → length es ≡ length slots → (offset : ℕ) (priority : ℤ) → IsJoinedAdd f parent offset child priority es
joined_add f h slots seen parent child none more es settled short all offset priority =
    let a = first_none (unknown_region f parent) (first_refusal (unknown_region f child ∷ has_container f child ∷ alias_parent f parent ∷ [])) none in
    let b = first_none (unknown_region f child) (first_refusal (has_container f child ∷ alias_parent f parent ∷ [])) a.1 in
    let d = first_none (has_container f child) (first_refusal (alias_parent f parent ∷ [])) b.1 in
    let e = first_none (alias_parent f parent) None d.1 in
    let j = joined_extents f h slots seen parent child (is_known f parent a.0) (is_known f child b.0) e.0 d.0 es settled short all offset priority in
    let deep = too_deep (changed f (calls.Add parent offset child priority)).nodes in
    let wide = too_wide (changed f (calls.Add parent offset child priority)).nodes in
    let l = first_none (makes_loop f parent child) (first_refusal (deep ∷ wide ∷ [])) j.allowed in
    let m = first_none deep (first_refusal (wide ∷ [])) l.1 in
    let n = first_none wide None m.1 in
    record {
      accepted = all_none (unknown_region f parent) (unknown_region f child) (has_container f child) (alias_parent f parent)
          (makes_loop f parent child) deep wide (no_more_calls f) a.0 b.0 d.0 e.0 l.0 m.0 n.0 more;
      extents = j.extents;
    }
