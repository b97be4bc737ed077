-- What a name stands for, by what is known and in a run.
use Rattle.std.proofs.Common.{◌≡◌, ◌<◌, ◌≤◌, ◌+◌, ◌-◌, ℕ, suc, Bool, true, false, ◌&&◌, if◌then◌else◌, List, [], ◌∷◌}
use Rattle.std.proofs.Common.{length, Option, Some, None, refl, sym, ap, ◌∙◌, arith}
use Rattle.std.specs.Prelude.{option_map, slice_index_or, not, ◌==◌}
use Rattle.std.specs.List.{list_any}
use Rattle.std.specs.Str.{bytes_eq}
use Rattle.std.proofs.lemmas.Slice.Eq.{bytes_eq-Decides}
use Rattle.mem_base.specs.declared.map.ids.RegionId.{RegionId}
use Rattle.mem_base.specs.declared.map.ids.SpaceId.{SpaceId}
use Rattle.mem_base.specs.declared.map.ids.ListenerId.{ListenerId}
use Rattle.mem_base.specs.machine.World.{World}
use Rattle.mem_base.specs.script.Spelling.{Text}
use Rattle.mem_base.specs.script.Named.{region_name, space_name}
use Rattle.mem_base.specs.script.States.{number_from, has_region, has_listener}
use Rattle.mem_base.specs.script.States as states
use Rattle.mem_base.specs.script.Tasks.{Known, region_id, region_named, space_named, listener_named}
use Rattle.mem_base.specs.machine.Reaps.{is_among}
use Rattle.view_laws.proofs.Tests.{none_is_not_some}
use Rattle.run_laws.specs.KnownNames.{KnowsNames}
use Rattle.run_laws.specs.TaskSteps.{known_state}
use Rattle.std.proofs.lemmas.Bool.{and_parts}
use Rattle.std.proofs.lemmas.Option.{same_Some}

-- tests that agree on the numbers of some names
pub from_agree : (n : ℕ) (names : List Text) (p q : ℕ → Bool) → ((k : ℕ) → n ≤ k → k < n + length names → p k ≡ q k) → (name : Text)
    → number_from n names p name ≡ number_from n names q name
from_agree n [] p q h name = refl
from_agree n (x ∷ xs) p q h name =
    let here : p n ≡ q n = h n (omega arith) (omega arith) in
    let ih = from_agree (n + 1) xs p q (λ k l m. h k (omega arith) (omega arith)) name in
    (λ i. if bytes_eq x name && here i then Some n else ih i)

-- what a name stands for is a number of that name
pub record IsNumbered (n : ℕ) (names : List Text) (name : Text) (m : ℕ) : Type 0 where
  pub low : n ≤ m
  pub high : m < n + length names
  pub named : slice_index_or names (m - n) [] ≡ name

at_first : (x : Text) (xs : List Text) (j : ℕ) → j ≡ 0 → slice_index_or (x ∷ xs) j [] ≡ x
at_first x xs j e = ap (λ (i : ℕ). slice_index_or (x ∷ xs) i []) e

at_later : (x : Text) (xs : List Text) (j i : ℕ) → j ≡ suc i → slice_index_or (x ∷ xs) j [] ≡ slice_index_or xs i []
at_later x xs j i e = ap (λ (z : ℕ). slice_index_or (x ∷ xs) z []) e

pub numbered : (n : ℕ) (names : List Text) (p : ℕ → Bool) (name : Text) (m : ℕ) → number_from n names p name ≡ Some m → IsNumbered n names name m
numbered n [] p name m e = none_is_not_some m e
numbered n (x ∷ xs) p name m e = go (bytes_eq x name && p n) refl e (numbered (n + 1) xs p name m)
  where
    go : (b : Bool) → (bytes_eq x name && p n) ≡ b → (if b then Some n else number_from (n + 1) xs p name) ≡ Some m
        → (number_from (n + 1) xs p name ≡ Some m → IsNumbered (n + 1) xs name m) → IsNumbered n (x ∷ xs) name m
    go true h e ih = let same : n ≡ m = same_Some n m e in record {
      low = omega arith;
      high = omega arith;
      named = at_first x xs (m - n) (omega arith) ∙ (bytes_eq-Decides x name).0 (and_parts (bytes_eq x name) (p n) h).0;
    }
    go false h e ih = let t = ih e in let low = t.low in let high = t.high in record {
      low = omega arith;
      high = omega arith;
      named = at_later x xs (m - n) (m - (n + 1)) (omega arith) ∙ t.named;
    }

mapped : {A B : Type 0} (f : A → B) (o : Option A) (y : B) → option_map f o ≡ Some y → (x : A) × (o ≡ Some x) × (f x ≡ y)
mapped f None y e = none_is_not_some y e
mapped f (Some x) y e = (x, refl, same_Some (f x) y e)

zero_less : (m : ℕ) → m - 0 ≡ m
zero_less m = omega arith

module _ (k : Known) where
  -- what stands for something was made with that name
  pub region_called : (name : Text) (r : RegionId) → region_named k name ≡ Some r → (region_name k.names r ≡ name) × (r.0 < length k.names.regions)
  region_called name r e =
      let x = mapped region_id (number_from 0 k.names.regions (λ n. not (is_among k.dropped (region_id n))) name) r e in
      let t = numbered 0 k.names.regions (λ n. not (is_among k.dropped (region_id n))) name x.0 x.1 in
      let same : x.0 ≡ r.0 = ap (λ (q : RegionId). q.0) x.2 in
      let high = t.high in (
        ap (λ (j : ℕ). slice_index_or k.names.regions j []) (sym same ∙ sym (zero_less x.0)) ∙ t.named,
        omega (arith, same, high),
      )

  pub space_called : (name : Text) (s : SpaceId) → space_named k name ≡ Some s → space_name k.names s ≡ name
  space_called name s e =
      let x = mapped (λ (n : ℕ). let y : SpaceId = record { 0 = n } in y) (number_from 0 k.names.spaces (λ n. true) name) s e in
      let t = numbered 0 k.names.spaces (λ n. true) name x.0 x.1 in
      let same : x.0 ≡ s.0 = ap (λ (q : SpaceId). q.0) x.2 in
      ap (λ (j : ℕ). slice_index_or k.names.spaces j []) (sym same ∙ sym (zero_less x.0)) ∙ t.named

  pub listener_called : (name : Text) (l : ListenerId) → listener_named k name ≡ Some l → l.0 < length k.names.listeners
  listener_called name l e =
      let p : ℕ → Bool = λ n. not (list_any (λ (g : ListenerId). g.0 == n) k.gone) in
      let x = mapped (λ (n : ℕ). let y : ListenerId = record { 0 = n } in y) (number_from 0 k.names.listeners p name) l e in
      let t = numbered 0 k.names.listeners p name x.0 x.1 in
      let same : x.0 ≡ l.0 = ap (λ (q : ListenerId). q.0) x.2 in
      let high = t.high in omega (arith, same, high)

  -- a name stands for the same in a run
  module _ (w : World) (a : KnowsNames k w.writer.desk) where
    pub regions_agree : (name : Text) → states.region_named (known_state k w) name ≡ region_named k name
    regions_agree name = ap (option_map region_id)
        (from_agree 0 k.names.regions (has_region (known_state k w)) (λ n. not (is_among k.dropped (region_id n)))
        (λ n l m. a.regions n (omega arith)) name)

    pub listeners_agree : (name : Text) → states.listener_named (known_state k w) name ≡ listener_named k name
    listeners_agree name = ap (option_map (λ (n : ℕ). let y : ListenerId = record { 0 = n } in y))
        (from_agree 0 k.names.listeners (has_listener (known_state k w)) (λ n. not (list_any (λ (g : ListenerId). g.0 == n) k.gone))
        (λ n l m. a.listeners n (omega arith)) name)
