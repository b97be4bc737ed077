-- What the tables of names hold, as names are made and let go.
use Rattle.std.proofs.Common.{◌≡◌, ◌≢◌, ◌<◌, ◌≤◌, ◌+◌, ℕ, Bool, true, List, [], ◌∷◌, ◌++◌, length, Option, Some, None, refl, sym, ap, subst}
use Rattle.std.proofs.Common.{◌∙◌, arith, ne_eqb, eq-eqb}
use Rattle.std.specs.Prelude.{not, option_map, ◌==◌}
use Rattle.std.specs.List.{list_any}
use Rattle.std.proofs.lemmas.List.{length-append}
use Rattle.mem_base.specs.declared.map.ids.RegionId.{RegionId}
use Rattle.mem_base.specs.declared.map.ids.ListenerId.{ListenerId}
use Rattle.mem_base.specs.machine.Reaps.{is_among}
use Rattle.mem_base.specs.script.Spelling.{Text}
use Rattle.mem_base.specs.script.Named.{Names}
use Rattle.mem_base.specs.script.Tasks.{region_id}
use Rattle.mem_base.specs.script.Watching.{Watcher}
use Rattle.script_names.specs.Tables.{AllNames, Rebinds, Table, number_of, printed_names, table}
use Rattle.view_laws.proofs.Tests.{none_is_not_some}
use Rattle.run_laws.proofs.DeskLaws.{any_push}
use Rattle.run_laws.proofs.Naming.{numbered}
use Rattle.race_lines.specs.NamedTables.{IsNamed}
use Rattle.race_lines.specs.KnownNames.{HoldsNames, is_kept, listens_on, watches}
use Rattle.race_lines.proofs.NamedLaws.{named_drop, named_none, named_push}
use Rattle.std.proofs.lemmas.Bool.{or_right}
use Rattle.std.proofs.lemmas.Option.{same_Some}
use Rattle.mem_base.proofs.BoolLaws.{or_false}

abbrev no_tables : AllNames
no_tables = record { regions = table [] []; kinds = []; spaces = table [] []; listeners = table [] []; notifiers = table [] [] }

-- before the first name
pub holds_nothing : (names : AllNames) (watchers : List Watcher) → names ≡ no_tables → watchers ≡ [] → HoldsNames names [] [] watchers
holds_nothing names watchers e f = subst (λ (x : AllNames). HoldsNames x [] [] watchers) (sym e)
    (subst (HoldsNames no_tables [] []) (sym f) (record {
      regions = named_none (is_kept []);
      spaces = named_none (λ n. true);
      listeners = named_none (listens_on []);
      notifiers = named_none (watches []);
      made = λ n l. refl;
      left = λ n l. refl;
      fresh = λ n l. refl;
    }))

-- what a name stands for, by its number

pub none_named : {A : Type 0} (f : ℕ → A) (o : Option ℕ) → option_map f o ≡ None → o ≡ None
none_named f None e = refl
none_named f (Some n) e = none_is_not_some (f n) (sym e)

pub some_named : {A : Type 0} (f : ℕ → A) (g : A → ℕ) → ((n : ℕ) → g (f n) ≡ n) → (o : Option ℕ) (x : A) → option_map f o ≡ Some x → o ≡ Some (g x)
some_named f g same None x e = none_is_not_some x e
some_named f g same (Some n) x e = ap Some (sym (same n) ∙ ap g (same_Some (f n) x e))

-- a number that a name stands for is one of those that were made
pub is_made : (t : Table) (p : ℕ → Bool) (name : Text) (n : ℕ) → IsNamed t p → number_of t.bound name ≡ Some n → n < length t.made
is_made t p name n k e = let high = (numbered 0 t.made p name n (sym (k.finds name) ∙ e)).high in omega (arith, high)

module _ (names after : AllNames) (dropped : List RegionId) (gone : List ListenerId) (watchers : List Watcher) (h : HoldsNames names dropped gone watchers)
    (name : Text) where
  longer : (made made' : List Text) (n : ℕ) → made' ≡ made ++ name ∷ [] → length made' ≤ n → length made ≤ n
  longer made made' n e l =
      let more : length made' ≡ length made + 1 = ap length e ∙ length-append made (name ∷ []) in omega (arith, more, l)

  pushed : (t : Table) (n : ℕ) → n ≡ length t.made → table (t.bound ++ (name, n) ∷ []) (t.made ++ name ∷ [])
      ≡ table (t.bound ++ (name, length t.made) ∷ []) (t.made ++ name ∷ [])
  pushed t n e i = table (t.bound ++ (name, e i) ∷ []) (t.made ++ name ∷ [])

  -- a region, a space or a listener is made

  pub region_made : (n : ℕ) → number_of names.regions.bound name ≡ None → n ≡ length names.regions.made
      → after.regions ≡ table (names.regions.bound ++ (name, n) ∷ []) (names.regions.made ++ name ∷ [])
      → after ≡ record names { regions = after.regions; kinds = after.kinds } → HoldsNames after dropped gone watchers
  region_made n free is regions others = record {
    regions = subst (λ (t : Table). IsNamed t (is_kept dropped)) (sym (regions ∙ pushed names.regions n is))
        (named_push names.regions (is_kept dropped) (is_kept dropped) name h.regions free (λ k l. refl)
        (ap not (h.made (length names.regions.made) (omega arith))));
    spaces = subst (λ (t : Table). IsNamed t (λ k. true)) (sym (ap (λ (y : AllNames). y.spaces) others)) h.spaces;
    listeners = subst (λ (t : Table). IsNamed t (listens_on gone)) (sym (ap (λ (y : AllNames). y.listeners) others)) h.listeners;
    notifiers = subst (λ (t : Table). IsNamed t (watches watchers)) (sym (ap (λ (y : AllNames). y.notifiers) others)) h.notifiers;
    made = λ k l. h.made k (longer names.regions.made after.regions.made k (ap (λ (t : Table). t.made) regions) l);
    left = λ k l. h.left k (subst (λ (t : Table). length t.made ≤ k) (ap (λ (y : AllNames). y.listeners) others) l);
    fresh = λ k l. h.fresh k (subst (λ (t : Table). length t.made ≤ k) (ap (λ (y : AllNames). y.notifiers) others) l);
  }

  pub space_made : (n : ℕ) → number_of names.spaces.bound name ≡ None → n ≡ length names.spaces.made
      → after.spaces ≡ table (names.spaces.bound ++ (name, n) ∷ []) (names.spaces.made ++ name ∷ [])
      → after ≡ record names { spaces = after.spaces } → HoldsNames after dropped gone watchers
  space_made n free is spaces others = record {
    regions = subst (λ (t : Table). IsNamed t (is_kept dropped)) (sym (ap (λ (y : AllNames). y.regions) others)) h.regions;
    spaces = subst (λ (t : Table). IsNamed t (λ k. true)) (sym (spaces ∙ pushed names.spaces n is))
        (named_push names.spaces (λ k. true) (λ k. true) name h.spaces free (λ k l. refl) refl);
    listeners = subst (λ (t : Table). IsNamed t (listens_on gone)) (sym (ap (λ (y : AllNames). y.listeners) others)) h.listeners;
    notifiers = subst (λ (t : Table). IsNamed t (watches watchers)) (sym (ap (λ (y : AllNames). y.notifiers) others)) h.notifiers;
    made = λ k l. h.made k (subst (λ (t : Table). length t.made ≤ k) (ap (λ (y : AllNames). y.regions) others) l);
    left = λ k l. h.left k (subst (λ (t : Table). length t.made ≤ k) (ap (λ (y : AllNames). y.listeners) others) l);
    fresh = λ k l. h.fresh k (subst (λ (t : Table). length t.made ≤ k) (ap (λ (y : AllNames). y.notifiers) others) l);
  }

  pub listener_made : (n : ℕ) → number_of names.listeners.bound name ≡ None → n ≡ length names.listeners.made
      → after.listeners ≡ table (names.listeners.bound ++ (name, n) ∷ []) (names.listeners.made ++ name ∷ [])
      → after ≡ record names { listeners = after.listeners } → HoldsNames after dropped gone watchers
  listener_made n free is listeners others = record {
    regions = subst (λ (t : Table). IsNamed t (is_kept dropped)) (sym (ap (λ (y : AllNames). y.regions) others)) h.regions;
    spaces = subst (λ (t : Table). IsNamed t (λ k. true)) (sym (ap (λ (y : AllNames). y.spaces) others)) h.spaces;
    listeners = subst (λ (t : Table). IsNamed t (listens_on gone)) (sym (listeners ∙ pushed names.listeners n is))
        (named_push names.listeners (listens_on gone) (listens_on gone) name h.listeners free (λ k l. refl)
        (ap not (h.left (length names.listeners.made) (omega arith))));
    notifiers = subst (λ (t : Table). IsNamed t (watches watchers)) (sym (ap (λ (y : AllNames). y.notifiers) others)) h.notifiers;
    made = λ k l. h.made k (subst (λ (t : Table). length t.made ≤ k) (ap (λ (y : AllNames). y.regions) others) l);
    left = λ k l. h.left k (longer names.listeners.made after.listeners.made k (ap (λ (t : Table). t.made) listeners) l);
    fresh = λ k l. h.fresh k (subst (λ (t : Table). length t.made ≤ k) (ap (λ (y : AllNames). y.notifiers) others) l);
  }

  -- a region is dropped, or a listener leaves

  pub region_dropped : (region : RegionId) → number_of names.regions.bound name ≡ Some region.0
      → Rebinds names.regions.bound after.regions.bound name None → printed_names after ≡ printed_names names
      → after ≡ record names { regions = after.regions } → HoldsNames after (dropped ++ region ∷ []) gone watchers
  region_dropped region named binds same others =
      let made : after.regions.made ≡ names.regions.made = ap (λ (x : Names). x.regions) same in
      let near = is_made names.regions (is_kept dropped) name region.0 h.regions named in record {
        regions = named_drop names.regions after.regions (is_kept dropped) (is_kept (dropped ++ region ∷ [])) name region.0 h.regions named
            (λ k other. ap not (still k other))
            (ap not (any_push (λ (r : RegionId). r.0 == region.0) dropped region
            ∙ or_right (is_among dropped region) (region.0 == region.0) (eq-eqb region.0 region.0 refl))) binds made;
        spaces = subst (λ (t : Table). IsNamed t (λ k. true)) (sym (ap (λ (y : AllNames). y.spaces) others)) h.spaces;
        listeners = subst (λ (t : Table). IsNamed t (listens_on gone)) (sym (ap (λ (y : AllNames). y.listeners) others)) h.listeners;
        notifiers = subst (λ (t : Table). IsNamed t (watches watchers)) (sym (ap (λ (y : AllNames). y.notifiers) others)) h.notifiers;
        made = λ k l. let m : length names.regions.made ≤ k = subst (λ (t : List Text). length t ≤ k) made l in
            still k (λ e. omega (arith, e, near, m)) ∙ h.made k m;
        left = λ k l. h.left k (subst (λ (t : Table). length t.made ≤ k) (ap (λ (y : AllNames). y.listeners) others) l);
        fresh = λ k l. h.fresh k (subst (λ (t : Table). length t.made ≤ k) (ap (λ (y : AllNames). y.notifiers) others) l);
      }
    where
      still : (k : ℕ) → k ≢ region.0 → is_among (dropped ++ region ∷ []) (region_id k) ≡ is_among dropped (region_id k)
      still k other = any_push (λ (r : RegionId). r.0 == k) dropped region
          ∙ or_false (is_among dropped (region_id k)) (region.0 == k) (ne_eqb region.0 k (λ e. other (sym e)))

  pub listener_left : (listener : ListenerId) → number_of names.listeners.bound name ≡ Some listener.0
      → Rebinds names.listeners.bound after.listeners.bound name None → printed_names after ≡ printed_names names
      → after ≡ record names { listeners = after.listeners } → HoldsNames after dropped (gone ++ listener ∷ []) watchers
  listener_left listener named binds same others =
      let made : after.listeners.made ≡ names.listeners.made = ap (λ (x : Names). x.listeners) same in
      let near = is_made names.listeners (listens_on gone) name listener.0 h.listeners named in record {
        regions = subst (λ (t : Table). IsNamed t (is_kept dropped)) (sym (ap (λ (y : AllNames). y.regions) others)) h.regions;
        spaces = subst (λ (t : Table). IsNamed t (λ k. true)) (sym (ap (λ (y : AllNames). y.spaces) others)) h.spaces;
        listeners = named_drop names.listeners after.listeners (listens_on gone) (listens_on (gone ++ listener ∷ [])) name listener.0 h.listeners named
            (λ k other. ap not (still k other))
            (ap not (any_push (λ (l : ListenerId). l.0 == listener.0) gone listener
            ∙ or_right (list_any (λ (l : ListenerId). l.0 == listener.0) gone) (listener.0 == listener.0) (eq-eqb listener.0 listener.0 refl))) binds made;
        notifiers = subst (λ (t : Table). IsNamed t (watches watchers)) (sym (ap (λ (y : AllNames). y.notifiers) others)) h.notifiers;
        made = λ k l. h.made k (subst (λ (t : Table). length t.made ≤ k) (ap (λ (y : AllNames). y.regions) others) l);
        left = λ k l. let m : length names.listeners.made ≤ k = subst (λ (t : List Text). length t ≤ k) made l in
            still k (λ e. omega (arith, e, near, m)) ∙ h.left k m;
        fresh = λ k l. h.fresh k (subst (λ (t : Table). length t.made ≤ k) (ap (λ (y : AllNames). y.notifiers) others) l);
      }
    where
      still : (k : ℕ) → k ≢ listener.0 → list_any (λ (l : ListenerId). l.0 == k) (gone ++ listener ∷ []) ≡ list_any (λ (l : ListenerId). l.0 == k) gone
      still k other = any_push (λ (l : ListenerId). l.0 == k) gone listener
          ∙ or_false (list_any (λ (l : ListenerId). l.0 == k) gone) (listener.0 == k) (ne_eqb listener.0 k (λ e. other (sym e)))
